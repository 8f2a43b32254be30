-- The instructions of an entity: constants, operations, parts, probes, drives and registers alone.
use Rattle.std.proofs.Common.{◌≡◌, ℕ, true, List, [], ◌∷◌, ◌++◌}
use Rattle.std.specs.List.{list_all}
use Rattle.lh_types.specs.Types.{signal_type, IsData}
use Rattle.lh_unit.specs.Contents.{pure_text, LineText, UnitText}
use Rattle.lh_unit.specs.Within.{Each}
use Rattle.lh_term.specs.declared.part.Part.{Part}
use Rattle.lh_emit_def.specs.Given.{Drive, EdgeRowTree}
use Rattle.lh_emit_def.specs.Emitted.{PartStep, Source, source_of, Emitted, gives, nothing_emitted, next_name, takes_steps, typed}
use Rattle.lh_emit_def.specs.Entities.{comb, edge, once, emit_probes, drive_fits, row_fits}
use Rattle.lh_emit_def.specs.Ways.{IsReached, WaitIsGiven, DriveIsGiven, RowIsGiven}
use Rattle.lh_emit_def.specs.Laws.{IsEmittedKind, CombIsEntity, EdgeIsEntity, OnceIsEntity}
use Rattle.lh_emit_def.proofs.KeptByRows.{DriveHas, KeepsRows, drives-kept, probes-kept, rows-kept}
use Rattle.lh_emit_def.proofs.Whole.{within, given-rows}

abbrev pub AllEmitted : List LineText → Type 0
AllEmitted ls = Each (λ (l : LineText). IsEmittedKind l.inst) ls

one-more : (ls : List LineText) (l : LineText) → AllEmitted ls → IsEmittedKind l.inst → AllEmitted (ls ++ l ∷ [])
one-more [] l h k = (k, tt)
one-more (x ∷ ls) l h k = (h.0, one-more ls l h.1 k)

abbrev Plain : Emitted → Type 0
Plain e = AllEmitted e.lines

steps-plain : (s : Source) (p : Part) (n : List ℕ) (more : List PartStep) (e : Emitted) → Plain e → Plain (takes_steps s p n more e)
steps-plain s p n [] e h = h
steps-plain s p n (st ∷ more) e h = steps-plain s p (next_name s e) more (gives s (pure_text st.op (typed n (signal_type st.to.ty) ∷ [])) e) (one-more e.lines _ h tt)

plain-kept : (s : Source) → KeepsRows s (IsReached s) Plain
plain-kept s = record {
  keeps = record {
    scalar = λ v e c t h. one-more e.lines _ h tt;
    computed = λ o ts t e c r d n h. one-more e.lines _ h tt;
    probed = λ p t e c g n h. one-more e.lines _ h tt;
    stepped = λ p e a r h. steps-plain s p _ (s.steps p) e h;
  };
  drive = λ d e h n i. one-more e.lines _ i tt;
  register = λ r e h n i. one-more e.lines _ i tt;
}

module _ (u : UnitText) (steps : Part → List PartStep) where
  pub given-drives : (ds : List Drive) → Each (DriveIsGiven (source_of u steps)) ds → Each (DriveHas (IsReached (source_of u steps)) (source_of u steps)) ds
  given-drives [] g = tt
  given-drives (d ∷ ds) g = (
    record {
      cond = record { typed = g.0.cond.typed; parts = g.0.cond.parts };
      value = record { typed = g.0.value.typed; parts = g.0.value.parts };
      delay = record { typed = g.0.delay.typed; parts = g.0.delay.parts };
      is_condition = g.0.is_condition;
      is_value = g.0.is_value;
      is_delay = g.0.is_delay;
      carries = g.0.carries;
      part = g.0.part;
    },
    given-drives ds g.1,
  )

  pub given-waits : (ps : List Part) → Each (WaitIsGiven (source_of u steps)) ps → Each (λ (p : Part). IsData p.ty × IsReached (source_of u steps) p) ps
  given-waits [] w = tt
  given-waits (p ∷ ps) w = ((w.0.is_data, w.0.part), given-waits ps w.1)

  pub comb-lines : (waited : List Part) (ds : List Drive) → list_all drive_fits ds ≡ true → Each (WaitIsGiven (source_of u steps)) waited → Each (DriveIsGiven (source_of u steps)) ds →
      AllEmitted (comb (source_of u steps) waited ds).lines
  comb-lines waited ds w ws gs =
      let s = source_of u steps in
      let a = probes-kept s (IsReached s) (λ p r. r) Plain (plain-kept s) waited (given-waits waited ws) (nothing_emitted s) tt in
      (drives-kept s (IsReached s) (λ p r. r) Plain (plain-kept s) ds (given-drives ds gs) w (emit_probes s waited (nothing_emitted s)) a.inv).inv

  pub once-lines : (ds : List Drive) → list_all drive_fits ds ≡ true → Each (DriveIsGiven (source_of u steps)) ds → AllEmitted (once (source_of u steps) ds).lines
  once-lines ds w gs =
      let s = source_of u steps in
      (drives-kept s (IsReached s) (λ p r. r) Plain (plain-kept s) ds (given-drives ds gs) w (nothing_emitted s) tt).inv

  pub edge-lines : (rs : List EdgeRowTree) → list_all row_fits rs ≡ true → Each (RowIsGiven (source_of u steps)) rs → AllEmitted (edge (source_of u steps) rs).lines
  edge-lines rs w gs =
      let s = source_of u steps in
      (rows-kept s (IsReached s) (λ p r. r) Plain (plain-kept s) rs (given-rows u steps rs gs) w (nothing_emitted s) tt).inv

pub comb-plain : CombIsEntity
comb-plain u y steps waited ds h ws gs =
    let w = within u y (list_all drive_fits ds) (comb (source_of u steps) waited ds).lines h in
    record { lines = (comb (source_of u steps) waited ds).lines; is = w.is; emitted = comb-lines u steps waited ds w.all_fit ws gs; short = w.short }

pub once-plain : OnceIsEntity
once-plain u y steps ds h gs =
    let w = within u y (list_all drive_fits ds) (once (source_of u steps) ds).lines h in
    record { lines = (once (source_of u steps) ds).lines; is = w.is; emitted = once-lines u steps ds w.all_fit gs; short = w.short }

pub edge-plain : EdgeIsEntity
edge-plain u y steps rs h gs =
    let w = within u y (list_all row_fits rs) (edge (source_of u steps) rs).lines h in
    record { lines = (edge (source_of u steps) rs).lines; is = w.is; emitted = edge-lines u steps rs w.all_fit gs; short = w.short }
