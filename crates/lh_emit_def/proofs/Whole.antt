-- The laws of the entities of the three shapes.
use Rattle.std.proofs.Common.{◌≡◌, ◌≤◌, Bool, true, false, nat_lt, List, [], ◌∷◌, ◌++◌, length, map, Option, Some, None, refl, ap, sym, ◌∙◌, subst, arith, append-nil}
use Rattle.std.specs.List.{list_all, flat_map}
use Rattle.std.proofs.lemmas.Bool.Decides.{nat_tests}
use Rattle.lh_time.specs.declared.Instant.{Instant}
use Rattle.lh_types.specs.Types.{IsData}
use Rattle.lh_types.specs.Wish.{Wish, no_wish}
use Rattle.lh_types.specs.declared.part.Range.{Range}
use Rattle.lh_unit.specs.Contents.{LineText, UnitText}
use Rattle.lh_unit.specs.Held.{part_held, nothing_held, with_args}
use Rattle.lh_unit.specs.Hierarchy.{lines_of, parts_of, signal_names, static_from, probed_parts}
use Rattle.lh_unit.specs.Pass.{Passed, pass_from, pass, probes}
use Rattle.lh_unit.specs.Within.{Each}
use Rattle.lh_term.specs.Tree.{Tree, TreeRow, constant, past_of, now_of, operation, choice_of, no_trees, more_trees}
use Rattle.lh_term.specs.declared.part.Part.{Part}
use Rattle.lh_emit_def.specs.Given.{Drive, TriggerTree, EdgeRowTree}
use Rattle.lh_emit_def.specs.Emitted.{PartStep, source_of, Emitted, nothing_emitted}
use Rattle.lh_emit_def.specs.Entities.{Emission, too_large, emits, entity_with, within_limits, comb, edge, once, emit_probes, drive_fits, row_fits}
use Rattle.lh_emit_def.specs.Reads.{range_in, reads}
use Rattle.lh_emit_def.specs.Registers.{triggers_seen}
use Rattle.lh_term.specs.Leaves.{AllParts, AllPartsIn}
use Rattle.lh_emit_def.specs.Ways.{IsReached, WaitIsGiven, DriveIsGiven, TriggerIsGiven, RowIsGiven}
use Rattle.lh_region_def.specs.Rows.{DriveReads}
use Rattle.lh_region_def.specs.Typed.{Among}
use Rattle.lh_emit_def.specs.Laws.{PartPasses, CombPasses, CombSenses, OncePasses, OnceSenses, EdgePasses, row_parts, EdgeSenses}
use Rattle.lh_emit_def.proofs.Induction.{IsNamed, Kept}
use Rattle.lh_emit_def.proofs.PassState.{Frame, HasFewArgs, after, Begins, Inv}
use Rattle.lh_emit_def.proofs.FirstHeld.{ArgsFit, begins}
use Rattle.lh_emit_def.proofs.DrivePasses.{drives-emitted, probes-emitted}
use Rattle.lh_emit_def.proofs.RegisterPasses.{TriggerNamed}
use Rattle.lh_emit_def.proofs.RememberedTriggers.{rows-emitted, rows-first, rows-seen}
use Rattle.lh_emit_def.proofs.SensedParts.{static, Probes}
use Rattle.lh_emit_def.proofs.KeptByRows.{DriveHas, TriggerHas, RowHas, drives-kept, probes-kept, rows-kept}
use Rattle.lh_emit_def.proofs.Sensed.{rows-probe, none-probed}
use Rattle.lh_eval_laws.proofs.FindingElab.{parts-of-none}

-- ---- an entity within the limits

pub record IsWithin (u y : UnitText) (fits : Bool) (ls : List LineText) : Type 0 where
  pub all_fit : fits ≡ true
  pub short : length ls ≤ 65536
  pub is : y ≡ entity_with u ls

-- the entity that was emitted
abbrev entity_in : UnitText → Emission → UnitText
entity_in u too_large = u
entity_in u (emits y) = y

pub within : (u y : UnitText) (fits : Bool) (ls : List LineText) → within_limits u fits ls ≡ emits y → IsWithin u y fits ls
within u y fits ls h = at fits (nat_lt 65536 (length ls)) refl refl
  where
    at : (a b : Bool) → fits ≡ a → nat_lt 65536 (length ls) ≡ b → IsWithin u y fits ls
    at false b p q = let z : too_large ≡ emits y = (rw p at h) in absurd cc
    at true true p q = let z : too_large ≡ emits y = (rw (p, q) at h) in absurd cc
    at true false p q =
        let z : emits (entity_with u ls) ≡ emits y = (rw (p, q) at h) in
        record { all_fit = p; short = grind (arith, nat_tests); is = sym (ap (entity_in u) z) }

module _ (f : Frame) (fit : ArgsFit f) (y : UnitText) (fits : Bool) (e : Emitted) (w : IsWithin f.unit y fits e.lines) where
  abbrev pub begun : Begins f fit.few y e.lines
  begun = record { more = []; is = w.is ∙ ap (entity_with f.unit) (sym (append-nil e.lines)); short = subst (λ (l : List LineText). length l ≤ 65536) (sym (append-nil e.lines)) w.short }

  all-lines : lines_of y.blocks ≡ e.lines
  all-lines = ap (λ (z : UnitText). lines_of z.blocks) w.is ∙ append-nil e.lines

  first-held : parts_of y f.args [] ≡ with_args nothing_held f.unit.args (map part_held f.args)
  first-held = parts-of-none _ (signal_names (lines_of y.blocks)) ∙ ap (λ (z : UnitText). with_args nothing_held z.args (map part_held f.args)) w.is

  -- a pass is what comes after all its instructions
  pub pass-is : pass y f.args [] f.now f.memory f.at ≡ after f fit.few y e.lines
  unfolding pass
  pass-is = λ i. pass_from y f.now f.memory f.at (record { held = first-held i; seen = []; wish = no_wish }) (all-lines i)

  pub wish-is : (x : Wish) (ts : List Bool) → Inv f fit.few x ts e → (pass y f.args [] f.now f.memory f.at).wish ≡ x
  wish-is x ts i = ap (λ (p : Passed). p.wish) pass-is ∙ (i y begun).wish

  pub seen-is : (x : Wish) (ts : List Bool) → Inv f fit.few x ts e → (pass y f.args [] f.now f.memory f.at).seen ≡ ts
  seen-is x ts i = ap (λ (p : Passed). p.seen) pass-is ∙ (i y begun).seen

  -- what it senses is what was probed
  pub sensed-is : (Good : Part → Type 0) (p : Probes f fit.few Good e) → probes y f.args [] ≡ map (range_in f.args) p.parts
  unfolding probes
  sensed-is Good p =
      (λ i. probed_parts (static_from y (first-held i) (all-lines i)) (all-lines i))
      ∙ p.probed (static f fit.few y e.lines) (λ q n h. ((p.senses y begun).parts q n h).held)

-- an instance of an entity in a frame
abbrev frame : UnitText → (Part → List PartStep) → List Range → List Bool → Option (List Bool) → Instant → Frame
frame u steps args now memory t = record { unit = u; steps = steps; args = args; now = now; memory = memory; at = t }

-- ---- drives

pub comb-passes : CombPasses
comb-passes u y steps waited ds args h fit ws gs now memory t =
    let f = frame u steps args now memory t in
    let w = within u y (list_all drive_fits ds) (comb (source_of u steps) waited ds).lines h in
    let p = probes-emitted f fit.few waited ws no_wish [] (nothing_emitted (source_of u steps)) (begins f fit) in
    wish-is f fit y (list_all drive_fits ds) (comb (source_of u steps) waited ds) w _ []
    (drives-emitted f fit.few ds gs w.all_fit no_wish [] (emit_probes (source_of u steps) waited (nothing_emitted (source_of u steps))) p)

pub once-passes : OncePasses
once-passes u y steps ds args h fit gs now memory t =
    let f = frame u steps args now memory t in
    let w = within u y (list_all drive_fits ds) (once (source_of u steps) ds).lines h in
    wish-is f fit y (list_all drive_fits ds) (once (source_of u steps) ds) w _ [] (drives-emitted f fit.few ds gs w.all_fit no_wish [] (nothing_emitted (source_of u steps)) (begins f fit))

-- ---- registers

pub edge-passes : EdgePasses
edge-passes u y steps rs args h fit gs =
    let s = source_of u steps in
    let w = within u y (list_all row_fits rs) (edge s rs).lines h in
    record {
      first = λ now t.
          let f = frame u steps args now None t in
          wish-is f fit y (list_all row_fits rs) (edge s rs) w no_wish _ (rows-first f fit.few refl rs gs w.all_fit no_wish [] (nothing_emitted s) (begins f fit));
      seen = λ now memory t.
          let f = frame u steps args now memory t in
          let r = rows-seen f fit.few rs gs w.all_fit no_wish [] (nothing_emitted s) (begins f fit) in
          seen-is f fit y (list_all row_fits rs) (edge s rs) w r.0 _ r.1;
      later = λ past now t.
          let m = triggers_seen (reads args past) rs in
          let f = frame u steps args now (Some m) t in
          wish-is f fit y (list_all row_fits rs) (edge s rs) w _ _ (rows-emitted f fit.few (reads args past) m [] rs refl refl gs w.all_fit no_wish [] refl (nothing_emitted s) (begins f fit));
    }

-- ---- what is sensed

mutual
  all-both : (P Q : Part → Type 0) (t : Tree) → AllParts P t → AllParts Q t → AllParts (λ p. P p × Q p) t
  all-both P Q (constant v) h k = tt
  all-both P Q (past_of p) h k = (h, k)
  all-both P Q (now_of p) h k = (h, k)
  all-both P Q (operation op ts) h k = all-both-in P Q ts h k
  all-both P Q (choice_of c f t) h k = (all-both P Q c h.0 k.0, all-both P Q f h.1 k.1, all-both P Q t h.2 k.2)

  all-both-in : (P Q : Part → Type 0) (ts : TreeRow) → AllPartsIn P ts → AllPartsIn Q ts → AllPartsIn (λ p. P p × Q p) ts
  all-both-in P Q no_trees h k = tt
  all-both-in P Q (more_trees t ts) h k = (all-both P Q t h.0 k.0, all-both-in P Q ts h.1 k.1)

pub each-second : (P Q : Part → Type 0) (ps : List Part) → Each (λ p. P p × Q p) ps → Each Q ps
each-second P Q [] h = tt
each-second P Q (p ∷ ps) h = (h.0.1, each-second P Q ps h.1)

module _ (u : UnitText) (steps : Part → List PartStep) (P : Part → Type 0) where
  -- a part that is reached, and has the property
  abbrev pub Good : Part → Type 0
  Good p = IsReached (source_of u steps) p × P p

  pub good-drives : (ds : List Drive) → Each (DriveIsGiven (source_of u steps)) ds → Each (DriveReads P) ds → Each (DriveHas Good (source_of u steps)) ds
  good-drives [] g r = tt
  good-drives (d ∷ ds) g r = (
    record {
      cond = record { typed = g.0.cond.typed; parts = all-both _ P d.cond g.0.cond.parts r.0.cond };
      value = record { typed = g.0.value.typed; parts = all-both _ P d.value g.0.value.parts r.0.value };
      delay = record { typed = g.0.delay.typed; parts = all-both _ P d.delay g.0.delay.parts r.0.delay };
      is_condition = g.0.is_condition;
      is_value = g.0.is_value;
      is_delay = g.0.is_delay;
      carries = g.0.carries;
      part = g.0.part;
    },
    good-drives ds g.1 r.1,
  )

  pub good-waited : (ps : List Part) → Each (WaitIsGiven (source_of u steps)) ps → Each P ps → Each (λ (p : Part). IsData p.ty × Good p) ps
  good-waited [] w r = tt
  good-waited (p ∷ ps) w r = ((w.0.is_data, (w.0.part, r.0)), good-waited ps w.1 r.1)

-- what has a name is probed
all-probed : (f : Frame) (few : HasFewArgs f.unit) (Q : Part → Type 0) (e x : Emitted) (ps : List Part) → Kept e x → Each (λ p. IsNamed e (now_of p)) ps → (p : Probes f few Q x)
    → Each (λ q. Among q p.parts) ps
all-probed f few Q e x [] k h p = tt
all-probed f few Q e x (q ∷ ps) k h p = (p.all q (k.terms (now_of q) h.0), all-probed f few Q e x ps k h.1 p)

pub comb-senses : CombSenses
comb-senses test u y steps waited ds args h fit ws gs ps rs =
    let f = frame u steps args [] None (record { fs = 0; delta = 0; eps = 0 }) in
    let s = source_of u steps in
    let P = PartPasses test in
    let G = Good u steps P in
    let w = within u y (list_all drive_fits ds) (comb s waited ds).lines h in
    let k = rows-probe f fit.few G in
    let a = probes-kept s G (λ p r. r.0) (Probes f fit.few G) k waited (good-waited u steps P waited ws ps) (nothing_emitted s) (none-probed f fit G) in
    let x = emit_probes s waited (nothing_emitted s) in
    let b = drives-kept s G (λ p r. r.0) (Probes f fit.few G) k ds (good-drives u steps P ds gs rs) w.all_fit x a.inv in
    record {
      parts = b.inv.parts;
      all_have = each-second _ P b.inv.parts b.inv.good;
      all_there = all-probed f fit.few G x (comb s waited ds) waited b.kept a.named b.inv;
      are_sensed = sensed-is f fit y (list_all drive_fits ds) (comb s waited ds) w G b.inv;
    }

-- no part is left
none-left : (P : Part → Type 0) (ps : List Part) → Each (λ p. P p × ⊥) ps → ps ≡ []
none-left P [] h = refl
none-left P (p ∷ ps) h = absurd h.0.1

pub once-senses : OnceSenses
once-senses u y steps ds args h fit gs rs =
    let f = frame u steps args [] None (record { fs = 0; delta = 0; eps = 0 }) in
    let s = source_of u steps in
    let G = Good u steps (λ p. ⊥) in
    let w = within u y (list_all drive_fits ds) (once s ds).lines h in
    let b = drives-kept s G (λ p r. r.0) (Probes f fit.few G) (rows-probe f fit.few G) ds (good-drives u steps (λ p. ⊥) ds gs rs) w.all_fit (nothing_emitted s) (none-probed f fit G) in
    sensed-is f fit y (list_all drive_fits ds) (once s ds) w G b.inv ∙ ap (map (range_in args)) (none-left _ b.inv.parts b.inv.good)

-- the rows of registers
pub given-triggers : (u : UnitText) (steps : Part → List PartStep) (gs : List TriggerTree) → Each (TriggerIsGiven (source_of u steps)) gs → Each (TriggerHas (IsReached (source_of u steps))) gs
given-triggers u steps [] h = tt
given-triggers u steps (g ∷ gs) h =
    (record { is_data = h.0.is_data; is_bit = h.0.is_bit; is_gate = h.0.is_gate; part = h.0.part; gate = record { typed = h.0.gate.typed; parts = h.0.gate.parts } }, given-triggers u steps gs h.1)

pub given-rows : (u : UnitText) (steps : Part → List PartStep) (rs : List EdgeRowTree) → Each (RowIsGiven (source_of u steps)) rs → Each (RowHas (IsReached (source_of u steps)) (source_of u steps)) rs
given-rows u steps [] h = tt
given-rows u steps (r ∷ rs) h = (
  record {
    value = record { typed = h.0.value.typed; parts = h.0.value.parts };
    delay = record { typed = h.0.delay.typed; parts = h.0.delay.parts };
    is_value = h.0.is_value;
    is_delay = h.0.is_delay;
    carries = h.0.carries;
    part = h.0.part;
    triggers = given-triggers u steps r.triggers h.0.triggers;
  },
  given-rows u steps rs h.1,
)

each-append : (P : Part → Type 0) (ps qs : List Part) → Each P ps → Each P qs → Each P (ps ++ qs)
each-append P [] qs h k = k
each-append P (p ∷ ps) qs h k = (h.0, each-append P ps qs h.1 k)

each-unit : (ps : List Part) → Each (λ p. Unit {0}) ps
each-unit [] = tt
each-unit (p ∷ ps) = (tt, each-unit ps)

trigger-parts : (e : Emitted) (P : Part → Type 0) (gs : List TriggerTree) → ((p : Part) → IsNamed e (now_of p) → P p) → Each (TriggerNamed e) gs → Each P (map (λ (g : TriggerTree). g.part) gs)
trigger-parts e P [] a h = tt
trigger-parts e P (g ∷ gs) a h = (a g.part h.0.now, trigger-parts e P gs a h.1)

rows-parts : (e : Emitted) (P : Part → Type 0) (rs : List EdgeRowTree) → ((p : Part) → IsNamed e (now_of p) → P p) → Each (λ (r : EdgeRowTree). Each (TriggerNamed e) r.triggers) rs
    → Each P (flat_map row_parts rs)
rows-parts e P [] a h = tt
rows-parts e P (r ∷ rs) a h = each-append P (row_parts r) (flat_map row_parts rs) (trigger-parts e P r.triggers a h.0) (rows-parts e P rs a h.1)

pub edge-senses : EdgeSenses
edge-senses u y steps rs args h fit gs =
    let f = frame u steps args [] None (record { fs = 0; delta = 0; eps = 0 }) in
    let s = source_of u steps in
    let G = IsReached s in
    let w = within u y (list_all row_fits rs) (edge s rs).lines h in
    let b = rows-kept s G (λ p r. r) (Probes f fit.few G) (rows-probe f fit.few G) rs (given-rows u steps rs gs) w.all_fit (nothing_emitted s) (none-probed f fit G) in
    record {
      parts = b.inv.parts;
      all_have = each-unit b.inv.parts;
      all_there = rows-parts (edge s rs) (λ q. Among q b.inv.parts) rs b.inv.all b.named;
      are_sensed = sensed-is f fit y (list_all row_fits rs) (edge s rs) w G b.inv;
    }
