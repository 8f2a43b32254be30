-- The entity that is emitted for a shape does what its rows say, so it may stand for the process.
use Rattle.std.proofs.Common.{◌≡◌, ℕ, List, [], ◌∷◌, true, refl, ap, sym, ◌∙◌, subst, append-nil}
use Rattle.std.specs.List.{flat_map}
use Rattle.lh_types.specs.Wish.{no_wish}
use Rattle.lh_types.specs.declared.part.Range.{Range}
use Rattle.lh_unit.specs.declared.inst.UnitKind.TheVariants as kind
use Rattle.lh_unit.specs.Activation.{functions}
use Rattle.lh_unit.specs.Arena.{Arena, contents, unit_text_at}
use Rattle.lh_unit.specs.Contents.{InstText, const_text, pure_text, var_text, ld_text, st_text, sig_text, prb_text, drv_text, reg_text, child_text, call_text, phi_text, br_text, branch_text, wait_text, halt_text, ret_text, LineText, UnitText}
use Rattle.lh_unit.specs.Hierarchy.{lines_of}
use Rattle.lh_unit.specs.Naming.{kind_text}
use Rattle.lh_unit.specs.Pass.{probes}
use Rattle.lh_unit.specs.Reads.{args_repeat}
use Rattle.lh_unit.specs.Within.{Each}
use Rattle.lh_unit.specs.World.{bit_numbers, rules_of}
use Rattle.lh_trace_laws.specs.Replacing.{MayStand}
use Rattle.lh_trace_laws.proofs.BitSets.{SameSet, IsWithin}
use Rattle.lh_trace_laws.proofs.MayStandLaw.{is_plain, AllPlain, same_hierarchy}
use Rattle.lh_flat_laws.specs.Formed.{IsFormed}
use Rattle.lh_flat_laws.proofs.FlatActivations.{flat-is}
use Rattle.lh_flat_state_laws.specs.Formed.{FlatTextsAreFormed}
use Rattle.lh_flat.specs.Flat.{FlatText, flat_unit}
use Rattle.lh_term.specs.declared.part.Part.{Part}
use Rattle.lh_term_cover.specs.Bits.{covers}
use Rattle.lh_edge.specs.Triggers.{EdgeRowTree}
use Rattle.lh_region_def.specs.Rows.{Drive}
use Rattle.lh_region_def.specs.Means.{reads}
use Rattle.lh_region_def.specs.Typed.{Among}
use Rattle.lh_flat_laws.proofs.Members.{each-among}
use Rattle.lh_shape.specs.Shapes.{ShapeText, comb, edge, once, left, shape_of_text}
use Rattle.lh_emit_def.specs.Emitted.{PartStep, source_of}
use Rattle.lh_emit_def.specs.Entities.{emits, comb_emission, edge_emission, once_emission}
use Rattle.lh_emit_def.specs.Reached.{steps_in}
use Rattle.lh_emit_def.specs.Registers.{triggers_seen}
use Rattle.lh_emit_def.specs.Ways.{WaitIsGiven, DriveIsGiven, RowIsGiven}
use Rattle.lh_emit_def.specs.Laws.{ArgumentsFit, PartPasses, SensesParts, IsEmittedKind, IsEntityOf, row_parts}
use Rattle.lh_emit_def.proofs.Whole.{comb-passes, comb-senses, edge-passes, edge-senses, once-passes, once-senses}
use Rattle.lh_emit_def.proofs.Plain.{comb-plain, edge-plain, once-plain}
use Rattle.lh_entity_laws.specs.Given.{source_in, CombIsGiven, EdgeIsGiven, OnceIsGiven}
use Rattle.lh_entity_laws.specs.Stands.{IsEmittedFor, IsFlattened, IsEnough, OnceStands, CombStands, EdgeStands, LoweredStands}
use Rattle.lh_entity_laws.specs.AnyEntity.{IsEntityLike, AreWide, OnceStandsFor, CombStandsFor, EdgeStandsFor}
use Rattle.lh_entity_laws.proofs.Bits.{bits_of, both-within, covered-bits, there-bits, covers-own}
use Rattle.lh_entity_laws.proofs.Few.{unit-args-few}
use Rattle.lh_entity_laws.proofs.RegisterTriggers.{registers-alike, registers-rest}

-- ---- what an entity has

emitted-plain : (i : InstText) → IsEmittedKind i → is_plain i ≡ true
emitted-plain (const_text d) h = refl
emitted-plain (pure_text o args) h = refl
emitted-plain (var_text a) h = absurd h
emitted-plain (ld_text a) h = absurd h
emitted-plain (st_text to value) h = absurd h
emitted-plain (sig_text a) h = absurd h
emitted-plain (prb_text s) h = refl
emitted-plain (drv_text to value after cond) h = refl
emitted-plain (reg_text to triggers) h = refl
emitted-plain (child_text v inputs outputs) h = absurd h
emitted-plain (call_text f ty args) h = absurd h
emitted-plain (phi_text ty edges) h = absurd h
emitted-plain (br_text to) h = absurd h
emitted-plain (branch_text c first second) h = absurd h
emitted-plain (wait_text to after signals) h = absurd h
emitted-plain halt_text h = absurd h
emitted-plain (ret_text o) h = absurd h

all-plain : (ls : List LineText) → Each (λ (l : LineText). IsEmittedKind l.inst) ls → AllPlain ls
all-plain [] h = tt
all-plain (l ∷ ls) h = (emitted-plain l.inst h.0, all-plain ls h.1)

entity-plain : (x y : UnitText) → IsEntityOf x y → AllPlain (lines_of y.blocks)
entity-plain x y e = subst (λ (z : UnitText). AllPlain (lines_of z.blocks)) (sym e.is) (subst AllPlain (sym (append-nil e.lines)) (all-plain e.lines e.emitted))

-- ---- what it does

module _ (flat-formed : FlatTextsAreFormed) (a : Arena) (u : ℕ) (t : FlatText) (fl : IsFlattened a u t) where
  abbrev x : UnitText
  x = unit_text_at a u

  abbrev f : UnitText
  f = flat_unit x.name t

  abbrev steps : Part → List PartStep
  steps = steps_in f

  is-process : x.kind ≡ kind.Proc
  is-process = ap kind_text fl.process

  same-args : t.args ≡ x.args
  same-args = ap (λ (z : FlatText). z.args) (sym (flat-is (functions (contents a)) x t fl.flat).same)

  formed : IsFormed f
  formed = flat-formed a u x.name t fl.arena fl.formed fl.named fl.within fl.process fl.flat

  source-is : source_in x.name t ≡ source_of x steps
  source-is = λ j. record { args = same-args j; steps = steps }

  args-fit : (args : List Range) → AreWide args x → ArgumentsFit x args
  args-fit args w = record { few = unit-args-few a u fl.arena fl.within; once = ap (args_repeat []) (sym same-args) ∙ formed.new_args; wide = w }

  entity-like : (y : UnitText) → IsEntityOf x y → IsEntityLike x y
  entity-like y e = record {
    entity = ap (λ (z : UnitText). z.kind) e.is;
    name = sym (ap (λ (z : UnitText). z.name) e.is);
    hierarchy = same_hierarchy x y is-process (ap (λ (z : UnitText). z.kind) e.is) (sym (ap (λ (z : UnitText). z.args) e.is)) (entity-plain x y e);
  }

  pub once-stands : OnceStandsFor → OnceIsGiven → (y : UnitText) (bound : ℕ) (ds : List Drive) → shape_of_text t ≡ once ds → once_emission x steps ds ≡ emits y → IsEnough bound t
      → MayStand (rules_of bound (contents a)) x y
  once-stands stands given y bound ds shape e enough =
      let g = given x.name t formed ds shape in
      let gd : Each (DriveIsGiven (source_of x steps)) ds = subst (λ s. Each (DriveIsGiven s) ds) source-is g.0 in
      stands a u t y bound ds fl shape (entity-like y (once-plain x y steps ds e gd)) (λ args w. record {
        wish = λ now at. once-passes x y steps ds args e (args-fit args w) gd now _ at;
        senses = once-senses x y steps ds args e (args-fit args w) gd g.1;
      }) enough

  -- an entity that senses the waited parts, and else only what they cover, senses their bits
  bits-sensed : (y : UnitText) (args : List Range) (waited : List Part) → SensesParts (PartPasses (covers waited)) waited y args → SameSet (bits_of args waited) (bit_numbers (probes y args []))
  bits-sensed y args waited s =
      subst (SameSet (bits_of args waited)) (sym (ap bit_numbers s.are_sensed))
      (both-within (bits_of args waited) (bits_of args s.parts) (there-bits args s.parts waited s.all_there) (covered-bits args waited s.parts s.all_have))

  pub comb-stands : CombStandsFor → CombIsGiven → (y : UnitText) (bound : ℕ) (waited : List Part) (ds : List Drive) → shape_of_text t ≡ comb waited ds → comb_emission x steps waited ds ≡ emits y
      → IsEnough bound t → MayStand (rules_of bound (contents a)) x y
  comb-stands stands given y bound waited ds shape e enough =
      let g = given x.name t formed waited ds shape in
      let gw : Each (WaitIsGiven (source_of x steps)) waited = subst (λ s. Each (WaitIsGiven s) waited) source-is g.waits in
      let gd : Each (DriveIsGiven (source_of x steps)) ds = subst (λ s. Each (DriveIsGiven s) ds) source-is g.drives in
      stands a u t y bound waited ds fl shape (entity-like y (comb-plain x y steps waited ds e gw gd)) (λ args w. record {
        wish = comb-passes x y steps waited ds args e (args-fit args w) gw gd;
        senses = bits-sensed y args waited (comb-senses (covers waited) x y steps waited ds args e (args-fit args w) gw gd (covers-own waited waited (λ q z. z)) g.reads);
      }) enough

  pub edge-stands : EdgeStandsFor → EdgeIsGiven → (y : UnitText) (bound : ℕ) (rs : List EdgeRowTree) → shape_of_text t ≡ edge rs → edge_emission x steps rs ≡ emits y → IsEnough bound t
      → MayStand (rules_of bound (contents a)) x y
  edge-stands stands given y bound rs shape e enough =
      let g : Each (RowIsGiven (source_of x steps)) rs = subst (λ s. Each (RowIsGiven s) rs) source-is (given x.name t formed rs shape) in
      let ps : List Part = flat_map row_parts rs in
      stands a u t y bound rs fl shape (entity-like y (edge-plain x y steps rs e g)) (λ args w.
      let passes = edge-passes x y steps rs args e (args-fit args w) g in
      let senses = edge-senses x y steps rs args e (args-fit args w) g in
      record {
        parts = ps;
        among = each-among (λ p. Among p ps) ps (λ p i. i);
        senses = subst (IsWithin (bits_of args ps)) (sym (ap bit_numbers senses.are_sensed)) (there-bits args senses.parts ps senses.all_there);
        seen_at = λ now. triggers_seen (reads args now) rs;
        seen = passes.seen;
        first = passes.first;
        later = passes.later;
        rests = λ past now at h. registers-rest (reads args past) (reads args now) args at no_wish rs h;
        alike = λ before past now at h. registers-alike (reads args before) (reads args past) (reads args now) args at no_wish rs h;
      }) enough

-- ---- each shape

pub each-once : FlatTextsAreFormed → OnceStandsFor → OnceIsGiven → OnceStands
each-once formed stands given a u t y bound ds fl shape e enough = once-stands formed a u t fl stands given y bound ds shape e enough

pub each-comb : FlatTextsAreFormed → CombStandsFor → CombIsGiven → CombStands
each-comb formed stands given a u t y bound waited ds fl shape e enough = comb-stands formed a u t fl stands given y bound waited ds shape e enough

pub each-edge : FlatTextsAreFormed → EdgeStandsFor → EdgeIsGiven → EdgeStands
each-edge formed stands given a u t y bound rs fl shape e enough = edge-stands formed a u t fl stands given y bound rs shape e enough

-- where each shape's entity may stand for its process, the entity of any shape may
pub all-stand : OnceStands → CombStands → EdgeStands → LoweredStands
all-stand onces combs edges a u t y bound fl e enough = by (shape_of_text t) refl e
  where
    by : (s : ShapeText) → shape_of_text t ≡ s → IsEmittedFor (unit_text_at a u) t s y → MayStand (rules_of bound (contents a)) (unit_text_at a u) y
    by (comb waited ds) q h = combs a u t y bound waited ds fl q h enough
    by (edge rs) q h = edges a u t y bound rs fl q h enough
    by (once ds) q h = onces a u t y bound ds fl q h enough
    by (left r) q h = absurd h
