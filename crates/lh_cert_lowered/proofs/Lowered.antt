-- Unit by unit a lowered module has no cause.
use Rattle.std.proofs.Common.{◌≡◌, ℕ, ◌+◌, ◌<◌, Bool, true, false, not, ◌&&◌, ◌||◌, List, [], ◌∷◌, map, Option, Some, None, refl, ap, sym, ◌∙◌, subst}
use Rattle.std.proofs.lemmas.Bool.{and_from}
use Rattle.lh_unit.specs.declared.inst.Item.{Item}
use Rattle.lh_unit.specs.declared.inst.Item.TheVariants as item
use Rattle.lh_unit.specs.declared.inst.UnitKind.{UnitKind}
use Rattle.lh_unit.specs.declared.inst.UnitKind.TheVariants as unit_kind
use Rattle.lh_unit.specs.Activation.{functions}
use Rattle.lh_unit.specs.Arena.{Arena, contents, unit_count, kind_at, unit_text_at, item_text_at}
use Rattle.lh_unit.specs.Contents.{LineText, UnitText, ItemText}
use Rattle.lh_unit.specs.Hierarchy.{lines_of}
use Rattle.lh_unit.specs.Naming.{kind_text}
use Rattle.lh_unit.specs.Reads.{args_repeat}
use Rattle.lh_unit.specs.Within.{Each}
use Rattle.lh_trace_laws.specs.Replacing.{units_defined}
use Rattle.lh_flat.specs.Flat.{FlatText, flat_unit}
use Rattle.lh_flat_laws.specs.Formed.{IsFormed}
use Rattle.lh_flat_laws.proofs.FlatActivations.{flat-is}
use Rattle.lh_flat_laws.proofs.Members.{in-each}
use Rattle.lh_flat_state_laws.specs.Formed.{FlatTextsAreFormed}
use Rattle.lh_term.specs.declared.part.Part.{Part}
use Rattle.lh_term_cover.specs.Bits.{covers, same_bits}
use Rattle.lh_edge.specs.Triggers.{EdgeRowTree}
use Rattle.lh_region_def.specs.Rows.{Drive}
use Rattle.lh_region_def.specs.Typed.{Among}
use Rattle.lh_shape.specs.Reasons.{is_empty, first_holding}
use Rattle.lh_shape.specs.Shapes.{ShapeText, comb, edge, once, left, shape_of_text, shape_by_text}
use Rattle.lh_emit_def.specs.Emitted.{PartStep, source_of}
use Rattle.lh_emit_def.specs.Entities.{emits, comb_emission, edge_emission, once_emission, entity_with, comb as comb_emitted, edge as edge_emitted, once as once_emitted}
use Rattle.lh_emit_def.specs.Laws.{HasApartArgs, IsEntityOf}
use Rattle.lh_emit_def.specs.Reached.{steps_in}
use Rattle.lh_emit_def.specs.Ways.{WaitIsGiven, DriveIsGiven, RowIsGiven}
use Rattle.lh_emit_def.proofs.Plain.{comb-plain, edge-plain, once-plain}
use Rattle.lh_entity_laws.specs.Given.{source_in, CombIsGiven, EdgeIsGiven, OnceIsGiven}
use Rattle.lh_entity_laws.specs.Stands.{IsEmittedFor, IsFlattened}
use Rattle.lh_entity_laws.proofs.Bits.{covers-own}
use Rattle.lh_entity_laws.proofs.Few.{unit-args-few}
use Rattle.lh_lower_def.specs.Lowering.{Outcome, becomes, stays, outcome_in, in_place, lowered_as, lowered_item, lowered}
use Rattle.lh_lower_def.specs.declared.report.Kind.{Kind}
use Rattle.lh_lower_laws.specs.Same.{IsSourceModule}
use Rattle.lh_lower_laws.proofs.Outcomes.{ItemPlaced, items-placed, process-kind, Emitting, emitting}
use Rattle.std.specs.Prelude.{filter}
use Rattle.lh_cert_rows.specs.Rows.{TriggerRow, EntityRow, drives_in, registers_in}
use Rattle.lh_cert_rows.specs.Reading.{EntityText, read}
use Rattle.lh_cert_def.specs.KeptRows.{rebuilt_drive, kept_drives, register_of, has_triggers, kept_registers}
use Rattle.lh_cert_def.specs.RowsAgree.{drives_agree, registers_agree}
use Rattle.lh_cert_def.specs.Causes.{has_these_drives, has_these_registers, entity_causes, entity_cause, CauseOf, kept, replaced, FirstCause, none_left, later}
use Rattle.lh_cert_def.specs.Headers.{same_header, is_replaced}
use Rattle.lh_cert_def.specs.declared.cause.Cause.{Cause}
use Rattle.lh_cert_emitted.specs.Laws.{drive_said, registers_said, SaysDrives, SaysRegisters, CombSaysRows, OnceSaysRows, EdgeSaysRows}
use Rattle.lh_cert_lowered.specs.Laws.{LoweredIsCertified}
use Rattle.lh_cert_lowered.proofs.SameHeaders.{header-same, stays-itself, entity-header, entity-replaces}
use Rattle.lh_cert_lowered.proofs.RowsWithThemselves.{all-hold, drives-themselves, drives-back, registers-back, kept-again, registers-themselves}

-- ---- no cause holds

three-fail : {A : Type 0} (p q r : Bool) (x y z : A) → p ≡ false → q ≡ true → r ≡ true → first_holding ((p, x) ∷ (not q, y) ∷ (not r, z) ∷ []) ≡ None
three-fail p q r x y z a b c = rw (a, b, c) refl

two-fail : {A : Type 0} (p q : Bool) (x y : A) → p ≡ false → q ≡ true → first_holding ((p, x) ∷ (not q, y) ∷ []) ≡ None
two-fail p q x y a b = rw (a, b) refl

-- it probes the bits that are waited on
bits-same : (waited probes : List Part) → Each (λ p. covers waited p ≡ true) probes → Each (λ p. Among p probes) waited → same_bits waited probes ≡ true
bits-same waited probes h k =
    and_from _ _ (all-hold (covers waited) probes h)
    (all-hold (covers probes) waited (covers-own probes waited (λ q a. in-each (λ p. Among p probes) waited q k a)))

none-probed : (ps : List Part) → Each (λ (p : Part). ⊥) ps → is_empty ps ≡ true
none-probed [] h = refl
none-probed (p ∷ ps) h = absurd h.0

drives-agree : (ds : List Drive) (e : EntityText) → e.rows ≡ map drive_said ds → has_these_drives ds e ≡ true
drives-agree ds e h =
    ap (λ (l : List EntityRow). drives_agree (kept_drives (map rebuilt_drive ds)) (kept_drives (drives_in l))) h
    ∙ ap (λ (l : List Drive). drives_agree (kept_drives (map rebuilt_drive ds)) (kept_drives l)) (drives-back ds)
    ∙ drives-themselves (kept_drives (map rebuilt_drive ds))

registers-agree : (rs : List EdgeRowTree) (e : EntityText) → e.rows ≡ registers_said rs → has_these_registers rs e ≡ true
registers-agree rs e h =
    let mine : List (Part × List TriggerRow) = kept_registers (map register_of rs) in
    ap (λ (l : List EntityRow). registers_agree mine (kept_registers (registers_in l))) h
    ∙ ap (λ (l : List (Part × List TriggerRow)). registers_agree mine (kept_registers l)) (registers-back (filter has_triggers (map register_of rs)))
    ∙ ap (λ (l : List (Part × List TriggerRow)). registers_agree mine l) (kept-again (map register_of rs))
    ∙ registers-themselves rs

-- ---- the entity of a process

module _ (flat-formed : FlatTextsAreFormed) (combs : CombSaysRows) (onces : OnceSaysRows) (edges : EdgeSaysRows) (comb-given : CombIsGiven) (once-given : OnceIsGiven) (edge-given : EdgeIsGiven)
    (a : Arena) (u : ℕ) (t : FlatText) (fl : IsFlattened a u t) where
  abbrev x : UnitText
  x = unit_text_at a u

  abbrev steps : Part → List PartStep
  steps = steps_in (flat_unit x.name t)

  same-args : t.args ≡ x.args
  same-args = ap (λ (z : FlatText). z.args) (sym (flat-is (functions (contents a)) x t fl.flat).same)

  formed : IsFormed (flat_unit x.name t)
  formed = flat-formed a u x.name t fl.arena fl.formed fl.named fl.within fl.process fl.flat

  source-is : source_in x.name t ≡ source_of x steps
  source-is = λ j. record { args = same-args j; steps = steps }

  apart : HasApartArgs x
  apart = record { few = unit-args-few a u fl.arena fl.within; once = ap (args_repeat []) (sym same-args) ∙ formed.new_args }

  -- the entity has the process's header, stands in its place, and has no cause
  record NoCause (y : UnitText) (s : ShapeText) : Type 0 where
    entity : IsEntityOf x y
    none : first_holding (entity_causes s (lines_of y.blocks) (read y)) ≡ None

  no-cause : (y : UnitText) (s : ShapeText) → shape_of_text t ≡ s → IsEmittedFor x t s y → NoCause y s
  no-cause y (comb waited ds) shape e =
      let g = comb-given x.name t formed waited ds shape in
      let gw : Each (WaitIsGiven (source_of x steps)) waited = subst (λ s. Each (WaitIsGiven s) waited) source-is g.waits in
      let gd : Each (DriveIsGiven (source_of x steps)) ds = subst (λ s. Each (DriveIsGiven s) ds) source-is g.drives in
      let s = combs (covers waited) x y steps waited ds e apart gw gd (covers-own waited waited (λ q z. z)) g.reads in
      record {
        entity = comb-plain x y steps waited ds e gw gd;
        none = three-fail _ _ _ _ _ _ s.form (bits-same waited (read y).probes s.probes.all_have s.probes.all_there) (drives-agree ds (read y) s.rows);
      }
  no-cause y (once ds) shape e =
      let g = once-given x.name t formed ds shape in
      let gd : Each (DriveIsGiven (source_of x steps)) ds = subst (λ s. Each (DriveIsGiven s) ds) source-is g.0 in
      let s = onces x y steps ds e apart gd g.1 in
      record {
        entity = once-plain x y steps ds e gd;
        none = three-fail _ _ _ _ _ _ s.form (none-probed (read y).probes s.probes.all_have) (drives-agree ds (read y) s.rows);
      }
  no-cause y (edge rs) shape e =
      let g : Each (RowIsGiven (source_of x steps)) rs = subst (λ s. Each (RowIsGiven s) rs) source-is (edge-given x.name t formed rs shape) in
      let s = edges x y steps rs e apart g in
      record {
        entity = edge-plain x y steps rs e g;
        none = two-fail _ _ _ _ s.form (registers-agree rs (read y) s.rows);
      }
  no-cause y (left r) shape e = absurd e

  pub entity-certified : (y : UnitText) → IsEmittedFor x t (shape_of_text t) y → CauseOf (contents a) x y None
  entity-certified y e =
      let n = no-cause y (shape_of_text t) refl e in
      let header = subst (λ (z : UnitText). same_header x z ≡ true) (sym n.entity.is) (entity-header x n.entity.lines) in
      let stands = subst (λ (z : UnitText). is_replaced x z ≡ true) (sym n.entity.is) (entity-replaces x n.entity.lines (ap kind_text fl.process)) in
      replaced None header stands (ap (λ f. first_holding (entity_causes (shape_by_text f) (lines_of y.blocks) (read y))) fl.flat ∙ n.none)

-- ---- the units of a module

stays-certified : (items : List ItemText) (x : UnitText) → CauseOf items x x None
stays-certified items x = kept (header-same x) (stays-itself x) refl

module _ (flat-formed : FlatTextsAreFormed) (combs : CombSaysRows) (onces : OnceSaysRows) (edges : EdgeSaysRows) (comb-given : CombIsGiven) (once-given : OnceIsGiven) (edge-given : EdgeIsGiven)
    (a : Arena) (s : IsSourceModule a) where
  process-certified : (u : ℕ) → u < unit_count a → kind_at a u ≡ Some unit_kind.Proc → (o : Outcome) → outcome_in (contents a) (unit_text_at a u) ≡ o →
      CauseOf (contents a) (unit_text_at a u) (in_place (unit_text_at a u) o) None
  process-certified u w p (stays r) e = stays-certified (contents a) (unit_text_at a u)
  process-certified u w p (becomes k y) e =
      let m : Emitting (contents a) (unit_text_at a u) y = emitting (contents a) (unit_text_at a u) y k e in
      let f : IsFlattened a u m.text = record { arena = s.arena; formed = s.formed; named = s.named; within = w; process = p; flat = m.flat } in
      entity-certified flat-formed combs onces edges comb-given once-given edge-given a u m.text f y m.emitted

  unit-certified : (u : ℕ) → u < unit_count a → (k : UnitKind) → (unit_text_at a u).kind ≡ k → CauseOf (contents a) (unit_text_at a u) (lowered_as k (contents a) (unit_text_at a u)) None
  unit-certified u w unit_kind.Func e = stays-certified (contents a) (unit_text_at a u)
  unit-certified u w unit_kind.Entity e = stays-certified (contents a) (unit_text_at a u)
  unit-certified u w unit_kind.Proc e = process-certified u w (process-kind (kind_at a u) e) (outcome_in (contents a) (unit_text_at a u)) refl

  all-certified : (k : ℕ) (xs : List Item) → Each (ItemPlaced a) xs →
      FirstCause (contents a) k (units_defined (map (item_text_at a) xs)) (units_defined (map (lowered_item (contents a)) (map (item_text_at a) xs))) None
  all-certified k [] h = none_left k
  all-certified k (item.Declare d ∷ xs) h = all-certified k xs h.1
  all-certified k (item.Unit u ∷ xs) h = later k _ _ _ _ None (unit-certified u.0 h.0 (unit_text_at a u.0).kind refl) (all-certified (k + 1) xs h.1)

pub lowered-certified : FlatTextsAreFormed → CombSaysRows → OnceSaysRows → EdgeSaysRows → CombIsGiven → OnceIsGiven → EdgeIsGiven → LoweredIsCertified
lowered-certified flat-formed combs onces edges comb-given once-given edge-given a s =
    all-certified flat-formed combs onces edges comb-given once-given edge-given a s 0 a.items (items-placed a s.arena)
