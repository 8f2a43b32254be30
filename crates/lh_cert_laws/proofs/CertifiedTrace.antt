-- An edited module for which there is no cause has the same trace: unit by unit its units are the module's, or may stand for them.
use Rattle.std.proofs.Common.{◌≡◌, ◌⊎◌, inl, inr, ℕ, ◌<◌, ◌+◌, List, [], ◌∷◌, map, Bool, true, false, not, ◌||◌, Option, None, refl, sym, ◌∙◌, subst}
use Rattle.std.proofs.lemmas.Bool.{or_parts, not-false}
use Rattle.std.proofs.lemmas.Option.{none-some}
use Rattle.lh_types.specs.Types.{bit_count}
use Rattle.lh_types.specs.declared.part.Range.{Range}
use Rattle.lh_unit.specs.declared.inst.Item.{Item}
use Rattle.lh_unit.specs.declared.inst.Item.TheVariants as item
use Rattle.lh_unit.specs.Arena.{Arena, contents, unit_count, unit_text_at, item_text_at}
use Rattle.lh_unit.specs.Contents.{UnitText, ItemText, unit_text, declare_text}
use Rattle.lh_unit.specs.Hierarchy.{lines_of}
use Rattle.lh_unit.specs.Trace.{max_instructions}
use Rattle.lh_unit.specs.WellFormed.{IsWellFormed}
use Rattle.lh_unit.specs.Within.{Each}
use Rattle.lh_unit.specs.World.{Rules, rules_of}
use Rattle.lh_trace_laws.specs.Replacing.{MayStand, AllStand, units_defined, ReplacedSameTrace}
use Rattle.lh_term.specs.declared.part.Part.{Part}
use Rattle.lh_term_cover.specs.Bits.{same_bits}
use Rattle.lh_edge.specs.Triggers.{EdgeRowTree}
use Rattle.lh_flat.specs.Flat.{FlatText, Flattened, refused, flattened, flat_of, flat_unit}
use Rattle.lh_flat_laws.specs.Formed.{IsFormed}
use Rattle.lh_flat_state_laws.specs.Formed.{FlatTextsAreFormed}
use Rattle.lh_region_def.specs.Rows.{Drive}
use Rattle.lh_region_def.specs.Typed.{Among}
use Rattle.lh_flat_laws.proofs.Members.{each-among}
use Rattle.lh_shape.specs.Laws.{MergedDrivesWish, MergedDrivesAreTyped}
use Rattle.lh_shape.specs.Reasons.{is_empty, first_holding}
use Rattle.lh_shape.specs.Shapes.{ShapeText, comb, edge, once, left, shape_of_text, shape_by_text}
use Rattle.lh_entity_laws.specs.AnyEntity.{AreWide, OnceStandsFor, CombStandsFor, EdgeStandsFor}
use Rattle.lh_entity_laws.specs.Given.{source_in, CombIsGiven, EdgeIsGiven, OnceIsGiven}
use Rattle.lh_entity_laws.specs.Stands.{IsFlattened, MaxIsEnough}
use Rattle.lh_lower_laws.specs.Same.{IsSourceModule, IsEnoughFor}
use Rattle.lh_lower_laws.proofs.Outcomes.{ItemPlaced, items-placed, process-kind}
use Rattle.lh_cert_terms.specs.Laws.{RebuiltKeepsMeaning}
use Rattle.lh_cert_agree.specs.Laws.{AgreedTermsMeanSame}
use Rattle.lh_cert_rows.specs.Reading.{EntityText, read}
use Rattle.lh_cert_rows.specs.Passing.{IsPlainEntity, RowsAreTyped, PassesDoRows, PassDoesRows}
use Rattle.lh_cert_def.specs.Causes.{has_these_drives, has_these_registers, entity_causes, entity_cause, CauseOf, other_header, kept, changed, replaced, FirstCause, none_left, only_first, only_second, here, later, IsCertifiedAs}
use Rattle.lh_cert_def.specs.Headers.{same_header, is_replaced, has_hierarchy, has_drive, has_register}
use Rattle.lh_cert_def.specs.declared.cause.Cause.{Cause}
use Rattle.lh_cert_def.specs.declared.cause.Cause.TheVariants as cause
use Rattle.lh_cert_laws.specs.Certified.{CertifiedSameTrace, CertifiedSameTraceWithin}
use Rattle.lh_cert_laws.proofs.Headers.{OneHeader, one-header, Replacing, replacing, entity-like}
use Rattle.lh_cert_laws.proofs.UnitStands.{lines-plain, given-typed, does-once, does-comb, does-edge}

-- ---- no cause

-- where none of them holds, the first does not, and none of the others does
record NoneHolds (b : Bool) (more : List (Bool × Cause)) : Type 0 where
  first : b ≡ false
  others : first_holding more ≡ None

none-holds : (b : Bool) (c : Cause) (more : List (Bool × Cause)) → first_holding ((b, c) ∷ more) ≡ None → NoneHolds b more
none-holds true c more e = absurd (none-some c (sym e))
none-holds false c more e = record { first = refl; others = e }

module _ (items : List ItemText) where
  -- an entity in the place of a process, for which there is no cause
  record Certified (x y : UnitText) : Type 0 where
    header : same_header x y ≡ true
    replaces : is_replaced x y ≡ true
    causes : entity_cause items x y ≡ None

  unit-cause : (x y : UnitText) (o : Option Cause) → CauseOf items x y o → o ≡ None → (x ≡ y) ⊎ Certified x y
  unit-cause x y o (other_header h) e = absurd (none-some cause.Units (sym e))
  unit-cause x y o (kept h r s) e = inl s
  unit-cause x y o (changed h r s) e = absurd (none-some cause.Changed (sym e))
  unit-cause x y o (replaced c h r s) e = inr (record { header = h; replaces = r; causes = s ∙ e })

  -- one by one they are the same, or have no cause
  abbrev AllCertified : List UnitText → List UnitText → Type 0
  AllCertified [] [] = Unit {0}
  AllCertified (x ∷ xs) (y ∷ ys) = ((x ≡ y) ⊎ Certified x y) × AllCertified xs ys
  AllCertified _ _ = ⊥

  all-certified : (k : ℕ) (xs ys : List UnitText) (o : Option (ℕ × Cause)) → FirstCause items k xs ys o → o ≡ None → AllCertified xs ys
  all-certified k xs ys o (none_left n) e = tt
  all-certified k xs ys o (only_first n x more) e = absurd (none-some (n, cause.Units) (sym e))
  all-certified k xs ys o (only_second n y more) e = absurd (none-some (n, cause.Units) (sym e))
  all-certified k xs ys o (here n x y more others c p) e = absurd (none-some (n, c) (sym e))
  all-certified k xs ys o (later n x y more others answer p f) e = (unit-cause x y None p refl, all-certified (n + 1) more others answer f e)

-- ---- units of a module are among its items

units-have : (P : ItemText → Type 0) (xs : List ItemText) → Each P xs → Each (λ y. P (unit_text y)) (units_defined xs)
units-have P [] h = tt
units-have P (unit_text y ∷ xs) h = (h.0, units-have P xs h.1)
units-have P (declare_text d ∷ xs) h = units-have P xs h.1

-- ---- an entity may stand for its process

-- the laws on which it stands
pub record Laws : Type 0 where
  pub rebuilds : RebuiltKeepsMeaning
  pub agrees : AgreedTermsMeanSame
  pub merges : MergedDrivesWish
  pub merged : MergedDrivesAreTyped
  pub typed : RowsAreTyped
  pub passes : PassesDoRows
  pub formed : FlatTextsAreFormed
  pub combs : CombIsGiven
  pub edges : EdgeIsGiven
  pub onces : OnceIsGiven
  pub comb_stands : CombStandsFor
  pub edge_stands : EdgeStandsFor
  pub once_stands : OnceStandsFor

module _ (laws : Laws) (a : Arena) (bound : ℕ) (source : IsSourceModule a) (enough : IsEnoughFor bound a) (edited : List ItemText) (well : IsWellFormed edited) where
  abbrev r : Rules
  r = rules_of bound (contents a)

  module _ (u : ℕ) (within : u < unit_count a) (y : UnitText) (there : Among (unit_text y) edited) (header : OneHeader (unit_text_at a u) y) (replaces : Replacing (unit_text_at a u) y) where
    abbrev x : UnitText
    x = unit_text_at a u

    abbrev e : EntityText
    e = read y

    plain-entity : has_hierarchy (lines_of y.blocks) ≡ false → IsPlainEntity edited y
    plain-entity h = record { formed = well; among = there; entity = replaces.entity; plain = (lines-plain (lines_of y.blocks) h).0 }

    -- ranges as wide as the arguments of the process are as wide as those of the entity
    passes : (h : has_hierarchy (lines_of y.blocks) ≡ false) (args : List Range) → AreWide args x → PassDoesRows y args
    passes h args w = laws.passes edited y (plain-entity h) args (subst (λ zs. map (λ (z : Range). z.len) args ≡ map (λ z. bit_count z.ty) zs) header.args w)

    module _ (t : FlatText) (flat : flat_of (contents a) x ≡ flattened t) where
      is-flat : IsFlattened a u t
      is-flat = record { arena = source.arena; formed = source.formed; named = source.named; within = within; process = process-kind _ replaces.process; flat = flat }

      formed : IsFormed (flat_unit x.name t)
      formed = laws.formed a u x.name t source.arena source.formed source.named within is-flat.process flat

      comb-case : (waited : List Part) (ds : List Drive) → shape_of_text t ≡ comb waited ds → first_holding (entity_causes (comb waited ds) (lines_of y.blocks) e) ≡ None → MayStand r x y
      comb-case waited ds q c =
          let f = none-holds (has_hierarchy (lines_of y.blocks) || has_register (lines_of y.blocks)) cause.Form ((not (same_bits waited e.probes), cause.Sensed) ∷ (not (has_these_drives ds e), cause.Drives) ∷ []) c in
          let s = none-holds (not (same_bits waited e.probes)) cause.Sensed ((not (has_these_drives ds e), cause.Drives) ∷ []) f.others in
          let d = none-holds (not (has_these_drives ds e)) cause.Drives [] s.others in
          let form = or_parts (has_hierarchy (lines_of y.blocks)) (has_register (lines_of y.blocks)) f.first in
          let typed = given-typed (source_in x.name t) ds (laws.combs x.name t formed waited ds q).drives in
          laws.comb_stands a u t y bound waited ds is-flat q (entity-like x y header replaces form.0)
          (λ args w. does-comb laws.agrees laws.rebuilds y (laws.typed edited y (plain-entity form.0)) laws.merges laws.merged form.1 ds typed (not-false (has_these_drives ds e) d.first) waited (not-false (same_bits waited e.probes) s.first) args (passes form.0 args w))
          (enough u t is-flat)

      once-case : (ds : List Drive) → shape_of_text t ≡ once ds → first_holding (entity_causes (once ds) (lines_of y.blocks) e) ≡ None → MayStand r x y
      once-case ds q c =
          let f = none-holds (has_hierarchy (lines_of y.blocks) || has_register (lines_of y.blocks)) cause.Form ((not (is_empty e.probes), cause.Sensed) ∷ (not (has_these_drives ds e), cause.Drives) ∷ []) c in
          let s = none-holds (not (is_empty e.probes)) cause.Sensed ((not (has_these_drives ds e), cause.Drives) ∷ []) f.others in
          let d = none-holds (not (has_these_drives ds e)) cause.Drives [] s.others in
          let form = or_parts (has_hierarchy (lines_of y.blocks)) (has_register (lines_of y.blocks)) f.first in
          let typed = given-typed (source_in x.name t) ds (laws.onces x.name t formed ds q).0 in
          laws.once_stands a u t y bound ds is-flat q (entity-like x y header replaces form.0)
          (λ args w. does-once laws.agrees laws.rebuilds y (laws.typed edited y (plain-entity form.0)) laws.merges laws.merged form.1 ds typed (not-false (has_these_drives ds e) d.first) (not-false (is_empty e.probes) s.first) args (passes form.0 args w))
          (enough u t is-flat)

      edge-case : (rs : List EdgeRowTree) → shape_of_text t ≡ edge rs → first_holding (entity_causes (edge rs) (lines_of y.blocks) e) ≡ None → MayStand r x y
      edge-case rs q c =
          let f = none-holds (has_hierarchy (lines_of y.blocks) || has_drive (lines_of y.blocks)) cause.Form ((not (has_these_registers rs e), cause.Registers) ∷ []) c in
          let d = none-holds (not (has_these_registers rs e)) cause.Registers [] f.others in
          let form = or_parts (has_hierarchy (lines_of y.blocks)) (has_drive (lines_of y.blocks)) f.first in
          laws.edge_stands a u t y bound rs is-flat q (entity-like x y header replaces form.0)
          (λ args w. does-edge laws.agrees laws.rebuilds y (laws.typed edited y (plain-entity form.0)) (source_in x.name t) form.1 rs (laws.edges x.name t formed rs q) (not-false (has_these_registers rs e) d.first) args (passes form.0 args w))
          (enough u t is-flat)

      shape-case : (s : ShapeText) → shape_of_text t ≡ s → first_holding (entity_causes s (lines_of y.blocks) e) ≡ None → MayStand r x y
      shape-case (comb waited ds) q c = comb-case waited ds q c
      shape-case (once ds) q c = once-case ds q c
      shape-case (edge rs) q c = edge-case rs q c
      shape-case (left z) q c = absurd (none-some cause.HasReason (sym c))

    entity-stands : entity_cause (contents a) x y ≡ None → MayStand r x y
    entity-stands = by (flat_of (contents a) x) refl
      where
        by : (f : Flattened) → flat_of (contents a) x ≡ f → first_holding (entity_causes (shape_by_text f) (lines_of y.blocks) e) ≡ None → MayStand r x y
        by (refused z) q c = absurd (none-some cause.HasReason (sym c))
        by (flattened t) q c = shape-case t q (shape_of_text t) refl c

  unit-stands : (u : ℕ) → u < unit_count a → (y : UnitText) → Among (unit_text y) edited → (unit_text_at a u ≡ y) ⊎ Certified (contents a) (unit_text_at a u) y → (unit_text_at a u ≡ y) ⊎ MayStand r (unit_text_at a u) y
  unit-stands u w y i (inl e) = inl e
  unit-stands u w y i (inr c) = inr (entity-stands u w y i (one-header (unit_text_at a u) y c.header) (replacing (unit_text_at a u) y c.replaces) c.causes)

  all-stand : (xs : List Item) → Each (ItemPlaced a) xs → (ys : List UnitText) → Each (λ y. Among (unit_text y) edited) ys → AllCertified (contents a) (units_defined (map (item_text_at a) xs)) ys
      → AllStand r (units_defined (map (item_text_at a) xs)) ys
  all-stand [] h [] i c = tt
  all-stand [] h (y ∷ ys) i c = c
  all-stand (item.Declare d ∷ xs) h ys i c = all-stand xs h.1 ys i c
  all-stand (item.Unit u ∷ xs) h [] i c = c
  all-stand (item.Unit u ∷ xs) h (y ∷ ys) i c = (unit-stands u.0 h.0 y i.0 c.0, all-stand xs h.1 ys i.1 c.1)

  pub edited-stands : IsCertifiedAs (contents a) edited None → AllStand r (units_defined (contents a)) (units_defined edited)
  edited-stands c =
      all-stand a.items (items-placed a source.arena) (units_defined edited)
      (units-have (λ z. Among z edited) edited (each-among (λ z. Among z edited) edited (λ z i. i)))
      (all-certified (contents a) 0 (units_defined (contents a)) (units_defined edited) None c refl)

module _ (laws : Laws) (same : ReplacedSameTrace) where
  pub same-trace-within : CertifiedSameTraceWithin
  same-trace-within a edited bound source well c enough = same bound (contents a) edited (edited-stands laws a bound source enough edited well c)

  pub same-trace : MaxIsEnough → CertifiedSameTrace
  same-trace most a edited source well c = same-trace-within a edited max_instructions source well c (λ u t f. most a u t f)
