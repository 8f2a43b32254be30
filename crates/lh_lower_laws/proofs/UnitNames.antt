-- The units of the lowered module are alike to those who name them, and none of its instructions has a fault where none of the module's and of the entities' has.
use Rattle.std.proofs.Common.{◌≡◌, List, [], ◌∷◌, map, Bool, true, false, Option, Some, None, refl, ap, sym, ◌∙◌, subst}
use Rattle.std.specs.Bool.{if◌then◌else◌}
use Rattle.lh_types.specs.Types.{TypeTree}
use Rattle.lh_unit_names.specs.declared.name.UnitName.{UnitName}
use Rattle.lh_unit.specs.declared.inst.UnitKind.{UnitKind}
use Rattle.lh_unit.specs.declared.inst.UnitKind.TheVariants as unit_kind
use Rattle.lh_unit.specs.Contents.{ArgText, UnitText, ItemText, unit_text, declare_text}
use Rattle.lh_unit.specs.Lexemes.{Lexeme}
use Rattle.lh_unit.specs.Named.{unit_named, is_function}
use Rattle.lh_unit.specs.Places.{InstPlaceText, places}
use Rattle.lh_unit.specs.Pieces.{lexemes_in}
use Rattle.lh_unit.specs.Spells.{header_item, SpellsHeader}
use Rattle.lh_unit_names.specs.UnitNames.{same_unit_name}
use Rattle.lh_unit.specs.WellFormed.{Site, sites, NoneHasFault}
use Rattle.lh_unit.specs.Within.{Each}
use Rattle.lh_text_laws.specs.ItemLines.{item_line}
use Rattle.lh_text_laws.specs.Printable.{IsPrintable, IsPrintableItem}
use Rattle.lh_emit_def.specs.Laws.{HasNoFault}
use Rattle.lh_lower_def.specs.Lowering.{Outcome, becomes, stays, outcome_in, in_place, lowered_as, lowered_item, lowered}
use Rattle.lh_lower_def.specs.Kept.{NamesStay}
use Rattle.lh_lower_def.specs.declared.report.Kind.{Kind}
use Rattle.lh_lower_def.proofs.Entities.{entity-for}
use Rattle.lh_lower_laws.proofs.Faults.{NamedAlike, FoundAlike, NamesAlike, none-same, none-left, none-right, none-both}

-- ---- a process has no result type

header-no-result : (k : UnitKind) (n : UnitName) (args : List ArgText) (r : Option TypeTree) (ts : List Lexeme) → k ≡ unit_kind.Proc → SpellsHeader k n args r ts → r ≡ None
header-no-result unit_kind.Func n args r ts e s = absurd cc
header-no-result unit_kind.Entity n args r ts e s = absurd cc
header-no-result unit_kind.Proc n args None ts e s = refl
header-no-result unit_kind.Proc n args (Some r) ts e s = absurd s

pub no-result : (u : UnitText) → u.kind ≡ unit_kind.Proc → IsPrintable u → u.result ≡ None
no-result u e p = header-no-result u.kind u.name u.args u.result (lexemes_in (item_line (header_item u.kind u.name u.args u.result))) e p.headed.1

-- ---- what stands in the place of a unit

-- it has the name of the unit, and to those who name it is alike
pub record IsLike (u v : UnitText) : Type 0 where
  pub name : v.name ≡ u.name
  pub alike : NamedAlike u v

like-itself : (u : UnitText) → IsLike u u
like-itself u = record { name = refl; alike = record { function = refl; args = refl; result = refl } }

module _ (items : List ItemText) where
  process-like : (u : UnitText) → u.kind ≡ unit_kind.Proc → u.result ≡ None → (o : Outcome) → outcome_in items u ≡ o → IsLike u (in_place u o)
  process-like u p r (stays x) e = like-itself u
  process-like u p r (becomes k y) e =
      let w = entity-for items u k y e in
      record { name = w.name; alike = record { function = ap is_function p ∙ sym (ap is_function w.kind); args = sym w.args; result = r ∙ sym w.result } }

  pub unit-like : (u : UnitText) (k : UnitKind) → u.kind ≡ k → IsPrintable u → IsLike u (lowered_as k items u)
  unit-like u unit_kind.Func e p = like-itself u
  unit-like u unit_kind.Entity e p = like-itself u
  unit-like u unit_kind.Proc e p = process-like u e (no-result u e p) (outcome_in items u) refl

  found-if : (b : Bool) (u v : UnitText) (o p : Option UnitText) → NamedAlike u v → FoundAlike o p → FoundAlike (if b then Some u else o) (if b then Some v else p)
  found-if true u v o p h k = h
  found-if false u v o p h k = k

  found-from : (x : UnitName) (more : List ItemText) → Each IsPrintableItem more → FoundAlike (unit_named x more) (unit_named x (map (lowered_item items) more))
  found-from x [] h = tt
  found-from x (declare_text d ∷ more) h = found-from x more h.1
  found-from x (unit_text u ∷ more) h =
      let v : UnitText = lowered_as u.kind items u in
      let l : IsLike u v = unit-like u u.kind refl h.0 in
      let rest : Option UnitText = unit_named x (map (lowered_item items) more) in
      subst (λ (m : UnitName). FoundAlike (unit_named x (unit_text u ∷ more)) (if same_unit_name m x then Some v else rest)) (sym l.name)
      (found-if (same_unit_name u.name x) u v (unit_named x more) rest l.alike (found-from x more h.1))

pub names-alike : NamesStay → (items : List ItemText) → Each IsPrintableItem items → NamesAlike items (lowered items)
names-alike stay items h = record { defined = λ x. sym (stay x items); found = λ x. found-from items x items h }

-- ---- no instruction has a fault

-- what a process becomes has no fault in whatever module it stands
abbrev pub BecomesRight : List ItemText → ItemText → Type 0
BecomesRight items (unit_text u) = (k : Kind) (y : UnitText) → u.kind ≡ unit_kind.Proc → outcome_in items u ≡ becomes k y → HasNoFault y
BecomesRight items (declare_text d) = Unit {0}

abbrev sites_of : UnitText → List Site
sites_of u = map (λ (p : InstPlaceText). record { unit = u; place = p }) (places u)

module _ (items : List ItemText) (alike : NamesAlike items (lowered items)) where
  process-right : (u : UnitText) → u.kind ≡ unit_kind.Proc → BecomesRight items (unit_text u) → NoneHasFault items (sites_of u) → (o : Outcome) → outcome_in items u ≡ o
      → NoneHasFault (lowered items) (sites_of (in_place u o))
  process-right u p h z (stays x) e = none-same items (lowered items) alike (sites_of u) z
  process-right u p h z (becomes k y) e = h k y p e (lowered items)

  unit-right : (u : UnitText) (k : UnitKind) → u.kind ≡ k → BecomesRight items (unit_text u) → NoneHasFault items (sites_of u) → NoneHasFault (lowered items) (sites_of (lowered_as k items u))
  unit-right u unit_kind.Func e h z = none-same items (lowered items) alike (sites_of u) z
  unit-right u unit_kind.Entity e h z = none-same items (lowered items) alike (sites_of u) z
  unit-right u unit_kind.Proc e h z = process-right u e h z (outcome_in items u) refl

  all-right : (more : List ItemText) → Each (BecomesRight items) more → NoneHasFault items (sites more) → NoneHasFault (lowered items) (sites (map (lowered_item items) more))
  all-right [] h z = tt
  all-right (declare_text d ∷ more) h z = all-right more h.1 z
  all-right (unit_text u ∷ more) h z =
      none-both (lowered items) (sites_of (lowered_as u.kind items u)) (sites (map (lowered_item items) more))
      (unit-right u u.kind refl h.0 (none-left items (sites_of u) (sites more) z)) (all-right more h.1 (none-right items (sites_of u) (sites more) z))

pub none-in-lowered : NamesStay → (items : List ItemText) → Each IsPrintableItem items → Each (BecomesRight items) items → NoneHasFault items (sites items)
    → NoneHasFault (lowered items) (sites (lowered items))
none-in-lowered stay items p h z = all-right items (names-alike stay items p) items h z
