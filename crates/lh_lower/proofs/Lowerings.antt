-- A module that is lowered item by item.
use Rattle.std.proofs.Common.{◌≡◌, ◌≢◌, ◌<◌, ℕ, zero, suc, Bool, true, false, ◌||◌, List, [], ◌∷◌, ◌++◌, length, map, Some, IsSome, slice_get, refl, ap, ◌∙◌, arith}
use Rattle.std.specs.List.{flat_map}
use Rattle.std.proofs.lemmas.List.{map-append, append-nil}
use Rattle.std.proofs.lemmas.Option.{slice_get-get_or}
use Rattle.std.proofs.lemmas.Grind.{flat_map-append}
use Rattle.lh_unit_names.specs.declared.name.UnitName.{UnitName}
use Rattle.lh_unit.specs.declared.inst.UnitId.{UnitId}
use Rattle.lh_unit.specs.declared.inst.Item.{Item}
use Rattle.lh_unit.specs.declared.inst.Item.TheVariants as item
use Rattle.lh_unit.specs.declared.inst.UnitKind.{UnitKind}
use Rattle.lh_unit.specs.declared.inst.UnitKind.TheVariants as unit_kind
use Rattle.lh_unit_names.specs.UnitNames.{same_unit_name}
use Rattle.lh_unit.specs.Contents.{ItemText, UnitText, unit_text, defines_unit}
use Rattle.lh_unit.specs.Arena.{Arena, IsArena, contents, item_text_at, unit_text_at, unit_count, unit_name_at, no_unit_name, kind_at}
use Rattle.lh_unit.specs.Within.{Each}
use Rattle.lh_unit.proofs.Arenas.{same_unit_name-is}
use Rattle.lh_lower_def.specs.Lowering.{Outcome, outcome_in, in_place, verdict_of, lowered_as, lowered_item, row_as, item_row}
use Rattle.lh_lower_def.specs.Report.{RowText, row_text}
use Rattle.lh_lower_def.specs.declared.report.ReportRow.{ReportRow}
use Rattle.lh_lower_def.proofs.KeptItems.{unit-name}
use Rattle.lh_lower.specs.Lowers.{ItemIsBehind}

-- ---- what stands behind

-- an item before another
before-get : (seen rest : List Item) (x : Item) (i : ℕ) (y : Item) → slice_get seen i ≡ Some y → slice_get (seen ++ x ∷ rest) i ≡ Some y
before-get [] rest x i y e = absurd cc
before-get (z ∷ seen) rest x zero y e = e
before-get (z ∷ seen) rest x (suc i) y e = before-get seen rest x i y e

before-within : (seen : List Item) (i : ℕ) (y : Item) → slice_get seen i ≡ Some y → i < length seen
before-within [] i y e = absurd cc
before-within (z ∷ seen) zero y e = omega arith
before-within (z ∷ seen) (suc i) y e = omega (arith, before-within seen i y e)

at-get : (seen rest : List Item) (x : Item) → slice_get (seen ++ x ∷ rest) (length seen) ≡ Some x
at-get [] rest x = refl
at-get (z ∷ seen) rest x = at-get seen rest x

-- ---- no unit so far has the name of the next one

-- two units have two names
names-apart : (a : Arena) (o : IsArena a) (v u : UnitId) → v.0 < unit_count a → u.0 < unit_count a → v ≢ u → same_unit_name (unit_name_at a v.0) (unit_name_at a u.0) ≡ false
names-apart a o v u l w n = by (same_unit_name (unit_name_at a v.0) (unit_name_at a u.0)) refl
  where
    named : (k : ℕ) → k < unit_count a → slice_get a.names k ≡ Some (unit_name_at a k)
    named k h = slice_get-get_or a.names k no_unit_name (omega (arith, h, o.long))

    by : (b : Bool) → same_unit_name (unit_name_at a v.0) (unit_name_at a u.0) ≡ b → b ≡ false
    by false e = refl
    by true e =
        let f : unit_name_at a v.0 ≡ unit_name_at a u.0 = same_unit_name-is (unit_name_at a v.0) (unit_name_at a u.0) e in
        let q : v.0 ≡ u.0 = o.names_distinct v.0 u.0 (unit_name_at a u.0) (named v.0 l ∙ ap Some f) (named u.0 w) in
        absurd (n (λ i. record { 0 = q i }))

module _ (a : Arena) (o : IsArena a) (u : UnitId) (seen : List Item) (b : ItemIsBehind a seen (item.Unit u)) where
  here : slice_get a.items (length seen) ≡ Some (item.Unit u)
  here = ap (λ (xs : List Item). slice_get xs (length seen)) b.split ∙ at-get seen b.rest (item.Unit u)

  pub within : u.0 < unit_count a
  within = o.items_within (length seen) u here

  pub begun : IsSome (kind_at a u.0)
  begun = o.items_begun (length seen) u here

  there : (i : ℕ) (v : UnitId) → slice_get seen i ≡ Some (item.Unit v) → slice_get a.items i ≡ Some (item.Unit v)
  there i v e = ap (λ (xs : List Item). slice_get xs i) b.split ∙ before-get seen b.rest (item.Unit u) i (item.Unit v) e

  other-id : (i : ℕ) (v : UnitId) → slice_get seen i ≡ Some (item.Unit v) → v ≢ u
  other-id i v e q =
      let same : i ≡ length seen = o.items_distinct i (length seen) u (there i v e ∙ ap (λ (w : UnitId). Some (item.Unit w)) q) here in
      omega (arith, same, before-within seen i (item.Unit v) e)

  other-name : (i : ℕ) (v : UnitId) → slice_get seen i ≡ Some (item.Unit v) → same_unit_name (unit_name_at a v.0) (unit_name_at a u.0) ≡ false
  other-name i v e = names-apart a o v u (o.items_within i v (there i v e)) within (other-id i v e)

  fresh-in : (is : List Item) → ((i : ℕ) (v : UnitId) → slice_get is i ≡ Some (item.Unit v) → same_unit_name (unit_name_at a v.0) (unit_name_at a u.0) ≡ false)
      → defines_unit (unit_name_at a u.0) (map (lowered_item (contents a)) (map (item_text_at a) is)) ≡ false
  fresh-in [] h = refl
  fresh-in (item.Unit v ∷ is) h =
      let x : UnitText = unit_text_at a v.0 in
      let n : same_unit_name (lowered_as x.kind (contents a) x).name (unit_name_at a u.0) ≡ false = ap (λ (m : UnitName). same_unit_name m (unit_name_at a u.0)) (unit-name (contents a) x x.kind)
      ∙ h 0 v refl in
      ap (λ (t : Bool). t || defines_unit (unit_name_at a u.0) (map (lowered_item (contents a)) (map (item_text_at a) is))) n ∙ fresh-in is (λ i w p. h (suc i) w p)
  fresh-in (item.Declare d ∷ is) h = fresh-in is (λ i w p. h (suc i) w p)

  pub fresh : defines_unit (unit_name_at a u.0) (map (lowered_item (contents a)) (map (item_text_at a) seen)) ≡ false
  fresh = fresh-in seen other-name

-- ---- one more item

module _ (a : Arena) (seen : List Item) (i : Item) where
  pub lowered-more : map (lowered_item (contents a)) (map (item_text_at a) (seen ++ i ∷ [])) ≡ map (lowered_item (contents a)) (map (item_text_at a) seen)
      ++ lowered_item (contents a) (item_text_at a i) ∷ []
  lowered-more = ap (map (lowered_item (contents a))) (map-append (item_text_at a) seen (i ∷ [])) ∙ map-append (lowered_item (contents a)) (map (item_text_at a) seen) (item_text_at a i ∷ [])

  pub rows-more : flat_map (item_row (contents a)) (map (item_text_at a) (seen ++ i ∷ [])) ≡ flat_map (item_row (contents a)) (map (item_text_at a) seen) ++ item_row (contents a) (item_text_at a i)
  rows-more =
      ap (flat_map (item_row (contents a))) (map-append (item_text_at a) seen (i ∷ [])) ∙ flat_map-append (item_row (contents a)) (map (item_text_at a) seen) (item_text_at a i ∷ [])
      ∙ ap (λ (rs : List RowText). flat_map (item_row (contents a)) (map (item_text_at a) seen) ++ rs) (append-nil (item_row (contents a) (item_text_at a i)))

-- what a unit is lowered as, by its kind and by what becomes of it
pub as-kept : (items : List ItemText) (u : UnitText) (k : UnitKind) → u.kind ≡ k → (k ≡ unit_kind.Proc → ⊥) → (lowered_item items (unit_text u) ≡ unit_text u) × (item_row items (unit_text u) ≡ [])
as-kept items u unit_kind.Proc e n = absurd (n refl)
as-kept items u unit_kind.Func e n = (ap (λ (k : UnitKind). unit_text (lowered_as k items u)) e, ap (λ (k : UnitKind). row_as k items u) e)
as-kept items u unit_kind.Entity e n = (ap (λ (k : UnitKind). unit_text (lowered_as k items u)) e, ap (λ (k : UnitKind). row_as k items u) e)

pub as-process : (items : List ItemText) (u : UnitText) (o : Outcome) → u.kind ≡ unit_kind.Proc → outcome_in items u ≡ o → (lowered_item items (unit_text u) ≡ unit_text (in_place u o))
    × (item_row items (unit_text u) ≡ record { unit = u.name; verdict = verdict_of o } ∷ [])
as-process items u o e f = (
  ap (λ (k : UnitKind). unit_text (lowered_as k items u)) e ∙ ap (λ (x : Outcome). unit_text (in_place u x)) f,
  ap (λ (k : UnitKind). row_as k items u) e ∙ ap (λ (x : Outcome). record { unit = u.name; verdict = verdict_of x } ∷ []) f,
)

-- a row more
pub rows-push : (a : Arena) (rows : List ReportRow) (r : ReportRow) (xs : List RowText) (x : RowText) → map (row_text a) rows ≡ xs → row_text a r ≡ x → map (row_text a) (rows ++ r ∷ []) ≡ xs ++ x ∷ []
rows-push a rows r xs x e f = map-append (row_text a) rows (r ∷ []) ∙ (λ j. e j ++ f j ∷ [])

pub within-push : (n : ℕ) (rows : List ReportRow) (r : ReportRow) → Each (λ (x : ReportRow). x.unit.0 < n) rows → r.unit.0 < n → Each (λ (x : ReportRow). x.unit.0 < n) (rows ++ r ∷ [])
within-push n [] r h l = (l, tt)
within-push n (x ∷ rows) r h l = (h.0, within-push n rows r h.1 l)
