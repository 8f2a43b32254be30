-- Lowering keeps a module item by item.
use Rattle.std.proofs.Common.{◌≡◌, Bool, true, false, ◌||◌, if◌then◌else◌, List, [], ◌∷◌, ◌++◌, map, refl, ap, sym, ◌∙◌}
use Rattle.std.specs.List.{flat_map}
use Rattle.lh_unit_names.specs.declared.name.UnitName.{UnitName}
use Rattle.lh_unit.specs.declared.inst.UnitKind.{UnitKind}
use Rattle.lh_unit.specs.declared.inst.UnitKind.TheVariants as unit_kind
use Rattle.lh_unit_names.specs.UnitNames.{same_unit_name}
use Rattle.lh_unit.specs.Named.{is_function}
use Rattle.lh_unit.specs.Contents.{UnitText, ItemText, unit_text, declare_text, defines_unit}
use Rattle.lh_unit.specs.Activation.{functions}
use Rattle.lh_flat.specs.Flat.{flat_in}
use Rattle.lh_lower_def.specs.Report.{RowText}
use Rattle.lh_lower_def.specs.Lowering.{Outcome, becomes, stays, outcome_of_text, outcome_in, in_place, verdict_of, lowered_as, lowered_item, lowered, row_as, item_row}
use Rattle.lh_lower_def.specs.Kept.{InPlaceOf, declaration, no_process, process_left, process_lowered, KeptFrom, nothing, one_more, LoweredIsKept, KeptIsLowered, FunctionsStay, NamesStay, LoweredAgain, process_name_as, process_names, RowsAreProcesses}
use Rattle.lh_unit.specs.WellFormed.{in_process}
use Rattle.lh_lower_def.proofs.Entities.{entity-for}

-- ---- each item

module _ (items : List ItemText) where
  -- what stands in the place of a process, by what becomes of it
  process-kept : (u : UnitText) (o : Outcome) → in_process u.kind ≡ true → outcome_in items u ≡ o →
      InPlaceOf items (unit_text u) (unit_text (in_place u o)) (record { unit = u.name; verdict = verdict_of o } ∷ [])
  process-kept u (becomes k y) p e = process_lowered u y p k e (entity-for items u k y e)
  process-kept u (stays r) p e = process_left u p r e

  unit-kept : (u : UnitText) (k : UnitKind) → u.kind ≡ k → InPlaceOf items (unit_text u) (unit_text (lowered_as k items u)) (row_as k items u)
  unit-kept u unit_kind.Proc e = process-kept u (outcome_in items u) (rw e refl) refl
  unit-kept u unit_kind.Func e = no_process u (rw e refl)
  unit-kept u unit_kind.Entity e = no_process u (rw e refl)

  item-kept : (i : ItemText) → InPlaceOf items i (lowered_item items i) (item_row items i)
  item-kept (unit_text u) = unit-kept u u.kind refl
  item-kept (declare_text d) = declaration d

  all-kept : (more : List ItemText) → KeptFrom items more (map (lowered_item items) more) (flat_map (item_row items) more)
  all-kept [] = nothing
  all-kept (i ∷ more) =
      one_more i (lowered_item items i) (item_row items i) more (map (lowered_item items) more) (flat_map (item_row items) more) (flat_map (item_row items) (i ∷ more))
      (item-kept i) (all-kept more) refl

pub lowered-is-kept : LoweredIsKept
lowered-is-kept items = all-kept items items

-- ---- and nothing else

abbrev row_for : UnitText → Outcome → List RowText
row_for u o = record { unit = u.name; verdict = verdict_of o } ∷ []

module _ (items : List ItemText) where
  unit-by : (u : UnitText) (k : UnitKind) (o : Outcome) → u.kind ≡ k → in_process k ≡ true → outcome_in items u ≡ o →
      (in_place u o ≡ lowered_as u.kind items u) × ((record { unit = u.name; verdict = verdict_of o } ∷ []) ≡ row_as u.kind items u)
  unit-by u unit_kind.Proc o e p f = (
    sym (ap (in_place u) f) ∙ sym (ap (λ k. lowered_as k items u) e),
    sym (ap (row_for u) f) ∙ sym (ap (λ k. row_as k items u) e),
  )
  unit-by u unit_kind.Func o e p f = absurd cc
  unit-by u unit_kind.Entity o e p f = absurd cc

  no-process : (u : UnitText) (k : UnitKind) → u.kind ≡ k → in_process k ≡ false → (u ≡ lowered_as u.kind items u) × ([] ≡ row_as u.kind items u)
  no-process u unit_kind.Proc e p = absurd cc
  no-process u unit_kind.Func e p = (rw e refl, rw e refl)
  no-process u unit_kind.Entity e p = (rw e refl, rw e refl)

  item-is : (i j : ItemText) (rows : List RowText) → InPlaceOf items i j rows → (j ≡ lowered_item items i) × (rows ≡ item_row items i)
  item-is i j rows (declaration d) = (refl, refl)
  item-is i j rows (no_process u p) = let x = no-process u u.kind refl p in (ap unit_text x.0, x.1)
  item-is i j rows (process_left u p r e) = let x = unit-by u u.kind (stays r) refl p e in (ap unit_text x.0, x.1)
  item-is i j rows (process_lowered u y p k e w) = let x = unit-by u u.kind (becomes k y) refl p e in (ap unit_text x.0, x.1)

  all-are : (more to : List ItemText) (rows : List RowText) → KeptFrom items more to rows → (to ≡ map (lowered_item items) more) × (rows ≡ flat_map (item_row items) more)
  all-are more to rows nothing = (refl, refl)
  all-are more to rows (one_more i j own others-of others-to others all h k e) =
      let x : (j ≡ lowered_item items i) × (own ≡ item_row items i) = item-is i j own h in
      let y : (others-to ≡ map (lowered_item items) others-of) × (others ≡ flat_map (item_row items) others-of) = all-are others-of others-to others k in
      (cc (x.0, y.0), cc (e, x.1, y.1))

pub kept-is-lowered : KeptIsLowered
kept-is-lowered items to rows h = all-are items items to rows h

-- ---- functions, names and rows

module _ (items : List ItemText) where
  -- what stands in the place of a process is no function, and has its name
  in-place-other : (u : UnitText) (o : Outcome) → u.kind ≡ unit_kind.Proc → outcome_in items u ≡ o → is_function (in_place u o).kind ≡ false
  in-place-other u (becomes k y) p e = rw ((entity-for items u k y e).kind) refl
  in-place-other u (stays r) p e = rw p refl

  in-place-name : (u : UnitText) (o : Outcome) → outcome_in items u ≡ o → (in_place u o).name ≡ u.name
  in-place-name u (becomes k y) e = (entity-for items u k y e).name
  in-place-name u (stays r) e = refl

  unit-functions : (u : UnitText) (k : UnitKind) → u.kind ≡ k → (more : List ItemText) → functions (unit_text (lowered_as k items u) ∷ more) ≡ functions (unit_text u ∷ more)
  unit-functions u unit_kind.Proc e more =
      let v = in_place u (outcome_in items u) in
      let x : functions (unit_text v ∷ more) ≡ functions more = rw (in-place-other u (outcome_in items u) e refl) refl in
      let y : functions (unit_text u ∷ more) ≡ functions more = rw e refl in
      x ∙ sym y
  unit-functions u unit_kind.Func e more = refl
  unit-functions u unit_kind.Entity e more = refl

  functions-from : (more : List ItemText) → functions (map (lowered_item items) more) ≡ functions more
  functions-from [] = refl
  functions-from (declare_text d ∷ more) = functions-from more
  functions-from (unit_text u ∷ more) =
      unit-functions u u.kind refl (map (lowered_item items) more)
      ∙ ap (λ (fs : List UnitText). if is_function u.kind then u ∷ fs else fs) (functions-from more)

  pub unit-name : (u : UnitText) (k : UnitKind) → (lowered_as k items u).name ≡ u.name
  unit-name u unit_kind.Proc = in-place-name u (outcome_in items u) refl
  unit-name u unit_kind.Func = refl
  unit-name u unit_kind.Entity = refl

  pub names-from : (n : UnitName) (more : List ItemText) → defines_unit n (map (lowered_item items) more) ≡ defines_unit n more
  names-from n [] = refl
  names-from n (declare_text d ∷ more) = names-from n more
  names-from n (unit_text u ∷ more) =
      ap (λ (m : UnitName). same_unit_name m n || defines_unit n (map (lowered_item items) more)) (unit-name u u.kind)
      ∙ ap (λ (b : Bool). same_unit_name u.name n || b) (names-from n more)

  unit-rows : (u : UnitText) (k : UnitKind) (more : List RowText) (names : List UnitName) → map (λ (r : RowText). r.unit) more ≡ names →
      map (λ (r : RowText). r.unit) (row_as k items u ++ more) ≡ process_name_as k u ++ names
  unit-rows u unit_kind.Proc more names e = ap (λ ns. u.name ∷ ns) e
  unit-rows u unit_kind.Func more names e = e
  unit-rows u unit_kind.Entity more names e = e

  rows-from : (more : List ItemText) → map (λ (r : RowText). r.unit) (flat_map (item_row items) more) ≡ process_names more
  rows-from [] = refl
  rows-from (declare_text d ∷ more) = rows-from more
  rows-from (unit_text u ∷ more) = unit-rows u u.kind (flat_map (item_row items) more) (process_names more) (rows-from more)

pub functions-stay : FunctionsStay
functions-stay items = functions-from items items

pub names-stay : NamesStay
names-stay n items = names-from items n items

pub rows-are-processes : RowsAreProcesses
rows-are-processes items = rows-from items items

-- ---- lowering again

module _ (items : List ItemText) where
  -- what becomes of a process is the same in the lowered module, since the functions are
  again-same : (u : UnitText) → outcome_in (lowered items) u ≡ outcome_in items u
  again-same u = ap (λ fs. outcome_of_text u (flat_in fs u)) (functions-stay items)

  -- a process that was left is left again, and an entity stays
  in-place-again : (u : UnitText) (o : Outcome) → u.kind ≡ unit_kind.Proc → outcome_in items u ≡ o → lowered_as (in_place u o).kind (lowered items) (in_place u o) ≡ in_place u o
  in-place-again u (becomes k y) p e = ap (λ z. lowered_as z (lowered items) y) (entity-for items u k y e).kind
  in-place-again u (stays r) p e = ap (λ z. lowered_as z (lowered items) u) p ∙ ap (in_place u) (again-same u ∙ e)

  unit-again : (u : UnitText) (k : UnitKind) → u.kind ≡ k → lowered_as (lowered_as k items u).kind (lowered items) (lowered_as k items u) ≡ lowered_as k items u
  unit-again u unit_kind.Proc e = in-place-again u (outcome_in items u) e refl
  unit-again u unit_kind.Func e = ap (λ z. lowered_as z (lowered items) u) e
  unit-again u unit_kind.Entity e = ap (λ z. lowered_as z (lowered items) u) e

  item-again : (i : ItemText) → lowered_item (lowered items) (lowered_item items i) ≡ lowered_item items i
  item-again (unit_text u) = ap unit_text (unit-again u u.kind refl)
  item-again (declare_text d) = refl

  all-again : (more : List ItemText) → map (lowered_item (lowered items)) (map (lowered_item items) more) ≡ map (lowered_item items) more
  all-again [] = refl
  all-again (i ∷ more) = cc (item-again i, all-again more)

pub lowered-again : LoweredAgain
lowered-again items = all-again items items
