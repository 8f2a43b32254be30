-- A module is lowered step by step: what becomes of a process is the same in each module on the way, since the functions are.
use Rattle.std.proofs.Common.{◌≡◌, if◌then◌else◌, List, [], ◌∷◌, ◌++◌, map, refl, ap, sym, ◌∙◌, subst, append_assoc}
use Rattle.lh_unit.specs.declared.inst.UnitKind.{UnitKind}
use Rattle.lh_unit.specs.declared.inst.UnitKind.TheVariants as unit_kind
use Rattle.lh_unit.specs.Named.{is_function}
use Rattle.lh_unit.specs.Contents.{UnitText, ItemText, unit_text, declare_text}
use Rattle.lh_unit.specs.Activation.{functions}
use Rattle.lh_flat.specs.Flat.{flat_in}
use Rattle.lh_lower_def.specs.Lowering.{Outcome, becomes, stays, outcome_of_text, outcome_in, in_place, lowered_as, lowered_item}
use Rattle.lh_lower_def.specs.Kept.{IsEntityFor}
use Rattle.lh_lower_def.specs.Steps.{OneByOne, all_done, one_replaced, LoweredOneByOne}
use Rattle.lh_lower_def.proofs.Entities.{entity-for}

-- items with the same functions behind the same items
functions-behind : (before xs ys : List ItemText) → functions xs ≡ functions ys → functions (before ++ xs) ≡ functions (before ++ ys)
functions-behind [] xs ys h = h
functions-behind (declare_text d ∷ more) xs ys h = functions-behind more xs ys h
functions-behind (unit_text u ∷ more) xs ys h = ap (λ (fs : List UnitText). if is_function u.kind then u ∷ fs else fs) (functions-behind more xs ys h)

module _ (items : List ItemText) where
  -- the functions of a module on the way are those of the module
  abbrev SameFunctions : List ItemText → Type 0
  SameFunctions m = functions m ≡ functions items

  same-outcome : (m : List ItemText) (u : UnitText) → SameFunctions m → outcome_in m u ≡ outcome_in items u
  same-outcome m u h = ap (λ fs. outcome_of_text u (flat_in fs u)) h

  abbrev Leads : (before after : List ItemText) → Type 0
  Leads before after = OneByOne (before ++ after) (before ++ map (lowered_item items) after)

  -- one item is behind
  one-on : (before : List ItemText) (i : ItemText) (after : List ItemText) → Leads (before ++ i ∷ []) after → OneByOne (before ++ i ∷ after) (before ++ i ∷ map (lowered_item items) after)
  one-on before i after h =
      subst (λ m. OneByOne m (before ++ i ∷ map (lowered_item items) after)) (append_assoc before (i ∷ []) after)
      (subst (λ m. OneByOne ((before ++ i ∷ []) ++ after) m) (append_assoc before (i ∷ []) (map (lowered_item items) after)) h)

  still-same : (before : List ItemText) (i : ItemText) (after : List ItemText) → SameFunctions (before ++ i ∷ after) → SameFunctions ((before ++ i ∷ []) ++ after)
  still-same before i after h = ap functions (append_assoc before (i ∷ []) after) ∙ h

  -- the entity in the place of a process changes no function
  entity-same : (before after : List ItemText) (u y : UnitText) → u.kind ≡ unit_kind.Proc → y.kind ≡ unit_kind.Entity → SameFunctions (before ++ unit_text u ∷ after)
      → SameFunctions (before ++ unit_text y ∷ after)
  entity-same before after u y p q h =
      let a : functions (unit_text u ∷ after) ≡ functions after = ap (λ k. if is_function k then u ∷ functions after else functions after) p in
      let b : functions (unit_text y ∷ after) ≡ functions after = ap (λ k. if is_function k then y ∷ functions after else functions after) q in
      functions-behind before (unit_text y ∷ after) (unit_text u ∷ after) (b ∙ sym a) ∙ h

  -- the rest of a module, behind any items
  abbrev Rest : (after : List ItemText) → Type 0
  Rest after = (before : List ItemText) → SameFunctions (before ++ after) → Leads before after

  process-step : (u : UnitText) (o : Outcome) (after : List ItemText) → u.kind ≡ unit_kind.Proc → outcome_in items u ≡ o → Rest after → (before : List ItemText) →
      SameFunctions (before ++ unit_text u ∷ after) → OneByOne (before ++ unit_text u ∷ after) (before ++ unit_text (in_place u o) ∷ map (lowered_item items) after)
  process-step u (stays r) after p e go before h = one-on before (unit_text u) after (go (before ++ unit_text u ∷ []) (still-same before (unit_text u) after h))
  process-step u (becomes k y) after p e go before h =
      let w : IsEntityFor u y = entity-for items u k y e in
      let s : SameFunctions (before ++ unit_text y ∷ after) = entity-same before after u y p w.kind h in
      one_replaced (before ++ unit_text u ∷ after) (before ++ unit_text y ∷ map (lowered_item items) after) before after u y k refl (rw p refl)
      (same-outcome (before ++ unit_text u ∷ after) u h ∙ e) w
      (one-on before (unit_text y) after (go (before ++ unit_text y ∷ []) (still-same before (unit_text y) after s)))

  unit-step : (u : UnitText) (k : UnitKind) (after : List ItemText) → u.kind ≡ k → Rest after → (before : List ItemText) →
      SameFunctions (before ++ unit_text u ∷ after) → OneByOne (before ++ unit_text u ∷ after) (before ++ unit_text (lowered_as k items u) ∷ map (lowered_item items) after)
  unit-step u unit_kind.Proc after p go before h = process-step u (outcome_in items u) after p refl go before h
  unit-step u unit_kind.Func after p go before h = one-on before (unit_text u) after (go (before ++ unit_text u ∷ []) (still-same before (unit_text u) after h))
  unit-step u unit_kind.Entity after p go before h = one-on before (unit_text u) after (go (before ++ unit_text u ∷ []) (still-same before (unit_text u) after h))

  rest-steps : (after : List ItemText) → Rest after
  rest-steps [] before h = all_done (before ++ [])
  rest-steps (declare_text d ∷ after) before h = one-on before (declare_text d) after (rest-steps after (before ++ declare_text d ∷ []) (still-same before (declare_text d) after h))
  rest-steps (unit_text u ∷ after) before h = unit-step u u.kind after refl (rest-steps after) before h

pub lowered-one-by-one : LoweredOneByOne
lowered-one-by-one items = rest-steps items items [] refl
