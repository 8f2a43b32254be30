-- What holds of each item of a list.
use Rattle.std.proofs.Common.{◌≡◌, ℕ, zero, suc, ◌+◌, List, [], ◌∷◌, ◌<◌, ◌++◌, length, drop, get_or, map, Some, refl, subst, arith, Bool, true, false, if◌then◌else◌}
use Rattle.std.specs.Prelude.{slice_get}
use Rattle.std.specs.List.{Contains}
use Rattle.std.proofs.lemmas.List.{drop_more}
use Rattle.std.proofs.lemmas.List.Elements.{Contains-append_right}
use Rattle.std.proofs.lemmas.Option.{same_Some, none-some}
use Rattle.lh_unit.specs.Within.{Each}
use Rattle.lh_unit.proofs.Lists.{Each-left, Each-right}
use Rattle.lh_unit.specs.Contents.{UnitText, EdgeText}
use Rattle.lh_unit.specs.Activation.{edge_from}
use Rattle.lh_verify_laws.specs.Operands.{IsOf}
use Rattle.lh_types.specs.Types.{TypeTree}
use Rattle.lh_unit_names.specs.Names.{same_name}

-- of each where it holds of what the list contains
pub each-contained : {X : Type 0} (Q : X → Type 0) (xs : List X) → ((x : X) → Contains xs x → Q x) → Each Q xs
each-contained Q [] go = tt
each-contained Q (x ∷ xs) go = (go x (0, omega arith, refl), each-contained Q xs (λ y c. go y (Contains-append_right (x ∷ []) xs y c)))

-- of both parts of a list
pub each-split : {X : Type 0} (P : X → Type 0) (xs ys : List X) → Each P (xs ++ ys) → Each P xs × Each P ys
each-split P xs ys e = (Each-left P xs ys e, Each-right P xs ys e)

-- of the text of the item at an index
pub each-at : {X Y : Type 0} (P : Y → Type 0) (f : X → Y) (xs : List X) (i : ℕ) (x : X) → Each P (map f xs) → slice_get xs i ≡ Some x → P (f x)
each-at P f [] i x e h = absurd (none-some x h)
each-at P f (y ∷ xs) zero x e h = subst (λ z. P (f z)) (same_Some y x h) e.0
each-at P f (y ∷ xs) (suc i) x e h = each-at P f xs i x e.1 h

-- of the next item, and of those after it
pub each-rest : {X : Type 0} (P : X → Type 0) (xs : List X) (i : ℕ) (d : X) → i < length xs → Each P (drop i xs) → P (get_or xs i d) × Each P (drop (i + 1) xs)
each-rest P xs i d h e = let f = subst (Each P) (drop_more xs i d h) e in (f.0, f.1)

-- an operand that an edge names is one of those that are written
pub edge-is : (u : UnitText) (t : TypeTree) (from : List ℕ) (es : List EdgeText) (n : List ℕ) → Each (λ (e : EdgeText). IsOf u t e.value) es → edge_from from es ≡ Some n → IsOf u t n
edge-is u t from [] n e h = absurd (none-some n h)
edge-is u t from (x ∷ es) n e h = by (edge-is u t from es n e.1) (same_name x.block from) h
  where
    by : (edge_from from es ≡ Some n → IsOf u t n) → (b : Bool) → (if b then Some x.value else edge_from from es) ≡ Some n → IsOf u t n
    by go true q = subst (IsOf u t) (same_Some x.value n q) e.0
    by go false q = go q
