-- The items of a list one by one, as at a step of a loop.
use Rattle.std.proofs.Common.{◌≡◌, ℕ, ◌+◌, ◌<◌, ◌≤◌, zero, suc, Bool, true, false, ◌&&◌, ◌||◌, List, [], ◌∷◌, ◌++◌, length, get_or, drop, map, refl, ap, sym, ◌∙◌, subst, append_assoc, add-one, drop-cons, arith}
use Rattle.std.specs.List.{list_any, list_all}
use Rattle.std.proofs.lemmas.List.{append-nil, length-map, drop_all}
use Rattle.lh_unit.proofs.Lists.{drop-item}

-- lists one after another
pub ruleset steps = (append_assoc, append-nil, length-map)

-- one more part at the end
pub put_step : {X Y : Type 0} → (F : List X → List Y) (old new all : List Y) (xs : List X) (i : ℕ) (x : X) (part : List Y) → i < length xs → x ≡ get_or xs i x
    → ((more : List X) → F (x ∷ more) ≡ part ++ F more) → new ≡ old ++ part → old ++ F (drop i xs) ≡ all → new ++ F (drop (i + 1) xs) ≡ all
put_step F old new all xs i x part h e split n a =
    ap (λ l. l ++ F (drop (i + 1) xs)) n
    ∙ append_assoc old part (F (drop (i + 1) xs))
    ∙ ap (λ l. old ++ l) (sym (split (drop (i + 1) xs)))
    ∙ ap (λ l. old ++ F l) (sym (drop-item xs i x h e))
    ∙ a

-- a test of each item, from an index on: it holds of the item there
pub all_next : {X Y : Type 0} → (p : Y → Bool) (g : X → Y) (all : Bool) (xs : List X) (i : ℕ) (x : X) → i < length xs → x ≡ get_or xs i x → p (g x) ≡ true → list_all p (map g (drop i xs)) ≡ all
    → list_all p (map g (drop (i + 1) xs)) ≡ all
all_next p g all xs i x h e t a = ap (λ b. b && list_all p (map g (drop (i + 1) xs))) (sym t) ∙ ap (λ l. list_all p (map g l)) (sym (drop-item xs i x h e)) ∙ a

-- it fails of the item there
pub all_stops : {X Y : Type 0} → (p : Y → Bool) (g : X → Y) (all : Bool) (xs : List X) (i : ℕ) (x : X) → i < length xs → x ≡ get_or xs i x → p (g x) ≡ false → list_all p (map g (drop i xs)) ≡ all
    → false ≡ all
all_stops p g all xs i x h e t a = ap (λ b. b && list_all p (map g (drop (i + 1) xs))) (sym t) ∙ ap (λ l. list_all p (map g l)) (sym (drop-item xs i x h e)) ∙ a

pub all_ends : {X Y : Type 0} → (p : Y → Bool) (g : X → Y) (all : Bool) (xs : List X) (i : ℕ) → length xs ≤ i → list_all p (map g (drop i xs)) ≡ all → true ≡ all
all_ends p g all xs i h a = ap (λ l. list_all p (map g l)) (sym (drop_all i xs h)) ∙ a

-- a test of some item, from an index on
pub any_next : {X Y : Type 0} → (p : Y → Bool) (g : X → Y) (all : Bool) (xs : List X) (i : ℕ) (x : X) → i < length xs → x ≡ get_or xs i x → p (g x) ≡ false → list_any p (map g (drop i xs)) ≡ all
    → list_any p (map g (drop (i + 1) xs)) ≡ all
any_next p g all xs i x h e t a = ap (λ b. b || list_any p (map g (drop (i + 1) xs))) (sym t) ∙ ap (λ l. list_any p (map g l)) (sym (drop-item xs i x h e)) ∙ a

pub any_stops : {X Y : Type 0} → (p : Y → Bool) (g : X → Y) (all : Bool) (xs : List X) (i : ℕ) (x : X) → i < length xs → x ≡ get_or xs i x → p (g x) ≡ true → list_any p (map g (drop i xs)) ≡ all
    → true ≡ all
any_stops p g all xs i x h e t a = ap (λ b. b || list_any p (map g (drop (i + 1) xs))) (sym t) ∙ ap (λ l. list_any p (map g l)) (sym (drop-item xs i x h e)) ∙ a

pub any_ends : {X Y : Type 0} → (p : Y → Bool) (g : X → Y) (all : Bool) (xs : List X) (i : ℕ) → length xs ≤ i → list_any p (map g (drop i xs)) ≡ all → false ≡ all
any_ends p g all xs i h a = ap (λ l. list_any p (map g l)) (sym (drop_all i xs h)) ∙ a
