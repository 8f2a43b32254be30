-- Rows of values, and lists that are put together from copies.
use Rattle.std.proofs.Common.{◌≡◌, ℕ, ◌+◌, ◌-◌, ◌<◌, List, [], ◌∷◌, ◌++◌, length, map, take, drop, set, refl, ◌∙◌, arith, add-one}
use Rattle.std.proofs.lemmas.List.{set_split, take-map, drop-map, append_assoc, take_rest, length-map}
use Rattle.lh_types.specs.Values.{Datum}
use Rattle.lh_types.specs.ValueOf.{datum_of}
use Rattle.lh_types.specs.declared.val.Val.{Val}

-- the first k, one more, and those after it
pub one_replaced : (xs : List Val) (k : ℕ) (y z : Val) (front with_new all : List Datum) → k < length xs → front ≡ map datum_of (take k xs) → z ≡ y → with_new ≡ front ++ datum_of z ∷ []
    → all ≡ with_new ++ map datum_of (take (length xs - (k + 1)) (drop (k + 1) xs)) → all ≡ set (map datum_of xs) k (datum_of y)
one_replaced xs k y z front with_new all h f e n a =
    let within : k < length (map datum_of xs) = omega (arith, length-map xs datum_of) in
    let s = set_split (map datum_of xs) k (datum_of y) within in
    let b : all ≡ (map datum_of (take k xs) ++ datum_of y ∷ []) ++ map datum_of (drop (k + 1) xs) = rw (a, n, f, e, take_rest xs (k + 1)) refl in
    b ∙ rw (s, append_assoc, add-one, take-map, drop-map) refl

-- the first ones, the new ones, and those from some place on
pub some_replaced : (xs ys : List Val) (o e : ℕ) (front with_new all : List Datum) → front ≡ map datum_of (take o xs) → with_new ≡ front ++ map datum_of ys
    → all ≡ with_new ++ map datum_of (take (length xs - e) (drop e xs)) → all ≡ take o (map datum_of xs) ++ map datum_of ys ++ drop e (map datum_of xs)
some_replaced xs ys o e front with_new all f n a = rw (a, n, f, take_rest xs e, take-map, drop-map) refl
