-- Lists of one item many times, and lists read at an index.
use Rattle.std.proofs.Common.{◌≡◌, ℕ, zero, suc, List, [], ◌∷◌, map, replicate, get_or, Result, Ok, Err, OnOk, refl, ap}

pub map-replicate : {X Y : Type 0} (f : X → Y) (n : ℕ) (x : X) → map f (replicate n x) ≡ replicate n (f x)
map-replicate f zero x = refl
map-replicate f (suc n) x = ap (λ l. f x ∷ l) (map-replicate f n x)

pub map-get_or : {X Y : Type 0} (f : X → Y) (xs : List X) (i : ℕ) (d : X) → f (get_or xs i d) ≡ get_or (map f xs) i (f d)
map-get_or f [] i d = by i
  where
    by : (j : ℕ) → f (get_or [] j d) ≡ get_or [] j (f d)
    by zero = refl
    by (suc j) = refl
map-get_or f (x ∷ xs) zero d = refl
map-get_or f (x ∷ xs) (suc i) d = map-get_or f xs i d

pub on-ok : {A E : Type 0} (r : Result A E) (P Q : Type 0) → (P → Q) → OnOk r P → OnOk r Q
on-ok (Ok a) P Q f p = f p
on-ok (Err e) P Q f p = p
