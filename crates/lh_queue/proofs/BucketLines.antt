-- Buckets behind those that are gone.
use Rattle.std.proofs.Common.{◌≡◌, ℕ, zero, suc, ◌+◌, ◌-◌, ◌<◌, ◌≤◌, List, [], ◌∷◌, ◌++◌, length, take, drop, set, get_or, ap, sym, ◌∙◌, append_assoc, arith}
use Rattle.std.proofs.lemmas.List.{length-drop, length-take-le, drop_at, drop-drop, drop-set-add, drop_more, set_at}
use Rattle.std.specs.List.{insert, copy_within}
use lib.Seq.{paste}
use Rattle.lh_queue.specs.declared.queue.Bucket.{Bucket}

pub drop-again : (g : ℕ) (xs : List Bucket) → drop (g + 1) xs ≡ drop 1 (drop g xs)
drop-again zero xs = let n : 0 + 1 ≡ 1 = omega arith in ap (λ m. drop m xs) n
drop-again (suc g) [] = let n : suc g + 1 ≡ suc (g + 1) = omega arith in ap (λ m. drop {A = Bucket} m []) n
drop-again (suc g) (x ∷ xs) = let n : suc g + 1 ≡ suc (g + 1) = omega arith in rw n (drop-again g xs)

pub insert-behind : (g k : ℕ) (xs : List Bucket) (b : Bucket) → g ≤ length xs → drop g (insert xs (g + k) b) ≡ insert (drop g xs) k b
insert-behind zero k xs b h = let n : 0 + k ≡ k = omega arith in ap (λ m. insert xs m b) n
insert-behind (suc g) k [] b h = absurd (omega arith)
insert-behind (suc g) k (x ∷ xs) b h = let n : suc g + k ≡ suc (g + k) = omega arith in rw n (insert-behind g k xs b (omega arith))

pub set-behind : (g k : ℕ) (xs : List Bucket) (b : Bucket) → g ≤ length xs → drop g (set xs (g + k) b) ≡ set (drop g xs) k b
set-behind zero k xs b h = let n : 0 + k ≡ k = omega arith in ap (λ m. set xs m b) n
set-behind (suc g) k [] b h = absurd (omega arith)
set-behind (suc g) k (x ∷ xs) b h = let n : suc g + k ≡ suc (g + k) = omega arith in rw n (set-behind g k xs b (omega arith))

-- where the earlier ones move down into the place of one that is gone
pub insert-before : (p g k : ℕ) (xs ys : List Bucket) (b : Bucket) → p + 1 ≡ g → g + k ≤ length xs → ys ≡ copy_within xs g (g + k) p → drop p (set ys (p + k) b) ≡ insert (drop g xs) k b
insert-before p g k xs ys b n h e =
    drop-set-add p ys k b
    ∙ ap (λ (l : List Bucket). set l k b) (ap (drop p) (e ∙ ap (paste xs p (drop g xs)) moved ∙ append_assoc (take p xs) (take k (drop g xs)) (drop (p + k) xs)) ∙ drop_at (take p xs) (take k (drop g xs) ++ drop (p + k) xs) p (length-take-le p xs front))
    ∙ ap (λ (l : List Bucket). set (take k (drop g xs) ++ l) k b) (drop_more xs (p + k) b within)
    ∙ set_at (take k (drop g xs)) (get_or xs (p + k) b) (drop (p + k + 1) xs) b k (length-take-le k (drop g xs) room)
    ∙ ap (λ (l : List Bucket). take k (drop g xs) ++ b ∷ l) (ap (λ m. drop m xs) next ∙ sym (drop-drop k g xs))
  where
    moved : g + k - g ≡ k
    moved = omega arith

    next : p + k + 1 ≡ g + k
    next = omega arith

    front : p ≤ length xs
    front = omega arith

    within : p + k < length xs
    within = omega arith

    room : k ≤ length (drop g xs)
    room = let l = length-drop g xs in omega arith
