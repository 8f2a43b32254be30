-- The first line of a text, and the rest.
use Rattle.std.proofs.Common.{◌≡◌, ℕ, ◌+◌, ◌<◌, ◌-◌, zero, suc, true, false, List, [], ◌∷◌, length, get_or, drop, take, Some, None, nat_eq, refl, ap, sym, ◌∙◌, arith}
use Rattle.std.proofs.lemmas.List.{take_rest, drop_all}
use Rattle.std.proofs.lemmas.Bool.{false_from_ne_true}
use Rattle.memchr.specs.Find.{IsFirstByte, is_byte}
use Rattle.lh_unit.specs.Lines.{add_front, lines_of}

lines_at : (xs : List ℕ) (i : ℕ) → i < length xs → nat_eq (get_or xs i 0) 10 ≡ true → ((k : ℕ) → k < i → nat_eq (get_or xs k 0) 10 ≡ false) → lines_of xs ≡ take i xs ∷ lines_of (drop (suc i) xs)
lines_at [] i h e f = absurd (omega arith)
lines_at (x ∷ xs) zero h e f = rw e refl
lines_at (x ∷ xs) (suc i) h e f =
    let g : nat_eq x 10 ≡ false = f 0 (omega arith) in
    let r : lines_of xs ≡ take i xs ∷ lines_of (drop (suc i) xs) = lines_at xs i (omega arith) e (λ k l. f (suc k) (omega arith)) in
    rw g (ap (add_front x) r)

lines_all : (xs : List ℕ) → 0 < length xs → ((k : ℕ) → k < length xs → nat_eq (get_or xs k 0) 10 ≡ false) → lines_of xs ≡ xs ∷ []
lines_all [] h f = absurd (omega arith)
lines_all (x ∷ []) h f = let g : nat_eq x 10 ≡ false = f 0 (omega arith) in rw g refl
lines_all (x ∷ y ∷ ys) h f =
    let g : nat_eq x 10 ≡ false = f 0 (omega arith) in
    let r : lines_of (y ∷ ys) ≡ (y ∷ ys) ∷ [] = lines_all (y ∷ ys) (omega arith) (λ k l. f (suc k) (omega arith)) in
    rw g (ap (add_front x) r)

pub lines-Some : (xs : List ℕ) (i : ℕ) → IsFirstByte (is_byte 10) xs (Some i) → lines_of xs ≡ take i xs ∷ lines_of (take (length xs - (i + 1)) (drop (i + 1) xs))
lines-Some xs i p =
    let e : suc i ≡ i + 1 = omega arith in
    lines_at xs i p.0.high p.1 (λ k l. false_from_ne_true _ (p.0.before k (omega arith) l))
    ∙ ap (λ n. take i xs ∷ lines_of (drop n xs)) e
    ∙ ap (λ l. take i xs ∷ lines_of l) (sym (take_rest xs (i + 1)))

pub lines-None : (xs : List ℕ) → 0 < length xs → IsFirstByte (is_byte 10) xs None → lines_of xs ≡ xs ∷ lines_of (take (length xs - length xs) (drop (length xs) xs))
lines-None xs h p = lines_all xs h (λ k l. false_from_ne_true _ (p k (omega arith) l))
    ∙ ap (λ l. xs ∷ lines_of l) (sym (take_rest xs (length xs) ∙ drop_all (length xs) xs (omega arith)))
