-- The digits of a number, four bits at a time.
use Rattle.std.proofs.Common.{◌≡◌, ℕ, ◌+◌, ◌-◌, ◌*◌, ◌/◌, ◌%◌, ◌<◌, ◌≤◌, List, [], ◌∷◌, ◌++◌, length, get_or, set, take, drop, map, refl, ap, sym, ◌∙◌, append_assoc, arith}
use Rattle.std.specs.Prelude.{reverse, Bool, ◌^◌}
use Rattle.std.specs.List.{range_with_len}
use Rattle.std.proofs.Math.Seq.{drop-append_seam}
use Rattle.std.proofs.lemmas.List.{append-nil, take_all, drop-set, drop-drop, length-set, length-map, length-reverse, map-append, reverse-append}
use Rattle.std.proofs.lemmas.List.FromFn.{get_or-map-range_with_len}
use Rattle.lh_types.specs.Bits.{number_bits}
use Rattle.lh_bits.proofs.NumberBits.{number_bits-add, length-number_bits}
use Rattle.lh_wave.specs.WaveText.{bit_byte, bits_text}
use Rattle.lh_wave.specs.declared.digits.TheConstants.{NIBBLES}

-- the table has the digits of each number below 16
pub nibble-digits : (n : ℕ) → n < 16 → get_or NIBBLES n [] ≡ bits_text (number_bits 4 n)
nibble-digits n h =
    let digits : ℕ → List ℕ = λ k. bits_text (number_bits 4 k) in
    let table : NIBBLES ≡ map digits (range_with_len 0 16) = refl in
    ap (λ l. get_or l n []) table ∙ get_or-map-range_with_len digits 0 16 n n [] h (omega arith)

-- four digits, put in from the last one on
four-put : (xs : List ℕ) (at a b c d : ℕ) → at + 4 ≤ length xs → drop at (set (set (set (set xs (at + 3) d) (at + 2) c) (at + 1) b) at a) ≡ a ∷ b ∷ c ∷ d ∷ drop (at + 4) xs
four-put xs at a b c d room =
    let x3 = set xs (at + 3) d in
    let x2 = set x3 (at + 2) c in
    let x1 = set x2 (at + 1) b in
    let l3 : length x3 ≡ length xs = length-set xs (at + 3) d in
    let l2 : length x2 ≡ length xs = length-set x3 (at + 2) c ∙ l3 in
    let l1 : length x1 ≡ length xs = length-set x2 (at + 1) b ∙ l2 in
    let p1 : at + 1 + 1 ≡ at + 2 = omega arith in
    let p2 : at + 2 + 1 ≡ at + 3 = omega arith in
    let p3 : at + 3 + 1 ≡ at + 4 = omega arith in
    drop-set x1 at a (omega (arith, l1))
    ∙ ap (λ l. a ∷ l) (drop-set x2 (at + 1) b (omega (arith, l2)) ∙ ap (λ k. b ∷ drop k x2) p1)
    ∙ ap (λ l. a ∷ b ∷ l) (drop-set x3 (at + 2) c (omega (arith, l3)) ∙ ap (λ k. c ∷ drop k x3) p2)
    ∙ ap (λ l. a ∷ b ∷ c ∷ l) (drop-set xs (at + 3) d (omega arith) ∙ ap (λ k. d ∷ drop k xs) p3)

-- a nibble that is put in
pub nibble-put : (xs : List ℕ) (at n : ℕ) (q : List ℕ) → q ≡ bits_text (number_bits 4 n) → at + 4 ≤ length xs
    → drop at (set (set (set (set xs (at + 3) (get_or q 3 0)) (at + 2) (get_or q 2 0)) (at + 1) (get_or q 1 0)) at (get_or q 0 0)) ≡ bits_text (number_bits 4 n) ++ drop (at + 4) xs
nibble-put xs at n q e room = rw e (four-put xs at _ _ _ _ room)

length-text : (w n : ℕ) → length (bits_text (number_bits w n)) ≡ w
length-text w n = length-map (reverse (number_bits w n)) bit_byte ∙ length-reverse (number_bits w n) ∙ length-number_bits w n

text-append : (xs ys : List Bool) → bits_text (xs ++ ys) ≡ bits_text ys ++ bits_text xs
text-append xs ys = ap (map bit_byte) (reverse-append xs ys) ∙ map-append bit_byte (reverse ys) (reverse xs)

-- the lowest four bits of a number are those of what is left by 16
low-four : (n : ℕ) → number_bits 4 n ≡ number_bits 4 (n % 16)
low-four n =
    let a : n % 2 ≡ n % 16 % 2 = omega arith in
    let b : n / 2 % 2 ≡ n % 16 / 2 % 2 = omega arith in
    let c : n / 2 / 2 % 2 ≡ n % 16 / 2 / 2 % 2 = omega arith in
    let d : n / 2 / 2 / 2 % 2 ≡ n % 16 / 2 / 2 / 2 % 2 = omega arith in
    rw (a, b, c, d) refl

nibble-more : (k n : ℕ) → bits_text (number_bits (4 + k) n) ≡ bits_text (number_bits k (n / 16)) ++ bits_text (number_bits 4 (n % 16))
nibble-more k n =
    ap bits_text (number_bits-add 4 k n) ∙ text-append (number_bits 4 n) (number_bits k (n / 16))
    ∙ ap (λ bs. bits_text (number_bits k (n / 16)) ++ bits_text bs) (low-four n)

-- So many nibbles of the number stand at the end, the lowest last, and this is left of it.
abbrev pub NibblesAt : (count n : ℕ) → (digits : List ℕ) → (i rest : ℕ) → Type 0
NibblesAt count n digits i rest = bits_text (number_bits (4 * (count - i)) rest) ++ drop (128 - 4 * i) digits ≡ bits_text (number_bits (4 * count) n)

pub NibblesAt-start : (count n : ℕ) (digits : List ℕ) → drop 128 digits ≡ [] → NibblesAt count n digits 0 n
NibblesAt-start count n digits none =
    let all : 4 * (count - 0) ≡ 4 * count = omega arith in
    ap (λ k. bits_text (number_bits k n) ++ drop 128 digits) all ∙ ap (λ l. bits_text (number_bits (4 * count) n) ++ l) none ∙ append-nil (bits_text (number_bits (4 * count) n))

pub NibblesAt-next : (count n i rest : ℕ) (digits new : List ℕ) → i < count → 4 * count ≤ 128 → NibblesAt count n digits i rest
    → drop (124 - 4 * i) new ≡ bits_text (number_bits 4 (rest % 16)) ++ drop (124 - 4 * i + 4) digits → NibblesAt count n new (i + 1) (rest / 16)
NibblesAt-next count n i rest digits new l few h put =
    let k = 4 * (count - (i + 1)) in
    let place : 128 - 4 * (i + 1) ≡ 124 - 4 * i = omega arith in
    let past : 124 - 4 * i + 4 ≡ 128 - 4 * i = omega arith in
    let left : 4 + k ≡ 4 * (count - i) = omega arith in
    ap (λ j. bits_text (number_bits k (rest / 16)) ++ drop j new) place
    ∙ ap (λ x. bits_text (number_bits k (rest / 16)) ++ x) (put ∙ ap (λ j. bits_text (number_bits 4 (rest % 16)) ++ drop j digits) past)
    ∙ sym (append_assoc (bits_text (number_bits k (rest / 16))) (bits_text (number_bits 4 (rest % 16))) (drop (128 - 4 * i) digits))
    ∙ ap (λ x. x ++ drop (128 - 4 * i) digits) (sym (nibble-more k rest))
    ∙ ap (λ j. bits_text (number_bits j rest) ++ drop (128 - 4 * i) digits) left ∙ h

-- where all stand there, the lowest bits are the last digits
pub NibblesAt-end : (w count n i rest : ℕ) (digits : List ℕ) → NibblesAt count n digits i rest → count ≤ i → i ≤ count → w ≤ 4 * count → 4 * count ≤ 128 → drop (128 - w) digits ≡ bits_text (number_bits w n)
NibblesAt-end w count n i rest digits h past up wide few =
    let e = 4 * count - w in
    let none : 4 * (count - i) ≡ 0 = omega arith in
    let at : 128 - 4 * i ≡ 128 - 4 * count = omega arith in
    let all : drop (128 - 4 * count) digits ≡ bits_text (number_bits (4 * count) n) =
    sym (ap (λ k. bits_text (number_bits k rest) ++ drop (128 - 4 * i) digits) none ∙ ap (λ k. drop k digits) at) ∙ h in
    let parts : 4 * count ≡ w + e = omega arith in
    let place : 128 - w ≡ 128 - 4 * count + e = omega arith in
    let high = bits_text (number_bits e (n / 2 ^ w)) in
    let long : length high ≡ e = length-text e (n / 2 ^ w) in
    ap (λ k. drop k digits) place ∙ sym (drop-drop e (128 - 4 * count) digits)
    ∙ ap (drop e) (all ∙ ap (λ k. bits_text (number_bits k n)) parts ∙ ap bits_text (number_bits-add w e n) ∙ text-append (number_bits w n) (number_bits e (n / 2 ^ w)))
    ∙ ap (λ k. drop k (high ++ bits_text (number_bits w n))) (sym long) ∙ drop-append_seam high (bits_text (number_bits w n))

-- the last places alone
pub last-places : (w n : ℕ) (digits : List ℕ) → w ≤ 128 → drop (128 - w) digits ≡ bits_text (number_bits w n) → take (128 - (128 - w)) (drop (128 - w) digits) ≡ bits_text (number_bits w n)
last-places w n digits narrow e = ap (take (128 - (128 - w))) e ∙ take_all (128 - (128 - w)) (bits_text (number_bits w n)) (omega (arith, length-text w n))
