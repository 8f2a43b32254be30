-- Identifier codes, digit by digit.
use Rattle.std.proofs.Common.{◌≡◌, ℕ, zero, suc, ◌+◌, ◌<◌, ◌≤◌, ◌/◌, ◌%◌, [], ◌∷◌, ◌++◌, map, refl, ap, sym, ◌∙◌, arith}
use Rattle.std.specs.Prelude.{reverse}
use Rattle.std.proofs.lemmas.List.{reverse-append}
use Rattle.std.specs.Int.Digits.{digits_of}
use Rattle.std.proofs.lemmas.Int.Digits.{digits_of_step}
use Rattle.lh_text_buffer.specs.Writing.{Written, Writes, Leaves}
use Rattle.lh_text_buffer.proofs.Parts.{less-left, none-left}
use Rattle.lh_wave.specs.WaveText.{digits_94, identifier_code}

digits_some : (n : ℕ) → 0 < n → digits_94 n ≡ digits_of 94 n
digits_some zero h = absurd (omega arith)
digits_some (suc n) h = refl

-- the first digit of a code of more than one, and the code of what is left
pub code_step : (n : ℕ) → 94 ≤ n → identifier_code n ≡ (33 + n % 94) ∷ identifier_code (n / 94)
code_step n h =
    let pos : 0 < n = omega arith in
    let up : 0 < n / 94 = omega arith in
    let two : 2 ≤ 94 = omega arith in
    let ds : digits_94 n ≡ digits_94 (n / 94) ++ n % 94 ∷ [] = digits_some n pos ∙ digits_of_step 94 n two pos ∙ ap (λ l. l ++ n % 94 ∷ []) (sym (digits_some (n / 94) up)) in
    ap (λ l. map (λ digit. 33 + digit) (reverse l)) ds ∙ ap (map (λ digit. 33 + digit)) (reverse-append (digits_94 (n / 94)) (n % 94 ∷ []))

pub code_last : (n : ℕ) → n < 94 → identifier_code n ≡ (33 + n) ∷ []
code_last zero h = refl
code_last (suc m) h =
    let two : 2 ≤ 94 = omega arith in
    let pos : 0 < suc m = omega arith in
    let none : suc m / 94 ≡ 0 = omega arith in
    let all : suc m % 94 ≡ suc m = omega arith in
    let ds : digits_of 94 (suc m) ≡ suc m ∷ [] = digits_of_step 94 (suc m) two pos ∙ ap (λ q. digits_of 94 q ++ suc m % 94 ∷ []) none ∙ ap (λ r. r ∷ []) all in
    ap (λ l. map (λ digit. 33 + digit) (reverse l)) ds

-- of the code of a signal, the code of what is left of its number is left
abbrev pub Coding : (start to : Written) → (signal rest : ℕ) → Type 0
Coding start to signal rest = Leaves start to (identifier_code rest) (identifier_code signal)

pub code_more : (start to next : Written) (signal n : ℕ) → 94 ≤ n → Writes to next ((33 + n % 94) ∷ []) → Coding start to signal n → Coding start next signal (n / 94)
code_more start to next signal n h g w = less-left start to next ((33 + n % 94) ∷ []) (identifier_code (n / 94)) (identifier_code n) (identifier_code signal) (code_step n h) g w

pub code_end : (start to next : Written) (signal n : ℕ) → n < 94 → Writes to next ((33 + n) ∷ []) → Coding start to signal n → Writes start next (identifier_code signal)
code_end start to next signal n h g w =
    none-left start next [] (identifier_code signal) refl (less-left start to next ((33 + n) ∷ []) [] (identifier_code n) (identifier_code signal) (code_last n h) g w)
