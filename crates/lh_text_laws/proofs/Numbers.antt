-- Numbers, constants and times, spelled again.
use Rattle.std.proofs.Common.{◌≡◌, ℕ, ◌-◌, ◌*◌, ◌/◌, ◌%◌, ◌^◌, ◌<◌, ◌≤◌, inl, inr, Bool, true, false, List, [], ◌∷◌, ◌++◌, length, Some, if◌then◌else◌, nat_eq, decimal, refl, sym, ◌∙◌, subst, arith, length-append}
use Rattle.std.specs.Prelude.{codes}
use Rattle.std.proofs.lemmas.Grind.{common_steps}
use Rattle.std.proofs.Math.Pow.{pow_mono, pow_pos}
use Rattle.std.proofs.Math.Nat.{mod-lt}
use Rattle.lh_time.specs.declared.Delay.{Delay}
use Rattle.lh_unit_names.specs.Names.{is_name_byte, all_name_bytes}
use Rattle.lh_unit.specs.Lexemes.{Lexeme, word}
use Rattle.lh_unit.specs.Pieces.{Piece, token, space, IsLexeme, IsSpaced, begins_with_word, lexemes_in, number}
use Rattle.lh_unit.specs.CanonTypes.{time_text, steps_pieces, time_pieces}
use Rattle.lh_unit.specs.Within.{Each}
use Rattle.lh_unit.specs.SpellsNumbers.{SpellsNumber, SpellsInteger, unit_scale, SpellsFemtoseconds, SpellsSteps, SpellsTime}
use Rattle.lh_text_laws.proofs.Numerals.{number_of-decimal, decimal-named, decimal-some, all_name_bytes-append}
use Rattle.lh_text_laws.proofs.SpacedLines.{spaced-append}
use Rattle.lh_text_laws.proofs.Again.{PiecesSpell, Again, at_end}
use Rattle.lh_text_laws.proofs.Types.{number-lexeme}

-- a number below 2^32
pub number-again : (n : ℕ) (ts more : List Lexeme) → Each IsLexeme ts → SpellsNumber n ts more → Again (SpellsNumber n) (number n) more
number-again n ts more l h =
    let b : n < 2 ^ 32 = h.3 in
    let s : n < 10 ^ 64 = omega arith in
    record { left = (subst (Each IsLexeme) h.1 l).1; stands = record { spaced = (number-lexeme n s, refl, tt); spelled = λ rest. (decimal n, refl, number_of-decimal n s, b) } }

pub integer-below : (n bits : ℕ) (ts : List Lexeme) → SpellsInteger n bits ts → bits < 2 ^ n
integer-below n bits ts (inl h) = h.3
integer-below n bits ts (inr h) = subst (λ b. b < 2 ^ n) (sym h.5) (mod-lt (2 ^ n - h.1) (pow_pos n))

-- an integer constant
pub integer-again : (n bits : ℕ) (ts : List Lexeme) → n ≤ 128 → SpellsInteger n bits ts → SpellsInteger n bits (lexemes_in (number bits)) × IsSpaced (number bits)
integer-again n bits ts w h =
    let b : bits < 2 ^ n = integer-below n bits ts h in
    let m : 2 ^ n ≤ 2 ^ 128 = pow_mono w in
    let s : bits < 10 ^ 64 = omega arith in
    (inl (decimal bits, refl, number_of-decimal bits s, b), (number-lexeme bits s, refl, tt))

by_test : (P : List ℕ → Type 0) (a b : ℕ) (x y : List ℕ) → (a ≡ b → P x) → P y → P (if nat_eq a b then x else y)
by_test P a b x y f g = elim (nat_eq a b) as (λ t. nat_eq a b ≡ t → P (if t then x else y)) [ true ↦ λ e. f (grind (arith, common_steps)) | false ↦ λ e. g ] refl

-- a word that says a time in one unit
record Timed (fs : ℕ) (w : List ℕ) : Type 0 where
  spelled : SpellsFemtoseconds fs w
  written : IsLexeme (word w)

in_unit : (fs n scale : ℕ) (unit : List ℕ) → unit_scale unit ≡ Some scale → all_name_bytes unit ≡ true → n * scale ≡ fs → n ≤ fs → fs < 2 ^ 63 → Timed fs (decimal n ++ unit)
in_unit fs n scale unit k a w l b =
    let s : n < 10 ^ 64 = omega arith in
    let one : fs * 10 ^ 0 ≡ fs = omega arith in
    let e : all_name_bytes (decimal n) ≡ true = decimal-named n s in
    let f : 1 ≤ length (decimal n) = decimal-some n s in
    record {
      spelled = record { numeral = decimal n; unit = unit; together = refl; n = n; places = 0; says = inl (number_of-decimal n s, refl); scale = scale; known = k; whole = w ∙ sym one; below = b };
      written = (omega (arith, length-append (decimal n) unit), all_name_bytes-append (decimal n) unit e a);
    }

time_text-timed : (fs : ℕ) → fs < 2 ^ 63 → Timed fs (time_text fs)
time_text-timed fs b =
    by_test (Timed fs) (fs % 1000000000000000) 0 _ _ (λ e. in_unit fs (fs / 1000000000000000) (10 ^ 15) (codes "s") refl refl (omega arith) (omega arith) b)
    (by_test (Timed fs) (fs % 1000000000000) 0 _ _ (λ e. in_unit fs (fs / 1000000000000) (10 ^ 12) (codes "ms") refl refl (omega arith) (omega arith) b)
    (by_test (Timed fs) (fs % 1000000000) 0 _ _ (λ e. in_unit fs (fs / 1000000000) (10 ^ 9) (codes "us") refl refl (omega arith) (omega arith) b)
    (by_test (Timed fs) (fs % 1000000) 0 _ _ (λ e. in_unit fs (fs / 1000000) (10 ^ 6) (codes "ns") refl refl (omega arith) (omega arith) b)
    (by_test (Timed fs) (fs % 1000) 0 _ _ (λ e. in_unit fs (fs / 1000) (10 ^ 3) (codes "ps") refl refl (omega arith) (omega arith) b)
    (in_unit fs fs 1 (codes "fs") refl refl (omega arith) (omega arith) b)))))

pub steps-below : (letter n : ℕ) (ts more : List Lexeme) → SpellsSteps letter n ts more → n < 2 ^ 31
steps-below letter n ts more (inl h) = let e : n ≡ 0 = h.0 in omega arith
steps-below letter n ts more (inr h) = h.3

-- a count of steps stands, and no word comes first
record Stepped (letter n : ℕ) (ps : List Piece) : Type 0 where
  stands : PiecesSpell (SpellsSteps letter n) ps
  begins : (more : List Piece) → begins_with_word more ≡ false → begins_with_word (ps ++ more) ≡ false

steps_pieces-stands : (letter n : ℕ) → is_name_byte letter ≡ true → n < 2 ^ 31 → Stepped letter n (steps_pieces n letter)
steps_pieces-stands letter n a b = by (nat_eq n 0) refl
  where
    by : (t : Bool) → nat_eq n 0 ≡ t → Stepped letter n (if t then [] else space ∷ token (word (decimal n ++ letter ∷ [])) ∷ [])
    by true e = record { stands = record { spaced = tt; spelled = λ rest. inl (grind (arith, common_steps), refl) }; begins = λ more h. h }
    by false e =
        let s : n < 10 ^ 64 = omega arith in
        let c : all_name_bytes (letter ∷ []) ≡ true = rw a refl in
        let l : 1 ≤ length (decimal n ++ letter ∷ []) = omega (arith, length-append (decimal n) (letter ∷ [])) in
        record {
          stands = record {
            spaced = ((l, all_name_bytes-append (decimal n) (letter ∷ []) (decimal-named n s) c), refl, tt);
            spelled = λ rest. inr (decimal n, refl, number_of-decimal n s, b);
          };
          begins = λ more h. refl;
        }

-- a time
pub time-again : (d : Delay) (ts : List Lexeme) → SpellsTime d ts → SpellsTime d (lexemes_in (time_pieces d.fs d.delta d.eps)) × IsSpaced (time_pieces d.fs d.delta d.eps)
time-again d ts h =
    let t = time_text-timed d.fs h.4.below in
    let a = steps_pieces-stands 100 d.delta refl (steps-below 100 d.delta h.1 h.2 h.5) in
    let b = steps_pieces-stands 101 d.eps refl (steps-below 101 d.eps h.2 [] h.6) in
    let nb : begins_with_word (steps_pieces d.eps 101) ≡ false = last_begins d.eps in
    let n : begins_with_word (steps_pieces d.delta 100 ++ steps_pieces d.eps 101) ≡ false = a.begins (steps_pieces d.eps 101) nb in (
      (
        time_text d.fs,
        lexemes_in (steps_pieces d.delta 100 ++ steps_pieces d.eps 101),
        lexemes_in (steps_pieces d.eps 101),
        refl,
        t.spelled,
        a.stands.spelled (steps_pieces d.eps 101),
        at_end (SpellsSteps 101 d.eps) (steps_pieces d.eps 101) b.stands,
      ),
      (t.written, n, spaced-append (steps_pieces d.delta 100) (steps_pieces d.eps 101) a.stands.spaced b.stands.spaced nb),
    )
  where
    last_begins : (n : ℕ) → begins_with_word (steps_pieces n 101) ≡ false
    last_begins n = elim (nat_eq n 0) as (λ t. begins_with_word (if t then [] else space ∷ token (word (decimal n ++ 101 ∷ [])) ∷ []) ≡ false) [ true ↦ refl | false ↦ refl ]
