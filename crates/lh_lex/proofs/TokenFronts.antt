-- The token in front of bytes, and the tokens behind it.
use Rattle.std.proofs.Common.{◌≡◌, ℕ, ◌+◌, ◌-◌, zero, suc, List, [], ◌∷◌, length, take, drop, nat_eq, nat_lt, Some, Ok, true, false, refl, ap, sym, ◌∙◌, subst, arith}
use Rattle.std.proofs.lemmas.Grind.{common_steps}
use Rattle.std.proofs.lemmas.List.{take_rest}
use Rattle.lh_unit_names.specs.Names.{is_name_byte, IsName}
use Rattle.lh_unit.specs.Lexemes.{word, local, first_lexeme, run_len, fits_name}
use Rattle.lh_unit.specs.Tokens.{first_token, lexeme_of, IsSpelling}
use Rattle.lh_unit.specs.declared.token.TokenKind.{TokenKind}
use Rattle.lh_unit.specs.declared.token.TokenKind.TheVariants as kind
use Rattle.lh_unit.proofs.LexedTokens.{takes}
use Rattle.lh_lex.specs.Front.{to_bad_after, lexemes_to_bad, IsSettled}

to_bad_after-drop : (k : ℕ) (bs : List ℕ) → to_bad_after k bs ≡ lexemes_to_bad (drop k bs)
to_bad_after-drop zero bs = refl
to_bad_after-drop (suc k) [] = refl
to_bad_after-drop (suc k) (b ∷ bs) = to_bad_after-drop k bs

taken-front : (b : ℕ) (bs : List ℕ) (k : TokenKind) (n : ℕ) → IsSettled (b ∷ bs) → Some (lexeme_of k (b ∷ take n bs), n) ≡ first_lexeme b bs
    → lexemes_to_bad (b ∷ bs) ≡ lexeme_of k (b ∷ take n bs) ∷ lexemes_to_bad (drop n bs)
taken-front b bs k n s f = rw (s.0, s.1, ← f) (ap (λ l. lexeme_of k (b ∷ take n bs) ∷ l) (to_bad_after-drop n bs))

first_bytes : (text : List ℕ) (b : ℕ) (bs : List ℕ) (n : ℕ) → text ≡ b ∷ bs → b ∷ take n bs ≡ take (1 + n) text
first_bytes text b bs n e = let d : 1 + n ≡ suc n = omega arith in sym (ap (take (1 + n)) e ∙ ap (λ m. take m (b ∷ bs)) d)

-- the lexemes are that of the first token, before those of what settles behind it
pub split-taken : (text : List ℕ) (b : ℕ) (bs : List ℕ) (k : TokenKind) (n : ℕ) (us : List ℕ) → text ≡ b ∷ bs → IsSettled text → Some (lexeme_of k (b ∷ take n bs), n) ≡ first_lexeme b bs
    → lexemes_to_bad us ≡ lexemes_to_bad (take (length bs - n) (drop n bs)) → lexemes_to_bad text ≡ lexeme_of k (take (1 + n) text) ∷ lexemes_to_bad us
split-taken text b bs k n us e s f h =
    ap lexemes_to_bad e
    ∙ taken-front b bs k n (subst IsSettled e s) f
    ∙ ap (λ l. lexeme_of k (b ∷ take n bs) ∷ l) (ap lexemes_to_bad (sym (take_rest bs n)) ∙ sym h)
    ∙ ap (λ x. lexeme_of k x ∷ lexemes_to_bad us) (first_bytes text b bs n e)

pub split-spelled : (text : List ℕ) (b : ℕ) (bs : List ℕ) (k : TokenKind) (n : ℕ) → text ≡ b ∷ bs → Ok (k, n) ≡ first_token b bs → IsSpelling k (take (1 + n) text)
split-spelled text b bs k n e f = subst (IsSpelling k) (first_bytes text b bs n e) (takes b bs (k, n) (sym f)).spelling

local-token : (bs : List ℕ) → fits_name (run_len bs) ≡ true → Ok (kind.Local, run_len bs) ≡ first_token 37 bs
unfolding first_token
local-token bs f =
    let z : nat_eq (run_len bs) 0 ≡ false = grind (arith, common_steps) in
    let l : nat_lt (run_len bs) 256 ≡ true = grind (arith, common_steps) in
    rw (z, l) refl

local-lexeme : (bs : List ℕ) → fits_name (run_len bs) ≡ true → Some (lexeme_of kind.Local (37 ∷ take (run_len bs) bs), run_len bs) ≡ first_lexeme 37 bs
unfolding first_lexeme
local-lexeme bs f = rw f refl

run-taken : (text bs us : List ℕ) → text ≡ 37 ∷ bs → fits_name (run_len bs) ≡ true → lexemes_to_bad us ≡ lexemes_to_bad (take (length bs - run_len bs) (drop (run_len bs) bs))
    → (lexemes_to_bad text ≡ local (take (run_len bs) bs) ∷ lexemes_to_bad us) × IsName (take (run_len bs) bs)
run-taken text bs us e f q = (
  ap lexemes_to_bad e
      ∙ taken-front 37 bs kind.Local (run_len bs) (refl, refl) (local-lexeme bs f)
      ∙ ap (λ l. local (take (run_len bs) bs) ∷ l) (ap lexemes_to_bad (sym (take_rest bs (run_len bs))) ∙ sym q),
  (takes 37 bs (kind.Local, run_len bs) (sym (local-token bs f))).spelling.1,
)

-- the lexemes are the name behind %, before those of what settles behind it
pub local-taken : (text bs us : List ℕ) (b n : ℕ) → text ≡ b ∷ bs → b ≡ 37 → n ≡ run_len bs → fits_name n ≡ true → lexemes_to_bad us ≡ lexemes_to_bad (take (length bs - n) (drop n bs))
    → (lexemes_to_bad text ≡ local (take n bs) ∷ lexemes_to_bad us) × IsName (take n bs)
local-taken text bs us b n e i v f q =
    subst
    (λ m. fits_name m ≡ true → lexemes_to_bad us ≡ lexemes_to_bad (take (length bs - m) (drop m bs)) → (lexemes_to_bad text ≡ local (take m bs) ∷ lexemes_to_bad us) × IsName (take m bs))
    (sym v) (run-taken text bs us (e ∙ ap (λ x. x ∷ bs) i)) f q

word-lexeme : (b : ℕ) (bs : List ℕ) → is_name_byte b ≡ true → Some (lexeme_of kind.Word (b ∷ take (run_len bs) bs), run_len bs) ≡ first_lexeme b bs
unfolding first_lexeme
word-lexeme b bs n = rw n refl

-- the lexemes are the word in front, before those of what settles behind it
pub word-taken : (text bs us : List ℕ) (b n : ℕ) → text ≡ b ∷ bs → IsSettled text → is_name_byte b ≡ true → n ≡ run_len bs
    → lexemes_to_bad us ≡ lexemes_to_bad (take (length bs - n) (drop n bs)) → lexemes_to_bad text ≡ word (take (1 + n) text) ∷ lexemes_to_bad us
word-taken text bs us b n e s h v q =
    split-taken text b bs kind.Word n us e s (subst (λ m. Some (lexeme_of kind.Word (b ∷ take m bs), m) ≡ first_lexeme b bs) (sym v) (word-lexeme b bs h)) q
