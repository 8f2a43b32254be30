-- Tokens with places against lexemes, and what the tokens of a line cover.
use Rattle.std.proofs.Common.{◌≡◌, ℕ, ◌+◌, ◌-◌, ◌≤◌, zero, suc, Bool, true, false, List, [], ◌∷◌, length, take, drop, Option, Some, None, Result, Ok, Err, if◌then◌else◌, nat_eq, nat_lt, refl, ap, sym, ◌∙◌, subst, arith, add-one}
use Rattle.std.proofs.lemmas.List.{drop-drop, length-take-le}
use Rattle.std.proofs.lemmas.Grind.{common_steps}
use Rattle.lh_unit_names.specs.Names.{is_name_byte, all_name_bytes, IsName}
use Rattle.lh_unit.specs.Lexemes.{Lexeme, word, global, local, arrow, minus, punct, lexemes, lexemes_after, front, first_lexeme, run_len, fits_name, is_white, is_comment, is_punct, begins}
use Rattle.lh_unit.specs.Tokens.{named, first_token, tokens, tokens_after, front_token, bytes_at, lexeme_of, lexeme_at, lexemes_of, IsSpelling, AreTokensOf, all_white, Covers}
use Rattle.lh_unit.specs.declared.token.Token.{Token}
use Rattle.lh_unit.specs.declared.token.TokenKind.{TokenKind}
use Rattle.lh_unit.specs.declared.token.TokenKind.TheVariants as kind
use Rattle.lh_types.proofs.Tests.{nat_eq-suc_zero}

drop-next : (at : ℕ) (text : List ℕ) (b : ℕ) (bs : List ℕ) → drop at text ≡ b ∷ bs → drop (at + 1) text ≡ bs
drop-next at text b bs d = sym (drop-drop 1 at text) ∙ ap (drop 1) d

-- the bytes of the token that begins with b
bytes_at-first : (at n : ℕ) (text : List ℕ) (b : ℕ) (bs : List ℕ) → drop at text ≡ b ∷ bs → bytes_at text at (at + 1 + n) ≡ b ∷ take n bs
bytes_at-first at n text b bs d = let e : at + 1 + n - at ≡ suc n = omega arith in rw (e, d) refl

-- a token's lexeme with the bytes it takes
lexeme_of_first : Result (TokenKind × ℕ) ℕ → ℕ → List ℕ → Option (Lexeme × ℕ)
lexeme_of_first (Ok p) b bs = Some (lexeme_of p.0 (b ∷ take p.1 bs), p.1)
lexeme_of_first (Err n) b bs = None

above_zero : (n : ℕ) → nat_lt 0 (suc n) ≡ true
above_zero n = grind (arith, common_steps)

sigil_test : (k : TokenKind) (name : List ℕ → Lexeme) (few : Bool) (b n : ℕ) (bs : List ℕ) → ((c : List ℕ) → name c ≡ lexeme_of k (b ∷ c))
    → (if few then Some (name (take n bs), n) else None) ≡ lexeme_of_first (if few then Ok (k, n) else Err 256) b bs
unfolding lexeme_of_first
sigil_test k name true b n bs h = ap (λ l. Some (l, n)) (h (take n bs))
sigil_test k name false b n bs h = refl

sigil : (k : TokenKind) (name : List ℕ → Lexeme) (b n : ℕ) (bs : List ℕ) → ((c : List ℕ) → name c ≡ lexeme_of k (b ∷ c))
    → (if fits_name n then Some (name (take n bs), n) else None) ≡ lexeme_of_first (named k n) b bs
unfolding lexeme_of_first
sigil k name b zero bs h = refl
sigil k name b (suc n) bs h = rw (above_zero n, nat_eq-suc_zero n) (sigil_test k name (nat_lt (suc n) 256) b (suc n) bs h)

-- by the tests of the first byte
by_tests : (name g l dash more mark : Bool) (b n : ℕ) (bs : List ℕ) →
    (if name then Some (word (b ∷ take n bs), n)
    else if g then (if fits_name n then Some (global (take n bs), n) else None)
    else if l then (if fits_name n then Some (local (take n bs), n) else None)
    else if dash then (if more then Some (arrow, 1) else Some (minus, 0))
    else if mark then Some (punct b, 0) else None)
    ≡ lexeme_of_first
    (if name then Ok (kind.Word, n)
    else if g then named kind.Global n
    else if l then named kind.Local n
    else if dash then (if more then Ok (kind.Arrow, 1) else Ok (kind.Minus, 0))
    else if mark then Ok (kind.Punct b, 0) else Err 0) b bs
unfolding lexeme_of_first
by_tests true g l dash more mark b n bs = refl
by_tests false true l dash more mark b n bs = sigil kind.Global global b n bs (λ c. refl)
by_tests false false true dash more mark b n bs = sigil kind.Local local b n bs (λ c. refl)
by_tests false false false true true mark b n bs = refl
by_tests false false false true false mark b n bs = refl
by_tests false false false false more true b n bs = refl
by_tests false false false false more false b n bs = refl

first_lexeme-first_token : (b : ℕ) (bs : List ℕ) → first_lexeme b bs ≡ lexeme_of_first (first_token b bs) b bs
unfolding first_lexeme first_token
first_lexeme-first_token b bs = by_tests (is_name_byte b) (nat_eq b 64) (nat_eq b 37) (nat_eq b 45) (begins 62 bs) (is_punct b) b (run_len bs) bs

front-lexemes_of : (text : List ℕ) (t : Token) (r : Result (List Token) ℕ) → front (lexeme_at text t) (lexemes_of text r) ≡ lexemes_of text (front_token t r)
front-lexemes_of text t (Ok ts) = refl
front-lexemes_of text t (Err n) = refl

-- the tokens after one byte, by what it is
lexemes-step : (text : List ℕ) (at b : ℕ) (bs : List ℕ) (w c : Bool) (r : Result (TokenKind × ℕ) ℕ)
    → drop at text ≡ b ∷ bs → ((k : ℕ) → lexemes_after k bs ≡ lexemes_of text (tokens_after (at + 1) k bs))
    → (if w then lexemes_after 0 bs else if c then Some [] else elim (lexeme_of_first r b bs) [ None ↦ None | Some p ↦ front p.0 (lexemes_after p.1 bs) ])
    ≡ lexemes_of text (if w then tokens_after (at + 1) 0 bs else if c then Ok [] else elim r [
      | Ok p ↦ front_token (record { kind = p.0; from = at; to = at + 1 + p.1 }) (tokens_after (at + 1) p.1 bs)
      | Err n ↦ Err (at + n)
    ])
unfolding lexeme_of_first
lexemes-step text at b bs true c r d more = more 0
lexemes-step text at b bs false true r d more = refl
lexemes-step text at b bs false false (Err n) d more = refl
lexemes-step text at b bs false false (Ok p) d more =
    ap (λ s. front (lexeme_of p.0 s) (lexemes_after p.1 bs)) (sym (bytes_at-first at p.1 text b bs d))
    ∙ ap (front (lexeme_at text (record { kind = p.0; from = at; to = at + 1 + p.1 }))) (more p.1)
    ∙ front-lexemes_of text (record { kind = p.0; from = at; to = at + 1 + p.1 }) (tokens_after (at + 1) p.1 bs)

lexemes_after-tokens_after : (text : List ℕ) (at k : ℕ) (bs : List ℕ) → drop at text ≡ bs → lexemes_after k bs ≡ lexemes_of text (tokens_after at k bs)
lexemes_after-tokens_after text at k [] d = refl
lexemes_after-tokens_after text at (suc k) (b ∷ bs) d = lexemes_after-tokens_after text (at + 1) k bs (drop-next at text b bs d)
lexemes_after-tokens_after text at zero (b ∷ bs) d =
    ap (λ f. if is_white b then lexemes_after 0 bs else if is_comment b bs then Some [] else elim f [ None ↦ None | Some p ↦ front p.0 (lexemes_after p.1 bs) ]) (first_lexeme-first_token b bs)
    ∙ lexemes-step text at b bs (is_white b) (is_comment b bs) (first_token b bs) d (λ k. lexemes_after-tokens_after text (at + 1) k bs (drop-next at text b bs d))

-- the tokens of a line are its lexemes
pub lexemes-tokens : (text : List ℕ) → lexemes text ≡ lexemes_of text (tokens text)
lexemes-tokens text = lexemes_after-tokens_after text 0 0 text refl

run_len-le : (bs : List ℕ) → run_len bs ≤ length bs
run_len-le [] = omega arith
run_len-le (b ∷ bs) = elim (is_name_byte b) as (λ t. (if t then run_len bs + 1 else 0) ≤ length (b ∷ bs)) [ true ↦ omega (arith, run_len-le bs) | false ↦ omega arith ]

run_step : (t : Bool) (b : ℕ) (bs : List ℕ) → is_name_byte b ≡ t → all_name_bytes (take (run_len bs) bs) ≡ true → all_name_bytes (take (if t then run_len bs + 1 else 0) (b ∷ bs)) ≡ true
run_step true b bs e more = rw (add-one, e) more
run_step false b bs e more = refl

run_len-names : (bs : List ℕ) → all_name_bytes (take (run_len bs) bs) ≡ true
run_len-names [] = refl
run_len-names (b ∷ bs) = run_step (is_name_byte b) b bs refl (run_len-names bs)

-- what the token that begins with b takes
pub record Takes (b : ℕ) (bs : List ℕ) (p : TokenKind × ℕ) : Type 0 where
  pub within : p.1 ≤ length bs
  pub spelling : IsSpelling p.0 (b ∷ take p.1 bs)

abbrev IsOkOf : Result (TokenKind × ℕ) ℕ → TokenKind × ℕ → Type 0
IsOkOf r p = r ≡ Ok p

named-ok : (k : TokenKind) (n : ℕ) (p : TokenKind × ℕ) → named k n ≡ Ok p → ((k, n) ≡ p) × (1 ≤ n) × (n ≤ 255)
named-ok k zero p e = cc
named-ok k (suc n) p e = few (nat_lt (suc n) 256) refl (rw (nat_eq-suc_zero n) at e)
  where
    few : (t : Bool) → nat_lt (suc n) 256 ≡ t → IsOkOf (if t then Ok (k, suc n) else Err 256) p → ((k, suc n) ≡ p) × (1 ≤ suc n) × (suc n ≤ 255)
    few true l f = (cc, omega arith, grind (arith, common_steps))
    few false l f = cc

run_name : (n : ℕ) (bs : List ℕ) → n ≡ run_len bs → 1 ≤ n → n ≤ 255 → IsName (take n bs)
run_name n bs e l h =
    let w : n ≤ length bs = omega (arith, run_len-le bs) in
    let z : length (take n bs) ≡ n = length-take-le n bs w in
    (omega arith, omega arith, rw e (run_len-names bs))

takes_sigil : (k : TokenKind) (s b : ℕ) (bs : List ℕ) (p : TokenKind × ℕ) → ((c : List ℕ) → c ≡ s ∷ drop 1 c → IsName (drop 1 c) → IsSpelling k c) → nat_eq b s ≡ true → named k (run_len bs) ≡ Ok p
    → Takes b bs p
takes_sigil k s b bs p spell is e =
    let q = named-ok k (run_len bs) p e in
    let m : b ≡ s = grind (arith, common_steps) in
    subst (Takes b bs) q.0 (record { within = run_len-le bs; spelling = spell (b ∷ take (run_len bs) bs) (ap (λ c. c ∷ take (run_len bs) bs) m) (run_name (run_len bs) bs refl q.1 q.2) })

takes_arrow : (b : ℕ) (bs : List ℕ) → nat_eq b 45 ≡ true → begins 62 bs ≡ true → Takes b bs (kind.Arrow, 1)
takes_arrow b [] e f = cc
takes_arrow b (c ∷ bs) e f =
    let m : b ≡ 45 = grind (arith, common_steps) in
    let n : c ≡ 62 = grind (arith, common_steps) in
    record { within = omega arith; spelling = rw (m, n) refl }

takes_by_tests : (name g l dash more mark : Bool) (b n : ℕ) (bs : List ℕ) (p : TokenKind × ℕ)
    → is_name_byte b ≡ name → nat_eq b 64 ≡ g → nat_eq b 37 ≡ l → nat_eq b 45 ≡ dash → begins 62 bs ≡ more → is_punct b ≡ mark → n ≡ run_len bs
    → (if name then Ok (kind.Word, n)
    else if g then named kind.Global n
    else if l then named kind.Local n
    else if dash then (if more then Ok (kind.Arrow, 1) else Ok (kind.Minus, 0))
    else if mark then Ok (kind.Punct b, 0) else Err 0) ≡ Ok p
    → Takes b bs p
takes_by_tests true g l dash more mark b n bs p na ga la da mo ma r e =
    let q : (kind.Word, run_len bs) ≡ p = cc in
    subst (Takes b bs) q (record { within = run_len-le bs; spelling = (omega arith, rw na (run_len-names bs)) })
takes_by_tests false true l dash more mark b n bs p na ga la da mo ma r e = takes_sigil kind.Global 64 b bs p (λ c f h. (f, h)) ga (ap (named kind.Global) (sym r) ∙ e)
takes_by_tests false false true dash more mark b n bs p na ga la da mo ma r e = takes_sigil kind.Local 37 b bs p (λ c f h. (f, h)) la (ap (named kind.Local) (sym r) ∙ e)
takes_by_tests false false false true true mark b n bs p na ga la da mo ma r e = let q : (kind.Arrow, 1) ≡ p = cc in subst (Takes b bs) q (takes_arrow b bs da mo)
takes_by_tests false false false true false mark b n bs p na ga la da mo ma r e =
    let q : (kind.Minus, 0) ≡ p = cc in
    let m : b ≡ 45 = grind (arith, common_steps) in
    subst (Takes b bs) q (record { within = omega arith; spelling = ap (λ c. c ∷ []) m })
takes_by_tests false false false false more true b n bs p na ga la da mo ma r e = let q : (kind.Punct b, 0) ≡ p = cc in subst (Takes b bs) q (record { within = omega arith; spelling = (refl, ma) })
takes_by_tests false false false false more false b n bs p na ga la da mo ma r e = cc

pub takes : (b : ℕ) (bs : List ℕ) (p : TokenKind × ℕ) → first_token b bs ≡ Ok p → Takes b bs p
unfolding first_token
takes b bs p e = takes_by_tests (is_name_byte b) (nat_eq b 64) (nat_eq b 37) (nat_eq b 45) (begins 62 bs) (is_punct b) b (run_len bs) bs p refl refl refl refl refl refl refl e

length-rest : (at : ℕ) (text : List ℕ) (b : ℕ) (bs : List ℕ) → drop at text ≡ b ∷ bs → at + 1 + length bs ≡ length text
length-rest at text b bs d = grind (arith, common_steps, ap length d)

-- what stands from a place on
record Found (text : List ℕ) (at : ℕ) (ts : List Token) : Type 0 where
  spelled : AreTokensOf text ts
  covered : Covers text at ts

white_front : (text : List ℕ) (at from b : ℕ) (bs : List ℕ) → drop at text ≡ b ∷ bs → is_white b ≡ true → at + 1 ≤ from → all_white (bytes_at text (at + 1) from) ≡ true
    → all_white (bytes_at text at from) ≡ true
white_front text at from b bs d w h more =
    let e : from - at ≡ suc (from - (at + 1)) = omega arith in
    rw (e, d, w) (rw (drop-next at text b bs d) at more)

covers-white : (text : List ℕ) (at b : ℕ) (bs : List ℕ) (ts : List Token) → drop at text ≡ b ∷ bs → is_white b ≡ true → Covers text (at + 1) ts → Covers text at ts
covers-white text at b bs [] d w more = rw (d, w) (rw (drop-next at text b bs d) at more)
covers-white text at b bs (t ∷ ts) d w more = (let h : at + 1 ≤ t.from = more.0 in omega arith, white_front text at t.from b bs d w more.0 more.1, more.2)

found_token : (text : List ℕ) (at b : ℕ) (bs : List ℕ) (p : TokenKind × ℕ) (us : List Token) → drop at text ≡ b ∷ bs → Takes b bs p → Found text (at + 1 + p.1) us
    → Found text at (record { kind = p.0; from = at; to = at + 1 + p.1 } ∷ us)
found_token text at b bs p us d t more =
    let w : p.1 ≤ length bs = t.within in
    let e : at - at ≡ 0 = omega arith in
    record {
      spelled = (record { begins_in = omega arith; ends_in = omega (arith, length-rest at text b bs d); spelling = rw (bytes_at-first at p.1 text b bs d) t.spelling }, more.spelled);
      covered = (omega arith, rw e refl, more.covered);
    }

found_front : (text : List ℕ) (at b : ℕ) (bs : List ℕ) (p : TokenKind × ℕ) (r : Result (List Token) ℕ) (ts : List Token) → drop at text ≡ b ∷ bs → Takes b bs p
    → ((us : List Token) → r ≡ Ok us → Found text (at + 1 + p.1) us)
    → front_token (record { kind = p.0; from = at; to = at + 1 + p.1 }) r ≡ Ok ts → Found text at ts
found_front text at b bs p (Err n) ts d t more e = cc
found_front text at b bs p (Ok us) ts d t more e =
    let q : record { kind = p.0; from = at; to = at + 1 + p.1 } ∷ us ≡ ts = cc in
    subst (Found text at) q (found_token text at b bs p us d t (more us refl))

found_step : (text : List ℕ) (at b : ℕ) (bs : List ℕ) (ts : List Token) (w c : Bool) (r : Result (TokenKind × ℕ) ℕ)
    → drop at text ≡ b ∷ bs → is_white b ≡ w → is_comment b bs ≡ c → first_token b bs ≡ r
    → ((k : ℕ) (us : List Token) → k ≤ length bs → tokens_after (at + 1) k bs ≡ Ok us → Found text (at + 1 + k) us)
    → (if w then tokens_after (at + 1) 0 bs else if c then Ok [] else elim r [
      | Ok p ↦ front_token (record { kind = p.0; from = at; to = at + 1 + p.1 }) (tokens_after (at + 1) p.1 bs)
      | Err n ↦ Err (at + n)
    ]) ≡ Ok ts
    → Found text at ts
found_step text at b bs ts true c r d wi co f more e =
    let z : at + 1 + 0 ≡ at + 1 = omega arith in
    let m : Found text (at + 1) ts = subst (λ a. Found text a ts) z (more 0 ts (omega arith) e) in
    record { spelled = m.spelled; covered = covers-white text at b bs ts d wi m.covered }
found_step text at b bs ts false true r d wi co f more e =
    let q : [] ≡ ts = cc in
    subst (Found text at) q (record { spelled = tt; covered = rw (d, wi) co })
found_step text at b bs ts false false (Err n) d wi co f more e = cc
found_step text at b bs ts false false (Ok p) d wi co f more e =
    let t : Takes b bs p = takes b bs p f in
    found_front text at b bs p (tokens_after (at + 1) p.1 bs) ts d t (λ us g. more p.1 us t.within g) e

found_end : (text : List ℕ) (at k : ℕ) (ts : List Token) → drop at text ≡ [] → k ≤ 0 → tokens_after at k [] ≡ Ok ts → Found text (at + k) ts
found_end text at k ts d h e =
    let q : [] ≡ ts = cc in
    let z : at ≡ at + k = omega arith in
    subst (Found text (at + k)) q (subst (λ a. Found text a []) z (record { spelled = tt; covered = rw d refl }))

found : (text : List ℕ) (at k : ℕ) (bs : List ℕ) (ts : List Token) → drop at text ≡ bs → k ≤ length bs → tokens_after at k bs ≡ Ok ts → Found text (at + k) ts
found text at k [] ts d h e = found_end text at k ts d h e
found text at (suc k) (b ∷ bs) ts d h e =
    let z : at + 1 + k ≡ at + suc k = omega arith in
    subst (λ a. Found text a ts) z (found text (at + 1) k bs ts (drop-next at text b bs d) (omega arith) e)
found text at zero (b ∷ bs) ts d h e =
    let z : at ≡ at + 0 = omega arith in
    subst (λ a. Found text a ts) z (found_step text at b bs ts (is_white b) (is_comment b bs) (first_token b bs) d refl refl refl
    (λ k us l f. found text (at + 1) k bs us (drop-next at text b bs d) l f) e)

-- each token of a line is what its kind says
pub tokens-spelled : (text : List ℕ) (ts : List Token) → tokens text ≡ Ok ts → AreTokensOf text ts
tokens-spelled text ts e = (found text 0 0 text ts refl (omega arith) e).spelled

-- the tokens of a line leave nothing but white and the comment
pub tokens-covered : (text : List ℕ) (ts : List Token) → tokens text ≡ Ok ts → Covers text 0 ts
tokens-covered text ts e = (found text 0 0 text ts refl (omega arith) e).covered
