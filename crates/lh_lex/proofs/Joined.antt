-- Tokens found so far, and the tokens of the rest.
use Rattle.std.proofs.Common.{◌≡◌, ℕ, ◌+◌, zero, suc, List, [], ◌∷◌, ◌++◌, drop, Result, Ok, Err, refl, ap, sym, ◌∙◌, append_assoc, arith, false}
use Rattle.lh_unit.specs.Lexemes.{is_white, is_comment}
use Rattle.lh_unit.specs.Tokens.{tokens_after, front_token, first_token}
use Rattle.lh_unit.specs.declared.token.Token.{Token}
use Rattle.lh_unit.specs.declared.token.TokenKind.{TokenKind}

-- the tokens found so far before those of the rest
abbrev pub joined : List Token → Result (List Token) ℕ → Result (List Token) ℕ
joined ts (Ok us) = Ok (ts ++ us)
joined ts (Err n) = Err n

pub joined-push : (ts : List Token) (t : Token) (r : Result (List Token) ℕ) → joined (ts ++ t ∷ []) r ≡ joined ts (front_token t r)
joined-push ts t (Ok us) = ap Ok (append_assoc ts (t ∷ []) us)
joined-push ts t (Err n) = refl

-- skipping k bytes
pub tokens_after-drop : (at k : ℕ) (bs : List ℕ) → tokens_after at k bs ≡ tokens_after (at + k) 0 (drop k bs)
tokens_after-drop at zero bs = ap (λ a. tokens_after a 0 bs) (omega arith)
tokens_after-drop at (suc k) [] = refl
tokens_after-drop at (suc k) (b ∷ bs) = tokens_after-drop (at + 1) k bs ∙ ap (λ a. tokens_after a 0 (drop k bs)) (omega arith)

-- one more token
pub joined-token : (ts : List Token) (at b : ℕ) (bs : List ℕ) (k : TokenKind) (n : ℕ) → is_white b ≡ false → is_comment b bs ≡ false → Ok (k, n) ≡ first_token b bs
    → joined (ts ++ record { kind = k; from = at; to = at + 1 + n } ∷ []) (tokens_after (at + 1 + n) 0 (drop n bs)) ≡ joined ts (tokens_after at 0 (b ∷ bs))
joined-token ts at b bs k n w c f =
    let t : Token = record { kind = k; from = at; to = at + 1 + n } in
    let d : tokens_after at 0 (b ∷ bs) ≡ front_token t (tokens_after (at + 1) n bs) = rw (w, c, ← f) refl in
    ap (joined (ts ++ t ∷ [])) (sym (tokens_after-drop (at + 1) n bs)) ∙ joined-push ts t (tokens_after (at + 1) n bs) ∙ ap (joined ts) (sym d)
