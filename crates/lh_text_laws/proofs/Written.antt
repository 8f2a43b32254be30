-- The tokens of a line can be written.
use Rattle.std.proofs.Common.{◌≡◌, ℕ, List, [], ◌∷◌, map, Some, Result, Ok, Err, refl, sym, ◌∙◌, subst}
use Rattle.lh_unit.specs.Lexemes.{Lexeme, lexemes}
use Rattle.lh_unit.specs.Pieces.{IsLexeme}
use Rattle.lh_unit.specs.Within.{Each}
use Rattle.lh_unit.specs.Tokens.{tokens, bytes_at, lexeme_of, lexeme_at, lexemes_of, IsSpelling, AreTokensOf}
use Rattle.lh_unit.specs.declared.token.Token.{Token}
use Rattle.lh_unit.specs.declared.token.TokenKind.{TokenKind}
use Rattle.lh_unit.specs.declared.token.TokenKind.TheVariants as kind
use Rattle.lh_unit.proofs.LexedTokens.{lexemes-tokens, tokens-spelled}

spelled-written : (k : TokenKind) (bs : List ℕ) → IsSpelling k bs → IsLexeme (lexeme_of k bs)
spelled-written kind.Word bs h = h
spelled-written kind.Global bs h = h.1
spelled-written kind.Local bs h = h.1
spelled-written kind.Arrow bs h = tt
spelled-written kind.Minus bs h = tt
spelled-written (kind.Punct b) bs h = h.1

each-written : (text : List ℕ) (us : List Token) → AreTokensOf text us → Each IsLexeme (map (lexeme_at text) us)
each-written text [] h = tt
each-written text (t ∷ us) h = (spelled-written t.kind (bytes_at text t.from t.to) h.0.spelling, each-written text us h.1)

by_tokens : (text : List ℕ) (ts : List Lexeme) (r : Result (List Token) ℕ) → tokens text ≡ r → lexemes_of text r ≡ Some ts → Each IsLexeme ts
by_tokens text ts (Ok us) e q = let p : map (lexeme_at text) us ≡ ts = cc in subst (Each IsLexeme) p (each-written text us (tokens-spelled text us e))
by_tokens text ts (Err n) e q = absurd cc

pub written : (text : List ℕ) (ts : List Lexeme) → lexemes text ≡ Some ts → Each IsLexeme ts
written text ts e = by_tokens text ts (tokens text) refl (sym (lexemes-tokens text) ∙ e)
