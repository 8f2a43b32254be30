use Rattle.std.proofs.Common.{◌≡◌, ℕ, List, Some, None, Result, Ok, Err, IfOk, IfErr, map, ap, ◌∙◌}
use Rattle.lh_unit.specs.Lexemes.{lexemes}
use Rattle.lh_unit.specs.Tokens.{tokens, lexeme_at, lexemes_of, fault_place, AreTokensOf, Covers}
use Rattle.lh_unit.specs.declared.token.Token.{Token}
use Rattle.lh_unit.proofs.LexedTokens.{lexemes-tokens, tokens-spelled, tokens-covered}
use Rattle.lh_lex.specs.Faults.{NamesBadByte, LineIsRefused}
use Rattle.lh_lex.specs.declared.LexFault.{LexFault}
use Rattle.lh_lex.specs.declared.LexFault.TheVariants.{BadByte, OutOfMemory}
use Rattle.lh_lex.proofs.line.Goals as goal

lexed : (text : List ℕ) (r : Result (List Token) LexFault) → IfOk r (λ ts. tokens text ≡ Ok ts) → IfOk r (λ ts. lexemes text ≡ Some (map (lexeme_at text) ts))
lexed text (Ok ts) e = lexemes-tokens text ∙ ap (lexemes_of text) e
lexed text (Err f) e = tt

spelled : (text : List ℕ) (r : Result (List Token) LexFault) → IfOk r (λ ts. tokens text ≡ Ok ts) → IfOk r (AreTokensOf text)
spelled text (Ok ts) e = tokens-spelled text ts e
spelled text (Err f) e = tt

covered : (text : List ℕ) (r : Result (List Token) LexFault) → IfOk r (λ ts. tokens text ≡ Ok ts) → IfOk r (Covers text 0)
covered text (Ok ts) e = tokens-covered text ts e
covered text (Err f) e = tt

no_lexemes : (text : List ℕ) (n : ℕ) (r : Result (List Token) ℕ) → fault_place r ≡ Some n → lexemes_of text r ≡ None
no_lexemes text n (Ok ts) e = cc
no_lexemes text n (Err m) e = cc

refused : (text : List ℕ) (r : Result (List Token) LexFault) → IfErr r (λ e. NamesBadByte e text) → IfErr r (λ e. LineIsRefused e text)
refused text (Ok ts) e = tt
refused text (Err (BadByte n)) e = lexemes-tokens text ∙ no_lexemes text n (tokens text) e
refused text (Err OutOfMemory) e = tt

pub returns-clause-lexed : goal.returns-clause-lexed
returns-clause-lexed c = lexed c.args.text.now c.scan.result c.scan.ensures.ok

pub returns-clause-spelled : goal.returns-clause-spelled
returns-clause-spelled c = spelled c.args.text.now c.scan.result c.scan.ensures.ok

pub returns-clause-covered : goal.returns-clause-covered
returns-clause-covered c = covered c.args.text.now c.scan.result c.scan.ensures.ok

pub returns-clause-refused : goal.returns-clause-refused
returns-clause-refused c = refused c.args.text.now c.scan.result c.scan.ensures.fault
