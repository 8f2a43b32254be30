use Rattle.std.proofs.Common.{◌≡◌, ◌∷◌, true, false, nat_eq, rules, arith, ap, ◌∙◌}
use Rattle.std.proofs.lemmas.Grind.{common_steps}
use Rattle.lh_unit.specs.Lexemes.{is_punct}
use Rattle.lh_lex.specs.Front.{lexemes_to_bad}
use Rattle.lh_read_pieces.specs.Pieces.{punct_at}
use Rattle.lh_read_pieces.proofs.Fronts.{other-byte, no-punct, marked}
use Rattle.lh_read_pieces.proofs.tokens.Tokens.punct.Goals as goal

pub returns-then-byte-mark : goal.returns-then-byte-mark
returns-then-byte-mark c =
    let e : c.self.inside.rest.now ≡ c.in_ok-byte.byte.now ∷ c.in_ok-byte.more.now = search rules in
    let n : nat_eq c.in_ok-byte.byte.now c.args.mark ≡ false = grind (arith, common_steps) in
    let v : lexemes_to_bad c.self.inside.rest.now ≡ c.args.self.now = search rules in
    other-byte c.args.mark c.in_ok-byte.byte.now c.in_ok-byte.more.now c.self.inside.rest.now e c.self.invariant (omega arith) n ∙ ap (punct_at c.args.mark) v

pub returns-then-not-is_mark : goal.returns-then-not-is_mark
returns-then-not-is_mark c =
    let e : c.self.inside.rest.now ≡ c.in_ok-byte.byte.now ∷ c.in_ok-byte.more.now = search rules in
    let n : is_punct c.args.mark ≡ false = search rules in
    let v : lexemes_to_bad c.self.inside.rest.now ≡ c.args.self.now = search rules in
    no-punct c.args.mark c.in_ok-byte.byte.now c.in_ok-byte.more.now c.self.inside.rest.now e c.self.invariant (omega arith) n ∙ ap (punct_at c.args.mark) v

pub returns : goal.returns
returns c =
    let e : c.self.inside.rest.now ≡ c.args.mark ∷ c.in_ok-byte.more.now = search rules in
    let n : is_punct c.args.mark ≡ true = search rules in
    let v : lexemes_to_bad c.self.inside.rest.now ≡ c.args.self.now = search rules in
    (marked c.args.mark c.in_ok-byte.more.now c.self.inside.rest.now c.from_token-rest.result.now e c.self.invariant n c.from_token-rest.ensures.same)
    ∙ ap (punct_at c.args.mark) v
