use Rattle.std.proofs.Common.{◌≡◌, ◌∷◌, rules}
use Rattle.lh_lex.proofs.TokenFronts.{split-taken, split-spelled}
use Rattle.lh_lex.proofs.split.Goals as goal

pub returns-clause-taken : goal.returns-clause-taken
returns-clause-taken c =
    let e : c.args.text.now ≡ c.in_ok-b.b.now ∷ c.in_ok-b.more.now = search rules in
    split-taken c.args.text.now c.in_ok-b.b.now c.in_ok-b.more.now c.in-Ok.kind c.in-Ok.len c.from_token.result.now e c.requires c.in-Ok.ensures.lexeme c.from_token.ensures.same

pub returns-clause-spelled : goal.returns-clause-spelled
returns-clause-spelled c =
    let e : c.args.text.now ≡ c.in_ok-b.b.now ∷ c.in_ok-b.more.now = search rules in
    split-spelled c.args.text.now c.in_ok-b.b.now c.in_ok-b.more.now c.in-Ok.kind c.in-Ok.len e c.in-Ok.ensures.token
