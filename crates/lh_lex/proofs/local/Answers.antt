use Rattle.std.proofs.Common.{◌≡◌, ◌∷◌, true, rules}
use Rattle.lh_unit.specs.Lexemes.{fits_name}
use Rattle.lh_lex.proofs.TokenFronts.{local-taken}
use Rattle.lh_lex.proofs.local.Goals as goal

pub returns-clause-taken : goal.returns-clause-taken
returns-clause-taken c =
    let e : c.args.text.now ≡ c.in_ok-b.b.now ∷ c.in_ok-b.more.now = search rules in
    let f : fits_name c.name_len-len.result ≡ true = search rules in
    (local-taken c.args.text.now c.in_ok-b.more.now c.from_token.result.now c.in_ok-b.b.now c.name_len-len.result e c.if-b-ne37.false c.name_len-len.ensures.value f c.from_token.ensures.same).0

pub returns-clause-name : goal.returns-clause-name
returns-clause-name c =
    let e : c.args.text.now ≡ c.in_ok-b.b.now ∷ c.in_ok-b.more.now = search rules in
    let f : fits_name c.name_len-len.result ≡ true = search rules in
    (local-taken c.args.text.now c.in_ok-b.more.now c.from_token.result.now c.in_ok-b.b.now c.name_len-len.result e c.if-b-ne37.false c.name_len-len.ensures.value f c.from_token.ensures.same).1
