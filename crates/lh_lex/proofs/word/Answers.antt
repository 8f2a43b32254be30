use Rattle.std.proofs.Common.{◌≡◌, ◌∷◌, true, rules}
use Rattle.lh_unit_names.specs.Names.{is_name_byte}
use Rattle.lh_lex.proofs.TokenFronts.{word-taken}
use Rattle.lh_lex.proofs.word.Goals as goal

pub returns-clause-taken : goal.returns-clause-taken
returns-clause-taken c =
    let e : c.args.text.now ≡ c.in_ok-b.b.now ∷ c.in_ok-b.more.now = search rules in
    let n : is_name_byte c.in_ok-b.b.now ≡ true = search rules in
    word-taken c.args.text.now c.in_ok-b.more.now c.from_token.result.now c.in_ok-b.b.now c.name_len-len.result e c.requires n c.name_len-len.ensures.value c.from_token.ensures.same
