use Rattle.std.proofs.Common.{◌≡◌, false, None, rules, ap, ◌∙◌}
use Rattle.lh_lex.specs.Front.{lexemes_to_bad, begins_local}
use Rattle.lh_read_pieces.specs.Pieces.{local_at}
use Rattle.lh_read_pieces.proofs.Fronts.{other-local}
use Rattle.lh_read_pieces.proofs.tokens.Tokens.local.Goals as goal

pub returns-in_err-bytes : goal.returns-in_err-bytes
returns-in_err-bytes c =
    let r : c.from_residual.result ≡ None = search rules in
    let o : begins_local c.self.inside.rest.now ≡ false = search rules in
    let v : lexemes_to_bad c.self.inside.rest.now ≡ c.args.self.now = search rules in
    r ∙ other-local c.self.inside.rest.now c.self.invariant o ∙ ap local_at v
