use Rattle.std.proofs.Common.{◌≡◌, false, rules, ap, ◌∙◌}
use Rattle.lh_unit.specs.Lexemes.{begins}
use Rattle.lh_lex.specs.Front.{lexemes_to_bad}
use Rattle.lh_read_pieces.specs.Pieces.{arrow_at}
use Rattle.lh_read_pieces.proofs.Fronts.{other-arrow}
use Rattle.lh_read_pieces.proofs.tokens.Tokens.arrow.Goals as goal

pub returns-then-not-begins_dashed : goal.returns-then-not-begins_dashed
returns-then-not-begins_dashed c =
    let o : begins 45 c.self.inside.rest.now ≡ false = search rules in
    let v : lexemes_to_bad c.self.inside.rest.now ≡ c.args.self.now = search rules in
    other-arrow c.self.inside.rest.now c.self.invariant o ∙ ap arrow_at v
