use Rattle.std.proofs.Common.{◌≡◌, false, None, rules, ap, ◌∙◌}
use Rattle.std.specs.Prelude.{option_map}
use Rattle.lh_lex.specs.Front.{lexemes_to_bad, begins_word}
use Rattle.lh_read_pieces.specs.Pieces.{any_word_at}
use Rattle.lh_read_pieces.proofs.Fronts.{other-any}
use Rattle.lh_read_pieces.proofs.tokens.Tokens.any_word.Goals as goal

pub returns-in_err-word : goal.returns-in_err-word
returns-in_err-word c =
    let r : c.from_residual.result ≡ None = search rules in
    let o : begins_word c.self.inside.rest.now ≡ false = search rules in
    let v : lexemes_to_bad c.self.inside.rest.now ≡ c.args.self.now = search rules in
    ap (option_map (λ r. (r.0.now, r.1))) r ∙ other-any c.self.inside.rest.now c.self.invariant o ∙ ap any_word_at v
