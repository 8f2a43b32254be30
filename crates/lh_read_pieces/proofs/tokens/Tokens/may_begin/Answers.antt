use Rattle.std.proofs.Common.{◌≡◌, ◌∷◌, rules, ap, sym, ◌∙◌}
use Rattle.lh_lex.specs.Front.{lexemes_to_bad}
use Rattle.lh_read_pieces.specs.Pieces.{word_at}
use Rattle.lh_read_pieces.proofs.Fronts.{other-word}
use Rattle.lh_read_pieces.proofs.tokens.Tokens.may_begin.Goals as goal

pub returns-in-Some-Some : goal.returns-in-Some-Some
returns-in-Some-Some c =
    let e : c.self.inside.rest.now ≡ c.in-Some-Some.byte.now ∷ c.in-Some-Some.field-0-1-0.now = search rules in
    let t : c.args.text.now ≡ c.in-Some-Some.first.now ∷ c.in-Some-Some.field-0-1-1.now = search rules in
    let v : lexemes_to_bad c.self.inside.rest.now ≡ c.args.self.now = search rules in
    λ n. other-word c.in-Some-Some.first.now c.in-Some-Some.byte.now c.in-Some-Some.field-0-1-1.now c.in-Some-Some.field-0-1-0.now c.self.inside.rest.now e c.self.invariant n
    ∙ ap (word_at (c.in-Some-Some.first.now ∷ c.in-Some-Some.field-0-1-1.now)) v
    ∙ ap (λ w. word_at w c.args.self.now) (sym t)
