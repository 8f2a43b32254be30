use Rattle.std.proofs.Common.{◌≡◌, ◌++◌, ◌∷◌, [], refl, ap, ◌∙◌, ◌<◌, arith}
use Rattle.lh_emit_body.proofs.AddedLines.{adds-arg}
use Rattle.lh_emit_body.proofs.lines.Lines.add_arg.Goals as goal

pub returns : goal.returns
returns c =
    let few : c.args.self.now.fresh.count < 4294967295 = omega arith in
    adds-arg c.args.self.now record { fresh = c.pass_over.new.self; names = c.push.new.self; lines = c.args.self.now.lines } c.args.name.now c.requires few
    c.in_ok-pass_over.ensures.passed c.in_ok-pass_over.ensures.next c.in_ok-pass_over.ensures.count
    (c.in_ok-push.ensures.ok ∙ ap (λ n. c.args.self.now.names ++ n ∷ []) c.in_ok-copy.ensures) refl
