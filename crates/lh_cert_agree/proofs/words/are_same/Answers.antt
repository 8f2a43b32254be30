use Rattle.std.proofs.Common.{◌≡◌, sym, ap, ◌∙◌, arith}
use Rattle.std.specs.Prelude.{slice_index}
use Rattle.lh_cert_agree.proofs.Wording.{same_next, same_fails}
use Rattle.lh_cert_agree.proofs.words.are_same.Goals as goal

pub returns-then-word_at : goal.returns-then-word_at
returns-then-word_at c =
    let x : c.word_at.result ≡ slice_index c.fill.new.words.items c.args.a = c.word_at.ensures ∙ ap (λ ws. slice_index ws c.args.a) c.deref.ensures.value in
    let y : c.word_at-in-loop-block.result ≡ slice_index c.fill.new.words.items c.args.b = c.word_at-in-loop-block.ensures ∙ ap (λ ws. slice_index ws c.args.b) c.deref-in-loop-block.ensures.value in (
      λ t. cc,
      λ s. absurd (c.if-word_at.true (x ∙ same_fails c.args.gates.now c.args.a c.args.b c.loop-block.block c.args.blocks c.fill.new.words.items c.in_ok-fill.ensures
          (omega (arith, c.loop-block-test.true)) (omega (arith, x, c.word_at.type_inv)) (omega (arith, y, c.word_at-in-loop-block.type_inv)) s ∙ sym y)),
    )

pub loop-block-preserved : goal.loop-block-preserved
loop-block-preserved c =
    let x : c.word_at.result ≡ slice_index c.fill.new.words.items c.args.a = c.word_at.ensures ∙ ap (λ ws. slice_index ws c.args.a) c.deref.ensures.value in
    let y : c.word_at-in-loop-block.result ≡ slice_index c.fill.new.words.items c.args.b = c.word_at-in-loop-block.ensures ∙ ap (λ ws. slice_index ws c.args.b) c.deref-in-loop-block.ensures.value in
    same_next c.args.gates.now c.args.a c.args.b c.loop-block.block c.fill.new.words.items c.in_ok-fill.ensures (sym x ∙ c.if-word_at.false ∙ y) c.loop-block.invariant
