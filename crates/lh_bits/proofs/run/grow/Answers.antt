use Rattle.std.proofs.Common.{take, ap, ◌∙◌, arith, ◌∷◌, []}
use Rattle.std.proofs.lemmas.List.{take-append-le}
use Rattle.lh_bits.specs.Flags.{word_bit}
use Rattle.lh_bits.proofs.FlagRuns.{word_bit-zero_after}
use Rattle.lh_bits.proofs.run.grow.Goals as goal

pub loop-words-preserved : goal.loop-words-preserved
loop-words-preserved c = record {
  short = omega (arith, c.in-Ok.ensures.len);
  long = omega (arith, c.in-Ok.ensures.len);
  front = ap (λ ws. take c.len-held.result ws) c.in-Ok.ensures.ok ∙ take-append-le c.len-held.result c.loop-words.words.items (0 ∷ []) (c.loop-words.invariant.long)
      ∙ c.loop-words.invariant.front;
  same = λ i. ap (λ ws. word_bit ws i) c.in-Ok.ensures.ok ∙ word_bit-zero_after c.loop-words.words.items i ∙ c.loop-words.invariant.same i;
}
