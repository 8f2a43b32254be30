use Rattle.std.proofs.Common.{refl, sym, ◌∙◌}
use Rattle.lh_term.proofs.Arenas.{grows_none}
use Rattle.lh_term.proofs.terms.Terms.neq_terms.Goals as goal

pub returns-then-same-clause-made : goal.returns-then-same-clause-made
returns-then-same-clause-made c = rw (sym c.same.ensures ∙ c.if-same.true) c.bit.ensures.made

pub returns-then-same-clause-kept : goal.returns-then-same-clause-kept
returns-then-same-clause-kept c = c.bit.ensures.kept

pub returns-then-is_bit-clause-made : goal.returns-then-is_bit-clause-made
returns-then-is_bit-clause-made c = rw (sym c.same.ensures ∙ c.if-same.false, sym c.is_bit.ensures ∙ c.if-is_bit.true) (record { is_in = c.requires.x_in; tree = refl })

pub returns-then-is_bit-clause-kept : goal.returns-then-is_bit-clause-kept
returns-then-is_bit-clause-kept c = grows_none c.args.self.now

pub returns-then-is_bit-2-clause-made : goal.returns-then-is_bit-2-clause-made
returns-then-is_bit-2-clause-made c =
    rw (
      sym c.same.ensures ∙ c.if-same.false,
      sym c.is_bit.ensures ∙ c.if-is_bit.false,
      sym c.is_bit-2.ensures ∙ c.if-is_bit-2.true,
    ) (record { is_in = c.requires.y_in; tree = refl })

pub returns-then-is_bit-2-clause-kept : goal.returns-then-is_bit-2-clause-kept
returns-then-is_bit-2-clause-kept c = grows_none c.args.self.now

pub returns-then-is_bit-3-clause-made : goal.returns-then-is_bit-3-clause-made
returns-then-is_bit-3-clause-made c =
    rw (
      sym c.same.ensures ∙ c.if-same.false,
      sym c.is_bit.ensures ∙ c.if-is_bit.false,
      sym c.is_bit-2.ensures ∙ c.if-is_bit-2.false,
      sym c.is_bit-3.ensures ∙ c.if-is_bit-3.true,
    ) c.negation.ensures.made

pub returns-then-is_bit-3-clause-kept : goal.returns-then-is_bit-3-clause-kept
returns-then-is_bit-3-clause-kept c = c.negation.ensures.kept

pub returns-then-is_bit-4-clause-made : goal.returns-then-is_bit-4-clause-made
returns-then-is_bit-4-clause-made c =
    rw (
      sym c.same.ensures ∙ c.if-same.false,
      sym c.is_bit.ensures ∙ c.if-is_bit.false,
      sym c.is_bit-2.ensures ∙ c.if-is_bit-2.false,
      sym c.is_bit-3.ensures ∙ c.if-is_bit-3.false,
      sym c.is_bit-4.ensures ∙ c.if-is_bit-4.true,
    ) c.negation-then-is_bit-4.ensures.made

pub returns-then-is_bit-4-clause-kept : goal.returns-then-is_bit-4-clause-kept
returns-then-is_bit-4-clause-kept c = c.negation-then-is_bit-4.ensures.kept

pub returns-clause-made : goal.returns-clause-made
returns-clause-made c =
    rw (
      sym c.same.ensures ∙ c.if-same.false,
      sym c.is_bit.ensures ∙ c.if-is_bit.false,
      sym c.is_bit-2.ensures ∙ c.if-is_bit-2.false,
      sym c.is_bit-3.ensures ∙ c.if-is_bit-3.false,
      sym c.is_bit-4.ensures ∙ c.if-is_bit-4.false,
    ) c.plain.ensures.made

pub returns-clause-kept : goal.returns-clause-kept
returns-clause-kept c = c.plain.ensures.kept
