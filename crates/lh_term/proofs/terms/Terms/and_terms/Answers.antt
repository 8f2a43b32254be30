use Rattle.std.proofs.Common.{refl, sym, ◌∙◌}
use Rattle.lh_term.proofs.Arenas.{grows_none}
use Rattle.lh_term.proofs.terms.Terms.and_terms.Goals as goal

pub returns-then-is_zero-clause-made : goal.returns-then-is_zero-clause-made
returns-then-is_zero-clause-made c = rw (sym c.is_zero.ensures ∙ c.if-is_zero.true) (record { is_in = c.requires.y_in; tree = refl })

pub returns-then-is_zero-clause-kept : goal.returns-then-is_zero-clause-kept
returns-then-is_zero-clause-kept c = grows_none c.args.self.now

pub returns-then-is_zero-2-clause-made : goal.returns-then-is_zero-2-clause-made
returns-then-is_zero-2-clause-made c =
    rw (sym c.is_zero.ensures ∙ c.if-is_zero.false, sym c.is_zero-2.ensures ∙ c.if-is_zero-2.true) (record { is_in = c.requires.x_in; tree = refl })

pub returns-then-is_zero-2-clause-kept : goal.returns-then-is_zero-2-clause-kept
returns-then-is_zero-2-clause-kept c = grows_none c.args.self.now

pub returns-then-is_ones-clause-made : goal.returns-then-is_ones-clause-made
returns-then-is_ones-clause-made c =
    rw (
      sym c.is_zero.ensures ∙ c.if-is_zero.false,
      sym c.is_zero-2.ensures ∙ c.if-is_zero-2.false,
      sym c.is_ones.ensures ∙ c.if-is_ones.true,
    ) (record { is_in = c.requires.x_in; tree = refl })

pub returns-then-is_ones-clause-kept : goal.returns-then-is_ones-clause-kept
returns-then-is_ones-clause-kept c = grows_none c.args.self.now

pub returns-then-is_ones-2-clause-made : goal.returns-then-is_ones-2-clause-made
returns-then-is_ones-2-clause-made c =
    rw (
      sym c.is_zero.ensures ∙ c.if-is_zero.false,
      sym c.is_zero-2.ensures ∙ c.if-is_zero-2.false,
      sym c.is_ones.ensures ∙ c.if-is_ones.false,
      sym c.is_ones-2.ensures ∙ c.if-is_ones-2.true,
    ) (record { is_in = c.requires.y_in; tree = refl })

pub returns-then-is_ones-2-clause-kept : goal.returns-then-is_ones-2-clause-kept
returns-then-is_ones-2-clause-kept c = grows_none c.args.self.now

pub returns-then-same-clause-made : goal.returns-then-same-clause-made
returns-then-same-clause-made c =
    rw (
      sym c.is_zero.ensures ∙ c.if-is_zero.false,
      sym c.is_zero-2.ensures ∙ c.if-is_zero-2.false,
      sym c.is_ones.ensures ∙ c.if-is_ones.false,
      sym c.is_ones-2.ensures ∙ c.if-is_ones-2.false,
      sym c.same.ensures ∙ c.if-same.true,
    ) (record { is_in = c.requires.x_in; tree = refl })

pub returns-then-same-clause-kept : goal.returns-then-same-clause-kept
returns-then-same-clause-kept c = grows_none c.args.self.now

pub returns-then-is_not_of-clause-made : goal.returns-then-is_not_of-clause-made
returns-then-is_not_of-clause-made c =
    rw (
      sym c.is_zero.ensures ∙ c.if-is_zero.false,
      sym c.is_zero-2.ensures ∙ c.if-is_zero-2.false,
      sym c.is_ones.ensures ∙ c.if-is_ones.false,
      sym c.is_ones-2.ensures ∙ c.if-is_ones-2.false,
      sym c.same.ensures ∙ c.if-same.false,
      sym c.is_not_of.ensures ∙ c.if-is_not_of.true,
    ) c.zero_like.ensures.made

pub returns-then-is_not_of-clause-kept : goal.returns-then-is_not_of-clause-kept
returns-then-is_not_of-clause-kept c = c.zero_like.ensures.kept

pub returns-then-is_not_of-2-clause-made : goal.returns-then-is_not_of-2-clause-made
returns-then-is_not_of-2-clause-made c =
    rw (
      sym c.is_zero.ensures ∙ c.if-is_zero.false,
      sym c.is_zero-2.ensures ∙ c.if-is_zero-2.false,
      sym c.is_ones.ensures ∙ c.if-is_ones.false,
      sym c.is_ones-2.ensures ∙ c.if-is_ones-2.false,
      sym c.same.ensures ∙ c.if-same.false,
      sym c.is_not_of.ensures ∙ c.if-is_not_of.false,
      sym c.is_not_of-2.ensures ∙ c.if-is_not_of-2.true,
    ) c.zero_like-then-is_not_of-2.ensures.made

pub returns-then-is_not_of-2-clause-kept : goal.returns-then-is_not_of-2-clause-kept
returns-then-is_not_of-2-clause-kept c = c.zero_like-then-is_not_of-2.ensures.kept

pub returns-clause-made : goal.returns-clause-made
returns-clause-made c =
    rw (
      sym c.is_zero.ensures ∙ c.if-is_zero.false,
      sym c.is_zero-2.ensures ∙ c.if-is_zero-2.false,
      sym c.is_ones.ensures ∙ c.if-is_ones.false,
      sym c.is_ones-2.ensures ∙ c.if-is_ones-2.false,
      sym c.same.ensures ∙ c.if-same.false,
      sym c.is_not_of.ensures ∙ c.if-is_not_of.false,
      sym c.is_not_of-2.ensures ∙ c.if-is_not_of-2.false,
    ) c.plain.ensures.made

pub returns-clause-kept : goal.returns-clause-kept
returns-clause-kept c = c.plain.ensures.kept
