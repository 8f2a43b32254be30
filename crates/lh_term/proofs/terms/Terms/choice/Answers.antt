use Rattle.std.proofs.Common.{refl, sym, ◌∙◌}
use Rattle.lh_term.proofs.Arenas.{grows_none}
use Rattle.lh_term.proofs.Sound.{not_takes}
use Rattle.lh_term.proofs.terms.Terms.choice.Goals as goal

pub negation-requires-clause-fits : goal.negation-requires-clause-fits
negation-requires-clause-fits c = not_takes _ c.requires.fits.0

pub returns-then-is_bit-clause-made : goal.returns-then-is_bit-clause-made
returns-then-is_bit-clause-made c = rw (sym c.is_bit.ensures ∙ c.if-is_bit.true) (record { is_in = c.requires.f_in; tree = refl })

pub returns-then-is_bit-clause-kept : goal.returns-then-is_bit-clause-kept
returns-then-is_bit-clause-kept c = grows_none c.args.self.now

pub returns-then-is_bit-2-clause-made : goal.returns-then-is_bit-2-clause-made
returns-then-is_bit-2-clause-made c = rw (sym c.is_bit.ensures ∙ c.if-is_bit.false, sym c.is_bit-2.ensures ∙ c.if-is_bit-2.true) (record { is_in = c.requires.t_in; tree = refl })

pub returns-then-is_bit-2-clause-kept : goal.returns-then-is_bit-2-clause-kept
returns-then-is_bit-2-clause-kept c = grows_none c.args.self.now

pub returns-then-same-clause-made : goal.returns-then-same-clause-made
returns-then-same-clause-made c = rw (sym c.is_bit.ensures ∙ c.if-is_bit.false, sym c.is_bit-2.ensures ∙ c.if-is_bit-2.false, sym c.same.ensures ∙ c.if-same.true) (record { is_in = c.requires.f_in; tree = refl })

pub returns-then-same-clause-kept : goal.returns-then-same-clause-kept
returns-then-same-clause-kept c = grows_none c.args.self.now
