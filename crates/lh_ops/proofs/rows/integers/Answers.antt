use Rattle.std.proofs.Common.{◌∙◌, sym, ap}
use Rattle.lh_types.specs.Apply.{integer_result}
use Rattle.lh_ops.proofs.FitLemmas.{integer_args}
use Rattle.lh_ops.proofs.ArgLemmas.{width_in, numbers_in, both_are}
use Rattle.lh_ops.proofs.rows.integers.Goals as goal

pub integer-requires-2-clause-width : goal.integer-requires-2-clause-width
integer-requires-2-clause-width c = width_in _ _ _ _ _ _ (integer_args _ _ c.requires.row c.requires.fits) c.if-args-eq1.false c.index-args-0.is c.index-args-1.is c.width-of.ensures c.number-a.ensures
    c.number.ensures

pub integer-requires-2-clause-fits : goal.integer-requires-2-clause-fits
integer-requires-2-clause-fits c = numbers_in _ _ _ _ _ _ (integer_args _ _ c.requires.row c.requires.fits) c.if-args-eq1.false c.index-args-0.is c.index-args-1.is c.width-of.ensures
    c.number-a.ensures c.number.ensures

pub returns : goal.returns
returns c = c.integer-2.ensures ∙ sym (ap (integer_result c.args.op.now)
    (both_are _ _ _ _ _ _ (integer_args _ _ c.requires.row c.requires.fits) c.if-args-eq1.false c.index-args-0.is c.index-args-1.is c.width-of.ensures c.number-a.ensures c.number.ensures))
