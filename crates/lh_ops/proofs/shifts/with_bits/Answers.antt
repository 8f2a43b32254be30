use Rattle.lh_ops.proofs.ShiftLemmas.{replaced_is, replaced_fits}
use Rattle.lh_ops.proofs.shifts.with_bits.Goals as goal

pub overflow_add-result : goal.overflow_add-result
overflow_add-result c = record {
  fits = replaced_fits c.args.width c.args.word c.args.new c.args.at c.args.len c.bits_at.result c.requires.width c.requires.fits.0 c.requires.fits.1 c.requires.within
      c.bits_at.ensures;
}

pub returns : goal.returns
returns c = replaced_is c.args.width c.args.word c.args.new c.args.at c.args.len c.bits_at.result c.requires.width c.requires.fits.0 c.requires.fits.1 c.requires.within c.bits_at.ensures
