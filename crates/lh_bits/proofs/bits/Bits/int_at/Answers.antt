use Rattle.lh_bits.proofs.PackedParts.{part_fits, part_in_words, part_run}
use Rattle.lh_bits.proofs.PackedNumbers.{run_number}
use Rattle.lh_bits.proofs.bits.Bits.int_at.Goals as goal

pub number_run-requires-clause-fits : goal.number_run-requires-clause-fits
number_run-requires-clause-fits c = part_fits c.self.inside.len c.args.lo c.args.width c.self.inside.words.items c.args.self.now c.self.invariant c.self.view_is c.requires.within

pub number_run-requires-clause-within : goal.number_run-requires-clause-within
number_run-requires-clause-within c = part_in_words c.self.inside.len c.args.lo c.args.width c.as_slice.result.now c.self.inside.words.items c.args.self.now c.as_slice.ensures c.self.invariant
    c.self.view_is c.requires.within

pub returns : goal.returns
returns c = rw (part_run c.self.inside.len c.args.lo c.args.width c.as_slice.result.now c.self.inside.words.items c.args.self.now c.as_slice.ensures c.self.view_is c.requires.within)
    (run_number c.args.width c.args.lo c.number_run.result c.as_slice.result.now c.number_run.ensures.small c.number_run.ensures.each)
