use Rattle.lh_bits.proofs.PackedParts.{part_fits, part_in_words, part_run}
use Rattle.lh_bits.proofs.bits.Bits.toggled.Goals as goal

pub differing_run-requires-clause-fits : goal.differing_run-requires-clause-fits
differing_run-requires-clause-fits c = part_fits c.self.inside.len c.args.lo c.args.len c.self.inside.words.items c.args.self.now c.self.invariant c.self.view_is c.requires.within

pub differing_run-requires-clause-a_within : goal.differing_run-requires-clause-a_within
differing_run-requires-clause-a_within c = part_in_words c.self.inside.len c.args.lo c.args.len c.as_slice.result.now c.self.inside.words.items c.args.self.now c.as_slice.ensures
    c.self.invariant c.self.view_is c.requires.within

pub differing_run-requires-clause-b_within : goal.differing_run-requires-clause-b_within
differing_run-requires-clause-b_within c = part_in_words c.other.inside.len c.args.lo c.args.len c.as_slice-2.result.now c.other.inside.words.items c.args.other.now c.as_slice-2.ensures
    c.other.invariant c.other.view_is c.requires.other_within

pub returns : goal.returns
returns c = rw (
  part_run c.self.inside.len c.args.lo c.args.len c.as_slice.result.now c.self.inside.words.items c.args.self.now c.as_slice.ensures c.self.view_is c.requires.within,
  part_run c.other.inside.len c.args.lo c.args.len c.as_slice-2.result.now c.other.inside.words.items c.args.other.now c.as_slice-2.ensures c.other.view_is c.requires.other_within,
)
    c.differing_run.ensures
