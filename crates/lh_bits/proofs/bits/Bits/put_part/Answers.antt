use Rattle.std.proofs.Common.{◌+◌, sym, ◌∙◌}
use Rattle.lh_bits.proofs.PackedParts.{part_fits, part_in_words, packed_kept, part_run, run_put}
use Rattle.lh_bits.proofs.FlagRuns.{flags-same}
use Rattle.lh_bits.proofs.bits.Bits.put_part.Goals as goal

pub copy_run-requires-clause-to_fits : goal.copy_run-requires-clause-to_fits
copy_run-requires-clause-to_fits c = part_fits c.self.inside.len c.args.lo c.args.len c.self.inside.words.items c.args.self.now c.self.invariant c.self.view_is c.requires.within

pub copy_run-requires-clause-from_fits : goal.copy_run-requires-clause-from_fits
copy_run-requires-clause-from_fits c = part_fits c.from.inside.len c.args.at c.args.len c.from.inside.words.items c.args.from.now c.from.invariant c.from.view_is c.requires.from_within

pub copy_run-requires-clause-to_within : goal.copy_run-requires-clause-to_within
copy_run-requires-clause-to_within c = part_in_words c.self.inside.len c.args.lo c.args.len c.as_mut_slice.result.now c.self.inside.words.items c.args.self.now c.as_mut_slice.ensures.value
    c.self.invariant c.self.view_is c.requires.within

pub copy_run-requires-clause-from_within : goal.copy_run-requires-clause-from_within
copy_run-requires-clause-from_within c = part_in_words c.from.inside.len c.args.at c.args.len c.as_slice.result.now c.from.inside.words.items c.args.from.now c.as_slice.ensures c.from.invariant
    c.from.view_is c.requires.from_within

pub invariant_of-self : goal.invariant_of-self
invariant_of-self c = packed_kept c.self.inside.words c.self.inside.len (c.args.lo + c.args.len) c.as_mut_slice.result.now c.copy_run.new.to c.args.self.now c.as_mut_slice.ensures.value
    c.self.invariant c.self.view_is c.requires.within c.copy_run.auto.to c.copy_run.ensures.after

pub returns : goal.returns
returns c = run_put c.self.inside.words c.self.inside.len c.args.lo c.args.len c.as_mut_slice.result.now c.copy_run.new.to c.args.self.now _ c.as_mut_slice.ensures.value c.self.view_is
    c.requires.within c.copy_run.auto.to c.copy_run.ensures.before
    (flags-same c.args.len c.args.lo c.args.at c.copy_run.new.to c.as_slice.result.now c.copy_run.ensures.each
    ∙ sym (part_run c.from.inside.len c.args.at c.args.len c.as_slice.result.now c.from.inside.words.items c.args.from.now c.as_slice.ensures c.from.view_is c.requires.from_within))
    c.copy_run.ensures.after
