use Rattle.std.proofs.Common.{sym, arith}
use Rattle.lh_bits.proofs.FlagRuns.{flags-number, length_view}
use Rattle.lh_bits.proofs.PackedParts.{run_pushed}
use Rattle.lh_bits.proofs.bits.Bits.push_int.Goals as goal

pub overflow_add-len : goal.overflow_add-len
overflow_add-len c = omega (arith, c.requires, length_view c.self.inside.len 0 c.self.inside.words.items c.args.self.now c.self.view_is)

pub returns-clause-ok : goal.returns-clause-ok
returns-clause-ok c = run_pushed c.grow.new.words c.self.inside.len c.args.width c.as_mut_slice.result.now c.put_number_run.new.words c.self.inside.words.items c.args.self.now _
    c.as_mut_slice.ensures.value c.in_ok-grow.ensures.same c.self.view_is c.put_number_run.auto.words c.put_number_run.ensures.before
    (flags-number c.args.width c.self.inside.len c.args.number c.put_number_run.new.words (λ j h. sym (c.put_number_run.ensures.each j h)))
