use Rattle.std.proofs.Common.{length, refl, arith}
use Rattle.std.proofs.lemmas.Option.{slice_get-get_or}
use Rattle.lh_verify_values.proofs.KnowingSteps.{knows-arg-after, knows-grows, marks-arg}
use Rattle.lh_verify_values.proofs.facts.tell_arg_at.Goals as goal

pub returns-clause-marks : goal.returns-clause-marks
returns-clause-marks c = λ args m. marks-arg (length c.args.facts.now) args c.args.arg.now c.args.seen.now _ m c.requires.within refl

pub returns-clause-facts : goal.returns-clause-facts
returns-clause-facts c = λ f args lines m k. knows-arg-after _ c.tell_arg.new.fact _ c.tell_arg.new.types (length c.args.facts.now) f args c.args.arg.now lines c.args.facts.now _ c.args.seen.now
    c.in_ok-tell_arg.ensures.fact
    (slice_get-get_or c.args.facts.now c.args.arg.now.value.0 _ c.requires.within) (slice_get-get_or c.args.seen.now c.args.arg.now.value.0 _ (omega (arith, c.requires.within, c.requires.marks)))
    (knows-grows c.args.types.now c.tell_arg.new.types (length c.args.facts.now) f args lines c.args.facts.now c.in_ok-tell_arg.ensures.grows k) m c.requires.within refl
