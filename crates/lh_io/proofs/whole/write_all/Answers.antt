use Rattle.std.proofs.Common.{◌<◌, length, arith, rules}
use Rattle.std.proofs.lemmas.List.{take_rest}
use Rattle.lh_io.proofs.Steps.{Wrote-start, Wrote-more, Wrote-prefix}
use Rattle.lh_io.proofs.whole.write_all.Goals as goal

pub returns-in_err-n-clause-failed : goal.returns-in_err-n-clause-failed
returns-in_err-n-clause-failed g c =
    let lt : 0 < length c.loop-rest.rest.now = search rules in
    Wrote-prefix _ _ _ _ _ _ c.loop-rest.invariant.wrote lt c.in_err-n.ensures.failed

pub loop-rest-preserved : goal.loop-rest-preserved
loop-rest-preserved g c = record {
  wrote = rw take_rest (Wrote-more _ _ _ _ _ _ c.loop-rest.invariant.wrote c.in_ok-n.ensures.bytes);
  never_fall = search rules;
}

pub loop-rest-init : goal.loop-rest-init
loop-rest-init g c = record { wrote = Wrote-start _ _; never_fall = omega arith }
