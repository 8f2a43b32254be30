use Rattle.std.proofs.Common.{◌<◌, ◌≤◌, length, arith}
use Rattle.lh_watch.proofs.ShowLemmas.{went_on, stopped, was_done, done_still_there, all_shown, not_shown, if_err}
use Rattle.lh_watch.proofs.shows.show.Goals as goal

pub loop-k-preserved-in-Go : goal.loop-k-preserved-in-Go
loop-k-preserved-in-Go g c =
    let lt : c.loop-k.k < length c.loop-k.ws.items = omega arith in
    went_on _ _ _ _ _ _ _ _ _ _ c.loop-k.invariant lt (c.in_ok-frame_at.ensures.ok) c.in-Go.is

pub loop-k-preserved-in-Stop : goal.loop-k-preserved-in-Stop
loop-k-preserved-in-Stop g c =
    let lt : c.loop-k.k < length c.loop-k.ws.items = omega arith in
    stopped _ _ _ _ _ _ _ _ _ _ _ c.loop-k.invariant lt (c.in_ok-frame_at.ensures.ok) c.in-Stop.is c.or-stop.ensures

pub loop-k-preserved : goal.loop-k-preserved
loop-k-preserved g c =
    let lt : c.loop-k.k < length c.loop-k.ws.items = omega arith in
    was_done _ _ _ _ _ _ _ _ _ _ _ _ c.loop-k.invariant lt (c.in_ok-frame_at.ensures.ok) c.in-Done.is (c.in_ok-retire-in-Done.ensures.ok)

pub returns-in_err-retire-in-Done-clause-err : goal.returns-in_err-retire-in-Done-clause-err
returns-in_err-retire-in-Done-clause-err g c =
    let lt : c.loop-k.k < length c.loop-k.ws.items = omega arith in
    if_err _ _ (done_still_there _ _ _ _ _ _ _ _ _ _ _ c.loop-k.invariant lt (c.in_ok-frame_at.ensures.ok) c.in-Done.is (c.in_err-retire-in-Done.ensures.err))

pub returns-clause-members : goal.returns-clause-members
returns-clause-members g c =
    let le : length c.loop-k.ws.items ≤ c.loop-k.k = omega arith in
    (all_shown _ _ _ _ _ _ _ _ c.loop-k.invariant le).members

pub returns-clause-reports : goal.returns-clause-reports
returns-clause-reports g c =
    let le : length c.loop-k.ws.items ≤ c.loop-k.k = omega arith in
    (all_shown _ _ _ _ _ _ _ _ c.loop-k.invariant le).texts

pub returns-clause-stop : goal.returns-clause-stop
returns-clause-stop g c =
    let le : length c.loop-k.ws.items ≤ c.loop-k.k = omega arith in
    (all_shown _ _ _ _ _ _ _ _ c.loop-k.invariant le).place

pub returns-in_err-frame_at-clause-err : goal.returns-in_err-frame_at-clause-err
returns-in_err-frame_at-clause-err g c =
    let lt : c.loop-k.k < length c.loop-k.ws.items = omega arith in
    if_err _ _ (not_shown _ _ _ _ _ _ _ _ _ c.loop-k.invariant lt c.in_err-frame_at.ensures.err)
