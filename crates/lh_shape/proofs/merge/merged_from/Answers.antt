use Rattle.std.proofs.Common.{◌+◌, drop}
use Rattle.std.proofs.lemmas.List.{drop_all}
use Rattle.lh_unit.proofs.Lists.{drop-item}
use Rattle.lh_term.proofs.Swaps.{grows_on}
use Rattle.lh_shape.proofs.Merged.{merged-none, next-fits, merged-next, merged-end}
use Rattle.lh_shape.proofs.merge.merged_from.Goals as goal

pub take-requires-clause-drive_fits : goal.take-requires-clause-drive_fits
take-requires-clause-drive_fits c =
    let all = c.args.rest.now in let i = c.loop-drive.drive-index in
    next-fits c.args.terms.now c.loop-drive.terms c.loop-drive.terms _ c.loop-drive.merged c.loop-drive.merged c.loop-drive.last c.drive-item.result c.loop-drive.last (drop i all) (drop (i + 1) all)
    (drop-item all i c.drive-item.result c.loop-drive-test.true c.drive-item.is) c.loop-drive.invariant

pub loop-drive-preserved : goal.loop-drive-preserved
loop-drive-preserved c =
    let all = c.args.rest.now in let i = c.loop-drive.drive-index in
    merged-next c.args.terms.now c.loop-drive.terms c.take.new.terms _ c.loop-drive.merged c.take.new.merged c.loop-drive.last c.drive-item.result c.in_ok-last-2.last (drop i all) (drop (i + 1) all)
    (drop-item all i c.drive-item.result c.loop-drive-test.true c.drive-item.is) c.loop-drive.invariant
    c.take.ensures.kept c.in_ok-last-2.ensures.takes

pub returns-clause-are : goal.returns-clause-are
returns-clause-are c =
    let all = c.args.rest.now in let i = c.loop-drive.drive-index in
    merged-end c.args.terms.now c.loop-drive.terms _ c.loop-drive.merged c.push.new.self c.loop-drive.last (drop i all) (drop_all i all c.loop-drive-test.false) c.in_ok-push.ensures.ok
    c.loop-drive.invariant

pub loop-drive-init : goal.loop-drive-init
loop-drive-init c =
    merged-none c.args.terms.now c.args.first.now c.in_ok-last.last c.new-merged.result c.args.rest.now c.new-merged.ensures c.in_ok-last.ensures c.requires.first_fits c.requires.rest_fits

pub take-requires-clause-last_fits : goal.take-requires-clause-last_fits
take-requires-clause-last_fits c = c.loop-drive.invariant.fits

pub returns-in_err-last-2-clause-kept : goal.returns-in_err-last-2-clause-kept
returns-in_err-last-2-clause-kept c = grows_on c.args.terms.now c.loop-drive.terms c.take.new.terms c.loop-drive.invariant.grows c.take.ensures.kept

pub returns-in_err-push-clause-kept : goal.returns-in_err-push-clause-kept
returns-in_err-push-clause-kept c = c.loop-drive.invariant.grows

pub returns-clause-kept : goal.returns-clause-kept
returns-clause-kept c = c.loop-drive.invariant.grows
