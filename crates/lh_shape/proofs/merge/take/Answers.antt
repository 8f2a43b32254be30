use Rattle.std.proofs.Common.{◌∙◌, refl, sym}
use Rattle.lh_region_joins.proofs.Conditions.{grows-none}
use Rattle.lh_shape.specs.ByIds.{drive_at}
use Rattle.lh_shape.proofs.MergedDriveLaws.{part-alike}
use Rattle.lh_shape.proofs.Merged.{takes-both, takes-one}
use Rattle.lh_shape.proofs.merge.take.Goals as goal

pub join-requires-clause-alike : goal.join-requires-clause-alike
join-requires-clause-alike c = part-alike (drive_at c.args.terms.now c.args.last) (drive_at c.args.terms.now c.args.drive.now) (sym c.are_alike.ensures ∙ c.if-are_alike.true)

pub returns-in-Ok-clause-takes : goal.returns-in-Ok-clause-takes
returns-in-Ok-clause-takes c =
    takes-both c.args.terms.now c.join.new.terms c.args.merged.now c.args.last c.args.drive.now c.args.merged.now c.join.new.first (sym c.if-are_alike.true ∙ c.are_alike.ensures) refl
    c.in-Ok.ensures.is

pub returns-clause-takes : goal.returns-clause-takes
returns-clause-takes c =
    takes-one c.args.terms.now c.args.terms.now c.args.merged.now c.args.last c.args.drive.now c.push.new.self c.in_ok-next.next (sym c.if-are_alike.false ∙ c.are_alike.ensures)
    c.in_ok-push.ensures.ok c.in_ok-next.ensures

pub returns-in-Err-clause-kept : goal.returns-in-Err-clause-kept
returns-in-Err-clause-kept c = c.join.ensures.kept

pub returns-in-Ok-clause-kept : goal.returns-in-Ok-clause-kept
returns-in-Ok-clause-kept c = c.join.ensures.kept

pub returns-in_err-next-clause-kept : goal.returns-in_err-next-clause-kept
returns-in_err-next-clause-kept c = grows-none c.args.terms.now

pub returns-in_err-push-clause-kept : goal.returns-in_err-push-clause-kept
returns-in_err-push-clause-kept c = grows-none c.args.terms.now

pub returns-clause-kept : goal.returns-clause-kept
returns-clause-kept c = grows-none c.args.terms.now
