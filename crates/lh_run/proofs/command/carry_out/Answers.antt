use Rattle.lh_unit.specs.Arena.{contents}
use Rattle.lh_result.specs.declared.status.Status.TheVariants.{Done}
use Rattle.lh_result.proofs.Lowerings.{Carries-lowered}
use Rattle.lh_result.proofs.Simulations.{Carries-canon}
use Rattle.lh_run.proofs.command.carry_out.Goals as goal

pub returns-in-Ok-clause-carries : goal.returns-in-Ok-clause-carries
returns-in-Ok-clause-carries g c = rw c.in-Check.is (Carries-canon (contents c.args.file.now) _ Done _ _ _ c.in-Ok.ensures)

pub returns-in-Err-clause-carries : goal.returns-in-Err-clause-carries
returns-in-Err-clause-carries g c = rw c.in-Check.is (Carries-canon (contents c.args.file.now) _ c.in-Err.status _ _ _ c.in-Err.ensures)

pub returns-in-Ok-lower_file-clause-carries : goal.returns-in-Ok-lower_file-clause-carries
returns-in-Ok-lower_file-clause-carries g c = rw c.in-Lower.is (Carries-lowered (contents c.args.file.now) _ Done _ _ c.in-Ok-lower_file.ensures.writes)

pub returns-in-Err-lower_file-clause-carries : goal.returns-in-Err-lower_file-clause-carries
returns-in-Err-lower_file-clause-carries g c = rw c.in-Lower.is (Carries-lowered (contents c.args.file.now) _ c.in-Err-lower_file.status _ _ c.in-Err-lower_file.ensures.writes)
