use Rattle.std.proofs.Common.{[], sym, subst}
use Rattle.std.specs.Prelude.{IfOk}
use Rattle.std.specs.Result.{IfErr}
use Rattle.lh_emit.specs.Steps.{AllData, Walks, WalksNot}
use Rattle.lh_emit.proofs.steps.take_route.Goals as goal

pub take_steps-requires-clause-types : goal.take_steps-requires-clause-types
take_steps-requires-clause-types c = subst AllData (sym c.as_slice.ensures) c.requires.types

pub returns-clause-walks : goal.returns-clause-walks
returns-clause-walks c = subst (λ r. IfOk c.take_steps.result (λ v. Walks r c.args.lines.now c.args.from c.take_steps.new.lines v [])) c.as_slice.ensures c.take_steps.ensures.walks

pub returns-clause-cause : goal.returns-clause-cause
returns-clause-cause c = subst (λ r. IfErr c.take_steps.result (WalksNot r c.args.lines.now c.args.from)) c.as_slice.ensures c.take_steps.ensures.cause
