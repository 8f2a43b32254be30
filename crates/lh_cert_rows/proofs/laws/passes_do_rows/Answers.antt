use Rattle.lh_cert_rows.proofs.Passing.{rows-typed, passes-do}
use Rattle.lh_cert_rows.proofs.laws.passes_do_rows.Goals as goal

pub returns-clause-typed : goal.returns-clause-typed
returns-clause-typed c = rows-typed

pub returns-clause-passes : goal.returns-clause-passes
returns-clause-passes c = passes-do
