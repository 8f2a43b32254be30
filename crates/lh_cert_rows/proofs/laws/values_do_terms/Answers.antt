use Rattle.lh_cert_rows.proofs.Lines.{operations-do, probes-do}
use Rattle.lh_cert_rows.proofs.laws.values_do_terms.Goals as goal

pub returns-clause-operations : goal.returns-clause-operations
returns-clause-operations c = λ u now f args k e o operands ts h q i. operations-do now f args k e h u o operands ts q i

pub returns-clause-probes : goal.returns-clause-probes
returns-clause-probes c = probes-do
