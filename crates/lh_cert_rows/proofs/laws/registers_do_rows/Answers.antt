use Rattle.lh_cert_rows.proofs.Registers.{registers-do}
use Rattle.lh_cert_rows.proofs.laws.registers_do_rows.Goals as goal

pub returns : goal.returns
returns c = registers-do
