use Rattle.lh_cert_rows.proofs.Lines.{drives-do}
use Rattle.lh_cert_rows.proofs.laws.drives_do_rows.Goals as goal

pub returns : goal.returns
returns c = λ past now f args t k e w to value after cond d h r i. drives-do now f args k e h past t w to value after cond d r i
