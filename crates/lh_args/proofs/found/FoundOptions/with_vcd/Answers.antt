use Rattle.lh_args.proofs.OptionsFound.{found_vcd, vcd_twice}
use Rattle.lh_args.proofs.found.FoundOptions.with_vcd.Goals as goal

pub returns-then-self-clause-none : goal.returns-then-self-clause-none
returns-then-self-clause-none c = λ done more is once. vcd_twice _ done more c.if-self.true is once

pub returns-clause-some : goal.returns-clause-some
returns-clause-some c = λ done is. found_vcd _ done c.if-self.false is
