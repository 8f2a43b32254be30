use Rattle.std.proofs.Common.{sym}
use Rattle.lh_args.proofs.OptionsFound.{found_top, top_twice}
use Rattle.lh_args.proofs.found.FoundOptions.with_top.Goals as goal

pub returns-then-is_some-clause-none : goal.returns-then-is_some-clause-none
returns-then-is_some-clause-none c = λ done more is once. top_twice _ _ done more (sym c.if-is_some.ensures) is once

pub returns-clause-some : goal.returns-clause-some
returns-clause-some c = λ done is. found_top _ _ done (sym c.if-is_some.ensures) is
