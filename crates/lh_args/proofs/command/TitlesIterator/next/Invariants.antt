use Rattle.std.proofs.Common.{◌≡◌, length}
use Rattle.lh_args.specs.Meant.{titles_left}
use Rattle.lh_args.proofs.command.TitlesIterator.next.Given as goal

abbrev pub invariant-loop-setting : goal.invariant-loop-setting
invariant-loop-setting l = titles_left l.self ≡ titles_left l.fn.self

abbrev pub decreases-loop-setting : goal.decreases-loop-setting
decreases-loop-setting l = length l.self.words.now
