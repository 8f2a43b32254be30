use Rattle.lh_args.proofs.OptionsFound.{found_watch}
use Rattle.lh_args.proofs.found.FoundOptions.with.Goals as goal

pub returns-in-Watch-clause-some : goal.returns-in-Watch-clause-some
returns-in-Watch-clause-some c = λ done is. rw c.in-Watch.is (found_watch _ _ done is)
