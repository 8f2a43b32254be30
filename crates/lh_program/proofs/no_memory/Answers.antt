-- The line was written, or its write broke off.
use Rattle.std.proofs.Common.{ℕ, List, ◌⊎◌, inl, inr, Result, Ok, Err}
use Rattle.lh_io.specs.declared.stream.Failed.{Failed}
use Rattle.lh_run.specs.Account.{SinkUse, Gained, WriteBreaksOff, Puts}
use Rattle.lh_program.proofs.no_memory.Goals as goal

put : (r : Result (Unit {0}) Failed) (u : SinkUse) (t : List ℕ) → Puts r u t → Gained u t ⊎ WriteBreaksOff u t
put (Ok _) u t p = inl p
put (Err _) u t p = inr p

pub returns-clause-told : goal.returns-clause-told
returns-clause-told g c = put c.write_line.result _ _ c.write_line.ensures.puts
