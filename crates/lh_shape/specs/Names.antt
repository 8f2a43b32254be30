-- The words by which a report names the reasons.
use Rattle.std.specs.Prelude.{ℕ, List, codes}
use Rattle.lh_shape.specs.declared.reason.Reason.{Reason}
use Rattle.lh_shape.specs.declared.reason.Reason.TheVariants as reason

-- the word of a reason
abbrev pub reason_word : Reason → List ℕ
reason_word reason.RecursiveCall = codes "RecursiveCall"
reason_word reason.CallTooDeep = codes "CallTooDeep"
reason_word reason.FlatTooLarge = codes "FlatTooLarge"
reason_word reason.HeadPhi = codes "HeadPhi"
reason_word reason.TooManyTurns = codes "TooManyTurns"
reason_word reason.RegionTooLarge = codes "RegionTooLarge"
reason_word reason.Halts = codes "Halts"
reason_word reason.Asserts = codes "Asserts"
reason_word reason.TimedWait = codes "TimedWait"
reason_word reason.MixedWaits = codes "MixedWaits"
reason_word reason.NotSensitive = codes "NotSensitive"
reason_word reason.DelayNotConstant = codes "DelayNotConstant"
reason_word reason.DrivesBeforeWait = codes "DrivesBeforeWait"
reason_word reason.WaitsTwice = codes "WaitsTwice"
reason_word reason.PastValueDriven = codes "PastValueDriven"
reason_word reason.TooManyAtoms = codes "TooManyAtoms"
reason_word reason.NoEdge = codes "NoEdge"
reason_word reason.EntityTooLarge = codes "EntityTooLarge"
