-- How the steps of `load` give what it says of the bytes.
use Rattle.std.proofs.Common.{◌≡◌, ℕ, ◌+◌, ◌<◌, ◌≤◌, List, [], length, replicate, subst, Option, Some, None, IfSome, Err, Ok, arith}
use Rattle.std.proofs.lemmas.List.{length-replicate}
use Rattle.lh_io.specs.Whole.{IsCountWithin, TakesBytes}
use Rattle.lh_io.specs.declared.whole.ReadAllFault.{ReadAllFault}
use Rattle.lh_io.specs.declared.whole.ReadAllFault.TheVariants.{ReadFault, TooLong, OutOfMemory}
use Rattle.lh_unit.specs.Arena.{Arena, contents}
use Rattle.lh_unit.specs.Contents.{ItemText}
use Rattle.lh_unit.specs.Reads.{Reads}
use Rattle.lh_unit.specs.WellFormed.{IsFaultless}
use Rattle.lh_result.specs.Result.{source_limit}
use Rattle.lh_result.specs.Account.{OfSource}
use Rattle.lh_result.specs.Steps.{source_status, IsFaultStatus, Loads}
use Rattle.lh_result.specs.declared.status.Status.{Status}
use Rattle.lh_result.specs.declared.status.Status.TheVariants.{Usage, SourceTooLong, Refused, Top, WriteFault, Runaway, AssertFailed, Done}
use Rattle.lh_result.specs.declared.status.Status.TheVariants as status
use Rattle.lh_result.specs.declared.status.Refusal.TheVariants.{Syntax, UnitTooLarge, DuplicateName, Invalid}

longer : (k : ℕ) (text : List ℕ) (n : ℕ) → length text ≡ k → n < k → n < length text
longer k text n len lt = omega arith

a_longer_text : (n : ℕ) → (text : List ℕ) × (n < length text)
a_longer_text n = (replicate (n + 1) 0, longer (n + 1) (replicate (n + 1) 0) n (length-replicate (n + 1) 0) (omega arith))

-- the source was not read to its end
pub Loads-stopped : (fault : ReadAllFault) (was_left left : Option (List ℕ)) (was_taken taken n : ℕ) → IsCountWithin fault source_limit n → TakesBytes was_left left was_taken taken n
    → OfSource was_left (λ bytes. Loads bytes (Err (source_status fault)))
Loads-stopped ReadFault None left was_taken taken n count takes = ([], tt)
Loads-stopped ReadFault (Some bytes) left was_taken taken n count takes = tt
Loads-stopped TooLong None left was_taken taken n count takes = a_longer_text source_limit
Loads-stopped TooLong (Some bytes) left was_taken taken n count takes = let fits : n ≤ length bytes = takes.told.0 in omega arith
Loads-stopped OutOfMemory None left was_taken taken n count takes = ([], tt)
Loads-stopped OutOfMemory (Some bytes) left was_taken taken n count takes = tt

-- a fact of the bytes that came is one of the source
pub of_source : (P R : List ℕ → Type 0) (left : Option (List ℕ)) (text : List ℕ) → IfSome left (λ was. (text ≡ was) × R was) → P text → OfSource left P
of_source P R None text whole p = (text, p)
of_source P R (Some bytes) text whole p = subst P whole.0 p

-- the file reads, and has a first fault
pub Loads-faulty : (bytes : List ℕ) (file : List ItemText) (s : Status) → length bytes ≤ source_limit → Reads bytes file → IsFaultStatus s file → Loads bytes (Err s)
Loads-faulty bytes file (Refused (Invalid unit inst number)) few reads fault = (few, (file, reads, fault))
Loads-faulty bytes file (Refused (Syntax line)) few reads fault = absurd fault
Loads-faulty bytes file (Refused (UnitTooLarge line)) few reads fault = absurd fault
Loads-faulty bytes file (Refused (DuplicateName line)) few reads fault = absurd fault
Loads-faulty bytes file status.OutOfMemory few reads fault = tt
Loads-faulty bytes file Usage few reads fault = absurd fault
Loads-faulty bytes file status.ReadFault few reads fault = absurd fault
Loads-faulty bytes file SourceTooLong few reads fault = absurd fault
Loads-faulty bytes file (Top why) few reads fault = absurd fault
Loads-faulty bytes file status.OutputTooLong few reads fault = absurd fault
Loads-faulty bytes file WriteFault few reads fault = absurd fault
Loads-faulty bytes file (Runaway i) few reads fault = absurd fault
Loads-faulty bytes file AssertFailed few reads fault = absurd fault
Loads-faulty bytes file Done few reads fault = absurd fault

-- the file reads and is well formed
pub Loads-done : (bytes : List ℕ) (m : Arena) → length bytes ≤ source_limit → Reads bytes (contents m) → IsFaultless (contents m) → Loads bytes (Ok m)
Loads-done bytes m few reads sound = record { few = few; reads = reads; faultless = sound }
