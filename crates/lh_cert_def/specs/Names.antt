-- The numbers of the causes, and the words by which they are told.
use Rattle.std.specs.Prelude.{ℕ, List, codes}
use Rattle.lh_cert_def.specs.declared.cause.Cause.{Cause}
use Rattle.lh_cert_def.specs.declared.cause.Cause.TheVariants as cause

-- the number of a cause
abbrev pub cause_number : Cause → ℕ
cause_number cause.Units = 1
cause_number cause.Changed = 2
cause_number cause.HasReason = 3
cause_number cause.Form = 4
cause_number cause.Sensed = 5
cause_number cause.Drives = 6
cause_number cause.Registers = 7

-- the word of a cause
abbrev pub cause_word : Cause → List ℕ
cause_word cause.Units = codes "Units"
cause_word cause.Changed = codes "Changed"
cause_word cause.HasReason = codes "HasReason"
cause_word cause.Form = codes "Form"
cause_word cause.Sensed = codes "Sensed"
cause_word cause.Drives = codes "Drives"
cause_word cause.Registers = codes "Registers"
