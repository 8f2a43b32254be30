-- What the command `lower` leaves.
use Rattle.std.specs.Prelude.{◌≡◌, ◌⊎◌, List, [], true, false}
use Rattle.lh_unit.specs.Canon.{canon}
use Rattle.lh_unit.specs.Contents.{ItemText}
use Rattle.lh_lower_def.specs.Lowering.{lowered, report}
use Rattle.lh_lower_def.specs.Report.{report_text}
use Rattle.lh_result.specs.Result.{is_too_long}
use Rattle.lh_result.specs.Account.{SinkUse, Gained, WriteBreaksOff}
use Rattle.lh_result.specs.declared.status.Status.{Status}
use Rattle.lh_result.specs.declared.status.Status.TheVariants.{OutputTooLong, WriteFault, Done, OutOfMemory}
use Rattle.lh_result.specs.declared.texts.Texts.{Texts}

-- the texts of a file that is lowered
pub record IsTexts (file : List ItemText) (t : Texts) : Type 0 where
  pub «module» : t.«module».items ≡ canon (lowered file)
  pub report : t.report.items ≡ report_text (report file)

-- how much of the text of the lowered module and of the report came to the sinks, by how the writing of them ends
abbrev pub WritesLowered : List ItemText → Status → (out log : SinkUse) → Type 0
WritesLowered file Done out log = (is_too_long file ≡ false) × Gained out (canon (lowered file)) × Gained log (report_text (report file))
WritesLowered file OutputTooLong out log = (is_too_long file ≡ true) × Gained out [] × Gained log []
WritesLowered file WriteFault out log =
    (is_too_long file ≡ false) × ((WriteBreaksOff out (canon (lowered file)) × Gained log []) ⊎ (Gained out (canon (lowered file)) × WriteBreaksOff log (report_text (report file))))
WritesLowered file OutOfMemory out log = Gained out [] × Gained log []
WritesLowered file _ out log = ⊥

-- the same of these texts, whatever file they are of
abbrev pub WritesTexts : Texts → Status → (out log : SinkUse) → Type 0
WritesTexts t ended out log = (file : List ItemText) → IsTexts file t → WritesLowered file ended out log
