-- What reading a text answers.
use Rattle.std.specs.Prelude.{◌≡◌, ℕ, List, Result, Ok, Err, ◌⊎◌}
use Rattle.lh_unit.specs.Contents.{ItemText}
use Rattle.lh_unit.specs.Arena.{Arena, contents}
use Rattle.lh_unit.specs.Reads.{BadKind, syntax, unit_too_large, duplicate_name, Reads, FirstBad}
use Rattle.lh_read.specs.declared.faults.LineFault.{LineFault}
use Rattle.lh_read.specs.declared.faults.LineFault.TheVariants as line
use Rattle.lh_read.specs.declared.TextFault.{TextFault}
use Rattle.lh_read.specs.declared.TextFault.TheVariants.{Syntax, UnitTooLarge, DuplicateName, OutOfMemory}

-- the module with these contents, or out of memory
abbrev pub ModuleOrNoMemory : Result Arena TextFault → List ItemText → Type 0
ModuleOrNoMemory (Ok m) items = contents m ≡ items
ModuleOrNoMemory (Err OutOfMemory) items = Unit {0}
ModuleOrNoMemory (Err _) items = ⊥

-- the fault names the first faulty line of the text; running out of memory names none
abbrev pub NamesFirstFault : TextFault → List ℕ → Type 0
NamesFirstFault (Syntax n) text = FirstBad text n syntax
NamesFirstFault (UnitTooLarge n) text = FirstBad text n unit_too_large
NamesFirstFault (DuplicateName n) text = FirstBad text n duplicate_name
NamesFirstFault OutOfMemory text = Unit {0}

-- the text reads as the module says, or its first faulty line is named; of running out of memory nothing is said
abbrev pub ModuleOrFault : Result Arena TextFault → List ℕ → Type 0
ModuleOrFault (Ok m) text = Reads text (contents m)
ModuleOrFault (Err e) text = NamesFirstFault e text

-- the text reads as exactly these items, and has no faulty line
pub record ReadsOnlyAs (text : List ℕ) (items : List ItemText) : Type 0 where
  pub reads : Reads text items
  pub only : (others : List ItemText) → Reads text others → others ≡ items
  pub no_fault : (n : ℕ) → (why : BadKind) → FirstBad text n why → ⊥

-- the text has exactly this first faulty line, and reads as nothing
pub record HasFirstBad (text : List ℕ) (n : ℕ) (why : BadKind) : Type 0 where
  pub bad : FirstBad text n why
  pub only : (m : ℕ) → (other : BadKind) → FirstBad text m other → (m ≡ n) × (other ≡ why)
  pub no_items : (items : List ItemText) → Reads text items → ⊥

-- every text reads as exactly one list of items or has exactly one first faulty line, and never both
abbrev pub ReadsOrIsBad : List ℕ → Type 0
ReadsOrIsBad text = ((items : List ItemText) × ReadsOnlyAs text items) ⊎ ((n : ℕ) × (why : BadKind) × HasFirstBad text n why)

-- a fault of the line n
abbrev pub text_fault : ℕ → LineFault → TextFault
text_fault n line.Syntax = Syntax n
text_fault n line.UnitTooLarge = UnitTooLarge n
text_fault n line.DuplicateName = DuplicateName n
text_fault n line.OutOfMemory = OutOfMemory
