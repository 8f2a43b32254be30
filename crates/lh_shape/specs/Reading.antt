-- Which parts the terms of drives read.
use Rattle.std.specs.Prelude.{List}
use Rattle.lh_unit.specs.Within.{Each}
use Rattle.lh_term.specs.declared.part.Part.{Part}
use Rattle.lh_region_def.specs.Rows.{Drive, DriveReads}
use Rattle.lh_region_def.specs.Typed.{Among}

-- drives read these parts alone
abbrev pub ReadAmong : List Part → List Drive → Type 0
ReadAmong ps ds = Each (DriveReads (λ p. Among p ps)) ds

-- drives drive these parts alone
abbrev pub DriveAmong : List Part → List Drive → Type 0
DriveAmong ps ds = Each (λ (d : Drive). Among d.part ps) ds
