-- What holds at each instruction of a module without a fault.
use Rattle.std.specs.Prelude.{List, Contains}
use Rattle.lh_unit.specs.Contents.{ItemText}
use Rattle.lh_unit.specs.WellFormed.{Site, sites, IsFaultless}

-- No instruction of the module has a fault, and this is one of its instructions: then this holds of it.
abbrev pub AtEachSite : (List ItemText → Site → Type 0) → Type 0
AtEachSite P = (items : List ItemText) (s : Site) → IsFaultless items → Contains (sites items) s → P items s
