-- Drives of one part after one delay that follow each other, as one.
use Rattle.std.specs.Prelude.{List, [], ◌∷◌, Bool, ◌&&◌, if◌then◌else◌}
use Rattle.lh_term.specs.Same.{same_part}
use Rattle.lh_term.specs.SameTree.{same_tree}
use Rattle.lh_region_def.specs.Rows.{Drive}
use Rattle.lh_region_def.specs.Adjacent.{drive_merged}

-- both drive one part after one delay
abbrev pub are_alike : Drive → Drive → Bool
are_alike a b = same_part a.part b.part && same_tree a.delay b.delay

-- a drive and those that follow it, merged from the left
abbrev pub merged_from : Drive → List Drive → List Drive
merged_from a [] = a ∷ []
merged_from a (b ∷ more) = if are_alike a b then merged_from (drive_merged a b) more else a ∷ merged_from b more

-- Drives of one part after one delay that follow each other are merged, from the left. Others never are, since two arguments may be one signal.
abbrev pub merged_drives : List Drive → List Drive
merged_drives [] = []
merged_drives (a ∷ more) = merged_from a more
