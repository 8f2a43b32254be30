-- What is asked of rows by ids.
use Rattle.std.specs.Prelude.{List, [], ◌∷◌, map, Bool, false, not, ◌&&◌, ◌||◌}
use Rattle.std.specs.List.{list_any, list_all, flat_map}
use Rattle.std.specs.Option.{option_map_or}
use Rattle.lh_term.specs.Make.{is_constant}
use Rattle.lh_term.specs.Arena.{trees, tree_at}
use Rattle.lh_term.specs.declared.part.Part.{Part}
use Rattle.lh_term.specs.declared.term.TermNode.{TermNode}
use Rattle.lh_term_cover.specs.Bits.{covers}
use Rattle.lh_edge.specs.Atoms.{contains_past}
use Rattle.lh_region_def.specs.Rows as text
use Rattle.lh_region_def.specs.Regions.{waited_parts}
use Rattle.lh_region.specs.Stands.{way_text}
pub use Rattle.lh_region.specs.Stands.{DriveRowFits, DrivesFit, later_drives, RegionsFit}
use Rattle.lh_region.specs.declared.rows.DriveRow.{DriveRow}
use Rattle.lh_region.specs.declared.rows.EndRow.{EndRow}
use Rattle.lh_region.specs.declared.rows.Rows.{Rows}
use Rattle.lh_region.specs.declared.rows.Regions.{Regions}
use Rattle.lh_shape.specs.Reasons.{is_empty, is_halt, is_timed, is_wait, is_same_wait, goes_to_head}
use Rattle.lh_shape.specs.declared.reason.Reason.{Reason}
use Rattle.lh_shape.specs.declared.reason.Reason.TheVariants as reason

-- ---- ends

-- some end is of a way of which this holds
abbrev pub some_way : (text.Way → Bool) → List EndRow → Bool
some_way f es = list_any (λ (e : EndRow). f (way_text e.way)) es

-- each end is
abbrev pub every_way : (text.Way → Bool) → List EndRow → Bool
every_way f es = list_all (λ (e : EndRow). f (way_text e.way)) es

-- the way is another wait
abbrev pub is_other_wait : text.Way → text.Way → Bool
is_other_wait w v = not (is_same_wait w v)

-- the ends differ in where they lead or in the bits that they wait on
abbrev pub mixed : List EndRow → Bool
mixed [] = false
mixed (e ∷ more) = some_way (is_other_wait (way_text e.way)) more

-- the first end waits for the head
abbrev pub head_is_next : List EndRow → Bool
head_is_next [] = false
head_is_next (e ∷ more) = goes_to_head (way_text e.way)

-- the parts on which ends wait, one after the other
abbrev pub parts_on : List EndRow → List Part
parts_on es = flat_map (λ (e : EndRow). waited_parts (way_text e.way)) es

-- ---- drives

-- the drive of terms
abbrev pub drive_at : List TermNode → DriveRow → text.Drive
drive_at ns d = record { cond = tree_at (trees ns) d.cond; part = d.part; value = tree_at (trees ns) d.value; delay = tree_at (trees ns) d.delay }

abbrev pub drives_at : List TermNode → List DriveRow → List text.Drive
drives_at ns ds = map (drive_at ns) ds

-- a delay is no constant
abbrev pub delay_varies : List TermNode → DriveRow → Bool
delay_varies ns d = not (is_constant (tree_at (trees ns) d.delay))

-- a value before is in what is driven
abbrev pub drives_past : List TermNode → DriveRow → Bool
drives_past ns d = contains_past (tree_at (trees ns) d.value)

-- ---- regions

-- the ends of the second region; none where it is not built
abbrev pub later_ends : Regions → List EndRow
later_ends r = option_map_or (λ (s : Rows). s.ends) r.second []

-- some built region is so
abbrev pub in_either : (Rows → Bool) → Regions → Bool
in_either test r = test r.first || option_map_or test r.second false

abbrev pub has_halt : Rows → Bool
has_halt s = some_way is_halt s.ends

abbrev pub has_assert : Rows → Bool
has_assert s = not (is_empty s.asserts)

abbrev pub has_varying_delay : List TermNode → Rows → Bool
has_varying_delay ns s = list_any (delay_varies ns) s.drives

-- a part is not covered by others
abbrev pub is_uncovered : List Part → Part → Bool
is_uncovered on p = not (covers on p)

-- the region waits for the head, and a bit is probed and not waited on
abbrev pub is_deaf : Rows → Bool
is_deaf s = head_is_next s.ends && list_any (is_uncovered (parts_on s.ends)) s.probes

-- the region waits elsewhere than for the head, and drives
abbrev pub drives_early : Rows → Bool
drives_early s = not (head_is_next s.ends) && not (is_empty s.drives)

-- always halts, probes nothing and asserts nothing
abbrev pub once_only : Rows → Bool
once_only s = every_way is_halt s.ends && (is_empty s.probes && is_empty s.asserts)

-- the reasons that rows may give before the conditions of the second region are looked at
abbrev pub reasons_told : List TermNode → Regions → List (Bool × Reason)
reasons_told ns r =
    (in_either has_halt r, reason.Halts)
    ∷ (in_either has_assert r, reason.Asserts)
    ∷ (some_way is_timed r.first.ends, reason.TimedWait)
    ∷ (mixed r.first.ends, reason.MixedWaits)
    ∷ (is_deaf r.first, reason.NotSensitive)
    ∷ (in_either (has_varying_delay ns) r, reason.DelayNotConstant)
    ∷ (drives_early r.first, reason.DrivesBeforeWait)
    ∷ (some_way is_wait (later_ends r), reason.WaitsTwice)
    ∷ (list_any (drives_past ns) (later_drives r), reason.PastValueDriven)
    ∷ []
