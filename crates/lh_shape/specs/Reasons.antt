-- Why a process stays as it is: the reasons in their order, of which the first one that holds counts.
use Rattle.std.specs.Prelude.{List, [], ◌∷◌, ◌++◌, Bool, true, false, not, ◌&&◌, ◌||◌, nat_eq, if◌then◌else◌, Option, Some, None}
use Rattle.std.specs.Option.{option_map_or}
use Rattle.std.specs.List.{list_any, list_all, flat_map}
use Rattle.lh_term.specs.Make.{is_constant}
use Rattle.lh_term.specs.declared.part.Part.{Part}
use Rattle.lh_term_cover.specs.Bits.{covers, same_bits}
use Rattle.lh_edge.specs.Atoms.{contains_past}
use Rattle.lh_edge.specs.Shown.{has_too_many_atoms, is_edge_shown}
use Rattle.lh_flat.specs.Flat.{FlatRefusal, recursive_call, call_too_deep, flat_too_large}
use Rattle.lh_region_def.specs.Rows.{Drive, Way, halts, waits, RegionEnd, Rows}
use Rattle.lh_region_def.specs.Regions.{RegionRefusal, head_phi, too_many_turns, region_too_large, Regions, waited_parts}
use Rattle.lh_shape.specs.declared.reason.Reason.{Reason}
use Rattle.lh_shape.specs.declared.reason.Reason.TheVariants as reason

abbrev pub is_halt : Way → Bool
is_halt halts = true
is_halt _ = false

-- an end is at `halt`
abbrev pub ends_halted : RegionEnd → Bool
ends_halted e = is_halt e.way

abbrev pub is_empty : {A : Type 0} → List A → Bool
is_empty [] = true
is_empty (x ∷ more) = false

-- A process that always halts, probes nothing and asserts nothing.
abbrev pub is_once : Rows → Bool
is_once r = list_all ends_halted r.ends && (is_empty r.probes && is_empty r.asserts)

-- some built region is so
abbrev pub in_some : (Rows → Bool) → Regions → Bool
in_some test r = test r.first || option_map_or test r.second false

-- a `wait` that names a time
abbrev pub is_timed : Way → Bool
is_timed (waits target to_head parts timed) = timed
is_timed _ = false

abbrev pub is_wait : Way → Bool
is_wait (waits target to_head parts timed) = true
is_wait _ = false

-- both are waits for one block, on the same bits
abbrev pub is_same_wait : Way → Way → Bool
is_same_wait (waits b to_head ps timed) (waits c to_head' qs timed') = nat_eq b c && same_bits ps qs
is_same_wait _ _ = false

-- the ends differ in where they lead or in the bits that they wait on
abbrev pub are_mixed : List RegionEnd → Bool
are_mixed [] = false
are_mixed (e ∷ more) = list_any (λ (f : RegionEnd). not (is_same_wait e.way f.way)) more

abbrev pub goes_to_head : Way → Bool
goes_to_head (waits target to_head parts timed) = to_head
goes_to_head _ = false

-- the target of the first end is the head
abbrev pub waits_for_head : List RegionEnd → Bool
waits_for_head [] = false
waits_for_head (e ∷ more) = goes_to_head e.way

-- the parts on which the ends wait, one after the other
abbrev pub parts_waited : List RegionEnd → List Part
parts_waited es = flat_map (λ (e : RegionEnd). waited_parts e.way) es

-- a bit is probed and not waited on
abbrev pub is_insensitive : Rows → Bool
is_insensitive r = list_any (λ p. not (covers (parts_waited r.ends) p)) r.probes

-- the drives of the second region; none where it is not built
abbrev pub second_drives : Regions → List Drive
second_drives r = option_map_or (λ (s : Rows). s.drives) r.second []

abbrev pub second_ends : Regions → List RegionEnd
second_ends r = option_map_or (λ (s : Rows). s.ends) r.second []

-- the reasons that come before the conditions of the second region are looked at, each with whether it holds
abbrev pub row_reasons : Regions → List (Bool × Reason)
row_reasons r =
    (in_some (λ s. list_any ends_halted s.ends) r, reason.Halts)
    ∷ (in_some (λ s. not (is_empty s.asserts)) r, reason.Asserts)
    ∷ (list_any (λ (e : RegionEnd). is_timed e.way) r.first.ends, reason.TimedWait)
    ∷ (are_mixed r.first.ends, reason.MixedWaits)
    ∷ (waits_for_head r.first.ends && is_insensitive r.first, reason.NotSensitive)
    ∷ (in_some (λ s. list_any (λ (d : Drive). not (is_constant d.delay)) s.drives) r, reason.DelayNotConstant)
    ∷ (not (waits_for_head r.first.ends) && not (is_empty r.first.drives), reason.DrivesBeforeWait)
    ∷ (list_any (λ (e : RegionEnd). is_wait e.way) (second_ends r), reason.WaitsTwice)
    ∷ (list_any (λ (d : Drive). contains_past d.value) (second_drives r), reason.PastValueDriven)
    ∷ []

-- the reasons that those conditions give, where the parts are waited on
abbrev pub trigger_reasons : (waited : List Part) → List Drive → List (Bool × Reason)
trigger_reasons waited ds =
    (list_any (λ (d : Drive). has_too_many_atoms d.cond) ds, reason.TooManyAtoms)
    ∷ (list_any (λ (d : Drive). not (is_edge_shown waited d.cond)) ds, reason.NoEdge)
    ∷ []

-- The reasons that the rows may give, in their order, each with whether it holds.
abbrev pub reasons : Regions → List (Bool × Reason)
reasons r = row_reasons r ++ trigger_reasons (parts_waited r.first.ends) (second_drives r)

-- the first that holds
abbrev pub first_holding : {A : Type 0} → List (Bool × A) → Option A
first_holding [] = None
first_holding (x ∷ more) = if x.0 then Some x.1 else first_holding more

-- of a process without a flat text
abbrev pub flat_reason : FlatRefusal → Reason
flat_reason (recursive_call f) = reason.RecursiveCall
flat_reason call_too_deep = reason.CallTooDeep
flat_reason flat_too_large = reason.FlatTooLarge

-- of a process without rows
abbrev pub region_reason : RegionRefusal → Reason
region_reason head_phi = reason.HeadPhi
region_reason too_many_turns = reason.TooManyTurns
region_reason region_too_large = reason.RegionTooLarge
