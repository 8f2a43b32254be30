-- Both regions of a formed flat text: their parts are reached, and their terms typed.
use Rattle.std.proofs.Common.{◌≡◌, ℕ, List, [], ◌∷◌, true, false, nat_eq, Some, refl}
use Rattle.std.specs.Bool.{if◌then◌else◌}
use Rattle.lh_types.specs.Types.{IsData}
use Rattle.lh_unit_names.specs.declared.name.UnitName.{UnitName}
use Rattle.lh_unit.specs.Contents.{UnitText}
use Rattle.lh_unit.specs.Within.{Each}
use Rattle.lh_unit.proofs.Within.{Each-more}
use Rattle.lh_flat_laws.specs.Formed.{IsFormed}
use Rattle.lh_flat.specs.Flat.{FlatText, flat_unit}
use Rattle.lh_term.specs.Tree.{Tree, past_of, now_of}
use Rattle.lh_term.specs.Make.{bit_of}
use Rattle.lh_term.specs.declared.part.Part.{Part}
use Rattle.lh_region_def.specs.Known.{nothing_known, with_arguments}
use Rattle.lh_region_def.specs.Rows.{RegionEnd}
use Rattle.lh_region_def.specs.Places.{Region}
use Rattle.lh_region_def.specs.Regions.{begins_with_phi, lines_at, head_of, known_first, edge_into, edges_of_ends, one_target, Course, comes_to, region_from, first_region, second_region}
use Rattle.lh_region_def.specs.Typed.{IsOfType}
use Rattle.lh_region_def.proofs.Steps.{RegionOf}
use Rattle.lh_region_def.proofs.Second.{past-typed}
use Rattle.lh_region_laws.proofs.Second as Second
use Rattle.lh_emit_def.specs.Emitted.{Source, source_of}
use Rattle.lh_emit_def.specs.Reached.{steps_in}
use Rattle.lh_term.specs.Leaves.{AllParts}
use Rattle.lh_emit_def.specs.Ways.{IsReached}
use Rattle.lh_entity_laws.proofs.GivenKnown.{PartFine, KnowsFine, constants-fine, arguments-fine, EdgeFine}
use Rattle.lh_entity_laws.proofs.GivenRows.{EndFine, CourseFine, region-fine}

abbrev pub Any : Part → Type 0
Any p = Unit {0}

any-each : (ps : List Part) → Each Any ps
any-each [] = tt
any-each (p ∷ ps) = (tt, any-each ps)

pub past-probe : (T : Part → Type 0) (p : Part) → T p → AllParts T (past_of p)
past-probe T p h = h

pub now-probe : (T : Part → Type 0) (p : Part) → T p → AllParts T (now_of p)
now-probe T p h = h

module _ (name : UnitName) (t : FlatText) (f : IsFormed (flat_unit name t)) where
  abbrev pub u : UnitText
  u = flat_unit name t

  abbrev pub s : Source
  s = source_of u (steps_in u)

  abbrev pub first_of : (Part → Tree) → Region
  first_of probe = record { blocks = t.blocks; head = head_of t.blocks; probe = probe; ends_at_head = false }

  abbrev pub second_of : Region
  second_of = record { blocks = t.blocks; head = head_of t.blocks; probe = now_of; ends_at_head = true }

  reached-each : (ps : List Part) → Each (PartFine u) ps → Each (IsReached s) ps
  reached-each ps h = Each-more (PartFine u) (IsReached s) ps (λ p k. k.part) h

  -- ---- the first region

  module _ (probe : Part → Tree) (probed : (T : Part → Type 0) (p : Part) → T p → AllParts T (probe p)) (typed : (p : Part) → IsData p.ty → IsOfType p.ty (probe p)) (c : Course)
      (e : first_region t probe ≡ comes_to c) where
    head-fine : (T : Part → Type 0) → KnowsFine u T (known_first t)
    head-fine T = constants-fine u T (with_arguments nothing_known 0 t.args) (if nat_eq (head_of t.blocks) 0 then [] else lines_at t.blocks 0) (arguments-fine u T f)

    -- Where all probes have this, so has each part in its terms.
    pub first-with : (T : Part → Type 0) → Each T c.rows.probes → CourseFine u T (first_of probe) (probed T) c
    first-with T k =
        region-fine u T (first_of probe) (probed T) (record { formed = f; blocks = refl; probe = typed }) (head_of t.blocks) (edge_into (head_of t.blocks) [] (bit_of true) (known_first t) ∷ []) c
        (record { cond = tt; known = head-fine T }, tt) e k

    pub first-any : CourseFine u Any (first_of probe) (probed Any) c
    first-any = first-with Any (any-each c.rows.probes)

    pub first-reached : CourseFine u (IsReached s) (first_of probe) (probed (IsReached s)) c
    first-reached = first-with (IsReached s) (reached-each c.rows.probes first-any.rows.probes)

  -- ---- the second region

  module _ (plain : begins_with_phi (lines_at t.blocks (head_of t.blocks)) ≡ false) (c : Course) (e : first_region t now_of ≡ comes_to c) (n : ℕ) (to : one_target c.rows.ends ≡ Some n)
      (second : Course) (e2 : second_region t n ≡ comes_to second) where
    abbrev past : Course
    past = Second.past name t f plain c e n to

    past-comes : first_region t past_of ≡ comes_to past
    past-comes = Second.past-comes name t f plain c e n to

    second-is : region_from second_of n (edges_of_ends n past.rows.ends) ≡ comes_to second
    second-is = Second.second-is name t f plain c e n to second e2

    second-region-of : RegionOf u second_of
    second-region-of = Second.second-region-of name t f

    -- its parts
    edges-fine : (T : Part → Type 0) (xs : List RegionEnd) → Each (EndFine u T (first_of past_of) (past-probe T)) xs → Each (EdgeFine u T) (edges_of_ends n xs)
    edges-fine T [] h = tt
    edges-fine T (x ∷ xs) h = (record { cond = h.0.cond; known = h.0.known }, edges-fine T xs h.1)

    second-with : (T : Part → Type 0) → CourseFine u T (first_of past_of) (past-probe T) past → Each T second.rows.probes → CourseFine u T second_of (now-probe T) second
    second-with T h k = region-fine u T second_of (now-probe T) second-region-of n (edges_of_ends n past.rows.ends) second (edges-fine T past.rows.ends h.rows.ends) second-is k

    pub second-reached : CourseFine u (IsReached s) second_of (now-probe (IsReached s)) second
    second-reached =
        let any = second-with Any (first-any past_of past-probe past-typed past past-comes) (any-each second.rows.probes) in
        second-with (IsReached s) (first-reached past_of past-probe past-typed past past-comes) (reached-each second.rows.probes any.rows.probes)
