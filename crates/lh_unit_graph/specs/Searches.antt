-- The search: what it knows between two questions, and one step of it.
use Rattle.std.specs.Prelude.{◌≡◌, ℕ, ◌+◌, ◌<◌, List, [], ◌∷◌, ◌++◌, length, map, Option, Some, None, Result, Ok, Err, slice_get, slice_set, slice_index_or, reverse}
use Rattle.lh_unit.specs.Within.{Each}
use Rattle.lh_unit.specs.declared.inst.UnitId.{UnitId}
use Rattle.lh_verify_laws.specs.Graphs.{IsIn}
use Rattle.lh_unit_graph.specs.declared.fault.DescentFault.{DescentFault}
use Rattle.lh_unit_graph.specs.declared.fault.DescentFault.TheVariants as fault
use Rattle.lh_unit_graph.specs.declared.search.Mark.{Mark}
use Rattle.lh_unit_graph.specs.declared.search.Mark.TheVariants as mark
use Rattle.lh_unit_graph.specs.declared.search.OpenUnit.{OpenUnit}
use Rattle.lh_unit_graph.specs.declared.search.UnitSearch.{UnitSearch}
use Rattle.lh_unit_graph.specs.Measures.{Measuring, node_at, targets_at, cycle_in, IsMeasure}

-- the mark of the unit u
abbrev pub mark_at : {M : Type 0} → List (Mark M) → ℕ → Mark M
mark_at marks u = slice_index_or marks u mark.New

-- the search has left the unit u
abbrev pub IsDone : {M : Type 0} → List (Mark M) → ℕ → Type 0
IsDone {M} marks u = (m : M) × (mark_at marks u ≡ mark.Done m)

-- the units of frames
abbrev pub units : {M : Type 0} → List (OpenUnit M) → List ℕ
units {M} fs = map (λ (f : OpenUnit M). f.unit.0) fs

-- a unit taken from the stack, and those on it, have marks
abbrev pub OpenUnitsAreMarked : {M : Type 0} → UnitSearch M → OpenUnit M → Type 0
OpenUnitsAreMarked {M} s f = (f.unit.0 < length s.marks.items) × Each (λ (p : OpenUnit M). p.unit.0 < length s.marks.items) (reverse s.stack.items)

-- nothing is changed
pub record SearchStays {M : Type 0} (old new : UnitSearch M) : Type 0 where
  pub marks : new.marks.items ≡ old.marks.items
  pub stack : new.stack.items ≡ old.stack.items

-- what holds after a call that may find no memory; nothing is changed then
abbrev pub Done : {M : Type 0} → Result (Unit {0}) DescentFault → (old new : UnitSearch M) → Type 0 → Type 0
Done (Ok x) old new P = P
Done (Err e) old new P = (e ≡ fault.OutOfMemory) × SearchStays old new

module _ {N M : Type 0} (c : Measuring N M) where
  -- below the unit u no edge leads to an open unit, where the search has left none of those that are open
  abbrev pub IsQuiet : List N → List (Mark M) → ℕ → Type 0
  IsQuiet g marks u = (k : ℕ) (opened : List ℕ) → ((v : ℕ) → IsIn opened v → IsDone marks v → ⊥) → cycle_in c k g opened u ≡ None

  -- of a unit that the search has left all is known
  pub record LeftUnitsAreKnown (g : List N) (marks : List (Mark M)) : Type 0 where
    pub long : length marks ≡ length g
    pub measure : (u : ℕ) (m : M) → mark_at marks u ≡ mark.Done m → IsMeasure c g u m
    pub quiet : (u : ℕ) → IsDone marks u → IsQuiet g marks u

  -- what is known is right; the units that are open are of these frames, and the search has left none of those
  pub record Covered (g : List N) (marks : List (Mark M)) (fs : List (OpenUnit M)) : Type 0 where
    pub known : LeftUnitsAreKnown g marks
    pub opened : (u : ℕ) → mark_at marks u ≡ mark.Opened → IsIn (units fs) u
    pub waiting : (u : ℕ) → IsIn (units fs) u → IsDone marks u → ⊥

  -- between two questions no unit is open
  pub record IsSettled (g : List N) (s : UnitSearch M) : Type 0 where
    pub covered : Covered g s.marks.items []
    pub empty : s.stack.items ≡ []

  -- where units are open, the innermost last, giving the search up leaves it settled
  abbrev pub Settles : (old new : UnitSearch M) → OpenUnit M → Type 0
  Settles old new f = (g : List N) → Covered g old.marks.items (f ∷ reverse old.stack.items) → IsSettled g new

  -- a new search over this many units is settled
  abbrev pub StartsSettled : ℕ → UnitSearch M → Type 0
  StartsSettled n s = (g : List N) → length g ≡ n → IsSettled g s

  -- a unit that is just opened
  abbrev pub entered : UnitId → OpenUnit M
  entered u = record { unit = u; next = 0; inside = c.nothing }

  -- an open unit whose next target has this measure
  abbrev pub passed : OpenUnit M → M → OpenUnit M
  passed f m = record { unit = f.unit; next = f.next + 1; inside = c.beside f.inside m }

  -- a unit is opened, after these
  pub record Opens (fs : List (OpenUnit M)) (t : UnitId) (old new : UnitSearch M) : Type 0 where
    pub marks : new.marks.items ≡ slice_set old.marks.items t.0 mark.Opened
    pub stack : new.stack.items ≡ (old.stack.items ++ fs) ++ entered t ∷ []

  -- a unit without more targets is left
  pub record Finishes (f : OpenUnit M) (n : N) (old new : UnitSearch M) : Type 0 where
    pub marks : new.marks.items ≡ slice_set old.marks.items f.unit.0 (mark.Done (c.around f.inside n))
    pub stack : new.stack.items ≡ old.stack.items

  -- the search passes a target that it has left
  pub record Passed (f : OpenUnit M) (m : M) (old new : UnitSearch M) : Type 0 where
    pub marks : new.marks.items ≡ old.marks.items
    pub stack : new.stack.items ≡ old.stack.items ++ passed f m ∷ []

  -- by the mark of the next target
  abbrev pub StepsTo : Mark M → OpenUnit M → UnitId → (old new : UnitSearch M) → Result (Unit {0}) DescentFault → Type 0
  StepsTo mark.New f t old new r = Done r old new (Opens (f ∷ []) t old new)
  StepsTo mark.Opened f t old new r = (r ≡ Err (fault.Cycle t)) × SearchStays old new
  StepsTo (mark.Done m) f t old new r = Done r old new (Passed f m old new)

  -- by the next target, if there is one
  abbrev pub StepsBy : Option UnitId → List N → OpenUnit M → (old new : UnitSearch M) → Result (Unit {0}) DescentFault → Type 0
  StepsBy None g f old new r = (r ≡ Ok tt) × Finishes f (node_at c g f.unit.0) old new
  StepsBy (Some t) g f old new r = StepsTo (mark_at old.marks.items t.0) f t old new r

  -- one step below an open unit
  abbrev pub Steps : List N → OpenUnit M → (old new : UnitSearch M) → Result (Unit {0}) DescentFault → Type 0
  Steps g f old new r = StepsBy (slice_get (targets_at c g f.unit.0) f.next) g f old new r
