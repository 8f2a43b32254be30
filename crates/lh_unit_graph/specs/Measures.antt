-- What is measured of the units of a graph, by their ids: whether a unit reaches itself, and the measure of a unit with all that it reaches.
use Rattle.std.specs.Prelude.{◌≡◌, ℕ, zero, suc, ◌<◌, List, [], ◌∷◌, length, map, Option, Some, None, Result, Ok, Err, slice_get, slice_index_or}
use Rattle.std.specs.Option.{option_map}
use Rattle.lh_unit.specs.Design.{first_some}
use Rattle.lh_unit.specs.Within.{Each}
use Rattle.lh_unit.specs.declared.inst.UnitId.{UnitId}
use Rattle.lh_verify_laws.specs.Graphs.{is_open, met_or, IsIn}
use Rattle.lh_unit_graph.specs.declared.fault.DescentFault.{DescentFault}
use Rattle.lh_unit_graph.specs.declared.fault.DescentFault.TheVariants as fault

-- What each user of the search says: the node of a unit that is not there, the units that a node names,
-- the measure of no unit, of units and others beside them, and of a node that has these below it.
pub record Measuring (N M : Type 0) : Type 0 where
  pub none : N
  pub targets : N → List UnitId
  pub nothing : M
  pub beside : M → M → M
  pub around : M → N → M

module _ {N M : Type 0} (c : Measuring N M) where
  -- the node of the unit u
  abbrev pub node_at : List N → ℕ → N
  node_at g u = slice_index_or g u c.none

  -- the units that the unit u names
  abbrev pub targets_at : List N → ℕ → List UnitId
  targets_at g u = c.targets (node_at g u)

  -- each unit that is named is in the graph
  abbrev pub NodesWithin : List N → Type 0
  NodesWithin g = (u : ℕ) → Each (λ (t : UnitId). t.0 < length g) (targets_at g u)

  -- each unit that names another is one of these
  abbrev pub HasBusy : List N → List ℕ → Type 0
  HasBusy g us = (u i : ℕ) (t : UnitId) → slice_get (targets_at g u) i ≡ Some t → IsIn us u

  -- the target of the first edge, depth first, that leads to an open unit; at most `steps` units are open
  abbrev pub cycle_in : (steps : ℕ) → List N → (opened : List ℕ) → ℕ → Option ℕ
  cycle_in zero g opened u = None
  cycle_in (suc k) g opened u =
      first_some (λ (t : UnitId). met_or (cycle_in k g (u ∷ opened)) (is_open (u ∷ opened) t.0) t.0) (targets_at g u)

  -- the measure of units beside these, one after the other; none where one of them has none
  abbrev pub all_beside : M → List (Option M) → Option M
  all_beside m [] = Some m
  all_beside m (None ∷ more) = None
  all_beside m (Some n ∷ more) = all_beside (c.beside m n) more

  -- the measure of the unit u with all that it reaches; none where more than `steps` units nest
  abbrev pub measure_in : (steps : ℕ) → List N → ℕ → Option M
  measure_in zero g u = None
  measure_in (suc k) g u =
      option_map (λ m. c.around m (node_at g u)) (all_beside c.nothing (map (λ (t : UnitId). measure_in k g t.0) (targets_at g u)))

  -- m is the measure of the unit u, at some number of steps; from there on each number gives it
  abbrev pub IsMeasure : List N → ℕ → M → Type 0
  IsMeasure g u m = ∥ ((k : ℕ) × (measure_in k g u ≡ Some m)) ∥₁

  -- The measure of a unit, where none that it reaches reaches itself; else the target of the first edge, depth first, that leads to an
  -- open unit. Of running out of memory nothing is said.
  abbrev pub Measures : List N → (top : ℕ) → Result M DescentFault → Type 0
  Measures g top (Ok m) = ((k : ℕ) → cycle_in k g [] top ≡ None) × IsMeasure g top m
  Measures g top (Err (fault.Cycle v)) = (us : List ℕ) → HasBusy g us → cycle_in (length us) g [] top ≡ Some v.0
  Measures g top (Err fault.OutOfMemory) = Unit {0}
