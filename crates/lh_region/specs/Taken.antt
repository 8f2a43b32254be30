-- What several values are at places, and what instructions make of them.
use Rattle.std.specs.Prelude.{◌≡◌, ℕ, ◌<◌, List, ◌∷◌, length, map, true, Option, Some}
use Rattle.std.specs.Option.{is_some, option_map_or}
use Rattle.lh_types.specs.declared.op.Op.{Op}
use Rattle.lh_unit.specs.Within.{Each}
use Rattle.lh_unit.specs.declared.inst.Typed.{Typed}
use Rattle.lh_unit.specs.declared.inst.ValueId.{ValueId}
use Rattle.lh_unit.specs.declared.inst.PhiEdge.{PhiEdge}
use Rattle.lh_term.specs.Tree.{Tree, tree_row}
use Rattle.lh_term.specs.Types.{TakesTypes, types_of}
use Rattle.lh_term.specs.Make.{make_operation}
use Rattle.lh_term.specs.Arena.{StandsForTree}
use Rattle.lh_term.specs.declared.term.TermId.{TermId}
use Rattle.lh_term.specs.declared.term.TermNode.{TermNode}
use Rattle.lh_region_joins.specs.declared.edge.Edge.{Edge}
use Rattle.lh_region_joins.specs.Joins.{AreTerms}
use Rattle.lh_region_places.specs.declared.state.PlaceState.{PlaceState}
use Rattle.lh_region.specs.declared.taking.PlaceValue.{PlaceValue}
use Rattle.lh_region.specs.Operands.{operand_in}
use Rattle.lh_region_places.specs.Asked.{KnownTerms, Tells, AreOfOneType, edges_at, joined_by}

-- what is told of the value that is asked for
abbrev pub told_of : KnownTerms → PlaceValue → Option Tree
told_of told a = told a.place a.value

-- something is told of each
abbrev pub AllValuesTold : KnownTerms → List PlaceValue → Type 0
AllValuesTold told asks = Each (λ (a : PlaceValue). is_some (told_of told a) ≡ true) asks

-- each is asked for at a place that is there, and something is told of it
pub record CanAskAll (ns : List TermNode) (ps : List PlaceState) (asks : List PlaceValue) : Type 0 where
  pub told : KnownTerms
  pub tells : Tells ns ps told
  pub within : Each (λ (a : PlaceValue). a.place < length ps) asks
  pub there : AllValuesTold told asks

-- What was told before is still told.
abbrev pub StillToldAll : List TermNode → List PlaceState → List TermNode → List PlaceState → List PlaceValue → Type 0
StillToldAll ns ps ms qs asks = (told : KnownTerms) → Tells ns ps told → AllValuesTold told asks → Tells ms qs told

-- The terms are what is told of the values.
abbrev pub ValuesAreTold : List TermNode → List PlaceState → List TermNode → List PlaceValue → List TermId → Type 0
ValuesAreTold ns ps ms asks ts = (told : KnownTerms) (ys : List Tree) → Tells ns ps told → map (told_of told) asks ≡ map Some ys → AreTerms ms ts ys

-- ---- operations

-- a value at the place of this number
abbrev pub ask_at : ℕ → Typed → PlaceValue
ask_at i x = record { place = i; value = x.value.0 }

abbrev pub asks_at : ℕ → List Typed → List PlaceValue
asks_at i xs = map (ask_at i) xs

-- these are told of the operands at a place, and the operation takes them
pub record IsOperation (ns : List TermNode) (ps : List PlaceState) (i : ℕ) (o : Op) (xs : List Typed) : Type 0 where
  pub told : KnownTerms
  pub tells : Tells ns ps told
  pub operands : List Tree
  pub each : map (told_of told) (asks_at i xs) ≡ map Some operands
  pub fits : TakesTypes o (types_of (tree_row operands))

-- The term is the operation on what is told of the operands.
abbrev pub IsOperated : List TermNode → List PlaceState → List TermNode → ℕ → Op → List Typed → TermId → Type 0
IsOperated ns ps ms i o xs t = (told : KnownTerms) (ys : List Tree) → Tells ns ps told → map (told_of told) (asks_at i xs) ≡ map Some ys → StandsForTree ms t (make_operation o ys)

-- ---- `phi`

-- the value that a `phi` names for an edge, where it comes from
abbrev pub phi_ask : List PhiEdge → Edge → PlaceValue
phi_ask operands e = record { place = e.from; value = option_map_or (λ (v : ValueId). v.0) (operand_in e.block operands) 0 }

abbrev pub phi_asks : List PhiEdge → List Edge → List PlaceValue
phi_asks operands es = map (phi_ask operands) es

-- the `phi` names a value for each of these edges
abbrev pub NamesEach : List PhiEdge → List Edge → Type 0
NamesEach operands es = Each (λ (e : Edge). is_some (operand_in e.block operands) ≡ true) es

-- the values that a `phi` at a place names are told, and of one type
pub record IsMerge (ns : List TermNode) (ps : List PlaceState) (i : ℕ) (operands : List PhiEdge) : Type 0 where
  pub told : KnownTerms
  pub tells : Tells ns ps told
  pub names : NamesEach operands (edges_at ps i)
  pub first : Tree
  pub others : List Tree
  pub each : map (told_of told) (phi_asks operands (edges_at ps i)) ≡ map Some (first ∷ others)
  pub alike : AreOfOneType first others

-- The term is what is told of the values that a `phi` at a place names, merged.
abbrev pub IsMerged : List TermNode → List PlaceState → List TermNode → ℕ → List PhiEdge → TermId → Type 0
IsMerged ns ps ms i operands t =
    (told : KnownTerms) (y : Tree) (ys : List Tree) → Tells ns ps told → map (told_of told) (phi_asks operands (edges_at ps i)) ≡ map Some (y ∷ ys)
    → StandsForTree ms t (joined_by ns (edges_at ps i) y ys)
