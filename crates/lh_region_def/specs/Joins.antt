-- Where edges join: on which condition control is there, and what is known there.
use Rattle.std.specs.Prelude.{ℕ, List, [], ◌∷◌, Bool, false, not, Option, Some, None}
use Rattle.std.specs.Option.{option_and_then, option_map}
use Rattle.std.specs.List.{list_any, list_all, filter}
use Rattle.lh_types.specs.declared.op.Op.TheVariants.{Or}
use Rattle.lh_unit.specs.Contents.{EdgeText, InstText, phi_text, LineText}
use Rattle.lh_unit.specs.Typing.{or_else}
use Rattle.lh_unit.specs.Activation.{edge_from}
use Rattle.lh_unit.specs.Held.{front}
use Rattle.lh_term.specs.Tree.{Tree}
use Rattle.lh_term.specs.SameTree.{same_tree}
use Rattle.lh_term.specs.Make.{bit_of, make_operation, make_choice}
use Rattle.lh_term.specs.Conjuncts.{conjuncts_of, conjunction}
use Rattle.lh_region_def.specs.Known.{known_value, known_cell, known_part, Knowledge, with_given, value_known, cell_known, part_known}

-- A place: a block, after a number of turns. Places are in the order of turns, and at one turn of blocks.
pub record RegionPlace : Type 0 where
  pub turns : ℕ
  pub block : ℕ

-- an edge: the place it leads to, the label of the block that it leaves, when it is taken, and what is known on it
pub record RegionEdge : Type 0 where
  pub to : RegionPlace
  pub from : List ℕ
  pub cond : Tree
  pub known : Knowledge

-- the condition that holds where this one or that of an edge does, from the left
abbrev pub or_any : Tree → List RegionEdge → Tree
or_any c [] = c
or_any c (e ∷ more) = or_any (make_operation Or (c ∷ e.cond ∷ [])) more

-- some of these edges is taken
abbrev pub any_taken : List RegionEdge → Tree
any_taken es = or_any (bit_of false) es

-- every one of these edges has this conjunct
abbrev pub in_each : List RegionEdge → Tree → Bool
in_each es c = list_all (λ (e : RegionEdge). list_any (same_tree c) (conjuncts_of e.cond)) es

-- what tells an edge from the others that lead to the same place: those conjuncts of its condition that not all of them have
abbrev pub selector : List RegionEdge → RegionEdge → Tree
selector es e = conjunction (filter (λ c. not (in_each es c)) (conjuncts_of e.cond))

-- the value so far, or that of a further edge where it is taken; all these edges join
abbrev pub chosen_from : (all : List RegionEdge) → (so_far : Tree) → List RegionEdge → List Tree → Tree
chosen_from all t (e ∷ es) (v ∷ vs) = chosen_from all (make_choice (selector all e) t v) es vs
chosen_from all t _ _ = t

-- the value of the edge that is taken, of one for each edge: it starts as that of the first
abbrev pub merged : List RegionEdge → List Tree → Option Tree
merged (e ∷ es) (v ∷ vs) = Some (chosen_from (e ∷ es) v es vs)
merged _ _ = None

-- what is found on each edge, if something is on each
abbrev pub on_each : {A : Type 0} → (RegionEdge → Option A) → List RegionEdge → Option (List A)
on_each f [] = Some []
on_each f (e ∷ more) = front (f e) (on_each f more)

-- the merged value of what each edge gives
abbrev pub merged_by : (RegionEdge → Option Tree) → List RegionEdge → Option Tree
merged_by f es = option_and_then (merged es) (on_each f es)

-- the first of some
abbrev pub first_one : {A : Type 0} → List A → Option A
first_one [] = None
first_one (x ∷ more) = Some x

-- what is known where these edges join: what is known on each, merged
abbrev pub joined : List RegionEdge → Knowledge
joined es n =
    or_else (option_map known_value (merged_by (λ e. value_known e.known n) es))
    (or_else (option_map known_cell (merged_by (λ e. cell_known e.known n) es))
    (option_map known_part (option_and_then first_one (on_each (λ e. part_known e.known n) es))))

-- the value that a `phi` takes on an edge
abbrev pub phi_on : List EdgeText → RegionEdge → Option Tree
phi_on operands e = option_and_then (value_known e.known) (edge_from e.from operands)

-- what a `phi` gives; other instructions give nothing here
abbrev pub with_phi : List RegionEdge → InstText → Option (List ℕ) → Knowledge → Knowledge
with_phi es (phi_text ty operands) result k = with_given k result (option_map known_value (merged_by (phi_on operands) es))
with_phi es _ result k = k

-- The `phi` instructions of a block take their values together, each from the edge that is taken.
abbrev pub with_phis : List RegionEdge → List LineText → Knowledge → Knowledge
with_phis es [] k = k
with_phis es (l ∷ more) k = with_phi es l.inst l.result (with_phis es more k)

-- what is known before the lines of a block to which these edges lead
abbrev pub known_at : List RegionEdge → List LineText → Knowledge
known_at es lines = with_phis es lines (joined es)
