-- Which instruction gives a term, and what the term is made of.
use Rattle.std.specs.Prelude.{◌≡◌, ◌⊎◌, List, [], ◌∷◌, Bool, true, false, map}
use Rattle.std.specs.Option.{is_none}
use Rattle.lh_types.specs.Faults.{array_fault}
use Rattle.lh_types.specs.Types.{TypeTree, IsData}
use Rattle.lh_types.specs.Values.{Datum, int_value, time_value, array_value, tuple_value}
use Rattle.lh_types.specs.Parts.{parts_of}
use Rattle.lh_types.specs.declared.op.Op.TheVariants as op
use Rattle.lh_term.specs.Tree.{Tree, constant, past_of, now_of, operation, choice_of}
use Rattle.lh_term.specs.Types.{type_of, FitsTerm, IsTyped}
use Rattle.lh_term.specs.Arena.{trees, tree_at, trees_at, IsIn, AreIn}
use Rattle.lh_term.specs.declared.part.Part.{Part}
use Rattle.lh_term.specs.declared.term.TermId.{TermId}
use Rattle.lh_term.specs.declared.term.TermNode.{TermNode}
use Rattle.lh_emit_def.specs.Needs.{pair_of}
use Rattle.lh_emit_body.specs.declared.lines.EmitFault.{EmitFault}
use Rattle.lh_emit_body.specs.declared.lines.EmitFault.TheVariants as fault
use Rattle.lh_emit.specs.Tasks.{made_of, has_pair}
use Rattle.lh_emit.specs.declared.making.Needs.{Needs}
use Rattle.lh_emit.specs.declared.making.Needs.TheVariants.{Parts, Terms, Chosen}
use Rattle.lh_emit.specs.declared.making.TermForm.{TermForm}
use Rattle.lh_emit.specs.declared.making.TermForm.TheVariants.{Scalar, Probe, Joined}

-- the ids of the terms that a term is made of; a choice has its array
pub record AreOperandTerms (ns ms : List TermNode) (t : TermId) (xs : List TermId) : Type 0 where
  pub within : AreIn ms xs
  pub made : trees_at ms xs ≡ made_of (tree_at (trees ns) t)
  pub pair : has_pair (tree_at (trees ns) t) ≡ true

abbrev pub HasNoPair : List TermNode → TermId → EmitFault → Type 0
HasNoPair ns t fault.OutOfMemory = Unit {0}
HasNoPair ns t fault.EntityTooLarge = has_pair (tree_at (trees ns) t) ≡ false

-- which instruction gives a term
abbrev pub form_of : Tree → TermForm
form_of (constant (int_value w b)) = Scalar
form_of (constant (time_value d)) = Scalar
form_of (constant (array_value vs)) = Joined op.Array
form_of (constant (tuple_value vs)) = Joined op.Tuple
form_of (past_of p) = Probe
form_of (now_of p) = Probe
form_of (operation o ts) = Joined o
form_of (choice_of c f t) = Joined op.Mux

-- the parts of a value
abbrev pub parts_in : Datum → List Datum
parts_in (int_value w b) = []
parts_in (time_value d) = []
parts_in (array_value vs) = parts_of vs
parts_in (tuple_value vs) = parts_of vs

-- the term is the value of this part, which is of a data type
pub record TermIsProbed (t : Tree) (p : Part) : Type 0 where
  pub is : (t ≡ past_of p) ⊎ (t ≡ now_of p)
  pub is_data : IsData p.ty

-- the ids of the constants of these values
pub record AreConstants (ds : List Datum) (ms : List TermNode) (xs : List TermId) : Type 0 where
  pub within : AreIn ms xs
  pub made : trees_at ms xs ≡ map constant ds

-- the ids of the array of both terms of a choice, and of its condition
pub record AreChosen (c f t : Tree) (ms : List TermNode) (xs : List TermId) : Type 0 where
  pub within : AreIn ms xs
  pub made : trees_at ms xs ≡ pair_of f t ∷ c ∷ []
  pub pair : is_none (array_fault 2 (type_of f)) ≡ true

-- what stands in the arena of what a term is made of
abbrev pub IsMadeBy : List TermNode → TermId → Needs → Type 0
IsMadeBy ns t (Parts vs) = (d : Datum) × (tree_at (trees ns) t ≡ constant d) × (vs ≡ parts_in d) × FitsTerm d
IsMadeBy ns t (Terms xs) = AreOperandTerms ns ns t xs
IsMadeBy ns t (Chosen c f g) =
    IsIn ns c × IsIn ns f × IsIn ns g × (tree_at (trees ns) t ≡ choice_of (tree_at (trees ns) c) (tree_at (trees ns) f) (tree_at (trees ns) g)) × IsTyped (tree_at (trees ns) t)

-- there is no array of two of this type
abbrev pub NoPairOf : TypeTree → EmitFault → Type 0
NoPairOf t fault.OutOfMemory = Unit {0}
NoPairOf t fault.EntityTooLarge = is_none (array_fault 2 t) ≡ false
