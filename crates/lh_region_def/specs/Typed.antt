-- The terms that are met are typed, each with the type of its name, and what an instruction names is known where control stands at it.
use Rattle.std.specs.Prelude.{◌≡◌, ℕ, List, [], ◌∷◌, false, Some, IsSome}
use Rattle.std.specs.Option.{option_and_then}
use Rattle.lh_types.specs.Types.{TypeTree, int_type, void_type, signal_type, pointer_type, IsData}
use Rattle.lh_types.specs.declared.op.Op.{Op}
use Rattle.lh_unit.specs.Contents.{OperandText, InstText, const_text, pure_text, phi_text, LineText, BlockText, UnitText, args_define}
use Rattle.lh_unit.specs.Effects.{step_of}
use Rattle.lh_unit.specs.Typing.{value_type, carried, inst_giving}
use Rattle.lh_unit.specs.Within.{Each}
use Rattle.lh_verify_laws.specs.Defined.{IsThere}
use Rattle.lh_types.specs.Values.{Datum}
use Rattle.lh_term.specs.Tree.{Tree, constant}
use Rattle.lh_term.specs.Types.{type_of, IsTyped}
use Rattle.lh_term.specs.declared.part.Part.{Part}
pub use Rattle.lh_flat_laws.specs.Members.{Among}
use Rattle.lh_region_def.specs.Known.{Known, known_value, known_cell, known_part, Knowledge, argument_part}
use Rattle.lh_region_def.specs.Joins.{RegionEdge, phi_on}
use Rattle.lh_region_def.specs.Places.{stepped}

-- the type of a value of which this is known
abbrev pub known_type : Known → TypeTree
known_type (known_value t) = type_of t
known_type (known_cell t) = pointer_type (type_of t)
known_type (known_part p) = signal_type p.ty

-- The part of this name: an argument, or what a step leads to in the part of another name.
pub data IsPartOf (u : UnitText) : List ℕ → Part → Type 0 where
  of_argument : (n : List ℕ) (p : Part) → argument_part n 0 u.args ≡ Some p → IsPartOf u n p
  of_step : (n : List ℕ) (o : Op) (x : OperandText) (q p : Part) → args_define n u.args ≡ false → inst_giving n u.blocks ≡ Some (pure_text o (x ∷ [])) → IsPartOf u x.value q →
      stepped (Some q) (option_and_then carried x.ty) (step_of o) ≡ Some (known_part p) → IsPartOf u n p

-- The term under the name of a constant is the constant.
abbrev pub IsConstantOf : UnitText → List ℕ → Tree → Type 0
IsConstantOf u n t = (d : Datum) → inst_giving n u.blocks ≡ Some (const_text d) → t ≡ constant d

-- the term is typed, and the constant where the name is that of one; the part is of a data type, and that of the name
abbrev pub IsTypedKnown : UnitText → List ℕ → Known → Type 0
IsTypedKnown u n (known_value t) = IsTyped t × IsConstantOf u n t
IsTypedKnown u n (known_cell t) = IsTyped t
IsTypedKnown u n (known_part p) = IsData p.ty × IsPartOf u n p

-- what is known under a name that has a type is typed, and of this type
abbrev pub KnowsTyped : UnitText → Knowledge → Type 0
KnowsTyped u k = (n : List ℕ) (x : Known) (t : TypeTree) → k n ≡ Some x → value_type u n ≡ Some t → IsTypedKnown u n x × (known_type x ≡ t)

-- Something is known under the name of each value that is given on every path to this point of a block.
abbrev pub KnowsThere : UnitText → BlockText → (before : List LineText) → Knowledge → Type 0
KnowsThere u b before k = (n : List ℕ) (t : TypeTree) → value_type u n ≡ Some t → (t ≡ void_type → ⊥) → IsThere u b before n → IsSome (k n)

-- a term of one bit
pub record IsCondition (t : Tree) : Type 0 where
  pub typed : IsTyped t
  pub type : type_of t ≡ int_type 1

-- a term of this type
pub record IsOfType (ty : TypeTree) (t : Tree) : Type 0 where
  pub typed : IsTyped t
  pub type : type_of t ≡ ty

-- the value that a `phi` takes on an edge is known there
abbrev pub PhiKnown : RegionEdge → InstText → Type 0
PhiKnown e (phi_text ty edges) = (t : Tree) × (phi_on edges e ≡ Some t) × IsOfType ty t
PhiKnown e _ = Unit {0}

-- What is known on an edge to a block is typed, and all that its lines ask for is known.
pub record JoinEdge (u : UnitText) (b : BlockText) (e : RegionEdge) : Type 0 where
  pub cond : IsCondition e.cond
  pub known : KnowsTyped u e.known
  pub there : KnowsThere u b [] e.known
  pub phis : Each (λ (l : LineText). PhiKnown e l.inst) b.lines
