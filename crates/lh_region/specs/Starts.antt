-- What is known where a process starts: the constants of an entry that is left at once.
use Rattle.std.specs.Prelude.{◌≡◌, ℕ, List, [], ◌∷◌, nat_eq, if◌then◌else◌, Option, Some, None}
use Rattle.lh_unit.specs.Typing.{or_else}
use Rattle.lh_unit.specs.declared.inst.ValueId.{ValueId}
use Rattle.lh_unit.specs.declared.inst.Inst.{Inst}
use Rattle.lh_unit.specs.declared.inst.Inst.TheVariants as inst
use Rattle.lh_flat.specs.declared.flat.FlatInst.{FlatInst}
use Rattle.lh_flat.specs.declared.flat.FlatBlock.{FlatBlock}
use Rattle.lh_flat_parts.specs.Steps.{is_result}
use Rattle.lh_term.specs.Tree.{Tree, constant}
use Rattle.lh_term.specs.Types.{FitsTerm}
use Rattle.lh_term.specs.Arena.{StandsForTree}
use Rattle.lh_term.specs.declared.term.TermId.{TermId}
use Rattle.lh_term.specs.declared.term.TermNode.{TermNode}
use Rattle.lh_region_places.specs.declared.state.PlaceState.{PlaceState}
use Rattle.lh_region_places.specs.Asked.{kept_by}

-- the constant that an instruction is
abbrev pub constant_in : Inst → Option Tree
constant_in (inst.Const v) = Some (constant v)
constant_in _ = None

-- the constant that an instruction gives as value v
abbrev pub constant_as : ℕ → FlatInst → Option Tree
constant_as v l = if is_result v l.result then constant_in l.inst else None

-- the constant that these instructions give as value v; a later one counts
abbrev pub constant_given : List FlatInst → ℕ → Option Tree
constant_given [] v = None
constant_given (l ∷ more) v = or_else (constant_given more v) (constant_as v l)

-- where an instruction is a constant, its value can be a term
abbrev pub ConstantFits : Inst → Type 0
ConstantFits (inst.Const v) = FitsTerm v
ConstantFits _ = Unit {0}

-- the same, where it gives a value
abbrev pub GivesValueWithin : Option ValueId → Inst → Type 0
GivesValueWithin None i = Unit {0}
GivesValueWithin (Some v) i = ConstantFits i

-- the instructions that were left behind, where the process starts at this block
abbrev pub lines_left : List FlatBlock → (head : ℕ) → List FlatInst
lines_left [] head = []
lines_left (entry ∷ more) head = if nat_eq head 0 then [] else entry.insts

-- the term is that one, if there is one
abbrev pub StandsMaybe : List TermNode → Option TermId → Option Tree → Type 0
StandsMaybe ns None None = Unit {0}
StandsMaybe ns (Some t) (Some x) = StandsForTree ns t x
StandsMaybe ns _ _ = ⊥

-- a place at which these constants are known
abbrev pub KnowsConstants : List TermNode → PlaceState → List FlatInst → Type 0
KnowsConstants ns p ls = (v : ℕ) → StandsMaybe ns (kept_by v p) (constant_given ls v)

-- what is known once an instruction of the entry was taken
abbrev pub IsTaken : List TermNode → Option Tree → (old new : Option TermId) → Type 0
IsTaken ns None old new = new ≡ old
IsTaken ns (Some x) old new = (t : TermId) × (new ≡ Some t) × StandsForTree ns t x

-- the place with the constant that the instruction is, if it is one
pub record TakesConstant (ns : List TermNode) (p : PlaceState) (l : FlatInst) (q : PlaceState) : Type 0 where
  pub block : q.block ≡ p.block
  pub edges : q.edges ≡ p.edges
  pub selectors : q.selectors ≡ p.selectors
  pub known : (v : ℕ) → IsTaken ns (constant_as v l) (kept_by v p) (kept_by v q)
