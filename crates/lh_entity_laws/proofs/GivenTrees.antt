-- The parts in terms that are made of others are parts in those.
use Rattle.std.proofs.Common.{List, Bool, true, false, filter}
use Rattle.lh_types.specs.declared.op.Op.{Op}
use Rattle.lh_unit.specs.Within.{Each}
use Rattle.lh_term.specs.Tree.{Tree}
use Rattle.lh_term.specs.Make.{bit_of, make_operation, make_choice}
use Rattle.lh_term.specs.Conjuncts.{conjuncts_of, conjunction}
use Rattle.lh_term.specs.declared.part.Part.{Part}
use Rattle.lh_term.specs.Leaves.{AllParts}
use Rattle.lh_region_laws.proofs.Leaves.{IsOfLeaves}
use Rattle.lh_region_laws.proofs.Leaves as Leaves

module _ (P : Part → Type 0) where
  abbrev pub In : Tree → Type 0
  In t = AllParts P t

  abbrev pub AllIn : List Tree → Type 0
  AllIn ts = Each In ts

  bit : (b : Bool) → In (bit_of b)
  bit true = tt
  bit false = tt

  leaves : IsOfLeaves In
  leaves = record {
    integer = λ n a. tt;
    bit = bit;
    computed = λ o ts h. tt;
    joined = Leaves.leaves-joined (λ v. Unit {0}) P;
    parted = Leaves.leaves-parted (λ v. Unit {0}) P;
    chosen = λ c f t h i j. (h, i, j);
  }

  pub make-in : (o : Op) (ts : List Tree) → AllIn ts → In (make_operation o ts)
  make-in = Leaves.make-in In leaves

  pub choice-in : (c f t : Tree) → In c → In f → In t → In (make_choice c f t)
  choice-in = Leaves.choice-in In leaves

  pub conjuncts-in : (t : Tree) → In t → AllIn (conjuncts_of t)
  conjuncts-in = Leaves.conjuncts-in In leaves

  pub conjunction-in : (ts : List Tree) → AllIn ts → In (conjunction ts)
  conjunction-in = Leaves.conjunction-in In leaves

  pub filter-in : (f : Tree → Bool) (ts : List Tree) → AllIn ts → AllIn (filter f ts)
  filter-in = Leaves.filter-in In leaves
