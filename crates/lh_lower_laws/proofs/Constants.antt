-- The constants of terms that are made of others can be written where those of the others can.
use Rattle.std.proofs.Common.{List, [], ◌∷◌, Bool, true, false, filter}
use Rattle.lh_types.specs.declared.op.Op.{Op}
use Rattle.lh_unit.specs.Within.{Each}
use Rattle.lh_term.specs.Tree.{Tree, constant, past_of, now_of, operation, choice_of}
use Rattle.lh_term.specs.Leaves.{AllConstants}
use Rattle.lh_term.specs.Make.{value_in, values_in, bit_of, make_operation, make_choice}
use Rattle.lh_term.specs.Conjuncts.{conjuncts_of, conjunction}
use Rattle.lh_region_laws.proofs.Leaves as Leaves
use Rattle.lh_region_laws.proofs.Leaves.{IsOfLeaves}
use Rattle.lh_lower_laws.proofs.Times.{Writable, AllWritable, apply-written}

-- each constant in a term can be written
abbrev pub In : Tree → Type 0
In t = AllConstants Writable t

abbrev pub AllIn : List Tree → Type 0
AllIn ts = Each In ts

value-in : (t : Tree) → In t → Writable (value_in t)
value-in (constant v) h = h
value-in (past_of p) h = tt
value-in (now_of p) h = tt
value-in (operation o ts) h = tt
value-in (choice_of c f t) h = tt

values-in : (ts : List Tree) → AllIn ts → AllWritable (values_in ts)
values-in [] h = tt
values-in (t ∷ ts) h = (value-in t h.0, values-in ts h.1)

bit : (b : Bool) → In (bit_of b)
bit true = tt
bit false = tt

leaves : IsOfLeaves In
leaves = record {
  integer = λ n a. tt;
  bit = bit;
  computed = λ o ts h. apply-written o (values_in ts) (values-in ts h);
  joined = Leaves.leaves-joined Writable (λ p. Unit {0});
  parted = Leaves.leaves-parted Writable (λ p. Unit {0});
  chosen = λ c f t h i j. (h, i, j);
}

pub make-in : (o : Op) (ts : List Tree) → AllIn ts → In (make_operation o ts)
make-in = Leaves.make-in In leaves

pub choice-in : (c f t : Tree) → In c → In f → In t → In (make_choice c f t)
choice-in = Leaves.choice-in In leaves

pub conjuncts-in : (t : Tree) → In t → AllIn (conjuncts_of t)
conjuncts-in = Leaves.conjuncts-in In leaves

pub conjunction-in : (ts : List Tree) → AllIn ts → In (conjunction ts)
conjunction-in = Leaves.conjunction-in In leaves

pub filter-in : (f : Tree → Bool) (ts : List Tree) → AllIn ts → AllIn (filter f ts)
filter-in = Leaves.filter-in In leaves
