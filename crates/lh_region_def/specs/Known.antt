-- What is known under the names of a process at a place of it: terms in place of values.
use Rattle.std.specs.Prelude.{ℕ, ◌+◌, List, [], ◌∷◌, if◌then◌else◌, Option, Some, None}
use Rattle.std.specs.Option.{option_and_then, option_map}
use Rattle.lh_unit.specs.Contents.{OperandText, ArgText}
use Rattle.lh_unit_names.specs.Names.{same_name}
use Rattle.lh_unit.specs.Typing.{carried}
use Rattle.lh_unit.specs.Held.{front}
use Rattle.lh_term.specs.Tree.{Tree}
use Rattle.lh_term.specs.declared.part.Part.{Part}
use Rattle.lh_term.specs.Parts.{whole_argument}

-- the term of a value, the term of what a variable holds, or a part of an argument
pub data Known : Type 0 where
  known_value : Tree → Known
  known_cell : Tree → Known
  known_part : Part → Known

-- what is known under each name, if anything is
abbrev pub Knowledge : Type 0
Knowledge = List ℕ → Option Known

-- nothing is known under any name
abbrev pub nothing_known : Knowledge
nothing_known n = None

-- with this known under a name, in place of what was known there
abbrev pub with_known : Knowledge → List ℕ → Known → Knowledge
with_known k n x m = if same_name n m then Some x else k m

-- the same for a result, if it has a name and something is known of it
abbrev pub with_given : Knowledge → Option (List ℕ) → Option Known → Knowledge
with_given k (Some n) (Some x) = with_known k n x
with_given k _ _ = k

abbrev pub as_value : Known → Option Tree
as_value (known_value t) = Some t
as_value _ = None

abbrev pub as_cell : Known → Option Tree
as_cell (known_cell t) = Some t
as_cell _ = None

abbrev pub as_part : Known → Option Part
as_part (known_part p) = Some p
as_part _ = None

-- the term of the value of this name
abbrev pub value_known : Knowledge → List ℕ → Option Tree
value_known k n = option_and_then as_value (k n)

-- the term of what the variable of this name holds
abbrev pub cell_known : Knowledge → List ℕ → Option Tree
cell_known k n = option_and_then as_cell (k n)

-- the part of this name
abbrev pub part_known : Knowledge → List ℕ → Option Part
part_known k n = option_and_then as_part (k n)

-- the terms of operands, where each is a value
abbrev pub values_known : Knowledge → List OperandText → Option (List Tree)
values_known k [] = Some []
values_known k (o ∷ more) = front (value_known k o.value) (values_known k more)

-- the parts of names, where each is a part
abbrev pub parts_known : Knowledge → List (List ℕ) → Option (List Part)
parts_known k [] = Some []
parts_known k (n ∷ more) = front (part_known k n) (parts_known k more)

-- the argument of this name as a part by itself, the first of these arguments having the number i
abbrev pub argument_part : List ℕ → (i : ℕ) → List ArgText → Option Part
argument_part n i [] = None
argument_part n i (a ∷ more) = if same_name a.name n then option_map (whole_argument i) (carried a.ty) else argument_part n (i + 1) more

-- the arguments of a process from argument i on, each as a part by itself
abbrev pub with_arguments : Knowledge → (i : ℕ) → List ArgText → Knowledge
with_arguments k i [] = k
with_arguments k i (a ∷ more) = with_arguments (with_given k (Some a.name) (option_map (λ t. known_part (whole_argument i t)) (carried a.ty))) (i + 1) more
