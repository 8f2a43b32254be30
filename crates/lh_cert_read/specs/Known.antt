-- What is known of the values of an entity, by their ids and under their names.
use Rattle.std.specs.Prelude.{◌≡◌, ℕ, ◌+◌, ◌<◌, ◌^◌, List, [], ◌∷◌, length, Option, Some, None, slice_index_or, slice_set}
use Rattle.std.specs.Option.{option_and_then, option_map}
use Rattle.lh_types.specs.Types.{bit_count}
use Rattle.lh_unit.specs.Arena.{Arena, naming, value_count}
use Rattle.lh_unit.specs.Held.{front}
use Rattle.lh_unit.specs.Naming.{value_text}
use Rattle.lh_unit.specs.Typing.{carried}
use Rattle.lh_unit.specs.declared.inst.Arg.{Arg}
use Rattle.lh_unit.specs.declared.inst.Typed.{Typed}
use Rattle.lh_unit.specs.declared.inst.ValueId.{ValueId}
use Rattle.lh_term.specs.Arena.{StandsForTree}
use Rattle.lh_term.specs.Parts.{whole_argument}
use Rattle.lh_term.specs.declared.part.Part.{Part}
use Rattle.lh_term.specs.declared.term.TermId.{TermId}
use Rattle.lh_term.specs.declared.term.TermNode.{TermNode}
use Rattle.lh_region_def.specs.Known as text
use Rattle.lh_region_def.specs.Known.{known_value, known_cell, known_part, Knowledge}
use Rattle.lh_flat_parts.specs.Steps.{stepped}
use Rattle.lh_flat_parts.specs.declared.step.PartStep.{PartStep}
use Rattle.lh_cert_read.specs.declared.known.Known.{Known}
use Rattle.lh_cert_read.specs.declared.known.Known.TheVariants as known

-- ---- by ids

-- what is known of a value, if anything is
abbrev pub known_at : List (Option Known) → ValueId → Option Known
known_at values v = slice_index_or values v.0 None

abbrev pub as_term : Known → Option TermId
as_term (known.Term t) = Some t
as_term (known.Part p) = None

abbrev pub as_part : Known → Option Part
as_part (known.Term t) = None
as_part (known.Part p) = Some p

-- the term of a value, and the part that it is
abbrev pub term_at : List (Option Known) → ValueId → Option TermId
term_at values v = option_and_then as_term (known_at values v)

abbrev pub part_at : List (Option Known) → ValueId → Option Part
part_at values v = option_and_then as_part (known_at values v)

-- the terms of operands, where each has one
abbrev pub terms_at : List (Option Known) → List Typed → Option (List TermId)
terms_at values [] = Some []
terms_at values (o ∷ more) = front (term_at values o.value) (terms_at values more)

-- the part to which a step leads, if there is one
abbrev pub part_by : List (Option Known) → Option PartStep → Option Part
part_by values step = option_and_then (λ (s : PartStep). option_and_then (λ p. stepped p s) (part_at values s.from)) step

-- the value, if there is one, is one of these
abbrev pub MaybeIn : List (Option Known) → Option ValueId → Type 0
MaybeIn values None = Unit {0}
MaybeIn values (Some v) = v.0 < length values

-- from now on this is known of a result, where both are there
abbrev pub given : List (Option Known) → (name : Option ValueId) → Option Known → List (Option Known)
given values (Some v) (Some x) = slice_set values v.0 (Some x)
given values _ _ = values

-- the arguments from argument k on are known, each signal as a part by itself
abbrev pub args_given : List (Option Known) → (k : ℕ) → List Arg → List (Option Known)
args_given values k [] = values
args_given values k (a ∷ more) = args_given (given values (Some a.value) (option_map (λ t. known.Part (whole_argument k t)) (carried a.ty))) (k + 1) more

-- ---- by ids and under names

-- a term by its id is the tree, and a part is the part; its bits have numbers below 2 ^ 32
abbrev pub IsKnown : List TermNode → Option Known → Option text.Known → Type 0
IsKnown ns None None = Unit {0}
IsKnown ns (Some (known.Term t)) (Some (known_value x)) = StandsForTree ns t x
IsKnown ns (Some (known.Part p)) (Some (known_part q)) = (p ≡ q) × (p.lo + bit_count p.ty < 2 ^ 32)
IsKnown ns _ _ = ⊥

-- What is known of each value of the unit u is known under its name.
pub record Knows (a : Arena) (u : ℕ) (ns : List TermNode) (values : List (Option Known)) (k : Knowledge) : Type 0 where
  pub long : length values ≡ value_count a u
  pub each : (v : ValueId) → v.0 < length values → IsKnown ns (known_at values v) (k (value_text (naming a u) v))
