-- Gates in a row, each of which makes a bit of the bits of gates before it.
use Rattle.std.specs.Prelude.{◌≡◌, ◌<◌, ℕ, ◌+◌, ◌*◌, ◌/◌, ◌^◌, Bool, false, not, ◌&&◌, ◌||◌, if◌then◌else◌, List, [], ◌∷◌, ◌++◌, length, map, slice_get, slice_index_or, Option, Some, None}
use Rattle.std.specs.Option.{is_some}
use Rattle.lh_term.specs.Tree.{Tree}
use Rattle.lh_term.specs.declared.term.TermId.{TermId}
use Rattle.lh_term.specs.declared.term.TermNode.{TermNode}
use Rattle.lh_term.specs.declared.term.Term.{Term}
use Rattle.lh_term.specs.Arena.{tree_at, trees, terms_in}
use Rattle.lh_term.specs.Reach.{AllPass}
use Rattle.lh_edge.specs.Reached.{joined_by}
use Rattle.lh_edge.specs.Valuations.{differ, holds}
use Rattle.lh_edge.specs.Steps.{is_odd, numbered}
use Rattle.lh_cert_agree.specs.declared.gates.Gate.{Gate}
use Rattle.lh_cert_agree.specs.declared.gates.Gate.TheVariants as gate

-- bit j of a number
abbrev pub bit_of_number : ℕ → ℕ → Bool
bit_of_number n j = is_odd (n / 2 ^ j)

-- the bit at a place, 0 behind the last
abbrev pub bit_in : List Bool → ℕ → Bool
bit_in bits p = slice_index_or bits p false

-- the bit of a gate, where atom j has bit j of a number, by the bits of the gates before it
abbrev pub gate_bit : (number : ℕ) → (before : List Bool) → Gate → Bool
gate_bit n bits (gate.Given b) = b
gate_bit n bits (gate.Atom j) = bit_of_number n j
gate_bit n bits (gate.Not a) = not (bit_in bits a)
gate_bit n bits (gate.And a b) = bit_in bits a && bit_in bits b
gate_bit n bits (gate.Or a b) = bit_in bits a || bit_in bits b
gate_bit n bits (gate.Differ a b) = differ (bit_in bits a) (bit_in bits b)
gate_bit n bits (gate.Same a b) = not (differ (bit_in bits a) (bit_in bits b))
gate_bit n bits (gate.Choice c f t) = if bit_in bits c then bit_in bits t else bit_in bits f

-- the bits of gates, behind those of the gates before them
abbrev pub bits_behind : (number : ℕ) → (before : List Bool) → List Gate → List Bool
bits_behind n bits [] = bits
bits_behind n bits (g ∷ more) = bits_behind n (bits ++ gate_bit n bits g ∷ []) more

-- the bits of all gates
abbrev pub gate_bits : (number : ℕ) → List Gate → List Bool
gate_bits n gates = bits_behind n [] gates

-- the gate gives the bit of a term at each valuation of the atoms, behind these gates
abbrev pub IsGateOf : (atoms : List Tree) → List Gate → Gate → Tree → Type 0
IsGateOf atoms gates g t = (n : ℕ) → gate_bit n (gate_bits n gates) g ≡ holds (numbered atoms n) t

-- each of these terms has a place
abbrev pub ArePlaced : (ℕ → Option ℕ) → List TermId → Type 0
ArePlaced places xs = AllPass (λ i. is_some (places i)) xs

-- what a term joins has places
abbrev pub OperandsPlaced : List TermNode → (ℕ → Option ℕ) → TermId → Type 0
OperandsPlaced ns places x = (k : Term) → slice_get (terms_in ns) x.0 ≡ Some k → ArePlaced places (joined_by (trees ns) k)

-- a place, 0 where there is none
abbrev pub place_or : Option ℕ → ℕ
place_or (Some p) = p
place_or None = 0

-- the bit of the gate of a term
abbrev pub placed_bit : (number : ℕ) → List Gate → (ℕ → Option ℕ) → ℕ → Bool
placed_bit n gates places i = bit_in (gate_bits n gates) (place_or (places i))

-- where a term has a place, the gate there gives its bit at each valuation of the atoms
pub record AreGates (ns : List TermNode) (atoms : List Tree) (gates : List Gate) (places : ℕ → Option ℕ) : Type 0 where
  pub within : (i p : ℕ) → places i ≡ Some p → p < length gates
  pub right : (i p : ℕ) → places i ≡ Some p → (n : ℕ) → bit_in (gate_bits n gates) p ≡ holds (numbered atoms n) (tree_at (trees ns) (record { 0 = i }))

-- bit i of each word
abbrev pub column : ℕ → List ℕ → List Bool
column i words = map (λ w. bit_of_number w i) words

-- the words have, bit by bit, what the gates give at the 64 numbers of a block
abbrev pub AreWords : List Gate → (block : ℕ) → List ℕ → Type 0
AreWords gates b words = (i : ℕ) → i < 64 → column i words ≡ gate_bits (64 * b + i) gates

-- the gates at two places give the same at the numbers of so many blocks
abbrev pub AreSame : List Gate → (a b blocks : ℕ) → Type 0
AreSame gates a b blocks = (n : ℕ) → n < 64 * blocks → bit_in (gate_bits n gates) a ≡ bit_in (gate_bits n gates) b
