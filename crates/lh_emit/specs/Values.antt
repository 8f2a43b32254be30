-- The values of the terms that were emitted, by the ids of the terms.
use Rattle.std.specs.Prelude.{◌≡◌, ◌<◌, ℕ, nat_eq, if◌then◌else◌, List, length, slice_index_or, Option, Some, None}
use Rattle.std.specs.Option.{option_map}
use Rattle.lh_term.specs.Tree.{Tree}
use Rattle.lh_term.specs.Arena.{tree_at, trees, IsIn, StandsForTree}
use Rattle.lh_term.specs.declared.term.TermNode.{TermNode}
use Rattle.lh_term.specs.declared.term.TermId.{TermId}
use Rattle.lh_unit.specs.Naming.{value_text}
use Rattle.lh_unit.specs.declared.inst.ValueId.{ValueId}
use Rattle.lh_emit_def.specs.Emitted.{Emitted}
use Rattle.lh_emit_body.specs.Lines.{naming}
use Rattle.lh_emit.specs.declared.values.Values.{Values}

-- the value of a term, where it has one
abbrev pub value_in : Values → TermId → Option ValueId
value_in vs x = slice_index_or vs.items.items x.0 None

-- this term has this value, and each other has what it had
abbrev pub KeepsOtherValues : Values → TermId → ValueId → Values → Type 0
KeepsOtherValues old t v new = (x : TermId) → value_in new x ≡ (if nat_eq x.0 t.0 then Some v else value_in old x)

-- The values are the names of terms: each value names its term, and no other term has a name.
pub record ValuesNameTerms (ns : List TermNode) (names : List (List ℕ)) (vs : Values) (e : Emitted) : Type 0 where
  pub named : (x : TermId) → IsIn ns x → e.terms (tree_at (trees ns) x) ≡ option_map (value_text (naming names)) (value_in vs x)
  pub within : (x : TermId) (v : ValueId) → value_in vs x ≡ Some v → v.0 < length names
  pub held : (x : TermId) (v : ValueId) → value_in vs x ≡ Some v → IsIn ns x
  pub among : (t : Tree) (n : List ℕ) → e.terms t ≡ Some n → (x : TermId) × StandsForTree ns x t
