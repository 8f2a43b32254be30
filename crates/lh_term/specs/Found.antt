-- What a search among terms finds.
use Rattle.std.specs.Prelude.{◌≡◌, ◌<◌, Option, Some, None, List, [], ◌∷◌, ◌++◌, if◌then◌else◌}
use Rattle.lh_types.specs.declared.op.Op.{Op}
use Rattle.lh_types.specs.declared.op.Op.TheVariants.{Not, And}
use Rattle.lh_term.specs.Tree.{Tree}
use Rattle.lh_term.specs.declared.term.TermId.{TermId}
use Rattle.lh_term.specs.declared.term.TermNode.{TermNode}
use Rattle.lh_term.specs.Make.{is_bit}
use Rattle.lh_term.specs.Conjuncts.{all_conjuncts}
use Rattle.lh_term.specs.Arena.{tree_at, trees, IsIn}

-- an id of the arena stands for the tree that there is, or there is none
abbrev pub FindsTerm : List TermNode → Option TermId → Option Tree → Type 0
FindsTerm ns None x = x ≡ None
FindsTerm ns (Some t) x = IsIn ns t × (x ≡ Some (tree_at (trees ns) t))

abbrev pub FindsPair : List TermNode → Option (TermId × TermId) → Option (Tree × Tree) → Type 0
FindsPair ns None x = x ≡ None
FindsPair ns (Some p) x = IsIn ns p.0 × IsIn ns p.1 × (x ≡ Some (tree_at (trees ns) p.0, tree_at (trees ns) p.1))

-- what a term without operands to join gives: nothing for the constant 1, else itself
abbrev pub one_conjunct : Tree → List Tree
one_conjunct x = if is_bit 1 x then [] else x ∷ []

-- the conjuncts of the term x of id t are those of two terms before it, or it is one by itself
abbrev pub FindsJoined : List TermNode → TermId → Option (TermId × TermId) → Tree → Type 0
FindsJoined ns t None x = all_conjuncts x ≡ one_conjunct x
FindsJoined ns t (Some p) x = (p.0.0 < t.0) × (p.1.0 < t.0) × (all_conjuncts x ≡ all_conjuncts (tree_at (trees ns) p.0) ++ all_conjuncts (tree_at (trees ns) p.1))

-- the operand of `not`, and those of `and`
abbrev pub not_operand : Op → List TermId → Option TermId
not_operand Not (x ∷ []) = Some x
not_operand op xs = None

abbrev pub and_operands : Op → List TermId → Option (TermId × TermId)
and_operands And (q ∷ a ∷ []) = Some (q, a)
and_operands op xs = None
