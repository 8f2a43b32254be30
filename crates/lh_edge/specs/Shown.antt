-- Edge-shown conditions: each valuation at which the edge part holds is shown by a part that changes.
use Rattle.std.specs.Prelude.{◌≡◌, ◌≢◌, Bool, true, false, not, ◌&&◌, ◌||◌, nat_le, if◌then◌else◌, List, [], ◌∷◌, length}
use Rattle.std.specs.List.{list_any, list_all, filter}
use Rattle.lh_types.specs.Types.{int_type, same_type}
use Rattle.lh_term.specs.declared.part.Part.{Part}
use Rattle.lh_term.specs.Tree.{Tree, past_of, now_of}
use Rattle.lh_term.specs.SameTree.{same_tree}
use Rattle.lh_term_cover.specs.Bits.{covers}
use Rattle.lh_edge.specs.Atoms.{contains_past, edge_part, has, atoms_of}
use Rattle.lh_edge.specs.Valuations.{differ, holds, changed, all_valuations}

-- whether the part is of one bit, which is waited on
abbrev pub can_show : List Part → Part → Bool
can_show waited p = same_type p.ty (int_type 1) && covers waited p

-- the parts of one bit, waited on, whose values before are among terms
abbrev pub showing_parts : List Part → List Tree → List Part
showing_parts waited [] = []
showing_parts waited (past_of p ∷ ts) = if can_show waited p then p ∷ showing_parts waited ts else showing_parts waited ts
showing_parts waited (t ∷ ts) = showing_parts waited ts

-- whether the term contains a value before and is not the value before of this part
abbrev pub is_other_past : Part → Tree → Bool
is_other_past p t = contains_past t && not (same_tree (past_of p) t)

-- whether a part shows a valuation: it changes, and the edge part stays true under every change of the other atoms of the past
abbrev pub shows : Tree → List Tree → (Tree → Bool) → Part → Bool
shows edge atoms v p = differ (v (past_of p)) (v (now_of p)) && list_all (λ w. holds w edge) (changed (filter (is_other_past p) atoms) v)

-- whether the valuation does not make the edge part true, or a part shows it
abbrev pub is_shown : List Part → Tree → List Tree → (Tree → Bool) → Bool
is_shown parts edge atoms v = not (holds v edge) || list_any (shows edge atoms v) parts

-- whether the edge part has more atoms than are looked at
unfoldable pub has_too_many_atoms : Tree → Bool
has_too_many_atoms c = not (nat_le (length (atoms_of (edge_part c))) 12)

-- whether a condition contains a value before, and every valuation of the atoms of its edge part is shown
unfoldable pub is_edge_shown : List Part → Tree → Bool
is_edge_shown waited c =
    contains_past c && list_all (is_shown (showing_parts waited (atoms_of (edge_part c))) (edge_part c) (atoms_of (edge_part c))) (all_valuations (atoms_of (edge_part c)))

-- ---- the same of all functions that give bits to terms

-- the part shows: its value before is an atom and it changes, and the edge part stays true whatever the other atoms of the past are
pub record Shows (waited : List Part) (edge : Tree) (v : Tree → Bool) (p : Part) : Type 0 where
  pub can : can_show waited p ≡ true
  pub atom : has (atoms_of edge) (past_of p) ≡ true
  pub differs : v (past_of p) ≢ v (now_of p)
  pub stays : (w : Tree → Bool) → ((t : Tree) → is_other_past p t ≡ false → w t ≡ v t) → holds w edge ≡ true

pub record IsEdgeShown (waited : List Part) (c : Tree) : Type 0 where
  pub past : contains_past c ≡ true
  pub each : (v : Tree → Bool) → holds v (edge_part c) ≡ true → (p : Part) × Shows waited (edge_part c) v p
