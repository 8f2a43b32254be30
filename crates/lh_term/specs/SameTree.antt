-- Whether two terms are one.
use Rattle.std.specs.Prelude.{◌≡◌, Bool, true, false, ◌&&◌, refl}
use Rattle.std.proofs.Common.{ap}
use Rattle.lh_types.specs.SameValue.{same_datum}
use Rattle.lh_types.specs.SameValueLaws.{same_datum-is, same_datum-refl}
use Rattle.lh_types.specs.Same.{and_both}
use Rattle.lh_term.specs.Tree.{Tree, TreeRow, constant, past_of, now_of, operation, choice_of, no_trees, more_trees}
use Rattle.lh_term.specs.Same.{same_op, same_op-is, same_op-refl, same_part, same_part-is, same_part-refl}

abbrev mutual
  -- terms of one form with the same parts
  pub same_tree : Tree → Tree → Bool
  same_tree (constant v) (constant w) = same_datum v w
  same_tree (past_of p) (past_of q) = same_part p q
  same_tree (now_of p) (now_of q) = same_part p q
  same_tree (operation a ts) (operation b us) = same_op a b && same_trees ts us
  same_tree (choice_of c f t) (choice_of d g u) = same_tree c d && (same_tree f g && same_tree t u)
  same_tree _ _ = false

  -- each the same as its partner
  pub same_trees : TreeRow → TreeRow → Bool
  same_trees no_trees no_trees = true
  same_trees (more_trees t ts) (more_trees u us) = same_tree t u && same_trees ts us
  same_trees _ _ = false

mutual
  pub same_tree-is : (x y : Tree) → same_tree x y ≡ true → x ≡ y
  same_tree-is (constant v) (constant w) e = ap constant (same_datum-is v w e)
  same_tree-is (past_of p) (past_of q) e = ap past_of (same_part-is p q e)
  same_tree-is (now_of p) (now_of q) e = ap now_of (same_part-is p q e)
  same_tree-is (operation a ts) (operation b us) e = let f = and_both (same_op a b) (same_trees ts us) e in cc (same_op-is a b f.0, same_trees-is ts us f.1)
  same_tree-is (choice_of c f t) (choice_of d g u) e =
      let a = and_both (same_tree c d) (same_tree f g && same_tree t u) e in
      let b = and_both (same_tree f g) (same_tree t u) a.1 in
      cc (same_tree-is c d a.0, same_tree-is f g b.0, same_tree-is t u b.1)
  same_tree-is _ _ e = cc

  pub same_trees-is : (x y : TreeRow) → same_trees x y ≡ true → x ≡ y
  same_trees-is no_trees no_trees e = refl
  same_trees-is (more_trees t ts) (more_trees u us) e = let f = and_both (same_tree t u) (same_trees ts us) e in cc (same_tree-is t u f.0, same_trees-is ts us f.1)
  same_trees-is _ _ e = cc

mutual
  pub same_tree-refl : (x : Tree) → same_tree x x ≡ true
  same_tree-refl (constant v) = same_datum-refl v
  same_tree-refl (past_of p) = same_part-refl p
  same_tree-refl (now_of p) = same_part-refl p
  same_tree-refl (operation a ts) = rw (same_op-refl a) (same_trees-refl ts)
  same_tree-refl (choice_of c f t) = rw (same_tree-refl c, same_tree-refl f) (same_tree-refl t)

  pub same_trees-refl : (x : TreeRow) → same_trees x x ≡ true
  same_trees-refl no_trees = refl
  same_trees-refl (more_trees t ts) = rw (same_tree-refl t) (same_trees-refl ts)
