-- What each constant and each part in a term has.
use Rattle.lh_types.specs.Values.{Datum}
use Rattle.lh_term.specs.Tree.{Tree, TreeRow, constant, past_of, now_of, operation, choice_of, no_trees, more_trees}
use Rattle.lh_term.specs.declared.part.Part.{Part}

abbrev mutual
  -- each constant in a term has the one, and each part whose value is in it the other
  pub AllLeaves : (Datum → Type 0) → (Part → Type 0) → Tree → Type 0
  AllLeaves C P (constant v) = C v
  AllLeaves C P (past_of p) = P p
  AllLeaves C P (now_of p) = P p
  AllLeaves C P (operation op ts) = AllLeavesIn C P ts
  AllLeaves C P (choice_of c f t) = AllLeaves C P c × AllLeaves C P f × AllLeaves C P t

  -- so have those of each operand
  pub AllLeavesIn : (Datum → Type 0) → (Part → Type 0) → TreeRow → Type 0
  AllLeavesIn C P no_trees = Unit {0}
  AllLeavesIn C P (more_trees t ts) = AllLeaves C P t × AllLeavesIn C P ts

-- each part whose value is in a term has this
abbrev pub AllParts : (Part → Type 0) → Tree → Type 0
AllParts P t = AllLeaves (λ v. Unit {0}) P t

-- so has each of its operands
abbrev pub AllPartsIn : (Part → Type 0) → TreeRow → Type 0
AllPartsIn P ts = AllLeavesIn (λ v. Unit {0}) P ts

-- each constant in a term has this
abbrev pub AllConstants : (Datum → Type 0) → Tree → Type 0
AllConstants C t = AllLeaves C (λ p. Unit {0}) t
