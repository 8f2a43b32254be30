-- A line of a piece: the merge, a copied line, or the branch into a copy.
use Rattle.std.proofs.Common.{◌≡◌, List, [], ◌∷◌, ◌++◌, map, Option, Some, None, refl, ap, sym, ◌∙◌, subst}
use Rattle.lh_unit.specs.Contents.{phi_text, LineText, UnitText}
use Rattle.lh_unit.specs.Named.{label_or}
use Rattle.lh_flat.specs.Copies.{Copy, copied_line}
use Rattle.lh_flat.specs.Flat.{MergeText, FlatBlockText, branch_into, with_merge}
use Rattle.lh_flat.proofs.Bounds.{head-same, tail-same}
use Rattle.lh_flat_laws.proofs.Cuts.{Cut, ending}
use Rattle.lh_flat_laws.proofs.CopyPieces.{CopyPiece, next_cut, next_lines}

-- where a line stands in two lists one after the other
pub data InParts {A : Type 0} (xs ys before : List A) (l : A) (after : List A) : Type 0 where
  in_first : (rest : List A) → xs ≡ before ++ l ∷ rest → after ≡ rest ++ ys → InParts xs ys before l after
  in_second : (start : List A) → ys ≡ start ++ l ∷ after → before ≡ xs ++ start → InParts xs ys before l after

pub in-parts : {A : Type 0} (xs ys before : List A) (l : A) (after : List A) → xs ++ ys ≡ before ++ l ∷ after → InParts xs ys before l after
in-parts [] ys before l after h = in_second before h refl
in-parts (x ∷ xs) ys [] l after h = in_first xs (ap (λ y. y ∷ xs) (head-same x l (xs ++ ys) after h)) (sym (tail-same x l (xs ++ ys) after h))
in-parts (x ∷ xs) ys (b ∷ before) l after h = on (in-parts xs ys before l after (tail-same x b (xs ++ ys) (before ++ l ∷ after) h))
  where
    same : x ≡ b
    same = head-same x b (xs ++ ys) (before ++ l ∷ after) h

    on : InParts xs ys before l after → InParts (x ∷ xs) ys (b ∷ before) l after
    on (in_first rest e f) = in_first rest (λ j. same j ∷ e j) f
    on (in_second start e f) = in_second start e (λ j. sym same j ∷ f j)

-- where it stands in a list of images
pub record InMap {A B : Type 0} (f : A → B) (xs : List A) (before : List B) (l : B) : Type 0 where
  pub start : List A
  pub item : A
  pub rest : List A
  pub splits : xs ≡ start ++ item ∷ rest
  pub is_before : before ≡ map f start
  pub is : l ≡ f item

pub in-map : {A B : Type 0} (f : A → B) (xs : List A) (before : List B) (l : B) (after : List B) → map f xs ≡ before ++ l ∷ after → InMap f xs before l
in-map f [] [] l after h = cc
in-map f [] (b ∷ before) l after h = cc
in-map f (x ∷ xs) [] l after h = record { start = []; item = x; rest = xs; splits = refl; is_before = refl; is = sym (head-same (f x) l (map f xs) after h) }
in-map f (x ∷ xs) (b ∷ before) l after h =
    let r = in-map f xs before l after (tail-same (f x) b (map f xs) (before ++ l ∷ after) h) in
    let same : f x ≡ b = head-same (f x) b (map f xs) (before ++ l ∷ after) h in
    record { start = x ∷ r.start; item = r.item; rest = r.rest; splits = ap (λ ys. x ∷ ys) r.splits; is_before = (λ j. sym same j ∷ r.is_before j); is = r.is }

-- the `phi` that a merge stands for
abbrev pub merge_line : MergeText → LineText
merge_line m = record { result = Some m.value; inst = phi_text m.ty m.edges }

-- what a line of a piece is, and what stands before it
pub data LineOf (fs : List UnitText) (c : Copy) (s : CopyPiece) (before : List LineText) (l : LineText) : Type 0 where
  is_merge : (m : MergeText) → s.merge ≡ Some m → l ≡ merge_line m → before ≡ [] → LineOf fs c s before l
  is_copied : (start : List LineText) (k : LineText) (rest : List LineText) → next_lines fs c s ≡ start ++ k ∷ rest → l ≡ copied_line fs c k
      → before ≡ with_merge s.merge (map (copied_line fs c) start) → LineOf fs c s before l
  is_branch : (z : Cut) → next_cut fs c s ≡ Some z → l ≡ branch_into z.copy → LineOf fs c s before l

module _ (fs : List UnitText) (c : Copy) (s : CopyPiece) (copy_of : Copy → List FlatBlockText) where
  ending-line : (o : Option Cut) → next_cut fs c s ≡ o → (start : List LineText) (before after : List LineText) (l : LineText) → ending fs c (label_or s.block.label) copy_of o ≡ start ++ l ∷ after
      → LineOf fs c s before l
  ending-line None e [] before after l h = cc
  ending-line None e (x ∷ start) before after l h = cc
  ending-line (Some z) e [] before after l h = is_branch z e (sym (head-same (branch_into z.copy) l [] after h))
  ending-line (Some z) e (x ∷ []) before after l h = let r : [] ≡ l ∷ after = tail-same (branch_into z.copy) x [] (l ∷ after) h in cc
  ending-line (Some z) e (x ∷ y ∷ start) before after l h = let r : [] ≡ y ∷ (start ++ l ∷ after) = tail-same (branch_into z.copy) x [] (y ∷ (start ++ l ∷ after)) h in cc

  plain-line : (prefix : List LineText → List LineText) → ((a : List LineText) → prefix a ≡ with_merge s.merge a) → (before after : List LineText) (l : LineText)
      → map (copied_line fs c) (next_lines fs c s) ++ ending fs c (label_or s.block.label) copy_of (next_cut fs c s) ≡ before ++ l ∷ after → LineOf fs c s (prefix before) l
  plain-line prefix p before after l h = by (in-parts (map (copied_line fs c) (next_lines fs c s)) (ending fs c (label_or s.block.label) copy_of (next_cut fs c s)) before l after h)
    where
      by : InParts (map (copied_line fs c) (next_lines fs c s)) (ending fs c (label_or s.block.label) copy_of (next_cut fs c s)) before l after → LineOf fs c s (prefix before) l
      by (in_first rest e f) = let r = in-map (copied_line fs c) (next_lines fs c s) before l rest e in is_copied r.start r.item r.rest r.splits r.is (p before ∙ ap (with_merge s.merge) r.is_before)
      by (in_second start e f) = ending-line (next_cut fs c s) refl start (prefix before) after l e

  pub line-of : (before after : List LineText) (l : LineText) → with_merge s.merge (map (copied_line fs c) (next_lines fs c s) ++ ending fs c (label_or s.block.label) copy_of (next_cut fs c s))
      ≡ before ++ l ∷ after → LineOf fs c s before l
  line-of before after l h = by s.merge refl before h
    where
      by : (m : Option MergeText) → s.merge ≡ m → (before : List LineText) → with_merge m (map (copied_line fs c) (next_lines fs c s) ++ ending fs c (label_or s.block.label) copy_of (next_cut fs c s))
          ≡ before ++ l ∷ after → LineOf fs c s before l
      by None e before h = plain-line (λ a. a) (λ a. ap (λ m. with_merge m a) (sym e)) before after l h
      by (Some m) e [] h = is_merge m e (sym (head-same (merge_line m) l _ after h)) refl
      by (Some m) e (b ∷ before) h =
          let same : merge_line m ≡ b = head-same (merge_line m) b _ (before ++ l ∷ after) h in
          subst (λ x. LineOf fs c s (x ∷ before) l) same
          (plain-line (λ a. merge_line m ∷ a) (λ a. ap (λ m. with_merge m a) (sym e)) before after l (tail-same (merge_line m) b _ (before ++ l ∷ after) h))
