-- Terms as made read no part that none of their operands reads.
use Rattle.std.proofs.Common.{◌≡◌, List, [], ◌∷◌, ◌++◌, Bool, true, false, ◌&&◌, ◌||◌, not, filter, Option, Some, None, refl, subst}
use Rattle.std.specs.Bool.{if◌then◌else◌}
use Rattle.std.specs.List.{list_any}
use Rattle.std.proofs.lemmas.Option.{same_Some, none-some}
use Rattle.lh_types.specs.declared.op.Op.TheVariants.{Not, And, Or}
use Rattle.lh_types.specs.Apply.{apply}
use Rattle.lh_unit.specs.Within.{Each}
use Rattle.lh_term.specs.Tree.{Tree, TreeRow, constant, past_of, now_of, operation, choice_of, no_trees, more_trees, operation_on}
use Rattle.lh_term.specs.declared.part.Part.{Part}
use Rattle.lh_term.specs.SameTree.{same_tree}
use Rattle.lh_term.specs.Make.{is_constant, all_constant, value_in, values_in, is_zero, is_ones, is_bit, is_bit_value, negated, is_not_of, anded, halves, zero_like, ones_like, bit_of, found_or, not_rows, make_not, and_rows, or_rows, make_operation, make_choice}
use Rattle.lh_term.specs.Conjuncts.{joins_bits, all_conjuncts, joined_conjuncts, with_term, with_terms, conjuncts_of, conjunction_from}
use Rattle.lh_term.proofs.Sound.{negated_term, anded_term}
use Rattle.lh_region_def.specs.Rows.{Drive, DriveReads}
use Rattle.lh_region_def.specs.Adjacent.{beyond, drive_merged}
use Rattle.lh_shape.specs.Merging.{are_alike, merged_from, merged_drives}
use Rattle.lh_term.specs.Leaves.{AllParts, AllPartsIn}

module _ (P : Part → Type 0) where
  -- ---- terms as made

  either : (b : Bool) (x y : Tree) → AllParts P x → AllParts P y → AllParts P (if b then x else y)
  either true x y p q = p
  either false x y p q = q

  found : (o : Option Tree) (u : Tree) → ((t : Tree) → o ≡ Some t → AllParts P t) → AllParts P u → AllParts P (found_or o u)
  found (Some t) u f p = f t refl
  found None u f p = p

  negated-reads : (x y : Tree) → AllParts P x → negated x ≡ Some y → AllParts P y
  negated-reads x y p e = let k : AllParts P (operation_on Not (y ∷ [])) = subst (λ (t : Tree). AllParts P t) (negated_term x y e) p in k.0

  abbrev PairReads : Option (Tree × Tree) → Type 0
  PairReads None = Unit {0}
  PairReads (Some p) = AllParts P p.0 × AllParts P p.1

  anded-reads : (x : Tree) → AllParts P x → PairReads (anded x)
  anded-reads x p = at (anded x) refl
    where
      at : (o : Option (Tree × Tree)) → anded x ≡ o → PairReads o
      at None e = tt
      at (Some (q, a)) e = let k : AllParts P (operation_on And (q ∷ a ∷ [])) = subst (λ (t : Tree). AllParts P t) (anded_term x q a e) p in (k.0, k.1.0)

  halves-read : (o p : Option (Tree × Tree)) (q : Tree) → PairReads o → halves o p ≡ Some q → AllParts P q
  halves-read None None q k e = absurd (none-some q e)
  halves-read None (Some p) q k e = absurd (none-some q e)
  halves-read (Some o) None q k e = absurd (none-some q e)
  halves-read (Some (r, a)) (Some (s, b)) q k e = at (same_tree r s && (is_not_of b a || is_not_of a b)) e
    where
      at : (c : Bool) → (if c then Some r else None) ≡ Some q → AllParts P q
      at true f = subst (λ (t : Tree). AllParts P t) (same_Some r q f) k.0
      at false f = absurd (none-some q f)

  not-reads : (x : Tree) → AllParts P x → AllParts P (make_not x)
  not-reads x p = either (is_constant x) (constant (apply Not (value_in x ∷ []))) (not_rows x) tt (found (negated x) (operation_on Not (x ∷ [])) (λ t e. negated-reads x t p e) (p, tt))

  and-reads : (x y : Tree) → AllParts P x → AllParts P y → AllParts P (make_operation And (x ∷ y ∷ []))
  and-reads x y p q =
      let plain : Tree = operation_on And (x ∷ y ∷ []) in
      let one : Tree = if is_not_of x y then zero_like x else plain in
      let two : Tree = if is_not_of y x then zero_like x else one in
      let three : Tree = if same_tree x y then x else two in
      let four : Tree = if is_ones x then y else three in
      let five : Tree = if is_ones y then x else four in
      let six : Tree = if is_zero x then x else five in
      let h1 : AllParts P one = either (is_not_of x y) (zero_like x) plain tt (p, (q, tt)) in
      let h2 : AllParts P two = either (is_not_of y x) (zero_like x) one tt h1 in
      let h3 : AllParts P three = either (same_tree x y) x two p h2 in
      let h4 : AllParts P four = either (is_ones x) y three q h3 in
      let h5 : AllParts P five = either (is_ones y) x four p h4 in
      let h6 : AllParts P six = either (is_zero x) x five p h5 in
      let h7 : AllParts P (and_rows x y) = either (is_zero y) y six q h6 in
      either (all_constant (x ∷ y ∷ [])) (constant (apply And (values_in (x ∷ y ∷ [])))) (and_rows x y) tt h7

  or-reads : (x y : Tree) → AllParts P x → AllParts P y → AllParts P (make_operation Or (x ∷ y ∷ []))
  or-reads x y p q =
      let plain : Tree = found_or (halves (anded x) (anded y)) (operation_on Or (x ∷ y ∷ [])) in
      let one : Tree = if is_not_of x y then ones_like x else plain in
      let two : Tree = if is_not_of y x then ones_like x else one in
      let three : Tree = if same_tree x y then x else two in
      let four : Tree = if is_ones x then x else three in
      let five : Tree = if is_ones y then y else four in
      let six : Tree = if is_zero x then y else five in
      let h0 : AllParts P plain = found (halves (anded x) (anded y)) (operation_on Or (x ∷ y ∷ [])) (λ t e. halves-read (anded x) (anded y) t (anded-reads x p) e) (p, (q, tt)) in
      let h1 : AllParts P one = either (is_not_of x y) (ones_like x) plain tt h0 in
      let h2 : AllParts P two = either (is_not_of y x) (ones_like x) one tt h1 in
      let h3 : AllParts P three = either (same_tree x y) x two p h2 in
      let h4 : AllParts P four = either (is_ones x) x three p h3 in
      let h5 : AllParts P five = either (is_ones y) y four q h4 in
      let h6 : AllParts P six = either (is_zero x) y five q h5 in
      let h7 : AllParts P (or_rows x y) = either (is_zero y) x six p h6 in
      either (all_constant (x ∷ y ∷ [])) (constant (apply Or (values_in (x ∷ y ∷ [])))) (or_rows x y) tt h7

  choice-reads : (c f t : Tree) → AllParts P c → AllParts P f → AllParts P t → AllParts P (make_choice c f t)
  choice-reads c f t p q r =
      let plain : Tree = choice_of c f t in
      let one : Tree = if is_bit 1 f && is_bit 0 t then make_not c else plain in
      let two : Tree = if is_bit 0 f && is_bit 1 t then c else one in
      let three : Tree = if same_tree f t then f else two in
      let four : Tree = if is_bit 1 c then t else three in
      let h1 : AllParts P one = either (is_bit 1 f && is_bit 0 t) (make_not c) plain (not-reads c p) (p, q, r) in
      let h2 : AllParts P two = either (is_bit 0 f && is_bit 1 t) c one p h1 in
      let h3 : AllParts P three = either (same_tree f t) f two q h2 in
      let h4 : AllParts P four = either (is_bit 1 c) t three r h3 in
      either (is_bit 0 c) f four q h4

  -- ---- conjuncts and conjunctions

  each-append : (xs ys : List Tree) → Each (AllParts P) xs → Each (AllParts P) ys → Each (AllParts P) (xs ++ ys)
  each-append [] ys p q = q
  each-append (x ∷ xs) ys p q = (p.0, each-append xs ys p.1 q)

  each-either : (b : Bool) (xs ys : List Tree) → Each (AllParts P) xs → Each (AllParts P) ys → Each (AllParts P) (if b then xs else ys)
  each-either true xs ys p q = p
  each-either false xs ys p q = q

  mutual
    conjuncts-read : (t : Tree) → AllParts P t → Each (AllParts P) (all_conjuncts t)
    conjuncts-read (constant v) p = each-either (is_bit_value 1 v) [] (constant v ∷ []) tt (tt, tt)
    conjuncts-read (past_of x) p = (p, tt)
    conjuncts-read (now_of x) p = (p, tt)
    conjuncts-read (choice_of c f t) p = (p, tt)
    conjuncts-read (operation op ts) p = each-either (joins_bits op ts) (joined_conjuncts ts) (operation op ts ∷ []) (joined-read ts p) (p, tt)

    joined-read : (ts : TreeRow) → AllPartsIn P ts → Each (AllParts P) (joined_conjuncts ts)
    joined-read no_trees p = tt
    joined-read (more_trees t ts) p = each-append (all_conjuncts t) (joined_conjuncts ts) (conjuncts-read t p.0) (joined-read ts p.1)

  with-terms-read : (ks ts : List Tree) → Each (AllParts P) ks → Each (AllParts P) ts → Each (AllParts P) (with_terms ks ts)
  with-terms-read ks [] p q = p
  with-terms-read ks (t ∷ ts) p q = with-terms-read (with_term ks t) ts (each-either (list_any (same_tree t) ks) ks (ks ++ t ∷ []) p (each-append ks (t ∷ []) p (q.0, tt))) q.1

  filter-read : (f : Tree → Bool) (ts : List Tree) → Each (AllParts P) ts → Each (AllParts P) (filter f ts)
  filter-read f [] p = tt
  filter-read f (t ∷ ts) p = each-either (f t) (t ∷ filter f ts) (filter f ts) (p.0, filter-read f ts p.1) (filter-read f ts p.1)

  conjunction-reads : (k : Tree) (ts : List Tree) → AllParts P k → Each (AllParts P) ts → AllParts P (conjunction_from k ts)
  conjunction-reads k [] p q = p
  conjunction-reads k (t ∷ ts) p q = conjunction-reads (make_operation And (k ∷ t ∷ [])) ts (and-reads k t p q.0) q.1

  beyond-reads : (c d : Tree) → AllParts P d → AllParts P (beyond c d)
  beyond-reads c d p =
      let f : Tree → Bool = λ k. not (list_any (same_tree k) (conjuncts_of c)) in
      conjunction-reads (bit_of true) (filter f (conjuncts_of d)) tt (filter-read f (conjuncts_of d) (with-terms-read [] (all_conjuncts d) tt (conjuncts-read d p)))

  -- ---- drives

  drive-reads : (a b : Drive) → DriveReads P a → DriveReads P b → DriveReads P (drive_merged a b)
  drive-reads a b p q = record {
    cond = or-reads a.cond b.cond p.cond q.cond;
    value = choice-reads (beyond a.cond b.cond) a.value b.value (beyond-reads a.cond b.cond q.cond) p.value q.value;
    delay = p.delay;
  }

  drives-either : (b : Bool) (xs ys : List Drive) → Each (DriveReads P) xs → Each (DriveReads P) ys → Each (DriveReads P) (if b then xs else ys)
  drives-either true xs ys p q = p
  drives-either false xs ys p q = q

  from-reads : (a : Drive) (ds : List Drive) → DriveReads P a → Each (DriveReads P) ds → Each (DriveReads P) (merged_from a ds)
  from-reads a [] p q = (p, tt)
  from-reads a (b ∷ more) p q =
      drives-either (are_alike a b) (merged_from (drive_merged a b) more) (a ∷ merged_from b more) (from-reads (drive_merged a b) more (drive-reads a b p q.0) q.1) (p, from-reads b more q.0 q.1)

  -- Merged drives read no part that none of the drives reads.
  pub merged-read : (ds : List Drive) → Each (DriveReads P) ds → Each (DriveReads P) (merged_drives ds)
  merged-read [] p = tt
  merged-read (a ∷ more) p = from-reads a more p.0 p.1

  drive-either : (b : Bool) (xs ys : List Drive) → Each (λ (d : Drive). P d.part) xs → Each (λ (d : Drive). P d.part) ys → Each (λ (d : Drive). P d.part) (if b then xs else ys)
  drive-either true xs ys p q = p
  drive-either false xs ys p q = q

  from-drives : (a : Drive) (ds : List Drive) → P a.part → Each (λ (d : Drive). P d.part) ds → Each (λ (d : Drive). P d.part) (merged_from a ds)
  from-drives a [] p q = (p, tt)
  from-drives a (b ∷ more) p q = drive-either (are_alike a b) (merged_from (drive_merged a b) more) (a ∷ merged_from b more) (from-drives (drive_merged a b) more p q.1) (p, from-drives b more q.0 q.1)

  -- Merged drives drive no part that none of the drives drives.
  pub merged-drive : (ds : List Drive) → Each (λ (d : Drive). P d.part) ds → Each (λ (d : Drive). P d.part) (merged_drives ds)
  merged-drive [] p = tt
  merged-drive (a ∷ more) p = from-drives a more p.0 p.1
