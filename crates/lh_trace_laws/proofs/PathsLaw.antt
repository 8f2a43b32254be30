-- The path of an instance, by the labels above it.
use Rattle.std.proofs.Common.{◌≡◌, ◌≤◌, ◌<◌, ℕ, zero, suc, ◌+◌, List, [], ◌∷◌, ◌++◌, length, refl, ap, sym, ◌∙◌, subst, Option, Some, None, arith, append_assoc}
use Rattle.std.specs.Prelude.{slice_get}
use Rattle.std.specs.Option.{option_map_or}
use Rattle.std.specs.List.{join_with_byte}
use Rattle.std.proofs.lemmas.List.{length-append}
use Rattle.std.proofs.lemmas.Option.{none-some, same_Some, slice_get_within}
use Rattle.lh_types.specs.declared.part.Range.{Range}
use Rattle.lh_unit_names.specs.declared.name.UnitName.{UnitName}
use Rattle.lh_unit.specs.Hierarchy.{Instance, Child, Hierarchy, Entry, hierarchies, hierarchy_named}
use Rattle.lh_unit.specs.Design.{Design, Refusal, Elaborated, refused, built, hierarchy_in, max_nesting, arg_ranges, signal_ranges, with_instance, visit_all, visited, visit, top_signals, only_signals, design_of, refusal_of, elaborated, elab_named, elab_of}
use Rattle.lh_unit.specs.Trace.{Shown, shown_from}
use Rattle.lh_unit.specs.Paths.{LabelsTo, of_top, of_child, labels_by, labels_to, path_at, IsParentBelow, ParentsComeBefore}
use Rattle.lh_trace_laws.specs.Paths.{PathComputes, TopPath, ChildPath, DesignsHaveParentsBefore}

none_below : (k : ℕ) → k < zero → ⊥
none_below k l = omega (arith, l)

-- a number below the length has an item
item_at : {A : Type 0} (xs : List A) (k : ℕ) → k < length xs → (x : A) × (slice_get xs k ≡ Some x)
item_at [] k l = absurd (none_below k l)
item_at (x ∷ xs) zero l = (x, refl)
item_at (x ∷ xs) (suc k) l = item_at xs k (omega (arith, l))

module _ (all : List Shown) (before : ParentsComeBefore all) where
  below_at : (k parent : ℕ) (s : Shown) → slice_get all k ≡ Some s → s.parent ≡ Some parent → parent < k
  below_at k parent s e p = let P : Option ℕ → Type 0 = IsParentBelow k in subst P p (before k s e)

  module _ (n m : ℕ) (same : (k : ℕ) → k < n → k < m → labels_to n all k ≡ labels_to m all k) where
    same_above : (k : ℕ) → k < suc n → k < suc m → (q : Option ℕ) → IsParentBelow k q → option_map_or (labels_to n all) q [] ≡ option_map_or (labels_to m all) q []
    same_above k a c None b = refl
    same_above k a c (Some p) b = same p (omega (arith, a, b)) (omega (arith, c, b))

    same_by : (k : ℕ) → k < suc n → k < suc m → (o : Option Shown) → slice_get all k ≡ o → labels_by (labels_to n all) o ≡ labels_by (labels_to m all) o
    same_by k a c None e = refl
    same_by k a c (Some s) e = ap (λ ls. ls ++ s.label ∷ []) (same_above k a c s.parent (before k s e))

  -- as many steps as suffice give the same
  same_labels : (n m k : ℕ) → k < n → k < m → labels_to n all k ≡ labels_to m all k
  same_labels zero m k a c = absurd (none_below k a)
  same_labels (suc n) zero k a c = absurd (none_below k c)
  same_labels (suc n) (suc m) k a c = same_by n m (λ j x y. same_labels n m j x y) k a c (slice_get all k) refl

  -- the labels that lead to an instance are those that are computed
  labels_are : (k : ℕ) (labels : List (List ℕ)) → LabelsTo all k labels → (n : ℕ) → k < n → labels_to n all k ≡ labels
  labels_are k _ (of_top _ s e p) zero l = absurd (none_below k l)
  labels_are k _ (of_top _ s e p) (suc n) l = rw (e, p) refl
  labels_are k _ (of_child _ s parent above e p h) zero l = absurd (none_below k l)
  labels_are k _ (of_child _ s parent above e p h) (suc n) l =
      let lower : parent < k = below_at k parent s e p in
      let ih : labels_to n all parent ≡ above = labels_are parent above h n (omega (arith, lower, l)) in
      rw (e, p) (ap (λ ls. ls ++ s.label ∷ []) ih)

  labels_lead : (n k : ℕ) → k < n → k < length all → LabelsTo all k (labels_to n all k)
  labels_lead zero k l w = absurd (none_below k l)
  labels_lead (suc n) k l w = let x = item_at all k w in at x.0 x.1 x.0.parent refl (λ j a b. labels_lead n j a b)
    where
      at : (s : Shown) → slice_get all k ≡ Some s → (q : Option ℕ) → s.parent ≡ q → ((j : ℕ) → j < n → j < length all → LabelsTo all j (labels_to n all j))
          → LabelsTo all k (labels_by (labels_to n all) (slice_get all k))
      at s e None p ih =
          let r : labels_by (labels_to n all) (slice_get all k) ≡ s.label ∷ [] = rw (e, p) refl in
          subst (LabelsTo all k) (sym r) (of_top k s e p)
      at s e (Some parent) p ih =
          let lower : parent < k = below_at k parent s e p in
          let r : labels_by (labels_to n all) (slice_get all k) ≡ labels_to n all parent ++ s.label ∷ [] = rw (e, p) refl in
          subst (LabelsTo all k) (sym r) (of_child k s parent (labels_to n all parent) e p (ih parent (omega (arith, lower, l)) (omega (arith, lower, w))))

pub path_computes : PathComputes
unfolding path_at
path_computes all k path before l = (
  λ h. ap (join_with_byte 46) (labels_are all before k h.labels h.leads (suc k) (omega arith)) ∙ sym h.joined,
  λ e. record { labels = labels_to (suc k) all k; leads = labels_lead all before (suc k) k (omega arith) l; joined = sym e },
)

pub top_path : TopPath
unfolding path_at
top_path all k s e p = rw (e, p) refl

-- one more label at the end
join-last : (x : List ℕ) (xs : List (List ℕ)) (y : List ℕ) → join_with_byte 46 ((x ∷ xs) ++ y ∷ []) ≡ join_with_byte 46 (x ∷ xs) ++ 46 ∷ y
join-last x [] y = refl
join-last x (z ∷ zs) y =
    ap (λ r. x ++ 46 ∷ r) (join-last z zs y) ∙ sym (append_assoc x (46 ∷ join_with_byte 46 (z ∷ zs)) (46 ∷ y))

-- there is at least one label
abbrev IsNotEmpty : List (List ℕ) → Type 0
IsNotEmpty [] = ⊥
IsNotEmpty (x ∷ xs) = Unit {0}

not_empty-last : (xs : List (List ℕ)) (y : List ℕ) → IsNotEmpty (xs ++ y ∷ [])
not_empty-last [] y = tt
not_empty-last (x ∷ xs) y = tt

join-labels : (xs : List (List ℕ)) (y : List ℕ) → IsNotEmpty xs → join_with_byte 46 (xs ++ y ∷ []) ≡ join_with_byte 46 xs ++ 46 ∷ y
join-labels [] y h = absurd h
join-labels (x ∷ xs) y h = join-last x xs y

labels_there : (n k : ℕ) (all : List Shown) (s : Shown) → slice_get all k ≡ Some s → IsNotEmpty (labels_to (suc n) all k)
labels_there n k all s e = rw e (not_empty-last (option_map_or (labels_to n all) s.parent []) s.label)

pub child_path : ChildPath
unfolding path_at
child_path all k parent s before e p =
    let lower : parent < k = below_at all before k parent s e p in
    let inside : k < length all = slice_get_within all k s e in
    let x = item_at all parent (omega (arith, lower, inside)) in
    let own : labels_to (suc k) all k ≡ labels_to k all parent ++ s.label ∷ [] = rw (e, p) refl in
    let same : labels_to k all parent ≡ labels_to (suc parent) all parent = same_labels all before k (suc parent) parent lower (omega arith) in
    ap (join_with_byte 46) (own ∙ ap (λ ls. ls ++ s.label ∷ []) same) ∙ join-labels (labels_to (suc parent) all parent) s.label (labels_there parent parent all x.0 x.1)

-- the instances of a design, the first having the number k, have parents of lower numbers
abbrev AllBelow : ℕ → List Instance → Type 0
AllBelow k [] = Unit {0}
AllBelow k (i ∷ more) = IsParentBelow k i.parent × AllBelow (k + 1) more

below_append : (k : ℕ) (xs : List Instance) (y : Instance) → AllBelow k xs → IsParentBelow (k + length xs) y.parent → AllBelow k (xs ++ y ∷ [])
below_append k [] y a h = (let n : k + zero ≡ k = omega arith in subst (λ j. IsParentBelow j y.parent) n h, tt)
below_append k (x ∷ xs) y a h =
    let n : k + suc (length xs) ≡ k + 1 + length xs = omega arith in
    (a.0, below_append (k + 1) xs y a.1 (subst (λ j. IsParentBelow j y.parent) n h))

shown_below : (k : ℕ) (is : List Instance) → AllBelow k is → (j : ℕ) (s : Shown) → slice_get (shown_from k is) j ≡ Some s → IsParentBelow (k + j) s.parent
shown_below k [] a j s e = absurd (none-some s e)
shown_below k (i ∷ is) a zero s e =
    let n : k ≡ k + zero = omega arith in
    let p : i.parent ≡ s.parent = ap (λ (x : Shown). x.parent) (same_Some _ s e) in
    subst (λ m. IsParentBelow m s.parent) n (subst (λ q. IsParentBelow k q) p a.0)
shown_below k (i ∷ is) a (suc j) s e =
    let n : k + 1 + j ≡ k + suc j = omega arith in
    subst (λ m. IsParentBelow m s.parent) n (shown_below (k + 1) is a.1 j s e)

-- the design has parents below, and at least so many instances
record Grown (least : ℕ) (d : Design) : Type 0 where
  below : AllBelow 0 d.instances
  many : least ≤ length d.instances

module _ (table : List Entry) where
  abbrev Grows : (Child → Design → Design) → ℕ → Type 0
  Grows visit parent = (c : Child) (d : Design) → Grown (suc parent) d → Grown (length d.instances) (visit c d)

  all_grow : (parent : ℕ) (visit : Child → Design → Design) → Grows visit parent → (cs : List Child) (d : Design) → Grown (suc parent) d → Grown (length d.instances) (visit_all visit cs d)
  all_grow parent visit g [] d a = record { below = a.below; many = omega arith }
  all_grow parent visit g (c ∷ more) d a =
      let one = g c d a in
      let rest = all_grow parent visit g more (visit c d) (record { below = one.below; many = let x = one.many in let y = a.many in omega (arith, x, y) }) in
      record { below = rest.below; many = let x = one.many in let y = rest.many in omega (arith, x, y) }

  visited_grows : (visit : ℕ → Child → Design → Design) → ((parent : ℕ) → Grows (visit parent) parent) → (parent : Option ℕ) (n : UnitName) (h : Hierarchy) (args : List Range) (d : Design)
      → AllBelow 0 d.instances → IsParentBelow (length d.instances) parent → Grown (suc (length d.instances)) (visited visit parent n h args d)
  visited_grows visit g parent n h args d a p =
      let zero_sum : zero + length d.instances ≡ length d.instances = omega arith in
      let one : length (with_instance parent n h args d).instances ≡ length d.instances + 1 = length-append d.instances _ in
      let there : Grown (suc (length d.instances)) (with_instance parent n h args d) = record {
        below = below_append 0 d.instances _ a (subst (λ k. IsParentBelow k parent) (sym zero_sum) p);
        many = omega (arith, one);
      } in
      let rest = all_grow (length d.instances) (visit (length d.instances)) (g (length d.instances)) (h.children args (signal_ranges (length d.init) h.signals)) (with_instance parent n h args d)
      there in
      record { below = rest.below; many = let x = rest.many in omega (arith, one, x) }

  visit_grows : (k : ℕ) (parent : ℕ) → Grows (visit k table parent) parent
  unfolding visit
  visit_grows zero parent c d a = record { below = a.below; many = omega arith }
  visit_grows (suc k) parent c d a =
      let r = visited_grows (visit k table) (visit_grows k) (Some parent) c.unit (hierarchy_in table c.unit) (arg_ranges (hierarchy_in table c.unit).args c.lows) d a.below (let m = a.many in
      omega (arith, m)) in
      record { below = r.below; many = let m = r.many in omega (arith, m) }

  design_below : (k : ℕ) (top : UnitName) → AllBelow 0 (design_of k table top).instances
  unfolding design_of
  design_below zero top = tt
  design_below (suc k) top =
      (visited_grows (visit k table) (visit_grows k) None top (hierarchy_in table top) (signal_ranges 0 (top_signals (hierarchy_in table top).args))
      (only_signals (top_signals (hierarchy_in table top).args)) tt tt).below

  abbrev BuiltBelow : Elaborated → Type 0
  BuiltBelow (refused r) = Unit {0}
  BuiltBelow (built d) = AllBelow 0 d.instances

  elab_below : (top : UnitName) → BuiltBelow (elab_of table top)
  elab_below top = by_name (hierarchy_named top table)
    where
      by_refusal : (o : Option Refusal) → BuiltBelow (elaborated o (design_of max_nesting table top))
      by_refusal None = design_below max_nesting top
      by_refusal (Some r) = tt

      by_name : (o : Option Hierarchy) → BuiltBelow (elab_named table top o)
      by_name None = tt
      by_name (Some h) = by_refusal (refusal_of table top h)

pub designs_have_parents_before : DesignsHaveParentsBefore
designs_have_parents_before items top d e k s h =
    let b : AllBelow 0 d.instances = subst (λ x. BuiltBelow (hierarchies items) x) e (elab_below (hierarchies items) top) in
    let n : zero + k ≡ k = omega arith in
    subst (λ m. IsParentBelow m s.parent) n (shown_below 0 d.instances b k s h)
