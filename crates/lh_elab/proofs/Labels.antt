-- The label and the path of an instance, from what is built of a design.
use Rattle.std.proofs.Common.{◌≡◌, ℕ, zero, suc, ◌+◌, ◌<◌, List, [], ◌∷◌, ◌++◌, length, map, get_or, true, false, Option, Some, None, is_some, refl, ap, sym, ◌∙◌, subst, arith}
use Rattle.std.specs.Prelude.{codes, decimal, slice_get}
use Rattle.std.specs.Option.{option_map, option_map_or, option_and_then}
use Rattle.std.proofs.lemmas.List.{append-nil, append_assoc}
use Rattle.std.proofs.lemmas.Option.{slice_get-get_or}
use Rattle.lh_unit.specs.Arena.{Arena, unit_name_at}
use Rattle.lh_unit.specs.Design.{label_by, instance_label}
use Rattle.lh_unit.specs.Paths.{shown_in, label_at, path_at, IsParentBelow, ParentsComeBefore}
use Rattle.lh_unit.specs.Trace.{Shown, shown_from}
use Rattle.lh_trace_laws.proofs.PathsLaw.{top_path, child_path}
use Rattle.lh_eval.specs.declared.instance.Instance.{Instance}
use Rattle.lh_design.specs.declared.Design.{Design}
use Rattle.lh_design.specs.Texts.{instance_text, design_text}
use Rattle.lh_elab.specs.Climbing.{parent_at, dotted}

abbrev pub shown : Arena → Design → List Shown
shown a d = shown_in (design_text a d)

-- an instance as the trace shows it
abbrev pub shows : Arena → ℕ → Instance → Shown
shows a k i = record { label = instance_label k (instance_text a i); parent = i.parent }

shown-at : (a : Arena) (n k : ℕ) (is : List Instance) → slice_get (shown_from n (map (instance_text a) is)) k ≡ option_map (shows a (n + k)) (slice_get is k)
shown-at a n k [] = refl
shown-at a n zero (i ∷ is) = let e : n ≡ n + zero = omega arith in ap (λ (m : ℕ). Some (shows a m i)) e
shown-at a n (suc k) (i ∷ is) = let e : n + 1 + k ≡ n + suc k = omega arith in shown-at a (n + 1) k is ∙ ap (λ (m : ℕ). option_map (shows a m) (slice_get is k)) e

pub shown-is : (a : Arena) (d : Design) (k : ℕ) → slice_get (shown a d) k ≡ option_map (shows a k) (slice_get d.instances.items k)
shown-is a d k = let e : 0 + k ≡ k = omega arith in shown-at a 0 k d.instances.items ∙ ap (λ (m : ℕ). option_map (shows a m) (slice_get d.instances.items k)) e

item-at : (is : List Instance) (k : ℕ) (i : Instance) → k < length is → i ≡ get_or is k i → slice_get is k ≡ Some i
item-at is k i h e = slice_get-get_or is k i h ∙ ap (λ (x : Instance). Some x) (sym e)

-- the label of an instance
pub label-is : (a : Arena) (d : Design) (k : ℕ) (i : Instance) → k < length d.instances.items → i ≡ get_or d.instances.items k i
    → label_at (shown a d) k ≡ label_by i.parent k (unit_name_at a i.unit.0).name
label-is a d k i h e = ap (λ o. option_map_or (λ (s : Shown). s.label) o []) (shown-is a d k ∙ ap (option_map (shows a k)) (item-at d.instances.items k i h e))

-- the parent of an instance
pub parent-is : (is : List Instance) (k : ℕ) (i : Instance) → k < length is → i ≡ get_or is k i → i.parent ≡ parent_at is k
parent-is is k i h e = sym (ap (option_and_then (λ (x : Instance). x.parent)) (item-at is k i h e))

some-at : (is : List Instance) (k : ℕ) → k < length is → (i : Instance) × (slice_get is k ≡ Some i)
some-at [] k h = absurd (omega arith)
some-at (i ∷ is) zero h = (i, refl)
some-at (i ∷ is) (suc k) h = some-at is k (omega arith)

-- labels with dots
pub dotted-more : (all : List Shown) (ks : List ℕ) (k : ℕ) → dotted all (ks ++ k ∷ []) ≡ 46 ∷ (label_at all k ++ dotted all ks)
dotted-more all [] k = ap (λ l. 46 ∷ l) (sym (append-nil (label_at all k)))
dotted-more all (x ∷ ks) k = ap (λ l. l ++ 46 ∷ label_at all x) (dotted-more all ks k) ∙ ap (λ l. 46 ∷ l) (append_assoc (label_at all k) (dotted all ks) (46 ∷ label_at all x))

module _ (a : Arena) (d : Design) (b : ParentsComeBefore (shown a d)) where
  -- what the trace shows of an instance
  at : (k : ℕ) → k < length d.instances.items → (s : Shown) × (slice_get (shown a d) k ≡ Some s) × (s.parent ≡ parent_at d.instances.items k) × (label_at (shown a d) k ≡ s.label)
  at k h =
      let i = some-at d.instances.items k h in
      let e : slice_get (shown a d) k ≡ Some (shows a k i.0) = shown-is a d k ∙ ap (option_map (shows a k)) i.1 in
      (shows a k i.0, e, sym (ap (option_and_then (λ (x : Instance). x.parent)) i.1), ap (λ o. option_map_or (λ (s : Shown). s.label) o []) e)

  -- a parent has a lower number
  pub parent-below : (k p : ℕ) → k < length d.instances.items → parent_at d.instances.items k ≡ Some p → p < k
  parent-below k p h e = let s = at k h in subst (IsParentBelow k) (s.2 ∙ e) (b k s.0 s.1)

  -- the path of the top
  pub path-top : (k : ℕ) → k < length d.instances.items → parent_at d.instances.items k ≡ None → path_at (shown a d) k ≡ label_at (shown a d) k
  path-top k h e = let s = at k h in top_path (shown a d) k s.0 s.1 (s.2 ∙ e) ∙ sym s.3

  -- one step up
  pub path-up : (all : List ℕ) (ks more : List ℕ) (k p : ℕ) → k < length d.instances.items → parent_at d.instances.items k ≡ Some p → more ≡ ks ++ k ∷ []
      → all ≡ path_at (shown a d) k ++ dotted (shown a d) ks → all ≡ path_at (shown a d) p ++ dotted (shown a d) more
  path-up all ks more k p h e m q =
      let s = at k h in
      let up : path_at (shown a d) k ≡ path_at (shown a d) p ++ 46 ∷ label_at (shown a d) k = child_path (shown a d) k p s.0 b s.1 (s.2 ∙ e) ∙ ap (λ l. path_at (shown a d) p ++ 46 ∷ l) (sym s.3) in
      q
      ∙ ap (λ l. l ++ dotted (shown a d) ks) up
      ∙ append_assoc (path_at (shown a d) p) (46 ∷ label_at (shown a d) k) (dotted (shown a d) ks)
      ∙ ap (λ l. path_at (shown a d) p ++ l) (sym (dotted-more (shown a d) ks k))
      ∙ ap (λ l. path_at (shown a d) p ++ dotted (shown a d) l) (sym m)

-- one step down
pub down : (all : List Shown) (whole text dot label : List ℕ) (ks less : List ℕ) (k : ℕ) → ks ≡ less ++ k ∷ [] → dot ≡ text ++ 46 ∷ [] → label ≡ dot ++ label_at all k → whole ≡ text ++ dotted all ks
    → whole ≡ label ++ dotted all less
down all whole text dot label ks less k e p q w =
    w
    ∙ ap (λ l. text ++ dotted all l) e
    ∙ ap (λ l. text ++ l) (dotted-more all less k)
    ∙ sym (append_assoc text (46 ∷ []) (label_at all k ++ dotted all less))
    ∙ ap (λ l. l ++ (label_at all k ++ dotted all less)) (sym p)
    ∙ sym (append_assoc dot (label_at all k) (dotted all less))
    ∙ ap (λ l. l ++ dotted all less) (sym q)

-- the label of an instance with a parent, and of one without
module _ (a : Arena) (d : Design) (k : ℕ) (i : Instance) (h : k < length d.instances.items) (e : i ≡ get_or d.instances.items k i) where
  by-parent : (p : Option ℕ) → i.parent ≡ p → label_at (shown a d) k ≡ label_by p k (unit_name_at a i.unit.0).name
  by-parent p q = label-is a d k i h e ∙ ap (λ o. label_by o k (unit_name_at a i.unit.0).name) q

  pub label-alone : is_some i.parent ≡ false → label_at (shown a d) k ≡ (unit_name_at a i.unit.0).name
  label-alone f = by i.parent refl f
    where
      by : (p : Option ℕ) → i.parent ≡ p → is_some p ≡ false → label_at (shown a d) k ≡ (unit_name_at a i.unit.0).name
      by None q f = by-parent None q
      by (Some p) q f = absurd cc

  pub label-numbered : is_some i.parent ≡ true → label_at (shown a d) k ≡ ((unit_name_at a i.unit.0).name ++ codes "_") ++ decimal k
  label-numbered f = by i.parent refl f
    where
      by : (p : Option ℕ) → i.parent ≡ p → is_some p ≡ true → label_at (shown a d) k ≡ ((unit_name_at a i.unit.0).name ++ codes "_") ++ decimal k
      by None q f = absurd cc
      by (Some p) q f = by-parent (Some p) q
