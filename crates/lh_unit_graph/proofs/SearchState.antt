-- The search keeps what is known of the units that it has left, and the way to the open unit; at its end the measure of the top is known.
use Rattle.std.proofs.Common.{◌≡◌, ℕ, zero, suc, ◌+◌, ◌-◌, ◌<◌, ◌≤◌, inl, inr, List, [], ◌∷◌, ◌++◌, length, take, set, replicate, reverse, Some, None, refl, ap, sym, ◌∙◌, subst, arith}
use Rattle.std.specs.List.{slice_get}
use Rattle.std.proofs.lemmas.Bool.{cases_lt}
use Rattle.std.proofs.lemmas.List.{length-set, length-replicate, get_or-set_same, get_or-set_other, get_or-replicate, get_or_past}
use Rattle.lh_unit.specs.Within.{Each}
use Rattle.lh_unit.specs.declared.inst.UnitId.{UnitId}
use Rattle.lh_unit.proofs.Lists.{Each-append, Same, same, other, same_or, first_some-none}
use Rattle.lh_unit.proofs.Within.{Each-more}
use Rattle.lh_verify_laws.specs.Graphs.{met_or, is_open, IsIn}
use Rattle.lh_verify_laws.proofs.Graphs.{Distinct, not_open, is_open-in, first-at, no_longer}
use Rattle.lh_unit_graph.specs.declared.search.Mark.{Mark}
use Rattle.lh_unit_graph.specs.declared.search.Mark.TheVariants as mark
use Rattle.lh_unit_graph.specs.declared.search.OpenUnit.{OpenUnit}
use Rattle.lh_unit_graph.specs.declared.search.UnitSearch.{UnitSearch}
use Rattle.lh_unit_graph.specs.Measures.{Measuring, node_at, targets_at, IsMeasure, cycle_in, HasBusy}
use Rattle.lh_unit_graph.specs.Searches.{mark_at, entered, passed, IsDone, IsQuiet, LeftUnitsAreKnown, units, Covered}
use Rattle.lh_unit_graph.proofs.MeasureSums.{IsSum, IsSum-none, IsSum-beside, IsMeasure-around}

module _ {N M : Type 0} (C : Measuring N M) where
  -- an open unit: the search has left its targets before the next one, and has their measure
  pub record Leaves (g : List N) (marks : List (Mark M)) (f : OpenUnit M) : Type 0 where
    pub room : f.next ≤ length (targets_at C g f.unit.0)
    pub left : Each (λ (t : UnitId). IsDone marks t.0) (take f.next (targets_at C g f.unit.0))
    pub inside : IsSum C g (take f.next (targets_at C g f.unit.0)) f.inside

  -- the unit n is the next target of the unit that was open before it, and so on to the top
  abbrev pub Waits : List N → List (Mark M) → (top : ℕ) → UnitId → List (OpenUnit M) → Type 0
  Waits g marks top n [] = n.0 ≡ top
  Waits g marks top n (p ∷ rest) = Leaves g marks p × (slice_get (targets_at C g p.unit.0) p.next ≡ Some n) × Waits g marks top p.unit rest

  -- the search is below the unit of f
  pub record Below (g : List N) (top : ℕ) (marks : List (Mark M)) (f : OpenUnit M) (rest : List (OpenUnit M)) : Type 0 where
    pub known : LeftUnitsAreKnown C g marks
    pub opened : (u : ℕ) → mark_at marks u ≡ mark.Opened → IsIn (units (f ∷ rest)) u
    pub marked : (u : ℕ) → IsIn (units (f ∷ rest)) u → mark_at marks u ≡ mark.Opened
    pub distinct : Distinct (units (f ∷ rest))
    pub here : Leaves g marks f
    pub waits : Waits g marks top f.unit rest

  -- the search has left the top
  pub record Over (g : List N) (top : ℕ) (marks : List (Mark M)) : Type 0 where
    pub known : LeftUnitsAreKnown C g marks
    pub top_done : IsDone marks top
    pub none_open : (u : ℕ) → mark_at marks u ≡ mark.Opened → ⊥

  -- by the open units, the innermost first
  abbrev pub SearchingBy : List N → (top : ℕ) → List (Mark M) → List (OpenUnit M) → Type 0
  SearchingBy g top marks [] = Over g top marks
  SearchingBy g top marks (f ∷ rest) = Below g top marks f rest

  abbrev pub Searching : List N → (top : ℕ) → UnitSearch M → Type 0
  Searching g top s = SearchingBy g top s.marks.items (reverse s.stack.items)

  -- what was left stays left
  abbrev Keeps : (old new : List (Mark M)) → Type 0
  Keeps old new = (u : ℕ) (m : M) → mark_at old u ≡ mark.Done m → mark_at new u ≡ mark.Done m

  IsDone-keeps : (old new : List (Mark M)) → Keeps old new → (u : ℕ) → IsDone old u → IsDone new u
  IsDone-keeps old new k u d = (d.0, k u d.0 d.1)

  IsQuiet-keeps : (g : List N) (old new : List (Mark M)) (u : ℕ) → Keeps old new → IsQuiet C g old u → IsQuiet C g new u
  IsQuiet-keeps g old new u k q = λ n opened h. q n opened (λ v i d. h v i (IsDone-keeps old new k v d))

  Leaves-keeps : (g : List N) (old new : List (Mark M)) (f : OpenUnit M) → Keeps old new → Leaves g old f → Leaves g new f
  Leaves-keeps g old new f k l = record {
    room = l.room;
    left = Each-more (λ (t : UnitId). IsDone old t.0) (λ (t : UnitId). IsDone new t.0) (take f.next (targets_at C g f.unit.0))
        (λ t d. IsDone-keeps old new k t.0 d) l.left;
    inside = l.inside;
  }

  Waits-keeps : (g : List N) (old new : List (Mark M)) (top : ℕ) (n : UnitId) (rest : List (OpenUnit M)) → Keeps old new → Waits g old top n rest
      → Waits g new top n rest
  Waits-keeps g old new top n [] k w = w
  Waits-keeps g old new top n (p ∷ rest) k w = (Leaves-keeps g old new p k w.0, w.1, Waits-keeps g old new top p.unit rest k w.2)

  -- a mark is set
  mark-same : (marks : List (Mark M)) (u : ℕ) (x : Mark M) → u < length marks → mark_at (set marks u x) u ≡ x
  mark-same marks u x l = get_or-set_same marks u x mark.New l

  mark-other : (marks : List (Mark M)) (u v : ℕ) (x : Mark M) → (v ≡ u → ⊥) → mark_at (set marks u x) v ≡ mark_at marks v
  mark-other marks u v x n = get_or-set_other marks u v x mark.New n

  done_new : (x : Mark M) (m : M) → x ≡ mark.New → x ≡ mark.Done m → ⊥
  done_new x m p q = cc

  done_opened : (x : Mark M) (m : M) → x ≡ mark.Opened → x ≡ mark.Done m → ⊥
  done_opened x m p q = cc

  new_opened : (x : Mark M) → x ≡ mark.New → x ≡ mark.Opened → ⊥
  new_opened x p q = cc

  same_done : (m n : M) → mark.Done m ≡ mark.Done n → m ≡ n
  same_done m n p = cc

  -- a mark that is not Done is changed
  Keeps-set : (marks : List (Mark M)) (u : ℕ) (x : Mark M) → ((m : M) → mark_at marks u ≡ mark.Done m → ⊥) → Keeps marks (set marks u x)
  Keeps-set marks u x h v m e = by (same_or v u)
    where
      by : Same v u → mark_at (set marks u x) v ≡ mark.Done m
      by (same q) = absurd (h m (ap (mark_at marks) (sym q) ∙ e))
      by (other q) = mark-other marks u v x q ∙ e

  -- to go into a target
  LeftUnitsAreKnown-enter : (g : List N) (marks : List (Mark M)) (t : ℕ) → LeftUnitsAreKnown C g marks → mark_at marks t ≡ mark.New
      → t < length marks → LeftUnitsAreKnown C g (set marks t mark.Opened)
  LeftUnitsAreKnown-enter g marks t o n l = record {
    long = length-set marks t mark.Opened ∙ o.long;
    measure = λ u m e. o.measure u m (back u m e (same_or u t));
    quiet =
        λ u d. IsQuiet-keeps g marks (set marks t mark.Opened) u (Keeps-set marks t mark.Opened (λ m e. done_new (mark_at marks t) m n e))
        (o.quiet u (d.0, back u d.0 d.1 (same_or u t)));
  }
    where
      back : (u : ℕ) (m : M) → mark_at (set marks t mark.Opened) u ≡ mark.Done m → Same u t → mark_at marks u ≡ mark.Done m
      back u m e (same q) =
          absurd (done_opened (mark_at (set marks t mark.Opened) u) m
          (ap (mark_at (set marks t mark.Opened)) q ∙ mark-same marks t mark.Opened l) e)
      back u m e (other q) = sym (mark-other marks t u mark.Opened q) ∙ e

  fresh : (g : List N) (marks : List (Mark M)) (t : UnitId) → Leaves g marks (entered C t)
  fresh g marks t = record { room = omega arith; left = tt; inside = IsSum-none C g }

  pub Below-enter : (g : List N) (top : ℕ) (marks : List (Mark M)) (f : OpenUnit M) (rest : List (OpenUnit M)) (t : UnitId)
      → Below g top marks f rest → slice_get (targets_at C g f.unit.0) f.next ≡ Some t
      → mark_at marks t.0 ≡ mark.New → t.0 < length marks → Below g top (set marks t.0 mark.Opened) (entered C t) (f ∷ rest)
  Below-enter g top marks f rest t o e n l = record {
    known = LeftUnitsAreKnown-enter g marks t.0 o.known n l;
    opened = λ u q. opens u q (same_or u t.0);
    marked = λ u i. marks_of u i;
    distinct = (λ i. new_opened (mark_at marks t.0) n (o.marked t.0 i), o.distinct);
    here = fresh g (set marks t.0 mark.Opened) t;
    waits = (
      Leaves-keeps g marks (set marks t.0 mark.Opened) f keeps o.here,
      e,
      Waits-keeps g marks
          (set marks t.0 mark.Opened) top f.unit rest keeps o.waits,
    );
  }
    where
      keeps : Keeps marks (set marks t.0 mark.Opened)
      keeps = Keeps-set marks t.0 mark.Opened (λ m q. done_new (mark_at marks t.0) m n q)

      opens : (u : ℕ) → mark_at (set marks t.0 mark.Opened) u ≡ mark.Opened → Same u t.0 → IsIn (units (entered C t ∷ f ∷ rest)) u
      opens u q (same z) = inl (sym z)
      opens u q (other z) = inr (o.opened u (sym (mark-other marks t.0 u mark.Opened z) ∙ q))

      marks_of : (u : ℕ) → IsIn (units (entered C t ∷ f ∷ rest)) u → mark_at (set marks t.0 mark.Opened) u ≡ mark.Opened
      marks_of u (inl z) = ap (mark_at (set marks t.0 mark.Opened)) (sym z) ∙ mark-same marks t.0 mark.Opened l
      marks_of u (inr i) =
          mark-other marks t.0 u mark.Opened (λ z. new_opened (mark_at marks t.0) n (ap (mark_at marks) (sym z) ∙ o.marked u i)) ∙ o.marked u i

  -- to pass a target that was left
  take_next : {A : Type 0} (xs : List A) (k : ℕ) (x : A) → slice_get xs k ≡ Some x → take (k + 1) xs ≡ take k xs ++ x ∷ []
  take_next [] k x e = cc
  take_next (y ∷ ys) zero x e = let s : y ≡ x = cc in ap (λ z. z ∷ []) s
  take_next (y ∷ ys) (suc k) x e = ap (λ n. take n (y ∷ ys)) (plus k) ∙ ap (λ l. y ∷ l) (take_next ys k x e)
    where
      plus : (k : ℕ) → suc k + 1 ≡ suc (k + 1)
      plus k = omega arith

  within : {A : Type 0} (xs : List A) (k : ℕ) (x : A) → slice_get xs k ≡ Some x → k + 1 ≤ length xs
  within [] k x e = cc
  within (y ∷ ys) zero x e = omega arith
  within (y ∷ ys) (suc k) x e = up k (length ys) (within ys k x e)
    where
      up : (k n : ℕ) → k + 1 ≤ n → suc k + 1 ≤ suc n
      up k n h = omega arith

  pub Below-pass : (g : List N) (top : ℕ) (marks : List (Mark M)) (f : OpenUnit M) (rest : List (OpenUnit M)) (t : UnitId) (m : M)
      → Below g top marks f rest
      → slice_get (targets_at C g f.unit.0) f.next ≡ Some t → mark_at marks t.0 ≡ mark.Done m → Below g top marks (passed C f m) rest
  Below-pass g top marks f rest t m o e d = record {
    known = o.known;
    opened = o.opened;
    marked = o.marked;
    distinct = o.distinct;
    here = record {
      room = within (targets_at C g f.unit.0) f.next t e;
      left = subst (Each (λ (x : UnitId). IsDone marks x.0)) (sym (take_next (targets_at C g f.unit.0) f.next t e))
          (Each-append (λ (x : UnitId). IsDone marks x.0) (take f.next (targets_at C g f.unit.0)) (t ∷ []) o.here.left ((m, d), tt));
      inside = subst (λ l. IsSum C g l (passed C f m).inside) (sym (take_next (targets_at C g f.unit.0) f.next t e))
          (IsSum-beside C g (take f.next (targets_at C g f.unit.0)) t f.inside m o.here.inside (o.known.measure t.0 m d));
    };
    waits = o.waits;
  }

  -- to leave a unit
  taken_all : {A : Type 0} (xs : List A) (k : ℕ) → slice_get xs k ≡ None → take k xs ≡ xs
  taken_all [] k e = take_nil k
    where
      take_nil : {A : Type 0} (k : ℕ) → take {A = A} k [] ≡ []
      take_nil zero = refl
      take_nil (suc k) = refl
  taken_all (y ∷ ys) zero e = cc
  taken_all (y ∷ ys) (suc k) e = ap (λ l. y ∷ l) (taken_all ys k e)

  -- no unit that was left is open, so neither is a target that was left
  target-quiet : (g : List N) (marks : List (Mark M)) (k : ℕ) (opened : List ℕ) (t : UnitId) → LeftUnitsAreKnown C g marks
      → ((v : ℕ) → IsIn opened v → IsDone marks v → ⊥) → IsDone marks t.0
      → met_or (cycle_in C k g opened) (is_open opened t.0) t.0 ≡ None
  target-quiet g marks k opened t o h d =
      ap (λ b. met_or (cycle_in C k g opened) b t.0) (not_open opened t.0 (λ i. h t.0 i d)) ∙ o.quiet t.0 d k opened h

  quiet-all : (g : List N) (marks new : List (Mark M)) (u : ℕ) → LeftUnitsAreKnown C g marks → mark_at marks u ≡ mark.Opened → Keeps marks new
      → Each (λ (t : UnitId). IsDone marks t.0) (targets_at C g u)
      → IsQuiet C g new u
  quiet-all g marks new u o n keeps l zero opened h = refl
  quiet-all g marks new u o n keeps l (suc k) opened h =
      first_some-none (λ (t : UnitId). met_or (cycle_in C k g (u ∷ opened)) (is_open (u ∷ opened) t.0) t.0) (targets_at C g u)
      (Each-more (λ (t : UnitId). IsDone marks t.0) (λ (t : UnitId). met_or (cycle_in C k g (u ∷ opened)) (is_open (u ∷ opened) t.0) t.0 ≡ None)
      (targets_at C g u)
      (λ t d. target-quiet g marks k (u ∷ opened) t o avoids d) l)
    where
      avoids : (v : ℕ) → IsIn (u ∷ opened) v → IsDone marks v → ⊥
      avoids v (inl e) d = done_opened (mark_at marks v) d.0 (ap (mark_at marks) (sym e) ∙ n) d.1
      avoids v (inr i) d = h v i (IsDone-keeps marks new keeps v d)

  LeftUnitsAreKnown-finish : (g : List N) (marks : List (Mark M)) (u : ℕ) (m : M) → LeftUnitsAreKnown C g marks → mark_at marks u ≡ mark.Opened
      → u < length marks
      → Each (λ (t : UnitId). IsDone marks t.0) (targets_at C g u) → IsMeasure C g u m → LeftUnitsAreKnown C g (set marks u (mark.Done m))
  LeftUnitsAreKnown-finish g marks u m o n l done is = record {
    long = length-set marks u (mark.Done m) ∙ o.long;
    measure = λ v x e. measures v x e (same_or v u);
    quiet = λ v d. quiets v d (same_or v u);
  }
    where
      keeps : Keeps marks (set marks u (mark.Done m))
      keeps = Keeps-set marks u (mark.Done m) (λ x e. done_opened (mark_at marks u) x n e)

      measures : (v : ℕ) (x : M) → mark_at (set marks u (mark.Done m)) v ≡ mark.Done x → Same v u → IsMeasure C g v x
      measures v x e (same q) =
          let p : m ≡ x = same_done m x (sym (mark-same marks u (mark.Done m) l) ∙ ap (mark_at (set marks u (mark.Done m))) (sym q) ∙ e) in
          subst (λ y. IsMeasure C g y x) (sym q) (subst (IsMeasure C g u) p is)
      measures v x e (other q) = o.measure v x (sym (mark-other marks u v (mark.Done m) q) ∙ e)

      quiets : (v : ℕ) → IsDone (set marks u (mark.Done m)) v → Same v u → IsQuiet C g (set marks u (mark.Done m)) v
      quiets v d (same q) = subst (IsQuiet C g (set marks u (mark.Done m))) (sym q) (quiet-all g marks (set marks u (mark.Done m)) u o n keeps done)
      quiets v d (other q) =
          IsQuiet-keeps g marks (set marks u (mark.Done m)) v keeps (o.quiet v (d.0, sym (mark-other marks u v (mark.Done m) q) ∙ d.1))

  pub mark-within : (marks : List (Mark M)) (u : ℕ) → mark_at marks u ≡ mark.Opened → u < length marks
  mark-within marks u e =
      elim (cases_lt u (length marks)) [ inl l ↦ l | inr l ↦ absurd (new_opened (mark_at marks u) (get_or_past marks u mark.New l) e) ]

  pub Below-finish : (g : List N) (top : ℕ) (marks : List (Mark M)) (f : OpenUnit M) (rest : List (OpenUnit M)) → Below g top marks f rest
      → slice_get (targets_at C g f.unit.0) f.next ≡ None
      → SearchingBy g top (set marks f.unit.0 (mark.Done (C.around f.inside (node_at C g f.unit.0)))) rest
  Below-finish g top marks f rest o e = by rest o
    where
      opened : (rest : List (OpenUnit M)) → Below g top marks f rest → mark_at marks f.unit.0 ≡ mark.Opened
      opened rest o = o.marked f.unit.0 (inl refl)

      all : take f.next (targets_at C g f.unit.0) ≡ targets_at C g f.unit.0
      all = taken_all (targets_at C g f.unit.0) f.next e

      known : (rest : List (OpenUnit M)) → Below g top marks f rest
          → LeftUnitsAreKnown C g (set marks f.unit.0 (mark.Done (C.around f.inside (node_at C g f.unit.0))))
      known rest o =
          LeftUnitsAreKnown-finish g marks f.unit.0 (C.around f.inside (node_at C g f.unit.0)) o.known (opened rest o)
          (mark-within marks f.unit.0 (opened rest o))
          (subst (Each (λ (t : UnitId). IsDone marks t.0)) all o.here.left)
          (IsMeasure-around C g f.unit.0 f.inside (subst (λ l. IsSum C g l f.inside) all o.here.inside))

      keeps : (rest : List (OpenUnit M)) → Below g top marks f rest
          → Keeps marks (set marks f.unit.0 (mark.Done (C.around f.inside (node_at C g f.unit.0))))
      keeps rest o =
          Keeps-set marks f.unit.0 (mark.Done (C.around f.inside (node_at C g f.unit.0)))
          (λ x q. done_opened (mark_at marks f.unit.0) x (opened rest o) q)

      here : (rest : List (OpenUnit M)) → Below g top marks f rest
          → mark_at (set marks f.unit.0 (mark.Done (C.around f.inside (node_at C g f.unit.0)))) f.unit.0
          ≡ mark.Done (C.around f.inside (node_at C g f.unit.0))
      here rest o = mark-same marks f.unit.0 (mark.Done (C.around f.inside (node_at C g f.unit.0))) (mark-within marks f.unit.0 (opened rest o))

      opens : (rest : List (OpenUnit M)) → Below g top marks f rest → (u : ℕ)
          → mark_at (set marks f.unit.0 (mark.Done (C.around f.inside (node_at C g f.unit.0)))) u ≡ mark.Opened → Same u f.unit.0
          → IsIn (units rest) u
      opens rest o u q (same z) =
          absurd (done_opened (mark_at (set marks f.unit.0 (mark.Done (C.around f.inside (node_at C g f.unit.0)))) u)
          (C.around f.inside (node_at C g f.unit.0)) q
          (ap (mark_at (set marks f.unit.0 (mark.Done (C.around f.inside (node_at C g f.unit.0))))) z ∙ here rest o))
      opens rest o u q (other z) =
          elim (o.opened u (sym (mark-other marks f.unit.0 u (mark.Done (C.around f.inside (node_at C g f.unit.0))) z) ∙ q)) [
            | inl k ↦ absurd
                (z (sym k))
            | inr i ↦ i
          ]

      by : (rest : List (OpenUnit M)) → Below g top marks f rest
          → SearchingBy g top (set marks f.unit.0 (mark.Done (C.around f.inside (node_at C g f.unit.0)))) rest
      by [] o = record {
        none_open = λ u q. opens [] o u q (same_or u f.unit.0);
        known = known [] o;
        top_done = (
          C.around f.inside (node_at C g f.unit.0),
          ap (mark_at (set marks f.unit.0 (mark.Done (C.around f.inside (node_at C g f.unit.0)))))
              (sym o.waits) ∙ here [] o,
        );
      }
      by (p ∷ rest) o = record {
        known = known (p ∷ rest) o;
        opened = λ u q. opens (p ∷ rest) o u q (same_or u f.unit.0);
        marked =
            λ u i. mark-other marks f.unit.0 u (mark.Done (C.around f.inside (node_at C g f.unit.0)))
            (λ z. o.distinct.0 (subst (IsIn (units (p ∷ rest))) z i)) ∙ o.marked u (inr i);
        distinct = o.distinct.1;
        here = Leaves-keeps g marks _ p (keeps (p ∷ rest) o) o.waits.0;
        waits = Waits-keeps g marks _ top p.unit rest (keeps (p ∷ rest) o) o.waits.2;
      }

  -- where the next target is open, the search from the top finds it first
  before-none : (g : List N) (top : ℕ) (marks : List (Mark M)) (k : ℕ) (opened : List ℕ) (f : OpenUnit M) → LeftUnitsAreKnown C g marks
      → ((v : ℕ) → IsIn opened v → mark_at marks v ≡ mark.Opened)
      → Leaves g marks f
      → Each (λ (t : UnitId). met_or (cycle_in C k g opened) (is_open opened t.0) t.0 ≡ None) (take f.next (targets_at C g f.unit.0))
  before-none g top marks k opened f o h l =
      Each-more (λ (t : UnitId). IsDone marks t.0) (λ (t : UnitId). met_or (cycle_in C k g opened) (is_open opened t.0) t.0 ≡ None)
      (take f.next (targets_at C g f.unit.0))
      (λ t d. target-quiet g marks k opened t o (λ v i x. done_opened (mark_at marks v) x.0 (h v i) x.1) d) l.left

  cycle-here : (g : List N) (top : ℕ) (marks : List (Mark M)) (f : OpenUnit M) (rest : List (OpenUnit M)) (t : UnitId) (k : ℕ)
      → Below g top marks f rest → slice_get (targets_at C g f.unit.0) f.next ≡ Some t
      → mark_at marks t.0 ≡ mark.Opened → cycle_in C (suc k) g (units rest) f.unit.0 ≡ Some t.0
  cycle-here g top marks f rest t k o e q =
      first-at (λ (x : UnitId). met_or (cycle_in C k g (units (f ∷ rest))) (is_open (units (f ∷ rest)) x.0) x.0)
      (targets_at C g f.unit.0) f.next t t.0 e
      (before-none g top marks k (units (f ∷ rest)) f o.known o.marked o.here)
      (ap (λ b. met_or (cycle_in C k g (units (f ∷ rest))) b t.0) (is_open-in (units (f ∷ rest)) t.0 (o.opened t.0 q)))

  plus_none : (k m : ℕ) → m ≡ k + 0 → m ≡ k
  plus_none k m e = omega arith

  plus_next : (k m n : ℕ) → m ≡ k + suc n → m ≡ suc k + n
  plus_next k m n e = omega arith

  cycle-out : (g : List N) (top : ℕ) (marks : List (Mark M)) (k m x : ℕ) (n : UnitId) (rest : List (OpenUnit M)) → LeftUnitsAreKnown C g marks
      → m ≡ k + length rest
      → ((v : ℕ) → IsIn (n.0 ∷ units rest) v → mark_at marks v ≡ mark.Opened) → Distinct (n.0 ∷ units rest) → Waits g marks top n rest
      → cycle_in C k g (units rest) n.0 ≡ Some x
      → cycle_in C m g [] top ≡ Some x
  cycle-out g top marks k m x n [] o e h d w c = ap (λ j. cycle_in C j g [] top) (plus_none k m e) ∙ ap (λ u. cycle_in C k g [] u) (sym w) ∙ c
  cycle-out g top marks k m x n (p ∷ rest) o e h d w c =
      cycle-out g top marks (suc k) m x p.unit rest o (plus_next k m (length rest) e) (λ v i. h v (inr i)) d.1 w.2
      (first-at (λ (t : UnitId). met_or (cycle_in C k g (units (p ∷ rest))) (is_open (units (p ∷ rest)) t.0) t.0)
      (targets_at C g p.unit.0) p.next n x w.1
      (before-none g top marks k (units (p ∷ rest)) p o (λ v i. h v (inr i)) w.0)
      (ap (λ b. met_or (cycle_in C k g (units (p ∷ rest))) b n.0) (not_open (units (p ∷ rest)) n.0 d.0) ∙ c))

  busy-rest : (g : List N) (marks : List (Mark M)) (top : ℕ) (us : List ℕ) (n : UnitId) (rest : List (OpenUnit M)) → HasBusy C g us
      → Waits g marks top n rest → (v : ℕ) → IsIn (units rest) v → IsIn us v
  busy-rest g marks top us n [] b w v i = absurd i
  busy-rest g marks top us n (p ∷ rest) b w v (inl e) = subst (IsIn us) e (b p.unit.0 p.next n w.1)
  busy-rest g marks top us n (p ∷ rest) b w v (inr i) = busy-rest g marks top us p.unit rest b w.2 v i

  length-units : (fs : List (OpenUnit M)) → length (units fs) ≡ length fs
  length-units [] = refl
  length-units (f ∷ fs) = ap suc (length-units fs)

  enough : (n m : ℕ) → suc n ≤ m → m ≡ suc (m - suc n) + n
  enough n m h = omega arith

  pub Below-cycle : (g : List N) (top : ℕ) (marks : List (Mark M)) (f : OpenUnit M) (rest : List (OpenUnit M)) (t : UnitId) (us : List ℕ)
      → Below g top marks f rest
      → slice_get (targets_at C g f.unit.0) f.next ≡ Some t → mark_at marks t.0 ≡ mark.Opened → HasBusy C g us
      → cycle_in C (length us) g [] top ≡ Some t.0
  Below-cycle g top marks f rest t us o e q b =
      cycle-out g top marks (suc (length us - suc (length rest))) (length us) t.0 f.unit rest o.known
      (enough (length rest) (length us) long) o.marked o.distinct o.waits
      (cycle-here g top marks f rest t (length us - suc (length rest)) o e q)
    where
      all_in : (v : ℕ) → IsIn (units (f ∷ rest)) v → IsIn us v
      all_in v (inl z) = subst (IsIn us) z (b f.unit.0 f.next t e)
      all_in v (inr i) = busy-rest g marks top us f.unit rest b o.waits v i

      long : suc (length rest) ≤ length us
      long = subst (λ n. n ≤ length us) (length-units (f ∷ rest)) (no_longer (units (f ∷ rest)) us o.distinct all_in)

  -- a unit that was not met is opened
  pub Below-first : (g : List N) (top : UnitId) (marks : List (Mark M)) → Covered C g marks [] → mark_at marks top.0 ≡ mark.New → top.0 < length g
      → Below g top.0 (set marks top.0 mark.Opened) (entered C top) []
  Below-first g top marks o n l = record {
    known = LeftUnitsAreKnown-enter g marks top.0 o.known n within;
    opened = λ u q. opens u q (same_or u top.0);
    marked = λ u i. marked u i;
    distinct = ((λ h. h), tt);
    here = fresh g (set marks top.0 mark.Opened) top;
    waits = refl;
  }
    where
      within : top.0 < length marks
      within = subst (λ k. top.0 < k) (sym o.known.long) l

      opens : (u : ℕ) → mark_at (set marks top.0 mark.Opened) u ≡ mark.Opened → Same u top.0 → IsIn (top.0 ∷ []) u
      opens u q (same z) = inl (sym z)
      opens u q (other z) = absurd (o.opened u (sym (mark-other marks top.0 u mark.Opened z) ∙ q))

      marked : (u : ℕ) → IsIn (top.0 ∷ []) u → mark_at (set marks top.0 mark.Opened) u ≡ mark.Opened
      marked u (inl e) = ap (mark_at (set marks top.0 mark.Opened)) (sym e) ∙ mark-same marks top.0 mark.Opened within
      marked u (inr h) = absurd h

  -- a search that is given up
  pub Below-covers : (g : List N) (top : ℕ) (marks : List (Mark M)) (f : OpenUnit M) (rest : List (OpenUnit M)) → Below g top marks f rest
      → Covered C g marks (f ∷ rest)
  Below-covers g top marks f rest o =
      record { known = o.known; opened = o.opened; waiting = λ u i d. done_opened (mark_at marks u) d.0 (o.marked u i) d.1 }

  mark-unset : (marks : List (Mark M)) (u : ℕ) → mark_at (set marks u mark.New) u ≡ mark.New
  mark-unset marks u = elim (cases_lt u (length marks)) [
    | inl l ↦ mark-same marks u mark.New l
    | inr l ↦ get_or_past (set marks u mark.New) u mark.New (subst (λ k. k ≤ u) (sym (length-set marks u mark.New)) l)
  ]

  pub Covered-close : (g : List N) (marks : List (Mark M)) (f : OpenUnit M) (rest : List (OpenUnit M)) → Covered C g marks (f ∷ rest)
      → Covered C g (set marks f.unit.0 mark.New) rest
  Covered-close g marks f rest o = record {
    known = record {
      long = length-set marks f.unit.0 mark.New ∙ o.known.long;
      measure = λ u m e. o.known.measure u m (back u m e (same_or u f.unit.0));
      quiet = λ u d. IsQuiet-keeps g marks (set marks f.unit.0 mark.New) u keeps (o.known.quiet u (d.0, back u d.0 d.1 (same_or u f.unit.0)));
    };
    opened = λ u q. opens u q (same_or u f.unit.0);
    waiting = λ u i d. o.waiting u (inr i) (d.0, back u d.0 d.1 (same_or u f.unit.0));
  }
    where
      keeps : Keeps marks (set marks f.unit.0 mark.New)
      keeps = Keeps-set marks f.unit.0 mark.New (λ m e. o.waiting f.unit.0 (inl refl) (m, e))

      back : (u : ℕ) (m : M) → mark_at (set marks f.unit.0 mark.New) u ≡ mark.Done m → Same u f.unit.0 → mark_at marks u ≡ mark.Done m
      back u m e (same q) =
          absurd (done_new (mark_at (set marks f.unit.0 mark.New) u) m (ap (mark_at (set marks f.unit.0 mark.New)) q ∙ mark-unset marks f.unit.0) e)
      back u m e (other q) = sym (mark-other marks f.unit.0 u mark.New q) ∙ e

      opens : (u : ℕ) → mark_at (set marks f.unit.0 mark.New) u ≡ mark.Opened → Same u f.unit.0 → IsIn (units rest) u
      opens u q (same z) =
          absurd (new_opened (mark_at (set marks f.unit.0 mark.New) u) (ap (mark_at (set marks f.unit.0 mark.New)) z ∙ mark-unset marks f.unit.0) q)
      opens u q (other z) = elim (o.opened u (sym (mark-other marks f.unit.0 u mark.New z) ∙ q)) [ inl k ↦ absurd (z (sym k)) | inr i ↦ i ]

  -- where no unit was met
  unmet : (n u : ℕ) → mark_at {M = M} (replicate n mark.New) u ≡ mark.New
  unmet n u =
      elim (cases_lt u n) [
        | inl l ↦ get_or-replicate n u mark.New mark.New l
        | inr l ↦ get_or_past (replicate n mark.New) u mark.New
            (subst (λ m. m ≤ u) (sym (length-replicate n mark.New)) l)
      ]

  pub Covered-new : (g : List N) (n : ℕ) → length g ≡ n → Covered C g (replicate n mark.New) []
  Covered-new g n e = record {
    known = record {
      long = length-replicate n mark.New ∙ sym e;
      measure = λ u m q. absurd (done_new (mark_at (replicate n mark.New) u) m (unmet n u) q);
      quiet = λ u d. absurd (done_new (mark_at (replicate n mark.New) u) d.0 (unmet n u) d.1);
    };
    opened = λ u q. new_opened (mark_at (replicate n mark.New) u) (unmet n u) q;
    waiting = λ u i d. i;
  }
