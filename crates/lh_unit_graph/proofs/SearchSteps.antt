-- One step of the search keeps what is known, and brings the search nearer to its end.
use Rattle.std.proofs.Common.{◌≡◌, ℕ, zero, suc, ◌+◌, ◌-◌, ◌<◌, inl, inr, List, [], ◌∷◌, ◌++◌, length, set, replicate, reverse, sum_by, Option, Some, None, Ok, Err, refl, ap, sym, ◌∙◌, subst, arith}
use Rattle.std.specs.List.{slice_get}
use Rattle.std.proofs.lemmas.List.{length-set, reverse-append}
use Rattle.std.proofs.lemmas.List.Sums.{sum_by_push}
use Rattle.std.proofs.lemmas.Option.{slice_get_within}
use Rattle.lh_unit.specs.Within.{Each}
use Rattle.lh_unit.specs.declared.inst.UnitId.{UnitId}
use Rattle.lh_unit.proofs.Lists.{Each-get}
use Rattle.lh_verify_laws.specs.Graphs.{IsIn}
use Rattle.lh_unit_graph.specs.declared.fault.DescentFault.{DescentFault}
use Rattle.lh_unit_graph.specs.declared.fault.DescentFault.TheVariants as fault
use Rattle.lh_unit_graph.specs.declared.search.Mark.{Mark}
use Rattle.lh_unit_graph.specs.declared.search.Mark.TheVariants as mark
use Rattle.lh_unit_graph.specs.declared.search.OpenUnit.{OpenUnit}
use Rattle.lh_unit_graph.specs.declared.search.UnitSearch.{UnitSearch}
use Rattle.lh_unit_graph.specs.Measures.{Measuring, node_at, targets_at, NodesWithin, Measures}
use Rattle.lh_unit_graph.specs.Searches.{mark_at, IsDone, Covered, OpenUnitsAreMarked, IsSettled, Settles, SearchStays, Opens, units, entered, passed, Steps, StepsBy, StepsTo}
use Rattle.lh_unit_graph.proofs.SearchState.{Below, Over, SearchingBy, Searching, Below-first, Below-enter, Below-pass, Below-finish, Below-cycle, Below-covers, Covered-close, Covered-new, mark-within}

module _ {N M : Type 0} (C : Measuring N M) where
  -- a frame was taken from the stack
  pub record TakesOpenUnit (f : OpenUnit M) (s t : UnitSearch M) : Type 0 where
    pub marks : t.marks.items ≡ s.marks.items
    pub stack : s.stack.items ≡ t.stack.items ++ f ∷ []

  reversed : (xs : List (OpenUnit M)) (f : OpenUnit M) → reverse (xs ++ f ∷ []) ≡ f ∷ reverse xs
  reversed xs f = reverse-append xs (f ∷ [])

  -- so the search is below its unit
  pub below : (g : List N) (top : ℕ) (f : OpenUnit M) (s t : UnitSearch M) → Searching C g top s → TakesOpenUnit f s t
      → Below C g top t.marks.items f (reverse t.stack.items)
  below g top f s t o k =
      subst (λ ms. Below C g top ms f (reverse t.stack.items)) (sym k.marks)
      (subst (SearchingBy C g top s.marks.items) (ap reverse k.stack ∙ reversed t.stack.items f) o)

  after : (g : List N) (top : ℕ) (u : UnitSearch M) (marks : List (Mark M)) (fs rest : List (OpenUnit M)) → u.marks.items ≡ marks → u.stack.items ≡ fs
      → reverse fs ≡ rest → SearchingBy C g top marks rest
      → Searching C g top u
  after g top u marks fs rest e f r o =
      subst (λ ms. SearchingBy C g top ms (reverse u.stack.items)) (sym e) (subst (SearchingBy C g top marks) (sym (ap reverse f ∙ r)) o)

  next-marked : (g : List N) (top : ℕ) (f : OpenUnit M) (t u : UnitSearch M) (x : UnitId) (m : Mark M)
      → Below C g top t.marks.items f (reverse t.stack.items) → NodesWithin C g
      → slice_get (targets_at C g f.unit.0) f.next ≡ Some x → mark_at t.marks.items x.0 ≡ m → StepsTo C m f x t u (Ok tt) → Searching C g top u
  next-marked g top f t u x mark.New o w e q s =
      after g top u (set t.marks.items x.0 mark.Opened) ((t.stack.items ++ f ∷ []) ++ entered C x ∷ [])
      (entered C x ∷ f ∷ reverse t.stack.items) s.marks s.stack
      (reversed (t.stack.items ++ f ∷ []) (entered C x) ∙ ap (λ l. entered C x ∷ l) (reversed t.stack.items f))
      (Below-enter C g top t.marks.items f (reverse t.stack.items) x o e q
      (subst (λ n. x.0 < n) (sym o.known.long) (Each-get (λ (y : UnitId). y.0 < length g) (targets_at C g f.unit.0) f.next x (w f.unit.0) e)))
  next-marked g top f t u x mark.Opened o w e q s = cc
  next-marked g top f t u x (mark.Done m) o w e q s =
      after g top u t.marks.items (t.stack.items ++ passed C f m ∷ []) (passed C f m ∷ reverse t.stack.items) s.marks s.stack
      (reversed t.stack.items (passed C f m))
      (Below-pass C g top t.marks.items f (reverse t.stack.items) x m o e q)

  next-by : (g : List N) (top : ℕ) (f : OpenUnit M) (t u : UnitSearch M) (n : Option UnitId) → Below C g top t.marks.items f (reverse t.stack.items)
      → NodesWithin C g
      → slice_get (targets_at C g f.unit.0) f.next ≡ n → StepsBy C n g f t u (Ok tt) → Searching C g top u
  next-by g top f t u None o w e s =
      after g top u (set t.marks.items f.unit.0 (mark.Done (C.around f.inside (node_at C g f.unit.0)))) t.stack.items
      (reverse t.stack.items) s.1.marks s.1.stack refl
      (Below-finish C g top t.marks.items f (reverse t.stack.items) o e)
  next-by g top f t u (Some x) o w e s = next-marked g top f t u x (mark_at t.marks.items x.0) o w e refl s

  pub Searching-next : (g : List N) (top : ℕ) (f : OpenUnit M) (s t u : UnitSearch M) → NodesWithin C g → Searching C g top s → TakesOpenUnit f s t
      → Steps C g f t u (Ok tt) → Searching C g top u
  Searching-next g top f s t u w o k p = next-by g top f t u (slice_get (targets_at C g f.unit.0) f.next) (below g top f s t o k) w refl p

  -- a step that ends the search
  stop-marked : (g : List N) (top : ℕ) (f : OpenUnit M) (t u : UnitSearch M) (x : UnitId) (m : Mark M) (e : DescentFault)
      → Below C g top t.marks.items f (reverse t.stack.items)
      → slice_get (targets_at C g f.unit.0) f.next ≡ Some x → mark_at t.marks.items x.0 ≡ m → StepsTo C m f x t u (Err e) → Measures C g top (Err e)
  stop-marked g top f t u x mark.New e o n q s = subst (λ y. Measures C g top (Err y)) (sym s.0) tt
  stop-marked g top f t u x mark.Opened e o n q s =
      let w = s.0 in
      let r : e ≡ fault.Cycle x = cc in
      subst (λ y. Measures C g top (Err y)) (sym r) (λ us b. Below-cycle C g top t.marks.items f (reverse t.stack.items) x us o n q b)
  stop-marked g top f t u x (mark.Done m) e o n q s = subst (λ y. Measures C g top (Err y)) (sym s.0) tt

  stop-by : (g : List N) (top : ℕ) (f : OpenUnit M) (t u : UnitSearch M) (n : Option UnitId) (e : DescentFault)
      → Below C g top t.marks.items f (reverse t.stack.items)
      → slice_get (targets_at C g f.unit.0) f.next ≡ n → StepsBy C n g f t u (Err e) → Measures C g top (Err e)
  stop-by g top f t u None e o n s = let r = s.0 in cc
  stop-by g top f t u (Some x) e o n s = stop-marked g top f t u x (mark_at t.marks.items x.0) e o n refl s

  pub Searching-stop : (g : List N) (top : ℕ) (f : OpenUnit M) (s t u : UnitSearch M) (e : DescentFault) → Searching C g top s → TakesOpenUnit f s t
      → Steps C g f t u (Err e) → Measures C g top (Err e)
  Searching-stop g top f s t u e o k p = stop-by g top f t u (slice_get (targets_at C g f.unit.0) f.next) e (below g top f s t o k) refl p

  -- which changes nothing
  stays-marked : (f : OpenUnit M) (t u : UnitSearch M) (x : UnitId) (m : Mark M) (e : DescentFault) → StepsTo C m f x t u (Err e) → SearchStays t u
  stays-marked f t u x mark.New e s = s.1
  stays-marked f t u x mark.Opened e s = s.1
  stays-marked f t u x (mark.Done m) e s = s.1

  stays-by : (g : List N) (f : OpenUnit M) (t u : UnitSearch M) (n : Option UnitId) (e : DescentFault) → StepsBy C n g f t u (Err e) → SearchStays t u
  stays-by g f t u None e s = let r = s.0 in cc
  stays-by g f t u (Some x) e s = stays-marked f t u x (mark_at t.marks.items x.0) e s

  pub Covered-stop : (g : List N) (top : ℕ) (f : OpenUnit M) (s t u : UnitSearch M) (e : DescentFault) → Searching C g top s → TakesOpenUnit f s t
      → Steps C g f t u (Err e)
      → Covered C g u.marks.items (f ∷ reverse u.stack.items)
  Covered-stop g top f s t u e o k p =
      let z = stays-by g f t u (slice_get (targets_at C g f.unit.0) f.next) e p in
      subst (λ ms. Covered C g ms (f ∷ reverse u.stack.items)) (sym z.marks)
      (subst (λ fs. Covered C g t.marks.items (f ∷ reverse fs)) (sym z.stack)
      (Below-covers C g top t.marks.items f (reverse t.stack.items) (below g top f s t o k)))

  -- no unit is open any more
  over : (g : List N) (top : ℕ) (s : UnitSearch M) → Searching C g top s → s.stack.items ≡ [] → Over C g top s.marks.items
  over g top s o e = subst (SearchingBy C g top s.marks.items) (ap reverse e) o

  pub top-within : (g : List N) (top : ℕ) (s : UnitSearch M) → Searching C g top s → s.stack.items ≡ [] → top < length g → top < length s.marks.items
  top-within g top s o e l = subst (λ n. top < n) (sym (over g top s o e).known.long) l

  pub Measures-done : (g : List N) (top : ℕ) (s : UnitSearch M) (m : M) → Searching C g top s → s.stack.items ≡ []
      → mark_at s.marks.items top ≡ mark.Done m → Measures C g top (Ok m)
  Measures-done g top s m o e q = let v = over g top s o e in ((λ k. v.known.quiet top (m, q) k [] (λ x i. absurd i)), v.known.measure top m q)

  pub done-or : (g : List N) (top : ℕ) (s : UnitSearch M) → Searching C g top s → s.stack.items ≡ [] → IsDone s.marks.items top
  done-or g top s o e = (over g top s o e).top_done

  -- what is to be done: of a unit that was not met, and of an open one
  abbrev cost : Mark M → N → ℕ
  cost mark.New n = 2 + length (C.targets n)
  cost mark.Opened n = 0
  cost (mark.Done m) n = 0

  abbrev to_meet : List (Mark M) → List N → ℕ
  to_meet [] ns = 0
  to_meet (m ∷ ms) [] = 0
  to_meet (m ∷ ms) (n ∷ ns) = cost m n + to_meet ms ns

  abbrev frame_left : List N → OpenUnit M → ℕ
  frame_left g f = 1 + (length (targets_at C g f.unit.0) - f.next)

  abbrev pub left : List N → UnitSearch M → ℕ
  left g s = to_meet s.marks.items g + sum_by (frame_left g) s.stack.items

  meet-set : (ms : List (Mark M)) (ns : List N) (u : ℕ) (x m : Mark M) → mark_at ms u ≡ m → u < length ms → length ms ≡ length ns
      → to_meet (set ms u x) ns + cost m (node_at C ns u) ≡ to_meet ms ns + cost x (node_at C ns u)
  meet-set [] ns u x m e l q = absurd (omega (arith, l))
  meet-set (y ∷ ms) [] u x m e l q = absurd (omega (arith, q))
  meet-set (y ∷ ms) (n ∷ ns) zero x m e l q = swapped (cost x n) (to_meet ms ns) (cost m n) (cost y n) (ap (λ z. cost z n) e)
    where
      swapped : (a b d c : ℕ) → c ≡ d → (a + b) + d ≡ (c + b) + a
      swapped a b d c e = omega arith
  meet-set (y ∷ ms) (n ∷ ns) (suc u) x m e l q =
      more (cost y n) (to_meet (set ms u x) ns) (to_meet ms ns) (cost m (node_at C ns u)) (cost x (node_at C ns u))
      (meet-set ms ns u x m e (omega (arith, l)) (omega (arith, q)))
    where
      more : (c a b d e : ℕ) → a + d ≡ b + e → (c + a) + d ≡ (c + b) + e
      more c a b d e h = omega arith

  stack-sum : (g : List N) (xs ys : List (OpenUnit M)) (f : OpenUnit M) → ys ≡ xs ++ f ∷ []
      → sum_by (frame_left g) ys ≡ sum_by (frame_left g) xs + frame_left g f
  stack-sum g xs ys f e = ap (sum_by (frame_left g)) e ∙ sum_by_push (frame_left g) xs f

  falls-enter : (ms mt st sx ss len next x : ℕ) → mt + (2 + len) ≡ ms + 0 → sx ≡ st + (1 + (len - 0)) → ss ≡ st → mt + sx < ms + ss
  falls-enter ms mt st sx ss len next x h k e = omega arith

  falls-pass : (ms mt st sx ss len next : ℕ) → mt ≡ ms → next < len → sx ≡ st + (1 + (len - (next + 1))) → ss ≡ st + (1 + (len - next))
      → mt + sx < ms + ss
  falls-pass ms mt st sx ss len next e l h k = omega arith

  falls-finish : (ms mt st sx ss x : ℕ) → mt + 0 ≡ ms + 0 → sx ≡ st → ss ≡ st + (1 + x) → mt + sx < ms + ss
  falls-finish ms mt st sx ss x e h k = omega arith

  smaller-marked : (g : List N) (top : ℕ) (f : OpenUnit M) (s t u : UnitSearch M) (x : UnitId) (m : Mark M)
      → Below C g top t.marks.items f (reverse t.stack.items) → NodesWithin C g → TakesOpenUnit f s t
      → slice_get (targets_at C g f.unit.0) f.next ≡ Some x → mark_at t.marks.items x.0 ≡ m → StepsTo C m f x t u (Ok tt) → left g u < left g s
  smaller-marked g top f s t u x mark.New o w k e q p =
      falls-enter (to_meet s.marks.items g) (to_meet u.marks.items g) (sum_by (frame_left g) (t.stack.items ++ f ∷ []))
      (sum_by (frame_left g) u.stack.items) (sum_by (frame_left g) s.stack.items)
      (length (targets_at C g x.0)) 0 0
      (ap (λ ms. to_meet ms g + (2 + length (targets_at C g x.0))) p.marks
      ∙ meet-set t.marks.items g x.0 mark.Opened mark.New q
      (subst (λ n. x.0 < n) (sym o.known.long) (Each-get (λ (y : UnitId). y.0 < length g) (targets_at C g f.unit.0) f.next x (w f.unit.0) e))
      o.known.long ∙ ap (λ ms. to_meet ms g + 0) k.marks)
      (stack-sum g (t.stack.items ++ f ∷ []) u.stack.items (entered C x) p.stack)
      (ap (sum_by (frame_left g)) k.stack)
  smaller-marked g top f s t u x mark.Opened o w k e q p = cc
  smaller-marked g top f s t u x (mark.Done m) o w k e q p =
      falls-pass (to_meet s.marks.items g) (to_meet u.marks.items g) (sum_by (frame_left g) t.stack.items) (sum_by (frame_left g) u.stack.items)
      (sum_by (frame_left g) s.stack.items)
      (length (targets_at C g f.unit.0)) f.next
      (ap (λ ms. to_meet ms g) (p.marks ∙ k.marks))
      (slice_get_within (targets_at C g f.unit.0) f.next x e)
      (stack-sum g t.stack.items u.stack.items (passed C f m) p.stack)
      (stack-sum g t.stack.items s.stack.items f k.stack)

  opened-within : (g : List N) (top : ℕ) (ms : List (Mark M)) (f : OpenUnit M) (rest : List (OpenUnit M)) → Below C g top ms f rest
      → f.unit.0 < length ms
  opened-within g top ms f rest o = mark-within C ms f.unit.0 (o.marked f.unit.0 (inl refl))

  smaller-by : (g : List N) (top : ℕ) (f : OpenUnit M) (s t u : UnitSearch M) (n : Option UnitId)
      → Below C g top t.marks.items f (reverse t.stack.items) → NodesWithin C g → TakesOpenUnit f s t
      → slice_get (targets_at C g f.unit.0) f.next ≡ n → StepsBy C n g f t u (Ok tt) → left g u < left g s
  smaller-by g top f s t u None o w k e p =
      falls-finish (to_meet s.marks.items g) (to_meet u.marks.items g) (sum_by (frame_left g) t.stack.items) (sum_by (frame_left g) u.stack.items)
      (sum_by (frame_left g) s.stack.items)
      (length (targets_at C g f.unit.0) - f.next)
      (ap (λ ms. to_meet ms g + 0) p.1.marks ∙ meet-set t.marks.items g f.unit.0 (mark.Done (C.around f.inside (node_at C g f.unit.0))) mark.Opened
      (o.marked f.unit.0 (inl refl))
      (opened-within g top t.marks.items f (reverse t.stack.items) o) o.known.long ∙ ap (λ ms. to_meet ms g + 0) k.marks)
      (ap (sum_by (frame_left g)) p.1.stack)
      (stack-sum g t.stack.items s.stack.items f k.stack)
  smaller-by g top f s t u (Some x) o w k e p = smaller-marked g top f s t u x (mark_at t.marks.items x.0) o w k e refl p

  pub left-falls : (g : List N) (top : ℕ) (f : OpenUnit M) (s t u : UnitSearch M) → NodesWithin C g → Searching C g top s → TakesOpenUnit f s t
      → Steps C g f t u (Ok tt) → left g u < left g s
  left-falls g top f s t u w o k p = smaller-by g top f s t u (slice_get (targets_at C g f.unit.0) f.next) (below g top f s t o k) w k refl p

  -- the beginning of a search
  pub Searching-first : (g : List N) (top : UnitId) (s t : UnitSearch M) → IsSettled C g s → Opens C [] top s t → mark_at s.marks.items top.0 ≡ mark.New
      → top.0 < length g → Searching C g top.0 t
  Searching-first g top s t o p n l =
      after g top.0 t (set s.marks.items top.0 mark.Opened) (entered C top ∷ []) (entered C top ∷ []) p.marks
      (p.stack ∙ ap (λ fs. (fs ++ []) ++ entered C top ∷ []) o.empty) refl
      (Below-first C g top s.marks.items o.covered n l)

  -- what is settled stays so
  pub Settled-stays : (g : List N) (s t : UnitSearch M) → IsSettled C g s → SearchStays s t → IsSettled C g t
  Settled-stays g s t o z = record { covered = subst (λ ms. Covered C g ms []) (sym z.marks) o.covered; empty = z.stack ∙ o.empty }

  -- no unit is open in a search that is settled
  pub settled-open : (g : List N) (s : UnitSearch M) (u : ℕ) → IsSettled C g s → mark_at s.marks.items u ≡ mark.Opened → ⊥
  settled-open g s u o e = o.covered.opened u e

  pub settled-within : (g : List N) (s : UnitSearch M) (u : ℕ) → IsSettled C g s → u < length g → u < length s.marks.items
  settled-within g s u o l = subst (λ n. u < n) (sym o.covered.known.long) l

  pub settled-done : (g : List N) (s : UnitSearch M) (u : ℕ) (m : M) → IsSettled C g s → mark_at s.marks.items u ≡ mark.Done m → Measures C g u (Ok m)
  settled-done g s u m o e = ((λ k. o.covered.known.quiet u (m, e) k [] (λ x i. absurd i)), o.covered.known.measure u m e)

  pub Settled-over : (g : List N) (top : ℕ) (s : UnitSearch M) → Searching C g top s → s.stack.items ≡ [] → IsSettled C g s
  Settled-over g top s o e =
      let v = over g top s o e in record { covered = record { known = v.known; opened = v.none_open; waiting = λ u i d. i }; empty = e }

  -- a search that is given up: what was open is closed one by one
  pub record Closing (old : UnitSearch M) (f : OpenUnit M) (s : UnitSearch M) : Type 0 where
    pub covered : (g : List N) → Covered C g old.marks.items (f ∷ reverse old.stack.items) → Covered C g s.marks.items (reverse s.stack.items)
    pub placed : Each (λ (p : OpenUnit M). p.unit.0 < length s.marks.items) (reverse s.stack.items)

  placed-set : (ms : List (Mark M)) (u : ℕ) (x : Mark M) (fs : List (OpenUnit M)) → Each (λ (p : OpenUnit M). p.unit.0 < length ms) fs
      → Each (λ (p : OpenUnit M). p.unit.0 < length (set ms u x)) fs
  placed-set ms u x fs h = subst (λ n. Each (λ (p : OpenUnit M). p.unit.0 < n) fs) (sym (length-set ms u x)) h

  pub Closing-first : (s t : UnitSearch M) (f : OpenUnit M) → OpenUnitsAreMarked s f → t.marks.items ≡ set s.marks.items f.unit.0 mark.New
      → t.stack.items ≡ s.stack.items → Closing s f t
  Closing-first s t f o e k = record {
    covered = λ g c. subst (λ ms. Covered C g ms (reverse t.stack.items)) (sym e)
        (subst (λ fs. Covered C g (set s.marks.items f.unit.0 mark.New) (reverse fs)) (sym k)
        (Covered-close C g s.marks.items f (reverse s.stack.items) c));
    placed = subst (λ ms. Each (λ (p : OpenUnit M). p.unit.0 < length ms) (reverse t.stack.items)) (sym e)
        (subst (λ fs. Each (λ (p : OpenUnit M). p.unit.0 < length (set s.marks.items f.unit.0 mark.New)) (reverse fs)) (sym k)
        (placed-set s.marks.items f.unit.0 mark.New (reverse s.stack.items) o.1));
  }

  -- the frames with the one that is taken in front
  taken-placed : (old s : UnitSearch M) (f h : OpenUnit M) (fs : List (OpenUnit M)) → Closing old f s → s.stack.items ≡ fs ++ h ∷ []
      → Each (λ (p : OpenUnit M). p.unit.0 < length s.marks.items) (h ∷ reverse fs)
  taken-placed old s f h fs c e = subst (Each (λ (p : OpenUnit M). p.unit.0 < length s.marks.items)) (ap reverse e ∙ reversed fs h) c.placed

  pub last-placed : (old s : UnitSearch M) (f h : OpenUnit M) (fs : List (OpenUnit M)) → Closing old f s → s.stack.items ≡ fs ++ h ∷ []
      → h.unit.0 < length s.marks.items
  last-placed old s f h fs c e = (taken-placed old s f h fs c e).0

  pub Closing-next : (old s t : UnitSearch M) (f h : OpenUnit M) → Closing old f s → s.stack.items ≡ t.stack.items ++ h ∷ []
      → t.marks.items ≡ set s.marks.items h.unit.0 mark.New → Closing old f t
  Closing-next old s t f h c e k = record {
    covered = λ g o. subst (λ ms. Covered C g ms (reverse t.stack.items)) (sym k)
        (Covered-close C g s.marks.items h (reverse t.stack.items)
        (subst (Covered C g s.marks.items) (ap reverse e ∙ reversed t.stack.items h) (c.covered g o)));
    placed = subst (λ ms. Each (λ (p : OpenUnit M). p.unit.0 < length ms) (reverse t.stack.items)) (sym k)
        (placed-set s.marks.items h.unit.0 mark.New (reverse t.stack.items) (taken-placed old s f h t.stack.items c e).1);
  }

  pub Closing-last : (old s : UnitSearch M) (f : OpenUnit M) → Closing old f s → s.stack.items ≡ [] → Settles C old s f
  Closing-last old s f c e = λ g o. record { covered = subst (Covered C g s.marks.items) (ap reverse e) (c.covered g o); empty = e }

  placed-all : (n : ℕ) (fs : List (OpenUnit M)) → ((u : ℕ) → IsIn (units fs) u → u < n) → Each (λ (p : OpenUnit M). p.unit.0 < n) fs
  placed-all n [] h = tt
  placed-all n (f ∷ fs) h = (h f.unit.0 (inl refl), placed-all n fs (λ u i. h u (inr i)))

  -- what is open when a step ends the search has marks
  pub InPlace-stop : (g : List N) (top : ℕ) (f : OpenUnit M) (s t u : UnitSearch M) (e : DescentFault) → Searching C g top s → TakesOpenUnit f s t
      → Steps C g f t u (Err e) → OpenUnitsAreMarked u f
  InPlace-stop g top f s t u e o k p =
      subst (λ ms. (f.unit.0 < length ms) × Each (λ (q : OpenUnit M). q.unit.0 < length ms) (reverse u.stack.items)) (sym z.marks)
      (subst (λ fs. (f.unit.0 < length t.marks.items) × Each (λ (q : OpenUnit M). q.unit.0 < length t.marks.items) (reverse fs)) (sym z.stack)
      (within f.unit.0 (inl refl), placed-all (length t.marks.items) (reverse t.stack.items) (λ v i. within v (inr i))))
    where
      z : SearchStays t u
      z = stays-by g f t u (slice_get (targets_at C g f.unit.0) f.next) e p

      within : (v : ℕ) → IsIn (units (f ∷ reverse t.stack.items)) v → v < length t.marks.items
      within v i = mark-within C t.marks.items v ((below g top f s t o k).marked v i)

  pub Settled-new : (g : List N) (n : ℕ) (s : UnitSearch M) → s.marks.items ≡ replicate n mark.New → s.stack.items ≡ [] → length g ≡ n → IsSettled C g s
  Settled-new g n s e k l = record { covered = subst (λ ms. Covered C g ms []) (sym e) (Covered-new C g n l); empty = k }
