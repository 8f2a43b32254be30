-- What a text reads as has a first fault, or no instruction of it has one.
use Rattle.std.proofs.Common.{◌≡◌, ℕ, ◌+◌, ◌<◌, List, [], ◌∷◌, ◌++◌, map, Bool, true, false, refl, ap, sym, ◌∙◌, subst, arith, Option, Some, None, ◌⊎◌, inl, inr, length, nat_lt}
use Rattle.std.proofs.lemmas.Bool.Decides.{nat_tests}
use Rattle.std.specs.List.{list_any}
use Rattle.lh_unit.specs.Contents.{EdgeText, InstText, const_text, pure_text, var_text, ld_text, st_text, sig_text, prb_text, drv_text, reg_text, child_text, call_text, phi_text, br_text, branch_text, wait_text, halt_text, ret_text, LineText, BlockText, UnitText, ItemText, unit_text, declare_text, args_define}
use Rattle.lh_unit.specs.Named.{block_of, label_or}
use Rattle.lh_unit.specs.Places.{InstPlaceText, places, places_in, places_from, has_edge}
use Rattle.lh_unit.specs.WellFormed.{FaultKind, undefined, wrong_kind, wrong_type, not_here, no_terminator, phi_edges, not_defined, arguments, number_of, values_named, Lacks, LacksOnEdge, SomeEdgeLacks, SomeValueLacks, stands_later, LacksIn, LacksDefinition, Site, sites, has_local, has_paths, HasFault, NoneHasFault, IsFirstFault, IsFaultless}
use Rattle.lh_unit_names.specs.declared.name.UnitName.{UnitName}
use Rattle.lh_unit.specs.declared.inst.UnitKind.{UnitKind}
use Rattle.lh_unit.specs.declared.inst.UnitKind.TheVariants as kind
use Rattle.lh_trace_laws.specs.FirstFault.{FaultlessOrFaulty}
use Rattle.lh_trace_laws.proofs.Labelled.{In, AllLabelled, Labelled, EachLabelled, read-labelled, block_of-in}
use Rattle.lh_trace_laws.proofs.Routes.{Decided, lacks-told}
use Rattle.lh_trace_laws.proofs.FirstFaultLaw.{same_number}

bool-told : (b : Bool) → Decided (b ≡ true)
bool-told true = inl refl
bool-told false = inr (λ p. cc)

-- fault 7 can be told in a unit with labels of its own
module _ (u : UnitText) (a : AllLabelled u.blocks) where
  value-told : (p : InstPlaceText) → In p.block u.blocks → (ns : List (List ℕ)) → Decided (SomeValueLacks u p ns)
  value-told p i [] = inr (λ x. x)
  value-told p i (n ∷ more) = at (args_define n u.args) refl (lacks-told u n a p.block p.before i) (value-told p i more)
    where
      at : (b : Bool) → args_define n u.args ≡ b → Decided (Lacks u n p.block p.before) → Decided (SomeValueLacks u p more) → Decided (SomeValueLacks u p (n ∷ more))
      at b e l (inl m) = inl (inr m)
      at true e l (inr k) = inr (λ s. elim s [ inl h ↦ (let f : args_define n u.args ≡ false = h.0 in cc) | inr h ↦ k h ])
      at false e (inl l) (inr k) = inl (inl (e, l))
      at false e (inr j) (inr k) = inr (λ s. elim s [ inl h ↦ j h.1 | inr h ↦ k h ])

  on_edge-told : (to : List ℕ) (e : EdgeText) → Decided (LacksOnEdge u to e)
  on_edge-told to e = at (block_of e.block u.blocks) refl
    where
      some_inj : (x y : BlockText) → Some x ≡ Some y → x ≡ y
      some_inj x y p = cc

      by : (last : BlockText) → block_of e.block u.blocks ≡ Some last → (b : Bool) → has_edge last to ≡ b → Decided (Lacks u e.value last last.lines) → Decided (LacksOnEdge u to e)
      by last q true h (inl l) = inl (record { last = last; named = q; edge = h; lacks = l })
      by last q true h (inr k) = inr (λ x. let f : x.last ≡ last = some_inj x.last last (sym x.named ∙ q) in k (subst (λ (z : BlockText). Lacks u e.value z z.lines) f x.lacks))
      by last q false h l = inr (λ x. let f : x.last ≡ last = some_inj x.last last (sym x.named ∙ q) in let g : has_edge last to ≡ true = subst (λ z. has_edge z to ≡ true) f x.edge in cc)

      at : (o : Option BlockText) → block_of e.block u.blocks ≡ o → Decided (LacksOnEdge u to e)
      at None q = inr (λ x. let f : None ≡ Some x.last = sym q ∙ x.named in cc)
      at (Some last) q = by last q (has_edge last to) refl (lacks-told u e.value a last last.lines (block_of-in e.block u.blocks last q))

  edge-told : (to : List ℕ) (es : List EdgeText) → Decided (SomeEdgeLacks u to es)
  edge-told to [] = inr (λ x. x)
  edge-told to (e ∷ more) = at (args_define e.value u.args) refl (on_edge-told to e) (edge-told to more)
    where
      at : (b : Bool) → args_define e.value u.args ≡ b → Decided (LacksOnEdge u to e) → Decided (SomeEdgeLacks u to more) → Decided (SomeEdgeLacks u to (e ∷ more))
      at b q l (inl m) = inl (inr m)
      at true q l (inr k) = inr (λ s. elim s [ inl h ↦ (let f : args_define e.value u.args ≡ false = h.0 in cc) | inr h ↦ k h ])
      at false q (inl l) (inr k) = inl (inl (q, l))
      at false q (inr j) (inr k) = inr (λ s. elim s [ inl h ↦ j h.1 | inr h ↦ k h ])

  module _ (p : InstPlaceText) (i : In p.block u.blocks) where
    function-told : (x : InstText) → Decided (LacksIn kind.Func u p x)
    function-told (phi_text ty edges) = edge-told (label_or p.block.label) edges
    function-told (const_text d) = value-told p i []
    function-told (pure_text o args) = value-told p i (values_named (pure_text o args))
    function-told (var_text x) = value-told p i (values_named (var_text x))
    function-told (ld_text x) = value-told p i (values_named (ld_text x))
    function-told (st_text to value) = value-told p i (values_named (st_text to value))
    function-told (sig_text x) = value-told p i (values_named (sig_text x))
    function-told (prb_text x) = value-told p i (values_named (prb_text x))
    function-told (drv_text to value later c) = value-told p i (values_named (drv_text to value later c))
    function-told (reg_text to triggers) = value-told p i (values_named (reg_text to triggers))
    function-told (child_text v inputs outputs) = value-told p i (values_named (child_text v inputs outputs))
    function-told (call_text f ty args) = value-told p i (values_named (call_text f ty args))
    function-told (br_text to) = value-told p i []
    function-told (branch_text c zero one) = value-told p i (values_named (branch_text c zero one))
    function-told (wait_text to later signals) = value-told p i (values_named (wait_text to later signals))
    function-told halt_text = value-told p i []
    function-told (ret_text x) = value-told p i (values_named (ret_text x))

    process-told : (x : InstText) → Decided (LacksIn kind.Proc u p x)
    process-told (phi_text ty edges) = edge-told (label_or p.block.label) edges
    process-told (const_text d) = value-told p i []
    process-told (pure_text o args) = value-told p i (values_named (pure_text o args))
    process-told (var_text x) = value-told p i (values_named (var_text x))
    process-told (ld_text x) = value-told p i (values_named (ld_text x))
    process-told (st_text to value) = value-told p i (values_named (st_text to value))
    process-told (sig_text x) = value-told p i (values_named (sig_text x))
    process-told (prb_text x) = value-told p i (values_named (prb_text x))
    process-told (drv_text to value later c) = value-told p i (values_named (drv_text to value later c))
    process-told (reg_text to triggers) = value-told p i (values_named (reg_text to triggers))
    process-told (child_text v inputs outputs) = value-told p i (values_named (child_text v inputs outputs))
    process-told (call_text f ty args) = value-told p i (values_named (call_text f ty args))
    process-told (br_text to) = value-told p i []
    process-told (branch_text c zero one) = value-told p i (values_named (branch_text c zero one))
    process-told (wait_text to later signals) = value-told p i (values_named (wait_text to later signals))
    process-told halt_text = value-told p i []
    process-told (ret_text x) = value-told p i (values_named (ret_text x))

-- an instruction stands in a block of its unit, whose labels are its own
abbrev IsPlaced : Site → Type 0
IsPlaced s = Labelled s.unit.kind s.unit.blocks × In s.place.block s.unit.blocks

lacks-definition-told : (k : UnitKind) (u : UnitText) (p : InstPlaceText) → Labelled k u.blocks → In p.block u.blocks → Decided (LacksIn k u p p.line.inst)
lacks-definition-told kind.Entity u p l i = bool-told (list_any (stands_later u p) (values_named p.line.inst))
lacks-definition-told kind.Func u p l i = function-told u l p i p.line.inst
lacks-definition-told kind.Proc u p l i = process-told u l p i p.line.inst

fault-told : (items : List ItemText) (s : Site) → IsPlaced s → (k : FaultKind) → Decided (HasFault items s k)
fault-told items s w undefined = bool-told (has_local items s undefined)
fault-told items s w wrong_kind = bool-told (has_local items s wrong_kind)
fault-told items s w wrong_type = bool-told (has_local items s wrong_type)
fault-told items s w not_here = bool-told (has_local items s not_here)
fault-told items s w no_terminator = bool-told (has_local items s no_terminator)
fault-told items s w phi_edges = bool-told (has_local items s phi_edges)
fault-told items s w arguments = bool-told (has_local items s arguments)
fault-told items s w not_defined = at (has_paths items s.unit) refl (lacks-definition-told s.unit.kind s.unit s.place w.0 w.1)
  where
    at : (b : Bool) → has_paths items s.unit ≡ b → Decided (LacksDefinition s.unit s.place) → Decided (HasFault items s not_defined)
    at true e (inl l) = inl (e, l)
    at true e (inr k) = inr (λ h. k h.1)
    at false e l = inr (λ h. let f : has_paths items s.unit ≡ true = h.0 in cc)

-- the lowest fault of an instruction, if it has one
module _ (items : List ItemText) (s : Site) (w : IsPlaced s) where
  abbrev pub Lowest : FaultKind → Type 0
  Lowest k = HasFault items s k × ((j : FaultKind) → number_of j < number_of k → ¬ HasFault items s j)

  -- kinds by their numbers, from m to the last
  abbrev Numbered : ℕ → List FaultKind → Type 0
  Numbered m [] = m ≡ 9
  Numbered m (k ∷ ks) = (number_of k ≡ m) × Numbered (m + 1) ks

  small : (j : FaultKind) → number_of j < 9
  small undefined = omega arith
  small wrong_kind = omega arith
  small wrong_type = omega arith
  small not_here = omega arith
  small no_terminator = omega arith
  small phi_edges = omega arith
  small not_defined = omega arith
  small arguments = omega arith

  from : (m : ℕ) (ks : List FaultKind) → Numbered m ks → ((j : FaultKind) → number_of j < m → ¬ HasFault items s j) → ((k : FaultKind) × Lowest k) ⊎ ((k : FaultKind) → ¬ HasFault items s k)
  from m [] q none = inr (λ k. none k (subst (λ x. number_of k < x) (sym q) (small k)))
  from m (k ∷ ks) q none = at (fault-told items s w k) (from (m + 1) ks q.1)
    where
      below : (j : FaultKind) → number_of j < number_of k → number_of j < m
      below j h = subst (λ x. number_of j < x) q.0 h

      next : ¬ HasFault items s k → (j : FaultKind) → number_of j < m + 1 → ¬ HasFault items s j
      next n j h = by (nat_lt (number_of j) m) refl
        where
          below_m : (x y : ℕ) → nat_lt x y ≡ true → x < y
          below_m x y e = grind (arith, nat_tests)

          level : (x y : ℕ) → nat_lt x y ≡ false → x < y + 1 → x ≡ y
          level x y e l = grind (arith, nat_tests)

          by : (b : Bool) → nat_lt (number_of j) m ≡ b → ¬ HasFault items s j
          by true l = none j (below_m (number_of j) m l)
          by false e = λ f. n (subst (λ x. HasFault items s x) (same_number j k (level (number_of j) m e h ∙ sym q.0)) f)

      at : Decided (HasFault items s k) → (((j : FaultKind) → number_of j < m + 1 → ¬ HasFault items s j) → ((k : FaultKind) × Lowest k) ⊎ ((k : FaultKind) → ¬ HasFault items s k))
          → ((k : FaultKind) × Lowest k) ⊎ ((k : FaultKind) → ¬ HasFault items s k)
      at (inl h) f = inl (k, (h, λ j l. none j (below j l)))
      at (inr n) f = f (next n)

  lowest : ((k : FaultKind) × Lowest k) ⊎ ((k : FaultKind) → ¬ HasFault items s k)
  lowest = from 1 (undefined ∷ wrong_kind ∷ wrong_type ∷ not_here ∷ no_terminator ∷ phi_edges ∷ not_defined ∷ arguments ∷ []) (refl, (refl, (refl, (refl, (refl, (refl, (refl, (refl, refl)))))))) none
    where
      none : (j : FaultKind) → number_of j < 1 → ¬ HasFault items s j
      none undefined h = absurd (omega (arith, h))
      none wrong_kind h = absurd (omega (arith, h))
      none wrong_type h = absurd (omega (arith, h))
      none not_here h = absurd (omega (arith, h))
      none no_terminator h = absurd (omega (arith, h))
      none phi_edges h = absurd (omega (arith, h))
      none not_defined h = absurd (omega (arith, h))
      none arguments h = absurd (omega (arith, h))

abbrev EachPlaced : List Site → Type 0
EachPlaced [] = Unit {0}
EachPlaced (s ∷ more) = IsPlaced s × EachPlaced more

-- the first faulty instruction among these
record FirstOf (items : List ItemText) (xs : List Site) : Type 0 where
  before : List Site
  site : Site
  after : List Site
  all : xs ≡ before ++ site ∷ after
  kind_of_fault : FaultKind
  lowest : HasFault items site kind_of_fault × ((j : FaultKind) → number_of j < number_of kind_of_fault → ¬ HasFault items site j)
  none_before : NoneHasFault items before

first_of : (items : List ItemText) (xs : List Site) → EachPlaced xs → NoneHasFault items xs ⊎ FirstOf items xs
first_of items [] w = inl tt
first_of items (x ∷ xs) w = at (lowest items x w.0) (first_of items xs w.1)
  where
    at : ((k : FaultKind) × Lowest items x w.0 k) ⊎ ((k : FaultKind) → ¬ HasFault items x k) → NoneHasFault items xs ⊎ FirstOf items xs → NoneHasFault items (x ∷ xs) ⊎ FirstOf items (x ∷ xs)
    at (inl l) r = inr (record { before = []; site = x; after = xs; all = refl; kind_of_fault = l.0; lowest = l.1; none_before = tt })
    at (inr n) (inl r) = inl (n, r)
    at (inr n) (inr f) = inr (record {
      before = x ∷ f.before;
      site = f.site;
      after = f.after;
      all = ap (λ y. x ∷ y) f.all;
      kind_of_fault = f.kind_of_fault;
      lowest = f.lowest;
      none_before = (n, f.none_before);
    })

-- the places of a unit stand in its blocks
abbrev EachIn : List BlockText → List InstPlaceText → Type 0
EachIn blocks [] = Unit {0}
EachIn blocks (p ∷ more) = In p.block blocks × EachIn blocks more

each_in-append : (blocks : List BlockText) (xs ys : List InstPlaceText) → EachIn blocks xs → EachIn blocks ys → EachIn blocks (xs ++ ys)
each_in-append blocks [] ys a b = b
each_in-append blocks (x ∷ xs) ys a b = (a.0, each_in-append blocks xs ys a.1 b)

in_block : (blocks : List BlockText) (k : ℕ) (e : Bool) (b : BlockText) (before rest : List LineText) → In b blocks → EachIn blocks (places_in k e b before rest)
in_block blocks k e b before [] i = tt
in_block blocks k e b before (l ∷ rest) i = (i, in_block blocks (k + 1) e b (before ++ l ∷ []) rest i)

in_blocks : (blocks bs : List BlockText) (k : ℕ) (e : Bool) → ((b : BlockText) → In b bs → In b blocks) → EachIn blocks (places_from k e bs)
in_blocks blocks [] k e w = tt
in_blocks blocks (b ∷ bs) k e w =
    each_in-append blocks (places_in k e b [] b.lines) (places_from (k + length b.lines) false bs) (in_block blocks k e b [] b.lines (w b (inl refl)))
    (in_blocks blocks bs (k + length b.lines) false (λ c i. w c (inr i)))

of_unit : (u : UnitText) (ps : List InstPlaceText) → Labelled u.kind u.blocks → EachIn u.blocks ps → EachPlaced (map (λ p. record { unit = u; place = p }) ps)
of_unit u [] l e = tt
of_unit u (p ∷ ps) l e = ((l, e.0), of_unit u ps l e.1)

placed-append : (xs ys : List Site) → EachPlaced xs → EachPlaced ys → EachPlaced (xs ++ ys)
placed-append [] ys a b = b
placed-append (x ∷ xs) ys a b = (a.0, placed-append xs ys a.1 b)

sites-placed : (items : List ItemText) → EachLabelled items → EachPlaced (sites items)
sites-placed [] e = tt
sites-placed (declare_text d ∷ more) e = sites-placed more e
sites-placed (unit_text u ∷ more) e =
    placed-append (map (λ p. record { unit = u; place = p }) (places u)) (sites more) (of_unit u (places u) e.0 (in_blocks u.blocks u.blocks 1 true (λ b i. i))) (sites-placed more e.1)

pub faultless_or_faulty : FaultlessOrFaulty
faultless_or_faulty text items r = at (first_of items (sites items) (sites-placed items (read-labelled text items r)))
  where
    at : NoneHasFault items (sites items) ⊎ FirstOf items (sites items) → IsFaultless items ⊎ ((u : UnitName) × (i : ℕ) × (k : FaultKind) × IsFirstFault items u i k)
    at (inl n) = inl n
    at (inr f) = inr (
      f.site.unit.name,
      f.site.place.number,
      f.kind_of_fault,
      record { before = f.before; site = f.site; after = f.after; all = f.all; in_unit = refl; at_inst = refl; has = f.lowest.0; lowest = f.lowest.1; none_before = f.none_before },
    )
