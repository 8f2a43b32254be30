-- What holds of each function and process of a well-formed module, block by block and line by line.
use Rattle.std.proofs.Common.{◌≡◌, ◌⊎◌, ℕ, ◌+◌, List, [], ◌∷◌, ◌++◌, length, map, Bool, true, false, if◌then◌else◌, Option, Some, None, refl, ap, sym, ◌∙◌, inl, inr, subst}
use Rattle.std.proofs.lemmas.Option.{same_Some, none-some}
use Rattle.lh_types.specs.Types.{TypeTree}
use Rattle.lh_unit.specs.Contents.{OperandText, EdgeText, InstText, const_text, pure_text, var_text, ld_text, st_text, sig_text, prb_text, drv_text, reg_text, child_text, call_text, phi_text, br_text, branch_text, wait_text, halt_text, ret_text, LineText, BlockText, UnitText, ItemText, unit_text, declare_text, is_result_name}
use Rattle.lh_unit.specs.Named.{block_of, label_or}
use Rattle.lh_unit.specs.Hierarchy.{lines_of}
use Rattle.lh_unit.specs.Kinds.{uses}
use Rattle.lh_unit.specs.Places.{InstPlaceText, places_in, places_from, places, leads_to, last_leads_to}
use Rattle.lh_unit.specs.WellFormed.{Site, sites, is_allowed, in_entity, is_phi, values_named, labels_named, IsFaultless}
use Rattle.lh_unit.specs.Within.{Each}
use Rattle.lh_unit.specs.declared.inst.UnitKind.{UnitKind}
use Rattle.lh_unit.proofs.Lists.{Each-of-map}
use Rattle.lh_unit.specs.declared.inst.UnitKind.TheVariants as kind
use Rattle.lh_unit_names.proofs.NameLists.{same_name-is}
use Rattle.lh_trace_laws.proofs.Labelled.{AllLabelled, In, own_block, block_of-in}
use Rattle.lh_verify_laws.specs.Calls.{NamedIsRight}
use Rattle.lh_verify_laws.specs.Defined.{IsThere, IsThereOnEdge, OperandsThere}
use Rattle.lh_verify_laws.specs.KindsOf.{ArgsHaveKinds, HasTypeOfKind}
use Rattle.lh_verify_laws.specs.Shape.{PhiIsRight}
use Rattle.lh_verify_laws.proofs.Sound.{site_in}
use Rattle.lh_verify_laws.proofs.CallsLaw.{calls_are_right}
use Rattle.lh_verify_laws.proofs.AtPlaces.{place-at, in-block}
use Rattle.lh_verify_laws.proofs.DefinedLaw.{all_there}
use Rattle.lh_verify_laws.proofs.KindsLaw.{operands_have_types}
use Rattle.lh_verify_laws.proofs.ShapeLaw.{labels_are_blocks, phis_are_right, all_allowed}
use Rattle.lh_verify_laws.proofs.There.{as-process, last-leads}
use Rattle.lh_eval.specs.Sound.{InstIsSound}
use Rattle.lh_text_laws.specs.Printable.{IsPrintable}
use Rattle.lh_verify_laws.proofs.EachItem.{each-contained, each-split}
use Rattle.lh_flat_laws.proofs.SoundCopies.{IsCode}
use Rattle.lh_flat_laws.proofs.Lines.{LastOf, no_last, last_is, last-of}
use Rattle.lh_flat_laws.proofs.Paths.{IsGood}
use Rattle.lh_flat_laws.proofs.Phis.{PhisAreGood}
use Rattle.lh_flat_laws.specs.Members.{Among}
use Rattle.lh_flat_laws.proofs.Members.{in-each}

-- what holds at an instruction of a unit without a fault
pub record PlaceFacts (items : List ItemText) (v : UnitText) (p : InstPlaceText) : Type 0 where
  pub there : in_entity v.kind ≡ false → OperandsThere kind.Proc v p p.line.inst
  pub leads : Each (λ n. (b : BlockText) × (block_of n v.blocks ≡ Some b)) (labels_named p.line.inst)
  pub phi : PhiIsRight v p p.line.inst
  pub allowed : is_allowed v.kind p.line.inst ≡ true
  pub calls : NamedIsRight items v p.line.inst
  pub kinds : ArgsHaveKinds v → Each (HasTypeOfKind v) (uses p.line.inst)

abbrev SiteFacts : List ItemText → Site → Type 0
SiteFacts items s = PlaceFacts items s.unit s.place

abbrev pub FactsIn : List ItemText → ItemText → Type 0
FactsIn items (unit_text u) = Each (PlaceFacts items u) (places u)
FactsIn items (declare_text d) = Unit {0}

facts-in : (all items : List ItemText) → Each (SiteFacts all) (sites items) → Each (FactsIn all) items
facts-in all [] h = tt
facts-in all (unit_text u ∷ more) h = let r = each-split (SiteFacts all) (map (site_in u) (places u)) (sites more) h in (Each-of-map (SiteFacts all) (site_in u) (places u) r.0, facts-in all more r.1)
facts-in all (declare_text d ∷ more) h = (tt, facts-in all more h)

pub facts-of-items : (items : List ItemText) → IsFaultless items → Each (FactsIn items) items
facts-of-items items f = facts-in items items (each-contained (SiteFacts items) (sites items) (λ s c. record {
  there = as-process s.unit.kind s.unit s.place s.place.line.inst (all_there items s f c);
  leads = labels_are_blocks items s f c;
  phi = phis_are_right items s f c;
  allowed = all_allowed items s f c;
  calls = calls_are_right items s f c;
  kinds = operands_have_types items s f c;
}))

-- a function or a process of a module without faults
pub record UnitFacts (items : List ItemText) (v : UnitText) : Type 0 where
  pub runs : in_entity v.kind ≡ false
  pub places : Each (PlaceFacts items v) (places v)
  pub printable : IsPrintable v
  pub labelled : AllLabelled v.blocks
  pub sound : Each (InstIsSound v) (lines_of v.blocks)

in-blocks : (P : InstPlaceText → Type 0) (k : ℕ) (e : Bool) (bs : List BlockText) (b : BlockText) (seen : List LineText) (l : LineText) (after : List LineText) → Each P (places_from k e bs)
    → Among b bs → b.lines ≡ seen ++ l ∷ after
    → (j : ℕ) × (d : Bool) × P (place-at j d b seen l after)
in-blocks P k e [] b seen l after h a s = elim a [ ]
in-blocks P k e (c ∷ bs) b seen l after h a s = by a (λ p. in-blocks P (k + length c.lines) false bs b seen l after r.1 p s)
  where
    r : Each P (places_in k e c [] c.lines) × Each P (places_from (k + length c.lines) false bs)
    r = each-split P (places_in k e c [] c.lines) (places_from (k + length c.lines) false bs) h

    by : ((c ≡ b) ⊎ Among b bs) → (Among b bs → (j : ℕ) × (d : Bool) × P (place-at j d b seen l after)) → (j : ℕ) × (d : Bool) × P (place-at j d b seen l after)
    by (inl q) go =
        let here : Each P (places_in k e b [] b.lines) = subst (λ (x : BlockText). Each P (places_in k e x [] x.lines)) q r.0 in
        let z = in-block P k e b [] seen l after (subst (λ (ls : List LineText). Each P (places_in k e b [] ls)) s here) in
        (z.0, e, z.1)
    by (inr p) go = go p

pub among-in : {A : Type 0} (xs : List A) (x : A) → In x xs → Among x xs
among-in [] x h = elim h [ ]
among-in (y ∷ xs) x (inl e) = inl (sym e)
among-in (y ∷ xs) x (inr h) = inr (among-in xs x h)

in-among : {A : Type 0} (xs : List A) (x : A) → Among x xs → In x xs
in-among [] x h = elim h [ ]
in-among (y ∷ xs) x (inl e) = inl (sym e)
in-among (y ∷ xs) x (inr h) = inr (in-among xs x h)

-- the label under which a block is found is its own
pub label-found : (n : List ℕ) (bs : List BlockText) (b : BlockText) → block_of n bs ≡ Some b → label_or b.label ≡ n
label-found n [] b e = absurd (none-some b e)
label-found n (c ∷ bs) b e = by (is_result_name n c.label) refl e (label-found n bs b)
  where
    named : (o : Option (List ℕ)) → is_result_name n o ≡ true → label_or o ≡ n
    named None q = absurd cc
    named (Some m) q = same_name-is m n q

    by : (t : Bool) → is_result_name n c.label ≡ t → (if t then Some c else block_of n bs) ≡ Some b → (block_of n bs ≡ Some b → label_or b.label ≡ n) → label_or b.label ≡ n
    by true q r go = ap (λ (x : BlockText). label_or x.label) (sym (same_Some c b r)) ∙ named c.label q
    by false q r go = go r

-- the labels to which an instruction leads are among those that it names
leads-named : (i : InstText) (n : List ℕ) → Among n (leads_to i) → Among n (labels_named i)
leads-named (phi_text ty edges) n a = elim a [ ]
leads-named (const_text x) n a = elim a [ ]
leads-named (pure_text x y) n a = elim a [ ]
leads-named (var_text x) n a = elim a [ ]
leads-named (ld_text x) n a = elim a [ ]
leads-named (st_text x y) n a = elim a [ ]
leads-named (sig_text x) n a = elim a [ ]
leads-named (prb_text x) n a = elim a [ ]
leads-named (drv_text x y z w) n a = elim a [ ]
leads-named (reg_text x y) n a = elim a [ ]
leads-named (child_text x y z) n a = elim a [ ]
leads-named (call_text x y z) n a = elim a [ ]
leads-named (br_text x) n a = a
leads-named (branch_text x y z) n a = a
leads-named (wait_text x y z) n a = a
leads-named halt_text n a = elim a [ ]
leads-named (ret_text x) n a = elim a [ ]

-- operands of a line that is no `phi`
there-named : (v : UnitText) (p : InstPlaceText) (i : InstText) → is_phi i ≡ false → OperandsThere kind.Proc v p i → Each (IsThere v p.block p.before) (values_named i)
there-named v p (phi_text ty edges) q h = absurd cc
there-named v p (const_text x) q h = h
there-named v p (pure_text x y) q h = h
there-named v p (var_text x) q h = h
there-named v p (ld_text x) q h = h
there-named v p (st_text x y) q h = h
there-named v p (sig_text x) q h = h
there-named v p (prb_text x) q h = h
there-named v p (drv_text x y z w) q h = h
there-named v p (reg_text x y) q h = h
there-named v p (child_text x y z) q h = h
there-named v p (call_text x y z) q h = h
there-named v p (br_text x) q h = h
there-named v p (branch_text x y z) q h = h
there-named v p (wait_text x y z) q h = h
there-named v p halt_text q h = h
there-named v p (ret_text x) q h = h

pub is-code : (k : UnitKind) (i : InstText) → in_entity k ≡ false → is_allowed k i ≡ true → IsCode i
is-code k (sig_text x) e h = absurd cc
is-code k (reg_text x y) e h = absurd cc
is-code k (child_text x y z) e h = absurd cc
is-code k (const_text x) e h = tt
is-code k (pure_text x y) e h = tt
is-code k (var_text x) e h = tt
is-code k (ld_text x) e h = tt
is-code k (st_text x y) e h = tt
is-code k (prb_text x) e h = tt
is-code k (drv_text x y z w) e h = tt
is-code k (call_text x y z) e h = tt
is-code k (phi_text ty edges) e h = tt
is-code k (br_text x) e h = tt
is-code k (branch_text x y z) e h = tt
is-code k (wait_text x y z) e h = tt
is-code k halt_text e h = tt
is-code k (ret_text x) e h = tt

-- only a function has a `ret`
pub no-ret : (k : UnitKind) (i : InstText) (o : Option OperandText) → k ≡ kind.Proc → is_allowed k i ≡ true → i ≡ ret_text o → ⊥
no-ret kind.Func i o e h q = absurd cc
no-ret kind.Entity i o e h q = absurd cc
no-ret kind.Proc i o e h q = let r : is_allowed kind.Proc (ret_text o) ≡ true = ap (is_allowed kind.Proc) (sym q) ∙ h in absurd cc

module _ (items : List ItemText) (v : UnitText) (f : UnitFacts items v) where
  pub fact-at : (b : BlockText) (before after : List LineText) (l : LineText) → Among b v.blocks → b.lines ≡ before ++ l ∷ after → (j : ℕ) × (d : Bool)
      × PlaceFacts items v (place-at j d b before l after)
  fact-at b before after l a e = in-blocks (PlaceFacts items v) 1 true v.blocks b before l after f.places a e

  -- the unit is as the paths of copies ask
  pub is-good : (fs : List UnitText) → IsGood fs v
  is-good fs = record {
    leads = λ b a n h. by b a n h (last-of b.lines);
    self = λ b a. own_block v.blocks b f.labelled (in-among v.blocks b a);
    there = λ b before after l a e p n h. let z = fact-at b before after l a e in
        in-each (IsThere v b before) (values_named l.inst) n (there-named v (place-at z.0 z.1 b before l after) l.inst p (z.2.there f.runs)) h;
  }
    where
      found : (n : List ℕ) → ((d : BlockText) × (block_of n v.blocks ≡ Some d)) → (d : BlockText) × (block_of n v.blocks ≡ Some d) × Among d v.blocks × (label_or d.label ≡ n)
      found n r = (r.0, r.1, among-in v.blocks r.0 (block_of-in n v.blocks r.0 r.1), label-found n v.blocks r.0 r.1)

      at-last : (b : BlockText) → Among b v.blocks → (n : List ℕ) → (ls : List LineText) → b.lines ≡ ls → Among n (last_leads_to ls) → LastOf ls → (d : BlockText) × (block_of n v.blocks ≡ Some d)
          × Among d v.blocks × (label_or d.label ≡ n)
      at-last b a n _ e h no_last = elim h [ ]
      at-last b a n _ e h (last_is xs l) =
          let z = fact-at b xs [] l a e in
          found n (in-each (λ m. (d : BlockText) × (block_of m v.blocks ≡ Some d)) (labels_named l.inst) n z.2.leads (leads-named l.inst n (subst (λ ns. Among n ns) (last-leads xs l) h)))

      by : (b : BlockText) → Among b v.blocks → (n : List ℕ) → Among n (last_leads_to b.lines) → LastOf b.lines → (d : BlockText) × (block_of n v.blocks ≡ Some d) × Among d v.blocks
          × (label_or d.label ≡ n)
      by b a n h o = at-last b a n b.lines refl h o

  entry-lines : (k : ℕ) (b : BlockText) (before rest : List LineText) → Each (PlaceFacts items v) (places_in k true b before rest) → (seen after : List LineText) (l : LineText)
      → rest ≡ seen ++ l ∷ after → is_phi l.inst ≡ false
  entry-lines k b before rest h seen after l e =
      let z = in-block (PlaceFacts items v) k true b before seen l after (subst (λ ls. Each (PlaceFacts items v) (places_in k true b before ls)) e h) in
      no-phi l.inst (place-at z.0 true b (before ++ seen) l after) refl z.1.phi
    where
      no-phi : (i : InstText) (p : InstPlaceText) → p.in_entry ≡ true → PhiIsRight v p i → is_phi i ≡ false
      no-phi (phi_text ty es) p e h = absurd cc
      no-phi (const_text x) p e h = refl
      no-phi (pure_text x y) p e h = refl
      no-phi (var_text x) p e h = refl
      no-phi (ld_text x) p e h = refl
      no-phi (st_text x y) p e h = refl
      no-phi (sig_text x) p e h = refl
      no-phi (prb_text x) p e h = refl
      no-phi (drv_text x y z w) p e h = refl
      no-phi (reg_text x y) p e h = refl
      no-phi (child_text x y z) p e h = refl
      no-phi (call_text x y z) p e h = refl
      no-phi (br_text x) p e h = refl
      no-phi (branch_text x y z) p e h = refl
      no-phi (wait_text x y z) p e h = refl
      no-phi halt_text p e h = refl
      no-phi (ret_text x) p e h = refl

  -- so are its `phi`
  pub phis-good : PhisAreGood v
  phis-good = record {
    edges = λ d before after l ty es a e q m h. by d before after l ty es a e q m h;
    first = λ d before after l a e p k h. let z = fact-at d before after l a e in firsts l.inst (place-at z.0 z.1 d before l after) p z.2.phi k h;
    entry = λ b more e before after l q. entry-lines 1 b [] b.lines
        (each-split (PlaceFacts items v) (places_in 1 true b [] b.lines) (places_from (1 + length b.lines) false more) (subst (λ bs. Each (PlaceFacts items v) (places_from 1 true bs)) e f.places)).0
        before after l q;
  }
    where
      firsts : (i : InstText) (p : InstPlaceText) → is_phi i ≡ true → PhiIsRight v p i → (k : LineText) → Among k p.before → is_phi k.inst ≡ true
      firsts (phi_text ty es) p e h k a = in-each (λ (l : LineText). is_phi l.inst ≡ true) p.before k h.0 a
      firsts (const_text x) p e h k a = absurd cc
      firsts (pure_text x y) p e h k a = absurd cc
      firsts (var_text x) p e h k a = absurd cc
      firsts (ld_text x) p e h k a = absurd cc
      firsts (st_text x y) p e h k a = absurd cc
      firsts (sig_text x) p e h k a = absurd cc
      firsts (prb_text x) p e h k a = absurd cc
      firsts (drv_text x y z w) p e h k a = absurd cc
      firsts (reg_text x y) p e h k a = absurd cc
      firsts (child_text x y z) p e h k a = absurd cc
      firsts (call_text x y z) p e h k a = absurd cc
      firsts (br_text x) p e h k a = absurd cc
      firsts (branch_text x y z) p e h k a = absurd cc
      firsts (wait_text x y z) p e h k a = absurd cc
      firsts halt_text p e h k a = absurd cc
      firsts (ret_text x) p e h k a = absurd cc

      labels-of : (es : List EdgeText) (m : EdgeText) → Among m es → Each (λ n. (b : BlockText) × (block_of n v.blocks ≡ Some b)) (map (λ (e : EdgeText). e.block) es) → (b : BlockText)
          × (block_of m.block v.blocks ≡ Some b)
      labels-of [] m a h = elim a [ ]
      labels-of (e ∷ es) m (inl q) h = subst (λ (x : EdgeText). (b : BlockText) × (block_of x.block v.blocks ≡ Some b)) q h.0
      labels-of (e ∷ es) m (inr a) h = labels-of es m a h.1

      by : (d : BlockText) (before after : List LineText) (l : LineText) (ty : TypeTree) (es : List EdgeText) → Among d v.blocks → d.lines ≡ before ++ l ∷ after → l.inst ≡ phi_text ty es
          → (m : EdgeText) → Among m es → ((b : BlockText) × (block_of m.block v.blocks ≡ Some b) × Among b v.blocks) × IsThereOnEdge v (label_or d.label) m
      by d before after l ty es a e q m h =
          let z = fact-at d before after l a e in
          let p = place-at z.0 z.1 d before l after in
          let there : OperandsThere kind.Proc v p (phi_text ty es) = subst (OperandsThere kind.Proc v p) q (z.2.there f.runs) in
          let r = labels-of es m h (subst (λ i. Each (λ n. (b : BlockText) × (block_of n v.blocks ≡ Some b)) (labels_named i)) q z.2.leads) in
          ((r.0, r.1, among-in v.blocks r.0 (block_of-in m.block v.blocks r.0 r.1)), in-each (IsThereOnEdge v (label_or d.label)) es m there h)
