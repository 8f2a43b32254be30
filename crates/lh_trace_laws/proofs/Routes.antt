-- Whether some path of blocks to a place lacks a definition can be told, block by block.
use Rattle.std.proofs.Common.{◌≡◌, ℕ, List, [], ◌∷◌, Bool, true, false, ◌||◌, ◌&&◌, refl, ap, sym, ◌∙◌, subst, Option, Some, None, ◌⊎◌, inl, inr}
use Rattle.std.specs.Prelude.{not}
use Rattle.std.proofs.lemmas.Bool.{and_parts, not-true, or_parts}
use Rattle.lh_unit.specs.Contents.{LineText, BlockText, UnitText, lines_define, blocks_define}
use Rattle.lh_unit_names.specs.Names.{same_name}
use Rattle.lh_unit.specs.Named.{block_of, label_or}
use Rattle.lh_unit.specs.Places.{has_edge, entry_of, IsPath}
use Rattle.lh_unit.specs.WellFormed.{Lacks}
use Rattle.lh_unit_names.proofs.NameLists.{same_name-is, same_name-refl}
use Rattle.lh_trace_laws.proofs.Labelled.{In, AllLabelled, own_block, block_of-in}

-- one way or the other
abbrev pub Decided : Type 0 → Type 0
Decided A = A ⊎ (A → ⊥)

-- which blocks are reached over others, whatever leads from block to block
module _ (leads : BlockText → BlockText → Bool) where
  -- from s to t over these blocks, the last first, each of them in a list
  abbrev Over : List BlockText → BlockText → List BlockText → BlockText → Type 0
  Over within s [] t = leads s t ≡ true
  Over within s (m ∷ ms) t = In m within × (leads m t ≡ true) × Over within s ms m

  abbrev pub Reaches : List BlockText → BlockText → BlockText → Type 0
  Reaches within s t = (ms : List BlockText) × Over within s ms t

  wider : (x : BlockText) (within : List BlockText) (s : BlockText) (ms : List BlockText) (t : BlockText) → Over within s ms t → Over (x ∷ within) s ms t
  wider x within s [] t o = o
  wider x within s (m ∷ ms) t o = (inr o.0, o.1, wider x within s ms m o.2)

  -- one way behind the other
  joined : (x : BlockText) (within : List BlockText) (s t : BlockText) (ms : List BlockText) → Reaches within s x → Over within x ms t → Reaches (x ∷ within) s t
  joined x within s t [] a b = (x ∷ a.0, (inl refl, b, wider x within s a.0 x a.1))
  joined x within s t (m ∷ ms) a b = let r : Reaches (x ∷ within) s m = joined x within s m ms a b.2 in (m ∷ r.0, (inr b.0, b.1, r.1))

  -- a way that may go over x goes without it, or to it and from it
  parted : (x : BlockText) (within : List BlockText) (s : BlockText) (ms : List BlockText) (t : BlockText) → Over (x ∷ within) s ms t → Reaches within s t ⊎ (Reaches within s x × Reaches within x t)
  parted x within s [] t o = inl ([], o)
  parted x within s (m ∷ ms) t o = at o.0 (parted x within s ms m o.2)
    where
      at : In m (x ∷ within) → Reaches within s m ⊎ (Reaches within s x × Reaches within x m) → Reaches within s t ⊎ (Reaches within s x × Reaches within x t)
      at (inl e) (inl r) = inr (subst (λ z. Reaches within s z) e r, ([], subst (λ z. leads z t ≡ true) e o.1))
      at (inl e) (inr r) = inr (r.0, ([], subst (λ z. leads z t ≡ true) e o.1))
      at (inr i) (inl r) = inl (m ∷ r.0, (i, o.1, r.1))
      at (inr i) (inr r) = inr (r.0, (m ∷ r.1.0, (i, o.1, r.1.1)))

  pub reaches-told : (within : List BlockText) (s t : BlockText) → Decided (Reaches within s t)
  reaches-told [] s t = at (leads s t) refl
    where
      none : leads s t ≡ false → (ms : List BlockText) → Over [] s ms t → ⊥
      none e [] o = cc
      none e (m ∷ ms) o = absurd o.0

      at : (b : Bool) → leads s t ≡ b → Decided (Reaches [] s t)
      at true e = inl ([], e)
      at false e = inr (λ r. none e r.0 r.1)
  reaches-told (x ∷ within) s t = at (reaches-told within s t) (reaches-told within s x) (reaches-told within x t)
    where
      at : Decided (Reaches within s t) → Decided (Reaches within s x) → Decided (Reaches within x t) → Decided (Reaches (x ∷ within) s t)
      at (inl r) b c = inl (r.0, wider x within s r.0 t r.1)
      at (inr n) (inl p) (inl q) = inl (joined x within s t q.0 p q.1)
      at (inr n) (inl p) (inr k) = inr (λ r. elim (parted x within s r.0 t r.1) [ inl a ↦ n a | inr a ↦ k a.1 ])
      at (inr n) (inr k) c = inr (λ r. elim (parted x within s r.0 t r.1) [ inl a ↦ n a | inr a ↦ k a.0 ])

-- the paths of a unit on which no block before the last gives the value n
module _ (u : UnitText) (n : List ℕ) where
  abbrev pub PathWithout : BlockText → Type 0
  PathWithout b = (earlier : List BlockText) × IsPath u (b ∷ earlier) × (blocks_define n earlier ≡ false)

  -- an edge from a block that does not give it
  abbrev passes : BlockText → BlockText → Bool
  passes c b = has_edge c (label_or b.label) && not (lines_define n c.lines)

  entry-in : (bs : List BlockText) (e : BlockText) → entry_of bs ≡ Some e → In e bs
  entry-in [] e p = cc
  entry-in (b ∷ bs) e p = let q : b ≡ e = cc in inl (sym q)

  path-in : (b : BlockText) (earlier : List BlockText) → IsPath u (b ∷ earlier) → In b u.blocks
  path-in b [] p = entry-in u.blocks b p
  path-in b (c ∷ more) p = block_of-in (label_or b.label) u.blocks b p.1

  passes-is : (c b : BlockText) → has_edge c (label_or b.label) ≡ true → lines_define n c.lines ≡ false → passes c b ≡ true
  passes-is c b p q = rw (p, q) refl

  reached : (e b : BlockText) (earlier : List BlockText) → entry_of u.blocks ≡ Some e → IsPath u (b ∷ earlier) → blocks_define n earlier ≡ false → (b ≡ e) ⊎ Reaches passes u.blocks e b
  reached e b [] q p d = let f : Some b ≡ Some e = sym p ∙ q in inl cc
  reached e b (c ∷ more) q p d =
      let o = or_parts (lines_define n c.lines) (blocks_define n more) d in
      at (passes-is c b p.0 o.0) (reached e c more q p.2 o.1)
    where
      at : passes c b ≡ true → (c ≡ e) ⊎ Reaches passes u.blocks e c → (b ≡ e) ⊎ Reaches passes u.blocks e b
      at f (inl g) = inr ([], subst (λ z. passes z b ≡ true) g f)
      at f (inr r) = inr (c ∷ r.0, (path-in c more p.2, f, r.1))

  module _ (a : AllLabelled u.blocks) where
    walked : (e b : BlockText) (ms : List BlockText) → entry_of u.blocks ≡ Some e → In b u.blocks → Over passes u.blocks e ms b → PathWithout b
    walked e b [] q i o =
        let t = and_parts (has_edge e (label_or b.label)) (not (lines_define n e.lines)) o in
        (e ∷ [], (t.0, own_block u.blocks b a i, q), ap (λ x. x || false) (not-true (lines_define n e.lines) t.1))
    walked e b (m ∷ ms) q i o =
        let t = and_parts (has_edge m (label_or b.label)) (not (lines_define n m.lines)) o.1 in
        let w : PathWithout m = walked e m ms q o.0 o.2 in
        (m ∷ w.0, (t.0, own_block u.blocks b a i, w.1), ap (λ x. x || blocks_define n w.0) (not-true (lines_define n m.lines) t.1) ∙ w.2)

    -- one block of the unit is another where their labels are one
    same_block-told : (b c : BlockText) → In b u.blocks → In c u.blocks → Decided (b ≡ c)
    same_block-told b c i j = at (same_name (label_or b.label) (label_or c.label)) refl
      where
        at : (x : Bool) → same_name (label_or b.label) (label_or c.label) ≡ x → Decided (b ≡ c)
        at true p =
            let l : label_or b.label ≡ label_or c.label = same_name-is (label_or b.label) (label_or c.label) p in
            let f : Some b ≡ Some c = sym (own_block u.blocks b a i) ∙ ap (λ y. block_of y u.blocks) l ∙ own_block u.blocks c a j in
            inl cc
        at false p = inr (λ e. let f : same_name (label_or b.label) (label_or c.label)
            ≡ true = subst (λ (z : BlockText). same_name (label_or b.label) (label_or z.label) ≡ true) e (same_name-refl (label_or b.label)) in cc)

    path-told : (b : BlockText) → In b u.blocks → Decided (PathWithout b)
    path-told b i = at (entry_of u.blocks) refl
      where
        no_entry : (c : BlockText) (earlier : List BlockText) → entry_of u.blocks ≡ None → IsPath u (c ∷ earlier) → ⊥
        no_entry c [] q p = let f : None ≡ Some c = sym q ∙ p in cc
        no_entry c (d ∷ more) q p = no_entry d more q p.2

        by : (e : BlockText) → entry_of u.blocks ≡ Some e → Decided (b ≡ e) → Decided (Reaches passes u.blocks e b) → Decided (PathWithout b)
        by e q (inl s) r = inl ([], q ∙ ap Some (sym s), refl)
        by e q (inr s) (inl r) = inl (walked e b r.0 q i r.1)
        by e q (inr s) (inr k) = inr (λ w. elim (reached e b w.0 q w.1 w.2) [ inl h ↦ s h | inr h ↦ k h ])

        at : (o : Option BlockText) → entry_of u.blocks ≡ o → Decided (PathWithout b)
        at None q = inr (λ w. no_entry b w.0 q w.1)
        at (Some e) q = by e q (same_block-told b e i (entry-in u.blocks e q)) (reaches-told passes u.blocks e b)

    -- whether the value is lacked in a block behind these lines
    pub lacks-told : (b : BlockText) (before : List LineText) → In b u.blocks → Decided (Lacks u n b before)
    lacks-told b before i = at (lines_define n before) refl (path-told b i)
      where
        at : (x : Bool) → lines_define n before ≡ x → Decided (PathWithout b) → Decided (Lacks u n b before)
        at true p t = inr (λ l. let f : lines_define n before ≡ false = l.not_before in cc)
        at false p (inl w) = inl (record { earlier = w.0; path = w.1; not_before = p; not_earlier = w.2 })
        at false p (inr k) = inr (λ l. k (l.earlier, l.path, l.not_earlier))
