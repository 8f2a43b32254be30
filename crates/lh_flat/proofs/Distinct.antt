-- No two labels and no two values of a flat text have one name.
use Rattle.std.proofs.Common.{◌≡◌, ℕ, zero, suc, ◌+◌, ◌<◌, ◌⊎◌, inl, inr, true, ◌||◌, nat_eq, List, [], ◌∷◌, ◌++◌, length, get_or, map, Option, Some, None, refl, ap, sym, ◌∙◌, subst, arith}
use Rattle.std.specs.List.{slice_get, flat_map}
use Rattle.std.proofs.lemmas.List.{append_cancel_left, append-nil, map-append}
use Rattle.lh_unit_names.specs.Names.{IsName}
use Rattle.lh_unit.specs.Contents.{LineText, UnitText}
use Rattle.lh_unit.specs.Naming.{block_text}
use Rattle.lh_unit.specs.Table.{insts_at, is_block, HasBlocks, BlocksWithin}
use Rattle.lh_unit_names.specs.Distinct.{AllDistinct}
use Rattle.lh_unit.specs.Within.{Each}
use Rattle.lh_unit.specs.Arena.{Arena, IsArena, table_at, naming, blocks_at, unit_count, value_count, label_count, value_name_at, label_name_at, unit_text_at, kind_at}
use Rattle.lh_unit.specs.declared.inst.UnitId.{UnitId}
use Rattle.lh_unit.specs.declared.inst.BlockId.{BlockId}
use Rattle.lh_unit.specs.declared.inst.InstId.{InstId}
use Rattle.lh_unit.proofs.Lists.{Each-append, Same, same, other, same_or, nat_eq-other, or_true}
use Rattle.lh_unit.proofs.ModuleLaws.{value-by_name, label-by_name}
use Rattle.lh_unit.proofs.Defined.{blocks-within}
use Rattle.lh_unit.proofs.Within.{Each-more}
use Rattle.lh_flat.specs.Graph.{callee_of}
use Rattle.lh_flat.specs.Copies.{Copy, call_path, copy_at, opened}
use Rattle.lh_flat.specs.Flat.{FlatBlockText, Pieces, merge_of, with_line, pieces_from, flat_block, flat_copy}
use Rattle.lh_flat.specs.Building.{line_of}
use Rattle.lh_flat.specs.CopyNames.{own_names, unit_results, call_names, insts_names, blocks_names, copy_names, IsCallable, InstIsRight, BlockIsRight, UnitsAreRight}
use Rattle.lh_flat.specs.Marks.{UnitsAreNamed}
use Rattle.lh_flat.proofs.Marks.{nothing_behind, longer-apart}
use Rattle.lh_flat.proofs.NumberNames.{labels}
use Rattle.lh_flat.proofs.BlockCopies.{line_text_of, arg_names, opened-none, opened-some, block-named}
use Rattle.lh_flat.proofs.NestedCopies.{block-in, copy_names-none, copy_names-next, is_block-head}
use Rattle.lh_flat.proofs.Apart.{Differs, Apart, differs-from, apart-append, plain-name, name-there, Begins, At, Under, UnderFrom, from-at, from-first, from-later, at-apart, begins-under, line-apart, plain-under, begins-more}
use Rattle.lh_flat.proofs.ResultNames.{distinct-tail, distinct-head, Own, own-begins, own-under, own-each, own-apart, once, results-each, results-apart}

-- no block stands twice
block-place : (bs : List BlockId) (b : BlockId) → is_block bs b.0 ≡ true → (i : ℕ) × (slice_get bs i ≡ Some b)
block-place [] b e = absurd cc
block-place (x ∷ bs) b e = by (same_or x.0 b.0) (λ q. block-place bs b q)
  where
    by : Same x.0 b.0 → (is_block bs b.0 ≡ true → (i : ℕ) × (slice_get bs i ≡ Some b)) → (i : ℕ) × (slice_get (x ∷ bs) i ≡ Some b)
    by (same q) f = (0, ap (λ n. Some (record { 0 = n })) q)
    by (other q) f = let r = f (sym (ap (λ y. y || is_block bs b.0) (nat_eq-other x.0 b.0 q)) ∙ e) in (suc r.0, r.1)

-- the label of one of these blocks, with something behind it
abbrev AtOne : (a : Arena) (u : ℕ) (p : List ℕ) → List BlockId → List ℕ → Type 0
AtOne a u p bs x = (b : BlockId) × (is_block bs b.0 ≡ true) × At p (label_name_at a u b.0) x

abbrev UnderOne : (a : Arena) (u : ℕ) (p : List ℕ) → List BlockId → List ℕ → Type 0
UnderOne a u p bs x = (b : BlockId) × (is_block bs b.0 ≡ true) × UnderFrom p (label_name_at a u b.0) 0 x

later-block : (b c : BlockId) (bs : List BlockId) → is_block bs c.0 ≡ true → is_block (b ∷ bs) c.0 ≡ true
later-block b c bs q = ap (λ x. nat_eq b.0 c.0 || x) q ∙ or_true (nat_eq b.0 c.0)

module _ (a : Arena) (o : IsArena a) (fs : List UnitText) (named : UnitsAreNamed a) (formed : UnitsAreRight a fs) where
  -- two blocks differ by their labels
  blocks-apart : (u : ℕ) (l : u < unit_count a) (p : List ℕ) (b : BlockId) (bs : List BlockId) (x y : List ℕ) → b.0 < label_count a u → BlocksWithin (label_count a u) bs → (is_block bs b.0 ≡ true → ⊥)
      → At p (label_name_at a u b.0) x → AtOne a u p bs y → x ≡ y → ⊥
  blocks-apart u l p b bs x y k w gone h j e =
      let m : label_name_at a u b.0 ≡ label_name_at a u j.0.0 =
      at-apart p (label_name_at a u b.0) (label_name_at a u j.0.0) x y (plain-name (label_name_at a u b.0) ((named u l).labels b.0 k))
      (plain-name (label_name_at a u j.0.0) ((named u l).labels j.0.0 (block-in (label_count a u) bs j.0 w j.1))) h j.2 e in
      let n : b.0 ≡ j.0.0 = label-by_name a u b.0 j.0.0 o l k (block-in (label_count a u) bs j.0 w j.1) m in
      gone (subst (λ z. is_block bs z ≡ true) (sym n) j.1)

  within-first : (n : ℕ) (b : BlockId) (bs : List BlockId) → BlocksWithin n (b ∷ bs) → b.0 < n
  within-first n b bs w = w.0

  -- ---- values

  -- the names of each copy differ
  abbrev pub NamesDiffer : (names : UnitId → List ℕ → List (List ℕ)) → Type 0
  NamesDiffer names = (f : UnitId) (p : List ℕ) → IsCallable a fs f → Apart (names f p) × Each (Begins p) (names f p)

  insts-values : (names : UnitId → List ℕ → List (List ℕ)) → NamesDiffer names → (u : ℕ) (p m : List ℕ) (is : List InstId) → Each (λ (i : InstId). InstIsRight a fs u (line_of a u i).inst) is → (k : ℕ)
      →
      Apart (insts_names names a u p m k is) × Each (UnderFrom p m k) (insts_names names a u p m k is)
  insts-values names h u p m [] w k = (tt, tt)
  insts-values names h u p m (i ∷ is) w k = by (callee_of a (line_of a u i).inst) refl (insts-values names h u p m is w.1 (k + 1))
    where
      by : (x : Option UnitId) → callee_of a (line_of a u i).inst ≡ x → Apart (insts_names names a u p m (k + 1) is) × Each (UnderFrom p m (k + 1)) (insts_names names a u p m (k + 1) is) →
          Apart (call_names names (p ++ m ++ (256 + k) ∷ []) x ++ insts_names names a u p m (k + 1) is)
          × Each (UnderFrom p m k) (call_names names (p ++ m ++ (256 + k) ∷ []) x ++ insts_names names a u p m (k + 1) is)
      by None e r = (r.0, Each-more (UnderFrom p m (k + 1)) (UnderFrom p m k) (insts_names names a u p m (k + 1) is) (from-later p m k) r.1)
      by (Some f) e r =
          let q : List ℕ = p ++ m ++ (256 + k) ∷ [] in
          let c : Apart (names f q) × Each (Begins q) (names f q) = h f q (w.0.called f e) in
          let under : Each (Under p m k) (names f q) = Each-more (Begins q) (Under p m k) (names f q) (begins-under p m k) c.1 in (
            apart-append (Under p m k) (UnderFrom p m (k + 1)) (names f q) (insts_names names a u p m (k + 1) is) c.0 r.0 under r.1 (line-apart p m k),
            Each-append (UnderFrom p m k) (names f q) (insts_names names a u p m (k + 1) is) (Each-more (Under p m k) (UnderFrom p m k) (names f q) (from-first p m k) under)
                (Each-more (UnderFrom p m (k + 1)) (UnderFrom p m k) (insts_names names a u p m (k + 1) is) (from-later p m k) r.1),
          )

  under-one-at : (u : ℕ) (p : List ℕ) (bs : List BlockId) (x : List ℕ) → UnderOne a u p bs x → AtOne a u p bs x
  under-one-at u p bs x h = (h.0, h.1, from-at p (label_name_at a u h.0.0) 0 x h.2)

  blocks-values : (names : UnitId → List ℕ → List (List ℕ)) → NamesDiffer names → (u : ℕ) (l : u < unit_count a) (p : List ℕ) (bs : List BlockId) → AllDistinct bs → BlocksWithin (label_count a u) bs
      → Each (BlockIsRight a fs u) bs →
      Apart (blocks_names names a u p bs) × Each (UnderOne a u p bs) (blocks_names names a u p bs)
  blocks-values names h u l p [] d w r = (tt, tt)
  blocks-values names h u l p (b ∷ bs) d w r =
      let m : List ℕ = label_name_at a u b.0 in
      let one : Apart (insts_names names a u p m 0 (insts_at (table_at a u) b.0)) × Each (UnderFrom p m 0) (insts_names names a u p m 0 (insts_at (table_at a u) b.0)) =
      insts-values names h u p m (insts_at (table_at a u) b.0) r.0 0 in
      let rest : Apart (blocks_names names a u p bs) × Each (UnderOne a u p bs) (blocks_names names a u p bs) = blocks-values names h u l p bs (distinct-tail b bs d) w.1 r.1 in
      let gone : is_block bs b.0 ≡ true → ⊥ = λ e. let i = block-place bs b e in distinct-head b bs d i.0 i.1 in (
        apart-append (UnderFrom p m 0) (UnderOne a u p bs) (insts_names names a u p m 0 (insts_at (table_at a u) b.0)) (blocks_names names a u p bs) one.0 rest.0 one.1 rest.1
            (λ x y s t e. blocks-apart u l p b bs x y (within-first (label_count a u) b bs w) w.1 gone (from-at p m 0 x s) (under-one-at u p bs y t) e),
        Each-append (UnderOne a u p (b ∷ bs)) (insts_names names a u p m 0 (insts_at (table_at a u) b.0)) (blocks_names names a u p bs)
            (Each-more (UnderFrom p m 0) (UnderOne a u p (b ∷ bs)) (insts_names names a u p m 0 (insts_at (table_at a u) b.0)) (λ x s. (b, is_block-head b bs, s)) one.1)
            (Each-more (UnderOne a u p bs) (UnderOne a u p (b ∷ bs)) (blocks_names names a u p bs) (λ x s. (s.0, later-block b s.0 bs s.1, s.2)) rest.1),
      )

  -- those of a unit, and of all copies in it
  unit-values : (names : UnitId → List ℕ → List (List ℕ)) → NamesDiffer names → (u : ℕ) (l : u < unit_count a) → HasBlocks (kind_at a u) → (p : List ℕ) (own : List (List ℕ)) → Apart own
      → Each (Own p) own → Apart (own ++ blocks_names names a u p (blocks_at a u)) × Each (Begins p) (own ++ blocks_names names a u p (blocks_at a u))
  unit-values names h u l k p own differ own-each =
      let w : BlocksWithin (label_count a u) (blocks_at a u) = blocks-within (kind_at a u) (table_at a u) k (o.tables u l).fits_kind in
      let inner : Apart (blocks_names names a u p (blocks_at a u)) × Each (UnderOne a u p (blocks_at a u)) (blocks_names names a u p (blocks_at a u)) =
      blocks-values names h u l p (blocks_at a u) (o.tables u l).blocks_distinct w (formed u l k) in
      let name : (b : BlockId) → is_block (blocks_at a u) b.0 ≡ true → IsName (label_name_at a u b.0) = λ b e. (named u l).labels b.0 (block-in (label_count a u) (blocks_at a u) b w e) in (
        apart-append (Own p) (UnderOne a u p (blocks_at a u)) own (blocks_names names a u p (blocks_at a u)) differ inner.0 own-each inner.1
            (λ x y s t e. own-under p (label_name_at a u t.0.0) x y (name t.0 t.1) s t.2 e),
        Each-append (Begins p) own (blocks_names names a u p (blocks_at a u)) (Each-more (Own p) (Begins p) own (λ x s. own-begins p x s) own-each)
            (Each-more (UnderOne a u p (blocks_at a u)) (Begins p) (blocks_names names a u p (blocks_at a u))
            (λ x t. begins-more p (label_name_at a u t.0.0) 0 x (name-there (label_name_at a u t.0.0) (name t.0 t.1)) (from-at p (label_name_at a u t.0.0) 0 x t.2)) inner.1),
      )

  -- those of a process
  pub process-values : (names : UnitId → List ℕ → List (List ℕ)) → NamesDiffer names → (u : ℕ) (l : u < unit_count a) → HasBlocks (kind_at a u) →
      Apart (own_names a u ++ blocks_names names a u [] (blocks_at a u)) × Each (Begins []) (own_names a u ++ blocks_names names a u [] (blocks_at a u))
  process-values names h u l k = unit-values names h u l k [] (own_names a u) (own-apart (own_names a u) (o.tables u l).values_distinct) (own-each (own_names a u) (named u l).values)

  pub copies-values : (depth : ℕ) → NamesDiffer (copy_names depth a)
  copies-values zero f p k = subst (λ ns. Apart ns × Each (Begins p) ns) (sym (copy_names-none a f p)) (tt, tt)
  copies-values (suc j) f p k = subst (λ ns. Apart ns × Each (Begins p) ns) (sym (copy_names-next j a f p)) (unit-values (copy_names j a) (copies-values j) f.0 k.within k.blocks p (unit_results a f.0 p)
      (results-apart (value_name_at a f.0) p (value_count a f.0) (λ v w x y e. value-by_name a f.0 v w o k.within x y e) (named f.0 k.within).values 0 (table_at a f.0).lines (o.tables f.0 k.within).results_within
      (λ i j v x y e q. once (table_at a f.0) (o.tables f.0 k.within) i j v x y e q)) (results-each (value_name_at a f.0) p (value_count a f.0) (named f.0 k.within).values 0 (table_at a f.0).lines (o.tables f.0 k.within).results_within))

  -- ---- labels

  -- the labels of each copy differ
  abbrev pub LabelsDiffer : (copy_of : Copy → List FlatBlockText) → Type 0
  LabelsDiffer copy_of = (f : UnitId) (p : List ℕ) (args : List (List ℕ)) → IsCallable a fs f → Apart (labels (copy_of (copy_at p args (unit_text_at a f.0))))
      × Each (Begins p) (labels (copy_of (copy_at p args (unit_text_at a f.0))))

  insts-labels : (copy_of : Copy → List FlatBlockText) → LabelsDiffer copy_of → (u : ℕ) (c : Copy) (m : List ℕ) (is : List InstId) → Each (λ (i : InstId). InstIsRight a fs u (line_of a u i).inst) is
      → (k : ℕ) →
      Apart (labels (pieces_from copy_of fs c m k (map (line_text_of a u) is)).more) × Each (UnderFrom c.path m k) (labels (pieces_from copy_of fs c m k (map (line_text_of a u) is)).more)
  insts-labels copy_of h u c m [] w k = (tt, tt)
  insts-labels copy_of h u c m (i ∷ is) w k = by (callee_of a (line_of a u i).inst) refl (insts-labels copy_of h u c m is w.1 (k + 1))
    where
      by : (x : Option UnitId) → callee_of a (line_of a u i).inst ≡ x →
          Apart (labels (pieces_from copy_of fs c m (k + 1) (map (line_text_of a u) is)).more)
          × Each (UnderFrom c.path m (k + 1)) (labels (pieces_from copy_of fs c m (k + 1) (map (line_text_of a u) is)).more) →
          Apart (labels (with_line copy_of fs c (line_text_of a u i) (opened fs c (call_path c m k) (line_text_of a u i).inst) (pieces_from copy_of fs c m (k + 1) (map (line_text_of a u) is))).more)
          × Each (UnderFrom c.path m k) (labels (with_line copy_of fs c (line_text_of a u i) (opened fs c (call_path c m k) (line_text_of a u i).inst)
          (pieces_from copy_of fs c m (k + 1) (map (line_text_of a u) is))).more)
      by None e r =
          let P : Pieces = pieces_from copy_of fs c m (k + 1) (map (line_text_of a u) is) in
          subst (λ y. Apart (labels (with_line copy_of fs c (line_text_of a u i) y P).more) × Each (UnderFrom c.path m k) (labels (with_line copy_of fs c (line_text_of a u i) y P).more))
          (sym (opened-none a fs u c (call_path c m k) (line_of a u i).inst e))
          (r.0, Each-more (UnderFrom c.path m (k + 1)) (UnderFrom c.path m k) (labels P.more) (from-later c.path m k) r.1)
      by (Some f) e r =
          let P : Pieces = pieces_from copy_of fs c m (k + 1) (map (line_text_of a u) is) in
          let l : LineText = line_text_of a u i in
          let q : List ℕ = call_path c m k in
          let d : Copy = copy_at q (arg_names c l.inst) (unit_text_at a f.0) in
          let D : FlatBlockText = record { label = d.path; merge = merge_of fs c d l.inst l.result; lines = P.rest } in
          let copies : Apart (labels (copy_of d)) × Each (Begins q) (labels (copy_of d)) = h f q (arg_names c l.inst) (w.0.called f e) in
          let here : Under c.path m k q = ([], sym (append-nil q)) in
          let tail : Apart (q ∷ labels P.more) = (differs-from (UnderFrom c.path m (k + 1)) q (labels P.more) r.1 (λ y t x. line-apart c.path m k q y here t x), r.0) in
          let behind : Each (λ y. (y ≡ q) ⊎ UnderFrom c.path m (k + 1) y)
          (q ∷ labels P.more) = (inl refl, Each-more (UnderFrom c.path m (k + 1)) (λ y. (y ≡ q) ⊎ UnderFrom c.path m (k + 1) y) (labels P.more) (λ y t. inr t) r.1) in
          let all : Apart (labels (copy_of d) ++ q ∷ labels P.more) = apart-append (Begins q) (λ y. (y ≡ q) ⊎ UnderFrom c.path m (k + 1) y) (labels (copy_of d)) (q ∷ labels P.more) copies.0 tail
          copies.1 behind (cross q) in
          let each : Each (UnderFrom c.path m k) (labels (copy_of d) ++ q ∷ labels P.more) =
          Each-append (UnderFrom c.path m k) (labels (copy_of d)) (q ∷ labels P.more)
          (Each-more (Begins q) (UnderFrom c.path m k) (labels (copy_of d)) (λ x s. from-first c.path m k x (begins-under c.path m k x s)) copies.1)
          (from-first c.path m k q here, Each-more (UnderFrom c.path m (k + 1)) (UnderFrom c.path m k) (labels P.more) (from-later c.path m k) r.1) in
          subst (λ y. Apart (labels (with_line copy_of fs c l y P).more) × Each (UnderFrom c.path m k) (labels (with_line copy_of fs c l y P).more))
          (sym (opened-some a fs u c q (line_of a u i).inst f e (w.0.called f e).named))
          (subst (λ ns. Apart ns × Each (UnderFrom c.path m k) ns) (sym (map-append (λ (b : FlatBlockText). b.label) (copy_of d) (D ∷ P.more))) (all, each))
        where
          cross : (q x y : List ℕ) → Begins (call_path c m k) x → (y ≡ call_path c m k) ⊎ UnderFrom c.path m (k + 1) y → x ≡ y → ⊥
          cross q x y s (inl t) z = longer-apart (call_path c m k) s.0 s.1 (sym s.2 ∙ z ∙ t)
          cross q x y s (inr t) z = line-apart c.path m k x y (begins-under c.path m k x s) t z

  block-labels : (copy_of : Copy → List FlatBlockText) → LabelsDiffer copy_of → (u : ℕ) (l : u < unit_count a) (k : HasBlocks (kind_at a u)) (c : Copy) (b : BlockId) → b.0 < label_count a u
      → BlockIsRight a fs u b →
      Apart (labels (flat_block copy_of fs c (block_text (naming a u) (table_at a u) b)))
      × Each (At c.path (label_name_at a u b.0)) (labels (flat_block copy_of fs c (block_text (naming a u) (table_at a u) b)))
  block-labels copy_of h u l k c b w r =
      let m : List ℕ = label_name_at a u b.0 in
      let P : Pieces = pieces_from copy_of fs c m 0 (map (line_text_of a u) (insts_at (table_at a u) b.0)) in
      let one : Apart (labels P.more) × Each (UnderFrom c.path m 0) (labels P.more) = insts-labels copy_of h u c m (insts_at (table_at a u) b.0) r 0 in
      subst (λ xs. Apart (labels xs) × Each (At c.path m) (labels xs)) (sym (block-named a fs copy_of u c b k)) (
        (differs-from (UnderFrom c.path m 0) (c.path ++ m) (labels P.more) one.1 (λ y t e. plain-under c.path m m 0 (c.path ++ m) y (plain-name m ((named u l).labels b.0 w)) refl t e), one.0),
        (([], nothing_behind refl, sym (append-nil (c.path ++ m))), Each-more (UnderFrom c.path m 0) (At c.path m) (labels P.more) (from-at c.path m 0) one.1),
      )

  blocks-labels : (copy_of : Copy → List FlatBlockText) → LabelsDiffer copy_of → (u : ℕ) (l : u < unit_count a) (k : HasBlocks (kind_at a u)) (c : Copy) (bs : List BlockId) → AllDistinct bs
      → BlocksWithin (label_count a u) bs → Each (BlockIsRight a fs u) bs →
      Apart (labels (flat_map (flat_block copy_of fs c) (map (block_text (naming a u) (table_at a u)) bs)))
      × Each (AtOne a u c.path bs) (labels (flat_map (flat_block copy_of fs c) (map (block_text (naming a u) (table_at a u)) bs)))
  blocks-labels copy_of h u l k c [] d w r = (tt, tt)
  blocks-labels copy_of h u l k c (b ∷ bs) d w r =
      let m : List ℕ = label_name_at a u b.0 in
      let X : List FlatBlockText = flat_block copy_of fs c (block_text (naming a u) (table_at a u) b) in
      let Y : List FlatBlockText = flat_map (flat_block copy_of fs c) (map (block_text (naming a u) (table_at a u)) bs) in
      let one : Apart (labels X) × Each (At c.path m) (labels X) = block-labels copy_of h u l k c b (within-first (label_count a u) b bs w) r.0 in
      let rest : Apart (labels Y) × Each (AtOne a u c.path bs) (labels Y) = blocks-labels copy_of h u l k c bs (distinct-tail b bs d) w.1 r.1 in
      let gone : is_block bs b.0 ≡ true → ⊥ = λ e. let i = block-place bs b e in distinct-head b bs d i.0 i.1 in
      subst (λ ns. Apart ns × Each (AtOne a u c.path (b ∷ bs)) ns) (sym (map-append (λ (x : FlatBlockText). x.label) X Y)) (
        apart-append (At c.path m) (AtOne a u c.path bs) (labels X) (labels Y) one.0 rest.0 one.1 rest.1
            (λ x y s t e. blocks-apart u l c.path b bs x y (within-first (label_count a u) b bs w) w.1 gone s t e),
        Each-append (AtOne a u c.path (b ∷ bs)) (labels X) (labels Y) (Each-more (At c.path m) (AtOne a u c.path (b ∷ bs)) (labels X) (λ x s. (b, is_block-head b bs, s)) one.1)
            (Each-more (AtOne a u c.path bs) (AtOne a u c.path (b ∷ bs)) (labels Y) (λ x s. (s.0, later-block b s.0 bs s.1, s.2)) rest.1),
      )

  -- those of a copy, and of all copies in it
  pub unit-labels : (depth : ℕ) → LabelsDiffer (flat_copy depth fs) → (u : ℕ) (l : u < unit_count a) (k : HasBlocks (kind_at a u)) (c : Copy) → c.unit ≡ unit_text_at a u
      → Apart (labels (flat_copy (suc depth) fs c)) × Each (Begins c.path) (labels (flat_copy (suc depth) fs c))
  unit-labels depth h u l k c e =
      let w : BlocksWithin (label_count a u) (blocks_at a u) = blocks-within (kind_at a u) (table_at a u) k (o.tables u l).fits_kind in
      let r : Apart (labels (flat_map (flat_block (flat_copy depth fs) fs c) (unit_text_at a u).blocks))
      × Each (AtOne a u c.path (blocks_at a u)) (labels (flat_map (flat_block (flat_copy depth fs) fs c) (unit_text_at a u).blocks)) =
      blocks-labels (flat_copy depth fs) h u l k c (blocks_at a u) (o.tables u l).blocks_distinct w (formed u l k) in
      let s : Each (Begins c.path) (labels (flat_map (flat_block (flat_copy depth fs) fs c) (unit_text_at a u).blocks)) =
      Each-more (AtOne a u c.path (blocks_at a u)) (Begins c.path) (labels (flat_map (flat_block (flat_copy depth fs) fs c) (unit_text_at a u).blocks))
      (λ x t. begins-more c.path (label_name_at a u t.0.0) 0 x (name-there (label_name_at a u t.0.0) ((named u l).labels t.0.0 (block-in (label_count a u) (blocks_at a u) t.0 w t.1))) t.2) r.1 in
      subst (λ (x : UnitText). Apart (labels (flat_map (flat_block (flat_copy depth fs) fs c) x.blocks)) × Each (Begins c.path) (labels (flat_map (flat_block (flat_copy depth fs) fs c) x.blocks)))
      (sym e) (r.0, s)

  pub copies-labels : (depth : ℕ) → LabelsDiffer (flat_copy depth fs)
  copies-labels zero f p args k = (tt, tt)
  copies-labels (suc j) f p args k = unit-labels j (copies-labels j) f.0 k.within k.blocks (copy_at p args (unit_text_at a f.0)) refl
