-- What is made for a process reads as its flat text, by names no two of which are alike.
use Rattle.std.proofs.Common.{◌≡◌, ℕ, zero, suc, ◌+◌, ◌<◌, ◌≤◌, true, false, List, [], ◌∷◌, ◌++◌, length, get_or, map, Option, Some, None, Ok, Err, refl, ap, sym, ◌∙◌, subst, arith, lt-ltb, le-ltb}
use Rattle.std.proofs.lemmas.List.{length-append, length-map, get_or_append_left}
use Rattle.lh_unit.specs.Contents.{ArgText, UnitText}
use Rattle.lh_unit.specs.Named.{is_function}
use Rattle.lh_unit.specs.Naming.{Naming, arg_text, kind_text}
use Rattle.lh_unit.specs.Activation.{functions}
use Rattle.lh_unit.specs.Table.{HasBlocks, ArgsWithin}
use Rattle.lh_unit.specs.Within.{Each}
use Rattle.lh_unit.specs.Arena.{Arena, IsArena, contents, table_at, naming, blocks_at, args_at, unit_count, value_count, unit_name_at, value_name_at, unit_text_at, kind_at}
use Rattle.lh_unit.specs.WellFormed.{IsSpelled, IsFaultless}
use Rattle.lh_unit.specs.declared.inst.UnitId.{UnitId}
use Rattle.lh_unit.specs.declared.inst.UnitKind.{UnitKind}
use Rattle.lh_unit.specs.declared.inst.UnitKind.TheVariants as kind
use Rattle.lh_unit.specs.declared.inst.ValueId.{ValueId}
use Rattle.lh_unit.specs.declared.inst.Arg.{Arg}
use Rattle.lh_unit_graph.specs.declared.fault.DescentFault.{DescentFault}
use Rattle.lh_flat.specs.declared.calls.CallNode.{CallNode}
use Rattle.lh_flat.specs.declared.measure.CallMeasure.{CallMeasure}
use Rattle.lh_flat.specs.declared.flat.Flat.{Flat}
use Rattle.lh_flat.specs.declared.rename.Renaming.{Renaming}
use Rattle.lh_flat.specs.declared.build.FlatBuilder.{FlatBuilder}
use Rattle.lh_flat.specs.Calls.{callees, nest_deeper}
use Rattle.lh_flat.specs.Copies.{top_copy}
use Rattle.lh_flat.specs.Flat.{FlatBlockText, FlatText, flat_copy, max_nested, text_of, refused, call_too_deep, flat_too_large, flat_of}
use Rattle.lh_flat.specs.Reads.{ReadsAs, Flattens}
use Rattle.lh_flat.specs.Building.{call_room, own_ids, ids_for, no_text, blocks_added, call_added}
use Rattle.lh_flat.specs.CopyNames.{own_names, blocks_names, copy_names, NamedFrom}
use Rattle.lh_flat.specs.Graph.{IsGraph}
use Rattle.lh_unit_graph.specs.Measures.{Measures}
use Rattle.lh_flat.specs.Measures.{measuring, fault_of}
use Rattle.lh_flat.specs.Marks.{UnitsAreNamed}
use Rattle.lh_flat.specs.Below.{IdsBelow}
use Rattle.lh_flat.specs.Made.{IsMade, TopHasRoom}
use Rattle.lh_flat.proofs.Bounds.{name_or_mark, name-inside, inside, blocks-below}
use Rattle.lh_flat.proofs.BuilderRoom.{length-own_ids}
use Rattle.lh_flat.proofs.NumberNames.{labels, read, named-left, named-right, moved, long-by_text}
use Rattle.lh_flat.proofs.BlockCopies.{CopyIs, BlocksRead, blocks-read}
use Rattle.lh_flat.proofs.CopyValues.{own-named}
use Rattle.lh_flat.proofs.NestedCopies.{nests_below, below-any, CopyStarts, copy-is, calls-read}
use Rattle.lh_flat.proofs.Apart.{apart-at}
use Rattle.lh_flat.proofs.Distinct.{process-values, copies-values, unit-labels, copies-labels}
use Rattle.lh_flat.proofs.Formed.{units-right}
use Rattle.lh_flat.proofs.RefusalLaws.{Refuses-measured, Refuses-deep, Refuses-large, Flattens-measured, not-deep, length-few}
use Rattle.lh_flat.proofs.Endings.{units-end}
use Rattle.lh_flat.proofs.Enough.{top-room}
use Rattle.lh_flat.proofs.CalledFunctions.{zero_first}

-- names at their places
named-by : (name : ℕ → List ℕ) (n : ℕ) (xs : List (List ℕ)) → ((i : ℕ) → i < length xs → name (n + i) ≡ get_or xs i []) → NamedFrom name n xs
named-by name n [] h = tt
named-by name n (x ∷ xs) h = (ap name (plus_none n) ∙ h 0 (omega arith), named-by name (n + 1) xs (λ i l. ap name (further n i) ∙ h (suc i) (omega arith)))
  where
    plus_none : (m : ℕ) → m ≡ m + 0
    plus_none m = omega arith

    further : (m j : ℕ) → m + 1 + j ≡ m + suc j
    further m j = omega arith

named-all : (xs : List (List ℕ)) → NamedFrom (λ k. get_or xs k []) 0 xs
named-all xs = named-by (λ k. get_or xs k []) 0 xs (λ i l. ap (λ k. get_or xs k []) (zero_first i))

abbrev flat_with : List ArgText → List FlatBlockText → FlatText
flat_with x y = record { args = x; blocks = y }

texts : (x y : List ArgText) (v w : List FlatBlockText) → x ≡ y → v ≡ w → flat_with x v ≡ flat_with y w
texts x y v w e q = ap (λ z. flat_with z v) e ∙ ap (flat_with y) q

marked-all : (xs : List (List ℕ)) → NamedFrom (name_or_mark xs) 0 xs
marked-all xs = named-by (name_or_mark xs) 0 xs (λ i l. ap (name_or_mark xs) (zero_first i) ∙ name-inside xs i l)

-- a process does not return
no-function : (k : Option UnitKind) → k ≡ Some kind.Proc → is_function (kind_text k) ≡ true → ⊥
no-function (Some kind.Proc) e y = cc
no-function (Some kind.Func) e y = cc
no-function (Some kind.Entity) e y = cc
no-function None e y = cc

module _ (a : Arena) (o : IsArena a) (f : IsFaultless (contents a)) (named : UnitsAreNamed a) (top : ℕ) (l : top < unit_count a) (k : HasBlocks (kind_at a top))
    (p : kind_at a top ≡ Some kind.Proc) where
  abbrev fs : List UnitText
  fs = functions (contents a)

  abbrev text : UnitText
  text = unit_text_at a top

  module _ (depth : ℕ) (shallow : nest_deeper depth fs (callees text) ≡ false) where
    abbrev own : List (List ℕ)
    own = own_names a top

    abbrev inner : List (List ℕ)
    inner = blocks_names (copy_names depth a) a top [] (blocks_at a top)

    abbrev blocks : List FlatBlockText
    blocks = flat_copy (suc depth) fs (top_copy text)

    abbrev ids : Renaming
    ids = ids_for (call_room depth a) a top (own_ids (value_count a top)) 0 0

    abbrev made : FlatBuilder
    made = blocks_added (call_added depth a) a top ids (blocks_at a top) (no_text (value_count a top))

    -- it reads so by any names that stand at these places
    module _ (g : Naming) (gu : g.unit_name ≡ unit_name_at a) (gl : NamedFrom g.label_name 0 (labels blocks)) (gv : NamedFrom g.value_name 0 (own ++ inner)) where
      starts : CopyStarts a fs g depth top (top_copy text) 0
      starts = record {
        within = l;
        blocks = k;
        unit = refl;
        nests = sym (below-any depth fs (callees text)) ∙ shallow;
        labels = gl;
        back = λ y. absurd (no-function (kind_at a top) p y);
      }

      top-is : CopyIs a fs g top (top_copy text) ids
      top-is = copy-is a o fs (units-right a o f) g gu depth top (top_copy text) 0 0 (own_ids (value_count a top)) starts (λ y. absurd (no-function (kind_at a top) p y))
          (length-own_ids (value_count a top)) (λ v w n. own-named a o top l g v (named-left g.value_name 0 own inner gv) w)

      made-by : BlocksRead g blocks inner (no_text (value_count a top)) made
      made-by =
          blocks-read a o fs g (call_added depth a) (flat_copy depth fs) (copy_names depth a) (nests_below depth fs) (calls-read a o fs (units-right a o f) g gu depth) top (top_copy text) ids top-is
          (blocks_at a top)
          (units-right a o f top l k) starts.nests (no_text (value_count a top)) refl gl
          (moved g.value_name (0 + length own) (value_count a top) inner (zero_first (length own)) (named-right g.value_name 0 own inner gv))

    -- the names of its ids
    abbrev names : Naming
    names = record { unit_name = unit_name_at a; value_name = λ v. get_or (own ++ inner) v []; label_name = λ n. get_or (labels blocks) n [] }

    -- the same, with marks beyond them
    abbrev marked : Naming
    marked = record { unit_name = unit_name_at a; value_name = λ v. name_or_mark (own ++ inner) v; label_name = λ n. name_or_mark (labels blocks) n }

    made-reads : BlocksRead names blocks inner (no_text (value_count a top)) made
    made-reads = made-by names refl (named-all (labels blocks)) (named-all (own ++ inner))

    made-marked : BlocksRead marked blocks inner (no_text (value_count a top)) made
    made-marked = made-by marked refl (marked-all (labels blocks)) (marked-all (own ++ inner))

    all-values : made.values ≡ length (own ++ inner)
    all-values = made-reads.values ∙ sym (length-append own inner)

    all-blocks : length made.blocks ≡ length (labels blocks)
    all-blocks = long-by_text names [] made.blocks blocks made-reads.blocks ∙ zero_first (length blocks) ∙ sym (length-map blocks (λ (b : FlatBlockText). b.label))

    args-below : (xs : List Arg) → ArgsWithin (value_count a top) xs → Each (λ (x : Arg). x.value.0 < made.values) xs
    args-below [] w = tt
    args-below (x ∷ xs) w = (enough x.value.0 (value_count a top) (length inner) made.values w.0 made-reads.values, args-below xs w.1)
      where
        enough : (v c i n : ℕ) → v < c → n ≡ c + i → v < n
        enough v c i n h e = omega arith

    pub below : (t : Flat) → t.args ≡ args_at a top → t.blocks ≡ made.blocks → t.values ≡ made.values → IdsBelow t
    below t ea eb ev = record {
      args = subst (λ xs. Each (λ (x : Arg). x.value.0 < t.values) xs) (sym ea)
          (subst (λ n. Each (λ (x : Arg). x.value.0 < n) (args_at a top)) (sym ev) (args-below (args_at a top) (o.tables top l).args_within));
      blocks = blocks-below names marked t.values (length t.blocks) (λ v e. subst (λ n. v < n) (sym (ev ∙ all-values)) (inside (own ++ inner) v e))
          (λ b e. subst (λ n. b < n) (sym (ap length eb ∙ all-blocks)) (inside (labels blocks) b e))
          0 t.blocks (ap (read names) eb ∙ made-reads.blocks ∙ sym made-marked.blocks ∙ sym (ap (read marked) eb));
    }

    args-read : (xs : List Arg) → ArgsWithin (value_count a top) xs → map (arg_text names) xs ≡ map (arg_text (naming a top)) xs
    args-read [] w = refl
    args-read (x ∷ xs) w = cc (by x.value w.0, args-read xs w.1)
      where
        by : (v : ValueId) → v.0 < value_count a top → get_or (own ++ inner) v.0 [] ≡ value_name_at a top v.0
        by v h = get_or_append_left own inner [] v.0 h

    pub reads : (t : Flat) → t.args ≡ args_at a top → t.blocks ≡ made.blocks → t.values ≡ made.values → ReadsAs a t (record { args = text.args; blocks = blocks })
    reads t ea eb ev = record {
      naming = names;
      units = refl;
      says = texts (map (arg_text names) t.args) text.args (read names t.blocks) blocks (ap (map (arg_text names)) ea ∙ args-read (args_at a top) (o.tables top l).args_within)
          (ap (read names) eb ∙ made-reads.blocks);
      values = λ v w h j e. apart-at (own ++ inner) v w (process-values a o fs named (units-right a o f) (copy_names depth a) (copies-values a o fs named (units-right a o f) depth) top l k).0
          (subst (λ n. v < n) (ev ∙ all-values) h) (subst (λ n. w < n) (ev ∙ all-values) j) e;
      labels = λ i j h q e. apart-at (labels blocks) i j (unit-labels a o fs named (units-right a o f) depth (copies-labels a o fs named (units-right a o f) depth) top l k (top_copy text) refl).0
          (subst (λ n. i < n) (ap length eb ∙ all-blocks) h) (subst (λ n. j < n) (ap length eb ∙ all-blocks) q) e;
    }

  -- what is made for a process in which at most 64 calls nest reads as its flat text
  pub made_reads : nest_deeper max_nested fs (callees text) ≡ false → (t : Flat) → IsMade a top t → ReadsAs a t (text_of fs text)
  made_reads h t m = reads max_nested h t m.args m.blocks m.values

  pub made_below : nest_deeper max_nested fs (callees text) ≡ false → (t : Flat) → IsMade a top t → IdsBelow t
  made_below h t m = below max_nested h t m.args m.blocks m.values

process-blocks : (k : Option UnitKind) → k ≡ Some kind.Proc → HasBlocks k
process-blocks k e = subst HasBlocks (sym e) tt

-- each answer, by the measure of the process
module _ (a : Arena) (g h : List CallNode) (top : ℕ) (o : IsArena a) (f : IsFaultless (contents a)) (q : IsGraph a h) (e : g ≡ h) (l : top < unit_count a) (p : kind_at a top ≡ Some kind.Proc) where
  graph : IsGraph a g
  graph = subst (IsGraph a) (sym e) q

  pub flat-refused : (x : DescentFault) → Measures measuring g top (Err x) → Flattens a top (Err (fault_of x))
  flat-refused x m = Refuses-measured a g top o f graph l p x m

  pub flat-deep : (m : CallMeasure) → Measures measuring g top (Ok m) → 65 < m.depth → flat_of (contents a) (unit_text_at a top) ≡ refused call_too_deep
  flat-deep m w d = Refuses-deep a g top o f graph l p m w (lt-ltb 65 m.depth d)

  pub flat-large : (m : CallMeasure) → Measures measuring g top (Ok m) → m.depth ≤ 65 → 65536 < m.insts → flat_of (contents a) (unit_text_at a top) ≡ refused flat_too_large
  flat-large m w d n = Refuses-large a g top o f graph l p m w (le-ltb 65 m.depth d) (lt-ltb 65536 m.insts n)

  pub flat-made : UnitsAreNamed a → (m : CallMeasure) → Measures measuring g top (Ok m) → m.depth ≤ 65 → m.insts ≤ 65536 → (b : Arena) (u : UnitId) (t : Flat) → b ≡ a → u.0 ≡ top → IsMade b u.0 t
      → Flattens a top (Ok t)
  flat-made n m w d i b u t eb eu t-made = (
    text_of (functions (contents a)) (unit_text_at a top),
    Flattens-measured a g top o f graph l p m w (le-ltb 65 m.depth d) (le-ltb 65536 m.insts i),
    made_reads a o f n top l (process-blocks (kind_at a top) p) p (not-deep a g top o f graph l p m w (le-ltb 65 m.depth d)) t
        (subst (λ x. IsMade a x t) eu (subst (λ x. IsMade x u.0 t) eb t-made)),
  )

  pub flat-below : UnitsAreNamed a → (m : CallMeasure) → Measures measuring g top (Ok m) → m.depth ≤ 65 → (b : Arena) (u : UnitId) (t : Flat) → b ≡ a → u.0 ≡ top → IsMade b u.0 t → IdsBelow t
  flat-below n m w d b u t eb eu t-made =
      made_below a o f n top l (process-blocks (kind_at a top) p) p (not-deep a g top o f graph l p m w (le-ltb 65 m.depth d)) t
      (subst (λ x. IsMade a x t) eu (subst (λ x. IsMade x u.0 t) eb t-made))

  -- where the process itself has no more values than this, ids are left for all that is copied
  pub flat-room : IsSpelled (contents a) → (m : CallMeasure) → Measures measuring g top (Ok m) → m.depth ≤ 65 → m.insts ≤ 65536 → (b : Arena) (u : UnitId) (n : ℕ) → b ≡ a → u.0 ≡ top
      → n ≡ value_count b u.0 → n ≤ 4294901759 → TopHasRoom b u.0
  flat-room s m w d i b u n eb eu en h =
      subst (λ x. TopHasRoom x u.0) (sym eb) (subst (TopHasRoom a) (sym eu)
      (top-room a o (functions (contents a)) (units-right a o f) (units-end a o (s, f)) 65 top l (process-blocks (kind_at a top) p)
      (subst (λ x. x ≤ 4294901759) (en ∙ ap (λ x. value_count x u.0) eb ∙ ap (value_count a) eu) h) refl
      (length-few a g top o f graph l p m w (le-ltb 65 m.depth d) 65 refl i)))
