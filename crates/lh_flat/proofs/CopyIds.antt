-- The new ids of a copy have the names that the copy gives: its pieces, its parameters, and what it gives back.
use Rattle.std.proofs.Common.{◌≡◌, ℕ, suc, ◌+◌, ◌<◌, ◌⊎◌, inl, inr, true, false, Bool, ◌||◌, List, [], ◌∷◌, length, get_or, set, map, Option, Some, None, refl, ap, sym, ◌∙◌, subst, arith}
use Rattle.std.specs.List.{list_any, flat_map}
use Rattle.std.specs.Option.{option_map_or}
use Rattle.std.proofs.lemmas.List.{length-append, length-set, get_or-set_same, get_or-set_other}
use Rattle.lh_unit_names.specs.declared.name.UnitName.{UnitName}
use Rattle.lh_unit.specs.Contents.{LineText, UnitText}
use Rattle.lh_unit.specs.Named.{label_or}
use Rattle.lh_unit.specs.Hierarchy.{lines_of}
use Rattle.lh_unit.specs.Naming.{Naming, block_text, label_text}
use Rattle.lh_unit.specs.Table.{insts_at, is_block, HasBlocks}
use Rattle.lh_unit.specs.Within.{Each}
use Rattle.lh_unit.specs.Arena.{Arena, table_at, naming, label_count, unit_name_at, label_name_at, unit_text_at, kind_at}
use Rattle.lh_unit.specs.declared.inst.UnitId.{UnitId}
use Rattle.lh_unit.specs.declared.inst.BlockId.{BlockId}
use Rattle.lh_unit.specs.declared.inst.InstId.{InstId}
use Rattle.lh_unit.proofs.Lists.{Same, same, other, same_or, nat_eq-other}
use Rattle.lh_unit.proofs.Defined.{label_text-named}
use Rattle.lh_flat.specs.declared.rename.Span.{Span}
use Rattle.lh_flat.specs.Graph.{callee_of}
use Rattle.lh_flat.specs.Calls.{callees_in}
use Rattle.lh_flat.specs.Copies.{Copy, call_path, copy_at, opened, first_piece, last_from, last_piece}
use Rattle.lh_flat.specs.Flat.{FlatBlockText, Pieces, merge_of, with_line, pieces_from, in_order, flat_block}
use Rattle.lh_flat.specs.Renames.{no_span}
use Rattle.lh_flat.specs.Building.{line_of, insts_room, block_room, blocks_room, span_at, spans_with}
use Rattle.lh_flat.specs.CopyNames.{NamedFrom, IsCallable, InstIsRight, BlockIsRight}
use Rattle.lh_flat.proofs.NumberNames.{labels, labels-left, labels-right, moved}
use Rattle.lh_flat.proofs.BlockCopies.{line_text_of, arg_names, opened-none, opened-some, Tested, tested, callees-append, any-append, block-named}

plus_none : (n : ℕ) → n + 0 ≡ n
plus_none n = omega arith

further : (n c m : ℕ) → n + 1 + c + m ≡ n + (c + suc m)
further n c m = omega arith

-- the label of the last piece of a block
pub last-label : (copy_of : Copy → List FlatBlockText) (fs : List UnitText) (g : Naming) (c : Copy) (label : List ℕ) (ls : List LineText) (k n : ℕ) (here : List ℕ) → g.label_name n ≡ here
    → NamedFrom g.label_name (n + 1) (labels (pieces_from copy_of fs c label k ls).more) →
    g.label_name (n + length (pieces_from copy_of fs c label k ls).more) ≡ last_from fs c label here k ls
last-label copy_of fs g c label [] k n here e h = ap g.label_name (plus_none n) ∙ e
last-label copy_of fs g c label (l ∷ ls) k n here e h = by (opened fs c (call_path c label k) l.inst) (λ m there f q. last-label copy_of fs g c label ls (k + 1) m there f q) h
  where
    by : (w : Option Copy) → ((m : ℕ) (there : List ℕ) → g.label_name m ≡ there → NamedFrom g.label_name (m + 1) (labels (pieces_from copy_of fs c label (k + 1) ls).more)
        → g.label_name (m + length (pieces_from copy_of fs c label (k + 1) ls).more) ≡ last_from fs c label there (k + 1) ls) →
        NamedFrom g.label_name (n + 1) (labels (with_line copy_of fs c l w (pieces_from copy_of fs c label (k + 1) ls)).more) →
        g.label_name (n + length (with_line copy_of fs c l w (pieces_from copy_of fs c label (k + 1) ls)).more) ≡ last_from fs c label (option_map_or (λ (d : Copy). d.path) w here) (k + 1) ls
    by None ih q = ih n here e q
    by (Some d) ih q =
        let p : Pieces = pieces_from copy_of fs c label (k + 1) ls in
        let D : FlatBlockText = record { label = d.path; merge = merge_of fs c d l.inst l.result; lines = p.rest } in
        let right : NamedFrom g.label_name (n + 1 + length (copy_of d)) (labels (D ∷ p.more)) = labels-right g.label_name (n + 1) (copy_of d) (D ∷ p.more) q in
        ap g.label_name (ap (λ m. n + m) (length-append (copy_of d) (D ∷ p.more)) ∙ sym (further n (length (copy_of d)) (length p.more)))
        ∙ ih (n + 1 + length (copy_of d)) d.path right.0 right.1

-- how many blocks the pieces of blocks are, where each call takes as much room as its copy
abbrev pub RoomIs : (a : Arena) (fs : List UnitText) (copy_of : Copy → List FlatBlockText) (room : Option UnitId → ℕ) (test : UnitName → Bool) → Type 0
RoomIs a fs copy_of room test = (f : UnitId) (path : List ℕ) (args : List (List ℕ)) → IsCallable a fs f → test (unit_name_at a f.0) ≡ false
    → length (copy_of (copy_at path args (unit_text_at a f.0))) + 1 ≡ room (Some f)

-- the pieces of a block have the labels that the copy gives
abbrev pub SpanIsRight : (a : Arena) (fs : List UnitText) (g : Naming) (u : ℕ) (c : Copy) → List Span → BlockId → Type 0
SpanIsRight a fs g u c ss b =
    (g.label_name (get_or ss b.0 no_span).first.0 ≡ first_piece c (label_name_at a u b.0))
    × (g.label_name (get_or ss b.0 no_span).last.0 ≡ last_piece fs c (block_text (naming a u) (table_at a u) b))

module _ (a : Arena) (fs : List UnitText) (copy_of : Copy → List FlatBlockText) (room : Option UnitId → ℕ) (test : UnitName → Bool) (none : room None ≡ 0) (some : RoomIs a fs copy_of room test) where
  one_call : (x m n s : ℕ) → x + 1 ≡ s → m ≡ n → x + suc m ≡ s + n
  one_call x m n s e f = omega arith

  no_call : (m n z : ℕ) → z ≡ 0 → m ≡ n → m ≡ z + n
  no_call m n z e f = omega arith

  pub insts-room : (u : ℕ) (c : Copy) (label : List ℕ) (is : List InstId) → Each (λ (i : InstId). InstIsRight a fs u (line_of a u i).inst) is → (k : ℕ)
      → list_any test (callees_in (map (line_text_of a u) is)) ≡ false →
      length (pieces_from copy_of fs c label k (map (line_text_of a u) is)).more ≡ insts_room room a u is
  insts-room u c label [] w k q = refl
  insts-room u c label (i ∷ is) w k q =
      by (callee_of a (line_of a u i).inst) refl (tested test a u (line_of a u i).inst (callees_in (map (line_text_of a u) is)) q).0
      (insts-room u c label is w.1 (k + 1) (tested test a u (line_of a u i).inst (callees_in (map (line_text_of a u) is)) q).1)
    where
      by : (x : Option UnitId) → callee_of a (line_of a u i).inst ≡ x → Tested test a x →
          length (pieces_from copy_of fs c label (k + 1) (map (line_text_of a u) is)).more ≡ insts_room room a u is →
          length (with_line copy_of fs c (line_text_of a u i) (opened fs c (call_path c label k) (line_text_of a u i).inst) (pieces_from copy_of fs c label (k + 1) (map (line_text_of a u) is))).more
          ≡ room x + insts_room room a u is
      by None e z ih =
          let p : Pieces = pieces_from copy_of fs c label (k + 1) (map (line_text_of a u) is) in
          ap (λ w. length (with_line copy_of fs c (line_text_of a u i) w p).more) (opened-none a fs u c (call_path c label k) (line_of a u i).inst e)
          ∙ no_call (length p.more) (insts_room room a u is) (room None) none ih
      by (Some f) e z ih =
          let p : Pieces = pieces_from copy_of fs c label (k + 1) (map (line_text_of a u) is) in
          let l : LineText = line_text_of a u i in
          let d : Copy = copy_at (call_path c label k) (arg_names c l.inst) (unit_text_at a f.0) in
          ap (λ w. length (with_line copy_of fs c l w p).more) (opened-some a fs u c (call_path c label k) (line_of a u i).inst f e (w.0.called f e).named)
          ∙ length-append (copy_of d) (record { label = d.path; merge = merge_of fs c d l.inst l.result; lines = p.rest } ∷ p.more)
          ∙ one_call (length (copy_of d)) (length p.more) (insts_room room a u is) (room (Some f)) (some f (call_path c label k) (arg_names c l.inst) (w.0.called f e) z) ih

  more_blocks : (m n r s : ℕ) → m ≡ r → n ≡ s → suc m + n ≡ r + 1 + s
  more_blocks m n r s e f = omega arith

  pub blocks-room : (u : ℕ) (c : Copy) (bs : List BlockId) → HasBlocks (kind_at a u) → Each (BlockIsRight a fs u) bs
      → list_any test (callees_in (lines_of (map (block_text (naming a u) (table_at a u)) bs))) ≡ false →
      length (flat_map (flat_block copy_of fs c) (map (block_text (naming a u) (table_at a u)) bs)) ≡ blocks_room room a u bs
  blocks-room u c [] k w q = refl
  blocks-room u c (x ∷ bs) k w q =
      let is : List InstId = insts_at (table_at a u) x.0 in
      let qs : (list_any test (callees_in (map (line_text_of a u) is)) ≡ false) × (list_any test (callees_in (lines_of (map (block_text (naming a u) (table_at a u)) bs))) ≡ false) =
      any-append test (callees_in (map (line_text_of a u) is)) (callees_in (lines_of (map (block_text (naming a u) (table_at a u)) bs)))
      (ap (list_any test) (sym (callees-append (map (line_text_of a u) is) (lines_of (map (block_text (naming a u) (table_at a u)) bs)))) ∙ q) in
      length-append (flat_block copy_of fs c (block_text (naming a u) (table_at a u) x)) (flat_map (flat_block copy_of fs c) (map (block_text (naming a u) (table_at a u)) bs))
      ∙ more_blocks (length (pieces_from copy_of fs c (label_or (label_text (naming a u) (kind_at a u) x)) 0 (map (line_text_of a u) is)).more) (length
      (flat_map (flat_block copy_of fs c) (map (block_text (naming a u) (table_at a u)) bs)))
      (insts_room room a u is) (blocks_room room a u bs)
      (insts-room u c (label_or (label_text (naming a u) (kind_at a u) x)) is w.0 0 qs.0) (blocks-room u c bs k w.1 qs.1)

  before_next : (n m k : ℕ) → m ≡ k → n + suc m ≡ n + (k + 1)
  before_next n m k e = omega arith

  -- a span is set
  span-set : (g : Naming) (u : ℕ) (c : Copy) (ss : List Span) (S : Span) (x b : BlockId) (bs : List BlockId) → b.0 < length ss →
      (g.label_name S.first.0 ≡ first_piece c (label_name_at a u x.0)) × (g.label_name S.last.0 ≡ last_piece fs c (block_text (naming a u) (table_at a u) x)) → Same x.0 b.0 →
      (is_block (x ∷ bs) b.0 ≡ true) ⊎ SpanIsRight a fs g u c ss b → (is_block bs b.0 ≡ true) ⊎ SpanIsRight a fs g u c (set ss x.0 S) b
  span-set g u c ss S x b bs l r (same e) y =
      let s : get_or (set ss x.0 S) x.0 no_span ≡ S = get_or-set_same ss x.0 S no_span (omega (arith, e, l)) in
      let right : SpanIsRight a fs g u c (set ss x.0 S) x = (ap (λ (z : Span). g.label_name z.first.0) s ∙ r.0, ap (λ (z : Span). g.label_name z.last.0) s ∙ r.1) in
      let alike : x ≡ b = λ i. record { 0 = e i } in
      inr (subst (λ z. SpanIsRight a fs g u c (set ss x.0 S) z) alike right)
  span-set g u c ss S x b bs l r (other o) (inl y) = inl (sym (ap (λ z. z || is_block bs b.0) (nat_eq-other x.0 b.0 o)) ∙ y)
  span-set g u c ss S x b bs l r (other o) (inr s) =
      let e : get_or (set ss x.0 S) b.0 no_span ≡ get_or ss b.0 no_span = get_or-set_other ss x.0 b.0 S no_span (λ z. o (sym z)) in
      inr (ap (λ (z : Span). g.label_name z.first.0) e ∙ s.0, ap (λ (z : Span). g.label_name z.last.0) e ∙ s.1)

  pub spans-right : (g : Naming) (u : ℕ) (c : Copy) (b : BlockId) → HasBlocks (kind_at a u) → b.0 < label_count a u → (bs : List BlockId) → Each (BlockIsRight a fs u) bs
      → list_any test (callees_in (lines_of (map (block_text (naming a u) (table_at a u)) bs))) ≡ false →
      (at : ℕ) (ss : List Span) → length ss ≡ label_count a u →
      NamedFrom g.label_name at (labels (flat_map (flat_block copy_of fs c) (map (block_text (naming a u) (table_at a u)) bs))) →
      (is_block bs b.0 ≡ true) ⊎ SpanIsRight a fs g u c ss b → SpanIsRight a fs g u c (spans_with room a u at bs ss) b
  spans-right g u c b k l [] w q at ss long h (inl e) = cc
  spans-right g u c b k l [] w q at ss long h (inr s) = s
  spans-right g u c b k l (x ∷ bs) w q at ss long h y =
      let is : List InstId = insts_at (table_at a u) x.0 in
      let m : List ℕ = label_name_at a u x.0 in
      let P : Pieces = pieces_from copy_of fs c m 0 (map (line_text_of a u) is) in
      let X : List FlatBlockText = flat_block copy_of fs c (block_text (naming a u) (table_at a u) x) in
      let Y : List FlatBlockText = flat_map (flat_block copy_of fs c) (map (block_text (naming a u) (table_at a u)) bs) in
      let S : Span = span_at at (insts_room room a u is) in
      let qs : (list_any test (callees_in (map (line_text_of a u) is)) ≡ false) × (list_any test (callees_in (lines_of (map (block_text (naming a u) (table_at a u)) bs))) ≡ false) =
      any-append test (callees_in (map (line_text_of a u) is)) (callees_in (lines_of (map (block_text (naming a u) (table_at a u)) bs)))
      (ap (list_any test) (sym (callees-append (map (line_text_of a u) is) (lines_of (map (block_text (naming a u) (table_at a u)) bs)))) ∙ q) in
      let size : length P.more ≡ insts_room room a u is = insts-room u c m is w.0 0 qs.0 in
      let labelled : label_or (label_text (naming a u) (kind_at a u) x) ≡ m = ap label_or (label_text-named (naming a u) (kind_at a u) x k) in
      let named : X ≡ in_order c m P = block-named a fs copy_of u c x k in
      let here : NamedFrom g.label_name at (labels (in_order c m P)) = subst (λ zs. NamedFrom g.label_name at (labels zs)) named (labels-left g.label_name at X Y h) in
      let last : g.label_name (at + insts_room room a u is) ≡ last_piece fs c (block_text (naming a u) (table_at a u) x) =
      ap (λ n. g.label_name (at + n)) (sym size) ∙ last-label copy_of fs g c m (map (line_text_of a u) is) 0 at (first_piece c m) here.0 here.1
      ∙ ap (λ n. last_from fs c n (first_piece c n) 0 (map (line_text_of a u) is)) (sym labelled) in
      spans-right g u c b k l bs w.1 qs.1 (at + block_room room a u x) (set ss x.0 S) (length-set ss x.0 S ∙ long)
      (moved g.label_name (at + length X) (at + block_room room a u x) (labels Y)
      (ap (λ (zs : List FlatBlockText). at + length zs) named ∙ before_next at (length P.more) (insts_room room a u is) size) (labels-right g.label_name at X Y h))
      (span-set g u c ss S x b bs (subst (λ n. b.0 < n) (sym long) l) (here.0, last) (same_or x.0 b.0) y)
