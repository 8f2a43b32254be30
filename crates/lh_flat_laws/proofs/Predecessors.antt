-- A `phi` of a flat text names each block that leads to its own.
use Rattle.std.proofs.Common.{◌≡◌, ℕ, zero, suc, ◌+◌, List, [], ◌∷◌, ◌++◌, Bool, true, false, cond, Option, Some, None, refl, ap, sym, ◌∙◌, inl, inr, subst, arith}
use Rattle.std.specs.Option.{option_map_or}
use Rattle.std.proofs.lemmas.List.Sums.{sum_by-cons}
use Rattle.std.proofs.lemmas.Bool.{both_ways}
use Rattle.lh_types.specs.Types.{TypeTree}
use Rattle.lh_unit.specs.Contents.{OperandText, EdgeText, InstText, const_text, pure_text, var_text, ld_text, st_text, sig_text, prb_text, drv_text, reg_text, child_text, call_text, phi_text, br_text, branch_text, wait_text, halt_text, ret_text, LineText, BlockText, UnitText}
use Rattle.lh_unit_names.specs.Names.{same_name}
use Rattle.lh_unit.specs.Named.{block_of, label_or}
use Rattle.lh_unit.specs.Places.{has_edge}
use Rattle.lh_unit.specs.WellFormed.{is_phi, edges_naming}
use Rattle.lh_unit_names.proofs.NameLists.{same_name-is}
use Rattle.lh_flat.specs.Copies.{Copy, top_copy, first_piece, last_piece, last_piece_of, copied_edge, copied}
use Rattle.lh_flat.specs.Flat.{MergeText, given_in, given_by, edge_if_given, first_label, merge_of, flat_copy, with_merge, as_block}
use Rattle.lh_flat_laws.proofs.Cuts.{Cut, cut, behind, lines-cut}
use Rattle.lh_flat_laws.proofs.CopyPieces.{CopyPiece, next_cut, next_lines, first_copy_piece, after_copy_piece, CopyPieceOf, begins, goes_on, Nested, outermost, called, flat_copy_piece}
use Rattle.lh_flat_laws.proofs.Splits.{LineOf, is_merge, is_copied, is_branch, line-of}
use Rattle.lh_flat_laws.proofs.Paths.{IsGood, CallIsGood, Step, jumps, returns, enters, copy_piece-block, copy_piece-lines, nested-right, LeadsOn, into, within_unit, back_from, leads-on}
use Rattle.lh_flat_laws.proofs.Phis.{own-last, phi-of, PhisAreGood, no-branch, nothing-is, merge-edges}
use Rattle.lh_flat_laws.specs.Members.{Among}
use Rattle.lh_flat_laws.proofs.Members.{among-left, among-right, among-flat, among-image}

-- an edge of these names the block
abbrev pub Names : List EdgeText → List ℕ → Type 0
Names es n = (e : EdgeText) × Among e es × (e.block ≡ n)

-- one that is counted is there
pub counted-named : (n : List ℕ) (es : List EdgeText) → edges_naming n es ≡ 1 → Names es n
counted-named n [] h = absurd (omega (arith, h))
counted-named n (e ∷ es) h = by (same_name e.block n) refl (sym (sum_by-cons (λ (y : EdgeText). cond (same_name y.block n) 1 0) e es) ∙ h) (counted-named n es)
  where
    by : (b : Bool) → same_name e.block n ≡ b → cond b 1 0 + edges_naming n es ≡ 1 → (edges_naming n es ≡ 1 → Names es n) → Names (e ∷ es) n
    by true q r go = (e, inl refl, same_name-is e.block n q)
    by false q r go = let m = go (omega (arith, r)) in (m.0, inr m.1, m.2)

-- what a `ret` with a value gives is given by the copy
pub given-here : (d : Copy) (label : List ℕ) (before after : List LineText) (l : LineText) (o : OperandText) → l.inst ≡ ret_text (Some o) → (e : EdgeText)
    × Among e (given_in d label (before ++ l ∷ after)) × (e.block ≡ label)
given-here d label [] after l o i = (
  record { value = d.value o.value; block = label },
  subst (λ i. Among (record { value = d.value o.value; block = label }) (edge_if_given d label i (given_in d label after))) (sym i) (inl refl),
  refl,
)
given-here d label (x ∷ before) after l o i = let r = given-here d label before after l o i in (r.0, more x.inst r.0 r.1, r.2)
  where
    more : (i : InstText) (e : EdgeText) → Among e (given_in d label (before ++ l ∷ after)) → Among e (edge_if_given d label i (given_in d label (before ++ l ∷ after)))
    more (ret_text (Some o)) e a = inr a
    more (ret_text None) e a = a
    more (const_text x) e a = a
    more (pure_text x y) e a = a
    more (var_text x) e a = a
    more (ld_text x) e a = a
    more (st_text x y) e a = a
    more (sig_text x) e a = a
    more (prb_text x) e a = a
    more (drv_text x y z w) e a = a
    more (reg_text x y) e a = a
    more (child_text x y z) e a = a
    more (call_text x y z) e a = a
    more (phi_text x y) e a = a
    more (br_text x) e a = a
    more (branch_text x y z) e a = a
    more (wait_text x y z) e a = a
    more halt_text e a = a

module _ (fs : List UnitText) (u x : UnitText) (args : x.args ≡ u.args)
    (good : (k : ℕ) (c : Copy) → Nested fs u k c → IsGood fs c.unit) (calls : (k : ℕ) (c : Copy) → Nested fs u k c → (s : CopyPiece) → CopyPieceOf fs c s → (z : Cut) → next_cut fs c s ≡ Some z
    → CallIsGood fs c z)
    (deep : (c : Copy) → Nested fs u zero c → (s : CopyPiece) → CopyPieceOf fs c s → (z : Cut) → next_cut fs c s ≡ Some z → ⊥)
    (no_ret : (b : BlockText) (before after : List LineText) (l : LineText) → Among b u.blocks → b.lines ≡ before ++ l ∷ after → (o : Option OperandText) → l.inst ≡ ret_text o → ⊥)
    (phis : (k : ℕ) (c : Copy) → Nested fs u k c → PhisAreGood c.unit)
    (naming : (k : ℕ) (c : Copy) → Nested fs u k c → (d b : BlockText) (before after : List LineText) (l : LineText) (ty : TypeTree) (es : List EdgeText) → Among d c.unit.blocks
    → d.lines ≡ before ++ l ∷ after → l.inst ≡ phi_text ty es
    → Among b c.unit.blocks → has_edge b (label_or d.label) ≡ true → edges_naming (label_or b.label) es ≡ 1)
    (self : (k : ℕ) (c : Copy) → Nested fs u k c → (b : BlockText) → Among b c.unit.blocks → block_of (label_or b.label) c.unit.blocks ≡ Some b)
    (returned : (k : ℕ) (c : Copy) → Nested fs u (suc k) c → (s : CopyPiece) → CopyPieceOf fs c s → (z : Cut) → next_cut fs c s ≡ Some z → (m : MergeText)
    → merge_of fs c z.copy z.line.inst z.line.result ≡ Some m
    → (b : BlockText) (before after : List LineText) (l : LineText) → Among b z.copy.unit.blocks → b.lines ≡ before ++ l ∷ after → (o : Option OperandText) → l.inst ≡ ret_text o → (a : OperandText)
    × (o ≡ Some a)) where
  -- a block of the flat text, as a piece
  pub record CopyPieceAt (y : BlockText) : Type 0 where
    pub depth : ℕ
    pub copy : Copy
    pub nested : Nested fs u depth copy
    pub piece : CopyPiece
    pub of : CopyPieceOf fs copy piece
    pub is : y ≡ as_block (flat_copy_piece fs depth copy piece)

  -- the piece to which it leads
  pub record Onward (m : List ℕ) (c0 : Copy) (s0 : CopyPiece) : Type 0 where
    pub depth : ℕ
    pub copy : Copy
    pub nested : Nested fs u depth copy
    pub piece : CopyPiece
    pub of : CopyPieceOf fs copy piece
    pub is : piece.label ≡ m
    pub step : Step fs u x args c0 s0 copy piece

  into-copy : (m : List ℕ) (k : ℕ) (c : Copy) (n : Nested fs u k c) (s : CopyPiece) (h : CopyPieceOf fs c s) (z : Cut) → next_cut fs c s ≡ Some z
      → m ≡ first_piece z.copy (first_label z.copy.unit.blocks) → Onward m c s
  into-copy m zero c n s h z e r = elim (deep c n s h z e) [ ]
  into-copy m (suc k) c n s h z e r =
      let b = (calls (suc k) c n s h z e).entry in
      record {
        depth = k;
        copy = z.copy;
        nested = called k c n s h z e;
        piece = first_copy_piece fs z.copy b.0;
        of = begins b.0 (subst (λ bs. Among b.0 bs) (sym b.2) (inl refl));
        is = sym (r ∙ ap (λ bs. first_piece z.copy (first_label bs)) b.2);
        step = enters z e b.0 b.1 b.2;
      }

  out-of-copy : (m : List ℕ) (k : ℕ) (c : Copy) (n : Nested fs u k c) (s : CopyPiece) → CopyPieceOf fs c s → next_cut fs c s ≡ None → (before : List LineText) (l : LineText) (o : Option OperandText)
      → s.block.lines ≡ before ++ l ∷ [] → l.inst ≡ ret_text o → m ≡ c.path → Onward m c s
  out-of-copy m _ _ outermost s h none before l o q i r = elim (no_ret s.block before [] l (copy_piece-block fs (top_copy u) s h).0 q o i) [ ]
  out-of-copy m _ _ (called k c n s' h' z e) s h none before l o q i r = record {
    depth = suc k;
    copy = c;
    nested = n;
    piece = after_copy_piece fs c s' z;
    of = goes_on s' h' z e;
    is = sym r;
    step = returns (suc k) c n s' h' z e refl none (record { before = before; line = l; operand = o; splits = q; ret = i });
  }

  pub onward : (y : BlockText) (at : CopyPieceAt y) (m : List ℕ) → has_edge y m ≡ true → Onward m at.copy at.piece
  onward y at m h = by (leads-on fs y at.depth at.copy at.piece at.of at.is (good at.depth at.copy at.nested) m h)
    where
      by : LeadsOn fs y at.depth at.copy at.piece at.of at.is m → Onward m at.copy at.piece
      by (into z e r) = into-copy m at.depth at.copy at.nested at.piece at.of z e r
      by (within_unit e d a edge r) = record { depth = at.depth; copy = at.copy; nested = at.nested; piece = first_copy_piece fs at.copy d; of = begins d a; is = r; step = jumps d a e edge }
      by (back_from e before l o q i r) = out-of-copy m at.depth at.copy at.nested at.piece at.of e before l o q i r

  module _ (last : BlockText) (at : CopyPieceAt last) where
    block-is : Among at.piece.block at.copy.unit.blocks
    block-is = (copy_piece-block fs at.copy at.piece at.of).0

    label-is : label_or last.label ≡ at.piece.label
    label-is = ap (λ (b : BlockText). label_or b.label) at.is

    within-copy : next_cut fs at.copy at.piece ≡ None → (d : BlockText) → Among d at.copy.unit.blocks → has_edge at.piece.block (label_or d.label) ≡ true
        → (before after : List LineText) (k : LineText) → d.lines ≡ before ++ k ∷ after
        → (ty : TypeTree) (es : List EdgeText) → copied fs at.copy k.inst ≡ phi_text ty es → Names es (label_or last.label)
    within-copy none d b edge before after k q ty es i =
        let f = phi-of fs at.copy k.inst ty es i in
        let m = counted-named (label_or at.piece.block.label) f.edges (naming at.depth at.copy at.nested d at.piece.block before after k f.ty f.edges b q f.is block-is edge) in
        let ends : last_piece_of fs at.copy m.0.block ≡ label_or last.label =
        ap (last_piece_of fs at.copy) m.2 ∙ ap (λ o. option_map_or (last_piece fs at.copy) o (first_piece at.copy (label_or at.piece.block.label))) (self at.depth at.copy at.nested at.piece.block
        block-is) ∙ sym (own-last fs at.copy at.piece at.of none) ∙ sym label-is in
        (copied_edge fs at.copy m.0, subst (λ xs. Among (copied_edge fs at.copy m.0) xs) (sym f.copies) (among-image (copied_edge fs at.copy) f.edges m.0 m.1), ends)

    -- the merge behind a call names the block of a `ret`
    from-ret : next_cut fs at.copy at.piece ≡ None → (b : BlockText) (before after : List LineText) (l : LineText) (a : OperandText) → at.piece.block ≡ b → b.lines ≡ before ++ l ∷ after
        → l.inst ≡ ret_text (Some a) → (es : List EdgeText) → es ≡ given_by fs at.copy → Names es (label_or last.label)
    from-ret none b before after l a one q i es e =
        let g = given-here at.copy (last_piece fs at.copy b) before after l a i in (
          g.0,
          subst (λ xs. Among g.0 xs) (sym e) (among-flat (λ (b : BlockText). given_in at.copy (last_piece fs at.copy b) b.lines) at.copy.unit.blocks b g.0
              (subst (λ x. Among x at.copy.unit.blocks) one block-is) (subst (λ ls. Among g.0 (given_in at.copy (last_piece fs at.copy b) ls)) (sym q) g.1)),
          g.2 ∙ ap (last_piece fs at.copy) (sym one) ∙ sym (own-last fs at.copy at.piece at.of none) ∙ sym label-is,
        )

    -- the `phi` of the block to which the path goes on
    pub names-last : (y : BlockText) (before after : List LineText) (l : LineText) (ty : TypeTree) (es : List EdgeText) → y.lines ≡ before ++ l ∷ after → l.inst ≡ phi_text ty es
        → (k : ℕ) (c : Copy) (n : Nested fs u k c) (s : CopyPiece) → CopyPieceOf fs c s → y ≡ as_block (flat_copy_piece fs k c s) → Step fs u x args at.copy at.piece c s
        → Names es (label_or last.label)
    names-last y before after l ty es q i k c n s h is step =
        by (line-of fs c s (flat_copy k fs) before after l (sym (ap (λ (b : BlockText). b.lines) is ∙ ap (with_merge s.merge) (copy_piece-lines fs u x args good calls deep no_ret k c s)) ∙ q)) step
      where
        by : LineOf fs c s before l → Step fs u x args at.copy at.piece c s → Names es (label_or last.label)
        by (is_branch z r f) st = elim (no-branch z.copy l ty es f i) [ ]
        by (is_merge m r f b) st = merge-step st m r (ap (λ (j : LineText). j.inst) (sym f) ∙ i)
          where
            edges-are : (m : MergeText) → phi_text m.ty m.edges ≡ phi_text ty es → m.edges ≡ es
            edges-are m g = cc

            merge-step : {c' : Copy} {s' : CopyPiece} → Step fs u x args at.copy at.piece c' s' → (m : MergeText) → s'.merge ≡ Some m → phi_text m.ty m.edges ≡ phi_text ty es
                → Names es (label_or last.label)
            merge-step (jumps d b none edge) m r g = elim (nothing-is m r) [ ]
            merge-step (enters z r' b more bs) m r g = elim (nothing-is m r) [ ]
            merge-step (returns zero c' n' s' h' z r' zc none ret) m r g = elim (deep c' n' s' h' z r') [ ]
            merge-step (returns (suc k') c' n' s' h' z r' zc none ret) m r g =
                let a = returned k' c' n' s' h' z r' m r at.piece.block ret.before [] ret.line (subst (λ (d : Copy). Among at.piece.block d.unit.blocks) (sym zc) block-is) ret.splits ret.operand
                ret.ret in
                from-ret none at.piece.block ret.before [] ret.line a.0 refl ret.splits (ret.ret ∙ ap ret_text a.1) es
                (sym (edges-are m g) ∙ merge-edges fs c' z.copy z.line.inst z.line.result m r ∙ ap (given_by fs) zc)
        by (is_copied start j rest r f b) st = copied-step st start j rest r (ap (λ (j : LineText). j.inst) (sym f) ∙ i) h n
          where
            copied-step : {c' : Copy} {s' : CopyPiece} → Step fs u x args at.copy at.piece c' s' → (start : List LineText) (j : LineText) (rest : List LineText)
                → next_lines fs c' s' ≡ start ++ j ∷ rest → copied fs c' j.inst ≡ phi_text ty es → CopyPieceOf fs c' s' → Nested fs u k c' → Names es (label_or last.label)
            copied-step (jumps d b none edge) start j rest r g h' n' =
                within-copy none d b edge start _ j (lines-cut fs at.copy (label_or d.label) 0 d.lines
                ∙ ap (λ ls. ls ++ behind fs at.copy (label_or d.label) (cut fs at.copy (label_or d.label) 0 d.lines)) r ∙ nested-right start (j ∷ rest) _) ty es g
            copied-step (enters z r' b more bs) start j rest r g h' n' =
                let f = phi-of fs z.copy j.inst ty es g in
                let no : is_phi j.inst ≡ false = (phis k z.copy n').entry b more bs start _ j (lines-cut fs z.copy (label_or b.label) 0 b.lines
                ∙ ap (λ ls. ls ++ behind fs z.copy (label_or b.label) (cut fs z.copy (label_or b.label) 0 b.lines)) r ∙ nested-right start (j ∷ rest) _) in
                elim (both_ways (is_phi j.inst) no (ap is_phi f.is)) [ ]
            copied-step (returns k' c' n0 s' h0 z r' zc none ret) start j rest r g h' n' =
                let f = phi-of fs c' j.inst ty es g in
                let lines : s'.block.lines ≡ (((s'.before ++ next_lines fs c' s') ++ z.line ∷ []) ++ start) ++ j
                ∷ (rest ++ behind fs c' (label_or s'.block.label) (cut fs c' (label_or s'.block.label) (z.number + 1) z.rest)) =
                (copy_piece-block fs c' (after_copy_piece fs c' s' z) h').1
                ∙ ap (λ ls. ((s'.before ++ next_lines fs c' s') ++ z.line ∷ []) ++ ls) (lines-cut fs c' (label_or s'.block.label) (z.number + 1) z.rest
                ∙ ap (λ ls. ls ++ behind fs c' (label_or s'.block.label) (cut fs c' (label_or s'.block.label) (z.number + 1) z.rest)) r ∙ nested-right start (j ∷ rest) _)
                ∙ sym (nested-right ((s'.before ++ next_lines fs c' s') ++ z.line ∷ []) start _) in
                let yes : is_phi z.line.inst ≡ true = (phis k c' n').first s'.block _ _ j (copy_piece-block fs c' s' h0).0 lines (ap is_phi f.is) z.line
                (among-left z.line ((s'.before ++ next_lines fs c' s') ++ z.line ∷ []) start (among-right z.line (s'.before ++ next_lines fs c' s') (z.line ∷ []) (inl refl))) in
                elim (both_ways (is_phi z.line.inst) (calls k' c' n0 s' h0 z r').no_phi yes) [ ]
