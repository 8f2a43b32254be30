-- What a `phi` of a flat text takes on an edge has been given at the end of the block that the edge leaves.
use Rattle.std.proofs.Common.{◌≡◌, ◌⊎◌, ℕ, zero, suc, ◌+◌, List, [], ◌∷◌, ◌++◌, map, true, false, Option, Some, None, refl, ap, sym, ◌∙◌, inl, inr, subst}
use Rattle.std.specs.List.{flat_map}
use Rattle.std.specs.Option.{option_map_or}
use Rattle.std.proofs.lemmas.Bool.{both_ways}
use Rattle.lh_types.specs.Types.{TypeTree}
use Rattle.lh_unit.specs.Contents.{const_text, pure_text, var_text, ld_text, st_text, sig_text, prb_text, drv_text, reg_text, child_text, call_text, phi_text, br_text, branch_text, wait_text, halt_text, ret_text, InstText, OperandText, EdgeText, LineText, BlockText, UnitText, lines_define, blocks_define}
use Rattle.lh_unit.specs.Named.{block_of, label_or}
use Rattle.lh_unit.specs.Places.{has_edge}
use Rattle.lh_unit.specs.WellFormed.{values_named, is_phi}
use Rattle.lh_unit.proofs.ById.{lines_define-append}
use Rattle.lh_verify_laws.specs.Defined.{IsThere, IsThereOnEdge}
use Rattle.lh_flat.specs.Copies.{Copy, top_copy, first_piece, last_from, last_piece, copied_edge, copied}
use Rattle.lh_flat.specs.Flat.{MergeText, edge_if_given, given_in, given_by, merge_of, first_label, branch_into, flat_copy, max_nested, with_merge, as_block}
use Rattle.lh_flat_laws.proofs.Cuts.{Cut, cut, behind, lines-cut, last_by, last-cut}
use Rattle.lh_flat_laws.proofs.CopyPieces.{CopyPiece, next_cut, next_lines, after_copy_piece, CopyPieceOf, begins, goes_on, Nested, flat_copy_piece}
use Rattle.lh_flat_laws.proofs.Splits.{LineOf, is_merge, is_copied, is_branch, line-of}
use Rattle.lh_flat_laws.proofs.Paths.{IsGood, CallIsGood, There, Located, Step, jumps, returns, enters, copy_piece-block, copy_piece-lines, whole-block, value-there, nested-right}
use Rattle.lh_flat_laws.specs.Members.{Among}
use Rattle.lh_flat_laws.proofs.Members.{among-left, among-right, among-split, among-map}

-- the label of the piece in which a block ends, by any piece of it
pub copy_piece-last : (fs : List UnitText) (c : Copy) (s : CopyPiece) → CopyPieceOf fs c s → last_from fs c (label_or s.block.label) s.label s.number s.rest ≡ last_piece fs c s.block
copy_piece-last fs c _ (begins b h) = refl
copy_piece-last fs c _ (goes_on s h z e) = sym (last-cut fs c (label_or s.block.label) s.label s.number s.rest ∙ ap (λ o. last_by fs c (label_or s.block.label) o s.label) e) ∙ copy_piece-last fs c s h

-- where no call is behind it, that is its own
pub own-last : (fs : List UnitText) (c : Copy) (s : CopyPiece) → CopyPieceOf fs c s → next_cut fs c s ≡ None → s.label ≡ last_piece fs c s.block
own-last fs c s h e = sym (last-cut fs c (label_or s.block.label) s.label s.number s.rest ∙ ap (λ o. last_by fs c (label_or s.block.label) o s.label) e) ∙ copy_piece-last fs c s h

-- ---- what a merge has of a copy

-- a `ret` in these lines gives the value of the edge
pub record GivenBy (d : Copy) (label : List ℕ) (ls : List LineText) (e : EdgeText) : Type 0 where
  pub before : List LineText
  pub line : LineText
  pub after : List LineText
  pub splits : ls ≡ before ++ line ∷ after
  pub operand : OperandText
  pub ret : line.inst ≡ ret_text (Some operand)
  pub value : e.value ≡ d.value operand.value
  pub block : e.block ≡ label

pub given-in : (d : Copy) (label : List ℕ) (ls : List LineText) (e : EdgeText) → Among e (given_in d label ls) → GivenBy d label ls e
given-in d label [] e a = elim a [ ]
given-in d label (l ∷ ls) e a = by (λ b. later (given-in d label ls e b)) l.inst refl a
  where
    later : GivenBy d label ls e → GivenBy d label (l ∷ ls) e
    later r = record { before = l ∷ r.before; line = r.line; after = r.after; splits = ap (λ ms. l ∷ ms) r.splits; operand = r.operand; ret = r.ret; value = r.value; block = r.block }

    by : (Among e (given_in d label ls) → GivenBy d label (l ∷ ls) e) → (i : InstText) → l.inst ≡ i → Among e (edge_if_given d label i (given_in d label ls)) → GivenBy d label (l ∷ ls) e
    by go (ret_text (Some o)) q (inl h) = record {
      before = [];
      line = l;
      after = ls;
      splits = refl;
      operand = o;
      ret = q;
      value = ap (λ (x : EdgeText). x.value) (sym h);
      block = ap (λ (x : EdgeText). x.block) (sym h);
    }
    by go (ret_text (Some o)) q (inr b) = go b
    by go (ret_text None) q b = go b
    by go (const_text x) q b = go b
    by go (pure_text x y) q b = go b
    by go (var_text x) q b = go b
    by go (ld_text x) q b = go b
    by go (st_text x y) q b = go b
    by go (sig_text x) q b = go b
    by go (prb_text x) q b = go b
    by go (drv_text x y z w) q b = go b
    by go (reg_text x y) q b = go b
    by go (child_text x y z) q b = go b
    by go (call_text x y z) q b = go b
    by go (phi_text x y) q b = go b
    by go (br_text x) q b = go b
    by go (branch_text x y z) q b = go b
    by go (wait_text x y z) q b = go b
    by go halt_text q b = go b

pub record GivenIn (fs : List UnitText) (d : Copy) (bs : List BlockText) (e : EdgeText) : Type 0 where
  pub from : BlockText
  pub is_one : Among from bs
  pub given : GivenBy d (last_piece fs d from) from.lines e

pub given-by : (fs : List UnitText) (d : Copy) (bs : List BlockText) (e : EdgeText) → Among e (flat_map (λ (b : BlockText). given_in d (last_piece fs d b) b.lines) bs) → GivenIn fs d bs e
given-by fs d [] e a = elim a [ ]
given-by fs d (b ∷ bs) e a = by (among-split e (given_in d (last_piece fs d b) b.lines) _ a) (given-by fs d bs e)
  where
    by : (Among e (given_in d (last_piece fs d b) b.lines) ⊎ Among e (flat_map (λ (b : BlockText). given_in d (last_piece fs d b) b.lines) bs))
        → (Among e (flat_map (λ (b : BlockText). given_in d (last_piece fs d b) b.lines) bs) → GivenIn fs d bs e) → GivenIn fs d (b ∷ bs) e
    by (inl h) more = record { from = b; is_one = inl refl; given = given-in d (last_piece fs d b) b.lines e h }
    by (inr h) more = let r = more h in record { from = r.from; is_one = inr r.is_one; given = r.given }

-- the edges of a merge are what the copy gives
pub merge-edges : (fs : List UnitText) (c d : Copy) (i : InstText) (r : Option (List ℕ)) (m : MergeText) → merge_of fs c d i r ≡ Some m → m.edges ≡ given_by fs d
merge-edges fs c d (call_text f ty args) (Some n) m h = let k : record { value = c.value n; ty = ty; edges = given_by fs d } ≡ m = cc in ap (λ (m : MergeText). m.edges) (sym k)
merge-edges fs c d (call_text f ty args) None m h = cc
merge-edges fs c d (const_text x) r m h = cc
merge-edges fs c d (pure_text x y) r m h = cc
merge-edges fs c d (var_text x) r m h = cc
merge-edges fs c d (ld_text x) r m h = cc
merge-edges fs c d (st_text x y) r m h = cc
merge-edges fs c d (sig_text x) r m h = cc
merge-edges fs c d (prb_text x) r m h = cc
merge-edges fs c d (drv_text x y z w) r m h = cc
merge-edges fs c d (reg_text x y) r m h = cc
merge-edges fs c d (child_text x y z) r m h = cc
merge-edges fs c d (phi_text x y) r m h = cc
merge-edges fs c d (br_text x) r m h = cc
merge-edges fs c d (branch_text x y z) r m h = cc
merge-edges fs c d (wait_text x y z) r m h = cc
merge-edges fs c d halt_text r m h = cc
merge-edges fs c d (ret_text x) r m h = cc

-- ---- copied `phi`

-- a copied `phi` comes from one
pub record PhiOf (fs : List UnitText) (c : Copy) (i : InstText) (es : List EdgeText) : Type 0 where
  pub ty : TypeTree
  pub edges : List EdgeText
  pub is : i ≡ phi_text ty edges
  pub copies : es ≡ map (copied_edge fs c) edges

pub phi-of : (fs : List UnitText) (c : Copy) (i : InstText) (ty : TypeTree) (es : List EdgeText) → copied fs c i ≡ phi_text ty es → PhiOf fs c i es
phi-of fs c (phi_text t edges) ty es h = record { ty = t; edges = edges; is = refl; copies = let k : map (copied_edge fs c) edges ≡ es = cc in sym k }
phi-of fs c (const_text x) ty es h = cc
phi-of fs c (pure_text x y) ty es h = cc
phi-of fs c (var_text x) ty es h = cc
phi-of fs c (ld_text x) ty es h = cc
phi-of fs c (st_text x y) ty es h = cc
phi-of fs c (sig_text x) ty es h = cc
phi-of fs c (prb_text x) ty es h = cc
phi-of fs c (drv_text x y z w) ty es h = cc
phi-of fs c (reg_text x y) ty es h = cc
phi-of fs c (child_text x y z) ty es h = cc
phi-of fs c (call_text x y z) ty es h = cc
phi-of fs c (br_text x) ty es h = cc
phi-of fs c (branch_text x y z) ty es h = cc
phi-of fs c (wait_text x y z) ty es h = cc
phi-of fs c halt_text ty es h = cc
phi-of fs c (ret_text x) ty es h = cc

pub no-branch : (d : Copy) (l : LineText) (ty : TypeTree) (es : List EdgeText) → l ≡ branch_into d → l.inst ≡ phi_text ty es → ⊥
no-branch d l ty es f i = let e : br_text (first_piece d (first_label d.unit.blocks)) ≡ phi_text ty es = sym (ap (λ (k : LineText). k.inst) f) ∙ i in cc

pub nothing-is : (m : MergeText) → None ≡ Some m → ⊥
nothing-is m e = cc

-- what is asked of the `phi` of a unit
pub record PhisAreGood (v : UnitText) : Type 0 where
  pub edges : (d : BlockText) (before after : List LineText) (l : LineText) (ty : TypeTree) (es : List EdgeText) → Among d v.blocks → d.lines ≡ before ++ l ∷ after → l.inst ≡ phi_text ty es
      → (e : EdgeText) → Among e es → ((b : BlockText) × (block_of e.block v.blocks ≡ Some b) × Among b v.blocks) × IsThereOnEdge v (label_or d.label) e
  pub first : (d : BlockText) (before after : List LineText) (l : LineText) → Among d v.blocks → d.lines ≡ before ++ l ∷ after → is_phi l.inst ≡ true → (k : LineText) → Among k before
      → is_phi k.inst ≡ true
  pub entry : (b : BlockText) (more : List BlockText) → v.blocks ≡ b ∷ more → (before after : List LineText) (l : LineText) → b.lines ≡ before ++ l ∷ after → is_phi l.inst ≡ false

module _ (fs : List UnitText) (u x : UnitText) (args : x.args ≡ u.args)
    (good : (k : ℕ) (c : Copy) → Nested fs u k c → IsGood fs c.unit) (calls : (k : ℕ) (c : Copy) → Nested fs u k c → (s : CopyPiece) → CopyPieceOf fs c s → (z : Cut) → next_cut fs c s ≡ Some z
    → CallIsGood fs c z)
    (deep : (c : Copy) → Nested fs u zero c → (s : CopyPiece) → CopyPieceOf fs c s → (z : Cut) → next_cut fs c s ≡ Some z → ⊥)
    (no_ret : (b : BlockText) (before after : List LineText) (l : LineText) → Among b u.blocks → b.lines ≡ before ++ l ∷ after → (o : Option OperandText) → l.inst ≡ ret_text o → ⊥)
    (phis : (k : ℕ) (c : Copy) → Nested fs u k c → PhisAreGood c.unit)
    (apart : (k : ℕ) (c : Copy) → Nested fs u k c → (b d : BlockText) → Among b c.unit.blocks → Among d c.unit.blocks → last_piece fs c b ≡ last_piece fs c d → b ≡ d)
    (blocks : x.blocks ≡ map as_block (flat_copy (suc max_nested) fs (top_copy u)))
    (once : (k : ℕ) (c : Copy) → Nested fs u k c → (s : CopyPiece) → CopyPieceOf fs c s → block_of s.label x.blocks ≡ Some (as_block (flat_copy_piece fs k c s)))
    (begin : (b : BlockText) × (more : List BlockText) × (u.blocks ≡ b ∷ more)) where
  module _ (last : BlockText) (earlier : List BlockText) (at : Located fs u x args last earlier) (e : EdgeText) (named : label_or last.label ≡ e.block) where
    block-is : Among at.piece.block at.copy.unit.blocks
    block-is = (copy_piece-block fs at.copy at.piece at.of).0

    -- the edge names the piece in which the piece's block ends
    ends-there : next_cut fs at.copy at.piece ≡ None → last_piece fs at.copy at.piece.block ≡ e.block
    ends-there none = sym (own-last fs at.copy at.piece at.of none) ∙ sym (ap (λ (b : BlockText). label_or b.label) at.is) ∙ named

    -- a value that is there at some line of the block
    there-at : next_cut fs at.copy at.piece ≡ None → (n : List ℕ) → IsThere at.copy.unit at.piece.block at.piece.block.lines n → There fs u x args (last ∷ earlier) (at.copy.value n)
    there-at none n h = value-there fs u x args good calls deep no_ret last earlier at n
        (subst (λ ls. IsThere at.copy.unit at.piece.block ls n) (whole-block fs last at.depth at.copy at.piece at.of at.is none) h)

    -- a copied `phi`, within the copy
    within-copy : next_cut fs at.copy at.piece ≡ None → (d : BlockText) → Among d at.copy.unit.blocks → has_edge at.piece.block (label_or d.label) ≡ true
        → (before after : List LineText) (k : LineText) → d.lines ≡ before ++ k ∷ after
        → (ty : TypeTree) (es : List EdgeText) → copied fs at.copy k.inst ≡ phi_text ty es → Among e es → There fs u x args (last ∷ earlier) e.value
    within-copy none d b edge before after k q ty es i a =
        let f = phi-of fs at.copy k.inst ty es i in
        let m = among-map (copied_edge fs at.copy) f.edges e (subst (λ xs. Among e xs) f.copies a) in
        let g = (phis at.depth at.copy at.nested).edges d before after k f.ty f.edges b q f.is m.0 m.1 in
        let one : last_piece fs at.copy at.piece.block ≡ last_piece fs at.copy g.0.0 =
        ends-there none ∙ ap (λ (x : EdgeText). x.block) m.2 ∙ ap (λ o. option_map_or (last_piece fs at.copy) o (first_piece at.copy m.0.block)) g.0.1 in
        let same : at.piece.block ≡ g.0.0 = apart at.depth at.copy at.nested at.piece.block g.0.0 block-is g.0.2 one in
        subst (There fs u x args (last ∷ earlier)) (sym (ap (λ (x : EdgeText). x.value) m.2))
        (there-at none m.0.value (g.1 at.piece.block (g.0.1 ∙ ap Some (sym same)) edge))

    -- what a `ret` gives to a merge
    from-ret : next_cut fs at.copy at.piece ≡ None → GivenIn fs at.copy at.copy.unit.blocks e → There fs u x args (last ∷ earlier) e.value
    from-ret none g =
        let same : at.piece.block ≡ g.from = apart at.depth at.copy at.nested at.piece.block g.from block-is g.is_one (ends-there none ∙ g.given.block) in
        let lines : at.piece.block.lines ≡ g.given.before ++ g.given.line ∷ g.given.after = ap (λ (b : BlockText). b.lines) same ∙ g.given.splits in
        let there : IsThere at.copy.unit at.piece.block g.given.before g.given.operand.value =
        (good at.depth at.copy at.nested).there at.piece.block g.given.before g.given.after g.given.line block-is lines (ap is_phi g.given.ret) g.given.operand.value
        (subst (λ i. Among g.given.operand.value (values_named i)) (sym g.given.ret) (inl refl)) in
        subst (There fs u x args (last ∷ earlier)) (sym g.given.value) (there-at none g.given.operand.value (wider g.given.before g.given.line g.given.after g.given.operand.value lines there))
      where
        wider : (before : List LineText) (l : LineText) (after : List LineText) (n : List ℕ) → at.piece.block.lines ≡ before ++ l ∷ after → IsThere at.copy.unit at.piece.block before n
            → IsThere at.copy.unit at.piece.block at.piece.block.lines n
        wider before l after n q (inl h) = inl h
        wider before l after n q (inr h) = inr (λ earlier path. more earlier (h earlier path))
          where
            more : (earlier : List BlockText) → ((lines_define n before ≡ true) ⊎ (blocks_define n earlier ≡ true)) → (lines_define n at.piece.block.lines ≡ true) ⊎ (blocks_define n earlier ≡ true)
            more earlier (inl h) = inl (ap (lines_define n) q ∙ lines_define-append n before (l ∷ after) h)
            more earlier (inr h) = inr h

    -- the block to which the edge leads is that of the next piece
    pub phi-there : (y : BlockText) (before after : List LineText) (l : LineText) (ty : TypeTree) (es : List EdgeText) → y.lines ≡ before ++ l ∷ after → l.inst ≡ phi_text ty es → Among e es
        → (k : ℕ) (c : Copy) (n : Nested fs u k c) (s : CopyPiece) → CopyPieceOf fs c s → y ≡ as_block (flat_copy_piece fs k c s) → Step fs u x args at.copy at.piece c s
        → There fs u x args (last ∷ earlier) e.value
    phi-there y before after l ty es q i a k c n s h is step =
        by (line-of fs c s (flat_copy k fs) before after l (sym (ap (λ (b : BlockText). b.lines) is ∙ ap (with_merge s.merge) (copy_piece-lines fs u x args good calls deep no_ret k c s)) ∙ q)) step
      where
        lines-of : (start : List LineText) (j : LineText) (rest : List LineText) → next_lines fs c s ≡ start ++ j ∷ rest
            → s.block.lines ≡ (s.before ++ start) ++ j ∷ (rest ++ behind fs c (label_or s.block.label) (next_cut fs c s))
        lines-of start j rest r =
            (copy_piece-block fs c s h).1
            ∙ ap (λ ls. s.before ++ ls) (lines-cut fs c (label_or s.block.label) s.number s.rest ∙ ap (λ ls. ls ++ behind fs c (label_or s.block.label) (next_cut fs c s)) r
            ∙ nested-right start (j ∷ rest) _)
            ∙ sym (nested-right s.before start _)

        by : LineOf fs c s before l → Step fs u x args at.copy at.piece c s → There fs u x args (last ∷ earlier) e.value
        by (is_branch z r f) st = elim (no-branch z.copy l ty es f i) [ ]
        by (is_merge m r f b) st = merge-step st m r (ap (λ (j : LineText). j.inst) (sym f) ∙ i)
          where
            edges-are : (m : MergeText) → phi_text m.ty m.edges ≡ phi_text ty es → m.edges ≡ es
            edges-are m g = cc

            merge-step : {c' : Copy} {s' : CopyPiece} → Step fs u x args at.copy at.piece c' s' → (m : MergeText) → s'.merge ≡ Some m → phi_text m.ty m.edges ≡ phi_text ty es
                → There fs u x args (last ∷ earlier) e.value
            merge-step (jumps d b none edge) m r g = elim (nothing-is m r) [ ]
            merge-step (enters z r' b more bs) m r g = elim (nothing-is m r) [ ]
            merge-step (returns k' c' n' s' h' z r' zc none ret) m r g =
                from-ret none (given-by fs at.copy at.copy.unit.blocks e
                (subst (λ xs. Among e xs) (sym (edges-are m g) ∙ merge-edges fs c' z.copy z.line.inst z.line.result m r ∙ ap (given_by fs) zc) a))
        by (is_copied start j rest r f b) st = copied-step st start j rest r (ap (λ (j : LineText). j.inst) (sym f) ∙ i) h n
          where
            copied-step : {c' : Copy} {s' : CopyPiece} → Step fs u x args at.copy at.piece c' s' → (start : List LineText) (j : LineText) (rest : List LineText)
                → next_lines fs c' s' ≡ start ++ j ∷ rest → copied fs c' j.inst ≡ phi_text ty es → CopyPieceOf fs c' s' → Nested fs u k c' → There fs u x args (last ∷ earlier) e.value
            copied-step (jumps d b none edge) start j rest r g h' n' =
                within-copy none d b edge start _ j (lines-cut fs at.copy (label_or d.label) 0 d.lines
                ∙ ap (λ ls. ls ++ behind fs at.copy (label_or d.label) (cut fs at.copy (label_or d.label) 0 d.lines)) r ∙ nested-right start (j ∷ rest) _) ty es g a
            copied-step (enters z r' b more bs) start j rest r g h' n' =
                let f = phi-of fs z.copy j.inst ty es g in
                let no : is_phi j.inst ≡ false = (phis k z.copy n').entry b more bs start _ j (lines-cut fs z.copy (label_or b.label) 0 b.lines
                ∙ ap (λ ls. ls ++ behind fs z.copy (label_or b.label) (cut fs z.copy (label_or b.label) 0 b.lines)) r ∙ nested-right start (j ∷ rest) _) in
                elim (both_ways (is_phi j.inst) no (ap is_phi f.is)) [ ]
            copied-step (returns k' c' n0 s' h0 z r' zc none ret) start j rest r g h' n' =
                let f = phi-of fs c' j.inst ty es g in
                let lines : s'.block.lines ≡ (((s'.before ++ next_lines fs c' s') ++ z.line ∷ []) ++ start) ++ j
                ∷ (rest ++ behind fs c' (label_or s'.block.label) (cut fs c' (label_or s'.block.label) (z.number + 1) z.rest)) =
                (copy_piece-block fs c' (after_copy_piece fs c' s' z) h').1
                ∙ ap (λ ls. ((s'.before ++ next_lines fs c' s') ++ z.line ∷ []) ++ ls) (lines-cut fs c' (label_or s'.block.label) (z.number + 1) z.rest
                ∙ ap (λ ls. ls ++ behind fs c' (label_or s'.block.label) (cut fs c' (label_or s'.block.label) (z.number + 1) z.rest)) r ∙ nested-right start (j ∷ rest) _)
                ∙ sym (nested-right ((s'.before ++ next_lines fs c' s') ++ z.line ∷ []) start _) in
                let yes : is_phi z.line.inst ≡ true = (phis k c' n').first s'.block _ _ j (copy_piece-block fs c' s' h0).0 lines (ap is_phi f.is) z.line
                (among-left z.line ((s'.before ++ next_lines fs c' s') ++ z.line ∷ []) start (among-right z.line (s'.before ++ next_lines fs c' s') (z.line ∷ []) (inl refl))) in
                elim (both_ways (is_phi z.line.inst) (calls k' c' n0 s' h0 z r').no_phi yes) [ ]
