-- Where control stands at a line of a flat text, what it names has been given.
use Rattle.std.proofs.Common.{◌≡◌, ◌⊎◌, ℕ, zero, suc, List, [], ◌∷◌, ◌++◌, map, Bool, true, false, Option, Some, refl, ap, sym, ◌∙◌, inl, inr, subst}
use Rattle.lh_unit.specs.Contents.{InstText, const_text, pure_text, var_text, ld_text, st_text, sig_text, prb_text, drv_text, reg_text, child_text, call_text, phi_text, br_text, branch_text, wait_text, halt_text, ret_text, OperandText, LineText, BlockText, UnitText, lines_define, blocks_define, args_define}
use Rattle.lh_unit.specs.Named.{block_of, label_or}
use Rattle.lh_unit.specs.WellFormed.{values_named, is_phi}
use Rattle.lh_verify_laws.specs.Defined.{IsThere, IsGiven}
use Rattle.lh_flat.specs.Copies.{Copy, top_copy, copied, copied_line}
use Rattle.lh_flat.specs.Flat.{flat_copy, max_nested, with_merge, as_block}
use Rattle.lh_flat_laws.proofs.Cuts.{Cut, behind, lines-cut}
use Rattle.lh_flat_laws.proofs.CopyPieces.{CopyPiece, next_cut, next_lines, CopyPieceOf, Nested, flat_copy_piece}
use Rattle.lh_flat_laws.proofs.SoundCopies.{IsCode}
use Rattle.lh_flat_laws.proofs.Lines.{define-parts, define-copied, merge-defines, lines-define}
use Rattle.lh_flat_laws.proofs.Named.{IsNew, named-copied}
use Rattle.lh_flat_laws.proofs.Splits.{LineOf, is_merge, is_copied, is_branch, line-of}
use Rattle.lh_flat_laws.proofs.Paths.{IsGood, CallIsGood, There, Located, lines-are, copy_piece-block, nested-right, located}
use Rattle.lh_flat_laws.specs.Members.{Among}

-- a copied instruction is a `phi` where the original is one
pub phi-copied : (fs : List UnitText) (c : Copy) (i : InstText) → is_phi (copied fs c i) ≡ false → is_phi i ≡ false
phi-copied fs c (phi_text ty edges) h = h
phi-copied fs c (const_text d) h = refl
phi-copied fs c (pure_text o args) h = refl
phi-copied fs c (var_text a) h = refl
phi-copied fs c (ld_text p) h = refl
phi-copied fs c (st_text to value) h = refl
phi-copied fs c (sig_text a) h = refl
phi-copied fs c (prb_text s) h = refl
phi-copied fs c (drv_text to value after cond) h = refl
phi-copied fs c (reg_text to triggers) h = refl
phi-copied fs c (child_text v inputs outputs) h = refl
phi-copied fs c (call_text f result args) h = refl
phi-copied fs c (br_text to) h = refl
phi-copied fs c (branch_text cond first second) h = refl
phi-copied fs c (wait_text to after signals) h = refl
phi-copied fs c halt_text h = refl
phi-copied fs c (ret_text o) h = refl

module _ (fs : List UnitText) (u x : UnitText) (args : x.args ≡ u.args)
    (good : (k : ℕ) (c : Copy) → Nested fs u k c → IsGood fs c.unit) (calls : (k : ℕ) (c : Copy) → Nested fs u k c → (s : CopyPiece) → CopyPieceOf fs c s → (z : Cut) → next_cut fs c s ≡ Some z
    → CallIsGood fs c z)
    (deep : (c : Copy) → Nested fs u zero c → (s : CopyPiece) → CopyPieceOf fs c s → (z : Cut) → next_cut fs c s ≡ Some z → ⊥)
    (no_ret : (b : BlockText) (before after : List LineText) (l : LineText) → Among b u.blocks → b.lines ≡ before ++ l ∷ after → (o : Option OperandText) → l.inst ≡ ret_text o → ⊥)
    (code : (k : ℕ) (c : Copy) → Nested fs u k c → (b : BlockText) (before after : List LineText) (l : LineText) → Among b c.unit.blocks → b.lines ≡ before ++ l ∷ after → IsCode l.inst) where
  module _ (y : BlockText) (earlier : List BlockText) (at : Located fs u x args y earlier) where
    -- a line in the middle of a piece is a line of the block
    midst : (start rest : List LineText) (k : LineText) → next_lines fs at.copy at.piece ≡ start ++ k ∷ rest
        → at.piece.block.lines ≡ (at.piece.before ++ start) ++ k ∷ (rest ++ behind fs at.copy (label_or at.piece.block.label) (next_cut fs at.copy at.piece))
    midst start rest k e =
        (copy_piece-block fs at.copy at.piece at.of).1
        ∙ ap (λ ls. at.piece.before ++ ls) (lines-cut fs at.copy (label_or at.piece.block.label) at.piece.number at.piece.rest
        ∙ ap (λ ls. ls ++ behind fs at.copy (label_or at.piece.block.label) (next_cut fs at.copy at.piece)) e ∙ nested-right start (k ∷ rest) _)
        ∙ sym (nested-right at.piece.before start _)

    -- what is there before such a line in the unit, is there in the flat text: given by an earlier block, or before the line's copy
    given-before : (start : List LineText) (n : List ℕ) → IsThere at.copy.unit at.piece.block (at.piece.before ++ start) n → (args_define (at.copy.value n) x.args ≡ false)
        → (lines_define (at.copy.value n) (with_merge at.piece.merge (map (copied_line fs at.copy) start)) ≡ true) ⊎ (blocks_define (at.copy.value n) earlier ≡ true)
    given-before start n (inl h) f = by (at.came.arguments n h)
      where
        by : There fs u x args earlier (at.copy.value n) → (lines_define (at.copy.value n) (with_merge at.piece.merge (map (copied_line fs at.copy) start)) ≡ true)
            ⊎ (blocks_define (at.copy.value n) earlier ≡ true)
        by (inl a) = cc
        by (inr b) = inr b
    given-before start n (inr h) f = by (h at.taken at.came.path)
      where
        there : There fs u x args earlier (at.copy.value n) → (lines_define (at.copy.value n) (with_merge at.piece.merge (map (copied_line fs at.copy) start)) ≡ true)
            ⊎ (blocks_define (at.copy.value n) earlier ≡ true)
        there (inl a) = cc
        there (inr b) = inr b

        by : ((lines_define n (at.piece.before ++ start) ≡ true) ⊎ (blocks_define n at.taken ≡ true))
            → (lines_define (at.copy.value n) (with_merge at.piece.merge (map (copied_line fs at.copy) start)) ≡ true) ⊎ (blocks_define (at.copy.value n) earlier ≡ true)
        by (inr b) = there (at.came.given n b)
        by (inl a) = in-lines (define-parts n at.piece.before start a)
          where
            in-lines : ((lines_define n at.piece.before ≡ true) ⊎ (lines_define n start ≡ true))
                → (lines_define (at.copy.value n) (with_merge at.piece.merge (map (copied_line fs at.copy) start)) ≡ true) ⊎ (blocks_define (at.copy.value n) earlier ≡ true)
            in-lines (inr b) = inl (lines-define (at.copy.value n) at.piece.merge _ (define-copied fs at.copy n start b))
            in-lines (inl b) = begun (at.begun n b)
              where
                begun : (There fs u x args earlier (at.copy.value n) ⊎ (lines_define (at.copy.value n) (with_merge at.piece.merge []) ≡ true))
                    → (lines_define (at.copy.value n) (with_merge at.piece.merge (map (copied_line fs at.copy) start)) ≡ true) ⊎ (blocks_define (at.copy.value n) earlier ≡ true)
                begun (inl t) = there t
                begun (inr m) = inl (merge-defines (at.copy.value n) at.piece.merge _ m)

    -- an operand of a line that is no `phi`
    operand-given : (before after : List LineText) (l : LineText) → y.lines ≡ before ++ l ∷ after → is_phi l.inst ≡ false → (n : List ℕ) → Among n (values_named l.inst) → args_define n x.args ≡ false
        → (lines_define n before ≡ true) ⊎ (blocks_define n earlier ≡ true)
    operand-given before after l e p n a f = by (line-of fs at.copy at.piece (flat_copy at.depth fs) before after l (sym (lines-are fs u x args good calls deep no_ret y earlier at) ∙ e))
      where
        by : LineOf fs at.copy at.piece before l → (lines_define n before ≡ true) ⊎ (blocks_define n earlier ≡ true)
        by (is_merge m q r s) = let t : true ≡ false = ap (λ (k : LineText). is_phi k.inst) (sym r) ∙ p in cc
        by (is_branch z q r) = elim (subst (λ (k : LineText). Among n (values_named k.inst)) r a) [ ]
        by (is_copied start k rest q r s) =
            let inst : l.inst ≡ copied fs at.copy k.inst = ap (λ (k : LineText). k.inst) r in
            let plain : is_phi k.inst ≡ false = phi-copied fs at.copy k.inst (ap is_phi (sym inst) ∙ p) in
            let block : Among at.piece.block at.copy.unit.blocks = (copy_piece-block fs at.copy at.piece at.of).0 in
            let m : IsNew at.copy (values_named k.inst) n = named-copied at.copy fs k.inst (code at.depth at.copy at.nested at.piece.block (at.piece.before ++ start) _ k block (midst start rest k q))
            plain n (subst (λ i. Among n (values_named i)) inst a) in
            moved m (given-before start m.0 ((good at.depth at.copy at.nested).there at.piece.block (at.piece.before ++ start) _ k block (midst start rest k q) plain m.0 m.1)
            (ap (λ k. args_define k x.args) (sym m.2) ∙ f))
          where
            moved : (m : IsNew at.copy (values_named k.inst) n)
                → ((lines_define (at.copy.value m.0) (with_merge at.piece.merge (map (copied_line fs at.copy) start)) ≡ true) ⊎ (blocks_define (at.copy.value m.0) earlier ≡ true))
                → (lines_define n before ≡ true) ⊎ (blocks_define n earlier ≡ true)
            moved m (inl h) = inl ((λ j. lines_define (m.2 j) (s j)) ∙ h)
            moved m (inr h) = inr (ap (λ k. blocks_define k earlier) m.2 ∙ h)

  module _ (blocks : x.blocks ≡ map as_block (flat_copy (suc max_nested) fs (top_copy u)))
      (once : (k : ℕ) (c : Copy) → Nested fs u k c → (s : CopyPiece) → CopyPieceOf fs c s → block_of s.label x.blocks ≡ Some (as_block (flat_copy_piece fs k c s)))
      (begin : (b : BlockText) × (more : List BlockText) × (u.blocks ≡ b ∷ more)) where
    decided : (b : Bool) (P : Type 0) → (b ≡ false → P) → (b ≡ true) ⊎ P
    decided true P f = inl refl
    decided false P f = inr (f refl)

    pub operand-there : (y : BlockText) (before after : List LineText) (l : LineText) → y.lines ≡ before ++ l ∷ after → is_phi l.inst ≡ false → (n : List ℕ) → Among n (values_named l.inst)
        → IsThere x y before n
    operand-there y before after l e p n a =
        decided (args_define n x.args) (IsGiven x y before n)
        (λ f earlier path. operand-given y earlier (located fs u x args good calls deep no_ret blocks once begin y earlier path) before after l e p n a f)
