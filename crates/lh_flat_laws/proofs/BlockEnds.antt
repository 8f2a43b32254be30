-- Each block of a flat text ends with its one terminator.
use Rattle.std.proofs.Common.{◌≡◌, ℕ, List, [], ◌∷◌, ◌++◌, map, Bool, true, false, Option, Some, None, refl, ap, sym, ◌∙◌, subst}
use Rattle.lh_unit.specs.Contents.{InstText, const_text, pure_text, var_text, ld_text, st_text, sig_text, prb_text, drv_text, reg_text, child_text, call_text, phi_text, br_text, branch_text, wait_text, halt_text, ret_text, LineText, BlockText, UnitText}
use Rattle.lh_unit.specs.Named.{label_or}
use Rattle.lh_unit.specs.Places.{is_terminator}
use Rattle.lh_verify_laws.specs.Shape.{EndsOnce}
use Rattle.lh_flat.specs.Copies.{Copy, copied, copied_line}
use Rattle.lh_flat.specs.Flat.{MergeText, branch_into, with_merge, flat_copy, as_block}
use Rattle.lh_flat_laws.proofs.Cuts.{Cut, ending, behind, lines-cut, piece-lines}
use Rattle.lh_flat_laws.proofs.CopyPieces.{CopyPiece, next_cut, next_lines, after_copy_piece, CopyPieceOf, begins, goes_on, flat_copy_piece}
use Rattle.lh_flat_laws.proofs.Paths.{copy_piece-block, nested-right}
use Rattle.lh_flat_laws.specs.Members.{Among}

-- a copied instruction is a terminator where the original is one
pub terminator-copied : (fs : List UnitText) (c : Copy) (i : InstText) → is_terminator (copied fs c i) ≡ is_terminator i
terminator-copied fs c (const_text x) = refl
terminator-copied fs c (pure_text x y) = refl
terminator-copied fs c (var_text x) = refl
terminator-copied fs c (ld_text x) = refl
terminator-copied fs c (st_text x y) = refl
terminator-copied fs c (sig_text x) = refl
terminator-copied fs c (prb_text x) = refl
terminator-copied fs c (drv_text x y z w) = refl
terminator-copied fs c (reg_text x y) = refl
terminator-copied fs c (child_text x y z) = refl
terminator-copied fs c (call_text x y z) = refl
terminator-copied fs c (phi_text x y) = refl
terminator-copied fs c (br_text x) = refl
terminator-copied fs c (branch_text x y z) = refl
terminator-copied fs c (wait_text x y z) = refl
terminator-copied fs c halt_text = refl
terminator-copied fs c (ret_text x) = refl

-- none of these lines is a terminator
abbrev pub NoEnd : List LineText → Type 0
NoEnd [] = Unit {0}
NoEnd (l ∷ more) = (is_terminator l.inst ≡ false) × NoEnd more

ends-behind : (xs : List LineText) (l : LineText) (ys : List LineText) → EndsOnce (xs ++ l ∷ ys) → EndsOnce (l ∷ ys)
ends-behind [] l ys h = h
ends-behind (x ∷ []) l ys h = h.1
ends-behind (x ∷ y ∷ xs) l ys h = ends-behind (y ∷ xs) l ys h.1

no-end-before : (xs : List LineText) (l : LineText) (ys : List LineText) → EndsOnce (xs ++ l ∷ ys) → NoEnd xs
no-end-before [] l ys h = tt
no-end-before (x ∷ []) l ys h = (h.0, tt)
no-end-before (x ∷ y ∷ xs) l ys h = (h.0, no-end-before (y ∷ xs) l ys h.1)

with-end : (xs : List LineText) (l : LineText) → NoEnd xs → is_terminator l.inst ≡ true → EndsOnce (xs ++ l ∷ [])
with-end [] l h t = t
with-end (x ∷ []) l h t = (h.0, t)
with-end (x ∷ y ∷ xs) l h t = (h.0, with-end (y ∷ xs) l h.1 t)

no-end-copied : (fs : List UnitText) (c : Copy) (xs : List LineText) → NoEnd xs → NoEnd (map (copied_line fs c) xs)
no-end-copied fs c [] h = tt
no-end-copied fs c (x ∷ xs) h = (terminator-copied fs c x.inst ∙ h.0, no-end-copied fs c xs h.1)

ends-copied : (fs : List UnitText) (c : Copy) (xs : List LineText) → EndsOnce xs → EndsOnce (map (copied_line fs c) xs)
ends-copied fs c [] h = tt
ends-copied fs c (x ∷ []) h = terminator-copied fs c x.inst ∙ h
ends-copied fs c (x ∷ y ∷ xs) h = (terminator-copied fs c x.inst ∙ h.0, ends-copied fs c (y ∷ xs) h.1)

with-merge-ends : (m : Option MergeText) (l : LineText) (ls : List LineText) → EndsOnce (l ∷ ls) → EndsOnce (with_merge m (l ∷ ls))
with-merge-ends None l ls h = h
with-merge-ends (Some m) l ls h = (refl, h)

no-rest : (ls : List LineText) → ls ++ [] ≡ ls
no-rest [] = refl
no-rest (l ∷ ls) = ap (λ ms. l ∷ ms) (no-rest ls)

-- lines that end once, and there are some
abbrev Ends : List LineText → Type 0
Ends ls = EndsOnce ls × ((l : LineText) × (more : List LineText) × (ls ≡ l ∷ more))

-- some line stands in a piece, or a call behind it
pub data Filled (fs : List UnitText) (c : Copy) (s : CopyPiece) : Type 0 where
  has_line : (l : LineText) (ls : List LineText) → s.rest ≡ l ∷ ls → Filled fs c s

module _ (fs : List UnitText) (c : Copy)
    (ends : (b : BlockText) → Among b c.unit.blocks → EndsOnce b.lines)
    (has : (b : BlockText) → Among b c.unit.blocks → (l : LineText) × (ls : List LineText) × (b.lines ≡ l ∷ ls))
    (call : (s : CopyPiece) → CopyPieceOf fs c s → (z : Cut) → next_cut fs c s ≡ Some z → is_terminator z.line.inst ≡ false) where
  -- a piece has lines
  pub filled : (s : CopyPiece) → CopyPieceOf fs c s → Filled fs c s
  filled _ (begins b a) = let r = has b a in has_line r.0 r.1 r.2
  filled _ (goes_on s h z e) = by z.rest refl
    where
      whole : s.block.lines ≡ (s.before ++ next_lines fs c s) ++ z.line ∷ z.rest
      whole = (copy_piece-block fs c s h).1
          ∙ ap (λ ls. s.before ++ ls) (lines-cut fs c (label_or s.block.label) s.number s.rest ∙ ap (λ o. next_lines fs c s ++ behind fs c (label_or s.block.label) o) e)
          ∙ sym (nested-right s.before (next_lines fs c s) (z.line ∷ z.rest))

      by : (ls : List LineText) → z.rest ≡ ls → Filled fs c (after_copy_piece fs c s z)
      by (l ∷ ls) q = has_line l ls q
      by [] q =
          let last : EndsOnce (z.line ∷ z.rest) = ends-behind (s.before ++ next_lines fs c s) z.line z.rest (subst EndsOnce whole (ends s.block (copy_piece-block fs c s h).0)) in
          let t : is_terminator z.line.inst ≡ true = subst (λ ls. EndsOnce (z.line ∷ ls)) q last in
          absurd (differ (is_terminator z.line.inst) (call s h z e) t)
        where
          differ : (b : Bool) → b ≡ false → b ≡ true → ⊥
          differ b p q = cc

  -- and ends with one terminator
  pub copy_piece-ends : (k : ℕ) (s : CopyPiece) → CopyPieceOf fs c s → EndsOnce (as_block (flat_copy_piece fs k c s)).lines
      × ((l : LineText) × (ls : List LineText) × ((as_block (flat_copy_piece fs k c s)).lines ≡ l ∷ ls))
  copy_piece-ends k s h = subst Ends (ap (with_merge s.merge) (sym (piece-lines fs c (label_or s.block.label) (flat_copy k fs) s.number s.rest))) (by (next_cut fs c s) refl (filled s h))
    where
      merged : (l : LineText) (ls : List LineText) → EndsOnce (l ∷ ls) → EndsOnce (with_merge s.merge (l ∷ ls)) × ((k : LineText) × (more : List LineText) × (with_merge s.merge (l ∷ ls) ≡ k ∷ more))
      merged l ls q = (with-merge-ends s.merge l ls q, first s.merge)
        where
          first : (m : Option MergeText) → (k : LineText) × (more : List LineText) × (with_merge m (l ∷ ls) ≡ k ∷ more)
          first None = (l, ls, refl)
          first (Some m) = (record { result = Some m.value; inst = phi_text m.ty m.edges }, l ∷ ls, refl)

      any : (ls : List LineText) → EndsOnce ls → ((l : LineText) × (more : List LineText) × (ls ≡ l ∷ more)) → EndsOnce (with_merge s.merge ls)
          × ((k : LineText) × (more : List LineText) × (with_merge s.merge ls ≡ k ∷ more))
      any [] q r = absurd cc
      any (l ∷ ls) q r = merged l ls q

      block-ends : EndsOnce (s.before ++ s.rest)
      block-ends = let r = copy_piece-block fs c s h in subst EndsOnce r.1 (ends s.block r.0)

      by : (o : Option Cut) → next_cut fs c s ≡ o → Filled fs c s
          → EndsOnce (with_merge s.merge (map (copied_line fs c) (next_lines fs c s) ++ ending fs c (label_or s.block.label) (flat_copy k fs) (next_cut fs c s)))
          × ((l : LineText) × (more : List LineText)
          × (with_merge s.merge (map (copied_line fs c) (next_lines fs c s) ++ ending fs c (label_or s.block.label) (flat_copy k fs) (next_cut fs c s)) ≡ l ∷ more))
      by None e (has_line l ls q) =
          let rest : s.rest ≡ next_lines fs c s = lines-cut fs c (label_or s.block.label) s.number s.rest ∙ ap (λ o. next_lines fs c s ++ behind fs c (label_or s.block.label) o) e
          ∙ no-rest (next_lines fs c s) in
          let here : EndsOnce (l ∷ ls) = ends-behind s.before l ls (subst (λ ms. EndsOnce (s.before ++ ms)) q block-ends) in
          subst (λ ms. EndsOnce (with_merge s.merge ms) × ((k : LineText) × (more : List LineText) × (with_merge s.merge ms ≡ k ∷ more)))
          (ap (map (copied_line fs c)) (sym q ∙ rest) ∙ sym (no-rest (map (copied_line fs c) (next_lines fs c s)))
          ∙ ap (λ o. map (copied_line fs c) (next_lines fs c s) ++ ending fs c (label_or s.block.label) (flat_copy k fs) o) (sym e))
          (any (map (copied_line fs c) (l ∷ ls)) (ends-copied fs c (l ∷ ls) here) (copied_line fs c l, map (copied_line fs c) ls, refl))
      by (Some z) e f =
          let whole : s.before ++ s.rest ≡ (s.before ++ next_lines fs c s) ++ z.line ∷ z.rest =
          ap (λ ls. s.before ++ ls) (lines-cut fs c (label_or s.block.label) s.number s.rest ∙ ap (λ o. next_lines fs c s ++ behind fs c (label_or s.block.label) o) e)
          ∙ sym (nested-right s.before (next_lines fs c s) (z.line ∷ z.rest)) in
          let none : NoEnd (next_lines fs c s) = behind-none s.before (next_lines fs c s) (no-end-before (s.before ++ next_lines fs c s) z.line z.rest (subst EndsOnce whole block-ends)) in
          subst (λ ms. EndsOnce (with_merge s.merge ms) × ((k : LineText) × (more : List LineText) × (with_merge s.merge ms ≡ k ∷ more)))
          (ap (λ o. map (copied_line fs c) (next_lines fs c s) ++ ending fs c (label_or s.block.label) (flat_copy k fs) o) (sym e))
          (any (map (copied_line fs c) (next_lines fs c s) ++ branch_into z.copy ∷ [])
          (with-end (map (copied_line fs c) (next_lines fs c s)) (branch_into z.copy) (no-end-copied fs c (next_lines fs c s) none) refl)
          (some-first (map (copied_line fs c) (next_lines fs c s)) (branch_into z.copy)))
        where
          behind-none : (xs ys : List LineText) → NoEnd (xs ++ ys) → NoEnd ys
          behind-none [] ys h = h
          behind-none (x ∷ xs) ys h = behind-none xs ys h.1

          some-first : (xs : List LineText) (l : LineText) → (k : LineText) × (more : List LineText) × (xs ++ l ∷ [] ≡ k ∷ more)
          some-first [] l = (l, [], refl)
          some-first (x ∷ xs) l = (x, xs ++ l ∷ [], refl)
