-- Each line of a flat text is sound.
use Rattle.std.proofs.Common.{◌≡◌, ◌⊎◌, ◌<◌, ℕ, zero, suc, List, [], ◌∷◌, ◌++◌, length, true, Option, Some, None, refl, ap, sym, ◌∙◌, inl, inr, subst, arith}
use Rattle.std.specs.List.{flat_map}
use Rattle.std.proofs.lemmas.Option.{none-some}
use Rattle.lh_types.specs.Types.{TypeTree}
use Rattle.lh_unit.specs.Contents.{EdgeText, phi_text, LineText, BlockText, UnitText}
use Rattle.lh_unit.specs.Named.{label_or}
use Rattle.lh_unit.specs.Hierarchy.{lines_of}
use Rattle.lh_unit.specs.Typing.{value_type, result_type, is_value_type}
use Rattle.lh_verify_laws.specs.Operands.{IsOf, RowIs}
use Rattle.lh_verify_laws.specs.Parts.{HasPart}
use Rattle.lh_eval.specs.Sound.{IsWrittenRight, InstIsSound}
use Rattle.lh_flat.specs.Copies.{Copy, top_copy, copied_line}
use Rattle.lh_flat.specs.Flat.{MergeText, FlatBlockText, merge_of, branch_into, with_merge, flat_copy, flat_block, max_nested, as_block}
use Rattle.lh_flat_laws.proofs.Cuts.{Cut, behind, lines-cut, piece-lines, piece-more, blocks-behind}
use Rattle.lh_flat_laws.proofs.CopyPieces.{CopyPiece, next_cut, next_lines, first_copy_piece, after_copy_piece, CopyPieceOf, begins, goes_on, Nested, outermost, called, flat_copy_piece, flat_behind, behind-cut}
use Rattle.lh_flat_laws.proofs.SoundCopies.{IsCode, row-copied, part-copied, written-copied}
use Rattle.lh_flat_laws.proofs.Splits.{LineOf, is_merge, is_copied, is_branch, line-of}
use Rattle.lh_flat_laws.proofs.Paths.{copy_piece-block, nested-right}
use Rattle.lh_flat_laws.specs.Members.{Among}
use Rattle.lh_flat_laws.proofs.Members.{each-among, among-split}

-- ---- each block of a flat text is a piece

module _ (fs : List UnitText) (u : UnitText) where
  pub record IsCopyPiece (y : FlatBlockText) : Type 0 where
    pub depth : ℕ
    pub copy : Copy
    pub nested : Nested fs u depth copy
    pub piece : CopyPiece
    pub of : CopyPieceOf fs copy piece
    pub is : y ≡ flat_copy_piece fs depth copy piece

  cut-shorter : (c : Copy) (s : CopyPiece) (z : Cut) → next_cut fs c s ≡ Some z → (k : ℕ) → length s.rest < suc k → length z.rest < k
  cut-shorter c s z e k l =
      let w : length s.rest ≡ length (next_lines fs c s ++ z.line ∷ z.rest) =
      ap length (lines-cut fs c (label_or s.block.label) s.number s.rest ∙ ap (λ o. next_lines fs c s ++ behind fs c (label_or s.block.label) o) e) in
      let q : length z.rest < length (next_lines fs c s ++ z.line ∷ z.rest) = longer (next_lines fs c s) in
      omega (arith, w, q, l)
    where
      longer : (xs : List LineText) → length z.rest < length (xs ++ z.line ∷ z.rest)
      longer [] = omega arith
      longer (x ∷ xs) = let r = longer xs in omega (arith, r)

  -- what stands behind a piece, where what stands in the copies of its calls are pieces
  behind-copy_pieces : (k : ℕ) (c : Copy) → Nested fs u k c
      → ((s : CopyPiece) → CopyPieceOf fs c s → (z : Cut) → next_cut fs c s ≡ Some z → (y : FlatBlockText) → Among y (flat_copy k fs z.copy) → IsCopyPiece y)
      → (fuel : ℕ) (s : CopyPiece) → CopyPieceOf fs c s → length s.rest < fuel → (y : FlatBlockText) → Among y (flat_behind fs k c s) → IsCopyPiece y
  behind-copy_pieces k c n into zero s h l y a = absurd (omega (arith, l))
  behind-copy_pieces k c n into (suc fuel) s h l y a = by (next_cut fs c s) refl
      (λ z e b. behind-copy_pieces k c n into fuel (after_copy_piece fs c s z) (goes_on s h z e) (cut-shorter c s z e fuel l) y b)
    where
      in-cut : (z : Cut) → next_cut fs c s ≡ Some z → Among y (blocks-behind fs c (label_or s.block.label) (flat_copy k fs) (Some z))
          → (Among y (flat_behind fs k c (after_copy_piece fs c s z)) → IsCopyPiece y) → IsCopyPiece y
      in-cut z e b go = of (among-split y (flat_copy k fs z.copy) _ b)
        where
          of : (Among y (flat_copy k fs z.copy) ⊎ Among y (flat_copy_piece fs k c (after_copy_piece fs c s z) ∷ flat_behind fs k c (after_copy_piece fs c s z))) → IsCopyPiece y
          of (inl d) = into s h z e y d
          of (inr (inl q)) = record { depth = k; copy = c; nested = n; piece = after_copy_piece fs c s z; of = goes_on s h z e; is = sym q }
          of (inr (inr d)) = go d

      by : (o : Option Cut) → next_cut fs c s ≡ o → ((z : Cut) → next_cut fs c s ≡ Some z → Among y (flat_behind fs k c (after_copy_piece fs c s z)) → IsCopyPiece y) → IsCopyPiece y
      by None e go = elim (subst (λ ys. Among y ys) (piece-more fs c (label_or s.block.label) (flat_copy k fs) s.number s.rest ∙ ap (blocks-behind fs c (label_or s.block.label) (flat_copy k fs)) e) a)
          [ ]
      by (Some z) e go = in-cut z e (subst (λ ys. Among y ys) (behind-cut fs k c s z e) a) (go z e)

  flat-out : {A B : Type 0} (f : A → List B) (xs : List A) (y : B) → Among y (flat_map f xs) → (x : A) × Among x xs × Among y (f x)
  flat-out f [] y a = elim a [ ]
  flat-out {A = A} f (x ∷ xs) y a = on (among-split y (f x) (flat_map f xs) a) (flat-out f xs y)
    where
      on : (Among y (f x) ⊎ Among y (flat_map f xs)) → (Among y (flat_map f xs) → (z : A) × Among z xs × Among y (f z)) → (z : A) × Among z (x ∷ xs) × Among y (f z)
      on (inl b) go = (x, inl refl, b)
      on (inr b) go = let r = go b in (r.0, inr r.1, r.2)

  in-copy : (k : ℕ) (c : Copy) → Nested fs u k c → ((s : CopyPiece) → CopyPieceOf fs c s → (z : Cut) → next_cut fs c s ≡ Some z → (y : FlatBlockText) → Among y (flat_copy k fs z.copy) → IsCopyPiece y)
      → (y : FlatBlockText) → Among y (flat_copy (suc k) fs c) → IsCopyPiece y
  in-copy k c n into y a = of (flat-out (flat_block (flat_copy k fs) fs c) c.unit.blocks y a)
    where
      first-or : (b : BlockText) → Among b c.unit.blocks → Among y (flat_block (flat_copy k fs) fs c b) → IsCopyPiece y
      first-or b d (inl q) = record { depth = k; copy = c; nested = n; piece = first_copy_piece fs c b; of = begins b d; is = sym q }
      first-or b d (inr e) = behind-copy_pieces k c n into (suc (length b.lines)) (first_copy_piece fs c b) (begins b d) (omega arith) y e

      of : ((b : BlockText) × Among b c.unit.blocks × Among y (flat_block (flat_copy k fs) fs c b)) → IsCopyPiece y
      of r = first-or r.0 r.1 r.2

  every-in : (k : ℕ) (c : Copy) → Nested fs u k c → (y : FlatBlockText) → Among y (flat_copy (suc k) fs c) → IsCopyPiece y
  every-in zero c n y a = in-copy zero c n (λ s h z e y b. elim b [ ]) y a
  every-in (suc k) c n y a = in-copy (suc k) c n (λ s h z e y b. every-in k z.copy (called k c n s h z e) y b) y a

  -- each block of the flat text
  pub every-copy_piece : (y : FlatBlockText) → Among y (flat_copy (suc max_nested) fs (top_copy u)) → IsCopyPiece y
  every-copy_piece y a = every-in max_nested (top_copy u) outermost y a

-- ---- each line is sound

module _ (fs : List UnitText) (u x : UnitText)
    (typed : (k : ℕ) (c : Copy) → Nested fs u k c → (n : List ℕ) (t : TypeTree) → value_type c.unit n ≡ Some t → value_type x (c.value n) ≡ Some t)
    (gives : (l : LineText) → Among l (lines_of x.blocks) → (n : List ℕ) → l.result ≡ Some n → value_type x n ≡ result_type l.inst)
    (code : (k : ℕ) (c : Copy) → Nested fs u k c → (b : BlockText) (before after : List LineText) (l : LineText) → Among b c.unit.blocks → b.lines ≡ before ++ l ∷ after → IsCode l.inst)
    (sound : (k : ℕ) (c : Copy) → Nested fs u k c → (b : BlockText) (before after : List LineText) (l : LineText) → Among b c.unit.blocks → b.lines ≡ before ++ l ∷ after → InstIsSound c.unit l)
    (merges : (k : ℕ) (c : Copy) → Nested fs u (suc k) c → (s : CopyPiece) → CopyPieceOf fs c s → (z : Cut) → next_cut fs c s ≡ Some z → (m : MergeText)
    → merge_of fs c z.copy z.line.inst z.line.result ≡ Some m
    → (is_value_type m.ty ≡ true) × ((e : EdgeText) → Among e m.edges → IsOf x m.ty e.value))
    (deep : (c : Copy) → Nested fs u zero c → (s : CopyPiece) → CopyPieceOf fs c s → (z : Cut) → next_cut fs c s ≡ Some z → ⊥) where
  -- the merge behind a call
  merge-row : (k : ℕ) (c : Copy) → Nested fs u k c → (s : CopyPiece) → CopyPieceOf fs c s → (m : MergeText) → s.merge ≡ Some m → RowIs x (phi_text m.ty m.edges)
  merge-row k c n _ (begins b h) m e = absurd (none-some m e)
  merge-row zero c n _ (goes_on s h z r) m e = elim (deep c n s h z r) [ ]
  merge-row (suc k) c n _ (goes_on s h z r) m e = let w = merges k c n s h z r m e in (w.0, each-among (λ (e : EdgeText). IsOf x m.ty e.value) m.edges w.1)

  -- a line of a piece
  pub line-sound : (k : ℕ) (c : Copy) → Nested fs u k c → (s : CopyPiece) → CopyPieceOf fs c s → (before after : List LineText) (l : LineText)
      → (as_block (flat_copy_piece fs k c s)).lines ≡ before ++ l ∷ after → Among l (lines_of x.blocks) → InstIsSound x l
  line-sound k c n s h before after l e a = by
      (line-of fs c s (flat_copy k fs) before after l (ap (with_merge s.merge) (sym (piece-lines fs c (label_or s.block.label) (flat_copy k fs) s.number s.rest)) ∙ e))
    where
      by : LineOf fs c s before l → InstIsSound x l
      by (is_merge m q r w) = let i : l.inst ≡ phi_text m.ty m.edges = ap (λ (j : LineText). j.inst) r in record {
        row = subst (RowIs x) (sym i) (merge-row k c n s h m q);
        part = subst (HasPart x) (sym i) tt;
        written = subst IsWrittenRight (sym i) tt;
        gives = gives l a;
      }
      by (is_branch z q r) = let i : l.inst ≡ (branch_into z.copy).inst = ap (λ (j : LineText). j.inst) r in record {
        row = subst (RowIs x) (sym i) tt;
        part = subst (HasPart x) (sym i) tt;
        written = subst IsWrittenRight (sym i) tt;
        gives = gives l a;
      }
      by (is_copied start j rest q r w) =
          let lines : s.block.lines ≡ (s.before ++ start) ++ j ∷ (rest ++ behind fs c (label_or s.block.label) (next_cut fs c s)) =
          (copy_piece-block fs c s h).1
          ∙ ap (λ ls. s.before ++ ls) (lines-cut fs c (label_or s.block.label) s.number s.rest ∙ ap (λ ls. ls ++ behind fs c (label_or s.block.label) (next_cut fs c s)) q
          ∙ nested-right start (j ∷ rest) _)
          ∙ sym (nested-right s.before start _) in
          let among : Among s.block c.unit.blocks = (copy_piece-block fs c s h).0 in
          let o : InstIsSound c.unit j = sound k c n s.block (s.before ++ start) _ j among lines in
          let d : IsCode j.inst = code k c n s.block (s.before ++ start) _ j among lines in
          let i : l.inst ≡ (copied_line fs c j).inst = ap (λ (j : LineText). j.inst) r in
          record {
            row = subst (RowIs x) (sym i) (row-copied c.unit x c (typed k c n) fs j.inst d o.row);
            part = subst (HasPart x) (sym i) (part-copied c.unit x c (typed k c n) fs j.inst d o.part);
            written = subst IsWrittenRight (sym i) (written-copied c fs j.inst d o.written);
            gives = gives l a;
          }
