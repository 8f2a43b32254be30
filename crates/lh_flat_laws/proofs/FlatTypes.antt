-- Values have the same types in a flat text.
use Rattle.std.proofs.Common.{◌≡◌, ◌<◌, ℕ, zero, suc, List, [], ◌∷◌, ◌++◌, length, map, Bool, true, false, if◌then◌else◌, Option, Some, None, option_map, option_and_then, refl, ap, sym, ◌∙◌, inl, inr, subst, arith}
use Rattle.std.proofs.lemmas.Option.{same_Some, none-some}
use Rattle.lh_types.specs.Types.{TypeTree}
use Rattle.lh_unit.specs.Contents.{OperandText, InstText, LineText, BlockText, ArgText, UnitText, is_result_name}
use Rattle.lh_unit_names.specs.Names.{same_name}
use Rattle.lh_unit.specs.Named.{label_or}
use Rattle.lh_unit.specs.Hierarchy.{lines_of}
use Rattle.lh_unit.specs.Typing.{value_type, result_type, or_else, arg_named, inst_giving, line_giving}
use Rattle.lh_unit_names.proofs.NameLists.{same_name-is}
use Rattle.lh_flat.specs.Copies.{Copy, top_copy, argument_or, copied_line}
use Rattle.lh_flat.specs.Flat.{MergeText, merge_of, with_merge, flat_copy, max_nested, as_block}
use Rattle.lh_verify_laws.specs.Calls.{ArgumentsAre}
use Rattle.lh_flat_laws.proofs.Cuts.{Cut, behind, lines-cut, piece-lines}
use Rattle.lh_flat_laws.proofs.CopyPieces.{CopyPiece, next_cut, next_lines, first_copy_piece, after_copy_piece, CopyPieceOf, begins, goes_on, Nested, outermost, called, flat_copy_piece, copy_piece-stands}
use Rattle.lh_flat_laws.proofs.SoundCopies.{IsCode, result-copied}
use Rattle.lh_flat_laws.proofs.Splits.{InParts, in_first, in_second, in-parts, merge_line}
use Rattle.lh_flat_laws.specs.Members.{Among}
use Rattle.lh_flat_laws.proofs.Members.{among-left, among-right, among-image, among-middle}

-- ---- where the lines of a block stand in a copy

module _ (fs : List UnitText) (c : Copy) where
  -- a line stands in a piece, as one that is copied or as the call behind it
  pub data Found (l : LineText) : Type 0 where
    in_copy_piece : (s : CopyPiece) → CopyPieceOf fs c s → (a r : List LineText) → next_lines fs c s ≡ a ++ l ∷ r → Found l
    is_cut : (s : CopyPiece) → CopyPieceOf fs c s → (z : Cut) → next_cut fs c s ≡ Some z → z.line ≡ l → Found l

  shorter : (xs : List LineText) (x : LineText) (start pre : List LineText) (k : ℕ) → pre ≡ xs ++ x ∷ start → length pre < suc k → length start < k
  shorter [] x start pre k e h = let q : length pre ≡ suc (length start) = ap length e in omega (arith, q, h)
  shorter (y ∷ xs) x start pre k e h = let q : length pre ≡ suc (length (xs ++ x ∷ start)) = ap length e in let r : length start < length (xs ++ x ∷ start) = longer xs in omega (arith, q, r, h)
    where
      longer : (xs : List LineText) → length start < length (xs ++ x ∷ start)
      longer [] = omega arith
      longer (y ∷ xs) = let r = longer xs in omega (arith, r)

  pub found-from : (fuel : ℕ) (s : CopyPiece) → CopyPieceOf fs c s → (pre : List LineText) (l : LineText) (post : List LineText) → s.rest ≡ pre ++ l ∷ post → length pre < fuel → Found l
  found-from zero s h pre l post e q = absurd (omega (arith, q))
  found-from (suc k) s h pre l post e q =
      by (in-parts (next_lines fs c s) (behind fs c (label_or s.block.label) (next_cut fs c s)) pre l post (sym (lines-cut fs c (label_or s.block.label) s.number s.rest) ∙ e))
      (λ z r start f m. found-from k (after_copy_piece fs c s z) (goes_on s h z r) start l post f m)
    where
      same : (x y : LineText) (xs ys : List LineText) → x ∷ xs ≡ y ∷ ys → x ≡ y
      same x y xs ys e = cc

      tails : (x y : LineText) (xs ys : List LineText) → x ∷ xs ≡ y ∷ ys → xs ≡ ys
      tails x y xs ys e = cc

      at-cut : (o : Option Cut) → next_cut fs c s ≡ o → (start : List LineText) → behind fs c (label_or s.block.label) o ≡ start ++ l ∷ post → pre ≡ next_lines fs c s ++ start
          → ((z : Cut) → next_cut fs c s ≡ Some z → (start : List LineText) → z.rest ≡ start ++ l ∷ post → length start < k → Found l) → Found l
      at-cut None r [] f p go = absurd cc
      at-cut None r (x ∷ start) f p go = absurd cc
      at-cut (Some z) r [] f p go = is_cut s h z r (same z.line l z.rest post f)
      at-cut (Some z) r (x ∷ start) f p go = go z r start (tails z.line x z.rest (start ++ l ∷ post) f) (shorter (next_lines fs c s) x start pre k p q)

      by : InParts (next_lines fs c s) (behind fs c (label_or s.block.label) (next_cut fs c s)) pre l post
          → ((z : Cut) → next_cut fs c s ≡ Some z → (start : List LineText) → z.rest ≡ start ++ l ∷ post → length start < k → Found l) → Found l
      by (in_first rest f g) go = in_copy_piece s h pre rest f
      by (in_second start f g) go = at-cut (next_cut fs c s) refl start f g go

  pub found-in : (b : BlockText) → Among b c.unit.blocks → (pre : List LineText) (l : LineText) (post : List LineText) → b.lines ≡ pre ++ l ∷ post → Found l
  found-in b a pre l post e = found-from (suc (length pre)) (first_copy_piece fs c b) (begins b a) pre l post e (omega arith)

-- ---- lines of the flat text

pub among-lines : (bs : List BlockText) (b : BlockText) (l : LineText) → Among b bs → Among l b.lines → Among l (lines_of bs)
among-lines [] b l a h = elim a [ ]
among-lines (c ∷ bs) b l (inl e) h = among-left l c.lines (lines_of bs) (subst (λ (x : BlockText). Among l x.lines) (sym e) h)
among-lines (c ∷ bs) b l (inr a) h = among-right l c.lines (lines_of bs) (among-lines bs b l a h)

pub merge-among : (m : Option MergeText) (ls : List LineText) (l : LineText) → Among l ls → Among l (with_merge m ls)
merge-among None ls l a = a
merge-among (Some m) ls l a = inr a

-- ---- the line that gives a value

pub record GivenAt (bs : List BlockText) (n : List ℕ) (i : InstText) : Type 0 where
  pub block : BlockText
  pub is_one : Among block bs
  pub before : List LineText
  pub line : LineText
  pub after : List LineText
  pub splits : block.lines ≡ before ++ line ∷ after
  pub inst : line.inst ≡ i
  pub result : is_result_name n line.result ≡ true

pub record LineAt (ls : List LineText) (n : List ℕ) (i : InstText) : Type 0 where
  pub before : List LineText
  pub line : LineText
  pub after : List LineText
  pub splits : ls ≡ before ++ line ∷ after
  pub inst : line.inst ≡ i
  pub result : is_result_name n line.result ≡ true

line-at : (n : List ℕ) (ls : List LineText) (i : InstText) → line_giving n ls ≡ Some i → LineAt ls n i
line-at n [] i e = absurd (none-some i e)
line-at n (l ∷ ls) i e = by (is_result_name n l.result) refl e (line-at n ls i)
  where
    by : (b : Bool) → is_result_name n l.result ≡ b → (if b then Some l.inst else line_giving n ls) ≡ Some i → (line_giving n ls ≡ Some i → LineAt ls n i) → LineAt (l ∷ ls) n i
    by true q r go = record { before = []; line = l; after = ls; splits = refl; inst = same_Some l.inst i r; result = q }
    by false q r go = let z = go r in record { before = l ∷ z.before; line = z.line; after = z.after; splits = ap (λ ms. l ∷ ms) z.splits; inst = z.inst; result = z.result }

pub given-at : (n : List ℕ) (bs : List BlockText) (i : InstText) → inst_giving n bs ≡ Some i → GivenAt bs n i
given-at n [] i e = absurd (none-some i e)
given-at n (b ∷ bs) i e = by (line_giving n b.lines) refl e (given-at n bs i)
  where
    by : (o : Option InstText) → line_giving n b.lines ≡ o → or_else o (inst_giving n bs) ≡ Some i → (inst_giving n bs ≡ Some i → GivenAt bs n i) → GivenAt (b ∷ bs) n i
    by (Some j) q r go = let z = line-at n b.lines i (q ∙ r) in
        record { block = b; is_one = inl refl; before = z.before; line = z.line; after = z.after; splits = z.splits; inst = z.inst; result = z.result }
    by None q r go = let z = go r in record { block = z.block; is_one = inr z.is_one; before = z.before; line = z.line; after = z.after; splits = z.splits; inst = z.inst; result = z.result }

-- an argument of a copy has the type of the value that the call names
pub argument-typed : (v : UnitText) (ps : List ArgText) (os : List OperandText) (c : Copy) (other n : List ℕ) (a : ArgText) → ArgumentsAre v os ps → arg_named n ps ≡ Some a
    → (m : List ℕ) × (value_type v m ≡ Some a.ty) × (argument_or ps (map (λ (o : OperandText). c.value o.value) os) other n ≡ c.value m)
argument-typed v [] os c other n a h e = absurd (none-some a e)
argument-typed v (p ∷ ps) [] c other n a h e = elim h [ ]
argument-typed v (p ∷ ps) (o ∷ os) c other n a h e = by (same_name p.name n) e (argument-typed v ps os c other n a h.1)
  where
    by : (b : Bool) → (if b then Some p else arg_named n ps) ≡ Some a
        → (arg_named n ps ≡ Some a → (m : List ℕ) × (value_type v m ≡ Some a.ty) × (argument_or ps (map (λ (o : OperandText). c.value o.value) os) other n ≡ c.value m))
        → (m : List ℕ) × (value_type v m ≡ Some a.ty) × ((if b then c.value o.value else argument_or ps (map (λ (o : OperandText). c.value o.value) os) other n) ≡ c.value m)
    by true q go = (o.value, h.0 ∙ ap (λ (x : ArgText). Some x.ty) (same_Some p a q), refl)
    by false q go = go q

-- ---- the types

module _ (fs : List UnitText) (u x : UnitText) (args : x.args ≡ u.args) (blocks : x.blocks ≡ map as_block (flat_copy (suc max_nested) fs (top_copy u)))
    (gives : (l : LineText) → Among l (lines_of x.blocks) → (n : List ℕ) → l.result ≡ Some n → value_type x n ≡ result_type l.inst)
    (code : (k : ℕ) (c : Copy) → Nested fs u k c → (b : BlockText) (before after : List LineText) (l : LineText) → Among b c.unit.blocks → b.lines ≡ before ++ l ∷ after → IsCode l.inst)
    (arguments : (k : ℕ) (c : Copy) → Nested fs u (suc k) c → (s : CopyPiece) → CopyPieceOf fs c s → (z : Cut) → next_cut fs c s ≡ Some z → (n : List ℕ) (a : ArgText)
    → arg_named n z.copy.unit.args ≡ Some a
    → (m : List ℕ) × (value_type c.unit m ≡ Some a.ty) × (z.copy.value n ≡ c.value m))
    (results : (k : ℕ) (c : Copy) → Nested fs u k c → (s : CopyPiece) → CopyPieceOf fs c s → (z : Cut) → next_cut fs c s ≡ Some z → (n : List ℕ) → is_result_name n z.line.result ≡ true
    → (m : MergeText) × (merge_of fs c z.copy z.line.inst z.line.result ≡ Some m) × (m.value ≡ c.value n) × (result_type z.line.inst ≡ Some m.ty)) where
  -- a line of a piece is one of the flat text
  pub copy_piece-line : (k : ℕ) (c : Copy) → Nested fs u k c → (s : CopyPiece) → CopyPieceOf fs c s → (l : LineText) → Among l (as_block (flat_copy_piece fs k c s)).lines → Among l (lines_of x.blocks)
  copy_piece-line k c n s h l a =
      subst (λ bs. Among l (lines_of bs)) (sym blocks)
      (among-lines (map as_block (flat_copy (suc max_nested) fs (top_copy u))) (as_block (flat_copy_piece fs k c s)) l
      (among-image as_block (flat_copy (suc max_nested) fs (top_copy u)) (flat_copy_piece fs k c s) (copy_piece-stands fs u k c n s h)) a)

  result-of : (c : Copy) (n : List ℕ) (r : Option (List ℕ)) → is_result_name n r ≡ true → option_map c.value r ≡ Some (c.value n)
  result-of c n None h = absurd cc
  result-of c n (Some r) h = ap (λ m. Some (c.value m)) (same_name-is r n h)

  result-typed : (k : ℕ) (c : Copy) → Nested fs u k c → (n : List ℕ) (i : InstText) (t : TypeTree) → GivenAt c.unit.blocks n i → result_type i ≡ Some t → value_type x (c.value n) ≡ Some t
  result-typed k c nest n i t g e = by (found-in fs c g.block g.is_one g.before g.line g.after g.splits)
    where
      by : Found fs c g.line → value_type x (c.value n) ≡ Some t
      by (in_copy_piece s h a r q) =
          let l : LineText = copied_line fs c g.line in
          let among : Among (copied_line fs c g.line) (as_block (flat_copy_piece fs k c s)).lines =
          merge-among s.merge _ l (subst (λ ls. Among l ls) (sym (piece-lines fs c (label_or s.block.label) (flat_copy k fs) s.number s.rest))
          (among-left l _ _ (subst (λ ls. Among l (map (copied_line fs c) ls)) (sym q) (among-image (copied_line fs c) (a ++ g.line ∷ r) g.line (among-middle a r g.line))))) in
          gives l (copy_piece-line k c nest s h l among) (c.value n) (result-of c n g.line.result g.result)
          ∙ result-copied c fs g.line.inst (code k c nest g.block g.before g.after g.line g.is_one g.splits) ∙ ap result_type g.inst ∙ e
      by (is_cut s h z q w) =
          let r = results k c nest s h z q n (ap (λ (l : LineText). is_result_name n l.result) w ∙ g.result) in
          let l : LineText = merge_line r.0 in
          let among : Among (merge_line r.0) (as_block (flat_copy_piece fs k c (after_copy_piece fs c s z))).lines = subst
          (λ o. Among (merge_line r.0) (with_merge o (flat_copy_piece fs k c (after_copy_piece fs c s z)).lines)) (sym r.1) (inl refl) in
          gives l (copy_piece-line k c nest (after_copy_piece fs c s z) (goes_on s h z q) l among) (c.value n) (ap Some r.2)
          ∙ sym r.3 ∙ ap (λ (l : LineText). result_type l.inst) w ∙ ap result_type g.inst ∙ e

  -- a value has its type under its new name, where an argument has
  by-type : (k : ℕ) (c : Copy) → Nested fs u k c → (n : List ℕ) (t : TypeTree) → ((a : ArgText) → arg_named n c.unit.args ≡ Some a → value_type x (c.value n) ≡ Some a.ty)
      → value_type c.unit n ≡ Some t → value_type x (c.value n) ≡ Some t
  by-type k c nest n t argument e = by (arg_named n c.unit.args) refl e
    where
      inst : (o : Option InstText) → inst_giving n c.unit.blocks ≡ o → option_and_then result_type o ≡ Some t → value_type x (c.value n) ≡ Some t
      inst None q r = absurd (none-some t r)
      inst (Some i) q r = result-typed k c nest n i t (given-at n c.unit.blocks i q) r

      by : (o : Option ArgText) → arg_named n c.unit.args ≡ o → or_else (option_map (λ (a : ArgText). a.ty) o) (option_and_then result_type (inst_giving n c.unit.blocks)) ≡ Some t
          → value_type x (c.value n) ≡ Some t
      by (Some a) q r = argument a q ∙ r
      by None q r = inst (inst_giving n c.unit.blocks) refl r

  top-argument : (n : List ℕ) (a : ArgText) → arg_named n u.args ≡ Some a → value_type x n ≡ Some a.ty
  top-argument n a q = ap (λ o. or_else (option_map (λ (a : ArgText). a.ty) o) (option_and_then result_type (inst_giving n x.blocks))) (ap (arg_named n) args ∙ q)

  -- a value has its type under its new name
  pub typed : (k : ℕ) (c : Copy) → Nested fs u k c → (n : List ℕ) (t : TypeTree) → value_type c.unit n ≡ Some t → value_type x (c.value n) ≡ Some t
  typed _ _ outermost n t e = by-type max_nested (top_copy u) outermost n t (λ a q. top-argument n a q) e
  typed _ _ (called k c nest s h z q) n t e =
      by-type k z.copy (called k c nest s h z q) n t
      (λ a r. let m = arguments k c nest s h z q n a r in ap (value_type x) m.2 ∙ typed (suc k) c nest m.0 a.ty m.1) e
