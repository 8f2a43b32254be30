-- Where the lines of a flat text lead, and what they call.
use Rattle.std.proofs.Common.{◌≡◌, ◌<◌, ℕ, zero, suc, ◌+◌, List, [], ◌∷◌, ◌++◌, length, map, true, Option, Some, None, refl, ap, sym, ◌∙◌, inl, inr, subst, arith}
use Rattle.std.specs.Option.{option_map_or}
use Rattle.lh_types.specs.Types.{TypeTree}
use Rattle.lh_unit_names.specs.declared.name.UnitName.{UnitName}
use Rattle.lh_unit.specs.Contents.{OperandText, EdgeText, InstText, const_text, pure_text, var_text, ld_text, st_text, sig_text, prb_text, drv_text, reg_text, child_text, call_text, phi_text, br_text, branch_text, wait_text, halt_text, ret_text, LineText, BlockText, ArgText, UnitText}
use Rattle.lh_unit.specs.Named.{block_of, label_or}
use Rattle.lh_unit_names.specs.UnitNames.{is_assert}
use Rattle.lh_unit.specs.Typing.{value_type}
use Rattle.lh_unit.specs.Within.{Each}
use Rattle.lh_unit.specs.WellFormed.{labels_named, assert_args}
use Rattle.lh_verify_laws.specs.Calls.{ArgumentsAre, AssertIsRight}
use Rattle.lh_flat.specs.Copies.{Copy, call_path, first_piece, last_piece, opened, copied_operand, copied_edge, copied}
use Rattle.lh_flat.specs.Flat.{first_label, branch_into, given_by, as_block}
use Rattle.lh_flat_laws.specs.Formed.{IsWithoutCalls}
use Rattle.lh_flat_laws.proofs.Cuts.{Cut, behind, lines-cut, calm, calm_by}
use Rattle.lh_flat_laws.proofs.CopyPieces.{CopyPiece, next_cut, next_lines, first_copy_piece, after_copy_piece, CopyPieceOf, begins, goes_on, Nested, outermost, called, flat_copy_piece}
use Rattle.lh_flat_laws.proofs.SoundCopies.{IsCode}
use Rattle.lh_flat_laws.proofs.Phis.{own-last, given-by}
use Rattle.lh_flat_laws.specs.Members.{Among}

-- the last piece of a block
pub record LastCopyPiece (fs : List UnitText) (c : Copy) (b : BlockText) : Type 0 where
  pub piece : CopyPiece
  pub of : CopyPieceOf fs c piece
  pub same : piece.block ≡ b
  pub none : next_cut fs c piece ≡ None

shorter : (fs : List UnitText) (c : Copy) (s : CopyPiece) (z : Cut) → next_cut fs c s ≡ Some z → (k : ℕ) → length s.rest < suc k → length z.rest < k
shorter fs c s z e k l =
    let w : length s.rest ≡ length (next_lines fs c s ++ z.line ∷ z.rest) =
    ap length (lines-cut fs c (label_or s.block.label) s.number s.rest ∙ ap (λ o. next_lines fs c s ++ behind fs c (label_or s.block.label) o) e) in
    let q : length z.rest < length (next_lines fs c s ++ z.line ∷ z.rest) = longer (next_lines fs c s) in
    omega (arith, w, q, l)
  where
    longer : (xs : List LineText) → length z.rest < length (xs ++ z.line ∷ z.rest)
    longer [] = omega arith
    longer (x ∷ xs) = let r = longer xs in omega (arith, r)

last-from : (fs : List UnitText) (c : Copy) (fuel : ℕ) (s : CopyPiece) → CopyPieceOf fs c s → length s.rest < fuel → LastCopyPiece fs c s.block
last-from fs c zero s h l = absurd (omega (arith, l))
last-from fs c (suc k) s h l = by (next_cut fs c s) refl (λ z e. last-from fs c k (after_copy_piece fs c s z) (goes_on s h z e) (shorter fs c s z e k l))
  where
    by : (o : Option Cut) → next_cut fs c s ≡ o → ((z : Cut) → next_cut fs c s ≡ Some z → LastCopyPiece fs c s.block) → LastCopyPiece fs c s.block
    by None e go = record { piece = s; of = h; same = refl; none = e }
    by (Some z) e go = go z e

pub last-copy_piece : (fs : List UnitText) (c : Copy) (b : BlockText) → Among b c.unit.blocks → LastCopyPiece fs c b
last-copy_piece fs c b a = last-from fs c (suc (length b.lines)) (first_copy_piece fs c b) (begins b a) (omega arith)

module _ (fs : List UnitText) (u x : UnitText)
    (once : (k : ℕ) (c : Copy) → Nested fs u k c → (s : CopyPiece) → CopyPieceOf fs c s → block_of s.label x.blocks ≡ Some (as_block (flat_copy_piece fs k c s)))
    (leads : (k : ℕ) (c : Copy) → Nested fs u k c → (b : BlockText) (before after : List LineText) (l : LineText) → Among b c.unit.blocks → b.lines ≡ before ++ l ∷ after → (n : List ℕ)
    → Among n (labels_named l.inst) → (d : BlockText) × (block_of n c.unit.blocks ≡ Some d) × Among d c.unit.blocks × (label_or d.label ≡ n))
    (no_ret : (b : BlockText) (before after : List LineText) (l : LineText) → Among b u.blocks → b.lines ≡ before ++ l ∷ after → (o : Option OperandText) → l.inst ≡ ret_text o → ⊥) where
  -- a block of the flat text has the label
  abbrev pub IsBlock : List ℕ → Type 0
  IsBlock n = (b : BlockText) × (block_of n x.blocks ≡ Some b)

  copy_piece-is : (k : ℕ) (c : Copy) → Nested fs u k c → (s : CopyPiece) → CopyPieceOf fs c s → (n : List ℕ) → s.label ≡ n → IsBlock n
  copy_piece-is k c nest s h n e = (as_block (flat_copy_piece fs k c s), ap (λ m. block_of m x.blocks) (sym e) ∙ once k c nest s h)

  first-is : (k : ℕ) (c : Copy) → Nested fs u k c → (d : BlockText) → Among d c.unit.blocks → (n : List ℕ) → label_or d.label ≡ n → IsBlock (first_piece c n)
  first-is k c nest d a n e = copy_piece-is k c nest (first_copy_piece fs c d) (begins d a) (first_piece c n) (ap (first_piece c) e)

  last-is : (k : ℕ) (c : Copy) → Nested fs u k c → (d : BlockText) → Among d c.unit.blocks → IsBlock (last_piece fs c d)
  last-is k c nest d a = let r = last-copy_piece fs c d a in copy_piece-is k c nest r.piece r.of (last_piece fs c d) (own-last fs c r.piece r.of r.none ∙ ap (last_piece fs c) r.same)

  -- behind the call of a copy
  back-is : (k : ℕ) (c : Copy) → Nested fs u k c → (b : BlockText) (before after : List LineText) (l : LineText) → Among b c.unit.blocks → b.lines ≡ before ++ l ∷ after → (o : Option OperandText)
      → l.inst ≡ ret_text o → IsBlock c.path
  back-is _ _ outermost b before after l a e o i = elim (no_ret b before after l a e o i) [ ]
  back-is _ _ (called k c nest s h z q) b before after l a e o i = copy_piece-is (suc k) c nest (after_copy_piece fs c s z) (goes_on s h z q) z.copy.path refl

  edges-in : (k : ℕ) (c : Copy) → Nested fs u k c → (es : List EdgeText)
      → ((n : List ℕ) → Among n (map (λ (e : EdgeText). e.block) es) → (d : BlockText) × (block_of n c.unit.blocks ≡ Some d) × Among d c.unit.blocks × (label_or d.label ≡ n))
      → Each IsBlock (map (λ (e : EdgeText). e.block) (map (copied_edge fs c) es))
  edges-in k c nest [] f = tt
  edges-in k c nest (e ∷ es) f =
      let d = f e.block (inl refl) in
      (subst IsBlock (sym (ap (λ o. option_map_or (last_piece fs c) o (first_piece c e.block)) d.1)) (last-is k c nest d.0 d.2), edges-in k c nest es (λ n a. f n (inr a)))

  -- a copied line
  pub copied-leads : (k : ℕ) (c : Copy) → Nested fs u k c → (b : BlockText) (before after : List LineText) (l : LineText) → Among b c.unit.blocks → b.lines ≡ before ++ l ∷ after → IsCode l.inst
      → Each IsBlock (labels_named (copied fs c l.inst))
  copied-leads k c nest b before after l a e code = by l.inst refl (leads k c nest b before after l a e)
    where
      one : (n : List ℕ) → ((d : BlockText) × (block_of n c.unit.blocks ≡ Some d) × Among d c.unit.blocks × (label_or d.label ≡ n)) → IsBlock (first_piece c n)
      one n d = first-is k c nest d.0 d.2 n d.3

      by : (i : InstText) → l.inst ≡ i → ((n : List ℕ) → Among n (labels_named l.inst) → (d : BlockText) × (block_of n c.unit.blocks ≡ Some d) × Among d c.unit.blocks × (label_or d.label ≡ n))
          → Each IsBlock (labels_named (copied fs c i))
      by (br_text to) q f = (one to (f to (subst (λ i. Among to (labels_named i)) (sym q) (inl refl))), tt)
      by (branch_text cond y z) q f = (one y (f y (subst (λ i. Among y (labels_named i)) (sym q) (inl refl))), (one z (f z (subst (λ i. Among z (labels_named i)) (sym q) (inr (inl refl)))), tt))
      by (wait_text to after signals) q f = (one to (f to (subst (λ i. Among to (labels_named i)) (sym q) (inl refl))), tt)
      by (ret_text o) q f = (back-is k c nest b before after l a e o q, tt)
      by (phi_text ty es) q f = edges-in k c nest es (λ n m. f n (subst (λ i. Among n (labels_named i)) (sym q) m))
      by (const_text y) q f = tt
      by (pure_text y z) q f = tt
      by (var_text y) q f = tt
      by (ld_text y) q f = tt
      by (st_text y z) q f = tt
      by (sig_text y) q f = tt
      by (prb_text y) q f = tt
      by (drv_text y z v w) q f = tt
      by (reg_text y z) q f = tt
      by (child_text y z v) q f = tt
      by (call_text y z v) q f = tt
      by halt_text q f = tt

  -- a branch into a copy
  pub branch-leads : (k : ℕ) (d : Copy) → Nested fs u k d → (b : BlockText) × (more : List BlockText) × (d.unit.blocks ≡ b ∷ more) → Each IsBlock (labels_named (branch_into d).inst)
  branch-leads k d nest r = (subst (λ bs. IsBlock (first_piece d (first_label bs))) (sym r.2) (first-is k d nest r.0 (subst (λ bs. Among r.0 bs) (sym r.2) (inl refl)) (label_or r.0.label) refl), tt)

  -- a merge
  pub merge-leads : (k : ℕ) (d : Copy) → Nested fs u k d → Each IsBlock (map (λ (e : EdgeText). e.block) (given_by fs d))
  merge-leads k d nest = blocks-of (given_by fs d) (λ e a. let g = given-by fs d d.unit.blocks e a in subst IsBlock (sym g.given.block) (last-is k d nest g.from g.is_one))
    where
      blocks-of : (es : List EdgeText) → ((e : EdgeText) → Among e es → IsBlock e.block) → Each IsBlock (map (λ (e : EdgeText). e.block) es)
      blocks-of [] f = tt
      blocks-of (e ∷ es) f = (f e (inl refl), blocks-of es (λ m a. f m (inr a)))

-- ---- calls

-- a line that is not replaced, of a well-formed module, calls no function
pub calm-opened : (fs : List UnitText) (c : Copy) (label : List ℕ) (k : ℕ) (ls : List LineText) (start rest : List LineText) (l : LineText) → calm fs c label k ls ≡ start ++ l ∷ rest → (j : ℕ)
    × (opened fs c (call_path c label j) l.inst ≡ None)
calm-opened fs c label k [] [] rest l e = absurd cc
calm-opened fs c label k [] (x ∷ start) rest l e = absurd cc
calm-opened fs c label k (m ∷ ls) start rest l e = by (opened fs c (call_path c label k) m.inst) refl start e (λ s q. calm-opened fs c label (k + 1) ls s rest l q)
  where
    heads : (a b : LineText) (xs ys : List LineText) → a ∷ xs ≡ b ∷ ys → a ≡ b
    heads a b xs ys h = cc

    tails : (a b : LineText) (xs ys : List LineText) → a ∷ xs ≡ b ∷ ys → xs ≡ ys
    tails a b xs ys h = cc

    by : (o : Option Copy) → opened fs c (call_path c label k) m.inst ≡ o → (start : List LineText) → calm_by fs c label o m (calm fs c label (k + 1) ls) ≡ start ++ l ∷ rest
        → ((s : List LineText) → calm fs c label (k + 1) ls ≡ s ++ l ∷ rest → (j : ℕ) × (opened fs c (call_path c label j) l.inst ≡ None)) → (j : ℕ) × (opened fs c (call_path c label j) l.inst ≡ None)
    by None q [] e go = (k, ap (λ (n : LineText). opened fs c (call_path c label k) n.inst) (sym (heads m l (calm fs c label (k + 1) ls) rest e)) ∙ q)
    by None q (y ∷ start) e go = go start (tails m y (calm fs c label (k + 1) ls) (start ++ l ∷ rest) e)
    by (Some d) q [] e go = absurd cc
    by (Some d) q (y ∷ start) e go = absurd cc

arguments-copied : (v x : UnitText) (c : Copy) → ((n : List ℕ) (t : TypeTree) → value_type v n ≡ Some t → value_type x (c.value n) ≡ Some t) → (os : List OperandText) (ps : List ArgText)
    → ArgumentsAre v os ps → ArgumentsAre x (map (copied_operand c) os) ps
arguments-copied v x c typed [] [] h = tt
arguments-copied v x c typed [] (p ∷ ps) h = elim h [ ]
arguments-copied v x c typed (o ∷ os) [] h = elim h [ ]
arguments-copied v x c typed (o ∷ os) (p ∷ ps) h = (typed o.value p.ty h.0, arguments-copied v x c typed os ps h.1)

pub copied-calls : (fs : List UnitText) (v x : UnitText) (c : Copy) → ((n : List ℕ) (t : TypeTree) → value_type v n ≡ Some t → value_type x (c.value n) ≡ Some t) → (path : List ℕ) (i : InstText)
    → IsCode i
    → (asserts : (f : UnitName) (ty : TypeTree) (args : List OperandText) → i ≡ call_text f ty args → (is_assert f ≡ true) × AssertIsRight v ty args) → IsWithoutCalls x (copied fs c i)
copied-calls fs v x c typed path (call_text f ty args) k a = let r = a f ty args refl in (r.0, record { gives = r.1.gives; args_are = arguments-copied v x c typed args assert_args r.1.args_are })
copied-calls fs v x c typed path (const_text y) k a = tt
copied-calls fs v x c typed path (pure_text y z) k a = tt
copied-calls fs v x c typed path (var_text y) k a = tt
copied-calls fs v x c typed path (ld_text y) k a = tt
copied-calls fs v x c typed path (st_text y z) k a = tt
copied-calls fs v x c typed path (sig_text y) k a = elim k [ ]
copied-calls fs v x c typed path (prb_text y) k a = tt
copied-calls fs v x c typed path (drv_text y z t w) k a = tt
copied-calls fs v x c typed path (reg_text y z) k a = elim k [ ]
copied-calls fs v x c typed path (child_text y z t) k a = elim k [ ]
copied-calls fs v x c typed path (phi_text y z) k a = tt
copied-calls fs v x c typed path (br_text y) k a = tt
copied-calls fs v x c typed path (branch_text y z t) k a = tt
copied-calls fs v x c typed path (wait_text y z t) k a = tt
copied-calls fs v x c typed path halt_text k a = tt
copied-calls fs v x c typed path (ret_text y) k a = tt
