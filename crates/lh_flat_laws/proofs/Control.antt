-- At each place of a flat text the operands are there.
use Rattle.std.proofs.Common.{◌≡◌, ◌⊎◌, ℕ, zero, suc, List, ◌∷◌, ◌++◌, map, Bool, true, false, Option, Some, refl, ap, sym, ◌∙◌, inl, inr, subst}
use Rattle.std.proofs.lemmas.Bool.{or_cases}
use Rattle.lh_types.specs.Types.{TypeTree}
use Rattle.lh_unit.specs.declared.inst.UnitKind.TheVariants as kind
use Rattle.lh_unit.specs.Contents.{OperandText, EdgeText, InstText, const_text, pure_text, var_text, ld_text, st_text, sig_text, prb_text, drv_text, reg_text, child_text, call_text, phi_text, br_text, branch_text, wait_text, halt_text, ret_text, LineText, BlockText, UnitText, lines_define, blocks_define, args_define}
use Rattle.lh_unit.specs.Named.{block_of, label_or}
use Rattle.lh_unit.specs.WellFormed.{values_named, is_phi}
use Rattle.lh_unit.specs.Within.{Each}
use Rattle.lh_verify_laws.specs.Defined.{IsThere, IsGiven, IsThereOnEdge, OperandsThere}
use Rattle.lh_verify_laws.proofs.AtPlaces.{place-at}
use Rattle.lh_flat.specs.Copies.{Copy, top_copy, last_piece}
use Rattle.lh_flat.specs.Flat.{flat_copy, max_nested, as_block}
use Rattle.lh_flat_laws.proofs.Cuts.{Cut}
use Rattle.lh_flat_laws.proofs.CopyPieces.{CopyPiece, next_cut, CopyPieceOf, Nested, flat_copy_piece}
use Rattle.lh_flat_laws.proofs.SoundCopies.{IsCode}
use Rattle.lh_flat_laws.proofs.Paths.{IsGood, CallIsGood, There, Located, goes-on, located}
use Rattle.lh_flat_laws.proofs.There.{operand-there}
use Rattle.lh_flat_laws.proofs.Phis.{PhisAreGood, phi-there}
use Rattle.lh_flat_laws.proofs.Facts.{label-found}
use Rattle.lh_flat_laws.specs.Members.{Among}
use Rattle.lh_flat_laws.proofs.Members.{each-among}

module _ (fs : List UnitText) (u x : UnitText) (args : x.args ≡ u.args)
    (good : (k : ℕ) (c : Copy) → Nested fs u k c → IsGood fs c.unit) (calls : (k : ℕ) (c : Copy) → Nested fs u k c → (s : CopyPiece) → CopyPieceOf fs c s → (z : Cut) → next_cut fs c s ≡ Some z
    → CallIsGood fs c z)
    (deep : (c : Copy) → Nested fs u zero c → (s : CopyPiece) → CopyPieceOf fs c s → (z : Cut) → next_cut fs c s ≡ Some z → ⊥)
    (no_ret : (b : BlockText) (before after : List LineText) (l : LineText) → Among b u.blocks → b.lines ≡ before ++ l ∷ after → (o : Option OperandText) → l.inst ≡ ret_text o → ⊥)
    (code : (k : ℕ) (c : Copy) → Nested fs u k c → (b : BlockText) (before after : List LineText) (l : LineText) → Among b c.unit.blocks → b.lines ≡ before ++ l ∷ after → IsCode l.inst)
    (phis : (k : ℕ) (c : Copy) → Nested fs u k c → PhisAreGood c.unit)
    (apart : (k : ℕ) (c : Copy) → Nested fs u k c → (b d : BlockText) → Among b c.unit.blocks → Among d c.unit.blocks → last_piece fs c b ≡ last_piece fs c d → b ≡ d)
    (blocks : x.blocks ≡ map as_block (flat_copy (suc max_nested) fs (top_copy u)))
    (once : (k : ℕ) (c : Copy) → Nested fs u k c → (s : CopyPiece) → CopyPieceOf fs c s → block_of s.label x.blocks ≡ Some (as_block (flat_copy_piece fs k c s)))
    (begin : (b : BlockText) × (more : List BlockText) × (u.blocks ≡ b ∷ more)) where
  decided : (b : Bool) (P : Type 0) → (b ≡ false → P) → (b ≡ true) ⊎ P
  decided true P f = inl refl
  decided false P f = inr (f refl)

  same-some : (a b : BlockText) → Some a ≡ Some b → a ≡ b
  same-some a b h = cc

  -- what a `phi` takes on an edge is there at the end of the block that the edge leaves
  edge-there : (y : BlockText) → block_of (label_or y.label) x.blocks ≡ Some y → (before after : List LineText) (l : LineText) (ty : TypeTree) (es : List EdgeText) → y.lines ≡ before ++ l ∷ after
      → l.inst ≡ phi_text ty es
      → (e : EdgeText) → Among e es → IsThereOnEdge x (label_or y.label) e
  edge-there y self before after l ty es q i e a last named edge =
      decided (args_define e.value x.args) (IsGiven x last last.lines e.value) (λ f earlier path. by f earlier (located fs u x args good calls deep no_ret blocks once begin last earlier path))
    where
      given : (f : args_define e.value x.args ≡ false) (earlier : List BlockText) → There fs u x args (last ∷ earlier) e.value
          → (lines_define e.value last.lines ≡ true) ⊎ (blocks_define e.value earlier ≡ true)
      given f earlier (inl h) = absurd (differ (args_define e.value x.args) f h)
        where
          differ : (b : Bool) → b ≡ false → b ≡ true → ⊥
          differ b p q = cc
      given f earlier (inr h) = or_cases (lines_define e.value last.lines) (blocks_define e.value earlier) h

      by : args_define e.value x.args ≡ false → (earlier : List BlockText) → Located fs u x args last earlier → (lines_define e.value last.lines ≡ true) ⊎ (blocks_define e.value earlier ≡ true)
      by f earlier at =
          let g = goes-on fs u x args good calls deep no_ret last earlier at (label_or y.label) edge in
          let is : y ≡ as_block (flat_copy_piece fs g.depth g.copy g.piece) = same-some y (as_block (flat_copy_piece fs g.depth g.copy g.piece)) (sym self ∙ ap (λ n. block_of n x.blocks) (sym g.is)
          ∙ once g.depth g.copy g.nested g.piece g.of) in
          given f earlier
          (phi-there fs u x args good calls deep no_ret phis apart blocks once begin last earlier at e (label-found e.block x.blocks last named) y before after l ty es q i a g.depth g.copy g.nested
          g.piece g.of is g.step)

  -- the operands of a line of the flat text
  pub line-there : (y : BlockText) → block_of (label_or y.label) x.blocks ≡ Some y → (before after : List LineText) (l : LineText) → y.lines ≡ before ++ l ∷ after → (j : ℕ) (d : Bool)
      → OperandsThere kind.Proc x (place-at j d y before l after) l.inst
  line-there y self before after l q j d = by l.inst refl
    where
      named : (i : InstText) → l.inst ≡ i → is_phi i ≡ false → Each (IsThere x y before) (values_named i)
      named i e p = each-among (IsThere x y before) (values_named i)
          (λ n a. operand-there fs u x args good calls deep no_ret code blocks once begin y before after l q (ap is_phi e ∙ p) n (subst (λ i. Among n (values_named i)) (sym e) a))

      by : (i : InstText) → l.inst ≡ i → OperandsThere kind.Proc x (place-at j d y before l after) i
      by (phi_text ty es) e = each-among (IsThereOnEdge x (label_or y.label)) es (λ m a. edge-there y self before after l ty es q e m a)
      by (const_text a) e = named (const_text a) e refl
      by (pure_text a b) e = named (pure_text a b) e refl
      by (var_text a) e = named (var_text a) e refl
      by (ld_text a) e = named (ld_text a) e refl
      by (st_text a b) e = named (st_text a b) e refl
      by (sig_text a) e = named (sig_text a) e refl
      by (prb_text a) e = named (prb_text a) e refl
      by (drv_text a b c f) e = named (drv_text a b c f) e refl
      by (reg_text a b) e = named (reg_text a b) e refl
      by (child_text a b c) e = named (child_text a b c) e refl
      by (call_text a b c) e = named (call_text a b c) e refl
      by (br_text a) e = named (br_text a) e refl
      by (branch_text a b c) e = named (branch_text a b c) e refl
      by (wait_text a b c) e = named (wait_text a b c) e refl
      by halt_text e = named halt_text e refl
      by (ret_text a) e = named (ret_text a) e refl
