-- What holds at each instruction of a formed process, by its block and what stands before it.
use Rattle.std.proofs.Common.{◌≡◌, ℕ, zero, suc, ◌+◌, List, [], ◌∷◌, ◌++◌, length, Bool, true, false, Some, refl, sym, ◌∙◌, subst}
use Rattle.std.specs.Prelude.{slice_get}
use Rattle.std.proofs.lemmas.Bool.{false≢true}
use Rattle.std.proofs.lemmas.Option.{same_Some, none-some}
use Rattle.lh_types.specs.Types.{TypeTree}
use Rattle.lh_unit.specs.Contents.{LineText, BlockText, UnitText, is_result_name}
use Rattle.lh_unit.specs.Named.{block_of}
use Rattle.lh_unit.specs.Hierarchy.{lines_of}
use Rattle.lh_unit.specs.Kinds.{uses}
use Rattle.lh_unit.specs.Places.{InstPlaceText, places_in, places_from, places, is_terminator}
use Rattle.lh_unit.specs.Typing.{value_type, result_type}
use Rattle.lh_unit.specs.WellFormed.{labels_named}
use Rattle.lh_unit.specs.Within.{Each}
use Rattle.lh_unit.proofs.Lists.{Each-zip}
use Rattle.lh_unit.specs.declared.inst.UnitKind.TheVariants as kind
use Rattle.lh_verify_laws.specs.Defined.{OperandsThere}
use Rattle.lh_verify_laws.specs.KindsOf.{HasTypeOfKind}
use Rattle.lh_verify_laws.specs.Shape.{EndsOnce}
use Rattle.lh_eval.specs.Sound.{InstIsSound}
use Rattle.lh_verify_laws.proofs.EachItem.{each-split}
use Rattle.lh_verify_laws.proofs.AtPlaces.{place-at, in-block}
use Rattle.lh_text_laws.specs.Printable.{results_repeat}
use Rattle.lh_eval_laws.proofs.FindingStatic.{result-is}
use Rattle.lh_eval_laws.proofs.NamedOnce.{IsFirst, each-first}
use Rattle.lh_flat_laws.specs.Formed.{IsFormed, IsWithoutCalls, PhiFormed}

-- ---- an instruction of a block

in-blocks : (P : InstPlaceText → Type 0) (k : ℕ) (e : Bool) (bs : List BlockText) (i : ℕ) (b : BlockText) (seen : List LineText) (l : LineText) (after : List LineText) → Each P (places_from k e bs)
    → slice_get bs i ≡ Some b → b.lines ≡ seen ++ l ∷ after
    → (j : ℕ) × (d : Bool) × P (place-at j d b seen l after)
in-blocks P k e [] i b seen l after h q s = absurd (none-some b q)
in-blocks P k e (c ∷ bs) zero b seen l after h q s =
    let r = each-split P (places_in k e c [] c.lines) (places_from (k + length c.lines) false bs) h in
    let here : Each P (places_in k e b [] b.lines) = subst (λ (x : BlockText). Each P (places_in k e x [] x.lines)) (same_Some c b q) r.0 in
    let z = in-block P k e b [] seen l after (subst (λ (ls : List LineText). Each P (places_in k e b [] ls)) s here) in
    (z.0, e, z.1)
in-blocks P k e (c ∷ bs) (suc i) b seen l after h q s =
    let r = each-split P (places_in k e c [] c.lines) (places_from (k + length c.lines) false bs) h in
    in-blocks P (k + length c.lines) false bs i b seen l after r.1 q s

pub block-lines : (P : LineText → Type 0) (bs : List BlockText) (i : ℕ) (b : BlockText) → Each P (lines_of bs) → slice_get bs i ≡ Some b → Each P b.lines
block-lines P [] i b h q = absurd (none-some b q)
block-lines P (c ∷ bs) zero b h q = subst (λ (x : BlockText). Each P x.lines) (same_Some c b q) (each-split P c.lines (lines_of bs) h).0
block-lines P (c ∷ bs) (suc i) b h q = block-lines P bs i b (each-split P c.lines (lines_of bs) h).1 q

pub block-at : (P : BlockText → Type 0) (bs : List BlockText) (i : ℕ) (b : BlockText) → Each P bs → slice_get bs i ≡ Some b → P b
block-at P [] i b h q = absurd (none-some b q)
block-at P (c ∷ bs) zero b h q = subst P (same_Some c b q) h.0
block-at P (c ∷ bs) (suc i) b h q = block-at P bs i b h.1 q

ends-last : (seen : List LineText) (l : LineText) (after : List LineText) → EndsOnce (seen ++ l ∷ after) → is_terminator l.inst ≡ true → after ≡ []
ends-last [] l [] h t = refl
ends-last [] l (m ∷ after) h t = absurd (false≢true (sym h.0 ∙ t))
ends-last (x ∷ []) l after h t = ends-last [] l after h.1 t
ends-last (x ∷ y ∷ seen) l after h t = ends-last (y ∷ seen) l after h.1 t

ends-more : (seen : List LineText) (l : LineText) (after : List LineText) → EndsOnce (seen ++ l ∷ after) → is_terminator l.inst ≡ false → after ≡ [] → ⊥
ends-more [] l [] h t e = false≢true (sym t ∙ h)
ends-more [] l (m ∷ after) h t e = cc
ends-more (x ∷ []) l after h t e = ends-more [] l after h.1 t e
ends-more (x ∷ y ∷ seen) l after h t e = ends-more (y ∷ seen) l after h.1 t e

-- what holds at an instruction
pub record Site (u : UnitText) (b : BlockText) (before : List LineText) (l : LineText) (after : List LineText) : Type 0 where
  pub sound : InstIsSound u l
  pub calls : IsWithoutCalls u l.inst
  pub kinds : Each (HasTypeOfKind u) (uses l.inst)
  pub number : ℕ
  pub entry : Bool
  pub there : OperandsThere kind.Proc u (place-at number entry b before l after) l.inst
  pub leads : Each (λ n. (c : BlockText) × (block_of n u.blocks ≡ Some c)) (labels_named l.inst)
  pub phi : PhiFormed u (place-at number entry b before l after) l.inst
  pub first : IsFirst u.args (lines_of u.blocks) l
  pub last : is_terminator l.inst ≡ true → after ≡ []
  pub more : is_terminator l.inst ≡ false → after ≡ [] → ⊥

pub record Rights (u : UnitText) (p : InstPlaceText) : Type 0 where
  pub there : OperandsThere kind.Proc u p p.line.inst
  pub leads : Each (λ n. (c : BlockText) × (block_of n u.blocks ≡ Some c)) (labels_named p.line.inst)
  pub phi : PhiFormed u p p.line.inst

rights : (u : UnitText) (ps : List InstPlaceText) → Each (λ (p : InstPlaceText). OperandsThere kind.Proc u p p.line.inst) ps
    → Each (λ (p : InstPlaceText). Each (λ n. (b : BlockText) × (block_of n u.blocks ≡ Some b)) (labels_named p.line.inst)) ps
    → Each (λ (p : InstPlaceText). PhiFormed u p p.line.inst) ps → Each (Rights u) ps
rights u [] a b c = tt
rights u (p ∷ ps) a b c = (record { there = a.0; leads = b.0; phi = c.0 }, rights u ps a.1 b.1 c.1)

pub site-at : (u : UnitText) → IsFormed u → (i : ℕ) (b : BlockText) (before : List LineText) (l : LineText) (after : List LineText) → slice_get u.blocks i ≡ Some b → b.lines ≡ before ++ l ∷ after
    → Site u b before l after
site-at u f i b before l after q s =
    let r = in-blocks (Rights u) 1 true u.blocks i b before l after (rights u (places u) f.there f.leads f.phis) q s in
    let sound = each-split (InstIsSound u) before (l ∷ after) (subst (Each (InstIsSound u)) s (block-lines (InstIsSound u) u.blocks i b f.lines q)) in
    let calls = each-split (λ (x : LineText). IsWithoutCalls u x.inst) before (l ∷ after)
    (subst (Each (λ (x : LineText). IsWithoutCalls u x.inst)) s (block-lines (λ (x : LineText). IsWithoutCalls u x.inst) u.blocks i b f.calls q)) in
    let kinds = each-split (λ (x : LineText). Each (HasTypeOfKind u) (uses x.inst)) before (l ∷ after)
    (subst (Each (λ (x : LineText). Each (HasTypeOfKind u) (uses x.inst))) s (block-lines (λ (x : LineText). Each (HasTypeOfKind u) (uses x.inst)) u.blocks i b f.kinds q)) in
    let new : results_repeat u.args [] (lines_of u.blocks) ≡ false = f.new_results in
    let first = each-split (IsFirst u.args (lines_of u.blocks)) before (l ∷ after)
    (subst (Each (IsFirst u.args (lines_of u.blocks))) s
    (block-lines (IsFirst u.args (lines_of u.blocks)) u.blocks i b (each-first u.args (lines_of u.blocks) [] (lines_of u.blocks) refl new) q)) in
    let once : EndsOnce (before ++ l ∷ after) = subst EndsOnce s (block-at (λ (x : BlockText). EndsOnce x.lines) u.blocks i b f.ends q) in
    record {
      sound = sound.1.0;
      calls = calls.1.0;
      kinds = kinds.1.0;
      number = r.0;
      entry = r.1;
      there = r.2.there;
      leads = r.2.leads;
      phi = r.2.phi;
      first = first.1.0;
      last = ends-last before l after once;
      more = ends-more before l after once;
    }

-- a line is sound, and the only one that gives its result
abbrev pub LineGood : UnitText → LineText → Type 0
LineGood u l = InstIsSound u l × IsFirst u.args (lines_of u.blocks) l

-- so is each line of a block
pub good-lines : (u : UnitText) → IsFormed u → (i : ℕ) (b : BlockText) → slice_get u.blocks i ≡ Some b → Each (LineGood u) b.lines
good-lines u f i b q =
    let new : results_repeat u.args [] (lines_of u.blocks) ≡ false = f.new_results in
    Each-zip (InstIsSound u) (IsFirst u.args (lines_of u.blocks)) (LineGood u) (λ x a c. (a, c)) b.lines (block-lines (InstIsSound u) u.blocks i b f.lines q)
    (block-lines (IsFirst u.args (lines_of u.blocks)) u.blocks i b (each-first u.args (lines_of u.blocks) [] (lines_of u.blocks) refl new) q)

-- ---- what is there

-- a name whose type is that of no value is no result of an instruction that gives none
pub not-result : (u : UnitText) (l : LineText) → InstIsSound u l → (n : List ℕ) (t : TypeTree) → value_type u n ≡ Some t → (result_type l.inst ≡ Some t → ⊥) → is_result_name n l.result ≡ false
not-result u l s n t v other = at (is_result_name n l.result) refl
  where
    at : (b : Bool) → is_result_name n l.result ≡ b → b ≡ false
    at false q = refl
    at true q = absurd (other (sym (s.gives n (result-is l.result n q)) ∙ v))
