-- Registers that agree drive the same: one fires exactly where the other does, and whichever trigger fires first drives one value after one delay.
use Rattle.std.proofs.Common.{◌≡◌, ◌⊎◌, inl, inr, List, [], ◌∷◌, ◌++◌, fold, Bool, true, false, ◌&&◌, Option, Some, None, unwrap_or, refl, ap, sym, ◌∙◌, subst}
use Rattle.std.specs.Bool.{if◌then◌else◌}
use Rattle.std.specs.List.{list_any, list_all}
use Rattle.std.specs.Option.{option_map}
use Rattle.std.proofs.lemmas.Bool.{false≢true, or_cases}
use Rattle.std.proofs.lemmas.Option.{same_Some, none-some}
use Rattle.lh_time.specs.declared.Instant.{Instant}
use Rattle.lh_types.specs.Bits.{value_bits}
use Rattle.lh_types.specs.Same.{and_both}
use Rattle.lh_types.specs.Types.{TypeTree}
use Rattle.lh_types.specs.Wish.{Wish, with_drive}
use Rattle.lh_types.specs.declared.part.Range.{Range}
use Rattle.lh_unit.specs.declared.inst.Mode.{Mode}
use Rattle.lh_unit.specs.declared.inst.Mode.TheVariants.{Rise, Fall, Both, High, Low}
use Rattle.lh_unit.specs.Held.{as_test}
use Rattle.lh_unit.specs.Pass.{mode_holds}
use Rattle.lh_unit.specs.Within.{Each}
use Rattle.lh_term.specs.Mean.{Valuation, IsFitting, mean}
use Rattle.lh_term.specs.Same.{same_part, same_part-is}
use Rattle.lh_term.specs.SameTree.{same_tree, same_tree-is}
use Rattle.lh_term.specs.declared.part.Part.{Part}
use Rattle.lh_region_def.specs.Means.{range_in, due_by}
use Rattle.lh_region_def.specs.Typed.{Among}
use Rattle.lh_flat_laws.proofs.Members.{in-each}
use Rattle.lh_entity_laws.proofs.OnceActivations.{all-of}
use Rattle.lh_cert_agree.specs.Agreeing.{agree}
use Rattle.lh_cert_agree.specs.Laws.{AgreedTermsMeanSame}
use Rattle.lh_cert_rows.specs.Rows.{TriggerRow}
use Rattle.lh_cert_rows.specs.Means.{sees, fires, first_fired, stored}
use Rattle.lh_cert_rows.specs.Passing.{TriggerTyped}
use Rattle.lh_cert_def.specs.RowsAgree.{same_mode, is_edge, is_match, matched, drive_same, register_agrees, registers_agree}
use Rattle.lh_cert_laws.proofs.EntityRows.{Register, made, RegisterTyped}

pub any-of : {X : Type 0} (p : X → Bool) (xs : List X) → list_any p xs ≡ true → (x : X) × Among x xs × (p x ≡ true)
any-of {X = X} p [] h = absurd (false≢true h)
any-of {X = X} p (x ∷ xs) h = by (or_cases (p x) (list_any p xs) h) (any-of p xs)
  where
    by : (p x ≡ true) ⊎ (list_any p xs ≡ true) → (list_any p xs ≡ true → (y : X) × Among y xs × (p y ≡ true)) → (y : X) × Among y (x ∷ xs) × (p y ≡ true)
    by (inl e) go = (x, inl refl, e)
    by (inr e) go = let r = go e in (r.0, inr r.1, r.2)

pub same_mode-is : (a b : Mode) → same_mode a b ≡ true → a ≡ b
same_mode-is Rise Rise e = refl
same_mode-is Fall Fall e = refl
same_mode-is Both Both e = refl
same_mode-is High High e = refl
same_mode-is Low Low e = refl
same_mode-is _ _ e = absurd (false≢true e)

-- what a pair of registers that agree has
pub record Agreed (p q : Part) (gs hs : List TriggerRow) : Type 0 where
  pub part : p ≡ q
  pub edges : list_all is_edge (gs ++ hs) ≡ true
  pub values : (g h : TriggerRow) → Among g gs → Among h hs → drive_same g h ≡ true
  pub there : (g : TriggerRow) → Among g gs → (h : TriggerRow) × Among h hs × (is_match g h ≡ true)
  pub back : (h : TriggerRow) → Among h hs → (g : TriggerRow) × Among g gs × (is_match h g ≡ true)

pub agreed-of : (p q : Part) (gs hs : List TriggerRow) → register_agrees (p, gs) (q, hs) ≡ true → Agreed p q gs hs
agreed-of p q gs hs e =
    let values = list_all (λ g. list_all (drive_same g) hs) gs in
    let a = and_both (same_part p q) (list_all is_edge (gs ++ hs) && (values && (list_all (matched hs) gs && list_all (matched gs) hs))) e in
    let b = and_both (list_all is_edge (gs ++ hs)) (values && (list_all (matched hs) gs && list_all (matched gs) hs)) a.1 in
    let c = and_both values (list_all (matched hs) gs && list_all (matched gs) hs) b.1 in
    let d = and_both (list_all (matched hs) gs) (list_all (matched gs) hs) c.1 in
    record {
      part = same_part-is p q a.0;
      edges = b.0;
      values = λ g h i j. all-of (drive_same g) hs h (all-of (λ g. list_all (drive_same g) hs) gs g c.0 i) j;
      there = λ g i. any-of (is_match g) hs (all-of (matched hs) gs g d.0 i);
      back = λ h j. any-of (is_match h) gs (all-of (matched gs) hs h d.1 j);
    }

module _ (agrees : AgreedTermsMeanSame) (past : Option Valuation) (now : Valuation) (fit : IsFitting now) where
  -- a match fires where the trigger does
  match-fires : (g h : TriggerRow) (s t : TypeTree) → TriggerTyped s g → TriggerTyped t h → is_match g h ≡ true → fires past now g ≡ fires past now h
  match-fires g h s t k l e =
      let a = and_both (same_mode g.mode h.mode) (same_tree g.operand h.operand && agree g.gate h.gate) e in
      let b = and_both (same_tree g.operand h.operand) (agree g.gate h.gate) a.1 in
      let mode = same_mode-is g.mode h.mode a.0 in
      let operand = same_tree-is g.operand h.operand b.0 in
      let gate : sees now g.gate ≡ sees now h.gate = ap (λ d. unwrap_or (as_test d) false) ((agrees g.gate h.gate k.gate.typed l.gate.typed b.1).mean now now fit fit) in
      λ i. mode_holds (mode i) (option_map (λ v. sees v (operand i)) past) (sees now (operand i)) && gate i

  -- the first trigger that fires is one of them, and fires
  first-among : (gs : List TriggerRow) (g : TriggerRow) → first_fired past now gs ≡ Some g → Among g gs × (fires past now g ≡ true)
  first-among [] g e = absurd (none-some g e)
  first-among (x ∷ gs) g e = by (fires past now x) refl e (first-among gs g)
    where
      by : (b : Bool) → fires past now x ≡ b → (if b then Some x else first_fired past now gs) ≡ Some g → (first_fired past now gs ≡ Some g → Among g gs × (fires past now g ≡ true))
          → Among g (x ∷ gs) × (fires past now g ≡ true)
      by true q f go = let s = same_Some x g f in (inl s, subst (λ z. fires past now z ≡ true) s q)
      by false q f go = let r = go f in (inr r.0, r.1)

  -- where one fires, there is a first
  some-first : (gs : List TriggerRow) (g : TriggerRow) → Among g gs → fires past now g ≡ true → first_fired past now gs ≡ None → ⊥
  some-first [] g a f e = a
  some-first (x ∷ gs) g a f e = by (fires past now x) refl e a (some-first gs g)
    where
      by : (b : Bool) → fires past now x ≡ b → (if b then Some x else first_fired past now gs) ≡ None → (x ≡ g) ⊎ Among g gs → (Among g gs → fires past now g ≡ true → first_fired past now gs ≡ None → ⊥) → ⊥
      by true q z i go = none-some x (sym z)
      by false q z (inl s) go = false≢true (sym q ∙ ap (fires past now) s ∙ f)
      by false q z (inr i) go = go i f z

  module _ (args : List Range) (t : Instant) (p q : Part) (gs hs : List TriggerRow) (k : Each (TriggerTyped p.ty) gs) (l : Each (TriggerTyped q.ty) hs) (a : Agreed p q gs hs) where
    typed-of : (g : TriggerRow) → Among g gs → TriggerTyped p.ty g
    typed-of g i = in-each (TriggerTyped p.ty) gs g k i

    typed-other : (h : TriggerRow) → Among h hs → TriggerTyped q.ty h
    typed-other h i = in-each (TriggerTyped q.ty) hs h l i

    -- both drive the same
    same-drive : (w : Wish) (g h : TriggerRow) → Among g gs → Among h hs → stored now args t p w (Some g) ≡ stored now args t q w (Some h)
    same-drive w g h i j =
        let z = and_both (agree g.value h.value) (same_tree g.delay h.delay) (a.values g h i j) in
        let value = (agrees g.value h.value (typed-of g i).value.typed (typed-other h j).value.typed z.0).mean now now fit fit in
        let delay = same_tree-is g.delay h.delay z.1 in
        λ n. with_drive w (due_by t (mean now now (delay n))) (range_in args (a.part n)).lo (value_bits (value n))

    pub stored-same : (w : Wish) → stored now args t p w (first_fired past now gs) ≡ stored now args t q w (first_fired past now hs)
    stored-same w = by (first_fired past now gs) refl (first_fired past now hs) refl
      where
        by : (x : Option TriggerRow) → first_fired past now gs ≡ x → (y : Option TriggerRow) → first_fired past now hs ≡ y → stored now args t p w x ≡ stored now args t q w y
        by None e None f = refl
        by (Some g) e None f =
            let r = first-among gs g e in
            let m = a.there g r.0 in
            absurd (some-first hs m.0 m.1 (sym (match-fires g m.0 p.ty q.ty (typed-of g r.0) (typed-other m.0 m.1) m.2) ∙ r.1) f)
        by None e (Some h) f =
            let r = first-among hs h f in
            let m = a.back h r.0 in
            absurd (some-first gs m.0 m.1 (sym (match-fires h m.0 q.ty p.ty (typed-other h r.0) (typed-of m.0 m.1) m.2) ∙ r.1) e)
        by (Some g) e (Some h) f = same-drive w g h (first-among gs g e).0 (first-among hs h f).0

  -- Registers that agree drive the same.
  pub registers-same : (args : List Range) (t : Instant) (w : Wish) (rs ss : List Register) → Each RegisterTyped rs → Each RegisterTyped ss → registers_agree rs ss ≡ true
      → fold (made past now args t) w rs ≡ fold (made past now args t) w ss
  registers-same args t w [] [] k l e = refl
  registers-same args t w [] (s ∷ ss) k l e = absurd (false≢true e)
  registers-same args t w (r ∷ rs) [] k l e = absurd (false≢true e)
  registers-same args t w (r ∷ rs) (s ∷ ss) k l e =
      let z = and_both (register_agrees r s) (registers_agree rs ss) e in
      ap (λ x. fold (made past now args t) x rs) (stored-same args t r.0 s.0 r.1 s.1 k.0 l.0 (agreed-of r.0 s.0 r.1 s.1 z.0) w)
      ∙ registers-same args t (made past now args t w s) rs ss k.1 l.1 z.1
