-- Registers drive what the rows of a second region drive: a trigger fires exactly where the condition of its drive holds.
use Rattle.std.proofs.Common.{◌≡◌, ◌⊎◌, inl, inr, List, [], ◌∷◌, map, fold, Bool, true, false, not, ◌&&◌, ◌||◌, if◌then◌else◌, unwrap_or, Some, refl, ap, sym, ◌∙◌, subst}
use Rattle.std.specs.List.{list_any, flat_map}
use Rattle.std.specs.Cmp.{both_ways}
use Rattle.std.proofs.lemmas.Bool.{false≢true, or_left, or_right, or_cases}
use Rattle.lh_time.specs.declared.Instant.{Instant}
use Rattle.lh_types.specs.Types.{int_type, IsData}
use Rattle.lh_types.specs.Fits.{FitsType}
use Rattle.lh_types.specs.Bits.{value_bits}
use Rattle.lh_types.specs.Apply.{bit_value}
use Rattle.lh_types.specs.Wish.{Wish, with_drive}
use Rattle.lh_types.specs.declared.part.Range.{Range}
use Rattle.lh_unit.specs.Held.{as_test}
use Rattle.lh_unit.specs.Pass.{mode_holds}
use Rattle.lh_unit.specs.Within.{Each}
use Rattle.lh_unit.proofs.Lists.{Each-append, Each-left, Each-right}
use Rattle.lh_term.specs.Tree.{Tree, constant, past_of, now_of, operation, choice_of}
use Rattle.lh_term.specs.Mean.{Valuation, IsFitting, mean}
use Rattle.lh_term.specs.Make.{is_constant}
use Rattle.lh_term.specs.declared.part.Part.{Part}
use Rattle.lh_term.specs.Laws.{SwapsKeepMeaning}
use Rattle.lh_term.proofs.Sound.{IsBit, bit_of_fit, bit_mean, one_wide}
use Rattle.lh_term.proofs.Conditions.{one_bit}
use Rattle.lh_term_cover.specs.Bits.{covers}
use Rattle.lh_edge.specs.Atoms.{contains_past}
use Rattle.lh_edge.specs.Shown.{is_edge_shown}
use Rattle.lh_edge.specs.Triggers.{TriggerTree, EdgeRowTree, triggers_of, Fires, SomeFires, AreWaited}
use Rattle.lh_edge.proofs.AtomMeanings.{same_bits, without_past}
use Rattle.lh_edge.proofs.TriggersFire.{triggers_show}
use Rattle.lh_edge.proofs.TriggersRest.{waited_on}
use Rattle.lh_region_def.specs.Rows.{Drive}
use Rattle.lh_region_def.specs.Means.{range_in, is_one, is_true, due_by, with_row, with_rows}
use Rattle.lh_region_def.specs.Right.{DriveTyped}
use Rattle.lh_shape.specs.Shapes.{edge_row}
use Rattle.lh_emit_def.specs.Entities.{mode_of}
use Rattle.lh_emit_def.specs.Registers.{sees, fires, any_fires, register_drives, register_made}
use Rattle.lh_emit_def.specs.Ways.{TriggerIsGiven}
use Rattle.lh_emit_def.specs.Emitted.{Source}
use Rattle.lh_emit_def.specs.Laws.{row_parts}

test-of : (b : Bool) → unwrap_or (as_test (bit_value b)) false ≡ b
test-of true = refl
test-of false = refl

-- a rise or a fall, by the bits before and now
change-of : (rise p n g : Bool) → p ≡ not rise → n ≡ rise → g ≡ true → (mode_holds (mode_of rise) (Some p) n && g) ≡ true
change-of true p n g a b c = (λ i. mode_holds (mode_of true) (Some (a i)) (b i) && c i)
change-of false p n g a b c = (λ i. mode_holds (mode_of false) (Some (a i)) (b i) && c i)

record Changes (rise p n g : Bool) : Type 0 where
  before : p ≡ not rise
  after : n ≡ rise
  gate : g ≡ true

changed : (rise p n g : Bool) → (mode_holds (mode_of rise) (Some p) n && g) ≡ true → Changes rise p n g
changed true true n g e = absurd (false≢true e)
changed true false true true e = record { before = refl; after = refl; gate = refl }
changed true false true false e = absurd (false≢true e)
changed true false false g e = absurd (false≢true e)
changed false true true g e = absurd (false≢true e)
changed false true false true e = record { before = refl; after = refl; gate = refl }
changed false true false false e = absurd (false≢true e)
changed false false n g e = absurd (false≢true e)

-- what is known of a drive of the second region
pub record EdgeDrive (s : Source) (waited : List Part) (d : Drive) : Type 0 where
  pub typed : DriveTyped d
  pub shown : is_edge_shown waited d.cond ≡ true
  pub value : contains_past d.value ≡ false
  pub delay : is_constant d.delay ≡ true
  pub triggers : Each (TriggerIsGiven s) (triggers_of waited d.cond)

module _ (past now : Valuation) (p : IsFitting past) (n : IsFitting now) where
  bit-of-part : (v : Valuation) → IsFitting v → (q : Part) → q.ty ≡ int_type 1 → IsBit (v q)
  bit-of-part v f q e = bit_of_fit (v q) (subst (FitsType (v q)) e (f q (subst (λ ty. IsData ty) (sym e) one_wide)))

  module _ (s : Source) (g : TriggerTree) (given : TriggerIsGiven s g) where
    pb : IsBit (past g.part)
    pb = bit-of-part past p g.part given.is_bit

    nb : IsBit (now g.part)
    nb = bit-of-part now n g.part given.is_bit

    gb : IsBit (mean now now g.gate)
    gb = bit_mean g.gate (record { typed = given.gate.typed; type = given.is_gate }) now now n n

    fires-by : fires (Some (sees past g.part)) now g ≡ (mode_holds (mode_of g.rise) (Some pb.bit) nb.bit && gb.bit)
    fires-by =
        let a : sees past g.part ≡ pb.bit = ap (λ v. unwrap_or (as_test v) false) pb.is ∙ test-of pb.bit in
        let b : sees now g.part ≡ nb.bit = ap (λ v. unwrap_or (as_test v) false) nb.is ∙ test-of nb.bit in
        let c : unwrap_or (as_test (mean now now g.gate)) false ≡ gb.bit = ap (λ v. unwrap_or (as_test v) false) gb.is ∙ test-of gb.bit in
        λ i. mode_holds (mode_of g.rise) (Some (a i)) (b i) && c i

    pub fires-so : Fires past now g → fires (Some (sees past g.part)) now g ≡ true
    fires-so h =
        fires-by ∙ change-of g.rise pb.bit nb.bit gb.bit (same_bits pb.bit (not g.rise) (sym pb.is ∙ h.before)) (same_bits nb.bit g.rise (sym nb.is ∙ h.after)) (same_bits gb.bit true
        (sym gb.is ∙ h.gate))

    pub fires-back : fires (Some (sees past g.part)) now g ≡ true → Fires past now g
    fires-back h =
        let c = changed g.rise pb.bit nb.bit gb.bit (sym fires-by ∙ h) in
        record { before = pb.is ∙ ap bit_value c.before; after = nb.is ∙ ap bit_value c.after; gate = gb.is ∙ ap bit_value c.gate }

  abbrev fires_now : TriggerTree → Bool
  fires_now g = fires (Some (sees past g.part)) now g

  some-fire : (s : Source) (gs : List TriggerTree) → Each (TriggerIsGiven s) gs → SomeFires past now gs → list_any fires_now gs ≡ true
  some-fire s [] h f = absurd f
  some-fire s (g ∷ gs) h (inl f) = or_left (fires_now g) (list_any fires_now gs) (fires-so s g h.0 f)
  some-fire s (g ∷ gs) h (inr f) = or_right (fires_now g) (list_any fires_now gs) (some-fire s gs h.1 f)

  fire-some : (s : Source) (gs : List TriggerTree) → Each (TriggerIsGiven s) gs → list_any fires_now gs ≡ true → SomeFires past now gs
  fire-some s [] h e = absurd (false≢true e)
  fire-some s (g ∷ gs) h e = by (or_cases (fires_now g) (list_any fires_now gs) e) (fire-some s gs h.1)
    where
      by : (fires_now g ≡ true) ⊎ (list_any fires_now gs ≡ true) → (list_any fires_now gs ≡ true → SomeFires past now gs) → SomeFires past now (g ∷ gs)
      by (inl x) go = inl (fires-back s g h.0 x)
      by (inr x) go = inr (go x)

  -- ---- a drive

  cond-bit : (d : Drive) → DriveTyped d → IsBit (mean past now d.cond)
  cond-bit d h = bit_mean d.cond (record { typed = h.cond.typed; type = h.cond.type }) past now p n

  true-so : (d : Drive) → DriveTyped d → is_true past now d.cond ≡ true → mean past now d.cond ≡ bit_value true
  true-so d h e = let b = cond-bit d h in b.is ∙ ap bit_value (sym (one_bit b.bit) ∙ sym (ap is_one b.is) ∙ e)

  pub fires-where : SwapsKeepMeaning → (s : Source) (waited : List Part) (d : Drive) → DriveTyped d → is_edge_shown waited d.cond ≡ true → Each (TriggerIsGiven s) (triggers_of waited d.cond) →
      any_fires past now (edge_row waited d) ≡ is_true past now d.cond
  fires-where laws s waited d h e g =
      let f = triggers_show laws waited d.cond h.cond.typed h.cond.type e past now p n in
      both_ways (any_fires past now (edge_row waited d)) (is_true past now d.cond)
      (λ x. ap is_one (f.1 (fire-some s (triggers_of waited d.cond) g x)))
      (λ x. some-fire s (triggers_of waited d.cond) g (f.0 (true-so d h x)))

  delay-same : (t : Tree) → is_constant t ≡ true → mean now now t ≡ mean past now t
  delay-same (constant v) e = refl
  delay-same (past_of q) e = absurd (false≢true e)
  delay-same (now_of q) e = absurd (false≢true e)
  delay-same (operation o ts) e = absurd (false≢true e)
  delay-same (choice_of c f t) e = absurd (false≢true e)

  row-drives : SwapsKeepMeaning → (s : Source) (waited : List Part) (args : List Range) (at : Instant) (w : Wish) (d : Drive) → EdgeDrive s waited d
      → register_made past now args at w (edge_row waited d) ≡ with_row past now args at w d
  row-drives laws s waited args at w d h =
      let a : any_fires past now (edge_row waited d) ≡ is_true past now d.cond = fires-where laws s waited d h.typed h.shown h.triggers in
      let b : mean now now d.delay ≡ mean past now d.delay = delay-same d.delay h.delay in
      let c : mean now now d.value ≡ mean past now d.value = without_past now past now d.value h.value in
      λ i. if a i then with_drive w (due_by at (b i)) (range_in args d.part).lo (value_bits (c i)) else w

  pub registers-drive : SwapsKeepMeaning → (s : Source) (waited : List Part) (args : List Range) (at : Instant) (w : Wish) (ds : List Drive) → Each (EdgeDrive s waited) ds →
      fold (register_made past now args at) w (map (edge_row waited) ds) ≡ with_rows past now args at w ds
  registers-drive laws s waited args at w [] h = refl
  registers-drive laws s waited args at w (d ∷ ds) h =
      ap (λ v. fold (register_made past now args at) v (map (edge_row waited) ds)) (row-drives laws s waited args at w d h.0)
      ∙ registers-drive laws s waited args at (with_row past now args at w d) ds h.1

-- ---- the parts of the triggers

parts-covered : (waited : List Part) (gs : List TriggerTree) → AreWaited waited gs → Each (λ q. covers waited q ≡ true) (map (λ (g : TriggerTree). g.part) gs)
parts-covered waited [] h = tt
parts-covered waited (g ∷ gs) h = (h.1, parts-covered waited gs h.2)

-- they are waited on
pub triggers-covered : (waited : List Part) (ds : List Drive) → Each (λ q. covers waited q ≡ true) (flat_map row_parts (map (edge_row waited) ds))
triggers-covered waited [] = tt
triggers-covered waited (d ∷ ds) =
    Each-append (λ q. covers waited q ≡ true) (row_parts (edge_row waited d)) (flat_map row_parts (map (edge_row waited) ds))
    (parts-covered waited (triggers_of waited d.cond) (waited_on waited d.cond)) (triggers-covered waited ds)

-- ---- which parts registers look at

-- what was seen of a part by its value
seen-by-value : (v w : Valuation) (q : Part) → v q ≡ w q → sees v q ≡ sees w q
seen-by-value v w q e = ap (λ d. unwrap_or (as_test d) false) e

any-alike : (before past now : Valuation) (gs : List TriggerTree) → Each (λ q. before q ≡ past q) (map (λ (g : TriggerTree). g.part) gs)
    → list_any (λ (g : TriggerTree). fires (Some (sees before g.part)) now g) gs ≡ list_any (λ (g : TriggerTree). fires (Some (sees past g.part)) now g) gs
any-alike before past now [] h = refl
any-alike before past now (g ∷ gs) h =
    let here = ap (λ b. fires (Some b) now g) (seen-by-value before past g.part h.0) in
    let rest = any-alike before past now gs h.1 in
    λ i. here i || rest i

-- they look at the values before of their parts alone
pub registers-alike : (before past now : Valuation) (args : List Range) (at : Instant) (w : Wish) (rs : List EdgeRowTree) → Each (λ q. before q ≡ past q) (flat_map row_parts rs)
    → fold (register_made before now args at) w rs ≡ fold (register_made past now args at) w rs
registers-alike before past now args at w [] h = refl
registers-alike before past now args at w (r ∷ rs) h =
    ap (λ b. fold (register_made before now args at) (if b then register_drives now args at w r else w) rs)
    (any-alike before past now r.triggers (Each-left (λ q. before q ≡ past q) (row_parts r) (flat_map row_parts rs) h))
    ∙ registers-alike before past now args at (register_made past now args at w r) rs (Each-right (λ q. before q ≡ past q) (row_parts r) (flat_map row_parts rs) h)

-- where a part has the value that it had, no trigger of it fires
rests-by : (rise b g : Bool) → (mode_holds (mode_of rise) (Some b) b && g) ≡ false
rests-by true true g = refl
rests-by true false g = refl
rests-by false true g = refl
rests-by false false g = refl

none-fires : (now : Valuation) (gs : List TriggerTree) → list_any (λ (g : TriggerTree). fires (Some (sees now g.part)) now g) gs ≡ false
none-fires now [] = refl
none-fires now (g ∷ gs) =
    let here = rests-by g.rise (sees now g.part) (unwrap_or (as_test (mean now now g.gate)) false) in
    let rest = none-fires now gs in
    λ i. here i || rest i

all-rest : (now : Valuation) (args : List Range) (at : Instant) (w : Wish) (rs : List EdgeRowTree) → fold (register_made now now args at) w rs ≡ w
all-rest now args at w [] = refl
all-rest now args at w (r ∷ rs) =
    ap (λ b. fold (register_made now now args at) (if b then register_drives now args at w r else w) rs) (none-fires now r.triggers) ∙ all-rest now args at w rs

-- and registers drive nothing where none of their parts changes
pub registers-rest : (past now : Valuation) (args : List Range) (at : Instant) (w : Wish) (rs : List EdgeRowTree) → Each (λ q. past q ≡ now q) (flat_map row_parts rs)
    → fold (register_made past now args at) w rs ≡ w
registers-rest past now args at w rs h = registers-alike past now now args at w rs h ∙ all-rest now args at w rs
