-- What is kept of registers drives what they drive: `both` is a rise and a fall, a trigger of the constant gate 0 never fires, and a register
-- without triggers drives nothing.
use Rattle.std.proofs.Common.{◌≡◌, List, [], ◌∷◌, ◌++◌, map, filter, fold, Bool, true, false, not, ◌&&◌, ◌||◌, nat_eq, Option, Some, None, unwrap_or, refl, ap, sym, ◌∙◌}
use Rattle.std.specs.Bool.{if◌then◌else◌}
use Rattle.std.specs.List.{flat_map}
use Rattle.std.specs.Option.{option_map}
use Rattle.std.proofs.lemmas.Bool.{false≢true}
use Rattle.lh_time.specs.declared.Instant.{Instant}
use Rattle.lh_types.specs.Same.{and_both}
use Rattle.lh_types.specs.Values.{Datum, int_value, time_value, array_value, tuple_value}
use Rattle.lh_types.specs.Wish.{Wish}
use Rattle.lh_types.specs.declared.part.Range.{Range}
use Rattle.lh_unit.specs.declared.inst.Mode.{Mode}
use Rattle.lh_unit.specs.declared.inst.Mode.TheVariants.{Rise, Fall, Both, High, Low}
use Rattle.lh_unit.specs.Held.{as_test}
use Rattle.lh_unit.specs.Pass.{mode_holds}
use Rattle.lh_unit.specs.Within.{Each}
use Rattle.lh_term.specs.Tree.{Tree, constant, past_of, now_of, operation, choice_of}
use Rattle.lh_term.specs.Make.{is_bit, is_bit_value}
use Rattle.lh_term.specs.Mean.{Valuation}
use Rattle.lh_term.specs.declared.part.Part.{Part}
use Rattle.lh_cert_rows.specs.Rows.{TriggerRow}
use Rattle.lh_cert_rows.specs.Means.{sees, fires, first_fired, stored}
use Rattle.lh_cert_rows.specs.Passing.{TriggerTyped}
use Rattle.lh_cert_def.specs.KeptRows.{singles_by, singles, can_fire, kept_triggers, kept_register, has_triggers, kept_registers}
use Rattle.lh_cert_laws.proofs.DriveWishes.{each-filter}
use Rattle.lh_cert_laws.proofs.EntityRows.{Register, made, RegisterTyped}

-- ---- a gate that is the constant 0

zero-value : (d : Datum) → is_bit_value 0 d ≡ true → unwrap_or (as_test d) false ≡ false
zero-value (int_value n a) e = ap not (and_both (nat_eq n 1) (nat_eq a 0) e).1
zero-value (time_value d) e = refl
zero-value (array_value vs) e = refl
zero-value (tuple_value vs) e = refl

zero-sees : (v : Valuation) (c : Tree) → is_bit 0 c ≡ true → sees v c ≡ false
zero-sees v (constant d) e = zero-value d e
zero-sees v (past_of p) e = absurd (false≢true e)
zero-sees v (now_of p) e = absurd (false≢true e)
zero-sees v (operation o ts) e = absurd (false≢true e)
zero-sees v (choice_of c f t) e = absurd (false≢true e)

and-false : (b : Bool) → (b && false) ≡ false
and-false true = refl
and-false false = refl

-- ---- `both`

with_mode : TriggerRow → Mode → TriggerRow
with_mode g m = record g { mode = m }

-- the modes of a trigger that is a rise and a fall
both-holds : (past : Option Bool) (now gate : Bool) → (mode_holds Both past now && gate) ≡ ((mode_holds Rise past now && gate) || (mode_holds Fall past now && gate))
both-holds None now gate = refl
both-holds (Some true) true gate = refl
both-holds (Some true) false true = refl
both-holds (Some true) false false = refl
both-holds (Some false) true true = refl
both-holds (Some false) true false = refl
both-holds (Some false) false gate = refl

module _ (past : Option Valuation) (now : Valuation) (args : List Range) (t : Instant) where
  never-fires : (g : TriggerRow) → is_bit 0 g.gate ≡ true → fires past now g ≡ false
  never-fires g e = ap (λ b. mode_holds g.mode (option_map (λ v. sees v g.operand) past) (sees now g.operand) && b) (zero-sees now g.gate e)
      ∙ and-false (mode_holds g.mode (option_map (λ v. sees v g.operand) past) (sees now g.operand))

  module _ (p : Part) (w : Wish) where
    abbrev drives : Option TriggerRow → Wish
    drives o = stored now args t p w o

    -- a trigger in front of others
    abbrev front_of : Bool → TriggerRow → Option TriggerRow → Option TriggerRow
    front_of b g o = if b then Some g else o

    -- one trigger stays one
    single-kept : (g : TriggerRow) (xs gs : List TriggerRow) → drives (first_fired past now xs) ≡ drives (first_fired past now gs) → (z : Bool) → is_bit 0 g.gate ≡ z
        → drives (first_fired past now (if not z then g ∷ xs else xs)) ≡ drives (first_fired past now (g ∷ gs))
    single-kept g xs gs e true q = e ∙ ap (λ b. drives (front_of b g (first_fired past now gs))) (sym (never-fires g q))
    single-kept g xs gs e false q = by (fires past now g)
      where
        by : (b : Bool) → drives (front_of b g (first_fired past now xs)) ≡ drives (front_of b g (first_fired past now gs))
        by true = refl
        by false = e

    -- a rise and a fall
    abbrev rise : TriggerRow → TriggerRow
    rise g = record g { mode = Rise }

    abbrev fall : TriggerRow → TriggerRow
    fall g = record g { mode = Fall }

    both-fires : (g : TriggerRow) → g.mode ≡ Both → fires past now g ≡ (fires past now (rise g) || fires past now (fall g))
    both-fires g e =
        ap (λ m. mode_holds m (option_map (λ v. sees v g.operand) past) (sees now g.operand) && sees now g.gate) e
        ∙ both-holds (option_map (λ v. sees v g.operand) past) (sees now g.operand) (sees now g.gate)

    both-kept : (g : TriggerRow) (xs gs : List TriggerRow) → g.mode ≡ Both → drives (first_fired past now xs) ≡ drives (first_fired past now gs) → (z : Bool) → is_bit 0 g.gate ≡ z
        → drives (first_fired past now (if not z then rise g ∷ (if not z then fall g ∷ xs else xs) else (if not z then fall g ∷ xs else xs))) ≡ drives (first_fired past now (g ∷ gs))
    both-kept g xs gs m e true q = e ∙ ap (λ b. drives (front_of b g (first_fired past now gs))) (sym (never-fires g q))
    both-kept g xs gs m e false q =
        by (fires past now (rise g)) (fires past now (fall g)) ∙ ap (λ b. drives (front_of b g (first_fired past now gs))) (sym (both-fires g m))
      where
        by : (a b : Bool) → drives (front_of a (rise g) (front_of b (fall g) (first_fired past now xs))) ≡ drives (front_of (a || b) g (first_fired past now gs))
        by true b = refl
        by false true = refl
        by false false = e

    triggers-kept : (gs : List TriggerRow) → drives (first_fired past now (kept_triggers gs)) ≡ drives (first_fired past now gs)
    triggers-kept [] = refl
    triggers-kept (g ∷ gs) = by g.mode refl (triggers-kept gs)
      where
        by : (m : Mode) → g.mode ≡ m → drives (first_fired past now (kept_triggers gs)) ≡ drives (first_fired past now gs)
            → drives (first_fired past now (filter can_fire (singles_by m g ++ flat_map singles gs))) ≡ drives (first_fired past now (g ∷ gs))
        by Both q e = both-kept g (kept_triggers gs) gs q e (is_bit 0 g.gate) refl
        by Rise q e = single-kept g (kept_triggers gs) gs e (is_bit 0 g.gate) refl
        by Fall q e = single-kept g (kept_triggers gs) gs e (is_bit 0 g.gate) refl
        by High q e = single-kept g (kept_triggers gs) gs e (is_bit 0 g.gate) refl
        by Low q e = single-kept g (kept_triggers gs) gs e (is_bit 0 g.gate) refl

  -- ---- registers

  each-kept : (w : Wish) (rs : List Register) → fold (made past now args t) w (map kept_register rs) ≡ fold (made past now args t) w rs
  each-kept w [] = refl
  each-kept w (r ∷ rs) = ap (λ x. fold (made past now args t) x (map kept_register rs)) (triggers-kept r.0 w r.1) ∙ each-kept (made past now args t w r) rs

  empty-dropped : (w : Wish) (rs : List Register) → fold (made past now args t) w (filter has_triggers rs) ≡ fold (made past now args t) w rs
  empty-dropped w [] = refl
  empty-dropped w ((p, []) ∷ rs) = empty-dropped w rs
  empty-dropped w ((p, g ∷ gs) ∷ rs) = empty-dropped (made past now args t w (p, g ∷ gs)) rs

  -- What is kept of registers drives what they drive.
  pub registers-kept : (w : Wish) (rs : List Register) → fold (made past now args t) w (kept_registers rs) ≡ fold (made past now args t) w rs
  registers-kept w rs = empty-dropped w (map kept_register rs) ∙ each-kept w rs

-- ---- what holds of triggers, holds of those that are kept

-- it holds of a trigger in any other mode
abbrev pub HoldsOfModes : (TriggerRow → Type 0) → Type 0
HoldsOfModes P = (g : TriggerRow) (m : Mode) → P g → P (record g { mode = m })

module _ (P : TriggerRow → Type 0) (modes : HoldsOfModes P) where
  singles-have : (gs : List TriggerRow) → Each P gs → Each P (flat_map singles gs)
  singles-have [] h = tt
  singles-have (g ∷ gs) h = by g.mode (singles-have gs h.1)
    where
      by : (m : Mode) → Each P (flat_map singles gs) → Each P (singles_by m g ++ flat_map singles gs)
      by Both k = (modes g Rise h.0, (modes g Fall h.0, k))
      by Rise k = (h.0, k)
      by Fall k = (h.0, k)
      by High k = (h.0, k)
      by Low k = (h.0, k)

  pub triggers-have : (gs : List TriggerRow) → Each P gs → Each P (kept_triggers gs)
  triggers-have gs h = each-filter P can_fire (flat_map singles gs) (singles-have gs h)

-- each trigger of a register has it
abbrev pub AllHave : (Part → TriggerRow → Type 0) → Register → Type 0
AllHave P r = Each (P r.0) r.1

module _ (P : Part → TriggerRow → Type 0) (modes : (p : Part) → HoldsOfModes (P p)) where
  each-have : (rs : List Register) → Each (AllHave P) rs → Each (AllHave P) (map kept_register rs)
  each-have [] h = tt
  each-have (r ∷ rs) h = (triggers-have (P r.0) (modes r.0) r.1 h.0, each-have rs h.1)

  pub registers-have : (rs : List Register) → Each (AllHave P) rs → Each (AllHave P) (kept_registers rs)
  registers-have rs h = each-filter (AllHave P) has_triggers (map kept_register rs) (each-have rs h)

pub kept-registers-typed : (rs : List Register) → Each RegisterTyped rs → Each RegisterTyped (kept_registers rs)
kept-registers-typed rs h =
    registers-have (λ p g. TriggerTyped p.ty g) (λ p g m k. record { operand = k.operand; gate = k.gate; value = k.value; delay = k.delay }) rs h
