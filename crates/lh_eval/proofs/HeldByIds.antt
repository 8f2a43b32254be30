-- What is held by ids is what is held under names.
use Rattle.std.proofs.Common.{◌≡◌, ℕ, ◌+◌, ◌<◌, zero, suc, Bool, if◌then◌else◌, nat_eq, List, [], ◌∷◌, ◌++◌, length, map, drop, replicate, get_or, set, Option, Some, None, refl, ap, sym, ◌∙◌, append_assoc, arith, get_or-set_same, get_or-set_other}
use Rattle.std.specs.Option.{option_and_then, option_map}
use Rattle.std.proofs.lemmas.List.{length-set, length-replicate}
use Rattle.lh_types.specs.Values.{Datum}
use Rattle.lh_unit.specs.Held.{Held, Env, as_datum, as_cell, as_part, as_delay, as_test, datum_at, data_at, front}
use Rattle.lh_unit.specs.Effects.{condition_at}
use Rattle.lh_unit_names.specs.Names.{same_name}
use Rattle.lh_unit.specs.Arena.{Arena, naming, value_count, value_name_at}
use Rattle.lh_unit.specs.Naming.{value_text, maybe_text, operand_text}
use Rattle.lh_unit.specs.Within.{Each}
use Rattle.lh_unit.specs.declared.inst.ValueId.{ValueId}
use Rattle.lh_unit.specs.declared.inst.Typed.{Typed}
use Rattle.lh_unit.proofs.Lists.{Same, same, other, same_or, nat_eq-refl, nat_eq-other, drop-item}
use Rattle.lh_unit.proofs.ById.{same_value-by_id}
use Rattle.lh_eval.specs.Holding.{Holds, datum_in, condition_in, data_in, one_datum, two_data, three_data, MaybeIn, SameHeld, HoldsSame, HoldsMore, HoldsGiven, HoldsNothing}

-- ---- reading

module _ (a : Arena) (u : ℕ) (slots : List (Option Held)) (e : Env) (h : Holds a u slots e) where
  datum-same : (v : ValueId) → v.0 < length slots → datum_in slots v ≡ datum_at e (value_text (naming a u) v)
  datum-same v w = ap (option_and_then as_datum) (h.each v w)

  condition-same : (v : Option ValueId) → MaybeIn slots v → condition_in slots v ≡ condition_at e (maybe_text (naming a u) v)
  condition-same None w = refl
  condition-same (Some v) w = ap (option_and_then as_test) (datum-same v w)

  values-same : (os : List Typed) → Each (λ (o : Typed). o.value.0 < length slots) os → data_in slots os ≡ data_at e (map (operand_text (naming a u)) os)
  values-same [] w = refl
  values-same (o ∷ os) w =
      let p : datum_in slots o.value ≡ datum_at e (value_text (naming a u) o.value) = datum-same o.value w.0 in
      let q : data_in slots os ≡ data_at e (map (operand_text (naming a u)) os) = values-same os w.1 in
      λ i. front (p i) (q i)

  pub same-held : SameHeld a u slots e
  same-held = record {
    datum = datum-same;
    cell = λ v w. ap (option_and_then as_cell) (h.each v w);
    part = λ v w. ap (option_and_then as_part) (h.each v w);
    delay = λ v w. ap (option_and_then as_delay) (datum-same v w);
    test = λ v w. ap (option_and_then as_test) (datum-same v w);
    condition = condition-same;
    values = values-same;
  }

pub holds-same : HoldsSame
holds-same a u slots e h = same-held a u slots e h

-- ---- one more

set-at : (slots : List (Option Held)) (v w : ℕ) (h : Held) → v < length slots → get_or (set slots v (Some h)) w None ≡ (if nat_eq v w then Some h else get_or slots w None)
set-at slots v w h p = by (same_or w v)
  where
    by : Same w v → get_or (set slots v (Some h)) w None ≡ (if nat_eq v w then Some h else get_or slots w None)
    by (same q) =
        ap (λ (k : ℕ). get_or (set slots v (Some h)) k None) q ∙ get_or-set_same slots v (Some h) None p
        ∙ sym (ap (λ (b : Bool). if b then Some h else get_or slots w None) (ap (nat_eq v) q ∙ nat_eq-refl v))
    by (other n) =
        get_or-set_other slots v w (Some h) None n
        ∙ sym (ap (λ (b : Bool). if b then Some h else get_or slots w None) (nat_eq-other v w (λ q. n (sym q))))

pub holds-more : HoldsMore
holds-more a u slots e v h o hu d w = record {
  long = length-set slots v.0 (Some h) ∙ d.long;
  each = λ x p.
      let l : x.0 < length slots = omega (arith, p, length-set slots v.0 (Some h)) in
      let n : same_name (value_name_at a u v.0) (value_name_at a u x.0) ≡ nat_eq v.0 x.0 = same_value-by_id a u o hu v.0 x.0 (omega (arith, w, d.long)) (omega (arith, l, d.long)) in
      set-at slots v.0 x.0 h w
      ∙ ap (λ (r : Option Held). if nat_eq v.0 x.0 then Some h else r) (d.each x l)
      ∙ sym (ap (λ (b : Bool). if b then Some h else e (value_name_at a u x.0)) n);
}

pub holds-given : HoldsGiven
holds-given a u slots e None None o hu d w = d
holds-given a u slots e None (Some h) o hu d w = d
holds-given a u slots e (Some v) None o hu d w = d
holds-given a u slots e (Some v) (Some h) o hu d w = holds-more a u slots e v h o hu d w

none-at : (n k : ℕ) → get_or (replicate n (let none : Option Held = None in none)) k None ≡ None
none-at zero zero = refl
none-at zero (suc k) = refl
none-at (suc n) zero = refl
none-at (suc n) (suc k) = none-at n k

pub holds-nothing : HoldsNothing
holds-nothing a u = record {
  long = length-replicate (value_count a u) None;
  each = λ v p. none-at (value_count a u) v.0;
}

-- the values of one operand, of two, and of three
pub data-one : (slots : List (Option Held)) (os : List Typed) (d : Typed) → length os ≡ 1 → data_in slots os ≡ one_datum (datum_in slots (get_or os 0 d).value)
data-one slots [] d h = absurd (omega (arith, h))
data-one slots (o ∷ []) d h = refl
data-one slots (o ∷ p ∷ os) d h = absurd (omega (arith, h))

pub data-two : (slots : List (Option Held)) (os : List Typed) (d e : Typed) → length os ≡ 2 → data_in slots os ≡ two_data (datum_in slots (get_or os 0 d).value) (datum_in slots (get_or os 1 e).value)
data-two slots [] d e h = absurd (omega (arith, h))
data-two slots (o ∷ []) d e h = absurd (omega (arith, h))
data-two slots (o ∷ p ∷ []) d e h = refl
data-two slots (o ∷ p ∷ q ∷ os) d e h = absurd (omega (arith, h))

pub data-three : (slots : List (Option Held)) (os : List Typed) (d e f : Typed) → length os ≡ 3
    → data_in slots os ≡ three_data (datum_in slots (get_or os 0 d).value) (datum_in slots (get_or os 1 e).value) (datum_in slots (get_or os 2 f).value)
data-three slots [] d e f h = absurd (omega (arith, h))
data-three slots (o ∷ []) d e f h = absurd (omega (arith, h))
data-three slots (o ∷ p ∷ []) d e f h = absurd (omega (arith, h))
data-three slots (o ∷ p ∷ q ∷ []) d e f h = refl
data-three slots (o ∷ p ∷ q ∷ r ∷ os) d e f h = absurd (omega (arith, h))

-- ---- values one by one

front-more : (vs : List Datum) (d : Datum) (r : Option (List Datum)) → option_map (λ ds. (vs ++ d ∷ []) ++ ds) r ≡ option_map (λ ds. vs ++ ds) (front (Some d) r)
front-more vs d None = refl
front-more vs d (Some ds) = ap Some (append_assoc vs (d ∷ []) ds)

pub data-step : (slots : List (Option Held)) (os : List Typed) (i : ℕ) (o : Typed) (vs ws : List Datum) (d : Datum) (z : Option (List Datum)) → i < length os → o ≡ get_or os i o
    → datum_in slots o.value ≡ Some d → ws ≡ vs ++ d ∷ []
    → option_map (λ ds. vs ++ ds) (data_in slots (drop i os)) ≡ z → option_map (λ ds. ws ++ ds) (data_in slots (drop (i + 1) os)) ≡ z
data-step slots os i o vs ws d z l e f g h =
    ap (λ (xs : List Datum). option_map (λ ds. xs ++ ds) (data_in slots (drop (i + 1) os))) g
    ∙ front-more vs d (data_in slots (drop (i + 1) os))
    ∙ ap (λ (x : Option Datum). option_map (λ ds. vs ++ ds) (front x (data_in slots (drop (i + 1) os)))) (sym f)
    ∙ ap (λ (xs : List Typed). option_map (λ ds. vs ++ ds) (data_in slots xs)) (sym (drop-item os i o l e))
    ∙ h

pub data-stops : (slots : List (Option Held)) (os : List Typed) (i : ℕ) (o : Typed) (vs : List Datum) (z : Option (List Datum)) → i < length os → o ≡ get_or os i o → datum_in slots o.value ≡ None
    → option_map (λ ds. vs ++ ds) (data_in slots (drop i os)) ≡ z → None ≡ z
data-stops slots os i o vs z l e f h =
    ap (λ (x : Option Datum). option_map (λ ds. vs ++ ds) (front x (data_in slots (drop (i + 1) os)))) (sym f)
    ∙ ap (λ (xs : List Typed). option_map (λ ds. vs ++ ds) (data_in slots xs)) (sym (drop-item os i o l e))
    ∙ h
