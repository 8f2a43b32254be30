-- Copies of what operands hold, one operand after the other.
use Rattle.std.proofs.Common.{◌≡◌, ℕ, List, [], ◌∷◌, ◌++◌, Option, None, Some, refl, ap, sym, ◌∙◌, append_assoc}
use Rattle.std.specs.Option.{option_map}
use Rattle.lh_types.specs.Values.{Datum}
use Rattle.lh_unit.specs.Held.{Held, front}
use Rattle.lh_unit.specs.declared.inst.Typed.{Typed}
use Rattle.lh_eval.specs.Holding.{datum_in, data_in}

front-more : (d : Datum) (xs : List Datum) (y : Option (List Datum)) → option_map (λ ds. (xs ++ d ∷ []) ++ ds) y ≡ option_map (λ ds. xs ++ ds) (front (Some d) y)
front-more d xs None = refl
front-more d xs (Some ds) = simp append_assoc

-- one more operand holds a value
pub data-more : (slots : List (Option Held)) (os more : List Typed) (o : Typed) (d : Datum) (xs : List Datum) (all : Option (List Datum)) → os ≡ o ∷ more → Some d ≡ datum_in slots o.value →
    option_map (λ ds. xs ++ ds) (data_in slots os) ≡ all → option_map (λ ds. (xs ++ d ∷ []) ++ ds) (data_in slots more) ≡ all
data-more slots os more o d xs all e h s =
    front-more d xs (data_in slots more) ∙ ap (λ (x : Option Datum). option_map (λ ds. xs ++ ds) (front x (data_in slots more))) h
    ∙ sym (ap (λ (l : List Typed). option_map (λ ds. xs ++ ds) (data_in slots l)) e) ∙ s

-- an operand holds no value
pub data-none : (slots : List (Option Held)) (os more : List Typed) (o : Typed) (xs : List Datum) (all : Option (List Datum)) → os ≡ o ∷ more → None ≡ datum_in slots o.value →
    option_map (λ ds. xs ++ ds) (data_in slots os) ≡ all → None ≡ all
data-none slots os more o xs all e h s =
    ap (λ (x : Option Datum). option_map (λ ds. xs ++ ds) (front x (data_in slots more))) h
    ∙ sym (ap (λ (l : List Typed). option_map (λ ds. xs ++ ds) (data_in slots l)) e) ∙ s
