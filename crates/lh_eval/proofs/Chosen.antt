-- The element that an operation chooses of an array.
use Rattle.std.proofs.Common.{◌≡◌, ℕ, ◌-◌, List, [], ◌∷◌, length, map, min, Option, Some, None, ap, sym, ◌∙◌}
use Rattle.std.specs.Prelude.{IfSome, slice_index_or}
use Rattle.std.proofs.lemmas.List.{length-map}
use Rattle.lh_types.specs.Values.{Datum, int_value, array_value, data_row}
use Rattle.lh_types.specs.ValueOf.{datum_of}
use Rattle.lh_types.specs.Apply.{apply, no_value}
use Rattle.lh_types.specs.declared.op.Op.{Op}
use Rattle.lh_types.specs.declared.op.Op.TheVariants.{Mux}
use Rattle.lh_types.specs.declared.val.Val.{Val}
use Rattle.lh_types.proofs.DatumRows.{parts_of-data_row}

pub if-some : {X : Type 0} (P Q : X → Type 0) (o : Option X) → ((x : X) → P x → Q x) → IfSome o P → IfSome o Q
if-some P Q None f h = h
if-some P Q (Some x) f h = f x h

mux-is : (vs : List Datum) (w s : ℕ) → apply Mux (array_value (data_row vs) ∷ int_value w s ∷ []) ≡ slice_index_or vs (min s (length vs - 1)) no_value
unfolding apply
mux-is vs w s = ap (λ (ws : List Datum). slice_index_or ws (min s (length ws - 1)) no_value) (parts_of-data_row vs)

pub chosen-is : (o : Op) (a b d : Datum) (elements : List Datum) (xs : List Val) (w s : ℕ) → o ≡ Mux → a ≡ array_value (data_row elements) → b ≡ int_value w s → map datum_of xs ≡ elements
    → d ≡ slice_index_or (map datum_of xs) (min s (length xs - 1)) no_value
    → d ≡ apply o (a ∷ b ∷ [])
chosen-is o a b d elements xs w s is_mux is_array is_int same h =
    let count : length (map datum_of xs) ≡ length xs = length-map xs datum_of in
    let at : slice_index_or (map datum_of xs) (min s (length xs - 1)) no_value ≡ apply Mux (array_value (data_row (map datum_of xs)) ∷ int_value w s ∷ []) =
    ap (λ (n : ℕ). slice_index_or (map datum_of xs) (min s (n - 1)) no_value) (sym count) ∙ sym (mux-is (map datum_of xs) w s) in
    h ∙ at ∙ ap (λ (vs : List Datum). apply Mux (array_value (data_row vs) ∷ int_value w s ∷ [])) same
    ∙ sym (ap (λ (x : Op). apply x (a ∷ b ∷ [])) is_mux ∙ ap (λ (x : Datum). apply Mux (x ∷ b ∷ [])) is_array ∙ ap (λ (x : Datum). apply Mux (array_value (data_row elements) ∷ x ∷ [])) is_int)
