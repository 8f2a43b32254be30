-- Walks along the parts of a value whose text is written.
use Rattle.std.proofs.Common.{◌≡◌, ℕ, ◌+◌, ◌<◌, false, List, [], ◌++◌, ◌≤◌, length, get_or, drop, map, refl, ap, sym, ◌∙◌, cond, arith}
use Rattle.std.specs.Prelude.{codes, nat_eq}
use Rattle.std.proofs.lemmas.List.{drop_all, length-map}
use Rattle.lh_text_buffer.specs.Writing.{Written, Writes, Leaves}
use Rattle.lh_text_buffer.proofs.Parts.{all-left, less-left, none-left, two-written}
use Rattle.lh_types.specs.Values.{Datum, DatumRow, no_values, more_values, data_row}
use Rattle.lh_types.specs.ValueOf.{datum_of}
use Rattle.lh_types.specs.declared.val.Val.{Val}
use Rattle.lh_types.proofs.DatumRows.{data_row-drop-map}
use Rattle.lh_wave.specs.ValueText.{value_text, values_text, others_text}

-- what stands before the value at a place
abbrev pub comma : ℕ → List ℕ
comma i = cond (nat_eq i 0) [] (codes ", ")

-- the text of the values from a place on
abbrev pub left_text : ℕ → DatumRow → List ℕ
left_text i no_values = []
left_text i (more_values v vs) = comma i ++ value_text v ++ others_text vs

all_left : (vs : DatumRow) → left_text 0 vs ≡ values_text vs
all_left no_values = refl
all_left (more_values v vs) = refl

no_zero : (i : ℕ) → nat_eq (i + 1) 0 ≡ false
no_zero i = grind arith

others_left : (i : ℕ) (vs : DatumRow) → left_text (i + 1) vs ≡ others_text vs
others_left i no_values = refl
others_left i (more_values v vs) = ap (λ b. cond b [] (codes ", ") ++ value_text v ++ others_text vs) (no_zero i)

pub record ValuesAt (start to : Written) (all : List Datum) (vs : List Val) (i : ℕ) : Type 0 where
  pub whole : map datum_of vs ≡ all
  pub rest : Leaves start to (left_text i (data_row (drop i (map datum_of vs)))) (values_text (data_row all))

pub ValuesAt-start : (start : Written) (all : List Datum) (vs : List Val) → map datum_of vs ≡ all → ValuesAt start start all vs 0
ValuesAt-start start all vs w = record {
  whole = w;
  rest = all-left start (left_text 0 (data_row (map datum_of vs))) (values_text (data_row all)) (all_left (data_row (map datum_of vs)) ∙ ap (λ d. values_text (data_row d)) w);
}

pub ValuesAt-next : (start to with_comma next : Written) (before : List ℕ) (all : List Datum) (vs : List Val) (i : ℕ) (v : Val) → ValuesAt start to all vs i → i < length vs → v ≡ get_or vs i v
    → before ≡ comma i → Writes to with_comma before → Writes with_comma next (value_text (datum_of v)) → ValuesAt start next all vs (i + 1)
ValuesAt-next start to with_comma next before all vs i v w h e b c g =
    let more = drop (i + 1) (map datum_of vs) in
    record {
      whole = w.whole;
      rest = less-left start to next (before ++ value_text (datum_of v)) (left_text (i + 1) (data_row more)) (left_text i (data_row (drop i (map datum_of vs)))) (values_text (data_row all))
          (ap (left_text i) (data_row-drop-map vs i v h e) ∙ ap (λ l. (comma i ++ value_text (datum_of v)) ++ l) (sym (others_left i (data_row more)))
          ∙ ap (λ l. (l ++ value_text (datum_of v)) ++ left_text (i + 1) (data_row more)) (sym b))
          (two-written to with_comma next before (value_text (datum_of v)) c g) w.rest;
    }

pub ValuesAt-end : (start to : Written) (all : List Datum) (vs : List Val) (i : ℕ) → ValuesAt start to all vs i → length vs ≤ i → Writes start to (values_text (data_row all))
ValuesAt-end start to all vs i w h =
    let l : length (map datum_of vs) ≤ i = omega (arith, length-map vs datum_of) in
    none-left start to (left_text i (data_row (drop i (map datum_of vs)))) (values_text (data_row all)) (ap (λ d. left_text i (data_row d)) (drop_all i (map datum_of vs) l)) w.rest
