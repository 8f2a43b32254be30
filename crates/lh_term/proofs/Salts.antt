-- The salt of the parts of a constant, walked by an index.
use Rattle.std.proofs.Common.{◌≡◌, ℕ, ◌+◌, ◌<◌, ◌≤◌, List, length, get_or, drop, map, ap, sym, ◌∙◌, arith}
use Rattle.std.proofs.lemmas.List.{drop_all, length-map}
use Rattle.lh_types.specs.Values.{Datum, data_row}
use Rattle.lh_types.specs.ValueOf.{datum_of}
use Rattle.lh_types.specs.declared.val.Val.{Val}
use Rattle.lh_types.proofs.DatumRows.{data_row-drop-map}
use Rattle.lh_term.specs.Fed.{mixed, salt_of_value, salt_of_row}

pub record SaltAt (first : ℕ) (all : List Datum) (vs : List Val) (i salt : ℕ) : Type 0 where
  pub whole : map datum_of vs ≡ all
  pub rest : salt_of_row salt (data_row (drop i (map datum_of vs))) ≡ salt_of_row first (data_row all)

pub SaltAt-first : (first : ℕ) (all : List Datum) (vs : List Val) → map datum_of vs ≡ all → SaltAt first all vs 0 first
SaltAt-first first all vs e = record { whole = e; rest = ap (λ l. salt_of_row first (data_row l)) e }

pub SaltAt-next : (first : ℕ) (all : List Datum) (vs : List Val) (i salt next one : ℕ) (v : Val) → SaltAt first all vs i salt → i < length vs → v ≡ get_or vs i v → one ≡ salt_of_value (datum_of v)
    → next ≡ mixed salt one → SaltAt first all vs (i + 1) next
SaltAt-next first all vs i salt next one v w h e f g = record {
  whole = w.whole;
  rest = ap (λ d. salt_of_row d (data_row (drop (i + 1) (map datum_of vs)))) (g ∙ ap (mixed salt) f) ∙ ap (salt_of_row salt) (sym (data_row-drop-map vs i v h e)) ∙ w.rest;
}

pub SaltAt-end : (first : ℕ) (all : List Datum) (vs : List Val) (i salt : ℕ) → SaltAt first all vs i salt → length vs ≤ i → salt ≡ salt_of_row first (data_row all)
SaltAt-end first all vs i salt w h =
    let l : length (map datum_of vs) ≤ i = omega (arith, length-map vs datum_of) in
    ap (λ d. salt_of_row salt (data_row d)) (sym (drop_all i (map datum_of vs) l)) ∙ w.rest
