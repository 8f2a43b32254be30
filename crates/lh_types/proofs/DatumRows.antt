-- Rows of values, walked by an index.
use Rattle.std.proofs.Common.{◌≡◌, ℕ, ◌+◌, ◌<◌, zero, suc, List, [], ◌∷◌, length, get_or, drop, map, ◌≢◌, ◌&&◌, true, false, refl, ap, sym, ◌∙◌, add-one, drop-cons, arith}
use Rattle.std.proofs.lemmas.List.{get_or-map, length-map}
use Rattle.lh_types.specs.Values.{Datum, more_values, data_row, datum_count, datum_count_row, DatumRow, no_values}
use Rattle.lh_types.specs.ValueOf.{datum_of}
use Rattle.lh_types.specs.declared.val.Val.{Val}
use Rattle.lh_types.specs.SameValue.{same_datum, same_parts}
use Rattle.lh_types.specs.Fits.{part_count}
use Rattle.lh_types.specs.Parts.{parts_of}

pub data_row-drop : (xs : List Datum) (i : ℕ) (d : Datum) → i < length xs → data_row (drop i xs) ≡ more_values (get_or xs i d) (data_row (drop (i + 1) xs))
data_row-drop xs i d h = rw (add-one, drop-cons xs i d) refl

-- two lists of one length that agree below an index
pub record SameFrom (xs ys vs ws : List Datum) (i : ℕ) : Type 0 where
  pub first : vs ≡ xs
  pub second : ws ≡ ys
  pub lengths : length vs ≡ length ws
  pub rest : same_parts (data_row xs) (data_row ys) ≡ same_parts (data_row (drop i vs)) (data_row (drop i ws))

pub same_parts-lengths : (xs ys : List Datum) → length xs ≢ length ys → same_parts (data_row xs) (data_row ys) ≡ false
same_parts-lengths [] [] h = absurd (h refl)
same_parts-lengths [] (y ∷ ys) h = refl
same_parts-lengths (x ∷ xs) [] h = refl
same_parts-lengths (x ∷ xs) (y ∷ ys) h = elim (same_datum x y) as (λ b. b && same_parts (data_row xs) (data_row ys) ≡ false)
    [ true ↦ same_parts-lengths xs ys (λ e. h (omega (arith, e))) | false ↦ refl ]

-- what is left of the values of the program, by the first of them
pub data_row-drop-map : (vs : List Val) (i : ℕ) (v : Val) → i < length vs → v ≡ get_or vs i v
    → data_row (drop i (map datum_of vs)) ≡ more_values (datum_of v) (data_row (drop (i + 1) (map datum_of vs)))
data_row-drop-map vs i v h e =
    let at : get_or (map datum_of vs) i (datum_of v) ≡ datum_of v = get_or-map datum_of vs i v (datum_of v) h ∙ ap datum_of (sym e) in
    let l : i < length (map datum_of vs) = omega (arith, length-map vs datum_of) in
    data_row-drop (map datum_of vs) i (datum_of v) l ∙ ap (λ d. more_values d (data_row (drop (i + 1) (map datum_of vs)))) at

module _ (xs ys : List Datum) (vs ws : List Val) (i : ℕ) (v w : Val) (s : SameFrom xs ys (map datum_of vs) (map datum_of ws) i) (h : i < length vs) (e : v ≡ get_or vs i v) (k : i < length ws)
    (f : w ≡ get_or ws i w) where
  same_parts-here : same_parts (data_row xs) (data_row ys) ≡ same_datum (datum_of v) (datum_of w) && same_parts (data_row (drop (i + 1) (map datum_of vs))) (data_row (drop (i + 1) (map datum_of ws)))
  same_parts-here = s.rest ∙ ap (λ r. same_parts r (data_row (drop i (map datum_of ws)))) (data_row-drop-map vs i v h e)
      ∙ ap (same_parts (more_values (datum_of v) (data_row (drop (i + 1) (map datum_of vs))))) (data_row-drop-map ws i w k f)

  pub SameFrom-not : same_datum (datum_of v) (datum_of w) ≡ false → same_parts (data_row xs) (data_row ys) ≡ false
  SameFrom-not n = same_parts-here ∙ ap (λ b. b && same_parts (data_row (drop (i + 1) (map datum_of vs))) (data_row (drop (i + 1) (map datum_of ws)))) n

  pub SameFrom-next : same_datum (datum_of v) (datum_of w) ≡ true → SameFrom xs ys (map datum_of vs) (map datum_of ws) (i + 1)
  SameFrom-next y = record {
    first = s.first;
    second = s.second;
    lengths = s.lengths;
    rest = same_parts-here ∙ ap (λ b. b && same_parts (data_row (drop (i + 1) (map datum_of vs))) (data_row (drop (i + 1) (map datum_of ws)))) y;
  }

-- an element of a row of values is smaller than the row
datum_count-get_or : (vs : List Val) (i : ℕ) (d : Val) → i < length vs → datum_count (datum_of (get_or vs i d)) < datum_count_row (data_row (map datum_of vs))
datum_count-get_or [] i d h = absurd (omega arith)
datum_count-get_or (v ∷ vs) zero d h = omega arith
datum_count-get_or (v ∷ vs) (suc i) d h = omega (arith, datum_count-get_or vs i d (omega arith))

pub part-datum_count : (all : List Datum) (vs : List Val) (i : ℕ) (v : Val) → map datum_of vs ≡ all → i < length vs → v ≡ get_or vs i v → datum_count (datum_of v) < datum_count_row (data_row all)
part-datum_count all vs i v w h e = omega (arith, datum_count-get_or vs i v h, ap (λ x. datum_count (datum_of x)) e, ap (λ xs. datum_count_row (data_row xs)) w)

-- a row of values is a list of values
pub parts_of-data_row : (vs : List Datum) → parts_of (data_row vs) ≡ vs
parts_of-data_row [] = refl
parts_of-data_row (v ∷ vs) = ap (λ ws. v ∷ ws) (parts_of-data_row vs)

pub data_row-parts_of : (vs : DatumRow) → data_row (parts_of vs) ≡ vs
data_row-parts_of no_values = refl
data_row-parts_of (more_values v vs) = ap (more_values v) (data_row-parts_of vs)

pub part_count-data_row : (vs : List Datum) → part_count (data_row vs) ≡ length vs
part_count-data_row [] = refl
part_count-data_row (v ∷ vs) = omega (arith, part_count-data_row vs)

pub length-parts_of : (vs : DatumRow) → length (parts_of vs) ≡ part_count vs
length-parts_of no_values = refl
length-parts_of (more_values v vs) = omega (arith, length-parts_of vs)
