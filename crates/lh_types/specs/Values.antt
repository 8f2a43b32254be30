-- A value of the language as contracts see it.
use Rattle.std.specs.Prelude.{◌≡◌, ℕ, ◌+◌, List, [], ◌∷◌, refl}
use base.Stored.{Gv, gnil, gnum, gcons, Coded}
use Rattle.lh_time.specs.declared.Delay.{Delay}

mutual
  -- an integer by its width and its bits as a number, a time, an array, or a struct
  pub data Datum : Type 0 where
    int_value : ℕ → ℕ → Datum
    time_value : Delay → Datum
    array_value : DatumRow → Datum
    tuple_value : DatumRow → Datum

  -- the elements or fields in order
  pub data DatumRow : Type 0 where
    no_values : DatumRow
    more_values : Datum → DatumRow → DatumRow

-- the values of a list in order
abbrev pub data_row : List Datum → DatumRow
data_row [] = no_values
data_row (v ∷ vs) = more_values v (data_row vs)

abbrev mutual
  -- how many nodes it has, for recursions
  pub datum_count : Datum → ℕ
  datum_count (int_value w b) = 1
  datum_count (time_value d) = 1
  datum_count (array_value vs) = datum_count_row vs + 1
  datum_count (tuple_value vs) = datum_count_row vs + 1

  pub datum_count_row : DatumRow → ℕ
  datum_count_row no_values = 1
  datum_count_row (more_values v vs) = datum_count v + datum_count_row vs + 1

abbrev mutual
  -- a value as stored data, which tells any two apart
  code : Datum → Gv
  code (int_value w b) = gcons (gnum 0) (gcons (gnum w) (gnum b))
  code (time_value d) = gcons (gnum 1) (gcons (gnum d.fs) (gcons (gnum d.delta) (gnum d.eps)))
  code (array_value vs) = gcons (gnum 2) (codes_of vs)
  code (tuple_value vs) = gcons (gnum 3) (codes_of vs)

  codes_of : DatumRow → Gv
  codes_of no_values = gnil
  codes_of (more_values v vs) = gcons (code v) (codes_of vs)

-- two delays with the same fields are one
pub same_delay : (d e : Delay) → d.fs ≡ e.fs → d.delta ≡ e.delta → d.eps ≡ e.eps → time_value d ≡ time_value e
same_delay d e p q r = λ i. time_value (record { fs = p i; delta = q i; eps = r i })

mutual
  pub code_inj : (x y : Datum) → code x ≡ code y → x ≡ y
  code_inj (int_value w b) (int_value v c) p = cc
  code_inj (time_value d) (time_value e) p = let f : d.fs ≡ e.fs = cc in let g : d.delta ≡ e.delta = cc in let h : d.eps ≡ e.eps = cc in same_delay d e f g h
  code_inj (array_value r) (array_value s) p = let e : codes_of r ≡ codes_of s = cc in cc (codes_of_inj r s e)
  code_inj (tuple_value r) (tuple_value s) p = let e : codes_of r ≡ codes_of s = cc in cc (codes_of_inj r s e)
  code_inj _ _ p = cc

  pub codes_of_inj : (r s : DatumRow) → codes_of r ≡ codes_of s → r ≡ s
  codes_of_inj no_values no_values p = refl
  codes_of_inj (more_values t r) (more_values u s) p = let e : code t ≡ code u = cc in let f : codes_of r ≡ codes_of s = cc in cc (code_inj t u e, codes_of_inj r s f)
  codes_of_inj _ _ p = cc

abbrev pub datum_coded : Coded Datum
datum_coded = record { code = code; inj = code_inj }
