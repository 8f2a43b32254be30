-- The integer rows of the table on values.
use Rattle.std.proofs.Common.{◌≡◌, ℕ, Bool, not, ◌&&◌, eqb, refl, ap}
use Rattle.std.proofs.lemmas.Bool.{eq-eqb}
use Rattle.lh_types.specs.ApplyInt.{integer_row, row_width}
use Rattle.lh_types.specs.Apply.{apply, bit_value}
use Rattle.lh_types.specs.declared.op.Op.TheVariants.{Not, Neg, Eq, Neq, Shl, Shr, Mux, Extf, Exts, Insf, Inss, Array, Repeat, Tuple}
use Rattle.lh_ops.specs.Laws.{IntegerRows}

same_width : (n : ℕ) (b : Bool) → (eqb n n && b) ≡ b
same_width n b = rw (eq-eqb n n refl) refl

pub integer_rows_lem : IntegerRows
unfolding apply integer_row row_width
integer_rows_lem Not n a b k = refl
integer_rows_lem Neg n a b k = refl
integer_rows_lem Eq n a b k = ap bit_value (same_width n (eqb a b))
integer_rows_lem Neq n a b k = ap (λ t. bit_value (not t)) (same_width n (eqb a b))
integer_rows_lem Shl n a b k = absurd k
integer_rows_lem Shr n a b k = absurd k
integer_rows_lem Mux n a b k = absurd k
integer_rows_lem (Extf i) n a b k = absurd k
integer_rows_lem (Exts i j) n a b k = absurd k
integer_rows_lem (Insf i) n a b k = absurd k
integer_rows_lem (Inss i j) n a b k = absurd k
integer_rows_lem Array n a b k = absurd k
integer_rows_lem (Repeat i) n a b k = absurd k
integer_rows_lem Tuple n a b k = absurd k
integer_rows_lem op n a b k = refl
