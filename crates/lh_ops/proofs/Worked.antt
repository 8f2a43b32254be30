-- The worked rows, by computation.
use Rattle.std.proofs.Common.{refl, ◌-◌, ◌^◌}
use Rattle.lh_types.specs.Apply.{apply}
use Rattle.lh_types.specs.ApplyInt.{integer_row, row_width}
use Rattle.lh_ops.specs.Vectors.{ByteRows, WideRows, WorkedRows}

byte_rows : ByteRows
unfolding apply integer_row row_width
byte_rows = record {
  shl_by_3 = refl;
  shr_by_3 = refl;
  shl_past_width = refl;
  sdiv_of_minus_7 = refl;
  srem_of_minus_7 = refl;
  smod_of_minus_7 = refl;
  sdiv_wraps = refl;
  udiv_by_zero = refl;
  mux_past_end = refl;
  add_wraps = refl;
}

wide_rows : WideRows (2 ^ 128 - 1)
unfolding apply integer_row row_width
wide_rows = record {
  add_wraps = refl;
  umul_wraps = refl;
  sdiv_wraps = refl;
  srem_of_minus_1 = refl;
  smod_of_minus_1 = refl;
  udiv_of_powers = refl;
  shl_by_1 = refl;
  shr_by_1 = refl;
}

pub worked_rows_lem : WorkedRows
worked_rows_lem = (byte_rows, wide_rows)
