use Rattle.std.proofs.Common.{◌≡◌, ◌≢◌, ◌+◌, ◌≤◌, false, nat_lt, length, None, ap, sym, subst, ◌∙◌, arith}
use Rattle.std.proofs.lemmas.Bool.Decides.{nat_tests}
use Rattle.std.proofs.lemmas.Result.{err_from_is_err_and}
use Rattle.lh_types.specs.Types.{IsData, AreData, IsLimited, tuple_type, row_of, bit_count_row, depth_of_row}
use Rattle.lh_types.specs.Faults.{tuple_fault}
use Rattle.lh_types.proofs.Limits.{depth_of_row-le, one_le-bit_count_row, tuple_fault-none}
use Rattle.lh_types.proofs.ty.Ty.tuple.Goals as goal

pub overflow_add-depth_of_fields : goal.overflow_add-depth_of_fields
overflow_add-depth_of_fields c = omega (arith, depth_of_row-le _ (c.all_carry_data.ensures.data c.if-not-all_carry_data.false))

pub invariant_of-result : goal.invariant_of-result
invariant_of-result c =
    let d : AreData (row_of c.as_slice-parts.result.now) = c.all_carry_data.ensures.data c.if-not-all_carry_data.false in
    let b : nat_lt 65536 (bit_count_row (row_of c.as_slice-parts.result.now)) ≡ false = cc in
    let some : length c.as_slice-parts.result.now ≢ 0 = grind arith in
    let limited : IsData (tuple_type (row_of c.as_slice-parts.result.now)) = (d, one_le-bit_count_row _ d some, grind (arith, nat_tests), omega arith) in
    let whole : IsData (tuple_type (row_of c.args.fields)) = subst (λ ts. IsData (tuple_type (row_of ts))) c.as_slice-parts.ensures limited in
    subst IsLimited (sym c.in_ok-node.ensures) whole

pub returns-in_err-node : goal.returns-in_err-node
returns-in_err-node c =
    let b : nat_lt 65536 (bit_count_row (row_of c.as_slice-parts.result.now)) ≡ false = cc in
    let d : depth_of_row (row_of c.as_slice-parts.result.now) + 1 ≤ 16 = omega arith in
    let some : length c.as_slice-parts.result.now ≢ 0 = grind arith in
    let none = tuple_fault-none c.as_slice-parts.result.now some (sym c.all_carry_data.ensures.test ∙ c.if-not-all_carry_data.false) d b in
    let whole : tuple_fault (row_of c.args.fields) ≡ None = ap (λ ts. tuple_fault (row_of ts)) (sym c.as_slice-parts.ensures) ∙ none in
    let p = err_from_is_err_and c.from_residual.result c.from_residual.ensures.1 in
    rw (p.1, p.2) whole

pub returns : goal.returns
returns c =
    let b : nat_lt 65536 (bit_count_row (row_of c.as_slice-parts.result.now)) ≡ false = cc in
    let d : depth_of_row (row_of c.as_slice-parts.result.now) + 1 ≤ 16 = omega arith in
    let some : length c.as_slice-parts.result.now ≢ 0 = grind arith in
    let none = tuple_fault-none c.as_slice-parts.result.now some (sym c.all_carry_data.ensures.test ∙ c.if-not-all_carry_data.false) d b in
    (ap (λ ts. tuple_fault (row_of ts)) (sym c.as_slice-parts.ensures) ∙ none, c.in_ok-node.ensures)
