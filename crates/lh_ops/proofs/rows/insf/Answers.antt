use Rattle.std.proofs.Common.{ap}
use Rattle.lh_types.specs.ValueOf.{datum_of}
use Rattle.lh_ops.specs.Operands.{parts_within}
use Rattle.lh_ops.proofs.ArgLemmas.{insf_two, insf_within, insf_array, insf_tuple}
use Rattle.lh_ops.proofs.rows.insf.Goals as goal

pub bounds-args-1 : goal.bounds-args-1
bounds-args-1 c = insf_two _ _ c.requires

pub with_part-requires : goal.with_part-requires
with_part-requires c = insf_within _ _ _ _ _ _ c.requires c.index-args-0.is c.index-args-1.is c.as_slice.ensures (ap (λ v. parts_within (datum_of v)) c.in-Array.is)

pub with_part-requires-in-Tuple : goal.with_part-requires-in-Tuple
with_part-requires-in-Tuple c = insf_within _ _ _ _ _ _ c.requires c.index-args-0.is c.index-args-1.is c.as_slice-in-Tuple.ensures (ap (λ v. parts_within (datum_of v)) c.in-Tuple.is)

pub returns-in_ok-whole-in-Array : goal.returns-in_ok-whole-in-Array
returns-in_ok-whole-in-Array c = insf_array _ _ _ _ _ _ c.requires c.index-args-0.is c.index-args-1.is c.as_slice.ensures _ (ap datum_of c.in-Array.is) c.in_ok-whole-in-Array.ensures

pub returns-in_ok-whole-in-Tuple : goal.returns-in_ok-whole-in-Tuple
returns-in_ok-whole-in-Tuple c = insf_tuple _ _ _ _ _ _ c.requires c.index-args-0.is c.index-args-1.is c.as_slice-in-Tuple.ensures _ (ap datum_of c.in-Tuple.is) c.in_ok-whole-in-Tuple.ensures
