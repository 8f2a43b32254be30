use Rattle.std.proofs.Common.{ap}
use Rattle.lh_types.specs.ValueOf.{datum_of}
use Rattle.lh_ops.proofs.ArgLemmas.{inss_two, inss_within, inss_array}
use Rattle.lh_ops.proofs.rows.inss.Goals as goal

pub bounds-args-1 : goal.bounds-args-1
bounds-args-1 c = inss_two _ _ _ c.requires

pub with_parts-requires : goal.with_parts-requires
with_parts-requires c = inss_within _ _ _ _ _ _ _ _ c.requires c.index-args-0.is c.index-args-1.is (ap datum_of c.in-Array.is) c.as_slice.ensures c.parts.ensures

pub returns-in_ok-whole-in-Array : goal.returns-in_ok-whole-in-Array
returns-in_ok-whole-in-Array c = inss_array _ _ _ _ _ _ _ _ c.requires c.index-args-0.is c.index-args-1.is (ap datum_of c.in-Array.is) c.as_slice.ensures c.parts.ensures _
    c.in_ok-whole-in-Array.ensures
