use Rattle.std.proofs.Common.{ap}
use Rattle.lh_types.specs.ValueOf.{datum_of}
use Rattle.lh_ops.proofs.ArgLemmas.{exts_within, exts_is}
use Rattle.lh_ops.proofs.rows.exts.Goals as goal

pub slice_bounds-part-end : goal.slice_bounds-part-end
slice_bounds-part-end c = exts_within _ _ _ _ _ _ c.requires c.index-args-0.is (ap datum_of c.in-Array.is) c.as_slice.ensures

pub returns-in_ok-copies-in-Array : goal.returns-in_ok-copies-in-Array
returns-in_ok-copies-in-Array c = exts_is _ _ _ _ _ _ c.requires c.index-args-0.is (ap datum_of c.in-Array.is) c.as_slice.ensures _ c.in_ok-copies-in-Array.ensures
