use Rattle.std.proofs.Common.{ap}
use Rattle.lh_types.specs.ValueOf.{datum_of}
use Rattle.lh_eval.proofs.Chosen.{if-some, chosen-is}
use Rattle.lh_eval.proofs.seen.chosen.Goals as goal

pub returns-in-Mux-Array-Int : goal.returns-in-Mux-Array-Int
returns-in-Mux-Array-Int c = if-some _ _ c.element.result
    (λ v h. chosen-is c.args.op.now (datum_of c.args.a.now) (datum_of c.args.b.now) _ c.in-Mux-Array-Int.elements c.as_slice.result.now c.in-Mux-Array-Int.width-2 c.in-Mux-Array-Int.bits
    c.in-Mux-Array-Int.is-0 (ap datum_of c.in-Mux-Array-Int.is-1) (ap datum_of c.in-Mux-Array-Int.is-2) c.as_slice.ensures h) c.element.ensures
