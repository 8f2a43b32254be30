use Rattle.std.proofs.Common.{◌≡◌, ◌<◌, ◌≢◌, length, map, true, false, sym, ap, ◌∙◌, arith}
use Rattle.std.proofs.lemmas.List.{length-map}
use Rattle.lh_types.specs.ValueOf.{datum_of}
use Rattle.lh_types.specs.SameValue.{same_datum}
use Rattle.lh_types.proofs.DatumRows.{same_parts-lengths, SameFrom-not, SameFrom-next}
use Rattle.lh_types.proofs.val.+same_val.Goals as goal

pub same_values-returns-then-vs-ws : goal.same_values-returns-then-vs-ws
same_values-returns-then-vs-ws t c =
    let vs : map datum_of c.as_slice-vs.result.now ≡ c.args.vs.now = ap (map datum_of) c.as_slice-vs.ensures.value ∙ c.vs.view_is in
    let ws : map datum_of c.as_slice-ws.result.now ≡ c.args.ws.now = ap (map datum_of) c.as_slice-ws.ensures.value ∙ c.ws.view_is in
    let same_v : length c.args.vs.now ≡ length c.as_slice-vs.result.now = sym (ap length vs) ∙ length-map c.as_slice-vs.result.now datum_of in
    let same_w : length c.args.ws.now ≡ length c.as_slice-ws.result.now = sym (ap length ws) ∙ length-map c.as_slice-ws.result.now datum_of in
    let ne : length c.args.vs.now ≢ length c.args.ws.now = λ e. c.if-vs-ws.true (sym same_v ∙ e ∙ same_w) in
    sym (same_parts-lengths _ _ ne)

pub same_values-returns-then-not-same : goal.same_values-returns-then-not-same
same_values-returns-then-not-same t c =
    let k : c.loop-i.i < length c.as_slice-ws.result.now = omega arith in
    let n : same_datum (datum_of c.index-vs-i.result) (datum_of c.index-ws-i.result) ≡ false = cc (c.same.ensures) in
    sym (SameFrom-not _ _ _ _ _ _ _ c.loop-i.invariant c.loop-i-test.true c.index-vs-i.is k c.index-ws-i.is n)

pub same_values-loop-i-preserved : goal.same_values-loop-i-preserved
same_values-loop-i-preserved t c =
    let k : c.loop-i.i < length c.as_slice-ws.result.now = omega arith in
    let y : same_datum (datum_of c.index-vs-i.result) (datum_of c.index-ws-i.result) ≡ true = cc (c.same.ensures) in
    SameFrom-next _ _ _ _ _ _ _ c.loop-i.invariant c.loop-i-test.true c.index-vs-i.is k c.index-ws-i.is y
