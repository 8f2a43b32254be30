use Rattle.std.proofs.Common.{◌≡◌, ◌+◌, ◌-◌, ◌*◌, sym, ◌∙◌, ap}
use Rattle.std.specs.Prelude.{◌^◌}
use Rattle.lh_read_pieces.specs.Pieces.{◌>>=◌, below}
use Rattle.lh_read_pieces.specs.Times.{shifted}
use Rattle.lh_read_pieces.proofs.Runs.{shifted-one, shifted-past}
use Rattle.lh_read_pieces.proofs.times.shift.Goals as goal

pub returns-then-n-ge-TOO_LONG : goal.returns-then-n-ge-TOO_LONG
returns-then-n-ge-TOO_LONG c =
    let v : below (2 ^ 63) (shifted c.loop-left.n c.loop-left.left c.loop-left.rest.now) ≡ below (2 ^ 63) (shifted c.args.whole c.args.places c.args.part.now) = c.loop-left.invariant in
    sym (sym v ∙ shifted-past c.loop-left.n c.loop-left.left c.loop-left.rest.now c.if-n-ge-TOO_LONG.true)

pub loop-left-preserved : goal.loop-left-preserved
loop-left-preserved c =
    let v : below (2 ^ 63) (shifted c.loop-left.n c.loop-left.left c.loop-left.rest.now) ≡ below (2 ^ 63) (shifted c.args.whole c.args.places c.args.part.now) = c.loop-left.invariant in
    let s = shifted-one c.loop-left.n c.loop-left.left c.loop-left.rest.now c.loop-left-test.true
    ∙ ap (λ o. o >>= λ d. shifted (c.loop-left.n * 10 + d.0) (c.loop-left.left - 1) d.1) (sym c.in_ok-digit.ensures.value) in
    ap (below (2 ^ 63)) (sym s) ∙ v
