use Rattle.std.proofs.Common.{◌+◌, ℕ, arith, sym, subst}
use Rattle.lh_region.specs.Ahead.{LeadsNowhere}
use Rattle.lh_region.proofs.BlocksAhead.{nowhere-first, nowhere-next}
use Rattle.lh_region.proofs.ahead.no_edges.Goals as goal

pub loop-init : goal.loop-init
loop-init c = subst (LeadsNowhere 0) (sym c.new-led.ensures.items) nowhere-first

pub loop-preserved : goal.loop-preserved
loop-preserved c = nowhere-next c.loop.counter (c.loop.counter + 1) c.loop.led.items c.put.new.led.items c.new.result c.new.ensures c.in_ok-put.ensures (omega arith) c.loop.invariant

pub returns : goal.returns
returns c = subst (λ (n : ℕ). LeadsNowhere n c.loop.led.items) (omega (arith, c.loop-test.false, c.loop.auto.counter-end)) c.loop.invariant
