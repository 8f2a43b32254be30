use Rattle.std.proofs.Common.{◌≡◌, ℕ, Option, None, map, replicate, ap, ◌∙◌, arith}
use Rattle.lh_unit.specs.Held.{Held}
use Rattle.lh_eval.specs.HeldOf.{maybe_held}
use Rattle.lh_eval.proofs.Lists.{map-replicate}
use Rattle.lh_eval.proofs.held.Slots.new.Goals as goal

pub returns : goal.returns
returns c =
    let e : c.loop-i.i ≡ c.args.len = omega arith in
    ap (map maybe_held) c.loop-i.invariant.items ∙ map-replicate maybe_held c.loop-i.i None ∙ ap (λ (n : ℕ). let none : Option Held = None in replicate n none) e
