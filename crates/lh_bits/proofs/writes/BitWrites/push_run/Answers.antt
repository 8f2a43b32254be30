use Rattle.std.proofs.Common.{◌≡◌, ◌+◌, ◌++◌, ap, ◌∙◌, rules}
use Rattle.lh_bits.specs.Writes.{numbered}
use Rattle.lh_bits.proofs.WrittenBits.{bits-push, counted-push}
use Rattle.lh_bits.proofs.writes.BitWrites.push_run.Goals as goal

pub invariant_of-self-2 : goal.invariant_of-self-2
invariant_of-self-2 c =
    let e : c.in-Some.len ≡ c.self.inside.len + c.len-2.result = search rules in
    counted-push c.self.inside.runs c.push.new.self _ c.self.inside.len c.in-Some.len c.len-2.result c.in_ok-push.ensures.ok c.self.invariant c.len-2.ensures e

pub returns-clause-ok : goal.returns-clause-ok
returns-clause-ok c = bits-push c.self.inside.runs c.push.new.self _ c.in_ok-push.ensures.ok ∙ ap (λ w. w ++ numbered c.args.lo c.args.bits) c.self.view_is
