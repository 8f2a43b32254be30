use Rattle.std.proofs.Common.{ℕ, ◌<◌, [], ◌∷◌, ◌++◌, length, subst}
use Rattle.lh_unit.specs.Within.{Each}
use Rattle.lh_verify_laws.proofs.EachItem.{each-split}
use Rattle.lh_elab.specs.Climbing.{dotted}
use Rattle.lh_elab.proofs.Labels.{shown, down}
use Rattle.lh_elab.proofs.paths.put_below.Goals as goal

pub loop-next-preserved : goal.loop-next-preserved
loop-next-preserved c =
    let d = c.args.d.now in
    let all = shown c.args.m.now d in
    let ks = c.loop-next.below.items in
    let less = c.pop.new.self.items in
    let next = c.in-Some.next in
    let both = each-split (λ (k : ℕ). k < length d.instances.items) less (next ∷ []) (subst (Each (λ (k : ℕ). k < length d.instances.items)) c.in-Some.ensures.items c.loop-next.invariant.known) in
    record {
      text = down all (c.args.path.now.items ++ dotted all c.args.below.items) c.loop-next.path.items c.put.new.to.items c.put_label.new.to.items ks less next c.in-Some.ensures.items
          c.in_ok-put.ensures c.in_ok-put_label.ensures c.loop-next.invariant.text;
      known = both.0;
    }
