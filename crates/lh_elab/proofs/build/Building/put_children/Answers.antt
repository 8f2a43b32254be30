use Rattle.std.proofs.Common.{◌≡◌, map, Some, ◌∙◌}
use Rattle.lh_unit.specs.Arena.{args_at}
use Rattle.lh_elab.specs.declared.build.Pending.{Pending}
use Rattle.lh_elab_plan.specs.Plans.{low_at}
use Rattle.lh_elab.specs.Builds.{ranges_by, kid}
use Rattle.lh_elab.proofs.BuildSteps.{kids-more}
use Rattle.lh_elab.proofs.build.Building.put_children.Goals as goal

pub loop-i-preserved : goal.loop-i-preserved
loop-i-preserved c =
    let child = c.index-children-children.result in
    let low = low_at c.args.args.now c.args.sigs.now in
    let args : c.in_ok-args.args ≡ ranges_by (args_at c.args.m.now child.unit.0) (map low child.lows.items) =
    c.in_ok-args.ensures ∙ (λ j. ranges_by (c.args-in-loop-i.ensures.args j) (map low (c.as_slice.ensures.value j))) in
    let x : Pending = record { unit = child.unit; parent = Some c.args.parent; room = c.args.room; args = c.in_ok-args.args } in
    let e : x ≡ kid c.args.m.now c.args.parent c.args.room c.args.args.now c.args.sigs.now child = λ j. record { unit = child.unit; parent = Some c.args.parent; room = c.args.room; args = args j } in
    let i = c.loop-i.invariant.built in
    let n = c.in_ok-put_pending.ensures.built in
    record {
      pending = kids-more c.args.m.now c.args.parent c.args.room c.args.args.now c.args.sigs.now c.args.children.now c.loop-i.i child c.args.self.now.pending.items c.loop-i.self.pending.items
          c.put_pending.new.self.pending.items x c.loop-i-test.true c.index-children-children.is c.loop-i.invariant.pending c.in_ok-put_pending.ensures.pending e;
      built = record { instances = n.instances ∙ i.instances; signals = n.signals ∙ i.signals; init = n.init ∙ i.init; lo = n.lo ∙ i.lo };
    }
