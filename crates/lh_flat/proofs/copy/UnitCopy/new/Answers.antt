use Rattle.std.proofs.Common.{length, ap, ◌∙◌}
use Rattle.lh_flat.specs.Building.{call_room}
use Rattle.lh_flat.proofs.BuilderRoom.{length-spans_of}
use Rattle.lh_flat.proofs.copy.UnitCopy.new.Goals as goal

pub invariant_of-result : goal.invariant_of-result
invariant_of-result c = record {
  fits = record {
    values = c.requires.values;
    labels = ap length c.in_ok-spans.ensures ∙ length-spans_of (call_room c.args.depth c.args.view.module.now) c.args.view.module.now c.args.view.unit.0 c.args.place.at;
  };
}
