use Rattle.std.proofs.Common.{ap, ◌∙◌}
use Rattle.std.specs.Option.{option_map}
use Rattle.lh_flat.specs.Renames.{value_in, renamed}
use Rattle.lh_flat.proofs.BuilderRoom.{maybe-within}
use Rattle.lh_flat.proofs.copy.UnitCopy.inst.Goals as goal

pub maybe-requires : goal.maybe-requires
maybe-requires c =
    maybe-within c.args.self.now.view.module.now c.result_of.ensures.sound c.args.self.now.view.unit.0 c.args.self.now.view.in_place c.args.self.now.ids c.args.self.now.fits 0 c.args.id.0
    c.result_of.result c.result_of.ensures.value

pub returns : goal.returns
returns c = λ i. record {
  result = (c.maybe.ensures ∙ ap (option_map (value_in c.args.self.now.ids)) c.result_of.ensures.value) i;
  inst = (c.in_ok-inst.ensures ∙ ap (renamed c.args.self.now.ids) c.inst.ensures.inst) i;
}
