use Rattle.std.proofs.Common.{sym, ◌∙◌}
use Rattle.lh_read.proofs.AddedItems.{label-outside, label-taken, label-refused, label-placed, label-named}
use Rattle.lh_read.proofs.reader.Reader.take_label.Goals as goal

pub returns-in_default-clause-step : goal.returns-in_default-clause-step
returns-in_default-clause-step c = label-outside c.args.self.now c.args.name.now c.requires (sym c.label_unit.ensures ∙ c.in_default.is)

pub returns-in_err-add_block-clause-step : goal.returns-in_err-add_block-clause-step
returns-in_err-add_block-clause-step c =
    label-refused c.from_residual-in_err-add_block.result c.args.self.now c.in-Some.unit c.label_id.new.self.module c.add_block.new.self c.in_ok-block.block c.args.name.now c.in_err-add_block.field-0.0 _
    c.requires
    (sym c.label_unit.ensures ∙ c.in-Some.is) c.in_ok-block.ensures c.in_err-add_block.ensures c.from_residual-in_err-add_block.ensures.1

pub returns-clause-step : goal.returns-clause-step
returns-clause-step c =
    label-taken c.args.self.now c.in-Some.unit c.label_id.new.self.module c.add_block.new.self c.in_ok-block.block c.args.name.now c.requires (sym c.label_unit.ensures ∙ c.in-Some.is) c.in_ok-block.ensures
    c.in_ok-add_block.ensures

pub returns-clause-order : goal.returns-clause-order
returns-clause-order c = record {
  place = label-placed c.args.self.now c.in-Some.unit c.label_id.new.self.module c.add_block.new.self c.in_ok-block.block c.args.name.now c.requires (sym c.label_unit.ensures ∙ c.in-Some.is)
      c.in_ok-block.ensures c.in_ok-add_block.ensures;
  named = label-named c.args.self.now c.in-Some.unit c.label_id.new.self.module c.add_block.new.self c.in_ok-block.block c.args.name.now c.requires (sym c.label_unit.ensures ∙ c.in-Some.is)
      c.in_ok-block.ensures c.in_ok-add_block.ensures;
}
