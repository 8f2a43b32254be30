use Rattle.std.proofs.Common.{Ok, sym, ap, subst, ◌∙◌}
use Rattle.lh_read_phrases.specs.SyntaxOf.{inst_of}
use Rattle.lh_read.specs.InOrder.{state_at, InPlace}
use Rattle.lh_read.proofs.AddedItems.{line-asked, inst-outside, inst-taken, inst-refused, inst-placed, inst-named}
use Rattle.lh_read.proofs.reader.Reader.take_inst.Goals as goal

pub returns-in_default-clause-step : goal.returns-in_default-clause-step
returns-in_default-clause-step c = inst-outside c.args.self.now (record { result = c.args.name.now; inst = inst_of c.args.inst }) c.requires (sym c.block_unit.ensures ∙ c.in_default.is)

pub returns-in_err-add_inst-clause-step : goal.returns-in_err-add_inst-clause-step
returns-in_err-add_inst-clause-step c =
    let a = line-asked c.args.self.now c.in-Some.unit c.result_id.new.self.module c.instruction.new.self.module c.in-Ok.value c.in_ok-inst.inst c.args.name.now (inst_of c.args.inst) c.requires
    (sym c.block_unit.ensures ∙ c.in-Some.is) c.in-Ok.ensures c.in_ok-inst.ensures in
    inst-refused c.from_residual-in_err-add_inst.result c.args.self.now c.in-Some.unit c.instruction.new.self.module c.add_inst.new.self _ _ c.in_err-add_inst.field-0.0 _ a c.in_err-add_inst.ensures
    c.from_residual-in_err-add_inst.ensures.1

pub returns-clause-step : goal.returns-clause-step
returns-clause-step c =
    let a = line-asked c.args.self.now c.in-Some.unit c.result_id.new.self.module c.instruction.new.self.module c.in-Ok.value c.in_ok-inst.inst c.args.name.now (inst_of c.args.inst) c.requires
    (sym c.block_unit.ensures ∙ c.in-Some.is) c.in-Ok.ensures c.in_ok-inst.ensures in
    inst-taken c.args.self.now c.in-Some.unit c.instruction.new.self.module c.add_inst.new.self _ _ a c.in_ok-add_inst.ensures.0 c.in_ok-add_inst.ensures.1
    ∙ ap (λ q. Ok (state_at c.add_inst.new.self q)) (sym c.behind_inst-self.ensures)

pub returns-clause-order : goal.returns-clause-order
returns-clause-order c =
    let a = line-asked c.args.self.now c.in-Some.unit c.result_id.new.self.module c.instruction.new.self.module c.in-Ok.value c.in_ok-inst.inst c.args.name.now (inst_of c.args.inst) c.requires
    (sym c.block_unit.ensures ∙ c.in-Some.is) c.in-Ok.ensures c.in_ok-inst.ensures in
    record {
      place = subst (InPlace c.add_inst.new.self) (sym c.behind_inst-self.ensures)
          (inst-placed c.args.self.now c.in-Some.unit c.instruction.new.self.module c.add_inst.new.self _ _ a c.in_ok-add_inst.ensures.1);
      named = inst-named c.args.self.now c.in-Some.unit c.instruction.new.self.module c.add_inst.new.self _ _ c.requires a c.in_ok-add_inst.ensures.1;
    }
