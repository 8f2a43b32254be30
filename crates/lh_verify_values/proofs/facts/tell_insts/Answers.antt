use Rattle.std.proofs.Common.{[], take, List, subst, arith}
use Rattle.lh_unit.specs.Table.{no_line}
use Rattle.lh_unit.specs.Arena.{naming, table_at, value_count}
use Rattle.lh_unit.specs.declared.table.TableLine.{TableLine}
use Rattle.lh_verify_values.specs.FactsOfUnit.{FactsAfter}
use Rattle.lh_verify_values.proofs.KnowingSteps.{take-line}
use Rattle.lh_verify_values.proofs.facts.tell_insts.Goals as goal

pub loop-i-preserved : goal.loop-i-preserved
loop-i-preserved c =
    let ls = (table_at c.args.m.now c.args.unit.0).lines in
    record {
      knows = subst (λ (l : List TableLine). FactsAfter c.tell_inst.new.types (value_count c.args.m.now c.args.unit.0) (naming c.args.m.now c.args.unit.0) [] l c.tell_inst.new.facts)
          (take-line ls c.loop-i.i no_line (omega (arith, c.loop-i-test.true, c.requires.insts))) (c.in_ok-tell_inst.ensures.facts (take c.loop-i.i ls) c.loop-i.invariant.knows);
      grows = λ n t g. c.in_ok-tell_inst.ensures.grows n t (c.loop-i.invariant.grows n t g);
    }
