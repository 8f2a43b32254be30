use Rattle.std.proofs.Common.{drop, map}
use Rattle.lh_text_buffer.specs.Writing.{Leaves}
use Rattle.lh_unit.specs.Arena.{naming, table_at}
use Rattle.lh_unit.specs.Table.{line_at}
use Rattle.lh_unit.specs.Naming.{line_text}
use Rattle.lh_unit.specs.Canon.{canon_inst_line, text_of}
use Rattle.lh_print.proofs.units.put_lines.Given as goal

abbrev pub invariant-loop-inst : goal.invariant-loop-inst
invariant-loop-inst l = Leaves l.initial.out l.out (text_of (map canon_inst_line (map (λ i. line_text (naming l.view.module.now l.view.unit.0) (line_at (table_at l.view.module.now l.view.unit.0) i.0)) (drop l.inst-index l.insts)))) (text_of (map canon_inst_line (map (λ i. line_text (naming l.view.module.now l.view.unit.0) (line_at (table_at l.view.module.now l.view.unit.0) i.0)) l.insts)))
