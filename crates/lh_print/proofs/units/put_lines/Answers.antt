use Rattle.std.proofs.Common.{[], ◌∷◌, map, ap, get_or}
use Rattle.std.proofs.lemmas.List.{drop_more, at_drop_all}
use Rattle.lh_unit.specs.Arena.{naming, table_at}
use Rattle.lh_unit.specs.Table.{line_at}
use Rattle.lh_unit.specs.Naming.{line_text}
use Rattle.lh_unit.specs.Canon.{canon_inst_line, text_of}
use Rattle.lh_unit.specs.Placed.{IsInstOf}
use Rattle.lh_unit.specs.declared.inst.InstId.{InstId}
use Rattle.lh_unit.proofs.Lists.{Each-at}
use Rattle.lh_text_buffer.proofs.Parts.{none-left}
use Rattle.lh_print.proofs.Joined.{line_step}
use Rattle.lh_print.proofs.units.put_lines.Goals as goal

pub put_line-requires : goal.put_line-requires
put_line-requires c = record { inst = Each-at (IsInstOf c.args.view.module.now c.args.view.unit.0) c.args.insts.now c.loop-inst.inst-index (record { 0 = 0 }) c.requires.insts c.loop-inst-test.true }

pub loop-inst-preserved : goal.loop-inst-preserved
loop-inst-preserved c = line_step _ _ _ _
    (canon_inst_line (line_text (naming c.args.view.module.now c.args.view.unit.0) (line_at (table_at c.args.view.module.now c.args.view.unit.0)
    (get_or c.args.insts.now c.loop-inst.inst-index (record { 0 = 0 })).0)) ∷ []) _ _
    (ap (λ l. map canon_inst_line (map (λ (i : InstId). line_text (naming c.args.view.module.now c.args.view.unit.0) (line_at (table_at c.args.view.module.now c.args.view.unit.0) i.0)) l))
    (drop_more c.args.insts.now c.loop-inst.inst-index (record { 0 = 0 }) c.loop-inst-test.true))
    c.put_line.ensures c.loop-inst.invariant

pub returns : goal.returns
returns c = none-left _ _ _ _ (at_drop_all (λ l. text_of (map canon_inst_line (map (λ (i : InstId). line_text (naming c.args.view.module.now c.args.view.unit.0) (line_at (table_at c.args.view.module.now c.args.view.unit.0) i.0)) l))) c.args.insts.now c.loop-inst.inst-index c.loop-inst-test.false) c.loop-inst.invariant
