use Rattle.std.proofs.Common.{map, sym, ◌∙◌, subst}
use Rattle.std.proofs.lemmas.List.{length-map}
use Rattle.lh_unit.specs.Arena.{naming, unit_text_at}
use Rattle.lh_unit.specs.Naming.{operand_text}
use Rattle.lh_unit.specs.Within.{Each}
use Rattle.lh_unit.specs.declared.inst.Typed.{Typed}
use Rattle.lh_eval.specs.Fitting.{PartFits}
use Rattle.lh_eval.proofs.PartsRead.{not-one, one-item}
use Rattle.lh_eval.proofs.operate.signal_part.Goals as goal

pub returns-then-args-ne1 : goal.returns-then-args-ne1
returns-then-args-ne1 c = λ e h. not-one (unit_text_at c.args.m.now c.args.unit.0) e c.args.op.now (map (operand_text (naming c.args.m.now c.args.unit.0)) c.args.args.now)
    (λ q. c.if-args-ne1.true (sym (length-map c.args.args.now (operand_text (naming c.args.m.now c.args.unit.0))) ∙ q))

pub stepped_part-requires-clause-fit : goal.stepped_part-requires-clause-fit
stepped_part-requires-clause-fit c =
    (subst (Each (λ (o : Typed). PartFits c.args.m.now c.args.unit.0 c.args.slots.now o.value)) (one-item c.args.args.now c.index-args-0.result c.if-args-ne1.false c.index-args-0.is)
    c.requires.fit.parts).0
