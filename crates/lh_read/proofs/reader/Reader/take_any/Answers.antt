use Rattle.std.proofs.Common.{◌≡◌, ◌∙◌, map, Some, Result, sym, ap, subst}
use Rattle.lh_unit.specs.Spells.{LineItem, input_of, header_item}
use Rattle.lh_unit.specs.Reads.{ReadState}
use Rattle.lh_unit.specs.declared.inst.UnitKind.TheVariants as kind
use Rattle.lh_read_pieces.specs.LexemeOf.{unit_name_of}
use Rattle.lh_read_phrases.specs.SyntaxOf.{item_of}
use Rattle.lh_read.specs.declared.faults.LineFault.{LineFault}
use Rattle.lh_read.specs.Steps.{step}
use Rattle.lh_read.specs.Building.{Steps}
use Rattle.lh_read.specs.InOrder.{state_of}
use Rattle.lh_read.proofs.StepAnswers.{empty-taken}
use Rattle.lh_read.proofs.reader.Reader.take_any.Goals as goal

-- what an arm answers
told : (o : Result (Unit {0}) LineFault) (s t : ReadState) (i j : LineItem) → i ≡ j → Steps o (step s j) t → Steps o (step s i) t
told o s t i j e h = subst (λ x. Steps o (step s x) t) (sym e) h

pub returns-in-Empty-clause-step : goal.returns-in-Empty-clause-step
returns-in-Empty-clause-step c = ap (λ l. step (state_of c.args.self.now) (item_of l)) c.in-Empty.is ∙ empty-taken (state_of c.args.self.now)

pub returns-in-Func-clause-step : goal.returns-in-Func-clause-step
returns-in-Func-clause-step c =
    told c.take_function.result (state_of c.args.self.now) (state_of c.take_function.new.self) _ _
    (ap item_of c.in-Func.is ∙ ap (λ ps. header_item kind.Func (unit_name_of c.in-Func.name) (map input_of ps) (Some c.in-Func.result)) (sym c.as_slice.ensures))
    c.take_function.ensures.step

pub returns-in-Proc-clause-step : goal.returns-in-Proc-clause-step
returns-in-Proc-clause-step c = told c.take_unit.result (state_of c.args.self.now) (state_of c.take_unit.new.self) _ _ (ap item_of c.in-Proc.is) c.take_unit.ensures.step

pub returns-in-Entity-clause-step : goal.returns-in-Entity-clause-step
returns-in-Entity-clause-step c = told c.take_unit-in-Entity.result (state_of c.args.self.now) (state_of c.take_unit-in-Entity.new.self) _ _ (ap item_of c.in-Entity.is) c.take_unit-in-Entity.ensures.step

pub returns-in-Label-clause-step : goal.returns-in-Label-clause-step
returns-in-Label-clause-step c = told c.take_label.result (state_of c.args.self.now) (state_of c.take_label.new.self) _ _ (ap item_of c.in-Label.is) c.take_label.ensures.step

pub returns-in-Inst-clause-step : goal.returns-in-Inst-clause-step
returns-in-Inst-clause-step c = told c.take_inst.result (state_of c.args.self.now) (state_of c.take_inst.new.self) _ _ (ap item_of c.in-Inst.is) c.take_inst.ensures.step

pub returns-in-Close-clause-step : goal.returns-in-Close-clause-step
returns-in-Close-clause-step c = told c.take_close.result (state_of c.args.self.now) (state_of c.take_close.new.self) _ _ (ap item_of c.in-Close.is) c.take_close.ensures.step
