use Rattle.std.proofs.Common.{◌<◌, Some, sym, ◌∙◌, ap, subst, arith}
use Rattle.lh_unit.specs.Within.{MaybeWithin}
use Rattle.lh_unit.specs.Table.{line_at}
use Rattle.lh_unit.specs.Arena.{sizes, table_at, value_count}
use Rattle.lh_verify_labels.specs.Marking.{comes_from}
use Rattle.lh_verify_labels.proofs.MarkingSteps.{advance-more}
use Rattle.lh_unit.proofs.PlacedIds.{result-placed}
use Rattle.lh_verify_labels.proofs.probes.mark_inst.Goals as goal

pub bounds-next-place : goal.bounds-next-place
bounds-next-place c =
    let w : MaybeWithin (sizes c.args.m.now c.args.unit.0) (Some c.in-Some.value) = subst (MaybeWithin (sizes c.args.m.now c.args.unit.0)) (sym (sym c.in-Some.is ∙ c.result_of.ensures.value))
    (result-placed c.args.m.now c.args.unit.0 c.args.inst.0 c.result_of.ensures.sound c.requires.unit) in
    let h : c.in-Some.value.0 < value_count c.args.m.now c.args.unit.0 = w in
    omega (arith, h, c.requires.next)

pub returns-in_ok-next-in-Some : goal.returns-in_ok-next-in-Some
returns-in_ok-next-in-Some c = λ ls m.
    let w : MaybeWithin (sizes c.args.m.now c.args.unit.0) (Some c.in-Some.value) = subst (MaybeWithin (sizes c.args.m.now c.args.unit.0)) (sym (sym c.in-Some.is ∙ c.result_of.ensures.value))
    (result-placed c.args.m.now c.args.unit.0 c.args.inst.0 c.result_of.ensures.sound c.requires.unit) in
    let h : c.in-Some.value.0 < value_count c.args.m.now c.args.unit.0 = w in
    advance-more ls (line_at (table_at c.args.m.now c.args.unit.0) c.args.inst.0) c.in-Some.value c.args.marks.now c.args.next.now (value_count c.args.m.now c.args.unit.0) c.in_ok-next-in-Some.field-0
    (sym c.result_of.ensures.value ∙ c.in-Some.is) h
    (c.in_ok-next-in-Some.ensures ∙ ap (comes_from c.args.marks.now) c.inst.ensures.inst) m
