use Rattle.std.proofs.Common.{◌≡◌, ℕ, List, drop, subst, sym, arith}
use Rattle.lh_unit.specs.Table.{no_line}
use Rattle.lh_unit.specs.Arena.{table_at, value_count}
use Rattle.lh_unit.specs.declared.table.TableLine.{TableLine}
use Rattle.lh_verify_labels.specs.Marking.{Advances}
use Rattle.std.proofs.lemmas.List.{drop_all}
use Rattle.lh_verify_labels.proofs.MarkingSteps.{advance-none, drop-before}
use Rattle.lh_verify_labels.proofs.probes.mark_insts.Goals as goal

pub loop-i-init : goal.loop-i-init
loop-i-init c =
    let ls = (table_at c.args.m.now c.args.unit.0).lines in
    subst (λ (l : List TableLine). Advances l c.args.marks.now (value_count c.args.m.now c.args.unit.0) c.args.next.now) (sym (drop_all c.args.insts ls (omega (arith, c.requires.insts))))
    (advance-none c.args.marks.now c.args.next.now (value_count c.args.m.now c.args.unit.0) c.requires.next)

pub loop-i-preserved : goal.loop-i-preserved
loop-i-preserved c =
    let ls = (table_at c.args.m.now c.args.unit.0).lines in
    subst (λ (l : List TableLine). Advances l c.args.marks.now (value_count c.args.m.now c.args.unit.0) c.mark_inst.new.next)
    (drop-before ls c.loop-i.i no_line c.loop-i-test.true (omega (arith, c.loop-i.auto.i, c.requires.insts))) (c.in_ok-mark_inst.ensures (drop c.loop-i.i ls) c.loop-i.invariant)

pub returns : goal.returns
returns c =
    let e : c.loop-i.i ≡ 0 = omega (arith, c.loop-i-test.false) in
    subst (λ (k : ℕ). Advances (drop k (table_at c.args.m.now c.args.unit.0).lines) c.args.marks.now (value_count c.args.m.now c.args.unit.0) c.loop-i.next) e c.loop-i.invariant
