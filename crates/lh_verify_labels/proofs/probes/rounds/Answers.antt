use Rattle.std.proofs.Common.{◌≡◌, ℕ, ◌+◌, ◌-◌, suc, Bool, false, List, replicate, ap, subst, sym, ◌∙◌, arith}
use Rattle.lh_unit.specs.Arena.{table_at, value_count, inst_count}
use Rattle.lh_verify_labels.specs.Marking.{Reaches, Advances}
use Rattle.lh_verify_labels.proofs.MarkingSteps.{reach-none, reach-more, reach-stays}
use Rattle.lh_verify_labels.proofs.probes.rounds.Goals as goal

pub loop-init : goal.loop-init
loop-init c = reach-none c.args.m.now c.args.unit.0 c.in_ok-marks.marks.items (c.in_ok-marks.ensures ∙ ap (λ n. replicate n false) c.values.ensures.count)

pub loop-preserved : goal.loop-preserved
loop-preserved c =
    let a = c.args.m.now in
    let u = c.args.unit.0 in
    let e : suc c.loop.counter ≡ c.loop.counter + 1 = omega arith in
    let n : Advances (table_at a u).lines c.loop.marks.items (value_count a u) c.in_ok-next.next.items = subst
    (λ (m : List Bool). Advances (table_at a u).lines m (value_count a u) c.in_ok-next.next.items) c.deref.ensures.value c.in_ok-next.ensures in
    subst (λ (j : ℕ). Reaches a u j c.in_ok-next.next.items) e (reach-more a u c.values.ensures.sound c.requires.unit c.loop.counter c.loop.marks.items c.in_ok-next.next.items c.loop.invariant n)

pub returns-then-are_same : goal.returns-then-are_same
returns-then-are_same c =
    let a = c.args.m.now in
    let u = c.args.unit.0 in
    let n : Advances (table_at a u).lines c.loop.marks.items (value_count a u) c.in_ok-next.next.items = subst
    (λ (m : List Bool). Advances (table_at a u).lines m (value_count a u) c.in_ok-next.next.items) c.deref.ensures.value c.in_ok-next.ensures in
    let e : c.loop.marks.items ≡ c.in_ok-next.next.items = sym c.deref-in-loop.ensures.value ∙ c.are_same.ensures c.if-are_same.true ∙ c.deref-in-loop-2.ensures.value in
    let k : ((inst_count a u + 1) - c.loop.counter) + c.loop.counter ≡ inst_count a u + 1 = omega (arith, c.loop-test.true, c.requires.insts) in
    subst (λ (j : ℕ). Reaches a u j c.in_ok-next.next.items) k
    (subst (λ (m : List Bool). Reaches a u (((inst_count a u + 1) - c.loop.counter) + c.loop.counter) m) e
    (reach-stays a u c.values.ensures.sound c.requires.unit ((inst_count a u + 1) - c.loop.counter) c.loop.counter c.loop.marks.items
    (subst (λ (m : List Bool). Advances (table_at a u).lines c.loop.marks.items (value_count a u) m) (sym e) n) c.loop.invariant))

pub returns : goal.returns
returns c =
    let k : c.loop.counter ≡ inst_count c.args.m.now c.args.unit.0 + 1 = omega (arith, c.loop-test.false, c.loop.auto.counter-end, c.requires.insts) in
    subst (λ (j : ℕ). Reaches c.args.m.now c.args.unit.0 j c.loop.marks.items) k c.loop.invariant
