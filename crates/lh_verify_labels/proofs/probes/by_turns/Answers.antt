use Rattle.std.proofs.Common.{◌≡◌, ℕ, ◌+◌, Bool, true, List, ap, subst, sym, ◌∙◌}
use Rattle.lh_unit.specs.Arena.{table_at, value_count, inst_count}
use Rattle.lh_verify_labels.specs.Marking.{Reaches, Advances}
use Rattle.lh_verify_labels.specs.Turns.{all_led, with_turns}
use Rattle.lh_verify_labels.proofs.ProbeTurns.{turns-reach}
use Rattle.lh_verify_labels.proofs.probes.by_turns.Goals as goal

pub returns-then-are_same : goal.returns-then-are_same
returns-then-are_same c =
    let a = c.args.m.now in
    let u = c.args.unit.0 in
    let ts : List ℕ = c.args.turns.now in
    let m : c.in_ok-marks.marks.items ≡ with_turns ts = c.in_ok-marks.ensures in
    let f : c.in_ok-are_led.field-0 ≡ true = c.if-not-branch.false in
    let led : all_led (inst_count a u) ts (table_at a u).lines ≡ true = ap (λ (n : ℕ). all_led n ts (table_at a u).lines) (sym c.requires.insts) ∙ sym c.in_ok-are_led.ensures ∙ f in
    let e : c.in_ok-marks.marks.items ≡ c.in_ok-next.next.items = sym c.deref-2.ensures.value ∙ c.are_same.ensures c.if-are_same.true ∙ c.deref-3.ensures.value in
    let n : Advances (table_at a u).lines c.in_ok-marks.marks.items (value_count a u) c.in_ok-next.next.items = subst
    (λ (x : List Bool). Advances (table_at a u).lines x (value_count a u) c.in_ok-next.next.items) c.deref.ensures.value c.in_ok-next.ensures in
    let s : Advances (table_at a u).lines c.in_ok-marks.marks.items (value_count a u) c.in_ok-marks.marks.items = subst
    (λ (x : List Bool). Advances (table_at a u).lines c.in_ok-marks.marks.items (value_count a u) x) (sym e) n in
    subst (Reaches a u (inst_count a u + 1)) (sym m)
    (turns-reach a u c.values.ensures.sound c.requires.unit ts led (subst (λ (x : List Bool). Advances (table_at a u).lines x (value_count a u) x) m s))
