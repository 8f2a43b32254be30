use Rattle.std.proofs.Common.{Some, ap, sym, ◌∙◌}
use Rattle.std.specs.Rc.{rc_value}
use Rattle.lh_react.specs.State.{values_of}
use Rattle.lh_react.specs.declared.state.Known.{Known}
use Rattle.lh_react.proofs.TriggerLists.{quiet-known}
use Rattle.lh_react.proofs.quiet.quiet.Goals as goal

pub returns-then-all_rest : goal.returns-then-all_rest
returns-then-all_rest c =
    let s = c.in-Some.second in
    let is = ap (λ (k : Known). k.triggers) (sym c.deref.ensures) ∙ c.in-Some-triggers.is ∙ ap Some (sym (c.as_slice-triggers.ensures ∙ c.list.ensures)) in
    let last = c.as_slice-last.ensures ∙ c.values.ensures ∙ ap (λ (k : Known). values_of k s) c.deref-2.ensures in
    let tried = c.likely-tried.result in
    quiet-known c.args.now.now c.args.state.now c.in_ok-ended.field-0
    (rc_value c.in-Some.known.now) s tried c.as_slice-triggers.result.now c.as_slice-last.result.now c.as_slice.result.now c.in-Some.ensures.some
    c.in_ok-ended.ensures is last (c.as_slice.ensures ∙ c.values-2.ensures ∙ ap (λ (k : Known). values_of k tried) c.deref-3.ensures)
    (c.all_rest.ensures c.if-all_rest.true)
