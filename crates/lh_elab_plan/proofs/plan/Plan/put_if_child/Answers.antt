use Rattle.std.proofs.Common.{◌≡◌, [], ◌∷◌, ◌++◌, map, ap, sym, ◌∙◌, subst}
use Rattle.std.proofs.lemmas.List.{map-append}
use Rattle.std.proofs.lemmas.Result.{on_ok_weaker}
use Rattle.lh_unit.specs.Within.{Each}
use Rattle.lh_unit.proofs.Lists.{Each-append}
use Rattle.lh_elab_plan.specs.Plans.{child_of, ChildSmall}
use Rattle.lh_elab_plan.proofs.ChildSteps.{child-read, child-small}
use Rattle.lh_elab_plan.proofs.plan.Plan.put_if_child.Goals as goal

pub returns-in_ok-child-in-Child-clause-children : goal.returns-in_ok-child-in-Child-clause-children
returns-in_ok-child-in-Child-clause-children c = λ a u args sigs e f.
    let old = c.args.self.now.children.items in
    let child = c.in_ok-child-in-Child.child in
    on_ok_weaker c.push_child.result
    (λ (y : c.push_child.new.self.children.items ≡ old ++ child ∷ []).
    ap (map (child_of a args sigs)) y ∙ map-append (child_of a args sigs) old (child ∷ [])
    ∙ ap (λ l. map (child_of a args sigs) old ++ l)
    (child-read args sigs a u c.args.statics.now e f child c.args.inst.now c.in-Child.unit c.in-Child.inputs c.in-Child.outputs c.as_slice.result.now c.as_slice-in-Child.result.now c.in-Child.is
    c.as_slice.ensures c.as_slice-in-Child.ensures c.requires.operands c.in_ok-child-in-Child.ensures.unit c.in_ok-child-in-Child.ensures.lows))
    c.push_child.ensures.children

pub returns-in_ok-child-in-Child-clause-small : goal.returns-in_ok-child-in-Child-clause-small
returns-in_ok-child-in-Child-clause-small c = λ k s.
    let old = c.args.self.now.children.items in
    let child = c.in_ok-child-in-Child.child in
    on_ok_weaker c.push_child.result
    (λ (y : c.push_child.new.self.children.items ≡ old ++ child ∷ []).
    subst (Each ChildSmall) (sym y) (Each-append ChildSmall old (child ∷ []) k (
      child-small c.args.statics.now s child c.args.inst.now c.in-Child.unit c.in-Child.inputs c.in-Child.outputs c.as_slice.result.now c.as_slice-in-Child.result.now c.in-Child.is
          c.as_slice.ensures c.as_slice-in-Child.ensures c.requires.operands c.in_ok-child-in-Child.ensures.lows,
      tt,
    )))
    c.push_child.ensures.children
