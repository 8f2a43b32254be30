use Rattle.std.proofs.Common.{◌≡◌, ℕ, ◌<◌, [], ◌∷◌, ◌++◌, length, Some, None, ap, sym, ◌∙◌, subst, arith}
use Rattle.std.proofs.lemmas.Result.{IfOk-weaker}
use Rattle.lh_unit.specs.Within.{Each}
use Rattle.lh_unit.proofs.Lists.{Each-append}
use Rattle.lh_unit.specs.Paths.{path_at}
use Rattle.lh_elab.specs.Climbing.{parent_at, dotted}
use Rattle.lh_elab.proofs.Labels.{shown, parent-below, path-up, path-top}
use Rattle.lh_elab.proofs.paths.climb.Goals as goal

pub loop-parent-smaller : goal.loop-parent-smaller
loop-parent-smaller c = parent-below c.args.m.now c.args.d.now c.requires.design.parents c.loop-parent.at c.in-Some.parent c.loop-parent.invariant.here (sym c.parent_of.ensures ∙ c.in-Some.is)

pub loop-parent-preserved : goal.loop-parent-preserved
loop-parent-preserved c =
    let a = c.args.m.now in
    let d = c.args.d.now in
    let at = c.loop-parent.at in
    let p = c.in-Some.parent in
    let e : parent_at d.instances.items at ≡ Some p = sym c.parent_of.ensures ∙ c.in-Some.is in
    let here = c.loop-parent.invariant.here in
    let less = parent-below a d c.requires.design.parents at p here e in
    record {
      here = omega (arith, less, here);
      path = path-up a d c.requires.design.parents (path_at (shown a d) c.args.instance) c.loop-parent.below.items c.push_number.new.numbers.items at p here e c.in_ok-push_number.ensures
          c.loop-parent.invariant.path;
      known = subst (Each (λ (k : ℕ). k < length d.instances.items)) (sym c.in_ok-push_number.ensures)
          (Each-append (λ (k : ℕ). k < length d.instances.items) c.loop-parent.below.items (at ∷ []) c.loop-parent.invariant.known (here, tt));
    }

pub returns-clause-path : goal.returns-clause-path
returns-clause-path c =
    let a = c.args.m.now in
    let d = c.args.d.now in
    let at = c.loop-parent.at in
    let none : parent_at d.instances.items at ≡ None = sym c.parent_of.ensures ∙ c.in_default.is in
    let top = path-top a d c.requires.design.parents at c.loop-parent.invariant.here none in
    let rest = dotted (shown a d) c.loop-parent.below.items in
    IfOk-weaker c.label_of.result _ _ (λ t q. c.loop-parent.invariant.path ∙ ap (λ l. l ++ rest) (top ∙ sym q)) c.label_of.ensures
