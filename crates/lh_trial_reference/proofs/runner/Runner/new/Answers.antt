use Rattle.std.proofs.Common.{◌≡◌, ℕ, List, length, get_or, refl, ap, sym, ◌∙◌, subst}
use Rattle.lh_unit.proofs.Lists.{Each-item}
use Rattle.lh_eval.specs.declared.instance.Instance.{Instance}
use Rattle.lh_elab.specs.Answer.{InstanceIs}
use Rattle.lh_trial_reference.proofs.runner.Runner.new.Goals as goal

pub invariant_of-result : goal.invariant_of-result
invariant_of-result c =
    let is = c.args.d.now.instances.items in
    let i = c.index-instances-k.result in
    let width : c.len.result ≡ length c.args.d.now.init = c.len.ensures ∙ ap length c.init.ensures in
    let there : i ≡ get_or is c.args.k i = c.index-instances-k.is ∙ ap (λ (ys : List Instance). get_or ys c.args.k i) c.instances.ensures in
    let placed : InstanceIs c.args.m.now (length c.args.d.now.init) i = Each-item (InstanceIs c.args.m.now (length c.args.d.now.init)) is c.args.k i c.requires.design.fits c.requires.known there in
    record {
      formed = c.requires.design.formed;
      placed = subst (λ (n : ℕ). InstanceIs c.args.m.now n i) (sym width) placed;
      fits = c.in_ok-start.ensures.fits i c.len.result refl;
    }
