use Rattle.std.proofs.Common.{◌≡◌, length, ap, sym, ◌∙◌, subst}
use Rattle.lh_exec.specs.declared.state.Stand.{Stand}
use Rattle.lh_exec.specs.declared.state.Stand.TheVariants as stand
use Rattle.lh_exec.specs.States.{StandsBy, FitsBy}
use Rattle.lh_exec.proofs.begin.begin.Goals as goal

pub begin_from-requires-clause-fits : goal.begin_from-requires-clause-fits
begin_from-requires-clause-fits c =
    let e : c.args.stand.now ≡ stand.Waits c.pause.result.now = c.in-Waits.is ∙ ap stand.Waits (sym c.pause.ensures) in
    subst (λ (s : Stand). FitsBy c.args.m.now c.args.unit.0 (length c.args.now.now) s) e c.requires.fits

pub returns-in-Waits : goal.returns-in-Waits
returns-in-Waits c = λ p k.
    let e : c.args.stand.now ≡ stand.Waits c.pause.result.now = c.in-Waits.is ∙ ap stand.Waits (sym c.pause.ensures) in
    c.begin_from.ensures p (subst (λ (s : Stand). StandsBy c.args.m.now c.args.unit.0 c.args.args.now s p) e k)
