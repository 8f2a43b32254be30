use Rattle.std.proofs.Common.{◌≡◌, ℕ, [], ◌∷◌, length, replicate, false, ap, ◌∙◌, subst, arith}
use Rattle.std.specs.Prelude.{OnOk}
use Rattle.std.proofs.lemmas.List.{length-replicate}
use Rattle.lh_types.specs.Types.{bit_count}
use Rattle.lh_unit.specs.Hierarchy.{SignalText}
use Rattle.lh_elab.specs.Builds.{AddsSignals}
use Rattle.lh_elab.proofs.build.Building.put_arg.Goals as goal

pub put_signal-requires-clause-fits : goal.put_signal-requires-clause-fits
put_signal-requires-clause-fits c = ap length c.in_ok-initial.ensures ∙ length-replicate c.width_of.result false ∙ c.width_of.ensures

pub put_signal-requires-clause-room : goal.put_signal-requires-clause-room
put_signal-requires-clause-room c =
    let n : length c.in_ok-initial.initial ≡ bit_count c.args.ty.now = ap length c.in_ok-initial.ensures ∙ length-replicate c.width_of.result false ∙ c.width_of.ensures in
    omega (arith, n, c.requires.room)

pub returns-clause-signals : goal.returns-clause-signals
returns-clause-signals c =
    let bits : c.in_ok-initial.initial ≡ replicate (bit_count c.args.ty.now) false = c.in_ok-initial.ensures ∙ ap (λ (n : ℕ). replicate n false) c.width_of.ensures in
    subst (λ (s : SignalText). OnOk c.put_signal.result (AddsSignals c.args.self.now c.put_signal.new.self 0 (s ∷ [])))
    (λ j. record { name = c.args.name.now; ty = c.args.ty.now; initial = bits j }) c.put_signal.ensures.signals
