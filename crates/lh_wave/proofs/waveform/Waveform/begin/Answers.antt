use Rattle.std.proofs.Common.{◌≡◌, length, map, ap, ◌∙◌, arith}
use Rattle.lh_types.specs.ValueOf.{datum_of}
use Rattle.lh_wave.specs.WaveText.{dump_text, lasts_from}
use Rattle.lh_wave.proofs.ChangedLemmas.{none_present}
use Rattle.lh_wave.proofs.ValueLines.{shown_values}
use Rattle.lh_wave.proofs.waveform.Waveform.begin.Goals as goal

pub returns-clause-values : goal.returns-clause-values
returns-clause-values c =
    let level : length c.in_ok-changed.changed.values.items ≡ length c.in_ok-written.written.items = omega (arith, c.in_ok-changed.ensures.noted.level) in
    none_present _ _ level c.in_ok-changed.ensures.none ∙ c.in_ok-written.ensures ∙ ap (λ cs. map (λ x. datum_of x.value) cs) c.as_slice.ensures ∙ shown_values c.args.first.now.changes

pub returns-clause-left : goal.returns-clause-left
returns-clause-left c = λ ms.
    let level : length c.in_ok-changed.changed.values.items ≡ length c.in_ok-written.written.items = omega (arith, c.in_ok-changed.ensures.noted.level) in
    ap (λ vs. dump_text (lasts_from (record { fs = c.args.first.now.at.fs; values = vs }) ms))
    (none_present _ _ level c.in_ok-changed.ensures.none ∙ c.in_ok-written.ensures ∙ ap (λ cs. map (λ x. datum_of x.value) cs) c.as_slice.ensures ∙ shown_values c.args.first.now.changes)
