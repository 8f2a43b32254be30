use Rattle.std.proofs.Common.{◌≡◌, true, false, List, map, ap, ◌∙◌, subst, arith}
use Rattle.lh_types.specs.ValueOf.{datum_of}
use Rattle.lh_text_buffer.specs.Writing.{Writes}
use Rattle.lh_types.specs.Values.{Datum}
use Rattle.lh_wave.specs.WaveText.{any_differs, dump_at}
use Rattle.lh_wave.specs.Changed.{present_values}
use Rattle.lh_wave.specs.Recorded.{moment_now}
use Rattle.lh_wave.proofs.ValueLines.{left_first, left_changed}
use Rattle.lh_wave.proofs.PendingValues.{same_moment, same_moment_on}
use Rattle.lh_wave.proofs.waveform.Waveform.write.Goals as goal

pub returns-then-not-self-clause-same : goal.returns-then-not-self-clause-same
returns-then-not-self-clause-same c = same_moment _ _ _ _ c.move_over.ensures.noted c.move_over.ensures.none c.move_over.ensures.written

pub returns-then-not-self-clause-text : goal.returns-then-not-self-clause-text
returns-then-not-self-clause-text c =
    let first : c.args.self.now.dumped ≡ false = grind (arith, c.if-not-self.true) in
    left_first c.args.self.now.dumped (map datum_of c.args.self.now.written.items) (moment_now c.args.self.now) _ _ first
    (subst (λ (vs : List Datum). Writes c.args.to.now c.put_dump.new.to (dump_at (record { fs = c.args.self.now.fs; values = vs }))) (ap (map datum_of) c.deref.ensures.value ∙ c.move_over.ensures.written) c.put_dump.ensures)

pub returns-clause-text : goal.returns-clause-text
returns-clause-text c =
    let later : c.args.self.now.dumped ≡ true = grind (arith, c.if-not-self.false) in
    left_changed c.put_over.result _ _ (map datum_of c.args.self.now.written.items) (moment_now c.args.self.now) _ _ _ later
    (c.differs.ensures ∙ ap (λ ws. any_differs (map datum_of ws) (present_values c.args.self.now.changed.values.items ws)) c.deref-2.ensures.value) c.put_time_if.ensures c.put_over.ensures.text

pub returns-clause-same : goal.returns-clause-same
returns-clause-same c = same_moment_on c.put_over.result _ _ _ _ c.put_over.ensures.noted c.put_over.ensures.none c.put_over.ensures.written
