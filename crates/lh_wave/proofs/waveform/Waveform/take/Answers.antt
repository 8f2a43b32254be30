use Rattle.std.proofs.Common.{refl, ap}
use Rattle.lh_wave.proofs.ValueLines.{values_on}
use Rattle.lh_wave.proofs.PendingValues.{same_time_left, later_time_left}
use Rattle.lh_wave.proofs.waveform.Waveform.take.Goals as goal

pub returns-then-f-self-clause-values : goal.returns-then-f-self-clause-values
returns-then-f-self-clause-values c = values_on c.change_values.result _ _ _ _ _ refl c.as_slice.ensures c.change_values.ensures.values

pub returns-then-f-self-clause-left : goal.returns-then-f-self-clause-left
returns-then-f-self-clause-left c =
    same_time_left c.change_values.result c.args.self.now c.change_values.new.self _ _ _ _ c.if-f-self.true c.as_slice.ensures c.change_values.ensures.fs c.change_values.ensures.dumped
    c.change_values.ensures.written
    c.change_values.ensures.values

pub returns-clause-values : goal.returns-clause-values
returns-clause-values c = values_on c.change_values-2.result _ _ _ _ _ (ap (λ m. m.values) c.in_ok-write.ensures.same) c.as_slice-2.ensures c.change_values-2.ensures.values

pub returns-clause-left : goal.returns-clause-left
returns-clause-left c =
    later_time_left c.change_values-2.result c.args.self.now c.write.new.self c.change_values-2.new.self _ _ _ _ _ c.if-f-self.false c.in_ok-write.ensures.dumped c.in_ok-write.ensures.written
    (ap (λ m. m.values) c.in_ok-write.ensures.same) c.in_ok-write.ensures.text c.as_slice-2.ensures c.change_values-2.ensures.fs c.change_values-2.ensures.dumped c.change_values-2.ensures.written
    c.change_values-2.ensures.values
