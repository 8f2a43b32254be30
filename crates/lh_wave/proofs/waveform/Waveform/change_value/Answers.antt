use Rattle.std.proofs.Common.{◌≤◌, length, arith}
use Rattle.lh_wave.proofs.PendingValues.{set_none, set_on}
use Rattle.lh_wave.proofs.waveform.Waveform.change_value.Goals as goal

pub returns-then-k-count-clause-values : goal.returns-then-k-count-clause-values
returns-then-k-count-clause-values c =
    let past : length c.args.self.now.changed.values.items ≤ c.args.c.now.signal = omega (arith, c.if-k-count.true, c.count.ensures) in
    set_none _ _ _ _ c.requires.level past

pub returns-clause-values : goal.returns-clause-values
returns-clause-values c = set_on c.set.result _ _ _ _ _ _ c.requires.level c.in_ok-copy.ensures c.set.ensures.values
