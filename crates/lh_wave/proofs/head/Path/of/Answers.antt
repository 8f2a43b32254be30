use Rattle.std.proofs.Common.{◌≤◌, length, ap, sym, ◌∙◌, arith}
use Rattle.lh_wave.proofs.OwnedLemmas.{no_path}
use Rattle.lh_wave.proofs.head.Path.of.Goals as goal

pub returns-then-instance-instances-clause-text : goal.returns-then-instance-instances-clause-text
returns-then-instance-instances-clause-text c =
    let past : length c.args.d.now.instances.items ≤ c.args.instance = omega (arith, ap length c.instances.ensures) in
    c.new.ensures.items ∙ sym (no_path c.args.m.now c.args.d.now c.args.instance past)
