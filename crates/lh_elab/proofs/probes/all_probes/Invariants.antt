use Rattle.std.proofs.Common.{◌≡◌, ℕ, ◌<◌, [], length, get_or}
use Rattle.lh_elab.specs.Probed.{ProbesOf}
use Rattle.lh_elab.proofs.probes.all_probes.Given as goal

abbrev pub invariant-loop-unit : goal.invariant-loop-unit
invariant-loop-unit l = record {
  long : length l.all.items ≡ l.unit;
  probes : (u : ℕ) → u < l.unit → ProbesOf l.m u (get_or l.all.items u []);
}
