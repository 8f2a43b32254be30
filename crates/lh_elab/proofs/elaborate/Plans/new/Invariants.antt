use Rattle.std.proofs.Common.{◌≡◌, ℕ, length, get_or, None}
use Rattle.lh_elab.proofs.elaborate.Plans.new.Given as goal

abbrev pub invariant-loop-unit : goal.invariant-loop-unit
invariant-loop-unit l = record {
  long : length l.plans.items ≡ l._unit;
  none : (u : ℕ) → get_or l.plans.items u None ≡ None;
}
