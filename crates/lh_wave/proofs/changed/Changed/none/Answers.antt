use Rattle.std.proofs.Common.{◌≡◌, ℕ, ◌<◌, inr, [], ◌∷◌, ◌++◌, length, get_or, None, ap, sym, subst, arith}
use Rattle.std.specs.Prelude.{All}
use Rattle.std.proofs.lemmas.List.{length-append}
use Rattle.lh_wave.specs.Changed.{HasNone}
use Rattle.lh_wave.proofs.ChangedLemmas.{none_more}
use Rattle.lh_wave.proofs.changed.Changed.none.Goals as goal

pub loop-signal-init : goal.loop-signal-init
loop-signal-init c = record { many = ap length c.in_ok-values.ensures.items; none = λ k. ap (λ l. get_or l k None) c.in_ok-values.ensures.items }

pub loop-signal-preserved : goal.loop-signal-preserved
loop-signal-preserved c =
    let long : length c.push.new.self.items ≡ length (c.loop-signal.values.items ++ None ∷ []) = ap length c.in_ok-push.ensures.items in
    record {
      many = omega (arith, long, length-append c.loop-signal.values.items (None ∷ []), c.loop-signal.invariant.many);
      none = λ k. subst (λ l. HasNone l k) (sym c.in_ok-push.ensures.items) (none_more c.loop-signal.values.items c.loop-signal.invariant.none k);
    }

pub returns-clause-noted : goal.returns-clause-noted
returns-clause-noted c = record {
  level = omega (arith, c.loop-signal.invariant.many, c.loop-signal-test.false, c.loop-signal.auto._signal-end);
  within = subst (All (λ (k : ℕ). k < c.args.count)) (sym c.new.ensures.items) (λ i d h. absurd (omega arith));
  listed = λ k. inr (c.loop-signal.invariant.none k);
}

pub returns-clause-none : goal.returns-clause-none
returns-clause-none c = c.loop-signal.invariant.none
