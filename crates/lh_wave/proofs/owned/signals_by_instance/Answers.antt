use Rattle.std.proofs.Common.{◌≤◌, length, ap, Some, arith}
use Rattle.std.proofs.lemmas.List.{length-map}
use Rattle.lh_wave.specs.Owned.{owners}
use Rattle.lh_wave.proofs.OwnedLemmas.{owner_next, owned_end}
use Rattle.lh_wave.proofs.owned.signals_by_instance.Goals as goal

pub loop-number-preserved : goal.loop-number-preserved
loop-number-preserved c = record {
  whole = c.loop-number.invariant.whole;
  owned = owner_next (λ s. Some s.instance) _ _ _ _ _ _ _ c.loop-number.invariant.whole c.loop-number-test.true c.signal-item.is c.in_ok-add_number.ensures.level c.in_ok-add_number.ensures.added
      c.loop-number.invariant.owned;
}

pub returns : goal.returns
returns c =
    let past : length (owners c.args.d.now) ≤ c.loop-number.number = omega (arith, length-map c.args.d.now.signals.items (λ s. Some s.instance), ap length c.loop-number.invariant.whole, c.loop-number-test.false) in
    owned_end _ _ _ (owners c.args.d.now) past c.loop-number.invariant.owned
