use Rattle.std.proofs.Common.{ℕ, ◌<◌, length, map, sym, subst, arith}
use Rattle.std.specs.Prelude.{All}
use Rattle.lh_types.specs.ValueOf.{datum_of}
use Rattle.lh_wave.specs.Changed.{present_values}
use Rattle.lh_wave.proofs.ValueLines.{IsSameAt}
use Rattle.lh_wave.proofs.ChangedLemmas.{DoneBut, DoneBut-next, unchanged_but, same_here, differs_here, none_differs}
use Rattle.lh_wave.proofs.changed.Changed.differs.Goals as goal

pub loop-k-init : goal.loop-k-init
loop-k-init c = record {
  within = subst (All (λ (k : ℕ). k < length c.args.written.now)) (sym c.deref-k-items.ensures.value) c.requires.within;
  done = subst (λ ks. DoneBut ks 0 0 (IsSameAt (map datum_of c.args.written.now) (present_values c.args.self.now.values.items c.args.written.now))) (sym c.deref-k-items.ensures.value)
      (unchanged_but c.args.self.now.numbers.items c.args.self.now.values.items c.args.written.now c.requires.listed c.requires.level);
}

pub returns-then-is_other : goal.returns-then-is_other
returns-then-is_other c =
    let inside = c.loop-k.invariant.within c.loop-k.k-index 0 c.loop-k-test.true in
    differs_here _ _ _ _ _ c.requires.level inside c.index.ensures c.index-written-k.is c.if-is_other.ensures

pub loop-k-preserved : goal.loop-k-preserved
loop-k-preserved c =
    let inside = c.loop-k.invariant.within c.loop-k.k-index 0 c.loop-k-test.true in
    record {
      within = c.loop-k.invariant.within;
      done = DoneBut-next _ _ 0 0 _ c.loop-k.invariant.done (omega arith) (λ low. same_here _ _ _ _ _ c.requires.level inside c.index.ensures c.index-written-k.is c.if-is_other.ensures);
    }

pub returns : goal.returns
returns c = none_differs c.deref-k-items.result.now _ _ _ c.loop-k.invariant.done c.requires.level c.loop-k-test.false
