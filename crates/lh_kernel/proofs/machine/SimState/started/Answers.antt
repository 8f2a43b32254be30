use Rattle.std.proofs.Common.{List, None, length, refl, ap, sym, subst, ◌∙◌}
use Rattle.lh_unit.specs.Within.{Each}
use Rattle.lh_queue.specs.Queued.{QueuedWish, EachWithin, EachNames}
use Rattle.lh_kernel.specs.Kept.{IsWaiting}
use Rattle.lh_kernel.proofs.machine.SimState.started.Goals as goal

pub returns-clause-kept : goal.returns-clause-kept
returns-clause-kept c =
    let e = c.in_ok-bits.ensures in
    let x = c.in_ok-probes.ensures in
    let P : List QueuedWish → Type 0 = λ ws. EachWithin (length c.args.d.init) ws × EachNames ws × Each (IsWaiting None) ws in
    let w : P c.new.result.held = subst P (sym c.new.ensures.held) (tt, tt, tt) in
    record {
      design = c.requires;
      width = ap length e.0;
      same = e.1 ∙ sym e.0;
      probes = x.probes;
      probes_within = x.within;
      fit = x.fit;
      noted = x.noted;
      within = w.0;
      names = w.1;
      waiting = w.2;
      wakes = x.wakes;
    }

pub returns-clause-stands : goal.returns-clause-stands
returns-clause-stands c = record {
  goes_on = refl;
  init = refl;
  last = refl;
  bits = sym c.in_ok-bits.ensures.0;
  wishes = c.new.ensures.holds;
  states = c.in_ok-probes.ensures.stand;
}
