use Rattle.std.proofs.Common.{Option, None, length, subst}
use Rattle.lh_unit.specs.Activation.{run, activate, start_point, control_at}
use Rattle.lh_unit.specs.Arena.{unit_text_at}
use Rattle.lh_exec.specs.declared.machine.Machine.{Machine}
use Rattle.lh_exec.specs.Standing.{scene_of}
use Rattle.lh_exec.specs.States.{GivesMaybe}
use Rattle.lh_exec.specs.Sound.{BeginsAt, Finishes, EndHolds}
use Rattle.lh_exec.proofs.Begins.{process-blocks, some-state, begins-point, begins-nowhere, begin-fits, activation-is, no-activation}
use Rattle.lh_exec.proofs.BeginsHeld.{activation-holds}
use Rattle.lh_exec.proofs.process.activate_within.Goals as goal

pub run-requires-clause-fit : goal.run-requires-clause-fit
run-requires-clause-fit c =
    let m = c.args.m.now in
    let u = c.args.unit.0 in
    let w = length c.args.now.now in
    let z = some-state m u w c.args.args.now c.args.stand.now c.requires.fits in
    let b = subst (λ (x : Option Machine). BeginsAt m x (control_at (unit_text_at m u) z.0)) c.in-Some.is (c.in_ok-machine.ensures z.0 z.1) in
    let s = begins-point m c.in-Some.machine (control_at (unit_text_at m u) z.0) b in
    record {
      unit = unit_text_at m u;
      point = start_point s.0;
      is = s.2;
      fits = begin-fits m u c.in_order.ensures.arena c.requires.unit (process-blocks m u c.requires.process) c.requires.formed w c.requires.process c.args.args.now c.requires.args c.args.stand.now
          c.requires.fits z.0 z.1 s.0 s.1;
    }

pub returns-in_ok-flow-in-Some-clause-act : goal.returns-in_ok-flow-in-Some-clause-act
returns-in_ok-flow-in-Some-clause-act c = λ p k.
    let m = c.args.m.now in
    let u = c.args.unit.0 in
    let w = length c.args.now.now in
    let b = subst (λ (x : Option Machine). BeginsAt m x (control_at (unit_text_at m u) p)) c.in-Some.is (c.in_ok-machine.ensures p k) in
    let s = begins-point m c.in-Some.machine (control_at (unit_text_at m u) p) b in
    let fits = begin-fits m u c.in_order.ensures.arena c.requires.unit (process-blocks m u c.requires.process) c.requires.formed w c.requires.process c.args.args.now c.requires.args c.args.stand.now
    c.requires.fits p k s.0 s.1 in
    let done = c.in_ok-flow-in-Some.ensures u (start_point s.0) s.2 fits in
    c.finish.ensures.act m u w c.args.at c.args.args.now (activate c.args.limit (scene_of m c.args.now.now c.args.at) (unit_text_at m u) p) c.in_order.ensures.arena c.requires.unit
    (subst (Finishes m u w c.args.at c.run.new.self c.in_ok-flow-in-Some.flow) (activation-is c.args.limit (scene_of m c.args.now.now c.args.at) (unit_text_at m u) p s.0 s.1) done)
    (subst (EndHolds (unit_text_at m u)) (activation-is c.args.limit (scene_of m c.args.now.now c.args.at) (unit_text_at m u) p s.0 s.1)
    (activation-holds m u c.in_order.ensures.arena c.requires.unit c.requires.process c.requires.formed c.args.now.now c.args.at c.args.args.now c.requires.args c.args.stand.now c.requires.fits p k
    s.0 s.1 c.args.limit))

pub returns-in-None-clause-act : goal.returns-in-None-clause-act
returns-in-None-clause-act c = λ p k.
    let m = c.args.m.now in
    let u = c.args.unit.0 in
    let b = subst (λ (x : Option Machine). BeginsAt m x (control_at (unit_text_at m u) p)) c.in-None.is (c.in_ok-machine.ensures p k) in
    subst (GivesMaybe m u c.args.args.now (length c.args.now.now) None)
    (no-activation c.args.limit (scene_of m c.args.now.now c.args.at) (unit_text_at m u) p (begins-nowhere m (control_at (unit_text_at m u) p) b)) tt

pub returns-in_ok-flow-in-Some-clause-late : goal.returns-in_ok-flow-in-Some-clause-late
returns-in_ok-flow-in-Some-clause-late c =
    let m = c.args.m.now in
    let u = c.args.unit.0 in
    let w = length c.args.now.now in
    let z = some-state m u w c.args.args.now c.args.stand.now c.requires.fits in
    let b = subst (λ (x : Option Machine). BeginsAt m x (control_at (unit_text_at m u) z.0)) c.in-Some.is (c.in_ok-machine.ensures z.0 z.1) in
    let s = begins-point m c.in-Some.machine (control_at (unit_text_at m u) z.0) b in
    let fits = begin-fits m u c.in_order.ensures.arena c.requires.unit (process-blocks m u c.requires.process) c.requires.formed w c.requires.process c.args.args.now c.requires.args c.args.stand.now
    c.requires.fits z.0 z.1 s.0 s.1 in
    c.finish.ensures.late m u w c.args.at (run c.args.limit (scene_of m c.args.now.now c.args.at) (start_point s.0)) (c.in_ok-flow-in-Some.ensures u (start_point s.0) s.2 fits)
