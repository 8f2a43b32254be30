use Rattle.std.proofs.Common.{List, [], Bool, length, sym, subst}
use Rattle.lh_exec.proofs.Begins.{some-state}
use Rattle.lh_kernel_states.specs.Runs.{ActIsSound}
use Rattle.lh_kernel_states.specs.declared.state.InstState.TheVariants.{Process}
use Rattle.lh_kernel_states.proofs.Sound.{process-fits, entity-fits, process-sound, entity-sound}
use Rattle.lh_kernel_states.proofs.runs.run_instance.Goals as goal

pub returns-in_ok-boxed-in-Process-clause-sound : goal.returns-in_ok-boxed-in-Process-clause-sound
returns-in_ok-boxed-in-Process-clause-sound g c =
    let m = c.args.m.now in
    let i = c.args.i.now in
    let width = length c.args.now.now in
    let f = process-fits m width i c.args.s.now c.in-Process.process c.in-Process.is c.requires.fits in
    let p = some-state m i.unit.0 width i.args c.in-Process.process.stand f.1 in
    let done = c.in_ok-act-in-Process in
    subst (λ (outcomes : List Bool). ActIsSound m width c.args.at i (record { next = Process done.act.next; wishes = done.act.wishes; outcomes = outcomes }))
    (sym c.in_ok-boxed-in-Process.ensures)
    (process-sound m width c.args.now.now c.args.at i p.0 done.act f.0 (done.ensures.act p.0 p.1) done.ensures.late)

pub returns-in_ok-act-in-Entity-clause-sound : goal.returns-in_ok-act-in-Entity-clause-sound
returns-in_ok-act-in-Entity-clause-sound g c =
    let m = c.args.m.now in
    let i = c.args.i.now in
    let width = length c.args.now.now in
    let f = entity-fits m width i c.args.s.now c.in-Entity.entity c.in-Entity.is c.requires.fits in
    let done = c.in_ok-act-in-Entity in
    entity-sound m width c.args.now.now c.args.at i c.in-Entity.entity.memory done.act [] f.0 done.ensures.act
