use Rattle.std.proofs.lemmas.Result.{err_from_is_err_and}
use Rattle.lh_io.specs.Streams.{Appends, AppendsProperPrefix}
use Rattle.lh_unit.specs.Paths.{shown_in}
use Rattle.lh_design.specs.Texts.{design_text}
use Rattle.lh_wave.specs.HeadText.{signals_in}
use Rattle.lh_wave.proofs.Courses.{none_of, none_failed, failed_short}
use Rattle.lh_wave.proofs.HeadLaws.{head_by_vcd}
use Rattle.lh_wave.proofs.run.write_head.Goals as goal

pub returns-in_err-head-in-Vcd-clause-err : goal.returns-in_err-head-in-Vcd-clause-err
returns-in_err-head-in-Vcd-clause-err g c =
    let p = err_from_is_err_and c.from_residual.result c.from_residual.ensures.1 in
    rw p.1 (none_of _ _ _ p.2)

pub returns-in_err-head-in-Vcd-clause-rose : goal.returns-in_err-head-in-Vcd-clause-rose
returns-in_err-head-in-Vcd-clause-rose g c =
    let p = err_from_is_err_and c.from_residual.result c.from_residual.ensures.1 in
    none_failed c.from_residual.result p.0 _ _ p.1 p.2

pub returns-in_ok-write_all-in-Vcd-clause-told : goal.returns-in_ok-write_all-in-Vcd-clause-told
returns-in_ok-write_all-in-Vcd-clause-told g c =
    let d = design_text c.args.m.now c.args.d.now in
    head_by_vcd (Appends (g.K.Sink.written c.args.out.now) (g.K.Sink.written c.write_all.new.sink)) c.args.mode (shown_in d) (signals_in d) c.deref.result.now
    c.in_ok-head-in-Vcd.head.items c.in-Vcd.is c.deref.ensures.value c.in_ok-head-in-Vcd.ensures c.in_ok-write_all-in-Vcd.ensures.ok

pub returns-in_err-write_all-in-Vcd-clause-err : goal.returns-in_err-write_all-in-Vcd-clause-err
returns-in_err-write_all-in-Vcd-clause-err g c =
    let p = err_from_is_err_and c.from_residual-in_err-write_all-in-Vcd.result c.from_residual-in_err-write_all-in-Vcd.ensures.1 in
    let d = design_text c.args.m.now c.args.d.now in
    failed_short c.from_residual-in_err-write_all-in-Vcd.result p.0 _ _ _ p.1 p.2
    (head_by_vcd (AppendsProperPrefix (g.K.Sink.written c.args.out.now) (g.K.Sink.written c.write_all.new.sink)) c.args.mode (shown_in d) (signals_in d) c.deref.result.now
    c.in_ok-head-in-Vcd.head.items c.in-Vcd.is c.deref.ensures.value c.in_ok-head-in-Vcd.ensures c.in_err-write_all-in-Vcd.ensures.failed)

pub returns-in_err-write_all-in-Vcd-clause-rose : goal.returns-in_err-write_all-in-Vcd-clause-rose
returns-in_err-write_all-in-Vcd-clause-rose g c = λ failed. c.in_err-write_all-in-Vcd.ensures.rose

pub returns-in_err-write_all-in-Vcd-clause-told : goal.returns-in_err-write_all-in-Vcd-clause-told
returns-in_err-write_all-in-Vcd-clause-told g c =
    let p = err_from_is_err_and c.from_residual-in_err-write_all-in-Vcd.result c.from_residual-in_err-write_all-in-Vcd.ensures.1 in
    rw p.1 tt
