use Rattle.std.proofs.Common.{ap, sym, ◌∙◌, arith}
use Rattle.std.proofs.lemmas.Result.{err_from_is_err_and}
use Rattle.lh_unit.specs.Paths.{shown_in, path_at}
use Rattle.lh_design.specs.Texts.{design_text}
use Rattle.lh_wave.proofs.Courses.{none_of}
use Rattle.lh_wave.proofs.HeadLaws.{head_start, head_put, head_passed, head_short, head_stopped, head_short_by, head_told}
use Rattle.lh_wave.proofs.head.write_trace_head.Goals as goal

pub returns-in_err-path-clause-err : goal.returns-in_err-path-clause-err
returns-in_err-path-clause-err g c =
    let p = err_from_is_err_and c.from_residual.result c.from_residual.ensures.1 in
    rw p.1 (none_of _ _ _ p.2)

pub loop-k-init : goal.loop-k-init
loop-k-init g c = record {
  whole = c.signals-signal-items.ensures;
  path = c.in_ok-path.ensures.text ∙ ap (path_at (shown_in (design_text c.args.m.now c.args.d.now))) (sym c.in_ok-path.ensures.at);
  never_fall = omega arith;
  going = head_start _ _ _ _ c.new-waits.ensures.empty;
}

pub returns-in_err-go_to-clause-err : goal.returns-in_err-go_to-clause-err
returns-in_err-go_to-clause-err g c =
    let p = err_from_is_err_and c.from_residual-in_err-go_to.result c.from_residual-in_err-go_to.ensures.1 in
    rw p.1 (head_short _ _ _ _ _ _ _ c.loop-k.invariant.going p.2)

pub returns-in_err-pass_on-clause-err : goal.returns-in_err-pass_on-clause-err
returns-in_err-pass_on-clause-err g c =
    let p = err_from_is_err_and c.from_residual-in_err-pass_on.result c.from_residual-in_err-pass_on.ensures.1 in
    rw (p.1, p.2) (head_stopped _ c.args.m.now c.args.d.now _ _ _ _ _ _ _ c.loop-k.invariant.going
    (head_put c.args.m.now c.args.d.now _ _ _ _ _ _ _ _ _ c.loop-k.invariant.whole c.loop-k.invariant.going c.loop-k-test.true c.signal-item.is (c.deref.ensures.value ∙ c.in_ok-go_to.ensures.text)
    c.as_bytes.ensures.value c.put_signal.ensures) c.in_err-pass_on.ensures.err)

pub loop-k-preserved : goal.loop-k-preserved
loop-k-preserved g c =
    let put = head_put c.args.m.now c.args.d.now _ _ _ _ _ _ _ _ _ c.loop-k.invariant.whole c.loop-k.invariant.going c.loop-k-test.true c.signal-item.is (c.deref.ensures.value ∙ c.in_ok-go_to.ensures.text)
    c.as_bytes.ensures.value c.put_signal.ensures c.in_ok-pass_on.ensures.whole in
    record {
      whole = c.loop-k.invariant.whole;
      path = c.in_ok-go_to.ensures.text ∙ ap (path_at (shown_in (design_text c.args.m.now c.args.d.now))) (sym c.in_ok-go_to.ensures.at);
      never_fall = omega (arith, c.loop-k.invariant.never_fall, c.pass_on.ensures.never_fall);
      going = head_passed _ _ _ _ _ _ _ _ put c.in_ok-pass_on.ensures.told;
    }

pub returns-clause-err : goal.returns-clause-err
returns-clause-err g c = head_short_by c.write_out.result c.args.m.now c.args.d.now _ _ _ _ _ c.loop-k.invariant.going c.write_out.ensures.err

pub returns-clause-told : goal.returns-clause-told
returns-clause-told g c =
    head_told c.write_out.result c.args.m.now c.args.d.now _ _ _ _ _ _ c.loop-k.invariant.whole c.loop-k.invariant.going c.loop-k-test.false c.write_out.ensures.told
