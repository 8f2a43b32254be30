use Rattle.std.proofs.Common.{refl}
use Rattle.std.proofs.lemmas.Result.{err_from_is_err_and}
use Rattle.lh_wave.proofs.Courses.{frame_went, failed_next, frame_broke, tell_broke}
use Rattle.lh_wave.proofs.teller.Teller.show_frame.Goals as goal

pub returns-in_err-tell-clause-err : goal.returns-in_err-tell-clause-err
returns-in_err-tell-clause-err g c =
    let p = err_from_is_err_and c.from_residual.result c.from_residual.ensures.1 in
    rw (p.1, p.2) (λ before v rest n. tell_broke c.args.self.now before v _ _ _ rest _ _ _ _ (c.in_err-tell.ensures.err before v rest.frames rest.left rest.end n) refl)

pub returns-in_err-show-clause-err : goal.returns-in_err-show-clause-err
returns-in_err-show-clause-err g c =
    let p = err_from_is_err_and c.from_residual-in_err-show.result c.from_residual-in_err-show.ensures.1 in
    rw p.1 (λ before v rest n. frame_broke c.args.self.now c.tell.new.self.scribe c.tell.new.self.text.items before v _ _ _ rest _ _ _ _ n (c.in_ok-tell.ensures.told before v n) c.in_err-show.ensures.err p.2)

pub returns-clause-went : goal.returns-clause-went
returns-clause-went g c = λ before v rest n.
    frame_went c.args.self.now c.tell.new.self.scribe c.tell.new.self.text.items before v _ _ _ rest _ _ _ _ _ n (c.in_ok-tell.ensures.told before v n) c.in_ok-show.ensures.members c.in_ok-show.ensures.reports
    (failed_next _ _ _ _ c.args.f.now before v c.failed_so_far-self.ensures c.in_ok-tell.ensures.failed c.as_slice.ensures n.is)
