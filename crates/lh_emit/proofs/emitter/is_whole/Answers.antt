use Rattle.lh_emit.proofs.emitter.is_whole.Goals as goal

pub returns : goal.returns
returns c = record { arg = c.index-args-part.result; whole = c.carries.ensures.whole; limited = c.carries.ensures.limited }
