use Rattle.std.proofs.Common.{◌≡◌, [], ◌∷◌, ◌++◌, sym, ◌∙◌}
use Rattle.std.proofs.lemmas.Result.{on_ok_weaker}
use Rattle.lh_elab.proofs.EntityProbes.{probe-more, probe-none}
use Rattle.lh_elab.proofs.probes.put_if_probe.Goals as goal

pub returns-in-Some : goal.returns-in-Some
returns-in-Some c = λ a u args sigs e f.
    on_ok_weaker c.push.result
    (λ (y : c.push.new.self ≡ c.args.probes.now ++ c.in-Some.probe ∷ []).
    probe-more args sigs a u c.args.statics.now e f c.args.inst.now c.in-Prb.signal c.in-Some.probe c.args.probes.now c.push.new.self c.in-Prb.is c.requires.operand
    (sym c.probe_in.ensures ∙ c.in-Some.is) y)
    c.push.ensures.ok

pub returns-in-None : goal.returns-in-None
returns-in-None c = λ a u args sigs e f. probe-none args sigs a u c.args.statics.now e f c.args.inst.now c.in-Prb.signal c.args.probes.now c.in-Prb.is c.requires.operand
    (sym c.probe_in.ensures ∙ c.in-None.is)
