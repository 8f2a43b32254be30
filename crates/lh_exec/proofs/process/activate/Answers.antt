use Rattle.std.proofs.Common.{List, length, sym, subst}
use Rattle.lh_types.specs.declared.part.Range.{Range}
use Rattle.lh_unit.specs.Activation.{activate}
use Rattle.lh_unit.specs.Arena.{unit_text_at}
use Rattle.lh_eval_laws.specs.Ranges.{RangesFit, arg_types}
use Rattle.lh_exec.specs.Standing.{scene_of}
use Rattle.lh_exec.specs.States.{StandsForState, ActivationOrRunaway}
use Rattle.lh_exec.proofs.process.activate.Goals as goal

pub activate_within-requires-clause-args : goal.activate_within-requires-clause-args
activate_within-requires-clause-args g c = subst (λ (l : List Range). RangesFit (length c.args.now.now) l (arg_types (unit_text_at c.args.m.now c.args.i.now.unit.0).args))
    (sym c.as_slice-args.ensures) c.requires.args

pub returns-clause-act : goal.returns-clause-act
returns-clause-act g c = λ p k.
    let m = c.args.m.now in
    let u = c.args.i.now.unit.0 in
    let w = length c.args.now.now in
    let done = activate 1000000 (scene_of m c.args.now.now c.args.at) (unit_text_at m u) p in
    subst (λ (l : List Range). ActivationOrRunaway m u l w c.answered.result done) c.as_slice-args.ensures
    (c.answered.ensures.act m u w c.as_slice-args.result.now done (c.in_ok-given.ensures.act p (subst (λ (l : List Range). StandsForState m u l c.args.s.now p) (sym c.as_slice-args.ensures) k)))

pub returns-clause-late : goal.returns-clause-late
returns-clause-late g c = c.answered.ensures.late c.args.at c.in_ok-given.ensures.late
