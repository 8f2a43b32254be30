use Rattle.std.proofs.Common.{◌≡◌, [], ◌∷◌, OnOk, subst}
use Rattle.lh_unit.specs.Arena.{value_count}
use Rattle.lh_unit.specs.Pass.{Passed}
use Rattle.lh_unit.proofs.ById.{result-within}
use Rattle.lh_react.specs.Standing.{StandsForPass, passed_by, passed_all}
use Rattle.lh_eval.proofs.BeginSteps.{maybe-in}
use Rattle.lh_react.proofs.pass.run_inst.Goals as goal

pub run_named-requires-clause-name : goal.run_named-requires-clause-name
run_named-requires-clause-name c = rw c.result_of-name.ensures.value
    (maybe-in (value_count c.args.m.now c.args.unit.0) c.args.run.now.slots _ c.requires.fit.stands.holds.long
    (result-within c.args.m.now c.args.unit.0 c.result_of-name.ensures.sound c.requires.unit _))

pub returns : goal.returns
returns c = λ p st.
    let m = c.args.m.now in
    let n = c.result_of-name.ensures.value in
    let i = c.inst-inst.ensures.inst in
    let e : passed_by m c.args.unit.0 c.args.now.now c.args.state.now.memory c.args.at p c.result_of-name.result c.inst-inst.result.now ≡ passed_all m
    c.args.unit.0 c.args.now.now c.args.state.now.memory c.args.at p (c.args.inst ∷ []) =
    λ k. passed_by m c.args.unit.0 c.args.now.now c.args.state.now.memory c.args.at p (n k) (i k) in
    subst (λ (q : Passed). OnOk c.run_named.result (StandsForPass m c.args.unit.0 q c.run_named.new.run)) e (c.run_named.ensures p st)
