use Rattle.std.proofs.Common.{List, ℕ, subst}
use Rattle.std.proofs.lemmas.Result.{IfOk-weaker}
use Rattle.lh_unit.specs.Arena.{contents}
use Rattle.lh_selftest.specs.SelfTest.{RunsAs}
use Rattle.lh_selftest.proofs.chain.chain.Goals as goal

pub file_of-requires : goal.file_of-requires
file_of-requires c = rw c.deref.ensures.value c.in_ok-text.ensures.can_run

pub returns : goal.returns
returns c =
    let text = c.in_ok-text.text.items in
    IfOk-weaker c.file_of.result _ _ (λ x h. record { text = text; is = c.in_ok-text.ensures.is; runs = subst (λ (t : List ℕ). RunsAs t (contents x)) c.deref.ensures.value h }) c.file_of.ensures
