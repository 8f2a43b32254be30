use Rattle.std.proofs.Common.{◌≡◌, ◌∙◌, rules, sym}
use Rattle.lh_kernel.proofs.ActivationMoves.{parts_same}
use Rattle.lh_kernel.proofs.moves.is_same_wait.Goals as goal

pub returns-then-eq : goal.returns-then-eq
returns-then-eq c t =
    let wake : c.args.new.now.wake ≡ c.args.old.now.wake = search (rules, c.eq.ensures, c.if-eq.true) in
    let same = parts_same c.as_slice.result.now c.as_slice-then-eq.result.now c.eq-then-eq.result c.eq-then-eq.ensures t in
    let parts : c.args.old.now.parts ≡ c.args.new.now.parts = sym c.as_slice.ensures ∙ same ∙ c.as_slice-then-eq.ensures in
    λ i. record { parts = sym parts i; wake = wake i }
