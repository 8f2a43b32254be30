use Rattle.std.proofs.Common.{◌≡◌, ◌∙◌, true, is_some, ap, sym}
use Rattle.lh_eval.specs.HeldOf.{held_of, maybe_held}
use Rattle.lh_eval.specs.Holding.{cell_in}
use Rattle.lh_exec.proofs.Steps.{stores-leads}
use Rattle.lh_exec.proofs.machine.Machine.run_st.Goals as goal

pub returns-in-Some : goal.returns-in-Some
returns-in-Some c = λ a p st.
    let i : is_some (cell_in c.args.self.now.frame.slots c.args.to.now.value) ≡ true = cc in
    stores-leads a c.args.self.now p st c.args.to.now.value c.args.value (held_of c.in-Some.held) c.set.new.self c.requires.within c.requires.value_within i
    (ap maybe_held (sym c.in-Some.is) ∙ c.in_ok-held.ensures) c.set.ensures
