use Rattle.std.proofs.Common.{◌∙◌, ap, sym, subst, refl}
use Rattle.std.specs.Option.{option_map}
use Rattle.lh_unit.specs.Activation.{Next}
use Rattle.lh_eval.specs.HeldOf.{maybe_held}
use Rattle.lh_exec.specs.Standing.{InstLeads}
use Rattle.lh_exec.proofs.Steps.{returns-back}
use Rattle.lh_exec.proofs.machine.Machine.run_ret.Goals as goal

pub returns-in-Some : goal.returns-in-Some
returns-in-Some c = λ a p st.
    subst (λ (n : Next). InstLeads a c.go_back.new.self c.go_back.result p.control.unit n)
    (sym (returns-back a c.args.self.now.frame.unit.0 c.args.self.now.frame.slots p c.args.operand.now (maybe_held c.in-Some.held) st.frame.held c.requires.within
    (sym c.in_ok-held.ensures ∙ ap (option_map maybe_held) c.in-Some.is) p.callers))
    (c.go_back.ensures a p (maybe_held c.in-Some.held) st refl)
