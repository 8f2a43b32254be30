use Rattle.std.proofs.Common.{◌∙◌, [], ◌∷◌, ◌++◌, ap, refl}
use Rattle.lh_exec.specs.declared.machine.UnitFrame.{UnitFrame}
use Rattle.lh_exec.proofs.Steps.{opens-leads}
use Rattle.lh_exec.proofs.machine.Machine.push.Goals as goal

pub returns : goal.returns
returns c = λ a x g p st.
    opens-leads a c.args.self.now p st c.args.frame x c.args.name
    (record { frame = c.replace-frame.new.dest; callers = c.push_call.new.calls; wishes = c.args.self.now.wishes; outcomes = c.args.self.now.outcomes; taken = c.args.self.now.taken })
    g c.requires.name c.requires.few c.replace-frame.ensures.after
    (c.in_ok-push_call.ensures ∙ ap (λ (f : UnitFrame). c.args.self.now.callers.items ++ record { frame = f; result = c.args.name } ∷ []) c.replace-frame.ensures.value) refl refl
