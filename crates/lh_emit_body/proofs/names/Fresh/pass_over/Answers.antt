use Rattle.std.proofs.Common.{refl, sym, subst}
use Rattle.lh_emit_body.proofs.TakenNames.{Enters, taken-passed, other-passed}
use Rattle.lh_emit_body.proofs.names.Fresh.pass_over.Goals as goal

pub returns-in_ok-insert-clause-passed : goal.returns-in_ok-insert-clause-passed
returns-in_ok-insert-clause-passed c = taken-passed _ _ c.args.name.now refl (subst (λ n. Enters n c.args.self.now.taken.keys c.insert.new.self.keys) c.in_ok-copy.ensures c.in_ok-insert.ensures.updates.0)

pub returns-else-begins_as_new-clause-passed : goal.returns-else-begins_as_new-clause-passed
returns-else-begins_as_new-clause-passed c = other-passed _ _ c.args.name.now refl refl (sym c.if-begins_as_new.ensures)
