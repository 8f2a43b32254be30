use Rattle.std.proofs.Common.{Option, IfSome, sym, ◌∙◌, subst}
use Rattle.lh_time.specs.declared.Instant.{Instant}
use Rattle.lh_kernel.specs.Phases.{ComesNext}
use Rattle.lh_kernel.proofs.Next.{next_is, next_comes, first_comes, none_by, some_by}
use Rattle.lh_kernel.proofs.machine.SimState.next.Goals as goal

pub returns-then-is_none-clause-comes : goal.returns-then-is_none-clause-comes
returns-then-is_none-clause-comes c = first_comes c.args.self.now (none_by c.args.self.now.last c.is_none.result c.is_none.ensures c.if-is_none.true)

pub returns-clause-next : goal.returns-clause-next
returns-clause-next c = λ w h.
    let l = some_by c.args.self.now.last c.is_none.result c.is_none.ensures c.if-is_none.false in
    c.soonest-2.ensures ∙ next_is c.args.self.now l.0 c.next_due.result c.soonest.result c.requires l.1 c.next_due.ensures.soonest c.soonest.ensures w h

pub returns-clause-comes : goal.returns-clause-comes
returns-clause-comes c =
    let l = some_by c.args.self.now.last c.is_none.result c.is_none.ensures c.if-is_none.false in
    let P : Option Instant → Type 0 = λ o. IfSome o (ComesNext c.args.self.now) in
    subst P (sym c.soonest-2.ensures) (next_comes c.args.self.now l.0 c.next_due.result c.soonest.result c.requires l.1 c.next_due.ensures.least c.soonest.ensures)
