use Rattle.std.proofs.Common.{◌∙◌, ap, refl}
use Rattle.lh_eval.specs.Holding.{given}
use Rattle.lh_exec.proofs.Steps.{calls-last, back-leads}
use Rattle.lh_exec.proofs.machine.Machine.go_back.Goals as goal

pub give-requires : goal.give-requires
give-requires c = (calls-last c.requires.arena c.args.self.now.callers.items c.pop.new.self.items c.in-Some.call c.requires.point.callers c.in-Some.ensures.items c.requires.is.callers).3.within

pub returns-in-Some : goal.returns-in-Some
returns-in-Some c = λ a p h st e.
    back-leads a c.args.self.now p st c.in-Some.call c.pop.new.self.items h c.give.new.self
    (record {
      frame = record c.in-Some.call.frame { slots = c.give.new.self };
      callers = c.pop.new.self;
      wishes = c.args.self.now.wishes;
      outcomes = c.args.self.now.outcomes;
      taken = c.args.self.now.taken;
    })
    c.in-Some.ensures.items (c.give.ensures ∙ ap (given c.in-Some.call.frame.slots c.in-Some.call.result) e) refl refl refl refl
