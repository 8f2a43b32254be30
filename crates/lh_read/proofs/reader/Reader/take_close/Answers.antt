use Rattle.std.proofs.Common.{Ok, sym, ap, subst, ◌∙◌}
use Rattle.lh_read.specs.declared.places.LinePlace.TheVariants.{Outside}
use Rattle.lh_read.specs.Mentions.{EachNamed}
use Rattle.lh_read.specs.InOrder.{state_at}
use Rattle.lh_read.proofs.AddedItems.{close-misplaced, close-taken}
use Rattle.lh_read.proofs.reader.Reader.take_close.Goals as goal

pub returns-then-not-may_close-clause-step : goal.returns-then-not-may_close-clause-step
returns-then-not-may_close-clause-step c = close-misplaced c.args.self.now c.requires (sym c.if-not-may_close.ensures)

pub returns-clause-step : goal.returns-clause-step
returns-clause-step c = close-taken c.args.self.now c.requires (sym c.if-not-may_close.ensures) ∙ ap (λ m. Ok (state_at m Outside)) (sym c.shrink.ensures)

pub returns-clause-order : goal.returns-clause-order
returns-clause-order c = record { place = tt; named = subst EachNamed (sym c.shrink.ensures) c.requires.named }
