use Rattle.std.proofs.Common.{sym, ◌∙◌}
use Rattle.lh_read.proofs.NamedEntries.{named-declared}
use Rattle.lh_read.proofs.Headers.{declare-inside, declare-taken, outside-placed}
use Rattle.lh_read.proofs.reader.Reader.take_declare.Goals as goal

pub returns-then-is_inside-clause-step : goal.returns-then-is_inside-clause-step
returns-then-is_inside-clause-step c = declare-inside c.args.self.now.resolver.module c.args.self.now.place c.args.declare c.requires.place (sym c.is_inside.ensures ∙ c.if-is_inside.true)

pub returns-clause-step : goal.returns-clause-step
returns-clause-step c =
    declare-taken c.args.self.now.resolver.module c.add_declare.new.self c.args.self.now.place c.args.declare c.requires.place (sym c.is_inside.ensures ∙ c.if-is_inside.false) c.in_ok-add_declare.ensures

pub returns-clause-order : goal.returns-clause-order
returns-clause-order c = record {
  place = outside-placed c.add_declare.new.self c.args.self.now.place (sym c.is_inside.ensures ∙ c.if-is_inside.false);
  named = named-declared c.args.self.now.resolver.module c.add_declare.new.self c.args.declare c.in_ok-add_declare.ensures c.requires.named;
}
