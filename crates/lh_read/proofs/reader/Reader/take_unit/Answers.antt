use Rattle.std.proofs.Common.{None, Ok, sym, ap, subst, ◌∙◌}
use Rattle.lh_read_phrases.specs.SyntaxOf.{ports_of}
use Rattle.lh_read_pieces.specs.LexemeOf.{unit_name_of}
use Rattle.lh_read.specs.InOrder.{state_at, InPlace}
use Rattle.lh_read.proofs.Headers.{header-inside, header-assert, head-taken, head-refused, head-placed}
use Rattle.lh_read.proofs.reader.Reader.take_unit.Goals as goal

pub returns-then-is_inside-clause-step : goal.returns-then-is_inside-clause-step
returns-then-is_inside-clause-step c = header-inside c.args.self.now.resolver.module c.args.self.now.place c.requires.place c.args.kind (unit_name_of c.args.name.now) (ports_of c.args.ports.now) None
    (sym c.is_inside.ensures ∙ c.if-is_inside.true)

pub returns-then-is_assert-clause-step : goal.returns-then-is_assert-clause-step
returns-then-is_assert-clause-step c =
    header-assert c.args.self.now.resolver.module c.args.self.now.place c.requires.place c.args.kind (unit_name_of c.args.name.now) (ports_of c.args.ports.now) None (sym c.is_inside.ensures ∙ c.if-is_inside.false)
    (sym c.is_assert.ensures ∙ c.if-is_assert.true)

pub returns-in_err-unit-clause-step : goal.returns-in_err-unit-clause-step
returns-in_err-unit-clause-step c =
    head-refused c.args.self.now.resolver.module c.args.self.now.place c.requires.place c.args.kind (unit_name_of c.args.name.now) (ports_of c.args.ports.now) None c.from_residual.result c.in_err-unit.field-0.0
    c.begin_with_ports.new.self.module _
    (sym c.is_inside.ensures ∙ c.if-is_inside.false) c.in_err-unit.ensures c.from_residual.ensures.1

pub returns-clause-step : goal.returns-clause-step
returns-clause-step c =
    head-taken c.args.self.now.resolver.module c.args.self.now.place c.requires.place c.args.kind (unit_name_of c.args.name.now) (ports_of c.args.ports.now) None c.in_ok-unit.unit c.begin_with_ports.new.self.module
    (sym c.is_inside.ensures ∙ c.if-is_inside.false) (sym c.is_assert.ensures ∙ c.if-is_assert.false) c.in_ok-unit.ensures
    ∙ ap (λ q. Ok (state_at c.begin_with_ports.new.self.module q)) (sym c.behind_header-self.ensures)

pub returns-clause-order : goal.returns-clause-order
returns-clause-order c = record {
  place = subst (InPlace c.begin_with_ports.new.self.module) (sym c.behind_header-self.ensures)
      (head-placed c.args.self.now.resolver.module c.args.self.now.place c.requires.place c.args.kind (unit_name_of c.args.name.now) (ports_of c.args.ports.now) None c.in_ok-unit.unit c.begin_with_ports.new.self.module
      c.in_ok-unit.ensures);
  named = c.in_ok-unit.ensures.5 c.requires.named;
}
