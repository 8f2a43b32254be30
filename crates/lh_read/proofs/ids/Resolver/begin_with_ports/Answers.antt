use Rattle.std.proofs.Common.{None}
use Rattle.lh_read_pieces.specs.LexemeOf.{unit_name_of}
use Rattle.lh_read_phrases.specs.SyntaxOf.{ports_of}
use Rattle.lh_read.proofs.Args.{begun-open, heads-ok, heads-err, heads-passed}
use Rattle.lh_read.proofs.ids.Resolver.begin_with_ports.Goals as goal

pub add_ports-requires-clause-begun : goal.add_ports-requires-clause-begun
add_ports-requires-clause-begun c = begun-open c.in_ok-unit.unit c.args.self.now.module c.begin.new.self.module (unit_name_of c.args.name.now) c.args.kind c.in_ok-unit.ensures

pub returns-in_err-add_ports : goal.returns-in_err-add_ports
returns-in_err-add_ports c =
    let n = unit_name_of c.args.name.now in let args = ports_of c.args.ports.now in let e = c.in_err-add_ports.field-0.0 in
    heads-passed c.from_residual-in_err-add_ports.result e c.args.self.now.module c.add_ports.new.self.module n c.args.kind args None c.from_residual-in_err-add_ports.ensures.1
    (heads-err e c.in_ok-unit.unit c.args.self.now.module c.begin.new.self.module c.add_ports.new.self.module c.add_ports.new.self.module n c.args.kind args None c.in_ok-unit.ensures c.in_err-add_ports.ensures)

pub returns : goal.returns
returns c = heads-ok c.in_ok-unit.unit c.args.self.now.module c.begin.new.self.module c.add_ports.new.self.module (unit_name_of c.args.name.now) c.args.kind (ports_of c.args.ports.now) c.in_ok-unit.ensures
    c.in_ok-add_ports.ensures
