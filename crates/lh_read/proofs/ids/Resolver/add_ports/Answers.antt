use Rattle.std.proofs.Common.{map, Ok, Err, subst}
use Rattle.lh_unit.specs.Spells.{input_of, output_of}
use Rattle.lh_read_phrases.specs.SyntaxOf.{ports_of}
use Rattle.lh_read.specs.Building.{AddsArgs}
use Rattle.lh_read.proofs.Args.{adds-err, adds-both, adds-first, adds-begun}
use Rattle.lh_read.proofs.ids.Resolver.add_ports.Goals as goal

pub returns-in_err-add_args : goal.returns-in_err-add_args
returns-in_err-add_args c =
    let p = c.args.ports.now in let e = c.in_err-add_args.field-0.0 in
    let w = subst (λ xs. AddsArgs (Err e) c.args.self.now.module c.add_args.new.self.module c.args.unit (map input_of xs)) c.as_slice.ensures c.in_err-add_args.ensures in
    adds-err c.from_residual.result e c.args.self.now.module c.add_args.new.self.module c.args.unit (ports_of p) c.from_residual.ensures.1
    (adds-first e c.args.self.now.module c.add_args.new.self.module c.args.unit (map input_of p.inputs) (map output_of p.outputs) w)

pub add_args-requires-2-clause-begun : goal.add_args-requires-2-clause-begun
add_args-requires-2-clause-begun c = adds-begun c.args.self.now.module c.add_args.new.self.module c.args.unit _ c.in_ok-add_args.ensures

pub returns : goal.returns
returns c =
    let p = c.args.ports.now in
    let first = subst (λ xs. AddsArgs (Ok tt) c.args.self.now.module c.add_args.new.self.module c.args.unit (map input_of xs)) c.as_slice.ensures c.in_ok-add_args.ensures in
    let second = subst (λ xs. AddsArgs c.add_args-2.result c.add_args.new.self.module c.add_args-2.new.self.module c.args.unit (map output_of xs)) c.as_slice-2.ensures c.add_args-2.ensures in
    adds-both c.add_args-2.result c.args.self.now.module c.add_args.new.self.module c.add_args-2.new.self.module c.args.unit (map input_of p.inputs) (map output_of p.outputs) first second
