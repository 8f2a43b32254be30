use Rattle.std.proofs.Common.{map, Some}
use Rattle.lh_unit.specs.Spells.{input_of}
use Rattle.lh_unit.specs.declared.inst.UnitKind.TheVariants as kind
use Rattle.lh_read_pieces.specs.LexemeOf.{unit_name_of}
use Rattle.lh_read.proofs.Args.{begun-open, heads-function, heads-err, heads-passed, is_function}
use Rattle.lh_read.proofs.ids.Resolver.begin_function.Goals as goal

pub add_args-requires-clause-begun : goal.add_args-requires-clause-begun
add_args-requires-clause-begun c = begun-open c.in_ok-unit.unit c.args.self.now.module c.begin.new.self.module (unit_name_of c.args.name.now) kind.Func c.in_ok-unit.ensures

pub returns-in_err-add_args : goal.returns-in_err-add_args
returns-in_err-add_args c =
    let n = unit_name_of c.args.name.now in let args = map input_of c.args.params.now in let e = c.in_err-add_args.field-0.0 in let r = Some c.args.result_type in
    heads-passed c.from_residual-in_err-add_args.result e c.args.self.now.module c.add_args.new.self.module n kind.Func args r c.from_residual-in_err-add_args.ensures.1
    (heads-err e c.in_ok-unit.unit c.args.self.now.module c.begin.new.self.module c.add_args.new.self.module c.add_args.new.self.module n kind.Func args r c.in_ok-unit.ensures c.in_err-add_args.ensures)

pub set_result-requires-clause-function : goal.set_result-requires-clause-function
set_result-requires-clause-function c = is_function c.in_ok-unit.unit c.args.self.now.module c.begin.new.self.module c.add_args.new.self.module (unit_name_of c.args.name.now) (map input_of c.args.params.now) c.in_ok-unit.ensures
    c.in_ok-add_args.ensures

pub returns : goal.returns
returns c =
    heads-function c.in_ok-unit.unit c.args.self.now.module c.begin.new.self.module c.add_args.new.self.module c.set_result.new.self (unit_name_of c.args.name.now) (map input_of c.args.params.now) c.args.result_type
    c.in_ok-unit.ensures c.in_ok-add_args.ensures c.set_result.ensures
