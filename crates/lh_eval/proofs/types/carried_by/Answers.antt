use Rattle.std.proofs.Common.{◌≡◌, ◌<◌, Some, slice_get, get_or, length, ap, sym, ◌∙◌}
use Rattle.std.proofs.lemmas.Option.{slice_get-get_or}
use Rattle.std.specs.Option.{option_copied, option_and_then}
use Rattle.lh_unit.specs.Arena.{args_at, naming}
use Rattle.lh_unit.specs.Naming.{inst_text}
use Rattle.lh_unit.specs.Typing.{carried, result_type}
use Rattle.lh_unit.specs.declared.inst.Arg.{Arg}
use Rattle.lh_unit.proofs.DefinitionsGive.{value_type-argument, value_type-instruction, value_type-missing}
use Rattle.lh_eval.proofs.types.carried_by.Goals as goal

pub returns-in-Missing : goal.returns-in-Missing
returns-in-Missing c =
    sym (ap (option_and_then carried) (value_type-missing c.args.m.now c.args.unit.0 c.in-Missing.ensures.sound c.requires.unit c.args.value.0 c.requires.value c.in-Missing.ensures.definition))

pub returns-in-Arg : goal.returns-in-Arg
returns-in-Arg c =
    let x : Arg = get_or c.args-in-Arg.result.now c.in-Arg.number c.index-args-number.result in
    let w : c.in-Arg.number < length c.args-in-Arg.result.now = rw c.args-in-Arg.ensures.args c.in-Arg.ensures.definition.0 in
    let e : slice_get (args_at c.args.m.now c.args.unit.0) c.in-Arg.number ≡ Some x = ap (λ l. slice_get l c.in-Arg.number) (sym c.args-in-Arg.ensures.args)
    ∙ slice_get-get_or c.args-in-Arg.result.now c.in-Arg.number c.index-args-number.result w in
    let f : option_copied c.carried.result ≡ option_and_then carried (Some x.ty) = c.carried.ensures.of in
    f ∙ sym (ap (option_and_then carried) (value_type-argument c.args.m.now c.args.unit.0 c.in-Arg.ensures.sound c.requires.unit c.args.value.0 c.requires.value c.in-Arg.number x
    c.in-Arg.ensures.definition e))

pub returns-in-Inst : goal.returns-in-Inst
returns-in-Inst c =
    c.carried_by_inst.ensures (naming c.args.m.now c.args.unit.0)
    ∙ ap (λ i. option_and_then carried (result_type (inst_text (naming c.args.m.now c.args.unit.0) i))) c.inst.ensures.inst
    ∙ sym (ap (option_and_then carried) (value_type-instruction c.args.m.now c.args.unit.0 c.in-Inst.ensures.sound c.requires.unit c.args.value.0 c.requires.value c.in-Inst.inst
    c.in-Inst.ensures.definition))
