use Rattle.lh_unit.specs.Contents.{ArgText, with_arg}
use Rattle.lh_unit.specs.Naming.{arg_text}
use Rattle.lh_unit.specs.Arena.{naming}
use Rattle.lh_lower_copy.proofs.Opened.{becomes-by, no-arg-twice}
use Rattle.lh_lower_copy.proofs.adding.put_arg.Goals as goal

pub wanting-requires : goal.wanting-requires
wanting-requires c =
    let x : ArgText = arg_text (naming c.args.m.now c.args.unit.0) (record { value = c.args.value; ty = c.args.ty; output = c.args.output }) in
    no-arg-twice c.in-Err.fault c.args.m.now c.add_arg.new.self c.args.unit x c.requires.opened c.requires.undefined c.in-Err.ensures

pub returns-in-Ok : goal.returns-in-Ok
returns-in-Ok c =
    let x : ArgText = arg_text (naming c.args.m.now c.args.unit.0) (record { value = c.args.value; ty = c.args.ty; output = c.args.output }) in
    becomes-by c.args.m.now c.add_arg.new.self c.args.unit (with_arg x) c.requires.opened c.in-Ok.ensures.1
