use Rattle.std.proofs.Common.{Err, sym, ◌∙◌, subst}
use Rattle.lh_unit.specs.Arena.{value_name_at}
use Rattle.lh_defined.specs.Lacking.{DefinedOrFault}
use Rattle.lh_defined.specs.declared.DefinedFault.{DefinedFault}
use Rattle.lh_verify.proofs.UnitPlaces.{lacks-hidden, lacks-nothing, lacks-at}
use Rattle.lh_verify.proofs.unit.first_lacking.Goals as goal

pub returns-then-hidden : goal.returns-then-hidden
returns-then-hidden c = lacks-hidden c.args.scope.now c.requires.sound c.requires.scope.unit c.args.places.now c.requires.places (sym c.requires.hidden ∙ c.if-hidden.true)

pub returns-in-Ok : goal.returns-in-Ok
returns-in-Ok c = lacks-nothing c.args.scope.now c.requires.sound c.requires.scope.unit c.in-Ok.ensures

pub returns-in-Err-NotDefined : goal.returns-in-Err-NotDefined
returns-in-Err-NotDefined c =
    let a = c.args.scope.now.module.now in
    let u = c.args.scope.now.unit.0 in
    let d = subst (λ (e : DefinedFault). DefinedOrFault (Err e) a u) c.in-Err-NotDefined.field-0-is c.in-Err-NotDefined.ensures in
    lacks-at c.args.scope.now c.requires.sound c.requires.scope.unit c.in-Err-NotDefined.inst (value_name_at a u c.in-Err-NotDefined.field-0-1.0) c.args.places.now c.requires.places
    (sym c.requires.hidden ∙ c.if-hidden.false) d.1
