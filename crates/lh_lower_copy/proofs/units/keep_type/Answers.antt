use Rattle.std.proofs.Common.{◌≡◌, subst, sym}
use Rattle.lh_unit.specs.declared.inst.UnitKind.TheVariants as kind
use Rattle.lh_unit.specs.Contents.{with_result}
use Rattle.lh_unit.specs.Arena.{unit_text_at, result_type_at}
use Rattle.lh_unit.proofs.ContentsLemmas.{open-of}
use Rattle.lh_lower_copy.specs.Changing.{Becomes, with_type}
use Rattle.lh_lower_copy.proofs.Opened.{becomes-refl, becomes-by}
use Rattle.lh_lower_copy.proofs.Rests.{type-fits}
use Rattle.lh_lower_copy.proofs.units.keep_type.Goals as goal

pub set_result-requires-clause-function : goal.set_result-requires-clause-function
set_result-requires-clause-function c =
    let a = c.args.from.now in let u = c.args.unit.0 in
    open-of c.args.m.now c.args.unit (λ t. t.kind ≡ kind.Func) c.requires.opened
    (type-fits (unit_text_at c.args.m.now u) (result_type_at a u) c.in-Some.ty.now (sym c.in-Some.ensures.ty) c.requires.fits)

pub returns-in_ok-copy-in-Some : goal.returns-in_ok-copy-in-Some
returns-in_ok-copy-in-Some c =
    let a = c.args.from.now in let u = c.args.unit.0 in let m = c.args.m.now in let new = c.set_result.new.self in
    subst (λ r. Becomes m new c.args.unit (with_type r (unit_text_at m u))) c.in-Some.ensures.ty
    (subst (λ ty. Becomes m new c.args.unit (with_result ty (unit_text_at m u))) c.in_ok-copy-in-Some.ensures
    (becomes-by m new c.args.unit (with_result c.in_ok-copy-in-Some.field-0) c.requires.opened c.set_result.ensures))

pub returns-in-None : goal.returns-in-None
returns-in-None c =
    let a = c.args.from.now in let u = c.args.unit.0 in let m = c.args.m.now in
    subst (λ r. Becomes m m c.args.unit (with_type r (unit_text_at m u))) c.in-None.ensures.ty (becomes-refl m c.args.unit c.requires.opened)
