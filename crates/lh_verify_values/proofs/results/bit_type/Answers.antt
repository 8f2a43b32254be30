use Rattle.std.proofs.Common.{Result, None, subst, sym, refl}
use Rattle.lh_types.specs.Types.{TypeTree, int_type}
use Rattle.lh_types.specs.Faults.{MakesType}
use Rattle.lh_types.specs.declared.ty.TyFault.{TyFault}
use Rattle.lh_verify_values.proofs.results.bit_type.Goals as goal

pub returns : goal.returns
returns c = c.made.ensures None (int_type 1) (let P : Result TypeTree TyFault → Type 0 = λ r. MakesType r None (int_type 1) in subst P (sym c.int.ensures) (refl, refl))
