use Rattle.std.proofs.Common.{List, ℕ, sym, subst, arith}
use Rattle.std.proofs.lemmas.Option.{slice_get-get_or}
use Rattle.lh_unit.specs.Arena.{args_at}
use Rattle.lh_verify_values.specs.Numbers.{AreNumbersOf}
use Rattle.lh_verify_values.proofs.ScopeParts.{unit-in}
use Rattle.lh_verify_values.proofs.scope.Scope.params_of.Goals as goal

pub bounds-self-unit : goal.bounds-self-unit
bounds-self-unit c = omega (arith, unit-in c.args.self.now c.args.unit c.requires.within, c.requires.scope.params.long)

pub returns : goal.returns
returns c =
    let a = args_at c.args.self.now.module.now c.args.unit.0 in
    let P : List ℕ → Type 0 = λ ns. AreNumbersOf c.args.self.now.types.now a ns in
    subst P (sym c.as_slice.ensures) (c.requires.scope.params.numbers c.args.unit.0 _
    (slice_get-get_or c.args.self.now.params.now c.args.unit.0 c.index-self-unit.result (omega (arith, unit-in c.args.self.now c.args.unit c.requires.within, c.requires.scope.params.long))))
