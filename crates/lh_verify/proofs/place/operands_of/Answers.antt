use Rattle.std.proofs.Common.{◌≡◌, subst, sym}
use Rattle.std.proofs.lemmas.Result.{IfOk-weaker}
use Rattle.lh_unit.specs.Within.{Each}
use Rattle.lh_verify_operands.specs.Operands.{UseWithin}
use Rattle.lh_verify_values.specs.Facts.{sizes_in}
use Rattle.lh_verify_operands.specs.Uses.{uses_of}
use Rattle.lh_verify_operands.proofs.UsesWithin.{uses-within}
use Rattle.lh_verify.proofs.place.operands_of.Goals as goal

pub returns : goal.returns
returns c = IfOk-weaker c.uses.result (λ list. list ≡ uses_of c.args.inst.now) (λ list. (list ≡ uses_of c.args.inst.now) × Each (UseWithin (sizes_in c.args.scope.now)) list)
    (λ list e. (e, subst (Each (UseWithin (sizes_in c.args.scope.now))) (sym e) (uses-within (sizes_in c.args.scope.now) c.args.inst.now c.requires))) c.uses.ensures
