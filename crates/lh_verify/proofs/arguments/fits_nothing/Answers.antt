use Rattle.std.proofs.Common.{◌≡◌, ◌==◌, List, [], ◌∷◌, map, length, refl, ◌∙◌}
use Rattle.std.proofs.Math.Dec.{eqb-suc-zero}
use Rattle.lh_unit.specs.Contents.{UnitText, OperandText}
use Rattle.lh_unit.specs.Naming.{operand_text}
use Rattle.lh_unit.specs.WellFormed.{arguments_fit}
use Rattle.lh_unit.specs.declared.inst.Typed.{Typed}
use Rattle.lh_verify_values.specs.Facts.{naming_in, text_in}
use Rattle.lh_verify.proofs.arguments.fits_nothing.Goals as goal

-- no parameters are fit by no arguments alone
fits-none : (u : UnitText) (f : Typed → OperandText) (xs : List Typed) → (length xs == 0) ≡ arguments_fit u (map f xs) []
fits-none u f [] = refl
fits-none u f (x ∷ xs) = eqb-suc-zero (length xs)

pub returns : goal.returns
returns c = c.is_empty.ensures ∙ fits-none (text_in c.args.scope.now) (operand_text (naming_in c.args.scope.now)) c.args.args.now
