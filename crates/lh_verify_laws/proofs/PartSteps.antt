-- An instruction that takes a part: its operand, its step and its type.
use Rattle.std.proofs.Common.{◌≡◌, List, [], ◌∷◌, Some, refl, subst}
use Rattle.std.proofs.lemmas.Option.{same_Some, none-some}
use Rattle.lh_types.specs.Types.{TypeTree, signal_type}
use Rattle.lh_types.specs.Parts as Parts
use Rattle.lh_types.specs.Parts.{step_part}
use Rattle.lh_types.specs.declared.op.Op.{Op}
use Rattle.lh_types.specs.declared.op.Op.TheVariants as op
use Rattle.lh_types.specs.declared.part.Step.{Step}
use Rattle.lh_types.specs.declared.part.Step.TheVariants.{Field, Slice}
use Rattle.lh_unit.specs.Contents.{OperandText, pure_text, UnitText}
use Rattle.lh_unit.specs.Effects.{step_of}
use Rattle.lh_unit.specs.Typing.{result_type}
use Rattle.lh_verify_laws.specs.Parts.{StepLeadsTo, TakesPart, HasPart}

pub same-operand : (x y : OperandText) → x ∷ [] ≡ y ∷ [] → x ≡ y
same-operand x y e = cc

-- a step into a signal leads to the signal of a part
pub leads-is : (s : Step) (w of t : TypeTree) → StepLeadsTo s w of → w ≡ signal_type t → (z : Parts.Part) × (step_part t s ≡ Some z) × (of ≡ signal_type z.of)
leads-is s w of t l e = subst (λ (x : TypeTree). StepLeadsTo s x of) e l

pub takes-part : (u : UnitText) (o : Op) (s : Step) (os : List OperandText) → step_of o ≡ Some s → HasPart u (pure_text o os) → TakesPart u s os
takes-part u (op.Extf k) s os q h = subst (λ (x : Step). TakesPart u x os) (same_Some (Field k) s q) h
takes-part u (op.Exts at len) s os q h = subst (λ (x : Step). TakesPart u x os) (same_Some (Slice at len) s q) h
takes-part u o s os q h = absurd (none-some s q)

-- the type that is written before its operand is the type of what it gives
pub step-type : (o : Op) (s : Step) (x : OperandText) → step_of o ≡ Some s → result_type (pure_text o (x ∷ [])) ≡ x.ty
step-type (op.Extf k) s x q = refl
step-type (op.Exts at len) s x q = refl
step-type o s x q = absurd (none-some s q)
