-- The part to which a step leads from another.
use Rattle.std.proofs.Common.{◌≡◌, [], ◌∷◌, Some, ap, sym, ◌∙◌}
use Rattle.std.specs.Option.{option_and_then, option_map}
use Rattle.std.proofs.lemmas.Option.{same_Some}
use Rattle.lh_types.specs.Types.{signal_type}
use Rattle.lh_types.specs.Parts as Parts
use Rattle.lh_types.specs.Parts.{step_part}
use Rattle.lh_types.specs.declared.op.Op.{Op}
use Rattle.lh_types.specs.declared.part.Step.{Step}
use Rattle.lh_unit.specs.Contents.{OperandText, UnitText}
use Rattle.lh_unit.specs.Effects.{step_of}
use Rattle.lh_unit.specs.Typing.{value_type}
use Rattle.lh_verify_laws.specs.Parts.{TakesPart}
use Rattle.lh_verify_laws.proofs.PartSteps.{same-operand, leads-is}
use Rattle.lh_term.specs.declared.part.Part.{Part}
use Rattle.lh_emit_def.specs.Ways.{inner, part_by, part_by_step}

pub part-led : (o : Op) (s : Step) (q : Part) (z : Parts.Part) → step_of o ≡ Some s → step_part q.ty s ≡ Some z → part_by q o ≡ Some (inner q z)
part-led o s q z so leads = ap (option_and_then (part_by_step q)) so ∙ ap (option_map (inner q)) leads

-- what is taken of a signal
pub record Taken (u : UnitText) (x : OperandText) (s : Step) (q : Part) : Type 0 where
  pub part : Parts.Part
  pub leads : step_part q.ty s ≡ Some part
  pub written : x.ty ≡ Some (signal_type part.of)

pub taken : (u : UnitText) (x : OperandText) (s : Step) (q : Part) → TakesPart u s (x ∷ []) → value_type u x.value ≡ Some (signal_type q.ty) → Taken u x s q
taken u x s q t v =
    let same : x ≡ t.operand = same-operand x t.operand t.operands in
    let z = leads-is s t.whole t.of q.ty t.leads (same_Some t.whole (signal_type q.ty) (sym t.is ∙ ap (λ (w : OperandText). value_type u w.value) (sym same) ∙ v)) in
    record { part = z.0; leads = z.1; written = ap (λ (w : OperandText). w.ty) same ∙ t.written ∙ ap Some z.2 }
