-- What slots hold fits, so that what an instruction asks of its operands is there.
use Rattle.std.proofs.Common.{◌≡◌, ℕ, ◌+◌, ◌<◌, ◌≤◌, ◌^◌, List, [], ◌∷◌, length, map, Bool, Option, Some, None, refl, ap, sym, ◌∙◌, arith}
use Rattle.std.specs.Option.{option_and_then}
use Rattle.lh_types.specs.Types.{TypeTree, signal_type, IsData, bit_count}
use Rattle.lh_types.specs.Values.{Datum}
use Rattle.lh_types.specs.Fits.{FitsType}
use Rattle.lh_types.specs.declared.op.Op.{Op}
use Rattle.lh_types.specs.declared.part.Range.{Range}
use Rattle.lh_bits.proofs.LawProofs.{bits_are_counted}
use Rattle.lh_unit.specs.Contents.{pure_text, prb_text}
use Rattle.lh_unit.specs.Typing.{value_type, carried}
use Rattle.lh_unit.specs.Held.{Held, datum_held, part_held, Env}
use Rattle.lh_unit.specs.Arena.{Arena, naming, sizes, unit_text_at}
use Rattle.lh_unit.specs.Naming.{value_text, operand_text}
use Rattle.lh_unit.specs.Within.{Each, OperandWithin}
use Rattle.lh_unit.specs.declared.inst.ValueId.{ValueId}
use Rattle.lh_unit.specs.declared.inst.Typed.{Typed}
use Rattle.lh_verify_laws.specs.Operands.{RowIs, IsOf}
use Rattle.lh_eval.specs.Holding.{Holds, slot_at, datum_in, part_in}
use Rattle.lh_eval.specs.Fitting.{IsTypeWithinLimits, FitsHeld, Fits, PartFits, OperandsFit, ProbeFits, DriveFits}
use Rattle.lh_eval.specs.Sound.{HasOperands}
use Rattle.lh_eval.proofs.HeldByIds.{same-held}
use Rattle.lh_eval.proofs.ValuesFit.{datum-held, fits-row}
use Rattle.lh_eval.proofs.GivesFit.{part-held}
use Rattle.lh_eval_laws.specs.Operands.{OperationsHave, ProbesHave, DrivesHave}

module _ (a : Arena) (u w : ℕ) (slots : List (Option Held)) (e : Env) (d : Holds a u slots e) (f : Fits (unit_text_at a u) w e) where
  held-fits : (v : ValueId) (x : Held) (t : TypeTree) → v.0 < length slots → slot_at slots v ≡ Some x → value_type (unit_text_at a u) (value_text (naming a u) v) ≡ Some t → FitsHeld w x t
  held-fits v x t l p g = f (value_text (naming a u) v) x t (sym (d.each v l) ∙ p) g

  part-fits : (v : ValueId) (x : Range) (t : TypeTree) → v.0 < length slots → part_in slots v ≡ Some x → value_type (unit_text_at a u) (value_text (naming a u) v) ≡ Some (signal_type t) → IsData t
      × (x.len ≡ bit_count t) × (x.lo + x.len ≤ w)
  part-fits v x t l p g = held-fits v (part_held x) (signal_type t) l (part-held (slot_at slots v) x p) g

  datum-fits : (v : ValueId) (x : Datum) (t : TypeTree) → v.0 < length slots → datum_in slots v ≡ Some x → value_type (unit_text_at a u) (value_text (naming a u) v) ≡ Some t → IsTypeWithinLimits t
      × FitsType x t
  datum-fits v x t l p g = held-fits v (datum_held x) t l (datum-held (slot_at slots v) x p) g

  -- a part, from its lowest bit on, ends below bit 2 ^ 32
  each-part : w < 2 ^ 32 → (os : List Typed) → Each (OperandWithin (sizes a u)) os → Each (λ (o : Typed). PartFits a u slots o.value) os
  each-part few [] l = tt
  each-part few (o ∷ os) l =
      (λ x t p q. let k = part-fits o.value x t (omega (arith, l.0, d.long)) p q in (k.0, omega (arith, k.1, k.2, few)), each-part few os l.1)

  each-in : (os : List Typed) → Each (OperandWithin (sizes a u)) os → Each (λ (o : Typed). o.value.0 < length slots) os
  each-in [] l = tt
  each-in (o ∷ os) l = (omega (arith, l.0, d.long), each-in os l.1)

  -- an operation
  pub operation-has : w < 2 ^ 32 → (o : Op) (args : List Typed) → Each (OperandWithin (sizes a u)) args → RowIs (unit_text_at a u) (pure_text o (map (operand_text (naming a u)) args))
      → HasOperands o (map (operand_text (naming a u)) args) → OperandsFit a u slots o args
  operation-has few o args l row has = record {
    values = λ ds q. fits-row (unit_text_at a u) w e f o (map (operand_text (naming a u)) args) row has ds (sym ((same-held a u slots e d).values args (each-in args l)) ∙ q);
    parts = each-part few args l;
  }

  -- a probe
  pub probe-has : (now : List Bool) → length now ≡ w → (s : Typed) → s.value.0 < length slots → RowIs (unit_text_at a u) (prb_text (operand_text (naming a u) s)) → ProbeFits now slots s
  probe-has now n s l row x t p q =
      let written : s.ty ≡ Some (signal_type row.0) = row.1.0 in
      let g : Some row.0 ≡ Some t = sym (ap (option_and_then carried) written) ∙ q in
      let h : row.0 ≡ t = cc in
      let k = part-fits s.value x row.0 l p row.1.1 in
      (k.1 ∙ ap bit_count h, omega (arith, k.2, n))

  -- a drive of a value to a signal that carries its type
  pub drive-has : w < 2 ^ 32 → (to value : ValueId) (t : TypeTree) → to.0 < length slots → value.0 < length slots → IsOf (unit_text_at a u) (signal_type t) (value_text (naming a u) to)
      → IsOf (unit_text_at a u) t (value_text (naming a u) value) → DriveFits (part_in slots to) (datum_in slots value)
  drive-has few to value t l m p q = by (part_in slots to) (datum_in slots value) refl refl
    where
      by : (x : Option Range) (y : Option Datum) → part_in slots to ≡ x → datum_in slots value ≡ y → DriveFits x y
      by None y g h = tt
      by (Some x) None g h = tt
      by (Some x) (Some y) g h =
          let k = part-fits to x t l g p in
          let n = datum-fits value y t m h q in
          (record { of = t; is_data = k.0; fits = n.1 }, omega (arith, bits_are_counted y t n.1, k.1, k.2, few))

pub operations-have : OperationsHave
operations-have a u w slots e d f few o args l row has = operation-has a u w slots e d f few o args l row has

pub probes-have : ProbesHave
probes-have a u now slots e d f s l row = probe-has a u (length now) slots e d f now refl s l row

pub drives-have : DrivesHave
drives-have a u w slots e d f few to value t l m p q = drive-has a u w slots e d f few to value t l m p q
