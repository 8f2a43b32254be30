use Rattle.std.proofs.Common.{◌≡◌, ◌<◌, length, map, Some, None, ap, sym, ◌∙◌}
use Rattle.std.specs.Option.{option_map}
use Rattle.lh_types.specs.ValueOf.{datum_of}
use Rattle.lh_types.specs.Apply.{apply}
use Rattle.lh_unit.specs.Arena.{naming, unit_text_at}
use Rattle.lh_unit.specs.Held.{data_at}
use Rattle.lh_unit.specs.Naming.{operand_text}
use Rattle.lh_unit.specs.Within.{Each}
use Rattle.lh_unit.specs.declared.inst.Typed.{Typed}
use Rattle.lh_eval.specs.Holding.{data_in}
use Rattle.lh_eval.proofs.HeldByIds.{same-held}
use Rattle.lh_eval.proofs.PartsRead.{of-applied, of-not_applied}
use Rattle.lh_eval.proofs.operate.operate.Goals as goal

pub returns-in-Some : goal.returns-in-Some
returns-in-Some c = λ e h.
    let os = map (operand_text (naming c.args.m.now c.args.unit.0)) c.args.args.now in
    let w : Each (λ (o : Typed). o.value.0 < length c.args.slots.now) c.args.args.now = rw c.requires.slots c.requires.args in
    let p : data_at e os ≡ data_in c.args.slots.now c.args.args.now = sym ((same-held c.args.m.now c.args.unit.0 c.args.slots.now e h).values c.args.args.now w) in
    let q : Some (datum_of c.in-Some.value) ≡ option_map (apply c.args.op.now) (data_in c.args.slots.now c.args.args.now) = sym (ap (option_map datum_of) c.in-Some.is) ∙ c.in_ok-value.ensures in
    sym (of-applied (unit_text_at c.args.m.now c.args.unit.0) e c.args.op.now os (data_in c.args.slots.now c.args.args.now) (datum_of c.in-Some.value) p q)

pub returns-in-None : goal.returns-in-None
returns-in-None c = λ e h.
    let os = map (operand_text (naming c.args.m.now c.args.unit.0)) c.args.args.now in
    let w : Each (λ (o : Typed). o.value.0 < length c.args.slots.now) c.args.args.now = rw c.requires.slots c.requires.args in
    let p : data_at e os ≡ data_in c.args.slots.now c.args.args.now = sym ((same-held c.args.m.now c.args.unit.0 c.args.slots.now e h).values c.args.args.now w) in
    let q : None ≡ option_map (apply c.args.op.now) (data_in c.args.slots.now c.args.args.now) = sym (ap (option_map datum_of) c.in_default.is) ∙ c.in_ok-value.ensures in
    c.in-None.ensures e h ∙ sym (of-not_applied (unit_text_at c.args.m.now c.args.unit.0) e c.args.op.now os (data_in c.args.slots.now c.args.args.now) p q)
