use Rattle.std.proofs.Common.{◌≡◌, ◌∙◌, ap, sym, subst, false}
use Rattle.lh_types.specs.Types.{int_type}
use Rattle.lh_emit.specs.Parts.{part_in}
use Rattle.lh_emit.specs.Underway.{CanTakePart, IsNewPart, TakesPartOr}
use Rattle.lh_emit.proofs.PartNeeds.{part-in-args, takes-whole, takes-known, part-no-memory, new-part}
use Rattle.lh_emit.proofs.emitter.Emitter.take_part.Goals as goal

pub is_whole-requires : goal.is_whole-requires
is_whole-requires c = part-in-args c.args.terms.now c.args.origin.now c.args.self.now c.args.part.now c.args-2.result.now (record { value = record { 0 = 0 }; ty = int_type 1; output = false })
    c.requires c.args-2.ensures

pub returns-then-is_whole : goal.returns-then-is_whole
returns-then-is_whole c = takes-whole c.args.terms.now c.args.origin.now c.args.self.now c.args.part.now c.args-2.result.now c.is_whole.result c.args-2.ensures c.is_whole.ensures c.if-is_whole.true

pub returns-in-Some : goal.returns-in-Some
returns-in-Some c =
    takes-known c.args.terms.now c.args.origin.now c.args.self.now c.args.part.now c.args-2.result.now c.is_whole.result c.in-Some.value c.args-2.ensures c.is_whole.ensures c.if-is_whole.false
    (ap (part_in c.args.self.now.parts) (sym c.in_ok-key.ensures) ∙ sym c.get.ensures ∙ c.in-Some.is)

pub returns-in_err-key : goal.returns-in_err-key
returns-in_err-key c = part-no-memory c.args.terms.now c.args.origin.now c.args.self.now c.args.part.now c.args.self.now c.from_residual.result c.from_residual.ensures.1

pub new_part-requires-clause-can : goal.new_part-requires-clause-can
new_part-requires-clause-can c = subst (CanTakePart c.args.terms.now c.args.origin.now c.args.self.now) (sym c.in_ok-key.ensures) c.requires

pub new_part-requires-clause-new : goal.new_part-requires-clause-new
new_part-requires-clause-new c =
    subst (IsNewPart c.args.origin.now c.args.self.now) (sym c.in_ok-key.ensures)
    (new-part c.args.origin.now c.args.self.now c.args.part.now c.args-2.result.now c.is_whole.result c.args-2.ensures c.is_whole.ensures c.if-is_whole.false
    (ap (part_in c.args.self.now.parts) (sym c.in_ok-key.ensures) ∙ sym c.get.ensures ∙ c.in-None.is))

pub returns-in-None : goal.returns-in-None
returns-in-None c = subst (λ p. TakesPartOr c.args.terms.now c.args.origin.now c.args.self.now p c.new_part.new.self c.new_part.result) c.in_ok-key.ensures c.new_part.ensures
