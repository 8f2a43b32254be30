use Rattle.std.proofs.Common.{◌≡◌, ◌∙◌, List, length, Result, Ok, Err, IfOk, sym, subst, ap, arith}
use Rattle.lh_unit.specs.declared.inst.Typed.{Typed}
use Rattle.lh_term.specs.declared.term.TermId.{TermId}
use Rattle.lh_term.specs.Arena.{AreIn}
use Rattle.lh_emit.specs.Operations.{HaveValues, AreValues, IsOperandsOn, operands_of}
use Rattle.lh_emit.proofs.GivenLines.{values-length}
use Rattle.lh_emit.proofs.emitter.Emitter.operands_on.Goals as goal

along : {E : Type 0} (P Q : List Typed → Type 0) (r : Result (List Typed) E) → ((x : List Typed) → P x → Q x) → IfOk r P → IfOk r Q
along P Q (Ok x) f h = f x h
along P Q (Err e) f h = h

pub values_of-requires : goal.values_of-requires
values_of-requires c = subst (HaveValues c.args.self.now.values) (sym c.as_slice.ensures) c.requires.have

pub operands-requires-clause-within : goal.operands-requires-clause-within
operands-requires-clause-within c = subst (AreIn c.args.terms.now) (sym c.as_slice-2.ensures) c.requires.within

pub operands-requires-clause-long : goal.operands-requires-clause-long
operands-requires-clause-long c =
    ap length c.as_slice-3.ensures ∙ values-length c.args.self.now.values c.as_slice.result.now c.in_ok-values.values c.in_ok-values.ensures
    ∙ ap length (c.as_slice.ensures ∙ sym c.as_slice-2.ensures)

pub returns : goal.returns
returns c =
    along _ _ c.operands.result
    (λ x h. record {
      given = c.in_ok-values.values;
      values = subst (λ xs. AreValues c.args.self.now.values xs c.in_ok-values.values) c.as_slice.ensures c.in_ok-values.ensures;
      are = h ∙ (λ i. operands_of c.args.terms.now c.args.op.now (c.as_slice-2.ensures i) (c.ty.ensures i) (c.as_slice-3.ensures i));
    })
    c.operands.ensures
