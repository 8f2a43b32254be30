use Rattle.std.proofs.Common.{◌≡◌, ◌+◌, ◌-◌, suc, true, ap, sym, ◌∙◌, arith}
use Rattle.lh_emit_def.specs.Names.{value_name, free_number}
use Rattle.lh_emit_body.specs.Fresh.{is_among}
use Rattle.lh_emit_body.proofs.TakenNames.{seeks-next, seeks-none, seeks-end}
use Rattle.lh_emit_body.proofs.names.Fresh.name.Goals as goal
use Rattle.lh_emit_body.proofs.names.Fresh.name.Goals.{then-loop-tries-test+else-is_taken, else-loop-tries-test}

pub loop-tries-preserved : goal.loop-tries-preserved
loop-tries-preserved c =
    let t : is_among c.args.self.now.taken.keys (value_name c.loop-tries.number) ≡ true =
    ap (is_among c.args.self.now.taken.keys) (sym c.loop-tries.invariant.name) ∙ sym c.is_taken.ensures ∙ c.if-is_taken.true in
    let e : c.loop-tries.tries ≡ suc (c.loop-tries.tries - 1) = omega (arith, c.loop-tries-test.true) in
    record {
      name = c.in_ok-name-2.ensures;
      sum = omega (arith, c.loop-tries-test.true, c.loop-tries.invariant.sum);
      seeks = seeks-next c.args.self.now c.loop-tries.tries (c.loop-tries.tries - 1) c.loop-tries.number e t c.loop-tries.invariant.seeks;
    }

pub returns-clause-name : goal.returns-clause-name
returns-clause-name c args h =
    let n : c.loop-tries.number ≡ free_number args c.args.self.now.next = elim c.loop-tries-test.branch [
      | then-loop-tries-test+else-is_taken w ↦ seeks-end c.args.self.now c.loop-tries.tries c.loop-tries.number
          (ap (is_among c.args.self.now.taken.keys) (sym c.loop-tries.invariant.name) ∙ sym w.is_taken.ensures ∙ w.if-is_taken.false) c.loop-tries.invariant.seeks args h
      | else-loop-tries-test w ↦ seeks-none c.args.self.now c.loop-tries.tries c.loop-tries.number (omega (arith, w.loop-tries-test.false)) c.loop-tries.invariant.seeks args h
    ] in
    c.loop-tries.invariant.name ∙ ap value_name n

pub returns-clause-next : goal.returns-clause-next
returns-clause-next c args h =
    let n : c.loop-tries.number ≡ free_number args c.args.self.now.next = elim c.loop-tries-test.branch [
      | then-loop-tries-test+else-is_taken w ↦ seeks-end c.args.self.now c.loop-tries.tries c.loop-tries.number
          (ap (is_among c.args.self.now.taken.keys) (sym c.loop-tries.invariant.name) ∙ sym w.is_taken.ensures ∙ w.if-is_taken.false) c.loop-tries.invariant.seeks args h
      | else-loop-tries-test w ↦ seeks-none c.args.self.now c.loop-tries.tries c.loop-tries.number (omega (arith, w.loop-tries-test.false)) c.loop-tries.invariant.seeks args h
    ] in
    ap (λ k. k + 1) n
