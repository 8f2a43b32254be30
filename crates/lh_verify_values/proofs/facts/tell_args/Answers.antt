use Rattle.std.proofs.Common.{◌≡◌, ℕ, ◌+◌, ◌++◌, ◌∷◌, [], List, length, take, subst, sym, arith}
use Rattle.lh_unit.specs.declared.inst.Arg.{Arg}
use Rattle.lh_verify_values.specs.FactsOfUnit.{FactsAfter, Marks}
use Rattle.lh_verify_values.proofs.KnowingSteps.{take-item, take-all}
use Rattle.lh_unit.proofs.PlacedIds.{args-item}
use Rattle.lh_verify_values.proofs.facts.tell_args.Goals as goal

pub tell_arg_at-requires-clause-within : goal.tell_arg_at-requires-clause-within
tell_arg_at-requires-clause-within c = omega (
  arith,
  args-item (length c.args.facts.now) c.args.args.now c.loop-arg.arg-index c.arg-item.result c.requires.within c.loop-arg-test.true c.arg-item.is,
  c.loop-arg.auto.facts,
)

pub loop-arg-preserved : goal.loop-arg-preserved
loop-arg-preserved c =
    let e : length c.loop-arg.facts ≡ length c.args.facts.now = omega (arith, c.loop-arg.auto.facts) in
    let x = c.arg-item.result in
    let t : take c.loop-arg.arg-index c.args.args.now ++ x ∷ [] ≡ take (c.loop-arg.arg-index + 1) c.args.args.now =
    take-item c.args.args.now c.loop-arg.arg-index x c.loop-arg-test.true c.arg-item.is in
    let M : List Arg → ℕ → Type 0 = λ l n. Marks l n c.tell_arg_at.new.seen in
    let m : Marks (take c.loop-arg.arg-index c.args.args.now) (length c.loop-arg.facts) c.loop-arg.seen = subst (λ (n : ℕ). Marks (take c.loop-arg.arg-index c.args.args.now) n c.loop-arg.seen) (sym e)
    c.loop-arg.invariant.marks in
    record {
      marks = subst (λ l. M l (length c.args.facts.now)) t
          (subst (λ n. M (take c.loop-arg.arg-index c.args.args.now ++ x ∷ []) n) e (c.in_ok-tell_arg_at.ensures.marks (take c.loop-arg.arg-index c.args.args.now) m));
      knows = λ f lines k.
          let K : List Arg → ℕ → Type 0 = λ l n. FactsAfter c.tell_arg_at.new.types n f l lines c.tell_arg_at.new.facts in
          let old : FactsAfter c.loop-arg.types (length c.loop-arg.facts) f (take c.loop-arg.arg-index c.args.args.now) lines c.loop-arg.facts = subst
          (λ (n : ℕ). FactsAfter c.loop-arg.types n f (take c.loop-arg.arg-index c.args.args.now) lines c.loop-arg.facts) (sym e) (c.loop-arg.invariant.knows f lines k) in
          subst (λ l. K l (length c.args.facts.now)) t
          (subst (λ n. K (take c.loop-arg.arg-index c.args.args.now ++ x ∷ []) n) e (c.in_ok-tell_arg_at.ensures.facts f (take c.loop-arg.arg-index c.args.args.now) lines m old));
      grows = λ n t g. c.in_ok-tell_arg_at.ensures.grows n t (c.loop-arg.invariant.grows n t g);
    }

pub returns-clause-facts : goal.returns-clause-facts
returns-clause-facts c = λ f lines k. subst (λ (l : List Arg). FactsAfter c.loop-arg.types (length c.args.facts.now) f l lines c.loop-arg.facts)
    (take-all c.args.args.now c.loop-arg.arg-index c.loop-arg-test.false) (c.loop-arg.invariant.knows f lines k)
