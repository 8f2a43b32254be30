-- The steps of values, as values are taken from the end.
use Rattle.std.proofs.Common.{◌≡◌, ℕ, List, [], ◌∷◌, ◌++◌, Option, ap, sym, ◌∙◌, subst, append_assoc, append-nil}
use Rattle.lh_types.specs.Types.{TypeTree}
use Rattle.lh_types.specs.declared.op.Op.{Op}
use Rattle.lh_unit.specs.declared.inst.ValueId.{ValueId}
use Rattle.lh_flat_parts.specs.declared.step.PartStep.{PartStep}
use Rattle.lh_flat_parts.specs.Steps.{step_at}
use Rattle.lh_emit_source.specs.Firsts.{step_texts, texts_along}
use Rattle.lh_flat.specs.Below.{ValuesBelow}

along-push : (steps : List (Option PartStep)) (way : List ValueId) (v : ValueId) → texts_along steps (way ++ v ∷ []) ≡ step_texts (step_at steps v.0) ++ texts_along steps way
along-push steps [] v = sym (append-nil (step_texts (step_at steps v.0)))
along-push steps (w ∷ way) v = ap (λ (x : List (Op × TypeTree)). x ++ step_texts (step_at steps w.0)) (along-push steps way v)
    ∙ append_assoc (step_texts (step_at steps v.0)) (texts_along steps way) (step_texts (step_at steps w.0))

values-front : (n : ℕ) (vs : List ValueId) (v : ValueId) → ValuesBelow n (vs ++ v ∷ []) → ValuesBelow n vs
values-front n [] v h = tt
values-front n (w ∷ vs) v h = (h.0, values-front n vs v h.1)

pub record GoesForth (n : ℕ) (steps : List (Option PartStep)) (now : List ValueId) (new all : List (Op × TypeTree)) : Type 0 where
  pub within : ValuesBelow n now
  pub texts : new ++ texts_along steps now ≡ all

pub forth-next : (n : ℕ) (steps : List (Option PartStep)) (way now : List ValueId) (v : ValueId) (old new all : List (Op × TypeTree)) → way ≡ now ++ v ∷ [] → ValuesBelow n way
    → old ++ texts_along steps way ≡ all → new ≡ old ++ step_texts (step_at steps v.0) → GoesForth n steps now new all
forth-next n steps way now v old new all e w a b = record {
  within = values-front n now v (subst (ValuesBelow n) e w);
  texts =
      ap (λ (x : List (Op × TypeTree)). x ++ texts_along steps now) b
      ∙ append_assoc old (step_texts (step_at steps v.0)) (texts_along steps now)
      ∙ sym (ap (λ (x : List (Op × TypeTree)). old ++ x) (ap (texts_along steps) e ∙ along-push steps now v))
      ∙ a;
}
