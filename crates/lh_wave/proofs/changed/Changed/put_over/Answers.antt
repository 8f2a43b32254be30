use Rattle.std.proofs.Common.{inl, inr, sym, subst}
use Rattle.std.specs.Prelude.{Contains}
use Rattle.lh_wave.proofs.changed.Changed.put_over.Goals as goal

pub put_new-requires-clause-listed : goal.put_new-requires-clause-listed
put_new-requires-clause-listed c = λ k. elim (c.requires.listed k) [
  | inl x ↦ inl (subst (λ ks. Contains ks k) (sym c.deref.ensures.value) (c.in_ok-sort_numbers.ensures.listed k x))
  | inr n ↦ inr n
]
