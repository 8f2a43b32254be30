-- There is one answer.
use Rattle.std.proofs.Common.{◌+◌, refl, sym, ap, ◌∙◌, Some, None}
use Rattle.std.proofs.lemmas.Option.{same_Some, none-some}
use Rattle.lh_types.proofs.Tests.{not_both}
use Rattle.lh_cert_def.specs.Headers.{same_header, is_replaced}
use Rattle.lh_cert_def.specs.Causes.{other_header, kept, changed, replaced, none_left, only_first, only_second, here, later}
use Rattle.lh_cert_def.specs.Laws.{OneCause, OneFirstCause}
use Rattle.lh_cert_def.specs.declared.cause.Cause.{Cause}

pub one-cause : OneCause
one-cause items x y a b (other_header h) (other_header g) = refl
one-cause items x y a b (other_header h) (kept g r e) = absurd (not_both (same_header x y) g h)
one-cause items x y a b (other_header h) (changed g r e) = absurd (not_both (same_header x y) g h)
one-cause items x y a b (other_header h) (replaced c g r e) = absurd (not_both (same_header x y) g h)
one-cause items x y a b (kept h r e) (other_header g) = absurd (not_both (same_header x y) h g)
one-cause items x y a b (kept h r e) (kept g s f) = refl
one-cause items x y a b (kept h r e) (changed g s f) = absurd (f e)
one-cause items x y a b (kept h r e) (replaced c g s f) = absurd (not_both (is_replaced x y) s r)
one-cause items x y a b (changed h r e) (other_header g) = absurd (not_both (same_header x y) h g)
one-cause items x y a b (changed h r e) (kept g s f) = absurd (e f)
one-cause items x y a b (changed h r e) (changed g s f) = refl
one-cause items x y a b (changed h r e) (replaced c g s f) = absurd (not_both (is_replaced x y) s r)
one-cause items x y a b (replaced c h r e) (other_header g) = absurd (not_both (same_header x y) h g)
one-cause items x y a b (replaced c h r e) (kept g s f) = absurd (not_both (is_replaced x y) r s)
one-cause items x y a b (replaced c h r e) (changed g s f) = absurd (not_both (is_replaced x y) r s)
one-cause items x y a b (replaced c h r e) (replaced d g s f) = sym e ∙ f

pub one-first-cause : OneFirstCause
one-first-cause items k xs ys a b (none_left n) (none_left m) = refl
one-first-cause items k xs ys a b (only_first n x more) (only_first m y others) = refl
one-first-cause items k xs ys a b (only_second n x more) (only_second m y others) = refl
one-first-cause items k xs ys a b (here n x y more others c p) (here m z w rest last d q) = ap (λ (o : Cause). Some (k, o)) (same_Some c d (one-cause items x y (Some c) (Some d) p q))
one-first-cause items k xs ys a b (here n x y more others c p) (later m z w rest last d q f) = absurd (none-some c (one-cause items x y None (Some c) q p))
one-first-cause items k xs ys a b (later n x y more others c p f) (here m z w rest last d q) = absurd (none-some d (one-cause items x y None (Some d) p q))
one-first-cause items k xs ys a b (later n x y more others c p f) (later m z w rest last d q g) = one-first-cause items (k + 1) more others a b f g
