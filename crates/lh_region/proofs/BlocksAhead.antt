-- As many blocks as there are, with no edge to one of them.
use Rattle.std.proofs.Common.{◌≡◌, ℕ, zero, suc, List, [], ◌∷◌, ◌++◌, length, refl, ap, sym, ◌∙◌}
use Rattle.lh_region_joins.specs.declared.edge.Edge.{Edge}
use Rattle.lh_region.specs.Ahead.{led_to, LeadsNowhere}

pub nowhere-first : LeadsNowhere 0 []
nowhere-first = record { long = refl; none = λ b. refl }

nowhere-push : (led : List (List Edge)) → ((b : ℕ) → led_to led b ≡ []) → (b : ℕ) → led_to (led ++ [] ∷ []) b ≡ []
nowhere-push [] h zero = refl
nowhere-push [] h (suc b) = refl
nowhere-push (x ∷ led) h zero = h 0
nowhere-push (x ∷ led) h (suc b) = nowhere-push led (λ c. h (suc c)) b

push-length : (led : List (List Edge)) (es : List Edge) → length (led ++ es ∷ []) ≡ suc (length led)
push-length [] es = refl
push-length (x ∷ led) es = ap suc (push-length led es)

pub nowhere-next : (n m : ℕ) (led new : List (List Edge)) (es : List Edge) → es ≡ [] → new ≡ led ++ es ∷ [] → m ≡ suc n → LeadsNowhere n led → LeadsNowhere m new
nowhere-next n m led new es e f k h = record {
  long = ap length f ∙ push-length led es ∙ ap suc h.long ∙ sym k;
  none = λ b. ap (λ (xs : List (List Edge)). led_to xs b) (f ∙ ap (λ (x : List Edge). led ++ x ∷ []) e) ∙ nowhere-push led h.none b;
}
