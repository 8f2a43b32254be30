-- The titles that words give, read one after the other.
use Rattle.std.proofs.Common.{◌≡◌, ℕ, List, [], ◌∷◌, ◌++◌, refl, ap, sym, ◌∙◌, cond, Bool, true, false, ◌||◌}
use Rattle.std.specs.Prelude.{codes}
use Rattle.std.specs.Str.{bytes_eq}
use Rattle.std.specs.List.{flat_map}
use Rattle.std.specs.Cmp.Lexicographic.{same_text}
use Rattle.lh_args.specs.Forms.{Choice, top, steps, vcd, watch, spelled, titles_in}
use Rattle.lh_args.specs.Meant.{titles_from, at_option, at_value, at_title}

pub titles_in-append : (xs ys : List Choice) → titles_in (xs ++ ys) ≡ titles_in xs ++ titles_in ys
titles_in-append [] ys = refl
titles_in-append (top n ∷ xs) ys = titles_in-append xs ys
titles_in-append (steps n ∷ xs) ys = titles_in-append xs ys
titles_in-append (vcd ∷ xs) ys = titles_in-append xs ys
titles_in-append (watch t ∷ xs) ys = ap (λ l. t ∷ l) (titles_in-append xs ys)

pub titles_behind : (c : Choice) (more : List (List ℕ)) → titles_from at_option (spelled c ++ more) ≡ titles_in (c ∷ []) ++ titles_from at_option more
titles_behind (top n) more = refl
titles_behind (steps n) more = refl
titles_behind vcd more = refl
titles_behind (watch t) more = refl

pub titles_written : (all : List Choice) → titles_from at_option (flat_map spelled all) ≡ titles_in all
titles_written [] = refl
titles_written (c ∷ all) = titles_behind c (flat_map spelled all) ∙ ap (λ l. titles_in (c ∷ []) ++ l) (titles_written all) ∙ sym (titles_in-append (c ∷ []) all)

-- words that are no option give no title
no_title_test : (w v : List ℕ) (ws : List (List ℕ)) (a b d : Bool) → (a ≡ true → ⊥) → (b ≡ true → ⊥) → (d ≡ true → ⊥)
    → cond a (titles_from at_title (v ∷ ws)) (cond b (titles_from at_option (v ∷ ws)) (cond d (titles_from at_value (v ∷ ws)) [])) ≡ []
no_title_test w v ws true b d na nb nd = absurd (na refl)
no_title_test w v ws false true d na nb nd = absurd (nb refl)
no_title_test w v ws false false true na nb nd = absurd (nd refl)
no_title_test w v ws false false false na nb nd = refl

no_title_last : (w : List ℕ) (a b d : Bool) → cond a (titles_from at_title []) (cond b (titles_from at_option []) (cond d (titles_from at_value []) [])) ≡ []
no_title_last w true b d = refl
no_title_last w false true d = refl
no_title_last w false false true = refl
no_title_last w false false false = refl

either_by : (w s t : List ℕ) (a b : Bool) → bytes_eq w s ≡ a → bytes_eq w t ≡ b → (a || b) ≡ true → (w ≡ s → ⊥) → (w ≡ t → ⊥) → ⊥
either_by w s t true b p q e no_s no_t = no_s (same_text w s (sym p))
either_by w s t false true p q e no_s no_t = no_t (same_text w t (sym q))
either_by w s t false false p q e no_s no_t = cc

either_is : (w s t : List ℕ) → (bytes_eq w s || bytes_eq w t) ≡ true → (w ≡ s → ⊥) → (w ≡ t → ⊥) → ⊥
either_is w s t e no_s no_t = either_by w s t (bytes_eq w s) (bytes_eq w t) refl refl e no_s no_t

pub no_titles : (words : List (List ℕ)) → ((c : Choice) (more : List (List ℕ)) → words ≡ spelled c ++ more → ⊥) → titles_from at_option words ≡ []
no_titles [] none = refl
no_titles (w ∷ []) none = no_title_last w (bytes_eq w (codes "--watch")) (bytes_eq w (codes "--vcd")) (bytes_eq w (codes "--top") || bytes_eq w (codes "--steps"))
no_titles (w ∷ v ∷ ws) none =
    no_title_test w v ws (bytes_eq w (codes "--watch")) (bytes_eq w (codes "--vcd")) (bytes_eq w (codes "--top") || bytes_eq w (codes "--steps"))
    (λ e. none (watch v) ws (ap (λ x. x ∷ v ∷ ws) (same_text w (codes "--watch") (sym e))))
    (λ e. none vcd (v ∷ ws) (ap (λ x. x ∷ v ∷ ws) (same_text w (codes "--vcd") (sym e))))
    (λ e. either_is w (codes "--top") (codes "--steps") e
    (λ is. none (top v) ws (ap (λ x. x ∷ v ∷ ws) is))
    (λ is. none (steps v) ws (ap (λ x. x ∷ v ∷ ws) is)))
