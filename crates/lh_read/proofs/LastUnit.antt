-- The last item of a file, changed and changed again.
use Rattle.std.proofs.Common.{◌≡◌, ℕ, false, ◌||◌, List, [], ◌∷◌, ◌++◌, Option, Some, None, IsSomeAnd, refl, ap, sym, ◌∙◌, subst, append_assoc, append-nil}
use Rattle.std.proofs.Math.Bool.{or_assoc, or-false}
use Rattle.lh_unit.specs.Contents.{ArgText, UnitText, ItemText, unit_text, declare_text, change_last, last_unit, with_arg, args_define, blocks_define, defines_value}
use Rattle.lh_unit.specs.Reads.{args_repeat}
use Rattle.lh_read.specs.Building.{with_args, args_again}
use Rattle.lh_unit.proofs.ContentsLemmas.{change_last-push}

-- the last unit and what stands before it
last_unit-split : (xs : List ItemText) (t : UnitText) → last_unit xs ≡ Some t → (before : List ItemText) × (xs ≡ before ++ unit_text t ∷ [])
last_unit-split [] t e = cc
last_unit-split (unit_text u ∷ []) t e = let g : u ≡ t = cc in ([], ap (λ x. unit_text x ∷ []) g)
last_unit-split (declare_text d ∷ []) t e = cc
last_unit-split (unit_text u ∷ i ∷ more) t e = let s = last_unit-split (i ∷ more) t e in (unit_text u ∷ s.0, ap (λ l. unit_text u ∷ l) s.1)
last_unit-split (declare_text d ∷ i ∷ more) t e = let s = last_unit-split (i ∷ more) t e in (declare_text d ∷ s.0, ap (λ l. declare_text d ∷ l) s.1)

-- two changes are one
pub change_last-twice : (f g h : UnitText → UnitText) (xs : List ItemText) (t : UnitText) → last_unit xs ≡ Some t → g (f t) ≡ h t → change_last g (change_last f xs) ≡ change_last h xs
change_last-twice f g h xs t e k = let s = last_unit-split xs t e in
    ap (λ l. change_last g (change_last f l)) s.1 ∙ ap (change_last g) (change_last-push f s.0 t) ∙ change_last-push g s.0 (f t)
    ∙ ap (λ x. s.0 ++ unit_text x ∷ []) k ∙ sym (change_last-push h s.0 t) ∙ ap (change_last h) (sym s.1)

-- no change at all
pub change_last-none : (f : UnitText → UnitText) (xs : List ItemText) (t : UnitText) → last_unit xs ≡ Some t → f t ≡ t → change_last f xs ≡ xs
change_last-none f xs t e k = let s = last_unit-split xs t e in
    ap (change_last f) s.1 ∙ change_last-push f s.0 t ∙ ap (λ x. s.0 ++ unit_text x ∷ []) k ∙ sym s.1

-- what holds of the last unit
pub last_unit-is : {P : UnitText → Type 0} (o : Option UnitText) → IsSomeAnd o P → (t : UnitText) × (o ≡ Some t) × P t
last_unit-is None w = absurd w
last_unit-is (Some t) w = (t, refl, w)

pub last_unit-has : (P : UnitText → Type 0) (o : Option UnitText) (t : UnitText) → o ≡ Some t → P t → IsSomeAnd o P
last_unit-has P o t e w = subst (λ x. IsSomeAnd x P) (sym e) w

-- arguments, one after another
pub with_args-none : (t : UnitText) → with_args [] t ≡ t
with_args-none t = λ i. record t { args = append-nil t.args i }

pub with_args-push : (xs : List ArgText) (a : ArgText) (t : UnitText) → with_arg a (with_args xs t) ≡ with_args (xs ++ a ∷ []) t
with_args-push xs a t = λ i. record t { args = append_assoc t.args xs (a ∷ []) i }

pub with_args-both : (xs ys : List ArgText) (t : UnitText) → with_args ys (with_args xs t) ≡ with_args (xs ++ ys) t
with_args-both xs ys t = λ i. record t { args = append_assoc t.args xs ys i }

with_args-cons : (a : ArgText) (xs : List ArgText) (t : UnitText) → with_args xs (with_arg a t) ≡ with_args (a ∷ xs) t
with_args-cons a xs t = λ i. record t { args = append_assoc t.args (a ∷ []) xs i }

pub args_again-both : (xs ys : List ArgText) (t : UnitText) → args_again t (xs ++ ys) ≡ (args_again t xs || args_again (with_args xs t) ys)
args_again-both [] ys t = ap (λ u. args_again u ys) (sym (with_args-none t))
args_again-both (a ∷ xs) ys t =
    ap (λ b. defines_value a.name t || b) (args_again-both xs ys (with_arg a t) ∙ ap (λ u. args_again (with_arg a t) xs || args_again u ys) (with_args-cons a xs t))
    ∙ sym (or_assoc (defines_value a.name t) (args_again (with_arg a t) xs) (args_again (with_args (a ∷ xs) t) ys))

pub args_again-push : (xs : List ArgText) (a : ArgText) (t : UnitText) → args_again t (xs ++ a ∷ []) ≡ (args_again t xs || defines_value a.name (with_args xs t))
args_again-push xs a t = args_again-both xs (a ∷ []) t ∙ ap (λ b. args_again t xs || b) (or-false (defines_value a.name (with_args xs t)))

-- in a unit without instructions only the arguments define values
pub args_again-repeat : (xs : List ArgText) (t : UnitText) → ((n : List ℕ) → blocks_define n t.blocks ≡ false) → args_again t xs ≡ args_repeat t.args xs
args_again-repeat [] t h = refl
args_again-repeat (a ∷ xs) t h =
    let e : defines_value a.name t ≡ args_define a.name t.args = ap (λ b. args_define a.name t.args || b) (h a.name) ∙ or-false (args_define a.name t.args) in
    ap (λ b. b || args_again (with_arg a t) xs) e ∙ ap (λ b. args_define a.name t.args || b) (args_again-repeat xs (with_arg a t) h)
