-- The numbers of the types of parameters, one argument or one unit more.
use Rattle.std.proofs.Common.{◌≡◌, ℕ, ◌+◌, ◌<◌, ◌≤◌, List, [], ◌∷◌, ◌++◌, length, get_or, take, Some, slice_get, ap, sym, ◌∙◌, subst, length-append, inl, inr}
use Rattle.lh_types.specs.Types.{TypeTree}
use Rattle.lh_types.proofs.Lists.{push_cases}
use Rattle.lh_unit.specs.Arena.{Arena, args_at}
use Rattle.lh_unit.specs.declared.inst.Arg.{Arg}
use Rattle.lh_verify_values.specs.Numbers.{NumbersGrow, AreNumbersOf}
use Rattle.lh_verify_values.proofs.TypeNumbers.{numbers-grow, numbers-push}
use Rattle.lh_verify_values.proofs.KnowingSteps.{take-item, take-all}

-- no argument
pub numbers-none : (types : List TypeTree) (args : List Arg) (numbers : List ℕ) → numbers ≡ [] → AreNumbersOf types (take 0 args) numbers
numbers-none types [] numbers e k a g = cc
numbers-none types (x ∷ xs) numbers e k a g = cc

pub long-none : (args : List Arg) (numbers : List ℕ) → numbers ≡ [] → length numbers ≡ length (take 0 args)
long-none [] numbers e = ap length e
long-none (x ∷ xs) numbers e = ap length e

-- one argument more
pub numbers-next : (old new : List TypeTree) (args : List Arg) (list more : List ℕ) (i : ℕ) (x : Arg) (n : ℕ) → i < length args → x ≡ get_or args i x → length list ≡ length (take i args)
    → AreNumbersOf old (take i args) list → NumbersGrow old new → slice_get new n ≡ Some x.ty → more ≡ list ++ n ∷ [] → AreNumbersOf new (take (i + 1) args) more
numbers-next old new args list more i x n h e l a g is w =
    let P : List Arg → Type 0 = λ xs. AreNumbersOf new xs (list ++ n ∷ []) in
    let Q : List ℕ → Type 0 = λ ns. AreNumbersOf new (take (i + 1) args) ns in
    subst Q (sym w) (subst P (take-item args i x h e) (numbers-push new (take i args) list x n l (numbers-grow old new (take i args) list g a) is))

pub long-next : (args : List Arg) (list more : List ℕ) (i : ℕ) (x : Arg) (n : ℕ) → i < length args → x ≡ get_or args i x → length list ≡ length (take i args) → more ≡ list ++ n ∷ []
    → length more ≡ length (take (i + 1) args)
long-next args list more i x n h e l w =
    ap length w ∙ length-append list (n ∷ []) ∙ ap (λ k. k + 1) l ∙ sym (length-append (take i args) (x ∷ [])) ∙ ap length (take-item args i x h e)

pub numbers-all : (types : List TypeTree) (args : List Arg) (list : List ℕ) (i : ℕ) → length args ≤ i → AreNumbersOf types (take i args) list → AreNumbersOf types args list
numbers-all types args list i h a = let P : List Arg → Type 0 = λ xs. AreNumbersOf types xs list in subst P (take-all args i h) a

-- no unit
pub params-none : (types : List TypeTree) (a : Arena) (params : List (List ℕ)) → params ≡ [] → (u : ℕ) (ns : List ℕ) → slice_get params u ≡ Some ns → AreNumbersOf types (args_at a u) ns
params-none types a params e u ns g = absurd (none params e u g)
  where
    none : (l : List (List ℕ)) → l ≡ [] → (v : ℕ) → slice_get l v ≡ Some ns → ⊥
    none [] p v q = cc
    none (x ∷ xs) p v q = cc

-- the numbers of the arguments of one more unit
pub params-long : (old new : List (List ℕ)) (ns : List ℕ) (n : ℕ) → length old ≡ n → new ≡ old ++ ns ∷ [] → length new ≡ n + 1
params-long old new ns n l e = ap length e ∙ length-append old (ns ∷ []) ∙ ap (λ k. k + 1) l

pub params-push : {args : List Arg} → (old new : List TypeTree) (a : Arena) (params more : List (List ℕ)) (ns : List ℕ) (u : ℕ) → length params ≡ u → more ≡ params ++ ns ∷ []
    → ((v : ℕ) (ms : List ℕ) → slice_get params v ≡ Some ms → AreNumbersOf old (args_at a v) ms) → NumbersGrow old new → args ≡ args_at a u → AreNumbersOf new args ns → (v : ℕ) (ms : List ℕ)
    → slice_get more v ≡ Some ms → AreNumbersOf new (args_at a v) ms
params-push {args} old new a params more ns u l e known g is has v ms h = elim (push_cases params ns ms v (ap (λ p. slice_get p v) (sym e) ∙ h)) [
  | inl p ↦ numbers-grow old new (args_at a v) ms g (known v ms p)
  | inr p ↦
      let w : args ≡ args_at a v = is ∙ ap (args_at a) (sym l ∙ sym p.0) in
      let P : List Arg → Type 0 = λ xs. AreNumbersOf new xs ns in
      let Q : List ℕ → Type 0 = λ m. AreNumbersOf new (args_at a v) m in
      subst Q p.1 (subst P w has)
]
