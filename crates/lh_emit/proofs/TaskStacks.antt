-- Tasks on a stack, the last one on top.
use Rattle.std.proofs.Common.{◌≡◌, ℕ, zero, suc, ◌+◌, ◌-◌, ◌<◌, ◌≤◌, List, [], ◌∷◌, ◌++◌, length, map, drop, get_or, refl, ap, sym, ◌∙◌, arith, add-one, drop-cons}
use Rattle.lh_term.specs.declared.term.TermId.{TermId}
use Rattle.lh_emit.specs.Underway.{tops}
use Rattle.lh_emit.specs.declared.tasks.Task.{Task}
use Rattle.lh_emit.specs.declared.tasks.Task.TheVariants.{Need}

pub tops-push : (xs : List Task) (x : Task) → tops (xs ++ x ∷ []) ≡ x ∷ tops xs
tops-push [] x = refl
tops-push (y ∷ xs) x = ap (λ ys. ys ++ y ∷ []) (tops-push xs x)

pub pushed : (all xs : List Task) (x : Task) → all ≡ xs ++ x ∷ [] → tops all ≡ x ∷ tops xs
pushed all xs x e = ap tops e ∙ tops-push xs x

past-end : (xs : List TermId) (k : ℕ) → length xs ≤ k → drop k xs ≡ []
past-end [] zero l = refl
past-end [] (suc k) l = refl
past-end (x ∷ xs) zero l = absurd (omega (arith, l))
past-end (x ∷ xs) (suc k) l = past-end xs k (omega (arith, l))

pub needs-first : (terms : List TermId) (tasks : List Task) (k : ℕ) → k ≡ length terms → map Need (drop k terms) ++ tops tasks ≡ tops tasks
needs-first terms tasks k e = ap (λ xs. map Need xs ++ tops tasks) (past-end terms k (omega (arith, e)))

-- one more on top
pub needs-next : (terms : List TermId) (old now more : List Task) (k j : ℕ) (d : TermId) → j < length terms → k ≡ j + 1 → map Need (drop k terms) ++ tops old ≡ tops now
    → tops more ≡ Need (get_or terms j d) ∷ tops now →
    map Need (drop j terms) ++ tops old ≡ tops more
needs-next terms old now more k j d l e h q =
    let r : drop j terms ≡ get_or terms j d ∷ drop k terms = drop-cons terms j d l ∙ ap (λ n. get_or terms j d ∷ drop n terms) (sym (e ∙ add-one j)) in
    ap (λ xs. map Need xs ++ tops old) r ∙ ap (λ xs. Need (get_or terms j d) ∷ xs) h ∙ sym q

pub needs-end : (terms : List TermId) (old now : List Task) (k : ℕ) → k ≡ 0 → map Need (drop k terms) ++ tops old ≡ tops now → tops now ≡ map Need terms ++ tops old
needs-end terms old now k e h = sym h ∙ ap (λ n. map Need (drop n terms) ++ tops old) e
