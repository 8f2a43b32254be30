-- An index with an instance more, or less, under one signal.
use Rattle.std.proofs.Common.{arith, ◌≡◌, ℕ, zero, suc, ◌+◌, ◌<◌, List, [], ◌∷◌, ◌++◌, length, length-append, slice_set, slice_index_or, refl, ap, sym, ◌∙◌, subst, ◌⊎◌, inl, inr}
use Rattle.std.specs.Prelude.{◌↔◌, ◌≢◌}
use Rattle.lh_kernel_wakes.specs.Rising.{HasOneMore, HasOneLess}
use Rattle.lh_kernel_wakes.specs.Sensed.{sensed_by, Senses, SensesOneMore, SensesOneLess}

same_place : {A : Type 0} (s k n : ℕ) → (k ≡ n) ⊎ A → ((s ≡ s) × (k ≡ n)) ⊎ A
same_place s k n (inl e) = inl (refl, e)
same_place s k n (inr a) = inr a

there : {A : Type 0} (s k n : ℕ) → ((s ≡ s) × (k ≡ n)) ⊎ A → (k ≡ n) ⊎ A
there s k n (inl e) = inl e.1
there s k n (inr a) = inr a

elsewhere : {A : Type 0} (s t k n : ℕ) → t ≢ s → ((t ≡ s) × (k ≡ n)) ⊎ A → A
elsewhere s t k n d (inl e) = absurd (d e.0)
elsewhere s t k n d (inr a) = a

one_on : {A : Type 0} (s t k n : ℕ) → ((t ≡ s) × (k ≡ n)) ⊎ A → ((suc t ≡ suc s) × (k ≡ n)) ⊎ A
one_on s t k n (inl e) = inl (ap suc e.0, e.1)
one_on s t k n (inr a) = inr a

one_back : {A : Type 0} (s t k n : ℕ) → ((suc t ≡ suc s) × (k ≡ n)) ⊎ A → ((t ≡ s) × (k ≡ n)) ⊎ A
one_back s t k n (inl e) = inl (omega (arith, e.0), e.1)
one_back s t k n (inr a) = inr a

-- with a list that has one number more
pub senses_more : (lists : List (List ℕ)) (s n : ℕ) (new : List ℕ) → s < length lists → HasOneMore (sensed_by lists s) n new → SensesOneMore lists s n (slice_set lists s new)
senses_more [] s n new l h t k = absurd (omega arith)
senses_more (x ∷ xs) zero n new l h zero k = (λ p. same_place 0 k n ((h k).0 p), λ q. (h k).1 (there 0 k n q))
senses_more (x ∷ xs) zero n new l h (suc t) k = (λ p. inr p, λ q. elsewhere 0 (suc t) k n (λ e. omega (arith, e)) q)
senses_more (x ∷ xs) (suc s) n new l h zero k = (λ p. inr p, λ q. elsewhere (suc s) 0 k n (λ e. omega (arith, e)) q)
senses_more (x ∷ xs) (suc s) n new l h (suc t) k =
    let r : Senses (slice_set xs s new) t k ↔ (((t ≡ s) × (k ≡ n)) ⊎ Senses xs t k) = senses_more xs s n new (omega arith) h t k
    in (λ p. one_on s t k n (r.0 p), λ q. r.1 (one_back s t k n q))

-- with a list that has one number less
pub senses_less : (lists : List (List ℕ)) (s n : ℕ) (new : List ℕ) → s < length lists → HasOneLess (sensed_by lists s) n new → SensesOneLess lists s n (slice_set lists s new)
senses_less [] s n new l h t k = absurd (omega arith)
senses_less (x ∷ xs) zero n new l h zero k = (λ p. (((h k).0 p).0, λ e. ((h k).0 p).1 e.1), λ q. (h k).1 (q.0, λ e. q.1 (refl, e)))
senses_less (x ∷ xs) zero n new l h (suc t) k = (λ p. (p, λ e. omega (arith, e.0)), λ q. q.0)
senses_less (x ∷ xs) (suc s) n new l h zero k = (λ p. (p, λ e. omega (arith, e.0)), λ q. q.0)
senses_less (x ∷ xs) (suc s) n new l h (suc t) k =
    let r : Senses (slice_set xs s new) t k ↔ (Senses xs t k × ¬ ((t ≡ s) × (k ≡ n))) = senses_less xs s n new (omega arith) h t k
    in (λ p. ((r.0 p).0, λ e. (r.0 p).1 (omega (arith, e.0), e.1)), λ q. r.1 (q.0, λ e. q.1 (ap suc e.0, e.1)))

-- nothing is sensed
abbrev pub NoneSenses : List (List ℕ) → Type 0
NoneSenses lists = (s k : ℕ) → ¬ Senses lists s k

pub none_senses : NoneSenses []
none_senses s k h = h

-- of one signal more nothing is sensed
pub one_unsensed : (lists : List (List ℕ)) → NoneSenses lists → NoneSenses (lists ++ [] ∷ [])
one_unsensed [] h zero k p = p
one_unsensed [] h (suc s) k p = p
one_unsensed (x ∷ xs) h zero k p = h zero k p
one_unsensed (x ∷ xs) h (suc s) k p = one_unsensed xs (λ t j q. h (suc t) j q) s k p

sensed_is : (lists : List (List ℕ)) (s : ℕ) (x : List ℕ) → s < length lists → x ≡ slice_index_or lists s x → sensed_by lists s ≡ x
sensed_is [] s x l e = absurd (omega arith)
sensed_is (y ∷ ys) zero x l e = sym e
sensed_is (y ∷ ys) (suc s) x l e = sensed_is ys s x (omega arith) e

-- an index, seen as `now`, in which the list x of the signal has one number more
pub noted_more : (items now : List (List ℕ)) (s n : ℕ) (x new : List ℕ) → items ≡ now → s < length now → x ≡ slice_index_or items s x → HasOneMore x n new →
    SensesOneMore now s n (slice_set items s new)
noted_more items now s n x new v l e h =
    let m : s < length items = subst (λ (z : List (List ℕ)). s < length z) (sym v) l
    in subst (λ z. SensesOneMore z s n (slice_set items s new)) v (senses_more items s n new m (subst (λ z. HasOneMore z n new) (sym (sensed_is items s x m e)) h))

-- the same with one number less
pub noted_less : (items now : List (List ℕ)) (s n : ℕ) (x new : List ℕ) → items ≡ now → s < length now → x ≡ slice_index_or items s x → HasOneLess x n new →
    SensesOneLess now s n (slice_set items s new)
noted_less items now s n x new v l e h =
    let m : s < length items = subst (λ (z : List (List ℕ)). s < length z) (sym v) l
    in subst (λ z. SensesOneLess z s n (slice_set items s new)) v (senses_less items s n new m (subst (λ z. HasOneLess z n new) (sym (sensed_is items s x m e)) h))

-- one signal more, of which nothing is sensed
pub one_new : (lists new : List (List ℕ)) (x : List ℕ) (n : ℕ) → new ≡ lists ++ x ∷ [] → x ≡ [] → (length lists ≡ n) × NoneSenses lists → (length new ≡ n + 1) × NoneSenses new
one_new lists new x n e f h =
    let g : new ≡ lists ++ [] ∷ [] = cc in
    let m : length new ≡ length lists + 1 = ap length g ∙ length-append lists ([] ∷ []) in
    (omega (arith, m, h.0), subst NoneSenses (sym g) (one_unsensed lists h.1))
