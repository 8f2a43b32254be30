-- Numbers of a set, by its tests; and what two lists of numbers have together.
use Rattle.std.proofs.Common.{◌≡◌, ℕ, List, [], ◌∷◌, ◌++◌, Bool, true, false, ◌||◌, cond, refl, ap, sym, ◌∙◌, subst, ◌⊎◌, inl, inr, true≢false}
use Rattle.std.specs.Prelude.{◌↔◌}
use Rattle.std.specs.List.{list_any}
use Rattle.std.specs.declared.cmp.Ordering.{Ordering}
use Rattle.std.specs.declared.cmp.Ordering.TheVariants.{Less, Equal, Greater}
use Rattle.std.specs.Ordering.{nat_cmp, is_eq}
use Rattle.std.specs.BTreeMap.{is_at}
use Rattle.std.proofs.lemmas.Bool.{or_right}
use Rattle.lh_history_laws.proofs.Orders.{nat_one}
use Rattle.lh_time.proofs.OrderLemmas.{nat_same}
use Rattle.lh_kernel_wakes.specs.Rising.{IsOneOf, HasOneMore}

-- the test of a set
abbrev pub in_set : ℕ → List ℕ → Bool
in_set n ks = list_any (is_at (nat_cmp n)) ks

is_equal : (o : Ordering) → is_eq o ≡ true → o ≡ Equal
is_equal Less h = cc
is_equal Equal h = refl
is_equal Greater h = cc

same_number : (n : ℕ) → is_eq (nat_cmp n n) ≡ true
same_number n = ap is_eq (nat_same n)

one_number : (n k : ℕ) → is_eq (nat_cmp n k) ≡ true → k ≡ n
one_number n k h = sym (nat_one n k (is_equal _ h))

there_by : (b : Bool) (n x : ℕ) (xs : List ℕ) → is_eq (nat_cmp n x) ≡ b → (in_set n xs ≡ true → IsOneOf n xs) → b || in_set n xs ≡ true → IsOneOf n (x ∷ xs)
there_by true n x xs e f h = inl (one_number n x e)
there_by false n x xs e f h = inr (f h)

pub of_set : (n : ℕ) (ks : List ℕ) → in_set n ks ≡ true → IsOneOf n ks
of_set n [] h = absurd (true≢false (sym h))
of_set n (x ∷ xs) h = there_by (is_eq (nat_cmp n x)) n x xs refl (of_set n xs) h

pub to_set : (n : ℕ) (ks : List ℕ) → IsOneOf n ks → in_set n ks ≡ true
to_set n [] h = absurd h
to_set n (x ∷ xs) (inl p) = subst (λ z. is_eq (nat_cmp n z) || in_set n xs ≡ true) (sym p) (ap (λ b. b || in_set n xs) (same_number n))
to_set n (x ∷ xs) (inr h) = or_right (is_eq (nat_cmp n x)) _ (to_set n xs h)

-- the tests after a number has been put in
abbrev pub SetsNumber : List ℕ → List ℕ → ℕ → Type 0
SetsNumber old new n = (q : ℕ) → in_set q new ≡ cond (is_at (nat_cmp n) q) true (in_set q old)

more_by : (b : Bool) (old new : List ℕ) (n k : ℕ) → is_at (nat_cmp n) k ≡ b → in_set k new ≡ cond b true (in_set k old) → IsOneOf k new → (k ≡ n) ⊎ IsOneOf k old
more_by true old new n k e s h = inl (one_number n k e)
more_by false old new n k e s h = inr (of_set k old (sym s ∙ to_set k new h))

more_back : (b : Bool) (old new : List ℕ) (n k : ℕ) → is_at (nat_cmp n) k ≡ b → in_set k new ≡ cond b true (in_set k old) → (k ≡ n) ⊎ IsOneOf k old → IsOneOf k new
more_back true old new n k e s h = of_set k new s
more_back false old new n k e s (inr h) = of_set k new (s ∙ to_set k old h)
more_back false old new n k e s (inl p) = absurd (true≢false (sym (same_number n) ∙ subst (λ z. is_eq (nat_cmp n z) ≡ false) p e))

-- a number that is put in
pub set_more : (old new : List ℕ) (n : ℕ) → SetsNumber old new n → HasOneMore old n new
set_more old new n s k = (more_by (is_at (nat_cmp n) k) old new n k refl (s k), more_back (is_at (nat_cmp n) k) old new n k refl (s k))

-- ---- two lists together

pub has_left : (k : ℕ) (xs ys : List ℕ) → IsOneOf k xs → IsOneOf k (xs ++ ys)
has_left k [] ys h = absurd h
has_left k (x ∷ xs) ys (inl p) = inl p
has_left k (x ∷ xs) ys (inr h) = inr (has_left k xs ys h)

pub has_right : (k : ℕ) (xs ys : List ℕ) → IsOneOf k ys → IsOneOf k (xs ++ ys)
has_right k [] ys h = h
has_right k (x ∷ xs) ys h = inr (has_right k xs ys h)

pub has_either : (k : ℕ) (xs ys : List ℕ) → IsOneOf k (xs ++ ys) → IsOneOf k xs ⊎ IsOneOf k ys
has_either k [] ys h = inr h
has_either k (x ∷ xs) ys (inl p) = inl (inl p)
has_either k (x ∷ xs) ys (inr h) = elim (has_either k xs ys h) [ inl g ↦ inl (inr g) | inr g ↦ inr g ]

-- what is in the first list, and else what is tested in the second
pub in_either : (n : ℕ) (xs ys now : List ℕ) → xs ++ ys ≡ now → (IsOneOf n xs → ⊥) → (in_set n ys ≡ true) ↔ IsOneOf n now
in_either n xs ys now v h = (
  λ e. subst (IsOneOf n) v (has_right n xs ys (of_set n ys e)),
  λ p. elim (has_either n xs ys (subst (IsOneOf n) (sym v) p)) [ inl q ↦ absurd (h q) | inr q ↦ to_set n ys q ],
)

-- one number more on the left, or on the right, or there already
pub more_left : (xs new ys now : List ℕ) (n : ℕ) → xs ++ ys ≡ now → HasOneMore xs n new → HasOneMore now n (new ++ ys)
more_left xs new ys now n v h = subst (λ z. HasOneMore z n (new ++ ys)) v (λ k. (
  λ p. elim (has_either k new ys p) [
    | inl q ↦ elim ((h k).0 q) [ inl e ↦ inl e | inr r ↦ inr (has_left k xs ys r) ]
    | inr q ↦ inr (has_right k xs ys q)
  ],
  λ p. elim p [
    | inl e ↦ has_left k new ys ((h k).1 (inl e))
    | inr q ↦ elim (has_either k xs ys q) [ inl r ↦ has_left k new ys ((h k).1 (inr r)) | inr r ↦ has_right k new ys r ]
  ],
))

pub more_right : (xs ys new now : List ℕ) (n : ℕ) → xs ++ ys ≡ now → HasOneMore ys n new → HasOneMore now n (xs ++ new)
more_right xs ys new now n v h = subst (λ z. HasOneMore z n (xs ++ new)) v (λ k. (
  λ p. elim (has_either k xs new p) [
    | inl q ↦ inr (has_left k xs ys q)
    | inr q ↦ elim ((h k).0 q) [ inl e ↦ inl e | inr r ↦ inr (has_right k xs ys r) ]
  ],
  λ p. elim p [
    | inl e ↦ has_right k xs new ((h k).1 (inl e))
    | inr q ↦ elim (has_either k xs ys q) [ inl r ↦ has_left k xs new r | inr r ↦ has_right k xs new ((h k).1 (inr r)) ]
  ],
))

pub more_there : (xs ys now : List ℕ) (n : ℕ) → xs ++ ys ≡ now → IsOneOf n xs → HasOneMore now n now
more_there xs ys now n v h k = (λ p. inr p, λ p. elim p [ inl e ↦ subst (λ z. IsOneOf z now) (sym e) (subst (IsOneOf n) v (has_left n xs ys h)) | inr q ↦ q ])

-- ---- one list goes over into another, number by number

abbrev pub AreTogether : (done rest all : List ℕ) → Type 0
AreTogether done rest all = (k : ℕ) → (IsOneOf k done ⊎ IsOneOf k rest) ↔ IsOneOf k all

pub together_none : (done rest all : List ℕ) → done ≡ [] → rest ≡ all → AreTogether done rest all
together_none done rest all d e = subst (λ z. AreTogether z rest all) (sym d) (subst (AreTogether [] rest) e (λ k. (λ p. elim p [ inl h ↦ absurd h | inr h ↦ h ], λ h. inr h)))

pub together_both : (xs ys now : List ℕ) → xs ++ ys ≡ now → AreTogether ys xs now
together_both xs ys now v = subst (AreTogether ys xs) v (λ k. (λ p. elim p [ inl h ↦ has_right k xs ys h | inr h ↦ has_left k xs ys h ], λ h. elim (has_either k xs ys h) [ inl q ↦ inr q | inr q ↦ inl q ]))

pub together_more : (done new rest it all : List ℕ) (n : ℕ) → it ≡ n ∷ rest → HasOneMore done n new → AreTogether done it all → AreTogether new rest all
together_more done new rest it all n e h g = step (subst (λ z. AreTogether done z all) e g)
  where
    step : AreTogether done (n ∷ rest) all → AreTogether new rest all
    step g k = (
      λ p. elim p [
        | inl q ↦ elim ((h k).0 q) [ inl e ↦ (g k).0 (inr (inl (sym e))) | inr r ↦ (g k).0 (inl r) ]
        | inr q ↦ (g k).0 (inr (inr q))
      ],
      λ q. elim ((g k).1 q) [
        | inl r ↦ inl ((h k).1 (inr r))
        | inr r ↦ elim r [ inl e ↦ inl ((h k).1 (inl (sym e))) | inr s ↦ inr s ]
      ],
    )

pub together_all : (done rest all : List ℕ) → rest ≡ [] → AreTogether done rest all → (k : ℕ) → IsOneOf k done ↔ IsOneOf k all
together_all done rest all e g = end (subst (λ z. AreTogether done z all) e g)
  where
    end : AreTogether done [] all → (k : ℕ) → IsOneOf k done ↔ IsOneOf k all
    end g k = (λ p. (g k).0 (inl p), λ q. elim ((g k).1 q) [ inl r ↦ r | inr r ↦ absurd r ])

pub one_and_all : (xs ys zs : List ℕ) → ((k : ℕ) → IsOneOf k xs ↔ IsOneOf k ys) → ((k : ℕ) → IsOneOf k ys ↔ IsOneOf k zs) → (k : ℕ) → IsOneOf k xs ↔ IsOneOf k zs
one_and_all xs ys zs f g k = (λ p. (g k).0 ((f k).0 p), λ p. (f k).1 ((g k).1 p))
