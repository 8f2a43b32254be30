-- Wakes that are noted, by the tests of the set that holds them.
use Rattle.std.proofs.Common.{◌≡◌, ℕ, ◌<◌, List, [], ◌∷◌, ◌++◌, append_assoc, Bool, true, false, ◌||◌, cond, if◌then◌else◌, refl, ap, sym, ◌∙◌, subst, ◌⊎◌, inl, inr, true≢false}
use Rattle.std.proofs.lemmas.List.{append-nil}
use Rattle.std.specs.Prelude.{Some}
use Rattle.std.specs.List.{list_any, AllByRecursion}
use Rattle.std.specs.List.Sorted.{IsStrictlySortedBy}
use Rattle.std.specs.declared.cmp.Ordering.{Ordering}
use Rattle.std.specs.declared.cmp.Ordering.TheVariants.{Less, Equal, Greater}
use Rattle.std.specs.Ordering.{nat_cmp, ordering_then, ordering_reverse, is_eq, is_le, is_gt}
use Rattle.std.specs.BTreeMap.{is_at}
use Rattle.std.proofs.lemmas.Bool.{or_right}
use Rattle.lh_time.specs.declared.Instant.{Instant}
use Rattle.lh_time.specs.Order.{instant_cmp, instant_le, instant_eq}
use Rattle.lh_history_laws.proofs.Orders.{then_equal, nat_one}
use Rattle.lh_history_laws.proofs.Instants.{instant_one, le_self}
use Rattle.lh_time.proofs.OrderLemmas.{instant_cmp_total, nat_is_less, nat_same}
use Rattle.lh_kernel_wakes.specs.Rising.{IsOneOf, AreAbove, IsRising}
use Rattle.lh_kernel_wakes.specs.declared.wakes.Wake.{Wake}
use Rattle.lh_kernel_wakes.specs.Waking.{IsNoted, NotesOneMore, NotesOneLess, IsSoonest, first_at, AreDue}

-- by the instant, then by the instance
abbrev pub wake_cmp : Wake → Wake → Ordering
wake_cmp a b = ordering_then (instant_cmp a.at b.at) (nat_cmp a.instance b.instance)

is_equal : (o : Ordering) → is_eq o ≡ true → o ≡ Equal
is_equal Less h = cc
is_equal Equal h = refl
is_equal Greater h = cc

same_wake : (w : Wake) → is_eq (wake_cmp w w) ≡ true
same_wake w = simp (nat_same w.at.fs, nat_same w.at.delta, nat_same w.at.eps, nat_same w.instance) refl

-- a wake that compares equal is the same
one_wake : (w x : Wake) → is_eq (wake_cmp w x) ≡ true → (x.at ≡ w.at) × (x.instance ≡ w.instance)
one_wake w x h =
    let p : (instant_cmp w.at x.at ≡ Equal) × (nat_cmp w.instance x.instance ≡ Equal) = then_equal _ _ (is_equal _ h)
    in (sym (instant_one w.at x.at p.0), sym (nat_one w.instance x.instance p.1))

same_wakes : (t u : Instant) (j k : ℕ) → t ≡ u → j ≡ k → ◌≡◌ {A = Wake} (record { at = t; instance = j }) (record { at = u; instance = k })
same_wakes t u j k e f = cc

abbrev pub in_list : (w : Wake) → List Wake → Bool
in_list w ks = list_any (is_at (wake_cmp w)) ks

noted_by : (b : Bool) (w x : Wake) (xs : List Wake) → is_eq (wake_cmp w x) ≡ b → (in_list w xs ≡ true → IsNoted xs w.at w.instance) → b || in_list w xs ≡ true →
    IsNoted (x ∷ xs) w.at w.instance
noted_by true w x xs e f h = inl (one_wake w x e)
noted_by false w x xs e f h = inr (f h)

noted_of : (w : Wake) (ks : List Wake) → in_list w ks ≡ true → IsNoted ks w.at w.instance
noted_of w [] h = absurd (true≢false (sym h))
noted_of w (x ∷ xs) h = noted_by (is_eq (wake_cmp w x)) w x xs refl (noted_of w xs) h

in_more : (w x : Wake) (xs : List Wake) → (w.at ≡ x.at) × (w.instance ≡ x.instance) → is_eq (wake_cmp w x) || in_list w xs ≡ true
in_more w x xs p = let e : w ≡ x = same_wakes w.at x.at w.instance x.instance p.0 p.1 in subst (λ z. is_eq (wake_cmp w z) || in_list w xs ≡ true) e (ap (λ b. b || in_list w xs) (same_wake w))

of_noted : (t : Instant) (k : ℕ) (ks : List Wake) → IsNoted ks t k → in_list (record { at = t; instance = k }) ks ≡ true
of_noted t k [] h = absurd h
of_noted t k (x ∷ xs) (inl p) = in_more (record { at = t; instance = k }) x xs (sym p.0, sym p.1)
of_noted t k (x ∷ xs) (inr h) = or_right (is_eq (wake_cmp (record { at = t; instance = k }) x)) _ (of_noted t k xs h)

not_itself : (w x : Wake) → w ≡ x → is_eq (wake_cmp w x) ≡ false → ⊥
not_itself w x v e = true≢false (sym (same_wake w) ∙ subst (λ z. is_eq (wake_cmp w z) ≡ false) (sym v) e)

-- the tests after a wake has been put in or taken out
abbrev pub Sets : List Wake → List Wake → Wake → Bool → Type 0
Sets old new w b = (q : Wake) → in_list q new ≡ cond (is_at (wake_cmp w) q) b (in_list q old)

more_by : (b : Bool) (old new : List Wake) (w : Wake) (u : Instant) (k : ℕ) → is_at (wake_cmp w) (record { at = u; instance = k }) ≡ b →
    in_list (record { at = u; instance = k }) new ≡ cond b true (in_list (record { at = u; instance = k }) old) → IsNoted new u k → ((w.at ≡ u) × (w.instance ≡ k)) ⊎ IsNoted old u k
more_by true old new w u k e s h = let p : (u ≡ w.at) × (k ≡ w.instance) = one_wake w (record { at = u; instance = k }) e in inl (sym p.0, sym p.1)
more_by false old new w u k e s h = inr (noted_of (record { at = u; instance = k }) old (sym s ∙ of_noted u k new h))

more_back : (b : Bool) (old new : List Wake) (w : Wake) (u : Instant) (k : ℕ) → is_at (wake_cmp w) (record { at = u; instance = k }) ≡ b →
    in_list (record { at = u; instance = k }) new ≡ cond b true (in_list (record { at = u; instance = k }) old) → ((w.at ≡ u) × (w.instance ≡ k)) ⊎ IsNoted old u k → IsNoted new u k
more_back true old new w u k e s h = noted_of (record { at = u; instance = k }) new s
more_back false old new w u k e s (inr h) = noted_of (record { at = u; instance = k }) new (s ∙ of_noted u k old h)
more_back false old new w u k e s (inl p) =
    absurd (not_itself w (record { at = u; instance = k }) (same_wakes w.at u w.instance k p.0 p.1) e)

-- a wake that is put in
pub notes_more : (old new : List Wake) (w : Wake) → Sets old new w true → NotesOneMore old w.at w.instance new
notes_more old new w s u k = (
  more_by (is_at (wake_cmp w) (record { at = u; instance = k })) old new w u k refl (s (record { at = u; instance = k })),
  more_back (is_at (wake_cmp w) (record { at = u; instance = k })) old new w u k refl (s (record { at = u; instance = k })),
)

less_by : (b : Bool) (old new : List Wake) (w : Wake) (u : Instant) (k : ℕ) → is_at (wake_cmp w) (record { at = u; instance = k }) ≡ b →
    in_list (record { at = u; instance = k }) new ≡ cond b false (in_list (record { at = u; instance = k }) old) → IsNoted new u k → IsNoted old u k × ¬ ((w.at ≡ u) × (w.instance ≡ k))
less_by true old new w u k e s h = absurd (true≢false (sym (of_noted u k new h) ∙ s))
less_by false old new w u k e s h = (
  noted_of (record { at = u; instance = k }) old (sym s ∙ of_noted u k new h),
  λ p. not_itself w (record { at = u; instance = k }) (same_wakes w.at u w.instance k p.0 p.1) e,
)

less_back : (b : Bool) (old new : List Wake) (w : Wake) (u : Instant) (k : ℕ) → is_at (wake_cmp w) (record { at = u; instance = k }) ≡ b →
    in_list (record { at = u; instance = k }) new ≡ cond b false (in_list (record { at = u; instance = k }) old) → IsNoted old u k × ¬ ((w.at ≡ u) × (w.instance ≡ k)) → IsNoted new u k
less_back true old new w u k e s h = let p : (u ≡ w.at) × (k ≡ w.instance) = one_wake w (record { at = u; instance = k }) e in absurd (h.1 (sym p.0, sym p.1))
less_back false old new w u k e s h = noted_of (record { at = u; instance = k }) new (s ∙ of_noted u k old h.0)

-- a wake that is taken out
pub notes_less : (old new : List Wake) (w : Wake) → Sets old new w false → NotesOneLess old w.at w.instance new
notes_less old new w s u k = (
  less_by (is_at (wake_cmp w) (record { at = u; instance = k })) old new w u k refl (s (record { at = u; instance = k })),
  less_back (is_at (wake_cmp w) (record { at = u; instance = k })) old new w u k refl (s (record { at = u; instance = k })),
)

-- the first wake is the soonest
pub soonest_is : (ks : List Wake) (w : Wake) → in_list w ks ≡ true → ((q : Wake) → in_list q ks ≡ true → is_gt (wake_cmp w q) ≡ false) → IsSoonest ks (Some w.at)
soonest_is ks w m l = ((w.instance, noted_of w ks m), λ u k h. not_later w u k (l (record { at = u; instance = k }) (of_noted u k ks h)))
  where
    then_le : (o p : Ordering) → is_gt (ordering_then o p) ≡ false → is_le o ≡ true
    then_le Less p h = refl
    then_le Equal p h = refl
    then_le Greater p h = absurd (true≢false h)

    not_later : (w : Wake) (u : Instant) (k : ℕ) → is_gt (wake_cmp w (record { at = u; instance = k })) ≡ false → instant_le w.at u ≡ true
    not_later w u k h = then_le (instant_cmp w.at u) (nat_cmp w.instance k) h

then_less : (o p : Ordering) → o ≡ Equal → ordering_then o p ≡ Less → p ≡ Less
then_less Less p e h = cc
then_less Equal p e h = h
then_less Greater p e h = cc

then_not_later : (o p : Ordering) → ordering_then o p ≡ Less → is_le o ≡ true
then_not_later Less p h = refl
then_not_later Equal p h = refl
then_not_later Greater p h = cc

equal_both : (o q : Ordering) → o ≡ ordering_reverse q → is_le o ≡ true → is_le q ≡ true → is_eq o ≡ true
equal_both Equal q e h k = refl
equal_both Greater q e h k = cc
equal_both Less Less e h k = cc
equal_both Less Equal e h k = cc
equal_both Less Greater e h k = cc

-- neither is later, so they are one
one_instant : (t u : Instant) → instant_le t u ≡ true → instant_le u t ≡ true → instant_eq u t ≡ true
one_instant t u h k = equal_both (instant_cmp u t) (instant_cmp t u) (instant_cmp_total.antisymm u t) k h

-- of two wakes at one instant the one that comes first is of the lesser instance
lesser : (w x : Wake) (t : Instant) → wake_cmp w x ≡ Less → instant_cmp w.at t ≡ Equal → instant_cmp x.at t ≡ Equal → w.instance < x.instance
lesser w x t h e f =
    let p : w.at ≡ t = instant_one w.at t e in
    let q : x.at ≡ t = instant_one x.at t f in
    let r : instant_cmp w.at x.at ≡ Equal = subst (λ z. instant_cmp w.at z ≡ Equal) (sym q) e in
    nat_is_less w.instance x.instance (then_less (instant_cmp w.at x.at) (nat_cmp w.instance x.instance) r h)

above_if : (b : Bool) (w x : Wake) (t : Instant) (xs : List Wake) → instant_eq x.at t ≡ b → wake_cmp w x ≡ Less → instant_cmp w.at t ≡ Equal → AreAbove w.instance (first_at t xs) →
    AreAbove w.instance (if b then x.instance ∷ first_at t xs else [])
above_if false w x t xs f h e a = tt
above_if true w x t xs f h e a = (lesser w x t h e (is_equal _ f), a)

above_first : (w : Wake) (t : Instant) (xs : List Wake) → AllByRecursion (λ x. wake_cmp w x ≡ Less) xs → instant_cmp w.at t ≡ Equal → AreAbove w.instance (first_at t xs)
above_first w t [] a e = tt
above_first w t (x ∷ xs) a e = above_if (instant_eq x.at t) w x t xs refl a.0 e (above_first w t xs a.1 e)

rising_if : (b : Bool) (x : Wake) (t : Instant) (xs : List Wake) → instant_eq x.at t ≡ b → AllByRecursion (λ y. wake_cmp x y ≡ Less) xs → IsRising (first_at t xs) →
    IsRising (if b then x.instance ∷ first_at t xs else [])
rising_if false x t xs f a r = tt
rising_if true x t xs f a r = (above_first x t xs a (is_equal _ f), r)

rising_first : (t : Instant) (xs : List Wake) → IsStrictlySortedBy wake_cmp xs → IsRising (first_at t xs)
unfolding IsStrictlySortedBy
rising_first t [] o = tt
rising_first t (x ∷ xs) o = rising_if (instant_eq x.at t) x t xs refl o.0 (rising_first t xs o.1)

in_if : (b : Bool) (k : ℕ) (x : Wake) (t : Instant) (xs : List Wake) → instant_eq x.at t ≡ b → (IsOneOf k (first_at t xs) → IsNoted xs t k) →
    IsOneOf k (if b then x.instance ∷ first_at t xs else []) → IsNoted (x ∷ xs) t k
in_if false k x t xs f g h = absurd h
in_if true k x t xs f g (inl p) = inl (instant_one x.at t (is_equal _ f), p)
in_if true k x t xs f g (inr h) = inr (g h)

in_first : (k : ℕ) (t : Instant) (xs : List Wake) → IsOneOf k (first_at t xs) → IsNoted xs t k
in_first k t [] h = absurd h
in_first k t (x ∷ xs) h = in_if (instant_eq x.at t) k x t xs refl (in_first k t xs) h

noted_later : (x : Wake) (t : Instant) (k : ℕ) (xs : List Wake) → AllByRecursion (λ y. wake_cmp x y ≡ Less) xs → IsNoted xs t k → instant_le x.at t ≡ true
noted_later x t k [] a h = absurd h
noted_later x t k (y ∷ ys) a (inl p) = subst (λ z. instant_le x.at z ≡ true) p.0 (then_not_later (instant_cmp x.at y.at) (nat_cmp x.instance y.instance) a.0)
noted_later x t k (y ∷ ys) a (inr h) = noted_later x t k ys a.1 h

-- no wake is before the instant
abbrev pub NoneBefore : List Wake → Instant → Type 0
NoneBefore xs t = (u : Instant) (k : ℕ) → IsNoted xs u k → instant_le t u ≡ true

has_if : (b : Bool) (k : ℕ) (x : Wake) (t : Instant) (xs : List Wake) → instant_eq x.at t ≡ b → instant_le t x.at ≡ true → AllByRecursion (λ y. wake_cmp x y ≡ Less) xs →
    (IsNoted xs t k → IsOneOf k (first_at t xs)) → IsNoted (x ∷ xs) t k → IsOneOf k (if b then x.instance ∷ first_at t xs else [])
has_if true k x t xs f l a g (inl p) = inl p.1
has_if true k x t xs f l a g (inr h) = inr (g h)
has_if false k x t xs f l a g (inl p) =
    let q : instant_le x.at t ≡ true = subst (λ z. instant_le x.at z ≡ true) p.0 (le_self x.at) in
    absurd (true≢false (sym (one_instant t x.at l q) ∙ f))
has_if false k x t xs f l a g (inr h) = absurd (true≢false (sym (one_instant t x.at l (noted_later x t k xs a h)) ∙ f))

first_has : (k : ℕ) (t : Instant) (xs : List Wake) → IsStrictlySortedBy wake_cmp xs → NoneBefore xs t → IsNoted xs t k → IsOneOf k (first_at t xs)
unfolding IsStrictlySortedBy
first_has k t [] o n h = absurd h
first_has k t (x ∷ xs) o n h =
    has_if (instant_eq x.at t) k x t xs refl (n x.at x.instance (inl (refl, refl))) o.0 (first_has k t xs o.1 (λ u j p. n u j (inr p))) h

-- what the first wakes give, of which none is before the instant
pub due_are : (ks now : List Wake) (t : Instant) (due : List ℕ) → ks ≡ now → IsStrictlySortedBy wake_cmp ks → NoneBefore now t → due ≡ first_at t ks → AreDue now t due
due_are ks now t due v o n e =
    let m : NoneBefore ks t = subst (λ z. NoneBefore z t) (sym v) n in
    subst (λ z. AreDue z t due) v (subst (λ z. AreDue ks t z) (sym e)
    (record { rising = rising_first t ks o; all = λ k. (in_first k t ks, first_has k t ks o m) }))

-- the walk over the first wakes: where it begins, each turn, and where it ends
pub due_start : (t : Instant) (due : List ℕ) (it keys now : List Wake) → due ≡ [] → it ≡ keys → keys ≡ now → due ++ first_at t it ≡ first_at t now
due_start t due it keys now a b c = ap (λ z. z ++ first_at t it) a ∙ ap (first_at t) (b ∙ c)

if_true : (b : Bool) (xs ys : List ℕ) → b ≡ true → (if b then xs else ys) ≡ xs
if_true true xs ys h = refl
if_true false xs ys h = cc

if_false : (b : Bool) (xs ys : List ℕ) → b ≡ false → (if b then xs else ys) ≡ ys
if_false true xs ys h = cc
if_false false xs ys h = refl

pub due_step : (t : Instant) (due new all : List ℕ) (it rest : List Wake) (w : Wake) → new ≡ due ++ w.instance ∷ [] → it ≡ w ∷ rest → instant_eq w.at t ≡ true →
    due ++ first_at t it ≡ all → new ++ first_at t rest ≡ all
due_step t due new all it rest w n i e h =
    ap (λ z. z ++ first_at t rest) n
    ∙ append_assoc due (w.instance ∷ []) (first_at t rest)
    ∙ ap (λ z. due ++ z) (sym (ap (first_at t) i ∙ if_true _ (w.instance ∷ first_at t rest) [] e))
    ∙ h

pub due_stop : (t : Instant) (due all : List ℕ) (it rest : List Wake) (w : Wake) → it ≡ w ∷ rest → instant_eq w.at t ≡ false → due ++ first_at t it ≡ all → due ≡ all
due_stop t due all it rest w i e h = sym (append-nil due) ∙ ap (λ z. due ++ z) (sym (ap (first_at t) i ∙ if_false _ (w.instance ∷ first_at t rest) [] e)) ∙ h

pub due_end : (t : Instant) (due all : List ℕ) (it : List Wake) → it ≡ [] → due ++ first_at t it ≡ all → due ≡ all
due_end t due all it i h = sym (append-nil due) ∙ ap (λ z. due ++ z) (sym (ap (first_at t) i)) ∙ h
