-- Runs of instances, one after the other.
use Rattle.std.proofs.Common.{Result, Ok, Err, OnErr, drop, append_assoc, ◌≡◌, ℕ, zero, suc, ◌+◌, ◌<◌, ◌≤◌, List, [], ◌∷◌, ◌++◌, length, take, Bool, true, false, nat_le, cond, count_by, Some, None, slice_get, get_or, refl, ap, sym, ◌∙◌, subst, inl, inr, zero-add, arith}
use Rattle.std.proofs.lemmas.List.{append-nil, take_more, take-append-drop, length-take-le}
use Rattle.std.proofs.lemmas.List.Sums.{sum_by-cons}
use Rattle.std.proofs.Math.Seq.{drop-cons}
use Rattle.std.proofs.lemmas.Option.{same_Some, slice_get_read}
use Rattle.std.proofs.lemmas.Bool.Decides.{nat_tests}
use Rattle.lh_time.specs.declared.Instant.{Instant}
use Rattle.lh_types.specs.declared.frame.Outcome.{Outcome}
use Rattle.lh_types.specs.Raised.{raised}
use Rattle.lh_unit.specs.Arena.{Arena}
use Rattle.lh_unit.specs.Within.{Each}
use Rattle.lh_unit.specs.World.{State}
use Rattle.lh_unit.specs.Frames.{activated_count}
use Rattle.lh_unit.proofs.ModuleLaws.{Each-push}
use Rattle.lh_eval.specs.declared.instance.Instance.{Instance}
use Rattle.lh_kernel_wakes.specs.Rising.{IsOneOf, IsRising, AreAbove}
use Rattle.lh_kernel_states.specs.declared.state.InstState.{InstState}
use Rattle.lh_kernel_states.specs.States.{StateIs}
use Rattle.lh_kernel_states.specs.Acts.{ActDone}
use Rattle.lh_kernel_states.specs.Runs.{ActIs, ActIsSound}
use Rattle.lh_kernel.specs.declared.run.Activation.{Activation}
use Rattle.lh_kernel.specs.States.{StatesStand}
use Rattle.lh_kernel.specs.Ran.{done_by, DoesSo, AllRan, ActOfOne, outcomes_by, outcomes_ran}

-- what is kept of an instance stands for its state among these
pub record StandsAmong (a : Arena) (ps : List State) (k : ℕ) (i : Instance) (s : InstState) : Type 0 where
  pub state : State
  pub at : slice_get ps k ≡ Some state
  pub stands : StateIs a i s state

pub stands-at : (a : Arena) (is : List Instance) (ss : List InstState) (ps : List State) (k : ℕ) (i : Instance) (s : InstState) →
    StatesStand a is ss ps → slice_get is k ≡ Some i → slice_get ss k ≡ Some s → StandsAmong a ps k i s
stands-at a [] ss ps k i s h e f = absurd (cc)
stands-at a (j ∷ is) [] ps k i s h e f = absurd h
stands-at a (j ∷ is) (x ∷ ss) [] k i s h e f = absurd h
stands-at a (j ∷ is) (x ∷ ss) (p ∷ ps) zero i s h e f = record {
  state = p;
  at = refl;
  stands = subst (λ (y : Instance). StateIs a y s p) (same_Some j i e) (subst (λ (y : InstState). StateIs a j y p) (same_Some x s f) h.0);
}
stands-at a (j ∷ is) (x ∷ ss) (p ∷ ps) (suc k) i s h e f = let r = stands-at a is ss ps k i s h.1 e f in record { state = r.state; at = r.at; stands = r.stands }

pub ran-more : (a : Arena) (now : List Bool) (t : Instant) (is : List Instance) (ps : List State) (ks : List ℕ) (xs : List Activation) (k : ℕ) (x : Activation) →
    AllRan a now t is ps ks xs None → x.instance ≡ k → DoesSo a now t is ps k (λ i act. ActIs a i x.act act) → AllRan a now t is ps (ks ++ k ∷ []) (xs ++ x ∷ []) None
ran-more a now t is ps [] [] k x h e d = (e, d, tt)
ran-more a now t is ps [] (y ∷ xs) k x h e d = absurd h
ran-more a now t is ps (j ∷ ks) [] k x h e d = absurd h
ran-more a now t is ps (j ∷ ks) (y ∷ xs) k x h e d = (h.0, h.1, ran-more a now t is ps ks xs k x h.2 e d)

pub ran-off : (a : Arena) (now : List Bool) (t : Instant) (is : List Instance) (ps : List State) (ks : List ℕ) (xs : List Activation) (k : ℕ) (rest : List ℕ) →
    AllRan a now t is ps ks xs None → DoesSo a now t is ps k (λ _ act. act.ran_away ≡ true) → AllRan a now t is ps (ks ++ k ∷ rest) xs (Some k)
ran-off a now t is ps [] [] k rest h d = (refl, d)
ran-off a now t is ps [] (y ∷ xs) k rest h d = absurd h
ran-off a now t is ps (j ∷ ks) [] k rest h d = absurd h
ran-off a now t is ps (j ∷ ks) (y ∷ xs) k rest h d = (h.0, h.1, ran-off a now t is ps ks xs k rest h.2 d)

pub has-at : (ks : List ℕ) (j d : ℕ) → j < length ks → IsOneOf (get_or ks j d) ks
has-at [] j d l = absurd (omega arith)
has-at (k ∷ ks) zero d l = inl refl
has-at (k ∷ ks) (suc j) d l = inr (has-at ks j d (omega arith))

none-counted : (k : ℕ) (ks : List ℕ) → AreAbove k ks → count_by (λ n. nat_le n k) ks ≡ 0
none-counted k [] h = refl
none-counted k (j ∷ ks) h =
    let e : nat_le j k ≡ false = grind (arith, nat_tests, h.0) in
    sum_by-cons (λ n. cond (nat_le n k) 1 0) j ks ∙ ap (λ b. cond b 1 0 + count_by (λ n. nat_le n k) ks) e ∙ zero-add (count_by (λ n. nat_le n k) ks) ∙ none-counted k ks h.1

above-in : (j : ℕ) (ks : List ℕ) (k : ℕ) (rest : List ℕ) → AreAbove j (ks ++ k ∷ rest) → j < k
above-in j [] k rest h = h.0
above-in j (i ∷ ks) k rest h = above-in j ks k rest h.1

counted-to : (ks : List ℕ) (k : ℕ) (rest : List ℕ) → IsRising (ks ++ k ∷ rest) → count_by (λ n. nat_le n k) (ks ++ k ∷ rest) ≡ length ks + 1
counted-to [] k rest h =
    let e : nat_le k k ≡ true = grind (arith, nat_tests) in
    sum_by-cons (λ n. cond (nat_le n k) 1 0) k rest ∙ ap (λ b. cond b 1 0 + count_by (λ n. nat_le n k) rest) e ∙ ap (λ n. 1 + n) (none-counted k rest h.0)
counted-to (j ∷ ks) k rest h =
    let l : j < k = above-in j ks k rest h.0 in
    let e : nat_le j k ≡ true = grind (arith, nat_tests) in
    let r = counted-to ks k rest h.1 in
    sum_by-cons (λ n. cond (nat_le n k) 1 0) j (ks ++ k ∷ rest) ∙ ap (λ b. cond b 1 0 + count_by (λ n. nat_le n k) (ks ++ k ∷ rest)) e ∙ omega (arith, r)

-- ---- the tally

pub raised-more : (c n : ℕ) → raised (raised c n) 1 ≡ raised c (n + 1)
raised-more c n = omega arith

pub tally-more : (c d e j : ℕ) → d ≡ raised c j → e ≡ raised d 1 → e ≡ raised c (j + 1)
tally-more c d e j f g = g ∙ ap (λ n. raised n 1) f ∙ raised-more c j

split-at : (ks : List ℕ) (j : ℕ) → j < length ks → take j ks ++ get_or ks j 0 ∷ drop (suc j) ks ≡ ks
split-at ks j l = ap (λ r. take j ks ++ r) (sym (drop-cons ks j 0 l)) ∙ take-append-drop j ks

-- the tally where the j-th that is woken runs away
pub tally-off : (ks : List ℕ) (j c d e : ℕ) → j < length ks → IsRising ks → d ≡ raised c j → e ≡ raised d 1 → e ≡ raised c (activated_count (Some (get_or ks j 0)) ks)
tally-off ks j c d e l r f g =
    let k = get_or ks j 0 in
    let s = split-at ks j l in
    let n : count_by (λ n. nat_le n k) ks ≡ j + 1 = sym (ap (count_by (λ n. nat_le n k)) s) ∙
    counted-to (take j ks) k (drop (suc j) ks) (subst IsRising (sym s) r) ∙ ap (λ m. m + 1) (length-take-le j ks (omega arith)) in
    tally-more c d e j f g ∙ ap (raised c) (sym n)

-- at most all that are woken have run
pub tally-some : (ks : List ℕ) (j c d e : ℕ) → j < length ks → d ≡ raised c j → e ≡ raised d 1 → (n : ℕ) × (n ≤ length ks) × (e ≡ raised c n)
tally-some ks j c d e l f g = (j + 1, omega arith, tally-more c d e j f g)

pub on-err : {T E : Type 0} → (r : Result T E) (P : Type 0) → P → OnErr r P
on-err (Ok x) P p = tt
on-err (Err e) P p = p

-- ---- one turn

pub in-place : {X : Type 0} → (xs ys : List X) (k : ℕ) (x : X) → ys ≡ xs → k < length xs → x ≡ get_or ys k x → slice_get xs k ≡ Some x
in-place xs ys k x e l h = slice_get_read xs (length xs) k x refl l (h ∙ ap (λ zs. get_or zs k x) e)

pub known-at : {X : Type 0} → (ks : List ℕ) (j : ℕ) (xs : List X) → j < length ks → ((k : ℕ) → IsOneOf k ks → k < length xs) → get_or ks j 0 < length xs
known-at ks j xs l h = h (get_or ks j 0) (has-at ks j 0 l)

-- the j-th that is woken ran away
pub turn-off : (a : Arena) (now : List Bool) (t : Instant) (is : List Instance) (ss : List InstState) (ps : List State) (ks : List ℕ)
    (xs : List Activation) (j : ℕ) (i : Instance) (s : InstState) → j < length ks →
    slice_get is (get_or ks j 0) ≡ Some i → slice_get ss (get_or ks j 0) ≡ Some s → StatesStand a is ss ps → ((p : State) → StateIs a i s p → (done_by a now t i p).ran_away ≡ true) →
    AllRan a now t is ps (take j ks) xs None → AllRan a now t is ps ks xs (Some (get_or ks j 0))
turn-off a now t is ss ps ks xs j i s l e f h g q =
    let k = get_or ks j 0 in
    let w = stands-at a is ss ps k i s h e f in
    subst (λ (ls : List ℕ). AllRan a now t is ps ls xs (Some k)) (split-at ks j l)
    (ran-off a now t is ps (take j ks) xs k (drop (suc j) ks) q (record { instance = i; state = w.state; is = e; stands = w.at; does = g w.state w.stands }))

-- the j-th that is woken did this
pub turn-on : (a : Arena) (now : List Bool) (t : Instant) (is : List Instance) (ss : List InstState) (ps : List State) (ks : List ℕ)
    (xs zs : List Activation) (j : ℕ) (i : Instance) (s : InstState) (x : ActDone) → j < length ks →
    slice_get is (get_or ks j 0) ≡ Some i → slice_get ss (get_or ks j 0) ≡ Some s → StatesStand a is ss ps → ((p : State) → StateIs a i s p → ActIs a i x (done_by a now t i p)) →
    zs ≡ xs ++ record { instance = get_or ks j 0; act = x } ∷ [] → AllRan a now t is ps (take j ks) xs None → AllRan a now t is ps (take (j + 1) ks) zs None
turn-on a now t is ss ps ks xs zs j i s x l e f h g z q =
    let k = get_or ks j 0 in
    let w = stands-at a is ss ps k i s h e f in
    let y : Activation = record { instance = k; act = x } in
    subst (λ (ls : List ℕ). AllRan a now t is ps ls zs None) (sym (take_more ks j 0 l))
    (subst (λ (vs : List Activation). AllRan a now t is ps (take j ks ++ k ∷ []) vs None) (sym z)
    (ran-more a now t is ps (take j ks) xs k y q refl (record { instance = i; state = w.state; is = e; stands = w.at; does = g w.state w.stands })))

-- its act is sound
pub turn-sound : (a : Arena) (width : ℕ) (t : Instant) (is : List Instance) (xs zs : List Activation) (k : ℕ) (i : Instance) (x : ActDone) → slice_get is k ≡ Some i → ActIsSound a width t i x →
    zs ≡ xs ++ record { instance = k; act = x } ∷ [] → Each (ActOfOne a width t is) xs → Each (ActOfOne a width t is) zs
turn-sound a width t is xs zs k i x e h z q =
    let y : Activation = record { instance = k; act = x } in
    subst (Each (ActOfOne a width t is)) (sym z) (Each-push (ActOfOne a width t is) xs y q (record { instance = i; is = e; sound = h }))

-- ---- the outcomes

outcomes-more : (xs : List Activation) (x : Activation) → outcomes_ran (xs ++ x ∷ []) ≡ outcomes_ran xs ++ outcomes_by x
outcomes-more [] x = append-nil (outcomes_by x)
outcomes-more (y ∷ xs) x = ap (λ os. outcomes_by y ++ os) (outcomes-more xs x) ∙ sym (append_assoc (outcomes_by y) (outcomes_ran xs) (outcomes_by x))

-- the outcomes of one activation more
pub outcomes-next : (xs : List Activation) (j : ℕ) (x : Activation) (old new : List Outcome) → j < length xs → x ≡ get_or xs j x →
    old ≡ outcomes_ran (take j xs) → new ≡ old ++ outcomes_by x → new ≡ outcomes_ran (take (j + 1) xs)
outcomes-next xs j x old new l e f g =
    g ∙ ap (λ os. os ++ outcomes_by x) f ∙ sym (outcomes-more (take j xs) x) ∙ ap outcomes_ran (ap (λ y. take j xs ++ y ∷ []) e ∙ sym (take_more xs j x l))
