-- The buckets lead to the held wishes.
use Rattle.std.proofs.Common.{◌≡◌, ◌≢◌, ◌≤◌, ◌<◌, ◌⊎◌, inl, inr, ⊎_elim, ◌↔◌, ℕ, List, [], ◌∷◌, Bool, true, false, if◌then◌else◌, nat_eq, Option, Some, None, refl, ap, sym, ◌∙◌, subst, arith}
use Rattle.std.proofs.lemmas.Bool.{eqb-true, eq-eqb, ne_eqb, eqb-false}
use Rattle.lh_queue.specs.declared.queue.Bucket.{Bucket}
use Rattle.lh_queue.specs.Queued.{QueuedWish, AreInOrder, NoneHas, KeysDiffer}
use Rattle.lh_queue.specs.Buckets.{time, link, next_in, bucket, buckets_after, buckets_of, due_within, KeysLead, HasTime, IsDueWithin, EachLeads, AreBuckets}
use Rattle.lh_queue.proofs.WishPlaces.{EachFrom, each_from, buckets_rise}

-- the times of buckets are those of the wishes
after_exact : (g fs : ℕ) (xs : List QueuedWish) → (g ≡ fs) ⊎ HasTime fs (buckets_after g xs) ↔ (g ≡ fs) ⊎ IsDueWithin fs xs
after_exact g fs [] = (λ h. h, λ h. h)
after_exact g fs (x ∷ more) = at (nat_eq (time x) g) refl (after_exact g fs more) (after_exact (time x) fs more)
  where
    at : (b : Bool) → nat_eq (time x) g ≡ b → ((g ≡ fs) ⊎ HasTime fs (buckets_after g more) ↔ (g ≡ fs) ⊎ IsDueWithin fs more)
        → ((time x ≡ fs) ⊎ HasTime fs (buckets_after (time x) more) ↔ (time x ≡ fs) ⊎ IsDueWithin fs more)
        → (g ≡ fs) ⊎ HasTime fs (if b then buckets_after g more else bucket x ∷ buckets_after (time x) more) ↔ (g ≡ fs) ⊎ IsDueWithin fs (x ∷ more)
    at true e ih jh = (
      λ h. ⊎_elim inl (λ k. inr (inr k)) (ih.0 h),
      λ h. ⊎_elim inl (λ k. ⊎_elim (λ q. inl (sym (eqb-true (time x) g e) ∙ q)) (λ q. ih.1 (inr q)) k) h,
    )
    at false e ih jh = (
      λ h. ⊎_elim inl (λ k. inr (jh.0 k)) h,
      λ h. ⊎_elim inl (λ k. inr (jh.1 k)) h,
    )

exact : (held : List QueuedWish) (fs : ℕ) → HasTime fs (buckets_of held) ↔ IsDueWithin fs held
exact [] fs = (λ h. h, λ h. h)
exact (x ∷ more) fs = after_exact (time x) fs more

-- none is due at an earlier time
none_within : (fs g : ℕ) (xs : List QueuedWish) → fs < g → EachFrom g xs → due_within fs xs ≡ []
none_within fs g [] h e = refl
none_within fs g (x ∷ more) h e = rw (ne_eqb (time x) fs (λ q. differ (time x) fs g h e.0 q)) (none_within fs g more h e.1)
  where
    differ : (a f g : ℕ) → f < g → g ≤ a → a ≡ f → ⊥
    differ a f g h l q = omega arith

-- the keys lead on in a part of the list as in the whole
Follows : List QueuedWish → List QueuedWish → Type 0
Follows all [] = Unit {0}
Follows all (x ∷ more) = (next_in all x.key ≡ link x more) × Follows all more

leads_on : (all : List QueuedWish) (x : QueuedWish) (more : List QueuedWish) → AreInOrder (x ∷ more) → Follows all more → KeysLead all (link x more) (due_within (time x) more)
unfolding Follows
leads_on all x [] o f = tt
leads_on all x (y ∷ ys) o f = at (nat_eq (time y) (time x)) refl (leads_on all y ys o.1 f.1)
  where
    at : (b : Bool) → nat_eq (time y) (time x) ≡ b → KeysLead all (link y ys) (due_within (time y) ys)
        → KeysLead all (if b then Some y.key else None) (if b then y ∷ due_within (time x) ys else due_within (time x) ys)
    at true e ih =
        let P : ℕ → Type 0 = λ g. KeysLead all (link y ys) (due_within g ys) in
        let Q : Option ℕ → Type 0 = λ k. KeysLead all k (due_within (time x) ys) in
        (refl, subst Q (sym f.0) (subst P (eqb-true (time y) (time x) e) ih))
    at false e ih =
        let d : time y ≢ time x = eqb-false (time y) (time x) e in
        let u = each_from x.wish (y ∷ ys) o.0 in
        let h : time x ≤ time y = u.0 in
        let l : time x < time y = omega arith in
        let Q : List QueuedWish → Type 0 = λ xs. KeysLead all None xs in
        subst Q (sym (none_within (time x) (time y) ys l (each_from y.wish ys o.1.0))) tt

-- a bucket's first key leads to those of its time
leads_from : (all : List QueuedWish) (x : QueuedWish) (more : List QueuedWish) → AreInOrder (x ∷ more) → Follows all (x ∷ more) → KeysLead all (Some x.key) (due_within (time x) (x ∷ more))
unfolding Follows
leads_from all x more o f =
    let Q : List QueuedWish → Type 0 = λ xs. KeysLead all (Some x.key) xs in
    let R : Option ℕ → Type 0 = λ k. KeysLead all k (due_within (time x) more) in
    subst Q (sym (ap (λ b. if b then x ∷ due_within (time x) more else due_within (time x) more) (eq-eqb (time x) (time x) refl))) (refl, subst R (sym f.0) (leads_on all x more o f.1))

-- those due at a time are as many in the whole as in a part behind earlier ones
SameWithin : List QueuedWish → ℕ → List QueuedWish → Type 0
SameWithin all g xs = (fs : ℕ) → g < fs → due_within fs all ≡ due_within fs xs

after_leads : (all : List QueuedWish) (g : ℕ) (xs : List QueuedWish) → EachFrom g xs → AreInOrder xs → Follows all xs → SameWithin all g xs → EachLeads all (buckets_after g xs)
unfolding Follows SameWithin
after_leads all g [] e o f s = tt
after_leads all g (x ∷ more) e o f s = at (nat_eq (time x) g) refl (λ t. after_leads all g more e.1 o.1 f.1 t) (λ t. after_leads all (time x) more (each_from x.wish more o.0) o.1 f.1 t)
  where
    passed : (fs : ℕ) → time x < fs → due_within fs (x ∷ more) ≡ due_within fs more
    passed fs h = ap (λ b. if b then x ∷ due_within fs more else due_within fs more) (ne_eqb (time x) fs (λ q. differ (time x) fs h q))
      where
        differ : (a b : ℕ) → a < b → a ≡ b → ⊥
        differ a b h q = omega arith

    at : (b : Bool) → nat_eq (time x) g ≡ b → (SameWithin all g more → EachLeads all (buckets_after g more)) → (SameWithin all (time x) more → EachLeads all (buckets_after (time x) more))
        → EachLeads all (if b then buckets_after g more else bucket x ∷ buckets_after (time x) more)
    at true q ih jh = let h : time x ≡ g = eqb-true (time x) g q in ih (λ fs l. s fs l ∙ passed fs (omega arith))
    at false q ih jh =
        let d : time x ≢ g = eqb-false (time x) g q in
        let h : g ≤ time x = e.0 in
        let l : g < time x = omega arith in
        let P : List QueuedWish → Type 0 = λ xs. KeysLead all (Some x.key) xs in
        (subst P (sym (s (time x) l)) (leads_from all x more o f), jh (λ fs m. s fs (omega arith) ∙ passed fs m))

follows_back : (all : List QueuedWish) (k : QueuedWish) (xs : List QueuedWish) → NoneHas k.key xs → (rest : List QueuedWish) → Follows rest xs → ((j : ℕ) → j ≢ k.key → next_in all j ≡ next_in rest j)
    → Follows all xs
unfolding Follows
follows_back all k [] n rest f h = tt
follows_back all k (x ∷ more) n rest f h = (h x.key n.0 ∙ f.0, follows_back all k more n.1 rest f.1 h)

follows_all : (held : List QueuedWish) → KeysDiffer held → Follows held held
unfolding Follows
follows_all [] u = tt
follows_all (x ∷ more) u = (
  ap (λ b. if b then link x more else next_in more x.key) (eq-eqb x.key x.key refl),
  follows_back (x ∷ more) x more u.0 more (follows_all more u.1) (λ j n. ap (λ b. if b then link x more else next_in more j) (ne_eqb x.key j (λ e. n (sym e)))),
)

each_leads : (held : List QueuedWish) → AreInOrder held → KeysDiffer held → EachLeads held (buckets_of held)
unfolding Follows SameWithin
each_leads [] o u = tt
each_leads (x ∷ more) o u =
    let f = follows_all (x ∷ more) u in (
      leads_from (x ∷ more) x more o f,
      after_leads (x ∷ more) (time x) more (each_from x.wish more o.0) o.1 f.1
          (λ fs h. ap (λ b. if b then x ∷ due_within fs more else due_within fs more) (ne_eqb (time x) fs (λ q. differ (time x) fs h q))),
    )
  where
    differ : (a b : ℕ) → a < b → a ≡ b → ⊥
    differ a b h q = omega arith

pub are_buckets : (held : List QueuedWish) (buckets : List Bucket) → AreInOrder held → KeysDiffer held → buckets ≡ buckets_of held → AreBuckets held buckets
are_buckets held buckets o u e =
    let P : List Bucket → Type 0 = AreBuckets held in
    subst P (sym e) (record { rise = buckets_rise held o; exact = exact held; lead = each_leads held o u })
