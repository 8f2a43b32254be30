-- Two drives of one part that follow each other wish what they wish as one.
use Rattle.std.proofs.Common.{◌≡◌, ℕ, ◌+◌, ◌<◌, List, [], ◌∷◌, length, Bool, true, false, ◌||◌, refl, ap, sym, ◌∙◌, subst, Option, Some, None, arith}
use Rattle.std.specs.Bool.{if◌then◌else◌}
use Rattle.std.specs.declared.cmp.Ordering.{Ordering}
use Rattle.std.specs.declared.cmp.Ordering.TheVariants.{Less, Equal, Greater}
use Rattle.std.specs.Ordering.{nat_cmp, ordering_then, match_ordering}
use Rattle.std.specs.BTreeMap.{insert_entry}
use Rattle.std.proofs.lemmas.Bool.Decides.{nat_tests}
use Rattle.lh_time.specs.declared.Instant.{Instant}
use Rattle.lh_time.specs.Order.{instant_cmp}
use Rattle.lh_time.proofs.OrderLemmas.{nat_less, nat_same}
use Rattle.lh_types.specs.Bits.{value_bits}
use Rattle.lh_types.specs.Fits.{FitsType}
use Rattle.lh_types.specs.Wish as wishes
use Rattle.lh_types.specs.Wish.{Wish, DueBit, due_bit_cmp, with_bits}
use Rattle.lh_bits.proofs.ValueBits.{length-value_bits}
use Rattle.lh_term.specs.Mean.{mean}
use Rattle.lh_term.specs.declared.part.Part.{Part}
use Rattle.lh_term.proofs.TermTypes.{mean_fits}
use Rattle.lh_region_def.specs.Typed.{IsOfType}
use Rattle.lh_region_def.specs.Means.{range_in, is_one, due_by}
use Rattle.lh_region_def.specs.Adjacent.{beyond, drive_merged, AdjacentDrivesMerge, MergedDriveIsTyped}
use Rattle.lh_region_def.proofs.MergedValues.{or-one, beyond-condition, beyond-one, choose, or-condition, made-choice}

-- ---- one key twice, and two keys

nat-above : (a b : ℕ) → a < b → nat_cmp b a ≡ Greater
nat-above a b h = grind (arith, nat_tests)

-- a greater bit is above what a lower one is not below
nat-over : (a b c : ℕ) → a < b → nat_cmp a c ≡ Equal → nat_cmp b c ≡ Greater
nat-over a b c h e = grind (arith, nat_tests)

nat-beyond : (a b c : ℕ) → a < b → nat_cmp a c ≡ Greater → nat_cmp b c ≡ Greater
nat-beyond a b c h e = grind (arith, nat_tests)

instant-self : (t : Instant) → instant_cmp t t ≡ Equal
instant-self t = rw (nat_same t.fs, nat_same t.delta, nat_same t.eps) refl

abbrev key : Instant → ℕ → DueBit
key t i = record { due = t; bit = i }

key-self : (t : Instant) (i : ℕ) → due_bit_cmp (key t i) (key t i) ≡ Equal
key-self t i = rw (instant-self t, nat_same i) refl

key-above : (t : Instant) (i j : ℕ) → i < j → due_bit_cmp (key t j) (key t i) ≡ Greater
key-above t i j h = rw (instant-self t, nat-above i j h) refl

key-below : (t : Instant) (i j : ℕ) → i < j → due_bit_cmp (key t i) (key t j) ≡ Less
key-below t i j h = rw (instant-self t, nat_less i j h) refl

key-over : (t : Instant) (i j : ℕ) (k : DueBit) → i < j → due_bit_cmp (key t i) k ≡ Equal → due_bit_cmp (key t j) k ≡ Greater
key-over t i j k h e = by (instant_cmp t k.due) e
  where
    by : (o : Ordering) → ordering_then o (nat_cmp i k.bit) ≡ Equal → ordering_then o (nat_cmp j k.bit) ≡ Greater
    by Less q = cc
    by Greater q = cc
    by Equal q = nat-over i j k.bit h q

key-beyond : (t : Instant) (i j : ℕ) (k : DueBit) → i < j → due_bit_cmp (key t i) k ≡ Greater → due_bit_cmp (key t j) k ≡ Greater
key-beyond t i j k h e = by (instant_cmp t k.due) e
  where
    by : (o : Ordering) → ordering_then o (nat_cmp i k.bit) ≡ Greater → ordering_then o (nat_cmp j k.bit) ≡ Greater
    by Less q = cc
    by Greater q = refl
    by Equal q = nat-beyond i j k.bit h q

abbrev put : Wish → DueBit → Bool → Wish
put w k b = insert_entry due_bit_cmp w k b

put-twice : (w : Wish) (t : Instant) (i : ℕ) (a b : Bool) → put (put w (key t i) a) (key t i) b ≡ put w (key t i) b
put-twice [] t i a b = rw (key-self t i) refl
put-twice (e ∷ es) t i a b = by (due_bit_cmp (key t i) e.0) refl (put-twice es t i a b)
  where
    by : (o : Ordering) → due_bit_cmp (key t i) e.0 ≡ o → put (put es (key t i) a) (key t i) b ≡ put es (key t i) b
        → put (match_ordering o ((key t i, a) ∷ e ∷ es) ((e.0, a) ∷ es) (e ∷ put es (key t i) a)) (key t i) b ≡ match_ordering o ((key t i, b) ∷ e ∷ es) ((e.0, b) ∷ es) (e ∷ put es (key t i) b)
    by Less q ih = rw (key-self t i) refl
    by Equal q ih = rw q refl
    by Greater q ih = rw q (ap (λ w. e ∷ w) ih)

-- a lower bit and then a higher one, in either order
put-both : (w : Wish) (t : Instant) (i j : ℕ) (a b : Bool) → i < j → put (put w (key t i) a) (key t j) b ≡ put (put w (key t j) b) (key t i) a
put-both [] t i j a b h = rw (key-above t i j h, key-below t i j h) refl
put-both (e ∷ es) t i j a b h = by (due_bit_cmp (key t i) e.0) refl (due_bit_cmp (key t j) e.0) refl (put-both es t i j a b h)
  where
    by : (o : Ordering) → due_bit_cmp (key t i) e.0 ≡ o → (r : Ordering) → due_bit_cmp (key t j) e.0 ≡ r → put (put es (key t i) a) (key t j) b ≡ put (put es (key t j) b) (key t i) a
        → put (match_ordering o ((key t i, a) ∷ e ∷ es) ((e.0, a) ∷ es) (e ∷ put es (key t i) a)) (key t j) b
        ≡ put (match_ordering r ((key t j, b) ∷ e ∷ es) ((e.0, b) ∷ es) (e ∷ put es (key t j) b)) (key t i) a
    by Less q Less r ih = rw (key-above t i j h, key-below t i j h, r) refl
    by Less q Equal r ih = rw (key-above t i j h, r, q) refl
    by Less q Greater r ih = rw (key-above t i j h, r, q) refl
    by Equal q Greater r ih = rw (r, q) refl
    by Equal q Less r ih = let z : Less ≡ Greater = sym r ∙ key-over t i j e.0 h q in cc
    by Equal q Equal r ih = let z : Equal ≡ Greater = sym r ∙ key-over t i j e.0 h q in cc
    by Greater q Greater r ih = rw (r, q) (ap (λ w. e ∷ w) ih)
    by Greater q Less r ih = let z : Less ≡ Greater = sym r ∙ key-beyond t i j e.0 h q in cc
    by Greater q Equal r ih = let z : Equal ≡ Greater = sym r ∙ key-beyond t i j e.0 h q in cc

-- a bit below others, before or after them
put-under : (w : Wish) (t : Instant) (i lo : ℕ) (a : Bool) (bs : List Bool) → i < lo → put (with_bits w t lo bs) (key t i) a ≡ with_bits (put w (key t i) a) t lo bs
put-under w t i lo a [] h = refl
put-under w t i lo a (b ∷ bs) h = put-under (put w (key t lo) b) t i (lo + 1) a bs (omega (arith, h)) ∙ ap (λ v. with_bits v t (lo + 1) bs) (sym (put-both w t i lo a b h))

-- of two rows of as many bits the second stands
bits-twice : (w : Wish) (t : Instant) (lo : ℕ) (as' bs : List Bool) → length as' ≡ length bs → with_bits (with_bits w t lo as') t lo bs ≡ with_bits w t lo bs
bits-twice w t lo [] [] h = refl
bits-twice w t lo [] (b ∷ bs) h = absurd (omega (arith, h))
bits-twice w t lo (a ∷ as') [] h = absurd (omega (arith, h))
bits-twice w t lo (a ∷ as') (b ∷ bs) h =
    ap (λ v. with_bits v t (lo + 1) bs) (put-under (put w (key t lo) a) t lo (lo + 1) b as' (omega arith) ∙ ap (λ v. with_bits v t (lo + 1) as') (put-twice w t lo a b))
    ∙ bits-twice (put w (key t lo) b) t (lo + 1) as' bs (omega (arith, h))

drive-twice : (w : Wish) (due : Option Instant) (lo : ℕ) (as' bs : List Bool) → length as' ≡ length bs → wishes.with_drive (wishes.with_drive w due lo as') due lo bs ≡ wishes.with_drive w due lo bs
drive-twice w None lo as' bs h = refl
drive-twice w (Some t) lo as' bs h = bits-twice w t lo as' bs h

-- ---- the drives

both-one : (w : Wish) (x y : Bool) (due : Option Instant) (lo : ℕ) (va vb vc : List Bool) → length va ≡ length vb → ((x || y) ≡ true → vc ≡ (if y then vb else va))
    → (if y then wishes.with_drive (if x then wishes.with_drive w due lo va else w) due lo vb else (if x then wishes.with_drive w due lo va else w))
    ≡ (if x || y then wishes.with_drive w due lo vc else w)
both-one w true true due lo va vb vc h e = drive-twice w due lo va vb h ∙ ap (wishes.with_drive w due lo) (sym (e refl))
both-one w true false due lo va vb vc h e = ap (wishes.with_drive w due lo) (sym (e refl))
both-one w false true due lo va vb vc h e = ap (wishes.with_drive w due lo) (sym (e refl))
both-one w false false due lo va vb vc h e = refl

pub adjacent-drives-merge : AdjacentDrivesMerge
adjacent-drives-merge past now p n args at w a b ta tb part delay =
    let x : Bool = is_one (mean past now a.cond) in
    let y : Bool = is_one (mean past now b.cond) in
    let vb : IsOfType a.part.ty b.value = subst (λ (q : Part). IsOfType q.ty b.value) part tb.value in
    let merged = drive_merged a b in
    let cond : is_one (mean past now merged.cond) ≡ x || y = or-one past now p n a.cond b.cond ta.cond tb.cond in
    let fa : FitsType (mean past now a.value) a.part.ty = subst (FitsType (mean past now a.value)) ta.value.type (mean_fits past now p n a.value ta.value.typed) in
    let fb : FitsType (mean past now b.value) a.part.ty = subst (FitsType (mean past now b.value)) vb.type (mean_fits past now p n b.value vb.typed) in
    let long : length (value_bits (mean past now a.value)) ≡ length (value_bits (mean past now b.value)) = length-value_bits (mean past now a.value) a.part.ty fa
    ∙ sym (length-value_bits (mean past now b.value) a.part.ty fb) in
    let value : x || y ≡ true → value_bits (mean past now merged.value) ≡ (if y then value_bits (mean past now b.value) else value_bits (mean past now a.value)) = λ h.
    let s = beyond-one past now p n a.cond b.cond ta.cond tb.cond h in
    ap value_bits (choose past now p n (beyond a.cond b.cond) a.value b.value a.part.ty (beyond-condition a.cond b.cond tb.cond) ta.value vb y s) ∙ split y in
    (λ i. if y then wishes.with_drive (if x then wishes.with_drive w (due_by at (mean past now a.delay)) (range_in args a.part).lo (value_bits (mean past now a.value)) else w)
    (due_by at (mean past now (delay i))) (range_in args (part i)).lo
    (value_bits (mean past now b.value)) else (if x then wishes.with_drive w (due_by at (mean past now a.delay)) (range_in args a.part).lo (value_bits (mean past now a.value)) else w))
    ∙ both-one w x y (due_by at (mean past now a.delay)) (range_in args a.part).lo (value_bits (mean past now a.value)) (value_bits (mean past now b.value)) (value_bits (mean past now merged.value))
    long value
    ∙ ap (λ c. if c then wishes.with_drive w (due_by at (mean past now a.delay)) (range_in args a.part).lo (value_bits (mean past now merged.value)) else w) (sym cond)
  where
    split : (y : Bool) → value_bits (if y then mean past now b.value else mean past now a.value) ≡ (if y then value_bits (mean past now b.value) else value_bits (mean past now a.value))
    split true = refl
    split false = refl

pub merged-drives-typed : MergedDriveIsTyped
merged-drives-typed a b ta tb part =
    let vb : IsOfType a.part.ty b.value = subst (λ (q : Part). IsOfType q.ty b.value) part tb.value in
    record {
      cond = or-condition a.cond b.cond ta.cond tb.cond;
      part = ta.part;
      value = made-choice (beyond a.cond b.cond) a.value b.value a.part.ty (beyond-condition a.cond b.cond tb.cond) ta.value vb;
      delay = ta.delay;
    }
