-- Wishes are one where they give the same everywhere; a part that is driven twice is as driven the second time.
use Rattle.std.proofs.Common.{◌≡◌, ℕ, ◌+◌, List, [], ◌∷◌, length, Bool, true, false, if◌then◌else◌, refl, ap, sym, ◌∙◌, Option, Some, None, arith, ◌||◌}
use Rattle.std.specs.declared.cmp.Ordering.{Ordering}
use Rattle.std.specs.declared.cmp.Ordering.TheVariants.{Less, Equal, Greater}
use Rattle.std.specs.Ordering.{is_eq, match_ordering}
use Rattle.std.specs.BTreeMap.{insert_entry}
use Rattle.std.specs.Cmp.{Equal-is}
use Rattle.std.proofs.lemmas.Option.{same_Some}
use Rattle.lh_time.specs.declared.Instant.{Instant}
use Rattle.lh_types.specs.Wish.{DueBit, due_bit, due_bit_cmp, Wish, with_bit, with_bits}
use Rattle.lh_trace_laws.specs.Wishes.{look, IsBelow, IsInOrder, WishExt, LaterDriveReplaces}
use Rattle.lh_history_laws.proofs.DueBits.{due_bit_self, below_trans, turned, in_order-insert, due_bit_one}
use Rattle.lh_bits.specs.Writes.{numbered}

look_below : (k : DueBit) (es : Wish) → IsBelow k es → look k es ≡ None
look_below k [] x = refl
look_below k (e ∷ es) x = rw x.0 (look_below k es x.1)

look_head : (e : DueBit × Bool) (es : Wish) → look e.0 (e ∷ es) ≡ Some e.1
look_head e es = rw (due_bit_self e.0)

once : (b : Bool) (x y l : Option Bool) → (if b then x else l) ≡ (if b then x else (if b then y else l))
once true x y l = refl
once false x y l = refl

swapped : (b d : Bool) (x y l : Option Bool) → (b ≡ true → d ≡ true → ⊥) → (if b then x else (if d then y else l)) ≡ (if d then y else (if b then x else l))
swapped true true x y l h = absurd (h refl refl)
swapped true false x y l h = refl
swapped false true x y l h = refl
swapped false false x y l h = refl

-- one more entry changes what stands at its key
pub look-insert : (k j : DueBit) (v : Bool) (es : Wish) → look k (insert_entry due_bit_cmp es j v) ≡ (if is_eq (due_bit_cmp k j) then Some v else look k es)
look-insert k j v [] = refl
look-insert k j v (e ∷ es) = at (due_bit_cmp j e.0) refl (look-insert k j v es)
  where
    at : (o : Ordering) → due_bit_cmp j e.0 ≡ o → look k (insert_entry due_bit_cmp es j v) ≡ (if is_eq (due_bit_cmp k j) then Some v else look k es)
        → look k (match_ordering o ((j, v) ∷ e ∷ es) ((e.0, v) ∷ es) (e ∷ insert_entry due_bit_cmp es j v)) ≡ (if is_eq (due_bit_cmp k j) then Some v else look k (e ∷ es))
    at Less p ih = refl
    at Equal p ih = rw (due_bit_one j e.0 p) (once (is_eq (due_bit_cmp k e.0)) (Some v) (Some e.1) (look k es))
    at Greater p ih = rw ih (swapped (is_eq (due_bit_cmp k e.0)) (is_eq (due_bit_cmp k j)) (Some e.1) (Some v) (look k es)
        (λ a b. apart (due_bit_one k e.0 ((Equal-is _).0 a)) (due_bit_one k j ((Equal-is _).0 b)) p))
      where
        apart : k ≡ e.0 → k ≡ j → due_bit_cmp j e.0 ≡ Greater → ⊥
        apart x y q = clash (sym (due_bit_self e.0) ∙ ap (λ u. due_bit_cmp u e.0) (sym x ∙ y) ∙ q)
          where
            clash : Equal ≡ Greater → ⊥
            clash z = cc

-- two wishes that give the same at every key
pub wish_ext : WishExt
wish_ext [] [] a b h = refl
wish_ext [] (y ∷ ys) a b h = absurd (clash (h y.0 ∙ look_head y ys))
  where
    clash : None ≡ Some y.1 → ⊥
    clash z = cc
wish_ext (x ∷ xs) [] a b h = absurd (clash (sym (look_head x xs) ∙ h x.0))
  where
    clash : Some x.1 ≡ None → ⊥
    clash z = cc
wish_ext (x ∷ xs) (y ∷ ys) a b h = at (due_bit_cmp x.0 y.0) refl (wish_ext xs ys a.1 b.1)
  where
    clash : {v : Bool} → Some v ≡ None → ⊥
    clash z = cc

    at : (o : Ordering) → due_bit_cmp x.0 y.0 ≡ o → (((k : DueBit) → look k xs ≡ look k ys) → xs ≡ ys) → x ∷ xs ≡ y ∷ ys
    at Less p ih = absurd (clash (sym (look_head x xs) ∙ h x.0 ∙ look_below x.0 (y ∷ ys) (p, below_trans x.0 y.0 ys p b.0)))
    at Greater p ih = absurd (clash (sym (look_head y ys) ∙ sym (h y.0) ∙ look_below y.0 (x ∷ xs) (turned x.0 y.0 p, below_trans y.0 x.0 xs (turned x.0 y.0 p) a.0)))
    at Equal p ih = joined x.0 y.0 x.1 y.1 xs ys same_key same_value (ih tails)
      where
        joined : (j k : DueBit) (v w : Bool) (us vs : Wish) → j ≡ k → v ≡ w → us ≡ vs → (j, v) ∷ us ≡ (k, w) ∷ vs
        joined j k v w us vs p q r = cc

        same_key : x.0 ≡ y.0
        same_key = due_bit_one x.0 y.0 p

        same_value : x.1 ≡ y.1
        same_value = same_Some x.1 y.1 (sym (look_head x xs) ∙ h x.0 ∙ ap (λ k. look k (y ∷ ys)) same_key ∙ look_head y ys)

        tails : (k : DueBit) → look k xs ≡ look k ys
        tails k = tail_at (is_eq (due_bit_cmp k x.0)) refl
          where
            tail_at : (c : Bool) → is_eq (due_bit_cmp k x.0) ≡ c → look k xs ≡ look k ys
            tail_at true q =
                let e : k ≡ x.0 = due_bit_one k x.0 ((Equal-is _).0 q) in
                ap (λ u. look u xs) e ∙ look_below x.0 xs a.0 ∙ sym (ap (λ u. look u ys) (e ∙ same_key) ∙ look_below y.0 ys b.0)
            tail_at false q =
                sym (ap (λ c. if c then Some x.1 else look k xs) q) ∙ h k ∙ ap (λ c. if c then Some y.1 else look k ys) (ap (λ u. is_eq (due_bit_cmp k u)) (sym same_key) ∙ q)

-- a drive of several bits
abbrev writes : Instant → List (ℕ × Bool) → Wish → Wish
writes t [] w = w
writes t (x ∷ xs) w = writes t xs (insert_entry due_bit_cmp w (due_bit t x.0) x.1)

-- what the last entry at a key gives, and else o
abbrev last_at : DueBit → Instant → List (ℕ × Bool) → Option Bool → Option Bool
last_at k t [] o = o
last_at k t (x ∷ xs) o = last_at k t xs (if is_eq (due_bit_cmp k (due_bit t x.0)) then Some x.1 else o)

look-writes : (k : DueBit) (t : Instant) (xs : List (ℕ × Bool)) (w : Wish) → look k (writes t xs w) ≡ last_at k t xs (look k w)
look-writes k t [] w = refl
look-writes k t (x ∷ xs) w = look-writes k t xs (insert_entry due_bit_cmp w (due_bit t x.0) x.1) ∙ ap (last_at k t xs) (look-insert k (due_bit t x.0) x.1 w)

in_order-writes : (t : Instant) (xs : List (ℕ × Bool)) (w : Wish) → IsInOrder w → IsInOrder (writes t xs w)
in_order-writes t [] w a = a
in_order-writes t (x ∷ xs) w a = in_order-writes t xs _ (in_order-insert (due_bit t x.0) x.1 w a)

-- the same bits
abbrev SameBits : List (ℕ × Bool) → List (ℕ × Bool) → Type 0
SameBits [] [] = Unit {0}
SameBits (x ∷ xs) (y ∷ ys) = (x.0 ≡ y.0) × SameBits xs ys
SameBits [] (y ∷ ys) = ⊥
SameBits (x ∷ xs) [] = ⊥

-- one of the bits is at the key
abbrev hit : DueBit → Instant → List (ℕ × Bool) → Bool
hit k t [] = false
hit k t (x ∷ xs) = is_eq (due_bit_cmp k (due_bit t x.0)) || hit k t xs

last_missed : (k : DueBit) (t : Instant) (xs : List (ℕ × Bool)) (o : Option Bool) → hit k t xs ≡ false → last_at k t xs o ≡ o
last_missed k t [] o h = refl
last_missed k t (x ∷ xs) o h = at (is_eq (due_bit_cmp k (due_bit t x.0))) h (λ u. last_missed k t xs u)
  where
    at : (b : Bool) → (b || hit k t xs) ≡ false → ((u : Option Bool) → hit k t xs ≡ false → last_at k t xs u ≡ u) → last_at k t xs (if b then Some x.1 else o) ≡ o
    at true q ih = cc
    at false q ih = ih o q

last_hit : (k : DueBit) (t : Instant) (xs : List (ℕ × Bool)) (o p : Option Bool) → hit k t xs ≡ true → last_at k t xs o ≡ last_at k t xs p
last_hit k t [] o p h = cc
last_hit k t (x ∷ xs) o p h = at (is_eq (due_bit_cmp k (due_bit t x.0))) h (λ u v. last_hit k t xs u v)
  where
    at : (b : Bool) → (b || hit k t xs) ≡ true → ((u v : Option Bool) → hit k t xs ≡ true → last_at k t xs u ≡ last_at k t xs v)
        → last_at k t xs (if b then Some x.1 else o) ≡ last_at k t xs (if b then Some x.1 else p)
    at true q ih = refl
    at false q ih = ih o p q

same_hit : (k : DueBit) (t : Instant) (xs ys : List (ℕ × Bool)) → SameBits xs ys → hit k t xs ≡ hit k t ys
same_hit k t [] [] s = refl
same_hit k t [] (y ∷ ys) s = absurd s
same_hit k t (x ∷ xs) [] s = absurd s
same_hit k t (x ∷ xs) (y ∷ ys) s =
    ap (λ b. is_eq (due_bit_cmp k (due_bit t b)) || hit k t xs) s.0 ∙ ap (λ h. is_eq (due_bit_cmp k (due_bit t y.0)) || h) (same_hit k t xs ys s.1)

last_twice : (k : DueBit) (t : Instant) (xs ys : List (ℕ × Bool)) (o : Option Bool) → SameBits xs ys → last_at k t ys (last_at k t xs o) ≡ last_at k t ys o
last_twice k t xs ys o s = at (hit k t ys) refl
  where
    at : (b : Bool) → hit k t ys ≡ b → last_at k t ys (last_at k t xs o) ≡ last_at k t ys o
    at true h = last_hit k t ys (last_at k t xs o) o h
    at false h = ap (last_at k t ys) (last_missed k t xs o (same_hit k t xs ys s ∙ h))

-- a part that is driven twice at one instant is as driven the second time
pub writes_twice : (t : Instant) (xs ys : List (ℕ × Bool)) (w : Wish) → SameBits xs ys → IsInOrder w → writes t ys (writes t xs w) ≡ writes t ys w
writes_twice t xs ys w s a = wish_ext _ _ (in_order-writes t ys _ (in_order-writes t xs w a)) (in_order-writes t ys w a)
    (λ k. look-writes k t ys (writes t xs w) ∙ ap (last_at k t ys) (look-writes k t xs w) ∙ last_twice k t xs ys (look k w) s ∙ sym (look-writes k t ys w))

bits_are_writes : (due : Instant) (lo : ℕ) (bs : List Bool) (w : Wish) → with_bits w due lo bs ≡ writes due (numbered lo bs) w
bits_are_writes due lo [] w = refl
bits_are_writes due lo (b ∷ more) w = bits_are_writes due (lo + 1) more (with_bit w due lo b)

same_numbers : (lo : ℕ) (xs ys : List Bool) → length xs ≡ length ys → SameBits (numbered lo xs) (numbered lo ys)
same_numbers lo [] [] h = tt
same_numbers lo [] (y ∷ ys) h = absurd (omega arith)
same_numbers lo (x ∷ xs) [] h = absurd (omega arith)
same_numbers lo (x ∷ xs) (y ∷ ys) h = (refl, same_numbers (lo + 1) xs ys (omega arith))

pub later_drive_replaces : LaterDriveReplaces
later_drive_replaces w None lo xs ys a h = refl
later_drive_replaces w (Some due) lo xs ys a h =
    ap (λ v. with_bits v due lo ys) (bits_are_writes due lo xs w) ∙ bits_are_writes due lo ys (writes due (numbered lo xs) w)
    ∙ writes_twice due (numbered lo xs) (numbered lo ys) w (same_numbers lo xs ys h) a ∙ sym (bits_are_writes due lo ys w)
