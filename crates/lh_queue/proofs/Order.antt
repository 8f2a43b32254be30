-- The order of wishes, and lists of them in order.
use Rattle.std.proofs.Common.{◌≡◌, ◌≢◌, ℕ, List, [], ◌∷◌, ◌++◌, true, false, refl, ap, sym, ◌∙◌}
use Rattle.std.specs.declared.cmp.Ordering.{Ordering}
use Rattle.std.specs.declared.cmp.Ordering.TheVariants.{Less, Equal, Greater}
use Rattle.std.specs.Ordering.{is_lt, ordering_reverse}
use Rattle.std.specs.Cmp.{IsTotalOrder}
use Rattle.std.proofs.lemmas.Cmp.{then_total, on_total, nat_cmp_total}
use Rattle.lh_time.proofs.OrderLemmas.{instant_cmp_total, is_less}
use Rattle.lh_queue.specs.declared.wish.Wish.{Wish}
use Rattle.lh_queue.specs.Queued.{QueuedWish, wish_cmp, is_before, IsBeforeAll, AreInOrder, NoneHas, KeysDiffer, NoneCompetes, NamesOnce, EachNamesOnce, with_held}
use Rattle.lh_queue.specs.Places.{AllBefore}

pub wish_total : IsTotalOrder wish_cmp
wish_total = then_total (on_total (λ (w : Wish). w.due) instant_cmp_total) (then_total (on_total (λ (w : Wish). w.made) instant_cmp_total) (on_total (λ (w : Wish). w.instance) nat_cmp_total))

pub before_trans : (a b c : Wish) → is_before a b ≡ true → is_before b c ≡ true → is_before a c ≡ true
before_trans a b c h k = ap is_lt (wish_total.trans a b c (is_less _ h) (is_less _ k))

other_way : (o : Ordering) → is_lt o ≡ true → is_lt (ordering_reverse o) ≡ false
other_way Less h = refl
other_way Equal h = cc
other_way Greater h = cc

-- of two wishes not both come before the other
pub before_not : (a b : Wish) → is_before a b ≡ true → is_before b a ≡ false
before_not a b h = ap is_lt (wish_total.antisymm b a) ∙ other_way (wish_cmp a b) h

turned : (o : Ordering) → is_lt (ordering_reverse o) ≡ false → o ≢ Equal → is_lt o ≡ true
turned Less h n = refl
turned Equal h n = absurd (n refl)
turned Greater h n = cc

-- of two wishes that do not compete one comes before the other
pub before_or : (w x : Wish) → is_before x w ≡ false → wish_cmp w x ≢ Equal → is_before w x ≡ true
before_or w x h n = turned (wish_cmp w x) (ap is_lt (sym (wish_total.antisymm x w)) ∙ h) n

pub before_all : (a b : Wish) (xs : List QueuedWish) → is_before a b ≡ true → IsBeforeAll b xs → IsBeforeAll a xs
before_all a b [] h k = tt
before_all a b (x ∷ xs) h k = (before_trans a b x.wish h k.0, before_all a b xs h k.1)

before_insert : (w : Wish) (front : List QueuedWish) (x : QueuedWish) (back : List QueuedWish) → is_before w x.wish ≡ true → IsBeforeAll w (front ++ back) → IsBeforeAll w (front ++ x ∷ back)
before_insert w [] x back h k = (h, k)
before_insert w (z ∷ zs) x back h k = (k.0, before_insert w zs x back h k.1)

pub order_insert : (front : List QueuedWish) (x : QueuedWish) (back : List QueuedWish) → AreInOrder (front ++ back) → AllBefore front x.wish → IsBeforeAll x.wish back → AreInOrder (front ++ x ∷ back)
order_insert [] x back o a b = (b, o)
order_insert (z ∷ zs) x back o a b = (before_insert z.wish zs x back a.0 o.0, order_insert zs x back o.1 a.1 b)

-- a wish goes between those that come before it and those that come after it
pub with_held_between : (front : List QueuedWish) (x : QueuedWish) (back : List QueuedWish) → AllBefore front x.wish → IsBeforeAll x.wish back → with_held (front ++ back) x ≡ front ++ x ∷ back
with_held_between [] x [] a b = refl
with_held_between [] x (y ∷ ys) a b = rw b.0 refl
with_held_between (z ∷ zs) x back a b = rw (before_not z.wish x.wish a.0) (ap (λ more. z ∷ more) (with_held_between zs x back a.1 b))

none_insert : (k : ℕ) (front : List QueuedWish) (x : QueuedWish) (back : List QueuedWish) → x.key ≢ k → NoneHas k (front ++ back) → NoneHas k (front ++ x ∷ back)
none_insert k [] x back n h = (n, h)
none_insert k (z ∷ zs) x back n h = (h.0, none_insert k zs x back n h.1)

-- a key that none has among the old ones and the new one
pub none_inserted : (k : ℕ) (front : List QueuedWish) (x : QueuedWish) (back : List QueuedWish) → NoneHas k (front ++ x ∷ back) → (x.key ≢ k) × NoneHas k (front ++ back)
none_inserted k [] x back h = h
none_inserted k (z ∷ zs) x back h = let r = none_inserted k zs x back h.1 in (r.0, (h.0, r.1))

pub keys_insert : (front : List QueuedWish) (x : QueuedWish) (back : List QueuedWish) → KeysDiffer (front ++ back) → NoneHas x.key (front ++ back) → KeysDiffer (front ++ x ∷ back)
keys_insert [] x back d n = (n, d)
keys_insert (z ∷ zs) x back d n = (none_insert z.key zs x back (λ e. n.0 (sym e)) d.0, keys_insert zs x back d.1 n.1)

pub once_insert : (front : List QueuedWish) (x : QueuedWish) (back : List QueuedWish) → EachNamesOnce (front ++ back) → NamesOnce x.wish.bits → EachNamesOnce (front ++ x ∷ back)
once_insert [] x back o n = (n, o)
once_insert (z ∷ zs) x back o n = (o.0, once_insert zs x back o.1 n)

pub none_front : (k : ℕ) (front back : List QueuedWish) → NoneHas k (front ++ back) → NoneHas k front
none_front k [] back h = tt
none_front k (z ∷ zs) back h = (h.0, none_front k zs back h.1)

pub none_back : (k : ℕ) (front back : List QueuedWish) → NoneHas k (front ++ back) → NoneHas k back
none_back k [] back h = h
none_back k (z ∷ zs) back h = none_back k zs back h.1

-- in a list of different keys, no other has the key of one
pub others_lack : (front : List QueuedWish) (y : QueuedWish) (back : List QueuedWish) → KeysDiffer (front ++ y ∷ back) → NoneHas y.key front × NoneHas y.key back
others_lack [] y back d = (tt, d.0)
others_lack (z ∷ zs) y back d =
    let r = others_lack zs y back d.1 in
    ((λ e. (none_back z.key zs (y ∷ back) d.0).0 (sym e), r.0), r.1)

pub order_back : (front back : List QueuedWish) → AreInOrder (front ++ back) → AreInOrder back
order_back [] back o = o
order_back (z ∷ zs) back o = order_back zs back o.1

pub competes_back : (w : Wish) (front back : List QueuedWish) → NoneCompetes w (front ++ back) → NoneCompetes w back
competes_back w [] back h = h
competes_back w (z ∷ zs) back h = competes_back w zs back h.1
