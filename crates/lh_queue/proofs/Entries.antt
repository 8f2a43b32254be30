-- What a wish that is due sets, and what wishes that are due later do not.
use Rattle.std.proofs.Common.{◌≡◌, ◌<◌, ℕ, zero, suc, ◌+◌, List, [], ◌∷◌, ◌++◌, Bool, true, false, not, ◌&&◌, if◌then◌else◌, nat_eq, Some, None, set, refl, ap, sym, ◌∙◌, arith}
use Rattle.std.specs.declared.cmp.Ordering.{Ordering}
use Rattle.std.specs.declared.cmp.Ordering.TheVariants.{Less, Equal, Greater}
use Rattle.std.specs.Ordering.{is_lt, is_le, is_eq, ordering_then, ordering_reverse, nat_cmp}
use Rattle.std.specs.Option.{option_map_or}
use Rattle.std.specs.Cmp.{Equal-is}
use Rattle.std.proofs.lemmas.Cmp.{tied_itself}
use Rattle.std.proofs.lemmas.Bool.{eq-eqb, ne_eqb}
use Rattle.lh_time.specs.declared.Instant.{Instant}
use Rattle.lh_time.specs.Order.{instant_cmp, instant_lt, instant_le, instant_eq}
use Rattle.lh_time.proofs.OrderLemmas.{instant_cmp_total, instant_lt-not_le, instant_lt-le_lt}
use Rattle.lh_types.specs.History.{Claim, claim_cmp, is_due_by, greater, greatest_from, value_by, values_by, entries_of}
use Rattle.lh_history_laws.proofs.Instants.{instant_one}
use Rattle.lh_history_laws.proofs.Claims.{AllLate, greatest_late}
use Rattle.lh_queue.specs.declared.wish.Wish.{Wish}
use Rattle.lh_queue.specs.Queued.{QueuedWish, wish_cmp, is_before, IsBeforeAll, AreInOrder, NoneDueBefore, due_later}
use Rattle.lh_queue.specs.Holds.{entries}
use Rattle.lh_bits.specs.Writes.{written}
use Rattle.lh_queue.specs.Places.{starts_at}
use Rattle.lh_queue.proofs.Order.{wish_total}

-- what is due later sets no bit
pub values_late : (t : Instant) (cs : List Claim) → AllLate t cs → (k : ℕ) (bits : List Bool) → values_by cs t k bits ≡ bits
values_late t cs a k [] = refl
values_late t cs a k (b ∷ more) = rw (greatest_late k t None cs a, values_late t cs a (k + 1) more) refl

-- each is no less than the entry
abbrev pub UptoAll : Claim → List Claim → Type 0
UptoAll c [] = Unit {0}
UptoAll c (d ∷ more) = (is_le (claim_cmp c d) ≡ true) × UptoAll c more

steady : (bit : ℕ) (t : Instant) (c : Claim) (cs : List Claim) (x y : Bool) → option_map_or (λ (d : Claim). d.value) (greatest_from bit t (Some c) cs) x
    ≡ option_map_or (λ (d : Claim). d.value) (greatest_from bit t (Some c) cs) y
steady bit t c [] x y = refl
steady bit t c (d ∷ more) x y = at (is_due_by bit t d) (λ e. steady bit t e more x y)
  where
    at : (b : Bool) → ((e : Claim) → option_map_or (λ (f : Claim). f.value) (greatest_from bit t (Some e) more) x ≡ option_map_or (λ (f : Claim). f.value) (greatest_from bit t (Some e) more) y)
        → option_map_or (λ (f : Claim). f.value) (greatest_from bit t (if b then Some (greater (Some c) d) else Some c) more) x
        ≡ option_map_or (λ (f : Claim). f.value) (greatest_from bit t (if b then Some (greater (Some c) d) else Some c) more) y
    at true ih = ih (greater (Some c) d)
    at false ih = ih c

-- an entry below the others only stands where none of them does
over : (bit : ℕ) (t : Instant) (c : Claim) (cs : List Claim) (x : Bool) → UptoAll c cs → option_map_or (λ (d : Claim). d.value) (greatest_from bit t (Some c) cs) x
    ≡ option_map_or (λ (d : Claim). d.value) (greatest_from bit t None cs) c.value
over bit t c [] x u = refl
over bit t c (d ∷ more) x u = at (is_due_by bit t d) (over bit t c more x u.1)
  where
    at : (b : Bool) → option_map_or (λ (e : Claim). e.value) (greatest_from bit t (Some c) more) x ≡ option_map_or (λ (e : Claim). e.value) (greatest_from bit t None more) c.value
        → option_map_or (λ (e : Claim). e.value) (greatest_from bit t (if b then Some (greater (Some c) d) else Some c) more) x
        ≡ option_map_or (λ (e : Claim). e.value) (greatest_from bit t (if b then Some (greater None d) else None) more) c.value
    at true ih = rw u.0 (steady bit t d more x c.value)
    at false ih = ih

-- a bit set, where the bits are counted from j on
put_from : ℕ → List Bool → ℕ → Bool → List Bool
put_from j [] k v = []
put_from j (b ∷ more) k v = (if nat_eq k j then v else b) ∷ put_from (j + 1) more k v

put_past : (j : ℕ) (bits : List Bool) (k : ℕ) (v : Bool) → k < j → put_from j bits k v ≡ bits
unfolding put_from
put_past j [] k v h = refl
put_past j (b ∷ more) k v h = rw (ne_eqb k j (λ e. differ k j h e), put_past (j + 1) more k v (omega arith)) refl
  where
    differ : (x y : ℕ) → x < y → x ≡ y → ⊥
    differ x y h e = omega arith

put_is_set : (j k : ℕ) (bits : List Bool) (v : Bool) → put_from j bits (j + k) v ≡ set bits k v
unfolding put_from
put_is_set j k [] v = refl
put_is_set j zero (b ∷ more) v =
    let z : j + 0 ≡ j = omega arith in
    rw (z, eq-eqb j j refl, put_past (j + 1) more j v (omega arith)) refl
put_is_set j (suc k) (b ∷ more) v =
    let n : nat_eq (j + suc k) j ≡ false = ne_eqb (j + suc k) j (λ e. omega arith) in
    let s : j + suc k ≡ j + 1 + k = omega arith in
    let rest : put_from (j + 1) more (j + suc k) v ≡ set more k v = ap (λ m. put_from (j + 1) more m v) s ∙ put_is_set (j + 1) k more v in
    ap (λ x. (if x then v else b) ∷ put_from (j + 1) more (j + suc k) v) n ∙ ap (λ xs. b ∷ xs) rest

value_first : (t : Instant) (c : Claim) (cs : List Claim) (b : Bool) (j : ℕ) → c.due ≡ t → UptoAll c cs → value_by (c ∷ cs) b j t ≡ value_by cs (if nat_eq c.bit j then c.value else b) j t
value_first t c cs b j e u = at (nat_eq c.bit j) (ap is_le (ap (instant_cmp c.due) (sym e) ∙ tied_itself instant_cmp_total c.due))
  where
    at : (x : Bool) → instant_le c.due t ≡ true
        → option_map_or (λ (d : Claim). d.value) (greatest_from j t (if x && instant_le c.due t then Some (greater None c) else None) cs) b
        ≡ option_map_or (λ (d : Claim). d.value) (greatest_from j t None cs) (if x then c.value else b)
    at true h = rw h (over j t c cs b u)
    at false h = refl

values_first : (t : Instant) (c : Claim) (cs : List Claim) (j : ℕ) (bits : List Bool) → c.due ≡ t → UptoAll c cs → values_by (c ∷ cs) t j bits ≡ values_by cs t j (put_from j bits c.bit c.value)
unfolding put_from
values_first t c cs j [] e u = refl
values_first t c cs j (b ∷ more) e u =
    ap (λ x. x ∷ values_by (c ∷ cs) t (j + 1) more) (value_first t c cs b j e u)
    ∙ ap (λ xs. value_by cs (if nat_eq c.bit j then c.value else b) j t ∷ xs) (values_first t c cs (j + 1) more e u)

-- the least entry that is due sets its bit, and the others decide after it
pub values_set : (t : Instant) (c : Claim) (cs : List Claim) (bits : List Bool) → c.due ≡ t → UptoAll c cs → values_by (c ∷ cs) t 0 bits ≡ values_by cs t 0 (set bits c.bit c.value)
values_set t c cs bits e u =
    let z : 0 + c.bit ≡ c.bit = omega arith in
    values_first t c cs 0 bits e u
    ∙ ap (λ k. values_by cs t 0 (put_from 0 bits k c.value)) (sym z)
    ∙ ap (values_by cs t 0) (put_is_set 0 c.bit bits c.value)

pub lt_is_le : (o : Ordering) → is_lt o ≡ true → is_le o ≡ true
lt_is_le Less h = refl
lt_is_le Equal h = cc
lt_is_le Greater h = cc

upto_same : (w : Wish) (bit : ℕ) (v : Bool) (es : List (ℕ × Bool)) (cs : List Claim) → UptoAll (record { due = w.due; made = w.made; instance = w.instance; bit = bit; value = v }) cs
    → UptoAll (record { due = w.due; made = w.made; instance = w.instance; bit = bit; value = v }) (entries_of w.due w.made w.instance es ++ cs)
upto_same w bit v [] cs u = u
upto_same w bit v (e ∷ es) cs u = (ap is_le (tied_itself wish_total w), upto_same w bit v es cs u)

upto_later : (w : Wish) (bit : ℕ) (v : Bool) (y : Wish) (es : List (ℕ × Bool)) (cs : List Claim) → is_before w y ≡ true
    → UptoAll (record { due = w.due; made = w.made; instance = w.instance; bit = bit; value = v }) cs
    → UptoAll (record { due = w.due; made = w.made; instance = w.instance; bit = bit; value = v }) (entries_of y.due y.made y.instance es ++ cs)
upto_later w bit v y [] cs b u = u
upto_later w bit v y (e ∷ es) cs b u = (lt_is_le (wish_cmp w y) b, upto_later w bit v y es cs b u)

upto_entries : (w : Wish) (bit : ℕ) (v : Bool) (more : List QueuedWish) → IsBeforeAll w more
    → UptoAll (record { due = w.due; made = w.made; instance = w.instance; bit = bit; value = v }) (entries more)
upto_entries w bit v [] b = tt
upto_entries w bit v (y ∷ ys) b = upto_later w bit v y.wish y.wish.bits (entries ys) b.0 (upto_entries w bit v ys b.1)

values_written : (t : Instant) (w : Wish) (es : List (ℕ × Bool)) (more : List QueuedWish) (bits : List Bool) → w.due ≡ t → IsBeforeAll w more
    → values_by (entries_of w.due w.made w.instance es ++ entries more) t 0 bits ≡ values_by (entries more) t 0 (written es bits)
values_written t w [] more bits e b = refl
values_written t w (x ∷ es) more bits e b =
    values_set t (record { due = w.due; made = w.made; instance = w.instance; bit = x.0; value = x.1 }) (entries_of w.due w.made w.instance es ++ entries more) bits e
    (upto_same w x.0 x.1 es (entries more) (upto_entries w x.0 x.1 more b))
    ∙ values_written t w es more (set bits x.0 x.1) e b

-- the first of wishes in order sets its bits, where it is due
pub values_of_first : (t : Instant) (x : QueuedWish) (more : List QueuedWish) (bits : List Bool) → AreInOrder (x ∷ more) → x.wish.due ≡ t
    → values_by (entries (x ∷ more)) t 0 bits ≡ values_by (entries more) t 0 (written x.wish.bits bits)
values_of_first t x more bits o e = values_written t x.wish x.wish.bits more bits e o.0

-- each held wish is due later
abbrev pub EachLater : Instant → List QueuedWish → Type 0
EachLater t [] = Unit {0}
EachLater t (x ∷ more) = (instant_lt t x.wish.due ≡ true) × EachLater t more

late_of : (t : Instant) (w : Wish) (es : List (ℕ × Bool)) (cs : List Claim) → instant_lt t w.due ≡ true → AllLate t cs → AllLate t (entries_of w.due w.made w.instance es ++ cs)
late_of t w [] cs h a = a
late_of t w (e ∷ es) cs h a = (h, late_of t w es cs h a)

late_entries : (t : Instant) (xs : List QueuedWish) → EachLater t xs → AllLate t (entries xs)
late_entries t [] e = tt
late_entries t (x ∷ more) e = late_of t x.wish x.wish.bits (entries more) e.0 (late_entries t more e.1)

pub values_of_later : (t : Instant) (xs : List QueuedWish) (bits : List Bool) → EachLater t xs → values_by (entries xs) t 0 bits ≡ bits
values_of_later t xs bits e = values_late t (entries xs) (late_entries t xs e) 0 bits

pub later_stay : (t : Instant) (xs : List QueuedWish) → EachLater t xs → due_later t xs ≡ xs
later_stay t [] e = refl
later_stay t (x ∷ more) e = rw e.0 (ap (λ ys. x ∷ ys) (later_stay t more e.1))

pub due_goes : (t : Instant) (x : QueuedWish) (more : List QueuedWish) → x.wish.due ≡ t → due_later t (x ∷ more) ≡ due_later t more
due_goes t x more e =
    let n : instant_lt t x.wish.due ≡ false = ap (instant_lt t) e ∙ ap is_lt (tied_itself instant_cmp_total t) in
    rw n refl

-- what comes before is due no later
first_part : (o p : Ordering) → is_lt (ordering_then o p) ≡ true → is_le o ≡ true
first_part Less p h = refl
first_part Equal p h = refl
first_part Greater p h = cc

pub due_upto : (a b : Wish) → is_before a b ≡ true → instant_le a.due b.due ≡ true
due_upto a b h = first_part (instant_cmp a.due b.due) (ordering_then (instant_cmp a.made b.made) (nat_cmp a.instance b.instance)) h

pub lt_le_trans : (a b c : Instant) → instant_lt a b ≡ true → instant_le b c ≡ true → instant_lt a c ≡ true
lt_le_trans a b c h k = at (instant_le c a) refl
  where
    clash : true ≡ false → ⊥
    clash z = cc

    at : (x : Bool) → instant_le c a ≡ x → instant_lt a c ≡ true
    at true e = absurd (clash (sym (instant_lt-le_lt c a b e h) ∙ instant_lt-not_le c b ∙ ap not k))
    at false e = instant_lt-not_le a c ∙ ap not e

pub all_later : (t : Instant) (w : Wish) (xs : List QueuedWish) → instant_lt t w.due ≡ true → IsBeforeAll w xs → EachLater t xs
all_later t w [] h b = tt
all_later t w (x ∷ more) h b = (lt_le_trans t w.due x.wish.due h (due_upto w x.wish b.0), all_later t w more h b.1)

apart_lt : (o : Ordering) → is_le (ordering_reverse o) ≡ true → is_eq o ≡ false → is_lt (ordering_reverse o) ≡ true
apart_lt Less h n = cc
apart_lt Equal h n = cc
apart_lt Greater h n = refl

-- where the first is not due, all are due later
pub not_due_later : (t : Instant) (x : QueuedWish) (more : List QueuedWish) → AreInOrder (x ∷ more) → instant_le t x.wish.due ≡ true → instant_eq x.wish.due t ≡ false → EachLater t (x ∷ more)
not_due_later t x more o le n =
    let h : instant_lt t x.wish.due ≡ true = ap is_lt (instant_cmp_total.antisymm t x.wish.due)
    ∙ apart_lt (instant_cmp x.wish.due t) (ap is_le (sym (instant_cmp_total.antisymm t x.wish.due)) ∙ le) n in
    (h, all_later t x.wish more h o.0)

pub not_started : (t : Instant) (held : List QueuedWish) → AreInOrder held → NoneDueBefore t held → starts_at t held ≡ false → EachLater t held
not_started t [] o d n = tt
not_started t (x ∷ more) o d n = not_due_later t x more o d.0 n

pub at_one : (a b : Instant) → instant_eq a b ≡ true → a ≡ b
at_one a b h = instant_one a b ((Equal-is (instant_cmp a b)).0 h)
