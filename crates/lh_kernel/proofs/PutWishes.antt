-- Wishes put one after the other.
use Rattle.std.proofs.Common.{◌≡◌, ◌≢◌, ◌<◌, ◌+◌, ℕ, suc, slice_set, ap, ◌∙◌, length-append, List, [], ◌∷◌, ◌++◌, append_assoc, length, arith, Bool, true, false, if◌then◌else◌, Option, refl, sym, subst, get_or, drop, drop-cons, add-one}
use Rattle.std.proofs.lemmas.List.{append-nil}
use Rattle.lh_time.specs.declared.Instant.{Instant}
use Rattle.lh_types.specs.History.{Claim}
use Rattle.lh_unit.specs.Within.{Each}
use Rattle.lh_queue.specs.declared.wish.Wish.{Wish}
use Rattle.lh_queue.specs.Queued.{QueuedWish, is_before, with_held, NoneCompetes, BitsWithin, EachWithin, EachNames}
use Rattle.lh_queue.specs.Holds.{wish_entries, HoldsFor, IsAfter}
use Rattle.lh_queue.proofs.KeptWishes.{more_within, more_names, more_apart}
use Rattle.std.proofs.Math.ListN.{length-set}
use Rattle.lh_kernel_states.specs.declared.state.InstState.{InstState}
use Rattle.lh_kernel.specs.declared.run.Activation.{Activation}
use Rattle.lh_kernel.specs.Puts.{wishes_by, wishes_ran, WasPut, WerePut, WishesAreApart, CanBePut}

pub apart_front : (w : Wish) (xs ys : List Wish) → WishesAreApart w (xs ++ ys) → WishesAreApart w xs
apart_front w [] ys h = tt
apart_front w (x ∷ xs) ys h = (h.0, apart_front w xs ys h.1)

-- of those that can be put the first can
pub can_front : (held : List QueuedWish) (xs ys : List Wish) → CanBePut held (xs ++ ys) → CanBePut held xs
can_front held [] ys h = tt
can_front held (x ∷ xs) ys h = (h.0, h.1, apart_front x xs ys h.2, can_front held xs ys h.3)

-- where one is put, those apart from it can still be put
pub can_rest : (held : List QueuedWish) (w : Wish) (mid : List QueuedWish) (ws : List Wish) → CanBePut held ws → WishesAreApart w ws → WasPut held w mid → CanBePut mid ws
can_rest held w mid [] c a p = tt
can_rest held w mid (v ∷ vs) c a p =
    (subst (NoneCompetes v) (sym p.adds) (more_apart v held (record { key = p.key; wish = w }) c.0 a.0), c.1, c.2, can_rest held w mid vs c.3 a.1 p)

-- where the first are put, the others can still be put
pub can_back : (held : List QueuedWish) (xs ys : List Wish) (mid : List QueuedWish) → CanBePut held (xs ++ ys) → WerePut held xs mid → CanBePut mid ys
can_back held [] ys mid c p = subst (λ h. CanBePut h ys) (sym p) c
can_back held (x ∷ xs) ys mid c p = can_back p.0 xs ys mid (can_rest held x p.0 (xs ++ ys) c.3 c.2 p.1) p.2

-- some are put, and then others
pub put_join : (held : List QueuedWish) (xs ys : List Wish) (mid new : List QueuedWish) → WerePut held xs mid → WerePut mid ys new → WerePut held (xs ++ ys) new
put_join held [] ys mid new p q = subst (λ h. WerePut h ys new) p q
put_join held (x ∷ xs) ys mid new p q = (p.0, p.1, put_join p.0 xs ys mid new p.2 q)

-- These are still to be put, so that all are put from the start on.
pub record AreToBePut (start : List QueuedWish) (all : List Wish) (held : List QueuedWish) (rest : List Wish) : Type 0 where
  pub can : CanBePut held rest
  pub puts : (final : List QueuedWish) → WerePut held rest final → WerePut start all final

pub puts_start : (held : List QueuedWish) (all : List Wish) → CanBePut held all → AreToBePut held all held all
puts_start held all c = record { can = c; puts = λ final p. p }

pub puts_on : (start : List QueuedWish) (all : List Wish) (held : List QueuedWish) (w : Wish) (rest : List Wish) (mid : List QueuedWish) → AreToBePut start all held (w ∷ rest) → WasPut held w mid →
    AreToBePut start all mid rest
puts_on start all held w rest mid h p =
    record { can = can_rest held w mid rest h.can.3 h.can.2 p; puts = λ final q. h.puts final (mid, p, q) }

pub puts_more : (start : List QueuedWish) (all : List Wish) (held : List QueuedWish) (xs rest : List Wish) (mid : List QueuedWish) → AreToBePut start all held (xs ++ rest) → WerePut held xs mid →
    AreToBePut start all mid rest
puts_more start all held xs rest mid h p =
    record { can = can_back held xs rest mid h.can p; puts = λ final q. h.puts final (put_join held xs rest mid final p q) }

pub puts_end : (start : List QueuedWish) (all : List Wish) (held : List QueuedWish) → AreToBePut start all held [] → WerePut start all held
puts_end start all held h = h.puts held refl

-- what holds of each that is held, and of one more
pub each_more : (P : QueuedWish → Type 0) (held : List QueuedWish) (x : QueuedWish) → Each P held → P x → Each P (with_held held x)
each_more P [] x h p = (p, tt)
each_more P (y ∷ ys) x h p = at (is_before x.wish y.wish) (each_more P ys x h.1 p)
  where
    at : (k : Bool) → Each P (with_held ys x) → Each P (if k then x ∷ y ∷ ys else y ∷ with_held ys x)
    at true ih = (p, h)
    at false ih = (h.0, ih)

pub put_each : (P : QueuedWish → Type 0) (held : List QueuedWish) (ws : List Wish) (new : List QueuedWish) →
    WerePut held ws new → Each P held → Each (λ (w : Wish). (key : ℕ) → P (record { key = key; wish = w })) ws → Each P new
put_each P held [] new p h e = subst (Each P) (sym p) h
put_each P held (w ∷ ws) new p h e =
    put_each P p.0 ws new p.2 (subst (Each P) (sym p.1.adds) (each_more P held (record { key = p.1.key; wish = w }) h (e.0 p.1.key))) e.1

pub put_within : (n : ℕ) (held : List QueuedWish) (ws : List Wish) (new : List QueuedWish) → WerePut held ws new → EachWithin n held → Each (λ (w : Wish). BitsWithin n w.bits) ws → EachWithin n new
put_within n held [] new p h e = subst (EachWithin n) (sym p) h
put_within n held (w ∷ ws) new p h e =
    put_within n p.0 ws new p.2 (subst (EachWithin n) (sym p.1.adds) (more_within n held (record { key = p.1.key; wish = w }) h e.0)) e.1

pub put_names : (held : List QueuedWish) (ws : List Wish) (new : List QueuedWish) → WerePut held ws new → EachNames held → Each (λ (w : Wish). w.bits ≢ []) ws → EachNames new
put_names held [] new p h e = subst EachNames (sym p) h
put_names held (w ∷ ws) new p h e =
    put_names p.0 ws new p.2 (subst EachNames (sym p.1.adds) (more_names held (record { key = p.1.key; wish = w }) h e.0)) e.1

-- the entries of wishes
abbrev pub entries_put : List Wish → List Claim
entries_put [] = []
entries_put (w ∷ ws) = wish_entries w ++ entries_put ws

-- what was held for some entries is then held for these and those of the wishes
pub put_holds : (held : List QueuedWish) (ws : List Wish) (new : List QueuedWish) (all : List Claim) (last : Option Instant) → WerePut held ws new →
    HoldsFor held all last → Each (λ (w : Wish). IsAfter last w.due) ws →
    HoldsFor new (all ++ entries_put ws) last
put_holds held [] new all last p h e = subst (λ (x : List QueuedWish). HoldsFor x (all ++ []) last) (sym p) (subst (λ (cs : List Claim). HoldsFor held cs last) (sym (append-nil all)) h)
put_holds held (w ∷ ws) new all last p h e =
    subst (λ (cs : List Claim). HoldsFor new cs last) (append_assoc all (wish_entries w) (entries_put ws))
    (put_holds p.0 ws new (all ++ wish_entries w) last p.2 (p.1.holds all last h e.0) e.1)

-- how many wishes an instance made, and the rest
pub length_by : (t : Instant) (k : ℕ) (ds : List (Instant × List (ℕ × Bool))) → length (wishes_by t k ds) ≡ length ds
length_by t k [] = refl
length_by t k (d ∷ ds) = ap suc (length_by t k ds)

pub length_ran : (t : Instant) (x : Activation) (xs : List Activation) → length (wishes_ran t (x ∷ xs)) ≡ length x.act.wishes + length (wishes_ran t xs)
length_ran t x xs = length-append (wishes_by t x.instance x.act.wishes) (wishes_ran t xs) ∙ ap (λ n. n + length (wishes_ran t xs)) (length_by t x.instance x.act.wishes)

-- the first of those that are left, and what is left then
pub known_on : (ss new : List InstState) (k : ℕ) (s : InstState) (xs : List Activation) → new ≡ slice_set ss k s → Each (λ (x : Activation). x.instance < length ss) xs →
    Each (λ (x : Activation). x.instance < length new) xs
known_on ss new k s [] e h = tt
known_on ss new k s (x ∷ xs) e h = (subst (λ n. x.instance < n) (sym (ap length e ∙ length-set ss k s)) h.0, known_on ss new k s xs e h.1)

-- one activation more is counted
pub count_on : (t : Instant) (xs : List Activation) (i : ℕ) (x : Activation) (count n more : ℕ) → i < length xs → x ≡ get_or xs i x → count + length (wishes_ran t (drop i xs)) ≡ n →
    more ≡ count + length x.act.wishes → more + length (wishes_ran t (drop (i + 1) xs)) ≡ n
count_on t xs i x count n more l e h m =
    let d : drop i xs ≡ get_or xs i x ∷ drop (suc i) xs = drop-cons xs i x l in
    let f : drop i xs ≡ x ∷ drop (i + 1) xs = d ∙ ap (λ (z : Activation). z ∷ drop (suc i) xs) (sym e) ∙ ap (λ k. x ∷ drop k xs) (sym (add-one i)) in
    let g : length (wishes_ran t (drop i xs)) ≡ length x.act.wishes + length (wishes_ran t (drop (i + 1) xs)) =
    ap (λ (ys : List Activation). length (wishes_ran t ys)) f ∙ length_ran t x (drop (i + 1) xs) in
    omega (arith, g, h, m)
