-- The wishes of a frame can be put.
use Rattle.std.proofs.Common.{◌≡◌, ◌≢◌, ◌<◌, ℕ, List, [], ◌∷◌, ◌++◌, map, Bool, true, false, refl, ap, sym, ◌∙◌, subst, arith, inl, inr, append_assoc, if◌then◌else◌, Option, Some, None}
use Rattle.lh_time.specs.declared.Instant.{Instant}
use Rattle.lh_time.specs.Order.{instant_lt, instant_le}
use Rattle.lh_time.proofs.OrderLemmas.{instant_le-lt, instant_lt-trans}
use Rattle.lh_history_laws.proofs.Instants.{le_trans, late_not_le}
use Rattle.lh_history_laws.specs.Frames.{due_entries}
use Rattle.lh_types.specs.History.{Claim, entries_of}
use Rattle.std.proofs.lemmas.Bool.{both_ways}
use Rattle.lh_unit.specs.Arena.{Arena}
use Rattle.lh_eval.specs.declared.instance.Instance.{Instance}
use Rattle.lh_queue.specs.Holds.{IsAfter}
use Rattle.lh_kernel.specs.Ran.{ActOfOne}
use Rattle.lh_kernel.specs.Kept.{IsWaiting}
use Rattle.lh_kernel.proofs.PutWishes.{entries_put}
use Rattle.lh_kernel.proofs.Acts.{entries_ran}
use Rattle.lh_kernel_wakes.specs.Rising.{AreAbove, IsRising}
use Rattle.lh_kernel.specs.declared.run.Activation.{Activation}
use Rattle.lh_unit.specs.Within.{Each}
use Rattle.lh_unit.proofs.Lists.{Each-append}
use Rattle.lh_eval.specs.Grouped.{is_filled, FirstInstantIsLater, FirstBitIsAbove, BitsRise, IsGrouped}
use Rattle.lh_queue.specs.declared.wish.Wish.{Wish}
use Rattle.lh_queue.specs.Queued.{QueuedWish, NoneCompetes, NamesOnce, IsUnnamed, BitsWithin, due_later}
use Rattle.lh_queue.proofs.KeptWishes.{different_apart}
use Rattle.lh_kernel.specs.Puts.{wishes_by, wishes_ran, WishesAreApart, CanBePut}
use Rattle.lh_trace_laws.proofs.Instants.{lt_self}

-- what is later is another one
lt_other : (a b : Instant) → instant_lt a b ≡ true → b ≢ a
lt_other a b h e = lt_self a (subst (λ (x : Instant). instant_lt a x ≡ true) e h)

unnamed_above : (b : ℕ) (ws : List (ℕ × Bool)) → FirstBitIsAbove b ws → BitsRise ws → IsUnnamed b ws
unnamed_above b [] a r = tt
unnamed_above b (w ∷ ws) a r = (λ e. omega (arith, a, e), above_rest b w.0 ws a r.0 r.1)
  where
    above_rest : (b c : ℕ) (ws : List (ℕ × Bool)) → b < c → FirstBitIsAbove c ws → BitsRise ws → IsUnnamed b ws
    above_rest b c [] l a r = tt
    above_rest b c (v ∷ vs) l a r = (λ e. omega (arith, l, a, e), above_rest b v.0 vs (omega (arith, l, a)) r.0 r.1)

-- where bits rise, none is named twice
pub rising_once : (ws : List (ℕ × Bool)) → BitsRise ws → NamesOnce ws
rising_once [] r = tt
rising_once (w ∷ ws) r = (unnamed_above w.0 ws r.0 r.1, rising_once ws r.1)

-- the instants of a grouped list are later than one before its first
grouped_later : (t : Instant) (ds : List (Instant × List (ℕ × Bool))) → FirstInstantIsLater t ds → IsGrouped ds → Each (λ (d : Instant × List (ℕ × Bool)). instant_lt t d.0 ≡ true) ds
grouped_later t [] b g = tt
grouped_later t (d ∷ ds) b g = (b, later_rest t d.0 ds b g.2 g.3)
  where
    later_rest : (t u : Instant) (ds : List (Instant × List (ℕ × Bool))) → instant_lt t u ≡ true → FirstInstantIsLater u ds → IsGrouped ds → Each (λ (d : Instant × List (ℕ × Bool)). instant_lt t d.0 ≡ true) ds
    later_rest t u [] l b g = tt
    later_rest t u (d ∷ ds) l b g = let m : instant_lt t d.0 ≡ true = instant_lt-trans t u d.0 l b in (m, later_rest t d.0 ds m g.2 g.3)

-- the wishes of an instance that are due later than one do not compete with it
apart_later : (w : Wish) (t : Instant) (k : ℕ) (ds : List (Instant × List (ℕ × Bool))) → Each (λ (d : Instant × List (ℕ × Bool)). instant_lt w.due d.0 ≡ true) ds → WishesAreApart w (wishes_by t k ds)
apart_later w t k [] l = tt
apart_later w t k (d ∷ ds) l = (different_apart (record { made = t; instance = k; due = d.0; bits = d.1 }) w (inl (lt_other w.due d.0 l.0)), apart_later w t k ds l.1)

-- those of another instance do not
apart_other : (w : Wish) (t : Instant) (k : ℕ) (ds : List (Instant × List (ℕ × Bool))) → k ≢ w.instance → WishesAreApart w (wishes_by t k ds)
apart_other w t k [] n = tt
apart_other w t k (d ∷ ds) n = (different_apart (record { made = t; instance = k; due = d.0; bits = d.1 }) w (inr (inr n)), apart_other w t k ds n)

pub apart_join : (w : Wish) (xs ys : List Wish) → WishesAreApart w xs → WishesAreApart w ys → WishesAreApart w (xs ++ ys)
apart_join w [] ys a b = b
apart_join w (x ∷ xs) ys a b = (a.0, apart_join w xs ys a.1 b)

-- the numbers of the instances that did something
abbrev pub instances_of : List Activation → List ℕ
instances_of xs = map (λ (x : Activation). x.instance) xs

apart_higher : (w : Wish) (t : Instant) (xs : List Activation) → AreAbove w.instance (instances_of xs) → WishesAreApart w (wishes_ran t xs)
apart_higher w t [] h = tt
apart_higher w t (x ∷ xs) h = apart_join w (wishes_by t x.instance x.act.wishes) (wishes_ran t xs) (apart_other w t x.instance x.act.wishes (λ e. omega (arith, h.0, e))) (apart_higher w t xs h.1)

-- none that is held was made at the instant
abbrev pub IsMadeElsewhen : Instant → QueuedWish → Type 0
IsMadeElsewhen t x = x.wish.made ≢ t

none_competes : (w : Wish) (held : List QueuedWish) → Each (IsMadeElsewhen w.made) held → NoneCompetes w held
none_competes w [] h = tt
none_competes w (x ∷ xs) h = (different_apart w x.wish (inr (inl (λ e. h.0 (sym e)))), none_competes w xs h.1)

-- the wishes of one instance can be put, and then others
can_by : (held : List QueuedWish) (t : Instant) (k : ℕ) (ds : List (Instant × List (ℕ × Bool))) (ws : List Wish) → Each (IsMadeElsewhen t) held → IsGrouped ds →
    ((d : Instant) (bits : List (ℕ × Bool)) → WishesAreApart (record { made = t; instance = k; due = d; bits = bits }) ws) → CanBePut held ws → CanBePut held (wishes_by t k ds ++ ws)
can_by held t k [] ws e g a c = c
can_by held t k (d ∷ ds) ws e g a c =
    let w : Wish = record { made = t; instance = k; due = d.0; bits = d.1 } in
    (none_competes w held e, rising_once d.1 g.1, apart_join w (wishes_by t k ds) ws (apart_later w t k ds (grouped_later d.0 ds g.2 g.3)) (a d.0 d.1), can_by held t k ds ws e g.3 a c)

-- all wishes of a frame can be put
pub can_all : (held : List QueuedWish) (t : Instant) (xs : List Activation) → Each (IsMadeElsewhen t) held →
    Each (λ (x : Activation). IsGrouped x.act.wishes) xs → IsRising (instances_of xs) → CanBePut held (wishes_ran t xs)
can_all held t [] e g r = tt
can_all held t (x ∷ xs) e g r =
    can_by held t x.instance x.act.wishes (wishes_ran t xs) e g.0 (λ d bits. apart_higher (record { made = t; instance = x.instance; due = d; bits = bits }) t xs r.0) (can_all held t xs e g.1 r.1)

-- ---- what holds of each wish of a frame

each_by : (P : Wish → Type 0) (width : ℕ) (t : Instant) (k : ℕ) (ds : List (Instant × List (ℕ × Bool))) →
    ((d : Instant × List (ℕ × Bool)) → is_filled d.1 ≡ true → BitsWithin width d.1 → instant_lt t d.0 ≡ true → P (record { made = t; instance = k; due = d.0; bits = d.1 })) →
    IsGrouped ds → Each (λ (d : Instant × List (ℕ × Bool)). BitsWithin width d.1) ds → Each (λ (d : Instant × List (ℕ × Bool)). instant_lt t d.0 ≡ true) ds → Each P (wishes_by t k ds)
each_by P width t k [] f g w l = tt
each_by P width t k (d ∷ ds) f g w l = (f d g.0 w.0 l.0, each_by P width t k ds f g.3 w.1 l.1)

-- a property of each wish that is made at `t`, names some bit and only bits of the signals, and is due later
pub each_wish : (P : Wish → Type 0) (a : Arena) (width : ℕ) (t : Instant) (is : List Instance) (xs : List Activation) →
    ((k : ℕ) (d : Instant × List (ℕ × Bool)) → is_filled d.1 ≡ true → BitsWithin width d.1 → instant_lt t d.0 ≡ true → P (record { made = t; instance = k; due = d.0; bits = d.1 })) →
    Each (ActOfOne a width t is) xs → Each P (wishes_ran t xs)
each_wish P a width t is [] f e = tt
each_wish P a width t is (x ∷ xs) f e =
    Each-append P (wishes_by t x.instance x.act.wishes) (wishes_ran t xs)
    (each_by P width t x.instance x.act.wishes (f x.instance) e.0.sound.grouped e.0.sound.within e.0.sound.later) (each_wish P a width t is xs f e.1)

pub filled_names : (ws : List (ℕ × Bool)) → is_filled ws ≡ true → ws ≢ []
filled_names [] h e = clash h
  where
    clash : false ≡ true → ⊥
    clash z = cc
filled_names (w ∷ ws) h e = cc

pub each_grouped : (a : Arena) (width : ℕ) (t : Instant) (is : List Instance) (xs : List Activation) → Each (ActOfOne a width t is) xs → Each (λ (x : Activation). IsGrouped x.act.wishes) xs
each_grouped a width t is [] e = tt
each_grouped a width t is (x ∷ xs) e = (e.0.sound.grouped, each_grouped a width t is xs e.1)

entries_by : (t : Instant) (k : ℕ) (ds : List (Instant × List (ℕ × Bool))) (ws : List Wish) → entries_put (wishes_by t k ds ++ ws) ≡ due_entries t k ds ++ entries_put ws
entries_by t k [] ws = refl
entries_by t k (d ∷ ds) ws = ap (λ (cs : List Claim). entries_of d.0 t k d.1 ++ cs) (entries_by t k ds ws) ∙ sym (append_assoc (entries_of d.0 t k d.1) (due_entries t k ds) (entries_put ws))

-- the entries of the wishes are those of what was run
pub entries_same : (t : Instant) (xs : List Activation) → entries_put (wishes_ran t xs) ≡ entries_ran t xs
entries_same t [] = refl
entries_same t (x ∷ xs) = entries_by t x.instance x.act.wishes (wishes_ran t xs) ∙ ap (λ (cs : List Claim). due_entries t x.instance x.act.wishes ++ cs) (entries_same t xs)

-- ---- what is held and due later

pub later_each : (P : QueuedWish → Type 0) (t : Instant) (held : List QueuedWish) → Each P held → Each P (due_later t held)
later_each P t [] h = tt
later_each P t (x ∷ xs) h = at (instant_lt t x.wish.due) (later_each P t xs h.1)
  where
    at : (b : Bool) → Each P (due_later t xs) → Each P (if b then x ∷ due_later t xs else due_later t xs)
    at true r = (h.0, r)
    at false r = r

-- what was made before `t` and is due later waits after it
pub later_waits : (t : Instant) (last : Option Instant) (held : List QueuedWish) → IsAfter last t → Each (IsWaiting last) held → Each (IsWaiting (Some t)) (due_later t held)
later_waits t None [] a h = tt
later_waits t None (x ∷ xs) a h = absurd h.0
later_waits t (Some l) [] a h = tt
later_waits t (Some l) (x ∷ xs) a h = at (instant_lt t x.wish.due) refl (later_waits t (Some l) xs a h.1)
  where
    at : (b : Bool) → instant_lt t x.wish.due ≡ b → Each (IsWaiting (Some t)) (due_later t xs) → Each (IsWaiting (Some t)) (if b then x ∷ due_later t xs else due_later t xs)
    at true e r = ((le_trans x.wish.made l t h.0.0 (instant_le-lt l t a), e), r)
    at false e r = r

-- none of what waits was made at `t`
pub made_before : (t : Instant) (last : Option Instant) (held : List QueuedWish) → IsAfter last t → Each (IsWaiting last) held → Each (IsMadeElsewhen t) held
made_before t last [] a h = tt
made_before t None (x ∷ xs) a h = absurd h.0
made_before t (Some l) (x ∷ xs) a h = (λ e. clash (subst (λ (m : Instant). instant_le m l ≡ true) e h.0.0), made_before t (Some l) xs a h.1)
  where
    clash : instant_le t l ≡ true → ⊥
    clash k = both_ways (instant_le t l) (late_not_le l t a) k
