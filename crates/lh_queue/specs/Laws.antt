-- What of held wishes stays where one is put, and where those that are due are taken.
use Rattle.std.specs.Prelude.{ℕ, List, [], true, ◌≡◌, ◌≢◌, ◌⊎◌}
use Rattle.std.specs.declared.cmp.Ordering.TheVariants.{Equal}
use Rattle.lh_time.specs.declared.Instant.{Instant}
use Rattle.lh_time.specs.Order.{instant_le}
use Rattle.lh_queue.specs.declared.wish.Wish.{Wish}
use Rattle.lh_queue.specs.Queued.{QueuedWish, wish_cmp, with_held, due_later, NoneCompetes, NoneDueBefore, BitsWithin, EachWithin, EachNames}

-- with one wish more, of bits below the number, each still names only bits below it
abbrev pub MoreWithin : Type 0
MoreWithin = (n : ℕ) (held : List QueuedWish) (x : QueuedWish) → EachWithin n held → BitsWithin n x.wish.bits → EachWithin n (with_held held x)

-- with one wish more that names a bit, each still names one
abbrev pub MoreNames : Type 0
MoreNames = (held : List QueuedWish) (x : QueuedWish) → EachNames held → x.wish.bits ≢ [] → EachNames (with_held held x)

-- with one wish more that does not compete, none competes
abbrev pub MoreApart : Type 0
MoreApart = (w : Wish) (held : List QueuedWish) (x : QueuedWish) → NoneCompetes w held → wish_cmp w x.wish ≢ Equal → NoneCompetes w (with_held held x)

-- with one wish more that is due no earlier, none is due before
abbrev pub MoreDue : Type 0
MoreDue = (t : Instant) (held : List QueuedWish) (x : QueuedWish) → NoneDueBefore t held → instant_le t x.wish.due ≡ true → NoneDueBefore t (with_held held x)

-- of those that are due later, too, each names only bits below the number
abbrev pub LaterWithin : Type 0
LaterWithin = (n : ℕ) (held : List QueuedWish) (t : Instant) → EachWithin n held → EachWithin n (due_later t held)

-- of those that are due later, too, each names a bit
abbrev pub LaterNames : Type 0
LaterNames = (held : List QueuedWish) (t : Instant) → EachNames held → EachNames (due_later t held)

-- of those that are due later, too, none competes with the wish
abbrev pub LaterApart : Type 0
LaterApart = (w : Wish) (held : List QueuedWish) (t : Instant) → NoneCompetes w held → NoneCompetes w (due_later t held)

-- none is due before an instant that is no later than one before which none is due
abbrev pub SoonerDue : Type 0
SoonerDue = (t u : Instant) (held : List QueuedWish) → instant_le t u ≡ true → NoneDueBefore u held → NoneDueBefore t held

-- wishes with different instants or instances do not compete
abbrev pub DifferentApart : Type 0
DifferentApart = (w x : Wish) → (w.due ≢ x.due) ⊎ (w.made ≢ x.made) ⊎ (w.instance ≢ x.instance) → wish_cmp w x ≢ Equal
