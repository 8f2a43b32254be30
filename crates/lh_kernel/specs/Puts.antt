-- The wishes of a frame, and what a queue holds once they are put.
use Rattle.std.specs.Prelude.{◌≡◌, ◌≢◌, ℕ, List, [], ◌∷◌, ◌++◌, Bool}
use Rattle.std.specs.declared.cmp.Ordering.TheVariants.{Equal}
use Rattle.lh_time.specs.declared.Instant.{Instant}
use Rattle.lh_queue.specs.declared.wish.Wish.{Wish}
use Rattle.lh_queue.specs.Queued.{QueuedWish, with_held, wish_cmp, NoneCompetes, NamesOnce}
use Rattle.lh_queue.specs.Holds.{HoldsOneWishMore}
use Rattle.lh_kernel.specs.declared.run.Activation.{Activation}

-- what an instance wished for one instant
abbrev pub wish_by : (made : Instant) → (instance : ℕ) → Instant × List (ℕ × Bool) → Wish
wish_by made instance d = record { made = made; instance = instance; due = d.0; bits = d.1 }

-- the wishes that an instance made, by the instants at which they are due
abbrev pub wishes_by : (made : Instant) → (instance : ℕ) → List (Instant × List (ℕ × Bool)) → List Wish
wishes_by made instance [] = []
wishes_by made instance (d ∷ more) = wish_by made instance d ∷ wishes_by made instance more

-- the wishes that activations made
abbrev pub wishes_ran : (made : Instant) → List Activation → List Wish
wishes_ran made [] = []
wishes_ran made (x ∷ xs) = wishes_by made x.instance x.act.wishes ++ wishes_ran made xs

-- one wish more is held
pub record WasPut (old : List QueuedWish) (w : Wish) (new : List QueuedWish) : Type 0 where
  pub key : ℕ
  pub adds : new ≡ with_held old (record { key = key; wish = w })
  pub holds : HoldsOneWishMore old w new

-- these wishes more are held, put one after the other
abbrev pub WerePut : (old : List QueuedWish) → List Wish → (new : List QueuedWish) → Type 0
WerePut old [] new = new ≡ old
WerePut old (w ∷ ws) new = (mid : List QueuedWish) × WasPut old w mid × WerePut mid ws new

-- none of these competes with the wish
abbrev pub WishesAreApart : Wish → List Wish → Type 0
WishesAreApart w [] = Unit {0}
WishesAreApart w (v ∷ vs) = (wish_cmp v w ≢ Equal) × WishesAreApart w vs

-- Each names no bit twice, and competes with none that is held and with none of the others.
abbrev pub CanBePut : (held : List QueuedWish) → List Wish → Type 0
CanBePut held [] = Unit {0}
CanBePut held (w ∷ ws) = NoneCompetes w held × NamesOnce w.bits × WishesAreApart w ws × CanBePut held ws
