-- The bits that were wished so far, as the code keeps them in runs and as the definitions list them.
use Rattle.std.specs.Prelude.{◌≡◌, ℕ, ◌+◌, List, [], ◌∷◌, ◌++◌, Bool, true, false, not}
use Rattle.std.specs.List.{filter}
use Rattle.std.specs.Ordering.{is_lt}
use Rattle.lh_time.specs.declared.Instant.{Instant}
use Rattle.lh_types.specs.Wish.{DueBit, Wish, due_bit, due_bit_cmp, IsInOrder}
use Rattle.lh_eval_wishes.specs.declared.run.WishRun.{WishRun}
use Rattle.lh_eval_wishes.specs.Grouped.{is_filled}

-- bits in a row, from a lowest one on
abbrev pub row_wish : Instant → ℕ → List Bool → Wish
row_wish t lo [] = []
row_wish t lo (b ∷ bs) = (due_bit t lo, b) ∷ row_wish t (lo + 1) bs

-- the entries of a run
abbrev pub run_wish : WishRun → Wish
run_wish r = row_wish r.due r.lo r.bits

-- the entries of runs, one after the other
abbrev pub runs_wish : List WishRun → Wish
runs_wish [] = []
runs_wish (r ∷ more) = run_wish r ++ runs_wish more

-- an entry is below a key
abbrev pub is_below : DueBit → DueBit × Bool → Bool
is_below k e = is_lt (due_bit_cmp e.0 k)

-- the entries below a key
abbrev pub below : DueBit → Wish → Wish
below k w = filter (λ e. is_below k e) w

-- the entries from a key on
abbrev pub above : DueBit → Wish → Wish
above k w = filter (λ e. not (is_below k e)) w

-- each entry is below a key
abbrev pub AllBelow : DueBit → Wish → Type 0
AllBelow k [] = Unit {0}
AllBelow k (e ∷ more) = (is_below k e ≡ true) × AllBelow k more

-- no entry is below a key
abbrev pub AllFrom : DueBit → Wish → Type 0
AllFrom k [] = Unit {0}
AllFrom k (e ∷ more) = (is_below k e ≡ false) × AllFrom k more

-- no run is empty
abbrev pub EachFilled : List WishRun → Type 0
EachFilled [] = Unit {0}
EachFilled (r ∷ more) = (is_filled r.bits ≡ true) × EachFilled more

-- what runs have to be
pub record AreRuns (rs : List WishRun) : Type 0 where
  pub ordered : IsInOrder (runs_wish rs)
  pub filled : EachFilled rs
