-- What the instances wish in one frame, by due instants, and the entries that this adds to the history.
use Rattle.std.specs.Prelude.{◌≡◌, ℕ, ◌+◌, List, [], ◌∷◌, ◌++◌, map, Bool}
use Rattle.lh_time.specs.declared.Instant.{Instant}
use Rattle.lh_types.specs.History.{Made, Claim, claims_of, claims, entries_of, made_from}
use Rattle.lh_types.specs.Wish.{writes_wish}

-- the entries of what one instance wishes, one due instant after the other
abbrev pub due_entries : (made : Instant) → (instance : ℕ) → List (Instant × List (ℕ × Bool)) → List Claim
due_entries made instance [] = []
due_entries made instance (d ∷ more) = entries_of d.0 made instance d.1 ++ due_entries made instance more

-- the entries of what instances in a row wish, from instance `i` on
abbrev pub frame_entries : (made : Instant) → (i : ℕ) → List (List (Instant × List (ℕ × Bool))) → List Claim
frame_entries made i [] = []
frame_entries made i (ds ∷ more) = due_entries made i ds ++ frame_entries made (i + 1) more

-- The entries of one instance's wish are those of its writes, one due instant after the other.
abbrev pub WishesSplit : Type 0
WishesSplit = (made : Instant) (instance : ℕ) (ds : List (Instant × List (ℕ × Bool))) → claims_of made instance (writes_wish ds) ≡ due_entries made instance ds

-- The entries of two histories, one after the other, are those of the one and then those of the other.
abbrev pub HistoriesJoin : Type 0
HistoriesJoin = (before more : List Made) → claims (before ++ more) ≡ claims before ++ claims more

-- A history with the wishes of a frame has its entries before, and then those of each instance in order, one due instant after the other; an instance that wishes nothing adds none.
abbrev pub FramesSplit : Type 0
FramesSplit = (history : List Made) (made : Instant) (wishes : List (List (Instant × List (ℕ × Bool)))) → claims (history ++ made_from made 0 (map writes_wish wishes)) ≡ claims history
    ++ frame_entries made 0 wishes
