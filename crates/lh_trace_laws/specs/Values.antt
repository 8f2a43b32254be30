-- The value of a bit is a matter of the set of entries that are due by then.
use Rattle.std.specs.Prelude.{◌≡◌, ◌↔◌, ℕ, List, length, slice_get, Bool, true, Some}
use Rattle.std.specs.declared.cmp.Ordering.TheVariants.{Equal}
use Rattle.lh_time.specs.declared.Instant.{Instant}
use Rattle.lh_types.specs.History.{Made, Claim, claims, claim_cmp, is_due_by, IsAmong, HasValue, value_by, bits_at}

-- of two entries on one bit, made by one instance at one instant for one instant, each has the value of the other
abbrev pub OneEach : List Claim → Type 0
OneEach all = (c d : Claim) → IsAmong c all → IsAmong d all → c.bit ≡ d.bit → claim_cmp c d ≡ Equal → c.value ≡ d.value

-- the same entries on this bit are due by t
abbrev pub SameDueBy : (bit : ℕ) → Instant → List Claim → List Claim → Type 0
SameDueBy bit t xs ys = (c : Claim) → is_due_by bit t c ≡ true → IsAmong c xs ↔ IsAmong c ys

-- The computing form gives the value.
abbrev pub ValueComputes : Type 0
ValueComputes = (all : List Claim) (initial : Bool) (bit : ℕ) (t : Instant) → HasValue all initial bit t (value_by all initial bit t)

-- There is one value.
abbrev pub OneValue : Type 0
OneValue = (all : List Claim) (initial : Bool) (bit : ℕ) (t : Instant) (v w : Bool) → OneEach all → HasValue all initial bit t v → HasValue all initial bit t w → v ≡ w

-- Neither the order of the wishes nor one that is due later matters.
abbrev pub ValueOfDue : Type 0
ValueOfDue = (xs ys : List Claim) (initial : Bool) (bit : ℕ) (t : Instant) → OneEach xs → SameDueBy bit t xs ys → value_by xs initial bit t ≡ value_by ys initial bit t

abbrev pub BitsOfDue : Type 0
BitsOfDue = (h k : List Made) (initial : List Bool) (t : Instant) → OneEach (claims h) → ((bit : ℕ) → SameDueBy bit t (claims h) (claims k)) → bits_at h initial t ≡ bits_at k initial t

-- Each of the bits at an instant has the value that its entries give it, and there are as many as there were at first.
abbrev pub BitsHaveValues : Type 0
BitsHaveValues = (h : List Made) (initial : List Bool) (t : Instant) (k : ℕ) (b : Bool) → slice_get initial k ≡ Some b →
    (v : Bool) × (slice_get (bits_at h initial t) k ≡ Some v) × HasValue (claims h) b k t v

abbrev pub AsManyBits : Type 0
AsManyBits = (h : List Made) (initial : List Bool) (t : Instant) → length (bits_at h initial t) ≡ length initial
