-- The small pieces that a line is read by: each takes tokens from the front and gives what is left.
use Rattle.std.specs.Prelude.{ℕ, ◌^◌, nat_eq, nat_lt, nat_le, List, [], ◌∷◌, length, Option, Some, None, if◌then◌else◌}
use Rattle.std.proofs.Common.{zero, suc}
use lib.Pointwise.{pointwise}
use Rattle.lh_unit.specs.Lexemes.{Lexeme, word, global, local, arrow, minus, punct}
use Rattle.lh_unit.specs.Numerals.{number_of}
use Rattle.lh_unit_names.specs.declared.name.UnitName.{UnitName}

infixl 10 ◌>>=◌
abbrev pub ◌>>=◌ : {A B : Type 0} → Option A → (A → Option B) → Option B
None >>= f = None
(Some x) >>= f = f x

-- the first token, or what stands in the place of a bad byte, and the rest
abbrev pub first_at : List Lexeme → Option (Lexeme × List Lexeme)
first_at [] = None
first_at (t ∷ ts) = Some (t, ts)

abbrev pub word_at : List ℕ → List Lexeme → Option (List Lexeme)
word_at w (word x ∷ ts) = if pointwise nat_eq x w then Some ts else None
word_at w _ = None

abbrev pub any_word_at : List Lexeme → Option (List ℕ × List Lexeme)
any_word_at (word x ∷ ts) = Some (x, ts)
any_word_at _ = None

abbrev pub local_at : List Lexeme → Option (List ℕ × List Lexeme)
local_at (local x ∷ ts) = Some (x, ts)
local_at _ = None

-- a word that is no longer than a name
abbrev pub named_in : Lexeme → Option (List ℕ)
named_in (word w) = if nat_le (length w) 255 then Some w else None
named_in _ = None

-- a word as a name, and what follows it
unfoldable pub name_at : List Lexeme → Option (List ℕ × List Lexeme)
name_at [] = None
name_at (t ∷ ts) = do
  n ← named_in t
  Some (n, ts)

abbrev pub unit_name_at : List Lexeme → Option (UnitName × List Lexeme)
unit_name_at (global x ∷ ts) = Some (record { sigil = 64; name = x }, ts)
unit_name_at (local x ∷ ts) = Some (record { sigil = 37; name = x }, ts)
unit_name_at _ = None

abbrev pub punct_at : ℕ → List Lexeme → Option (List Lexeme)
punct_at b (punct c ∷ ts) = if nat_eq c b then Some ts else None
punct_at b _ = None

abbrev pub arrow_at : List Lexeme → Option (List Lexeme)
arrow_at (arrow ∷ ts) = Some ts
arrow_at _ = None

abbrev pub minus_at : List Lexeme → Option (List Lexeme)
minus_at (minus ∷ ts) = Some ts
minus_at _ = None

abbrev pub end_at : List Lexeme → Option (Unit {0})
end_at [] = Some tt
end_at _ = None

-- a number, where it is below a bound
abbrev pub below : ℕ → Option ℕ → Option ℕ
below b None = None
below b (Some n) = if nat_lt n b then Some n else None

-- a number, where it is below 2 ^ 128
abbrev pub small : Option ℕ → Option ℕ
small None = None
small (Some n) = if nat_lt n (2 ^ 128) then Some n else None

-- the number that a word says, where it is below 2 ^ 128
abbrev pub small_number : List ℕ → Option ℕ
small_number w = small (number_of w)

abbrev pub front_part : {A : Type 0} → A → Option (List A × List Lexeme) → Option (List A × List Lexeme)
front_part a None = None
front_part a (Some r) = Some (a ∷ r.0, r.1)

-- a part, and behind a comma what f finds
abbrev pub comma_or_end : {A : Type 0} → (List Lexeme → Option (List A × List Lexeme)) → A → List Lexeme → Option (List Lexeme) → Option (List A × List Lexeme)
comma_or_end f a ts None = Some (a ∷ [], ts)
comma_or_end f a ts (Some us) = front_part a (f us)

abbrev pub part_then : {A : Type 0} → (List Lexeme → Option (List A × List Lexeme)) → Option (A × List Lexeme) → Option (List A × List Lexeme)
part_then f None = None
part_then f (Some a) = comma_or_end f a.0 a.1 (punct_at 44 a.1)

-- one or more parts by comma, at most k
abbrev pub parts_at : {A : Type 0} → (List Lexeme → Option (A × List Lexeme)) → ℕ → List Lexeme → Option (List A × List Lexeme)
parts_at p zero ts = None
parts_at p (suc k) ts = part_then (parts_at p k) (p ts)

abbrev pub empty_or : {A : Type 0} → List Lexeme → Option (List A × List Lexeme) → Option (List Lexeme) → Option (List A × List Lexeme)
empty_or ts o (Some us) = Some ([], ts)
empty_or ts o None = o

-- parts by comma before a closing mark, or none
abbrev pub list_at : {A : Type 0} → (List Lexeme → Option (A × List Lexeme)) → ℕ → List Lexeme → Option (List A × List Lexeme)
list_at p close ts = empty_or ts (parts_at p (length ts) ts) (punct_at close ts)

abbrev pub behind_or : {A : Type 0} → (List Lexeme → Option (A × List Lexeme)) → List Lexeme → Option (List Lexeme) → Option (List A × List Lexeme)
behind_or p ts None = Some ([], ts)
behind_or p ts (Some us) = parts_at p (length us) us

-- a comma before each part, or nothing
abbrev pub behind_at : {A : Type 0} → (List Lexeme → Option (A × List Lexeme)) → List Lexeme → Option (List A × List Lexeme)
behind_at p ts = behind_or p ts (punct_at 44 ts)
