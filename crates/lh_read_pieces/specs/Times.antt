-- A time at the end of a line: one word of a number and a unit, and behind it `Nd` and `Ne` or not.
use Rattle.std.specs.Prelude.{ℕ, ◌+◌, ◌-◌, ◌*◌, ◌^◌, Bool, true, ◌&&◌, nat_eq, List, [], ◌∷◌, take, drop, option_map, Option, Some, None, if◌then◌else◌, codes}
use Rattle.std.proofs.Common.{zero, suc}
use lib.Pointwise.{pointwise}
use Rattle.lh_time.specs.declared.Delay.{Delay}
use Rattle.lh_unit.specs.Lexemes.{Lexeme, word}
use Rattle.lh_unit.specs.Numerals.{is_digit}
use Rattle.lh_read_pieces.specs.Pieces.{◌>>=◌, any_word_at, end_at, below, small_number}

-- how many digits stand in front
abbrev pub digit_run : List ℕ → ℕ
digit_run [] = 0
digit_run (b ∷ bs) = if is_digit b then digit_run bs + 1 else 0

-- how many places behind the point a unit of time has, where the last one is a femtosecond
abbrev pub unit_places : List ℕ → Option ℕ
unit_places u =
    if pointwise nat_eq u (codes "s") then Some 15
    else if pointwise nat_eq u (codes "ms") then Some 12
    else if pointwise nat_eq u (codes "us") then Some 9
    else if pointwise nat_eq u (codes "ns") then Some 6
    else if pointwise nat_eq u (codes "ps") then Some 3
    else if pointwise nat_eq u (codes "fs") then Some 0 else None

-- whether no digit but 0 is left
abbrev pub all_zero : List ℕ → Bool
all_zero [] = true
all_zero (b ∷ bs) = nat_eq b 48 && all_zero bs

-- the next digit behind the point, and those behind it; behind the last there are zeros
abbrev pub next_digit : List ℕ → Option (ℕ × List ℕ)
next_digit [] = Some (0, [])
next_digit (b ∷ bs) = if is_digit b then Some (b - 48, bs) else None

-- the whole number that n and k digits behind the point say, where those behind them are zeros
abbrev pub shifted : (n k : ℕ) → List ℕ → Option ℕ
shifted n zero bs = if all_zero bs then Some n else None
shifted n (suc k) bs = next_digit bs >>= λ d. shifted (n * 10 + d.0) k d.1

-- the femtoseconds that the digits before the point, those behind it and the unit say
unfoldable pub with_unit : (whole part unit : List ℕ) → Option ℕ
with_unit whole part unit = do
  k ← unit_places unit
  n ← small_number whole
  below (2 ^ 63) (shifted n k part)

-- what follows the digits before the point: a unit, or the point, digits and a unit
abbrev pub pointed : (whole more : List ℕ) → Option ℕ
pointed whole [] = None
pointed whole (b ∷ bs) =
    if nat_eq b 46 then (if nat_eq (digit_run bs) 0 then None else with_unit whole (take (digit_run bs) bs) (drop (digit_run bs) bs))
    else with_unit whole [] (b ∷ bs)

-- the femtoseconds that a word says, where they are a whole number below 2^63
unfoldable pub femtoseconds : List ℕ → Option ℕ
femtoseconds w = pointed (take (digit_run w) w) (drop (digit_run w) w)

-- what stands before this last byte
abbrev pub before_last : ℕ → List ℕ → Option (List ℕ)
before_last c [] = None
before_last c (b ∷ []) = if nat_eq b c then Some [] else None
before_last c (b ∷ d ∷ bs) = option_map (λ x. b ∷ x) (before_last c (d ∷ bs))

abbrev pub counted : Option ℕ → List Lexeme → Option (ℕ × List Lexeme)
counted None ts = None
counted (Some n) ts = Some (n, ts)

-- no steps before ts, or those that a word says
abbrev pub steps_or : (ts more : List Lexeme) → Option (List ℕ) → Option (ℕ × List Lexeme)
steps_or ts more None = Some (0, ts)
steps_or ts more (Some w) = counted (below (2 ^ 31) (small_number w)) more

-- a count of steps below 2^31 before its letter, or none
abbrev pub steps_at : ℕ → List Lexeme → Option (ℕ × List Lexeme)
steps_at letter (word w ∷ ts) = steps_or (word w ∷ ts) ts (before_last letter w)
steps_at letter ts = Some (0, ts)

-- a time, which ends the line
unfoldable pub time_at : List Lexeme → Option Delay
time_at ts = do
  w ← any_word_at ts
  fs ← femtoseconds w.0
  d ← steps_at 100 w.1
  e ← steps_at 101 d.1
  _ ← end_at e.1
  Some (record { fs = fs; delta = d.0; eps = e.0 })
