-- Ranges of bits of an argument, and the set of bits that a list of them stands for.
use Rattle.std.specs.Prelude.{◌≡◌, ℕ, ◌+◌, ◌<◌, ◌≤◌, max, Bool, true, false, ◌&&◌, ◌||◌, nat_eq, nat_le, nat_lt, if◌then◌else◌, List, [], ◌∷◌}
use Rattle.std.specs.List.{list_any}
use Rattle.lh_types.specs.Types.{bit_count}
use Rattle.lh_term.specs.declared.part.Part.{Part}
use Rattle.lh_term_cover.specs.Bits.{is_waited}
use Rattle.lh_term_cover.specs.declared.runs.CoverRun.{CoverRun}
use Rattle.lh_term_cover.specs.declared.Cover.{Cover}

-- whether the range has this bit of this argument
abbrev pub in_run : CoverRun → ℕ → ℕ → Bool
in_run r a b = nat_eq r.arg a && (nat_le r.lo b && nat_lt b r.end)

-- whether some range has it
abbrev pub in_runs : List CoverRun → ℕ → ℕ → Bool
in_runs rs a b = list_any (λ r. in_run r a b) rs

-- r is of a lower argument than s, or ends before s begins, with a bit between them
pub record IsBefore (r s : CoverRun) : Type 0 where
  pub arg : r.arg ≤ s.arg
  pub end : r.arg ≡ s.arg → r.end < s.lo

-- r is before each
abbrev pub RunIsBeforeAll : CoverRun → List CoverRun → Type 0
RunIsBeforeAll r [] = Unit {0}
RunIsBeforeAll r (s ∷ ss) = IsBefore r s × RunIsBeforeAll r ss

-- ranges in order that have bits, of which no two meet or touch
abbrev pub AreApart : List CoverRun → Type 0
AreApart [] = Unit {0}
AreApart (r ∷ rs) = (r.lo < r.end) × RunIsBeforeAll r rs × AreApart rs

-- the set has exactly the bits of the parts
pub record IsCover (cover : Cover) (parts : List Part) : Type 0 where
  pub apart : AreApart cover.runs.items
  pub bits : (a b : ℕ) → in_runs cover.runs.items a b ≡ is_waited parts a b

-- ---- what the calls compute

-- the bits of a part
abbrev pub run_of : Part → CoverRun
run_of p = record { arg = p.arg; lo = p.lo; end = p.lo + bit_count p.ty }

-- those of each part that has some
abbrev pub runs_of : List Part → List CoverRun
runs_of [] = []
runs_of (p ∷ ps) = if nat_lt p.lo (p.lo + bit_count p.ty) then run_of p ∷ runs_of ps else runs_of ps

-- whether a range that begins no earlier meets or touches one
abbrev pub touches : CoverRun → CoverRun → Bool
touches last next = nat_eq last.arg next.arg && nat_le next.lo last.end

-- the range with what another has after it
abbrev pub longer : CoverRun → CoverRun → CoverRun
longer last next = record last { end = max last.end next.end }

-- sorted ranges after one, with those that meet or touch made one
abbrev pub merged_from : CoverRun → List CoverRun → List CoverRun
merged_from last [] = last ∷ []
merged_from last (r ∷ rs) = if touches last r then merged_from (longer last r) rs else last ∷ merged_from r rs

abbrev pub merged : List CoverRun → List CoverRun
merged [] = []
merged (r ∷ rs) = merged_from r rs

-- whether a range begins no later than another
abbrev pub starts_by : CoverRun → CoverRun → Bool
starts_by r s = nat_lt r.arg s.arg || (nat_eq r.arg s.arg && nat_le r.lo s.lo)

-- whether a range that begins no earlier ends within another
abbrev pub ends_within : CoverRun → CoverRun → Bool
ends_within r s = nat_eq r.arg s.arg && nat_le r.end s.end

-- each range the same as its partner
abbrev pub same_runs : List CoverRun → List CoverRun → Bool
same_runs [] [] = true
same_runs (r ∷ rs) (s ∷ ss) = (nat_eq r.arg s.arg && (nat_eq r.lo s.lo && nat_eq r.end s.end)) && same_runs rs ss
same_runs _ _ = false
