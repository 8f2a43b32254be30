-- What a watcher is: its rule, which no call changes, and the numbers that it holds.
use Rattle.std.specs.Prelude.{◌≡◌, ℕ, List, Bool, true, false}
use Rattle.lh_types.specs.Pictures.{Picture}
use Rattle.lh_watch.specs.declared.watcher.Next.{Next}
use Rattle.lh_watch.specs.declared.watcher.Next.TheVariants.{Go, Done, Stop}

-- its title, what it makes of its numbers and a frame, and the text of its numbers
pub record Rule : Type 0 where
  pub title : List ℕ
  pub next : List ℕ → Picture → List ℕ × Next
  pub text : List ℕ → List ℕ

-- a watcher by its rule and the numbers that it holds
pub record Member : Type 0 where
  pub rule : Rule
  pub numbers : List ℕ

abbrev pub member : Rule → List ℕ → Member
member r ns = record { rule = r; numbers = ns }

-- the member after a frame
abbrev pub seen : Picture → Member → Member
seen f m = member m.rule (m.rule.next m.numbers f).0

-- what it answers at a frame
abbrev pub says : Picture → Member → Next
says f m = (m.rule.next m.numbers f).1

-- its report
abbrev pub report_of : Member → List ℕ
report_of m = m.rule.text m.numbers

-- it took the frame, and answered so
pub record TookFrame (f : Picture) (old new : Member) (next : Next) : Type 0 where
  pub said : says f old ≡ next
  pub kept : new ≡ seen f old

abbrev pub is_done : Next → Bool
is_done Go = false
is_done Done = true
is_done Stop = false

abbrev pub is_stop : Next → Bool
is_stop Go = false
is_stop Done = false
is_stop Stop = true
