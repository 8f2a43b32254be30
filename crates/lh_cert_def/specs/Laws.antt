-- Certifying has one answer.
use Rattle.std.specs.Prelude.{◌≡◌, ℕ, List, Option}
use Rattle.lh_unit.specs.Contents.{UnitText, ItemText}
use Rattle.lh_cert_def.specs.Causes.{CauseOf, FirstCause}
use Rattle.lh_cert_def.specs.declared.cause.Cause.{Cause}

-- A unit in the place of another has one cause, or none.
abbrev pub OneCause : Type 0
OneCause = (items : List ItemText) (x y : UnitText) (a b : Option Cause) → CauseOf items x y a → CauseOf items x y b → a ≡ b

-- There is one first cause, or none.
abbrev pub OneFirstCause : Type 0
OneFirstCause = (items : List ItemText) (k : ℕ) (xs ys : List UnitText) (a b : Option (ℕ × Cause)) → FirstCause items k xs ys a → FirstCause items k xs ys b → a ≡ b
