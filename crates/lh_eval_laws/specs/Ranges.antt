-- When the ranges of an instance fit its unit: those of its arguments and of its `sig` instructions.
use Rattle.std.specs.Prelude.{◌≡◌, ℕ, ◌+◌, ◌≤◌, List, [], ◌∷◌}
use Rattle.lh_types.specs.Types.{TypeTree, bit_count}
use Rattle.lh_types.specs.declared.part.Range.{Range}
use Rattle.lh_unit.specs.Contents.{InstText, sig_text, LineText, ArgText, UnitText}
use Rattle.lh_unit.specs.Hierarchy.{lines_of, type_or_void}

-- ranges have these widths, and lie within so many bits
abbrev pub RangesFit : (width : ℕ) → List Range → List TypeTree → Type 0
RangesFit width [] [] = Unit {0}
RangesFit width (r ∷ rs) (t ∷ ts) = (r.len ≡ bit_count t) × (r.lo + r.len ≤ width) × RangesFit width rs ts
RangesFit width _ _ = ⊥

-- the types of the arguments
abbrev pub arg_types : List ArgText → List TypeTree
arg_types [] = []
arg_types (x ∷ more) = x.ty ∷ arg_types more

-- one more type, where the instruction is a `sig`
abbrev pub type_if_signal : InstText → List TypeTree → List TypeTree
type_if_signal (sig_text a) more = type_or_void a.ty ∷ more
type_if_signal _ more = more

-- the types that the `sig` instructions write, in text order
abbrev pub signal_types : List LineText → List TypeTree
signal_types [] = []
signal_types (l ∷ more) = type_if_signal l.inst (signal_types more)

-- the ranges of an instance have the widths of its unit's arguments and `sig` instructions, and lie within so many bits
pub record InstanceFits (u : UnitText) (args sigs : List Range) (width : ℕ) : Type 0 where
  pub of_args : RangesFit width args (arg_types u.args)
  pub of_signals : RangesFit width sigs (signal_types (lines_of u.blocks))
