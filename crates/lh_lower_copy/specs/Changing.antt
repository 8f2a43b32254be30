-- The open unit of a module under construction, and what is added to it.
use Rattle.std.specs.Prelude.{◌≡◌, ℕ, List, [], ◌∷◌, ◌++◌, Option, Some, None}
use Rattle.lh_types.specs.Types.{TypeTree}
use Rattle.lh_unit.specs.Contents.{UnitText, BlockText, LineText, ArgText, unit_text, change_last, with_arg, with_result, with_block, with_line}
use Rattle.lh_unit.specs.Arena.{Arena, IsOpen, KeepsEntries, HasFewMore, none_more, contents, unit_text_at}
use Rattle.lh_unit.specs.declared.inst.UnitId.{UnitId}

-- the text of the open unit u is t from now on, and nothing else changes
pub record Becomes (old new : Arena) (u : UnitId) (t : UnitText) : Type 0 where
  pub is_open : IsOpen new u
  pub text : unit_text_at new u.0 ≡ t
  pub says : contents new ≡ change_last (λ x. t) (contents old)
  pub entries : KeepsEntries old new
  pub no_more : HasFewMore 0 none_more none_more old new

-- the unit u is added with the text t, and is open from then on
pub record AddsUnitText (old new : Arena) (u : UnitId) (t : UnitText) : Type 0 where
  pub is_open : IsOpen new u
  pub text : unit_text_at new u.0 ≡ t
  pub says : contents new ≡ contents old ++ unit_text t ∷ []
  pub entries : KeepsEntries old new
  pub no_more : HasFewMore 0 none_more none_more old new

-- one thing after another
abbrev pub with_args : List ArgText → UnitText → UnitText
with_args [] t = t
with_args (a ∷ more) t = with_args more (with_arg a t)

abbrev pub with_lines : List LineText → UnitText → UnitText
with_lines [] t = t
with_lines (l ∷ more) t = with_lines more (with_line l t)

-- an entity has its one block, which has no label, from its beginning
abbrev pub with_labelled : Option (List ℕ) → UnitText → UnitText
with_labelled None t = t
with_labelled (Some n) t = with_block n t

abbrev pub with_blocks : List BlockText → UnitText → UnitText
with_blocks [] t = t
with_blocks (b ∷ more) t = with_blocks more (with_lines b.lines (with_labelled b.label t))

-- only a function has a result type
abbrev pub with_type : Option TypeTree → UnitText → UnitText
with_type None t = t
with_type (Some ty) t = with_result ty t
