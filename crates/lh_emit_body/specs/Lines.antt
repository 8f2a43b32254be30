-- The instructions of an entity under construction, by ids of values; each id has a name.
use Rattle.std.specs.Prelude.{◌≡◌, ℕ, ◌+◌, ◌*◌, ◌^◌, ◌<◌, ◌≤◌, List, [], ◌∷◌, ◌++◌, length, map, slice_index_or, Option, Some, None, Result, Ok, Err}
use Rattle.std.specs.List.{flat_map}
use Rattle.lh_unit.specs.Contents.{InstText, LineText, ArgText}
use Rattle.lh_unit.specs.Naming.{Naming, value_text, maybe_text, inst_text}
use Rattle.lh_unit.specs.Within.{Sizes, Each, MaybeWithin, InstWithin}
use Rattle.lh_unit.specs.declared.inst.ValueId.{ValueId}
use Rattle.lh_unit.specs.declared.inst.Inst.{Inst}
use Rattle.lh_emit_def.specs.Names.{value_name, free_number}
use Rattle.lh_emit_def.specs.Emitted.{Source, Emitted, gives, puts, next_name}
use Rattle.lh_emit_body.specs.Fresh.{IsFresh}
use Rattle.lh_emit_body.specs.declared.lines.BodyLine.{BodyLine}
use Rattle.lh_emit_body.specs.declared.lines.Lines.{Lines}
use Rattle.lh_emit_body.specs.declared.lines.EmitFault.{EmitFault}
use Rattle.lh_emit_body.specs.declared.lines.EmitFault.TheVariants as fault

-- how many instructions an entity may have
unfoldable pub most_lines : ℕ
most_lines = 65536

-- the names of the ids of an entity, which names no unit and no label
abbrev pub naming : List (List ℕ) → Naming
naming names = record { unit_name = λ u. record { sigil = 64; name = [] }; value_name = λ v. slice_index_or names v []; label_name = λ b. [] }

-- the text of an instruction whose ids have these names
abbrev pub line_text : List (List ℕ) → BodyLine → LineText
line_text names l = record { result = maybe_text (naming names) l.result; inst = inst_text (naming names) l.inst }

-- this many values, and neither units nor labels
abbrev pub values_alone : ℕ → Sizes
values_alone n = record { units = 0; values = n; labels = 0 }

-- each id of a line is below n
abbrev pub IsNamedLine : ℕ → BodyLine → Type 0
IsNamedLine n l = MaybeWithin (values_alone n) l.result × InstWithin (values_alone n) l.inst

-- the names that these arguments have
abbrev pub arg_names : List ArgText → List (List ℕ)
arg_names args = map (λ (a : ArgText). a.name) args

-- the name that an instruction gives
abbrev pub maybe_name : Option (List ℕ) → List (List ℕ)
maybe_name None = []
maybe_name (Some n) = n ∷ []

abbrev pub result_name : LineText → List (List ℕ)
result_name l = maybe_name l.result

-- the instructions so far, by ids, are those of the definition; the names are those of the arguments, and then of the results in order
pub record LinesAreEmitted (args : List ArgText) (ls : Lines) (e : Emitted) : Type 0 where
  pub fresh : IsFresh args ls.fresh
  pub next : ls.fresh.next ≡ e.next
  pub lines : map (line_text ls.names) ls.lines ≡ e.lines
  pub names : ls.names ≡ arg_names args ++ flat_map result_name e.lines

-- there is room for what numbers and ids come next
pub record LinesHaveRoom (ls : Lines) : Type 0 where
  pub few : ls.fresh.count < 2 ^ 32
  pub room : ls.fresh.next ≤ length ls.lines * (ls.fresh.count + 1)
  pub short : length ls.lines ≤ most_lines
  pub named : Each (IsNamedLine (length ls.names)) ls.lines

-- these arguments, and no instruction yet
pub record BeginsWith (args : List ArgText) (ls : Lines) : Type 0 where
  pub fresh : IsFresh args ls.fresh
  pub next : ls.fresh.next ≡ 0
  pub lines : ls.lines ≡ []
  pub names : ls.names ≡ arg_names args

-- with one more argument of this name
abbrev pub AddsBodyArg : List ℕ → Lines → Lines → Type 0
AddsBodyArg n old new = ((args : List ArgText) (a : ArgText) → a.name ≡ n → BeginsWith args old → BeginsWith (args ++ a ∷ []) new) × LinesHaveRoom new

-- The next value has its id and its name; no instruction gives it yet.
pub record NamesNext (old new : Lines) (v : ValueId) : Type 0 where
  pub name : List ℕ
  pub id : v.0 ≡ length old.names
  pub names : new.names ≡ old.names ++ name ∷ []
  pub lines : new.lines ≡ old.lines
  pub named : (args : List ArgText) → IsFresh args old.fresh → name ≡ value_name (free_number args old.fresh.next)
  pub next : (args : List ArgText) → IsFresh args old.fresh → new.fresh.next ≡ free_number args old.fresh.next + 1
  pub fresh : (args : List ArgText) → IsFresh args old.fresh → IsFresh args new.fresh
  pub count : new.fresh.count ≡ old.fresh.count
  pub near : new.fresh.next ≤ old.fresh.next + old.fresh.count + 1

-- one more line, with this result
abbrev pub with_line : List BodyLine → Option ValueId → Inst → List BodyLine
with_line lines v i = lines ++ record { result = v; inst = i } ∷ []

-- names were added, and those that were there keep their ids
abbrev pub NamesGrow : List (List ℕ) → List (List ℕ) → Type 0
NamesGrow old new = (more : List (List ℕ)) × (new ≡ old ++ more)

-- one more instruction, which gives this value: the value has the next name
abbrev pub GivesValue : Lines → Inst → Lines → ValueId → Type 0
GivesValue old i new v =
    ((s : Source) (e : Emitted) → LinesAreEmitted s.args old e → LinesAreEmitted s.args new (gives s (inst_text (naming old.names) i) e) × (value_text (naming new.names) v ≡ next_name s e))
    × (v.0 < length new.names) × NamesGrow old.names new.names × LinesHaveRoom new

-- One more instruction, which gives a value. There is none where the entity would be too large.
abbrev pub GivesOne : Lines → Inst → Lines → Result ValueId EmitFault → Type 0
GivesOne old i new (Ok v) = GivesValue old i new v
GivesOne old i new (Err fault.EntityTooLarge) = length old.lines ≡ most_lines
GivesOne old i new (Err fault.OutOfMemory) = Unit {0}

-- one more instruction, which gives none
abbrev pub PutsOne : Lines → Inst → Lines → Result (Unit {0}) EmitFault → Type 0
PutsOne old i new (Ok u) =
    ((s : Source) (e : Emitted) → LinesAreEmitted s.args old e → LinesAreEmitted s.args new (puts (inst_text (naming old.names) i) e))
    × (new.names ≡ old.names) × LinesHaveRoom new
PutsOne old i new (Err fault.EntityTooLarge) = length old.lines ≡ most_lines
PutsOne old i new (Err fault.OutOfMemory) = Unit {0}
