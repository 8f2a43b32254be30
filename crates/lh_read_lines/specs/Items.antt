-- What the tokens of a line say.
use Rattle.std.specs.Prelude.{ℕ, nat_eq, List, [], ◌∷◌, Option, Some, None, if◌then◌else◌}
use Rattle.lh_unit.specs.Lexemes.{Lexeme, word, local, punct}
use Rattle.lh_unit.specs.Spells.{LineItem, empty_item, label_item, inst_item, close_item}
use Rattle.lh_unit.specs.SpellsInst.{gives_value, may_stand_alone}
use Rattle.lh_read_pieces.specs.Pieces.{◌>>=◌, name_at, punct_at, end_at}
use Rattle.lh_read_phrases.specs.Words.{head_of}
use Rattle.lh_read_lines.specs.Insts.{worded_at, inst_at}
use Rattle.lh_read_lines.specs.Headers.{item_when, head_at}
use Rattle.lh_read_phrases.specs.declared.words.Head.{Head}

-- `:` and the end of the line behind a name
unfoldable pub label_at : List ℕ → List Lexeme → Option LineItem
label_at n ts = do
  _ ← end_at ts
  Some (label_item n)

-- a word as a label, where `us` follows its colon
unfoldable pub word_label_at : (ts us : List Lexeme) → Option LineItem
word_label_at ts us = do
  n ← name_at ts
  label_at n.0 us

-- an instruction behind `%r`
unfoldable pub assigned_at : List ℕ → List Lexeme → Option LineItem
assigned_at r ts = do
  us ← punct_at 61 ts
  i ← inst_at us
  item_when (gives_value i) (inst_item (record { result = Some r; inst = i }))

-- an instruction without a result, which begins with this word
unfoldable pub alone_at : List ℕ → List Lexeme → Option LineItem
alone_at w ts = do
  i ← worded_at w ts
  item_when (may_stand_alone i) (inst_item (record { result = None; inst = i }))

abbrev pub head_or : List ℕ → List Lexeme → Option Head → Option LineItem
head_or w ts (Some h) = head_at h ts
head_or w ts None = alone_at w ts

abbrev pub local_or : List ℕ → List Lexeme → Option (List Lexeme) → Option LineItem
local_or r ts (Some us) = label_at r us
local_or r ts None = assigned_at r ts

-- behind `%r`
abbrev pub behind_local_at : List ℕ → List Lexeme → Option LineItem
behind_local_at r ts = local_or r ts (punct_at 58 ts)

abbrev pub word_or : List ℕ → (all rest : List Lexeme) → Option (List Lexeme) → Option LineItem
word_or w all rest (Some us) = word_label_at all us
word_or w all rest None = head_or w rest (head_of w)

-- behind the first word
abbrev pub behind_word_at : List ℕ → (all rest : List Lexeme) → Option LineItem
behind_word_at w all rest = word_or w all rest (punct_at 58 rest)

-- the end of a unit
unfoldable pub close_at : ℕ → List Lexeme → Option LineItem
close_at b ts = if nat_eq b 125 then (end_at ts >>= λ _. Some close_item) else None

-- the item that the tokens spell
unfoldable pub item_at : List Lexeme → Option LineItem
item_at [] = Some empty_item
item_at (local r ∷ ts) = behind_local_at r ts
item_at (word w ∷ ts) = behind_word_at w (word w ∷ ts) ts
item_at (punct b ∷ ts) = close_at b ts
item_at _ = None
