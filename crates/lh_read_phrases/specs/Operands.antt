-- The operands in front of the tokens, and the other parts of which lists are made.
use Rattle.std.specs.Prelude.{ℕ, List, [], ◌∷◌, ◌++◌, Option, Some, None, codes}
use Rattle.lh_unit.specs.Lexemes.{Lexeme}
use Rattle.lh_unit.specs.Spells.{TypedName}
use Rattle.lh_unit.specs.Typing.{or_else}
use Rattle.lh_read_pieces.specs.Pieces.{◌>>=◌, word_at, any_word_at, local_at, punct_at}
use Rattle.lh_read_pieces.specs.Types.{type_at}
use Rattle.lh_read_phrases.specs.Words.{mode_of}
use Rattle.lh_read_phrases.specs.declared.syntax.Operand.{Operand}
use Rattle.lh_read_phrases.specs.declared.syntax.TriggerSyntax.{TriggerSyntax}
use Rattle.lh_read_phrases.specs.declared.syntax.EdgeSyntax.{EdgeSyntax}
use Rattle.lh_read_phrases.specs.declared.words.Columns.{Columns}
use Rattle.lh_read_phrases.specs.declared.words.Columns.TheVariants as columns

-- `T %a`
unfoldable pub typed_at : List Lexeme → Option (Operand × List Lexeme)
typed_at ts = do
  t ← type_at ts
  n ← local_at t.1
  Some (record { value = n.0; ty = Some t.0 }, n.1)

-- `%a`
unfoldable pub bare_at : List Lexeme → Option (Operand × List Lexeme)
bare_at ts = do
  n ← local_at ts
  Some (record { value = n.0; ty = None }, n.1)

-- `?T %a`
unfoldable pub free_at : List Lexeme → Option (Operand × List Lexeme)
free_at ts = or_else (bare_at ts) (typed_at ts)

-- `D %a`
unfoldable pub one_at : List Lexeme → Option (List Operand × List Lexeme)
one_at ts = do
  a ← typed_at ts
  Some (a.0 ∷ [], a.1)

-- `, %a`
abbrev pub next_bare_at : List Lexeme → Option (Operand × List Lexeme)
next_bare_at ts = do
  us ← punct_at 44 ts
  bare_at us

-- `, ?%a`
abbrev pub next_free_at : List Lexeme → Option (Operand × List Lexeme)
next_free_at ts = do
  us ← punct_at 44 ts
  free_at us

-- `D %a, %b`
unfoldable pub two_at : List Lexeme → Option (List Operand × List Lexeme)
two_at ts = do
  a ← typed_at ts
  b ← next_bare_at a.1
  Some (a.0 ∷ b.0 ∷ [], b.1)

-- these operands and `, ?%a`
unfoldable pub and_free_at : List Operand → List Lexeme → Option (List Operand × List Lexeme)
and_free_at os ts = do
  o ← next_free_at ts
  Some (os ++ o.0 ∷ [], o.1)

-- `D %b, ?%h, ?%n`
unfoldable pub shift_at : List Lexeme → Option (List Operand × List Lexeme)
shift_at ts = do
  b ← typed_at ts
  h ← next_free_at b.1
  n ← next_free_at h.1
  Some (b.0 ∷ h.0 ∷ n.0 ∷ [], n.1)

-- the operands of an operation
abbrev pub columns_at : Columns → List Lexeme → Option (List Operand × List Lexeme)
columns_at columns.One ts = one_at ts
columns_at columns.Two ts = two_at ts
columns_at columns.Shift ts = shift_at ts

abbrev pub maybe_or : List Lexeme → Option (List Lexeme) → Option (Option (List ℕ) × List Lexeme)
maybe_or ts None = Some (None, ts)
maybe_or ts (Some us) = do
  n ← local_at us
  Some (Some n.0, n.1)

-- a word and `%a`, or nothing
unfoldable pub maybe_at : List ℕ → List Lexeme → Option (Option (List ℕ) × List Lexeme)
maybe_at keyword ts = maybe_or ts (word_at keyword ts)

-- `[%v, mode %t if %g after %d]`
unfoldable pub trigger_at : List Lexeme → Option (TriggerSyntax × List Lexeme)
trigger_at ts = do
  a ← punct_at 91 ts
  v ← local_at a
  b ← punct_at 44 v.1
  w ← any_word_at b
  m ← mode_of w.0
  t ← local_at w.1
  g ← maybe_at (codes "if") t.1
  d ← maybe_at (codes "after") g.1
  z ← punct_at 93 d.1
  Some (record { value = v.0; mode = m; trigger = t.0; gate = g.0; after = d.0 }, z)

-- `[%v, %b]`
unfoldable pub edge_at : List Lexeme → Option (EdgeSyntax × List Lexeme)
edge_at ts = do
  a ← punct_at 91 ts
  v ← local_at a
  b ← punct_at 44 v.1
  l ← local_at b
  z ← punct_at 93 l.1
  Some (record { value = v.0; block = l.0 }, z)

-- `T %a`, as an argument
unfoldable pub param_at : List Lexeme → Option (TypedName × List Lexeme)
param_at ts = do
  t ← type_at ts
  n ← local_at t.1
  Some (record { ty = t.0; name = n.0 }, n.1)
