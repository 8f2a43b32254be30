-- The type that stands in front of the tokens.
use Rattle.std.specs.Prelude.{ℕ, Bool, true, not, ◌&&◌, ◌||◌, nat_eq, nat_le, List, [], ◌∷◌, length, Option, Some, None, if◌then◌else◌, codes}
use Rattle.std.proofs.Common.{zero, suc}
use Rattle.lh_types.specs.Types.{TypeTree, int_type, time_type, void_type, array_type, tuple_type, signal_type, pointer_type, row_of}
use Rattle.lh_types.specs.Faults.{array_fault, tuple_fault, signal_fault, pointer_fault}
use Rattle.lh_unit.specs.Lexemes.{Lexeme, word, punct}
use Rattle.lh_unit.specs.Typing.{if_made}
use Rattle.lh_read_pieces.specs.Pieces.{◌>>=◌, word_at, punct_at, small_number, parts_at}
use Rattle.lh_read_pieces.specs.Numbers.{number_at}

-- a type where there is one, and what follows it
abbrev pub followed : Option TypeTree → List Lexeme → Option (TypeTree × List Lexeme)
followed None ts = None
followed (Some t) ts = Some (t, ts)

-- a width of an integer
abbrev pub width_of : Option ℕ → Option ℕ
width_of None = None
width_of (Some n) = if nat_le 1 n && nat_le n 128 then Some n else None

-- the width in a word `iN`
abbrev pub int_width : List ℕ → Option ℕ
int_width [] = None
int_width (b ∷ w) = if nat_eq b 105 then width_of (small_number w) else None

-- an integer type, and what follows it
abbrev pub int_before : Option ℕ → List Lexeme → Option (TypeTree × List Lexeme)
int_before None ts = None
int_before (Some n) ts = Some (int_type n, ts)

-- `N x T]`, where p finds T
unfoldable pub array_in : (List Lexeme → Option (TypeTree × List Lexeme)) → List Lexeme → Option (TypeTree × List Lexeme)
array_in p ts = do
  n ← number_at ts
  us ← word_at (codes "x") n.1
  t ← p us
  vs ← punct_at 93 t.1
  followed (if_made (array_fault n.0 t.0) (array_type n.0 t.0)) vs

-- `T1, T2}`, where p finds each
unfoldable pub tuple_in : (List Lexeme → Option (TypeTree × List Lexeme)) → List Lexeme → Option (TypeTree × List Lexeme)
tuple_in p ts = do
  r ← parts_at p (length ts) ts
  us ← punct_at 125 r.1
  followed (if_made (tuple_fault (row_of r.0)) (tuple_type (row_of r.0))) us

-- what a bracket or a brace begins
abbrev pub marked_in : (List Lexeme → Option (TypeTree × List Lexeme)) → ℕ → List Lexeme → Option (TypeTree × List Lexeme)
marked_in p b ts = if nat_eq b 91 then array_in p ts else if nat_eq b 123 then tuple_in p ts else None

-- a data type in front, where p finds its parts
abbrev pub data_in : (List Lexeme → Option (TypeTree × List Lexeme)) → List Lexeme → Option (TypeTree × List Lexeme)
data_in p (word w ∷ ts) = int_before (int_width w) ts
data_in p (punct b ∷ ts) = marked_in p b ts
data_in p _ = None

-- a data type within its limits in front that nests at most k deep, and what follows it
unfoldable pub data_at : ℕ → List Lexeme → Option (TypeTree × List Lexeme)
data_at zero ts = None
data_at (suc k) ts = data_in (data_at k) ts

abbrev pub base_or : List Lexeme → (time void : Option (List Lexeme)) → Option (TypeTree × List Lexeme)
base_or ts (Some us) o = Some (time_type, us)
base_or ts None (Some us) = Some (void_type, us)
base_or ts None None = data_at 16 ts

-- `time`, `void` or a data type, and what follows it
unfoldable pub base_at : List Lexeme → Option (TypeTree × List Lexeme)
base_at ts = base_or ts (word_at (codes "time") ts) (word_at (codes "void") ts)

abbrev pub suffix_or : TypeTree → List Lexeme → (dollar star : Option (List Lexeme)) → Option (TypeTree × List Lexeme)
suffix_or t ts (Some us) o = followed (if_made (signal_fault t) (signal_type t)) us
suffix_or t ts None (Some us) = followed (if_made (pointer_fault t) (pointer_type t)) us
suffix_or t ts None None = Some (t, ts)

-- a type and the `$` or `*` behind it, if one stands there
unfoldable pub suffix_at : TypeTree → List Lexeme → Option (TypeTree × List Lexeme)
suffix_at t ts = suffix_or t ts (punct_at 36 ts) (punct_at 42 ts)

-- a type within its limits, and what follows it
unfoldable pub type_at : List Lexeme → Option (TypeTree × List Lexeme)
type_at ts = do
  t ← base_at ts
  suffix_at t.0 t.1

-- whether the first token is neither `$` nor `*`
abbrev pub no_suffix : List Lexeme → Bool
no_suffix (punct b ∷ ts) = not (nat_eq b 36 || nat_eq b 42)
no_suffix _ = true
