-- How types, constants and times are written.
use Rattle.std.specs.Prelude.{ℕ, ◌%◌, ◌/◌, nat_eq, List, [], ◌∷◌, ◌++◌, if◌then◌else◌, codes, decimal}
use Rattle.lh_types.specs.Types.{TypeTree, TypeRow, int_type, time_type, void_type, array_type, tuple_type, signal_type, pointer_type, no_types, more_types}
use Rattle.lh_types.specs.Values.{Datum, int_value, time_value, array_value, tuple_value}
use Rattle.lh_unit.specs.Lexemes.{word}
use Rattle.lh_unit.specs.Marks.{comma, dollar, star}
use Rattle.lh_unit.specs.Pieces.{Piece, token, space, ◌␣◌, mark, keyword, number, in_brackets, in_braces}

abbrev mutual
  -- a type
  pub type_pieces : TypeTree → List Piece
  -- iN
  type_pieces (int_type n) = token (word (105 ∷ decimal n)) ∷ []
  -- time
  type_pieces time_type = keyword "time"
  -- void
  type_pieces void_type = keyword "void"
  -- [N x T]
  type_pieces (array_type n t) = in_brackets (number n ␣ keyword "x" ␣ type_pieces t)
  -- {T1, T2}
  type_pieces (tuple_type r) = in_braces (row_pieces r)
  -- T$
  type_pieces (signal_type t) = type_pieces t ++ mark dollar
  -- T*
  type_pieces (pointer_type t) = type_pieces t ++ mark star

  -- the types of a row by comma
  pub row_pieces : TypeRow → List Piece
  row_pieces no_types = []
  row_pieces (more_types t r) = type_pieces t ++ row_behind r

  -- a comma and one space before each type of a row
  pub row_behind : TypeRow → List Piece
  row_behind no_types = []
  row_behind (more_types t r) = token comma ∷ space ∷ type_pieces t ++ row_behind r

-- a number of femtoseconds, in the largest unit in which it is whole
abbrev pub time_text : ℕ → List ℕ
time_text n =
    if nat_eq (n % 1000000000000000) 0 then decimal (n / 1000000000000000) ++ codes "s"
    else if nat_eq (n % 1000000000000) 0 then decimal (n / 1000000000000) ++ codes "ms"
    else if nat_eq (n % 1000000000) 0 then decimal (n / 1000000000) ++ codes "us"
    else if nat_eq (n % 1000000) 0 then decimal (n / 1000000) ++ codes "ns"
    else if nat_eq (n % 1000) 0 then decimal (n / 1000) ++ codes "ps"
    else decimal n ++ codes "fs"

-- a count of steps behind a time, such as ` 1d`, where it is above 0
abbrev pub steps_pieces : ℕ → ℕ → List Piece
steps_pieces n letter = if nat_eq n 0 then [] else space ∷ token (word (decimal n ++ letter ∷ [])) ∷ []

-- a time: its femtoseconds, its delta steps and its epsilon steps
abbrev pub time_pieces : (fs delta eps : ℕ) → List Piece
time_pieces fs delta eps = token (word (time_text fs)) ∷ steps_pieces delta 100 ++ steps_pieces eps 101

-- a constant; one of an array or a struct has no spelling
abbrev pub const_pieces : Datum → List Piece
-- const iN k
const_pieces (int_value w bits) = keyword "const" ␣ type_pieces (int_type w) ␣ number bits
-- const time L
const_pieces (time_value d) = keyword "const" ␣ keyword "time" ␣ time_pieces d.fs d.delta d.eps
const_pieces (array_value r) = keyword "const"
const_pieces (tuple_value r) = keyword "const"
