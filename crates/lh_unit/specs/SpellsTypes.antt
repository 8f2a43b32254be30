-- How types are spelled.
use Rattle.std.specs.Prelude.{◌≡◌, ℕ, List, ◌∷◌, Some, codes}
use Rattle.lh_types.specs.Types.{TypeTree, TypeRow, int_type, time_type, void_type, array_type, tuple_type, signal_type, pointer_type, no_types, more_types, IsLimited}
use Rattle.lh_unit.specs.Lexemes.{Lexeme, word}
use Rattle.lh_unit.specs.Marks.{open_bracket, close_bracket, open_brace, close_brace, comma, dollar, star}
use Rattle.lh_unit.specs.Numerals.{number_of}

abbrev mutual
  -- the tokens spell the type, whatever its size, and the tokens `more` follow
  pub SpellsTree : TypeTree → List Lexeme → List Lexeme → Type 0
  -- `iN`
  SpellsTree (int_type n) ts more = (w : List ℕ) × (ts ≡ word (105 ∷ w) ∷ more) × (number_of w ≡ Some n)
  -- `time`
  SpellsTree time_type ts more = ts ≡ word (codes "time") ∷ more
  -- `void`
  SpellsTree void_type ts more = ts ≡ word (codes "void") ∷ more
  -- `[N x T]`
  SpellsTree (array_type n t) ts more = (w : List ℕ) × (us : List Lexeme) × (ts ≡ open_bracket ∷ word w ∷ word (codes "x") ∷ us) × (number_of w ≡ Some n) × SpellsTree t us (close_bracket ∷ more)
  -- `{T1, T2}`
  SpellsTree (tuple_type r) ts more = (us : List Lexeme) × (ts ≡ open_brace ∷ us) × SpellsRow r us (close_brace ∷ more)
  -- `T$`
  SpellsTree (signal_type t) ts more = SpellsTree t ts (dollar ∷ more)
  -- `T*`
  SpellsTree (pointer_type t) ts more = SpellsTree t ts (star ∷ more)

  -- one or more types by comma
  pub SpellsRow : TypeRow → List Lexeme → List Lexeme → Type 0
  SpellsRow no_types ts more = ⊥
  SpellsRow (more_types t no_types) ts more = SpellsTree t ts more
  SpellsRow (more_types t (more_types u r)) ts more = (us : List Lexeme) × SpellsTree t ts (comma ∷ us) × SpellsRow (more_types u r) us more

-- the tokens spell a type within its limits, and the tokens `more` follow
abbrev pub SpellsType : TypeTree → List Lexeme → List Lexeme → Type 0
SpellsType t ts more = SpellsTree t ts more × IsLimited t

-- a data type or `time`
abbrev pub IsValueType : TypeTree → Type 0
IsValueType void_type = ⊥
IsValueType (signal_type t) = ⊥
IsValueType (pointer_type t) = ⊥
IsValueType _ = Unit {0}

-- a data type, `time` or `void`
abbrev pub IsResultType : TypeTree → Type 0
IsResultType (signal_type t) = ⊥
IsResultType (pointer_type t) = ⊥
IsResultType _ = Unit {0}

-- the type of a signal
abbrev pub IsSignal : TypeTree → Type 0
IsSignal (signal_type t) = Unit {0}
IsSignal _ = ⊥

-- `V`
abbrev pub SpellsValueType : TypeTree → List Lexeme → List Lexeme → Type 0
SpellsValueType t ts more = IsValueType t × SpellsType t ts more

-- `S`
abbrev pub SpellsSignalType : TypeTree → List Lexeme → List Lexeme → Type 0
SpellsSignalType t ts more = IsSignal t × SpellsType t ts more
