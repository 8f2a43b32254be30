-- A type of the language as contracts see it, with its bits, its depth and its limits.
use Rattle.std.specs.Prelude.{◌≡◌, ℕ, ◌+◌, ◌*◌, ◌^◌, ◌≤◌, ◌<◌, max, List, [], ◌∷◌, Bool, true, false, ◌&&◌, nat_eq, refl}
use base.Stored.{Gv, gnil, gnum, gcons, Coded}

mutual
  -- `iN`, `time`, `void`, `[N x T]`, `{T1, T2}`, `T$` and `T*`
  pub data TypeTree : Type 0 where
    int_type : ℕ → TypeTree
    time_type : TypeTree
    void_type : TypeTree
    array_type : ℕ → TypeTree → TypeTree
    tuple_type : TypeRow → TypeTree
    signal_type : TypeTree → TypeTree
    pointer_type : TypeTree → TypeTree

  -- the fields of a struct in order
  pub data TypeRow : Type 0 where
    no_types : TypeRow
    more_types : TypeTree → TypeRow → TypeRow

-- the fields of a list in order
abbrev pub row_of : List TypeTree → TypeRow
row_of [] = no_types
row_of (t ∷ ts) = more_types t (row_of ts)

abbrev mutual
  -- how many bits a value has; 0 for what carries none
  pub bit_count : TypeTree → ℕ
  bit_count (int_type n) = n
  bit_count time_type = 0
  bit_count void_type = 0
  bit_count (array_type n t) = n * bit_count t
  bit_count (tuple_type r) = bit_count_row r
  bit_count (signal_type t) = bit_count t
  bit_count (pointer_type t) = 0

  pub bit_count_row : TypeRow → ℕ
  bit_count_row no_types = 0
  bit_count_row (more_types t r) = bit_count t + bit_count_row r

abbrev mutual
  -- how deep a type nests: 1 for an integer, and 1 more than the deepest part of an array or struct
  pub depth_of : TypeTree → ℕ
  depth_of (int_type n) = 1
  depth_of time_type = 1
  depth_of void_type = 1
  depth_of (array_type n t) = depth_of t + 1
  depth_of (tuple_type r) = depth_of_row r + 1
  depth_of (signal_type t) = depth_of t
  depth_of (pointer_type t) = depth_of t

  pub depth_of_row : TypeRow → ℕ
  depth_of_row no_types = 0
  depth_of_row (more_types t r) = max (depth_of t) (depth_of_row r)

abbrev mutual
  -- a data type within its limits: an integer of 1 to 128 bits, or an array or struct of data types
  -- with at least one part, at most 65,536 bits, and a depth of at most 16
  pub IsData : TypeTree → Type 0
  IsData (int_type n) = (1 ≤ n) × (n ≤ 128)
  IsData time_type = ⊥
  IsData void_type = ⊥
  IsData (array_type n t) = IsData t × (1 ≤ n) × (n < 2 ^ 32) × (n * bit_count t ≤ 65536) × (depth_of t + 1 ≤ 16)
  IsData (tuple_type r) = AreData r × (0 < bit_count_row r) × (bit_count_row r ≤ 65536) × (depth_of_row r + 1 ≤ 16)
  IsData (signal_type t) = ⊥
  IsData (pointer_type t) = ⊥

  -- each is a data type within its limits
  pub AreData : TypeRow → Type 0
  AreData no_types = Unit {0}
  AreData (more_types t r) = IsData t × AreData r

-- what a pointer may point to
abbrev pub IsTime : TypeTree → Type 0
IsTime time_type = Unit {0}
IsTime _ = ⊥

-- a type of the language: a signal carries a data type, and a pointer points to a data type or time
abbrev pub IsLimited : TypeTree → Type 0
IsLimited time_type = Unit {0}
IsLimited void_type = Unit {0}
IsLimited (signal_type t) = IsData t
IsLimited (pointer_type time_type) = Unit {0}
IsLimited (pointer_type t) = IsData t
IsLimited t = IsData t

-- how many nodes it has, for recursions
abbrev mutual
  pub node_count : TypeTree → ℕ
  node_count (int_type n) = 1
  node_count time_type = 1
  node_count void_type = 1
  node_count (array_type n t) = node_count t + 1
  node_count (tuple_type r) = node_count_row r + 1
  node_count (signal_type t) = node_count t + 1
  node_count (pointer_type t) = node_count t + 1

  pub node_count_row : TypeRow → ℕ
  node_count_row no_types = 1
  node_count_row (more_types t r) = node_count t + node_count_row r + 1

abbrev mutual
  -- a type as stored data, which tells any two apart
  code : TypeTree → Gv
  code (int_type n) = gcons (gnum 0) (gnum n)
  code time_type = gcons (gnum 1) gnil
  code void_type = gcons (gnum 2) gnil
  code (array_type n t) = gcons (gnum 3) (gcons (gnum n) (code t))
  code (tuple_type r) = gcons (gnum 4) (code_row r)
  code (signal_type t) = gcons (gnum 5) (code t)
  code (pointer_type t) = gcons (gnum 6) (code t)

  code_row : TypeRow → Gv
  code_row no_types = gnil
  code_row (more_types t r) = gcons (code t) (code_row r)

mutual
  pub code_inj : (x y : TypeTree) → code x ≡ code y → x ≡ y
  code_inj (int_type n) (int_type m) p = cc
  code_inj time_type time_type p = refl
  code_inj void_type void_type p = refl
  code_inj (array_type n t) (array_type m u) p = let e : code t ≡ code u = cc in let f : n ≡ m = cc in cc (code_inj t u e)
  code_inj (tuple_type r) (tuple_type s) p = let e : code_row r ≡ code_row s = cc in cc (code_row_inj r s e)
  code_inj (signal_type t) (signal_type u) p = let e : code t ≡ code u = cc in cc (code_inj t u e)
  code_inj (pointer_type t) (pointer_type u) p = let e : code t ≡ code u = cc in cc (code_inj t u e)
  code_inj _ _ p = cc

  pub code_row_inj : (r s : TypeRow) → code_row r ≡ code_row s → r ≡ s
  code_row_inj no_types no_types p = refl
  code_row_inj (more_types t r) (more_types u s) p = let e : code t ≡ code u = cc in let f : code_row r ≡ code_row s = cc in cc (code_inj t u e, code_row_inj r s f)
  code_row_inj _ _ p = cc

abbrev pub type_coded : Coded TypeTree
type_coded = record { code = code; inj = code_inj }

-- whether two types are one
abbrev mutual
  pub same_type : TypeTree → TypeTree → Bool
  same_type (int_type n) (int_type m) = nat_eq n m
  same_type time_type time_type = true
  same_type void_type void_type = true
  same_type (array_type n t) (array_type m u) = nat_eq n m && same_type t u
  same_type (tuple_type r) (tuple_type s) = same_row r s
  same_type (signal_type t) (signal_type u) = same_type t u
  same_type (pointer_type t) (pointer_type u) = same_type t u
  same_type _ _ = false

  pub same_row : TypeRow → TypeRow → Bool
  same_row no_types no_types = true
  same_row (more_types t r) (more_types u s) = same_type t u && same_row r s
  same_row _ _ = false
