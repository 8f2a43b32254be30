-- A digest of a type, by which it is hashed.
use Rattle.std.specs.Prelude.{◌≡◌, ℕ, ◌+◌, ◌*◌, ◌^◌, ◌%◌, List, IsTrue}
use Rattle.std.proofs.Common.{ap}
use Rattle.std.specs.Hash as fed
use Rattle.lh_types.specs.Types.{TypeTree, TypeRow, int_type, time_type, void_type, array_type, tuple_type, signal_type, pointer_type, no_types, more_types, same_type}
use Rattle.lh_types.specs.Same.{same-is}

-- one number for two, modulo 2 ^ 64
unfoldable pub mixed : ℕ → ℕ → ℕ
mixed d e = ((d * 6364136223846793005) % 2 ^ 64 + e) % 2 ^ 64

-- a number for each type: those that differ mostly have different ones
abbrev mutual
  pub digest_of : TypeTree → ℕ
  digest_of (int_type n) = n
  digest_of time_type = 129
  digest_of void_type = 130
  digest_of (array_type n t) = mixed (mixed 131 n) (digest_of t)
  digest_of (tuple_type r) = digest_of_row 132 r
  digest_of (signal_type t) = mixed 133 (digest_of t)
  digest_of (pointer_type t) = mixed 134 (digest_of t)

  -- the same for the fields of a struct, behind the number of those before them
  pub digest_of_row : ℕ → TypeRow → ℕ
  digest_of_row d no_types = d
  digest_of_row d (more_types t r) = digest_of_row (mixed d (digest_of t)) r

-- what a hasher is fed of a type
abbrev pub fed_type : TypeTree → List (List ℕ)
fed_type t = fed.u64 (digest_of t)

pub fed_alike : (x y : TypeTree) → IsTrue (same_type x y) → fed_type x ≡ fed_type y
fed_alike x y e = ap fed_type (same-is x y e)
