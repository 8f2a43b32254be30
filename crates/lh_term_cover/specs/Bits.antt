-- Which bits of arguments the parts of a list have.
use Rattle.std.specs.Prelude.{ℕ, ◌+◌, Bool, true, ◌&&◌, nat_eq, nat_le, nat_lt, List}
use Rattle.std.specs.List.{list_any, list_all}
use Rattle.std.proofs.Common.{zero, suc}
use Rattle.lh_types.specs.Types.{bit_count}
use Rattle.lh_term.specs.declared.part.Part.{Part}

-- whether the part has this bit of this argument
abbrev pub has_bit : Part → ℕ → ℕ → Bool
has_bit p a b = nat_eq p.arg a && (nat_le p.lo b && nat_lt b (p.lo + bit_count p.ty))

-- whether some part of the list has this bit of this argument
abbrev pub is_waited : List Part → ℕ → ℕ → Bool
is_waited ps a b = list_any (λ p. has_bit p a b) ps

-- whether some part of the list has each of the n bits of an argument from `lo` on
abbrev pub are_waited : List Part → ℕ → ℕ → ℕ → Bool
are_waited ps a lo zero = true
are_waited ps a lo (suc n) = is_waited ps a (lo + n) && are_waited ps a lo n

-- whether each bit of the part is one of theirs
abbrev pub covers : List Part → Part → Bool
covers ps p = are_waited ps p.arg p.lo (bit_count p.ty)

-- whether two lists of parts have the same bits: each covers every part of the other
abbrev pub same_bits : List Part → List Part → Bool
same_bits ps qs = list_all (covers ps) qs && list_all (covers qs) ps
