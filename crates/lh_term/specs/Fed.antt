-- What the hash of a term reads.
use Rattle.std.specs.Prelude.{◌≡◌, ℕ, ◌+◌, ◌*◌, ◌^◌, ◌%◌, List, ◌++◌, true}
use Rattle.std.specs.Hash as fed
use Rattle.std.proofs.Common.{ap}
use Rattle.lh_types.specs.Values.{Datum, DatumRow, int_value, time_value, array_value, tuple_value, no_values, more_values}
use Rattle.lh_types.specs.ValueOf.{datum_of}
use Rattle.lh_term.specs.declared.term.TermId.{TermId}
use Rattle.lh_term.specs.declared.term.Term.{Term}
use Rattle.lh_term.specs.declared.term.Term.TheVariants.{Konst, Past, Now, Op as Applied, Choice}
use Rattle.lh_term.specs.declared.term.TermNode.{TermNode}
use Rattle.lh_term.specs.Parts.{extent_of}
use Rattle.lh_term.specs.Same.{op_tag, op_first, op_second}
use Rattle.lh_term.specs.SameTerm.{same_term, same_term-is}
use Rattle.lh_term.specs.SameNode.{same_node}

-- one number for two, modulo 2 ^ 128
unfoldable pub mixed : ℕ → ℕ → ℕ
mixed d e = ((d * 6364136223846793005) % 2 ^ 128 + e) % 2 ^ 128

-- a number for each constant: those that differ mostly have different ones
abbrev mutual
  pub salt_of_value : Datum → ℕ
  salt_of_value (int_value n a) = mixed n a
  salt_of_value (time_value d) = mixed (mixed d.fs d.delta) d.eps
  salt_of_value (array_value vs) = salt_of_row 129 vs
  salt_of_value (tuple_value vs) = salt_of_row 130 vs

  -- the same for the parts of an array or a struct, behind the number of those before them
  pub salt_of_row : ℕ → DatumRow → ℕ
  salt_of_row d no_values = d
  salt_of_row d (more_values v vs) = salt_of_row (mixed d (salt_of_value v)) vs

abbrev pub fed_id : TermId → List (List ℕ)
fed_id t = fed.usize t.0

abbrev pub fed_term : Term → List (List ℕ)
fed_term (Konst v) = fed.u128 (salt_of_value (datum_of v))
fed_term (Past p) = (fed.u32 p.arg ++ fed.u32 p.lo) ++ fed.u32 (extent_of p.ty)
fed_term (Now p) = (fed.u32 p.lo ++ fed.u32 p.arg) ++ fed.u32 (extent_of p.ty)
fed_term (Applied op args) = ((fed.u8 (op_tag op) ++ fed.u32 (op_first op)) ++ fed.u32 (op_second op)) ++ fed.slice fed_id args
fed_term (Choice c f t) = (fed_id c ++ fed_id f) ++ fed_id t

pub fed_alike : (m n : TermNode) → same_node m n ≡ true → fed_term m.term ≡ fed_term n.term
fed_alike m n e = ap fed_term (same_term-is m.term n.term e)
