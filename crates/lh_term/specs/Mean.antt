-- What a term means where the parts have these values before and now.
use Rattle.std.specs.Prelude.{List, [], ◌∷◌, Bool, false, nat_eq}
use Rattle.std.proofs.Common.{zero, suc}
use Rattle.lh_types.specs.Types.{IsData}
use Rattle.lh_types.specs.Values.{Datum, int_value, time_value, array_value, tuple_value}
use Rattle.lh_types.specs.Fits.{FitsType}
use Rattle.lh_types.specs.Apply.{apply}
use Rattle.lh_term.specs.declared.part.Part.{Part}
use Rattle.lh_term.specs.Tree.{Tree, TreeRow, constant, past_of, now_of, operation, choice_of, no_trees, more_trees}

-- a value for each part
abbrev pub Valuation : Type 0
Valuation = Part → Datum

-- each part has a value of its type
abbrev pub IsFitting : Valuation → Type 0
IsFitting v = (p : Part) → IsData p.ty → FitsType (v p) p.ty

-- the second where the first is the integer 0, else the third
abbrev pub chosen : Datum → Datum → Datum → Datum
chosen (int_value n zero) f t = f
chosen (int_value n (suc a)) f t = t
chosen (time_value d) f t = t
chosen (array_value vs) f t = t
chosen (tuple_value vs) f t = t

abbrev mutual
  -- the value of a term
  pub mean : Valuation → Valuation → Tree → Datum
  mean past now (constant v) = v
  mean past now (past_of p) = past p
  mean past now (now_of p) = now p
  mean past now (operation op ts) = apply op (means past now ts)
  mean past now (choice_of c f t) = chosen (mean past now c) (mean past now f) (mean past now t)

  -- the values of operands in order
  pub means : Valuation → Valuation → TreeRow → List Datum
  means past now no_trees = []
  means past now (more_trees t ts) = mean past now t ∷ means past now ts

-- whether it is the integer 1
abbrev pub is_one : Datum → Bool
is_one (int_value n a) = nat_eq a 1
is_one (time_value d) = false
is_one (array_value vs) = false
is_one (tuple_value vs) = false
