-- An operation that computes with two integers.
use Rattle.std.proofs.Common.{◌≡◌, ℕ, ◌^◌, ◌≤◌, ◌<◌, List, [], ◌∷◌, length, refl, ap, inl, inr, arith}
use Rattle.lh_types.specs.Values.{Datum, int_value}
use Rattle.lh_types.specs.Classes.{class_of}
use Rattle.lh_types.specs.Apply.{apply, class_value, integer_result}
use Rattle.lh_types.specs.ApplyTypes.{FitsOp, ClassTakesIntegers, TakesIntegers}
use Rattle.lh_types.specs.declared.op.Op.{Op}
use Rattle.lh_types.specs.declared.op.OpClass.{OpClass}
use Rattle.lh_types.specs.declared.op.OpClass.TheVariants as class
use Rattle.lh_ops.proofs.FitLemmas.{integer_args}

-- two integers of one width
pub record TwoIntegers (a b : Datum) : Type 0 where
  pub n : ℕ
  pub x : ℕ
  pub y : ℕ
  pub low : 1 ≤ n
  pub high : n ≤ 128
  pub below_x : x < 2 ^ n
  pub below_y : y < 2 ^ n
  pub is_a : a ≡ int_value n x
  pub is_b : b ≡ int_value n y

pub two_integers : (op : Op) (a b : Datum) → TakesIntegers op → FitsOp op (a ∷ b ∷ []) → TwoIntegers a b
two_integers op a b k f =
    let args = integer_args op (a ∷ b ∷ []) k f in
    elim args.is [
      | inl one ↦ absurd (omega (arith, ap length one.0))
      | inr two ↦ record { n = args.n; x = args.a; y = args.b; low = args.low; high = args.high; below_x = args.below_a; below_y = args.below_b; is_a = cc; is_b = cc }
    ]

pub integers_are : (op : Op) (vs : List Datum) → TakesIntegers op → apply op vs ≡ integer_result op vs
unfolding apply
integers_are op vs k = by (class_of op) k
  where
    by : (c : OpClass) → ClassTakesIntegers c → class_value c op vs ≡ integer_result op vs
    by class.Unary k = refl
    by class.Binary k = refl
    by class.Relation k = refl
    by _ k = absurd k
