-- What arguments that fit a row are.
use Rattle.std.proofs.Common.{◌≡◌, ℕ, ◌^◌, ◌≤◌, ◌<◌, List, [], ◌∷◌, refl, ap, ◌∙◌, subst, ◌⊎◌, inl, inr}
use Rattle.std.proofs.lemmas.Nat.{pow_pos}
use Rattle.lh_types.specs.Types.{TypeTree, int_type, row_of, AreData, IsData}
use Rattle.lh_types.specs.Values.{Datum, int_value, time_value, array_value, tuple_value, data_row}
use Rattle.lh_types.specs.Fits.{FitsType, FitsRow}
use Rattle.lh_types.specs.Classes.{class_of}
use Rattle.lh_types.specs.ApplyTypes.{FitsOp, OneInteger, TwoIntegers, ComparesIntegers, ClassType, ClassTakesIntegers, TakesIntegers}
use Rattle.lh_types.specs.declared.op.Op.{Op}
use Rattle.lh_types.specs.declared.op.OpClass.{OpClass}
use Rattle.lh_types.specs.declared.op.OpClass.TheVariants as class

-- a value that fits an integer type
pub record IsInt (v : Datum) (n : ℕ) : Type 0 where
  pub bits : ℕ
  pub is : v ≡ int_value n bits
  pub below : bits < 2 ^ n
  pub low : 1 ≤ n
  pub high : n ≤ 128

pub int_fit : (v : Datum) (n : ℕ) → IsData (int_type n) → FitsType v (int_type n) → IsInt v n
int_fit (int_value w b) n d f = record { bits = b; is = ap (λ k. int_value k b) f.0; below = f.1; low = d.0; high = d.1 }
int_fit (time_value t) n d f = absurd f
int_fit (array_value vs) n d f = absurd f
int_fit (tuple_value vs) n d f = absurd f

-- a row of values that fits one, two or three types
pub record OneArg (vs : List Datum) (t : TypeTree) : Type 0 where
  pub x : Datum
  pub is : vs ≡ x ∷ []
  pub fits_x : FitsType x t

pub one_arg : (vs : List Datum) (t : TypeTree) → FitsRow (data_row vs) (row_of (t ∷ [])) → OneArg vs t
one_arg [] t f = absurd f
one_arg (x ∷ []) t f = record { x = x; is = refl; fits_x = f.0 }
one_arg (x ∷ y ∷ vs) t f = absurd f.1

pub record TwoArgs (vs : List Datum) (t u : TypeTree) : Type 0 where
  pub x : Datum
  pub y : Datum
  pub is : vs ≡ x ∷ y ∷ []
  pub fits_x : FitsType x t
  pub fits_y : FitsType y u

pub two_args : (vs : List Datum) (t u : TypeTree) → FitsRow (data_row vs) (row_of (t ∷ u ∷ [])) → TwoArgs vs t u
two_args [] t u f = absurd f
two_args (x ∷ []) t u f = absurd f.1
two_args (x ∷ y ∷ []) t u f = record { x = x; y = y; is = refl; fits_x = f.0; fits_y = f.1.0 }
two_args (x ∷ y ∷ z ∷ vs) t u f = absurd f.1.1

pub record ThreeArgs (vs : List Datum) (t u s : TypeTree) : Type 0 where
  pub x : Datum
  pub y : Datum
  pub z : Datum
  pub is : vs ≡ x ∷ y ∷ z ∷ []
  pub fits_x : FitsType x t
  pub fits_y : FitsType y u
  pub fits_z : FitsType z s

pub three_args : (vs : List Datum) (t u s : TypeTree) → FitsRow (data_row vs) (row_of (t ∷ u ∷ s ∷ [])) → ThreeArgs vs t u s
three_args [] t u s f = absurd f
three_args (x ∷ []) t u s f = absurd f.1
three_args (x ∷ y ∷ []) t u s f = absurd f.1.1
three_args (x ∷ y ∷ z ∷ []) t u s f = record { x = x; y = y; z = z; is = refl; fits_x = f.0; fits_y = f.1.0; fits_z = f.1.1.0 }
three_args (x ∷ y ∷ z ∷ w ∷ vs) t u s f = absurd f.1.1.1

-- one or two integers of one width
pub record IntegerArgs (vs : List Datum) : Type 0 where
  pub n : ℕ
  pub a : ℕ
  pub b : ℕ
  pub low : 1 ≤ n
  pub high : n ≤ 128
  pub below_a : a < 2 ^ n
  pub below_b : b < 2 ^ n
  pub is : ((vs ≡ int_value n a ∷ []) × (b ≡ 0)) ⊎ (vs ≡ int_value n a ∷ int_value n b ∷ [])

one_integer : (vs : List Datum) (n : ℕ) → AreData (row_of (int_type n ∷ [])) → FitsRow (data_row vs) (row_of (int_type n ∷ [])) → IntegerArgs vs
one_integer vs n d f =
    let o = one_arg vs (int_type n) f in
    let x = int_fit o.x n d.0 o.fits_x in
    record { n = n; a = x.bits; b = 0; low = x.low; high = x.high; below_a = x.below; below_b = pow_pos n; is = inl (o.is ∙ ap (λ v. v ∷ []) x.is, refl) }

two_integers : (vs : List Datum) (n : ℕ) → AreData (row_of (int_type n ∷ int_type n ∷ [])) → FitsRow (data_row vs) (row_of (int_type n ∷ int_type n ∷ [])) → IntegerArgs vs
two_integers vs n d f =
    let o = two_args vs (int_type n) (int_type n) f in
    let x = int_fit o.x n d.0 o.fits_x in
    let y = int_fit o.y n d.0 o.fits_y in
    record {
      n = n;
      a = x.bits;
      b = y.bits;
      low = x.low;
      high = x.high;
      below_a = x.below;
      below_b = y.below;
      is = inr (o.is ∙ ap (λ v. v ∷ o.y ∷ []) x.is ∙ ap (λ v. int_value n x.bits ∷ v ∷ []) y.is);
    }

of_one : (vs : List Datum) (ts : List TypeTree) (r : TypeTree) → AreData (row_of ts) → FitsRow (data_row vs) (row_of ts) → OneInteger ts r → IntegerArgs vs
of_one vs ts r d f k = let D : List TypeTree → Type 0 = λ ts. AreData (row_of ts) in let F : List TypeTree → Type 0 = λ ts. FitsRow (data_row vs) (row_of ts) in
    one_integer vs k.0 (subst D k.1 d) (subst F k.1 f)

of_two : (vs : List Datum) (ts : List TypeTree) (r : TypeTree) → AreData (row_of ts) → FitsRow (data_row vs) (row_of ts) → TwoIntegers ts r → IntegerArgs vs
of_two vs ts r d f k = let D : List TypeTree → Type 0 = λ ts. AreData (row_of ts) in let F : List TypeTree → Type 0 = λ ts. FitsRow (data_row vs) (row_of ts) in
    two_integers vs k.0 (subst D k.1 d) (subst F k.1 f)

of_compared : (vs : List Datum) (ts : List TypeTree) (r : TypeTree) → AreData (row_of ts) → FitsRow (data_row vs) (row_of ts) → ComparesIntegers ts r → IntegerArgs vs
of_compared vs ts r d f k = let D : List TypeTree → Type 0 = λ ts. AreData (row_of ts) in let F : List TypeTree → Type 0 = λ ts. FitsRow (data_row vs) (row_of ts) in
    two_integers vs k.0 (subst D k.1 d) (subst F k.1 f)

-- arguments of a class that takes integers
class_args : (c : OpClass) (vs : List Datum) (ts : List TypeTree) (r : TypeTree) → ClassTakesIntegers c → AreData (row_of ts) → FitsRow (data_row vs) (row_of ts) → ClassType c ts r → IntegerArgs vs
class_args class.Unary vs ts r k d f h = of_one vs ts r d f h
class_args class.Binary vs ts r k d f h = of_two vs ts r d f h
class_args class.Relation vs ts r k d f h = of_compared vs ts r d f h
class_args _ vs ts r k d f h = absurd k

-- arguments of a row that takes integers
pub integer_args : (op : Op) (vs : List Datum) → TakesIntegers op → FitsOp op vs → IntegerArgs vs
integer_args op vs k f = class_args (class_of op) vs f.types f.gives k f.data_types f.values_fit f.row
