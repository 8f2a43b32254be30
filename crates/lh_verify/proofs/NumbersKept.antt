-- Numbers of types while more types get one.
use Rattle.std.proofs.Common.{◌≡◌, ℕ, ◌<◌, zero, suc, List, [], ◌∷◌, length, get_or, Option, Some, None, slice_get, ap, sym, ◌∙◌, subst, arith}
use Rattle.std.specs.Option.{option_and_then}
use Rattle.std.specs.Prelude.{Result, Ok, Err, OnOk}
use Rattle.std.proofs.lemmas.Option.{slice_get-get_or}
use Rattle.lh_types.specs.Types.{TypeTree}
use Rattle.lh_unit.specs.Arena.{Arena, args_at}
use Rattle.lh_unit.specs.declared.inst.Arg.{Arg}
use Rattle.lh_verify_values.specs.Numbers.{NumbersGrow, AreNumbersOf, NumbersParams}
use Rattle.lh_verify_values.proofs.TypeNumbers.{numbers-grow}

pub params-grow : (old new : List TypeTree) (a : Arena) (params : List (List ℕ)) → NumbersGrow old new → NumbersParams old a params → NumbersParams new a params
params-grow old new a params g n = record { long = n.long; numbers = λ u ns e. numbers-grow old new (args_at a u) ns g (n.numbers u ns e) }

-- the number of one argument
within : (types : List TypeTree) (ns : List ℕ) (k : ℕ) (t : TypeTree) → option_and_then (slice_get types) (slice_get ns k) ≡ Some t → k < length ns
within types [] k t e = cc
within types (n ∷ ns) zero t e = omega arith
within types (n ∷ ns) (suc k) t e = let h : k < length ns = within types ns k t e in omega arith

at : (types : List TypeTree) (ns : List ℕ) (k : ℕ) (t : TypeTree) (d : ℕ) → option_and_then (slice_get types) (slice_get ns k) ≡ Some t → slice_get types (get_or ns k d) ≡ Some t
at types [] k t d e = cc
at types (n ∷ ns) zero t d e = e
at types (n ∷ ns) (suc k) t d e = at types ns k t d e

pub number-within : (types : List TypeTree) (args : List Arg) (ns : List ℕ) (k : ℕ) (x : Arg) → AreNumbersOf types args ns → k < length args → x ≡ get_or args k x → k < length ns
number-within types args ns k x a h e = within types ns k x.ty (a k x (slice_get-get_or args k x h ∙ ap Some (sym e)))

pub number-there : (types : List TypeTree) (args : List Arg) (ns : List ℕ) (k : ℕ) (x : Arg) (d : ℕ) → AreNumbersOf types args ns → k < length args → x ≡ get_or args k x
    → slice_get types (get_or ns k d) ≡ Some x.ty
number-there types args ns k x d a h e = at types ns k x.ty d (a k x (slice_get-get_or args k x h ∙ ap Some (sym e)))

-- the same arguments
pub numbers-of : (types : List TypeTree) (own args : List Arg) (ns : List ℕ) → own ≡ args → AreNumbersOf types args ns → AreNumbersOf types own ns
numbers-of types own args ns e a = let P : List Arg → Type 0 = λ xs. AreNumbersOf types xs ns in subst P (sym e) a

pub ok-always : {A E : Type 0} → (P : Type 0) (r : Result A E) → P → OnOk r P
ok-always P (Ok x) p = p
ok-always P (Err e) p = tt
