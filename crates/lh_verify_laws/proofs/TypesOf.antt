-- A value has one type, and arguments those of their parameters.
use Rattle.std.proofs.Common.{◌≡◌, ℕ, List, [], ◌∷◌, Bool, true, false, ◌&&◌, Option, Some, None, refl, ap, subst}
use Rattle.std.specs.Option.{option_map_or}
use Rattle.std.proofs.lemmas.Bool.{false≢true, and_parts}
use Rattle.lh_types.specs.Types.{TypeTree, int_type, array_type, signal_type, pointer_type, same_type}
use Rattle.lh_types.specs.Same.{same-is}
use Rattle.lh_unit.specs.Contents.{OperandText, ArgText, UnitText}
use Rattle.lh_unit.specs.Typing.{value_type}
use Rattle.lh_unit.specs.TypingRows.{has_type, has_some_type, may_have_type, agrees, is_integer, is_array_of, type_satisfies, written_fits, is_pointer, is_signal}
use Rattle.lh_unit.specs.WellFormed.{arguments_fit}
use Rattle.lh_verify_laws.specs.Calls.{ArgumentsAre}
use Rattle.lh_verify_laws.specs.Operands.{IsOf, MayBeOf, IsAsWritten, IsWritten, IsLike}

same_found : (t : TypeTree) (o : Option TypeTree) → option_map_or (λ s. same_type s t) o false ≡ true → o ≡ Some t
same_found t None h = absurd (false≢true h)
same_found t (Some s) h = ap Some (same-is s t h)

pub has_type-is : (u : UnitText) (t : TypeTree) (n : List ℕ) → has_type u t n ≡ true → IsOf u t n
has_type-is u t n h = same_found t (value_type u n) h

pub has_some-is : (u : UnitText) (o : Option TypeTree) (n : List ℕ) → has_some_type u o n ≡ true → (t : TypeTree) × (o ≡ Some t) × IsOf u t n
has_some-is u None n h = absurd (false≢true h)
has_some-is u (Some t) n h = (t, refl, has_type-is u t n h)

-- where the type is known
pub has_known : (u : UnitText) (o : Option TypeTree) (t : TypeTree) (n : List ℕ) → o ≡ Some t → has_some_type u o n ≡ true → IsOf u t n
has_known u o t n e h = let P : Option TypeTree → Type 0 = λ z. has_some_type u z n ≡ true in has_type-is u t n (subst P e h)

pub may-be : (u : UnitText) (t : TypeTree) (o : Option (List ℕ)) → may_have_type u t o ≡ true → MayBeOf u t o
may-be u t None h = tt
may-be u t (Some n) h = has_type-is u t n h

pub as_written : (u : UnitText) (o : OperandText) → agrees u o ≡ true → IsAsWritten u o
as_written u o h t e = let P : Option TypeTree → Type 0 = λ w. option_map_or (λ s. has_type u s o.value) w true ≡ true in has_type-is u t o.value (subst P e h)

pub like : (u : UnitText) (t : TypeTree) (o : OperandText) → (has_type u t o.value && agrees u o) ≡ true → IsLike u t o
like u t o h = let b = and_parts (has_type u t o.value) (agrees u o) h in (has_type-is u t o.value b.0, as_written u o b.1)

found_written : (u : UnitText) (test : TypeTree → Bool) (n : List ℕ) (w : Option TypeTree) → option_map_or (λ t. test t && has_type u t n) w false ≡ true → (t : TypeTree) × (test t ≡ true)
    × ((w ≡ Some t) × IsOf u t n)
found_written u test n None h = absurd (false≢true h)
found_written u test n (Some t) h = let b = and_parts (test t) (has_type u t n) h in (t, b.0, (refl, has_type-is u t n b.1))

pub written : (u : UnitText) (test : TypeTree → Bool) (o : OperandText) → written_fits u test o ≡ true → (t : TypeTree) × (test t ≡ true) × IsWritten u t o
written u test o h = found_written u test o.value o.ty h

found : (test : TypeTree → Bool) (o : Option TypeTree) → option_map_or test o false ≡ true → (t : TypeTree) × (o ≡ Some t) × (test t ≡ true)
found test None h = absurd (false≢true h)
found test (Some t) h = (t, refl, h)

pub satisfies : (u : UnitText) (test : TypeTree → Bool) (n : List ℕ) → type_satisfies u test n ≡ true → (t : TypeTree) × IsOf u t n × (test t ≡ true)
satisfies u test n h = found test (value_type u n) h

-- what the tests say
pub pointer_is : (s : TypeTree) → is_pointer s ≡ true → (t : TypeTree) × (s ≡ pointer_type t)
pointer_is (pointer_type t) h = (t, refl)
pointer_is _ h = absurd (false≢true h)

pub signal_is : (s : TypeTree) → is_signal s ≡ true → (t : TypeTree) × (s ≡ signal_type t)
signal_is (signal_type t) h = (t, refl)
signal_is _ h = absurd (false≢true h)

pub integer_is : (s : TypeTree) → is_integer s ≡ true → (n : ℕ) × (s ≡ int_type n)
integer_is (int_type n) h = (n, refl)
integer_is _ h = absurd (false≢true h)

pub array_is : (t s : TypeTree) → is_array_of t s ≡ true → (n : ℕ) × (s ≡ array_type n t)
array_is t (array_type n s) h = (n, ap (array_type n) (same-is s t h))
array_is t _ h = absurd (false≢true h)

pub arguments-are : (u : UnitText) (os : List OperandText) (ps : List ArgText) → arguments_fit u os ps ≡ true → ArgumentsAre u os ps
arguments-are u [] [] h = tt
arguments-are u (o ∷ os) (a ∷ more) h = let b = and_parts (has_type u a.ty o.value) (arguments_fit u os more) h in (has_type-is u a.ty o.value b.0, arguments-are u os more b.1)
arguments-are u [] (a ∷ more) h = absurd (false≢true h)
arguments-are u (o ∷ os) [] h = absurd (false≢true h)
