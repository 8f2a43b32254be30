-- What `inst` and `call` name in a module without a fault.
use Rattle.std.proofs.Common.{◌≡◌, ◌⊎◌, inl, inr, List, [], ◌∷◌, Bool, true, false, not, ◌&&◌, ◌||◌, if◌then◌else◌, Option, Some, None, refl, ap, sym, ◌∙◌, subst}
use Rattle.std.specs.Option.{option_map_or}
use Rattle.std.proofs.lemmas.Bool.{false≢true, false_from_ne_true, not-false, and_parts, or_parts}
use Rattle.std.proofs.Math.Bool.{or-false}
use Rattle.lh_types.specs.Types.{TypeTree, void_type, same_type}
use Rattle.lh_types.specs.Same.{same-is}
use Rattle.lh_unit_names.specs.declared.name.UnitName.{UnitName}
use Rattle.lh_unit_names.specs.UnitNames.{same_unit_name, is_assert}
use Rattle.lh_unit.specs.Contents.{OperandText, InstText, child_text, call_text, UnitText, ItemText, unit_text, declare_text, defines_unit}
use Rattle.lh_unit.specs.Named.{unit_named, is_function}
use Rattle.lh_unit.specs.WellFormed.{undefined, arguments, is_undefined, is_function_name, names_wrong_unit, result_fits, arguments_fit, inputs_of, outputs_of, assert_args, args_of, arguments_differ}
use Rattle.lh_verify_laws.specs.Calls.{InstanceIsRight, FunctionIsRight, AssertIsRight, NamedIsRight, CallsAreRight}
use Rattle.lh_verify_laws.proofs.Sound.{at_site}
use Rattle.lh_verify_laws.proofs.ShapeLaw.{all_found}
use Rattle.lh_verify_laws.proofs.TypesOf.{arguments-are}
use Rattle.lh_verify_laws.proofs.OperandsLaw.{kinds_right, types_right}

unit_found : (n : UnitName) (items : List ItemText) → defines_unit n items ≡ true → (w : UnitText) × (unit_named n items ≡ Some w)
unit_found n [] h = absurd (false≢true h)
unit_found n (declare_text d ∷ more) h = unit_found n more h
unit_found n (unit_text u ∷ more) h = at (same_unit_name u.name n) (unit_found n more) h
  where
    at : (x : Bool) → (defines_unit n more ≡ true → (w : UnitText) × (unit_named n more ≡ Some w)) → (x || defines_unit n more) ≡ true → (w : UnitText)
        × ((if x then Some u else unit_named n more) ≡ Some w)
    at true r g = (u, refl)
    at false r g = r g

-- it is defined, and is not `@llhd.assert`
defined_unit : (n : UnitName) (items : List ItemText) → is_assert n ≡ false → (defines_unit n items || is_assert n) ≡ true → (w : UnitText) × (unit_named n items ≡ Some w)
defined_unit n items a h = unit_found n items (first (defines_unit n items) (is_assert n) a h)
  where
    first : (x y : Bool) → y ≡ false → (x || y) ≡ true → x ≡ true
    first true y p q = refl
    first false y p q = absurd (false≢true (sym p ∙ q))

-- whether it is a function
names_function : (n : UnitName) (items : List ItemText) (w : UnitText) → unit_named n items ≡ Some w → is_assert n ≡ false → is_function_name items n ≡ is_function w.kind
names_function n items w e a =
    ap (λ o. option_map_or (λ (v : UnitText). is_function v.kind) o false || is_assert n) e ∙ ap (λ b. is_function w.kind || b) a ∙ or-false (is_function w.kind)

-- its parameters
its_args : (n : UnitName) (items : List ItemText) (w : UnitText) → unit_named n items ≡ Some w → is_assert n ≡ false → args_of items n ≡ Some w.args
its_args n items w e a =
    ap (λ b. if b then Some assert_args else option_map_or (λ (v : UnitText). Some v.args) (unit_named n items) None) a
    ∙ ap (λ o. option_map_or (λ (v : UnitText). Some v.args) o None) e

instance_right : (items : List ItemText) (u : UnitText) (n : UnitName) (inputs outputs : List OperandText) → (defines_unit n items || is_assert n) ≡ true → is_function_name items n ≡ false
    → arguments_differ items u (child_text n inputs outputs) ≡ false → InstanceIsRight items u n inputs outputs
instance_right items u n inputs outputs d f h =
    let a : is_assert n ≡ false = (or_parts (option_map_or (λ (v : UnitText). is_function v.kind) (unit_named n items) false) (is_assert n) f).1 in
    let w = defined_unit n items a d in
    let g = ap (λ o. option_map_or (λ args. not (arguments_fit u inputs (inputs_of args) && arguments_fit u outputs (outputs_of args))) o false) (sym (its_args n items w.0 w.1 a)) ∙ h in
    let b = and_parts (arguments_fit u inputs (inputs_of w.0.args)) (arguments_fit u outputs (outputs_of w.0.args))
    (not-false (arguments_fit u inputs (inputs_of w.0.args) && arguments_fit u outputs (outputs_of w.0.args)) g) in
    record {
      of = w.0;
      named = w.1;
      no_function = sym (names_function n items w.0 w.1 a) ∙ f;
      no_assert = a;
      inputs_are = arguments-are u inputs (inputs_of w.0.args) b.0;
      outputs_are = arguments-are u outputs (outputs_of w.0.args) b.1;
    }

-- a result that is there fits
result_is : (r : TypeTree) (o : Option TypeTree) → option_map_or (same_type r) o true ≡ true → (t : TypeTree) → o ≡ Some t → r ≡ t
result_is r o h t e = let P : Option TypeTree → Type 0 = λ z. option_map_or (same_type r) z true ≡ true in same-is r t (subst P e h)

call_right : (items : List ItemText) (u : UnitText) (n : UnitName) (r : TypeTree) (args : List OperandText) → (defines_unit n items || is_assert n) ≡ true → is_function_name items n ≡ true
    → result_fits items (call_text n r args) ≡ true → arguments_differ items u (call_text n r args) ≡ false → NamedIsRight items u (call_text n r args)
call_right items u n r args d f p h = at (is_assert n) refl
  where
    at : (b : Bool) → is_assert n ≡ b → ((is_assert n ≡ true) × AssertIsRight u r args) ⊎ ((is_assert n ≡ false) × FunctionIsRight items u n r args)
    at true a =
        let q : same_type r void_type ≡ true = ap (λ b. if b then same_type r void_type else option_map_or (λ (v : UnitText). option_map_or (same_type r) v.result true) (unit_named n items) true) (sym
        a) ∙ p in
        let g : not (arguments_fit u args assert_args) ≡ false =
        ap (λ b. option_map_or (λ params. not (arguments_fit u args params)) (if b then Some assert_args else option_map_or (λ (v : UnitText). Some v.args) (unit_named n items) None) false) (sym a)
        ∙ h in
        inl (a, record { gives = same-is r void_type q; args_are = arguments-are u args assert_args (not-false (arguments_fit u args assert_args) g) })
    at false a =
        let w = defined_unit n items a d in
        let q : option_map_or (same_type r) w.0.result true ≡ true =
        ap (λ o. option_map_or (λ (v : UnitText). option_map_or (same_type r) v.result true) o true) (sym w.1)
        ∙ ap (λ b. if b then same_type r void_type else option_map_or (λ (v : UnitText). option_map_or (same_type r) v.result true) (unit_named n items) true) (sym a) ∙ p in
        let g : not (arguments_fit u args w.0.args) ≡ false = ap (λ o. option_map_or (λ params. not (arguments_fit u args params)) o false) (sym (its_args n items w.0 w.1 a)) ∙ h in
        inr (
          a,
          record {
            of = w.0;
            named = w.1;
            function = sym (names_function n items w.0 w.1 a) ∙ f;
            gives = result_is r w.0.result q;
            args_are = arguments-are u args w.0.args (not-false (arguments_fit u args w.0.args) g);
          },
        )

named_right : (items : List ItemText) (u : UnitText) (i : InstText) → is_undefined items u i ≡ false → names_wrong_unit items i ≡ false → not (result_fits items i) ≡ false
    → arguments_differ items u i ≡ false → NamedIsRight items u i
named_right items u (child_text n inputs outputs) d w r a =
    let f = all_found items u (child_text n inputs outputs) d in instance_right items u n inputs outputs (not-false (defines_unit n items || is_assert n) f.2.0) w a
named_right items u (call_text n r args) d w q a =
    let f = all_found items u (call_text n r args) d in
    call_right items u n r args (not-false (defines_unit n items || is_assert n) f.2.0) (not-false (is_function_name items n) w) (not-false (result_fits items (call_text n r args)) q) a
named_right items u _ d w r a = tt

pub calls_are_right : CallsAreRight
calls_are_right items s f c =
    let u = s.unit in let i = s.place.line.inst in let a = at_site items s f c in
    named_right items u i (false_from_ne_true (is_undefined items u i) (a.none undefined)) (kinds_right items s a).1 (types_right items s a).2
    (false_from_ne_true (arguments_differ items u i) (a.none arguments))
