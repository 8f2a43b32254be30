-- Whether an instruction has a fault depends on the other units of its module only by how those that it names are named.
use Rattle.std.proofs.Common.{◌≡◌, List, [], ◌∷◌, ◌++◌, Bool, true, false, not, ◌&&◌, ◌||◌, Option, Some, None, refl, ap, ◌∙◌}
use Rattle.std.specs.Bool.{if◌then◌else◌}
use Rattle.std.specs.List.{list_any}
use Rattle.std.specs.Option.{option_map_or}
use Rattle.lh_types.specs.Types.{TypeTree, void_type, same_type}
use Rattle.lh_unit_names.specs.declared.name.UnitName.{UnitName}
use Rattle.lh_unit.specs.Contents.{InstText, child_text, call_text, ArgText, UnitText, ItemText, defines_unit, defines_value, defines_label}
use Rattle.lh_unit.specs.Kinds.{uses}
use Rattle.lh_unit.specs.Named.{unit_named, is_function}
use Rattle.lh_unit_names.specs.UnitNames.{is_assert}
use Rattle.lh_unit.specs.Places.{InstPlaceText, places}
use Rattle.lh_unit.specs.TypingRows.{types_fit}
use Rattle.lh_unit.specs.WellFormed.{FaultKind, undefined, wrong_kind, wrong_type, not_here, no_terminator, phi_edges, not_defined, arguments, values_named, labels_named, units_named, is_undefined, is_asked, has_wrong_kind, has_no_kind, is_function_name, names_wrong_unit, probes_for_signal, result_fits, arguments_fit, inputs_of, outputs_of, assert_args, args_of, arguments_differ, Site, has_local, hides_paths, has_paths, HasFault, NoneHasFault}

-- to those who name them two units are alike
pub record NamedAlike (v w : UnitText) : Type 0 where
  pub function : is_function v.kind ≡ is_function w.kind
  pub args : v.args ≡ w.args
  pub result : v.result ≡ w.result

-- so are what is found under a name in two modules
abbrev pub FoundAlike : Option UnitText → Option UnitText → Type 0
FoundAlike None None = Unit {0}
FoundAlike (Some v) (Some w) = NamedAlike v w
FoundAlike _ _ = ⊥

-- under each name the modules define units that are alike to those who name them
pub record NamesAlike (m n : List ItemText) : Type 0 where
  pub defined : (x : UnitName) → defines_unit x m ≡ defines_unit x n
  pub found : (x : UnitName) → FoundAlike (unit_named x m) (unit_named x n)

found-same : {B : Type 0} (f : UnitText → B) (d : B) → ((v w : UnitText) → NamedAlike v w → f v ≡ f w) → (o p : Option UnitText) → FoundAlike o p → option_map_or f o d ≡ option_map_or f p d
found-same f d g None None h = refl
found-same f d g None (Some w) h = absurd h
found-same f d g (Some v) None h = absurd h
found-same f d g (Some v) (Some w) h = g v w h

any-same : {X : Type 0} (f g : X → Bool) → ((x : X) → f x ≡ g x) → (xs : List X) → list_any f xs ≡ list_any g xs
any-same f g e [] = refl
any-same f g e (x ∷ xs) = ap (λ b. b || list_any f xs) (e x) ∙ ap (λ b. g x || b) (any-same f g e xs)

module _ (m n : List ItemText) (h : NamesAlike m n) where
  function-name-same : (x : UnitName) → is_function_name m x ≡ is_function_name n x
  function-name-same x =
      ap (λ b. b || is_assert x) (found-same (λ (v : UnitText). is_function v.kind) false (λ v w z. z.function) (unit_named x m) (unit_named x n) (h.found x))

  wrong-unit-same : (i : InstText) → names_wrong_unit m i ≡ names_wrong_unit n i
  wrong-unit-same (child_text v inputs outputs) = function-name-same v
  wrong-unit-same (call_text f result args) = ap not (function-name-same f)
  wrong-unit-same _ = refl

  result-same : (i : InstText) → result_fits m i ≡ result_fits n i
  result-same (call_text f result args) =
      ap (λ b. if is_assert f then same_type result void_type else b)
      (found-same (λ (v : UnitText). option_map_or (same_type result) v.result true) true (λ v w z. ap (λ (r : Option TypeTree). option_map_or (same_type result) r true) z.result) (unit_named f m)
      (unit_named f n) (h.found f))
  result-same _ = refl

  args-same : (x : UnitName) → args_of m x ≡ args_of n x
  args-same x =
      ap (λ (o : Option (List ArgText)). if is_assert x then Some assert_args else o)
      (found-same (λ (v : UnitText). Some v.args) None (λ v w z. ap Some z.args) (unit_named x m) (unit_named x n) (h.found x))

  differ-same : (u : UnitText) (i : InstText) → arguments_differ m u i ≡ arguments_differ n u i
  differ-same u (child_text v inputs outputs) =
      ap (λ (o : Option (List ArgText)). option_map_or (λ args. not (arguments_fit u inputs (inputs_of args) && arguments_fit u outputs (outputs_of args))) o false) (args-same v)
  differ-same u (call_text f result args) = ap (λ (o : Option (List ArgText)). option_map_or (λ params. not (arguments_fit u args params)) o false) (args-same f)
  differ-same u _ = refl

  undefined-same : (u : UnitText) (i : InstText) → is_undefined m u i ≡ is_undefined n u i
  undefined-same u i =
      ap (λ b. list_any (λ x. not (defines_value x u)) (values_named i) || list_any (λ x. not (defines_label x u)) (labels_named i) || b)
      (any-same (λ x. not (defines_unit x m || is_assert x)) (λ x. not (defines_unit x n || is_assert x)) (λ x. ap (λ b. not (b || is_assert x)) (h.defined x)) (units_named i))

  local-same : (s : Site) (k : FaultKind) → has_local m s k ≡ has_local n s k
  local-same s undefined = undefined-same s.unit s.place.line.inst
  local-same s wrong_kind =
      ap (λ b. is_asked s.unit s.place.line.inst && (list_any (has_wrong_kind s.unit) (uses s.place.line.inst) || b || probes_for_signal s.unit s.place.line.inst)) (wrong-unit-same s.place.line.inst)
  local-same s wrong_type =
      ap (λ b. is_asked s.unit s.place.line.inst && (list_any (has_no_kind s.unit) (uses s.place.line.inst) || not (types_fit s.unit s.place.line.inst) || not b)) (result-same s.place.line.inst)
  local-same s not_here = refl
  local-same s no_terminator = refl
  local-same s phi_edges = refl
  local-same s not_defined = refl
  local-same s arguments = differ-same s.unit s.place.line.inst

  hides-same : (s : Site) → hides_paths m s ≡ hides_paths n s
  hides-same s = ap (λ b. b || has_local m s no_terminator || has_local m s phi_edges) (local-same s undefined)

  paths-same : (u : UnitText) → has_paths m u ≡ has_paths n u
  paths-same u =
      ap not (any-same (λ (p : InstPlaceText). hides_paths m (record { unit = u; place = p })) (λ (p : InstPlaceText). hides_paths n (record { unit = u; place = p }))
      (λ p. hides-same (record { unit = u; place = p })) (places u))

  fault-same : (s : Site) (k : FaultKind) → HasFault n s k → HasFault m s k
  fault-same s undefined z = local-same s undefined ∙ z
  fault-same s wrong_kind z = local-same s wrong_kind ∙ z
  fault-same s wrong_type z = local-same s wrong_type ∙ z
  fault-same s not_here z = z
  fault-same s no_terminator z = z
  fault-same s phi_edges z = z
  fault-same s not_defined z = (paths-same s.unit ∙ z.0, z.1)
  fault-same s arguments z = local-same s arguments ∙ z

  -- what has no fault in the one module has none in the other
  pub none-same : (xs : List Site) → NoneHasFault m xs → NoneHasFault n xs
  none-same [] z = tt
  none-same (s ∷ xs) z = (λ k f. z.0 k (fault-same s k f), none-same xs z.1)

pub none-left : (m : List ItemText) (xs ys : List Site) → NoneHasFault m (xs ++ ys) → NoneHasFault m xs
none-left m [] ys z = tt
none-left m (s ∷ xs) ys z = (z.0, none-left m xs ys z.1)

pub none-right : (m : List ItemText) (xs ys : List Site) → NoneHasFault m (xs ++ ys) → NoneHasFault m ys
none-right m [] ys z = z
none-right m (s ∷ xs) ys z = none-right m xs ys z.1

pub none-both : (m : List ItemText) (xs ys : List Site) → NoneHasFault m xs → NoneHasFault m ys → NoneHasFault m (xs ++ ys)
none-both m [] ys z w = w
none-both m (s ∷ xs) ys z w = (z.0, none-both m xs ys z.1 w)
