-- The units of a module that the instructions of a unit name.
use Rattle.std.proofs.Common.{◌≡◌, ℕ, ◌<◌, Bool, true, false, not, ◌&&◌, ◌||◌, if◌then◌else◌, List, [], ◌∷◌, map, Option, Some, None, is_some, refl, ap, sym, ◌∙◌, subst}
use Rattle.std.specs.Prelude.{filter}
use Rattle.std.specs.Option.{option_map_or}
use Rattle.lh_types.specs.Types.{TypeTree, same_type}
use Rattle.lh_unit.specs.Contents.{ArgText, UnitText, defines_unit}
use Rattle.lh_unit.specs.Named.{unit_named, is_function}
use Rattle.lh_unit_names.specs.UnitNames.{is_assert}
use Rattle.lh_unit.specs.Naming.{arg_text, kind_text}
use Rattle.lh_unit.specs.Table.{FitsKind}
use Rattle.lh_unit.specs.Arena.{Arena, IsArena, unit_text_at, naming, table_at, kind_at, args_at, result_type_at, unit_count, unit_name_at}
use Rattle.lh_unit.specs.WellFormed.{is_function_name, args_of, assert_args}
use Rattle.lh_unit.specs.declared.inst.UnitKind.{UnitKind}
use Rattle.lh_unit.proofs.ById.{defines_unit-by_id, unit_named-by_id}
use Rattle.lh_verify.specs.OperandTests.{is_function_kind, on_side}
use Rattle.lh_verify.specs.declared.arguments.Side.TheVariants.{All}
use Rattle.lh_verify_values.specs.Facts.{naming_in, sizes_in, items_in}
use Rattle.lh_verify_values.specs.declared.scope.Scope.{Scope}

pub unit-within : (s : Scope) (v : ℕ) → v < (sizes_in s).units → v < unit_count s.module.now
unfolding sizes_in
unit-within s v h = h

pub unit-name : (s : Scope) (v : ℕ) → (naming_in s).unit_name v ≡ unit_name_at s.module.now v
unfolding naming_in
unit-name s v = refl

pub defined-in : (s : Scope) (v : ℕ) → IsArena s.module.now → v < (sizes_in s).units → defines_unit ((naming_in s).unit_name v) (items_in s) ≡ is_some (kind_at s.module.now v)
unfolding naming_in sizes_in items_in
defined-in s v a h = defines_unit-by_id s.module.now v a h

named-in : (s : Scope) (v : ℕ) → IsArena s.module.now → v < (sizes_in s).units
    → unit_named ((naming_in s).unit_name v) (items_in s) ≡ (if is_some (kind_at s.module.now v) then Some (unit_text_at s.module.now v) else None)
unfolding naming_in sizes_in items_in
named-in s v a h = unit_named-by_id s.module.now v a h

-- tests that a unit may be defined or `@llhd.assert`
pub missing-some : (d a : Bool) → d ≡ true → false ≡ not (d || a)
missing-some d a e = ap (λ b. not (b || a)) (sym e)

pub missing-none : (d a r : Bool) → d ≡ false → r ≡ a → not r ≡ not (d || a)
missing-none d a r e f = ap not f ∙ ap (λ b. not (b || a)) (sym e)

function-kind : (k : Option UnitKind) (t : UnitText) → t.kind ≡ kind_text k → option_map_or (λ (v : UnitText). is_function v.kind) (if is_some k then Some t else None) false ≡ is_function_kind k
function-kind None t e = refl
function-kind (Some k) t e = ap is_function e

pub function-in : (s : Scope) (v : ℕ) → IsArena s.module.now → v < (sizes_in s).units
    → is_function_name (items_in s) ((naming_in s).unit_name v) ≡ (is_function_kind (kind_at s.module.now v) || is_assert ((naming_in s).unit_name v))
function-in s v a h =
    ap (λ o. option_map_or (λ (u : UnitText). is_function u.kind) o false || is_assert ((naming_in s).unit_name v)) (named-in s v a h)
    ∙ ap (λ b. b || is_assert ((naming_in s).unit_name v)) (function-kind (kind_at s.module.now v) (unit_text_at s.module.now v) refl)

pub either-first : (d a : Bool) → d ≡ true → true ≡ (d || a)
either-first d a e = ap (λ b. b || a) (sym e)

pub either-second : (d a r : Bool) → d ≡ false → r ≡ a → r ≡ (d || a)
either-second d a r e f = f ∙ ap (λ b. b || a) (sym e)

-- the result type of a unit
result-kind : (k : Option UnitKind) (r : Option TypeTree) (u : UnitText) (t : TypeTree) → (k ≡ None → r ≡ None) → u.result ≡ r
    → option_map_or (λ (v : UnitText). option_map_or (same_type t) v.result true) (if is_some k then Some u else None) true ≡ option_map_or (same_type t) r true
result-kind None r u t n e = ap (λ o. option_map_or (same_type t) o true) (sym (n refl))
result-kind (Some k) r u t n e = ap (λ o. option_map_or (same_type t) o true) e

no-result : (a : Arena) (v : ℕ) → IsArena a → v < unit_count a → kind_at a v ≡ None → result_type_at a v ≡ None
no-result a v o h e = let P : Option UnitKind → Type 0 = λ k. FitsKind k (table_at a v) in let f = subst P e (o.tables v h).fits_kind in f.1

pub result-of : (s : Scope) (v : ℕ) → IsArena s.module.now → v < (sizes_in s).units → (t : TypeTree)
    → option_map_or (λ (u : UnitText). option_map_or (same_type t) u.result true) (unit_named ((naming_in s).unit_name v) (items_in s)) true
    ≡ option_map_or (same_type t) (result_type_at s.module.now v) true
result-of s v a h t =
    ap (λ o. option_map_or (λ (u : UnitText). option_map_or (same_type t) u.result true) o true) (named-in s v a h)
    ∙ result-kind (kind_at s.module.now v) (result_type_at s.module.now v) (unit_text_at s.module.now v) t (no-result s.module.now v a (unit-within s v h)) refl

-- a choice
pub choose-then : {A : Type 0} (b : Bool) (r x y : A) → b ≡ true → r ≡ x → r ≡ (if b then x else y)
choose-then b r x y e f = f ∙ ap (λ c. if c then x else y) (sym e)

pub choose-else : {A : Type 0} (b : Bool) (r x y : A) → b ≡ false → r ≡ y → r ≡ (if b then x else y)
choose-else b r x y e f = f ∙ ap (λ c. if c then x else y) (sym e)

-- the parameters of a unit
args-kind : (k : Option UnitKind) (t : UnitText) → option_map_or (λ (v : UnitText). Some v.args) (if is_some k then Some t else None) None ≡ (if is_some k then Some t.args else None)
args-kind None t = refl
args-kind (Some k) t = refl

pub args-in : (s : Scope) (v : ℕ) → IsArena s.module.now → v < (sizes_in s).units → is_assert ((naming_in s).unit_name v) ≡ false
    → args_of (items_in s) ((naming_in s).unit_name v) ≡ (if is_some (kind_at s.module.now v) then Some (map (arg_text (naming s.module.now v)) (args_at s.module.now v)) else None)
args-in s v a h n =
    ap (λ b. if b then Some assert_args else option_map_or (λ (u : UnitText). Some u.args) (unit_named ((naming_in s).unit_name v) (items_in s)) None) n
    ∙ ap (λ o. option_map_or (λ (u : UnitText). Some u.args) o None) (named-in s v a h)
    ∙ args-kind (kind_at s.module.now v) (unit_text_at s.module.now v)

pub args-assert : (s : Scope) (v : ℕ) → is_assert ((naming_in s).unit_name v) ≡ true → args_of (items_in s) ((naming_in s).unit_name v) ≡ Some assert_args
args-assert s v n = ap (λ b. if b then Some assert_args else option_map_or (λ (u : UnitText). Some u.args) (unit_named ((naming_in s).unit_name v) (items_in s)) None) n

-- all parameters are among all
pub all-on : (xs : List ArgText) → filter (on_side All) xs ≡ xs
all-on [] = refl
all-on (x ∷ xs) = ap (λ l. x ∷ l) (all-on xs)

-- arguments that fit the parameters, if there are any
pub differ-some : (P : List ArgText → Bool) (o : Option (List ArgText)) (xs : List ArgText) (r : Bool) → o ≡ Some xs → r ≡ P xs → not r ≡ option_map_or (λ ps. not (P ps)) o false
differ-some P o xs r e f = ap not f ∙ ap (λ p. option_map_or (λ ps. not (P ps)) p false) (sym e)

pub differ-none : (P : List ArgText → Bool) (o : Option (List ArgText)) → o ≡ None → false ≡ option_map_or (λ ps. not (P ps)) o false
differ-none P o e = ap (λ p. option_map_or (λ ps. not (P ps)) p false) (sym e)

pub params-in : (s : Scope) (v : ℕ) → IsArena s.module.now → v < (sizes_in s).units → is_assert ((naming_in s).unit_name v) ≡ false → is_some (kind_at s.module.now v) ≡ true
    → args_of (items_in s) ((naming_in s).unit_name v) ≡ Some (map (arg_text (naming s.module.now v)) (args_at s.module.now v))
params-in s v a h n k = args-in s v a h n ∙ ap (λ b. if b then Some (map (arg_text (naming s.module.now v)) (args_at s.module.now v)) else None) k

pub no-params : (s : Scope) (v : ℕ) → IsArena s.module.now → v < (sizes_in s).units → is_assert ((naming_in s).unit_name v) ≡ false → is_some (kind_at s.module.now v) ≡ false
    → args_of (items_in s) ((naming_in s).unit_name v) ≡ None
no-params s v a h n k = args-in s v a h n ∙ ap (λ b. if b then Some (map (arg_text (naming s.module.now v)) (args_at s.module.now v)) else None) k

-- two tests
pub both-first : (a b : Bool) → a ≡ false → false ≡ (a && b)
both-first a b e = ap (λ x. x && b) (sym e)

pub both-second : (a b r : Bool) → a ≡ true → r ≡ b → r ≡ (a && b)
both-second a b r e f = f ∙ ap (λ x. x && b) (sym e)
