-- The operands of each instruction of a unit have types, of their kinds.
use Rattle.std.proofs.Common.{◌≡◌, ◌∙◌, ℕ, List, [], ◌∷◌, map, Option, Some, None, refl, ap, sym, subst}
use Rattle.lh_types.specs.Types.{TypeTree, int_type, time_type, void_type, array_type, tuple_type, signal_type, pointer_type}
use Rattle.lh_unit.specs.Contents.{ArgText, UnitText}
use Rattle.lh_unit.specs.Kinds.{Kind, a_datum, a_time, a_signal, kind_of, used, signal_needed}
use Rattle.lh_unit.specs.Lexemes.{Lexeme}
use Rattle.lh_unit.specs.Spells.{TypedName, SpellsParam, input_of, SpellsHeader}
use Rattle.lh_unit.specs.SpellsParts.{SpellsParts, SpellsList}
use Rattle.lh_unit.specs.SpellsTypes.{IsValueType}
use Rattle.lh_unit.specs.Within.{Each}
use Rattle.lh_unit_names.specs.declared.name.UnitName.{UnitName}
use Rattle.lh_unit.specs.declared.inst.UnitKind.{UnitKind}
use Rattle.lh_unit.specs.declared.inst.UnitKind.TheVariants as kind
use Rattle.lh_verify_laws.specs.Operands.{IsOf}
use Rattle.lh_verify_laws.specs.KindsOf.{ArgsHaveKinds, HasTypeOfKind}
use Rattle.lh_eval_laws.specs.Units.{IsPort, HasPorts, UnitIsSound}
use Rattle.lh_eval_laws.proofs.FindingElab.{signal-of-kind}

abbrev HasKind : TypeTree → Type 0
HasKind t = (k : Kind) × (kind_of t ≡ Some k)

value-kind : (t : TypeTree) → IsValueType t → HasKind t
value-kind (int_type n) v = (a_datum, refl)
value-kind (array_type n t) v = (a_datum, refl)
value-kind (tuple_type r) v = (a_datum, refl)
value-kind time_type v = (a_time, refl)
value-kind void_type v = absurd v
value-kind (signal_type t) v = absurd v
value-kind (pointer_type t) v = absurd v

-- the parameters of a function are values
params-kind : (xs : List TypedName) (ts more : List Lexeme) → SpellsParts SpellsParam xs ts more → Each (λ (a : ArgText). HasKind a.ty) (map input_of xs)
params-kind [] ts more h = tt
params-kind (x ∷ []) ts more h = (value-kind x.ty h.0, tt)
params-kind (x ∷ y ∷ xs) ts more h = (value-kind x.ty h.1.0, params-kind (y ∷ xs) h.0 more h.2)

list-kind : (xs : List TypedName) (ts more : List Lexeme) → SpellsList SpellsParam xs ts more → Each (λ (a : ArgText). HasKind a.ty) (map input_of xs)
list-kind [] ts more h = tt
list-kind (x ∷ xs) ts more h = params-kind (x ∷ xs) ts more h

ports-kind : (args : List ArgText) → Each IsPort args → Each (λ (a : ArgText). HasKind a.ty) args
ports-kind [] h = tt
ports-kind (a ∷ more) h = ((a_signal, ap kind_of h.0.1), ports-kind more h.1)

head-kinds : (k : UnitKind) (n : UnitName) (args : List ArgText) (r : Option TypeTree) (ts : List Lexeme) → SpellsHeader k n args r ts → HasPorts k args → Each (λ (a : ArgText). HasKind a.ty) args
head-kinds kind.Func n args None ts h p = absurd h
head-kinds kind.Func n args (Some r) ts h p = let q = h.4 in subst (Each (λ (a : ArgText). HasKind a.ty)) (sym q.together) (list-kind q.params q.first _ q.spelled_params)
head-kinds kind.Proc n args r ts h p = ports-kind args p
head-kinds kind.Entity n args r ts h p = ports-kind args p

pub args-have-kinds : (u : UnitText) → UnitIsSound u → ArgsHaveKinds u
args-have-kinds u s = head-kinds u.kind u.name u.args u.result _ s.printable.headed.1 s.ports

pub signal-used : (u : UnitText) (n : List ℕ) → HasTypeOfKind u (used signal_needed n) → (b : TypeTree) × IsOf u (signal_type b) n
signal-used u n h = let s = signal-of-kind h.0 h.1 h.3 h.4 in (s.0, h.2 ∙ ap Some s.1)
