-- The headers of a unit and of the entity that is emitted for it are the same.
use Rattle.std.proofs.Common.{◌≡◌, Bool, true, false, not, ◌&&◌, ◌||◌, List, [], ◌∷◌, Option, Some, None, refl}
use Rattle.std.proofs.lemmas.Bool.{and_from, or_left, or_right}
use Rattle.lh_types.specs.Types.{TypeTree}
use Rattle.lh_types.specs.Same.{same-refl}
use Rattle.lh_unit_names.proofs.NameLists.{same_name-refl}
use Rattle.lh_unit.specs.declared.inst.UnitKind.{UnitKind}
use Rattle.lh_unit.specs.declared.inst.UnitKind.TheVariants as kind
use Rattle.lh_unit.specs.Contents.{ArgText, LineText, UnitText}
use Rattle.lh_unit.specs.WellFormed.{in_function, in_process, in_entity}
use Rattle.lh_unit.proofs.Arenas.{same_unit_name-refl}
use Rattle.lh_edge.specs.Valuations.{differ}
use Rattle.lh_emit_def.specs.Entities.{entity_with}
use Rattle.lh_cert_def.specs.Headers.{same_argument, same_arguments, same_result, same_header, is_replaced}

same-side : (b : Bool) → not (differ b b) ≡ true
same-side true = refl
same-side false = refl

arguments-same : (xs : List ArgText) → same_arguments xs xs ≡ true
arguments-same [] = refl
arguments-same (x ∷ xs) =
    and_from (same_argument x x) (same_arguments xs xs) (and_from _ _ (same_name-refl x.name) (and_from _ _ (same-refl x.ty) (same-side x.output))) (arguments-same xs)

result-same : (r : Option TypeTree) → same_result r r ≡ true
result-same (Some t) = same-refl t
result-same None = refl

not-function : (b c : Bool) → (not (b && false) || c) ≡ true
not-function true c = refl
not-function false c = refl

not-both : (k : UnitKind) → (in_process k && in_entity k) ≡ false
not-both kind.Func = refl
not-both kind.Proc = refl
not-both kind.Entity = refl

-- of a unit and itself
pub header-same : (x : UnitText) → same_header x x ≡ true
header-same x =
    and_from _ _ (same_unit_name-refl x.name)
    (and_from _ _ (arguments-same x.args) (or_right (not (in_function x.kind && in_function x.kind)) (same_result x.result x.result) (result-same x.result)))

pub stays-itself : (x : UnitText) → is_replaced x x ≡ false
stays-itself x = not-both x.kind

-- of a process and its entity
pub entity-header : (x : UnitText) (ls : List LineText) → same_header x (entity_with x ls) ≡ true
entity-header x ls = and_from _ _ (same_unit_name-refl x.name) (and_from _ _ (arguments-same x.args) (not-function (in_function x.kind) (same_result x.result None)))

pub entity-replaces : (x : UnitText) (ls : List LineText) → x.kind ≡ kind.Proc → is_replaced x (entity_with x ls) ≡ true
entity-replaces x ls e = (λ i. in_process (e i) && true)
