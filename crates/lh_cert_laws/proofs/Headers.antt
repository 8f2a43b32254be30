-- Units of one header have one name and the same arguments; and an entity without `sig` and `inst` is one with the process to elaboration.
use Rattle.std.proofs.Common.{◌≡◌, List, [], ◌∷◌, Bool, true, false, not, ◌&&◌, ◌||◌, refl}
use Rattle.std.proofs.lemmas.Bool.{false≢true}
use Rattle.lh_types.specs.Same.{and_both, same-is}
use Rattle.lh_types.specs.Types.{same_type}
use Rattle.lh_unit_names.specs.Names.{same_name}
use Rattle.lh_unit_names.specs.UnitNames.{same_unit_name}
use Rattle.lh_unit_names.proofs.NameLists.{same_name-is}
use Rattle.lh_unit.specs.declared.inst.UnitKind.{UnitKind}
use Rattle.lh_unit.specs.declared.inst.UnitKind.TheVariants as kind
use Rattle.lh_unit.specs.Contents.{ArgText, UnitText}
use Rattle.lh_unit.specs.Hierarchy.{lines_of}
use Rattle.lh_unit.specs.WellFormed.{in_function, in_process, in_entity}
use Rattle.lh_unit.proofs.Arenas.{same_unit_name-is}
use Rattle.lh_trace_laws.proofs.MayStandLaw.{same_hierarchy}
use Rattle.lh_edge.specs.Valuations.{differ}
use Rattle.lh_entity_laws.specs.AnyEntity.{IsEntityLike}
use Rattle.lh_cert_def.specs.Headers.{same_argument, same_arguments, same_result, same_header, is_replaced, has_hierarchy}
use Rattle.lh_cert_laws.proofs.UnitStands.{lines-plain}

-- ---- headers

not_differ-is : (a b : Bool) → not (differ a b) ≡ true → a ≡ b
not_differ-is true true e = refl
not_differ-is false false e = refl
not_differ-is true false e = absurd (false≢true e)
not_differ-is false true e = absurd (false≢true e)

same_argument-is : (a b : ArgText) → same_argument a b ≡ true → a ≡ b
same_argument-is a b e =
    let x = and_both (same_name a.name b.name) (same_type a.ty b.ty && not (differ a.output b.output)) e in
    let y = and_both (same_type a.ty b.ty) (not (differ a.output b.output)) x.1 in
    let name = same_name-is a.name b.name x.0 in
    let ty = same-is a.ty b.ty y.0 in
    let output = not_differ-is a.output b.output y.1 in
    λ i. record { name = name i; ty = ty i; output = output i }

same_arguments-is : (xs ys : List ArgText) → same_arguments xs ys ≡ true → xs ≡ ys
same_arguments-is [] [] e = refl
same_arguments-is [] (b ∷ ys) e = absurd (false≢true e)
same_arguments-is (a ∷ xs) [] e = absurd (false≢true e)
same_arguments-is (a ∷ xs) (b ∷ ys) e =
    let z = and_both (same_argument a b) (same_arguments xs ys) e in
    let here = same_argument-is a b z.0 in
    let rest = same_arguments-is xs ys z.1 in
    λ i. here i ∷ rest i

-- what units of one header have
pub record OneHeader (x y : UnitText) : Type 0 where
  pub name : x.name ≡ y.name
  pub args : x.args ≡ y.args

pub one-header : (x y : UnitText) → same_header x y ≡ true → OneHeader x y
one-header x y e =
    let results = not (in_function x.kind && in_function y.kind) || same_result x.result y.result in
    let n = and_both (same_unit_name x.name y.name) (same_arguments x.args y.args && results) e in
    let a = and_both (same_arguments x.args y.args) results n.1 in
    record { name = same_unit_name-is x.name y.name n.0; args = same_arguments-is x.args y.args a.0 }

-- ---- kinds

process-is : (k : UnitKind) → in_process k ≡ true → k ≡ kind.Proc
process-is kind.Proc e = refl
process-is kind.Func e = absurd (false≢true e)
process-is kind.Entity e = absurd (false≢true e)

entity-is : (k : UnitKind) → in_entity k ≡ true → k ≡ kind.Entity
entity-is kind.Entity e = refl
entity-is kind.Func e = absurd (false≢true e)
entity-is kind.Proc e = absurd (false≢true e)

-- an entity in the place of a process
pub record Replacing (x y : UnitText) : Type 0 where
  pub process : x.kind ≡ kind.Proc
  pub entity : y.kind ≡ kind.Entity

pub replacing : (x y : UnitText) → is_replaced x y ≡ true → Replacing x y
replacing x y e =
    let z = and_both (in_process x.kind) (in_entity y.kind) e in
    record { process = process-is x.kind z.0; entity = entity-is y.kind z.1 }

-- ---- to elaboration

pub entity-like : (x y : UnitText) → OneHeader x y → Replacing x y → has_hierarchy (lines_of y.blocks) ≡ false → IsEntityLike x y
entity-like x y h r e = record {
  entity = r.entity;
  name = h.name;
  hierarchy = same_hierarchy x y r.process r.entity h.args (lines-plain (lines_of y.blocks) e).1;
}
