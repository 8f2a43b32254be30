-- What an entity is emitted for has the arguments and the steps of its flat text.
use Rattle.std.proofs.Common.{◌≡◌, ℕ, List, [], ◌∷◌, map, refl, ap, sym, ◌∙◌, subst}
use Rattle.lh_types.specs.Types.{TypeTree}
use Rattle.lh_unit.specs.Contents.{ArgText}
use Rattle.lh_unit.specs.Naming.{Naming, arg_text, value_text}
use Rattle.lh_unit.specs.declared.inst.Arg.{Arg}
use Rattle.lh_unit_names.specs.declared.name.UnitName.{UnitName}
use Rattle.lh_flat.specs.Flat.{flat_unit}
use Rattle.lh_flat.specs.Reads.{flat_text}
use Rattle.lh_term.specs.declared.part.Part.{Part}
use Rattle.lh_emit_def.specs.Emitted.{Source}
use Rattle.lh_emit_def.specs.Reached.{steps_in}
use Rattle.lh_emit_body.specs.Lines.{arg_names}
use Rattle.lh_emit_source.specs.Origins.{AreStepsOf, IsOrigin, IsSource, args_of, source_by}
use Rattle.lh_emit_source.specs.declared.origin.Origin.{Origin}
use Rattle.lh_emit_source.specs.declared.origin.RouteStep.{RouteStep}

arg-types : (f : Naming) (xs : List Arg) → map (λ (a : Arg). a.ty) xs ≡ map (λ (a : ArgText). a.ty) (map (arg_text f) xs)
arg-types f [] = refl
arg-types f (x ∷ xs) = ap (λ ts. x.ty ∷ ts) (arg-types f xs)

texts-named : (f : Naming) (xs : List Arg) → arg_names (map (arg_text f) xs) ≡ map (λ (a : Arg). value_text f a.value) xs
texts-named f [] = refl
texts-named f (x ∷ xs) = ap (λ ns. value_text f x.value ∷ ns) (texts-named f xs)

pub source-types : (o : Origin) (s : Source) → IsSource o s → map (λ (a : Arg). a.ty) (args_of o) ≡ map (λ (a : ArgText). a.ty) s.args
source-types o s src = arg-types src.naming (args_of o) ∙ ap (λ (z : Source). map (λ (a : ArgText). a.ty) z.args) (sym src.is)

pub source-names : (o : Origin) (s : Source) → IsSource o s → arg_names s.args ≡ o.names
source-names o s src = ap (λ (z : Source). arg_names z.args) src.is ∙ texts-named src.naming (args_of o) ∙ src.origin.named

-- the steps by names are those of each source
pub route-steps : (o : Origin) (p : Part) (route : List RouteStep) → ((f : Naming) (name : UnitName) → IsOrigin f o → AreStepsOf (steps_in (flat_unit name (flat_text f o.flat.now)) p) route)
    → (s : Source) → IsSource o s → AreStepsOf (s.steps p) route
route-steps o p route h s src = subst (λ (z : Source). AreStepsOf (z.steps p) route) (sym src.is) (h src.naming src.name src.origin)

-- a text by some names is a source
pub source-of : (o : Origin) (name : UnitName) (f : Naming) → IsOrigin f o → IsSource o (source_by name f o.flat.now)
source-of o name f h = record { name = name; naming = f; origin = h; is = refl }
