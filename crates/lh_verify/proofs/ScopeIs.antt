-- What is known of a unit, as the tests of its instructions ask it.
use Rattle.std.proofs.Common.{◌≡◌, ℕ, ◌+◌, ◌<◌, suc, List, [], ◌∷◌, length, map, Option, Some, None, refl, ap, sym, ◌∙◌, subst, arith}
use Rattle.std.specs.Option.{option_map, option_and_then}
use Rattle.std.proofs.lemmas.Option.{slice_get_within}
use Rattle.std.proofs.lemmas.List.{length-map}
use Rattle.lh_unit.specs.Contents.{ArgText}
use Rattle.lh_unit.specs.Typing.{or_else, result_type, arg_named, inst_giving, value_type}
use Rattle.lh_unit.specs.Kinds.{kind_of, result_kind, value_kind}
use Rattle.lh_unit.specs.Places.{places}
use Rattle.lh_unit.specs.Naming.{Naming, inst_text, arg_text}
use Rattle.lh_unit.specs.Table.{Table, ids_from}
use Rattle.lh_unit.specs.Within.{Each}
use Rattle.lh_unit.specs.declared.inst.InstId.{InstId}
use Rattle.lh_verify.specs.Spots.{spots_of}
use Rattle.lh_verify.specs.SpotsWithin.{SpotWithin}
use Rattle.lh_verify.proofs.PlacesById.{spot_of, spots-map}
use Rattle.lh_unit.specs.Arena.{Arena, IsArena, naming, table_at, args_at, unit_text_at, unit_count, value_count, inst_count, value_name_at}
use Rattle.lh_unit.specs.ById.{place_text, arg_being, inst_making}
use Rattle.lh_unit.specs.ById as byid
use Rattle.lh_unit.specs.WellFormed.{depends_on_probe}
use Rattle.lh_unit.specs.declared.inst.Arg.{Arg}
use Rattle.lh_unit.specs.declared.inst.Inst.{Inst}
use Rattle.lh_unit.specs.declared.table.TableLine.{TableLine}
use Rattle.lh_unit.proofs.ById.{defines_value-by_id, arg_named-by_id, inst_giving-by_id}
use Rattle.lh_unit.proofs.ByIdPlaces.{places-by_id, inst_places-insts}
use Rattle.lh_verify_values.specs.declared.scope.Scope.{Scope}
use Rattle.lh_verify_values.specs.declared.scope.Fact.{Fact}
use Rattle.lh_verify_values.specs.FactsOfUnit.{FactAfter, FactsAfter}
use Rattle.lh_verify_labels.specs.Marking.{MarksProbed, MarksLabels}
use Rattle.lh_types.specs.Types.{TypeTree}
use Rattle.lh_verify_values.specs.Numbers.{NumbersParams}
use Rattle.lh_verify_values.specs.Facts.{IsScope, FactHolds, text_in, naming_in, sizes_in, from_probe}
use Rattle.lh_unit.proofs.Texts.{ids-within}

length-ids : (k : ℕ) (ls : List TableLine) → length (ids_from k ls) ≡ length ls
length-ids k [] = refl
length-ids k (l ∷ ls) = ap suc (length-ids (k + 1) ls)

-- a unit has as many places as instructions
pub length-places : (a : Arena) (u : ℕ) → IsArena a → u < unit_count a → length (places (unit_text_at a u)) ≡ inst_count a u
length-places a u o h =
    ap length (places-by_id a u)
    ∙ length-map (byid.inst_places (table_at a u)) (place_text (naming a u) (table_at a u))
    ∙ sym (length-map (byid.inst_places (table_at a u)) (λ (s : byid.InstPlace). s.inst))
    ∙ ap length (inst_places-insts (table_at a u) (o.tables u h))
    ∙ length-ids 0 (table_at a u).lines

arg-kind-text : (f : Naming) (o : Option Arg) → option_and_then (λ (a : ArgText). kind_of a.ty) (option_map (arg_text f) o) ≡ option_and_then (λ (a : Arg). kind_of a.ty) o
arg-kind-text f None = refl
arg-kind-text f (Some a) = refl

arg-type-text : (f : Naming) (o : Option Arg) → option_map (λ (a : ArgText). a.ty) (option_map (arg_text f) o) ≡ option_map (λ (a : Arg). a.ty) o
arg-type-text f None = refl
arg-type-text f (Some a) = refl

inst-kind-text : (f : Naming) (o : Option Inst) → option_and_then result_kind (option_map (inst_text f) o) ≡ option_and_then (λ (i : Inst). result_kind (inst_text f i)) o
inst-kind-text f None = refl
inst-kind-text f (Some i) = refl

inst-type-text : (f : Naming) (o : Option Inst) → option_and_then result_type (option_map (inst_text f) o) ≡ option_and_then (λ (i : Inst). result_type (inst_text f i)) o
inst-type-text f None = refl
inst-type-text f (Some i) = refl

module _ (a : Arena) (u : ℕ) (o : IsArena a) (h : u < unit_count a) where
  kind-is : (v : ℕ) → v < value_count a u → value_kind (unit_text_at a u) (value_name_at a u v)
      ≡ or_else (option_and_then (λ (x : Arg). kind_of x.ty) (arg_being (args_at a u) v)) (option_and_then (λ (i : Inst). result_kind (inst_text (naming a u) i)) (inst_making (table_at a u).lines v))
  kind-is v w =
      let p : option_and_then (λ (x : ArgText). kind_of x.ty) (arg_named (value_name_at a u v) (unit_text_at a u).args) ≡ option_and_then (λ (x : Arg). kind_of x.ty) (arg_being (args_at a u) v) =
      ap (option_and_then (λ (x : ArgText). kind_of x.ty)) (arg_named-by_id a u o h v w) ∙ arg-kind-text (naming a u) (arg_being (args_at a u) v) in
      let q : option_and_then result_kind (inst_giving (value_name_at a u v) (unit_text_at a u).blocks)
      ≡ option_and_then (λ (i : Inst). result_kind (inst_text (naming a u) i)) (inst_making (table_at a u).lines v) =
      ap (option_and_then result_kind) (inst_giving-by_id a u o h v w) ∙ inst-kind-text (naming a u) (inst_making (table_at a u).lines v) in
      λ i. or_else (p i) (q i)

  type-is : (v : ℕ) → v < value_count a u → value_type (unit_text_at a u) (value_name_at a u v)
      ≡ or_else (option_map (λ (x : Arg). x.ty) (arg_being (args_at a u) v)) (option_and_then (λ (i : Inst). result_type (inst_text (naming a u) i)) (inst_making (table_at a u).lines v))
  type-is v w =
      let p : option_map (λ (x : ArgText). x.ty) (arg_named (value_name_at a u v) (unit_text_at a u).args) ≡ option_map (λ (x : Arg). x.ty) (arg_being (args_at a u) v) =
      ap (option_map (λ (x : ArgText). x.ty)) (arg_named-by_id a u o h v w) ∙ arg-type-text (naming a u) (arg_being (args_at a u) v) in
      let q : option_and_then result_type (inst_giving (value_name_at a u v) (unit_text_at a u).blocks)
      ≡ option_and_then (λ (i : Inst). result_type (inst_text (naming a u) i)) (inst_making (table_at a u).lines v) =
      ap (option_and_then result_type) (inst_giving-by_id a u o h v w) ∙ inst-type-text (naming a u) (inst_making (table_at a u).lines v) in
      λ i. or_else (p i) (q i)

  pub told-of : (types : List TypeTree) (v : ℕ) (x : Fact) → v < value_count a u → FactAfter types (naming a u) (args_at a u) (table_at a u).lines v x
      → FactHolds types (unit_text_at a u) (value_name_at a u v) x
  told-of types v x w k = record {
    defined = k.defined ∙ sym (defines_value-by_id a u o h v w);
    kind = k.kind ∙ sym (kind-is v w);
    ty = k.ty ∙ sym (ap (option_map Some) (type-is v w));
  }

pub scope-is : (s : Scope) → IsArena s.module.now → s.unit.0 < unit_count s.module.now
    → FactsAfter s.types.now (value_count s.module.now s.unit.0) (naming s.module.now s.unit.0) (args_at s.module.now s.unit.0) (table_at s.module.now s.unit.0).lines s.facts.now
    → MarksProbed s.module.now s.unit.0 s.probed.now → MarksLabels s.module.now s.unit.0 s.labels.now → NumbersParams s.types.now s.module.now s.params.now → IsScope s
unfolding text_in naming_in sizes_in from_probe
scope-is s o h k r st p =
    let e : inst_count s.module.now s.unit.0 + 1 ≡ suc (length (places (unit_text_at s.module.now s.unit.0))) = omega (arith, length-places s.module.now s.unit.0 o h) in
    record {
      unit = h;
      long = k.long;
      told = λ v x g. told-of s.module.now s.unit.0 o h s.types.now v.0 x (omega (arith, slice_get_within s.facts.now v.0 x g, k.long)) (k.known v.0 x g);
      long_labels = st.long;
      told_labels = λ b x g. st.marked b.0 x g;
      long_probed = r.long;
      told_probed = λ q v x g. (r.reached q).marked v.0 x g ∙ ap (λ n. depends_on_probe n (unit_text_at s.module.now s.unit.0) (value_name_at s.module.now s.unit.0 v.0)) e;
      params = p;
    }

spots-each : (t : Table) (n : ℕ) (ps : List byid.InstPlace) → Each (λ (i : InstId). i.0 < n) (map (λ (p : byid.InstPlace). p.inst) ps) → Each (SpotWithin n) (map (spot_of t) ps)
spots-each t n [] h = tt
spots-each t n (p ∷ ps) h = (h.0, spots-each t n ps h.1)

-- the places of a unit are of its instructions
pub spots-within : (a : Arena) (u : ℕ) → IsArena a → u < unit_count a → Each (SpotWithin (inst_count a u)) (spots_of (table_at a u))
spots-within a u o h =
    subst (Each (SpotWithin (inst_count a u))) (spots-map (table_at a u))
    (spots-each (table_at a u) (inst_count a u) (byid.inst_places (table_at a u))
    (subst (Each (λ (i : InstId). i.0 < inst_count a u)) (sym (inst_places-insts (table_at a u) (o.tables u h))) (ids-within (inst_count a u) 0 (table_at a u).lines (omega arith))))
