-- What elaboration reads of a unit by its name is what its text has.
use Rattle.std.proofs.Common.{◌≡◌, if◌then◌else◌, List, [], ◌∷◌, map, Option, Some, None, is_some, refl, ap, sym, ◌∙◌, subst}
use Rattle.std.specs.Option.{option_map}
use Rattle.lh_types.specs.declared.part.Range.{Range}
use Rattle.lh_unit_names.specs.declared.name.UnitName.{UnitName}
use Rattle.lh_unit.specs.declared.inst.UnitId.{UnitId}
use Rattle.lh_unit.specs.declared.inst.UnitKind.{UnitKind}
use Rattle.lh_unit.specs.declared.inst.UnitKind.TheVariants as kind
use Rattle.lh_unit.specs.Naming.{Naming, kind_text, arg_text, table_text}
use Rattle.lh_unit.specs.Table.{Table, FitsKind, entity_block, insts_at}
use Rattle.lh_unit.specs.Arena.{Arena, IsArena, contents, naming, kind_at, table_at, unit_name_at, unit_text_at}
use Rattle.lh_unit.specs.Held.{Env}
use Rattle.lh_unit.specs.Hierarchy.{lines_of, Child, children_of, static_held, Hierarchy, hierarchy_by, hierarchies}
use Rattle.lh_unit.specs.Design.{hierarchy_or, hierarchy_in, targets}
use Rattle.lh_elab.proofs.Names.{hierarchy-by_id, child_ids, children-names, entity-lines, by-its-kind}
use Rattle.lh_elab.proofs.InstanceGraph.{entity-blocks}
use Rattle.lh_elab.proofs.RefusalLaws.{args-of}
use Rattle.lh_elab.proofs.Underway.{ReadsAll}

-- what is read where the unit may be missing
record Same (h k : Hierarchy) : Type 0 where
  pub args : h.args ≡ k.args
  pub signals : h.signals ≡ k.signals
  pub children : (args sigs : List Range) → h.children args sigs ≡ k.children args sigs
  pub units : (args sigs : List Range) → map (λ (c : Child). c.unit) (h.children args sigs) ≡ targets h

any-units : (f : Naming) (n : UnitName) (t : Table) → t.blocks ≡ entity_block ∷ [] → (e : Env) → map (λ (c : Child). c.unit) (children_of e (lines_of (table_text f n t).blocks))
    ≡ map (λ (x : UnitId). f.unit_name x.0) (child_ids t (insts_at t 0))
any-units f n t b e = ap (λ ls. map (λ (c : Child). c.unit) (children_of e ls)) (entity-lines f t b) ∙ children-names f e t (insts_at t 0)

by-kind : (f : Naming) (n : UnitName) (t : Table) (k : Option UnitKind) → (k ≡ None → t.args ≡ []) → (k ≡ Some kind.Entity → t.blocks ≡ entity_block ∷ [])
    → Same (hierarchy_or (option_map (hierarchy_by (kind_text k)) (if is_some k then Some (table_text f n t) else None))) (hierarchy_by (kind_text k) (table_text f n t))
by-kind f n t None p q = record { args = sym (ap (map (arg_text f)) (p refl)); signals = refl; children = λ args sigs. refl; units = λ args sigs. refl }
by-kind f n t (Some kind.Func) p q = record { args = refl; signals = refl; children = λ args sigs. refl; units = λ args sigs. refl }
by-kind f n t (Some kind.Proc) p q = record { args = refl; signals = refl; children = λ args sigs. refl; units = λ args sigs. refl }
by-kind f n t (Some kind.Entity) p q = record {
  args = refl;
  signals = refl;
  children = λ args sigs. refl;
  units = λ args sigs. any-units f n t (q refl) (static_held (table_text f n t) args sigs) ∙ sym (any-units f n t (q refl) (static_held (table_text f n t) [] []));
}

pub reads : (a : Arena) → IsArena a → ReadsAll a (hierarchies (contents a))
reads a o u l =
    let k = kind_at a u in
    let t = unit_text_at a u in
    let e : hierarchy_in (hierarchies (contents a)) (unit_name_at a u) ≡ hierarchy_or (option_map (hierarchy_by (kind_text k)) (if is_some k then Some t else None)) =
    ap hierarchy_or (hierarchy-by_id a u o l ∙ by-its-kind k t refl) in
    let missing : k ≡ None → (table_at a u).args ≡ [] = λ n. let P : Option UnitKind → Type 0 = λ x. FitsKind x (table_at a u) in (subst P n (o.tables u l).fits_kind).0 in
    let s : Same (hierarchy_in (hierarchies (contents a)) (unit_name_at a u)) (hierarchy_by (kind_text k) t) =
    subst (λ (x : Hierarchy). Same x (hierarchy_by (kind_text k) t)) (sym e) (by-kind (naming a u) (unit_name_at a u) (table_at a u) k missing (λ x. entity-blocks a u o l x)) in
    record { args = s.args ∙ args-of (kind_text k) t; signals = s.signals; children = s.children; units = s.units }
