-- Units by their names and by their ids: what elaboration reads of a module, and its graph.
use Rattle.std.proofs.Common.{◌≡◌, ℕ, ◌+◌, ◌<◌, min, Bool, true, false, if◌then◌else◌, List, [], ◌∷◌, ◌++◌, map, sum_by, Option, Some, None, is_some, refl, ap, sym, ◌∙◌, subst, arith}
use Rattle.std.specs.Option.{option_map, option_map_or}
use Rattle.lh_types.specs.Bits.{value_bits}
use Rattle.std.proofs.lemmas.List.{append-nil, append_assoc}
use Rattle.std.proofs.lemmas.List.Sums.{sum_by-cons}
use Rattle.lh_types.specs.Types.{bit_count}
use Rattle.lh_unit_names.specs.declared.name.UnitName.{UnitName}
use Rattle.lh_unit.specs.declared.inst.UnitId.{UnitId}
use Rattle.lh_unit.specs.declared.inst.InstId.{InstId}
use Rattle.lh_unit.specs.declared.inst.UnitKind.{UnitKind}
use Rattle.lh_unit.specs.declared.inst.UnitKind.TheVariants as kind
use Rattle.lh_unit.specs.declared.inst.Inst.{Inst}
use Rattle.lh_unit.specs.declared.inst.Inst.TheVariants as inst
use Rattle.lh_unit_names.specs.UnitNames.{same_unit_name}
use Rattle.lh_unit.specs.Named.{unit_named, label_or}
use Rattle.lh_unit.specs.Contents.{LineText, UnitText, ItemText, unit_text, declare_text}
use Rattle.lh_unit.specs.Naming.{Naming, kind_text, block_text, table_text}
use Rattle.lh_unit.specs.Table.{Table, entity_block, line_at, insts_at}
use Rattle.lh_unit.specs.Arena.{Arena, IsArena, contents, naming, kind_at, table_at, unit_count, unit_name_at, unit_text_at}
use Rattle.lh_unit.specs.ById.{inst_line_text}
use Rattle.lh_unit.specs.Held.{Env, datum_at}
use Rattle.lh_unit.specs.Hierarchy.{lines_of, zeros, type_or_void, SignalText, signals_of, Child, children_of, static_held, Hierarchy, hierarchy_by, hierarchy_of, hierarchies, hierarchy_named}
use Rattle.lh_unit.specs.Design.{hierarchy_or, hierarchy_in, targets}
use Rattle.lh_unit.proofs.ById.{unit_named-by_id}
use Rattle.lh_elab.specs.declared.graph.HierarchyNode.{HierarchyNode}
use Rattle.lh_elab.specs.Graph.{max_counted, no_node, node_after, node_from, node_by, node_of}
use Rattle.lh_elab.proofs.InstanceGraph.{entity-blocks}
use Rattle.lh_verify_laws.proofs.Capped.{min-zero}

-- what is read of the unit of a name
named-if : (c : Bool) (x : UnitText) (h : Option Hierarchy) (o : Option UnitText) → h ≡ option_map hierarchy_of o
    → (if c then Some (hierarchy_of x) else h) ≡ option_map hierarchy_of (if c then Some x else o)
named-if true x h o e = refl
named-if false x h o e = e

hierarchy-named : (n : UnitName) (items : List ItemText) → hierarchy_named n (hierarchies items) ≡ option_map hierarchy_of (unit_named n items)
hierarchy-named n [] = refl
hierarchy-named n (unit_text u ∷ more) = named-if (same_unit_name u.name n) u (hierarchy_named n (hierarchies more)) (unit_named n more) (hierarchy-named n more)
hierarchy-named n (declare_text d ∷ more) = hierarchy-named n more

pub hierarchy-by_id : (a : Arena) (u : ℕ) → IsArena a → u < unit_count a
    → hierarchy_named (unit_name_at a u) (hierarchies (contents a)) ≡ option_map hierarchy_of (if is_some (kind_at a u) then Some (unit_text_at a u) else None)
hierarchy-by_id a u o l = hierarchy-named (unit_name_at a u) (contents a) ∙ ap (option_map hierarchy_of) (unit_named-by_id a u o l)

-- the units that instructions instantiate, and the bits of their signals
abbrev pub child_if_any : Inst → List UnitId → List UnitId
child_if_any (inst.Child u inputs outputs) more = u ∷ more
child_if_any _ more = more

abbrev pub child_ids : Table → List InstId → List UnitId
child_ids t [] = []
child_ids t (i ∷ more) = child_if_any (line_at t i.0).inst (child_ids t more)

abbrev bits_if_any : Inst → ℕ → ℕ
bits_if_any (inst.Sig x) more = bit_count (type_or_void x.ty) + more
bits_if_any _ more = more

abbrev sig_bits : Table → List InstId → ℕ
sig_bits t [] = 0
sig_bits t (i ∷ more) = bits_if_any (line_at t i.0).inst (sig_bits t more)

targets-after : (n : HierarchyNode) (i : Inst) (more : List UnitId) → (node_after n i).targets ++ more ≡ n.targets ++ child_if_any i more
targets-after n (inst.Child u inputs outputs) more = append_assoc n.targets (u ∷ []) more
targets-after n (inst.Const v) more = refl
targets-after n (inst.Pure op args) more = refl
targets-after n (inst.Var t) more = refl
targets-after n (inst.Ld t) more = refl
targets-after n (inst.St to value) more = refl
targets-after n (inst.Sig t) more = refl
targets-after n (inst.Prb t) more = refl
targets-after n (inst.Drv to value after cond) more = refl
targets-after n (inst.Reg to triggers) more = refl
targets-after n (inst.Call v result args) more = refl
targets-after n (inst.Phi ty edges) more = refl
targets-after n (inst.Br to) more = refl
targets-after n (inst.Branch cond first second) more = refl
targets-after n (inst.Wait to after signals) more = refl
targets-after n inst.Halt more = refl
targets-after n (inst.Ret x) more = refl

targets-from : (t : Table) (n : HierarchyNode) (is : List InstId) → (node_from t n is).targets ≡ n.targets ++ child_ids t is
targets-from t n [] = sym (append-nil n.targets)
targets-from t n (i ∷ is) = targets-from t (node_after n (line_at t i.0).inst) is ∙ targets-after n (line_at t i.0).inst (child_ids t is)

capped-again : (a b c e : ℕ) → min (min (a + b) e + c) e ≡ min (a + (b + c)) e
capped-again a b c e = omega arith

bits-after : (n : HierarchyNode) (i : Inst) (more : ℕ) → min ((node_after n i).bits + more) max_counted ≡ min (n.bits + bits_if_any i more) max_counted
bits-after n (inst.Sig t) more = capped-again n.bits (bit_count (type_or_void t.ty)) more max_counted
bits-after n (inst.Child u inputs outputs) more = refl
bits-after n (inst.Const v) more = refl
bits-after n (inst.Pure op args) more = refl
bits-after n (inst.Var t) more = refl
bits-after n (inst.Ld t) more = refl
bits-after n (inst.St to value) more = refl
bits-after n (inst.Prb t) more = refl
bits-after n (inst.Drv to value after cond) more = refl
bits-after n (inst.Reg to triggers) more = refl
bits-after n (inst.Call v result args) more = refl
bits-after n (inst.Phi ty edges) more = refl
bits-after n (inst.Br to) more = refl
bits-after n (inst.Branch cond first second) more = refl
bits-after n (inst.Wait to after signals) more = refl
bits-after n inst.Halt more = refl
bits-after n (inst.Ret x) more = refl

bits-from : (t : Table) (n : HierarchyNode) (is : List InstId) → min (node_from t n is).bits max_counted ≡ min (n.bits + sig_bits t is) max_counted
bits-from t n [] = min-zero n.bits max_counted
bits-from t n (i ∷ is) = bits-from t (node_after n (line_at t i.0).inst) is ∙ bits-after n (line_at t i.0).inst (sig_bits t is)

-- the same, of the text of an entity
child-text : (f : Naming) (e : Env) (l : LineText) (t : Table) (i : InstId) (ls : List LineText) (more : List UnitId)
    → map (λ (c : Child). c.unit) (children_of e ls) ≡ map (λ (x : UnitId). f.unit_name x.0) more → map (λ (c : Child). c.unit) (children_of e (inst_line_text f t i ∷ ls))
    ≡ map (λ (x : UnitId). f.unit_name x.0) (child_if_any (line_at t i.0).inst more)
child-text f e l t i ls more h = by (line_at t i.0).inst
  where
    by : (x : Inst) → map (λ (c : Child). c.unit) (Rattle.lh_unit.specs.Hierarchy.child_if e (Rattle.lh_unit.specs.Naming.inst_text f x) (children_of e ls))
        ≡ map (λ (y : UnitId). f.unit_name y.0) (child_if_any x more)
    by (inst.Child u inputs outputs) = ap (λ r. f.unit_name u.0 ∷ r) h
    by (inst.Const v) = h
    by (inst.Pure op args) = h
    by (inst.Var x) = h
    by (inst.Ld x) = h
    by (inst.St to value) = h
    by (inst.Sig x) = h
    by (inst.Prb x) = h
    by (inst.Drv to value after cond) = h
    by (inst.Reg to triggers) = h
    by (inst.Call v result args) = h
    by (inst.Phi ty edges) = h
    by (inst.Br to) = h
    by (inst.Branch cond first second) = h
    by (inst.Wait to after signals) = h
    by inst.Halt = h
    by (inst.Ret None) = h
    by (inst.Ret (Some x)) = h

pub children-names : (f : Naming) (e : Env) (t : Table) (is : List InstId) → map (λ (c : Child). c.unit) (children_of e (map (inst_line_text f t) is ++ []))
    ≡ map (λ (x : UnitId). f.unit_name x.0) (child_ids t is)
children-names f e t [] = refl
children-names f e t (i ∷ is) = child-text f e (inst_line_text f t i) t i (map (inst_line_text f t) is ++ []) (child_ids t is) (children-names f e t is)

signal-text : (f : Naming) (e : Env) (t : Table) (i : InstId) (ls : List LineText) (more : ℕ) → sum_by (λ (s : SignalText). bit_count s.ty) (signals_of e ls) ≡ more
    → sum_by (λ (s : SignalText). bit_count s.ty) (signals_of e (inst_line_text f t i ∷ ls)) ≡ bits_if_any (line_at t i.0).inst more
signal-text f e t i ls more h = by (line_at t i.0)
  where
    by : (x : Rattle.lh_unit.specs.declared.table.TableLine.TableLine)
        → sum_by (λ (s : SignalText). bit_count s.ty) (Rattle.lh_unit.specs.Hierarchy.signal_if e (Rattle.lh_unit.specs.Naming.inst_text f x.inst) (Rattle.lh_unit.specs.Naming.maybe_text f x.result)
        (signals_of e ls)) ≡ bits_if_any x.inst more
    by x = sort x.inst (Rattle.lh_unit.specs.Naming.maybe_text f x.result)
      where
        sort : (y : Inst) (n : Option (List ℕ)) → sum_by (λ (s : SignalText). bit_count s.ty) (Rattle.lh_unit.specs.Hierarchy.signal_if e (Rattle.lh_unit.specs.Naming.inst_text f y) n
            (signals_of e ls)) ≡ bits_if_any y more
        sort (inst.Sig y) n = sum_by-cons (λ (s : SignalText). bit_count s.ty)
            (record { name = label_or n; ty = type_or_void y.ty; initial = option_map_or value_bits (datum_at e (f.value_name y.value.0)) (zeros (type_or_void y.ty)) }) (signals_of e ls)
            ∙ ap (λ r. bit_count (type_or_void y.ty) + r) h
        sort (inst.Child u inputs outputs) n = h
        sort (inst.Const v) n = h
        sort (inst.Pure op args) n = h
        sort (inst.Var y) n = h
        sort (inst.Ld y) n = h
        sort (inst.St to value) n = h
        sort (inst.Prb y) n = h
        sort (inst.Drv to value after cond) n = h
        sort (inst.Reg to triggers) n = h
        sort (inst.Call v result args) n = h
        sort (inst.Phi ty edges) n = h
        sort (inst.Br to) n = h
        sort (inst.Branch cond first second) n = h
        sort (inst.Wait to after signals) n = h
        sort inst.Halt n = h
        sort (inst.Ret None) n = h
        sort (inst.Ret (Some y)) n = h

signals-bits : (f : Naming) (e : Env) (t : Table) (is : List InstId) → sum_by (λ (s : SignalText). bit_count s.ty) (signals_of e (map (inst_line_text f t) is ++ [])) ≡ sig_bits t is
signals-bits f e t [] = refl
signals-bits f e t (i ∷ is) = signal-text f e t i (map (inst_line_text f t) is ++ []) (sig_bits t is) (signals-bits f e t is)

-- the lines of an entity
pub entity-lines : (f : Naming) (t : Table) → t.blocks ≡ entity_block ∷ [] → lines_of (map (block_text f t) t.blocks) ≡ map (inst_line_text f t) (insts_at t 0) ++ []
entity-lines f t e = ap (λ bs. lines_of (map (block_text f t) bs)) e

pub record Reads (f : Naming) (h : Hierarchy) (n : HierarchyNode) : Type 0 where
  pub targets_are : targets h ≡ map (λ (x : UnitId). f.unit_name x.0) n.targets
  pub bits_are : min n.bits max_counted ≡ min (sum_by (λ (s : SignalText). bit_count s.ty) h.signals) max_counted

reads-entity : (f : Naming) (n : UnitName) (t : Table) → t.blocks ≡ entity_block ∷ [] → Reads f (hierarchy_by kind.Entity (table_text f n t)) (node_by (Some kind.Entity) t)
reads-entity f n t e = record {
  targets_are =
      ap (λ ls. map (λ (c : Child). c.unit) (children_of (static_held (table_text f n t) [] []) ls)) (entity-lines f t e)
      ∙ children-names f (static_held (table_text f n t) [] []) t (insts_at t 0)
      ∙ ap (map (λ (x : UnitId). f.unit_name x.0)) (sym (targets-from t no_node (insts_at t 0)));
  bits_are =
      bits-from t no_node (insts_at t 0)
      ∙ ap (λ b. min b max_counted) (zero_plus (sig_bits t (insts_at t 0))
      ∙ sym (ap (λ ls. sum_by (λ (s : SignalText). bit_count s.ty) (signals_of (static_held (table_text f n t) [] []) ls)) (entity-lines f t e)
      ∙ signals-bits f (static_held (table_text f n t) [] []) t (insts_at t 0)));
}
  where
    zero_plus : (b : ℕ) → 0 + b ≡ b
    zero_plus b = omega arith

reads-kind : (f : Naming) (n : UnitName) (t : Table) (k : Option UnitKind) → (k ≡ Some kind.Entity → t.blocks ≡ entity_block ∷ [])
    → Reads f (hierarchy_or (option_map (hierarchy_by (kind_text k)) (if is_some k then Some (table_text f n t) else None))) (node_by k t)
reads-kind f n t None h = record { targets_are = refl; bits_are = refl }
reads-kind f n t (Some kind.Func) h = record { targets_are = refl; bits_are = refl }
reads-kind f n t (Some kind.Proc) h = record { targets_are = refl; bits_are = refl }
reads-kind f n t (Some kind.Entity) h = reads-entity f n t (h refl)

-- what is read of a defined unit is read by its kind
pub by-its-kind : (k : Option UnitKind) (t : UnitText) → t.kind ≡ kind_text k
    → option_map hierarchy_of (if is_some k then Some t else None) ≡ option_map (hierarchy_by (kind_text k)) (if is_some k then Some t else None)
by-its-kind None t e = refl
by-its-kind (Some k) t e = ap (λ j. Some (hierarchy_by j t)) e

-- what is read of a unit by its name is what its graph has of it
pub reads-unit : (a : Arena) (u : ℕ) → IsArena a → u < unit_count a → Reads (naming a u) (hierarchy_in (hierarchies (contents a)) (unit_name_at a u)) (node_of a u)
reads-unit a u o l =
    subst (λ h. Reads (naming a u) (hierarchy_or h) (node_of a u)) (sym (hierarchy-by_id a u o l ∙ by-its-kind (kind_at a u) (unit_text_at a u) refl))
    (reads-kind (naming a u) (unit_name_at a u) (table_at a u) (kind_at a u) (λ e. entity-blocks a u o l e))
