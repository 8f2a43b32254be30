-- Counts and cycles over names are those over ids.
use Rattle.std.proofs.Common.{◌≡◌, ℕ, zero, suc, ◌+◌, ◌<◌, ◌≤◌, inl, inr, min, Bool, true, false, ◌||◌, nat_eq, List, [], ◌∷◌, length, map, sum_by, Option, Some, None, is_some, refl, ap, sym, ◌∙◌, subst}
use Rattle.std.specs.Option.{option_map}
use Rattle.std.proofs.lemmas.Bool.{cases_lt}
use Rattle.std.proofs.lemmas.List.{get_or_past}
use Rattle.std.proofs.lemmas.List.Sums.{sum_by-cons}
use Rattle.std.specs.List.{list_any, slice_get}
use Rattle.lh_types.specs.Types.{bit_count}
use Rattle.lh_unit_names.specs.declared.name.UnitName.{UnitName}
use Rattle.lh_unit.specs.declared.inst.UnitId.{UnitId}
use Rattle.lh_unit.specs.declared.inst.Item.{Item}
use Rattle.lh_unit.specs.declared.inst.Item.TheVariants as item
use Rattle.lh_unit_names.specs.UnitNames.{same_unit_name}
use Rattle.lh_unit.specs.Typing.{or_else}
use Rattle.lh_unit.specs.Within.{Each}
use Rattle.lh_unit.specs.Arena.{Arena, IsArena, contents, item_text_at, unit_count, unit_name_at, kind_at, table_at}
use Rattle.lh_unit.specs.Hierarchy.{SignalText, Entry, hierarchies}
use Rattle.lh_unit.specs.Design.{hierarchy_in, targets, is_one_of, first_some, cycle_at, cycle_from, nests_deeper, instance_count, bits_below}
use Rattle.lh_unit.specs.declared.inst.UnitKind.{UnitKind}
use Rattle.lh_unit.proofs.ById.{same_unit-by_id}
use Rattle.lh_verify_laws.specs.Graphs.{met_or, is_open, IsIn}
use Rattle.lh_verify_laws.proofs.Capped.{both_capped}
use Rattle.lh_verify_laws.proofs.Graphs.{item_units, in-units}
use Rattle.lh_elab.specs.declared.graph.HierarchyNode.{HierarchyNode}
use Rattle.lh_elab.specs.Graph.{max_counted, no_node, node_at, node_by, targets_at, IsGraph}
use Rattle.lh_unit_graph.specs.Measures.{cycle_in, NodesWithin, HasBusy}
use Rattle.lh_elab.specs.Measures.{measuring}
use Rattle.lh_elab.proofs.MeasureSums.{nests, count_in, bits_in}
use Rattle.lh_elab.proofs.Names.{reads-unit}

-- a graph by ids stands for these entries, where ids have these names
pub record StandsFor (table : List Entry) (name : ℕ → UnitName) (g : List HierarchyNode) : Type 0 where
  pub same : (v w : ℕ) → v < length g → w < length g → same_unit_name (name v) (name w) ≡ nat_eq v w
  pub within : NodesWithin measuring g
  pub targets_are : (u : ℕ) → u < length g → targets (hierarchy_in table (name u)) ≡ map (λ (t : UnitId). name t.0) (targets_at g u)
  pub bits_are : (u : ℕ) → u < length g → min (node_at g u).bits max_counted ≡ min (sum_by (λ (s : SignalText). bit_count s.ty) (hierarchy_in table (name u)).signals) max_counted

pub stands : (a : Arena) (g : List HierarchyNode) → IsArena a → IsGraph a g → NodesWithin measuring g → StandsFor (hierarchies (contents a)) (unit_name_at a) g
stands a g o q w = record {
  same = λ v x l k. same_unit-by_id a v x o (subst (λ n. v < n) q.long l) (subst (λ n. x < n) q.long k);
  within = w;
  targets_are = λ u l. (reads-unit a u o (subst (λ n. u < n) q.long l)).targets_are
      ∙ ap (λ (x : HierarchyNode). map (λ (t : UnitId). unit_name_at a t.0) x.targets) (sym (q.nodes u (subst (λ n. u < n) q.long l)));
  bits_are = λ u l. ap (λ (x : HierarchyNode). min x.bits max_counted) (q.nodes u (subst (λ n. u < n) q.long l)) ∙ (reads-unit a u o (subst (λ n. u < n) q.long l)).bits_are;
}

any-named : (n : ℕ) (name : ℕ → UnitName) (P : UnitName → Bool) (Q : UnitId → Bool) (ts : List UnitId) → ((t : UnitId) → t.0 < n → P (name t.0) ≡ Q t) → Each (λ (t : UnitId). t.0 < n) ts
    → list_any P (map (λ (t : UnitId). name t.0) ts) ≡ list_any Q ts
any-named n name P Q [] f h = refl
any-named n name P Q (t ∷ ts) f h = ap (λ b. b || list_any P (map (λ (x : UnitId). name x.0) ts)) (f t h.0) ∙ ap (λ b. Q t || b) (any-named n name P Q ts f h.1)

sum-named : (n : ℕ) (name : ℕ → UnitName) (F : UnitName → ℕ) (G : UnitId → ℕ) (ts : List UnitId) → ((t : UnitId) → t.0 < n → F (name t.0) ≡ G t) → Each (λ (t : UnitId). t.0 < n) ts
    → sum_by F (map (λ (t : UnitId). name t.0) ts) ≡ sum_by G ts
sum-named n name F G [] f h = refl
sum-named n name F G (t ∷ ts) f h =
    sum_by-cons F (name t.0) (map (λ (x : UnitId). name x.0) ts) ∙ ap (λ b. b + sum_by F (map (λ (x : UnitId). name x.0) ts)) (f t h.0) ∙ ap (λ b. G t + b) (sum-named n name F G ts f h.1)
    ∙ sym (sum_by-cons G t ts)

capped-named : (n e : ℕ) (name : ℕ → UnitName) (F : UnitName → ℕ) (G : UnitId → ℕ) (ts : List UnitId) → ((t : UnitId) → t.0 < n → min (F (name t.0)) e ≡ min (G t) e)
    → Each (λ (t : UnitId). t.0 < n) ts → min (sum_by F (map (λ (t : UnitId). name t.0) ts)) e ≡ min (sum_by G ts) e
capped-named n e name F G [] f h = refl
capped-named n e name F G (t ∷ ts) f h =
    ap (λ s. min s e) (sum_by-cons F (name t.0) (map (λ (x : UnitId). name x.0) ts))
    ∙ both_capped (F (name t.0)) (sum_by F (map (λ (x : UnitId). name x.0) ts)) (G t) (sum_by G ts) e (f t h.0) (capped-named n e name F G ts f h.1)
    ∙ sym (ap (λ s. min s e) (sum_by-cons G t ts))

pub nests-named : (k : ℕ) (table : List Entry) (name : ℕ → UnitName) (g : List HierarchyNode) (u : ℕ) → StandsFor table name g → u < length g → nests_deeper k table (name u) ≡ nests k g u
nests-named zero table name g u o l = refl
nests-named (suc k) table name g u o l =
    ap (list_any (nests_deeper k table)) (o.targets_are u l)
    ∙ any-named (length g) name (nests_deeper k table) (λ (t : UnitId). nests k g t.0) (targets_at g u) (λ t h. nests-named k table name g t.0 o h) (o.within u)

pub count-named : (k : ℕ) (table : List Entry) (name : ℕ → UnitName) (g : List HierarchyNode) (u : ℕ) → StandsFor table name g → u < length g → instance_count k table (name u) ≡ count_in k g u
count-named zero table name g u o l = refl
count-named (suc k) table name g u o l =
    ap (λ ts. 1 + sum_by (instance_count k table) ts) (o.targets_are u l)
    ∙ ap (λ s. 1 + s) (sum-named (length g) name (instance_count k table) (λ (t : UnitId). count_in k g t.0) (targets_at g u) (λ t h. count-named k table name g t.0 o h) (o.within u))

pub bits-named : (k : ℕ) (table : List Entry) (name : ℕ → UnitName) (g : List HierarchyNode) (u : ℕ) → StandsFor table name g → u < length g
    → min (bits_below k table (name u)) max_counted ≡ min (bits_in k g u) max_counted
bits-named zero table name g u o l = refl
bits-named (suc k) table name g u o l =
    both_capped (sum_by (λ (s : SignalText). bit_count s.ty) (hierarchy_in table (name u)).signals) (sum_by (bits_below k table) (targets (hierarchy_in table (name u)))) (node_at g u).bits
    (sum_by (λ (t : UnitId). bits_in k g t.0) (targets_at g u)) max_counted
    (sym (o.bits_are u l))
    (ap (λ ts. min (sum_by (bits_below k table) ts) max_counted) (o.targets_are u l)
    ∙ capped-named (length g) max_counted name (bits_below k table) (λ (t : UnitId). bits_in k g t.0) (targets_at g u) (λ t h. bits-named k table name g t.0 o h) (o.within u))

-- open units
abbrev pub AllBelow : ℕ → List ℕ → Type 0
AllBelow n xs = Each (λ x. x < n) xs

open-named : (table : List Entry) (name : ℕ → UnitName) (g : List HierarchyNode) (opened : List ℕ) (t : ℕ) → StandsFor table name g → AllBelow (length g) opened → t < length g
    → is_one_of (map name opened) (name t) ≡ is_open opened t
open-named table name g [] t o h l = refl
open-named table name g (x ∷ xs) t o h l = ap (λ b. b || is_one_of (map name xs) (name t)) (o.same x t h.0 l) ∙ ap (λ b. nat_eq x t || b) (open-named table name g xs t o h.1 l)

first-named : (n : ℕ) (name : ℕ → UnitName) (F : UnitName → Option UnitName) (G : UnitId → Option ℕ) (ts : List UnitId) → ((t : UnitId) → t.0 < n → F (name t.0) ≡ option_map name (G t))
    → Each (λ (t : UnitId). t.0 < n) ts → first_some F (map (λ (t : UnitId). name t.0) ts) ≡ option_map name (first_some G ts)
first-named n name F G [] f h = refl
first-named n name F G (t ∷ ts) f h =
    ap (λ x. or_else x (first_some F (map (λ (y : UnitId). name y.0) ts))) (f t h.0)
    ∙ ap (or_else (option_map name (G t))) (first-named n name F G ts f h.1)
    ∙ sym (mapped (G t) (first_some G ts))
  where
    mapped : (p q : Option ℕ) → option_map name (or_else p q) ≡ or_else (option_map name p) (option_map name q)
    mapped None q = refl
    mapped (Some x) q = refl

met-named : (name : ℕ → UnitName) (F : UnitName → Option UnitName) (G : ℕ → Option ℕ) (b c : Bool) (t : ℕ) → b ≡ c → F (name t) ≡ option_map name (G t)
    → cycle_at F b (name t) ≡ option_map name (met_or G c t)
met-named name F G b true t e f = ap (λ x. cycle_at F x (name t)) e
met-named name F G b false t e f = ap (λ x. cycle_at F x (name t)) e ∙ f

pub cycle-named : (k : ℕ) (table : List Entry) (name : ℕ → UnitName) (g : List HierarchyNode) (opened : List ℕ) (u : ℕ) → StandsFor table name g → AllBelow (length g) opened → u < length g
    → cycle_from k table (map name opened) (name u) ≡ option_map name (cycle_in measuring k g opened u)
cycle-named zero table name g opened u o h l = refl
cycle-named (suc k) table name g opened u o h l =
    ap (first_some (λ t. cycle_at (cycle_from k table (map name (u ∷ opened))) (is_one_of (map name (u ∷ opened)) t) t)) (o.targets_are u l)
    ∙ first-named (length g) name (λ t. cycle_at (cycle_from k table (map name (u ∷ opened))) (is_one_of (map name (u ∷ opened)) t) t) (λ (t : UnitId). met_or (cycle_in measuring k g (u ∷ opened))
    (is_open (u ∷ opened) t.0) t.0) (targets_at g u)
    (λ t q. met-named name (cycle_from k table (map name (u ∷ opened))) (cycle_in measuring k g (u ∷ opened)) (is_one_of (map name (u ∷ opened)) (name t.0)) (is_open (u ∷ opened) t.0) t.0
    (open-named table name g (u ∷ opened) t.0 o (l, h) q) (cycle-named k table name g (u ∷ opened) t.0 o (l, h) q))
    (o.within u)

-- the units that items define
abbrev pub defined : Arena → List ℕ
defined a = item_units a.items

length-units : (a : Arena) (items : List Item) → length (item_units items) ≡ length (hierarchies (map (item_text_at a) items))
length-units a [] = refl
length-units a (item.Unit u ∷ more) = ap suc (length-units a more)
length-units a (item.Declare d ∷ more) = length-units a more

pub length-defined : (a : Arena) → length (defined a) ≡ length (hierarchies (contents a))
length-defined a = length-units a a.items

begun-in : (a : Arena) (u : ℕ) → IsArena a → u < unit_count a → is_some (kind_at a u) ≡ true → IsIn (defined a) u
begun-in a u o l e = let r = o.items_defined record { 0 = u } l e in in-units a.items r.0 record { 0 = u } r.1

-- only a unit that is begun instantiates others
busy-begun : (a : Arena) (u i : ℕ) (t : UnitId) (k : Option UnitKind) → slice_get (node_by k (table_at a u)).targets i ≡ Some t → is_some k ≡ true
busy-begun a u i t None e = cc
busy-begun a u i t (Some k) e = refl

pub has-busy : (a : Arena) (g : List HierarchyNode) → IsArena a → IsGraph a g → HasBusy measuring g (defined a)
has-busy a g o q u i t e = elim (cases_lt u (unit_count a)) [
  | inl l ↦ begun-in a u o l (busy-begun a u i t (kind_at a u) (ap (λ (x : HierarchyNode). slice_get x.targets i) (sym (q.nodes u l)) ∙ e))
  | inr l ↦
      let p : node_at g u ≡ no_node = get_or_past g u no_node (subst (λ n. n ≤ u) (sym q.long) l) in
      let r : slice_get no_node.targets i ≡ Some t = ap (λ (x : HierarchyNode). slice_get x.targets i) (sym p) ∙ e in absurd (nothing_there i r)
]
  where
    nothing_there : (i : ℕ) → slice_get no_node.targets i ≡ Some t → ⊥
    nothing_there i r = cc
