-- The graph of a module: its units are in it, and so is each unit that is instantiated.
use Rattle.std.proofs.Common.{◌≡◌, ℕ, ◌+◌, ◌<◌, inl, inr, List, [], ◌∷◌, ◌++◌, length, get_or, drop, Option, Some, None, refl, ap, sym, ◌∙◌, subst, arith, add-one}
use Rattle.std.proofs.Math.Seq.{drop-cons}
use Rattle.std.proofs.lemmas.List.{get_or_past, get_or_append_left, get_or_push, length-append}
use Rattle.std.specs.List.{slice_get}
use Rattle.std.proofs.lemmas.Bool.{cases_lt}
use Rattle.lh_unit.specs.Within.{Each}
use Rattle.lh_unit.specs.Table.{Table, FitsKind, entity_block, line_at, insts_at}
use Rattle.lh_unit.specs.Arena.{Arena, IsArena, InstPlaced, table_at, kind_at, blocks_at, block_count, block_insts_at, inst_count, unit_count}
use Rattle.lh_unit.specs.declared.inst.UnitId.{UnitId}
use Rattle.lh_unit.specs.declared.inst.InstId.{InstId}
use Rattle.lh_unit.specs.declared.inst.UnitKind.{UnitKind}
use Rattle.lh_unit.specs.declared.inst.UnitKind.TheVariants as kind
use Rattle.lh_unit.specs.declared.inst.Inst.{Inst}
use Rattle.lh_unit.specs.declared.inst.Inst.TheVariants as inst
use Rattle.lh_unit.proofs.Lists.{Same, same, other, same_or, Each-append}
use Rattle.lh_unit.proofs.ModuleLaws.{block-within, block_insts-within, line-placed}
use Rattle.lh_elab.specs.declared.graph.HierarchyNode.{HierarchyNode}
use Rattle.lh_elab.specs.Graph.{no_node, node_after, node_from, node_by, node_of, node_at, targets_at, IsGraph}
use Rattle.lh_unit_graph.specs.Measures.{NodesWithin}
use Rattle.lh_elab.specs.Measures.{measuring}
use Rattle.lh_verify_laws.proofs.Graphs.{Inside}

-- an entity has one block
pub entity-blocks : (a : Arena) (u : ℕ) → IsArena a → u < unit_count a → kind_at a u ≡ Some kind.Entity → blocks_at a u ≡ entity_block ∷ []
entity-blocks a u o p e = let P : Option UnitKind → Type 0 = λ k. FitsKind k (table_at a u) in let f = subst P e (o.tables u p).fits_kind in f.1

first_block : (a : Arena) (u : ℕ) → blocks_at a u ≡ entity_block ∷ [] → slice_get (blocks_at a u) 0 ≡ Some entity_block
first_block a u e = ap (λ bs. slice_get bs 0) e

pub entity-block : (a : Arena) (u : ℕ) → IsArena a → u < unit_count a → kind_at a u ≡ Some kind.Entity → 0 < block_count a u
entity-block a u o p e = block-within a u 0 entity_block o p (first_block a u (entity-blocks a u o p e))

pub entity-insts : (a : Arena) (u : ℕ) → IsArena a → u < unit_count a → kind_at a u ≡ Some kind.Entity → Each (λ (x : InstId). x.0 < inst_count a u) (block_insts_at a u 0)
entity-insts a u o p e = block_insts-within a u 0 entity_block o p (first_block a u (entity-blocks a u o p e))

-- a graph of the first units
pub record GraphTo (a : Arena) (n : ℕ) (g : List HierarchyNode) : Type 0 where
  pub long : length g ≡ n
  pub nodes : (u : ℕ) → u < n → node_at g u ≡ node_of a u

pub GraphTo-none : (a : Arena) (g : List HierarchyNode) → g ≡ [] → GraphTo a 0 g
GraphTo-none a g e = record { long = ap length e; nodes = λ u l. absurd (omega (arith, l)) }

pub GraphTo-push : (a : Arena) (n : ℕ) (g h : List HierarchyNode) (x : HierarchyNode) → GraphTo a n g → h ≡ g ++ x ∷ [] → x ≡ node_of a n → GraphTo a (n + 1) h
GraphTo-push a n g h x o e f = subst (GraphTo a (n + 1)) (sym e) record {
  long = omega (arith, o.long, length-append g (x ∷ []));
  nodes = λ u l. by u l (same_or u n);
}
  where
    by : (u : ℕ) → u < n + 1 → Same u n → get_or (g ++ x ∷ []) u no_node ≡ node_of a u
    by u l (same q) = get_or_push g x no_node u (omega (arith, o.long, q)) ∙ f ∙ ap (node_of a) (sym q)
    by u l (other q) = get_or_append_left g (x ∷ []) no_node u (omega (arith, o.long, l, q)) ∙ o.nodes u (omega (arith, l, q))

pub GraphTo-all : (a : Arena) (n : ℕ) (g : List HierarchyNode) → n ≡ unit_count a → GraphTo a n g → IsGraph a g
GraphTo-all a n g e o = record { long = o.long ∙ e; nodes = λ u l. o.nodes u (omega (arith, l, e)) }

after-inside : (a : Arena) (u : ℕ) (n : HierarchyNode) (i : Inst) → InstPlaced a u i → Inside (unit_count a) n.targets → Inside (unit_count a) (node_after n i).targets
after-inside a u n (inst.Child v inputs outputs) p h = Each-append (λ (t : UnitId). t.0 < unit_count a) n.targets (v ∷ []) h (p.0, tt)
after-inside a u n (inst.Const v) p h = h
after-inside a u n (inst.Pure op args) p h = h
after-inside a u n (inst.Var t) p h = h
after-inside a u n (inst.Ld t) p h = h
after-inside a u n (inst.St to value) p h = h
after-inside a u n (inst.Sig t) p h = h
after-inside a u n (inst.Prb t) p h = h
after-inside a u n (inst.Drv to value after cond) p h = h
after-inside a u n (inst.Reg to triggers) p h = h
after-inside a u n (inst.Call v result args) p h = h
after-inside a u n (inst.Phi ty edges) p h = h
after-inside a u n (inst.Br to) p h = h
after-inside a u n (inst.Branch cond first second) p h = h
after-inside a u n (inst.Wait to after signals) p h = h
after-inside a u n inst.Halt p h = h
after-inside a u n (inst.Ret x) p h = h

from-inside : (a : Arena) (u : ℕ) (n : HierarchyNode) (is : List InstId) → IsArena a → Inside (unit_count a) n.targets → Inside (unit_count a) (node_from (table_at a u) n is).targets
from-inside a u n [] o h = h
from-inside a u n (i ∷ is) o h = from-inside a u (node_after n (line_at (table_at a u) i.0).inst) is o (after-inside a u n (line_at (table_at a u) i.0).inst (line-placed a u i.0 o) h)

by-inside : (a : Arena) (u : ℕ) (k : Option UnitKind) → IsArena a → Inside (unit_count a) (node_by k (table_at a u)).targets
by-inside a u (Some kind.Entity) o = from-inside a u no_node (insts_at (table_at a u) 0) o tt
by-inside a u (Some kind.Func) o = tt
by-inside a u (Some kind.Proc) o = tt
by-inside a u None o = tt

pub graph-within : (a : Arena) (g : List HierarchyNode) → IsArena a → IsGraph a g → NodesWithin measuring g
graph-within a g o q u = elim (cases_lt u (length g)) [
  | inl l ↦
      let e : node_at g u ≡ node_of a u = q.nodes u (omega (arith, q.long, l)) in
      subst (λ n. Inside n (targets_at g u)) (sym q.long) (subst (λ x. Inside (unit_count a) x.targets) (sym e) (by-inside a u (kind_at a u) o))
  | inr l ↦ let e : node_at g u ≡ no_node = get_or_past g u no_node l in subst (λ x. Inside (length g) x.targets) (sym e) tt
]

drop_at : (is : List InstId) (k : ℕ) (d : InstId) → k < length is → drop k is ≡ get_or is k d ∷ drop (k + 1) is
drop_at is k d l = rw (add-one, drop-cons is k d) refl

-- the rest of a list at one more
pub from-next : (t : Table) (n m r : HierarchyNode) (is : List InstId) (k : ℕ) (d : InstId) → k < length is → m ≡ node_after n (line_at t (get_or is k d).0).inst → node_from t n (drop k is) ≡ r
    → node_from t m (drop (k + 1) is) ≡ r
from-next t n m r is k d l e h = rw e (sym (ap (node_from t n) (drop_at is k d l)) ∙ h)
