-- The graph of a module: its units are in it, and so is each function that is called.
use Rattle.std.proofs.Common.{◌≡◌, ℕ, ◌+◌, ◌<◌, inl, inr, List, [], ◌∷◌, ◌++◌, length, get_or, drop, Option, Some, None, if◌then◌else◌, true, false, ap, sym, ◌∙◌, subst, arith}
use Rattle.std.proofs.lemmas.List.{get_or_past, get_or_append_left, get_or_push, length-append, drop_more}
use Rattle.std.specs.List.{slice_get}
use Rattle.std.proofs.lemmas.Option.{slice_get-get_or}
use Rattle.std.proofs.lemmas.Bool.{cases_lt}
use Rattle.lh_unit_names.specs.UnitNames.{is_assert}
use Rattle.lh_unit.specs.Table.{line_at, insts_at}
use Rattle.lh_unit.specs.Arena.{Arena, IsArena, InstPlaced, table_at, blocks_at, unit_count, unit_name_at}
use Rattle.lh_unit.specs.declared.inst.UnitId.{UnitId}
use Rattle.lh_unit.specs.declared.inst.BlockId.{BlockId}
use Rattle.lh_unit.specs.declared.inst.InstId.{InstId}
use Rattle.lh_unit.specs.declared.inst.Inst.{Inst}
use Rattle.lh_unit.specs.declared.inst.Inst.TheVariants as inst
use Rattle.lh_unit.proofs.Lists.{Same, same, other, same_or, Each-append}
use Rattle.lh_unit.proofs.ModuleLaws.{block-within, block_insts-within, line-placed}
use Rattle.lh_flat.specs.declared.calls.CallNode.{CallNode}
use Rattle.lh_flat.specs.Graph.{no_node, called_of, callee_of, with_inst, with_insts, with_block, with_blocks, node_of, node_at, callees_at, counted, BlockPlaced, IsGraph}
use Rattle.lh_unit_graph.specs.Measures.{NodesWithin}
use Rattle.lh_flat.specs.Measures.{measuring}
use Rattle.lh_verify_laws.proofs.Graphs.{Inside}

-- a block of a unit has an entry, and so have its instructions
pub placed-block : (a : Arena) (u i : ℕ) (b : BlockId) → IsArena a → u < unit_count a → slice_get (blocks_at a u) i ≡ Some b → BlockPlaced a u b
placed-block a u i b o l e = record { within = block-within a u i b o l e; insts = block_insts-within a u i b o l e }

pub placed-at : (a : Arena) (u i : ℕ) (d : BlockId) (xs : List BlockId) → IsArena a → u < unit_count a → xs ≡ blocks_at a u → i < length xs → BlockPlaced a u (get_or xs i d)
placed-at a u i d xs o l e k = placed-block a u i (get_or xs i d) o l (ap (λ ys. slice_get ys i) (sym e) ∙ slice_get-get_or xs i d k)

-- a graph of the first units
pub record GraphTo (a : Arena) (n : ℕ) (g : List CallNode) : Type 0 where
  pub long : length g ≡ n
  pub nodes : (u : ℕ) → u < n → node_at g u ≡ node_of a u

pub GraphTo-none : (a : Arena) (g : List CallNode) → g ≡ [] → GraphTo a 0 g
GraphTo-none a g e = record { long = ap length e; nodes = λ u l. absurd (omega (arith, l)) }

pub GraphTo-push : (a : Arena) (n : ℕ) (g h : List CallNode) (x : CallNode) → GraphTo a n g → h ≡ g ++ x ∷ [] → x ≡ node_of a n → GraphTo a (n + 1) h
GraphTo-push a n g h x o e f = subst (GraphTo a (n + 1)) (sym e) record {
  long = omega (arith, o.long, length-append g (x ∷ []));
  nodes = λ u l. by u l (same_or u n);
}
  where
    by : (u : ℕ) → u < n + 1 → Same u n → get_or (g ++ x ∷ []) u no_node ≡ node_of a u
    by u l (same q) = get_or_push g x no_node u (omega (arith, o.long, q)) ∙ f ∙ ap (node_of a) (sym q)
    by u l (other q) = get_or_append_left g (x ∷ []) no_node u (omega (arith, o.long, l, q)) ∙ o.nodes u (omega (arith, l, q))

pub GraphTo-all : (a : Arena) (n : ℕ) (g : List CallNode) → n ≡ unit_count a → GraphTo a n g → IsGraph a g
GraphTo-all a n g e o = record { long = o.long ∙ e; nodes = λ u l. o.nodes u (omega (arith, l, e)) }

-- the function that is called, if there is one, has an entry
abbrev pub CalleeIn : ℕ → Option UnitId → Type 0
CalleeIn n None = Unit {0}
CalleeIn n (Some f) = f.0 < n

called-in : (a : Arena) (f : UnitId) → f.0 < unit_count a → CalleeIn (unit_count a) (called_of a f)
called-in a f l = elim (is_assert (unit_name_at a f.0)) as (λ b. CalleeIn (unit_count a) (if b then None else Some f)) [ true ↦ tt | false ↦ l ]

pub callee-in : (a : Arena) (u : ℕ) (i : Inst) → InstPlaced a u i → CalleeIn (unit_count a) (callee_of a i)
callee-in a u (inst.Call f result args) p = called-in a f p.0
callee-in a u (inst.Const v) p = tt
callee-in a u (inst.Pure op args) p = tt
callee-in a u (inst.Var t) p = tt
callee-in a u (inst.Ld t) p = tt
callee-in a u (inst.St to value) p = tt
callee-in a u (inst.Sig t) p = tt
callee-in a u (inst.Prb t) p = tt
callee-in a u (inst.Drv to value after cond) p = tt
callee-in a u (inst.Reg to triggers) p = tt
callee-in a u (inst.Child v inputs outputs) p = tt
callee-in a u (inst.Phi ty edges) p = tt
callee-in a u (inst.Br to) p = tt
callee-in a u (inst.Branch cond first second) p = tt
callee-in a u (inst.Wait to after signals) p = tt
callee-in a u inst.Halt p = tt
callee-in a u (inst.Ret x) p = tt

with-inside : (n : ℕ) (x : CallNode) (c : Option UnitId) → CalleeIn n c → Inside n x.callees → Inside n (with_inst x c).callees
with-inside n x None p h = h
with-inside n x (Some f) p h = Each-append (λ (t : UnitId). t.0 < n) x.callees (f ∷ []) h (p, tt)

insts-inside : (a : Arena) (u : ℕ) (n : CallNode) (is : List InstId) → IsArena a → Inside (unit_count a) n.callees → Inside (unit_count a) (with_insts a u n is).callees
insts-inside a u n [] o h = h
insts-inside a u n (i ∷ is) o h =
    insts-inside a u (with_inst n (callee_of a (line_at (table_at a u) i.0).inst)) is o
    (with-inside (unit_count a) n (callee_of a (line_at (table_at a u) i.0).inst) (callee-in a u (line_at (table_at a u) i.0).inst (line-placed a u i.0 o)) h)

blocks-inside : (a : Arena) (u : ℕ) (n : CallNode) (bs : List BlockId) → IsArena a → Inside (unit_count a) n.callees → Inside (unit_count a) (with_blocks a u n bs).callees
blocks-inside a u n [] o h = h
blocks-inside a u n (b ∷ bs) o h = blocks-inside a u (with_block a u n b) bs o
    (insts-inside a u (record { insts = n.insts; blocks = counted n.blocks 1; callees = n.callees }) (insts_at (table_at a u) b.0) o h)

pub graph-within : (a : Arena) (g : List CallNode) → IsArena a → IsGraph a g → NodesWithin measuring g
graph-within a g o q u = elim (cases_lt u (length g)) [
  | inl l ↦
      let e : node_at g u ≡ node_of a u = q.nodes u (omega (arith, q.long, l)) in
      subst (λ n. Inside n (callees_at g u)) (sym q.long) (subst (λ x. Inside (unit_count a) x.callees) (sym e) (blocks-inside a u no_node (blocks_at a u) o tt))
  | inr l ↦ let e : node_at g u ≡ no_node = get_or_past g u no_node l in subst (λ x. Inside (length g) x.callees) (sym e) tt
]

-- the rest of a block's instructions at one more
pub insts-next : (a : Arena) (u : ℕ) (n m r : CallNode) (is : List InstId) (k : ℕ) (d : InstId) → k < length is → m ≡ with_inst n (callee_of a (line_at (table_at a u) (get_or is k d).0).inst)
    → with_insts a u n (drop k is) ≡ r → with_insts a u m (drop (k + 1) is) ≡ r
insts-next a u n m r is k d l e h = rw e (sym (ap (with_insts a u n) (drop_more is k d l)) ∙ h)

-- the rest of a unit's blocks at one more
pub blocks-next : (a : Arena) (u : ℕ) (n m r : CallNode) (bs : List BlockId) (k : ℕ) (d : BlockId) → k < length bs → m ≡ with_block a u n (get_or bs k d) → with_blocks a u n (drop k bs) ≡ r
    → with_blocks a u m (drop (k + 1) bs) ≡ r
blocks-next a u n m r bs k d l e h = rw e (sym (ap (with_blocks a u n) (drop_more bs k d l)) ∙ h)
