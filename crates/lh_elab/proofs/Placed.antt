-- The unit that a refusal names is one of the module.
use Rattle.std.proofs.Common.{◌≡◌, ℕ, zero, suc, ◌+◌, ◌<◌, min, nat_lt, Bool, true, false, if◌then◌else◌, List, [], ◌∷◌, length, Option, Some, None, Result, Ok, Err, refl, sym, ◌∙◌, subst}
use Rattle.std.specs.Result.{IfErr}
use Rattle.std.proofs.lemmas.Option.{none-some, same_Some}
use Rattle.lh_unit.specs.Arena.{Arena, IsArena}
use Rattle.lh_unit.specs.Design.{first_some}
use Rattle.lh_unit.specs.Typing.{or_else}
use Rattle.lh_unit.specs.Within.{Each}
use Rattle.lh_unit.specs.declared.inst.UnitId.{UnitId}
use Rattle.lh_verify_laws.specs.Graphs.{is_open, met_or}
use Rattle.lh_unit_graph.specs.Measures.{cycle_in, NodesWithin, Measures}
use Rattle.lh_unit_graph.specs.declared.fault.DescentFault.{DescentFault}
use Rattle.lh_unit_graph.specs.declared.fault.DescentFault.TheVariants as descent
use Rattle.lh_elab.specs.declared.fault.ElabFault.{ElabFault}
use Rattle.lh_elab.specs.declared.fault.ElabFault.TheVariants as fault
use Rattle.lh_elab.specs.declared.graph.HierarchyNode.{HierarchyNode}
use Rattle.lh_elab.specs.declared.measure.HierarchyMeasure.{HierarchyMeasure}
use Rattle.lh_elab.specs.Graph.{targets_at, max_counted, IsGraph}
use Rattle.lh_elab.specs.Measures.{measuring, fault_of}
use Rattle.lh_elab.specs.Refusals.{limited, FaultWithin}
use Rattle.lh_elab.proofs.InstanceCounts.{defined, has-busy}

first-within : (n : ℕ) (f : UnitId → Option ℕ) (ts : List UnitId) → Each (λ (t : UnitId). t.0 < n) ts → ((t : UnitId) (x : ℕ) → t.0 < n → f t ≡ Some x → x < n) → (x : ℕ) → first_some f ts ≡ Some x
    → x < n
first-within n f [] w go x e = absurd (none-some x e)
first-within n f (t ∷ ts) w go x e = by (f t) refl e (first-within n f ts w.1 go x)
  where
    by : (o : Option ℕ) → f t ≡ o → or_else o (first_some f ts) ≡ Some x → (first_some f ts ≡ Some x → x < n) → x < n
    by None q r rest = rest r
    by (Some y) q r rest = go t x w.0 (q ∙ r)

met-within : (n : ℕ) (below : ℕ → Option ℕ) → ((m x : ℕ) → below m ≡ Some x → x < n) → (b : Bool) (t x : ℕ) → t < n → met_or below b t ≡ Some x → x < n
met-within n below go true t x l e = subst (λ m. m < n) (same_Some t x e) l
met-within n below go false t x l e = go t x e

cycle-within : (k : ℕ) (g : List HierarchyNode) (opened : List ℕ) → NodesWithin measuring g → (n x : ℕ) → cycle_in measuring k g opened n ≡ Some x → x < length g
cycle-within zero g opened w n x e = absurd (none-some x e)
cycle-within (suc k) g opened w n x e =
    first-within (length g) (λ (t : UnitId). met_or (cycle_in measuring k g (n ∷ opened)) (is_open (n ∷ opened) t.0) t.0) (targets_at g n) (w n)
    (λ t y l q. met-within (length g) (cycle_in measuring k g (n ∷ opened)) (cycle-within k g (n ∷ opened) w) (is_open (n ∷ opened) t.0) t.0 y l q) x e

-- the refusal of a search
pub found-within : (a : Arena) (g : List HierarchyNode) (top : ℕ) (r : Result HierarchyMeasure DescentFault) → IsArena a → IsGraph a g → NodesWithin measuring g → Measures measuring g top r → IfErr r (λ f. FaultWithin a (fault_of f))
found-within a g top (Ok m) o q w h = tt
found-within a g top (Err (descent.Cycle v)) o q w h =
    let l : v.0 < length g = cycle-within (length (defined a)) g [] w top v.0 (h (defined a) (has-busy a g o q)) in
    subst (λ n. v.0 < n) q.long l
found-within a g top (Err descent.OutOfMemory) o q w h = tt

-- no limit names a unit
pub limit-within : (a : Arena) (m : HierarchyMeasure) (b : ℕ) (r : Result ℕ ElabFault) → r ≡ limited m b → IfErr r (FaultWithin a)
limit-within a m b r e = subst (λ (x : Result ℕ ElabFault). IfErr x (FaultWithin a)) (sym e)
    (by (nat_lt 64 m.depth) (nat_lt 65536 m.instances) (nat_lt 16777216 (min (b + m.bits) max_counted)) (min (b + m.bits) max_counted))
  where
    by : (x y z : Bool) (k : ℕ) → IfErr (if x then Err fault.TooDeep else (if y then Err fault.TooManyInstances else (if z then Err fault.TooManyBits else Ok k))) (FaultWithin a)
    by true y z k = tt
    by false true z k = tt
    by false false true k = tt
    by false false false k = tt
