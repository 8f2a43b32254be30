-- The measure of instances beside each other, and of an instance with others in it.
use Rattle.std.proofs.Common.{◌≡◌, ℕ, zero, suc, ◌+◌, ◌≤◌, min, ◌||◌, nat_lt, Bool, true, List, [], ◌∷◌, ◌++◌, sum_by, ap, ◌∙◌, arith}
use Rattle.std.proofs.Props.{props}
use Rattle.std.specs.List.{list_any}
use Rattle.std.proofs.lemmas.List.Folds.{list_any-append}
use Rattle.std.proofs.lemmas.List.Sums.{sum_by_push}
use Rattle.lh_unit.specs.declared.inst.UnitId.{UnitId}
use Rattle.lh_unit.proofs.Lists.{or_false}
use Rattle.lh_unit_graph.specs.Measures as descent
use Rattle.lh_unit_graph.proofs.MeasureSums.{measure-holds}
use Rattle.lh_verify_laws.proofs.Capped.{not_below_zero, zero_capped, below_max, sum_capped, left_max, right_max, first_below, next_below, none_at_zero, below_next, right_capped}
use Rattle.lh_elab.specs.declared.graph.HierarchyNode.{HierarchyNode}
use Rattle.lh_elab.specs.declared.measure.HierarchyMeasure.{HierarchyMeasure}
use Rattle.lh_elab.specs.Graph.{node_at, targets_at, max_counted}
use Rattle.lh_elab.specs.Measures.{depth_end, instances_end, nothing, beside, around, measuring}

-- more than `limit` instances nest from the unit n down
abbrev pub nests : (limit : ℕ) → List HierarchyNode → ℕ → Bool
nests zero g n = true
nests (suc k) g n = list_any (λ (t : UnitId). nests k g t.0) (targets_at g n)

-- how many instances there are from the unit n down, to this depth
abbrev pub count_in : (depth : ℕ) → List HierarchyNode → ℕ → ℕ
count_in zero g n = 0
count_in (suc k) g n = 1 + sum_by (λ (t : UnitId). count_in k g t.0) (targets_at g n)

-- how many bits their signals have
abbrev pub bits_in : (depth : ℕ) → List HierarchyNode → ℕ → ℕ
bits_in zero g n = 0
bits_in (suc k) g n = (node_at g n).bits + sum_by (λ (t : UnitId). bits_in k g t.0) (targets_at g n)

-- the measure of an instance of the unit n
pub record IsMeasure (g : List HierarchyNode) (n : ℕ) (m : HierarchyMeasure) : Type 0 where
  pub depth : (k : ℕ) → suc k ≤ depth_end → nests k g n ≡ nat_lt k m.depth
  pub instances : (k : ℕ) → suc k ≤ depth_end → m.depth ≤ k → min (count_in k g n) instances_end ≡ m.instances
  pub bits : (k : ℕ) → suc k ≤ depth_end → m.depth ≤ k → min (bits_in k g n) max_counted ≡ m.bits

-- instances of these units beside each other
record IsSum (g : List HierarchyNode) (ts : List UnitId) (m : HierarchyMeasure) : Type 0 where
  pub depth : (k : ℕ) → suc k ≤ depth_end → list_any (λ (t : UnitId). nests k g t.0) ts ≡ nat_lt k m.depth
  pub instances : (k : ℕ) → suc k ≤ depth_end → m.depth ≤ k → min (sum_by (λ (t : UnitId). count_in k g t.0) ts) instances_end ≡ m.instances
  pub bits : (k : ℕ) → suc k ≤ depth_end → m.depth ≤ k → min (sum_by (λ (t : UnitId). bits_in k g t.0) ts) max_counted ≡ m.bits

IsSum-none : (g : List HierarchyNode) → IsSum g [] nothing
IsSum-none g = record { depth = λ k l. not_below_zero k; instances = λ k l d. zero_capped instances_end; bits = λ k l d. zero_capped max_counted }

IsSum-beside : (g : List HierarchyNode) (ts : List UnitId) (t : UnitId) (m n : HierarchyMeasure) → IsSum g ts m → IsMeasure g t.0 n → IsSum g (ts ++ t ∷ []) (beside m n)
IsSum-beside g ts t m n o p = record {
  depth = λ k l.
      list_any-append (λ (x : UnitId). nests k g x.0) ts (t ∷ [])
      ∙ ap (λ b. list_any (λ (x : UnitId). nests k g x.0) ts || b) (or_false (nests k g t.0))
      ∙ ap (λ b. b || nests k g t.0) (o.depth k l)
      ∙ ap (λ b. nat_lt k m.depth || b) (p.depth k l)
      ∙ below_max k m.depth n.depth;
  instances = λ k l d.
      ap (λ x. min x instances_end) (sum_by_push (λ (x : UnitId). count_in k g x.0) ts t)
      ∙ sum_capped (sum_by (λ (x : UnitId). count_in k g x.0) ts) (count_in k g t.0) instances_end m.instances n.instances (o.instances k l (left_max m.depth n.depth k d)) (p.instances k l
      (right_max m.depth n.depth k d));
  bits = λ k l d.
      ap (λ x. min x max_counted) (sum_by_push (λ (x : UnitId). bits_in k g x.0) ts t)
      ∙ sum_capped (sum_by (λ (x : UnitId). bits_in k g x.0) ts) (bits_in k g t.0) max_counted m.bits n.bits (o.bits k l (left_max m.depth n.depth k d)) (p.bits k l (right_max m.depth n.depth k d));
}

depth-around : (g : List HierarchyNode) (u : ℕ) (m : HierarchyMeasure) → IsSum g (targets_at g u) m → (k : ℕ) → suc k ≤ depth_end → nests k g u ≡ nat_lt k (min (1 + m.depth) depth_end)
depth-around g u m o zero l = first_below m.depth depth_end (omega arith)
depth-around g u m o (suc j) l = o.depth j (omega arith) ∙ next_below j m.depth depth_end l

instances-around : (g : List HierarchyNode) (u : ℕ) (m : HierarchyMeasure) → IsSum g (targets_at g u) m → (k : ℕ) → suc k ≤ depth_end → min (1 + m.depth) depth_end ≤ k
    → min (count_in k g u) instances_end ≡ min (1 + m.instances) instances_end
instances-around g u m o zero l d = absurd (none_at_zero m.depth depth_end (omega arith) d)
instances-around g u m o (suc j) l d = right_capped 1 (sum_by (λ (t : UnitId). count_in j g t.0) (targets_at g u)) instances_end m.instances
    (o.instances j (omega arith) (below_next j m.depth depth_end l d))

bits-around : (g : List HierarchyNode) (u : ℕ) (m : HierarchyMeasure) → IsSum g (targets_at g u) m → (k : ℕ) → suc k ≤ depth_end → min (1 + m.depth) depth_end ≤ k
    → min (bits_in k g u) max_counted ≡ min ((node_at g u).bits + m.bits) max_counted
bits-around g u m o zero l d = absurd (none_at_zero m.depth depth_end (omega arith) d)
bits-around g u m o (suc j) l d = right_capped (node_at g u).bits (sum_by (λ (t : UnitId). bits_in j g t.0) (targets_at g u)) max_counted m.bits
    (o.bits j (omega arith) (below_next j m.depth depth_end l d))

IsMeasure-around : (g : List HierarchyNode) (u : ℕ) (m : HierarchyMeasure) → IsSum g (targets_at g u) m → IsMeasure g u (around m (node_at g u))
IsMeasure-around g u m o = record { depth = depth-around g u m o; instances = instances-around g u m o; bits = bits-around g u m o }

IsMeasure-prop : (g : List HierarchyNode) (u : ℕ) (m : HierarchyMeasure) → IsProp (IsMeasure g u m)
IsMeasure-prop g u m = hlevel props

-- the measure of the search is the one of its depth and its counts
pub measure-is : (g : List HierarchyNode) (u : ℕ) (m : HierarchyMeasure) → descent.IsMeasure measuring g u m → IsMeasure g u m
measure-is g u m h = measure-holds measuring g (IsMeasure g) (IsSum g) (IsMeasure-prop g) (IsSum-none g) (IsSum-beside g) (IsMeasure-around g) u m h
