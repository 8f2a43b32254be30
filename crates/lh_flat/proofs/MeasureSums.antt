-- The measure of copies beside each other, and of a copy with others in it.
use Rattle.std.proofs.Common.{◌≡◌, ℕ, zero, suc, ◌+◌, ◌≤◌, min, ◌||◌, nat_lt, Bool, true, List, [], ◌∷◌, ◌++◌, sum_by, ap, ◌∙◌, arith}
use Rattle.std.proofs.Props.{props}
use Rattle.std.specs.List.{list_any}
use Rattle.std.proofs.lemmas.List.Folds.{list_any-append}
use Rattle.std.proofs.lemmas.List.Sums.{sum_by_push}
use Rattle.lh_unit.specs.declared.inst.UnitId.{UnitId}
use Rattle.lh_unit.proofs.Lists.{or_false}
use Rattle.lh_unit_graph.specs.Measures as descent
use Rattle.lh_unit_graph.proofs.MeasureSums.{measure-holds}
use Rattle.lh_verify_laws.proofs.Capped.{not_below_zero, zero_capped, below_max, sum_capped, left_max, right_max, first_below, next_below, none_at_zero, below_next, right_capped}
use Rattle.lh_flat.specs.declared.calls.CallNode.{CallNode}
use Rattle.lh_flat.specs.declared.measure.CallMeasure.{CallMeasure}
use Rattle.lh_flat.specs.Graph.{node_at, callees_at, max_counted}
use Rattle.lh_flat.specs.Measures.{nothing, beside, around, measuring}

-- more than `limit` units nest from the unit n down
abbrev pub nests : (limit : ℕ) → List CallNode → ℕ → Bool
nests zero g n = true
nests (suc k) g n = list_any (λ (t : UnitId). nests k g t.0) (callees_at g n)

-- how many instructions the copies have from the unit n down, to this depth
abbrev pub insts_in : (depth : ℕ) → List CallNode → ℕ → ℕ
insts_in zero g n = 0
insts_in (suc k) g n = (node_at g n).insts + sum_by (λ (t : UnitId). insts_in k g t.0) (callees_at g n)

-- how many blocks they have
abbrev pub blocks_in : (depth : ℕ) → List CallNode → ℕ → ℕ
blocks_in zero g n = 0
blocks_in (suc k) g n = (node_at g n).blocks + sum_by (λ (t : UnitId). blocks_in k g t.0) (callees_at g n)

-- the measure of a copy of the unit n; a number that stands at its end is a count that is as large at least
pub record IsMeasure (g : List CallNode) (n : ℕ) (m : CallMeasure) : Type 0 where
  pub depth : (k : ℕ) → suc k ≤ max_counted → nests k g n ≡ nat_lt k m.depth
  pub insts : (k : ℕ) → suc k ≤ max_counted → m.depth ≤ k → min (insts_in k g n) max_counted ≡ m.insts
  pub blocks : (k : ℕ) → suc k ≤ max_counted → m.depth ≤ k → min (blocks_in k g n) max_counted ≡ m.blocks

-- copies of these units beside each other
record IsSum (g : List CallNode) (ts : List UnitId) (m : CallMeasure) : Type 0 where
  pub depth : (k : ℕ) → suc k ≤ max_counted → list_any (λ (t : UnitId). nests k g t.0) ts ≡ nat_lt k m.depth
  pub insts : (k : ℕ) → suc k ≤ max_counted → m.depth ≤ k → min (sum_by (λ (t : UnitId). insts_in k g t.0) ts) max_counted ≡ m.insts
  pub blocks : (k : ℕ) → suc k ≤ max_counted → m.depth ≤ k → min (sum_by (λ (t : UnitId). blocks_in k g t.0) ts) max_counted ≡ m.blocks

IsSum-none : (g : List CallNode) → IsSum g [] nothing
IsSum-none g = record { depth = λ k l. not_below_zero k; insts = λ k l d. zero_capped max_counted; blocks = λ k l d. zero_capped max_counted }

IsSum-beside : (g : List CallNode) (ts : List UnitId) (t : UnitId) (m n : CallMeasure) → IsSum g ts m → IsMeasure g t.0 n → IsSum g (ts ++ t ∷ []) (beside m n)
IsSum-beside g ts t m n o p = record {
  depth = λ k l.
      list_any-append (λ (x : UnitId). nests k g x.0) ts (t ∷ [])
      ∙ ap (λ b. list_any (λ (x : UnitId). nests k g x.0) ts || b) (or_false (nests k g t.0))
      ∙ ap (λ b. b || nests k g t.0) (o.depth k l)
      ∙ ap (λ b. nat_lt k m.depth || b) (p.depth k l)
      ∙ below_max k m.depth n.depth;
  insts = λ k l d.
      ap (λ x. min x max_counted) (sum_by_push (λ (x : UnitId). insts_in k g x.0) ts t)
      ∙ sum_capped (sum_by (λ (x : UnitId). insts_in k g x.0) ts) (insts_in k g t.0) max_counted m.insts n.insts (o.insts k l (left_max m.depth n.depth k d)) (p.insts k l
      (right_max m.depth n.depth k d));
  blocks = λ k l d.
      ap (λ x. min x max_counted) (sum_by_push (λ (x : UnitId). blocks_in k g x.0) ts t)
      ∙ sum_capped (sum_by (λ (x : UnitId). blocks_in k g x.0) ts) (blocks_in k g t.0) max_counted m.blocks n.blocks (o.blocks k l (left_max m.depth n.depth k d)) (p.blocks k l
      (right_max m.depth n.depth k d));
}

depth-around : (g : List CallNode) (u : ℕ) (m : CallMeasure) → IsSum g (callees_at g u) m → (k : ℕ) → suc k ≤ max_counted → nests k g u ≡ nat_lt k (min (1 + m.depth) max_counted)
depth-around g u m o zero l = first_below m.depth max_counted (omega arith)
depth-around g u m o (suc j) l = o.depth j (omega arith) ∙ next_below j m.depth max_counted l

insts-around : (g : List CallNode) (u : ℕ) (m : CallMeasure) → IsSum g (callees_at g u) m → (k : ℕ) → suc k ≤ max_counted → min (1 + m.depth) max_counted ≤ k
    → min (insts_in k g u) max_counted ≡ min ((node_at g u).insts + m.insts) max_counted
insts-around g u m o zero l d = absurd (none_at_zero m.depth max_counted (omega arith) d)
insts-around g u m o (suc j) l d = right_capped (node_at g u).insts (sum_by (λ (t : UnitId). insts_in j g t.0) (callees_at g u)) max_counted m.insts
    (o.insts j (omega arith) (below_next j m.depth max_counted l d))

blocks-around : (g : List CallNode) (u : ℕ) (m : CallMeasure) → IsSum g (callees_at g u) m → (k : ℕ) → suc k ≤ max_counted → min (1 + m.depth) max_counted ≤ k
    → min (blocks_in k g u) max_counted ≡ min ((node_at g u).blocks + m.blocks) max_counted
blocks-around g u m o zero l d = absurd (none_at_zero m.depth max_counted (omega arith) d)
blocks-around g u m o (suc j) l d = right_capped (node_at g u).blocks (sum_by (λ (t : UnitId). blocks_in j g t.0) (callees_at g u)) max_counted m.blocks
    (o.blocks j (omega arith) (below_next j m.depth max_counted l d))

IsMeasure-around : (g : List CallNode) (u : ℕ) (m : CallMeasure) → IsSum g (callees_at g u) m → IsMeasure g u (around m (node_at g u))
IsMeasure-around g u m o = record { depth = depth-around g u m o; insts = insts-around g u m o; blocks = blocks-around g u m o }

IsMeasure-prop : (g : List CallNode) (u : ℕ) (m : CallMeasure) → IsProp (IsMeasure g u m)
IsMeasure-prop g u m = hlevel props

-- the measure of the search is the one of its depth and its counts
pub measure-is : (g : List CallNode) (u : ℕ) (m : CallMeasure) → descent.IsMeasure measuring g u m → IsMeasure g u m
measure-is g u m h = measure-holds measuring g (IsMeasure g) (IsSum g) (IsMeasure-prop g) (IsSum-none g) (IsSum-beside g) (IsMeasure-around g) u m h
