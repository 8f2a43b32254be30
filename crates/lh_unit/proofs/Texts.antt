-- The text of a unit depends only on the names of the ids that it holds.
use Rattle.std.proofs.Common.{◌≡◌, ℕ, ◌+◌, ◌<◌, ◌≤◌, zero, suc, List, [], ◌∷◌, length, map, Option, Some, None, slice_get, refl, ap, sym, ◌∙◌, subst, arith}
use Rattle.lh_unit.specs.Contents.{pure_text, var_text, ld_text, st_text, sig_text, prb_text, drv_text, reg_text, child_text, call_text, phi_text, br_text, branch_text, wait_text, ret_text}
use Rattle.lh_unit.specs.Table.{Table, IsTable, FitsKind, ArgsWithin, ResultWithin, ResultsWithin, line_at, no_line, insts_at, ids_from}
use Rattle.lh_unit.specs.Within.{Sizes, sizes_of, Each, ValueWithin, MaybeWithin, OperandWithin, TriggerWithin, EdgeWithin, InstWithin}
use Rattle.lh_unit.specs.Naming.{Naming, value_text, maybe_text, operand_text, trigger_text, edge_text, inst_text, line_text, arg_text, label_text, block_text, kind_text, table_text}
use Rattle.lh_unit_names.specs.declared.name.UnitName.{UnitName}
use Rattle.lh_unit.specs.declared.inst.UnitKind.{UnitKind}
use Rattle.lh_unit.specs.declared.inst.UnitKind.TheVariants as kind
use Rattle.lh_unit.specs.declared.inst.BlockId.{BlockId}
use Rattle.lh_unit.specs.declared.inst.InstId.{InstId}
use Rattle.lh_unit.specs.declared.inst.ValueId.{ValueId}
use Rattle.lh_unit.specs.declared.inst.Typed.{Typed}
use Rattle.lh_unit.specs.declared.inst.RegTrigger.{RegTrigger}
use Rattle.lh_unit.specs.declared.inst.PhiEdge.{PhiEdge}
use Rattle.lh_unit.specs.declared.inst.Inst.{Inst}
use Rattle.lh_unit.specs.declared.inst.Inst.TheVariants as inst
use Rattle.lh_unit.specs.declared.inst.Arg.{Arg}
use Rattle.lh_unit.specs.declared.table.TableLine.{TableLine}
use Rattle.std.proofs.lemmas.Option.{slice_get-get_or}
use Rattle.lh_unit.proofs.Lists.{map-each, map-same, Each-part}
use Rattle.lh_unit.proofs.Tables.{BlocksWithin-at}

-- two namings that agree on all ids within the sizes
pub record Agree (s : Sizes) (f g : Naming) : Type 0 where
  pub units : (k : ℕ) → k < s.units → f.unit_name k ≡ g.unit_name k
  pub values : (k : ℕ) → k < s.values → f.value_name k ≡ g.value_name k
  pub labels : (k : ℕ) → k < s.labels → f.label_name k ≡ g.label_name k

module _ (s : Sizes) (f g : Naming) (e : Agree s f g) where
  pub value-same : (v : ValueId) → ValueWithin s v → value_text f v ≡ value_text g v
  value-same v h = e.values v.0 h

  pub maybe-same : (v : Option ValueId) → MaybeWithin s v → maybe_text f v ≡ maybe_text g v
  maybe-same None h = refl
  maybe-same (Some v) h = ap Some (value-same v h)

  pub operand-same : (t : Typed) → OperandWithin s t → operand_text f t ≡ operand_text g t
  operand-same t h = let p : value_text f t.value ≡ value_text g t.value = value-same t.value h in λ i. record { value = p i; ty = t.ty }

  pub trigger-same : (t : RegTrigger) → TriggerWithin s t → trigger_text f t ≡ trigger_text g t
  trigger-same t h =
      let p : value_text f t.value ≡ value_text g t.value = value-same t.value h.0 in
      let q : value_text f t.trigger ≡ value_text g t.trigger = value-same t.trigger h.1 in
      let r : maybe_text f t.gate ≡ maybe_text g t.gate = maybe-same t.gate h.2 in
      let d : maybe_text f t.after ≡ maybe_text g t.after = maybe-same t.after h.3 in
      λ i. record { value = p i; mode = t.mode; trigger = q i; gate = r i; after = d i }

  pub edge-same : (x : PhiEdge) → EdgeWithin s x → edge_text f x ≡ edge_text g x
  edge-same x h =
      let p : value_text f x.value ≡ value_text g x.value = value-same x.value h.0 in
      let q : f.label_name x.block.0 ≡ g.label_name x.block.0 = e.labels x.block.0 h.1 in
      λ i. record { value = p i; block = q i }

  pub operands-same : (ts : List Typed) → Each (OperandWithin s) ts → map (operand_text f) ts ≡ map (operand_text g) ts
  operands-same ts h = map-each (OperandWithin s) (operand_text f) (operand_text g) ts operand-same h

  pub inst-same : (i : Inst) → InstWithin s i → inst_text f i ≡ inst_text g i
  inst-same (inst.Const v) h = refl
  inst-same (inst.Pure op args) h = ap (pure_text op) (operands-same args h)
  inst-same (inst.Var t) h = ap var_text (operand-same t h)
  inst-same (inst.Ld t) h = ap ld_text (operand-same t h)
  inst-same (inst.St to v) h =
      let p : operand_text f to ≡ operand_text g to = operand-same to h.0 in
      let q : value_text f v ≡ value_text g v = value-same v h.1 in λ i. st_text (p i) (q i)
  inst-same (inst.Sig t) h = ap sig_text (operand-same t h)
  inst-same (inst.Prb t) h = ap prb_text (operand-same t h)
  inst-same (inst.Drv to v after cond) h =
      let p : operand_text f to ≡ operand_text g to = operand-same to h.0 in
      let q : value_text f v ≡ value_text g v = value-same v h.1 in
      let r : value_text f after ≡ value_text g after = value-same after h.2 in
      let d : maybe_text f cond ≡ maybe_text g cond = maybe-same cond h.3 in λ i. drv_text (p i) (q i) (r i) (d i)
  inst-same (inst.Reg to triggers) h =
      let p : operand_text f to ≡ operand_text g to = operand-same to h.0 in
      let q : map (trigger_text f) triggers ≡ map (trigger_text g) triggers = map-each (TriggerWithin s) (trigger_text f) (trigger_text g) triggers trigger-same h.1 in λ i. reg_text (p i) (q i)
  inst-same (inst.Child unit inputs outputs) h =
      let p : f.unit_name unit.0 ≡ g.unit_name unit.0 = e.units unit.0 h.0 in
      let q : map (operand_text f) inputs ≡ map (operand_text g) inputs = operands-same inputs h.1 in
      let r : map (operand_text f) outputs ≡ map (operand_text g) outputs = operands-same outputs h.2 in λ i. child_text (p i) (q i) (r i)
  inst-same (inst.Call unit result args) h =
      let p : f.unit_name unit.0 ≡ g.unit_name unit.0 = e.units unit.0 h.0 in
      let q : map (operand_text f) args ≡ map (operand_text g) args = operands-same args h.1 in λ i. call_text (p i) result (q i)
  inst-same (inst.Phi ty edges) h = ap (phi_text ty) (map-each (EdgeWithin s) (edge_text f) (edge_text g) edges edge-same h)
  inst-same (inst.Br to) h = ap br_text (e.labels to.0 h)
  inst-same (inst.Branch cond left right) h =
      let p : value_text f cond ≡ value_text g cond = value-same cond h.0 in
      let q : f.label_name left.0 ≡ g.label_name left.0 = e.labels left.0 h.1 in
      let r : f.label_name right.0 ≡ g.label_name right.0 = e.labels right.0 h.2 in λ i. branch_text (p i) (q i) (r i)
  inst-same (inst.Wait to after signals) h =
      let p : f.label_name to.0 ≡ g.label_name to.0 = e.labels to.0 h.0 in
      let q : maybe_text f after ≡ maybe_text g after = maybe-same after h.1 in
      let r : map (value_text f) signals ≡ map (value_text g) signals = map-each (ValueWithin s) (value_text f) (value_text g) signals value-same h.2 in λ i. wait_text (p i) (q i) (r i)
  inst-same inst.Halt h = refl
  inst-same (inst.Ret None) h = refl
  inst-same (inst.Ret (Some t)) h = ap (λ x. ret_text (Some x)) (operand-same t h)

  -- the parts of a unit
  args-same : (xs : List Arg) → ArgsWithin s.values xs → map (arg_text f) xs ≡ map (arg_text g) xs
  args-same [] h = refl
  args-same (a ∷ xs) h =
      let p : value_text f a.value ≡ value_text g a.value = value-same a.value h.0 in
      let r : map (arg_text f) xs ≡ map (arg_text g) xs = args-same xs h.1 in
      λ i. record { name = p i; ty = a.ty; output = a.output } ∷ r i

  result_within : (ls : List TableLine) (i : ℕ) (l : TableLine) → slice_get ls i ≡ Some l → ResultsWithin s.values ls → ResultWithin s.values l.result
  result_within [] i l p w = cc
  result_within (x ∷ ls) zero l p w = let q : x ≡ l = cc in subst (λ (y : TableLine). ResultWithin s.values y.result) q w.0
  result_within (x ∷ ls) (suc i) l p w = result_within ls i l p w.1

  maybe-of : (r : Option ValueId) → ResultWithin s.values r → MaybeWithin s r
  maybe-of None h = tt
  maybe-of (Some v) h = h

  line-same : (t : Table) (i : ℕ) → i < length t.lines → ResultsWithin s.values t.lines → ((k : ℕ) (l : TableLine) → slice_get t.lines k ≡ Some l → InstWithin s l.inst)
      → line_text f (line_at t i) ≡ line_text g (line_at t i)
  line-same t i h w p =
      let q : slice_get t.lines i ≡ Some (line_at t i) = slice_get-get_or t.lines i no_line h in
      let r : maybe_text f (line_at t i).result ≡ maybe_text g (line_at t i).result = maybe-same (line_at t i).result (maybe-of (line_at t i).result (result_within t.lines i (line_at t i) q w)) in
      let n : inst_text f (line_at t i).inst ≡ inst_text g (line_at t i).inst = inst-same (line_at t i).inst (p i (line_at t i) q) in
      λ j. record { result = r j; inst = n j }

-- the ids of the instructions are within
pub ids-within : (n k : ℕ) (ls : List TableLine) → k + length ls ≤ n → Each (λ (i : InstId). i.0 < n) (ids_from k ls)
ids-within n k [] h = tt
ids-within n k (l ∷ ls) h = (omega arith, ids-within n (k + 1) ls (omega arith))

pub insts-within : (t : Table) → IsTable t → (j : ℕ) (b : BlockId) → slice_get t.blocks j ≡ Some b → Each (λ i. i.0 < length t.lines) (insts_at t b.0)
insts-within t o j b p = Each-part (λ (i : InstId). i.0 < length t.lines) (λ (x : BlockId). insts_at t x.0) t.blocks j b p
    (subst (Each (λ (i : InstId). i.0 < length t.lines)) (sym o.in_order) (ids-within (length t.lines) 0 t.lines (omega arith)))

-- the label of a block of the unit
label-same : (s : Sizes) (f g : Naming) → Agree s f g → (k : Option UnitKind) (t : Table) → s.labels ≡ length t.labels → FitsKind k t → (j : ℕ) (b : BlockId) → slice_get t.blocks j ≡ Some b
    → label_text f k b ≡ label_text g k b
label-same s f g e None t n w j b p = let z : slice_get [] j ≡ Some b = ap (λ bs. slice_get bs j) (sym w.2) ∙ p in cc
label-same s f g e (Some kind.Func) t n w j b p = ap Some (e.labels b.0 (omega (arith, n, BlocksWithin-at (length t.labels) t.blocks j b p w.1)))
label-same s f g e (Some kind.Proc) t n w j b p = ap Some (e.labels b.0 (omega (arith, n, BlocksWithin-at (length t.labels) t.blocks j b p w.1)))
label-same s f g e (Some kind.Entity) t n w j b p = refl

-- the text of a unit under two namings
pub table_text-same : (n : ℕ) (f g : Naming) (name : UnitName) (t : Table) → Agree (sizes_of n t) f g → IsTable t
    → ((k : ℕ) (l : TableLine) → slice_get t.lines k ≡ Some l → InstWithin (sizes_of n t) l.inst) → table_text f name t ≡ table_text g name t
table_text-same n f g name t e o p =
    let xs : map (arg_text f) t.args ≡ map (arg_text g) t.args = args-same (sizes_of n t) f g e t.args o.args_within in
    let bs : map (block_text f t) t.blocks ≡ map (block_text g t) t.blocks = map-same (block_text f t) (block_text g t) t.blocks block in
    λ i. record { kind = kind_text t.kind; name = name; args = xs i; result = t.result; blocks = bs i }
  where
    block : (j : ℕ) (b : BlockId) → slice_get t.blocks j ≡ Some b → block_text f t b ≡ block_text g t b
    block j b q =
        let l : label_text f t.kind b ≡ label_text g t.kind b = label-same (sizes_of n t) f g e t.kind t refl o.fits_kind j b q in
        let ls : map (λ i. line_text f (line_at t i.0)) (insts_at t b.0) ≡ map (λ i. line_text g (line_at t i.0)) (insts_at t b.0) =
        map-each (λ (i : InstId). i.0 < length t.lines) (λ i. line_text f (line_at t i.0)) (λ i. line_text g (line_at t i.0)) (insts_at t b.0)
        (λ i h. line-same (sizes_of n t) f g e t i.0 h o.results_within p) (insts-within t o j b q) in
        λ i. record { label = l i; lines = ls i }
