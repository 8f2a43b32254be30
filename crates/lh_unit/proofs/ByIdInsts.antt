-- What instructions and blocks name, by ids.
use Rattle.std.proofs.Common.{◌≡◌, ℕ, ◌-◌, ◌<◌, zero, suc, ◌||◌, nat_eq, List, [], ◌∷◌, ◌++◌, length, map, Option, Some, None, slice_get, refl, ap, sym, ◌∙◌, arith}
use Rattle.std.specs.List.{list_any}
use Rattle.std.proofs.lemmas.List.{map-append}
use Rattle.std.proofs.lemmas.Option.{slice_get-get_or, slice_get_within}
use Rattle.lh_types.specs.declared.op.Op.{Op}
use Rattle.lh_unit.specs.Contents.{EdgeText}
use Rattle.lh_unit_names.specs.Names.{same_name}
use Rattle.lh_unit.specs.Kinds.{Use, Need, used, all_used, maybe_used, trigger_uses, operation_uses, data_needed, time_needed, signal_needed, data_or_time_needed}
use Rattle.lh_unit.specs.WellFormed.{values_named, labels_named, units_named}
use Rattle.lh_unit.specs.Places.{leads_to, is_terminator, last_leads_to, has_edge}
use Rattle.lh_unit.specs.Table.{Table, is_block, line_at, no_line}
use Rattle.lh_unit.specs.Within.{Each}
use Rattle.lh_unit.specs.Naming.{Naming, inst_text, operand_text, trigger_text, edge_text, value_text, maybe_text, block_text}
use Rattle.lh_unit.specs.Arena.{Arena, IsArena, InstPlaced, naming, table_at, inst_at, unit_count, label_count, inst_count, label_name_at, block_insts_at, blocks_at}
use Rattle.lh_unit.specs.ById.{operand_ids, maybe_id, trigger_ids, values_used, blocks_led_to, blocks_named, unit_ids, ends_block, last_led_to, successors, inst_line_text}
use Rattle.lh_unit.specs.declared.inst.UnitId.{UnitId}
use Rattle.lh_unit.specs.declared.inst.BlockId.{BlockId}
use Rattle.lh_unit.specs.declared.inst.InstId.{InstId}
use Rattle.lh_unit.specs.declared.inst.ValueId.{ValueId}
use Rattle.lh_unit.specs.declared.inst.Typed.{Typed}
use Rattle.lh_unit.specs.declared.inst.RegTrigger.{RegTrigger}
use Rattle.lh_unit.specs.declared.inst.PhiEdge.{PhiEdge}
use Rattle.lh_unit.specs.declared.inst.Inst.{Inst}
use Rattle.lh_unit.specs.declared.inst.Inst.TheVariants as inst
use Rattle.lh_unit.proofs.Lists.{map-map}
use Rattle.lh_unit.proofs.ModuleLaws.{block_insts-within}
use Rattle.lh_unit.proofs.ById.{same_label-by_id}

-- the names of operands
named : List Use → List (List ℕ)
named us = map (λ (x : Use). x.value) us

module _ (f : Naming) where
  operands-named : (need : Need) (ts : List Typed) → map (λ (x : Use). x.value) (all_used need (map (operand_text f) ts)) ≡ map (value_text f) (operand_ids ts)
  operands-named need [] = refl
  operands-named need (t ∷ ts) = ap (λ l. value_text f t.value ∷ l) (operands-named need ts)

  maybe-named : (need : Need) (v : Option ValueId) → map (λ (x : Use). x.value) (maybe_used need (maybe_text f v)) ≡ map (value_text f) (maybe_id v)
  maybe-named need None = refl
  maybe-named need (Some v) = refl

  edges-named : (es : List PhiEdge) → map (λ (x : Use). x.value) (map (λ (e : EdgeText). used data_or_time_needed e.value) (map (edge_text f) es))
      ≡ map (value_text f) (map (λ (e : PhiEdge). e.value) es)
  edges-named [] = refl
  edges-named (e ∷ es) = ap (λ l. value_text f e.value ∷ l) (edges-named es)

  signals-named : (vs : List ValueId) → map (λ (x : Use). x.value) (map (used signal_needed) (map (value_text f) vs)) ≡ map (value_text f) vs
  signals-named [] = refl
  signals-named (v ∷ vs) = ap (λ l. value_text f v ∷ l) (signals-named vs)

  triggers-named : (gs : List RegTrigger) → map (λ (x : Use). x.value) (trigger_uses (map (trigger_text f) gs)) ≡ map (value_text f) (trigger_ids gs)
  triggers-named [] = refl
  triggers-named (g ∷ gs) =
      let first : map (λ (x : Use). x.value) (maybe_used data_needed (maybe_text f g.gate) ++ maybe_used time_needed (maybe_text f g.after))
      ≡ map (value_text f) (maybe_id g.gate ++ maybe_id g.after) =
      map-append (λ (x : Use). x.value) (maybe_used data_needed (maybe_text f g.gate)) (maybe_used time_needed (maybe_text f g.after))
      ∙ (λ i. maybe-named data_needed g.gate i ++ maybe-named time_needed g.after i)
      ∙ sym (map-append (value_text f) (maybe_id g.gate) (maybe_id g.after)) in
      let later : map (λ (x : Use). x.value) (trigger_uses (map (trigger_text f) gs)) ≡ map (value_text f) (trigger_ids gs) = triggers-named gs in
      ap (λ l. value_text f g.value ∷ value_text f g.trigger ∷ l)
      (map-append (λ (x : Use). x.value) (maybe_used data_needed (maybe_text f g.gate) ++ maybe_used time_needed (maybe_text f g.after)) (trigger_uses (map (trigger_text f) gs))
      ∙ (λ i. first i ++ later i)
      ∙ sym (map-append (value_text f) (maybe_id g.gate ++ maybe_id g.after) (trigger_ids gs)))

  operation-named : (o : Op) (ts : List Typed) → map (λ (x : Use). x.value) (operation_uses o (map (operand_text f) ts)) ≡ map (value_text f) (operand_ids ts)
  operation-named o ts = operands-named _ ts

  -- the values that an instruction names
  pub values_named-by_id : (i : Inst) → values_named (inst_text f i) ≡ map (value_text f) (values_used i)
  values_named-by_id (inst.Const d) = refl
  values_named-by_id (inst.Pure o args) = operation-named o args
  values_named-by_id (inst.Var t) = refl
  values_named-by_id (inst.Ld t) = refl
  values_named-by_id (inst.St to value) = refl
  values_named-by_id (inst.Sig t) = refl
  values_named-by_id (inst.Prb t) = refl
  values_named-by_id (inst.Drv to value after cond) = ap (λ l. value_text f to.value ∷ value_text f value ∷ value_text f after ∷ l) (maybe-named data_needed cond)
  values_named-by_id (inst.Reg to triggers) = ap (λ l. value_text f to.value ∷ l) (triggers-named triggers)
  values_named-by_id (inst.Child unit inputs outputs) =
      map-append (λ (x : Use). x.value) (all_used signal_needed (map (operand_text f) inputs)) (all_used signal_needed (map (operand_text f) outputs))
      ∙ (λ i. operands-named signal_needed inputs i ++ operands-named signal_needed outputs i)
      ∙ sym (map-append (value_text f) (operand_ids inputs) (operand_ids outputs))
  values_named-by_id (inst.Call unit result args) = operands-named data_or_time_needed args
  values_named-by_id (inst.Phi ty edges) = edges-named edges
  values_named-by_id (inst.Br to) = refl
  values_named-by_id (inst.Branch cond first second) = refl
  values_named-by_id (inst.Wait to after signals) =
      map-append (λ (x : Use). x.value) (maybe_used time_needed (maybe_text f after)) (map (used signal_needed) (map (value_text f) signals))
      ∙ (λ i. maybe-named time_needed after i ++ signals-named signals i)
      ∙ sym (map-append (value_text f) (maybe_id after) signals)
  values_named-by_id inst.Halt = refl
  values_named-by_id (inst.Ret None) = refl
  values_named-by_id (inst.Ret (Some t)) = refl

  -- the labels to which it may lead
  pub leads_to-by_id : (i : Inst) → leads_to (inst_text f i) ≡ map (λ (b : BlockId). f.label_name b.0) (blocks_led_to i)
  leads_to-by_id (inst.Br to) = refl
  leads_to-by_id (inst.Branch cond first second) = refl
  leads_to-by_id (inst.Wait to after signals) = refl
  leads_to-by_id (inst.Ret None) = refl
  leads_to-by_id (inst.Ret (Some t)) = refl
  leads_to-by_id _ = refl

  -- the labels that it names
  pub labels_named-by_id : (i : Inst) → labels_named (inst_text f i) ≡ map (λ (b : BlockId). f.label_name b.0) (blocks_named i)
  labels_named-by_id (inst.Phi ty edges) = map-map (λ (e : EdgeText). e.block) (edge_text f) edges ∙ sym (map-map (λ (b : BlockId). f.label_name b.0) (λ (e : PhiEdge). e.block) edges)
  labels_named-by_id (inst.Br to) = refl
  labels_named-by_id (inst.Branch cond first second) = refl
  labels_named-by_id (inst.Wait to after signals) = refl
  labels_named-by_id (inst.Ret None) = refl
  labels_named-by_id (inst.Ret (Some t)) = refl
  labels_named-by_id _ = refl

  -- the units that it names
  pub units_named-by_id : (i : Inst) → units_named (inst_text f i) ≡ map (λ (v : UnitId). f.unit_name v.0) (unit_ids i)
  units_named-by_id (inst.Child unit inputs outputs) = refl
  units_named-by_id (inst.Call unit result args) = refl
  units_named-by_id (inst.Ret None) = refl
  units_named-by_id (inst.Ret (Some t)) = refl
  units_named-by_id _ = refl

  -- whether it ends a block
  pub is_terminator-by_id : (i : Inst) → is_terminator (inst_text f i) ≡ ends_block i
  is_terminator-by_id (inst.Ret None) = refl
  is_terminator-by_id (inst.Ret (Some t)) = refl
  is_terminator-by_id (inst.Br to) = refl
  is_terminator-by_id (inst.Branch cond first second) = refl
  is_terminator-by_id (inst.Wait to after signals) = refl
  is_terminator-by_id inst.Halt = refl
  is_terminator-by_id _ = refl

  -- the labels that the last of these instructions names
  pub last_leads_to-by_id : (t : Table) (is : List InstId) → last_leads_to (map (inst_line_text f t) is) ≡ map (λ (b : BlockId). f.label_name b.0) (last_led_to t is)
  last_leads_to-by_id t [] = refl
  last_leads_to-by_id t (i ∷ []) = leads_to-by_id (line_at t i.0).inst
  last_leads_to-by_id t (i ∷ j ∷ is) = last_leads_to-by_id t (j ∷ is)

-- the blocks to which an instruction that is in place leads have entries
pub led_to-within : (a : Arena) (u : ℕ) (i : Inst) → InstPlaced a u i → Each (λ (b : BlockId). b.0 < label_count a u) (blocks_led_to i)
led_to-within a u (inst.Br to) w = (w, tt)
led_to-within a u (inst.Branch cond first second) w = (w.1, (w.2, tt))
led_to-within a u (inst.Wait to after signals) w = (w.0, tt)
led_to-within a u _ w = tt

pub last_led_to-within : (a : Arena) (u : ℕ) (is : List InstId) → IsArena a → Each (λ (i : InstId). i.0 < inst_count a u) is
    → Each (λ (b : BlockId). b.0 < label_count a u) (last_led_to (table_at a u) is)
last_led_to-within a u [] o w = tt
last_led_to-within a u (i ∷ []) o w = led_to-within a u (inst_at a u i.0) (o.placed u i.0 (line_at (table_at a u) i.0) (slice_get-get_or (table_at a u).lines i.0 no_line w.0))
last_led_to-within a u (i ∷ j ∷ is) o w = last_led_to-within a u (j ∷ is) o w.1

-- the last instruction says where its block leads
last-of : (t : Table) (is : List InstId) (n : ℕ) (x : InstId) → suc n ≡ length is → slice_get is n ≡ Some x → blocks_led_to (line_at t x.0).inst ≡ last_led_to t is
last-of t [] n x l e = cc
last-of t (i ∷ []) zero x l e = let q : i ≡ x = cc in ap (λ (z : InstId). blocks_led_to (line_at t z.0).inst) (sym q)
last-of t (i ∷ []) (suc n) x l e = absurd (omega arith)
last-of t (i ∷ j ∷ is) zero x l e = absurd (omega arith)
last-of t (i ∷ j ∷ is) (suc n) x l e = last-of t (j ∷ is) n x (omega arith) e

pub last-led : (t : Table) (is : List InstId) (x : InstId) → slice_get is (length is - 1) ≡ Some x → blocks_led_to (line_at t x.0).inst ≡ last_led_to t is
last-led t is x e = last-of t is (length is - 1) x (omega (arith, slice_get_within is (length is - 1) x e)) e

module _ (a : Arena) (u : ℕ) (o : IsArena a) (h : u < unit_count a) where
  among-labels : (bs : List BlockId) (c : ℕ) → c < label_count a u → Each (λ (b : BlockId). b.0 < label_count a u) bs
      → list_any (λ m. same_name m (label_name_at a u c)) (map (λ (b : BlockId). label_name_at a u b.0) bs) ≡ is_block bs c
  among-labels [] c p w = refl
  among-labels (b ∷ bs) c p w =
      let q : same_name (label_name_at a u b.0) (label_name_at a u c) ≡ nat_eq b.0 c = same_label-by_id a u o h b.0 c w.0 p in
      let r : list_any (λ m. same_name m (label_name_at a u c)) (map (λ (x : BlockId). label_name_at a u x.0) bs) ≡ is_block bs c = among-labels bs c p w.1 in λ i. q i || r i

  -- the blocks to which a block of the unit has an edge
  pub successors-within : (j : ℕ) (b : BlockId) → slice_get (blocks_at a u) j ≡ Some b → Each (λ (x : BlockId). x.0 < label_count a u) (successors (table_at a u) b)
  successors-within j b p = last_led_to-within a u (block_insts_at a u b.0) o (block_insts-within a u j b o h p)

  pub has_edge-by_id : (j : ℕ) (b : BlockId) (c : ℕ) → slice_get (blocks_at a u) j ≡ Some b → c < label_count a u → has_edge (block_text (naming a u) (table_at a u) b) (label_name_at a u c)
      ≡ is_block (successors (table_at a u) b) c
  has_edge-by_id j b c p q =
      ap (list_any (λ m. same_name m (label_name_at a u c))) (last_leads_to-by_id (naming a u) (table_at a u) (block_insts_at a u b.0))
      ∙ among-labels (successors (table_at a u) b) c q (successors-within j b p)
