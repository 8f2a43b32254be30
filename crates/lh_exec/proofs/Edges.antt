-- Edges from block to block, by ids and by names.
use Rattle.std.proofs.Common.{◌≡◌, ℕ, ◌<◌, nat_eq, List, [], ◌∷◌, map, reverse, Bool, true, false, if◌then◌else◌, Option, Some, None, refl, ap, sym, ◌∙◌, subst, arith}
use Rattle.std.specs.Option.{option_and_then, option_map}
use Rattle.std.proofs.lemmas.Option.{same_Some, none-some, slice_get-get_or}
use Rattle.lh_types.specs.Values.{Datum}
use Rattle.lh_unit.specs.Contents.{BlockText, UnitText}
use Rattle.lh_unit.specs.Named.{block_of}
use Rattle.lh_unit.specs.Activation.{Control, Point, jumps, entered, edge_from, result_put, phi_taken, phis_taken}
use Rattle.lh_unit.specs.Arena.{Arena, IsArena, InstPlaced, naming, sizes, table_at, blocks_at, block_insts_at, unit_count, value_count, inst_count, label_count, label_name_at}
use Rattle.lh_unit.specs.Held.{Held, Env, datum_held, datum_at}
use Rattle.lh_unit.specs.Table.{ResultWithin, is_block, line_at, no_line}
use Rattle.lh_unit.specs.ById.{inst_line_text}
use Rattle.lh_unit.specs.Naming.{value_text, maybe_text, edge_text, inst_text, block_text}
use Rattle.lh_unit.specs.Within.{Each, EdgeWithin}
use Rattle.lh_unit.specs.declared.inst.BlockId.{BlockId}
use Rattle.lh_unit.specs.declared.inst.InstId.{InstId}
use Rattle.lh_unit.specs.declared.inst.ValueId.{ValueId}
use Rattle.lh_unit.specs.declared.inst.PhiEdge.{PhiEdge}
use Rattle.lh_unit.specs.declared.inst.Inst.{Inst}
use Rattle.lh_unit.specs.declared.inst.Inst.TheVariants as inst
use Rattle.lh_unit.proofs.ById.{same_label-by_id, block_of-by_id, result-within, is_block-index}
use Rattle.lh_unit.proofs.ModuleLaws.{block_insts-within}
use Rattle.lh_eval.specs.Holding.{Holds, datum_in}
use Rattle.lh_eval.proofs.HeldByIds.{same-held, holds-more}
use Rattle.lh_exec.specs.declared.machine.UnitFrame.{UnitFrame}
use Rattle.lh_exec.specs.declared.machine.Machine.{Machine}
use Rattle.lh_exec.specs.declared.machine.Flow.TheVariants as flow
use Rattle.lh_exec.specs.declared.machine.Call.{Call}
use Rattle.lh_exec.specs.Standing.{FrameIs, CallsAre, MachineIs, InstLeads}
use Rattle.lh_exec.proofs.KeepsFit.{at-block}
use Rattle.lh_exec.specs.Taking.{edge_in, in_front, one_taken, all_taken, put_all}

-- ---- the instructions of a block that stands in the unit

pub insts-within : (a : Arena) (u : ℕ) (b : BlockId) → IsArena a → u < unit_count a → is_block (blocks_at a u) b.0 ≡ true → Each (λ (i : InstId). i.0 < inst_count a u) (block_insts_at a u b.0)
insts-within a u b o h e = let j = is_block-index (blocks_at a u) b.0 e in block_insts-within a u j.0 b o h j.1

-- ---- the names of what is taken

module _ (a : Arena) (u : ℕ) (o : IsArena a) (h : u < unit_count a) (from : BlockId) (slots : List (Option Held)) where
  front-names : (r : Option ValueId) (d : Option Datum) (more : Option (List (ValueId × Datum))) (xs : List (ValueId × Datum)) → ResultWithin (value_count a u) r
      → ((ys : List (ValueId × Datum)) → more ≡ Some ys → Each (λ (x : ValueId × Datum). x.0.0 < value_count a u) ys) → in_front r d more ≡ Some xs
      → Each (λ (x : ValueId × Datum). x.0.0 < value_count a u) xs
  front-names None None more xs w go e = absurd (none-some xs e)
  front-names (Some n) None more xs w go e = absurd (none-some xs e)
  front-names None (Some d) more xs w go e = go xs e
  front-names (Some n) (Some d) None xs w go e = absurd (none-some xs e)
  front-names (Some n) (Some d) (Some ys) xs w go e = subst (Each (λ (x : ValueId × Datum). x.0.0 < value_count a u)) (same_Some ((n, d) ∷ ys) xs e) (w, go ys refl)

  one-names : (i : Inst) (r : Option ValueId) (more : Option (List (ValueId × Datum))) (xs : List (ValueId × Datum)) → ResultWithin (value_count a u) r
      → ((ys : List (ValueId × Datum)) → more ≡ Some ys → Each (λ (x : ValueId × Datum). x.0.0 < value_count a u) ys) → one_taken from slots i r more ≡ Some xs
      → Each (λ (x : ValueId × Datum). x.0.0 < value_count a u) xs
  one-names (inst.Phi ty es) r more xs w go e = front-names r (option_and_then (datum_in slots) (edge_in from es)) more xs w go e
  one-names _ r more xs w go e = go xs e

  -- what is taken is named by values of the unit
  pub taken-names : (is : List InstId) (xs : List (ValueId × Datum)) → all_taken from slots (table_at a u) is ≡ Some xs → Each (λ (x : ValueId × Datum). x.0.0 < value_count a u) xs
  taken-names [] xs e = subst (Each (λ (x : ValueId × Datum). x.0.0 < value_count a u)) (same_Some [] xs e) tt
  taken-names (i ∷ is) xs e = one-names (line_at (table_at a u) i.0).inst (line_at (table_at a u) i.0).result (all_taken from slots (table_at a u) is) xs (result-within a u o h i.0) (taken-names is) e

-- ---- what the `phi` of a block take

module _ (a : Arena) (u : ℕ) (o : IsArena a) (h : u < unit_count a) (from : BlockId) (l : from.0 < label_count a u) where
  abbrev label : List ℕ
  label = label_name_at a u from.0

  edges-same : (es : List PhiEdge) → Each (EdgeWithin (sizes a u)) es → edge_from label (map (edge_text (naming a u)) es) ≡ option_map (value_text (naming a u)) (edge_in from es)
  edges-same [] w = refl
  edges-same (e ∷ es) w =
      ap (λ c. if c then Some (value_text (naming a u) e.value) else edge_from label (map (edge_text (naming a u)) es)) (same_label-by_id a u o h e.block.0 from.0 w.0.1 l)
      ∙ by (nat_eq e.block.0 from.0) (edges-same es w.1)
    where
      by : (c : Bool) → edge_from label (map (edge_text (naming a u)) es) ≡ option_map (value_text (naming a u)) (edge_in from es)
          → (if c then Some (value_text (naming a u) e.value) else edge_from label (map (edge_text (naming a u)) es))
          ≡ option_map (value_text (naming a u)) (if c then Some e.value else edge_in from es)
      by true q = refl
      by false q = q

  edge-within : (es : List PhiEdge) (v : ValueId) → Each (EdgeWithin (sizes a u)) es → edge_in from es ≡ Some v → v.0 < value_count a u
  edge-within [] v w e = absurd (none-some v e)
  edge-within (x ∷ es) v w e = by (nat_eq x.block.0 from.0) (edge-within es v w.1) e
    where
      by : (c : Bool) → (edge_in from es ≡ Some v → v.0 < value_count a u) → (if c then Some x.value else edge_in from es) ≡ Some v → v.0 < value_count a u
      by true go q = subst (λ (y : ValueId). y.0 < value_count a u) (same_Some x.value v q) w.0.0
      by false go q = go q

  module _ (slots : List (Option Held)) where
    module _ (e : Env) (d : Holds a u slots e) where
      -- what is taken by ids, held by its names, is what is held under names
      abbrev pub Taken : Option (List (ValueId × Datum)) → Option Env → Type 0
      Taken None None = Unit {0}
      Taken (Some xs) (Some e') = Holds a u (put_all xs slots) e'
      Taken _ _ = ⊥

      put-one : (r : Option ValueId) (v : Option Datum) (xs : Option (List (ValueId × Datum))) (q : Option Env) → ResultWithin (value_count a u) r → Taken xs q
          → Taken (in_front r v xs) (result_put (maybe_text (naming a u) r) v q)
      put-one None None xs q w k = tt
      put-one (Some n) None xs q w k = tt
      put-one None (Some x) None None w k = tt
      put-one (Some n) (Some x) None None w k = tt
      put-one r (Some x) None (Some q) w k = absurd k
      put-one r (Some x) (Some xs) None w k = absurd k
      put-one None (Some x) (Some xs) (Some q) w k = k
      put-one (Some n) (Some x) (Some xs) (Some q) w k = holds-more a u (put_all xs slots) q n (datum_held x) o h k (omega (arith, w, k.long))

      phi-same : (es : List PhiEdge) → Each (EdgeWithin (sizes a u)) es
          → option_and_then (datum_in slots) (edge_in from es) ≡ option_and_then (datum_at e) (edge_from label (map (edge_text (naming a u)) es))
      phi-same es w = by (edge_in from es) refl ∙ sym (ap (option_and_then (datum_at e)) (edges-same es w))
        where
          by : (x : Option ValueId) → edge_in from es ≡ x → option_and_then (datum_in slots) x ≡ option_and_then (datum_at e) (option_map (value_text (naming a u)) x)
          by None q = refl
          by (Some v) q = (same-held a u slots e d).datum v (omega (arith, edge-within es v w q, d.long))

      one-same : (i : Inst) (r : Option ValueId) (xs : Option (List (ValueId × Datum))) (q : Option Env) → InstPlaced a u i → ResultWithin (value_count a u) r → Taken xs q
          → Taken (one_taken from slots i r xs) (phi_taken label e (inst_text (naming a u) i) (maybe_text (naming a u) r) q)
      one-same (inst.Phi ty es) r xs q p w k = subst (λ (v : Option Datum). Taken (in_front r (option_and_then (datum_in slots) (edge_in from es)) xs) (result_put (maybe_text (naming a u) r) v q))
          (phi-same es p) (put-one r (option_and_then (datum_in slots) (edge_in from es)) xs q w k)
      one-same (inst.Ret None) r xs q p w k = k
      one-same (inst.Ret (Some t)) r xs q p w k = k
      one-same _ r xs q p w k = k

      pub taken-same : (is : List InstId) → Each (λ (i : InstId). i.0 < inst_count a u) is
          → Taken (all_taken from slots (table_at a u) is) (phis_taken label e (map (inst_line_text (naming a u) (table_at a u)) is))
      taken-same [] w = d
      taken-same (i ∷ is) w =
          one-same (line_at (table_at a u) i.0).inst (line_at (table_at a u) i.0).result (all_taken from slots (table_at a u) is)
          (phis_taken label e (map (inst_line_text (naming a u) (table_at a u)) is))
          (o.placed u i.0 (line_at (table_at a u) i.0) (slice_get-get_or (table_at a u).lines i.0 no_line w.0)) (result-within a u o h i.0) (taken-same is w.1)

-- ---- an edge

module _ (a : Arena) (m : Machine) (p : Point) (k : MachineIs a m p) (to : BlockId) (l : to.0 < label_count a m.frame.unit.0) (b : is_block (blocks_at a m.frame.unit.0) to.0 ≡ true) where
  abbrev made : Env → Control
  made = at-block p.control.unit (label_name_at a m.frame.unit.0 to.0) (map (inst_line_text (naming a m.frame.unit.0) (table_at a m.frame.unit.0)) (block_insts_at a m.frame.unit.0 to.0))

  entered-is : entered p.control.unit p.control.held p.control.block (label_name_at a m.frame.unit.0 to.0)
      ≡ option_map made (phis_taken (label_name_at a m.frame.unit.0 m.frame.block.0) p.control.held
      (map (inst_line_text (naming a m.frame.unit.0) (table_at a m.frame.unit.0)) (block_insts_at a m.frame.unit.0 to.0)))
  entered-is =
      let found : block_of (label_name_at a m.frame.unit.0 to.0) p.control.unit.blocks ≡ Some (block_text (naming a m.frame.unit.0) (table_at a m.frame.unit.0) to) =
      ap (λ (v : UnitText). block_of (label_name_at a m.frame.unit.0 to.0) v.blocks) k.frame.unit
      ∙ block_of-by_id a m.frame.unit.0 k.arena k.frame.within to.0 k.frame.has_blocks l
      ∙ ap (λ c. if c then Some (block_text (naming a m.frame.unit.0) (table_at a m.frame.unit.0) to) else None) b in
      ap (option_and_then (λ (x : BlockText). option_map (at-block p.control.unit (label_name_at a m.frame.unit.0 to.0) x.lines) (phis_taken p.control.block p.control.held x.lines))) found
      ∙ ap (λ (n : List ℕ). option_map made (phis_taken n p.control.held (map (inst_line_text (naming a m.frame.unit.0) (table_at a m.frame.unit.0)) (block_insts_at a m.frame.unit.0 to.0))))
      k.frame.block

  same : Taken a m.frame.unit.0 k.arena k.frame.within m.frame.block k.frame.label m.frame.slots p.control.held k.frame.held
      (all_taken m.frame.block m.frame.slots (table_at a m.frame.unit.0) (block_insts_at a m.frame.unit.0 to.0))
      (phis_taken (label_name_at a m.frame.unit.0 m.frame.block.0) p.control.held (map (inst_line_text (naming a m.frame.unit.0) (table_at a m.frame.unit.0)) (block_insts_at a m.frame.unit.0 to.0)))
  same = taken-same a m.frame.unit.0 k.arena k.frame.within m.frame.block k.frame.label m.frame.slots p.control.held k.frame.held (block_insts_at a m.frame.unit.0 to.0)
      (insts-within a m.frame.unit.0 to k.arena k.frame.within b)

  -- a value of a `phi` is not there
  pub enters-none : all_taken m.frame.block m.frame.slots (table_at a m.frame.unit.0) (block_insts_at a m.frame.unit.0 to.0) ≡ None → (n : Machine)
      → InstLeads a n flow.Lost p.control.unit (jumps p (entered p.control.unit p.control.held p.control.block (label_name_at a m.frame.unit.0 to.0)))
  enters-none e n = subst (λ (c : Option Control). InstLeads a n flow.Lost p.control.unit (jumps p c)) (sym entered-is)
      (by _ (subst (λ (x : Option (List (ValueId × Datum))). Taken a m.frame.unit.0 k.arena k.frame.within m.frame.block k.frame.label m.frame.slots p.control.held k.frame.held x
      (phis_taken (label_name_at a m.frame.unit.0 m.frame.block.0) p.control.held (map (inst_line_text (naming a m.frame.unit.0) (table_at a m.frame.unit.0)) (block_insts_at a m.frame.unit.0 to.0))))
      e same))
    where
      by : (q : Option Env) → Taken a m.frame.unit.0 k.arena k.frame.within m.frame.block k.frame.label m.frame.slots p.control.held k.frame.held None q
          → InstLeads a n flow.Lost p.control.unit (jumps p (option_map made q))
      by None t = tt
      by (Some e) t = absurd t

  -- all are there, and are held
  pub enters : (xs : List (ValueId × Datum)) → all_taken m.frame.block m.frame.slots (table_at a m.frame.unit.0) (block_insts_at a m.frame.unit.0 to.0) ≡ Some xs → (n : Machine)
      → n.frame ≡ record { unit = m.frame.unit; block = to; next = 0; slots = put_all xs m.frame.slots } → n.callers.items ≡ m.callers.items → n.wishes ≡ m.wishes → n.outcomes ≡ m.outcomes
      → InstLeads a n flow.Goes p.control.unit (jumps p (entered p.control.unit p.control.held p.control.block (label_name_at a m.frame.unit.0 to.0)))
  enters xs e n frame callers wish outcomes = subst (λ (c : Option Control). InstLeads a n flow.Goes p.control.unit (jumps p c)) (sym entered-is)
      (by _ (subst (λ (x : Option (List (ValueId × Datum))). Taken a m.frame.unit.0 k.arena k.frame.within m.frame.block k.frame.label m.frame.slots p.control.held k.frame.held x
      (phis_taken (label_name_at a m.frame.unit.0 m.frame.block.0) p.control.held (map (inst_line_text (naming a m.frame.unit.0) (table_at a m.frame.unit.0)) (block_insts_at a m.frame.unit.0 to.0))))
      e same))
    where
      by : (q : Option Env) → Taken a m.frame.unit.0 k.arena k.frame.within m.frame.block k.frame.label m.frame.slots p.control.held k.frame.held (Some xs) q
          → InstLeads a n flow.Goes p.control.unit (jumps p (option_map made q))
      by None t = absurd t
      by (Some e') t = record {
        arena = k.arena;
        frame = subst (λ (f : UnitFrame). FrameIs a f (made e')) (sym frame)
            (record { within = k.frame.within; has_blocks = k.frame.has_blocks; label = l; stands = b; unit = k.frame.unit; block = refl; rest = refl; held = t });
        callers = subst (λ (cs : List Call). CallsAre a (reverse cs) p.callers) (sym callers) k.callers;
        wish = wish ∙ k.wish;
        outcomes = outcomes ∙ k.outcomes;
      }
