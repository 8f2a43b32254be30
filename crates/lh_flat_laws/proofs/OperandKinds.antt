-- The operands of an instruction in a copy have types of their kinds.
use Rattle.std.proofs.Common.{◌≡◌, ℕ, List, [], ◌∷◌, map, Option, Some, None, option_map, sym, subst}
use Rattle.lh_types.specs.Types.{TypeTree}
use Rattle.lh_types.specs.Classes.{class_of, taken_step}
use Rattle.lh_types.specs.declared.op.Op.{Op}
use Rattle.lh_types.specs.declared.part.Step.{Step}
use Rattle.lh_unit.specs.Contents.{OperandText, EdgeText, InstText, const_text, pure_text, var_text, ld_text, st_text, sig_text, prb_text, drv_text, reg_text, child_text, call_text, phi_text, br_text, branch_text, wait_text, halt_text, ret_text, UnitText}
use Rattle.lh_unit.specs.Kinds.{Need, pointer_needed, used, all_used, maybe_used, step_need, part_need, operation_uses, uses, data_needed, time_needed, signal_needed, data_or_time_needed}
use Rattle.lh_unit.specs.Typing.{value_type, first_type}
use Rattle.lh_unit.specs.Within.{Each}
use Rattle.lh_unit.proofs.Lists.{Each-append}
use Rattle.lh_verify_laws.specs.KindsOf.{HasTypeOfKind}
use Rattle.lh_verify_laws.proofs.EachItem.{each-split}
use Rattle.lh_flat.specs.Copies.{Copy, copied_operand, copied_edge, copied}
use Rattle.lh_flat_laws.proofs.SoundCopies.{IsCode, first-type}

module _ (v x : UnitText) (c : Copy) (typed : (n : List ℕ) (t : TypeTree) → value_type v n ≡ Some t → value_type x (c.value n) ≡ Some t) where
  one-kind : (need : Need) (n : List ℕ) → HasTypeOfKind v (used need n) → HasTypeOfKind x (used need (c.value n))
  one-kind need n h = (h.0, h.1, typed n h.0 h.2, h.3, h.4)

  all-kinds : (need : Need) (args : List OperandText) → Each (HasTypeOfKind v) (all_used need args) → Each (HasTypeOfKind x) (all_used need (map (copied_operand c) args))
  all-kinds need [] h = tt
  all-kinds need (o ∷ more) h = (one-kind need o.value h.0, all-kinds need more h.1)

  maybe-kind : (need : Need) (o : Option (List ℕ)) → Each (HasTypeOfKind v) (maybe_used need o) → Each (HasTypeOfKind x) (maybe_used need (option_map c.value o))
  maybe-kind need None h = tt
  maybe-kind need (Some n) h = (one-kind need n h.0, tt)

  signal-kinds : (ss : List (List ℕ)) → Each (HasTypeOfKind v) (map (used signal_needed) ss) → Each (HasTypeOfKind x) (map (used signal_needed) (map c.value ss))
  signal-kinds [] h = tt
  signal-kinds (s ∷ ss) h = (one-kind signal_needed s h.0, signal-kinds ss h.1)

  edge-kinds : (fs : List UnitText) (es : List EdgeText) → Each (HasTypeOfKind v) (map (λ (e : EdgeText). used data_or_time_needed e.value) es)
      → Each (HasTypeOfKind x) (map (λ (e : EdgeText). used data_or_time_needed e.value) (map (copied_edge fs c) es))
  edge-kinds fs [] h = tt
  edge-kinds fs (e ∷ es) h = (one-kind data_or_time_needed e.value h.0, edge-kinds fs es h.1)

  stepped-kinds : (args : List OperandText) → Each (HasTypeOfKind v) (all_used (step_need (first_type args)) args)
      → Each (HasTypeOfKind x) (all_used (step_need (first_type (map (copied_operand c) args))) (map (copied_operand c) args))
  stepped-kinds args h = subst (λ t. Each (HasTypeOfKind x) (all_used (step_need t) (map (copied_operand c) args))) (sym (first-type c args)) (all-kinds (step_need (first_type args)) args h)

  part-kinds : (s : Option Step) (args : List OperandText) → Each (HasTypeOfKind v) (all_used (part_need s args) args)
      → Each (HasTypeOfKind x) (all_used (part_need s (map (copied_operand c) args)) (map (copied_operand c) args))
  part-kinds None args h = all-kinds data_needed args h
  part-kinds (Some s) args h = stepped-kinds args h

  operation-kinds : (o : Op) (args : List OperandText) → Each (HasTypeOfKind v) (operation_uses o args) → Each (HasTypeOfKind x) (operation_uses o (map (copied_operand c) args))
  operation-kinds o args h = part-kinds (taken_step (class_of o)) args h

  -- the operands of a copied instruction
  pub kinds-copied : (fs : List UnitText) (i : InstText) → IsCode i → Each (HasTypeOfKind v) (uses i) → Each (HasTypeOfKind x) (uses (copied fs c i))
  kinds-copied fs (const_text d) k h = tt
  kinds-copied fs (pure_text o args) k h = operation-kinds o args h
  kinds-copied fs (var_text a) k h = (one-kind data_or_time_needed a.value h.0, tt)
  kinds-copied fs (ld_text p) k h = (one-kind pointer_needed p.value h.0, tt)
  kinds-copied fs (st_text to value) k h = (one-kind pointer_needed to.value h.0, (one-kind data_or_time_needed value h.1.0, tt))
  kinds-copied fs (sig_text a) k h = elim k [ ]
  kinds-copied fs (prb_text s) k h = (one-kind signal_needed s.value h.0, tt)
  kinds-copied fs (drv_text to value after cond) k
      h = (one-kind signal_needed to.value h.0, (one-kind data_needed value h.1.0, (one-kind time_needed after h.1.1.0, maybe-kind data_needed cond h.1.1.1)))
  kinds-copied fs (reg_text to ts) k h = elim k [ ]
  kinds-copied fs (child_text w inputs outputs) k h = elim k [ ]
  kinds-copied fs (call_text f result args) k h = all-kinds data_or_time_needed args h
  kinds-copied fs (phi_text ty edges) k h = edge-kinds fs edges h
  kinds-copied fs (br_text to) k h = tt
  kinds-copied fs (branch_text cond first second) k h = (one-kind data_needed cond h.0, tt)
  kinds-copied fs (wait_text to after signals) k h =
      let r = each-split (HasTypeOfKind v) (maybe_used time_needed after) (map (used signal_needed) signals) h in
      Each-append (HasTypeOfKind x) (maybe_used time_needed (option_map c.value after)) (map (used signal_needed) (map c.value signals)) (maybe-kind time_needed after r.0) (signal-kinds signals r.1)
  kinds-copied fs halt_text k h = tt
  kinds-copied fs (ret_text o) k h = tt
