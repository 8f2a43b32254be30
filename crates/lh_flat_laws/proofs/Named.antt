-- The values that an instruction of a copy names are those of the original under their new names.
use Rattle.std.proofs.Common.{◌≡◌, ◌⊎◌, ℕ, List, [], ◌∷◌, ◌++◌, map, Option, Some, None, option_map, refl, ap, sym, ◌∙◌, inl, inr, subst}
use Rattle.lh_types.specs.declared.op.Op.{Op}
use Rattle.lh_unit.specs.Contents.{OperandText, InstText, const_text, pure_text, var_text, ld_text, st_text, sig_text, prb_text, drv_text, reg_text, child_text, call_text, phi_text, br_text, branch_text, wait_text, halt_text, ret_text, UnitText}
use Rattle.lh_unit.specs.Kinds.{Need, Use, used, all_used, maybe_used, operation_uses, time_needed, signal_needed, data_needed}
use Rattle.lh_unit.specs.WellFormed.{values_named, is_phi}
use Rattle.lh_flat.specs.Copies.{Copy, copied_operand, copied}
use Rattle.lh_flat_laws.proofs.SoundCopies.{IsCode}
use Rattle.std.specs.Prelude.{false}
use Rattle.lh_flat_laws.specs.Members.{Among}
use Rattle.lh_flat_laws.proofs.Members.{among-left, among-right, among-split}

values : List Use → List (List ℕ)
values us = map (λ (x : Use). x.value) us

used-values : (need : Need) (args : List OperandText) → map (λ (x : Use). x.value) (all_used need args) ≡ map (λ (o : OperandText). o.value) args
used-values need [] = refl
used-values need (o ∷ more) = ap (λ ns. o.value ∷ ns) (used-values need more)

operation-values : (o : Op) (args : List OperandText) → map (λ (x : Use). x.value) (operation_uses o args) ≡ map (λ (o : OperandText). o.value) args
operation-values o args = used-values _ args

module _ (c : Copy) where
  -- it is the new name of one of these
  abbrev pub IsNew : List (List ℕ) → List ℕ → Type 0
  IsNew ns n = (m : List ℕ) × Among m ns × (n ≡ c.value m)

  new-map : (ns : List (List ℕ)) (n : List ℕ) → Among n (map c.value ns) → IsNew ns n
  new-map [] n a = elim a [ ]
  new-map (m ∷ ns) n (inl e) = (m, inl refl, sym e)
  new-map (m ∷ ns) n (inr a) = let r = new-map ns n a in (r.0, inr r.1, r.2)

  new-left : (ns ms : List (List ℕ)) (n : List ℕ) → IsNew ns n → IsNew (ns ++ ms) n
  new-left ns ms n h = (h.0, among-left h.0 ns ms h.1, h.2)

  new-right : (ns ms : List (List ℕ)) (n : List ℕ) → IsNew ms n → IsNew (ns ++ ms) n
  new-right ns ms n h = (h.0, among-right h.0 ns ms h.1, h.2)

  operands-map : (args : List OperandText) → map (λ (o : OperandText). o.value) (map (copied_operand c) args) ≡ map c.value (map (λ (o : OperandText). o.value) args)
  operands-map [] = refl
  operands-map (o ∷ more) = ap (λ ns. c.value o.value ∷ ns) (operands-map more)

  new-operands : (us vs : List (List ℕ)) (args : List OperandText) (n : List ℕ) → us ≡ map (λ (o : OperandText). o.value) args → vs ≡ map (λ (o : OperandText). o.value) (map (copied_operand c) args)
      → Among n vs → IsNew us n
  new-operands us vs args n e f a = subst (λ ns. IsNew ns n) (sym e) (new-map (map (λ (o : OperandText). o.value) args) n (subst (λ ns. Among n ns) (f ∙ operands-map args) a))

  new-one : (m n : List ℕ) → Among n (c.value m ∷ []) → IsNew (m ∷ []) n
  new-one m n a = new-map (m ∷ []) n a

  new-maybe : (need : Need) (o : Option (List ℕ)) (n : List ℕ) → Among n (map (λ (x : Use). x.value) (maybe_used need (option_map c.value o)))
      → IsNew (map (λ (x : Use). x.value) (maybe_used need o)) n
  new-maybe need None n a = elim a [ ]
  new-maybe need (Some m) n a = new-one m n a

  signals-map : (ss : List (List ℕ)) → map (λ (x : Use). x.value) (map (used signal_needed) ss) ≡ ss
  signals-map [] = refl
  signals-map (s ∷ ss) = ap (λ ns. s ∷ ns) (signals-map ss)

  values-parts : (us vs : List Use) → map (λ (x : Use). x.value) (us ++ vs) ≡ map (λ (x : Use). x.value) us ++ map (λ (x : Use). x.value) vs
  values-parts [] vs = refl
  values-parts (u ∷ us) vs = ap (λ ns. u.value ∷ ns) (values-parts us vs)

  pub named-copied : (fs : List UnitText) (i : InstText) → IsCode i → is_phi i ≡ false → (n : List ℕ) → Among n (values_named (copied fs c i)) → IsNew (values_named i) n
  named-copied fs (const_text d) k p n a = elim a [ ]
  named-copied fs (pure_text o args) k p n a = new-operands _ _ args n (operation-values o args) (operation-values o (map (copied_operand c) args)) a
  named-copied fs (var_text o) k p n a = new-one o.value n a
  named-copied fs (ld_text o) k p n a = new-one o.value n a
  named-copied fs (st_text to v) k p n a = new-map (to.value ∷ v ∷ []) n a
  named-copied fs (sig_text o) k p n a = elim k [ ]
  named-copied fs (prb_text o) k p n a = new-one o.value n a
  named-copied fs (drv_text to v after cond) k p n a = by
      (among-split n (c.value to.value ∷ c.value v ∷ c.value after ∷ []) (map (λ (x : Use). x.value) (maybe_used data_needed (option_map c.value cond))) a)
    where
      by : (Among n (c.value to.value ∷ c.value v ∷ c.value after ∷ []) ⊎ Among n (map (λ (x : Use). x.value) (maybe_used data_needed (option_map c.value cond))))
          → IsNew (to.value ∷ v ∷ after ∷ map (λ (x : Use). x.value) (maybe_used data_needed cond)) n
      by (inl b) = new-left (to.value ∷ v ∷ after ∷ []) (map (λ (x : Use). x.value) (maybe_used data_needed cond)) n (new-map (to.value ∷ v ∷ after ∷ []) n b)
      by (inr b) = new-right (to.value ∷ v ∷ after ∷ []) (map (λ (x : Use). x.value) (maybe_used data_needed cond)) n (new-maybe data_needed cond n b)
  named-copied fs (reg_text to ts) k p n a = elim k [ ]
  named-copied fs (child_text v inputs outputs) k p n a = elim k [ ]
  named-copied fs (call_text f result args) k p n a = new-operands _ _ args n (used-values _ args) (used-values _ (map (copied_operand c) args)) a
  named-copied fs (phi_text ty edges) k p n a = cc
  named-copied fs (br_text to) k p n a = elim a [ ]
  named-copied fs (branch_text cond x y) k p n a = new-one cond n a
  named-copied fs (wait_text to after signals) k p n a =
      by (among-split n _ _ (subst (λ ns. Among n ns) (values-parts (maybe_used time_needed (option_map c.value after)) (map (used signal_needed) (map c.value signals))) a))
    where
      by : (Among n (map (λ (x : Use). x.value) (maybe_used time_needed (option_map c.value after))) ⊎ Among n (map (λ (x : Use). x.value) (map (used signal_needed) (map c.value signals))))
          → IsNew (map (λ (x : Use). x.value) (maybe_used time_needed after ++ map (used signal_needed) signals)) n
      by (inl b) = subst (λ ns. IsNew ns n) (sym (values-parts (maybe_used time_needed after) (map (used signal_needed) signals))) (new-left _ _ n (new-maybe time_needed after n b))
      by (inr b) = subst (λ ns. IsNew ns n) (sym (values-parts (maybe_used time_needed after) (map (used signal_needed) signals)))
          (new-right (map (λ (x : Use). x.value) (maybe_used time_needed after)) _ n
          (subst (λ ns. IsNew ns n) (sym (signals-map signals)) (new-map signals n (subst (λ ns. Among n ns) (signals-map (map c.value signals)) b))))
  named-copied fs halt_text k p n a = elim a [ ]
  named-copied fs (ret_text o) k p n a = elim a [ ]
