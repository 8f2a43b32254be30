-- The parts of triggers and of their gates are parts of the condition.
use Rattle.std.proofs.Common.{◌≡◌, List, [], ◌∷◌, ◌++◌, filter, Bool, true, false, ◌||◌, sym, ◌∙◌, subst, arith}
use Rattle.std.specs.Bool.{if◌then◌else◌}
use Rattle.std.specs.List.{list_any}
use Rattle.lh_types.specs.Types.{int_type, IsData}
use Rattle.lh_unit.specs.Within.{Each}
use Rattle.lh_unit.proofs.Lists.{Each-append}
use Rattle.lh_term.specs.Tree.{Tree, TreeRow, constant, past_of, now_of, operation, choice_of, no_trees, more_trees}
use Rattle.lh_term.specs.SameTree.{same_tree}
use Rattle.lh_term.specs.Same.{same_part}
use Rattle.lh_term.specs.Types.{IsTyped, type_of}
use Rattle.lh_term.specs.Make.{is_bit}
use Rattle.lh_term.specs.Conjuncts.{conjuncts_of}
use Rattle.lh_term.specs.Laws.{SwapsKeepMeaning}
use Rattle.lh_term.specs.Subst.{replaced, swapped, swapped_row}
use Rattle.lh_term.specs.declared.part.Part.{Part}
use Rattle.lh_edge.specs.Atoms.{contains_past, edge_part, is_one_bit, is_connective, subterms, subterms_in, presents, has, each_once, atoms_of}
use Rattle.lh_edge.specs.Shown.{can_show, showing_parts}
use Rattle.lh_edge.specs.Triggers.{TriggerTree, pasts_in, pasts_in_row, present_swaps, edge_swaps, gate_of, trigger_at, triggers_at, comes_first, with_part, in_order, triggers_of, AreWaited}
use Rattle.lh_edge.proofs.TriggersFire.{edge_are_swaps, edge_seconds}
use Rattle.lh_edge.proofs.TriggersRest.{waited_on}
use Rattle.lh_emit_def.specs.Emitted.{Source}
use Rattle.lh_term.specs.Leaves.{AllParts, AllPartsIn}
use Rattle.lh_emit_def.specs.Ways.{IsReached, TriggerIsGiven}
use Rattle.lh_entity_laws.proofs.GivenTrees.{In, AllIn, make-in, choice-in, conjuncts-in, conjunction-in, filter-in}

module _ (P : Part → Type 0) where
  abbrev AllOf : List Part → Type 0
  AllOf ps = Each P ps

  trees-if : (b : Bool) (xs ys : List Tree) → AllIn P xs → AllIn P ys → AllIn P (if b then xs else ys)
  trees-if true xs ys h k = h
  trees-if false xs ys h k = k

  parts-if : (b : Bool) (xs ys : List Part) → AllOf xs → AllOf ys → AllOf (if b then xs else ys)
  parts-if true xs ys h k = h
  parts-if false xs ys h k = k

  -- ---- the atoms of the edge part

  pub edge-part-in : (c : Tree) → In P c → In P (edge_part c)
  unfolding edge_part
  edge-part-in c h = conjunction-in P (filter contains_past (conjuncts_of c)) (filter-in P contains_past (conjuncts_of c) (conjuncts-in P c h))

  mutual
    subterms-are-in : (t : Tree) → In P t → AllIn P (subterms t)
    subterms-are-in (constant v) h = trees-if (is_one_bit (constant v)) [] (constant v ∷ []) tt (tt, tt)
    subterms-are-in (past_of p) h = (h, tt)
    subterms-are-in (now_of p) h = (h, tt)
    subterms-are-in (operation o ts) h = trees-if (is_connective o ts) (subterms_in ts) (operation o ts ∷ []) (subterms-in-in ts h) (h, tt)
    subterms-are-in (choice_of c f t) h =
        trees-if (is_one_bit f) (subterms c ++ (subterms f ++ subterms t)) (choice_of c f t ∷ [])
        (Each-append (In P) (subterms c) (subterms f ++ subterms t) (subterms-are-in c h.0) (Each-append (In P) (subterms f) (subterms t) (subterms-are-in f h.1) (subterms-are-in t h.2))) (h, tt)

    subterms-in-in : (ts : TreeRow) → AllPartsIn P ts → AllIn P (subterms_in ts)
    subterms-in-in no_trees h = tt
    subterms-in-in (more_trees t ts) h = Each-append (In P) (subterms t) (subterms_in ts) (subterms-are-in t h.0) (subterms-in-in ts h.1)

  presents-in : (ts : List Tree) → AllIn P ts → AllIn P (presents ts)
  presents-in [] h = tt
  presents-in (past_of p ∷ ts) h = (h.0, presents-in ts h.1)
  presents-in (constant v ∷ ts) h = presents-in ts h.1
  presents-in (now_of p ∷ ts) h = presents-in ts h.1
  presents-in (operation o us ∷ ts) h = presents-in ts h.1
  presents-in (choice_of c f t ∷ ts) h = presents-in ts h.1

  once-in : (ts : List Tree) → AllIn P ts → AllIn P (each_once ts)
  once-in [] h = tt
  once-in (t ∷ ts) h = trees-if (has ts t) (each_once ts) (t ∷ each_once ts) (once-in ts h.1) (h.0, once-in ts h.1)

  atoms-in : (t : Tree) → In P t → AllIn P (atoms_of t)
  unfolding atoms_of
  atoms-in t h = once-in (subterms t ++ presents (subterms t)) (Each-append (In P) (subterms t) (presents (subterms t)) (subterms-are-in t h) (presents-in (subterms t) (subterms-are-in t h)))

  showing-in : (waited : List Part) (ts : List Tree) → AllIn P ts → AllOf (showing_parts waited ts)
  showing-in waited [] h = tt
  showing-in waited (past_of p ∷ ts) h = parts-if (can_show waited p) (p ∷ showing_parts waited ts) (showing_parts waited ts) (h.0, showing-in waited ts h.1) (showing-in waited ts h.1)
  showing-in waited (constant v ∷ ts) h = showing-in waited ts h.1
  showing-in waited (now_of p ∷ ts) h = showing-in waited ts h.1
  showing-in waited (operation o us ∷ ts) h = showing-in waited ts h.1
  showing-in waited (choice_of c f t ∷ ts) h = showing-in waited ts h.1

  with-part-in : (p : Part) (ps : List Part) → P p → AllOf ps → AllOf (with_part p ps)
  with-part-in p [] h k = (h, tt)
  with-part-in p (q ∷ ps) h k = parts-if (comes_first p q) (p ∷ q ∷ ps) (q ∷ with_part p ps) (h, k) (k.0, with-part-in p ps h k.1)

  order-in : (ps : List Part) → AllOf ps → AllOf (in_order ps)
  order-in [] h = tt
  order-in (p ∷ ps) h = with-part-in p (in_order ps) h.0 (order-in ps h.1)

  -- ---- gates

  mutual
    pasts-in : (t : Tree) → In P t → AllOf (pasts_in t)
    pasts-in (constant v) h = tt
    pasts-in (past_of p) h = (h, tt)
    pasts-in (now_of p) h = tt
    pasts-in (operation o ts) h = pasts-row-in ts h
    pasts-in (choice_of c f t) h = Each-append P (pasts_in c) (pasts_in f ++ pasts_in t) (pasts-in c h.0) (Each-append P (pasts_in f) (pasts_in t) (pasts-in f h.1) (pasts-in t h.2))

    pasts-row-in : (ts : TreeRow) → AllPartsIn P ts → AllOf (pasts_in_row ts)
    pasts-row-in no_trees h = tt
    pasts-row-in (more_trees t ts) h = Each-append P (pasts_in t) (pasts_in_row ts) (pasts-in t h.0) (pasts-row-in ts h.1)

  -- what takes places has such parts
  abbrev Seconds : List (Tree × Tree) → Type 0
  Seconds ps = Each (λ (p : Tree × Tree). In P p.1) ps

  swaps-in : (p : Part) (qs : List Part) → AllOf qs → Seconds (present_swaps p qs)
  swaps-in p [] h = tt
  swaps-in p (q ∷ qs) h = by (same_part p q || list_any (same_part q) qs) (swaps-in p qs h.1)
    where
      by : (b : Bool) → Seconds (present_swaps p qs) → Seconds (if b then present_swaps p qs else (past_of q, now_of q) ∷ present_swaps p qs)
      by true r = r
      by false r = (h.0, r)

  edge-swaps-in : (rise : Bool) (p : Part) (c : Tree) → In P c → Seconds (edge_swaps rise p c)
  edge-swaps-in rise p c h = (tt, (tt, swaps-in p (pasts_in c) (pasts-in c h)))

  replaced-in : (by : List (Tree × Tree)) (t : Tree) → Seconds by → In P t → In P (replaced by t)
  replaced-in [] t h k = k
  replaced-in (p ∷ ps) t h k = at (same_tree p.0 t) (replaced-in ps t h.1 k)
    where
      at : (b : Bool) → In P (replaced ps t) → In P (if b then p.1 else replaced ps t)
      at true r = h.0
      at false r = r

  mutual
    swapped-in : (by : List (Tree × Tree)) (t : Tree) → Seconds by → In P t → In P (swapped by t)
    swapped-in by (constant v) h k = tt
    swapped-in by (past_of p) h k = replaced-in by (past_of p) h k
    swapped-in by (now_of p) h k = replaced-in by (now_of p) h k
    swapped-in by (operation o ts) h k = make-in P o (swapped_row by ts) (swapped-row-in by ts h k)
    swapped-in by (choice_of c f t) h k = choice-in P (swapped by c) (swapped by f) (swapped by t) (swapped-in by c h k.0) (swapped-in by f h k.1) (swapped-in by t h k.2)

    swapped-row-in : (by : List (Tree × Tree)) (ts : TreeRow) → Seconds by → AllPartsIn P ts → AllIn P (swapped_row by ts)
    swapped-row-in by no_trees h k = tt
    swapped-row-in by (more_trees t ts) h k = (swapped-in by t h k.0, swapped-row-in by ts h k.1)

  pub gate-in : (rise : Bool) (p : Part) (c : Tree) → In P c → In P (gate_of rise p c)
  unfolding gate_of
  gate-in rise p c h = swapped-in (edge_swaps rise p c) c (edge-swaps-in rise p c h) h

  -- the parts at whose changes a condition is looked at
  pub showing-parts-in : (waited : List Part) (c : Tree) → In P c → AllOf (in_order (showing_parts waited (atoms_of (edge_part c))))
  showing-parts-in waited c h = order-in (showing_parts waited (atoms_of (edge_part c))) (showing-in waited (atoms_of (edge_part c)) (atoms-in (edge_part c) (edge-part-in c h)))

-- ---- triggers

module _ (laws : SwapsKeepMeaning) (s : Source) (c : Tree) (typed : IsTyped c) (bit : type_of c ≡ int_type 1) (parts : AllParts (IsReached s) c) where
  -- of a trigger whose part is of one bit
  abbrev IfBit : TriggerTree → Type 0
  IfBit g = g.part.ty ≡ int_type 1 → TriggerIsGiven s g

  gate-given : (rise : Bool) (p : Part) → IsReached s p → p.ty ≡ int_type 1 → TriggerIsGiven s (record { rise = rise; part = p; gate = gate_of rise p c })
  unfolding gate_of
  gate-given rise p r e =
      let k = laws (edge_swaps rise p c) (edge_are_swaps rise p c e) (edge_seconds rise p c typed) c typed in
      record {
        is_data = subst IsData (sym e) one;
        is_bit = e;
        is_gate = k.type ∙ bit;
        part = r;
        gate = record { typed = k.typed; parts = gate-in (IsReached s) rise p c parts };
      }
    where
      one : IsData (int_type 1)
      one = (omega arith, omega arith)

  trigger-given : (rise : Bool) (p : Part) → IsReached s p → Each IfBit (trigger_at c p rise)
  trigger-given rise p r = by (is_bit 0 (gate_of rise p c))
    where
      by : (b : Bool) → Each IfBit (if b then [] else (record { rise = rise; part = p; gate = gate_of rise p c }) ∷ [])
      by true = tt
      by false = (λ e. gate-given rise p r e, tt)

  triggers-at-given : (ps : List Part) → Each (IsReached s) ps → Each IfBit (triggers_at c ps)
  triggers-at-given [] h = tt
  triggers-at-given (p ∷ ps) h =
      Each-append IfBit (trigger_at c p true) (trigger_at c p false ++ triggers_at c ps) (trigger-given true p h.0)
      (Each-append IfBit (trigger_at c p false) (triggers_at c ps) (trigger-given false p h.0) (triggers-at-given ps h.1))

  all-bits : (waited : List Part) (gs : List TriggerTree) → AreWaited waited gs → Each IfBit gs → Each (TriggerIsGiven s) gs
  all-bits waited [] h k = tt
  all-bits waited (g ∷ gs) h k = (k.0 h.0, all-bits waited gs h.2 k.1)

  pub triggers-given : (waited : List Part) → Each (TriggerIsGiven s) (triggers_of waited c)
  unfolding triggers_of
  triggers-given waited = all-bits waited (triggers_of waited c) (waited_on waited c) given
    where
      given : Each IfBit (triggers_of waited c)
      given = triggers-at-given (in_order (showing_parts waited (atoms_of (edge_part c)))) (showing-parts-in (IsReached s) waited c parts)
