-- What `edges` answers, from what its calls found.
use Rattle.std.proofs.Common.{◌≡◌, Bool, true, false, List, sym, ap, ◌∙◌, subst, Option, Some, None, Vec, Result, Ok, Err, refl}
use Rattle.lh_term.specs.declared.part.Part.{Part}
use Rattle.lh_term.specs.declared.term.TermId.{TermId}
use Rattle.lh_term.specs.declared.term.TermNode.{TermNode}
use Rattle.lh_term.specs.Arena.{tree_at, trees, trees_at, IsIn, Grows, StandsForTree}
use Rattle.lh_term.proofs.Swaps.{tree_grown, grows_on}
use Rattle.lh_edge.specs.declared.triggers.Trigger.{Trigger}
use Rattle.lh_edge.specs.Atoms.{edge_part, atoms_of}
use Rattle.lh_edge.specs.Shown.{showing_parts, has_too_many_atoms, is_edge_shown}
use Rattle.lh_edge.specs.Triggers.{TriggerTree, in_order, triggers_at, triggers_of}
use Rattle.lh_edge.specs.declared.triggers.EdgeFault.{EdgeFault}
use Rattle.lh_edge.specs.declared.triggers.EdgeFault.TheVariants.{TooManyAtoms, NoEdge, OutOfMemory}
use Rattle.lh_edge.specs.Answers.{AreTriggers, GivesTriggers, ShownOrNot, TriggersOrFault}
use Rattle.lh_edge.specs.Gates.{AllBit}
use Rattle.lh_edge.specs.Steps.{is_checked, AreAllIdsOf, FindsThe, found_items}
use Rattle.lh_edge.proofs.Found.{found_of_none, found_of_some}
use Rattle.lh_edge.proofs.Once.{showing_bit, order_bit}
use Rattle.lh_edge.proofs.Checked.{few_atoms, many_atoms, atoms_check, atoms_triggers}

module _ (a mid cur : List TermNode) (g : Grows a mid) (h : Grows mid cur) (cond edge : TermId) (cond_in : IsIn a cond) (made : StandsForTree mid edge (edge_part (tree_at (trees a) cond))) where
  pub many : {A : Type 0} (o : Option (Vec TermId A)) → o ≡ None → FindsThe cur (atoms_of (tree_at (trees mid) edge)) (found_items o) → has_too_many_atoms (tree_at (trees a) cond) ≡ true
  many o e f =
      let (ids, of, more) = found_of_none cur (atoms_of (tree_at (trees mid) edge)) o e f in
      many_atoms cur (tree_at (trees a) cond) (tree_at (trees mid) edge) ids made.tree of more

  module _ {A : Type 0} (o : Option (Vec TermId A)) (v : Vec TermId A) (e : o ≡ Some v) (f : FindsThe cur (atoms_of (tree_at (trees mid) edge)) (found_items o)) where
    the : AreAllIdsOf cur (atoms_of (tree_at (trees mid) edge)) v.items
    the = found_of_some cur (atoms_of (tree_at (trees mid) edge)) o v e f

    pub few : has_too_many_atoms (tree_at (trees a) cond) ≡ false
    few = few_atoms cur (tree_at (trees a) cond) (tree_at (trees mid) edge) v.items made.tree the

    module _ (waited : List Part) (xs : List TermId) (parts : List Part) (x : xs ≡ v.items) (p : parts ≡ in_order (showing_parts waited (trees_at cur xs))) where
      own : parts ≡ in_order (showing_parts waited (trees_at cur v.items))
      own = p ∙ ap (λ ys. in_order (showing_parts waited (trees_at cur ys))) x

      pub shown_is : (b : Bool) (ys : List TermId) (qs : List Part) → ys ≡ v.items → qs ≡ parts → b ≡ is_checked (tree_at (trees cur) cond) (tree_at (trees cur) edge) (trees_at cur ys) qs
          → b ≡ is_edge_shown waited (tree_at (trees a) cond)
      shown_is b ys qs y q is =
          let c : tree_at (trees cur) cond ≡ tree_at (trees a) cond = tree_grown a cur (grows_on a mid cur g h) cond cond_in in
          let d : tree_at (trees cur) edge ≡ tree_at (trees mid) edge = tree_grown mid cur h edge made.is_in in
          is ∙ (λ i. is_checked (c i) (d i) (trees_at cur (y i)) (q i)) ∙ atoms_check cur (tree_at (trees a) cond) (tree_at (trees mid) edge) v.items made.tree waited the parts own

      pub all_bit : (qs : List Part) → qs ≡ parts → AllBit qs
      all_bit qs q = subst AllBit (sym (q ∙ p)) (order_bit (showing_parts waited (trees_at cur xs)) (showing_bit waited (trees_at cur xs)))

      pub gives : (new : List TermNode) (ts : List Trigger) (qs : List Part) → qs ≡ parts → true ≡ is_edge_shown waited (tree_at (trees a) cond)
          → AreTriggers new ts (triggers_at (tree_at (trees cur) cond) qs) → GivesTriggers new waited (tree_at (trees a) cond) ts
      gives new ts qs q s t =
          let c : tree_at (trees cur) cond ≡ tree_at (trees a) cond = tree_grown a cur (grows_on a mid cur g h) cond cond_in in
          let e : triggers_at (tree_at (trees cur) cond) qs ≡ triggers_of waited (tree_at (trees a) cond) =
          (λ i. triggers_at (c i) (q i)) ∙ atoms_triggers cur (tree_at (trees a) cond) (tree_at (trees mid) edge) v.items made.tree waited the parts own
          in
          record { few = few; shown = sym s; triggers = subst (λ (xs : List TriggerTree). AreTriggers new ts xs) e t }

      -- the answer, by the check
      pub answers : (new : List TermNode) (r : Result (List Trigger) EdgeFault) (ys : List TermId) (qs : List Part) → ys ≡ v.items → qs ≡ parts
          → ShownOrNot new (is_checked (tree_at (trees cur) cond) (tree_at (trees cur) edge) (trees_at cur ys) qs) (triggers_at (tree_at (trees cur) cond) qs) r
          → TriggersOrFault new waited (tree_at (trees a) cond) r
      answers new (Ok ts) ys qs y q h = gives new ts qs q (sym h.0 ∙ shown_is _ ys qs y q refl) h.1
      answers new (Err TooManyAtoms) ys qs y q h = absurd h
      answers new (Err NoEdge) ys qs y q h = (few, sym (shown_is _ ys qs y q refl) ∙ h)
      answers new (Err OutOfMemory) ys qs y q h = tt
