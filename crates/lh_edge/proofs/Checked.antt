-- The check of all valuations by number is that of the definition.
use Rattle.std.proofs.Common.{◌≡◌, ℕ, ◌<◌, ◌≤◌, ◌^◌, Bool, true, false, not, nat_le, List, ◌++◌, length, sym, ap, ◌∙◌, arith}
use Rattle.std.specs.List.{list_any}
use Rattle.std.proofs.lemmas.Bool.Decides.{nat_tests}
use Rattle.std.specs.Cmp.{first_so, second_so, both_ways}
use Rattle.std.proofs.lemmas.Bool.{and_from}
use Rattle.lh_term.specs.declared.part.Part.{Part}
use Rattle.lh_term.specs.declared.term.TermId.{TermId}
use Rattle.lh_term.specs.declared.term.TermNode.{TermNode}
use Rattle.lh_term.specs.Tree.{Tree, past_of, now_of}
use Rattle.lh_term.specs.Arena.{tree_at, trees, trees_at}
use Rattle.lh_term.proofs.Arenas.{map_length}
use Rattle.lh_edge.specs.Atoms.{edge_part, subterms, has, atoms_of, presents}
use Rattle.lh_edge.specs.Valuations.{differ, holds}
use Rattle.lh_edge.specs.Shown.{can_show, showing_parts, has_too_many_atoms, is_edge_shown, Shows, IsEdgeShown}
use Rattle.lh_edge.specs.Triggers.{in_order, triggers_at, triggers_of}
use Rattle.lh_edge.specs.Steps.{numbered, table_from, shows_at, stays_from, agree, is_checked, AreDistinct, AreIdsOf, AreAllIdsOf}
use Rattle.lh_edge.proofs.Bools.{differ_is, is_differ}
use Rattle.lh_edge.proofs.Tables.{holds_same, subterm_atom, now_atom, shown_by, is_showing, to_all, from_all}
use Rattle.lh_edge.proofs.Numbers.{number, number_below, numbered_number, agree_numbers, agree_same, stays_tells, stays_all, shown_tells, shown_all}
use Rattle.lh_edge.proofs.Once.{once_distinct, fits_in, showing_one}
use Rattle.lh_edge.proofs.TriggersFire.{order_any}

module _ (waited : List Part) (c : Tree) (ats : List Tree) (whole : (t : Tree) → has ats t ≡ has (atoms_of (edge_part c)) t) where
  abbrev pub E : Tree
  E = edge_part c

  abbrev pub n : ℕ
  n = 2 ^ length ats

  abbrev pub table : List Bool
  table = table_from ats E 0 n

  abbrev pub parts : List Part
  parts = in_order (showing_parts waited ats)

  -- the edge part at the number of a valuation
  same_holds : (v : Tree → Bool) → holds (numbered ats (number v ats)) E ≡ holds v E
  same_holds v = holds_same (numbered ats (number v ats)) v E (λ t h. numbered_number v ats t (whole t ∙ subterm_atom E t h))

  part_shows : (v : Tree → Bool) (p : Part) → can_show waited p ≡ true → has ats (past_of p) ≡ true → shows_at table ats (number v ats) p ≡ true → Shows waited E v p
  part_shows v p can atom h =
      let in_e : has (atoms_of E) (past_of p) ≡ true = sym (whole (past_of p)) ∙ atom in
      let now_in : has ats (now_of p) ≡ true = whole (now_of p) ∙ now_atom E p in_e in
      let d : differ (numbered ats (number v ats) (past_of p)) (numbered ats (number v ats) (now_of p)) ≡ true = first_so _ _ h in
      let s : stays_from (past_of p) ats (number v ats) 0 table ≡ true = second_so _ _ h in
      record {
        can = can;
        atom = in_e;
        differs = λ e. differ_is _ _ d (numbered_number v ats (past_of p) atom ∙ e ∙ sym (numbered_number v ats (now_of p) now_in));
        stays = λ w k.
            let l : number w ats < n = number_below w ats in
            let a : agree (past_of p) ats (number v ats) (number w ats) ≡ true = agree_numbers (past_of p) v w k ats in
            sym (same_holds w) ∙ stays_tells ats E (past_of p) (number v ats) 0 n s (number w ats) (omega arith) (omega arith) a;
      }

  all_tell : is_checked c E ats parts ≡ true → IsEdgeShown waited c
  all_tell h = record {
    past = first_so _ _ h;
    each = λ v k.
        let l : number v ats < n = number_below v ats in
        let at : holds (numbered ats (number v ats)) E ≡ true = same_holds v ∙ k in
        let any : list_any (shows_at table ats (number v ats)) parts ≡ true = shown_tells ats E table parts 0 n (second_so _ _ h) (number v ats) (omega arith) (omega arith) at in
        let s = shown_by waited ats (shows_at table ats (number v ats)) (sym (order_any (shows_at table ats (number v ats)) (showing_parts waited ats)) ∙ any) in
        let p : Part = s.part in
        (p, part_shows v p s.can s.atom s.passes);
  }

  tell_all : IsEdgeShown waited c → is_checked c E ats parts ≡ true
  tell_all h = and_from _ _ h.past (shown_all ats E table parts 0 n (λ i k. at i (h.each (numbered ats i) k)))
    where
      at : (i : ℕ) → (p : Part) × Shows waited E (numbered ats i) p → list_any (shows_at table ats i) parts ≡ true
      at i s =
          let p : Part = s.0 in
          order_any (shows_at table ats i) (showing_parts waited ats)
          ∙ is_showing waited ats (shows_at table ats i) p s.1.can (whole (past_of p) ∙ s.1.atom)
          (and_from _ _ (is_differ _ _ s.1.differs) (stays_all ats E (past_of p) i 0 n (λ j a. s.1.stays (numbered ats j) (λ t o. agree_same (past_of p) ats i j a t o))))

  pub checked_is : is_checked c E ats parts ≡ is_edge_shown waited c
  checked_is = both_ways (is_checked c E ats parts) (is_edge_shown waited c) (λ h. from_all waited c (all_tell h)) (λ h. tell_all (to_all waited c h))

-- ---- the atoms that were found

pub atoms_distinct : (e : Tree) → AreDistinct (atoms_of e)
unfolding atoms_of
atoms_distinct e = once_distinct (subterms e ++ presents (subterms e))

few_false : (k : ℕ) → k ≤ 12 → not (nat_le k 12) ≡ false
few_false k h = grind (arith, nat_tests)

many_true : (k : ℕ) → 12 < k → not (nat_le k 12) ≡ true
many_true k h = grind (arith, nat_tests)

module _ (ns : List TermNode) (c e : Tree) (ids : List TermId) (is : e ≡ edge_part c) where
  pub few_atoms : AreAllIdsOf ns (atoms_of e) ids → has_too_many_atoms c ≡ false
  unfolding has_too_many_atoms
  few_atoms a =
      let l : length (atoms_of e) ≤ length (trees_at ns ids) = fits_in (atoms_of e) (trees_at ns ids) (atoms_distinct e) a.whole in
      let m : length (trees_at ns ids) ≡ length ids = map_length (tree_at (trees ns)) ids in
      let f = a.few in
      ap (λ u. not (nat_le (length (atoms_of u)) 12)) (sym is) ∙ few_false (length (atoms_of e)) (omega arith)

  pub many_atoms : AreIdsOf ns (atoms_of e) ids → 12 < length ids → has_too_many_atoms c ≡ true
  unfolding has_too_many_atoms
  many_atoms a h =
      let l : length (trees_at ns ids) ≤ length (atoms_of e) = fits_in (trees_at ns ids) (atoms_of e) a.distinct a.sound in
      let m : length (trees_at ns ids) ≡ length ids = map_length (tree_at (trees ns)) ids in
      ap (λ u. not (nat_le (length (atoms_of u)) 12)) (sym is) ∙ many_true (length (atoms_of e)) (omega arith)

  same_has : AreAllIdsOf ns (atoms_of e) ids → (t : Tree) → has (trees_at ns ids) t ≡ has (atoms_of (edge_part c)) t
  same_has a t = both_ways (has (trees_at ns ids) t) (has (atoms_of e) t) (a.are.sound t) (a.whole t) ∙ ap (λ u. has (atoms_of u) t) is

  pub atoms_check : (waited : List Part) → AreAllIdsOf ns (atoms_of e) ids → (ps : List Part) → ps ≡ in_order (showing_parts waited (trees_at ns ids))
      → is_checked c e (trees_at ns ids) ps ≡ is_edge_shown waited c
  atoms_check waited a ps q = (λ i. is_checked c (is i) (trees_at ns ids) (q i)) ∙ checked_is waited c (trees_at ns ids) (same_has a)

  pub atoms_triggers : (waited : List Part) → AreAllIdsOf ns (atoms_of e) ids → (ps : List Part) → ps ≡ in_order (showing_parts waited (trees_at ns ids)) → triggers_at c ps ≡ triggers_of waited c
  unfolding triggers_of
  atoms_triggers waited a ps q =
      ap (triggers_at c) (q ∙ showing_one waited (trees_at ns ids) (atoms_of (edge_part c)) a.are.distinct (atoms_distinct (edge_part c)) (same_has a))
