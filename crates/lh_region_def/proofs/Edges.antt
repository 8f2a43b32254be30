-- An edge from the end of a block: what its target asks for is known on it, and is there for the `phi` that it takes.
use Rattle.std.proofs.Common.{◌≡◌, ◌⊎◌, inl, inr, ℕ, List, [], ◌∷◌, ◌++◌, Bool, true, false, cond, Some, refl, ap, sym, ◌∙◌, subst, append_assoc}
use Rattle.std.specs.Bool.{if◌then◌else◌}
use Rattle.std.specs.Prelude.{slice_get}
use Rattle.std.specs.List.{list_any}
use Rattle.std.specs.Option.{option_and_then}
use Rattle.std.proofs.lemmas.Bool.{false≢true}
use Rattle.std.proofs.lemmas.Option.{none-some}
use Rattle.lh_types.specs.Types.{TypeTree, void_type}
use Rattle.lh_unit.specs.Contents.{EdgeText, InstText, phi_text, br_text, branch_text, wait_text, halt_text, ret_text, LineText, BlockText, UnitText, is_result_name}
use Rattle.lh_unit_names.specs.Names.{same_name}
use Rattle.lh_unit.specs.Named.{block_of, label_or}
use Rattle.lh_unit.specs.Activation.{edge_from}
use Rattle.lh_unit.specs.Places.{is_terminator, leads_to, last_leads_to, has_edge}
use Rattle.lh_unit.specs.Typing.{value_type, is_value_type, result_type}
use Rattle.lh_unit.specs.Within.{Each}
use Rattle.lh_unit.proofs.Lists.{Each-zip}
use Rattle.lh_unit.specs.declared.inst.UnitKind.TheVariants as kind
use Rattle.lh_unit_names.proofs.NameLists.{same_name-is, same_name-refl}
use Rattle.lh_verify_laws.specs.Defined.{IsThere, IsThereOnEdge, OperandsThere}
use Rattle.lh_verify_laws.specs.Operands.{IsOf, RowIs}
use Rattle.lh_verify_laws.proofs.AtPlaces.{place-at}
use Rattle.lh_verify_laws.proofs.There.{there-after, last-leads}
use Rattle.lh_flat_laws.specs.Formed.{IsFormed, PhiFormed}
use Rattle.lh_region_def.specs.Known.{Knowledge, value_known}
use Rattle.lh_region_def.specs.Joins.{RegionEdge}
use Rattle.lh_region_def.specs.Typed.{Among, KnowsTyped, KnowsThere, IsCondition, PhiKnown, JoinEdge}
use Rattle.lh_region_def.proofs.Sites.{Site, site-at, block-at, not-result}
use Rattle.lh_region_def.proofs.KnowledgeChanges.{there-past}
use Rattle.lh_region_def.proofs.Operations.{value-known}

-- an edge that is named is found
edge-found : (P : EdgeText → Type 0) (from : List ℕ) (es : List EdgeText) → Each P es → (e : EdgeText) → Among e es → e.block ≡ from → (x : EdgeText) × P x × (x.block ≡ from)
    × (edge_from from es ≡ Some x.value)
edge-found P from [] h e o q = elim o [ ]
edge-found P from (x ∷ es) h e o q = at (same_name x.block from) refl o (λ m. edge-found P from es h.1 e m q)
  where
    named : (y : EdgeText) → y ≡ e → same_name y.block from ≡ true
    named y p = ap (λ (z : EdgeText). same_name z.block from) p ∙ ap (λ n. same_name n from) q ∙ same_name-refl from

    at : (b : Bool) → same_name x.block from ≡ b → (x ≡ e) ⊎ Among e es → (Among e es → (y : EdgeText) × P y × (y.block ≡ from) × (edge_from from es ≡ Some y.value))
        → (y : EdgeText) × P y × (y.block ≡ from) × ((if b then Some x.value else edge_from from es) ≡ Some y.value)
    at true k m go = (x, h.0, same_name-is x.block from k, refl)
    at false k (inl p) go = absurd (false≢true (sym k ∙ named x p))
    at false k (inr m) go = go m

terminator-gives : (i : InstText) (t : TypeTree) → is_terminator i ≡ true → result_type i ≡ Some t → ⊥
terminator-gives (br_text to) t e r = none-some t r
terminator-gives (branch_text cond first second) t e r = none-some t r
terminator-gives (wait_text to after signals) t e r = none-some t r
terminator-gives halt_text t e r = none-some t r
terminator-gives (ret_text o) t e r = none-some t r
terminator-gives _ t e r = absurd cc

pub value-no-void : (t : TypeTree) → is_value_type t ≡ true → t ≡ void_type → ⊥
value-no-void t v e = let q : is_value_type void_type ≡ true = sym (ap is_value_type e) ∙ v in cc

module _ (u : UnitText) (f : IsFormed u) (i : ℕ) (from : List ℕ) (text : BlockText) (at : slice_get u.blocks i ≡ Some text) (named : block_of from u.blocks ≡ Some text)
    (label : text.label ≡ Some from)
    (before : List LineText) (l : LineText) (split : text.lines ≡ before ++ l ∷ []) (ends : is_terminator l.inst ≡ true) (k : Knowledge) (typed : KnowsTyped u k)
    (there : KnowsThere u text before k) where
  -- at the end of the block what is there is known
  pub end-known : KnowsThere u text text.lines k
  end-known =
      let s = site-at u f i text before l [] at split in
      subst (λ ls. KnowsThere u text ls k) (sym split) (there-past u text before l k k there (λ n h. h) (λ n t v w q. absurd (clash n t v q s)))
    where
      clash : (n : List ℕ) (t : TypeTree) → value_type u n ≡ Some t → is_result_name n l.result ≡ true → Site u text before l [] → ⊥
      clash n t v q s = let z = not-result u l s.sound n t v (terminator-gives l.inst t ends) in cc

  module _ (to : List ℕ) (j : ℕ) (b : BlockText) (here : slice_get u.blocks j ≡ Some b) (stands : block_of to u.blocks ≡ Some b) (called : b.label ≡ Some to)
      (leads : list_any (λ m. same_name m to) (leads_to l.inst) ≡ true) where
    label-is : label_or b.label ≡ to
    label-is = ap label_or called

    edge : has_edge text (label_or b.label) ≡ true
    edge = ap (has_edge text) label-is ∙ ap (λ ls. list_any (λ m. same_name m to) (last_leads_to ls)) split ∙ ap (list_any (λ m. same_name m to)) (last-leads before l) ∙ leads

    pub start-known : KnowsThere u b [] k
    start-known n t v w h = end-known n t v w (there-after u text b edge (ap (λ x. block_of x u.blocks) label-is ∙ stands) n h)

    module _ (e : RegionEdge) (known : e.known ≡ k) (left : e.from ≡ from) where
      abbrev Good : TypeTree → EdgeText → Type 0
      Good ty x = IsThereOnEdge u (label_or b.label) x × IsOf u ty x.value

      phi-known : (seen : List LineText) (x : LineText) (more : List LineText) → b.lines ≡ seen ++ x ∷ more → PhiKnown e x.inst
      phi-known seen x more z = let s = site-at u f j b seen x more here z in by s.number s.entry x.inst s.phi s.there s.sound.row
        where
          by : (m : ℕ) (d : Bool) (i : InstText) → PhiFormed u (place-at m d b seen x more) i → OperandsThere kind.Proc u (place-at m d b seen x more) i → RowIs u i → PhiKnown e i
          by m d (phi_text ty es) p o row =
              let one = block-at (λ (y : BlockText). has_edge y (label_or b.label) ≡ true → (e : EdgeText) × Among e es × (e.block ≡ label_or y.label)) u.blocks i text p.named at edge in
              let both = Each-zip (IsThereOnEdge u (label_or b.label)) (λ (y : EdgeText). IsOf u ty y.value) (Good ty) (λ y a c. (a, c)) es o row.1 in
              let y = edge-found (Good ty) from es both one.0 one.1 (one.2 ∙ ap label_or label) in
              let at-end : IsThere u text text.lines y.0.value = y.1.0 text (ap (λ n. block_of n u.blocks) y.2 ∙ named) edge in
              let v = value-known u k typed y.0.value ty y.1.1 row.0 (end-known y.0.value ty y.1.1 (value-no-void ty row.0) at-end) in
              (v.0, ap (λ n. option_and_then (value_known e.known) (edge_from n es)) left ∙ ap (option_and_then (value_known e.known)) y.3 ∙ ap (λ q. value_known q y.0.value) known ∙ v.1, v.2)
          by m d _ p o row = tt

      phis-known : (seen ls : List LineText) → b.lines ≡ seen ++ ls → Each (λ (x : LineText). PhiKnown e x.inst) ls
      phis-known seen [] z = tt
      phis-known seen (x ∷ ls) z = (phi-known seen x ls z, phis-known (seen ++ x ∷ []) ls (z ∙ sym (append_assoc seen (x ∷ []) ls)))

      -- so the edge may join others there
      pub edge-joins : IsCondition e.cond → JoinEdge u b e
      edge-joins c = record {
        cond = c;
        known = subst (KnowsTyped u) (sym known) typed;
        there = subst (KnowsThere u b []) (sym known) start-known;
        phis = phis-known [] b.lines refl;
      }
