-- The values that a `phi` names for the edges to its place, merged.
use Rattle.std.proofs.Common.{◌≡◌, ℕ, ◌<◌, List, [], ◌∷◌, length, map, Option, Some, slice_get, ap, sym, ◌∙◌, subst, arith}
use Rattle.lh_unit.specs.Within.{Each}
use Rattle.lh_unit.specs.declared.inst.PhiEdge.{PhiEdge}
use Rattle.lh_term.specs.Tree.{Tree}
use Rattle.lh_term.specs.Arena.{StandsForTree, Grows}
use Rattle.lh_term.specs.declared.term.TermId.{TermId}
use Rattle.lh_term.specs.declared.term.TermNode.{TermNode}
use Rattle.lh_term.proofs.Arenas.{map_length}
use Rattle.lh_region_joins.specs.declared.edge.Edge.{Edge}
use Rattle.lh_region_joins.specs.Joins.{chosen_by}
use Rattle.lh_region_places.specs.declared.state.PlaceState.{PlaceState}
use Rattle.lh_region.specs.declared.taking.PlaceValue.{PlaceValue}
use Rattle.lh_region_places.specs.Asked.{source_of, edges_at, IsBelow, IsJoin, CanJoin, IsJoined, SamePlaces, IsSelectedAt, joined_by}
use Rattle.lh_region.specs.Taken.{told_of, CanAskAll, StillToldAll, ValuesAreTold, phi_ask, phi_asks, IsMerge, IsMerged}
use Rattle.lh_region_places.proofs.PlaceLists.{edges-of, same-edges}
use Rattle.lh_region_places.proofs.ToldValues.{made-trees, made-length, can-join, selectors-grown, conds-at, tells-grown, tells-selected}
use Rattle.lh_region.proofs.AskedValues.{there-from}

phi-within : (n i : ℕ) (operands : List PhiEdge) (es : List Edge) → i < n → Each (IsBelow i) (map source_of es) → Each (λ (a : PlaceValue). a.place < n) (phi_asks operands es)
phi-within n i operands [] l h = tt
phi-within n i operands (e ∷ es) l h = let k = h.0 in (omega (arith, l, k), phi-within n i operands es l h.1)

pub phi-asked : (ns : List TermNode) (ps : List PlaceState) (i : ℕ) (operands : List PhiEdge) → i < length ps → IsMerge ns ps i operands → CanAskAll ns ps (phi_asks operands (edges_at ps i))
phi-asked ns ps i operands l c = record {
  told = c.told;
  tells = c.tells;
  within = phi-within (length ps) i operands (edges_at ps i) l (c.tells.earlier i);
  there = there-from c.told (phi_asks operands (edges_at ps i)) (c.first ∷ c.others) c.each;
}

module _ (ns ms : List TermNode) (ps qs : List PlaceState) (i : ℕ) (operands : List PhiEdge) (ts : List TermId) (same : SamePlaces ps qs) (g : Grows ns ms)
    (still : StillToldAll ns ps ms qs (phi_asks operands (edges_at ps i))) (m : ValuesAreTold ns ps ms (phi_asks operands (edges_at ps i)) ts) where
  pub phi-joins : IsMerge ns ps i operands → (p : PlaceState) → slice_get qs i ≡ Some p → IsJoin ms p × CanJoin ms p ts
  phi-joins c p e =
      let asks = phi_asks operands (edges_at ps i) in
      let S : Tree → Option Tree = Some in
      let t = still c.told c.tells (there-from c.told asks (c.first ∷ c.others) c.each) in
      let made = m c.told (c.first ∷ c.others) c.tells c.each in
      let long : length ts ≡ length (edges_at ps i) =
      made-length ms ts (c.first ∷ c.others) made ∙ sym (map_length S (c.first ∷ c.others)) ∙ ap length (sym c.each) ∙ map_length (told_of c.told) asks
      ∙ map_length (phi_ask operands) (edges_at ps i) in
      (t.places i p e, can-join ms p ts c.first c.others made c.alike (long ∙ ap length (sym (same-edges ps qs same i) ∙ edges-of qs i p e)))

  pub phi-merged : (os : List TermNode) (t : TermId) → IsJoined ms (edges_at qs i) ts os t → IsMerged ns ps os i operands t
  phi-merged os t j told y ys u e =
      let s = j y ys (made-trees ms ts (y ∷ ys) (m told (y ∷ ys) u e)) in
      let edges = same-edges ps qs same i in
      subst (λ (ss : List Tree). StandsForTree os t (chosen_by ss y ys)) (selectors-grown ns ms (edges_at ps i) g (conds-at ns ps u.places i))
      (subst (λ (es : List Edge). StandsForTree os t (joined_by ms es y ys)) edges s)

  pub phi-still : (os : List TermNode) (rs : List PlaceState) → Grows ms os → IsSelectedAt os qs i rs → StillToldAll ns ps os rs (phi_asks operands (edges_at ps i))
  phi-still os rs h s told u k = tells-selected os qs rs i told s (tells-grown ms os qs told h (still told u k))
