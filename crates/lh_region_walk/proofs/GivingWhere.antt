-- The last place gives a constant, a value or an operation, as terms are made of what is told.
use Rattle.std.proofs.Common.{◌≡◌, ℕ, List, Some, ap, sym, ◌∙◌, subst}
use Rattle.std.specs.Option.{is_some}
use Rattle.lh_types.specs.declared.op.Op.{Op}
use Rattle.lh_unit.specs.declared.inst.Typed.{Typed}
use Rattle.lh_term.specs.Tree.{Tree}
use Rattle.lh_term.specs.Arena.{StandsForTree, Grows}
use Rattle.lh_term.specs.declared.term.TermId.{TermId}
use Rattle.lh_term.specs.declared.term.TermNode.{TermNode}
use Rattle.lh_region_places.specs.declared.state.PlaceState.{PlaceState}
use Rattle.lh_region_places.specs.Asked.{SamePlaces, StillTold, IsTold}
use Rattle.lh_region.specs.Taken.{asks_at, StillToldAll, IsOperated}
use Rattle.lh_region.specs.Gives.{GivesTerm}
use Rattle.lh_region_walk.specs.Lines.{IsThat, IsToldOf, IsOperationOn, GivesWhere}
use Rattle.lh_region_places.proofs.PlaceLists.{same-length}
use Rattle.lh_region_places.proofs.ToldValues.{tells-grown}
use Rattle.lh_region.proofs.AskedValues.{there-from}

pub gives-that : (ns ms : List TermNode) (ps qs : List PlaceState) (i v : ℕ) (t : TermId) (y : Tree) → Grows ns ms → StandsForTree ms t y → GivesTerm ps i v t qs → GivesWhere (IsThat y) ns ps i v ms qs
gives-that ns ms ps qs i v t y grows st g s k a x tells c last low d p term known = g ms s k a x (tells-grown ns ms ps s.told grows tells) c last low d term (subst (StandsForTree ms t) (sym p) st)
    known

pub gives-told : (ns ms : List TermNode) (ps qs rs : List PlaceState) (i u v : ℕ) (t : TermId) → SamePlaces ps qs → StillTold ns ps ms qs u i → IsTold ns ps ms u i t → GivesTerm qs i v t rs
    → GivesWhere (IsToldOf i u) ns ps i v ms rs
gives-told ns ms ps qs rs i u v t same still told g s k a x tells c last low d p term known =
    let z = told s.told tells (ap is_some p) in
    let f : Some z.0 ≡ Some x = sym z.1 ∙ p in
    let e : z.0 ≡ x = cc in
    g ms s k a x (still s.told tells (ap is_some p)) (c ∙ sym (same-length ps qs same)) last low d term (subst (StandsForTree ms t) e z.2) known

pub gives-operated : (ns ms : List TermNode) (ps qs rs : List PlaceState) (i v : ℕ) (o : Op) (xs : List Typed) (t : TermId) → SamePlaces ps qs → StillToldAll ns ps ms qs (asks_at i xs)
    → IsOperated ns ps ms i o xs t → GivesTerm qs i v t rs → GivesWhere (IsOperationOn i o xs) ns ps i v ms rs
gives-operated ns ms ps qs rs i v o xs t same still made g s k a x tells c last low d p term known =
    g ms s k a x (still s.told tells (there-from s.told (asks_at i xs) p.0 p.1)) (c ∙ sym (same-length ps qs same)) last low d term (subst (StandsForTree ms t) (sym p.2) (made s.told p.0 tells p.1))
    known
