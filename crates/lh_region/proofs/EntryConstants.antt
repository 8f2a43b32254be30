-- The constants of an entry that is left, one after the other.
use Rattle.std.proofs.Common.{◌≡◌, ℕ, List, [], ◌∷◌, ◌++◌, Option, Some, None, refl, ap, sym, ◌∙◌, subst}
use Rattle.lh_unit.specs.Typing.{or_else}
use Rattle.lh_flat.specs.declared.flat.FlatInst.{FlatInst}
use Rattle.lh_term.specs.Tree.{Tree}
use Rattle.lh_term.specs.Arena.{Grows}
use Rattle.lh_term.specs.declared.term.TermId.{TermId}
use Rattle.lh_term.specs.declared.term.TermNode.{TermNode}
use Rattle.lh_term.proofs.Swaps.{stands_grown, grows_on}
use Rattle.lh_region_places.specs.declared.state.PlaceState.{PlaceState}
use Rattle.lh_region_places.specs.Asked.{kept_by}
use Rattle.lh_region.specs.Starts.{constant_as, constant_given, StandsMaybe, KnowsConstants, IsTaken, TakesConstant}

else-none : (o : Option Tree) → or_else o None ≡ o
else-none None = refl
else-none (Some x) = refl

pub else-else : (a b c : Option Tree) → or_else (or_else a b) c ≡ or_else a (or_else b c)
else-else None b c = refl
else-else (Some x) b c = refl

given-push : (ls : List FlatInst) (l : FlatInst) (v : ℕ) → constant_given (ls ++ l ∷ []) v ≡ or_else (constant_as v l) (constant_given ls v)
given-push [] l v = sym (else-none (constant_as v l))
given-push (k ∷ ls) l v = ap (λ (o : Option Tree). or_else o (constant_as v k)) (given-push ls l v) ∙ else-else (constant_as v l) (constant_given ls v) (constant_as v k)

pub maybe-grown : (ns ms : List TermNode) (o : Option TermId) (x : Option Tree) → Grows ns ms → StandsMaybe ns o x → StandsMaybe ms o x
maybe-grown ns ms None None g s = tt
maybe-grown ns ms None (Some x) g s = absurd s
maybe-grown ns ms (Some t) None g s = absurd s
maybe-grown ns ms (Some t) (Some x) g s = stands_grown ns ms g t x s

taken-maybe : (ms : List TermNode) (given : Option Tree) (old new : Option TermId) (before : Option Tree) → IsTaken ms given old new → StandsMaybe ms old before → StandsMaybe ms new (or_else given before)
taken-maybe ms None old new before t s = subst (λ (o : Option TermId). StandsMaybe ms o before) (sym t) s
taken-maybe ms (Some x) old new before t s = subst (λ (o : Option TermId). StandsMaybe ms o (Some x)) (sym t.1) t.2

-- the constants of the instructions so far are known
pub record StartSoFar (old now : List TermNode) (first p : PlaceState) (seen : List FlatInst) : Type 0 where
  pub grows : Grows old now
  pub block : p.block ≡ first.block
  pub edges : p.edges ≡ first.edges
  pub selectors : p.selectors ≡ first.selectors
  pub known : KnowsConstants now p seen

pub start-next : (old now new : List TermNode) (first p q : PlaceState) (seen after : List FlatInst) (l : FlatInst) → after ≡ seen ++ l ∷ [] → Grows now new → TakesConstant new p l q
    → StartSoFar old now first p seen → StartSoFar old new first q after
start-next old now new first p q seen after l e g t s = record {
  grows = grows_on old now new s.grows g;
  block = t.block ∙ s.block;
  edges = t.edges ∙ s.edges;
  selectors = t.selectors ∙ s.selectors;
  known = λ v.
      subst (λ (ls : List FlatInst). StandsMaybe new (kept_by v q) (constant_given ls v)) (sym e)
      (subst (StandsMaybe new (kept_by v q)) (sym (given-push seen l v))
      (taken-maybe new (constant_as v l) (kept_by v p) (kept_by v q) (constant_given seen v) (t.known v) (maybe-grown now new (kept_by v p) (constant_given seen v) g (s.known v))));
}
