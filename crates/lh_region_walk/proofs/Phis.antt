-- The `phi`s of a block are taken from the last line to the first.
use Rattle.std.proofs.Common.{◌≡◌, ℕ, zero, suc, ◌+◌, ◌-◌, ◌<◌, ◌≤◌, false, List, [], ◌∷◌, ◌++◌, length, drop, get_or, Option, Some, None, refl, ap, sym, ◌∙◌, subst, arith}
use Rattle.std.proofs.lemmas.List.{map_push}
use Rattle.lh_unit.specs.Contents.{InstText, phi_text}
use Rattle.lh_unit.specs.Naming.{Naming, maybe_text, inst_text}
use Rattle.lh_unit.specs.Within.{Each}
use Rattle.lh_unit.specs.declared.inst.ValueId.{ValueId}
use Rattle.lh_unit.specs.declared.inst.PhiEdge.{PhiEdge}
use Rattle.lh_unit.specs.declared.inst.Inst.{Inst}
use Rattle.lh_unit.specs.declared.inst.Inst.TheVariants as inst
use Rattle.lh_unit.proofs.Lists.{drop-item}
use Rattle.lh_flat.specs.declared.flat.MergeEdge.{MergeEdge}
use Rattle.lh_flat.specs.declared.flat.Merge.{Merge}
use Rattle.lh_flat.specs.declared.flat.FlatInst.{FlatInst}
use Rattle.lh_term.specs.Arena.{Grows}
use Rattle.lh_term.specs.declared.term.TermNode.{TermNode}
use Rattle.lh_term.proofs.Swaps.{grows_on}
use Rattle.lh_region_joins.proofs.Conditions.{grows-none}
use Rattle.lh_region_def.specs.Known.{Knowledge}
use Rattle.lh_region_def.specs.Joins.{RegionEdge, with_phi}
use Rattle.lh_region_places.specs.declared.state.PlaceState.{PlaceState}
use Rattle.lh_region.specs.Heads.{is_phi}
use Rattle.lh_region.specs.Walking.{Story}
use Rattle.lh_region_walk.specs.Merges.{IsMerging, IsPhi, CanTakePhi, TakesPhi, PhiFits, LineFits, CanTakeLines, phis_given, TakesPhis, as_phi, as_phis, MergeFits, merge_given, CanTakeMerge, TakesMerge}

-- ---- one line

-- a line that is a `phi`
module _ (ns : List TermNode) (ps : List PlaceState) (i : ℕ) (l : FlatInst) (v : ValueId) (ty : _) (ops : List PhiEdge) (result : l.result ≡ Some v) (is : l.inst ≡ inst.Phi ty ops) where
  line-phi : (s : Story) (es : List RegionEdge) → LineFits s es l → IsPhi s es v.0 ty ops
  line-phi s es f = subst (λ (j : Inst). PhiFits s es (Some v) j) is (subst (λ (r : Option ValueId). PhiFits s es r l.inst) result f)

  pub line-can : CanTakeLines ns ps i (l ∷ []) → CanTakePhi ns ps i v.0 ops
  line-can c = record { before = c.before; first = c.first; more = c.more; knows = c.knows; ty = ty; merging = c.merging; phi = line-phi c.before (c.first ∷ c.more) c.fits.0 }

  pub line-takes : (ms : List TermNode) (qs : List PlaceState) → TakesPhi ns ps i v.0 ops ms qs → TakesPhis ns ps i (l ∷ []) ms qs
  line-takes ms qs t before x xs k m f =
      subst (λ (j : Inst). IsMerging ms qs i before x xs (with_phi (x ∷ xs) (inst_text before.naming j) (maybe_text before.naming l.result) k)) (sym is)
      (subst (λ (r : Option ValueId). IsMerging ms qs i before x xs (with_phi (x ∷ xs) (inst_text before.naming (inst.Phi ty ops)) (maybe_text before.naming r) k)) (sym result)
      (t before x xs k ty m (line-phi before (x ∷ xs) f.0)))

-- a line that gives no value, or is no `phi`
no-result : (f : Naming) (es : List RegionEdge) (j : InstText) (k : Knowledge) → with_phi es j None k ≡ k
no-result f es (phi_text ty ops) k = refl
no-result f es _ k = refl

no-phi : (f : Naming) (es : List RegionEdge) (j : Inst) (r : Option (List ℕ)) (k : Knowledge) → is_phi j ≡ false → with_phi es (inst_text f j) r k ≡ k
no-phi f es (inst.Phi ty ops) r k e = cc
no-phi f es (inst.Ret None) r k e = refl
no-phi f es (inst.Ret (Some t)) r k e = refl
no-phi f es _ r k e = refl

pub nameless-skips : (ns : List TermNode) (ps : List PlaceState) (i : ℕ) (l : FlatInst) → l.result ≡ None → TakesPhis ns ps i (l ∷ []) ns ps
nameless-skips ns ps i l e before x xs k m f =
    let p : with_phi (x ∷ xs) (inst_text before.naming l.inst) (maybe_text before.naming l.result) k ≡ k =
    ap (λ (r : Option ValueId). with_phi (x ∷ xs) (inst_text before.naming l.inst) (maybe_text before.naming r) k) e ∙ no-result before.naming (x ∷ xs) (inst_text before.naming l.inst) k in
    subst (IsMerging ns ps i before x xs) (sym p) m

pub other-skips : (ns : List TermNode) (ps : List PlaceState) (i : ℕ) (l : FlatInst) → is_phi l.inst ≡ false → TakesPhis ns ps i (l ∷ []) ns ps
other-skips ns ps i l e before x xs k m f = subst (IsMerging ns ps i before x xs) (sym (no-phi before.naming (x ∷ xs) l.inst (maybe_text before.naming l.result) k e)) m

-- ---- one line after the other

pub record PhisSoFar (ns : List TermNode) (ps : List PlaceState) (i : ℕ) (seen : List FlatInst) (ms : List TermNode) (qs : List PlaceState) : Type 0 where
  pub grows : Grows ns ms
  pub takes : TakesPhis ns ps i seen ms qs

pub phis-none : (ns : List TermNode) (ps : List PlaceState) (i : ℕ) (seen : List FlatInst) → seen ≡ [] → PhisSoFar ns ps i seen ns ps
phis-none ns ps i seen e = subst (λ (ls : List FlatInst). PhisSoFar ns ps i ls ns ps) (sym e) (record { grows = grows-none ns; takes = λ before x xs k m f. m })

pub phis-next : (ns ms os : List TermNode) (ps qs rs : List PlaceState) (i : ℕ) (seen after : List FlatInst) (l : FlatInst) → after ≡ l ∷ seen → Grows ms os → TakesPhis ms qs i (l ∷ []) os rs
    → PhisSoFar ns ps i seen ms qs → PhisSoFar ns ps i after os rs
phis-next ns ms os ps qs rs i seen after l e g t p =
    subst (λ (ls : List FlatInst). PhisSoFar ns ps i ls os rs) (sym e)
    (record { grows = grows_on ns ms os p.grows g; takes = λ before x xs k m f. t before x xs (phis_given before (x ∷ xs) seen k) (p.takes before x xs k m f.1) (f.0, tt) })

each-drop : (P : FlatInst → Type 0) (n : ℕ) (ls : List FlatInst) → Each P ls → Each P (drop n ls)
each-drop P zero ls h = h
each-drop P (suc n) [] h = tt
each-drop P (suc n) (l ∷ ls) h = each-drop P n ls h.1

pub phis-can : (ns ms : List TermNode) (ps qs : List PlaceState) (i n : ℕ) (ls seen : List FlatInst) (l : FlatInst) → drop n ls ≡ l ∷ seen → PhisSoFar ns ps i seen ms qs → CanTakeLines ns ps i ls
    → CanTakeLines ms qs i (l ∷ [])
phis-can ns ms ps qs i n ls seen l e p c =
    let f : Each (LineFits c.before (c.first ∷ c.more)) (l ∷ seen) = subst (Each (LineFits c.before (c.first ∷ c.more))) e (each-drop (LineFits c.before (c.first ∷ c.more)) n ls c.fits) in
    record {
      before = c.before;
      first = c.first;
      more = c.more;
      knows = phis_given c.before (c.first ∷ c.more) seen c.knows;
      merging = p.takes c.before c.first c.more c.knows c.merging f.1;
      fits = (f.0, tt);
    }

pub drop-back : (ls : List FlatInst) (i : ℕ) (l : FlatInst) → 0 < i → i ≤ length ls → l ≡ get_or ls (i - 1) l → drop (i - 1) ls ≡ l ∷ drop i ls
drop-back ls zero l h k e = absurd (omega (arith, h))
drop-back ls (suc j) l h k e =
    let q : suc j - 1 ≡ j = omega arith in
    let p : j + 1 ≡ suc j = omega arith in
    ap (λ (n : ℕ). drop n ls) q ∙ drop-item ls j l (omega (arith, k)) (e ∙ ap (λ (n : ℕ). get_or ls n l) q) ∙ ap (λ (n : ℕ). l ∷ drop n ls) p

-- ---- a merge

module _ (ns : List TermNode) (ps : List PlaceState) (i : ℕ) (o : Option Merge) (m : Merge) (is : o ≡ Some m) where
  pub merge-can : CanTakeMerge ns ps i o → CanTakePhi ns ps i m.value.0 (as_phis m.edges)
  merge-can c = record { before = c.before; first = c.first; more = c.more; knows = c.knows; ty = m.ty; merging = c.merging; phi = subst (MergeFits c.before (c.first ∷ c.more)) is c.fits }

  pub merge-takes : (ms : List TermNode) (qs : List PlaceState) → TakesPhi ns ps i m.value.0 (as_phis m.edges) ms qs → TakesMerge ns ps i o ms qs
  merge-takes ms qs t before x xs k g f =
      subst (λ (p : Option Merge). IsMerging ms qs i before x xs (merge_given before (x ∷ xs) p k)) (sym is) (t before x xs k m.ty g (subst (MergeFits before (x ∷ xs)) is f))

pub merge-skips : (ns : List TermNode) (ps : List PlaceState) (i : ℕ) (o : Option Merge) → o ≡ None → TakesMerge ns ps i o ns ps
merge-skips ns ps i o is before x xs k g f = subst (λ (p : Option Merge). IsMerging ns ps i before x xs (merge_given before (x ∷ xs) p k)) (sym is) g

-- ---- the edges of a merge

pub as-next : (seen after : List MergeEdge) (e : MergeEdge) (done : List PhiEdge) → after ≡ seen ++ e ∷ [] → done ≡ as_phis seen → done ++ as_phi e ∷ [] ≡ as_phis after
as-next seen after e done a h = ap (λ (ops : List PhiEdge). ops ++ as_phi e ∷ []) h ∙ sym (map_push as_phi seen e) ∙ ap as_phis (sym a)
