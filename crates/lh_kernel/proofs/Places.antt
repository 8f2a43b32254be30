-- What is kept of the instance of a number.
use Rattle.std.proofs.Common.{◌≡◌, ℕ, zero, suc, ◌+◌, ◌≤◌, List, [], ◌∷◌, length, map, Some, None, refl, ap, sym, ◌∙◌, subst}
use Rattle.std.specs.Prelude.{slice_get}
use Rattle.lh_types.specs.declared.part.Range.{Range}
use Rattle.lh_unit.specs.Arena.{Arena}
use Rattle.lh_unit.specs.Within.{Each}
use Rattle.lh_eval.specs.declared.instance.Instance.{Instance}
use Rattle.lh_kernel_changes.specs.Touched.{AreWithin}
use Rattle.lh_elab.specs.Probed.{probed_by, AreProbes}
use Rattle.lh_kernel_states.specs.declared.state.InstState.{InstState}
use Rattle.lh_kernel_states.specs.States.{StateFits}
use Rattle.lh_kernel.specs.States.{StatesFit}

-- parts within so many bits
pub are_within : (width : ℕ) (rs : List Range) → Each (λ (r : Range). r.lo + r.len ≤ width) rs → AreWithin width rs
are_within width [] w = tt
are_within width (r ∷ rs) w = (w.0, are_within width rs w.1)

-- an instance has a state, and a state an instance, and it fits
pub fit_at : (a : Arena) (width : ℕ) (is : List Instance) (ss : List InstState) (k : ℕ) (i : Instance) (s : InstState) → StatesFit a width is ss →
    slice_get is k ≡ Some i → slice_get ss k ≡ Some s → StateFits a width i s
fit_at a width [] ss k i s f p q = absurd (none p)
  where
    none : None ≡ Some i → ⊥
    none e = cc
fit_at a width (x ∷ is) [] k i s f p q = absurd f
fit_at a width (x ∷ is) (y ∷ ss) zero i s f p q =
    let e : x ≡ i = cc in
    let d : y ≡ s = cc in
    subst (λ (z : InstState). StateFits a width i z) d (subst (λ (z : Instance). StateFits a width z y) e f.0)
fit_at a width (x ∷ is) (y ∷ ss) (suc k) i s f p q = fit_at a width is ss k i s f.1 p q

pub instance_at : (a : Arena) (width : ℕ) (is : List Instance) (ss : List InstState) (k : ℕ) (s : InstState) → StatesFit a width is ss →
    slice_get ss k ≡ Some s → (i : Instance) × (slice_get is k ≡ Some i)
instance_at a width [] [] k s f q = absurd (none q)
  where
    none : None ≡ Some s → ⊥
    none e = cc
instance_at a width [] (y ∷ ss) k s f q = absurd f
instance_at a width (x ∷ is) [] k s f q = absurd f
instance_at a width (x ∷ is) (y ∷ ss) zero s f q = (x, refl)
instance_at a width (x ∷ is) (y ∷ ss) (suc k) s f q = instance_at a width is ss k s f.1 q

pub as_many : (a : Arena) (width : ℕ) (is : List Instance) (ss : List InstState) → StatesFit a width is ss → length ss ≡ length is
as_many a width [] [] f = refl
as_many a width [] (y ∷ ss) f = absurd f
as_many a width (x ∷ is) [] f = absurd f
as_many a width (x ∷ is) (y ∷ ss) f = ap suc (as_many a width is ss f.1)

-- what an instance probes
get_map : (a : Arena) (is : List Instance) (k : ℕ) (i : Instance) → slice_get is k ≡ Some i → slice_get (map (probed_by a) is) k ≡ Some (probed_by a i)
get_map a [] k i e = absurd (none e)
  where
    none : None ≡ Some i → ⊥
    none e = cc
get_map a (x ∷ is) zero i e = let d : x ≡ i = cc in ap (λ (y : Instance). Some (probed_by a y)) d
get_map a (x ∷ is) (suc k) i e = get_map a is k i e

pub probed_at : (a : Arena) (is : List Instance) (ps : List (List Range)) (k : ℕ) (i : Instance) → AreProbes a is ps → slice_get is k ≡ Some i → slice_get ps k ≡ Some (probed_by a i)
probed_at a is ps k i p e = ap (λ (xs : List (List Range)). slice_get xs k) p ∙ get_map a is k i e

pub as_probed : (a : Arena) (is : List Instance) (ps : List (List Range)) (k : ℕ) (i : Instance) (rs : List Range) → AreProbes a is ps →
    slice_get is k ≡ Some i → slice_get ps k ≡ Some rs → rs ≡ probed_by a i
as_probed a is ps k i rs p e q = let d : Some rs ≡ Some (probed_by a i) = sym q ∙ probed_at a is ps k i p e in cc
