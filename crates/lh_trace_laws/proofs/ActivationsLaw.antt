-- The relation of an activation and its computing form.
use Rattle.std.proofs.Common.{◌≡◌, ℕ, zero, suc, ◌<◌, ◌≤◌, List, [], ◌∷◌, length, refl, sym, ◌∙◌, Option, Some, None, arith}
use Rattle.std.specs.Option.{option_and_then}
use Rattle.lh_unit.specs.Contents.{UnitText}
use Rattle.lh_unit.specs.Activation.{Scene, Control, Point, Next, goes, ends, no_step, Activated, ProcessState, step, went, run, control_at, start_point, activate, LeadsTo, IsActivation}
use Rattle.lh_trace_laws.specs.Activations.{ActivationComputes, RunawayComputes, OneActivation}

module _ (s : Scene) where
  -- fewer than n points lead from p to the end
  record Within (n : ℕ) (p : Point) (done : Activated) : Type 0 where
    points : List Point
    within : length points < n
    leads : LeadsTo s p points done

  from_run : (n : ℕ) (p : Point) (done : Activated) → run n s p ≡ Some done → Within n p done
  from_run zero p done h = cc
  from_run (suc n) p done h = at (step s p) refl h (λ q. from_run n q done)
    where
      at : (x : Next) → step s p ≡ x → went x (run n s) ≡ Some done → ((q : Point) → run n s q ≡ Some done → Within n q done) → Within (suc n) p done
      at (goes q) e k ih = let r = ih q k in record { points = q ∷ r.points; within = omega (arith, r.within); leads = (e, r.leads) }
      at (ends d) e k ih = record { points = []; within = omega arith; leads = cc }
      at no_step e k ih = cc

  to_run : (points : List Point) (n : ℕ) (p : Point) (done : Activated) → length points < n → LeadsTo s p points done → run n s p ≡ Some done
  to_run points zero p done l h = absurd (omega arith)
  to_run [] (suc n) p done l h = rw h refl
  to_run (q ∷ more) (suc n) p done l h = rw h.0 (to_run more n q done (omega arith) h.1)

-- an end that is found within n instructions is found within any greater bound
pub run_enough : (s : Scene) (n bound : ℕ) (p : Point) (done : Activated) → n ≤ bound → run n s p ≡ Some done → run bound s p ≡ Some done
run_enough s n bound p done l h = let r = from_run s n p done h in to_run s r.points bound p done (omega (arith, r.within)) r.leads

to_activate : (bound : ℕ) (s : Scene) (u : UnitText) (p : ProcessState) (done : Activated) → IsActivation bound s u p done → activate bound s u p ≡ Some done
unfolding activate
to_activate bound s u p done a = rw a.begins (to_run s a.points bound (start_point a.control) done a.within a.leads)

from_control : (bound : ℕ) (s : Scene) (u : UnitText) (p : ProcessState) (done : Activated) (o : Option Control) → control_at u p ≡ o
    → option_and_then (λ c. run bound s (start_point c)) o ≡ Some done → IsActivation bound s u p done
from_control bound s u p done None e h = cc
from_control bound s u p done (Some c) e h =
    let r = from_run s bound (start_point c) done h in
    record { control = c; begins = e; points = r.points; within = r.within; leads = r.leads }

from_activate : (bound : ℕ) (s : Scene) (u : UnitText) (p : ProcessState) (done : Activated) → activate bound s u p ≡ Some done → IsActivation bound s u p done
unfolding activate
from_activate bound s u p done h = from_control bound s u p done (control_at u p) refl h

pub activation_computes : ActivationComputes
activation_computes bound s u p done = (to_activate bound s u p done, from_activate bound s u p done)

clash : (done : Activated) → None ≡ Some done → ⊥
clash done e = cc

pub runaway_computes : RunawayComputes
runaway_computes bound s u p = (λ e done a. clash done (sym e ∙ (activation_computes bound s u p done).0 a), λ none. at (activate bound s u p) refl none)
  where
    at : (o : Option Activated) → activate bound s u p ≡ o → ((done : Activated) → ¬ IsActivation bound s u p done) → activate bound s u p ≡ None
    at None e none = e
    at (Some d) e none = absurd (none d ((activation_computes bound s u p d).1 e))

pub one_activation : OneActivation
one_activation bound s u p a b x y =
    let e : activate bound s u p ≡ Some a = (activation_computes bound s u p a).0 x in
    let f : activate bound s u p ≡ Some b = (activation_computes bound s u p b).0 y in
    cc
