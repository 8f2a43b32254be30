-- Nothing stops an activation of a process of a well-formed module but too many open calls, so that of its flat text is one of it.
use Rattle.std.proofs.Common.{◌≡◌, ℕ, zero, suc, List, [], ◌∷◌, length, Some, refl, ap, sym, ◌∙◌}
use Rattle.std.specs.Option.{option_and_then}
use Rattle.std.proofs.lemmas.Option.{none-some}
use Rattle.lh_unit.specs.Contents.{UnitText}
use Rattle.lh_unit.specs.Activation.{Scene, Stand, is_new, waits, halted, ProcessState, Point, Activated, run, control_from, start_point, activate, functions}
use Rattle.lh_unit.specs.Arena.{contents, unit_text_at}
use Rattle.lh_exec.specs.Standing.{scene_of}
use Rattle.lh_exec.specs.Steady.{IsSteady, InstructionsLead}
use Rattle.lh_exec.proofs.BeginsHeld.{begin-holds, activation-steady}
use Rattle.lh_flat.specs.Flat.{flat_unit}
use Rattle.lh_flat_laws.specs.Activates.{ActivationGoesOn, flat_stand, EndsAlike}
use Rattle.lh_flat_laws.proofs.FlatActivations.{activates_alike}
use Rattle.lh_flat_laws.proofs.TidyUnits.{functions_are_tidy, processes_are_tidy}
use Rattle.lh_flat_state_laws.specs.Acts.{FlatTextsAct}

-- each point that is reached is steady
abbrev pub AllSteady : Scene → (width : ℕ) → Point → Type 0
AllSteady s width p = (points : List Point) (q : Point) → InstructionsLead s p points q → IsSteady s width q

pub goes-on : (n : ℕ) (s : Scene) (width : ℕ) (p : Point) → AllSteady s width p → ActivationGoesOn n s p
goes-on zero s width p h = tt
goes-on (suc n) s width p h = (λ e. ((h [] p refl).stops e).1, λ q e. goes-on n s width q (λ points r k. h (q ∷ points) r (e, k)))

-- a process that has halted has no activation, nor has its flat text
pub halted-none : (bound : ℕ) (s : Scene) (u : UnitText) (p : ProcessState) (done : Activated) → p.stand ≡ halted → activate bound s u p ≡ Some done → ⊥
unfolding activate
halted-none bound s u p done e h = none-some done (sym (ap (λ v. option_and_then (λ c. run bound s (start_point c)) (control_from u p.held v)) e) ∙ h)

pub flat_texts_act : FlatTextsAct
flat_texts_act a u args now t s process flat name text bound limit done b e m l r = by process.stand refl
  where
    acts : (process.stand ≡ halted → ⊥) → (d : Activated) × (activate limit (scene_of a now t) (unit_text_at a u) process ≡ Some d) × EndsAlike (functions (contents a)) (unit_text_at a u) d done
    acts h =
        let z = begin-holds a u b.arena b.within b.process b.formed (length now) args b.ranges s.stand b.fits process b.stands h in
        activates_alike (scene_of a now t) (unit_text_at a u) name text process flat bound limit done e (processes_are_tidy a u b.arena b.formed b.within b.process)
        (functions_are_tidy (contents a) b.formed) m l
        record {
          control = z.0;
          begins = z.1;
          goes_on = goes-on limit (scene_of a now t) (length now) (start_point z.0)
              (λ points q k. activation-steady a u b.arena b.within b.process b.formed now t args b.ranges s.stand b.fits process b.stands z.0 z.1 points q k);
        }
        r

    by : (v : Stand) → process.stand ≡ v → (d : Activated) × (activate limit (scene_of a now t) (unit_text_at a u) process ≡ Some d) × EndsAlike (functions (contents a)) (unit_text_at a u) d done
    by halted q = absurd (halted-none bound (scene_of a now t) (flat_unit name text) flat done (m.stand ∙ ap (flat_stand (functions (contents a)) (unit_text_at a u)) q) r)
    by is_new q = acts (λ h. absurd cc)
    by (waits block to on wake) q = acts (λ h. absurd cc)
