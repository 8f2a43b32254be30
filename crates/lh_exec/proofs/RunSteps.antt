-- One instruction after the other: what is left to run.
use Rattle.std.proofs.Common.{◌≡◌, ℕ, suc, List, length, Bool, true, false, Option, refl, ap, sym, ◌∙◌, subst}
use Rattle.lh_time.specs.declared.Instant.{Instant}
use Rattle.lh_unit.specs.Contents.{UnitText}
use Rattle.lh_unit.specs.Activation.{Point, Activated, waits, halted, Next, goes, ends, no_step, step, run, went}
use Rattle.lh_unit.specs.Arena.{Arena, contents, unit_text_at, label_name_at}
use Rattle.lh_exec.specs.declared.machine.Machine.{Machine}
use Rattle.lh_exec.specs.declared.machine.Flow.{Flow}
use Rattle.lh_exec.specs.declared.machine.Flow.TheVariants as flow
use Rattle.lh_exec.specs.Standing.{MachineIs, Ends, InstLeads, goes_on, scene_of}
use Rattle.lh_exec.specs.Sound.{FunctionsRight, PointFits, MachineFits, Finishes, ContinuesActivation}
use Rattle.lh_exec.proofs.KeepsFit.{NextFits, step-fits}

module _ (a : Arena) (now : List Bool) (t : Instant) (fs : FunctionsRight (contents a)) where
  -- the next point
  next-is : (v u : UnitText) (n : Machine) (fl : Flow) (x : Next) → goes_on fl ≡ true → InstLeads a n fl v x → NextFits (contents a) (length now) t u v x → (q : Point) × (x ≡ goes q) × MachineIs a n q
      × PointFits (contents a) (length now) u q
  next-is v u n flow.Goes (goes q) g l f = (q, refl, l, f)
  next-is v u n flow.Goes (ends d) g l f = absurd l
  next-is v u n flow.Goes no_step g l f = absurd l
  next-is v u n (flow.Waits to on) x g l f = absurd cc
  next-is v u n flow.Halts x g l f = absurd cc
  next-is v u n flow.Lost x g l f = absurd cc

  pub more-fit : (m n : Machine) (fl : Flow) → goes_on fl ≡ true → MachineFits a (length now) m → ((p : Point) → MachineIs a m p → InstLeads a n fl p.control.unit (step (scene_of a now t) p))
      → MachineFits a (length now) n
  more-fit m n fl g k go =
      let r = next-is k.point.control.unit k.unit n fl (step (scene_of a now t) k.point) g (go k.point k.is) (step-fits (contents a) now t fs k.unit k.point k.fits) in
      record { unit = k.unit; point = r.0; is = r.2; fits = r.3 }

  pub goes-on : (u : ℕ) (m n : Machine) (fl : Flow) (left more : ℕ) (z : Option Activated) → left ≡ suc more → goes_on fl ≡ true
      → ((p : Point) → MachineIs a m p → InstLeads a n fl p.control.unit (step (scene_of a now t) p))
      → ContinuesActivation a (scene_of a now t) u (length now) left m z → ContinuesActivation a (scene_of a now t) u (length now) more n z
  goes-on u m n fl left more z e g go k =
      let r = next-is k.point.control.unit (unit_text_at a u) n fl (step (scene_of a now t) k.point) g (go k.point k.is) (step-fits (contents a) now t fs (unit_text_at a u) k.point k.fits) in
      record {
        point = r.0;
        is = r.2;
        fits = r.3;
        same = sym (ap (λ (x : Next). went x (run more (scene_of a now t))) r.1) ∙ sym (ap (λ (i : ℕ). run i (scene_of a now t) k.point) e) ∙ k.same;
      }

  ends-as : (u : ℕ) (v : UnitText) (n : Machine) (fl : Flow) (x : Next) (more : Point → Option Activated) → goes_on fl ≡ false → InstLeads a n fl v x
      → NextFits (contents a) (length now) t (unit_text_at a u) v x → Finishes a u (length now) t n fl (went x more)
  ends-as u v n flow.Goes x more g l f = absurd cc
  ends-as u v n (flow.Waits to on) (ends d) more g l
      f = (l.0, subst (λ (y : UnitText). Ends a n y (waits (label_name_at a n.frame.unit.0 n.frame.block.0) (label_name_at a n.frame.unit.0 to.0) on.parts on.wake) d) f.1 l.1, f.0)
  ends-as u v n (flow.Waits to on) (goes q) more g l f = absurd l
  ends-as u v n (flow.Waits to on) no_step more g l f = absurd l
  ends-as u v n flow.Halts (ends d) more g l f = (subst (λ (y : UnitText). Ends a n y halted d) f.1 l, f.0)
  ends-as u v n flow.Halts (goes q) more g l f = absurd l
  ends-as u v n flow.Halts no_step more g l f = absurd l
  ends-as u v n flow.Lost (goes q) more g l f = absurd l
  ends-as u v n flow.Lost (ends d) more g l f = absurd l
  ends-as u v n flow.Lost no_step more g l f = tt

  pub ends-here : (u : ℕ) (m n : Machine) (fl : Flow) (left more : ℕ) (z : Option Activated) → left ≡ suc more → goes_on fl ≡ false
      → ((p : Point) → MachineIs a m p → InstLeads a n fl p.control.unit (step (scene_of a now t) p))
      → ContinuesActivation a (scene_of a now t) u (length now) left m z → Finishes a u (length now) t n fl z
  ends-here u m n fl left more z e g go k =
      subst (Finishes a u (length now) t n fl) (sym (ap (λ (i : ℕ). run i (scene_of a now t) k.point) e) ∙ k.same)
      (ends-as u k.point.control.unit n fl (step (scene_of a now t) k.point) (run more (scene_of a now t)) g (go k.point k.is) (step-fits (contents a) now t fs (unit_text_at a u) k.point k.fits))

  pub none-left : (u : ℕ) (m : Machine) (left : ℕ) (z : Option Activated) → left ≡ 0 → ContinuesActivation a (scene_of a now t) u (length now) left m z → Finishes a u (length now) t m flow.Lost z
  none-left u m left z e k = subst (Finishes a u (length now) t m flow.Lost) (sym (ap (λ (i : ℕ). run i (scene_of a now t) k.point) e) ∙ k.same) tt
