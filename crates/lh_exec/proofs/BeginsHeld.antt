-- Where an activation of a process begins that fits, what is there is held; so nothing goes wrong in it.
use Rattle.std.proofs.Common.{◌≡◌, ℕ, ◌<◌, List, [], length, Bool, true, Option, Some, None, IsSome, refl, ap, sym, ◌∙◌, subst}
use Rattle.std.proofs.lemmas.Option.{same_Some, none-some}
use Rattle.lh_time.specs.declared.Instant.{Instant}
use Rattle.lh_types.specs.declared.part.Range.{Range}
use Rattle.lh_unit.specs.Contents.{LineText, UnitText, wait_text, defines_value}
use Rattle.lh_unit.specs.Held.{Held, Env, nothing_held}
use Rattle.lh_unit.specs.Activation.{halted, Control, Point, ProcessState, Activated, control_at, control_from, start_point, run}
use Rattle.lh_unit.specs.Arena.{Arena, IsArena, contents, kind_at, unit_count, label_name_at, unit_text_at}
use Rattle.lh_unit.specs.Naming.{kind_text}
use Rattle.lh_unit.specs.WellFormed.{in_entity, IsWellFormed}
use Rattle.lh_unit.specs.declared.inst.UnitKind.{UnitKind}
use Rattle.lh_unit.specs.declared.inst.UnitKind.TheVariants as kind
use Rattle.lh_verify_laws.proofs.There.{first-name}
use Rattle.lh_eval.specs.Holding.{Holds}
use Rattle.lh_eval_laws.specs.Ranges.{RangesFit, arg_types}
use Rattle.lh_eval_laws.proofs.FindingPass as passes
use Rattle.lh_eval_laws.proofs.FitLaws.{of-unit, unit-is-sound}
use Rattle.lh_eval_laws.proofs.SoundLines.{items-printable}
use Rattle.lh_exec.specs.declared.state.Stand as declared
use Rattle.lh_exec.specs.declared.state.Stand.TheVariants as stand
use Rattle.lh_exec.specs.Standing.{scene_of}
use Rattle.lh_exec.specs.States.{StandsBy, FitsBy, SlotsFit, HoldsThere}
use Rattle.lh_unit.specs.World.{begun}
use Rattle.lh_exec.specs.Sound.{UnitRight, PointFits, EndHolds}
use Rattle.lh_exec.specs.Steady.{InstructionsLead, IsSteady}
use Rattle.lh_exec.proofs.Rights.{unit-right, functions-right, defined-value}
use Rattle.lh_exec.proofs.Placed.{UnitSteady, FunctionsSteady, PlacesIn, places-of-items, unit-steady, functions-steady}
use Rattle.lh_exec.proofs.Paths.{ControlHolds, entry-holds, line-in, edge-holds}
use Rattle.lh_exec.proofs.Steady.{PointHolds}
use Rattle.lh_exec.proofs.Reached.{reached, run-holds}
use Rattle.lh_exec.proofs.Begins.{process-blocks, begin-fits, same-fits}

module _ (a : Arena) (u : ℕ) (o : IsArena a) (h : u < unit_count a) (process : kind_at a u ≡ Some kind.Proc) (g : IsWellFormed (contents a)) where
  is-kind : (unit_text_at a u).kind ≡ kind.Proc
  is-kind = ap kind_text process

  defined : IsSome (kind_at a u)
  defined = subst (λ (k : Option UnitKind). IsSome k) (sym process) refl

  steady : UnitSteady (unit_text_at a u)
  steady = unit-steady (unit_text_at a u) (ap in_entity is-kind) (unit-is-sound a u o h g defined).printable (of-unit a u o h g defined PlacesIn (places-of-items (contents a) g.1))

  functions-hold : FunctionsSteady (contents a)
  functions-hold = functions-steady (contents a) (places-of-items (contents a) g.1) (items-printable (contents a) g.0)

  right : UnitRight (contents a) (unit_text_at a u)
  right = unit-right a o g u h (process-blocks a u process)

  -- what slots hold is held under each name that is defined
  same-held : (w : ℕ) (slots : List (Option Held)) (e : Env) (f : SlotsFit a u w slots) → Holds a u slots e → (n : List ℕ) → defines_value n (unit_text_at a u) ≡ true → f.env n ≡ e n
  same-held w slots e f d n q =
      let v = defined-value a o g u h n q in
      ap f.env (sym v.2) ∙ sym (f.holds.each v.0 (subst (λ (k : ℕ). v.0.0 < k) (sym f.holds.long) v.1)) ∙ d.each v.0 (subst (λ (k : ℕ). v.0.0 < k) (sym d.long) v.1) ∙ ap e v.2

  module _ (w : ℕ) (args : List Range) (r : RangesFit w args (arg_types (unit_text_at a u).args)) where
    start-holds : (c : Control) → c.unit ≡ unit_text_at a u → ControlHolds c → PointHolds (start_point c)
    start-holds c e k = record { control = k; callers = ap (λ (v : UnitText). v.kind) e ∙ is-kind }

    pub begin-holds : (s : declared.Stand) → FitsBy a u w s → (p : ProcessState) → StandsBy a u args s p → (p.stand ≡ halted → ⊥) → (c : Control) × (control_at (unit_text_at a u) p ≡ Some c)
        × PointHolds (start_point c)
    begin-holds stand.New f p k no_halt =
        let v = unit_text_at a u in
        let z = entry-holds v (contents a) steady right (begun v args).held (λ n d. passes.args-held w nothing_held v.args args r n d) in
        (z.0, ap (control_at v) k ∙ z.1, start-holds z.0 z.2 z.3)
    begin-holds (stand.Waits x) f p k no_halt =
        let v = unit_text_at a u in
        let from = label_name_at a u x.block.0 in
        let to = label_name_at a u x.to.0 in
        let l : LineText = record { result = f.stands.name; inst = wait_text to f.stands.delay f.stands.signals } in
        let there : HoldsThere v f.stands.text f.stands.before p.held = λ n d q. subst (λ (y : Option Held). IsSome y) (same-held w x.slots p.held f.held k.1 n d) (f.there n d q) in
        let fits = same-fits a u o h (process-blocks a u process) g w x.slots p.held f.held k.1 in
        let label = (line-in (contents a) v right from f.stands.text f.stands.stands f.stands.before l f.stands.after f.stands.split).labels.0 in
        let z = edge-holds (contents a) w v steady right p.held fits from f.stands.text f.stands.stands f.stands.before l f.stands.after f.stands.split refl there to label.0 label.1
        (first-name to []) in
        (z.0, ap (control_from v p.held) k.0 ∙ z.1, start-holds z.0 z.2 z.3)
    begin-holds stand.Halted f p k no_halt = absurd (no_halt k)

    not-halted : (p : ProcessState) (c : Control) → control_at (unit_text_at a u) p ≡ Some c → p.stand ≡ halted → ⊥
    not-halted p c e q = none-some c (sym (ap (control_from (unit_text_at a u) p.held) q) ∙ e)

    begun-holds : (s : declared.Stand) → FitsBy a u w s → (p : ProcessState) → StandsBy a u args s p → (c : Control) → control_at (unit_text_at a u) p ≡ Some c → PointHolds (start_point c)
    begun-holds s f p k c e =
        let z = begin-holds s f p k (not-halted p c e) in
        subst (λ (x : Control). PointHolds (start_point x)) (same_Some z.0 c (sym z.1 ∙ e)) z.2

    begun-fits : (s : declared.Stand) → FitsBy a u w s → (p : ProcessState) → StandsBy a u args s p → (c : Control) → control_at (unit_text_at a u) p ≡ Some c
        → PointFits (contents a) w (unit_text_at a u) (start_point c)
    begun-fits s f p k c e = begin-fits a u o h (process-blocks a u process) g w process args r s f p k c e

  -- at the end of an activation what is there is held
  pub activation-holds : (now : List Bool) (t : Instant) (args : List Range) → RangesFit (length now) args (arg_types (unit_text_at a u).args) → (s : declared.Stand) → FitsBy a u (length now) s
      → (p : ProcessState) → StandsBy a u args s p → (c : Control) → control_at (unit_text_at a u) p ≡ Some c
      → (limit : ℕ) → EndHolds (unit_text_at a u) (run limit (scene_of a now t) (start_point c))
  activation-holds now t args r s f p k c e limit = by (run limit (scene_of a now t) (start_point c)) refl
    where
      by : (d : Option Activated) → run limit (scene_of a now t) (start_point c) ≡ d → EndHolds (unit_text_at a u) d
      by None q = tt
      by (Some d) q = run-holds (contents a) now t (functions-right a o g) functions-hold (unit_text_at a u) limit (start_point c) (begun-fits (length now) args r s f p k c e)
          (begun-holds (length now) args r s f p k c e) d q

  -- at each point that it reaches nothing goes wrong
  pub activation-steady : (now : List Bool) (t : Instant) (args : List Range) → RangesFit (length now) args (arg_types (unit_text_at a u).args) → (s : declared.Stand) → FitsBy a u (length now) s
      → (p : ProcessState) → StandsBy a u args s p → (c : Control) → control_at (unit_text_at a u) p ≡ Some c
      → (points : List Point) (q : Point) → InstructionsLead (scene_of a now t) (start_point c) points q → IsSteady (scene_of a now t) (length now) q
  activation-steady now t args r s f p k c e points q x =
      reached (contents a) now t (functions-right a o g) functions-hold (unit_text_at a u) points (start_point c) q (begun-fits (length now) args r s f p k c e)
      (begun-holds (length now) args r s f p k c e) x
