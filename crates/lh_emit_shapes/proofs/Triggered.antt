-- A trigger of a register: the value, the trigger's part now, the gate and the delay.
use Rattle.std.proofs.Common.{◌≡◌, ◌⊎◌, ◌<◌, false, List, length, Option, Some, inl, inr, ap, sym, ◌∙◌, subst, arith}
use Rattle.lh_unit.specs.declared.inst.ValueId.{ValueId}
use Rattle.lh_unit.specs.declared.inst.Mode.{Mode}
use Rattle.lh_term.specs.Tree.{now_of}
use Rattle.lh_term.specs.Arena.{Grows}
use Rattle.lh_term.specs.declared.part.Part.{Part}
use Rattle.lh_term.specs.declared.term.TermNode.{TermNode}
use Rattle.lh_edge.specs.Triggers.{TriggerTree, EdgeRowTree}
use Rattle.lh_edge.specs.declared.triggers.Trigger.{Trigger}
use Rattle.lh_edge.specs.declared.triggers.EdgeRow.{EdgeRow}
use Rattle.lh_emit_def.specs.Emitted.{Source, Emitted}
use Rattle.lh_emit_def.specs.Needs.{need}
use Rattle.lh_emit_def.specs.Entities.{max_lines, need_cond, need_trigger, mode_of, choices_fit}
use Rattle.lh_emit_def.specs.Ways.{WaitIsGiven}
use Rattle.lh_emit_body.specs.Lines.{NamesGrow}
use Rattle.lh_emit_source.specs.Origins.{source_by}
use Rattle.lh_emit.specs.Emitting.{IsNeeded, CanNeed, NeedsTerm, IsTooLarge, NeedsNot, CanProbe, NeedsNow, NeedsNowNot}
use Rattle.lh_emit_shapes.specs.Putting.{IsTested, TestsTerm, TestsTermNot, CanTrigger, RegisterFitsNot, NeedsTrigger, NeedsTriggerNot}
use Rattle.lh_emit_source.specs.declared.origin.Origin.{Origin}
use Rattle.lh_emit.specs.declared.emitter.Emitter.{Emitter}
use Rattle.lh_emit_body.specs.declared.lines.EmitFault.{EmitFault}
use Rattle.lh_emit_body.specs.declared.lines.EmitFault.TheVariants as fault
use Rattle.lh_emit_shapes.proofs.EntityGrowth.{Extends, extends-then, need-extends, cond-extends}
use Rattle.lh_emit_shapes.proofs.Tells.{names-then, tells-needed, tells-on, cond-on, tells-tested}
use Rattle.lh_emit_shapes.proofs.RowGrowth.{row-grown, trigger-grown}
use Rattle.lh_emit_shapes.proofs.ConditionNeeds.{is-given, needed-at, not-needed-at, tested-at, not-tested-at}

-- ---- stages of a trigger

abbrev TooLarge : Source → EdgeRowTree → TriggerTree → Emitted → Type 0
TooLarge s r g e = RegisterFitsNot r g ⊎ (max_lines < length (need_trigger s r e g).lines)

module _ (s : Source) (r : EdgeRowTree) (g : TriggerTree) (e : Emitted) where
  abbrev one : Emitted
  one = need s r.value e

  abbrev two : Emitted
  two = need s (now_of g.part) one

  abbrev three : Emitted
  three = need_cond s g.gate two

  abbrev four : Emitted
  four = need s r.delay three

  three-four : Extends three four
  three-four = need-extends s r.delay three

  two-four : Extends two four
  two-four = extends-then two three four (cond-extends s g.gate two) three-four

  one-four : Extends one four
  one-four = extends-then one two four (need-extends s (now_of g.part) one) two-four

  longer : (z : Emitted) → Extends z four → max_lines < length z.lines → TooLarge s r g e
  longer z k h = let w = k.longer in inr (omega (arith, w, h))

  value-large : IsTooLarge s r.value e → TooLarge s r g e
  value-large (inl q) = inl (inl q)
  value-large (inr h) = longer one one-four h

  gate-large : (choices_fit g.gate ≡ false) ⊎ (max_lines < length three.lines) → TooLarge s r g e
  gate-large (inl q) = inl (inr (inr q))
  gate-large (inr h) = longer three three-four h

  delay-large : IsTooLarge s r.delay three → TooLarge s r g e
  delay-large (inl q) = inl (inr (inl q))
  delay-large (inr h) = inr h

-- ---- the calls

module _ (o : Origin) (row : EdgeRow) (g : Trigger) (ns : List TermNode) (x : Emitter) where
  pub can-value : CanTrigger ns o x row g → CanNeed ns o x row.value
  can-value c = record {
    name = c.name;
    naming = c.naming;
    emitted = c.emitted;
    origin = c.origin;
    is = c.is;
    within = c.are.value.is_in;
    given = is-given ns o x row.value c.name c.naming c.emitted c.origin c.is c.register.value c.are.value.tree c.given.value;
  }

  pub can-now : CanTrigger ns o x row g → CanProbe ns o x g.part
  can-now c = record {
    name = c.name;
    naming = c.naming;
    emitted = c.emitted;
    origin = c.origin;
    is = c.is;
    given = subst (WaitIsGiven (source_by c.name c.naming o.flat.now)) (sym c.trigger_is.part) (record { is_data = c.trigger_given.is_data; part = c.trigger_given.part });
  }

  pub can-gate : CanTrigger ns o x row g → CanNeed ns o x g.gate
  can-gate c = record {
    name = c.name;
    naming = c.naming;
    emitted = c.emitted;
    origin = c.origin;
    is = c.is;
    within = c.trigger_is.gate.is_in;
    given = is-given ns o x g.gate c.name c.naming c.emitted c.origin c.is c.trigger.gate c.trigger_is.gate.tree c.trigger_given.gate;
  }

  pub can-delay : CanTrigger ns o x row g → CanNeed ns o x row.delay
  can-delay c = record {
    name = c.name;
    naming = c.naming;
    emitted = c.emitted;
    origin = c.origin;
    is = c.is;
    within = c.are.delay.is_in;
    given = is-given ns o x row.delay c.name c.naming c.emitted c.origin c.is c.register.delay c.are.delay.tree c.given.delay;
  }

  pub value-not : (f : EmitFault) → NeedsNot ns o x row.value f → NeedsTriggerNot ns o x row g f
  value-not fault.OutOfMemory h = tt
  value-not fault.EntityTooLarge h = λ c.
      value-large (source_by c.name c.naming o.flat.now) c.register c.trigger c.emitted
      (not-needed-at ns o x row.value c.name c.naming c.emitted c.origin c.is c.register.value c.are.value.tree c.given.value h)

  module _ (m1 : List TermNode) (x1 : Emitter) (v1 : ValueId) (g1 : Grows ns m1) (n1 : NeedsTerm ns o x row.value m1 x1 v1) where
    pub value-is : (c : CanTrigger ns o x row g) → IsNeeded m1 (source_by c.name c.naming o.flat.now) c.register.value c.emitted x1 v1
    value-is c = needed-at ns o x row.value c.name c.naming c.emitted c.origin c.is c.register.value c.are.value.tree c.given.value m1 x1 v1 n1

    abbrev pub after-value : CanTrigger ns o x row g → CanTrigger m1 o x1 row g
    after-value c = record {
      name = c.name;
      naming = c.naming;
      emitted = need (source_by c.name c.naming o.flat.now) c.register.value c.emitted;
      register = c.register;
      trigger = c.trigger;
      origin = c.origin;
      is = (value-is c).is;
      are = row-grown ns m1 g1 row c.register c.are;
      given = c.given;
      trigger_is = trigger-grown ns m1 g1 g c.trigger c.trigger_is;
      trigger_given = c.trigger_given;
    }

    pub now-not : (f : EmitFault) → NeedsNowNot m1 o x1 g.part f → NeedsTriggerNot ns o x row g f
    now-not fault.OutOfMemory h = tt
    now-not fault.EntityTooLarge h = λ c.
        let s = source_by c.name c.naming o.flat.now in
        let b = after-value c in
        let k = h b.name b.naming b.emitted b.origin b.is (can-now-given c) in
        longer s c.register c.trigger c.emitted (two s c.register c.trigger c.emitted) (two-four s c.register c.trigger c.emitted)
        (subst (λ (p : Part). max_lines < length (need s (now_of p) b.emitted).lines) b.trigger_is.part k)
      where
        can-now-given : (c : CanTrigger ns o x row g) → WaitIsGiven (source_by c.name c.naming o.flat.now) g.part
        can-now-given c = subst (WaitIsGiven (source_by c.name c.naming o.flat.now)) (sym c.trigger_is.part) (record { is_data = c.trigger_given.is_data; part = c.trigger_given.part })

    module _ (m2 : List TermNode) (x2 : Emitter) (v2 : ValueId) (g2 : Grows m1 m2) (n2 : NeedsNow m1 o x1 g.part m2 x2 v2) where
      pub now-is : (c : CanTrigger ns o x row g) →
          IsNeeded m2 (source_by c.name c.naming o.flat.now) (now_of c.trigger.part) (need (source_by c.name c.naming o.flat.now) c.register.value c.emitted) x2 v2
      now-is c =
          let s = source_by c.name c.naming o.flat.now in
          let b = after-value c in
          let w : WaitIsGiven s g.part = subst (WaitIsGiven s) (sym c.trigger_is.part) (record { is_data = c.trigger_given.is_data; part = c.trigger_given.part }) in
          subst (λ (p : Part). IsNeeded m2 s (now_of p) b.emitted x2 v2) c.trigger_is.part (n2 b.name b.naming b.emitted b.origin b.is w)

      abbrev pub after-now : CanTrigger ns o x row g → CanTrigger m2 o x2 row g
      after-now c = record {
        name = c.name;
        naming = c.naming;
        emitted = two (source_by c.name c.naming o.flat.now) c.register c.trigger c.emitted;
        register = c.register;
        trigger = c.trigger;
        origin = c.origin;
        is = (now-is c).is;
        are = row-grown m1 m2 g2 row c.register (row-grown ns m1 g1 row c.register c.are);
        given = c.given;
        trigger_is = trigger-grown m1 m2 g2 g c.trigger (trigger-grown ns m1 g1 g c.trigger c.trigger_is);
        trigger_given = c.trigger_given;
      }

      pub gate-not : (f : EmitFault) → TestsTermNot m2 o x2 g.gate f → NeedsTriggerNot ns o x row g f
      gate-not fault.OutOfMemory h = tt
      gate-not fault.EntityTooLarge h = λ c.
          let b = after-now c in
          gate-large (source_by c.name c.naming o.flat.now) c.register c.trigger c.emitted
          (not-tested-at m2 o x2 g.gate b.name b.naming b.emitted b.origin b.is b.trigger.gate b.trigger_is.gate.tree b.trigger_given.gate h)

      module _ (m3 : List TermNode) (x3 : Emitter) (v3 : Option ValueId) (g3 : Grows m2 m3) (n3 : TestsTerm m2 o x2 g.gate m3 x3 v3) where
        pub gate-is : (c : CanTrigger ns o x row g) →
            IsTested m3 (source_by c.name c.naming o.flat.now) c.trigger.gate (two (source_by c.name c.naming o.flat.now) c.register c.trigger c.emitted) x3 v3
        gate-is c = let b = after-now c in tested-at m2 o x2 g.gate b.name b.naming b.emitted b.origin b.is b.trigger.gate b.trigger_is.gate.tree b.trigger_given.gate m3 x3 v3 n3

        abbrev pub after-gate : CanTrigger ns o x row g → CanTrigger m3 o x3 row g
        after-gate c = record {
          name = c.name;
          naming = c.naming;
          emitted = three (source_by c.name c.naming o.flat.now) c.register c.trigger c.emitted;
          register = c.register;
          trigger = c.trigger;
          origin = c.origin;
          is = (gate-is c).is;
          are = row-grown m2 m3 g3 row c.register (row-grown m1 m2 g2 row c.register (row-grown ns m1 g1 row c.register c.are));
          given = c.given;
          trigger_is = trigger-grown m2 m3 g3 g c.trigger (trigger-grown m1 m2 g2 g c.trigger (trigger-grown ns m1 g1 g c.trigger c.trigger_is));
          trigger_given = c.trigger_given;
        }

        pub delay-not : (f : EmitFault) → NeedsNot m3 o x3 row.delay f → NeedsTriggerNot ns o x row g f
        delay-not fault.OutOfMemory h = tt
        delay-not fault.EntityTooLarge h = λ c.
            let b = after-gate c in
            delay-large (source_by c.name c.naming o.flat.now) c.register c.trigger c.emitted
            (not-needed-at m3 o x3 row.delay b.name b.naming b.emitted b.origin b.is b.register.delay b.are.delay.tree b.given.delay h)

        module _ (m4 : List TermNode) (x4 : Emitter) (v4 : ValueId) (n4 : NeedsTerm m3 o x3 row.delay m4 x4 v4)
            (l2 : NamesGrow x1.lines.names x2.lines.names) (l3 : NamesGrow x2.lines.names x3.lines.names) (l4 : NamesGrow x3.lines.names x4.lines.names) where
          pub needs-trigger : (mode : Mode) → mode ≡ mode_of g.rise → NeedsTrigger ns o x row g m4 x4 (record { value = v1; mode = mode; trigger = v2; gate = v3; after = Some v4 })
          needs-trigger mode is_mode c =
              let s = source_by c.name c.naming o.flat.now in
              let r = c.register in
              let t = c.trigger in
              let e1 = one s r t c.emitted in
              let e2 = two s r t c.emitted in
              let e3 = three s r t c.emitted in
              let e4 = four s r t c.emitted in
              let b = after-gate c in
              let d : IsNeeded m4 s r.delay e3 x4 v4 = needed-at m3 o x3 row.delay b.name b.naming b.emitted b.origin b.is b.register.delay b.are.delay.tree b.given.delay m4 x4 v4 n4 in
              let va = value-is c in
              let na = now-is c in
              let ga = gate-is c in
              record {
                is = d.is;
                tells = record {
                  value = tells-on x1.lines.names x4.lines.names e1 e4 (names-then _ _ _ l2 (names-then _ _ _ l3 l4)) (one-four s r t c.emitted) r.value v1
                      (tells-needed m1 s r.value c.emitted x1 v1 va);
                  mode = is_mode ∙ ap mode_of c.trigger_is.rise;
                  now = tells-on x2.lines.names x4.lines.names e2 e4 (names-then _ _ _ l3 l4) (two-four s r t c.emitted) (now_of t.part) v2 (tells-needed m2 s (now_of t.part) e1 x2 v2 na);
                  gate = cond-on x3.lines.names x4.lines.names e3 e4 l4 (three-four s r t c.emitted) t.gate v3 (tells-tested m3 s t.gate e2 x3 v3 ga);
                  after = tells-needed m4 s r.delay e3 x4 v4 d;
                };
                fits = (va.fits, d.fits, ga.fits);
              }
