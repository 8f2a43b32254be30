-- The triggers of a row of registers, one after the other; the `reg` of the row; and rows one after the other.
use Rattle.std.proofs.Common.{◌≡◌, ◌⊎◌, ◌<◌, Bool, true, false, ◌&&◌, ◌||◌, List, [], ◌∷◌, ◌++◌, length, map, inl, inr, refl, ap, sym, ◌∙◌, subst, arith, append_assoc, append-nil, ◌≤◌, Some}
use Rattle.std.specs.Prelude.{fold, Result, Ok, Err, IfOk, IfErr}
use Rattle.std.specs.List.{list_all}
use Rattle.std.proofs.lemmas.Bool.{and_from, and_right}
use Rattle.lh_types.specs.Types.{IsData, signal_type}
use Rattle.lh_unit.specs.Contents.{reg_text}
use Rattle.lh_unit.specs.Naming.{inst_text}
use Rattle.lh_unit.specs.Within.{Each, InstWithin}
use Rattle.lh_unit.specs.declared.inst.ValueId.{ValueId}
use Rattle.lh_unit.specs.declared.inst.Typed.{Typed}
use Rattle.lh_unit.specs.declared.inst.RegTrigger.{RegTrigger}
use Rattle.lh_unit.specs.declared.inst.Inst.{Inst}
use Rattle.lh_unit.specs.declared.inst.Inst.TheVariants as inst
use Rattle.lh_unit.proofs.Lists.{Each-append}
use Rattle.lh_term.specs.Arena.{Grows}
use Rattle.lh_term.specs.declared.part.Part.{Part}
use Rattle.lh_term.specs.declared.term.TermNode.{TermNode}
use Rattle.lh_term.proofs.Swaps.{grows_on}
use Rattle.lh_edge.specs.Triggers.{TriggerTree, EdgeRowTree}
use Rattle.lh_edge.specs.Answers.{AreTriggers}
use Rattle.lh_edge.specs.declared.triggers.Trigger.{Trigger}
use Rattle.lh_edge.specs.declared.triggers.EdgeRow.{EdgeRow}
use Rattle.lh_shape.specs.Answers.{IsEdgeRow, AreEdgeRows}
use Rattle.lh_emit_def.specs.Emitted.{Source, Emitted, puts, signal, need_part}
use Rattle.lh_emit_def.specs.Entities.{max_lines, need_trigger, trigger_text, need_register, put_register, emit_register_by, emit_register, choices_fit, no_triggers, row_fits}
use Rattle.lh_emit_def.specs.Ways.{IsReached, TriggerIsGiven, RowIsGiven}
use Rattle.lh_emit_body.specs.Lines.{naming, values_alone, LinesHaveRoom, NamesGrow}
use Rattle.lh_emit.specs.Operands.{with_type}
use Rattle.lh_emit_source.specs.Origins.{source_by}
use Rattle.lh_emit.specs.Emitting.{IsEmitted, CanReach, IsPartNeeded, NeedsPart, NeedsPartNot}
use Rattle.lh_emit_shapes.specs.Putting.{PutsInst, RegisterFits, RegisterFitsNot, TellsTriggers, CanTrigger, NeedsTrigger, NeedsTriggerNot, CanPutRegister, AreTriggered, NeedsTriggers, NeedsTriggersNot}
use Rattle.lh_emit_shapes.specs.Putting.{PutsRegister, PutsRegisterNot, CanPutRegisters, AreRegistered, PutsRegisters, PutsRegistersNot}
use Rattle.lh_emit_source.specs.declared.origin.Origin.{Origin}
use Rattle.lh_emit.specs.declared.emitter.Emitter.{Emitter}
use Rattle.lh_emit_body.specs.declared.lines.EmitFault.{EmitFault}
use Rattle.lh_emit_body.specs.declared.lines.EmitFault.TheVariants as fault
use Rattle.lh_emit_shapes.proofs.EntityGrowth.{trigger-extends, triggers-extends, part-extends, puts-extends, registers-extends}
use Rattle.lh_emit_shapes.proofs.Tells.{triggers-on, triggers-more, triggers-text, triggers-within}
use Rattle.lh_emit_shapes.proofs.RowGrowth.{row-grown, rows-grown, triggers-grown}
use Rattle.lh_emit_shapes.proofs.Driven.{one-too-many}

-- ---- whether a row fits

abbrev gate_fits : TriggerTree → Bool
gate_fits g = choices_fit g.gate

abbrev fits_with : EdgeRowTree → List TriggerTree → Bool
fits_with r gs = no_triggers gs || (choices_fit r.value && (choices_fit r.delay && list_all gate_fits gs))

gates-yes : (r : EdgeRowTree) (gs : List TriggerTree) → Each (RegisterFits r) gs → list_all gate_fits gs ≡ true
gates-yes r [] h = refl
gates-yes r (g ∷ gs) h = and_from (gate_fits g) (list_all gate_fits gs) h.0.2 (gates-yes r gs h.1)

row-yes : (r : EdgeRowTree) (gs : List TriggerTree) → Each (RegisterFits r) gs → fits_with r gs ≡ true
row-yes r [] h = refl
row-yes r (g ∷ gs) h = and_from (choices_fit r.value) _ h.0.0 (and_from (choices_fit r.delay) _ h.0.1 (gates-yes r (g ∷ gs) h))

gates-no : (done : List TriggerTree) (g : TriggerTree) (rest : List TriggerTree) → choices_fit g.gate ≡ false → list_all gate_fits (done ++ g ∷ rest) ≡ false
gates-no [] g rest q = ap (λ b. b && list_all gate_fits rest) q
gates-no (d ∷ done) g rest q = and_right (gate_fits d) _ (gates-no done g rest q)

some-triggers : (done : List TriggerTree) (g : TriggerTree) (rest : List TriggerTree) → no_triggers (done ++ g ∷ rest) ≡ false
some-triggers [] g rest = refl
some-triggers (d ∷ done) g rest = refl

row-no : (r : EdgeRowTree) (done : List TriggerTree) (g : TriggerTree) (rest : List TriggerTree) → RegisterFitsNot r g → fits_with r (done ++ g ∷ rest) ≡ false
row-no r done g rest h = ap (λ b. b || (choices_fit r.value && (choices_fit r.delay && list_all gate_fits (done ++ g ∷ rest)))) (some-triggers done g rest) ∙ by h
  where
    by : RegisterFitsNot r g → (choices_fit r.value && (choices_fit r.delay && list_all gate_fits (done ++ g ∷ rest))) ≡ false
    by (inl q) = ap (λ b. b && (choices_fit r.delay && list_all gate_fits (done ++ g ∷ rest))) q
    by (inr (inl q)) = and_right (choices_fit r.value) _ (ap (λ b. b && list_all gate_fits (done ++ g ∷ rest)) q)
    by (inr (inr q)) = and_right (choices_fit r.value) _ (and_right (choices_fit r.delay) _ (gates-no done g rest q))

-- ---- the triggers of a row

-- what is left of the triggers, and the entity so far
pub record TriggersLeft (s : Source) (ms : List TermNode) (y : Emitter) (left : List Trigger) (ts : List RegTrigger) (row : EdgeRow) (r : EdgeRowTree) (e : Emitted) : Type 0 where
  pub now : Emitted
  pub done : List TriggerTree
  pub rest : List TriggerTree
  pub is : IsEmitted ms s y now
  pub row_is : IsEdgeRow ms row r
  pub are : AreTriggers ms left rest
  pub given : Each (TriggerIsGiven s) rest
  pub parts : done ++ rest ≡ r.triggers
  pub same : fold (need_trigger s r) now rest ≡ fold (need_trigger s r) e r.triggers
  pub tells : TellsTriggers y.lines.names now r done ts
  pub fits : Each (RegisterFits r) done

pub record TriggersSoFar (o : Origin) (row : EdgeRow) (ns : List TermNode) (x : Emitter) (ms : List TermNode) (y : Emitter) (ts : List RegTrigger) (left : List Trigger) : Type 0 where
  pub grows : Grows ns ms
  pub some : CanPutRegister ns o x row
  pub each : (c : CanPutRegister ns o x row) → TriggersLeft (source_by c.name c.naming o.flat.now) ms y left ts row c.register c.emitted

record FirstTrigger (s : Source) (ms : List TermNode) (y : Emitter) (g : Trigger) (left : List Trigger) (ts : List RegTrigger) (row : EdgeRow) (r : EdgeRowTree) (e : Emitted) : Type 0 where
  now : Emitted
  done : List TriggerTree
  first : TriggerTree
  others : List TriggerTree
  is : IsEmitted ms s y now
  row_is : IsEdgeRow ms row r
  are : AreTriggers ms (g ∷ left) (first ∷ others)
  given : Each (TriggerIsGiven s) (first ∷ others)
  parts : done ++ first ∷ others ≡ r.triggers
  same : fold (need_trigger s r) (need_trigger s r now first) others ≡ fold (need_trigger s r) e r.triggers
  tells : TellsTriggers y.lines.names now r done ts
  fits : Each (RegisterFits r) done

first-trigger : (s : Source) (ms : List TermNode) (y : Emitter) (g : Trigger) (left : List Trigger) (ts : List RegTrigger) (row : EdgeRow) (r : EdgeRowTree) (e : Emitted) →
    TriggersLeft s ms y (g ∷ left) ts row r e → FirstTrigger s ms y g left ts row r e
first-trigger s ms y g left ts row r e l = by l.rest l.are l.given l.parts l.same
  where
    by : (rest : List TriggerTree) → AreTriggers ms (g ∷ left) rest → Each (TriggerIsGiven s) rest → l.done ++ rest ≡ r.triggers →
        fold (need_trigger s r) l.now rest ≡ fold (need_trigger s r) e r.triggers → FirstTrigger s ms y g left ts row r e
    by [] a v p q = absurd a
    by (t ∷ more) a v p q = record { now = l.now; done = l.done; first = t; others = more; is = l.is; row_is = l.row_is; are = a; given = v; parts = p; same = q; tells = l.tells; fits = l.fits }

triggers-done : (s : Source) (ms : List TermNode) (y : Emitter) (ts : List RegTrigger) (row : EdgeRow) (r : EdgeRowTree) (e : Emitted) → TriggersLeft s ms y [] ts row r e → AreTriggered ms s r e y ts
triggers-done s ms y ts row r e l = by l.rest l.are l.parts l.same
  where
    by : (rest : List TriggerTree) → AreTriggers ms [] rest → l.done ++ rest ≡ r.triggers → fold (need_trigger s r) l.now rest ≡ fold (need_trigger s r) e r.triggers → AreTriggered ms s r e y ts
    by [] a p q =
        let d : l.done ≡ r.triggers = sym (append-nil l.done) ∙ p in
        record {
          is = subst (IsEmitted ms s y) q l.is;
          tells = subst (λ (z : Emitted). TellsTriggers y.lines.names z r r.triggers ts) q (subst (λ (gs : List TriggerTree). TellsTriggers y.lines.names l.now r gs ts) d l.tells);
          fits = subst (Each (RegisterFits r)) d l.fits;
        }
    by (t ∷ more) a p q = absurd a

module _ (o : Origin) (row : EdgeRow) (ns : List TermNode) (x : Emitter) where
  pub triggers-begin : (ts : List RegTrigger) → ts ≡ [] → Grows ns ns → CanPutRegister ns o x row → TriggersSoFar o row ns x ns x ts row.triggers
  triggers-begin ts none g can = record {
    grows = g;
    some = can;
    each = λ c. record {
      now = c.emitted;
      done = [];
      rest = c.register.triggers;
      is = c.is;
      row_is = c.are;
      are = c.are.triggers;
      given = c.given.triggers;
      parts = refl;
      same = refl;
      tells = subst (λ (ts : List RegTrigger). TellsTriggers x.lines.names c.emitted c.register [] ts) (sym none) tt;
      fits = tt;
    };
  }

  module _ (ms : List TermNode) (y : Emitter) (ts : List RegTrigger) (g : Trigger) (left all : List Trigger) (cut : all ≡ g ∷ left) (so : TriggersSoFar o row ns x ms y ts all) where
    first-of-all : (c : CanPutRegister ns o x row) → FirstTrigger (source_by c.name c.naming o.flat.now) ms y g left ts row c.register c.emitted
    first-of-all c =
        let s = source_by c.name c.naming o.flat.now in
        first-trigger s ms y g left ts row c.register c.emitted (subst (λ (l : List Trigger). TriggersLeft s ms y l ts row c.register c.emitted) cut (so.each c))

    can-first : (c : CanPutRegister ns o x row) → CanTrigger ms o y row g
    can-first c =
        let l = first-of-all c in
        record {
          name = c.name;
          naming = c.naming;
          emitted = l.now;
          register = c.register;
          trigger = l.first;
          origin = c.origin;
          is = l.is;
          are = l.row_is;
          given = c.given;
          trigger_is = l.are.0;
          trigger_given = l.given.0;
        }

    pub triggers-can : CanTrigger ms o y row g
    triggers-can = can-first so.some

    pub triggers-next : (m2 : List TermNode) (y2 : Emitter) (t : RegTrigger) (us : List RegTrigger) → us ≡ ts ++ t ∷ [] → Grows ms m2 → NamesGrow y.lines.names y2.lines.names
        → NeedsTrigger ms o y row g m2 y2 t →
        TriggersSoFar o row ns x m2 y2 us left
    triggers-next m2 y2 t us added h k n = record {
      grows = grows_on ns ms m2 so.grows h;
      some = so.some;
      each = λ c.
          let s = source_by c.name c.naming o.flat.now in
          let r = c.register in
          let l = first-of-all c in
          let d = n (record {
            name = c.name;
            naming = c.naming;
            emitted = l.now;
            register = r;
            trigger = l.first;
            origin = c.origin;
            is = l.is;
            are = l.row_is;
            given = c.given;
            trigger_is = l.are.0;
            trigger_given = l.given.0;
          }) in
          let e2 = need_trigger s r l.now l.first in
          let before = triggers-on y.lines.names y2.lines.names l.now e2 k (trigger-extends s r l.first l.now) r l.done ts l.tells in
          record {
            now = e2;
            done = l.done ++ l.first ∷ [];
            rest = l.others;
            is = d.is;
            row_is = row-grown ms m2 h row r l.row_is;
            are = triggers-grown ms m2 h left l.others l.are.1;
            given = l.given.1;
            parts = append_assoc l.done (l.first ∷ []) l.others ∙ l.parts;
            same = l.same;
            tells = subst (λ (ws : List RegTrigger). TellsTriggers y2.lines.names e2 r (l.done ++ l.first ∷ []) ws) (sym added) (triggers-more y2.lines.names e2 r l.done ts l.first t before d.tells);
            fits = Each-append (RegisterFits r) l.done (l.first ∷ []) l.fits (d.fits, tt);
          };
    }

    pub triggers-not : (f : EmitFault) → NeedsTriggerNot ms o y row g f → NeedsTriggersNot ns o x row f
    triggers-not fault.OutOfMemory n = tt
    triggers-not fault.EntityTooLarge n = λ c.
        let s = source_by c.name c.naming o.flat.now in
        let l = first-of-all c in
        large s c.register c.emitted l
        (n (record {
          name = c.name;
          naming = c.naming;
          emitted = l.now;
          register = c.register;
          trigger = l.first;
          origin = c.origin;
          is = l.is;
          are = l.row_is;
          given = c.given;
          trigger_is = l.are.0;
          trigger_given = l.given.0;
        }))
      where
        large : (s : Source) (r : EdgeRowTree) (e : Emitted) (l : FirstTrigger s ms y g left ts row r e) → RegisterFitsNot r l.first ⊎ (max_lines < length (need_trigger s r l.now l.first).lines) →
            (row_fits r ≡ false) ⊎ (max_lines < length (fold (need_trigger s r) e r.triggers).lines)
        large s r e l (inl q) = inl (subst (λ (gs : List TriggerTree). fits_with r gs ≡ false) l.parts (row-no r l.done l.first l.others q))
        large s r e l (inr w) =
            let k = (triggers-extends s r l.others (need_trigger s r l.now l.first)).longer in
            let z : length (fold (need_trigger s r) (need_trigger s r l.now l.first) l.others).lines ≡ length (fold (need_trigger s r) e r.triggers).lines =
            ap (λ (e : Emitted). length e.lines) l.same in
            inr (omega (arith, k, w, z))

  pub triggers-end : (ms : List TermNode) (y : Emitter) (ts : List RegTrigger) (all : List Trigger) → all ≡ [] → TriggersSoFar o row ns x ms y ts all → NeedsTriggers ns o x row ms y ts
  triggers-end ms y ts all cut so c =
      let s = source_by c.name c.naming o.flat.now in
      triggers-done s ms y ts row c.register c.emitted (subst (λ (l : List Trigger). TriggersLeft s ms y l ts row c.register c.emitted) cut (so.each c))

-- ---- the register of a row

no-triggers : (ns : List TermNode) (ts : List Trigger) (gs : List TriggerTree) → length ts ≡ 0 → AreTriggers ns ts gs → gs ≡ []
no-triggers ns [] [] q h = refl
no-triggers ns [] (g ∷ gs) q h = absurd h
no-triggers ns (t ∷ ts) gs q h = absurd (omega (arith, q))

with-register : (ns : List TermNode) (s : Source) (r : EdgeRowTree) (e : Emitted) (ts : List Trigger) → (length ts ≡ 0 → ⊥) → AreTriggers ns ts r.triggers
    → put_register r (need_register s r e) ≡ emit_register s e r
with-register ns s r e ts some h = by r.triggers refl ts some h
  where
    by : (gs : List TriggerTree) → r.triggers ≡ gs → (ts : List Trigger) → (length ts ≡ 0 → ⊥) → AreTriggers ns ts gs → put_register r (need_register s r e) ≡ emit_register s e r
    by [] q [] some h = absurd (some refl)
    by [] q (t ∷ ts) some h = absurd h
    by (g ∷ gs) q ts some h = sym (ap (λ (l : List TriggerTree). emit_register_by s r l e) q)

module _ (o : Origin) (row : EdgeRow) (ns : List TermNode) (x : Emitter) where
  pub none-registered : length row.triggers ≡ 0 → PutsRegister ns o x row ns x
  none-registered q c =
      let s = source_by c.name c.naming o.flat.now in
      let none = no-triggers ns row.triggers c.register.triggers q c.are.triggers in
      record {
        is = subst (λ (l : List TriggerTree). IsEmitted ns s x (emit_register_by s c.register l c.emitted)) (sym none) c.is;
        fits = subst (λ (l : List TriggerTree). fits_with c.register l ≡ true) (sym none) refl;
      }

  pub reg-is-data : CanPutRegister ns o x row → IsData row.part.ty
  reg-is-data c = subst (λ (p : Part). IsData p.ty) (sym c.are.part) c.given.carries

  -- the entity with a register is longer than what its triggers need
  reg-longer : (s : Source) (r : EdgeRowTree) (e z : Emitted) → put_register r (need_register s r e) ≡ emit_register s e r → length z.lines ≤ length (need_register s r e).lines
      → max_lines < length z.lines →
      max_lines < length (emit_register s e r).lines
  reg-longer s r e z same k w =
      let a = (puts-extends (reg_text (signal (need_register s r e) r.part) (map (trigger_text r (need_register s r e)) r.triggers)) (need_register s r e)).longer in
      let b : length (put_register r (need_register s r e)).lines ≡ length (emit_register s e r).lines = ap (λ (e : Emitted). length e.lines) same in
      omega (arith, a, b, k, w)

  module _ (some : length row.triggers ≡ 0 → ⊥) where
    registers : (c : CanPutRegister ns o x row) → (s : Source) → put_register c.register (need_register s c.register c.emitted) ≡ emit_register s c.emitted c.register
    registers c s = with-register ns s c.register c.emitted row.triggers some c.are.triggers

    pub reg-triggers-not : (f : EmitFault) → NeedsTriggersNot ns o x row f → PutsRegisterNot ns o x row f
    reg-triggers-not fault.OutOfMemory h = tt
    reg-triggers-not fault.EntityTooLarge h = λ c. large c (source_by c.name c.naming o.flat.now) (h c)
      where
        large : (c : CanPutRegister ns o x row) (s : Source) → (row_fits c.register ≡ false) ⊎ (max_lines < length (fold (need_trigger s c.register) c.emitted c.register.triggers).lines) →
            (row_fits c.register ≡ false) ⊎ (max_lines < length (emit_register s c.emitted c.register).lines)
        large c s (inl q) = inl q
        large c s (inr w) =
            let z = fold (need_trigger s c.register) c.emitted c.register.triggers in
            inr (reg-longer s c.register c.emitted z (registers c s) (part-extends s c.register.part z).longer w)

    module _ (m1 : List TermNode) (x1 : Emitter) (ts : List RegTrigger) (g1 : Grows ns m1) (n1 : NeedsTriggers ns o x row m1 x1 ts) where
      pub reg-can-part : CanPutRegister ns o x row → CanReach m1 o x1 row.part
      reg-can-part c =
          let s = source_by c.name c.naming o.flat.now in
          record {
            name = c.name;
            naming = c.naming;
            emitted = fold (need_trigger s c.register) c.emitted c.register.triggers;
            origin = c.origin;
            is = (n1 c).is;
            given = subst (IsReached s) (sym c.are.part) c.given.part;
          }

      pub reg-part-not : (f : EmitFault) → NeedsPartNot m1 o x1 row.part f → PutsRegisterNot ns o x row f
      reg-part-not fault.OutOfMemory h = tt
      reg-part-not fault.EntityTooLarge h = λ c.
          let s = source_by c.name c.naming o.flat.now in
          let b = reg-can-part c in
          let e1 = fold (need_trigger s c.register) c.emitted c.register.triggers in
          let k = h c.name c.naming e1 c.origin (n1 c).is (subst (IsReached s) (sym c.are.part) c.given.part) in
          let w : max_lines < length (need_register s c.register c.emitted).lines = subst (λ (p : Part). max_lines < length (need_part s p e1).lines) c.are.part k in
          inr (reg-longer s c.register c.emitted (need_register s c.register c.emitted) (registers c s) (omega arith) w)

      module _ (x2 : Emitter) (v2 : ValueId) (n2 : NeedsPart m1 o x1 row.part x2 v2) where
        reg-part-is : (c : CanPutRegister ns o x row) →
            IsPartNeeded m1 (source_by c.name c.naming o.flat.now) c.register.part (fold (need_trigger (source_by c.name c.naming o.flat.now) c.register) c.emitted c.register.triggers) x2 v2
        reg-part-is c =
            let s = source_by c.name c.naming o.flat.now in
            let e1 = fold (need_trigger s c.register) c.emitted c.register.triggers in
            subst (λ (p : Part). IsPartNeeded m1 s p e1 x2 v2) c.are.part (n2 c.name c.naming e1 c.origin (n1 c).is (subst (IsReached s) (sym c.are.part) c.given.part))

        pub reg-has-room : CanPutRegister ns o x row → LinesHaveRoom x2.lines
        reg-has-room c = (reg-part-is c).is.room

        reg-put-not : (f : EmitFault) (i : Inst) (y : Emitter) → PutsInst x2 i y (Err f) → PutsRegisterNot ns o x row f
        reg-put-not fault.OutOfMemory i y h = tt
        reg-put-not fault.EntityTooLarge i y h = λ c.
            let s = source_by c.name c.naming o.flat.now in
            let e2 = need_register s c.register c.emitted in
            let w = one-too-many m1 s x2 e2 (reg_text (signal e2 c.register.part) (map (trigger_text c.register e2) c.register.triggers)) (reg-part-is c).is h in
            inr (subst (λ (e : Emitted). max_lines < length e.lines) (registers c s) w)

        pub reg-put-err : (i : Inst) (y : Emitter) (r : Result (Unit {0}) EmitFault) → PutsInst x2 i y r → IfErr r (PutsRegisterNot ns o x row)
        reg-put-err i y (Ok u) h = tt
        reg-put-err i y (Err f) h = reg-put-not f i y h

        module _ (l2 : NamesGrow x1.lines.names x2.lines.names) (to : Typed) (is_to : to ≡ with_type (signal_type row.part.ty) v2) where
          told : (c : CanPutRegister ns o x row) →
              TellsTriggers x2.lines.names (need_register (source_by c.name c.naming o.flat.now) c.register c.emitted) c.register c.register.triggers ts
          told c =
              let s = source_by c.name c.naming o.flat.now in
              let e1 = fold (need_trigger s c.register) c.emitted c.register.triggers in
              triggers-on x1.lines.names x2.lines.names e1 (need_part s c.register.part e1) l2 (part-extends s c.register.part e1) c.register c.register.triggers ts (n1 c).tells

          pub reg-within : CanPutRegister ns o x row → InstWithin (values_alone (length x2.lines.names)) (inst.Reg to ts)
          reg-within c =
              let s = source_by c.name c.naming o.flat.now in (
                subst (λ (t : Typed). t.value.0 < length x2.lines.names) (sym is_to) (reg-part-is c).within,
                triggers-within x2.lines.names (need_register s c.register c.emitted) c.register c.register.triggers ts (told c),
              )

          pub reg-put-ok : (y : Emitter) (r : Result (Unit {0}) EmitFault) → PutsInst x2 (inst.Reg to ts) y r → IfOk r (λ _. PutsRegister ns o x row m1 y)
          reg-put-ok y (Err f) h = tt
          reg-put-ok y (Ok u) h = λ c.
              let s = source_by c.name c.naming o.flat.now in
              let r = c.register in
              let e2 = need_register s r c.emitted in
              let p = (reg-part-is c).name in
              let q = c.are.part in
              let a = triggers-text x2.lines.names e2 r r.triggers ts (told c) in
              let text : inst_text (naming x2.lines.names) (inst.Reg to ts) ≡ reg_text (signal e2 r.part) (map (trigger_text r e2) r.triggers) =
              ap (λ (t : Typed). inst_text (naming x2.lines.names) (inst.Reg t ts)) is_to
              ∙ (λ i. reg_text (record { value = p i; ty = Some (signal_type (q i).ty) }) (a i)) in
              record {
                is = subst (IsEmitted m1 s y) (registers c s) (subst (λ i. IsEmitted m1 s y (puts i e2)) text (h m1 s e2 (reg-part-is c).is));
                fits = row-yes r r.triggers (n1 c).fits;
              }

-- ---- rows of registers

pub record RegistersLeft (s : Source) (ms : List TermNode) (y : Emitter) (left : List EdgeRow) (rs : List EdgeRowTree) (e : Emitted) : Type 0 where
  pub now : Emitted
  pub rest : List EdgeRowTree
  pub is : IsEmitted ms s y now
  pub are : AreEdgeRows ms left rest
  pub given : Each (RowIsGiven s) rest
  pub same : fold (emit_register s) now rest ≡ fold (emit_register s) e rs
  pub fits : list_all row_fits rest ≡ list_all row_fits rs

pub record RegistersSoFar (o : Origin) (rows : List EdgeRow) (ns : List TermNode) (x : Emitter) (ms : List TermNode) (y : Emitter) (left : List EdgeRow) : Type 0 where
  pub grows : Grows ns ms
  pub some : CanPutRegisters ns o x rows
  pub each : (c : CanPutRegisters ns o x rows) → RegistersLeft (source_by c.name c.naming o.flat.now) ms y left c.registers c.emitted

record FirstRegister (s : Source) (ms : List TermNode) (y : Emitter) (row : EdgeRow) (left : List EdgeRow) (rs : List EdgeRowTree) (e : Emitted) : Type 0 where
  now : Emitted
  first : EdgeRowTree
  others : List EdgeRowTree
  is : IsEmitted ms s y now
  are : AreEdgeRows ms (row ∷ left) (first ∷ others)
  given : Each (RowIsGiven s) (first ∷ others)
  same : fold (emit_register s) (emit_register s now first) others ≡ fold (emit_register s) e rs
  fits : (row_fits first && list_all row_fits others) ≡ list_all row_fits rs

first-register : (s : Source) (ms : List TermNode) (y : Emitter) (row : EdgeRow) (left : List EdgeRow) (rs : List EdgeRowTree) (e : Emitted) → RegistersLeft s ms y (row ∷ left) rs e
    → FirstRegister s ms y row left rs e
first-register s ms y row left rs e l = by l.rest l.are l.given l.same l.fits
  where
    by : (rest : List EdgeRowTree) → AreEdgeRows ms (row ∷ left) rest → Each (RowIsGiven s) rest → fold (emit_register s) l.now rest ≡ fold (emit_register s) e rs →
        list_all row_fits rest ≡ list_all row_fits rs → FirstRegister s ms y row left rs e
    by [] a g q f = absurd a
    by (d ∷ more) a g q f = record { now = l.now; first = d; others = more; is = l.is; are = a; given = g; same = q; fits = f }

registers-done : (s : Source) (ms : List TermNode) (y : Emitter) (rs : List EdgeRowTree) (e : Emitted) → RegistersLeft s ms y [] rs e → AreRegistered ms s rs e y
registers-done s ms y rs e l = by l.rest l.are l.same l.fits
  where
    by : (rest : List EdgeRowTree) → AreEdgeRows ms [] rest → fold (emit_register s) l.now rest ≡ fold (emit_register s) e rs → list_all row_fits rest ≡ list_all row_fits rs
        → AreRegistered ms s rs e y
    by [] a q f = record { is = subst (IsEmitted ms s y) q l.is; fits = sym f }
    by (d ∷ more) a q f = absurd a

module _ (o : Origin) (rows : List EdgeRow) (ns : List TermNode) (x : Emitter) where
  pub registers-begin : Grows ns ns → CanPutRegisters ns o x rows → RegistersSoFar o rows ns x ns x rows
  registers-begin g can = record {
    grows = g;
    some = can;
    each = λ c. record { now = c.emitted; rest = c.registers; is = c.is; are = c.are; given = c.given; same = refl; fits = refl };
  }

  module _ (ms : List TermNode) (y : Emitter) (row : EdgeRow) (left all : List EdgeRow) (cut : all ≡ row ∷ left) (so : RegistersSoFar o rows ns x ms y all) where
    first-of-rows : (c : CanPutRegisters ns o x rows) → FirstRegister (source_by c.name c.naming o.flat.now) ms y row left c.registers c.emitted
    first-of-rows c =
        let s = source_by c.name c.naming o.flat.now in
        first-register s ms y row left c.registers c.emitted (subst (λ (l : List EdgeRow). RegistersLeft s ms y l c.registers c.emitted) cut (so.each c))

    can-first-row : (c : CanPutRegisters ns o x rows) → CanPutRegister ms o y row
    can-first-row c =
        let l = first-of-rows c in
        record { name = c.name; naming = c.naming; emitted = l.now; register = l.first; origin = c.origin; is = l.is; are = l.are.0; given = l.given.0 }

    pub registers-can : CanPutRegister ms o y row
    registers-can = can-first-row so.some

    pub registers-next : (m2 : List TermNode) (y2 : Emitter) → Grows ms m2 → PutsRegister ms o y row m2 y2 → RegistersSoFar o rows ns x m2 y2 left
    registers-next m2 y2 g p = record {
      grows = grows_on ns ms m2 so.grows g;
      some = so.some;
      each = λ c.
          let l = first-of-rows c in
          let r = p (record { name = c.name; naming = c.naming; emitted = l.now; register = l.first; origin = c.origin; is = l.is; are = l.are.0; given = l.given.0 }) in
          record {
            now = emit_register (source_by c.name c.naming o.flat.now) l.now l.first;
            rest = l.others;
            is = r.is;
            are = rows-grown ms m2 g left l.others l.are.1;
            given = l.given.1;
            same = l.same;
            fits = sym (ap (λ b. b && list_all row_fits l.others) r.fits) ∙ l.fits;
          };
    }

    pub registers-not : (f : EmitFault) → PutsRegisterNot ms o y row f → PutsRegistersNot ns o x rows f
    registers-not fault.OutOfMemory p = tt
    registers-not fault.EntityTooLarge p = λ c.
        let l = first-of-rows c in
        large c (source_by c.name c.naming o.flat.now) l
        (p (record { name = c.name; naming = c.naming; emitted = l.now; register = l.first; origin = c.origin; is = l.is; are = l.are.0; given = l.given.0 }))
      where
        large : (c : CanPutRegisters ns o x rows) (s : Source) (l : FirstRegister s ms y row left c.registers c.emitted) →
            (row_fits l.first ≡ false) ⊎ (max_lines < length (emit_register s l.now l.first).lines) →
            (list_all row_fits c.registers ≡ false) ⊎ (max_lines < length (fold (emit_register s) c.emitted c.registers).lines)
        large c s l (inl q) = inl (sym l.fits ∙ ap (λ b. b && list_all row_fits l.others) q)
        large c s l (inr w) =
            let k = (registers-extends s l.others (emit_register s l.now l.first)).longer in
            let z : length (fold (emit_register s) (emit_register s l.now l.first) l.others).lines ≡ length (fold (emit_register s) c.emitted c.registers).lines =
            ap (λ (e : Emitted). length e.lines) l.same in
            inr (omega (arith, k, w, z))

  pub registers-end : (ms : List TermNode) (y : Emitter) (all : List EdgeRow) → all ≡ [] → RegistersSoFar o rows ns x ms y all → PutsRegisters ns o x rows ms y
  registers-end ms y all cut so c =
      let s = source_by c.name c.naming o.flat.now in
      registers-done s ms y c.registers c.emitted (subst (λ (l : List EdgeRow). RegistersLeft s ms y l c.registers c.emitted) cut (so.each c))
