-- A pass of an entity of registers drives the rows of which a trigger fires.
use Rattle.std.proofs.Common.{◌≡◌, Bool, true, false, not, ◌&&◌, ◌||◌, if◌then◌else◌, List, [], ◌∷◌, ◌++◌, map, Some, None, unwrap_or, refl, ap, sym, ◌∙◌, subst, append_assoc, append-nil}
use Rattle.std.specs.Prelude.{fold}
use Rattle.std.specs.List.{list_all}
use Rattle.std.specs.Option.{option_and_then}
use Rattle.lh_types.specs.Wish.{Wish}
use Rattle.lh_types.specs.Same.{and_both}
use Rattle.lh_unit.specs.Contents.{reg_text, UnitText}
use Rattle.lh_unit.specs.Held.{Env, as_part, as_test, as_delay, delay_at, part_at}
use Rattle.lh_unit.specs.Effects.{drive_due}
use Rattle.lh_unit.specs.Pass.{Passed, passes, mode_holds, past_of, trigger_now, fires as text_fires, stored, triggers_from}
use Rattle.lh_unit.specs.Within.{Each}
use Rattle.lh_term.specs.Tree.{now_of}
use Rattle.lh_term.specs.Mean.{Valuation}
use Rattle.lh_emit_def.specs.Given.{TriggerTree, EdgeRowTree}
use Rattle.lh_emit_def.specs.Emitted.{Emitted, puts, term_name, part_name, signal, need_part}
use Rattle.lh_emit_def.specs.Needs.{need}
use Rattle.lh_emit_def.specs.Entities.{need_cond, need_trigger, trigger_text, mode_of, need_register, put_register, emit_register_by, emit_register, choices_fit, row_fits}
use Rattle.lh_emit_def.specs.Reads.{range_in, reads}
use Rattle.lh_emit_def.specs.Registers.{sees, fires, register_drives, row_seen}
use Rattle.lh_emit_def.specs.Ways.{IsReached, TriggerIsGiven, RowIsGiven}
use Rattle.lh_emit_def.proofs.ComputedTerms.{value}
use Rattle.lh_emit_def.proofs.Induction.{IsNamed, IsNamedPart, Kept, kept-same, kept-then}
use Rattle.lh_emit_def.proofs.NeedLaws.{need-needed, part-needed}
use Rattle.lh_emit_def.proofs.PassState.{Frame, HasFewArgs, source, after, Means, Inv, begins-before}
use Rattle.lh_emit_def.proofs.KeptByNeed.{keeps, term-held, part-held}
use Rattle.lh_emit_def.proofs.DrivePasses.{due-row, CondNamed, puts-means, cond-held, cond-needed}

-- what a register needs has names
pub record TriggerNamed (e : Emitted) (g : TriggerTree) : Type 0 where
  pub now : IsNamed e (now_of g.part)
  pub gate : CondNamed e g.gate

pub trigger-kept : (e x : Emitted) (g : TriggerTree) → Kept e x → TriggerNamed e g → TriggerNamed x g
trigger-kept e x g k n = record { now = k.terms (now_of g.part) n.now; gate = λ q. k.terms g.gate (n.gate q) }

pub triggers-kept : (e x : Emitted) (gs : List TriggerTree) → Kept e x → Each (TriggerNamed e) gs → Each (TriggerNamed x) gs
triggers-kept e x [] k n = tt
triggers-kept e x (g ∷ gs) k n = (trigger-kept e x g k n.0, triggers-kept e x gs k n.1)

module _ (f : Frame) (few : HasFewArgs f.unit) where
  abbrev pub v : Valuation
  v = reads f.args f.now

  -- some trigger fires, where this much was seen before the first
  abbrev pub fires_from : List Bool → List TriggerTree → Bool
  fires_from seen [] = false
  fires_from seen (g ∷ more) = fires (past_of f.memory seen) v g || fires_from (seen ++ sees v g.part ∷ []) more

  -- ---- the triggers of a register

  module _ (w : Wish) (ts : List Bool) (y : UnitText) (e : Emitted) (m : Means f few w ts y e) (r : EdgeRowTree)
      (named_value : IsNamed e r.value) (named_delay : IsNamed e r.delay) (named_part : IsNamedPart e r.part) where
    abbrev held : Env
    held = (after f few y e.lines).held

    -- what a trigger sees, and whether it fires
    trigger-sees : (g : TriggerTree) → TriggerNamed e g → trigger_now held (trigger_text r e g) ≡ sees v g.part
    trigger-sees g n = ap (λ o. unwrap_or (option_and_then as_test o) false) (term-held f few w ts y e m (now_of g.part) n.now)

    trigger-fires : (g : TriggerTree) → TriggerNamed e g → (seen : List Bool) (x : Wish) →
        text_fires f.memory (record { held = held; seen = seen; wish = x }) (trigger_text r e g) ≡ fires (past_of f.memory seen) v g
    trigger-fires g n seen x =
        let a = trigger-sees g n in
        let b = cond-held f few w ts y e m g.gate n.gate in
        λ i. mode_holds (mode_of g.rise) (past_of f.memory seen) (a i) && unwrap_or (b i) false

    trigger-stores : (g : TriggerTree) (seen : List Bool) (x : Wish) →
        stored f.at (signal e r.part) (trigger_text r e g) (record { held = held; seen = seen; wish = x }) ≡ register_drives v f.args f.at x r
    trigger-stores g seen x =
        let a : part_at held (part_name e r.part) ≡ Some (range_in f.args r.part) = ap (option_and_then as_part) (part-held f few w ts y e m r.part named_part).held in
        let b = term-held f few w ts y e m r.value named_value in
        let c : delay_at held (term_name e r.delay) ≡ as_delay (value v r.delay) = ap (option_and_then as_delay) (term-held f few w ts y e m r.delay named_delay) in
        (λ i. unwrap_or (drive_due f.at x (a i) (b i) (c i)) x) ∙ due-row f.at x (range_in f.args r.part) (value v r.value) (value v r.delay)

    abbrev run : Bool → List Bool → Wish → List TriggerTree → Passed
    run fired seen x gs = triggers_from f.memory f.at (signal e r.part) fired (record { held = held; seen = seen; wish = x }) (map (trigger_text r e) gs)

    abbrev drives_if : Bool → Wish → Wish
    drives_if b x = if b then register_drives v f.args f.at x r else x

    abbrev Ran : Bool → List Bool → Wish → List TriggerTree → Type 0
    Ran fired seen x gs = run fired seen x gs ≡ record { held = held; seen = seen ++ map (λ (g : TriggerTree). sees v g.part) gs; wish = drives_if (not fired && fires_from seen gs) x }

    run-step : (g : TriggerTree) (gs : List TriggerTree) → TriggerNamed e g → (fired : Bool) (seen : List Bool) (x : Wish) →
        run fired seen x (g ∷ gs) ≡ run (fired || fires (past_of f.memory seen) v g) (seen ++ sees v g.part ∷ []) (drives_if (not fired && fires (past_of f.memory seen) v g) x) gs
    run-step g gs n fired seen x =
        let a = trigger-fires g n seen x in
        let b = trigger-sees g n in
        let c = trigger-stores g seen x in
        λ i. triggers_from f.memory f.at (signal e r.part) (fired || a i) (record { held = held; seen = seen ++ b i ∷ []; wish = if not fired && a i then c i else x }) (map (trigger_text r e) gs)

    -- where the first that fires drives
    once-fired : (a b c : Bool) (x : Wish) → drives_if (not (a || b) && c) (drives_if (not a && b) x) ≡ drives_if (not a && (b || c)) x
    once-fired true b c x = refl
    once-fired false true c x = refl
    once-fired false false c x = refl

    runs : (gs : List TriggerTree) → Each (TriggerNamed e) gs → (fired : Bool) (seen : List Bool) (x : Wish) → Ran fired seen x gs
    runs [] n fired seen x =
        let a : seen ≡ seen ++ [] = sym (append-nil seen) in
        let b : x ≡ drives_if (not fired && false) x = none fired in
        λ i. record { held = held; seen = a i; wish = b i }
      where
        none : (b : Bool) → x ≡ drives_if (not b && false) x
        none true = refl
        none false = refl
    runs (g ∷ gs) n fired seen x =
        let b = fires (past_of f.memory seen) v g in
        let more = seen ++ sees v g.part ∷ [] in
        let p = append_assoc seen (sees v g.part ∷ []) (map (λ (h : TriggerTree). sees v h.part) gs) in
        let q = once-fired fired b (fires_from more gs) x in
        run-step g gs n.0 fired seen x
        ∙ runs gs n.1 (fired || b) more (drives_if (not fired && b) x)
        ∙ (λ i. record { held = held; seen = p i; wish = q i })

    -- a `reg` drives its row where a trigger fires
    pub register-gives : (gs : List TriggerTree) → Each (TriggerNamed e) gs →
        passes y f.now f.memory f.at (reg_text (signal e r.part) (map (trigger_text r e) gs)) None (after f few y e.lines)
        ≡ record { held = held; seen = ts ++ map (λ (g : TriggerTree). sees v g.part) gs; wish = drives_if (fires_from ts gs) w }
    register-gives gs n =
        let a = m.seen in
        let b = m.wish in
        (λ i. triggers_from f.memory f.at (signal e r.part) false (record { held = held; seen = a i; wish = b i }) (map (trigger_text r e) gs)) ∙ runs gs n false ts w

  -- ---- what a register needs

  module _ (w : Wish) (ts : List Bool) (r : EdgeRowTree) (g : RowIsGiven (source f few) r) (value_fits : choices_fit r.value ≡ true) (delay_fits : choices_fit r.delay ≡ true) where
    -- after need of triggers
    record TriggersNeeded (e x : Emitted) (hs : List TriggerTree) : Type 0 where
      inv : Inv f few w ts x
      named : Each (TriggerNamed x) hs
      kept : Kept e x

    record FirstNeeded (e x : Emitted) (h : TriggerTree) : Type 0 where
      inv : Inv f few w ts x
      value : IsNamed x r.value
      delay : IsNamed x r.delay
      named : TriggerNamed x h
      kept : Kept e x

    trigger-needed : (h : TriggerTree) → TriggerIsGiven (source f few) h → choices_fit h.gate ≡ true → (e : Emitted) → Inv f few w ts e → FirstNeeded e (need_trigger (source f few) r e h) h
    trigger-needed h t c e inv =
        let s = source f few in
        let k = keeps f few w ts in
        let n1 = need-needed s (IsReached s) (λ p r. r) (Inv f few w ts) k r.value g.value.typed value_fits g.value.parts e inv in
        let e1 = need s r.value e in
        let n2 = need-needed s (IsReached s) (λ p r. r) (Inv f few w ts) k (now_of h.part) t.is_data refl t.part e1 n1.inv in
        let e2 = need s (now_of h.part) e1 in
        let n3 = cond-needed f few w ts h.gate t.gate c e2 n2.inv in
        let e3 = need_cond s h.gate e2 in
        let n4 = need-needed s (IsReached s) (λ p r. r) (Inv f few w ts) k r.delay g.delay.typed delay_fits g.delay.parts e3 n3.0 in
        record {
          inv = n4.inv;
          value = n4.kept.terms r.value (n3.2.terms r.value (n2.kept.terms r.value n1.named));
          delay = n4.named;
          named = record { now = n4.kept.terms (now_of h.part) (n3.2.terms (now_of h.part) n2.named); gate = λ q. n4.kept.terms h.gate (n3.1 q) };
          kept = kept-then e e1 _ n1.kept (kept-then e1 e2 _ n2.kept (kept-then e2 e3 _ n3.2 n4.kept));
        }

    triggers-needed : (hs : List TriggerTree) → Each (TriggerIsGiven (source f few)) hs → list_all (λ (h : TriggerTree). choices_fit h.gate) hs ≡ true → (e : Emitted) → Inv f few w ts e →
        TriggersNeeded e (fold (need_trigger (source f few) r) e hs) hs
    triggers-needed [] t c e inv = record { inv = inv; named = tt; kept = kept-same e }
    triggers-needed (h ∷ hs) t c e inv =
        let b = and_both (choices_fit h.gate) (list_all (λ (h : TriggerTree). choices_fit h.gate) hs) c in
        let x = need_trigger (source f few) r e h in
        let n = trigger-needed h t.0 b.0 e inv in
        let l = triggers-needed hs t.1 b.1 x n.inv in
        record { inv = l.inv; named = (trigger-kept x _ h l.kept n.named, l.named); kept = kept-then e x _ n.kept l.kept }

    -- a row with triggers is emitted
    register-emitted : (h : TriggerTree) (hs : List TriggerTree) → r.triggers ≡ h ∷ hs → list_all (λ (h : TriggerTree). choices_fit h.gate) (h ∷ hs) ≡ true → (e : Emitted) → Inv f few w ts e →
        Inv f few (if fires_from ts r.triggers then register_drives v f.args f.at w r else w) (ts ++ row_seen v r) (put_register r (need_register (source f few) r e))
    register-emitted h hs q c e inv =
        let s = source f few in
        let t : Each (TriggerIsGiven s) (h ∷ hs) = subst (Each (TriggerIsGiven s)) q g.triggers in
        let b = and_both (choices_fit h.gate) (list_all (λ (h : TriggerTree). choices_fit h.gate) hs) c in
        let e1 = need_trigger s r e h in
        let n1 = trigger-needed h t.0 b.0 e inv in
        let e2 = fold (need_trigger s r) e1 hs in
        let n2 = triggers-needed hs t.1 b.1 e1 n1.inv in
        let e3 = need_part s r.part e2 in
        let n3 = part-needed s (IsReached s) (λ p r. r) (Inv f few w ts) (keeps f few w ts) r.part g.part e2 n2.inv in
        let k = kept-then e1 e2 e3 n2.kept n3.kept in
        let all : Each (TriggerNamed e3) (h ∷ hs) = (trigger-kept e1 e3 h k n1.named, triggers-kept e2 e3 hs n3.kept n2.named) in
        let put : Inv f few (if fires_from ts (h ∷ hs) then register_drives v f.args f.at w r else w) (ts ++ map (λ (g : TriggerTree). sees v g.part) (h ∷ hs))
        (puts (reg_text (signal e3 r.part) (map (trigger_text r e3) (h ∷ hs))) e3) =
        λ y a.
        let m = n3.inv y (begins-before f few y e3.lines _ a) in
        puts-means f few w _ ts _ y e3 _ a m (register-gives w ts y e3 m r (k.terms r.value n1.value) (k.terms r.delay n1.delay) n3.named (h ∷ hs) all) in
        subst (λ (l : List TriggerTree). Inv f few (if fires_from ts l then register_drives v f.args f.at w r else w) (ts ++ map (λ (g : TriggerTree). sees v g.part) l)
        (let x = need_part s r.part (fold (need_trigger s r) e l) in puts (reg_text (signal x r.part) (map (trigger_text r x) l)) x)) (sym q) put

  -- a row is emitted; without triggers it emits nothing
  pub row-emitted : (w : Wish) (ts : List Bool) (r : EdgeRowTree) → RowIsGiven (source f few) r → row_fits r ≡ true → (e : Emitted) → Inv f few w ts e →
      Inv f few (if fires_from ts r.triggers then register_drives v f.args f.at w r else w) (ts ++ row_seen v r) (emit_register (source f few) e r)
  row-emitted w ts r g c e inv = at r.triggers refl
    where
      at : (l : List TriggerTree) → r.triggers ≡ l → Inv f few (if fires_from ts r.triggers then register_drives v f.args f.at w r else w) (ts ++ row_seen v r) (emit_register_by (source f few) r l e)
      at [] q = subst (λ (l : List TriggerTree). Inv f few (if fires_from ts l then register_drives v f.args f.at w r else w) (ts ++ map (λ (g : TriggerTree). sees v g.part) l) e) (sym q)
          (subst (λ (us : List Bool). Inv f few w us e) (sym (append-nil ts)) inv)
      at (h ∷ hs) q =
          let d : (choices_fit r.value && (choices_fit r.delay && list_all (λ (g : TriggerTree). choices_fit g.gate) (h ∷ hs))) ≡ true = (rw q at c) in
          let b = and_both (choices_fit r.value) (choices_fit r.delay && list_all (λ (g : TriggerTree). choices_fit g.gate) (h ∷ hs)) d in
          let b1 = and_both (choices_fit r.delay) (list_all (λ (g : TriggerTree). choices_fit g.gate) (h ∷ hs)) b.1 in
          register-emitted w ts r g b.0 b1.0 h hs q b1.1 e inv
