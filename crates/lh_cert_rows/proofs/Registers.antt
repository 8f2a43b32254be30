-- A register does what its row says.
use Rattle.std.proofs.Common.{◌≡◌, ℕ, zero, suc, Bool, true, false, not, ◌&&◌, ◌||◌, if◌then◌else◌, List, [], ◌∷◌, ◌++◌, length, refl, sym, ap, ◌∙◌, subst, arith, Option, Some, None, slice_get, append_assoc, append-nil, length-append}
use Rattle.std.specs.Prelude.{unwrap_or}
use Rattle.std.specs.Option.{option_and_then, option_map}
use Rattle.std.proofs.lemmas.Option.{same_Some, none-some}
use Rattle.lh_time.specs.declared.Instant.{Instant}
use Rattle.lh_time.specs.declared.Delay.{Delay}
use Rattle.lh_time.specs.Due.{due_of}
use Rattle.lh_types.specs.Bits.{value_bits}
use Rattle.lh_types.specs.Values.{Datum, time_value}
use Rattle.lh_types.specs.Wish.{Wish, with_drive}
use Rattle.lh_types.specs.declared.part.Range.{Range}
use Rattle.lh_unit.specs.Contents.{OperandText, TriggerText}
use Rattle.lh_unit.specs.Held.{Env, as_datum, as_part, as_delay, as_test, datum_at, part_at, front}
use Rattle.lh_unit.specs.Effects.{condition_at, drive_due}
use Rattle.lh_unit.specs.Pass as pass
use Rattle.lh_unit.specs.Pass.{Passed, mode_holds, past_of, trigger_now, delay_of, triggers_from}
use Rattle.lh_term.specs.Tree.{Tree, constant}
use Rattle.lh_term.specs.Make.{bit_of}
use Rattle.lh_term.specs.Mean.{Valuation, mean}
use Rattle.lh_term.specs.declared.part.Part.{Part}
use Rattle.lh_region_def.specs.Known.{Known, known_value, known_cell, known_part, Knowledge, as_value, as_part as known_as_part, value_known, part_known}
use Rattle.lh_region_def.specs.Means.{range_in}
use Rattle.lh_cert_rows.specs.Rows.{TriggerRow}
use Rattle.lh_cert_rows.specs.Reading.{condition_known, delay_known, trigger_row, trigger_known, triggers_known}
use Rattle.lh_cert_rows.specs.Means as row
use Rattle.lh_cert_rows.specs.Means.{sees, first_fired, stored, triggers_seen}
use Rattle.lh_cert_rows.specs.Laws.{IsHeld, Remembers, no_run, a_run, DoesRow}

-- ---- what is known is held

module _ (v : Valuation) (args : List Range) (k : Knowledge) (e : Env) (s : IsHeld v args k e) where
  pub value-held : (n : List ℕ) (t : Tree) → value_known k n ≡ Some t → datum_at e n ≡ Some (mean v v t)
  value-held n t q = by (k n) refl q
    where
      by : (o : Option Known) → k n ≡ o → option_and_then as_value o ≡ Some t → datum_at e n ≡ Some (mean v v t)
      by None p g = absurd (none-some t g)
      by (Some (known_value x)) p g = ap (option_and_then as_datum) (s n (known_value x) p) ∙ ap (λ y. Some (mean v v y)) (same_Some x t g)
      by (Some (known_cell x)) p g = absurd (none-some t g)
      by (Some (known_part x)) p g = absurd (none-some t g)

  pub part-held : (n : List ℕ) (p : Part) → part_known k n ≡ Some p → part_at e n ≡ Some (range_in args p)
  part-held n q h = by (k n) refl h
    where
      by : (o : Option Known) → k n ≡ o → option_and_then known_as_part o ≡ Some q → part_at e n ≡ Some (range_in args q)
      by None p g = absurd (none-some q g)
      by (Some (known_part x)) p g = ap (option_and_then as_part) (s n (known_part x) p) ∙ ap (λ y. Some (range_in args y)) (same_Some x q g)
      by (Some (known_value x)) p g = absurd (none-some q g)
      by (Some (known_cell x)) p g = absurd (none-some q g)

  -- a condition is tested by its term, and an absent one is 1
  pub condition-seen : (n : Option (List ℕ)) (t : Tree) → condition_known k n ≡ Some t → unwrap_or (condition_at e n) false ≡ sees v t
  condition-seen None t q = ap (λ x. unwrap_or (as_test (mean v v x)) false) (same_Some (bit_of true) t q)
  condition-seen (Some n) t q = ap (λ o. unwrap_or (option_and_then as_test o) false) (value-held n t q)

  -- a delay is that of its term
  pub delay-held : (n : Option (List ℕ)) (t : Tree) → delay_known k n ≡ Some t → delay_of e n ≡ as_delay (mean v v t)
  delay-held None t q = ap (λ x. as_delay (mean v v x)) (same_Some (constant (time_value (record { fs = 0; delta = 0; eps = 0 }))) t q)
  delay-held (Some n) t q = ap (option_and_then as_delay) (value-held n t q)

-- what a drive with a value after a delay adds, if the delay is one
pub drive-due : (t : Instant) (w : Wish) (r : Range) (d : Datum) (o : Option Delay) → unwrap_or (drive_due t w (Some r) (Some d) o) w ≡ with_drive w (option_and_then (due_of t) o) r.lo (value_bits d)
drive-due t w r d None = refl
drive-due t w r d (Some x) = refl

-- ---- one trigger

-- what is known of each part of a trigger
record TriggerKnown (k : Knowledge) (g : TriggerText) (r : TriggerRow) : Type 0 where
  mode : r.mode ≡ g.mode
  operand : value_known k g.trigger ≡ Some r.operand
  gate : condition_known k g.gate ≡ Some r.gate
  value : value_known k g.value ≡ Some r.value
  delay : delay_known k g.after ≡ Some r.delay

trigger-parts : (k : Knowledge) (g : TriggerText) (r : TriggerRow) → trigger_known k g ≡ Some r → TriggerKnown k g r
trigger-parts k g r h = at (value_known k g.trigger) (condition_known k g.gate) (value_known k g.value) (delay_known k g.after) refl refl refl refl h
  where
    at : (x y z w : Option Tree) → value_known k g.trigger ≡ x → condition_known k g.gate ≡ y → value_known k g.value ≡ z → delay_known k g.after ≡ w → trigger_row g.mode x y z w ≡ Some r
        → TriggerKnown k g r
    at (Some x) (Some y) (Some z) (Some w) a b c d e =
        let q = same_Some (record { mode = g.mode; operand = x; gate = y; value = z; delay = w }) r e in
        record {
          mode = sym (ap (λ (m : TriggerRow). m.mode) q);
          operand = a ∙ ap (λ (m : TriggerRow). Some m.operand) q;
          gate = b ∙ ap (λ (m : TriggerRow). Some m.gate) q;
          value = c ∙ ap (λ (m : TriggerRow). Some m.value) q;
          delay = d ∙ ap (λ (m : TriggerRow). Some m.delay) q;
        }
    at None y z w a b c d e = absurd (none-some r e)
    at (Some x) None z w a b c d e = absurd (none-some r e)
    at (Some x) (Some y) None w a b c d e = absurd (none-some r e)
    at (Some x) (Some y) (Some z) None a b c d e = absurd (none-some r e)

-- the first of triggers and the others
record FrontKnown (k : Knowledge) (g : TriggerText) (more : List TriggerText) (rs : List TriggerRow) : Type 0 where
  first : TriggerRow
  others : List TriggerRow
  is : first ∷ others ≡ rs
  known : trigger_known k g ≡ Some first
  rest : triggers_known k more ≡ Some others

front-parts : (k : Knowledge) (g : TriggerText) (more : List TriggerText) (rs : List TriggerRow) → triggers_known k (g ∷ more) ≡ Some rs → FrontKnown k g more rs
front-parts k g more rs h = at (trigger_known k g) (triggers_known k more) refl refl h
  where
    at : (x : Option TriggerRow) (xs : Option (List TriggerRow)) → trigger_known k g ≡ x → triggers_known k more ≡ xs → front x xs ≡ Some rs → FrontKnown k g more rs
    at (Some x) (Some xs) a b e = record { first = x; others = xs; is = same_Some (x ∷ xs) rs e; known = a; rest = b }
    at None xs a b e = absurd (none-some rs e)
    at (Some x) None a b e = absurd (none-some rs e)

-- ---- the value at the previous run

get-there : (xs : List Bool) (y : Bool) (ys : List Bool) (n : ℕ) → length xs ≡ n → slice_get (xs ++ y ∷ ys) n ≡ Some y
get-there [] y ys zero e = refl
get-there [] y ys (suc n) e = absurd (omega arith)
get-there (x ∷ xs) y ys zero e = absurd (omega arith)
get-there (x ∷ xs) y ys (suc n) e = get-there xs y ys n (omega arith)

past-seen : (past : Option Valuation) (memory : Option (List Bool)) (seen : List Bool) (g : TriggerRow) (gs : List TriggerRow) → Remembers past memory seen (g ∷ gs)
    → past_of memory seen ≡ option_map (λ v. sees v g.operand) past
past-seen None None seen g gs (no_run _ _) = refl
past-seen None (Some _) seen g gs m = elim m [ ]
past-seen (Some v) None seen g gs m = elim m [ ]
past-seen (Some v) (Some _) seen g gs (a_run _ before behind _ _ l) = get-there before (sees v g.operand) (triggers_seen v gs ++ behind) (length seen) l

remembers-on : (past : Option Valuation) (memory : Option (List Bool)) (seen : List Bool) (b : Bool) (g : TriggerRow) (gs : List TriggerRow) → Remembers past memory seen (g ∷ gs)
    → Remembers past memory (seen ++ b ∷ []) gs
remembers-on None None seen b g gs (no_run _ _) = no_run (seen ++ b ∷ []) gs
remembers-on None (Some _) seen b g gs m = elim m [ ]
remembers-on (Some v) None seen b g gs m = elim m [ ]
remembers-on (Some v) (Some _) seen b g gs (a_run _ before behind _ _ l) =
    subst (λ (m : List Bool). Remembers (Some v) (Some m) (seen ++ b ∷ []) gs) (append_assoc before (sees v g.operand ∷ []) (triggers_seen v gs ++ behind))
    (a_run v (before ++ sees v g.operand ∷ []) behind (seen ++ b ∷ []) gs (omega (arith, length-append before (sees v g.operand ∷ []), length-append seen (b ∷ []))))

-- ---- the triggers one by one

module _ (past : Option Valuation) (now : Valuation) (args : List Range) (t : Instant) (memory : Option (List Bool)) (k : Knowledge) (to : OperandText) (q : Part) (is_to : part_known k to.value ≡ Some q) where
  -- what the triggers behind some do: nothing where one fired
  record Does (fired : Bool) (gs : List TriggerRow) (old new : Passed) : Type 0 where
    held : new.held ≡ old.held
    seen : new.seen ≡ old.seen ++ triggers_seen now gs
    wish : new.wish ≡ (if fired then old.wish else stored now args t q old.wish (first_fired past now gs))

  -- one trigger is seen, fires and drives as its row says
  module _ (old : Passed) (s : IsHeld now args k old.held) (g : TriggerText) (r : TriggerRow) (kn : TriggerKnown k g r) (rs : List TriggerRow) (mem : Remembers past memory old.seen (r ∷ rs)) where
    now-is : trigger_now old.held g ≡ sees now r.operand
    now-is = ap (λ o. unwrap_or (option_and_then as_test o) false) (value-held now args k old.held s g.trigger r.operand kn.operand)

    fires-is : pass.fires memory old g ≡ row.fires past now r
    fires-is =
        let a = past-seen past memory old.seen r rs mem in
        let b = condition-seen now args k old.held s g.gate r.gate kn.gate in
        let c = kn.mode in
        λ i. mode_holds (sym c i) (a i) (now-is i) && b i

    stored-is : pass.stored t to g old ≡ stored now args t q old.wish (Some r)
    stored-is =
        let a = part-held now args k old.held s to.value q is_to in
        let b = value-held now args k old.held s g.value r.value kn.value in
        let c = delay-held now args k old.held s g.after r.delay kn.delay in
        (λ i. unwrap_or (drive_due t old.wish (a i) (b i) (c i)) old.wish) ∙ drive-due t old.wish (range_in args q) (mean now now r.value) (as_delay (mean now now r.delay))

  -- the wish of the first that fires, where the first of them does or does not
  wish-on : (w x : Wish) (rs : List TriggerRow) (r : TriggerRow) → x ≡ stored now args t q w (Some r) → (b c : Bool)
      → (if b || c then (if not b && c then x else w) else stored now args t q (if not b && c then x else w) (first_fired past now rs))
      ≡ (if b then w else stored now args t q w (if c then Some r else first_fired past now rs))
  wish-on w x rs r e true c = refl
  wish-on w x rs r e false true = e
  wish-on w x rs r e false false = refl

  all-do : (fired : Bool) (triggers : List TriggerText) (gs : List TriggerRow) (old : Passed) → IsHeld now args k old.held → triggers_known k triggers ≡ Some gs → Remembers past memory old.seen gs
      → Does fired gs old (triggers_from memory t to fired old triggers)
  all-do fired [] gs old s h m =
      let e = same_Some [] gs h in
      subst (λ (xs : List TriggerRow). Does fired xs old old) e (record { held = refl; seen = sym (append-nil old.seen); wish = none fired })
    where
      none : (b : Bool) → old.wish ≡ (if b then old.wish else old.wish)
      none true = refl
      none false = refl
  all-do fired (g ∷ more) gs old s h m =
      let f = front-parts k g more gs h in
      let r = f.first in
      let rs = f.others in
      let kn = trigger-parts k g r f.known in
      let mem : Remembers past memory old.seen (r ∷ rs) = subst (λ (xs : List TriggerRow). Remembers past memory old.seen xs) (sym f.is) m in
      let now_is = now-is old s g r kn rs mem in
      let fires_is = fires-is old s g r kn rs mem in
      let next : Passed = record { held = old.held; seen = old.seen ++ trigger_now old.held g ∷ []; wish = if not fired && pass.fires memory old g then pass.stored t to g old else old.wish } in
      let d = all-do (fired || pass.fires memory old g) more rs next s f.rest (remembers-on past memory old.seen (trigger_now old.held g) r rs mem) in
      subst (λ (xs : List TriggerRow). Does fired xs old (triggers_from memory t to fired old (g ∷ more))) f.is (record {
        held = d.held;
        seen = d.seen ∙ append_assoc old.seen (trigger_now old.held g ∷ []) (triggers_seen now rs) ∙ ap (λ b. old.seen ++ b ∷ triggers_seen now rs) now_is;
        wish = d.wish ∙ wish-on old.wish (pass.stored t to g old) rs r (stored-is old s g r kn rs mem) fired (pass.fires memory old g)
            ∙ ap (λ c. if fired then old.wish else stored now args t q old.wish (if c then Some r else first_fired past now rs)) fires_is;
      })

pub registers-do : (past : Option Valuation) (now : Valuation) (args : List Range) (t : Instant) (memory : Option (List Bool)) (k : Knowledge) (to : OperandText) (triggers : List TriggerText)
    (old : Passed) (p : Part) (gs : List TriggerRow) → IsHeld now args k old.held → part_known k to.value ≡ Some p → triggers_known k triggers ≡ Some gs → Remembers past memory old.seen gs
    → DoesRow past now args t p gs old (triggers_from memory t to false old triggers)
registers-do past now args t memory k to triggers old p gs s e h m =
    let d = all-do past now args t memory k to p e false triggers gs old s h m in
    record { held = d.held; seen = d.seen; wish = d.wish }
