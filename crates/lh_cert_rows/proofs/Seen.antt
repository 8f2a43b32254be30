-- What a pass holds and sees does not depend on what it remembers.
use Rattle.std.proofs.Common.{◌≡◌, Bool, not, ◌&&◌, ◌||◌, if◌then◌else◌, List, [], ◌∷◌, ◌++◌, map, Option, Some, refl, ap, sym, ◌∙◌, append_assoc, append-nil}
use Rattle.lh_time.specs.declared.Instant.{Instant}
use Rattle.lh_unit.specs.Contents.{OperandText, TriggerText, InstText, const_text, pure_text, prb_text, drv_text, reg_text, LineText, UnitText}
use Rattle.lh_unit.specs.Held.{Env, datum_held}
use Rattle.lh_unit.specs.Effects.{operated, probed}
use Rattle.lh_unit.specs.Hierarchy.{if_held}
use Rattle.lh_unit.specs.Pass.{Passed, passes, pass_from, triggers_from, trigger_now, fires, stored}
use Rattle.lh_eval_laws.proofs.FitLaws.{triggers-hold}

-- a register sees its triggers, whatever it remembers
triggers-see : (memory : Option (List Bool)) (t : Instant) (to : OperandText) (fired : Bool) (p : Passed) (gs : List TriggerText)
    → (triggers_from memory t to fired p gs).seen ≡ p.seen ++ map (trigger_now p.held) gs
triggers-see memory t to fired p [] = sym (append-nil p.seen)
triggers-see memory t to fired p (g ∷ gs) =
    triggers-see memory t to (fired || fires memory p g)
    (record { held = p.held; seen = p.seen ++ trigger_now p.held g ∷ []; wish = if not fired && fires memory p g then stored t to g p else p.wish }) gs
    ∙ append_assoc p.seen (trigger_now p.held g ∷ []) (map (trigger_now p.held) gs)

-- two passes hold and have seen the same
record Alike (p q : Passed) : Type 0 where
  held : p.held ≡ q.held
  seen : p.seen ≡ q.seen

module _ (u : UnitText) (now : List Bool) (a b : Option (List Bool)) (t : Instant) where
  line-alike : (i : InstText) (r : Option _) (p q : Passed) → Alike p q → Alike (passes u now a t i r p) (passes u now b t i r q)
  line-alike (const_text d) r p q h = record { held = ap (λ (e : Env). if_held e r (Some (datum_held d))) h.held; seen = h.seen }
  line-alike (pure_text o os) r p q h = record { held = ap (λ (e : Env). if_held e r (operated u e o os)) h.held; seen = h.seen }
  line-alike (prb_text s) r p q h = record { held = ap (λ (e : Env). if_held e r (probed now e s)) h.held; seen = h.seen }
  line-alike (drv_text to value after cond) r p q h = record { held = h.held; seen = h.seen }
  line-alike (reg_text to gs) r p q h = record {
    held = triggers-hold a t to _ p gs ∙ h.held ∙ sym (triggers-hold b t to _ q gs);
    seen = triggers-see a t to _ p gs ∙ (λ i. h.seen i ++ map (trigger_now (h.held i)) gs) ∙ sym (triggers-see b t to _ q gs);
  }
  line-alike _ r p q h = h

  lines-alike : (ls : List LineText) (p q : Passed) → Alike p q → Alike (pass_from u now a t p ls) (pass_from u now b t q ls)
  lines-alike [] p q h = h
  lines-alike (l ∷ ls) p q h = lines-alike ls (passes u now a t l.inst l.result p) (passes u now b t l.inst l.result q) (line-alike l.inst l.result p q h)

  pub seen-alike : (ls : List LineText) (p : Passed) → (pass_from u now a t p ls).seen ≡ (pass_from u now b t p ls).seen
  seen-alike ls p = (lines-alike ls p p (record { held = refl; seen = refl })).seen
