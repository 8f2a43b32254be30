-- What a pass comes to fits: it has seen one value for each trigger, and it wishes only bits of the signals.
use Rattle.std.proofs.Common.{◌≡◌, ℕ, ◌+◌, List, [], ◌∷◌, ◌++◌, length, Bool, true, false, not, ◌&&◌, ◌||◌, if◌then◌else◌, Option, ◌∙◌, arith, length-append}
use Rattle.lh_time.specs.declared.Instant.{Instant}
use Rattle.lh_types.specs.Types.{TypeTree, signal_type}
use Rattle.lh_types.specs.Wish.{Wish}
use Rattle.lh_unit.specs.Contents.{OperandText, TriggerText, InstText, drv_text, reg_text, LineText, UnitText}
use Rattle.lh_unit.specs.Pass.{Passed, trigger_now, fires, delay_of, stored, triggers_from, passes, pass_from}
use Rattle.lh_unit.specs.Within.{Each}
use Rattle.lh_verify_laws.specs.Operands.{RowIs, IsOf, TriggerIs}
use Rattle.lh_eval.specs.Fitting.{Fits}
use Rattle.lh_eval.specs.Sound.{InstIsSound}
use Rattle.lh_eval.specs.Wishing.{WishWithin}
use Rattle.lh_eval.proofs.DriveWishes.{due-within, driven-within}
use Rattle.lh_react.specs.Standing.{triggers_in, trigger_count}
use Rattle.lh_eval_laws.proofs.FitLaws.{keeps-fit}

if-within : (w : ℕ) (b : Bool) (x y : Wish) → WishWithin w x → WishWithin w y → WishWithin w (if b then x else y)
if-within w true x y p q = p
if-within w false x y p q = q

module _ (u : UnitText) (w : ℕ) where
  triggers-within : (memory : Option (List Bool)) (t : Instant) (to : OperandText) (ty : TypeTree) (fired : Bool) (p : Passed) (gs : List TriggerText)
      → Fits u w p.held → IsOf u (signal_type ty) to.value → Each (TriggerIs u ty) gs → WishWithin w p.wish
      → WishWithin w (triggers_from memory t to fired p gs).wish
  triggers-within memory t to ty fired p [] f s e x = x
  triggers-within memory t to ty fired p (g ∷ gs) f s e x =
      triggers-within memory t to ty (fired || fires memory p g)
      (record { held = p.held; seen = p.seen ++ trigger_now p.held g ∷ []; wish = if not fired && fires memory p g then stored t to g p else p.wish }) gs f s
      e.1
      (if-within w (not fired && fires memory p g) (stored t to g p) p.wish
      (due-within u w p.held t p.wish to.value g.value ty (delay_of p.held g.after) f s e.0.value x) x)

  inst-within : (now : List Bool) (memory : Option (List Bool)) (t : Instant) (i : InstText) (r : Option (List ℕ)) (p : Passed) → Fits u w p.held → RowIs u i
      → WishWithin w p.wish → WishWithin w (passes u now memory t i r p).wish
  inst-within now memory t (drv_text to value after cond) r p f row x =
      driven-within u w p.held t p.wish to value after cond f row x
  inst-within now memory t (reg_text to gs) r p f row x = triggers-within memory t to row.0 false p gs f row.1.1 row.2 x
  inst-within now memory t _ r p f row x = x

module _ (u : UnitText) (now : List Bool) (memory : Option (List Bool)) (t : Instant) where
  triggers-seen : (to : OperandText) (fired : Bool) (p : Passed) (gs : List TriggerText)
      → length (triggers_from memory t to fired p gs).seen ≡ length p.seen + length gs
  triggers-seen to fired p [] = omega arith
  triggers-seen to fired p (g ∷ gs) =
      let more = triggers-seen to (fired || fires memory p g)
      (record { held = p.held; seen = p.seen ++ trigger_now p.held g ∷ []; wish = if not fired && fires memory p g then stored t to g p else p.wish }) gs in
      let here : length (p.seen ++ trigger_now p.held g ∷ []) + length gs ≡ length p.seen + length (g ∷ gs) =
      omega (arith, length-append p.seen (trigger_now p.held g ∷ [])) in
      more ∙ here

  inst-seen : (i : InstText) (r : Option (List ℕ)) (p : Passed) → length (passes u now memory t i r p).seen ≡ length p.seen + triggers_in i
  inst-seen (reg_text to gs) r p = triggers-seen to false p gs
  inst-seen _ r p = omega arith

  -- one value for each trigger
  pub pass-seen : (ls : List LineText) (p : Passed) → length (pass_from u now memory t p ls).seen ≡ length p.seen + trigger_count ls
  pass-seen [] p = omega arith
  pass-seen (l ∷ ls) p =
      let here : length (passes u now memory t l.inst l.result p).seen + trigger_count ls ≡ length p.seen + (triggers_in l.inst + trigger_count ls) =
      omega (arith, inst-seen l.inst l.result p) in
      pass-seen ls (passes u now memory t l.inst l.result p) ∙ here

  -- only bits of the signals
  pub pass-within : (ls : List LineText) (p : Passed) → Each (InstIsSound u) ls → Fits u (length now) p.held → WishWithin (length now) p.wish
      → WishWithin (length now) (pass_from u now memory t p ls).wish
  pass-within [] p s f x = x
  pass-within (l ∷ ls) p s f x = pass-within ls (passes u now memory t l.inst l.result p) s.1 (keeps-fit u now memory t p l s.0 f)
      (inst-within u (length now) now memory t l.inst l.result p f s.0.row x)
