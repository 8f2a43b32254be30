-- For what a `wait` waits: parts within the signals, and an instant that is later.
use Rattle.std.proofs.Common.{◌≡◌, ℕ, List, [], ◌∷◌, map, Option, Some, None, refl, subst}
use Rattle.std.specs.Option.{option_map}
use Rattle.std.proofs.lemmas.Option.{same_Some, none-some}
use Rattle.lh_time.specs.declared.Instant.{Instant}
use Rattle.lh_time.specs.declared.Delay.{Delay}
use Rattle.lh_time.specs.Due.{due_of}
use Rattle.lh_time.proofs.DueLemmas.{due_is_later}
use Rattle.lh_types.specs.declared.part.Range.{Range}
use Rattle.lh_unit.specs.Contents.{UnitText, wait_text}
use Rattle.lh_unit.specs.Kinds.{used, uses, maybe_used, time_needed, signal_needed}
use Rattle.lh_unit.specs.Held.{Env, front, part_at, parts_at, delay_at}
use Rattle.lh_unit.specs.Activation.{Stand, waits, waiting, wake_at}
use Rattle.lh_unit.specs.Within.{Each}
use Rattle.lh_unit.proofs.Lists.{Each-of-map}
use Rattle.lh_verify_laws.specs.KindsOf.{HasTypeOfKind}
use Rattle.lh_eval.specs.Fitting.{Fits}
use Rattle.lh_eval.proofs.GivesFit.{part-fits}
use Rattle.lh_verify_laws.proofs.EachItem.{each-split}
use Rattle.lh_exec.specs.States.{WaitsIn, PartsWithin}
use Rattle.lh_time.specs.Order.{IsLaterIfAny}
use Rattle.lh_exec.specs.Sound.{StandFits}
use Rattle.lh_exec.proofs.Heads.{signal-used}

abbrev MaybeWithin : ℕ → Option (List Range) → Type 0
MaybeWithin w None = Unit {0}
MaybeWithin w (Some rs) = PartsWithin w rs

abbrev MaybeLater : Instant → Option (Option Instant) → Type 0
MaybeLater t None = Unit {0}
MaybeLater t (Some wake) = IsLaterIfAny t wake

parts-within : (u : UnitText) (w : ℕ) (e : Env) → Fits u w e → (ns : List (List ℕ)) → Each (λ n. HasTypeOfKind u (used signal_needed n)) ns → MaybeWithin w (parts_at e ns)
parts-within u w e f [] k = tt
parts-within u w e f (n ∷ ns) k = by (part_at e n) refl (parts_at e ns) (parts-within u w e f ns k.1)
  where
    by : (o : Option Range) → part_at e n ≡ o → (rs : Option (List Range)) → MaybeWithin w rs → MaybeWithin w (front o rs)
    by None p rs m = tt
    by (Some r) p None m = tt
    by (Some r) p (Some rs) m = let s = signal-used u n k.0 in ((part-fits u w e f n r s.0 p s.1).2, m)

due-later : (t : Instant) (d : Delay) → IsLaterIfAny t (due_of t d)
due-later t d = by (due_of t d) refl
  where
    by : (o : Option Instant) → due_of t d ≡ o → IsLaterIfAny t o
    by None p = tt
    by (Some v) p = due_is_later t v d p

wake-later : (t : Instant) (e : Env) (after : Option (List ℕ)) → MaybeLater t (wake_at t e after)
wake-later t e None = tt
wake-later t e (Some n) = by (delay_at e n)
  where
    by : (o : Option Delay) → MaybeLater t (option_map (due_of t) o)
    by None = tt
    by (Some d) = due-later t d

stands-fit : (w : ℕ) (t : Instant) (v : UnitText) (block to : List ℕ) (on : Option (List Range)) (wake : Option (Option Instant)) (x : Stand) → WaitsIn v block to → MaybeWithin w on
    → MaybeLater t wake → waiting block to on wake ≡ Some x → StandFits w t v x
stands-fit w t v block to None wake x k p l h = absurd (none-some x h)
stands-fit w t v block to (Some on) None x k p l h = absurd (none-some x h)
stands-fit w t v block to (Some on) (Some wake) x k p l h = subst (StandFits w t v) (same_Some (waits block to on wake) x h) (k, p, l)

-- where a process waits that holds what fits
pub waiting-fits : (w : ℕ) (t : Instant) (v : UnitText) (e : Env) → Fits v w e → (block to : List ℕ) (after : Option (List ℕ)) (signals : List (List ℕ)) (x : Stand)
    → Each (HasTypeOfKind v) (uses (wait_text to after signals)) → WaitsIn v block to
    → waiting block to (parts_at e signals) (wake_at t e after) ≡ Some x → StandFits w t v x
waiting-fits w t v e f block to after signals x k s h =
    let ks = Each-of-map (HasTypeOfKind v) (used signal_needed) signals (each-split (HasTypeOfKind v) (maybe_used time_needed after) (map (used signal_needed) signals) k).1 in
    stands-fit w t v block to (parts_at e signals) (wake_at t e after) x s (parts-within v w e f signals ks) (wake-later t e after) h
