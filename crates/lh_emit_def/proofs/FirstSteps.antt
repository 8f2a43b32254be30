-- The steps that are found for a part are those of the first line in text order that gives it.
use Rattle.std.proofs.Common.{◌≡◌, ℕ, List, [], ◌∷◌, ◌++◌, length, Option, Some, None, unwrap_or, refl, sym, ◌∙◌, subst, append_assoc, append-nil}
use Rattle.std.specs.Option.{option_and_then}
use Rattle.std.proofs.lemmas.Option.{none-some}
use Rattle.lh_unit.specs.Contents.{LineText, UnitText}
use Rattle.lh_unit.specs.Hierarchy.{lines_of}
use Rattle.lh_unit.specs.Typing.{or_else}
use Rattle.lh_unit.specs.Within.{Each}
use Rattle.lh_unit.proofs.Lists.{Each-append}
use Rattle.lh_term.specs.declared.part.Part.{Part}
use Rattle.lh_emit_def.specs.Emitted.{PartStep}
use Rattle.lh_emit_def.specs.Reached.{Reached, reached, steps_if, first_steps, IsReachedPartOf}
use Rattle.lh_emit_def.specs.Laws.{NamesPart, AreFirstSteps, of_line, of_none, StepsAreFirst}
use Rattle.lh_emit_def.proofs.ReachedParts.{in-few, if-found, given-steps}

module _ (u : UnitText) (p : Part) where
  abbrev few : List ℕ → Option Reached
  few n = reached (length (lines_of u.blocks)) u n

  abbrev NamesOther : LineText → Type 0
  NamesOther l = NamesPart u p l → ⊥

  no-steps : (l : LineText) → steps_if p (option_and_then few l.result) ≡ None → NamesOther l
  no-steps l e h =
      let w = h.2 in
      none-some w.way.steps (sym e ∙ given-steps few p h.0 w.way l.result (in-few u w.count h.0 w.way w.is_reached) w.is_part h.1)

  search : (before ls : List LineText) → lines_of u.blocks ≡ before ++ ls → Each NamesOther before → AreFirstSteps u p (unwrap_or (first_steps few p ls) [])
  search before [] s h = of_none (subst (Each NamesOther) (sym (s ∙ append-nil before)) h) refl
  search before (l ∷ ls) s h =
      at (steps_if p (option_and_then few l.result)) refl
      (λ k. search (before ++ l ∷ []) ls (s ∙ sym (append_assoc before (l ∷ []) ls)) (Each-append NamesOther before (l ∷ []) h (k, tt)))
    where
      at : (o : Option (List PartStep)) → steps_if p (option_and_then few l.result) ≡ o → (NamesOther l → AreFirstSteps u p (unwrap_or (first_steps few p ls) []))
          → AreFirstSteps u p (unwrap_or (or_else o (first_steps few p ls)) [])
      at None q go = go (no-steps l q)
      at (Some ss) q go =
          let f = if-found few p l.result ss q in
          let w : IsReachedPartOf u f.0.name p = record { count = length (lines_of u.blocks); way = f.0.way; is_reached = f.0.reaches; is_part = f.0.part } in
          of_line before ls l s h (f.0.name, f.1, w) (sym f.0.steps)

pub steps-first : StepsAreFirst
steps-first u p = search u p [] (lines_of u.blocks) refl tt
