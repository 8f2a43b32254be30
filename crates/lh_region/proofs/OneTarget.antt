-- The one block for which all ends wait, by the ways in which they end.
use Rattle.std.proofs.Common.{◌≡◌, ◌<◌, ◌≤◌, ◌+◌, ℕ, List, [], ◌∷◌, length, map, drop, get_or, Bool, true, ◌&&◌, Some, refl, ap, sym, ◌∙◌, subst}
use Rattle.std.proofs.lemmas.List.{drop_all}
use Rattle.lh_unit.proofs.Lists.{drop-item}
use Rattle.std.specs.List.{list_all}
use Rattle.std.specs.Option.{option_and_then}
use Rattle.lh_region_def.specs.Rows as text
use Rattle.lh_region_def.specs.Regions as texts
use Rattle.lh_region.specs.declared.rows.EndRow.{EndRow}
use Rattle.lh_region.specs.Stands.{way_text}
use Rattle.lh_region.specs.Targets.{ways_of, end_by, target_by, TargetByWays}

-- each of these ways waits for block n on the bits of the first
abbrev pub all_alike : (n : ℕ) → text.Way → List text.Way → Bool
all_alike n w vs = list_all (texts.waits_alike n w) vs

-- the first of these ways
abbrev pub first_way : List EndRow → text.Way
first_way [] = text.halts
first_way (e ∷ es) = way_text e.way

alike-ends : (n : ℕ) (w : text.Way) (es : List text.RegionEnd) → list_all (λ (f : text.RegionEnd). texts.waits_alike n w f.way) es ≡ all_alike n w (map (λ (x : text.RegionEnd). x.way) es)
alike-ends n w [] = refl
alike-ends n w (e ∷ es) = ap (λ (b : Bool). texts.waits_alike n w e.way && b) (alike-ends n w es)

alike-ways : (n : ℕ) (w : text.Way) (vs : List text.Way) → list_all (λ (f : text.RegionEnd). texts.waits_alike n w f.way) (map end_by vs) ≡ all_alike n w vs
alike-ways n w [] = refl
alike-ways n w (v ∷ vs) = ap (λ (b : Bool). texts.waits_alike n w v && b) (alike-ways n w vs)

-- the first way, and whether the others are like it
pub target-is : (w : text.Way) (vs : List text.Way) → target_by (w ∷ vs) ≡ option_and_then (λ (n : ℕ). texts.target_if (all_alike n w vs) n) (texts.waits_for w)
target-is w vs = λ i. option_and_then (λ (n : ℕ). texts.target_if (alike-ways n w vs i) n) (texts.waits_for w)

pub target-by-ways : TargetByWays
target-by-ways [] = refl
target-by-ways (e ∷ es) = (λ i. option_and_then (λ (n : ℕ). texts.target_if (alike-ends n e.way es i) n) (texts.waits_for e.way)) ∙ sym (target-is e.way (map (λ (x : text.RegionEnd). x.way) es))

pub target-some : (w : text.Way) (vs : List text.Way) (n : ℕ) (b : Bool) → texts.waits_for w ≡ Some n → all_alike n w vs ≡ b → target_by (w ∷ vs) ≡ texts.target_if b n
target-some w vs n b e h = target-is w vs ∙ ap (option_and_then (λ (n : ℕ). texts.target_if (all_alike n w vs) n)) e ∙ ap (λ (x : Bool). texts.target_if x n) h

-- ---- the others, one by one

pub alike-first : (n : ℕ) (w : text.Way) (os : List EndRow) (i : ℕ) (e : EndRow) (b : Bool) → i < length os → e ≡ get_or os i e → texts.waits_alike n w (way_text e.way) ≡ b
    → all_alike n w (ways_of (drop i os)) ≡ (b && all_alike n w (ways_of (drop (i + 1) os)))
alike-first n w os i e b l h k = ap (λ (xs : List EndRow). all_alike n w (ways_of xs)) (drop-item os i e l h) ∙ ap (λ (x : Bool). x && all_alike n w (ways_of (drop (i + 1) os))) k

pub alike-end : (n : ℕ) (w : text.Way) (os : List EndRow) (i : ℕ) → length os ≤ i → all_alike n w (ways_of (drop i os)) ≡ true
alike-end n w os i l = ap (λ (xs : List EndRow). all_alike n w (ways_of xs)) (drop_all i os l)

module _ (ends : List EndRow) (f : EndRow) (os : List EndRow) (n : ℕ) (e : ends ≡ f ∷ os) (waits : texts.waits_for (way_text f.way) ≡ Some n) where
  pub first-is : first_way ends ≡ way_text f.way
  first-is = ap first_way e

  pub answer-is : (b : Bool) → all_alike n (first_way ends) (ways_of os) ≡ b → target_by (ways_of ends) ≡ texts.target_if b n
  answer-is b h = ap (λ (xs : List EndRow). target_by (ways_of xs)) e ∙ target-some (way_text f.way) (ways_of os) n b waits (subst (λ (w : text.Way). all_alike n w (ways_of os) ≡ b) first-is h)
