-- Tests of lists, and of two and more at once.
use Rattle.std.proofs.Common.{◌≡◌, List, [], ◌∷◌, Bool, true, false, ◌&&◌, ◌||◌, refl}
use Rattle.std.specs.List.{list_all}
use Rattle.std.proofs.lemmas.Bool.{and_parts, false≢true, true≢false}
use Rattle.lh_unit.specs.Within.{Each}

pub all_three : (a b c : Bool) → (a && b && c) ≡ true → (a ≡ true) × (b ≡ true) × (c ≡ true)
all_three true true true h = (refl, refl, refl)
all_three true true false h = absurd (false≢true h)
all_three true false c h = absurd (false≢true h)
all_three false b c h = absurd (false≢true h)

pub all_four : (a b c d : Bool) → (a && b && c && d) ≡ true → (a ≡ true) × (b ≡ true) × (c ≡ true) × (d ≡ true)
all_four true true true true h = (refl, refl, refl, refl)
all_four true true true false h = absurd (false≢true h)
all_four true true false d h = absurd (false≢true h)
all_four true false c d h = absurd (false≢true h)
all_four false b c d h = absurd (false≢true h)

pub none_of_three : (a b c : Bool) → (a || b || c) ≡ false → (a ≡ false) × (b ≡ false) × (c ≡ false)
none_of_three true b c h = absurd (true≢false h)
none_of_three false true c h = absurd (true≢false h)
none_of_three false false true h = absurd (true≢false h)
none_of_three false false false h = (refl, refl, refl)

-- what is asked, and not so
pub asked_not : (a b : Bool) → a ≡ true → (a && b) ≡ false → b ≡ false
asked_not true b e h = h
asked_not false b e h = absurd (false≢true e)

pub each_passes : {X : Type 0} → (p : X → Bool) (xs : List X) → list_all p xs ≡ true → Each (λ x. p x ≡ true) xs
each_passes p [] h = tt
each_passes p (x ∷ xs) h = let b = and_parts (p x) (list_all p xs) h in (b.0, each_passes p xs b.1)
