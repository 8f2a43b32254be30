-- A module that is lowered from its first item to its last.
use Rattle.std.proofs.Common.{◌≡◌, ◌<◌, ℕ, ◌+◌, List, [], ◌∷◌, ◌++◌, length, take, get_or, ap, sym, ◌∙◌, subst}
use Rattle.lh_unit.specs.declared.inst.Item.{Item}
use Rattle.lh_unit.specs.Arena.{Arena, contents}
use Rattle.lh_unit.specs.Trace.{SameTrace}
use Rattle.lh_unit.specs.WellFormed.{IsWellFormed}
use Rattle.lh_flat.specs.Marks.{UnitsAreNamed}
use Rattle.lh_lower_laws.specs.Same.{IsSourceModule, LoweredIsWellFormed, LoweredSameTrace}
use Rattle.lh_lower.specs.Lowers.{IsLowered, IsLowering, ItemIsBehind, IsNextItem, LowersItem}
use Rattle.lh_lower.specs.declared.lowering.Lowering.{Lowering}
use Rattle.lh_lower.proofs.LoweredItems.{all-seen, behind, take-next}

module _ (a : Arena) (xs : List Item) (same : xs ≡ a.items) (l : Lowering) (i : ℕ) (known : IsLowering a l (take i xs)) where
  w : IsLowering a l (take i a.items)
  w = subst (λ (ys : List Item). IsLowering a l (take i ys)) same known

  module _ (x : Item) (h : i < length xs) (e : x ≡ get_or xs i x) where
    here : IsLowering l.from.now l (take i a.items)
    here = subst (λ (z : Arena). IsLowering z l (take i a.items)) (sym w.from) w

    short : i < length a.items
    short = subst (λ (ys : List Item). i < length ys) same h

    at : x ≡ get_or a.items i x
    at = subst (λ (ys : List Item). x ≡ get_or ys i x) same e

    behind-here : ItemIsBehind l.from.now (take i a.items) x
    behind-here = subst (λ (z : Arena). ItemIsBehind z (take i a.items) x) (sym w.from) (behind a i x short at)

    pub is-next : IsNextItem l x
    is-next = record { seen = take i a.items; lowering = here; behind = behind-here }

    pub one-item-more : (m : Lowering) → LowersItem l x m → IsLowering a m (take (i + 1) xs)
    one-item-more m step =
        subst (λ (ys : List Item). IsLowering a m (take (i + 1) ys)) (sym same)
        (subst (λ (ys : List Item). IsLowering a m ys) (sym (take-next a.items i x short at))
        (subst (λ (z : Arena). IsLowering z m (take i a.items ++ x ∷ [])) w.from (step (take i a.items) here behind-here)))

  module _ (e : i ≡ length xs) where
    whole : IsLowering a l a.items
    whole = subst (λ (ys : List Item). IsLowering a l ys) (all-seen a i (e ∙ ap length same)) w

    lowered-to : IsLowered a l.copying.to l.report
    lowered-to = record { says = whole.copies.says; report = whole.report; within = whole.within }

    module _ (b : Arena) (given : b ≡ l.copying.to) where
      pub is-lowered : IsLowered a b l.report
      is-lowered = subst (λ (z : Arena). IsLowered a z l.report) (sym given) lowered-to

      module _ (formed : IsWellFormed (contents a)) (named : UnitsAreNamed a) where
        source : IsSourceModule a
        source = record { arena = w.sound; formed = formed; named = named }

        pub lowered-formed : LoweredIsWellFormed → IsWellFormed (contents b)
        lowered-formed law = subst IsWellFormed (sym is-lowered.says) (law a source)

        pub lowered-same : LoweredSameTrace → SameTrace (contents a) (contents b)
        lowered-same law = subst (SameTrace (contents a)) (sym is-lowered.says) (law a source)
