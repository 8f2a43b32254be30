-- Merged drives wish what the drives wish, and are typed.
use Rattle.std.proofs.Common.{◌≡◌, List, [], ◌∷◌, Bool, true, false, refl, ap, sym, ◌∙◌}
use Rattle.std.specs.Bool.{if◌then◌else◌}
use Rattle.lh_time.specs.declared.Instant.{Instant}
use Rattle.lh_types.specs.Wish.{Wish}
use Rattle.lh_types.specs.Same.{and_both}
use Rattle.lh_types.specs.declared.part.Range.{Range}
use Rattle.lh_unit.specs.Within.{Each}
use Rattle.lh_term.specs.Mean.{Valuation, IsFitting}
use Rattle.lh_term.specs.Same.{same_part, same_part-is}
use Rattle.lh_term.specs.SameTree.{same_tree, same_tree-is}
use Rattle.lh_region_def.specs.Rows.{Drive}
use Rattle.lh_region_def.specs.Means.{with_row, with_rows}
use Rattle.lh_region_def.specs.Right.{DriveTyped}
use Rattle.lh_region_def.specs.Adjacent.{drive_merged}
use Rattle.lh_region_def.proofs.Adjacent.{adjacent-drives-merge, merged-drives-typed}
use Rattle.lh_shape.specs.Merging.{are_alike, merged_from}
use Rattle.lh_shape.specs.Laws.{MergedDrivesWish, MergedDrivesAreTyped, MergedDrivesRead, MergedDrivesDrive}
use Rattle.lh_region_def.specs.Typed.{Among}
use Rattle.lh_shape.proofs.PartsRead.{merged-read, merged-drive}

pub part-alike : (a b : Drive) → are_alike a b ≡ true → b.part ≡ a.part
part-alike a b e = sym (same_part-is a.part b.part (and_both (same_part a.part b.part) (same_tree a.delay b.delay) e).0)

delay-alike : (a b : Drive) → are_alike a b ≡ true → b.delay ≡ a.delay
delay-alike a b e = sym (same_tree-is a.delay b.delay (and_both (same_part a.part b.part) (same_tree a.delay b.delay) e).1)

alike-typed : (a b : Drive) → DriveTyped a → DriveTyped b → are_alike a b ≡ true → DriveTyped (drive_merged a b)
alike-typed a b p q e = merged-drives-typed a b p q (part-alike a b e)

from-typed : (a : Drive) (ds : List Drive) → DriveTyped a → Each DriveTyped ds → Each DriveTyped (merged_from a ds)
from-typed a [] p q = (p, tt)
from-typed a (b ∷ more) p q = at (are_alike a b) refl (λ h. from-typed (drive_merged a b) more h q.1) (from-typed b more q.0 q.1)
  where
    at : (c : Bool) → are_alike a b ≡ c → (DriveTyped (drive_merged a b) → Each DriveTyped (merged_from (drive_merged a b) more)) → Each DriveTyped (merged_from b more) →
        Each DriveTyped (if c then merged_from (drive_merged a b) more else a ∷ merged_from b more)
    at true e one two = one (alike-typed a b p q.0 e)
    at false e one two = (p, two)

pub merged-typed : MergedDrivesAreTyped
merged-typed [] h = tt
merged-typed (a ∷ more) h = from-typed a more h.0 h.1

module _ (past now : Valuation) (p : IsFitting past) (n : IsFitting now) (args : List Range) (at : Instant) where
  from-wish : (w : Wish) (a : Drive) (ds : List Drive) → DriveTyped a → Each DriveTyped ds → with_rows past now args at w (merged_from a ds) ≡ with_rows past now args at w (a ∷ ds)
  from-wish w a [] i j = refl
  from-wish w a (b ∷ more) i j = one (are_alike a b) refl (λ h. from-wish w (drive_merged a b) more h j.1) (from-wish (with_row past now args at w a) b more j.0 j.1)
    where
      one : (c : Bool) → are_alike a b ≡ c
          → (DriveTyped (drive_merged a b) → with_rows past now args at w (merged_from (drive_merged a b) more) ≡ with_rows past now args at w (drive_merged a b ∷ more))
          → with_rows past now args at (with_row past now args at w a) (merged_from b more) ≡ with_rows past now args at (with_row past now args at w a) (b ∷ more)
          → with_rows past now args at w (if c then merged_from (drive_merged a b) more else a ∷ merged_from b more) ≡ with_rows past now args at w (a ∷ b ∷ more)
      one true e f g =
          f (alike-typed a b i j.0 e)
          ∙ ap (λ v. with_rows past now args at v more) (sym (adjacent-drives-merge past now p n args at w a b i j.0 (part-alike a b e) (delay-alike a b e)))
      one false e f g = g

pub merged-wish : MergedDrivesWish
merged-wish past now p n args at w [] h = refl
merged-wish past now p n args at w (a ∷ more) h = from-wish past now p n args at w a more h.0 h.1

pub merged-reads : MergedDrivesRead
merged-reads ps ds h = merged-read (λ p. Among p ps) ds h

pub merged-drives-drive : MergedDrivesDrive
merged-drives-drive ps ds h = merged-drive (λ p. Among p ps) ds h
