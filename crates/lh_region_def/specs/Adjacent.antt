-- Two drives of one part and one delay that follow each other, as one.
use Rattle.std.specs.Prelude.{◌≡◌, List, [], ◌∷◌, not, filter}
use Rattle.std.specs.List.{list_any}
use Rattle.lh_time.specs.declared.Instant.{Instant}
use Rattle.lh_types.specs.Wish.{Wish}
use Rattle.lh_types.specs.declared.op.Op.TheVariants.{Or}
use Rattle.lh_types.specs.declared.part.Range.{Range}
use Rattle.lh_term.specs.Tree.{Tree}
use Rattle.lh_term.specs.Mean.{Valuation, IsFitting}
use Rattle.lh_term.specs.SameTree.{same_tree}
use Rattle.lh_term.specs.Make.{make_operation, make_choice}
use Rattle.lh_term.specs.Conjuncts.{conjuncts_of, conjunction}
use Rattle.lh_region_def.specs.Rows.{Drive}
use Rattle.lh_region_def.specs.Means.{with_row}
use Rattle.lh_region_def.specs.Right.{DriveTyped}

-- the conjuncts of d that are none of c
abbrev pub beyond : (c d : Tree) → Tree
beyond c d = conjunction (filter (λ k. not (list_any (same_tree k) (conjuncts_of c))) (conjuncts_of d))

-- the second drive where its condition holds, else the first
abbrev pub drive_merged : Drive → Drive → Drive
drive_merged a b = record { cond = make_operation Or (a.cond ∷ b.cond ∷ []); part = a.part; value = make_choice (beyond a.cond b.cond) a.value b.value; delay = a.delay }

-- Two drives of one part and one delay, one after the other, wish what they wish as one.
abbrev pub AdjacentDrivesMerge : Type 0
AdjacentDrivesMerge = (past now : Valuation) → IsFitting past → IsFitting now → (args : List Range) (at : Instant) (w : Wish) (a b : Drive) → DriveTyped a → DriveTyped b → b.part ≡ a.part
    → b.delay ≡ a.delay →
    with_row past now args at (with_row past now args at w a) b ≡ with_row past now args at w (drive_merged a b)

-- As one they are typed.
abbrev pub MergedDriveIsTyped : Type 0
MergedDriveIsTyped = (a b : Drive) → DriveTyped a → DriveTyped b → b.part ≡ a.part → DriveTyped (drive_merged a b)
