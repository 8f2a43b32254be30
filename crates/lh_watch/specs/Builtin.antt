-- The rules of the watchers that come with the program.
use Rattle.std.specs.Prelude.{ℕ, List, [], ◌∷◌, ◌++◌, Bool, not, if◌then◌else◌, codes, decimal, slice_index, sum_by, count_by}
use Rattle.std.specs.List.{list_any}
use Rattle.lh_types.specs.declared.frame.Outcome.{Outcome}
use Rattle.lh_types.specs.Pictures.{Picture}
use Rattle.lh_types.specs.Raised.{raised}
use Rattle.lh_watch.specs.declared.watcher.Next.TheVariants.{Go, Stop}
use Rattle.lh_watch.specs.Members.{Rule}

-- how many bits differ from the frame before
abbrev pub toggled_in : Picture → ℕ
toggled_in f = sum_by (λ c. c.toggled) f.changes

-- how many assertions passed, and how many failed
abbrev pub passed_in : Picture → ℕ
passed_in f = count_by (λ o. o.passed) f.outcomes

abbrev pub failed_in : Picture → ℕ
failed_in f = count_by (λ o. not o.passed) f.outcomes

abbrev pub has_failed : List Outcome → Bool
has_failed outcomes = list_any (λ o. not o.passed) outcomes

-- Sums the bits that toggle.
abbrev pub toggles : Rule
toggles =
    record {
      title = codes "toggles";
      next = λ ns f. (raised (slice_index ns 0) (toggled_in f) ∷ [], Go);
      text = λ ns. codes "toggles " ++ decimal (slice_index ns 0) ++ codes "\n";
    }

-- Counts the assertions that pass and those that fail.
abbrev pub asserts : Rule
asserts =
    record {
      title = codes "asserts";
      next = λ ns f. (raised (slice_index ns 0) (passed_in f) ∷ raised (slice_index ns 1) (failed_in f) ∷ [], Go);
      text = λ ns. codes "asserts " ++ decimal (slice_index ns 0) ++ codes " ok " ++ decimal (slice_index ns 1) ++ codes " failed\n";
    }

-- Counts the frames in which an assertion failed, and says stop at each.
abbrev pub until_fail : Rule
until_fail =
    record {
      title = codes "untilfail";
      next = λ ns f. if has_failed f.outcomes then (raised (slice_index ns 0) 1 ∷ [], Stop) else (slice_index ns 0 ∷ [], Go);
      text = λ ns. codes "untilfail " ++ decimal (slice_index ns 0) ++ codes "\n";
    }
