-- The options of `simulate` as they were found in some words.
use Rattle.std.specs.Prelude.{◌≡◌, ◌≤◌, ℕ, List, length, option_map, option_to_list, if◌then◌else◌}
use Rattle.std.specs.List.{flat_map}
use Rattle.lh_args.specs.declared.found.FoundOptions.{FoundOptions}
use Rattle.lh_args.specs.Forms.{Choice, spelled, names_in, numbers_in, vcds_in}

-- what was found are these options but for `--watch`
pub record OptionsAreFound (f : FoundOptions) (all : List Choice) : Type 0 where
  pub top : names_in all ≡ option_to_list (option_map (λ w. w.now) f.top)
  pub steps : numbers_in all ≡ option_to_list (option_map (λ w. w.now) f.steps)
  pub vcd : vcds_in all ≡ (if f.vcd then 1 else 0)

-- no option is given twice that may be given once
pub record AtMostOnce (all : List Choice) : Type 0 where
  pub tops : length (names_in all) ≤ 1
  pub steps : length (numbers_in all) ≤ 1
  pub vcds : vcds_in all ≤ 1

-- the words are options, and these were found
pub record IsAllFound (words : List (List ℕ)) (f : FoundOptions) : Type 0 where
  pub all : List Choice
  pub written : words ≡ flat_map spelled all
  pub found : OptionsAreFound f all
