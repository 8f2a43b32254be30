-- What the program is called for: what its words ask for, where the watchers that they name are there.
use Rattle.std.specs.Prelude.{ℕ, ◌<◌, List, Bool, IsTrue}
use Rattle.std.specs.List.{list_any, list_all}
use Rattle.std.specs.Str.{bytes_eq}
use Rattle.lh_watch.specs.Members.{Member}
use Rattle.lh_args.specs.Forms.{FileRequest, check, lower, simulate, WordsAskFor, WordsAskForSelfTest}

-- a member has this title
abbrev pub is_title : List Member → List ℕ → Bool
is_title ms title = list_any (λ (m : Member). bytes_eq m.rule.title title) ms

-- each title that is watched is a member's
abbrev pub KnowsTitles : List Member → FileRequest → Type 0
KnowsTitles ms check = Unit {0}
KnowsTitles ms lower = Unit {0}
KnowsTitles ms (simulate s) = IsTrue (list_all (is_title ms) s.titles)

-- The words ask for this of a file, and it can be done with these members.
pub record Calls (words : List (List ℕ)) (ms : List Member) (a : FileRequest) : Type 0 where
  pub asks : WordsAskFor words a
  pub titled : KnowsTitles ms a

-- a simulation is of one frame or more
abbrev pub HasFrames : FileRequest → Type 0
HasFrames check = Unit {0}
HasFrames lower = Unit {0}
HasFrames (simulate s) = 0 < s.steps

-- The words have none of the forms, or watch a title that no member has.
pub record IsMisuse (words : List (List ℕ)) (ms : List Member) : Type 0 where
  pub on_file : (a : FileRequest) → Calls words ms a → ⊥
  pub self_test : (links : ℕ) → WordsAskForSelfTest words links → ⊥

-- the words ask for a self-test
abbrev pub AskSelfTest : List (List ℕ) → Type 0
AskSelfTest words = (links : ℕ) × WordsAskForSelfTest words links
