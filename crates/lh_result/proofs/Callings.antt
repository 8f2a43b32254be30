-- What the words call for, from what they ask for and from the titles of the members.
use Rattle.std.proofs.Common.{ℕ, ◌≤◌, List, subst, arith}
use Rattle.lh_watch.specs.Members.{Member}
use Rattle.lh_args.specs.Forms.{FileRequest, check, lower, simulate, WordsAskFor, HasNoForm}
use Rattle.lh_args.proofs.Forms.{one_form, no_file}
use Rattle.lh_result.specs.Called.{KnowsTitles, Calls, HasFrames, IsMisuse, AskSelfTest}

-- the words have none of the forms
pub IsMisuse-formless : (words : List (List ℕ)) (ms : List Member) → HasNoForm words → IsMisuse words ms
IsMisuse-formless words ms none = record { on_file = λ a calls. none.on_file a calls.asks; self_test = none.self_test }

-- the words watch a title that no member has
pub IsMisuse-unknown : (words : List (List ℕ)) (ms : List Member) (a : FileRequest) → WordsAskFor words a → (KnowsTitles ms a → ⊥) → IsMisuse words ms
IsMisuse-unknown words ms a asks unknown = record {
  on_file = λ b calls. unknown (let P : FileRequest → Type 0 = λ x. KnowsTitles ms x in subst P (one_form words b a calls.asks asks) calls.titled);
  self_test = λ links test. no_file words links a test asks;
}

pub Calls-known : (words : List (List ℕ)) (ms : List Member) (a : FileRequest) → WordsAskFor words a → KnowsTitles ms a → Calls words ms a
Calls-known words ms a asks known = record { asks = asks; titled = known }

-- what is called for is of one frame or more
pub Calls-frames : (words : List (List ℕ)) (ms : List Member) (a : FileRequest) → Calls words ms a → HasFrames a
Calls-frames words ms check calls = tt
Calls-frames words ms lower calls = tt
Calls-frames words ms (simulate s) calls = let said : 1 ≤ s.steps = calls.asks.steps_said.at_least in omega arith

-- words that call for something of a file ask for no self-test
pub calls_no_test : (words : List (List ℕ)) (ms : List Member) (a : FileRequest) → Calls words ms a → AskSelfTest words → ⊥
calls_no_test words ms a calls (links, test) = no_file words links a test calls.asks

-- nor do words of no use
pub misuse_no_test : (words : List (List ℕ)) (ms : List Member) → IsMisuse words ms → AskSelfTest words → ⊥
misuse_no_test words ms none (links, test) = none.self_test links test
