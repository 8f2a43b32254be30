-- The forms that the words of the command line have, and what each asks for.
use Rattle.std.specs.Prelude.{◌≡◌, ℕ, zero, suc, ◌≤◌, Bool, ◌||◌, nat_eq, List, [], ◌∷◌, length, codes, Some, if◌then◌else◌, MatchBool}
use Rattle.std.specs.List.{flat_map}
use Rattle.lh_unit_names.specs.declared.name.UnitName.{UnitName}
use Rattle.lh_unit.specs.Numerals.{number_of}

-- An option of `simulate`. The word behind `--top`, `--steps` or `--watch` is its value, whatever it is.
pub data Choice : Type 0 where
  top : (name : List ℕ) → Choice
  steps : (number : List ℕ) → Choice
  vcd : Choice
  watch : (title : List ℕ) → Choice

-- the words that an option is written in
abbrev pub spelled : Choice → List (List ℕ)
spelled (top name) = codes "--top" ∷ name ∷ []
spelled (steps number) = codes "--steps" ∷ number ∷ []
spelled vcd = codes "--vcd" ∷ []
spelled (watch title) = codes "--watch" ∷ title ∷ []

-- the names, the numbers and the titles that some options give, in order
abbrev pub names_in : List Choice → List (List ℕ)
names_in [] = []
names_in (top name ∷ more) = name ∷ names_in more
names_in (_ ∷ more) = names_in more

abbrev pub numbers_in : List Choice → List (List ℕ)
numbers_in [] = []
numbers_in (steps number ∷ more) = number ∷ numbers_in more
numbers_in (_ ∷ more) = numbers_in more

abbrev pub titles_in : List Choice → List (List ℕ)
titles_in [] = []
titles_in (watch title ∷ more) = title ∷ titles_in more
titles_in (_ ∷ more) = titles_in more

-- how often `--vcd` is among them
abbrev pub vcds_in : List Choice → ℕ
vcds_in [] = zero
vcds_in (vcd ∷ more) = suc (vcds_in more)
vcds_in (_ ∷ more) = vcds_in more

-- a name that begins with `@` or `%` is meant so; any other is meant with `@`
abbrev pub name_meant : List ℕ → UnitName
name_meant [] = record { sigil = 64; name = [] }
name_meant (b ∷ bs) = if nat_eq b 64 || nat_eq b 37 then record { sigil = b; name = bs } else record { sigil = 64; name = b ∷ bs }

-- a number is 1 to 7 decimal digits, and from 1 to a most
pub record IsCount (most : ℕ) (word : List ℕ) (n : ℕ) : Type 0 where
  pub few_digits : length word ≤ 7
  pub says : number_of word ≡ Some n
  pub at_least : 1 ≤ n
  pub at_most : n ≤ most

-- what `simulate` is asked for: a top, a bound on frames, whether a waveform, and the titles of watchers
pub record SimulateRequest : Type 0 where
  pub top : UnitName
  pub steps : ℕ
  pub vcd : Bool
  pub titles : List (List ℕ)

-- what the program is asked to do of a file
pub data FileRequest : Type 0 where
  check : FileRequest
  lower : FileRequest
  simulate : SimulateRequest → FileRequest

abbrev pub max_steps : ℕ
max_steps = 1000000

-- The words ask for this simulation: they are `simulate` and then options in any order, `--top` and `--steps` once each,
-- `--vcd` at most once and `--watch` any number of times.
pub record Simulates (words : List (List ℕ)) (s : SimulateRequest) : Type 0 where
  pub options : List Choice
  pub name : List ℕ
  pub number : List ℕ
  pub written : words ≡ codes "simulate" ∷ flat_map spelled options
  pub one_top : names_in options ≡ name ∷ []
  pub top_meant : s.top ≡ name_meant name
  pub one_number : numbers_in options ≡ number ∷ []
  pub steps_said : IsCount max_steps number s.steps
  pub vcd_at_most_once : MatchBool s.vcd (vcds_in options ≡ 1) (vcds_in options ≡ 0)
  pub titles_given : s.titles ≡ titles_in options

abbrev pub max_links : ℕ
max_links = 1000

-- The words ask for a test of the program itself, on a chain of this many links: they are `selftest` and a number.
pub record WordsAskForSelfTest (words : List (List ℕ)) (links : ℕ) : Type 0 where
  pub number : List ℕ
  pub written : words ≡ codes "selftest" ∷ number ∷ []
  pub links_said : IsCount max_links number links

-- the words ask for this of a file
abbrev pub WordsAskFor : List (List ℕ) → FileRequest → Type 0
WordsAskFor words check = words ≡ codes "check" ∷ []
WordsAskFor words lower = words ≡ codes "lower" ∷ []
WordsAskFor words (simulate s) = Simulates words s

-- the words have none of the forms
pub record HasNoForm (words : List (List ℕ)) : Type 0 where
  pub on_file : (a : FileRequest) → WordsAskFor words a → ⊥
  pub self_test : (links : ℕ) → WordsAskForSelfTest words links → ⊥

-- no words ask for two things of a file
abbrev pub OneForm : Type 0
OneForm = (words : List (List ℕ)) (a b : FileRequest) → WordsAskFor words a → WordsAskFor words b → a ≡ b

-- no words ask for two self-tests
abbrev pub OneSelfTest : Type 0
OneSelfTest = (words : List (List ℕ)) (n m : ℕ) → WordsAskForSelfTest words n → WordsAskForSelfTest words m → n ≡ m

-- words that ask for a self-test ask for nothing of a file
abbrev pub NoFileForSelfTest : Type 0
NoFileForSelfTest = (words : List (List ℕ)) (links : ℕ) (a : FileRequest) → WordsAskForSelfTest words links → WordsAskFor words a → ⊥
