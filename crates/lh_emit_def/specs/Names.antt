-- The names of the values of an entity: `%v0`, `%v1` and so on, those of arguments passed over.
use Rattle.std.specs.Prelude.{◌≡◌, ℕ, zero, suc, ◌+◌, ◌<◌, ◌≤◌, ◌^◌, true, false, List, ◌++◌, length, codes, if◌then◌else◌}
use Rattle.std.specs.Fmt.{decimal}
use Rattle.lh_unit.specs.Contents.{ArgText, args_define}

-- the name of this number
abbrev pub value_name : ℕ → List ℕ
value_name k = codes "v" ++ decimal k

-- the first of n numbers from k on whose name is no argument's, else the number after them
abbrev pub free_from : List ArgText → (n : ℕ) → (k : ℕ) → ℕ
free_from args zero k = k
free_from args (suc n) k = if args_define (value_name k) args then free_from args n (k + 1) else k

-- the first number from k on whose name is no argument's: one of as many numbers as there are arguments, or the one after them
abbrev pub free_number : List ArgText → (k : ℕ) → ℕ
free_number args k = free_from args (length args) k

-- n is the least number from k on whose name is no argument's
pub record IsLeastFree (args : List ArgText) (k n : ℕ) : Type 0 where
  pub from : k ≤ n
  pub free : args_define (value_name n) args ≡ false
  pub least : (j : ℕ) → k ≤ j → j < n → args_define (value_name j) args ≡ true

-- So is the next number, whatever the arguments are called: there are numbers enough to try.
abbrev pub NextIsLeast : Type 0
NextIsLeast = (args : List ArgText) (k : ℕ) → k + length args < 2 ^ 64 → IsLeastFree args k (free_number args k)
