-- The names that are left beside those of arguments.
use Rattle.std.specs.Prelude.{◌≡◌, ℕ, List, [], ◌∷◌, ◌++◌, length, Bool}
use Rattle.std.specs.List.{list_any}
use Rattle.lh_unit.specs.Contents.{ArgText, args_define}
use Rattle.lh_unit_names.specs.Names.{same_name}
use Rattle.lh_emit_def.specs.Names.{value_name}
use Rattle.lh_emit_body.specs.declared.names.Fresh.{Fresh}

-- whether the name is one of these
abbrev pub is_among : List (List ℕ) → List ℕ → Bool
is_among ns n = list_any (λ m. same_name n m) ns

-- there are as many arguments, and a name of a number is taken where it is an argument's
pub record IsFresh (args : List ArgText) (f : Fresh) : Type 0 where
  pub count : f.count ≡ length args
  pub taken : (k : ℕ) → is_among f.taken.keys (value_name k) ≡ args_define (value_name k) args

-- with one more argument of this name
abbrev pub PassesOver : List ℕ → Fresh → Fresh → Type 0
PassesOver n old new = (args : List ArgText) (a : ArgText) → a.name ≡ n → IsFresh args old → IsFresh (args ++ a ∷ []) new
