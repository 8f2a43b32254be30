-- What a word begins or stands for, by the tables of words.
use Rattle.std.specs.Prelude.{ℕ, nat_eq, List, [], ◌∷◌, map, Option, Some, None, if◌then◌else◌}
use lib.Pointwise.{pointwise}
use Rattle.lh_unit.specs.declared.inst.Mode.{Mode}
use Rattle.lh_read_phrases.specs.declared.words.Head.{Head}
use Rattle.lh_read_phrases.specs.declared.words.Form.{Form}
use Rattle.lh_read_phrases.specs.declared.words.TheConstants.{HEADS, FORMS, MODES}

-- what stands beside a word in a table
abbrev pub found : {A : Type 0} → List (List ℕ × A) → List ℕ → Option A
found [] w = None
found (r ∷ rows) w = if pointwise nat_eq r.0 w then Some r.1 else found rows w

abbrev pub head_rows : List (List ℕ × Head)
head_rows = map (λ r. (r.0.now, r.1)) HEADS

abbrev pub form_rows : List (List ℕ × Form)
form_rows = map (λ r. (r.0.now, r.1)) FORMS

abbrev pub mode_rows : List (List ℕ × Mode)
mode_rows = map (λ r. (r.0.now, r.1)) MODES

unfoldable pub head_of : List ℕ → Option Head
head_of w = found head_rows w

unfoldable pub form_of : List ℕ → Option Form
form_of w = found form_rows w

unfoldable pub mode_of : List ℕ → Option Mode
mode_of w = found mode_rows w
