-- The types of the fields of a struct.
use Rattle.std.proofs.Common.{◌≡◌, ℕ, ◌<◌, ◌≤◌, zero, suc, false, List, [], ◌∷◌, length, get_or, Option, Some, None, refl, ◌∙◌, arith}
use Rattle.std.specs.Option.{option_map}
use Rattle.lh_types.specs.Types.{TypeTree, row_of, same_type, bit_count}
use Rattle.lh_types.specs.Parts.{Part, field_part, part_beyond}
use Rattle.lh_verify_types.specs.Parts.{is_part}

beyond-part : (n : ℕ) (p : Option Part) (t : TypeTree) → is_part (option_map (part_beyond n) p) t ≡ is_part p t
beyond-part n None t = refl
beyond-part n (Some p) t = refl

-- the type of a field
pub field-type : (ts : List TypeTree) (k : ℕ) (t d : TypeTree) → k < length ts → is_part (field_part (row_of ts) k) t ≡ same_type t (get_or ts k d)
field-type [] k t d h = absurd (omega arith)
field-type (x ∷ ts) zero t d h = refl
field-type (x ∷ ts) (suc k) t d h = beyond-part (bit_count x) (field_part (row_of ts) k) t ∙ field-type ts k t d (omega arith)

pub no-field : (ts : List TypeTree) (k : ℕ) (t : TypeTree) → length ts ≤ k → is_part (field_part (row_of ts) k) t ≡ false
no-field [] k t h = refl
no-field (x ∷ ts) zero t h = absurd (omega arith)
no-field (x ∷ ts) (suc k) t h = beyond-part (bit_count x) (field_part (row_of ts) k) t ∙ no-field ts k t (omega arith)
