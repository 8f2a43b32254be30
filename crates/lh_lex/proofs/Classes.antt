-- What the table of classes says of each byte.
use Rattle.std.proofs.Common.{◌≡◌, ℕ, ◌<◌, ◌==◌, Bool, map, get_or, refl, ap, sym, ◌∙◌, arith}
use Rattle.std.proofs.Math.ListN.{get_or-map}
use Rattle.std.proofs.lemmas.List.FromFn.{get_or-map-range_with_len}
use Rattle.std.specs.List.{range_with_len}
use Rattle.lh_unit_names.specs.Names.{is_name_byte}
use Rattle.lh_unit.specs.Lexemes.{is_white, is_punct}
use Rattle.lh_lex.specs.declared.TheConstants.{CLASSES}

-- a test of the classes that is one of the bytes
class-is : (t f : ℕ → Bool) → map t CLASSES ≡ map f (range_with_len 0 256) → (b : ℕ) → b < 256 → t (get_or CLASSES b 0) ≡ f b
class-is t f e b h = sym (get_or-map t CLASSES b 0) ∙ ap (λ l. get_or l b (t 0)) e ∙ get_or-map-range_with_len f 0 256 b b (t 0) h (omega arith)

pub name-class : (b : ℕ) → b < 256 → (get_or CLASSES b 0 == 1) ≡ is_name_byte b
name-class = class-is (λ c. c == 1) is_name_byte refl

pub mark-class : (b : ℕ) → b < 256 → (get_or CLASSES b 0 == 2) ≡ is_punct b
mark-class = class-is (λ c. c == 2) is_punct refl

pub white-class : (b : ℕ) → b < 256 → (get_or CLASSES b 0 == 3) ≡ is_white b
white-class = class-is (λ c. c == 3) is_white refl
