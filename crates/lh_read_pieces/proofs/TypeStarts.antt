-- The first token of a type is no name, no number and no mark but `[` and `{`.
use Rattle.std.proofs.Common.{◌≡◌, ℕ, false, List, ◌∷◌, Option, None, nat_eq, refl, ap, ◌∙◌}
use Rattle.std.specs.Prelude.{codes}
use Rattle.lh_types.specs.Types.{TypeTree, int_type, time_type, void_type, array_type, tuple_type, signal_type, pointer_type}
use Rattle.lh_unit.specs.Lexemes.{Lexeme, word, punct}
use Rattle.lh_unit.specs.SpellsTypes.{SpellsTree}
use Rattle.lh_read_pieces.specs.Pieces.{local_at, unit_name_at, punct_at, arrow_at}
use Rattle.lh_read_pieces.specs.Numbers.{number_at}

-- what begins with none of the tokens that begin a type is not found in front of a type
module _ {B : Type 0} (f : List Lexeme → Option B)
    (int : (w : List ℕ) (ts : List Lexeme) → f (word (105 ∷ w) ∷ ts) ≡ None)
    (time : (ts : List Lexeme) → f (word (codes "time") ∷ ts) ≡ None)
    (void : (ts : List Lexeme) → f (word (codes "void") ∷ ts) ≡ None)
    (array : (ts : List Lexeme) → f (punct 91 ∷ ts) ≡ None)
    (tuple : (ts : List Lexeme) → f (punct 123 ∷ ts) ≡ None) where
  pub none_at-type : (t : TypeTree) (ts us : List Lexeme) → SpellsTree t ts us → f ts ≡ None
  none_at-type (int_type n) ts us s = ap f s.1 ∙ int s.0 us
  none_at-type time_type ts us s = ap f s ∙ time us
  none_at-type void_type ts us s = ap f s ∙ void us
  none_at-type (array_type n t) ts us s = ap f s.2 ∙ array (word s.0 ∷ word (codes "x") ∷ s.1)
  none_at-type (tuple_type r) ts us s = ap f s.1 ∙ tuple s.0
  none_at-type (signal_type t) ts us s = none_at-type t ts (punct 36 ∷ us) s
  none_at-type (pointer_type t) ts us s = none_at-type t ts (punct 42 ∷ us) s

pub punct_at-type : (c : ℕ) → nat_eq 91 c ≡ false → nat_eq 123 c ≡ false → (t : TypeTree) (ts us : List Lexeme) → SpellsTree t ts us → punct_at c ts ≡ None
punct_at-type c a b t ts us s = none_at-type (punct_at c) (λ w l. refl) (λ l. refl) (λ l. refl) (λ l. rw a refl) (λ l. rw b refl) t ts us s

pub local_at-type : (t : TypeTree) (ts us : List Lexeme) → SpellsTree t ts us → local_at ts ≡ None
local_at-type t ts us s = none_at-type local_at (λ w l. refl) (λ l. refl) (λ l. refl) (λ l. refl) (λ l. refl) t ts us s

pub unit_name_at-type : (t : TypeTree) (ts us : List Lexeme) → SpellsTree t ts us → unit_name_at ts ≡ None
unit_name_at-type t ts us s = none_at-type unit_name_at (λ w l. refl) (λ l. refl) (λ l. refl) (λ l. refl) (λ l. refl) t ts us s

pub arrow_at-type : (t : TypeTree) (ts us : List Lexeme) → SpellsTree t ts us → arrow_at ts ≡ None
arrow_at-type t ts us s = none_at-type arrow_at (λ w l. refl) (λ l. refl) (λ l. refl) (λ l. refl) (λ l. refl) t ts us s

pub number_at-type : (t : TypeTree) (ts us : List Lexeme) → SpellsTree t ts us → number_at ts ≡ None
unfolding number_at
number_at-type t ts us s = none_at-type number_at (λ w l. refl) (λ l. refl) (λ l. refl) (λ l. refl) (λ l. refl) t ts us s
