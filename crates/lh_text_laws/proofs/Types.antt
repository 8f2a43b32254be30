-- A type within its limits, spelled again.
use Rattle.std.proofs.Common.{◌≡◌, ℕ, ◌^◌, ◌<◌, ◌≤◌, true, List, [], ◌∷◌, ◌++◌, map, decimal, refl, ap, sym, subst, arith}
use Rattle.std.specs.Prelude.{codes}
use Rattle.std.proofs.lemmas.List.{append-nil}
use Rattle.lh_types.specs.Types.{TypeTree, TypeRow, int_type, time_type, void_type, array_type, tuple_type, signal_type, pointer_type, no_types, more_types, row_of, IsData, AreData, IsLimited, bit_count_row}
use Rattle.lh_unit_names.specs.Names.{all_name_bytes}
use Rattle.lh_unit.specs.Lexemes.{Lexeme, word}
use Rattle.lh_unit.specs.Marks.{close_bracket, close_brace, comma, dollar, star}
use Rattle.lh_unit.specs.Pieces.{token, space, IsLexeme, lexemes_in, mark, number, keyword, commas, behind_commas, ◌␣◌}
use Rattle.lh_unit.specs.CanonTypes.{type_pieces, row_pieces, row_behind}
use Rattle.lh_unit.specs.Within.{Each}
use Rattle.lh_unit.specs.SpellsTypes.{SpellsTree, SpellsRow, SpellsType}
use Rattle.lh_text_laws.proofs.Numerals.{number_of-decimal, decimal-named, decimal-some}
use Rattle.lh_text_laws.proofs.SpacedLines.{spaced-append, spaced-comma, spaced-enclosed, word-lexeme}
use Rattle.lh_text_laws.proofs.Again.{PiecesSpell, Again, joined}

-- the word of a number
pub number-lexeme : (n : ℕ) → n < 10 ^ 64 → IsLexeme (word (decimal n))
number-lexeme n h = (decimal-some n h, decimal-named n h)

int-lexeme : (n : ℕ) → n < 10 ^ 64 → IsLexeme (word (105 ∷ decimal n))
int-lexeme n h = let e : all_name_bytes (decimal n) ≡ true = decimal-named n h in (omega arith, e)

abbrev IsMore : TypeRow → Type 0
IsMore no_types = ⊥
IsMore (more_types t r) = Unit {0}

is_more : (r : TypeRow) → 0 < bit_count_row r → IsMore r
is_more no_types h = absurd (omega arith)
is_more (more_types t r) h = tt

int-stands : (n : ℕ) → n < 10 ^ 64 → PiecesSpell (SpellsTree (int_type n)) (type_pieces (int_type n))
int-stands n h = record { spaced = (int-lexeme n h, refl, tt); spelled = λ rest. (decimal n, refl, number_of-decimal n h) }

array-stands : (n : ℕ) (t : TypeTree) → n < 10 ^ 64 → PiecesSpell (SpellsTree t) (type_pieces t) → PiecesSpell (SpellsTree (array_type n t)) (type_pieces (array_type n t))
array-stands n t h s =
    record {
      spaced = spaced-enclosed 91 93 (number n ␣ keyword "x" ␣ type_pieces t) refl refl (number-lexeme n h, refl, (word-lexeme (codes "x") refl, refl, s.spaced));
      spelled = λ rest. (
        decimal n,
        lexemes_in ((type_pieces t ++ mark close_bracket) ++ rest),
        refl,
        number_of-decimal n h,
        joined (λ ts more. SpellsTree t ts (close_bracket ∷ more)) (type_pieces t) (mark close_bracket) rest (s.spelled (token close_bracket ∷ rest)),
      );
    }

tuple-stands : (r : TypeRow) → PiecesSpell (SpellsRow r) (row_pieces r) → PiecesSpell (SpellsTree (tuple_type r)) (type_pieces (tuple_type r))
tuple-stands r s =
    record {
      spaced = spaced-enclosed 123 125 (row_pieces r) refl refl s.spaced;
      spelled = λ rest. (
        lexemes_in ((row_pieces r ++ mark close_brace) ++ rest),
        refl,
        joined (λ ts more. SpellsRow r ts (close_brace ∷ more)) (row_pieces r) (mark close_brace) rest (s.spelled (token close_brace ∷ rest)),
      );
    }

signal-stands : (t : TypeTree) → PiecesSpell (SpellsTree t) (type_pieces t) → PiecesSpell (SpellsTree (signal_type t)) (type_pieces (signal_type t))
signal-stands t s =
    record {
      spaced = spaced-append (type_pieces t) (mark dollar) s.spaced (refl, refl, tt) refl;
      spelled = λ rest. joined (SpellsTree (signal_type t)) (type_pieces t) (mark dollar) rest (s.spelled (token dollar ∷ rest));
    }

pointer-stands : (t : TypeTree) → PiecesSpell (SpellsTree t) (type_pieces t) → PiecesSpell (SpellsTree (pointer_type t)) (type_pieces (pointer_type t))
pointer-stands t s =
    record {
      spaced = spaced-append (type_pieces t) (mark star) s.spaced (refl, refl, tt) refl;
      spelled = λ rest. joined (SpellsTree (pointer_type t)) (type_pieces t) (mark star) rest (s.spelled (token star ∷ rest));
    }

one-stands : (t : TypeTree) → PiecesSpell (SpellsTree t) (type_pieces t) → PiecesSpell (SpellsRow (more_types t no_types)) (row_pieces (more_types t no_types))
one-stands t s = subst (PiecesSpell (SpellsTree t)) (sym (append-nil (type_pieces t))) s

more-stands : (t u : TypeTree) (r : TypeRow) → PiecesSpell (SpellsTree t) (type_pieces t) → PiecesSpell (SpellsRow (more_types u r)) (row_pieces (more_types u r))
    → PiecesSpell (SpellsRow (more_types t (more_types u r))) (row_pieces (more_types t (more_types u r)))
more-stands t u r s m =
    record {
      spaced = spaced-comma (type_pieces t) (row_pieces (more_types u r)) s.spaced m.spaced;
      spelled = λ rest. joined (SpellsRow (more_types t (more_types u r))) (type_pieces t) (token comma ∷ space ∷ row_pieces (more_types u r)) rest
          (lexemes_in (row_pieces (more_types u r) ++ rest), s.spelled (token comma ∷ space ∷ (row_pieces (more_types u r) ++ rest)), m.spelled rest);
    }

mutual
  data-stands : (t : TypeTree) → IsData t → PiecesSpell (SpellsTree t) (type_pieces t)
  data-stands (int_type n) d = int-stands n (let h : n ≤ 128 = d.1 in omega arith)
  data-stands (array_type n t) d = array-stands n t (let h : n < 2 ^ 32 = d.2 in omega arith) (data-stands t d.0)
  data-stands (tuple_type r) d = tuple-stands r (row-stands r d.0 (is_more r d.1))
  data-stands _ d = absurd d

  row-stands : (r : TypeRow) → AreData r → IsMore r → PiecesSpell (SpellsRow r) (row_pieces r)
  row-stands no_types d m = absurd m
  row-stands (more_types t no_types) d m = one-stands t (data-stands t d.0)
  row-stands (more_types t (more_types u r)) d m = more-stands t u r (data-stands t d.0) (row-stands (more_types u r) d.1 tt)

time-stands : PiecesSpell (SpellsTree time_type) (type_pieces time_type)
time-stands = record { spaced = (word-lexeme (codes "time") refl, refl, tt); spelled = λ rest. refl }

void-stands : PiecesSpell (SpellsTree void_type) (type_pieces void_type)
void-stands = record { spaced = (word-lexeme (codes "void") refl, refl, tt); spelled = λ rest. refl }

tree-stands : (t : TypeTree) → IsLimited t → PiecesSpell (SpellsTree t) (type_pieces t)
tree-stands time_type d = time-stands
tree-stands void_type d = void-stands
tree-stands (signal_type t) d = signal-stands t (data-stands t d)
tree-stands (pointer_type time_type) d = pointer-stands time_type time-stands
tree-stands (pointer_type t) d = pointer-stands t (data-stands t d)
tree-stands t d = data-stands t d

-- a type of the language
pub type-stands : (t : TypeTree) → IsLimited t → PiecesSpell (SpellsType t) (type_pieces t)
type-stands t d = let s = tree-stands t d in record { spaced = s.spaced; spelled = λ rest. (s.spelled rest, d) }

mutual
  tree-left : (t : TypeTree) (ts more : List Lexeme) → Each IsLexeme ts → SpellsTree t ts more → Each IsLexeme more
  tree-left (int_type n) ts more l h = (subst (Each IsLexeme) h.1 l).1
  tree-left time_type ts more l h = (subst (Each IsLexeme) h l).1
  tree-left void_type ts more l h = (subst (Each IsLexeme) h l).1
  tree-left (array_type n t) ts more l h = (tree-left t h.1 (close_bracket ∷ more) (subst (Each IsLexeme) h.2 l).1.1.1 h.4).1
  tree-left (tuple_type r) ts more l h = (row-left r h.0 (close_brace ∷ more) (subst (Each IsLexeme) h.1 l).1 h.2).1
  tree-left (signal_type t) ts more l h = (tree-left t ts (dollar ∷ more) l h).1
  tree-left (pointer_type t) ts more l h = (tree-left t ts (star ∷ more) l h).1

  row-left : (r : TypeRow) (ts more : List Lexeme) → Each IsLexeme ts → SpellsRow r ts more → Each IsLexeme more
  row-left no_types ts more l h = absurd h
  row-left (more_types t no_types) ts more l h = tree-left t ts more l h
  row-left (more_types t (more_types u r)) ts more l h = row-left (more_types u r) h.0 more (tree-left t ts (comma ∷ h.0) l h.1).1 h.2

pub type-again : (t : TypeTree) (ts more : List Lexeme) → Each IsLexeme ts → SpellsType t ts more → Again (SpellsType t) (type_pieces t) more
type-again t ts more l h = record { left = tree-left t ts more l h.0; stands = type-stands t h.1 }

row_behind-list : (ts : List TypeTree) → row_behind (row_of ts) ≡ behind_commas (map type_pieces ts)
row_behind-list [] = refl
row_behind-list (t ∷ ts) = ap (λ q. token comma ∷ space ∷ type_pieces t ++ q) (row_behind-list ts)

-- the types of a list by comma
pub row_pieces-list : (ts : List TypeTree) → row_pieces (row_of ts) ≡ commas (map type_pieces ts)
row_pieces-list [] = refl
row_pieces-list (t ∷ ts) = ap (λ q. type_pieces t ++ q) (row_behind-list ts)
