-- What a line says, its canonical line says too.
use Rattle.std.proofs.Common.{ℕ, inl, inr, List, [], ◌∷◌, refl, subst}
use Rattle.lh_unit_names.specs.Names.{IsName}
use Rattle.lh_unit.specs.Lexemes.{Lexeme, word, local}
use Rattle.lh_unit.specs.Marks.{colon}
use Rattle.lh_unit.specs.Pieces.{IsLexeme}
use Rattle.lh_unit.specs.Within.{Each}
use Rattle.lh_unit.specs.Spells.{LineItem, empty_item, header_item, declare_item, label_item, inst_item, close_item, SpellsLabel, Spells}
use Rattle.lh_text_laws.specs.ItemLines.{item_line}
use Rattle.lh_text_laws.proofs.Again.{Whole}
use Rattle.lh_text_laws.proofs.Insts.{line-again}
use Rattle.lh_text_laws.proofs.Headers.{header-again, declare-again}

label-name : (n : List ℕ) (ts : List Lexeme) → Each IsLexeme ts → SpellsLabel n ts → IsName n
label-name n ts l (inl h) = let k : Each IsLexeme (word n ∷ colon ∷ []) = subst (Each IsLexeme) h.0 l in (k.0.0, h.1, k.0.1)
label-name n ts l (inr h) = let k : Each IsLexeme (local n ∷ colon ∷ []) = subst (Each IsLexeme) h l in k.0

-- an item
pub item-again : (i : LineItem) (ts : List Lexeme) → Each IsLexeme ts → Spells ts i → Whole (λ us. Spells us i) (item_line i)
item-again empty_item ts l h = record { spaced = tt; spelled = refl }
item-again (header_item k n args r) ts l h = let a = header-again k n args r ts l h in record { spaced = a.spaced; spelled = a.spelled }
item-again (declare_item d) ts l h = let a = declare-again d ts l h in record { spaced = a.spaced; spelled = a.spelled }
item-again (label_item n) ts l h = let k = label-name n ts l h in record { spaced = ((k.0, k.2), refl, (refl, refl, tt)); spelled = inl (refl, k.1) }
item-again (inst_item l) ts w h = let a = line-again l.result l.inst ts w h in record { spaced = a.spaced; spelled = a.spelled }
item-again close_item ts l h = record { spaced = (refl, refl, tt); spelled = refl }
