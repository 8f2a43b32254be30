-- Operations, spelled again.
use Rattle.std.proofs.Common.{◌≡◌, ℕ, ◌^◌, ◌<◌, inl, false, List, [], ◌∷◌, ◌++◌, map, decimal, refl, sym, subst, arith, append_assoc}
use Rattle.std.specs.Prelude.{codes}
use Rattle.std.proofs.lemmas.List.{append-nil}
use Rattle.lh_types.specs.declared.op.Op.{Op}
use Rattle.lh_types.specs.declared.op.Op.TheVariants as op
use Rattle.lh_unit.specs.Contents.{OperandText}
use Rattle.lh_unit.specs.Lexemes.{Lexeme, word}
use Rattle.lh_unit.specs.Marks.{open_bracket, close_bracket, open_brace, close_brace}
use Rattle.lh_unit.specs.Pieces.{Piece, token, IsLexeme, begins_with_word, lexemes_in, mark, number, keyword, behind_commas, ◌␣◌}
use Rattle.lh_unit.specs.CanonWords.{op_word, op_numbers}
use Rattle.lh_unit.specs.Canon.{operand, operands, operation}
use Rattle.lh_unit.specs.Within.{Each}
use Rattle.lh_unit.specs.SpellsNumbers.{SpellsNumber}
use Rattle.lh_unit.specs.SpellsParts.{SpellsBehind, SpellsOperand, SpellsBare, SpellsWithType}
use Rattle.lh_unit.specs.SpellsInst.{columns, IsOpWord, SpellsWordOp, SpellsPure}
use Rattle.lh_text_laws.proofs.Numerals.{number_of-decimal}
use Rattle.lh_text_laws.proofs.SpacedLines.{spaced-append, spaced-enclosed, word-lexeme}
use Rattle.lh_text_laws.proofs.Again.{Whole, PiecesSpell, at_end, parts-again, behind-again}
use Rattle.lh_text_laws.proofs.Types.{number-lexeme}
use Rattle.lh_text_laws.proofs.Numbers.{number-again}
use Rattle.lh_text_laws.proofs.Operands.{operand-again, bare-again, with_type-again, columns-again, typed_operand, operand_typed}

word-is : (o : Op) → IsOpWord o (op_word o)
word-is op.Umul = inl refl
word-is o = refl

word-written : (o : Op) (w : List ℕ) → IsOpWord o w → IsLexeme (word w) → IsLexeme (word (op_word o))
word-written op.Umul w h i = word-lexeme (codes "umul") refl
word-written o w h i = subst (λ v. IsLexeme (word v)) h i

-- what stands behind a comma begins with no word
pub behind-begins : (ps : List (List Piece)) → begins_with_word (behind_commas ps) ≡ false
behind-begins [] = refl
behind-begins (p ∷ ps) = refl

abbrev word_op : Op → List OperandText → List Piece
word_op o args = token (word (op_word o)) ∷ [] ␣ operands args ++ behind_commas (map number (op_numbers o))

word_op-again : (o : Op) (args : List OperandText) (ts : List Lexeme) → Each IsLexeme ts → SpellsWordOp o args ts → Whole (SpellsWordOp o args) (word_op o args)
word_op-again o args ts l h =
    let k : Each IsLexeme (word h.0 ∷ h.1) = subst (Each IsLexeme) h.3 l in
    let a = columns-again (columns o) args h.1 h.2 k.1 h.5 in
    let b = behind-again SpellsNumber number number-again (op_numbers o) h.2 [] a.left h.6 in
    let behind = behind_commas (map number (op_numbers o)) in
    record {
      spaced = (word-written o h.0 h.4 k.0, refl, spaced-append (operands args) behind a.stands.spaced b.stands.spaced (behind-begins (map number (op_numbers o))));
      spelled = (op_word o, lexemes_in (operands args ++ behind), lexemes_in behind, refl, word-is o, a.stands.spelled behind, at_end (SpellsBehind SpellsNumber (op_numbers o)) behind b.stands);
    }

array-again : (o : OperandText) (rest : List OperandText) (ts : List Lexeme) → Each IsLexeme ts → SpellsPure op.Array (o ∷ rest) ts
    → Whole (SpellsPure op.Array (o ∷ rest)) (operation op.Array (o ∷ rest))
array-again o rest ts l h =
    let k : Each IsLexeme (open_bracket ∷ h.1) = subst (Each IsLexeme) h.3 l in
    let a = operand-again o h.1 h.2 k.1 (typed_operand o h.0 h.1 h.2 h.4 h.5) in
    let b = behind-again SpellsBare operand bare-again rest h.2 (close_bracket ∷ []) a.left h.6 in
    let behind = behind_commas (map operand rest) in
    let end = behind ++ mark close_bracket in
    let front : SpellsOperand o (lexemes_in ((operand o ++ behind) ++ mark close_bracket)) (lexemes_in end) =
    subst (λ q. SpellsOperand o (lexemes_in q) (lexemes_in end)) (sym (append_assoc (operand o) behind (mark close_bracket))) (a.stands.spelled end) in
    record {
      spaced = spaced-enclosed 91 93 (operands (o ∷ rest)) refl refl (spaced-append (operand o) behind a.stands.spaced b.stands.spaced (behind-begins (map operand rest)));
      spelled = (h.0, lexemes_in ((operand o ++ behind) ++ mark close_bracket), lexemes_in end, refl, h.4, operand_typed o h.0 _ _ h.4 front, b.stands.spelled (mark close_bracket), h.7);
    }

repeat-again : (n : ℕ) (o : OperandText) (ts : List Lexeme) → Each IsLexeme ts → SpellsPure (op.Repeat n) (o ∷ []) ts → Whole (SpellsPure (op.Repeat n) (o ∷ [])) (operation (op.Repeat n) (o ∷ []))
repeat-again n o ts l h =
    let k : Each IsLexeme (open_bracket ∷ word h.1 ∷ word (codes "x") ∷ h.2) = subst (Each IsLexeme) h.3 l in
    let a = operand-again o h.2 (close_bracket ∷ []) k.1.1.1 (typed_operand o h.0 h.2 (close_bracket ∷ []) h.5 h.6) in
    let s : PiecesSpell (SpellsOperand o) (operands (o ∷ [])) = subst (PiecesSpell (SpellsOperand o)) (sym (append-nil (operand o))) a.stands in
    let b : n < 2 ^ 32 = h.7.2 in
    let w : n < 10 ^ 64 = omega arith in
    record {
      spaced = spaced-enclosed 91 93 (number n ␣ keyword "x" ␣ operands (o ∷ [])) refl refl (number-lexeme n w, refl, (word-lexeme (codes "x") refl, refl, s.spaced));
      spelled = (h.0, decimal n, lexemes_in (operands (o ∷ []) ++ mark close_bracket), refl, number_of-decimal n w, h.5, operand_typed o h.0 _ _ h.5 (s.spelled (mark close_bracket)), h.7);
    }

tuple-again : (args : List OperandText) (ts : List Lexeme) → Each IsLexeme ts → SpellsPure op.Tuple args ts → Whole (SpellsPure op.Tuple args) (operation op.Tuple args)
tuple-again args ts l h =
    let k : Each IsLexeme (open_brace ∷ h.0) = subst (Each IsLexeme) h.1 l in
    let a = parts-again SpellsWithType operand with_type-again args h.0 (close_brace ∷ []) k.1 h.2 in
    record {
      spaced = spaced-enclosed 123 125 (operands args) refl refl a.stands.spaced;
      spelled = (lexemes_in (operands args ++ mark close_brace), refl, a.stands.spelled (mark close_brace), h.3);
    }

-- an operation
pub pure-again : (o : Op) (args : List OperandText) (ts : List Lexeme) → Each IsLexeme ts → SpellsPure o args ts → Whole (SpellsPure o args) (operation o args)
pure-again op.Array [] ts l h = absurd h
pure-again op.Array (a ∷ args) ts l h = array-again a args ts l h
pure-again (op.Repeat n) (a ∷ []) ts l h = repeat-again n a ts l h
pure-again (op.Repeat n) [] ts l h = absurd h
pure-again (op.Repeat n) (a ∷ b ∷ args) ts l h = absurd h
pure-again op.Tuple args ts l h = tuple-again args ts l h
pure-again o args ts l h = let w = word_op-again o args ts l h in record { spaced = w.spaced; spelled = w.spelled }
