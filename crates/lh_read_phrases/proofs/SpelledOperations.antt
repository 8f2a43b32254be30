-- The operations that have a word: what is found is spelled so, and what is spelled so is found.
use Rattle.std.proofs.Common.{◌≡◌, ℕ, List, [], ◌∷◌, Some, refl, ap, sym, ◌∙◌, subst}
use Rattle.std.proofs.lemmas.Option.{same_Some}
use Rattle.lh_types.specs.declared.op.Op.{Op}
use Rattle.lh_types.specs.declared.op.Op.TheVariants as op
use Rattle.lh_unit.specs.Contents.{OperandText, InstText, pure_text}
use Rattle.lh_unit.specs.CanonWords.{op_numbers}
use Rattle.lh_unit.specs.Lexemes.{Lexeme, word, punct}
use Rattle.lh_unit.specs.SpellsNumbers.{SpellsNumber}
use Rattle.lh_unit.specs.SpellsParts.{SpellsBehind}
use Rattle.lh_unit.specs.SpellsInst.{columns, SpellsColumns, IsOpWord, SpellsPure, SpellsInst}
use Rattle.lh_read_pieces.specs.Pieces.{◌>>=◌, punct_at, end_at}
use Rattle.lh_read_pieces.specs.Shorter.{bind_some}
use Rattle.lh_read_pieces.proofs.Pieces.{punct_at-inv, end_at-inv}
use Rattle.lh_read_pieces.proofs.SpelledNumbers.{number_at-sound, number_at-again}
use Rattle.lh_read_phrases.specs.SyntaxOf.{operands_of}
use Rattle.lh_read_phrases.specs.Operands.{columns_at}
use Rattle.lh_read_phrases.specs.Operations.{behind_number_at, one_number_at, two_numbers_at, numbered_at, word_op_at}
use Rattle.lh_read_phrases.specs.declared.words.Columns.{Columns}
use Rattle.lh_read_phrases.proofs.SpelledWords.{HasWord, IsOpRow, unnumbered, written_as, columns-written}
use Rattle.lh_read_phrases.proofs.SpelledOperands.{columns_at-sound, columns_at-again, operands_as, operands_as-of}

behind_number-sound : (ts : List Lexeme) (r : ℕ × List Lexeme) → behind_number_at ts ≡ Some r → (us : List Lexeme) × (ts ≡ punct 44 ∷ us) × SpellsNumber r.0 us r.1
unfolding behind_number_at
behind_number-sound ts r p = let a = bind_some (punct_at 44 ts) _ r p in (a.0, punct_at-inv 44 ts a.0 a.1, number_at-sound a.0 r a.2)

one_number-sound : (ts : List Lexeme) (k : ℕ) → one_number_at ts ≡ Some k → SpellsBehind SpellsNumber (k ∷ []) ts []
unfolding one_number_at
one_number-sound ts k p =
    let a = bind_some (behind_number_at ts) _ k p in
    let b = bind_some (end_at a.0.1) _ k a.2 in
    let n = behind_number-sound ts a.0 a.1 in
    let s = subst (SpellsNumber a.0.0 n.0) (end_at-inv a.0.1 b.0 b.1) n.2 in
    (n.0, n.1, subst (λ x. SpellsNumber x n.0 []) (same_Some a.0.0 k b.2) s)

two_numbers-sound : (ts : List Lexeme) (r : ℕ × ℕ) → two_numbers_at ts ≡ Some r → SpellsBehind SpellsNumber (r.0 ∷ r.1 ∷ []) ts []
unfolding two_numbers_at
two_numbers-sound ts r p =
    let a = bind_some (behind_number_at ts) _ r p in
    let b = bind_some (one_number_at a.0.1) _ r a.2 in
    let n = behind_number-sound ts a.0 a.1 in
    let m = one_number-sound a.0.1 b.0 b.1 in
    let f = subst (SpellsNumber a.0.0 n.0) m.1 n.2 in
    let s : SpellsBehind SpellsNumber (a.0.0 ∷ b.0 ∷ []) ts [] = (n.0, n.1, (m.0, f, m.2)) in
    subst (λ (x : ℕ × ℕ). SpellsBehind SpellsNumber (x.0 ∷ x.1 ∷ []) ts []) (same_Some (a.0.0, b.0) r b.2) s

-- the operation with its numbers is spelled, where its word and its operands stand before them
numbered-sound : (o p : Op) (w : List ℕ) (args : List OperandText) (us vs : List Lexeme) → HasWord o → IsOpWord o w → SpellsColumns (columns o) args us vs → numbered_at o vs ≡ Some p
    → SpellsPure p args (word w ∷ us)
numbered-sound (op.Extf k) p w args us vs h e s q =
    let a = bind_some (one_number_at vs) _ p q in
    subst (λ x. SpellsPure x args (word w ∷ us)) (same_Some (op.Extf a.0) p a.2) (w, us, vs, refl, e, s, one_number-sound vs a.0 a.1)
numbered-sound (op.Insf k) p w args us vs h e s q =
    let a = bind_some (one_number_at vs) _ p q in
    subst (λ x. SpellsPure x args (word w ∷ us)) (same_Some (op.Insf a.0) p a.2) (w, us, vs, refl, e, s, one_number-sound vs a.0 a.1)
numbered-sound (op.Exts at len) p w args us vs h e s q =
    let a = bind_some (two_numbers_at vs) _ p q in
    subst (λ x. SpellsPure x args (word w ∷ us)) (same_Some (op.Exts a.0.0 a.0.1) p a.2) (w, us, vs, refl, e, s, two_numbers-sound vs a.0 a.1)
numbered-sound (op.Inss at len) p w args us vs h e s q =
    let a = bind_some (two_numbers_at vs) _ p q in
    subst (λ x. SpellsPure x args (word w ∷ us)) (same_Some (op.Inss a.0.0 a.0.1) p a.2) (w, us, vs, refl, e, s, two_numbers-sound vs a.0 a.1)
numbered-sound op.Array p w args us vs h e s q = absurd h
numbered-sound (op.Repeat n) p w args us vs h e s q = absurd h
numbered-sound op.Tuple p w args us vs h e s q = absurd h
numbered-sound o p w args us vs h e s q =
    let a = bind_some (end_at vs) _ p q in
    subst (λ x. SpellsPure x args (word w ∷ us)) (same_Some o p a.2) (w, us, vs, refl, e, s, end_at-inv vs a.0 a.1)

pub word_op-sound : (o : Op) (c : Columns) (w : List ℕ) (ts : List Lexeme) (i : InstText) → IsOpRow w o c → word_op_at o c ts ≡ Some i → SpellsInst i (word w ∷ ts)
unfolding word_op_at
word_op-sound o c w ts i row p =
    let a = bind_some (columns_at c ts) _ i p in
    let b = bind_some (numbered_at o a.0.1) _ i a.2 in
    let s = subst (λ l. SpellsColumns l (operands_of a.0.0) ts a.0.1) (sym row.columns) (columns_at-sound c ts a.0 a.1) in
    subst (λ x. SpellsInst x (word w ∷ ts)) (same_Some (pure_text b.0 (operands_of a.0.0)) i b.2) (numbered-sound o b.0 w (operands_of a.0.0) ts a.0.1 row.has row.word s b.1)

one_number-again : (k : ℕ) (ts : List Lexeme) → SpellsBehind SpellsNumber (k ∷ []) ts [] → one_number_at ts ≡ Some k
unfolding one_number_at behind_number_at
one_number-again k ts s = ap one_number_at s.1 ∙ ap (λ o. o >>= λ n. (end_at n.1 >>= λ _. Some n.0)) (number_at-again k s.0 [] s.2)

two_numbers-again : (k n : ℕ) (ts : List Lexeme) → SpellsBehind SpellsNumber (k ∷ n ∷ []) ts [] → two_numbers_at ts ≡ Some (k, n)
unfolding two_numbers_at behind_number_at
two_numbers-again k n ts s =
    ap two_numbers_at s.1 ∙ ap (λ o. o >>= λ x. (one_number_at x.1 >>= λ y. Some (x.0, y))) (number_at-again k s.0 (punct 44 ∷ s.2.0) s.2.1)
    ∙ ap (λ o. o >>= λ y. Some (k, y)) (one_number-again n (punct 44 ∷ s.2.0) (s.2.0, refl, s.2.2))

numbered-again : (o : Op) (vs : List Lexeme) → SpellsBehind SpellsNumber (op_numbers o) vs [] → numbered_at (unnumbered o) vs ≡ Some o
numbered-again (op.Extf k) vs s = ap (λ o. o >>= λ n. Some (op.Extf n)) (one_number-again k vs s)
numbered-again (op.Insf k) vs s = ap (λ o. o >>= λ n. Some (op.Insf n)) (one_number-again k vs s)
numbered-again (op.Exts at len) vs s = ap (λ o. o >>= λ r. Some (op.Exts r.0 r.1)) (two_numbers-again at len vs s)
numbered-again (op.Inss at len) vs s = ap (λ o. o >>= λ r. Some (op.Inss r.0 r.1)) (two_numbers-again at len vs s)
numbered-again o vs s = ap (λ l. end_at l >>= λ _. Some o) s

-- an operation is found behind its word
pub word_op-again : (o : Op) (args : List OperandText) (us vs : List Lexeme) → SpellsColumns (columns o) args us vs → SpellsBehind SpellsNumber (op_numbers o) vs []
    → word_op_at (unnumbered o) (written_as o) us ≡ Some (pure_text o args)
unfolding word_op_at
word_op-again o args us vs s n =
    let c = subst (λ l. SpellsColumns l args us vs) (columns-written o) s in
    ap (λ a. a >>= λ x. (numbered_at (unnumbered o) x.1 >>= λ p. Some (pure_text p (operands_of x.0)))) (columns_at-again (written_as o) args us vs c)
    ∙ ap (λ a. a >>= λ p. Some (pure_text p (operands_of (operands_as args)))) (numbered-again o vs n)
    ∙ ap (λ l. Some (pure_text o l)) (operands_as-of args)
