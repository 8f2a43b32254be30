-- What spells the operations of an entity.
use Rattle.std.proofs.Common.{◌≡◌, ℕ, suc, ◌<◌, ◌^◌, inl, List, [], ◌∷◌, ◌++◌, map, length, Some, decimal, refl, ap, sym, subst, arith, append-nil}
use Rattle.std.specs.Prelude.{codes}
use Rattle.lh_types.specs.Types.{TypeTree, array_type, tuple_type, signal_type, row_of, IsData, AreData}
use Rattle.lh_types.specs.declared.op.Op.{Op}
use Rattle.lh_types.specs.declared.op.Op.TheVariants as op
use Rattle.lh_types.specs.declared.op.OpClass.{OpClass}
use Rattle.lh_types.specs.declared.op.OpClass.TheVariants as class
use Rattle.lh_types.specs.Classes.{class_of}
use Rattle.lh_types.specs.ApplyTypes.{PartHasType, ClassType}
use Rattle.lh_types.specs.declared.part.Step.{Step}
use Rattle.lh_types.specs.declared.part.Step.TheVariants.{Field, Slice}
use Rattle.lh_types.proofs.TypeFaults.{data_limited}
use Rattle.lh_unit_names.specs.Names.{IsName}
use Rattle.lh_unit.specs.Contents.{OperandText, pure_text}
use Rattle.lh_unit.specs.Lexemes.{Lexeme, word, local}
use Rattle.lh_unit.specs.Marks.{open_bracket, close_bracket, open_brace, close_brace, comma}
use Rattle.lh_unit.specs.Pieces.{IsLexeme}
use Rattle.lh_unit.specs.CanonWords.{op_word, op_numbers, step_numbers, class_numbers}
use Rattle.lh_unit.specs.Within.{Each}
use Rattle.lh_unit.specs.SpellsNumbers.{SpellsNumber}
use Rattle.lh_unit.specs.SpellsParts.{SpellsBehind, SpellsBare, SpellsWithType, SpellsOperand}
use Rattle.lh_unit.specs.SpellsInst.{typed as typed_column, bare as bare_column, free as free_column, columns, class_columns, IsOpWord, SpellsColumns, SpellsWordOp, written_types, SpellsOfClass, SpellsInst}
use Rattle.lh_text_laws.proofs.Numerals.{number_of-decimal}
use Rattle.lh_text_laws.proofs.SpacedLines.{word-lexeme}
use Rattle.lh_text_laws.proofs.Types.{number-lexeme}
use Rattle.lh_term.specs.Tree.{Tree}
use Rattle.lh_term.specs.Types.{TakesTypes, type_of, first_of, class_result}
use Rattle.lh_term.proofs.TermTypes.{class_is}
use Rattle.lh_term.specs.declared.part.Part.{Part}
use Rattle.lh_emit_def.specs.Emitted.{Emitted, term_name, typed, bare}
use Rattle.lh_emit_def.specs.Needs.{types_of_all, each_typed, first_typed, class_typed, operation_text}
use Rattle.lh_emit_def.specs.Ways.{part_by}
use Rattle.lh_emit_def.proofs.StepTypes.{has-small, StepsWell, step-well}
use Rattle.lh_emit_def.proofs.InstructionSpelling.{each-append, SpeltInFront, Spelt, type-says, typed-says, free-says, bare-says, number-says, comma-says, parts-says, behind-says}

-- ---- operations that have a word

word-spelt : (o : Op) (args : List OperandText) → IsLexeme (word (op_word o)) → IsOpWord o (op_word o) → SpeltInFront (SpellsColumns (columns o) args)
    → SpeltInFront (SpellsBehind SpellsNumber (op_numbers o)) → Spelt (SpellsWordOp o args)
word-spelt o args w i c n = record {
  toks = word (op_word o) ∷ (c.toks ++ n.toks);
  written = (w, each-append IsLexeme c.toks n.toks c.written n.written);
  spelled = (op_word o, c.toks ++ n.toks, n.toks, refl, i, c.spelled n.toks, subst (λ z. SpellsBehind SpellsNumber (op_numbers o) z []) (append-nil n.toks) (n.spelled []));
}

-- the operations of the class have a word, and no brackets in its place
abbrev HasWord : OpClass → Type 0
HasWord class.Array = ⊥
HasWord (class.Repeat n) = ⊥
HasWord class.Tuple = ⊥
HasWord _ = Unit {0}

word-written : (o : Op) → HasWord (class_of o) → IsLexeme (word (op_word o))
word-written op.Array h = absurd h
word-written (op.Repeat n) h = absurd h
word-written op.Tuple h = absurd h
word-written o h = word-lexeme (op_word o) refl

own-word : (o : Op) → IsOpWord o (op_word o)
own-word op.Umul = inl refl
own-word o = refl

no-numbers : SpeltInFront (SpellsBehind SpellsNumber [])
no-numbers = record { toks = []; written = tt; spelled = λ more. refl }

numbers-says : (ns : List ℕ) → Each (λ n. n < 2 ^ 32) ns → Each (λ n. SpeltInFront (SpellsNumber n)) ns
numbers-says [] h = tt
numbers-says (n ∷ ns) h = (number-says n h.0, numbers-says ns h.1)

one-typed : (n : List ℕ) (t : TypeTree) → IsName n → IsData t → SpeltInFront (SpellsColumns (typed_column ∷ []) (typed n t ∷ []))
one-typed n t i d = let s = typed-says n t i (data_limited t d) in record { toks = s.toks; written = s.written; spelled = λ more. s.spelled more }

-- a step to a part
one-signal : (n : List ℕ) (t : TypeTree) → IsName n → IsData t → SpeltInFront (SpellsColumns (typed_column ∷ []) (typed n (signal_type t) ∷ []))
one-signal n t i d = let s = typed-says n (signal_type t) i d in record { toks = s.toks; written = s.written; spelled = λ more. s.spelled more }

pub step-spelt : (q to : Part) (n : List ℕ) (o : Op) → part_by q o ≡ Some to → IsData q.ty → IsName n → Spelt (SpellsInst (pure_text o (typed n (signal_type to.ty) ∷ [])))
step-spelt q to n (op.Extf k) h d i =
    let w : StepsWell to (Field k) = step-well q to (Field k) d h in
    let b : k < 2 ^ 32 = w.small in
    let s = word-spelt (op.Extf k) (typed n (signal_type to.ty) ∷ []) (word-lexeme (codes "extf") refl) refl (one-signal n to.ty i w.is_data)
    (behind-says SpellsNumber (k ∷ []) (number-says k b, tt)) in
    record { toks = s.toks; written = s.written; spelled = s.spelled }
step-spelt q to n (op.Exts at len) h d i =
    let w : StepsWell to (Slice at len) = step-well q to (Slice at len) d h in
    let b : (at < 2 ^ 32) × (len < 2 ^ 32) = w.small in
    let s = word-spelt (op.Exts at len) (typed n (signal_type to.ty) ∷ []) (word-lexeme (codes "exts") refl) refl (one-signal n to.ty i w.is_data)
    (behind-says SpellsNumber (at ∷ len ∷ []) (number-says at b.0, (number-says len b.1, tt))) in
    record { toks = s.toks; written = s.written; spelled = s.spelled }
step-spelt q to n _ h d i = absurd cc

-- ---- operands

two-columns : (o p : OperandText) → SpeltInFront (SpellsWithType o) → SpeltInFront (SpellsBare p) → SpeltInFront (SpellsColumns (typed_column ∷ bare_column ∷ []) (o ∷ p ∷ []))
two-columns o p a b = let s = comma-says (SpellsWithType o) (SpellsBare p) a b in record { toks = s.toks; written = s.written; spelled = λ more. s.spelled more }

three-columns : (o p q : OperandText) → SpeltInFront (SpellsWithType o) → SpeltInFront (SpellsOperand p) → SpeltInFront (SpellsOperand q)
    → SpeltInFront (SpellsColumns (typed_column ∷ free_column ∷ free_column ∷ []) (o ∷ p ∷ q ∷ []))
three-columns o p q a b c =
    let s = comma-says (SpellsOperand p) (SpellsOperand q) b c in
    let r = comma-says (SpellsWithType o) (λ ts more. (us : List Lexeme) × SpellsOperand p ts (comma ∷ us) × SpellsOperand q us more) a s in
    record { toks = r.toks; written = r.written; spelled = λ more. r.spelled more }

first-data : (ts more : List TypeTree) (a : TypeTree) → ts ≡ a ∷ more → AreData (row_of ts) → IsData (first_of ts)
first-data [] more a q d = absurd cc
first-data (t ∷ ts) more a q d = d.0

module _ (e : Emitted) where
  -- the name of a term can be written
  abbrev pub TermWritten : Tree → Type 0
  TermWritten t = IsName (term_name e t)

  first-one : (w : TypeTree) (ts : List Tree) (a : TypeTree) → types_of_all ts ≡ a ∷ [] → IsData w → Each TermWritten ts → SpeltInFront (SpellsColumns (typed_column ∷ []) (first_typed e w ts))
  first-one w [] a q d n = absurd cc
  first-one w (t ∷ []) a q d n = one-typed (term_name e t) w n.0 d
  first-one w (t ∷ u ∷ ts) a q d n = absurd cc

  first-two : (w : TypeTree) (ts : List Tree) (a b : TypeTree) → types_of_all ts ≡ a ∷ b ∷ [] → IsData w → Each TermWritten ts
      → SpeltInFront (SpellsColumns (typed_column ∷ bare_column ∷ []) (first_typed e w ts))
  first-two w [] a b q d n = absurd cc
  first-two w (t ∷ []) a b q d n = absurd cc
  first-two w (t ∷ u ∷ []) a b q d n = two-columns (typed (term_name e t) w) (bare (term_name e u)) (typed-says (term_name e t) w n.0 (data_limited w d)) (bare-says (term_name e u) n.1.0)
  first-two w (t ∷ u ∷ v ∷ ts) a b q d n = absurd cc

  each-three : (ts : List Tree) (a b c : TypeTree) → types_of_all ts ≡ a ∷ b ∷ c ∷ [] → AreData (row_of (types_of_all ts)) → Each TermWritten ts
      → SpeltInFront (SpellsColumns (typed_column ∷ free_column ∷ free_column ∷ []) (each_typed e ts))
  each-three [] a b c q d n = absurd cc
  each-three (t ∷ []) a b c q d n = absurd cc
  each-three (t ∷ u ∷ []) a b c q d n = absurd cc
  each-three (t ∷ u ∷ v ∷ []) a b c q d n =
      three-columns (typed (term_name e t) (type_of t)) (typed (term_name e u) (type_of u)) (typed (term_name e v) (type_of v))
      (typed-says (term_name e t) (type_of t) n.0 (data_limited (type_of t) d.0)) (free-says (term_name e u) (type_of u) n.1.0 (data_limited (type_of u) d.1.0))
      (free-says (term_name e v) (type_of v) n.1.1.0 (data_limited (type_of v) d.1.1.0))
  each-three (t ∷ u ∷ v ∷ x ∷ ts) a b c q d n = absurd cc

  bares-say : (ts : List Tree) → Each TermWritten ts → Each (λ o. SpeltInFront (SpellsBare o)) (map (λ u. bare (term_name e u)) ts)
  bares-say [] n = tt
  bares-say (t ∷ ts) n = (bare-says (term_name e t) n.0, bares-say ts n.1)

  each-say : (ts : List Tree) → AreData (row_of (types_of_all ts)) → Each TermWritten ts → Each (λ o. SpeltInFront (SpellsWithType o)) (each_typed e ts)
  each-say [] d n = tt
  each-say (t ∷ ts) d n = (typed-says (term_name e t) (type_of t) n.0 (data_limited (type_of t) d.0), each-say ts d.1 n.1)

  bare-length : (ts : List Tree) → length (types_of_all ts) ≡ length (map (λ u. bare (term_name e u)) ts)
  bare-length [] = refl
  bare-length (t ∷ ts) = ap suc (bare-length ts)

  written-each : (ts : List Tree) → types_of_all ts ≡ written_types (each_typed e ts)
  written-each [] = refl
  written-each (t ∷ ts) = ap (λ l. type_of t ∷ l) (written-each ts)

  -- ---- operations that have brackets

  array-spelt : (o : Op) (ts : List Tree) → 0 < length (types_of_all ts) → AreData (row_of (types_of_all ts)) → IsData (array_type (length (types_of_all ts)) (first_of (types_of_all ts))) → Each TermWritten ts →
      Spelt (SpellsOfClass class.Array o (first_typed e (first_of (types_of_all ts)) ts))
  array-spelt o [] l d r n = absurd (omega (arith, l))
  array-spelt o (t ∷ ts) l d r n =
      let w = type_of t in
      let l : length (types_of_all (t ∷ ts)) ≡ length (first_typed e w (t ∷ ts)) = ap suc (bare-length ts) in
      let s = type-says w (data_limited w d.0) in
      let b = behind-says SpellsBare (map (λ u. bare (term_name e u)) ts) (bares-say ts n.1) in
      let vs : List Lexeme = b.toks ++ close_bracket ∷ [] in
      let us : List Lexeme = s.toks ++ local (term_name e t) ∷ vs in
      record {
        toks = open_bracket ∷ us;
        written = (refl, each-append IsLexeme s.toks (local (term_name e t) ∷ vs) s.written (n.0, each-append IsLexeme b.toks (close_bracket ∷ []) b.written (refl, tt)));
        spelled = (w, us, vs, refl, refl, s.spelled (local (term_name e t) ∷ vs), b.spelled (close_bracket ∷ []), subst (λ m. IsData (array_type m w)) l r);
      }

  repeat-spelt : (o : Op) (c : ℕ) (ts : List Tree) (a : TypeTree) → types_of_all ts ≡ a ∷ [] → AreData (row_of (types_of_all ts)) → IsData (array_type c (first_of (types_of_all ts))) → Each TermWritten ts →
      Spelt (SpellsOfClass (class.Repeat c) o (first_typed e (first_of (types_of_all ts)) ts))
  repeat-spelt o c [] a q d r n = absurd cc
  repeat-spelt o c (t ∷ []) a q d r n =
      let w = type_of t in
      let b : c < 2 ^ 32 = r.2 in
      let m : c < 10 ^ 64 = omega (arith, b) in
      let s = type-says w (data_limited w d.0) in
      let vs : List Lexeme = local (term_name e t) ∷ close_bracket ∷ [] in
      record {
        toks = open_bracket ∷ word (decimal c) ∷ word (codes "x") ∷ (s.toks ++ vs);
        written = (refl, (number-lexeme c m, (word-lexeme (codes "x") refl, each-append IsLexeme s.toks vs s.written (n.0, (refl, tt)))));
        spelled = (w, decimal c, s.toks ++ vs, refl, number_of-decimal c m, refl, s.spelled vs, r);
      }
  repeat-spelt o c (t ∷ u ∷ ts) a q d r n = absurd cc

  tuple-spelt : (o : Op) (ts : List Tree) → 0 < length (types_of_all ts) → AreData (row_of (types_of_all ts)) → IsData (tuple_type (row_of (types_of_all ts))) → Each TermWritten ts →
      Spelt (SpellsOfClass class.Tuple o (each_typed e ts))
  tuple-spelt o [] l d r n = absurd (omega (arith, l))
  tuple-spelt o (t ∷ ts) l d r n =
      let all = each-say (t ∷ ts) d n in
      let p = parts-says SpellsWithType (typed (term_name e t) (type_of t)) (each_typed e ts) all.0 all.1 in
      let us : List Lexeme = p.toks ++ close_brace ∷ [] in
      record {
        toks = open_brace ∷ us;
        written = (refl, each-append IsLexeme p.toks (close_brace ∷ []) p.written (refl, tt));
        spelled = (us, refl, p.spelled (close_brace ∷ []), subst (λ l. IsData (tuple_type (row_of l))) (written-each (t ∷ ts)) r);
      }

  -- ---- any operation

  -- the numbers of a step are small
  step-numbers-say : (s : Step) (t r : TypeTree) → IsData t → PartHasType t s r → SpeltInFront (SpellsBehind SpellsNumber (step_numbers s))
  step-numbers-say (Field k) t r d h = behind-says SpellsNumber (k ∷ []) (number-says k (has-small t (Field k) r d h), tt)
  step-numbers-say (Slice at len) t r d h =
      let b : (at < 2 ^ 32) × (len < 2 ^ 32) = has-small t (Slice at len) r d h in
      behind-says SpellsNumber (at ∷ len ∷ []) (number-says at b.0, (number-says len b.1, tt))

  -- an operation that has a word, by the columns and the numbers of its class
  in-words : (o : Op) (c : OpClass) (args : List OperandText) → class_of o ≡ c → HasWord c → SpeltInFront (SpellsColumns (class_columns c) args) → SpeltInFront (SpellsBehind SpellsNumber (class_numbers c)) →
      Spelt (SpellsWordOp o args)
  in-words o c args q w x n = word-spelt o args (word-written o (subst HasWord (sym q) w)) (own-word o)
      (subst (λ k. SpeltInFront (SpellsColumns (class_columns k) args)) (sym q) x) (subst (λ k. SpeltInFront (SpellsBehind SpellsNumber (class_numbers k))) (sym q) n)

  class-spelt : (o : Op) (c : OpClass) (ts : List Tree) (r : TypeTree) → class_of o ≡ c → AreData (row_of (types_of_all ts)) → ClassType c (types_of_all ts) r → IsData r → Each TermWritten ts →
      Spelt (SpellsOfClass c o (class_typed e c ts))
  class-spelt o class.Unary ts r q d k i n =
      in-words o class.Unary _ q tt (first-one (first_of (types_of_all ts)) ts _ k.1 (first-data (types_of_all ts) [] _ k.1 d) n) no-numbers
  class-spelt o class.Binary ts r q d k i n =
      in-words o class.Binary _ q tt (first-two (first_of (types_of_all ts)) ts _ _ k.1 (first-data (types_of_all ts) _ _ k.1 d) n) no-numbers
  class-spelt o class.Relation ts r q d k i n =
      in-words o class.Relation _ q tt (first-two (first_of (types_of_all ts)) ts _ _ k.1 (first-data (types_of_all ts) _ _ k.1 d) n) no-numbers
  class-spelt o class.Equality ts r q d k i n =
      in-words o class.Equality _ q tt (first-two (first_of (types_of_all ts)) ts _ _ k.1 (first-data (types_of_all ts) _ _ k.1 d) n) no-numbers
  class-spelt o class.Shift ts r q d k i n = in-words o class.Shift _ q tt (each-three ts _ _ _ k.2 d n) no-numbers
  class-spelt o class.Select ts r q d k i n =
      let g = subst IsData (sym (class_is class.Select (types_of_all ts) r k)) i in
      in-words o class.Select _ q tt (first-two (class_result class.Select (types_of_all ts)) ts _ _ k.2 g n) no-numbers
  class-spelt o (class.TakePart s) ts r q d k i n =
      let g = subst IsData (sym (class_is (class.TakePart s) (types_of_all ts) r k)) i in
      let whole : IsData k.0 = (subst (λ z. AreData (row_of z)) k.1 d).0 in
      in-words o (class.TakePart s) _ q tt (first-one (class_result (class.TakePart s) (types_of_all ts)) ts _ k.1 g n) (step-numbers-say s k.0 r whole k.2)
  class-spelt o (class.PutPart s) ts r q d k i n =
      in-words o (class.PutPart s) _ q tt (first-two (first_of (types_of_all ts)) ts _ _ k.1 (first-data (types_of_all ts) _ _ k.1 d) n) (step-numbers-say s r k.0 i k.2)
  class-spelt o class.Array ts r q d k i n = array-spelt o ts k.1 d (subst IsData (sym (class_is class.Array (types_of_all ts) r k)) i) n
  class-spelt o (class.Repeat c) ts r q d k i n = repeat-spelt o c ts k.0 k.1 d (subst IsData (sym (class_is (class.Repeat c) (types_of_all ts) r k)) i) n
  class-spelt o class.Tuple ts r q d k i n = tuple-spelt o ts k.0 d (subst IsData (sym (class_is class.Tuple (types_of_all ts) r k)) i) n

  pub operation-spelt : (o : Op) (ts : List Tree) → TakesTypes o (types_of_all ts) → Each TermWritten ts → Spelt (SpellsInst (operation_text e o ts))
  operation-spelt o ts k n =
      let s = class-spelt o (class_of o) ts k.gives refl k.data_types k.row k.is_data n in
      record { toks = s.toks; written = s.written; spelled = s.spelled }
