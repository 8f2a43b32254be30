-- Arrays and structs: what is found is spelled so, and what is spelled so is found.
use Rattle.std.proofs.Common.{◌≡◌, ℕ, ◌<◌, ◌+◌, Bool, true, false, List, [], ◌∷◌, length, Option, Some, None, nat_lt, refl, ap, sym, ◌∙◌, subst, arith}
use Rattle.std.specs.Prelude.{◌&&◌, ◌^◌, is_none, if◌then◌else◌, codes}
use Rattle.std.proofs.lemmas.Grind.{common_steps}
use Rattle.std.proofs.lemmas.Option.{cond_some, same_Some}
use Rattle.std.proofs.lemmas.Bool.{and_parts}
use Rattle.lh_types.specs.Types.{TypeTree, TypeRow, array_type, tuple_type, AreData, IsLimited, row_of, bit_count_row, depth_of_row}
use Rattle.lh_types.specs.Faults.{is_data, all_data, is_empty_row, array_fault, tuple_fault}
use Rattle.lh_types.specs.declared.ty.TyFault.{TyFault}
use Rattle.lh_types.specs.declared.op.Op.TheVariants as op
use Rattle.lh_unit.specs.Contents.{OperandText, InstText, pure_text}
use Rattle.lh_unit.specs.Lexemes.{Lexeme, word, local, punct}
use Rattle.lh_unit.specs.Numerals.{number_of}
use Rattle.lh_unit.specs.SpellsTypes.{SpellsType}
use Rattle.lh_unit.specs.SpellsParts.{SpellsTyped, SpellsOperand, SpellsBare, SpellsWithType, SpellsParts, SpellsBehind}
use Rattle.lh_unit.specs.SpellsInst.{SpellsInst, written_types}
use Rattle.lh_unit.specs.Typing.{or_else}
use Rattle.lh_read_pieces.specs.Pieces.{◌>>=◌, word_at, punct_at, parts_at}
use Rattle.lh_read_pieces.specs.Numbers.{number_at}
use Rattle.lh_read_pieces.specs.Shorter.{bind_some}
use Rattle.lh_read_pieces.proofs.Pieces.{word_at-inv, punct_at-inv, end_at-inv}
use Rattle.lh_read_pieces.proofs.SpelledNumbers.{number_at-sound, number_at-again}
use Rattle.lh_read_pieces.proofs.TypeStarts.{number_at-type}
use Rattle.lh_types.proofs.TypeFaults.{array-again, tuple-sound, tuple-again, limited_data, four_none, array-limited}
use Rattle.lh_read_phrases.specs.SyntaxOf.{operand_of, operands_of}
use Rattle.lh_read_phrases.specs.Operands.{typed_at, free_at}
use Rattle.lh_read_phrases.specs.Operations.{last_mark_at, when, fits_array, repeated_of, repeat_at, all_bare, element_of, array_at, bracket_at, fields_of, fits_tuple, tuple_at}
use Rattle.lh_read_phrases.specs.declared.syntax.Operand.{Operand}
use Rattle.lh_read_phrases.proofs.SpelledOperands.{operands_as, operands_as-of, typed_at-sound, typed_at-again, bare_free, typed_free}
use Rattle.lh_read_phrases.proofs.OperandLists.{operand_parts-sound, operand_parts-again}

pub last_mark-sound : (b : ℕ) (ts : List Lexeme) (u : Unit {0}) → last_mark_at b ts ≡ Some u → ts ≡ punct b ∷ []
unfolding last_mark_at
last_mark-sound b ts u p = let a = bind_some (punct_at b ts) _ u p in punct_at-inv b ts a.0 a.1 ∙ ap (λ l. punct b ∷ l) (end_at-inv a.0 u a.2)

when-inv : (b : Bool) (i j : InstText) → when b i ≡ Some j → (b ≡ true) × (i ≡ j)
when-inv b i j p = cond_some b i j p

-- the limits of arrays
none_inv : (o : Option TyFault) → is_none o ≡ true → o ≡ None
none_inv None h = refl
none_inv (Some n) h = cc

fits-sound : (n : ℕ) (o : Option TypeTree) → fits_array n o ≡ true → (t : TypeTree) × (o ≡ Some t) × (n < 2 ^ 32) × (array_fault n t ≡ None)
fits-sound n None h = cc
fits-sound n (Some t) h = let b = and_parts (nat_lt n (2 ^ 32)) (is_none (array_fault n t)) h in (t, refl, lt n (2 ^ 32) b.0, none_inv (array_fault n t) b.1)
  where
    lt : (x y : ℕ) → nat_lt x y ≡ true → x < y
    lt x y e = grind (arith, common_steps)

fits-again : (n : ℕ) (t : TypeTree) → IsLimited (array_type n t) → fits_array n (Some t) ≡ true
fits-again n t l = let a : nat_lt n (2 ^ 32) ≡ true = lt n (2 ^ 32) l.2 in let b = array-again n t l in rw (a, b) refl
  where
    lt : (x y : ℕ) → x < y → nat_lt x y ≡ true
    lt x y h = grind (arith, common_steps)

-- `N x D %a]`
repeated-sound : (n : ℕ) (o : Operand) (ts us : List Lexeme) (w : List ℕ) (i : InstText) → number_of w ≡ Some n → SpellsWithType (operand_of o) us (punct 93 ∷ []) → ts ≡ word w ∷ word (codes "x") ∷ us
    → repeated_of n o ≡ Some i → SpellsInst i (punct 91 ∷ ts)
repeated-sound n o ts us w i m s e p =
    let g = when-inv (fits_array n o.ty) (pure_text (op.Repeat n) (operand_of o ∷ [])) i p in
    let f = fits-sound n o.ty g.0 in
    let t = subst (λ ty. SpellsTyped ty o.value us (punct 93 ∷ [])) f.1 (subst (λ ty. SpellsTyped ty o.value us (punct 93 ∷ [])) (sym s.1) s.2) in
    let q : SpellsInst (pure_text (op.Repeat n) (operand_of o ∷ [])) (punct 91 ∷ ts) = (f.0, w, us, ap (λ l. punct 91 ∷ l) e, m, f.1, t, array-limited n f.0 t.1 f.2 f.3) in
    subst (λ x. SpellsInst x (punct 91 ∷ ts)) g.1 q

repeat_at-sound : (ts : List Lexeme) (i : InstText) → repeat_at ts ≡ Some i → SpellsInst i (punct 91 ∷ ts)
unfolding repeat_at
repeat_at-sound ts i p =
    let a = bind_some (number_at ts) _ i p in
    let b = bind_some (word_at (codes "x") a.0.1) _ i a.2 in
    let c = bind_some (typed_at b.0) _ i b.2 in
    let d = bind_some (last_mark_at 93 c.0.1) _ i c.2 in
    let n = number_at-sound ts a.0 a.1 in
    let s = subst (SpellsWithType (operand_of c.0.0) b.0) (last_mark-sound 93 c.0.1 d.0 d.1) (typed_at-sound b.0 c.0 c.1) in
    repeated-sound a.0.0 c.0.0 ts b.0 n.0 i n.2 s (n.1 ∙ ap (λ l. word n.0 ∷ l) (word_at-inv (codes "x") a.0.1 b.0 b.1)) d.2

repeat_at-again : (n : ℕ) (o : OperandText) (ts : List Lexeme) (t : TypeTree) (w : List ℕ) (us : List Lexeme) → ts ≡ word w ∷ word (codes "x") ∷ us → number_of w ≡ Some n → o.ty ≡ Some t
    → SpellsType t us (local o.value ∷ punct 93 ∷ []) → IsLimited (array_type n t) → repeat_at ts ≡ Some (pure_text (op.Repeat n) (o ∷ []))
unfolding repeat_at last_mark_at
repeat_at-again n o ts t w us e m y s l =
    let f : fits_array n o.ty ≡ true = ap (fits_array n) y ∙ fits-again n t l in
    ap (λ x. x >>= λ k. (word_at (codes "x") k.1 >>= λ vs. (typed_at vs >>= λ a. (last_mark_at 93 a.1 >>= λ _. repeated_of k.0 a.0)))) (number_at-again n ts (word (codes "x") ∷ us) (w, e, m, l.2))
    ∙ ap (λ x. x >>= λ a. (last_mark_at 93 a.1 >>= λ _. repeated_of n a.0)) (typed_at-again o us (punct 93 ∷ []) (t, y, s))
    ∙ ap (λ b. when b (pure_text (op.Repeat n) (o ∷ []))) f

-- `D %a, %b]`
no_type : (ty : Option TypeTree) → is_none ty ≡ true → ty ≡ None
no_type None h = refl
no_type (Some t) h = cc

bare_parts : (xs : List Operand) (ts us : List Lexeme) → all_bare xs ≡ true → SpellsParts SpellsOperand (operands_of xs) ts us → SpellsParts SpellsBare (operands_of xs) ts us
bare_parts [] ts us h s = absurd s
bare_parts (x ∷ []) ts us h s = let e = no_type x.ty (and_parts (is_none x.ty) true h).0 in (e, subst (λ ty. SpellsTyped ty x.value ts us) e s)
bare_parts (x ∷ y ∷ xs) ts us h s =
    let b = and_parts (is_none x.ty) (all_bare (y ∷ xs)) h in let e = no_type x.ty b.0 in
    (s.0, (e, subst (λ ty. SpellsTyped ty x.value ts (punct 44 ∷ s.0)) e s.1), bare_parts (y ∷ xs) s.0 us b.1 s.2)

first_rest : (o : Operand) (rest : List Operand) (ts us : List Lexeme) (t : TypeTree) → o.ty ≡ Some t → all_bare rest ≡ true → SpellsParts SpellsOperand (operands_of (o ∷ rest)) ts us
    → (vs : List Lexeme) × SpellsType t ts (local o.value ∷ vs) × SpellsBehind SpellsBare (operands_of rest) vs us
first_rest o [] ts us t e h s = (us, subst (λ ty. SpellsTyped ty o.value ts us) e s, refl)
first_rest o (x ∷ xs) ts us t e h s = (punct 44 ∷ s.0, subst (λ ty. SpellsTyped ty o.value ts (punct 44 ∷ s.0)) e s.1, (s.0, refl, bare_parts (x ∷ xs) s.0 us h s.2))

element-inv : (b : Bool) (ty : Option TypeTree) (t : TypeTree) → (if b then ty else None) ≡ Some t → (b ≡ true) × (ty ≡ Some t)
element-inv true ty t e = (refl, e)
element-inv false ty t e = cc

length_of : (xs : List Operand) → length (operands_of xs) ≡ length xs
length_of [] = refl
length_of (x ∷ xs) = omega (arith, length_of xs)

elements-sound : (os : List Operand) (ts : List Lexeme) (i : InstText) → SpellsParts SpellsOperand (operands_of os) ts (punct 93 ∷ [])
    → when (fits_array (length os) (element_of os)) (pure_text op.Array (operands_of os)) ≡ Some i
    → SpellsInst i (punct 91 ∷ ts)
elements-sound [] ts i s p = absurd s
elements-sound (o ∷ rest) ts i s p =
    let g = when-inv (fits_array (length (o ∷ rest)) (element_of (o ∷ rest))) (pure_text op.Array (operands_of (o ∷ rest))) i p in
    let f = fits-sound (length (o ∷ rest)) (element_of (o ∷ rest)) g.0 in
    let e = element-inv (all_bare rest) o.ty f.0 f.1 in
    let r = first_rest o rest ts (punct 93 ∷ []) f.0 e.1 e.0 s in
    let l = subst (λ n. IsLimited (array_type n f.0)) (sym (length_of (o ∷ rest))) (array-limited (length (o ∷ rest)) f.0 r.1.1 f.2 f.3) in
    let q : SpellsInst (pure_text op.Array (operands_of (o ∷ rest))) (punct 91 ∷ ts) = (f.0, ts, r.0, refl, e.1, r.1, r.2, l) in
    subst (λ x. SpellsInst x (punct 91 ∷ ts)) g.1 q

array_at-sound : (ts : List Lexeme) (i : InstText) → array_at ts ≡ Some i → SpellsInst i (punct 91 ∷ ts)
unfolding array_at
array_at-sound ts i p =
    let a = bind_some (parts_at free_at (length ts) ts) _ i p in
    let b = bind_some (last_mark_at 93 a.0.1) _ i a.2 in
    let s = subst (SpellsParts SpellsOperand (operands_of a.0.0) ts) (last_mark-sound 93 a.0.1 b.0 b.1) (operand_parts-sound (length ts) ts a.0 a.1) in
    elements-sound a.0.0 ts i s b.2

pub bracket_at-sound : (ts : List Lexeme) (i : InstText) → bracket_at ts ≡ Some i → SpellsInst i (punct 91 ∷ ts)
unfolding bracket_at
bracket_at-sound ts i p = by (repeat_at ts) refl p
  where
    by : (o : Option InstText) → repeat_at ts ≡ o → or_else o (array_at ts) ≡ Some i → SpellsInst i (punct 91 ∷ ts)
    by (Some x) e q = subst (λ y. SpellsInst y (punct 91 ∷ ts)) (same_Some x i q) (repeat_at-sound ts x e)
    by None e q = array_at-sound ts i q

free_parts : (os : List OperandText) (ts us : List Lexeme) → SpellsParts SpellsBare os ts us → SpellsParts SpellsOperand os ts us
free_parts [] ts us s = absurd s
free_parts (x ∷ []) ts us s = bare_free x ts us s
free_parts (x ∷ y ∷ os) ts us s = (s.0, bare_free x ts (punct 44 ∷ s.0) s.1, free_parts (y ∷ os) s.0 us s.2)

all_bare-again : (os : List OperandText) (ts us : List Lexeme) → SpellsParts SpellsBare os ts us → all_bare (operands_as os) ≡ true
all_bare-again [] ts us s = refl
all_bare-again (x ∷ []) ts us s = ap (λ ty. is_none ty && true) s.0
all_bare-again (x ∷ y ∷ os) ts us s = ap (λ ty. is_none ty && all_bare (operands_as (y ∷ os))) s.1.0 ∙ all_bare-again (y ∷ os) s.0 us s.2

rest_bare : (os : List OperandText) (ts us : List Lexeme) → SpellsBehind SpellsBare os ts us → all_bare (operands_as os) ≡ true
rest_bare [] ts us s = refl
rest_bare (x ∷ os) ts us s = all_bare-again (x ∷ os) s.0 us s.2

whole : (o : OperandText) (rest : List OperandText) (ts vs us : List Lexeme) (t : TypeTree) → o.ty ≡ Some t → SpellsType t ts (local o.value ∷ vs) → SpellsBehind SpellsBare rest vs us
    → SpellsParts SpellsOperand (o ∷ rest) ts us
whole o [] ts vs us t e s b = subst (λ w. SpellsOperand o ts w) b (typed_free o ts vs (t, e, s))
whole o (x ∷ xs) ts vs us t e s b = (b.0, subst (λ w. SpellsOperand o ts w) b.1 (typed_free o ts vs (t, e, s)), free_parts (x ∷ xs) b.0 us b.2)

length_as : (os : List OperandText) → length (operands_as os) ≡ length os
length_as [] = refl
length_as (o ∷ os) = omega (arith, length_as os)

array_at-again : (o : OperandText) (rest : List OperandText) (ts vs : List Lexeme) (t : TypeTree) → o.ty ≡ Some t → SpellsType t ts (local o.value ∷ vs)
    → SpellsBehind SpellsBare rest vs (punct 93 ∷ [])
    → IsLimited (array_type (length (o ∷ rest)) t) → array_at ts ≡ Some (pure_text op.Array (o ∷ rest))
unfolding array_at last_mark_at
array_at-again o rest ts vs t e s b l =
    let f : fits_array (length (operands_as (o ∷ rest))) (element_of (operands_as (o ∷ rest))) ≡ true =
    ap (λ c. fits_array (length (operands_as (o ∷ rest))) (if c then o.ty else None)) (rest_bare rest vs (punct 93 ∷ []) b)
    ∙ ap (fits_array (length (operands_as (o ∷ rest)))) e
    ∙ ap (λ k. fits_array k (Some t)) (length_as (o ∷ rest)) ∙ fits-again (length (o ∷ rest)) t l in
    ap (λ x. x >>= λ r. (last_mark_at 93 r.1 >>= λ _. when (fits_array (length r.0) (element_of r.0)) (pure_text op.Array (operands_of r.0))))
    (operand_parts-again (o ∷ rest) ts (punct 93 ∷ []) (whole o rest ts vs (punct 93 ∷ []) t e s b) refl)
    ∙ ap (λ c. when c (pure_text op.Array (operands_of (operands_as (o ∷ rest))))) f
    ∙ ap (λ os. Some (pure_text op.Array os)) (operands_as-of (o ∷ rest))

pub bracket_at-repeat : (n : ℕ) (o : OperandText) (ts : List Lexeme) (t : TypeTree) (w : List ℕ) (us : List Lexeme) → ts ≡ word w ∷ word (codes "x") ∷ us → number_of w ≡ Some n → o.ty ≡ Some t
    → SpellsType t us (local o.value ∷ punct 93 ∷ []) → IsLimited (array_type n t) → bracket_at ts ≡ Some (pure_text (op.Repeat n) (o ∷ []))
unfolding bracket_at
bracket_at-repeat n o ts t w us e m y s l = ap (λ x. or_else x (array_at ts)) (repeat_at-again n o ts t w us e m y s l)

pub bracket_at-array : (o : OperandText) (rest : List OperandText) (ts vs : List Lexeme) (t : TypeTree) → o.ty ≡ Some t → SpellsType t ts (local o.value ∷ vs)
    → SpellsBehind SpellsBare rest vs (punct 93 ∷ [])
    → IsLimited (array_type (length (o ∷ rest)) t) → bracket_at ts ≡ Some (pure_text op.Array (o ∷ rest))
unfolding bracket_at repeat_at
bracket_at-array o rest ts vs t e s b l =
    let h : repeat_at ts ≡ None = ap (λ x. x >>= λ k. (word_at (codes "x") k.1 >>= λ vs. (typed_at vs >>= λ a. (last_mark_at 93 a.1 >>= λ _. repeated_of k.0 a.0))))
    (number_at-type t ts (local o.value ∷ vs) s.0) in
    ap (λ x. or_else x (array_at ts)) h ∙ array_at-again o rest ts vs t e s b l

-- `D1 %a, D2 %b}`
written-some : (ty : Option TypeTree) (t : TypeTree) (ts : List TypeTree) → ty ≡ Some t → (elim ty [ None ↦ ts | Some u ↦ u ∷ ts ]) ≡ t ∷ ts
written-some ty t ts e = ap (λ x. elim x [ None ↦ ts | Some u ↦ u ∷ ts ]) e

-- what fields are found to be
pub record AreFields (os : List Operand) (fs : List TypeTree) (ts us : List Lexeme) : Type 0 where
  pub spelled : SpellsParts SpellsWithType (operands_of os) ts us
  pub written : written_types (operands_of os) ≡ fs
  pub data_types : all_data (row_of fs) ≡ true → AreData (row_of fs)

field_type : (o : Operand) (t : TypeTree) (ts us : List Lexeme) → o.ty ≡ Some t → SpellsOperand (operand_of o) ts us → SpellsType t ts (local o.value ∷ us)
field_type o t ts us e s = subst (λ ty. SpellsTyped ty o.value ts us) e s

fields-sound : (os : List Operand) (fs : List TypeTree) (ts us : List Lexeme) → fields_of os ≡ Some fs → SpellsParts SpellsOperand (operands_of os) ts us → AreFields os fs ts us
fields-sound [] fs ts us p s = absurd s
fields-sound (o ∷ []) fs ts us p s =
    let a = bind_some o.ty _ fs p in
    let f = field_type o a.0 ts us a.1 s in
    subst (λ l. AreFields (o ∷ []) l ts us) (same_Some (a.0 ∷ []) fs a.2)
    (record { spelled = (a.0, a.1, f); written = written-some o.ty a.0 [] a.1; data_types = λ h. (limited_data a.0 (and_parts (is_data a.0) true h).0 f.1, tt) })
fields-sound (o ∷ x ∷ os) fs ts us p s =
    let a = bind_some o.ty _ fs p in
    let b = bind_some (fields_of (x ∷ os)) _ fs a.2 in
    let f = field_type o a.0 ts (punct 44 ∷ s.0) a.1 s.1 in
    let r = fields-sound (x ∷ os) b.0 s.0 us b.1 s.2 in
    subst (λ l. AreFields (o ∷ x ∷ os) l ts us) (same_Some (a.0 ∷ b.0) fs b.2)
    (record {
      spelled = (s.0, (a.0, a.1, f), r.spelled);
      written = written-some o.ty a.0 (written_types (operands_of (x ∷ os))) a.1 ∙ ap (λ l. a.0 ∷ l) r.written;
      data_types = λ h. let d = and_parts (is_data a.0) (all_data (row_of b.0)) h in (limited_data a.0 d.0 f.1, r.data_types d.1);
    })

tuple_data : (r : TypeRow) → tuple_fault r ≡ None → all_data r ≡ true
tuple_data r e = (four_none (is_empty_row r) (all_data r) (nat_lt 16 (depth_of_row r + 1)) (nat_lt 65536 (bit_count_row r)) _ _ _ _ e).1

struct-sound : (os : List Operand) (o : Option (List TypeTree)) (ts : List Lexeme) (i : InstText) → fields_of os ≡ o → SpellsParts SpellsOperand (operands_of os) ts (punct 125 ∷ [])
    → when (fits_tuple o) (pure_text op.Tuple (operands_of os)) ≡ Some i
    → SpellsInst i (punct 123 ∷ ts)
struct-sound os None ts i e s p = cc
struct-sound os (Some fs) ts i e s p =
    let g = when-inv (fits_tuple (Some fs)) (pure_text op.Tuple (operands_of os)) i p in
    let n = none_inv (tuple_fault (row_of fs)) g.0 in
    let f = fields-sound os fs ts (punct 125 ∷ []) e s in
    let l = subst (λ l. IsLimited (tuple_type (row_of l))) (sym f.written) (tuple-sound (row_of fs) (f.data_types (tuple_data (row_of fs) n)) n) in
    let q : SpellsInst (pure_text op.Tuple (operands_of os)) (punct 123 ∷ ts) = (ts, refl, f.spelled, l) in
    subst (λ x. SpellsInst x (punct 123 ∷ ts)) g.1 q

pub tuple_at-sound : (ts : List Lexeme) (i : InstText) → tuple_at ts ≡ Some i → SpellsInst i (punct 123 ∷ ts)
unfolding tuple_at
tuple_at-sound ts i p =
    let a = bind_some (parts_at free_at (length ts) ts) _ i p in
    let b = bind_some (last_mark_at 125 a.0.1) _ i a.2 in
    let s = subst (SpellsParts SpellsOperand (operands_of a.0.0) ts) (last_mark-sound 125 a.0.1 b.0 b.1) (operand_parts-sound (length ts) ts a.0 a.1) in
    struct-sound a.0.0 (fields_of a.0.0) ts i refl s b.2

typed_parts : (os : List OperandText) (ts us : List Lexeme) → SpellsParts SpellsWithType os ts us → SpellsParts SpellsOperand os ts us
typed_parts [] ts us s = absurd s
typed_parts (x ∷ []) ts us s = typed_free x ts us s
typed_parts (x ∷ y ∷ os) ts us s = (s.0, typed_free x ts (punct 44 ∷ s.0) s.1, typed_parts (y ∷ os) s.0 us s.2)

fields-again : (os : List OperandText) (ts us : List Lexeme) → SpellsParts SpellsWithType os ts us → fields_of (operands_as os) ≡ Some (written_types os)
fields-again [] ts us s = absurd s
fields-again (x ∷ []) ts us s =
    ap (λ ty. ty >>= λ t. Some (t ∷ [])) s.1 ∙ ap Some (sym (written-some x.ty s.0 [] s.1))
fields-again (x ∷ y ∷ os) ts us s =
    ap (λ ty. ty >>= λ t. (fields_of (operands_as (y ∷ os)) >>= λ l. Some (t ∷ l))) s.1.1
    ∙ ap (λ o. o >>= λ l. Some (s.1.0 ∷ l)) (fields-again (y ∷ os) s.0 us s.2)
    ∙ ap Some (sym (written-some x.ty s.1.0 (written_types (y ∷ os)) s.1.1))

pub tuple_at-again : (os : List OperandText) (ts : List Lexeme) → SpellsParts SpellsWithType os ts (punct 125 ∷ []) → IsLimited (tuple_type (row_of (written_types os)))
    → tuple_at ts ≡ Some (pure_text op.Tuple os)
unfolding tuple_at last_mark_at
tuple_at-again os ts s l =
    ap (λ x. x >>= λ r. (last_mark_at 125 r.1 >>= λ _. when (fits_tuple (fields_of r.0)) (pure_text op.Tuple (operands_of r.0))))
    (operand_parts-again os ts (punct 125 ∷ []) (typed_parts os ts (punct 125 ∷ []) s) refl)
    ∙ ap (λ f. when (fits_tuple f) (pure_text op.Tuple (operands_of (operands_as os)))) (fields-again os ts (punct 125 ∷ []) s)
    ∙ ap (λ f. when (is_none f) (pure_text op.Tuple (operands_of (operands_as os)))) (tuple-again (row_of (written_types os)) l)
    ∙ ap (λ l. Some (pure_text op.Tuple l)) (operands_as-of os)
