-- Each result of a line has a type: in a unit of a well-formed module by its row and its spelling, and so in copies of it.
use Rattle.std.proofs.Common.{◌≡◌, ◌≤◌, ℕ, zero, suc, ◌+◌, List, [], ◌∷◌, ◌++◌, length, map, false, Option, Some, None, IsSome, option_map, refl, ap, sym, ◌∙◌, subst, arith, le-ltb}
use Rattle.std.specs.List.{flat_map}
use Rattle.std.proofs.lemmas.Option.{same_Some, none-some}
use Rattle.std.proofs.lemmas.Bool.{false≢true}
use Rattle.lh_types.specs.Types.{TypeTree, TypeRow, int_type, array_type, tuple_type, no_types, more_types, row_of, bit_count_row, IsData}
use Rattle.lh_types.specs.Faults.{is_empty_row, int_fault}
use Rattle.lh_types.specs.Values.{Datum, int_value, time_value}
use Rattle.lh_types.specs.declared.op.Op.{Op}
use Rattle.lh_types.proofs.TypeFaults.{array-again, tuple-again, above_zero}
use Rattle.lh_types.specs.declared.op.Op.TheVariants as op
use Rattle.lh_unit.specs.Contents.{OperandText, InstText, const_text, pure_text, var_text, ld_text, sig_text, prb_text, call_text, phi_text, LineText, BlockText, UnitText}
use Rattle.lh_unit_names.specs.declared.name.UnitName.{UnitName}
use Rattle.lh_unit.specs.Named.{function_named, label_or}
use Rattle.lh_unit.specs.Lexemes.{Lexeme}
use Rattle.lh_unit.specs.Pieces.{lexemes_in}
use Rattle.lh_unit.specs.Spells.{inst_item}
use Rattle.lh_unit.specs.SpellsInst.{written_types, SpellsPure, SpellsInst, SpellsLine}
use Rattle.lh_unit.specs.Typing.{if_made, with_type, operand_types, operation_type, result_type}
use Rattle.lh_unit.specs.Within.{Each}
use Rattle.lh_unit.specs.Hierarchy.{lines_of}
use Rattle.lh_unit.proofs.Lists.{Each-append, Each-left, Each-right}
use Rattle.lh_verify_laws.specs.Operands.{RowIs}
use Rattle.lh_verify_laws.specs.Results.{OperationGives}
use Rattle.lh_verify_laws.proofs.ResultsLaw.{gives}
use Rattle.lh_text_laws.specs.ItemLines.{item_line}
use Rattle.lh_text_laws.specs.Printable.{HasInstLine}
use Rattle.lh_flat.specs.Copies.{Copy, call_path, opened, copied, copied_line}
use Rattle.lh_flat.specs.Flat.{MergeText, FlatBlockText, Pieces, merge_of, with_line, pieces_from, with_merge, flat_block, flat_copy, as_block}
use Rattle.lh_flat_laws.proofs.SoundCopies.{IsCode, result-copied}
use Rattle.lh_flat_laws.proofs.BlocksFound.{opens-is, Opens}
use Rattle.lh_eval_laws.proofs.OperandsFound.{is-some}

-- ---- types within their limits

int-made : (n : ℕ) → IsData (int_type n) → int_fault n ≡ None
int-made n h = let a = above_zero n h.0 in let b = le-ltb 128 n h.1 in rw (a, b) refl

filled : (r : TypeRow) → 1 ≤ bit_count_row r → is_empty_row r ≡ false
filled no_types h = absurd (omega (arith, h))
filled (more_types t r) h = refl

-- the types before operands, where each has one
types-written : (args : List OperandText) (r : TypeRow) → operand_types args ≡ Some r → row_of (written_types args) ≡ r
types-written [] r e = same_Some no_types r e
types-written (o ∷ args) r e = by o.ty (operand_types args) refl e (types-written args)
  where
    by : (t : Option TypeTree) (ts : Option TypeRow) → operand_types args ≡ ts → with_type t ts ≡ Some r → ((r : TypeRow) → operand_types args ≡ Some r → row_of (written_types args) ≡ r)
        → row_of (elim t [ None ↦ written_types args | Some t ↦ t ∷ written_types args ]) ≡ r
    by None ts q p go = absurd (none-some r p)
    by (Some t) None q p go = absurd (none-some r p)
    by (Some t) (Some s) q p go = ap (more_types t) (go s q) ∙ same_Some (more_types t s) r p

-- ---- the result of a line of a unit

constant-typed : (d : Datum) (ts : List Lexeme) → SpellsInst (const_text d) ts → IsSome (result_type (const_text d))
constant-typed (int_value n bits) ts h = is-some (if_made (int_fault n) (int_type n)) (int_type n) (ap (λ f. if_made f (int_type n)) (int-made n h.3.1))
constant-typed (time_value d) ts h = refl
constant-typed _ ts h = absurd h

array-typed : (args : List OperandText) (ts : List Lexeme) → SpellsPure op.Array args ts → OperationGives op.Array args → IsSome (operation_type op.Array args)
array-typed [] ts h g = absurd h
array-typed (o ∷ rest) ts h g =
    let same : h.0 ≡ g.0 = same_Some h.0 g.0 (sym h.4 ∙ g.1) in
    is-some (operation_type op.Array (o ∷ rest)) (array_type (length (o ∷ rest)) g.0) (g.2 (array-again (length (o ∷ rest)) g.0 (subst (λ t. IsData (array_type (length (o ∷ rest)) t)) same h.7)))

repeat-typed : (n : ℕ) (args : List OperandText) (ts : List Lexeme) → SpellsPure (op.Repeat n) args ts → OperationGives (op.Repeat n) args → IsSome (operation_type (op.Repeat n) args)
repeat-typed n [] ts h g = absurd h
repeat-typed n (o ∷ p ∷ rest) ts h g = absurd h
repeat-typed n (o ∷ []) ts h g =
    let same : h.0 ≡ g.0 = same_Some h.0 g.0 (sym h.5 ∙ g.1) in
    is-some (operation_type (op.Repeat n) (o ∷ [])) (array_type n g.0) (g.2 (array-again n g.0 (subst (λ t. IsData (array_type n t)) same h.7)))

operation-typed : (o : Op) (args : List OperandText) (ts : List Lexeme) → SpellsPure o args ts → OperationGives o args → IsSome (operation_type o args)
operation-typed op.Eq args ts h g = refl
operation-typed op.Neq args ts h g = refl
operation-typed op.Slt args ts h g = refl
operation-typed op.Sgt args ts h g = refl
operation-typed op.Sle args ts h g = refl
operation-typed op.Sge args ts h g = refl
operation-typed op.Ult args ts h g = refl
operation-typed op.Ugt args ts h g = refl
operation-typed op.Ule args ts h g = refl
operation-typed op.Uge args ts h g = refl
operation-typed op.Array args ts h g = array-typed args ts h g
operation-typed (op.Repeat n) args ts h g = repeat-typed n args ts h g
operation-typed op.Tuple args ts h g =
    is-some (operation_type op.Tuple args) (tuple_type g.0) (g.2 (tuple-again g.0 (subst (λ (r : TypeRow). IsData (tuple_type r)) (types-written args g.0 g.1) h.3)))
operation-typed o args ts h g = is-some (operation_type o args) g.0 g.2

inst-typed : (v : UnitText) (n : List ℕ) (i : InstText) (ts : List Lexeme) → SpellsLine (Some n) i ts → RowIs v i → IsSome (result_type i)
inst-typed v n (const_text d) ts h r = constant-typed d h.0 h.3
inst-typed v n (pure_text o args) ts h r = operation-typed o args h.0 h.3 (gives v (pure_text o args) r)
inst-typed v n (var_text a) ts h r = let g = gives v (var_text a) r in is-some (result_type (var_text a)) _ g.2
inst-typed v n (ld_text p) ts h r = let g = gives v (ld_text p) r in is-some (result_type (ld_text p)) _ g.2
inst-typed v n (sig_text a) ts h r = let g = gives v (sig_text a) r in is-some (result_type (sig_text a)) _ g.2
inst-typed v n (prb_text s) ts h r = let g = gives v (prb_text s) r in is-some (result_type (prb_text s)) _ g.2
inst-typed v n (call_text f result args) ts h r = refl
inst-typed v n (phi_text ty edges) ts h r = refl
inst-typed v n _ ts h r = absurd (false≢true h.2)

-- what this line gives has a type
abbrev pub IsTyped : LineText → Type 0
IsTyped l = (n : List ℕ) → l.result ≡ Some n → IsSome (result_type l.inst)

-- so is a line that is spelled and has its row
pub line-typed : (v : UnitText) (l : LineText) → HasInstLine l → RowIs v l.inst → IsTyped l
line-typed v l h r n e = inst-typed v n l.inst (lexemes_in (item_line (inst_item l))) (subst (λ o. SpellsLine o l.inst (lexemes_in (item_line (inst_item l)))) e h.1) r

-- ---- in copies

-- a line of a function or process whose result has a type
abbrev pub IsTypedCode : LineText → Type 0
IsTypedCode l = IsCode l.inst × IsTyped l

abbrev AllTyped : List FlatBlockText → Type 0
AllTyped bs = Each IsTyped (lines_of (map as_block bs))

typed-append : (xs ys : List FlatBlockText) → AllTyped xs → AllTyped ys → AllTyped (xs ++ ys)
typed-append [] ys h k = k
typed-append (b ∷ xs) ys h k =
    Each-append IsTyped (with_merge b.merge b.lines) (lines_of (map as_block (xs ++ ys))) (Each-left IsTyped (with_merge b.merge b.lines) (lines_of (map as_block xs)) h)
    (typed-append xs ys (Each-right IsTyped (with_merge b.merge b.lines) (lines_of (map as_block xs)) h) k)

merge-typed : (m : Option MergeText) (ls : List LineText) → Each IsTyped ls → Each IsTyped (with_merge m ls)
merge-typed None ls h = h
merge-typed (Some m) ls h = ((λ n e. refl), h)

module _ (fs : List UnitText) (c : Copy) (copy_of : Copy → List FlatBlockText) (copies : (path : List ℕ) (i : InstText) (d : Copy) → opened fs c path i ≡ Some d → AllTyped (copy_of d)) where
  copied-typed : (l : LineText) → IsTypedCode l → IsTyped (copied_line fs c l)
  copied-typed l h n e = by l.result refl e
    where
      by : (r : Option (List ℕ)) → l.result ≡ r → option_map c.value r ≡ Some n → IsSome (result_type (copied fs c l.inst))
      by None q p = absurd (none-some n p)
      by (Some m) q p = subst (λ (t : Option TypeTree). IsSome t) (sym (result-copied c fs l.inst h.0)) (h.1 m q)

  abbrev PiecesTyped : Pieces → Type 0
  PiecesTyped p = Each IsTyped p.rest × AllTyped p.more

  with-line-typed : (path : List ℕ) (l : LineText) (p : Pieces) → IsTypedCode l → PiecesTyped p → PiecesTyped (with_line copy_of fs c l (opened fs c path l.inst) p)
  with-line-typed path l p h q = by (opened fs c path l.inst) refl
    where
      by : (x : Option Copy) → opened fs c path l.inst ≡ x → PiecesTyped (with_line copy_of fs c l x p)
      by None e = ((copied-typed l h, q.0), q.1)
      by (Some d) e =
          let D : FlatBlockText = record { label = d.path; merge = merge_of fs c d l.inst l.result; lines = p.rest } in (
            ((λ n r. absurd (none-some n r)), tt),
            typed-append (copy_of d) (D ∷ p.more) (copies path l.inst d e) (Each-append IsTyped (with_merge D.merge p.rest) (lines_of (map as_block p.more)) (merge-typed D.merge p.rest q.0) q.1),
          )

  pieces-typed : (label : List ℕ) (k : ℕ) (ls : List LineText) → Each IsTypedCode ls → PiecesTyped (pieces_from copy_of fs c label k ls)
  pieces-typed label k [] h = (tt, tt)
  pieces-typed label k (l ∷ ls) h = with-line-typed (call_path c label k) l (pieces_from copy_of fs c label (k + 1) ls) h.0 (pieces-typed label (k + 1) ls h.1)

  block-typed : (b : BlockText) → Each IsTypedCode b.lines → AllTyped (flat_block copy_of fs c b)
  block-typed b h = let p = pieces-typed (label_or b.label) 0 b.lines h in
      Each-append IsTyped (pieces_from copy_of fs c (label_or b.label) 0 b.lines).rest (lines_of (map as_block (pieces_from copy_of fs c (label_or b.label) 0 b.lines).more)) p.0 p.1

  blocks-typed : (bs : List BlockText) → Each IsTypedCode (lines_of bs) → AllTyped (flat_map (flat_block copy_of fs c) bs)
  blocks-typed [] h = tt
  blocks-typed (b ∷ bs) h =
      typed-append (flat_block copy_of fs c b) (flat_map (flat_block copy_of fs c) bs) (block-typed b (Each-left IsTypedCode b.lines (lines_of bs) h))
      (blocks-typed bs (Each-right IsTypedCode b.lines (lines_of bs) h))

-- each line of a flat text is typed, where those of its units are
pub copies-typed : (fs : List UnitText) → ((n : UnitName) (f : UnitText) → function_named n fs ≡ Some f → Each IsTypedCode (lines_of f.blocks)) → (k : ℕ) (c : Copy)
    → Each IsTypedCode (lines_of c.unit.blocks) → Each IsTyped (lines_of (map as_block (flat_copy k fs c)))
copies-typed fs functions zero c h = tt
copies-typed fs functions (suc k) c h =
    blocks-typed fs c (flat_copy k fs) (λ path i d e. let o : Opens fs c path i d = opens-is fs c path i d e in copies-typed fs functions k d (functions o.callee d.unit o.named)) c.unit.blocks h
