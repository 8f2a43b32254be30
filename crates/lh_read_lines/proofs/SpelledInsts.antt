-- The instructions: what is found is spelled so.
use Rattle.std.proofs.Common.{◌≡◌, ℕ, Bool, true, false, List, [], ◌∷◌, length, map, Option, Some, None, nat_eq, refl, ap, sym, ◌∙◌, subst, arith, inl, inr}
use Rattle.std.specs.Prelude.{codes, if◌then◌else◌}
use Rattle.std.proofs.lemmas.Grind.{common_steps}
use Rattle.std.proofs.lemmas.Option.{same_Some}
use Rattle.lh_types.specs.Types.{TypeTree, int_type, time_type}
use Rattle.lh_types.specs.Values.{Datum, int_value, time_value}
use Rattle.lh_unit.specs.Contents.{InstText, const_text, var_text, ld_text, st_text, sig_text, prb_text, drv_text, reg_text, child_text, call_text, phi_text, br_text, branch_text, wait_text, halt_text, ret_text}
use Rattle.lh_unit.specs.Lexemes.{Lexeme, word, local, arrow, punct}
use Rattle.lh_unit.specs.SpellsTypes.{SpellsType}
use Rattle.lh_unit.specs.SpellsParts.{SpellsOperand, SpellsWithType, SpellsMaybe, SpellsParts, SpellsList, SpellsBehind, SpellsLocal, SpellsTrigger, SpellsEdge}
use Rattle.lh_unit.specs.SpellsInst.{SpellsDelay, SpellsInst}
use Rattle.lh_read_pieces.specs.Pieces.{word_at, local_at, unit_name_at, punct_at, arrow_at, end_at, parts_at, list_at, behind_at}
use Rattle.lh_read_pieces.specs.Numbers.{integer_at}
use Rattle.lh_read_pieces.specs.Times.{time_at}
use Rattle.lh_read_pieces.specs.Types.{type_at}
use Rattle.lh_read_pieces.specs.Shorter.{bind_some}
use Rattle.lh_read_pieces.proofs.Pieces.{word_at-inv, local_at-inv, unit_name_at-sound, punct_at-inv, arrow_at-inv, end_at-inv}
use Rattle.lh_read_pieces.proofs.SpelledNumbers.{integer_at-sound}
use Rattle.lh_read_pieces.proofs.SpelledTimes.{time_at-sound}
use Rattle.lh_read_pieces.proofs.SpelledTypes.{type_at-sound}
use Rattle.lh_read_pieces.proofs.SpelledLists.{parts_at-sound, behind_at-sound}
use Rattle.lh_read_phrases.specs.SyntaxOf.{operand_of, operands_of, trigger_of, edge_of}
use Rattle.lh_read_phrases.specs.Words.{form_of}
use Rattle.lh_read_phrases.specs.Operands.{typed_at, free_at, maybe_at, trigger_at, edge_at}
use Rattle.lh_read_phrases.specs.Operations.{bracket_at, tuple_at}
use Rattle.lh_read_lines.specs.Insts.{constant_at, const_at, last_typed_at, last_local_at, var_at, ld_at, sig_at, prb_at, target_at, st_at, after_at, if_after_at, delay_or, delay_at, drv_at, reg_at, operands_at, child_at, call_at, phi_at, branch_at, br_or, br_at, wait_at, halt_at, ret_or, ret_at, form_at, worded_at, marked_at, inst_at}
use Rattle.lh_read_phrases.specs.declared.syntax.Operand.{Operand}
use Rattle.lh_read_phrases.specs.declared.syntax.TriggerSyntax.{TriggerSyntax}
use Rattle.lh_read_phrases.specs.declared.syntax.EdgeSyntax.{EdgeSyntax}
use Rattle.lh_read_phrases.specs.declared.words.Form.{Form}
use Rattle.lh_read_phrases.specs.declared.words.Form.TheVariants as form
use Rattle.lh_read_phrases.proofs.SpelledWords.{form_of-sound, IsFormRow}
use Rattle.lh_read_phrases.proofs.SpelledOperands.{typed_at-sound, maybe_at-sound, trigger_at-sound, edge_at-sound}
use Rattle.lh_read_phrases.proofs.OperandLists.{operand_list-sound}
use Rattle.lh_read_phrases.proofs.SpelledEach.{parts_mapped}
use Rattle.lh_read_phrases.proofs.SpelledOperations.{word_op-sound}
use Rattle.lh_read_phrases.proofs.SpelledBrackets.{bracket_at-sound, tuple_at-sound}

-- constants
constant-sound : (t : TypeTree) (us ts : List Lexeme) (d : Datum) → SpellsType t us ts → constant_at t ts ≡ Some d → SpellsInst (const_text d) (word (codes "const") ∷ us)
constant-sound (int_type n) us ts d s p =
    let a = bind_some (integer_at n ts) _ d p in
    let q : SpellsInst (const_text (int_value n a.0)) (word (codes "const") ∷ us) = (us, ts, refl, s, integer_at-sound n ts a.0 a.1) in
    subst (λ x. SpellsInst (const_text x) (word (codes "const") ∷ us)) (same_Some (int_value n a.0) d a.2) q
constant-sound time_type us ts d s p =
    let a = bind_some (time_at ts) _ d p in
    let q : SpellsInst (const_text (time_value a.0)) (word (codes "const") ∷ us) = (ts, ap (λ l. word (codes "const") ∷ l) s.0, time_at-sound ts a.0 a.1) in
    subst (λ x. SpellsInst (const_text x) (word (codes "const") ∷ us)) (same_Some (time_value a.0) d a.2) q
constant-sound _ us ts d s p = cc

const_at-sound : (ts : List Lexeme) (i : InstText) → const_at ts ≡ Some i → SpellsInst i (word (codes "const") ∷ ts)
unfolding const_at
const_at-sound ts i p =
    let a = bind_some (type_at ts) _ i p in
    let b = bind_some (constant_at a.0.0 a.0.1) _ i a.2 in
    subst (λ x. SpellsInst x (word (codes "const") ∷ ts)) (same_Some (const_text b.0) i b.2) (constant-sound a.0.0 ts a.0.1 b.0 (type_at-sound ts a.0 a.1) b.1)

-- one operand
last_typed-sound : (ts : List Lexeme) (o : Operand) → last_typed_at ts ≡ Some o → SpellsWithType (operand_of o) ts []
unfolding last_typed_at
last_typed-sound ts o p =
    let a = bind_some (typed_at ts) _ o p in
    let b = bind_some (end_at a.0.1) _ o a.2 in
    let s = subst (SpellsWithType (operand_of a.0.0) ts) (end_at-inv a.0.1 b.0 b.1) (typed_at-sound ts a.0 a.1) in
    subst (λ x. SpellsWithType (operand_of x) ts []) (same_Some a.0.0 o b.2) s

last_local-inv : (ts : List Lexeme) (n : List ℕ) → last_local_at ts ≡ Some n → ts ≡ local n ∷ []
unfolding last_local_at
last_local-inv ts n p =
    let a = bind_some (local_at ts) _ n p in
    let b = bind_some (end_at a.0.1) _ n a.2 in
    local_at-inv ts a.0 a.1 ∙ (λ j. local (same_Some a.0.0 n b.2 j) ∷ end_at-inv a.0.1 b.0 b.1 j)

var_at-sound : (ts : List Lexeme) (i : InstText) → var_at ts ≡ Some i → SpellsInst i (word (codes "var") ∷ ts)
unfolding var_at
var_at-sound ts i p =
    let a = bind_some (last_typed_at ts) _ i p in
    subst (λ x. SpellsInst x (word (codes "var") ∷ ts)) (same_Some (var_text (operand_of a.0)) i a.2) (ts, refl, last_typed-sound ts a.0 a.1)

ld_at-sound : (ts : List Lexeme) (i : InstText) → ld_at ts ≡ Some i → SpellsInst i (word (codes "ld") ∷ ts)
unfolding ld_at
ld_at-sound ts i p =
    let a = bind_some (last_typed_at ts) _ i p in
    subst (λ x. SpellsInst x (word (codes "ld") ∷ ts)) (same_Some (ld_text (operand_of a.0)) i a.2) (ts, refl, last_typed-sound ts a.0 a.1)

sig_at-sound : (ts : List Lexeme) (i : InstText) → sig_at ts ≡ Some i → SpellsInst i (word (codes "sig") ∷ ts)
unfolding sig_at
sig_at-sound ts i p =
    let a = bind_some (last_typed_at ts) _ i p in
    subst (λ x. SpellsInst x (word (codes "sig") ∷ ts)) (same_Some (sig_text (operand_of a.0)) i a.2) (ts, refl, last_typed-sound ts a.0 a.1)

prb_at-sound : (ts : List Lexeme) (i : InstText) → prb_at ts ≡ Some i → SpellsInst i (word (codes "prb") ∷ ts)
unfolding prb_at
prb_at-sound ts i p =
    let a = bind_some (last_typed_at ts) _ i p in
    subst (λ x. SpellsInst x (word (codes "prb") ∷ ts)) (same_Some (prb_text (operand_of a.0)) i a.2) (ts, refl, last_typed-sound ts a.0 a.1)

-- an operand and a comma
target-sound : (ts : List Lexeme) (r : Operand × List Lexeme) → target_at ts ≡ Some r → SpellsWithType (operand_of r.0) ts (punct 44 ∷ r.1)
unfolding target_at
target-sound ts r p =
    let a = bind_some (typed_at ts) _ r p in
    let b = bind_some (punct_at 44 a.0.1) _ r a.2 in
    let s = subst (SpellsWithType (operand_of a.0.0) ts) (punct_at-inv 44 a.0.1 b.0 b.1) (typed_at-sound ts a.0 a.1) in
    subst (λ (x : Operand × List Lexeme). SpellsWithType (operand_of x.0) ts (punct 44 ∷ x.1)) (same_Some (a.0.0, b.0) r b.2) s

st_at-sound : (ts : List Lexeme) (i : InstText) → st_at ts ≡ Some i → SpellsInst i (word (codes "st") ∷ ts)
unfolding st_at
st_at-sound ts i p =
    let a = bind_some (target_at ts) _ i p in
    let b = bind_some (last_local_at a.0.1) _ i a.2 in
    let s = subst (λ l. SpellsWithType (operand_of a.0.0) ts (punct 44 ∷ l)) (last_local-inv a.0.1 b.0 b.1) (target-sound ts a.0 a.1) in
    subst (λ x. SpellsInst x (word (codes "st") ∷ ts)) (same_Some (st_text (operand_of a.0.0) b.0) i b.2) (ts, refl, s)

-- drives
after_at-sound : (ts : List Lexeme) (r : List ℕ × Option (List ℕ)) → after_at ts ≡ Some r → (us : List Lexeme) × (ts ≡ local r.0 ∷ us) × SpellsMaybe (codes "if") r.1 us []
unfolding after_at
after_at-sound ts r p =
    let a = bind_some (local_at ts) _ r p in
    let b = bind_some (maybe_at (codes "if") a.0.1) _ r a.2 in
    let c = bind_some (end_at b.0.1) _ r b.2 in
    let m = subst (SpellsMaybe (codes "if") b.0.0 a.0.1) (end_at-inv b.0.1 c.0 c.1) (maybe_at-sound (codes "if") a.0.1 b.0 b.1) in
    let Q : List ℕ × Option (List ℕ) → Type 0 = λ x. (us : List Lexeme) × (ts ≡ local x.0 ∷ us) × SpellsMaybe (codes "if") x.1 us [] in
    let q : Q (a.0.0, b.0.0) = (a.0.1, local_at-inv ts a.0 a.1, m) in
    subst Q (same_Some (a.0.0, b.0.0) r c.2) q

if_after-sound : (ts : List Lexeme) (r : List ℕ × Option (List ℕ)) → if_after_at ts ≡ Some r → (c : List ℕ) × (r.1 ≡ Some c)
    × (ts ≡ word (codes "if") ∷ local c ∷ word (codes "after") ∷ local r.0 ∷ [])
unfolding if_after_at
if_after-sound ts r p =
    let a = bind_some (word_at (codes "if") ts) _ r p in
    let b = bind_some (local_at a.0) _ r a.2 in
    let c = bind_some (word_at (codes "after") b.0.1) _ r b.2 in
    let d = bind_some (last_local_at c.0) _ r c.2 in
    let e = word_at-inv (codes "if") ts a.0 a.1
    ∙ ap (λ l. word (codes "if") ∷ l) (local_at-inv a.0 b.0 b.1
    ∙ ap (λ l. local b.0.0 ∷ l) (word_at-inv (codes "after") b.0.1 c.0 c.1 ∙ ap (λ l. word (codes "after") ∷ l) (last_local-inv c.0 d.0 d.1))) in
    let Q : List ℕ × Option (List ℕ) → Type 0 = λ x. (k : List ℕ) × (x.1 ≡ Some k) × (ts ≡ word (codes "if") ∷ local k ∷ word (codes "after") ∷ local x.0 ∷ []) in
    let q : Q (d.0, Some b.0.0) = (b.0.0, refl, e) in
    subst Q (same_Some (d.0, Some b.0.0) r d.2) q

delay_at-sound : (ts : List Lexeme) (r : List ℕ × Option (List ℕ)) → delay_at ts ≡ Some r → SpellsDelay r.0 r.1 ts
unfolding delay_at
delay_at-sound ts r p = by (word_at (codes "after") ts) (punct_at 44 ts) refl refl p
  where
    by : (o v : Option (List Lexeme)) → word_at (codes "after") ts ≡ o → punct_at 44 ts ≡ v → delay_or ts o v ≡ Some r → SpellsDelay r.0 r.1 ts
    by (Some us) v e f q = let a = after_at-sound us r q in inl (a.0, word_at-inv (codes "after") ts us e ∙ ap (λ l. word (codes "after") ∷ l) a.1, a.2)
    by None (Some us) e f q = let a = after_at-sound us r q in inr (inl (a.0, punct_at-inv 44 ts us f ∙ ap (λ l. punct 44 ∷ l) a.1, a.2))
    by None None e f q = inr (inr (if_after-sound ts r q))

drv_at-sound : (ts : List Lexeme) (i : InstText) → drv_at ts ≡ Some i → SpellsInst i (word (codes "drv") ∷ ts)
unfolding drv_at
drv_at-sound ts i p =
    let a = bind_some (target_at ts) _ i p in
    let b = bind_some (local_at a.0.1) _ i a.2 in
    let c = bind_some (delay_at b.0.1) _ i b.2 in
    let s = subst (λ l. SpellsWithType (operand_of a.0.0) ts (punct 44 ∷ l)) (local_at-inv a.0.1 b.0 b.1) (target-sound ts a.0 a.1) in
    let q : SpellsInst (drv_text (operand_of a.0.0) b.0.0 c.0.0 c.0.1) (word (codes "drv") ∷ ts) = (b.0.1, (ts, refl, s), delay_at-sound b.0.1 c.0 c.1) in
    subst (λ x. SpellsInst x (word (codes "drv") ∷ ts)) (same_Some (drv_text (operand_of a.0.0) b.0.0 c.0.0 c.0.1) i c.2) q

-- registers

triggers-sound : (k : ℕ) (ts : List Lexeme) (r : List TriggerSyntax × List Lexeme) → parts_at trigger_at k ts ≡ Some r → SpellsParts SpellsTrigger (map trigger_of r.0) ts r.1
triggers-sound k ts r p = parts_mapped trigger_of SpellsTrigger r.0 ts r.1 (parts_at-sound trigger_at (λ g us vs. SpellsTrigger (trigger_of g) us vs) trigger_at-sound k ts r p)

reg_at-sound : (ts : List Lexeme) (i : InstText) → reg_at ts ≡ Some i → SpellsInst i (word (codes "reg") ∷ ts)
unfolding reg_at
reg_at-sound ts i p =
    let a = bind_some (target_at ts) _ i p in
    let b = bind_some (parts_at trigger_at (length a.0.1) a.0.1) _ i a.2 in
    let c = bind_some (end_at b.0.1) _ i b.2 in
    let t = subst (SpellsParts SpellsTrigger (map trigger_of b.0.0) a.0.1) (end_at-inv b.0.1 c.0 c.1) (triggers-sound (length a.0.1) a.0.1 b.0 b.1) in
    let q : SpellsInst (reg_text (operand_of a.0.0) (map trigger_of b.0.0)) (word (codes "reg") ∷ ts) = (a.0.1, (ts, refl, target-sound ts a.0 a.1), t) in
    subst (λ x. SpellsInst x (word (codes "reg") ∷ ts)) (same_Some (reg_text (operand_of a.0.0) (map trigger_of b.0.0)) i c.2) q

-- calls and instances
operands_at-sound : (ts : List Lexeme) (r : List Operand × List Lexeme) → operands_at ts ≡ Some r → (us : List Lexeme) × (ts ≡ punct 40 ∷ us)
    × SpellsList SpellsOperand (operands_of r.0) us (punct 41 ∷ r.1)
unfolding operands_at
operands_at-sound ts r p =
    let a = bind_some (punct_at 40 ts) _ r p in
    let b = bind_some (list_at free_at 41 a.0) _ r a.2 in
    let c = bind_some (punct_at 41 b.0.1) _ r b.2 in
    let s = subst (SpellsList SpellsOperand (operands_of b.0.0) a.0) (punct_at-inv 41 b.0.1 c.0 c.1) (operand_list-sound a.0 b.0 b.1) in
    let Q : List Operand × List Lexeme → Type 0 = λ x. (us : List Lexeme) × (ts ≡ punct 40 ∷ us) × SpellsList SpellsOperand (operands_of x.0) us (punct 41 ∷ x.1) in
    let q : Q (b.0.0, c.0) = (a.0, punct_at-inv 40 ts a.0 a.1, s) in
    subst Q (same_Some (b.0.0, c.0) r c.2) q

child_at-sound : (ts : List Lexeme) (i : InstText) → child_at ts ≡ Some i → SpellsInst i (word (codes "inst") ∷ ts)
unfolding child_at
child_at-sound ts i p =
    let u = bind_some (unit_name_at ts) _ i p in
    let a = bind_some (operands_at u.0.1) _ i u.2 in
    let b = bind_some (arrow_at a.0.1) _ i a.2 in
    let c = bind_some (operands_at b.0) _ i b.2 in
    let d = bind_some (end_at c.0.1) _ i c.2 in
    let n = unit_name_at-sound ts u.0 u.1 in
    let x = operands_at-sound u.0.1 a.0 a.1 in
    let y = operands_at-sound b.0 c.0 c.1 in
    let e = ap (λ l. word (codes "inst") ∷ l) (n.1 ∙ ap (λ l. n.0 ∷ l) x.1) in
    let s = subst (λ l. SpellsList SpellsOperand (operands_of a.0.0) x.0 (punct 41 ∷ l)) (arrow_at-inv a.0.1 b.0 b.1 ∙ ap (λ l. arrow ∷ l) y.1) x.2 in
    let t = subst (λ l. SpellsList SpellsOperand (operands_of c.0.0) y.0 (punct 41 ∷ l)) (end_at-inv c.0.1 d.0 d.1) y.2 in
    let q : SpellsInst (child_text u.0.0 (operands_of a.0.0) (operands_of c.0.0)) (word (codes "inst") ∷ ts) = (n.0, x.0, y.0, e, n.2, s, t) in
    subst (λ x. SpellsInst x (word (codes "inst") ∷ ts)) (same_Some (child_text u.0.0 (operands_of a.0.0) (operands_of c.0.0)) i d.2) q

call_at-sound : (ts : List Lexeme) (i : InstText) → call_at ts ≡ Some i → SpellsInst i (word (codes "call") ∷ ts)
unfolding call_at
call_at-sound ts i p =
    let t = bind_some (type_at ts) _ i p in
    let u = bind_some (unit_name_at t.0.1) _ i t.2 in
    let a = bind_some (operands_at u.0.1) _ i u.2 in
    let d = bind_some (end_at a.0.1) _ i a.2 in
    let n = unit_name_at-sound t.0.1 u.0 u.1 in
    let x = operands_at-sound u.0.1 a.0 a.1 in
    let s = subst (SpellsType t.0.0 ts) (n.1 ∙ ap (λ l. n.0 ∷ l) x.1) (type_at-sound ts t.0 t.1) in
    let l = subst (λ l. SpellsList SpellsOperand (operands_of a.0.0) x.0 (punct 41 ∷ l)) (end_at-inv a.0.1 d.0 d.1) x.2 in
    let q : SpellsInst (call_text u.0.0 t.0.0 (operands_of a.0.0)) (word (codes "call") ∷ ts) = (n.0, ts, x.0, refl, s, n.2, l) in
    subst (λ x. SpellsInst x (word (codes "call") ∷ ts)) (same_Some (call_text u.0.0 t.0.0 (operands_of a.0.0)) i d.2) q

-- control
edges-sound : (k : ℕ) (ts : List Lexeme) (r : List EdgeSyntax × List Lexeme) → parts_at edge_at k ts ≡ Some r → SpellsParts SpellsEdge (map edge_of r.0) ts r.1
edges-sound k ts r p = parts_mapped edge_of SpellsEdge r.0 ts r.1 (parts_at-sound edge_at (λ g us vs. SpellsEdge (edge_of g) us vs) edge_at-sound k ts r p)

phi_at-sound : (ts : List Lexeme) (i : InstText) → phi_at ts ≡ Some i → SpellsInst i (word (codes "phi") ∷ ts)
unfolding phi_at
phi_at-sound ts i p =
    let a = bind_some (type_at ts) _ i p in
    let b = bind_some (parts_at edge_at (length a.0.1) a.0.1) _ i a.2 in
    let c = bind_some (end_at b.0.1) _ i b.2 in
    let t = subst (SpellsParts SpellsEdge (map edge_of b.0.0) a.0.1) (end_at-inv b.0.1 c.0 c.1) (edges-sound (length a.0.1) a.0.1 b.0 b.1) in
    let q : SpellsInst (phi_text a.0.0 (map edge_of b.0.0)) (word (codes "phi") ∷ ts) = (ts, a.0.1, refl, type_at-sound ts a.0 a.1, t) in
    subst (λ x. SpellsInst x (word (codes "phi") ∷ ts)) (same_Some (phi_text a.0.0 (map edge_of b.0.0)) i c.2) q

branch_at-sound : (b : List ℕ) (us ts : List Lexeme) (i : InstText) → us ≡ local b ∷ ts → branch_at b ts ≡ Some i → SpellsInst i (word (codes "br") ∷ us)
unfolding branch_at
branch_at-sound b us ts i e p =
    let a = bind_some (punct_at 44 ts) _ i p in
    let f = bind_some (local_at a.0) _ i a.2 in
    let c = bind_some (punct_at 44 f.0.1) _ i f.2 in
    let d = bind_some (last_local_at c.0) _ i c.2 in
    let q : SpellsInst (branch_text b f.0.0 d.0) (word (codes "br") ∷ us) = ap (λ l. word (codes "br") ∷ l)
    (e ∙ ap (λ l. local b ∷ l) (punct_at-inv 44 ts a.0 a.1 ∙ ap (λ l. punct 44 ∷ l) (local_at-inv a.0 f.0 f.1
    ∙ ap (λ l. local f.0.0 ∷ l) (punct_at-inv 44 f.0.1 c.0 c.1 ∙ ap (λ l. punct 44 ∷ l) (last_local-inv c.0 d.0 d.1))))) in
    subst (λ x. SpellsInst x (word (codes "br") ∷ us)) (same_Some (branch_text b f.0.0 d.0) i d.2) q

br_at-sound : (ts : List Lexeme) (i : InstText) → br_at ts ≡ Some i → SpellsInst i (word (codes "br") ∷ ts)
unfolding br_at
br_at-sound ts i p = let a = bind_some (local_at ts) _ i p in by a.0.0 a.0.1 (local_at-inv ts a.0 a.1) (end_at a.0.1) refl a.2
  where
    by : (b : List ℕ) (us : List Lexeme) → ts ≡ local b ∷ us → (o : Option (Unit {0})) → end_at us ≡ o → br_or b us o ≡ Some i → SpellsInst i (word (codes "br") ∷ ts)
    by b us e (Some u) f q =
        let s : SpellsInst (br_text b) (word (codes "br") ∷ ts) = ap (λ l. word (codes "br") ∷ l) (e ∙ ap (λ l. local b ∷ l) (end_at-inv us u f)) in
        subst (λ x. SpellsInst x (word (codes "br") ∷ ts)) (same_Some (br_text b) i q) s
    by b us e None f q = branch_at-sound b ts us i e q

wait_at-sound : (ts : List Lexeme) (i : InstText) → wait_at ts ≡ Some i → SpellsInst i (word (codes "wait") ∷ ts)
unfolding wait_at
wait_at-sound ts i p =
    let a = bind_some (local_at ts) _ i p in
    let b = bind_some (maybe_at (codes "for") a.0.1) _ i a.2 in
    let c = bind_some (behind_at local_at b.0.1) _ i b.2 in
    let d = bind_some (end_at c.0.1) _ i c.2 in
    let s = behind_at-sound local_at SpellsLocal local_at-inv b.0.1 c.0 c.1 in
    let t = subst (λ l. SpellsBehind SpellsLocal c.0.0 b.0.1 l) (end_at-inv c.0.1 d.0 d.1) s in
    let e = ap (λ l. word (codes "wait") ∷ l) (local_at-inv ts a.0 a.1) in
    let q : SpellsInst (wait_text a.0.0 b.0.0 c.0.0) (word (codes "wait") ∷ ts) = (a.0.1, b.0.1, e, maybe_at-sound (codes "for") a.0.1 b.0 b.1, t) in
    subst (λ x. SpellsInst x (word (codes "wait") ∷ ts)) (same_Some (wait_text a.0.0 b.0.0 c.0.0) i d.2) q

halt_at-sound : (ts : List Lexeme) (i : InstText) → halt_at ts ≡ Some i → SpellsInst i (word (codes "halt") ∷ ts)
unfolding halt_at
halt_at-sound ts i p =
    let a = bind_some (end_at ts) _ i p in
    subst (λ x. SpellsInst x (word (codes "halt") ∷ ts)) (same_Some halt_text i a.2) (ap (λ l. word (codes "halt") ∷ l) (end_at-inv ts a.0 a.1))

ret_at-sound : (ts : List Lexeme) (i : InstText) → ret_at ts ≡ Some i → SpellsInst i (word (codes "ret") ∷ ts)
unfolding ret_at
ret_at-sound ts i p = by (end_at ts) refl p
  where
    by : (o : Option (Unit {0})) → end_at ts ≡ o → ret_or ts o ≡ Some i → SpellsInst i (word (codes "ret") ∷ ts)
    by (Some u) e q = subst (λ x. SpellsInst x (word (codes "ret") ∷ ts)) (same_Some (ret_text None) i q) (ap (λ l. word (codes "ret") ∷ l) (end_at-inv ts u e))
    by None e q =
        let a = bind_some (last_typed_at ts) _ i q in
        subst (λ x. SpellsInst x (word (codes "ret") ∷ ts)) (same_Some (ret_text (Some (operand_of a.0))) i a.2) (ts, refl, last_typed-sound ts a.0 a.1)

-- what a word begins
formed-sound : (f : Form) (w : List ℕ) (ts : List Lexeme) (i : InstText) → IsFormRow w f → form_at f ts ≡ Some i → SpellsInst i (word w ∷ ts)
formed-sound form.Const w ts i e p = subst (λ v. SpellsInst i (word v ∷ ts)) (sym e) (const_at-sound ts i p)
formed-sound (form.Op o c) w ts i e p = word_op-sound o c w ts i e p
formed-sound form.Var w ts i e p = subst (λ v. SpellsInst i (word v ∷ ts)) (sym e) (var_at-sound ts i p)
formed-sound form.Ld w ts i e p = subst (λ v. SpellsInst i (word v ∷ ts)) (sym e) (ld_at-sound ts i p)
formed-sound form.St w ts i e p = subst (λ v. SpellsInst i (word v ∷ ts)) (sym e) (st_at-sound ts i p)
formed-sound form.Sig w ts i e p = subst (λ v. SpellsInst i (word v ∷ ts)) (sym e) (sig_at-sound ts i p)
formed-sound form.Prb w ts i e p = subst (λ v. SpellsInst i (word v ∷ ts)) (sym e) (prb_at-sound ts i p)
formed-sound form.Drv w ts i e p = subst (λ v. SpellsInst i (word v ∷ ts)) (sym e) (drv_at-sound ts i p)
formed-sound form.Reg w ts i e p = subst (λ v. SpellsInst i (word v ∷ ts)) (sym e) (reg_at-sound ts i p)
formed-sound form.Child w ts i e p = subst (λ v. SpellsInst i (word v ∷ ts)) (sym e) (child_at-sound ts i p)
formed-sound form.Call w ts i e p = subst (λ v. SpellsInst i (word v ∷ ts)) (sym e) (call_at-sound ts i p)
formed-sound form.Phi w ts i e p = subst (λ v. SpellsInst i (word v ∷ ts)) (sym e) (phi_at-sound ts i p)
formed-sound form.Br w ts i e p = subst (λ v. SpellsInst i (word v ∷ ts)) (sym e) (br_at-sound ts i p)
formed-sound form.Wait w ts i e p = subst (λ v. SpellsInst i (word v ∷ ts)) (sym e) (wait_at-sound ts i p)
formed-sound form.Halt w ts i e p = subst (λ v. SpellsInst i (word v ∷ ts)) (sym e) (halt_at-sound ts i p)
formed-sound form.Ret w ts i e p = subst (λ v. SpellsInst i (word v ∷ ts)) (sym e) (ret_at-sound ts i p)

pub worded_at-sound : (w : List ℕ) (ts : List Lexeme) (i : InstText) → worded_at w ts ≡ Some i → SpellsInst i (word w ∷ ts)
unfolding worded_at
worded_at-sound w ts i p =
    let f = bind_some (form_of w) _ i p in
    formed-sound f.0 w ts i (form_of-sound w f.0 f.1) f.2

marked_at-sound : (b : ℕ) (ts : List Lexeme) (i : InstText) → marked_at b ts ≡ Some i → SpellsInst i (punct b ∷ ts)
unfolding marked_at
marked_at-sound b ts i p = by (nat_eq b 91) (nat_eq b 123) refl refl p
  where
    is : (x y : ℕ) → nat_eq x y ≡ true → x ≡ y
    is x y e = grind (arith, common_steps)

    by : (c d : Bool) → nat_eq b 91 ≡ c → nat_eq b 123 ≡ d → (if c then bracket_at ts else if d then tuple_at ts else None) ≡ Some i → SpellsInst i (punct b ∷ ts)
    by true d e f q = subst (λ x. SpellsInst i (punct x ∷ ts)) (sym (is b 91 e)) (bracket_at-sound ts i q)
    by false true e f q = subst (λ x. SpellsInst i (punct x ∷ ts)) (sym (is b 123 f)) (tuple_at-sound ts i q)
    by false false e f q = cc

pub inst_at-sound : (ts : List Lexeme) (i : InstText) → inst_at ts ≡ Some i → SpellsInst i ts
unfolding inst_at
inst_at-sound (word w ∷ ts) i p = worded_at-sound w ts i p
inst_at-sound (punct b ∷ ts) i p = marked_at-sound b ts i p
inst_at-sound _ i p = cc
