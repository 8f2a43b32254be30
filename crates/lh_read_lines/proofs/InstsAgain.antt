-- The instructions: what is spelled so is found.
use Rattle.std.proofs.Common.{◌≡◌, ℕ, true, List, [], ◌∷◌, length, map, Option, Some, None, refl, ap, sym, ◌∙◌, subst, arith, inl, inr}
use Rattle.std.specs.Prelude.{codes}
use Rattle.lh_time.specs.declared.Delay.{Delay}
use Rattle.lh_types.specs.Types.{TypeTree, int_type, time_type}
use Rattle.lh_types.specs.Values.{int_value, time_value, array_value, tuple_value}
use Rattle.lh_types.specs.declared.op.Op.{Op}
use Rattle.lh_types.specs.declared.op.Op.TheVariants as op
use Rattle.lh_unit.specs.Contents.{OperandText, EdgeText, TriggerText, InstText, const_text, pure_text, var_text, ld_text, st_text, sig_text, prb_text, drv_text, reg_text, child_text, call_text, phi_text, br_text, branch_text, wait_text, halt_text, ret_text}
use Rattle.lh_unit.specs.Lexemes.{Lexeme, word, local, arrow, punct}
use Rattle.lh_unit.specs.SpellsTypes.{SpellsType}
use Rattle.lh_unit.specs.SpellsNumbers.{SpellsNumber, SpellsInteger, SpellsTime}
use Rattle.lh_unit.specs.SpellsParts.{SpellsUnitName, SpellsOperand, SpellsWithType, SpellsMaybe, SpellsParts, SpellsList, SpellsBehind, SpellsLocal, SpellsTrigger, SpellsEdge}
use Rattle.lh_unit.specs.CanonWords.{op_numbers}
use Rattle.lh_unit.specs.SpellsInst.{columns, SpellsColumns, IsOpWord, SpellsDelay, SpellsPure, SpellsInst, may_stand_alone}
use Rattle.lh_unit_names.specs.declared.name.UnitName.{UnitName}
use Rattle.lh_read_pieces.specs.Pieces.{◌>>=◌, word_at, local_at, unit_name_at, punct_at, arrow_at, end_at, parts_at, behind_at}
use Rattle.lh_read_pieces.specs.Types.{no_suffix}
use Rattle.lh_read_pieces.proofs.Pieces.{unit_name_at-again}
use Rattle.lh_read_pieces.specs.Shorter.{local_at-shorter}
use Rattle.lh_read_pieces.proofs.SpelledNumbers.{integer_at-again}
use Rattle.lh_read_pieces.proofs.SpelledTimes.{time_at-again}
use Rattle.lh_read_pieces.proofs.TypeStarts.{none_at-type, punct_at-type}
use Rattle.lh_read_pieces.proofs.SpelledTypes.{type_at-again}
use Rattle.lh_read_pieces.proofs.SpelledLists.{parts_at-again, behind_at-again}
use Rattle.lh_read_phrases.specs.SyntaxOf.{operand_of, operands_of, trigger_of, edge_of}
use Rattle.lh_read_phrases.specs.Words.{head_of, form_of}
use Rattle.lh_read_phrases.specs.Shorter.{trigger_at-shorter, edge_at-shorter}
use Rattle.lh_read_phrases.specs.Operands.{trigger_at, edge_at}
use Rattle.lh_read_lines.specs.Insts.{constant_at, const_at, last_typed_at, last_local_at, var_at, ld_at, sig_at, prb_at, target_at, st_at, after_at, if_after_at, delay_at, drv_at, reg_at, operands_at, child_at, call_at, phi_at, branch_at, br_at, wait_at, halt_at, ret_or, ret_at, form_at, worded_at, marked_at, inst_at}
use Rattle.lh_read_phrases.specs.declared.syntax.TriggerSyntax.{TriggerSyntax}
use Rattle.lh_read_phrases.specs.declared.syntax.EdgeSyntax.{EdgeSyntax}
use Rattle.lh_read_phrases.proofs.SpelledWords.{HasWord, op_found}
use Rattle.lh_read_phrases.proofs.SpelledOperands.{operand_as, operands_as, operands_as-of, typed_at-again, maybe_at-again, trigger_as, trigger_at-again, edge_as, edge_at-again}
use Rattle.lh_read_phrases.proofs.OperandLists.{operand_list-again}
use Rattle.lh_read_phrases.proofs.SpelledEach.{parts_unmapped}
use Rattle.lh_read_phrases.proofs.SpelledOperations.{word_op-again}
use Rattle.lh_read_phrases.proofs.SpelledBrackets.{bracket_at-repeat, bracket_at-array, tuple_at-again}

-- constants
integer_begins : (n b : ℕ) (ts : List Lexeme) → SpellsInteger n b ts → no_suffix ts ≡ true
integer_begins n b ts s = elim s [ inl p ↦ ap no_suffix p.1 | inr p ↦ ap no_suffix p.2 ]

int_const-again : (n b : ℕ) (us vs : List Lexeme) → SpellsType (int_type n) us vs → SpellsInteger n b vs → const_at us ≡ Some (const_text (int_value n b))
unfolding const_at
int_const-again n b us vs s k =
    ap (λ o. o >>= λ t. (constant_at t.0 t.1 >>= λ d. Some (const_text d))) (type_at-again (int_type n) us vs s (integer_begins n b vs k))
    ∙ ap (λ o. (o >>= λ x. Some (int_value n x)) >>= λ d. Some (const_text d)) (integer_at-again n b vs s.1.1 k)

time_const-again : (d : Delay) (us : List Lexeme) → SpellsTime d us → const_at (word (codes "time") ∷ us) ≡ Some (const_text (time_value d))
unfolding const_at
time_const-again d us s =
    ap (λ o. o >>= λ t. (constant_at t.0 t.1 >>= λ x. Some (const_text x))) (type_at-again time_type (word (codes "time") ∷ us) us (refl, tt) (ap no_suffix s.3))
    ∙ ap (λ o. (o >>= λ x. Some (time_value x)) >>= λ x. Some (const_text x)) (time_at-again d us s)

-- one operand
last_typed-again : (o : OperandText) (ts : List Lexeme) → SpellsWithType o ts [] → last_typed_at ts ≡ Some (operand_as o)
unfolding last_typed_at
last_typed-again o ts s = ap (λ x. x >>= λ a. (end_at a.1 >>= λ _. Some a.0)) (typed_at-again o ts [] s)

target-again : (o : OperandText) (ts us : List Lexeme) → SpellsWithType o ts (punct 44 ∷ us) → target_at ts ≡ Some (operand_as o, us)
unfolding target_at
target-again o ts us s = ap (λ x. x >>= λ a. (punct_at 44 a.1 >>= λ vs. Some (a.0, vs))) (typed_at-again o ts (punct 44 ∷ us) s)

-- drives

after-again : (d : List ℕ) (c : Option (List ℕ)) (us : List Lexeme) → SpellsMaybe (codes "if") c us [] → after_at (local d ∷ us) ≡ Some (d, c)
unfolding after_at
after-again d c us s = ap (λ o. o >>= λ x. (end_at x.1 >>= λ _. Some (d, x.0))) (maybe_at-again (codes "if") refl c us [] s refl)

delay-again : (d : List ℕ) (c : Option (List ℕ)) (ts : List Lexeme) → SpellsDelay d c ts → delay_at ts ≡ Some (d, c)
unfolding delay_at if_after_at last_local_at
delay-again d c ts s = elim s [
  | inl p ↦ ap delay_at p.1 ∙ after-again d c p.0 p.2
  | inr q ↦ elim q [
    | inl p ↦ ap delay_at p.1 ∙ after-again d c p.0 p.2
    | inr p ↦ ap delay_at p.2 ∙ (λ j. Some (d, sym p.1 j))
  ]
]

drv-again : (o : OperandText) (v d : List ℕ) (c : Option (List ℕ)) (ts us : List Lexeme) → SpellsWithType o ts (punct 44 ∷ local v ∷ us) → SpellsDelay d c us → drv_at ts ≡ Some (drv_text o v d c)
unfolding drv_at
drv-again o v d c ts us s t =
    ap (λ x. x >>= λ a. (local_at a.1 >>= λ b. (delay_at b.1 >>= λ e. Some (drv_text (operand_of a.0) b.0 e.0 e.1)))) (target-again o ts (local v ∷ us) s)
    ∙ ap (λ x. x >>= λ e. Some (drv_text o v e.0 e.1)) (delay-again d c us t)

-- registers

triggers_as-of : (gs : List TriggerText) → map trigger_of (map trigger_as gs) ≡ gs
triggers_as-of [] = refl
triggers_as-of (g ∷ gs) = ap (λ l. g ∷ l) (triggers_as-of gs)

trigger-again : (g : TriggerSyntax) (ts us : List Lexeme) → SpellsTrigger (trigger_of g) ts us → trigger_at ts ≡ Some (g, us)
trigger-again g ts us s = trigger_at-again (trigger_of g) ts us s

triggers-again : (gs : List TriggerText) (ts : List Lexeme) → SpellsParts SpellsTrigger gs ts [] → parts_at trigger_at (length ts) ts ≡ Some (map trigger_as gs, [])
triggers-again gs ts s =
    let e = subst (λ l. SpellsParts SpellsTrigger l ts []) (sym (triggers_as-of gs)) s in
    parts_at-again trigger_at (λ g us vs. SpellsTrigger (trigger_of g) us vs) trigger-again (λ g us vs t. trigger_at-shorter us g vs (trigger-again g us vs t)) (length ts) (map trigger_as gs) ts []
    (parts_unmapped trigger_of SpellsTrigger (map trigger_as gs) ts [] e) (omega arith) refl

reg-again : (o : OperandText) (gs : List TriggerText) (ts us : List Lexeme) → SpellsWithType o ts (punct 44 ∷ us) → SpellsParts SpellsTrigger gs us [] → reg_at ts ≡ Some (reg_text o gs)
unfolding reg_at
reg-again o gs ts us s t =
    ap (λ x. x >>= λ a. (parts_at trigger_at (length a.1) a.1 >>= λ r. (end_at r.1 >>= λ _. Some (reg_text (operand_of a.0) (map trigger_of r.0))))) (target-again o ts us s)
    ∙ ap (λ x. x >>= λ r. (end_at r.1 >>= λ _. Some (reg_text o (map trigger_of r.0)))) (triggers-again gs us t)
    ∙ ap (λ l. Some (reg_text o l)) (triggers_as-of gs)

-- calls and instances
operands-again : (os : List OperandText) (us vs : List Lexeme) → SpellsList SpellsOperand os us (punct 41 ∷ vs) → operands_at (punct 40 ∷ us) ≡ Some (operands_as os, vs)
unfolding operands_at
operands-again os us vs s = ap (λ x. x >>= λ r. (punct_at 41 r.1 >>= λ b. Some (r.0, b))) (operand_list-again os us (punct 41 ∷ vs) vs s refl)

child-again : (u : UnitName) (ins outs : List OperandText) (name : Lexeme) (us vs : List Lexeme) → SpellsUnitName u name → SpellsList SpellsOperand ins us (punct 41 ∷ arrow ∷ punct 40 ∷ vs)
    → SpellsList SpellsOperand outs vs (punct 41 ∷ [])
    → child_at (name ∷ punct 40 ∷ us) ≡ Some (child_text u ins outs)
unfolding child_at
child-again u ins outs name us vs n s t =
    ap (λ x. x >>= λ m. (operands_at m.1 >>= λ a. (arrow_at a.1 >>= λ b. (operands_at b >>= λ c. (end_at c.1 >>= λ _. Some (child_text m.0 (operands_of a.0) (operands_of c.0)))))))
    (unit_name_at-again u name (punct 40 ∷ us) n)
    ∙ ap (λ x. x >>= λ a. (arrow_at a.1 >>= λ b. (operands_at b >>= λ c. (end_at c.1 >>= λ _. Some (child_text u (operands_of a.0) (operands_of c.0))))))
    (operands-again ins us (arrow ∷ punct 40 ∷ vs) s)
    ∙ ap (λ x. x >>= λ c. (end_at c.1 >>= λ _. Some (child_text u (operands_of (operands_as ins)) (operands_of c.0)))) (operands-again outs vs [] t)
    ∙ (λ j. Some (child_text u (operands_as-of ins j) (operands_as-of outs j)))

name_begins : (u : UnitName) (name : Lexeme) (us : List Lexeme) → SpellsUnitName u name → no_suffix (name ∷ us) ≡ true
name_begins u name us n = elim n [ inl p ↦ ap (λ t. no_suffix (t ∷ us)) p.1 | inr p ↦ ap (λ t. no_suffix (t ∷ us)) p.1 ]

call-again : (f : UnitName) (t : TypeTree) (os : List OperandText) (name : Lexeme) (ts vs : List Lexeme) → SpellsType t ts (name ∷ punct 40 ∷ vs) → SpellsUnitName f name
    → SpellsList SpellsOperand os vs (punct 41 ∷ [])
    → call_at ts ≡ Some (call_text f t os)
unfolding call_at
call-again f t os name ts vs s n l =
    ap (λ x. x >>= λ y. (unit_name_at y.1 >>= λ m. (operands_at m.1 >>= λ a. (end_at a.1 >>= λ _. Some (call_text m.0 y.0 (operands_of a.0))))))
    (type_at-again t ts (name ∷ punct 40 ∷ vs) s (name_begins f name (punct 40 ∷ vs) n))
    ∙ ap (λ x. x >>= λ m. (operands_at m.1 >>= λ a. (end_at a.1 >>= λ _. Some (call_text m.0 t (operands_of a.0))))) (unit_name_at-again f name (punct 40 ∷ vs) n)
    ∙ ap (λ x. x >>= λ a. (end_at a.1 >>= λ _. Some (call_text f t (operands_of a.0)))) (operands-again os vs [] l)
    ∙ ap (λ l. Some (call_text f t l)) (operands_as-of os)

-- control
edges_as-of : (es : List EdgeText) → map edge_of (map edge_as es) ≡ es
edges_as-of [] = refl
edges_as-of (e ∷ es) = ap (λ l. e ∷ l) (edges_as-of es)

edge-again : (e : EdgeSyntax) (ts us : List Lexeme) → SpellsEdge (edge_of e) ts us → edge_at ts ≡ Some (e, us)
edge-again e ts us s = edge_at-again (edge_of e) ts us s

edges-again : (es : List EdgeText) (ts : List Lexeme) → SpellsParts SpellsEdge es ts [] → parts_at edge_at (length ts) ts ≡ Some (map edge_as es, [])
edges-again es ts s =
    let e = subst (λ l. SpellsParts SpellsEdge l ts []) (sym (edges_as-of es)) s in
    parts_at-again edge_at (λ g us vs. SpellsEdge (edge_of g) us vs) edge-again (λ g us vs t. edge_at-shorter us g vs (edge-again g us vs t)) (length ts) (map edge_as es) ts []
    (parts_unmapped edge_of SpellsEdge (map edge_as es) ts [] e) (omega arith) refl

edges_begin : (es : List EdgeText) (ts us : List Lexeme) → SpellsParts SpellsEdge es ts us → no_suffix ts ≡ true
edges_begin [] ts us s = absurd s
edges_begin (e ∷ []) ts us s = ap no_suffix s
edges_begin (e ∷ f ∷ es) ts us s = ap no_suffix s.1

phi-again : (t : TypeTree) (es : List EdgeText) (ts us : List Lexeme) → SpellsType t ts us → SpellsParts SpellsEdge es us [] → phi_at ts ≡ Some (phi_text t es)
unfolding phi_at
phi-again t es ts us s l =
    ap (λ x. x >>= λ y. (parts_at edge_at (length y.1) y.1 >>= λ r. (end_at r.1 >>= λ _. Some (phi_text y.0 (map edge_of r.0))))) (type_at-again t ts us s (edges_begin es us [] l))
    ∙ ap (λ x. x >>= λ r. (end_at r.1 >>= λ _. Some (phi_text t (map edge_of r.0)))) (edges-again es us l)
    ∙ ap (λ l. Some (phi_text t l)) (edges_as-of es)

local-again : (n : List ℕ) (ts us : List Lexeme) → SpellsLocal n ts us → local_at ts ≡ Some (n, us)
local-again n ts us s = ap local_at s

signals-again : (ns : List (List ℕ)) (ts : List Lexeme) → SpellsBehind SpellsLocal ns ts [] → behind_at local_at ts ≡ Some (ns, [])
signals-again ns ts s = behind_at-again local_at SpellsLocal local-again (λ n us vs t. local_at-shorter us (n, vs) (local-again n us vs t)) ns ts [] s refl

-- what follows the delay is not another one
no_for : (ns : List (List ℕ)) (ts : List Lexeme) → SpellsBehind SpellsLocal ns ts [] → word_at (codes "for") ts ≡ None
no_for [] ts s = ap (word_at (codes "for")) s
no_for (n ∷ ns) ts s = ap (word_at (codes "for")) s.1

wait-again : (b : List ℕ) (d : Option (List ℕ)) (ns : List (List ℕ)) (us vs : List Lexeme) → SpellsMaybe (codes "for") d us vs → SpellsBehind SpellsLocal ns vs []
    → wait_at (local b ∷ us) ≡ Some (wait_text b d ns)
unfolding wait_at
wait-again b d ns us vs s t =
    ap (λ x. x >>= λ e. (behind_at local_at e.1 >>= λ r. (end_at r.1 >>= λ _. Some (wait_text b e.0 r.0)))) (maybe_at-again (codes "for") refl d us vs s (no_for ns vs t))
    ∙ ap (λ x. x >>= λ r. (end_at r.1 >>= λ _. Some (wait_text b d r.0))) (signals-again ns vs t)

ret-again : (o : OperandText) (ts : List Lexeme) → SpellsWithType o ts [] → ret_at ts ≡ Some (ret_text (Some o))
unfolding ret_at
ret-again o ts s =
    ap (ret_or ts) (none_at-type end_at (λ w l. refl) (λ l. refl) (λ l. refl) (λ l. refl) (λ l. refl) s.0 ts (local o.value ∷ []) s.2.0)
    ∙ ap (λ x. x >>= λ a. Some (ret_text (Some (operand_of a)))) (last_typed-again o ts s)

var-again : (o : OperandText) (ts : List Lexeme) → SpellsWithType o ts [] → var_at ts ≡ Some (var_text o)
unfolding var_at
var-again o ts s = ap (λ x. x >>= λ a. Some (var_text (operand_of a))) (last_typed-again o ts s)

ld-again : (o : OperandText) (ts : List Lexeme) → SpellsWithType o ts [] → ld_at ts ≡ Some (ld_text o)
unfolding ld_at
ld-again o ts s = ap (λ x. x >>= λ a. Some (ld_text (operand_of a))) (last_typed-again o ts s)

sig-again : (o : OperandText) (ts : List Lexeme) → SpellsWithType o ts [] → sig_at ts ≡ Some (sig_text o)
unfolding sig_at
sig-again o ts s = ap (λ x. x >>= λ a. Some (sig_text (operand_of a))) (last_typed-again o ts s)

prb-again : (o : OperandText) (ts : List Lexeme) → SpellsWithType o ts [] → prb_at ts ≡ Some (prb_text o)
unfolding prb_at
prb-again o ts s = ap (λ x. x >>= λ a. Some (prb_text (operand_of a))) (last_typed-again o ts s)

st-again : (o : OperandText) (v : List ℕ) (ts : List Lexeme) → SpellsWithType o ts (punct 44 ∷ local v ∷ []) → st_at ts ≡ Some (st_text o v)
unfolding st_at last_local_at
st-again o v ts s = ap (λ x. x >>= λ a. (last_local_at a.1 >>= λ n. Some (st_text (operand_of a.0) n))) (target-again o ts (local v ∷ []) s)

-- an instruction that may stand alone, found behind its word, which begins no other line
pub record StandsAlone (i : InstText) (ts : List Lexeme) : Type 0 where
  pub keyword : List ℕ
  pub rest : List Lexeme
  pub is : ts ≡ word keyword ∷ rest
  pub found : worded_at keyword rest ≡ Some i
  pub no_head : head_of keyword ≡ None
  pub no_colon : punct_at 58 rest ≡ None

typed_no_colon : (o : OperandText) (ts us : List Lexeme) → SpellsWithType o ts us → punct_at 58 ts ≡ None
typed_no_colon o ts us s = punct_at-type 58 refl refl s.0 ts (local o.value ∷ us) s.2.0

pub name_no_colon : (u : UnitName) (name : Lexeme) (us : List Lexeme) → SpellsUnitName u name → punct_at 58 (name ∷ us) ≡ None
name_no_colon u name us n = elim n [ inl p ↦ ap (λ t. punct_at 58 (t ∷ us)) p.1 | inr p ↦ ap (λ t. punct_at 58 (t ∷ us)) p.1 ]

pub stands_alone : (i : InstText) (ts : List Lexeme) → may_stand_alone i ≡ true → SpellsInst i ts → StandsAlone i ts
unfolding worded_at form_of head_of br_at branch_at last_local_at halt_at ret_at
stands_alone (st_text p v) ts h s = record { keyword = codes "st"; rest = s.0; is = s.1; found = st-again p v s.0 s.2; no_head = refl; no_colon = typed_no_colon p s.0 (punct 44 ∷ local v ∷ []) s.2 }
stands_alone (drv_text p v d c) ts h s =
    record { keyword = codes "drv"; rest = s.1.0; is = s.1.1; found = drv-again p v d c s.1.0 s.0 s.1.2 s.2; no_head = refl; no_colon = typed_no_colon p s.1.0 (punct 44 ∷ local v ∷ s.0) s.1.2 }
stands_alone (reg_text p gs) ts h s =
    record { keyword = codes "reg"; rest = s.1.0; is = s.1.1; found = reg-again p gs s.1.0 s.0 s.1.2 s.2; no_head = refl; no_colon = typed_no_colon p s.1.0 (punct 44 ∷ s.0) s.1.2 }
stands_alone (child_text u ins outs) ts h s =
    record {
      keyword = codes "inst";
      rest = s.0 ∷ punct 40 ∷ s.1;
      is = s.3;
      found = child-again u ins outs s.0 s.1 s.2 s.4 s.5 s.6;
      no_head = refl;
      no_colon = name_no_colon u s.0 (punct 40 ∷ s.1) s.4;
    }
stands_alone (call_text f t os) ts h s =
    record { keyword = codes "call"; rest = s.1; is = s.3; found = call-again f t os s.0 s.1 s.2 s.4 s.5 s.6; no_head = refl; no_colon = punct_at-type 58 refl refl t s.1 (s.0 ∷ punct 40 ∷ s.2) s.4.0 }
stands_alone (br_text b) ts h s = record { keyword = codes "br"; rest = local b ∷ []; is = s; found = refl; no_head = refl; no_colon = refl }
stands_alone (branch_text c z o) ts h s = record { keyword = codes "br"; rest = local c ∷ punct 44 ∷ local z ∷ punct 44 ∷ local o ∷ []; is = s; found = refl; no_head = refl; no_colon = refl }
stands_alone (wait_text b d ns) ts h s = record { keyword = codes "wait"; rest = local b ∷ s.0; is = s.2; found = wait-again b d ns s.0 s.1 s.3 s.4; no_head = refl; no_colon = refl }
stands_alone halt_text ts h s = record { keyword = codes "halt"; rest = []; is = s; found = refl; no_head = refl; no_colon = refl }
stands_alone (ret_text None) ts h s = record { keyword = codes "ret"; rest = []; is = s; found = refl; no_head = refl; no_colon = refl }
stands_alone (ret_text (Some v)) ts h s = record { keyword = codes "ret"; rest = s.0; is = s.1; found = ret-again v s.0 s.2; no_head = refl; no_colon = typed_no_colon v s.0 [] s.2 }
stands_alone _ ts h s = cc

worded-again : (o : Op) (args : List OperandText) (w : List ℕ) (us vs : List Lexeme) → HasWord o → IsOpWord o w → SpellsColumns (columns o) args us vs
    → SpellsBehind SpellsNumber (op_numbers o) vs []
    → worded_at w us ≡ Some (pure_text o args)
unfolding worded_at
worded-again o args w us vs h e s n = ap (λ f. f >>= λ x. form_at x us) (op_found o w h e) ∙ word_op-again o args us vs s n

pure-again : (o : Op) (args : List OperandText) (ts : List Lexeme) → SpellsPure o args ts → inst_at ts ≡ Some (pure_text o args)
unfolding inst_at marked_at
pure-again op.Array [] ts s = absurd s
pure-again op.Array (o ∷ rest) ts s = ap inst_at s.3 ∙ bracket_at-array o rest s.1 s.2 s.0 s.4 s.5 s.6 s.7
pure-again (op.Repeat n) [] ts s = absurd s
pure-again (op.Repeat n) (o ∷ []) ts s = ap inst_at s.3 ∙ bracket_at-repeat n o (word s.1 ∷ word (codes "x") ∷ s.2) s.0 s.1 s.2 refl s.4 s.5 s.6 s.7
pure-again (op.Repeat n) (o ∷ p ∷ os) ts s = absurd s
pure-again op.Tuple args ts s = ap inst_at s.1 ∙ tuple_at-again args s.0 s.2 s.3
pure-again o args ts s = ap inst_at s.3 ∙ worded-again o args s.0 s.1 s.2 tt s.4 s.5 s.6

alone-again : (i : InstText) (ts : List Lexeme) → StandsAlone i ts → inst_at ts ≡ Some i
unfolding inst_at
alone-again i ts a = ap inst_at a.is ∙ a.found

pub inst_at-again : (i : InstText) (ts : List Lexeme) → SpellsInst i ts → inst_at ts ≡ Some i
unfolding inst_at worded_at form_of
inst_at-again (const_text (int_value n b)) ts s = ap inst_at s.2 ∙ int_const-again n b s.0 s.1 s.3 s.4
inst_at-again (const_text (time_value d)) ts s = ap inst_at s.1 ∙ time_const-again d s.0 s.2
inst_at-again (const_text (array_value r)) ts s = absurd s
inst_at-again (const_text (tuple_value r)) ts s = absurd s
inst_at-again (pure_text o args) ts s = pure-again o args ts s
inst_at-again (var_text a) ts s = ap inst_at s.1 ∙ var-again a s.0 s.2
inst_at-again (ld_text a) ts s = ap inst_at s.1 ∙ ld-again a s.0 s.2
inst_at-again (sig_text a) ts s = ap inst_at s.1 ∙ sig-again a s.0 s.2
inst_at-again (prb_text a) ts s = ap inst_at s.1 ∙ prb-again a s.0 s.2
inst_at-again (phi_text t es) ts s = ap inst_at s.2 ∙ phi-again t es s.0 s.1 s.3 s.4
inst_at-again (st_text p v) ts s = alone-again (st_text p v) ts (stands_alone (st_text p v) ts refl s)
inst_at-again (drv_text p v d c) ts s = alone-again (drv_text p v d c) ts (stands_alone (drv_text p v d c) ts refl s)
inst_at-again (reg_text p gs) ts s = alone-again (reg_text p gs) ts (stands_alone (reg_text p gs) ts refl s)
inst_at-again (child_text u ins outs) ts s = alone-again (child_text u ins outs) ts (stands_alone (child_text u ins outs) ts refl s)
inst_at-again (call_text f t os) ts s = alone-again (call_text f t os) ts (stands_alone (call_text f t os) ts refl s)
inst_at-again (br_text b) ts s = alone-again (br_text b) ts (stands_alone (br_text b) ts refl s)
inst_at-again (branch_text c z o) ts s = alone-again (branch_text c z o) ts (stands_alone (branch_text c z o) ts refl s)
inst_at-again (wait_text b d ns) ts s = alone-again (wait_text b d ns) ts (stands_alone (wait_text b d ns) ts refl s)
inst_at-again halt_text ts s = alone-again halt_text ts (stands_alone halt_text ts refl s)
inst_at-again (ret_text v) ts s = alone-again (ret_text v) ts (stands_alone (ret_text v) ts refl s)
