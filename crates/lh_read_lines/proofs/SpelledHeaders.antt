-- The heads of units and declarations: what is found is spelled so, and what is spelled so is found.
use Rattle.std.proofs.Common.{◌≡◌, ℕ, Bool, true, false, List, [], ◌∷◌, ◌++◌, map, Option, Some, None, refl, ap, sym, ◌∙◌, subst}
use Rattle.std.specs.Prelude.{◌&&◌, codes}
use Rattle.std.proofs.lemmas.Option.{cond_some, same_Some}
use Rattle.std.proofs.lemmas.Bool.{and_parts, and_from}
use Rattle.lh_types.specs.Types.{TypeTree, void_type, signal_type, pointer_type}
use Rattle.lh_unit.specs.Contents.{ArgText}
use Rattle.lh_unit.specs.Lexemes.{Lexeme, word, local, arrow, punct}
use Rattle.lh_unit.specs.Spells.{TypedName, SpellsPort, input_of, output_of, LineItem, header_item, declare_item, Spells, SpellsParams, SpellsPorts, SpellsHeader, SpellsDeclare}
use Rattle.lh_unit.specs.SpellsTypes.{SpellsType, IsValueType, IsResultType, IsSignal}
use Rattle.lh_unit.specs.SpellsParts.{SpellsUnitName, SpellsParts, SpellsList}
use Rattle.lh_unit_names.specs.declared.name.UnitName.{UnitName}
use Rattle.lh_unit.specs.declared.inst.UnitKind.{UnitKind}
use Rattle.lh_unit.specs.declared.inst.UnitKind.TheVariants as kind
use Rattle.lh_unit.specs.declared.inst.Declare.{Declare}
use Rattle.lh_unit.specs.declared.inst.Declare.TheVariants as declare
use Rattle.lh_read_pieces.specs.Pieces.{◌>>=◌, unit_name_at, punct_at, arrow_at, end_at, list_at}
use Rattle.lh_read_pieces.specs.Types.{type_at, no_suffix}
use Rattle.lh_read_pieces.specs.Shorter.{bind_some}
use Rattle.lh_read_pieces.proofs.Pieces.{unit_name_at-sound, unit_name_at-again, punct_at-inv, arrow_at-inv, end_at-inv}
use Rattle.lh_read_pieces.proofs.TypeStarts.{punct_at-type, arrow_at-type}
use Rattle.lh_read_pieces.proofs.SpelledTypes.{type_at-sound, type_at-again, tree-shorter}
use Rattle.lh_read_pieces.proofs.SpelledLists.{list_at-sound, list_at-again}
use Rattle.lh_read_phrases.specs.Words.{head_of}
use Rattle.lh_read_phrases.specs.Shorter.{param_at-shorter}
use Rattle.lh_read_phrases.specs.Operands.{param_at}
use Rattle.lh_types.specs.TypeTests.{is_value_type, is_signal}
use Rattle.std.specs.List.{list_all}
use Rattle.lh_read_phrases.specs.Operations.{last_mark_at}
use Rattle.lh_read_lines.specs.Headers.{is_result_type, item_when, are_values, are_ports, params_at, types_at, func_at, ports_when, ports_at, unit_at, declare_func_at, declare_unit_at, declare_or, declare_at, named_at, head_at}
use Rattle.lh_read_phrases.specs.declared.words.Head.{Head}
use Rattle.lh_read_phrases.specs.declared.words.Head.TheVariants as head
use Rattle.lh_read_phrases.proofs.SpelledWords.{head_word, head_of-sound}
use Rattle.lh_read_phrases.proofs.SpelledOperands.{param_at-sound, param_at-again}
use Rattle.lh_read_phrases.proofs.SpelledBrackets.{last_mark-sound}
use Rattle.lh_read_phrases.proofs.SpelledEach.{list_with, list_each, list_without}
use Rattle.lh_read_lines.proofs.InstsAgain.{name_no_colon}

-- kinds of types
value-shown : (t : TypeTree) → is_value_type t ≡ true → IsValueType t
value-shown void_type h = cc
value-shown (signal_type t) h = cc
value-shown (pointer_type t) h = cc
value-shown _ h = tt

value-tested : (t : TypeTree) → IsValueType t → is_value_type t ≡ true
value-tested void_type h = absurd h
value-tested (signal_type t) h = absurd h
value-tested (pointer_type t) h = absurd h
value-tested _ h = refl

result-shown : (t : TypeTree) → is_result_type t ≡ true → IsResultType t
result-shown (signal_type t) h = cc
result-shown (pointer_type t) h = cc
result-shown _ h = tt

result-tested : (t : TypeTree) → IsResultType t → is_result_type t ≡ true
result-tested (signal_type t) h = absurd h
result-tested (pointer_type t) h = absurd h
result-tested _ h = refl

signal-shown : (t : TypeTree) → is_signal t ≡ true → IsSignal t
signal-shown (signal_type t) h = tt
signal-shown _ h = cc

signal-tested : (t : TypeTree) → IsSignal t → is_signal t ≡ true
signal-tested (signal_type t) h = refl
signal-tested _ h = absurd h

item_when-inv : (b : Bool) (i j : LineItem) → item_when b i ≡ Some j → (b ≡ true) × (i ≡ j)
item_when-inv b i j p = cond_some b i j p

-- arguments of any type
abbrev pub SpellsNamed : TypedName → List Lexeme → List Lexeme → Type 0
SpellsNamed a ts us = SpellsType a.ty ts (local a.name ∷ us)

-- a list in parentheses
record InParens {A : Type 0} (P : A → List Lexeme → List Lexeme → Type 0) (xs : List A) (ts us : List Lexeme) : Type 0 where
  first : List Lexeme
  opened : ts ≡ punct 40 ∷ first
  spelled : SpellsList P xs first (punct 41 ∷ us)

params-sound : (ts : List Lexeme) (r : List TypedName × List Lexeme) → params_at ts ≡ Some r → InParens SpellsNamed r.0 ts r.1
unfolding params_at
params-sound ts r p =
    let a = bind_some (punct_at 40 ts) _ r p in
    let b = bind_some (list_at param_at 41 a.0) _ r a.2 in
    let c = bind_some (punct_at 41 b.0.1) _ r b.2 in
    let s = subst (SpellsList SpellsNamed b.0.0 a.0) (punct_at-inv 41 b.0.1 c.0 c.1) (list_at-sound param_at SpellsNamed param_at-sound 41 a.0 b.0 b.1) in
    subst (λ (x : List TypedName × List Lexeme). InParens SpellsNamed x.0 ts x.1) (same_Some (b.0.0, c.0) r c.2) (record { first = a.0; opened = punct_at-inv 40 ts a.0 a.1; spelled = s })

params-again : (xs : List TypedName) (us vs : List Lexeme) → SpellsList SpellsNamed xs us (punct 41 ∷ vs) → params_at (punct 40 ∷ us) ≡ Some (xs, vs)
unfolding params_at
params-again xs us vs s =
    ap (λ x. x >>= λ r. (punct_at 41 r.1 >>= λ b. Some (r.0, b)))
    (list_at-again param_at SpellsNamed param_at-again (λ a ts ws t. param_at-shorter ts a ws (param_at-again a ts ws t)) 41 refl refl
    (λ a ts ws t. punct_at-type 41 refl refl a.ty ts (local a.name ∷ ws) t.0) xs us (punct 41 ∷ vs) vs s refl)

-- types
types-sound : (ts : List Lexeme) (r : List TypeTree × List Lexeme) → types_at ts ≡ Some r → InParens SpellsType r.0 ts r.1
unfolding types_at
types-sound ts r p =
    let a = bind_some (punct_at 40 ts) _ r p in
    let b = bind_some (list_at type_at 41 a.0) _ r a.2 in
    let c = bind_some (punct_at 41 b.0.1) _ r b.2 in
    let s = subst (SpellsList SpellsType b.0.0 a.0) (punct_at-inv 41 b.0.1 c.0 c.1) (list_at-sound type_at SpellsType type_at-sound 41 a.0 b.0 b.1) in
    subst (λ (x : List TypeTree × List Lexeme). InParens SpellsType x.0 ts x.1) (same_Some (b.0.0, c.0) r c.2) (record { first = a.0; opened = punct_at-inv 40 ts a.0 a.1; spelled = s })

whole_parts : (xs : List TypeTree) (ts us : List Lexeme) → no_suffix us ≡ true → SpellsParts SpellsType xs ts us → SpellsParts (λ t vs ws. SpellsType t vs ws × (no_suffix ws ≡ true)) xs ts us
whole_parts [] ts us h s = s
whole_parts (x ∷ []) ts us h s = (s, h)
whole_parts (x ∷ y ∷ xs) ts us h s = (s.0, (s.1, refl), whole_parts (y ∷ xs) s.0 us h s.2)

whole_list : (xs : List TypeTree) (ts us : List Lexeme) → no_suffix us ≡ true → SpellsList SpellsType xs ts us → SpellsList (λ t vs ws. SpellsType t vs ws × (no_suffix ws ≡ true)) xs ts us
whole_list [] ts us h s = s
whole_list (x ∷ xs) ts us h s = whole_parts (x ∷ xs) ts us h s

types-again : (xs : List TypeTree) (us vs : List Lexeme) → SpellsList SpellsType xs us (punct 41 ∷ vs) → types_at (punct 40 ∷ us) ≡ Some (xs, vs)
unfolding types_at
types-again xs us vs s =
    ap (λ x. x >>= λ r. (punct_at 41 r.1 >>= λ b. Some (r.0, b)))
    (list_at-again type_at (λ t ts ws. SpellsType t ts ws × (no_suffix ws ≡ true)) (λ t ts ws w. type_at-again t ts ws w.0 w.1) (λ t ts ws w. tree-shorter t ts ws w.0.0) 41 refl refl
    (λ t ts ws w. punct_at-type 41 refl refl t ts ws w.0.0) xs us (punct 41 ∷ vs) vs (whole_list xs us (punct 41 ∷ vs) refl s) refl)

-- functions
func-sound : (n : UnitName) (ts : List Lexeme) (i : LineItem) → func_at n ts ≡ Some i → (name : Lexeme) → SpellsUnitName n name → Spells (word (codes "func") ∷ name ∷ ts) i
unfolding func_at
func-sound n ts i p name m =
    let a = bind_some (params_at ts) _ i p in
    let t = bind_some (type_at a.0.1) _ i a.2 in
    let b = bind_some (last_mark_at 123 t.0.1) _ i t.2 in
    let g = item_when-inv (are_values a.0.0 && is_result_type t.0.0) (header_item kind.Func n (map input_of a.0.0) (Some t.0.0)) i b.2 in
    let h = and_parts (are_values a.0.0) (is_result_type t.0.0) g.0 in
    let x = params-sound ts a.0 a.1 in
    let s = subst (SpellsType t.0.0 a.0.1) (last_mark-sound 123 t.0.1 b.0 b.1) (type_at-sound a.0.1 t.0 t.1) in
    let v = list_with SpellsNamed (λ q. IsValueType q.ty) (λ q. is_value_type q.ty) (λ q e. value-shown q.ty e) a.0.0 x.first (punct 41 ∷ a.0.1) h.0 x.spelled in
    let r : SpellsParams (map input_of a.0.0) t.0.0 ts =
    record { params = a.0.0; together = refl; first = x.first; second = a.0.1; opened = x.opened; spelled_params = v; spelled_result = s; fits = result-shown t.0.0 h.1 } in
    let q : Spells (word (codes "func") ∷ name ∷ ts) (header_item kind.Func n (map input_of a.0.0) (Some t.0.0)) = (name, ts, refl, m, r) in
    subst (Spells (word (codes "func") ∷ name ∷ ts)) g.1 q

func-again : (n : UnitName) (args : List ArgText) (t : TypeTree) (ts : List Lexeme) → SpellsParams args t ts → func_at n ts ≡ Some (header_item kind.Func n args (Some t))
unfolding func_at last_mark_at
func-again n args t ts s =
    let e : are_values s.params && is_result_type t ≡ true =
    and_from (are_values s.params) (is_result_type t)
    (list_each SpellsNamed (λ q. IsValueType q.ty) (λ q. is_value_type q.ty) (λ q h. value-tested q.ty h) s.params s.first (punct 41 ∷ s.second) s.spelled_params) (result-tested t s.fits) in
    ap (func_at n) s.opened
    ∙ ap (λ x. x >>= λ a. (type_at a.1 >>= λ y. (last_mark_at 123 y.1 >>= λ _. item_when (are_values a.0 && is_result_type y.0) (header_item kind.Func n (map input_of a.0) (Some y.0)))))
    (params-again s.params s.first s.second (list_without SpellsNamed (λ q. IsValueType q.ty) (λ q. is_value_type q.ty) s.params s.first (punct 41 ∷ s.second) s.spelled_params))
    ∙ ap (λ x. x >>= λ y. (last_mark_at 123 y.1 >>= λ _. item_when (are_values s.params && is_result_type y.0) (header_item kind.Func n (map input_of s.params) (Some y.0))))
    (type_at-again t s.second (punct 123 ∷ []) s.spelled_result refl)
    ∙ ap (λ b. item_when b (header_item kind.Func n (map input_of s.params) (Some t))) e
    ∙ ap (λ l. Some (header_item kind.Func n l (Some t))) (sym s.together)

-- processes and entities
ports_when-inv : (b : Bool) (ins outs : List TypedName) (args : List ArgText) → ports_when b ins outs ≡ Some args → (b ≡ true) × (map input_of ins ++ map output_of outs ≡ args)
ports_when-inv true ins outs args p = (refl, same_Some _ args p)
ports_when-inv false ins outs args p = cc

ports-sound : (ts : List Lexeme) (args : List ArgText) → ports_at ts ≡ Some args → SpellsPorts args ts
unfolding ports_at
ports-sound ts args p =
    let a = bind_some (params_at ts) _ args p in
    let b = bind_some (arrow_at a.0.1) _ args a.2 in
    let c = bind_some (params_at b.0) _ args b.2 in
    let d = bind_some (last_mark_at 123 c.0.1) _ args c.2 in
    let g = ports_when-inv (are_ports a.0.0 && are_ports c.0.0) a.0.0 c.0.0 args d.2 in
    let h = and_parts (are_ports a.0.0) (are_ports c.0.0) g.0 in
    let x = params-sound ts a.0 a.1 in
    let y = params-sound b.0 c.0 c.1 in
    let s = subst (λ l. SpellsList SpellsNamed a.0.0 x.first (punct 41 ∷ l)) (arrow_at-inv a.0.1 b.0 b.1 ∙ ap (λ l. arrow ∷ l) y.opened) x.spelled in
    let t = subst (λ l. SpellsList SpellsNamed c.0.0 y.first (punct 41 ∷ l)) (last_mark-sound 123 c.0.1 d.0 d.1) y.spelled in
    record {
      inputs = a.0.0;
      outputs = c.0.0;
      together = sym g.1;
      first = x.first;
      second = y.first;
      opened = x.opened;
      spelled_inputs = list_with SpellsNamed (λ q. IsSignal q.ty) (λ q. is_signal q.ty) (λ q e. signal-shown q.ty e) a.0.0 x.first (punct 41 ∷ arrow ∷ punct 40 ∷ y.first) h.0 s;
      spelled_outputs = list_with SpellsNamed (λ q. IsSignal q.ty) (λ q. is_signal q.ty) (λ q e. signal-shown q.ty e) c.0.0 y.first (punct 41 ∷ punct 123 ∷ []) h.1 t;
    }

are_ports-again : (xs : List TypedName) (ts us : List Lexeme) → SpellsList SpellsPort xs ts us → are_ports xs ≡ true
are_ports-again xs ts us s = list_each SpellsNamed (λ q. IsSignal q.ty) (λ q. is_signal q.ty) (λ q h. signal-tested q.ty h) xs ts us s

ports_named : (xs : List TypedName) (ts us : List Lexeme) → SpellsList SpellsPort xs ts us → SpellsList SpellsNamed xs ts us
ports_named xs ts us s = list_without SpellsNamed (λ q. IsSignal q.ty) (λ q. is_signal q.ty) xs ts us s

ports-again : (args : List ArgText) (ts : List Lexeme) → SpellsPorts args ts → ports_at ts ≡ Some args
unfolding ports_at last_mark_at
ports-again args ts s =
    let e : are_ports s.inputs && are_ports s.outputs ≡ true =
    and_from (are_ports s.inputs) (are_ports s.outputs) (are_ports-again s.inputs s.first (punct 41 ∷ arrow ∷ punct 40 ∷ s.second) s.spelled_inputs)
    (are_ports-again s.outputs s.second (punct 41 ∷ punct 123 ∷ []) s.spelled_outputs) in
    ap ports_at s.opened
    ∙ ap (λ x. x >>= λ a. (arrow_at a.1 >>= λ b. (params_at b >>= λ c. (last_mark_at 123 c.1 >>= λ _. ports_when (are_ports a.0 && are_ports c.0) a.0 c.0))))
    (params-again s.inputs s.first (arrow ∷ punct 40 ∷ s.second) (ports_named s.inputs s.first (punct 41 ∷ arrow ∷ punct 40 ∷ s.second) s.spelled_inputs))
    ∙ ap (λ x. x >>= λ c. (last_mark_at 123 c.1 >>= λ _. ports_when (are_ports s.inputs && are_ports c.0) s.inputs c.0))
    (params-again s.outputs s.second (punct 123 ∷ []) (ports_named s.outputs s.second (punct 41 ∷ punct 123 ∷ []) s.spelled_outputs))
    ∙ ap (λ b. ports_when b s.inputs s.outputs) e
    ∙ ap Some (sym s.together)

unit-inv : (k : UnitKind) (n : UnitName) (ts : List Lexeme) (i : LineItem) → unit_at k n ts ≡ Some i → (args : List ArgText) × SpellsPorts args ts × (header_item k n args None ≡ i)
unfolding unit_at
unit-inv k n ts i p = let a = bind_some (ports_at ts) _ i p in (a.0, ports-sound ts a.0 a.1, same_Some (header_item k n a.0 None) i a.2)

unit-again : (k : UnitKind) (n : UnitName) (args : List ArgText) (ts : List Lexeme) → SpellsPorts args ts → unit_at k n ts ≡ Some (header_item k n args None)
unfolding unit_at
unit-again k n args ts s = ap (λ x. x >>= λ a. Some (header_item k n a None)) (ports-again args ts s)

-- what is defined elsewhere
declare_func-sound : (n : UnitName) (ps : List TypeTree) (us ts : List Lexeme) (i : LineItem) → declare_func_at n ps us ≡ Some i → InParens SpellsType ps ts us → (name : Lexeme)
    → SpellsUnitName n name → Spells (word (codes "declare") ∷ name ∷ ts) i
unfolding declare_func_at
declare_func-sound n ps us ts i p x name m =
    let t = bind_some (type_at us) _ i p in
    let b = bind_some (end_at t.0.1) _ i t.2 in
    let g = item_when-inv (list_all is_value_type ps && is_result_type t.0.0) (declare_item (declare.Func n ps t.0.0)) i b.2 in
    let h = and_parts (list_all is_value_type ps) (is_result_type t.0.0) g.0 in
    let s = subst (SpellsType t.0.0 us) (end_at-inv t.0.1 b.0 b.1) (type_at-sound us t.0 t.1) in
    let v = list_with SpellsType IsValueType is_value_type value-shown ps x.first (punct 41 ∷ us) h.0 x.spelled in
    let e = ap (λ l. word (codes "declare") ∷ name ∷ l) x.opened in
    let q : Spells (word (codes "declare") ∷ name ∷ ts) (declare_item (declare.Func n ps t.0.0)) = (name, x.first, us, e, m, v, s, result-shown t.0.0 h.1) in
    subst (Spells (word (codes "declare") ∷ name ∷ ts)) g.1 q

declare_unit-sound : (n : UnitName) (ins : List TypeTree) (us vs ts : List Lexeme) (i : LineItem) → declare_unit_at n ins vs ≡ Some i → us ≡ arrow ∷ vs → InParens SpellsType ins ts us
    → (name : Lexeme) → SpellsUnitName n name
    → Spells (word (codes "declare") ∷ name ∷ ts) i
unfolding declare_unit_at
declare_unit-sound n ins us vs ts i p f x name m =
    let a = bind_some (types_at vs) _ i p in
    let b = bind_some (end_at a.0.1) _ i a.2 in
    let g = item_when-inv (list_all is_signal ins && list_all is_signal a.0.0) (declare_item (declare.Unit n ins a.0.0)) i b.2 in
    let h = and_parts (list_all is_signal ins) (list_all is_signal a.0.0) g.0 in
    let y = types-sound vs a.0 a.1 in
    let s = subst (λ l. SpellsList SpellsType ins x.first (punct 41 ∷ l)) (f ∙ ap (λ l. arrow ∷ l) y.opened) x.spelled in
    let t = subst (λ l. SpellsList SpellsType a.0.0 y.first (punct 41 ∷ l)) (end_at-inv a.0.1 b.0 b.1) y.spelled in
    let u = list_with SpellsType IsSignal is_signal signal-shown ins x.first (punct 41 ∷ arrow ∷ punct 40 ∷ y.first) h.0 s in
    let v = list_with SpellsType IsSignal is_signal signal-shown a.0.0 y.first (punct 41 ∷ []) h.1 t in
    let e = ap (λ l. word (codes "declare") ∷ name ∷ l) x.opened in
    let q : Spells (word (codes "declare") ∷ name ∷ ts) (declare_item (declare.Unit n ins a.0.0)) = (name, x.first, y.first, e, m, u, v) in
    subst (Spells (word (codes "declare") ∷ name ∷ ts)) g.1 q

declare-sound : (n : UnitName) (ts : List Lexeme) (i : LineItem) → declare_at n ts ≡ Some i → (name : Lexeme) → SpellsUnitName n name → Spells (word (codes "declare") ∷ name ∷ ts) i
unfolding declare_at
declare-sound n ts i p name m = let a = bind_some (types_at ts) _ i p in by a.0.0 a.0.1 (types-sound ts a.0 a.1) (arrow_at a.0.1) refl a.2
  where
    by : (ins : List TypeTree) (us : List Lexeme) → InParens SpellsType ins ts us → (o : Option (List Lexeme)) → arrow_at us ≡ o → declare_or n ins us o ≡ Some i
        → Spells (word (codes "declare") ∷ name ∷ ts) i
    by ins us x (Some vs) e q = declare_unit-sound n ins us vs ts i q (arrow_at-inv us vs e) x name m
    by ins us x None e q = declare_func-sound n ins us ts i q x name m

declare-again : (d : Declare) (ts : List Lexeme) → SpellsDeclare d ts → (n : UnitName) × (name : Lexeme) × (us : List Lexeme) × (ts ≡ word (codes "declare") ∷ name ∷ us) × SpellsUnitName n name
    × (declare_at n us ≡ Some (declare_item d))
unfolding declare_at declare_func_at declare_unit_at
declare-again (declare.Func n ps r) ts s =
    let e : list_all is_value_type ps && is_result_type r ≡ true =
    and_from (list_all is_value_type ps) (is_result_type r) (list_each SpellsType IsValueType is_value_type value-tested ps s.1 (punct 41 ∷ s.2) s.5) (result-tested r s.7) in
    let f : declare_at n (punct 40 ∷ s.1) ≡ Some (declare_item (declare.Func n ps r)) =
    ap (λ x. x >>= λ a. declare_or n a.0 a.1 (arrow_at a.1)) (types-again ps s.1 s.2 (list_without SpellsType IsValueType is_value_type ps s.1 (punct 41 ∷ s.2) s.5))
    ∙ ap (declare_or n ps s.2) (arrow_at-type r s.2 [] s.6.0)
    ∙ ap (λ x. x >>= λ t. (end_at t.1 >>= λ _. item_when (list_all is_value_type ps && is_result_type t.0) (declare_item (declare.Func n ps t.0)))) (type_at-again r s.2 [] s.6 refl)
    ∙ ap (λ b. item_when b (declare_item (declare.Func n ps r))) e in
    (n, s.0, punct 40 ∷ s.1, s.3, s.4, f)
declare-again (declare.Unit n ins outs) ts s =
    let e : list_all is_signal ins && list_all is_signal outs ≡ true =
    and_from (list_all is_signal ins) (list_all is_signal outs) (list_each SpellsType IsSignal is_signal signal-tested ins s.1 (punct 41 ∷ arrow ∷ punct 40 ∷ s.2) s.5)
    (list_each SpellsType IsSignal is_signal signal-tested outs s.2 (punct 41 ∷ []) s.6) in
    let f : declare_at n (punct 40 ∷ s.1) ≡ Some (declare_item (declare.Unit n ins outs)) =
    ap (λ x. x >>= λ a. declare_or n a.0 a.1 (arrow_at a.1)) (types-again ins s.1 (arrow ∷ punct 40 ∷ s.2) (list_without SpellsType IsSignal is_signal ins s.1 (punct 41 ∷ arrow ∷ punct 40 ∷ s.2) s.5))
    ∙ ap (λ x. x >>= λ a. (end_at a.1 >>= λ _. item_when (list_all is_signal ins && list_all is_signal a.0) (declare_item (declare.Unit n ins a.0))))
    (types-again outs s.2 [] (list_without SpellsType IsSignal is_signal outs s.2 (punct 41 ∷ []) s.6))
    ∙ ap (λ b. item_when b (declare_item (declare.Unit n ins outs))) e in
    (n, s.0, punct 40 ∷ s.1, s.3, s.4, f)

-- a line that begins with one of these words
named-sound : (h : Head) (n : UnitName) (ts : List Lexeme) (i : LineItem) → named_at h n ts ≡ Some i → (name : Lexeme) → SpellsUnitName n name → Spells (word (head_word h) ∷ name ∷ ts) i
named-sound head.Func n ts i p name m = func-sound n ts i p name m
named-sound head.Proc n ts i p name m =
    let a = unit-inv kind.Proc n ts i p in
    let q : Spells (word (codes "proc") ∷ name ∷ ts) (header_item kind.Proc n a.0 None) = (name, ts, refl, m, a.1) in
    subst (Spells (word (codes "proc") ∷ name ∷ ts)) a.2 q
named-sound head.Entity n ts i p name m =
    let a = unit-inv kind.Entity n ts i p in
    let q : Spells (word (codes "entity") ∷ name ∷ ts) (header_item kind.Entity n a.0 None) = (name, ts, refl, m, a.1) in
    subst (Spells (word (codes "entity") ∷ name ∷ ts)) a.2 q
named-sound head.Declare n ts i p name m = declare-sound n ts i p name m

pub head_at-sound : (w : List ℕ) (h : Head) (ts : List Lexeme) (i : LineItem) → head_of w ≡ Some h → head_at h ts ≡ Some i → Spells (word w ∷ ts) i
unfolding head_at
head_at-sound w h ts i e p =
    let a = bind_some (unit_name_at ts) _ i p in
    let n = unit_name_at-sound ts a.0 a.1 in
    subst (λ l. Spells l i) (λ j. word (sym (head_of-sound w h e) j) ∷ sym n.1 j) (named-sound h a.0.0 a.0.1 i a.2 n.0 n.2)

-- a line of these, found behind its word
pub record IsHead (i : LineItem) (ts : List Lexeme) : Type 0 where
  pub keyword : List ℕ
  pub rest : List Lexeme
  pub is : ts ≡ word keyword ∷ rest
  pub head : Head
  pub known : head_of keyword ≡ Some head
  pub found : head_at head rest ≡ Some i
  pub no_colon : punct_at 58 rest ≡ None

named-again : (h : Head) (n : UnitName) (name : Lexeme) (us : List Lexeme) (i : LineItem) → SpellsUnitName n name → named_at h n us ≡ Some i → head_at h (name ∷ us) ≡ Some i
unfolding head_at
named-again h n name us i m p = ap (λ x. x >>= λ a. named_at h a.0 a.1) (unit_name_at-again n name us m) ∙ p

pub header-again : (k : UnitKind) (n : UnitName) (args : List ArgText) (r : Option TypeTree) (ts : List Lexeme) → SpellsHeader k n args r ts → IsHead (header_item k n args r) ts
unfolding head_of
header-again kind.Func n args (Some t) ts s =
    record {
      keyword = codes "func";
      rest = s.0 ∷ s.1;
      is = s.2;
      head = head.Func;
      known = refl;
      found = named-again head.Func n s.0 s.1 (header_item kind.Func n args (Some t)) s.3 (func-again n args t s.1 s.4);
      no_colon = name_no_colon n s.0 s.1 s.3;
    }
header-again kind.Proc n args None ts s =
    record {
      keyword = codes "proc";
      rest = s.0 ∷ s.1;
      is = s.2;
      head = head.Proc;
      known = refl;
      found = named-again head.Proc n s.0 s.1 (header_item kind.Proc n args None) s.3 (unit-again kind.Proc n args s.1 s.4);
      no_colon = name_no_colon n s.0 s.1 s.3;
    }
header-again kind.Entity n args None ts s =
    record {
      keyword = codes "entity";
      rest = s.0 ∷ s.1;
      is = s.2;
      head = head.Entity;
      known = refl;
      found = named-again head.Entity n s.0 s.1 (header_item kind.Entity n args None) s.3 (unit-again kind.Entity n args s.1 s.4);
      no_colon = name_no_colon n s.0 s.1 s.3;
    }
header-again kind.Func n args None ts s = absurd s
header-again kind.Proc n args (Some t) ts s = absurd s
header-again kind.Entity n args (Some t) ts s = absurd s

pub declared-again : (d : Declare) (ts : List Lexeme) → SpellsDeclare d ts → IsHead (declare_item d) ts
unfolding head_of
declared-again d ts s =
    let a = declare-again d ts s in
    record {
      keyword = codes "declare";
      rest = a.1 ∷ a.2;
      is = a.3;
      head = head.Declare;
      known = refl;
      found = named-again head.Declare a.0 a.1 a.2 (declare_item d) a.4 a.5;
      no_colon = name_no_colon a.0 a.1 a.2 a.4;
    }
