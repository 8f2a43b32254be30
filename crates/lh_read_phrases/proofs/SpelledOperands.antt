-- Operands and the other parts of lists: what is found is spelled so, and what is spelled so is found.
use Rattle.std.proofs.Common.{◌≡◌, ℕ, true, List, [], ◌∷◌, Option, Some, None, nat_eq, refl, ap, sym, ◌∙◌, subst}
use Rattle.std.specs.Prelude.{codes, if◌then◌else◌}
use Rattle.std.proofs.lemmas.Option.{same_Some}
use lib.Pointwise.{pointwise}
use Rattle.lh_types.specs.Types.{TypeTree}
use Rattle.lh_unit.specs.Contents.{OperandText, TriggerText, EdgeText}
use Rattle.lh_unit.specs.CanonWords.{mode_word}
use Rattle.lh_unit.specs.Lexemes.{Lexeme, word, local, punct}
use Rattle.lh_unit.specs.Spells.{TypedName}
use Rattle.lh_unit.specs.SpellsTypes.{SpellsType}
use Rattle.lh_unit.specs.SpellsParts.{SpellsTyped, SpellsOperand, SpellsBare, SpellsWithType, SpellsMaybe, SpellsTrigger, SpellsEdge}
use Rattle.lh_unit.specs.SpellsInst.{SpellsColumns}
use Rattle.lh_unit.specs.Typing.{or_else}
use Rattle.lh_read_pieces.specs.Pieces.{◌>>=◌, word_at, any_word_at, local_at, punct_at}
use Rattle.lh_read_pieces.specs.Shorter.{bind_some}
use Rattle.lh_read_pieces.specs.Types.{type_at}
use Rattle.lh_read_pieces.proofs.Pieces.{word_at-inv, any_word_at-inv, local_at-inv, punct_at-inv}
use Rattle.lh_read_pieces.proofs.TypeStarts.{local_at-type}
use Rattle.lh_read_pieces.proofs.SpelledTypes.{type_at-sound, type_at-again}
use Rattle.lh_read_phrases.specs.SyntaxOf.{operand_of, operands_of, trigger_of, edge_of}
use Rattle.lh_read_phrases.specs.Words.{mode_of}
use Rattle.lh_read_phrases.specs.Operands.{typed_at, bare_at, free_at, next_bare_at, next_free_at, one_at, two_at, shift_at, columns_at, maybe_or, maybe_at, trigger_at, edge_at, param_at}
use Rattle.lh_read_phrases.specs.declared.syntax.Operand.{Operand}
use Rattle.lh_read_phrases.specs.declared.syntax.TriggerSyntax.{TriggerSyntax}
use Rattle.lh_read_phrases.specs.declared.syntax.EdgeSyntax.{EdgeSyntax}
use Rattle.lh_read_phrases.specs.declared.words.Columns.{Columns}
use Rattle.lh_read_phrases.specs.declared.words.Columns.TheVariants as written
use Rattle.lh_read_phrases.proofs.SpelledWords.{mode_of-sound, mode_of-again, columns_of}

-- an operand as the program holds it
abbrev pub operand_as : OperandText → Operand
operand_as o = record { value = o.value; ty = o.ty }

-- `T %a`
pub typed_at-sound : (ts : List Lexeme) (r : Operand × List Lexeme) → typed_at ts ≡ Some r → SpellsWithType (operand_of r.0) ts r.1
unfolding typed_at
typed_at-sound ts r p =
    let a = bind_some (type_at ts) _ r p in
    let b = bind_some (local_at a.0.1) _ r a.2 in
    let s = subst (SpellsType a.0.0 ts) (local_at-inv a.0.1 b.0 b.1) (type_at-sound ts a.0 a.1) in
    let t : SpellsWithType (record { value = b.0.0; ty = Some a.0.0 }) ts b.0.1 = (a.0.0, refl, s) in
    subst (λ (x : Operand × List Lexeme). SpellsWithType (operand_of x.0) ts x.1) (same_Some _ r b.2) t

pub typed_at-again : (o : OperandText) (ts us : List Lexeme) → SpellsWithType o ts us → typed_at ts ≡ Some (operand_as o, us)
unfolding typed_at
typed_at-again o ts us s =
    ap (λ x. x >>= λ t. (local_at t.1 >>= λ n. Some (record { value = n.0; ty = Some t.0 }, n.1))) (type_at-again s.0 ts (local o.value ∷ us) s.2 refl)
    ∙ (λ j. Some (record { value = o.value; ty = sym s.1 j }, us))

-- `%a`
bare_at-sound : (ts : List Lexeme) (r : Operand × List Lexeme) → bare_at ts ≡ Some r → SpellsBare (operand_of r.0) ts r.1
unfolding bare_at
bare_at-sound ts r p =
    let b = bind_some (local_at ts) _ r p in
    let t : SpellsBare (record { value = b.0.0; ty = None }) ts b.0.1 = (refl, local_at-inv ts b.0 b.1) in
    subst (λ (x : Operand × List Lexeme). SpellsBare (operand_of x.0) ts x.1) (same_Some _ r b.2) t

bare_at-again : (o : OperandText) (ts us : List Lexeme) → SpellsBare o ts us → bare_at ts ≡ Some (operand_as o, us)
unfolding bare_at
bare_at-again o ts us s = ap bare_at s.1 ∙ (λ j. Some (record { value = o.value; ty = sym s.0 j }, us))

-- `?T %a`
pub bare_free : (o : OperandText) (ts us : List Lexeme) → SpellsBare o ts us → SpellsOperand o ts us
bare_free o ts us s = subst (λ ty. SpellsTyped ty o.value ts us) (sym s.0) s.1

pub typed_free : (o : OperandText) (ts us : List Lexeme) → SpellsWithType o ts us → SpellsOperand o ts us
typed_free o ts us s = subst (λ ty. SpellsTyped ty o.value ts us) (sym s.1) s.2

pub free_at-sound : (ts : List Lexeme) (r : Operand × List Lexeme) → free_at ts ≡ Some r → SpellsOperand (operand_of r.0) ts r.1
unfolding free_at
free_at-sound ts r p = by (bare_at ts) refl p
  where
    by : (o : Option (Operand × List Lexeme)) → bare_at ts ≡ o → or_else o (typed_at ts) ≡ Some r → SpellsOperand (operand_of r.0) ts r.1
    by (Some x) e q = subst (λ (y : Operand × List Lexeme). SpellsOperand (operand_of y.0) ts y.1) (same_Some x r q) (bare_free (operand_of x.0) ts x.1 (bare_at-sound ts x e))
    by None e q = typed_free (operand_of r.0) ts r.1 (typed_at-sound ts r q)

free_again : (ty : Option TypeTree) (n : List ℕ) (ts us : List Lexeme) → SpellsTyped ty n ts us → free_at ts ≡ Some (record { value = n; ty = ty }, us)
unfolding free_at bare_at
free_again None n ts us s = ap free_at s
free_again (Some t) n ts us s =
    let h : bare_at ts ≡ None = ap (λ o. o >>= λ x. Some (record { value = x.0; ty = None }, x.1)) (local_at-type t ts (local n ∷ us) s.0) in
    ap (λ o. or_else o (typed_at ts)) h ∙ typed_at-again (record { value = n; ty = Some t }) ts us (t, refl, s)

pub free_at-again : (o : OperandText) (ts us : List Lexeme) → SpellsOperand o ts us → free_at ts ≡ Some (operand_as o, us)
free_at-again o ts us s = free_again o.ty o.value ts us s

-- behind a comma
next_bare-sound : (ts : List Lexeme) (r : Operand × List Lexeme) → next_bare_at ts ≡ Some r → (us : List Lexeme) × (ts ≡ punct 44 ∷ us) × SpellsBare (operand_of r.0) us r.1
next_bare-sound ts r p = let a = bind_some (punct_at 44 ts) _ r p in (a.0, punct_at-inv 44 ts a.0 a.1, bare_at-sound a.0 r a.2)

next_free-sound : (ts : List Lexeme) (r : Operand × List Lexeme) → next_free_at ts ≡ Some r → (us : List Lexeme) × (ts ≡ punct 44 ∷ us) × SpellsOperand (operand_of r.0) us r.1
next_free-sound ts r p = let a = bind_some (punct_at 44 ts) _ r p in (a.0, punct_at-inv 44 ts a.0 a.1, free_at-sound a.0 r a.2)

-- the operands of an operation
one_at-sound : (ts : List Lexeme) (r : List Operand × List Lexeme) → one_at ts ≡ Some r → SpellsColumns (columns_of written.One) (operands_of r.0) ts r.1
unfolding one_at
one_at-sound ts r p =
    let a = bind_some (typed_at ts) _ r p in
    let t : SpellsColumns (columns_of written.One) (operands_of (a.0.0 ∷ [])) ts a.0.1 = typed_at-sound ts a.0 a.1 in
    subst (λ (x : List Operand × List Lexeme). SpellsColumns (columns_of written.One) (operands_of x.0) ts x.1) (same_Some _ r a.2) t

two_at-sound : (ts : List Lexeme) (r : List Operand × List Lexeme) → two_at ts ≡ Some r → SpellsColumns (columns_of written.Two) (operands_of r.0) ts r.1
unfolding two_at
two_at-sound ts r p =
    let a = bind_some (typed_at ts) _ r p in
    let b = bind_some (next_bare_at a.0.1) _ r a.2 in
    let n = next_bare-sound a.0.1 b.0 b.1 in
    let f = subst (SpellsWithType (operand_of a.0.0) ts) n.1 (typed_at-sound ts a.0 a.1) in
    let t : SpellsColumns (columns_of written.Two) (operands_of (a.0.0 ∷ b.0.0 ∷ [])) ts b.0.1 = (n.0, f, n.2) in
    subst (λ (x : List Operand × List Lexeme). SpellsColumns (columns_of written.Two) (operands_of x.0) ts x.1) (same_Some _ r b.2) t

shift_at-sound : (ts : List Lexeme) (r : List Operand × List Lexeme) → shift_at ts ≡ Some r → SpellsColumns (columns_of written.Shift) (operands_of r.0) ts r.1
unfolding shift_at
shift_at-sound ts r p =
    let a = bind_some (typed_at ts) _ r p in
    let b = bind_some (next_free_at a.0.1) _ r a.2 in
    let c = bind_some (next_free_at b.0.1) _ r b.2 in
    let m = next_free-sound a.0.1 b.0 b.1 in
    let n = next_free-sound b.0.1 c.0 c.1 in
    let f = subst (SpellsWithType (operand_of a.0.0) ts) m.1 (typed_at-sound ts a.0 a.1) in
    let g = subst (SpellsOperand (operand_of b.0.0) m.0) n.1 m.2 in
    let t : SpellsColumns (columns_of written.Shift) (operands_of (a.0.0 ∷ b.0.0 ∷ c.0.0 ∷ [])) ts c.0.1 = (m.0, f, (n.0, g, n.2)) in
    subst (λ (x : List Operand × List Lexeme). SpellsColumns (columns_of written.Shift) (operands_of x.0) ts x.1) (same_Some _ r c.2) t

pub columns_at-sound : (c : Columns) (ts : List Lexeme) (r : List Operand × List Lexeme) → columns_at c ts ≡ Some r → SpellsColumns (columns_of c) (operands_of r.0) ts r.1
columns_at-sound written.One ts r p = one_at-sound ts r p
columns_at-sound written.Two ts r p = two_at-sound ts r p
columns_at-sound written.Shift ts r p = shift_at-sound ts r p

next_bare-again : (o : OperandText) (us vs : List Lexeme) → SpellsBare o us vs → next_bare_at (punct 44 ∷ us) ≡ Some (operand_as o, vs)
next_bare-again o us vs s = bare_at-again o us vs s

next_free-again : (o : OperandText) (us vs : List Lexeme) → SpellsOperand o us vs → next_free_at (punct 44 ∷ us) ≡ Some (operand_as o, vs)
next_free-again o us vs s = free_at-again o us vs s

-- the operands as the program holds them
abbrev pub operands_as : List OperandText → List Operand
operands_as [] = []
operands_as (o ∷ os) = operand_as o ∷ operands_as os

pub operands_as-of : (os : List OperandText) → operands_of (operands_as os) ≡ os
operands_as-of [] = refl
operands_as-of (o ∷ os) = ap (λ l. o ∷ l) (operands_as-of os)

pub columns_at-again : (c : Columns) (os : List OperandText) (ts us : List Lexeme) → SpellsColumns (columns_of c) os ts us → columns_at c ts ≡ Some (operands_as os, us)
unfolding one_at two_at shift_at
columns_at-again written.One (a ∷ []) ts us s = ap (λ o. o >>= λ x. Some (x.0 ∷ [], x.1)) (typed_at-again a ts us s)
columns_at-again written.Two (a ∷ b ∷ []) ts us s =
    ap (λ o. o >>= λ x. (next_bare_at x.1 >>= λ y. Some (x.0 ∷ y.0 ∷ [], y.1))) (typed_at-again a ts (punct 44 ∷ s.0) s.1)
    ∙ ap (λ o. o >>= λ y. Some (operand_as a ∷ y.0 ∷ [], y.1)) (next_bare-again b s.0 us s.2)
columns_at-again written.Shift (a ∷ b ∷ c ∷ []) ts us s =
    ap (λ o. o >>= λ x. (next_free_at x.1 >>= λ y. (next_free_at y.1 >>= λ z. Some (x.0 ∷ y.0 ∷ z.0 ∷ [], z.1)))) (typed_at-again a ts (punct 44 ∷ s.0) s.1)
    ∙ ap (λ o. o >>= λ y. (next_free_at y.1 >>= λ z. Some (operand_as a ∷ y.0 ∷ z.0 ∷ [], z.1))) (next_free-again b s.0 (punct 44 ∷ s.2.0) s.2.1)
    ∙ ap (λ o. o >>= λ z. Some (operand_as a ∷ operand_as b ∷ z.0 ∷ [], z.1)) (next_free-again c s.2.0 us s.2.2)
columns_at-again written.One [] ts us s = absurd s
columns_at-again written.One (a ∷ b ∷ os) ts us s = absurd s
columns_at-again written.Two [] ts us s = absurd s
columns_at-again written.Two (a ∷ []) ts us s = absurd s
columns_at-again written.Two (a ∷ b ∷ c ∷ os) ts us s = absurd s.2
columns_at-again written.Shift [] ts us s = absurd s
columns_at-again written.Shift (a ∷ []) ts us s = absurd s
columns_at-again written.Shift (a ∷ b ∷ []) ts us s = absurd s.2
columns_at-again written.Shift (a ∷ b ∷ c ∷ d ∷ os) ts us s = absurd s.2.2

-- a word and `%a`, or nothing
pub maybe_at-sound : (keyword : List ℕ) (ts : List Lexeme) (r : Option (List ℕ) × List Lexeme) → maybe_at keyword ts ≡ Some r → SpellsMaybe keyword r.0 ts r.1
unfolding maybe_at
maybe_at-sound keyword ts r p = by (word_at keyword ts) refl p
  where
    by : (o : Option (List Lexeme)) → word_at keyword ts ≡ o → maybe_or ts o ≡ Some r → SpellsMaybe keyword r.0 ts r.1
    by None e q = subst (λ (x : Option (List ℕ) × List Lexeme). SpellsMaybe keyword x.0 ts x.1) (same_Some (None, ts) r q) refl
    by (Some us) e q =
        let b = bind_some (local_at us) _ r q in
        let t : SpellsMaybe keyword (Some b.0.0) ts b.0.1 = word_at-inv keyword ts us e ∙ ap (λ l. word keyword ∷ l) (local_at-inv us b.0 b.1) in
        subst (λ (x : Option (List ℕ) × List Lexeme). SpellsMaybe keyword x.0 ts x.1) (same_Some _ r b.2) t

pub maybe_at-again : (keyword : List ℕ) → pointwise nat_eq keyword keyword ≡ true → (o : Option (List ℕ)) (ts us : List Lexeme) → SpellsMaybe keyword o ts us → word_at keyword us ≡ None
    → maybe_at keyword ts ≡ Some (o, us)
unfolding maybe_at
maybe_at-again keyword same None ts us s h = ap (maybe_at keyword) s ∙ ap (maybe_or us) h
maybe_at-again keyword same (Some n) ts us s h = ap (maybe_at keyword) s ∙ ap (λ b. maybe_or (word keyword ∷ local n ∷ us) (if b then Some (local n ∷ us) else None)) same

-- `[%v, mode %t if %g after %d]`
pub trigger_at-sound : (ts : List Lexeme) (r : TriggerSyntax × List Lexeme) → trigger_at ts ≡ Some r → SpellsTrigger (trigger_of r.0) ts r.1
unfolding trigger_at
trigger_at-sound ts r p =
    let a = bind_some (punct_at 91 ts) _ r p in
    let v = bind_some (local_at a.0) _ r a.2 in
    let b = bind_some (punct_at 44 v.0.1) _ r v.2 in
    let w = bind_some (any_word_at b.0) _ r b.2 in
    let m = bind_some (mode_of w.0.0) _ r w.2 in
    let t = bind_some (local_at w.0.1) _ r m.2 in
    let g = bind_some (maybe_at (codes "if") t.0.1) _ r t.2 in
    let d = bind_some (maybe_at (codes "after") g.0.1) _ r g.2 in
    let z = bind_some (punct_at 93 d.0.1) _ r d.2 in
    let e = opened ts a.0 (punct_at-inv 91 ts a.0 a.1) v.0.0 v.0.1 (local_at-inv a.0 v.0 v.1) b.0 (punct_at-inv 44 v.0.1 b.0 b.1)
    w.0.0 w.0.1 (any_word_at-inv b.0 w.0 w.1) (mode_word m.0) (mode_of-sound w.0.0 m.0 m.1) t.0.0 t.0.1 (local_at-inv w.0.1 t.0 t.1) in
    let f = subst (SpellsMaybe (codes "after") d.0.0 g.0.1) (punct_at-inv 93 d.0.1 z.0 z.1) (maybe_at-sound (codes "after") g.0.1 d.0 d.1) in
    let s : SpellsTrigger (record { value = v.0.0; mode = m.0; trigger = t.0.0; gate = g.0.0; after = d.0.0 }) ts z.0 = (t.0.1, g.0.1, e, maybe_at-sound (codes "if") t.0.1 g.0 g.1, f) in
    subst (λ (x : TriggerSyntax × List Lexeme). SpellsTrigger (trigger_of x.0) ts x.1) (same_Some _ r z.2) s
  where
    opened : (ts rest : List Lexeme) → ts ≡ punct 91 ∷ rest → (v : List ℕ) (vs : List Lexeme) → rest ≡ local v ∷ vs → (bs : List Lexeme) → vs ≡ punct 44 ∷ bs
        → (w : List ℕ) (ws : List Lexeme) → bs ≡ word w ∷ ws → (m : List ℕ) → w ≡ m → (t : List ℕ) (us : List Lexeme) → ws ≡ local t ∷ us
        → ts ≡ punct 91 ∷ local v ∷ punct 44 ∷ word m ∷ local t ∷ us
    opened ts rest p v vs q bs r w ws x m y t us z =
        p ∙ ap (λ l. punct 91 ∷ l) (q ∙ ap (λ l. local v ∷ l) (r ∙ ap (λ l. punct 44 ∷ l) (x ∙ (λ j. word (y j) ∷ z j))))

-- what follows the gate is not another one
no_gate : (o : Option (List ℕ)) (ts more : List Lexeme) → SpellsMaybe (codes "after") o ts (punct 93 ∷ more) → word_at (codes "if") ts ≡ None
no_gate None ts more s = ap (word_at (codes "if")) s
no_gate (Some n) ts more s = ap (word_at (codes "if")) s

-- a trigger as the program holds it
abbrev pub trigger_as : TriggerText → TriggerSyntax
trigger_as g = record { value = g.value; mode = g.mode; trigger = g.trigger; gate = g.gate; after = g.after }

pub trigger_at-again : (g : TriggerText) (ts us : List Lexeme) → SpellsTrigger g ts us → trigger_at ts ≡ Some (trigger_as g, us)
unfolding trigger_at
trigger_at-again g ts us s =
    ap trigger_at s.2
    ∙ ap (λ o. o >>= λ m. (maybe_at (codes "if") s.0
    >>= λ c. (maybe_at (codes "after") c.1 >>= λ d. (punct_at 93 d.1 >>= λ z. Some (record { value = g.value; mode = m; trigger = g.trigger; gate = c.0; after = d.0 }, z)))))
    (mode_of-again g.mode)
    ∙ ap (λ o. o >>= λ c. (maybe_at (codes "after") c.1 >>= λ d. (punct_at 93 d.1 >>= λ z. Some (record { value = g.value; mode = g.mode; trigger = g.trigger; gate = c.0; after = d.0 }, z))))
    (maybe_at-again (codes "if") refl g.gate s.0 s.1 s.3 (no_gate g.after s.1 us s.4))
    ∙ ap (λ o. o >>= λ d. (punct_at 93 d.1 >>= λ z. Some (record { value = g.value; mode = g.mode; trigger = g.trigger; gate = g.gate; after = d.0 }, z)))
    (maybe_at-again (codes "after") refl g.after s.1 (punct 93 ∷ us) s.4 refl)

-- `[%v, %b]`
pub edge_at-sound : (ts : List Lexeme) (r : EdgeSyntax × List Lexeme) → edge_at ts ≡ Some r → SpellsEdge (edge_of r.0) ts r.1
unfolding edge_at
edge_at-sound ts r p =
    let a = bind_some (punct_at 91 ts) _ r p in
    let v = bind_some (local_at a.0) _ r a.2 in
    let b = bind_some (punct_at 44 v.0.1) _ r v.2 in
    let l = bind_some (local_at b.0) _ r b.2 in
    let z = bind_some (punct_at 93 l.0.1) _ r l.2 in
    let s : SpellsEdge (record { value = v.0.0; block = l.0.0 }) ts z.0 =
    punct_at-inv 91 ts a.0 a.1 ∙ ap (λ x. punct 91 ∷ x) (local_at-inv a.0 v.0 v.1 ∙ ap (λ x. local v.0.0 ∷ x) (punct_at-inv 44 v.0.1 b.0 b.1
    ∙ ap (λ x. punct 44 ∷ x) (local_at-inv b.0 l.0 l.1 ∙ ap (λ x. local l.0.0 ∷ x) (punct_at-inv 93 l.0.1 z.0 z.1)))) in
    subst (λ (x : EdgeSyntax × List Lexeme). SpellsEdge (edge_of x.0) ts x.1) (same_Some _ r z.2) s

-- an edge as the program holds it
abbrev pub edge_as : EdgeText → EdgeSyntax
edge_as e = record { value = e.value; block = e.block }

pub edge_at-again : (e : EdgeText) (ts us : List Lexeme) → SpellsEdge e ts us → edge_at ts ≡ Some (edge_as e, us)
unfolding edge_at
edge_at-again e ts us s = ap edge_at s

-- `T %a`, as an argument
pub param_at-sound : (ts : List Lexeme) (r : TypedName × List Lexeme) → param_at ts ≡ Some r → SpellsType r.0.ty ts (local r.0.name ∷ r.1)
unfolding param_at
param_at-sound ts r p =
    let a = bind_some (type_at ts) _ r p in
    let b = bind_some (local_at a.0.1) _ r a.2 in
    let s = subst (SpellsType a.0.0 ts) (local_at-inv a.0.1 b.0 b.1) (type_at-sound ts a.0 a.1) in
    subst (λ (x : TypedName × List Lexeme). SpellsType x.0.ty ts (local x.0.name ∷ x.1)) (same_Some (record { ty = a.0.0; name = b.0.0 }, b.0.1) r b.2) s

pub param_at-again : (a : TypedName) (ts us : List Lexeme) → SpellsType a.ty ts (local a.name ∷ us) → param_at ts ≡ Some (a, us)
unfolding param_at
param_at-again a ts us s = ap (λ x. x >>= λ t. (local_at t.1 >>= λ n. Some (record { ty = t.0; name = n.0 }, n.1))) (type_at-again a.ty ts (local a.name ∷ us) s refl)
