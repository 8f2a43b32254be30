-- What is found as a part of a list takes some of the tokens.
use Rattle.std.specs.Prelude.{◌≡◌, ℕ, ◌<◌, ◌≤◌, List, length, Option, Some, None, codes, refl}
use Rattle.std.proofs.Common.{arith, ap, subst}
use Rattle.std.proofs.lemmas.Option.{same_Some}
use Rattle.lh_unit.specs.Lexemes.{Lexeme}
use Rattle.lh_unit.specs.Spells.{TypedName}
use Rattle.lh_unit.specs.Typing.{or_else}
use Rattle.lh_read_pieces.specs.Pieces.{word_at, any_word_at, local_at, punct_at}
use Rattle.lh_read_pieces.specs.Types.{type_at}
use Rattle.lh_read_pieces.specs.Shorter.{bind_some, word_at-shorter, any_word_at-shorter, local_at-shorter, punct_at-shorter, type_at-shorter}
use Rattle.lh_read_phrases.specs.Words.{mode_of}
use Rattle.lh_read_phrases.specs.Operands.{typed_at, bare_at, free_at, maybe_or, maybe_at, trigger_at, edge_at, param_at}
use Rattle.lh_read_phrases.specs.declared.syntax.Operand.{Operand}
use Rattle.lh_read_phrases.specs.declared.syntax.TriggerSyntax.{TriggerSyntax}
use Rattle.lh_read_phrases.specs.declared.syntax.EdgeSyntax.{EdgeSyntax}

typed_at-shorter : (ts : List Lexeme) (r : Operand × List Lexeme) → typed_at ts ≡ Some r → length r.1 < length ts
unfolding typed_at
typed_at-shorter ts r p =
    let a = bind_some (type_at ts) _ r p in
    let b = bind_some (local_at a.0.1) _ r a.2 in
    let e : b.0.1 ≡ r.1 = cc in
    omega (arith, type_at-shorter ts a.0 a.1, local_at-shorter a.0.1 b.0 b.1, ap length e)

bare_at-shorter : (ts : List Lexeme) (r : Operand × List Lexeme) → bare_at ts ≡ Some r → length r.1 < length ts
unfolding bare_at
bare_at-shorter ts r p =
    let b = bind_some (local_at ts) _ r p in
    let e : b.0.1 ≡ r.1 = cc in
    omega (arith, local_at-shorter ts b.0 b.1, ap length e)

free_rest-shorter : (ts : List Lexeme) (r : Operand × List Lexeme) → free_at ts ≡ Some r → length r.1 < length ts
unfolding free_at
free_rest-shorter ts r p = by (bare_at ts) refl p
  where
    by : (o : Option (Operand × List Lexeme)) → bare_at ts ≡ o → or_else o (typed_at ts) ≡ Some r → length r.1 < length ts
    by (Some x) e q = let f : x.1 ≡ r.1 = cc in omega (arith, bare_at-shorter ts x e, ap length f)
    by None e q = typed_at-shorter ts r q

pub free_at-shorter : (ts : List Lexeme) (a : Operand) (us : List Lexeme) → free_at ts ≡ Some (a, us) → length us < length ts
free_at-shorter ts a us p = free_rest-shorter ts (a, us) p

-- nothing is added
maybe_at-shorter : (keyword : List ℕ) (ts : List Lexeme) (r : Option (List ℕ) × List Lexeme) → maybe_at keyword ts ≡ Some r → length r.1 ≤ length ts
unfolding maybe_at
maybe_at-shorter keyword ts r p = by (word_at keyword ts) refl p
  where
    by : (o : Option (List Lexeme)) → word_at keyword ts ≡ o → maybe_or ts o ≡ Some r → length r.1 ≤ length ts
    by None e q = let f : ts ≡ r.1 = cc in omega (arith, ap length f)
    by (Some us) e q =
        let b = bind_some (local_at us) _ r q in
        let f : b.0.1 ≡ r.1 = cc in
        omega (arith, word_at-shorter keyword ts us e, local_at-shorter us b.0 b.1, ap length f)

-- eight steps down, of which two may stand still
down8 : (a b c d e f g h i : ℕ) → b < a → c < b → d < c → e < d → f < e → g ≤ f → h ≤ g → i < h → i < a
down8 a b c d e f g h i p q r s t u v w = omega arith

down5 : (a b c d e f : ℕ) → b < a → c < b → d < c → e < d → f < e → f < a
down5 a b c d e f p q r s t = omega arith

trigger_rest-shorter : (ts : List Lexeme) (r : TriggerSyntax × List Lexeme) → trigger_at ts ≡ Some r → length r.1 < length ts
unfolding trigger_at
trigger_rest-shorter ts r p =
    let a = bind_some (punct_at 91 ts) _ r p in
    let v = bind_some (local_at a.0) _ r a.2 in
    let b = bind_some (punct_at 44 v.0.1) _ r v.2 in
    let w = bind_some (any_word_at b.0) _ r b.2 in
    let m = bind_some (mode_of w.0.0) _ r w.2 in
    let t = bind_some (local_at w.0.1) _ r m.2 in
    let g = bind_some (maybe_at (codes "if") t.0.1) _ r t.2 in
    let d = bind_some (maybe_at (codes "after") g.0.1) _ r g.2 in
    let z = bind_some (punct_at 93 d.0.1) _ r d.2 in
    subst (λ (x : TriggerSyntax × List Lexeme). length x.1 < length ts) (same_Some _ r z.2)
    (down8 (length ts) (length a.0) (length v.0.1) (length b.0) (length w.0.1) (length t.0.1) (length g.0.1) (length d.0.1) (length z.0)
    (punct_at-shorter 91 ts a.0 a.1) (local_at-shorter a.0 v.0 v.1) (punct_at-shorter 44 v.0.1 b.0 b.1) (any_word_at-shorter b.0 w.0 w.1) (local_at-shorter w.0.1 t.0 t.1)
    (maybe_at-shorter (codes "if") t.0.1 g.0 g.1) (maybe_at-shorter (codes "after") g.0.1 d.0 d.1) (punct_at-shorter 93 d.0.1 z.0 z.1))

pub trigger_at-shorter : (ts : List Lexeme) (a : TriggerSyntax) (us : List Lexeme) → trigger_at ts ≡ Some (a, us) → length us < length ts
trigger_at-shorter ts a us p = trigger_rest-shorter ts (a, us) p

edge_rest-shorter : (ts : List Lexeme) (r : EdgeSyntax × List Lexeme) → edge_at ts ≡ Some r → length r.1 < length ts
unfolding edge_at
edge_rest-shorter ts r p =
    let a = bind_some (punct_at 91 ts) _ r p in
    let v = bind_some (local_at a.0) _ r a.2 in
    let b = bind_some (punct_at 44 v.0.1) _ r v.2 in
    let l = bind_some (local_at b.0) _ r b.2 in
    let z = bind_some (punct_at 93 l.0.1) _ r l.2 in
    subst (λ (x : EdgeSyntax × List Lexeme). length x.1 < length ts) (same_Some _ r z.2)
    (down5 (length ts) (length a.0) (length v.0.1) (length b.0) (length l.0.1) (length z.0)
    (punct_at-shorter 91 ts a.0 a.1) (local_at-shorter a.0 v.0 v.1) (punct_at-shorter 44 v.0.1 b.0 b.1) (local_at-shorter b.0 l.0 l.1) (punct_at-shorter 93 l.0.1 z.0 z.1))

pub edge_at-shorter : (ts : List Lexeme) (a : EdgeSyntax) (us : List Lexeme) → edge_at ts ≡ Some (a, us) → length us < length ts
edge_at-shorter ts a us p = edge_rest-shorter ts (a, us) p

param_rest-shorter : (ts : List Lexeme) (r : TypedName × List Lexeme) → param_at ts ≡ Some r → length r.1 < length ts
unfolding param_at
param_rest-shorter ts r p =
    let a = bind_some (type_at ts) _ r p in
    let b = bind_some (local_at a.0.1) _ r a.2 in
    let e : b.0.1 ≡ r.1 = cc in
    omega (arith, type_at-shorter ts a.0 a.1, local_at-shorter a.0.1 b.0 b.1, ap length e)

pub param_at-shorter : (ts : List Lexeme) (a : TypedName) (us : List Lexeme) → param_at ts ≡ Some (a, us) → length us < length ts
param_at-shorter ts a us p = param_rest-shorter ts (a, us) p
