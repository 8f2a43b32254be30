-- The id of a term stays that of the term, while names are added and the entity gets longer.
use Rattle.std.proofs.Common.{◌≡◌, ℕ, ◌+◌, Bool, true, false, if◌then◌else◌, List, [], ◌∷◌, ◌++◌, length, map, Option, Some, None, unwrap_or, refl, ap, sym, ◌∙◌, arith, length-append}
use Rattle.std.specs.Prelude.{slice_index_or}
use Rattle.std.proofs.Math.ListN.{get_or-append}
use Rattle.lh_unit.specs.Naming.{value_text, maybe_text}
use Rattle.lh_unit.specs.Naming as unit
use Rattle.lh_unit.specs.Within.{Each, MaybeWithin, TriggerWithin}
use Rattle.lh_unit.specs.declared.inst.ValueId.{ValueId}
use Rattle.lh_unit.specs.declared.inst.RegTrigger.{RegTrigger}
use Rattle.lh_term.specs.Tree.{Tree, now_of}
use Rattle.lh_term.specs.Make.{is_bit}
use Rattle.lh_term.specs.declared.term.TermNode.{TermNode}
use Rattle.lh_edge.specs.Triggers.{TriggerTree, EdgeRowTree}
use Rattle.lh_emit_def.specs.Emitted.{Source, Emitted, term_name}
use Rattle.lh_emit_def.specs.Needs.{need}
use Rattle.lh_emit_def.specs.Entities.{need_cond, cond_name, trigger_text}
use Rattle.lh_emit_body.specs.Lines.{naming, values_alone, NamesGrow}
use Rattle.lh_emit.specs.Emitting.{IsNeeded}
use Rattle.lh_emit_shapes.specs.Putting.{IsTested, IsIdOfTerm, TellsCond, TellsSome, TellsTrigger, TellsTriggers}
use Rattle.lh_emit.specs.declared.emitter.Emitter.{Emitter}
use Rattle.lh_emit_shapes.proofs.EntityGrowth.{Extends, need-named}

pub names-then : (a b c : List (List ℕ)) → NamesGrow a b → NamesGrow b c → NamesGrow a c
names-then a b c g h = (g.0 ++ h.0, h.1 ∙ ap (λ (l : List (List ℕ)). l ++ h.0) g.1 ∙ by a g.0 h.0)
  where
    by : (xs ys zs : List (List ℕ)) → (xs ++ ys) ++ zs ≡ xs ++ (ys ++ zs)
    by [] ys zs = refl
    by (x ∷ xs) ys zs = ap (λ l. x ∷ l) (by xs ys zs)

pub names-same : (a : List (List ℕ)) → NamesGrow a a
names-same a = ([], sym (by a))
  where
    by : (xs : List (List ℕ)) → xs ++ [] ≡ xs
    by [] = refl
    by (x ∷ xs) = ap (λ l. x ∷ l) (by xs)

-- ---- one term

pub tells-needed : (ms : List TermNode) (s : Source) (t : Tree) (e : Emitted) (y : Emitter) (v : ValueId) → IsNeeded ms s t e y v → IsIdOfTerm y.lines.names (need s t e) t v
tells-needed ms s t e y v n = let k = need-named s t e in record { name = n.name; within = n.within; named = (k.name, k.is) }

module _ (old new : List (List ℕ)) (e x : Emitted) (g : NamesGrow old new) (k : Extends e x) where
  pub tells-on : (t : Tree) (v : ValueId) → IsIdOfTerm old e t v → IsIdOfTerm new x t v
  tells-on t v h =
      let a : slice_index_or new v.0 [] ≡ slice_index_or old v.0 [] = ap (λ (l : List (List ℕ)). slice_index_or l v.0 []) g.1 ∙ get_or-append old g.0 [] v.0 h.within in
      let b : x.terms t ≡ Some h.named.0 = k.terms t h.named.0 h.named.1 in
      let c : length new ≡ length old + length g.0 = ap length g.1 ∙ length-append old g.0 in
      record {
        name = a ∙ h.name ∙ ap (λ o. unwrap_or o []) (h.named.1 ∙ sym b);
        within = omega (arith, c, h.within);
        named = (h.named.0, b);
      }

  pub cond-on : (c : Tree) (v : Option ValueId) → TellsCond old e c v → TellsCond new x c v
  cond-on c None h = h
  cond-on c (Some v) h = (h.0, tells-on c v h.1)

  some-on : (t : Tree) (v : Option ValueId) → TellsSome old e t v → TellsSome new x t v
  some-on t None h = h
  some-on t (Some v) h = tells-on t v h

  pub trigger-on : (r : EdgeRowTree) (g : TriggerTree) (t : RegTrigger) → TellsTrigger old e r g t → TellsTrigger new x r g t
  trigger-on r g t h = record {
    value = tells-on r.value t.value h.value;
    mode = h.mode;
    now = tells-on (now_of g.part) t.trigger h.now;
    gate = cond-on g.gate t.gate h.gate;
    after = some-on r.delay t.after h.after;
  }

  pub triggers-on : (r : EdgeRowTree) (gs : List TriggerTree) (ts : List RegTrigger) → TellsTriggers old e r gs ts → TellsTriggers new x r gs ts
  triggers-on r [] [] h = tt
  triggers-on r [] (t ∷ ts) h = absurd h
  triggers-on r (g ∷ gs) [] h = absurd h
  triggers-on r (g ∷ gs) (t ∷ ts) h = (trigger-on r g t h.0, triggers-on r gs ts h.1)

-- ---- a condition

pub tells-tested : (ms : List TermNode) (s : Source) (c : Tree) (e : Emitted) (y : Emitter) (v : Option ValueId) → IsTested ms s c e y v → TellsCond y.lines.names (need_cond s c e) c v
tells-tested ms s c e y v n = by (is_bit 1 c) refl v n.name n.within
  where
    by : (b : Bool) → is_bit 1 c ≡ b → (v : Option ValueId) → maybe_text (naming y.lines.names) v ≡ cond_name (need_cond s c e) c → MaybeWithin (values_alone (length y.lines.names)) v →
        TellsCond y.lines.names (need_cond s c e) c v
    by true q None h w = q
    by true q (Some v) h w =
        let z : Some (value_text (naming y.lines.names) v) ≡ None = h ∙ ap (λ b. if b then None else Some (term_name (need_cond s c e) c)) q in
        absurd cc
    by false q None h w =
        let z : None ≡ Some (term_name (need_cond s c e) c) = h ∙ ap (λ b. if b then None else Some (term_name (need_cond s c e) c)) q in
        absurd cc
    by false q (Some v) h w =
        let z : Some (value_text (naming y.lines.names) v) ≡ Some (term_name (need_cond s c e) c) = h ∙ ap (λ b. if b then None else Some (term_name (need_cond s c e) c)) q in
        let k = need-named s c e in
        let same : need_cond s c e ≡ need s c e = ap (λ b. if b then e else need s c e) q in
        (q, record { name = cc; within = w; named = (k.name, ap (λ (x : Emitted). x.terms c) same ∙ k.is) })

pub cond-text : (names : List (List ℕ)) (e : Emitted) (c : Tree) (v : Option ValueId) → TellsCond names e c v → maybe_text (naming names) v ≡ cond_name e c
cond-text names e c None h = sym (ap (λ b. if b then None else Some (term_name e c)) h)
cond-text names e c (Some v) h = ap Some h.1.name ∙ sym (ap (λ b. if b then None else Some (term_name e c)) h.0)

pub cond-within : (names : List (List ℕ)) (e : Emitted) (c : Tree) (v : Option ValueId) → TellsCond names e c v → MaybeWithin (values_alone (length names)) v
cond-within names e c None h = tt
cond-within names e c (Some v) h = h.1.within

-- ---- triggers

some-text : (names : List (List ℕ)) (e : Emitted) (t : Tree) (v : Option ValueId) → TellsSome names e t v → maybe_text (naming names) v ≡ Some (term_name e t)
some-text names e t None h = absurd h
some-text names e t (Some v) h = ap Some h.name

some-within : (names : List (List ℕ)) (e : Emitted) (t : Tree) (v : Option ValueId) → TellsSome names e t v → MaybeWithin (values_alone (length names)) v
some-within names e t None h = tt
some-within names e t (Some v) h = h.within

module _ (names : List (List ℕ)) (e : Emitted) (r : EdgeRowTree) where
  trigger-text : (g : TriggerTree) (t : RegTrigger) → TellsTrigger names e r g t → unit.trigger_text (naming names) t ≡ trigger_text r e g
  trigger-text g t h =
      let a = h.value.name in
      let b = h.mode in
      let c = h.now.name in
      let d = cond-text names e g.gate t.gate h.gate in
      let f = some-text names e r.delay t.after h.after in
      λ i. record { value = a i; mode = b i; trigger = c i; gate = d i; after = f i }

  pub triggers-text : (gs : List TriggerTree) (ts : List RegTrigger) → TellsTriggers names e r gs ts → map (unit.trigger_text (naming names)) ts ≡ map (trigger_text r e) gs
  triggers-text [] [] h = refl
  triggers-text [] (t ∷ ts) h = absurd h
  triggers-text (g ∷ gs) [] h = absurd h
  triggers-text (g ∷ gs) (t ∷ ts) h = let a = trigger-text g t h.0 in let b = triggers-text gs ts h.1 in λ i. a i ∷ b i

  pub triggers-within : (gs : List TriggerTree) (ts : List RegTrigger) → TellsTriggers names e r gs ts → Each (TriggerWithin (values_alone (length names))) ts
  triggers-within [] [] h = tt
  triggers-within [] (t ∷ ts) h = absurd h
  triggers-within (g ∷ gs) [] h = absurd h
  triggers-within (g ∷ gs) (t ∷ ts) h =
      ((h.0.value.within, h.0.now.within, cond-within names e g.gate t.gate h.0.gate, some-within names e r.delay t.after h.0.after), triggers-within gs ts h.1)

  -- one more
  pub triggers-more : (gs : List TriggerTree) (ts : List RegTrigger) (g : TriggerTree) (t : RegTrigger) → TellsTriggers names e r gs ts → TellsTrigger names e r g t
      → TellsTriggers names e r (gs ++ g ∷ []) (ts ++ t ∷ [])
  triggers-more [] [] g t h k = (k, tt)
  triggers-more [] (u ∷ ts) g t h k = absurd h
  triggers-more (f ∷ gs) [] g t h k = absurd h
  triggers-more (f ∷ gs) (u ∷ ts) g t h k = (h.0, triggers-more gs ts g t h.1 k)
