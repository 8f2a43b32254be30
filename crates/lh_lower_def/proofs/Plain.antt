-- Whatever its rows are, an entity has constants, operations, parts, probes, drives and registers alone.
use Rattle.std.proofs.Common.{Bool, true, false, if◌then◌else◌, ℕ, List, [], ◌∷◌, ◌++◌, Option, Some, None, slice_get}
use Rattle.std.specs.Prelude.{fold, ◌&&◌}
use Rattle.lh_types.specs.Types.{signal_type}
use Rattle.lh_types.specs.Values.{Datum, DatumRow, int_value, time_value, array_value, tuple_value, no_values, more_values}
use Rattle.lh_types.specs.declared.op.Op.TheVariants.{Mux, Array, Tuple}
use Rattle.lh_unit.specs.Contents.{const_text, pure_text, LineText}
use Rattle.lh_unit.specs.Within.{Each}
use Rattle.lh_term.specs.Tree.{Tree, TreeRow, constant, past_of, now_of, operation, choice_of, no_trees, more_trees, operation_on}
use Rattle.lh_term.specs.Make.{is_bit, is_constant, value_in}
use Rattle.lh_term.specs.declared.part.Part.{Part}
use Rattle.lh_emit_def.specs.Given.{Drive, TriggerTree, EdgeRowTree}
use Rattle.lh_emit_def.specs.Emitted.{PartStep, Source, Emitted, nothing_emitted, next_name, gives, gives_term, typed, takes_steps, arg_name, unless_there, need_part}
use Rattle.lh_emit_def.specs.Needs.{constants, operands_in, gives_operation, need_value, need_values, probe, pair_of, need_pair, need, need_all}
use Rattle.lh_emit_def.specs.Entities.{need_cond, need_drive, emit_drive, emit_drives, need_trigger, need_register, emit_register_by, emit_register, emit_probes, comb, edge, once}
use Rattle.lh_emit_def.specs.Laws.{IsEmittedKind}

abbrev pub Plain : Emitted → Type 0
Plain e = Each (λ (l : LineText). IsEmittedKind l.inst) e.lines

one-more : (ls : List LineText) (l : LineText) → Each (λ (m : LineText). IsEmittedKind m.inst) ls → IsEmittedKind l.inst → Each (λ (m : LineText). IsEmittedKind m.inst) (ls ++ l ∷ [])
one-more [] l h k = (k, tt)
one-more (x ∷ ls) l h k = (h.0, one-more ls l h.1 k)

unless-plain : (o : Option (List ℕ)) (f : Emitted → Emitted) (e : Emitted) → Plain e → Plain (f e) → Plain (unless_there o f e)
unless-plain None f e h k = k
unless-plain (Some n) f e h k = h

if-plain : (b : Bool) (x y : Emitted) → Plain x → Plain y → Plain (if b then x else y)
if-plain true x y h k = h
if-plain false x y h k = k

module _ (s : Source) where
  steps-plain : (p : Part) (n : List ℕ) (more : List PartStep) (e : Emitted) → Plain e → Plain (takes_steps s p n more e)
  steps-plain p n [] e h = h
  steps-plain p n (st ∷ more) e h = steps-plain p (next_name s e) more (gives s (pure_text st.op (typed n (signal_type st.to.ty) ∷ [])) e) (one-more e.lines _ h tt)

  part-plain : (p : Part) (e : Emitted) → Plain e → Plain (need_part s p e)
  part-plain p e h =
      unless-plain (e.parts p) (takes_steps s p (arg_name (slice_get s.args p.arg)) (s.steps p)) e h (steps-plain p (arg_name (slice_get s.args p.arg)) (s.steps p) e h)

  mutual
    value-plain : (v : Datum) (e : Emitted) → Plain e → Plain (need_value s v e)
    value-plain (int_value w b) e h =
        unless-plain (e.terms (constant (int_value w b))) (gives_term s (constant (int_value w b)) (const_text (int_value w b))) e h (one-more e.lines _ h tt)
    value-plain (time_value d) e h =
        unless-plain (e.terms (constant (time_value d))) (gives_term s (constant (time_value d)) (const_text (time_value d))) e h (one-more e.lines _ h tt)
    value-plain (array_value vs) e h =
        unless-plain (e.terms (constant (array_value vs))) (λ x. gives_operation s (constant (array_value vs)) Array (constants vs) (need_values s vs x)) e h
        (one-more (need_values s vs e).lines _ (values-plain vs e h) tt)
    value-plain (tuple_value vs) e h =
        unless-plain (e.terms (constant (tuple_value vs))) (λ x. gives_operation s (constant (tuple_value vs)) Tuple (constants vs) (need_values s vs x)) e h
        (one-more (need_values s vs e).lines _ (values-plain vs e h) tt)

    values-plain : (vs : DatumRow) (e : Emitted) → Plain e → Plain (need_values s vs e)
    values-plain no_values e h = h
    values-plain (more_values v vs) e h = values-plain vs (need_value s v e) (value-plain v e h)

  pair-plain : (f t : Tree) (need_f need_t : Emitted → Emitted) → ((x : Emitted) → Plain x → Plain (need_f x)) → ((x : Emitted) → Plain x → Plain (need_t x)) → (e : Emitted) → Plain e →
      Plain (need_pair s f t need_f need_t e)
  pair-plain f t need_f need_t hf ht e h =
      if-plain (is_constant f && is_constant t) (need_value s (array_value (more_values (value_in f) (more_values (value_in t) no_values))) e)
      (unless_there (e.terms (operation_on Array (f ∷ t ∷ []))) (λ x. gives_operation s (operation_on Array (f ∷ t ∷ [])) Array (f ∷ t ∷ []) (need_t (need_f x))) e)
      (value-plain (array_value (more_values (value_in f) (more_values (value_in t) no_values))) e h)
      (unless-plain (e.terms (operation_on Array (f ∷ t ∷ []))) (λ x. gives_operation s (operation_on Array (f ∷ t ∷ [])) Array (f ∷ t ∷ []) (need_t (need_f x))) e h
      (one-more (need_t (need_f e)).lines _ (ht (need_f e) (hf e h)) tt))

  mutual
    need-plain : (t : Tree) (e : Emitted) → Plain e → Plain (need s t e)
    need-plain (constant v) e h = value-plain v e h
    need-plain (past_of p) e h = unless-plain (e.terms (past_of p)) (λ x. probe s (past_of p) p (need_part s p x)) e h (one-more (need_part s p e).lines _ (part-plain p e h) tt)
    need-plain (now_of p) e h = unless-plain (e.terms (now_of p)) (λ x. probe s (now_of p) p (need_part s p x)) e h (one-more (need_part s p e).lines _ (part-plain p e h) tt)
    need-plain (operation op ts) e h =
        unless-plain (e.terms (operation op ts)) (λ x. gives_operation s (operation op ts) op (operands_in ts) (need_all s ts x)) e h
        (one-more (need_all s ts e).lines _ (all-plain ts e h) tt)
    need-plain (choice_of c f t) e h =
        unless-plain (e.terms (choice_of c f t)) (λ x. gives_operation s (choice_of c f t) Mux (pair_of f t ∷ c ∷ []) (need s c (need_pair s f t (need s f) (need s t) x))) e h
        (one-more (need s c (need_pair s f t (need s f) (need s t) e)).lines _
        (need-plain c (need_pair s f t (need s f) (need s t) e) (pair-plain f t (need s f) (need s t) (λ x k. need-plain f x k) (λ x k. need-plain t x k) e h)) tt)

    all-plain : (ts : TreeRow) (e : Emitted) → Plain e → Plain (need_all s ts e)
    all-plain no_trees e h = h
    all-plain (more_trees t ts) e h = all-plain ts (need s t e) (need-plain t e h)

  cond-plain : (c : Tree) (e : Emitted) → Plain e → Plain (need_cond s c e)
  cond-plain c e h = if-plain (is_bit 1 c) e (need s c e) h (need-plain c e h)

  drive-plain : (d : Drive) (e : Emitted) → Plain e → Plain (emit_drive s e d)
  drive-plain d e h =
      one-more (need_drive s d e).lines _
      (part-plain d.part (need_cond s d.cond (need s d.delay (need s d.value e)))
      (cond-plain d.cond (need s d.delay (need s d.value e)) (need-plain d.delay (need s d.value e) (need-plain d.value e h)))) tt

  drives-plain : (ds : List Drive) (e : Emitted) → Plain e → Plain (emit_drives s ds e)
  drives-plain [] e h = h
  drives-plain (d ∷ ds) e h = drives-plain ds (emit_drive s e d) (drive-plain d e h)

  probes-plain : (ps : List Part) (e : Emitted) → Plain e → Plain (emit_probes s ps e)
  probes-plain [] e h = h
  probes-plain (p ∷ ps) e h = probes-plain ps (need s (now_of p) e) (need-plain (now_of p) e h)

  triggers-plain : (r : EdgeRowTree) (gs : List TriggerTree) (e : Emitted) → Plain e → Plain (fold (need_trigger s r) e gs)
  triggers-plain r [] e h = h
  triggers-plain r (g ∷ gs) e h =
      let a = need s (now_of g.part) (need s r.value e) in
      triggers-plain r gs (need_trigger s r e g)
      (need-plain r.delay (need_cond s g.gate a) (cond-plain g.gate a (need-plain (now_of g.part) (need s r.value e) (need-plain r.value e h))))

  register-plain : (r : EdgeRowTree) (gs : List TriggerTree) (e : Emitted) → Plain e → Plain (emit_register_by s r gs e)
  register-plain r [] e h = h
  register-plain r (g ∷ gs) e h =
      one-more (need_register s r e).lines _ (part-plain r.part (fold (need_trigger s r) e r.triggers) (triggers-plain r r.triggers e h)) tt

  registers-plain : (rs : List EdgeRowTree) (e : Emitted) → Plain e → Plain (fold (emit_register s) e rs)
  registers-plain [] e h = h
  registers-plain (r ∷ rs) e h = registers-plain rs (emit_register s e r) (register-plain r r.triggers e h)

  pub comb-plain : (waited : List Part) (ds : List Drive) → Plain (comb s waited ds)
  comb-plain waited ds = drives-plain ds (emit_probes s waited (nothing_emitted s)) (probes-plain waited (nothing_emitted s) tt)

  pub edge-plain : (rs : List EdgeRowTree) → Plain (edge s rs)
  edge-plain rs = registers-plain rs (nothing_emitted s) tt

  pub once-plain : (ds : List Drive) → Plain (once s ds)
  once-plain ds = drives-plain ds (nothing_emitted s) tt
