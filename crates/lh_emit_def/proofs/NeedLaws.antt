-- What each instruction of an entity keeps, need of a term keeps; and the term has a name then.
use Rattle.std.proofs.Common.{◌≡◌, ℕ, Bool, true, false, ◌&&◌, List, [], ◌∷◌, Option, Some, None, slice_get, refl, sym, subst, inl, inr, ◌⊎◌}
use Rattle.std.specs.Option.{is_none}
use Rattle.lh_types.specs.Types.{IsData}
use Rattle.lh_types.specs.Values.{Datum, DatumRow, int_value, time_value, array_value, tuple_value, no_values, more_values}
use Rattle.lh_types.specs.Parts.{parts_of}
use Rattle.lh_types.specs.Faults.{array_fault}
use Rattle.lh_types.specs.Same.{and_both}
use Rattle.lh_types.specs.declared.op.Op.{Op}
use Rattle.lh_types.specs.declared.op.Op.TheVariants.{Mux, Array, Tuple}
use Rattle.lh_unit.specs.Contents.{const_text}
use Rattle.lh_unit.specs.Within.{Each}
use Rattle.lh_term.specs.Tree.{Tree, TreeRow, constant, past_of, now_of, operation, choice_of, no_trees, more_trees, tree_row, operation_on}
use Rattle.lh_term.specs.Types.{FitsTerm, IsTyped, AreTyped, type_of}
use Rattle.lh_term.specs.Mean.{Valuation}
use Rattle.lh_term.specs.Make.{is_constant}
use Rattle.lh_term.specs.declared.part.Part.{Part}
use Rattle.lh_emit_def.specs.Emitted.{Source, Emitted, gives_term, takes_steps, arg_name, unless_there, need_part}
use Rattle.lh_emit_def.specs.Needs.{gives_operation, constants, need_value, need_values, operands_in, probe, pair_of, need_pair, need, need_all}
use Rattle.lh_emit_def.specs.Entities.{choices_fit, all_choices_fit}
use Rattle.lh_term.specs.Leaves.{AllParts, AllPartsIn}
use Rattle.lh_emit_def.specs.Ways.{IsReached}
use Rattle.lh_emit_def.proofs.Induction.{IsNamed, IsNamedPart, Kept, kept-same, kept-then, term-named, term-kept, steps-named, steps-kept}
use Rattle.lh_emit_def.proofs.ComputedTerms.{value, Computes, operation-computes, array-computes, tuple-computes, array-parts, tuple-parts, choice-computes, pair-constant, pair-else}
use Rattle.lh_emit_def.proofs.Pairs.{pair-typed, pair-constant_typed}
use Rattle.lh_emit_def.proofs.Rows.{HasRow, operation-row, array-constant_row, tuple-constant_row, choice-row}

-- an integer or a time
abbrev pub IsScalar : Datum → Type 0
IsScalar (int_value w b) = Unit {0}
IsScalar (time_value d) = Unit {0}
IsScalar v = ⊥

-- it is no part's value
abbrev pub NotProbe : Tree → Type 0
NotProbe (now_of p) = ⊥
NotProbe (past_of p) = ⊥
NotProbe _ = Unit {0}

-- the term is a part's value
pub record IsProbe (p : Part) (t : Tree) : Type 0 where
  pub is : (t ≡ now_of p) ⊎ (t ≡ past_of p)
  pub typed : IsTyped t
  pub is_data : IsData p.ty
  pub type : type_of t ≡ p.ty
  pub mean : (v : Valuation) → value v t ≡ v p

-- what each instruction that gives a value keeps
pub record Keeps (s : Source) (Good : Part → Type 0) (Inv : Emitted → Type 0) : Type 0 where
  pub scalar : (v : Datum) (e : Emitted) → IsScalar v → FitsTerm v → Inv e → Inv (gives_term s (constant v) (const_text v) e)
  pub computed : (op : Op) (ts : List Tree) (t : Tree) (e : Emitted) → Computes op ts t → HasRow op ts t → NotProbe t → Each (IsNamed e) ts → Inv e → Inv (gives_operation s t op ts e)
  pub probed : (p : Part) (t : Tree) (e : Emitted) → IsProbe p t → Good p → IsNamedPart e p → Inv e → Inv (probe s t p e)
  pub stepped : (p : Part) (e : Emitted) → e.parts p ≡ None → IsReached s p → Inv e → Inv (takes_steps s p (arg_name (slice_get s.args p.arg)) (s.steps p) e)

-- after need of a term
pub record Needed (Inv : Emitted → Type 0) (e x : Emitted) (t : Tree) : Type 0 where
  pub inv : Inv x
  pub named : IsNamed x t
  pub kept : Kept e x

-- after need of terms
pub record AllNeeded (Inv : Emitted → Type 0) (e x : Emitted) (ts : List Tree) : Type 0 where
  pub inv : Inv x
  pub named : Each (IsNamed x) ts
  pub kept : Kept e x

-- after need of a part
pub record PartNeeded (Inv : Emitted → Type 0) (e x : Emitted) (p : Part) : Type 0 where
  pub inv : Inv x
  pub named : IsNamedPart x p
  pub kept : Kept e x

module _ (s : Source) (Good : Part → Type 0) (reached : (p : Part) → Good p → IsReached s p) (Inv : Emitted → Type 0) (k : Keeps s Good Inv) where
  -- what is there is not emitted again
  unless-needed : (e : Emitted) (t : Tree) (f : Emitted → Emitted) → Inv e → Needed Inv e (f e) t → Needed Inv e (unless_there (e.terms t) f e) t
  unless-needed e t f i n = at (e.terms t) refl
    where
      at : (o : Option (List ℕ)) → e.terms t ≡ o → Needed Inv e (unless_there o f e) t
      at None q = n
      at (Some m) q = record { inv = i; named = record { name = m; is = q }; kept = kept-same e }

  -- an operation on terms that were emitted
  after-operation : (e x : Emitted) (op : Op) (ts : List Tree) (t : Tree) → Computes op ts t → HasRow op ts t → NotProbe t → AllNeeded Inv e x ts → Needed Inv e (gives_operation s t op ts x) t
  after-operation e x op ts t c r o n = record {
    inv = k.computed op ts t x c r o n.named n.inv;
    named = term-named s t _ x;
    kept = kept-then e x _ n.kept (term-kept s t _ x);
  }

  -- two terms one after the other
  two-needed : (e x y : Emitted) (t u : Tree) → Needed Inv e x t → Needed Inv x y u → AllNeeded Inv e y (t ∷ u ∷ [])
  two-needed e x y t u a b = record { inv = b.inv; named = (b.kept.terms t a.named, (b.named, tt)); kept = kept-then e x y a.kept b.kept }

  scalar-needed : (v : Datum) → IsScalar v → FitsTerm v → (e : Emitted) → Inv e → Needed Inv e (unless_there (e.terms (constant v)) (gives_term s (constant v) (const_text v)) e) (constant v)
  scalar-needed v c w e i = unless-needed e (constant v) (gives_term s (constant v) (const_text v)) i
      (record { inv = k.scalar v e c w i; named = term-named s (constant v) _ e; kept = term-kept s (constant v) _ e })

  mutual
    pub value-needed : (v : Datum) → FitsTerm v → (e : Emitted) → Inv e → Needed Inv e (need_value s v e) (constant v)
    value-needed (int_value n b) w e i = scalar-needed (int_value n b) tt w e i
    value-needed (time_value d) w e i = scalar-needed (time_value d) tt w e i
    value-needed (array_value vs) w e i =
        unless-needed e (constant (array_value vs)) _ i
        (after-operation e _ Array (constants vs) (constant (array_value vs)) (array-computes vs w) (array-constant_row vs w) tt (values-needed vs (array-parts vs w) e i))
    value-needed (tuple_value vs) w e i =
        unless-needed e (constant (tuple_value vs)) _ i
        (after-operation e _ Tuple (constants vs) (constant (tuple_value vs)) (tuple-computes vs w) (tuple-constant_row vs w) tt (values-needed vs (tuple-parts vs w) e i))

    values-needed : (vs : DatumRow) → Each FitsTerm (parts_of vs) → (e : Emitted) → Inv e → AllNeeded Inv e (need_values s vs e) (constants vs)
    values-needed no_values w e i = record { inv = i; named = tt; kept = kept-same e }
    values-needed (more_values v vs) w e i =
        let a = value-needed v w.0 e i in
        let b = values-needed vs w.1 (need_value s v e) a.inv in
        record { inv = b.inv; named = (b.kept.terms (constant v) a.named, b.named); kept = kept-then e _ _ a.kept b.kept }

  -- need of a part
  pub part-needed : (p : Part) → IsReached s p → (e : Emitted) → Inv e → PartNeeded Inv e (need_part s p e) p
  part-needed p r e i = at (e.parts p) refl
    where
      at : (o : Option (List ℕ)) → e.parts p ≡ o → PartNeeded Inv e (unless_there o (takes_steps s p (arg_name (slice_get s.args p.arg)) (s.steps p)) e) p
      at None q = record { inv = k.stepped p e q r i; named = steps-named s p _ (s.steps p) e; kept = steps-kept s p _ (s.steps p) e }
      at (Some m) q = record { inv = i; named = record { name = m; is = q }; kept = kept-same e }

  probe-needed : (p : Part) (t : Tree) → IsProbe p t → Good p → (e : Emitted) → Inv e → Needed Inv e (unless_there (e.terms t) (λ x. probe s t p (need_part s p x)) e) t
  probe-needed p t c r e i =
      let a = part-needed p (reached p r) e i in
      unless-needed e t (λ x. probe s t p (need_part s p x)) i
      (record { inv = k.probed p t (need_part s p e) c r a.named a.inv; named = term-named s t _ (need_part s p e); kept = kept-then e _ _ a.kept (term-kept s t _ (need_part s p e)) })

  -- the array of both terms of a choice
  pair-needed : (c f t : Tree) (need_f need_t : Emitted → Emitted) → IsTyped (choice_of c f t) → is_none (array_fault 2 (type_of f)) ≡ true → (e : Emitted) → Inv e →
      Needed Inv e (need_f e) f → Needed Inv (need_f e) (need_t (need_f e)) t → Needed Inv e (need_pair s f t need_f need_t e) (pair_of f t)
  pair-needed c f t need_f need_t w h e i a b = at (is_constant f) (is_constant t) refl refl
    where
      other : (is_constant f && is_constant t) ≡ false → Needed Inv e (need_pair s f t need_f need_t e) (pair_of f t)
      other q =
          subst (Needed Inv e (need_pair s f t need_f need_t e)) (sym (pair-else f t q))
          (rw q (unless-needed e (operation_on Array (f ∷ t ∷ [])) _ i
          (after-operation e _ Array (f ∷ t ∷ []) (operation_on Array (f ∷ t ∷ [])) (operation-computes Array _ (pair-typed c f t w h))
          (operation-row Array (tree_row (f ∷ t ∷ [])) (pair-typed c f t w h)) tt (two-needed e _ _ f t a b))))

      at : (x y : Bool) → is_constant f ≡ x → is_constant t ≡ y → Needed Inv e (need_pair s f t need_f need_t e) (pair_of f t)
      at true true p q =
          subst (Needed Inv e (need_pair s f t need_f need_t e)) (sym (pair-constant f t p q)) (rw (p, q) (value-needed _ (pair-constant_typed c f t w h p q) e i))
      at true false p q = other (rw (p, q) refl)
      at false true p q = other (rw p refl)
      at false false p q = other (rw p refl)

  mutual
    pub need-needed : (t : Tree) → IsTyped t → choices_fit t ≡ true → AllParts Good t → (e : Emitted) → Inv e → Needed Inv e (need s t e) t
    need-needed (constant v) w h r e i = value-needed v w e i
    need-needed (past_of p) w h r e i = probe-needed p (past_of p) (record { is = inr refl; typed = w; is_data = w; type = refl; mean = λ v. refl }) r e i
    need-needed (now_of p) w h r e i = probe-needed p (now_of p) (record { is = inl refl; typed = w; is_data = w; type = refl; mean = λ v. refl }) r e i
    need-needed (operation op ts) w h r e i =
        unless-needed e (operation op ts) _ i (after-operation e _ op (operands_in ts) (operation op ts) (operation-computes op ts w) (operation-row op ts w) tt (all-needed ts w.0 h r e i))
    need-needed (choice_of c f t) w h r e i =
        let g = and_both (is_none (array_fault 2 (type_of f))) (choices_fit f && (choices_fit t && choices_fit c)) h in
        let g1 = and_both (choices_fit f) (choices_fit t && choices_fit c) g.1 in
        let g2 = and_both (choices_fit t) (choices_fit c) g1.1 in
        let a = need-needed f w.1 g1.0 r.1 e i in
        let b = need-needed t w.2 g2.0 r.2 (need s f e) a.inv in
        let p = pair-needed c f t (need s f) (need s t) w g.0 e i a b in
        let d = need-needed c w.0 g2.1 r.0 (need_pair s f t (need s f) (need s t) e) p.inv in
        unless-needed e (choice_of c f t) _ i (after-operation e _ Mux (pair_of f t ∷ c ∷ []) (choice_of c f t) (choice-computes c f t w) (choice-row c f t w g.0) tt
        (two-needed e _ _ (pair_of f t) c p d))

    pub all-needed : (ts : TreeRow) → AreTyped ts → all_choices_fit ts ≡ true → AllPartsIn Good ts → (e : Emitted) → Inv e → AllNeeded Inv e (need_all s ts e) (operands_in ts)
    all-needed no_trees w h r e i = record { inv = i; named = tt; kept = kept-same e }
    all-needed (more_trees t ts) w h r e i =
        let g = and_both (choices_fit t) (all_choices_fit ts) h in
        let a = need-needed t w.0 g.0 r.0 e i in
        let b = all-needed ts w.1 g.1 r.1 (need s t e) a.inv in
        record { inv = b.inv; named = (b.kept.terms t a.named, b.named); kept = kept-then e _ _ a.kept b.kept }
