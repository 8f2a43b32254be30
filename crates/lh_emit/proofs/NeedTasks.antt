-- Need of a term is what its steps do.
use Rattle.std.proofs.Common.{◌≡◌, ℕ, ◌+◌, ◌<◌, ◌≤◌, Bool, true, false, ◌&&◌, List, [], ◌∷◌, ◌++◌, length, map, Option, Some, None, slice_get, refl, ap, sym, ◌∙◌, subst, arith, length-append}
use Rattle.lh_types.specs.Values.{Datum, DatumRow, int_value, time_value, array_value, tuple_value, no_values, more_values}
use Rattle.lh_types.specs.declared.op.Op.{Op}
use Rattle.lh_types.specs.declared.op.Op.TheVariants.{Array}
use Rattle.lh_unit.specs.Contents.{InstText, LineText}
use Rattle.lh_unit.specs.Within.{Each}
use Rattle.lh_term.specs.Tree.{Tree, TreeRow, constant, past_of, now_of, operation, choice_of, no_trees, more_trees, operation_on}
use Rattle.lh_term.specs.SameTree.{same_tree, same_tree-refl}
use Rattle.lh_term.specs.Make.{is_constant, value_in}
use Rattle.lh_term.specs.declared.part.Part.{Part}
use Rattle.lh_emit_def.specs.Emitted.{Source, Emitted, PartStep, gives_term, next_name, takes_steps, arg_name, unless_there, need_part}
use Rattle.lh_emit_def.specs.Needs.{gives_operation, constants, need_value, need_values, operands_in, probe, pair_of, need_pair, need, need_all}
use Rattle.lh_emit_def.proofs.ComputedTerms.{pair-constant, pair-else}
use Rattle.lh_emit.specs.Tasks.{made_of, makes, Step, need_of, make_of, needs, takes, HasName, TermsAreReady, datum_size, datum_sizes, tree_size, row_size, trees_size, step_size, steps_size}

-- ---- what an entity keeps as it grows

-- what had a name has one, and there are no fewer instructions
pub record Grown (e x : Emitted) : Type 0 where
  pub terms : (t : Tree) → HasName e t → HasName x t
  pub lines : length e.lines ≤ length x.lines

pub grown-same : (e : Emitted) → Grown e e
grown-same e = record { terms = λ t h. h; lines = omega arith }

pub grown-then : (e x y : Emitted) → Grown e x → Grown x y → Grown e y
grown-then e x y a b = record { terms = λ t h. b.terms t (a.terms t h); lines = omega (arith, a.lines, b.lines) }

-- after need of a term
pub record Needed (e x : Emitted) (t : Tree) : Type 0 where
  pub named : HasName x t
  pub grown : Grown e x

-- after need of terms
pub record AllNeeded (e x : Emitted) (ts : List Tree) : Type 0 where
  pub named : Each (HasName x) ts
  pub grown : Grown e x

module _ (s : Source) where
  -- one more instruction
  pub gives-longer : (t : Tree) (i : InstText) (e : Emitted) → length (gives_term s t i e).lines ≡ length e.lines + 1
  gives-longer t i e = length-append e.lines _

  gives-more : (t : Tree) (i : InstText) (e x : Emitted) → length e.lines ≤ length x.lines → length e.lines < length (gives_term s t i x).lines
  gives-more t i e x h = omega (arith, gives-longer t i x, h)

  pub gives-named : (t : Tree) (i : InstText) (e : Emitted) → Needed e (gives_term s t i e) t
  gives-named t i e = record {
    named = (next_name s e, rw same_tree-refl refl);
    grown = record { terms = λ x h. at x h (same_tree t x) refl; lines = omega (arith, gives-longer t i e) };
  }
    where
      at : (x : Tree) → HasName e x → (b : Bool) → same_tree t x ≡ b → HasName (gives_term s t i e) x
      at x h true q = (next_name s e, rw q refl)
      at x h false q = (h.0, rw q h.1)

  -- the steps to a part
  pub steps-grown : (p : Part) (n : List ℕ) (more : List PartStep) (e : Emitted) → Grown e (takes_steps s p n more e)
  steps-grown p n [] e = record { terms = λ x h. (h.0, h.1); lines = omega arith }
  steps-grown p n (st ∷ more) e =
      let k : Grown _ (takes_steps s p n (st ∷ more) e) = steps-grown p (next_name s e) more _ in
      record { terms = λ x h. k.terms x (h.0, h.1); lines = omega (arith, k.lines, length-append {A = LineText}) }

  pub part-grown : (p : Part) (e : Emitted) → Grown e (need_part s p e)
  part-grown p e = at (e.parts p)
    where
      at : (o : Option (List ℕ)) → Grown e (unless_there o (takes_steps s p (arg_name (slice_get s.args p.arg)) (s.steps p)) e)
      at None = steps-grown p (arg_name (slice_get s.args p.arg)) (s.steps p) e
      at (Some m) = grown-same e

  -- what is there is not emitted again
  unless-needed : (e : Emitted) (t : Tree) (f : Emitted → Emitted) → Needed e (f e) t → Needed e (unless_there (e.terms t) f e) t
  unless-needed e t f n = at (e.terms t) refl
    where
      at : (o : Option (List ℕ)) → e.terms t ≡ o → Needed e (unless_there o f e) t
      at None q = n
      at (Some m) q = record { named = (m, q); grown = grown-same e }

  -- an instruction after others
  after : (e x : Emitted) (t : Tree) (i : InstText) → Grown e x → Needed e (gives_term s t i x) t
  after e x t i g = let n = gives-named t i x in record { named = n.named; grown = grown-then e x _ g n.grown }

  -- one term after the other
  next-needed : (e x y : Emitted) (t : Tree) (ts : List Tree) → Needed e x t → AllNeeded x y ts → AllNeeded e y (t ∷ ts)
  next-needed e x y t ts a b = record { named = (b.grown.terms t a.named, b.named); grown = grown-then e x y a.grown b.grown }

  mutual
    value-needed : (v : Datum) (e : Emitted) → Needed e (need_value s v e) (constant v)
    value-needed (int_value n b) e = unless-needed e (constant (int_value n b)) _ (gives-named (constant (int_value n b)) _ e)
    value-needed (time_value d) e = unless-needed e (constant (time_value d)) _ (gives-named (constant (time_value d)) _ e)
    value-needed (array_value vs) e = unless-needed e (constant (array_value vs)) _ (after e _ (constant (array_value vs)) _ (values-needed vs e).grown)
    value-needed (tuple_value vs) e = unless-needed e (constant (tuple_value vs)) _ (after e _ (constant (tuple_value vs)) _ (values-needed vs e).grown)

    values-needed : (vs : DatumRow) (e : Emitted) → AllNeeded e (need_values s vs e) (constants vs)
    values-needed no_values e = record { named = tt; grown = grown-same e }
    values-needed (more_values v vs) e = next-needed e _ _ (constant v) (constants vs) (value-needed v e) (values-needed vs (need_value s v e))

  pair-grown : (f t : Tree) (need_f need_t : Emitted → Emitted) (e : Emitted) → Grown e (need_f e) → Grown (need_f e) (need_t (need_f e)) → Grown e (need_pair s f t need_f need_t e)
  pair-grown f t need_f need_t e a b = at (is_constant f && is_constant t) refl
    where
      two : Tree
      two = operation_on Array (f ∷ t ∷ [])

      whole : Datum
      whole = array_value (more_values (value_in f) (more_values (value_in t) no_values))

      at : (c : Bool) → (is_constant f && is_constant t) ≡ c → Grown e (need_pair s f t need_f need_t e)
      at true q = rw q (value-needed whole e).grown
      at false q = rw q (unless-needed e two _ (after e _ two _ (grown-then e _ _ a b))).grown

  mutual
    pub need-needed : (t : Tree) (e : Emitted) → Needed e (need s t e) t
    need-needed (constant v) e = value-needed v e
    need-needed (past_of p) e = unless-needed e (past_of p) _ (after e _ (past_of p) _ (part-grown p e))
    need-needed (now_of p) e = unless-needed e (now_of p) _ (after e _ (now_of p) _ (part-grown p e))
    need-needed (operation op ts) e = unless-needed e (operation op ts) _ (after e _ (operation op ts) _ (all-grown ts e))
    need-needed (choice_of c f t) e =
        let a = (need-needed f e).grown in
        let b = (need-needed t (need s f e)).grown in
        let p = pair-grown f t (need s f) (need s t) e a b in
        let d = (need-needed c (need_pair s f t (need s f) (need s t) e)).grown in
        unless-needed e (choice_of c f t) _ (after e _ (choice_of c f t) _ (grown-then e _ _ p d))

    all-grown : (ts : TreeRow) (e : Emitted) → Grown e (need_all s ts e)
    all-grown no_trees e = grown-same e
    all-grown (more_trees t ts) e = grown-then e _ _ (need-needed t e).grown (all-grown ts (need s t e))

  pub needs-needed : (ts : List Tree) (e : Emitted) → AllNeeded e (needs s ts e) ts
  needs-needed [] e = record { named = tt; grown = grown-same e }
  needs-needed (t ∷ ts) e = next-needed e (need s t e) (needs s ts (need s t e)) t ts (need-needed t e) (needs-needed ts (need s t e))

  -- ---- need by what a term is made of

  values-needs : (vs : DatumRow) (e : Emitted) → need_values s vs e ≡ needs s (constants vs) e
  values-needs no_values e = refl
  values-needs (more_values v vs) e = values-needs vs (need_value s v e)

  all-needs : (ts : TreeRow) (e : Emitted) → need_all s ts e ≡ needs s (operands_in ts) e
  all-needs no_trees e = refl
  all-needs (more_trees t ts) e = all-needs ts (need s t e)

  pair-need : (f t : Tree) (e : Emitted) → need_pair s f t (need s f) (need s t) e ≡ need s (pair_of f t) e
  pair-need f t e = at (is_constant f) (is_constant t) refl refl
    where
      other : (is_constant f && is_constant t) ≡ false → need_pair s f t (need s f) (need s t) e ≡ need s (pair_of f t) e
      other q = rw q refl ∙ ap (λ x. need s x e) (sym (pair-else f t q))

      at : (x y : Bool) → is_constant f ≡ x → is_constant t ≡ y → need_pair s f t (need s f) (need s t) e ≡ need s (pair_of f t) e
      at true true p q = rw (p, q) refl ∙ ap (λ x. need s x e) (sym (pair-constant f t p q))
      at true false p q = other (rw (p, q) refl)
      at false true p q = other (rw p refl)
      at false false p q = other (rw p refl)

  unless-same : (o : Option (List ℕ)) (f g : Emitted → Emitted) (e : Emitted) → f e ≡ g e → unless_there o f e ≡ unless_there o g e
  unless-same None f g e q = q
  unless-same (Some n) f g e q = refl

  -- need of a term that was not emitted: what it is made of, and then its instruction
  pub need-made : (t : Tree) (e : Emitted) → need s t e ≡ unless_there (e.terms t) (λ x. makes s t (needs s (made_of t) x)) e
  need-made (constant (int_value w b)) e = refl
  need-made (constant (time_value d)) e = refl
  need-made (constant (array_value vs)) e = unless-same (e.terms (constant (array_value vs))) _ _ e (ap (makes s (constant (array_value vs))) (values-needs vs e))
  need-made (constant (tuple_value vs)) e = unless-same (e.terms (constant (tuple_value vs))) _ _ e (ap (makes s (constant (tuple_value vs))) (values-needs vs e))
  need-made (past_of p) e = refl
  need-made (now_of p) e = refl
  need-made (operation op ts) e = unless-same (e.terms (operation op ts)) _ _ e (ap (makes s (operation op ts)) (all-needs ts e))
  need-made (choice_of c f t) e = unless-same (e.terms (choice_of c f t)) _ _ e (ap (λ x. makes s (choice_of c f t) (need s c x)) (pair-need f t e))

  pub need-new : (t : Tree) (e : Emitted) → e.terms t ≡ None → need s t e ≡ makes s t (needs s (made_of t) e)
  need-new t e q = need-made t e ∙ ap (λ o. unless_there o (λ x. makes s t (needs s (made_of t) x)) e) q

  pub need-there : (t : Tree) (n : List ℕ) (e : Emitted) → e.terms t ≡ Some n → need s t e ≡ e
  need-there t n e q = need-made t e ∙ ap (λ o. unless_there o (λ x. makes s t (needs s (made_of t) x)) e) q

  -- the instruction of a term makes the entity longer
  pub makes-grown : (t : Tree) (e : Emitted) → (Needed e (makes s t e) t) × (length e.lines < length (makes s t e).lines)
  makes-grown (constant (int_value w b)) e = (gives-named _ _ e, gives-more (constant (int_value w b)) _ e e (omega arith))
  makes-grown (constant (time_value d)) e = (gives-named _ _ e, gives-more (constant (time_value d)) _ e e (omega arith))
  makes-grown (constant (array_value vs)) e = (gives-named _ _ e, gives-more (constant (array_value vs)) _ e e (omega arith))
  makes-grown (constant (tuple_value vs)) e = (gives-named _ _ e, gives-more (constant (tuple_value vs)) _ e e (omega arith))
  makes-grown (past_of p) e = (after e _ (past_of p) _ (part-grown p e), gives-more (past_of p) _ e (need_part s p e) (part-grown p e).lines)
  makes-grown (now_of p) e = (after e _ (now_of p) _ (part-grown p e), gives-more (now_of p) _ e (need_part s p e) (part-grown p e).lines)
  makes-grown (operation op ts) e = (gives-named _ _ e, gives-more (operation op ts) _ e e (omega arith))
  makes-grown (choice_of c f t) e = (gives-named _ _ e, gives-more (choice_of c f t) _ e e (omega arith))

  pub takes-longer : (xs : List Step) (e : Emitted) → length e.lines ≤ length (takes s xs e).lines
  takes-longer [] e = omega arith
  takes-longer (need_of t ∷ xs) e = omega (arith, takes-longer xs (need s t e), (need-needed t e).grown.lines)
  takes-longer (make_of t ∷ xs) e = omega (arith, takes-longer xs (makes s t e), (makes-grown t e).1)

  -- ---- steps

  pub takes-needs : (ts : List Tree) (more : List Step) (e : Emitted) → takes s (map need_of ts ++ more) e ≡ takes s more (needs s ts e)
  takes-needs [] more e = refl
  takes-needs (t ∷ ts) more e = takes-needs ts more (need s t e)

  pub ready-needs : (ts : List Tree) (more : List Step) (e : Emitted) → TermsAreReady s more (needs s ts e) → TermsAreReady s (map need_of ts ++ more) e
  ready-needs [] more e r = r
  ready-needs (t ∷ ts) more e r = ready-needs ts more (need s t e) r

  -- a term that was emitted is not needed any more
  pub step-there : (t : Tree) (n : List ℕ) (more : List Step) (e : Emitted) → e.terms t ≡ Some n → TermsAreReady s (need_of t ∷ more) e → (takes s more e ≡ takes s (need_of t ∷ more) e) × TermsAreReady s more e
  step-there t n more e q r = let p = need-there t n e q in (ap (takes s more) (sym p), subst (TermsAreReady s more) p r)

  -- one that was not is needed by its terms
  pub step-new : (t : Tree) (more : List Step) (e : Emitted) → e.terms t ≡ None → TermsAreReady s (need_of t ∷ more) e →
      (takes s (map need_of (made_of t) ++ make_of t ∷ more) e ≡ takes s (need_of t ∷ more) e) × TermsAreReady s (map need_of (made_of t) ++ make_of t ∷ more) e
  step-new t more e q r =
      let p = need-new t e q in (
        takes-needs (made_of t) (make_of t ∷ more) e ∙ ap (takes s more) (sym p),
        ready-needs (made_of t) (make_of t ∷ more) e ((needs-needed (made_of t) e).named, subst (TermsAreReady s more) p r),
      )

-- ---- sizes

constants-size : (vs : DatumRow) → trees_size (constants vs) ≡ datum_sizes vs
constants-size no_values = refl
constants-size (more_values v vs) = ap (λ n. datum_size v + n) (constants-size vs)

operands-size : (ts : TreeRow) → trees_size (operands_in ts) ≡ row_size ts
operands-size no_trees = refl
operands-size (more_trees t ts) = ap (λ n. tree_size t + n) (operands-size ts)

constant-size : (t : Tree) → is_constant t ≡ true → datum_size (value_in t) ≡ tree_size t
constant-size (constant v) h = refl
constant-size (past_of p) h = absurd cc
constant-size (now_of p) h = absurd cc
constant-size (operation op ts) h = absurd cc
constant-size (choice_of c f t) h = absurd cc

pair-size : (f t : Tree) → tree_size (pair_of f t) ≡ 2 + (tree_size f + tree_size t)
pair-size f t = at (is_constant f) (is_constant t) refl refl
  where
    other : (is_constant f && is_constant t) ≡ false → tree_size (pair_of f t) ≡ 2 + (tree_size f + tree_size t)
    other q = let e : tree_size (pair_of f t) ≡ 2 + (tree_size f + (tree_size t + 0)) = ap tree_size (pair-else f t q) in omega (arith, e)

    at : (x y : Bool) → is_constant f ≡ x → is_constant t ≡ y → tree_size (pair_of f t) ≡ 2 + (tree_size f + tree_size t)
    at true true p q =
        let e : tree_size (pair_of f t) ≡ 2 + (datum_size (value_in f) + (datum_size (value_in t) + 0)) = ap tree_size (pair-constant f t p q) in
        omega (arith, e, constant-size f p, constant-size t q)
    at true false p q = other (rw (p, q) refl)
    at false true p q = other (rw p refl)
    at false false p q = other (rw p refl)

made-size : (t : Tree) → trees_size (made_of t) + 2 ≤ tree_size t
made-size (constant (int_value w b)) = omega arith
made-size (constant (time_value d)) = omega arith
made-size (constant (array_value vs)) = omega (arith, constants-size vs)
made-size (constant (tuple_value vs)) = omega (arith, constants-size vs)
made-size (past_of p) = omega arith
made-size (now_of p) = omega arith
made-size (operation op ts) = omega (arith, operands-size ts)
made-size (choice_of c f t) = omega (arith, pair-size f t)

needs-size : (ts : List Tree) (more : List Step) → steps_size (map need_of ts ++ more) ≡ trees_size ts + steps_size more
needs-size [] more = omega arith
needs-size (t ∷ ts) more = omega (arith, needs-size ts more)

pub smaller-there : (t : Tree) (more : List Step) → steps_size more < steps_size (need_of t ∷ more)
smaller-there t more = omega (arith, made-size t)

pub smaller-made : (t : Tree) (more : List Step) → steps_size more < steps_size (make_of t ∷ more)
smaller-made t more = omega arith

pub smaller-new : (t : Tree) (more : List Step) → steps_size (map need_of (made_of t) ++ make_of t ∷ more) < steps_size (need_of t ∷ more)
smaller-new t more = omega (arith, made-size t, needs-size (made_of t) (make_of t ∷ more))
