-- What a term is made of, and the instruction that gives it: types, parts and choices.
use Rattle.std.proofs.Common.{◌≡◌, ℕ, Bool, true, false, ◌&&◌, List, [], ◌∷◌, length, map, refl, ap, sym, ◌∙◌, subst, inl, inr, ◌⊎◌}
use Rattle.std.specs.Option.{is_none}
use Rattle.lh_types.specs.Faults.{array_fault}
use Rattle.lh_types.specs.Same.{and_both}
use Rattle.lh_types.specs.Types.{TypeTree, signal_type, IsData}
use Rattle.lh_types.specs.Values.{Datum, DatumRow, int_value, time_value, array_value, tuple_value, no_values, more_values}
use Rattle.lh_types.specs.Parts.{parts_of}
use Rattle.lh_types.specs.declared.op.Op.{Op}
use Rattle.lh_types.specs.declared.op.Op.TheVariants.{Array, Tuple, Mux}
use Rattle.lh_unit.specs.Contents.{const_text, prb_text}
use Rattle.lh_unit.specs.Within.{Each}
use Rattle.lh_term.specs.Tree.{Tree, TreeRow, constant, past_of, now_of, operation, choice_of, no_trees, more_trees, operation_on}
use Rattle.lh_term.specs.Types.{FitsTerm, IsTyped, AreTyped, type_of, types_of, element_of, row_result, value_type}
use Rattle.lh_term.specs.Make.{is_constant, value_in}
use Rattle.lh_term.specs.declared.part.Part.{Part}
use Rattle.lh_emit_def.specs.Emitted.{Source, Emitted, gives_term, signal, need_part}
use Rattle.lh_emit_def.specs.Entities.{choices_fit, all_choices_fit}
use Rattle.lh_emit_def.specs.Needs.{gives_operation, constants, operands_in, pair_of, writes_result, types_of_all}
use Rattle.lh_term.specs.Leaves.{AllParts, AllPartsIn}
use Rattle.lh_emit_def.specs.Ways.{TermIsGiven, IsReached}
use Rattle.lh_emit_def.proofs.ComputedTerms.{pair-constant, pair-else, array-parts, tuple-parts}
use Rattle.lh_emit_def.proofs.Pairs.{pair-typed, pair-constant_typed}
use Rattle.lh_emit.specs.Making.{form_of, TermIsProbed}
use Rattle.lh_emit.specs.Tasks.{made_of, makes, has_pair}
use Rattle.lh_emit.specs.declared.making.TermForm.{TermForm}
use Rattle.lh_emit.specs.declared.making.TermForm.TheVariants.{Scalar, Probe, Joined}

-- ---- the instruction that gives a term

scalar-at : (s : Source) (d : Datum) (e : Emitted) → form_of (constant d) ≡ Scalar → makes s (constant d) e ≡ gives_term s (constant d) (const_text d) e
scalar-at s (int_value w b) e h = refl
scalar-at s (time_value d) e h = refl
scalar-at s (array_value vs) e h = absurd cc
scalar-at s (tuple_value vs) e h = absurd cc

pub scalar-makes : (s : Source) (x : Tree) (d : Datum) (e : Emitted) → x ≡ constant d → form_of x ≡ Scalar → makes s x e ≡ gives_term s x (const_text d) e
scalar-makes s x d e q h = subst (λ (y : Tree). form_of y ≡ Scalar → makes s y e ≡ gives_term s y (const_text d) e) (sym q) (scalar-at s d e) h

pub probe-makes : (s : Source) (x : Tree) (p : Part) (e : Emitted) → TermIsProbed x p → makes s x e ≡ gives_term s x (prb_text (signal (need_part s p e) p)) (need_part s p e)
probe-makes s x p e h = by h.is
  where
    by : (x ≡ past_of p) ⊎ (x ≡ now_of p) → makes s x e ≡ gives_term s x (prb_text (signal (need_part s p e) p)) (need_part s p e)
    by (inl q) = subst (λ (y : Tree). makes s y e ≡ gives_term s y (prb_text (signal (need_part s p e) p)) (need_part s p e)) (sym q) refl
    by (inr q) = subst (λ (y : Tree). makes s y e ≡ gives_term s y (prb_text (signal (need_part s p e) p)) (need_part s p e)) (sym q) refl

pub probe-reached : (s : Source) (x : Tree) (p : Part) → TermIsProbed x p → AllParts (IsReached s) x → IsReached s p
probe-reached s x p h g = by h.is
  where
    by : (x ≡ past_of p) ⊎ (x ≡ now_of p) → IsReached s p
    by (inl q) = subst (AllParts (IsReached s)) q g
    by (inr q) = subst (AllParts (IsReached s)) q g

pub probe-fits : (x : Tree) (p : Part) → TermIsProbed x p → choices_fit x ≡ true
probe-fits x p h = by h.is
  where
    by : (x ≡ past_of p) ⊎ (x ≡ now_of p) → choices_fit x ≡ true
    by (inl q) = ap choices_fit q
    by (inr q) = ap choices_fit q

pub joined-makes : (s : Source) (x : Tree) (op : Op) (e : Emitted) → form_of x ≡ Joined op → makes s x e ≡ gives_operation s x op (made_of x) e
joined-makes s (constant (int_value w b)) op e h = absurd cc
joined-makes s (constant (time_value d)) op e h = absurd cc
joined-makes s (constant (array_value vs)) op e h = let q : Array ≡ op = cc in ap (λ o. gives_operation s (constant (array_value vs)) o (constants vs) e) q
joined-makes s (constant (tuple_value vs)) op e h = let q : Tuple ≡ op = cc in ap (λ o. gives_operation s (constant (tuple_value vs)) o (constants vs) e) q
joined-makes s (past_of p) op e h = absurd cc
joined-makes s (now_of p) op e h = absurd cc
joined-makes s (operation o ts) op e h = let q : o ≡ op = cc in ap (λ u. gives_operation s (operation o ts) u (operands_in ts) e) q
joined-makes s (choice_of c f t) op e h = let q : Mux ≡ op = cc in ap (λ o. gives_operation s (choice_of c f t) o (pair_of f t ∷ c ∷ []) e) q

-- ---- types

operands-types : (ts : TreeRow) → types_of_all (operands_in ts) ≡ types_of ts
operands-types no_trees = refl
operands-types (more_trees t ts) = ap (λ xs. type_of t ∷ xs) (operands-types ts)

constant-type : (t : Tree) → is_constant t ≡ true → value_type (value_in t) ≡ type_of t
constant-type (constant v) h = refl
constant-type (past_of p) h = absurd cc
constant-type (now_of p) h = absurd cc
constant-type (operation op ts) h = absurd cc
constant-type (choice_of c f t) h = absurd cc

constant-fits : (t : Tree) → is_constant t ≡ true → choices_fit t ≡ true
constant-fits (constant v) h = refl
constant-fits (past_of p) h = absurd cc
constant-fits (now_of p) h = absurd cc
constant-fits (operation op ts) h = absurd cc
constant-fits (choice_of c f t) h = absurd cc

-- the array of both terms of a choice is a constant, or an operation
data Paired (f t : Tree) : Type 0 where
  folded : is_constant f ≡ true → is_constant t ≡ true → pair_of f t ≡ constant (array_value (more_values (value_in f) (more_values (value_in t) no_values))) → Paired f t
  joined : pair_of f t ≡ operation_on Array (f ∷ t ∷ []) → Paired f t

paired : (f t : Tree) → Paired f t
paired f t = at (is_constant f) (is_constant t) refl refl
  where
    at : (a b : Bool) → is_constant f ≡ a → is_constant t ≡ b → Paired f t
    at true true p q = folded p q (pair-constant f t p q)
    at true false p q = joined (pair-else f t (rw (p, q) refl))
    at false true p q = joined (pair-else f t (rw p refl))
    at false false p q = joined (pair-else f t (rw p refl))

pair-element : (f t : Tree) → type_of f ≡ element_of (type_of (pair_of f t))
pair-element f t = by (paired f t)
  where
    by : Paired f t → type_of f ≡ element_of (type_of (pair_of f t))
    by (folded p q e) = sym (constant-type f p) ∙ ap (λ (x : Tree). element_of (type_of x)) (sym e)
    by (joined e) = ap (λ (x : Tree). element_of (type_of x)) (sym e)

-- the type that an operation writes of what it gives
pub joined-type : (x : Tree) (op : Op) → form_of x ≡ Joined op → writes_result op ≡ true → type_of x ≡ row_result op (types_of_all (made_of x))
joined-type (constant (int_value w b)) op h g = absurd cc
joined-type (constant (time_value d)) op h g = absurd cc
joined-type (constant (array_value vs)) op h g = let q : Array ≡ op = cc in let z : false ≡ true = ap writes_result q ∙ g in absurd cc
joined-type (constant (tuple_value vs)) op h g = let q : Tuple ≡ op = cc in let z : false ≡ true = ap writes_result q ∙ g in absurd cc
joined-type (past_of p) op h g = absurd cc
joined-type (now_of p) op h g = absurd cc
joined-type (operation o ts) op h g = let q : o ≡ op = cc in ap (λ o. row_result o (types_of ts)) q ∙ ap (row_result op) (sym (operands-types ts))
joined-type (choice_of c f t) op h g = let q : Mux ≡ op = cc in pair-element f t ∙ ap (λ o. row_result o (types_of_all (pair_of f t ∷ c ∷ []))) q

-- ---- choices

abbrev Fits : Tree → Type 0
Fits x = choices_fit x ≡ true

all-fit : (ts : TreeRow) → Each Fits (operands_in ts) → all_choices_fit ts ≡ true
all-fit no_trees h = refl
all-fit (more_trees t ts) h = rw h.0 (all-fit ts h.1)

each-fits : (ts : TreeRow) → all_choices_fit ts ≡ true → Each Fits (operands_in ts)
each-fits no_trees h = tt
each-fits (more_trees t ts) h = let b = and_both (choices_fit t) (all_choices_fit ts) h in (b.0, each-fits ts b.1)

constants-fit : (vs : DatumRow) → Each Fits (constants vs)
constants-fit no_values = tt
constants-fit (more_values v vs) = (refl, constants-fit vs)

-- where all fit that a term is made of, and a choice has an array, the term fits
pub made-fit : (x : Tree) → has_pair x ≡ true → Each Fits (made_of x) → Fits x
made-fit (constant v) p h = refl
made-fit (past_of q) p h = refl
made-fit (now_of q) p h = refl
made-fit (operation op ts) p h = all-fit ts h
made-fit (choice_of c f t) p h = by (paired f t)
  where
    both : Fits f → Fits t → Fits (choice_of c f t)
    both a b = rw (p, a, b) h.1.0

    by : Paired f t → Fits (choice_of c f t)
    by (folded a b e) = both (constant-fits f a) (constant-fits t b)
    by (joined e) =
        let g : (choices_fit f && (choices_fit t && true)) ≡ true = sym (ap choices_fit e) ∙ h.0 in
        let k = and_both (choices_fit f) (choices_fit t && true) g in
        both k.0 (and_both (choices_fit t) true k.1).0

-- where a term fits, all fit that it is made of
pub fit-made : (x : Tree) → Fits x → Each Fits (made_of x)
fit-made (constant (int_value w b)) h = tt
fit-made (constant (time_value d)) h = tt
fit-made (constant (array_value vs)) h = constants-fit vs
fit-made (constant (tuple_value vs)) h = constants-fit vs
fit-made (past_of q) h = tt
fit-made (now_of q) h = tt
fit-made (operation op ts) h = each-fits ts h
fit-made (choice_of c f t) h =
    let g = and_both (is_none (array_fault 2 (type_of f))) (choices_fit f && (choices_fit t && choices_fit c)) h in
    let a = and_both (choices_fit f) (choices_fit t && choices_fit c) g.1 in
    let b = and_both (choices_fit t) (choices_fit c) a.1 in (pair a.0 b.0 (paired f t), (b.1, tt))
  where
    pair : Fits f → Fits t → Paired f t → Fits (pair_of f t)
    pair a b (folded p q e) = ap choices_fit e
    pair a b (joined e) = ap choices_fit e ∙ rw (a, b) refl

pub no-pair-fits : (x : Tree) → has_pair x ≡ false → choices_fit x ≡ false
no-pair-fits (constant v) h = absurd cc
no-pair-fits (past_of q) h = absurd cc
no-pair-fits (now_of q) h = absurd cc
no-pair-fits (operation op ts) h = absurd cc
no-pair-fits (choice_of c f t) h = rw h refl

-- ---- what a term is made of is given

constants-given : (s : Source) (vs : DatumRow) → Each FitsTerm (parts_of vs) → Each (TermIsGiven s) (constants vs)
constants-given s no_values h = tt
constants-given s (more_values v vs) h = (record { typed = h.0; parts = tt }, constants-given s vs h.1)

operands-given : (s : Source) (ts : TreeRow) → AreTyped ts → AllPartsIn (IsReached s) ts → Each (TermIsGiven s) (operands_in ts)
operands-given s no_trees h g = tt
operands-given s (more_trees t ts) h g = (record { typed = h.0; parts = g.0 }, operands-given s ts h.1 g.1)

pub made-given : (s : Source) (x : Tree) → TermIsGiven s x → has_pair x ≡ true → Each (TermIsGiven s) (made_of x)
made-given s (constant (int_value w b)) k p = tt
made-given s (constant (time_value d)) k p = tt
made-given s (constant (array_value vs)) k p = constants-given s vs (array-parts vs k.typed)
made-given s (constant (tuple_value vs)) k p = constants-given s vs (tuple-parts vs k.typed)
made-given s (past_of q) k p = tt
made-given s (now_of q) k p = tt
made-given s (operation op ts) k p = operands-given s ts k.typed.0 k.parts
made-given s (choice_of c f t) k p = (by (paired f t), (record { typed = k.typed.0; parts = k.parts.0 }, tt))
  where
    by : Paired f t → TermIsGiven s (pair_of f t)
    by (folded a b e) = subst (TermIsGiven s) (sym e) (record { typed = pair-constant_typed c f t k.typed p a b; parts = tt })
    by (joined e) = subst (TermIsGiven s) (sym e) (record { typed = pair-typed c f t k.typed p; parts = (k.parts.1, (k.parts.2, tt)) })
