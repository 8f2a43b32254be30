-- What a term is made of, by ids.
use Rattle.std.proofs.Common.{◌≡◌, ◌+◌, ◌-◌, ◌<◌, ◌≤◌, true, List, [], ◌∷◌, ◌++◌, length, map, take, drop, get_or, refl, ap, sym, ◌∙◌, subst, arith, append_assoc, inl, inr, ◌⊎◌, ltb-true, lt-ltb}
use Rattle.std.specs.Prelude.{nat_lt, Result, Ok, Err, IfOk}
use Rattle.std.specs.Option.{is_none}
use Rattle.std.proofs.Math.Seq.{take-length}
use Rattle.std.proofs.lemmas.List.{append-nil}
use Rattle.lh_types.specs.Faults.{array_fault}
use Rattle.lh_types.specs.Same.{and_both}
use Rattle.lh_types.specs.Values.{Datum, int_value, time_value, array_value, tuple_value}
use Rattle.lh_types.specs.ValueOf.{datum_of}
use Rattle.lh_types.specs.declared.val.Val.{Val}
use Rattle.lh_types.specs.declared.op.Op.{Op}
use Rattle.lh_types.specs.declared.op.Op.TheVariants.{Array}
use Rattle.lh_unit.specs.Within.{Each}
use Rattle.lh_term.specs.Tree.{Tree, constant, choice_of, operation_on, tree_row}
use Rattle.lh_term.specs.Types.{FitsTerm, IsTyped, type_of}
use Rattle.lh_term.specs.Arena.{trees, tree_at, trees_at, term_tree, term_below, ids_below, IsIn, AreIn, Grows, StandsForTree}
use Rattle.lh_term.specs.declared.term.TermId.{TermId}
use Rattle.lh_term.specs.declared.term.TermNode.{TermNode}
use Rattle.lh_term.specs.declared.term.Term.{Term}
use Rattle.lh_term.specs.declared.term.Term.TheVariants.{Op as Applied}
use Rattle.lh_types.specs.declared.val.Val.TheVariants as val
use Rattle.lh_types.proofs.DatumRows.{parts_of-data_row}
use Rattle.lh_emit.specs.declared.making.Needs.{Needs}
use Rattle.lh_emit.specs.declared.making.Needs.TheVariants.{Parts, Chosen}
use Rattle.lh_emit_body.specs.declared.lines.EmitFault.{EmitFault}
use Rattle.lh_emit_body.specs.declared.lines.EmitFault.TheVariants as fault
use Rattle.lh_term.proofs.Arenas.{ids_more, map_append}
use Rattle.lh_term.proofs.Swaps.{tree_grown, in_grown, grows_on}
use Rattle.lh_emit_def.specs.Needs.{operands_in, pair_of}
use Rattle.lh_emit_def.proofs.ComputedTerms.{array-parts, tuple-parts}
use Rattle.lh_emit.specs.Making.{AreOperandTerms, HasNoPair, NoPairOf, IsMadeBy, parts_in, AreConstants, AreChosen}
use Rattle.lh_emit.specs.Tasks.{made_of, has_pair}
use Rattle.lh_region_joins.proofs.Selectors.{trees-grown}

-- ---- ids of an arena that grows

pub ids-in-grown : (ns ms : List TermNode) → Grows ns ms → (xs : List TermId) → AreIn ns xs → AreIn ms xs
ids-in-grown ns ms g [] h = refl
ids-in-grown ns ms g (x ∷ xs) h =
    let b = and_both (nat_lt x.0 (length ns)) (ids_below (length ns) xs) h in
    rw (lt-ltb x.0 (length ms) (in_grown ns ms g x (ltb-true x.0 (length ns) b.0))) (ids-in-grown ns ms g xs b.1)

pub one-in : (ns : List TermNode) (x : TermId) → IsIn ns x → AreIn ns (x ∷ [])
one-in ns x h = rw (lt-ltb x.0 (length ns) h) refl

pub ids-in-append : (ns : List TermNode) (xs ys : List TermId) → AreIn ns xs → AreIn ns ys → AreIn ns (xs ++ ys)
ids-in-append ns [] ys h g = g
ids-in-append ns (x ∷ xs) ys h g = let b = and_both (nat_lt x.0 (length ns)) (ids_below (length ns) xs) h in rw b.0 (ids-in-append ns xs ys b.1 g)

-- ---- constants

-- those so far, and those that are left
pub record ConstantsSoFar (old : List TermNode) (ds : List Datum) (ns : List TermNode) (xs : List TermId) (left : List Val) : Type 0 where
  pub grows : Grows old ns
  pub within : AreIn ns xs
  pub made : trees_at ns xs ++ map constant (map datum_of left) ≡ map constant ds
  pub fit : Each FitsTerm (map datum_of left)

pub constants-first : (old ns : List TermNode) (ds : List Datum) (xs : List TermId) (left : List Val) → ns ≡ old → xs ≡ [] → map datum_of left ≡ ds → Each FitsTerm ds → ConstantsSoFar old ds ns xs left
constants-first old ns ds xs left n x e f = record {
  grows = ([], n ∙ sym (append-nil old));
  within = subst (AreIn ns) (sym x) refl;
  made = ap (λ ys. trees_at ns ys ++ map constant (map datum_of left)) x ∙ ap (map constant) e;
  fit = subst (Each FitsTerm) (sym e) f;
}

rest-of : (v : Val) (vs : List Val) → take (length (v ∷ vs) - 1) (drop 1 (v ∷ vs)) ≡ vs
rest-of v vs = let e : length (v ∷ vs) - 1 ≡ length vs = omega arith in ap (λ n. take n vs) e ∙ take-length vs

pub constants-fit : (old : List TermNode) (ds : List Datum) (ns : List TermNode) (xs : List TermId) (left : List Val) (d : Val) → ConstantsSoFar old ds ns xs left → 1 ≤ length left
    → FitsTerm (datum_of (get_or left 0 d))
constants-fit old ds ns xs [] d k l = absurd (omega (arith, l))
constants-fit old ds ns xs (v ∷ vs) d k l = k.fit.0

pub constants-next : (old : List TermNode) (ds : List Datum) (ns ms : List TermNode) (xs more : List TermId) (left : List Val) (d : Val) (x : TermId) → ConstantsSoFar old ds ns xs left → 1 ≤ length left →
    Grows ns ms → StandsForTree ms x (constant (datum_of (get_or left 0 d))) → more ≡ xs ++ x ∷ [] → ConstantsSoFar old ds ms more (take (length left - 1) (drop 1 left))
constants-next old ds ns ms xs more [] d x k l g s e = absurd (omega (arith, l))
constants-next old ds ns ms xs more (v ∷ vs) d x k l g s e =
    let r : take (length (v ∷ vs) - 1) (drop 1 (v ∷ vs)) ≡ vs = rest-of v vs in
    let all : trees_at ms (xs ++ x ∷ []) ≡ trees_at ns xs ++ constant (datum_of v) ∷ [] =
    map_append (tree_at (trees ms)) xs (x ∷ []) ∙ (λ i. trees-grown ns ms xs g k.within i ++ s.tree i ∷ []) in
    record {
      grows = grows_on old ns ms k.grows g;
      within = subst (AreIn ms) (sym e) (ids-in-append ms xs (x ∷ []) (ids-in-grown ns ms g xs k.within) (one-in ms x s.is_in));
      made =
          (λ i. trees_at ms (e i) ++ map constant (map datum_of (r i)))
          ∙ ap (λ ts. ts ++ map constant (map datum_of vs)) all
          ∙ append_assoc (trees_at ns xs) (constant (datum_of v) ∷ []) (map constant (map datum_of vs)) ∙ k.made;
      fit = subst (λ ys. Each FitsTerm (map datum_of ys)) (sym r) k.fit.1;
    }

pub constants-end : (old : List TermNode) (ds : List Datum) (ns : List TermNode) (xs : List TermId) (left : List Val) → ConstantsSoFar old ds ns xs left → length left < 1 → AreConstants ds ns xs
constants-end old ds ns xs [] k l = record { within = k.within; made = sym (append-nil (trees_at ns xs)) ∙ k.made }
constants-end old ds ns xs (v ∷ vs) k l = absurd (omega (arith, l))

-- ---- one term

constant-parts : (d : Datum) → map constant (parts_in d) ≡ made_of (constant d)
constant-parts (int_value w b) = refl
constant-parts (time_value d) = refl
constant-parts (array_value vs) = refl
constant-parts (tuple_value vs) = refl

pub parts-fit : (d : Datum) → FitsTerm d → Each FitsTerm (parts_in d)
parts-fit (int_value w b) h = tt
parts-fit (time_value d) h = tt
parts-fit (array_value vs) h = array-parts vs h
parts-fit (tuple_value vs) h = tuple-parts vs h

pub made-constants : (ns ms : List TermNode) (t : TermId) (d : Datum) (xs : List TermId) → tree_at (trees ns) t ≡ constant d → AreConstants (parts_in d) ms xs → AreOperandTerms ns ms t xs
made-constants ns ms t d xs e k = record {
  within = k.within;
  made = k.made ∙ constant-parts d ∙ ap made_of (sym e);
  pair = ap has_pair e;
}

row-operands : (ts : List Tree) → operands_in (tree_row ts) ≡ ts
row-operands [] = refl
row-operands (t ∷ ts) = ap (λ xs. t ∷ xs) (row-operands ts)

pub made-operands : (ns : List TermNode) (t : TermId) (op : Op) (args xs : List TermId) → tree_at (trees ns) t ≡ operation_on op (trees_at ns args) → AreIn ns args → xs ≡ args → AreOperandTerms ns ns t xs
made-operands ns t op args xs e h q = record {
  within = subst (AreIn ns) (sym q) h;
  made = ap (trees_at ns) q ∙ sym (row-operands (trees_at ns args)) ∙ ap made_of (sym e);
  pair = ap has_pair e;
}

pub made-choice : (ns ms : List TermNode) (t : TermId) (c f g : Tree) (xs : List TermId) → tree_at (trees ns) t ≡ choice_of c f g → AreChosen c f g ms xs → AreOperandTerms ns ms t xs
made-choice ns ms t c f g xs e k = record {
  within = k.within;
  made = k.made ∙ ap made_of (sym e);
  pair = ap has_pair e ∙ k.pair;
}

pub made-none : (ns : List TermNode) (t : TermId) (xs : List TermId) → xs ≡ [] → made_of (tree_at (trees ns) t) ≡ [] → has_pair (tree_at (trees ns) t) ≡ true → AreOperandTerms ns ns t xs
made-none ns t xs e m h = record {
  within = subst (AreIn ns) (sym e) refl;
  made = ap (trees_at ns) e ∙ sym m;
  pair = h;
}

pub no-pair : (ns : List TermNode) (t : TermId) (c f g : Tree) (y : EmitFault) → tree_at (trees ns) t ≡ choice_of c f g → NoPairOf (type_of f) y → HasNoPair ns t y
no-pair ns t c f g fault.OutOfMemory e h = tt
no-pair ns t c f g fault.EntityTooLarge e h = ap has_pair e ∙ h

pub chosen-made : (ns ms : List TermNode) (c f t : TermId) (pair : TermId) (xs : List TermId) → Grows ns ms → IsIn ns c → StandsForTree ms pair (pair_of (tree_at (trees ns) f) (tree_at (trees ns) t))
    → xs ≡ pair ∷ c ∷ [] →
    is_none (array_fault 2 (type_of (tree_at (trees ns) f))) ≡ true → AreChosen (tree_at (trees ns) c) (tree_at (trees ns) f) (tree_at (trees ns) t) ms xs
chosen-made ns ms c f t pair xs g c_in s e h = record {
  within = subst (AreIn ms) (sym e) (ids-in-append ms (pair ∷ []) (c ∷ []) (one-in ms pair s.is_in) (one-in ms c (in_grown ns ms g c c_in)));
  made = ap (trees_at ms) e ∙ (λ i. s.tree i ∷ tree_grown ns ms g c c_in i ∷ []);
  pair = h;
}

-- ---- what stands in the arena

pub parts-copied : {E : Type 0} (v : Val) (vs : List Datum) (r : Result (List Datum) E) → (v ≡ val.Array vs) ⊎ (v ≡ val.Tuple vs) → IfOk r (λ ws. ws ≡ vs) → IfOk r (λ ws. ws ≡ parts_in (datum_of v))
parts-copied v vs (Err e) p h = tt
parts-copied v vs (Ok ws) (inl p) h = h ∙ sym (parts_of-data_row vs) ∙ sym (ap (λ (x : Val). parts_in (datum_of x)) p)
parts-copied v vs (Ok ws) (inr p) h = h ∙ sym (parts_of-data_row vs) ∙ sym (ap (λ (x : Val). parts_in (datum_of x)) p)

pub made-op : (ns : List TermNode) (t : TermId) (k : Term) (op : Op) (args xs : List TermId) → k ≡ Applied op args → term_tree (trees ns) k ≡ tree_at (trees ns) t → term_below t.0 k ≡ true → IsIn ns t
    → xs ≡ args → AreOperandTerms ns ns t xs
made-op ns t k op args xs e shown below is_in q =
    made-operands ns t op args xs (sym shown ∙ ap (term_tree (trees ns)) e) (ids_more t.0 (length ns) (omega (arith, is_in)) args (sym (ap (term_below t.0) e) ∙ below)) q

pub values-fit : (ns : List TermNode) (t : TermId) (n : Needs) (vs : List Datum) → n ≡ Parts vs → IsMadeBy ns t n → Each FitsTerm vs
values-fit ns t n vs e h = let (d, p, q, f) = subst (IsMadeBy ns t) e h in subst (Each FitsTerm) (sym q) (parts-fit d f)

pub values-made : (ns ms : List TermNode) (t : TermId) (n : Needs) (vs : List Datum) (xs : List TermId) → n ≡ Parts vs → IsMadeBy ns t n → AreConstants vs ms xs → AreOperandTerms ns ms t xs
values-made ns ms t n vs xs e h k = let (d, p, q, f) = subst (IsMadeBy ns t) e h in made-constants ns ms t d xs p (subst (λ ds. AreConstants ds ms xs) q k)

pub choice-parts : (ns : List TermNode) (t : TermId) (n : Needs) (c f g : TermId) → n ≡ Chosen c f g → IsMadeBy ns t n → IsMadeBy ns t (Chosen c f g)
choice-parts ns t n c f g e h = subst (IsMadeBy ns t) e h

pub choice-typed : (ns : List TermNode) (t : TermId) (n : Needs) (c f g : TermId) → n ≡ Chosen c f g → IsMadeBy ns t n
    → IsTyped (choice_of (tree_at (trees ns) c) (tree_at (trees ns) f) (tree_at (trees ns) g))
choice-typed ns t n c f g e h = let k = choice-parts ns t n c f g e h in subst IsTyped k.3 k.4
