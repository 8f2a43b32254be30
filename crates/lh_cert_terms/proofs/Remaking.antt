-- Terms made anew by their ids.
use Rattle.std.proofs.Common.{◌≡◌, ℕ, suc, ◌-◌, ◌<◌, ◌≤◌, Bool, true, false, nat_eq, nat_lt, if◌then◌else◌, List, [], ◌∷◌, length, map, drop, get_or, refl, sym, ap, ◌∙◌, subst, arith, Option, Some, slice_get, drop-cons, lt-ltb, Result, IfOk}
use Rattle.std.specs.Option.{is_some}
use Rattle.std.proofs.lemmas.Bool.{and_from}
use Rattle.lh_types.specs.Same.{nat_eq-refl, nat_eq-is}
use Rattle.lh_types.specs.Types.{TypeTree}
use Rattle.lh_types.specs.declared.op.Op.{Op}
use Rattle.lh_term.specs.declared.term.TermId.{TermId}
use Rattle.lh_term.specs.declared.term.Term.{Term}
use Rattle.lh_term.specs.declared.term.Term.TheVariants.{Op as Applied, Choice}
use Rattle.lh_term.specs.declared.term.TermNode.{TermNode}
use Rattle.lh_term.specs.Tree.{Tree, choice_of, tree_row, operation_on}
use Rattle.lh_term.specs.Types.{IsTyped, TakesTypes, Chooses, type_of, types_of}
use Rattle.lh_term.specs.Make.{make_choice}
use Rattle.lh_term.specs.Arena.{tree_at, trees, trees_at, terms_in, term_tree, ids_below, IsIn, AreIn, StandsForTree, Grows}
use Rattle.lh_term.specs.Reach.{operands_of, is_on, AllPass, AreReached, AreMade, MadeFor}
use Rattle.lh_term.proofs.TermWalks.{pass_on, behind, on_at, on_below}
use Rattle.lh_term.proofs.Swaps.{tree_grown, in_grown, term_grown, stands_grown}
use Rattle.lh_cert_terms.specs.Rebuilding.{read_operation, rebuilt, rebuilt_row}
use Rattle.lh_cert_terms.specs.Made.{AreRebuilt, OperandsMade}
use Rattle.lh_cert_terms.proofs.Reading.{rebuilt_sound, row_sound}

row_map : (ts : List Tree) → rebuilt_row (tree_row ts) ≡ map rebuilt ts
row_map [] = refl
row_map (t ∷ ts) = ap (λ r. rebuilt t ∷ r) (row_map ts)

-- ---- one term

made_trees : (ns : List TermNode) (made : ℕ → Option TermId) → AreRebuilt ns ns made → (xs ys : List TermId) → MadeFor made xs ys → AreIn ns ys × (trees_at ns ys ≡ map rebuilt (trees_at ns xs))
made_trees ns made r [] [] f = (refl, refl)
made_trees ns made r [] (y ∷ ys) f = absurd f
made_trees ns made r (x ∷ xs) [] f = absurd f
made_trees ns made r (x ∷ xs) (y ∷ ys) f =
    let s = (r x y f.0).1 in
    let m = made_trees ns made r xs ys f.1 in
    let e = s.tree in
    let g = m.1 in
    (and_from (nat_lt y.0 (length ns)) (ids_below (length ns) ys) (lt-ltb y.0 (length ns) s.is_in) m.0, λ i. e i ∷ g i)

-- an operation on what was made
pub record OpRead (ns : List TermNode) (x : TermId) (op : Op) (zs : List TermId) : Type 0 where
  pub within : AreIn ns zs
  pub takes : TakesTypes op (types_of (tree_row (trees_at ns zs)))
  pub read : read_operation op (trees_at ns zs) ≡ rebuilt (tree_at (trees ns) x)

-- a choice of what was made
pub record ChoiceRead (ns : List TermNode) (x u v w : TermId) : Type 0 where
  pub c_in : IsIn ns u
  pub f_in : IsIn ns v
  pub t_in : IsIn ns w
  pub fits : Chooses (type_of (tree_at (trees ns) u)) (type_of (tree_at (trees ns) v)) (type_of (tree_at (trees ns) w))
  pub read : make_choice (tree_at (trees ns) u) (tree_at (trees ns) v) (tree_at (trees ns) w) ≡ rebuilt (tree_at (trees ns) x)

module _ (ns : List TermNode) (x : TermId) (k : Term) (made : ℕ → Option TermId) (term : slice_get (terms_in ns) x.0 ≡ Some k) (shown : term_tree (trees ns) k ≡ tree_at (trees ns) x)
    (h : IsTyped (tree_at (trees ns) x)) (r : AreRebuilt ns ns made) (o : OperandsMade ns made x) where
  pub op_placed : (op : Op) (xs ys : List TermId) → k ≡ Applied op xs → ys ≡ xs → AreMade made ys
  op_placed op xs ys e f = subst (λ (l : List TermId). AreMade made l) (sym f) (subst (λ (m : Term). AreMade made (operands_of m)) e (o k term))

  pub choice_placed : (c f t : TermId) → k ≡ Choice c f t → AreMade made (c ∷ f ∷ t ∷ [])
  choice_placed c f t e = subst (λ (m : Term). AreMade made (operands_of m)) e (o k term)

  op_made : (op : Op) (xs ys : List TermId) → k ≡ Applied op xs → MadeFor made xs ys → OpRead ns x op ys
  op_made op xs ys e f =
      let T = trees_at ns xs in
      let is : operation_on op T ≡ tree_at (trees ns) x = sym (ap (term_tree (trees ns)) e) ∙ shown in
      let typed : IsTyped (operation_on op T) = subst (λ (t : Tree). IsTyped t) (sym is) h in
      let m = made_trees ns made r xs ys f in
      let row : trees_at ns ys ≡ rebuilt_row (tree_row T) = m.1 ∙ sym (row_map T) in
      let s = row_sound (tree_row T) typed.0 in
      record {
        within = m.0;
        takes = subst (λ (us : List TypeTree). TakesTypes op us) (sym (ap (λ ts. types_of (tree_row ts)) row ∙ s.types)) typed.1;
        read = ap (read_operation op) row ∙ ap rebuilt is;
      }

  pub op_read : (op : Op) (xs qs ys zs : List TermId) → k ≡ Applied op xs → qs ≡ xs → MadeFor made qs ys → zs ≡ ys → OpRead ns x op zs
  op_read op xs qs ys zs e f m g =
      subst (λ (l : List TermId). OpRead ns x op l) (sym g) (op_made op xs ys e (subst (λ (l : List TermId). MadeFor made l ys) f m))

  pub choice_read : (c f t u v w : TermId) → k ≡ Choice c f t → made c.0 ≡ Some u → made f.0 ≡ Some v → made t.0 ≡ Some w → ChoiceRead ns x u v w
  choice_read c f t u v w e eu ev ew =
      let C = tree_at (trees ns) c in
      let F = tree_at (trees ns) f in
      let T = tree_at (trees ns) t in
      let is : choice_of C F T ≡ tree_at (trees ns) x = sym (ap (term_tree (trees ns)) e) ∙ shown in
      let typed : IsTyped (choice_of C F T) = subst (λ (z : Tree). IsTyped z) (sym is) h in
      let su = (r c u eu).1 in
      let sv = (r f v ev).1 in
      let sw = (r t w ew).1 in
      let kc = rebuilt_sound C typed.0 in
      let kf = rebuilt_sound F typed.1 in
      let kt = rebuilt_sound T typed.2 in
      let a = su.tree in let b = sv.tree in let d = sw.tree in
      record {
        c_in = su.is_in;
        f_in = sv.is_in;
        t_in = sw.is_in;
        fits = (ap type_of a ∙ kc.type ∙ typed.3.0, ap type_of b ∙ kf.type ∙ typed.3.1 ∙ sym (ap type_of d ∙ kt.type));
        read = (λ i. make_choice (a i) (b i) (d i)) ∙ ap rebuilt is;
      }

-- ---- the terms one by one, from the last

pub rebuilt_start : (old new : List TermNode) (made : ℕ → Option TermId) → ((i : ℕ) (y : TermId) → made i ≡ Some y → ⊥) → AreRebuilt old new made
rebuilt_start old new made h = λ x y e. absurd (h x.0 y e)

those : (made : ℕ → Option TermId) (all xs : List TermId) → AreMade made all → AllPass (is_on all) xs → AreMade made xs
those made all [] p q = tt
those made all (x ∷ xs) p q = (pass_on (λ i. is_some (made i)) all x.0 p q.0, those made all xs p q.1)

module _ (old cur : List TermNode) (g : Grows old cur) (made : ℕ → Option TermId) (r : AreRebuilt old cur made) where
  pub rebuilt_here : AreRebuilt cur cur made
  rebuilt_here = λ x y e.
      let s = r x y e in
      (in_grown old cur g x s.0, subst (λ (t : Tree). StandsForTree cur y (rebuilt t)) (sym (tree_grown old cur g x s.0)) s.1)

  module _ (roots ids : List TermId) (reached : AreReached operands_of old roots ids) (k : ℕ) (d : TermId) (h : 0 < k) (l : k ≤ length ids) where
    x_old : IsIn old (get_or ids (k - 1) d)
    x_old = on_below (length old) ids (get_or ids (k - 1) d).0 reached.are_in (on_at ids (k - 1) d (omega arith))

    step : k ≡ suc (k - 1)
    step = omega arith

    pub turn_in : IsIn cur (get_or ids (k - 1) d)
    turn_in = in_grown old cur g (get_or ids (k - 1) d) x_old

    pub turn_operands : AreMade made (drop k ids) → OperandsMade cur made (get_or ids (k - 1) d)
    turn_operands a t at =
        let b : slice_get (terms_in old) (get_or ids (k - 1) d).0 ≡ Some t = term_grown old cur g (get_or ids (k - 1) d).0 t x_old at in
        let o : AllPass (is_on (drop (suc (k - 1)) ids)) (operands_of t) = behind operands_of old ids (k - 1) d t reached.go_on (omega arith) b in
        those made (drop (suc (k - 1)) ids) (operands_of t) (subst (λ (n : ℕ). AreMade made (drop n ids)) step a) o

    pub turn_rebuilt : (new : List TermNode) (y : TermId) (more : ℕ → Option TermId) → Grows cur new → StandsForTree new y (rebuilt (tree_at (trees cur) (get_or ids (k - 1) d)))
        → ((q : ℕ) → more q ≡ (if nat_eq (get_or ids (k - 1) d).0 q then Some y else made q)) → AreRebuilt old new more
    turn_rebuilt new y more n s u = λ z w e. at z w (nat_eq (get_or ids (k - 1) d).0 z.0) refl e
      where
        was : (q : ℕ) (w : TermId) (b : Bool) → nat_eq (get_or ids (k - 1) d).0 q ≡ b → more q ≡ Some w → (if b then Some y else made q) ≡ Some w
        was q w b p e = ap (λ (c : Bool). if c then Some y else made q) (sym p) ∙ sym (u q) ∙ e

        mine : StandsForTree new y (rebuilt (tree_at (trees old) (get_or ids (k - 1) d)))
        mine = subst (λ (t : Tree). StandsForTree new y (rebuilt t)) (tree_grown old cur g (get_or ids (k - 1) d) x_old) s

        at : (z w : TermId) (b : Bool) → nat_eq (get_or ids (k - 1) d).0 z.0 ≡ b → more z.0 ≡ Some w → IsIn old z × StandsForTree new w (rebuilt (tree_at (trees old) z))
        at z w true p e =
            let f : Some y ≡ Some w = was z.0 w true p e in
            let same : y ≡ w = cc in
            let q : (get_or ids (k - 1) d).0 ≡ z.0 = nat_eq-is (get_or ids (k - 1) d).0 z.0 p in
            let both : IsIn old (get_or ids (k - 1) d) × StandsForTree new w (rebuilt (tree_at (trees old) (get_or ids (k - 1) d))) =
            (x_old, subst (λ (v : TermId). StandsForTree new v (rebuilt (tree_at (trees old) (get_or ids (k - 1) d)))) same mine) in
            subst (λ (n : ℕ). IsIn old (record { 0 = n }) × StandsForTree new w (rebuilt (tree_at (trees old) (record { 0 = n })))) q both
        at z w false p e =
            let b = r z w (was z.0 w false p e) in
            (b.0, stands_grown cur new n w (rebuilt (tree_at (trees old) z)) b.1)

    pub turn_made : (y : TermId) (more : ℕ → Option TermId) → ((q : ℕ) → more q ≡ (if nat_eq (get_or ids (k - 1) d).0 q then Some y else made q)) → AreMade made (drop k ids)
        → AreMade more (drop (k - 1) ids)
    turn_made y more u a =
        subst (λ (xs : List TermId). AreMade more xs) (sym (drop-cons ids (k - 1) d (omega arith)))
        (own, kept (drop (suc (k - 1)) ids) (subst (λ (n : ℕ). AreMade made (drop n ids)) step a))
      where
        own : is_some (more (get_or ids (k - 1) d).0) ≡ true
        own = ap is_some (u (get_or ids (k - 1) d).0 ∙ ap (λ (b : Bool). if b then Some y else made (get_or ids (k - 1) d).0) (nat_eq-refl (get_or ids (k - 1) d).0))

        kept : (xs : List TermId) → AreMade made xs → AreMade more xs
        kept [] h = tt
        kept (z ∷ xs) h = (at (nat_eq (get_or ids (k - 1) d).0 z.0) refl, kept xs h.1)
          where
            at : (b : Bool) → nat_eq (get_or ids (k - 1) d).0 z.0 ≡ b → is_some (more z.0) ≡ true
            at true e = ap is_some (u z.0 ∙ ap (λ (b : Bool). if b then Some y else made z.0) e)
            at false e = ap is_some (u z.0 ∙ ap (λ (b : Bool). if b then Some y else made z.0) e) ∙ h.0

pub made_all : (old : List TermNode) (roots ids : List TermId) (made : ℕ → Option TermId) (k : ℕ) → AreReached operands_of old roots ids → k ≡ 0 → AreMade made (drop k ids) → AreMade made roots
made_all old roots ids made k r z a = those made ids roots (subst (λ (n : ℕ). AreMade made (drop n ids)) z a) r.there

pub if_ok_stands : {E : Type 0} (q : Result TermId E) (new : List TermNode) (x z : Tree) → x ≡ z → IfOk q (λ y. StandsForTree new y x) → IfOk q (λ y. StandsForTree new y z)
if_ok_stands q new x z e h = subst (λ (w : Tree). IfOk q (λ y. StandsForTree new y w)) e h
