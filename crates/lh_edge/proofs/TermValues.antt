-- The values of terms at a valuation, by their ids.
use Rattle.std.proofs.Common.{◌≡◌, ℕ, ◌+◌, Bool, true, false, not, if◌then◌else◌, List, [], ◌∷◌, ◌++◌, refl, sym, ap, ◌∙◌, subst, arith, Some, slice_get}
use Rattle.lh_types.specs.declared.op.Op.{Op}
use Rattle.lh_types.specs.declared.val.Val.{Val}
use Rattle.lh_types.specs.ValueOf.{datum_of}
use Rattle.lh_term.specs.declared.part.Part.{Part}
use Rattle.lh_term.specs.declared.term.TermId.{TermId}
use Rattle.lh_term.specs.declared.term.Term.{Term}
use Rattle.lh_term.specs.declared.term.Term.TheVariants.{Konst, Past, Now, Op as Applied, Choice}
use Rattle.lh_term.specs.declared.term.TermNode.{TermNode}
use Rattle.lh_term.specs.Tree.{Tree, constant, past_of, now_of, operation, choice_of, tree_row, operation_on}
use Rattle.lh_term.specs.Make.{is_bit_value}
use Rattle.lh_term.specs.Arena.{tree_at, trees, trees_at, terms_in, term_tree}
use Rattle.lh_edge.specs.Atoms.{is_one_bit, is_connective}
use Rattle.lh_edge.specs.Valuations.{connected, holds, bits_of}
use Rattle.lh_edge.specs.Reached.{joined_by, is_atom, TellsPassed, TellsNext}
use Rattle.lh_edge.specs.Steps.{values_at, numbered, table_from}
use Rattle.lh_edge.proofs.Numbers.{table_push}

-- ---- the value of one term

values_bits : (ns : List TermNode) (v : Tree → Bool) (values : ℕ → Bool) (xs : List TermId) → TellsPassed ns (holds v) values xs → values_at values xs ≡ bits_of v (tree_row (trees_at ns xs))
values_bits ns v values [] h = refl
values_bits ns v values (x ∷ xs) h =
    let a : values x.0 ≡ holds v (tree_at (trees ns) x) = h.0 in
    let b = values_bits ns v values xs h.1 in
    λ i. a i ∷ b i

-- the bit of a term that is no connective is its own
pub atom_holds : (v : Tree → Bool) (t : Tree) → is_atom t ≡ true → holds v t ≡ v t
atom_holds v (constant d) e = at (is_one_bit (constant d)) e
  where
    at : (b : Bool) → not b ≡ true → (if b then is_bit_value 1 d else v (constant d)) ≡ v (constant d)
    at true k = cc
    at false k = refl
atom_holds v (past_of p) e = refl
atom_holds v (now_of p) e = refl
atom_holds v (operation op ts) e = at (is_connective op ts) e
  where
    at : (b : Bool) → not b ≡ true → (if b then connected op (bits_of v ts) else v (operation op ts)) ≡ v (operation op ts)
    at true k = cc
    at false k = refl
atom_holds v (choice_of c f t) e = at (is_one_bit f) e
  where
    at : (b : Bool) → not b ≡ true → (if b then (if holds v c then holds v t else holds v f) else v (choice_of c f t)) ≡ v (choice_of c f t)
    at true k = cc
    at false k = refl

module _ (ns : List TermNode) (v : Tree → Bool) (x : TermId) (k : Term) (shown : term_tree (trees ns) k ≡ tree_at (trees ns) x) where
  pub one_value : (d : Val) → k ≡ Konst d → is_one_bit (tree_at (trees ns) x) ≡ true → is_bit_value 1 (datum_of d) ≡ holds v (tree_at (trees ns) x)
  one_value d e o =
      let s : constant (datum_of d) ≡ tree_at (trees ns) x = ap (term_tree (trees ns)) (sym e) ∙ shown in
      let b : is_one_bit (constant (datum_of d)) ≡ true = ap is_one_bit s ∙ o in
      ap (λ (c : Bool). if c then is_bit_value 1 (datum_of d) else v (constant (datum_of d))) (sym b) ∙ ap (holds v) s

  pub wide_value : (d : Val) → k ≡ Konst d → is_one_bit (tree_at (trees ns) x) ≡ false → v (tree_at (trees ns) x) ≡ holds v (tree_at (trees ns) x)
  wide_value d e o =
      let s : constant (datum_of d) ≡ tree_at (trees ns) x = ap (term_tree (trees ns)) (sym e) ∙ shown in
      let b : is_atom (constant (datum_of d)) ≡ true = ap not (ap is_one_bit s ∙ o) in
      sym (atom_holds v (tree_at (trees ns) x) (ap is_atom (sym s) ∙ b))

  pub past_value : (p : Part) → k ≡ Past p → v (tree_at (trees ns) x) ≡ holds v (tree_at (trees ns) x)
  past_value p e = let s : past_of p ≡ tree_at (trees ns) x = ap (term_tree (trees ns)) (sym e) ∙ shown in sym (atom_holds v (tree_at (trees ns) x) (ap is_atom (sym s)))

  pub now_value : (p : Part) → k ≡ Now p → v (tree_at (trees ns) x) ≡ holds v (tree_at (trees ns) x)
  now_value p e = let s : now_of p ≡ tree_at (trees ns) x = ap (term_tree (trees ns)) (sym e) ∙ shown in sym (atom_holds v (tree_at (trees ns) x) (ap is_atom (sym s)))

  pub loose_value : (op : Op) (args : List TermId) → k ≡ Applied op args → is_connective op (tree_row (trees_at ns args)) ≡ false → v (tree_at (trees ns) x) ≡ holds v (tree_at (trees ns) x)
  loose_value op args e o =
      let s : operation_on op (trees_at ns args) ≡ tree_at (trees ns) x = ap (term_tree (trees ns)) (sym e) ∙ shown in
      sym (atom_holds v (tree_at (trees ns) x) (ap is_atom (sym s) ∙ ap not o))

  pub joined_value : (op : Op) (args : List TermId) (values : ℕ → Bool) → k ≡ Applied op args → is_connective op (tree_row (trees_at ns args)) ≡ true → slice_get (terms_in ns) x.0 ≡ Some k
      → TellsNext (joined_by (trees ns)) ns (holds v) values x
      → connected op (values_at values args) ≡ holds v (tree_at (trees ns) x)
  joined_value op args values e o at j =
      let ts = tree_row (trees_at ns args) in
      let s : operation op ts ≡ tree_at (trees ns) x = ap (term_tree (trees ns)) (sym e) ∙ shown in
      let all : TellsPassed ns (holds v) values (joined_by (trees ns) (Applied op args)) = j (Applied op args) (at ∙ ap Some e) in
      let own : TellsPassed ns (holds v) values args = subst (λ (b : Bool). TellsPassed ns (holds v) values (if b then args else [])) o all in
      ap (connected op) (values_bits ns v values args own) ∙ ap (λ (b : Bool). if b then connected op (bits_of v ts) else v (operation op ts)) (sym o) ∙ ap (holds v) s

  pub other_value : (c f t : TermId) → k ≡ Choice c f t → is_one_bit (tree_at (trees ns) f) ≡ false → v (tree_at (trees ns) x) ≡ holds v (tree_at (trees ns) x)
  other_value c f t e o =
      let s : choice_of (tree_at (trees ns) c) (tree_at (trees ns) f) (tree_at (trees ns) t) ≡ tree_at (trees ns) x = ap (term_tree (trees ns)) (sym e) ∙ shown in
      sym (atom_holds v (tree_at (trees ns) x) (ap is_atom (sym s) ∙ ap not o))

  pub chosen_value : (c f t : TermId) (values : ℕ → Bool) → k ≡ Choice c f t → is_one_bit (tree_at (trees ns) f) ≡ true → slice_get (terms_in ns) x.0 ≡ Some k → TellsNext (joined_by (trees ns)) ns (holds v) values x
      → (if values c.0 then values t.0 else values f.0) ≡ holds v (tree_at (trees ns) x)
  chosen_value c f t values e o at j =
      let C = tree_at (trees ns) c in
      let F = tree_at (trees ns) f in
      let T = tree_at (trees ns) t in
      let s : choice_of C F T ≡ tree_at (trees ns) x = ap (term_tree (trees ns)) (sym e) ∙ shown in
      let all : TellsPassed ns (holds v) values (joined_by (trees ns) (Choice c f t)) = j (Choice c f t) (at ∙ ap Some e) in
      let own : TellsPassed ns (holds v) values (c ∷ f ∷ t ∷ []) = subst (λ (b : Bool). TellsPassed ns (holds v) values (if b then c ∷ f ∷ t ∷ [] else [])) o all in
      let a : values c.0 ≡ holds v C = own.0 in
      let b : values f.0 ≡ holds v F = own.1.0 in
      let d : values t.0 ≡ holds v T = own.1.1.0 in
      (λ i. if a i then d i else b i) ∙ ap (λ (b : Bool). if b then (if holds v C then holds v T else holds v F) else v (choice_of C F T)) (sym o) ∙ ap (holds v) s

-- ---- the table so far

pub table_next : (atoms : List Tree) (e : Tree) (table more : List Bool) (k : ℕ) (b : Bool) → table ≡ table_from atoms e 0 k → b ≡ holds (numbered atoms k) e → more ≡ table ++ b ∷ []
    → more ≡ table_from atoms e 0 (k + 1)
table_next atoms e table more k b t h m =
    let z : k ≡ 0 + k = omega arith in
    m ∙ (λ i. t i ++ h i ∷ []) ∙ ap (λ n. table_from atoms e 0 k ++ holds (numbered atoms n) e ∷ []) z ∙ sym (table_push atoms e 0 k)
