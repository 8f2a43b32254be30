-- Gates in a row, and what they give.
use Rattle.std.proofs.Common.{◌≡◌, ℕ, zero, suc, ◌+◌, ◌-◌, ◌*◌, ◌/◌, ◌^◌, ◌<◌, ◌≤◌, Bool, true, false, not, nat_eq, if◌then◌else◌, List, [], ◌∷◌, ◌++◌, length, drop, take, get_or, refl, sym, ap, ◌∙◌, subst, arith, Option, Some, None, slice_get, drop-cons, length-append, pow-suc, nat_lt, ◌%◌, lit≤}
use Rattle.std.specs.Cmp.{second_so}
use Rattle.std.specs.Option.{is_some}
use Rattle.std.proofs.Math.Nat.{div-div-eq-div-mul}
use Rattle.lh_types.specs.declared.op.Op.{Op}
use Rattle.lh_types.specs.declared.val.Val.{Val}
use Rattle.lh_types.specs.ValueOf.{datum_of}
use Rattle.lh_types.specs.Same.{nat_eq-refl, nat_eq-is}
use Rattle.lh_term.specs.declared.part.Part.{Part}
use Rattle.lh_term.specs.declared.term.TermId.{TermId}
use Rattle.lh_term.specs.declared.term.Term.{Term}
use Rattle.lh_term.specs.declared.term.Term.TheVariants.{Konst, Past, Now, Op as Applied, Choice}
use Rattle.lh_term.specs.declared.term.TermNode.{TermNode}
use Rattle.lh_term.specs.Tree.{Tree, tree_row}
use Rattle.lh_term.specs.Make.{is_bit_value}
use Rattle.lh_term.specs.SameTree.{same_tree}
use Rattle.lh_term.specs.Arena.{tree_at, trees, trees_at, terms_in, term_tree, ids_below}
use Rattle.lh_term.specs.Reach.{is_on, AllPass, GoOn, none_left}
use Rattle.lh_term.proofs.TermWalks.{pass_on, behind}
use Rattle.lh_term.proofs.Swaps.{rest_of}
use Rattle.lh_edge.specs.Atoms.{is_one_bit, is_connective}
use Rattle.lh_edge.specs.Valuations.{connected, holds}
use Rattle.lh_edge.specs.Reached.{joined_by, is_atom, TellsPassed, TellsNext}
use Rattle.lh_edge.specs.Steps.{is_odd, numbered, values_at}
use Rattle.lh_edge.proofs.Joined.{at_place}
use Rattle.lh_edge.proofs.TermValues.{one_value, joined_value, chosen_value}
use Rattle.lh_cert_agree.specs.Gates.{bit_of_number, bit_in, gate_bit, bits_behind, gate_bits, IsGateOf, ArePlaced, OperandsPlaced, place_or, placed_bit, AreGates}
use Rattle.lh_cert_agree.specs.declared.gates.Gate.{Gate}

-- ---- bits of gates

pub behind_push : (n : ℕ) (bits : List Bool) (gs : List Gate) (g : Gate) → bits_behind n bits (gs ++ g ∷ []) ≡ bits_behind n bits gs ++ gate_bit n (bits_behind n bits gs) g ∷ []
behind_push n bits [] g = refl
behind_push n bits (h ∷ gs) g = behind_push n (bits ++ gate_bit n bits h ∷ []) gs g

behind_length : (n : ℕ) (bits : List Bool) (gs : List Gate) → length (bits_behind n bits gs) ≡ length bits + length gs
behind_length n bits [] = omega arith
behind_length n bits (g ∷ gs) = omega (arith, behind_length n (bits ++ gate_bit n bits g ∷ []) gs, length-append bits (gate_bit n bits g ∷ []))

bit_old : (xs : List Bool) (b : Bool) (p : ℕ) → p < length xs → bit_in (xs ++ b ∷ []) p ≡ bit_in xs p
bit_old [] b p l = absurd (omega arith)
bit_old (x ∷ xs) b zero l = refl
bit_old (x ∷ xs) b (suc p) l = bit_old xs b p (omega arith)

bit_new : (xs : List Bool) (b : Bool) (p : ℕ) → p ≡ length xs → bit_in (xs ++ b ∷ []) p ≡ b
bit_new [] b zero e = refl
bit_new [] b (suc p) e = absurd (omega arith)
bit_new (x ∷ xs) b zero e = absurd (omega arith)
bit_new (x ∷ xs) b (suc p) e = bit_new xs b p (omega arith)

module _ (ns : List TermNode) (atoms : List Tree) (gates : List Gate) (places : ℕ → Option ℕ) where
  pub gates_start : gates ≡ [] → ((i : ℕ) → places i ≡ None) → AreGates ns atoms gates places
  gates_start e h = record {
    within = λ i p s. let n : None ≡ Some p = sym (h i) ∙ s in cc;
    right = λ i p s. let n : None ≡ Some p = sym (h i) ∙ s in cc;
  }

  pub gates_next : (x : TermId) (g : Gate) (more : List Gate) (new : ℕ → Option ℕ) → AreGates ns atoms gates places → IsGateOf atoms gates g (tree_at (trees ns) x) → more ≡ gates ++ g ∷ []
      → ((q : ℕ) → new q ≡ (if nat_eq x.0 q then Some (length gates) else places q)) → AreGates ns atoms more new
  gates_next x g more new a r m u = record {
    within = λ i p s. below i p s (nat_eq x.0 i) refl;
    right = λ i p s n. bit i p s n (nat_eq x.0 i) refl;
  }
    where
      count : length more ≡ length gates + 1
      count = ap length m ∙ length-append gates (g ∷ [])

      was : (i p : ℕ) (b : Bool) → nat_eq x.0 i ≡ b → new i ≡ Some p → (if b then Some (length gates) else places i) ≡ Some p
      was i p b q s = ap (λ (c : Bool). if c then Some (length gates) else places i) (sym q) ∙ sym (u i) ∙ s

      below : (i p : ℕ) → new i ≡ Some p → (b : Bool) → nat_eq x.0 i ≡ b → p < length more
      below i p s true q = let e : Some (length gates) ≡ Some p = was i p true q s in let f : length gates ≡ p = cc in omega (arith, count)
      below i p s false q = let l = a.within i p (was i p false q s) in omega (arith, count)

      bits_more : (n : ℕ) → gate_bits n more ≡ gate_bits n gates ++ gate_bit n (gate_bits n gates) g ∷ []
      bits_more n = ap (gate_bits n) m ∙ behind_push n [] gates g

      bits_count : (n : ℕ) → length (gate_bits n gates) ≡ length gates
      bits_count n = omega (arith, behind_length n [] gates)

      bit : (i p : ℕ) → new i ≡ Some p → (n : ℕ) → (b : Bool) → nat_eq x.0 i ≡ b → bit_in (gate_bits n more) p ≡ holds (numbered atoms n) (tree_at (trees ns) (record { 0 = i }))
      bit i p s n true q =
          let e : Some (length gates) ≡ Some p = was i p true q s in
          let f : length gates ≡ p = cc in
          ap (λ bs. bit_in bs p) (bits_more n) ∙ bit_new (gate_bits n gates) (gate_bit n (gate_bits n gates) g) p (omega (arith, bits_count n)) ∙ r n
          ∙ ap (λ j. holds (numbered atoms n) (tree_at (trees ns) (record { 0 = j }))) (nat_eq-is x.0 i q)
      bit i p s n false q =
          let o = was i p false q s in
          let l : p < length (gate_bits n gates) = omega (arith, bits_count n, a.within i p o) in
          ap (λ bs. bit_in bs p) (bits_more n) ∙ bit_old (gate_bits n gates) (gate_bit n (gate_bits n gates) g) p l ∙ a.right i p o n

  -- ---- the gate of one term

  module _ (a : AreGates ns atoms gates places) where
    told : (n i : ℕ) → is_some (places i) ≡ true → placed_bit n gates places i ≡ holds (numbered atoms n) (tree_at (trees ns) (record { 0 = i }))
    told n i h = at (places i) refl h
      where
        at : (o : Option ℕ) → places i ≡ o → is_some o ≡ true → bit_in (gate_bits n gates) (place_or (places i)) ≡ holds (numbered atoms n) (tree_at (trees ns) (record { 0 = i }))
        at (Some p) e k = ap (λ o. bit_in (gate_bits n gates) (place_or o)) e ∙ a.right i p e n
        at None e k = cc

    pub tells : (n : ℕ) (xs : List TermId) → ArePlaced places xs → TellsPassed ns (holds (numbered atoms n)) (placed_bit n gates places) xs
    tells n [] h = tt
    tells n (x ∷ xs) h = (told n x.0 h.0 ∙ ap (holds (numbered atoms n)) (at_place (trees ns) x x.0 refl), tells n xs h.1)

    tells_next : (n : ℕ) (x : TermId) → OperandsPlaced ns places x → TellsNext (joined_by (trees ns)) ns (holds (numbered atoms n)) (placed_bit n gates places) x
    tells_next n x h = λ k at. tells n (joined_by (trees ns) k) (h k at)

    module _ (x : TermId) (k : Term) (at : slice_get (terms_in ns) x.0 ≡ Some k) (shown : term_tree (trees ns) k ≡ tree_at (trees ns) x) (o : OperandsPlaced ns places x)
        (c : is_atom (tree_at (trees ns) x) ≡ false) where
      opposite : (b : Bool) → not b ≡ false → b ≡ true
      opposite true e = refl
      opposite false e = cc

      connects_all : (op : Op) (args : List TermId) → k ≡ Applied op args → is_connective op (tree_row (trees_at ns args)) ≡ true
      connects_all op args e = opposite _ (ap is_atom (ap (term_tree (trees ns)) (sym e) ∙ shown) ∙ c)

      chooses_bit : (d f t : TermId) → k ≡ Choice d f t → is_one_bit (tree_at (trees ns) f) ≡ true
      chooses_bit d f t e = opposite _ (ap is_atom (ap (term_tree (trees ns)) (sym e) ∙ shown) ∙ c)

      pub operands_placed : (op : Op) (args : List TermId) → k ≡ Applied op args → ArePlaced places args
      operands_placed op args e =
          subst (λ (b : Bool). ArePlaced places (if b then args else [])) (connects_all op args e) (o (Applied op args) (at ∙ ap Some e))

      pub choice_placed : (d f t : TermId) → k ≡ Choice d f t → ArePlaced places (d ∷ f ∷ t ∷ [])
      choice_placed d f t e =
          subst (λ (b : Bool). ArePlaced places (if b then d ∷ f ∷ t ∷ [] else [])) (chooses_bit d f t e) (o (Choice d f t) (at ∙ ap Some e))

      pub constant_gate : (d : Val) → k ≡ Konst d → (n : ℕ) → is_bit_value 1 (datum_of d) ≡ holds (numbered atoms n) (tree_at (trees ns) x)
      constant_gate d e n =
          one_value ns (numbered atoms n) x k shown d e (ap is_one_bit (sym (ap (term_tree (trees ns)) (sym e) ∙ shown)) ∙ opposite _ (ap is_atom (ap (term_tree (trees ns)) (sym e) ∙ shown) ∙ c))

      pub connective_gate : (op : Op) (args : List TermId) → k ≡ Applied op args → (n : ℕ)
          → connected op (values_at (placed_bit n gates places) args) ≡ holds (numbered atoms n) (tree_at (trees ns) x)
      connective_gate op args e n = joined_value ns (numbered atoms n) x k shown op args (placed_bit n gates places) e (connects_all op args e) at (tells_next n x o)

      pub choice_gate : (d f t : TermId) → k ≡ Choice d f t → (n : ℕ)
          → (if placed_bit n gates places d.0 then placed_bit n gates places t.0 else placed_bit n gates places f.0) ≡ holds (numbered atoms n) (tree_at (trees ns) x)
      choice_gate d f t e n = chosen_value ns (numbered atoms n) x k shown d f t (placed_bit n gates places) e (chooses_bit d f t e) at (tells_next n x o)

      pub no_past : (p : Part) → k ≡ Past p → ⊥
      no_past p e = let n : true ≡ false = ap is_atom (ap (term_tree (trees ns)) (sym e) ∙ shown) ∙ c in cc

      pub no_now : (p : Part) → k ≡ Now p → ⊥
      no_now p e = let n : true ≡ false = ap is_atom (ap (term_tree (trees ns)) (sym e) ∙ shown) ∙ c in cc

-- ---- the terms one by one, from the last

placed_kept : (places new : ℕ → Option ℕ) (x : TermId) (p : ℕ) → ((q : ℕ) → new q ≡ (if nat_eq x.0 q then Some p else places q)) → (xs : List TermId) → ArePlaced places xs → ArePlaced new xs
placed_kept places new x p u [] h = tt
placed_kept places new x p u (y ∷ xs) h = (at (nat_eq x.0 y.0) refl, placed_kept places new x p u xs h.1)
  where
    at : (b : Bool) → nat_eq x.0 y.0 ≡ b → is_some (new y.0) ≡ true
    at true e = ap is_some (u y.0 ∙ ap (λ (b : Bool). if b then Some p else places y.0) e)
    at false e = ap is_some (u y.0 ∙ ap (λ (b : Bool). if b then Some p else places y.0) e) ∙ h.0

pub placed_next : (places new : ℕ → Option ℕ) (ids : List TermId) (k : ℕ) (d : TermId) (p : ℕ) → 0 < k → k ≤ length ids
    → ((q : ℕ) → new q ≡ (if nat_eq (get_or ids (k - 1) d).0 q then Some p else places q)) → ArePlaced places (drop k ids) → ArePlaced new (drop (k - 1) ids)
placed_next places new ids k d p h l u a =
    let x = get_or ids (k - 1) d in
    let e : k ≡ suc (k - 1) = omega arith in
    let cut : drop (k - 1) ids ≡ x ∷ drop (suc (k - 1)) ids = drop-cons ids (k - 1) d (omega arith) in
    let b : ArePlaced places (drop (suc (k - 1)) ids) = subst (λ (n : ℕ). ArePlaced places (drop n ids)) e a in
    let own : is_some (new x.0) ≡ true = ap is_some (u x.0 ∙ ap (λ (b : Bool). if b then Some p else places x.0) (nat_eq-refl x.0)) in
    subst (λ (xs : List TermId). ArePlaced new xs) (sym cut) (own, placed_kept places new x p u (drop (suc (k - 1)) ids) b)

pub operands_next : (ns : List TermNode) (places : ℕ → Option ℕ) (ids : List TermId) (k : ℕ) (d : TermId) → GoOn (joined_by (trees ns)) ns none_left ids → 0 < k → k ≤ length ids → ArePlaced places (drop k ids)
    → OperandsPlaced ns places (get_or ids (k - 1) d)
operands_next ns places ids k d g h l a t at =
    let e : k ≡ suc (k - 1) = omega arith in
    let o : AllPass (is_on (drop (suc (k - 1)) ids)) (joined_by (trees ns) t) = behind (joined_by (trees ns)) ns ids (k - 1) d t g (omega arith) at in
    those (drop (suc (k - 1)) ids) (joined_by (trees ns) t) (subst (λ (n : ℕ). ArePlaced places (drop n ids)) e a) o
  where
    those : (all xs : List TermId) → ArePlaced places all → AllPass (is_on all) xs → ArePlaced places xs
    those all [] p q = tt
    those all (x ∷ xs) p q = (pass_on (λ i. is_some (places i)) all x.0 p q.0, those all xs p q.1)

pub placed_all : (places : ℕ → Option ℕ) (ids : List TermId) (k : ℕ) → k ≡ 0 → ArePlaced places (drop k ids) → ArePlaced places ids
placed_all places ids k z a = subst (λ (n : ℕ). ArePlaced places (drop n ids)) z a

-- ---- the number of an atom

half_more : (n j : ℕ) → (n / 2 ^ j) / 2 ≡ n / 2 ^ (j + 1)
half_more n j = let e : j + 1 ≡ suc j = omega arith in div-div-eq-div-mul n (2 ^ j) 2 ∙ ap (λ m. n / m) (sym (pow-suc 2 j)) ∙ ap (λ m. n / 2 ^ m) (sym e)

pub number_start : (atoms : List Tree) (t : Tree) (n : ℕ) → numbered atoms (n / 2 ^ 0) t ≡ numbered atoms n t
number_start atoms t n = let e : n / 2 ^ 0 ≡ n = omega arith in ap (λ m. numbered atoms m t) e

pub number_next : (a : Tree) (more : List Tree) (t : Tree) (n j : ℕ) → same_tree a t ≡ false → numbered more (n / 2 ^ (j + 1)) t ≡ numbered (a ∷ more) (n / 2 ^ j) t
number_next a more t n j e =
    ap (λ m. numbered more m t) (sym (half_more n j)) ∙ ap (λ (b : Bool). if b then is_odd (n / 2 ^ j) else numbered more ((n / 2 ^ j) / 2) t) (sym e)

pub number_here : (a : Tree) (more : List Tree) (t : Tree) (n j : ℕ) → same_tree a t ≡ true → bit_of_number n j ≡ numbered (a ∷ more) (n / 2 ^ j) t
number_here a more t n j e = ap (λ (b : Bool). if b then is_odd (n / 2 ^ j) else numbered more ((n / 2 ^ j) / 2) t) (sym e)

pub atom_next : (ns : List TermNode) (atoms left : List TermId) (x d : TermId) (j : ℕ) → 1 ≤ length left → same_tree (tree_at (trees ns) (get_or left 0 d)) (tree_at (trees ns) x) ≡ false
    → ((n : ℕ) → numbered (trees_at ns left) (n / 2 ^ j) (tree_at (trees ns) x) ≡ numbered (trees_at ns atoms) n (tree_at (trees ns) x))
    → (n : ℕ) → numbered (trees_at ns (take (length left - 1) (drop 1 left))) (n / 2 ^ (j + 1)) (tree_at (trees ns) x) ≡ numbered (trees_at ns atoms) n (tree_at (trees ns) x)
atom_next ns atoms [] x d j l e h n = absurd (omega arith)
atom_next ns atoms (y ∷ left) x d j l e h n =
    ap (λ xs. numbered (trees_at ns xs) (n / 2 ^ (j + 1)) (tree_at (trees ns) x)) (rest_of y left)
    ∙ number_next (tree_at (trees ns) y) (trees_at ns left) (tree_at (trees ns) x) n j e ∙ h n

pub rest_length : (left : List TermId) → 1 ≤ length left → length (take (length left - 1) (drop 1 left)) + 1 ≡ length left
rest_length [] l = absurd (omega arith)
rest_length (y ∷ left) l = omega (arith, ap length (rest_of y left))

pub rest_below : (k : ℕ) (left : List TermId) → 1 ≤ length left → ids_below k left ≡ true → ids_below k (take (length left - 1) (drop 1 left)) ≡ true
rest_below k [] l h = absurd (omega arith)
rest_below k (y ∷ left) l h = ap (ids_below k) (rest_of y left) ∙ second_so (nat_lt y.0 k) (ids_below k left) h

pub atom_none : (ns : List TermNode) (left : List TermId) (m : ℕ) (t : Tree) → length left < 1 → false ≡ numbered (trees_at ns left) m t
atom_none ns [] m t l = refl
atom_none ns (y ∷ left) m t l = absurd (omega arith)

-- ---- blocks of numbers

pub blocks_enough : (k : ℕ) → k ≤ 6 → 2 ^ (6 + k) ≤ 64 * (1 * 2 ^ k % 18446744073709551616)
blocks_enough zero l = lit≤ tt
blocks_enough (suc zero) l = lit≤ tt
blocks_enough (suc (suc zero)) l = lit≤ tt
blocks_enough (suc (suc (suc zero))) l = lit≤ tt
blocks_enough (suc (suc (suc (suc zero)))) l = lit≤ tt
blocks_enough (suc (suc (suc (suc (suc zero))))) l = lit≤ tt
blocks_enough (suc (suc (suc (suc (suc (suc zero)))))) l = lit≤ tt
blocks_enough (suc (suc (suc (suc (suc (suc (suc k))))))) l = absurd (omega arith)

pub one_block : (k : ℕ) → k ≤ 6 → 2 ^ k ≤ 64
one_block zero l = lit≤ tt
one_block (suc zero) l = lit≤ tt
one_block (suc (suc zero)) l = lit≤ tt
one_block (suc (suc (suc zero))) l = lit≤ tt
one_block (suc (suc (suc (suc zero)))) l = lit≤ tt
one_block (suc (suc (suc (suc (suc zero))))) l = lit≤ tt
one_block (suc (suc (suc (suc (suc (suc zero)))))) l = lit≤ tt
one_block (suc (suc (suc (suc (suc (suc (suc k))))))) l = absurd (omega arith)
