-- What a part shows, by bits of the numbers of valuations.
use Rattle.std.proofs.Common.{◌≡◌, ℕ, zero, suc, ◌+◌, ◌-◌, ◌*◌, ◌/◌, ◌%◌, ◌^◌, ◌<◌, ◌≤◌, Bool, true, false, not, ◌&&◌, ◌||◌, nat_eq, if◌then◌else◌, List, [], ◌∷◌, length, replicate, refl, sym, ap, ◌∙◌, subst, inl, inr, ◌⊎◌, arith, pow-suc, take, drop, get_or, slice_set, drop-cons, drop_of_length-le, eq-eqb, ne_eqb}
use lib.Bits.{bit_and}
use Rattle.std.specs.List.{list_any}
use Rattle.std.proofs.lemmas.Nat.{and_block, and_le_l, and_le_r, pow_pos}
use Rattle.std.proofs.lemmas.List.{length-replicate}
use Rattle.std.proofs.Math.Bool.{or_assoc, or-false, or-true}
use Rattle.lh_term.specs.declared.part.Part.{Part}
use Rattle.lh_term.specs.declared.term.TermId.{TermId}
use Rattle.lh_term.specs.declared.term.TermNode.{TermNode}
use Rattle.lh_types.specs.Same.{nat_eq-refl, nat_eq-is}
use Rattle.lh_term.specs.Tree.{Tree, past_of, now_of}
use Rattle.lh_term.specs.SameTree.{same_tree}
use Rattle.lh_term.specs.Arena.{tree_at, trees, trees_at}
use Rattle.lh_term.proofs.Arenas.{map_length}
use Rattle.lh_edge.specs.Valuations.{differ}
use Rattle.lh_edge.specs.Steps.{is_odd, numbered, is_other, agree, stays_from, shows_at, has_bit, bit_of_atom, kept_bits, holds_where, HoldsBy, IsSight, AddsShown, AreMarks}
use Rattle.lh_edge.specs.declared.shown.Sight.{Sight}
use Rattle.lh_edge.proofs.Numbers.{here_or_before, set_length}
use Rattle.lh_types.proofs.Tests.{not_both}
use Rattle.lh_types.proofs.Lists.{no_flag}

-- ---- halves

two_ways : (n : ℕ) → (n % 2 ≡ 0) ⊎ (n % 2 ≡ 1)
two_ways n = at (nat_eq (n % 2) 0) refl
  where
    at : (b : Bool) → nat_eq (n % 2) 0 ≡ b → (n % 2 ≡ 0) ⊎ (n % 2 ≡ 1)
    at true e = inl (nat_eq-is (n % 2) 0 e)
    at false e = inr (one (n % 2) (omega arith) (λ z. not_both (nat_eq (n % 2) 0) (ap (λ m. nat_eq m 0) z) e))
      where
        one : (m : ℕ) → m < 2 → (m ≡ 0 → ⊥) → m ≡ 1
        one zero l z = absurd (z refl)
        one (suc zero) l z = refl
        one (suc (suc m)) l z = absurd (omega arith)

-- the bits above the lowest, and the lowest
and_even : (k m : ℕ) → bit_and k (2 * m) ≡ bit_and (k / 2) m * 2
and_even k m =
    let a : k ≡ k / 2 * 2 ^ 1 + k % 2 = omega arith in
    let b : 2 * m ≡ m * 2 ^ 1 + 0 = omega arith in
    let l : k % 2 < 2 ^ 1 = omega arith in
    let z : 0 < 2 ^ 1 = omega arith in
    let c = (λ i. bit_and (a i) (b i)) ∙ and_block 1 (k / 2) m (k % 2) 0 l z in
    let d : bit_and (k % 2) 0 ≡ 0 = elim (two_ways k) [ inl p ↦ ap (λ n. bit_and n 0) p | inr p ↦ ap (λ n. bit_and n 0) p ] in
    omega (arith, c, d)

and_odd : (k m : ℕ) → bit_and k (1 + 2 * m) ≡ bit_and (k / 2) m * 2 + k % 2
and_odd k m =
    let a : k ≡ k / 2 * 2 ^ 1 + k % 2 = omega arith in
    let b : 1 + 2 * m ≡ m * 2 ^ 1 + 1 = omega arith in
    let l : k % 2 < 2 ^ 1 = omega arith in
    let z : 1 < 2 ^ 1 = omega arith in
    let c = (λ i. bit_and (a i) (b i)) ∙ and_block 1 (k / 2) m (k % 2) 1 l z in
    let d : bit_and (k % 2) 1 ≡ k % 2 = elim (two_ways k) [ inl p ↦ ap (λ n. bit_and n 1) p ∙ sym p | inr p ↦ ap (λ n. bit_and n 1) p ∙ sym p ] in
    omega (arith, c, d)

eq_by : (m n x y : ℕ) → (m ≡ n → x ≡ y) → (x ≡ y → m ≡ n) → nat_eq m n ≡ nat_eq x y
eq_by m n x y f g = at (nat_eq m n) (nat_eq x y) refl refl
  where
    same : (a b : ℕ) → a ≡ b → nat_eq a b ≡ true
    same a b e = ap (nat_eq a) (sym e) ∙ nat_eq-refl a

    at : (b c : Bool) → nat_eq m n ≡ b → nat_eq x y ≡ c → nat_eq m n ≡ nat_eq x y
    at true c p q = p ∙ sym (same x y (f (nat_eq-is m n p)))
    at false false p q = p ∙ sym q
    at false true p q = absurd (not_both (nat_eq m n) (same m n (g (nat_eq-is x y q))) p)

and_none : (k : ℕ) → bit_and k 0 ≡ 0
and_none k = omega (arith, and_le_r k 0)

double_eq : (x y : ℕ) → nat_eq (x * 2) (y * 2) ≡ nat_eq x y
double_eq x y = eq_by (x * 2) (y * 2) x y (λ e. omega (arith, e)) (λ e. ap (λ n. n * 2) e)

-- ---- the value of an atom

odd_is : (k : ℕ) → not (nat_eq (k % 2) 0) ≡ is_odd k
odd_is k = elim (two_ways k) [
  | inl p ↦ ap (λ n. not (nat_eq n 0)) p ∙ sym (ap (λ n. nat_eq n 1) p)
  | inr p ↦ ap (λ n. not (nat_eq n 0)) p ∙ sym (ap (λ n. nat_eq n 1) p)
]

pub bit_tells : (atoms : List Tree) (k : ℕ) (t : Tree) → has_bit k (bit_of_atom atoms t) ≡ numbered atoms k t
bit_tells [] k t = ap (λ n. not (nat_eq n 0)) (and_none k)
bit_tells (a ∷ more) k t = at (same_tree a t) (bit_tells more (k / 2) t)
  where
    at : (b : Bool) → has_bit (k / 2) (bit_of_atom more t) ≡ numbered more (k / 2) t → has_bit k (if b then 1 else 2 * bit_of_atom more t) ≡ (if b then is_odd k else numbered more (k / 2) t)
    at true h =
        let e : bit_and k 1 ≡ k % 2 = omega (arith, and_odd k 0, and_none (k / 2)) in
        ap (λ n. not (nat_eq n 0)) e ∙ odd_is k
    at false h = ap (λ n. not (nat_eq n 0)) (and_even k (bit_of_atom more t)) ∙ ap not (double_eq (bit_and (k / 2) (bit_of_atom more t)) 0) ∙ h

-- ---- numbers that agree

pair_eq : (x y p q : ℕ) → p < 2 → q < 2 → nat_eq (x * 2 + p) (y * 2 + q) ≡ (nat_eq p q && nat_eq x y)
pair_eq x y p q l m = at (nat_eq p q) (nat_eq x y) refl refl
  where
    at : (b c : Bool) → nat_eq p q ≡ b → nat_eq x y ≡ c → nat_eq (x * 2 + p) (y * 2 + q) ≡ (b && c)
    at true true e f = let g = nat_eq-is p q e in let h = nat_eq-is x y f in eq-eqb _ _ (omega (arith, g, h))
    at true false e f = ne_eqb (x * 2 + p) (y * 2 + q) (λ g. let h : x ≡ y = omega (arith, g, nat_eq-is p q e) in not_both (nat_eq x y) (eq-eqb x y h) f)
    at false c e f = ne_eqb (x * 2 + p) (y * 2 + q) (λ g. let h : p ≡ q = omega (arith, g, l, m) in not_both (nat_eq p q) (eq-eqb p q h) e)

pub agree_tells : (b : Tree) (atoms : List Tree) (k j : ℕ) → agree b atoms k j ≡ nat_eq (bit_and k (kept_bits b atoms)) (bit_and j (kept_bits b atoms))
agree_tells b [] k j = sym ((λ i. nat_eq (and_none k i) (and_none j i)))
agree_tells b (a ∷ more) k j = at (is_other b a) (agree_tells b more (k / 2) (j / 2))
  where
    K : ℕ
    K = kept_bits b more

    at : (o : Bool) → agree b more (k / 2) (j / 2) ≡ nat_eq (bit_and (k / 2) K) (bit_and (j / 2) K)
        → ((o || nat_eq (k % 2) (j % 2)) && agree b more (k / 2) (j / 2)) ≡ nat_eq (bit_and k (if o then 2 * K else 1 + 2 * K)) (bit_and j (if o then 2 * K else 1 + 2 * K))
    at true h = h ∙ sym (double_eq (bit_and (k / 2) K) (bit_and (j / 2) K)) ∙ sym (λ i. nat_eq (and_even k K i) (and_even j K i))
    at false h =
        ap (λ r. nat_eq (k % 2) (j % 2) && r) h ∙ sym (pair_eq (bit_and (k / 2) K) (bit_and (j / 2) K) (k % 2) (j % 2) (omega arith) (omega arith))
        ∙ sym (λ i. nat_eq (and_odd k K i) (and_odd j K i))

pub stays_is : (b : Tree) (atoms : List Tree) (k j : ℕ) (hs : List Bool) → stays_from b atoms k j hs ≡ holds_where (kept_bits b atoms) (bit_and k (kept_bits b atoms)) j hs
stays_is b atoms k j [] = refl
stays_is b atoms k j (h ∷ hs) = let a = agree_tells b atoms k j in let r = stays_is b atoms k (j + 1) hs in λ i. (h || not (a i)) && r i

-- ---- how a part shows a valuation

pub shows_is : (table : List Bool) (atoms : List Tree) (p : Part) (s : Sight) (k : ℕ) → IsSight table atoms p s → k < length table
    → shows_at table atoms k p ≡ (differ (has_bit k s.before) (has_bit k s.after) && get_or s.holds.items (bit_and k s.kept) false)
shows_is table atoms p s k h l =
    let a : numbered atoms k (past_of p) ≡ has_bit k s.before = sym (bit_tells atoms k (past_of p)) ∙ ap (has_bit k) (sym h.before) in
    let b : numbered atoms k (now_of p) ≡ has_bit k s.after = sym (bit_tells atoms k (now_of p)) ∙ ap (has_bit k) (sym h.after) in
    let n : bit_and k s.kept < length table = omega (arith, and_le_l k s.kept) in
    let c : stays_from (past_of p) atoms k 0 table ≡ get_or s.holds.items (bit_and k s.kept) false =
    stays_is (past_of p) atoms k 0 table ∙ ap (λ m. holds_where m (bit_and k m) 0 table) (sym h.kept) ∙ sym (h.holds.each (bit_and k s.kept) n)
    in
    λ i. differ (a i) (b i) && c i

pub place_in_table : (table : List Bool) (atoms : List Tree) (p : Part) (s : Sight) (k : ℕ) → IsSight table atoms p s → k < length table → bit_and k s.kept < length s.holds.items
place_in_table table atoms p s k h l = omega (arith, and_le_l k s.kept, h.holds.length_is)

get_any : (xs : List Bool) (n : ℕ) (d e : Bool) → n < length xs → get_or xs n d ≡ get_or xs n e
get_any [] n d e l = absurd (omega arith)
get_any (x ∷ xs) zero d e l = refl
get_any (x ∷ xs) (suc n) d e l = get_any xs n d e (omega arith)

module _ (table : List Bool) (atoms : List Tree) (p : Part) (s : Sight) (k : ℕ) (h : IsSight table atoms p s) (l : k < length table)
    (before after differs : Bool) (b : before ≡ has_bit k s.before) (a : after ≡ has_bit k s.after) (d : differs ≡ differ before after) where
  same : shows_at table atoms k p ≡ (differs && get_or s.holds.items (bit_and k s.kept) false)
  same = shows_is table atoms p s k h l ∙ sym ((λ i. d i && get_or s.holds.items (bit_and k s.kept) false) ∙ (λ i. differ (b i) (a i) && get_or s.holds.items (bit_and k s.kept) false))

  pub shows_held : (r : Bool) → differs ≡ true → r ≡ get_or s.holds.items (bit_and k s.kept) r → r ≡ shows_at table atoms k p
  shows_held r e g = g ∙ get_any s.holds.items (bit_and k s.kept) r false (place_in_table table atoms p s k h l) ∙ sym (same ∙ ap (λ c. c && get_or s.holds.items (bit_and k s.kept) false) e)

  pub shows_none : differs ≡ false → false ≡ shows_at table atoms k p
  shows_none e = sym (same ∙ ap (λ c. c && get_or s.holds.items (bit_and k s.kept) false) e)

-- ---- bits are small

pub kept_small : (n : ℕ) (b : Tree) (ts : List Tree) → length ts ≤ n → kept_bits b ts < 2 ^ n
kept_small n b [] l = pow_pos n
kept_small zero b (t ∷ ts) l = absurd (omega arith)
kept_small (suc n) b (t ∷ ts) l = at (is_other b t) (kept_bits b ts) (2 ^ n) (2 ^ suc n) (pow-suc 2 n) (kept_small n b ts (omega arith))
  where
    at : (o : Bool) (k m w : ℕ) → w ≡ m * 2 → k < m → (if o then 2 * k else 1 + 2 * k) < w
    at true k m w e h = omega arith
    at false k m w e h = omega arith

pub bit_small : (n : ℕ) (ts : List Tree) (t : Tree) → length ts ≤ n → bit_of_atom ts t < 2 ^ n
bit_small n [] t l = pow_pos n
bit_small zero (a ∷ ts) t l = absurd (omega arith)
bit_small (suc n) (a ∷ ts) t l = at (same_tree a t) (bit_of_atom ts t) (2 ^ n) (2 ^ suc n) (pow-suc 2 n) (pow_pos n) (bit_small n ts t (omega arith))
  where
    at : (o : Bool) (k m w : ℕ) → w ≡ m * 2 → 0 < m → k < m → (if o then 1 else 2 * k) < w
    at true k m w e z h = omega arith
    at false k m w e z h = omega arith

length_at : (ns : List TermNode) (xs : List TermId) → length (trees_at ns xs) ≡ length xs
length_at ns xs = map_length (tree_at (trees ns)) xs

few_left : (ns : List TermNode) (xs : List TermId) (k : ℕ) → length xs ≤ 12 → length (trees_at ns (drop k xs)) ≤ 12
few_left ns xs k h = omega (arith, length_at ns (drop k xs), drop_length xs k)
  where
    drop_length : (xs : List TermId) (k : ℕ) → length (drop k xs) ≤ length xs
    drop_length [] zero = omega arith
    drop_length [] (suc k) = omega arith
    drop_length (x ∷ xs) zero = omega arith
    drop_length (x ∷ xs) (suc k) = omega (arith, drop_length xs k)

module _ (ns : List TermNode) (atoms : List TermId) (k : ℕ) (d : TermId) (h : 0 < k) (l : k ≤ length atoms) where
  cut : drop (k - 1) atoms ≡ get_or atoms (k - 1) d ∷ drop k atoms
  cut = let up : suc (k - 1) ≡ k = omega arith in drop-cons atoms (k - 1) d (omega arith) ∙ ap (λ n. get_or atoms (k - 1) d ∷ drop n atoms) up

  pub bit_turn : (t : Tree) (old new : ℕ) (is : Bool) → old ≡ bit_of_atom (trees_at ns (drop k atoms)) t → is ≡ same_tree (tree_at (trees ns) (get_or atoms (k - 1) d)) t
      → new ≡ (if is then 1 else 2 * old) → new ≡ bit_of_atom (trees_at ns (drop (k - 1) atoms)) t
  bit_turn t old new is o s m = m ∙ (λ i. if s i then 1 else 2 * o i) ∙ ap (λ xs. bit_of_atom (trees_at ns xs) t) (sym cut)

  pub kept_turn : (b : Tree) (old new : ℕ) (is : Bool) → old ≡ kept_bits b (trees_at ns (drop k atoms)) → is ≡ is_other b (tree_at (trees ns) (get_or atoms (k - 1) d))
      → new ≡ (if is then 2 * old else 1 + 2 * old) → new ≡ kept_bits b (trees_at ns (drop (k - 1) atoms))
  kept_turn b old new is o s m = m ∙ (λ i. if s i then 2 * o i else 1 + 2 * o i) ∙ ap (λ xs. kept_bits b (trees_at ns xs)) (sym cut)

module _ (ns : List TermNode) (atoms : List TermId) (k : ℕ) (l : length atoms ≤ k) where
  pub bit_start : (t : Tree) (n : ℕ) → n ≡ 0 → n ≡ bit_of_atom (trees_at ns (drop k atoms)) t
  bit_start t n e = e ∙ ap (λ xs. bit_of_atom (trees_at ns xs) t) (sym (drop_of_length-le atoms l))

  pub kept_start : (b : Tree) (n : ℕ) → n ≡ 0 → n ≡ kept_bits b (trees_at ns (drop k atoms))
  kept_start b n e = e ∙ ap (λ xs. kept_bits b (trees_at ns xs)) (sym (drop_of_length-le atoms l))

pub bit_fits : (ns : List TermNode) (atoms : List TermId) (k : ℕ) (t : Tree) (n : ℕ) → length atoms ≤ 12 → n ≡ bit_of_atom (trees_at ns (drop k atoms)) t → n < 2 ^ 12
bit_fits ns atoms k t n l e = let b = bit_small 12 (trees_at ns (drop k atoms)) t (few_left ns atoms k l) in omega (arith, e, b)

pub kept_fits : (ns : List TermNode) (atoms : List TermId) (k : ℕ) (b : Tree) (n : ℕ) → length atoms ≤ 12 → n ≡ kept_bits b (trees_at ns (drop k atoms)) → n < 2 ^ 12
kept_fits ns atoms k b n l e = let s = kept_small 12 b (trees_at ns (drop k atoms)) (few_left ns atoms k l) in omega (arith, e, s)

-- ---- where the table holds, so far

-- the flags after the first i entries of the table
pub record HoldsSoFar (table : List Bool) (kept : ℕ) (flags : List Bool) (i : ℕ) : Type 0 where
  pub length_is : length flags ≡ length table
  pub each : (c : ℕ) → c < length table → (get_or flags c false && holds_where kept c i (drop i table)) ≡ holds_where kept c 0 table

get_replicate : (n c : ℕ) → c < n → get_or (replicate n true) c false ≡ true
get_replicate zero c l = absurd (omega arith)
get_replicate (suc n) zero l = refl
get_replicate (suc n) (suc c) l = get_replicate n c (omega arith)

pub holds_start : (table : List Bool) (kept : ℕ) (flags : List Bool) → flags ≡ replicate (length table) true → HoldsSoFar table kept flags 0
holds_start table kept flags e = record {
  length_is = ap length e ∙ length-replicate (length table) true;
  each = λ c l. ap (λ b. b && holds_where kept c 0 table) (ap (λ xs. get_or xs c false) e ∙ get_replicate (length table) c l);
}

get_same : (xs : List Bool) (i c : ℕ) (b : Bool) → c ≡ i → i < length xs → get_or (slice_set xs i b) c false ≡ b
get_same [] i c b e l = absurd (omega arith)
get_same (x ∷ xs) zero zero b e l = refl
get_same (x ∷ xs) zero (suc c) b e l = absurd (omega arith)
get_same (x ∷ xs) (suc i) zero b e l = absurd (omega arith)
get_same (x ∷ xs) (suc i) (suc c) b e l = get_same xs i c b (omega arith) (omega arith)

get_other : (xs : List Bool) (i c : ℕ) (b : Bool) → (c ≡ i → ⊥) → get_or (slice_set xs i b) c false ≡ get_or xs c false
get_other [] i c b f = refl
get_other (x ∷ xs) zero zero b f = absurd (f refl)
get_other (x ∷ xs) zero (suc c) b f = refl
get_other (x ∷ xs) (suc i) zero b f = refl
get_other (x ∷ xs) (suc i) (suc c) b f = get_other xs i c b (λ e. f (ap suc e))

get_set : (xs : List Bool) (i c : ℕ) (b : Bool) → i < length xs → get_or (slice_set xs i b) c false ≡ (if nat_eq c i then b else get_or xs c false)
get_set xs i c b l = at (nat_eq c i) refl
  where
    at : (s : Bool) → nat_eq c i ≡ s → get_or (slice_set xs i b) c false ≡ (if s then b else get_or xs c false)
    at true e = get_same xs i c b (nat_eq-is c i e) l
    at false e = get_other xs i c b (λ q. not_both (nat_eq c i) (eq-eqb c i q) e)

holds_cut : (table : List Bool) (kept c i : ℕ) → i < length table
    → holds_where kept c i (drop i table) ≡ ((get_or table i false || not (nat_eq c (bit_and i kept))) && holds_where kept c (i + 1) (drop (i + 1) table))
holds_cut table kept c i l =
    let s : suc i ≡ i + 1 = omega arith in
    ap (holds_where kept c i) (drop-cons table i false l) ∙ ap (λ n. (get_or table i false || not (nat_eq c (bit_and i kept))) && holds_where kept c (i + 1) (drop n table)) s

pub holds_kept : (table : List Bool) (kept : ℕ) (flags : List Bool) (i : ℕ) → i < length table → get_or table i false ≡ true → HoldsSoFar table kept flags i → HoldsSoFar table kept flags (i + 1)
holds_kept table kept flags i l t h = record {
  length_is = h.length_is;
  each = λ c m. ap (λ r. get_or flags c false && r) (sym (holds_cut table kept c i l ∙ ap (λ b. (b || not (nat_eq c (bit_and i kept))) && holds_where kept c (i + 1) (drop (i + 1) table)) t))
      ∙ h.each c m;
}

pub holds_not : (table : List Bool) (kept : ℕ) (flags more : List Bool) (i : ℕ) → i < length table → get_or table i false ≡ false → more ≡ slice_set flags (bit_and i kept) false
    → HoldsSoFar table kept flags i → HoldsSoFar table kept more (i + 1)
holds_not table kept flags more i l t m h = record {
  length_is = ap length m ∙ set_length flags (bit_and i kept) false ∙ h.length_is;
  each = λ c n.
      let r = holds_where kept c (i + 1) (drop (i + 1) table) in
      let e : holds_where kept c i (drop i table) ≡ (not (nat_eq c (bit_and i kept)) && r) = holds_cut table kept c i l ∙ ap (λ b. (b || not (nat_eq c (bit_and i kept))) && r) t in
      let g : get_or more c false ≡ (if nat_eq c (bit_and i kept) then false else get_or flags c false) = ap (λ xs. get_or xs c false) m
      ∙ get_set flags (bit_and i kept) c false (omega (arith, and_le_l i kept, h.length_is)) in
      ap (λ b. b && r) g ∙ at (nat_eq c (bit_and i kept)) (get_or flags c false) r ∙ ap (λ b. get_or flags c false && b) (sym e) ∙ h.each c n;
}
  where
    at : (b f r : Bool) → ((if b then false else f) && r) ≡ (f && (not b && r))
    at true true r = refl
    at true false r = refl
    at false f r = refl

pub holds_end : (table : List Bool) (kept : ℕ) (flags : List Bool) (i : ℕ) → length table ≤ i → HoldsSoFar table kept flags i → HoldsBy table kept flags
holds_end table kept flags i l h = record {
  length_is = h.length_is;
  each = λ c n. and_true (get_or flags c false) ∙ ap (λ xs. get_or flags c false && holds_where kept c i xs) (sym (drop_of_length-le table l)) ∙ h.each c n;
}
  where
    and_true : (b : Bool) → b ≡ (b && true)
    and_true true = refl
    and_true false = refl

-- ---- what is marked, so far

-- the valuations below i that the part shows were marked
pub record MarkedTo (table : List Bool) (atoms : List Tree) (p : Part) (old new : List Bool) (i : ℕ) : Type 0 where
  pub length_is : length new ≡ length old
  pub done : (k : ℕ) → k < i → k < length table → get_or new k false ≡ (get_or old k false || shows_at table atoms k p)
  pub open_ : (k : ℕ) → i ≤ k → get_or new k false ≡ get_or old k false

pub marked_start : (table : List Bool) (atoms : List Tree) (p : Part) (old : List Bool) → MarkedTo table atoms p old old 0
marked_start table atoms p old = record { length_is = refl; done = λ k l m. absurd (omega arith); open_ = λ k l. refl }

pub marked_skip : (table : List Bool) (atoms : List Tree) (p : Part) (old cur : List Bool) (i : ℕ) → shows_at table atoms i p ≡ false → MarkedTo table atoms p old cur i
    → MarkedTo table atoms p old cur (i + 1)
marked_skip table atoms p old cur i s h = record {
  length_is = h.length_is;
  done = λ k l m. elim (here_or_before k i l) [
    | inl e ↦ h.open_ k (omega (arith, e)) ∙ sym (or-false (get_or old k false)) ∙ ap (λ b. get_or old k false || b) (sym (ap (λ n. shows_at table atoms n p) e ∙ s))
    | inr q ↦ h.done k q m
  ];
  open_ = λ k l. h.open_ k (omega arith);
}

pub marked_next : (table : List Bool) (atoms : List Tree) (p : Part) (old cur new : List Bool) (i : ℕ) → i < length cur → shows_at table atoms i p ≡ true → new ≡ slice_set cur i true
    → MarkedTo table atoms p old cur i → MarkedTo table atoms p old new (i + 1)
marked_next table atoms p old cur new i l s m h = record {
  length_is = ap length m ∙ set_length cur i true ∙ h.length_is;
  done = λ k n o. elim (here_or_before k i n) [
    | inl e ↦ read k ∙ ap (λ (b : Bool). if b then true else get_or cur k false) (eq-eqb k i e) ∙ sym (or-true (get_or old k false))
        ∙ ap (λ b. get_or old k false || b) (sym (ap (λ n. shows_at table atoms n p) e ∙ s))
    | inr q ↦ read k ∙ ap (λ (b : Bool). if b then true else get_or cur k false) (ne_eqb k i (λ e. absurd (omega (arith, e, q)))) ∙ h.done k q o
  ];
  open_ = λ k n. read k ∙ ap (λ (b : Bool). if b then true else get_or cur k false) (ne_eqb k i (λ e. absurd (omega (arith, e, n)))) ∙ h.open_ k (omega arith);
}
  where
    read : (k : ℕ) → get_or new k false ≡ (if nat_eq k i then true else get_or cur k false)
    read k = ap (λ xs. get_or xs k false) m ∙ get_set cur i k true l

pub marked_end : (table : List Bool) (atoms : List Tree) (p : Part) (old new : List Bool) (i : ℕ) → length table ≤ i → MarkedTo table atoms p old new i → AddsShown table atoms p old new
marked_end table atoms p old new i l h = record { length_is = h.length_is; each = λ k m. h.done k (omega arith) m }

-- ---- all parts

-- what is marked, and what the parts that are left show, is what the parts show
pub record Marking (table : List Bool) (atoms : List Tree) (parts left : List Part) (shown : List Bool) : Type 0 where
  pub length_is : length shown ≡ length table
  pub each : (k : ℕ) → k < length table → (get_or shown k false || list_any (shows_at table atoms k) left) ≡ list_any (shows_at table atoms k) parts

pub marking_start : (table : List Bool) (atoms : List Tree) (parts : List Part) (shown : List Bool) → shown ≡ replicate (length table) false → Marking table atoms parts parts shown
marking_start table atoms parts shown e = record {
  length_is = ap length e ∙ length-replicate (length table) false;
  each = λ k l. ap (λ b. b || list_any (shows_at table atoms k) parts) (ap (λ xs. get_or xs k false) e ∙ no_flag (length table) k);
}

take_whole : (xs : List Part) → take (length xs) xs ≡ xs
take_whole [] = refl
take_whole (x ∷ xs) = ap (λ r. x ∷ r) (take_whole xs)

pub marking_next : (table : List Bool) (atoms : List Tree) (parts left : List Part) (shown more : List Bool) (d : Part) → Marking table atoms parts left shown → 1 ≤ length left
    → AddsShown table atoms (get_or left 0 d) shown more → Marking table atoms parts (take (length left - 1) (drop 1 left)) more
marking_next table atoms parts [] shown more d h l a = absurd (omega arith)
marking_next table atoms parts (p ∷ left) shown more d h l a =
    let n : length (p ∷ left) - 1 ≡ length left = omega arith in
    subst (λ (ps : List Part). Marking table atoms parts ps more) (sym (ap (λ m. take m left) n ∙ take_whole left)) (record {
      length_is = a.length_is ∙ h.length_is;
      each = λ k m. ap (λ b. b || list_any (shows_at table atoms k) left) (a.each k m) ∙ or_assoc (get_or shown k false) (shows_at table atoms k p) (list_any (shows_at table atoms k) left)
          ∙ h.each k m;
    })

pub marking_end : (table : List Bool) (atoms : List Tree) (parts left : List Part) (shown : List Bool) → length left ≡ 0 → Marking table atoms parts left shown → AreMarks table atoms parts shown
marking_end table atoms parts [] shown e h = record { length_is = h.length_is; each = λ k l. sym (or-false (get_or shown k false)) ∙ h.each k l }
marking_end table atoms parts (p ∷ left) shown e h = absurd (omega arith)
