-- Types: what is found is spelled so, and what is spelled so is found.
use Rattle.std.proofs.Common.{◌≡◌, ℕ, ◌<◌, ◌≤◌, zero, suc, Bool, true, false, List, [], ◌∷◌, length, Option, Some, None, nat_eq, nat_le, refl, ap, sym, ◌∙◌, subst, arith}
use Rattle.std.specs.Prelude.{if◌then◌else◌, ◌&&◌, ◌||◌, not, codes}
use Rattle.std.proofs.lemmas.Grind.{common_steps}
use Rattle.std.proofs.lemmas.Option.{cond_some}
use Rattle.std.proofs.lemmas.Bool.{and_parts}
use Rattle.lh_types.specs.Types.{TypeTree, TypeRow, int_type, time_type, void_type, array_type, tuple_type, signal_type, pointer_type, no_types, more_types, row_of, depth_of, depth_of_row, IsData, AreData, IsLimited}
use Rattle.lh_types.specs.Faults.{is_data, is_time, array_fault, tuple_fault, signal_fault, pointer_fault}
use Rattle.lh_types.specs.declared.ty.TyFault.{TyFault}
use Rattle.lh_types.specs.declared.ty.TyFault.TheVariants.{WrongPart}
use Rattle.lh_types.proofs.Limits.{depth_of-le}
use Rattle.lh_unit.specs.Lexemes.{Lexeme, word, global, local, arrow, minus, punct}
use Rattle.lh_unit.specs.Numerals.{number_of}
use Rattle.lh_unit.specs.SpellsTypes.{SpellsTree, SpellsRow, SpellsType}
use Rattle.lh_unit.specs.SpellsParts.{SpellsParts}
use Rattle.lh_unit.specs.Typing.{if_made}
use Rattle.lh_unit.proofs.Lists.{if_made-is}
use Rattle.lh_read_pieces.specs.Pieces.{◌>>=◌, word_at, punct_at, small, small_number, parts_at}
use Rattle.lh_read_pieces.specs.Numbers.{number_at}
use Rattle.lh_read_pieces.specs.Types.{followed, width_of, int_width, int_before, array_in, tuple_in, marked_in, data_in, data_at, base_or, base_at, suffix_or, suffix_at, type_at, no_suffix}
use Rattle.lh_read_pieces.specs.Shorter.{bind_some}
use Rattle.lh_read_pieces.proofs.Pieces.{word_at-inv, punct_at-inv, small-inv, small-below}
pub use Rattle.lh_types.proofs.TypeFaults.{four_none, is_data-yes, all_data-yes, array-sound, array-again, tuple-sound, tuple-again, data_limited, limited_data, fault_none, pointed_limited, pointed_data}
use Rattle.lh_read_pieces.proofs.SpelledNumbers.{number_at-sound, number_at-again}
use Rattle.lh_read_pieces.proofs.SpelledLists.{parts_at-sound, parts_at-again}

-- a data type within its limits
abbrev pub SpellsData : TypeTree → List Lexeme → List Lexeme → Type 0
SpellsData t ts more = SpellsTree t ts more × IsData t

followed-inv : (o : Option TypeTree) (ts : List Lexeme) (r : TypeTree × List Lexeme) → followed o ts ≡ Some r → (o ≡ Some r.0) × (ts ≡ r.1)
followed-inv None ts r p = cc
followed-inv (Some t) ts r p = (cc, cc)

made_inv : (o : Option TyFault) (t : TypeTree) (ts : List Lexeme) (r : TypeTree × List Lexeme) → followed (if_made o t) ts ≡ Some r → (o ≡ None) × ((t, ts) ≡ r)
made_inv o t ts r p = let f = followed-inv (if_made o t) ts r p in let g = if_made-is o t r.0 f.0 in (g.0, λ i. (g.1 i, f.1 i))

made_again : (o : Option TyFault) (t : TypeTree) (ts : List Lexeme) → o ≡ None → followed (if_made o t) ts ≡ Some (t, ts)
made_again o t ts e = ap (λ x. followed (if_made x t) ts) e

-- integers
width-sound : (o : Option ℕ) (n : ℕ) → width_of o ≡ Some n → (o ≡ Some n) × (1 ≤ n) × (n ≤ 128)
width-sound None n p = cc
width-sound (Some m) n p =
    let g = cond_some (nat_le 1 m && nat_le m 128) m n p in let b = and_parts (nat_le 1 m) (nat_le m 128) g.0 in let l : nat_le 1 m ≡ true = b.0 in let u : nat_le m 128 ≡ true = b.1 in
    let lo : 1 ≤ m = grind (arith, common_steps) in let hi : m ≤ 128 = grind (arith, common_steps) in
    (ap Some g.1, subst (λ x. 1 ≤ x) g.1 lo, subst (λ x. x ≤ 128) g.1 hi)

width-again : (n : ℕ) → 1 ≤ n → n ≤ 128 → width_of (Some n) ≡ Some n
width-again n l u = let e : nat_le 1 n ≡ true = grind (arith, common_steps) in let f : nat_le n 128 ≡ true = grind (arith, common_steps) in rw (e, f) refl

int_width-sound : (w : List ℕ) (n : ℕ) → int_width w ≡ Some n → (v : List ℕ) × (w ≡ 105 ∷ v) × (number_of v ≡ Some n) × (1 ≤ n) × (n ≤ 128)
int_width-sound [] n p = cc
int_width-sound (b ∷ v) n p = by (nat_eq b 105) refl p
  where
    by : (c : Bool) → nat_eq b 105 ≡ c → (if c then width_of (small_number v) else None) ≡ Some n → (v' : List ℕ) × ((b ∷ v) ≡ 105 ∷ v') × (number_of v' ≡ Some n) × (1 ≤ n) × (n ≤ 128)
    by true e q = let f : b ≡ 105 = grind (arith, common_steps) in let s = width-sound (small_number v) n q in (v, ap (λ x. x ∷ v) f, small-inv (number_of v) n s.0, s.1, s.2)
    by false e q = cc

int_width-again : (w : List ℕ) (n : ℕ) → number_of w ≡ Some n → 1 ≤ n → n ≤ 128 → int_width (105 ∷ w) ≡ Some n
int_width-again w n e l u = ap (λ o. width_of (small o)) e ∙ ap width_of (small-below n (omega (arith, u))) ∙ width-again n l u

int_before-inv : (o : Option ℕ) (ts : List Lexeme) (r : TypeTree × List Lexeme) → int_before o ts ≡ Some r → (n : ℕ) × (o ≡ Some n) × ((int_type n, ts) ≡ r)
int_before-inv None ts r p = cc
int_before-inv (Some n) ts r p = (n, refl, cc)

int-sound : (w : List ℕ) (ts : List Lexeme) (r : TypeTree × List Lexeme) → int_before (int_width w) ts ≡ Some r → SpellsData r.0 (word w ∷ ts) r.1
int-sound w ts r p =
    let a = int_before-inv (int_width w) ts r p in
    let s = int_width-sound w a.0 a.1 in
    let t : SpellsData (int_type a.0) (word w ∷ ts) ts = ((s.0, ap (λ v. word v ∷ ts) s.1, s.2), (s.3, s.4)) in
    subst (λ x. SpellsData x.0 (word w ∷ ts) x.1) a.2 t

-- rows
row-sound : (xs : List TypeTree) (ts us : List Lexeme) → SpellsParts SpellsData xs ts us → SpellsRow (row_of xs) ts us × AreData (row_of xs)
row-sound [] ts us s = absurd s
row-sound (t ∷ []) ts us s = (s.0, (s.1, tt))
row-sound (t ∷ u ∷ xs) ts us s = let r = row-sound (u ∷ xs) s.0 us s.2 in ((s.0, s.1.0, r.0), (s.1.1, r.1))

-- data types, where p finds their parts
module _ (p : List Lexeme → Option (TypeTree × List Lexeme)) (sound : (ts : List Lexeme) (r : TypeTree × List Lexeme) → p ts ≡ Some r → SpellsData r.0 ts r.1) where
  array_in-sound : (ts : List Lexeme) (r : TypeTree × List Lexeme) → array_in p ts ≡ Some r → SpellsData r.0 (punct 91 ∷ ts) r.1
  unfolding array_in
  array_in-sound ts r e =
      let a = bind_some (number_at ts) _ r e in
      let b = bind_some (word_at (codes "x") a.0.1) _ r a.2 in
      let c = bind_some (p b.0) _ r b.2 in
      let d = bind_some (punct_at 93 c.0.1) _ r c.2 in
      let f = made_inv (array_fault a.0.0 c.0.0) (array_type a.0.0 c.0.0) d.0 r d.2 in
      let n = number_at-sound ts a.0 a.1 in
      let t = sound b.0 c.0 c.1 in
      let x : SpellsTree c.0.0 b.0 (punct 93 ∷ d.0) = subst (SpellsTree c.0.0 b.0) (punct_at-inv 93 c.0.1 d.0 d.1) t.0 in
      let q : (punct 91 ∷ ts) ≡ (punct 91 ∷ word n.0 ∷ word (codes "x") ∷ b.0) = ap (λ l. punct 91 ∷ l) (n.1 ∙ ap (λ l. word n.0 ∷ l) (word_at-inv (codes "x") a.0.1 b.0 b.1)) in
      let s : SpellsData (array_type a.0.0 c.0.0) (punct 91 ∷ ts) d.0 = ((n.0, b.0, q, n.2, x), array-sound a.0.0 c.0.0 t.1 n.3 f.0) in
      subst (λ y. SpellsData y.0 (punct 91 ∷ ts) y.1) f.1 s

  tuple_in-sound : (ts : List Lexeme) (r : TypeTree × List Lexeme) → tuple_in p ts ≡ Some r → SpellsData r.0 (punct 123 ∷ ts) r.1
  unfolding tuple_in
  tuple_in-sound ts r e =
      let a = bind_some (parts_at p (length ts) ts) _ r e in
      let b = bind_some (punct_at 125 a.0.1) _ r a.2 in
      let f = made_inv (tuple_fault (row_of a.0.0)) (tuple_type (row_of a.0.0)) b.0 r b.2 in
      let w = row-sound a.0.0 ts a.0.1 (parts_at-sound p SpellsData sound (length ts) ts a.0 a.1) in
      let x : SpellsRow (row_of a.0.0) ts (punct 125 ∷ b.0) = subst (SpellsRow (row_of a.0.0) ts) (punct_at-inv 125 a.0.1 b.0 b.1) w.0 in
      let s : SpellsData (tuple_type (row_of a.0.0)) (punct 123 ∷ ts) b.0 = ((ts, refl, x), tuple-sound (row_of a.0.0) w.1 f.0) in
      subst (λ y. SpellsData y.0 (punct 123 ∷ ts) y.1) f.1 s

  marked_in-sound : (b : ℕ) (ts : List Lexeme) (r : TypeTree × List Lexeme) → marked_in p b ts ≡ Some r → SpellsData r.0 (punct b ∷ ts) r.1
  marked_in-sound b ts r e = by (nat_eq b 91) (nat_eq b 123) refl refl e
    where
      by : (c d : Bool) → nat_eq b 91 ≡ c → nat_eq b 123 ≡ d → (if c then array_in p ts else if d then tuple_in p ts else None) ≡ Some r → SpellsData r.0 (punct b ∷ ts) r.1
      by true d g h q = let f : b ≡ 91 = grind (arith, common_steps) in subst (λ x. SpellsData r.0 (punct x ∷ ts) r.1) (sym f) (array_in-sound ts r q)
      by false true g h q = let f : b ≡ 123 = grind (arith, common_steps) in subst (λ x. SpellsData r.0 (punct x ∷ ts) r.1) (sym f) (tuple_in-sound ts r q)
      by false false g h q = cc

  data_in-sound : (ts : List Lexeme) (r : TypeTree × List Lexeme) → data_in p ts ≡ Some r → SpellsData r.0 ts r.1
  data_in-sound (word w ∷ ts) r e = int-sound w ts r e
  data_in-sound (punct b ∷ ts) r e = marked_in-sound b ts r e
  data_in-sound _ r e = cc

pub data_at-sound : (k : ℕ) (ts : List Lexeme) (r : TypeTree × List Lexeme) → data_at k ts ≡ Some r → SpellsData r.0 ts r.1
unfolding data_at
data_at-sound zero ts r e = cc
data_at-sound (suc k) ts r e = data_in-sound (data_at k) (data_at-sound k) ts r e

-- a spelling takes some tokens
mutual
  pub tree-shorter : (t : TypeTree) (ts us : List Lexeme) → SpellsTree t ts us → length us < length ts
  tree-shorter (int_type n) ts us s = omega (arith, ap length s.1)
  tree-shorter time_type ts us s = omega (arith, ap length s)
  tree-shorter void_type ts us s = omega (arith, ap length s)
  tree-shorter (array_type n t) ts us s = omega (arith, ap length s.2, tree-shorter t s.1 (punct 93 ∷ us) s.4)
  tree-shorter (tuple_type r) ts us s = omega (arith, ap length s.1, row-shorter r s.0 (punct 125 ∷ us) s.2)
  tree-shorter (signal_type t) ts us s = omega (arith, tree-shorter t ts (punct 36 ∷ us) s)
  tree-shorter (pointer_type t) ts us s = omega (arith, tree-shorter t ts (punct 42 ∷ us) s)

  row-shorter : (r : TypeRow) (ts us : List Lexeme) → SpellsRow r ts us → length us < length ts
  row-shorter no_types ts us s = absurd s
  row-shorter (more_types t no_types) ts us s = tree-shorter t ts us s
  row-shorter (more_types t (more_types u r)) ts us s = omega (arith, tree-shorter t ts (punct 44 ∷ s.0) s.1, row-shorter (more_types u r) s.0 us s.2)

-- the types of a row
abbrev types_of : TypeRow → List TypeTree
types_of no_types = []
types_of (more_types t r) = t ∷ types_of r

row_of-types_of : (r : TypeRow) → row_of (types_of r) ≡ r
row_of-types_of no_types = refl
row_of-types_of (more_types t r) = ap (more_types t) (row_of-types_of r)

-- a data type within its limits that nests at most k deep
abbrev SpellsDeep : ℕ → TypeTree → List Lexeme → List Lexeme → Type 0
SpellsDeep k t ts more = (depth_of t ≤ k) × SpellsData t ts more

row-again : (k : ℕ) (r : TypeRow) (ts us : List Lexeme) → depth_of_row r ≤ k → AreData r → SpellsRow r ts us → SpellsParts (SpellsDeep k) (types_of r) ts us
row-again k no_types ts us h d s = absurd s
row-again k (more_types t no_types) ts us h d s = (omega (arith, h), (s, d.0))
row-again k (more_types t (more_types u r)) ts us h d s = (s.0, (omega (arith, h), (s.1, d.0)), row-again k (more_types u r) s.0 us (omega (arith, h)) d.1 s.2)

one_le-depth : (t : TypeTree) → 1 ≤ depth_of t
one_le-depth (int_type n) = omega arith
one_le-depth time_type = omega arith
one_le-depth void_type = omega arith
one_le-depth (array_type n t) = omega arith
one_le-depth (tuple_type r) = omega arith
one_le-depth (signal_type t) = one_le-depth t
one_le-depth (pointer_type t) = one_le-depth t

module _ (k : ℕ) (p : List Lexeme → Option (TypeTree × List Lexeme)) (again : (t : TypeTree) (ts us : List Lexeme) → SpellsDeep k t ts us → p ts ≡ Some (t, us)) where
  array_in-again : (n : ℕ) (t : TypeTree) (w : List ℕ) (ts us : List Lexeme) → depth_of t ≤ k → IsData (array_type n t) → number_of w ≡ Some n → SpellsTree t ts (punct 93 ∷ us)
      → array_in p (word w ∷ word (codes "x") ∷ ts) ≡ Some (array_type n t, us)
  unfolding array_in
  array_in-again n t w ts us h d e s =
      ap (λ o. o >>= λ m. (word_at (codes "x") m.1 >>= λ vs. (p vs >>= λ x. (punct_at 93 x.1 >>= λ y. followed (if_made (array_fault m.0 x.0) (array_type m.0 x.0)) y))))
      (number_at-again n (word w ∷ word (codes "x") ∷ ts) (word (codes "x") ∷ ts) (w, refl, e, d.2))
      ∙ ap (λ o. o >>= λ x. (punct_at 93 x.1 >>= λ y. followed (if_made (array_fault n x.0) (array_type n x.0)) y)) (again t ts (punct 93 ∷ us) (h, (s, d.0)))
      ∙ made_again (array_fault n t) (array_type n t) us (array-again n t d)

  deep-shorter : (t : TypeTree) (ts us : List Lexeme) → SpellsDeep k t ts us → length us < length ts
  deep-shorter t ts us s = tree-shorter t ts us s.1.0

  tuple_in-again : (r : TypeRow) (ts us : List Lexeme) → depth_of_row r ≤ k → IsData (tuple_type r) → SpellsRow r ts (punct 125 ∷ us) → tuple_in p ts ≡ Some (tuple_type r, us)
  unfolding tuple_in
  tuple_in-again r ts us h d s =
      ap (λ o. o >>= λ x. (punct_at 125 x.1 >>= λ y. followed (if_made (tuple_fault (row_of x.0)) (tuple_type (row_of x.0))) y))
      (parts_at-again p (SpellsDeep k) again deep-shorter (length ts) (types_of r) ts (punct 125 ∷ us) (row-again k r ts (punct 125 ∷ us) h d.0 s) (omega arith) refl)
      ∙ ap (λ q. followed (if_made (tuple_fault q) (tuple_type q)) us) (row_of-types_of r)
      ∙ made_again (tuple_fault r) (tuple_type r) us (tuple-again r d)

  data_in-again : (t : TypeTree) (ts us : List Lexeme) → SpellsDeep (suc k) t ts us → data_in p ts ≡ Some (t, us)
  data_in-again (int_type n) ts us s = ap (data_in p) s.1.0.1 ∙ ap (λ o. int_before o us) (int_width-again s.1.0.0 n s.1.0.2 s.1.1.0 s.1.1.1)
  data_in-again (array_type n t) ts us s = ap (data_in p) s.1.0.2 ∙ array_in-again n t s.1.0.0 s.1.0.1 us (omega (arith, s.0)) s.1.1 s.1.0.3 s.1.0.4
  data_in-again (tuple_type r) ts us s = ap (data_in p) s.1.0.1 ∙ tuple_in-again r s.1.0.0 us (omega (arith, s.0)) s.1.1 s.1.0.2
  data_in-again _ ts us s = absurd s.1.1

data_deep-again : (k : ℕ) (t : TypeTree) (ts us : List Lexeme) → SpellsDeep k t ts us → data_at k ts ≡ Some (t, us)
unfolding data_at
data_deep-again zero t ts us s = absurd (omega (arith, one_le-depth t, s.0))
data_deep-again (suc k) t ts us s = data_in-again k (data_at k) (data_deep-again k) t ts us s

pub data_at-again : (k : ℕ) (t : TypeTree) (ts us : List Lexeme) → depth_of t ≤ k → SpellsData t ts us → data_at k ts ≡ Some (t, us)
data_at-again k t ts us h s = data_deep-again k t ts us (h, s)

-- a type before `$` or `*`
base_at-sound : (ts : List Lexeme) (r : TypeTree × List Lexeme) → base_at ts ≡ Some r → SpellsType r.0 ts r.1
unfolding base_at
base_at-sound ts r e = by (word_at (codes "time") ts) (word_at (codes "void") ts) refl refl e
  where
    by : (o v : Option (List Lexeme)) → word_at (codes "time") ts ≡ o → word_at (codes "void") ts ≡ v → base_or ts o v ≡ Some r → SpellsType r.0 ts r.1
    by (Some us) v f g q =
        let w : (time_type, us) ≡ r = cc in let s : SpellsType time_type ts us = (word_at-inv (codes "time") ts us f, tt) in
        subst (λ x. SpellsType x.0 ts x.1) w s
    by None (Some us) f g q =
        let w : (void_type, us) ≡ r = cc in let s : SpellsType void_type ts us = (word_at-inv (codes "void") ts us g, tt) in
        subst (λ x. SpellsType x.0 ts x.1) w s
    by None None f g q = let s = data_at-sound 16 ts r q in (s.0, data_limited r.0 s.1)

suffix_at-sound : (ts us : List Lexeme) (t : TypeTree) (r : TypeTree × List Lexeme) → SpellsType t ts us → suffix_at t us ≡ Some r → SpellsType r.0 ts r.1
unfolding suffix_at
suffix_at-sound ts us t r s e = by (punct_at 36 us) (punct_at 42 us) refl refl e
  where
    by : (o v : Option (List Lexeme)) → punct_at 36 us ≡ o → punct_at 42 us ≡ v → suffix_or t us o v ≡ Some r → SpellsType r.0 ts r.1
    by (Some vs) v f g q =
        let m = made_inv (signal_fault t) (signal_type t) vs r q in
        let x : SpellsTree t ts (punct 36 ∷ vs) = subst (SpellsTree t ts) (punct_at-inv 36 us vs f) s.0 in
        let y : SpellsType (signal_type t) ts vs = (x, limited_data t (fault_none (is_data t) WrongPart m.0) s.1) in
        subst (λ z. SpellsType z.0 ts z.1) m.1 y
    by None (Some vs) f g q =
        let m = made_inv (pointer_fault t) (pointer_type t) vs r q in
        let x : SpellsTree t ts (punct 42 ∷ vs) = subst (SpellsTree t ts) (punct_at-inv 42 us vs g) s.0 in
        let y : SpellsType (pointer_type t) ts vs = (x, pointed_limited t (fault_none (is_data t || is_time t) WrongPart m.0) s.1) in
        subst (λ z. SpellsType z.0 ts z.1) m.1 y
    by None None f g q = let w : (t, us) ≡ r = cc in subst (λ z. SpellsType z.0 ts z.1) w s

-- what is found in front is a type that is spelled so
pub type_at-sound : (ts : List Lexeme) (r : TypeTree × List Lexeme) → type_at ts ≡ Some r → SpellsType r.0 ts r.1
unfolding type_at
type_at-sound ts r e = let a = bind_some (base_at ts) _ r e in suffix_at-sound ts a.0.1 a.0.0 r (base_at-sound ts a.0 a.1) a.2

data_base : (t : TypeTree) (ts us : List Lexeme) → SpellsData t ts us → base_at ts ≡ Some (t, us)
unfolding base_at
data_base (int_type n) ts us s = ap (λ l. base_or ts (word_at (codes "time") l) (word_at (codes "void") l)) s.0.1 ∙ data_at-again 16 (int_type n) ts us (depth_of-le (int_type n) s.1) s
data_base (array_type n t) ts us s = ap (λ l. base_or ts (word_at (codes "time") l) (word_at (codes "void") l)) s.0.2 ∙ data_at-again 16 (array_type n t) ts us (depth_of-le (array_type n t) s.1) s
data_base (tuple_type r) ts us s = ap (λ l. base_or ts (word_at (codes "time") l) (word_at (codes "void") l)) s.0.1 ∙ data_at-again 16 (tuple_type r) ts us (depth_of-le (tuple_type r) s.1) s
data_base _ ts us s = absurd s.1

time_base : (ts us : List Lexeme) → SpellsTree time_type ts us → base_at ts ≡ Some (time_type, us)
unfolding base_at
time_base ts us s = ap base_at s

void_base : (ts us : List Lexeme) → SpellsTree void_type ts us → base_at ts ≡ Some (void_type, us)
unfolding base_at
void_base ts us s = ap base_at s

no_suffix-punct : (b : ℕ) → not (nat_eq b 36 || nat_eq b 42) ≡ true → (nat_eq b 36 ≡ false) × (nat_eq b 42 ≡ false)
no_suffix-punct b e = by (nat_eq b 36) (nat_eq b 42) e
  where
    by : (c d : Bool) → not (c || d) ≡ true → (c ≡ false) × (d ≡ false)
    by true d q = cc
    by false true q = cc
    by false false q = (refl, refl)

no_suffix-at : (t : TypeTree) (us : List Lexeme) → no_suffix us ≡ true → suffix_at t us ≡ Some (t, us)
unfolding suffix_at
no_suffix-at t [] e = refl
no_suffix-at t (word w ∷ us) e = refl
no_suffix-at t (global n ∷ us) e = refl
no_suffix-at t (local n ∷ us) e = refl
no_suffix-at t (arrow ∷ us) e = refl
no_suffix-at t (minus ∷ us) e = refl
no_suffix-at t (punct b ∷ us) e = let n = no_suffix-punct b e in rw (n.0, n.1) refl

plain_again : (t : TypeTree) (ts us : List Lexeme) → base_at ts ≡ Some (t, us) → no_suffix us ≡ true → type_at ts ≡ Some (t, us)
unfolding type_at
plain_again t ts us b e = ap (λ o. o >>= λ x. suffix_at x.0 x.1) b ∙ no_suffix-at t us e

signal_again : (t : TypeTree) (ts us : List Lexeme) → base_at ts ≡ Some (t, punct 36 ∷ us) → is_data t ≡ true → type_at ts ≡ Some (signal_type t, us)
unfolding type_at suffix_at
signal_again t ts us b e = ap (λ o. o >>= λ x. suffix_at x.0 x.1) b ∙ made_again (signal_fault t) (signal_type t) us (rw e refl)

pointer_again : (t : TypeTree) (ts us : List Lexeme) → base_at ts ≡ Some (t, punct 42 ∷ us) → is_data t || is_time t ≡ true → type_at ts ≡ Some (pointer_type t, us)
unfolding type_at suffix_at
pointer_again t ts us b e = ap (λ o. o >>= λ x. suffix_at x.0 x.1) b ∙ made_again (pointer_fault t) (pointer_type t) us (rw e refl)

pointed_base : (t : TypeTree) (ts us : List Lexeme) → IsLimited (pointer_type t) → SpellsTree t ts us → base_at ts ≡ Some (t, us)
pointed_base (int_type n) ts us h s = data_base (int_type n) ts us (s, h)
pointed_base (array_type n t) ts us h s = data_base (array_type n t) ts us (s, h)
pointed_base (tuple_type r) ts us h s = data_base (tuple_type r) ts us (s, h)
pointed_base time_type ts us h s = time_base ts us s
pointed_base _ ts us h s = absurd h

-- a type that is spelled so in front is found, where no `$` and no `*` follows it
pub type_at-again : (t : TypeTree) (ts us : List Lexeme) → SpellsType t ts us → no_suffix us ≡ true → type_at ts ≡ Some (t, us)
type_at-again (int_type n) ts us s e = plain_again (int_type n) ts us (data_base (int_type n) ts us s) e
type_at-again (array_type n t) ts us s e = plain_again (array_type n t) ts us (data_base (array_type n t) ts us s) e
type_at-again (tuple_type r) ts us s e = plain_again (tuple_type r) ts us (data_base (tuple_type r) ts us s) e
type_at-again time_type ts us s e = plain_again time_type ts us (time_base ts us s.0) e
type_at-again void_type ts us s e = plain_again void_type ts us (void_base ts us s.0) e
type_at-again (signal_type t) ts us s e = signal_again t ts us (data_base t ts (punct 36 ∷ us) s) (is_data-yes t s.1)
type_at-again (pointer_type t) ts us s e = pointer_again t ts us (pointed_base t ts (punct 42 ∷ us) s.1 s.0) (pointed_data t s.1)
