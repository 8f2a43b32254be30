-- The signals that have some bits, from those of parts and of writes.
use Rattle.std.proofs.Common.{arith, ◌≡◌, ℕ, zero, suc, ◌+◌, ◌-◌, ◌<◌, ◌≤◌, List, [], ◌∷◌, ◌++◌, append_assoc, length, get_or, take, Bool, refl, ap, sym, ◌∙◌, subst, ◌⊎◌, inl, inr}
use Rattle.std.specs.Prelude.{◌↔◌}
use Rattle.std.proofs.lemmas.Bool.{cases_lt}
use Rattle.std.proofs.lemmas.List.{take_more, take_all, append-nil}
use Rattle.lh_types.specs.declared.part.Range.{Range}
use Rattle.lh_bits.specs.declared.bit_run.BitRun.{BitRun}
use Rattle.lh_bits.specs.Writes.{numbered, bits_of, BitsWithin}
use Rattle.lh_bits.proofs.WrittenBits.{bits-push, row-within}
use Rattle.lh_unit.specs.World.{bits_from, bit_numbers}
use Rattle.lh_kernel_wakes.specs.Rising.{IsOneOf, HasOneMore}
use Rattle.lh_kernel_wakes.proofs.GatheredNumbers.{has_left, has_right, has_either}
use Rattle.lh_design.specs.declared.Signal.{Signal}
use Rattle.lh_design.specs.Filling.{FillFrom}
use Rattle.lh_kernel_changes.specs.Touched.{SignalHasBit, Touches, AreTouched, TouchesMore, AreWithin, bits_named}
use Rattle.lh_kernel_changes.proofs.Filled.{is_below, strict, in_order, some_bit}

-- other numbers that are the same
pub touched_again : (ss : List Signal) (bits xs ys : List ℕ) → AreTouched ss bits xs → ((k : ℕ) → IsOneOf k ys ↔ IsOneOf k xs) → AreTouched ss bits ys
touched_again ss bits xs ys f g k = (λ p. (f k).0 ((g k).0 p), λ q. (g k).1 ((f k).1 q))

-- bits in a row
pub in_row : (b lo n : ℕ) → IsOneOf b (bits_from lo n) → (lo ≤ b) × (b < lo + n)
in_row b lo zero h = absurd h
in_row b lo (suc n) (inl p) = (omega arith, omega arith)
in_row b lo (suc n) (inr h) = let r : (lo + 1 ≤ b) × (b < lo + 1 + n) = in_row b (lo + 1) n h in (omega (arith, r.0), omega (arith, r.1))

pub row_in : (b lo n : ℕ) → lo ≤ b → b < lo + n → IsOneOf b (bits_from lo n)
row_in b lo zero l h = absurd (omega arith)
row_in b lo (suc n) l h = elim (cases_lt lo b) [
  | inl m ↦ inr (row_in b (lo + 1) n (omega arith) (omega arith))
  | inr m ↦ inl (omega arith)
]

module _ (hi : ℕ) (ss : List Signal) (lo len end first last : ℕ) (f : FillFrom 0 ss hi) (some : end - 1 + 1 ≡ lo + len) (g : SignalHasBit ss first lo) (h : SignalHasBit ss last (end - 1)) (l : lo ≤ end - 1) where
  -- the signals of a row are those from that of its first bit to that of its last
  row_between : (k : ℕ) → Touches ss (bits_from lo len) k → (first ≤ k) × (k < last + 1)
  row_between k t =
      let r : (lo ≤ t.bit) × (t.bit < lo + len) = in_row t.bit lo len t.among in
      let p : first ≤ k = in_order hi ss first k lo t.bit f g t.has r.0 in
      let q : k ≤ last = in_order hi ss k last t.bit (end - 1) f t.has h (omega (arith, some, r.1)) in
      (p, omega arith)

  between_row : (k : ℕ) → first ≤ k → k < last + 1 → Touches ss (bits_from lo len) k
  between_row k p q = elim (cases_lt first k) [
    | inl m ↦ elim (cases_lt k last) [
      | inl n ↦
          let w = some_bit 0 hi ss k f (omega (arith, is_below ss last (end - 1) h)) in
          let a : lo < w.0 = strict 0 hi ss first k lo w.0 f m g w.1 in
          let b : w.0 < end - 1 = strict 0 hi ss k last w.0 (end - 1) f n w.1 h in
          record { bit = w.0; among = row_in w.0 lo len (omega arith) (omega (arith, some)); has = w.1 }
      | inr n ↦
          let e : last ≡ k = omega arith in
          record { bit = end - 1; among = row_in (end - 1) lo len l (omega (arith, some)); has = subst (λ (j : ℕ). SignalHasBit ss j (end - 1)) e h }
    ]
    | inr m ↦
        let e : first ≡ k = omega arith in
        record { bit = lo; among = row_in lo lo len (omega arith) (omega (arith, some)); has = subst (λ (j : ℕ). SignalHasBit ss j lo) e g }
  ]

-- the new list has the numbers from one up to another, and what the old one has
abbrev pub EnteredTo : (old : List ℕ) → (from to : ℕ) → (new : List ℕ) → Type 0
EnteredTo old from to new = (k : ℕ) → IsOneOf k new ↔ (((from ≤ k) × (k < to)) ⊎ IsOneOf k old)

pub entered_none : (old : List ℕ) (from : ℕ) → EnteredTo old from from old
entered_none old from k = (λ h. inr h, λ p. either p)
  where
    either : ((from ≤ k) × (k < from)) ⊎ IsOneOf k old → IsOneOf k old
    either (inl q) = absurd (omega (arith, q.0, q.1))
    either (inr h) = h

pub entered_more : (old now new : List ℕ) (from i : ℕ) → from ≤ i → EnteredTo old from i now → HasOneMore now i new → EnteredTo old from (i + 1) new
entered_more old now new from i l n m k = (λ h. there ((m k).0 h), λ p. back p)
  where
    before : ((from ≤ k) × (k < i)) ⊎ IsOneOf k old → ((from ≤ k) × (k < i + 1)) ⊎ IsOneOf k old
    before (inl q) = inl (q.0, omega (arith, q.1))
    before (inr h) = inr h

    there : (k ≡ i) ⊎ IsOneOf k now → ((from ≤ k) × (k < i + 1)) ⊎ IsOneOf k old
    there (inl e) = inl (omega arith, omega arith)
    there (inr h) = before ((n k).0 h)

    back : ((from ≤ k) × (k < i + 1)) ⊎ IsOneOf k old → IsOneOf k new
    back (inl q) = elim (cases_lt k i) [ inl a ↦ (m k).1 (inr ((n k).1 (inl (q.0, a)))) | inr a ↦ (m k).1 (inl (omega (arith, q.1))) ]
    back (inr h) = (m k).1 (inr ((n k).1 (inr h)))

-- what was entered, where all signals of a row were
pub row_entered : (hi : ℕ) (ss : List Signal) (lo len end first last i : ℕ) (old new : List ℕ) → FillFrom 0 ss hi → 0 < len → end ≡ lo + len → SignalHasBit ss first lo → SignalHasBit ss last (end - 1) →
    last + 1 ≤ i → (first ≤ last + 1 → i ≤ last + 1) → EnteredTo old first i new → TouchesMore ss (bits_from lo len) old new
row_entered hi ss lo len end first last i old new f s e g h out most n k = (λ p. there ((n k).0 p), λ p. (n k).1 (back p))
  where
    l : lo ≤ end - 1
    l = omega arith

    some : end - 1 + 1 ≡ lo + len
    some = omega arith

    whole : i ≤ last + 1
    whole = let p : first ≤ last = in_order hi ss first last lo (end - 1) f g h l in most (omega arith)

    there : ((first ≤ k) × (k < i)) ⊎ IsOneOf k old → Touches ss (bits_from lo len) k ⊎ IsOneOf k old
    there (inl q) = inl (between_row hi ss lo len end first last f some g h l k q.0 (omega (arith, q.1, whole)))
    there (inr p) = inr p

    back : Touches ss (bits_from lo len) k ⊎ IsOneOf k old → ((first ≤ k) × (k < i)) ⊎ IsOneOf k old
    back (inl t) = let r : (first ≤ k) × (k < last + 1) = row_between hi ss lo len end first last f some g h l k t in inl (r.0, omega (arith, r.1))
    back (inr p) = inr p

-- no bit in an empty row
pub none_entered : (ss : List Signal) (lo len : ℕ) (old : List ℕ) → len ≡ 0 → TouchesMore ss (bits_from lo len) old old
none_entered ss lo len old e k = (λ h. inr h, λ p. either p)
  where
    either : Touches ss (bits_from lo len) k ⊎ IsOneOf k old → IsOneOf k old
    either (inl t) = let r : (lo ≤ t.bit) × (t.bit < lo + len) = in_row t.bit lo len t.among in absurd (omega (arith, r.0, r.1))
    either (inr h) = h

-- the signals of bits, and of further bits
pub touches_both : (ss : List Signal) (xs ys old now new : List ℕ) → TouchesMore ss xs old now → TouchesMore ss ys now new → TouchesMore ss (xs ++ ys) old new
touches_both ss xs ys old now new a b k = (λ h. there ((b k).0 h), λ p. back p)
  where
    first : Touches ss xs k ⊎ IsOneOf k old → Touches ss (xs ++ ys) k ⊎ IsOneOf k old
    first (inl t) = inl (record { bit = t.bit; among = has_left t.bit xs ys t.among; has = t.has })
    first (inr h) = inr h

    there : Touches ss ys k ⊎ IsOneOf k now → Touches ss (xs ++ ys) k ⊎ IsOneOf k old
    there (inl t) = inl (record { bit = t.bit; among = has_right t.bit xs ys t.among; has = t.has })
    there (inr h) = first ((a k).0 h)

    back : Touches ss (xs ++ ys) k ⊎ IsOneOf k old → IsOneOf k new
    back (inl t) = elim (has_either t.bit xs ys t.among) [
      | inl g ↦ (b k).1 (inr ((a k).1 (inl (record { bit = t.bit; among = g; has = t.has }))))
      | inr g ↦ (b k).1 (inl (record { bit = t.bit; among = g; has = t.has }))
    ]
    back (inr h) = (b k).1 (inr ((a k).1 (inr h)))

pub touches_none : (ss : List Signal) (old : List ℕ) → TouchesMore ss [] old old
touches_none ss old k = (λ h. inr h, λ p. either p)
  where
    either : Touches ss [] k ⊎ IsOneOf k old → IsOneOf k old
    either (inl t) = absurd t.among
    either (inr h) = h

-- what nothing but these bits touches
pub touched_from_none : (ss : List Signal) (bits start new : List ℕ) → start ≡ [] → TouchesMore ss bits start new → AreTouched ss bits new
touched_from_none ss bits start new e m k = (λ h. there ((m k).0 h), λ t. (m k).1 (inl t))
  where
    there : Touches ss bits k ⊎ IsOneOf k start → Touches ss bits k
    there (inl t) = t
    there (inr h) = absurd (subst (λ (xs : List ℕ). IsOneOf k xs) e h)

numbers_push : (xs : List Range) (r : Range) → bit_numbers (xs ++ r ∷ []) ≡ bit_numbers xs ++ bits_from r.lo r.len
numbers_push [] r = append-nil (bits_from r.lo r.len)
numbers_push (x ∷ xs) r = ap (λ ns. bits_from x.lo x.len ++ ns) (numbers_push xs r) ∙ sym (append_assoc (bits_from x.lo x.len) (bit_numbers xs) (bits_from r.lo r.len))

-- one part more
pub parts_more : (ss : List Signal) (parts : List Range) (i : ℕ) (r : Range) (old now new : List ℕ) → i < length parts → r ≡ get_or parts i r →
    TouchesMore ss (bit_numbers (take i parts)) old now → TouchesMore ss (bits_from r.lo r.len) now new → TouchesMore ss (bit_numbers (take (i + 1) parts)) old new
parts_more ss parts i r old now new l e a b =
    let next : take (i + 1) parts ≡ take i parts ++ r ∷ [] = take_more parts i r l ∙ ap (λ (x : Range). take i parts ++ x ∷ []) (sym e) in
    let both : bit_numbers (take (i + 1) parts) ≡ bit_numbers (take i parts) ++ bits_from r.lo r.len = ap bit_numbers next ∙ numbers_push (take i parts) r in
    subst (λ (ns : List ℕ). TouchesMore ss ns old new) (sym both) (touches_both ss (bit_numbers (take i parts)) (bits_from r.lo r.len) old now new a b)

pub parts_all : (ss : List Signal) (parts : List Range) (i : ℕ) (start new : List ℕ) → length parts ≤ i → start ≡ [] → TouchesMore ss (bit_numbers (take i parts)) start new
    → AreTouched ss (bit_numbers parts) new
parts_all ss parts i start new l e m = touched_from_none ss (bit_numbers parts) start new e (subst (λ (ps : List Range). TouchesMore ss (bit_numbers ps) start new) (take_all i parts l) m)

pub part_within : (width : ℕ) (parts : List Range) (i : ℕ) (r : Range) → AreWithin width parts → i < length parts → r ≡ get_or parts i r → r.lo + r.len ≤ width
part_within width [] i r w l e = absurd (omega arith)
part_within width (x ∷ parts) zero r w l e = subst (λ (y : Range). y.lo + y.len ≤ width) (sym e) w.0
part_within width (x ∷ parts) (suc i) r w l e = part_within width parts i r w.1 (omega arith) e

-- the bits that a run names
named_row : (lo : ℕ) (bs : List Bool) → bits_named (numbered lo bs) ≡ bits_from lo (length bs)
named_row lo [] = refl
named_row lo (b ∷ bs) = ap (λ ns. lo ∷ ns) (named_row (lo + 1) bs)

named_both : (xs ys : List (ℕ × Bool)) → bits_named (xs ++ ys) ≡ bits_named xs ++ bits_named ys
named_both [] ys = refl
named_both (x ∷ xs) ys = ap (λ ns. x.0 ∷ ns) (named_both xs ys)

-- one run more
pub runs_more : (ss : List Signal) (runs : List BitRun) (i n : ℕ) (r : BitRun) (old now new : List ℕ) → i < length runs → r ≡ get_or runs i r → n ≡ length r.bits →
    TouchesMore ss (bits_named (bits_of (take i runs))) old now → TouchesMore ss (bits_from r.lo n) now new → TouchesMore ss (bits_named (bits_of (take (i + 1) runs))) old new
runs_more ss runs i n r old now new l e c a b =
    let next : take (i + 1) runs ≡ take i runs ++ r ∷ [] = take_more runs i r l ∙ ap (λ (x : BitRun). take i runs ++ x ∷ []) (sym e) in
    let row : bits_named (numbered r.lo r.bits) ≡ bits_from r.lo n = named_row r.lo r.bits ∙ ap (bits_from r.lo) (sym c) in
    let both : bits_named (bits_of (take (i + 1) runs)) ≡ bits_named (bits_of (take i runs)) ++ bits_from r.lo n =
    ap bits_named (bits-push (take i runs) (take (i + 1) runs) r next) ∙ named_both (bits_of (take i runs)) (numbered r.lo r.bits) ∙ ap (λ ns. bits_named (bits_of (take i runs)) ++ ns) row in
    subst (λ (ns : List ℕ). TouchesMore ss ns old new) (sym both) (touches_both ss (bits_named (bits_of (take i runs))) (bits_from r.lo n) old now new a b)

pub runs_all : (ss : List Signal) (runs : List BitRun) (writes : List (ℕ × Bool)) (i : ℕ) (old new : List ℕ) → length runs ≤ i → bits_of runs ≡ writes
    → TouchesMore ss (bits_named (bits_of (take i runs))) old new →
    TouchesMore ss (bits_named writes) old new
runs_all ss runs writes i old new l v m = subst (λ (ws : List (ℕ × Bool)). TouchesMore ss (bits_named ws) old new) v
    (subst (λ (rs : List BitRun). TouchesMore ss (bits_named (bits_of rs)) old new) (take_all i runs l) m)

within_both : (n : ℕ) (xs ys : List (ℕ × Bool)) → BitsWithin n (xs ++ ys) → BitsWithin n xs × BitsWithin n ys
within_both n [] ys h = (tt, h)
within_both n (x ∷ xs) ys h = let r = within_both n xs ys h.1 in ((h.0, r.0), r.1)

pub run_within : (width : ℕ) (runs : List BitRun) (writes : List (ℕ × Bool)) (i n : ℕ) (r : BitRun) → bits_of runs ≡ writes → BitsWithin width writes → i < length runs → r ≡ get_or runs i r
    → n ≡ length r.bits → r.lo + n ≤ width
run_within width runs writes i n r v w l e c =
    let named : BitsWithin width (numbered r.lo r.bits) = run_of runs i (subst (BitsWithin width) (sym v) w) l e in
    let h : r.lo + length r.bits ≤ width = row-within width r.lo r.bits r.filled named in
    omega arith
  where
    run_of : (rs : List BitRun) (k : ℕ) → BitsWithin width (bits_of rs) → k < length rs → r ≡ get_or rs k r → BitsWithin width (numbered r.lo r.bits)
    run_of [] k b m g = absurd (omega arith)
    run_of (x ∷ rs) zero b m g = subst (λ (y : BitRun). BitsWithin width (numbered y.lo y.bits)) (sym g) (within_both width (numbered x.lo x.bits) (bits_of rs) b).0
    run_of (x ∷ rs) (suc k) b m g = run_of rs k (within_both width (numbered x.lo x.bits) (bits_of rs) b).1 (omega arith) g
