-- Bits that are the same in two frames, by signals and in rows.
use Rattle.std.proofs.Common.{arith, ◌≡◌, ℕ, zero, suc, ◌+◌, ◌<◌, ◌≤◌, List, [], ◌∷◌, ◌++◌, length, get_or, drop, Bool, true, false, not, ◌&&◌, ◌||◌, Some, refl, ap, sym, ◌∙◌, subst, ◌⊎◌, inl, inr, true≢false}
use Rattle.std.specs.Prelude.{slice_get, slice_set}
use Rattle.std.specs.List.{list_any}
use Rattle.std.proofs.lemmas.Bool.{cases_lt, cases_eq, false≢true, or_parts, true_from_ne_false}
use Rattle.std.proofs.lemmas.List.{drop_more, drop_all, take_all, get_or-set_other}
use Rattle.std.proofs.lemmas.List.Folds.{list_any-append}
use Rattle.std.proofs.lemmas.Option.{unwrap_or-slice_get}
use Rattle.std.proofs.Math.Bool.{or-true}
use Rattle.lh_types.specs.Types.{IsData, bit_count}
use Rattle.lh_types.specs.Parts.{bits_within}
use Rattle.lh_bits.specs.Writes.{written}
use Rattle.lh_types.specs.declared.part.Range.{Range}
use Rattle.lh_unit.specs.World.{bit_at, bits_from, bit_numbers, bit_differs}
use Rattle.lh_kernel_wakes.specs.Rising.{IsOneOf}
use Rattle.lh_design.specs.declared.Signal.{Signal}
use Rattle.lh_design.specs.Filling.{FillFrom}
use Rattle.lh_kernel_changes.specs.Touched.{AreWithin, bits_named, StaysSame}
use Rattle.lh_kernel_changes.specs.Laws.{PartsStay, OnlyTouchedChange, OnlyWrittenChange, SignalsAreAll}
use Rattle.lh_kernel_changes.proofs.Filled.{has_of, of_has, at_signal, some_signal}
use Rattle.lh_kernel_wakes.proofs.GatheredNumbers.{has_either}
use Rattle.lh_kernel_changes.proofs.TouchedSignals.{in_row, row_in}

-- the row of bits from one on is that bit, and the row behind it
row_next : (bs : List Bool) (lo n : ℕ) → lo < length bs → bits_within lo (suc n) bs ≡ bit_at bs lo ∷ bits_within (lo + 1) n bs
row_next [] lo n h = absurd (omega arith)
row_next (x ∷ bs) zero n h = refl
row_next (x ∷ bs) (suc lo) n h =
    let e : suc (lo + 1) ≡ suc lo + 1 = omega arith in
    row_next bs lo n (omega arith) ∙ ap (λ m. bit_at bs lo ∷ bits_within m n (x ∷ bs)) e

-- rows are the same where each of their bits is
pub row_of_bits : (n lo : ℕ) (x y : List Bool) → lo + n ≤ length x → lo + n ≤ length y → ((b : ℕ) → lo ≤ b → b < lo + n → bit_at x b ≡ bit_at y b) → bits_within lo n x ≡ bits_within lo n y
row_of_bits zero lo x y p q h = refl
row_of_bits (suc n) lo x y p q h =
    let first : bit_at x lo ≡ bit_at y lo = h lo (omega arith) (omega arith) in
    let rest : bits_within (lo + 1) n x ≡ bits_within (lo + 1) n y = row_of_bits n (lo + 1) x y (omega arith) (omega arith) (λ b l m. h b (omega arith) (omega arith)) in
    row_next x lo n (omega arith) ∙ ap (λ (c : Bool). c ∷ bits_within (lo + 1) n x) first ∙ ap (λ (cs : List Bool). bit_at y lo ∷ cs) rest ∙ sym (row_next y lo n (omega arith))

same_head : (a b : Bool) (us vs : List Bool) → a ∷ us ≡ b ∷ vs → (a ≡ b) × (us ≡ vs)
same_head a b us vs e = (cc, cc)

pub bits_of_row : (n lo : ℕ) (x y : List Bool) → lo + n ≤ length x → lo + n ≤ length y → bits_within lo n x ≡ bits_within lo n y → (b : ℕ) → lo ≤ b → b < lo + n → bit_at x b ≡ bit_at y b
bits_of_row zero lo x y p q e b l m = absurd (omega arith)
bits_of_row (suc n) lo x y p q e b l m =
    let s = same_head (bit_at x lo) (bit_at y lo) (bits_within (lo + 1) n x) (bits_within (lo + 1) n y) (sym (row_next x lo n (omega arith)) ∙ e ∙ row_next y lo n (omega arith)) in
    elim (cases_lt lo b) [
      | inl h ↦ bits_of_row n (lo + 1) x y (omega arith) (omega arith) s.1 b (omega arith) (omega arith)
      | inr h ↦ let c : lo ≡ b = omega arith in subst (λ (k : ℕ). bit_at x k ≡ bit_at y k) c s.0
    ]

-- a bit does not differ exactly where it is the same
same_differs : (p q : Bool) → p ≡ q → (p && not q) || (not p && q) ≡ false
same_differs true true e = refl
same_differs true false e = absurd (true≢false e)
same_differs false true e = absurd (false≢true e)
same_differs false false e = refl

differs_same : (p q : Bool) → (p && not q) || (not p && q) ≡ false → p ≡ q
differs_same true true e = refl
differs_same true false e = absurd (true≢false e)
differs_same false true e = absurd (true≢false e)
differs_same false false e = refl

pub none_differ : (x y : List Bool) (bits : List ℕ) → ((b : ℕ) → IsOneOf b bits → bit_at x b ≡ bit_at y b) → list_any (bit_differs x y) bits ≡ false
none_differ x y [] h = refl
none_differ x y (b ∷ bits) h =
    ap (λ (c : Bool). c || list_any (bit_differs x y) bits) (same_differs (bit_at x b) (bit_at y b) (h b (inl refl))) ∙ none_differ x y bits (λ k g. h k (inr g))

pub each_same : (x y : List Bool) (bits : List ℕ) → list_any (bit_differs x y) bits ≡ false → (b : ℕ) → IsOneOf b bits → bit_at x b ≡ bit_at y b
each_same x y [] e b h = absurd h
each_same x y (c ∷ bits) e b (inl p) = subst (λ (k : ℕ). bit_at x k ≡ bit_at y k) p (differs_same (bit_at x c) (bit_at y c) (or_parts (bit_differs x y c) (list_any (bit_differs x y) bits) e).0)
each_same x y (c ∷ bits) e b (inr h) = each_same x y bits (or_parts (bit_differs x y c) (list_any (bit_differs x y) bits) e).1 b h

-- a row differs exactly where it is not the same
row_same : (n lo : ℕ) (x y : List Bool) → lo + n ≤ length x → lo + n ≤ length y → bits_within lo n x ≡ bits_within lo n y → list_any (bit_differs x y) (bits_from lo n) ≡ false
row_same n lo x y p q e =
    none_differ x y (bits_from lo n) (λ b h.
    let r : (lo ≤ b) × (b < lo + n) = in_row b lo n h in
    bits_of_row n lo x y p q e b r.0 r.1)

pub row_differs : (n lo : ℕ) (x y : List Bool) → lo + n ≤ length x → lo + n ≤ length y → (bits_within lo n x ≡ bits_within lo n y → ⊥) → list_any (bit_differs x y) (bits_from lo n) ≡ true
row_differs n lo x y p q h =
    true_from_ne_false (list_any (bit_differs x y) (bits_from lo n)) (λ e.
    h (row_of_bits n lo x y p q (λ b l m. each_same x y (bits_from lo n) e b (row_in b lo n l m))))

parts_next : (x y : List Bool) (parts : List Range) (i : ℕ) (r : Range) → i < length parts → r ≡ get_or parts i r →
    list_any (bit_differs x y) (bit_numbers (drop i parts)) ≡ (list_any (bit_differs x y) (bits_from r.lo r.len) || list_any (bit_differs x y) (bit_numbers (drop (i + 1) parts)))
parts_next x y parts i r l e =
    ap (λ (ps : List Range). list_any (bit_differs x y) (bit_numbers ps)) (drop_more parts i r l)
    ∙ ap (λ (p : Range). list_any (bit_differs x y) (bits_from p.lo p.len ++ bit_numbers (drop (i + 1) parts))) (sym e)
    ∙ list_any-append (bit_differs x y) (bits_from r.lo r.len) (bit_numbers (drop (i + 1) parts))

-- whether bits of the parts differ: in those from one on, with a part that is the same, and with one that is not
abbrev pub DifferFrom : (parts : List Range) → ℕ → (x y : List Bool) → Type 0
DifferFrom parts i x y = list_any (bit_differs x y) (bit_numbers (drop i parts)) ≡ list_any (bit_differs x y) (bit_numbers parts)

pub part_same : (x y : List Bool) (parts : List Range) (i : ℕ) (r : Range) → i < length parts → r ≡ get_or parts i r → r.lo + r.len ≤ length x → r.lo + r.len ≤ length y →
    bits_within r.lo r.len x ≡ bits_within r.lo r.len y → DifferFrom parts i x y → DifferFrom parts (i + 1) x y
part_same x y parts i r l e p q s d =
    ap (λ (b : Bool). b || list_any (bit_differs x y) (bit_numbers (drop (i + 1) parts))) (sym (row_same r.len r.lo x y p q s)) ∙ sym (parts_next x y parts i r l e) ∙ d

pub part_differs : (x y : List Bool) (parts : List Range) (i : ℕ) (r : Range) → i < length parts → r ≡ get_or parts i r → r.lo + r.len ≤ length x → r.lo + r.len ≤ length y →
    (bits_within r.lo r.len x ≡ bits_within r.lo r.len y → ⊥) → DifferFrom parts i x y → true ≡ list_any (bit_differs x y) (bit_numbers parts)
part_differs x y parts i r l e p q s d =
    ap (λ (b : Bool). b || list_any (bit_differs x y) (bit_numbers (drop (i + 1) parts))) (sym (row_differs r.len r.lo x y p q s)) ∙ sym (parts_next x y parts i r l e) ∙ d

pub no_part_differs : (x y : List Bool) (parts : List Range) (i : ℕ) → length parts ≤ i → DifferFrom parts i x y → false ≡ list_any (bit_differs x y) (bit_numbers parts)
no_part_differs x y parts i l d = ap (λ (ps : List Range). list_any (bit_differs x y) (bit_numbers ps)) (sym (drop_all i parts l)) ∙ d

-- one of the parts is a row that differs
pub part_among : (x y : List Bool) (parts : List Range) (i : ℕ) (p r : Range) → i < length parts → p ≡ get_or parts i p → p.lo ≡ r.lo →
    p.len ≡ r.len → list_any (bit_differs x y) (bits_from r.lo r.len) ≡ true →
    list_any (bit_differs x y) (bit_numbers parts) ≡ true
part_among x y [] i p r l e lo len d = absurd (omega arith)
part_among x y (q ∷ parts) zero p r l e lo len d =
    let same : bits_from r.lo r.len ≡ bits_from q.lo q.len = ap (λ (m : ℕ). bits_from m r.len) (sym lo) ∙ ap (λ (m : ℕ). bits_from p.lo m) (sym len) ∙ ap (λ (z : Range). bits_from z.lo z.len) e in
    list_any-append (bit_differs x y) (bits_from q.lo q.len) (bit_numbers parts) ∙
    ap (λ (b : Bool). b || list_any (bit_differs x y) (bit_numbers parts)) (ap (λ (bs : List ℕ). list_any (bit_differs x y) bs) (sym same) ∙ d)
part_among x y (q ∷ parts) (suc i) p r l e lo len d =
    list_any-append (bit_differs x y) (bits_from q.lo q.len) (bit_numbers parts) ∙
    ap (λ (b : Bool). list_any (bit_differs x y) (bits_from q.lo q.len) || b) (part_among x y parts i p r (omega arith) e lo len d) ∙
    or-true (list_any (bit_differs x y) (bits_from q.lo q.len))

-- a signal stays exactly where its row does
pub stays_by_row : (hi : ℕ) (ss : List Signal) (k : ℕ) (s : Signal) (x y : List Bool) → FillFrom 0 ss hi → slice_get ss k ≡ Some s → length x ≡ hi → length y ≡ hi →
    bits_within s.lo (bit_count s.ty) x ≡ bits_within s.lo (bit_count s.ty) y → StaysSame ss x y k
stays_by_row hi ss k s x y f e p q r b h =
    let a : IsData s.ty × (s.lo + bit_count s.ty ≤ hi) = at_signal 0 hi ss k s f e in
    let i : (s.lo ≤ b) × (b < s.lo + bit_count s.ty) = of_has ss k s b e h in
    bits_of_row (bit_count s.ty) s.lo x y (omega (arith, a.1)) (omega (arith, a.1)) r b i.0 i.1

pub row_by_stays : (hi : ℕ) (ss : List Signal) (k : ℕ) (s : Signal) (x y : List Bool) → FillFrom 0 ss hi → slice_get ss k ≡ Some s → length x ≡ hi → length y ≡ hi →
    StaysSame ss x y k → bits_within s.lo (bit_count s.ty) x ≡ bits_within s.lo (bit_count s.ty) y
row_by_stays hi ss k s x y f e p q r =
    let a : IsData s.ty × (s.lo + bit_count s.ty ≤ hi) = at_signal 0 hi ss k s f e in
    row_of_bits (bit_count s.ty) s.lo x y (omega (arith, a.1)) (omega (arith, a.1)) (λ b l m. r b (has_of ss k s b e (l, m)))

-- the same, by a length that is known to be the signal's
pub stays_by_len : (hi : ℕ) (ss : List Signal) (k n : ℕ) (s : Signal) (x y : List Bool) → FillFrom 0 ss hi → slice_get ss k ≡ Some s → length x ≡ hi → length y ≡ hi → n ≡ bit_count s.ty →
    bits_within s.lo n x ≡ bits_within s.lo n y → StaysSame ss x y k
stays_by_len hi ss k n s x y f e p q c r = stays_by_row hi ss k s x y f e p q (subst (λ (m : ℕ). bits_within s.lo m x ≡ bits_within s.lo m y) c r)

pub len_by_stays : (hi : ℕ) (ss : List Signal) (k n : ℕ) (s : Signal) (x y : List Bool) → FillFrom 0 ss hi → slice_get ss k ≡ Some s → length x ≡ hi → length y ≡ hi → n ≡ bit_count s.ty →
    StaysSame ss x y k → bits_within s.lo n x ≡ bits_within s.lo n y
len_by_stays hi ss k n s x y f e p q c r = subst (λ (m : ℕ). bits_within s.lo m x ≡ bits_within s.lo m y) (sym c) (row_by_stays hi ss k s x y f e p q r)

-- the laws
in_parts : (width : ℕ) (parts : List Range) (b : ℕ) → AreWithin width parts → IsOneOf b (bit_numbers parts) → b < width
in_parts width [] b w h = absurd h
in_parts width (r ∷ parts) b w h = elim (has_either b (bits_from r.lo r.len) (bit_numbers parts) h) [
  | inl g ↦ let i : (r.lo ≤ b) × (b < r.lo + r.len) = in_row b r.lo r.len g in omega (arith, i.1, w.0)
  | inr g ↦ in_parts width parts b w.1 g
]

pub parts_stay : PartsStay
parts_stay ss width parts old now f w h =
    none_differ old now (bit_numbers parts) (λ b g.
    let s = some_signal 0 width ss b f (omega arith) (in_parts width parts b w g) in
    h s.0 (record { bit = b; among = g; has = s.1 }) b s.1)

pub has_or : (b : ℕ) (bits : List ℕ) → IsOneOf b bits ⊎ (IsOneOf b bits → ⊥)
has_or b [] = inr (λ h. h)
has_or b (c ∷ bits) = elim (cases_eq c b) [
  | inl e ↦ inl (inl e)
  | inr n ↦ elim (has_or b bits) [ inl h ↦ inl (inr h) | inr m ↦ inr (neither n m) ]
]
  where
    neither : (c ≡ b → ⊥) → (IsOneOf b bits → ⊥) → IsOneOf b (c ∷ bits) → ⊥
    neither n m (inl e) = n e
    neither n m (inr h) = m h

pub only_touched_change : OnlyTouchedChange
only_touched_change ss bits touched old now same all k other b h = elim (has_or b bits) [
  | inl g ↦ absurd (other (all k (record { bit = b; among = g; has = h })))
  | inr m ↦ same b m
]

bit_at-other : (bits : List Bool) (n b : ℕ) (v : Bool) → (n ≡ b → ⊥) → bit_at (slice_set bits n v) b ≡ bit_at bits b
bit_at-other bits n b v h = unwrap_or-slice_get (slice_set bits n v) b false ∙ get_or-set_other bits n b v false (λ e. h (sym e)) ∙ sym (unwrap_or-slice_get bits b false)

written_else : (writes : List (ℕ × Bool)) (bits : List Bool) (b : ℕ) → (IsOneOf b (bits_named writes) → ⊥) → bit_at bits b ≡ bit_at (written writes bits) b
written_else [] bits b h = refl
written_else (w ∷ writes) bits b h = sym (bit_at-other bits w.0 b w.1 (λ e. h (inl e))) ∙ written_else writes (slice_set bits w.0 w.1) b (λ g. h (inr g))

pub only_written_change : OnlyWrittenChange
only_written_change ss writes touched bits all = only_touched_change ss (bits_named writes) touched bits (written writes bits) (λ b h. written_else writes bits b h) all

pub signals_are_all : SignalsAreAll
signals_are_all ss width old now f p q h =
    let whole : bits_within 0 width old ≡ bits_within 0 width now =
    row_of_bits width 0 old now (omega arith) (omega arith) (λ b l m. let s = some_signal 0 width ss b f (omega arith) (omega arith) in h s.0 b s.1) in
    sym (take_all width old (omega arith)) ∙ whole ∙ take_all width now (omega arith)
