-- Bits in a row, and what their writes leave.
use Rattle.std.proofs.Common.{◌≡◌, ℕ, ◌+◌, ◌-◌, ◌<◌, ◌≤◌, zero, suc, List, [], ◌∷◌, ◌++◌, length, take, drop, Bool, slice_set, slice_get, Some, get_or, refl, ap, sym, ◌∙◌, subst, append_assoc, arith}
use Rattle.std.proofs.lemmas.List.{append-nil, drop_more, take-append-drop, take_more_set, drop-set-lt, length-set, length-append}
use Rattle.std.proofs.Math.Seq.{take-length}
use Rattle.lh_bits.specs.declared.bit_run.BitRun.{BitRun}
use Rattle.lh_bits.specs.Writes.{numbered, bits_of, AreCounted, written, BitsWithin}
use Rattle.lh_types.specs.Parts.{bits_within, bits_with}

pub length-numbered : (lo : ℕ) (bs : List Bool) → length (numbered lo bs) ≡ length bs
length-numbered lo [] = refl
length-numbered lo (b ∷ bs) = ap suc (length-numbered (lo + 1) bs)

pub get-numbered : (lo i : ℕ) (bs : List Bool) (b : Bool) → slice_get bs i ≡ Some b → slice_get (numbered lo bs) i ≡ Some (lo + i, b)
get-numbered lo i [] b e = absurd (gone i e)
  where
    gone : (j : ℕ) → slice_get [] j ≡ Some b → ⊥
    gone zero p = cc
    gone (suc j) p = cc
get-numbered lo zero (x ∷ xs) b e =
    let p : x ≡ b = cc in
    let n : lo ≡ lo + 0 = omega arith in
    ap (λ y. Some (lo, y)) p ∙ ap (λ m. Some (m, b)) n
get-numbered lo (suc i) (x ∷ xs) b e =
    let n : lo + 1 + i ≡ lo + suc i = omega arith in
    get-numbered (lo + 1) i xs b e ∙ ap (λ m. Some (m, b)) n

get-left : (xs ys : List (ℕ × Bool)) (i : ℕ) (x : ℕ × Bool) → slice_get xs i ≡ Some x → slice_get (xs ++ ys) i ≡ Some x
get-left [] ys i x e = absurd (gone i e)
  where
    gone : (j : ℕ) → slice_get [] j ≡ Some x → ⊥
    gone zero p = cc
    gone (suc j) p = cc
get-left (y ∷ xs) ys zero x e = e
get-left (y ∷ xs) ys (suc i) x e = get-left xs ys i x e

get-right : (xs ys : List (ℕ × Bool)) (i : ℕ) → length xs ≤ i → slice_get (xs ++ ys) i ≡ slice_get ys (i - length xs)
get-right [] ys i h = let n : i ≡ i - length {A = ℕ × Bool} [] = omega arith in ap (slice_get ys) n
get-right (x ∷ xs) ys zero h = absurd (omega arith)
get-right (x ∷ xs) ys (suc i) h =
    let n : i - length xs ≡ suc i - length (x ∷ xs) = omega arith in
    get-right xs ys i (omega arith) ∙ ap (slice_get ys) n

pub runs-next : (rs : List BitRun) (i : ℕ) (r : BitRun) → i < length rs → r ≡ get_or rs i r → bits_of (drop i rs) ≡ numbered r.lo r.bits ++ bits_of (drop (i + 1) rs)
runs-next rs i r h e = ap bits_of (drop_more rs i r h) ∙ ap (λ (x : BitRun). numbered x.lo x.bits ++ bits_of (drop (i + 1) rs)) (sym e)

-- a write within the run that comes next, and one behind it
pub found-here : (rs : List BitRun) (i j : ℕ) (r : BitRun) (b : Bool) → i < length rs → r ≡ get_or rs i r → slice_get r.bits j ≡ Some b → slice_get (bits_of (drop i rs)) j ≡ Some (r.lo + j, b)
found-here rs i j r b h e g =
    ap (λ es. slice_get es j) (runs-next rs i r h e) ∙ get-left (numbered r.lo r.bits) (bits_of (drop (i + 1) rs)) j (r.lo + j, b) (get-numbered r.lo j r.bits b g)

pub found-later : (rs : List BitRun) (i j n : ℕ) (r : BitRun) → i < length rs → r ≡ get_or rs i r → n ≡ length r.bits → n ≤ j
    → slice_get (bits_of (drop i rs)) j ≡ slice_get (bits_of (drop (i + 1) rs)) (j - n)
found-later rs i j n r h e l le =
    let c : length (numbered r.lo r.bits) ≡ n = length-numbered r.lo r.bits ∙ sym l in
    ap (λ es. slice_get es j) (runs-next rs i r h e) ∙ get-right (numbered r.lo r.bits) (bits_of (drop (i + 1) rs)) j (omega arith) ∙ ap (λ m. slice_get (bits_of (drop (i + 1) rs)) (j - m)) c

pub left-later : (rs : List BitRun) (i j n : ℕ) (r : BitRun) → i < length rs → r ≡ get_or rs i r → n ≡ length r.bits → n ≤ j → j < length (bits_of (drop i rs))
    → j - n < length (bits_of (drop (i + 1) rs))
left-later rs i j n r h e l le b =
    let c : length (numbered r.lo r.bits) ≡ n = length-numbered r.lo r.bits ∙ sym l in
    let t : length (bits_of (drop i rs)) ≡ length (numbered r.lo r.bits) + length (bits_of (drop (i + 1) rs)) = ap length (runs-next rs i r h e)
    ∙ length-append (numbered r.lo r.bits) (bits_of (drop (i + 1) rs)) in
    omega arith

-- one more run at the end
pub bits-push : (xs ys : List BitRun) (r : BitRun) → ys ≡ xs ++ r ∷ [] → bits_of ys ≡ bits_of xs ++ numbered r.lo r.bits
bits-push xs ys r e = ap bits_of e ∙ more xs
  where
    more : (xs : List BitRun) → bits_of (xs ++ r ∷ []) ≡ bits_of xs ++ numbered r.lo r.bits
    more [] = append-nil (numbered r.lo r.bits)
    more (x ∷ xs) = ap (λ w. numbered x.lo x.bits ++ w) (more xs) ∙ sym (append_assoc (numbered x.lo x.bits) (bits_of xs) (numbered r.lo r.bits))

pub within-left : (n : ℕ) (xs ys : List (ℕ × Bool)) → BitsWithin n (xs ++ ys) → BitsWithin n xs
within-left n [] ys h = tt
within-left n (x ∷ xs) ys h = (h.0, within-left n xs ys h.1)

within-right : (n : ℕ) (xs ys : List (ℕ × Bool)) → BitsWithin n (xs ++ ys) → BitsWithin n ys
within-right n [] ys h = h
within-right n (x ∷ xs) ys h = within-right n xs ys h.1

pub length-written : (xs : List (ℕ × Bool)) (bits : List Bool) → length (written xs bits) ≡ length bits
length-written [] bits = refl
length-written (x ∷ xs) bits = length-written xs (slice_set bits x.0 x.1) ∙ length-set bits x.0 x.1

pub within-written : (xs ys : List (ℕ × Bool)) (bits : List Bool) → BitsWithin (length bits) (xs ++ ys) → BitsWithin (length (written xs bits)) ys
within-written xs ys bits h = subst (λ n. BitsWithin n ys) (sym (length-written xs bits)) (within-right (length bits) xs ys h)

pub written-append : (xs ys : List (ℕ × Bool)) (bits : List Bool) → written (xs ++ ys) bits ≡ written ys (written xs bits)
written-append [] ys bits = refl
written-append (x ∷ xs) ys bits = written-append xs ys (slice_set bits x.0 x.1)

-- bits in a row that are within end within
pub row-within : (n lo : ℕ) (bs : List Bool) → 0 < length bs → BitsWithin n (numbered lo bs) → lo + length bs ≤ n
row-within n lo [] f h = absurd (omega arith)
row-within n lo (b ∷ []) f h = omega (arith, h.0)
row-within n lo (b ∷ c ∷ bs) f h = let e : lo + 1 + length (c ∷ bs) ≤ n = row-within n (lo + 1) (c ∷ bs) (omega arith) h.1 in omega arith

-- what writes of bits in a row leave
pub written-row : (bs : List Bool) (lo : ℕ) (bits : List Bool) → lo + length bs ≤ length bits → written (numbered lo bs) bits ≡ take lo bits ++ (bs ++ drop (lo + length bs) bits)
written-row [] lo bits h =
    let n : lo ≡ lo + length {A = Bool} [] = omega arith in
    sym (take-append-drop lo bits) ∙ ap (λ m. take lo bits ++ drop m bits) n
written-row (b ∷ bs) lo bits h =
    let l : lo < length bits = omega arith in
    let m : lo + 1 + length bs ≡ lo + length (b ∷ bs) = omega arith in
    let le : lo + 1 + length bs ≤ length (slice_set bits lo b) = omega (arith, length-set bits lo b) in
    let lt : lo < lo + 1 + length bs = omega arith in
    written-row bs (lo + 1) (slice_set bits lo b) le
    ∙ ap (λ xs. xs ++ (bs ++ drop (lo + 1 + length bs) (slice_set bits lo b))) (take_more_set bits lo b l)
    ∙ append_assoc (take lo bits) (b ∷ []) (bs ++ drop (lo + 1 + length bs) (slice_set bits lo b))
    ∙ ap (λ xs. take lo bits ++ (b ∷ (bs ++ xs))) (drop-set-lt (lo + 1 + length bs) bits lo b lt ∙ ap (λ k. drop k bits) m)

-- a part that is put is its writes
pub part-written : (bs : List Bool) (lo n : ℕ) (old new : List Bool) → n ≡ length bs → lo + length bs ≤ length old → new ≡ bits_with lo (bits_within 0 n bs) old → new ≡ written (numbered lo bs) old
part-written bs lo n old new e h p =
    let w : bits_within 0 n bs ≡ bs = ap (λ m. take m bs) e ∙ take-length bs in
    p ∙ ap (λ xs. bits_with lo xs old) w ∙ append_assoc (take lo old) bs (drop (lo + length bs) old) ∙ sym (written-row bs lo old h)

pub counted-push : (xs ys : List BitRun) (r : BitRun) (n m k : ℕ) → ys ≡ xs ++ r ∷ [] → AreCounted n xs → k ≡ length r.bits → m ≡ n + k → AreCounted m ys
counted-push xs ys r n m k e a l h =
    let t : length (bits_of ys) ≡ length (bits_of xs) + length (numbered r.lo r.bits) = ap length (bits-push xs ys r e) ∙ length-append (bits_of xs) (numbered r.lo r.bits) in
    record { counted = omega (arith, a.counted, length-numbered r.lo r.bits) }
