-- All the bits after a write of a part, or of one bit.
use Rattle.std.proofs.Common.{◌≡◌, ℕ, ◌+◌, ◌-◌, ◌<◌, ◌≤◌, Bool, nat_eq, List, ◌∷◌, ◌++◌, length, take, drop, set, refl, ap, sym, ◌∙◌, arith, append_assoc}
use Rattle.std.proofs.Math.Seq.{set-append_seam}
use Rattle.std.proofs.Common.{◌*◌, ◌%◌, ◌/◌, ◌^◌, true, false, Some, subst, replicate}
use Rattle.smallvec.specs.SmallVec.{SmallVec, small_vec_len, with_items}
use Rattle.smallvec.proofs.SmallVecLemmas.{items-with_items}
use mir.Val.{bool_byte}
use Rattle.std.specs.List.{slice_get}
use Rattle.std.specs.Int.{bit_at}
use Rattle.std.proofs.Math.ListN.{drop_of_length-le}
use Rattle.std.proofs.lemmas.List.{length-replicate, length-append, length-take, length-drop, append-nil}
use Rattle.std.proofs.lemmas.Nat.Bits.{bit_at_lowest}
use Rattle.lh_bits.specs.Flags.{word_bit, flags}
use Rattle.lh_types.specs.Parts.{bits_within, bits_with}
use Rattle.lh_bits.specs.Packed.{IsPacked}
use Rattle.lh_bits.proofs.FlagRuns.{length-flags, length_view, flags-add, flags-same, take-flags, drop-flags, bits_within-flags, slice_get-flags, word_bit-zeros}

-- a run before, a run within and a run after
pub three_runs : (lo len r : ℕ) (ws : List ℕ) → flags (lo + (len + r)) 0 ws ≡ flags lo 0 ws ++ (flags len lo ws ++ flags r (lo + len) ws)
three_runs lo len r ws =
    let f : 0 + lo ≡ lo = omega arith in
    flags-add lo (len + r) 0 ws
    ∙ ap (λ i. flags lo 0 ws ++ flags (len + r) i ws) f
    ∙ ap (λ bs. flags lo 0 ws ++ bs) (flags-add len r lo ws)

written : (lo len r : ℕ) (ws us : List ℕ) (new : List Bool) → ((i : ℕ) → i < lo → word_bit ws i ≡ word_bit us i) → flags len lo ws ≡ new → ((i : ℕ) → lo + len ≤ i → word_bit ws i ≡ word_bit us i)
    → flags (lo + (len + r)) 0 ws ≡ bits_with lo new (flags (lo + (len + r)) 0 us)
written lo len r ws us new before is after =
    let a : flags lo 0 ws ≡ flags lo 0 us = flags-same lo 0 0 ws us (λ j h. before (0 + j) (omega arith)) in
    let d : flags r (lo + len) ws ≡ flags r (lo + len) us = flags-same r (lo + len) (lo + len) ws us (λ j h. after (lo + len + j) (omega arith)) in
    let e : lo + (len + r) ≡ lo + len + r = omega arith in
    let f : 0 + (lo + len) ≡ lo + len = omega arith in
    let t : drop (lo + length new) (flags (lo + (len + r)) 0 us) ≡ flags r (lo + len) us =
    ap (λ k. drop (lo + k) (flags (lo + (len + r)) 0 us)) (length_view len lo ws new is)
    ∙ ap (λ k. drop (lo + len) (flags k 0 us)) e
    ∙ drop-flags (lo + len) r 0 us
    ∙ ap (λ i. flags r i us) f in
    three_runs lo len r ws ∙ rw (a, is, d, t, take-flags lo (len + r) 0 us, append_assoc) refl

pub run_written : (n lo len : ℕ) (ws us : List ℕ) (new : List Bool) → lo + len ≤ n → ((i : ℕ) → i < lo → word_bit ws i ≡ word_bit us i) → flags len lo ws ≡ new
    → ((i : ℕ) → lo + len ≤ i → word_bit ws i ≡ word_bit us i) → flags n 0 ws ≡ bits_with lo new (flags n 0 us)
run_written n lo len ws us new h before is after =
    let e : n ≡ lo + (len + (n - (lo + len))) = omega arith in
    rw e (written lo len (n - (lo + len)) ws us new before is after)

pub bit_written : (n i : ℕ) (b : Bool) (ws us : List ℕ) → i < n → ((j : ℕ) → j < i → word_bit ws j ≡ word_bit us j) → nat_eq (word_bit ws i) 1 ≡ b
    → ((j : ℕ) → i + 1 ≤ j → word_bit ws j ≡ word_bit us j) → flags n 0 ws ≡ set (flags n 0 us) i b
bit_written n i b ws us h before at after =
    let e : n ≡ i + (1 + (n - (i + 1))) = omega arith in
    let a : flags i 0 ws ≡ flags i 0 us = flags-same i 0 0 ws us (λ j h. before (0 + j) (omega arith)) in
    let d : flags (n - (i + 1)) (i + 1) ws ≡ flags (n - (i + 1)) (i + 1) us = flags-same (n - (i + 1)) (i + 1) (i + 1) ws us (λ j h. after (i + 1 + j) (omega arith)) in
    let s : set (flags i 0 us ++ nat_eq (word_bit us i) 1 ∷ flags (n - (i + 1)) (i + 1) us) i b ≡ flags i 0 us ++ b ∷ flags (n - (i + 1)) (i + 1) us =
    ap (λ k. set (flags i 0 us ++ nat_eq (word_bit us i) 1 ∷ flags (n - (i + 1)) (i + 1) us) k b) (sym (length-flags i 0 us))
    ∙ set-append_seam (flags i 0 us) (nat_eq (word_bit us i) 1) (flags (n - (i + 1)) (i + 1) us) b in
    let p : flags n 0 ws ≡ flags i 0 us ++ b ∷ flags (n - (i + 1)) (i + 1) us = ap (λ k. flags k 0 ws) e ∙ three_runs i 1 (n - (i + 1)) ws ∙ rw (a, at, d) refl in
    let q : flags n 0 us ≡ flags i 0 us ++ nat_eq (word_bit us i) 1 ∷ flags (n - (i + 1)) (i + 1) us = ap (λ k. flags k 0 us) e ∙ three_runs i 1 (n - (i + 1)) us in
    p ∙ sym (ap (λ bs. set bs i b) q ∙ s)

-- what the calls ask of the words
pub part_fits : (n lo len : ℕ) (us : List ℕ) (bs : List Bool) → IsPacked n us → flags n 0 us ≡ bs → lo + len ≤ length bs → lo + len < 2 ^ 32
part_fits n lo len us bs p e h = omega (arith, p.narrow, length_view n 0 us bs e)

pub part_in_words : (n lo len : ℕ) (ws us : List ℕ) (bs : List Bool) → ws ≡ us → IsPacked n us → flags n 0 us ≡ bs → lo + len ≤ length bs → lo + len ≤ 64 * length ws
part_in_words n lo len ws us bs s p e h = omega (arith, p.sized, length_view n 0 us bs e, ap length s)

-- a write of bits that are there leaves the words packed
pub packed_kept : (v : SmallVec ℕ) (n k : ℕ) (us ws : List ℕ) (bs : List Bool) → us ≡ v.items → IsPacked n v.items → flags n 0 v.items ≡ bs → k ≤ length bs → length ws ≡ length us
    → ((i : ℕ) → k ≤ i → word_bit ws i ≡ word_bit us i) → IsPacked n (with_items v ws).items
packed_kept v n k us ws bs s p e h l after =
    let w : length ws ≡ small_vec_len v = l ∙ ap length s in
    let t : IsPacked n ws = record {
      narrow = p.narrow;
      sized = l ∙ ap length s ∙ p.sized;
      clear = λ i b. after i (omega (arith, length_view n 0 v.items bs e)) ∙ ap (λ xs. word_bit xs i) s ∙ p.clear i b;
    } in
    subst (λ xs. IsPacked n xs) (sym (items-with_items v ws w)) t

-- all the bits after a run was put
pub run_put : (v : SmallVec ℕ) (n lo len : ℕ) (us ws : List ℕ) (bs new : List Bool) → us ≡ v.items → flags n 0 v.items ≡ bs → lo + len ≤ length bs → length ws ≡ length us
    → ((i : ℕ) → i < lo → word_bit ws i ≡ word_bit us i) → flags len lo ws ≡ new → ((i : ℕ) → lo + len ≤ i → word_bit ws i ≡ word_bit us i) → flags n 0 (with_items v ws).items ≡ bits_with lo new bs
run_put v n lo len us ws bs new s e h l before is after =
    let w : length ws ≡ small_vec_len v = l ∙ ap length s in
    let g : flags n 0 us ≡ bs = ap (λ xs. flags n 0 xs) s ∙ e in
    let a : lo + len ≤ n = omega (arith, length_view n 0 v.items bs e) in
    ap (λ xs. flags n 0 xs) (items-with_items v ws w)
    ∙ run_written n lo len ws us new a before is after
    ∙ ap (λ xs. bits_with lo new xs) g

-- all the bits after one was put
pub bit_put : (v : SmallVec ℕ) (n i x : ℕ) (b : Bool) (us ws : List ℕ) (bs : List Bool) → us ≡ v.items → flags n 0 v.items ≡ bs → i < length bs → length ws ≡ length us → x < 2
    → nat_eq x 1 ≡ b → ((j : ℕ) → j < i → word_bit ws j ≡ word_bit us j) → ((j : ℕ) → j < 1 → word_bit ws (i + j) ≡ bit_at x j) → ((j : ℕ) → i + 1 ≤ j → word_bit ws j ≡ word_bit us j)
    → flags n 0 (with_items v ws).items ≡ set bs i b
bit_put v n i x b us ws bs s e h l q t before each after =
    let w : length ws ≡ small_vec_len v = l ∙ ap length s in
    let g : flags n 0 us ≡ bs = ap (λ xs. flags n 0 xs) s ∙ e in
    let a : i < n = omega (arith, length_view n 0 v.items bs e) in
    let z : i ≡ i + 0 = omega arith in
    let r : x % 2 ≡ x = omega arith in
    let o : nat_eq (word_bit ws i) 1 ≡ b = ap (λ k. nat_eq k 1) (ap (λ k. word_bit ws k) z ∙ each 0 (omega arith) ∙ bit_at_lowest x ∙ r) ∙ t in
    ap (λ xs. flags n 0 xs) (items-with_items v ws w)
    ∙ bit_written n i b ws us a before o after
    ∙ ap (λ xs. set xs i b) g

-- all the bits after some were added at the end
pub run_pushed : (v : SmallVec ℕ) (n len : ℕ) (us ws old : List ℕ) (bs new : List Bool) → us ≡ v.items → ((i : ℕ) → word_bit v.items i ≡ word_bit old i) → flags n 0 old ≡ bs
    → length ws ≡ length us → ((i : ℕ) → i < n → word_bit ws i ≡ word_bit us i) → flags len n ws ≡ new → flags (n + len) 0 (with_items v ws).items ≡ bs ++ new
run_pushed v n len us ws old bs new s same e l before is =
    let k : length ws ≡ small_vec_len v = l ∙ ap length s in
    let z : 0 + n ≡ n = omega arith in
    let a : flags n 0 ws ≡ bs = flags-same n 0 0 ws old (λ j b. before (0 + j) (omega arith) ∙ ap (λ xs. word_bit xs (0 + j)) s ∙ same (0 + j)) ∙ e in
    ap (λ xs. flags (n + len) 0 xs) (items-with_items v ws k)
    ∙ flags-add n len 0 ws
    ∙ rw (z, a, is) refl

-- a truth value as a number
pub flag-lt : (b : Bool) → bool_byte b < 2
flag-lt true = omega arith
flag-lt false = omega arith

pub flag_is : (b : Bool) → nat_eq (bool_byte b) 1 ≡ b
flag_is true = refl
flag_is false = refl

-- one bit, read as a number
pub bit_got : (n i x : ℕ) (ws us : List ℕ) (bs : List Bool) → ws ≡ us → flags n 0 us ≡ bs → i < length bs → x < 2 → ((j : ℕ) → j < 1 → bit_at x j ≡ word_bit ws (i + j))
    → slice_get bs i ≡ Some (nat_eq x 1)
bit_got n i x ws us bs s e h q each =
    let g : bs ≡ flags n 0 ws = sym e ∙ ap (λ xs. flags n 0 xs) (sym s) in
    let a : i < n = omega (arith, length_view n 0 us bs e) in
    let z : 0 + i ≡ i + 0 = omega arith in
    let r : x % 2 ≡ x = omega arith in
    let o : word_bit ws (0 + i) ≡ x = ap (λ k. word_bit ws k) z ∙ sym (each 0 (omega arith)) ∙ bit_at_lowest x ∙ r in
    ap (λ xs. slice_get xs i) g ∙ slice_get-flags n 0 i ws a ∙ ap (λ k. Some (nat_eq k 1)) o

-- a part of the bits is a run of the words
pub part_run : (n lo len : ℕ) (ws us : List ℕ) (bs : List Bool) → ws ≡ us → flags n 0 us ≡ bs → lo + len ≤ length bs → bits_within lo len bs ≡ flags len lo ws
part_run n lo len ws us bs s e h =
    let a : lo + len ≤ n = omega (arith, length_view n 0 us bs e) in
    ap (λ xs. bits_within lo len xs) (sym e) ∙ bits_within-flags n lo len us a ∙ ap (λ xs. flags len lo xs) (sym s)

pub packed_zeros : (n k : ℕ) → n < 2 ^ 32 → k ≡ (n + 63) / 64 → IsPacked n (replicate k 0)
packed_zeros n k h e = record {
  narrow = h;
  sized = length-replicate k 0 ∙ e;
  clear = λ i b. word_bit-zeros k i;
}

-- for callers: a write of a part keeps the length
pub length-bits_with : (lo : ℕ) (new bs : List Bool) → lo + length new ≤ length bs → length (bits_with lo new bs) ≡ length bs
length-bits_with lo new bs h = omega (arith, length-append (take lo bs ++ new) (drop (lo + length new) bs), length-append (take lo bs) new, length-take lo bs, length-drop (lo + length new) bs)

pub length-bits_within : (lo len : ℕ) (bs : List Bool) → lo + len ≤ length bs → length (bits_within lo len bs) ≡ len
length-bits_within lo len bs h = omega (arith, length-take len (drop lo bs), length-drop lo bs)

-- a part that is put into as many zeros
pub part_alone : (at len : ℕ) (bs zeros new : List Bool) → at + len ≤ length bs → zeros ≡ replicate len false → new ≡ bits_with 0 (bits_within at len bs) zeros → new ≡ bits_within at len bs
part_alone at len bs zeros new h z e =
    let l : length (bits_within at len bs) ≡ len = length-bits_within at len bs h in
    let n : length zeros ≤ 0 + length (bits_within at len bs) = omega (arith, ap length z, length-replicate len false) in
    e ∙ ap (λ xs. bits_within at len bs ++ xs) (drop_of_length-le zeros n) ∙ append-nil (bits_within at len bs)
