-- The laws of bits, values and parts.
use Rattle.std.proofs.Common.{◌≡◌, ℕ, ◌+◌, ◌-◌, ◌≤◌, Bool, List, [], ◌∷◌, ◌++◌, length, take, drop, Option, Some, None, refl, ap, sym, ◌∙◌, subst, append_assoc, arith}
use Rattle.std.specs.Option.{option_map, option_and_then}
use Rattle.std.proofs.lemmas.List.{length-append, length-drop, take-append-drop, take_all, take-take, drop-take, drop-drop, drop_all, append-nil, length-take-le}
use Rattle.std.proofs.lemmas.Option.{same_Some, none-some}
use Rattle.lh_types.specs.Types.{TypeTree, IsData, bit_count}
use Rattle.lh_types.specs.Fits.{FitsType}
use Rattle.lh_types.specs.Bits.{value_bits}
use Rattle.lh_types.specs.Parts.{Part, part_beyond, step_part, part_of, part_by, with_part, part_along, with_part_along, bits_within, bits_with}
use Rattle.lh_bits.specs.Laws.{BitsAreCounted, BitsGiveValue, ValueGivesBits, PartOfPart, PartsAreWithin, BitsOfPart, BitsWithPart}
use Rattle.lh_types.specs.declared.part.Step.{Step}
use Rattle.lh_types.proofs.PartLemmas.{step_part-within, part_beyond-twice, part_beyond-zero, part_beyond-holds}
use Rattle.lh_bits.proofs.PartBits.{part_by-IsPart, with_part-IsWith, bits_with-mid}
use Rattle.lh_bits.proofs.ValueBits.{length-value_bits, value_from_bits-value_bits, value_bits-value_from_bits, FitsType-value_from_bits}

pub bits_are_counted : BitsAreCounted
bits_are_counted v t h = length-value_bits v t h

pub bits_give_value : BitsGiveValue
bits_give_value v t d h = value_from_bits-value_bits v t d h

pub value_gives_bits : ValueGivesBits
value_gives_bits t bs d h = (FitsType-value_from_bits t d bs h, value_bits-value_from_bits t d bs h)

shifted : (rs : List Step) (n : ℕ) (o : Option Part) → option_map (part_beyond n) (option_and_then (λ q. option_map (part_beyond q.lo) (part_of q.of rs)) o)
    ≡ option_and_then (λ q. option_map (part_beyond q.lo) (part_of q.of rs)) (option_map (part_beyond n) o)
shifted rs n None = refl
shifted rs n (Some q) = part_beyond-twice n q.lo (part_of q.of rs)

first_step : (ss rs : List Step) (o : Option Part) → ((t : TypeTree) → part_of t (ss ++ rs) ≡ option_and_then (λ p. option_map (part_beyond p.lo) (part_of p.of rs)) (part_of t ss))
    → option_and_then (λ p. option_map (part_beyond p.lo) (part_of p.of (ss ++ rs))) o
    ≡ option_and_then (λ q. option_map (part_beyond q.lo) (part_of q.of rs)) (option_and_then (λ p. option_map (part_beyond p.lo) (part_of p.of ss)) o)
first_step ss rs None later = refl
first_step ss rs (Some p) later = ap (option_map (part_beyond p.lo)) (later p.of) ∙ shifted rs p.lo (part_of p.of ss)

part_of-append : (ss rs : List Step) (t : TypeTree) → part_of t (ss ++ rs) ≡ option_and_then (λ p. option_map (part_beyond p.lo) (part_of p.of rs)) (part_of t ss)
part_of-append [] rs t = sym (part_beyond-zero (part_of t rs))
part_of-append (s ∷ ss) rs t = first_step ss rs (step_part t s) (part_of-append ss rs)

pub part_of_part : PartOfPart
part_of_part t ss rs = part_of-append ss rs t

-- what holds of the part that steps lead to: there is the part of the first step, and within it that of the others
steps-holds : (P : Part → Type 0) (t : TypeTree) (s : Step) (ss : List Step) (p : Part) → part_of t (s ∷ ss) ≡ Some p
    → ((q r : Part) → step_part t s ≡ Some q → part_of q.of ss ≡ Some r → P (part_beyond q.lo r)) → P p
steps-holds P t s ss p e h = at (step_part t s) refl e
  where
    at : (o : Option Part) → step_part t s ≡ o → option_and_then (λ q. option_map (part_beyond q.lo) (part_of q.of ss)) o ≡ Some p → P p
    at None f g = absurd (none-some _ g)
    at (Some q) f g = part_beyond-holds P q.lo (part_of q.of ss) p g (λ r k. h q r f k)

pub parts_are_within : PartsAreWithin
parts_are_within t [] p d e = let same = same_Some _ _ e in (subst (λ q. IsData q.of) same d, subst (λ q. q.lo + bit_count q.of ≤ bit_count t) same (omega arith))
parts_are_within t (s ∷ ss) p d e =
    steps-holds (λ q. IsData q.of × (q.lo + bit_count q.of ≤ bit_count t)) t s ss p e (λ q r f k.
    let w = step_part-within t s q d f in
    let i = parts_are_within q.of ss r w.is_data k in
    (i.0, omega (arith, i.1, w.inside)))

-- bits within bits, and bits replaced within bits
bits_within-twice : (lo len at n : ℕ) (bs : List Bool) → at + n ≤ len → bits_within at n (bits_within lo len bs) ≡ bits_within (lo + at) n bs
bits_within-twice lo len at n bs h =
    let e : len ≡ at + (len - at) = omega arith in
    ap (λ m. take n (drop at (take m (drop lo bs)))) e ∙ ap (take n) (drop-take at (len - at) (drop lo bs)) ∙ take-take n (len - at) (drop at (drop lo bs)) (omega arith)
    ∙ ap (take n) (drop-drop at lo bs)

three : (lo len : ℕ) (bs : List Bool) → bs ≡ take lo bs ++ (bits_within lo len bs ++ drop (lo + len) bs)
three lo len bs = sym (take-append-drop lo bs) ∙ ap (λ xs. take lo bs ++ xs) (sym (take-append-drop len (drop lo bs)) ∙ ap (λ xs. bits_within lo len bs ++ xs) (drop-drop len lo bs))

bits_with-twice : (lo len at : ℕ) (new bs : List Bool) → lo + len ≤ length bs → at + length new ≤ len → bits_with lo (bits_with at new (bits_within lo len bs)) bs ≡ bits_with (lo + at) new bs
bits_with-twice lo len at new bs h k =
    let lengthA : length (take lo bs) ≡ lo = length-take-le lo bs (omega arith) in
    let length_mid : length (bits_within lo len bs) ≡ len = length-take-le len (drop lo bs) (omega (arith, length-drop lo bs)) in
    let lengthP : length (take at (bits_within lo len bs)) ≡ at = length-take-le at (bits_within lo len bs) (omega arith) in
    let lengthQ : length (bits_within at (length new) (bits_within lo len bs)) ≡ length new =
    length-take-le (length new) (drop at (bits_within lo len bs)) (omega (arith, length-drop at (bits_within lo len bs))) in
    let inner : length (bits_with at new (bits_within lo len bs)) ≡ length (bits_within lo len bs) =
    omega (
      arith,
      length-append (take at (bits_within lo len bs) ++ new) (drop (at + length new) (bits_within lo len bs)),
      length-append (take at (bits_within lo len bs)) new,
      length-drop (at + length new) (bits_within lo len bs),
    ) in
    let left : bits_with lo (bits_with at new (bits_within lo len bs)) bs ≡ take lo bs ++ (bits_with at new (bits_within lo len bs) ++ drop (lo + len) bs) =
    ap (bits_with lo (bits_with at new (bits_within lo len bs))) (three lo len bs)
    ∙ bits_with-mid (take lo bs) (bits_within lo len bs) (drop (lo + len) bs) (bits_with at new (bits_within lo len bs)) lo lengthA inner in
    let whole : bs ≡ (take lo bs ++ take at (bits_within lo len bs))
    ++ (bits_within at (length new) (bits_within lo len bs) ++ (drop (at + length new) (bits_within lo len bs) ++ drop (lo + len) bs)) =
    three lo len bs ∙ ap (λ xs. take lo bs ++ (xs ++ drop (lo + len) bs)) (three at (length new) (bits_within lo len bs)) ∙ simp append_assoc in
    let right : bits_with (lo + at) new bs ≡ (take lo bs ++ take at (bits_within lo len bs)) ++ (new ++ (drop (at + length new) (bits_within lo len bs) ++ drop (lo + len) bs)) =
    ap (bits_with (lo + at) new) whole ∙ bits_with-mid _ _ _ new (lo + at) (omega (arith, length-append (take lo bs) (take at (bits_within lo len bs)), lengthA, lengthP)) (sym lengthQ) in
    let joined : (take lo bs ++ take at (bits_within lo len bs)) ++ (new ++ (drop (at + length new) (bits_within lo len bs) ++ drop (lo + len) bs)) ≡ take lo bs
    ++ (bits_with at new (bits_within lo len bs) ++ drop (lo + len) bs) = simp append_assoc in
    left ∙ sym joined ∙ sym right

pub bits_of_part : BitsOfPart
bits_of_part v t [] p d h e =
    let same = same_Some _ _ e in
    let all : bits_within 0 (bit_count t) (value_bits v) ≡ value_bits v = take_all (bit_count t) (value_bits v) (omega (arith, length-value_bits v t h)) in
    (subst (λ q. FitsType v q.of) same h, subst (λ q. value_bits v ≡ bits_within q.lo (bit_count q.of) (value_bits v)) same (sym all))
bits_of_part v t (s ∷ ss) p d h e =
    steps-holds (λ q. FitsType (part_along (part_by v s) ss) q.of × (value_bits (part_along (part_by v s) ss) ≡ bits_within q.lo (bit_count q.of) (value_bits v))) t s ss p e (λ q r f k.
    let w = step_part-within t s q d f in
    let one = part_by-IsPart v t s q h f in
    let i = bits_of_part (part_by v s) q.of ss r w.is_data one.fits k in
    let inside = parts_are_within q.of ss r w.is_data k in
    (i.0, i.1 ∙ ap (bits_within r.lo (bit_count r.of)) one.bits ∙ bits_within-twice q.lo (bit_count q.of) r.lo (bit_count r.of) (value_bits v) inside.1))

bits_with-all : (new bs : List Bool) → length new ≡ length bs → new ≡ bits_with 0 new bs
bits_with-all new bs h = sym (ap (λ xs. new ++ xs) (drop_all (0 + length new) bs (omega arith)) ∙ append-nil new)

pub bits_with_part : BitsWithPart
bits_with_part v w t [] p d h e f =
    subst (λ q. FitsType w q.of → FitsType w t × (value_bits w ≡ bits_with q.lo (value_bits w) (value_bits v))) (same_Some _ _ e)
    (λ g. (g, bits_with-all (value_bits w) (value_bits v) (length-value_bits w t g ∙ sym (length-value_bits v t h)))) f
bits_with_part v w t (s ∷ ss) p d h e f =
    steps-holds (λ q. FitsType w q.of → FitsType (with_part v s (with_part_along (part_by v s) ss w)) t
    × (value_bits (with_part v s (with_part_along (part_by v s) ss w)) ≡ bits_with q.lo (value_bits w) (value_bits v))) t s ss p e (λ q r g k i.
    let within = step_part-within t s q d g in
    let one = part_by-IsPart v t s q h g in
    let inner = bits_with_part (part_by v s) w q.of ss r within.is_data one.fits k i in
    let outer = with_part-IsWith v t s q (with_part_along (part_by v s) ss w) h g inner.0 in
    let inside = parts_are_within q.of ss r within.is_data k in
    let whole : q.lo + bit_count q.of ≤ length (value_bits v) = omega (arith, within.inside, length-value_bits v t h) in
    let part : r.lo + length (value_bits w) ≤ bit_count q.of = omega (arith, inside.1, length-value_bits w r.of i) in (
      outer.fits,
      outer.bits ∙ ap (λ xs. bits_with q.lo xs (value_bits v)) (inner.1 ∙ ap (bits_with r.lo (value_bits w)) one.bits)
          ∙ bits_with-twice q.lo (bit_count q.of) r.lo (value_bits w) (value_bits v) whole part,
    )) f
