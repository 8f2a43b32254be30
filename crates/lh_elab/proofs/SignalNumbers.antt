-- Signals that come one after the other: their ranges, numbers and bits.
use Rattle.std.proofs.Common.{◌≡◌, ℕ, ◌+◌, List, [], ◌∷◌, ◌++◌, length, map, refl, ap, sym, ◌∙◌, arith}
use Rattle.std.proofs.lemmas.List.{append_assoc, length-append}
use Rattle.std.proofs.lemmas.List.Sums.{sum_by-cons}
use Rattle.lh_types.specs.Types.{bit_count}
use Rattle.lh_types.specs.declared.part.Range.{Range}
use Rattle.lh_unit.specs.Hierarchy.{SignalText}
use Rattle.lh_unit.specs.Design.{Signal, numbered, initial_bits, signal_ranges}
use Rattle.lh_unit.specs.Within.{Each}
use Rattle.lh_elab_plan.specs.declared.plan.PlanSignal.{PlanSignal}
use Rattle.lh_elab_plan.specs.Plans.{signal_of, SignalFits}
use Rattle.lh_elab.specs.Builds.{room_of}

pub room-cons : (s : SignalText) (ss : List SignalText) → room_of (s ∷ ss) ≡ bit_count s.ty + room_of ss
room-cons s ss = sum_by-cons (λ (x : SignalText). bit_count x.ty) s ss

pub room-append : (ss ts : List SignalText) → room_of (ss ++ ts) ≡ room_of ss + room_of ts
room-append [] ts = let e : 0 + room_of ts ≡ room_of ts = omega arith in sym e
room-append (s ∷ ss) ts = let e = room-append ss ts in let f = room-cons s (ss ++ ts) in let g = room-cons s ss in omega (arith, e, f, g)

same_lo : (n : ℕ) (s : SignalText) (i lo more : ℕ) (ss : List SignalText) → lo ≡ more → numbered i lo ss ≡ numbered i more ss
same_lo n s i lo more ss e = ap (λ k. numbered i k ss) e

pub numbered-append : (i lo : ℕ) (ss ts : List SignalText) → numbered i lo (ss ++ ts) ≡ numbered i lo ss ++ numbered i (lo + room_of ss) ts
numbered-append i lo [] ts = let e : lo ≡ lo + 0 = omega arith in ap (λ k. numbered i k ts) e
numbered-append i lo (s ∷ ss) ts =
    let e : (lo + bit_count s.ty) + room_of ss ≡ lo + room_of (s ∷ ss) = let f = room-cons s ss in omega (arith, f) in
    let x : Signal = record { instance = i; name = s.name; ty = s.ty; lo = lo } in
    ap (λ l. x ∷ l) (numbered-append i (lo + bit_count s.ty) ss ts ∙ ap (λ k. numbered i (lo + bit_count s.ty) ss ++ numbered i k ts) e)

pub ranges-append : (lo : ℕ) (ss ts : List SignalText) → signal_ranges lo (ss ++ ts) ≡ signal_ranges lo ss ++ signal_ranges (lo + room_of ss) ts
ranges-append lo [] ts = let e : lo ≡ lo + 0 = omega arith in ap (λ k. signal_ranges k ts) e
ranges-append lo (s ∷ ss) ts =
    let e : (lo + bit_count s.ty) + room_of ss ≡ lo + room_of (s ∷ ss) = let f = room-cons s ss in omega (arith, f) in
    let x : Range = record { lo = lo; len = bit_count s.ty } in
    ap (λ l. x ∷ l) (ranges-append (lo + bit_count s.ty) ss ts ∙ ap (λ k. signal_ranges (lo + bit_count s.ty) ss ++ signal_ranges k ts) e)

pub initial-append : (ss ts : List SignalText) → initial_bits (ss ++ ts) ≡ initial_bits ss ++ initial_bits ts
initial-append [] ts = refl
initial-append (s ∷ ss) ts = ap (λ l. s.initial ++ l) (initial-append ss ts) ∙ sym (append_assoc s.initial (initial_bits ss) (initial_bits ts))

pub initial-long : (ps : List PlanSignal) → Each SignalFits ps → length (initial_bits (map signal_of ps)) ≡ room_of (map signal_of ps)
initial-long [] f = refl
initial-long (p ∷ ps) f =
    let e = initial-long ps f.1 in
    let g = length-append p.initial (initial_bits (map signal_of ps)) in
    let h = room-cons (signal_of p) (map signal_of ps) in
    omega (arith, e, f.0.1, g, h)
