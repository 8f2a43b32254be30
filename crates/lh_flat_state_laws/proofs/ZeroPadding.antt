-- Zeros behind the bits change nothing.
use Rattle.std.proofs.Common.{◌≡◌, ℕ, zero, suc, ◌+◌, ◌*◌, ◌≤◌, max, List, [], ◌∷◌, length, take, drop, replicate, Bool, true, false, Option, Some, None, refl, ap, sym, ◌∙◌, arith}
use Rattle.std.specs.Option.{option_and_then}
use Rattle.std.proofs.Math.Nat.{le-max_left, le-max_right}
use Rattle.std.proofs.lemmas.List.{length-append, length-replicate}
use Rattle.lh_time.specs.declared.Instant.{Instant}
use Rattle.lh_types.specs.Types.{TypeTree, TypeRow, int_type, time_type, void_type, array_type, tuple_type, signal_type, pointer_type, no_types, more_types, bit_count}
use Rattle.lh_types.specs.Values.{Datum, int_value, array_value, tuple_value, more_values}
use Rattle.lh_types.specs.Bits.{value_from_bits, row_from_bits, repeat_parts, bits_number}
use Rattle.lh_types.specs.declared.part.Range.{Range}
use Rattle.lh_unit.specs.Contents.{InstText, prb_text, LineText, ArgText, UnitText}
use Rattle.lh_unit.specs.Held.{datum_held, part_at, bits_in}
use Rattle.lh_unit.specs.Effects.{read_bits}
use Rattle.lh_unit.specs.Typing.{carried}
use Rattle.lh_unit.specs.Hierarchy.{lines_of, if_held}
use Rattle.lh_unit.specs.Activation.{Scene, Control, Point, Next, goes, ends, no_step, gives, executes, steps_by, step, went, run, control_at, start_point, activate}
use Rattle.lh_unit.specs.Pass.{Passed, passes, pass_from, pass}
use Rattle.lh_unit.specs.World.{bit_at}
use Rattle.lh_eval_laws.specs.Ranges.{RangesFit, arg_types}
use Rattle.lh_flat_state_laws.specs.Padding.{padded, with_zeros, PaddedBits, PaddedValues, PaddedParts, PaddedProbes, PaddedSteps, PaddedActivations, PaddedPasses, reach, HaveWidths, PaddedRanges}

-- ---- bits with zeros behind them

-- all of them are zeros
abbrev Zeros : List Bool → Type 0
Zeros [] = Unit {0}
Zeros (b ∷ bs) = (b ≡ false) × Zeros bs

-- the second are the first with zeros behind them
abbrev Longer : List Bool → List Bool → Type 0
Longer [] ys = Zeros ys
Longer (x ∷ xs) [] = ⊥
Longer (x ∷ xs) (y ∷ ys) = (x ≡ y) × Longer xs ys

zeros-are : (n : ℕ) → Zeros (replicate n false)
zeros-are zero = tt
zeros-are (suc n) = (refl, zeros-are n)

longer : (bs : List Bool) (n : ℕ) → Longer bs (padded bs n)
longer [] n = zeros-are n
longer (b ∷ bs) n = (refl, longer bs n)

zeros-take : (n : ℕ) (bs : List Bool) → Zeros bs → Zeros (take n bs)
zeros-take zero bs h = tt
zeros-take (suc n) [] h = tt
zeros-take (suc n) (b ∷ bs) h = (h.0, zeros-take n bs h.1)

zeros-drop : (n : ℕ) (bs : List Bool) → Zeros bs → Zeros (drop n bs)
zeros-drop zero bs h = h
zeros-drop (suc n) [] h = tt
zeros-drop (suc n) (b ∷ bs) h = zeros-drop n bs h.1

longer-take : (n : ℕ) (xs ys : List Bool) → Longer xs ys → Longer (take n xs) (take n ys)
longer-take zero xs ys h = tt
longer-take (suc n) [] ys h = zeros-take (suc n) ys h
longer-take (suc n) (x ∷ xs) [] h = absurd h
longer-take (suc n) (x ∷ xs) (y ∷ ys) h = (h.0, longer-take n xs ys h.1)

longer-drop : (n : ℕ) (xs ys : List Bool) → Longer xs ys → Longer (drop n xs) (drop n ys)
longer-drop zero xs ys h = h
longer-drop (suc n) [] ys h = zeros-drop (suc n) ys h
longer-drop (suc n) (x ∷ xs) [] h = absurd h
longer-drop (suc n) (x ∷ xs) (y ∷ ys) h = longer-drop n xs ys h.1

-- ---- their bits and values

zeros-number : (bs : List Bool) → Zeros bs → bits_number bs ≡ 0
zeros-number [] h = refl
zeros-number (true ∷ bs) h = absurd cc
zeros-number (false ∷ bs) h = omega (arith, zeros-number bs h.1)

same-number : (xs ys : List Bool) → Longer xs ys → bits_number xs ≡ bits_number ys
same-number [] ys h = sym (zeros-number ys h)
same-number (x ∷ xs) [] h = absurd h
same-number (true ∷ xs) (true ∷ ys) h = ap (λ n. 2 * n + 1) (same-number xs ys h.1)
same-number (true ∷ xs) (false ∷ ys) h = absurd cc
same-number (false ∷ xs) (true ∷ ys) h = absurd cc
same-number (false ∷ xs) (false ∷ ys) h = ap (λ n. 2 * n) (same-number xs ys h.1)

zeros-bit : (bs : List Bool) (k : ℕ) → Zeros bs → bit_at bs k ≡ false
zeros-bit [] k h = refl
zeros-bit (b ∷ bs) zero h = h.0
zeros-bit (b ∷ bs) (suc k) h = zeros-bit bs k h.1

same-bit : (xs ys : List Bool) (k : ℕ) → Longer xs ys → bit_at xs k ≡ bit_at ys k
same-bit [] ys k h = sym (zeros-bit ys k h)
same-bit (x ∷ xs) [] k h = absurd h
same-bit (x ∷ xs) (y ∷ ys) zero h = h.0
same-bit (x ∷ xs) (y ∷ ys) (suc k) h = same-bit xs ys k h.1

-- what reads bits alike reads parts alike
same-parts : (n : ℕ) (f : List Bool → Datum) (w : ℕ) → ((xs ys : List Bool) → Longer xs ys → f xs ≡ f ys) → (xs ys : List Bool) → Longer xs ys → repeat_parts n f w xs ≡ repeat_parts n f w ys
same-parts zero f w g xs ys h = refl
same-parts (suc n) f w g xs ys h =
    ap (λ d. more_values d (repeat_parts n f w (drop w xs))) (g (take w xs) (take w ys) (longer-take w xs ys h))
    ∙ ap (more_values (f (take w ys))) (same-parts n f w g (drop w xs) (drop w ys) (longer-drop w xs ys h))

mutual
  same-value : (t : TypeTree) (xs ys : List Bool) → Longer xs ys → value_from_bits t xs ≡ value_from_bits t ys
  same-value (int_type n) xs ys h = ap (int_value n) (same-number (take n xs) (take n ys) (longer-take n xs ys h))
  same-value (array_type n t) xs ys h = ap array_value (same-parts n (value_from_bits t) (bit_count t) (same-value t) xs ys h)
  same-value (tuple_type ts) xs ys h = ap tuple_value (same-row ts xs ys h)
  same-value time_type xs ys h = refl
  same-value void_type xs ys h = refl
  same-value (signal_type t) xs ys h = same-value t xs ys h
  same-value (pointer_type t) xs ys h = refl

  same-row : (ts : TypeRow) (xs ys : List Bool) → Longer xs ys → row_from_bits ts xs ≡ row_from_bits ts ys
  same-row no_types xs ys h = refl
  same-row (more_types t ts) xs ys h =
      ap (λ d. more_values d (row_from_bits ts (drop (bit_count t) xs))) (same-value t (take (bit_count t) xs) (take (bit_count t) ys) (longer-take (bit_count t) xs ys h)) ∙
      ap (more_values (value_from_bits t (take (bit_count t) ys))) (same-row ts (drop (bit_count t) xs) (drop (bit_count t) ys) (longer-drop (bit_count t) xs ys h))

pub padded_bits : PaddedBits
padded_bits bits n k = same-bit bits (padded bits n) k (longer bits n)

pub padded_values : PaddedValues
padded_values t bits n = same-value t bits (padded bits n) (longer bits n)

pub padded_parts : PaddedParts
padded_parts t now r n = same-value t (bits_in now r) (bits_in (padded now n) r) (longer-take r.len (drop r.lo now) (drop r.lo (padded now n)) (longer-drop r.lo now (padded now n) (longer now n)))

-- ---- what is done

pub padded_probes : PaddedProbes
padded_probes now e s n = by (option_and_then carried s.ty) (part_at e s.value)
  where
    by : (t : Option TypeTree) (r : Option Range) → read_bits now t r ≡ read_bits (padded now n) t r
    by None r = refl
    by (Some t) None = refl
    by (Some t) (Some r) = ap (λ d. Some (datum_held d)) (padded_parts t now r n)

module _ (s : Scene) (n : ℕ) where
  same-execution : (i : InstText) (r : Option (List ℕ)) (p : Point) → executes s i r p ≡ executes (with_zeros s n) i r p
  same-execution (prb_text a) r p = ap (gives p r) (padded_probes s.now p.control.held a n)
  same-execution _ r p = refl

  same-step : (p : Point) (ls : List LineText) → steps_by s p ls ≡ steps_by (with_zeros s n) p ls
  same-step p [] = refl
  same-step p (l ∷ rest) = same-execution l.inst l.result (record p { control = record p.control { rest = rest } })

  same-run : (k : ℕ) (p : Point) → run k s p ≡ run k (with_zeros s n) p
  same-run zero p = refl
  same-run (suc k) p = ap (λ x. went x (run k s)) (same-step p p.control.rest) ∙ by (step (with_zeros s n) p) (same-run k)
    where
      by : (x : Next) → ((q : Point) → run k s q ≡ run k (with_zeros s n) q) → went x (run k s) ≡ went x (run k (with_zeros s n))
      by (goes q) go = go q
      by (ends d) go = refl
      by no_step go = refl

pub padded_steps : PaddedSteps
padded_steps s n p = same-step s n p p.control.rest

pub padded_activations : PaddedActivations
unfolding activate
padded_activations bound s n u p = by (control_at u p)
  where
    by : (o : Option Control) → option_and_then (λ c. run bound s (start_point c)) o ≡ option_and_then (λ c. run bound (with_zeros s n) (start_point c)) o
    by None = refl
    by (Some c) = same-run s n bound (start_point c)

module _ (u : UnitText) (now : List Bool) (n : ℕ) (memory : Option (List Bool)) (t : Instant) where
  same-line : (i : InstText) (r : Option (List ℕ)) (p : Passed) → passes u now memory t i r p ≡ passes u (padded now n) memory t i r p
  same-line (prb_text a) r p = ap (λ h. record p { held = if_held p.held r h }) (padded_probes now p.held a n)
  same-line _ r p = refl

  same-lines : (ls : List LineText) (p : Passed) → pass_from u now memory t p ls ≡ pass_from u (padded now n) memory t p ls
  same-lines [] p = refl
  same-lines (l ∷ ls) p = ap (λ q. pass_from u now memory t q ls) (same-line l.inst l.result p) ∙ same-lines ls (passes u (padded now n) memory t l.inst l.result p)

pub padded_passes : PaddedPasses
unfolding pass
padded_passes u args sigs now n memory t = same-lines u now n memory t (lines_of u.blocks) _

-- ---- the arguments

fits-where : (args : List Range) (xs : List ArgText) (w : ℕ) → reach args ≤ w → HaveWidths args xs → RangesFit w args (arg_types xs)
fits-where [] [] w h e = tt
fits-where [] (x ∷ xs) w h e = absurd cc
fits-where (r ∷ rs) [] w h e = absurd cc
fits-where (r ∷ rs) (x ∷ xs) w h e =
    let first : r.lo + r.len ≤ max (r.lo + r.len) (reach rs) = le-max_left (r.lo + r.len) (reach rs) in
    let more : reach rs ≤ max (r.lo + r.len) (reach rs) = le-max_right (r.lo + r.len) (reach rs) in
    (cc, omega (arith, first, h), fits-where rs xs w (omega (arith, more, h)) cc)

pub widths_fit : (args : List Range) (xs : List ArgText) → HaveWidths args xs → RangesFit (reach args) args (arg_types xs)
widths_fit args xs e = fits-where args xs (reach args) (omega arith) e

pub padded_ranges : PaddedRanges
padded_ranges args xs now n e = fits-where args xs (length (padded now (reach args + n))) (omega (arith, length-append now (replicate (reach args + n) false), length-replicate (reach args + n) false))
    e
