-- The value of the bits of a part, and the part of a signal.
use Rattle.std.proofs.Common.{◌≡◌, ℕ, ◌+◌, ◌≤◌, Bool, List, [], ◌∷◌, length, take, drop, get_or, Option, Some, None, refl, ap, sym, ◌∙◌, subst, arith}
use Rattle.std.specs.Option.{option_and_then, option_map}
use Rattle.std.proofs.lemmas.List.{length-drop}
use Rattle.lh_types.specs.Types.{TypeTree, signal_type, IsData, bit_count}
use Rattle.lh_types.specs.Bits.{value_from_bits}
use Rattle.lh_types.specs.Parts.{Part, part_of, part_range, range_of}
use Rattle.lh_types.specs.declared.op.Op.{Op}
use Rattle.lh_types.specs.declared.part.Step.{Step}
use Rattle.lh_types.specs.declared.part.Range.{Range}
use Rattle.lh_bits.proofs.LawProofs.{bits_give_value, value_gives_bits, parts_are_within}
use Rattle.lh_unit.specs.Contents.{OperandText, UnitText}
use Rattle.lh_types.specs.Values.{Datum}
use Rattle.lh_types.specs.Apply.{apply}
use Rattle.lh_unit.specs.Typing.{carried, or_else}
use Rattle.lh_unit.specs.Held.{datum_held, Env, bits_in, data_at, part_at}
use Rattle.lh_unit.specs.Effects.{operated, signal_part, stepped, probed, read_bits}

-- the bits of a part are those from its lowest on, as far as its type has them
pub read-is : (t : TypeTree) (r : Range) (now : List Bool) → IsData t → r.len ≡ bit_count t → r.lo + r.len ≤ length now → value_from_bits t (drop r.lo now) ≡ value_from_bits t (bits_in now r)
read-is t r now d e h =
    let enough : bit_count t ≤ length (drop r.lo now) = omega (arith, length-drop r.lo now, e, h) in
    let g = value_gives_bits t (drop r.lo now) d enough in
    sym (bits_give_value (value_from_bits t (drop r.lo now)) t d g.0) ∙ ap (value_from_bits t) (g.1 ∙ ap (λ (n : ℕ). take n (drop r.lo now)) (sym e))

-- a range that steps lead to lies within the whole
pub range-within : (t : TypeTree) (ss : List Step) (r : Range) → IsData t → Some r ≡ range_of t ss → r.lo + r.len ≤ bit_count t
range-within t ss r d e = by (part_of t ss) refl e
  where
    by : (o : Option Part) → part_of t ss ≡ o → Some r ≡ option_map part_range o → r.lo + r.len ≤ bit_count t
    by None p q = absurd cc
    by (Some x) p q = let s : r ≡ part_range x = cc in subst (λ (y : Range). y.lo + y.len ≤ bit_count t) (sym s) (parts_are_within t ss x d p).1

-- `extf` and `exts` have one operand
pub not-one : (u : UnitText) (e : Env) (o : Op) (os : List OperandText) → (length os ≡ 1 → ⊥) → None ≡ signal_part u e o os
not-one u e o [] h = refl
not-one u e o (x ∷ []) h = absurd (h refl)
not-one u e o (x ∷ y ∷ more) h = refl

pub one-item : {X : Type 0} (xs : List X) (x : X) → length xs ≡ 1 → x ≡ get_or xs 0 x → xs ≡ x ∷ []
one-item [] x h e = absurd (omega arith)
one-item (y ∷ []) x h e = ap (λ z. z ∷ []) (sym e)
one-item (y ∷ z ∷ more) x h e = absurd (omega arith)

pub carried-some : (o : Option TypeTree) (t : TypeTree) → option_and_then carried o ≡ Some t → o ≡ Some (signal_type t)
carried-some None t e = cc
carried-some (Some (signal_type s)) t e = let p : s ≡ t = cc in ap (λ x. Some (signal_type x)) p
carried-some (Some _) t e = cc

pub no-step : (x : Option TypeTree) (y : Option Range) → None ≡ stepped x y None
no-step None y = refl
no-step (Some (signal_type t)) None = refl
no-step (Some (signal_type t)) (Some r) = refl
no-step (Some _) y = refl

pub no-part : (x : Option TypeTree) (s : Option Step) → None ≡ stepped x None s
no-part None s = refl
no-part (Some (signal_type t)) s = refl
no-part (Some _) s = refl

pub no-signal : (x : Option TypeTree) (y : Option Range) (s : Option Step) → option_and_then carried x ≡ None → None ≡ stepped x y s
no-signal None y s e = refl
no-signal (Some (signal_type t)) y s e = absurd cc
no-signal (Some _) y s e = refl

-- an operation of values, and one of a signal
pub of-values : (u : UnitText) (e : Env) (o : Op) (os : List OperandText) (ds : List Datum) → data_at e os ≡ Some ds → operated u e o os ≡ Some (datum_held (apply o ds))
of-values u e o os ds p = ap (λ (x : Option (List Datum)). or_else (option_map (λ (vs : List Datum). datum_held (apply o vs)) x) (signal_part u e o os)) p

pub of-signal : (u : UnitText) (e : Env) (o : Op) (os : List OperandText) → data_at e os ≡ None → operated u e o os ≡ signal_part u e o os
of-signal u e o os p = ap (λ (x : Option (List Datum)). or_else (option_map (λ (vs : List Datum). datum_held (apply o vs)) x) (signal_part u e o os)) p

-- what an operation gives of values, where each operand holds one
pub of-applied : (u : UnitText) (e : Env) (o : Op) (os : List OperandText) (z : Option (List Datum)) (d : Datum) → data_at e os ≡ z → Some d ≡ option_map (apply o) z
    → operated u e o os ≡ Some (datum_held d)
of-applied u e o os None d p q = cc
of-applied u e o os (Some ds) d p q = let r : apply o ds ≡ d = cc in of-values u e o os ds p ∙ ap (λ (x : Datum). Some (datum_held x)) r

pub of-not_applied : (u : UnitText) (e : Env) (o : Op) (os : List OperandText) (z : Option (List Datum)) → data_at e os ≡ z → None ≡ option_map (apply o) z → operated u e o os ≡ signal_part u e o os
of-not_applied u e o os None p q = of-signal u e o os p
of-not_applied u e o os (Some ds) p q = cc

-- a probe of a part
pub probe-is : (now : List Bool) (e : Env) (s : OperandText) (r : Range) (t : TypeTree) (d : Datum) → Some t ≡ option_and_then carried s.ty → Some r ≡ part_at e s.value → IsData t
    → (r.len ≡ bit_count t) × (r.lo + r.len ≤ length now) → d ≡ value_from_bits t (drop r.lo now) → Some (datum_held d) ≡ probed now e s
probe-is now e s r t d p q x f g =
    let same : Some (datum_held d) ≡ read_bits now (Some t) (Some r) = ap (λ (v : Datum). Some (datum_held v)) (g ∙ read-is t r now x f.0 f.1) in
    let there : read_bits now (Some t) (Some r) ≡ read_bits now (option_and_then carried s.ty) (part_at e s.value) = λ i. read_bits now (p i) (q i) in
    same ∙ there
