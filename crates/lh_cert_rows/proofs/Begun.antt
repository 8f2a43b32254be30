-- Where an entity begins: its arguments are known, and held where they are as wide as their types.
use Rattle.std.proofs.Common.{◌≡◌, ◌⊎◌, inl, inr, ℕ, ◌+◌, ◌≤◌, List, [], ◌∷◌, map, Option, Some, refl, ap, sym, ◌∙◌, subst, arith}
use Rattle.std.specs.Prelude.{slice_get}
use Rattle.std.proofs.lemmas.Option.{same_Some, none-some}
use Rattle.lh_types.specs.Types.{signal_type, bit_count}
use Rattle.lh_types.specs.declared.part.Range.{Range}
use Rattle.lh_unit.specs.Contents.{ArgText, UnitText, args_define}
use Rattle.lh_unit.specs.Held.{part_held, Env, nothing_held, with_args}
use Rattle.lh_unit.specs.Hierarchy.{lines_of, parts_of, with_parts, signal_names}
use Rattle.lh_eval_laws.specs.Ranges.{RangesFit, arg_types}
use Rattle.lh_term.specs.Mean.{Valuation, mean}
use Rattle.lh_term.specs.declared.part.Part.{Part}
use Rattle.lh_region_def.specs.Known.{Known, known_part, nothing_known, with_arguments, argument_part}
use Rattle.lh_region_def.specs.Means.{range_in, held_as}
use Rattle.lh_region_def.specs.Typed.{known_type, IsTypedKnown, KnowsTyped, of_argument}
use Rattle.lh_region_def.proofs.Heads.{arguments-case, arguments-known, argument-of}
use Rattle.lh_region_def.proofs.Start.{args-held}
use Rattle.lh_cert_rows.specs.Reading.{EntityText}
use Rattle.lh_cert_rows.specs.Laws.{IsHeld}
use Rattle.lh_cert_rows.proofs.EntityUnits.{EntityFine}
use Rattle.lh_cert_rows.proofs.LineRows.{KnownReads, ReadFine}

-- ---- ranges as wide as types lie within some bits

total : List Range → ℕ
total [] = 0
total (r ∷ rs) = (r.lo + r.len) + total rs

-- arguments have the widths of their types
abbrev pub HaveWidths : List Range → List ArgText → Type 0
HaveWidths args xs = map (λ (r : Range). r.len) args ≡ map (λ (a : ArgText). bit_count a.ty) xs

first-width : (m n : ℕ) (ms ns : List ℕ) → m ∷ ms ≡ n ∷ ns → m ≡ n
first-width m n ms ns e = cc

other-widths : (m n : ℕ) (ms ns : List ℕ) → m ∷ ms ≡ n ∷ ns → ms ≡ ns
other-widths m n ms ns e = cc

ranges-fit : (w : ℕ) (rs : List Range) (xs : List ArgText) → total rs ≤ w → HaveWidths rs xs → RangesFit w rs (arg_types xs)
unfolding total
ranges-fit w [] [] h e = tt
ranges-fit w [] (x ∷ xs) h e = absurd cc
ranges-fit w (r ∷ rs) [] h e = absurd cc
ranges-fit w (r ∷ rs) (x ∷ xs) h e =
    let a = first-width r.len (bit_count x.ty) (map (λ (r : Range). r.len) rs) (map (λ (a : ArgText). bit_count a.ty) xs) e in
    let b = other-widths r.len (bit_count x.ty) (map (λ (r : Range). r.len) rs) (map (λ (a : ArgText). bit_count a.ty) xs) e in
    (a, omega (arith, h), ranges-fit w rs xs (omega (arith, h)) b)

-- ---- what is known and held at the beginning

-- before the first line of an entity
abbrev pub begun_text : UnitText → EntityText
begun_text u = record { known = with_arguments nothing_known 0 u.args; probes = []; rows = [] }

with-none : (e : Env) (ns : List (Option (List ℕ))) → with_parts e ns [] ≡ e
with-none e [] = refl
with-none e (n ∷ ns) = refl

module _ (u : UnitText) (fine : EntityFine u) where
  -- an argument is known as a part
  record IsArgument (n : List ℕ) (x : Known) : Type 0 where
    part : Part
    is : x ≡ known_part part
    argument : argument_part n 0 u.args ≡ Some part

  argument-is : (n : List ℕ) (x : Known) → with_arguments nothing_known 0 u.args n ≡ Some x → IsArgument n x
  argument-is n x q = by (arguments-case [] nothing_known 0 u.args n x fine.new_args q)
    where
      by : (nothing_known n ≡ Some x) ⊎ ((p : Part) × (x ≡ known_part p) × (argument_part n 0 u.args ≡ Some p)) → IsArgument n x
      by (inl z) = absurd (none-some x z)
      by (inr z) = record { part = z.0; is = z.1; argument = z.2 }

  begun-typed : KnowsTyped u (with_arguments nothing_known 0 u.args)
  begun-typed n x ty q v =
      let a = argument-is n x q in
      let k = argument-of u n 0 u.args a.part fine.typed_args fine.ports a.argument in
      (subst (IsTypedKnown u n) (sym a.is) (k.0, of_argument n a.part a.argument), ap known_type a.is ∙ same_Some (signal_type a.part.ty) ty (sym k.1 ∙ v))

  pub begun-fine : ReadFine u (λ n. args_define n u.args) (begun_text u)
  begun-fine = record {
    typed = begun-typed;
    there = λ n d. arguments-known nothing_known 0 u.args n fine.ports d;
    known_reads = λ n x q. let a = argument-is n x q in subst (KnownReads (λ p. ⊥)) (sym a.is) tt;
    rows_typed = tt;
    rows_read = tt;
  }

  pub begun-held : (v : Valuation) (args : List Range) → HaveWidths args u.args → IsHeld v args (with_arguments nothing_known 0 u.args) (parts_of u args [])
  begun-held v args w n x q =
      let a = argument-is n x q in
      let fits : RangesFit (total args) args (arg_types u.args) = ranges-fit (total args) args u.args (omega arith) w in
      let same : (j : ℕ) → slice_get args j ≡ slice_get args (0 + j) = λ j. ap (slice_get args) (omega arith) in
      ap (λ (e : Env). e n) (with-none (with_args nothing_held u.args (map part_held args)) (signal_names (lines_of u.blocks)))
      ∙ args-held [] nothing_held 0 u.args args args (total args) n a.part fine.new_args fits fine.ports same a.argument
      ∙ ap (λ y. Some (held_as (mean v v) (range_in args) y)) (sym a.is)
