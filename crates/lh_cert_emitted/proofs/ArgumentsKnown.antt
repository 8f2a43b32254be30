-- The arguments of an entity are known before its first line, and no other name is.
use Rattle.std.proofs.Common.{◌≡◌, ℕ, zero, suc, ◌+◌, Bool, false, if◌then◌else◌, List, [], ◌∷◌, Option, Some, None, slice_get, refl, ap, ◌∙◌, subst, arith}
use Rattle.std.specs.Option.{option_map}
use Rattle.std.proofs.lemmas.Bool.{or_parts}
use Rattle.lh_types.specs.Types.{TypeTree, signal_type}
use Rattle.lh_unit_names.specs.Names.{same_name}
use Rattle.lh_unit_names.proofs.NameLists.{same_name-refl}
use Rattle.lh_unit.specs.Contents.{ArgText, args_define}
use Rattle.lh_unit.specs.Typing.{carried}
use Rattle.lh_term.specs.Parts.{whole_argument}
use Rattle.lh_region_def.specs.Known.{Known, known_part, Knowledge, with_given, with_arguments}
use Rattle.lh_emit_def.proofs.Arguments.{AreApart}

given-other : (k : Knowledge) (m n : List ℕ) (x : Option Known) → same_name m n ≡ false → with_given k (Some m) x n ≡ k n
given-other k m n None h = refl
given-other k m n (Some x) h = ap (λ b. if b then Some x else k n) h

pub other-known : (n : List ℕ) (xs : List ArgText) (k : Knowledge) (i : ℕ) → args_define n xs ≡ false → with_arguments k i xs n ≡ k n
other-known n [] k i h = refl
other-known n (a ∷ more) k i h =
    let x : Option Known = option_map (λ t. known_part (whole_argument i t)) (carried a.ty) in
    let o = or_parts (same_name a.name n) (args_define n more) h in
    other-known n more (with_given k (Some a.name) x) (i + 1) o.1 ∙ given-other k a.name n x o.0

first-known : (k : Knowledge) (n : List ℕ) (i : ℕ) (ty : TypeTree) (t : TypeTree) → ty ≡ signal_type t →
    with_given k (Some n) (option_map (λ t. known_part (whole_argument i t)) (carried ty)) n ≡ Some (known_part (whole_argument i t))
first-known k n i ty t e =
    ap (λ z. with_given k (Some n) (option_map (λ t. known_part (whole_argument i t)) (carried z)) n) e
    ∙ ap (λ b. if b then Some (known_part (whole_argument i t)) else k n) (same_name-refl n)

pub argument-known : (xs : List ArgText) (kn : Knowledge) (i k : ℕ) (a : ArgText) (t : TypeTree) → AreApart xs → slice_get xs k ≡ Some a → a.ty ≡ signal_type t →
    with_arguments kn i xs a.name ≡ Some (known_part (whole_argument (i + k) t))
argument-known [] kn i zero a t w p s = absurd cc
argument-known [] kn i (suc k) a t w p s = absurd cc
argument-known (x ∷ xs) kn i zero a t w p s =
    let f : x ≡ a = cc in
    let g : x.ty ≡ signal_type t = ap (λ (z : ArgText). z.ty) f ∙ s in
    let j : i ≡ i + 0 = omega arith in
    let y : Option Known = option_map (λ t. known_part (whole_argument i t)) (carried x.ty) in
    subst (λ (z : ArgText). with_arguments kn i (x ∷ xs) z.name ≡ Some (known_part (whole_argument (i + 0) t))) f
    (other-known x.name xs (with_given kn (Some x.name) y) (i + 1) w.0 ∙ first-known kn x.name i x.ty t g ∙ ap (λ m. Some (known_part (whole_argument m t))) j)
argument-known (x ∷ xs) kn i (suc k) a t w p s =
    let j : i + 1 + k ≡ i + suc k = omega arith in
    let y : Option Known = option_map (λ t. known_part (whole_argument i t)) (carried x.ty) in
    argument-known xs (with_given kn (Some x.name) y) (i + 1) k a t w.1 p s ∙ ap (λ m. Some (known_part (whole_argument m t))) j
