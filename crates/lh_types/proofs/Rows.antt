-- Rows of types, walked by an index.
use Rattle.std.proofs.Common.{◌≡◌, ℕ, ◌+◌, ◌<◌, ◌≤◌, zero, suc, List, [], ◌∷◌, length, get_or, drop, max, ◌≢◌, ◌&&◌, true, false, refl, ap, sym, ◌∙◌, subst, add-one, drop-cons, arith}
use Rattle.lh_types.specs.Faults.{is_data, all_data}
use Rattle.lh_types.specs.Types.{TypeTree, more_types, row_of, node_count, node_count_row, AreData, IsData, bit_count, bit_count_row, depth_of, depth_of_row, same_type, same_row}

pub row_of-drop : (xs : List TypeTree) (i : ℕ) (d : TypeTree) → i < length xs → row_of (drop i xs) ≡ more_types (get_or xs i d) (row_of (drop (i + 1) xs))
row_of-drop xs i d h = rw (add-one, drop-cons xs i d) refl

pub node_count-get_or : (xs : List TypeTree) (i : ℕ) (d : TypeTree) → i < length xs → node_count (get_or xs i d) + 1 ≤ node_count_row (row_of xs)
node_count-get_or [] i d h = absurd (omega arith)
node_count-get_or (x ∷ xs) zero d h = omega arith
node_count-get_or (x ∷ xs) (suc i) d h = let k : i < length xs = omega arith in omega (arith, node_count-get_or xs i d k)

-- an element of a row is smaller than the row
pub part-node_count : (all xs : List TypeTree) (i : ℕ) (x : TypeTree) → xs ≡ all → i < length xs → x ≡ get_or xs i x → node_count x < node_count_row (row_of all)
part-node_count all xs i x r h e = let w : node_count (get_or xs i x) + 1 ≤ node_count_row (row_of xs) = node_count-get_or xs i x h in rw (sym r) (omega (arith, ap node_count e))

-- an element of a row of data types is a data type, and so is each that follows
pub AreData-split : (xs : List TypeTree) (i : ℕ) (x : TypeTree) → AreData (row_of (drop i xs)) → i < length xs → x ≡ get_or xs i x → IsData x × AreData (row_of (drop (i + 1) xs))
AreData-split xs i x r h e =
    let d : AreData (more_types (get_or xs i x) (row_of (drop (i + 1) xs))) = subst AreData (row_of-drop xs i x h) r in
    let P : TypeTree → Type 0 = IsData in
    (subst P (sym e) d.0, d.1)

-- the bits of what is left of a row are those of an element and of what follows
pub bit_count_row-drop : (xs : List TypeTree) (i : ℕ) (x : TypeTree) → i < length xs → x ≡ get_or xs i x → bit_count_row (row_of (drop i xs)) ≡ bit_count x + bit_count_row (row_of (drop (i + 1) xs))
bit_count_row-drop xs i x h e = omega (arith, ap bit_count e, ap bit_count_row (row_of-drop xs i x h))

-- the depth of what is left of a row is that of an element or of what follows
pub depth_of_row-drop : (xs : List TypeTree) (i : ℕ) (x : TypeTree) → i < length xs → x ≡ get_or xs i x → depth_of_row (row_of (drop i xs)) ≡ max (depth_of x) (depth_of_row (row_of (drop (i + 1) xs)))
depth_of_row-drop xs i x h e = omega (arith, ap depth_of e, ap depth_of_row (row_of-drop xs i x h))

-- a walk along a row of data types, at an index, with the bits of the types before it
pub record SumAt (all xs : List TypeTree) (i sum : ℕ) : Type 0 where
  pub whole : xs ≡ all
  pub rest : sum + bit_count_row (row_of (drop i xs)) ≡ bit_count_row (row_of all)
  pub data_left : AreData (row_of (drop i xs))

pub SumAt-next : (all xs : List TypeTree) (i sum : ℕ) (x : TypeTree) → SumAt all xs i sum → i < length xs → x ≡ get_or xs i x → SumAt all xs (i + 1) (sum + bit_count x)
SumAt-next all xs i sum x r h e = record {
  whole = r.whole;
  rest = omega (arith, r.rest, bit_count_row-drop xs i x h e);
  data_left = let d = AreData-split xs i x r.data_left h e in d.1;
}

pub SumAt-within : (all xs : List TypeTree) (i sum : ℕ) (x : TypeTree) → SumAt all xs i sum → i < length xs → x ≡ get_or xs i x → sum + bit_count x ≤ bit_count_row (row_of all)
SumAt-within all xs i sum x r h e = omega (arith, r.rest, bit_count_row-drop xs i x h e)

-- a walk along a row of data types, at an index, with the depth of the deepest before it
pub record DeepAt (all xs : List TypeTree) (i most : ℕ) : Type 0 where
  pub whole : xs ≡ all
  pub rest : max most (depth_of_row (row_of (drop i xs))) ≡ depth_of_row (row_of all)
  pub data_left : AreData (row_of (drop i xs))

-- a walk along a row, of which all before the index are data types
pub record DataAt (all xs : List TypeTree) (i : ℕ) : Type 0 where
  pub whole : xs ≡ all
  pub test : all_data (row_of all) ≡ all_data (row_of (drop i xs))
  pub all_passed : AreData (row_of (drop i xs)) → AreData (row_of all)

-- the test of what is left of a row, by its first element
pub all_data-drop : (xs : List TypeTree) (i : ℕ) (x : TypeTree) → i < length xs → x ≡ get_or xs i x → all_data (row_of (drop i xs)) ≡ is_data x && all_data (row_of (drop (i + 1) xs))
all_data-drop xs i x h e = ap all_data (row_of-drop xs i x h) ∙ ap (λ t. is_data t && all_data (row_of (drop (i + 1) xs))) (sym e)

-- two lists of one length that agree below an index
pub record SameFrom (xs ys ts us : List TypeTree) (i : ℕ) : Type 0 where
  pub first : ts ≡ xs
  pub second : us ≡ ys
  pub lengths : length ts ≡ length us
  pub rest : same_row (row_of xs) (row_of ys) ≡ same_row (row_of (drop i ts)) (row_of (drop i us))

pub same_row-lengths : (xs ys : List TypeTree) → length xs ≢ length ys → same_row (row_of xs) (row_of ys) ≡ false
same_row-lengths [] [] h = absurd (h refl)
same_row-lengths [] (y ∷ ys) h = refl
same_row-lengths (x ∷ xs) [] h = refl
same_row-lengths (x ∷ xs) (y ∷ ys) h = elim (same_type x y) as (λ b. b && same_row (row_of xs) (row_of ys) ≡ false) [ true ↦ same_row-lengths xs ys (λ e. h (omega (arith, e))) | false ↦ refl ]
