-- No two names of an entity are one: those of the arguments, and then those of the results in order.
use Rattle.std.proofs.Common.{◌≡◌, ℕ, zero, suc, ◌+◌, ◌-◌, ◌<◌, ◌≤◌, Bool, true, false, nat_lt, List, [], ◌∷◌, ◌++◌, length, Option, Some, None, inl, inr, ◌⊎◌, refl, ap, sym, ◌∙◌, subst, arith, length-append, append_assoc, append-nil}
use Rattle.std.specs.Prelude.{slice_index_or}
use Rattle.std.specs.List.{flat_map}
use Rattle.std.proofs.Math.ListN.{get_or-append}
use Rattle.std.proofs.Math.Seq.{get_or-append_right}
use Rattle.std.proofs.lemmas.List.{map-append}
use Rattle.std.proofs.lemmas.Grind.{flat_map-append}
use Rattle.std.proofs.lemmas.Bool.{or_parts}
use Rattle.lh_unit.specs.Contents.{ArgText, LineText, args_define, is_result_name, lines_define}
use Rattle.lh_unit_names.specs.Names.{same_name}
use Rattle.lh_unit.specs.Reads.{args_repeat}
use Rattle.lh_unit_names.proofs.NameLists.{same_name-refl}
use Rattle.lh_text_laws.specs.Printable.{result_repeats, results_repeat}
use Rattle.lh_emit_body.specs.Lines.{arg_names, maybe_name, result_name}
use Rattle.lh_emit_shapes.specs.Bodies.{NamesDiffer}

-- the name is none of these
abbrev Lacks : List ℕ → List (List ℕ) → Type 0
Lacks n ns = (k : ℕ) → k < length ns → slice_index_or ns k [] ≡ n → ⊥

-- a place in two lists, one after the other
place-in : (k a b : ℕ) → k < a + b → (k < a) ⊎ ((a ≤ k) × (k - a < b))
place-in k a b h = by (nat_lt k a) refl
  where
    by : (t : Bool) → nat_lt k a ≡ t → (k < a) ⊎ ((a ≤ k) × (k - a < b))
    by true q = inl (grind (arith, q))
    by false q = let z : a ≤ k = grind (arith, q) in inr (z, omega (arith, z, h))

lacks-append : (n : List ℕ) (xs ys : List (List ℕ)) → Lacks n xs → Lacks n ys → Lacks n (xs ++ ys)
lacks-append n xs ys a b k w e = let l : length (xs ++ ys) ≡ length xs + length ys = length-append xs ys in by (place-in k (length xs) (length ys) (omega (arith, w, l)))
  where
    by : (k < length xs) ⊎ ((length xs ≤ k) × (k - length xs < length ys)) → ⊥
    by (inl h) = a k h (sym (get_or-append xs ys [] k h) ∙ e)
    by (inr h) = b (k - length xs) h.1 (sym (get_or-append_right xs ys k [] h.0) ∙ e)

lacks-one : (n m : List ℕ) → same_name m n ≡ false → Lacks n (m ∷ [])
lacks-one n m h zero w e = let z : true ≡ false = sym (same_name-refl n) ∙ sym (ap (λ x. same_name x n) e) ∙ h in absurd cc
lacks-one n m h (suc k) w e = omega (arith, w)

lacks-none : (n : List ℕ) → Lacks n []
lacks-none n k w e = omega (arith, w)

differ-push : (ns : List (List ℕ)) (n : List ℕ) → NamesDiffer ns → Lacks n ns → NamesDiffer (ns ++ n ∷ [])
differ-push ns n d a j k hj hk e =
    let l : length (ns ++ n ∷ []) ≡ length ns + 1 = length-append ns (n ∷ []) in
    by (place-in j (length ns) 1 (omega (arith, hj, l))) (place-in k (length ns) 1 (omega (arith, hk, l)))
  where
    last : (i : ℕ) → (length ns ≤ i) × (i - length ns < 1) → slice_index_or (ns ++ n ∷ []) i [] ≡ n
    last i h = get_or-append_right ns (n ∷ []) i [] h.0 ∙ ap (λ x. slice_index_or (n ∷ []) x []) (zero-at i h)
      where
        zero-at : (i : ℕ) → (length ns ≤ i) × (i - length ns < 1) → i - length ns ≡ 0
        zero-at i h = omega (arith, h.0, h.1)

    by : (j < length ns) ⊎ ((length ns ≤ j) × (j - length ns < 1)) → (k < length ns) ⊎ ((length ns ≤ k) × (k - length ns < 1)) → j ≡ k
    by (inl x) (inl y) = d j k x y (sym (get_or-append ns (n ∷ []) [] j x) ∙ e ∙ get_or-append ns (n ∷ []) [] k y)
    by (inl x) (inr y) = absurd (a j x (sym (get_or-append ns (n ∷ []) [] j x) ∙ e ∙ last k y))
    by (inr x) (inl y) = absurd (a k y (sym (get_or-append ns (n ∷ []) [] k y) ∙ sym e ∙ last j x))
    by (inr x) (inr y) = omega (arith, x.0, x.1, y.0, y.1)

-- ---- arguments

lacks-args : (n : List ℕ) (seen : List ArgText) → args_define n seen ≡ false → Lacks n (arg_names seen)
lacks-args n [] h = lacks-none n
lacks-args n (a ∷ more) h =
    let z = or_parts (same_name a.name n) (args_define n more) h in
    lacks-append n (a.name ∷ []) (arg_names more) (lacks-one n a.name z.0) (lacks-args n more z.1)

args-differ : (seen rest : List ArgText) → args_repeat seen rest ≡ false → NamesDiffer (arg_names seen) → NamesDiffer (arg_names (seen ++ rest))
args-differ seen [] h d = subst (λ (xs : List ArgText). NamesDiffer (arg_names xs)) (sym (append-nil seen)) d
args-differ seen (a ∷ more) h d =
    let z = or_parts (args_define a.name seen) (args_repeat (seen ++ a ∷ []) more) h in
    let one : NamesDiffer (arg_names (seen ++ a ∷ [])) = subst NamesDiffer (sym (map-append (λ (b : ArgText). b.name) seen (a ∷ [])))
    (differ-push (arg_names seen) a.name d (lacks-args a.name seen z.0)) in
    subst (λ (xs : List ArgText). NamesDiffer (arg_names xs)) (append_assoc seen (a ∷ []) more) (args-differ (seen ++ a ∷ []) more z.1 one)

-- ---- results

lacks-lines : (n : List ℕ) (seen : List LineText) → lines_define n seen ≡ false → Lacks n (flat_map result_name seen)
lacks-lines n [] h = lacks-none n
lacks-lines n (l ∷ more) h =
    let z = or_parts (is_result_name n l.result) (lines_define n more) h in
    by l.result z.0 (lacks-lines n more z.1)
  where
    by : (r : Option (List ℕ)) → is_result_name n r ≡ false → Lacks n (flat_map result_name more) → Lacks n (maybe_name r ++ flat_map result_name more)
    by None k rest = rest
    by (Some m) k rest = lacks-append n (m ∷ []) (flat_map result_name more) (lacks-one n m k) rest

results-differ : (args : List ArgText) (seen rest : List LineText) → results_repeat args seen rest ≡ false → NamesDiffer (arg_names args ++ flat_map result_name seen) →
    NamesDiffer (arg_names args ++ flat_map result_name (seen ++ rest))
results-differ args seen [] h d = subst (λ (xs : List LineText). NamesDiffer (arg_names args ++ flat_map result_name xs)) (sym (append-nil seen)) d
results-differ args seen (l ∷ more) h d =
    let z = or_parts (result_repeats args seen l.result) (results_repeat args (seen ++ l ∷ []) more) h in
    subst (λ (xs : List LineText). NamesDiffer (arg_names args ++ flat_map result_name xs)) (append_assoc seen (l ∷ []) more) (results-differ args (seen ++ l ∷ []) more z.1 (one z.0))
  where
    shape : flat_map result_name (seen ++ l ∷ []) ≡ flat_map result_name seen ++ maybe_name l.result
    shape = flat_map-append result_name seen (l ∷ []) ∙ ap (λ (xs : List (List ℕ)). flat_map result_name seen ++ xs) (append-nil (maybe_name l.result))

    by : (r : Option (List ℕ)) → result_repeats args seen r ≡ false → NamesDiffer (arg_names args ++ (flat_map result_name seen ++ maybe_name r))
    by None z = subst (λ (xs : List (List ℕ)). NamesDiffer (arg_names args ++ xs)) (sym (append-nil (flat_map result_name seen))) d
    by (Some n) z =
        let k = or_parts (args_define n args) (lines_define n seen) z in
        subst NamesDiffer (append_assoc (arg_names args) (flat_map result_name seen) (n ∷ []))
        (differ-push (arg_names args ++ flat_map result_name seen) n d (lacks-append n (arg_names args) (flat_map result_name seen) (lacks-args n args k.0) (lacks-lines n seen k.1)))

    one : result_repeats args seen l.result ≡ false → NamesDiffer (arg_names args ++ flat_map result_name (seen ++ l ∷ []))
    one z = subst (λ (xs : List (List ℕ)). NamesDiffer (arg_names args ++ xs)) (sym shape) (by l.result z)

-- the names of an entity
pub names-differ : (args : List ArgText) (lines : List LineText) → args_repeat [] args ≡ false → results_repeat args [] lines ≡ false → NamesDiffer (arg_names args ++ flat_map result_name lines)
names-differ args lines a r = results-differ args [] lines r (subst NamesDiffer (sym (append-nil (arg_names args))) (args-differ [] args a none))
  where
    none : NamesDiffer []
    none j k hj hk e = omega (arith, hj)
