-- What is known, and where edges join, with the values that parts have before and now exchanged.
use Rattle.std.proofs.Common.{◌≡◌, ℕ, ◌+◌, List, [], ◌∷◌, map, filter, Bool, true, false, not, ◌&&◌, Option, Some, None, refl, ap, sym, ◌∙◌}
use Rattle.std.specs.Bool.{if◌then◌else◌}
use Rattle.std.specs.Option.{option_and_then, option_map}
use Rattle.std.specs.List.{list_any}
use Rattle.lh_types.specs.Types.{TypeTree}
use Rattle.lh_types.specs.declared.op.Op.TheVariants.{Or}
use Rattle.lh_unit.specs.Contents.{OperandText, EdgeText, ArgText, InstText, phi_text, LineText}
use Rattle.lh_unit_names.specs.Names.{same_name}
use Rattle.lh_unit.specs.Typing.{carried, or_else}
use Rattle.lh_unit.specs.Activation.{edge_from}
use Rattle.lh_unit.specs.Held.{front}
use Rattle.lh_term.specs.Tree.{Tree}
use Rattle.lh_term.specs.SameTree.{same_tree}
use Rattle.lh_term.specs.Make.{bit_of, make_operation, make_choice}
use Rattle.lh_term.specs.Conjuncts.{conjuncts_of, conjunction}
use Rattle.lh_term.specs.declared.part.Part.{Part}
use Rattle.lh_region_def.specs.Known.{Known, known_value, known_cell, known_part, Knowledge, with_given, as_value, as_cell, as_part, value_known, cell_known, part_known, values_known, parts_known, with_arguments}
use Rattle.lh_term.specs.Parts.{whole_argument}
use Rattle.lh_region_def.specs.Joins.{RegionEdge, or_any, any_taken, in_each, selector, chosen_from, merged, on_each, merged_by, first_one, joined, phi_on, with_phi, with_phis, known_at}
use Rattle.lh_region_laws.proofs.Trees.{turned, all_turned, make-turned, choice-turned, any-turned, conjuncts-turned, conjunction-turned, filter-turned}

abbrev pub known_turned : Known → Known
known_turned (known_value t) = known_value (turned t)
known_turned (known_cell t) = known_cell (turned t)
known_turned (known_part p) = known_part p

abbrev pub all_known_turned : Knowledge → Knowledge
all_known_turned k n = option_map known_turned (k n)

-- two are one where each name is known as the same
pub known-alike : (k j : Knowledge) → ((n : List ℕ) → k n ≡ j n) → k ≡ j
known-alike k j h = λ i n. h n i

-- ---- what is looked up

value-of : (o : Option Known) → option_and_then as_value (option_map known_turned o) ≡ option_map turned (option_and_then as_value o)
value-of None = refl
value-of (Some (known_value t)) = refl
value-of (Some (known_cell t)) = refl
value-of (Some (known_part p)) = refl

cell-of : (o : Option Known) → option_and_then as_cell (option_map known_turned o) ≡ option_map turned (option_and_then as_cell o)
cell-of None = refl
cell-of (Some (known_value t)) = refl
cell-of (Some (known_cell t)) = refl
cell-of (Some (known_part p)) = refl

part-of : (o : Option Known) → option_and_then as_part (option_map known_turned o) ≡ option_and_then as_part o
part-of None = refl
part-of (Some (known_value t)) = refl
part-of (Some (known_cell t)) = refl
part-of (Some (known_part p)) = refl

pub value-known-turned : (k : Knowledge) (n : List ℕ) → value_known (all_known_turned k) n ≡ option_map turned (value_known k n)
value-known-turned k n = value-of (k n)

pub cell-known-turned : (k : Knowledge) (n : List ℕ) → cell_known (all_known_turned k) n ≡ option_map turned (cell_known k n)
cell-known-turned k n = cell-of (k n)

pub part-known-turned : (k : Knowledge) (n : List ℕ) → part_known (all_known_turned k) n ≡ part_known k n
part-known-turned k n = part-of (k n)

front-turned : (x : Option Tree) (xs : Option (List Tree)) → front (option_map turned x) (option_map all_turned xs) ≡ option_map all_turned (front x xs)
front-turned None xs = refl
front-turned (Some x) None = refl
front-turned (Some x) (Some xs) = refl

pub values-known-turned : (k : Knowledge) (os : List OperandText) → values_known (all_known_turned k) os ≡ option_map all_turned (values_known k os)
values-known-turned k [] = refl
values-known-turned k (o ∷ os) =
    (λ i. front (value-known-turned k o.value i) (values-known-turned k os i))
    ∙ front-turned (value_known k o.value) (values_known k os)

pub parts-known-turned : (k : Knowledge) (ns : List (List ℕ)) → parts_known (all_known_turned k) ns ≡ parts_known k ns
parts-known-turned k [] = refl
parts-known-turned k (n ∷ ns) = λ i. front (part-known-turned k n i) (parts-known-turned k ns i)

-- ---- what is known besides

known-if : (b : Bool) (x : Known) (o : Option Known) → (if b then Some (known_turned x) else option_map known_turned o) ≡ option_map known_turned (if b then Some x else o)
known-if true x o = refl
known-if false x o = refl

pub given-turned : (k : Knowledge) (r : Option (List ℕ)) (x : Option Known) → with_given (all_known_turned k) r (option_map known_turned x) ≡ all_known_turned (with_given k r x)
given-turned k None x = refl
given-turned k (Some m) None = refl
given-turned k (Some m) (Some x) = known-alike _ _ (λ n. known-if (same_name m n) x (k n))

argument-turned : (i : ℕ) (o : Option TypeTree) → option_map known_turned (option_map (λ t. known_part (whole_argument i t)) o) ≡ option_map (λ t. known_part (whole_argument i t)) o
argument-turned i None = refl
argument-turned i (Some t) = refl

pub arguments-turned : (k : Knowledge) (i : ℕ) (xs : List ArgText) → all_known_turned (with_arguments k i xs) ≡ with_arguments (all_known_turned k) i xs
arguments-turned k i [] = refl
arguments-turned k i (a ∷ xs) =
    arguments-turned (with_given k (Some a.name) (option_map (λ t. known_part (whole_argument i t)) (carried a.ty))) (i + 1) xs
    ∙ ap (λ j. with_arguments j (i + 1) xs) (sym (given-turned k (Some a.name) (option_map (λ t. known_part (whole_argument i t)) (carried a.ty))))
    ∙ ap (λ o. with_arguments (with_given (all_known_turned k) (Some a.name) o) (i + 1) xs) (argument-turned i (carried a.ty))

-- ---- edges

abbrev pub edge_turned : RegionEdge → RegionEdge
edge_turned e = record { to = e.to; from = e.from; cond = turned e.cond; known = all_known_turned e.known }

abbrev pub edges_turned : List RegionEdge → List RegionEdge
edges_turned es = map edge_turned es

or-turned : (c : Tree) (es : List RegionEdge) → or_any (turned c) (edges_turned es) ≡ turned (or_any c es)
or-turned c [] = refl
or-turned c (e ∷ es) = ap (λ z. or_any z (edges_turned es)) (sym (make-turned Or (c ∷ e.cond ∷ []))) ∙ or-turned (make_operation Or (c ∷ e.cond ∷ [])) es

pub taken-turned : (es : List RegionEdge) → any_taken (edges_turned es) ≡ turned (any_taken es)
taken-turned es = or-turned (bit_of false) es

in-each-turned : (es : List RegionEdge) (c : Tree) → in_each (edges_turned es) (turned c) ≡ in_each es c
in-each-turned [] c = refl
in-each-turned (e ∷ es) c = λ i. (ap (list_any (same_tree (turned c))) (conjuncts-turned e.cond) ∙ any-turned c (conjuncts_of e.cond)) i && in-each-turned es c i

selector-turned : (es : List RegionEdge) (e : RegionEdge) → selector (edges_turned es) (edge_turned e) ≡ turned (selector es e)
selector-turned es e =
    ap (λ cs. conjunction (filter (λ c. not (in_each (edges_turned es) c)) cs)) (conjuncts-turned e.cond)
    ∙ ap conjunction (filter-turned (λ c. not (in_each (edges_turned es) c)) (λ c. not (in_each es c)) (λ c. ap not (in-each-turned es c)) (conjuncts_of e.cond))
    ∙ conjunction-turned (filter (λ c. not (in_each es c)) (conjuncts_of e.cond))

chosen-turned : (all : List RegionEdge) (t : Tree) (es : List RegionEdge) (vs : List Tree) → chosen_from (edges_turned all) (turned t) (edges_turned es) (all_turned vs)
    ≡ turned (chosen_from all t es vs)
chosen-turned all t [] vs = refl
chosen-turned all t (e ∷ es) [] = refl
chosen-turned all t (e ∷ es) (v ∷ vs) =
    ap (λ z. chosen_from (edges_turned all) z (edges_turned es) (all_turned vs)) (ap (λ s. make_choice s (turned t) (turned v)) (selector-turned all e) ∙ sym (choice-turned (selector all e) t v))
    ∙ chosen-turned all (make_choice (selector all e) t v) es vs

merged-turned : (es : List RegionEdge) (vs : List Tree) → merged (edges_turned es) (all_turned vs) ≡ option_map turned (merged es vs)
merged-turned [] vs = refl
merged-turned (e ∷ es) [] = refl
merged-turned (e ∷ es) (v ∷ vs) = ap Some (chosen-turned (e ∷ es) v es vs)

each-turned : (f g : RegionEdge → Option Tree) → ((e : RegionEdge) → f (edge_turned e) ≡ option_map turned (g e)) → (es : List RegionEdge)
    → on_each f (edges_turned es) ≡ option_map all_turned (on_each g es)
each-turned f g h [] = refl
each-turned f g h (e ∷ es) = (λ i. front (h e i) (each-turned f g h es i)) ∙ front-turned (g e) (on_each g es)

each-same : (f g : RegionEdge → Option Part) → ((e : RegionEdge) → f (edge_turned e) ≡ g e) → (es : List RegionEdge) → on_each f (edges_turned es) ≡ on_each g es
each-same f g h [] = refl
each-same f g h (e ∷ es) = λ i. front (h e i) (each-same f g h es i)

merged-if : (es : List RegionEdge) (o : Option (List Tree)) → option_and_then (merged (edges_turned es)) (option_map all_turned o) ≡ option_map turned (option_and_then (merged es) o)
merged-if es None = refl
merged-if es (Some vs) = merged-turned es vs

merged-by-turned : (f g : RegionEdge → Option Tree) → ((e : RegionEdge) → f (edge_turned e) ≡ option_map turned (g e)) → (es : List RegionEdge)
    → merged_by f (edges_turned es) ≡ option_map turned (merged_by g es)
merged-by-turned f g h es = ap (option_and_then (merged (edges_turned es))) (each-turned f g h es) ∙ merged-if es (on_each g es)

join-of : (a b : Option Tree) (c : Option Part) →
    or_else (option_map known_value (option_map turned a)) (or_else (option_map known_cell (option_map turned b)) (option_map known_part c))
    ≡ option_map known_turned (or_else (option_map known_value a) (or_else (option_map known_cell b) (option_map known_part c)))
join-of (Some a) b c = refl
join-of None (Some b) c = refl
join-of None None (Some c) = refl
join-of None None None = refl

joined-at : (es : List RegionEdge) (n : List ℕ) → joined (edges_turned es) n ≡ all_known_turned (joined es) n
joined-at es n =
    (λ i. or_else (option_map known_value (merged-by-turned (λ e. value_known e.known n) (λ e. value_known e.known n) (λ e. value-known-turned e.known n) es i))
    (or_else (option_map known_cell (merged-by-turned (λ e. cell_known e.known n) (λ e. cell_known e.known n) (λ e. cell-known-turned e.known n) es i))
    (option_map known_part (option_and_then first_one (each-same (λ e. part_known e.known n) (λ e. part_known e.known n) (λ e. part-known-turned e.known n) es i)))))
    ∙ join-of (merged_by (λ e. value_known e.known n) es) (merged_by (λ e. cell_known e.known n) es) (option_and_then first_one (on_each (λ e. part_known e.known n) es))

joined-turned : (es : List RegionEdge) → joined (edges_turned es) ≡ all_known_turned (joined es)
joined-turned es = known-alike _ _ (joined-at es)

phi-from : (k : Knowledge) (o : Option (List ℕ)) → option_and_then (value_known (all_known_turned k)) o ≡ option_map turned (option_and_then (value_known k) o)
phi-from k None = refl
phi-from k (Some n) = value-known-turned k n

phi-on-turned : (os : List EdgeText) (e : RegionEdge) → phi_on os (edge_turned e) ≡ option_map turned (phi_on os e)
phi-on-turned os e = phi-from e.known (edge_from e.from os)

pub value-if : (o : Option Tree) → option_map known_value (option_map turned o) ≡ option_map known_turned (option_map known_value o)
value-if None = refl
value-if (Some t) = refl

phi-turned : (es : List RegionEdge) (j : InstText) (r : Option (List ℕ)) (k : Knowledge) → with_phi (edges_turned es) j r (all_known_turned k) ≡ all_known_turned (with_phi es j r k)
phi-turned es (phi_text ty os) r k =
    ap (λ o. with_given (all_known_turned k) r (option_map known_value o)) (merged-by-turned (phi_on os) (phi_on os) (phi-on-turned os) es)
    ∙ ap (with_given (all_known_turned k) r) (value-if (merged_by (phi_on os) es))
    ∙ given-turned k r (option_map known_value (merged_by (phi_on os) es))
phi-turned es j r k = refl

phis-turned : (es : List RegionEdge) (ls : List LineText) (k : Knowledge) → with_phis (edges_turned es) ls (all_known_turned k) ≡ all_known_turned (with_phis es ls k)
phis-turned es [] k = refl
phis-turned es (l ∷ ls) k = ap (with_phi (edges_turned es) l.inst l.result) (phis-turned es ls k) ∙ phi-turned es l.inst l.result (with_phis es ls k)

pub known-at-turned : (es : List RegionEdge) (ls : List LineText) → known_at (edges_turned es) ls ≡ all_known_turned (known_at es ls)
known-at-turned es ls = ap (with_phis (edges_turned es) ls) (joined-turned es) ∙ phis-turned es ls (joined es)
