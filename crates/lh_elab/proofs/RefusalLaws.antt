-- The refusals of the definition are those that the measures tell.
use Rattle.std.proofs.Common.{◌≡◌, ℕ, suc, ◌+◌, ◌<◌, ◌≤◌, inl, inr, min, Bool, true, false, nat_lt, if◌then◌else◌, List, [], ◌∷◌, length, map, Option, Some, None, Result, Ok, Err, refl, ap, sym, ◌∙◌, subst, arith, ltb-false}
use Rattle.std.specs.Option.{option_map}
use Rattle.std.proofs.lemmas.Grind.{common_steps}
use Rattle.std.proofs.lemmas.List.Sums.{sum_by-cons}
use Rattle.lh_types.specs.Types.{bit_count}
use Rattle.lh_unit_names.specs.declared.name.UnitName.{UnitName}
use Rattle.lh_unit.specs.declared.inst.UnitKind.{UnitKind}
use Rattle.lh_unit.specs.declared.inst.UnitKind.TheVariants as kind
use Rattle.lh_unit.specs.declared.inst.Arg.{Arg}
use Rattle.lh_unit.specs.Contents.{ArgText, UnitText}
use Rattle.lh_unit.specs.Named.{is_function}
use Rattle.lh_unit.specs.Naming.{Naming, arg_text, kind_text}
use Rattle.lh_unit.specs.Arena.{Arena, IsArena, contents, unit_count, unit_name_at, unit_text_at, kind_at, args_at, naming}
use Rattle.lh_unit.specs.Hierarchy.{hierarchy_by, hierarchy_of, hierarchies}
use Rattle.lh_unit.specs.Design.{Refusal, top_is_function, refusal_by, refusal_of, arg_bits, cycle_from, nests_deeper, instance_count, bits_below, max_nesting, max_instances, max_bits}
use Rattle.lh_elab.specs.declared.fault.ElabFault.{ElabFault}
use Rattle.lh_elab.specs.declared.fault.ElabFault.TheVariants as fault
use Rattle.lh_elab.specs.declared.graph.HierarchyNode.{HierarchyNode}
use Rattle.lh_elab.specs.declared.measure.HierarchyMeasure.{HierarchyMeasure}
use Rattle.lh_elab.specs.Graph.{max_counted}
use Rattle.lh_elab.specs.Measures.{depth_end, instances_end, measuring, fault_of}
use Rattle.lh_unit_graph.specs.Measures.{cycle_in}
use Rattle.lh_unit_graph.specs.declared.fault.DescentFault.{DescentFault}
use Rattle.lh_unit_graph.specs.declared.fault.DescentFault.TheVariants as descent
use Rattle.lh_elab.proofs.MeasureSums.{IsMeasure, measure-is}
use Rattle.lh_elab.specs.Refusals.{arg_bits_of, limited, refusal_text, refusal_at, bits_at, Refuses, MeasuresIn}
use Rattle.lh_elab.proofs.InstanceGraph.{graph-within}
use Rattle.lh_elab.proofs.InstanceCounts.{StandsFor, stands, nests-named, count-named, bits-named, cycle-named, defined, length-defined, has-busy}

-- only a function is one
function-of : (k : UnitKind) (u : UnitText) → (hierarchy_by k u).function ≡ is_function k
function-of kind.Func u = refl
function-of kind.Proc u = refl
function-of kind.Entity u = refl

pub args-of : (k : UnitKind) (u : UnitText) → (hierarchy_by k u).args ≡ u.args
args-of kind.Func u = refl
args-of kind.Proc u = refl
args-of kind.Entity u = refl

args-bits : (f : Naming) (xs : List Arg) → arg_bits (map (arg_text f) xs) ≡ arg_bits_of xs
args-bits f [] = refl
args-bits f (x ∷ xs) =
    sum_by-cons (λ (y : ArgText). bit_count y.ty) (arg_text f x) (map (arg_text f) xs)
    ∙ ap (λ b. bit_count x.ty + b) (args-bits f xs)
    ∙ sym (sum_by-cons (λ (y : Arg). bit_count y.ty) x xs)

pub top-args : (a : Arena) (u : ℕ) → arg_bits (unit_text_at a u).args ≡ arg_bits_of (args_at a u)
top-args a u = args-bits (naming a u) (args_at a u)

-- a function has no design
pub refuses-function : (a : Arena) (top : ℕ) → true ≡ is_function (kind_text (kind_at a top)) → refusal_at a top ≡ Some top_is_function
unfolding refusal_of
refuses-function a top e =
    ap (λ b. refusal_by b (cycle_from (length (hierarchies (contents a))) (hierarchies (contents a)) [] (unit_name_at a top)) (nests_deeper max_nesting (hierarchies (contents a)) (unit_name_at a top))
    (nat_lt max_instances (instance_count max_nesting (hierarchies (contents a)) (unit_name_at a top)))
    (nat_lt max_bits (arg_bits (hierarchy_of (unit_text_at a top)).args + bits_below max_nesting (hierarchies (contents a)) (unit_name_at a top))))
    (function-of (kind_text (kind_at a top)) (unit_text_at a top) ∙ sym e)

-- what the definition asks of a unit that is no function
record Asked (a : Arena) (top : ℕ) (cycle : Option UnitName) (deep : Bool) (count bits : ℕ) : Type 0 where
  pub cycle_is : cycle_from (length (hierarchies (contents a))) (hierarchies (contents a)) [] (unit_name_at a top) ≡ cycle
  pub deep_is : nests_deeper max_nesting (hierarchies (contents a)) (unit_name_at a top) ≡ deep
  pub count_is : instance_count max_nesting (hierarchies (contents a)) (unit_name_at a top) ≡ count
  pub bits_is : bits_below max_nesting (hierarchies (contents a)) (unit_name_at a top) ≡ bits

asked-is : (a : Arena) (top : ℕ) (cycle : Option UnitName) (deep : Bool) (count bits : ℕ) → false ≡ is_function (kind_text (kind_at a top)) → Asked a top cycle deep count bits
    → refusal_at a top ≡ refusal_by false cycle deep (nat_lt max_instances count) (nat_lt max_bits (arg_bits_of (args_at a top) + bits))
unfolding refusal_of
asked-is a top cycle deep count bits e q =
    by (hierarchy_of (unit_text_at a top)).function false (cycle_from (length (hierarchies (contents a))) (hierarchies (contents a)) [] (unit_name_at a top)) cycle
    (nests_deeper max_nesting (hierarchies (contents a)) (unit_name_at a top)) deep
    (instance_count max_nesting (hierarchies (contents a)) (unit_name_at a top)) count
    (bits_below max_nesting (hierarchies (contents a)) (unit_name_at a top)) bits
    (arg_bits (hierarchy_of (unit_text_at a top)).args) (arg_bits_of (args_at a top))
    (function-of (kind_text (kind_at a top)) (unit_text_at a top) ∙ sym e) q.cycle_is q.deep_is q.count_is q.bits_is
    (ap arg_bits (args-of (kind_text (kind_at a top)) (unit_text_at a top)) ∙ top-args a top)
  where
    by : (f g : Bool) (c d : Option UnitName) (x y : Bool) (m n b s p q : ℕ) → f ≡ g → c ≡ d → x ≡ y → m ≡ n → b ≡ s → p ≡ q → refusal_by f c x (nat_lt max_instances m) (nat_lt max_bits (p + b))
        ≡ refusal_by g d y (nat_lt max_instances n) (nat_lt max_bits (q + s))
    by f g c d x y m n b s p q h1 h2 h3 h4 h5 h6 = cc

-- a number below its end is told by the number that stands still there
lt_capped : (n e x y : ℕ) → e ≡ n + 1 → min x e ≡ y → nat_lt n x ≡ nat_lt n y
lt_capped n e x y p q = grind (arith, common_steps)

sum_capped : (a b e y : ℕ) → min b e ≡ y → min (a + b) e ≡ min (min a e + y) e
sum_capped a b e y q = omega arith

below_end : (n e x y : ℕ) → e ≡ n + 1 → min x e ≡ y → y ≤ n → x ≡ y
below_end n e x y p q l = omega arith

-- by the three limits
record Limits (m : HierarchyMeasure) (deep : Bool) (count bits : ℕ) : Type 0 where
  pub deep_is : deep ≡ nat_lt 64 m.depth
  pub count_is : m.depth ≤ 64 → min count instances_end ≡ m.instances
  pub bits_is : m.depth ≤ 64 → min bits max_counted ≡ m.bits

-- what an answer says of a refusal and of the number of bits
abbrev Answers : Arena → Option Refusal → ℕ → Result ℕ ElabFault → Type 0
Answers a r bits (Ok n) = (r ≡ None) × (bits ≡ n)
Answers a r bits (Err fault.OutOfMemory) = Unit {0}
Answers a r bits (Err e) = r ≡ refusal_text a e

limits-third : (a : Arena) (m : HierarchyMeasure) (args bits : ℕ) (z : Bool) → min bits max_counted ≡ m.bits → nat_lt 16777216 (min (min args max_counted + m.bits) max_counted) ≡ z
    → Answers a (refusal_by false None false false (nat_lt max_bits (args + bits))) (args + bits) (if z then Err fault.TooManyBits else Ok (min (min args max_counted + m.bits) max_counted))
limits-third a m args bits true h e = ap (refusal_by false None false false)
    (lt_capped 16777216 max_counted (args + bits) (min (min args max_counted + m.bits) max_counted) refl (sum_capped args bits max_counted m.bits h) ∙ e)
limits-third a m args bits false h e = (
  ap (refusal_by false None false false) (lt_capped 16777216 max_counted (args + bits) (min (min args max_counted + m.bits) max_counted) refl (sum_capped args bits max_counted m.bits h) ∙ e),
  below_end 16777216 max_counted (args + bits) (min (min args max_counted + m.bits) max_counted) refl (sum_capped args bits max_counted m.bits h)
      (ltb-false 16777216 (min (min args max_counted + m.bits) max_counted) e),
)

limits-second : (a : Arena) (m : HierarchyMeasure) (args count bits : ℕ) (y : Bool) → min count instances_end ≡ m.instances → min bits max_counted ≡ m.bits → nat_lt 65536 m.instances ≡ y
    → Answers a (refusal_by false None false (nat_lt max_instances count) (nat_lt max_bits (args + bits))) (args + bits)
    (if y then Err fault.TooManyInstances else (if nat_lt 16777216 (min (min args max_counted + m.bits) max_counted) then Err fault.TooManyBits else Ok
    (min (min args max_counted + m.bits) max_counted)))
limits-second a m args count bits true k h e = ap (λ b. refusal_by false None false b (nat_lt max_bits (args + bits))) (lt_capped 65536 instances_end count m.instances refl k ∙ e)
limits-second a m args count bits false k h e =
    subst (λ b. Answers a (refusal_by false None false b (nat_lt max_bits (args + bits))) (args + bits)
    (if nat_lt 16777216 (min (min args max_counted + m.bits) max_counted) then Err fault.TooManyBits else Ok (min (min args max_counted + m.bits) max_counted)))
    (sym (lt_capped 65536 instances_end count m.instances refl k ∙ e))
    (limits-third a m args bits (nat_lt 16777216 (min (min args max_counted + m.bits) max_counted)) h refl)

limits-first : (a : Arena) (m : HierarchyMeasure) (args count bits : ℕ) (deep x : Bool) → Limits m deep count bits → nat_lt 64 m.depth ≡ x
    → Answers a (refusal_by false None deep (nat_lt max_instances count) (nat_lt max_bits (args + bits))) (args + bits)
    (if x then Err fault.TooDeep else (if nat_lt 65536 m.instances then Err
    fault.TooManyInstances else (if nat_lt 16777216 (min (min args max_counted + m.bits) max_counted) then Err fault.TooManyBits else Ok (min (min args max_counted + m.bits) max_counted))))
limits-first a m args count bits deep true o e = ap (λ b. refusal_by false None b (nat_lt max_instances count) (nat_lt max_bits (args + bits))) (o.deep_is ∙ e)
limits-first a m args count bits deep false o e =
    subst (λ b. Answers a (refusal_by false None b (nat_lt max_instances count) (nat_lt max_bits (args + bits))) (args + bits)
    (if nat_lt 65536 m.instances then Err fault.TooManyInstances else (if nat_lt 16777216 (min (min args max_counted + m.bits) max_counted) then Err fault.TooManyBits else Ok
    (min (min args max_counted + m.bits) max_counted))))
    (sym (o.deep_is ∙ e))
    (limits-second a m args count bits (nat_lt 65536 m.instances) (o.count_is (ltb-false 64 m.depth e)) (o.bits_is (ltb-false 64 m.depth e)) refl)

-- so the answer is right
answers-is : (a : Arena) (top bits : ℕ) (r : Option Refusal) (x : Result ℕ ElabFault) → refusal_at a top ≡ r → bits_at a top ≡ bits → Answers a r bits x → Refuses a top x
answers-is a top bits r (Ok n) e f h = (e ∙ h.0, f ∙ h.1)
answers-is a top bits r (Err fault.OutOfMemory) e f h = tt
answers-is a top bits r (Err fault.TopIsFunction) e f h = e ∙ h
answers-is a top bits r (Err (fault.InstCycle v)) e f h = e ∙ h
answers-is a top bits r (Err fault.TooDeep) e f h = e ∙ h
answers-is a top bits r (Err fault.TooManyInstances) e f h = e ∙ h
answers-is a top bits r (Err fault.TooManyBits) e f h = e ∙ h

small : (k e : ℕ) → k ≡ 64 → e ≡ 65 → suc k ≤ e
small k e p q = omega arith

limits-named : (a : Arena) (g : List HierarchyNode) (top k : ℕ) (m : HierarchyMeasure) → k ≡ 64 → StandsFor (hierarchies (contents a)) (unit_name_at a) g → top < length g → IsMeasure g top m
    → Limits m (nests_deeper k (hierarchies (contents a)) (unit_name_at a top)) (instance_count k (hierarchies (contents a)) (unit_name_at a top)) (bits_below k (hierarchies (contents a))
    (unit_name_at a top))
limits-named a g top k m e o l s = record {
  deep_is = nests-named k (hierarchies (contents a)) (unit_name_at a) g top o l ∙ s.depth k (small k depth_end e refl) ∙ ap (λ n. nat_lt n m.depth) e;
  count_is = λ d. ap (λ n. min n instances_end) (count-named k (hierarchies (contents a)) (unit_name_at a) g top o l) ∙ s.instances k (small k depth_end e refl) (subst (λ n. m.depth ≤ n) (sym e) d);
  bits_is = λ d. bits-named k (hierarchies (contents a)) (unit_name_at a) g top o l ∙ s.bits k (small k depth_end e refl) (subst (λ n. m.depth ≤ n) (sym e) d);
}

pub Refuses-limited : (a : Arena) (top : ℕ) (m : HierarchyMeasure) (x : Result ℕ ElabFault) → IsArena a → top < unit_count a → false ≡ is_function (kind_text (kind_at a top)) → MeasuresIn a top (Ok m)
    → x ≡ limited m (min (arg_bits_of (args_at a top)) max_counted) → Refuses a top x
Refuses-limited a top m x o l e (inr q) f = cc
Refuses-limited a top m x o l e (inl (g, q, s)) f =
    let w = stands a g o q (graph-within a g o q) in
    let lg : top < length g = subst (λ n. top < n) (sym q.long) l in
    let c = cycle-named (length (hierarchies (contents a))) (hierarchies (contents a)) (unit_name_at a) g [] top w tt lg ∙ ap (option_map (unit_name_at a)) (s.0 (length (hierarchies (contents a)))) in
    answers-is a top (arg_bits_of (args_at a top) + bits_below max_nesting (hierarchies (contents a)) (unit_name_at a top))
    (refusal_by false None (nests_deeper max_nesting (hierarchies (contents a)) (unit_name_at a top))
    (nat_lt max_instances (instance_count max_nesting (hierarchies (contents a)) (unit_name_at a top)))
    (nat_lt max_bits (arg_bits_of (args_at a top) + bits_below max_nesting (hierarchies (contents a)) (unit_name_at a top))))
    x
    (asked-is a top None (nests_deeper max_nesting (hierarchies (contents a)) (unit_name_at a top)) (instance_count max_nesting (hierarchies (contents a)) (unit_name_at a top))
    (bits_below max_nesting (hierarchies (contents a)) (unit_name_at a top)) e record { cycle_is = c; deep_is = refl; count_is = refl; bits_is = refl })
    (ap (λ n. n + bits_below max_nesting (hierarchies (contents a)) (unit_name_at a top)) (top-args a top))
    (subst (Answers a (refusal_by false None (nests_deeper max_nesting (hierarchies (contents a)) (unit_name_at a top)) (nat_lt max_instances
    (instance_count max_nesting (hierarchies (contents a)) (unit_name_at a top))) (nat_lt max_bits
    (arg_bits_of (args_at a top) + bits_below max_nesting (hierarchies (contents a)) (unit_name_at a top))))
    (arg_bits_of (args_at a top) + bits_below max_nesting (hierarchies (contents a)) (unit_name_at a top))) (sym f)
    (limits-first a m (arg_bits_of (args_at a top)) (instance_count max_nesting (hierarchies (contents a)) (unit_name_at a top))
    (bits_below max_nesting (hierarchies (contents a)) (unit_name_at a top)) (nests_deeper max_nesting (hierarchies (contents a)) (unit_name_at a top)) (nat_lt 64 m.depth)
    (limits-named a g top 64 m refl w lg (measure-is g top m s.1)) refl))

-- a cycle is named
pub Refuses-measured : (a : Arena) (top : ℕ) (x : DescentFault) → IsArena a → top < unit_count a → false ≡ is_function (kind_text (kind_at a top)) → MeasuresIn a top (Err x) → Refuses a top (Err (fault_of x))
Refuses-measured a top descent.OutOfMemory o l e h = tt
Refuses-measured a top (descent.Cycle v) o l e (inl (g, q, s)) =
    let w = stands a g o q (graph-within a g o q) in
    let lg : top < length g = subst (λ n. top < n) (sym q.long) l in
    let n : length (hierarchies (contents a)) ≡ length (defined a) = sym (length-defined a) in
    let c = cycle-named (length (hierarchies (contents a))) (hierarchies (contents a)) (unit_name_at a) g [] top w tt lg
    ∙ ap (λ k. option_map (unit_name_at a) (cycle_in measuring k g [] top)) n
    ∙ ap (option_map (unit_name_at a)) (s (defined a) (has-busy a g o q)) in
    asked-is a top (Some (unit_name_at a v.0)) (nests_deeper max_nesting (hierarchies (contents a)) (unit_name_at a top)) (instance_count max_nesting (hierarchies (contents a)) (unit_name_at a top))
    (bits_below max_nesting (hierarchies (contents a)) (unit_name_at a top)) e record { cycle_is = c; deep_is = refl; count_is = refl; bits_is = refl }
Refuses-measured a top (descent.Cycle v) o l e (inr q) = cc
