-- The refusals of the definition are those that the measure of a process tells.
use Rattle.std.proofs.Common.{◌≡◌, ℕ, zero, suc, ◌+◌, ◌<◌, ◌≤◌, inl, inr, min, Bool, true, false, nat_eq, nat_lt, if◌then◌else◌, List, [], ◌∷◌, ◌++◌, length, map, Option, Some, None, IsSome, Ok, Err, refl, ap, sym, ◌∙◌, subst, arith}
use Rattle.std.specs.List.{slice_get}
use Rattle.std.specs.Option.{option_map}
use Rattle.std.proofs.lemmas.Bool.{cases_lt}
use Rattle.std.proofs.lemmas.Grind.{common_steps}
use Rattle.std.proofs.lemmas.List.{get_or_past}
use Rattle.std.proofs.lemmas.Option.{same_Some, none-some}
use Rattle.lh_unit.specs.declared.inst.UnitId.{UnitId}
use Rattle.lh_unit.specs.declared.inst.BlockId.{BlockId}
use Rattle.lh_unit.specs.declared.inst.UnitKind.{UnitKind}
use Rattle.lh_unit.specs.declared.inst.UnitKind.TheVariants as kind
use Rattle.lh_unit.specs.declared.inst.Item.{Item}
use Rattle.lh_unit.specs.declared.inst.Item.TheVariants as item
use Rattle.lh_unit_names.specs.UnitNames.{same_unit_name}
use Rattle.lh_unit.specs.Contents.{UnitText}
use Rattle.lh_unit.specs.Named.{is_function, function_named}
use Rattle.lh_unit.specs.Naming.{kind_text}
use Rattle.lh_unit.specs.Activation.{functions}
use Rattle.lh_unit.specs.Arena.{Arena, IsArena, contents, item_text_at, unit_text_at, kind_at, unit_count, unit_name_at}
use Rattle.lh_unit.specs.Within.{Each}
use Rattle.lh_unit.specs.WellFormed.{IsFaultless}
use Rattle.lh_unit.proofs.ById.{same_unit-by_id}
use Rattle.lh_unit.proofs.Lists.{nat_eq-is, nat_eq-refl}
use Rattle.lh_verify_laws.specs.Graphs.{IsIn}
use Rattle.lh_verify_laws.proofs.Graphs.{item_units, in-units}
use Rattle.lh_flat.specs.declared.calls.CallNode.{CallNode}
use Rattle.lh_flat.specs.declared.measure.CallMeasure.{CallMeasure}
use Rattle.lh_flat.specs.Calls.{callees, recursion_from, nest_deeper}
use Rattle.lh_flat.specs.Copies.{top_copy}
use Rattle.lh_flat.specs.Flat.{max_nested, max_flat, inst_count, text_of, refused, flattened, recursive_call, call_too_deep, flat_too_large, flattened_by, flat_in, flat_of}
use Rattle.lh_flat.specs.Graph.{max_counted, no_node, node_of, with_blocks, node_at, callees_at, IsGraph}
use Rattle.lh_unit_graph.specs.Measures.{cycle_in, HasBusy, Measures}
use Rattle.lh_unit_graph.specs.declared.fault.DescentFault.{DescentFault}
use Rattle.lh_unit_graph.specs.declared.fault.DescentFault.TheVariants as descent
use Rattle.lh_flat.specs.Measures.{measuring, fault_of}
use Rattle.lh_flat.specs.Lengths.{copy_length}
use Rattle.lh_flat.specs.Reads.{refusal_text, GivesRefusal}
use Rattle.lh_flat.proofs.Lengths.{lengths_add}
use Rattle.lh_flat.proofs.CalledFunctions.{IsFunction, missing-none, callees-functions, callees-names, insts-counted, pieces-counted}
use Rattle.lh_flat.proofs.CallCounts.{IsCalled, StandsFor, nests-named, recursion-named, cycle-stays, length-named}
use Rattle.lh_flat.proofs.Pieces.{copy_blocks, blocks_add, blocks-named}
use Rattle.lh_flat.proofs.MeasureSums.{IsMeasure, measure-is}
use Rattle.lh_flat.proofs.CallGraph.{graph-within}

-- ---- the functions of a module by ids

-- each unit of these items is an entry
abbrev UnitsWithin : ℕ → List Item → Type 0
UnitsWithin n items = (i : ℕ) (w : UnitId) → slice_get items i ≡ Some (item.Unit w) → w.0 < n

function-among : (a : Arena) (u : UnitId) (items : List Item) (i : ℕ) → IsArena a → u.0 < unit_count a → kind_at a u.0 ≡ Some kind.Func → UnitsWithin (unit_count a) items
    → slice_get items i ≡ Some (item.Unit u)
    → function_named (unit_name_at a u.0) (functions (map (item_text_at a) items)) ≡ Some (unit_text_at a u.0)
function-among a u [] i o l k w e = absurd (none-some (item.Unit u) e)
function-among a u (item.Declare d ∷ items) zero o l k w e = cc
function-among a u (item.Declare d ∷ items) (suc i) o l k w e = function-among a u items i o l k (λ j v q. w (suc j) v q) e
function-among a u (item.Unit x ∷ items) zero o l k w e =
    let q : x.0 ≡ u.0 = ap (λ (y : Item). unit_of y) (same_Some (item.Unit x) (item.Unit u) e) in
    ap (λ b. function_named (unit_name_at a u.0) (if b then unit_text_at a x.0 ∷ functions (map (item_text_at a) items) else functions (map (item_text_at a) items)))
    (ap (λ n. is_function (kind_text (kind_at a n))) q ∙ ap (λ z. is_function (kind_text z)) k)
    ∙ ap (λ b. if b then Some (unit_text_at a x.0) else function_named (unit_name_at a u.0) (functions (map (item_text_at a) items))) (same_unit-by_id a x.0 u.0 o (w 0 x refl) l
    ∙ ap (λ n. nat_eq n u.0) q ∙ nat_eq-refl u.0)
    ∙ ap (λ n. Some (unit_text_at a n)) q
  where
    unit_of : Item → ℕ
    unit_of (item.Unit v) = v.0
    unit_of (item.Declare d) = 0
function-among a u (item.Unit x ∷ items) (suc i) o l k w e = by (is_function (kind_text (kind_at a x.0))) (function-among a u items i o l k (λ j v q. w (suc j) v q) e)
  where
    by : (b : Bool) → function_named (unit_name_at a u.0) (functions (map (item_text_at a) items)) ≡ Some (unit_text_at a u.0)
        → function_named (unit_name_at a u.0) (if b then unit_text_at a x.0 ∷ functions (map (item_text_at a) items) else functions (map (item_text_at a) items)) ≡ Some (unit_text_at a u.0)
    by false go = go
    by true go = at (nat_eq x.0 u.0) (same_unit-by_id a x.0 u.0 o (w 0 x refl) l) refl
      where
        at : (c : Bool) → same_unit_name (unit_name_at a x.0) (unit_name_at a u.0) ≡ c → nat_eq x.0 u.0 ≡ c
            → (if same_unit_name (unit_name_at a x.0) (unit_name_at a u.0) then Some (unit_text_at a x.0) else function_named (unit_name_at a u.0) (functions (map (item_text_at a) items)))
            ≡ Some (unit_text_at a u.0)
        at true s q = ap (λ c. if c then Some (unit_text_at a x.0) else function_named (unit_name_at a u.0) (functions (map (item_text_at a) items))) s
            ∙ ap (λ n. Some (unit_text_at a n)) (nat_eq-is x.0 u.0 q)
        at false s q = ap (λ c. if c then Some (unit_text_at a x.0) else function_named (unit_name_at a u.0) (functions (map (item_text_at a) items))) s ∙ go

-- a function has its text under its name
pub callee-text : (a : Arena) (u : UnitId) → IsArena a → u.0 < unit_count a → IsFunction a u → function_named (unit_name_at a u.0) (functions (contents a)) ≡ Some (unit_text_at a u.0)
callee-text a u o l k = let i = o.items_defined u l (subst (λ (x : Option UnitKind). IsSome x) (sym k) refl) in function-among a u a.items i.0 o l k o.items_within i.1

-- the ids of functions
abbrev function_ids : Arena → List Item → List ℕ
function_ids a [] = []
function_ids a (item.Unit u ∷ more) = if is_function (kind_text (kind_at a u.0)) then u.0 ∷ function_ids a more else function_ids a more
function_ids a (item.Declare d ∷ more) = function_ids a more

length-functions : (a : Arena) (items : List Item) → length (function_ids a items) ≡ length (functions (map (item_text_at a) items))
length-functions a [] = refl
length-functions a (item.Declare d ∷ items) = length-functions a items
length-functions a (item.Unit u ∷ items) = by (is_function (kind_text (kind_at a u.0))) (length-functions a items)
  where
    by : (b : Bool) → length (function_ids a items) ≡ length (functions (map (item_text_at a) items)) → length (if b then u.0 ∷ function_ids a items else function_ids a items)
        ≡ length (if b then unit_text_at a u.0 ∷ functions (map (item_text_at a) items) else functions (map (item_text_at a) items))
    by true e = ap suc e
    by false e = e

in-functions : (a : Arena) (u : UnitId) (items : List Item) (i : ℕ) → IsFunction a u → slice_get items i ≡ Some (item.Unit u) → IsIn (function_ids a items) u.0
in-functions a u [] i k e = cc
in-functions a u (item.Declare d ∷ items) zero k e = cc
in-functions a u (item.Declare d ∷ items) (suc i) k e = in-functions a u items i k e
in-functions a u (item.Unit x ∷ items) zero k e =
    let q : x.0 ≡ u.0 = ap (λ (y : Item). unit_of y) (same_Some (item.Unit x) (item.Unit u) e) in
    subst (λ b. IsIn (if b then x.0 ∷ function_ids a items else function_ids a items) u.0) (sym (ap (λ n. is_function (kind_text (kind_at a n))) q ∙ ap (λ z. is_function (kind_text z)) k)) (inl q)
  where
    unit_of : Item → ℕ
    unit_of (item.Unit v) = v.0
    unit_of (item.Declare d) = 0
in-functions a u (item.Unit x ∷ items) (suc i) k e = by (is_function (kind_text (kind_at a x.0))) (in-functions a u items i k e)
  where
    by : (b : Bool) → IsIn (function_ids a items) u.0 → IsIn (if b then x.0 ∷ function_ids a items else function_ids a items) u.0
    by true h = inr h
    by false h = h

in-right : (xs ys : List ℕ) (n : ℕ) → IsIn ys n → IsIn (xs ++ ys) n
in-right [] ys n h = h
in-right (x ∷ xs) ys n h = inr (in-right xs ys n h)

-- a unit that calls is defined
nothing_there : (i : ℕ) (t : UnitId) → slice_get no_node.callees i ≡ Some t → ⊥
nothing_there i t r = cc

busy-unit : (a : Arena) (u i : ℕ) (t : UnitId) → IsArena a → u < unit_count a → slice_get (node_of a u).callees i ≡ Some t → IsIn (item_units a.items) u
busy-unit a u i t o l e = by (kind_at a u) refl
  where
    by : (k : Option UnitKind) → kind_at a u ≡ k → IsIn (item_units a.items) u
    by None q = absurd (nothing_there i t (ap (λ (bs : List BlockId). slice_get (with_blocks a u no_node bs).callees i) (sym (missing-none a u o l q)) ∙ e))
    by (Some k) q = let r = o.items_defined record { 0 = u } l (subst (λ (x : Option UnitKind). IsSome x) (sym q) refl) in in-units a.items r.0 record { 0 = u } r.1

module _ (a : Arena) (g : List CallNode) (top : ℕ) (o : IsArena a) (f : IsFaultless (contents a)) (q : IsGraph a g) (l : top < unit_count a) (p : kind_at a top ≡ Some kind.Proc) where
  abbrev fs : List UnitText
  fs = functions (contents a)

  abbrev text : UnitText
  text = unit_text_at a top

  within : (u : ℕ) → u < length g → u < unit_count a
  within u h = subst (λ n. u < n) q.long h

  top-within : top < length g
  top-within = subst (λ n. top < n) (sym q.long) l

  -- no function is the process
  no_process : (t : UnitId) → IsFunction a t → top ≡ t.0 → ⊥
  no_process t k e = differ (sym p ∙ ap (kind_at a) e ∙ k)
    where
      differ : Some kind.Proc ≡ Some kind.Func → ⊥
      differ r = cc

  called : (ts : List UnitId) → Each (λ (t : UnitId). t.0 < length g) ts → Each (IsFunction a) ts → Each (IsCalled fs (unit_name_at a) (unit_text_at a) top (length g)) ts
  called [] w k = tt
  called (t ∷ ts) w k = (record { within = w.0; not_top = no_process t k.0; named = callee-text a t o (within t.0 w.0) k.0 }, called ts w.1 k.1)

  functions-at : (u : ℕ) → u < length g → Each (IsFunction a) (callees_at g u)
  functions-at u h = subst (λ (n : CallNode). Each (IsFunction a) n.callees) (sym (q.nodes u (within u h))) (callees-functions a u o f (within u h))

  pub stands : StandsFor fs (unit_name_at a) (unit_text_at a) top g
  stands = record {
    same = λ v w h k. same_unit-by_id a v w o (within v h) (within w k);
    called = λ u h. called (callees_at g u) (graph-within a g o q u) (functions-at u h);
    callees_are = λ u h. callees-names a u ∙ ap (λ (n : CallNode). map (λ (t : UnitId). unit_name_at a t.0) n.callees) (sym (q.nodes u (within u h)));
    insts_are = λ u h. ap (λ (n : CallNode). min n.insts max_counted) (q.nodes u (within u h)) ∙ insts-counted a u;
    blocks_are = λ u h. ap (λ (n : CallNode). min n.blocks max_counted) (q.nodes u (within u h)) ∙ pieces-counted a u
        ∙ ap (λ (n : CallNode). min (length (unit_text_at a u).blocks + length n.callees) max_counted) (sym (q.nodes u (within u h)));
  }

  -- ---- recursion

  -- the process and the functions alone are ever open
  abbrev may : List ℕ
  may = top ∷ function_ids a a.items

  may-callees : (ts : List UnitId) → Each (λ (t : UnitId). t.0 < length g) ts → Each (IsFunction a) ts → Each (λ (t : UnitId). IsIn may t.0) ts
  may-callees [] w k = tt
  may-callees (t ∷ ts) w k = (
    inr (let i = o.items_defined t (within t.0 w.0) (subst (λ (x : Option UnitKind). IsSome x) (sym k.0) refl) in in-functions a t a.items i.0 k.0 i.1),
    may-callees ts w.1 k.1,
  )

  may-all : (u : ℕ) → Each (λ (t : UnitId). IsIn may t.0) (callees_at g u)
  may-all u = elim (cases_lt u (length g)) [
    | inl h ↦ may-callees (callees_at g u) (graph-within a g o q u) (functions-at u h)
    | inr h ↦ let e : node_at g u ≡ no_node = get_or_past g u no_node h in subst (λ (n : CallNode). Each (λ (t : UnitId). IsIn may t.0) n.callees) (sym e) tt
  ]

  -- those, and all units that call a function
  abbrev busy : List ℕ
  busy = may ++ item_units a.items

  has-busy : HasBusy measuring g busy
  has-busy u i t e = elim (cases_lt u (unit_count a)) [
    | inl h ↦ in-right may (item_units a.items) u (busy-unit a u i t o h (ap (λ (n : CallNode). slice_get n.callees i) (sym (q.nodes u h)) ∙ e))
    | inr h ↦
        let z : node_at g u ≡ no_node = get_or_past g u no_node (subst (λ n. n ≤ u) (sym q.long) h) in
        absurd (nothing_there i t (ap (λ (n : CallNode). slice_get n.callees i) (sym z) ∙ e))
  ]

  may_length : length may ≡ suc (length fs)
  may_length = ap suc (length-functions a a.items)

  longer : (xs ys : List ℕ) → length xs ≤ length (xs ++ ys) + 0
  longer [] ys = omega arith
  longer (x ∷ xs) ys = let h = longer xs ys in omega arith

  just : (m n : ℕ) → m ≡ n → m ≤ n + 0
  just m n e = omega arith

  alone : (v : ℕ) → IsIn (top ∷ []) v → IsIn may v
  alone v (inl e) = inl e
  alone v (inr h) = absurd h

  -- as many steps as there are functions, and one more, are enough
  steps-enough : cycle_in measuring (length busy) g [] top ≡ cycle_in measuring (suc (length fs)) g [] top
  steps-enough = cycle-stays fs (unit_name_at a) (unit_text_at a) top g stands may may-all (length busy) (suc (length fs)) [] top ((λ h. h), tt) alone (longer may (item_units a.items))
      (just (length may) (suc (length fs)) may_length)

  recursion : recursion_from (suc (length fs)) fs [] (callees text) ≡ option_map (unit_name_at a) (cycle_in measuring (suc (length fs)) g [] top)
  recursion = recursion-named fs (unit_name_at a) (unit_text_at a) top g stands (suc (length fs)) [] [] top refl tt top-within

  pub Refuses-recursive : (v : UnitId) → Measures measuring g top (Err (descent.Cycle v)) → flat_of (contents a) text ≡ refused (recursive_call (unit_name_at a v.0))
  unfolding flat_in
  Refuses-recursive v m =
      ap (λ r. flattened_by r (nest_deeper max_nested fs (callees text)) (nat_lt max_flat (inst_count (text_of fs text).blocks)) (text_of fs text))
      (recursion ∙ ap (option_map (unit_name_at a)) (sym steps-enough ∙ m busy has-busy))

  -- any fault of the measure
  pub Refuses-measured : (e : DescentFault) → Measures measuring g top (Err e) → GivesRefusal (flat_of (contents a) text) (refusal_text a (fault_of e))
  Refuses-measured (descent.Cycle v) m = Refuses-recursive v m
  Refuses-measured descent.OutOfMemory m = tt

  -- ---- depth and length

  module _ (m : CallMeasure) (w : Measures measuring g top (Ok m)) where
    counts : IsMeasure g top m
    counts = measure-is g top m w.1

    no-recursion : recursion_from (suc (length fs)) fs [] (callees text) ≡ None
    no-recursion = recursion ∙ ap (option_map (unit_name_at a)) (w.0 (suc (length fs)))

    small : (k e : ℕ) → k ≡ 65 → e ≡ 4294967295 → suc k ≤ e
    small k e i j = omega arith

    deep-at : (k : ℕ) → suc k ≡ 65 → nest_deeper k fs (callees text) ≡ nat_lt (suc k) m.depth
    deep-at k e = nests-named fs (unit_name_at a) (unit_text_at a) top g stands k top top-within ∙ counts.depth (suc k) (small (suc k) max_counted e refl)

    deep : nest_deeper max_nested fs (callees text) ≡ nat_lt 65 m.depth
    deep = deep-at 64 refl

    pub Refuses-deep : nat_lt 65 m.depth ≡ true → flat_of (contents a) text ≡ refused call_too_deep
    unfolding flat_in
    Refuses-deep d =
        ap (λ r. flattened_by r (nest_deeper max_nested fs (callees text)) (nat_lt max_flat (inst_count (text_of fs text).blocks)) (text_of fs text)) no-recursion
        ∙ ap (λ b. flattened_by None b (nat_lt max_flat (inst_count (text_of fs text).blocks)) (text_of fs text)) (deep ∙ d)

    le_from : (n x : ℕ) → nat_lt n x ≡ false → x ≤ n
    le_from n x e = grind (arith, common_steps)

    -- a number below its end is told by the number that stands still there
    lt_capped : (n e x y : ℕ) → n < e → min x e ≡ y → nat_lt n x ≡ nat_lt n y
    lt_capped n e x y l q = grind (arith, common_steps)

    module _ (d : nat_lt 65 m.depth ≡ false) where
      insts-at : (k : ℕ) → k ≡ 65 → min (copy_length k fs text) max_counted ≡ m.insts
      insts-at k e = length-named fs (unit_name_at a) (unit_text_at a) top g stands k top top-within
          ∙ counts.insts k (small k max_counted e refl) (subst (λ n. m.depth ≤ n) (sym e) (le_from 65 m.depth d))

      blocks-at : (k : ℕ) → k ≡ 65 → min (copy_blocks k fs text) max_counted ≡ m.blocks
      blocks-at k e = blocks-named fs (unit_name_at a) (unit_text_at a) top g stands k top top-within
          ∙ counts.blocks k (small k max_counted e refl) (subst (λ n. m.depth ≤ n) (sym e) (le_from 65 m.depth d))

      -- and so many instructions
      pub length-few : (k : ℕ) → k ≡ 65 → m.insts ≤ 65536 → copy_length k fs text ≤ 65536
      length-few k e h = uncapped (copy_length k fs text) m.insts max_counted refl (insts-at k e) h
        where
          uncapped : (x y e : ℕ) → e ≡ 4294967295 → min x e ≡ y → y ≤ 65536 → x ≤ 65536
          uncapped x y e q p h = omega arith

      pub insts-measured : min (inst_count (text_of fs text).blocks) max_counted ≡ m.insts
      insts-measured = ap (λ n. min n max_counted) (lengths_add 65 fs (top_copy text)) ∙ insts-at 65 refl

      pub blocks-measured : min (length (text_of fs text).blocks) max_counted ≡ m.blocks
      blocks-measured = ap (λ n. min n max_counted) (blocks_add 65 fs (top_copy text)) ∙ blocks-at 65 refl

      -- no more calls nest than may
      pub not-deep : nest_deeper max_nested fs (callees text) ≡ false
      not-deep = deep ∙ d

      large : nat_lt max_flat (inst_count (text_of fs text).blocks) ≡ nat_lt 65536 m.insts
      large = lt_capped 65536 max_counted (inst_count (text_of fs text).blocks) m.insts (omega arith) insts-measured

      by-length : (b : Bool) → nat_lt 65536 m.insts ≡ b → flat_of (contents a) text ≡ flattened_by None false b (text_of fs text)
      unfolding flat_in
      by-length b e =
          ap (λ r. flattened_by r (nest_deeper max_nested fs (callees text)) (nat_lt max_flat (inst_count (text_of fs text).blocks)) (text_of fs text)) no-recursion
          ∙ ap (λ b. flattened_by None b (nat_lt max_flat (inst_count (text_of fs text).blocks)) (text_of fs text)) (deep ∙ d)
          ∙ ap (λ c. flattened_by None false c (text_of fs text)) (large ∙ e)

      pub Refuses-large : nat_lt 65536 m.insts ≡ true → flat_of (contents a) text ≡ refused flat_too_large
      Refuses-large e = by-length true e

      pub Flattens-measured : nat_lt 65536 m.insts ≡ false → flat_of (contents a) text ≡ flattened (text_of fs text)
      Flattens-measured e = by-length false e
