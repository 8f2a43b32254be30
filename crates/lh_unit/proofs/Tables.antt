-- A unit's table stays in order under its calls.
use Rattle.std.proofs.Common.{◌≡◌, ◌≢◌, ℕ, ◌+◌, ◌-◌, ◌^◌, ◌<◌, ◌≤◌, zero, suc, Bool, true, false, ◌||◌, nat_eq, if◌then◌else◌, List, [], ◌∷◌, ◌++◌, length, map, get_or, set, Option, Some, None, IsSome, is_some, unwrap_or, slice_get, refl, ap, sym, ◌∙◌, subst, arith, length-append, length-set, append_assoc, zero-add}
use Rattle.std.proofs.lemmas.Option.{slice_get_within}
use Rattle.std.proofs.lemmas.List.{append-nil, map-append, get_or-set_same, get_or-set_other, get_or_past, get_or_read}
use Rattle.lh_types.specs.Types.{TypeTree}
use Rattle.lh_unit.specs.Table.{Table, Definitions, IsTable, IsDefinition, FitsKind, HasBlocks, ArgsWithin, ResultWithin, ResultsWithin, BlocksWithin, entity_block, flat, ids_from, insts_at, is_arg, is_made, is_result, is_block, is_defined, result_defined, has_definition, with_definition, defined_among, arg_count, args_among}
use Rattle.lh_unit.specs.TableCalls.{with_value, with_label, begun, with_arg, with_result, with_block, with_line, last_block}
use Rattle.lh_unit_names.specs.Distinct.{has_name}
use Rattle.lh_unit.specs.declared.inst.UnitKind.{UnitKind}
use Rattle.lh_unit.specs.declared.inst.UnitKind.TheVariants as kind
use Rattle.lh_unit.specs.declared.inst.BlockId.{BlockId}
use Rattle.lh_unit.specs.declared.inst.InstId.{InstId}
use Rattle.lh_unit.specs.declared.inst.ValueId.{ValueId}
use Rattle.lh_unit.specs.declared.inst.ValueDef.{ValueDef}
use Rattle.lh_unit.specs.declared.inst.ValueDef.TheVariants as value_def
use Rattle.lh_unit.specs.declared.inst.Inst.{Inst}
use Rattle.lh_unit.specs.declared.inst.Arg.{Arg}
use Rattle.lh_unit.specs.declared.table.TableLine.{TableLine}
pub use Rattle.lh_unit.proofs.ValueDefinitions.{is_arg-push, is_made-push}
use Rattle.lh_unit.proofs.ValueDefinitions.{definition-tells, IsDefinition-with_arg, IsDefinition-with_line, IsDefinition-same, arg-defines, line-defines, once-with_arg, once-with_line}
use Rattle.lh_unit.proofs.Lists.{Same, same, other, same_or, nat_eq-refl, nat_eq-other, or_false, or_true, or-assoc, get_or-push_default, front_last, map-ext, map-same, flat-append}
use Rattle.lh_unit_names.proofs.Lists.{Trichotomy, before, at, past, trichotomy, AllDistinct-push}
use Rattle.lh_types.proofs.Lists.{get_below, get_last}
use Rattle.lh_unit_names.proofs.NameLists.{absent}

-- bounds that grow
ArgsWithin-more : (n m : ℕ) (xs : List Arg) → n ≤ m → ArgsWithin n xs → ArgsWithin m xs
ArgsWithin-more n m [] h w = tt
ArgsWithin-more n m (a ∷ xs) h w = (omega (arith, w.0), ArgsWithin-more n m xs h w.1)

ResultWithin-more : (n m : ℕ) (r : Option ValueId) → n ≤ m → ResultWithin n r → ResultWithin m r
ResultWithin-more n m None h w = tt
ResultWithin-more n m (Some v) h w = omega arith

ResultsWithin-more : (n m : ℕ) (xs : List TableLine) → n ≤ m → ResultsWithin n xs → ResultsWithin m xs
ResultsWithin-more n m [] h w = tt
ResultsWithin-more n m (l ∷ xs) h w = (ResultWithin-more n m l.result h w.0, ResultsWithin-more n m xs h w.1)

BlocksWithin-more : (n m : ℕ) (xs : List BlockId) → n ≤ m → BlocksWithin n xs → BlocksWithin m xs
BlocksWithin-more n m [] h w = tt
BlocksWithin-more n m (b ∷ xs) h w = (omega (arith, w.0), BlocksWithin-more n m xs h w.1)

-- the block at an index
pub BlocksWithin-at : (n : ℕ) (bs : List BlockId) (j : ℕ) (b : BlockId) → slice_get bs j ≡ Some b → BlocksWithin n bs → b.0 < n
BlocksWithin-at n [] j b p w = cc
BlocksWithin-at n (x ∷ bs) zero b p w = let q : x ≡ b = cc in subst (λ (y : BlockId). y.0 < n) q w.0
BlocksWithin-at n (x ∷ bs) (suc j) b p w = BlocksWithin-at n bs j b p w.1

-- one more item
ArgsWithin-push : (n : ℕ) (xs : List Arg) (a : Arg) → ArgsWithin n xs → a.value.0 < n → ArgsWithin n (xs ++ a ∷ [])
ArgsWithin-push n [] a w h = (h, tt)
ArgsWithin-push n (x ∷ xs) a w h = (w.0, ArgsWithin-push n xs a w.1 h)

ResultsWithin-push : (n : ℕ) (xs : List TableLine) (l : TableLine) → ResultsWithin n xs → ResultWithin n l.result → ResultsWithin n (xs ++ l ∷ [])
ResultsWithin-push n [] l w h = (h, tt)
ResultsWithin-push n (x ∷ xs) l w h = (w.0, ResultsWithin-push n xs l w.1 h)

BlocksWithin-push : (n : ℕ) (xs : List BlockId) (b : BlockId) → BlocksWithin n xs → b.0 < n → BlocksWithin n (xs ++ b ∷ [])
BlocksWithin-push n [] b w h = (h, tt)
BlocksWithin-push n (x ∷ xs) b w h = (w.0, BlocksWithin-push n xs b w.1 h)

pub is_block-push : (xs : List BlockId) (b : BlockId) (k : ℕ) → is_block (xs ++ b ∷ []) k ≡ (is_block xs k || nat_eq b.0 k)
is_block-push [] b k = or_false (nat_eq b.0 k)
is_block-push (x ∷ xs) b k = ap (λ c. nat_eq x.0 k || c) (is_block-push xs b k) ∙ sym (or-assoc (nat_eq x.0 k) (is_block xs k) (nat_eq b.0 k))

pub is_block-at : (xs : List BlockId) (i : ℕ) (b : BlockId) → slice_get xs i ≡ Some b → is_block xs b.0 ≡ true
is_block-at [] i b p = cc
is_block-at (x ∷ xs) zero b p = let e : x ≡ b = cc in ap (λ z. nat_eq z.0 b.0 || is_block xs b.0) e ∙ ap (λ c. c || is_block xs b.0) (nat_eq-refl b.0)
is_block-at (x ∷ xs) (suc i) b p = ap (λ c. nat_eq x.0 b.0 || c) (is_block-at xs i b p) ∙ or_true (nat_eq x.0 b.0)

ids_from-push : (k : ℕ) (ls : List TableLine) (l : TableLine) → ids_from k (ls ++ l ∷ []) ≡ ids_from k ls ++ record { 0 = k + length ls } ∷ []
ids_from-push k [] l = let e : k ≡ k + 0 = omega arith in ap (λ n. record { 0 = n } ∷ []) e
ids_from-push k (x ∷ ls) l =
    let e : k + 1 + length ls ≡ k + length (x ∷ ls) = omega arith in
    let r : ids_from (k + 1) (ls ++ l ∷ []) ≡ ids_from (k + 1) ls ++ record { 0 = k + 1 + length ls } ∷ [] = ids_from-push (k + 1) ls l in
    ap (λ z. record { 0 = k } ∷ z) (r ∙ ap (λ n. ids_from (k + 1) ls ++ record { 0 = n } ∷ []) e)

no_lines : (k : ℕ) (ls : List TableLine) → [] ≡ ids_from k ls → ls ≡ []
no_lines k [] p = refl
no_lines k (l ∷ ls) p = cc

-- the kind cares for nothing but arguments, result and blocks
FitsKind-more : (k : Option UnitKind) (t u : Table) → u.args ≡ t.args → u.result ≡ t.result → u.blocks ≡ t.blocks → length t.labels ≤ length u.labels → FitsKind k t → FitsKind k u
FitsKind-more None t u a r b h f = (a ∙ f.0, r ∙ f.1, b ∙ f.2)
FitsKind-more (Some kind.Func) t u a r b h f = (subst IsSome (sym r) f.0, subst (BlocksWithin (length u.labels)) (sym b) (BlocksWithin-more _ _ t.blocks h f.1))
FitsKind-more (Some kind.Proc) t u a r b h f = (r ∙ f.0, subst (BlocksWithin (length u.labels)) (sym b) (BlocksWithin-more _ _ t.blocks h f.1))
FitsKind-more (Some kind.Entity) t u a r b h f = (r ∙ f.0, b ∙ f.1)

FitsKind-args : (k : Option UnitKind) (t : Table) (args : List Arg) → IsSome k → FitsKind k t → FitsKind k (record t { args = args })
FitsKind-args None t args s f = cc
FitsKind-args (Some kind.Func) t args s f = f
FitsKind-args (Some kind.Proc) t args s f = f
FitsKind-args (Some kind.Entity) t args s f = f

FitsKind-block : (k : Option UnitKind) (t : Table) (b : BlockId) → HasBlocks k → b.0 < length t.labels → FitsKind k t → FitsKind k (with_block t b)
FitsKind-block None t b s h f = absurd s
FitsKind-block (Some kind.Func) t b s h f = (f.0, BlocksWithin-push _ t.blocks b f.1 h)
FitsKind-block (Some kind.Proc) t b s h f = (f.0, BlocksWithin-push _ t.blocks b f.1 h)
FitsKind-block (Some kind.Entity) t b s h f = absurd s

-- a new value
pub IsTable-new_value : (t : Table) (n : List ℕ) → has_name t.values n ≡ false → length t.values < 2 ^ 32 - 1 → IsTable t → IsTable (record t { values = t.values ++ n ∷ [] })
IsTable-new_value t n a room o = record {
  values_distinct = AllDistinct-push t.values n o.values_distinct (absent t.values n a);
  labels_distinct = o.labels_distinct;
  args_within = ArgsWithin-more _ _ t.args (omega (arith, length-append t.values (n ∷ []))) o.args_within;
  results_within = ResultsWithin-more _ _ t.lines (omega (arith, length-append t.values (n ∷ []))) o.results_within;
  defined_once = o.defined_once;
  fits_kind = FitsKind-more t.kind t (record t { values = t.values ++ n ∷ [] }) refl refl refl (omega arith) o.fits_kind;
  blocks_distinct = o.blocks_distinct;
  enough_bodies = o.enough_bodies;
  blocks_stand = o.blocks_stand;
  in_order = o.in_order;
  few = o.few;
  few_values = omega (arith, length-append t.values (n ∷ []));
  few_labels = o.few_labels;
}

pub IsTable-with_value : (t : Table) (n : List ℕ) → length t.values < 2 ^ 32 - 1 → IsTable t → IsTable (with_value t n)
IsTable-with_value t n room o = by (has_name t.values n) refl
  where
    by : (b : Bool) → has_name t.values n ≡ b → IsTable (if b then t else record t { values = t.values ++ n ∷ [] })
    by true e = o
    by false e = IsTable-new_value t n e room o

-- a new label
pub insts_at-more : (t : Table) (n : List ℕ) (b : ℕ) → insts_at (record t { labels = t.labels ++ n ∷ []; bodies = t.bodies ++ None ∷ [] }) b ≡ insts_at t b
insts_at-more t n b = ap (λ o. unwrap_or o []) (get_or-push_default t.bodies None b)

pub IsTable-new_label : (t : Table) (n : List ℕ) → has_name t.labels n ≡ false → length t.labels < 2 ^ 32 - 1 → IsTable t
    → IsTable (record t { labels = t.labels ++ n ∷ []; bodies = t.bodies ++ None ∷ [] })
IsTable-new_label t n a room o = record {
  values_distinct = o.values_distinct;
  labels_distinct = AllDistinct-push t.labels n o.labels_distinct (absent t.labels n a);
  args_within = o.args_within;
  results_within = o.results_within;
  defined_once = o.defined_once;
  fits_kind = FitsKind-more t.kind t (record t { labels = t.labels ++ n ∷ []; bodies = t.bodies ++ None ∷ [] }) refl refl refl (omega (arith, length-append t.labels (n ∷ []))) o.fits_kind;
  blocks_distinct = o.blocks_distinct;
  enough_bodies = omega (arith, o.enough_bodies, length-append t.labels (n ∷ []), length-append t.bodies (None ∷ []));
  blocks_stand = λ b. ap is_some (get_or-push_default t.bodies None b) ∙ o.blocks_stand b;
  in_order = ap flat (map-ext (λ b. insts_at (record t { labels = t.labels ++ n ∷ []; bodies = t.bodies ++ None ∷ [] }) b.0) (λ b. insts_at t b.0) t.blocks (λ b. insts_at-more t n b.0)) ∙ o.in_order;
  few = o.few;
  few_values = o.few_values;
  few_labels = omega (arith, length-append t.labels (n ∷ []));
}

pub IsTable-with_label : (t : Table) (n : List ℕ) → length t.labels < 2 ^ 32 - 1 → IsTable t → IsTable (with_label t n)
IsTable-with_label t n room o = by (has_name t.labels n) refl
  where
    by : (b : Bool) → has_name t.labels n ≡ b → IsTable (if b then t else record t { labels = t.labels ++ n ∷ []; bodies = t.bodies ++ None ∷ [] })
    by true e = o
    by false e = IsTable-new_label t n e room o

-- a unit that is begun
none_fits : (k : Option UnitKind) (t : Table) → k ≡ None → FitsKind k t → (t.args ≡ []) × (t.result ≡ None) × (t.blocks ≡ [])
none_fits None t e f = f
none_fits (Some k) t e f = cc

pub missing : (t : Table) → t.kind ≡ None → IsTable t → (t.args ≡ []) × (t.result ≡ None) × (t.blocks ≡ [])
missing t e o = none_fits t.kind t e o.fits_kind

pub missing-lines : (t : Table) → t.kind ≡ None → IsTable t → t.lines ≡ []
missing-lines t e o = no_lines 0 t.lines (sym (ap (λ bs. flat (map (λ b. insts_at t b.0) bs)) (missing t e o).2) ∙ o.in_order)

entity_begun : (t : Table) → Table
entity_begun t = record t { kind = Some kind.Entity; blocks = entity_block ∷ []; bodies = set (t.bodies ++ None ∷ []) 0 (Some []) }

IsTable-entity : (t : Table) → t.kind ≡ None → IsTable t → IsTable (record t { kind = Some kind.Entity; blocks = entity_block ∷ []; bodies = set (t.bodies ++ None ∷ []) 0 (Some []) })
IsTable-entity t e o = record {
  values_distinct = o.values_distinct;
  labels_distinct = o.labels_distinct;
  args_within = o.args_within;
  results_within = o.results_within;
  defined_once = o.defined_once;
  fits_kind = ((missing t e o).1, refl);
  blocks_distinct = λ i j k p q. one i k p ∙ sym (one j k q);
  enough_bodies = omega (arith, o.enough_bodies, length-append t.bodies (None ∷ []), length-set (t.bodies ++ None ∷ []) 0 (Some []));
  blocks_stand = λ b. stand b (same_or b 0);
  in_order = ap (λ b. unwrap_or b [] ++ []) first ∙ sym (ap (λ ls. ids_from 0 ls) (missing-lines t e o));
  few = o.few;
  few_values = o.few_values;
  few_labels = o.few_labels;
}
  where
    one : (i : ℕ) (k : BlockId) → slice_get (entity_block ∷ []) i ≡ Some k → i ≡ 0
    one zero k p = refl
    one (suc i) k p = cc

    first : get_or (set (t.bodies ++ None ∷ []) 0 (Some [])) 0 None ≡ Some []
    first = get_or-set_same (t.bodies ++ None ∷ []) 0 (Some []) None (omega (arith, length-append t.bodies (None ∷ [])))

    none : (b : ℕ) → is_some (get_or t.bodies b None) ≡ false
    none b = o.blocks_stand b ∙ ap (λ bs. is_block bs b) (missing t e o).2

    stand : (b : ℕ) → Same b 0 → is_some (get_or (set (t.bodies ++ None ∷ []) 0 (Some [])) b None) ≡ is_block (entity_block ∷ []) b
    stand b (same p) = subst (λ n. is_some (get_or (set (t.bodies ++ None ∷ []) 0 (Some [])) n None) ≡ is_block (entity_block ∷ []) n) (sym p) (ap is_some first)
    stand b (other p) = ap is_some (get_or-set_other (t.bodies ++ None ∷ []) 0 b (Some []) None p ∙ get_or-push_default t.bodies None b) ∙ none b
        ∙ sym (or_false (nat_eq 0 b) ∙ nat_eq-other 0 b (λ q. p (sym q)))

pub IsTable-begun : (t : Table) (k : UnitKind) → t.kind ≡ None → IsTable t → IsTable (begun t k)
IsTable-begun t kind.Func e o = record {
  values_distinct = o.values_distinct;
  labels_distinct = o.labels_distinct;
  args_within = o.args_within;
  results_within = o.results_within;
  defined_once = o.defined_once;
  fits_kind = (refl, subst (BlocksWithin (length t.labels)) (sym (missing t e o).2) tt);
  blocks_distinct = o.blocks_distinct;
  enough_bodies = o.enough_bodies;
  blocks_stand = o.blocks_stand;
  in_order = o.in_order;
  few = o.few;
  few_values = o.few_values;
  few_labels = o.few_labels;
}
IsTable-begun t kind.Proc e o = record {
  values_distinct = o.values_distinct;
  labels_distinct = o.labels_distinct;
  args_within = o.args_within;
  results_within = o.results_within;
  defined_once = o.defined_once;
  fits_kind = ((missing t e o).1, subst (BlocksWithin (length t.labels)) (sym (missing t e o).2) tt);
  blocks_distinct = o.blocks_distinct;
  enough_bodies = o.enough_bodies;
  blocks_stand = o.blocks_stand;
  in_order = o.in_order;
  few = o.few;
  few_values = o.few_values;
  few_labels = o.few_labels;
}
IsTable-begun t kind.Entity e o = subst (λ bs. IsTable (record t { kind = Some kind.Entity; blocks = bs ++ entity_block ∷ []; bodies = set (t.bodies ++ None ∷ []) 0 (Some []) }))
    (sym (missing t e o).2) (IsTable-entity t e o)

-- one more argument
pub IsTable-with_arg : (t : Table) (a : Arg) → IsSome t.kind → a.value.0 < length t.values → is_defined t a.value.0 ≡ false → IsTable t → IsTable (with_arg t a)
IsTable-with_arg t a s h n o = record {
  values_distinct = o.values_distinct;
  labels_distinct = o.labels_distinct;
  args_within = ArgsWithin-push _ t.args a o.args_within h;
  results_within = o.results_within;
  defined_once = λ k d e p q. once-with_arg t a k d e n (o.defined_once k d e) p q;
  fits_kind = FitsKind-args t.kind t (t.args ++ a ∷ []) s o.fits_kind;
  blocks_distinct = o.blocks_distinct;
  enough_bodies = o.enough_bodies;
  blocks_stand = o.blocks_stand;
  in_order = o.in_order;
  few = o.few;
  few_values = o.few_values;
  few_labels = o.few_labels;
}

-- another result type
func_fits : (k : Option UnitKind) (t : Table) (ty : TypeTree) → k ≡ Some kind.Func → FitsKind k t → FitsKind k (with_result t ty)
func_fits None t ty e f = cc
func_fits (Some kind.Func) t ty e f = (refl, f.1)
func_fits (Some kind.Proc) t ty e f = cc
func_fits (Some kind.Entity) t ty e f = cc

pub IsTable-with_result : (t : Table) (ty : TypeTree) → t.kind ≡ Some kind.Func → IsTable t → IsTable (with_result t ty)
IsTable-with_result t ty e o = record {
  values_distinct = o.values_distinct;
  labels_distinct = o.labels_distinct;
  args_within = o.args_within;
  results_within = o.results_within;
  defined_once = o.defined_once;
  fits_kind = func_fits t.kind t ty e o.fits_kind;
  blocks_distinct = o.blocks_distinct;
  enough_bodies = o.enough_bodies;
  blocks_stand = o.blocks_stand;
  in_order = o.in_order;
  few = o.few;
  few_values = o.few_values;
  few_labels = o.few_labels;
}

-- another block
pub apart : (bs : List BlockId) (b : ℕ) → is_block bs b ≡ false → (i : ℕ) (x : BlockId) → slice_get bs i ≡ Some x → x.0 ≢ b
apart bs b a i x p q = let e : is_block bs b ≡ true = ap (is_block bs) (sym q) ∙ is_block-at bs i x p in cc

pub insts_at-written : (t : Table) (b k : ℕ) (body : Option (List InstId)) → k ≢ b → unwrap_or (get_or (set t.bodies b body) k None) [] ≡ insts_at t k
insts_at-written t b k body h = ap (λ o. unwrap_or o []) (get_or-set_other t.bodies b k body None h)

pub IsTable-with_block : (t : Table) (b : BlockId) → HasBlocks t.kind → b.0 < length t.labels → is_block t.blocks b.0 ≡ false → IsTable t → IsTable (with_block t b)
IsTable-with_block t b s h a o = record {
  values_distinct = o.values_distinct;
  labels_distinct = o.labels_distinct;
  args_within = o.args_within;
  results_within = o.results_within;
  defined_once = o.defined_once;
  fits_kind = FitsKind-block t.kind t b s h o.fits_kind;
  blocks_distinct = AllDistinct-push t.blocks b o.blocks_distinct (λ i p. apart t.blocks b.0 a i b p refl);
  enough_bodies = omega (arith, o.enough_bodies, length-set t.bodies b.0 (Some []));
  blocks_stand = λ k. stand k (same_or k b.0);
  in_order = ap flat (map-append now t.blocks (b ∷ [])) ∙ flat-append (map now t.blocks) (now b ∷ []) ∙ (λ i. flat (others i) ++ (last i ++ []))
      ∙ append-nil (flat (map (λ x. insts_at t x.0) t.blocks)) ∙ o.in_order;
  few = o.few;
  few_values = o.few_values;
  few_labels = o.few_labels;
}
  where
    now : BlockId → List InstId
    now x = insts_at (with_block t b) x.0

    room : b.0 < length t.bodies
    room = omega (arith, h, o.enough_bodies)

    stand : (k : ℕ) → Same k b.0 → is_some (get_or (set t.bodies b.0 (Some [])) k None) ≡ is_block (t.blocks ++ b ∷ []) k
    stand k (same e) = subst (λ n. is_some (get_or (set t.bodies b.0 (Some [])) n None) ≡ is_block (t.blocks ++ b ∷ []) n) (sym e)
        (ap is_some (get_or-set_same t.bodies b.0 (Some []) None room) ∙ sym (is_block-push t.blocks b b.0 ∙ ap (λ c. is_block t.blocks b.0 || c) (nat_eq-refl b.0) ∙ or_true (is_block t.blocks b.0)))
    stand k (other e) = ap is_some (get_or-set_other t.bodies b.0 k (Some []) None e) ∙ o.blocks_stand k
        ∙ sym (is_block-push t.blocks b k ∙ ap (λ c. is_block t.blocks k || c) (nat_eq-other b.0 k (λ q. e (sym q))) ∙ or_false (is_block t.blocks k))

    others : map now t.blocks ≡ map (λ x. insts_at t x.0) t.blocks
    others = map-same now (λ x. insts_at t x.0) t.blocks (λ i x p. insts_at-written t b.0 x.0 (Some []) (apart t.blocks b.0 a i x p))

    last : now b ≡ []
    last = ap (λ x. unwrap_or x []) (get_or-set_same t.bodies b.0 (Some []) None room)

-- the last block stands, and comes after the others
pub last-split : (t : Table) → 0 < length t.blocks → (front : List BlockId) × (t.blocks ≡ front ++ last_block t ∷ [])
last-split t h = front_last t.blocks entity_block (length t.blocks - 1) (omega (arith, h))

pub last-stands : (t : Table) → 0 < length t.blocks → is_block t.blocks (last_block t).0 ≡ true
last-stands t h = let s = last-split t h in
    ap (λ bs. is_block bs (last_block t).0) s.1 ∙ is_block-push s.0 (last_block t) (last_block t).0 ∙ ap (λ c. is_block s.0 (last_block t).0 || c) (nat_eq-refl (last_block t).0)
    ∙ or_true (is_block s.0 (last_block t).0)

pub stands-within : (t : Table) (b : ℕ) → IsTable t → is_block t.blocks b ≡ true → b < length t.bodies
stands-within t b o e = by (trichotomy (length t.bodies) b)
  where
    gone : length t.bodies ≤ b → ⊥
    gone h = let p : is_some (get_or t.bodies b None) ≡ false = ap is_some (get_or_past t.bodies b None h) in
        let q : is_some (get_or t.bodies b None) ≡ true = o.blocks_stand b ∙ e in cc

    by : Trichotomy (length t.bodies) b → b < length t.bodies
    by (before h) = h
    by (at h) = absurd (gone (omega (arith, h)))
    by (past h) = absurd (gone (omega (arith, h)))

pub last-within : (t : Table) → IsTable t → 0 < length t.blocks → (last_block t).0 < length t.bodies
last-within t o h = stands-within t (last_block t).0 o (last-stands t h)

-- the blocks before the last one are others
pub front-apart : (t : Table) (front : List BlockId) → IsTable t → t.blocks ≡ front ++ last_block t ∷ [] → (i : ℕ) (x : BlockId) → slice_get front i ≡ Some x → x.0 ≢ (last_block t).0
front-apart t front o e i x p q =
    let w : x ≡ last_block t = λ j. record { 0 = q j } in
    let l : i < length front = slice_get_within front i x p in
    let y : slice_get t.blocks i ≡ Some (last_block t) = ap (λ z. slice_get z i) e ∙ get_below front (last_block t ∷ []) i l ∙ p ∙ ap Some w in
    let z : slice_get t.blocks (length front) ≡ Some (last_block t) = ap (λ z. slice_get z (length front)) e ∙ get_last front (last_block t) in
    let n : i ≡ length front = o.blocks_distinct i (length front) (last_block t) y z in omega (arith, n, l)

-- one more line
pub IsTable-with_line : (t : Table) (r : Option ValueId) (i : Inst) → 0 < length t.blocks → ResultWithin (length t.values) r → length t.lines < 65536 → result_defined t r ≡ false → IsTable t
    → IsTable (with_line t r i)
IsTable-with_line t r i h w few n o = record {
  values_distinct = o.values_distinct;
  labels_distinct = o.labels_distinct;
  args_within = o.args_within;
  results_within = ResultsWithin-push _ t.lines line o.results_within w;
  defined_once = λ k d e p q. once-with_line t r i k d e n (o.defined_once k d e) p q;
  fits_kind = FitsKind-more t.kind t (with_line t r i) refl refl refl (omega arith) o.fits_kind;
  blocks_distinct = o.blocks_distinct;
  enough_bodies = omega (arith, o.enough_bodies, length-set t.bodies b (Some longer));
  blocks_stand = λ k. stand k (same_or k b);
  in_order = ap (λ bs. flat (map now bs)) s.1 ∙ ap flat (map-append now s.0 (last_block t ∷ [])) ∙ flat-append (map now s.0) (now (last_block t) ∷ []) ∙ (λ j. flat (others j) ++ (last j ++ []))
      ∙ ordered;
  few = omega (arith, length-append t.lines (line ∷ []));
  few_values = o.few_values;
  few_labels = o.few_labels;
}
  where
    line : TableLine
    line = record { result = r; inst = i }

    b : ℕ
    b = (last_block t).0

    id : InstId
    id = record { 0 = length t.lines }

    longer : List InstId
    longer = insts_at t (last_block t).0 ++ record { 0 = length t.lines } ∷ []

    old : BlockId → List InstId
    old x = insts_at t x.0

    now : BlockId → List InstId
    now x = insts_at (with_line t r i) x.0

    s : (front : List BlockId) × (t.blocks ≡ front ++ last_block t ∷ [])
    s = last-split t h

    stand : (k : ℕ) → Same k b → is_some (get_or (set t.bodies b (Some longer)) k None) ≡ is_block t.blocks k
    stand k (same e) = subst (λ n. is_some (get_or (set t.bodies b (Some longer)) n None) ≡ is_block t.blocks n) (sym e)
        (ap is_some (get_or-set_same t.bodies b (Some longer) None (last-within t o h)) ∙ sym (last-stands t h))
    stand k (other e) = ap is_some (get_or-set_other t.bodies b k (Some longer) None e) ∙ o.blocks_stand k

    others : map now s.0 ≡ map old s.0
    others = map-same now old s.0 (λ j x p. insts_at-written t b x.0 (Some longer) (front-apart t s.0 o s.1 j x p))

    last : now (last_block t) ≡ longer
    last = ap (λ x. unwrap_or x []) (get_or-set_same t.bodies b (Some longer) None (last-within t o h))

    before_it : flat (map old s.0) ++ (insts_at t b ++ []) ≡ ids_from 0 t.lines
    before_it = sym (flat-append (map old s.0) (insts_at t b ∷ [])) ∙ sym (ap flat (map-append old s.0 (last_block t ∷ []))) ∙ sym (ap (λ bs. flat (map old bs)) s.1) ∙ o.in_order

    ordered : flat (map old s.0) ++ (longer ++ []) ≡ ids_from 0 (t.lines ++ line ∷ [])
    ordered =
        ap (λ l. flat (map old s.0) ++ l) (append-nil longer)
        ∙ sym (append_assoc (flat (map old s.0)) (insts_at t b) (id ∷ []))
        ∙ ap (λ l. l ++ id ∷ []) (ap (λ l. flat (map old s.0) ++ l) (sym (append-nil (insts_at t b))) ∙ before_it)
        ∙ sym (ids_from-push 0 t.lines line ∙ ap (λ n. ids_from 0 t.lines ++ record { 0 = n } ∷ []) (zero-add (length t.lines)))

-- values past the table
is_arg-past : (n k : ℕ) (xs : List Arg) → ArgsWithin n xs → n ≤ k → is_arg xs k ≡ false
is_arg-past n k [] w h = refl
is_arg-past n k (a ∷ xs) w h = rw (nat_eq-other a.value.0 k (λ e. omega (arith, w.0, e))) (is_arg-past n k xs w.1 h)

is_result-past : (n k : ℕ) (r : Option ValueId) → ResultWithin n r → n ≤ k → is_result r k ≡ false
is_result-past n k None w h = refl
is_result-past n k (Some v) w h = nat_eq-other v.0 k (λ e. omega (arith, e))

is_made-past : (n k : ℕ) (xs : List TableLine) → ResultsWithin n xs → n ≤ k → is_made xs k ≡ false
is_made-past n k [] w h = refl
is_made-past n k (l ∷ xs) w h = rw (is_result-past n k l.result w.0 h) (is_made-past n k xs w.1 h)

pub is_defined-past : (t : Table) (k : ℕ) → IsTable t → length t.values ≤ k → is_defined t k ≡ false
is_defined-past t k o h = rw (is_arg-past _ k t.args o.args_within h, is_made-past _ k t.lines o.results_within h) refl

args_among-few : (defs : List ValueDef) → args_among defs ≤ length defs
args_among-few [] = omega arith
args_among-few (value_def.Missing ∷ defs) = omega (arith, args_among-few defs)
args_among-few (value_def.Arg j ∷ defs) = omega (arith, args_among-few defs)
args_among-few (value_def.Inst i ∷ defs) = omega (arith, args_among-few defs)

args_among-push : (defs : List ValueDef) → args_among (defs ++ value_def.Missing ∷ []) ≡ args_among defs
args_among-push [] = refl
args_among-push (d ∷ defs) = ap (λ n. arg_count d + n) (args_among-push defs)

not_arg : (d : ValueDef) → has_definition d ≡ false → arg_count d ≡ 0
not_arg value_def.Missing e = refl
not_arg (value_def.Arg j) e = cc
not_arg (value_def.Inst i) e = refl

args_among-set : (defs : List ValueDef) (k : ℕ) (e : ValueDef) → k < length defs → has_definition (get_or defs k value_def.Missing) ≡ false → args_among (set defs k e) ≡ arg_count e + args_among defs
args_among-set [] k e h n = absurd (omega arith)
args_among-set (d ∷ defs) zero e h n = let z : arg_count d ≡ 0 = not_arg d n in omega (arith, z)
args_among-set (d ∷ defs) (suc k) e h n = let r : args_among (set defs k e) ≡ arg_count e + args_among defs = args_among-set defs k e (omega arith) n in omega (arith, r)

-- each argument is the definition of another value
pub args-few : (t : Table) (defs : List ValueDef) → IsTable t → Definitions t defs → length t.args < 2 ^ 32
args-few t defs o f = omega (arith, f.counted, f.long, args_among-few defs, o.few_values)

pub Definitions-new_value : (t : Table) (defs : List ValueDef) (n : List ℕ) → IsTable t → Definitions t defs → Definitions (record t { values = t.values ++ n ∷ [] }) (defs ++ value_def.Missing ∷ [])
Definitions-new_value t defs n o f = record {
  long = omega (arith, f.long, length-append defs (value_def.Missing ∷ []), length-append t.values (n ∷ []));
  right = λ k h. subst (IsDefinition t k) (sym (get_or-push_default defs value_def.Missing k)) (by k h (trichotomy (length t.values) k));
  counted = args_among-push defs ∙ f.counted;
}
  where
    by : (k : ℕ) → k < length (t.values ++ n ∷ []) → Trichotomy (length t.values) k → IsDefinition t k (get_or defs k value_def.Missing)
    by k h (before b) = f.right k b
    by k h (at b) = subst (IsDefinition t k) (sym (get_or_past defs k value_def.Missing (omega (arith, b, f.long)))) (is_defined-past t k o (omega (arith, b)))
    by k h (past b) = absurd (omega (arith, b, h, length-append t.values (n ∷ [])))

pub Definitions-with_arg : (t : Table) (defs : List ValueDef) (a : Arg) → is_defined t a.value.0 ≡ false → a.value.0 < length t.values → Definitions t defs
    → Definitions (with_arg t a) (set defs a.value.0 (value_def.Arg (length t.args)))
Definitions-with_arg t defs a n h f = record {
  long = omega (arith, f.long, length-set defs a.value.0 (value_def.Arg (length t.args)));
  right = λ k w. by k w (same_or k a.value.0);
  counted =
      args_among-set defs a.value.0 (value_def.Arg (length t.args)) l (sym (definition-tells t a.value.0 (get_or defs a.value.0 value_def.Missing) (f.right a.value.0 h)) ∙ n)
      ∙ omega (arith, f.counted, length-append t.args (a ∷ []));
}
  where
    l : a.value.0 < length defs
    l = omega (arith, h, f.long)

    by : (k : ℕ) → k < length t.values → Same k a.value.0 → IsDefinition (with_arg t a) k (get_or (set defs a.value.0 (value_def.Arg (length t.args))) k value_def.Missing)
    by k w (same e) = subst (λ i. IsDefinition (with_arg t a) i (get_or (set defs a.value.0 (value_def.Arg (length t.args))) i value_def.Missing)) (sym e)
        (subst (IsDefinition (with_arg t a) a.value.0) (sym (get_or-set_same defs a.value.0 (value_def.Arg (length t.args)) value_def.Missing l)) (arg-defines t a))
    by k w (other e) = subst (IsDefinition (with_arg t a) k) (sym (get_or-set_other defs a.value.0 k (value_def.Arg (length t.args)) value_def.Missing e))
        (IsDefinition-with_arg t a k (get_or defs k value_def.Missing) (nat_eq-other a.value.0 k (λ p. e (sym p))) (f.right k w))

pub Definitions-with_line : (t : Table) (defs : List ValueDef) (r : Option ValueId) (i : Inst) → result_defined t r ≡ false → ResultWithin (length t.values) r → Definitions t defs
    → Definitions (with_line t r i) (with_definition defs r (value_def.Inst record { 0 = length t.lines }))
Definitions-with_line t defs None i n w f = record { long = f.long; right = λ k h. IsDefinition-with_line t None i k (get_or defs k value_def.Missing) refl (f.right k h); counted = f.counted }
Definitions-with_line t defs (Some v) i n w f = record {
  long = omega (arith, f.long, length-set defs v.0 (value_def.Inst record { 0 = length t.lines }));
  right = λ k h. by k h (same_or k v.0);
  counted =
      args_among-set defs v.0 (value_def.Inst record { 0 = length t.lines }) l (sym (definition-tells t v.0 (get_or defs v.0 value_def.Missing) (f.right v.0 w)) ∙ n)
      ∙ omega (arith, f.counted);
}
  where
    l : v.0 < length defs
    l = omega (arith, w, f.long)

    new : ValueDef
    new = value_def.Inst record { 0 = length t.lines }

    by : (k : ℕ) → k < length t.values → Same k v.0 → IsDefinition (with_line t (Some v) i) k (get_or (set defs v.0 (value_def.Inst record { 0 = length t.lines })) k value_def.Missing)
    by k h (same e) = subst (λ j. IsDefinition (with_line t (Some v) i) j (get_or (set defs v.0 (value_def.Inst record { 0 = length t.lines })) j value_def.Missing)) (sym e)
        (subst (IsDefinition (with_line t (Some v) i) v.0) (sym (get_or-set_same defs v.0 (value_def.Inst record { 0 = length t.lines }) value_def.Missing l)) (line-defines t v i))
    by k h (other e) = subst (IsDefinition (with_line t (Some v) i) k) (sym (get_or-set_other defs v.0 k (value_def.Inst record { 0 = length t.lines }) value_def.Missing e))
        (IsDefinition-with_line t (Some v) i k (get_or defs k value_def.Missing) (nat_eq-other v.0 k (λ p. e (sym p))) (f.right k h))

-- definitions tell only of arguments and lines
pub Definitions-same : (t u : Table) (defs : List ValueDef) → u.values ≡ t.values → u.args ≡ t.args → u.lines ≡ t.lines → Definitions t defs → Definitions u defs
Definitions-same t u defs v a l f = record {
  long = f.long ∙ sym (ap (λ x. length x) v);
  right = λ k h. IsDefinition-same t u k (get_or defs k value_def.Missing) a l (f.right k (omega (arith, h, ap (λ x. length x) v)));
  counted = f.counted ∙ sym (ap (λ x. length x) a);
}

-- a table with these parts is in order
pub IsTable-by : (u t : Table) → u.kind ≡ t.kind → u.values ≡ t.values → u.labels ≡ t.labels → u.args ≡ t.args → u.result ≡ t.result → u.blocks ≡ t.blocks → u.bodies ≡ t.bodies → u.lines ≡ t.lines
    → IsTable t → IsTable u
IsTable-by u t k v l a r b d n o = subst IsTable (sym same_table) o
  where
    same_table : u ≡ t
    same_table = λ i. record { kind = k i; values = v i; labels = l i; args = a i; result = r i; blocks = b i; bodies = d i; lines = n i }

-- what the body of a block told
pub not_block : (t : Table) (b : ℕ) (body : Option (List InstId)) → IsTable t → b < length t.bodies → body ≡ get_or t.bodies b body → is_some body ≡ false → is_block t.blocks b ≡ false
not_block t b body o h e f = sym (o.blocks_stand b) ∙ ap is_some (sym (get_or_read t.bodies b body h e None)) ∙ f

pub is_block-told : (t : Table) (b : ℕ) (body : Option (List InstId)) → IsTable t → b < length t.bodies → body ≡ get_or t.bodies b body → is_some body ≡ true → is_block t.blocks b ≡ true
is_block-told t b body o h e f = sym (o.blocks_stand b) ∙ ap is_some (sym (get_or_read t.bodies b body h e None)) ∙ f

-- what a definition that was read told
pub definition-read : (t : Table) (defs : List ValueDef) (k : ℕ) (d : ValueDef) → Definitions t defs → k < length t.values → d ≡ get_or defs k d → IsDefinition t k d
definition-read t defs k d f h e = subst (IsDefinition t k) (sym (get_or_read defs k d (omega (arith, h, f.long)) e value_def.Missing)) (f.right k h)

pub definition-told : (t : Table) (defs : List ValueDef) (k : ℕ) (d : ValueDef) → Definitions t defs → k < length t.values → d ≡ get_or defs k d → is_defined t k ≡ has_definition d
definition-told t defs k d f h e = definition-tells t k d (definition-read t defs k d f h e)

-- the block that was read last, and its body
pub last-read : (t : Table) (b : BlockId) → 0 < length t.blocks → b ≡ get_or t.blocks (length t.blocks - 1) b → b ≡ last_block t
last-read t b h e = get_or_read t.blocks (length t.blocks - 1) b (omega (arith, h)) e entity_block

pub last-body : (t : Table) → IsTable t → 0 < length t.blocks → IsSome (get_or t.bodies (last_block t).0 None)
last-body t o h = o.blocks_stand (last_block t).0 ∙ last-stands t h

pub result-told : (t : Table) (defs : List ValueDef) (v : Option ValueId) → Definitions t defs → ResultWithin (length t.values) v → defined_among defs v ≡ result_defined t v
result-told t defs None f h = refl
result-told t defs (Some v) f h = sym (definition-tells t v.0 (get_or defs v.0 value_def.Missing) (f.right v.0 h))

-- the lines and bodies that were written
pub line-laid : (t : Table) (b : BlockId) (lines : List TableLine) (bodies : List (Option (List InstId))) (r : Option ValueId) (i : Inst) → b ≡ last_block t
    → lines ≡ t.lines ++ record { result = r; inst = i } ∷ []
    → bodies ≡ set t.bodies b.0 (Some (unwrap_or (get_or t.bodies b.0 None) [] ++ record { 0 = length t.lines } ∷ [])) → record t { lines = lines; bodies = bodies } ≡ with_line t r i
line-laid t b lines bodies r i e l d =
    let w : bodies ≡ (with_line t r i).bodies = d ∙ ap (λ (x : BlockId). set t.bodies x.0 (Some (unwrap_or (get_or t.bodies x.0 None) [] ++ record { 0 = length t.lines } ∷ []))) e in
    λ j. record t { lines = l j; bodies = w j }
