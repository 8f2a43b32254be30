-- In a module no unit defines a value or a label twice, and none has too many instructions.
use Rattle.std.proofs.Common.{◌≡◌, ℕ, ◌<◌, suc, Bool, true, false, ◌||◌, nat_eq, List, [], ◌∷◌, ◌++◌, length, map, get_or, Option, Some, None, slice_get, refl, ap, sym, ◌∙◌, subst, arith, length-append, append_assoc}
use Rattle.std.specs.Option.{option_map}
use Rattle.std.proofs.lemmas.List.{map-append, get_or_append_left}
use Rattle.std.proofs.lemmas.Bool.{or_from}
use Rattle.lh_unit.specs.Contents.{BlockText, args_define, lines_define, defines_label_in, is_result_name, line_count}
use Rattle.lh_unit.specs.Reads.{args_repeat}
use Rattle.lh_unit.specs.Table.{Table, IsTable, IsDefinition, FitsKind, HasBlocks, ArgsWithin, ResultWithin, ResultsWithin, BlocksWithin, entity_block, flat, is_arg, is_made, is_result, is_block, no_line}
use Rattle.lh_unit.specs.Naming.{arg_text, line_text, maybe_text, label_text, block_text}
use Rattle.lh_unit.specs.Arena.{Arena, IsArena, naming, table_at, kind_at, args_at, blocks_at, unit_text_at, unit_count, value_count, label_count, unit_name_at, label_name_at, value_name_at}
use Rattle.lh_unit.specs.Hierarchy.{lines_of}
use Rattle.lh_unit.specs.declared.inst.UnitKind.{UnitKind}
use Rattle.lh_unit.specs.declared.inst.UnitKind.TheVariants as kind
use Rattle.lh_unit.specs.declared.inst.Arg.{Arg}
use Rattle.lh_unit.specs.declared.inst.ValueId.{ValueId}
use Rattle.lh_unit.specs.declared.inst.BlockId.{BlockId}
use Rattle.lh_unit.specs.declared.inst.InstId.{InstId}
use Rattle.lh_unit.specs.declared.inst.ValueDef.TheVariants as value_def
use Rattle.lh_unit.specs.declared.table.TableLine.{TableLine}
use Rattle.lh_unit.proofs.Lists.{nat_eq-is, not_true}
use Rattle.lh_unit.proofs.Defined.{arg-ids, line-ids, flat_lines, line_count-ids, label_text-named, blocks-within}
use Rattle.lh_unit.proofs.ById.{args_define-by_id, same_label-by_id}
use Rattle.lh_unit.proofs.DefinitionsGive.{same-argument, is_arg-there}
use Rattle.lh_text_laws.specs.Printable.{result_repeats, results_repeat, label_repeats, labels_repeat}
use Rattle.lh_lower_copy.specs.Copying.{IsOnce}
use Rattle.lh_types.proofs.Lists.{get_end, get_below}

-- ---- lists

get-next : {X : Type 0} (xs : List X) (y : X) (ys : List X) (d : X) → get_or (xs ++ y ∷ ys) (length xs) d ≡ y
get-next [] y ys d = refl
get-next (x ∷ xs) y ys d = get-next xs y ys d

within-next : {X : Type 0} (xs : List X) (y : X) (ys : List X) → length xs < length (xs ++ y ∷ ys)
within-next xs y ys = omega (arith, length-append xs (y ∷ ys))

within-left : {X : Type 0} (xs ys : List X) (k : ℕ) → k < length xs → k < length (xs ++ ys)
within-left xs ys k h = omega (arith, h, length-append xs ys)

args-parts : (n : ℕ) (xs ys : List Arg) → ArgsWithin n (xs ++ ys) → ArgsWithin n xs × ArgsWithin n ys
args-parts n [] ys w = (tt, w)
args-parts n (x ∷ xs) ys w = let p = args-parts n xs ys w.1 in ((w.0, p.0), p.1)

results-parts : (n : ℕ) (xs ys : List TableLine) → ResultsWithin n (xs ++ ys) → ResultsWithin n xs × ResultsWithin n ys
results-parts n [] ys w = (tt, w)
results-parts n (x ∷ xs) ys w = let p = results-parts n xs ys w.1 in ((w.0, p.0), p.1)

blocks-parts : (n : ℕ) (xs ys : List BlockId) → BlocksWithin n (xs ++ ys) → BlocksWithin n xs × BlocksWithin n ys
blocks-parts n [] ys w = (tt, w)
blocks-parts n (x ∷ xs) ys w = let p = blocks-parts n xs ys w.1 in ((w.0, p.0), p.1)

-- ---- what is found

result-found : (r : Option ValueId) (k : ℕ) → is_result r k ≡ true → r ≡ Some (record { 0 = k })
result-found None k e = absurd cc
result-found (Some v) k e = let p : v.0 ≡ k = nat_eq-is v.0 k e in λ i. Some (record { 0 = p i })

made-found : (ls : List TableLine) (k : ℕ) → is_made ls k ≡ true → (j : ℕ) × (j < length ls) × ((get_or ls j no_line).result ≡ Some (record { 0 = k }))
made-found [] k e = absurd cc
made-found (l ∷ ls) k e = by (is_result l.result k) refl e (λ q. made-found ls k q)
  where
    by : (b : Bool) → is_result l.result k ≡ b → (b || is_made ls k) ≡ true → (is_made ls k ≡ true → (j : ℕ) × (j < length ls) × ((get_or ls j no_line).result ≡ Some (record { 0 = k }))) → (j : ℕ)
        × (j < length (l ∷ ls)) × ((get_or (l ∷ ls) j no_line).result ≡ Some (record { 0 = k }))
    by true p q more = (0, omega arith, result-found l.result k p)
    by false p q more = let f = more q in (suc f.0, omega (arith, f.1), f.2)

block-found : (bs : List BlockId) (k : ℕ) → is_block bs k ≡ true → (j : ℕ) × (j < length bs) × (slice_get bs j ≡ Some (record { 0 = k }))
block-found [] k e = absurd cc
block-found (b ∷ bs) k e = by (nat_eq b.0 k) refl e (λ q. block-found bs k q)
  where
    by : (c : Bool) → nat_eq b.0 k ≡ c → (c || is_block bs k) ≡ true → (is_block bs k ≡ true → (j : ℕ) × (j < length bs) × (slice_get bs j ≡ Some (record { 0 = k }))) → (j : ℕ) × (j < length (b ∷ bs))
        × (slice_get (b ∷ bs) j ≡ Some (record { 0 = k }))
    by true p q more = let r : b.0 ≡ k = nat_eq-is b.0 k p in (0, omega arith, λ i. Some (record { 0 = r i }))
    by false p q more = let f = more q in (suc f.0, omega (arith, f.1), f.2)

inst-inj : (x y : InstId) → value_def.Inst x ≡ value_def.Inst y → x ≡ y
inst-inj x y e = cc

same-inst : (i j : ℕ) → value_def.Inst (record { 0 = i }) ≡ value_def.Inst (record { 0 = j }) → i ≡ j
same-inst i j e = ap (λ (z : InstId). z.0) (inst-inj (record { 0 = i }) (record { 0 = j }) e)

apart : (i j : ℕ) → value_def.Arg i ≡ value_def.Inst (record { 0 = j }) → ⊥
apart i j e = cc

-- ---- a table

module _ (t : Table) (o : IsTable t) where
  arg-here : (seen more : List Arg) (x : Arg) → t.args ≡ seen ++ x ∷ more → IsDefinition t x.value.0 (value_def.Arg (length seen))
  arg-here seen more x e = (
    subst (λ (xs : List Arg). length seen < length xs) (sym e) (within-next seen x more),
    ap (λ xs. option_map (λ (a : Arg). a.value) (slice_get xs (length seen))) e
        ∙ ap (option_map (λ (a : Arg). a.value)) (get_end seen x more),
  )

  line-here : (seen more : List TableLine) (x : TableLine) (v : ValueId) → t.lines ≡ seen ++ x ∷ more → x.result ≡ Some v → IsDefinition t v.0 (value_def.Inst (record { 0 = length seen }))
  line-here seen more x v e r = (
    subst (λ (xs : List TableLine). length seen < length xs) (sym e) (within-next seen x more),
    ap (λ (xs : List TableLine). (get_or xs (length seen) no_line).result) e
        ∙ ap (λ (y : TableLine). y.result) (get-next seen x more no_line) ∙ r,
  )

  arg-once : (seen more : List Arg) (x : Arg) → t.args ≡ seen ++ x ∷ more → is_arg seen x.value.0 ≡ false
  arg-once seen more x e = not_true (is_arg seen x.value.0) (λ p.
      let f = is_arg-there seen x.value.0 p in
      let d : IsDefinition t x.value.0 (value_def.Arg f.0) = (
        subst (λ (xs : List Arg). f.0 < length xs) (sym e) (within-left seen (x ∷ more) f.0 f.1),
        ap (λ xs. option_map (λ (a : Arg). a.value) (slice_get xs f.0)) e ∙ ap (option_map (λ (a : Arg). a.value)) (get_below seen (x ∷ more) f.0 f.1) ∙ f.2,
      ) in
      let q : f.0 ≡ length seen = same-argument f.0 (length seen) (o.defined_once x.value.0 (value_def.Arg f.0) (value_def.Arg (length seen)) d (arg-here seen more x e)) in
      omega (arith, q, f.1))

  result-no-arg : (seen more : List TableLine) (x : TableLine) (v : ValueId) → t.lines ≡ seen ++ x ∷ more → x.result ≡ Some v → is_arg t.args v.0 ≡ false
  result-no-arg seen more x v e r = not_true (is_arg t.args v.0) (λ p.
      let f = is_arg-there t.args v.0 p in
      let d : IsDefinition t v.0 (value_def.Arg f.0) = (f.1, f.2) in
      apart f.0 (length seen) (o.defined_once v.0 (value_def.Arg f.0) (value_def.Inst (record { 0 = length seen })) d (line-here seen more x v e r)))

  result-once : (seen more : List TableLine) (x : TableLine) (v : ValueId) → t.lines ≡ seen ++ x ∷ more → x.result ≡ Some v → is_made seen v.0 ≡ false
  result-once seen more x v e r = not_true (is_made seen v.0) (λ p.
      let f = made-found seen v.0 p in
      let d : IsDefinition t v.0 (value_def.Inst (record { 0 = f.0 })) = (
        subst (λ (xs : List TableLine). f.0 < length xs) (sym e) (within-left seen (x ∷ more) f.0 f.1),
        ap (λ (xs : List TableLine). (get_or xs f.0 no_line).result) e ∙ ap (λ (y : TableLine). y.result) (get_or_append_left seen (x ∷ more) no_line f.0 f.1) ∙ f.2,
      ) in
      let q : f.0 ≡ length seen = same-inst f.0 (length seen) (o.defined_once v.0 (value_def.Inst (record { 0 = f.0 })) (value_def.Inst (record { 0 = length seen })) d
      (line-here seen more x v e r)) in
      omega (arith, q, f.1))

  block-once : (seen more : List BlockId) (x : BlockId) → t.blocks ≡ seen ++ x ∷ more → is_block seen x.0 ≡ false
  block-once seen more x e = not_true (is_block seen x.0) (λ p.
      let f = block-found seen x.0 p in
      let d : slice_get t.blocks f.0 ≡ Some x = ap (λ xs. slice_get xs f.0) e ∙ get_below seen (x ∷ more) f.0 f.1 ∙ f.2 in
      let n : slice_get t.blocks (length seen) ≡ Some x = ap (λ xs. slice_get xs (length seen)) e ∙ get_end seen x more in
      let q : f.0 ≡ length seen = o.blocks_distinct f.0 (length seen) x d n in omega (arith, q, f.1))

-- ---- a unit

lines_of-flat : (bs : List BlockText) → lines_of bs ≡ flat (map (λ (b : BlockText). b.lines) bs)
lines_of-flat [] = refl
lines_of-flat (b ∷ bs) = ap (λ q. b.lines ++ q) (lines_of-flat bs)

module _ (a : Arena) (u : ℕ) (o : IsArena a) (h : u < unit_count a) where
  args-once : (seen rest : List Arg) → args_at a u ≡ seen ++ rest → args_repeat (map (arg_text (naming a u)) seen) (map (arg_text (naming a u)) rest) ≡ false
  args-once seen [] e = refl
  args-once seen (x ∷ more) e =
      let w = args-parts (value_count a u) seen (x ∷ more) (subst (ArgsWithin (value_count a u)) e (o.tables u h).args_within) in
      let p : args_define (value_name_at a u x.value.0) (map (arg_text (naming a u)) seen) ≡ false = arg-ids (unit_name_at a) (table_at a u) (o.tables u h) x.value.0 seen w.1.0 w.0
      ∙ arg-once (table_at a u) (o.tables u h) seen more x e in
      let q : args_repeat (map (arg_text (naming a u)) (seen ++ x ∷ [])) (map (arg_text (naming a u)) more) ≡ false = args-once (seen ++ x ∷ []) more (e ∙ sym (append_assoc seen (x ∷ []) more)) in
      let m : map (arg_text (naming a u)) (seen ++ x ∷ []) ≡ map (arg_text (naming a u)) seen ++ arg_text (naming a u) x ∷ [] = map-append (arg_text (naming a u)) seen (x ∷ []) in
      or_from (args_define (value_name_at a u x.value.0) (map (arg_text (naming a u)) seen)) _ p (ap (λ s. args_repeat s (map (arg_text (naming a u)) more)) (sym m) ∙ q)

  line-once : (seen more : List TableLine) (x : TableLine) (r : Option ValueId) → (table_at a u).lines ≡ seen ++ x ∷ more → x.result ≡ r
      → result_repeats (unit_text_at a u).args (map (line_text (naming a u)) seen) (maybe_text (naming a u) r) ≡ false
  line-once seen more x None e q = refl
  line-once seen more x (Some v) e q =
      let w = results-parts (value_count a u) seen (x ∷ more) (subst (ResultsWithin (value_count a u)) e (o.tables u h).results_within) in
      let i : v.0 < value_count a u = subst (ResultWithin (value_count a u)) q w.1.0 in
      or_from (args_define (value_name_at a u v.0) (unit_text_at a u).args) (lines_define (value_name_at a u v.0) (map (line_text (naming a u)) seen))
      (args_define-by_id a u o h v.0 i ∙ result-no-arg (table_at a u) (o.tables u h) seen more x v e q)
      (line-ids (unit_name_at a) (table_at a u) (o.tables u h) v.0 seen i w.0 ∙ result-once (table_at a u) (o.tables u h) seen more x v e q)

  lines-once : (seen rest : List TableLine) → (table_at a u).lines ≡ seen ++ rest → results_repeat (unit_text_at a u).args (map (line_text (naming a u)) seen) (map (line_text (naming a u)) rest) ≡ false
  lines-once seen [] e = refl
  lines-once seen (x ∷ more) e =
      let q : results_repeat (unit_text_at a u).args (map (line_text (naming a u)) (seen ++ x ∷ [])) (map (line_text (naming a u)) more)
      ≡ false = lines-once (seen ++ x ∷ []) more (e ∙ sym (append_assoc seen (x ∷ []) more)) in
      let m : map (line_text (naming a u)) (seen ++ x ∷ []) ≡ map (line_text (naming a u)) seen ++ line_text (naming a u) x ∷ [] = map-append (line_text (naming a u)) seen (x ∷ []) in
      or_from (result_repeats (unit_text_at a u).args (map (line_text (naming a u)) seen) (maybe_text (naming a u) x.result)) _ (line-once seen more x x.result e refl)
      (ap (λ s. results_repeat (unit_text_at a u).args s (map (line_text (naming a u)) more)) (sym m) ∙ q)

  label-ids : (k : HasBlocks (kind_at a u)) (b : ℕ) (xs : List BlockId) → b < label_count a u → BlocksWithin (label_count a u) xs
      → defines_label_in (label_name_at a u b) (map (block_text (naming a u) (table_at a u)) xs) ≡ is_block xs b
  label-ids k b [] w v = refl
  label-ids k b (x ∷ xs) w v =
      let p : is_result_name (label_name_at a u b) (label_text (naming a u) (kind_at a u) x) ≡ nat_eq x.0 b =
      ap (is_result_name (label_name_at a u b)) (label_text-named (naming a u) (kind_at a u) x k) ∙ same_label-by_id a u o h x.0 b v.0 w in
      let r : defines_label_in (label_name_at a u b) (map (block_text (naming a u) (table_at a u)) xs) ≡ is_block xs b = label-ids k b xs w v.1 in λ i. p i || r i

  labels-once : (k : HasBlocks (kind_at a u)) (seen rest : List BlockId) → blocks_at a u ≡ seen ++ rest
      → labels_repeat (map (block_text (naming a u) (table_at a u)) seen) (map (block_text (naming a u) (table_at a u)) rest) ≡ false
  labels-once k seen [] e = refl
  labels-once k seen (x ∷ more) e =
      let w = blocks-parts (label_count a u) seen (x ∷ more) (subst (BlocksWithin (label_count a u)) e (blocks-within (kind_at a u) (table_at a u) k (o.tables u h).fits_kind)) in
      let l : label_text (naming a u) (kind_at a u) x ≡ Some (label_name_at a u x.0) = label_text-named (naming a u) (kind_at a u) x k in
      let p : label_repeats (map (block_text (naming a u) (table_at a u)) seen) (label_text (naming a u) (kind_at a u) x) ≡ false =
      ap (label_repeats (map (block_text (naming a u) (table_at a u)) seen)) l ∙ label-ids k x.0 seen w.1.0 w.0 ∙ block-once (table_at a u) (o.tables u h) seen more x e in
      let q : labels_repeat (map (block_text (naming a u) (table_at a u)) (seen ++ x ∷ [])) (map (block_text (naming a u) (table_at a u)) more)
      ≡ false = labels-once k (seen ++ x ∷ []) more (e ∙ sym (append_assoc seen (x ∷ []) more)) in
      let m : map (block_text (naming a u) (table_at a u)) (seen ++ x ∷ []) ≡ map (block_text (naming a u) (table_at a u)) seen ++ block_text (naming a u) (table_at a u) x
      ∷ [] = map-append (block_text (naming a u) (table_at a u)) seen (x ∷ []) in
      or_from (label_repeats (map (block_text (naming a u) (table_at a u)) seen) (label_text (naming a u) (kind_at a u) x)) _ p
      (ap (λ s. labels_repeat s (map (block_text (naming a u) (table_at a u)) more)) (sym m) ∙ q)

  -- an entity has one block, and a unit that is Missing has none
  all-labels : (k : Option UnitKind) → kind_at a u ≡ k → FitsKind k (table_at a u) → labels_repeat [] (unit_text_at a u).blocks ≡ false
  all-labels None e f = ap (λ bs. labels_repeat [] (map (block_text (naming a u) (table_at a u)) bs)) f.2
  all-labels (Some kind.Func) e f = labels-once (subst HasBlocks (sym e) tt) [] (blocks_at a u) refl
  all-labels (Some kind.Proc) e f = labels-once (subst HasBlocks (sym e) tt) [] (blocks_at a u) refl
  all-labels (Some kind.Entity) e f =
      ap (λ bs. labels_repeat [] (map (block_text (naming a u) (table_at a u)) bs)) f.1
      ∙ ap (λ k. label_repeats [] (label_text (naming a u) k entity_block) || false) e

  pub is-once : IsOnce (unit_text_at a u)
  is-once =
      let ls : lines_of (unit_text_at a u).blocks ≡ map (line_text (naming a u)) (table_at a u).lines = lines_of-flat (unit_text_at a u).blocks
      ∙ flat_lines (naming a u) (table_at a u) (o.tables u h) in
      let n : line_count (unit_text_at a u).blocks ≡ length (table_at a u).lines = line_count-ids (naming a u) (unit_name_at a u) (table_at a u) (o.tables u h) in
      record {
        args = args-once [] (args_at a u) refl;
        results = ap (results_repeat (unit_text_at a u).args []) ls ∙ lines-once [] (table_at a u).lines refl;
        labels = all-labels (kind_at a u) refl (o.tables u h).fits_kind;
        few = omega (arith, n, (o.tables u h).few);
      }
