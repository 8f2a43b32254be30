-- What is asked of names in a unit is what is asked of ids.
use Rattle.std.proofs.Common.{◌≡◌, ℕ, ◌<◌, zero, suc, Bool, true, false, ◌||◌, nat_eq, if◌then◌else◌, List, [], ◌∷◌, ◌++◌, map, get_or, Option, Some, None, IsSome, is_some, slice_get, refl, ap, sym, ◌∙◌, eqb-true}
use Rattle.std.specs.Option.{option_map}
use Rattle.lh_unit_names.specs.UnitNames.{same_unit_name}
use Rattle.lh_unit.specs.Contents.{LineText, BlockText, is_result_name, lines_define, blocks_define, args_define, defines_value, defines_label, defines_unit}
use Rattle.lh_unit_names.specs.Names.{same_name}
use Rattle.lh_unit.specs.Named.{unit_named, block_of}
use Rattle.lh_unit.specs.Typing.{or_else, line_giving, inst_giving, arg_named}
use Rattle.lh_unit.specs.Table.{HasBlocks, ArgsWithin, BlocksWithin, ResultWithin, ResultsWithin, is_arg, is_result, is_made, is_defined, is_block, line_at, no_line, insts_at, flat}
use Rattle.lh_unit.specs.Naming.{inst_text, line_text, arg_text, label_text, block_text, maybe_text}
use Rattle.lh_unit.specs.Arena.{Arena, IsArena, contents, item_text_at, unit_text_at, naming, table_at, kind_at, args_at, blocks_at, unit_count, value_count, label_count, unit_name_at, value_name_at, label_name_at}
use Rattle.lh_unit.specs.ById.{arg_being, inst_making, insts_make, blocks_make, is_item, inst_line_text}
use Rattle.lh_unit.specs.declared.inst.UnitId.{UnitId}
use Rattle.lh_unit.specs.declared.inst.UnitKind.{UnitKind}
use Rattle.lh_unit.specs.declared.inst.BlockId.{BlockId}
use Rattle.lh_unit.specs.declared.inst.InstId.{InstId}
use Rattle.lh_unit.specs.declared.inst.ValueId.{ValueId}
use Rattle.lh_unit.specs.declared.inst.Arg.{Arg}
use Rattle.lh_unit.specs.declared.inst.Item.{Item}
use Rattle.lh_unit.specs.declared.inst.Item.TheVariants as item
use Rattle.lh_unit.specs.declared.table.TableLine.{TableLine}
use Rattle.lh_unit.proofs.Lists.{Same, same, other, same_or, nat_eq-refl, nat_eq-other, nat_eq-is, not_true, or_true}
use Rattle.lh_unit.proofs.Arenas.{same_unit_name-is, same_unit_name-refl}
use Rattle.lh_unit.proofs.Defined.{same_name-ids, arg-ids, result-ids, line-ids, flat_lines, blocks_define-flat, defines_value-ids, defines_label-ids, label_text-named, blocks-within}
use Rattle.lh_unit.proofs.ModuleLaws.{unit-by_name}

-- the first that fits, where the others are alike
choose : {X : Type 0} (c d : Bool) (x y : X) (r : Option X) → (c ≡ true → x ≡ y) → r ≡ (if d then Some y else None) → (if c then Some x else r) ≡ (if (c || d) then Some y else None)
choose true d x y r e q = ap Some (e refl)
choose false d x y r e q = q

chosen : {X Y : Type 0} (g : X → Y) (c : Bool) (x : X) (r : Option Y) (s : Option X) → r ≡ option_map g s → (if c then Some (g x) else r) ≡ option_map g (if c then Some x else s)
chosen g true x r s e = refl
chosen g false x r s e = e

-- a result at a place of a list of lines
pub ResultWithin-at : (n : ℕ) (ls : List TableLine) (i : ℕ) → ResultsWithin n ls → ResultWithin n (get_or ls i no_line).result
ResultWithin-at n [] i w = tt
ResultWithin-at n (l ∷ ls) zero w = w.0
ResultWithin-at n (l ∷ ls) (suc i) w = ResultWithin-at n ls i w.1

-- the lines of the blocks, one after another
or_else-assoc : {X : Type 0} (p q r : Option X) → or_else (or_else p q) r ≡ or_else p (or_else q r)
or_else-assoc None q r = refl
or_else-assoc (Some x) q r = refl

chosen_or : {X : Type 0} (c : Bool) (x : X) (p q r : Option X) → p ≡ or_else q r → (if c then Some x else p) ≡ or_else (if c then Some x else q) r
chosen_or true x p q r e = refl
chosen_or false x p q r e = e

pub line_giving-append : (n : List ℕ) (xs ys : List LineText) → line_giving n (xs ++ ys) ≡ or_else (line_giving n xs) (line_giving n ys)
line_giving-append n [] ys = refl
line_giving-append n (x ∷ xs) ys = chosen_or (is_result_name n x.result) x.inst (line_giving n (xs ++ ys)) (line_giving n xs) (line_giving n ys) (line_giving-append n xs ys)

inst_giving-flat : (n : List ℕ) (bs : List BlockText) → inst_giving n bs ≡ line_giving n (flat (map (λ (b : BlockText). b.lines) bs))
inst_giving-flat n [] = refl
inst_giving-flat n (b ∷ bs) = ap (or_else (line_giving n b.lines)) (inst_giving-flat n bs) ∙ sym (line_giving-append n b.lines (flat (map (λ (x : BlockText). x.lines) bs)))

-- names of units tell units apart
pub same_unit-by_id : (a : Arena) (v w : ℕ) → IsArena a → v < unit_count a → w < unit_count a → same_unit_name (unit_name_at a v) (unit_name_at a w) ≡ nat_eq v w
same_unit-by_id a v w o p q = by (same_or v w)
  where
    by : Same v w → same_unit_name (unit_name_at a v) (unit_name_at a w) ≡ nat_eq v w
    by (same e) = ap (λ k. same_unit_name (unit_name_at a k) (unit_name_at a w)) e ∙ same_unit_name-refl (unit_name_at a w) ∙ sym (ap (λ k. nat_eq k w) e ∙ nat_eq-refl w)
    by (other e) = not_true (same_unit_name (unit_name_at a v) (unit_name_at a w)) (λ r. e (unit-by_name a v w o p q (same_unit_name-is (unit_name_at a v) (unit_name_at a w) r)))
        ∙ sym (nat_eq-other v w e)

-- each unit of these items is an entry
abbrev pub UnitsWithin : ℕ → List Item → Type 0
UnitsWithin n items = (i : ℕ) (w : UnitId) → slice_get items i ≡ Some (item.Unit w) → w.0 < n

defines_unit-among : (a : Arena) (v : ℕ) (items : List Item) → IsArena a → v < unit_count a → UnitsWithin (unit_count a) items
    → defines_unit (unit_name_at a v) (map (item_text_at a) items) ≡ is_item items v
defines_unit-among a v [] o p w = refl
defines_unit-among a v (item.Unit x ∷ items) o p w =
    let q : same_unit_name (unit_name_at a x.0) (unit_name_at a v) ≡ nat_eq x.0 v = same_unit-by_id a x.0 v o (w 0 x refl) p in
    let r : defines_unit (unit_name_at a v) (map (item_text_at a) items) ≡ is_item items v = defines_unit-among a v items o p (λ i y e. w (suc i) y e) in λ i. q i || r i
defines_unit-among a v (item.Declare d ∷ items) o p w = defines_unit-among a v items o p (λ i y e. w (suc i) y e)

unit_named-among : (a : Arena) (v : ℕ) (items : List Item) → IsArena a → v < unit_count a → UnitsWithin (unit_count a) items
    → unit_named (unit_name_at a v) (map (item_text_at a) items) ≡ (if is_item items v then Some (unit_text_at a v) else None)
unit_named-among a v [] o p w = refl
unit_named-among a v (item.Unit x ∷ items) o p w =
    let q : same_unit_name (unit_name_at a x.0) (unit_name_at a v) ≡ nat_eq x.0 v = same_unit-by_id a x.0 v o (w 0 x refl) p in
    let r : unit_named (unit_name_at a v) (map (item_text_at a) items) ≡ (if is_item items v then Some (unit_text_at a v) else None) = unit_named-among a v items o p (λ i y e. w (suc i) y e) in
    ap (λ c. if c then Some (unit_text_at a x.0) else unit_named (unit_name_at a v) (map (item_text_at a) items)) q
    ∙ choose (nat_eq x.0 v) (is_item items v) (unit_text_at a x.0) (unit_text_at a v) (unit_named (unit_name_at a v) (map (item_text_at a) items)) (λ e. ap (unit_text_at a) (nat_eq-is x.0 v e)) r
unit_named-among a v (item.Declare d ∷ items) o p w = unit_named-among a v items o p (λ i y e. w (suc i) y e)

-- a unit is an item exactly where it is begun
is_item-at : (items : List Item) (i : ℕ) (v : UnitId) → slice_get items i ≡ Some (item.Unit v) → is_item items v.0 ≡ true
is_item-at [] i v e = cc
is_item-at (item.Unit x ∷ items) zero v e = let q : x ≡ v = cc in ap (λ z. nat_eq z.0 v.0 || is_item items v.0) q ∙ ap (λ c. c || is_item items v.0) (nat_eq-refl v.0)
is_item-at (item.Declare d ∷ items) zero v e = cc
is_item-at (item.Unit x ∷ items) (suc i) v e = ap (λ c. nat_eq x.0 v.0 || c) (is_item-at items i v e) ∙ or_true (nat_eq x.0 v.0)
is_item-at (item.Declare d ∷ items) (suc i) v e = is_item-at items i v e

item-of : (items : List Item) (v : ℕ) → is_item items v ≡ true → (i : ℕ) × (slice_get items i ≡ Some (item.Unit record { 0 = v }))
item-of [] v e = cc
item-of (item.Unit x ∷ items) v e = by (same_or x.0 v) (λ r. item-of items v r)
  where
    by : Same x.0 v → (is_item items v ≡ true → (i : ℕ) × (slice_get items i ≡ Some (item.Unit record { 0 = v }))) → (i : ℕ) × (slice_get (item.Unit x ∷ items) i ≡ Some (item.Unit record { 0 = v }))
    by (same q) f = (0, λ i. Some (item.Unit record { 0 = q i }))
    by (other q) f = let r = f (ap (λ c. c || is_item items v) (sym (nat_eq-other x.0 v q)) ∙ e) in (suc r.0, r.1)
item-of (item.Declare d ∷ items) v e = let r = item-of items v e in (suc r.0, r.1)

is_item-begun : (a : Arena) (v : ℕ) → IsArena a → v < unit_count a → is_item a.items v ≡ is_some (kind_at a v)
is_item-begun a v o p = by (is_item a.items v) (is_some (kind_at a v)) refl refl
  where
    by : (b c : Bool) → is_item a.items v ≡ b → is_some (kind_at a v) ≡ c → b ≡ c
    by true true e f = refl
    by false false e f = refl
    by true false e f = let r = item-of a.items v e in let s : is_some (kind_at a v) ≡ true = o.items_begun r.0 record { 0 = v } r.1 in cc
    by false true e f = let r = o.items_defined record { 0 = v } p f in let s : is_item a.items v ≡ true = is_item-at a.items r.0 record { 0 = v } r.1 in cc

pub defines_unit-by_id : (a : Arena) (v : ℕ) → IsArena a → v < unit_count a → defines_unit (unit_name_at a v) (contents a) ≡ is_some (kind_at a v)
defines_unit-by_id a v o p = defines_unit-among a v a.items o p o.items_within ∙ is_item-begun a v o p

pub unit_named-by_id : (a : Arena) (v : ℕ) → IsArena a → v < unit_count a → unit_named (unit_name_at a v) (contents a) ≡ (if is_some (kind_at a v) then Some (unit_text_at a v) else None)
unit_named-by_id a v o p = unit_named-among a v a.items o p o.items_within ∙ ap (λ c. if c then Some (unit_text_at a v) else None) (is_item-begun a v o p)

-- a defined unit stands among the contents
pub has_kind : (k : Option UnitKind) → IsSome k → is_some k ≡ true
has_kind k s = s

module _ (a : Arena) (u : ℕ) (o : IsArena a) (h : u < unit_count a) where
  -- the names of values and labels tell them apart
  pub same_value-by_id : (v w : ℕ) → v < value_count a u → w < value_count a u → same_name (value_name_at a u v) (value_name_at a u w) ≡ nat_eq v w
  same_value-by_id v w p q = same_name-ids (table_at a u).values v w (o.tables u h).values_distinct p q

  pub same_label-by_id : (b c : ℕ) → b < label_count a u → c < label_count a u → same_name (label_name_at a u b) (label_name_at a u c) ≡ nat_eq b c
  same_label-by_id b c p q = same_name-ids (table_at a u).labels b c (o.tables u h).labels_distinct p q

  -- the result of an instruction
  pub result-within : (i : ℕ) → ResultWithin (value_count a u) (line_at (table_at a u) i).result
  result-within i = ResultWithin-at (value_count a u) (table_at a u).lines i (o.tables u h).results_within

  pub is_result_name-by_id : (v : ℕ) (r : Option ValueId) → v < value_count a u → ResultWithin (value_count a u) r → is_result_name (value_name_at a u v) (maybe_text (naming a u) r) ≡ is_result r v
  is_result_name-by_id v r p w = result-ids (unit_name_at a) (table_at a u) (o.tables u h) v r p w

  -- what arguments, instructions and blocks define
  pub args_define-by_id : (v : ℕ) → v < value_count a u → args_define (value_name_at a u v) (unit_text_at a u).args ≡ is_arg (args_at a u) v
  args_define-by_id v p = arg-ids (unit_name_at a) (table_at a u) (o.tables u h) v (args_at a u) p (o.tables u h).args_within

  pub lines_define-by_id : (v : ℕ) (is : List InstId) → v < value_count a u → lines_define (value_name_at a u v) (map (inst_line_text (naming a u) (table_at a u)) is) ≡ insts_make (table_at a u) is v
  lines_define-by_id v [] p = refl
  lines_define-by_id v (i ∷ is) p =
      let q : is_result_name (value_name_at a u v) (maybe_text (naming a u) (line_at (table_at a u) i.0).result) ≡ is_result (line_at (table_at a u) i.0).result v =
      is_result_name-by_id v (line_at (table_at a u) i.0).result p (result-within i.0) in
      let r : lines_define (value_name_at a u v) (map (inst_line_text (naming a u) (table_at a u)) is) ≡ insts_make (table_at a u) is v = lines_define-by_id v is p in λ j. q j || r j

  pub blocks_define-by_id : (v : ℕ) (bs : List BlockId) → v < value_count a u → blocks_define (value_name_at a u v) (map (block_text (naming a u) (table_at a u)) bs) ≡ blocks_make (table_at a u) bs v
  blocks_define-by_id v [] p = refl
  blocks_define-by_id v (b ∷ bs) p =
      let q : lines_define (value_name_at a u v) (map (inst_line_text (naming a u) (table_at a u)) (insts_at (table_at a u) b.0)) ≡ insts_make (table_at a u) (insts_at (table_at a u) b.0) v =
      lines_define-by_id v (insts_at (table_at a u) b.0) p in
      let r : blocks_define (value_name_at a u v) (map (block_text (naming a u) (table_at a u)) bs) ≡ blocks_make (table_at a u) bs v = blocks_define-by_id v bs p in λ j. q j || r j

  pub all_blocks_define-by_id : (v : ℕ) → v < value_count a u → blocks_define (value_name_at a u v) (unit_text_at a u).blocks ≡ is_made (table_at a u).lines v
  all_blocks_define-by_id v p =
      blocks_define-flat (value_name_at a u v) (unit_text_at a u).blocks
      ∙ ap (lines_define (value_name_at a u v)) (flat_lines (naming a u) (table_at a u) (o.tables u h))
      ∙ line-ids (unit_name_at a) (table_at a u) (o.tables u h) v (table_at a u).lines p (o.tables u h).results_within

  pub defines_value-by_id : (v : ℕ) → v < value_count a u → defines_value (value_name_at a u v) (unit_text_at a u) ≡ is_defined (table_at a u) v
  defines_value-by_id v p = defines_value-ids (unit_name_at a) (unit_name_at a u) (table_at a u) v (o.tables u h) p

  pub defines_label-by_id : (b : ℕ) → HasBlocks (kind_at a u) → b < label_count a u → defines_label (label_name_at a u b) (unit_text_at a u) ≡ is_block (blocks_at a u) b
  defines_label-by_id b k p = defines_label-ids (unit_name_at a) (unit_name_at a u) (table_at a u) b (o.tables u h) k p

  -- the argument of a name, the instruction that gives it, and the block of a label
  pub arg_named-by_id : (v : ℕ) → v < value_count a u → arg_named (value_name_at a u v) (unit_text_at a u).args ≡ option_map (arg_text (naming a u)) (arg_being (args_at a u) v)
  arg_named-by_id v p = by (args_at a u) (o.tables u h).args_within
    where
      by : (xs : List Arg) → ArgsWithin (value_count a u) xs → arg_named (value_name_at a u v) (map (arg_text (naming a u)) xs) ≡ option_map (arg_text (naming a u)) (arg_being xs v)
      by [] w = refl
      by (x ∷ xs) w =
          ap (λ c. if c then Some (arg_text (naming a u) x) else arg_named (value_name_at a u v) (map (arg_text (naming a u)) xs)) (same_value-by_id x.value.0 v w.0 p)
          ∙ chosen (arg_text (naming a u)) (nat_eq x.value.0 v) x (arg_named (value_name_at a u v) (map (arg_text (naming a u)) xs)) (arg_being xs v) (by xs w.1)

  pub inst_giving-by_id : (v : ℕ) → v < value_count a u → inst_giving (value_name_at a u v) (unit_text_at a u).blocks ≡ option_map (inst_text (naming a u)) (inst_making (table_at a u).lines v)
  inst_giving-by_id v p =
      inst_giving-flat (value_name_at a u v) (unit_text_at a u).blocks
      ∙ ap (line_giving (value_name_at a u v)) (flat_lines (naming a u) (table_at a u) (o.tables u h))
      ∙ by (table_at a u).lines (o.tables u h).results_within
    where
      by : (ls : List TableLine) → ResultsWithin (value_count a u) ls → line_giving (value_name_at a u v) (map (line_text (naming a u)) ls) ≡ option_map (inst_text (naming a u)) (inst_making ls v)
      by [] w = refl
      by (l ∷ ls) w =
          ap (λ c. if c then Some (inst_text (naming a u) l.inst) else line_giving (value_name_at a u v) (map (line_text (naming a u)) ls)) (is_result_name-by_id v l.result p w.0)
          ∙ chosen (inst_text (naming a u)) (is_result l.result v) l.inst (line_giving (value_name_at a u v) (map (line_text (naming a u)) ls)) (inst_making ls v) (by ls w.1)

  pub block_of-by_id : (b : ℕ) → HasBlocks (kind_at a u) → b < label_count a u
      → block_of (label_name_at a u b) (unit_text_at a u).blocks ≡ (if is_block (blocks_at a u) b then Some (block_text (naming a u) (table_at a u) record { 0 = b }) else None)
  block_of-by_id b k p = by (blocks_at a u) (blocks-within (kind_at a u) (table_at a u) k (o.tables u h).fits_kind)
    where
      text : BlockId → BlockText
      text x = block_text (naming a u) (table_at a u) x

      rest : List BlockId → Option BlockText
      rest bs = block_of (label_name_at a u b) (map (block_text (naming a u) (table_at a u)) bs)

      by : (bs : List BlockId) → BlocksWithin (label_count a u) bs → block_of (label_name_at a u b) (map (block_text (naming a u) (table_at a u)) bs)
          ≡ (if is_block bs b then Some (block_text (naming a u) (table_at a u) record { 0 = b }) else None)
      by [] w = refl
      by (x ∷ bs) w =
          let q : is_result_name (label_name_at a u b) (label_text (naming a u) (kind_at a u) x) ≡ nat_eq x.0 b =
          ap (is_result_name (label_name_at a u b)) (label_text-named (naming a u) (kind_at a u) x k) ∙ same_label-by_id x.0 b w.0 p in
          ap (λ c. if c then Some (block_text (naming a u) (table_at a u) x) else block_of (label_name_at a u b) (map (block_text (naming a u) (table_at a u)) bs)) q
          ∙ choose (nat_eq x.0 b) (is_block bs b) (block_text (naming a u) (table_at a u) x) (block_text (naming a u) (table_at a u) record { 0 = b }) (block_of (label_name_at a u b)
          (map (block_text (naming a u) (table_at a u)) bs))
          (λ e. ap (block_text (naming a u) (table_at a u)) (λ i. record { 0 = nat_eq-is x.0 b e i })) (by bs w.1)

pub line_giving-later : (n : List ℕ) (xs ys : List LineText) → line_giving n xs ≡ None → line_giving n (xs ++ ys) ≡ line_giving n ys
line_giving-later n [] ys h = refl
line_giving-later n (x ∷ xs) ys h = at (is_result_name n x.result) refl (line_giving-later n xs ys)
  where
    at : (b : Bool) → is_result_name n x.result ≡ b → (line_giving n xs ≡ None → line_giving n (xs ++ ys) ≡ line_giving n ys) → line_giving n ((x ∷ xs) ++ ys) ≡ line_giving n ys
    at true q r = let e : Some x.inst ≡ None = (rw q at h) in absurd cc
    at false q r = rw q (r (rw q at h))

pub lines_define-append : (n : List ℕ) (xs ys : List LineText) → lines_define n xs ≡ true → lines_define n (xs ++ ys) ≡ true
lines_define-append n [] ys h = absurd cc
lines_define-append n (x ∷ xs) ys h = at (is_result_name n x.result) refl (lines_define-append n xs ys)
  where
    at : (b : Bool) → is_result_name n x.result ≡ b → (lines_define n xs ≡ true → lines_define n (xs ++ ys) ≡ true) → lines_define n ((x ∷ xs) ++ ys) ≡ true
    at true q r = rw q refl
    at false q r = rw q (r (rw q at h))

-- where a block stands
pub is_block-index : (bs : List BlockId) (b : ℕ) → is_block bs b ≡ true → (j : ℕ) × (slice_get bs j ≡ Some (record { 0 = b }))
is_block-index [] b e = cc
is_block-index (x ∷ bs) b e = by (nat_eq x.0 b) refl (λ r. is_block-index bs b r)
  where
    by : (c : Bool) → nat_eq x.0 b ≡ c → (is_block bs b ≡ true → (j : ℕ) × (slice_get bs j ≡ Some (record { 0 = b }))) → (j : ℕ) × (slice_get (x ∷ bs) j ≡ Some (record { 0 = b }))
    by true p f = let q : x.0 ≡ b = eqb-true x.0 b p in (0, λ i. Some (record { 0 = q i }))
    by false p f = let r = f (ap (λ z. z || is_block bs b) (sym p) ∙ e) in (suc r.0, r.1)
