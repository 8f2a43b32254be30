-- An arena stays in order under changes of one unit, a new unit and a new item.
use Rattle.std.proofs.Common.{◌≡◌, ◌≢◌, ℕ, ◌-◌, ◌^◌, ◌<◌, ◌≤◌, Bool, true, false, List, [], ◌∷◌, ◌++◌, length, get_or, set, if◌then◌else◌, Option, Some, None, IsSome, slice_get, nat_eq, Result, Ok, Err, refl, ap, sym, ◌∙◌, subst, arith, length-append, length-set}
use Rattle.std.proofs.lemmas.List.{get_or-set_same, get_or-set_other, get_or_past, get_or_read}
use Rattle.std.proofs.lemmas.Option.{slice_get_within}
use Rattle.std.specs.List.{list_any}
use Rattle.std.proofs.lemmas.Bool.{and_parts}
use lib.Pointwise.{pointwise}
use Rattle.lh_types.specs.Types.{TypeTree}
use Rattle.lh_types.specs.declared.memory.NoMemory.{NoMemory}
use Rattle.lh_unit_names.specs.UnitNames.{same_unit_name}
use Rattle.lh_unit.specs.Table.{Table, IsTable, IsDefinition, ResultWithin, HasBlocks, no_table}
use Rattle.lh_unit.specs.TableCalls.{with_value, with_label, with_result, with_line, FindsValueIn, FindsLabelIn, TakesArg, TakesBlock, TakesLine}
use Rattle.lh_unit_names.specs.Distinct.{has_name}
use Rattle.lh_unit.specs.Within.{sizes_of, InstWithin}
use Rattle.lh_unit.specs.Arena.{Arena, IsArena, InstPlaced, IsOpen, table_at, kind_at, unit_count}
use Rattle.lh_unit_names.specs.declared.name.UnitName.{UnitName}
use Rattle.lh_unit.specs.declared.inst.UnitId.{UnitId}
use Rattle.lh_unit.specs.declared.inst.ValueId.{ValueId}
use Rattle.lh_unit.specs.declared.inst.ValueDef.{ValueDef}
use Rattle.lh_unit.specs.declared.inst.ValueDef.TheVariants as value_def
use Rattle.lh_unit.specs.declared.inst.BlockId.{BlockId}
use Rattle.lh_unit.specs.declared.inst.InstId.{InstId}
use Rattle.lh_unit.specs.declared.inst.UnitKind.TheVariants as kind
use Rattle.lh_unit.specs.declared.inst.UnitFault.{UnitFault}
use Rattle.lh_unit.specs.declared.inst.UnitFault.TheVariants as fault
use Rattle.lh_unit.specs.declared.inst.Inst.{Inst}
use Rattle.lh_unit.specs.declared.inst.Arg.{Arg}
use Rattle.lh_unit.specs.declared.inst.Declare.{Declare}
use Rattle.lh_unit.specs.declared.inst.Item.TheVariants as item
use Rattle.lh_unit.specs.declared.table.TableLine.{TableLine}
use Rattle.lh_unit.proofs.Lists.{Same, same, other, same_or, get_or-push_default, nat_eq-is, nat_eq-refl}
use Rattle.lh_unit_names.proofs.Lists.{Trichotomy, before, at, past, trichotomy, Pushed, old, new, pushed, AllDistinct-push, other_keys}
use Rattle.lh_types.proofs.Lists.{get_below, get_last}
use Rattle.lh_unit.proofs.Tables.{IsTable-with_value, IsTable-with_label, IsTable-with_arg, IsTable-with_result, IsTable-with_block, IsTable-with_line}
use Rattle.lh_unit_names.proofs.NameLists.{same_name-is, same_name-refl}
use Rattle.lh_unit.proofs.Within.{InstWithin-more}

-- the arena with another table for the unit u
abbrev pub with_table : Arena → ℕ → Table → Arena
with_table a u t = record a { units = set a.units u t }

pub table_at-same : (a : Arena) (u : ℕ) (t : Table) → u < length a.units → table_at (with_table a u t) u ≡ t
table_at-same a u t h = get_or-set_same a.units u t no_table h

pub table_at-other : (a : Arena) (u k : ℕ) (t : Table) → k ≢ u → table_at (with_table a u t) k ≡ table_at a k
table_at-other a u k t h = get_or-set_other a.units u k t no_table h

-- a unit's table is changed, in a module of n units, and stays in order
pub record Keeps (n : ℕ) (t u : Table) : Type 0 where
  pub table : IsTable u
  pub kind_stays : u.kind ≡ t.kind
  pub placed : (i : ℕ) (l : TableLine) → slice_get u.lines i ≡ Some l → InstWithin (sizes_of n u) l.inst

pub IsArena-with_table : (a : Arena) (u : ℕ) (t : Table) → IsArena a → u < length a.units → Keeps (unit_count a) (table_at a u) t → IsArena (with_table a u t)
IsArena-with_table a u t o h k = record {
  long = o.long ∙ sym (length-set a.units u t);
  few = omega (arith, o.few, length-set a.units u t);
  names_distinct = o.names_distinct;
  tables = λ v w. tables v (omega (arith, w, length-set a.units u t)) (same_or v u);
  placed = λ v i l e. placed v i l e (same_or v u);
  items_within = λ i v e. omega (arith, o.items_within i v e, length-set a.units u t);
  items_begun = λ i v e. begun_there v (o.items_begun i v e) (same_or v.0 u);
  items_distinct = o.items_distinct;
  items_defined = λ v w s. o.items_defined v (omega (arith, w, length-set a.units u t)) (begun_here v s (same_or v.0 u));
}
  where
    here : (v : ℕ) → v ≡ u → table_at (with_table a u t) v ≡ t
    here v e = ap (table_at (with_table a u t)) e ∙ table_at-same a u t h

    count : unit_count (with_table a u t) ≡ unit_count a
    count = length-set a.units u t

    tables : (v : ℕ) → v < length a.units → Same v u → IsTable (table_at (with_table a u t) v)
    tables v w (same e) = subst IsTable (sym (here v e)) k.table
    tables v w (other e) = subst IsTable (sym (table_at-other a u v t e)) (o.tables v w)

    placed : (v i : ℕ) (l : TableLine) → slice_get (table_at (with_table a u t) v).lines i ≡ Some l → Same v u → InstPlaced (with_table a u t) v l.inst
    placed v i l e (same p) =
        let q : slice_get t.lines i ≡ Some l = ap (λ (x : Table). slice_get x.lines i) (sym (here v p)) ∙ e in
        subst (λ n. InstWithin (sizes_of n (table_at (with_table a u t) v)) l.inst) (sym count) (subst (λ (x : Table). InstWithin (sizes_of (unit_count a) x) l.inst) (sym (here v p)) (k.placed i l q))
    placed v i l e (other p) =
        let q : slice_get (table_at a v).lines i ≡ Some l = ap (λ (x : Table). slice_get x.lines i) (sym (table_at-other a u v t p)) ∙ e in
        subst (λ n. InstWithin (sizes_of n (table_at (with_table a u t) v)) l.inst) (sym count)
        (subst (λ (x : Table). InstWithin (sizes_of (unit_count a) x) l.inst) (sym (table_at-other a u v t p)) (o.placed v i l q))

    kinds : (v : ℕ) → Same v u → kind_at (with_table a u t) v ≡ kind_at a v
    kinds v (same e) = ap (λ (x : Table). x.kind) (here v e) ∙ k.kind_stays ∙ sym (ap (kind_at a) e)
    kinds v (other e) = ap (λ (x : Table). x.kind) (table_at-other a u v t e)

    begun_there : (v : UnitId) → IsSome (kind_at a v.0) → Same v.0 u → IsSome (kind_at (with_table a u t) v.0)
    begun_there v s d = subst IsSome (sym (kinds v.0 d)) s

    begun_here : (v : UnitId) → IsSome (kind_at (with_table a u t) v.0) → Same v.0 u → IsSome (kind_at a v.0)
    begun_here v s d = subst IsSome (kinds v.0 d) s

-- the lines of a table are placed
abbrev pub LinesPlaced : ℕ → Table → Type 0
LinesPlaced n t = (i : ℕ) (l : TableLine) → slice_get t.lines i ≡ Some l → InstWithin (sizes_of n t) l.inst

-- where the lines stay and the sizes do not fall
pub LinesPlaced-more : (n m : ℕ) (t u : Table) → n ≤ m → length t.values ≤ length u.values → length t.labels ≤ length u.labels → u.lines ≡ t.lines → LinesPlaced n t → LinesPlaced m u
LinesPlaced-more n m t u h v b e p i l q = InstWithin-more (sizes_of n t) (sizes_of m u) l.inst h v b (p i l (ap (λ ls. slice_get ls i) (sym e) ∙ q))

pub values-more : (t : Table) (n : List ℕ) → length t.values ≤ length (with_value t n).values
values-more t n = by (has_name t.values n)
  where
    by : (b : Bool) → length t.values ≤ length (if b then t else record t { values = t.values ++ n ∷ [] }).values
    by true = omega arith
    by false = omega (arith, length-append t.values (n ∷ []))

pub labels-more : (t : Table) (n : List ℕ) → length t.labels ≤ length (with_label t n).labels
labels-more t n = by (has_name t.labels n)
  where
    by : (b : Bool) → length t.labels ≤ length (if b then t else record t { labels = t.labels ++ n ∷ []; bodies = t.bodies ++ None ∷ [] }).labels
    by true = omega arith
    by false = omega (arith, length-append t.labels (n ∷ []))

Keeps-refl : (n : ℕ) (t : Table) → IsTable t → LinesPlaced n t → Keeps n t t
Keeps-refl n t o p = record { table = o; kind_stays = refl; placed = p }

Keeps-old : (n : ℕ) (t u : Table) → u ≡ t → IsTable t → LinesPlaced n t → Keeps n t u
Keeps-old n t u e o p = subst (Keeps n t) (sym e) (Keeps-refl n t o p)

pub Keeps-with_value : (n : ℕ) (t : Table) (name : List ℕ) → length t.values < 2 ^ 32 - 1 → IsTable t → LinesPlaced n t → Keeps n t (with_value t name)
Keeps-with_value n t name room o p = by (has_name t.values name) (IsTable-with_value t name room o) (values-more t name)
  where
    made : Bool → Table
    made b = if b then t else record t { values = t.values ++ name ∷ [] }

    by : (b : Bool) → IsTable (if b then t else record t { values = t.values ++ name ∷ [] }) → length t.values ≤ length (if b then t else record t { values = t.values ++ name ∷ [] }).values
        → Keeps n t (if b then t else record t { values = t.values ++ name ∷ [] })
    by true i l = Keeps-refl n t o p
    by false i l = record { table = i; kind_stays = refl; placed = LinesPlaced-more n n t (record t { values = t.values ++ name ∷ [] }) (omega arith) l (omega arith) refl p }

pub Keeps-with_label : (n : ℕ) (t : Table) (name : List ℕ) → length t.labels < 2 ^ 32 - 1 → IsTable t → LinesPlaced n t → Keeps n t (with_label t name)
Keeps-with_label n t name room o p = by (has_name t.labels name) (IsTable-with_label t name room o) (labels-more t name)
  where
    by : (b : Bool) → IsTable (if b then t else record t { labels = t.labels ++ name ∷ []; bodies = t.bodies ++ None ∷ [] })
        → length t.labels ≤ length (if b then t else record t { labels = t.labels ++ name ∷ []; bodies = t.bodies ++ None ∷ [] }).labels
        → Keeps n t (if b then t else record t { labels = t.labels ++ name ∷ []; bodies = t.bodies ++ None ∷ [] })
    by true i l = Keeps-refl n t o p
    by false i l = record {
      table = i;
      kind_stays = refl;
      placed = LinesPlaced-more n n t (record t { labels = t.labels ++ name ∷ []; bodies = t.bodies ++ None ∷ [] }) (omega arith) (omega arith) l
          refl p;
    }

-- each call on one unit keeps it
pub FindsValueIn-Keeps : (n : ℕ) (r : Result ValueId NoMemory) (t u : Table) (name : List ℕ) → FindsValueIn r t u name → length t.values < 2 ^ 32 - 1 → IsTable t → LinesPlaced n t → Keeps n t u
FindsValueIn-Keeps n (Ok v) t u name f room o p = subst (Keeps n t) (sym f.table) (Keeps-with_value n t name room o p)
FindsValueIn-Keeps n (Err e) t u name f room o p = Keeps-old n t u f o p

pub FindsLabelIn-Keeps : (n : ℕ) (r : Result BlockId NoMemory) (t u : Table) (name : List ℕ) → FindsLabelIn r t u name → length t.labels < 2 ^ 32 - 1 → IsTable t → LinesPlaced n t → Keeps n t u
FindsLabelIn-Keeps n (Ok v) t u name f room o p = subst (Keeps n t) (sym f.table) (Keeps-with_label n t name room o p)
FindsLabelIn-Keeps n (Err e) t u name f room o p = Keeps-old n t u f o p

pub TakesArg-Keeps : (n : ℕ) (r : Result (Unit {0}) UnitFault) (t u : Table) (a : Arg) → TakesArg r t u a → IsSome t.kind → a.value.0 < length t.values → IsTable t → LinesPlaced n t → Keeps n t u
TakesArg-Keeps n (Ok _) t u a f s h o p = subst (Keeps n t) (sym f.1) record { table = IsTable-with_arg t a s h f.0 o; kind_stays = refl; placed = p }
TakesArg-Keeps n (Err fault.UnitTooLarge) t u a f s h o p = absurd f
TakesArg-Keeps n (Err fault.DuplicateName) t u a f s h o p = Keeps-old n t u f.1 o p
TakesArg-Keeps n (Err fault.OutOfMemory) t u a f s h o p = Keeps-old n t u f.1 o p

pub with_result-Keeps : (n : ℕ) (t u : Table) (ty : TypeTree) → u ≡ with_result t ty → t.kind ≡ Some kind.Func → IsTable t → LinesPlaced n t → Keeps n t u
with_result-Keeps n t u ty f s o p = subst (Keeps n t) (sym f) record { table = IsTable-with_result t ty s o; kind_stays = refl; placed = p }

pub TakesBlock-Keeps : (n : ℕ) (r : Result (Unit {0}) UnitFault) (t u : Table) (b : BlockId) → TakesBlock r t u b → HasBlocks t.kind → b.0 < length t.labels → IsTable t → LinesPlaced n t → Keeps n t u
TakesBlock-Keeps n (Ok _) t u b f s h o p = subst (Keeps n t) (sym f.1) record { table = IsTable-with_block t b s h f.0 o; kind_stays = refl; placed = p }
TakesBlock-Keeps n (Err fault.UnitTooLarge) t u b f s h o p = absurd f
TakesBlock-Keeps n (Err fault.DuplicateName) t u b f s h o p = Keeps-old n t u f.1 o p
TakesBlock-Keeps n (Err fault.OutOfMemory) t u b f s h o p = Keeps-old n t u f.1 o p

LinesPlaced-push : (n : ℕ) (t : Table) (r : Option ValueId) (i : Inst) → InstWithin (sizes_of n t) i → LinesPlaced n t → LinesPlaced n (with_line t r i)
LinesPlaced-push n t r i w p k l q = by (pushed t.lines (record { result = r; inst = i }) l k q)
  where
    by : Pushed t.lines (record { result = r; inst = i }) l k → InstWithin (sizes_of n (with_line t r i)) l.inst
    by (old h e) = p k l e
    by (new h e) = subst (λ (x : TableLine). InstWithin (sizes_of n t) x.inst) e w

pub TakesLine-Keeps : (n : ℕ) (a : Result InstId UnitFault) (t u : Table) (r : Option ValueId) (i : Inst) → TakesLine a t u r i → 0 < length t.blocks → ResultWithin (length t.values) r
    → InstWithin (sizes_of n t) i → IsTable t → LinesPlaced n t → Keeps n t u
TakesLine-Keeps n (Ok id) t u r i f h w x o p = subst (Keeps n t) (sym f.3) record { table = IsTable-with_line t r i h w f.0 f.1 o; kind_stays = refl; placed = LinesPlaced-push n t r i x p }
TakesLine-Keeps n (Err fault.UnitTooLarge) t u r i f h w x o p = Keeps-old n t u f.1 o p
TakesLine-Keeps n (Err fault.DuplicateName) t u r i f h w x o p = Keeps-old n t u f.2 o p
TakesLine-Keeps n (Err fault.OutOfMemory) t u r i f h w x o p = Keeps-old n t u f.2 o p

-- one unit of an arena was read, and written by a rule that keeps it
pub IsArena-write : (a : Arena) (u : ℕ) (s t : Table) (units : List Table) → IsArena a → u < length a.units → s ≡ get_or a.units u s
    → (IsTable s → LinesPlaced (unit_count a) s → Keeps (unit_count a) s t) → units ≡ set a.units u t → IsArena (record a { units = units })
IsArena-write a u s t units o h e k w =
    let r : s ≡ table_at a u = get_or_read a.units u s h e no_table in
    let q : Keeps (unit_count a) (table_at a u) t = subst (λ v. Keeps (unit_count a) v t) r (k (subst IsTable (sym r) (o.tables u h)) (subst (LinesPlaced (unit_count a)) (sym r) (o.placed u))) in
    subst (λ l. IsArena (record a { units = l })) (sym w) (IsArena-with_table a u t o h q)

-- a unit that is begun
pub none_some : {X : Type 0} (o : Option X) → o ≡ None → IsSome o → ⊥
none_some None e s = cc
none_some (Some x) e s = cc

unit_inj : (u v : UnitId) → item.Unit u ≡ item.Unit v → u ≡ v
unit_inj u v p = cc

pub IsArena-begun : (a : Arena) (u : UnitId) (t : Table) → IsArena a → u.0 < length a.units → kind_at a u.0 ≡ None → IsTable t → IsSome t.kind → LinesPlaced (unit_count a) t
    → IsArena (record a { units = set a.units u.0 t; items = a.items ++ item.Unit u ∷ [] })
IsArena-begun a u t o h e w k x = record {
  long = o.long ∙ sym (length-set a.units u.0 t);
  few = omega (arith, o.few, length-set a.units u.0 t);
  names_distinct = o.names_distinct;
  tables = λ v q. tables v (omega (arith, q, length-set a.units u.0 t)) (same_or v u.0);
  placed = λ v i l q. placed v i l q (same_or v u.0);
  items_within = λ i v q. omega (arith, length-set a.units u.0 t, inside v (pushed a.items (item.Unit u) (item.Unit v) i q));
  items_begun = λ i v q. started v (pushed a.items (item.Unit u) (item.Unit v) i q) (same_or v.0 u.0);
  items_distinct = λ i j v p q. distinct i j v (pushed a.items (item.Unit u) (item.Unit v) i p) (pushed a.items (item.Unit u) (item.Unit v) j q);
  items_defined = λ v q s. defined v (omega (arith, q, length-set a.units u.0 t)) s (same_or v.0 u.0);
}
  where
    now : Arena
    now = record a { units = set a.units u.0 t; items = a.items ++ item.Unit u ∷ [] }

    here : (v : ℕ) → v ≡ u.0 → get_or (set a.units u.0 t) v no_table ≡ t
    here v q = ap (λ n. get_or (set a.units u.0 t) n no_table) q ∙ table_at-same a u.0 t h

    count : length (set a.units u.0 t) ≡ unit_count a
    count = length-set a.units u.0 t

    tables : (v : ℕ) → v < length a.units → Same v u.0 → IsTable (get_or (set a.units u.0 t) v no_table)
    tables v q (same r) = subst IsTable (sym (here v r)) w
    tables v q (other r) = subst IsTable (sym (table_at-other a u.0 v t r)) (o.tables v q)

    placed : (v i : ℕ) (l : TableLine) → slice_get (get_or (set a.units u.0 t) v no_table).lines i ≡ Some l → Same v u.0
        → InstWithin (sizes_of (length (set a.units u.0 t)) (get_or (set a.units u.0 t) v no_table)) l.inst
    placed v i l q (same r) =
        let z : slice_get t.lines i ≡ Some l = ap (λ (y : Table). slice_get y.lines i) (sym (here v r)) ∙ q in
        subst (λ n. InstWithin (sizes_of n (get_or (set a.units u.0 t) v no_table)) l.inst) (sym count)
        (subst (λ (y : Table). InstWithin (sizes_of (unit_count a) y) l.inst) (sym (here v r)) (x i l z))
    placed v i l q (other r) =
        let z : slice_get (table_at a v).lines i ≡ Some l = ap (λ (y : Table). slice_get y.lines i) (sym (table_at-other a u.0 v t r)) ∙ q in
        subst (λ n. InstWithin (sizes_of n (get_or (set a.units u.0 t) v no_table)) l.inst) (sym count)
        (subst (λ (y : Table). InstWithin (sizes_of (unit_count a) y) l.inst) (sym (table_at-other a u.0 v t r)) (o.placed v i l z))

    inside : (v : UnitId) {i : ℕ} → Pushed a.items (item.Unit u) (item.Unit v) i → v.0 < length a.units
    inside v {i} (old l q) = o.items_within i v q
    inside v {i} (new l q) = omega (arith, h, ap (λ z. z.0) (unit_inj u v q))

    started : (v : UnitId) {i : ℕ} → Pushed a.items (item.Unit u) (item.Unit v) i → Same v.0 u.0 → IsSome (get_or (set a.units u.0 t) v.0 no_table).kind
    started v {i} p (same r) = subst IsSome (sym (ap (λ z. z.kind) (here v.0 r))) k
    started v {i} (old l q) (other r) = subst IsSome (sym (ap (λ z. z.kind) (table_at-other a u.0 v.0 t r))) (o.items_begun i v q)
    started v {i} (new l q) (other r) = absurd (r (sym (ap (λ z. z.0) (unit_inj u v q))))

    -- the unit was no item before
    fresh : (i : ℕ) (v : UnitId) → slice_get a.items i ≡ Some (item.Unit v) → u ≡ v → ⊥
    fresh i v q r = none_some (kind_at a v.0) (sym (ap (λ z. kind_at a z.0) r) ∙ e) (o.items_begun i v q)

    distinct : (i j : ℕ) (v : UnitId) → Pushed a.items (item.Unit u) (item.Unit v) i → Pushed a.items (item.Unit u) (item.Unit v) j → i ≡ j
    distinct i j v (old l p) (old m q) = o.items_distinct i j v p q
    distinct i j v (old l p) (new m q) = absurd (fresh i v p (unit_inj u v q))
    distinct i j v (new l p) (old m q) = absurd (fresh j v q (unit_inj u v p))
    distinct i j v (new l p) (new m q) = l ∙ sym m

    defined : (v : UnitId) → v.0 < length a.units → IsSome (get_or (set a.units u.0 t) v.0 no_table).kind → Same v.0 u.0 → (i : ℕ) × (slice_get (a.items ++ item.Unit u ∷ []) i ≡ Some (item.Unit v))
    defined v q s (same r) = (length a.items, get_last a.items (item.Unit u) ∙ ap (λ z. Some (item.Unit z)) (sym (λ i. record { 0 = r i })))
    defined v q s (other r) = let d = o.items_defined v q (subst IsSome (ap (λ z. z.kind) (table_at-other a u.0 v.0 t r)) s) in
        (d.0, get_below a.items (item.Unit u ∷ []) d.0 (slice_get_within a.items d.0 (item.Unit v) d.1) ∙ d.1)

-- one more declaration
unit_no_declare : (d : Declare) (v : UnitId) → item.Declare d ≡ item.Unit v → ⊥
unit_no_declare d v p = cc

pub IsArena-declared : (a : Arena) (d : Declare) → IsArena a → IsArena (record a { items = a.items ++ item.Declare d ∷ [] })
IsArena-declared a d o = record {
  long = o.long;
  few = o.few;
  names_distinct = o.names_distinct;
  tables = o.tables;
  placed = o.placed;
  items_within = λ i v q. o.items_within i v (there i v q);
  items_begun = λ i v q. o.items_begun i v (there i v q);
  items_distinct = λ i j v p q. o.items_distinct i j v (there i v p) (there j v q);
  items_defined = λ v w s. let e = o.items_defined v w s in (e.0, get_below a.items (item.Declare d ∷ []) e.0 (slice_get_within a.items e.0 (item.Unit v) e.1) ∙ e.1);
}
  where
    there : (i : ℕ) (v : UnitId) → slice_get (a.items ++ item.Declare d ∷ []) i ≡ Some (item.Unit v) → slice_get a.items i ≡ Some (item.Unit v)
    there i v q = by (pushed a.items (item.Declare d) (item.Unit v) i q)
      where
        by : Pushed a.items (item.Declare d) (item.Unit v) i → slice_get a.items i ≡ Some (item.Unit v)
        by (old l e) = e
        by (new l e) = absurd (unit_no_declare d v e)

-- a new unit at the end
abbrev pub with_unit : Arena → UnitName → Arena
with_unit a n = record a { names = a.names ++ n ∷ []; units = a.units ++ no_table ∷ [] }

pub table_at-unit : (a : Arena) (n : UnitName) (v : ℕ) → table_at (with_unit a n) v ≡ table_at a v
table_at-unit a n v = get_or-push_default a.units no_table v

none-once : (k : ℕ) (d e : ValueDef) → IsDefinition no_table k d → IsDefinition no_table k e → d ≡ e
none-once k value_def.Missing value_def.Missing p q = refl
none-once k value_def.Missing (value_def.Arg j) p q = absurd (omega (arith, q.0))
none-once k value_def.Missing (value_def.Inst i) p q = absurd (omega (arith, q.0))
none-once k (value_def.Arg j) e p q = absurd (omega (arith, p.0))
none-once k (value_def.Inst i) e p q = absurd (omega (arith, p.0))

IsTable-none : IsTable no_table
IsTable-none = record {
  values_distinct = λ i j k p q. cc;
  labels_distinct = λ i j k p q. cc;
  args_within = tt;
  results_within = tt;
  defined_once = λ k d e p q. none-once k d e p q;
  fits_kind = (refl, refl, refl);
  blocks_distinct = λ i j k p q. cc;
  enough_bodies = omega arith;
  blocks_stand = λ b. refl;
  in_order = refl;
  few = omega arith;
  few_values = omega arith;
  few_labels = omega arith;
}

-- the test of two names of units is equality
pub same_unit_name-is : (x y : UnitName) → same_unit_name x y ≡ true → x ≡ y
same_unit_name-is x y p =
    let b = and_parts (nat_eq x.sigil y.sigil) (pointwise nat_eq x.name y.name) p in
    let e : x.sigil ≡ y.sigil = nat_eq-is x.sigil y.sigil b.0 in
    let f : x.name ≡ y.name = same_name-is x.name y.name b.1 in
    λ i. record { sigil = e i; name = f i }

pub same_unit_name-refl : (x : UnitName) → same_unit_name x x ≡ true
same_unit_name-refl x = rw (nat_eq-refl x.sigil) (same_name-refl x.name)

pub not_there : (ns : List UnitName) (n : UnitName) → false ≡ list_any (same_unit_name n) ns → (i : ℕ) → slice_get ns i ≡ Some n → ⊥
not_there ns n f i = other_keys same_unit_name same_unit_name-is same_unit_name-refl ns n i f

pub IsArena-with_unit : (a : Arena) (n : UnitName) → IsArena a → false ≡ list_any (same_unit_name n) a.names → unit_count a < 2 ^ 32 - 1 → IsArena (with_unit a n)
IsArena-with_unit a n o f room = record {
  long = omega (arith, o.long, length-append a.names (n ∷ []), length-append a.units (no_table ∷ []));
  few = omega (arith, room, length-append a.units (no_table ∷ []));
  names_distinct = AllDistinct-push a.names n o.names_distinct (not_there a.names n f);
  tables = λ v w. subst IsTable (sym (table_at-unit a n v)) (tables v (trichotomy (length a.units) v));
  placed = λ v i l e. subst (λ (t : Table). InstWithin (sizes_of (unit_count (with_unit a n)) t) l.inst) (sym (table_at-unit a n v))
      (LinesPlaced-more (unit_count a) (unit_count (with_unit a n)) (table_at a v) (table_at a v) (omega (arith, length-append a.units (no_table ∷ []))) (omega arith) (omega arith) refl (o.placed v) i
      l
      (ap (λ (t : Table). slice_get t.lines i) (sym (table_at-unit a n v)) ∙ e));
  items_within = λ i v e. omega (arith, o.items_within i v e, length-append a.units (no_table ∷ []));
  items_begun = λ i v e. subst IsSome (sym (ap (λ (t : Table). t.kind) (table_at-unit a n v.0))) (o.items_begun i v e);
  items_distinct = o.items_distinct;
  items_defined = λ v w s. defined v (trichotomy (length a.units) v.0) (subst IsSome (ap (λ (t : Table). t.kind) (table_at-unit a n v.0)) s);
}
  where
    tables : (v : ℕ) → Trichotomy (length a.units) v → IsTable (table_at a v)
    tables v (before h) = o.tables v h
    tables v (at h) = subst IsTable (sym (get_or_past a.units v no_table (omega (arith, h)))) IsTable-none
    tables v (past h) = subst IsTable (sym (get_or_past a.units v no_table (omega (arith, h)))) IsTable-none

    defined : (v : UnitId) → Trichotomy (length a.units) v.0 → IsSome (kind_at a v.0) → (i : ℕ) × (slice_get a.items i ≡ Some (item.Unit v))
    defined v (before h) s = o.items_defined v h s
    defined v (at h) s = absurd (none_some (kind_at a v.0) (ap (λ (t : Table). t.kind) (get_or_past a.units v.0 no_table (omega (arith, h)))) s)
    defined v (past h) s = absurd (none_some (kind_at a v.0) (ap (λ (t : Table). t.kind) (get_or_past a.units v.0 no_table (omega (arith, h)))) s)

-- the open unit has an entry and is begun
pub open-item : (a : Arena) (u : UnitId) → (p : IsOpen a u) → slice_get a.items (length p.0) ≡ Some (item.Unit u)
open-item a u p = ap (λ l. slice_get l (length p.0)) p.1 ∙ get_last p.0 (item.Unit u)

pub open-begun : (a : Arena) (u : UnitId) → IsArena a → IsOpen a u → IsSome (kind_at a u.0)
open-begun a u o p = o.items_begun (length p.0) u (open-item a u p)

pub open-within : (a : Arena) (u : UnitId) → IsArena a → IsOpen a u → u.0 < length a.units
open-within a u o p = o.items_within (length p.0) u (open-item a u p)
