-- Units that are looked up and begun, and declarations.
use Rattle.std.proofs.Common.{◌≡◌, ◌≢◌, ℕ, ◌+◌, ◌≤◌, ◌<◌, zero, suc, Bool, true, false, ◌||◌, List, [], ◌∷◌, ◌++◌, length, map, get_or, set, Option, Some, None, IsSome, is_some, Result, Ok, Err, OnOk, OnErr, unwrap_or, slice_get, position, inl, inr, refl, ap, sym, ◌∙◌, subst, arith, length-append, length-set}
use Rattle.std.specs.List.{list_any}
use Rattle.std.specs.Result.{IsErr, is_err}
use Rattle.std.proofs.lemmas.List.{map-append, get_or-set_same, get_or_append_left, get_or_read}
use Rattle.std.proofs.lemmas.Option.{slice_get-get_or, get_or_from_slice_get}
use Rattle.indexmap.specs.IndexSet.{insert_key}
use Rattle.lh_types.specs.Types.{void_type}
use Rattle.lh_types.specs.declared.memory.NoMemory.{NoMemory}
use Rattle.lh_unit.specs.Contents.{unit_text, new_unit, defines_unit}
use Rattle.lh_unit_names.specs.UnitNames.{same_unit_name}
use Rattle.lh_unit.specs.Table.{Table, IsTable, no_table, entity_block, insts_at, line_at}
use Rattle.lh_unit.specs.TableCalls.{BeginsTable, begun}
use Rattle.lh_unit.specs.Naming.{naming_of, line_text, arg_text, block_text, table_text}
use Rattle.lh_unit.specs.Arena.{Arena, IsArena, HasFewMore, none_more, contents, item_text_at, unit_text_at, table_at, kind_at, unit_count, unit_name_at, no_unit_name}
use Rattle.lh_unit.specs.Builders.{FindsEntry, FindsUnit, HasContents, AddsDeclare}
use Rattle.lh_unit_names.specs.declared.name.UnitName.{UnitName}
use Rattle.lh_unit.specs.declared.inst.UnitId.{UnitId}
use Rattle.lh_unit.specs.declared.inst.InstId.{InstId}
use Rattle.lh_unit.specs.declared.inst.UnitKind.{UnitKind}
use Rattle.lh_unit.specs.declared.inst.UnitKind.TheVariants as kind
use Rattle.lh_unit.specs.declared.inst.Declare.{Declare}
use Rattle.lh_unit.specs.declared.inst.Item.{Item}
use Rattle.lh_unit.specs.declared.inst.Item.TheVariants as item
use Rattle.lh_unit.proofs.Lists.{map-same, not_true, or_true}
use Rattle.lh_unit_names.proofs.Lists.{key_found, other_keys}
use Rattle.lh_unit.proofs.Tables.{missing, IsTable-begun}
use Rattle.lh_unit.proofs.Arenas.{with_table, with_unit, table_at-unit, same_unit_name-is, same_unit_name-refl, none_some, IsArena-declared, IsArena-begun, LinesPlaced-more}
use Rattle.lh_unit.proofs.Texts.{table_text-same}
use Rattle.lh_unit.proofs.ContentsLemmas.{text_with, item_text-other, unit_text-table, unit_text-table_same}
use Rattle.lh_unit.proofs.BuilderLemmas.{Grown, Grown-refl, Grown-same, AtMost, AtMost-refl, AtMost-same, KeepsEntries-by, HasAtMost-by, HasAtMost-same, each_table, few-written, none_else-pushed, with_table-old}

-- the arena with a unit that is begun, whose table is then t
abbrev pub with_begun : Arena → UnitId → Table → Arena
with_begun a u t = record a { units = set a.units u.0 t; items = a.items ++ item.Unit u ∷ [] }

-- whether the items define a unit of the name n
defines-any : (a : Arena) (n : UnitName) (is : List Item) (i : ℕ) (u : UnitId) → slice_get is i ≡ Some (item.Unit u) → same_unit_name (unit_name_at a u.0) n ≡ true
    → defines_unit n (map (item_text_at a) is) ≡ true
defines-any a n [] i u p e = cc
defines-any a n (item.Unit v ∷ is) zero u p e =
    let q : v ≡ u = cc in
    ap (λ (w : UnitId). same_unit_name (unit_name_at a w.0) n || defines_unit n (map (item_text_at a) is)) q ∙ ap (λ b. b || defines_unit n (map (item_text_at a) is)) e
defines-any a n (item.Declare d ∷ is) zero u p e = cc
defines-any a n (item.Unit v ∷ is) (suc i) u p e = ap (λ b. same_unit_name (unit_name_at a v.0) n || b) (defines-any a n is i u p e) ∙ or_true (same_unit_name (unit_name_at a v.0) n)
defines-any a n (item.Declare d ∷ is) (suc i) u p e = defines-any a n is i u p e

defines-none : (a : Arena) (n : UnitName) (is : List Item) → ((i : ℕ) (u : UnitId) → slice_get is i ≡ Some (item.Unit u) → same_unit_name (unit_name_at a u.0) n ≡ false)
    → defines_unit n (map (item_text_at a) is) ≡ false
defines-none a n [] h = refl
defines-none a n (item.Unit v ∷ is) h = rw (h 0 v refl) (defines-none a n is (λ i u p. h (suc i) u p))
defines-none a n (item.Declare d ∷ is) h = defines-none a n is (λ i u p. h (suc i) u p)

name_there : (a : Arena) (v : ℕ) → IsArena a → v < unit_count a → slice_get a.names v ≡ Some (unit_name_at a v)
name_there a v o h = slice_get-get_or a.names v no_unit_name (omega (arith, h, o.long))

pub defines-begun : (a : Arena) (u : UnitId) → IsArena a → u.0 < unit_count a → IsSome (kind_at a u.0) → defines_unit (unit_name_at a u.0) (contents a) ≡ true
defines-begun a u o h s = let d = o.items_defined u h s in defines-any a (unit_name_at a u.0) a.items d.0 u d.1 (same_unit_name-refl (unit_name_at a u.0))

-- the items are other units than one that is Missing
apart : (a : Arena) (u : UnitId) → IsArena a → kind_at a u.0 ≡ None → (i : ℕ) (v : UnitId) → slice_get a.items i ≡ Some (item.Unit v) → v.0 ≢ u.0
apart a u o e i v p q = none_some (kind_at a u.0) e (subst (λ n. IsSome (kind_at a n)) q (o.items_begun i v p))

pub defines-missing : (a : Arena) (u : UnitId) → IsArena a → u.0 < unit_count a → kind_at a u.0 ≡ None → defines_unit (unit_name_at a u.0) (contents a) ≡ false
defines-missing a u o h e = defines-none a (unit_name_at a u.0) a.items (λ i v p. not_true (same_unit_name (unit_name_at a v.0) (unit_name_at a u.0)) (λ q.
    apart a u o e i v p (o.names_distinct v.0 u.0 (unit_name_at a u.0)
    (name_there a v.0 o (o.items_within i v p) ∙ ap Some (same_unit_name-is (unit_name_at a v.0) (unit_name_at a u.0) q))
    (name_there a u.0 o h))))

-- a unit that is begun has nothing in it
text-begun : (a : Arena) (u : ℕ) (t : Table) (k : UnitKind) → t.kind ≡ None → IsTable t → text_with a u (begun t k) ≡ new_unit (unit_name_at a u) k
text-begun a u t kind.Func e o = let m = missing t e o in
    λ i. record {
      kind = kind.Func;
      name = unit_name_at a u;
      args = map (arg_text (naming_of (unit_name_at a) t)) (m.0 i);
      result = Some void_type;
      blocks = map (block_text (naming_of (unit_name_at a) t) (begun t kind.Func)) (m.2 i);
    }
text-begun a u t kind.Proc e o = let m = missing t e o in
    λ i. record {
      kind = kind.Proc;
      name = unit_name_at a u;
      args = map (arg_text (naming_of (unit_name_at a) t)) (m.0 i);
      result = m.1 i;
      blocks = map (block_text (naming_of (unit_name_at a) t) (begun t kind.Proc)) (m.2 i);
    }
text-begun a u t kind.Entity e o =
    let m = missing t e o in
    let n : insts_at (begun t kind.Entity) 0 ≡ [] = ap (λ x. unwrap_or x []) (get_or-set_same (t.bodies ++ None ∷ []) 0 (Some []) None (omega (arith, length-append t.bodies (None ∷ [])))) in
    let b : map (block_text (naming_of (unit_name_at a) t) (begun t kind.Entity)) (t.blocks ++ entity_block ∷ []) ≡ record { label = None; lines = [] } ∷ [] =
    ap (λ bs. map (block_text (naming_of (unit_name_at a) t) (begun t kind.Entity)) (bs ++ entity_block ∷ [])) m.2
    ∙ (λ i. record { label = None; lines = map (λ (j : InstId). line_text (naming_of (unit_name_at a) t) (line_at t j.0)) (n i) } ∷ []) in
    λ i. record { kind = kind.Entity; name = unit_name_at a u; args = map (arg_text (naming_of (unit_name_at a) t)) (m.0 i); result = m.1 i; blocks = b i }

contents-begun : (a : Arena) (u : UnitId) (k : UnitKind) → IsArena a → u.0 < unit_count a → kind_at a u.0 ≡ None
    → contents (with_begun a u (begun (table_at a u.0) k)) ≡ contents a ++ unit_text (new_unit (unit_name_at a u.0) k) ∷ []
contents-begun a u k o h e = map-append (item_text_at now) a.items (item.Unit u ∷ []) ∙ (λ i. others i ++ unit_text (last i) ∷ [])
  where
    now : Arena
    now = with_begun a u (begun (table_at a u.0) k)

    others : map (item_text_at now) a.items ≡ map (item_text_at a) a.items
    others = map-same (item_text_at now) (item_text_at a) a.items (λ i x p. item_text-other a now x (λ v r. unit_text-table a u.0 v.0 (begun (table_at a u.0) k) (apart a u o e i v (p ∙ ap Some r))))

    last : unit_text_at now u.0 ≡ new_unit (unit_name_at a u.0) k
    last = unit_text-table_same a u.0 (begun (table_at a u.0) k) h ∙ text-begun a u.0 (table_at a u.0) k e (o.tables u.0 h)

begun-values : (t : Table) (k : UnitKind) → (begun t k).values ≡ t.values
begun-values t kind.Func = refl
begun-values t kind.Proc = refl
begun-values t kind.Entity = refl

begun-labels : (t : Table) (k : UnitKind) → (begun t k).labels ≡ t.labels
begun-labels t kind.Func = refl
begun-labels t kind.Proc = refl
begun-labels t kind.Entity = refl

pub HasContents-begun : (a b : Arena) (u : UnitId) (k : UnitKind) → IsArena a → u.0 < unit_count a → kind_at a u.0 ≡ None → b ≡ with_begun a u (begun (table_at a u.0) k)
    → (defines_unit (unit_name_at a u.0) (contents a) ≡ false) × HasContents a b u (contents a ++ unit_text (new_unit (unit_name_at a u.0) k) ∷ [])
HasContents-begun a b u k o h e w = (
  defines-missing a u o h e,
  subst (λ b. HasContents a b u (contents a ++ unit_text (new_unit (unit_name_at a u.0) k) ∷ [])) (sym w) record {
    says = contents-begun a u k o h e;
    is_open = (a.items, refl);
    entries = KeepsEntries-by a now (omega (arith, length-set a.units u.0 t)) (λ v w. refl)
        (each_table Grown Grown-refl a u.0 t h (Grown-same (table_at a u.0) t (begun-values (table_at a u.0) k) (begun-labels (table_at a u.0) k)));
    few = HasAtMost-same a now (omega (arith, length-set a.units u.0 t))
        (each_table (AtMost 0) (AtMost-refl 0) a u.0 t h (AtMost-same (table_at a u.0) t (begun-values (table_at a u.0) k) (begun-labels (table_at a u.0) k)));
    no_more = record { more_units = few.more_units; more_values = few.more_values; more_labels = few.more_labels };
  },
)
  where
    t : Table
    t = begun (table_at a u.0) k

    now : Arena
    now = with_begun a u t

    few : HasFewMore 0 none_more none_more a (with_table a u.0 t)
    few = few-written a u.0 t none_more none_more h (omega (arith, ap (λ (x : List (List ℕ)). length x) (begun-values (table_at a u.0) k)))
        (omega (arith, ap (λ (x : List (List ℕ)). length x) (begun-labels (table_at a u.0) k)))

-- a unit that is looked up
contents-with_unit : (a : Arena) (n : UnitName) → IsArena a → contents (with_unit a n) ≡ contents a
contents-with_unit a n o = map-same (item_text_at now) (item_text_at a) a.items (λ i x p. item_text-other a now x (λ v r. by v.0 (o.items_within i v (p ∙ ap Some r))))
  where
    now : Arena
    now = with_unit a n

    name : (v : ℕ) → v < unit_count a → unit_name_at now v ≡ unit_name_at a v
    name v h = get_or_append_left a.names (n ∷ []) no_unit_name v (omega (arith, h, o.long))

    by : (v : ℕ) → v < unit_count a → unit_text_at now v ≡ unit_text_at a v
    by v h =
        ap (λ t. table_text (naming_of (unit_name_at now) t) (unit_name_at now v) t) (table_at-unit a n v)
        ∙ ap (λ m. table_text (naming_of (unit_name_at now) (table_at a v)) m (table_at a v)) (name v h)
        ∙ table_text-same (unit_count a) (naming_of (unit_name_at now) (table_at a v)) (naming_of (unit_name_at a) (table_at a v)) (unit_name_at a v) (table_at a v)
        record { units = name; values = λ k w. refl; labels = λ k w. refl } (o.tables v h) (o.placed v)

FindsEntry-refl : (a : Arena) → FindsEntry a a
FindsEntry-refl a = record {
  grows = record { entries = KeepsEntries-by a a (omega arith) (λ v h. refl) (λ v. Grown-refl (table_at a v)); open_stays = λ u p. p; says = refl };
  few = HasAtMost-by 1 a a (omega arith) (λ v. AtMost-refl 1 (table_at a v));
}

FindsEntry-with_unit : (a : Arena) (n : UnitName) → IsArena a → FindsEntry a (with_unit a n)
FindsEntry-with_unit a n o = record {
  grows = record {
    entries = KeepsEntries-by a (with_unit a n) (omega (arith, length-append a.units (no_table ∷ []))) (λ v h. get_or_append_left a.names (n ∷ []) no_unit_name v (omega (arith, h, o.long)))
        (λ v. subst (Grown (table_at a v)) (sym (table_at-unit a n v)) (Grown-refl (table_at a v)));
    open_stays = λ u p. p;
    says = contents-with_unit a n o;
  };
  few = HasAtMost-by 1 a (with_unit a n) (omega (arith, length-append a.units (no_table ∷ []))) (λ v. subst (AtMost 1 (table_at a v)) (sym (table_at-unit a n v)) (AtMost-refl 1 (table_at a v)));
}

pub found-unit : (a : Arena) (n : UnitName) (i : ℕ) → IsArena a → Some i ≡ position (same_unit_name n) a.names → FindsUnit (Ok (record { 0 = i })) a a n
found-unit a n i o p = let f = key_found same_unit_name same_unit_name-is same_unit_name-refl a.names n i p in (
  FindsEntry-refl a,
  omega (arith, f.0, o.long),
  get_or_from_slice_get a.names i n no_unit_name f.1,
  record { more_units = omega arith; more_values = λ u. omega arith; more_labels = λ u. omega arith },
  λ k h. inl h,
)

few-unit : (a : Arena) (n : UnitName) → HasFewMore 1 none_more none_more a (with_unit a n)
few-unit a n = record {
  more_units = omega (arith, length-append a.units (no_table ∷ []));
  more_values = λ u. subst (λ (t : Table). length t.values ≤ length (table_at a u).values + 0) (sym (table_at-unit a n u)) (omega arith);
  more_labels = λ u. subst (λ (t : Table). length t.labels ≤ length (table_at a u).labels + 0) (sym (table_at-unit a n u)) (omega arith);
}

-- names and units after a unit is added
pub added-unit : (a b : Arena) (n m : UnitName) → m ≡ n → b.names ≡ insert_key same_unit_name a.names m → b.units ≡ a.units ++ no_table ∷ [] → b.items ≡ a.items
    → false ≡ list_any (same_unit_name n) a.names → b ≡ with_unit a n
added-unit a b n m e f g h p =
    let k : b.names ≡ a.names ++ n ∷ [] = f ∙ ap (insert_key same_unit_name a.names) e ∙ rw (← p) refl in
    λ i. record { names = k i; units = g i; items = h i }

pub added-FindsUnit : (a b : Arena) (n m : UnitName) (i : ℕ) → m ≡ n → b ≡ with_unit a n → IsArena a → i < length b.names → (k : UnitName) × (slice_get b.names i ≡ Some k)
    × (same_unit_name m k ≡ true) → false ≡ list_any (same_unit_name n) a.names → FindsUnit (Ok (record { 0 = i })) a b n
added-FindsUnit a b n m i e f o w s p = (
  subst (FindsEntry a) (sym f) (FindsEntry-with_unit a n o),
  omega (arith, w, ap (λ z. length z.names) f, ap (λ z. length z.units) f, o.long, length-append a.names (n ∷ []), length-append a.units (no_table ∷ [])),
  get_or_from_slice_get b.names i n no_unit_name stands,
  subst (HasFewMore 1 none_more none_more a) (sym f) (few-unit a n),
  λ k h. elim (none_else-pushed a.names n i (λ j q. other_keys same_unit_name same_unit_name-is same_unit_name-refl a.names n j p q)
      (sym (ap (λ (z : Arena). slice_get z.names i) f) ∙ stands) k
      (omega (arith, h, ap (λ z. length z.units) f, o.long, length-append a.names (n ∷ []), length-append a.units (no_table ∷ []))))
      [ inl q ↦ inl (omega (arith, q, o.long)) | inr q ↦ inr q ],
)
  where
    stands : slice_get b.names i ≡ Some n
    stands = s.1 ∙ ap Some (sym (same_unit_name-is m s.0 s.2) ∙ e)

-- one more declaration
pub AddsDeclare-by : (r : Result (Unit {0}) NoMemory) (a : Arena) (d : Declare) (items : List Item) → OnOk r (items ≡ a.items ++ item.Declare d ∷ []) → OnErr r (items ≡ a.items)
    → AddsDeclare r a (record a { items = items }) d
AddsDeclare-by (Ok _) a d items f g = subst (λ l. AddsDeclare (Ok tt) a (record a { items = l }) d) (sym f) (
  map-append (item_text_at a) a.items (item.Declare d ∷ []),
  KeepsEntries-by a (record a { items = a.items ++ item.Declare d ∷ [] }) (omega arith) (λ v h. refl) (λ v. Grown-refl (table_at a v)),
  λ n w. record { units = w.units; values = w.values; labels = w.labels },
  record { more_units = omega arith; more_values = λ u. omega arith; more_labels = λ u. omega arith },
)
AddsDeclare-by (Err e) a d items f g = λ i. record a { items = g i }

pub IsArena-item : (r : Result (Unit {0}) NoMemory) (a : Arena) (d : Declare) (items : List Item) → OnOk r (items ≡ a.items ++ item.Declare d ∷ []) → OnErr r (items ≡ a.items) → IsArena a
    → IsArena (record a { items = items })
IsArena-item (Ok _) a d items f g o = subst (λ l. IsArena (record a { items = l })) (sym f) (IsArena-declared a d o)
IsArena-item (Err e) a d items f g o = subst (λ l. IsArena (record a { items = l })) (sym g) o

-- what the table of a unit told of its kind
pub kind-told : (a : Arena) (u : ℕ) (s : Table) (b : Bool) → u < unit_count a → s ≡ get_or a.units u s → is_some s.kind ≡ b → is_some (kind_at a u) ≡ b
kind-told a u s b h e f = ap (λ (t : Table). is_some t.kind) (sym (get_or_read a.units u s h e no_table)) ∙ f

pub none-told : (a : Arena) (u : ℕ) (s : Table) → u < unit_count a → s ≡ get_or a.units u s → is_some s.kind ≡ false → kind_at a u ≡ None
none-told a u s h e f = not_some (kind_at a u) (kind-told a u s false h e f)
  where
    not_some : {X : Type 0} (o : Option X) → is_some o ≡ false → o ≡ None
    not_some None p = refl
    not_some (Some x) p = cc

begun-some : (t : Table) (k : UnitKind) → IsSome (begun t k).kind
begun-some t kind.Func = refl
begun-some t kind.Proc = refl
begun-some t kind.Entity = refl

begun-lines : (t : Table) (k : UnitKind) → (begun t k).lines ≡ t.lines
begun-lines t kind.Func = refl
begun-lines t kind.Proc = refl
begun-lines t kind.Entity = refl

pub IsArena-begins : (a b : Arena) (u : UnitId) (k : UnitKind) → IsArena a → u.0 < unit_count a → kind_at a u.0 ≡ None → b ≡ with_begun a u (begun (table_at a u.0) k) → IsArena b
IsArena-begins a b u k o h e w = subst IsArena (sym w) (IsArena-begun a u t o h e (IsTable-begun (table_at a u.0) k e (o.tables u.0 h)) (begun-some (table_at a u.0) k)
    (LinesPlaced-more (unit_count a) (unit_count a) (table_at a u.0) t (omega arith)
    (omega (arith, ap (λ x. length x) (begun-values (table_at a u.0) k))) (omega (arith, ap (λ x. length x) (begun-labels (table_at a u.0) k)))
    (begun-lines (table_at a u.0) k) (o.placed u.0)))
  where
    t : Table
    t = begun (table_at a u.0) k

-- names, units and items after a unit is begun
pub began : (a : Arena) (u : UnitId) (k : UnitKind) (s t : Table) (items : List Item) → u.0 < unit_count a → s ≡ get_or a.units u.0 s → t ≡ begun s k → items ≡ a.items ++ item.Unit u ∷ []
    → record a { units = set a.units u.0 t; items = items } ≡ with_begun a u (begun (table_at a u.0) k)
began a u k s t items h e f g =
    let w : t ≡ begun (table_at a u.0) k = f ∙ ap (λ x. begun x k) (get_or_read a.units u.0 s h e no_table) in
    λ i. record a { units = set a.units u.0 (w i); items = g i }

-- a call that refused left the module as it was
pub unchanged : (a : Arena) (u : ℕ) (s t : Table) (items : List Item) → u < unit_count a → s ≡ get_or a.units u s → t ≡ s → items ≡ a.items → record a { units = set a.units u t; items = items } ≡ a
unchanged a u s t items h e f g =
    let w : with_table a u t ≡ a = with_table-old a u t (f ∙ get_or_read a.units u s h e no_table) in
    λ i. record (w i) { items = g i }

-- where memory runs out no unit is entered
pub no-unit : (r : Result UnitId NoMemory) (old new : Arena) (n : UnitName) → IsErr r → new ≡ old → FindsUnit r old new n
no-unit (Ok u) old new n e p = cc
no-unit (Err x) old new n e p = p

-- what a unit's table is after a begin that succeeds or fails
pub is-begun : (r : Result (Unit {0}) NoMemory) (old new : Table) (k : UnitKind) → BeginsTable r old new k → is_err r ≡ false → new ≡ begun old k
is-begun (Ok x) old new k b e = b
is-begun (Err x) old new k b e = cc

pub not-begun : (r : Result (Unit {0}) NoMemory) (old new : Table) (k : UnitKind) → BeginsTable r old new k → is_err r ≡ true → new ≡ old
not-begun (Ok x) old new k b e = cc
not-begun (Err x) old new k b e = b
