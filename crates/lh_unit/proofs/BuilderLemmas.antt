-- What the calls on one unit do to the module.
use Rattle.std.proofs.Common.{◌≡◌, ℕ, ◌+◌, ◌<◌, ◌≤◌, Bool, true, false, List, [], ◌∷◌, ◌++◌, length, map, get_or, slice_get, if◌then◌else◌, Option, Some, None, Result, Ok, Err, inl, inr, refl, ap, sym, ◌∙◌, subst, arith, length-append, length-set}
use Rattle.std.proofs.lemmas.List.{get_or_append_left, set-get_or}
use Rattle.std.proofs.lemmas.Option.{get_or_from_slice_get}
use Rattle.lh_types.specs.Types.{TypeTree}
use Rattle.lh_types.proofs.Lists.{push_cases}
use Rattle.lh_types.specs.declared.memory.NoMemory.{NoMemory}
use Rattle.lh_unit.specs.Contents as text
use Rattle.lh_unit.specs.Contents.{UnitText, change_last, defines_value, defines_label, line_count}
use Rattle.lh_unit.specs.Table.{Table, IsTable, HasBlocks, ResultWithin, no_table, is_block, is_defined, result_defined, insts_at, line_at}
use Rattle.lh_unit.specs.TableCalls.{with_value, with_label, with_arg, with_result, with_block, with_line, FindsValueIn, FindsLabelIn, TakesArg, TakesBlock, TakesLine}
use Rattle.lh_unit_names.specs.Distinct.{has_name}
use Rattle.lh_unit.specs.Within.{sizes_of}
use Rattle.lh_unit.specs.Naming.{Naming, naming_of, line_text, arg_text, label_text, block_text, kind_text, table_text}
use Rattle.lh_unit.specs.Arena.{Arena, IsArena, IsOpen, OfOpen, KeepsEntries, HasAtMost, HasFewMore, none_more, one_more_in, contents, item_text_at, unit_text_at, naming, table_at, kind_at, unit_count, value_count, label_count, unit_name_at, value_name_at, label_name_at}
use Rattle.lh_unit.specs.Builders.{NoneElse, FindsEntry, FindsValue, FindsLabel, HasContents, AddsArg, SetsResult, AddsBlock, AddsLine, HasRoom, HasTwice, line_text_at}
use Rattle.lh_unit.specs.declared.inst.UnitId.{UnitId}
use Rattle.lh_unit.specs.declared.inst.ValueId.{ValueId}
use Rattle.lh_unit.specs.declared.inst.BlockId.{BlockId}
use Rattle.lh_unit.specs.declared.inst.InstId.{InstId}
use Rattle.lh_unit.specs.declared.inst.UnitFault.{UnitFault}
use Rattle.lh_unit.specs.declared.inst.UnitFault.TheVariants as fault
use Rattle.lh_unit.specs.declared.inst.Inst.{Inst}
use Rattle.lh_unit.specs.declared.inst.Arg.{Arg}
use Rattle.lh_unit_names.proofs.Lists.{before, at, past, trichotomy}
use Rattle.lh_unit_names.proofs.NameLists.{absent}
use Rattle.lh_unit.proofs.Lists.{Same, same, other, same_or, nat_eq-refl, map-ext}
use Rattle.lh_unit.proofs.Tables.{insts_at-more}
use Rattle.lh_unit.proofs.Arenas.{with_table, table_at-same, table_at-other, open-within, LinesPlaced}
use Rattle.lh_unit.proofs.Texts.{Agree, table_text-same}
use Rattle.lh_unit.proofs.Defined.{line_count-ids, defines_value-ids, defines_result-ids, defines_label-ids}
use Rattle.lh_unit.proofs.ContentsLemmas.{text_with, open-of, contents-with_table, unit_text-table, unit_text-table_same, item_text-other, text-with_arg, text-with_result, text-with_block, text-with_line}

-- a table with the entries of another and maybe more
pub record Grown (t u : Table) : Type 0 where
  pub values : length t.values ≤ length u.values
  pub labels : length t.labels ≤ length u.labels
  pub value_names : (k : ℕ) → k < length t.values → get_or u.values k [] ≡ get_or t.values k []
  pub label_names : (k : ℕ) → k < length t.labels → get_or u.labels k [] ≡ get_or t.labels k []

-- and with at most k more
pub record AtMost (k : ℕ) (t u : Table) : Type 0 where
  pub values : length u.values ≤ length t.values + k
  pub labels : length u.labels ≤ length t.labels + k

pub Grown-refl : (t : Table) → Grown t t
Grown-refl t = record { values = omega arith; labels = omega arith; value_names = λ k h. refl; label_names = λ k h. refl }

pub AtMost-refl : (k : ℕ) (t : Table) → AtMost k t t
AtMost-refl k t = record { values = omega arith; labels = omega arith }

pub Grown-same : (t u : Table) → u.values ≡ t.values → u.labels ≡ t.labels → Grown t u
Grown-same t u v l = record {
  values = omega (arith, ap (λ x. length x) v);
  labels = omega (arith, ap (λ x. length x) l);
  value_names = λ k h. ap (λ x. get_or x k []) v;
  label_names = λ k h. ap (λ x. get_or x k []) l;
}

pub AtMost-same : (t u : Table) → u.values ≡ t.values → u.labels ≡ t.labels → AtMost 0 t u
AtMost-same t u v l = record { values = omega (arith, ap (λ x. length x) v); labels = omega (arith, ap (λ x. length x) l) }

-- a relation of tables holds of all where it holds of the one that is written
pub each_table : (R : Table → Table → Type 0) → ((t : Table) → R t t) → (a : Arena) (u : ℕ) (t : Table) → u < unit_count a → R (table_at a u) t → (v : ℕ)
    → R (table_at a v) (table_at (with_table a u t) v)
each_table R r a u t h w v = by (same_or v u)
  where
    by : Same v u → R (table_at a v) (table_at (with_table a u t) v)
    by (same e) = subst (λ n. R (table_at a n) (table_at (with_table a u t) n)) (sym e) (subst (R (table_at a u)) (sym (table_at-same a u t h)) w)
    by (other e) = subst (R (table_at a v)) (sym (table_at-other a u v t e)) (r (table_at a v))

pub KeepsEntries-by : (a b : Arena) → unit_count a ≤ unit_count b → ((u : ℕ) → u < unit_count a → unit_name_at b u ≡ unit_name_at a u) → ((v : ℕ) → Grown (table_at a v) (table_at b v))
    → KeepsEntries a b
KeepsEntries-by a b h n g = record {
  units = h;
  values = λ u. (g u).values;
  labels = λ u. (g u).labels;
  unit_names = n;
  value_names = λ u v w. (g u).value_names v w;
  label_names = λ u v w. (g u).label_names v w;
}

pub HasAtMost-by : (k : ℕ) (a b : Arena) → unit_count b ≤ unit_count a + k → ((v : ℕ) → AtMost k (table_at a v) (table_at b v)) → (n : ℕ) → HasAtMost n a → HasAtMost (n + k) b
HasAtMost-by k a b h g n w = record {
  units = omega (arith, h, w.units);
  values = λ u. omega (arith, (g u).values, w.values u);
  labels = λ u. omega (arith, (g u).labels, w.labels u);
}

pub HasAtMost-same : (a b : Arena) → unit_count b ≤ unit_count a → ((v : ℕ) → AtMost 0 (table_at a v) (table_at b v)) → (n : ℕ) → HasAtMost n a → HasAtMost n b
HasAtMost-same a b h g n w = record {
  units = omega (arith, h, w.units);
  values = λ u. omega (arith, (g u).values, w.values u);
  labels = λ u. omega (arith, (g u).labels, w.labels u);
}

-- a table that is written has as many more entries as it may have
pub few-written : (a : Arena) (u : ℕ) (t : Table) (f g : ℕ → ℕ) → u < unit_count a → length t.values ≤ length (table_at a u).values + f u → length t.labels ≤ length (table_at a u).labels + g u
    → HasFewMore 0 f g a (with_table a u t)
few-written a u t f g h v l = record { more_units = omega (arith, length-set a.units u t); more_values = λ w. values w (same_or w u); more_labels = λ w. labels w (same_or w u) }
  where
    values : (w : ℕ) → Same w u → length (table_at (with_table a u t) w).values ≤ length (table_at a w).values + f w
    values w (same e) = subst (λ n. length (table_at (with_table a u t) n).values ≤ length (table_at a n).values + f n) (sym e)
        (subst (λ s. length s.values ≤ length (table_at a u).values + f u) (sym (table_at-same a u t h)) v)
    values w (other e) = subst (λ s. length s.values ≤ length (table_at a w).values + f w) (sym (table_at-other a u w t e)) (omega arith)

    labels : (w : ℕ) → Same w u → length (table_at (with_table a u t) w).labels ≤ length (table_at a w).labels + g w
    labels w (same e) = subst (λ n. length (table_at (with_table a u t) n).labels ≤ length (table_at a n).labels + g n) (sym e)
        (subst (λ s. length s.labels ≤ length (table_at a u).labels + g u) (sym (table_at-same a u t h)) l)
    labels w (other e) = subst (λ s. length s.labels ≤ length (table_at a w).labels + g w) (sym (table_at-other a u w t e)) (omega arith)

pub one-here : (u : ℕ) → one_more_in u u ≡ 1
one-here u = ap (λ (b : Bool). if b then 1 else 0) (nat_eq-refl u)

value-labels : (t : Table) (n : List ℕ) → (with_value t n).labels ≡ t.labels
value-labels t n = by (has_name t.values n)
  where
    by : (b : Bool) → (if b then t else record t { values = t.values ++ n ∷ [] }).labels ≡ t.labels
    by true = refl
    by false = refl

label-values : (t : Table) (n : List ℕ) → (with_label t n).values ≡ t.values
label-values t n = by (has_name t.labels n)
  where
    by : (b : Bool) → (if b then t else record t { labels = t.labels ++ n ∷ []; bodies = t.bodies ++ None ∷ [] }).values ≡ t.values
    by true = refl
    by false = refl

-- writing what stands there changes nothing
with_table-same : (a : Arena) (u : ℕ) → with_table a u (table_at a u) ≡ a
with_table-same a u = λ i. record a { units = set-get_or a.units u no_table i }

pub with_table-old : (a : Arena) (u : ℕ) (t : Table) → t ≡ table_at a u → with_table a u t ≡ a
with_table-old a u t e = ap (with_table a u) e ∙ with_table-same a u

-- a table with one more name says the same
module _ (a : Arena) (u : ℕ) (t : Table) (n : List ℕ) (o : IsTable t) (p : LinesPlaced (unit_count a) t) where
  abbrev new_value : Table
  new_value = record t { values = t.values ++ n ∷ [] }

  abbrev new_label : Table
  new_label = record t { labels = t.labels ++ n ∷ []; bodies = t.bodies ++ None ∷ [] }

  Grown-value : Grown t (record t { values = t.values ++ n ∷ [] })
  Grown-value = record {
    values = omega (arith, length-append t.values (n ∷ []));
    labels = omega arith;
    value_names = λ k h. get_or_append_left t.values (n ∷ []) [] k h;
    label_names = λ k h. refl;
  }

  Grown-label : Grown t (record t { labels = t.labels ++ n ∷ []; bodies = t.bodies ++ None ∷ [] })
  Grown-label = record {
    values = omega arith;
    labels = omega (arith, length-append t.labels (n ∷ []));
    value_names = λ k h. refl;
    label_names = λ k h. get_or_append_left t.labels (n ∷ []) [] k h;
  }

  AtMost-value : AtMost 1 t (record t { values = t.values ++ n ∷ [] })
  AtMost-value = record { values = omega (arith, length-append t.values (n ∷ [])); labels = omega arith }

  AtMost-label : AtMost 1 t (record t { labels = t.labels ++ n ∷ []; bodies = t.bodies ++ None ∷ [] })
  AtMost-label = record { values = omega arith; labels = omega (arith, length-append t.labels (n ∷ [])) }

  agree : (v : Table) → Grown t v → Agree (sizes_of (unit_count a) t) (naming_of (unit_name_at a) v) (naming_of (unit_name_at a) t)
  agree v g = record { units = λ k h. refl; values = g.value_names; labels = g.label_names }

  says-value : text_with a u (record t { values = t.values ++ n ∷ [] }) ≡ text_with a u t
  says-value = table_text-same (unit_count a) (naming_of (unit_name_at a) new_value) (naming_of (unit_name_at a) t) (unit_name_at a u) t (agree new_value Grown-value) o p

  says-label : text_with a u (record t { labels = t.labels ++ n ∷ []; bodies = t.bodies ++ None ∷ [] }) ≡ text_with a u t
  says-label = bodies ∙ table_text-same (unit_count a) (naming_of (unit_name_at a) new_label) (naming_of (unit_name_at a) t) (unit_name_at a u) t (agree new_label Grown-label) o p
    where
      f : Naming
      f = naming_of (unit_name_at a) new_label

      bodies : table_text (naming_of (unit_name_at a) new_label) (unit_name_at a u) new_label ≡ table_text (naming_of (unit_name_at a) new_label) (unit_name_at a u) t
      bodies =
          let e : map (block_text f new_label) t.blocks ≡ map (block_text f t) t.blocks = map-ext (block_text f new_label) (block_text f t) t.blocks (λ b.
          let s : insts_at new_label b.0 ≡ insts_at t b.0 = insts_at-more t n b.0 in
          λ i. record { label = label_text f t.kind b; lines = map (λ (k : InstId). line_text f (line_at t k.0)) (s i) }) in
          λ i. record { kind = kind_text t.kind; name = unit_name_at a u; args = map (arg_text f) t.args; result = t.result; blocks = e i }

  -- what is asked of a table that is looked into
  pub record Looked (v : Table) : Type 0 where
    pub grown : Grown t v
    pub at_most : AtMost 1 t v
    pub says : text_with a u v ≡ text_with a u t

  pub looked-value : Looked (with_value t n)
  looked-value = by (has_name t.values n)
    where
      by : (b : Bool) → Looked (if b then t else record t { values = t.values ++ n ∷ [] })
      by true = record { grown = Grown-refl t; at_most = AtMost-refl 1 t; says = refl }
      by false = record { grown = Grown-value; at_most = AtMost-value; says = says-value }

  pub looked-label : Looked (with_label t n)
  looked-label = by (has_name t.labels n)
    where
      by : (b : Bool) → Looked (if b then t else record t { labels = t.labels ++ n ∷ []; bodies = t.bodies ++ None ∷ [] })
      by true = record { grown = Grown-refl t; at_most = AtMost-refl 1 t; says = refl }
      by false = record { grown = Grown-label; at_most = AtMost-label; says = says-label }

contents-same : (a : Arena) (u : ℕ) (t : Table) → u < unit_count a → text_with a u t ≡ unit_text_at a u → contents (with_table a u t) ≡ contents a
contents-same a u t h e = map-ext (item_text_at (with_table a u t)) (item_text_at a) a.items (λ i. item_text-other a (with_table a u t) i (λ v r. by v.0 (same_or v.0 u)))
  where
    by : (v : ℕ) → Same v u → unit_text_at (with_table a u t) v ≡ unit_text_at a v
    by v (same r) = ap (unit_text_at (with_table a u t)) r ∙ unit_text-table_same a u t h ∙ e ∙ sym (ap (unit_text_at a) r)
    by v (other r) = unit_text-table a u v t r

FindsEntry-with_table : (a : Arena) (u : ℕ) (t : Table) → u < unit_count a → Grown (table_at a u) t → AtMost 1 (table_at a u) t → text_with a u t ≡ unit_text_at a u → FindsEntry a (with_table a u t)
FindsEntry-with_table a u t h g m e = record {
  grows = record {
    entries = KeepsEntries-by a (with_table a u t) (omega (arith, length-set a.units u t)) (λ v w. refl) (each_table Grown Grown-refl a u t h g);
    open_stays = λ v p. p;
    says = contents-same a u t h e;
  };
  few = HasAtMost-by 1 a (with_table a u t) (omega (arith, length-set a.units u t)) (each_table (AtMost 1) (AtMost-refl 1) a u t h m);
}

-- one more key, which was none of those before: each other one was there
pub none_else-pushed : {K : Type 0} (ks : List K) (n : K) (k : ℕ) → ((i : ℕ) → slice_get ks i ≡ Some n → ⊥) → slice_get (ks ++ n ∷ []) k ≡ Some n
    → NoneElse (length ks) (length (ks ++ n ∷ [])) k
none_else-pushed ks n k fresh s i h =
    let last : k ≡ length ks = elim (push_cases ks n n k s) [ inl q ↦ absurd (fresh k q) | inr q ↦ q.0 ] in
    let b : i < length ks + 1 = omega (arith, h, length-append ks (n ∷ [])) in
    elim (trichotomy (length ks) i) [ before q ↦ inl (omega (arith, b, q)) | at q ↦ inr (omega (arith, q, last)) | past q ↦ inl (omega (arith, b, q)) ]

-- a name that was entered if it was not there
none_else : (ks new : List (List ℕ)) (n : List ℕ) (k : ℕ) → new ≡ (if has_name ks n then ks else ks ++ n ∷ []) → slice_get new k ≡ Some n → NoneElse (length ks) (length new) k
none_else ks new n k e s = by (has_name ks n) refl
  where
    by : (b : Bool) → has_name ks n ≡ b → NoneElse (length ks) (length new) k
    by true p = let l : length new ≡ length ks = ap length (e ∙ rw p refl) in λ i h. inl (omega (arith, h, l))
    by false p = let f : new ≡ ks ++ n ∷ [] = e ∙ rw p refl in
        subst (λ l. NoneElse (length ks) (length l) k) (sym f) (none_else-pushed ks n k (absent ks n p) (sym (ap (λ l. slice_get l k) f) ∙ s))

value-names : (t : Table) (n : List ℕ) → (with_value t n).values ≡ (if has_name t.values n then t.values else t.values ++ n ∷ [])
value-names t n = by (has_name t.values n)
  where
    by : (b : Bool) → (if b then t else record t { values = t.values ++ n ∷ [] }).values ≡ (if b then t.values else t.values ++ n ∷ [])
    by true = refl
    by false = refl

label-names : (t : Table) (n : List ℕ) → (with_label t n).labels ≡ (if has_name t.labels n then t.labels else t.labels ++ n ∷ [])
label-names t n = by (has_name t.labels n)
  where
    by : (b : Bool) → (if b then t else record t { labels = t.labels ++ n ∷ []; bodies = t.bodies ++ None ∷ [] }).labels ≡ (if b then t.labels else t.labels ++ n ∷ [])
    by true = refl
    by false = refl

-- a name that is looked up in the unit u
pub FindsValue-with_table : (r : Result ValueId NoMemory) (a : Arena) (u : UnitId) (t : Table) (n : List ℕ) → IsArena a → u.0 < unit_count a → FindsValueIn r (table_at a u.0) t n
    → FindsValue r a (with_table a u.0 t) u n
FindsValue-with_table (Ok v) a u t n o h f =
    let l : Looked a u.0 (table_at a u.0) n (o.tables u.0 h) (o.placed u.0) t = subst (Looked a u.0 (table_at a u.0) n (o.tables u.0 h) (o.placed u.0)) (sym f.table)
    (looked-value a u.0 (table_at a u.0) n (o.tables u.0 h) (o.placed u.0)) in (
      FindsEntry-with_table a u.0 t h l.grown l.at_most l.says,
      subst (λ (s : Table). v.0 < length s.values) (sym (table_at-same a u.0 t h)) f.within,
      ap (λ (s : Table). get_or s.values v.0 []) (table_at-same a u.0 t h) ∙ get_or_from_slice_get t.values v.0 n [] f.named,
      few-written a u.0 t (one_more_in u.0) none_more h (omega (arith, l.at_most.values, one-here u.0))
          (omega (arith, ap (λ (s : Table). length s.labels) f.table, ap (λ (x : List (List ℕ)). length x) (value-labels (table_at a u.0) n))),
      subst (λ (s : Table). NoneElse (value_count a u.0) (length s.values) v.0) (sym (table_at-same a u.0 t h))
          (none_else (table_at a u.0).values t.values n v.0 (ap (λ (s : Table). s.values) f.table ∙ value-names (table_at a u.0) n) f.named),
    )
FindsValue-with_table (Err e) a u t n o h f = with_table-old a u.0 t f

pub FindsLabel-with_table : (r : Result BlockId NoMemory) (a : Arena) (u : UnitId) (t : Table) (n : List ℕ) → IsArena a → u.0 < unit_count a → FindsLabelIn r (table_at a u.0) t n
    → FindsLabel r a (with_table a u.0 t) u n
FindsLabel-with_table (Ok v) a u t n o h f =
    let l : Looked a u.0 (table_at a u.0) n (o.tables u.0 h) (o.placed u.0) t = subst (Looked a u.0 (table_at a u.0) n (o.tables u.0 h) (o.placed u.0)) (sym f.table)
    (looked-label a u.0 (table_at a u.0) n (o.tables u.0 h) (o.placed u.0)) in (
      FindsEntry-with_table a u.0 t h l.grown l.at_most l.says,
      subst (λ (s : Table). v.0 < length s.labels) (sym (table_at-same a u.0 t h)) f.within,
      ap (λ (s : Table). get_or s.labels v.0 []) (table_at-same a u.0 t h) ∙ get_or_from_slice_get t.labels v.0 n [] f.named,
      few-written a u.0 t none_more (one_more_in u.0) h (omega (arith, ap (λ (s : Table). length s.values) f.table, ap (λ (x : List (List ℕ)). length x) (label-values (table_at a u.0) n)))
          (omega (arith, l.at_most.labels, one-here u.0)),
      subst (λ (s : Table). NoneElse (label_count a u.0) (length s.labels) v.0) (sym (table_at-same a u.0 t h))
          (none_else (table_at a u.0).labels t.labels n v.0 (ap (λ (s : Table). s.labels) f.table ∙ label-names (table_at a u.0) n) f.named),
    )
FindsLabel-with_table (Err e) a u t n o h f = with_table-old a u.0 t f

-- the open unit is changed by f
HasContents-with_table : (a : Arena) (u : UnitId) (t : Table) (f : UnitText → UnitText) → IsArena a → IsOpen a u → t.values ≡ (table_at a u.0).values → t.labels ≡ (table_at a u.0).labels
    → text_with a u.0 t ≡ f (unit_text_at a u.0) → HasContents a (with_table a u.0 t) u (change_last f (contents a))
HasContents-with_table a u t f o p v l e = record {
  says = contents-with_table a u t f o p e;
  is_open = p;
  entries = KeepsEntries-by a (with_table a u.0 t) (omega (arith, length-set a.units u.0 t)) (λ w h. refl)
      (each_table Grown Grown-refl a u.0 t (open-within a u o p) (Grown-same (table_at a u.0) t v l));
  few = HasAtMost-same a (with_table a u.0 t) (omega (arith, length-set a.units u.0 t)) (each_table (AtMost 0) (AtMost-refl 0) a u.0 t (open-within a u o p) (AtMost-same (table_at a u.0) t v l));
  no_more = few-written a u.0 t none_more none_more (open-within a u o p) (omega (arith, ap (λ (x : List (List ℕ)). length x) v)) (omega (arith, ap (λ (x : List (List ℕ)). length x) l));
}

-- the calls on the open unit
module _ (a : Arena) (u : UnitId) (o : IsArena a) (p : IsOpen a u) where
  t : Table
  t = table_at a u.0

  here : u.0 < unit_count a
  here = open-within a u o p

  defines : (v : ℕ) (b : Bool) → v < length (table_at a u.0).values → is_defined (table_at a u.0) v ≡ b → OfOpen a (λ x. defines_value (value_name_at a u.0 v) x ≡ b)
  defines v b h e = open-of a u (λ x. defines_value (value_name_at a u.0 v) x ≡ b) p (defines_value-ids (unit_name_at a) (unit_name_at a u.0) (table_at a u.0) v (o.tables u.0 here) h ∙ e)

  says-arg : (x : Arg) (s : Table) → s ≡ with_arg (table_at a u.0) x → HasContents a (with_table a u.0 s) u (change_last (text.with_arg (arg_text (naming a u.0) x)) (contents a))
  says-arg x s e = subst (λ s. HasContents a (with_table a u.0 s) u (change_last (text.with_arg (arg_text (naming a u.0) x)) (contents a))) (sym e)
      (HasContents-with_table a u (with_arg (table_at a u.0) x) (text.with_arg (arg_text (naming a u.0) x)) o p refl refl (text-with_arg a u.0 (table_at a u.0) x))

  pub AddsArg-with_table : (r : Result (Unit {0}) UnitFault) (s : Table) (x : Arg) → x.value.0 < length (table_at a u.0).values → TakesArg r (table_at a u.0) s x
      → AddsArg r a (with_table a u.0 s) u (arg_text (naming a u.0) x)
  AddsArg-with_table (Ok _) s x h f = (defines x.value.0 false h f.0, says-arg x s f.1)
  AddsArg-with_table (Err fault.UnitTooLarge) s x h f = f
  AddsArg-with_table (Err fault.DuplicateName) s x h f = (defines x.value.0 true h f.0, with_table-old a u.0 s f.1)
  AddsArg-with_table (Err fault.OutOfMemory) s x h f = (defines x.value.0 false h f.0, with_table-old a u.0 s f.1)

  pub SetsResult-with_table : (s : Table) (ty : TypeTree) → s ≡ with_result (table_at a u.0) ty → SetsResult a (with_table a u.0 s) u ty
  SetsResult-with_table s ty e = subst (λ s. SetsResult a (with_table a u.0 s) u ty) (sym e)
      (HasContents-with_table a u (with_result (table_at a u.0) ty) (text.with_result ty) o p refl refl (text-with_result a u.0 (table_at a u.0) ty))

  labelled : (b : ℕ) (c : Bool) → HasBlocks (kind_at a u.0) → b < length (table_at a u.0).labels → is_block (table_at a u.0).blocks b ≡ c → OfOpen a (λ x. defines_label (label_name_at a u.0 b) x ≡ c)
  labelled b c s h e = open-of a u (λ x. defines_label (label_name_at a u.0 b) x ≡ c) p (defines_label-ids (unit_name_at a) (unit_name_at a u.0) (table_at a u.0) b (o.tables u.0 here) s h ∙ e)

  pub AddsBlock-with_table : (r : Result (Unit {0}) UnitFault) (s : Table) (b : BlockId) → HasBlocks (kind_at a u.0) → b.0 < length (table_at a u.0).labels → TakesBlock r (table_at a u.0) s b
      → AddsBlock r a (with_table a u.0 s) u (label_name_at a u.0 b.0)
  AddsBlock-with_table (Ok _) s b k h f = (
    labelled b.0 false k h f.0,
    subst (λ s. HasContents a (with_table a u.0 s) u (change_last (text.with_block (label_name_at a u.0 b.0)) (contents a))) (sym f.1)
        (HasContents-with_table a u (with_block (table_at a u.0) b) (text.with_block (label_name_at a u.0 b.0)) o p refl refl (text-with_block a u.0 (table_at a u.0) b (o.tables u.0 here) k h f.0)),
  )
  AddsBlock-with_table (Err fault.UnitTooLarge) s b k h f = f
  AddsBlock-with_table (Err fault.DuplicateName) s b k h f = (labelled b.0 true k h f.0, with_table-old a u.0 s f.1)
  AddsBlock-with_table (Err fault.OutOfMemory) s b k h f = (labelled b.0 false k h f.0, with_table-old a u.0 s f.1)

  counted : line_count (unit_text_at a u.0).blocks ≡ length (table_at a u.0).lines
  counted = line_count-ids (naming a u.0) (unit_name_at a u.0) (table_at a u.0) (o.tables u.0 here)

  has_room : (v : Option ValueId) (i : Inst) → ResultWithin (length (table_at a u.0).values) v → length (table_at a u.0).lines < 65536 → result_defined (table_at a u.0) v ≡ false
      → OfOpen a (HasRoom (line_text_at a u.0 v i))
  has_room v i w h e = open-of a u (HasRoom (line_text_at a u.0 v i)) p record {
    small = omega (arith, h, counted);
    undefined = defines_result-ids (unit_name_at a) (unit_name_at a u.0) (table_at a u.0) v (o.tables u.0 here) w ∙ e;
  }

  has_twice : (v : Option ValueId) (i : Inst) → ResultWithin (length (table_at a u.0).values) v → length (table_at a u.0).lines < 65536 → result_defined (table_at a u.0) v ≡ true
      → OfOpen a (HasTwice (line_text_at a u.0 v i))
  has_twice v i w h e = open-of a u (HasTwice (line_text_at a u.0 v i)) p record {
    small = omega (arith, h, counted);
    twice = defines_result-ids (unit_name_at a) (unit_name_at a u.0) (table_at a u.0) v (o.tables u.0 here) w ∙ e;
  }

  pub AddsLine-with_table : (r : Result InstId UnitFault) (s : Table) (v : Option ValueId) (i : Inst) → ResultWithin (length (table_at a u.0).values) v → 0 < length (table_at a u.0).blocks
      → TakesLine r (table_at a u.0) s v i → AddsLine r a (with_table a u.0 s) u (line_text_at a u.0 v i)
  AddsLine-with_table (Ok id) s v i w h f = (
    has_room v i w f.0 f.1,
    subst (λ s. HasContents a (with_table a u.0 s) u (change_last (text.with_line (line_text_at a u.0 v i)) (contents a))) (sym f.3)
        (HasContents-with_table a u (with_line (table_at a u.0) v i) (text.with_line (line_text_at a u.0 v i)) o p refl refl (text-with_line a u.0 (table_at a u.0) v i (o.tables u.0 here) h)),
    f.2,
  )
  AddsLine-with_table (Err fault.UnitTooLarge) s v i w h f = (open-of a u (λ x. line_count x.blocks ≡ 65536) p (counted ∙ f.0), with_table-old a u.0 s f.1)
  AddsLine-with_table (Err fault.DuplicateName) s v i w h f = (has_twice v i w f.0 f.1, with_table-old a u.0 s f.2)
  AddsLine-with_table (Err fault.OutOfMemory) s v i w h f = (has_room v i w f.0 f.1, with_table-old a u.0 s f.2)
