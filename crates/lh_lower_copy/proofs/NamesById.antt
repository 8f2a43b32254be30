-- Names under the same ids: units, values and labels, one after another.
use Rattle.std.proofs.Common.{◌≡◌, ◌≢◌, ℕ, ◌+◌, ◌<◌, ◌≤◌, List, Ok, if◌then◌else◌, refl, ap, sym, ◌∙◌, arith}
use Rattle.lh_unit.specs.Arena.{Arena, IsArena, one_more_in, no_arena, unit_count, value_count, label_count, unit_name_at, value_name_at, label_name_at}
use Rattle.lh_unit.specs.Builders.{FindsUnit, FindsValue, FindsLabel}
use Rattle.lh_unit.specs.declared.inst.UnitId.{UnitId}
use Rattle.lh_unit.specs.declared.inst.ValueId.{ValueId}
use Rattle.lh_unit.specs.declared.inst.BlockId.{BlockId}
use Rattle.lh_unit.proofs.Lists.{nat_eq-other}
use Rattle.lh_unit_names.proofs.Lists.{before, at, past, trichotomy}
use Rattle.lh_unit.proofs.ModuleLaws.{KeepsEntries-refl, KeepsEntries-trans, unit-by_name, value-by_name, label-by_name}
use Rattle.lh_unit.proofs.BuilderLemmas.{one-here}
use Rattle.lh_lower_copy.specs.Named.{NamesIn, NamesUnits, NamesValues, NamesLabels}

-- the names of n ids differ
abbrev pub Differ : {X : Type 0} → ℕ → (ℕ → X) → Type 0
Differ n f = (j k : ℕ) → j < n → k < n → f j ≡ f k → j ≡ k

-- An id with the name of the next one, where those before it have the names before it, is the next one.
next-id : {X : Type 0} (n k v count : ℕ) (f g : ℕ → X) → Differ n f → k < n → count ≤ k + 1 → v < count → ((j : ℕ) → j < k → g j ≡ f j) → g v ≡ f k → v ≡ k
next-id n k v count f g d h c w s e = elim (trichotomy k v)
    [ before b ↦ absurd (let q : v ≡ k = d v k (omega (arith, b, h)) h (sym (s v b) ∙ e) in omega (arith, b, q)) | at q ↦ q | past p ↦ absurd (omega (arith, p, w, c)) ]

-- one more name
more-names : {X : Type 0} (k : ℕ) (f g : ℕ → X) → ((j : ℕ) → j < k → g j ≡ f j) → g k ≡ f k → (j : ℕ) → j < k + 1 → g j ≡ f j
more-names k f g s e j h = elim (trichotomy k j) [ before b ↦ s j b | at q ↦ (ap g q ∙ e ∙ ap f (sym q)) | past p ↦ absurd (omega (arith, p, h)) ]

-- ---- units

pub units-start : (a : Arena) → NamesUnits a no_arena 0
units-start a = record { empty = refl; count = refl; names = λ u h. absurd (omega arith); values = λ u. refl; labels = λ u. refl }

pub units-differ : (a : Arena) → IsArena a → Differ (unit_count a) (unit_name_at a)
units-differ a o j k h g e = unit-by_name a j k o h g e

pub units-next : (a old new : Arena) (k : ℕ) (u : UnitId) → IsArena a → k < unit_count a → NamesUnits a old k → FindsUnit (Ok u) old new (unit_name_at a k) → NamesUnits a new (k + 1)
units-next a old new k u o h n f =
    let g = f.0.grows in
    let more : unit_count new ≤ unit_count old + 1 = f.3.more_units in
    let kept : (j : ℕ) → j < k → unit_name_at new j ≡ unit_name_at a j = λ j l. g.entries.unit_names j (omega (arith, l, n.count)) ∙ n.names j l in
    let e : u.0 ≡ k = next-id (unit_count a) k u.0 (unit_count new) (unit_name_at a) (unit_name_at new) (units-differ a o) h (omega (arith, more, n.count)) f.1 kept f.2 in
    record {
      empty = g.says ∙ n.empty;
      count = omega (arith, e, f.1, more, n.count);
      names = more-names k (unit_name_at a) (unit_name_at new) kept (ap (unit_name_at new) (sym e) ∙ f.2);
      values = λ w. omega (arith, f.3.more_values w, n.values w);
      labels = λ w. omega (arith, f.3.more_labels w, n.labels w);
    }

-- ---- entries of one unit

elsewhere : (u w : ℕ) → w ≢ u → one_more_in u w ≡ 0
elsewhere u w h = ap (λ b. if b then 1 else 0) (nat_eq-other w u h)

pub names-refl : (a : Arena) (u : ℕ) → NamesIn a a u
names-refl a u = record { says = refl; entries = KeepsEntries-refl a; units = refl; values = λ w h. refl; labels = λ w h. refl }

pub names-trans : (a b c : Arena) (u : ℕ) → NamesIn a b u → NamesIn b c u → NamesIn a c u
names-trans a b c u p q = record {
  says = q.says ∙ p.says;
  entries = KeepsEntries-trans a b c p.entries q.entries;
  units = q.units ∙ p.units;
  values = λ w h. q.values w h ∙ p.values w h;
  labels = λ w h. q.labels w h ∙ p.labels w h;
}

value-in : (a b : Arena) (u : UnitId) (v : ValueId) (n : List ℕ) → FindsValue (Ok v) a b u n → NamesIn a b u.0
value-in a b u v n f = let k = f.0.grows.entries in record {
  says = f.0.grows.says;
  entries = k;
  units = omega (arith, k.units, f.3.more_units);
  values = λ w h. omega (arith, k.values w, f.3.more_values w, elsewhere u.0 w h);
  labels = λ w h. omega (arith, k.labels w, f.3.more_labels w);
}

label-in : (a b : Arena) (u : UnitId) (v : BlockId) (n : List ℕ) → FindsLabel (Ok v) a b u n → NamesIn a b u.0
label-in a b u v n f = let k = f.0.grows.entries in record {
  says = f.0.grows.says;
  entries = k;
  units = omega (arith, k.units, f.3.more_units);
  values = λ w h. omega (arith, k.values w, f.3.more_values w);
  labels = λ w h. omega (arith, k.labels w, f.3.more_labels w, elsewhere u.0 w h);
}

-- ---- values

pub values-start : (a : Arena) (u : ℕ) (f : ℕ → List ℕ) → value_count a u ≡ 0 → NamesValues a a u 0 f
values-start a u f h = record { only = names-refl a u; labels_stay = refl; named = record { count = h; names = λ v g. absurd (omega arith) } }

pub values-next : (a old new : Arena) (u : UnitId) (n k : ℕ) (f : ℕ → List ℕ) (v : ValueId) → Differ n f → k < n → NamesValues a old u.0 k f → FindsValue (Ok v) old new u (f k)
    → NamesValues a new u.0 (k + 1) f
values-next a old new u n k f v d h s w =
    let g = w.0.grows in
    let more : value_count new u.0 ≤ value_count old u.0 + 1 = omega (arith, w.3.more_values u.0, one-here u.0) in
    let kept : (j : ℕ) → j < k → value_name_at new u.0 j ≡ f j = λ j l. g.entries.value_names u.0 j (omega (arith, l, s.named.count)) ∙ s.named.names j l in
    let e : v.0 ≡ k = next-id n k v.0 (value_count new u.0) f (value_name_at new u.0) d h (omega (arith, more, s.named.count)) w.1 kept w.2 in
    record {
      only = names-trans a old new u.0 s.only (value-in old new u v (f k) w);
      labels_stay = omega (arith, g.entries.labels u.0, w.3.more_labels u.0, s.labels_stay);
      named = record {
        count = omega (arith, e, w.1, more, s.named.count);
        names = more-names k f (value_name_at new u.0) kept (ap (value_name_at new u.0) (sym e) ∙ w.2);
      };
    }

pub values-differ : (a : Arena) (u : ℕ) → IsArena a → u < unit_count a → Differ (value_count a u) (value_name_at a u)
values-differ a u o h j k p q e = value-by_name a u j k o h p q e

-- ---- labels

pub labels-start : (a : Arena) (u : ℕ) (f : ℕ → List ℕ) → label_count a u ≡ 0 → NamesLabels a a u 0 f
labels-start a u f h = record { only = names-refl a u; values_stay = refl; named = record { count = h; names = λ v g. absurd (omega arith) } }

pub labels-next : (a old new : Arena) (u : UnitId) (n k : ℕ) (f : ℕ → List ℕ) (v : BlockId) → Differ n f → k < n → NamesLabels a old u.0 k f → FindsLabel (Ok v) old new u (f k)
    → NamesLabels a new u.0 (k + 1) f
labels-next a old new u n k f v d h s w =
    let g = w.0.grows in
    let more : label_count new u.0 ≤ label_count old u.0 + 1 = omega (arith, w.3.more_labels u.0, one-here u.0) in
    let kept : (j : ℕ) → j < k → label_name_at new u.0 j ≡ f j = λ j l. g.entries.label_names u.0 j (omega (arith, l, s.named.count)) ∙ s.named.names j l in
    let e : v.0 ≡ k = next-id n k v.0 (label_count new u.0) f (label_name_at new u.0) d h (omega (arith, more, s.named.count)) w.1 kept w.2 in
    record {
      only = names-trans a old new u.0 s.only (label-in old new u v (f k) w);
      values_stay = omega (arith, g.entries.values u.0, w.3.more_values u.0, s.values_stay);
      named = record {
        count = omega (arith, e, w.1, more, s.named.count);
        names = more-names k f (label_name_at new u.0) kept (ap (label_name_at new u.0) (sym e) ∙ w.2);
      };
    }

pub labels-differ : (a : Arena) (u : ℕ) → IsArena a → u < unit_count a → Differ (label_count a u) (label_name_at a u)
labels-differ a u o h j k p q e = label-by_name a u j k o h p q e
