-- A unit that is added as it is: its header, its blocks, and what stays of the other units.
use Rattle.std.proofs.Common.{◌≡◌, ℕ, ◌<◌, false, List, [], ◌∷◌, ◌++◌, map, Some, Result, Ok, Err, IfOk, ap, sym, ◌∙◌, subst, arith}
use Rattle.lh_types.specs.declared.memory.NoMemory.{NoMemory}
use Rattle.lh_unit.specs.Contents.{UnitText, unit_text, new_unit, defines_unit}
use Rattle.lh_unit.specs.Table.{Table, FitsKind, HasBlocks, entity_block}
use Rattle.lh_unit.specs.Within.{Each}
use Rattle.lh_unit.specs.Naming.{label_text, kind_text}
use Rattle.lh_unit.specs.Arena.{Arena, IsArena, contents, naming, table_at, kind_at, blocks_at, result_type_at, unit_text_at, unit_count, value_count, label_count, unit_name_at, value_name_at, label_name_at}
use Rattle.lh_unit_names.specs.declared.name.UnitName.{UnitName}
use Rattle.lh_unit.specs.declared.inst.UnitId.{UnitId}
use Rattle.lh_unit.specs.declared.inst.BlockId.{BlockId}
use Rattle.lh_unit.specs.declared.inst.UnitKind.{UnitKind}
use Rattle.lh_unit.specs.declared.inst.UnitKind.TheVariants as kind
use Rattle.lh_unit.proofs.ModuleLaws.{KeepsEntries-trans}
use Rattle.lh_lower_copy.specs.Changing.{Becomes, AddsUnitText, with_args, with_blocks, with_type}
use Rattle.lh_lower_copy.specs.Fitting.{ArgsFit, BlocksFit}
use Rattle.lh_lower_copy.specs.Named.{SameUnits, SameNames, NamesIn, NamesValues, NamesLabels}
use Rattle.lh_lower_copy.specs.Kept.{TypeFits, block_at}
use Rattle.lh_lower_copy.specs.Copying.{IsOnce, AddsUnit, headed}
use Rattle.lh_lower_copy.proofs.Opened.{becomes-trans, adds-then}
use Rattle.lh_lower_copy.proofs.NamesById.{names-trans}
use Rattle.lh_lower_copy.proofs.Rests.{labelled}
use Rattle.lh_lower_copy.proofs.Once.{Labelled, BlocksOf, TypeOf, Whole, new-args, headed-by, type-fits-by, whole-by}

pub same-adds : (a b c : Arena) (u : UnitId) (t : UnitText) → SameNames a b u.0 → AddsUnitText b c u t → SameNames a c u.0
same-adds a b c u t s p = let k = p.entries in record {
  units = record {
    units = omega (arith, k.units, p.no_more.more_units, s.units.units);
    names = λ w h. k.unit_names w (omega (arith, h, s.units.units)) ∙ s.units.names w h;
  };
  values = record {
    count = omega (arith, k.values u.0, p.no_more.more_values u.0, s.values.count);
    names = λ v h. k.value_names u.0 v (omega (arith, h, s.values.count)) ∙ s.values.names v h;
  };
  labels = record {
    count = omega (arith, k.labels u.0, p.no_more.more_labels u.0, s.labels.count);
    names = λ v h. k.label_names u.0 v (omega (arith, h, s.labels.count)) ∙ s.labels.names v h;
  };
}

-- ---- what a table has

type-of-table : (k : UnitKind) (t : Table) → FitsKind (Some k) t → TypeOf k t.result
type-of-table kind.Func t f = f.0
type-of-table kind.Proc t f = f.0
type-of-table kind.Entity t f = f.0

-- the kind, the result type and the blocks of a unit of this kind
module _ (a : Arena) (u : ℕ) (k : UnitKind) (o : IsArena a) (h : u < unit_count a) (e : kind_at a u ≡ Some k) where
  fits : FitsKind (Some k) (table_at a u)
  fits = subst (λ q. FitsKind q (table_at a u)) e (o.tables u h).fits_kind

  pub kind-is : (unit_text_at a u).kind ≡ k
  kind-is = ap kind_text e

  pub type-is : TypeOf k (result_type_at a u)
  type-is = type-of-table k (table_at a u) fits

  each-labelled : HasBlocks (kind_at a u) → (bs : List BlockId) → Each Labelled (map (block_at a u) bs)
  each-labelled w [] = tt
  each-labelled w (b ∷ bs) = ((label_name_at a u b.0, labelled a u b w), each-labelled w bs)

blocks-of : (k : UnitKind) (a : Arena) (u : ℕ) → IsArena a → u < unit_count a → kind_at a u ≡ Some k → BlocksOf k (unit_text_at a u).blocks
blocks-of kind.Func a u o h e = each-labelled a u kind.Func o h e (subst HasBlocks (sym e) tt) (blocks_at a u)
blocks-of kind.Proc a u o h e = each-labelled a u kind.Proc o h e (subst HasBlocks (sym e) tt) (blocks_at a u)
blocks-of kind.Entity a u o h e =
    let f : blocks_at a u ≡ entity_block ∷ [] = (fits a u kind.Entity o h e).1 in
    (block_at a u entity_block, ap (map (block_at a u)) f, ap (λ q. label_text (naming a u) q entity_block) e)

pub unit-whole : (a : Arena) (u : ℕ) (k : UnitKind) → IsArena a → u < unit_count a → kind_at a u ≡ Some k → IsOnce (unit_text_at a u) → Whole (unit_text_at a u)
unit-whole a u k o h e w = whole-by k (unit_text_at a u) (kind-is a u k o h e) (blocks-of k a u o h e) w

-- ---- the header

module _ (a m : Arena) (u : UnitId) (k : UnitKind) (o : IsArena a) (h : u.0 < unit_count a) (e : kind_at a u.0 ≡ Some k) (s : SameNames a m u.0) (w : IsOnce (unit_text_at a u.0)) where
  name : unit_name_at m u.0 ≡ unit_name_at a u.0
  name = s.units.names u.0 h

  pub header-undefined : defines_unit (unit_name_at a u.0) (contents m) ≡ false → defines_unit (unit_name_at m u.0) (contents m) ≡ false
  header-undefined d = ap (λ n. defines_unit n (contents m)) name ∙ d

  module _ (begun : Arena) (p : AddsUnitText m begun u (new_unit (unit_name_at m u.0) k)) where
    pub header-args : ArgsFit (unit_text_at begun u.0) (unit_text_at a u.0).args
    header-args = subst (λ t. ArgsFit t (unit_text_at a u.0).args) (sym p.text) (new-args (unit_name_at m u.0) k (unit_text_at a u.0).args w.args)

    pub header-named : SameNames a begun u.0
    header-named = same-adds a m begun u (new_unit (unit_name_at m u.0) k) s p

    module _ (filled : Arena) (q : Becomes begun filled u (with_args (unit_text_at a u.0).args (unit_text_at begun u.0))) where
      text : unit_text_at filled u.0 ≡ with_args (unit_text_at a u.0).args (new_unit (unit_name_at a u.0) k)
      text = q.text ∙ ap (with_args (unit_text_at a u.0).args) (p.text ∙ ap (λ n. new_unit n k) name)

      pub header-type : TypeFits (unit_text_at filled u.0) (result_type_at a u.0)
      header-type = type-fits-by k (unit_name_at a u.0) (unit_text_at a u.0).args (result_type_at a u.0) (unit_text_at filled u.0) (type-is a u.0 k o h e) text

      whole-header : with_type (result_type_at a u.0) (unit_text_at filled u.0) ≡ headed (unit_text_at a u.0)
      whole-header =
          let x = headed-by k (unit_name_at a u.0) (unit_text_at a u.0).args (result_type_at a u.0) (type-is a u.0 k o h e) in
          let d : k ≡ (unit_text_at a u.0).kind = sym (kind-is a u.0 k o h e) in
          ap (with_type (result_type_at a u.0)) text ∙ x
          ∙ (λ i. record { kind = d i; name = unit_name_at a u.0; args = (unit_text_at a u.0).args; result = result_type_at a u.0; blocks = (new_unit (unit_name_at a u.0) (d i)).blocks })

      pub header-done : (r : Result (Unit {0}) NoMemory) (new : Arena) → IfOk r (λ x. Becomes filled new u (with_type (result_type_at a u.0) (unit_text_at filled u.0)))
          → IfOk r (λ x. AddsUnitText m new u (headed (unit_text_at a u.0)))
      header-done (Ok x) new b =
          let g : Becomes filled new u (headed (unit_text_at a u.0)) = subst (Becomes filled new u) whole-header b in
          adds-then m begun new u (new_unit (unit_name_at m u.0) k) (headed (unit_text_at a u.0)) p
          (becomes-trans begun filled new u (with_args (unit_text_at a u.0).args (unit_text_at begun u.0)) (headed (unit_text_at a u.0)) p.is_open q g)
      header-done (Err x) new b = tt

-- ---- the blocks

pub blocks-fit : (a : Arena) (u : ℕ) (k : UnitKind) (t : UnitText) → IsArena a → u < unit_count a → kind_at a u ≡ Some k → IsOnce (unit_text_at a u) → t ≡ headed (unit_text_at a u)
    → BlocksFit t (unit_text_at a u).blocks
blocks-fit a u k t o h e w q = subst (λ x. BlocksFit x (unit_text_at a u).blocks) (sym q) (unit-whole a u k o h e w).fit

pub text-done : (r : Result (Unit {0}) NoMemory) (a m b c : Arena) (u : UnitId) (k : UnitKind) → IsArena a → u.0 < unit_count a → kind_at a u.0 ≡ Some k → IsOnce (unit_text_at a u.0)
    → AddsUnitText m b u (headed (unit_text_at a u.0))
    → IfOk r (λ x. Becomes b c u (with_blocks (unit_text_at a u.0).blocks (unit_text_at b u.0))) → IfOk r (λ x. AddsUnitText m c u (unit_text_at a u.0))
text-done (Ok x) a m b c u k o h e w p q =
    let g : with_blocks (unit_text_at a u.0).blocks (unit_text_at b u.0) ≡ unit_text_at a u.0 = ap (with_blocks (unit_text_at a u.0).blocks) p.text ∙ (unit-whole a u.0 k o h e w).gives in
    adds-then m b c u (headed (unit_text_at a u.0)) (unit_text_at a u.0) p (subst (Becomes b c u) g q)
text-done (Err x) a m b c u k o h e w p q = tt

-- ---- the names before

pub units-in : (a b c : Arena) (u : ℕ) → SameUnits a b → NamesIn b c u → SameUnits a c
units-in a b c u s n = record { units = n.units ∙ s.units; names = λ w h. n.entries.unit_names w (omega (arith, h, s.units)) ∙ s.names w h }

pub both-named : (a b c d : Arena) (u : ℕ) → SameUnits a b → NamesValues b c u (value_count a u) (value_name_at a u) → NamesLabels c d u (label_count a u) (label_name_at a u) → SameNames a d u
both-named a b c d u s v l = record {
  units = units-in a c d u (units-in a b c u s v.only) l.only;
  values = record {
    count = l.values_stay ∙ v.named.count;
    names = λ n h. l.only.entries.value_names u n (omega (arith, h, v.named.count)) ∙ v.named.names n h;
  };
  labels = l.named;
}

pub names-undefined : (n : UnitName) (b c d : Arena) (u : ℕ) → NamesIn b c u → NamesIn c d u → defines_unit n (contents b) ≡ false → defines_unit n (contents d) ≡ false
names-undefined n b c d u p q h = ap (defines_unit n) (q.says ∙ p.says) ∙ h

-- the whole unit is added
pub adds-unit : (b c d : Arena) (u : UnitId) (t : UnitText) → NamesIn b c u.0 → AddsUnitText c d u t → AddsUnit b d u.0 t
adds-unit b c d u t n p = let k = p.entries in record {
  says = p.says ∙ ap (λ xs. xs ++ unit_text t ∷ []) n.says;
  entries = KeepsEntries-trans b c d n.entries k;
  units = omega (arith, k.units, p.no_more.more_units, n.units);
  values = λ w h. omega (arith, k.values w, p.no_more.more_values w, n.values w h);
  labels = λ w h. omega (arith, k.labels w, p.no_more.more_labels w, n.labels w h);
}

pub unit-done : (r : Result (Unit {0}) NoMemory) (b c d e : Arena) (u : UnitId) (t : UnitText) → NamesIn b c u.0 → NamesIn c d u.0 → IfOk r (λ x. AddsUnitText d e u t)
    → IfOk r (λ x. AddsUnit b e u.0 t)
unit-done (Ok x) b c d e u t p q h = adds-unit b d e u t (names-trans b c d u.0 p q) h
unit-done (Err x) b c d e u t p q h = tt
