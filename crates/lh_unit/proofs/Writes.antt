-- One unit of a module was read and written: the module stays in order, and says what the call promises.
use Rattle.std.proofs.Common.{◌≡◌, ℕ, ◌-◌, ◌^◌, ◌<◌, List, length, get_or, Option, Some, None, IsSome, Result, ap, ◌∙◌, subst, arith}
use Rattle.std.proofs.lemmas.List.{get_or_read, length-map}
use Rattle.lh_types.specs.Types.{TypeTree}
use Rattle.lh_types.specs.declared.memory.NoMemory.{NoMemory}
use Rattle.lh_unit.specs.Table.{Table, HasBlocks, ResultWithin, no_table}
use Rattle.lh_unit.specs.TableCalls.{FindsValueIn, FindsLabelIn, TakesArg, TakesBlock, TakesLine, with_result}
use Rattle.lh_unit.specs.Within.{MaybeWithin}
use Rattle.lh_unit.specs.Naming.{arg_text, block_text, kind_text}
use Rattle.lh_unit.specs.Arena.{Arena, IsArena, IsOpen, OfOpen, InstPlaced, naming, sizes, table_at, kind_at, unit_count, value_count, label_count, label_name_at}
use Rattle.lh_unit.specs.Builders.{FindsValue, FindsLabel, AddsArg, SetsResult, AddsBlock, AddsLine, HasLabels, line_text_at}
use Rattle.lh_unit.specs.declared.inst.UnitId.{UnitId}
use Rattle.lh_unit.specs.declared.inst.ValueId.{ValueId}
use Rattle.lh_unit.specs.declared.inst.BlockId.{BlockId}
use Rattle.lh_unit.specs.declared.inst.InstId.{InstId}
use Rattle.lh_unit.specs.declared.inst.UnitKind.{UnitKind}
use Rattle.lh_unit.specs.declared.inst.UnitKind.TheVariants as kind
use Rattle.lh_unit.specs.declared.inst.UnitFault.{UnitFault}
use Rattle.lh_unit.specs.declared.inst.Inst.{Inst}
use Rattle.lh_unit.specs.declared.inst.Arg.{Arg}
use Rattle.lh_unit.proofs.Arenas.{with_table, IsArena-with_table, FindsValueIn-Keeps, FindsLabelIn-Keeps, TakesArg-Keeps, with_result-Keeps, TakesBlock-Keeps, TakesLine-Keeps, open-begun}
use Rattle.lh_unit.proofs.ContentsLemmas.{of-open}
use Rattle.lh_unit.proofs.BuilderLemmas.{FindsValue-with_table, FindsLabel-with_table, AddsArg-with_table, SetsResult-with_table, AddsBlock-with_table, AddsLine-with_table}

-- the table that was read
pub read : (a : Arena) (u : ℕ) (s : Table) → u < unit_count a → s ≡ get_or a.units u s → s ≡ table_at a u
read a u s h e = get_or_read a.units u s h e no_table

module _ (a : Arena) (u : UnitId) (s t : Table) (o : IsArena a) (h : u.0 < unit_count a) (e : s ≡ get_or a.units u.0 s) where
  pub value-written : (r : Result ValueId NoMemory) (n : List ℕ) → value_count a u.0 < 2 ^ 32 - 1 → FindsValueIn r s t n → IsArena (with_table a u.0 t) × FindsValue r a (with_table a u.0 t) u n
  value-written r n room f =
      let g : FindsValueIn r (table_at a u.0) t n = subst (λ (x : Table). FindsValueIn r x t n) (read a u.0 s h e) f in
      (IsArena-with_table a u.0 t o h (FindsValueIn-Keeps (unit_count a) r (table_at a u.0) t n g room (o.tables u.0 h) (o.placed u.0)), FindsValue-with_table r a u t n o h g)

  pub label-written : (r : Result BlockId NoMemory) (n : List ℕ) → label_count a u.0 < 2 ^ 32 - 1 → FindsLabelIn r s t n → IsArena (with_table a u.0 t) × FindsLabel r a (with_table a u.0 t) u n
  label-written r n room f =
      let g : FindsLabelIn r (table_at a u.0) t n = subst (λ (x : Table). FindsLabelIn r x t n) (read a u.0 s h e) f in
      (IsArena-with_table a u.0 t o h (FindsLabelIn-Keeps (unit_count a) r (table_at a u.0) t n g room (o.tables u.0 h) (o.placed u.0)), FindsLabel-with_table r a u t n o h g)

  pub arg-written : (r : Result (Unit {0}) UnitFault) (x : Arg) → IsOpen a u → x.value.0 < value_count a u.0 → TakesArg r s t x → IsArena (with_table a u.0 t)
      × AddsArg r a (with_table a u.0 t) u (arg_text (naming a u.0) x)
  arg-written r x p w f =
      let g : TakesArg r (table_at a u.0) t x = subst (λ (y : Table). TakesArg r y t x) (read a u.0 s h e) f in
      (IsArena-with_table a u.0 t o h (TakesArg-Keeps (unit_count a) r (table_at a u.0) t x g (open-begun a u o p) w (o.tables u.0 h) (o.placed u.0)), AddsArg-with_table a u o p r t x w g)

  pub result-written : (ty : TypeTree) → IsOpen a u → kind_at a u.0 ≡ Some kind.Func → t ≡ with_result s ty → IsArena (with_table a u.0 t) × SetsResult a (with_table a u.0 t) u ty
  result-written ty p k f =
      let g : t ≡ with_result (table_at a u.0) ty = f ∙ ap (λ (y : Table). with_result y ty) (read a u.0 s h e) in
      (IsArena-with_table a u.0 t o h (with_result-Keeps (unit_count a) (table_at a u.0) t ty g k (o.tables u.0 h) (o.placed u.0)), SetsResult-with_table a u o p t ty g)

  pub block-written : (r : Result (Unit {0}) UnitFault) (b : BlockId) → IsOpen a u → HasBlocks (kind_at a u.0) → b.0 < label_count a u.0 → TakesBlock r s t b → IsArena (with_table a u.0 t)
      × AddsBlock r a (with_table a u.0 t) u (label_name_at a u.0 b.0)
  block-written r b p k w f =
      let g : TakesBlock r (table_at a u.0) t b = subst (λ (y : Table). TakesBlock r y t b) (read a u.0 s h e) f in
      (IsArena-with_table a u.0 t o h (TakesBlock-Keeps (unit_count a) r (table_at a u.0) t b g k w (o.tables u.0 h) (o.placed u.0)), AddsBlock-with_table a u o p r t b k w g)

  pub line-written : (r : Result InstId UnitFault) (v : Option ValueId) (i : Inst) → IsOpen a u → 0 < length (table_at a u.0).blocks → ResultWithin (value_count a u.0) v → InstPlaced a u.0 i
      → TakesLine r s t v i → IsArena (with_table a u.0 t) × AddsLine r a (with_table a u.0 t) u (line_text_at a u.0 v i)
  line-written r v i p b w x f =
      let g : TakesLine r (table_at a u.0) t v i = subst (λ (y : Table). TakesLine r y t v i) (read a u.0 s h e) f in
      (IsArena-with_table a u.0 t o h (TakesLine-Keeps (unit_count a) r (table_at a u.0) t v i g b w x (o.tables u.0 h) (o.placed u.0)), AddsLine-with_table a u o p r t v i w b g)

-- what the text of the open unit tells of its table
func_kind : (k : Option UnitKind) → IsSome k → kind_text k ≡ kind.Func → k ≡ Some kind.Func
func_kind None s e = cc
func_kind (Some k) s e = ap Some e

label_kind : (k : Option UnitKind) → IsSome k → HasLabels (kind_text k) → HasBlocks k
label_kind None s h = cc
label_kind (Some kind.Func) s h = tt
label_kind (Some kind.Proc) s h = tt
label_kind (Some kind.Entity) s h = absurd h

pub open-function : (a : Arena) (u : UnitId) → IsArena a → IsOpen a u → OfOpen a (λ x. x.kind ≡ kind.Func) → kind_at a u.0 ≡ Some kind.Func
open-function a u o p h = func_kind (kind_at a u.0) (open-begun a u o p) (of-open a u (λ x. x.kind ≡ kind.Func) p h)

pub open-labels : (a : Arena) (u : UnitId) → IsArena a → IsOpen a u → OfOpen a (λ x. HasLabels x.kind) → HasBlocks (kind_at a u.0)
open-labels a u o p h = label_kind (kind_at a u.0) (open-begun a u o p) (of-open a u (λ x. HasLabels x.kind) p h)

pub open-blocks : (a : Arena) (u : UnitId) → IsOpen a u → OfOpen a (λ x. 0 < length x.blocks) → 0 < length (table_at a u.0).blocks
open-blocks a u p h = omega (arith, of-open a u (λ x. 0 < length x.blocks) p h, length-map (table_at a u.0).blocks (block_text (naming a u.0) (table_at a u.0)))

pub result_within : (a : Arena) (u : ℕ) (v : Option ValueId) → MaybeWithin (sizes a u) v → ResultWithin (value_count a u) v
result_within a u None h = tt
result_within a u (Some v) h = h
