-- What the code that builds a flat text has to know: room, new ids, and ids within their numbers.
use Rattle.std.proofs.Common.{◌≡◌, ℕ, zero, suc, ◌+◌, ◌-◌, ◌<◌, List, [], ◌∷◌, ◌++◌, length, map, set, replicate, refl, ap, sym, ◌∙◌, subst, arith, Option, Some, None}
use Rattle.std.specs.List.{range_with_len}
use Rattle.std.proofs.lemmas.List.{length-set, length-replicate}
use Rattle.std.proofs.lemmas.List.FromFn.{map-range_with_len_more, length-map-range_with_len}
use Rattle.lh_unit.specs.Table.{Table, ResultWithin}
use Rattle.lh_unit.specs.Within.{MaybeWithin}
use Rattle.lh_unit.specs.Arena.{Arena, IsArena, table_at, blocks_at, unit_count, value_count, label_count}
use Rattle.lh_unit.specs.declared.inst.UnitId.{UnitId}
use Rattle.lh_unit.specs.declared.inst.BlockId.{BlockId}
use Rattle.lh_unit.specs.declared.inst.ValueId.{ValueId}
use Rattle.lh_unit.specs.declared.table.TableLine.{TableLine}
use Rattle.lh_unit.proofs.ById.{result-within}
use Rattle.lh_flat.specs.declared.flat.Merge.{Merge}
use Rattle.lh_flat.specs.declared.rename.Span.{Span}
use Rattle.lh_flat.specs.declared.rename.Renaming.{Renaming}
use Rattle.lh_flat.specs.declared.build.FlatBuilder.{FlatBuilder}
use Rattle.lh_flat.specs.Renames.{no_span, sizes_in}
use Rattle.lh_flat.specs.Fits.{IdsFit}
use Rattle.lh_flat.specs.Building.{line_of, insts_room, block_room, unit_room, call_room, span_at, spans_with, spans_of, own_ids, new_id, new_ids, call_ids, blocks_give, merge_in, merging, entering, blocks_added, call_added, unit_added}
use Rattle.lh_flat.proofs.CalledFunctions.{zero_first}

-- the room that a call takes
pub no_room : (k : ℕ) (a : Arena) → call_room k a None ≡ 0
unfolding call_room
no_room zero a = refl
no_room (suc k) a = refl

pub flat_room : (k : ℕ) (a : Arena) (f : UnitId) → k ≡ 0 → call_room k a (Some f) ≡ 0
unfolding call_room
flat_room zero a f e = refl
flat_room (suc k) a f e = cc

less_one : (k : ℕ) → k ≡ suc k - 1
less_one k = omega arith

pub room-next : (k : ℕ) (a : Arena) (f : UnitId) → call_room (suc k) a (Some f) ≡ unit_room (call_room k a) a f.0 + 1
unfolding call_room
room-next k a f = refl

pub room-more : (k n : ℕ) (a : Arena) (f : UnitId) → (k ≡ 0 → ⊥) → n ≡ unit_room (call_room (k - 1) a) a f.0 → n + 1 ≡ call_room k a (Some f)
room-more zero n a f h e = absurd (h refl)
room-more (suc k) n a f h e = ap (λ m. m + 1) e ∙ ap (λ j. unit_room (call_room j a) a f.0 + 1) (sym (less_one k)) ∙ sym (room-next k a f)

-- a call takes the room of the copy, and one block more
pub room-of_call : (k : ℕ) (a b : Arena) (f g : UnitId) (o : Option UnitId) → (k ≡ 0 → ⊥) → b ≡ a → g ≡ f → o ≡ Some f → unit_room (call_room (k - 1) b) b g.0 + 1 ≡ call_room k a o
room-of_call k a b f g o n e q h =
    room-more k (unit_room (call_room (k - 1) b) b g.0) a f n
    (ap (λ (x : Arena). unit_room (call_room (k - 1) x) x g.0) e ∙ ap (λ (x : UnitId). unit_room (call_room (k - 1) a) a x.0) q)
    ∙ sym (ap (call_room k a) h)

-- one more id
pub ids-next : (id : ℕ → ValueId) (n k : ℕ) (x : ValueId) (xs ys : List ValueId) → xs ≡ map id (range_with_len 0 n) → n ≡ k → x ≡ id k → ys ≡ xs ++ x ∷ [] → ys ≡ map id (range_with_len 0 (n + 1))
ids-next id n k x xs ys e f h g = g ∙ (λ i. e i ++ h i ∷ []) ∙ sym (map-range_with_len_more id 0 n k (zero_first n ∙ f))

-- a copy has as many ids and spans as its unit has values and labels
pub length-own_ids : (n : ℕ) → length (own_ids n) ≡ n
length-own_ids n = length-map-range_with_len (λ (k : ℕ). record { 0 = k }) 0 n

pub length-new_ids : (t : Table) (args : List ValueId) (from : ℕ) → length (new_ids t args from) ≡ length t.values
length-new_ids t args from = length-map-range_with_len (new_id t args from) 0 (length t.values)

length-spans : (room : Option UnitId → ℕ) (a : Arena) (u at : ℕ) (bs : List BlockId) (ss : List Span) → length (spans_with room a u at bs ss) ≡ length ss
length-spans room a u at [] ss = refl
length-spans room a u at (b ∷ bs) ss =
    length-spans room a u (at + block_room room a u b) bs (set ss b.0 (span_at at (insts_room room a u (Rattle.lh_unit.specs.Table.insts_at (table_at a u) b.0))))
    ∙ length-set ss b.0 (span_at at (insts_room room a u (Rattle.lh_unit.specs.Table.insts_at (table_at a u) b.0)))

pub length-spans_of : (room : Option UnitId → ℕ) (a : Arena) (u at : ℕ) → length (spans_of room a u at) ≡ label_count a u
length-spans_of room a u at = length-spans room a u at (blocks_at a u) (replicate (label_count a u) no_span) ∙ length-replicate (label_count a u) no_span

-- the result of an instruction has a new id
pub maybe-within : (a : Arena) (o : IsArena a) (u : ℕ) (l : u < unit_count a) (r : Renaming) (f : IdsFit a u r) (n i : ℕ) (v : Option ValueId) → v ≡ (line_of a u (record { 0 = i })).result
    → MaybeWithin (sizes_in n r) v
maybe-within a o u l r f n i v e = subst (λ w. MaybeWithin (sizes_in n r) w) (sym e) (by (line_of a u (record { 0 = i })).result (result-within a u o l i))
  where
    by : (w : Option ValueId) → ResultWithin (value_count a u) w → MaybeWithin (sizes_in n r) w
    by None h = tt
    by (Some w) h = subst (λ m. w.0 < m) (sym f.values) h

-- the copy for a call is added
pub call_added-none : (k : ℕ) (a : Arena) (f : UnitId) (r : Renaming) (l : TableLine) (t : FlatBuilder) → k ≡ 0 → t ≡ call_added k a f r l t
unfolding call_added
call_added-none zero a f r l t e = refl
call_added-none (suc k) a f r l t e = cc

pub call_added-next : (k : ℕ) (a : Arena) (f : UnitId) (r : Renaming) (l : TableLine) (t : FlatBuilder) → call_added (suc k) a f r l t ≡
    merging (merge_in r (blocks_give a f.0 (call_ids (call_room k a) a f r l t) (blocks_at a f.0)) l.inst l.result)
    (blocks_added (call_added k a) a f.0 (call_ids (call_room k a) a f r l t) (blocks_at a f.0) (entering a f t))
unfolding call_added
call_added-next k a f r l t = refl

abbrev call_made : (j : ℕ) (f : UnitId) (r : Renaming) (l : TableLine) (t : FlatBuilder) (b : Arena) (h : UnitId) (ids : Renaming) → FlatBuilder
call_made j f r l t b h ids = merging (merge_in r (blocks_give b h.0 ids (blocks_at b h.0)) l.inst l.result) (blocks_added (call_added j b) b h.0 ids (blocks_at b h.0) (entering b h t))

pub call_added-is : (k : ℕ) (a b : Arena) (f h : UnitId) (r ids : Renaming) (l : TableLine) (t s v z : FlatBuilder) (m : Option Merge) → (k ≡ 0 → ⊥) → b ≡ a → h ≡ f
    → ids ≡ call_ids (call_room (k - 1) a) a f r l t →
    m ≡ merge_in r (blocks_give b h.0 ids (blocks_at b h.0)) l.inst l.result → s ≡ entering b h t → v ≡ blocks_added (call_added (k - 1) b) b h.0 ids (blocks_at b h.0) s → z ≡ merging m v
    → z ≡ call_added k a f r l t
call_added-is zero a b f h r ids l t s v z m n eb eh ei em es ev ez = absurd (n refl)
call_added-is (suc j) a b f h r ids l t s v z m n eb eh ei em es ev ez =
    ez ∙ ap (λ x. merging x v) em ∙ ap (merging (merge_in r (blocks_give b h.0 ids (blocks_at b h.0)) l.inst l.result)) (ev
    ∙ ap (blocks_added (call_added (suc j - 1) b) b h.0 ids (blocks_at b h.0)) es)
    ∙ ap (λ i. call_made i f r l t b h ids) (sym (less_one j))
    ∙ ap (λ x. call_made j f r l t x h ids) eb
    ∙ ap (λ x. call_made j f r l t a x ids) eh
    ∙ ap (call_made j f r l t a f) (ei ∙ ap (λ i. call_ids (call_room i a) a f r l t) (sym (less_one j)))
    ∙ sym (call_added-next j a f r l t)

-- the copy of a unit was entered and added, and its merge behind it
pub copy_added : (depth u : ℕ) (a : Arena) (ids : Renaming) (m n : Option Merge) (t s v z : FlatBuilder) → z ≡ merging m v → m ≡ n → v ≡ unit_added depth a u ids s → s ≡ t
    → z ≡ merging n (unit_added depth a u ids t)
copy_added depth u a ids m n t s v z ez em ev es = ez ∙ ap (λ x. merging x v) em ∙ ap (merging n) (ev ∙ ap (unit_added depth a u ids) es)
