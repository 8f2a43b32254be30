-- What is in place in an arena in order.
use Rattle.std.proofs.Common.{◌≡◌, ℕ, ◌<◌, zero, suc, true, nat_eq, List, [], ◌∷◌, length, get_or, map, Option, Some, None, refl, sym, ◌∙◌, subst, arith}
use Rattle.std.specs.Prelude.{slice_get}
use Rattle.std.proofs.lemmas.Option.{slice_get_read}
use Rattle.std.proofs.lemmas.Bool.{or_right}
use Rattle.lh_unit.specs.Table.{is_block, flat, ArgsWithin, ResultWithin, BlocksWithin, FitsKind, IsTable}
use Rattle.lh_unit.specs.Within.{Sizes, Each, MaybeWithin}
use Rattle.lh_unit.specs.Arena.{Arena, IsArena, unit_count, value_count, label_count, block_count, inst_count, table_at, kind_at, blocks_at, block_insts_at, result_at, sizes}
use Rattle.lh_unit.specs.declared.inst.UnitKind.{UnitKind}
use Rattle.lh_unit.specs.declared.inst.UnitKind.TheVariants as kind
use Rattle.lh_unit.specs.declared.inst.BlockId.{BlockId}
use Rattle.lh_unit.specs.declared.inst.InstId.{InstId}
use Rattle.lh_unit.specs.declared.inst.ValueId.{ValueId}
use Rattle.lh_unit.specs.declared.inst.Arg.{Arg}
use Rattle.lh_unit.specs.declared.inst.Item.{Item}
use Rattle.lh_unit.specs.declared.inst.Item.TheVariants as item
use Rattle.lh_unit.specs.Placed.{IsInstOf, IsLabelled, IsBlockOf, IsItemOf}
use Rattle.lh_unit.proofs.Lists.{nat_eq-refl, some-within, Each-flat}
use Rattle.lh_unit.proofs.Texts.{ids-within}
use Rattle.lh_unit.proofs.ById.{ResultWithin-at}

pub ArgsWithin-at : (n : ℕ) (xs : List Arg) (i : ℕ) (d : Arg) → ArgsWithin n xs → i < length xs → (get_or xs i d).value.0 < n
ArgsWithin-at n [] i d w h = absurd (omega arith)
ArgsWithin-at n (x ∷ xs) zero d w h = w.0
ArgsWithin-at n (x ∷ xs) (suc i) d w h = ArgsWithin-at n xs i d w.1 (omega arith)

-- the value of the argument at an index has an entry
pub args-item : (n : ℕ) (xs : List Arg) (i : ℕ) (x : Arg) → ArgsWithin n xs → i < length xs → x ≡ get_or xs i x → x.value.0 < n
args-item n xs i x p h e = let P : Arg → Type 0 = λ a. a.value.0 < n in subst P (sym e) (ArgsWithin-at n xs i x p h)

maybe-within : (s : Sizes) (v : Option ValueId) → ResultWithin s.values v → MaybeWithin s v
maybe-within s None h = tt
maybe-within s (Some v) h = h

-- the result of an instruction has an entry
pub result-placed : (a : Arena) (u i : ℕ) → IsArena a → u < unit_count a → MaybeWithin (sizes a u) (result_at a u i)
result-placed a u i r h = maybe-within (sizes a u) (result_at a u i) (ResultWithin-at (value_count a u) (table_at a u).lines i (r.tables u h).results_within)

each-block : (n : ℕ) (bs : List BlockId) → ((k : ℕ) → is_block bs k ≡ true → k < n) → Each (λ (b : BlockId). b.0 < n) bs
each-block n [] h = tt
each-block n (b ∷ bs) h = (h b.0 (rw (nat_eq-refl b.0) refl), each-block n bs (λ k e. h k (or_right (nat_eq b.0 k) (is_block bs k) e)))

each-labelled : (a : Arena) (u : ℕ) (k : Option UnitKind) (bs : List BlockId) → ((b : BlockId) → b.0 < label_count a u → IsLabelled a u k b) → BlocksWithin (label_count a u) bs
    → Each (IsLabelled a u k) bs
each-labelled a u k [] f h = tt
each-labelled a u k (b ∷ bs) f h = (f b h.0, each-labelled a u k bs f h.1)

each-entity : (a : Arena) (u : ℕ) (bs : List BlockId) → Each (IsLabelled a u (Some kind.Entity)) bs
each-entity a u [] = tt
each-entity a u (b ∷ bs) = (tt, each-entity a u bs)

labelled : (a : Arena) (u : ℕ) (k : Option UnitKind) → FitsKind k (table_at a u) → Each (IsLabelled a u k) (blocks_at a u)
labelled a u None h = let P : List BlockId → Type 0 = Each (IsLabelled a u None) in subst P (sym h.2) tt
labelled a u (Some kind.Func) h = each-labelled a u (Some kind.Func) (blocks_at a u) (λ b l. l) h.1
labelled a u (Some kind.Proc) h = each-labelled a u (Some kind.Proc) (blocks_at a u) (λ b l. l) h.1
labelled a u (Some kind.Entity) h = each-entity a u (blocks_at a u)

each-is : (a : Arena) (u : ℕ) (bs : List BlockId) → Each (λ (b : BlockId). b.0 < block_count a u) bs → Each (IsLabelled a u (kind_at a u)) bs
    → Each (λ (b : BlockId). Each (IsInstOf a u) (block_insts_at a u b.0)) bs → Each (IsBlockOf a u) bs
each-is a u [] w l i = tt
each-is a u (b ∷ bs) w l i = (record { within = w.0; labelled = l.0; insts = i.0 }, each-is a u bs w.1 l.1 i.1)

-- the blocks of a unit are in place
pub blocks-placed : (a : Arena) (u : ℕ) → IsArena a → u < unit_count a → Each (IsBlockOf a u) (blocks_at a u)
blocks-placed a u r h =
    let t : IsTable (table_at a u) = r.tables u h in
    let order : Each (IsInstOf a u) (flat (map (λ (b : BlockId). block_insts_at a u b.0) (blocks_at a u))) = let P : List InstId → Type 0 = Each (IsInstOf a u) in
    subst P (sym t.in_order) (ids-within (inst_count a u) 0 (table_at a u).lines (omega arith)) in
    each-is a u (blocks_at a u)
    (each-block (block_count a u) (blocks_at a u) (λ k e. some-within (table_at a u).bodies k (t.blocks_stand k ∙ e)))
    (labelled a u (kind_at a u) t.fits_kind)
    (Each-flat (IsInstOf a u) (λ (b : BlockId). block_insts_at a u b.0) (blocks_at a u) order)

pub item-within : (a : Arena) (i : ℕ) (x : Item) → IsArena a → slice_get a.items i ≡ Some x → IsItemOf a x
item-within a i (item.Unit u) r e = r.items_within i u e
item-within a i (item.Declare d) r e = tt

-- the unit of an item has an entry
pub item-placed : (a : Arena) (i : ℕ) (x : Item) → IsArena a → i < length a.items → x ≡ get_or a.items i x → IsItemOf a x
item-placed a i x r h e = item-within a i x r (slice_get_read a.items (length a.items) i x refl h e)
