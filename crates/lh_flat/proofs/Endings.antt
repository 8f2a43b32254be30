-- In a well-formed module each block of a function or a process has instructions, and the last one calls nothing.
use Rattle.std.proofs.Common.{◌≡◌, ℕ, zero, suc, ◌<◌, true, false, List, [], ◌∷◌, map, Option, Some, None, IsSome, slice_get, refl, sym, subst}
use Rattle.lh_unit.specs.Contents.{BlockText, UnitText, ItemText}
use Rattle.lh_unit.specs.ById.{inst_line_text}
use Rattle.lh_unit.specs.Naming.{Naming, inst_text, block_text, kind_text}
use Rattle.lh_unit.specs.Places.{is_terminator}
use Rattle.lh_unit.specs.Reads.{has_lines}
use Rattle.lh_unit.specs.Table.{insts_at, HasBlocks}
use Rattle.lh_unit.specs.Within.{Each}
use Rattle.lh_unit.specs.Arena.{Arena, IsArena, contents, item_text_at, unit_text_at, kind_at, table_at, naming, blocks_at, unit_count}
use Rattle.lh_unit.specs.WellFormed.{IsWellFormed, in_entity}
use Rattle.lh_unit.specs.declared.inst.UnitId.{UnitId}
use Rattle.lh_unit.specs.declared.inst.UnitKind.{UnitKind}
use Rattle.lh_unit.specs.declared.inst.UnitKind.TheVariants as kind
use Rattle.lh_unit.specs.declared.inst.BlockId.{BlockId}
use Rattle.lh_unit.specs.declared.inst.InstId.{InstId}
use Rattle.lh_unit.specs.declared.inst.Inst.{Inst}
use Rattle.lh_unit.specs.declared.inst.Inst.TheVariants as inst
use Rattle.lh_unit.specs.declared.inst.Item.{Item}
use Rattle.lh_unit.specs.declared.inst.Item.TheVariants as item
use Rattle.lh_unit.proofs.Within.{Each-more}
use Rattle.lh_text_laws.specs.Laws.{IsSpelledAlone}
use Rattle.lh_text_laws.specs.Printable.{BlockIsLabelled, HasShape, IsPrintableItem}
use Rattle.lh_text_laws.proofs.Apart.{spelled_apart}
use Rattle.lh_text_laws.proofs.Printed.{spelled_is_printable}
use Rattle.lh_verify_laws.specs.Shape.{EndsOnce, EachUnit}
use Rattle.lh_verify_laws.proofs.EachItem.{each-at}
use Rattle.lh_verify_laws.proofs.ShapeLaw.{blocks_end_once}
use Rattle.lh_flat.specs.Graph.{callee_of}
use Rattle.lh_flat.specs.Building.{line_of}

-- there are instructions, and the last one calls nothing
abbrev pub EndsPlain : Arena → (u : ℕ) → List InstId → Type 0
EndsPlain a u [] = ⊥
EndsPlain a u (i ∷ []) = callee_of a (line_of a u i).inst ≡ None
EndsPlain a u (i ∷ j ∷ more) = EndsPlain a u (j ∷ more)

abbrev pub UnitsEnd : Arena → Type 0
UnitsEnd a = (u : ℕ) → u < unit_count a → HasBlocks (kind_at a u) → Each (λ (b : BlockId). EndsPlain a u (insts_at (table_at a u) b.0)) (blocks_at a u)

terminator-plain : (a : Arena) (f : Naming) (i : Inst) → is_terminator (inst_text f i) ≡ true → callee_of a i ≡ None
terminator-plain a f (inst.Call h ty args) e = cc
terminator-plain a f _ e = refl

insts-end : (a : Arena) (u : ℕ) (is : List InstId) → has_lines (map (inst_line_text (naming a u) (table_at a u)) is) ≡ true → EndsOnce (map (inst_line_text (naming a u) (table_at a u)) is)
    → EndsPlain a u is
insts-end a u [] h e = cc
insts-end a u (i ∷ []) h e = terminator-plain a (naming a u) (line_of a u i).inst e
insts-end a u (i ∷ j ∷ more) h e = insts-end a u (j ∷ more) refl e.1

blocks-end : (a : Arena) (u : ℕ) (bs : List BlockId) → Each BlockIsLabelled (map (block_text (naming a u) (table_at a u)) bs)
    → Each (λ (b : BlockText). EndsOnce b.lines) (map (block_text (naming a u) (table_at a u)) bs) → Each (λ (b : BlockId). EndsPlain a u (insts_at (table_at a u) b.0)) bs
blocks-end a u [] h e = tt
blocks-end a u (b ∷ bs) h e = (insts-end a u (insts_at (table_at a u) b.0) h.0.1 e.0, blocks-end a u bs h.1 e.1)

-- no entity
is-code : (k : Option UnitKind) → HasBlocks k → in_entity (kind_text k) ≡ false
is-code None h = absurd h
is-code (Some kind.Func) h = refl
is-code (Some kind.Proc) h = refl
is-code (Some kind.Entity) h = absurd h

labelled : (k : Option UnitKind) (bs : List BlockText) → HasBlocks k → HasShape (kind_text k) bs → Each BlockIsLabelled bs
labelled None bs h s = absurd h
labelled (Some kind.Entity) bs h s = absurd h
labelled (Some kind.Func) [] h s = absurd s
labelled (Some kind.Func) (b ∷ bs) h s = s
labelled (Some kind.Proc) [] h s = absurd s
labelled (Some kind.Proc) (b ∷ bs) h s = s

-- what holds of each unit of a module holds of one by its id
each_unit-at : (a : Arena) (P : UnitText → Type 0) (items : List Item) (i : ℕ) (u : UnitId) → EachUnit P (map (item_text_at a) items) → slice_get items i ≡ Some (item.Unit u) → P (unit_text_at a u.0)
each_unit-at a P [] i u h e = cc
each_unit-at a P (item.Unit v ∷ more) zero u h e = let q : v ≡ u = cc in subst (λ (x : UnitId). P (unit_text_at a x.0)) q h.0
each_unit-at a P (item.Unit v ∷ more) (suc i) u h e = each_unit-at a P more i u h.1 e
each_unit-at a P (item.Declare d ∷ more) zero u h e = cc
each_unit-at a P (item.Declare d ∷ more) (suc i) u h e = each_unit-at a P more i u h e

there : (k : Option UnitKind) → HasBlocks k → IsSome k
there None h = absurd h
there (Some k) h = refl

pub units-end : (a : Arena) → IsArena a → IsWellFormed (contents a) → UnitsEnd a
units-end a o f u l k =
    let v : UnitId = record { 0 = u } in
    let i = o.items_defined v l (there (kind_at a u) k) in
    let printable = each-at IsPrintableItem (item_text_at a) a.items i.0 (item.Unit v) (Each-more IsSpelledAlone IsPrintableItem (contents a) spelled_is_printable (spelled_apart (contents a) f.0).0) i.1 in
    blocks-end a u (blocks_at a u) (labelled (kind_at a u) (unit_text_at a u).blocks k printable.shaped)
    (each_unit-at a (λ (x : UnitText). in_entity x.kind ≡ false → Each (λ (b : BlockText). EndsOnce b.lines) x.blocks) a.items i.0 v (blocks_end_once (contents a) f.1) i.1
    (is-code (kind_at a u) k))
