use Rattle.std.proofs.Common.{◌<◌, length, sym, subst}
use Rattle.lh_unit.specs.Table.{Table, HasBlocks}
use Rattle.lh_unit.specs.Arena.{Arena, IsArena, IsOpen, OfOpen, kind_at, label_count, label_name_at}
use Rattle.lh_unit.specs.ArenaOf.{arena_of}
use Rattle.lh_unit.specs.Builders.{AddsBlock, HasLabels}
use Rattle.lh_unit.proofs.Arenas.{with_table, open-within}
use Rattle.lh_unit.proofs.Writes.{read, block-written, open-labels}
use Rattle.lh_unit.proofs.module.Module.add_block.Goals as goal

pub add_block-requires-clause-labels : goal.add_block-requires-clause-labels
add_block-requires-clause-labels c =
    let p : IsOpen (arena_of c.self.inside) c.args.unit = subst (λ (a : Arena). IsOpen a c.args.unit) (sym c.self.view_is) c.requires.opened in
    let h : c.args.unit.0 < length (arena_of c.self.inside).units = open-within (arena_of c.self.inside) c.args.unit c.self.invariant p in
    let k : HasBlocks (kind_at (arena_of c.self.inside) c.args.unit.0) = open-labels (arena_of c.self.inside) c.args.unit c.self.invariant p
    (subst (λ (a : Arena). OfOpen a (λ x. HasLabels x.kind)) (sym c.self.view_is) c.requires.labels) in
    subst (λ (t : Table). HasBlocks t.kind) (sym (read (arena_of c.self.inside) c.args.unit.0 c.index_mut-table.result.now h c.index_mut-table.ensures.value)) k

pub add_block-requires-clause-within : goal.add_block-requires-clause-within
add_block-requires-clause-within c =
    let p : IsOpen (arena_of c.self.inside) c.args.unit = subst (λ (a : Arena). IsOpen a c.args.unit) (sym c.self.view_is) c.requires.opened in
    let h : c.args.unit.0 < length (arena_of c.self.inside).units = open-within (arena_of c.self.inside) c.args.unit c.self.invariant p in
    let w : c.args.block.0 < label_count (arena_of c.self.inside) c.args.unit.0 = subst (λ (a : Arena). c.args.block.0 < label_count a c.args.unit.0) (sym c.self.view_is) c.requires.within in
    subst (λ (t : Table). c.args.block.0 < length t.labels) (sym (read (arena_of c.self.inside) c.args.unit.0 c.index_mut-table.result.now h c.index_mut-table.ensures.value)) w

written : (c : goal.After-self-1) → IsArena (with_table (arena_of c.self.inside) c.args.unit.0 c.add_block.new.self)
    × AddsBlock c.add_block.result (arena_of c.self.inside) (with_table (arena_of c.self.inside) c.args.unit.0 c.add_block.new.self) c.args.unit (label_name_at (arena_of c.self.inside) c.args.unit.0
    c.args.block.0)
written c =
    let p : IsOpen (arena_of c.self.inside) c.args.unit = subst (λ (a : Arena). IsOpen a c.args.unit) (sym c.self.view_is) c.requires.opened in
    let h : c.args.unit.0 < length (arena_of c.self.inside).units = open-within (arena_of c.self.inside) c.args.unit c.self.invariant p in
    let k : HasBlocks (kind_at (arena_of c.self.inside) c.args.unit.0) = open-labels (arena_of c.self.inside) c.args.unit c.self.invariant p
    (subst (λ (a : Arena). OfOpen a (λ x. HasLabels x.kind)) (sym c.self.view_is) c.requires.labels) in
    let w : c.args.block.0 < label_count (arena_of c.self.inside) c.args.unit.0 = subst (λ (a : Arena). c.args.block.0 < label_count a c.args.unit.0) (sym c.self.view_is) c.requires.within in
    block-written (arena_of c.self.inside) c.args.unit c.index_mut-table.result.now c.add_block.new.self c.self.invariant h c.index_mut-table.ensures.value
    c.add_block.result c.args.block p k w c.add_block.ensures

pub invariant_of-self : goal.invariant_of-self
invariant_of-self c = (written c).0

pub returns : goal.returns
returns c = rw (← c.self.view_is) (written c).1
