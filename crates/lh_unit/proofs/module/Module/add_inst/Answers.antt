use Rattle.std.proofs.Common.{◌<◌, length, sym, subst}
use Rattle.lh_unit.specs.Table.{Table, ResultWithin}
use Rattle.lh_unit.specs.Within.{MaybeWithin}
use Rattle.lh_unit.specs.Arena.{Arena, IsArena, IsOpen, OfOpen, InstPlaced, sizes, table_at, value_count}
use Rattle.lh_unit.specs.ArenaOf.{arena_of}
use Rattle.lh_unit.specs.Builders.{AddsLine, line_text_at}
use Rattle.lh_unit.proofs.Arenas.{with_table, open-within}
use Rattle.lh_unit.proofs.Writes.{read, line-written, open-blocks, result_within}
use Rattle.lh_unit.proofs.module.Module.add_inst.Goals as goal

pub add_line-requires-clause-begun : goal.add_line-requires-clause-begun
add_line-requires-clause-begun c =
    let p : IsOpen (arena_of c.self.inside) c.args.unit = subst (λ (a : Arena). IsOpen a c.args.unit) (sym c.self.view_is) c.requires.opened in
    let h : c.args.unit.0 < length (arena_of c.self.inside).units = open-within (arena_of c.self.inside) c.args.unit c.self.invariant p in
    let b : 0 < length (table_at (arena_of c.self.inside) c.args.unit.0).blocks = open-blocks (arena_of c.self.inside) c.args.unit p
    (subst (λ (a : Arena). OfOpen a (λ x. 0 < length x.blocks)) (sym c.self.view_is) c.requires.begun) in
    subst (λ (t : Table). 0 < length t.blocks) (sym (read (arena_of c.self.inside) c.args.unit.0 c.index_mut-table.result.now h c.index_mut-table.ensures.value)) b

pub add_line-requires-clause-within : goal.add_line-requires-clause-within
add_line-requires-clause-within c =
    let p : IsOpen (arena_of c.self.inside) c.args.unit = subst (λ (a : Arena). IsOpen a c.args.unit) (sym c.self.view_is) c.requires.opened in
    let h : c.args.unit.0 < length (arena_of c.self.inside).units = open-within (arena_of c.self.inside) c.args.unit c.self.invariant p in
    let w : ResultWithin (value_count (arena_of c.self.inside) c.args.unit.0) c.args.value = result_within (arena_of c.self.inside) c.args.unit.0 c.args.value
    (subst (λ (a : Arena). MaybeWithin (sizes a c.args.unit.0) c.args.value) (sym c.self.view_is) c.requires.within) in
    subst (λ (t : Table). ResultWithin (length t.values) c.args.value) (sym (read (arena_of c.self.inside) c.args.unit.0 c.index_mut-table.result.now h c.index_mut-table.ensures.value)) w

written : (c : goal.After-self-1) → IsArena (with_table (arena_of c.self.inside) c.args.unit.0 c.add_line.new.self)
    × AddsLine c.add_line.result (arena_of c.self.inside) (with_table (arena_of c.self.inside) c.args.unit.0 c.add_line.new.self) c.args.unit (line_text_at (arena_of c.self.inside) c.args.unit.0
    c.args.value c.args.inst)
written c =
    let p : IsOpen (arena_of c.self.inside) c.args.unit = subst (λ (a : Arena). IsOpen a c.args.unit) (sym c.self.view_is) c.requires.opened in
    let h : c.args.unit.0 < length (arena_of c.self.inside).units = open-within (arena_of c.self.inside) c.args.unit c.self.invariant p in
    let b : 0 < length (table_at (arena_of c.self.inside) c.args.unit.0).blocks = open-blocks (arena_of c.self.inside) c.args.unit p
    (subst (λ (a : Arena). OfOpen a (λ x. 0 < length x.blocks)) (sym c.self.view_is) c.requires.begun) in
    let w : ResultWithin (value_count (arena_of c.self.inside) c.args.unit.0) c.args.value = result_within (arena_of c.self.inside) c.args.unit.0 c.args.value
    (subst (λ (a : Arena). MaybeWithin (sizes a c.args.unit.0) c.args.value) (sym c.self.view_is) c.requires.within) in
    let x : InstPlaced (arena_of c.self.inside) c.args.unit.0 c.args.inst = subst (λ (a : Arena). InstPlaced a c.args.unit.0 c.args.inst) (sym c.self.view_is) c.requires.placed in
    line-written (arena_of c.self.inside) c.args.unit c.index_mut-table.result.now c.add_line.new.self c.self.invariant h c.index_mut-table.ensures.value
    c.add_line.result c.args.value c.args.inst p b w x c.add_line.ensures

pub invariant_of-self : goal.invariant_of-self
invariant_of-self c = (written c).0

pub returns : goal.returns
returns c = rw (← c.self.view_is) (written c).1
