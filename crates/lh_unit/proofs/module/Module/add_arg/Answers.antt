use Rattle.std.proofs.Common.{◌<◌, IsSome, length, sym, subst}
use Rattle.lh_unit.specs.Table.{Table}
use Rattle.lh_unit.specs.Naming.{arg_text}
use Rattle.lh_unit.specs.Arena.{Arena, IsArena, IsOpen, naming, value_count}
use Rattle.lh_unit.specs.ArenaOf.{arena_of}
use Rattle.lh_unit.specs.Builders.{AddsArg}
use Rattle.lh_unit.proofs.Arenas.{with_table, open-within, open-begun}
use Rattle.lh_unit.proofs.Writes.{read, arg-written}
use Rattle.lh_unit.proofs.module.Module.add_arg.Goals as goal

pub add_arg-requires-clause-begun : goal.add_arg-requires-clause-begun
add_arg-requires-clause-begun c =
    let p : IsOpen (arena_of c.self.inside) c.args.unit = subst (λ (a : Arena). IsOpen a c.args.unit) (sym c.self.view_is) c.requires.opened in
    let h : c.args.unit.0 < length (arena_of c.self.inside).units = open-within (arena_of c.self.inside) c.args.unit c.self.invariant p in
    subst (λ (t : Table). IsSome t.kind) (sym (read (arena_of c.self.inside) c.args.unit.0 c.index_mut-table.result.now h c.index_mut-table.ensures.value))
    (open-begun (arena_of c.self.inside) c.args.unit c.self.invariant p)

pub add_arg-requires-clause-within : goal.add_arg-requires-clause-within
add_arg-requires-clause-within c =
    let p : IsOpen (arena_of c.self.inside) c.args.unit = subst (λ (a : Arena). IsOpen a c.args.unit) (sym c.self.view_is) c.requires.opened in
    let h : c.args.unit.0 < length (arena_of c.self.inside).units = open-within (arena_of c.self.inside) c.args.unit c.self.invariant p in
    let w : c.args.value.0 < value_count (arena_of c.self.inside) c.args.unit.0 = subst (λ (a : Arena). c.args.value.0 < value_count a c.args.unit.0) (sym c.self.view_is) c.requires.within in
    subst (λ (t : Table). c.args.value.0 < length t.values) (sym (read (arena_of c.self.inside) c.args.unit.0 c.index_mut-table.result.now h c.index_mut-table.ensures.value)) w

written : (c : goal.After-self-1) → IsArena (with_table (arena_of c.self.inside) c.args.unit.0 c.add_arg.new.self)
    × AddsArg c.add_arg.result (arena_of c.self.inside) (with_table (arena_of c.self.inside) c.args.unit.0 c.add_arg.new.self) c.args.unit (arg_text (naming (arena_of c.self.inside) c.args.unit.0)
    record { value = c.args.value; ty = c.args.ty; output = c.args.output })
written c =
    let p : IsOpen (arena_of c.self.inside) c.args.unit = subst (λ (a : Arena). IsOpen a c.args.unit) (sym c.self.view_is) c.requires.opened in
    let h : c.args.unit.0 < length (arena_of c.self.inside).units = open-within (arena_of c.self.inside) c.args.unit c.self.invariant p in
    let w : c.args.value.0 < value_count (arena_of c.self.inside) c.args.unit.0 = subst (λ (a : Arena). c.args.value.0 < value_count a c.args.unit.0) (sym c.self.view_is) c.requires.within in
    arg-written (arena_of c.self.inside) c.args.unit c.index_mut-table.result.now c.add_arg.new.self c.self.invariant h c.index_mut-table.ensures.value
    c.add_arg.result record { value = c.args.value; ty = c.args.ty; output = c.args.output } p w c.add_arg.ensures

pub invariant_of-self : goal.invariant_of-self
invariant_of-self c = (written c).0

pub returns : goal.returns
returns c = rw (← c.self.view_is) (written c).1
