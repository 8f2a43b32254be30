use Rattle.std.proofs.Common.{rules, ◌<◌, ◌-◌, ◌^◌, length, sym, subst}
use Rattle.lh_unit.specs.Arena.{Arena, IsArena, value_count}
use Rattle.lh_unit.specs.ArenaOf.{arena_of}
use Rattle.lh_unit.specs.Builders.{FindsValue}
use Rattle.lh_unit.proofs.Arenas.{with_table}
use Rattle.lh_unit.proofs.Writes.{value-written}
use Rattle.lh_unit.proofs.module.Module.enter_value.Goals as goal

written : (c : goal.After-self-1) → IsArena (with_table (arena_of c.self.inside) c.args.unit.0 c.value_named.new.self)
    × FindsValue c.value_named.result (arena_of c.self.inside) (with_table (arena_of c.self.inside) c.args.unit.0 c.value_named.new.self) c.args.unit c.args.name
written c =
    let h : c.args.unit.0 < length (arena_of c.self.inside).units = search rules in
    let room : value_count (arena_of c.self.inside) c.args.unit.0 < 2 ^ 32 - 1 = subst (λ (a : Arena). value_count a c.args.unit.0 < 2 ^ 32 - 1) (sym c.self.view_is) c.requires.room in
    value-written (arena_of c.self.inside) c.args.unit c.index_mut-table.result.now c.value_named.new.self c.self.invariant h c.index_mut-table.ensures.value
    c.value_named.result c.args.name room c.value_named.ensures

pub invariant_of-self : goal.invariant_of-self
invariant_of-self c = (written c).0

pub returns : goal.returns
returns c = rw (← c.self.view_is) (written c).1
