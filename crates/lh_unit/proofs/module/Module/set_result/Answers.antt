use Rattle.std.proofs.Common.{◌≡◌, ◌<◌, ◌∙◌, ap, Some, length, sym, subst}
use Rattle.lh_unit.specs.Table.{Table}
use Rattle.lh_unit.specs.Arena.{Arena, IsArena, IsOpen, OfOpen, kind_at}
use Rattle.lh_unit.specs.ArenaOf.{arena_of}
use Rattle.lh_unit.specs.Builders.{SetsResult}
use Rattle.lh_unit.specs.declared.inst.UnitKind.TheVariants as kind
use Rattle.lh_unit.proofs.Arenas.{with_table, open-within}
use Rattle.lh_unit.proofs.Writes.{read, result-written, open-function}
use Rattle.lh_unit.proofs.module.Module.set_result.Goals as goal

pub set_result-requires : goal.set_result-requires
set_result-requires c =
    let p : IsOpen (arena_of c.self.inside) c.args.unit = subst (λ (a : Arena). IsOpen a c.args.unit) (sym c.self.view_is) c.requires.opened in
    let h : c.args.unit.0 < length (arena_of c.self.inside).units = open-within (arena_of c.self.inside) c.args.unit c.self.invariant p in
    let k : kind_at (arena_of c.self.inside) c.args.unit.0 ≡ Some kind.Func = open-function (arena_of c.self.inside) c.args.unit c.self.invariant p
    (subst (λ (a : Arena). OfOpen a (λ x. x.kind ≡ kind.Func)) (sym c.self.view_is) c.requires.function) in
    ap (λ (t : Table). t.kind) (read (arena_of c.self.inside) c.args.unit.0 c.index_mut-table.result.now h c.index_mut-table.ensures.value) ∙ k

written : (c : goal.After-self-1) → IsArena (with_table (arena_of c.self.inside) c.args.unit.0 c.set_result.new.self)
    × SetsResult (arena_of c.self.inside) (with_table (arena_of c.self.inside) c.args.unit.0 c.set_result.new.self) c.args.unit c.args.ty
written c =
    let p : IsOpen (arena_of c.self.inside) c.args.unit = subst (λ (a : Arena). IsOpen a c.args.unit) (sym c.self.view_is) c.requires.opened in
    let h : c.args.unit.0 < length (arena_of c.self.inside).units = open-within (arena_of c.self.inside) c.args.unit c.self.invariant p in
    let k : kind_at (arena_of c.self.inside) c.args.unit.0 ≡ Some kind.Func = open-function (arena_of c.self.inside) c.args.unit c.self.invariant p
    (subst (λ (a : Arena). OfOpen a (λ x. x.kind ≡ kind.Func)) (sym c.self.view_is) c.requires.function) in
    result-written (arena_of c.self.inside) c.args.unit c.index_mut-table.result.now c.set_result.new.self c.self.invariant h c.index_mut-table.ensures.value
    c.args.ty p k c.set_result.ensures

pub invariant_of-self : goal.invariant_of-self
invariant_of-self c = (written c).0

pub returns : goal.returns
returns c = rw (← c.self.view_is) (written c).1
