use Rattle.std.proofs.Common.{Ok, subst, sym, arith}
use Rattle.lh_unit.specs.Builders.{FindsUnit}
use Rattle.lh_lower_copy.specs.Named.{NamesUnits}
use Rattle.lh_lower_copy.proofs.NamesById.{units-start, units-next}
use Rattle.lh_lower_copy.proofs.names.name_units.Goals as goal

pub loop-unit-init : goal.loop-unit-init
loop-unit-init c = subst (λ m. NamesUnits c.args.from.now m 0) (sym c.requires) (units-start c.args.from.now)

pub loop-unit-preserved : goal.loop-unit-preserved
loop-unit-preserved c =
    let a = c.args.from.now in let k = c.loop-unit.unit in
    let old = c.loop-unit.m in let new = c.unit_named.new.self in let v = c.in_ok-unit_named.field-0 in
    units-next a old new k v c.units-unit-end.ensures.sound (omega (arith, c.loop-unit-test.true, c.units-unit-end.ensures.count)) c.loop-unit.invariant
    (subst (λ n. FindsUnit (Ok v) old new n) c.unit_name.ensures.name c.in_ok-unit_named.ensures)
