use Rattle.std.proofs.Common.{rules, ap, ◌∙◌, ◌≡◌, ◌<◌, ◌-◌, ◌^◌, ◌++◌, ◌∷◌, [], refl, sym, subst}
use Rattle.lh_unit.specs.Table.{no_table}
use Rattle.lh_unit.specs.Arena.{Arena, IsArena, unit_count}
use Rattle.lh_unit.specs.ArenaOf.{arena_of}
use Rattle.lh_unit.proofs.Arenas.{with_unit, IsArena-with_unit}
use Rattle.lh_unit.proofs.ItemLemmas.{found-unit, added-unit, added-FindsUnit, no-unit}
use Rattle.lh_unit.proofs.module.Module.unit_named.Goals as goal

pub returns-in-Some : goal.returns-in-Some
returns-in-Some c = rw (← c.self.view_is) (found-unit (arena_of c.self.inside) c.args.name.now c.in-Some.i c.self.invariant c.in-Some.ensures.index)

pub invariant_of-self : goal.invariant_of-self
invariant_of-self c = subst (λ us. IsArena (record (arena_of c.self.inside) { units = us })) (sym c.reserve.ensures.items) c.self.invariant

pub invariant_of-self-in_err-name : goal.invariant_of-self-in_err-name
invariant_of-self-in_err-name c = subst (λ us. IsArena (record (arena_of c.self.inside) { units = us })) (sym c.reserve.ensures.items) c.self.invariant

added : (c : goal.After-push_reserved) → arena_of record { names = c.insert_full.new.self; units = c.push_reserved.new.self; items = c.self.inside.items }
    ≡ with_unit (arena_of c.self.inside) c.args.name.now
added c =
    let u : c.push_reserved.new.self.items ≡ c.self.inside.units.items ++ no_table ∷ [] = search rules in
    added-unit (arena_of c.self.inside) (arena_of record { names = c.insert_full.new.self; units = c.push_reserved.new.self; items = c.self.inside.items }) _ _ c.in_ok-name.ensures
    c.in_ok-i.ensures.keys u refl c.in_default.ensures.found

pub invariant_of-self-2 : goal.invariant_of-self-2
invariant_of-self-2 c =
    let room : unit_count (arena_of c.self.inside) < 2 ^ 32 - 1 = subst (λ (a : Arena). unit_count a < 2 ^ 32 - 1) (sym c.self.view_is) c.requires in
    subst IsArena (sym (added c)) (IsArena-with_unit (arena_of c.self.inside) c.args.name.now c.self.invariant c.in_default.ensures.found room)

pub returns : goal.returns
returns c = rw (← c.self.view_is) (added-FindsUnit (arena_of c.self.inside) _ _ _ c.in_ok-i.i c.in_ok-name.ensures (added c) c.self.invariant c.in_ok-i.ensures.within c.in_ok-i.ensures.stored
    c.in_default.ensures.found)

pub returns-in_err-reserve : goal.returns-in_err-reserve
returns-in_err-reserve c = no-unit _ _ _ _ c.from_residual.ensures.0 (ap (λ us. record (arena_of c.self.inside) { units = us }) c.reserve.ensures.items ∙ c.self.view_is)

pub returns-in_err-name : goal.returns-in_err-name
returns-in_err-name c = no-unit _ _ _ _ c.from_residual-in_err-name.ensures.0 (ap (λ us. record (arena_of c.self.inside) { units = us }) c.reserve.ensures.items ∙ c.self.view_is)
