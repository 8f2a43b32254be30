use Rattle.std.proofs.Common.{◌∙◌, ap, sym, subst}
use Rattle.lh_unit.specs.Arena.{IsArena}
use Rattle.lh_unit.specs.ArenaOf.{arena_of}
use Rattle.lh_unit.proofs.module.Module.shrink.Goals as goal

pub invariant_of-self : goal.invariant_of-self
invariant_of-self c = subst (λ us. IsArena (record (arena_of c.self.inside) { units = us })) (sym c.shrink_table.ensures) c.self.invariant

pub returns-in-Some : goal.returns-in-Some
returns-in-Some c = ap (λ us. record (arena_of c.self.inside) { units = us }) c.shrink_table.ensures ∙ c.self.view_is
