use Rattle.lh_unit.specs.ArenaOf.{arena_of}
use Rattle.lh_unit.proofs.ItemLemmas.{AddsDeclare-by, IsArena-item}
use Rattle.lh_unit.proofs.module.Module.add_declare.Goals as goal

pub invariant_of-self : goal.invariant_of-self
invariant_of-self c = IsArena-item c.push_item.result (arena_of c.self.inside) c.args.declare c.push_item.new.items.items c.push_item.ensures.ok c.push_item.ensures.err c.self.invariant

pub returns : goal.returns
returns c = rw (← c.self.view_is) (AddsDeclare-by c.push_item.result (arena_of c.self.inside) c.args.declare c.push_item.new.items.items c.push_item.ensures.ok c.push_item.ensures.err)
