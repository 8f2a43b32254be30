use Rattle.std.proofs.Common.{Ok, sym, subst}
use Rattle.lh_unit.specs.Arena.{unit_text_at}
use Rattle.lh_emit_def.specs.Entities.{entity_with}
use Rattle.lh_lower_copy.specs.Copying.{AddsUnit}
use Rattle.lh_lower_copy.proofs.Copies.{is-there, can-units, can-undefined, can-values, copies-entity}
use Rattle.lh_lower_copy.proofs.copying.Copying.put_entity.Goals as goal

pub put_body-requires : goal.put_body-requires
put_body-requires c =
    let a = c.args.self.now.from.now in let b = c.args.self.now.to in let u = c.args.unit.0 in
    let h = is-there a u c.requires.defined in
    record {
      there = h;
      units = can-units a b u c.requires.can;
      no_values = can-values a b u c.requires.can h;
      undefined = can-undefined a b u c.requires.can;
      body = c.requires.body;
    }

pub returns-clause-copies : goal.returns-clause-copies
returns-clause-copies c =
    let a = c.args.self.now.from.now in let u = c.args.unit.0 in let t = unit_text_at a u in
    copies-entity (Ok tt) a c.args.self.now.to c.shrink.new.self u c.args.body
    (λ ls is. subst (λ m. AddsUnit c.args.self.now.to m u (entity_with t ls)) (sym c.shrink.ensures) (c.in_ok-put_body.ensures ls is))
