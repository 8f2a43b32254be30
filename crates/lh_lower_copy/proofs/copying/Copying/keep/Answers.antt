use Rattle.std.proofs.Common.{Ok, refl, sym, subst}
use Rattle.lh_unit.specs.Arena.{unit_text_at}
use Rattle.lh_lower_copy.specs.Copying.{AddsUnit}
use Rattle.lh_lower_copy.proofs.Copies.{is-there, can-units, can-undefined, can-values, can-labels, copies-unit}
use Rattle.lh_lower_copy.proofs.copying.Copying.keep.Goals as goal

pub keep_unit-requires : goal.keep_unit-requires
keep_unit-requires c =
    let a = c.args.self.now.from.now in let b = c.args.self.now.to in let u = c.args.unit.0 in
    let h = is-there a u c.requires.defined in
    record {
      there = h;
      defined = c.requires.defined;
      units = can-units a b u c.requires.can;
      no_values = can-values a b u c.requires.can h;
      no_labels = can-labels a b u c.requires.can h;
      undefined = can-undefined a b u c.requires.can;
    }

pub returns-clause-copies : goal.returns-clause-copies
returns-clause-copies c =
    let a = c.args.self.now.from.now in let u = c.args.unit.0 in let t = unit_text_at a u in
    copies-unit (Ok tt) a c.args.self.now.to c.shrink.new.self u t refl
    (subst (λ m. AddsUnit c.args.self.now.to m u t) (sym c.shrink.ensures) c.in_ok-keep_unit.ensures)
