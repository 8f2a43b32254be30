use Rattle.std.proofs.Common.{Some, ap, sym, ◌∙◌}
use Rattle.lh_types.specs.Same.{same-is}
use Rattle.lh_verify_values.proofs.TypeNumbers.{grows-insert}
use Rattle.lh_verify_values.proofs.numbers.Types.number.Goals as goal

pub returns-clause-made : goal.returns-clause-made
returns-clause-made c = c.in_ok-number.ensures.stored.1 ∙ ap Some (sym (same-is _ _ c.in_ok-number.ensures.stored.2))

pub returns-clause-grows : goal.returns-clause-grows
returns-clause-grows c = grows-insert _ _ _ c.args.ty c.self.view_is c.in_ok-number.ensures.keys
