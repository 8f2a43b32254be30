use Rattle.lh_entity_laws.proofs.Few.{unit-args-few}
use Rattle.lh_lower_laws.proofs.LoweredForm.{all-spelled, lowered-printable}
use Rattle.lh_lower_laws.specs.Same.{LoweredIsPrintable}
use Rattle.lh_lower_laws.proofs.laws.spelled_law.Goals as goal

pub returns : goal.returns
returns c =
    let printable : LoweredIsPrintable =
    lowered-printable c.modules_are_spelled_by_items.ensures.apart c.printable_items_are_spelled.ensures.printable unit-args-few c.formed_law.ensures c.comb_given.ensures c.edge_given.ensures
    c.once_given.ensures
    c.printing_law.ensures.comb c.printing_law.ensures.edge c.printing_law.ensures.once c.delays_law.ensures in
    record {
      printable = printable;
      spelled = all-spelled c.modules_are_spelled_by_items.ensures.apart c.printable_items_are_spelled.ensures.printable c.modules_are_spelled_by_items.ensures.together
          c.printable_items_are_spelled.ensures.spelled printable;
    }
