use Rattle.lh_text_laws.proofs.PrintableUnits.{printable_is_spelled}
use Rattle.lh_text_laws.proofs.Printed.{spelled_is_printable}
use Rattle.lh_text_laws.proofs.printable_items_are_spelled.Goals as goal

pub returns : goal.returns
returns c = record { spelled = printable_is_spelled; printable = spelled_is_printable }
