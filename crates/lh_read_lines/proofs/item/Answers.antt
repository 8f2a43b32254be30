use Rattle.lh_read_lines.proofs.SpelledItems.{line_said, line_nothing}
use Rattle.lh_read_lines.proofs.item.Goals as goal

pub returns-clause-said : goal.returns-clause-said
returns-clause-said c = line_said c.args.tokens.now c.line_item.result c.line_item.ensures

pub returns-clause-nothing : goal.returns-clause-nothing
returns-clause-nothing c = line_nothing c.args.tokens.now c.line_item.result c.line_item.ensures
