use Rattle.std.proofs.Common.{sym, ◌∙◌}
use Rattle.lh_verify_values.proofs.MadeTypes.{not-data, too-many}
use Rattle.lh_verify_values.proofs.results.array_of.Goals as goal

pub returns-then-not-carries_data : goal.returns-then-not-carries_data
returns-then-not-carries_data c = not-data c.args.len c.args.of.now (sym c.carries_data.ensures.test ∙ c.if-not-carries_data.true)

pub returns-then-len-gt65536 : goal.returns-then-len-gt65536
returns-then-len-gt65536 c = too-many c.args.len c.args.of.now (c.carries_data.ensures.data (c.if-not-carries_data.false)) c.if-len-gt65536.true
