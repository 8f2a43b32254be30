use Rattle.lh_cert_lowered.proofs.Lowered.{lowered-certified}
use Rattle.lh_cert_lowered.proofs.laws.lowered_is_certified.Goals as goal

pub returns : goal.returns
returns c =
    lowered-certified c.formed_law.ensures c.emitted_say_rows.ensures.comb c.emitted_say_rows.ensures.once c.emitted_say_rows.ensures.edge
    c.comb_given.ensures c.once_given.ensures c.edge_given.ensures
