use Rattle.std.proofs.Common.{nat_eq}
use Rattle.std.specs.HashMap as hash
use Rattle.lh_edge.proofs.Ids.{many_connected}
use Rattle.lh_cert_agree.specs.Gates.{placed_bit}
use Rattle.lh_cert_agree.proofs.gates.Network.connective.Goals as goal

pub returns-in_default-2 : goal.returns-in_default-2
returns-in_default-2 c = λ n. many_connected c.args.op.now (placed_bit n c.args.self.now.gates.items (hash.get nat_eq c.args.self.now.places)) c.args.args.now c.in_default.len_at_least
