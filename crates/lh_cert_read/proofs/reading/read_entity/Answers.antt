use Rattle.lh_cert_read.proofs.Lines.{fine-entity}
use Rattle.lh_cert_read.proofs.reading.read_entity.Goals as goal

pub new-requires-clause-ports : goal.new-requires-clause-ports
new-requires-clause-ports c =
    (fine-entity c.args.unit.module.now c.args.unit.unit.0 c.in_place.ensures c.args.unit.in_place c.requires.formed c.requires.entity c.requires.plain).ports
