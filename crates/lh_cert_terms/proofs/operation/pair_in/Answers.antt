use Rattle.lh_cert_terms.proofs.Pairs.{constant_fits}
use Rattle.lh_cert_terms.proofs.operation.pair_in.Goals as goal

pub constants-requires : goal.constants-requires
constants-requires c = constant_fits c.args.terms.now c.args.x _ c.view.ensures.shown _ _ c.in-Konst.is c.view.ensures.typed c.in_ok-two-in-Konst.ensures
