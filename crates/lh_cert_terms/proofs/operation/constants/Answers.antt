use Rattle.lh_cert_terms.proofs.Pairs.{constants_found}
use Rattle.lh_cert_terms.proofs.operation.constants.Goals as goal

pub returns-in_ok-t-in-Some-clause-found : goal.returns-in_ok-t-in-Some-clause-found
returns-in_ok-t-in-Some-clause-found c =
    constants_found c.konst.new.self c.konst-in-Some.new.self c.args.two (c.in-Some.f, c.in-Some.t) c.in_ok-f-in-Some.f c.in_ok-t-in-Some.t c.in-Some.is c.in_ok-t-in-Some.ensures.kept
    c.in_ok-f-in-Some.ensures.made c.in_ok-t-in-Some.ensures.made
