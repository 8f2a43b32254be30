use Rattle.std.proofs.Common.{subst}
use Rattle.lh_verify.specs.declared.verify.VerifyCause.{VerifyCause}
use Rattle.lh_verify.specs.Verifying.{HasCause}
use Rattle.lh_trace_laws.proofs.FirstFaultLaw.{faultless_has_none}
use Rattle.lh_selftest.proofs.chain.wanting_at.Goals as goal

pub unreachable-requires : goal.unreachable-requires
unreachable-requires c =
    let named = subst (λ (x : VerifyCause). HasCause x c.args.fault.«module») c.in-Invalid.is c.requires.cause in
    faultless_has_none _ _ _ _ c.requires.faultless named.first
