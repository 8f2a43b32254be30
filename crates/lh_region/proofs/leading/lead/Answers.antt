use Rattle.std.proofs.Common.{arith}
use Rattle.lh_region.proofs.LeadingEdges.{leads-here, leads-next}
use Rattle.lh_region.proofs.leading.lead.Goals as goal

pub returns-then-to-edge-clause-leads : goal.returns-then-to-edge-clause-leads
returns-then-to-edge-clause-leads c =
    leads-here c.args.ahead.now c.lead_here.new.self c.args.turns c.args.to c.args.edge (omega (arith, c.if-to-edge.true)) c.in_ok-lead_here.ensures.here c.lead_here.ensures.next

pub returns-clause-leads : goal.returns-clause-leads
returns-clause-leads c =
    leads-next c.args.ahead.now c.lead_next.new.self c.args.turns c.args.to c.args.edge (omega (arith, c.if-to-edge.false)) c.lead_next.ensures.here c.in_ok-lead_next.ensures.next
