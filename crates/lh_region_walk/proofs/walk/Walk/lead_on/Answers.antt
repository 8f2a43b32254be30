use Rattle.std.proofs.Common.{◌≡◌, ◌∙◌, ◌&&◌, false, true, nat_eq, refl, sym, eq-eqb}
use Rattle.std.proofs.lemmas.Bool.{and_right}
use Rattle.std.proofs.lemmas.Result.{on_ok_weaker}
use Rattle.lh_unit.proofs.Lists.{nat_eq-other}
use Rattle.lh_region_def.specs.Rows as text
use Rattle.lh_region_walk.specs.declared.walk.Walk.{Walk}
use Rattle.lh_region_walk.specs.Leaving.{EndsThere, LeadsThere}
use Rattle.lh_region_walk.proofs.PlaceLeaves.{leads-head, led-edge, led-edge-not}
use Rattle.lh_region_walk.proofs.walk.Walk.lead_on.Goals as goal
use Rattle.lh_region_walk.proofs.walk.Walk.lead_on.Goals.{else-region-via-then-region+else-to-region, else-region-via-else-region}

pub returns-then-to-region-clause-led : goal.returns-then-to-region-clause-led
returns-then-to-region-clause-led c =
    let ns = c.args.terms.now in let r = c.args.region.now in let w = c.args.self.now in let q = c.end_there.new.self in
    let e : (r.ends_at_head && nat_eq c.args.to r.head) ≡ true = λ j. c.if-region.true j && eq-eqb c.args.to r.head c.if-to-region.true j in
    on_ok_weaker {P = EndsThere w c.args.at c.args.cond text.enters_head q} {Q = LeadsThere ns r w c.args.at c.args.cond c.args.to q} c.end_there.result
    (λ x. leads-head ns r w q c.args.at c.args.cond c.args.to c.requires.to (sym c.never_holds.ensures ∙ c.if-never_holds.false) e x) c.end_there.ensures.ended

pub returns-clause-led : goal.returns-clause-led
returns-clause-led c =
    let ns = c.args.terms.now in let r = c.args.region.now in let w = c.args.self.now in
    let q : Walk = record { places = w.places; ahead = c.lead.new.ahead; insts = w.insts; rows = w.rows; sources = w.sources } in
    let e : (r.ends_at_head && nat_eq c.args.to r.head) ≡ false =
    elim c.else-region.branch [
      | else-region-via-then-region+else-to-region v ↦ and_right r.ends_at_head (nat_eq c.args.to r.head) (nat_eq-other c.args.to r.head v.if-to-region.false)
      | else-region-via-else-region v ↦ (λ j. v.if-region.false j && nat_eq c.args.to r.head)
    ] in
    led-edge ns r w q c.args.at c.args.cond c.args.to c.requires.to (sym c.never_holds.ensures ∙ c.if-never_holds.false) e c.edge_from.result c.edge_from.ensures refl refl refl refl c.lead.result
    c.lead.ensures.here c.lead.ensures.next c.lead.ensures.leads c.lead.ensures.within

pub returns-clause-cause : goal.returns-clause-cause
returns-clause-cause c =
    let ns = c.args.terms.now in let r = c.args.region.now in let w = c.args.self.now in
    let e : (r.ends_at_head && nat_eq c.args.to r.head) ≡ false =
    elim c.else-region.branch [
      | else-region-via-then-region+else-to-region v ↦ and_right r.ends_at_head (nat_eq c.args.to r.head) (nat_eq-other c.args.to r.head v.if-to-region.false)
      | else-region-via-else-region v ↦ (λ j. v.if-region.false j && nat_eq c.args.to r.head)
    ] in
    led-edge-not ns r w w c.args.at c.args.cond c.args.to c.requires.to (sym c.never_holds.ensures ∙ c.if-never_holds.false) e c.edge_from.result c.edge_from.ensures c.lead.result c.lead.ensures.cause
