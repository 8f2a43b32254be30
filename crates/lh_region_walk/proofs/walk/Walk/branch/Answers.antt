use Rattle.std.proofs.Common.{refl}
use Rattle.std.proofs.lemmas.Result.{err_from_is_err_and, IfErr-weaker, on_ok_weaker}
use Rattle.lh_region_walk.specs.declared.walk.Walk.{Walk}
use Rattle.lh_region_walk.specs.Leaving.{LeadsThere, LeadsNot, Branches, BranchesNot}
use Rattle.lh_region_walk.proofs.PlaceLeaves.{low-condition, high-condition, low-not, high-not, branched}
use Rattle.lh_region_walk.proofs.walk.Walk.branch.Goals as goal

pub lead_on-requires-clause-cond : goal.lead_on-requires-clause-cond
lead_on-requires-clause-cond c =
    low-condition c.args.terms.now c.sides_at.new.terms c.args.self.now.places.items c.args.fork.cond c.args.at.place c.args.at.cond c.in_ok-sides.sides.zero c.requires.cond c.requires.test
    c.in_ok-sides.ensures.zero

pub returns-in_err-lead_on-clause-cause : goal.returns-in_err-lead_on-clause-cause
returns-in_err-lead_on-clause-cause c =
    let w = c.args.self.now in
    let p : Walk = record { places = c.sides_at.new.places; ahead = w.ahead; insts = w.insts; rows = w.rows; sources = w.sources } in
    let i = err_from_is_err_and c.from_residual-in_err-lead_on.result c.from_residual-in_err-lead_on.ensures.1 in
    rw (i.1, i.2)
    (low-not c.args.terms.now c.sides_at.new.terms c.args.region.now w p c.args.at c.args.fork.cond c.args.fork.zero c.args.fork.one c.in_ok-sides.sides.zero c.in_ok-sides.sides.one
    c.sides_at.ensures.kept c.in_ok-sides.ensures.same c.in_ok-sides.ensures.still refl refl refl refl
    c.in_ok-sides.ensures.zero c.in_ok-sides.ensures.one c.in_err-lead_on.field-0.0 c.in_err-lead_on.ensures.cause)

pub lead_on-requires-2-clause-cond : goal.lead_on-requires-2-clause-cond
lead_on-requires-2-clause-cond c =
    high-condition c.args.terms.now c.sides_at.new.terms c.args.self.now.places.items c.args.fork.cond c.args.at.place c.args.at.cond c.in_ok-sides.sides.one c.requires.cond c.requires.test
    c.in_ok-sides.ensures.one

pub lead_on-requires-2-clause-to : goal.lead_on-requires-2-clause-to
lead_on-requires-2-clause-to c = c.in_ok-lead_on.ensures.to c.args.fork.one c.requires.one

pub returns-clause-led : goal.returns-clause-led
returns-clause-led c =
    let ns = c.args.terms.now in let ms = c.sides_at.new.terms in let r = c.args.region.now in let w = c.args.self.now in let at = c.args.at in
    let v = c.args.fork.cond in let first = c.args.fork.zero in let second = c.args.fork.one in
    let p : Walk = record { places = c.sides_at.new.places; ahead = w.ahead; insts = w.insts; rows = w.rows; sources = w.sources } in
    let q = c.lead_on.new.self in let z = c.lead_on-2.new.self in
    on_ok_weaker {P = LeadsThere ms r q at c.in_ok-sides.sides.one second z} {Q = Branches ns r w at v first second ms z} c.lead_on-2.result
    (λ x. branched ns ms r w p at v first second c.in_ok-sides.sides.zero c.in_ok-sides.sides.one c.sides_at.ensures.kept c.in_ok-sides.ensures.same c.in_ok-sides.ensures.still refl refl refl refl
    c.in_ok-sides.ensures.zero c.in_ok-sides.ensures.one q c.in_ok-lead_on.ensures.led z x)
    c.lead_on-2.ensures.led

pub returns-clause-cause : goal.returns-clause-cause
returns-clause-cause c =
    let ns = c.args.terms.now in let ms = c.sides_at.new.terms in let r = c.args.region.now in let w = c.args.self.now in let at = c.args.at in
    let v = c.args.fork.cond in let first = c.args.fork.zero in let second = c.args.fork.one in
    let p : Walk = record { places = c.sides_at.new.places; ahead = w.ahead; insts = w.insts; rows = w.rows; sources = w.sources } in
    let q = c.lead_on.new.self in
    IfErr-weaker c.lead_on-2.result (LeadsNot ms r q at c.in_ok-sides.sides.one second) (BranchesNot ns r w at v first second)
    (λ x h. high-not ns ms r w p at v first second c.in_ok-sides.sides.zero c.in_ok-sides.sides.one c.sides_at.ensures.kept c.in_ok-sides.ensures.same c.in_ok-sides.ensures.still refl refl refl refl
    c.in_ok-sides.ensures.zero c.in_ok-sides.ensures.one q c.in_ok-lead_on.ensures.led x h)
    c.lead_on-2.ensures.cause

pub returns-in_err-sides-clause-kept : goal.returns-in_err-sides-clause-kept
returns-in_err-sides-clause-kept c = c.sides_at.ensures.kept

pub returns-in_err-lead_on-clause-kept : goal.returns-in_err-lead_on-clause-kept
returns-in_err-lead_on-clause-kept c = c.sides_at.ensures.kept

pub returns-clause-kept : goal.returns-clause-kept
returns-clause-kept c = c.sides_at.ensures.kept
