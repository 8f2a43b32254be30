use Rattle.std.proofs.Common.{refl}
use Rattle.std.proofs.lemmas.Result.{err_from_is_err_and, IfOk-weaker, IfErr-weaker}
use Rattle.lh_region_walk.specs.declared.walk.WalkPoint.{WalkPoint}
use Rattle.lh_region_walk.specs.Both.{GoesFirst, FirstStops}
use Rattle.lh_region.specs.Starts.{lines_left}
use Rattle.lh_region_walk.specs.Turns.{GoesThrough, GoesNot}
use Rattle.lh_region_walk.proofs.First.{IsHeadPlace, constants-grown, can-start, goes-first, first-stops}
use Rattle.lh_region_walk.proofs.FormedText.{entry-fits}
use Rattle.lh_term.proofs.Swaps.{grows_on}
use Rattle.lh_region_walk.proofs.region.first_walk.Goals as goal

pub start_of-requires : goal.start_of-requires
start_of-requires c =
    let h = c.requires.region in entry-fits h.naming (h.naming.unit_name 0) c.args.region.now.flat.now h.region.names c.args.region.now.head

pub walk_from-requires-clause-start : goal.walk_from-requires-clause-start
walk_from-requires-clause-start c =
    let r = c.args.region.now in let ns = c.bit.new.terms in let ps = c.in_ok-places.places.items in
    let at : WalkPoint = (record { place = 0; block = c.args.region.now.head; turns = 0; cond = c.in_ok-cond.cond }) in
    let k : IsHeadPlace r ns ps at = record {
      start = c.in_ok-start.start;
      one = c.in_ok-places.ensures;
      edges = c.in_ok-start.ensures.edges;
      selectors = c.in_ok-start.ensures.selectors;
      known = constants-grown c.start_of.new.terms ns c.in_ok-start.start (lines_left r.flat.now.blocks r.head) c.bit.ensures.kept c.in_ok-start.ensures.known;
      place = refl;
      block = refl;
      turns = refl;
      cond = c.in_ok-cond.ensures.made;
    } in
    can-start r ns ps at k c.requires.region

pub returns-clause-through : goal.returns-clause-through
returns-clause-through c =
    let r = c.args.region.now in let ns = c.bit.new.terms in let ps = c.in_ok-places.places.items in
    let at : WalkPoint = (record { place = 0; block = c.args.region.now.head; turns = 0; cond = c.in_ok-cond.cond }) in
    let k : IsHeadPlace r ns ps at = record {
      start = c.in_ok-start.start;
      one = c.in_ok-places.ensures;
      edges = c.in_ok-start.ensures.edges;
      selectors = c.in_ok-start.ensures.selectors;
      known = constants-grown c.start_of.new.terms ns c.in_ok-start.start (lines_left r.flat.now.blocks r.head) c.bit.ensures.kept c.in_ok-start.ensures.known;
      place = refl;
      block = refl;
      turns = refl;
      cond = c.in_ok-cond.ensures.made;
    } in
    IfOk-weaker c.walk_from.result (GoesThrough ns r ps at c.walk_from.new.terms) (GoesFirst r c.walk_from.new.terms) (λ w g. goes-first r ns ps at k c.requires.goes_on c.walk_from.new.terms w g)
    c.walk_from.ensures.through

pub returns-clause-cause : goal.returns-clause-cause
returns-clause-cause c =
    let r = c.args.region.now in let ns = c.bit.new.terms in let ps = c.in_ok-places.places.items in
    let at : WalkPoint = (record { place = 0; block = c.args.region.now.head; turns = 0; cond = c.in_ok-cond.cond }) in
    let k : IsHeadPlace r ns ps at = record {
      start = c.in_ok-start.start;
      one = c.in_ok-places.ensures;
      edges = c.in_ok-start.ensures.edges;
      selectors = c.in_ok-start.ensures.selectors;
      known = constants-grown c.start_of.new.terms ns c.in_ok-start.start (lines_left r.flat.now.blocks r.head) c.bit.ensures.kept c.in_ok-start.ensures.known;
      place = refl;
      block = refl;
      turns = refl;
      cond = c.in_ok-cond.ensures.made;
    } in
    IfErr-weaker c.walk_from.result (GoesNot ns r ps at) (FirstStops r) (λ e g. first-stops r ns ps at k c.requires.goes_on e g) c.walk_from.ensures.cause

pub returns-in_err-start-clause-kept : goal.returns-in_err-start-clause-kept
returns-in_err-start-clause-kept c = c.start_of.ensures.kept

pub returns-in_err-places-clause-kept : goal.returns-in_err-places-clause-kept
returns-in_err-places-clause-kept c = c.start_of.ensures.kept

pub returns-in_err-cond-clause-kept : goal.returns-in_err-cond-clause-kept
returns-in_err-cond-clause-kept c = grows_on c.args.terms.now c.start_of.new.terms c.bit.new.terms c.start_of.ensures.kept c.bit.ensures.kept

pub returns-clause-kept : goal.returns-clause-kept
returns-clause-kept c = grows_on c.args.terms.now c.bit.new.terms c.walk_from.new.terms (grows_on c.args.terms.now c.start_of.new.terms c.bit.new.terms c.start_of.ensures.kept c.bit.ensures.kept) c.walk_from.ensures.kept

pub returns-in_err-start-clause-cause : goal.returns-in_err-start-clause-cause
returns-in_err-start-clause-cause c =
    let p = err_from_is_err_and c.from_residual.result c.from_residual.ensures.1 in
    rw (p.1, p.2) (λ f h. tt)

pub returns-in_err-places-clause-cause : goal.returns-in_err-places-clause-cause
returns-in_err-places-clause-cause c =
    let p = err_from_is_err_and c.from_residual-in_err-places.result c.from_residual-in_err-places.ensures.1 in
    rw (p.1, p.2) (λ f h. tt)

pub returns-in_err-cond-clause-cause : goal.returns-in_err-cond-clause-cause
returns-in_err-cond-clause-cause c =
    let p = err_from_is_err_and c.from_residual-in_err-cond.result c.from_residual-in_err-cond.ensures.1 in
    rw (p.1, p.2) (λ f h. tt)
