use Rattle.std.proofs.Common.{refl}
use Rattle.std.proofs.lemmas.Result.{err_from_is_err_and}
use Rattle.lh_term.proofs.Swaps.{grows_on}
use Rattle.lh_region_walk.proofs.SecondRegion.{past-of, again-of, next-place, can-follow, second-through, second-stops, past-stops}
use Rattle.lh_region_walk.proofs.region.second_rows.Goals as goal

pub walk_from-requires-clause-start : goal.walk_from-requires-clause-start
walk_from-requires-clause-start c =
    let r = c.args.region.now in let ns = c.first_walk.new.terms in let ms = c.place_behind.new.terms in let w = c.in_ok-first.first in let x = c.in_ok-places in
    let k = next-place r c.args.target ns ms w x.places.items x.at c.requires.now c.place_behind.ensures.kept c.in_ok-places.ensures.behind in
    can-follow (past-of r) (again-of r) r c.args.target ns ms w x.places.items x.at k c.in_ok-first.ensures.through c.requires.target

pub returns-in_err-rows-clause-cause : goal.returns-in_err-rows-clause-cause
returns-in_err-rows-clause-cause c =
    let r = c.args.region.now in let ns = c.first_walk.new.terms in let ms = c.place_behind.new.terms in let w = c.in_ok-first.first in let x = c.in_ok-places in
    let k = next-place r c.args.target ns ms w x.places.items x.at c.requires.now c.place_behind.ensures.kept c.in_ok-places.ensures.behind in
    let p = err_from_is_err_and c.from_residual-in_err-rows.result c.from_residual-in_err-rows.ensures.1 in
    rw (p.1, p.2) (second-stops (past-of r) (again-of r) r c.args.target ns ms w x.places.items x.at k c.in_ok-first.ensures.through c.in_err-rows.field-0.0 c.in_err-rows.ensures.cause)

pub returns-clause-rows : goal.returns-clause-rows
returns-clause-rows c =
    let r = c.args.region.now in let ns = c.first_walk.new.terms in let ms = c.place_behind.new.terms in let w = c.in_ok-first.first in let x = c.in_ok-places in
    let k = next-place r c.args.target ns ms w x.places.items x.at c.requires.now c.place_behind.ensures.kept c.in_ok-places.ensures.behind in
    second-through (past-of r) (again-of r) r c.args.target ns ms w x.places.items x.at k c.in_ok-first.ensures.through c.walk_from.new.terms c.in_ok-rows.field-0 c.in_ok-rows.ensures.through

pub returns-in_err-first-clause-kept : goal.returns-in_err-first-clause-kept
returns-in_err-first-clause-kept c = c.first_walk.ensures.kept

pub returns-in_err-first-clause-cause : goal.returns-in_err-first-clause-cause
returns-in_err-first-clause-cause c =
    let r = c.args.region.now in
    let p = err_from_is_err_and c.from_residual.result c.from_residual.ensures.1 in
    rw (p.1, p.2) (past-stops (past-of r) r c.args.target refl refl refl refl c.in_err-first.field-0.0 c.in_err-first.ensures.cause)

pub returns-in_err-places-clause-kept : goal.returns-in_err-places-clause-kept
returns-in_err-places-clause-kept c = grows_on c.args.terms.now c.first_walk.new.terms c.place_behind.new.terms c.first_walk.ensures.kept c.place_behind.ensures.kept

pub returns-in_err-rows-clause-kept : goal.returns-in_err-rows-clause-kept
returns-in_err-rows-clause-kept c =
    grows_on c.args.terms.now c.place_behind.new.terms c.walk_from.new.terms (grows_on c.args.terms.now c.first_walk.new.terms c.place_behind.new.terms c.first_walk.ensures.kept c.place_behind.ensures.kept)
    c.walk_from.ensures.kept

pub returns-clause-kept : goal.returns-clause-kept
returns-clause-kept c =
    grows_on c.args.terms.now c.place_behind.new.terms c.walk_from.new.terms (grows_on c.args.terms.now c.first_walk.new.terms c.place_behind.new.terms c.first_walk.ensures.kept c.place_behind.ensures.kept)
    c.walk_from.ensures.kept

pub returns-in_err-places-clause-cause : goal.returns-in_err-places-clause-cause
returns-in_err-places-clause-cause c =
    let p = err_from_is_err_and c.from_residual-in_err-places.result c.from_residual-in_err-places.ensures.1 in
    rw (p.1, p.2) (λ f h it. tt)
