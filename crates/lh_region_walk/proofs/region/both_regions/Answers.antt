use Rattle.std.proofs.Common.{◌∙◌, Some, None, refl, ap}
use Rattle.std.proofs.lemmas.Result.{err_from_is_err_and}
use Rattle.lh_term.proofs.Swaps.{grows_on}
use Rattle.lh_region_joins.proofs.Conditions.{grows-none}
use Rattle.lh_region.specs.declared.rows.RegionFault.TheVariants.{OutOfMemory}
use Rattle.lh_region.specs.declared.rows.Rows.{Rows}
use Rattle.lh_region.specs.Targets.{ways_of, target_by}
use Rattle.lh_region_walk.proofs.BothRegions.{has-region, answer-first, answer-memory, has-target, answer-one, fit-one, answer-stops, answer-both, fit-both, none-of}
use Rattle.lh_region_walk.proofs.region.both_regions.Goals as goal

pub first_rows-requires-clause-region : goal.first_rows-requires-clause-region
first_rows-requires-clause-region c = has-region c.args.region.now c.requires.here

pub returns-in_err-first-clause-answer : goal.returns-in_err-first-clause-answer
returns-in_err-first-clause-answer c =
    let p = err_from_is_err_and c.from_residual.result c.from_residual.ensures.1 in
    rw (p.1, p.2) (answer-first c.args.region.now c.requires.here c.first_rows.new.terms c.in_err-first.field-0.0 c.in_err-first.ensures.cause)

pub returns-in_default-clause-answer : goal.returns-in_default-clause-answer
returns-in_default-clause-answer c =
    let q = c.in_ok-first.ensures.rows in
    answer-one c.args.region.now c.requires.here c.first_rows.new.terms q.walk q.gone c.first_rows.new.terms (record { first = c.in_ok-first.first; second = None }) c.in_ok-found.found (c.in_ok-found.ensures ∙ ap (λ (x : Rows). target_by (ways_of x.ends)) q.is) (none-of c.in_ok-found.found c.in_default.not-Some) (grows-none c.first_rows.new.terms) q.is refl

pub returns-in_default-clause-fit : goal.returns-in_default-clause-fit
returns-in_default-clause-fit c =
    let q = c.in_ok-first.ensures.rows in
    fit-one c.args.region.now c.requires.here c.first_rows.new.terms q.walk q.gone c.first_rows.new.terms (record { first = c.in_ok-first.first; second = None }) (grows-none c.first_rows.new.terms) q.is refl

pub second_rows-requires-clause-target : goal.second_rows-requires-clause-target
second_rows-requires-clause-target c =
    let q = c.in_ok-first.ensures.rows in
    has-target c.args.region.now c.requires.here c.first_rows.new.terms q.walk q.gone c.in-Some.target c.in_ok-found.found (c.in_ok-found.ensures ∙ ap (λ (x : Rows). target_by (ways_of x.ends)) q.is) c.in-Some.is

pub returns-in_err-second-clause-answer : goal.returns-in_err-second-clause-answer
returns-in_err-second-clause-answer c =
    let p = err_from_is_err_and c.from_residual-in_err-second.result c.from_residual-in_err-second.ensures.1 in
    let q = c.in_ok-first.ensures.rows in
    rw (p.1, p.2) (answer-stops c.args.region.now c.requires.here c.first_rows.new.terms q.walk q.gone c.in-Some.target c.in_ok-found.found (c.in_ok-found.ensures ∙ ap (λ (x : Rows). target_by (ways_of x.ends)) q.is) c.in-Some.is c.second_rows.new.terms c.in_err-second.field-0.0 c.in_err-second.ensures.cause)

pub returns-clause-answer : goal.returns-clause-answer
returns-clause-answer c =
    let q = c.in_ok-first.ensures.rows in
    answer-both c.args.region.now c.requires.here c.first_rows.new.terms q.walk q.gone c.in-Some.target c.in_ok-found.found (c.in_ok-found.ensures ∙ ap (λ (x : Rows). target_by (ways_of x.ends)) q.is) c.in-Some.is c.second_rows.new.terms (record { first = c.in_ok-first.first; second = Some c.in_ok-second.second }) c.in_ok-second.second c.in_ok-second.ensures.rows c.second_rows.ensures.kept q.is refl

pub returns-clause-fit : goal.returns-clause-fit
returns-clause-fit c =
    let q = c.in_ok-first.ensures.rows in
    fit-both c.args.region.now c.requires.here c.first_rows.new.terms q.walk q.gone c.in-Some.target c.in_ok-found.found (c.in_ok-found.ensures ∙ ap (λ (x : Rows). target_by (ways_of x.ends)) q.is) c.in-Some.is c.second_rows.new.terms (record { first = c.in_ok-first.first; second = Some c.in_ok-second.second }) c.in_ok-second.second c.in_ok-second.ensures.rows c.second_rows.ensures.kept q.is refl

pub returns-in_err-first-clause-kept : goal.returns-in_err-first-clause-kept
returns-in_err-first-clause-kept c = c.first_rows.ensures.kept

pub returns-in_err-found-clause-kept : goal.returns-in_err-found-clause-kept
returns-in_err-found-clause-kept c = c.first_rows.ensures.kept

pub returns-in_default-clause-kept : goal.returns-in_default-clause-kept
returns-in_default-clause-kept c = c.first_rows.ensures.kept

pub returns-in_err-second-clause-kept : goal.returns-in_err-second-clause-kept
returns-in_err-second-clause-kept c = grows_on c.args.terms.now c.first_rows.new.terms c.second_rows.new.terms c.first_rows.ensures.kept c.second_rows.ensures.kept

pub returns-clause-kept : goal.returns-clause-kept
returns-clause-kept c = grows_on c.args.terms.now c.first_rows.new.terms c.second_rows.new.terms c.first_rows.ensures.kept c.second_rows.ensures.kept

pub returns-in_err-found-clause-answer : goal.returns-in_err-found-clause-answer
returns-in_err-found-clause-answer c =
    let p = err_from_is_err_and c.from_residual-in_err-found.result c.from_residual-in_err-found.ensures.1 in
    rw (p.1, p.2) (answer-memory c.first_rows.new.terms c.args.region.now.flat.now OutOfMemory refl)
