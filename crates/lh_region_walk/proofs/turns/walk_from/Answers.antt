use Rattle.std.proofs.Common.{refl, arith}
use Rattle.lh_region_walk.proofs.Through.{fresh, start-can, start-turn, start-within, goes-through, goes-not-first, goes-not-later}
use Rattle.lh_term.proofs.Swaps.{grows_on}
use Rattle.lh_region_joins.proofs.Conditions.{grows-none}
use Rattle.lh_region_walk.proofs.turns.walk_from.Goals as goal

pub treat-requires : goal.treat-requires
treat-requires c =
    start-can c.args.terms.now c.args.region.now c.args.places.items c.args.at
    (record { places = c.args.places; ahead = c.in_ok-new.field-0; insts = 0; rows = c.new-2.result; sources = c.new-3.result })
    (fresh c.args.region.now c.args.places.items (record { places = c.args.places; ahead = c.in_ok-new.field-0; insts = 0; rows = c.new-2.result; sources = c.new-3.result }) c.len.result c.len.ensures
    refl c.in_ok-new.ensures.here c.in_ok-new.ensures.next refl c.new-2.ensures.probes c.new-2.ensures.drives c.new-2.ensures.asserts c.new-2.ensures.ends c.new-3.ensures) c.requires.start

pub returns-in-Err-clause-cause : goal.returns-in-Err-clause-cause
returns-in-Err-clause-cause c =
    goes-not-first c.args.terms.now c.args.region.now c.args.places.items c.args.at
    (record { places = c.args.places; ahead = c.in_ok-new.field-0; insts = 0; rows = c.new-2.result; sources = c.new-3.result })
    (fresh c.args.region.now c.args.places.items (record { places = c.args.places; ahead = c.in_ok-new.field-0; insts = 0; rows = c.new-2.result; sources = c.new-3.result }) c.len.result c.len.ensures
    refl c.in_ok-new.ensures.here c.in_ok-new.ensures.next refl c.new-2.ensures.probes c.new-2.ensures.drives c.new-2.ensures.asserts c.new-2.ensures.ends c.new-3.ensures) c.in-Err.fault c.in-Err.ensures.cause

pub overflow_add-at : goal.overflow_add-at
overflow_add-at c = omega (arith, start-within c.args.terms.now c.args.region.now c.args.places.items c.args.at c.requires.start, c.requires.few)

pub treat_turns-requires-clause-first : goal.treat_turns-requires-clause-first
treat_turns-requires-clause-first c = start-within c.args.terms.now c.args.region.now c.args.places.items c.args.at c.requires.start

pub treat_turns-requires-clause-turn : goal.treat_turns-requires-clause-turn
treat_turns-requires-clause-turn c =
    start-turn c.args.terms.now c.args.region.now c.args.places.items c.args.at
    (record { places = c.args.places; ahead = c.in_ok-new.field-0; insts = 0; rows = c.new-2.result; sources = c.new-3.result })
    (fresh c.args.region.now c.args.places.items (record { places = c.args.places; ahead = c.in_ok-new.field-0; insts = 0; rows = c.new-2.result; sources = c.new-3.result }) c.len.result c.len.ensures
    refl c.in_ok-new.ensures.here c.in_ok-new.ensures.next refl c.new-2.ensures.probes c.new-2.ensures.drives c.new-2.ensures.asserts c.new-2.ensures.ends c.new-3.ensures) c.requires.start
    c.treat.new.terms c.treat.new.self c.in-Ok.ensures.treated

pub returns-in-Err-treat_turns-clause-cause : goal.returns-in-Err-treat_turns-clause-cause
returns-in-Err-treat_turns-clause-cause c =
    goes-not-later c.args.terms.now c.args.region.now c.args.places.items c.args.at
    (record { places = c.args.places; ahead = c.in_ok-new.field-0; insts = 0; rows = c.new-2.result; sources = c.new-3.result })
    (fresh c.args.region.now c.args.places.items (record { places = c.args.places; ahead = c.in_ok-new.field-0; insts = 0; rows = c.new-2.result; sources = c.new-3.result }) c.len.result c.len.ensures
    refl c.in_ok-new.ensures.here c.in_ok-new.ensures.next refl c.new-2.ensures.probes c.new-2.ensures.drives c.new-2.ensures.asserts c.new-2.ensures.ends c.new-3.ensures) c.treat.new.terms
    c.treat.new.self c.in-Ok.ensures.treated c.in-Err-treat_turns.fault c.in-Err-treat_turns.ensures.cause

pub returns-in-Ok-treat_turns-clause-through : goal.returns-in-Ok-treat_turns-clause-through
returns-in-Ok-treat_turns-clause-through c =
    goes-through c.args.terms.now c.args.region.now c.args.places.items c.args.at
    (record { places = c.args.places; ahead = c.in_ok-new.field-0; insts = 0; rows = c.new-2.result; sources = c.new-3.result })
    (fresh c.args.region.now c.args.places.items (record { places = c.args.places; ahead = c.in_ok-new.field-0; insts = 0; rows = c.new-2.result; sources = c.new-3.result }) c.len.result c.len.ensures
    refl c.in_ok-new.ensures.here c.in_ok-new.ensures.next refl c.new-2.ensures.probes c.new-2.ensures.drives c.new-2.ensures.asserts c.new-2.ensures.ends c.new-3.ensures) c.treat.new.terms
    c.treat.new.self c.in-Ok.ensures.treated c.treat_turns.new.terms c.treat_turns.new.self c.in-Ok-treat_turns.ensures.passed

pub returns-in_err-new-clause-kept : goal.returns-in_err-new-clause-kept
returns-in_err-new-clause-kept c = grows-none c.args.terms.now

pub returns-in-Err-clause-kept : goal.returns-in-Err-clause-kept
returns-in-Err-clause-kept c = c.treat.ensures.kept

pub returns-in-Err-treat_turns-clause-kept : goal.returns-in-Err-treat_turns-clause-kept
returns-in-Err-treat_turns-clause-kept c = grows_on c.args.terms.now c.treat.new.terms c.treat_turns.new.terms c.treat.ensures.kept c.treat_turns.ensures.kept

pub returns-in-Ok-treat_turns-clause-kept : goal.returns-in-Ok-treat_turns-clause-kept
returns-in-Ok-treat_turns-clause-kept c = grows_on c.args.terms.now c.treat.new.terms c.treat_turns.new.terms c.treat.ensures.kept c.treat_turns.ensures.kept
