use Rattle.std.proofs.Common.{◌≡◌, ◌+◌, ◌<◌, length, refl, arith}
use Rattle.std.proofs.lemmas.Result.{err_from_is_err_and}
use Rattle.lh_region_walk.proofs.Turned.{stops-memory, turn-first, turn-can, turn-next, turn-stops, turn-done}
use Rattle.lh_term.proofs.Swaps.{grows_on}
use Rattle.lh_region.specs.declared.rows.RegionFault.TheVariants.{OutOfMemory}
use Rattle.lh_region_walk.specs.Turns.{turns_at, places_of}
use Rattle.lh_region_walk.proofs.walk.Walk.treat_turn.Goals as goal

pub loop-block-init : goal.loop-block-init
loop-block-init c = turn-first c.args.terms.now c.args.region.now c.args.self.now c.args.turn c.args.first

pub treat_block-requires-clause-walk : goal.treat_block-requires-clause-walk
treat_block-requires-clause-walk c =
    turn-can c.args.terms.now c.args.region.now c.args.self.now c.args.turn c.args.first c.loop-block.terms c.loop-block.self c.loop-block.block c.loop-block.invariant c.requires.turn

pub returns-in_err-treat_block-clause-cause : goal.returns-in_err-treat_block-clause-cause
returns-in_err-treat_block-clause-cause c =
    let n = length c.args.region.now.flat.now.blocks in
    let l : c.loop-block.block < n = omega (arith, c.loop-block-test.true, c.len-block-end.ensures, c.loop-block.auto.block-end, c.requires.few) in
    let p = err_from_is_err_and c.from_residual.result c.from_residual.ensures.1 in
    rw (p.1, p.2)
    (turn-stops c.args.terms.now c.args.region.now c.args.self.now c.args.turn c.args.first c.loop-block.terms c.loop-block.self c.loop-block.block c.loop-block.invariant n
    c.in_err-treat_block.field-0.0 l c.in_err-treat_block.ensures.cause)

pub loop-block-preserved : goal.loop-block-preserved
loop-block-preserved c =
    turn-next c.args.terms.now c.args.region.now c.args.self.now c.args.turn c.args.first c.loop-block.terms c.loop-block.self c.loop-block.block c.loop-block.invariant
    c.treat_block.new.terms c.treat_block.new.self (c.loop-block.block + 1) refl c.treat_block.ensures.kept c.in_ok-treat_block.ensures.passed

pub returns-clause-passed : goal.returns-clause-passed
returns-clause-passed c =
    let n = length c.args.region.now.flat.now.blocks in
    let e : c.loop-block.block ≡ n = omega (arith, c.loop-block-test.false, c.len-block-end.ensures, c.loop-block.auto.block-end, c.loop-block.auto.block, c.requires.first, c.requires.few) in
    turn-done c.args.terms.now c.args.region.now c.args.self.now c.args.turn c.args.first c.loop-block.terms c.loop-block.self c.loop-block.block c.loop-block.invariant
    (record { places = c.loop-block.self.places; ahead = c.turn.new.self; insts = c.loop-block.self.insts; rows = c.loop-block.self.rows; sources = c.loop-block.self.sources }) n e
    c.in_ok-turn.ensures.here c.in_ok-turn.ensures.next refl refl refl refl

pub returns-in_err-treat_block-clause-kept : goal.returns-in_err-treat_block-clause-kept
returns-in_err-treat_block-clause-kept c = grows_on c.args.terms.now c.loop-block.terms c.treat_block.new.terms c.loop-block.invariant.grows c.treat_block.ensures.kept

pub returns-clause-kept : goal.returns-clause-kept
returns-clause-kept c = c.loop-block.invariant.grows

pub returns-in_err-turn-clause-kept : goal.returns-in_err-turn-clause-kept
returns-in_err-turn-clause-kept c = c.loop-block.invariant.grows

pub returns-in_err-turn-clause-cause : goal.returns-in_err-turn-clause-cause
returns-in_err-turn-clause-cause c =
    let p = err_from_is_err_and c.from_residual-in_err-turn.result c.from_residual-in_err-turn.ensures.1 in
    rw (p.1, p.2) (stops-memory (turns_at c.args.terms.now c.args.region.now c.args.self.now c.args.turn c.args.first) c.args.region.now (places_of c.args.turn (length c.args.region.now.flat.now.blocks)) OutOfMemory refl)
