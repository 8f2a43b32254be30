use Rattle.std.proofs.Common.{◌≡◌, ◌+◌, ◌≤◌, length, refl, sym, ◌∙◌, arith}
use Rattle.std.proofs.lemmas.Result.{err_from_is_err_and}
use Rattle.lh_region_def.specs.Regions.{max_turns}
use Rattle.lh_region_walk.proofs.Turned.{first-stops, turns-first, turns-can, turns-next, turns-stops, turns-done, turns-end}
use Rattle.lh_term.proofs.Swaps.{grows_on}
use Rattle.lh_region_walk.proofs.walk.Walk.treat_turns.Goals as goal

pub returns-in_err-treat_turn-clause-cause : goal.returns-in_err-treat_turn-clause-cause
returns-in_err-treat_turn-clause-cause c =
    let p = err_from_is_err_and c.from_residual.result c.from_residual.ensures.1 in
    rw (p.1, p.2) (first-stops c.args.terms.now c.args.region.now c.args.self.now c.args.first (length c.args.region.now.flat.now.blocks) c.in_err-treat_turn.field-0.0
    c.in_err-treat_turn.ensures.cause)

pub loop-turn-init : goal.loop-turn-init
loop-turn-init c =
    turns-first c.args.terms.now c.args.region.now c.args.self.now c.args.first (length c.args.region.now.flat.now.blocks) c.treat_turn.new.terms c.treat_turn.new.self c.treat_turn.ensures.kept
    c.in_ok-treat_turn.ensures.passed

pub returns-then-is_empty-clause-passed : goal.returns-then-is_empty-clause-passed
returns-then-is_empty-clause-passed c =
    let l : c.loop-turn.turn ≤ 257 = omega (arith, c.loop-turn-test.true, c.loop-turn.auto.turn-end) in
    turns-end c.args.terms.now c.args.region.now c.args.self.now c.args.first (length c.args.region.now.flat.now.blocks) c.loop-turn.terms c.loop-turn.self c.loop-turn.turn c.loop-turn.invariant l
    refl (sym c.is_empty.ensures ∙ c.if-is_empty.true)

pub treat_turn-requires-in-loop-turn-clause-turn : goal.treat_turn-requires-in-loop-turn-clause-turn
treat_turn-requires-in-loop-turn-clause-turn c =
    turns-can c.args.terms.now c.args.region.now c.args.self.now c.args.first (length c.args.region.now.flat.now.blocks) c.loop-turn.terms c.loop-turn.self c.loop-turn.turn c.loop-turn.invariant
    c.requires.turn

pub returns-in_err-treat_turn-2-clause-cause : goal.returns-in_err-treat_turn-2-clause-cause
returns-in_err-treat_turn-2-clause-cause c =
    let l : c.loop-turn.turn ≤ max_turns = omega (arith, c.loop-turn-test.true, c.loop-turn.auto.turn-end) in
    let p = err_from_is_err_and c.from_residual-in_err-treat_turn-2.result c.from_residual-in_err-treat_turn-2.ensures.1 in
    rw (p.1, p.2)
    (turns-stops c.args.terms.now c.args.region.now c.args.self.now c.args.first (length c.args.region.now.flat.now.blocks) c.loop-turn.terms c.loop-turn.self c.loop-turn.turn c.loop-turn.invariant
    c.in_err-treat_turn-2.field-0.0 l c.in_err-treat_turn-2.ensures.cause)

pub loop-turn-preserved : goal.loop-turn-preserved
loop-turn-preserved c =
    turns-next c.args.terms.now c.args.region.now c.args.self.now c.args.first (length c.args.region.now.flat.now.blocks) c.loop-turn.terms c.loop-turn.self c.loop-turn.turn c.loop-turn.invariant
    c.treat_turn-in-loop-turn.new.terms c.treat_turn-in-loop-turn.new.self (c.loop-turn.turn + 1) refl c.treat_turn-in-loop-turn.ensures.kept c.in_ok-treat_turn-2.ensures.passed

pub returns-clause-passed : goal.returns-clause-passed
returns-clause-passed c =
    let e : c.loop-turn.turn ≡ 257 = omega (arith, c.loop-turn-test.false, c.loop-turn.auto.turn-end, c.loop-turn.auto.turn) in
    turns-done c.args.terms.now c.args.region.now c.args.self.now c.args.first (length c.args.region.now.flat.now.blocks) c.loop-turn.terms c.loop-turn.self c.loop-turn.turn c.loop-turn.invariant e
    refl

pub returns-in_err-treat_turn-clause-kept : goal.returns-in_err-treat_turn-clause-kept
returns-in_err-treat_turn-clause-kept c = c.treat_turn.ensures.kept

pub returns-then-is_empty-clause-kept : goal.returns-then-is_empty-clause-kept
returns-then-is_empty-clause-kept c = c.loop-turn.invariant.grows

pub returns-in_err-treat_turn-2-clause-kept : goal.returns-in_err-treat_turn-2-clause-kept
returns-in_err-treat_turn-2-clause-kept c = grows_on c.args.terms.now c.loop-turn.terms c.treat_turn-in-loop-turn.new.terms c.loop-turn.invariant.grows c.treat_turn-in-loop-turn.ensures.kept

pub returns-clause-kept : goal.returns-clause-kept
returns-clause-kept c = c.loop-turn.invariant.grows
