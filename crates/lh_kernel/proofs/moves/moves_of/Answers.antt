use Rattle.std.proofs.Common.{length, refl, ◌+◌, Vec, take, sym, subst}
use Rattle.std.proofs.lemmas.Option.{slice_get_read, slice_get_within}
use Rattle.std.specs.Global.{Global}
use Rattle.lh_kernel_states.specs.declared.state.InstState.{InstState}
use Rattle.lh_unit.proofs.Lists.{Each-item}
use Rattle.lh_kernel.specs.Moves.{IsMove, SensesFit, SensesAsBefore}
use Rattle.lh_kernel.specs.declared.noted.Move.{Move}
use Rattle.lh_kernel.proofs.ActivationMoves.{AreKnownMoves, moves_none, moves_next, moves_still, moves_all, read_item, left_read, entered_read}
use Rattle.lh_kernel.proofs.moves.moves_of.Goals as goal
use Rattle.lh_kernel.proofs.moves.moves_of.Goals.{then-not-senses_as_before+in_ok-move_of+in_ok-push, else-not-senses_as_before}

pub loop-done-init : goal.loop-done-init
loop-done-init c = moves_none c.args.design.now.signals.items c.args.probes.now c.args.states.now c.new-moves.result.items c.new-moves.ensures.items

pub loop-done-preserved : goal.loop-done-preserved
loop-done-preserved c =
    let signals = c.args.design.now.signals.items in
    let probes = c.args.probes.now in
    let states = c.args.states.now in
    let x = c.done-item.result in
    let r = read_item signals probes states (length c.args.design.now.init) c.args.acts.now c.loop-done.done-index x c.index-probes-k.result
    c.index-states-k.result c.loop-done-test.true c.done-item.is c.requires.fit in
    let is_probed = slice_get_read probes (length probes) x.instance c.index-probes-k.result refl r.in_probes c.index-probes-k.is in
    let is_kept = slice_get_read states (length states) x.instance c.index-states-k.result refl r.in_states c.index-states-k.is in
    let P : Vec Move Global → Type 0 = λ v. AreKnownMoves signals probes states (take (c.loop-done.done-index + 1) c.args.acts.now) v.items in
    elim c.if-not-senses_as_before.branch [
      | then-not-senses_as_before+in_ok-move_of+in_ok-push w ↦
          subst P (sym w.moves-is)
          (moves_next signals probes states c.args.acts.now c.loop-done.done-index x c.loop-done.moves.items w.push.new.self.items
          w.in_ok-move_of.field-0 c.loop-done-test.true c.done-item.is c.loop-done.invariant
          (record {
            probed = c.index-probes-k.result;
            state = c.index-states-k.result;
            is_probed = is_probed;
            is_kept = is_kept;
            moves =
                subst (λ (s : InstState). IsMove signals c.index-probes-k.result x.instance c.index-states-k.result s w.in_ok-move_of.field-0)
                c.next-new.ensures w.in_ok-move_of.ensures;
          }) w.in_ok-push.ensures.items)
      | else-not-senses_as_before w ↦
          subst P (sym w.moves-is)
          (moves_still signals probes states c.args.acts.now c.loop-done.done-index x c.loop-done.moves.items c.index-probes-k.result
          c.index-states-k.result c.loop-done-test.true c.done-item.is c.loop-done.invariant is_probed is_kept
          (subst (λ (s : InstState). SensesAsBefore c.index-states-k.result s) c.next-new.ensures
          (c.senses_as_before.ensures w.if-not-senses_as_before.false)))
    ]

pub returns-clause-moves : goal.returns-clause-moves
returns-clause-moves c = (moves_all c.args.design.now.signals.items c.args.probes.now c.args.states.now c.args.acts.now c.loop-done.done-index
    c.loop-done.moves.items c.loop-done-test.false c.loop-done.invariant).0

pub returns-clause-known : goal.returns-clause-known
returns-clause-known c = (moves_all c.args.design.now.signals.items c.args.probes.now c.args.states.now c.args.acts.now c.loop-done.done-index
    c.loop-done.moves.items c.loop-done-test.false c.loop-done.invariant).1

pub move_of-requires-clause-left : goal.move_of-requires-clause-left
move_of-requires-clause-left c =
    let r = read_item c.args.design.now.signals.items c.args.probes.now c.args.states.now (length c.args.design.now.init) c.args.acts.now c.loop-done.done-index
    c.done-item.result c.index-probes-k.result c.index-states-k.result c.loop-done-test.true c.done-item.is c.requires.fit in
    left_read c.args.design.now.signals.items c.args.probes.now c.args.states.now (length c.args.design.now.init) c.done-item.result c.index-probes-k.result c.index-states-k.result r
    c.index-probes-k.is c.index-states-k.is

pub move_of-requires-clause-entered : goal.move_of-requires-clause-entered
move_of-requires-clause-entered c =
    let r = read_item c.args.design.now.signals.items c.args.probes.now c.args.states.now (length c.args.design.now.init) c.args.acts.now c.loop-done.done-index
    c.done-item.result c.index-probes-k.result c.index-states-k.result c.loop-done-test.true c.done-item.is c.requires.fit in
    entered_read c.args.design.now.signals.items c.args.probes.now c.args.states.now (length c.args.design.now.init) c.done-item.result c.index-probes-k.result c.index-states-k.result
    c.next-new.result.now r c.index-probes-k.is c.next-new.ensures

pub bounds-probes-k : goal.bounds-probes-k
bounds-probes-k c =
    let f = Each-item (SensesFit (length c.args.design.now.init) c.args.probes.now c.args.states.now) c.args.acts.now c.loop-done.done-index c.done-item.result
    c.requires.fit c.loop-done-test.true c.done-item.is in
    slice_get_within c.args.probes.now c.done-item.result.instance f.probed f.is_probed

pub bounds-states-k : goal.bounds-states-k
bounds-states-k c =
    let f = Each-item (SensesFit (length c.args.design.now.init) c.args.probes.now c.args.states.now) c.args.acts.now c.loop-done.done-index c.done-item.result
    c.requires.fit c.loop-done-test.true c.done-item.is in
    slice_get_within c.args.states.now c.done-item.result.instance f.state f.is_kept
