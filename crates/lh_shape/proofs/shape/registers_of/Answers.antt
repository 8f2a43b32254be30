use Rattle.std.proofs.Common.{◌+◌, Bool, drop, subst, sym}
use Rattle.std.proofs.lemmas.List.{drop_all}
use Rattle.lh_unit.proofs.Lists.{drop-item}
use Rattle.lh_term.proofs.Swaps.{grows_on}
use Rattle.lh_shape.specs.ByIds.{drives_at}
use Rattle.lh_shape.specs.Answers.{AddsFound}
use Rattle.lh_shape.specs.declared.shape.Added.{Added}
use Rattle.lh_shape.specs.declared.shape.Added.TheVariants as added
use Rattle.lh_shape.proofs.RegisterShapes.{RegistersSoFar, registers-none, row-fits, found-fits, registers-row, registers-hide, registers-many, registers-end, registers-hidden}
use Rattle.lh_shape.proofs.shape.registers_of.Goals as goal
use Rattle.lh_shape.proofs.shape.registers_of.Goals.{in-Row, in-Hidden}

pub found_for-found-requires-clause-bit : goal.found_for-found-requires-clause-bit
found_for-found-requires-clause-bit c =
    let all = c.args.drives.now in let i = c.loop-drive.drive-index in let d = c.drive-item.result in
    let fits = row-fits c.args.terms.now c.loop-drive.terms c.loop-drive.terms c.args.waited.now (drives_at c.args.terms.now all) c.loop-drive.is_hidden c.loop-drive.rows c.loop-drive.rows (drop i all)
    (drop (i + 1) all) d
    (drop-item all i d c.loop-drive-test.true c.drive-item.is) c.loop-drive.invariant.0 in
    fits.cond.cond.type

pub returns-in-TooMany-clause-are : goal.returns-in-TooMany-clause-are
returns-in-TooMany-clause-are c =
    let all = c.args.drives.now in let i = c.loop-drive.drive-index in let d = c.drive-item.result in
    let new = c.found_for-found.new.terms in let more = c.add_registers.new.rows in let on = c.args.waited.now in let found = c.found_for-found.result in
    let split = drop-item all i d c.loop-drive-test.true c.drive-item.is in
    registers-many c.args.terms.now c.loop-drive.terms new on (drives_at c.args.terms.now all) c.loop-drive.is_hidden c.loop-drive.rows more (drop i all) (drop (i + 1) all) d split
    c.loop-drive.invariant.0
    (found-fits c.args.terms.now c.loop-drive.terms new on (drives_at c.args.terms.now all) c.loop-drive.is_hidden c.loop-drive.rows more (drop i all) (drop (i + 1) all) d split
    c.loop-drive.invariant.0 found added.TooMany c.found_for-found.ensures.kept c.found_for-found.ensures.finds c.found_for-found.ensures.same
    (subst (λ (a : Added). AddsFound d found.triggers c.loop-drive.rows a more) c.in-TooMany.is c.in_ok-add_registers.ensures))

pub loop-drive-preserved : goal.loop-drive-preserved
loop-drive-preserved c =
    let all = c.args.drives.now in let i = c.loop-drive.drive-index in let d = c.drive-item.result in
    let new = c.found_for-found.new.terms in let more = c.add_registers.new.rows in let on = c.args.waited.now in let found = c.found_for-found.result in
    let split = drop-item all i d c.loop-drive-test.true c.drive-item.is in
    let fits = found-fits c.args.terms.now c.loop-drive.terms new on (drives_at c.args.terms.now all) c.loop-drive.is_hidden c.loop-drive.rows more (drop i all) (drop (i + 1) all) d split
    c.loop-drive.invariant.0 in
    elim c.match-branch-2.branch [
      | in-Row w ↦ (
        subst (λ (b : Bool). RegistersSoFar c.args.terms.now new on (drives_at c.args.terms.now all) b more (drop (i + 1) all)) (sym w.is_hidden-is)
            (registers-row c.args.terms.now c.loop-drive.terms new on (drives_at c.args.terms.now all) c.loop-drive.is_hidden c.loop-drive.rows more (drop i all) (drop (i + 1) all) d split
            c.loop-drive.invariant.0 c.found_for-found.ensures.kept
            (fits found added.Row c.found_for-found.ensures.kept c.found_for-found.ensures.finds c.found_for-found.ensures.same
            (subst (λ (a : Added). AddsFound d found.triggers c.loop-drive.rows a more) w.in-Row.is c.in_ok-add_registers.ensures))),
        c.found_for-found.ensures.finds,
      )
      | in-Hidden w ↦ (
        subst (λ (b : Bool). RegistersSoFar c.args.terms.now new on (drives_at c.args.terms.now all) b more (drop (i + 1) all)) (sym w.is_hidden-is)
            (registers-hide c.args.terms.now c.loop-drive.terms new on (drives_at c.args.terms.now all) c.loop-drive.is_hidden c.loop-drive.rows more (drop i all) (drop (i + 1) all) d split
            c.loop-drive.invariant.0 c.found_for-found.ensures.kept
            (fits found added.Hidden c.found_for-found.ensures.kept c.found_for-found.ensures.finds c.found_for-found.ensures.same
            (subst (λ (a : Added). AddsFound d found.triggers c.loop-drive.rows a more) w.in-Hidden.is c.in_ok-add_registers.ensures))),
        c.found_for-found.ensures.finds,
      )
    ]

pub loop-drive-init : goal.loop-drive-init
loop-drive-init c = (registers-none c.args.terms.now c.args.waited.now c.new-rows.result c.args.drives.now c.new-rows.ensures c.requires, tt)

pub found_for-found-requires-clause-is_in : goal.found_for-found-requires-clause-is_in
found_for-found-requires-clause-is_in c =
    let all = c.args.drives.now in let i = c.loop-drive.drive-index in let d = c.drive-item.result in
    let fits = row-fits c.args.terms.now c.loop-drive.terms c.loop-drive.terms c.args.waited.now (drives_at c.args.terms.now all) c.loop-drive.is_hidden c.loop-drive.rows c.loop-drive.rows (drop i all)
    (drop (i + 1) all) d
    (drop-item all i d c.loop-drive-test.true c.drive-item.is) c.loop-drive.invariant.0 in
    fits.cond.is_in

pub found_for-found-requires-clause-last : goal.found_for-found-requires-clause-last
found_for-found-requires-clause-last c = c.loop-drive.invariant.1

pub returns-in-TooMany-clause-kept : goal.returns-in-TooMany-clause-kept
returns-in-TooMany-clause-kept c = grows_on c.args.terms.now c.loop-drive.terms c.found_for-found.new.terms c.loop-drive.invariant.0.grows c.found_for-found.ensures.kept

pub returns-in_err-add_registers-clause-kept : goal.returns-in_err-add_registers-clause-kept
returns-in_err-add_registers-clause-kept c = grows_on c.args.terms.now c.loop-drive.terms c.found_for-found.new.terms c.loop-drive.invariant.0.grows c.found_for-found.ensures.kept

pub returns-then-is_hidden-clause-kept : goal.returns-then-is_hidden-clause-kept
returns-then-is_hidden-clause-kept c = c.loop-drive.invariant.0.grows

pub returns-clause-kept : goal.returns-clause-kept
returns-clause-kept c = c.loop-drive.invariant.0.grows

pub returns-then-is_hidden-clause-are : goal.returns-then-is_hidden-clause-are
returns-then-is_hidden-clause-are c =
    let all = c.args.drives.now in let i = c.loop-drive.drive-index in
    registers-hidden c.args.terms.now c.loop-drive.terms c.args.waited.now (drives_at c.args.terms.now all) c.loop-drive.is_hidden c.loop-drive.rows (drop i all) (drop_all i all c.loop-drive-test.false)
    c.if-is_hidden.true c.loop-drive.invariant.0

pub returns-clause-are : goal.returns-clause-are
returns-clause-are c =
    let all = c.args.drives.now in let i = c.loop-drive.drive-index in
    registers-end c.args.terms.now c.loop-drive.terms c.args.waited.now (drives_at c.args.terms.now all) c.loop-drive.is_hidden c.loop-drive.rows (drop i all) (drop_all i all c.loop-drive-test.false)
    c.if-is_hidden.false c.loop-drive.invariant.0
