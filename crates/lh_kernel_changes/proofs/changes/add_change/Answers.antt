use Rattle.lh_kernel_changes.proofs.Shows.{value_of, toggled_by_len, change_added, no_change}
use Rattle.lh_kernel_changes.proofs.changes.add_change.Goals as goal

pub returns-then-toggled-eq0 : goal.returns-then-toggled-eq0
returns-then-toggled-eq0 c =
    no_change c.args.changes.now c.args.number c.toggled-toggled.result _ (value_of c.args.now.now c.args.signal.now) c.if-toggled-eq0.true
    (toggled_by_len c.args.signal.now c.toggled-toggled.result c.bits.result c.args.old.now c.args.now.now c.requires.data c.requires.in_old c.requires.in_now c.bits.ensures c.toggled-toggled.ensures)

pub returns : goal.returns
returns c =
    change_added c.args.changes.now c.push.new.self c.in_ok-change.change c.args.number c.toggled-toggled.result _ (value_of c.args.now.now c.args.signal.now) c.in_ok-push.ensures.ok
    c.in_ok-change.ensures
    (toggled_by_len c.args.signal.now c.toggled-toggled.result c.bits.result c.args.old.now c.args.now.now c.requires.data c.requires.in_old c.requires.in_now c.bits.ensures c.toggled-toggled.ensures)
    c.if-toggled-eq0.false
