use Rattle.std.proofs.Common.{◌≡◌, arith, length, Option, refl, sym, subst, ◌∙◌}
use Rattle.std.specs.Option.{IsSomeAnd}
use Rattle.std.proofs.lemmas.Bool.{false≢true}
use Rattle.lh_types.specs.Types.{bit_count}
use Rattle.lh_design.specs.declared.Signal.{Signal}
use Rattle.lh_kernel_changes.proofs.Filled.{there, fits_there}
use Rattle.lh_kernel_changes.proofs.Same.{stays_by_len, row_differs}
use Rattle.lh_kernel_changes.proofs.differ.changed_part.Goals as goal

pub bits-len-requires : goal.bits-len-requires
bits-len-requires c =
    (fits_there (length c.args.design.now.init) c.args.design.now.signals.items c.signals.result.now c.args.signal c.index-signals-signal.result
    c.requires.fill c.signals.ensures c.requires.known c.index-signals-signal.is).0

pub same_part-requires-clause-within : goal.same_part-requires-clause-within
same_part-requires-clause-within c =
    let f = fits_there (length c.args.design.now.init) c.args.design.now.signals.items c.signals.result.now c.args.signal
    c.index-signals-signal.result c.requires.fill c.signals.ensures c.requires.known c.index-signals-signal.is in
    omega (arith, f.1, c.requires.in_old)

pub same_part-requires-clause-other_within : goal.same_part-requires-clause-other_within
same_part-requires-clause-other_within c =
    let f = fits_there (length c.args.design.now.init) c.args.design.now.signals.items c.signals.result.now c.args.signal
    c.index-signals-signal.result c.requires.fill c.signals.ensures c.requires.known c.index-signals-signal.is in
    omega (arith, f.1, c.requires.in_now)

pub returns-then-same_part-clause-stays : goal.returns-then-same_part-clause-stays
returns-then-same_part-clause-stays c = λ none.
    let e = there c.args.design.now.signals.items c.signals.result.now c.args.signal c.index-signals-signal.result c.signals.ensures c.requires.known c.index-signals-signal.is in
    stays_by_len (length c.args.design.now.init) c.args.design.now.signals.items c.args.signal c.bits-len.result c.index-signals-signal.result
    c.args.old.now c.args.now.now c.requires.fill e c.requires.in_old c.requires.in_now c.bits-len.ensures (c.same_part.ensures.0 c.if-same_part.true)

pub returns-else-same_part-clause-differs : goal.returns-else-same_part-clause-differs
returns-else-same_part-clause-differs c =
    let f = fits_there (length c.args.design.now.init) c.args.design.now.signals.items c.signals.result.now c.args.signal
    c.index-signals-signal.result c.requires.fill c.signals.ensures c.requires.known c.index-signals-signal.is in
    row_differs c.bits-len.result c.index-signals-signal.result.lo c.args.old.now c.args.now.now
    (omega (arith, f.1, c.requires.in_old, c.bits-len.ensures)) (omega (arith, f.1, c.requires.in_now, c.bits-len.ensures))
    (λ e. false≢true (sym c.if-same_part.false ∙ c.same_part.ensures.1 e))

pub returns-else-same_part-clause-part : goal.returns-else-same_part-clause-part
returns-else-same_part-clause-part c =
    let s = c.index-signals-signal.result in
    let e = there c.args.design.now.signals.items c.signals.result.now c.args.signal s c.signals.ensures c.requires.known c.index-signals-signal.is in
    subst (λ (o : Option Signal). IsSomeAnd o (λ (x : Signal). (s.lo ≡ x.lo) × (c.bits-len.result ≡ bit_count x.ty))) (sym e) (refl, c.bits-len.ensures)
