use Rattle.std.proofs.Common.{◌∙◌, ap, subst}
use Rattle.lh_term.proofs.Swaps.{grows_on}
use Rattle.lh_shape.specs.ByIds.{parts_on, drives_at, later_drives}
use Rattle.lh_shape.specs.Answers.{AreRegisters}
use Rattle.lh_shape.specs.declared.kinds.Shape.TheVariants as kind
use Rattle.lh_shape.specs.declared.shape.Registers.{Registers}
use Rattle.lh_region_joins.proofs.Conditions.{grows-none}
use Rattle.lh_shape.proofs.Merged.{drives-fit-grown, drives-at-grown}
use Rattle.lh_shape.proofs.RegisterShapes.{shape-by, conditions-left, conditions-shape}
use Rattle.lh_shape.proofs.shape.by_conditions.Goals as goal

pub by_target-requires : goal.by_target-requires
by_target-requires c = drives-fit-grown c.args.terms.now c.later_registers.new.terms c.args.regions.now.first.drives c.later_registers.ensures.kept c.requires.fits.first

pub returns-in_ok-shape-in-Rows-clause-is : goal.returns-in_ok-shape-in-Rows-clause-is
returns-in_ok-shape-in-Rows-clause-is c =
    let ns = c.args.terms.now in let r = c.args.regions.now in
    let mid = c.later_registers.new.terms in let new = c.by_target.new.terms in
    let on = c.in_ok-waited.waited in
    λ x h.
    shape-by ns r x h new c.in_ok-shape-in-Rows.shape c.requires.later c.requires.none
    (conditions-shape ns r x h mid new on c.in-Rows.rows c.in_ok-shape-in-Rows.shape (c.in_ok-waited.ensures ∙ ap parts_on c.as_slice.ensures)
    (drives-at-grown ns mid r.first.drives c.later_registers.ensures.kept c.requires.fits.first) c.by_target.ensures.kept
    (subst (λ (z : Registers). AreRegisters mid on (drives_at ns (later_drives r)) z) c.in-Rows.is c.in_ok-rows.ensures.are) c.in_ok-shape-in-Rows.ensures.is)

pub returns-in-Left-clause-is : goal.returns-in-Left-clause-is
returns-in-Left-clause-is c =
    let ns = c.args.terms.now in let r = c.args.regions.now in
    let mid = c.later_registers.new.terms in
    let on = c.in_ok-waited.waited in
    λ x h.
    shape-by ns r x h mid (kind.Left c.in-Left.reason) c.requires.later c.requires.none
    (conditions-left ns r x h mid on c.in-Left.reason (c.in_ok-waited.ensures ∙ ap parts_on c.as_slice.ensures)
    (subst (λ (z : Registers). AreRegisters mid on (drives_at ns (later_drives r)) z) c.in-Left.is c.in_ok-rows.ensures.are))

pub returns-in_err-rows-clause-kept : goal.returns-in_err-rows-clause-kept
returns-in_err-rows-clause-kept c = c.later_registers.ensures.kept

pub returns-in-Left-clause-kept : goal.returns-in-Left-clause-kept
returns-in-Left-clause-kept c = c.later_registers.ensures.kept

pub returns-in_err-shape-in-Rows-clause-kept : goal.returns-in_err-shape-in-Rows-clause-kept
returns-in_err-shape-in-Rows-clause-kept c = grows_on c.args.terms.now c.later_registers.new.terms c.by_target.new.terms c.later_registers.ensures.kept c.by_target.ensures.kept

pub returns-in_ok-shape-in-Rows-clause-kept : goal.returns-in_ok-shape-in-Rows-clause-kept
returns-in_ok-shape-in-Rows-clause-kept c = grows_on c.args.terms.now c.later_registers.new.terms c.by_target.new.terms c.later_registers.ensures.kept c.by_target.ensures.kept

pub returns-in_err-waited-clause-kept : goal.returns-in_err-waited-clause-kept
returns-in_err-waited-clause-kept c = grows-none c.args.terms.now
