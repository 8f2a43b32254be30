-- Writes by instants, as an activation or a pass hands them out.
pub use Rattle.lh_eval_wishes.specs.Grouped.{is_filled, FirstInstantIsLater, FirstBitIsAbove, BitsRise, IsGrouped, Apart}
