use Rattle.std.proofs.Common.{◌≡◌, drop}
use Rattle.std.specs.List.{list_any}
use Rattle.lh_shape.specs.ByIds.{delay_varies, DrivesFit}
use Rattle.lh_shape.proofs.reasons.some_delay_varies.Given as goal

abbrev pub invariant-loop-drive : goal.invariant-loop-drive
invariant-loop-drive l = record {
  fit : DrivesFit l.terms (drop l.drive-index l.drives);
  same : list_any (delay_varies l.terms) (drop l.drive-index l.drives) ≡ list_any (delay_varies l.terms) l.drives;
}
