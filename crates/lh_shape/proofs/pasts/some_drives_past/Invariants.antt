use Rattle.std.proofs.Common.{◌≡◌, drop}
use Rattle.std.specs.List.{list_any}
use Rattle.lh_shape.specs.ByIds.{drives_past, DrivesFit}
use Rattle.lh_shape.proofs.pasts.some_drives_past.Given as goal

abbrev pub invariant-loop-drive : goal.invariant-loop-drive
invariant-loop-drive l = record {
  fit : DrivesFit l.terms (drop l.drive-index l.drives);
  same : list_any (drives_past l.terms) (drop l.drive-index l.drives) ≡ list_any (drives_past l.terms) l.drives;
}
