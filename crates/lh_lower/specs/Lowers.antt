-- What `lower` answers: the lowered module, and a row for each process.
use Rattle.std.specs.Prelude.{◌≡◌, ◌<◌, List, [], ◌∷◌, ◌++◌, map}
use Rattle.std.specs.List.{flat_map}
use Rattle.lh_unit.specs.Arena.{Arena, IsArena, contents, item_text_at, unit_count}
use Rattle.lh_unit.specs.declared.inst.Item.{Item}
use Rattle.lh_unit.specs.Within.{Each}
use Rattle.lh_lower_def.specs.Lowering.{lowered, lowered_item, item_row, report}
use Rattle.lh_lower_def.specs.Report.{row_text}
use Rattle.lh_lower_def.specs.declared.report.ReportRow.{ReportRow}
use Rattle.lh_lower_copy.specs.Copying.{IsCopying}
use Rattle.lh_lower.specs.declared.lowering.Lowering.{Lowering}

-- The module is the lowered one, and the rows are its report.
pub record IsLowered (a b : Arena) (rows : List ReportRow) : Type 0 where
  pub says : contents b ≡ lowered (contents a)
  pub report : map (row_text a) rows ≡ report (contents a)
  pub within : Each (λ (r : ReportRow). r.unit.0 < unit_count a) rows

-- A module under construction: the items so far are lowered, and each process among them has its row.
pub record IsLowering (a : Arena) (l : Lowering) (seen : List Item) : Type 0 where
  pub sound : IsArena a
  pub from : l.from.now ≡ a
  pub flattens : l.flattener.m.now ≡ a
  pub copied : l.copying.from.now ≡ a
  pub copies : IsCopying a l.copying.to (map (lowered_item (contents a)) (map (item_text_at a) seen))
  pub report : map (row_text a) l.report ≡ flat_map (item_row (contents a)) (map (item_text_at a) seen)
  pub within : Each (λ (r : ReportRow). r.unit.0 < unit_count a) l.report

-- an item stands behind those that were lowered
pub record ItemIsBehind (a : Arena) (seen : List Item) (i : Item) : Type 0 where
  pub rest : List Item
  pub split : a.items ≡ seen ++ i ∷ rest

-- the item is the next one
pub record IsNextItem (l : Lowering) (i : Item) : Type 0 where
  pub seen : List Item
  pub lowering : IsLowering l.from.now l seen
  pub behind : ItemIsBehind l.from.now seen i

-- The item is lowered too.
abbrev pub LowersItem : Lowering → Item → Lowering → Type 0
LowersItem l i m = (seen : List Item) → IsLowering l.from.now l seen → ItemIsBehind l.from.now seen i → IsLowering l.from.now m (seen ++ i ∷ [])
