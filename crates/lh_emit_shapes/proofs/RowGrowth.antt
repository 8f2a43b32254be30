-- Drives and rows of registers by ids, as an arena grows.
use Rattle.std.proofs.Common.{List, [], ◌∷◌, sym, append-nil}
use Rattle.lh_term.specs.Arena.{Grows}
use Rattle.lh_term.specs.declared.term.TermNode.{TermNode}
use Rattle.lh_term.proofs.Swaps.{stands_grown}
use Rattle.lh_edge.specs.Triggers.{TriggerTree, EdgeRowTree}
use Rattle.lh_edge.specs.Answers.{IsTrigger, AreTriggers}
use Rattle.lh_edge.specs.declared.triggers.EdgeRow.{EdgeRow}
use Rattle.lh_edge.specs.declared.triggers.Trigger.{Trigger}
use Rattle.lh_region_def.specs.Rows.{Drive}
use Rattle.lh_region.specs.Stands.{IsDrive, AreDrives}
use Rattle.lh_region.specs.declared.rows.DriveRow.{DriveRow}
use Rattle.lh_shape.specs.Answers.{IsEdgeRow, AreEdgeRows}

module _ (old new : List TermNode) (g : Grows old new) where
  pub drive-grown : (d : DriveRow) (x : Drive) → IsDrive old d x → IsDrive new d x
  drive-grown d x h = record {
    cond = stands_grown old new g d.cond x.cond h.cond;
    part = h.part;
    value = stands_grown old new g d.value x.value h.value;
    delay = stands_grown old new g d.delay x.delay h.delay;
  }

  pub drives-grown : (ds : List DriveRow) (xs : List Drive) → AreDrives old ds xs → AreDrives new ds xs
  drives-grown [] [] h = tt
  drives-grown [] (x ∷ xs) h = absurd h
  drives-grown (d ∷ ds) [] h = absurd h
  drives-grown (d ∷ ds) (x ∷ xs) h = (drive-grown d x h.0, drives-grown ds xs h.1)

  pub trigger-grown : (t : Trigger) (x : TriggerTree) → IsTrigger old t x → IsTrigger new t x
  trigger-grown t x h = record { rise = h.rise; part = h.part; gate = stands_grown old new g t.gate x.gate h.gate }

  pub triggers-grown : (ts : List Trigger) (xs : List TriggerTree) → AreTriggers old ts xs → AreTriggers new ts xs
  triggers-grown [] [] h = tt
  triggers-grown [] (x ∷ xs) h = absurd h
  triggers-grown (t ∷ ts) [] h = absurd h
  triggers-grown (t ∷ ts) (x ∷ xs) h = (trigger-grown t x h.0, triggers-grown ts xs h.1)

  pub row-grown : (r : EdgeRow) (x : EdgeRowTree) → IsEdgeRow old r x → IsEdgeRow new r x
  row-grown r x h = record {
    part = h.part;
    value = stands_grown old new g r.value x.value h.value;
    delay = stands_grown old new g r.delay x.delay h.delay;
    triggers = triggers-grown r.triggers x.triggers h.triggers;
  }

  pub rows-grown : (rs : List EdgeRow) (xs : List EdgeRowTree) → AreEdgeRows old rs xs → AreEdgeRows new rs xs
  rows-grown [] [] h = tt
  rows-grown [] (x ∷ xs) h = absurd h
  rows-grown (r ∷ rs) [] h = absurd h
  rows-grown (r ∷ rs) (x ∷ xs) h = (row-grown r x h.0, rows-grown rs xs h.1)

pub grows-same : (ns : List TermNode) → Grows ns ns
grows-same ns = ([], sym (append-nil ns))
