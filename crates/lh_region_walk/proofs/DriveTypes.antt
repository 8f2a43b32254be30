-- Drives by ids that stand for typed ones are of the arena.
use Rattle.std.proofs.Common.{List, [], ◌∷◌, sym, subst}
use Rattle.lh_unit.specs.Within.{Each}
use Rattle.lh_term.specs.Tree.{Tree}
use Rattle.lh_term.specs.Arena.{Grows, trees, tree_at}
use Rattle.lh_term.specs.declared.part.Part.{Part}
use Rattle.lh_term.specs.declared.term.TermNode.{TermNode}
use Rattle.lh_region_def.specs.Rows as text
use Rattle.lh_region_def.specs.Right.{DriveTyped}
use Rattle.lh_region_def.specs.Typed.{IsOfType}
use Rattle.lh_region_joins.proofs.Conditions.{stands-condition, condition-grown}
use Rattle.lh_term.proofs.Swaps.{tree_grown, in_grown}
use Rattle.lh_region.specs.declared.rows.DriveRow.{DriveRow}
use Rattle.lh_region.specs.Stands.{IsDrive, AreDrives, DriveRowFits, DrivesFit}

drive-fits : (ns : List TermNode) (d : DriveRow) (x : text.Drive) → IsDrive ns d x → DriveTyped x → DriveRowFits ns d
drive-fits ns d x h t = record {
  cond = stands-condition ns d.cond x.cond h.cond t.cond;
  value_in = h.value.is_in;
  value = subst (λ (p : Part). IsOfType p.ty (tree_at (trees ns) d.value)) (sym h.part) (subst (λ (y : Tree). IsOfType x.part.ty y) (sym h.value.tree) t.value);
  delay_in = h.delay.is_in;
}

pub drives-fit : (ns : List TermNode) (ds : List DriveRow) (xs : List text.Drive) → AreDrives ns ds xs → Each DriveTyped xs → DrivesFit ns ds
drives-fit ns [] [] h t = tt
drives-fit ns [] (x ∷ xs) h t = absurd h
drives-fit ns (d ∷ ds) [] h t = absurd h
drives-fit ns (d ∷ ds) (x ∷ xs) h t = (drive-fits ns d x h.0 t.0, drives-fit ns ds xs h.1 t.1)

-- so they are as terms are made
pub fit-grown : (ns ms : List TermNode) (ds : List DriveRow) → Grows ns ms → DrivesFit ns ds → DrivesFit ms ds
fit-grown ns ms [] g h = tt
fit-grown ns ms (d ∷ ds) g h = (
  record {
    cond = condition-grown ns ms d.cond g h.0.cond;
    value_in = in_grown ns ms g d.value h.0.value_in;
    value = subst (IsOfType d.part.ty) (sym (tree_grown ns ms g d.value h.0.value_in)) h.0.value;
    delay_in = in_grown ns ms g d.delay h.0.delay_in;
  },
  fit-grown ns ms ds g h.1,
)
