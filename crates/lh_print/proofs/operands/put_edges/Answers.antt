use Rattle.std.proofs.Common.{map, refl, ap, get_or}
use Rattle.std.proofs.lemmas.List.{drop_more, at_drop_all}
use Rattle.lh_unit.specs.Arena.{naming, sizes}
use Rattle.lh_unit.specs.Naming.{edge_text}
use Rattle.lh_unit.specs.Within.{EdgeWithin}
use Rattle.lh_unit.specs.Canon.{edge}
use Rattle.lh_unit.specs.declared.inst.PhiEdge.{PhiEdge}
use Rattle.lh_unit.proofs.Lists.{Each-at}
use Rattle.lh_text_buffer.proofs.Parts.{all-left, none-left}
use Rattle.lh_print.proofs.Joined.{in_row, in_row-first, row_step}
use Rattle.lh_print.proofs.operands.put_edges.Goals as goal

-- what stands behind the last edge
abbrev none : PhiEdge
none = record { value = record { 0 = 0 }; block = record { 0 = 0 } }

pub loop-e-init : goal.loop-e-init
loop-e-init c = all-left _ _ _ (in_row-first (map edge (map (edge_text (naming c.args.view.module.now c.args.view.unit.0)) c.args.edges.now)))

pub put_edge-requires : goal.put_edge-requires
put_edge-requires c = record {
  placed = Each-at (EdgeWithin (sizes c.args.view.module.now c.args.view.unit.0)) c.args.edges.now c.loop-e.e-index none c.requires.placed c.loop-e-test.true;
}

pub loop-e-preserved : goal.loop-e-preserved
loop-e-preserved c =
    let f = naming c.args.view.module.now c.args.view.unit.0 in
    row_step _ _ _ _ c.loop-e.before.now _ (edge (edge_text f (get_or c.args.edges.now c.loop-e.e-index none))) _ _
    (ap (λ l. map edge (map (edge_text f) l)) (drop_more c.args.edges.now c.loop-e.e-index none c.loop-e-test.true)) refl c.put_edge.ensures c.loop-e.invariant

pub returns : goal.returns
returns c = none-left _ _ _ _ (at_drop_all (λ l. in_row c.loop-e.before.now (map edge (map (edge_text (naming c.args.view.module.now c.args.view.unit.0)) l))) c.args.edges.now c.loop-e.e-index c.loop-e-test.false) c.loop-e.invariant
