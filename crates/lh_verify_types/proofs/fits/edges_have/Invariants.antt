use Rattle.std.proofs.Common.{◌≡◌, map, drop}
use Rattle.std.specs.List.{list_all}
use Rattle.lh_unit.specs.Naming.{edge_text}
use Rattle.lh_verify_types.specs.Fitting.{edge_fits}
use Rattle.lh_verify_values.specs.Facts.{text_in, naming_in}
use Rattle.lh_verify_types.proofs.fits.edges_have.Given as goal

abbrev pub invariant-loop-edge : goal.invariant-loop-edge
invariant-loop-edge l = let p = edge_fits (text_in l.scope) l.of.ty.now in
    list_all p (map (edge_text (naming_in l.scope)) (drop l.edge-index l.edges)) ≡ list_all p (map (edge_text (naming_in l.scope)) l.edges)
