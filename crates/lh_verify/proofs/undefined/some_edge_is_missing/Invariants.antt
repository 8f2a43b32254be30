use Rattle.std.proofs.Common.{◌≡◌, map, drop}
use Rattle.std.specs.List.{list_any}
use Rattle.lh_unit.specs.Naming.{edge_text}
use Rattle.lh_verify.specs.OperandTests.{edge_is_missing}
use Rattle.lh_verify_values.specs.Facts.{text_in, naming_in}
use Rattle.lh_verify.proofs.undefined.some_edge_is_missing.Given as goal

abbrev pub invariant-loop-edge : goal.invariant-loop-edge
invariant-loop-edge l = list_any (edge_is_missing (text_in l.scope)) (map (edge_text (naming_in l.scope)) (drop l.edge-index l.edges))
    ≡ list_any (edge_is_missing (text_in l.scope)) (map (edge_text (naming_in l.scope)) l.edges)
