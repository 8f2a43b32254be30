use Rattle.std.proofs.Common.{◌≡◌, List, map, ◌∙◌}
use Rattle.std.proofs.lemmas.Result.{IfOk-weaker}
use Rattle.lh_types.specs.declared.part.Range.{Range}
use Rattle.lh_unit.specs.Arena.{naming, table_at, kind_at, unit_text_at}
use Rattle.lh_unit.specs.ById.{inst_line_text}
use Rattle.lh_unit.specs.Hierarchy.{static_held, probed_parts}
use Rattle.lh_elab.specs.declared.probes.Probe.{Probe}
use Rattle.lh_elab_plan.specs.Plans.{AreRangesOf}
use Rattle.lh_elab.specs.Probed.{above, probed_in}
use Rattle.lh_elab_plan.proofs.PlanSteps.{insts-in}
use Rattle.lh_elab.proofs.EntityProbes.{entity-probes, in-each}
use Rattle.lh_elab.proofs.probes.entity_probes.Goals as goal

pub probes_in-requires-clause-insts : goal.probes_in-requires-clause-insts
probes_in-requires-clause-insts c = insts-in c.args.m.now c.args.unit.0 c.requires.arena c.requires.unit c.requires.entity c.insts-insts.result.now c.insts-insts.ensures.insts

pub returns : goal.returns
returns c =
    let m = c.args.m.now in
    let u = c.args.unit.0 in
    let is = c.insts-insts.result.now in
    let read = λ (args sigs : List Range) (ps : List Probe). map (above args sigs) ps ≡ probed_parts (static_held (unit_text_at m u) args sigs) (map (inst_line_text (naming m u) (table_at m u)) is) in
    let senses = λ (args sigs : List Range) (ps : List Probe). map (above args sigs) ps ≡ probed_in (kind_at m u) (unit_text_at m u) args sigs in
    in-each c.probes_in.result (AreRangesOf (unit_text_at m u)) senses
    (λ args sigs w.
    IfOk-weaker c.probes_in.result (read args sigs) (senses args sigs)
    (λ ps q. q ∙ entity-probes m u c.requires.arena c.requires.unit c.requires.entity args sigs is c.insts-insts.ensures.insts)
    (c.probes_in.ensures args sigs (static_held (unit_text_at m u) args sigs) (c.in_ok-statics.ensures.follows args sigs w)))
