use Rattle.std.proofs.Common.{◌++◌, map, subst}
use Rattle.std.specs.List.{flat_map}
use Rattle.lh_text_buffer.specs.Writing.{Writes}
use Rattle.lh_text_buffer.proofs.Parts.{two-written}
use Rattle.lh_types.specs.Pictures.{showing_of}
use Rattle.lh_wave.specs.TraceText.{instant_line, change_line, outcome_line}
use Rattle.lh_wave.proofs.trace.put_frame.Goals as goal

pub returns : goal.returns
returns c =
    let changes = flat_map change_line (map showing_of c.args.f.now.changes) in
    two-written _ _ _ (instant_line c.args.f.now.at ++ changes) (flat_map outcome_line c.args.f.now.outcomes)
    (two-written _ _ _ (instant_line c.args.f.now.at) changes c.put_instant.ensures
    (subst (λ cs. Writes c.put_instant.new.to c.put_changes.new.to (flat_map change_line (map showing_of cs))) c.as_slice.ensures c.put_changes.ensures))
    (subst (λ os. Writes c.put_changes.new.to c.put_outcomes.new.to (flat_map outcome_line os)) c.as_slice-2.ensures c.put_outcomes.ensures)
