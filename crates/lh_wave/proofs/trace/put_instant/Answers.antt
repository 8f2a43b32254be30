use Rattle.std.specs.Prelude.{◌++◌, codes}
use Rattle.lh_text_buffer.proofs.Parts.{two-written}
use Rattle.lh_wave.specs.ValueText.{moment_text}
use Rattle.lh_wave.proofs.trace.put_instant.Goals as goal

pub returns : goal.returns
returns c =
    let moment = moment_text c.args.at.fs c.args.at.delta c.args.at.eps in
    two-written _ _ _ (codes "@ " ++ moment) (codes "\n") (two-written _ _ _ (codes "@ ") moment c.put.ensures c.put_moment.ensures) c.put-2.ensures
