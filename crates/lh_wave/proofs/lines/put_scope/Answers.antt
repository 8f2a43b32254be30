use Rattle.std.specs.Prelude.{◌++◌, codes}
use Rattle.lh_text_buffer.proofs.Parts.{two-written}
use Rattle.lh_wave.proofs.lines.put_scope.Goals as goal

pub returns : goal.returns
returns c = two-written _ _ _ (codes "$scope module " ++ c.args.label.now) (codes " $end\n") (two-written _ _ _ (codes "$scope module ") c.args.label.now c.put.ensures c.put-2.ensures) c.put-3.ensures
