use Rattle.std.specs.Prelude.{◌++◌, codes, decimal}
use Rattle.lh_text_buffer.proofs.Parts.{two-written}
use Rattle.lh_wave.proofs.ending.put_runaway.Goals as goal

pub returns : goal.returns
returns c = two-written _ _ _ (codes "end runaway " ++ decimal c.args.instance) (codes "\n") (two-written _ _ _ (codes "end runaway ") (decimal c.args.instance) c.put.ensures c.put_number.ensures) c.put-2.ensures
