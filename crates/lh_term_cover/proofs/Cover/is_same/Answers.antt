use Rattle.std.proofs.Common.{◌≡◌}
use Rattle.lh_term_cover.specs.Runs.{same_runs}
use Rattle.lh_term_cover.proofs.Sets.{told}
use Rattle.lh_term_cover.proofs.Cover.is_same.Goals as goal

pub returns : goal.returns
returns c = λ ps qs p q.
    let same : c.are_same.result ≡ same_runs c.args.self.now.runs.items c.args.other.now.runs.items = cc (c.as_slice.ensures.value, c.as_slice-2.ensures.value, c.are_same.ensures) in
    told c.args.self.now c.args.other.now ps qs c.are_same.result same p q
