use Rattle.std.proofs.Common.{◌∙◌}
use Rattle.lh_term.proofs.Values.{row_index}
use Rattle.lh_term.proofs.types.type_in_list.Goals as goal

pub returns-in_ok-copy-in-Some : goal.returns-in_ok-copy-in-Some
returns-in_ok-copy-in-Some c =
    let g = c.in-Some.ensures.lookup in
    c.in_ok-copy-in-Some.ensures ∙ g.1 ∙ row_index _ c.args.k _ g.3.0
