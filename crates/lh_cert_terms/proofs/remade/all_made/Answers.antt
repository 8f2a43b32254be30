use Rattle.std.proofs.Common.{nat_eq}
use Rattle.std.specs.HashMap as hash
use Rattle.lh_term.proofs.Swaps.{rename_there_at, rename_next_at}
use Rattle.lh_cert_terms.proofs.remade.all_made.Goals as goal

pub made_at-y-requires : goal.made_at-y-requires
made_at-y-requires c = rename_there_at (hash.get nat_eq c.args.made.now) _ c.loop-left.left.now _ (record { 0 = 0 }) c.loop-left.invariant c.in-len1-up.len_at_least

pub loop-left-preserved : goal.loop-left-preserved
loop-left-preserved c =
    rename_next_at (hash.get nat_eq c.args.made.now) _ c.loop-left.left.now _ _ (record { 0 = 0 }) c.made_at-y.result c.loop-left.invariant c.in-len1-up.len_at_least c.made_at-y.ensures
    c.in_ok-push.ensures.ok
