use Rattle.std.proofs.Common.{sym, ◌∙◌}
use Rattle.lh_args.proofs.WatchTitles.{no_titles}
use Rattle.lh_args.proofs.command.TitlesIterator.next.Goals as goal

pub returns-clause-steps : goal.returns-clause-steps
returns-clause-steps c =
    let none = no_titles c.loop-setting.self.words.now c.in_default.ensures.none in
    (sym c.loop-setting.invariant ∙ none, none)
