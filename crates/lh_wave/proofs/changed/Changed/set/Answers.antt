use Rattle.std.proofs.Common.{refl}
use Rattle.lh_wave.proofs.ChangedLemmas.{noted_more}
use Rattle.lh_wave.proofs.changed.Changed.set.Goals as goal

pub returns-clause-noted : goal.returns-clause-noted
returns-clause-noted c = λ count is. noted_more c.args.self.now _ count c.args.k _ c.args.value is c.requires c.index.ensures c.in_ok-note.ensures refl

pub returns-clause-values : goal.returns-clause-values
returns-clause-values c = refl
