use Rattle.std.proofs.Common.{Result, Ok, Err, IfOk}
use Rattle.lh_unit.specs.Arena.{contents}
use Rattle.lh_text_laws.proofs.Readings.{every_reading_is_spelled}
use Rattle.lh_print_round_trip.proofs.read_spelled.Goals as goal

ok_weaker : {A E : Type 0} (r : Result A E) (P Q : A → Type 0) → ((a : A) → P a → Q a) → IfOk r P → IfOk r Q
ok_weaker (Ok a) P Q f p = f a p
ok_weaker (Err e) P Q f p = tt

pub returns-clause-spelled : goal.returns-clause-spelled
returns-clause-spelled c = ok_weaker c.read.result _ _ (λ m r. every_reading_is_spelled c.args.text.now (contents m) r) c.read.ensures.ok
