use Rattle.lh_time.proofs.OrderLemmas.{instant_cmp_total, delay_cmp_total}
use Rattle.lh_time.proofs.order_is_total.Goals as goal

pub returns-clause-instants : goal.returns-clause-instants
returns-clause-instants c = instant_cmp_total

pub returns-clause-delays : goal.returns-clause-delays
returns-clause-delays c = delay_cmp_total
