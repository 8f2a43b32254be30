use Rattle.lh_text_laws.proofs.Apart.{spelled_apart}
use Rattle.lh_text_laws.proofs.Together.{spelled_together}
use Rattle.lh_text_laws.proofs.modules_are_spelled_by_items.Goals as goal

pub returns : goal.returns
returns c = record { apart = spelled_apart; together = spelled_together }
