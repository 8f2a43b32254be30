use Rattle.lh_trace_laws.proofs.HistoryLaw.{first_history_is_sound, history_stays_sound}
use Rattle.lh_trace_laws.proofs.history_law.Goals as goal

pub returns : goal.returns
returns c = record { first = first_history_is_sound; stays = history_stays_sound }
