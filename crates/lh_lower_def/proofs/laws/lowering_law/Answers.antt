use Rattle.lh_lower_def.proofs.KeptItems.{lowered-is-kept, kept-is-lowered, functions-stay, names-stay, lowered-again, rows-are-processes}
use Rattle.lh_lower_def.proofs.laws.lowering_law.Goals as goal

pub returns : goal.returns
returns c = record { kept = lowered-is-kept; nothing_else = kept-is-lowered; functions = functions-stay; names = names-stay; again = lowered-again; rows = rows-are-processes }
