use Rattle.lh_history_laws.proofs.Frames.{wishes_split, histories_join, frames_split}
use Rattle.lh_history_laws.proofs.frame_law.Goals as goal

pub returns : goal.returns
returns c = record { wishes = wishes_split; histories = histories_join; frames = frames_split }
