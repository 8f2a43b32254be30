use Rattle.lh_trace_laws.proofs.WishesLaw.{wish_ext, later_drive_replaces}
use Rattle.lh_trace_laws.proofs.HistoryLaw.{acts_in_order}
use Rattle.lh_trace_laws.proofs.wish_law.Goals as goal

pub returns : goal.returns
returns c = record { ext = wish_ext; replaces = later_drive_replaces; acts = acts_in_order }
