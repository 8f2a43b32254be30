use Rattle.std.proofs.lemmas.List.{map-set}
use Rattle.std.proofs.Common.{Some}
use Rattle.lh_eval.specs.HeldOf.{maybe_held}
use Rattle.lh_eval.proofs.held.Slots.set.Goals as goal

pub returns : goal.returns
returns c = let e = map-set maybe_held c.self.inside.slots.items c.args.value.0 (Some c.args.held) in cc
