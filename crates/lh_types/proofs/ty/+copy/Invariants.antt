use Rattle.std.proofs.Common.{◌≡◌, take}
use Rattle.lh_types.proofs.ty.+copy.Given as goal

abbrev pub invariant-TyList::copy-loop-t : goal.invariant-TyList::copy-loop-t
invariant-TyList::copy-loop-t l = (l.to ≡ take l.t-index l.t-items) × (l.t-items ≡ l.fn.self)
