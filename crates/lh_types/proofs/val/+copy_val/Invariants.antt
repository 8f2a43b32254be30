use Rattle.std.proofs.Common.{◌≡◌, take, map}
use Rattle.lh_types.specs.ValueOf.{datum_of}
use Rattle.lh_types.proofs.val.+copy_val.Given as goal

abbrev pub invariant-ValList::copy-loop-v : goal.invariant-ValList::copy-loop-v
invariant-ValList::copy-loop-v l = (l.to ≡ map datum_of (take l.v-index l.v-items)) × (map datum_of l.v-items ≡ l.fn.self)
