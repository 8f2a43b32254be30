-- Parts written one after the other.
use Rattle.std.proofs.Common.{◌≡◌, List, ℕ, ◌++◌, refl}
use Rattle.lh_text_buffer.specs.Writing.{Written, Writes, Leaves}
use Rattle.lh_text_buffer.proofs.Parts.{all-left, less-left}

-- the first part
pub first_left : (start next : Written) (part rest whole : List ℕ) → whole ≡ part ++ rest → Writes start next part → Leaves start next rest whole
first_left start next part rest whole e p = less-left start start next part rest whole whole e p (all-left start whole whole refl)
