-- What a reader answers where one that it stands on found something, or nothing.
use Rattle.std.proofs.Common.{◌≡◌, Option, Some, None, sym}
use Rattle.std.specs.Prelude.{Result, Ok, Err, ok_or}
use Rattle.lh_read_pieces.specs.Found.{FindsAs, ReadsAsFound}
use Rattle.lh_read_pieces.specs.declared.fault.ScanFault.{ScanFault}
use Rattle.lh_read_pieces.specs.declared.fault.ScanFault.TheVariants.{NotSpelled, OutOfMemory}

-- where a part is not there, neither is the whole
pub ReadsAsFound-without : {A B : Type 0} (e : ScanFault) (part : Option A) (whole : Option B) → ReadsAsFound (Err e) part → (part ≡ None → whole ≡ None) → ReadsAsFound (Err e) whole
ReadsAsFound-without NotSpelled part whole h f = sym (f (sym h))
ReadsAsFound-without OutOfMemory part whole h f = tt

-- what is there is read, and what is not is not spelled so
pub ReadsAsFound-or : {A : Type 0} (o found : Option A) (r : Result A ScanFault) → r ≡ ok_or o NotSpelled → o ≡ found → ReadsAsFound r found
ReadsAsFound-or None found r e f = rw e f
ReadsAsFound-or (Some x) found r e f = rw e f
