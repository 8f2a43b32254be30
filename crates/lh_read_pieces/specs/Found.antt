-- What is read where a definition finds something in front of the tokens, or finds nothing.
use Rattle.std.specs.Prelude.{◌≡◌, ⊤, Option, Some, None, Result, Ok, Err}
use Rattle.lh_read_pieces.specs.declared.fault.ScanFault.{ScanFault}
use Rattle.lh_read_pieces.specs.declared.fault.ScanFault.TheVariants.{NotSpelled, OutOfMemory}

-- what is read stands for what is found, and where it is not spelled so nothing is found; memory may run out either way
abbrev pub FindsAs : {A B : Type 0} → (A → B) → Result A ScanFault → Option B → Type 0
FindsAs f (Ok x) found = Some (f x) ≡ found
FindsAs f (Err NotSpelled) found = None ≡ found
FindsAs f (Err OutOfMemory) found = ⊤

-- what is read is what is found
abbrev pub ReadsAsFound : {A : Type 0} → Result A ScanFault → Option A → Type 0
ReadsAsFound r found = FindsAs (λ x. x) r found
