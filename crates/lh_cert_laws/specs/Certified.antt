-- An edited module that is certified has the trace of the module that it was.
use Rattle.std.specs.Prelude.{ℕ, List, None}
use Rattle.lh_unit.specs.Arena.{Arena, contents}
use Rattle.lh_unit.specs.Contents.{ItemText}
use Rattle.lh_unit.specs.Trace.{SameTrace, SameTraceWithin}
use Rattle.lh_unit.specs.WellFormed.{IsWellFormed}
use Rattle.lh_lower_laws.specs.Same.{IsSourceModule, IsEnoughFor}
use Rattle.lh_cert_def.specs.Causes.{IsCertifiedAs}

-- Where there is no cause, the edited module has the same trace, for every top and every number of frames.
abbrev pub CertifiedSameTrace : Type 0
CertifiedSameTrace = (a : Arena) (edited : List ItemText) → IsSourceModule a → IsWellFormed edited → IsCertifiedAs (contents a) edited None → SameTrace (contents a) edited

-- So it has under any other bound on the instructions of an activation that is enough.
abbrev pub CertifiedSameTraceWithin : Type 0
CertifiedSameTraceWithin = (a : Arena) (edited : List ItemText) (bound : ℕ) → IsSourceModule a → IsWellFormed edited → IsCertifiedAs (contents a) edited None → IsEnoughFor bound a →
    SameTraceWithin bound (contents a) edited
