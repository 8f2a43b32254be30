-- What lowering makes of a module is certified.
use Rattle.std.specs.Prelude.{None}
use Rattle.lh_unit.specs.Arena.{Arena, contents}
use Rattle.lh_lower_def.specs.Lowering.{lowered}
use Rattle.lh_lower_laws.specs.Same.{IsSourceModule}
use Rattle.lh_cert_def.specs.Causes.{IsCertifiedAs}

-- The lowered module of a well-formed module has no cause.
abbrev pub LoweredIsCertified : Type 0
LoweredIsCertified = (a : Arena) → IsSourceModule a → IsCertifiedAs (contents a) (lowered (contents a)) None
