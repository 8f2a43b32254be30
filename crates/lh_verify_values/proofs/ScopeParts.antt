-- What a scope hides of its unit.
use Rattle.std.proofs.Common.{◌≡◌, ◌<◌, refl}
use Rattle.lh_unit.specs.Naming.{kind_text}
use Rattle.lh_unit.specs.Within.{InstWithin}
use Rattle.lh_unit.specs.Arena.{InstPlaced, unit_count, kind_at, result_type_at}
use Rattle.lh_unit.specs.declared.inst.UnitId.{UnitId}
use Rattle.lh_unit.specs.declared.inst.Inst.{Inst}
use Rattle.lh_verify_values.specs.Facts.{text_in, sizes_in}
use Rattle.lh_verify_values.specs.declared.scope.Scope.{Scope}

pub kind-in : (s : Scope) → kind_text (kind_at s.module.now s.unit.0) ≡ (text_in s).kind
unfolding text_in
kind-in s = refl

pub placed-in : (s : Scope) (i : Inst) → InstPlaced s.module.now s.unit.0 i → InstWithin (sizes_in s) i
unfolding sizes_in
placed-in s i h = h

pub result-in : (s : Scope) → result_type_at s.module.now s.unit.0 ≡ (text_in s).result
unfolding text_in
result-in s = refl

pub unit-in : (s : Scope) (u : UnitId) → u.0 < (sizes_in s).units → u.0 < unit_count s.module.now
unfolding sizes_in
unit-in s u h = h
