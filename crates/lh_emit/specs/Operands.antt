-- Operands by ids, with and without a type before them.
use Rattle.std.specs.Prelude.{List, [], ◌∷◌, map, Some, None}
use Rattle.lh_types.specs.Types.{TypeTree}
use Rattle.lh_unit.specs.declared.inst.Typed.{Typed}
use Rattle.lh_unit.specs.declared.inst.ValueId.{ValueId}

-- with this type
abbrev pub with_type : TypeTree → ValueId → Typed
with_type t v = record { value = v; ty = Some t }

-- without a type
abbrev pub without_type : ValueId → Typed
without_type v = record { value = v; ty = None }

-- the first with this type, the others without
abbrev pub first_with_type : TypeTree → List ValueId → List Typed
first_with_type t [] = []
first_with_type t (v ∷ vs) = with_type t v ∷ map without_type vs
