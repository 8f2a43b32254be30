-- The part that a place stands for.
use Rattle.lh_types.specs.Kind.{type_of_kind}
use Rattle.lh_types.specs.Parts.{Part}
use Rattle.lh_types.specs.declared.part.PartView.{PartView}

-- the part, by its lowest bit and one level of its type
abbrev pub part_of_view : PartView → Part
part_of_view p = record { lo = p.lo; of = type_of_kind p.of }
