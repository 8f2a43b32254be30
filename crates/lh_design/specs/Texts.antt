-- A design as the definitions have it, with names in place of ids.
use Rattle.std.specs.Prelude.{ℕ, map}
use Rattle.lh_unit.specs.Arena.{Arena, unit_name_at}
use Rattle.lh_unit.specs.Hierarchy as hierarchy
use Rattle.lh_unit.specs.Design as text
use Rattle.lh_eval.specs.declared.instance.Instance.{Instance}
use Rattle.lh_design.specs.declared.Signal.{Signal}
use Rattle.lh_design.specs.declared.Design.{Design}

abbrev pub instance_text : Arena → Instance → hierarchy.Instance
instance_text a i = record { unit = unit_name_at a i.unit.0; parent = i.parent; args = i.args; sigs = i.sigs }

abbrev pub signal_text : Signal → text.Signal
signal_text s = record { instance = s.instance; name = s.name; ty = s.ty; lo = s.lo }

abbrev pub design_text : Arena → Design → text.Design
design_text a d = record { instances = map (instance_text a) d.instances.items; signals = map signal_text d.signals.items; init = d.init }
