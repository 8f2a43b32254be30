-- What a design that elaboration answered has.
use Rattle.std.specs.Prelude.{◌≡◌, ℕ, ◌<◌, ◌≤◌, ◌⊎◌, length, Some}
use Rattle.lh_unit_names.specs.declared.name.UnitName.{UnitName}
use Rattle.lh_unit.specs.declared.inst.UnitKind.TheVariants as kind
use Rattle.lh_unit.specs.Arena.{Arena, IsArena, unit_count, kind_at, unit_text_at, contents}
use Rattle.lh_unit.specs.Design as design
use Rattle.lh_unit.specs.Paths.{shown_in, ParentsComeBefore}
use Rattle.lh_unit.specs.WellFormed.{IsWellFormed}
use Rattle.lh_unit.specs.Within.{Each}
use Rattle.lh_eval.specs.declared.instance.Instance.{Instance}
use Rattle.lh_eval_laws.specs.Ranges.{InstanceFits}
use Rattle.lh_design.specs.declared.Design.{Design}
use Rattle.lh_design.specs.Filling.{SignalsFill}
use Rattle.lh_design.specs.Texts.{design_text}

-- an instance is of a process or an entity that is there, and its ranges fit it
pub record InstanceIs (a : Arena) (width : ℕ) (i : Instance) : Type 0 where
  pub unit : i.unit.0 < unit_count a
  pub kind : (kind_at a i.unit.0 ≡ Some kind.Proc) ⊎ (kind_at a i.unit.0 ≡ Some kind.Entity)
  pub fits : InstanceFits (unit_text_at a i.unit.0) i.args i.sigs width

-- The design is the answer of elaboration for a top unit of a well-formed module.
pub record IsDesignOf (a : Arena) (d : Design) : Type 0 where
  pub arena : IsArena a
  pub formed : IsWellFormed (contents a)
  pub top : UnitName
  pub built : design.elab (contents a) top ≡ design.built (design_text a d)
  pub few : length d.instances.items ≤ 65536
  pub fill : SignalsFill d
  pub fits : Each (InstanceIs a (length d.init)) d.instances.items
  pub parents : ParentsComeBefore (shown_in (design_text a d))
