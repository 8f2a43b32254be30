-- What elaboration answers.
use Rattle.std.specs.Prelude.{◌≡◌, ℕ, ◌+◌, List, [], ◌∷◌, length, Option, Some, None, Result, Ok, Err, slice_index_or}
use Rattle.lh_types.specs.Types.{IsData, bit_count}
use Rattle.lh_unit.specs.Arena.{Arena, unit_count, unit_name_at, contents}
use Rattle.lh_unit.specs.Design as design
use Rattle.lh_unit.specs.Design.{Elaborated, refused, built, Refusal}
pub use Rattle.lh_design.specs.Filling.{SignalsFill}
use Rattle.lh_elab.specs.declared.fault.ElabFault.{ElabFault}
use Rattle.lh_design.specs.declared.Design.{Design}
use Rattle.lh_elab_plan.specs.declared.plan.Plan.{Plan}
use Rattle.lh_elab.specs.declared.elaborate.Plans.{Plans}
use Rattle.lh_elab.specs.Refusals.{refusal_text}
use Rattle.lh_elab_plan.specs.Plans.{IsPlan}
use Rattle.lh_elab.specs.Builds.{design_text}

-- the definition refuses for this cause, if it is one
abbrev pub RefusedFor : Option Refusal → Elaborated → Type 0
RefusedFor None e = Unit {0}
RefusedFor (Some r) e = e ≡ refused r

-- The answer is the design of the definition, or its first refusal; of running out of memory nothing is said.
abbrev pub Elaborates : Arena → (top : ℕ) → Result Design ElabFault → Type 0
Elaborates a top (Ok d) = design.elab (contents a) (unit_name_at a top) ≡ built (design_text a d)
Elaborates a top (Err e) = RefusedFor (refusal_text a e) (design.elab (contents a) (unit_name_at a top))

-- each plan is that of its unit
pub record ArePlans (a : Arena) (p : Plans) : Type 0 where
  pub long : length p.plans.items ≡ unit_count a
  pub right : (u : ℕ) (x : Plan) → slice_index_or p.plans.items u None ≡ Some x → IsPlan a u x

-- signals of data types stand one after the other, from one bit up to another
abbrev pub TextsFill : (lo : ℕ) → List design.Signal → (hi : ℕ) → Type 0
TextsFill lo [] hi = lo ≡ hi
TextsFill lo (s ∷ more) hi = (s.lo ≡ lo) × IsData s.ty × TextsFill (lo + bit_count s.ty) more hi
