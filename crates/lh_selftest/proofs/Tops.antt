-- A top that has a design is a unit that is defined.
use Rattle.std.proofs.Common.{◌≡◌, ℕ, ◌<◌, refl, ap, sym, ◌∙◌, subst, Option, Some, None, IsSome}
use Rattle.lh_unit.specs.Arena.{Arena, IsArena, unit_count, unit_name_at, kind_at, contents}
use Rattle.lh_unit.specs.Builders.{Locates}
use Rattle.lh_unit.specs.Design.{Design, elab, Elaborated, refused, built, Refusal, top_missing}
use Rattle.lh_unit_names.specs.declared.name.UnitName.{UnitName}
use Rattle.lh_unit.specs.declared.inst.UnitKind.{UnitKind}
use Rattle.lh_design.specs.declared.Design.{Design as ByIds}
use Rattle.lh_design.specs.Texts.{design_text}
use Rattle.lh_elab.specs.Elaborates.{RefusedFor}
use Rattle.lh_elab.specs.Refusals.{refusal_text}
use Rattle.lh_elab.specs.declared.fault.ElabFault.{ElabFault}
use Rattle.lh_elab.specs.declared.fault.ElabFault.TheVariants.{TopIsFunction, InstCycle, TooDeep, TooManyInstances, TooManyBits, OutOfMemory}
use Rattle.lh_selftest_design.specs.Summary.{chain_name}
use Rattle.lh_selftest.specs.SelfTest.{HasDesign}
use Rattle.lh_selftest.proofs.MissingTop.{elab-not_there, elab-not_defined}

-- what is refused has no design
refused_or_built : (x : Elaborated) (r : Refusal) (d : Design) → x ≡ refused r → x ≡ built d → ⊥
refused_or_built x r d e f = cc

-- ---- where there is a design

-- there is an entry
pub top-is_there : (a : Arena) → IsArena a → HasDesign (contents a) → Locates None a chain_name → ⊥
top-is_there a o h none = refused_or_built (elab (contents a) chain_name) top_missing h.design (elab-not_there a chain_name o none) h.is

-- of a unit that is defined
some_kind : (k : Option UnitKind) → (k ≡ None → ⊥) → IsSome k
some_kind None h = absurd (h refl)
some_kind (Some k) h = refl

pub top-is_defined : (a : Arena) (u : ℕ) → IsArena a → u < unit_count a → unit_name_at a u ≡ chain_name → HasDesign (contents a) → IsSome (kind_at a u)
top-is_defined a u o l e h =
    some_kind (kind_at a u) (λ none. refused_or_built (elab (contents a) chain_name) top_missing h.design (ap (elab (contents a)) (sym e) ∙ elab-not_defined a u o l none) h.is)

-- and nothing but memory can be wanting
starved : (a : Arena) (f : ElabFault) (x : Elaborated) (d : Design) → x ≡ built d → RefusedFor (refusal_text a f) x → f ≡ OutOfMemory
starved a TopIsFunction x d b r = absurd (refused_or_built x _ d r b)
starved a (InstCycle u) x d b r = absurd (refused_or_built x _ d r b)
starved a TooDeep x d b r = absurd (refused_or_built x _ d r b)
starved a TooManyInstances x d b r = absurd (refused_or_built x _ d r b)
starved a TooManyBits x d b r = absurd (refused_or_built x _ d r b)
starved a OutOfMemory x d b r = refl

pub top-is_starved : (a : Arena) (n : UnitName) (f : ElabFault) → n ≡ chain_name → HasDesign (contents a) → RefusedFor (refusal_text a f) (elab (contents a) n) → f ≡ OutOfMemory
top-is_starved a n f e h r = starved a f (elab (contents a) n) h.design (ap (elab (contents a)) e ∙ h.is) r

-- the design of the unit `@chain` of a module is that of the file
pub design-is : (m a : Arena) (d : ByIds) (n : UnitName) → m ≡ a → n ≡ chain_name → elab (contents m) n ≡ built (design_text m d) → elab (contents a) chain_name ≡ built (design_text a d)
design-is m a d n em en e =
    subst (λ (x : Arena). elab (contents x) chain_name ≡ built (design_text x d)) em (ap (elab (contents m)) (sym en) ∙ e)
