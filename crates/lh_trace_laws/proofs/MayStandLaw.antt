-- From a simulation of two units to the one standing for the other.
use Rattle.std.proofs.Common.{◌≡◌, ℕ, List, [], ◌∷◌, Bool, true, false, refl, ap, sym, ◌∙◌, Option}
use Rattle.lh_types.specs.declared.part.Range.{Range}
use Rattle.lh_unit.specs.declared.inst.UnitKind.TheVariants as kind
use Rattle.lh_unit.specs.Contents.{InstText, const_text, pure_text, var_text, ld_text, st_text, sig_text, prb_text, drv_text, reg_text, child_text, call_text, phi_text, br_text, branch_text, wait_text, halt_text, ret_text, LineText, ArgText, UnitText}
use Rattle.lh_unit.specs.Held.{Env}
use Rattle.lh_unit.specs.Hierarchy.{Instance, SignalText, Child, Hierarchy, lines_of, static_held, signal_if, signals_of, child_if, children_of, hierarchy_by, hierarchy_of}
use Rattle.lh_unit.specs.World.{Rules}
use Rattle.lh_trace_laws.specs.Replacing.{HasWidths, MayStand}
use Rattle.lh_trace_laws.proofs.Simulation.{SimulationRelation, same_answers}
use Rattle.lh_trace_laws.proofs.StandsFor.{CombFor, EdgeFor, OnceFor}
use Rattle.lh_trace_laws.proofs.CombLaw.{comb_simulation}
use Rattle.lh_trace_laws.proofs.EdgeLaw.{edge_simulation}
use Rattle.lh_trace_laws.proofs.OnceLaw.{once_simulation}

-- neither `sig` nor `inst`
abbrev pub is_plain : InstText → Bool
is_plain (sig_text a) = false
is_plain (child_text v inputs outputs) = false
is_plain _ = true

abbrev pub AllPlain : List LineText → Type 0
AllPlain [] = Unit {0}
AllPlain (l ∷ more) = (is_plain l.inst ≡ true) × AllPlain more

plain_signal : (e : Env) (i : InstText) (n : Option (List ℕ)) (more : List SignalText) → is_plain i ≡ true → signal_if e i n more ≡ more
plain_signal e (const_text d) n more h = refl
plain_signal e (pure_text o args) n more h = refl
plain_signal e (var_text a) n more h = refl
plain_signal e (ld_text p) n more h = refl
plain_signal e (st_text to value) n more h = refl
plain_signal e (sig_text a) n more h = cc
plain_signal e (prb_text s) n more h = refl
plain_signal e (drv_text to value after c) n more h = refl
plain_signal e (reg_text to triggers) n more h = refl
plain_signal e (child_text v inputs outputs) n more h = cc
plain_signal e (call_text f ty args) n more h = refl
plain_signal e (phi_text ty edges) n more h = refl
plain_signal e (br_text to) n more h = refl
plain_signal e (branch_text c first second) n more h = refl
plain_signal e (wait_text to after signals) n more h = refl
plain_signal e halt_text n more h = refl
plain_signal e (ret_text o) n more h = refl

plain_child : (e : Env) (i : InstText) (more : List Child) → is_plain i ≡ true → child_if e i more ≡ more
plain_child e (const_text d) more h = refl
plain_child e (pure_text o args) more h = refl
plain_child e (var_text a) more h = refl
plain_child e (ld_text p) more h = refl
plain_child e (st_text to value) more h = refl
plain_child e (sig_text a) more h = cc
plain_child e (prb_text s) more h = refl
plain_child e (drv_text to value after c) more h = refl
plain_child e (reg_text to triggers) more h = refl
plain_child e (child_text v inputs outputs) more h = cc
plain_child e (call_text f ty args) more h = refl
plain_child e (phi_text ty edges) more h = refl
plain_child e (br_text to) more h = refl
plain_child e (branch_text c first second) more h = refl
plain_child e (wait_text to after signals) more h = refl
plain_child e halt_text more h = refl
plain_child e (ret_text o) more h = refl

no_signals : (e : Env) (ls : List LineText) → AllPlain ls → signals_of e ls ≡ []
no_signals e [] a = refl
no_signals e (l ∷ more) a = plain_signal e l.inst l.result (signals_of e more) a.0 ∙ no_signals e more a.1

no_children : (e : Env) (ls : List LineText) → AllPlain ls → children_of e ls ≡ []
no_children e [] a = refl
no_children e (l ∷ more) a = plain_child e l.inst (children_of e more) a.0 ∙ no_children e more a.1

abbrev with_parts_of : List ArgText → List SignalText → (List Range → List Range → List Child) → Hierarchy
with_parts_of args signals children = record { function = false; args = args; signals = signals; children = children }

entity_hierarchy : (y : UnitText) → AllPlain (lines_of y.blocks) → hierarchy_by kind.Entity y ≡ hierarchy_by kind.Proc y
entity_hierarchy y a =
    ap (λ ss. with_parts_of y.args ss (λ args sigs. children_of (static_held y args sigs) (lines_of y.blocks))) (no_signals (static_held y [] []) (lines_of y.blocks) a)
    ∙ (λ j. with_parts_of y.args [] (λ args sigs. no_children (static_held y args sigs) (lines_of y.blocks) a j))

-- a process and an entity of the same arguments, without `sig` and `inst`, are one to elaboration
pub same_hierarchy : (x y : UnitText) → x.kind ≡ kind.Proc → y.kind ≡ kind.Entity → x.args ≡ y.args → AllPlain (lines_of y.blocks) → hierarchy_of x ≡ hierarchy_of y
same_hierarchy x y p e g a =
    ap (λ k. hierarchy_by k x) p ∙ ap (λ args. with_parts_of args [] (λ args sigs. [])) g ∙ sym (entity_hierarchy y a) ∙ sym (ap (λ k. hierarchy_by k y) e)

no_function : (x : UnitText) → x.kind ≡ kind.Proc → (hierarchy_of x).function ≡ false
no_function x p = ap (λ k. (hierarchy_by k x).function) p

-- A unit may stand for a process that it simulates in each instance.
pub may_stand : (r : Rules) (x y : UnitText) → x.name ≡ y.name → x.kind ≡ kind.Proc → y.kind ≡ kind.Entity → x.args ≡ y.args → AllPlain (lines_of y.blocks)
    → ((i : Instance) → HasWidths (hierarchy_of x) i → SimulationRelation r x y i) → MayStand r x y
may_stand r x y n p e g a sim = record {
  name = n;
  hierarchy = same_hierarchy x y p e g a;
  no_function = no_function x p;
  alike = λ i w frames. same_answers r x y i (sim i w) frames;
}

pub comb_may_stand : (r : Rules) (x y : UnitText) → x.name ≡ y.name → x.kind ≡ kind.Proc → y.kind ≡ kind.Entity → x.args ≡ y.args → AllPlain (lines_of y.blocks)
    → ((i : Instance) → HasWidths (hierarchy_of x) i → CombFor r x y i) → MayStand r x y
comb_may_stand r x y n p e g a c = may_stand r x y n p e g a (λ i w. comb_simulation r x y i (c i w))

pub edge_may_stand : (r : Rules) (x y : UnitText) → x.name ≡ y.name → x.kind ≡ kind.Proc → y.kind ≡ kind.Entity → x.args ≡ y.args → AllPlain (lines_of y.blocks)
    → ((i : Instance) → HasWidths (hierarchy_of x) i → EdgeFor r x y i) → MayStand r x y
edge_may_stand r x y n p e g a c = may_stand r x y n p e g a (λ i w. edge_simulation r x y i (c i w))

pub once_may_stand : (r : Rules) (x y : UnitText) → x.name ≡ y.name → x.kind ≡ kind.Proc → y.kind ≡ kind.Entity → x.args ≡ y.args → AllPlain (lines_of y.blocks)
    → ((i : Instance) → HasWidths (hierarchy_of x) i → OnceFor r x y i) → MayStand r x y
once_may_stand r x y n p e g a c = may_stand r x y n p e g a (λ i w. once_simulation r x y i (c i w))
