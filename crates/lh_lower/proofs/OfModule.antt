-- What becomes of a process of a module, by its flat text.
use Rattle.std.proofs.Common.{◌≡◌, ℕ, ◌<◌, ◌^◌, List, [], ◌∷◌, length, map, false, Some, Ok, refl, ap, sym, ◌∙◌, subst}
use Rattle.std.proofs.lemmas.List.{length-map}
use Rattle.lh_unit_names.specs.declared.name.UnitName.{UnitName}
use Rattle.lh_unit.specs.declared.inst.Arg.{Arg}
use Rattle.lh_unit.specs.declared.inst.UnitKind.TheVariants as unit_kind
use Rattle.lh_unit.specs.Activation.{functions}
use Rattle.lh_unit.specs.Arena.{Arena, IsArena, contents, unit_count, kind_at, unit_text_at}
use Rattle.lh_unit.specs.Contents.{ArgText, UnitText}
use Rattle.lh_unit.specs.Naming.{Naming, value_text, arg_text}
use Rattle.lh_unit.specs.Reads.{args_repeat}
use Rattle.lh_unit.specs.WellFormed.{IsWellFormed}
use Rattle.lh_flat_laws.specs.Formed.{IsFormed}
use Rattle.lh_flat_laws.proofs.FlatActivations.{flat-is}
use Rattle.lh_flat_state_laws.specs.Formed.{FlatTextsAreFormed}
use Rattle.lh_flat.specs.Below.{IdsBelow}
use Rattle.lh_flat.specs.Flat.{FlatText, FlatRefusal, Flattened, refused, flattened, flat_of, flat_unit}
use Rattle.lh_flat.specs.Marks.{UnitsAreNamed}
use Rattle.lh_flat.specs.Reads.{flat_text, refusal_text, GivesRefusal, ReadsAs, Flattens}
use Rattle.lh_flat.specs.declared.flat.Flat.{Flat}
use Rattle.lh_flat.specs.declared.fault.FlatFault.{FlatFault}
use Rattle.lh_flat_parts.specs.declared.table.PartTable.{PartTable}
use Rattle.lh_flat_parts.specs.Steps.{IsPartTable}
use Rattle.lh_term.specs.declared.term.TermNode.{TermNode}
use Rattle.lh_region.specs.Forms.{Names, HasForm}
use Rattle.lh_region_walk.proofs.HavingSteps.{has-steps}
use Rattle.lh_shape.specs.Answers.{IsShape}
use Rattle.lh_shape.specs.Reasons.{flat_reason}
use Rattle.lh_shape.specs.Shapes.{shape_of_text, shape_by_text, shape_in}
use Rattle.lh_shape.specs.declared.kinds.Shape.{Shape}
use Rattle.lh_shape.specs.declared.kinds.Shape.TheVariants as shape_kind
use Rattle.lh_emit_source.specs.Firsts.{AreFirsts}
use Rattle.lh_emit_source.specs.Origins.{IsOrigin}
use Rattle.lh_emit_source.specs.declared.origin.Origin.{Origin}
use Rattle.lh_lower_def.specs.Lowering as text
use Rattle.lh_entity_laws.specs.Given.{CombIsGiven, EdgeIsGiven, OnceIsGiven}
use Rattle.lh_entity_laws.proofs.Few.{unit-args-few}
use Rattle.lh_lower.specs.Outcomes.{IsOutcome, IsOutcomeAt, ArgsAreNamed, CanEmit, IsOutcomeOf, IsOutcomeBy}
use Rattle.lh_lower.specs.declared.outcome.ProcessOutcome.{ProcessOutcome}
use Rattle.lh_lower.specs.declared.outcome.ProcessOutcome.TheVariants as outcome
use Rattle.lh_lower.proofs.Outcomes.{has-shape}

-- the names of arguments by ids
arg-names : (f : Naming) (xs : List Arg) → map (λ (a : Arg). value_text f a.value) xs ≡ map (λ (a : ArgText). a.name) (map (arg_text f) xs)
arg-names f [] = refl
arg-names f (x ∷ xs) = ap (λ (ns : List (List ℕ)). value_text f x.value ∷ ns) (arg-names f xs)

-- ---- a process of a module

module _ (a : Arena) (u : ℕ) where
  abbrev x : UnitText
  x = unit_text_at a u

  -- it has no flat text
  pub left-as : (y : FlatRefusal) → flat_of (contents a) x ≡ refused y → IsOutcomeAt a u (outcome.Left (flat_reason y))
  left-as y e = ap (text.outcome_of_text x) e

  pub shape-left : (ns : List TermNode) (y : FlatRefusal) → flat_of (contents a) x ≡ refused y → IsShape ns (shape_kind.Left (flat_reason y)) (shape_in (contents a) x)
  shape-left ns y e = subst (λ (z : Flattened). IsShape ns (shape_kind.Left (flat_reason y)) (shape_by_text z)) (sym e) refl

  module _ (o : IsArena a) (formed : IsWellFormed (contents a)) (named : UnitsAreNamed a) (law : FlatTextsAreFormed) (within : u < unit_count a) (process : kind_at a u ≡ Some unit_kind.Proc)
      (t : Flat) (below : IdsBelow t) (fl : Flattens a u (Ok t)) where
    read : ReadsAs a t fl.0
    read = fl.2

    formed-by : (name : UnitName) → IsFormed (flat_unit name (flat_text read.naming t))
    formed-by name = subst (λ (y : FlatText). IsFormed (flat_unit name y)) (sym read.says) (law a u name fl.0 o formed named within process fl.1)

    names : Names t read.naming
    names = record { values = read.values; labels = read.labels; formed = formed-by }

    same-args : x.args ≡ (flat_text read.naming t).args
    same-args = ap (λ (z : FlatText). z.args) ((flat-is (functions (contents a)) x fl.0 fl.1).same ∙ sym read.says)

    few-args : length x.args < 2 ^ 32
    few-args = unit-args-few a u o within

    few : length t.args < 2 ^ 32
    few = subst (λ (n : ℕ). n < 2 ^ 32) (ap length same-args ∙ length-map t.args (arg_text read.naming)) few-args

    once : args_repeat [] x.args ≡ false
    once = ap (args_repeat []) same-args ∙ (formed-by x.name).new_args

    pub form-at : HasForm t
    form-at = record { below = below; naming = read.naming; names = names }

    pub shape-at : (ns : List TermNode) (s : Shape) → ((f : Naming) → Names t f → IsShape ns s (shape_of_text (flat_text f t))) → IsShape ns s (shape_in (contents a) x)
    shape-at ns s h = subst (λ (z : Flattened). IsShape ns s (shape_by_text z)) (sym (fl.1 ∙ ap flattened (sym read.says))) (h read.naming names)

    pub has-args : (ns : List (List ℕ)) → ns ≡ map (λ (b : ArgText). b.name) x.args → ArgsAreNamed ns t
    has-args ns e = record { below = below; naming = read.naming; is = names; named = e ∙ ap (map (λ (b : ArgText). b.name)) same-args; few = few }

    pub outcome-at : (ns : List (List ℕ)) (y : ProcessOutcome) → ns ≡ map (λ (b : ArgText). b.name) x.args → IsOutcomeBy ns t y → IsOutcomeAt a u y
    outcome-at ns y e h = subst (λ (z : Flattened). IsOutcome x (text.outcome_of_text x z) y) (sym (fl.1 ∙ ap flattened (sym read.says))) (h x read.naming names same-args once few-args e)

-- ---- a flat text

pub has-form : (ns : List (List ℕ)) (t : Flat) → ArgsAreNamed ns t → HasForm t
has-form ns t h = record { below = h.below; naming = h.naming; names = h.is }

module _ (combs : CombIsGiven) (edges : EdgeIsGiven) (onces : OnceIsGiven) (ns : List TermNode) (o : Origin) (h : ArgsAreNamed o.names o.flat.now) (table : IsPartTable o.flat.now o.parts.now)
    (firsts : AreFirsts o) (s : Shape)
    (is : (f : Naming) → Names o.flat.now f → IsShape ns s (shape_of_text (flat_text f o.flat.now))) where
  origin-by : (f : Naming) → Names o.flat.now f → o.names ≡ map (λ (b : ArgText). b.name) (flat_text f o.flat.now).args → IsOrigin f o
  origin-by f n e = record {
    names = n;
    below = h.below;
    steps = has-steps (h.naming.unit_name 0) h.naming o.flat.now h.is h.below h.few;
    table = table;
    named = arg-names f o.flat.now.args ∙ sym e;
    firsts = firsts;
  }

  pub can-emit : CanEmit ns o s
  can-emit =
      let name = h.naming.unit_name 0 in
      let u = flat_unit name (flat_text h.naming o.flat.now) in
      record {
        unit = u;
        naming = h.naming;
        text = shape_of_text (flat_text h.naming o.flat.now);
        has = has-shape combs edges onces ns o s u h.naming (origin-by h.naming h.is h.named) refl (h.is.formed name).new_args
            (subst (λ (n : ℕ). n < 2 ^ 32) (sym (length-map o.flat.now.args (arg_text h.naming))) h.few) (is h.naming h.is);
      }

  pub outcome-by : (y : ProcessOutcome) → IsOutcomeOf ns o s y → IsOutcomeBy o.names o.flat.now y
  outcome-by y k u f n args once few e = k u f (shape_of_text (flat_text f o.flat.now))
      (has-shape combs edges onces ns o s u f (origin-by f n (e ∙ ap (map (λ (b : ArgText). b.name)) args)) args once few (is f n))

-- the same of an origin that was made of these
module _ (combs : CombIsGiven) (edges : EdgeIsGiven) (onces : OnceIsGiven) (ns : List TermNode) (names : List (List ℕ)) (t : Flat) (p : PartTable) (h : ArgsAreNamed names t) (table : IsPartTable t p)
    (o : Origin) (same-flat : o.flat.now ≡ t) (same-parts : o.parts.now ≡ p)
    (same-names : o.names ≡ names) (firsts : AreFirsts o) (s : Shape) (is : (f : Naming) → Names t f → IsShape ns s (shape_of_text (flat_text f t))) where
  args-there : ArgsAreNamed o.names o.flat.now
  args-there = subst (λ (xs : List (List ℕ)). ArgsAreNamed xs o.flat.now) (sym same-names) (subst (λ (y : Flat). ArgsAreNamed names y) (sym same-flat) h)

  table-there : IsPartTable o.flat.now o.parts.now
  table-there = subst (λ (y : Flat). IsPartTable y o.parts.now) (sym same-flat) (subst (λ (y : PartTable). IsPartTable t y) (sym same-parts) table)

  shape-there : (f : Naming) → Names o.flat.now f → IsShape ns s (shape_of_text (flat_text f o.flat.now))
  shape-there = subst (λ (y : Flat). (f : Naming) → Names y f → IsShape ns s (shape_of_text (flat_text f y))) (sym same-flat) is

  pub can-emit-made : CanEmit ns o s
  can-emit-made = can-emit combs edges onces ns o args-there table-there firsts s shape-there

  pub outcome-made : (y : ProcessOutcome) → IsOutcomeOf ns o s y → IsOutcomeBy names t y
  outcome-made y k = subst (λ (xs : List (List ℕ)). IsOutcomeBy xs t y) same-names
      (subst (λ (z : Flat). IsOutcomeBy o.names z y) same-flat (outcome-by combs edges onces ns o args-there table-there firsts s shape-there y k))

-- a refusal of the flattener, by the module that it stands for
pub refused-in : (a b : Arena) (u : ℕ) (x y : FlatFault) → b ≡ a → x ≡ y → GivesRefusal (flat_of (contents b) (unit_text_at b u)) (refusal_text b x)
    → GivesRefusal (flat_of (contents a) (unit_text_at a u)) (refusal_text a y)
refused-in a b u x y e f g =
    subst (λ (z : FlatFault). GivesRefusal (flat_of (contents a) (unit_text_at a u)) (refusal_text a z)) f
    (subst (λ (z : Arena). GivesRefusal (flat_of (contents z) (unit_text_at z u)) (refusal_text z x)) e g)
