-- What the `inst` of an entity names, and the ranges that its operands give to the arguments.
use Rattle.std.proofs.Common.{◌≡◌, ◌⊎◌, inl, inr, ℕ, ◌+◌, ◌<◌, ◌≤◌, List, [], ◌∷◌, ◌++◌, map, true, false, if◌then◌else◌, Option, Some, None, IsSome, is_some, refl, ap, sym, ◌∙◌, subst, arith}
use Rattle.std.specs.Option.{option_map_or}
use Rattle.std.proofs.lemmas.Option.{none-some, same_Some}
use Rattle.lh_time.specs.Due.{instant}
use Rattle.lh_types.specs.Types.{TypeTree, signal_type, IsData, bit_count}
use Rattle.lh_types.specs.declared.part.Range.{Range}
use Rattle.lh_unit_names.specs.declared.name.UnitName.{UnitName}
use Rattle.lh_unit.specs.declared.inst.UnitKind.{UnitKind}
use Rattle.lh_unit.specs.declared.inst.UnitKind.TheVariants as kind
use Rattle.lh_unit.specs.Contents.{OperandText, InstText, sig_text, child_text, LineText, ArgText, UnitText, ItemText, unit_text, declare_text}
use Rattle.lh_unit.specs.Held.{part_held, Env, part_at}
use Rattle.lh_unit.specs.Hierarchy.{Child, lines_of, lows_of, child_if, children_of, static_held, hierarchy_by, hierarchy_of, parts_of, SignalText}
use Rattle.lh_unit.specs.Design.{arg_ranges}
use Rattle.lh_unit.specs.Lexemes.{Lexeme}
use Rattle.lh_unit.specs.Named.{unit_named, is_function}
use Rattle.lh_unit.specs.Naming.{kind_text}
use Rattle.lh_unit.specs.Pieces.{lexemes_in}
use Rattle.lh_unit.specs.Places.{places}
use Rattle.lh_unit.specs.Arena.{Arena, IsArena, contents, unit_count, kind_at, unit_name_at, unit_text_at}
use Rattle.lh_unit.specs.Spells.{TypedName, input_of, output_of, SpellsHeader, SpellsPorts, header_item}
use Rattle.lh_unit.specs.Typing.{value_type}
use Rattle.lh_unit.specs.WellFormed.{Site, sites, is_allowed, inputs_of, outputs_of, IsFaultless, IsWellFormed}
use Rattle.lh_unit.specs.Within.{Each}
use Rattle.lh_unit.proofs.ById.{unit_named-by_id}
use Rattle.lh_unit.proofs.Lists.{Each-of-map}
use Rattle.lh_text_laws.specs.ItemLines.{item_line}
use Rattle.lh_text_laws.specs.Printable.{IsPrintable}
use Rattle.lh_verify_laws.specs.Calls.{ArgumentsAre, InstanceIsRight, NamedIsRight}
use Rattle.lh_verify_laws.proofs.CallsLaw.{calls_are_right}
use Rattle.lh_verify_laws.proofs.ShapeLaw.{all_allowed}
use Rattle.lh_verify_laws.proofs.Sound.{site_in}
use Rattle.lh_eval.specs.Fitting.{Fits}
use Rattle.lh_eval.proofs.GivesFit.{part-held}
use Rattle.lh_eval_laws.specs.Ranges.{RangesFit, arg_types, type_if_signal, signal_types, InstanceFits}
use Rattle.lh_eval_laws.specs.Units.{IsPort, HasPorts, UnitIsSound}
use Rattle.lh_eval_laws.specs.Finding.{PartsFound}
use Rattle.lh_verify_laws.proofs.EachItem.{each-contained, each-split}
use Rattle.lh_verify_laws.proofs.AtPlaces.{lines-from}
use Rattle.lh_eval_laws.proofs.OperandsFound.{some-of}
use Rattle.lh_eval_laws.proofs.FindingElab.{parts-are-found}
use Rattle.lh_eval_laws.proofs.FindingStatic.{static-all-fits}
use Rattle.lh_eval_laws.proofs.FitLaws.{of-unit, unit-is-sound, begins-fit}
use Rattle.lh_elab_plan.proofs.PlanSteps.{entity-types}

-- what holds at each instruction of a module without a fault: its unit allows it, and what it names is right
abbrev LineTold : List ItemText → UnitText → LineText → Type 0
LineTold items u l = (is_allowed u.kind l.inst ≡ true) × NamedIsRight items u l.inst

abbrev SiteTold : List ItemText → Site → Type 0
SiteTold items s = LineTold items s.unit s.place.line

abbrev ToldIn : List ItemText → ItemText → Type 0
ToldIn items (unit_text u) = Each (LineTold items u) (lines_of u.blocks)
ToldIn items (declare_text d) = Unit {0}

told-in : (items more : List ItemText) → Each (SiteTold items) (sites more) → Each (ToldIn items) more
told-in items [] e = tt
told-in items (unit_text u ∷ more) e =
    let r = each-split (SiteTold items) (map (site_in u) (places u)) (sites more) e in
    (lines-from (LineTold items u) 1 true u.blocks (Each-of-map (SiteTold items) (site_in u) (places u) r.0), told-in items more r.1)
told-in items (declare_text d ∷ more) e = (tt, told-in items more e)

items-told : (items : List ItemText) → IsFaultless items → Each (ToldIn items) items
items-told items f = told-in items items (each-contained (SiteTold items) (sites items) (λ s c. (all_allowed items s f c, calls_are_right items s f c)))

-- a process has no `sig`
no-signal : (i : InstText) (more : List TypeTree) → is_allowed kind.Proc i ≡ true → more ≡ [] → type_if_signal i more ≡ []
no-signal (sig_text a) more e n = absurd cc
no-signal _ more e n = n

no-signals : (items : List ItemText) (u : UnitText) (ls : List LineText) → u.kind ≡ kind.Proc → Each (LineTold items u) ls → signal_types ls ≡ []
no-signals items u [] e t = refl
no-signals items u (l ∷ ls) e t = no-signal l.inst (signal_types ls) (subst (λ (k : UnitKind). is_allowed k l.inst ≡ true) e t.0.0) (no-signals items u ls e t.1)

-- the inputs of a unit stand before its outputs
inputs-front : (is : List TypedName) (rest : List ArgText) → inputs_of (map input_of is ++ rest) ≡ map input_of is ++ inputs_of rest
inputs-front [] rest = refl
inputs-front (i ∷ is) rest = ap (λ l. input_of i ∷ l) (inputs-front is rest)

no-inputs : (os : List TypedName) → inputs_of (map output_of os) ≡ []
no-inputs [] = refl
no-inputs (o ∷ os) = no-inputs os

outputs-behind : (is : List TypedName) (rest : List ArgText) → outputs_of (map input_of is ++ rest) ≡ outputs_of rest
outputs-behind [] rest = refl
outputs-behind (i ∷ is) rest = outputs-behind is rest

all-outputs : (os : List TypedName) → outputs_of (map output_of os) ≡ map output_of os
all-outputs [] = refl
all-outputs (o ∷ os) = ap (λ l. output_of o ∷ l) (all-outputs os)

append-none : (xs : List ArgText) → xs ++ [] ≡ xs
append-none [] = refl
append-none (x ∷ xs) = ap (λ l. x ∷ l) (append-none xs)

in-order : (is os : List TypedName) → inputs_of (map input_of is ++ map output_of os) ++ outputs_of (map input_of is ++ map output_of os) ≡ map input_of is ++ map output_of os
in-order is os =
    (λ j. inputs-front is (map output_of os) j ++ outputs-behind is (map output_of os) j)
    ∙ (λ j. (map input_of is ++ no-inputs os j) ++ all-outputs os j)
    ∙ ap (λ l. l ++ map output_of os) (append-none (map input_of is))

ports-in-order : (args : List ArgText) (ts : List Lexeme) → SpellsPorts args ts → inputs_of args ++ outputs_of args ≡ args
ports-in-order args ts s = (λ j. inputs_of (s.together j) ++ outputs_of (s.together j)) ∙ in-order s.inputs s.outputs ∙ sym s.together

args-in-order : (k : UnitKind) (n : UnitName) (args : List ArgText) (r : Option TypeTree) (ts : List Lexeme) → SpellsHeader k n args r ts → is_function k ≡ false
    → inputs_of args ++ outputs_of args ≡ args
args-in-order kind.Func n args r ts h e = absurd cc
args-in-order kind.Proc n args (Some r) ts h e = absurd h
args-in-order kind.Proc n args None ts h e = ports-in-order args h.1 h.4
args-in-order kind.Entity n args (Some r) ts h e = absurd h
args-in-order kind.Entity n args None ts h e = ports-in-order args h.1 h.4

printed-in-order : (u : UnitText) → IsPrintable u → is_function u.kind ≡ false → inputs_of u.args ++ outputs_of u.args ≡ u.args
printed-in-order u p e = args-in-order u.kind u.name u.args u.result (lexemes_in (item_line (header_item u.kind u.name u.args u.result))) p.headed.1 e

arguments-append : (u : UnitText) (os ps : List OperandText) (xs ys : List ArgText) → ArgumentsAre u os xs → ArgumentsAre u ps ys → ArgumentsAre u (os ++ ps) (xs ++ ys)
arguments-append u [] ps [] ys e f = f
arguments-append u [] ps (x ∷ xs) ys e f = absurd e
arguments-append u (o ∷ os) ps [] ys e f = absurd e
arguments-append u (o ∷ os) ps (x ∷ xs) ys e f = (e.0, arguments-append u os ps xs ys e.1 f)

-- the ranges that operands give to arguments of their types
module _ (u : UnitText) (w : ℕ) (e : Env) (f : Fits u w e) where
  pub part-within : (n : List ℕ) (r : Range) (t : TypeTree) → part_at e n ≡ Some r → value_type u n ≡ Some (signal_type t) → IsData t × (r.len ≡ bit_count t) × (r.lo + r.len ≤ w)
  part-within n r t p v = f n (part_held r) (signal_type t) (part-held (e n) r p) v

  ranges-fit : (os : List OperandText) (xs : List ArgText) → ArgumentsAre u os xs → Each IsPort xs → Each (λ (o : OperandText). IsSome (part_at e o.value)) os
      → RangesFit w (arg_ranges xs (lows_of e os)) (arg_types xs)
  ranges-fit [] [] h p s = tt
  ranges-fit [] (x ∷ xs) h p s = absurd h
  ranges-fit (o ∷ os) [] h p s = absurd h
  ranges-fit (o ∷ os) (x ∷ xs) h p s =
      let r = some-of (part_at e o.value) s.0 in
      let k = part-within o.value r.0 p.0.0 r.1 (h.0 ∙ ap Some p.0.1) in
      let lo : option_map_or (λ (q : Range). q.lo) (part_at e o.value) 0 ≡ r.0.lo = ap (λ q. option_map_or (λ (z : Range). z.lo) q 0) r.1 in
      let len : bit_count x.ty ≡ bit_count p.0.0 = ap bit_count p.0.1 in
      (refl, omega (arith, lo, len, k.1, k.2), ranges-fit os xs h.1 p.1 s.1)

-- a unit that can be instantiated
abbrev pub IsInstantiable : Option UnitKind → Type 0
IsInstantiable k = (k ≡ Some kind.Proc) ⊎ (k ≡ Some kind.Entity)

pub instantiable-there : (k : Option UnitKind) → IsInstantiable k → IsSome k
instantiable-there k (inl e) = subst (λ (x : Option UnitKind). IsSome x) (sym e) refl
instantiable-there k (inr e) = subst (λ (x : Option UnitKind). IsSome x) (sym e) refl

instantiable-ports : (k : Option UnitKind) (xs : List ArgText) → IsInstantiable k → HasPorts (kind_text k) xs → Each IsPort xs
instantiable-ports k xs (inl e) h = subst (λ (x : UnitKind). HasPorts x xs) (ap kind_text e) h
instantiable-ports k xs (inr e) h = subst (λ (x : UnitKind). HasPorts x xs) (ap kind_text e) h

pub no-function : (k : Option UnitKind) → IsSome k → is_function (kind_text k) ≡ false → IsInstantiable k
no-function None s e = absurd cc
no-function (Some kind.Func) s e = absurd cc
no-function (Some kind.Proc) s e = inl refl
no-function (Some kind.Entity) s e = inr refl

module _ (a : Arena) (o : IsArena a) (g : IsWellFormed (contents a)) where
  -- the unit of a name by its id
  target : (j : ℕ) → j < unit_count a → (of : UnitText) → unit_named (unit_name_at a j) (contents a) ≡ Some of → is_function of.kind ≡ false → (of ≡ unit_text_at a j) × IsInstantiable (kind_at a j)
  target j l of n f = by (kind_at a j) refl (sym (unit_named-by_id a j o l) ∙ n)
    where
      by : (k : Option UnitKind) → kind_at a j ≡ k → (if is_some k then Some (unit_text_at a j) else None) ≡ Some of → (of ≡ unit_text_at a j) × IsInstantiable (kind_at a j)
      by None e q = absurd (none-some of q)
      by (Some x) e q =
          let same : unit_text_at a j ≡ of = same_Some (unit_text_at a j) of q in
          let fun : is_function (kind_text (kind_at a j)) ≡ false = ap (λ (v : UnitText). is_function v.kind) same ∙ f in
          (sym same, no-function (kind_at a j) (subst (λ (k : Option UnitKind). IsSome k) (sym e) refl) fun)

  -- an instance is of a process or an entity, and the ranges of its arguments fit it
  abbrev pub ChildFits : ℕ → Child → Type 0
  ChildFits w c = (j : ℕ) → j < unit_count a → unit_name_at a j ≡ c.unit → IsInstantiable (kind_at a j) × RangesFit w (arg_ranges (unit_text_at a j).args c.lows) (arg_types (unit_text_at a j).args)

  module _ (u : UnitText) (w : ℕ) (e : Env) (f : Fits u w e) where
    connected : (v : UnitName) (inputs outputs : List OperandText) → InstanceIsRight (contents a) u v inputs outputs → Each (λ (x : OperandText). IsSome (part_at e x.value)) (inputs ++ outputs)
        → ChildFits w (record { unit = v; lows = lows_of e (inputs ++ outputs) })
    connected v inputs outputs r s j l n =
        let z = target j l r.of (ap (λ m. unit_named m (contents a)) n ∙ r.named) r.no_function in
        let x = unit_text_at a j in
        let sound : UnitIsSound x = unit-is-sound a j o l g (instantiable-there (kind_at a j) z.1) in
        let ports : Each IsPort x.args = instantiable-ports (kind_at a j) x.args z.1 sound.ports in
        let all : ArgumentsAre u (inputs ++ outputs) (inputs_of r.of.args ++ outputs_of r.of.args) = arguments-append u inputs outputs (inputs_of r.of.args) (outputs_of r.of.args) r.inputs_are
        r.outputs_are in
        let same : inputs_of r.of.args ++ outputs_of r.of.args ≡ x.args = ap (λ (y : UnitText). inputs_of y.args ++ outputs_of y.args) z.0
        ∙ printed-in-order x sound.printable (sym (ap (λ (y : UnitText). is_function y.kind) z.0) ∙ r.no_function) in
        (z.1, ranges-fit u w e f (inputs ++ outputs) x.args (subst (ArgumentsAre u (inputs ++ outputs)) same all) ports s)

    child-fits : (i : InstText) (more : List Child) → NamedIsRight (contents a) u i → PartsFound e i → Each (ChildFits w) more → Each (ChildFits w) (child_if e i more)
    child-fits (child_text v inputs outputs) more r s m = (connected v inputs outputs r s, m)
    child-fits _ more r s m = m

    children-fit : (ls : List LineText) → Each (LineTold (contents a) u) ls → Each (λ (l : LineText). PartsFound e l.inst) ls → Each (ChildFits w) (children_of e ls)
    children-fit [] t s = tt
    children-fit (l ∷ ls) t s = child-fits l.inst (children_of e ls) t.0.1 s.0 (children-fit ls t.1 s.1)

  module _ (u : ℕ) (l : u < unit_count a) where
    abbrev here : UnitText
    here = unit_text_at a u

    told : IsSome (kind_at a u) → Each (LineTold (contents a) here) (lines_of here.blocks)
    told b = of-unit a u o l g b (ToldIn (contents a)) (items-told (contents a) g.1)

    -- what an entity holds without any probe fits
    pub static-fits : kind_at a u ≡ Some kind.Entity → (args sigs : List Range) (w : ℕ) → InstanceFits here args sigs w → Fits here w (static_held here args sigs)
    static-fits k args sigs w f =
        let b : IsSome (kind_at a u) = instantiable-there (kind_at a u) (inr k) in
        static-all-fits here [] None (instant 0 0 0) w (lines_of here.blocks) (parts_of here args sigs) (unit-is-sound a u o l g b).lines (begins-fit a u o l g k args sigs w f)

    -- the instances in an instance whose ranges fit
    pub all-children-fit : IsInstantiable (kind_at a u) → (args sigs : List Range) (w : ℕ) → InstanceFits here args sigs w → Each (ChildFits w) ((hierarchy_of here).children args sigs)
    all-children-fit (inl k) args sigs w f = subst (λ (x : UnitKind). Each (ChildFits w) ((hierarchy_by x here).children args sigs)) (sym (ap kind_text k)) tt
    all-children-fit (inr k) args sigs w f =
        let e = static_held here args sigs in
        let b : IsSome (kind_at a u) = instantiable-there (kind_at a u) (inr k) in
        let all : Each (ChildFits w) (children_of e (lines_of here.blocks)) = children-fit here w e (static-fits k args sigs w f) (lines_of here.blocks) (told b)
        (parts-are-found a u o l g k args sigs w f) in
        subst (λ (x : UnitKind). Each (ChildFits w) ((hierarchy_by x here).children args sigs)) (sym (ap kind_text k)) all

    -- the types of its signals
    pub types-read : IsInstantiable (kind_at a u) → map (λ (s : SignalText). s.ty) (hierarchy_of here).signals ≡ signal_types (lines_of here.blocks)
    types-read (inl k) =
        ap (λ (x : UnitKind). map (λ (s : SignalText). s.ty) (hierarchy_by x here).signals) (ap kind_text k)
        ∙ sym (no-signals (contents a) here (lines_of here.blocks) (ap kind_text k) (told (instantiable-there (kind_at a u) (inl k))))
    types-read (inr k) = entity-types here (ap kind_text k)
