-- A module whose units are replaced by units that may stand for them has the same trace.
use Rattle.std.proofs.Common.{◌≡◌, ℕ, List, [], ◌∷◌, Bool, true, false, if◌then◌else◌, unwrap_or, refl, ap, sym, ◌∙◌, subst, Some, None, ◌⊎◌, inl, inr, map}
use Rattle.lh_unit_names.specs.declared.name.UnitName.{UnitName}
use Rattle.lh_unit.specs.declared.inst.UnitKind.{UnitKind}
use Rattle.lh_unit.specs.declared.inst.UnitKind.TheVariants as kind
use Rattle.lh_unit_names.specs.UnitNames.{same_unit_name}
use Rattle.lh_unit.specs.Contents.{UnitText, ItemText, unit_text, declare_text, new_unit}
use Rattle.lh_unit.specs.Named.{is_function, unit_named}
use Rattle.lh_unit.specs.Activation.{functions}
use Rattle.lh_unit.specs.Hierarchy.{Instance, Hierarchy, hierarchy_by, hierarchy_of, hierarchies, hierarchy_named}
use Rattle.lh_unit.specs.Design.{Elaborated, refused, built, hierarchy_or, hierarchy_in, elab_of}
use Rattle.lh_unit.specs.World.{start_by, start, wake_of, Rules, rules_of, unit_of, starts, first_world}
use Rattle.lh_unit.specs.Trace.{ran, shown_from, shown_signal, trace_by}
use Rattle.lh_trace_laws.specs.Replacing.{HasWidths, MayStand, AllStand, units_defined, Replaced, ReplacedSameTrace}
use Rattle.lh_trace_laws.proofs.Simulation.{Alike}
use Rattle.lh_trace_laws.proofs.Worlds.{Related, same_run}
use Rattle.lh_trace_laws.proofs.Widths.{AllWidths, BuiltWidths, elab_widths}

abbrev Stands : Rules → UnitText → UnitText → Type 0
Stands r x y = (x ≡ y) ⊎ MayStand r x y

stands_name : (r : Rules) (x y : UnitText) → Stands r x y → x.name ≡ y.name
stands_name r x y (inl e) = ap (λ (u : UnitText). u.name) e
stands_name r x y (inr s) = s.name

stands_hierarchy : (r : Rules) (x y : UnitText) → Stands r x y → hierarchy_of x ≡ hierarchy_of y
stands_hierarchy r x y (inl e) = ap hierarchy_of e
stands_hierarchy r x y (inr s) = s.hierarchy

-- what is no function adds none
no_function : (u : UnitText) (us : List UnitText) → (hierarchy_of u).function ≡ false → (if is_function u.kind then u ∷ us else us) ≡ us
no_function u us h = at u.kind h
  where
    at : (k : UnitKind) → (hierarchy_by k u).function ≡ false → (if is_function k then u ∷ us else us) ≡ us
    at kind.Entity e = refl
    at kind.Proc e = refl
    at kind.Func e = cc

same_if_function : (r : Rules) (x y : UnitText) (us : List UnitText) → Stands r x y → (if is_function x.kind then x ∷ us else us) ≡ (if is_function y.kind then y ∷ us else us)
same_if_function r x y us (inl e) = ap (λ (u : UnitText). if is_function u.kind then u ∷ us else us) e
same_if_function r x y us (inr s) = no_function x us s.no_function ∙ sym (no_function y us (sym (ap (λ (h : Hierarchy). h.function) s.hierarchy) ∙ s.no_function))

-- Nothing that a trace looks at reads a declaration.
-- a module of these units alone
abbrev only : List UnitText → List ItemText
only us = map unit_text us

functions_only : (m : List ItemText) → functions m ≡ functions (only (units_defined m))
functions_only [] = refl
functions_only (unit_text u ∷ more) = ap (λ us. if is_function u.kind then u ∷ us else us) (functions_only more)
functions_only (declare_text d ∷ more) = functions_only more

hierarchies_only : (m : List ItemText) → hierarchies m ≡ hierarchies (only (units_defined m))
hierarchies_only [] = refl
hierarchies_only (unit_text u ∷ more) = ap (λ es. record { name = u.name; hierarchy = hierarchy_of u } ∷ es) (hierarchies_only more)
hierarchies_only (declare_text d ∷ more) = hierarchies_only more

unit_only : (n : UnitName) (m : List ItemText) → unit_named n m ≡ unit_named n (only (units_defined m))
unit_only n [] = refl
unit_only n (unit_text u ∷ more) = ap (λ o. if same_unit_name u.name n then Some u else o) (unit_only n more)
unit_only n (declare_text d ∷ more) = unit_only n more

-- the functions are the same
functions_stand : (r : Rules) (xs ys : List UnitText) → AllStand r xs ys → functions (only xs) ≡ functions (only ys)
functions_stand r [] [] h = refl
functions_stand r (x ∷ xs) (y ∷ ys) h = ap (λ us. if is_function x.kind then x ∷ us else us) (functions_stand r xs ys h.1) ∙ same_if_function r x y (functions (only ys)) h.0
functions_stand r [] (y ∷ ys) h = absurd h
functions_stand r (x ∷ xs) [] h = absurd h

same_functions : (r : Rules) (m m' : List ItemText) → Replaced r m m' → functions m ≡ functions m'
same_functions r m m' h = functions_only m ∙ functions_stand r (units_defined m) (units_defined m') h ∙ sym (functions_only m')

-- and so is what elaboration reads
hierarchies_stand : (r : Rules) (xs ys : List UnitText) → AllStand r xs ys → hierarchies (only xs) ≡ hierarchies (only ys)
hierarchies_stand r [] [] h = refl
hierarchies_stand r (x ∷ xs) (y ∷ ys) h =
    let n : x.name ≡ y.name = stands_name r x y h.0 in
    let e : hierarchy_of x ≡ hierarchy_of y = stands_hierarchy r x y h.0 in
    let ih : hierarchies (only xs) ≡ hierarchies (only ys) = hierarchies_stand r xs ys h.1 in
    cc
hierarchies_stand r [] (y ∷ ys) h = absurd h
hierarchies_stand r (x ∷ xs) [] h = absurd h

same_hierarchies : (r : Rules) (m m' : List ItemText) → Replaced r m m' → hierarchies m ≡ hierarchies m'
same_hierarchies r m m' h = hierarchies_only m ∙ hierarchies_stand r (units_defined m) (units_defined m') h ∙ sym (hierarchies_only m')

-- units of one name stand for each other
named_stand : (r : Rules) (n : UnitName) (xs ys : List UnitText) → AllStand r xs ys → Stands r (unit_of (only xs) n) (unit_of (only ys) n)
named_stand r n [] [] h = inl refl
named_stand r n (x ∷ xs) (y ∷ ys) h =
    at (same_unit_name x.name n) (same_unit_name y.name n) (ap (λ k. same_unit_name k n) (stands_name r x y h.0)) (named_stand r n xs ys h.1)
  where
    at : (b c : Bool) → b ≡ c → Stands r (unit_of (only xs) n) (unit_of (only ys) n)
        → Stands r (unwrap_or (if b then Some x else unit_named n (only xs)) (new_unit n kind.Entity)) (unwrap_or (if c then Some y else unit_named n (only ys)) (new_unit n kind.Entity))
    at true true e ih = h.0
    at false false e ih = ih
    at true false e ih = cc
    at false true e ih = cc
named_stand r n [] (y ∷ ys) h = absurd h
named_stand r n (x ∷ xs) [] h = absurd h

units_stand : (r : Rules) (n : UnitName) (m m' : List ItemText) → Replaced r m m' → Stands r (unit_of m n) (unit_of m' n)
units_stand r n m m' h = rw (unit_only n m, unit_only n m') (named_stand r n (units_defined m) (units_defined m') h)

-- what elaboration reads of a unit is that of the unit of this name
hierarchy_of-unit : (n : UnitName) (m : List ItemText) → hierarchy_of (unit_of m n) ≡ hierarchy_in (hierarchies m) n
hierarchy_of-unit n [] = refl
hierarchy_of-unit n (unit_text x ∷ xs) = at (same_unit_name x.name n) (hierarchy_of-unit n xs)
  where
    at : (b : Bool) → hierarchy_of (unit_of xs n) ≡ hierarchy_in (hierarchies xs) n
        → hierarchy_of (unwrap_or (if b then Some x else unit_named n xs) (new_unit n kind.Entity)) ≡ hierarchy_or (if b then Some (hierarchy_of x) else hierarchy_named n (hierarchies xs))
    at true ih = refl
    at false ih = ih
hierarchy_of-unit n (declare_text d ∷ xs) = hierarchy_of-unit n xs

wake_by : (k : UnitKind) (u : UnitText) (i : Instance) → wake_of (start_by k u i) ≡ None
wake_by kind.Entity u i = refl
wake_by kind.Proc u i = refl
wake_by kind.Func u i = refl

alike_start : (r : Rules) (x y : UnitText) (i : Instance) → HasWidths (hierarchy_of x) i → Stands r x y → Alike r x y i None (start x i) (start y i)
alike_start r x y i w (inl e) = let P : UnitText → Type 0 = λ z. Alike r x z i None (start x i) (start z i) in subst P e (record { wake = refl; shows = λ frames. refl })
alike_start r x y i w (inr s) = record {
  wake = wake_by x.kind x i ∙ sym (wake_by y.kind y i);
  shows = s.alike i w;
}

starts_related : (r : Rules) (m m' : List ItemText) → Replaced r m m' → (is : List Instance) → AllWidths (hierarchies m) is → Related r m m' None is (starts m is) (starts m' is)
starts_related r m m' h [] w = refl
starts_related r m m' h (i ∷ more) w =
    (alike_start r (unit_of m i.unit) (unit_of m' i.unit) i (rw (hierarchy_of-unit i.unit m) w.0) (units_stand r i.unit m m' h), starts_related r m m' h more w.1)

same_trace_by : (bound : ℕ) (m m' : List ItemText) → Replaced (rules_of bound m) m m' → (n : ℕ) (e : Elaborated) → BuiltWidths (hierarchies m) e → trace_by bound m n e ≡ trace_by bound m' n e
same_trace_by bound m m' h n (refused r) w = refl
same_trace_by bound m m' h n (built d) w =
    ap (ran (shown_from 0 d.instances) (map shown_signal d.signals))
    (same_run bound m m' d (ap (λ fs. record { bound = bound; functions = fs }) (sym (same_functions (rules_of bound m) m m' h))) n (first_world m d) (first_world m' d)
    (record { init = refl; last = refl; history = refl; states = starts_related (rules_of bound m) m m' h d.instances w }))

pub replaced_same_trace : ReplacedSameTrace
replaced_same_trace bound m m' h top n =
    same_trace_by bound m m' h n (elab_of (hierarchies m) top) (elab_widths (hierarchies m) top)
    ∙ ap (λ table. trace_by bound m' n (elab_of table top)) (same_hierarchies (rules_of bound m) m m' h)
