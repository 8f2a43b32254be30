-- Elaboration finds what it looks for in an entity.
use Rattle.std.proofs.Common.{◌≡◌, ◌≤◌, ◌<◌, ℕ, suc, ◌+◌, List, [], ◌∷◌, ◌++◌, length, map, replicate, Bool, true, false, ◌||◌, Option, Some, None, IsSome, refl, ap, sym, ◌∙◌, subst, arith}
use Rattle.std.specs.List.{list_any}
use Rattle.std.specs.Option.{option_and_then}
use Rattle.std.proofs.lemmas.Option.{same_Some}
use Rattle.std.proofs.lemmas.Bool.{false_from_ne_true, or_parts}
use Rattle.std.proofs.lemmas.List.{length-append, length-replicate}
use Rattle.lh_time.specs.declared.Instant.{Instant}
use Rattle.lh_types.specs.Types.{TypeTree, int_type, time_type, void_type, array_type, tuple_type, signal_type, pointer_type, IsData, bit_count}
use Rattle.lh_time.specs.Due.{instant}
use Rattle.lh_types.specs.Wish.{no_wish}
use Rattle.lh_types.specs.declared.part.Range.{Range}
use Rattle.lh_unit.specs.declared.inst.UnitKind.{UnitKind}
use Rattle.lh_unit.specs.declared.inst.UnitKind.TheVariants as kind
use Rattle.lh_unit.specs.Contents.{OperandText, InstText, sig_text, prb_text, child_text, LineText, BlockText, ArgText, UnitText, ItemText, unit_text, declare_text, args_define}
use Rattle.lh_unit_names.specs.Names.{same_name}
use Rattle.lh_unit.specs.Typing.{value_type}
use Rattle.lh_unit.specs.Kinds.{Kind, a_datum, a_time, a_signal, a_pointer, kind_of, Use, uses, takes, signal_needed, all_used}
use Rattle.lh_unit.specs.Held.{part_held, Env, as_datum, nothing_held, with_args, datum_at, part_at}
use Rattle.lh_unit.specs.Hierarchy.{lines_of, signal_names, parts_of, with_parts, static_from, static_held}
use Rattle.lh_unit.specs.Pass.{Passed}
use Rattle.lh_unit.specs.Places.{InstPlaceText, places_in, places_from, places}
use Rattle.lh_unit.specs.Arena.{Arena, IsArena, unit_count, kind_at, contents, unit_text_at}
use Rattle.lh_unit.specs.Naming.{kind_text}
use Rattle.lh_unit.specs.WellFormed.{Site, sites, values_named, wrong_kind, is_wrong_kind, has_wrong_kind, names_wrong_unit, depends_on_probe, probes_for_signal, IsFaultless, IsWellFormed}
use Rattle.lh_unit.specs.Within.{Each}
use Rattle.lh_unit.proofs.Within.{Each-more}
use Rattle.lh_unit.proofs.Lists.{Each-append, Each-of-map}
use Rattle.lh_unit_names.proofs.NameLists.{same_name-is}
use Rattle.lh_verify_laws.specs.Operands.{IsOf, RowIs}
use Rattle.lh_verify_laws.specs.KindsOf.{ArgsHaveKinds, HasTypeOfKind}
use Rattle.lh_verify_laws.proofs.KindsLaw.{operands_have_types}
use Rattle.lh_verify_laws.proofs.Sound.{site_in, at_site}
use Rattle.lh_eval.specs.Fitting.{IsTypeWithinLimits, Fits}
use Rattle.lh_eval.specs.Sound.{InstIsSound}
use Rattle.lh_eval.proofs.GivesFit.{value-type}
use Rattle.lh_eval_laws.specs.Ranges.{RangesFit, arg_types, signal_types, InstanceFits}
use Rattle.lh_eval_laws.specs.Units.{HasItsType, IsPort, HasPorts, SigWritesData, WritesData, UnitIsSound}
use Rattle.lh_eval_laws.specs.Finding.{PartsFound, InitialFound}
use Rattle.lh_verify_laws.proofs.EachItem.{each-contained, each-split}
use Rattle.lh_verify_laws.proofs.AtPlaces.{lines-from}
use Rattle.lh_eval_laws.proofs.Begins.{nothing-fits}
use Rattle.lh_eval_laws.proofs.NamedOnce.{IsFirst, each-first}
use Rattle.lh_eval_laws.proofs.SoundLines.{lines-printed}
use Rattle.lh_eval_laws.proofs.FitLaws.{of-unit, unit-is-sound, begins-fit}
use Rattle.lh_eval_laws.proofs.OperandsFound.{some-of, is-some, part-at}
use Rattle.lh_eval_laws.proofs.FindingPass.{EntityLines, EntityIn, entities-of-items, fit-lines, named_in, SigsHeld, parts-stay, args-held, sigs-held}
use Rattle.lh_eval_laws.proofs.FindingStatic.{OfSignals, static-all-fits, signals-found}
use Rattle.lh_eval_laws.proofs.FindingValues.{FreeValue, value-held, values-found}

-- a place that takes a signal has one
pub signal-of-kind : (t : TypeTree) (k : Kind) → kind_of t ≡ Some k → takes signal_needed k ≡ true → (b : TypeTree) × (t ≡ signal_type b)
signal-of-kind t a_datum e h = absurd cc
signal-of-kind t a_time e h = absurd cc
signal-of-kind t a_pointer e h = absurd cc
signal-of-kind (signal_type b) a_signal e h = (b, refl)
signal-of-kind (int_type n) a_signal e h = absurd cc
signal-of-kind (array_type n b) a_signal e h = absurd cc
signal-of-kind (tuple_type ts) a_signal e h = absurd cc
signal-of-kind time_type a_signal e h = absurd cc
signal-of-kind void_type a_signal e h = absurd cc
signal-of-kind (pointer_type b) a_signal e h = absurd cc

named-split : (P : List ℕ → Type 0) (xs ys : List Use) → Each P (named_in (xs ++ ys)) → Each P (named_in xs) × Each P (named_in ys)
named-split P [] ys h = (tt, h)
named-split P (x ∷ xs) ys h = let r = named-split P xs ys h.1 in ((h.0, r.0), r.1)

module _ (u : UnitText) (now : List Bool) (memory : Option (List Bool)) (t : Instant) (w : ℕ) (e : Env) (f : Fits u w e) where
  used-parts : (os : List OperandText) → Each (OfSignals u now memory t e) (named_in (all_used signal_needed os)) → Each (HasTypeOfKind u) (all_used signal_needed os)
      → Each (λ (o : OperandText). IsSome (part_at e o.value)) os
  used-parts [] h k = tt
  used-parts (o ∷ os) h k =
      let s = signal-of-kind k.0.0 k.0.1 k.0.3 k.0.4 in
      let is : IsOf u (signal_type s.0) o.value = k.0.2 ∙ ap Some s.1 in
      let r = part-at u w e f o.value s.0 is (h.0 s.0 is) in
      (is-some (part_at e o.value) r.0 r.1, used-parts os h.1 k.1)

  parts-found : (i : InstText) → RowIs u i → Each (OfSignals u now memory t e) (values_named i) → Each (HasTypeOfKind u) (uses i) → PartsFound e i
  parts-found (prb_text s) row h k = let r = part-at u w e f s.value row.0 row.1.1 (h.0 row.0 row.1.1) in is-some (part_at e s.value) r.0 r.1
  parts-found (child_text v inputs outputs) row h k =
      let a = named-split (OfSignals u now memory t e) (all_used signal_needed inputs) (all_used signal_needed outputs) h in
      let b = each-split (HasTypeOfKind u) (all_used signal_needed inputs) (all_used signal_needed outputs) k in
      Each-append (λ (o : OperandText). IsSome (part_at e o.value)) inputs outputs (used-parts inputs a.0 b.0) (used-parts outputs a.1 b.1)
  parts-found _ row h k = tt

  all-parts-found : (ls : List LineText) → Each (InstIsSound u) ls → Each (λ (l : LineText). Each (OfSignals u now memory t e) (values_named l.inst)) ls
      → Each (λ (l : LineText). Each (HasTypeOfKind u) (uses l.inst)) ls → Each (λ (l : LineText). PartsFound e l.inst) ls
  all-parts-found [] s h k = tt
  all-parts-found (l ∷ ls) s h k = (parts-found l.inst s.0.row h.0 k.0, all-parts-found ls s.1 h.1 k.1)

  -- the operand of no `sig` comes from a probe
  initial-found : (most : ℕ) (i : InstText) (r : Option (List ℕ)) → RowIs u i → SigWritesData r i → Each (FreeValue u now memory t most e) (values_named i) → probes_for_signal u i ≡ false
      → most ≡ suc (length (places u)) → InitialFound e i
  initial-found most (sig_text a) r row wr h q m =
      let same : wr.0 ≡ row.0 = same_Some wr.0 row.0 (sym wr.1 ∙ row.2.0) in
      let v : IsTypeWithinLimits row.0 = value-type row.0 (subst IsData same wr.2) in
      let free : depends_on_probe most u a.value ≡ false = ap (λ k. depends_on_probe k u a.value) m ∙ q in
      let x = some-of (e a.value) (h.0 free row.0 row.2.1 v) in
      let d = value-held w x.0 row.0 v (f a.value x.0 row.0 x.1 row.2.1) in
      (is-some a.ty row.0 row.2.0, is-some (datum_at e a.value) d.0 (ap (option_and_then as_datum) x.1 ∙ d.1))
  initial-found most _ r row wr h q m = tt

  all-initials-found : (most : ℕ) → most ≡ suc (length (places u)) → (ls : List LineText) → Each (InstIsSound u) ls → Each WritesData ls
      → Each (λ (l : LineText). Each (FreeValue u now memory t most e) (values_named l.inst)) ls
      → Each (λ (l : LineText). probes_for_signal u l.inst ≡ false) ls → Each (λ (l : LineText). InitialFound e l.inst) ls
  all-initials-found most m [] s wr h q = tt
  all-initials-found most m (l ∷ ls) s wr h q = (initial-found most l.inst l.result s.0.row wr.0 h.0 q.0 m, all-initials-found most m ls s.1 wr.1 h.1 q.1)

-- as many places as lines
places-in-count : (k : ℕ) (e : Bool) (b : BlockText) (before rest : List LineText) → length (places_in k e b before rest) ≡ length rest
places-in-count k e b before [] = refl
places-in-count k e b before (l ∷ rest) = ap suc (places-in-count (k + 1) e b (before ++ l ∷ []) rest)

places-from-count : (k : ℕ) (e : Bool) (bs : List BlockText) → length (places_from k e bs) ≡ length (lines_of bs)
places-from-count k e [] = refl
places-from-count k e (b ∷ bs) =
    let left : length (places_in k e b [] b.lines ++ places_from (k + length b.lines) false bs) ≡ length (places_in k e b [] b.lines) + length (places_from (k + length b.lines) false bs) =
    length-append (places_in k e b [] b.lines) _ in
    let right : length (b.lines ++ lines_of bs) ≡ length b.lines + length (lines_of bs) = length-append b.lines (lines_of bs) in
    let here : length (places_in k e b [] b.lines) ≡ length b.lines = places-in-count k e b [] b.lines in
    let more : length (places_from (k + length b.lines) false bs) ≡ length (lines_of bs) = places-from-count (k + length b.lines) false bs in
    omega (arith, left, right, here, more)

-- what holds at each instruction of a unit without a fault
record SiteTold (s : Site) : Type 0 where
  kinds : ArgsHaveKinds s.unit → Each (HasTypeOfKind s.unit) (uses s.place.line.inst)
  free : probes_for_signal s.unit s.place.line.inst ≡ false

record UnitTold (u : UnitText) : Type 0 where
  kinds : ArgsHaveKinds u → Each (λ (l : LineText). Each (HasTypeOfKind u) (uses l.inst)) (lines_of u.blocks)
  free : Each (λ (l : LineText). probes_for_signal u l.inst ≡ false) (lines_of u.blocks)

abbrev ToldIn : ItemText → Type 0
ToldIn (unit_text u) = UnitTold u
ToldIn (declare_text d) = Unit {0}

unit-told : (u : UnitText) → Each SiteTold (map (site_in u) (places u)) → UnitTold u
unit-told u h =
    let ps : Each (λ p. SiteTold (site_in u p)) (places u) = Each-of-map SiteTold (site_in u) (places u) h in
    record {
      kinds = λ k. lines-from (λ (l : LineText). Each (HasTypeOfKind u) (uses l.inst)) 1 true u.blocks
          (Each-more (λ p. SiteTold (site_in u p)) (λ (p : InstPlaceText). Each (HasTypeOfKind u) (uses p.line.inst)) (places u) (λ p q. q.kinds k) ps);
      free = lines-from (λ (l : LineText). probes_for_signal u l.inst ≡ false) 1 true u.blocks
          (Each-more (λ p. SiteTold (site_in u p)) (λ (p : InstPlaceText). probes_for_signal u p.line.inst ≡ false) (places u) (λ p q. q.free) ps);
    }

units-told : (items : List ItemText) → Each SiteTold (sites items) → Each ToldIn items
units-told [] h = tt
units-told (unit_text u ∷ more) h = let r = each-split SiteTold (map (site_in u) (places u)) (sites more) h in (unit-told u r.0, units-told more r.1)
units-told (declare_text d ∷ more) h = (tt, units-told more h)

no-probes : (items : List ItemText) (u : UnitText) (i : InstText) → ¬ (is_wrong_kind items u i ≡ true) → probes_for_signal u i ≡ false
no-probes items u (sig_text a) k =
    let b = or_parts (list_any (has_wrong_kind u) (uses (sig_text a)) || names_wrong_unit items (sig_text a)) (probes_for_signal u (sig_text a)) (false_from_ne_true _ k) in
    b.1
no-probes items u _ k = refl

items-told : (items : List ItemText) → IsFaultless items → Each ToldIn items
items-told items f = units-told items (each-contained SiteTold (sites items) (λ s c. record {
  kinds = λ k. operands_have_types items s f c k;
  free = no-probes items s.unit s.place.line.inst ((at_site items s f c).none wrong_kind);
}))

-- the arguments of an entity are signals
port-kinds : (args : List ArgText) → Each IsPort args → Each (λ (a : ArgText). (k : Kind) × (kind_of a.ty ≡ Some k)) args
port-kinds [] h = tt
port-kinds (a ∷ more) h = ((a_signal, ap kind_of h.0.1), port-kinds more h.1)

port-named : (u : UnitText) (args : List ArgText) → Each (HasItsType u) args → Each IsPort args → (n : List ℕ) → args_define n args ≡ true → (b : TypeTree) × IsOf u (signal_type b) n
port-named u [] h k n q = absurd cc
port-named u (a ∷ more) h k n q = at (same_name a.name n) refl q (port-named u more h.1 k.1 n)
  where
    at : (b : Bool) → same_name a.name n ≡ b → (b || args_define n more) ≡ true → (args_define n more ≡ true → (b : TypeTree) × IsOf u (signal_type b) n) → (b : TypeTree) × IsOf u (signal_type b) n
    at true e q go = (k.0.0, sym (ap (value_type u) (same_name-is a.name n e)) ∙ h.0 ∙ ap Some k.0.1)
    at false e q go = go q

-- ranges that have the widths of some types, within enough bits
abbrev ranges_for : List TypeTree → List Range
ranges_for ts = map (λ t. record { lo = 0; len = bit_count t }) ts

abbrev widths : List TypeTree → ℕ
widths [] = 0
widths (t ∷ ts) = bit_count t + widths ts

ranges-fit : (ts : List TypeTree) (w : ℕ) → widths ts ≤ w → RangesFit w (ranges_for ts) ts
ranges-fit [] w h = tt
ranges-fit (t ∷ ts) w h = (refl, omega (arith, h), ranges-fit ts w (omega (arith, h)))

-- nothing is connected
pub parts-of-none : (e : Env) (names : List (Option (List ℕ))) → with_parts e names [] ≡ e
parts-of-none e [] = refl
parts-of-none e (n ∷ names) = refl

args-of-none : (e : Env) (args : List ArgText) → with_args e args [] ≡ e
args-of-none e [] = refl
args-of-none e (a ∷ args) = refl

module _ (a : Arena) (u : ℕ) (o : IsArena a) (h : u < unit_count a) (g : IsWellFormed (contents a)) (k : kind_at a u ≡ Some kind.Entity) where
  abbrev here : UnitText
  here = unit_text_at a u

  abbrev lines : List LineText
  lines = lines_of here.blocks

  defined : IsSome (kind_at a u)
  defined = subst (λ (x : Option UnitKind). IsSome x) (sym k) refl

  sound : UnitIsSound here
  sound = unit-is-sound a u o h g defined

  entity : EntityLines here
  entity = of-unit a u o h g defined EntityIn (entities-of-items (contents a) g.1) (ap kind_text k)

  told : UnitTold here
  told = of-unit a u o h g defined ToldIn (items-told (contents a) g.1)

  ports : Each IsPort here.args
  ports = subst (λ (x : UnitKind). HasPorts x here.args) (ap kind_text k) sound.ports

  kinds : Each (λ (l : LineText). Each (HasTypeOfKind here) (uses l.inst)) lines
  kinds = told.kinds (port-kinds here.args ports)

  firsts : Each (IsFirst here.args lines) lines
  firsts = each-first here.args lines [] lines refl sound.printable.new_results

  abbrev first_at : Instant
  first_at = instant 0 0 0

  module _ (args sigs : List Range) (w : ℕ) (f : InstanceFits here args sigs w) where
    abbrev begins : Env
    begins = parts_of here args sigs

    abbrev bits : List Bool
    bits = replicate w false

    as-many : length bits ≡ w
    as-many = length-replicate w false

    fits-bits : InstanceFits here args sigs (length bits)
    fits-bits = subst (InstanceFits here args sigs) (sym as-many) f

    fits-there : Fits here (length bits) begins
    fits-there = begins-fit a u o h g k args sigs (length bits) fits-bits

    known-there : (n : List ℕ) → args_define n here.args ≡ true → IsSome (begins n)
    known-there n q = parts-stay (with_args nothing_held here.args (map part_held args)) (signal_names lines) sigs n (args-held (length bits) nothing_held here.args args fits-bits.of_args n q)

    sigs-there : SigsHeld begins lines
    sigs-there = sigs-held (length bits) lines sigs (with_args nothing_held here.args (map part_held args)) fits-bits.of_signals

    abbrev start : Passed
    start = record { held = begins; seen = []; wish = no_wish }

    pub parts-are-found : Each (λ (l : LineText). PartsFound (static_held here args sigs) l.inst) lines
    parts-are-found =
        all-parts-found here bits None first_at (length bits) (static_held here args sigs) (static-all-fits here bits None first_at (length bits) lines begins sound.lines fits-there) lines sound.lines
        (signals-found here bits None first_at lines start begins (λ n. args_define n here.args) known-there fits-there (λ n q b i. known-there n q) fits-there
        sound.lines entity.0 (fit-lines lines entity.1 (lines-printed here sound.printable)) sigs-there sigs-there) kinds

    initials-by : Each (λ (l : LineText). InitialFound (static_from here nothing_held lines) l.inst) lines
    initials-by =
        let room : 0 + length lines ≤ suc (length (places here)) = let c : length (places here) ≡ length lines = places-from-count 1 true here.blocks in omega (arith, c) in
        all-initials-found here bits None first_at (length bits) (static_from here nothing_held lines)
        (static-all-fits here bits None first_at (length bits) lines nothing_held sound.lines (nothing-fits here (length bits)))
        (suc (length (places here))) refl lines sound.lines sound.signals
        (values-found here bits None first_at (suc (length (places here))) lines 0 start nothing_held (λ n. args_define n here.args) room known-there fits-there no-values
        (nothing-fits here (length bits))
        sound.lines entity.0 (fit-lines lines entity.1 (lines-printed here sound.printable)) firsts kinds sigs-there) told.free
      where
        no-signal : (b : TypeTree) (ty : TypeTree) → signal_type b ≡ ty → IsTypeWithinLimits ty → ⊥
        no-signal b ty e v = let P : TypeTree → Type 0 = IsTypeWithinLimits in subst P (sym e) v

        no-values : (n : List ℕ) → args_define n here.args ≡ true → (i : ℕ) → 0 ≤ i → FreeValue here bits None first_at i nothing_held n
        no-values n q i le d ty is v =
            let p = port-named here here.args sound.args ports n q in
            absurd (no-signal p.0 ty (same_Some (signal_type p.0) ty (sym p.1 ∙ is)) v)

  static-none : static_held here [] [] ≡ static_from here nothing_held lines
  static-none = ap (λ (e : Env). static_from here e lines)
      (ap (λ (e : Env). with_parts e (signal_names lines) []) (args-of-none nothing_held here.args) ∙ parts-of-none nothing_held (signal_names lines))

  pub initials-are-found : Each (λ (l : LineText). InitialFound (static_held here [] []) l.inst) lines
  initials-are-found =
      let ats : List TypeTree = arg_types here.args in
      let sts : List TypeTree = signal_types lines in
      let w : ℕ = widths ats + widths sts in
      subst (λ (e : Env). Each (λ (l : LineText). InitialFound e l.inst) lines) (sym static-none)
      (initials-by (ranges_for ats) (ranges_for sts) w (record { of_args = ranges-fit ats w (omega arith); of_signals = ranges-fit sts w (omega arith) }))
