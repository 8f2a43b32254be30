-- The instances of a design have arguments and signals of the widths of their types.
use Rattle.std.proofs.Common.{◌≡◌, ℕ, zero, suc, ◌+◌, List, [], ◌∷◌, ◌++◌, map, length, refl, ap, ◌∙◌, Option, Some, None}
use Rattle.lh_types.specs.Types.{TypeTree, int_type, time_type, void_type, array_type, tuple_type, signal_type, pointer_type, bit_count}
use Rattle.lh_types.specs.declared.part.Range.{Range}
use Rattle.lh_unit_names.specs.declared.name.UnitName.{UnitName}
use Rattle.lh_unit.specs.Contents.{ArgText}
use Rattle.lh_unit.specs.Hierarchy.{Instance, SignalText, Child, Hierarchy, Entry, hierarchy_named}
use Rattle.lh_unit.specs.Design.{Design, Refusal, Elaborated, refused, built, hierarchy_in, max_nesting, arg_ranges, signal_ranges, with_instance, visit_all, visited, visit, carried_type, top_signals, only_signals, design_of, refusal_of, elaborated, elab_named, elab_of}
use Rattle.lh_trace_laws.specs.Replacing.{HasWidths}

-- each instance has the widths of its unit
abbrev pub AllWidths : List Entry → List Instance → Type 0
AllWidths table [] = Unit {0}
AllWidths table (i ∷ more) = HasWidths (hierarchy_in table i.unit) i × AllWidths table more

widths_append : (table : List Entry) (xs : List Instance) (y : Instance) → AllWidths table xs → HasWidths (hierarchy_in table y.unit) y → AllWidths table (xs ++ y ∷ [])
widths_append table [] y a h = (h, tt)
widths_append table (x ∷ xs) y a h = (a.0, widths_append table xs y a.1 h)

arg_widths : (args : List ArgText) (lows : List ℕ) → map (λ (r : Range). r.len) (arg_ranges args lows) ≡ map (λ (a : ArgText). bit_count a.ty) args
arg_widths [] lows = refl
arg_widths (a ∷ more) [] = ap (λ ws. bit_count a.ty ∷ ws) (arg_widths more [])
arg_widths (a ∷ more) (lo ∷ lows) = ap (λ ws. bit_count a.ty ∷ ws) (arg_widths more lows)

signal_widths : (lo : ℕ) (ss : List SignalText) → map (λ (r : Range). r.len) (signal_ranges lo ss) ≡ map (λ (s : SignalText). bit_count s.ty) ss
signal_widths lo [] = refl
signal_widths lo (s ∷ more) = ap (λ ws. bit_count s.ty ∷ ws) (signal_widths (lo + bit_count s.ty) more)

carried_bits : (t : TypeTree) → bit_count (carried_type t) ≡ bit_count t
carried_bits (signal_type t) = refl
carried_bits (int_type n) = refl
carried_bits time_type = refl
carried_bits void_type = refl
carried_bits (array_type n t) = refl
carried_bits (tuple_type r) = refl
carried_bits (pointer_type t) = refl

top_widths : (args : List ArgText) → map (λ (s : SignalText). bit_count s.ty) (top_signals args) ≡ map (λ (a : ArgText). bit_count a.ty) args
top_widths [] = refl
top_widths (a ∷ more) =
    let e : bit_count (carried_type a.ty) ≡ bit_count a.ty = carried_bits a.ty in
    let ih : map (λ (s : SignalText). bit_count s.ty) (top_signals more) ≡ map (λ (a : ArgText). bit_count a.ty) more = top_widths more in
    cc

module _ (table : List Entry) where
  abbrev Keeps : (Child → Design → Design) → Type 0
  Keeps visit = (c : Child) (d : Design) → AllWidths table d.instances → AllWidths table (visit c d).instances

  all_keep : (visit : Child → Design → Design) → Keeps visit → (cs : List Child) (d : Design) → AllWidths table d.instances → AllWidths table (visit_all visit cs d).instances
  all_keep visit k [] d a = a
  all_keep visit k (c ∷ more) d a = all_keep visit k more (visit c d) (k c d a)

  visited_keeps : (visit : ℕ → Child → Design → Design) → ((parent : ℕ) → Keeps (visit parent)) → (parent : Option ℕ) (n : UnitName) (args : List Range) (d : Design)
      → map (λ (r : Range). r.len) args ≡ map (λ (a : ArgText). bit_count a.ty) (hierarchy_in table n).args
      → AllWidths table d.instances → AllWidths table (visited visit parent n (hierarchy_in table n) args d).instances
  visited_keeps visit k parent n args d e a =
      all_keep (visit (length d.instances)) (k (length d.instances)) ((hierarchy_in table n).children args (signal_ranges (length d.init) (hierarchy_in table n).signals))
      (with_instance parent n (hierarchy_in table n) args d)
      (widths_append table d.instances _ a (record { args = e; sigs = signal_widths (length d.init) (hierarchy_in table n).signals }))

  visit_keeps : (k : ℕ) (parent : ℕ) → Keeps (visit k table parent)
  unfolding visit
  visit_keeps zero parent c d a = a
  visit_keeps (suc k) parent c d a = visited_keeps (visit k table) (visit_keeps k) (Some parent) c.unit _ d (arg_widths (hierarchy_in table c.unit).args c.lows) a

  design_widths : (k : ℕ) (top : UnitName) → AllWidths table (design_of k table top).instances
  unfolding design_of
  design_widths zero top = tt
  design_widths (suc k) top =
      visited_keeps (visit k table) (visit_keeps k) None top _ (only_signals (top_signals (hierarchy_in table top).args))
      (signal_widths 0 (top_signals (hierarchy_in table top).args) ∙ top_widths (hierarchy_in table top).args) tt

  -- where there is a design, its instances have the widths
  abbrev pub BuiltWidths : Elaborated → Type 0
  BuiltWidths (refused r) = Unit {0}
  BuiltWidths (built d) = AllWidths table d.instances

  pub elab_widths : (top : UnitName) → BuiltWidths (elab_of table top)
  elab_widths top = by_name (hierarchy_named top table)
    where
      by_refusal : (o : Option Refusal) → BuiltWidths (elaborated o (design_of max_nesting table top))
      by_refusal None = design_widths max_nesting top
      by_refusal (Some r) = tt

      by_name : (o : Option Hierarchy) → BuiltWidths (elab_named table top o)
      by_name None = tt
      by_name (Some h) = by_refusal (refusal_of table top h)
