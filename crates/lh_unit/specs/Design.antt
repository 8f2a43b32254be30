-- Elaboration: the instances and signals of a top unit, or why it has no design.
use Rattle.std.specs.Prelude.{ℕ, zero, suc, ◌+◌, List, [], ◌∷◌, ◌++◌, length, sum_by, map, Bool, true, false, nat_lt, Option, Some, None, codes}
use Rattle.std.specs.List.{list_any}
use Rattle.std.specs.Fmt.{decimal}
use Rattle.lh_types.specs.Types.{TypeTree, signal_type, bit_count}
use Rattle.lh_types.specs.declared.part.Range.{Range}
use Rattle.lh_unit_names.specs.declared.name.UnitName.{UnitName}
use Rattle.lh_unit_names.specs.UnitNames.{same_unit_name}
use Rattle.lh_unit.specs.Contents.{ArgText, ItemText}
use Rattle.lh_unit.specs.Typing.{or_else}
use Rattle.lh_unit.specs.Hierarchy.{Instance, SignalText, Child, Hierarchy, Entry, zeros, hierarchies, hierarchy_named}

-- a signal: the instance that it belongs to, its name, the type that it carries, and its lowest bit
pub record Signal : Type 0 where
  pub instance : ℕ
  pub name : List ℕ
  pub ty : TypeTree
  pub lo : ℕ

-- the instances and signals by number, and the bits that the signals begin with
pub record Design : Type 0 where
  pub instances : List Instance
  pub signals : List Signal
  pub init : List Bool

-- why a top has no design
pub data Refusal : Type 0 where
  top_missing : Refusal
  top_is_function : Refusal
  inst_cycle : UnitName → Refusal
  too_deep : Refusal
  too_many_instances : Refusal
  too_many_bits : Refusal

-- a design, or why there is none
pub data Elaborated : Type 0 where
  refused : Refusal → Elaborated
  built : Design → Elaborated

-- a unit that is not there adds nothing
abbrev pub no_hierarchy : Hierarchy
no_hierarchy = record { function = false; args = []; signals = []; children = λ args sigs. [] }

-- what is read of a unit, if it is there
abbrev pub hierarchy_or : Option Hierarchy → Hierarchy
hierarchy_or None = no_hierarchy
hierarchy_or (Some h) = h

-- what is read of the unit of this name
abbrev pub hierarchy_in : List Entry → UnitName → Hierarchy
hierarchy_in table n = hierarchy_or (hierarchy_named n table)

-- the units that are instantiated in a unit, in text order
abbrev pub targets : Hierarchy → List UnitName
targets h = map (λ (c : Child). c.unit) (h.children [] [])

-- it is one of these names
abbrev pub is_one_of : List UnitName → UnitName → Bool
is_one_of names n = list_any (λ m. same_unit_name m n) names

-- the first of these for which there is one
abbrev pub first_some : {A B : Type 0} → (A → Option B) → List A → Option B
first_some f [] = None
first_some f (x ∷ more) = or_else (f x) (first_some f more)

-- whether an `inst` names an open unit, and else what is found below it
abbrev pub cycle_at : (below : UnitName → Option UnitName) → (is_open : Bool) → UnitName → Option UnitName
cycle_at below true n = Some n
cycle_at below false n = below n

-- the target of the first `inst`, depth first, that names an open unit; at most `steps` units are open
abbrev pub cycle_from : (steps : ℕ) → List Entry → (opened : List UnitName) → UnitName → Option UnitName
cycle_from zero table opened n = None
cycle_from (suc k) table opened n =
    first_some (λ t. cycle_at (cycle_from k table (n ∷ opened)) (is_one_of (n ∷ opened) t) t) (targets (hierarchy_in table n))

-- more than `limit` instances nest, this one counted
abbrev pub nests_deeper : (limit : ℕ) → List Entry → UnitName → Bool
nests_deeper zero table n = true
nests_deeper (suc k) table n = list_any (nests_deeper k table) (targets (hierarchy_in table n))

-- how many instances there are from this one down
abbrev pub instance_count : (depth : ℕ) → List Entry → UnitName → ℕ
instance_count zero table n = 0
instance_count (suc k) table n = 1 + sum_by (instance_count k table) (targets (hierarchy_in table n))

-- how many bits the signals of the instances have from this one down
abbrev pub bits_below : (depth : ℕ) → List Entry → UnitName → ℕ
bits_below zero table n = 0
bits_below (suc k) table n =
    sum_by (λ (s : SignalText). bit_count s.ty) (hierarchy_in table n).signals + sum_by (bits_below k table) (targets (hierarchy_in table n))

-- at most this many instances nest, the top counted
abbrev pub max_nesting : ℕ
max_nesting = 64

-- at most this many instances there are
abbrev pub max_instances : ℕ
max_instances = 65536

-- at most this many bits they have
abbrev pub max_bits : ℕ
max_bits = 16777216

-- the bits of the top's own arguments
abbrev pub arg_bits : List ArgText → ℕ
arg_bits args = sum_by (λ (a : ArgText). bit_count a.ty) args

-- the bits of a unit's arguments: each begins at its operand's lowest bit, and has the width of its type
abbrev pub arg_ranges : List ArgText → (lows : List ℕ) → List Range
arg_ranges [] lows = []
arg_ranges (a ∷ more) [] = record { lo = 0; len = bit_count a.ty } ∷ arg_ranges more []
arg_ranges (a ∷ more) (lo ∷ lows) = record { lo = lo; len = bit_count a.ty } ∷ arg_ranges more lows

-- the bits of signals from a lowest one on
abbrev pub signal_ranges : (lo : ℕ) → List SignalText → List Range
signal_ranges lo [] = []
signal_ranges lo (s ∷ more) = record { lo = lo; len = bit_count s.ty } ∷ signal_ranges (lo + bit_count s.ty) more

-- the signals of an instance, from a lowest bit on
abbrev pub numbered : (instance lo : ℕ) → List SignalText → List Signal
numbered instance lo [] = []
numbered instance lo (s ∷ more) = record { instance = instance; name = s.name; ty = s.ty; lo = lo } ∷ numbered instance (lo + bit_count s.ty) more

-- the bits that signals begin with, in order
abbrev pub initial_bits : List SignalText → List Bool
initial_bits [] = []
initial_bits (s ∷ more) = s.initial ++ initial_bits more

-- the next instance, with its signals
abbrev pub with_instance : (parent : Option ℕ) → UnitName → Hierarchy → (args : List Range) → Design → Design
with_instance parent n h args d = record {
  instances = d.instances ++ record { unit = n; parent = parent; args = args; sigs = signal_ranges (length d.init) h.signals } ∷ [];
  signals = d.signals ++ numbered (length d.instances) (length d.init) h.signals;
  init = d.init ++ initial_bits h.signals;
}

-- one visit after the other
abbrev pub visit_all : (visit : Child → Design → Design) → List Child → Design → Design
visit_all visit [] d = d
visit_all visit (c ∷ more) d = visit_all visit more (visit c d)

-- An instance takes the next number, its `sig` instructions become signals in text order, and then its `inst` lines are visited.
abbrev pub visited : (visit : ℕ → Child → Design → Design) → (parent : Option ℕ) → UnitName → Hierarchy → (args : List Range) → Design → Design
visited visit parent n h args d =
    visit_all (visit (length d.instances)) (h.children args (signal_ranges (length d.init) h.signals)) (with_instance parent n h args d)

-- a visit of an instance in the instance of a number
unfoldable pub visit : (depth : ℕ) → List Entry → (parent : ℕ) → Child → Design → Design
visit zero table parent c d = d
visit (suc k) table parent c d =
    visited (visit k table) (Some parent) c.unit (hierarchy_in table c.unit) (arg_ranges (hierarchy_in table c.unit).args c.lows) d

-- the type that a signal carries
abbrev pub carried_type : TypeTree → TypeTree
carried_type (signal_type t) = t
carried_type t = t

-- the top's own arguments as signals, with all bits 0
abbrev pub top_signals : List ArgText → List SignalText
top_signals [] = []
top_signals (a ∷ more) = record { name = a.name; ty = carried_type a.ty; initial = zeros (carried_type a.ty) } ∷ top_signals more

-- no instance yet, and the top's own arguments as signals
abbrev pub only_signals : List SignalText → Design
only_signals ss = record { instances = []; signals = numbered 0 0 ss; init = initial_bits ss }

-- the design of a top: its own arguments are the first signals
unfoldable pub design_of : (depth : ℕ) → List Entry → (top : UnitName) → Design
design_of zero table top = only_signals []
design_of (suc k) table top =
    visited (visit k table) None top (hierarchy_in table top) (signal_ranges 0 (top_signals (hierarchy_in table top).args))
    (only_signals (top_signals (hierarchy_in table top).args))

-- the first of the refusals, in their order
abbrev pub refusal_by : (function : Bool) → (cycle : Option UnitName) → (deep instances bits : Bool) → Option Refusal
refusal_by true cycle deep instances bits = Some top_is_function
refusal_by false (Some n) deep instances bits = Some (inst_cycle n)
refusal_by false None true instances bits = Some too_deep
refusal_by false None false true bits = Some too_many_instances
refusal_by false None false false true = Some too_many_bits
refusal_by false None false false false = None

-- the first refusal of a top, if there is one
unfoldable pub refusal_of : List Entry → (top : UnitName) → Hierarchy → Option Refusal
refusal_of table top h =
    refusal_by h.function (cycle_from (length table) table [] top) (nests_deeper max_nesting table top)
    (nat_lt max_instances (instance_count max_nesting table top)) (nat_lt max_bits (arg_bits h.args + bits_below max_nesting table top))

-- the design, where nothing refuses it
abbrev pub elaborated : Option Refusal → Design → Elaborated
elaborated None d = built d
elaborated (Some r) d = refused r

-- the design of a top, where there is a unit of its name
abbrev pub elab_named : List Entry → (top : UnitName) → Option Hierarchy → Elaborated
elab_named table top None = refused top_missing
elab_named table top (Some h) = elaborated (refusal_of table top h) (design_of max_nesting table top)

-- Elaboration reads the hierarchy of the units alone.
abbrev pub elab_of : List Entry → (top : UnitName) → Elaborated
elab_of table top = elab_named table top (hierarchy_named top table)

-- the design of a top unit of a module, or the refusal
abbrev pub elab : List ItemText → (top : UnitName) → Elaborated
elab items top = elab_of (hierarchies items) top

-- the label of an instance: the top's is its unit's name, another's has `_` and its number after it
abbrev pub label_by : Option ℕ → (number : ℕ) → (name : List ℕ) → List ℕ
label_by None number name = name
label_by (Some parent) number name = name ++ codes "_" ++ decimal number

-- the label of the instance of a number
abbrev pub instance_label : (number : ℕ) → Instance → List ℕ
instance_label number i = label_by i.parent number i.unit.name
