-- The faults of small files.
use Rattle.std.proofs.Common.{◌≡◌, ◌<◌, ◌⊎◌, inl, inr, ℕ, List, [], ◌∷◌, ◌++◌, map, filter, Bool, true, false, ◌||◌, refl, ap, sym, ◌∙◌, Some, None, arith}
use Rattle.std.specs.Prelude.{codes}
use Rattle.std.specs.List.{list_any}
use Rattle.std.proofs.lemmas.Bool.{both_ways as clash}
use Rattle.lh_types.specs.Types.{void_type}
use Rattle.lh_types.specs.Values.{int_value}
use Rattle.lh_types.specs.declared.op.Op.TheVariants as op
use Rattle.lh_unit.specs.declared.inst.UnitKind.TheVariants as kind
use Rattle.lh_unit.specs.Contents.{InstText, const_text, pure_text, sig_text, prb_text, halt_text, call_text, phi_text, br_text, branch_text, ret_text, LineText, BlockText, UnitText, ItemText, unit_text, lines_define}
use Rattle.lh_unit.specs.Places.{InstPlaceText}
use Rattle.lh_unit.specs.WellFormed.{FaultKind, undefined, wrong_kind, wrong_type, not_here, no_terminator, phi_edges, not_defined, arguments, number_of, has_local, Lacks, SomeEdgeLacks, Site, sites, HasFault, IsFirstFault, IsFaultless}
use Rattle.lh_unit.specs.Worded.{byte}
use Rattle.lh_trace_laws.proofs.Samples.{global, gives, does, typed, input, bit, bit_signal, block, entity, process}

abbrev all_kinds : List FaultKind
all_kinds = undefined ∷ wrong_kind ∷ wrong_type ∷ not_here ∷ no_terminator ∷ phi_edges ∷ arguments ∷ []

-- the numbers of the faults of each instruction that ask for no path
abbrev local_numbers : List ItemText → List (List ℕ)
local_numbers items = map (λ s. map number_of (filter (has_local items s) all_kinds)) (sites items)

abbrev AreFalse : (FaultKind → Bool) → List FaultKind → Type 0
AreFalse p [] = Unit {0}
AreFalse p (k ∷ more) = (p k ≡ false) × AreFalse p more

are_false : (p : FaultKind → Bool) (ks : List FaultKind) → list_any p ks ≡ false → AreFalse p ks
are_false p [] h = tt
are_false p (k ∷ more) h = at (p k) h (are_false p more)
  where
    at : (b : Bool) → (b || list_any p more) ≡ false → (list_any p more ≡ false → AreFalse p more) → (b ≡ false) × AreFalse p more
    at true h ih = cc
    at false h ih = (refl, ih h)

-- an instruction without these has at most the fault of paths
module _ (items : List ItemText) (s : Site) (none : list_any (has_local items s) all_kinds ≡ false) where
  none_local : (k : FaultKind) → has_local items s k ≡ false
  none_local k = at k (are_false (has_local items s) all_kinds none)
    where
      at : (k : FaultKind) → AreFalse (has_local items s) all_kinds → has_local items s k ≡ false
      at undefined f = f.0
      at wrong_kind f = f.1.0
      at wrong_type f = f.1.1.0
      at not_here f = f.1.1.1.0
      at no_terminator f = f.1.1.1.1.0
      at phi_edges f = f.1.1.1.1.1.0
      at not_defined f = refl
      at arguments f = f.1.1.1.1.1.1.0

  none_of : ¬ HasFault items s not_defined → (k : FaultKind) → ¬ HasFault items s k
  none_of d undefined = clash _ (none_local undefined)
  none_of d wrong_kind = clash _ (none_local wrong_kind)
  none_of d wrong_type = clash _ (none_local wrong_type)
  none_of d not_here = clash _ (none_local not_here)
  none_of d no_terminator = clash _ (none_local no_terminator)
  none_of d phi_edges = clash _ (none_local phi_edges)
  none_of d not_defined = d
  none_of d arguments = clash _ (none_local arguments)

  none_below : (j : FaultKind) → number_of j < 7 → ¬ HasFault items s j
  none_below undefined l = clash _ (none_local undefined)
  none_below wrong_kind l = clash _ (none_local wrong_kind)
  none_below wrong_type l = clash _ (none_local wrong_type)
  none_below not_here l = clash _ (none_local not_here)
  none_below no_terminator l = clash _ (none_local no_terminator)
  none_below phi_edges l = clash _ (none_local phi_edges)
  none_below not_defined l = absurd (omega (arith, l))
  none_below arguments l = absurd (omega (arith, l))

abbrev function : List BlockText → UnitText
function blocks = record { kind = kind.Func; name = global (codes "f"); args = input (codes "c") bit ∷ []; result = Some byte; blocks = blocks }

abbrev place : ℕ → Bool → BlockText → List LineText → LineText → List LineText → InstPlaceText
place k e b before l after = record { number = k; in_entry = e; block = b; before = before; line = l; after = after }

abbrev site : UnitText → InstPlaceText → Site
site u p = record { unit = u; place = p }

-- A value that is defined on one way alone.
abbrev branches : LineText
branches = does (branch_text (codes "c") (codes "b") (codes "a"))

abbrev const_x : LineText
const_x = gives (codes "x") (const_text (int_value 8 1))

abbrev to_b : LineText
to_b = does (br_text (codes "b"))

abbrev returns_value : List ℕ → LineText
returns_value n = does (ret_text (Some (typed byte n)))

abbrev entry : BlockText
entry = block (codes "entry") (branches ∷ [])

abbrev on_a : BlockText
on_a = block (codes "a") (const_x ∷ to_b ∷ [])

abbrev at_b : BlockText
at_b = block (codes "b") (returns_value (codes "x") ∷ [])

abbrev one_way : UnitText
one_way = function (entry ∷ on_a ∷ at_b ∷ [])

abbrev one_way_items : List ItemText
one_way_items = unit_text one_way ∷ []

-- an argument is defined on every path
arg_stands : {A : Type 0} → ((true ≡ false) × A) ⊎ ⊥ → ⊥
arg_stands (inl h) = clash true h.0 refl
arg_stands (inr h) = h

pub one_way_fault : IsFirstFault one_way_items (global (codes "f")) 4 not_defined
one_way_fault =
    let first : Site = site one_way (place 1 true entry [] branches []) in
    let second : Site = site one_way (place 2 false on_a [] const_x (to_b ∷ [])) in
    let third : Site = site one_way (place 3 false on_a (const_x ∷ []) to_b []) in
    let fourth : Site = site one_way (place 4 false at_b [] (returns_value (codes "x")) []) in
    record {
      before = first ∷ second ∷ third ∷ [];
      site = fourth;
      after = [];
      all = refl;
      in_unit = refl;
      at_inst = refl;
      has = (refl, inl (refl, record { earlier = entry ∷ []; path = (refl, refl, refl); not_before = refl; not_earlier = refl }));
      lowest = none_below one_way_items fourth refl;
      none_before = (
        none_of one_way_items first refl (λ h. arg_stands h.1),
        (none_of one_way_items second refl (λ h. h.1), (none_of one_way_items third refl (λ h. h.1), tt)),
      );
    }

-- The same with a value on either way.
abbrev const_o : LineText
const_o = gives (codes "o") (const_text (int_value 8 0))

abbrev merges : LineText
merges = gives (codes "y") (phi_text byte (record { value = codes "o"; block = codes "entry" } ∷ record { value = codes "x"; block = codes "a" } ∷ []))

abbrev entry_with_o : BlockText
entry_with_o = block (codes "entry") (const_o ∷ branches ∷ [])

abbrev merging : BlockText
merging = block (codes "b") (merges ∷ returns_value (codes "y") ∷ [])

abbrev both_ways : UnitText
both_ways = function (entry_with_o ∷ on_a ∷ merging ∷ [])

abbrev both_ways_items : List ItemText
both_ways_items = unit_text both_ways ∷ []

-- each operand stands in the block of its edge
same_block : (x y : BlockText) → Some x ≡ Some y → x ≡ y
same_block x y e = cc

defined_there : (n : List ℕ) (x y : BlockText) → lines_define n x.lines ≡ true → x ≡ y → lines_define n y.lines ≡ false → ⊥
defined_there n x y d e h = clash _ h (ap (λ (b : BlockText). lines_define n b.lines) (sym e) ∙ d)

pub both_ways_faultless : IsFaultless both_ways_items
both_ways_faultless = (
  none_of both_ways_items (site both_ways (place 1 true entry_with_o [] const_o (branches ∷ []))) refl (λ h. h.1),
  (
    none_of both_ways_items (site both_ways (place 2 true entry_with_o (const_o ∷ []) branches [])) refl (λ h. arg_stands h.1),
    (
      none_of both_ways_items (site both_ways (place 3 false on_a [] const_x (to_b ∷ []))) refl (λ h. h.1),
      (
        none_of both_ways_items (site both_ways (place 4 false on_a (const_x ∷ []) to_b [])) refl (λ h. h.1),
        (
          none_of both_ways_items (site both_ways (place 5 false merging [] merges (returns_value (codes "y") ∷ []))) refl (λ h. operands h.1),
          (
            none_of both_ways_items (site both_ways (place 6 false merging (merges ∷ []) (returns_value (codes "y")) [])) refl (λ h. above h.1),
            tt,
          ),
        ),
      ),
    ),
  ),
)
  where
    operands : SomeEdgeLacks both_ways (codes "b") (record { value = codes "o"; block = codes "entry" } ∷ record { value = codes "x"; block = codes "a" } ∷ []) → ⊥
    operands (inl h) = defined_there (codes "o") entry_with_o h.1.last refl (same_block _ _ h.1.named) h.1.lacks.not_before
    operands (inr (inl h)) = defined_there (codes "x") on_a h.1.last refl (same_block _ _ h.1.named) h.1.lacks.not_before
    operands (inr (inr h)) = h

    above : ((false ≡ false) × Lacks both_ways (codes "y") merging (merges ∷ [])) ⊎ ⊥ → ⊥
    above (inl h) = clash true h.1.not_before refl
    above (inr h) = h

-- One fault of each kind that asks for no path, in a process of two blocks.
abbrev faulty : List LineText → List ItemText
faulty lines = process (codes "p") (input (codes "s") bit_signal ∷ []) (
    block (codes "entry") (lines ++ does (br_text (codes "next")) ∷ []) ∷ block (codes "next") (does halt_text ∷ []) ∷ []) ∷ []

abbrev sum : List ℕ → List ℕ → InstText
sum x y = pure_text op.Add (typed bit x ∷ record { value = y; ty = None } ∷ [])

pub faultless_sum : local_numbers (faulty (gives (codes "a") (prb_text (typed bit_signal (codes "s"))) ∷ gives (codes "b") (sum (codes "a") (codes "a")) ∷ [])) ≡ [] ∷ [] ∷ [] ∷ [] ∷ []
faultless_sum = refl

pub undefined_value : local_numbers (faulty (gives (codes "b") (prb_text (typed bit_signal (codes "r"))) ∷ [])) ≡ (1 ∷ 3 ∷ []) ∷ [] ∷ [] ∷ []
undefined_value = refl

pub undefined_unit : local_numbers (faulty (does (call_text (global (codes "f")) void_type []) ∷ [])) ≡ (1 ∷ 2 ∷ []) ∷ [] ∷ [] ∷ []
undefined_unit = refl

-- a signal where data is needed, and data of another width
pub signal_as_data : local_numbers (faulty (gives (codes "b") (sum (codes "s") (codes "s")) ∷ [])) ≡ (2 ∷ 3 ∷ []) ∷ [] ∷ [] ∷ []
signal_as_data = refl

pub other_width : local_numbers (faulty (gives (codes "a") (const_text (int_value 8 1)) ∷ gives (codes "b") (sum (codes "a") (codes "a")) ∷ [])) ≡ [] ∷ (3 ∷ []) ∷ [] ∷ [] ∷ []
other_width = refl

pub signal_in_process : local_numbers (faulty (gives (codes "a") (const_text (int_value 1 1)) ∷ gives (codes "b") (sig_text (typed bit (codes "a"))) ∷ [])) ≡ [] ∷ (4 ∷ []) ∷ [] ∷ [] ∷ []
signal_in_process = refl

pub halts_early : local_numbers (faulty (does halt_text ∷ [])) ≡ (5 ∷ []) ∷ [] ∷ [] ∷ []
halts_early = refl

-- a value that has no kind where it is used: `prb i1` names no signal
pub no_kind : local_numbers (faulty (gives (codes "b") (prb_text (typed bit (codes "s"))) ∷ gives (codes "c") (sum (codes "b") (codes "b")) ∷ [])) ≡ (3 ∷ []) ∷ (3 ∷ []) ∷ [] ∷ [] ∷ []
no_kind = refl

pub assertion_of_none : local_numbers (faulty (does (call_text (global (codes "llhd.assert")) void_type []) ∷ [])) ≡ (8 ∷ []) ∷ [] ∷ [] ∷ []
assertion_of_none = refl

-- the operand of a signal depends on a probe
pub probed_signal : local_numbers (entity (codes "t") (input (codes "s") bit_signal ∷ []) (
    gives (codes "a") (prb_text (typed bit_signal (codes "s"))) ∷ gives (codes "b") (sum (codes "a") (codes "a")) ∷ gives (codes "c") (sig_text (typed bit (codes "b"))) ∷ []) ∷ [])
    ≡ [] ∷ [] ∷ (2 ∷ []) ∷ []
probed_signal = refl

-- a phi that does not name its predecessor
pub phi_of_none : local_numbers (process (codes "p") [] (
    block (codes "entry") (gives (codes "a") (const_text (int_value 1 1)) ∷ does (br_text (codes "next")) ∷ [])
    ∷ block (codes "next") (gives (codes "b") (phi_text bit (record { value = codes "a"; block = codes "next" } ∷ [])) ∷ does halt_text ∷ []) ∷ []) ∷ [])
    ≡ [] ∷ [] ∷ (6 ∷ []) ∷ [] ∷ []
phi_of_none = refl

-- A value has the type that its own line writes, also where its row takes no such type: the use as a signal has no fault, the line that gives it has one.
pub call_of_a_signal : local_numbers (faulty (
    gives (codes "c") (const_text (int_value 1 1))
    ∷ gives (codes "b") (prb_text (typed bit_signal (codes "x")))
    ∷ gives (codes "x") (call_text (global (codes "llhd.assert")) bit_signal (typed bit (codes "c") ∷ [])) ∷ []))
    ≡ [] ∷ [] ∷ (3 ∷ []) ∷ [] ∷ [] ∷ []
call_of_a_signal = refl

pub phi_of_a_signal : local_numbers (process (codes "p") [] (
    block (codes "entry") (gives (codes "a") (const_text (int_value 1 1)) ∷ gives (codes "b") (prb_text (typed bit_signal (codes "x"))) ∷ does (br_text (codes "next")) ∷ [])
    ∷ block (codes "next") (gives (codes "x") (phi_text bit_signal (record { value = codes "a"; block = codes "entry" } ∷ [])) ∷ does halt_text ∷ []) ∷ []) ∷ [])
    ≡ [] ∷ [] ∷ [] ∷ (3 ∷ []) ∷ [] ∷ []
phi_of_a_signal = refl

-- and a use of it as data is of the wrong kind
pub phi_of_a_signal_as_data : local_numbers (process (codes "p") [] (
    block (codes "entry") (gives (codes "a") (const_text (int_value 1 1)) ∷ gives (codes "b") (sum (codes "x") (codes "a")) ∷ does (br_text (codes "next")) ∷ [])
    ∷ block (codes "next") (gives (codes "x") (phi_text bit_signal (record { value = codes "a"; block = codes "entry" } ∷ [])) ∷ does halt_text ∷ []) ∷ []) ∷ [])
    ≡ [] ∷ (2 ∷ 3 ∷ []) ∷ [] ∷ (3 ∷ []) ∷ [] ∷ []
phi_of_a_signal_as_data = refl
