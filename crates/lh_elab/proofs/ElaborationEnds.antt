-- Where elaboration starts and ends, and what it refuses.
use Rattle.std.proofs.Common.{◌≡◌, ℕ, ◌+◌, ◌<◌, ◌≤◌, Bool, true, false, nat_lt, if◌then◌else◌, List, [], ◌∷◌, length, map, take, Option, Some, None, IsSome, is_some, Ok, Err, refl, ap, sym, ◌∙◌, subst, arith, ltb-false}
use Rattle.std.specs.Option.{option_map}
use Rattle.std.proofs.lemmas.List.{take_all, length-replicate, length-append}
use Rattle.std.proofs.lemmas.List.Sums.{sum_by-cons}
use Rattle.lh_types.specs.Types.{IsData, bit_count}
use Rattle.lh_types.specs.declared.part.Range.{Range}
use Rattle.lh_unit_names.specs.declared.name.UnitName.{UnitName}
use Rattle.lh_unit.specs.declared.inst.UnitId.{UnitId}
use Rattle.lh_unit.specs.declared.inst.UnitKind.{UnitKind}
use Rattle.lh_unit.specs.declared.inst.UnitKind.TheVariants as kind
use Rattle.lh_unit.specs.Contents.{ArgText}
use Rattle.lh_unit.specs.Named.{is_function}
use Rattle.lh_unit.specs.Naming.{kind_text}
use Rattle.lh_unit.specs.Arena.{Arena, IsArena, contents, kind_at, unit_count, unit_name_at, unit_text_at}
use Rattle.lh_unit.specs.Hierarchy.{SignalText, zeros, Hierarchy, hierarchy_by, hierarchy_of, Entry, hierarchies, hierarchy_named}
use Rattle.lh_unit.specs.Design as design
use Rattle.lh_unit.specs.Design.{Design, Refusal, Elaborated, built, hierarchy_in, arg_bits, carried_type, top_signals, only_signals, numbered, initial_bits, signal_ranges, visit, visited, design_of, refusal_by, refusal_of, cycle_from, nests_deeper, instance_count, bits_below, elaborated, elab_named, max_nesting, max_instances, max_bits}
use Rattle.lh_unit.specs.Within.{Each}
use Rattle.lh_eval_laws.specs.Ranges.{arg_types}
use Rattle.lh_eval_laws.specs.Units.{IsPort, HasPorts}
use Rattle.lh_elab.specs.declared.fault.ElabFault.{ElabFault}
use Rattle.lh_elab.specs.declared.fault.ElabFault.TheVariants as fault
use Rattle.lh_elab.specs.declared.build.Building.{Building}
use Rattle.lh_design.specs.declared.Design as code
use Rattle.lh_elab_plan.specs.Plans.{AreWide}
use Rattle.lh_elab.specs.Refusals.{refusal_text, refusal_at, Refuses}
use Rattle.lh_elab.specs.Builds.{signal_text, instance_text, design_text, room_of, IsStarted}
use Rattle.lh_design.specs.Filling.{FillFrom, SignalsFill}
use Rattle.lh_design.specs.declared.Signal.{Signal}
use Rattle.lh_elab.specs.Elaborates.{RefusedFor, Elaborates, TextsFill}
use Rattle.lh_elab.proofs.Names.{hierarchy-by_id}
use Rattle.lh_elab.proofs.RefusalLaws.{refuses-function}
use Rattle.lh_elab.proofs.SignalNumbers.{room-cons}
use Rattle.lh_elab.proofs.Underway.{Underway, ReadsAll, PendingFits, ArgsLow, counts, bits_of, ranges-below, fill-numbered}
use Rattle.lh_elab.proofs.Walks.{unwound, left}

-- the unit is read by its name
named : (a : Arena) (top : ℕ) → IsArena a → top < unit_count a → IsSome (kind_at a top) → hierarchy_named (unit_name_at a top) (hierarchies (contents a)) ≡ Some (hierarchy_of (unit_text_at a top))
named a top o l b = hierarchy-by_id a top o l ∙ by (kind_at a top) b
  where
    by : (k : Option UnitKind) → IsSome k → option_map hierarchy_of (if is_some k then Some (unit_text_at a top) else None) ≡ Some (hierarchy_of (unit_text_at a top))
    by None e = absurd cc
    by (Some k) e = refl

elab-is : (a : Arena) (top : ℕ) → IsArena a → top < unit_count a → IsSome (kind_at a top)
    → design.elab (contents a) (unit_name_at a top) ≡ elaborated (refusal_at a top) (design_of max_nesting (hierarchies (contents a)) (unit_name_at a top))
elab-is a top o l b = ap (elab_named (hierarchies (contents a)) (unit_name_at a top)) (named a top o l b)

-- a refusal of the definition
refused-for : (e : Elaborated) (r : Option Refusal) (d : Design) (x : Option Refusal) → e ≡ elaborated r d → r ≡ x → RefusedFor x e
refused-for e r d None p q = tt
refused-for e r d (Some y) p q = p ∙ ap (λ z. elaborated z d) q

pub refuses : (a : Arena) (top : ℕ) → IsArena a → top < unit_count a → IsSome (kind_at a top) → (e : ElabFault) → Refuses a top (Err e) → Elaborates a top (Err e)
refuses a top o l b fault.OutOfMemory r = tt
refuses a top o l b fault.TopIsFunction r = refused-for _ (refusal_at a top) _ (refusal_text a fault.TopIsFunction) (elab-is a top o l b) r
refuses a top o l b (fault.InstCycle v) r = refused-for _ (refusal_at a top) _ (refusal_text a (fault.InstCycle v)) (elab-is a top o l b) r
refuses a top o l b fault.TooDeep r = refused-for _ (refusal_at a top) _ (refusal_text a fault.TooDeep) (elab-is a top o l b) r
refuses a top o l b fault.TooManyInstances r = refused-for _ (refusal_at a top) _ (refusal_text a fault.TooManyInstances) (elab-is a top o l b) r
refuses a top o l b fault.TooManyBits r = refused-for _ (refusal_at a top) _ (refusal_text a fault.TooManyBits) (elab-is a top o l b) r

-- where nothing is refused, the limits are kept
record Kept (instances bits : ℕ) : Type 0 where
  pub instances_kept : instances ≤ 65536
  pub bits_kept : bits ≤ 16777216

none-by : (f : Bool) (c : Option UnitName) (d i b : Bool) → refusal_by f c d i b ≡ None → (i ≡ false) × (b ≡ false)
none-by true c d i b e = absurd cc
none-by false (Some n) d i b e = absurd cc
none-by false None true i b e = absurd cc
none-by false None false true b e = absurd cc
none-by false None false false true e = absurd cc
none-by false None false false false e = (refl, refl)

kept : (table : List Entry) (top : UnitName) (h : Hierarchy) → refusal_of table top h ≡ None → Kept (instance_count max_nesting table top) (arg_bits h.args + bits_below max_nesting table top)
unfolding refusal_of
kept table top h e =
    let x = none-by h.function (cycle_from (length table) table [] top) (nests_deeper max_nesting table top) (nat_lt max_instances (instance_count max_nesting table top))
    (nat_lt max_bits (arg_bits h.args + bits_below max_nesting table top)) e in
    record { instances_kept = ltb-false max_instances (instance_count max_nesting table top) x.0; bits_kept = ltb-false max_bits (arg_bits h.args + bits_below max_nesting table top) x.1 }

-- the arguments of a top that is no function are signals
pub top-ports : (a : Arena) (top : ℕ) → refusal_at a top ≡ None → (xs : List ArgText) → HasPorts (kind_text (kind_at a top)) xs → Each IsPort xs
top-ports a top e xs p = by (kind_text (kind_at a top)) refl p
  where
    by : (k : UnitKind) → kind_text (kind_at a top) ≡ k → HasPorts k xs → Each IsPort xs
    by kind.Func q x = let z = refuses-function a top (ap is_function (sym q)) in absurd cc
    by kind.Proc q x = x
    by kind.Entity q x = x

-- the bits of the top's arguments
pub top-room : (xs : List ArgText) → Each IsPort xs → room_of (top_signals xs) ≡ arg_bits xs
top-room [] e = refl
top-room (x ∷ xs) e =
    let f = top-room xs e.1 in
    let g = room-cons (record { name = x.name; ty = carried_type x.ty; initial = zeros (carried_type x.ty) }) (top_signals xs) in
    let k = sum_by-cons (λ (y : ArgText). bit_count y.ty) x xs in
    let c : bit_count (carried_type x.ty) ≡ bit_count x.ty = ap (λ t. bit_count (carried_type t)) e.0.1 ∙ sym (ap bit_count e.0.1) in
    omega (arith, f, g, k, c)

top-long : (xs : List ArgText) → length (initial_bits (top_signals xs)) ≡ room_of (top_signals xs)
top-long [] = refl
top-long (x ∷ xs) =
    let f = top-long xs in
    let s : SignalText = record { name = x.name; ty = carried_type x.ty; initial = zeros (carried_type x.ty) } in
    let g = room-cons s (top_signals xs) in
    let k = length-append (zeros (carried_type x.ty)) (initial_bits (top_signals xs)) in
    let c = length-replicate (bit_count (carried_type x.ty)) false in
    omega (arith, f, g, k, c)

top-data : (xs : List ArgText) → Each IsPort xs → Each (λ (s : SignalText). IsData s.ty) (top_signals xs)
top-data [] e = tt
top-data (x ∷ xs) e = (subst IsData (sym (ap carried_type e.0.1)) e.0.2, top-data xs e.1)

top-wide : (lo : ℕ) (xs : List ArgText) → Each IsPort xs → AreWide (signal_ranges lo (top_signals xs)) (arg_types xs)
top-wide lo [] e = tt
top-wide lo (x ∷ xs) e = (ap (λ t. bit_count (carried_type t)) e.0.1 ∙ sym (ap bit_count e.0.1), top-wide (lo + bit_count (carried_type x.ty)) xs e.1)

top-low : (bits : ℕ) (rs : List Range) → bits ≤ 16777216 → Each (λ (r : Range). r.lo ≤ bits) rs → ArgsLow 63 rs
top-low bits [] b e = tt
top-low bits (r ∷ rs) b e = (omega (arith, e.0), top-low bits rs b e.1)

abbrev pub final : Arena → ℕ → Design
final a top = design_of max_nesting (hierarchies (contents a)) (unit_name_at a top)

first-goes : (table : List Entry) (n : UnitName) (xs : List ArgText) → (hierarchy_in table n).args ≡ xs
    → visited (visit 63 table) None n (hierarchy_in table n) (signal_ranges 0 (top_signals xs)) (only_signals (top_signals xs)) ≡ design_of max_nesting table n
unfolding design_of
first-goes table n xs e = ap (λ (ys : List ArgText). visited (visit 63 table) None n (hierarchy_in table n) (signal_ranges 0 (top_signals ys)) (only_signals (top_signals ys))) (sym e)

module _ (a : Arena) (top : UnitId) (o : IsArena a) (l : top.0 < unit_count a) (r : ReadsAll a (hierarchies (contents a))) (bits : ℕ) (q : Refuses a top.0 (Ok bits))
    (ports : Each IsPort (unit_text_at a top.0).args) where
  abbrev pub table : List Entry
  table = hierarchies (contents a)

  abbrev pub xs : List ArgText
  xs = (unit_text_at a top.0).args

  args-same : (hierarchy_of (unit_text_at a top.0)).args ≡ xs
  args-same = by (kind_text (kind_at a top.0))
    where
      by : (k : UnitKind) → (hierarchy_by k (unit_text_at a top.0)).args ≡ xs
      by kind.Func = refl
      by kind.Proc = refl
      by kind.Entity = refl

  limits : Kept (instance_count max_nesting table (unit_name_at a top.0)) (arg_bits (hierarchy_of (unit_text_at a top.0)).args + bits_below max_nesting table (unit_name_at a top.0))
  limits = kept table (unit_name_at a top.0) (hierarchy_of (unit_text_at a top.0)) q.0

  room : room_of (top_signals xs) + bits_below max_nesting table (unit_name_at a top.0) ≡ bits
  room = ap (λ n. n + bits_below max_nesting table (unit_name_at a top.0)) (top-room xs ports) ∙ q.1

  few : bits ≤ 16777216
  few = let e : arg_bits (hierarchy_of (unit_text_at a top.0)).args ≡ arg_bits xs = ap arg_bits args-same in let z : arg_bits xs + bits_below max_nesting table (unit_name_at a top.0) ≡ bits = q.1 in
      omega (arith, limits.bits_kept, e, z)

  -- there is room for the top's arguments
  pub top-fits : room_of (top_signals xs) ≤ bits
  top-fits = omega (arith, room)

  pub starts : (b : Building) → IsStarted a top bits b → Underway a table (final a top.0) b
  starts b s =
      let one : left a (counts table) b.pending.items ≡ instance_count max_nesting table (unit_name_at a top.0) + 0 = ap (left a (counts table)) s.pending in
      let two : left a (bits_of table) b.pending.items ≡ bits_below max_nesting table (unit_name_at a top.0) + 0 = ap (left a (bits_of table)) s.pending in
      let none : length b.instances.items ≡ 0 = ap length s.instances in
      record {
        built = only_signals (top_signals xs);
        stands = record { instances = ap (map (instance_text a)) s.instances; signals = s.signals; bits = s.begin; lo = s.lo ∙ sym (top-long xs) };
        goes = ap (λ ps. unwound a table ps (only_signals (top_signals xs))) s.pending ∙ first-goes table (unit_name_at a top.0) xs (r top.0 l).args;
        count = omega (arith, one, none, limits.instances_kept);
        room = omega (arith, two, room, s.lo, s.long);
        few = omega (arith, few, s.long);
        fill = subst (λ ys. TextsFill 0 ys b.lo) (sym s.signals)
            (subst (TextsFill 0 (numbered 0 0 (top_signals xs))) (zero-more (room_of (top_signals xs)) ∙ sym s.lo) (fill-numbered 0 0 (top_signals xs) (top-data xs ports)));
        pending = subst (Each (PendingFits a)) (sym s.pending) (
          record {
            unit = l;
            room = omega arith;
            wide = top-wide 0 xs ports;
            low = top-low bits (signal_ranges 0 (top_signals xs)) few
                (low-all (signal_ranges 0 (top_signals xs)) (ranges-below 0 (top_signals xs)));
          },
          tt,
        );
      }
    where
      zero-more : (n : ℕ) → 0 + n ≡ n
      zero-more n = omega arith

      low-all : (rs : List Range) → Each (λ (x : Range). x.lo ≤ 0 + room_of (top_signals xs)) rs → Each (λ (x : Range). x.lo ≤ bits) rs
      low-all [] e = tt
      low-all (x ∷ ys) e = (omega (arith, e.0, top-fits), low-all ys e.1)

-- what their texts fill, signals fill
fill-by : (lo : ℕ) (ss : List Signal) (hi : ℕ) → TextsFill lo (map signal_text ss) hi → FillFrom lo ss hi
fill-by lo [] hi f = f
fill-by lo (s ∷ more) hi f = (f.0, f.1, fill-by (lo + bit_count s.ty) more hi f.2)

-- nothing is pending
pub record Ends (a : Arena) (top : ℕ) (b : Building) (d : code.Design) : Type 0 where
  pub is : design_text a d ≡ final a top
  pub few : length d.instances.items ≤ 65536
  pub fill : SignalsFill d

pub ends : (a : Arena) (top : ℕ) (b : Building) (d : code.Design) → Underway a (hierarchies (contents a)) (final a top) b → b.pending.items ≡ [] → d.instances.items ≡ b.instances.items
    → d.signals.items ≡ b.signals.items → d.init ≡ b.init → Ends a top b d
ends a top b d w e i s z =
    let table = hierarchies (contents a) in
    let none : left a (bits_of table) b.pending.items ≡ 0 = ap (left a (bits_of table)) e in
    let lo : b.lo ≡ length b.init = omega (arith, w.room, none) in
    let whole : take b.lo b.init ≡ b.init = take_all b.lo b.init (omega arith) in
    let goes : w.built ≡ final a top = sym (ap (λ ps. unwound a table ps w.built) e) ∙ w.goes in
    let long : length d.init ≡ length b.init = ap length z in
    let many : length d.instances.items ≡ length b.instances.items = ap length i in
    let same : design_text a d ≡ w.built = λ j. record {
      instances = (ap (map (instance_text a)) i ∙ w.stands.instances) j;
      signals = (ap (map signal_text) s ∙ w.stands.signals) j;
      init = (z ∙ sym whole ∙ w.stands.bits) j;
    } in
    record {
      is = same ∙ goes;
      few = omega (arith, w.count, many);
      fill = fill-by 0 d.signals.items (length d.init) (subst (TextsFill 0 (map signal_text d.signals.items)) (lo ∙ sym long) (subst (λ ys. TextsFill 0 (map signal_text ys) b.lo) (sym s) w.fill));
    }

-- it is the design of the definition
pub built-is : (a : Arena) (top : ℕ) → IsArena a → top < unit_count a → IsSome (kind_at a top) → refusal_at a top ≡ None → (d : code.Design) → design_text a d ≡ final a top → Elaborates a top (Ok d)
built-is a top o l b r d e = elab-is a top o l b ∙ ap (λ x. elaborated x (design_of max_nesting (hierarchies (contents a)) (unit_name_at a top))) r ∙ ap built (sym e)
