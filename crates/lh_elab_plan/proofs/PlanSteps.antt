-- The plan of an entity: what it begins with, its signals and the instances in it.
use Rattle.std.proofs.Common.{◌≡◌, ℕ, zero, suc, ◌+◌, ◌<◌, ◌≤◌, List, [], ◌∷◌, length, map, get_or, replicate, Bool, false, Option, Some, None, IsSome, refl, ap, sym, ◌∙◌, subst, arith}
use Rattle.std.specs.Option.{option_map_or}
use Rattle.std.proofs.lemmas.List.{length-replicate, length-set}
use Rattle.std.proofs.lemmas.Option.{same_Some}
use Rattle.lh_types.specs.Types.{TypeTree, IsData, bit_count}
use Rattle.lh_types.specs.Values.{Datum}
use Rattle.lh_types.specs.Fits.{FitsType}
use Rattle.lh_types.specs.Bits.{value_bits}
use Rattle.lh_types.specs.declared.part.Range.{Range}
use Rattle.lh_bits.proofs.LawProofs.{bits_are_counted}
use Rattle.lh_types.proofs.Limits.{bit_count-le}
use Rattle.lh_unit.specs.Contents.{ArgText, InstText, sig_text, LineText, UnitText}
use Rattle.lh_unit.specs.Held.{Held, datum_held, part_held, Env, nothing_held, with_args}
use Rattle.lh_unit.specs.Hierarchy.{SignalText, signal_if, signals_of, children_of, hierarchy_by, hierarchy_of, zeros, type_or_void, parts_of, with_parts, signal_names, lines_of, static_from, static_held}
use Rattle.lh_unit.specs.Naming.{kind_text, inst_text, maybe_text, value_text}
use Rattle.lh_unit.specs.Table.{ResultWithin}
use Rattle.lh_unit.specs.WellFormed.{IsWellFormed}
use Rattle.lh_unit.specs.Arena.{Arena, IsArena, InstPlaced, unit_count, value_count, inst_count, kind_at, naming, table_at, args_at, block_insts_at, unit_text_at, contents}
use Rattle.lh_unit.specs.ById.{inst_line_text}
use Rattle.lh_unit.specs.Within.{Each}
use Rattle.lh_unit.specs.declared.inst.UnitKind.{UnitKind}
use Rattle.lh_unit.specs.declared.inst.UnitKind.TheVariants as kind
use Rattle.lh_unit.specs.declared.inst.Arg.{Arg}
use Rattle.lh_unit.specs.declared.inst.InstId.{InstId}
use Rattle.lh_unit.specs.declared.inst.ValueId.{ValueId}
use Rattle.lh_unit.specs.declared.inst.Typed.{Typed}
use Rattle.lh_unit.specs.declared.inst.Inst.{Inst}
use Rattle.lh_unit.proofs.Lists.{Each-of-map}
use Rattle.lh_unit.specs.declared.inst.Inst.TheVariants as inst
use Rattle.lh_verify_laws.specs.Operands.{RowIs}
use Rattle.lh_eval.specs.Holding.{Holds, datum_in, slot_at}
use Rattle.lh_eval.proofs.ValuesFit.{datum-held}
use Rattle.lh_eval.proofs.GivesFit.{part-held}
use Rattle.lh_eval.proofs.HeldByIds.{holds-nothing}
use Rattle.lh_eval.proofs.BeginSteps.{entity-lines, entity-insts}
use Rattle.lh_eval_laws.specs.Ranges.{RangesFit, arg_types, signal_types, type_if_signal, InstanceFits}
use Rattle.lh_eval_laws.specs.Units.{IsPort, HasPorts, SigWritesData, WritesData, UnitIsSound}
use Rattle.lh_eval_laws.proofs.Begins.{nothing-fits}
use Rattle.lh_eval_laws.proofs.FitLaws.{unit-is-sound, begins-fit}
use Rattle.lh_eval_laws.proofs.FindingElab.{parts-of-none}
use Rattle.lh_elab_plan.specs.declared.statics.Base.{Base}
use Rattle.lh_elab_plan.specs.declared.statics.Base.TheVariants as base
use Rattle.lh_elab_plan.specs.declared.statics.Statics.{Statics}
use Rattle.lh_elab_plan.specs.Statics.{StaticsById, by_of, HasSlots, args_begun, sigs_begun, no_range, base_lo, moved_slots, StaticsFollow, FitsSomething}
use Rattle.lh_elab_plan.specs.Plans.{AreWide, AreRangesOf, SignalIs, SignalLine, PartsSmall}
use Rattle.lh_elab_plan.proofs.MovedParts.{slots-stay}
use Rattle.lh_elab_plan.proofs.StaticSteps.{LowRanges, nothing-small, begins-small, args-follow, signals-follow, plain}

-- where nothing is held, nothing moves
moved-none : (args sigs : List Range) (bs : List Base) (n : ℕ) → length bs ≡ n → let none : Option Held = None in moved_slots args sigs bs (replicate n none) ≡ replicate n none
moved-none args sigs [] zero e = refl
moved-none args sigs [] (suc n) e = absurd (omega arith)
moved-none args sigs (b ∷ bs) zero e = absurd (omega arith)
moved-none args sigs (b ∷ bs) (suc n) e = ap (λ (l : List (Option Held)). None ∷ l) (moved-none args sigs bs n (omega arith))

-- ranges from bit 0 on
abbrev zero_range : TypeTree → Range
zero_range t = record { lo = 0; len = bit_count t }

zero-at : (ts : List TypeTree) (k : ℕ) → (get_or (map zero_range ts) k no_range).lo ≡ 0
zero-at [] zero = refl
zero-at [] (suc k) = refl
zero-at (t ∷ ts) zero = refl
zero-at (t ∷ ts) (suc k) = zero-at ts k

zeros-wide : (ts : List TypeTree) → AreWide (map zero_range ts) ts
zeros-wide [] = tt
zeros-wide (t ∷ ts) = (refl, zeros-wide ts)

zeros-fit : (ts : List TypeTree) → Each (λ (t : TypeTree). bit_count t ≤ 65536) ts → RangesFit 65536 (map zero_range ts) ts
zeros-fit [] e = tt
zeros-fit (t ∷ ts) e = (refl, omega (arith, e.0), zeros-fit ts e.1)

zeros-low : (ts : List TypeTree) → LowRanges (map zero_range ts)
zeros-low [] = tt
zeros-low (t ∷ ts) = (omega arith, zeros-low ts)

ports-narrow : (xs : List ArgText) → Each IsPort xs → Each (λ (t : TypeTree). bit_count t ≤ 65536) (arg_types xs)
ports-narrow [] e = tt
ports-narrow (x ∷ xs) e =
    let b = bit_count-le e.0.0 e.0.2 in
    let c : bit_count x.ty ≡ bit_count e.0.0 = ap bit_count e.0.1 in
    (omega (arith, b, c), ports-narrow xs e.1)

signal-narrow : (r : Option (List ℕ)) (i : InstText) (ts : List TypeTree) → SigWritesData r i → Each (λ (t : TypeTree). bit_count t ≤ 65536) ts
    → Each (λ (t : TypeTree). bit_count t ≤ 65536) (type_if_signal i ts)
signal-narrow r (sig_text a) ts w e =
    let b = bit_count-le w.0 w.2 in
    let c : bit_count (type_or_void a.ty) ≡ bit_count w.0 = ap (λ o. bit_count (type_or_void o)) w.1 in
    (omega (arith, b, c), e)
signal-narrow r _ ts w e = e

signals-narrow : (ls : List LineText) → Each WritesData ls → Each (λ (t : TypeTree). bit_count t ≤ 65536) (signal_types ls)
signals-narrow [] e = tt
signals-narrow (l ∷ ls) e = signal-narrow l.result l.inst (signal_types ls) e.0 (signals-narrow ls e.1)

args-none : (xs : List ArgText) → with_args nothing_held xs [] ≡ nothing_held
args-none [] = refl
args-none (x ∷ xs) = refl

pub parts-none : (u : UnitText) → parts_of u [] [] ≡ nothing_held
parts-none u = parts-of-none (with_args nothing_held u.args []) (signal_names (lines_of u.blocks)) ∙ args-none u.args

-- the types of signals
type-if : (e : Env) (r : Option (List ℕ)) (i : InstText) (ss : List SignalText) (ts : List TypeTree) → map (λ (s : SignalText). s.ty) ss ≡ ts
    → map (λ (s : SignalText). s.ty) (signal_if e i r ss) ≡ type_if_signal i ts
type-if e r (sig_text x) ss ts q = ap (λ l. type_or_void x.ty ∷ l) q
type-if e r _ ss ts q = q

signal-types : (e : Env) (ls : List LineText) → map (λ (s : SignalText). s.ty) (signals_of e ls) ≡ signal_types ls
signal-types e [] = refl
signal-types e (l ∷ ls) = type-if e l.result l.inst (signals_of e ls) (signal_types ls) (signal-types e ls)

-- of an entity
pub entity-types : (u : UnitText) → u.kind ≡ kind.Entity → map (λ (s : SignalText). s.ty) (hierarchy_of u).signals ≡ signal_types (lines_of u.blocks)
entity-types u e = ap (λ k. map (λ (s : SignalText). s.ty) (hierarchy_by k u).signals) e ∙ signal-types (static_held u [] []) (lines_of u.blocks)

module _ (a : Arena) (u : ℕ) (o : IsArena a) (h : u < unit_count a) where
  -- no value holds anything
  new-follows : (args sigs : List Range) (s : StaticsById) → s.slots ≡ replicate (value_count a u) None → s.bases ≡ replicate (value_count a u) (base.Arg 0)
      → StaticsFollow a u args sigs s nothing_held
  new-follows args sigs s p q =
      let n : length s.bases ≡ value_count a u = ap length q ∙ length-replicate (value_count a u) (base.Arg 0) in
      let m : length s.slots ≡ value_count a u = ap length p ∙ length-replicate (value_count a u) None in
      record {
        long = n ∙ sym m;
        holds = subst (λ (l : List (Option Held)). Holds a u l nothing_held) (sym (ap (moved_slots args sigs s.bases) p ∙ moved-none args sigs s.bases (value_count a u) n)) (holds-nothing a u);
      }

  pub new-fits : (s : Statics) → s.slots ≡ replicate (value_count a u) None → FitsSomething a u s
  new-fits s p = record {
    held = nothing_held;
    holds = subst (λ (l : List (Option Held)). Holds a u l nothing_held) (sym p) (holds-nothing a u);
    fits = nothing-fits (unit_text_at a u) 65536;
    small = nothing-small;
  }

  pub new-slots : (s : Statics) → s.slots ≡ replicate (value_count a u) None → s.bases.items ≡ replicate (value_count a u) (base.Arg 0) → HasSlots s
  new-slots s p q = (new-follows [] [] (by_of s) p q).long

  pub parts-small : (s : Statics) → FitsSomething a u s → PartsSmall s
  parts-small s f v r l e = f.small (value_text (naming a u) v) r (sym (f.holds.each v l) ∙ part-held (slot_at s.slots v) r e)

  module _ (e : kind_at a u ≡ Some kind.Entity) where
    pub lines : lines_of (unit_text_at a u).blocks ≡ map (inst_line_text (naming a u) (table_at a u)) (block_insts_at a u 0)
    lines = entity-lines a u o h e

    pub insts-in : (is : List InstId) → is ≡ block_insts_at a u 0 → Each (λ (i : InstId). i.0 < inst_count a u) is
    insts-in is i = subst (Each (λ (x : InstId). x.0 < inst_count a u)) (sym i) (entity-insts a u o h e)

    -- what holds of each line holds of each instruction
    pub each-inst : (P : LineText → Type 0) (is : List InstId) → is ≡ block_insts_at a u 0 → Each P (lines_of (unit_text_at a u).blocks)
        → Each (λ (i : InstId). P (inst_line_text (naming a u) (table_at a u) i)) is
    each-inst P is i w = subst (Each (λ (x : InstId). P (inst_line_text (naming a u) (table_at a u) x))) (sym i)
        (Each-of-map P (inst_line_text (naming a u) (table_at a u)) (block_insts_at a u 0) (subst (Each P) lines w))

    -- what elaboration reads of an entity
    pub entity-signals : (is : List InstId) → is ≡ block_insts_at a u 0 → signals_of (static_held (unit_text_at a u) [] []) (map (inst_line_text (naming a u) (table_at a u)) is)
        ≡ (hierarchy_of (unit_text_at a u)).signals
    entity-signals is i =
        ap (λ l. signals_of (static_held (unit_text_at a u) [] []) (map (inst_line_text (naming a u) (table_at a u)) l)) i
        ∙ ap (signals_of (static_held (unit_text_at a u) [] [])) (sym lines)
        ∙ sym (ap (λ k. (hierarchy_by k (unit_text_at a u)).signals) (ap kind_text e))

    pub entity-children : (args sigs : List Range) (is : List InstId) → is ≡ block_insts_at a u 0
        → children_of (static_held (unit_text_at a u) args sigs) (map (inst_line_text (naming a u) (table_at a u)) is) ≡ (hierarchy_of (unit_text_at a u)).children args sigs
    entity-children args sigs is i =
        ap (λ l. children_of (static_held (unit_text_at a u) args sigs) (map (inst_line_text (naming a u) (table_at a u)) l)) i
        ∙ ap (children_of (static_held (unit_text_at a u) args sigs)) (sym lines)
        ∙ sym (ap (λ k. (hierarchy_by k (unit_text_at a u)).children args sigs) (ap kind_text e))

    -- what is held after the instructions, where no signal is there
    pub values-hold : (s t : Statics) (is : List InstId) → is ≡ block_insts_at a u 0 → s.slots ≡ replicate (value_count a u) None → s.bases.items ≡ replicate (value_count a u) (base.Arg 0)
        → ((args sigs : List Range) (x : Env) → StaticsFollow a u args sigs (by_of s) x
        → StaticsFollow a u args sigs (by_of t) (static_from (unit_text_at a u) x (map (inst_line_text (naming a u) (table_at a u)) is)))
        → Holds a u t.slots (static_held (unit_text_at a u) [] [])
    values-hold s t is i p q go =
        let text = unit_text_at a u in
        let x : static_from text nothing_held (map (inst_line_text (naming a u) (table_at a u)) is) ≡ static_held text [] [] =
        ap (λ l. static_from text nothing_held (map (inst_line_text (naming a u) (table_at a u)) l)) i ∙ (λ j. static_from text (sym (parts-none text) j) (sym lines j)) in
        subst (Holds a u t.slots) x (plain a u t (static_from text nothing_held (map (inst_line_text (naming a u) (table_at a u)) is)) (go [] [] nothing_held (new-follows [] [] (by_of s) p q)))

    -- the arguments and the signals
    abbrev Begun : StaticsById → List InstId → StaticsById
    Begun s is = sigs_begun (table_at a u) 0 is (args_begun 0 (args_at a u) s)

    length-args : (k : ℕ) (xs : List Arg) (s : StaticsById) → length (args_begun k xs s).slots ≡ length s.slots
    length-args k [] s = refl
    length-args k (x ∷ xs) s = length-args (k + 1) xs _ ∙ length-set s.slots x.value.0 _

    begun-follows : (args sigs : List Range) → AreRangesOf (unit_text_at a u) args sigs → (s : StaticsById) → s.slots ≡ replicate (value_count a u) None
        → s.bases ≡ replicate (value_count a u) (base.Arg 0) → StaticsFollow a u args sigs (Begun s (block_insts_at a u 0)) (parts_of (unit_text_at a u) args sigs)
    begun-follows args sigs w s p q =
        let m : length s.slots ≡ value_count a u = ap length p ∙ length-replicate (value_count a u) None in
        let f = args-follow a u args sigs o h 0 (args_at a u) args s nothing_held refl w.of_args (o.tables u h).args_within m (new-follows args sigs s p q) in
        let n : length (args_begun 0 (args_at a u) s).slots ≡ value_count a u = length-args 0 (args_at a u) s ∙ m in
        let x = with_args nothing_held (unit_text_at a u).args (map part_held args) in
        let g = signals-follow a u args sigs o h (block_insts_at a u 0) 0 sigs (args_begun 0 (args_at a u) s) x refl
        (subst (AreWide sigs) (entity-types (unit_text_at a u) (ap kind_text e) ∙ ap signal_types lines) w.of_signals) n f in
        subst (λ (ls : List LineText). StaticsFollow a u args sigs (Begun s (block_insts_at a u 0)) (with_parts x (signal_names ls) sigs)) (sym lines) g

    -- after the instructions
    pub parts-follow : (s b t : Statics) (is : List InstId) → is ≡ block_insts_at a u 0 → s.slots ≡ replicate (value_count a u) None → s.bases.items ≡ replicate (value_count a u) (base.Arg 0)
        → by_of b ≡ Begun (by_of s) is
        → ((args sigs : List Range) (x : Env) → StaticsFollow a u args sigs (by_of b) x
        → StaticsFollow a u args sigs (by_of t) (static_from (unit_text_at a u) x (map (inst_line_text (naming a u) (table_at a u)) is)))
        → (args sigs : List Range) → AreRangesOf (unit_text_at a u) args sigs → StaticsFollow a u args sigs (by_of t) (static_held (unit_text_at a u) args sigs)
    parts-follow s b t is i p q r go args sigs w =
        let text = unit_text_at a u in
        let f : StaticsFollow a u args sigs (by_of b) (parts_of text args sigs) = subst (λ (y : StaticsById). StaticsFollow a u args sigs y (parts_of text args sigs))
        (sym (r ∙ ap (Begun (by_of s)) i)) (begun-follows args sigs w (by_of s) p q) in
        let x : static_from text (parts_of text args sigs) (map (inst_line_text (naming a u) (table_at a u)) is) ≡ static_held text args sigs =
        ap (λ l. static_from text (parts_of text args sigs) (map (inst_line_text (naming a u) (table_at a u)) l)) i ∙ ap (static_from text (parts_of text args sigs)) (sym lines) in
        subst (StaticsFollow a u args sigs (by_of t)) x (go args sigs (parts_of text args sigs) f)

    module _ (g : IsWellFormed (contents a)) where
      pub sound : UnitIsSound (unit_text_at a u)
      sound = unit-is-sound a u o h g (subst (λ (k : Option UnitKind). IsSome k) (sym e) refl)

      pub ports : Each IsPort (unit_text_at a u).args
      ports = subst (λ (k : UnitKind). HasPorts k (unit_text_at a u).args) (ap kind_text e) sound.ports

      pub begun-fits : (s b : Statics) (is : List InstId) → is ≡ block_insts_at a u 0 → s.slots ≡ replicate (value_count a u) None → s.bases.items ≡ replicate (value_count a u) (base.Arg 0)
          → by_of b ≡ Begun (by_of s) is → FitsSomething a u b
      begun-fits s b is i p q r =
          let text = unit_text_at a u in
          let ts = arg_types text.args in
          let us = signal_types (lines_of text.blocks) in
          let args = map zero_range ts in
          let sigs = map zero_range us in
          let f : StaticsFollow a u args sigs (by_of b) (parts_of text args sigs) =
          subst (λ (y : StaticsById). StaticsFollow a u args sigs y (parts_of text args sigs)) (sym (r ∙ ap (Begun (by_of s)) i))
          (begun-follows args sigs (record { of_args = zeros-wide ts; of_signals = subst (AreWide sigs) (sym (entity-types text (ap kind_text e))) (zeros-wide us) }) (by_of s) p q) in
          let fit : InstanceFits text args sigs 65536 = record
          { of_args = zeros-fit ts (ports-narrow text.args ports); of_signals = zeros-fit us (signals-narrow (lines_of text.blocks) sound.signals) } in
          let z : (c : Base) → base_lo args sigs c ≡ 0 = zero-base ts us in
          record {
            held = parts_of text args sigs;
            holds = subst (λ (l : List (Option Held)). Holds a u l (parts_of text args sigs)) (slots-stay args sigs z b.bases.items b.slots f.long) f.holds;
            fits = begins-fit a u o h g e args sigs 65536 fit;
            small = begins-small text args sigs (zeros-low ts) (zeros-low us);
          }
        where
          zero-base : (ts us : List TypeTree) (c : Base) → base_lo (map zero_range ts) (map zero_range us) c ≡ 0
          zero-base ts us (base.Arg k) = zero-at ts k
          zero-base ts us (base.Sig k) = zero-at us k

-- a `sig` has what its signal is made of
pub signal-line : (a : Arena) (u : ℕ) (s : Statics) → FitsSomething a u s → (r : Option ValueId) (i : Inst) → ResultWithin (value_count a u) r → InstPlaced a u i
    → RowIs (unit_text_at a u) (inst_text (naming a u) i) → SigWritesData (maybe_text (naming a u) r) (inst_text (naming a u) i) → SignalLine a u s.slots r i
signal-line a u s f None (inst.Sig x) w p row d = let n : IsSome {T = List ℕ} None = d.3 in absurd cc
signal-line a u s f (Some v) (inst.Sig x) w p row d =
    let l : x.value.0 < length s.slots = omega (arith, p, f.holds.long) in
    let same : d.0 ≡ row.0 = same_Some d.0 row.0 (sym d.1 ∙ row.2.0) in (
      w,
      l,
      (
        row.0,
        row.2.0,
        subst IsData same d.2,
        λ y q. (f.fits (value_text (naming a u) x.value) (datum_held y) row.0 (sym (f.holds.each x.value l) ∙ datum-held (slot_at s.slots x.value) y q) row.2.1).1,
      ),
    )
signal-line a u s f r (inst.Ret None) w p row d = tt
signal-line a u s f r (inst.Ret (Some x)) w p row d = tt
signal-line a u s f r _ w p row d = tt

-- it begins with as many bits as its type has
pub initial-long : (o : Option Datum) (t : TypeTree) → ((d : Datum) → o ≡ Some d → FitsType d t) → length (option_map_or value_bits o (zeros t)) ≡ bit_count t
initial-long None t f = length-replicate (bit_count t) false
initial-long (Some d) t f = bits_are_counted d t (f d refl)

pub signal-fits : (a : Arena) (u : ℕ) (slots : List (Option Held)) (name : Option ValueId) (v : ValueId) (x : Typed) (ty t : TypeTree) (b : List Bool) → name ≡ Some v → x.ty ≡ Some ty
    → SignalIs a u slots name x → t ≡ ty → b ≡ option_map_or value_bits (datum_in slots x.value) (zeros (type_or_void x.ty)) → IsData t × (length b ≡ bit_count t)
signal-fits a u slots name v x ty t b n w l e q =
    let k = subst (λ (y : Option ValueId). SignalIs a u slots y x) n l in
    let same : k.2.0 ≡ t = same_Some k.2.0 t (sym k.2.1 ∙ w ∙ ap Some (sym e)) in
    let z : b ≡ option_map_or value_bits (datum_in slots x.value) (zeros k.2.0) = q ∙ ap (λ o. option_map_or value_bits (datum_in slots x.value) (zeros (type_or_void o))) k.2.1 in
    (subst IsData same k.2.2, ap length z ∙ initial-long (datum_in slots x.value) k.2.0 k.2.3 ∙ ap bit_count same)
