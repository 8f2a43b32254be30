-- An entity that was emitted has no fault, in whatever module it stands.
use Rattle.std.proofs.Common.{◌≡◌, ℕ, ◌+◌, ◌≤◌, Bool, true, false, not, ◌&&◌, ◌||◌, nat_eq, List, [], ◌∷◌, ◌++◌, length, map, Option, Some, None, slice_get, refl, ap, sym, ◌∙◌, subst, arith, append_assoc, append-nil}
use Rattle.std.specs.List.{list_any, list_all}
use Rattle.std.specs.Option.{option_and_then, option_map, option_map_or}
use Rattle.lh_types.specs.Types.{TypeTree, signal_type, same_type}
use Rattle.lh_types.specs.Same.{and_both, same-is}
use Rattle.lh_unit.specs.declared.inst.UnitKind.TheVariants as kind
use Rattle.lh_unit.specs.Contents.{InstText, const_text, pure_text, prb_text, drv_text, reg_text, LineText, BlockText, ArgText, UnitText, ItemText, args_define, lines_define, defines_value}
use Rattle.lh_unit.specs.Kinds.{Use, uses, kind_of, result_kind, value_kind}
use Rattle.lh_unit.specs.Places.{InstPlaceText, places_in, places}
use Rattle.lh_unit.specs.Typing.{value_type, or_else, result_type, inst_giving}
use Rattle.lh_unit.specs.TypingRows.{types_fit}
use Rattle.lh_unit.specs.Within.{Each}
use Rattle.lh_unit.specs.WellFormed.{values_named, is_undefined, is_wrong_kind, is_wrong_type, is_allowed, phi_is_wrong, arguments_differ, FaultKind, undefined, wrong_kind, wrong_type, not_here, no_terminator, phi_edges, not_defined, arguments, has_wrong_kind, has_no_kind, stands_later, Site, HasFault, NoneHasFault}
use Rattle.lh_unit.specs.Reads.{args_repeat}
use Rattle.lh_unit.proofs.Lists.{some_inj, list_any-none}
use Rattle.lh_unit.proofs.Within.{Each-more}
use Rattle.lh_unit.proofs.ById.{lines_define-append}
use Rattle.lh_text_laws.specs.Printable.{results_repeat}
use Rattle.lh_term.specs.declared.part.Part.{Part}
use Rattle.lh_emit_def.specs.Emitted.{PartStep, source_of, Emitted, nothing_emitted, name_if_whole, whole_name}
use Rattle.lh_emit_def.specs.Entities.{entity_with, comb, edge, once, emit_probes, drive_fits, row_fits}
use Rattle.lh_emit_def.specs.Ways.{IsReached}
use Rattle.lh_emit_def.specs.Laws.{IsEmittedKind, IsRightEntity, CombIsRight, EdgeIsRight, OnceIsRight}
use Rattle.lh_emit_def.proofs.Arguments.{AreApart, are-apart, argument-named, defines-there}
use Rattle.lh_emit_def.proofs.PassState.{Frame, HasFewArgs, source, Begins}
use Rattle.lh_emit_def.proofs.Typed.{Named, UseRight, IsRight, AllRight}
use Rattle.lh_emit_def.proofs.Faultless.{NoFault, no-fault_kept}
use Rattle.lh_emit_def.proofs.KeptByRows.{drives-kept, probes-kept, rows-kept}
use Rattle.lh_emit_def.proofs.Whole.{IsWithin, within, given-rows}
use Rattle.lh_emit_def.proofs.Plain.{given-drives, given-waits, comb-lines, edge-lines, once-lines}

-- ---- tests over lists

none-named : (test : List ℕ → Bool) (xs : List Use) → Each (λ (x : Use). test x.value ≡ false) xs → list_any test (map (λ (x : Use). x.value) xs) ≡ false
none-named test [] h = refl
none-named test (x ∷ xs) h = rw h.0 (none-named test xs h.1)

-- ---- one instruction

module _ (u : UnitText) (ls : List LineText) (items : List ItemText) where
  abbrev entity : UnitText
  entity = entity_with u ls

  module _ (before rest : List LineText) (same : ls ≡ before ++ rest) (i : InstText) (r : IsRight entity before i) where
    use-defined : (x : Use) → UseRight entity before x → not (defines_value x.value entity) ≡ false
    use-defined x h = by (args_define x.value u.args) refl h.there
      where
        by : (a : Bool) → args_define x.value u.args ≡ a → (a || lines_define x.value before) ≡ true → not (defines_value x.value entity) ≡ false
        by true q k = rw q refl
        by false q k = let z : lines_define x.value ls ≡ true = ap (lines_define x.value) same ∙ lines_define-append x.value before rest k in rw (q, z) refl

    all-defined : list_any (λ n. not (defines_value n entity)) (map (λ (x : Use). x.value) (uses i)) ≡ false
    all-defined = none-named (λ n. not (defines_value n entity)) (uses i) (Each-more _ _ (uses i) use-defined r.uses)

    right-kinds : list_any (has_wrong_kind entity) (uses i) ≡ false
    right-kinds = list_any-none (has_wrong_kind entity) (uses i) (Each-more _ _ (uses i) one r.uses)
      where
        one : (x : Use) → UseRight entity before x → has_wrong_kind entity x ≡ false
        one x h = ap (λ o. option_map_or (λ k. not (Rattle.lh_unit.specs.Kinds.takes x.need k)) o false) h.kind ∙ ap not h.takes

    some-kinds : list_any (has_no_kind entity) (uses i) ≡ false
    some-kinds = list_any-none (has_no_kind entity) (uses i) (Each-more _ _ (uses i) one r.uses)
      where
        one : (x : Use) → UseRight entity before x → has_no_kind entity x ≡ false
        one x h = ap (λ o. option_map_or (λ k. false) o true) h.kind

    stand-earlier : (p : InstPlaceText) → p.before ≡ before → list_any (stands_later entity p) (map (λ (x : Use). x.value) (uses i)) ≡ false
    stand-earlier p q = none-named (stands_later entity p) (uses i) (Each-more _ _ (uses i) one r.uses)
      where
        one : (x : Use) → UseRight entity before x → stands_later entity p x.value ≡ false
        one x h = ap (λ z. not (args_define x.value u.args || lines_define x.value z)) q ∙ ap not h.there

  -- ---- each fault

  undefined-none : (i : InstText) → IsEmittedKind i → list_any (λ n. not (defines_value n entity)) (values_named i) ≡ false → is_undefined items entity i ≡ false
  undefined-none (const_text d) m a = ap (λ z. z || false || false) a
  undefined-none (pure_text o args) m a = ap (λ z. z || false || false) a
  undefined-none (prb_text s) m a = ap (λ z. z || false || false) a
  undefined-none (drv_text to value after c) m a = ap (λ z. z || false || false) a
  undefined-none (reg_text to ts) m a = ap (λ z. z || false || false) a
  undefined-none _ m a = absurd m

  kind-none : (i : InstText) → IsEmittedKind i → list_any (has_wrong_kind entity) (uses i) ≡ false → is_wrong_kind items entity i ≡ false
  kind-none (const_text d) m a = ap (λ z. z || false || false) a
  kind-none (pure_text o args) m a = ap (λ z. z || false || false) a
  kind-none (prb_text s) m a = ap (λ z. z || false || false) a
  kind-none (drv_text to value after c) m a = ap (λ z. z || false || false) a
  kind-none (reg_text to ts) m a = ap (λ z. z || false || false) a
  kind-none _ m a = absurd m

  type-none : (i : InstText) → IsEmittedKind i → list_any (has_no_kind entity) (uses i) ≡ false → types_fit entity i ≡ true → is_wrong_type items entity i ≡ false
  type-none (const_text d) m a t = λ j. a j || not (t j) || false
  type-none (pure_text o args) m a t = λ j. a j || not (t j) || false
  type-none (prb_text s) m a t = λ j. a j || not (t j) || false
  type-none (drv_text to value after c) m a t = λ j. a j || not (t j) || false
  type-none (reg_text to ts) m a t = λ j. a j || not (t j) || false
  type-none _ m a t = absurd m

  place-none : (i : InstText) → IsEmittedKind i → not (is_allowed kind.Entity i) ≡ false
  place-none (const_text d) m = refl
  place-none (pure_text o args) m = refl
  place-none (prb_text s) m = refl
  place-none (drv_text to value after c) m = refl
  place-none (reg_text to ts) m = refl
  place-none _ m = absurd m

  phi-none : (p : InstPlaceText) (i : InstText) → IsEmittedKind i → phi_is_wrong entity p i ≡ false
  phi-none p (const_text d) m = refl
  phi-none p (pure_text o args) m = refl
  phi-none p (prb_text s) m = refl
  phi-none p (drv_text to value after c) m = refl
  phi-none p (reg_text to ts) m = refl
  phi-none p _ m = absurd m

  arguments-none : (i : InstText) → IsEmittedKind i → arguments_differ items entity i ≡ false
  arguments-none (const_text d) m = refl
  arguments-none (pure_text o args) m = refl
  arguments-none (prb_text s) m = refl
  arguments-none (drv_text to value after c) m = refl
  arguments-none (reg_text to ts) m = refl
  arguments-none _ m = absurd m

  not-both : (b : Bool) → b ≡ true → b ≡ false → ⊥
  not-both true p q = cc
  not-both false p q = cc

  -- an instruction that is right has no fault at its place
  none-at : (p : InstPlaceText) (rest : List LineText) → ls ≡ p.before ++ rest → IsEmittedKind p.line.inst → IsRight entity p.before p.line.inst → (k : FaultKind)
      → HasFault items (record { unit = entity; place = p }) k → ⊥
  none-at p rest s m r undefined h = not-both _ h (undefined-none p.line.inst m (all-defined p.before rest s p.line.inst r))
  none-at p rest s m r wrong_kind h = not-both _ h (kind-none p.line.inst m (right-kinds p.before rest s p.line.inst r))
  none-at p rest s m r wrong_type h = not-both _ h (type-none p.line.inst m (some-kinds p.before rest s p.line.inst r) r.types)
  none-at p rest s m r not_here h = not-both _ h (place-none p.line.inst m)
  none-at p rest s m r no_terminator h = absurd cc
  none-at p rest s m r phi_edges h = not-both _ h (phi-none p p.line.inst m)
  none-at p rest s m r not_defined h = not-both _ h.1 (stand-earlier p.before rest s p.line.inst r p refl)
  none-at p rest s m r arguments h = not-both _ h (arguments-none p.line.inst m)

  abbrev site : InstPlaceText → Site
  site p = record { unit = entity; place = p }

  -- none of the rest of its block has
  none-in : (n : ℕ) (first : Bool) (b : BlockText) (before rest : List LineText) → ls ≡ before ++ rest → Each (λ (l : LineText). IsEmittedKind l.inst) rest → AllRight entity before rest →
      NoneHasFault items (map site (places_in n first b before rest))
  none-in n first b before [] s m r = tt
  none-in n first b before (l ∷ rest) s m r = (
    none-at (record { number = n; in_entry = first; block = b; before = before; line = l; after = rest }) (l ∷ rest) s m.0 r.0,
    none-in (n + 1) first b (before ++ l ∷ []) rest (s ∙ sym (append_assoc before (l ∷ []) rest)) m.1 r.1,
  )

  pub none-has : Each (λ (l : LineText). IsEmittedKind l.inst) ls → AllRight entity [] ls → NoneHasFault items (map site (places entity))
  none-has m r =
      subst (λ ps. NoneHasFault items (map site ps)) (sym (append-nil (places_in 1 true (record { label = None; lines = ls }) [] ls)))
      (none-in 1 true (record { label = None; lines = ls }) [] ls refl m r)

-- ---- before the first instruction

record WholeName (args : List ArgText) (p : Part) (n : List ℕ) : Type 0 where
  arg : ArgText
  there : slice_get args p.arg ≡ Some arg
  name : arg.name ≡ n
  signal : arg.ty ≡ signal_type p.ty

whole-name : (args : List ArgText) (p : Part) (n : List ℕ) → whole_name args p ≡ Some n → WholeName args p n
whole-name args p n h = at (slice_get args p.arg) refl h
  where
    by : (a : ArgText) → slice_get args p.arg ≡ Some a → name_if_whole p a ≡ Some n → (c : Bool) → (nat_eq p.lo 0 && same_type a.ty (signal_type p.ty)) ≡ c → WholeName args p n
    by a q g false r = let z : None ≡ Some n = (rw r at g) in absurd cc
    by a q g true r =
        let z : Some a.name ≡ Some n = (rw r at g) in
        let c = and_both (nat_eq p.lo 0) (same_type a.ty (signal_type p.ty)) r in
        record { arg = a; there = q; name = some_inj a.name n z; signal = same-is a.ty (signal_type p.ty) c.1 }

    at : (o : Option ArgText) → slice_get args p.arg ≡ o → option_and_then (name_if_whole p) o ≡ Some n → WholeName args p n
    at None q k = absurd cc
    at (Some a) q k = by a q k (nat_eq p.lo 0 && same_type a.ty (signal_type p.ty)) refl

module _ (f : Frame) (few : HasFewArgs f.unit) (once : args_repeat [] f.unit.args ≡ false) where
  argument-named_there : (y : UnitText) → Begins f few y [] → (k : ℕ) (a : ArgText) (t : TypeTree) → slice_get f.unit.args k ≡ Some a → a.ty ≡ signal_type t → Named y [] a.name (signal_type t)
  argument-named_there y b k a t p s =
      let apart : AreApart f.unit.args = are-apart f.unit.args once in
      let n = argument-named f.unit.args k a apart p in
      let z = entity_with f.unit ([] ++ b.more) in
      record {
        type = ap (λ x. value_type x a.name) b.is ∙ ap (λ x. or_else (option_map (λ (z : ArgText). z.ty) x) (option_and_then result_type (inst_giving a.name z.blocks))) n ∙ ap Some s;
        kind = ap (λ x. value_kind x a.name) b.is ∙ ap (λ x. or_else (option_and_then (λ (z : ArgText). kind_of z.ty) x) (option_and_then result_kind (inst_giving a.name z.blocks))) n
            ∙ ap (λ t. or_else (kind_of t) (option_and_then result_kind (inst_giving a.name z.blocks))) s;
        there = ap (λ (x : UnitText). args_define a.name x.args || false) b.is ∙ ap (λ c. c || false) (defines-there f.unit.args k a p);
      }

  pub none-yet : NoFault f few (nothing_emitted (source f few))
  none-yet y b = record {
    terms = λ t n h. absurd cc;
    parts = λ p n h.
        let w = whole-name f.unit.args p n h in
        subst (λ m. Named y [] m (signal_type p.ty)) w.name (argument-named_there y b p.arg w.arg p.ty w.there w.signal);
    args = λ k a t p q. argument-named_there y b k a t p q;
    new = λ j m. refl;
    room = omega arith;
    right = tt;
    once = refl;
  }

-- ---- the entities of the three shapes

-- an instance that has no bits, for what does not ask about any
abbrev nowhere : UnitText → (Part → List PartStep) → Frame
nowhere u steps = record { unit = u; steps = steps; args = []; now = []; memory = None; at = record { fs = 0; delta = 0; eps = 0 } }

no-fault : (u y : UnitText) (steps : Part → List PartStep) (fits : Bool) (e : Emitted) (few : HasFewArgs u) → IsWithin u y fits e.lines → Each (λ (l : LineText). IsEmittedKind l.inst) e.lines
    → NoFault (nowhere u steps) few e → IsRightEntity y
no-fault u y steps fits e few w m h =
    let b : Begins (nowhere u steps) few (entity_with u e.lines) e.lines = record {
      more = [];
      is = ap (entity_with u) (sym (append-nil e.lines));
      short = subst (λ (l : List LineText). length l ≤ 65536) (sym (append-nil e.lines)) w.short;
    } in
    let r = h (entity_with u e.lines) b in
    subst IsRightEntity (sym w.is) (record {
      new_results = ap (results_repeat u.args []) (append-nil e.lines) ∙ r.once;
      no_fault = λ items. none-has u e.lines items m r.right;
    })

pub comb-no_fault : CombIsRight
comb-no_fault u y steps waited ds h a ws gs =
    let s = source_of u steps in
    let f = nowhere u steps in
    let w = within u y (list_all drive_fits ds) (comb s waited ds).lines h in
    let k = no-fault_kept f a.few in
    let p = probes-kept s (IsReached s) (λ p r. r) (NoFault f a.few) k waited (given-waits u steps waited ws) (nothing_emitted s) (none-yet f a.few a.once) in
    let d = drives-kept s (IsReached s) (λ p r. r) (NoFault f a.few) k ds (given-drives u steps ds gs) w.all_fit (emit_probes s waited (nothing_emitted s)) p.inv in
    no-fault u y steps (list_all drive_fits ds) (comb s waited ds) a.few w (comb-lines u steps waited ds w.all_fit ws gs) d.inv

pub once-no_fault : OnceIsRight
once-no_fault u y steps ds h a gs =
    let s = source_of u steps in
    let f = nowhere u steps in
    let w = within u y (list_all drive_fits ds) (once s ds).lines h in
    let d = drives-kept s (IsReached s) (λ p r. r) (NoFault f a.few) (no-fault_kept f a.few) ds (given-drives u steps ds gs) w.all_fit (nothing_emitted s) (none-yet f a.few a.once) in
    no-fault u y steps (list_all drive_fits ds) (once s ds) a.few w (once-lines u steps ds w.all_fit gs) d.inv

pub edge-no_fault : EdgeIsRight
edge-no_fault u y steps rs h a gs =
    let s = source_of u steps in
    let f = nowhere u steps in
    let w = within u y (list_all row_fits rs) (edge s rs).lines h in
    let d = rows-kept s (IsReached s) (λ p r. r) (NoFault f a.few) (no-fault_kept f a.few) rs (given-rows u steps rs gs) w.all_fit (nothing_emitted s) (none-yet f a.few a.once) in
    no-fault u y steps (list_all row_fits rs) (edge s rs) a.few w (edge-lines u steps rs w.all_fit gs) d.inv
