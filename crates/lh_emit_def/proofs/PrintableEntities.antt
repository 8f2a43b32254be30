-- What is emitted can be printed and read.
use Rattle.std.proofs.Common.{◌≡◌, ℕ, ◌+◌, ◌*◌, ◌<◌, ◌≤◌, ◌^◌, Bool, true, false, if◌then◌else◌, List, [], ◌∷◌, ◌++◌, length, map, Option, Some, None, unwrap_or, slice_get, refl, sym, subst, arith, length-append, append-nil, inl, inr, nat_eq, ◌&&◌}
use Rattle.std.specs.List.{list_all}
use Rattle.std.specs.Option.{option_and_then}
use Rattle.std.proofs.Math.Nat.{mul-le-mul_right}
use Rattle.std.proofs.Math.Pow.{pow_mono}
use Rattle.lh_types.specs.Types.{TypeTree, int_type, signal_type, same_type, IsData, IsLimited}
use Rattle.lh_types.specs.Values.{Datum, int_value, time_value, array_value, tuple_value}
use Rattle.lh_unit_names.specs.Names.{IsName}
use Rattle.lh_unit.specs.Contents.{InstText, const_text, pure_text, prb_text, drv_text, reg_text, LineText, ArgText, UnitText}
use Rattle.lh_unit.specs.SpellsInst.{SpellsInst, gives_value}
use Rattle.lh_unit.specs.Within.{Each}
use Rattle.lh_unit.specs.Hierarchy.{lines_of}
use Rattle.lh_unit.proofs.Lists.{some_inj}
use Rattle.lh_text_laws.specs.Printable.{HasInstLine, IsPrintable, results_repeat}
use Rattle.lh_term.specs.Tree.{Tree, constant, now_of}
use Rattle.lh_term.specs.Types.{FitsTerm, IsValueType}
use Rattle.lh_term.specs.Make.{is_bit}
use Rattle.lh_term.specs.SameTree.{same_tree}
use Rattle.lh_term.specs.Same.{same_part}
use Rattle.lh_term.specs.declared.part.Part.{Part}
use Rattle.lh_emit_def.specs.Given.{Drive, TriggerTree, EdgeRowTree}
use Rattle.lh_emit_def.specs.Names.{free_number}
use Rattle.lh_emit_def.specs.Emitted.{PartStep, Source, source_of, Emitted, nothing_emitted, name_if_whole, whole_name, next_name, gives, gives_term, puts, takes_steps, arg_name, term_name, part_name, signal, typed, with_part}
use Rattle.lh_emit_def.specs.Needs.{operation_text}
use Rattle.lh_emit_def.specs.Entities.{entity_with, comb, edge, once, emit_probes, cond_name, trigger_text, drive_fits, row_fits}
use Rattle.lh_emit_def.specs.Ways.{StepsLead, IsReached}
use Rattle.lh_term.specs.Parts.{whole_argument}
use Rattle.lh_emit_def.specs.Laws.{IsRightEntity}
use Rattle.lh_emit_def.specs.Printed.{HasPrintableHeader, CombIsPrintable, EdgeIsPrintable, OnceIsPrintable}
use Rattle.lh_emit_def.proofs.Induction.{IsNamed, IsNamedPart}
use Rattle.lh_emit_def.proofs.ValueNames.{free_from-within, number-name}
use Rattle.lh_emit_def.proofs.NeedLaws.{IsScalar}
use Rattle.lh_emit_def.proofs.DrivePasses.{CondNamed}
use Rattle.lh_emit_def.proofs.RegisterPasses.{TriggerNamed}
use Rattle.lh_emit_def.proofs.KeptByRows.{DriveHas, RowHas, DriveNamed, RowNamed, KeepsRows, drives-kept, probes-kept, rows-kept}
use Rattle.lh_emit_def.proofs.Whole.{IsWithin, within, given-rows}
use Rattle.lh_emit_def.proofs.Plain.{given-drives, given-waits}
use Rattle.lh_emit_def.proofs.Sites.{comb-no_fault, edge-no_fault, once-no_fault}
use Rattle.lh_emit_def.proofs.StepTypes.{step-well-to}
use Rattle.lh_emit_def.proofs.InstructionSpelling.{each-append, Spelt, MaybeName, TriggerWritten, given-line, plain-line, int-spelt, time-spelt, probe-spelt, drive-spelt, register-spelt}
use Rattle.lh_emit_def.proofs.OperationSpelling.{step-spelt, operation-spelt}
use Rattle.lh_emit_def.proofs.Times.{TimeFits, TimeLine, drives-timed, probes-timed, rows-timed}
use Rattle.lh_emit_def.proofs.Headed.{headed, ArgWritten, args-written, arg-written}

before-last : (ls : List LineText) (l : LineText) → Each TimeLine (ls ++ l ∷ []) → Each TimeLine ls
before-last [] l h = tt
before-last (x ∷ ls) l h = (h.0, before-last ls l h.1)

the-last : (ls : List LineText) (l : LineText) → Each TimeLine (ls ++ l ∷ []) → TimeLine l
the-last [] l h = h.0
the-last (x ∷ ls) l h = the-last ls l h.1

-- the lines of an entity that is emitted in the end
record Lines (ls : List LineText) : Type 0 where
  short : length ls ≤ 65536
  times : Each TimeLine ls

lines-before : (ls : List LineText) (l : LineText) → Lines (ls ++ l ∷ []) → Lines ls
lines-before ls l h = record { short = omega (arith, h.short, length-append ls (l ∷ [])); times = before-last ls l h.times }

scalar-spelt : (v : Datum) → IsScalar v → FitsTerm v → TimeFits (const_text v) → Spelt (SpellsInst (const_text v))
scalar-spelt (int_value n b) i w t = by w.is_value
  where
    by : IsValueType (int_type n) → Spelt (SpellsInst (const_text (int_value n b)))
    by (inl d) =
        let l : b < 2 ^ n = w.fits.1 in
        let p : 2 ^ n ≤ 2 ^ 128 = pow_mono d.1 in
        let s : b < 10 ^ 64 = omega (arith, l, p) in
        int-spelt n b d l s
    by (inr e) = absurd cc
scalar-spelt (time_value d) i w t = time-spelt d t.0 t.1 t.2
scalar-spelt (array_value vs) i w t = absurd i
scalar-spelt (tuple_value vs) i w t = absurd i

module _ (u : UnitText) (steps : Part → List PartStep) (few : length u.args < 2 ^ 32) (args : Each ArgWritten u.args) where
  abbrev s : Source
  s = source_of u steps

  -- names and lines can be written
  record Written (e : Emitted) : Type 0 where
    terms : (t : Tree) (n : List ℕ) → e.terms t ≡ Some n → IsName n
    parts : (p : Part) (n : List ℕ) → e.parts p ≡ Some n → IsName n
    lines : Each HasInstLine e.lines
    room : e.next ≤ length e.lines * (length u.args + 1)

  abbrev Inv : Emitted → Type 0
  Inv e = Lines e.lines → Written e

  next-named : (e : Emitted) → Lines e.lines → Written e → IsName (next_name s e)
  next-named e l w =
      let h : length e.lines ≤ 65536 = l.short in
      let g : length u.args < 4294967296 = few in
      let m : length e.lines * (length u.args + 1) ≤ 65536 * (length u.args + 1) = mul-le-mul_right (length u.args + 1) h in
      let k = free_from-within u.args (length u.args) e.next in
      number-name (free_number u.args e.next) (omega (arith, k.1, m, w.room, g))

  -- an instruction that gives a value
  gives-written : (e : Emitted) (i : InstText) → Lines e.lines → Written e → HasInstLine (record { result = Some (next_name s e); inst = i }) → Written (gives s i e)
  gives-written e i l w h =
      let k = free_from-within u.args (length u.args) e.next in
      let q : length (e.lines ++ record { result = Some (next_name s e); inst = i } ∷ []) ≡ length e.lines + 1 = length-append e.lines (record { result = Some (next_name s e); inst = i } ∷ []) in
      record {
        terms = λ t n p. w.terms t n p;
        parts = λ p n q. w.parts p n q;
        lines = each-append HasInstLine e.lines _ w.lines (h, tt);
        room = rw q (omega (arith, k.1, w.room));
      }

  gives_term-written : (e : Emitted) (t : Tree) (i : InstText) → Inv e → Lines (gives_term s t i e).lines → ((w : Written e) → Spelt (SpellsInst i)) →
      gives_value i ≡ true → Written (gives_term s t i e)
  gives_term-written e t i h l x g =
      let b = lines-before e.lines _ l in
      let w = h b in
      let n = next-named e b w in
      let r = gives-written e i b w (given-line (next_name s e) i n g (x w)) in
      record { terms = λ z k p. at n w z k p (same_tree t z) refl; parts = r.parts; lines = r.lines; room = r.room }
    where
      at : IsName (next_name s e) → Written e → (z : Tree) (k : List ℕ) → (if same_tree t z then Some (next_name s e) else e.terms z) ≡ Some k → (b : Bool) → same_tree t z ≡ b → IsName k
      at n w z k p true q = subst IsName (some_inj (next_name s e) k (rw q at p)) n
      at n w z k p false q = w.terms z k (rw q at p)

  -- an instruction that gives none
  puts-written : (e : Emitted) (i : InstText) → Written e → HasInstLine (record { result = None; inst = i }) → Written (puts i e)
  puts-written e i w h =
      let q : length (e.lines ++ record { result = None; inst = i } ∷ []) ≡ length e.lines + 1 = length-append e.lines (record { result = None; inst = i } ∷ []) in
      record { terms = λ t n p. w.terms t n p; parts = λ p n q. w.parts p n q; lines = each-append HasInstLine e.lines _ w.lines (h, tt); room = rw q (omega (arith, w.room)) }

  names-part : (e : Emitted) (p : Part) (n : List ℕ) → Written e → IsName n → Written (record e { parts = with_part e.parts p n })
  names-part e p n w i = record { terms = w.terms; parts = λ x k q. at x k q (same_part p x) refl; lines = w.lines; room = w.room }
    where
      at : (x : Part) (k : List ℕ) → (if same_part p x then Some n else e.parts x) ≡ Some k → (b : Bool) → same_part p x ≡ b → IsName k
      at x k q true r = subst IsName (some_inj n k (rw r at q)) i
      at x k q false r = w.parts x k (rw r at q)

  steps-written : (p q : Part) (n : List ℕ) (more : List PartStep) (e : Emitted) → Inv e → (Lines e.lines → IsName n) → IsData q.ty → StepsLead q more p → Inv (takes_steps s p n more e)
  steps-written p q n [] e h i d l = λ b. names-part e p n (h b) (i b)
  steps-written p q n (st ∷ more) e h i d l =
      let x : InstText = pure_text st.op (typed n (signal_type st.to.ty) ∷ []) in
      let line : LineText = record { result = Some (next_name s e); inst = x } in
      steps-written p st.to (next_name s e) more (gives s x e)
      (λ b.
      let c = lines-before e.lines line b in
      let w = h c in
      gives-written e x c w (given-line (next_name s e) x (next-named e c w) refl (step-spelt q st.to n st.op l.0 d (i c))))
      (λ b. let c = lines-before e.lines line b in next-named e c (h c))
      (step-well-to q st.to st.op d l.0)
      l.1

  -- ---- names of what was emitted

  term-written : (e : Emitted) (t : Tree) → Written e → IsNamed e t → IsName (term_name e t)
  term-written e t w n = subst (λ o. IsName (unwrap_or o [])) (sym n.is) (w.terms t n.name n.is)

  terms-written : (e : Emitted) (ts : List Tree) → Written e → Each (IsNamed e) ts → Each (λ t. IsName (term_name e t)) ts
  terms-written e [] w n = tt
  terms-written e (t ∷ ts) w n = (term-written e t w n.0, terms-written e ts w n.1)

  part-written : (e : Emitted) (p : Part) → Written e → IsNamedPart e p → IsName (part_name e p)
  part-written e p w n = subst (λ o. IsName (unwrap_or o [])) (sym n.is) (w.parts p n.name n.is)

  cond-written : (e : Emitted) (c : Tree) → Written e → CondNamed e c → MaybeName (cond_name e c)
  cond-written e c w n = at (is_bit 1 c) refl
    where
      at : (b : Bool) → is_bit 1 c ≡ b → MaybeName (if b then None else Some (term_name e c))
      at true q = tt
      at false q = term-written e c w (n q)

  -- ---- drives and registers

  drive-written : (d : Drive) (e : Emitted) → DriveHas (IsReached s) s d → DriveNamed e d → Written e
      → Written (puts (drv_text (signal e d.part) (term_name e d.value) (term_name e d.delay) (cond_name e d.cond)) e)
  drive-written d e g n w =
      let i : InstText = drv_text (signal e d.part) (term_name e d.value) (term_name e d.delay) (cond_name e d.cond) in
      puts-written e i w (plain-line i refl (drive-spelt (part_name e d.part) d.part.ty (term_name e d.value) (term_name e d.delay) (cond_name e d.cond)
      (part-written e d.part w n.part) g.carries (term-written e d.value w n.value) (term-written e d.delay w n.delay) (cond-written e d.cond w n.cond)))

  module _ (r : EdgeRowTree) (e : Emitted) (g : RowHas (IsReached s) s r) (n : RowNamed e r) (w : Written e) where
    trigger-written : (x : TriggerTree) → TriggerNamed e x → TriggerWritten (trigger_text r e x)
    trigger-written x k = record {
      value = term-written e r.value w n.value;
      trigger = term-written e (now_of x.part) w k.now;
      gate = cond-written e x.gate w k.gate;
      after = term-written e r.delay w n.delay;
    }

    triggers-written : (xs : List TriggerTree) → Each (TriggerNamed e) xs → Each TriggerWritten (map (trigger_text r e) xs)
    triggers-written [] k = tt
    triggers-written (x ∷ xs) k = (trigger-written x k.0, triggers-written xs k.1)

    row-spelt : (x : TriggerTree) (xs : List TriggerTree) → Each (TriggerNamed e) (x ∷ xs) → Spelt (SpellsInst (reg_text (signal e r.part) (map (trigger_text r e) (x ∷ xs))))
    row-spelt x xs k = register-spelt (part_name e r.part) r.part.ty (trigger_text r e x) (map (trigger_text r e) xs) (part-written e r.part w n.part) g.carries (trigger-written x k.0)
        (triggers-written xs k.1)

    register-written : Lines (puts (reg_text (signal e r.part) (map (trigger_text r e) r.triggers)) e).lines → Written (puts (reg_text (signal e r.part) (map (trigger_text r e) r.triggers)) e)
    register-written l = puts-written e (reg_text (signal e r.part) (map (trigger_text r e) r.triggers)) w (at r.triggers refl)
      where
        at : (xs : List TriggerTree) → r.triggers ≡ xs → HasInstLine (record { result = None; inst = reg_text (signal e r.part) (map (trigger_text r e) r.triggers) })
        at [] q = absurd (subst (λ (y : List TriggerTree). TimeFits (reg_text (signal e r.part) (map (trigger_text r e) y))) q
            (the-last e.lines (record { result = None; inst = reg_text (signal e r.part) (map (trigger_text r e) r.triggers) }) l.times))
        at (x ∷ xs) q =
            let k : Each (TriggerNamed e) (x ∷ xs) = subst (Each (TriggerNamed e)) q n.triggers in
            let h : HasInstLine (record { result = None; inst = reg_text (signal e r.part) (map (trigger_text r e) (x ∷ xs)) }) =
            plain-line (reg_text (signal e r.part) (map (trigger_text r e) (x ∷ xs))) refl (row-spelt x xs k) in
            subst (λ (y : List TriggerTree). HasInstLine (record { result = None; inst = reg_text (signal e r.part) (map (trigger_text r e) y) })) (sym q) h

  -- ---- what is kept

  carried-data : (a : ArgText) (t : TypeTree) → ArgWritten a → a.ty ≡ signal_type t → IsData t
  carried-data a t w q = let P : TypeTree → Type 0 = IsLimited in subst P q w.type

  reached-written : (p : Part) (e : Emitted) → IsReached s p → Inv e → Inv (takes_steps s p (arg_name (slice_get u.args p.arg)) (steps p) e)
  reached-written p e r h =
      let a : ArgWritten r.arg = arg-written u.args p.arg r.arg args r.there in
      steps-written p (whole_argument p.arg r.carries) (arg_name (slice_get u.args p.arg)) (steps p) e h
      (λ b. subst (λ o. IsName (arg_name o)) (sym r.there) a.name) (carried-data r.arg r.carries a r.signal) r.leads

  written-kept : KeepsRows s (IsReached s) Inv
  written-kept = record {
    keeps = record {
      scalar = λ v e i w h l. gives_term-written e (constant v) (const_text v) h l (λ k. scalar-spelt v i w (the-last e.lines _ l.times)) refl;
      computed = λ o ts t e c r d n h l. gives_term-written e t (operation_text e o ts) h l (λ k. operation-spelt e o ts r.takes (terms-written e ts k n)) refl;
      probed = λ p t e c g n h l. gives_term-written e t (prb_text (signal e p)) h l (λ k. probe-spelt (part_name e p) p.ty (part-written e p k n) c.is_data) refl;
      stepped = λ p e a r h. reached-written p e r h;
    };
    drive = λ d e g n h l. drive-written d e g n (h (lines-before e.lines _ l));
    register = λ r e g n h l. register-written r e g n (h (lines-before e.lines _ l)) l;
  }

  -- ---- before the first instruction

  whole-written : (p : Part) (n : List ℕ) → whole_name u.args p ≡ Some n → IsName n
  whole-written p n h = at (slice_get u.args p.arg) refl h
    where
      by : (a : ArgText) → slice_get u.args p.arg ≡ Some a → name_if_whole p a ≡ Some n → (c : Bool) → (nat_eq p.lo 0 && same_type a.ty (signal_type p.ty)) ≡ c → IsName n
      by a q g false r = let z : None ≡ Some n = (rw r at g) in absurd cc
      by a q g true r =
          let z : Some a.name ≡ Some n = (rw r at g) in
          subst IsName (some_inj a.name n z) (arg-written u.args p.arg a args q).name

      at : (o : Option ArgText) → slice_get u.args p.arg ≡ o → option_and_then (name_if_whole p) o ≡ Some n → IsName n
      at None q k = absurd cc
      at (Some a) q k = by a q k (nat_eq p.lo 0 && same_type a.ty (signal_type p.ty)) refl

  none-written : Inv (nothing_emitted s)
  none-written l = record { terms = λ t n h. absurd cc; parts = λ p n h. whole-written p n h; lines = tt; room = omega arith }

-- ---- the entities of the three shapes

printed : (u y : UnitText) (steps : Part → List PartStep) (h : HasPrintableHeader u) (fits : Bool) (e : Emitted) → IsWithin u y fits e.lines → IsRightEntity y → Each TimeLine e.lines →
    Inv u steps h.arguments.few (args-written u.kind u.name u.args u.result h.is_process h.headed) e → IsPrintable y
printed u y steps h fits e w r t i =
    let v = i (record { short = w.short; times = t }) in
    let z : UnitText = entity_with u e.lines in
    let new : results_repeat z.args [] (lines_of z.blocks) ≡ false =
    subst (λ (x : UnitText). results_repeat x.args [] (lines_of x.blocks) ≡ false) w.is r.new_results in
    let p : IsPrintable z = record {
      headed = headed u.kind u.name u.args u.result h.is_process h.headed;
      shaped = refl;
      written = subst (Each HasInstLine) (sym (append-nil e.lines)) v.lines;
      no_assert = h.no_assert;
      new_args = h.arguments.once;
      new_labels = refl;
      new_results = new;
      fits = omega (arith, w.short);
    } in
    subst IsPrintable (sym w.is) p

pub comb-printable : CombIsPrintable
comb-printable u y steps waited ds q h ws gs ls =
    let s = source_of u steps in
    let few = h.arguments.few in
    let args = args-written u.kind u.name u.args u.result h.is_process h.headed in
    let w = within u y (list_all drive_fits ds) (comb s waited ds).lines q in
    let k = written-kept u steps few args in
    let p = probes-kept s (IsReached s) (λ p r. r) (Inv u steps few args) k waited (given-waits u steps waited ws) (nothing_emitted s) (none-written u steps few args) in
    let d = drives-kept s (IsReached s) (λ p r. r) (Inv u steps few args) k ds (given-drives u steps ds gs) w.all_fit (emit_probes s waited (nothing_emitted s)) p.inv in
    let t = drives-timed s ds gs w.all_fit ls (emit_probes s waited (nothing_emitted s)) (probes-timed s waited ws (nothing_emitted s) tt) in
    printed u y steps h (list_all drive_fits ds) (comb s waited ds) w (comb-no_fault u y steps waited ds q h.arguments ws gs) t d.inv

pub once-printable : OnceIsPrintable
once-printable u y steps ds q h gs ls =
    let s = source_of u steps in
    let few = h.arguments.few in
    let args = args-written u.kind u.name u.args u.result h.is_process h.headed in
    let w = within u y (list_all drive_fits ds) (once s ds).lines q in
    let d = drives-kept s (IsReached s) (λ p r. r) (Inv u steps few args) (written-kept u steps few args) ds (given-drives u steps ds gs) w.all_fit (nothing_emitted s)
    (none-written u steps few args) in
    let t = drives-timed s ds gs w.all_fit ls (nothing_emitted s) tt in
    printed u y steps h (list_all drive_fits ds) (once s ds) w (once-no_fault u y steps ds q h.arguments gs) t d.inv

pub edge-printable : EdgeIsPrintable
edge-printable u y steps rs q h gs ls =
    let s = source_of u steps in
    let few = h.arguments.few in
    let args = args-written u.kind u.name u.args u.result h.is_process h.headed in
    let w = within u y (list_all row_fits rs) (edge s rs).lines q in
    let d = rows-kept s (IsReached s) (λ p r. r) (Inv u steps few args) (written-kept u steps few args) rs (given-rows u steps rs gs) w.all_fit (nothing_emitted s) (none-written u steps few args) in
    let t = rows-timed s rs gs w.all_fit ls (nothing_emitted s) tt in
    printed u y steps h (list_all row_fits rs) (edge s rs) w (edge-no_fault u y steps rs q h.arguments gs) t d.inv
