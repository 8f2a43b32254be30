-- What an entity has said after each of its lines: what is known is typed and there, its rows are typed, and they read only what it probes.
use Rattle.std.proofs.Common.{◌≡◌, inl, ℕ, List, [], ◌∷◌, ◌++◌, Bool, true, false, ◌||◌, Option, Some, None, IsSome, refl, ap, sym, ◌∙◌, subst}
use Rattle.std.specs.Bool.{if◌then◌else◌}
use Rattle.std.specs.Option.{option_and_then}
use Rattle.std.proofs.lemmas.Bool.{false≢true}
use Rattle.std.proofs.lemmas.Option.{same_Some, none-some}
use Rattle.lh_time.specs.declared.Delay.{Delay}
use Rattle.lh_types.specs.Types.{TypeTree, time_type, signal_type, IsData}
use Rattle.lh_types.specs.Values.{Datum, time_value, array_value, no_values, more_values}
use Rattle.lh_types.specs.declared.op.Op.{Op}
use Rattle.lh_types.specs.declared.op.Op.TheVariants.{Mux, Array}
use Rattle.lh_unit.specs.Contents.{OperandText, TriggerText, InstText, const_text, pure_text, var_text, ld_text, st_text, sig_text, prb_text, drv_text, reg_text, child_text, call_text, phi_text, br_text, branch_text, wait_text, halt_text, ret_text, LineText, UnitText, is_result_name}
use Rattle.lh_unit_names.specs.Names.{same_name}
use Rattle.lh_unit.specs.Held.{front}
use Rattle.lh_unit.specs.Kinds.{Use, used, uses, data_needed, time_needed, maybe_used, trigger_uses}
use Rattle.lh_unit.specs.SpellsInst.{gives_value}
use Rattle.lh_unit.specs.Typing.{result_type, carried}
use Rattle.lh_unit.specs.TypingRows.{bit}
use Rattle.lh_unit.specs.WellFormed.{values_named, is_allowed}
use Rattle.lh_unit.specs.Within.{Each}
use Rattle.lh_unit.proofs.Lists.{Each-append, Each-left, Each-right, Each-of-map}
use Rattle.lh_unit.proofs.Within.{Each-more}
use Rattle.lh_unit.specs.declared.inst.UnitKind.TheVariants as kind
use Rattle.lh_verify_laws.specs.Operands.{MayBeOf, RowIs, TriggerIs}
use Rattle.lh_verify_laws.specs.Parts.{HasPart}
use Rattle.lh_eval.specs.Sound.{IsWrittenRight}
use Rattle.lh_eval.proofs.GivesFit.{constants-fit}
use Rattle.lh_eval_laws.proofs.FindingPass.{KnownNames, known_after, NamesKnown}
use Rattle.lh_eval_laws.proofs.OperandsFound.{carries-value}
use Rattle.lh_term.specs.Tree.{Tree, TreeRow, constant, past_of, now_of, operation, choice_of, no_trees, more_trees}
use Rattle.lh_term.specs.Leaves.{AllParts, AllPartsIn}
use Rattle.lh_term.specs.Make.{bit_of}
use Rattle.lh_term.specs.declared.part.Part.{Part}
use Rattle.lh_region_def.specs.Known.{Known, known_value, known_cell, known_part, Knowledge, as_value, with_given, value_known, part_known, values_known}
use Rattle.lh_region_def.specs.Right.{DriveTyped}
use Rattle.lh_region_def.specs.Rows.{Drive, DriveReads}
use Rattle.lh_region_def.specs.Typed.{Among, KnowsTyped, IsCondition, IsOfType}
use Rattle.lh_flat_laws.proofs.Members.{among-left, among-right}
use Rattle.lh_region_def.proofs.KnowledgeChanges.{constant-typed, GivenTyped, given-typed, given-stays, given-known}
use Rattle.lh_region_def.proofs.MergedValues.{bit-condition}
use Rattle.lh_region_def.proofs.Operations.{value-known, part-known}
use Rattle.lh_region_def.proofs.Phis.{const-line}
use Rattle.lh_region_def.proofs.Start.{const-same}
use Rattle.lh_region_laws.proofs.Leaves.{IsOfLeaves, leaves-joined, leaves-parted, make-in, choice-in}
use Rattle.lh_edge.specs.Atoms.{is_one_bit}
use Rattle.lh_cert_terms.specs.Rebuilding.{pair_in, selected, read_operation}
use Rattle.lh_cert_rows.specs.Rows.{TriggerRow, EntityRow, driven_by, registered}
use Rattle.lh_cert_rows.specs.Reading.{EntityText, gives, probed, with_row, condition_known, delay_known, drive_row, trigger_row, trigger_known, triggers_known, register_row, reads_line, reads_lines}
use Rattle.lh_cert_rows.specs.Passing.{IsPlain, TriggerTyped, RowTyped, TriggerReads, RowReads}
use Rattle.lh_cert_rows.proofs.EntityUnits.{LineFine}
use Rattle.lh_cert_rows.proofs.OperationTerms.{OperationRead, operation-read, not-constant, Gives, gives_term, gives_part}

-- ---- the parts of terms

mutual
  parts-more : (P Q : Part → Type 0) → ((p : Part) → P p → Q p) → (t : Tree) → AllParts P t → AllParts Q t
  parts-more P Q go (constant v) h = tt
  parts-more P Q go (past_of p) h = go p h
  parts-more P Q go (now_of p) h = go p h
  parts-more P Q go (operation o ts) h = parts-more-in P Q go ts h
  parts-more P Q go (choice_of c f t) h = (parts-more P Q go c h.0, parts-more P Q go f h.1, parts-more P Q go t h.2)

  parts-more-in : (P Q : Part → Type 0) → ((p : Part) → P p → Q p) → (ts : TreeRow) → AllPartsIn P ts → AllPartsIn Q ts
  parts-more-in P Q go no_trees h = tt
  parts-more-in P Q go (more_trees t ts) h = (parts-more P Q go t h.0, parts-more-in P Q go ts h.1)

module _ (P : Part → Type 0) where
  of-leaves : IsOfLeaves (AllParts P)
  of-leaves = record {
    integer = λ n a. tt;
    bit = λ b. tt;
    computed = λ o ts h. tt;
    joined = leaves-joined (λ v. Unit {0}) P;
    parted = leaves-parted (λ v. Unit {0}) P;
    chosen = λ c f t h i j. (h, i, j);
  }

  pair-parts : (x : Tree) (p : Tree × Tree) → pair_in x ≡ Some p → AllParts P x → AllParts P p.0 × AllParts P p.1
  pair-parts (constant (array_value (more_values f (more_values t no_values)))) p e h =
      let q : (constant f, constant t) ≡ p = cc in subst (λ (r : Tree × Tree). AllParts P r.0 × AllParts P r.1) q (tt, tt)
  pair-parts (operation Array (more_trees f (more_trees t no_trees))) p e h =
      let q : (f, t) ≡ p = cc in subst (λ (r : Tree × Tree). AllParts P r.0 × AllParts P r.1) q (h.0, h.1.0)
  pair-parts _ p e h = cc

  -- an operation as read has the parts of its operands
  pub read-parts : (o : Op) (ts : List Tree) → Each (AllParts P) ts → AllParts P (read_operation o ts)
  read-parts Mux [] h = make-in (AllParts P) of-leaves Mux [] h
  read-parts Mux (x ∷ []) h = make-in (AllParts P) of-leaves Mux (x ∷ []) h
  read-parts Mux (x ∷ s ∷ y ∷ ts) h = make-in (AllParts P) of-leaves Mux (x ∷ s ∷ y ∷ ts) h
  read-parts Mux (x ∷ s ∷ []) h = bit-by (is_one_bit s)
    where
      two : (o : Option (Tree × Tree)) → pair_in x ≡ o → AllParts P (selected x s o)
      two (Some p) e = let q = pair-parts x p e h.0 in choice-in (AllParts P) of-leaves s p.0 p.1 h.1.0 q.0 q.1
      two None e = make-in (AllParts P) of-leaves Mux (x ∷ s ∷ []) h

      bit-by : (b : Bool) → AllParts P (selected x s (if b then pair_in x else None))
      bit-by true = two (pair_in x) refl
      bit-by false = make-in (AllParts P) of-leaves Mux (x ∷ s ∷ []) h
  read-parts o ts h = make-in (AllParts P) of-leaves o ts h

-- ---- what a line looks up

-- the parts of what is known are such
abbrev pub KnownReads : (Part → Type 0) → Known → Type 0
KnownReads P (known_value t) = AllParts P t
KnownReads P (known_cell t) = AllParts P t
KnownReads P (known_part p) = Unit {0}

-- what a drive says
pub record DriveRead (P : Part → Type 0) (k : Knowledge) (to : OperandText) (value after : List ℕ) (cond : Option (List ℕ)) : Type 0 where
  pub drive : Drive
  pub is : drive_row (condition_known k cond) (part_known k to.value) (value_known k value) (value_known k after) ≡ Some (driven_by drive)
  pub typed : DriveTyped drive
  pub reads : DriveReads P drive

-- what a register says
pub record RegisterRead (P : Part → Type 0) (k : Knowledge) (to : OperandText) (triggers : List TriggerText) : Type 0 where
  pub part : Part
  pub rows : List TriggerRow
  pub part_is : part_known k to.value ≡ Some part
  pub rows_are : triggers_known k triggers ≡ Some rows
  pub is_data : IsData part.ty
  pub typed : Each (TriggerTyped part.ty) rows
  pub reads : Each (TriggerReads P) rows

-- what a probe says
pub record ProbeRead (k : Knowledge) (s : OperandText) : Type 0 where
  pub part : Part
  pub is : part_known k s.value ≡ Some part
  pub is_data : IsData part.ty
  pub written : s.ty ≡ Some (signal_type part.ty)

module _ (u : UnitText) (k : Knowledge) (knows : KnowsTyped u k) (P : Part → Type 0) (known_reads : (n : List ℕ) (x : Known) → k n ≡ Some x → KnownReads P x) where
  -- something is known under each name that is used
  abbrev AreKnown : List Use → Type 0
  AreKnown us = Each (λ (x : Use). IsSome (k x.value)) us

  value-reads : (n : List ℕ) (t : Tree) → value_known k n ≡ Some t → AllParts P t
  value-reads n t q = by (k n) refl q
    where
      by : (o : Option Known) → k n ≡ o → option_and_then as_value o ≡ Some t → AllParts P t
      by None e g = absurd (none-some t g)
      by (Some (known_value x)) e g = subst (AllParts P) (same_Some x t g) (known_reads n (known_value x) e)
      by (Some (known_cell x)) e g = absurd (none-some t g)
      by (Some (known_part x)) e g = absurd (none-some t g)

  pub values-read : (os : List OperandText) (ts : List Tree) → values_known k os ≡ Some ts → Each (AllParts P) ts
  values-read [] ts q = subst (Each (AllParts P)) (same_Some [] ts q) tt
  values-read (o ∷ os) ts q = by (values-read os) (value_known k o.value) refl (values_known k os) refl q
    where
      by : ((xs : List Tree) → values_known k os ≡ Some xs → Each (AllParts P) xs) → (a : Option Tree) → value_known k o.value ≡ a → (b : Option (List Tree)) → values_known k os ≡ b
          → front a b ≡ Some ts → Each (AllParts P) ts
      by go None e b g h = absurd (none-some ts h)
      by go (Some x) e None g h = absurd (none-some ts h)
      by go (Some x) e (Some xs) g h = subst (Each (AllParts P)) (same_Some (x ∷ xs) ts h) (value-reads o.value x e, go xs g)

  -- a term of a type that reads such parts
  record TermRead (ty : TypeTree) (o : Option Tree) : Type 0 where
    term : Tree
    is : o ≡ Some term
    typed : IsOfType ty term
    parts : AllParts P term

  condition-read : (c : Option (List ℕ)) → MayBeOf u bit c → AreKnown (maybe_used data_needed c) → TermRead bit (condition_known k c)
  condition-read None o h = let z = bit-condition true in record { term = bit_of true; is = refl; typed = record { typed = z.typed; type = z.type }; parts = tt }
  condition-read (Some n) o h = let v = value-known u k knows n bit o refl h.0 in record { term = v.0; is = v.1; typed = v.2; parts = value-reads n v.0 v.1 }

  delay-read : (c : Option (List ℕ)) → MayBeOf u time_type c → AreKnown (maybe_used time_needed c) → TermRead time_type (delay_known k c)
  delay-read None o h =
      let d : Delay = record { fs = 0; delta = 0; eps = 0 } in
      let z = constant-typed (time_value d) time_type tt tt in
      record { term = constant (time_value d); is = refl; typed = record { typed = z.0; type = z.1 }; parts = tt }
  delay-read (Some n) o h = let v = value-known u k knows n time_type o refl h.0 in record { term = v.0; is = v.1; typed = v.2; parts = value-reads n v.0 v.1 }

  as-condition : (t : Tree) → IsOfType bit t → IsCondition t
  as-condition t h = record { typed = h.typed; type = h.type }

  trigger-read : (ty : TypeTree) → IsData ty → (g : TriggerText) → TriggerIs u ty g → IsSome (k g.value) → IsSome (k g.trigger) → AreKnown (maybe_used data_needed g.gate)
      → AreKnown (maybe_used time_needed g.after) → (r : TriggerRow) × (trigger_known k g ≡ Some r) × TriggerTyped ty r × TriggerReads P r
  trigger-read ty d g t a b c e =
      let v = value-known u k knows g.value ty t.value (carries-value ty d) a in
      let x = value-known u k knows g.trigger bit t.trigger refl b in
      let y = condition-read g.gate t.gate c in
      let z = delay-read g.after t.after e in (
        record { mode = g.mode; operand = x.0; gate = y.term; value = v.0; delay = z.term },
        (λ i. trigger_row g.mode (x.1 i) (y.is i) (v.1 i) (z.is i)),
        record { operand = as-condition x.0 x.2; gate = as-condition y.term y.typed; value = v.2; delay = z.typed },
        record { operand = value-reads g.trigger x.0 x.1; gate = y.parts; value = value-reads g.value v.0 v.1; delay = z.parts },
      )

  record TriggersRead (ty : TypeTree) (gs : List TriggerText) : Type 0 where
    rows : List TriggerRow
    are : triggers_known k gs ≡ Some rows
    typed : Each (TriggerTyped ty) rows
    reads : Each (TriggerReads P) rows

  triggers-read : (ty : TypeTree) → IsData ty → (gs : List TriggerText) → Each (TriggerIs u ty) gs → AreKnown (trigger_uses gs) → TriggersRead ty gs
  triggers-read ty d [] t h = record { rows = []; are = refl; typed = tt; reads = tt }
  triggers-read ty d (g ∷ gs) t h =
      let N : Use → Type 0 = λ x. IsSome (k x.value) in
      let front_uses = maybe_used data_needed g.gate ++ maybe_used time_needed g.after in
      let both = Each-left N front_uses (trigger_uses gs) h.1.1 in
      let x = trigger-read ty d g t.0 h.0 h.1.0 (Each-left N (maybe_used data_needed g.gate) (maybe_used time_needed g.after) both)
      (Each-right N (maybe_used data_needed g.gate) (maybe_used time_needed g.after) both) in
      let xs = triggers-read ty d gs t.1 (Each-right N front_uses (trigger_uses gs) h.1.1) in
      record { rows = x.0 ∷ xs.rows; are = λ i. front (x.1 i) (xs.are i); typed = (x.2, xs.typed); reads = (x.3, xs.reads) }

  pub register-read : (to : OperandText) (gs : List TriggerText) → RowIs u (reg_text to gs) → AreKnown (uses (reg_text to gs)) → RegisterRead P k to gs
  register-read to gs row h =
      let p = part-known u k knows to.value row.0 row.1.1 h.0 in
      let d : IsData row.0 = subst IsData p.3 p.2 in
      let r = triggers-read row.0 d gs row.2 h.1 in
      record {
        part = p.0;
        rows = r.rows;
        part_is = p.1;
        rows_are = r.are;
        is_data = p.2;
        typed = subst (λ ty. Each (TriggerTyped ty) r.rows) (sym p.3) r.typed;
        reads = r.reads;
      }

  pub drive-read : (to : OperandText) (value after : List ℕ) (cond : Option (List ℕ)) → RowIs u (drv_text to value after cond) → AreKnown (uses (drv_text to value after cond))
      → DriveRead P k to value after cond
  drive-read to value after cond row h =
      let p = part-known u k knows to.value row.0 row.1.1 h.0 in
      let d : IsData row.0 = subst IsData p.3 p.2 in
      let v = value-known u k knows value row.0 row.2 (carries-value row.0 d) h.1.0 in
      let t = value-known u k knows after time_type row.3 refl h.1.1.0 in
      let c = condition-read cond row.4 h.1.1.1 in
      record {
        drive = record { cond = c.term; part = p.0; value = v.0; delay = t.0 };
        is = λ i. drive_row (c.is i) (p.1 i) (v.1 i) (t.1 i);
        typed = record { cond = as-condition c.term c.typed; part = p.2; value = subst (λ ty. IsOfType ty v.0) (sym p.3) v.2; delay = t.2 };
        reads = record { cond = c.parts; value = value-reads value v.0 v.1; delay = value-reads after t.0 t.1 };
      }

  pub probe-read : (s : OperandText) → RowIs u (prb_text s) → AreKnown (uses (prb_text s)) → ProbeRead k s
  probe-read s row h =
      let p = part-known u k knows s.value row.0 row.1.1 h.0 in
      record { part = p.0; is = p.1; is_data = p.2; written = row.1.0 ∙ ap (λ t. Some (signal_type t)) (sym p.3) }

-- the operands of an operation are its uses
pub operands-of : (k : Knowledge) (o : Op) (os : List OperandText) → Each (λ (x : Use). IsSome (k x.value)) (uses (pure_text o os)) → Each (λ (x : OperandText). IsSome (k x.value)) os
operands-of k o os h = Each-of-map (λ (x : Use). IsSome (k x.value)) (λ (x : OperandText). used _ x.value) os h

-- ---- after some lines

-- what an entity has said after some lines, which define these names
pub record ReadFine (u : UnitText) (names : KnownNames) (e : EntityText) : Type 0 where
  pub typed : KnowsTyped u e.known
  pub there : (n : List ℕ) → names n ≡ true → IsSome (e.known n)
  pub known_reads : (n : List ℕ) (x : Known) → e.known n ≡ Some x → KnownReads (λ p. Among p e.probes) x
  pub rows_typed : Each RowTyped e.rows
  pub rows_read : Each (RowReads (λ p. Among p e.probes)) e.rows

-- more parts are probed
known-more : (P Q : Part → Type 0) → ((p : Part) → P p → Q p) → (x : Known) → KnownReads P x → KnownReads Q x
known-more P Q go (known_value t) h = parts-more P Q go t h
known-more P Q go (known_cell t) h = parts-more P Q go t h
known-more P Q go (known_part p) h = tt

trigger-more : (P Q : Part → Type 0) → ((p : Part) → P p → Q p) → (g : TriggerRow) → TriggerReads P g → TriggerReads Q g
trigger-more P Q go g h = record {
  operand = parts-more P Q go g.operand h.operand;
  gate = parts-more P Q go g.gate h.gate;
  value = parts-more P Q go g.value h.value;
  delay = parts-more P Q go g.delay h.delay;
}

row-more : (P Q : Part → Type 0) → ((p : Part) → P p → Q p) → (r : EntityRow) → RowReads P r → RowReads Q r
row-more P Q go (driven_by d) h = record { cond = parts-more P Q go d.cond h.cond; value = parts-more P Q go d.value h.value; delay = parts-more P Q go d.delay h.delay }
row-more P Q go (registered p gs) h = Each-more (TriggerReads P) (TriggerReads Q) gs (trigger-more P Q go) h

module _ (u : UnitText) (names : KnownNames) where
  probed-fine : (e : EntityText) (p : Part) → ReadFine u names e → ReadFine u names (record e { probes = e.probes ++ p ∷ [] })
  probed-fine e p f =
      let P : Part → Type 0 = λ q. Among q e.probes in
      let Q : Part → Type 0 = λ q. Among q (e.probes ++ p ∷ []) in
      let go : (q : Part) → P q → Q q = λ q a. among-left q e.probes (p ∷ []) a in
      record {
        typed = f.typed;
        there = f.there;
        known_reads = λ n x q. known-more P Q go x (f.known_reads n x q);
        rows_typed = f.rows_typed;
        rows_read = Each-more (RowReads P) (RowReads Q) e.rows (row-more P Q go) f.rows_read;
      }

  -- a value is given
  gives-fine : (l : LineText) (e : EntityText) → ReadFine u names e → (x : Known) → GivenTyped u l.result x → KnownReads (λ p. Among p e.probes) x
      → ReadFine u (known_after names l) (gives e l.result (Some x))
  gives-fine l e f x t r = record {
    typed = given-typed u e.known l.result x f.typed t;
    there = λ n q. there-by n (names n) refl (is_result_name n l.result) refl q;
    known_reads = λ n y q. reads-by l.result n y q;
    rows_typed = f.rows_typed;
    rows_read = f.rows_read;
  }
    where
      there-by : (n : List ℕ) (b : Bool) → names n ≡ b → (c : Bool) → is_result_name n l.result ≡ c → (b || c) ≡ true → IsSome (with_given e.known l.result (Some x) n)
      there-by n true p c q z = given-stays e.known l.result n (Some x) (f.there n p)
      there-by n false p true q z = given-known e.known l.result n x q
      there-by n false p false q z = absurd (false≢true z)

      reads-by : (r : Option (List ℕ)) (n : List ℕ) (y : Known) → with_given e.known r (Some x) n ≡ Some y → KnownReads (λ p. Among p e.probes) y
      reads-by None n y q = f.known_reads n y q
      reads-by (Some m) n y q = at (same_name m n) q
        where
          at : (b : Bool) → (if b then Some x else e.known n) ≡ Some y → KnownReads (λ p. Among p e.probes) y
          at true g = subst (KnownReads (λ p. Among p e.probes)) (same_Some x y g) r
          at false g = f.known_reads n y g

  no-result : (r : Option (List ℕ)) (n : List ℕ) → ((m : List ℕ) → r ≡ Some m → false ≡ true) → is_result_name n r ≡ true → ⊥
  no-result None n k q = false≢true q
  no-result (Some m) n k q = false≢true (k m refl)

  -- a row is added by a line that gives no value
  row-fine : (l : LineText) (e : EntityText) → ReadFine u names e → ((m : List ℕ) → l.result ≡ Some m → false ≡ true) → (r : EntityRow) → RowTyped r → RowReads (λ p. Among p e.probes) r
      → ReadFine u (known_after names l) (record e { rows = e.rows ++ r ∷ [] })
  row-fine l e f none r t p = record {
    typed = f.typed;
    there = λ n q. there-by n (names n) refl (is_result_name n l.result) refl q;
    known_reads = f.known_reads;
    rows_typed = Each-append RowTyped e.rows (r ∷ []) f.rows_typed (t, tt);
    rows_read = Each-append (RowReads (λ p. Among p e.probes)) e.rows (r ∷ []) f.rows_read (p, tt);
  }
    where
      there-by : (n : List ℕ) (b : Bool) → names n ≡ b → (c : Bool) → is_result_name n l.result ≡ c → (b || c) ≡ true → IsSome (e.known n)
      there-by n true p c q z = f.there n p
      there-by n false p true q z = absurd (no-result l.result n none q)
      there-by n false p false q z = absurd (false≢true z)

-- the kinds of lines that an entity without `sig` and `inst` may have
pub data LineKind : InstText → Type 0 where
  a_constant : (d : Datum) → LineKind (const_text d)
  an_operation : (o : Op) (os : List OperandText) → LineKind (pure_text o os)
  a_probe : (s : OperandText) → LineKind (prb_text s)
  a_drive : (to : OperandText) (value after : List ℕ) (cond : Option (List ℕ)) → LineKind (drv_text to value after cond)
  a_register : (to : OperandText) (gs : List TriggerText) → LineKind (reg_text to gs)

kind-by : (i : InstText) → IsPlain i → is_allowed kind.Entity i ≡ true → LineKind i
kind-by (const_text d) p a = a_constant d
kind-by (pure_text o os) p a = an_operation o os
kind-by (prb_text s) p a = a_probe s
kind-by (drv_text to value after cond) p a = a_drive to value after cond
kind-by (reg_text to gs) p a = a_register to gs
kind-by (sig_text o) p a = absurd p
kind-by (child_text v inputs outputs) p a = absurd p
kind-by (var_text o) p a = absurd (false≢true a)
kind-by (ld_text o) p a = absurd (false≢true a)
kind-by (st_text to value) p a = absurd (false≢true a)
kind-by (call_text v ty os) p a = absurd (false≢true a)
kind-by (phi_text ty es) p a = absurd (false≢true a)
kind-by (br_text to) p a = absurd (false≢true a)
kind-by (branch_text c x y) p a = absurd (false≢true a)
kind-by (wait_text to after ss) p a = absurd (false≢true a)
kind-by halt_text p a = absurd (false≢true a)
kind-by (ret_text o) p a = absurd (false≢true a)

-- what an instruction names is known
abbrev pub UsesKnown : EntityText → InstText → Type 0
UsesKnown e i = Each (λ (x : Use). IsSome (e.known x.value)) (uses i)

module _ (u : UnitText) (names : KnownNames) (l : LineText) (fine : LineFine u l) (e : EntityText) (f : ReadFine u names e) where
  pub uses-known : Each (λ n. names n ≡ true) (values_named l.inst) → UsesKnown e l.inst
  uses-known h =
      Each-of-map (λ n. IsSome (e.known n)) (λ (x : Use). x.value) (uses l.inst)
      (Each-more (λ n. names n ≡ true) (λ n. IsSome (e.known n)) (values_named l.inst) f.there h)

  -- what each kind of line reads
  pub operation-of : (o : Op) (os : List OperandText) → l.inst ≡ pure_text o os → UsesKnown e (pure_text o os) → OperationRead u e.known l o os
  operation-of o os q h =
      operation-read u e.known f.typed l fine o os q (subst (RowIs u) q fine.sound.row) (subst (HasPart u) q fine.sound.part) (subst IsWrittenRight q fine.sound.written)
      (operands-of e.known o os h)

  pub drive-of : (to : OperandText) (value after : List ℕ) (cond : Option (List ℕ)) → l.inst ≡ drv_text to value after cond → UsesKnown e (drv_text to value after cond)
      → DriveRead (λ p. Among p e.probes) e.known to value after cond
  drive-of to value after cond q h = drive-read u e.known f.typed (λ p. Among p e.probes) f.known_reads to value after cond (subst (RowIs u) q fine.sound.row) h

  pub register-of : (to : OperandText) (gs : List TriggerText) → l.inst ≡ reg_text to gs → UsesKnown e (reg_text to gs) → RegisterRead (λ p. Among p e.probes) e.known to gs
  register-of to gs q h = register-read u e.known f.typed (λ p. Among p e.probes) f.known_reads to gs (subst (RowIs u) q fine.sound.row) h

  pub probe-of : (s : OperandText) → l.inst ≡ prb_text s → UsesKnown e (prb_text s) → ProbeRead e.known s
  probe-of s q h = probe-read u e.known f.typed (λ p. Among p e.probes) f.known_reads s (subst (RowIs u) q fine.sound.row) h

  -- a line that gives no value has no result
  pub none-given : (i : InstText) → l.inst ≡ i → gives_value i ≡ false → (m : List ℕ) → l.result ≡ Some m → false ≡ true
  none-given i q g m r = sym g ∙ ap gives_value (sym q) ∙ fine.fit.1 m r

  pub line-kind : LineKind l.inst
  line-kind = kind-by l.inst fine.plain fine.fit.0

  -- the term of an operation reads what its operands read
  operation-parts : (o : Op) (os : List OperandText) (x : Known) → Gives u e.known o os x → KnownReads (λ p. Among p e.probes) x
  operation-parts o os _ (gives_term ts q h) = read-parts (λ p. Among p e.probes) o ts (values-read u e.known f.typed (λ p. Among p e.probes) f.known_reads os ts q)
  operation-parts o os _ (gives_part p) = tt

  -- a constant is typed
  constant-fits : (d : Datum) → l.inst ≡ const_text d → GivenTyped u l.result (known_value (constant d))
  constant-fits d q n t r v =
      let z = constants-fit 0 d (subst IsWrittenRight q fine.sound.written) _ t refl (sym (fine.sound.gives n r ∙ ap result_type q) ∙ v) in
      let c = constant-typed d t z.0 z.1 in
      ((c.0, λ d' x. ap constant (const-same d d' (sym q ∙ const-line u l fine.first n d' r x))), c.1)

  -- a probe is typed
  probe-fits : (s : OperandText) → l.inst ≡ prb_text s → (x : ProbeRead e.known s) → GivenTyped u l.result (known_value (now_of x.part))
  probe-fits s q x n t r v =
      let same : x.part.ty ≡ t = same_Some x.part.ty t (sym (ap (option_and_then carried) x.written) ∙ sym (fine.sound.gives n r ∙ ap result_type q) ∙ v) in
      ((x.is_data, not-constant u l fine.first (prb_text s) q refl n r (now_of x.part)), same)

  line-fine-by : (i : InstText) → l.inst ≡ i → LineKind i → UsesKnown e i → ReadFine u (known_after names l) (reads_line e i l.result)
  line-fine-by _ q (a_constant d) h = gives-fine u names l e f (known_value (constant d)) (constant-fits d q) tt
  line-fine-by _ q (an_operation o os) h =
      let x = operation-of o os q h in
      subst (λ y. ReadFine u (known_after names l) (gives e l.result y)) (sym x.is) (gives-fine u names l e f x.known x.fits (operation-parts o os x.known x.gives))
  line-fine-by _ q (a_probe s) h =
      let x = probe-of s q h in
      subst (λ y. ReadFine u (known_after names l) (probed e l.result y)) (sym x.is)
      (gives-fine u names l (record e { probes = e.probes ++ x.part ∷ [] }) (probed-fine u names e x.part f) (known_value (now_of x.part)) (probe-fits s q x)
      (among-right x.part e.probes (x.part ∷ []) (inl refl)))
  line-fine-by _ q (a_drive to value after cond) h =
      let x = drive-of to value after cond q h in
      subst (λ y. ReadFine u (known_after names l) (with_row e y)) (sym x.is) (row-fine u names l e f (none-given (drv_text to value after cond) q refl) (driven_by x.drive) x.typed x.reads)
  line-fine-by _ q (a_register to gs) h =
      let x = register-of to gs q h in
      let is : register_row (part_known e.known to.value) (triggers_known e.known gs) ≡ Some (registered x.part x.rows) = λ i. register_row (x.part_is i) (x.rows_are i) in
      subst (λ y. ReadFine u (known_after names l) (with_row e y)) (sym is) (row-fine u names l e f (none-given (reg_text to gs) q refl) (registered x.part x.rows) (x.is_data, x.typed) x.reads)

  -- after the line
  pub line-fine : Each (λ n. names n ≡ true) (values_named l.inst) → ReadFine u (known_after names l) (reads_line e l.inst l.result)
  line-fine h = line-fine-by l.inst refl line-kind (uses-known h)

-- after all lines
pub lines-fine : (u : UnitText) (ls : List LineText) (names : KnownNames) (e : EntityText) → Each (LineFine u) ls → NamesKnown names ls → ReadFine u names e
    → Each RowTyped (reads_lines e ls).rows × Each (RowReads (λ p. Among p (reads_lines e ls).probes)) (reads_lines e ls).rows
lines-fine u [] names e fs ns f = (f.rows_typed, f.rows_read)
lines-fine u (l ∷ ls) names e fs ns f = lines-fine u ls (known_after names l) (reads_line e l.inst l.result) fs.1 ns.1 (line-fine u names l fs.0 e f ns.0)
