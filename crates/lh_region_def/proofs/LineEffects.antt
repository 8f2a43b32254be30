-- What each instruction does at a place: what is known stays typed and there, and what it adds is right.
use Rattle.std.proofs.Common.{◌≡◌, ◌⊎◌, inl, inr, ℕ, ◌+◌, List, [], ◌∷◌, ◌++◌, map, Bool, true, false, ◌&&◌, ◌||◌, Option, Some, None, IsSome, refl, ap, sym, ◌∙◌, subst}
use Rattle.std.specs.Bool.{if◌then◌else◌}
use Rattle.std.specs.Option.{option_and_then, option_map}
use Rattle.std.proofs.lemmas.Bool.{false≢true}
use Rattle.std.proofs.lemmas.Option.{same_Some, none-some}
use Rattle.lh_types.specs.Types.{TypeTree, time_type, int_type, void_type, array_type, tuple_type, signal_type, pointer_type, IsData}
use Rattle.lh_types.specs.Values.{Datum}
use Rattle.lh_types.specs.declared.op.Op.{Op}
use Rattle.lh_types.specs.declared.op.Op.TheVariants as op
use Rattle.lh_types.specs.Faults.{is_data, is_time}
use Rattle.lh_types.specs.declared.part.Step.TheVariants.{Field, Slice}
use Rattle.lh_types.proofs.PartLemmas.{step_part-within}
use Rattle.lh_types.specs.declared.part.Step.{Step}
use Rattle.lh_unit_names.specs.declared.name.UnitName.{UnitName}
use Rattle.lh_unit.specs.Contents.{OperandText, EdgeText, InstText, const_text, pure_text, var_text, ld_text, st_text, prb_text, drv_text, call_text, phi_text, LineText, BlockText, UnitText}
use Rattle.lh_unit_names.specs.UnitNames.{is_assert}
use Rattle.lh_unit.specs.Effects.{step_of}
use Rattle.lh_unit.specs.Held.{front}
use Rattle.lh_unit.specs.Kinds.{Use, Need, data_needed, step_need, maybe_used, all_used}
use Rattle.lh_unit.specs.Typing.{value_type, result_type, operation_type, first_type, is_value_type, carried, pointer_to, pointed, or_else, inst_giving}
use Rattle.lh_unit.specs.TypingRows.{bit}
use Rattle.lh_unit.specs.WellFormed.{values_named}
use Rattle.lh_unit.specs.Within.{Each}
use Rattle.lh_unit.specs.declared.inst.UnitKind.TheVariants as kind
use Rattle.lh_verify_laws.specs.Calls.{AssertIsRight}
use Rattle.lh_verify_laws.specs.Defined.{IsThere, OperandsThere}
use Rattle.lh_verify_laws.specs.Operands.{IsOf, MayBeOf, IsLike, IsWritten, RowIs}
use Rattle.lh_verify_laws.specs.Parts.{StepLeadsTo, TakesPart, PutsPart, HasPart}
use Rattle.lh_verify_laws.proofs.PartsLaw.{parts_have_ranges}
use Rattle.lh_verify_laws.proofs.AtPlaces.{place-at}
use Rattle.lh_eval.specs.Sound.{IsWrittenRight}
use Rattle.lh_eval.proofs.GivesFit.{constants-fit}
use Rattle.lh_eval_laws.proofs.OperandsFound.{carries-value}
use Rattle.lh_eval_laws.proofs.NamedOnce.{giving-lines}
use Rattle.lh_flat.specs.Flat.{FlatBlockText, as_block}
use Rattle.lh_term.specs.Tree.{Tree, constant, operation_on}
use Rattle.lh_term.specs.Types as terms
use Rattle.lh_term.specs.Types.{IsTyped}
use Rattle.lh_term.proofs.TermTypes.{value_typed}
use Rattle.lh_term.specs.Make.{is_zero, make_operation}
use Rattle.lh_term.specs.declared.part.Part.{Part}
use Rattle.lh_region_def.specs.Known.{Known, known_value, known_cell, known_part, Knowledge, as_value, as_part, with_known, with_given, value_known, cell_known, part_known, values_known}
use Rattle.lh_region_def.specs.Rows.{Drive}
use Rattle.lh_region_def.specs.Places.{Region, Here, Midst, stepped, part_stepped, operated, gives, probes, both, drive_cond, with_drive, drives, asserts, takes}
use Rattle.lh_region_def.specs.Regions.{is_constant}
use Rattle.lh_region_def.proofs.Phis.{const-line}
use Rattle.lh_region_def.specs.Typed.{KnowsTyped, KnowsThere, IsConstantOf, of_step, IsCondition, IsOfType}
use Rattle.lh_region_def.specs.Right.{BlockAt, PhiGiven}
use Rattle.lh_region_def.proofs.Sites.{Site, not-result}
use Rattle.lh_region_def.proofs.MergedValues.{one, and-condition, and-one}
use Rattle.lh_region_def.proofs.Operations.{term-type, value-known, cell-known, part-known, HasType, operands-typed, operation-typed, operation-known, PartStep}
use Rattle.lh_region_def.proofs.KnowledgeChanges.{constant-typed, GivenTyped, known-typed, given-typed, known-stays, given-stays, given-known, there-past}
use Rattle.lh_region_def.proofs.Steps.{More, no-more, one-more, RegionOf, Under, EdgeRight, EndRight, DriveRight}
use Rattle.lh_region_def.proofs.Edges.{value-no-void}
use Rattle.lh_region_def.proofs.Start.{const-same}

-- ---- conditions

pub under-both : (q c : Tree) → IsCondition q → IsCondition c → Under q (both q c)
under-both q c i j past now p n h = left (one past now p n q) (one past now p n c) (sym (and-one past now p n q c i j) ∙ h)
  where
    left : (a b : Bool) → (a && b) ≡ true → a ≡ true
    left true b e = refl
    left false b e = e

pub under-self : (q : Tree) → Under q q
under-self q past now p n h = h

-- a step into a signal gives a value of the type that is written
pub step-first : (o : Op) (s : Step) (os : List OperandText) → step_of o ≡ Some s → operation_type o os ≡ first_type os
step-first (op.Extf k) s os q = refl
step-first (op.Exts at len) s os q = refl
step-first o s os q = absurd (none-some s q)

-- ---- operands

data-no-void : (t : TypeTree) → IsData t → t ≡ void_type → ⊥
data-no-void t d e = subst IsData e d

-- an operand has a type, and not that of no value
abbrev pub IsSolid : UnitText → OperandText → Type 0
IsSolid u o = (t : TypeTree) × IsOf u t o.value × (t ≡ void_type → ⊥)

is-data-no-void : (t : TypeTree) → is_data t ≡ true → t ≡ void_type → ⊥
is-data-no-void t d e = false≢true (sym (ap is_data e) ∙ d)

int-no-void : (n : ℕ) (t : TypeTree) → t ≡ int_type n → t ≡ void_type → ⊥
int-no-void n t e f = let z : int_type n ≡ void_type = sym e ∙ f in cc

alike-solid : (u : UnitText) (t : TypeTree) → (t ≡ void_type → ⊥) → (os : List OperandText) → Each (IsLike u t) os → Each (IsSolid u) os
alike-solid u t n [] a = tt
alike-solid u t n (o ∷ os) a = ((t, a.0.0, n), alike-solid u t n os a.1)

fields-solid : (u : UnitText) (os : List OperandText) → Each (λ (o : OperandText). (f : TypeTree) × (is_data f ≡ true) × IsWritten u f o) os → Each (IsSolid u) os
fields-solid u [] a = tt
fields-solid u (o ∷ os) a = ((a.0.0, a.0.2.1, is-data-no-void a.0.0 a.0.1), fields-solid u os a.1)

shift-solid : (u : UnitText) (os : List OperandText) → RowIs u (pure_text op.Shl os) → Each (IsSolid u) os
shift-solid u (b ∷ h ∷ n ∷ []) r =
    let t = r.2 in
    ((r.0, t.1.0, int-no-void t.0.0 r.0 t.0.1), ((r.0, t.2.0, int-no-void t.0.0 r.0 t.0.1), ((int_type t.3.0, t.3.1, int-no-void t.3.0 (int_type t.3.0) refl), tt)))
shift-solid u [] r = absurd r.2
shift-solid u (b ∷ []) r = absurd r.2
shift-solid u (b ∷ h ∷ []) r = absurd r.2
shift-solid u (b ∷ h ∷ n ∷ m ∷ more) r = absurd r.2

select-solid : (u : UnitText) (os : List OperandText) → RowIs u (pure_text op.Mux os) → Each (IsSolid u) os
select-solid u (x ∷ s ∷ []) r = let t = r.2 in ((array_type t.1.0 r.0, t.1.1, is-data-no-void (array_type t.1.0 r.0) refl), ((int_type t.2.0, t.2.1, is-data-no-void (int_type t.2.0) refl), tt))
select-solid u [] r = absurd r.2
select-solid u (x ∷ []) r = absurd r.2
select-solid u (x ∷ s ∷ z ∷ more) r = absurd r.2

takes-solid : (u : UnitText) (s : Step) (os : List OperandText) → TakesPart u s os → Each (IsSolid u) os
takes-solid u s os p = subst (Each (IsSolid u)) (sym p.operands) ((p.whole, p.is, solid p.whole p.leads), tt)
  where
    solid : (w : TypeTree) → StepLeadsTo s w p.of → w ≡ void_type → ⊥
    solid void_type l e = none-some l.0 l.1
    solid (int_type n) l e = cc
    solid (array_type n t) l e = cc
    solid (tuple_type ts) l e = cc
    solid time_type l e = cc
    solid (signal_type t) l e = cc
    solid (pointer_type t) l e = cc

-- an operand of an operation is among the values that it names
each-used : (P : List ℕ → Type 0) (need : Need) (os : List OperandText) → Each P (map (λ (x : Use). x.value) (all_used need os)) → Each (λ (o : OperandText). P o.value) os
each-used P need [] h = tt
each-used P need (o ∷ os) h = (h.0, each-used P need os h.1)

each-named : (P : List ℕ → Type 0) (o : Op) (os : List OperandText) → Each P (values_named (pure_text o os)) → Each (λ (o : OperandText). P o.value) os
each-named P (op.Extf k) os h = each-used P (step_need (first_type os)) os h
each-named P (op.Exts at len) os h = each-used P (step_need (first_type os)) os h
each-named P o os h = each-used P data_needed os h

module _ (u : UnitText) (b : BlockText) (before : List LineText) (k : Knowledge) (typed : KnowsTyped u k) (there : KnowsThere u b before k) where
  abbrev AreThere : List OperandText → Type 0
  AreThere os = Each (λ (o : OperandText). IsThere u b before o.value) os

  all-known : (os : List OperandText) → Each (IsSolid u) os → AreThere os → Each (λ (o : OperandText). IsSome (k o.value)) os
  all-known [] c h = tt
  all-known (o ∷ os) c h = (there o.value c.0.0 c.0.1 c.0.2 h.0, all-known os c.1 h.1)

  term-data : (t : TypeTree) → is_data t ≡ true → terms.IsValueType t → IsData t
  term-data t d (inl x) = x
  term-data t d (inr e) = absurd (false≢true (sym (ap is_data e) ∙ d))

  puts-known : (s : Step) (os : List OperandText) → PutsPart u s os → AreThere os → Each (λ (o : OperandText). IsSome (k o.value)) os
  puts-known s os p h =
      let h' = subst AreThere p.operands h in
      let first = there p.operand.value p.whole p.is (is-data-no-void p.whole p.carries) h'.0 in
      let v = value-known u k typed p.operand.value p.whole p.is (ap (λ x. x || is_time p.whole) p.carries) first in
      let d : IsData p.whole = term-data p.whole p.carries (subst terms.IsValueType v.2.type (value_typed v.0 v.2.typed)) in
      let w = step_part-within p.whole s p.part d p.leads in
      subst (Each (λ (o : OperandText). IsSome (k o.value))) (sym p.operands) (first, (there p.new.value p.part.of p.fits (data-no-void p.part.of w.is_data) h'.1.0, tt))

  -- each operand of an operation is known
  pub operands-known : (o : Op) (os : List OperandText) → RowIs u (pure_text o os) → HasPart u (pure_text o os) → AreThere os → Each (λ (o : OperandText). IsSome (k o.value)) os
  operands-known (op.Extf n) os r p h = all-known os (takes-solid u (Field n) os p) h
  operands-known (op.Exts at len) os r p h = all-known os (takes-solid u (Slice at len) os p) h
  operands-known (op.Insf n) os r p h = puts-known (Field n) os p h
  operands-known (op.Inss at len) os r p h = puts-known (Slice at len) os p h
  operands-known op.Eq os r p h = all-known os (alike-solid u r.0 (is-data-no-void r.0 r.2.0) os r.2.1) h
  operands-known op.Neq os r p h = all-known os (alike-solid u r.0 (is-data-no-void r.0 r.2.0) os r.2.1) h
  operands-known op.Shl os r p h = all-known os (shift-solid u os r) h
  operands-known op.Shr os r p h = all-known os (shift-solid u os r) h
  operands-known op.Mux os r p h = all-known os (select-solid u os r) h
  operands-known op.Array os r p h = all-known os (alike-solid u r.0 (is-data-no-void r.0 r.2.0) os r.2.1) h
  operands-known (op.Repeat n) os r p h = all-known os (alike-solid u r.0 (is-data-no-void r.0 r.2.0) os r.2.1) h
  operands-known op.Tuple os r p h = all-known os (fields-solid u os r.2) h
  operands-known o os r p h = all-known os (alike-solid u r.0 (int-no-void r.2.0.0 r.0 r.2.0.1) os r.2.1) h

module _ (u : UnitText) (g : Region) (r : RegionOf u g) (i : ℕ) (b : FlatBlockText) (bat : BlockAt g.blocks i b) (h : Here) (hl : h.label ≡ b.label) (hc : IsCondition h.cond) where
  -- what an instruction that is not the last of its block does
  pub record Took (before : List LineText) (l : LineText) (m m' : Midst) : Type 0 where
    pub typed : KnowsTyped u m'.known
    pub there : KnowsThere u (as_block b) (before ++ l ∷ []) m'.known
    pub stays : (n : List ℕ) → IsSome (m.known n) → IsSome (m'.known n)
    pub edges : More (EdgeRight u g h) m.edges m'.edges
    pub drives : More (DriveRight h) m.rows.drives m'.rows.drives
    pub ends : More (EndRight u g h) m.rows.ends m'.rows.ends
    pub asserts : More (λ (t : Tree). Unit {0}) m.rows.asserts m'.rows.asserts

  module _ (before : List LineText) (l : LineText) (after : List LineText) (s : Site u (as_block b) before l after) (m : Midst) (typed : KnowsTyped u m.known)
      (there : KnowsThere u (as_block b) before m.known) where
    abbrev Operands : InstText → Type 0
    Operands j = OperandsThere kind.Proc u (place-at s.number s.entry (as_block b) before l after) j

    -- a name that is there and has a type is known
    pub named-known : (n : List ℕ) (t : TypeTree) → IsOf u t n → (t ≡ void_type → ⊥) → IsThere u (as_block b) before n → IsSome (m.known n)
    named-known n t o w k = there n t o w k

    -- what another instruction gives is no constant
    not-constant : (j : InstText) → l.inst ≡ j → is_constant j ≡ false → (n : List ℕ) → l.result ≡ Some n → (x : Tree) → IsConstantOf u n x
    not-constant j e c n q x d i = absurd (false≢true (sym c ∙ ap is_constant (sym e ∙ const-line u l s.first n d q i)))

    -- the result is given
    pub given-took : (x : Known) → GivenTyped u l.result x → (m1 : Midst) → m1.known ≡ m.known → m1.edges ≡ m.edges → m1.rows.drives ≡ m.rows.drives → m1.rows.ends ≡ m.rows.ends
        → m1.rows.asserts ≡ m.rows.asserts → Took before l m (gives m1 l.result (Some x))
    given-took x t m1 k e d n a = record {
      typed = subst (λ j. KnowsTyped u (with_given j l.result (Some x))) (sym k) (given-typed u m.known l.result x typed t);
      there = subst (λ j. KnowsThere u (as_block b) (before ++ l ∷ []) (with_given j l.result (Some x))) (sym k)
          (there-past u (as_block b) before l m.known (with_given m.known l.result (Some x)) there (λ n z. given-stays m.known l.result n (Some x) z)
          (λ n t v w q. given-known m.known l.result n x q));
      stays = λ n z. subst (λ j. IsSome (with_given j l.result (Some x) n)) (sym k) (given-stays m.known l.result n (Some x) z);
      edges = subst (More (EdgeRight u g h) m.edges) (sym e) (no-more (EdgeRight u g h) m.edges);
      drives = subst (More (DriveRight h) m.rows.drives) (sym d) (no-more (DriveRight h) m.rows.drives);
      ends = subst (More (EndRight u g h) m.rows.ends) (sym n) (no-more (EndRight u g h) m.rows.ends);
      asserts = subst (More (λ (t : Tree). Unit {0}) m.rows.asserts) (sym a) (no-more (λ (t : Tree). Unit {0}) m.rows.asserts);
    }

    -- an instruction that gives nothing, by what its result's type would be
    nothing-there : ((t : TypeTree) → (t ≡ void_type → ⊥) → result_type l.inst ≡ Some t → ⊥) → KnowsThere u (as_block b) (before ++ l ∷ []) m.known
    nothing-there none = there-past u (as_block b) before l m.known m.known there (λ n z. z) (λ n t v w q. absurd (false≢true (sym (not-result u l s.sound n t v (none t w)) ∙ q)))

    -- ---- a constant, an operation, a variable and what it holds, a probe

    pub const-took : (d : Datum) → l.inst ≡ const_text d → IsWrittenRight (const_text d) → Took before l m (takes g h (const_text d) l.result m)
    const-took d e w = given-took (known_value (constant d)) (λ n t q v.
        let f = constants-fit 0 d w _ t refl (sym (s.sound.gives n q ∙ ap result_type e) ∙ v) in
        let c = constant-typed d t f.0 f.1 in
        ((c.0, λ d' x. ap constant (const-same d d' (sym e ∙ const-line u l s.first n d' q x))), c.1)) m refl refl refl refl refl

    -- what an operation gives, of values and of a signal
    pub record Operated (o : Op) (os : List OperandText) : Type 0 where
      pub known : Known
      pub is : operated m.known o os ≡ Some known
      pub fits : GivenTyped u l.result known
      pub how : ((ts : List Tree) × (values_known m.known os ≡ Some ts) × (known ≡ known_value (make_operation o ts)) × ((t : TypeTree) → operation_type o os ≡ Some t → IsTyped (operation_on o ts)))
          ⊎ ((p : PartStep u m.known o os) × (known ≡ known_part (record { arg = p.whole.arg; lo = p.whole.lo + p.part.lo; ty = p.part.of })))

    -- a part is no value
    no-values : (p : Part) (n : List ℕ) → part_known m.known n ≡ Some p → value_known m.known n ≡ None
    no-values p n q = by (m.known n) q
      where
        by : (o : Option Known) → option_and_then as_part o ≡ Some p → option_and_then as_value o ≡ None
        by None e = absurd (none-some p e)
        by (Some (known_value t)) e = absurd (none-some p e)
        by (Some (known_cell t)) e = absurd (none-some p e)
        by (Some (known_part x)) e = refl

    pub op-known : (o : Op) (os : List OperandText) → l.inst ≡ pure_text o os → RowIs u (pure_text o os) → HasPart u (pure_text o os) → IsWrittenRight (pure_text o os) → Operands (pure_text o os)
        → Operated o os
    op-known o os e row part written k =
        let c = operands-known u (as_block b) before m.known typed there o os row part (each-named (IsThere u (as_block b) before) o os k) in
        by (operation-known u m.known typed o os row part c)
      where
        line-type : (n : List ℕ) (t : TypeTree) → l.result ≡ Some n → value_type u n ≡ Some t → operation_type o os ≡ Some t
        line-type n t q v = sym (s.sound.gives n q ∙ ap result_type e) ∙ v

        of-part : (p : PartStep u m.known o os) → Operated o os
        of-part p =
            let x : Part = record { arg = p.whole.arg; lo = p.whole.lo + p.part.lo; ty = p.part.of } in
            let none : values_known m.known os ≡ None = ap (values_known m.known) p.operands ∙ ap (λ y. front y (Some [])) (no-values p.whole p.operand.value p.known) in
            let led : stepped (Some p.whole) (option_and_then carried p.operand.ty) (step_of o) ≡ Some (known_part x) =
            ap (λ y. stepped (Some p.whole) (option_and_then carried y) (step_of o)) p.written
            ∙ ap (stepped (Some p.whole) (Some p.part.of)) p.takes
            ∙ ap (option_map (λ y. known_part (record { arg = p.whole.arg; lo = p.whole.lo + y.lo; ty = p.part.of }))) (parts_have_ranges p.whole.ty p.step p.part p.leads) in
            let steps : part_stepped m.known o os ≡ Some (known_part x) = ap (part_stepped m.known o) p.operands ∙ ap (λ y. stepped y (option_and_then carried p.operand.ty) (step_of o)) p.known
            ∙ led in
            record {
              known = known_part x;
              is = ap (λ y. or_else (option_map (λ ts. known_value (make_operation o ts)) y) (part_stepped m.known o os)) none ∙ steps;
              fits = λ n t q v.
                  let f = s.first n q in
                  let line : inst_giving n u.blocks ≡ Some (pure_text o (p.operand ∷ [])) = giving-lines n u.blocks ∙ f.1 ∙ ap Some (e ∙ ap (pure_text o) p.operands) in
                  let ty : Some (signal_type p.part.of) ≡ Some t = sym p.written ∙ sym (ap first_type p.operands) ∙ sym (step-first o p.step os p.takes) ∙ line-type n t q v in
                  ((p.data_type, of_step n o p.operand p.whole x f.0 line p.named led), same_Some (signal_type p.part.of) t ty);
              how = inr (p, refl);
            }

        by : ((ts : List Tree) × (values_known m.known os ≡ Some ts)) ⊎ PartStep u m.known o os → Operated o os
        by (inr p) = of-part p
        by (inl x) =
            let ty : Each (HasType u) os = operands-typed u o os row part in record {
              known = known_value (make_operation o x.0);
              is = ap (λ y. or_else (option_map (λ ts. known_value (make_operation o ts)) y) (part_stepped m.known o os)) x.1;
              fits = λ n t q v. let z = (operation-typed u m.known typed o os row written ty x.0 x.1 t (line-type n t q v)).1 in
                  ((z.typed, not-constant (pure_text o os) e refl n q (make_operation o x.0)), z.type);
              how = inl (x.0, x.1, refl, λ t q. (operation-typed u m.known typed o os row written ty x.0 x.1 t q).0);
            }

    -- what an option gives is taken
    pub option-took : (x : Option Known) (y : Known) → x ≡ Some y → GivenTyped u l.result y → Took before l m (gives m l.result x)
    option-took x y q t = subst (λ z. Took before l m (gives m l.result z)) (sym q) (given-took y t m refl refl refl refl refl)

    pub var-known : (a : OperandText) → RowIs u (var_text a) → Operands (var_text a) → (t : TypeTree) × (v : Tree) × (a.ty ≡ Some t) × (value_known m.known a.value ≡ Some v) × IsOfType t v
        × IsOf u t a.value × (is_value_type t ≡ true)
    var-known a row k =
        let v = value-known u m.known typed a.value row.0 row.2.1 row.1 (named-known a.value row.0 row.2.1 (value-no-void row.0 row.1) k.0) in
        (row.0, v.0, row.2.0, v.1, v.2, row.2.1, row.1)

    pub var-took : (a : OperandText) → l.inst ≡ var_text a → RowIs u (var_text a) → Operands (var_text a) → Took before l m (takes g h (var_text a) l.result m)
    var-took a e row k =
        let v = var-known a row k in
        option-took (option_map known_cell (value_known m.known a.value)) (known_cell v.1) (ap (option_map known_cell) v.3) (λ n t q w.
        let made : option_and_then pointer_to a.ty ≡ Some (pointer_type v.0) = ap (option_and_then pointer_to) v.2 ∙ ap (λ x. if x then Some (pointer_type v.0) else None) v.6 in
        let same : pointer_type v.0 ≡ t = same_Some (pointer_type v.0) t (sym made ∙ sym (s.sound.gives n q ∙ ap result_type e) ∙ w) in
        (v.4.typed, ap pointer_type v.4.type ∙ same))

    pub ld-known : (a : OperandText) → RowIs u (ld_text a) → Operands (ld_text a) → (t : TypeTree) × (v : Tree) × (a.ty ≡ Some (pointer_type t)) × (cell_known m.known a.value ≡ Some v) × IsOfType t v
        × IsOf u (pointer_type t) a.value
    ld-known a row k =
        let v = cell-known u m.known typed a.value row.0 row.1.1 (named-known a.value (pointer_type row.0) row.1.1 (λ z. cc) k.0) in
        (row.0, v.0, row.1.0, v.1, v.2, row.1.1)

    pub ld-took : (a : OperandText) → l.inst ≡ ld_text a → RowIs u (ld_text a) → Operands (ld_text a) → Took before l m (takes g h (ld_text a) l.result m)
    ld-took a e row k =
        let v = ld-known a row k in
        option-took (option_map known_value (cell_known m.known a.value)) (known_value v.1) (ap (option_map known_value) v.3) (λ n t q w.
        let same : v.0 ≡ t = same_Some v.0 t (sym (ap (option_and_then pointed) v.2) ∙ sym (s.sound.gives n q ∙ ap result_type e) ∙ w) in
        ((v.4.typed, not-constant (ld_text a) e refl n q v.1), v.4.type ∙ same))

    pub prb-known : (a : OperandText) → RowIs u (prb_text a) → Operands (prb_text a) → (t : TypeTree) × (p : Part) × (a.ty ≡ Some (signal_type t)) × (part_known m.known a.value ≡ Some p) × IsData p.ty
        × (p.ty ≡ t) × IsOf u (signal_type t) a.value
    prb-known a row k =
        let v = part-known u m.known typed a.value row.0 row.1.1 (named-known a.value (signal_type row.0) row.1.1 (λ z. cc) k.0) in
        (row.0, v.0, row.1.0, v.1, v.2, v.3, row.1.1)

    pub prb-took : (a : OperandText) → l.inst ≡ prb_text a → RowIs u (prb_text a) → Operands (prb_text a) → Took before l m (takes g h (prb_text a) l.result m)
    prb-took a e row k =
        let v = prb-known a row k in
        let z = r.probe v.1 v.4 in
        subst (λ x. Took before l m (probes g m l.result x)) (sym v.3)
        (given-took (known_value (g.probe v.1)) (λ n t q w.
        let same : v.0 ≡ t = same_Some v.0 t (sym (ap (option_and_then carried) v.2) ∙ sym (s.sound.gives n q ∙ ap result_type e) ∙ w) in
        ((z.typed, not-constant (prb_text a) e refl n q (g.probe v.1)), z.type ∙ v.5 ∙ same)) (record m { rows = record m.rows { probes = m.rows.probes ++ v.1 ∷ [] } }) refl refl refl refl refl)

    pub pure-took : (o : Op) (os : List OperandText) → l.inst ≡ pure_text o os → RowIs u (pure_text o os) → HasPart u (pure_text o os) → IsWrittenRight (pure_text o os) → Operands (pure_text o os)
        → Took before l m (takes g h (pure_text o os) l.result m)
    pure-took o os e row part written k = let x = op-known o os e row part written k in option-took (operated m.known o os) x.known x.is x.fits

    -- ---- what gives nothing

    -- something else is known under a name, and nothing is given
    pub st-known : (to : OperandText) (value : List ℕ) → RowIs u (st_text to value) → Operands (st_text to value)
        → (t : TypeTree) × (c : Tree) × (v : Tree) × (cell_known m.known to.value ≡ Some c) × (value_known m.known value ≡ Some v) × IsOfType t v × IsOf u (pointer_type t) to.value × IsOf u t value
    st-known to value row k =
        let c = cell-known u m.known typed to.value row.0 row.1.1 (named-known to.value (pointer_type row.0) row.1.1 (λ z. cc) k.0) in
        let i : is_value_type row.0 ≡ true = ap is_value_type (sym c.2.type) ∙ term-type c.0 c.2.typed in
        let v = value-known u m.known typed value row.0 row.2 i (named-known value row.0 row.2 (value-no-void row.0 i) k.1.0) in
        (row.0, c.0, v.0, c.1, v.1, v.2, row.1.1, row.2)

    pub same-took : (m1 : Midst) → m1.known ≡ m.known → ((t : TypeTree) → (t ≡ void_type → ⊥) → result_type l.inst ≡ Some t → ⊥) → More (EdgeRight u g h) m.edges m1.edges
        → More (DriveRight h) m.rows.drives m1.rows.drives → More (EndRight u g h) m.rows.ends m1.rows.ends → More (λ (t : Tree). Unit {0}) m.rows.asserts m1.rows.asserts → Took before l m m1
    same-took m1 k none e d n a = record {
      typed = subst (KnowsTyped u) (sym k) typed;
      there = subst (KnowsThere u (as_block b) (before ++ l ∷ [])) (sym k) (nothing-there none);
      stays = λ x z. subst (λ j. IsSome (j x)) (sym k) z;
      edges = e;
      drives = d;
      ends = n;
      asserts = a;
    }

    no-edges : More (EdgeRight u g h) m.edges m.edges
    no-edges = no-more (EdgeRight u g h) m.edges

    no-drives : More (DriveRight h) m.rows.drives m.rows.drives
    no-drives = no-more (DriveRight h) m.rows.drives

    no-ends : More (EndRight u g h) m.rows.ends m.rows.ends
    no-ends = no-more (EndRight u g h) m.rows.ends

    no-asserts : More (λ (t : Tree). Unit {0}) m.rows.asserts m.rows.asserts
    no-asserts = no-more (λ (t : Tree). Unit {0}) m.rows.asserts

    pub st-took : (to : OperandText) (value : List ℕ) → l.inst ≡ st_text to value → RowIs u (st_text to value) → Operands (st_text to value) → Took before l m (takes g h (st_text to value) l.result m)
    st-took to value e row k =
        let x = st-known to value row k in
        subst (λ y. Took before l m (gives m (Some to.value) (option_map known_cell y))) (sym x.4) (record {
          typed = known-typed u m.known to.value (known_cell x.2) typed (λ n t q w.
              let same : pointer_type x.0 ≡ t = same_Some (pointer_type x.0) t (sym x.6 ∙ ap (value_type u) (same_Some to.value n q) ∙ w) in
              (x.5.typed, ap pointer_type x.5.type ∙ same));
          there = there-past u (as_block b) before l m.known (with_known m.known to.value (known_cell x.2)) there (λ n z. known-stays m.known to.value n (known_cell x.2) z)
              (λ n t v w q. absurd (false≢true (sym (not-result u l s.sound n t v (λ z. none-some t (sym (ap result_type e) ∙ z))) ∙ q)));
          stays = λ n z. known-stays m.known to.value n (known_cell x.2) z;
          edges = no-edges;
          drives = no-drives;
          ends = no-ends;
          asserts = no-asserts;
        })

    -- what a drive looks up
    pub record Driven (to : OperandText) (value after' : List ℕ) (cond : Option (List ℕ)) : Type 0 where
      pub part : Part
      pub term : Tree
      pub delay : Tree
      pub when : Tree
      pub part_is : part_known m.known to.value ≡ Some part
      pub term_is : value_known m.known value ≡ Some term
      pub delay_is : value_known m.known after' ≡ Some delay
      pub when_is : drive_cond m.known h.cond cond ≡ Some when
      pub right : DriveRight h (record { cond = when; part = part; value = term; delay = delay })
      pub to_type : IsOf u (signal_type part.ty) to.value
      pub value_type_is : IsOf u part.ty value
      pub after_type : IsOf u time_type after'
      pub how : ((cond ≡ None) × (when ≡ h.cond)) ⊎ ((c : List ℕ) × (t : Tree) × (cond ≡ Some c) × (value_known m.known c ≡ Some t) × IsCondition t × IsOf u bit c × (when ≡ both h.cond t))

    pub bit-known : (n : List ℕ) → IsOf u bit n → IsThere u (as_block b) before n → (t : Tree) × (value_known m.known n ≡ Some t) × IsCondition t
    bit-known n o k = let v = value-known u m.known typed n bit o refl (named-known n bit o (λ z. cc) k) in (v.0, v.1, record { typed = v.2.typed; type = v.2.type })

    pub drv-known : (to : OperandText) (value after' : List ℕ) (cond : Option (List ℕ)) → RowIs u (drv_text to value after' cond) → Operands (drv_text to value after' cond)
        → Driven to value after' cond
    drv-known to value after' cond row k =
        let p = part-known u m.known typed to.value row.0 row.1.1 (named-known to.value (signal_type row.0) row.1.1 (λ z. cc) k.0) in
        let d : IsData row.0 = subst IsData p.3 p.2 in
        let v = value-known u m.known typed value row.0 row.2 (carries-value row.0 d) (named-known value row.0 row.2 (data-no-void row.0 d) k.1.0) in
        let t = value-known u m.known typed after' time_type row.3 refl (named-known after' time_type row.3 (λ z. cc) k.1.1.0) in
        by cond row.4 k.1.1.1 p.0 p.1 p.2 p.3 v.0 v.1 v.2 t.0 t.1 t.2
      where
        by : (cond : Option (List ℕ)) → MayBeOf u bit cond → Each (IsThere u (as_block b) before) (map (λ (x : Use). x.value) (maybe_used data_needed cond)) → (p : Part)
            → part_known m.known to.value ≡ Some p → IsData p.ty → p.ty ≡ row.0 → (v : Tree) → value_known m.known value ≡ Some v → IsOfType row.0 v → (t : Tree) → value_known m.known after' ≡ Some t
            → IsOfType time_type t → Driven to value after' cond
        by None o k p pq pd pt v vq vt t tq tt' = record {
          part = p;
          term = v;
          delay = t;
          when = h.cond;
          part_is = pq;
          term_is = vq;
          delay_is = tq;
          when_is = refl;
          right = record { cond = hc; under = under-self h.cond; part = pd; value = subst (λ x. IsOfType x v) (sym pt) vt; delay = tt' };
          to_type = row.1.1 ∙ ap (λ x. Some (signal_type x)) (sym pt);
          value_type_is = row.2 ∙ ap Some (sym pt);
          after_type = row.3;
          how = inl (refl, refl);
        }
        by (Some c) o k p pq pd pt v vq vt t tq tt' =
            let w = bit-known c o k.0 in record {
              part = p;
              term = v;
              delay = t;
              when = both h.cond w.0;
              part_is = pq;
              term_is = vq;
              delay_is = tq;
              when_is = ap (option_map (both h.cond)) w.1;
              right = record { cond = and-condition h.cond w.0 hc w.2; under = under-both h.cond w.0 hc w.2; part = pd; value = subst (λ x. IsOfType x v) (sym pt) vt; delay = tt' };
              to_type = row.1.1 ∙ ap (λ x. Some (signal_type x)) (sym pt);
              value_type_is = row.2 ∙ ap Some (sym pt);
              after_type = row.3;
              how = inr (c, w.0, refl, w.1, w.2, o, refl);
            }

    pub drv-took : (to : OperandText) (value after' : List ℕ) (cond : Option (List ℕ)) → l.inst ≡ drv_text to value after' cond → RowIs u (drv_text to value after' cond)
        → Operands (drv_text to value after' cond) → Took before l m (takes g h (drv_text to value after' cond) l.result m)
    drv-took to value after' cond e row k =
        let d = drv-known to value after' cond row k in
        let none : (t : TypeTree) → (t ≡ void_type → ⊥) → result_type l.inst ≡ Some t → ⊥ = λ t w z. none-some t (sym (ap result_type e) ∙ z) in
        let x : Drive = record { cond = d.when; part = d.part; value = d.term; delay = d.delay } in
        let done : drives m (drive_cond m.known h.cond cond) (part_known m.known to.value) (value_known m.known value) (value_known m.known after') ≡ with_drive m x =
        λ j. drives m (d.when_is j) (d.part_is j) (d.term_is j) (d.delay_is j) in
        subst (Took before l m) (sym done) (by x d.right none (is_zero d.when))
      where
        by : (x : Drive) → DriveRight h x → ((t : TypeTree) → (t ≡ void_type → ⊥) → result_type l.inst ≡ Some t → ⊥) → (z : Bool)
            → Took before l m (if z then m else record m { rows = record m.rows { drives = m.rows.drives ++ x ∷ [] } })
        by x right none true = same-took m refl none no-edges no-drives no-ends no-asserts
        by x right none false = same-took (record m { rows = record m.rows { drives = m.rows.drives ++ x ∷ [] } }) refl none no-edges (one-more (DriveRight h) m.rows.drives x right) no-ends no-asserts

    each-true : {X : Type 0} (xs : List X) → Each (λ (x : X). Unit {0}) xs
    each-true [] = tt
    each-true (x ∷ xs) = (tt, each-true xs)

    pub call-took : (f : UnitName) (ty : TypeTree) (os : List OperandText) → l.inst ≡ call_text f ty os → (is_assert f ≡ true) × AssertIsRight u ty os
        → Took before l m (takes g h (call_text f ty os) l.result m)
    call-took f ty os e a = by (values_known m.known os)
      where
        none : (t : TypeTree) → (t ≡ void_type → ⊥) → result_type l.inst ≡ Some t → ⊥
        none t w z = let same : ty ≡ t = same_Some ty t (sym (ap result_type e) ∙ z) in w (sym same ∙ a.1.gives)

        by : (o : Option (List Tree)) → Took before l m (asserts m o)
        by None = same-took m refl none no-edges no-drives no-ends no-asserts
        by (Some ts) = same-took (record m { rows = record m.rows { asserts = m.rows.asserts ++ ts } }) refl none no-edges no-drives no-ends (ts, refl, each-true ts)

    pub phi-took : (ty : TypeTree) (es : List EdgeText) → l.inst ≡ phi_text ty es → PhiGiven m.known (phi_text ty es) l.result → Took before l m m
    phi-took ty es e p = record {
      typed = typed;
      there = there-past u (as_block b) before l m.known m.known there (λ n z. z) (λ n t v w q. p n q);
      stays = λ n z. z;
      edges = no-edges;
      drives = no-drives;
      ends = no-ends;
      asserts = no-asserts;
    }
