-- Of what is known at a place, each part is that of its name, and each term has such parts alone.
use Rattle.std.proofs.Common.{◌≡◌, ◌⊎◌, inl, inr, ℕ, suc, ◌+◌, List, [], ◌∷◌, ◌++◌, filter, Bool, true, false, not, Option, Some, None, refl, ap, sym, ◌∙◌, subst}
use Rattle.std.specs.Bool.{if◌then◌else◌}
use Rattle.std.specs.Option.{option_and_then, option_map}
use Rattle.std.proofs.lemmas.Option.{same_Some, none-some}
use Rattle.lh_types.specs.Types.{TypeTree, signal_type, IsData}
use Rattle.lh_types.specs.Parts as Parts
use Rattle.lh_types.specs.Parts.{step_part}
use Rattle.lh_types.specs.declared.op.Op.{Op}
use Rattle.lh_types.specs.declared.op.Op.TheVariants.{Or}
use Rattle.lh_types.specs.declared.part.Step.{Step}
use Rattle.lh_types.proofs.PartLemmas.{step_part-within}
use Rattle.lh_unit.specs.Contents.{OperandText, EdgeText, InstText, const_text, pure_text, phi_text, LineText, UnitText, args_define}
use Rattle.lh_unit_names.specs.Names.{same_name}
use Rattle.lh_unit.specs.Effects.{step_of}
use Rattle.lh_unit.specs.Held.{front}
use Rattle.lh_unit.specs.Typing.{value_type, result_type, carried, or_else, inst_giving}
use Rattle.lh_unit.specs.Activation.{edge_from}
use Rattle.lh_unit.specs.Within.{Each}
use Rattle.lh_unit_names.proofs.NameLists.{same_name-is}
use Rattle.lh_verify_laws.specs.Parts.{HasPart}
use Rattle.lh_verify_laws.proofs.PartsLaw.{parts_have_ranges}
use Rattle.lh_verify_laws.proofs.PartSteps.{takes-part, step-type}
use Rattle.lh_eval_laws.proofs.NamedOnce.{giving-lines}
use Rattle.lh_flat_laws.specs.Formed.{IsFormed}
use Rattle.lh_term.specs.Tree.{Tree, constant}
use Rattle.lh_term.specs.Make.{bit_of, make_operation, make_choice}
use Rattle.lh_term.specs.Conjuncts.{conjuncts_of}
use Rattle.lh_term.specs.declared.part.Part.{Part}
use Rattle.lh_region_def.specs.Known.{Known, known_value, known_cell, known_part, Knowledge, nothing_known, with_given, value_known, cell_known, part_known, values_known, parts_known, with_arguments, argument_part}
use Rattle.lh_region_def.specs.Joins.{RegionEdge, or_any, any_taken, in_each, selector, chosen_from, merged, merged_by, joined, phi_on, with_phi, with_phis, known_at}
use Rattle.lh_region_def.specs.Places.{stepped, part_stepped, operated}
use Rattle.lh_region_def.specs.Regions.{with_constant, with_constants}
use Rattle.lh_flat_laws.proofs.Members.{in-each}
use Rattle.lh_region_def.proofs.Heads.{arguments-case, argument-of}
use Rattle.lh_region_def.proofs.JoinedKnowledge.{GiveEach, given-each, merged-of, value_on, cell_on, part_on, JoinCase, of_value, of_cell, of_part, join-case, known-by-value, known-by-cell, known-by-part, first-among}
use Rattle.lh_region_def.proofs.Sites.{LineGood}
use Rattle.lh_emit_def.specs.Emitted.{PartStep, source_of}
use Rattle.lh_emit_def.specs.Reached as Emit
use Rattle.lh_emit_def.specs.Reached.{Reached, stepped_by, further, steps_in, IsReachedPartOf}
use Rattle.lh_term.specs.Leaves.{AllParts}
use Rattle.lh_emit_def.specs.Ways.{inner, part_by, WaitIsGiven}
use Rattle.lh_emit_def.proofs.ReachedParts.{part-reached}
use Rattle.lh_emit_def.proofs.PartsLed.{part-led, Taken, taken}
use Rattle.lh_region_def.proofs.PartsNamed.{no-argument}
use Rattle.lh_entity_laws.proofs.GivenTrees.{In, AllIn, make-in, choice-in, conjuncts-in, conjunction-in, filter-in}

-- ---- the part of a name

-- the part is that of the name, which is a signal of it
pub record PartNamed (u : UnitText) (n : List ℕ) (p : Part) : Type 0 where
  pub is_data : IsData p.ty
  pub type : value_type u n ≡ Some (signal_type p.ty)
  pub named : IsReachedPartOf u n p

-- a part that is reached
abbrev pub PartFine : UnitText → Part → Type 0
PartFine u p = WaitIsGiven (source_of u (steps_in u)) p

pub part-fine : (u : UnitText) (n : List ℕ) (p : Part) → PartNamed u n p → PartFine u p
part-fine u n p h = record { is_data = h.is_data; part = part-reached u n p h.named }

pub argument-named : (u : UnitText) → IsFormed u → (n : List ℕ) (p : Part) → argument_part n 0 u.args ≡ Some p → PartNamed u n p
argument-named u f n p h =
    let z = argument-of u n 0 u.args p f.args f.ports h in
    let way : Reached = record { part = p; steps = [] } in
    record { is_data = z.0; type = z.1; named = record { count = 0; way = way; is_reached = ap (option_map (λ q. record { part = q; steps = [] })) h; is_part = refl } }

-- ---- the part to which a step leads

-- one operation more
abbrev further_by : Op → List PartStep → Part → Reached
further_by o steps p = record { part = p; steps = steps ++ record { op = o; to = p } ∷ [] }

further-named : (u : UnitText) (n : List ℕ) (o : Op) (x : OperandText) (q p : Part) → args_define n u.args ≡ false → inst_giving n u.blocks ≡ Some (pure_text o (x ∷ [])) → part_by q o ≡ Some p
    → IsReachedPartOf u x.value q → IsReachedPartOf u n p
further-named u n o x q p new line by h = record {
  count = suc h.count;
  way = further_by o h.way.steps p;
  is_reached =
      ap (λ a. or_else a (further (Emit.reached h.count u) (inst_giving n u.blocks))) (ap (option_map (λ z. record { part = z; steps = [] })) (no-argument n 0 u.args new))
      ∙ ap (further (Emit.reached h.count u)) line
      ∙ ap (option_and_then (stepped_by o)) h.is_reached
      ∙ ap (λ w. option_map (further_by o h.way.steps) (part_by w o)) h.is_part
      ∙ ap (option_map (further_by o h.way.steps)) by;
  is_part = refl;
}

step-led : (o : Op) (s : Step) (ty : Option TypeTree) (q : Part) (z : Parts.Part) → step_of o ≡ Some s → step_part q.ty s ≡ Some z → ty ≡ Some (signal_type z.of)
    → stepped (Some q) (option_and_then carried ty) (step_of o) ≡ Some (known_part (inner q z))
step-led o s ty q z so leads written =
    (λ i. stepped (Some q) (option_and_then carried (written i)) (so i))
    ∙ ap (option_map (λ w. known_part (record { arg = q.arg; lo = q.lo + w.lo; ty = z.of }))) (parts_have_ranges q.ty s z leads)

module _ (u : UnitText) (l : LineText) (good : LineGood u l) (n : List ℕ) (result : l.result ≡ Some n) where
  inner-named : (o : Op) (x : OperandText) (s : Step) → step_of o ≡ Some s → l.inst ≡ pure_text o (x ∷ []) → (q : Part) → PartNamed u x.value q → (k : Taken u x s q) → PartNamed u n (inner q k.part)
  inner-named o x s so e q h k = record {
    is_data = (step_part-within q.ty s k.part h.is_data k.leads).is_data;
    type = good.0.gives n result ∙ ap result_type e ∙ step-type o s x so ∙ k.written;
    named = further-named u n o x q (inner q k.part) (good.1 n result).0 (giving-lines n u.blocks ∙ (good.1 n result).1 ∙ ap Some e) (part-led o s q k.part so k.leads) h.named;
  }

  -- of one operand that is a signal: the part to which the step leads, which is that of the result
  step-named : (o : Op) (x : OperandText) (s : Step) → step_of o ≡ Some s → l.inst ≡ pure_text o (x ∷ []) → (q : Part) → PartNamed u x.value q → (y : Known)
      → stepped (Some q) (option_and_then carried x.ty) (step_of o) ≡ Some y →
      (p : Part) × (y ≡ known_part p) × PartNamed u n p
  step-named o x s so e q h y made = by (taken u x s q (takes-part u o s (x ∷ []) so (subst (HasPart u) e good.0.part)) h.type)
    where
      by : Taken u x s q → (p : Part) × (y ≡ known_part p) × PartNamed u n p
      by k = (inner q k.part, same_Some y (known_part (inner q k.part)) (sym made ∙ step-led o s x.ty q k.part so k.leads k.written), inner-named o x s so e q h k)

-- ---- what is known

module _ (u : UnitText) (T : Part → Type 0) where
  -- a term has such parts, and a part is that of its name
  abbrev pub KnownFine : List ℕ → Known → Type 0
  KnownFine n (known_value t) = AllParts T t
  KnownFine n (known_cell t) = AllParts T t
  KnownFine n (known_part p) = PartNamed u n p

  abbrev pub KnowsFine : Knowledge → Type 0
  KnowsFine k = (n : List ℕ) (x : Known) → k n ≡ Some x → KnownFine n x

  pub value-fine : (k : Knowledge) → KnowsFine k → (n : List ℕ) (t : Tree) → value_known k n ≡ Some t → AllParts T t
  value-fine k h n t q = h n (known_value t) (known-by-value k n t q)

  pub cell-fine : (k : Knowledge) → KnowsFine k → (n : List ℕ) (t : Tree) → cell_known k n ≡ Some t → AllParts T t
  cell-fine k h n t q = h n (known_cell t) (known-by-cell k n t q)

  pub part-known-fine : (k : Knowledge) → KnowsFine k → (n : List ℕ) (p : Part) → part_known k n ≡ Some p → PartNamed u n p
  part-known-fine k h n p q = h n (known_part p) (known-by-part k n p q)

  pub values-fine : (k : Knowledge) → KnowsFine k → (os : List OperandText) (ts : List Tree) → values_known k os ≡ Some ts → AllIn T ts
  values-fine k h [] ts q = subst (AllIn T) (same_Some [] ts q) tt
  values-fine k h (o ∷ os) ts q = by (λ xs. values-fine k h os xs) (value_known k o.value) refl (values_known k os) refl q
    where
      by : ((xs : List Tree) → values_known k os ≡ Some xs → AllIn T xs) → (a : Option Tree) → value_known k o.value ≡ a → (b : Option (List Tree)) → values_known k os ≡ b → front a b ≡ Some ts
          → AllIn T ts
      by go None p b g e = absurd (none-some ts e)
      by go (Some x) p None g e = absurd (none-some ts e)
      by go (Some x) p (Some xs) g e = subst (AllIn T) (same_Some (x ∷ xs) ts e) (value-fine k h o.value x p, go xs g)

  pub parts-fine : (k : Knowledge) → KnowsFine k → (ns : List (List ℕ)) (ps : List Part) → parts_known k ns ≡ Some ps → Each (PartFine u) ps
  parts-fine k h [] ps q = subst (Each (PartFine u)) (same_Some [] ps q) tt
  parts-fine k h (n ∷ ns) ps q = by (λ xs. parts-fine k h ns xs) (part_known k n) refl (parts_known k ns) refl q
    where
      by : ((xs : List Part) → parts_known k ns ≡ Some xs → Each (PartFine u) xs) → (a : Option Part) → part_known k n ≡ a → (b : Option (List Part)) → parts_known k ns ≡ b → front a b ≡ Some ps
          → Each (PartFine u) ps
      by go None p b g e = absurd (none-some ps e)
      by go (Some x) p None g e = absurd (none-some ps e)
      by go (Some x) p (Some xs) g e = subst (Each (PartFine u)) (same_Some (x ∷ xs) ps e) (part-fine u n x (part-known-fine k h n x p), go xs g)

  pub given-fine : (k : Knowledge) (r : Option (List ℕ)) (o : Option Known) → KnowsFine k → ((n : List ℕ) (x : Known) → r ≡ Some n → o ≡ Some x → KnownFine n x) → KnowsFine (with_given k r o)
  given-fine k None o h f n y q = h n y q
  given-fine k (Some m) None h f n y q = h n y q
  given-fine k (Some m) (Some x) h f n y q = by (same_name m n) refl q
    where
      by : (b : Bool) → same_name m n ≡ b → (if b then Some x else k n) ≡ Some y → KnownFine n y
      by true e g = subst (KnownFine n) (same_Some x y g) (subst (λ z. KnownFine z x) (same_name-is m n e) (f m x refl refl))
      by false e g = h n y g

  -- a term that is given
  pub some-value : (o : Option Tree) → ((t : Tree) → o ≡ Some t → AllParts T t) → (n : List ℕ) (x : Known) → option_map known_value o ≡ Some x → KnownFine n x
  some-value None h n x q = absurd (none-some x q)
  some-value (Some t) h n x q = subst (KnownFine n) (same_Some (known_value t) x q) (h t refl)

  pub some-cell : (o : Option Tree) → ((t : Tree) → o ≡ Some t → AllParts T t) → (n : List ℕ) (x : Known) → option_map known_cell o ≡ Some x → KnownFine n x
  some-cell None h n x q = absurd (none-some x q)
  some-cell (Some t) h n x q = subst (KnownFine n) (same_Some (known_cell t) x q) (h t refl)

  -- ---- what an operation gives

  module _ (k : Knowledge) (h : KnowsFine k) (l : LineText) (good : LineGood u l) (n : List ℕ) (result : l.result ≡ Some n) where
    part-of-one : (o : Op) (x : OperandText) → l.inst ≡ pure_text o (x ∷ []) → (y : Known) → stepped (part_known k x.value) (option_and_then carried x.ty) (step_of o) ≡ Some y → KnownFine n y
    part-of-one o x e y made = by (part_known k x.value) refl (step_of o) refl made
      where
        by : (a : Option Part) → part_known k x.value ≡ a → (s : Option Step) → step_of o ≡ s → stepped a (option_and_then carried x.ty) s ≡ Some y → KnownFine n y
        by None p s g m = absurd (none-some y m)
        by (Some q) p None g m = none (option_and_then carried x.ty) m
          where
            none : (t : Option TypeTree) → stepped (Some q) t None ≡ Some y → KnownFine n y
            none None z = absurd (none-some y z)
            none (Some t) z = absurd (none-some y z)
        by (Some q) p (Some s) g m =
            let z = step-named u l good n result o x s g e q (part-known-fine k h x.value q p) y (ap (stepped (Some q) (option_and_then carried x.ty)) g ∙ m) in
            subst (KnownFine n) (sym z.1) z.2

    step-fine : (o : Op) (os : List OperandText) → l.inst ≡ pure_text o os → (y : Known) → part_stepped k o os ≡ Some y → KnownFine n y
    step-fine o [] e y q = absurd (none-some y q)
    step-fine o (x ∷ []) e y q = part-of-one o x e y q
    step-fine o (x ∷ z ∷ os) e y q = absurd (none-some y q)

    pub operated-fine : (o : Op) (os : List OperandText) → l.inst ≡ pure_text o os → (y : Known) → operated k o os ≡ Some y → KnownFine n y
    operated-fine o os e y q = by (values_known k os) refl q
      where
        by : (a : Option (List Tree)) → values_known k os ≡ a → or_else (option_map (λ ts. known_value (make_operation o ts)) a) (part_stepped k o os) ≡ Some y → KnownFine n y
        by None p g = step-fine o os e y g
        by (Some ts) p g = subst (KnownFine n) (same_Some (known_value (make_operation o ts)) y g) (make-in T o ts (values-fine k h os ts p))

  -- ---- before the first instruction

  constant-fine : (k : Knowledge) (j : InstText) (r : Option (List ℕ)) → KnowsFine k → KnowsFine (with_constant k j r)
  constant-fine k (const_text d) r h = given-fine k r (Some (known_value (constant d))) h (λ n x p q. subst (KnownFine n) (same_Some (known_value (constant d)) x q) tt)
  constant-fine k j r h = h

  pub constants-fine : (k : Knowledge) (ls : List LineText) → KnowsFine k → KnowsFine (with_constants k ls)
  constants-fine k [] h = h
  constants-fine k (l ∷ ls) h = constants-fine (with_constant k l.inst l.result) ls (constant-fine k l.inst l.result h)

  pub arguments-fine : IsFormed u → KnowsFine (with_arguments nothing_known 0 u.args)
  arguments-fine f n x q = by (arguments-case [] nothing_known 0 u.args n x f.new_args q)
    where
      by : (nothing_known n ≡ Some x) ⊎ ((p : Part) × (x ≡ known_part p) × (argument_part n 0 u.args ≡ Some p)) → KnownFine n x
      by (inl z) = absurd (none-some x z)
      by (inr z) = subst (KnownFine n) (sym z.1) (argument-named u f n z.0 z.2)

  -- ---- edges

  pub record EdgeFine (e : RegionEdge) : Type 0 where
    pub cond : AllParts T e.cond
    pub known : KnowsFine e.known

  or-fine : (c : Tree) (es : List RegionEdge) → In T c → Each EdgeFine es → In T (or_any c es)
  or-fine c [] h j = h
  or-fine c (e ∷ es) h j = or-fine (make_operation Or (c ∷ e.cond ∷ [])) es (make-in T Or (c ∷ e.cond ∷ []) (h, (j.0.cond, tt))) j.1

  pub taken-fine : (es : List RegionEdge) → Each EdgeFine es → In T (any_taken es)
  taken-fine es j = or-fine (bit_of false) es tt j

  selector-fine : (es : List RegionEdge) (e : RegionEdge) → EdgeFine e → In T (selector es e)
  selector-fine es e h = conjunction-in T (filter (λ c. not (in_each es c)) (conjuncts_of e.cond)) (filter-in T (λ c. not (in_each es c)) (conjuncts_of e.cond) (conjuncts-in T e.cond h.cond))

  chosen-fine : (all : List RegionEdge) (t : Tree) (es : List RegionEdge) (vs : List Tree) → In T t → Each EdgeFine es → AllIn T vs → In T (chosen_from all t es vs)
  chosen-fine all t [] vs h j k = h
  chosen-fine all t (e ∷ es) [] h j k = h
  chosen-fine all t (e ∷ es) (v ∷ vs) h j k = chosen-fine all (make_choice (selector all e) t v) es vs (choice-in T (selector all e) t v (selector-fine all e j.0) h k.0) j.1 k.1

  merged-fine : (es : List RegionEdge) (vs : List Tree) (t : Tree) → Each EdgeFine es → AllIn T vs → merged es vs ≡ Some t → In T t
  merged-fine [] vs t j k q = absurd (none-some t q)
  merged-fine (e ∷ es) [] t j k q = absurd (none-some t q)
  merged-fine (e ∷ es) (v ∷ vs) t j k q = subst (In T) (same_Some (chosen_from (e ∷ es) v es vs) t q) (chosen-fine (e ∷ es) v es vs k.0 j.1 k.1)

  each-fine : (f : RegionEdge → Option Tree) → ((e : RegionEdge) → EdgeFine e → (t : Tree) → f e ≡ Some t → In T t) → (es : List RegionEdge) (ts : List Tree) → Each EdgeFine es → GiveEach f es ts
      → AllIn T ts
  each-fine f h [] [] j g = tt
  each-fine f h [] (t ∷ ts) j g = absurd g
  each-fine f h (e ∷ es) [] j g = absurd g
  each-fine f h (e ∷ es) (t ∷ ts) j g = (h e j.0 t g.0, each-fine f h es ts j.1 g.1)

  merged-by-fine : (f : RegionEdge → Option Tree) → ((e : RegionEdge) → EdgeFine e → (t : Tree) → f e ≡ Some t → In T t) → (es : List RegionEdge) → Each EdgeFine es → (t : Tree)
      → merged_by f es ≡ Some t → In T t
  merged-by-fine f h es j t q = let m = merged-of f es t q in merged-fine es m.trees t j (each-fine f h es m.trees j m.each) m.is

  joined-fine : (es : List RegionEdge) → Each EdgeFine es → KnowsFine (joined es)
  joined-fine es j n x q = by x (join-case es n x q)
    where
      by : (x : Known) → JoinCase es n x → KnownFine n x
      by _ (of_value t e) = merged-by-fine (value_on n) (λ z h t g. value-fine z.known h.known n t g) es j t e
      by _ (of_cell t e) = merged-by-fine (cell_on n) (λ z h t g. cell-fine z.known h.known n t g) es j t e
      by _ (of_part p ps e g) =
          let z = first-among es ps p (part_on n) (given-each (part_on n) es ps e) g in
          part-known-fine z.0.known (in-each EdgeFine es z.0 j z.1).known n p z.2

  phi-edge-fine : (os : List EdgeText) (e : RegionEdge) → EdgeFine e → (t : Tree) → phi_on os e ≡ Some t → In T t
  phi-edge-fine os e h t q = by (edge_from e.from os) q
    where
      by : (o : Option (List ℕ)) → option_and_then (value_known e.known) o ≡ Some t → In T t
      by None g = absurd (none-some t g)
      by (Some n) g = value-fine e.known h.known n t g

  phi-fine : (es : List RegionEdge) → Each EdgeFine es → (j : InstText) (r : Option (List ℕ)) (k : Knowledge) → KnowsFine k → KnowsFine (with_phi es j r k)
  phi-fine es e (phi_text ty os) r k h =
      given-fine k r (option_map known_value (merged_by (phi_on os) es)) h
      (λ n x p q. some-value (merged_by (phi_on os) es) (λ t g. merged-by-fine (phi_on os) (λ z i t w. phi-edge-fine os z i t w) es e t g) n x q)
  phi-fine es e j r k h = h

  phis-fine : (es : List RegionEdge) → Each EdgeFine es → (ls : List LineText) (k : Knowledge) → KnowsFine k → KnowsFine (with_phis es ls k)
  phis-fine es e [] k h = h
  phis-fine es e (l ∷ ls) k h = phi-fine es e l.inst l.result (with_phis es ls k) (phis-fine es e ls k h)

  pub known-at-fine : (es : List RegionEdge) (ls : List LineText) → Each EdgeFine es → KnowsFine (known_at es ls)
  known-at-fine es ls e = phis-fine es e ls (joined es) (joined-fine es e)
