-- What an entity senses: the parts that it probes, by what it holds without any probe.
use Rattle.std.proofs.Common.{◌≡◌, ℕ, ◌+◌, ◌*◌, ◌≤◌, Bool, true, false, if◌then◌else◌, List, [], ◌∷◌, ◌++◌, length, map, Option, Some, None, slice_get, unwrap_or, refl, ap, sym, ◌∙◌, subst, arith, length-append, append-nil, inl, inr, ◌⊎◌}
use Rattle.std.specs.Option.{option_and_then, option_map_or}
use Rattle.std.proofs.lemmas.List.{map-append}
use Rattle.lh_types.specs.Types.{TypeTree, signal_type}
use Rattle.lh_types.specs.declared.part.Range.{Range}
use Rattle.lh_unit.specs.Contents.{InstText, const_text, pure_text, prb_text, LineText, ArgText, UnitText}
use Rattle.lh_unit_names.specs.Names.{same_name}
use Rattle.lh_unit.specs.Held.{Held, part_held, Env, as_part, part_at, nothing_held, with_args}
use Rattle.lh_unit.specs.Hierarchy.{if_held, static_of, static_from, part_if_probe, probed_parts}
use Rattle.lh_unit.specs.Typing.{value_type, result_type}
use Rattle.lh_unit.specs.Within.{Each}
use Rattle.lh_unit_names.proofs.NameLists.{same_name-refl}
use Rattle.lh_unit.proofs.Lists.{some_inj}
use Rattle.lh_unit.proofs.ById.{line_giving-later}
use Rattle.lh_term.specs.Tree.{Tree, constant, past_of, now_of}
use Rattle.lh_term.specs.SameTree.{same_tree, same_tree-is}
use Rattle.lh_term.specs.Same.{same_part, same_part-is}
use Rattle.lh_term.specs.declared.part.Part.{Part}
use Rattle.lh_emit_def.specs.Names.{value_name, free_number}
use Rattle.lh_emit_def.specs.Emitted.{PartStep, Emitted, gives, gives_term, next_name, with_part, takes_steps, arg_name, part_name, typed, signal}
use Rattle.lh_emit_def.specs.Needs.{operation_text}
use Rattle.lh_region_def.specs.Typed.{Among}
use Rattle.lh_emit_def.specs.Reads.{range_in}
use Rattle.lh_emit_def.specs.Ways.{StepsLead}
use Rattle.lh_term.specs.Parts.{whole_argument}
use Rattle.lh_emit_def.proofs.Induction.{IsNamed, IsNamedPart}
use Rattle.lh_emit_def.proofs.ValueNames.{names_differ, free_from-within}
use Rattle.lh_emit_def.proofs.NeedLaws.{NotProbe, IsProbe, Keeps}
use Rattle.lh_emit_def.proofs.PassState.{Frame, HasFewArgs, source, Begins, HoldsPart, IsNew, MayName, begins-before, next-may, still-held, new-type}
use Rattle.lh_emit_def.proofs.KeptByNeed.{step-operated, step-type}

pub among-before : (p : Part) (ps qs : List Part) → Among p ps → Among p (ps ++ qs)
among-before p [] qs h = absurd h
among-before p (x ∷ ps) qs (inl e) = inl e
among-before p (x ∷ ps) qs (inr h) = inr (among-before p ps qs h)

pub among-last : (p : Part) (ps : List Part) → Among p (ps ++ p ∷ [])
among-last p [] = inl refl
among-last p (x ∷ ps) = inr (among-last p ps)

pub each-push : (P : Part → Type 0) (ps : List Part) (p : Part) → Each P ps → P p → Each P (ps ++ p ∷ [])
each-push P [] p h k = (k, tt)
each-push P (x ∷ ps) p h k = (h.0, each-push P ps p h.1 k)

pub static-then : (u : UnitText) (xs ys : List LineText) (e : Env) → static_from u e (xs ++ ys) ≡ static_from u (static_from u e xs) ys
static-then u [] ys e = refl
static-then u (x ∷ xs) ys e = static-then u xs ys (if_held e x.result (static_of u e x.inst))

pub probed-then : (e : Env) (xs ys : List LineText) → probed_parts e (xs ++ ys) ≡ probed_parts e xs ++ probed_parts e ys
probed-then e [] ys = refl
probed-then e (x ∷ xs) ys = ap (part_if_probe e x.inst) (probed-then e xs ys) ∙ more e x.inst (probed_parts e xs) (probed_parts e ys)
  where
    more : (e : Env) (i : InstText) (ps qs : List Range) → part_if_probe e i (ps ++ qs) ≡ part_if_probe e i ps ++ qs
    more e (prb_text s) ps qs = at (part_at e s.value)
      where
        at : (o : Option Range) → option_map_or (λ r. r ∷ (ps ++ qs)) o (ps ++ qs) ≡ option_map_or (λ r. r ∷ ps) o ps ++ qs
        at None = refl
        at (Some r) = refl
    more e _ ps qs = refl

module _ (f : Frame) (few : HasFewArgs f.unit) where
  abbrev pub first : Env
  first = with_args nothing_held f.unit.args (map part_held f.args)

  -- what is held without any probe after these instructions
  abbrev pub static : UnitText → List LineText → Env
  static y ls = static_from y first ls

  -- the parts that were emitted have their names there
  abbrev pub Follows : Env → Emitted → Type 0
  Follows x e = (p : Part) (n : List ℕ) → e.parts p ≡ Some n → x n ≡ Some (part_held (range_in f.args p))

  -- what is held without any probe, and what was probed
  pub record Senses (ps : List Part) (y : UnitText) (e : Emitted) : Type 0 where
    pub parts : (p : Part) (n : List ℕ) → e.parts p ≡ Some n → HoldsPart f few y (static y e.lines) n p
    pub args : (k : ℕ) (a : ArgText) (t : TypeTree) → slice_get f.unit.args k ≡ Some a → a.ty ≡ signal_type t → HoldsPart f few y (static y e.lines) a.name (record { arg = k; lo = 0; ty = t })
    pub new : (j : ℕ) → MayName f few e.next j → IsNew f few (static y e.lines) e.lines j
    pub room : e.next ≤ length e.lines * (length f.unit.args + 1)

  pub record Probes (Good : Part → Type 0) (e : Emitted) : Type 0 where
    pub parts : List Part
    pub good : Each Good parts
    pub all : (p : Part) → IsNamed e (now_of p) → Among p parts
    pub probed : (x : Env) → Follows x e → probed_parts x e.lines ≡ map (range_in f.args) parts
    pub senses : (y : UnitText) → Begins f few y e.lines → Senses parts y e

  -- ---- an instruction that gives a value

  module _ (ps qs : List Part) (y : UnitText) (e : Emitted) (i : InstText) (b : Begins f few y (gives (source f few) i e).lines) (m : Senses ps y e) where
    abbrev name : List ℕ
    name = next_name (source f few) e

    abbrev number : ℕ
    number = free_number f.unit.args e.next

    abbrev line : LineText
    line = record { result = Some name; inst = i }

    abbrev before : Env
    before = static y e.lines

    passed : static y (e.lines ++ line ∷ []) ≡ if_held before (Some name) (static_of y before i)
    passed = static-then y e.lines (line ∷ []) first

    may : MayName f few e.next number
    may = next-may f few y e line b m.room

    new-now : IsNew f few before e.lines number
    new-now = m.new number may

    if-held : (n : List ℕ) (o : Option Held) (x : Held) → before n ≡ Some x → if_held before (Some name) o n ≡ Some x
    if-held n None x p = p
    if-held n (Some h) x p = still-held f few before n name x h new-now.held p

    if-new : (n : List ℕ) (o : Option Held) → same_name name n ≡ false → before n ≡ None → if_held before (Some name) o n ≡ None
    if-new n None d p = p
    if-new n (Some h) d p = ap (λ z. if z then Some h else before n) d ∙ p

    held-on : (n : List ℕ) (x : Held) → before n ≡ Some x → static y (e.lines ++ line ∷ []) n ≡ Some x
    held-on n x p = ap (λ (z : Env). z n) passed ∙ if-held n (static_of y before i) x p

    pub static-on : (n : List ℕ) (p : Part) → HoldsPart f few y before n p → HoldsPart f few y (static y (e.lines ++ line ∷ [])) n p
    static-on n p x = record { held = held-on n _ x.held; type = x.type }

    pub static-new : (h : Held) → static_of y before i ≡ Some h → static y (e.lines ++ line ∷ []) name ≡ Some h
    static-new h p = ap (λ (z : Env). z name) passed ∙ ap (λ o. if_held before (Some name) o name) p ∙ ap (λ z. if z then Some h else before name) (same_name-refl name)

    pub type-is : value_type y name ≡ result_type i
    type-is = new-type f few y e.lines name i b may.free new-now.given

    later-new : (j : ℕ) → MayName f few (number + 1) j → IsNew f few (static y (e.lines ++ line ∷ [])) (e.lines ++ line ∷ []) j
    later-new j a =
        let l : e.next ≤ number = may.later in
        let d : same_name name (value_name j) ≡ false = names_differ number j may.short a.short (λ q. omega (arith, a.later, q)) in
        let o : IsNew f few before e.lines j = m.new j (record { later = omega (arith, l, a.later); short = a.short; free = a.free }) in
        record {
          held = ap (λ (z : Env). z (value_name j)) passed ∙ if-new (value_name j) (static_of y before i) d o.held;
          given = line_giving-later (value_name j) e.lines (line ∷ []) o.given ∙ ap (λ x. if x then Some i else None) d;
        }

    pub gives-senses : Senses qs y (gives (source f few) i e)
    gives-senses = record {
      parts = λ p n q. static-on n p (m.parts p n q);
      args = λ k a t p q. static-on a.name _ (m.args k a t p q);
      new = later-new;
      room =
          let q : length (e.lines ++ line ∷ []) ≡ length e.lines + 1 = length-append e.lines (line ∷ []) in
          let k = free_from-within f.unit.args (length f.unit.args) e.next in
          rw q (omega (arith, k.1, m.room));
    }

  -- a part that was not there has a name
  names-senses : (ps : List Part) (y : UnitText) (e : Emitted) (p : Part) (n : List ℕ) → Senses ps y e → HoldsPart f few y (static y e.lines) n p →
      Senses ps y (record e { parts = with_part e.parts p n })
  names-senses ps y e p n m h = record { parts = λ x k q. at x k q (same_part p x) refl; args = m.args; new = m.new; room = m.room }
    where
      at : (x : Part) (k : List ℕ) → (if same_part p x then Some n else e.parts x) ≡ Some k → (b : Bool) → same_part p x ≡ b → HoldsPart f few y (static y e.lines) k x
      at x k q true r =
          let a : n ≡ k = some_inj n k (rw r at q) in
          subst (λ (z : Part). HoldsPart f few y (static y e.lines) k z) (same_part-is p x r) (subst (λ (z : List ℕ). HoldsPart f few y (static y e.lines) z p) a h)
      at x k q false r = m.parts x k (rw r at q)

  -- what has the names of all parts has those of the ones before
  follows-before : (x : Env) (e : Emitted) (p : Part) (n : List ℕ) → e.parts p ≡ None → Follows x (record e { parts = with_part e.parts p n }) → Follows x e
  follows-before x e p n a h q k r = at (same_part p q) refl
    where
      at : (b : Bool) → same_part p q ≡ b → x k ≡ Some (part_held (range_in f.args q))
      at true s = let z : None ≡ Some k = sym a ∙ ap e.parts (same_part-is p q s) ∙ r in absurd cc
      at false s = h q k (ap (λ b. if b then Some n else e.parts q) s ∙ r)

  -- a term that is no probe
  all-on : (Good : Part → Type 0) (e : Emitted) (t : Tree) (i : InstText) → NotProbe t → (ps : List Part) → ((p : Part) → IsNamed e (now_of p) → Among p ps) →
      (p : Part) → IsNamed (gives_term (source f few) t i e) (now_of p) → Among p ps
  all-on Good e t i o ps h p n = at (same_tree t (now_of p)) refl
    where
      at : (b : Bool) → same_tree t (now_of p) ≡ b → Among p ps
      at true q = absurd (subst NotProbe (same_tree-is t (now_of p) q) o)
      at false q = h p (record { name = n.name; is = sym (ap (λ b. if b then Some (next_name (source f few) e) else e.terms (now_of p)) q) ∙ n.is })

  module _ (Good : Part → Type 0) where
    -- an instruction that probes nothing, for a term
    other-probes : (e : Emitted) (t : Tree) (i : InstText) → NotProbe t → ((x : Env) (ps : List Range) → part_if_probe x i ps ≡ ps) → Probes Good e → Probes Good (gives_term (source f few) t i e)
    other-probes e t i o k h = record {
      parts = h.parts;
      good = h.good;
      all = all-on Good e t i o h.parts h.all;
      probed = λ x w. probed-then x e.lines _ ∙ ap (λ z. probed_parts x e.lines ++ z) (k x []) ∙ append-nil (probed_parts x e.lines) ∙ h.probed x w;
      senses = λ y b. let m = gives-senses h.parts h.parts y e i b (h.senses y (begins-before f few y e.lines _ b)) in record { parts = m.parts; args = m.args; new = m.new; room = m.room };
    }

    -- a probe
    probe-probes : (e : Emitted) (p : Part) (t : Tree) → IsProbe p t → Good p → IsNamedPart e p → Probes Good e → Probes Good (gives_term (source f few) t (prb_text (signal e p)) e)
    probe-probes e p t c g n h = record {
      parts = h.parts ++ p ∷ [];
      good = each-push Good h.parts p h.good g;
      all = λ q k. at q k (same_tree t (now_of q)) refl;
      probed = λ x w.
          let z : part_at x (part_name e p) ≡ Some (range_in f.args p) = ap (λ o. part_at x (unwrap_or o [])) n.is ∙ ap (option_and_then as_part) (w p n.name n.is) in
          probed-then x e.lines _ ∙ (λ j. h.probed x w j ++ option_map_or (λ r. r ∷ []) (z j) []) ∙ sym (map-append (range_in f.args) h.parts (p ∷ []));
      senses = λ y b. let m = gives-senses h.parts (h.parts ++ p ∷ []) y e (prb_text (signal e p)) b (h.senses y (begins-before f few y e.lines _ b)) in
          record { parts = m.parts; args = m.args; new = m.new; room = m.room };
    }
      where
        by : (q : Part) → (t ≡ now_of p) ⊎ (t ≡ past_of p) → t ≡ now_of q → Among q (h.parts ++ p ∷ [])
        by q (inl a) r = let z : p ≡ q = cc in subst (λ (s : Part). Among s (h.parts ++ p ∷ [])) z (among-last p h.parts)
        by q (inr a) r = absurd cc

        at : (q : Part) → IsNamed (gives_term (source f few) t (prb_text (signal e p)) e) (now_of q) → (b : Bool) → same_tree t (now_of q) ≡ b → Among q (h.parts ++ p ∷ [])
        at q k true r = by q c.is (same_tree-is t (now_of q) r)
        at q k false r = among-before q h.parts (p ∷ []) (h.all q (record { name = k.name; is = sym (ap (λ b. if b then Some (next_name (source f few) e) else e.terms (now_of q)) r) ∙ k.is }))

    -- the steps to a part
    steps-probe : (p q : Part) (n : List ℕ) (more : List PartStep) (e : Emitted) → e.parts p ≡ None → Probes Good e →
        ((y : UnitText) → Begins f few y e.lines → HoldsPart f few y (static y e.lines) n q) → StepsLead q more p → Probes Good (takes_steps (source f few) p n more e)
    steps-probe p q n [] e a h w l = record {
      parts = h.parts;
      good = h.good;
      all = λ r k. h.all r (record { name = k.name; is = k.is });
      probed = λ x z. h.probed x (follows-before x e p n a z);
      senses = λ y b. names-senses h.parts y e p n (h.senses y b) (subst (HoldsPart f few y (static y e.lines) n) l (w y b));
    }
    steps-probe p q n (st ∷ more) e a h w l =
        let i : InstText = pure_text st.op (typed n (signal_type st.to.ty) ∷ []) in
        let before = λ (y : UnitText) (b : Begins f few y (gives (source f few) i e).lines). h.senses y (begins-before f few y e.lines _ b) in
        steps-probe p st.to (next_name (source f few) e) more (gives (source f few) i e) a
        (record {
          parts = h.parts;
          good = h.good;
          all = λ r k. h.all r (record { name = k.name; is = k.is });
          probed = λ x z. probed-then x e.lines _ ∙ append-nil (probed_parts x e.lines) ∙ h.probed x z;
          senses = λ y b. gives-senses h.parts h.parts y e i b (before y b);
        })
        (λ y b. record {
          held = static-new h.parts h.parts y e i b (before y b) _ (step-operated f few y (static y e.lines) n q st.to st.op (w y (begins-before f few y e.lines _ b)) l.0);
          type = type-is h.parts h.parts y e i b (before y b) ∙ step-type f few q st.to n st.op l.0;
        })
        l.1

    pub probes-kept : Keeps (source f few) Good (Probes Good)
    probes-kept = record {
      scalar = λ v e s t h. other-probes e (constant v) (const_text v) tt (λ x ps. refl) h;
      computed = λ o xs t e c r d n h. other-probes e t (operation_text e o xs) d (λ x ps. refl) h;
      probed = λ p t e c g n h. probe-probes e p t c g n h;
      stepped = λ p e a r h.
          let q : Part = whole_argument p.arg r.carries in
          steps-probe p q (arg_name (slice_get f.unit.args p.arg)) (f.steps p) e a h
          (λ y b. subst (λ o. HoldsPart f few y (static y e.lines) (arg_name o) q) (sym r.there) ((h.senses y b).args p.arg r.arg r.carries r.there r.signal))
          r.leads;
    }
