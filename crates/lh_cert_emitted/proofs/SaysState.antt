-- What the lines of an entity say so far: under the name of each term the term read again from its leaves, under the name of each part the part.
use Rattle.std.proofs.Common.{◌≡◌, ℕ, ◌+◌, ◌*◌, ◌<◌, ◌≤◌, ◌^◌, Bool, true, false, ◌||◌, if◌then◌else◌, List, [], ◌∷◌, ◌++◌, length, Option, Some, None, slice_get, refl, ap, sym, ◌∙◌, subst, arith, length-append}
use Rattle.std.specs.List.{list_any}
use Rattle.lh_types.specs.Types.{TypeTree, signal_type}
use Rattle.lh_unit_names.specs.Names.{same_name}
use Rattle.lh_unit_names.proofs.NameLists.{same_name-is, same_name-refl}
use Rattle.lh_unit.specs.Contents.{InstText, LineText, ArgText, UnitText}
use Rattle.lh_unit.specs.Within.{Each}
use Rattle.lh_unit.proofs.Lists.{some_inj}
use Rattle.lh_term.specs.Tree.{Tree, now_of}
use Rattle.lh_term.specs.SameTree.{same_tree, same_tree-is}
use Rattle.lh_term.specs.Same.{same_part, same_part-is}
use Rattle.lh_term.specs.Parts.{whole_argument}
use Rattle.lh_term.specs.declared.part.Part.{Part}
use Rattle.lh_region_def.specs.Known.{Known, known_value, known_part, Knowledge, nothing_known, with_known, with_arguments}
use Rattle.lh_region_def.specs.Typed.{Among}
use Rattle.lh_emit_def.specs.Names.{value_name, free_number}
use Rattle.lh_emit_def.specs.Emitted.{PartStep, Source, source_of, Emitted, gives, puts, gives_term, next_name, with_term, with_part}
use Rattle.lh_emit_def.proofs.Induction.{IsNamed}
use Rattle.lh_emit_def.proofs.ValueNames.{names_differ, free_from-within}
use Rattle.lh_emit_def.proofs.PassState.{Frame, HasFewArgs, Begins, MayName, next-may, begins-before}
use Rattle.lh_cert_terms.specs.Rebuilding.{rebuilt}
use Rattle.lh_cert_rows.specs.Rows.{EntityRow, driven_by, registered}
use Rattle.lh_cert_rows.specs.Reading.{EntityText, reads_line, reads_lines}
use Rattle.lh_cert_def.specs.Headers.{adds_hierarchy, is_drive, is_register, has_hierarchy, has_drive, has_register}

-- ---- kinds of lines and rows

abbrev pub is_drive_row : EntityRow → Bool
is_drive_row (driven_by d) = true
is_drive_row (registered p gs) = false

abbrev pub is_register_row : EntityRow → Bool
is_register_row (driven_by d) = false
is_register_row (registered p gs) = true

-- an instruction that is no `sig`, `inst`, `drv` or `reg`
abbrev pub IsQuiet : InstText → Type 0
IsQuiet i = (adds_hierarchy i ≡ false) × (is_drive i ≡ false) × (is_register i ≡ false)

any-none : {A : Type 0} (f : A → Bool) (xs : List A) (x : A) → f x ≡ false → list_any f (xs ++ x ∷ []) ≡ list_any f xs
any-none f [] x h = rw h refl
any-none f (y ∷ ys) x h = ap (λ b. f y || b) (any-none f ys x h)

any-one : {A : Type 0} (f : A → Bool) (xs : List A) (x : A) → list_any f (xs ++ x ∷ []) ≡ (list_any f xs || f x)
any-one f [] x = ap (λ b. b) (or-none (f x))
  where
    or-none : (b : Bool) → (b || false) ≡ (false || b)
    or-none true = refl
    or-none false = refl
any-one f (y ∷ ys) x = ap (λ b. f y || b) (any-one f ys x) ∙ or-assoc (f y) (list_any f ys) (f x)
  where
    or-assoc : (a b c : Bool) → (a || (b || c)) ≡ ((a || b) || c)
    or-assoc true b c = refl
    or-assoc false b c = refl

any-same : {A B : Type 0} (f : A → Bool) (g : B → Bool) (xs : List A) (ys : List B) (x : A) (y : B) → list_any f xs ≡ list_any g ys → f x ≡ g y → list_any f (xs ++ x ∷ []) ≡ list_any g (ys ++ y ∷ [])
any-same f g xs ys x y h k = any-one f xs x ∙ (λ i. h i || k i) ∙ sym (any-one g ys y)

-- lines one after the other
pub read-then : (e : EntityText) (xs ys : List LineText) → reads_lines e (xs ++ ys) ≡ reads_lines (reads_lines e xs) ys
read-then e [] ys = refl
read-then e (x ∷ xs) ys = read-then (reads_line e x.inst x.result) xs ys

module _ (u : UnitText) (steps : Part → List PartStep) (few : HasFewArgs u) (Good : Part → Type 0) where
  -- an instance, of which only the unit matters
  abbrev pub frame : Frame
  frame = record { unit = u; steps = steps; args = []; now = []; memory = None; at = record { fs = 0; delta = 0; eps = 0 } }

  abbrev pub source : Source
  source = source_of u steps

  -- before the first line, and after some lines
  abbrev pub begun : EntityText
  begun = record { known = with_arguments nothing_known 0 u.args; probes = []; rows = [] }

  abbrev pub said : List LineText → EntityText
  said ls = reads_lines begun ls

  pub record Says (rows : List EntityRow) (e : Emitted) : Type 0 where
    pub rows_are : (said e.lines).rows ≡ rows
    pub terms : (t : Tree) (n : List ℕ) → e.terms t ≡ Some n → (said e.lines).known n ≡ Some (known_value (rebuilt t))
    pub parts : (p : Part) (n : List ℕ) → e.parts p ≡ Some n → (said e.lines).known n ≡ Some (known_part p)
    pub args : (k : ℕ) (a : ArgText) (t : TypeTree) → slice_get u.args k ≡ Some a → a.ty ≡ signal_type t → (said e.lines).known a.name ≡ Some (known_part (whole_argument k t))
    pub new : (j : ℕ) → MayName frame few e.next j → (said e.lines).known (value_name j) ≡ None
    pub room : e.next ≤ length e.lines * (length u.args + 1)
    pub probed : Each Good (said e.lines).probes
    pub asked : (p : Part) → IsNamed e (now_of p) → Among p (said e.lines).probes
    pub hierarchy : has_hierarchy e.lines ≡ false
    pub drives : has_drive e.lines ≡ list_any is_drive_row rows
    pub registers : has_register e.lines ≡ list_any is_register_row rows

  -- of every entity that begins so
  abbrev pub Inv : List EntityRow → Emitted → Type 0
  Inv rows e = (y : UnitText) → Begins frame few y e.lines → Says rows e

  -- the instruction says this of its result, and these parts are probed then
  abbrev pub SaysKnown : InstText → Known → List Part → EntityText → Type 0
  SaysKnown i x ps st = (n : List ℕ) → reads_line st i (Some n) ≡ record { known = with_known st.known n x; probes = ps; rows = st.rows }

  -- what is known stays known under its own name
  still-known : (k : Knowledge) (n m : List ℕ) (x y : Known) → k m ≡ None → k n ≡ Some x → with_known k m y n ≡ Some x
  still-known k n m x y q p = at (same_name m n) refl
    where
      at : (b : Bool) → same_name m n ≡ b → with_known k m y n ≡ Some x
      at true s = let d : k n ≡ None = ap k (sym (same_name-is m n s)) ∙ q in absurd cc
      at false s = rw s p

  module _ (rows : List EntityRow) (y : UnitText) (e : Emitted) (i : InstText) (x : Known) (ps : List Part) (b : Begins frame few y (gives source i e).lines) (m : Says rows e)
      (g : SaysKnown i x ps (said e.lines)) (good : Each Good ps) (on : (p : Part) → Among p (said e.lines).probes → Among p ps) (quiet : IsQuiet i) where
    abbrev name : List ℕ
    name = next_name source e

    abbrev number : ℕ
    number = free_number u.args e.next

    abbrev line : LineText
    line = record { result = Some name; inst = i }

    abbrev before : EntityText
    before = said e.lines

    passed : said (e.lines ++ line ∷ []) ≡ record { known = with_known before.known name x; probes = ps; rows = before.rows }
    passed = read-then begun e.lines (line ∷ []) ∙ g name

    may : MayName frame few e.next number
    may = next-may frame few y e line b m.room

    known-on : (n : List ℕ) (z : Known) → before.known n ≡ Some z → (said (e.lines ++ line ∷ [])).known n ≡ Some z
    known-on n z p = ap (λ (q : EntityText). q.known n) passed ∙ still-known before.known n name z x (m.new number may) p

    pub known-new : (said (e.lines ++ line ∷ [])).known name ≡ Some x
    known-new = ap (λ (q : EntityText). q.known name) passed ∙ ap (λ c. if c then Some x else before.known name) (same_name-refl name)

    pub among-new : (p : Part) → Among p ps → Among p (said (e.lines ++ line ∷ [])).probes
    among-new p h = subst (λ (z : List Part). Among p z) (sym (ap (λ (q : EntityText). q.probes) passed)) h

    later-new : (j : ℕ) → MayName frame few (number + 1) j → (said (e.lines ++ line ∷ [])).known (value_name j) ≡ None
    later-new j a =
        let l : e.next ≤ number = may.later in
        let d : same_name name (value_name j) ≡ false = names_differ number j may.short a.short (λ q. omega (arith, a.later, q)) in
        let o : before.known (value_name j) ≡ None = m.new j (record { later = omega (arith, l, a.later); short = a.short; free = a.free }) in
        ap (λ (q : EntityText). q.known (value_name j)) passed ∙ ap (λ c. if c then Some x else before.known (value_name j)) d ∙ o

    room-on : number + 1 ≤ length (e.lines ++ line ∷ []) * (length u.args + 1)
    room-on =
        let q : length (e.lines ++ line ∷ []) ≡ length e.lines + 1 = length-append e.lines (line ∷ []) in
        let k = free_from-within u.args (length u.args) e.next in
        rw q (omega (arith, k.1, m.room))

    pub gives-says : Says rows (gives source i e)
    gives-says = record {
      rows_are = ap (λ (q : EntityText). q.rows) passed ∙ m.rows_are;
      terms = λ t n p. known-on n _ (m.terms t n p);
      parts = λ p n q. known-on n _ (m.parts p n q);
      args = λ k a t p q. known-on a.name _ (m.args k a t p q);
      new = later-new;
      room = room-on;
      probed = subst (λ (z : List Part). Each Good z) (sym (ap (λ (q : EntityText). q.probes) passed)) good;
      asked = λ p n. among-new p (on p (m.asked p (record { name = n.name; is = n.is })));
      hierarchy = any-none (λ (l : LineText). adds_hierarchy l.inst) e.lines line quiet.0 ∙ m.hierarchy;
      drives = any-none (λ (l : LineText). is_drive l.inst) e.lines line quiet.1 ∙ m.drives;
      registers = any-none (λ (l : LineText). is_register l.inst) e.lines line quiet.2 ∙ m.registers;
    }

  -- a term that is known has a name
  pub names-term : (rows : List EntityRow) (e : Emitted) (t : Tree) (n : List ℕ) → Says rows e → (said e.lines).known n ≡ Some (known_value (rebuilt t)) →
      ((p : Part) → t ≡ now_of p → Among p (said e.lines).probes) → Says rows (record e { terms = with_term e.terms t n })
  names-term rows e t n m h w = record {
    rows_are = m.rows_are;
    terms = λ x k p. at x k p (same_tree t x) refl;
    parts = m.parts;
    args = m.args;
    new = m.new;
    room = m.room;
    probed = m.probed;
    asked = λ p k. there p k (same_tree t (now_of p)) refl;
    hierarchy = m.hierarchy;
    drives = m.drives;
    registers = m.registers;
  }
    where
      at : (x : Tree) (k : List ℕ) → (if same_tree t x then Some n else e.terms x) ≡ Some k → (b : Bool) → same_tree t x ≡ b → (said e.lines).known k ≡ Some (known_value (rebuilt x))
      at x k p true q =
          let a : n ≡ k = some_inj n k (rw q at p) in
          subst (λ (z : Tree). (said e.lines).known k ≡ Some (known_value (rebuilt z))) (same_tree-is t x q)
          (subst (λ (z : List ℕ). (said e.lines).known z ≡ Some (known_value (rebuilt t))) a h)
      at x k p false q = m.terms x k (rw q at p)

      there : (p : Part) → IsNamed (record e { terms = with_term e.terms t n }) (now_of p) → (b : Bool) → same_tree t (now_of p) ≡ b → Among p (said e.lines).probes
      there p k true q = w p (same_tree-is t (now_of p) q)
      there p k false q = m.asked p (record { name = k.name; is = sym (ap (λ c. if c then Some n else e.terms (now_of p)) q) ∙ k.is })

  -- so has a part
  pub names-part : (rows : List EntityRow) (e : Emitted) (p : Part) (n : List ℕ) → Says rows e → (said e.lines).known n ≡ Some (known_part p) → Says rows (record e { parts = with_part e.parts p n })
  names-part rows e p n m h = record {
    rows_are = m.rows_are;
    terms = m.terms;
    parts = λ x k q. at x k q (same_part p x) refl;
    args = m.args;
    new = m.new;
    room = m.room;
    probed = m.probed;
    asked = λ q k. m.asked q (record { name = k.name; is = k.is });
    hierarchy = m.hierarchy;
    drives = m.drives;
    registers = m.registers;
  }
    where
      at : (x : Part) (k : List ℕ) → (if same_part p x then Some n else e.parts x) ≡ Some k → (b : Bool) → same_part p x ≡ b → (said e.lines).known k ≡ Some (known_part x)
      at x k q true r =
          let a : n ≡ k = some_inj n k (rw r at q) in
          subst (λ (z : Part). (said e.lines).known k ≡ Some (known_part z)) (same_part-is p x r)
          (subst (λ (z : List ℕ). (said e.lines).known z ≡ Some (known_part p)) a h)
      at x k q false r = m.parts x k (rw r at q)

  -- an instruction that gives the value of a term
  pub term-says : (rows : List EntityRow) (y : UnitText) (e : Emitted) (t : Tree) (i : InstText) (ps : List Part) → Begins frame few y (gives source i e).lines → Says rows e →
      SaysKnown i (known_value (rebuilt t)) ps (said e.lines) → Each Good ps → ((p : Part) → Among p (said e.lines).probes → Among p ps) → ((p : Part) → t ≡ now_of p → Among p ps) →
      IsQuiet i → Says rows (gives_term source t i e)
  term-says rows y e t i ps b m g good on w quiet =
      names-term rows (gives source i e) t (next_name source e) (gives-says rows y e i _ ps b m g good on quiet) (known-new rows y e i _ ps b m g good on quiet)
      (λ p q. among-new rows y e i _ ps b m g good on quiet p (w p q))

  -- an instruction that gives none, and says one more row
  pub puts-says : (rows : List EntityRow) (r : EntityRow) (e : Emitted) (i : InstText) → Says rows e →
      reads_line (said e.lines) i None ≡ record { known = (said e.lines).known; probes = (said e.lines).probes; rows = rows ++ r ∷ [] } →
      adds_hierarchy i ≡ false → is_drive i ≡ is_drive_row r → is_register i ≡ is_register_row r → Says (rows ++ r ∷ []) (puts i e)
  puts-says rows r e i m g a b c =
      let line : LineText = record { result = None; inst = i } in
      let passed : said (e.lines ++ line ∷ []) ≡ record { known = (said e.lines).known; probes = (said e.lines).probes; rows = rows ++ r ∷ [] } = read-then begun e.lines (line ∷ []) ∙ g in
      let on = λ (n : List ℕ). ap (λ (q : EntityText). q.known n) passed in
      let same = sym (ap (λ (q : EntityText). q.probes) passed) in
      let q : length (e.lines ++ line ∷ []) ≡ length e.lines + 1 = length-append e.lines (line ∷ []) in
      record {
        rows_are = ap (λ (z : EntityText). z.rows) passed;
        terms = λ t n p. on n ∙ m.terms t n p;
        parts = λ p n h. on n ∙ m.parts p n h;
        args = λ k a t p s. on a.name ∙ m.args k a t p s;
        new = λ j a. on (value_name j) ∙ m.new j a;
        room = rw q (omega (arith, m.room));
        probed = subst (λ (z : List Part). Each Good z) same m.probed;
        asked = λ p n. subst (λ (z : List Part). Among p z) same (m.asked p (record { name = n.name; is = n.is }));
        hierarchy = any-none (λ (l : LineText). adds_hierarchy l.inst) e.lines line a ∙ m.hierarchy;
        drives = any-same (λ (l : LineText). is_drive l.inst) is_drive_row e.lines rows line r m.drives b;
        registers = any-same (λ (l : LineText). is_register l.inst) is_register_row e.lines rows line r m.registers c;
      }
