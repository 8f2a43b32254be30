-- The instructions of an entity have no fault: each operand stands earlier, is of the kind that its place takes, and fits the row.
use Rattle.std.proofs.Common.{◌≡◌, ℕ, ◌+◌, ◌*◌, ◌≤◌, Bool, true, false, ◌||◌, if◌then◌else◌, List, [], ◌∷◌, ◌++◌, length, map, Some, None, slice_get, refl, ap, sym, ◌∙◌, subst, arith, length-append, append_assoc, append-nil}
use Rattle.std.specs.Option.{option_and_then}
use Rattle.lh_types.specs.Types.{TypeTree, int_type, time_type, void_type, array_type, tuple_type, signal_type, pointer_type, row_of, IsData, AreData}
use Rattle.lh_types.specs.declared.op.Op.{Op}
use Rattle.lh_types.specs.declared.op.Op.TheVariants as op
use Rattle.lh_unit.specs.Contents.{InstText, LineText, ArgText, UnitText, args_define, lines_define, is_result_name}
use Rattle.lh_unit_names.specs.Names.{same_name}
use Rattle.lh_unit.specs.Kinds.{Kind, a_datum, a_time, a_signal, kind_of, result_kind, value_kind, data_needed, signal_needed, time_needed, takes, Use, used, all_used, step_need, uses}
use Rattle.lh_unit.specs.Typing.{value_type, result_type, line_giving, or_else, first_type}
use Rattle.lh_unit.specs.TypingRows.{types_fit}
use Rattle.lh_unit.specs.Within.{Each}
use Rattle.lh_unit.proofs.ById.{line_giving-later}
use Rattle.lh_unit_names.proofs.NameLists.{same_name-refl}
use Rattle.lh_text_laws.specs.Printable.{results_repeat}
use Rattle.lh_text_laws.proofs.Printed.{results-push}
use Rattle.lh_term.specs.Tree.{Tree}
use Rattle.lh_term.specs.Types.{TakesTypes, type_of}
use Rattle.lh_term.proofs.TermTypes.{gives_is}
use Rattle.lh_term.specs.declared.part.Part.{Part}
use Rattle.lh_emit_def.specs.Names.{value_name, free_number}
use Rattle.lh_emit_def.specs.Emitted.{Emitted, gives, next_name, term_name, bare}
use Rattle.lh_emit_def.specs.Needs.{types_of_all, each_typed, first_typed, operation_text}
use Rattle.lh_emit_def.proofs.ValueNames.{names_differ, free_from-within}
use Rattle.lh_emit_def.proofs.PassState.{Frame, HasFewArgs, source, Begins, MayName, next-may, new-type}
use Rattle.lh_verify_laws.proofs.ValuesLaw.{arg_none}

-- a value of this type is there
pub record Named (y : UnitText) (ls : List LineText) (n : List ℕ) (t : TypeTree) : Type 0 where
  pub type : value_type y n ≡ Some t
  pub kind : value_kind y n ≡ kind_of t
  pub there : (args_define n y.args || lines_define n ls) ≡ true

-- an operand stands earlier, and is of a kind that its place takes
pub record UseRight (y : UnitText) (ls : List LineText) (x : Use) : Type 0 where
  pub of : Kind
  pub kind : value_kind y x.value ≡ Some of
  pub takes : takes x.need of ≡ true
  pub there : (args_define x.value y.args || lines_define x.value ls) ≡ true

pub record IsRight (y : UnitText) (ls : List LineText) (i : InstText) : Type 0 where
  pub uses : Each (UseRight y ls) (uses i)
  pub types : types_fit y i ≡ true

-- each of these lines, where some stand before them
abbrev pub AllRight : UnitText → (before : List LineText) → List LineText → Type 0
AllRight y seen [] = Unit {0}
AllRight y seen (l ∷ more) = IsRight y seen l.inst × AllRight y (seen ++ l ∷ []) more

pub right-push : (y : UnitText) (seen ls : List LineText) (l : LineText) → AllRight y seen ls → IsRight y (seen ++ ls) l.inst → AllRight y seen (ls ++ l ∷ [])
right-push y seen [] l h k = (subst (λ z. IsRight y z l.inst) (append-nil seen) k, tt)
right-push y seen (x ∷ ls) l h k = (h.0, right-push y (seen ++ x ∷ []) ls l h.1 (subst (λ z. IsRight y z l.inst) (sym (append_assoc seen (x ∷ []) ls)) k))

-- ---- results stand once

-- what no line gives, no line defines
not-given : (n : List ℕ) (ls : List LineText) → line_giving n ls ≡ None → lines_define n ls ≡ false
not-given n [] h = refl
not-given n (x ∷ ls) h = at (is_result_name n x.result) refl (not-given n ls)
  where
    at : (b : Bool) → is_result_name n x.result ≡ b → (line_giving n ls ≡ None → lines_define n ls ≡ false) → lines_define n (x ∷ ls) ≡ false
    at true q r = let e : Some x.inst ≡ None = (rw q at h) in absurd cc
    at false q r = rw q (r (rw q at h))

-- ---- what stands earlier stands earlier still

defined-before : (n : List ℕ) (ls : List LineText) (l : LineText) → lines_define n ls ≡ true → lines_define n (ls ++ l ∷ []) ≡ true
defined-before n [] l h = absurd cc
defined-before n (x ∷ ls) l h = at (is_result_name n x.result) refl (defined-before n ls l)
  where
    at : (b : Bool) → is_result_name n x.result ≡ b → (lines_define n ls ≡ true → lines_define n (ls ++ l ∷ []) ≡ true) → lines_define n ((x ∷ ls) ++ l ∷ []) ≡ true
    at true q r = rw q refl
    at false q r = rw q (r (rw q at h))

defined-last : (n : List ℕ) (ls : List LineText) (i : InstText) → lines_define n (ls ++ record { result = Some n; inst = i } ∷ []) ≡ true
defined-last n [] i = ap (λ b. b || false) (same_name-refl n)
defined-last n (x ∷ ls) i = at (is_result_name n x.result) (defined-last n ls i)
  where
    at : (b : Bool) → lines_define n (ls ++ record { result = Some n; inst = i } ∷ []) ≡ true → (b || lines_define n (ls ++ record { result = Some n; inst = i } ∷ [])) ≡ true
    at true r = refl
    at false r = r

there-before : (a : Bool) (n : List ℕ) (ls : List LineText) (l : LineText) → (a || lines_define n ls) ≡ true → (a || lines_define n (ls ++ l ∷ [])) ≡ true
there-before true n ls l h = refl
there-before false n ls l h = defined-before n ls l h

there-last : (a : Bool) (n : List ℕ) (ls : List LineText) (i : InstText) → (a || lines_define n (ls ++ record { result = Some n; inst = i } ∷ [])) ≡ true
there-last true n ls i = refl
there-last false n ls i = defined-last n ls i

pub named-before : (y : UnitText) (ls : List LineText) (l : LineText) (n : List ℕ) (t : TypeTree) → Named y ls n t → Named y (ls ++ l ∷ []) n t
named-before y ls l n t h = record { type = h.type; kind = h.kind; there = there-before (args_define n y.args) n ls l h.there }

-- ---- kinds

pub data-kind : (t : TypeTree) → IsData t → kind_of t ≡ Some a_datum
data-kind (int_type n) d = refl
data-kind (array_type n t) d = refl
data-kind (tuple_type r) d = refl
data-kind time_type d = absurd d
data-kind void_type d = absurd d
data-kind (signal_type t) d = absurd d
data-kind (pointer_type t) d = absurd d

step-data : (t : TypeTree) → IsData t → step_need (Some t) ≡ data_needed
step-data (int_type n) d = refl
step-data (array_type n t) d = refl
step-data (tuple_type r) d = refl
step-data time_type d = absurd d
step-data void_type d = absurd d
step-data (signal_type t) d = absurd d
step-data (pointer_type t) d = absurd d

-- an operand of a data type
pub data-right : (y : UnitText) (ls : List LineText) (n : List ℕ) (t : TypeTree) → Named y ls n t → IsData t → UseRight y ls (used data_needed n)
data-right y ls n t h d = record { of = a_datum; kind = h.kind ∙ data-kind t d; takes = refl; there = h.there }

pub signal-right : (y : UnitText) (ls : List LineText) (n : List ℕ) (t : TypeTree) → Named y ls n (signal_type t) → UseRight y ls (used signal_needed n)
signal-right y ls n t h = record { of = a_signal; kind = h.kind; takes = refl; there = h.there }

pub time-right : (y : UnitText) (ls : List LineText) (n : List ℕ) → Named y ls n time_type → UseRight y ls (used time_needed n)
time-right y ls n h = record { of = a_time; kind = h.kind; takes = refl; there = h.there }

module _ (y : UnitText) (ls : List LineText) (e : Emitted) where
  -- a term that was emitted, of a data type
  abbrev pub TermThere : Tree → Type 0
  TermThere t = Named y ls (term_name e t) (type_of t)

  each-right : (ts : List Tree) → Each TermThere ts → AreData (row_of (types_of_all ts)) → Each (UseRight y ls) (all_used data_needed (each_typed e ts))
  each-right [] h d = tt
  each-right (t ∷ ts) h d = (data-right y ls (term_name e t) (type_of t) h.0 d.0, each-right ts h.1 d.1)

  bare-right : (ts : List Tree) → Each TermThere ts → AreData (row_of (types_of_all ts)) → Each (UseRight y ls) (all_used data_needed (map (λ u. bare (term_name e u)) ts))
  bare-right [] h d = tt
  bare-right (t ∷ ts) h d = (data-right y ls (term_name e t) (type_of t) h.0 d.0, bare-right ts h.1 d.1)

  first-right : (w : TypeTree) (ts : List Tree) → Each TermThere ts → AreData (row_of (types_of_all ts)) → Each (UseRight y ls) (all_used data_needed (first_typed e w ts))
  first-right w [] h d = tt
  first-right w (t ∷ ts) h d = (data-right y ls (term_name e t) (type_of t) h.0 d.0, bare-right ts h.1 d.1)

  part-right : (w : TypeTree) (ts : List Tree) → IsData w → Each TermThere ts → AreData (row_of (types_of_all ts)) →
      Each (UseRight y ls) (all_used (step_need (first_type (first_typed e w ts))) (first_typed e w ts))
  part-right w [] i h d = tt
  part-right w (t ∷ ts) i h d = subst (λ n. Each (UseRight y ls) (all_used n (first_typed e w (t ∷ ts)))) (sym (step-data w i)) (first-right w (t ∷ ts) h d)

  -- the operands of an operation on terms
  pub operands-right : (o : Op) (ts : List Tree) → TakesTypes o (types_of_all ts) → Each TermThere ts → Each (UseRight y ls) (uses (operation_text e o ts))
  operands-right (op.Extf i) ts k h = part-right _ ts (subst IsData (sym (gives_is (op.Extf i) (types_of_all ts) k)) k.is_data) h k.data_types
  operands-right (op.Exts i n) ts k h = part-right _ ts (subst IsData (sym (gives_is (op.Exts i n) (types_of_all ts) k)) k.is_data) h k.data_types
  operands-right op.Shl ts k h = each-right ts h k.data_types
  operands-right op.Shr ts k h = each-right ts h k.data_types
  operands-right op.Tuple ts k h = each-right ts h k.data_types
  operands-right o ts k h = first-right _ ts h k.data_types

-- ---- what was emitted

module _ (f : Frame) (few : HasFewArgs f.unit) where
  pub record Typed (y : UnitText) (e : Emitted) : Type 0 where
    pub terms : (t : Tree) (n : List ℕ) → e.terms t ≡ Some n → Named y e.lines n (type_of t)
    pub parts : (p : Part) (n : List ℕ) → e.parts p ≡ Some n → Named y e.lines n (signal_type p.ty)
    pub args : (k : ℕ) (a : ArgText) (t : TypeTree) → slice_get f.unit.args k ≡ Some a → a.ty ≡ signal_type t → Named y e.lines a.name (signal_type t)
    pub new : (j : ℕ) → MayName f few e.next j → line_giving (value_name j) e.lines ≡ None
    pub room : e.next ≤ length e.lines * (length f.unit.args + 1)
    pub right : AllRight y [] e.lines
    pub once : results_repeat f.unit.args [] e.lines ≡ false

  -- the kind of a value that is new
  new-kind : (y : UnitText) (ls : List LineText) (n : List ℕ) (i : InstText) → Begins f few y (ls ++ record { result = Some n; inst = i } ∷ []) →
      args_define n f.unit.args ≡ false → line_giving n ls ≡ None → value_kind y n ≡ result_kind i
  new-kind y ls n i b d g =
      let g1 : line_giving n ((ls ++ record { result = Some n; inst = i } ∷ []) ++ b.more) ≡ Some i =
      ap (line_giving n) (append_assoc ls (record { result = Some n; inst = i } ∷ []) b.more)
      ∙ line_giving-later n ls _ g ∙ ap (λ x. if x then Some i else line_giving n b.more) (same_name-refl n) in
      ap (λ x. value_kind x n) b.is
      ∙ ap (λ x. or_else (option_and_then (λ (a : ArgText). kind_of a.ty) x) (option_and_then result_kind (or_else (line_giving n ((ls ++ record { result = Some n; inst = i } ∷ []) ++ b.more)) None)))
      (arg_none n f.unit.args d)
      ∙ ap (λ x. option_and_then result_kind (or_else x None)) g1

  module _ (y : UnitText) (e : Emitted) (i : InstText) (b : Begins f few y (gives (source f few) i e).lines) (m : Typed y e) (r : IsRight y e.lines i) where
    abbrev name : List ℕ
    name = next_name (source f few) e

    abbrev number : ℕ
    number = free_number f.unit.args e.next

    abbrev line : LineText
    line = record { result = Some name; inst = i }

    may : MayName f few e.next number
    may = next-may f few y e line b m.room

    -- what is given, of this type
    pub given-named : (t : TypeTree) → result_type i ≡ Some t → result_kind i ≡ kind_of t → Named y (e.lines ++ line ∷ []) name t
    given-named t q k = record {
      type = new-type f few y e.lines name i b may.free (m.new number may) ∙ q;
      kind = new-kind y e.lines name i b may.free (m.new number may) ∙ k;
      there = there-last (args_define name y.args) name e.lines i;
    }

    later-new : (j : ℕ) → MayName f few (number + 1) j → line_giving (value_name j) (e.lines ++ line ∷ []) ≡ None
    later-new j a =
        let l : e.next ≤ number = may.later in
        let d : same_name name (value_name j) ≡ false = names_differ number j may.short a.short (λ q. omega (arith, a.later, q)) in
        line_giving-later (value_name j) e.lines (line ∷ []) (m.new j (record { later = omega (arith, l, a.later); short = a.short; free = a.free })) ∙ ap (λ x. if x then Some i else None) d

    pub gives-typed : Typed y (gives (source f few) i e)
    gives-typed = record {
      terms = λ t n p. named-before y e.lines line n _ (m.terms t n p);
      parts = λ p n q. named-before y e.lines line n _ (m.parts p n q);
      args = λ k a t p q. named-before y e.lines line a.name _ (m.args k a t p q);
      new = later-new;
      room =
          let q : length (e.lines ++ line ∷ []) ≡ length e.lines + 1 = length-append e.lines (line ∷ []) in
          let k = free_from-within f.unit.args (length f.unit.args) e.next in
          rw q (omega (arith, k.1, m.room));
      right = right-push y [] e.lines line m.right r;
      once = results-push f.unit.args [] e.lines line m.once (λ j. may.free j || not-given name e.lines (m.new number may) j);
    }
