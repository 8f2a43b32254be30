-- The instructions of an entity fit their rows: operations on terms.
use Rattle.std.proofs.Common.{◌≡◌, ℕ, zero, suc, ◌<◌, Bool, true, false, ◌&&◌, List, [], ◌∷◌, length, map, replicate, Option, Some, refl, ap, sym, ◌∙◌, subst, arith}
use Rattle.std.specs.List.{list_all}
use Rattle.std.specs.Option.{option_map_or, option_and_then}
use Rattle.std.proofs.lemmas.Bool.{and_from}
use Rattle.lh_types.specs.Types.{TypeTree, TypeRow, int_type, time_type, void_type, array_type, tuple_type, signal_type, pointer_type, row_of, IsData, AreData, same_type}
use Rattle.lh_types.specs.Faults.{is_data}
use Rattle.lh_types.specs.Same.{same-refl}
use Rattle.lh_types.specs.Classes.{class_of}
use Rattle.lh_types.specs.ApplyTypes.{PartHasType, ClassType}
use Rattle.lh_types.specs.declared.op.Op.{Op}
use Rattle.lh_types.specs.declared.op.OpClass.{OpClass}
use Rattle.lh_types.specs.declared.op.OpClass.TheVariants as class
use Rattle.lh_types.specs.declared.part.Step.{Step}
use Rattle.lh_unit.specs.Contents.{OperandText, UnitText}
use Rattle.lh_unit.specs.Typing.{value_type, first_type, operand_types, class_type, result_type, array_made, tuple_made, if_made, with_type}
use Rattle.lh_unit.specs.TypingRows.{OperationRow, class_row, integers, alike, shifts, selects, takes_part, puts_part, elements, has_type, has_some_type, agrees, all_have, is_integer, is_array_of, type_satisfies, part_type, row_fits, operation_fits, types_fit}
use Rattle.lh_unit.specs.Within.{Each}
use Rattle.lh_types.proofs.TypeFaults.{is_data-yes, array-again, tuple-again}
use Rattle.lh_term.specs.Tree.{Tree}
use Rattle.lh_term.specs.Types.{TakesTypes, type_of, first_of, class_result, row_result}
use Rattle.lh_term.proofs.TermTypes.{class_is}
use Rattle.lh_emit_def.specs.Emitted.{Emitted, term_name, bare}
use Rattle.lh_emit_def.specs.Needs.{types_of_all, each_typed, first_typed, class_typed, operation_text}

module _ (y : UnitText) where
  pub has : (n : List ℕ) (t : TypeTree) → value_type y n ≡ Some t → has_type y t n ≡ true
  has n t h = ap (λ o. option_map_or (λ s. same_type s t) o false) h ∙ same-refl t

  pub has-part : (n : List ℕ) (o : Option TypeTree) (t : TypeTree) → o ≡ Some t → value_type y n ≡ Some t → has_some_type y o n ≡ true
  has-part n o t q h = ap (λ z. has_some_type y z n) q ∙ has n t h

  pub satisfies : (n : List ℕ) (t : TypeTree) (test : TypeTree → Bool) → value_type y n ≡ Some t → test t ≡ true → type_satisfies y test n ≡ true
  satisfies n t test h k = ap (λ o. option_map_or test o false) h ∙ k

  module _ (e : Emitted) where
    -- the value of a term has the term's type
    abbrev pub TermTyped : Tree → Type 0
    TermTyped t = value_type y (term_name e t) ≡ Some (type_of t)

    -- all have this type
    abbrev AllOf : TypeTree → List Tree → Type 0
    AllOf d ts = Each (λ t. TermTyped t × (type_of t ≡ d)) ts

    of-type : (t : Tree) (d : TypeTree) → TermTyped t → type_of t ≡ d → has_type y d (term_name e t) ≡ true
    of-type t d h q = has (term_name e t) d (h ∙ ap Some q)

    all-bare : (d : TypeTree) (ts : List Tree) → AllOf d ts → all_have y d (map (λ u. bare (term_name e u)) ts) ≡ true
    all-bare d [] h = refl
    all-bare d (t ∷ ts) h = and_from (has_type y d (term_name e t) && true) _ (and_from _ true (of-type t d h.0.0 h.0.1) refl) (all-bare d ts h.1)

    all-first : (d : TypeTree) (ts : List Tree) → AllOf d ts → all_have y d (first_typed e d ts) ≡ true
    all-first d [] h = refl
    all-first d (t ∷ ts) h = let q = of-type t d h.0.0 h.0.1 in and_from (has_type y d (term_name e t) && has_type y d (term_name e t)) _ (and_from _ _ q q) (all-bare d ts h.1)

    all-of : (d : TypeTree) (ts : List Tree) (l : List TypeTree) → types_of_all ts ≡ l → Each (λ x. x ≡ d) l → Each TermTyped ts → AllOf d ts
    all-of d ts l q k h = by ts (subst (Each (λ x. x ≡ d)) (sym q) k) h
      where
        by : (ts : List Tree) → Each (λ x. x ≡ d) (types_of_all ts) → Each TermTyped ts → AllOf d ts
        by [] k h = tt
        by (t ∷ ts) k h = ((h.0, k.0), by ts k.1 h.1)

    -- the type that is written first
    first-is : (d x : TypeTree) (ts : List Tree) (l : List TypeTree) → types_of_all ts ≡ x ∷ l → first_type (first_typed e d ts) ≡ Some d
    first-is d x [] l q = absurd cc
    first-is d x (t ∷ ts) l q = refl

    -- rows whose operands have the type that is written
    abbrev Same : (row : OperationRow) → List Tree → Type 0
    Same row ts = operation_fits y row (first_type (first_typed e (first_of (types_of_all ts)) ts)) (first_typed e (first_of (types_of_all ts)) ts) ≡ true

    same-by : (row : OperationRow) (d : TypeTree) (ts : List Tree) (l : List TypeTree) → types_of_all ts ≡ d ∷ l → (row_fits y row d (first_typed e d ts) ≡ true) → Same row ts
    same-by row d ts l q h =
        subst (λ z. operation_fits y row (first_type (first_typed e z ts)) (first_typed e z ts) ≡ true) (sym (ap first_of q))
        (ap (λ o. operation_fits y row o (first_typed e d ts)) (first-is d d ts l q) ∙ h)

    integers-fit : (n : ℕ) (ts : List Tree) (l : List TypeTree) → types_of_all ts ≡ int_type n ∷ l → Each (λ x. x ≡ int_type n) l → Each TermTyped ts → Same integers ts
    integers-fit n ts l q k h = same-by integers (int_type n) ts l q (all-first (int_type n) ts (all-of (int_type n) ts (int_type n ∷ l) q (refl, k) h))

    alike-fit : (d : TypeTree) (ts : List Tree) → IsData d → types_of_all ts ≡ d ∷ d ∷ [] → Each TermTyped ts → Same alike ts
    alike-fit d ts i q h = same-by alike d ts (d ∷ []) q (and_from (is_data d) _ (is_data-yes d i) (all-first d ts (all-of d ts (d ∷ d ∷ []) q (refl, (refl, tt)) h)))

    elements-fit : (d : TypeTree) (n : ℕ) (ts : List Tree) → IsData d → types_of_all ts ≡ replicate (suc n) d → Each TermTyped ts → Same elements ts
    elements-fit d n ts i q h = same-by elements d ts (replicate n d) q (and_from (is_data d) _ (is_data-yes d i) (all-first d ts (all-of d ts (replicate (suc n) d) q (all (suc n)) h)))
      where
        all : (n : ℕ) → Each (λ x. x ≡ d) (replicate n d)
        all zero = tt
        all (suc n) = (refl, all n)

    -- the part of a data type has a type
    data-part : (s : Step) (t r : TypeTree) → IsData t → PartHasType t s r → part_type s t ≡ Some r
    data-part s (int_type n) r d h = h
    data-part s (array_type n t) r d h = h
    data-part s (tuple_type ts) r d h = h
    data-part s time_type r d h = absurd d
    data-part s void_type r d h = absurd d
    data-part s (signal_type t) r d h = absurd d
    data-part s (pointer_type t) r d h = absurd d

    puts-fit : (s : Step) (r p : TypeTree) (ts : List Tree) → IsData r → types_of_all ts ≡ r ∷ p ∷ [] → PartHasType r s p → Each TermTyped ts → Same (puts_part s) ts
    puts-fit s r p [] i q k h = absurd cc
    puts-fit s r p (a ∷ []) i q k h = absurd cc
    puts-fit s r p (a ∷ b ∷ c ∷ more) i q k h = absurd cc
    puts-fit s r p (a ∷ b ∷ []) i q k h =
        let x : type_of a ≡ r = cc in
        let z : type_of b ≡ p = cc in
        same-by (puts_part s) r (a ∷ b ∷ []) (p ∷ []) q
        (rw (is_data-yes r i, of-type a r h.0 x) (has-part (term_name e b) (part_type s r) p (data-part s r p i k) (h.1.0 ∙ ap Some z)))

    takes-fit : (s : Step) (t r : TypeTree) (ts : List Tree) → IsData t → types_of_all ts ≡ t ∷ [] → PartHasType t s r → Each TermTyped ts →
        operation_fits y (takes_part s) (first_type (first_typed e r ts)) (first_typed e r ts) ≡ true
    takes-fit s t r [] i q k h = absurd cc
    takes-fit s t r (a ∷ b ∷ more) i q k h = absurd cc
    takes-fit s t r (a ∷ []) i q k h =
        let x : type_of a ≡ t = cc in
        ap (λ o. option_map_or (same_type r) (option_and_then (part_type s) o) false) (h.0 ∙ ap Some x)
        ∙ ap (λ o. option_map_or (same_type r) o false) (data-part s t r i k) ∙ same-refl r

    selects-fit : (n w : ℕ) (r : TypeTree) (ts : List Tree) → IsData r → types_of_all ts ≡ array_type n r ∷ int_type w ∷ [] → Each TermTyped ts →
        operation_fits y selects (first_type (first_typed e r ts)) (first_typed e r ts) ≡ true
    selects-fit n w r [] i q h = absurd cc
    selects-fit n w r (a ∷ []) i q h = absurd cc
    selects-fit n w r (a ∷ b ∷ c ∷ more) i q h = absurd cc
    selects-fit n w r (a ∷ b ∷ []) i q h =
        let x : type_of a ≡ array_type n r = cc in
        let z : type_of b ≡ int_type w = cc in
        rw (is_data-yes r i, satisfies (term_name e a) (array_type n r) (is_array_of r) (h.0 ∙ ap Some x) (same-refl r))
        (satisfies (term_name e b) (int_type w) is_integer (h.1.0 ∙ ap Some z) refl)

    shifts-fit : (n w : ℕ) (ts : List Tree) → types_of_all ts ≡ int_type n ∷ int_type n ∷ int_type w ∷ [] → Each TermTyped ts →
        operation_fits y shifts (first_type (each_typed e ts)) (each_typed e ts) ≡ true
    shifts-fit n w [] q h = absurd cc
    shifts-fit n w (a ∷ []) q h = absurd cc
    shifts-fit n w (a ∷ b ∷ []) q h = absurd cc
    shifts-fit n w (a ∷ b ∷ c ∷ d ∷ more) q h = absurd cc
    shifts-fit n w (a ∷ b ∷ c ∷ []) q h =
        let x : type_of a ≡ int_type n = cc in
        let z : type_of b ≡ int_type n = cc in
        let v : type_of c ≡ int_type w = cc in
        let p = of-type a (type_of a) h.0 refl in
        let r = of-type b (type_of a) h.1.0 (z ∙ sym x) in
        let t = of-type b (type_of b) h.1.0 refl in
        let k = of-type c (type_of c) h.1.1.0 refl in
        let i : is_integer (type_of a) ≡ true = ap is_integer x in
        rw (i, p, r, t, satisfies (term_name e c) (int_type w) is_integer (h.1.1.0 ∙ ap Some v) refl) k

    fields-fit : (ts : List Tree) → AreData (row_of (types_of_all ts)) → Each TermTyped ts → list_all (λ (o : OperandText). option_map_or is_data o.ty false && agrees y o) (each_typed e ts) ≡ true
    fields-fit [] d h = refl
    fields-fit (a ∷ ts) d h = and_from _ _ (and_from _ _ (is_data-yes (type_of a) d.0) (has (term_name e a) (type_of a) h.0)) (fields-fit ts d.1 h.1)

    -- ---- an operation on terms fits its row, and gives the type of its row

    abbrev pub Fits : Op → List Tree → Type 0
    Fits o ts = types_fit y (operation_text e o ts) ≡ true

    nonempty : (n : ℕ) (d : TypeTree) → 0 < n → (m : ℕ) × (n ≡ suc m)
    nonempty zero d h = absurd (omega (arith, h))
    nonempty (suc m) d h = (m, refl)

    -- operands as an operation of the class writes them
    abbrev FitsClass : OpClass → List Tree → Type 0
    FitsClass c ts = operation_fits y (class_row c) (first_type (class_typed e c ts)) (class_typed e c ts) ≡ true

    tuple-fits : (ts : List Tree) → 0 < length (types_of_all ts) → AreData (row_of (types_of_all ts)) → Each TermTyped ts → FitsClass class.Tuple ts
    tuple-fits [] n d h = absurd (omega (arith, n))
    tuple-fits (t ∷ ts) n d h = fields-fit (t ∷ ts) d h

    -- the type that is written is that of what is given
    by-result : (row : OperationRow) (r d : TypeTree) (ts : List Tree) → d ≡ r → operation_fits y row (first_type (first_typed e r ts)) (first_typed e r ts) ≡ true →
        operation_fits y row (first_type (first_typed e d ts)) (first_typed e d ts) ≡ true
    by-result row r d ts q h = subst (λ z. operation_fits y row (first_type (first_typed e z ts)) (first_typed e z ts) ≡ true) (sym q) h

    class-fits : (c : OpClass) (ts : List Tree) (r : TypeTree) → AreData (row_of (types_of_all ts)) → ClassType c (types_of_all ts) r → IsData r → Each TermTyped ts → FitsClass c ts
    class-fits class.Unary ts r d k i h = integers-fit k.0 ts [] k.1 tt h
    class-fits class.Binary ts r d k i h = integers-fit k.0 ts (int_type k.0 ∷ []) k.1 (refl, tt) h
    class-fits class.Relation ts r d k i h = integers-fit k.0 ts (int_type k.0 ∷ []) k.1 (refl, tt) h
    class-fits class.Equality ts r d k i h = alike-fit k.0 ts (subst (λ l. AreData (row_of l)) k.1 d).0 k.1 h
    class-fits class.Shift ts r d k i h = shifts-fit k.0 k.1 ts k.2 h
    class-fits class.Select ts r d k i h = by-result selects r _ ts (class_is class.Select (types_of_all ts) r k) (selects-fit k.0 k.1 r ts i k.2 h)
    class-fits (class.TakePart s) ts r d k i h =
        by-result (takes_part s) r _ ts (class_is (class.TakePart s) (types_of_all ts) r k) (takes-fit s k.0 r ts (subst (λ l. AreData (row_of l)) k.1 d).0 k.1 k.2 h)
    class-fits (class.PutPart s) ts r d k i h = puts-fit s r k.0 ts i k.1 k.2 h
    class-fits class.Array ts r d k i h =
        let n = nonempty (length (types_of_all ts)) k.0 k.1 in
        let q : types_of_all ts ≡ replicate (suc n.0) k.0 = k.2 ∙ ap (λ m. replicate m k.0) n.1 in
        elements-fit k.0 n.0 ts (subst (λ l. AreData (row_of l)) q d).0 q h
    class-fits (class.Repeat n) ts r d k i h = elements-fit k.0 0 ts (subst (λ l. AreData (row_of l)) k.1 d).0 k.1 h
    class-fits class.Tuple ts r d k i h = tuple-fits ts k.0 d h

    pub operation-fits : (o : Op) (ts : List Tree) → TakesTypes o (types_of_all ts) → Each TermTyped ts → Fits o ts
    operation-fits o ts k h = class-fits (class_of o) ts k.gives k.data_types k.row k.is_data h

    -- ---- the type that it gives

    typed-length : (d : TypeTree) (ts : List Tree) → length (first_typed e d ts) ≡ length (types_of_all ts)
    typed-length d [] = refl
    typed-length d (t ∷ ts) = ap suc (bare-length ts)
      where
        bare-length : (ts : List Tree) → length (map (λ u. bare (term_name e u)) ts) ≡ length (types_of_all ts)
        bare-length [] = refl
        bare-length (t ∷ ts) = ap suc (bare-length ts)

    each-types : (ts : List Tree) → operand_types (each_typed e ts) ≡ Some (row_of (types_of_all ts))
    each-types [] = refl
    each-types (t ∷ ts) = ap (with_type (Some (type_of t))) (each-types ts)

    -- some operand is there
    abbrev Some-type : List TypeTree → Type 0
    Some-type l = (x : TypeTree) × (more : List TypeTree) × (l ≡ x ∷ more)

    first-given : (d : TypeTree) (ts : List Tree) → Some-type (types_of_all ts) → first_type (first_typed e d ts) ≡ Some d
    first-given d ts s = first-is d s.0 ts s.1 s.2

    first-each : (ts : List Tree) → Some-type (types_of_all ts) → first_type (each_typed e ts) ≡ Some (first_of (types_of_all ts))
    first-each [] s = absurd (let q = s.2 in cc)
    first-each (t ∷ ts) s = refl

    array-gives : (n : ℕ) (d : TypeTree) → IsData (array_type n d) → array_made n d ≡ Some (array_type n d)
    array-gives n d h = ap (λ o. if_made o (array_type n d)) (array-again n d h)

    tuple-gives : (r : TypeRow) → IsData (tuple_type r) → tuple_made r ≡ Some (tuple_type r)
    tuple-gives r h = ap (λ o. if_made o (tuple_type r)) (tuple-again r h)

    positive : (l : List TypeTree) → 0 < length l → Some-type l
    positive [] h = absurd (omega (arith, h))
    positive (x ∷ l) h = (x, l, refl)

    -- what an operation of the class gives, by its operands as it writes them
    class-gives : (c : OpClass) (ts : List Tree) (r : TypeTree) → ClassType c (types_of_all ts) r → IsData r →
        class_type c (class_typed e c ts) ≡ Some (class_result c (types_of_all ts))
    class-gives class.Unary ts r k i = first-given _ ts (_, _, k.1)
    class-gives class.Binary ts r k i = first-given _ ts (_, _, k.1)
    class-gives class.Relation ts r k i = refl
    class-gives class.Equality ts r k i = refl
    class-gives class.Shift ts r k i = first-each ts (_, _, k.2)
    class-gives class.Select ts r k i = first-given _ ts (_, _, k.2)
    class-gives (class.TakePart s) ts r k i = first-given _ ts (_, _, k.1)
    class-gives (class.PutPart s) ts r k i = first-given _ ts (_, _, k.1)
    class-gives class.Array ts r k i =
        let d = first_of (types_of_all ts) in
        ap (option_and_then (array_made (length (first_typed e d ts)))) (first-given d ts (positive (types_of_all ts) k.1))
        ∙ ap (λ n. array_made n d) (typed-length d ts) ∙ array-gives (length (types_of_all ts)) d (subst IsData (sym (class_is class.Array (types_of_all ts) r k)) i)
    class-gives (class.Repeat n) ts r k i =
        let d = first_of (types_of_all ts) in
        ap (option_and_then (array_made n)) (first-given d ts (_, _, k.1)) ∙ array-gives n d (subst IsData (sym (class_is (class.Repeat n) (types_of_all ts) r k)) i)
    class-gives class.Tuple ts r k i =
        ap (option_and_then tuple_made) (each-types ts) ∙ tuple-gives (row_of (types_of_all ts)) (subst IsData (sym (class_is class.Tuple (types_of_all ts) r k)) i)

    pub operation-gives : (o : Op) (ts : List Tree) → TakesTypes o (types_of_all ts) → result_type (operation_text e o ts) ≡ Some (row_result o (types_of_all ts))
    operation-gives o ts k = class-gives (class_of o) ts k.gives k.row k.is_data
