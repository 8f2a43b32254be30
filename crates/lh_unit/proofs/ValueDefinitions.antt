-- What defines a value: it tells whether the value is defined, and stays the only one as arguments and lines are added.
use Rattle.std.proofs.Common.{◌≡◌, ℕ, ◌<◌, zero, suc, Bool, true, false, ◌||◌, nat_eq, List, [], ◌∷◌, ◌++◌, length, get_or, Option, Some, None, slice_get, refl, ap, sym, ◌∙◌, subst, arith, length-append}
use Rattle.std.specs.Option.{option_map}
use Rattle.std.proofs.lemmas.Bool.{both_ways, or_parts}
use Rattle.lh_unit.specs.Table.{Table, IsDefinition, is_arg, is_made, is_result, is_defined, result_defined, has_definition, no_line}
use Rattle.lh_unit.specs.TableCalls.{with_arg, with_line}
use Rattle.lh_unit.specs.declared.inst.ValueId.{ValueId}
use Rattle.lh_unit.specs.declared.inst.ValueDef.{ValueDef}
use Rattle.lh_unit.specs.declared.inst.ValueDef.TheVariants as value_def
use Rattle.lh_unit.specs.declared.inst.Inst.{Inst}
use Rattle.lh_unit.specs.declared.inst.Arg.{Arg}
use Rattle.lh_unit.specs.declared.table.TableLine.{TableLine}
use Rattle.lh_unit.proofs.Lists.{nat_eq-refl, nat_eq-is, not_true, or_false, or_true, or-assoc, some_inj}
use Rattle.lh_unit_names.proofs.Lists.{Trichotomy, before, at, past, trichotomy}
use Rattle.lh_types.proofs.Lists.{get_below, get_last}

pub is_arg-push : (xs : List Arg) (a : Arg) (k : ℕ) → is_arg (xs ++ a ∷ []) k ≡ (is_arg xs k || nat_eq a.value.0 k)
is_arg-push [] a k = or_false (nat_eq a.value.0 k)
is_arg-push (x ∷ xs) a k = ap (λ b. nat_eq x.value.0 k || b) (is_arg-push xs a k) ∙ sym (or-assoc (nat_eq x.value.0 k) (is_arg xs k) (nat_eq a.value.0 k))

pub is_made-push : (xs : List TableLine) (l : TableLine) (k : ℕ) → is_made (xs ++ l ∷ []) k ≡ (is_made xs k || is_result l.result k)
is_made-push [] l k = or_false (is_result l.result k)
is_made-push (x ∷ xs) l k = ap (λ b. is_result x.result k || b) (is_made-push xs l k) ∙ sym (or-assoc (is_result x.result k) (is_made xs k) (is_result l.result k))

-- an argument or a line that gives the value defines it
is_arg-at : (xs : List Arg) (j k : ℕ) → option_map (λ (a : Arg). a.value) (slice_get xs j) ≡ Some (record { 0 = k }) → is_arg xs k ≡ true
is_arg-at [] j k p = cc
is_arg-at (x ∷ xs) zero k p = let e : x.value ≡ record { 0 = k } = some_inj _ _ p in ap (λ (v : ValueId). nat_eq v.0 k || is_arg xs k) e ∙ ap (λ c. c || is_arg xs k) (nat_eq-refl k)
is_arg-at (x ∷ xs) (suc j) k p = ap (λ c. nat_eq x.value.0 k || c) (is_arg-at xs j k p) ∙ or_true (nat_eq x.value.0 k)

is_made-at : (ls : List TableLine) (i k : ℕ) → (get_or ls i no_line).result ≡ Some (record { 0 = k }) → is_made ls k ≡ true
is_made-at [] i k p = cc
is_made-at (l ∷ ls) zero k p = ap (λ r. is_result r k || is_made ls k) p ∙ ap (λ c. c || is_made ls k) (nat_eq-refl k)
is_made-at (l ∷ ls) (suc i) k p = ap (λ c. is_result l.result k || c) (is_made-at ls i k p) ∙ or_true (is_result l.result k)

pub definition-tells : (t : Table) (k : ℕ) (d : ValueDef) → IsDefinition t k d → is_defined t k ≡ has_definition d
definition-tells t k value_def.Missing p = p
definition-tells t k (value_def.Arg j) p = ap (λ c. c || is_made t.lines k) (is_arg-at t.args j k p.1)
definition-tells t k (value_def.Inst i) p = ap (λ c. is_arg t.args k || c) (is_made-at t.lines i.0 k p.1) ∙ or_true (is_arg t.args k)

-- definitions tell only of arguments and lines
pub IsDefinition-same : (t u : Table) (k : ℕ) (d : ValueDef) → u.args ≡ t.args → u.lines ≡ t.lines → IsDefinition t k d → IsDefinition u k d
IsDefinition-same t u k value_def.Missing a l p = (λ i. is_arg (a i) k || is_made (l i) k) ∙ p
IsDefinition-same t u k (value_def.Arg j) a l p = (subst (λ (xs : List Arg). j < length xs) (sym a) p.0, ap (λ xs. option_map (λ (x : Arg). x.value) (slice_get xs j)) a ∙ p.1)
IsDefinition-same t u k (value_def.Inst i) a l p = (subst (λ (xs : List TableLine). i.0 < length xs) (sym l) p.0, ap (λ xs. (get_or xs i.0 no_line).result) l ∙ p.1)

pub is_defined-with_arg : (t : Table) (a : Arg) (k : ℕ) → is_defined (with_arg t a) k ≡ (is_defined t k || nat_eq a.value.0 k)
is_defined-with_arg t a k = ap (λ c. c || is_made t.lines k) (is_arg-push t.args a k) ∙ swap (is_arg t.args k) (nat_eq a.value.0 k) (is_made t.lines k)
  where
    swap : (b c d : Bool) → ((b || c) || d) ≡ ((b || d) || c)
    swap true c d = refl
    swap false true true = refl
    swap false true false = refl
    swap false false true = refl
    swap false false false = refl

pub is_defined-with_line : (t : Table) (r : Option ValueId) (i : Inst) (k : ℕ) → is_defined (with_line t r i) k ≡ (is_defined t k || is_result r k)
is_defined-with_line t r i k = ap (λ c. is_arg t.args k || c) (is_made-push t.lines (record { result = r; inst = i }) k) ∙ sym (or-assoc (is_arg t.args k) (is_made t.lines k) (is_result r k))

-- the last item of a list, and the others
get_or-push_before : {X : Type 0} (xs : List X) (y d : X) (k : ℕ) → k < length xs → get_or (xs ++ y ∷ []) k d ≡ get_or xs k d
get_or-push_before [] y d k h = absurd (omega arith)
get_or-push_before (x ∷ xs) y d zero h = refl
get_or-push_before (x ∷ xs) y d (suc k) h = get_or-push_before xs y d k (omega arith)

get_or-push : {X : Type 0} (xs : List X) (y d : X) (k : ℕ) → k ≡ length xs → get_or (xs ++ y ∷ []) k d ≡ y
get_or-push [] y d zero e = refl
get_or-push [] y d (suc k) e = cc
get_or-push (x ∷ xs) y d zero e = cc
get_or-push (x ∷ xs) y d (suc k) e = get_or-push xs y d k (omega arith)

-- a definition that stays
pub IsDefinition-with_arg : (t : Table) (a : Arg) (k : ℕ) (d : ValueDef) → nat_eq a.value.0 k ≡ false → IsDefinition t k d → IsDefinition (with_arg t a) k d
IsDefinition-with_arg t a k value_def.Missing n p = is_defined-with_arg t a k ∙ (λ i. p i || n i)
IsDefinition-with_arg t a k (value_def.Arg j) n p = (omega (arith, p.0, length-append t.args (a ∷ [])), ap (option_map (λ (x : Arg). x.value)) (get_below t.args (a ∷ []) j p.0) ∙ p.1)
IsDefinition-with_arg t a k (value_def.Inst i) n p = p

pub IsDefinition-with_line : (t : Table) (r : Option ValueId) (i : Inst) (k : ℕ) (d : ValueDef) → is_result r k ≡ false → IsDefinition t k d → IsDefinition (with_line t r i) k d
IsDefinition-with_line t r i k value_def.Missing n p = is_defined-with_line t r i k ∙ (λ j. p j || n j)
IsDefinition-with_line t r i k (value_def.Arg j) n p = p
IsDefinition-with_line t r i k (value_def.Inst x) n p =
    let l : TableLine = record { result = r; inst = i } in
    (omega (arith, p.0, length-append t.lines (l ∷ [])), ap (λ (y : TableLine). y.result) (get_or-push_before t.lines l no_line x.0 p.0) ∙ p.1)

-- what was added defines its value
pub arg-defines : (t : Table) (a : Arg) → IsDefinition (with_arg t a) a.value.0 (value_def.Arg (length t.args))
arg-defines t a = (omega (arith, length-append t.args (a ∷ [])), ap (option_map (λ (x : Arg). x.value)) (get_last t.args a))

pub line-defines : (t : Table) (v : ValueId) (i : Inst) → IsDefinition (with_line t (Some v) i) v.0 (value_def.Inst record { 0 = length t.lines })
line-defines t v i =
    let l : TableLine = record { result = Some v; inst = i } in
    (omega (arith, length-append t.lines (l ∷ [])), ap (λ (y : TableLine). y.result) (get_or-push t.lines l no_line (length t.lines) refl))

-- a definition after one more argument or line, where b tells whether that one gives the value: it stood before, or it is the new one
data After (t : Table) (k : ℕ) (new : ValueDef) (b : Bool) (d : ValueDef) : Type 0 where
  old : IsDefinition t k d → b ≡ false → After t k new b d
  now : b ≡ true → d ≡ new → After t k new b d

once-after : (t : Table) (k : ℕ) (new : ValueDef) (b : Bool) (d e : ValueDef) → (IsDefinition t k d → IsDefinition t k e → d ≡ e) → After t k new b d → After t k new b e → d ≡ e
once-after t k new b d e o (old p x) (old q y) = o p q
once-after t k new b d e o (old p x) (now q y) = absurd (both_ways b x q)
once-after t k new b d e o (now p x) (old q y) = absurd (both_ways b y p)
once-after t k new b d e o (now p x) (now q y) = x ∙ sym y

fresh : (t : Table) (v k : ℕ) → is_defined t v ≡ false → is_defined t k ≡ true → nat_eq v k ≡ false
fresh t v k n p = not_true (nat_eq v k) (λ e. let q : is_defined t v ≡ true = ap (is_defined t) (nat_eq-is v k e) ∙ p in cc)

fresh-result : (t : Table) (r : Option ValueId) (k : ℕ) → result_defined t r ≡ false → is_defined t k ≡ true → is_result r k ≡ false
fresh-result t None k n p = refl
fresh-result t (Some v) k n p = fresh t v.0 k n p

after-arg : (t : Table) (a : Arg) (k : ℕ) (d : ValueDef) → is_defined t a.value.0 ≡ false → IsDefinition (with_arg t a) k d → After t k (value_def.Arg (length t.args)) (nat_eq a.value.0 k) d
after-arg t a k value_def.Missing n p = let q = or_parts (is_defined t k) (nat_eq a.value.0 k) (sym (is_defined-with_arg t a k) ∙ p) in old q.0 q.1
after-arg t a k (value_def.Inst i) n p = old p (fresh t a.value.0 k n (definition-tells t k (value_def.Inst i) p))
after-arg t a k (value_def.Arg j) n p = by (trichotomy (length t.args) j)
  where
    by : Trichotomy (length t.args) j → After t k (value_def.Arg (length t.args)) (nat_eq a.value.0 k) (value_def.Arg j)
    by (before h) =
        let q : IsDefinition t k (value_def.Arg j) = (h, sym (ap (option_map (λ (x : Arg). x.value)) (get_below t.args (a ∷ []) j h)) ∙ p.1) in
        old q (fresh t a.value.0 k n (definition-tells t k (value_def.Arg j) q))
    by (at h) =
        let q : Some a.value ≡ Some (record { 0 = k }) = sym (ap (option_map (λ (x : Arg). x.value)) (ap (slice_get (t.args ++ a ∷ [])) h ∙ get_last t.args a)) ∙ p.1 in
        let e : a.value ≡ record { 0 = k } = some_inj a.value (record { 0 = k }) q in
        now (ap (λ (v : ValueId). nat_eq v.0 k) e ∙ nat_eq-refl k) (ap value_def.Arg h)
    by (past h) = absurd (omega (arith, h, p.0, length-append t.args (a ∷ [])))

after-line : (t : Table) (r : Option ValueId) (i : Inst) (k : ℕ) (d : ValueDef) → result_defined t r ≡ false → IsDefinition (with_line t r i) k d
    → After t k (value_def.Inst record { 0 = length t.lines }) (is_result r k) d
after-line t r i k value_def.Missing n p = let q = or_parts (is_defined t k) (is_result r k) (sym (is_defined-with_line t r i k) ∙ p) in old q.0 q.1
after-line t r i k (value_def.Arg j) n p = old p (fresh-result t r k n (definition-tells t k (value_def.Arg j) p))
after-line t r i k (value_def.Inst x) n p = by (trichotomy (length t.lines) x.0)
  where
    l : TableLine
    l = record { result = r; inst = i }

    by : Trichotomy (length t.lines) x.0 → After t k (value_def.Inst record { 0 = length t.lines }) (is_result r k) (value_def.Inst x)
    by (before h) =
        let q : IsDefinition t k (value_def.Inst x) = (h, sym (ap (λ (y : TableLine). y.result) (get_or-push_before t.lines (record { result = r; inst = i }) no_line x.0 h)) ∙ p.1) in
        old q (fresh-result t r k n (definition-tells t k (value_def.Inst x) q))
    by (at h) =
        let q : r ≡ Some (record { 0 = k }) = sym (ap (λ (y : TableLine). y.result) (get_or-push t.lines (record { result = r; inst = i }) no_line x.0 h)) ∙ p.1 in
        now (ap (λ o. is_result o k) q ∙ nat_eq-refl k) (λ j. value_def.Inst record { 0 = h j })
    by (past h) = absurd (omega (arith, h, p.0, length-append t.lines ((record { result = r; inst = i }) ∷ [])))

-- a value that was not defined has one definition
pub once-with_arg : (t : Table) (a : Arg) (k : ℕ) (d e : ValueDef) → is_defined t a.value.0 ≡ false → (IsDefinition t k d → IsDefinition t k e → d ≡ e) → IsDefinition (with_arg t a) k d
    → IsDefinition (with_arg t a) k e → d ≡ e
once-with_arg t a k d e n o p q = once-after t k (value_def.Arg (length t.args)) (nat_eq a.value.0 k) d e o (after-arg t a k d n p) (after-arg t a k e n q)

pub once-with_line : (t : Table) (r : Option ValueId) (i : Inst) (k : ℕ) (d e : ValueDef) → result_defined t r ≡ false → (IsDefinition t k d → IsDefinition t k e → d ≡ e)
    → IsDefinition (with_line t r i) k d → IsDefinition (with_line t r i) k e → d ≡ e
once-with_line t r i k d e n o p q = once-after t k (value_def.Inst record { 0 = length t.lines }) (is_result r k) d e o (after-line t r i k d n p) (after-line t r i k e n q)
