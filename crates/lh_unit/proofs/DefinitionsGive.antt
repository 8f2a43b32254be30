-- What a definition says of the value: its argument or instruction is the one that is found by a search, and gives its type.
use Rattle.std.proofs.Common.{◌≡◌, ℕ, ◌<◌, zero, suc, Bool, true, false, ◌||◌, nat_eq, if◌then◌else◌, List, [], ◌∷◌, length, get_or, Option, Some, None, slice_get, refl, ap, sym, ◌∙◌, arith}
use Rattle.std.specs.Option.{option_map, option_and_then}
use Rattle.std.proofs.lemmas.Bool.{or_parts}
use Rattle.lh_unit.specs.Contents.{ArgText}
use Rattle.lh_unit.specs.Typing.{or_else, result_type, value_type, arg_named, inst_giving}
use Rattle.lh_unit.specs.Table.{Table, IsTable, IsDefinition, is_arg, is_made, is_result, line_at, no_line}
use Rattle.lh_unit.specs.Naming.{inst_text, arg_text}
use Rattle.lh_unit.specs.Arena.{Arena, IsArena, table_at, args_at, inst_at, naming, unit_text_at, unit_count, value_count, value_name_at}
use Rattle.lh_unit.specs.ById.{arg_being, inst_making}
use Rattle.lh_unit.specs.declared.inst.InstId.{InstId}
use Rattle.lh_unit.specs.declared.inst.ValueId.{ValueId}
use Rattle.lh_unit.specs.declared.inst.ValueDef.{ValueDef}
use Rattle.lh_unit.specs.declared.inst.ValueDef.TheVariants as value_def
use Rattle.lh_unit.specs.declared.inst.Inst.{Inst}
use Rattle.lh_unit.specs.declared.inst.Arg.{Arg}
use Rattle.lh_unit.specs.declared.table.TableLine.{TableLine}
use Rattle.lh_unit.proofs.Lists.{nat_eq-refl, nat_eq-is, not_true, some_inj}
use Rattle.lh_unit.proofs.ById.{arg_named-by_id, inst_giving-by_id}

-- the only argument that is the value, and the only line that gives it
arg_being-at : (xs : List Arg) (j k : ℕ) (a : Arg) → slice_get xs j ≡ Some a → a.value ≡ record { 0 = k }
    → ((i : ℕ) → i < length xs → option_map (λ (x : Arg). x.value) (slice_get xs i) ≡ Some (record { 0 = k }) → i ≡ j) → arg_being xs k ≡ Some a
arg_being-at [] j k a p e u = cc
arg_being-at (x ∷ xs) zero k a p e u =
    let q : x ≡ a = some_inj x a p in
    let t : nat_eq x.value.0 k ≡ true = ap (λ (y : Arg). nat_eq y.value.0 k) q ∙ ap (λ (v : ValueId). nat_eq v.0 k) e ∙ nat_eq-refl k in
    ap (λ c. if c then Some x else arg_being xs k) t ∙ p
arg_being-at (x ∷ xs) (suc j) k a p e u =
    let n : nat_eq x.value.0 k ≡ false = not_true (nat_eq x.value.0 k) (λ t. let w : x.value.0 ≡ k = nat_eq-is x.value.0 k t in
    let z : zero ≡ suc j = u zero (omega arith) (λ i. Some (record { 0 = w i })) in cc) in
    ap (λ c. if c then Some x else arg_being xs k) n ∙ arg_being-at xs j k a p e (λ i h q. let z : suc i ≡ suc j = u (suc i) (omega (arith, h)) q in omega (arith, z))

inst_making-at : (ls : List TableLine) (j k : ℕ) → (get_or ls j no_line).result ≡ Some (record { 0 = k }) → ((i : ℕ) → i < length ls → (get_or ls i no_line).result ≡ Some (record { 0 = k }) → i ≡ j)
    → inst_making ls k ≡ Some (get_or ls j no_line).inst
inst_making-at [] j k e u = cc
inst_making-at (l ∷ ls) zero k e u =
    let t : is_result l.result k ≡ true = ap (λ r. is_result r k) e ∙ nat_eq-refl k in
    ap (λ c. if c then Some l.inst else inst_making ls k) t
inst_making-at (l ∷ ls) (suc j) k e u =
    let n : is_result l.result k ≡ false = not_true (is_result l.result k) (λ t. let z : zero ≡ suc j = u zero (omega arith) (gives l.result t) in cc) in
    ap (λ c. if c then Some l.inst else inst_making ls k) n ∙ inst_making-at ls j k e (λ i h q. let z : suc i ≡ suc j = u (suc i) (omega (arith, h)) q in omega (arith, z))
  where
    gives : (r : Option ValueId) → is_result r k ≡ true → r ≡ Some (record { 0 = k })
    gives None t = cc
    gives (Some v) t = let w : v.0 ≡ k = nat_eq-is v.0 k t in λ i. Some (record { 0 = w i })

-- where nothing fits, nothing is found
not-found : {X : Type 0} (c d : Bool) (x : X) (o : Option X) → (c || d) ≡ false → (d ≡ false → o ≡ None) → (if c then Some x else o) ≡ None
not-found true d x o p f = cc
not-found false d x o p f = f p

arg_being-none : (xs : List Arg) (k : ℕ) → is_arg xs k ≡ false → arg_being xs k ≡ None
arg_being-none [] k p = refl
arg_being-none (x ∷ xs) k p = not-found (nat_eq x.value.0 k) (is_arg xs k) x (arg_being xs k) p (arg_being-none xs k)

inst_making-none : (ls : List TableLine) (k : ℕ) → is_made ls k ≡ false → inst_making ls k ≡ None
inst_making-none [] k p = refl
inst_making-none (l ∷ ls) k p = not-found (is_result l.result k) (is_made ls k) l.inst (inst_making ls k) p (inst_making-none ls k)

-- an argument that is the value stands somewhere
pub is_arg-there : (xs : List Arg) (k : ℕ) → is_arg xs k ≡ true → (j : ℕ) × (j < length xs) × (option_map (λ (x : Arg). x.value) (slice_get xs j) ≡ Some (record { 0 = k }))
is_arg-there [] k p = cc
is_arg-there (x ∷ xs) k p = by (nat_eq x.value.0 k) refl (is_arg-there xs k)
  where
    by : (c : Bool) → nat_eq x.value.0 k ≡ c → (is_arg xs k ≡ true → (j : ℕ) × (j < length xs) × (option_map (λ (y : Arg). y.value) (slice_get xs j) ≡ Some (record { 0 = k })))
        → (j : ℕ) × (j < length (x ∷ xs)) × (option_map (λ (y : Arg). y.value) (slice_get (x ∷ xs) j) ≡ Some (record { 0 = k }))
    by true e f = let w : x.value.0 ≡ k = nat_eq-is x.value.0 k e in (zero, omega arith, λ i. Some (record { 0 = w i }))
    by false e f = let r = f (sym (ap (λ c. c || is_arg xs k) e) ∙ p) in (suc r.0, omega (arith, r.1), r.2)

module _ (t : Table) (o : IsTable t) (k : ℕ) where
  pub being-argument : (j : ℕ) (a : Arg) → IsDefinition t k (value_def.Arg j) → slice_get t.args j ≡ Some a → arg_being t.args k ≡ Some a
  being-argument j a d p =
      let e : a.value ≡ record { 0 = k } = some_inj _ _ (sym (ap (option_map (λ (x : Arg). x.value)) p) ∙ d.1) in
      arg_being-at t.args j k a p e (λ i h q. let z : value_def.Arg i ≡ value_def.Arg j = o.defined_once k (value_def.Arg i) (value_def.Arg j) (h, q) d in cc)

  not-argument : (i : InstId) → IsDefinition t k (value_def.Inst i) → is_arg t.args k ≡ false
  not-argument i d = not_true (is_arg t.args k) (λ p. let r = is_arg-there t.args k p in
      let z : value_def.Arg r.0 ≡ value_def.Inst i = o.defined_once k (value_def.Arg r.0) (value_def.Inst i) (r.1, r.2) d in cc)

  pub being-no_argument : (i : InstId) → IsDefinition t k (value_def.Inst i) → arg_being t.args k ≡ None
  being-no_argument i d = arg_being-none t.args k (not-argument i d)

  pub making-instruction : (i : InstId) → IsDefinition t k (value_def.Inst i) → inst_making t.lines k ≡ Some (line_at t i.0).inst
  making-instruction i d = inst_making-at t.lines i.0 k d.1 (λ j h q. let x : InstId = record { 0 = j } in
      let z : value_def.Inst x ≡ value_def.Inst i = o.defined_once k (value_def.Inst x) (value_def.Inst i) (h, q) d in ap (λ v. number v) z)
    where
      number : ValueDef → ℕ
      number value_def.Missing = 0
      number (value_def.Arg j) = 0
      number (value_def.Inst y) = y.0

-- the type of a value, by its definition
module _ (a : Arena) (u : ℕ) (o : IsArena a) (h : u < unit_count a) (v : ℕ) (p : v < value_count a u) where
  type-is : (x : Option Arg) (i : Option Inst) → arg_being (args_at a u) v ≡ x → inst_making (table_at a u).lines v ≡ i
      → value_type (unit_text_at a u) (value_name_at a u v)
      ≡ or_else (option_map (λ (y : ArgText). y.ty) (option_map (arg_text (naming a u)) x)) (option_and_then result_type (option_map (inst_text (naming a u)) i))
  type-is x i e f =
      let q : arg_named (value_name_at a u v) (unit_text_at a u).args ≡ option_map (arg_text (naming a u)) x = arg_named-by_id a u o h v p ∙ ap (option_map (arg_text (naming a u))) e in
      let r : inst_giving (value_name_at a u v) (unit_text_at a u).blocks ≡ option_map (inst_text (naming a u)) i = inst_giving-by_id a u o h v p ∙ ap (option_map (inst_text (naming a u))) f in
      λ j. or_else (option_map (λ (y : ArgText). y.ty) (q j)) (option_and_then result_type (r j))

  pub value_type-argument : (j : ℕ) (x : Arg) → IsDefinition (table_at a u) v (value_def.Arg j) → slice_get (args_at a u) j ≡ Some x → value_type (unit_text_at a u) (value_name_at a u v) ≡ Some x.ty
  value_type-argument j x d e = type-is (Some x) (inst_making (table_at a u).lines v) (being-argument (table_at a u) (o.tables u h) v j x d e) refl

  pub value_type-instruction : (i : InstId) → IsDefinition (table_at a u) v (value_def.Inst i)
      → value_type (unit_text_at a u) (value_name_at a u v) ≡ result_type (inst_text (naming a u) (inst_at a u i.0))
  value_type-instruction i d = type-is None (Some (inst_at a u i.0)) (being-no_argument (table_at a u) (o.tables u h) v i d) (making-instruction (table_at a u) (o.tables u h) v i d)

  pub value_type-missing : IsDefinition (table_at a u) v value_def.Missing → value_type (unit_text_at a u) (value_name_at a u v) ≡ None
  value_type-missing d =
      let n = or_parts (is_arg (args_at a u) v) (is_made (table_at a u).lines v) d in
      type-is None None (arg_being-none (args_at a u) v n.0) (inst_making-none (table_at a u).lines v n.1)

-- an argument's definition names it
pub same-argument : (i j : ℕ) → value_def.Arg i ≡ value_def.Arg j → i ≡ j
same-argument i j e = cc
