-- What is known of values, one argument or one instruction more.
use Rattle.std.proofs.Common.{◌≡◌, ℕ, ◌+◌, ◌<◌, ◌≤◌, zero, suc, Bool, true, false, ◌||◌, nat_eq, if◌then◌else◌, List, [], ◌∷◌, ◌++◌, length, get_or, set, take, replicate, Option, Some, None, is_some, slice_get, refl, ap, sym, ◌∙◌, subst, arith}
use Rattle.std.specs.Option.{option_map, option_and_then}
use Rattle.std.specs.Prelude.{Result, Ok, Err, OnOk}
use Rattle.std.proofs.lemmas.Option.{slice_get-get_or, get_or_from_slice_get}
use Rattle.std.proofs.Math.ListN.{length-set}
use Rattle.std.proofs.lemmas.Grind.{common_steps}
use Rattle.lh_unit.specs.Naming.{Naming, inst_text}
use Rattle.lh_unit.specs.Table.{is_arg, is_made, is_result}
use Rattle.lh_unit.specs.ById.{arg_being, inst_making}
use Rattle.lh_unit.specs.Typing.{or_else, result_type}
use Rattle.lh_unit.specs.Kinds.{kind_of, result_kind}
use Rattle.lh_unit.specs.declared.inst.ValueId.{ValueId}
use Rattle.lh_unit.specs.declared.inst.Arg.{Arg}
use Rattle.lh_unit.specs.declared.inst.Inst.{Inst}
use Rattle.lh_unit.specs.declared.table.TableLine.{TableLine}
use Rattle.lh_unit.proofs.Lists.{Same, same, other, same_or, nat_eq-refl, nat_eq-other, or_false, or_true, some_inj, or_else-none}
use Rattle.lh_verify_values.specs.declared.scope.Fact.{Fact}
use Rattle.lh_verify_values.specs.FactsOfUnit.{FactAfter, FactsAfter, GivenBy, GivenArg, FactOfInst, FactOfArg, Marks, blank, line_kind, line_type, arg_type}
use Rattle.lh_types.specs.Types.{TypeTree}
use Rattle.lh_verify_values.specs.Numbers.{NumbersGrow}
use Rattle.lh_verify_values.proofs.TypeNumbers.{number-grows}
use Rattle.lh_unit.proofs.Tables.{is_made-push, is_arg-push}

-- a write at one place
pub get-set-same : {X : Type 0} → (xs : List X) (k : ℕ) (y : X) → k < length xs → slice_get (set xs k y) k ≡ Some y
get-set-same [] k y h = absurd (omega arith)
get-set-same (x ∷ xs) zero y h = refl
get-set-same (x ∷ xs) (suc k) y h = get-set-same xs k y (omega arith)

pub get-set-other : {X : Type 0} → (xs : List X) (k v : ℕ) (y : X) → (k ≡ v → ⊥) → slice_get (set xs k y) v ≡ slice_get xs v
get-set-other [] k v y h = refl
get-set-other (x ∷ xs) zero zero y h = absurd (h refl)
get-set-other (x ∷ xs) zero (suc v) y h = refl
get-set-other (x ∷ xs) (suc k) zero y h = refl
get-set-other (x ∷ xs) (suc k) (suc v) y h = get-set-other xs k v y (λ e. h (ap suc e))

-- one more line, and one more argument
making-more : (ls : List TableLine) (l : TableLine) (v : ℕ) → inst_making (ls ++ l ∷ []) v ≡ or_else (inst_making ls v) (if is_result l.result v then Some l.inst else None)
making-more [] l v = refl
making-more (x ∷ ls) l v = by (is_result x.result v) (making-more ls l v)
  where
    by : (c : Bool) → inst_making (ls ++ l ∷ []) v ≡ or_else (inst_making ls v) (if is_result l.result v then Some l.inst else None)
        → (if c then Some x.inst else inst_making (ls ++ l ∷ []) v) ≡ or_else (if c then Some x.inst else inst_making ls v) (if is_result l.result v then Some l.inst else None)
    by true r = refl
    by false r = r

making-made : (ls : List TableLine) (v : ℕ) → is_some (inst_making ls v) ≡ is_made ls v
making-made [] v = refl
making-made (x ∷ ls) v = by (is_result x.result v) (making-made ls v)
  where
    by : (c : Bool) → is_some (inst_making ls v) ≡ is_made ls v → is_some (if c then Some x.inst else inst_making ls v) ≡ (c || is_made ls v)
    by true r = refl
    by false r = r

being-more : (xs : List Arg) (a : Arg) (v : ℕ) → arg_being (xs ++ a ∷ []) v ≡ or_else (arg_being xs v) (if nat_eq a.value.0 v then Some a else None)
being-more [] a v = refl
being-more (x ∷ xs) a v = by (nat_eq x.value.0 v) (being-more xs a v)
  where
    by : (c : Bool) → arg_being (xs ++ a ∷ []) v ≡ or_else (arg_being xs v) (if nat_eq a.value.0 v then Some a else None)
        → (if c then Some x else arg_being (xs ++ a ∷ []) v) ≡ or_else (if c then Some x else arg_being xs v) (if nat_eq a.value.0 v then Some a else None)
    by true r = refl
    by false r = r

being-arg : (xs : List Arg) (v : ℕ) → is_some (arg_being xs v) ≡ is_arg xs v
being-arg [] v = refl
being-arg (x ∷ xs) v = by (nat_eq x.value.0 v) (being-arg xs v)
  where
    by : (c : Bool) → is_some (arg_being xs v) ≡ is_arg xs v → is_some (if c then Some x else arg_being xs v) ≡ (c || is_arg xs v)
    by true r = refl
    by false r = r

is-none : {X : Type 0} → (o : Option X) → is_some o ≡ false → o ≡ None
is-none None h = refl
is-none (Some x) h = cc

kept : {X : Type 0} → (o p : Option X) → is_some o ≡ true → or_else o p ≡ o
kept None p h = cc
kept (Some x) p h = refl

-- what an instruction tells
module _ (ts : List TypeTree) (f : Naming) (ls : List TableLine) (l : TableLine) (v : ℕ) where
  -- another value
  pub line-other : (x : Fact) → is_result l.result v ≡ false → FactAfter ts f [] ls v x → FactAfter ts f [] (ls ++ l ∷ []) v x
  line-other x h k =
      let m : inst_making (ls ++ l ∷ []) v ≡ inst_making ls v = making-more ls l v ∙ ap (λ b. or_else (inst_making ls v) (if b then Some l.inst else None)) h ∙ or_else-none (inst_making ls v) in
      record {
        defined = k.defined ∙ sym (is_made-push ls l v ∙ ap (λ b. is_made ls v || b) h ∙ or_false (is_made ls v));
        kind = k.kind ∙ sym (ap (option_and_then (λ (i : Inst). result_kind (inst_text f i))) m);
        ty = k.ty ∙ sym (ap (λ o. option_map Some (option_and_then (λ (i : Inst). result_type (inst_text f i)) o)) m);
      }

  -- a value that an instruction before it gives
  pub line-again : (x : Fact) → is_made ls v ≡ true → FactAfter ts f [] ls v x → FactAfter ts f [] (ls ++ l ∷ []) v x
  line-again x h k =
      let m : inst_making (ls ++ l ∷ []) v ≡ inst_making ls v = making-more ls l v ∙ kept (inst_making ls v) (if is_result l.result v then Some l.inst else None) (making-made ls v ∙ h) in
      record {
        defined = k.defined ∙ h ∙ sym (is_made-push ls l v ∙ ap (λ b. b || is_result l.result v) h);
        kind = k.kind ∙ sym (ap (option_and_then (λ (i : Inst). result_kind (inst_text f i))) m);
        ty = k.ty ∙ sym (ap (λ o. option_map Some (option_and_then (λ (i : Inst). result_type (inst_text f i)) o)) m);
      }

  -- a value that it gives first
  pub line-first : (x : Fact) → is_result l.result v ≡ true → is_made ls v ≡ false → GivenBy ts f l.inst x → FactAfter ts f [] (ls ++ l ∷ []) v x
  line-first x r h g =
      let m : inst_making (ls ++ l ∷ []) v ≡ Some l.inst = making-more ls l v
      ∙ ap (λ o. or_else o (if is_result l.result v then Some l.inst else None)) (is-none (inst_making ls v) (making-made ls v ∙ h)) ∙ ap (λ b. if b then Some l.inst else None) r in
      record {
        defined = g.defined ∙ sym (is_made-push ls l v ∙ ap (λ b. b || is_result l.result v) h ∙ r);
        kind = g.kind ∙ sym (ap (option_and_then (λ (i : Inst). result_kind (inst_text f i))) m);
        ty = g.ty ∙ sym (ap (λ o. option_map Some (option_and_then (λ (i : Inst). result_type (inst_text f i)) o)) m);
      }

-- by whether the value was given already
line-told : (ts : List TypeTree) (f : Naming) (ls : List TableLine) (l : TableLine) (v : ℕ) (old new : Fact) (b : Bool) → old.defined ≡ b → FactOfInst ts b f l.inst old new → is_result l.result v ≡ true
    → FactAfter ts f [] ls v old → FactAfter ts f [] (ls ++ l ∷ []) v new
line-told ts f ls l v old new true d t r k = subst (FactAfter ts f [] (ls ++ l ∷ []) v) (sym t) (line-again ts f ls l v old (sym k.defined ∙ d) k)
line-told ts f ls l v old new false d t r k = line-first ts f ls l v new r (sym k.defined ∙ d) t

-- nothing is known at first
replicate-blank : (n v : ℕ) (x : Fact) → slice_get (replicate n blank) v ≡ Some x → x ≡ blank
replicate-blank zero v x e = cc
replicate-blank (suc n) zero x e = sym (some_inj blank x e)
replicate-blank (suc n) (suc v) x e = replicate-blank n v x e

known-blank : (ts : List TypeTree) (f : Naming) (v : ℕ) → FactAfter ts f [] [] v blank
known-blank ts f v = record { defined = refl; kind = refl; ty = refl }

pub length-replicate : {X : Type 0} → (n : ℕ) (x : X) → length (replicate n x) ≡ n
length-replicate zero x = refl
length-replicate (suc n) x = ap suc (length-replicate n x)

pub knows-nothing : (ts : List TypeTree) (n : ℕ) (f : Naming) (facts : List Fact) → facts ≡ replicate n blank → FactsAfter ts n f [] [] facts
knows-nothing ts n f facts e = record {
  long = ap length e ∙ length-replicate n blank;
  known = λ v x g. subst (FactAfter ts f [] [] v) (sym (replicate-blank n v x (sym (ap (λ l. slice_get l v) e) ∙ g))) (known-blank ts f v);
}

-- one more instruction, with a result
pub knows-told : (ts : List TypeTree) (n : ℕ) (f : Naming) (ls : List TableLine) (l : TableLine) (w : ValueId) (old new : List Fact) (fact d : Fact) → FactsAfter ts n f [] ls old → l.result ≡ Some w → w.0 < n
    → FactOfInst ts (get_or old w.0 d).defined f l.inst (get_or old w.0 d) fact → new ≡ set old w.0 fact → FactsAfter ts n f [] (ls ++ l ∷ []) new
knows-told ts n f ls l w old new fact d k r h t is = record {
  long = ap length is ∙ length-set old w.0 fact ∙ k.long;
  known = λ v x g. by v x (same_or w.0 v) (sym (ap (λ xs. slice_get xs v) is) ∙ g);
}
  where
    within : w.0 < length old
    within = omega (arith, h, k.long)

    gives : (v : ℕ) → is_result l.result v ≡ nat_eq w.0 v
    gives v = ap (λ o. is_result o v) r

    by : (v : ℕ) (x : Fact) → Same w.0 v → slice_get (set old w.0 fact) v ≡ Some x → FactAfter ts f [] (ls ++ l ∷ []) v x
    by v x (other p) g = line-other ts f ls l v x (gives v ∙ nat_eq-other w.0 v p) (k.known v x (sym (get-set-other old w.0 v fact p) ∙ g))
    by v x (same e) g =
        let q : fact ≡ x = some_inj fact x (sym (get-set-same old w.0 fact within) ∙ ap (slice_get (set old w.0 fact)) e ∙ g) in
        let p : FactAfter ts f [] ls w.0 (get_or old w.0 d) = k.known w.0 (get_or old w.0 d) (slice_get-get_or old w.0 d within) in
        let z : FactAfter ts f [] (ls ++ l ∷ []) w.0 fact = line-told ts f ls l w.0 (get_or old w.0 d) fact (get_or old w.0 d).defined refl t (gives w.0 ∙ nat_eq-refl w.0) p in
        subst (λ (u : ℕ). FactAfter ts f [] (ls ++ l ∷ []) u x) e (subst (FactAfter ts f [] (ls ++ l ∷ []) w.0) q z)

-- the same, by what was known of the value
pub knows-after : (was fact : Fact) (i : Inst) (ts : List TypeTree) (n : ℕ) (f : Naming) (ls : List TableLine) (l : TableLine) (w : ValueId) (old new : List Fact) → FactOfInst ts was.defined f i was fact
    → i ≡ l.inst → slice_get old w.0 ≡ Some was → FactsAfter ts n f [] ls old → l.result ≡ Some w → w.0 < n → new ≡ set old w.0 fact → FactsAfter ts n f [] (ls ++ l ∷ []) new
knows-after was fact i ts n f ls l w old new t e s k r h is =
    let there : get_or old w.0 was ≡ was = get_or_from_slice_get old w.0 was was s in
    let P : Inst → Type 0 = λ j. FactOfInst ts was.defined f j was fact in
    let Q : Fact → Type 0 = λ x. FactOfInst ts x.defined f l.inst x fact in
    knows-told ts n f ls l w old new fact was k r h (subst Q (sym there) (subst P e t)) is

-- one more instruction, with no result
pub knows-more : (ts : List TypeTree) (n : ℕ) (f : Naming) (ls : List TableLine) (l : TableLine) (facts : List Fact) → FactsAfter ts n f [] ls facts → l.result ≡ None → FactsAfter ts n f [] (ls ++ l ∷ []) facts
knows-more ts n f ls l facts k r = record {
  long = k.long;
  known = λ v x g. line-other ts f ls l v x (ap (λ o. is_result o v) r) (k.known v x g);
}

-- one more argument
module _ (ts : List TypeTree) (f : Naming) (xs : List Arg) (a : Arg) (ls : List TableLine) (v : ℕ) where
  pub arg-other : (x : Fact) → nat_eq a.value.0 v ≡ false → FactAfter ts f xs ls v x → FactAfter ts f (xs ++ a ∷ []) ls v x
  arg-other x h k =
      let m : arg_being (xs ++ a ∷ []) v ≡ arg_being xs v = being-more xs a v ∙ ap (λ b. or_else (arg_being xs v) (if b then Some a else None)) h ∙ or_else-none (arg_being xs v) in
      record {
        defined = k.defined ∙ sym (ap (λ b. b || is_made ls v) (is_arg-push xs a v ∙ ap (λ b. is_arg xs v || b) h ∙ or_false (is_arg xs v)));
        kind = k.kind ∙ sym (ap (λ o. or_else (option_and_then (λ (y : Arg). kind_of y.ty) o) (line_kind f ls v)) m);
        ty = k.ty ∙ sym (ap (λ o. option_map Some (or_else (option_map (λ (y : Arg). y.ty) o) (line_type f ls v))) m);
      }

  pub arg-again : (x : Fact) → is_arg xs v ≡ true → FactAfter ts f xs ls v x → FactAfter ts f (xs ++ a ∷ []) ls v x
  arg-again x h k =
      let m : arg_being (xs ++ a ∷ []) v ≡ arg_being xs v = being-more xs a v ∙ kept (arg_being xs v) (if nat_eq a.value.0 v then Some a else None) (being-arg xs v ∙ h) in
      record {
        defined = k.defined ∙ ap (λ b. b || is_made ls v) (h ∙ sym (is_arg-push xs a v ∙ ap (λ b. b || nat_eq a.value.0 v) h));
        kind = k.kind ∙ sym (ap (λ o. or_else (option_and_then (λ (y : Arg). kind_of y.ty) o) (line_kind f ls v)) m);
        ty = k.ty ∙ sym (ap (λ o. option_map Some (or_else (option_map (λ (y : Arg). y.ty) o) (line_type f ls v))) m);
      }

  pub arg-first : (old x : Fact) → nat_eq a.value.0 v ≡ true → is_arg xs v ≡ false → GivenArg ts a old x → FactAfter ts f xs ls v old → FactAfter ts f (xs ++ a ∷ []) ls v x
  arg-first old x r h g k =
      let z : arg_being xs v ≡ None = is-none (arg_being xs v) (being-arg xs v ∙ h) in
      let m : arg_being (xs ++ a ∷ []) v ≡ Some a = being-more xs a v ∙ ap (λ o. or_else o (if nat_eq a.value.0 v then Some a else None)) z ∙ ap (λ b. if b then Some a else None) r in
      record {
        defined = g.defined ∙ sym (ap (λ b. b || is_made ls v) (is_arg-push xs a v ∙ ap (λ b. b || nat_eq a.value.0 v) h ∙ r));
        kind = g.kind ∙ ap (or_else (kind_of a.ty)) (k.kind ∙ ap (λ o. or_else (option_and_then (λ (y : Arg). kind_of y.ty) o) (line_kind f ls v)) z)
            ∙ sym (ap (λ o. or_else (option_and_then (λ (y : Arg). kind_of y.ty) o) (line_kind f ls v)) m);
        ty = g.ty ∙ sym (ap (λ o. option_map Some (or_else (option_map (λ (y : Arg). y.ty) o) (line_type f ls v))) m);
      }

arg-told : (ts : List TypeTree) (f : Naming) (xs : List Arg) (a : Arg) (ls : List TableLine) (v : ℕ) (old new : Fact) (b : Bool) → b ≡ is_arg xs v → FactOfArg ts b a old new → nat_eq a.value.0 v ≡ true
    → FactAfter ts f xs ls v old → FactAfter ts f (xs ++ a ∷ []) ls v new
arg-told ts f xs a ls v old new true d t r k = subst (FactAfter ts f (xs ++ a ∷ []) ls v) (sym t) (arg-again ts f xs a ls v old (sym d) k)
arg-told ts f xs a ls v old new false d t r k = arg-first ts f xs a ls v old new r (sym d) t k

pub knows-arg : (ts : List TypeTree) (n : ℕ) (f : Naming) (xs : List Arg) (a : Arg) (ls : List TableLine) (old new : List Fact) (seen : List Bool) (fact d : Fact) (b : Bool) → FactsAfter ts n f xs ls old
    → Marks xs n seen → a.value.0 < n → slice_get seen a.value.0 ≡ Some b → FactOfArg ts b a (get_or old a.value.0 d) fact → new ≡ set old a.value.0 fact → FactsAfter ts n f (xs ++ a ∷ []) ls new
knows-arg ts n f xs a ls old new seen fact d b k m h s t w = record {
  long = ap length w ∙ length-set old a.value.0 fact ∙ k.long;
  known = λ v x g. by v x (same_or a.value.0 v) (sym (ap (λ l. slice_get l v) w) ∙ g);
}
  where
    within : a.value.0 < length old
    within = omega (arith, h, k.long)

    by : (v : ℕ) (x : Fact) → Same a.value.0 v → slice_get (set old a.value.0 fact) v ≡ Some x → FactAfter ts f (xs ++ a ∷ []) ls v x
    by v x (other p) g = arg-other ts f xs a ls v x (nat_eq-other a.value.0 v p) (k.known v x (sym (get-set-other old a.value.0 v fact p) ∙ g))
    by v x (same e) g =
        let q : fact ≡ x = some_inj fact x (sym (get-set-same old a.value.0 fact within) ∙ ap (slice_get (set old a.value.0 fact)) e ∙ g) in
        let p : FactAfter ts f xs ls a.value.0 (get_or old a.value.0 d) = k.known a.value.0 (get_or old a.value.0 d) (slice_get-get_or old a.value.0 d within) in
        let z : FactAfter ts f (xs ++ a ∷ []) ls a.value.0 fact = arg-told ts f xs a ls a.value.0 (get_or old a.value.0 d) fact b (m.marked a.value.0 b s) t (nat_eq-refl a.value.0) p in
        subst (λ (u : ℕ). FactAfter ts f (xs ++ a ∷ []) ls u x) e (subst (FactAfter ts f (xs ++ a ∷ []) ls a.value.0) q z)

-- the same, by what was known of the value
pub knows-arg-after : (was fact : Fact) (b : Bool) (ts : List TypeTree) (n : ℕ) (f : Naming) (xs : List Arg) (a : Arg) (ls : List TableLine) (old new : List Fact) (seen : List Bool)
    → FactOfArg ts b a was fact → slice_get old a.value.0 ≡ Some was → slice_get seen a.value.0 ≡ Some b → FactsAfter ts n f xs ls old → Marks xs n seen → a.value.0 < n → new ≡ set old a.value.0 fact
    → FactsAfter ts n f (xs ++ a ∷ []) ls new
knows-arg-after was fact b ts n f xs a ls old new seen t s e k m h is =
    let there : get_or old a.value.0 was ≡ was = get_or_from_slice_get old a.value.0 was was s in
    let Q : Fact → Type 0 = λ x. FactOfArg ts b a x fact in
    knows-arg ts n f xs a ls old new seen fact was b k m h e (subst Q (sym there) t) is

pub marks-arg : (n : ℕ) (xs : List Arg) (a : Arg) (seen new : List Bool) → Marks xs n seen → a.value.0 < n → new ≡ set seen a.value.0 true → Marks (xs ++ a ∷ []) n new
marks-arg n xs a seen new m h w = record {
  long = ap length w ∙ length-set seen a.value.0 true ∙ m.long;
  marked = λ v b g. by v b (same_or a.value.0 v) (sym (ap (λ l. slice_get l v) w) ∙ g);
}
  where
    within : a.value.0 < length seen
    within = omega (arith, h, m.long)

    by : (v : ℕ) (b : Bool) → Same a.value.0 v → slice_get (set seen a.value.0 true) v ≡ Some b → b ≡ is_arg (xs ++ a ∷ []) v
    by v b (other d) g = m.marked v b (sym (get-set-other seen a.value.0 v true d) ∙ g) ∙ sym (is_arg-push xs a v ∙ ap (λ c. is_arg xs v || c) (nat_eq-other a.value.0 v d) ∙ or_false (is_arg xs v))
    by v b (same e) g =
        let q : true ≡ b = some_inj true b (sym (get-set-same seen a.value.0 true within) ∙ ap (slice_get (set seen a.value.0 true)) e ∙ g) in
        sym q ∙ sym (is_arg-push xs a v ∙ ap (λ c. is_arg xs v || c) (sym (ap (λ u. nat_eq u v) (sym e)) ∙ nat_eq-refl v) ∙ or_true (is_arg xs v))

pub replicate-false : (n v : ℕ) (b : Bool) → slice_get (replicate n false) v ≡ Some b → b ≡ false
replicate-false zero v b e = cc
replicate-false (suc n) zero b e = sym (some_inj false b e)
replicate-false (suc n) (suc v) b e = replicate-false n v b e

pub marks-none : (n : ℕ) (seen : List Bool) → seen ≡ replicate n false → Marks [] n seen
marks-none n seen e = record {
  long = ap length e ∙ length-replicate n false;
  marked = λ v b g. replicate-false n v b (sym (ap (λ l. slice_get l v) e) ∙ g);
}

-- what follows where a call succeeded
pub on-ok : {A E : Type 0} → (r : Result A E) (P Q : Type 0) → (P → Q) → OnOk r P → OnOk r Q
on-ok (Ok x) P Q g h = g h
on-ok (Err e) P Q g h = tt

pub on-ok-both : {A E : Type 0} {P Q R : Type 0} → (r : Result A E) → OnOk r P → OnOk r Q → (P → Q → R) → OnOk r R
on-ok-both (Ok x) p q g = g p q
on-ok-both (Err e) p q g = tt

pub taken : {X : Type 0} → (xs : List X) (i : ℕ) (d : X) → i < length xs → take i xs ++ get_or xs i d ∷ [] ≡ take (i + 1) xs
taken xs i d h = grind (arith, common_steps)

-- one more item of a list, and all of them
pub take-item : {X : Type 0} → (xs : List X) (i : ℕ) (x : X) → i < length xs → x ≡ get_or xs i x → take i xs ++ x ∷ [] ≡ take (i + 1) xs
take-item xs i x h e = ap (λ y. take i xs ++ y ∷ []) e ∙ taken xs i x h

pub take-line : (ls : List TableLine) (i : ℕ) (d : TableLine) → i < length ls → take i ls ++ get_or ls i d ∷ [] ≡ take (i + 1) ls
take-line ls i d h = grind (arith, common_steps)

pub take-all : {X : Type 0} → (xs : List X) (i : ℕ) → length xs ≤ i → take i xs ≡ xs
take-all xs i h = grind (arith, common_steps)

front : {X : Type 0} → (xs ys : List X) → take (length xs) (xs ++ ys) ≡ xs
front [] ys = grind (arith, common_steps)
front (x ∷ xs) ys = ap (λ l. x ∷ l) (front xs ys)

-- what was written back
pub written-back : {X : Type 0} → (new rest : List X) (n : ℕ) → length new ≡ n → take n (new ++ rest) ≡ new
written-back new rest n e = ap (λ k. take k (new ++ rest)) (sym e) ∙ front new rest

-- what is known stays so where types get numbers
known-grows : (old new : List TypeTree) (f : Naming) (args : List Arg) (lines : List TableLine) (v : ℕ) (x : Fact) → NumbersGrow old new → FactAfter old f args lines v x → FactAfter new f args lines v x
known-grows old new f args lines v x g k = record { defined = k.defined; kind = k.kind; ty = number-grows old new x.ty (or_else (arg_type args v) (line_type f lines v)) g k.ty }

pub knows-grows : (old new : List TypeTree) (n : ℕ) (f : Naming) (args : List Arg) (lines : List TableLine) (facts : List Fact) → NumbersGrow old new → FactsAfter old n f args lines facts
    → FactsAfter new n f args lines facts
knows-grows old new n f args lines facts g k = record { long = k.long; known = λ v x e. known-grows old new f args lines v x g (k.known v x e) }
