-- How what is known changes: it stays typed, and what is there is known.
use Rattle.std.proofs.Common.{◌≡◌, inr, ℕ, List, [], ◌∷◌, ◌++◌, Bool, true, false, Option, Some, None, IsSome, refl, ap, ◌∙◌, subst}
use Rattle.std.specs.Bool.{if◌then◌else◌}
use Rattle.std.proofs.lemmas.Option.{same_Some}
use Rattle.lh_types.specs.Types.{TypeTree, time_type, void_type, int_type, array_type, tuple_type, signal_type, pointer_type}
use Rattle.lh_types.specs.Values.{Datum, int_value, time_value, array_value, tuple_value}
use Rattle.lh_types.specs.Fits.{FitsType}
use Rattle.lh_unit.specs.Contents.{InstText, phi_text, LineText, BlockText, UnitText, is_result_name}
use Rattle.lh_unit_names.specs.Names.{same_name}
use Rattle.lh_unit.specs.Held.{Held, Env, with_result, with_held}
use Rattle.lh_unit.specs.Typing.{value_type}
use Rattle.lh_unit_names.proofs.NameLists.{same_name-is}
use Rattle.lh_verify_laws.proofs.There.{there-before}
use Rattle.lh_eval.specs.Fitting as fitting
use Rattle.lh_term.specs.Tree.{Tree, constant}
use Rattle.lh_term.specs.Types.{type_of, IsTyped}
use Rattle.lh_term.proofs.TermTypes.{value_is, fits_term}
use Rattle.lh_term.specs.declared.part.Part.{Part}
use Rattle.lh_types.specs.declared.part.Range.{Range}
use Rattle.lh_region_def.specs.Known.{Known, Knowledge, with_known, with_given}
use Rattle.lh_region_def.specs.Typed.{known_type, IsTypedKnown, KnowsTyped, KnowsThere}
use Rattle.lh_region_def.specs.Means.{held_as, KnownIsHeld}
use Rattle.lh_region_def.specs.Right.{PhiGiven, PhisGiven}

-- a value of a type as a term
pub constant-typed : (d : Datum) (t : TypeTree) → fitting.IsTypeWithinLimits t → FitsType d t → IsTyped (constant d) × (type_of (constant d) ≡ t)
constant-typed d time_type v f = by d f
  where
    by : (d : Datum) → FitsType d time_type → IsTyped (constant d) × (type_of (constant d) ≡ time_type)
    by (time_value d) f = (record { fits = tt; is_value = inr refl }, refl)
    by (int_value n a) f = absurd f
    by (array_value vs) f = absurd f
    by (tuple_value vs) f = absurd f
constant-typed d (int_type n) v f = (fits_term d (int_type n) v f, value_is d (int_type n) v f)
constant-typed d (array_type n t) v f = (fits_term d (array_type n t) v f, value_is d (array_type n t) v f)
constant-typed d (tuple_type ts) v f = (fits_term d (tuple_type ts) v f, value_is d (tuple_type ts) v f)
constant-typed d void_type v f = absurd v
constant-typed d (signal_type t) v f = absurd v
constant-typed d (pointer_type t) v f = absurd v

-- ---- something more is known

-- typed, and of the type of the name
abbrev pub GivenTyped : UnitText → Option (List ℕ) → Known → Type 0
GivenTyped u r x = (n : List ℕ) (t : TypeTree) → r ≡ Some n → value_type u n ≡ Some t → IsTypedKnown u n x × (known_type x ≡ t)

pub known-typed : (u : UnitText) (k : Knowledge) (m : List ℕ) (x : Known) → KnowsTyped u k → GivenTyped u (Some m) x → KnowsTyped u (with_known k m x)
known-typed u k m x h g n y t q v = by (same_name m n) refl q
  where
    by : (b : Bool) → same_name m n ≡ b → (if b then Some x else k n) ≡ Some y → IsTypedKnown u n y × (known_type y ≡ t)
    by true e z = subst (λ w. IsTypedKnown u n w × (known_type w ≡ t)) (same_Some x y z) (g n t (ap Some (same_name-is m n e)) v)
    by false e z = h n y t z v

pub given-typed : (u : UnitText) (k : Knowledge) (r : Option (List ℕ)) (x : Known) → KnowsTyped u k → GivenTyped u r x → KnowsTyped u (with_given k r (Some x))
given-typed u k None x h g = h
given-typed u k (Some m) x h g = known-typed u k m x h g

pub known-stays : (k : Knowledge) (m n : List ℕ) (x : Known) → IsSome (k n) → IsSome (with_known k m x n)
known-stays k m n x s = at (same_name m n)
  where
    at : (b : Bool) → IsSome (if b then Some x else k n)
    at true = refl
    at false = s

pub given-stays : (k : Knowledge) (r : Option (List ℕ)) (n : List ℕ) (x : Option Known) → IsSome (k n) → IsSome (with_given k r x n)
given-stays k None n x s = s
given-stays k (Some m) n None s = s
given-stays k (Some m) n (Some x) s = known-stays k m n x s

pub given-known : (k : Knowledge) (r : Option (List ℕ)) (n : List ℕ) (x : Known) → is_result_name n r ≡ true → IsSome (with_given k r (Some x) n)
given-known k None n x q = absurd cc
given-known k (Some m) n x q = rw q refl

-- past an instruction, where its result is known
pub there-past : (u : UnitText) (b : BlockText) (before : List LineText) (l : LineText) (k j : Knowledge) → KnowsThere u b before k → ((n : List ℕ) → IsSome (k n) → IsSome (j n))
    → ((n : List ℕ) (t : TypeTree) → value_type u n ≡ Some t → (t ≡ void_type → ⊥) → is_result_name n l.result ≡ true → IsSome (j n))
    → KnowsThere u b (before ++ l ∷ []) j
there-past u b before l k j h stays gives n t v w i = by (is_result_name n l.result) refl
  where
    by : (x : Bool) → is_result_name n l.result ≡ x → IsSome (j n)
    by true q = gives n t v w q
    by false q = stays n (h n t v w (there-before u b before l n q i))

-- ---- the results of `phi` that are to come

phi-more : (k j : Knowledge) (i : InstText) (r : Option (List ℕ)) → ((n : List ℕ) → IsSome (k n) → IsSome (j n)) → PhiGiven k i r → PhiGiven j i r
phi-more k j (phi_text ty es) r m h = λ n q. m n (h n q)
phi-more k j _ r m h = tt

pub phis-more : (k j : Knowledge) (ls : List LineText) → ((n : List ℕ) → IsSome (k n) → IsSome (j n)) → PhisGiven k ls → PhisGiven j ls
phis-more k j [] m h = tt
phis-more k j (l ∷ ls) m h = (phi-more k j l.inst l.result m h.0, phis-more k j ls m h.1)

-- ---- what is known is held

module _ (u : UnitText) (v : Tree → Datum) (r : Part → Range) where
  pub known-shows : (k : Knowledge) (e : Env) (m : List ℕ) (x : Known) → KnownIsHeld u v r k e → KnownIsHeld u v r (with_known k m x) (with_held e m (held_as v r x))
  known-shows k e m x s n y t q o = by (same_name m n) q
    where
      by : (b : Bool) → (if b then Some x else k n) ≡ Some y → (if b then Some (held_as v r x) else e n) ≡ Some (held_as v r y)
      by true z = ap (λ w. Some (held_as v r w)) (same_Some x y z)
      by false z = s n y t z o

  -- what is given is held, where its name has a type
  pub given-shows-typed : (k : Knowledge) (e : Env) (n : Option (List ℕ)) (x : Known) (h : Held) → KnownIsHeld u v r k e
      → ((m : List ℕ) (t : TypeTree) → n ≡ Some m → value_type u m ≡ Some t → h ≡ held_as v r x) → KnownIsHeld u v r (with_given k n (Some x)) (with_result e n h)
  given-shows-typed k e None x h s go n y t q o = s n y t q o
  given-shows-typed k e (Some m) x h s go n y t q o = by (same_name m n) refl q
    where
      by : (b : Bool) → same_name m n ≡ b → (if b then Some x else k n) ≡ Some y → (if b then Some h else e n) ≡ Some (held_as v r y)
      by true z q = ap Some (go n t (ap Some (same_name-is m n z)) o) ∙ ap (λ w. Some (held_as v r w)) (same_Some x y q)
      by false z q = s n y t q o

  pub given-shows : (k : Knowledge) (e : Env) (n : Option (List ℕ)) (x : Known) → KnownIsHeld u v r k e → KnownIsHeld u v r (with_given k n (Some x)) (with_result e n (held_as v r x))
  given-shows k e None x s = s
  given-shows k e (Some m) x s = known-shows k e m x s
