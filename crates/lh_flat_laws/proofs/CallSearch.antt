-- The search of calls finds a function that reaches itself, if one is reached.
use Rattle.std.proofs.Common.{◌≡◌, ◌⊎◌, ℕ, zero, suc, ◌+◌, ◌≤◌, inl, inr, Bool, true, false, ◌||◌, if◌then◌else◌, nat_lt, List, [], ◌∷◌, length, map, Option, Some, None, refl, ap, sym, ◌∙◌, subst, arith}
use Rattle.std.specs.Cmp.{IsEquivalence}
use Rattle.std.specs.List.{IsDistinct, AllByRecursion, list_any}
use Rattle.std.specs.Option.{option_map_or}
use Rattle.std.proofs.lemmas.Bool.{false≢true}
use Rattle.std.proofs.lemmas.List.{length-map}
use Rattle.std.proofs.lemmas.Map.Keys.{IsDistinct-cons}
use Rattle.std.proofs.lemmas.Map.Made.{length-le_from_is_member}
use Rattle.std.proofs.lemmas.Option.{none-some}
use Rattle.lh_unit_names.specs.declared.name.UnitName.{UnitName}
use Rattle.lh_unit_names.specs.UnitNames.{same_unit_name}
use Rattle.lh_unit.specs.Contents.{UnitText}
use Rattle.lh_unit.specs.Named.{function_named}
use Rattle.lh_unit.specs.Typing.{or_else}
use Rattle.lh_unit.specs.Design.{is_one_of, first_some, cycle_at}
use Rattle.lh_unit.proofs.Arenas.{same_unit_name-is, same_unit_name-refl}
use Rattle.lh_unit.proofs.Lists.{not_true, some_inj, or_true}
use Rattle.lh_flat.specs.Calls.{callees, callees_of, recursion_from, nest_deeper}
use Rattle.lh_flat.specs.Flat.{FlatText, refused, recursive_call, flattened_by, flat_in, text_of, max_nested, max_flat, inst_count}
use Rattle.lh_flat_laws.specs.Members.{Among}
use Rattle.lh_flat_laws.specs.Recursion.{Reaches, called, through, IsRecursion, FindsRecursion, RecursionIsFound, RecursionIsRefused}

-- ---- names among others

one-among : (xs : List UnitName) (n : UnitName) → is_one_of xs n ≡ true → Among n xs
one-among [] n h = absurd (false≢true h)
one-among (x ∷ xs) n h = by (same_unit_name x n) refl h (one-among xs n)
  where
    by : (b : Bool) → same_unit_name x n ≡ b → (b || is_one_of xs n) ≡ true → (is_one_of xs n ≡ true → Among n xs) → Among n (x ∷ xs)
    by true q h go = inl (same_unit_name-is x n q)
    by false q h go = inr (go h)

among-one : (xs : List UnitName) (n : UnitName) → Among n xs → is_one_of xs n ≡ true
among-one [] n a = absurd a
among-one (x ∷ xs) n (inl e) = ap (λ y. same_unit_name y n || is_one_of xs n) e ∙ ap (λ b. b || is_one_of xs n) (same_unit_name-refl n)
among-one (x ∷ xs) n (inr a) = ap (λ b. same_unit_name x n || b) (among-one xs n a) ∙ or_true (same_unit_name x n)

-- ---- the first of some answers

first-gives : {A B : Type 0} (f : A → Option B) (xs : List A) (v : B) → first_some f xs ≡ Some v → (x : A) × Among x xs × (f x ≡ Some v)
first-gives f [] v h = absurd (none-some v h)
first-gives f (x ∷ xs) v h = by (f x) refl h (first-gives f xs v)
  where
    by : (o : Option _) → f x ≡ o → or_else o (first_some f xs) ≡ Some v → (first_some f xs ≡ Some v → (y : _) × Among y xs × (f y ≡ Some v)) → (y : _) × Among y (x ∷ xs) × (f y ≡ Some v)
    by (Some w) q h go = (x, inl refl, q ∙ h)
    by None q h go = let r = go h in (r.0, inr r.1, r.2)

none-gives : {A B : Type 0} (f : A → Option B) (xs : List A) → first_some f xs ≡ None → (x : A) → Among x xs → f x ≡ None
none-gives f [] h x a = absurd a
none-gives f (y ∷ xs) h x a = by (f y) refl h a (λ k. none-gives f xs k x)
  where
    by : (o : Option _) → f y ≡ o → or_else o (first_some f xs) ≡ None → (y ≡ x) ⊎ Among x xs → (first_some f xs ≡ None → Among x xs → f x ≡ None) → f x ≡ None
    by (Some w) q h a go = absurd (none-some w (sym h))
    by None q h (inl e) go = ap f (sym e) ∙ q
    by None q h (inr b) go = go h b

module _ (fs : List UnitText) where
  abbrev search : (k : ℕ) → (opened calls : List UnitName) → Option UnitName
  search k opened calls = recursion_from k fs opened calls

  -- what is found below a call
  abbrev below : (k : ℕ) → (opened : List UnitName) → UnitName → Option UnitName
  below k opened g = cycle_at (λ n. search k (n ∷ opened) (callees_of fs n)) (is_one_of opened g) g

  -- ---- what is found is right

  reaches-on : (ns : List UnitName) (g h : UnitName) → Reaches fs ns g → Among h (callees_of fs g) → Reaches fs ns h
  reaches-on ns g h (called _ _ a) k = through ns g h a (called (callees_of fs g) h k)
  reaches-on ns g h (through _ x _ a r) k = through ns x h a (reaches-on (callees_of fs x) g h r k)

  -- each open function reaches those that are called now
  abbrev Open : (opened calls : List UnitName) → Type 0
  Open opened calls = (o : UnitName) → Among o opened → (g : UnitName) → Among g calls → Reaches fs (callees_of fs o) g

  open-on : (opened calls : List UnitName) (g : UnitName) → Among g calls → Open opened calls → Open (g ∷ opened) (callees_of fs g)
  open-on opened calls g a h o (inl e) x c = subst (λ y. Reaches fs (callees_of fs y) x) e (called (callees_of fs g) x c)
  open-on opened calls g a h o (inr b) x c = reaches-on (callees_of fs o) g x (h o b g a) c

  found : (k : ℕ) (opened calls : List UnitName) (f : UnitName) → Open opened calls → search k opened calls ≡ Some f → Reaches fs calls f × Reaches fs (callees_of fs f) f
  found zero opened calls f h e = absurd (none-some f e)
  found (suc k) opened calls f h e =
      let r = first-gives (below k opened) calls f e in by r.0 r.1 (is_one_of opened r.0) refl r.2 (λ g a. found k (g ∷ opened) (callees_of fs g) f (open-on opened calls g a h))
    where
      by : (g : UnitName) → Among g calls → (b : Bool) → is_one_of opened g ≡ b → cycle_at (λ n. search k (n ∷ opened) (callees_of fs n)) b g ≡ Some f
          → ((g : UnitName) → Among g calls → search k (g ∷ opened) (callees_of fs g) ≡ Some f → Reaches fs (callees_of fs g) f × Reaches fs (callees_of fs f) f)
          → Reaches fs calls f × Reaches fs (callees_of fs f) f
      by g a true q e go = subst (λ x. Reaches fs calls x × Reaches fs (callees_of fs x) x) (some_inj g f e) (called calls g a, h g (one-among opened g q) g a)
      by g a false q e go = let r = go g a e in (through calls g f a r.0, r.1)

  -- ---- there are steps enough

  abbrev names : List UnitName
  names = map (λ (u : UnitText). u.name) fs

  named-there : (n : UnitName) (us : List UnitText) (u : UnitText) → function_named n us ≡ Some u → Among n (map (λ (u : UnitText). u.name) us)
  named-there n [] u e = absurd (none-some u e)
  named-there n (x ∷ us) u e = by (same_unit_name x.name n) refl e (named-there n us u)
    where
      by : (b : Bool) → same_unit_name x.name n ≡ b → (if b then Some x else function_named n us) ≡ Some u → (function_named n us ≡ Some u → Among n (map (λ (u : UnitText). u.name) us))
          → Among n (map (λ (u : UnitText). u.name) (x ∷ us))
      by true q e go = inl (same_unit_name-is x.name n q)
      by false q e go = inr (go e)

  -- a function that calls one is there
  caller-there : (g h : UnitName) → Among h (callees_of fs g) → Among g names
  caller-there g h a = by (function_named g fs) refl a
    where
      by : (o : Option UnitText) → function_named g fs ≡ o → Among h (option_map_or callees o []) → Among g names
      by None q a = absurd a
      by (Some u) q a = named-there g fs u q

  same-equivalence : IsEquivalence same_unit_name
  same-equivalence = record {
    refl = same_unit_name-refl;
    symm = λ x y. by-symm x y (same_unit_name x y) refl;
    congr = λ x y z e. ap (λ w. same_unit_name w z) (same_unit_name-is x y e);
  }
    where
      by-symm : (x y : UnitName) (b : Bool) → same_unit_name x y ≡ b → b ≡ same_unit_name y x
      by-symm x y true q = let e : x ≡ y = same_unit_name-is x y q in sym (ap (λ z. same_unit_name y z) e ∙ same_unit_name-refl y)
      by-symm x y false q = sym (not_true (same_unit_name y x) (λ r. let e : y ≡ x = same_unit_name-is y x r in false≢true (sym q ∙ ap (λ z. same_unit_name z y) (sym e) ∙ same_unit_name-refl y)))

  listed : (xs : List UnitName) (n : UnitName) → Among n xs → list_any (same_unit_name n) xs ≡ true
  listed [] n a = absurd a
  listed (x ∷ xs) n (inl e) = ap (λ y. same_unit_name n y || list_any (same_unit_name n) xs) e ∙ ap (λ b. b || list_any (same_unit_name n) xs) (same_unit_name-refl n)
  listed (x ∷ xs) n (inr a) = ap (λ b. same_unit_name n x || b) (listed xs n a) ∙ or_true (same_unit_name n x)

  unlisted : (xs : List UnitName) (n : UnitName) → list_any (same_unit_name n) xs ≡ true → Among n xs
  unlisted [] n h = absurd (false≢true h)
  unlisted (x ∷ xs) n h = by (same_unit_name n x) refl h (unlisted xs n)
    where
      by : (b : Bool) → same_unit_name n x ≡ b → (b || list_any (same_unit_name n) xs) ≡ true → (list_any (same_unit_name n) xs ≡ true → Among n xs) → Among n (x ∷ xs)
      by true q h go = inl (sym (same_unit_name-is n x q))
      by false q h go = inr (go h)

  -- no function is open twice; each that is open is there, where it calls; and there are steps for one more than there are functions
  record HasSteps (k : ℕ) (opened calls : List UnitName) : Type 0 where
    once : IsDistinct same_unit_name opened
    there : (g : UnitName) → Among g calls → (o : UnitName) → Among o opened → Among o names
    enough : suc (length fs) ≤ k + length opened

  few-open : (opened : List UnitName) → IsDistinct same_unit_name opened → ((o : UnitName) → Among o opened → Among o names) → length opened ≤ length fs
  few-open opened d h =
      let l : length opened ≤ length names = length-le_from_is_member same-equivalence opened names d (λ q m. listed names q (h q (unlisted opened q m))) in
      subst (λ n. length opened ≤ n) (length-map fs (λ (u : UnitText). u.name)) l

  steps-left : (k : ℕ) (opened calls : List UnitName) (g : UnitName) → HasSteps k opened calls → Among g calls → (j : ℕ) × (k ≡ suc j)
  steps-left zero opened calls g s a = let l = few-open opened s.once (s.there g a) in let e = s.enough in absurd (omega (arith, l, e))
  steps-left (suc j) opened calls g s a = (j, refl)

  steps-on : (j : ℕ) (opened calls : List UnitName) (g : UnitName) → HasSteps (suc j) opened calls → Among g calls → is_one_of opened g ≡ false → HasSteps j (g ∷ opened) (callees_of fs g)
  steps-on j opened calls g s a q = record {
    once = IsDistinct-cons same_unit_name g opened (apart opened q) s.once;
    there = there;
    enough = let e = s.enough in omega (arith, e);
  }
    where
      there : (x : UnitName) → Among x (callees_of fs g) → (o : UnitName) → Among o (g ∷ opened) → Among o names
      there x c o (inl e) = subst (λ y. Among y names) e (caller-there g x c)
      there x c o (inr b) = s.there g a o b

      apart : (xs : List UnitName) → is_one_of xs g ≡ false → AllByRecursion (λ y. same_unit_name g y ≡ false) xs
      apart [] q = tt
      apart (x ∷ xs) q = by (same_unit_name x g) refl q (apart xs)
        where
          by : (b : Bool) → same_unit_name x g ≡ b → (b || is_one_of xs g) ≡ false → (is_one_of xs g ≡ false → AllByRecursion (λ y. same_unit_name g y ≡ false) xs)
              → AllByRecursion (λ y. same_unit_name g y ≡ false) (x ∷ xs)
          by true z q go = absurd (false≢true (sym q))
          by false z q go = (same-equivalence.symm g x ∙ z, go q)

  -- ---- where nothing is found, nothing is open that is reached

  none-below : (j : ℕ) (opened calls : List UnitName) (g : UnitName) → search (suc j) opened calls ≡ None → Among g calls
      → (is_one_of opened g ≡ false) × (search j (g ∷ opened) (callees_of fs g) ≡ None)
  none-below j opened calls g e a = by (is_one_of opened g) refl (none-gives (below j opened) calls e g a)
    where
      by : (b : Bool) → is_one_of opened g ≡ b → cycle_at (λ n. search j (n ∷ opened) (callees_of fs n)) b g ≡ None → (b ≡ false) × (search j (g ∷ opened) (callees_of fs g) ≡ None)
      by true q z = absurd (none-some g (sym z))
      by false q z = (refl, z)

  -- what is left to search behind a call
  record Below (opened calls : List UnitName) (g : UnitName) : Type 0 where
    steps : ℕ
    new : is_one_of opened g ≡ false
    has : HasSteps steps (g ∷ opened) (callees_of fs g)
    none : search steps (g ∷ opened) (callees_of fs g) ≡ None

  behind : (k : ℕ) (opened calls : List UnitName) (g : UnitName) → HasSteps k opened calls → search k opened calls ≡ None → Among g calls → Below opened calls g
  behind k opened calls g s e a =
      let j = steps-left k opened calls g s a in
      let n = none-below j.0 opened calls g (ap (λ m. search m opened calls) (sym j.1) ∙ e) a in
      record { steps = j.0; new = n.0; has = steps-on j.0 opened calls g (subst (λ m. HasSteps m opened calls) j.1 s) a n.0; none = n.1 }

  not-open : (opened calls : List UnitName) (f : UnitName) → Reaches fs calls f → (k : ℕ) → HasSteps k opened calls → search k opened calls ≡ None → is_one_of opened f ≡ false
  not-open opened calls f (called _ _ a) k s e = (behind k opened calls f s e a).new
  not-open opened calls f (through _ g _ a r) k s e =
      let b = behind k opened calls g s e a in
      rest (same_unit_name g f) (is_one_of opened f) (not-open (g ∷ opened) (callees_of fs g) f r b.steps b.has b.none)
    where
      rest : (x y : Bool) → (x || y) ≡ false → y ≡ false
      rest false y q = q
      rest true y q = absurd (false≢true (sym q))

  none-itself : (opened calls : List UnitName) (f : UnitName) → Reaches fs calls f → Reaches fs (callees_of fs f) f → (k : ℕ) → HasSteps k opened calls → search k opened calls ≡ None → ⊥
  none-itself opened calls f (called _ _ a) i k s e =
      let b = behind k opened calls f s e a in
      let n : is_one_of (f ∷ opened) f ≡ false = not-open (f ∷ opened) (callees_of fs f) f i b.steps b.has b.none in
      false≢true (sym n ∙ among-one (f ∷ opened) f (inl refl))
  none-itself opened calls f (through _ g _ a r) i k s e = let b = behind k opened calls g s e a in none-itself (g ∷ opened) (callees_of fs g) f r i b.steps b.has b.none

  none-twice : IsDistinct same_unit_name []
  unfolding IsDistinct
  none-twice = tt

  at-first : (u : UnitText) → HasSteps (suc (length fs)) [] (callees u)
  at-first u = record { once = none-twice; there = λ g a o b. absurd b; enough = omega arith }

  finds : (u : UnitText) → FindsRecursion fs u (search (suc (length fs)) [] (callees u))
  finds u = by (search (suc (length fs)) [] (callees u)) refl
    where
      by : (o : Option UnitName) → search (suc (length fs)) [] (callees u) ≡ o → FindsRecursion fs u o
      by (Some f) e = let r = found (suc (length fs)) [] (callees u) f (λ o a. absurd a) e in record { reached = r.0; itself = r.1 }
      by None e = λ f r. none-itself [] (callees u) f r.reached r.itself (suc (length fs)) (at-first u) e

pub recursion-found : RecursionIsFound
recursion-found fs u = finds fs u

-- ---- so a flat text is refused

refusal-is : (o : Option UnitName) (deep large : Bool) (t : FlatText) (f : UnitName) → flattened_by o deep large t ≡ refused (recursive_call f) → o ≡ Some f
refusal-is (Some g) deep large t f e = let q : g ≡ f = cc in ap Some q
refusal-is None true large t f e = absurd cc
refusal-is None false true t f e = absurd cc
refusal-is None false false t f e = absurd cc

pub recursion-refused : RecursionIsRefused
unfolding flat_in
recursion-refused fs u = (
  λ f e.
      let q = refusal-is (recursion_from (suc (length fs)) fs [] (callees u)) (nest_deeper max_nested fs (callees u)) (nat_lt max_flat (inst_count (text_of fs u).blocks)) (text_of fs u) f e in
      subst (FindsRecursion fs u) q (recursion-found fs u),
  λ f r. by f r (recursion_from (suc (length fs)) fs [] (callees u)) (recursion-found fs u),
)
  where
    by : (f : UnitName) → IsRecursion fs u f → (o : Option UnitName) → FindsRecursion fs u o
        → (g : UnitName) × (flattened_by o (nest_deeper max_nested fs (callees u)) (nat_lt max_flat (inst_count (text_of fs u).blocks)) (text_of fs u) ≡ refused (recursive_call g))
    by f r (Some g) h = (g, refl)
    by f r None h = absurd (h f r)
