-- Lists with one more item, distinct keys, maps and lists of lists.
use Rattle.std.proofs.Common.{◌≡◌, ◌≢◌, ℕ, ◌+◌, ◌<◌, zero, suc, true, nat_eq, List, [], ◌∷◌, ◌++◌, length, map, drop, get_or, Option, Some, None, is_some, slice_get, refl, ap, sym, ◌∙◌, subst, arith, append_assoc, Bool, false}
use Rattle.std.proofs.lemmas.List.{map-append, drop_more}
use Rattle.std.proofs.lemmas.Grind.{common_steps}
use Rattle.lh_unit_names.proofs.Lists.{before, at, past, trichotomy}
use Rattle.lh_unit.specs.Table.{flat}
use Rattle.lh_unit.specs.Within.{Each}
use Rattle.lh_unit.specs.Design.{first_some}
use Rattle.lh_unit.specs.Typing.{or_else, if_made}
-- std's laws of tests and of equal options
pub use Rattle.std.proofs.Math.Bool.{or-false as or_false, or-true as or_true, or_assoc as or-assoc}
pub use Rattle.std.proofs.lemmas.Bool.{false_from_ne_true as not_true, ne_eqb as nat_eq-other}
pub use Rattle.std.proofs.lemmas.Option.{same_Some as some_inj}
pub use Rattle.lh_types.specs.Same.{nat_eq-is, nat_eq-refl}
use Rattle.std.proofs.lemmas.Bool.{or_parts}
use Rattle.std.specs.List.{list_any}
use Rattle.lh_types.specs.declared.ty.TyFault.{TyFault}
use Rattle.lh_types.specs.Types.{TypeTree}

-- two numbers are one or not
pub data Same (a b : ℕ) : Type 0 where
  same : a ≡ b → Same a b
  other : a ≢ b → Same a b

pub same_or : (a b : ℕ) → Same a b
same_or a b = elim (trichotomy b a) [ before h ↦ other (λ e. omega (arith, h, e)) | at h ↦ same h | past h ↦ other (λ e. omega (arith, h, e)) ]

pub nat_eq-next : (a b : ℕ) → nat_eq (a + 1) (b + 1) ≡ nat_eq a b
nat_eq-next a b = grind (arith, common_steps)

-- one more default at the end changes no read
pub get_or-push_default : {X : Type 0} (xs : List X) (d : X) (k : ℕ) → get_or (xs ++ d ∷ []) k d ≡ get_or xs k d
get_or-push_default [] d zero = refl
get_or-push_default [] d (suc k) = refl
get_or-push_default (x ∷ xs) d zero = refl
get_or-push_default (x ∷ xs) d (suc k) = get_or-push_default xs d k

-- a list that is not empty is what comes before its last item, and that item
pub front_last : {X : Type 0} (xs : List X) (d : X) (n : ℕ) → length xs ≡ suc n → (front : List X) × (xs ≡ front ++ get_or xs n d ∷ [])
front_last [] d n h = absurd (omega arith)
front_last (x ∷ []) d zero h = ([], refl)
front_last (x ∷ []) d (suc n) h = absurd (omega arith)
front_last (x ∷ y ∷ xs) d zero h = absurd (omega arith)
front_last (x ∷ y ∷ xs) d (suc n) h = let r = front_last (y ∷ xs) d n (omega arith) in (x ∷ r.0, ap (λ l. x ∷ l) r.1)

-- the item at an index, and those behind it
pub drop-item : {X : Type 0} (xs : List X) (i : ℕ) (x : X) → i < length xs → x ≡ get_or xs i x → drop i xs ≡ x ∷ drop (i + 1) xs
drop-item xs i x h e = drop_more xs i x h ∙ ap (λ y. y ∷ drop (i + 1) xs) (sym e)

-- where something is read, the list goes on
pub some-within : {X : Type 0} (xs : List (Option X)) (k : ℕ) → is_some (get_or xs k None) ≡ true → k < length xs
some-within [] zero h = absurd cc
some-within [] (suc k) h = absurd cc
some-within (x ∷ xs) zero h = omega arith
some-within (x ∷ xs) (suc k) h = omega (arith, some-within xs k h)

-- maps of functions that agree
pub map-ext : {X Y : Type 0} (f g : X → Y) (xs : List X) → ((x : X) → f x ≡ g x) → map f xs ≡ map g xs
map-ext f g [] h = refl
map-ext f g (x ∷ xs) h = let e : f x ≡ g x = h x in let r : map f xs ≡ map g xs = map-ext f g xs h in λ i. e i ∷ r i

pub map-same : {X Y : Type 0} (f g : X → Y) (xs : List X) → ((i : ℕ) (x : X) → slice_get xs i ≡ Some x → f x ≡ g x) → map f xs ≡ map g xs
map-same f g [] h = refl
map-same f g (x ∷ xs) h = let e : f x ≡ g x = h 0 x refl in let r : map f xs ≡ map g xs = map-same f g xs (λ i y p. h (suc i) y p) in λ i. e i ∷ r i

pub map-each : {X Y : Type 0} (P : X → Type 0) (f g : X → Y) (xs : List X) → ((x : X) → P x → f x ≡ g x) → Each P xs → map f xs ≡ map g xs
map-each P f g [] h w = refl
map-each P f g (x ∷ xs) h w = let e : f x ≡ g x = h x w.0 in let r : map f xs ≡ map g xs = map-each P f g xs h w.1 in λ i. e i ∷ r i

pub map-map : {X Y Z : Type 0} (f : Y → Z) (g : X → Y) (xs : List X) → map f (map g xs) ≡ map (λ x. f (g x)) xs
map-map f g [] = refl
map-map f g (x ∷ xs) = ap (λ l. f (g x) ∷ l) (map-map f g xs)

pub Each-append : {X : Type 0} (P : X → Type 0) (xs ys : List X) → Each P xs → Each P ys → Each P (xs ++ ys)
Each-append P [] ys w v = v
Each-append P (x ∷ xs) ys w v = (w.0, Each-append P xs ys w.1 v)

pub Each-left : {X : Type 0} (P : X → Type 0) (xs ys : List X) → Each P (xs ++ ys) → Each P xs
Each-left P [] ys w = tt
Each-left P (x ∷ xs) ys w = (w.0, Each-left P xs ys w.1)

pub Each-right : {X : Type 0} (P : X → Type 0) (xs ys : List X) → Each P (xs ++ ys) → Each P ys
Each-right P [] ys w = w
Each-right P (x ∷ xs) ys w = Each-right P xs ys w.1

-- what holds of each item holds of the one at an index
pub Each-at : {X : Type 0} (P : X → Type 0) (xs : List X) (i : ℕ) (d : X) → Each P xs → i < length xs → P (get_or xs i d)
Each-at P [] i d w h = absurd (omega arith)
Each-at P (x ∷ xs) zero d w h = w.0
Each-at P (x ∷ xs) (suc i) d w h = Each-at P xs i d w.1 (omega arith)

pub Each-item : {X : Type 0} (P : X → Type 0) (xs : List X) (i : ℕ) (x : X) → Each P xs → i < length xs → x ≡ get_or xs i x → P x
Each-item P xs i x w h e = subst P (sym e) (Each-at P xs i x w h)

pub Each-get : {X : Type 0} (P : X → Type 0) (xs : List X) (i : ℕ) (x : X) → Each P xs → slice_get xs i ≡ Some x → P x
Each-get P [] i x w e = cc
Each-get P (y ∷ xs) zero x w e = let q : y ≡ x = cc in subst P q w.0
Each-get P (y ∷ xs) (suc i) x w e = Each-get P xs i x w.1 e

-- lists of lists
pub flat-append : {X : Type 0} (xs ys : List (List X)) → flat (xs ++ ys) ≡ flat xs ++ flat ys
flat-append [] ys = refl
flat-append (x ∷ xs) ys = ap (λ l. x ++ l) (flat-append xs ys) ∙ sym (append_assoc x (flat xs) (flat ys))

pub map-flat : {X Y : Type 0} (f : X → Y) (xs : List (List X)) → map f (flat xs) ≡ flat (map (map f) xs)
map-flat f [] = refl
map-flat f (x ∷ xs) = map-append f x (flat xs) ∙ ap (λ l. map f x ++ l) (map-flat f xs)

pub Each-part : {X Y : Type 0} (P : Y → Type 0) (g : X → List Y) (xs : List X) (i : ℕ) (x : X) → slice_get xs i ≡ Some x → Each P (flat (map g xs)) → Each P (g x)
Each-part P g [] i x p w = cc
Each-part P g (y ∷ xs) zero x p w = let e : y ≡ x = cc in subst (λ z. Each P (g z)) e (Each-left P (g y) (flat (map g xs)) w)
Each-part P g (y ∷ xs) (suc i) x p w = Each-part P g xs i x p (Each-right P (g y) (flat (map g xs)) w)

pub Each-flat : {X Y : Type 0} (P : Y → Type 0) (g : X → List Y) (xs : List X) → Each P (flat (map g xs)) → Each (λ x. Each P (g x)) xs
Each-flat P g [] w = tt
Each-flat P g (x ∷ xs) w = (Each-left P (g x) (flat (map g xs)) w, Each-flat P g xs (Each-right P (g x) (flat (map g xs)) w))

pub Each-from : {X : Type 0} (P : X → Type 0) (xs : List X) → ((i : ℕ) (x : X) → slice_get xs i ≡ Some x → P x) → Each P xs
Each-from P [] h = tt
Each-from P (x ∷ xs) h = (h 0 x refl, Each-from P xs (λ i y e. h (suc i) y e))

pub Each-zip : {X : Type 0} → (P Q R : X → Type 0) → ((x : X) → P x → Q x → R x) → (xs : List X) → Each P xs → Each Q xs → Each R xs
Each-zip P Q R f [] d e = tt
Each-zip P Q R f (x ∷ xs) d e = (f x d.0 e.0, Each-zip P Q R f xs d.1 e.1)

pub Each-of-map : {X Y : Type 0} (P : Y → Type 0) (f : X → Y) (xs : List X) → Each P (map f xs) → Each (λ (x : X). P (f x)) xs
Each-of-map P f [] e = tt
Each-of-map P f (x ∷ xs) e = (e.0, Each-of-map P f xs e.1)

pub Each-next : {X : Type 0} (P : X → Type 0) (xs : List X) (i : ℕ) (d : X) → i < length xs → Each P (drop i xs) → Each P (drop (i + 1) xs)
Each-next P xs i d h e = (subst (Each P) (drop_more xs i d h) e).1

-- tests of which none or the first holds
pub Each-fails : {X : Type 0} → (p : X → Bool) (xs : List X) → list_any p xs ≡ false → Each (λ x. p x ≡ false) xs
Each-fails p [] h = tt
Each-fails p (x ∷ xs) h = let b = or_parts (p x) (list_any p xs) h in (b.0, Each-fails p xs b.1)

pub list_any-none : {X : Type 0} (test : X → Bool) (xs : List X) → Each (λ x. test x ≡ false) xs → list_any test xs ≡ false
list_any-none test [] h = refl
list_any-none test (x ∷ xs) h = rw h.0 (list_any-none test xs h.1)

pub first_some-none : {A B : Type 0} (f : A → Option B) (xs : List A) → Each (λ x. f x ≡ None) xs → first_some f xs ≡ None
first_some-none f [] h = refl
first_some-none f (x ∷ xs) h = ap (λ o. or_else o (first_some f xs)) h.0 ∙ first_some-none f xs h.1

pub or_else-none : {X : Type 0} → (o : Option X) → or_else o None ≡ o
or_else-none None = refl
or_else-none (Some x) = refl

-- a type that was made has no fault, and is the one that was to be made
pub if_made-is : (f : Option TyFault) (t s : TypeTree) → if_made f t ≡ Some s → (f ≡ None) × (t ≡ s)
if_made-is None t s q = (refl, cc)
if_made-is (Some x) t s q = cc
