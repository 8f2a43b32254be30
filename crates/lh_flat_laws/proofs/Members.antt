-- Members of lists.
use Rattle.std.proofs.Common.{◌≡◌, ◌⊎◌, inl, inr, List, [], ◌∷◌, ◌++◌, map, Bool, true, false, filter, if◌then◌else◌, refl, ap, sym, ◌∙◌, subst}
use Rattle.std.specs.List.{flat_map}
use Rattle.lh_unit.specs.Within.{Each}
use Rattle.lh_flat_laws.specs.Members.{Among}

pub in-each : {X : Type 0} (P : X → Type 0) (xs : List X) (x : X) → Each P xs → Among x xs → P x
in-each P [] x h a = absurd a
in-each P (y ∷ ys) x h (inl e) = subst P e h.0
in-each P (y ∷ ys) x h (inr a) = in-each P ys x h.1 a

pub each-among : {X : Type 0} (P : X → Type 0) (xs : List X) → ((x : X) → Among x xs → P x) → Each P xs
each-among P [] go = tt
each-among P (x ∷ xs) go = (go x (inl refl), each-among P xs (λ y a. go y (inr a)))

pub among-left : {X : Type 0} (x : X) (xs ys : List X) → Among x xs → Among x (xs ++ ys)
among-left x [] ys a = absurd a
among-left x (y ∷ xs) ys (inl e) = inl e
among-left x (y ∷ xs) ys (inr a) = inr (among-left x xs ys a)

pub among-right : {X : Type 0} (x : X) (xs ys : List X) → Among x ys → Among x (xs ++ ys)
among-right x [] ys a = a
among-right x (y ∷ xs) ys a = inr (among-right x xs ys a)

pub among-split : {X : Type 0} (x : X) (xs ys : List X) → Among x (xs ++ ys) → Among x xs ⊎ Among x ys
among-split x [] ys a = inr a
among-split x (y ∷ xs) ys (inl e) = inl (inl e)
among-split x (y ∷ xs) ys (inr a) = at (among-split x xs ys a)
  where
    at : Among x xs ⊎ Among x ys → Among x (y ∷ xs) ⊎ Among x ys
    at (inl b) = inl (inr b)
    at (inr b) = inr b

-- a member that passes stands in what a filter leaves
pub among-filter : {X : Type 0} (p : X → Bool) (x : X) (xs : List X) → Among x xs → p x ≡ true → Among x (filter p xs)
among-filter p x [] a h = absurd a
among-filter p x (y ∷ ys) (inl e) h = rw (ap p e ∙ h) (inl e)
among-filter p x (y ∷ ys) (inr a) h = at (p y) (among-filter p x ys a h)
  where
    at : (b : Bool) → Among x (filter p ys) → Among x (if b then y ∷ filter p ys else filter p ys)
    at true g = inr g
    at false g = g

-- and what it leaves is of the list, and passes
pub filter-among : {X : Type 0} (p : X → Bool) (x : X) (xs : List X) → Among x (filter p xs) → Among x xs × (p x ≡ true)
filter-among p x [] a = absurd a
filter-among p x (y ∷ ys) a = at (filter-among p x ys) (p y) refl a
  where
    at : (Among x (filter p ys) → Among x ys × (p x ≡ true)) → (b : Bool) → p y ≡ b → Among x (if b then y ∷ filter p ys else filter p ys) → Among x (y ∷ ys) × (p x ≡ true)
    at go true q (inl e) = (inl e, ap p (sym e) ∙ q)
    at go true q (inr g) = let r = go g in (inr r.0, r.1)
    at go false q g = let r = go g in (inr r.0, r.1)

-- ---- members of lists that are made of others

pub among-middle : {X : Type 0} (xs ys : List X) (x : X) → Among x (xs ++ x ∷ ys)
among-middle xs ys x = among-right x xs (x ∷ ys) (inl refl)

pub among-image : {X Y : Type 0} (f : X → Y) (xs : List X) (x : X) → Among x xs → Among (f x) (map f xs)
among-image f [] x a = absurd a
among-image f (y ∷ xs) x (inl e) = inl (ap f e)
among-image f (y ∷ xs) x (inr a) = inr (among-image f xs x a)

pub among-map : {X Y : Type 0} (f : X → Y) (xs : List X) (y : Y) → Among y (map f xs) → (x : X) × Among x xs × (y ≡ f x)
among-map f [] y a = absurd a
among-map f (x ∷ xs) y (inl e) = (x, inl refl, sym e)
among-map f (x ∷ xs) y (inr a) = let r = among-map f xs y a in (r.0, inr r.1, r.2)

pub among-flat : {X Y : Type 0} (f : X → List Y) (xs : List X) (x : X) (y : Y) → Among x xs → Among y (f x) → Among y (flat_map f xs)
among-flat f [] x y h k = absurd h
among-flat f (z ∷ xs) x y (inl e) k = among-left y (f z) (flat_map f xs) (subst (λ w. Among y (f w)) (sym e) k)
among-flat f (z ∷ xs) x y (inr h) k = among-right y (f z) (flat_map f xs) (among-flat f xs x y h k)
