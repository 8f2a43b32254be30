-- The arguments of a unit: each is held under its own name, and no other name is held.
use Rattle.std.proofs.Common.{◌≡◌, ℕ, zero, suc, Bool, true, false, if◌then◌else◌, List, [], ◌∷◌, ◌++◌, map, Some, slice_get, refl, ap, ◌∙◌, subst}
use Rattle.lh_types.specs.Types.{TypeTree, bit_count}
use Rattle.lh_types.specs.declared.part.Range.{Range}
use Rattle.lh_unit.specs.Contents.{ArgText, args_define}
use Rattle.lh_unit_names.specs.Names.{same_name}
use Rattle.lh_unit.specs.Held.{Held, part_held, Env, with_held, with_args}
use Rattle.lh_unit.specs.Reads.{args_repeat}
use Rattle.lh_unit.specs.Typing.{arg_named}
use Rattle.std.proofs.lemmas.Bool.{or_parts}
use Rattle.lh_unit_names.proofs.NameLists.{same_name-is, same_name-refl}
use Rattle.lh_region_def.proofs.Heads.{define-append}

-- no argument has the name of a later one
abbrev pub AreApart : List ArgText → Type 0
AreApart [] = Unit {0}
AreApart (a ∷ more) = (args_define a.name more ≡ false) × AreApart more

defines-last : (n : List ℕ) (xs : List ArgText) (a : ArgText) → a.name ≡ n → args_define n (xs ++ a ∷ []) ≡ true
defines-last n [] a e = rw (← e) (rw same_name-refl refl)
defines-last n (x ∷ xs) a e = at (same_name x.name n) refl (defines-last n xs a e)
  where
    at : (b : Bool) → same_name x.name n ≡ b → args_define n (xs ++ a ∷ []) ≡ true → args_define n ((x ∷ xs) ++ a ∷ []) ≡ true
    at true q r = rw q refl
    at false q r = rw q r

-- a name of those before is none of those after
not-again : (n : List ℕ) (seen xs : List ArgText) → args_define n seen ≡ true → args_repeat seen xs ≡ false → args_define n xs ≡ false
not-again n seen [] h r = refl
not-again n seen (b ∷ more) h r =
    let o = or_parts (args_define b.name seen) (args_repeat (seen ++ b ∷ []) more) r in
    at (same_name b.name n) refl o.0 (not-again n (seen ++ b ∷ []) more (define-append n seen (b ∷ []) h) o.1)
  where
    at : (c : Bool) → same_name b.name n ≡ c → args_define b.name seen ≡ false → args_define n more ≡ false → args_define n (b ∷ more) ≡ false
    at true q o i = let e : args_define n seen ≡ false = subst (λ x. args_define x seen ≡ false) (same_name-is b.name n q) o in absurd cc
    at false q o i = rw q i

apart-from : (seen xs : List ArgText) → args_repeat seen xs ≡ false → AreApart xs
apart-from seen [] h = tt
apart-from seen (a ∷ more) h =
    let o = or_parts (args_define a.name seen) (args_repeat (seen ++ a ∷ []) more) h in
    (not-again a.name (seen ++ a ∷ []) more (defines-last a.name seen a refl) o.1, apart-from (seen ++ a ∷ []) more o.1)

pub are-apart : (xs : List ArgText) → args_repeat [] xs ≡ false → AreApart xs
are-apart xs h = apart-from [] xs h

-- ---- what is held

pub other-held : (n : List ℕ) (xs : List ArgText) (hs : List Held) (e : Env) → args_define n xs ≡ false → with_args e xs hs n ≡ e n
other-held n [] hs e h = refl
other-held n (a ∷ more) [] e h = refl
other-held n (a ∷ more) (x ∷ hs) e h =
    let o = or_parts (same_name a.name n) (args_define n more) h in
    other-held n more hs (with_held e a.name x) o.1 ∙ ap (λ b. if b then Some x else e n) o.0

pub argument-held : (xs : List ArgText) (rs : List Range) (e : Env) (k : ℕ) (a : ArgText) (r : Range) → AreApart xs → slice_get xs k ≡ Some a → slice_get rs k ≡ Some r →
    with_args e xs (map part_held rs) a.name ≡ Some (part_held r)
argument-held [] rs e zero a r w p q = absurd cc
argument-held [] rs e (suc k) a r w p q = absurd cc
argument-held (x ∷ xs) [] e zero a r w p q = absurd cc
argument-held (x ∷ xs) [] e (suc k) a r w p q = absurd cc
argument-held (x ∷ xs) (s ∷ rs) e zero a r w p q =
    let f : x ≡ a = cc in
    let g : s ≡ r = cc in
    subst (λ (z : ArgText). with_args e (x ∷ xs) (map part_held (s ∷ rs)) z.name ≡ Some (part_held r)) f
    (other-held x.name xs (map part_held rs) (with_held e x.name (part_held s)) w.0
    ∙ ap (λ b. if b then Some (part_held s) else e x.name) (same_name-refl x.name) ∙ ap (λ z. Some (part_held z)) g)
argument-held (x ∷ xs) (s ∷ rs) e (suc k) a r w p q = argument-held xs rs (with_held e x.name (part_held s)) k a r w.1 p q

-- ---- types and widths

pub defines-there : (xs : List ArgText) (k : ℕ) (a : ArgText) → slice_get xs k ≡ Some a → args_define a.name xs ≡ true
defines-there [] zero a p = absurd cc
defines-there [] (suc k) a p = absurd cc
defines-there (x ∷ xs) zero a p = let f : x ≡ a = cc in subst (λ (z : ArgText). args_define z.name (x ∷ xs) ≡ true) f (rw same_name-refl refl)
defines-there (x ∷ xs) (suc k) a p = at (same_name x.name a.name) refl (defines-there xs k a p)
  where
    at : (b : Bool) → same_name x.name a.name ≡ b → args_define a.name xs ≡ true → args_define a.name (x ∷ xs) ≡ true
    at true q r = rw q refl
    at false q r = rw q r

pub argument-named : (xs : List ArgText) (k : ℕ) (a : ArgText) → AreApart xs → slice_get xs k ≡ Some a → arg_named a.name xs ≡ Some a
argument-named [] zero a w p = absurd cc
argument-named [] (suc k) a w p = absurd cc
argument-named (x ∷ xs) zero a w p = let f : x ≡ a = cc in subst (λ (z : ArgText). arg_named z.name (x ∷ xs) ≡ Some z) f (rw same_name-refl refl)
argument-named (x ∷ xs) (suc k) a w p = at (same_name x.name a.name) refl (argument-named xs k a w.1 p)
  where
    at : (b : Bool) → same_name x.name a.name ≡ b → arg_named a.name xs ≡ Some a → arg_named a.name (x ∷ xs) ≡ Some a
    at true q r =
        let e : args_define a.name xs ≡ false = subst (λ n. args_define n xs ≡ false) (same_name-is x.name a.name q) w.0 in
        let f : args_define a.name xs ≡ true = defines-there xs k a p in absurd cc
    at false q r = rw q r

-- the bits of an argument are as many as its type has
pub record HasBits (rs : List Range) (k : ℕ) (t : TypeTree) : Type 0 where
  pub range : Range
  pub there : slice_get rs k ≡ Some range
  pub wide : range.len ≡ bit_count t

pub argument-wide : (xs : List ArgText) (rs : List Range) (k : ℕ) (a : ArgText) → map (λ (r : Range). r.len) rs ≡ map (λ (x : ArgText). bit_count x.ty) xs → slice_get xs k ≡ Some a → HasBits rs k a.ty
argument-wide [] rs zero a w p = absurd cc
argument-wide [] rs (suc k) a w p = absurd cc
argument-wide (x ∷ xs) [] k a w p = absurd cc
argument-wide (x ∷ xs) (r ∷ rs) zero a w p = let e : r.len ≡ bit_count x.ty = cc in let f : x ≡ a = cc in record { range = r; there = refl; wide = e ∙ ap (λ (z : ArgText). bit_count z.ty) f }
argument-wide (x ∷ xs) (r ∷ rs) (suc k) a w p =
    let e : map (λ (z : Range). z.len) rs ≡ map (λ (z : ArgText). bit_count z.ty) xs = cc in
    let h = argument-wide xs rs k a e p in record { range = h.range; there = h.there; wide = h.wide }
