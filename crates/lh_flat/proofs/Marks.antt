-- Names with marks: how they are told apart.
use Rattle.std.proofs.Common.{◌≡◌, ℕ, suc, ◌+◌, ◌<◌, Bool, true, false, nat_lt, if◌then◌else◌, List, [], ◌∷◌, ◌++◌, refl, ap, sym, ◌∙◌, subst, arith}
use Rattle.std.proofs.lemmas.Bool.{false_from_ne_true}
use Rattle.std.proofs.lemmas.Grind.{common_steps}
use Rattle.std.proofs.lemmas.List.{append_cancel_left, append-nil, append_assoc}
use Rattle.lh_unit_names.specs.Names.{same_name}
use Rattle.lh_unit_names.proofs.NameLists.{same_name-is, same_name-refl}
use Rattle.lh_flat.specs.Marks.{marks, IsPlain}

pub not_same : (a b : List ℕ) → (a ≡ b → ⊥) → same_name a b ≡ false
not_same a b h = false_from_ne_true (same_name a b) (λ e. h (same_name-is a b e))

pub is_same : (a b : List ℕ) → a ≡ b → same_name a b ≡ true
is_same a b e = subst (λ n. same_name a n ≡ true) e (same_name-refl a)

-- two names are one, or not
pub data Names (a b : List ℕ) : Type 0 where
  one : a ≡ b → same_name a b ≡ true → Names a b
  two : (a ≡ b → ⊥) → same_name a b ≡ false → Names a b

pub names : (a b : List ℕ) → Names a b
names a b = by (same_name a b) refl
  where
    by : (c : Bool) → same_name a b ≡ c → Names a b
    by true e = one (same_name-is a b e) e
    by false e = two (λ q. let y : same_name a b ≡ true = is_same a b q in cc) e

pub differ-same : (a b : List ℕ) → same_name a b ≡ false → a ≡ b → ⊥
differ-same a b e q = let y : same_name a b ≡ true = is_same a b q in cc

mark_first : (b : Bool) (m : ℕ) → ℕ
mark_first b m = if b then m else suc m

pub marks-append : (xs ys : List ℕ) → marks (xs ++ ys) ≡ marks xs + marks ys
marks-append [] ys = zero_first (marks ys)
  where
    zero_first : (n : ℕ) → n ≡ 0 + n
    zero_first n = omega arith
marks-append (c ∷ xs) ys = ap (λ m. if nat_lt c 256 then m else suc m) (marks-append xs ys) ∙ by (nat_lt c 256) (marks xs) (marks ys)
  where
    by : (b : Bool) (m n : ℕ) → (if b then m + n else suc (m + n)) ≡ (if b then m else suc m) + n
    by true m n = refl
    by false m n = omega arith

big : (k : ℕ) → nat_lt (256 + k) 256 ≡ false
big k = grind (arith, common_steps)

pub marks-mark : (k : ℕ) (z : List ℕ) → marks ((256 + k) ∷ z) ≡ suc (marks z)
marks-mark k z = ap (λ b. if b then marks z else suc (marks z)) (big k)

-- a name of bytes begins with a byte
pub plain-first : (c : ℕ) (n : List ℕ) → IsPlain (c ∷ n) → (c < 256) × IsPlain n
plain-first c n p = by (nat_lt c 256) refl p
  where
    below : (x : ℕ) → nat_lt x 256 ≡ true → x < 256
    below x e = grind (arith, common_steps)

    by : (b : Bool) → nat_lt c 256 ≡ b → (if b then marks n else suc (marks n)) ≡ 0 → (c < 256) × IsPlain n
    by true e q = (below c e, q)
    by false e q = absurd (omega (arith, q))

-- nothing stands behind a name of bytes, or a mark
pub data Behind (z : List ℕ) : Type 0 where
  nothing_behind : z ≡ [] → Behind z
  mark_behind : (k : ℕ) (y : List ℕ) → z ≡ (256 + k) ∷ y → Behind z

no_byte : (c : ℕ) (n z : List ℕ) → c < 256 → Behind z → z ≡ c ∷ n → ⊥
no_byte c n z l (nothing_behind e) q = empty (sym e ∙ q)
  where
    empty : [] ≡ c ∷ n → ⊥
    empty r = cc
no_byte c n z l (mark_behind k y e) q = let h : 256 + k ≡ c = heads (256 + k) c y n (sym e ∙ q) in omega (arith, h)
  where
    heads : (a b : ℕ) (x y : List ℕ) → a ∷ x ≡ b ∷ y → a ≡ b
    heads a b x y r = cc

-- so two names of bytes with something behind each are told apart
pub plain-apart : (m n y z : List ℕ) → IsPlain m → IsPlain n → Behind y → Behind z → m ++ y ≡ n ++ z → m ≡ n
plain-apart [] [] y z p q b c e = refl
plain-apart [] (d ∷ n) y z p q b c e = absurd (no_byte d (n ++ z) y (plain-first d n q).0 b e)
plain-apart (d ∷ m) [] y z p q b c e = absurd (no_byte d (m ++ y) z (plain-first d m p).0 c (sym e))
plain-apart (d ∷ m) (f ∷ n) y z p q b c e =
    let h : d ≡ f = heads d f (m ++ y) (n ++ z) e in
    let t : m ++ y ≡ n ++ z = tails d f (m ++ y) (n ++ z) e in
    let r : m ≡ n = plain-apart m n y z (plain-first d m p).1 (plain-first f n q).1 b c t in
    λ i. h i ∷ r i
  where
    heads : (a b : ℕ) (x y : List ℕ) → a ∷ x ≡ b ∷ y → a ≡ b
    heads a b x y r = cc

    tails : (a b : ℕ) (x y : List ℕ) → a ∷ x ≡ b ∷ y → x ≡ y
    tails a b x y r = cc

-- the same behind a path
pub path-apart : (p m n y z : List ℕ) → IsPlain m → IsPlain n → Behind y → Behind z → (p ++ m) ++ y ≡ (p ++ n) ++ z → m ≡ n
path-apart p m n y z a b c d e = plain-apart m n y z a b c d (append_cancel_left p (m ++ y) (n ++ z) (sym (append_assoc p m y) ∙ e ∙ append_assoc p n z))

-- a path is not the path with something behind it
pub longer-apart : (p z : List ℕ) → (z ≡ [] → ⊥) → p ++ z ≡ p → ⊥
longer-apart p z h e = h (append_cancel_left p z [] (e ∙ sym (append-nil p)))

-- what stands in front of something is not empty
pub not_empty : (m z : List ℕ) → (m ≡ [] → ⊥) → m ++ z ≡ [] → ⊥
not_empty [] z h e = h refl
not_empty (c ∷ m) z h e = empty e
  where
    empty : (c ∷ m) ++ z ≡ [] → ⊥
    empty r = cc

-- fewer marks are others
pub fewer-apart : (m n : List ℕ) → marks m < marks n → m ≡ n → ⊥
fewer-apart m n l e = let h : marks m ≡ marks n = ap marks e in omega (arith, l, h)
