-- Names of a flat text that differ: by what stands behind the path, by the label, and by the mark of the line.
use Rattle.std.proofs.Common.{◌≡◌, ℕ, zero, suc, ◌+◌, ◌<◌, ◌≤◌, true, Bool, ◌&&◌, nat_lt, if◌then◌else◌, List, [], ◌∷◌, ◌++◌, length, get_or, refl, ap, sym, ◌∙◌, subst, arith}
use Rattle.std.proofs.lemmas.Grind.{common_steps}
use Rattle.std.proofs.lemmas.List.{append_cancel_left, append_assoc}
use Rattle.lh_unit_names.specs.Names.{is_name_byte, all_name_bytes, IsName}
use Rattle.lh_unit.specs.Within.{Each}
use Rattle.lh_unit.proofs.Lists.{Each-append}
use Rattle.lh_flat.specs.Marks.{marks, IsPlain}
use Rattle.lh_flat.proofs.Marks.{marks-append, marks-mark, Behind, mark_behind, path-apart, not_empty, fewer-apart}

-- none of these is x
abbrev pub Differs : List ℕ → List (List ℕ) → Type 0
Differs x ys = Each (λ y. x ≡ y → ⊥) ys

-- no two of these are one
abbrev pub Apart : List (List ℕ) → Type 0
Apart [] = Unit {0}
Apart (x ∷ xs) = Differs x xs × Apart xs

pub differs-from : (Q : List ℕ → Type 0) (x : List ℕ) (ys : List (List ℕ)) → Each Q ys → ((y : List ℕ) → Q y → x ≡ y → ⊥) → Differs x ys
differs-from Q x [] q h = tt
differs-from Q x (y ∷ ys) q h = (h y q.0, differs-from Q x ys q.1 h)

pub apart-append : (P Q : List ℕ → Type 0) (xs ys : List (List ℕ)) → Apart xs → Apart ys → Each P xs → Each Q ys → ((x y : List ℕ) → P x → Q y → x ≡ y → ⊥) → Apart (xs ++ ys)
apart-append P Q [] ys a b p q h = b
apart-append P Q (x ∷ xs) ys a b p q h =
    (Each-append (λ y. x ≡ y → ⊥) xs ys a.0 (differs-from Q x ys q (λ y w. h x y p.0 w)), apart-append P Q xs ys a.1 b p.1 q h)

-- so a name tells its place
differs-at : (x : List ℕ) (ys : List (List ℕ)) (i : ℕ) → Differs x ys → i < length ys → x ≡ get_or ys i [] → ⊥
differs-at x [] i d l e = absurd (omega arith)
differs-at x (y ∷ ys) zero d l e = d.0 e
differs-at x (y ∷ ys) (suc i) d l e = differs-at x ys i d.1 (omega arith) e

pub apart-at : (xs : List (List ℕ)) (i j : ℕ) → Apart xs → i < length xs → j < length xs → get_or xs i [] ≡ get_or xs j [] → i ≡ j
apart-at [] i j a l m e = absurd (omega arith)
apart-at (x ∷ xs) zero zero a l m e = refl
apart-at (x ∷ xs) zero (suc j) a l m e = absurd (differs-at x xs j a.0 (omega arith) e)
apart-at (x ∷ xs) (suc i) zero a l m e = absurd (differs-at x xs i a.0 (omega arith) (sym e))
apart-at (x ∷ xs) (suc i) (suc j) a l m e = ap suc (apart-at xs i j a.1 (omega arith) (omega arith) e)

-- a name has no mark, and is not empty
plain_byte : (c : ℕ) (b : Bool) → (is_name_byte c && b) ≡ true → (nat_lt c 256 ≡ true) × (b ≡ true)
plain_byte c b e = (grind (arith, common_steps), grind (arith, common_steps))

plain-bytes : (n : List ℕ) → all_name_bytes n ≡ true → IsPlain n
plain-bytes [] e = refl
plain-bytes (c ∷ n) e = let r : (nat_lt c 256 ≡ true) × (all_name_bytes n ≡ true) = plain_byte c (all_name_bytes n) e in ap (λ b. if b then marks n else suc (marks n)) r.0 ∙ plain-bytes n r.1

pub plain-name : (n : List ℕ) → IsName n → IsPlain n
plain-name n h = plain-bytes n h.2

pub name-there : (n : List ℕ) → IsName n → n ≡ [] → ⊥
name-there n h e = let l : length n ≡ 0 = ap length e in omega (arith, h.0, l)

-- it begins with the path, and more stands behind
abbrev pub Begins : List ℕ → List ℕ → Type 0
Begins p x = (y : List ℕ) × (y ≡ [] → ⊥) × (x ≡ p ++ y)

-- it stands at this label of the copy with this path
abbrev pub At : (path label : List ℕ) → List ℕ → Type 0
At p m x = (z : List ℕ) × Behind z × (x ≡ (p ++ m) ++ z)

-- it stands behind the mark of line k
abbrev pub Under : (path label : List ℕ) → (k : ℕ) → List ℕ → Type 0
Under p m k x = (y : List ℕ) × (x ≡ ((p ++ m) ++ (256 + k) ∷ []) ++ y)

-- behind that of line k or of a later one
abbrev pub UnderFrom : (path label : List ℕ) → (k : ℕ) → List ℕ → Type 0
UnderFrom p m k x = (j : ℕ) × (k ≤ j) × Under p m j x

pub under-at : (p m : List ℕ) (k : ℕ) (x : List ℕ) → Under p m k x → At p m x
under-at p m k x h = ((256 + k) ∷ h.0, mark_behind k h.0 refl, h.1 ∙ append_assoc (p ++ m) ((256 + k) ∷ []) h.0)

pub from-at : (p m : List ℕ) (k : ℕ) (x : List ℕ) → UnderFrom p m k x → At p m x
from-at p m k x h = under-at p m h.0 x h.2

pub from-first : (p m : List ℕ) (k : ℕ) (x : List ℕ) → Under p m k x → UnderFrom p m k x
from-first p m k x h = (k, omega arith, h)

pub from-later : (p m : List ℕ) (k : ℕ) (x : List ℕ) → UnderFrom p m (k + 1) x → UnderFrom p m k x
from-later p m k x h = (h.0, omega (arith, h.1), h.2)

pub at-apart : (p m n x y : List ℕ) → IsPlain m → IsPlain n → At p m x → At p n y → x ≡ y → m ≡ n
at-apart p m n x y a b h k e = path-apart p m n h.0 k.0 a b h.1 k.1 (sym h.2 ∙ e ∙ k.2)

pub begins-under : (p m : List ℕ) (k : ℕ) (x : List ℕ) → Begins ((p ++ m) ++ (256 + k) ∷ []) x → Under p m k x
begins-under p m k x h = (h.0, h.2)

heads : (a b : ℕ) (x y : List ℕ) → a ∷ x ≡ b ∷ y → a ≡ b
heads a b x y r = cc

-- the mark of a line is its own
pub line-apart : (p m : List ℕ) (k : ℕ) (x y : List ℕ) → Under p m k x → UnderFrom p m (k + 1) y → x ≡ y → ⊥
line-apart p m k x y h j e =
    let q : (256 + k) ∷ h.0 ≡ (256 + j.0) ∷ j.2.0 =
    append_cancel_left (p ++ m) ((256 + k) ∷ h.0) ((256 + j.0) ∷ j.2.0) (sym (append_assoc (p ++ m) ((256 + k) ∷ []) h.0) ∙ sym h.1 ∙ e ∙ j.2.1 ∙ append_assoc (p ++ m) ((256 + j.0) ∷ []) j.2.0) in
    let n : 256 + k ≡ 256 + j.0 = heads (256 + k) (256 + j.0) h.0 j.2.0 q in
    omega (arith, n, j.1)

-- a name behind the path has fewer marks than what stands behind a call
marks-plain : (p n : List ℕ) → IsPlain n → marks (p ++ n) ≡ marks p
marks-plain p n e = marks-append p n ∙ ap (λ x. marks p + x) e ∙ none (marks p)
  where
    none : (x : ℕ) → x + 0 ≡ x
    none x = omega arith

marks-under : (p m : List ℕ) (k : ℕ) (x : List ℕ) → Under p m k x → marks p < marks x
marks-under p m k x h =
    let e : marks x ≡ marks p + marks m + suc (marks h.0) =
    ap marks (h.1 ∙ append_assoc (p ++ m) ((256 + k) ∷ []) h.0) ∙ marks-append (p ++ m) ((256 + k) ∷ h.0) ∙ ap (λ y. y + marks ((256 + k) ∷ h.0)) (marks-append p m)
    ∙ ap (λ y. marks p + marks m + y) (marks-mark k h.0) in
    more (marks p) (marks m) (marks h.0) (marks x) e
  where
    more : (a b c d : ℕ) → d ≡ a + b + suc c → a < d
    more a b c d e = omega arith

pub plain-under : (p n m : List ℕ) (k : ℕ) (x y : List ℕ) → IsPlain n → x ≡ p ++ n → UnderFrom p m k y → x ≡ y → ⊥
plain-under p n m k x y a e h q = fewer-apart x y (subst (λ z. z < marks y) (sym (ap marks e ∙ marks-plain p n a)) (marks-under p m h.0 y h.2)) q

-- what begins with a longer path begins with the path
pub begins-more : (p m : List ℕ) (k : ℕ) (x : List ℕ) → (m ≡ [] → ⊥) → At p m x → Begins p x
begins-more p m k x n h = (m ++ h.0, (λ e. not_empty m h.0 n e), h.2 ∙ append_assoc p m h.0)
