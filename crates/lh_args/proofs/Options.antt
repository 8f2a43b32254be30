-- Options and the words that they are written in.
use Rattle.std.proofs.Common.{◌≡◌, ℕ, suc, ◌+◌, ◌≤◌, List, [], ◌∷◌, ◌++◌, length, get_or, refl, ap, sym, ◌∙◌, append_assoc, arith}
use Rattle.std.specs.List.{flat_map}
use Rattle.lh_args.specs.Forms.{Choice, top, steps, vcd, watch, spelled, names_in, numbers_in, vcds_in}

pub names_in-append : (xs ys : List Choice) → names_in (xs ++ ys) ≡ names_in xs ++ names_in ys
names_in-append [] ys = refl
names_in-append (top n ∷ xs) ys = ap (λ l. n ∷ l) (names_in-append xs ys)
names_in-append (steps n ∷ xs) ys = names_in-append xs ys
names_in-append (vcd ∷ xs) ys = names_in-append xs ys
names_in-append (watch t ∷ xs) ys = names_in-append xs ys

pub numbers_in-append : (xs ys : List Choice) → numbers_in (xs ++ ys) ≡ numbers_in xs ++ numbers_in ys
numbers_in-append [] ys = refl
numbers_in-append (top n ∷ xs) ys = numbers_in-append xs ys
numbers_in-append (steps n ∷ xs) ys = ap (λ l. n ∷ l) (numbers_in-append xs ys)
numbers_in-append (vcd ∷ xs) ys = numbers_in-append xs ys
numbers_in-append (watch t ∷ xs) ys = numbers_in-append xs ys

pub vcds_in-append : (xs ys : List Choice) → vcds_in (xs ++ ys) ≡ vcds_in xs + vcds_in ys
vcds_in-append [] ys = omega arith
vcds_in-append (top n ∷ xs) ys = vcds_in-append xs ys
vcds_in-append (steps n ∷ xs) ys = vcds_in-append xs ys
vcds_in-append (vcd ∷ xs) ys = let e : vcds_in (xs ++ ys) ≡ vcds_in xs + vcds_in ys = vcds_in-append xs ys in omega arith
vcds_in-append (watch t ∷ xs) ys = vcds_in-append xs ys

-- no option's words are the beginning of another's
pub record Same (c d : Choice) (r s : List (List ℕ)) : Type 0 where
  pub option : c ≡ d
  pub behind : r ≡ s

-- the third byte of the first word
abbrev third_byte : List (List ℕ) → ℕ
third_byte words = get_or (get_or words 0 []) 2 0

pub spelled-unique : (c d : Choice) (r s : List (List ℕ)) → spelled c ++ r ≡ spelled d ++ s → Same c d r s
spelled-unique (top x) (top y) r s e = record { option = cc; behind = cc }
spelled-unique (steps x) (steps y) r s e = record { option = cc; behind = cc }
spelled-unique vcd vcd r s e = record { option = refl; behind = cc }
spelled-unique (watch x) (watch y) r s e = record { option = cc; behind = cc }
spelled-unique (top x) (steps y) r s e = record { option = cc; behind = cc }
spelled-unique (top x) vcd r s e = absurd (let third : 116 ≡ 118 = ap third_byte e in omega arith)
spelled-unique (top x) (watch y) r s e = record { option = cc; behind = cc }
spelled-unique (steps x) (top y) r s e = record { option = cc; behind = cc }
spelled-unique (steps x) vcd r s e = record { option = cc; behind = cc }
spelled-unique (steps x) (watch y) r s e = absurd (let third : 115 ≡ 119 = ap third_byte e in omega arith)
spelled-unique vcd (top y) r s e = absurd (let third : 118 ≡ 116 = ap third_byte e in omega arith)
spelled-unique vcd (steps y) r s e = record { option = cc; behind = cc }
spelled-unique vcd (watch y) r s e = record { option = cc; behind = cc }
spelled-unique (watch x) (top y) r s e = record { option = cc; behind = cc }
spelled-unique (watch x) (steps y) r s e = absurd (let third : 119 ≡ 115 = ap third_byte e in omega arith)
spelled-unique (watch x) vcd r s e = record { option = cc; behind = cc }

pub spelled-some : (c : Choice) (r : List (List ℕ)) → [] ≡ spelled c ++ r → ⊥
spelled-some (top x) r e = cc
spelled-some (steps x) r e = cc
spelled-some vcd r e = cc
spelled-some (watch x) r e = cc

pub spelled-length : (c : Choice) (r : List (List ℕ)) → suc (length r) ≤ length (spelled c ++ r)
spelled-length (top x) r = omega arith
spelled-length (steps x) r = omega arith
spelled-length vcd r = omega arith
spelled-length (watch x) r = omega arith

-- options that begin as others do
pub record Behind (done all : List Choice) (rest : List (List ℕ)) : Type 0 where
  pub more : List Choice
  pub split : all ≡ done ++ more
  pub written : flat_map spelled more ≡ rest

pub behind : (done all : List Choice) (rest : List (List ℕ)) → flat_map spelled all ≡ flat_map spelled done ++ rest → Behind done all rest
behind [] all rest e = record { more = all; split = refl; written = e }
behind (c ∷ done) [] rest e = absurd (spelled-some c (flat_map spelled done ++ rest) (e ∙ append_assoc (spelled c) (flat_map spelled done) rest))
behind (c ∷ done) (d ∷ all) rest e =
    let u : Same d c (flat_map spelled all) (flat_map spelled done ++ rest) = spelled-unique d c _ _ (e ∙ append_assoc (spelled c) (flat_map spelled done) rest) in
    let b : Behind done all rest = behind done all rest u.behind in
    record { more = b.more; split = ap (λ x. x ∷ all) u.option ∙ ap (λ l. c ∷ l) b.split; written = b.written }

-- words are written in one way
pub written-unique : (xs ys : List Choice) → flat_map spelled xs ≡ flat_map spelled ys → xs ≡ ys
written-unique [] [] e = refl
written-unique [] (d ∷ ys) e = absurd (spelled-some d (flat_map spelled ys) e)
written-unique (c ∷ xs) [] e = absurd (spelled-some c (flat_map spelled xs) (sym e))
written-unique (c ∷ xs) (d ∷ ys) e =
    let u : Same c d (flat_map spelled xs) (flat_map spelled ys) = spelled-unique c d _ _ e in
    ap (λ x. x ∷ xs) u.option ∙ ap (λ l. d ∷ l) (written-unique xs ys u.behind)
