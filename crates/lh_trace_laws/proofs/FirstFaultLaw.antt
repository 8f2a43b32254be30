-- A module has at most one first fault.
use Rattle.std.proofs.Common.{◌≡◌, ◌<◌, ℕ, List, [], ◌∷◌, ◌++◌, Bool, true, false, nat_eq, nat_lt, if◌then◌else◌, refl, ap, sym, ◌∙◌, subst, arith}
use Rattle.std.proofs.lemmas.Bool.Decides.{nat_tests}
use Rattle.lh_unit.specs.Contents.{ItemText}
use Rattle.lh_unit.specs.WellFormed.{FaultKind, undefined, wrong_kind, wrong_type, not_here, no_terminator, phi_edges, not_defined, arguments, number_of, Site, HasFault, NoneHasFault}
use Rattle.lh_trace_laws.specs.FirstFault.{OneFirstFault, FaultlessHasNone}

-- each number is that of one fault
abbrev kind_of : ℕ → FaultKind
kind_of n = if nat_eq n 1 then undefined else (if nat_eq n 2 then wrong_kind else (if nat_eq n 3 then wrong_type else (if nat_eq n 4 then not_here
    else (if nat_eq n 5 then no_terminator else (if nat_eq n 6 then phi_edges else (if nat_eq n 7 then not_defined else arguments))))))

kind_of-number_of : (k : FaultKind) → kind_of (number_of k) ≡ k
kind_of-number_of undefined = refl
kind_of-number_of wrong_kind = refl
kind_of-number_of wrong_type = refl
kind_of-number_of not_here = refl
kind_of-number_of no_terminator = refl
kind_of-number_of phi_edges = refl
kind_of-number_of not_defined = refl
kind_of-number_of arguments = refl

pub same_number : (k l : FaultKind) → number_of k ≡ number_of l → k ≡ l
same_number k l e = sym (kind_of-number_of k) ∙ ap kind_of e ∙ kind_of-number_of l

-- two lowest faults of an instruction are one
same_lowest : (items : List ItemText) (s : Site) (k l : FaultKind) → HasFault items s k → HasFault items s l
    → ((j : FaultKind) → number_of j < number_of k → ¬ HasFault items s j) → ((j : FaultKind) → number_of j < number_of l → ¬ HasFault items s j) → k ≡ l
same_lowest items s k l hk hl lk ll = at (nat_lt (number_of k) (number_of l)) (nat_lt (number_of l) (number_of k)) refl refl
  where
    below : (m n : ℕ) → nat_lt m n ≡ true → m < n
    below m n h = grind (arith, nat_tests)

    level : (m n : ℕ) → nat_lt m n ≡ false → nat_lt n m ≡ false → m ≡ n
    level m n h g = grind (arith, nat_tests)

    at : (x y : Bool) → nat_lt (number_of k) (number_of l) ≡ x → nat_lt (number_of l) (number_of k) ≡ y → k ≡ l
    at true y e f = absurd (ll k (below _ _ e) hk)
    at false true e f = absurd (lk l (below _ _ f) hl)
    at false false e f = same_number k l (level _ _ e f)

-- an instruction that has a fault is none of those that have none
not_among : (items : List ItemText) (xs : List Site) (s : Site) (more : List Site) (k : FaultKind) → HasFault items s k → NoneHasFault items (xs ++ s ∷ more) → ⊥
not_among items [] s more k h n = n.0 k h
not_among items (x ∷ xs) s more k h n = not_among items xs s more k h n.1

heads : (x y : Site) (xs ys : List Site) → x ∷ xs ≡ y ∷ ys → x ≡ y
heads x y xs ys h = cc

tails : (x y : Site) (xs ys : List Site) → x ∷ xs ≡ y ∷ ys → xs ≡ ys
tails x y xs ys h = cc

-- the places of two first faults are one
same_site : (items : List ItemText) (xs ys : List Site) (s t : Site) (ss ts : List Site) (k l : FaultKind) → xs ++ s ∷ ss ≡ ys ++ t ∷ ts
    → HasFault items s k → HasFault items t l → NoneHasFault items xs → NoneHasFault items ys → s ≡ t
same_site items [] [] s t ss ts k l e hk hl n m = heads s t ss ts e
same_site items [] (y ∷ ys) s t ss ts k l e hk hl n m = absurd (m.0 k (let P : Site → Type 0 = λ z. HasFault items z k in subst P (heads s y ss (ys ++ t ∷ ts) e) hk))
same_site items (x ∷ xs) [] s t ss ts k l e hk hl n m = absurd (n.0 l (let P : Site → Type 0 = λ z. HasFault items z l in subst P (sym (heads x t (xs ++ s ∷ ss) ts e)) hl))
same_site items (x ∷ xs) (y ∷ ys) s t ss ts k l e hk hl n m = same_site items xs ys s t ss ts k l (tails x y (xs ++ s ∷ ss) (ys ++ t ∷ ts) e) hk hl n.1 m.1

pub one_first_fault : OneFirstFault
one_first_fault items u v i j k l a b =
    let e : a.site ≡ b.site = same_site items a.before b.before a.site b.site a.after b.after k l (sym a.all ∙ b.all) a.has b.has a.none_before b.none_before in (
      sym a.in_unit ∙ ap (λ (s : Site). s.unit.name) e ∙ b.in_unit,
      sym a.at_inst ∙ ap (λ (s : Site). s.place.number) e ∙ b.at_inst,
      (let P : Site → Type 0 = λ z. HasFault items z k in let Q : Site → Type 0 = λ z. (j : FaultKind) → number_of j < number_of k → ¬ HasFault items z j in
          same_lowest items b.site k l (subst P e a.has) b.has (subst Q e a.lowest) b.lowest),
    )

pub faultless_has_none : FaultlessHasNone
faultless_has_none items u i k f a = let P : List Site → Type 0 = λ z. NoneHasFault items z in not_among items a.before a.site a.after k a.has (subst P a.all f)
