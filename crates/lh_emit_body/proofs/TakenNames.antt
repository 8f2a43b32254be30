-- Names that are taken are arguments'.
use Rattle.std.proofs.Common.{◌≡◌, ℕ, zero, suc, ◌+◌, Bool, true, false, ◌||◌, cond, if◌then◌else◌, List, [], ◌∷◌, ◌++◌, refl, ap, sym, ◌∙◌, subst, length-append}
use Rattle.std.proofs.Math.Bool.{or-false}
use Rattle.lh_unit.specs.Contents.{ArgText, args_define}
use Rattle.lh_unit_names.specs.Names.{same_name}
use Rattle.lh_unit.specs.Lexemes.{begins}
use Rattle.lh_unit_names.proofs.NameLists.{same_name-is}
use Rattle.lh_emit_def.specs.Names.{value_name, free_from, free_number}
use Rattle.lh_emit_body.specs.Fresh.{is_among, IsFresh, PassesOver}
use Rattle.lh_emit_body.specs.declared.names.Fresh.{Fresh}

define-more : (n : List ℕ) (xs : List ArgText) (a : ArgText) → args_define n (xs ++ a ∷ []) ≡ (args_define n xs || same_name a.name n)
define-more n [] a = at (same_name a.name n)
  where
    at : (b : Bool) → (b || false) ≡ b
    at true = refl
    at false = refl
define-more n (x ∷ xs) a = ap (λ b. same_name x.name n || b) (define-more n xs a) ∙ at (same_name x.name n) (args_define n xs) (same_name a.name n)
  where
    at : (a b c : Bool) → (a || (b || c)) ≡ ((a || b) || c)
    at true b c = refl
    at false b c = refl

-- with one more name among those that are taken
abbrev pub Enters : List ℕ → (old new : List (List ℕ)) → Type 0
Enters n old new = (m : List ℕ) → is_among new m ≡ cond (same_name n m) true (is_among old m)

enters-or : (a b : Bool) → cond a true b ≡ (b || a)
enters-or true true = refl
enters-or true false = refl
enters-or false b = sym (or-false b)

-- an argument whose name begins as a new one
pub taken-passed : (f g : Fresh) (n : List ℕ) → g.count ≡ f.count + 1 → Enters n f.taken.keys g.taken.keys → PassesOver n f g
taken-passed f g n c t args a q h = record {
  count = c ∙ ap (λ k. k + 1) h.count ∙ sym (length-append args (a ∷ []));
  taken = λ k.
      let m = value_name k in
      t m ∙ enters-or (same_name n m) (is_among f.taken.keys m)
      ∙ ap (λ b. b || same_name n m) (h.taken k)
      ∙ ap (λ z. args_define m args || same_name z m) (sym q) ∙ sym (define-more m args a);
}

not-new : (n : List ℕ) (k : ℕ) → begins 118 n ≡ false → same_name n (value_name k) ≡ false
not-new n k h = at (same_name n (value_name k)) refl
  where
    at : (b : Bool) → same_name n (value_name k) ≡ b → same_name n (value_name k) ≡ false
    at false p = p
    at true p = let e : n ≡ value_name k = same_name-is n (value_name k) p in let f : true ≡ false = subst (λ z. begins 118 z ≡ false) e h in absurd cc

-- one whose name begins otherwise
pub other-passed : (f g : Fresh) (n : List ℕ) → g.count ≡ f.count + 1 → g.taken.keys ≡ f.taken.keys → begins 118 n ≡ false → PassesOver n f g
other-passed f g n c t b args a q h = record {
  count = c ∙ ap (λ k. k + 1) h.count ∙ sym (length-append args (a ∷ []));
  taken = λ k.
      let m = value_name k in
      let z : same_name a.name m ≡ false = subst (λ x. same_name x m ≡ false) (sym q) (not-new n k b) in
      ap (λ ns. is_among ns m) t ∙ h.taken k ∙ sym (or-false (args_define m args)) ∙ ap (λ b. args_define m args || b) (sym z) ∙ sym (define-more m args a);
}

-- ---- the next name

-- the number that is sought from here on is the one that was sought
abbrev pub Seeks : (f : Fresh) → (tries number : ℕ) → Type 0
Seeks f tries number = (args : List ArgText) → IsFresh args f → free_from args tries number ≡ free_number args f.next

pub seeks-first : (f : Fresh) → Seeks f f.count f.next
seeks-first f args h = ap (λ n. free_from args n f.next) h.count

pub seeks-next : (f : Fresh) (tries left number : ℕ) → tries ≡ suc left → is_among f.taken.keys (value_name number) ≡ true → Seeks f tries number → Seeks f left (number + 1)
seeks-next f tries left number e t s args h =
    let d : args_define (value_name number) args ≡ true = sym (h.taken number) ∙ t in
    let r : free_from args (suc left) number ≡ free_from args left (number + 1) = ap (λ b. if b then free_from args left (number + 1) else number) d in
    sym r ∙ ap (λ n. free_from args n number) (sym e) ∙ s args h

-- a number is found where there are no tries left, or its name is not taken
pub seeks-none : (f : Fresh) (tries number : ℕ) → tries ≡ 0 → Seeks f tries number → (args : List ArgText) → IsFresh args f → number ≡ free_number args f.next
seeks-none f tries number e s args h = ap (λ n. free_from args n number) (sym e) ∙ s args h

pub seeks-end : (f : Fresh) (tries number : ℕ) → is_among f.taken.keys (value_name number) ≡ false → Seeks f tries number → (args : List ArgText) → IsFresh args f → number ≡ free_number args f.next
seeks-end f zero number t s args h = s args h
seeks-end f (suc left) number t s args h =
    let d : args_define (value_name number) args ≡ false = sym (h.taken number) ∙ t in
    let r : free_from args (suc left) number ≡ number = ap (λ b. if b then free_from args left (number + 1) else number) d in
    sym r ∙ s args h
