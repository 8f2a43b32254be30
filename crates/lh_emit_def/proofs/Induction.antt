-- What each instruction of an entity keeps, need of a term keeps; and the term has a name then.
use Rattle.std.proofs.Common.{◌≡◌, ℕ, Bool, true, false, List, [], ◌∷◌, Some, refl}
use Rattle.lh_unit.specs.Contents.{InstText}
use Rattle.lh_unit.specs.Within.{Each}
use Rattle.lh_term.specs.Tree.{Tree}
use Rattle.lh_term.specs.SameTree.{same_tree, same_tree-refl}
use Rattle.lh_term.specs.Same.{same_part, same_part-refl}
use Rattle.lh_term.specs.declared.part.Part.{Part}
use Rattle.lh_emit_def.specs.Emitted.{Source, Emitted, PartStep, gives_term, next_name, takes_steps}

-- ---- what has a name

pub record IsNamed (e : Emitted) (t : Tree) : Type 0 where
  pub name : List ℕ
  pub is : e.terms t ≡ Some name

pub record IsNamedPart (e : Emitted) (p : Part) : Type 0 where
  pub name : List ℕ
  pub is : e.parts p ≡ Some name

-- what had a name has one
pub record Kept (e x : Emitted) : Type 0 where
  pub terms : (t : Tree) → IsNamed e t → IsNamed x t
  pub parts : (p : Part) → IsNamedPart e p → IsNamedPart x p

pub kept-same : (e : Emitted) → Kept e e
kept-same e = record { terms = λ t h. h; parts = λ p h. h }

pub kept-then : (e x y : Emitted) → Kept e x → Kept x y → Kept e y
kept-then e x y a b = record { terms = λ t h. b.terms t (a.terms t h); parts = λ p h. b.parts p (a.parts p h) }

pub kept-all : (e x : Emitted) (ts : List Tree) → Kept e x → Each (IsNamed e) ts → Each (IsNamed x) ts
kept-all e x [] k h = tt
kept-all e x (t ∷ ts) k h = (k.terms t h.0, kept-all e x ts k h.1)

-- an instruction that gives a term
pub term-named : (s : Source) (t : Tree) (i : InstText) (e : Emitted) → IsNamed (gives_term s t i e) t
term-named s t i e = record { name = next_name s e; is = rw same_tree-refl refl }

pub term-kept : (s : Source) (t : Tree) (i : InstText) (e : Emitted) → Kept e (gives_term s t i e)
term-kept s t i e = record { terms = λ x h. at x h (same_tree t x) refl; parts = λ p h. record { name = h.name; is = h.is } }
  where
    at : (x : Tree) → IsNamed e x → (b : Bool) → same_tree t x ≡ b → IsNamed (gives_term s t i e) x
    at x h true q = record { name = next_name s e; is = rw q refl }
    at x h false q = record { name = h.name; is = rw q h.is }

-- the steps to a part
pub steps-named : (s : Source) (p : Part) (n : List ℕ) (more : List PartStep) (e : Emitted) → IsNamedPart (takes_steps s p n more e) p
steps-named s p n [] e = record { name = n; is = rw same_part-refl refl }
steps-named s p n (st ∷ more) e = steps-named s p (next_name s e) more _

pub steps-kept : (s : Source) (p : Part) (n : List ℕ) (more : List PartStep) (e : Emitted) → Kept e (takes_steps s p n more e)
steps-kept s p n [] e = record { terms = λ x h. record { name = h.name; is = h.is }; parts = λ x h. at x h (same_part p x) refl }
  where
    at : (x : Part) → IsNamedPart e x → (b : Bool) → same_part p x ≡ b → IsNamedPart (takes_steps s p n [] e) x
    at x h true q = record { name = n; is = rw q refl }
    at x h false q = record { name = h.name; is = rw q h.is }
steps-kept s p n (st ∷ more) e =
    let k : Kept _ (takes_steps s p n (st ∷ more) e) = steps-kept s p (next_name s e) more _ in
    record { terms = λ x h. k.terms x (record { name = h.name; is = h.is }); parts = λ x h. k.parts x (record { name = h.name; is = h.is }) }
