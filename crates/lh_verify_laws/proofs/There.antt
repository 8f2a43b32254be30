-- What is there at a place, one instruction further and over an edge.
use Rattle.std.proofs.Common.{◌≡◌, ◌⊎◌, inl, inr, ⊎_elim, ℕ, List, [], ◌∷◌, ◌++◌, Bool, true, false, ◌||◌, Some, refl, ap}
use Rattle.std.specs.List.{list_any}
use Rattle.std.proofs.lemmas.Bool.{or_cases, false≢true}
use Rattle.lh_unit.specs.Contents.{InstText, phi_text, LineText, BlockText, UnitText, is_result_name, lines_define, blocks_define}
use Rattle.lh_unit_names.specs.Names.{same_name}
use Rattle.lh_unit.specs.Named.{block_of, label_or, is_function}
use Rattle.lh_unit.specs.Places.{InstPlaceText, leads_to, last_leads_to, has_edge}
use Rattle.lh_unit.specs.WellFormed.{in_entity}
use Rattle.lh_unit.specs.declared.inst.UnitKind.{UnitKind}
use Rattle.lh_unit.specs.declared.inst.UnitKind.TheVariants as kind
use Rattle.lh_unit_names.proofs.NameLists.{same_name-refl}
use Rattle.lh_verify_laws.specs.Defined.{IsThere, OperandsThere}

-- a function's operands are there as a process's are
pub as-process : (k : UnitKind) (u : UnitText) (p : InstPlaceText) (i : InstText) → OperandsThere k u p i → in_entity k ≡ false → OperandsThere kind.Proc u p i
as-process kind.Entity u p i h e = absurd cc
as-process kind.Func u p (phi_text ty es) h e = h
as-process kind.Func u p _ h e = h
as-process kind.Proc u p i h e = h

-- a function has no place in an entity
pub function-runs : (k : UnitKind) → is_function k ≡ true → in_entity k ≡ false
function-runs kind.Func e = refl
function-runs kind.Proc e = absurd cc
function-runs kind.Entity e = absurd cc

defined-last : (n : List ℕ) (before : List LineText) (l : LineText) → is_result_name n l.result ≡ false → lines_define n (before ++ l ∷ []) ≡ true → lines_define n before ≡ true
defined-last n [] l f h = let q : (is_result_name n l.result || false) ≡ true = h in absurd cc
defined-last n (x ∷ before) l f h = at (is_result_name n x.result) h (defined-last n before l f)
  where
    at : (b : Bool) → (b || lines_define n (before ++ l ∷ [])) ≡ true → (lines_define n (before ++ l ∷ []) ≡ true → lines_define n before ≡ true) → (b || lines_define n before) ≡ true
    at true q go = refl
    at false q go = go q

-- what is there after an instruction and is not its result was there before it
pub there-before : (u : UnitText) (b : BlockText) (before : List LineText) (l : LineText) (n : List ℕ) → is_result_name n l.result ≡ false → IsThere u b (before ++ l ∷ []) n → IsThere u b before n
there-before u b before l n f (inl h) = inl h
there-before u b before l n f (inr h) = inr (λ earlier path. ⊎_elim (λ q. inl (defined-last n before l f q)) (λ q. inr q) (h earlier path))

-- what is there at the start of a block is there at the end of each block that leads to it
pub there-after : (u : UnitText) (from b : BlockText) → has_edge from (label_or b.label) ≡ true → block_of (label_or b.label) u.blocks ≡ Some b → (n : List ℕ) → IsThere u b [] n
    → IsThere u from from.lines n
there-after u from b edge t n (inl h) = inl h
there-after u from b edge t n (inr h) = inr
    (λ earlier path. ⊎_elim (λ z. absurd (false≢true z)) (λ z. or_cases (lines_define n from.lines) (blocks_define n earlier) z) (h (from ∷ earlier) (edge, t, path)))

pub last-leads : (before : List LineText) (l : LineText) → last_leads_to (before ++ l ∷ []) ≡ leads_to l.inst
last-leads [] l = refl
last-leads (x ∷ []) l = refl
last-leads (x ∷ y ∷ before) l = last-leads (y ∷ before) l

-- ---- the first and the second of the blocks that a `br` leads to

pub first-name : (n : List ℕ) (more : List (List ℕ)) → list_any (λ m. same_name m n) (n ∷ more) ≡ true
first-name n more = ap (λ b. b || list_any (λ m. same_name m n) more) (same_name-refl n)

pub second-name : (m n : List ℕ) → list_any (λ x. same_name x n) (m ∷ n ∷ []) ≡ true
second-name m n = by (same_name m n) (first-name n [])
  where
    by : (b : Bool) → list_any (λ x. same_name x n) (n ∷ []) ≡ true → (b || list_any (λ x. same_name x n) (n ∷ [])) ≡ true
    by true h = refl
    by false h = h
