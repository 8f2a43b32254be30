-- Each operand of an instruction without a fault is given on every path to it.
use Rattle.std.proofs.Common.{◌≡◌, ◌⊎◌, inl, inr, ℕ, List, [], ◌∷◌, Bool, true, false, ◌||◌, refl, ◌∙◌}
use Rattle.std.specs.List.{list_any}
use Rattle.std.proofs.lemmas.Bool.{false_from_ne_true, not-false}
use Rattle.lh_unit.specs.declared.inst.UnitKind.{UnitKind}
use Rattle.lh_unit.specs.declared.inst.UnitKind.TheVariants as kind
use Rattle.lh_unit.specs.Contents.{EdgeText, InstText, phi_text, LineText, BlockText, UnitText, lines_define, blocks_define, args_define}
use Rattle.lh_unit.specs.Named.{label_or}
use Rattle.lh_unit.specs.Places.{InstPlaceText}
use Rattle.lh_unit.specs.Within.{Each}
use Rattle.lh_unit.specs.WellFormed.{not_defined, values_named, Lacks, SomeEdgeLacks, SomeValueLacks, stands_later, LacksIn}
use Rattle.lh_verify_laws.specs.Defined.{IsGiven, IsThere, IsThereOnEdge, IsEarlier, OperandsThere, AllThere}
use Rattle.lh_verify_laws.proofs.Sound.{at_site}
use Rattle.lh_unit.proofs.Within.{Each-more}
use Rattle.lh_unit.proofs.Lists.{Each-fails}

-- what is not lacking on a path is given on it
given : (u : UnitText) (b : BlockText) (before : List LineText) (n : List ℕ) → ¬ Lacks u n b before → IsGiven u b before n
given u b before n k earlier path = at (lines_define n before) refl (blocks_define n earlier) refl
  where
    at : (x : Bool) → lines_define n before ≡ x → (y : Bool) → blocks_define n earlier ≡ y → (lines_define n before ≡ true) ⊎ (blocks_define n earlier ≡ true)
    at true p y q = inl p
    at false p true q = inr q
    at false p false q = absurd (k (record { earlier = earlier; path = path; not_before = p; not_earlier = q }))

there : (u : UnitText) (b : BlockText) (before : List LineText) (n : List ℕ) → ((args_define n u.args ≡ false) × Lacks u n b before → ⊥) → IsThere u b before n
there u b before n k = at (args_define n u.args) refl
  where
    at : (x : Bool) → args_define n u.args ≡ x → IsThere u b before n
    at true p = inl p
    at false p = inr (given u b before n (λ l. k (p, l)))

all_given : (u : UnitText) (p : InstPlaceText) (ns : List (List ℕ)) → ¬ SomeValueLacks u p ns → Each (IsThere u p.block p.before) ns
all_given u p [] k = tt
all_given u p (n ∷ more) k = (there u p.block p.before n (λ l. k (inl l)), all_given u p more (λ l. k (inr l)))

edges_given : (u : UnitText) (to : List ℕ) (es : List EdgeText) → ¬ SomeEdgeLacks u to es → Each (IsThereOnEdge u to) es
edges_given u to [] k = tt
edges_given u to (e ∷ more) k =
    (λ last named edge. there u last last.lines e.value (λ l. k (inl (l.0, record { last = last; named = named; edge = edge; lacks = l.1 }))), edges_given u to more (λ l. k (inr l)))

earlier_of : (u : UnitText) (p : InstPlaceText) (n : List ℕ) → stands_later u p n ≡ false → IsEarlier u p.before n
earlier_of u p n h = at (args_define n u.args) (lines_define n p.before) refl refl (not-false (args_define n u.args || lines_define n p.before) h)
  where
    at : (x y : Bool) → args_define n u.args ≡ x → lines_define n p.before ≡ y → (x || y) ≡ true → IsEarlier u p.before n
    at true y a b g = inl a
    at false true a b g = inr b
    at false false a b g = inr (b ∙ g)

all_earlier : (u : UnitText) (p : InstPlaceText) (i : InstText) → ¬ (list_any (stands_later u p) (values_named i) ≡ true) → Each (IsEarlier u p.before) (values_named i)
all_earlier u p i k =
    Each-more (λ n. stands_later u p n ≡ false) (IsEarlier u p.before) (values_named i) (earlier_of u p)
    (Each-fails (stands_later u p) (values_named i) (false_from_ne_true (list_any (stands_later u p) (values_named i)) k))

operands_there : (k : UnitKind) (u : UnitText) (p : InstPlaceText) (i : InstText) → ¬ LacksIn k u p i → OperandsThere k u p i
operands_there kind.Entity u p i n = all_earlier u p i n
operands_there _ u p (phi_text ty edges) n = edges_given u (label_or p.block.label) edges n
operands_there _ u p i n = all_given u p (values_named i) n

pub all_there : AllThere
all_there items s f c = let a = at_site items s f c in operands_there s.unit.kind s.unit s.place s.place.line.inst (λ l. a.none not_defined (a.paths, l))
