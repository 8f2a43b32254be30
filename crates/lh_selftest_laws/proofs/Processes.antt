-- Processes without fault, by tests of each instruction: its values are arguments, or are given earlier in its block or in the entry block.
use Rattle.std.proofs.Common.{◌≡◌, ℕ, Bool, true, false, not, ◌&&◌, ◌||◌, List, [], ◌∷◌, map, Some, refl, ap, sym, ◌∙◌, subst, inl, inr}
use Rattle.std.specs.List.{list_any, list_all}
use Rattle.std.proofs.Math.Bool.{or-true}
use Rattle.std.proofs.lemmas.Bool.{and_parts, both_ways as clash}
use Rattle.lh_unit.specs.declared.inst.UnitKind.TheVariants as kind
use Rattle.lh_unit.specs.Contents.{InstText, phi_text, BlockText, LineText, UnitText, ItemText, args_define, lines_define, blocks_define}
use Rattle.lh_unit_names.specs.Names.{same_name}
use Rattle.lh_unit.specs.Named.{label_or}
use Rattle.lh_unit.specs.Places.{InstPlaceText, places, entry_of, IsPath}
use Rattle.lh_unit.specs.WellFormed.{FaultKind, undefined, wrong_kind, wrong_type, not_here, no_terminator, phi_edges, not_defined, arguments, values_named, is_phi, Lacks, SomeValueLacks, LacksIn, Site, has_local, HasFault, NoneHasFault}
use Rattle.lh_unit.specs.Within.{Each}
use Rattle.lh_unit.proofs.Lists.{some_inj, Each-fails}
use Rattle.lh_unit_names.proofs.NameLists.{same_name-refl}

abbrev pub site : UnitText → InstPlaceText → Site
site u p = record { unit = u; place = p }

-- ---- paths

module _ (u : UnitText) (n : List ℕ) (e : BlockText) (begins : entry_of u.blocks ≡ Some e) (given : lines_define n e.lines ≡ true) where
  -- what the entry block gives is given on each path
  entry-gives : (bs : List BlockText) → IsPath u bs → blocks_define n bs ≡ true
  entry-gives [] p = absurd p
  entry-gives (b ∷ []) p = ap (λ t. t || false) (subst (λ (x : BlockText). lines_define n x.lines ≡ true) (some_inj e b (sym begins ∙ p)) given)
  entry-gives (b ∷ c ∷ more) p = ap (λ t. lines_define n b.lines || t) (entry-gives (c ∷ more) p.2) ∙ or-true (lines_define n b.lines)

  -- so it does not lack in another block
  none-lacks : (b : BlockText) (before : List LineText) → (e ≡ b → ⊥) → Lacks u n b before → ⊥
  none-lacks b before other l = at l.earlier l.path l.not_earlier
    where
      at : (bs : List BlockText) → IsPath u (b ∷ bs) → blocks_define n bs ≡ false → ⊥
      at [] p h = other (some_inj e b (sym begins ∙ p))
      at (c ∷ more) p h = clash _ h (entry-gives (c ∷ more) p.2)

-- blocks of other labels are not one
labels-apart : (e b : BlockText) → same_name (label_or e.label) (label_or b.label) ≡ false → e ≡ b → ⊥
labels-apart e b h q = clash _ (subst (λ (x : BlockText). same_name (label_or x.label) (label_or b.label) ≡ false) q h) (same_name-refl (label_or b.label))

-- a value is an argument, or given earlier in its block, or in the entry block, which is another
abbrev pub is_given : UnitText → (entry : BlockText) → InstPlaceText → List ℕ → Bool
is_given u e p n = args_define n u.args || (lines_define n p.before || (not (same_name (label_or e.label) (label_or p.block.label)) && lines_define n e.lines))

module _ (u : UnitText) (e : BlockText) (begins : entry_of u.blocks ≡ Some e) (p : InstPlaceText) where
  given-stands : (n : List ℕ) → is_given u e p n ≡ true → (args_define n u.args ≡ false) × Lacks u n p.block p.before → ⊥
  given-stands n h l = at (args_define n u.args) (lines_define n p.before) (same_name (label_or e.label) (label_or p.block.label)) (lines_define n e.lines) refl refl refl h l.0 l.1.not_before
    where
      at : (a b c d : Bool) → lines_define n p.before ≡ b → same_name (label_or e.label) (label_or p.block.label) ≡ c → lines_define n e.lines ≡ d → (a || (b || (not c && d))) ≡ true → a ≡ false
          → b ≡ false → ⊥
      at true b c d q r s k f g = cc
      at false true c d q r s k f g = cc
      at false false true d q r s k f g = cc
      at false false false false q r s k f g = cc
      at false false false true q r s k f g = none-lacks u n e begins s p.block p.before (labels-apart e p.block r) l.1

  all-stand : (ns : List (List ℕ)) → list_all (is_given u e p) ns ≡ true → SomeValueLacks u p ns → ⊥
  all-stand [] h l = l
  all-stand (n ∷ ns) h (inl l) = given-stands n (and_parts (is_given u e p n) (list_all (is_given u e p) ns) h).0 l
  all-stand (n ∷ ns) h (inr l) = all-stand ns (and_parts (is_given u e p n) (list_all (is_given u e p) ns) h).1 l

values-lack : (u : UnitText) (p : InstPlaceText) (i : InstText) → is_phi i ≡ false → LacksIn kind.Proc u p i → SomeValueLacks u p (values_named i)
values-lack u p (phi_text ty es) h l = absurd cc
values-lack u p _ h l = l

-- ---- the tests

-- the faults that ask for no path
abbrev pub kinds : List FaultKind
kinds = undefined ∷ wrong_kind ∷ wrong_type ∷ not_here ∷ no_terminator ∷ phi_edges ∷ arguments ∷ []

-- an instruction with none of these has at most the fault of paths
pub none-at : (items : List ItemText) (s : Site) → list_any (has_local items s) kinds ≡ false → ¬ HasFault items s not_defined → (k : FaultKind) → ¬ HasFault items s k
none-at items s h d k = at k (Each-fails (has_local items s) kinds h)
  where
    at : (k : FaultKind) → Each (λ j. has_local items s j ≡ false) kinds → ¬ HasFault items s k
    at undefined f = clash _ f.0
    at wrong_kind f = clash _ f.1.0
    at wrong_type f = clash _ f.1.1.0
    at not_here f = clash _ f.1.1.1.0
    at no_terminator f = clash _ f.1.1.1.1.0
    at phi_edges f = clash _ f.1.1.1.1.1.0
    at not_defined f = d
    at arguments f = clash _ f.1.1.1.1.1.1.0

-- an instruction passes the tests
abbrev pub is_clean : List ItemText → UnitText → (entry : BlockText) → InstPlaceText → Bool
is_clean items u e p = not (list_any (has_local items (site u p)) kinds) && (not (is_phi p.line.inst) && list_all (is_given u e p) (values_named p.line.inst))

module _ (items : List ItemText) (u : UnitText) (e : BlockText) (process : u.kind ≡ kind.Proc) (begins : entry_of u.blocks ≡ Some e) where
  not-true : (b : Bool) → not b ≡ true → b ≡ false
  not-true true h = cc
  not-true false h = refl

  clean-place : (p : InstPlaceText) → is_clean items u e p ≡ true → (k : FaultKind) → ¬ HasFault items (site u p) k
  clean-place p h =
      let a = and_parts (not (list_any (has_local items (site u p)) kinds)) (not (is_phi p.line.inst) && list_all (is_given u e p) (values_named p.line.inst)) h in
      let b = and_parts (not (is_phi p.line.inst)) (list_all (is_given u e p) (values_named p.line.inst)) a.1 in
      let none : list_any (has_local items (site u p)) kinds ≡ false = not-true _ a.0 in
      none-at items (site u p) none (λ l. all-stand u e begins p (values_named p.line.inst) b.1
      (values-lack u p p.line.inst (not-true _ b.0) (subst (λ k. LacksIn k u p p.line.inst) process l.1)))

  clean-places : (ps : List InstPlaceText) → list_all (is_clean items u e) ps ≡ true → NoneHasFault items (map (site u) ps)
  clean-places [] h = tt
  clean-places (p ∷ ps) h = let b = and_parts (is_clean items u e p) (list_all (is_clean items u e) ps) h in (clean-place p b.0, clean-places ps b.1)

  -- a process of which each instruction passes the tests has no fault
  pub process-faultless : list_all (is_clean items u e) (places u) ≡ true → NoneHasFault items (map (site u) (places u))
  process-faultless h = clean-places (places u) h
