-- What holds at each instruction of a function or a process of a well-formed module, by where it stands.
use Rattle.std.proofs.Common.{◌≡◌, ℕ, ◌+◌, List, [], ◌∷◌, ◌++◌, length, map, Bool, true, false, if◌then◌else◌, Some, refl, subst}
use Rattle.std.proofs.lemmas.Option.{same_Some, none-some}
use Rattle.lh_unit_names.specs.declared.name.UnitName.{UnitName}
use Rattle.lh_unit_names.specs.UnitNames.{same_unit_name}
use Rattle.lh_unit.specs.Contents.{InstText, phi_text, LineText, BlockText, UnitText, ItemText, unit_text, declare_text, is_result_name, defines_value}
use Rattle.lh_unit.specs.Named.{block_of, function_named, is_function}
use Rattle.lh_unit.specs.Activation.{functions}
use Rattle.lh_unit.specs.Hierarchy.{lines_of}
use Rattle.lh_unit.specs.Kinds.{Use, uses}
use Rattle.lh_unit.specs.Pieces.{lexemes_in}
use Rattle.lh_unit.specs.Places.{InstPlaceText, places_in, places_from, places}
use Rattle.lh_unit.specs.Reads.{has_lines}
use Rattle.lh_unit.specs.Spells.{inst_item}
use Rattle.lh_unit.specs.SpellsInst.{gives_value}
use Rattle.lh_unit.specs.WellFormed.{Site, sites, is_allowed, in_entity, is_phi, IsFaultless}
use Rattle.lh_unit.specs.Within.{Each}
use Rattle.lh_unit.specs.declared.inst.UnitKind.{UnitKind}
use Rattle.lh_unit.specs.declared.inst.UnitKind.TheVariants as kind
use Rattle.lh_unit.proofs.Within.{Each-more}
use Rattle.lh_unit.proofs.Lists.{Each-of-map}
use Rattle.lh_unit.proofs.ContentsLemmas.{Each-by_blocks}
use Rattle.lh_text_laws.specs.ItemLines.{item_line}
use Rattle.lh_text_laws.specs.Printable.{HasInstLine, BlockIsLabelled, HasShape, IsPrintable, IsPrintableItem}
use Rattle.lh_verify_laws.specs.Defined.{OperandsThere}
use Rattle.lh_verify_laws.specs.Shape.{EndsRight, PhiIsRight}
use Rattle.lh_verify_laws.proofs.Sound.{site_in}
use Rattle.lh_verify_laws.proofs.AtPlaces.{place-at, in-block}
use Rattle.lh_verify_laws.proofs.DefinedLaw.{all_there}
use Rattle.lh_verify_laws.proofs.OperandsLaw.{operands_are_defined}
use Rattle.lh_verify_laws.proofs.ShapeLaw.{terminators_end, phis_are_right, all_allowed}
use Rattle.lh_verify_laws.proofs.There.{as-process, function-runs}
use Rattle.lh_verify_laws.proofs.EachItem.{each-contained, each-split}
use Rattle.lh_eval_laws.proofs.SoundLines.{lines-printed}
use Rattle.lh_eval_laws.proofs.FindingPass.{line-gives}

-- what holds at an instruction of a unit without a fault
pub record PlaceRight (u : UnitText) (p : InstPlaceText) : Type 0 where
  pub there : in_entity u.kind ≡ false → OperandsThere kind.Proc u p p.line.inst
  pub defined : Each (λ (x : Use). defines_value x.value u ≡ true) (uses p.line.inst)
  pub allowed : is_allowed u.kind p.line.inst ≡ true
  pub phi : PhiIsRight u p p.line.inst
  pub ends : in_entity u.kind ≡ false → EndsRight (site_in u p)

-- what gives no value has no result
abbrev pub GivesNamed : LineText → Type 0
GivesNamed l = (n : List ℕ) → l.result ≡ Some n → gives_value l.inst ≡ true

abbrev pub NotNil : List LineText → Type 0
NotNil [] = ⊥
NotNil (l ∷ ls) = Unit {0}

-- what holds of a function or a process
pub record UnitSteady (u : UnitText) : Type 0 where
  pub runs : in_entity u.kind ≡ false
  pub places : Each (PlaceRight u) (places u)
  pub given : Each (λ (b : BlockText). Each GivesNamed b.lines) u.blocks
  pub shaped : Each (λ (b : BlockText). NotNil b.lines) u.blocks
  pub first : BlockText
  pub more : List BlockText
  pub blocks : u.blocks ≡ first ∷ more

-- ---- from the module to its units

abbrev SiteRight : Site → Type 0
SiteRight s = PlaceRight s.unit s.place

abbrev pub PlacesIn : ItemText → Type 0
PlacesIn (unit_text u) = Each (PlaceRight u) (places u)
PlacesIn (declare_text d) = Unit {0}

places-in : (items : List ItemText) → Each SiteRight (sites items) → Each PlacesIn items
places-in [] h = tt
places-in (unit_text u ∷ more) h = let r = each-split SiteRight (map (site_in u) (places u)) (sites more) h in (Each-of-map SiteRight (site_in u) (places u) r.0, places-in more r.1)
places-in (declare_text d ∷ more) h = (tt, places-in more h)

pub places-of-items : (items : List ItemText) → IsFaultless items → Each PlacesIn items
places-of-items items f = places-in items (each-contained SiteRight (sites items) (λ s c. record {
  there = as-process s.unit.kind s.unit s.place s.place.line.inst (all_there items s f c);
  defined = operands_are_defined items s f c;
  allowed = all_allowed items s f c;
  phi = phis_are_right items s f c;
  ends = terminators_end items s f c;
}))

not-nil : (ls : List LineText) → has_lines ls ≡ true → NotNil ls
not-nil [] h = absurd cc
not-nil (l ∷ ls) h = tt

abbrev Shaped : List BlockText → Type 0
Shaped bs = (b : BlockText) × (more : List BlockText) × (bs ≡ b ∷ more) × Each (λ (x : BlockText). NotNil x.lines) bs

shaped-by : (k : UnitKind) (bs : List BlockText) → in_entity k ≡ false → HasShape k bs → Shaped bs
shaped-by kind.Entity bs e h = absurd cc
shaped-by kind.Func [] e h = absurd h
shaped-by kind.Func (b ∷ bs) e h = (b, bs, refl, Each-more BlockIsLabelled (λ (x : BlockText). NotNil x.lines) (b ∷ bs) (λ x q. not-nil x.lines q.1) h)
shaped-by kind.Proc [] e h = absurd h
shaped-by kind.Proc (b ∷ bs) e h = (b, bs, refl, Each-more BlockIsLabelled (λ (x : BlockText). NotNil x.lines) (b ∷ bs) (λ x q. not-nil x.lines q.1) h)

pub unit-steady : (u : UnitText) → in_entity u.kind ≡ false → IsPrintable u → Each (PlaceRight u) (places u) → UnitSteady u
unit-steady u e p s =
    let shape = shaped-by u.kind u.blocks e p.shaped in
    record {
      runs = e;
      places = s;
      given = Each-by_blocks GivesNamed u.blocks (Each-more HasInstLine GivesNamed (lines_of u.blocks) (λ l h. line-gives l.result l.inst (lexemes_in (item_line (inst_item l))) h.1) (lines-printed u p));
      shaped = shape.3;
      first = shape.0;
      more = shape.1;
      blocks = shape.2;
    }

-- so are the functions of a module
abbrev pub FunctionsSteady : List ItemText → Type 0
FunctionsSteady items = (n : UnitName) (f : UnitText) → function_named n (functions items) ≡ Some f → UnitSteady f

pub functions-steady : (items : List ItemText) → Each PlacesIn items → Each IsPrintableItem items → FunctionsSteady items
functions-steady [] s p n f e = absurd (none-some f e)
functions-steady (declare_text d ∷ items) s p n f e = functions-steady items s.1 p.1 n f e
functions-steady (unit_text u ∷ items) s p n f e = by (is_function u.kind) refl e (functions-steady items s.1 p.1 n f)
  where
    by : (b : Bool) → is_function u.kind ≡ b → function_named n (if b then u ∷ functions items else functions items) ≡ Some f → (function_named n (functions items) ≡ Some f → UnitSteady f)
        → UnitSteady f
    by false k q go = go q
    by true k q go = at (same_unit_name u.name n) q
      where
        at : (c : Bool) → (if c then Some u else function_named n (functions items)) ≡ Some f → UnitSteady f
        at true r = subst UnitSteady (same_Some u f r) (unit-steady u (function-runs u.kind k) p.0 s.0)
        at false r = go r

-- ---- the place of an instruction

in-blocks : (P : InstPlaceText → Type 0) (k : ℕ) (e : Bool) (bs : List BlockText) (n : List ℕ) (b : BlockText) (seen : List LineText) (l : LineText) (after : List LineText)
    → Each P (places_from k e bs) → block_of n bs ≡ Some b → b.lines ≡ seen ++ l ∷ after
    → (j : ℕ) × (d : Bool) × P (place-at j d b seen l after)
in-blocks P k e [] n b seen l after h q s = absurd (none-some b q)
in-blocks P k e (c ∷ bs) n b seen l after h q s = by (is_result_name n c.label) q (λ p. in-blocks P (k + length c.lines) false bs n b seen l after r.1 p s)
  where
    r : Each P (places_in k e c [] c.lines) × Each P (places_from (k + length c.lines) false bs)
    r = each-split P (places_in k e c [] c.lines) (places_from (k + length c.lines) false bs) h

    by : (x : Bool) → (if x then Some c else block_of n bs) ≡ Some b → (block_of n bs ≡ Some b → (j : ℕ) × (d : Bool) × P (place-at j d b seen l after)) → (j : ℕ) × (d : Bool)
        × P (place-at j d b seen l after)
    by true p go =
        let here : Each P (places_in k e b [] b.lines) = subst (λ (x : BlockText). Each P (places_in k e x [] x.lines)) (same_Some c b p) r.0 in
        let z = in-block P k e b [] seen l after (subst (λ (ls : List LineText). Each P (places_in k e b [] ls)) s here) in
        (z.0, e, z.1)
    by false p go = go p

pub place-of : (u : UnitText) → UnitSteady u → (n : List ℕ) (b : BlockText) (seen : List LineText) (l : LineText) (after : List LineText) → block_of n u.blocks ≡ Some b → b.lines ≡ seen ++ l ∷ after
    → (j : ℕ) × (d : Bool) × PlaceRight u (place-at j d b seen l after)
place-of u s n b seen l after q e = in-blocks (PlaceRight u) 1 true u.blocks n b seen l after s.places q e

-- ---- the entry block has no `phi`

no-phi : (u : UnitText) (p : InstPlaceText) (i : InstText) → p.in_entry ≡ true → PhiIsRight u p i → is_phi i ≡ false
no-phi u p (phi_text ty es) e h = absurd cc
no-phi u p _ e h = refl

entry-lines : (u : UnitText) (k : ℕ) (b : BlockText) (before rest : List LineText) → Each (PlaceRight u) (places_in k true b before rest) → Each (λ (l : LineText). is_phi l.inst ≡ false) rest
entry-lines u k b before [] h = tt
entry-lines u k b before (l ∷ rest) h = (no-phi u (place-at k true b before l rest) l.inst refl h.0.phi, entry-lines u (k + 1) b (before ++ l ∷ []) rest h.1)

pub entry-no-phi : (u : UnitText) (s : UnitSteady u) → Each (λ (l : LineText). is_phi l.inst ≡ false) s.first.lines
entry-no-phi u s =
    let all : Each (PlaceRight u) (places_from 1 true (s.first ∷ s.more)) = subst (λ (bs : List BlockText). Each (PlaceRight u) (places_from 1 true bs)) s.blocks s.places in
    entry-lines u 1 s.first [] s.first.lines (each-split (PlaceRight u) (places_in 1 true s.first [] s.first.lines) (places_from (1 + length s.first.lines) false s.more) all).0
