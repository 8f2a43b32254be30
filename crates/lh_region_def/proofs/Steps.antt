-- What the lines of a place add: rows and edges on conditions that imply its own; and what is known stays typed and there.
use Rattle.std.proofs.Common.{◌≡◌, ℕ, List, [], ◌∷◌, ◌++◌, map, Bool, true, false, ◌&&◌, nat_eq, Some, refl, ap, sym, ◌∙◌, subst, append_assoc, arith}
use Rattle.std.specs.Bool.{if◌then◌else◌}
use Rattle.std.specs.Prelude.{slice_get}
use Rattle.std.specs.List.{list_any}
use Rattle.std.proofs.lemmas.List.{append-nil}
use Rattle.std.proofs.lemmas.Bool.{false≢true}
use Rattle.std.proofs.lemmas.Bool.Decides.{nat_tests}
use Rattle.lh_types.specs.Types.{time_type, IsData}
use Rattle.lh_unit.specs.Contents.{LineText, BlockText, UnitText}
use Rattle.lh_unit_names.specs.Names.{same_name}
use Rattle.lh_unit.specs.Named.{block_of}
use Rattle.lh_unit.specs.Places.{is_terminator, leads_to}
use Rattle.lh_unit.specs.Within.{Each}
use Rattle.lh_unit.proofs.Lists.{Each-append}
use Rattle.lh_flat_laws.specs.Formed.{IsFormed}
use Rattle.lh_flat.specs.Flat.{FlatBlockText, with_merge, as_block}
use Rattle.lh_term.specs.Tree.{Tree}
use Rattle.lh_term.specs.Make.{is_zero}
use Rattle.lh_term.specs.Mean.{Valuation, IsFitting}
use Rattle.lh_term.specs.declared.part.Part.{Part}
use Rattle.lh_region_def.specs.Known.{Knowledge}
use Rattle.lh_region_def.specs.Rows.{Drive, enters_head, RegionEnd}
use Rattle.lh_region_def.specs.Joins.{RegionEdge}
use Rattle.lh_region_def.specs.Places.{Region, Here, Midst, block_number, next_place, goes_if, leads, ends}
use Rattle.lh_region_def.specs.Typed.{KnowsTyped, KnowsThere, IsCondition, IsOfType}
use Rattle.lh_region_def.specs.Right.{BlockAt, JoinsAt, WayRight}
use Rattle.lh_region_def.proofs.MergedValues.{one}
use Rattle.lh_region_def.proofs.Labels.{block-by, block-labelled, block-text}
use Rattle.lh_region_def.proofs.Edges.{edge-joins}

-- ---- one list goes on as another

-- the second list is the first and more items, of each of which P holds
abbrev pub More : {X : Type 0} → (X → Type 0) → (xs ys : List X) → Type 0
More P xs ys = (zs : List _) × (ys ≡ xs ++ zs) × Each P zs

pub no-more : {X : Type 0} (P : X → Type 0) (xs : List X) → More P xs xs
no-more P xs = ([], sym (append-nil xs), tt)

pub one-more : {X : Type 0} (P : X → Type 0) (xs : List X) (x : X) → P x → More P xs (xs ++ x ∷ [])
one-more P xs x h = (x ∷ [], refl, (h, tt))

pub more-more : {X : Type 0} (P : X → Type 0) (xs ys zs : List X) → More P xs ys → More P ys zs → More P xs zs
more-more P xs ys zs a b = (a.0 ++ b.0, b.1 ∙ ap (λ ws. ws ++ b.0) a.1 ∙ append_assoc xs a.0 b.0, Each-append P a.0 b.0 a.2 b.2)

-- ---- a region of a unit

pub record RegionOf (u : UnitText) (g : Region) : Type 0 where
  pub formed : IsFormed u
  pub blocks : u.blocks ≡ map as_block g.blocks
  pub probe : (p : Part) → IsData p.ty → IsOfType p.ty (g.probe p)

-- where the second condition holds, the first does
abbrev pub Under : (q c : Tree) → Type 0
Under q c = (past now : Valuation) (p : IsFitting past) (n : IsFitting now) → one past now p n c ≡ true → one past now p n q ≡ true

-- an edge that a place makes
pub record EdgeRight (u : UnitText) (g : Region) (h : Here) (e : RegionEdge) : Type 0 where
  pub cond : IsCondition e.cond
  pub under : Under h.cond e.cond
  pub from : e.from ≡ h.label
  pub place : e.to ≡ next_place h.place e.to.block
  pub joins : JoinsAt u g e.to.block e.from e.known

-- an end of a place
pub record EndRight (u : UnitText) (g : Region) (h : Here) (x : RegionEnd) : Type 0 where
  pub cond : IsCondition x.cond
  pub under : Under h.cond x.cond
  pub from : x.from ≡ h.label
  pub known : KnowsTyped u x.known
  pub way : WayRight u g x.way x.from x.known

-- a drive of a place
pub record DriveRight (h : Here) (d : Drive) : Type 0 where
  pub cond : IsCondition d.cond
  pub under : Under h.cond d.cond
  pub part : IsData d.part.ty
  pub value : IsOfType d.part.ty d.value
  pub delay : IsOfType time_type d.delay

-- ---- where a terminator leads

module _ (u : UnitText) (g : Region) (r : RegionOf u g) (i : ℕ) (b : FlatBlockText) (bat : BlockAt g.blocks i b) (h : Here) (hl : h.label ≡ b.label) where
  pub text-at : (j : ℕ) (c : FlatBlockText) → BlockAt g.blocks j c → slice_get u.blocks j ≡ Some (as_block c)
  text-at j c a = ap (λ bs. slice_get bs j) r.blocks ∙ block-text g.blocks j c a.at

  pub text-of : (j : ℕ) (c : FlatBlockText) → BlockAt g.blocks j c → block_of c.label u.blocks ≡ Some (as_block c)
  text-of j c a = ap (block_of c.label) r.blocks ∙ block-labelled g.blocks c.label j c a.at a.number

  -- the block of a label
  pub record Target (to : List ℕ) : Type 0 where
    pub number : ℕ
    pub block : FlatBlockText
    pub is : block_number to g.blocks ≡ Some number
    pub at : BlockAt g.blocks number block
    pub label : block.label ≡ to

  pub target : (to : List ℕ) → (c : BlockText) × (block_of to u.blocks ≡ Some c) → Target to
  target to c = let z = block-by to g.blocks c.0 (sym (ap (block_of to) r.blocks) ∙ c.1) in record { number = z.0; block = z.1; is = z.2; at = z.3; label = z.4 }

  module _ (before : List LineText) (l : LineText) (split : with_merge b.merge b.lines ≡ before ++ l ∷ []) (last : is_terminator l.inst ≡ true) (k : Knowledge) (typed : KnowsTyped u k)
      (there : KnowsThere u (as_block b) before k) where
    -- an edge to it may join others there
    pub joins-at : (to : List ℕ) → list_any (λ m. same_name m to) (leads_to l.inst) ≡ true → (t : Target to) → JoinsAt u g t.number h.label k
    joins-at to named t = (
      t.block,
      t.at,
      λ e from known c.
          let from' : e.from ≡ b.label = from ∙ hl in
          edge-joins u r.formed i b.label (as_block b) (text-at i b bat) (text-of i b bat) refl before l split last k typed there to t.number (as_block t.block)
          (text-at t.number t.block t.at) (subst (λ n. block_of n u.blocks ≡ Some (as_block t.block)) t.label (text-of t.number t.block t.at)) (ap Some t.label) named e known from' c,
    )

    -- how control is led to a block: never, by an edge, or by the end of the region
    pub data Led (c : Tree) (m : Midst) (j : ℕ) : Midst → Type 0 where
      led_never : is_zero c ≡ true → Led c m j m
      led_edge : Led c m j (record m { edges = m.edges ++ record { to = next_place h.place j; from = h.label; cond = c; known = m.known } ∷ [] })
      led_head : (g.ends_at_head ≡ true) → (j ≡ g.head) → Led c m j (ends h c m enters_head)

    pub leads-led : (c : Tree) (m : Midst) (to : List ℕ) (t : Target to) → Led c m t.number (leads g h c to m)
    leads-led c m to t = by (is_zero c) refl
      where
        goes-led : (x : Bool) → (g.ends_at_head && nat_eq t.number g.head) ≡ x
            → Led c m t.number (if x then ends h c m enters_head else record m { edges = m.edges ++ record { to = next_place h.place t.number; from = h.label; cond = c; known = m.known } ∷ [] })
        goes-led false q = led_edge
        goes-led true q = at g.ends_at_head refl (nat_eq t.number g.head) refl q
          where
            at : (y : Bool) → g.ends_at_head ≡ y → (z : Bool) → nat_eq t.number g.head ≡ z → (y && z) ≡ true → Led c m t.number (ends h c m enters_head)
            at true e true f q = led_head e (grind (arith, nat_tests))
            at true e false f q = absurd (false≢true q)
            at false e z f q = absurd (false≢true q)

        by : (x : Bool) → is_zero c ≡ x → Led c m t.number (if x then m else goes_if g h c m (block_number to g.blocks))
        by true q = led_never q
        by false q = subst (λ o. Led c m t.number (goes_if g h c m o)) (sym t.is) (goes-led (g.ends_at_head && nat_eq t.number g.head) refl)
