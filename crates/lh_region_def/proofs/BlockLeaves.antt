-- Where control leaves a block: by the one edge that is taken, or the activation or the region ends by the one end whose condition holds.
use Rattle.std.proofs.Common.{◌≡◌, inl, inr, ℕ, List, [], ◌∷◌, ◌++◌, Bool, true, false, Option, Some, refl, ap, sym, ◌∙◌, subst}
use Rattle.std.specs.Option.{option_and_then, option_map}
use Rattle.std.proofs.lemmas.Bool.{false≢true}
use Rattle.lh_types.specs.Values.{Datum}
use Rattle.lh_types.specs.Wish.{Wish}
use Rattle.lh_types.specs.declared.part.Range.{Range}
use Rattle.lh_unit.specs.Contents.{LineText, BlockText, UnitText}
use Rattle.lh_unit.specs.Held.{Env}
use Rattle.lh_unit.specs.Places.{is_terminator}
use Rattle.lh_unit.specs.Within.{Each}
use Rattle.lh_unit.specs.Activation.{Scene, Point, Activated, Stand, phis_taken, entered, run}
use Rattle.lh_flat.specs.Flat.{FlatBlockText, with_merge, as_block}
use Rattle.lh_term.specs.Tree.{Tree}
use Rattle.lh_term.specs.Mean.{Valuation, IsFitting, mean}
use Rattle.lh_term.specs.Make.{bit_of}
use Rattle.lh_region_def.specs.Known.{Knowledge}
use Rattle.lh_region_def.specs.Rows.{Way, enters_head, RegionEnd}
use Rattle.lh_region_def.specs.Joins.{RegionPlace, RegionEdge}
use Rattle.lh_region_def.specs.Places.{Region, Here, Midst, next_place}
use Rattle.lh_region_def.specs.Typed.{Among, KnowsTyped, KnowsThere, IsCondition}
use Rattle.lh_region_def.specs.Means.{range_in, KnownIsHeld}
use Rattle.lh_region_def.specs.Ending as ending
use Rattle.lh_region_def.specs.Right.{BlockAt, JoinsAt}
use Rattle.lh_region_def.proofs.Sites.{LineGood, good-lines}
use Rattle.lh_region_def.proofs.MergedValues.{one, bit-condition}
use Rattle.lh_region_def.proofs.Phis.{known-shows-at}
use Rattle.lh_region_def.proofs.Steps.{RegionOf, text-at, text-of, Led, led_never, led_edge, led_head}
use Rattle.lh_region_def.proofs.BlockExecution.{zero-not-one}
use Rattle.lh_region_def.proofs.LiveEdges as Living

module _ (u : UnitText) (g : Region) (r : RegionOf u g) (i : ℕ) (b : FlatBlockText) (bat : BlockAt g.blocks i b) (h : Here) (hl : h.label ≡ b.label) (hc : IsCondition h.cond)
    (s : Scene) (args : List Range) (past now : Valuation) (p : IsFitting past) (n : IsFitting now) (more : List RegionPlace) where
  abbrev pub v : Tree → Datum
  v = mean past now

  abbrev pub shows : Knowledge → Env → Type 0
  shows = KnownIsHeld u v (range_in args)

  abbrev pub true-here : Tree → Bool
  true-here = one past now p n

  abbrev pub NoLive : List RegionEdge → Type 0
  NoLive es = Living.NoLive u args past now more es

  abbrev pub OneLive : List RegionEdge → RegionPlace → List ℕ → Env → Type 0
  OneLive es place from held = Living.OneLive u args past now more es place from held

  abbrev pub NoEnd : List RegionEnd → Type 0
  NoEnd xs = Living.NoEnd u args past now xs

  abbrev pub OneEnd : List RegionEnd → RegionEnd → Type 0
  OneEnd xs x = Living.OneEnd u args past now xs x

  -- a block is entered from this one with this held
  pub record Entered (j : ℕ) (e : Env) : Type 0 where
    pub block : FlatBlockText
    pub at : BlockAt g.blocks j block
    pub held : Env
    pub phis : phis_taken b.label e (with_merge block.merge block.lines) ≡ Some held

  -- the point there
  abbrev pub entered-at : (j : ℕ) (e : Env) → Entered j e → Wish → List Bool → Point
  entered-at j e t w o = record { control = record { unit = u; block = t.block.label; rest = with_merge t.block.merge t.block.lines; held = t.held }; callers = []; wish = w; outcomes = o }

  abbrev pub StandsAs : Way → (from : List ℕ) → Stand → Type 0
  StandsAs way from st = ending.StandsAs g.blocks args way from st

  -- How control leaves the block, with this held.
  pub data Left (m : Midst) (e : Env) : Type 0 where
    to_block : (j : ℕ) → Entered j e → OneLive m.edges (next_place h.place j) h.label e → NoEnd m.rows.ends → Left m e
    to_head : (g.ends_at_head ≡ true) → Entered g.head e → NoLive m.edges → (x : RegionEnd) → OneEnd m.rows.ends x → (x.way ≡ enters_head) → (x.from ≡ h.label) → shows x.known e → Left m e
    stops : (st : Stand) → NoLive m.edges → (x : RegionEnd) → OneEnd m.rows.ends x → StandsAs x.way x.from st → (x.from ≡ h.label) → shows x.known e → Left m e

  -- what so many instructions from there lead to
  abbrev pub goes_on : (m : Midst) (e : Env) → Left m e → Wish → List Bool → ℕ → Option Activated
  goes_on m e (to_block j t a c) w o k = run k s (entered-at j e t w o)
  goes_on m e (to_head i t a x q y z f) w o k = run k s (entered-at g.head e t w o)
  goes_on m e (stops st a x q y z f) w o k = Some (record { state = record { stand = st; held = e }; wish = w; outcomes = o })

  -- ---- a block is entered

  sound-lines : (j : ℕ) (c : FlatBlockText) → BlockAt g.blocks j c → Each (LineGood u) (with_merge c.merge c.lines)
  sound-lines j c a = good-lines u r.formed j (as_block c) (text-at u g r i b bat h hl j c a)

  pub enters : (j : ℕ) (k : Knowledge) (e : Env) → JoinsAt u g j h.label k → shows k e → Entered j e
  enters j k e x sh =
      let e0 : RegionEdge = record { to = record { turns = 0; block = j }; from = h.label; cond = bit_of true; known = k } in
      let z = known-shows-at u (as_block x.0) e0 [] (x.2 e0 refl refl (bit-condition true), tt) past now p n (range_in args) b.label e e0 (inl refl) refl (λ y a t. all y a) (sound-lines j x.0 x.1) in
      record { block = x.0; at = x.1; held = z.0; phis = z.1 }
    where
      all : (y : RegionEdge) → Among y (record { to = record { turns = 0; block = j }; from = h.label; cond = bit_of true; known = k } ∷ []) → (y.from ≡ b.label)
          × KnownIsHeld u v (range_in args) y.known e
      all y (inl q) = (ap (λ (z : RegionEdge). z.from) (sym q) ∙ hl, subst (λ (z : RegionEdge). KnownIsHeld u v (range_in args) z.known e) q sh)
      all y (inr a) = absurd a

  -- by the edge to the block of this label
  pub entered-is : (to : List ℕ) (j : ℕ) (e : Env) (t : Entered j e) → t.block.label ≡ to
      → entered u e b.label to ≡ Some (record { unit = u; block = t.block.label; rest = with_merge t.block.merge t.block.lines; held = t.held })
  entered-is to j e t q =
      ap (entered u e b.label) (sym q)
      ∙ ap (option_and_then (λ (c : BlockText). option_map (λ e'. record { unit = u; block = t.block.label; rest = c.lines; held = e' }) (phis_taken b.label e c.lines))) (text-of u g r i b bat h hl j
      t.block t.at)
      ∙ ap (option_map (λ e'. record { unit = u; block = t.block.label; rest = with_merge t.block.merge t.block.lines; held = e' })) t.phis

  -- ---- edges and ends that are added

  abbrev pub LedOf : (before : List LineText) (l : LineText) → with_merge b.merge b.lines ≡ before ++ l ∷ [] → is_terminator l.inst ≡ true → (k : Knowledge) → KnowsTyped u k
      → KnowsThere u (as_block b) before k → Tree → Midst → ℕ → Midst → Type 0
  LedOf = Led u g r i b bat h hl

  module _ (before : List LineText) (l : LineText) (split : with_merge b.merge b.lines ≡ before ++ l ∷ []) (last : is_terminator l.inst ≡ true) (k : Knowledge) (typed : KnowsTyped u k)
      (there : KnowsThere u (as_block b) before k) where
    -- an edge that is taken
    pub led-taken : (c : Tree) (m : Midst) (j : ℕ) (m' : Midst) → LedOf before l split last k typed there c m j m' → true-here c ≡ true → NoLive m.edges → NoEnd m.rows.ends → (e : Env)
        → shows m.known e → (en : Entered j e)
        → (x : Left m' e) × ((w : Wish) (o : List Bool) (steps : ℕ) → goes_on m' e x w o steps ≡ run steps s (entered-at j e en w o))
    led-taken c m j _ (led_never z) t a x e sh en = absurd (false≢true (sym (zero-not-one past now c z) ∙ t))
    led-taken c m j _ led_edge t a x e sh en =
        (to_block j en (Living.new-live u args past now more m.edges (record { to = next_place h.place j; from = h.label; cond = c; known = m.known }) e a t sh) x, λ w o steps. refl)
    led-taken c m j _ (led_head w q) t a x e sh en =
        let y : RegionEnd = record { cond = c; way = enters_head; from = h.label; known = m.known } in
        let en' : Entered g.head e = record { block = en.block; at = subst (λ z. BlockAt g.blocks z en.block) q en.at; held = en.held; phis = en.phis } in
        (to_head w en' a y (Living.new-end u args past now m.rows.ends y x t) refl refl sh, λ w o steps. refl)

    -- one that is not taken leaves what there is
    pub untaken : (c : Tree) (m : Midst) (j : ℕ) (m' : Midst) → LedOf before l split last k typed there c m j m' → true-here c ≡ false → (NoLive m.edges → NoLive m'.edges)
        × (NoEnd m.rows.ends → NoEnd m'.rows.ends) × (m'.known ≡ m.known)
        × ((place : RegionPlace) (from : List ℕ) (held : Env) → OneLive m.edges place from held → OneLive m'.edges place from held) × ((y : RegionEnd) → OneEnd m.rows.ends y → OneEnd m'.rows.ends y)
    untaken c m j _ (led_never z) t = (λ a. a, λ x. x, refl, λ pl f e a. a, λ y x. x)
    untaken c m j _ led_edge t = (
      λ a. Living.no-live-more u args past now more m.edges (record { to = next_place h.place j; from = h.label; cond = c; known = m.known } ∷ []) a (Living.untaken-one u args past now _ t),
      λ x. x,
      refl,
      λ pl f e a. Living.one-live-more u args past now more m.edges (record { to = next_place h.place j; from = h.label; cond = c; known = m.known } ∷ []) pl f e a
          (Living.untaken-one u args past now _ t),
      λ y x. x,
    )
    untaken c m j _ (led_head w q) t = (
      λ a. a,
      λ x. Living.no-end-more u args past now m.rows.ends _ x t,
      refl,
      λ pl f e a. a,
      λ y x. Living.one-end-more u args past now m.rows.ends (record { cond = c; way = enters_head; from = h.label; known = m.known } ∷ []) y x (Living.untaken-end u args past now _ t),
    )

  -- ---- what is left stays so where nothing more is taken

  pub left-more : (m m' : Midst) (e : Env) → (x : Left m e) → (NoLive m.edges → NoLive m'.edges)
      → ((place : RegionPlace) (from : List ℕ) (held : Env) → OneLive m.edges place from held → OneLive m'.edges place from held) → (NoEnd m.rows.ends → NoEnd m'.rows.ends)
      → ((y : RegionEnd) → OneEnd m.rows.ends y → OneEnd m'.rows.ends y)
      → (y : Left m' e) × ((w : Wish) (o : List Bool) (steps : ℕ) → goes_on m' e y w o steps ≡ goes_on m e x w o steps)
  left-more m m' e (to_block j t a x) f1 f2 f3 f4 = (to_block j t (f2 (next_place h.place j) h.label e a) (f3 x), λ w o steps. refl)
  left-more m m' e (to_head i t a y x z q sh) f1 f2 f3 f4 = (to_head i t (f1 a) y (f4 y x) z q sh, λ w o steps. refl)
  left-more m m' e (stops st a y x z q sh) f1 f2 f3 f4 = (stops st (f1 a) y (f4 y x) z q sh, λ w o steps. refl)
