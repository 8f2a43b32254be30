-- Rows as terms are made, and with one more of each kind.
use Rattle.std.proofs.Common.{◌≡◌, ℕ, Bool, false, if◌then◌else◌, List, [], ◌∷◌, ◌++◌, Some, refl, ap, sym, ◌∙◌, subst}
use Rattle.std.specs.Option.{is_some}
use Rattle.lh_unit.specs.declared.inst.Typed.{Typed}
use Rattle.lh_term.specs.Tree.{Tree}
use Rattle.lh_term.specs.Make.{is_zero}
use Rattle.lh_term.specs.Arena.{trees, tree_at, StandsForTree, Grows}
use Rattle.lh_term.specs.declared.part.Part.{Part}
use Rattle.lh_term.specs.declared.term.TermId.{TermId}
use Rattle.lh_term.specs.declared.term.TermNode.{TermNode}
use Rattle.lh_term.proofs.Swaps.{stands_grown, tree_grown, in_grown, grows_on}
use Rattle.lh_region_def.specs.Rows as text
use Rattle.lh_region_def.specs.Places.{Midst}
use Rattle.lh_region_joins.specs.Joins.{IsConditionAt, AreTerms}
use Rattle.lh_region_joins.proofs.Selectors.{terms-grown}
use Rattle.lh_region_places.specs.declared.state.PlaceState.{PlaceState}
use Rattle.lh_region.specs.declared.rows.Rows.{Rows}
use Rattle.lh_region.specs.declared.rows.DriveRow.{DriveRow}
use Rattle.lh_region.specs.declared.rows.EndRow.{EndRow}
use Rattle.lh_region.specs.declared.rows.Way.{Way}
use Rattle.lh_region.specs.declared.effects.DriveAt.{DriveAt}
use Rattle.lh_region_places.specs.Asked.{CanAsk, StillTold, IsTold}
use Rattle.lh_region.specs.Taken.{asks_at, ValuesAreTold}
use Rattle.lh_region.specs.Stands.{IsDrive, AreDrives, IsEnd, AreEnds, AreRows, way_text}
use Rattle.lh_region.specs.Effects.{CanDrive, StillDriven, IsProbed, IsDriven, AreAsserted, IsEnded, IsWithAsserts}

-- ---- an arena that grows

pub drives-grown : (ns ms : List TermNode) (ds : List DriveRow) (xs : List text.Drive) → Grows ns ms → AreDrives ns ds xs → AreDrives ms ds xs
drives-grown ns ms [] [] g h = tt
drives-grown ns ms [] (x ∷ xs) g h = absurd h
drives-grown ns ms (d ∷ ds) [] g h = absurd h
drives-grown ns ms (d ∷ ds) (x ∷ xs) g h = (
  record { cond = stands_grown ns ms g d.cond x.cond h.0.cond; part = h.0.part; value = stands_grown ns ms g d.value x.value h.0.value; delay = stands_grown ns ms g d.delay x.delay h.0.delay },
  drives-grown ns ms ds xs g h.1,
)

pub ends-grown : (ns ms : List TermNode) (es : List EndRow) (xs : List text.RegionEnd) → Grows ns ms → AreEnds ns es xs → AreEnds ms es xs
ends-grown ns ms [] [] g h = tt
ends-grown ns ms [] (x ∷ xs) g h = absurd h
ends-grown ns ms (e ∷ es) [] g h = absurd h
ends-grown ns ms (e ∷ es) (x ∷ xs) g h = (record { cond = stands_grown ns ms g e.cond x.cond h.0.cond; way = h.0.way }, ends-grown ns ms es xs g h.1)

pub rows-grown : (ns ms : List TermNode) (r : Rows) (x : text.Rows) → Grows ns ms → AreRows ns r x → AreRows ms r x
rows-grown ns ms r x g h = record {
  probes = h.probes;
  drives = drives-grown ns ms r.drives x.drives g h.drives;
  asserts = terms-grown ns ms r.asserts x.asserts g h.asserts;
  ends = ends-grown ns ms r.ends x.ends g h.ends;
}

-- ---- one more row

pub drives-push : (ns : List TermNode) (ds : List DriveRow) (xs : List text.Drive) (d : DriveRow) (x : text.Drive) → AreDrives ns ds xs → IsDrive ns d x → AreDrives ns (ds ++ d ∷ []) (xs ++ x ∷ [])
drives-push ns [] [] d x h i = (i, tt)
drives-push ns [] (y ∷ ys) d x h i = absurd h
drives-push ns (e ∷ es) [] d x h i = absurd h
drives-push ns (e ∷ es) (y ∷ ys) d x h i = (h.0, drives-push ns es ys d x h.1 i)

ends-push : (ns : List TermNode) (es : List EndRow) (xs : List text.RegionEnd) (e : EndRow) (x : text.RegionEnd) → AreEnds ns es xs → IsEnd ns e x → AreEnds ns (es ++ e ∷ []) (xs ++ x ∷ [])
ends-push ns [] [] e x h i = (i, tt)
ends-push ns [] (y ∷ ys) e x h i = absurd h
ends-push ns (d ∷ ds) [] e x h i = absurd h
ends-push ns (d ∷ ds) (y ∷ ys) e x h i = (h.0, ends-push ns ds ys e x h.1 i)

terms-more : (ns : List TermNode) (ts : List TermId) (xs : List Tree) (us : List TermId) (ys : List Tree) → AreTerms ns ts xs → AreTerms ns us ys → AreTerms ns (ts ++ us) (xs ++ ys)
terms-more ns [] [] us ys h m = m
terms-more ns [] (x ∷ xs) us ys h m = absurd h
terms-more ns (t ∷ ts) [] us ys h m = absurd h
terms-more ns (t ∷ ts) (x ∷ xs) us ys h m = (h.0, terms-more ns ts xs us ys h.1 m)

-- ---- probes

pub probed-more : (ns ms : List TermNode) (r q : Rows) (p : Part) → Grows ns ms → q.probes ≡ r.probes ++ p ∷ [] → q.drives ≡ r.drives → q.asserts ≡ r.asserts → q.ends ≡ r.ends → IsProbed ns r ms q p
probed-more ns ms r q p g e d a n h result m s =
    let t = rows-grown ns ms r m.rows g s in
    record {
      probes = e ∙ ap (λ (ps : List Part). ps ++ p ∷ []) t.probes;
      drives = subst (λ (xs : List DriveRow). AreDrives ms xs m.rows.drives) (sym d) t.drives;
      asserts = subst (λ (xs : List TermId). AreTerms ms xs m.rows.asserts) (sym a) t.asserts;
      ends = subst (λ (xs : List EndRow). AreEnds ms xs m.rows.ends) (sym n) t.ends;
    }

-- ---- drives

-- the rows after a drive, whether or not it ever happens
abbrev after_drive : Bool → Midst → text.Drive → text.Rows
after_drive b m d = (if b then m else record m { rows = record m.rows { drives = m.rows.drives ++ d ∷ [] } }).rows

module _ (ns ms : List TermNode) (ps qs : List PlaceState) (d : DriveAt) (t : TermId) (g : Grows ns ms) (still : StillTold ns ps ms qs d.value d.place) (told : IsTold ns ps ms d.value d.place t) where
  pub delay-asked : CanDrive ns ps d → CanAsk ms qs d.after d.place
  delay-asked c = record { told = c.told; tells = still c.told c.tells c.value; there = c.delay }

  module _ (os : List TermNode) (rs : List PlaceState) (u : TermId) (h : Grows ms os) (later : StillTold ms qs os rs d.after d.place) (delay : IsTold ms qs os d.after d.place u) where
    pub driven-still : StillDriven ns ps os rs d
    driven-still f t a b = later f (still f t a) b

    pub driven-more : (r q : Rows) (p : Part) (c : DriveRow) → IsConditionAt ns d.cond → is_zero (tree_at (trees ns) d.cond) ≡ false → c.cond ≡ d.cond → c.part ≡ p → c.value ≡ t → c.delay ≡ u
        → q.probes ≡ r.probes → q.drives ≡ r.drives ++ c ∷ [] → q.asserts ≡ r.asserts → q.ends ≡ r.ends → IsDriven ns ps r os q d p
    driven-more r q p c i z cc-is cp cv cd eb ed ea en f x y m tl hx hy s =
        let k = grows_on ns ms os g h in
        let w = rows-grown ns os r m.rows k s in
        let (x1, fx, sx) = told f tl (ap is_some hx) in
        let vx : Some x1 ≡ Some x = sym fx ∙ hx in
        let wx : x1 ≡ x = cc in
        let (y1, fy, sy) = delay f (still f tl (ap is_some hx)) (ap is_some hy) in
        let vy : Some y1 ≡ Some y = sym fy ∙ hy in
        let wy : y1 ≡ y = cc in
        let one : IsDrive os c (record { cond = tree_at (trees ns) d.cond; part = p; value = x; delay = y }) = record {
          cond = subst (λ (a : TermId). StandsForTree os a (tree_at (trees ns) d.cond)) (sym cc-is) (record { is_in = in_grown ns os k d.cond i.is_in; tree = tree_grown ns os k d.cond i.is_in });
          part = cp;
          value = subst (λ (a : TermId). StandsForTree os a x) (sym cv) (stands_grown ms os h t x (subst (StandsForTree ms t) wx sx));
          delay = subst (λ (a : TermId). StandsForTree os a y) (sym cd) (subst (StandsForTree os u) wy sy);
        } in
        let all : AreRows os q (after_drive false m (record { cond = tree_at (trees ns) d.cond; part = p; value = x; delay = y })) = record {
          probes = eb ∙ w.probes;
          drives = subst (λ (zs : List DriveRow). AreDrives os zs (m.rows.drives ++ record { cond = tree_at (trees ns) d.cond; part = p; value = x; delay = y } ∷ [])) (sym ed)
              (drives-push os r.drives m.rows.drives c (record { cond = tree_at (trees ns) d.cond; part = p; value = x; delay = y }) w.drives one);
          asserts = subst (λ (zs : List TermId). AreTerms os zs m.rows.asserts) (sym ea) w.asserts;
          ends = subst (λ (zs : List EndRow). AreEnds os zs m.rows.ends) (sym en) w.ends;
        } in
        subst (λ (b : Bool). AreRows os q (after_drive b m (record { cond = tree_at (trees ns) d.cond; part = p; value = x; delay = y }))) (sym z) all

-- ---- assertions

pub asserts-none : (r : Rows) → IsWithAsserts r [] r
asserts-none r = record { probes_stay = refl; drives_stay = refl; ends_stay = refl; more = sym (nil r.asserts) }
  where
    nil : (ts : List TermId) → ts ++ [] ≡ ts
    nil [] = refl
    nil (t ∷ ts) = ap (λ (us : List TermId). t ∷ us) (nil ts)

append-append : (ts us : List TermId) (t : TermId) → (ts ++ us) ++ t ∷ [] ≡ ts ++ (us ++ t ∷ [])
append-append [] us t = refl
append-append (x ∷ ts) us t = ap (λ (xs : List TermId). x ∷ xs) (append-append ts us t)

pub asserts-next : (r p q : Rows) (ts after : List TermId) (t : TermId) → after ≡ ts ++ t ∷ [] → q.probes ≡ p.probes → q.drives ≡ p.drives → q.ends ≡ p.ends → q.asserts ≡ p.asserts ++ t ∷ []
    → IsWithAsserts r ts p → IsWithAsserts r after q
asserts-next r p q ts after t e eb ed en ea h = record {
  probes_stay = eb ∙ h.probes_stay;
  drives_stay = ed ∙ h.drives_stay;
  ends_stay = en ∙ h.ends_stay;
  more = ea ∙ ap (λ (us : List TermId). us ++ t ∷ []) h.more ∙ append-append r.asserts ts t ∙ ap (λ (us : List TermId). r.asserts ++ us) (sym e);
}

pub asserted-more : (ns ms : List TermNode) (ps : List PlaceState) (r q : Rows) (i : ℕ) (xs : List Typed) (ts : List TermId) → Grows ns ms → ValuesAreTold ns ps ms (asks_at i xs) ts → IsWithAsserts r ts q
    → AreAsserted ns ps r ms q i xs
asserted-more ns ms ps r q i xs ts g told h f ys m t e s =
    let w = rows-grown ns ms r m.rows g s in
    record {
      probes = h.probes_stay ∙ w.probes;
      drives = subst (λ (zs : List DriveRow). AreDrives ms zs m.rows.drives) (sym h.drives_stay) w.drives;
      asserts = subst (λ (zs : List TermId). AreTerms ms zs (m.rows.asserts ++ ys)) (sym h.more) (terms-more ms r.asserts m.rows.asserts ts ys w.asserts (told f ys t e));
      ends = subst (λ (zs : List EndRow). AreEnds ms zs m.rows.ends) (sym h.ends_stay) w.ends;
    }

-- ---- ends

pub ended-more : (r q : Rows) (e : EndRow) (cond : TermId) (way : Way) → e.cond ≡ cond → e.way ≡ way → q.probes ≡ r.probes → q.drives ≡ r.drives → q.asserts ≡ r.asserts → q.ends ≡ r.ends ++ e ∷ []
    → IsEnded r q cond way
ended-more r q e cond way ec ew eb ed ea en ns h c m st s =
    let one : IsEnd ns e (record { cond = c; way = way_text way; from = h.label; known = m.known }) = record
    { cond = subst (λ (t : TermId). StandsForTree ns t c) (sym ec) st; way = ap way_text ew } in
    record {
      probes = eb ∙ s.probes;
      drives = subst (λ (zs : List DriveRow). AreDrives ns zs m.rows.drives) (sym ed) s.drives;
      asserts = subst (λ (zs : List TermId). AreTerms ns zs m.rows.asserts) (sym ea) s.asserts;
      ends = subst (λ (zs : List EndRow). AreEnds ns zs (m.rows.ends ++ record { cond = c; way = way_text way; from = h.label; known = m.known } ∷ [])) (sym en)
          (ends-push ns r.ends m.rows.ends e (record { cond = c; way = way_text way; from = h.label; known = m.known }) s.ends one);
    }
