-- Rows by ids tell what the rows of terms tell that they stand for.
use Rattle.std.proofs.Common.{◌≡◌, List, [], ◌∷◌, ◌++◌, Bool, true, false, not, ◌&&◌, ◌||◌, Option, Some, None, refl, ap, sym, ◌∙◌, subst}
use Rattle.std.specs.Bool.{if◌then◌else◌}
use Rattle.std.specs.List.{list_any, list_all}
use Rattle.std.specs.Option.{option_map_or}
use Rattle.lh_unit.specs.Within.{Each}
use Rattle.lh_term.specs.Tree.{Tree}
use Rattle.lh_term.specs.Make.{is_constant}
use Rattle.lh_term.specs.Arena.{trees, tree_at}
use Rattle.lh_term.specs.declared.part.Part.{Part}
use Rattle.lh_term.specs.declared.term.TermNode.{TermNode}
use Rattle.lh_term.specs.declared.term.TermId.{TermId}
use Rattle.lh_edge.specs.Atoms.{contains_past}
use Rattle.lh_region_def.specs.Rows as text
use Rattle.lh_region_def.specs.Regions as texts
use Rattle.lh_region_def.specs.Regions.{waited_parts}
use Rattle.lh_region_def.specs.Typed.{IsOfType}
use Rattle.lh_region_def.specs.Right.{DriveTyped}
use Rattle.lh_region_joins.proofs.Conditions.{stands-condition}
use Rattle.lh_region.specs.Stands.{IsDrive, AreDrives, way_text, AreEnds, AreRows, MaybeRows, AreRegions}
use Rattle.lh_region_joins.specs.Joins.{AreTerms}
use Rattle.lh_region.specs.declared.rows.DriveRow.{DriveRow}
use Rattle.lh_region.specs.declared.rows.EndRow.{EndRow}
use Rattle.lh_region.specs.declared.rows.Rows.{Rows}
use Rattle.lh_region.specs.declared.rows.Regions.{Regions}
use Rattle.lh_shape.specs.Reasons.{is_empty, ends_halted, is_halt, is_once, in_some, is_timed, is_wait, is_same_wait, are_mixed, goes_to_head, waits_for_head, parts_waited, is_insensitive, second_drives, second_ends, row_reasons, first_holding}
use Rattle.lh_shape.specs.ByIds.{some_way, every_way, is_other_wait, mixed, head_is_next, parts_on, drive_at, drives_at, DriveRowFits, DrivesFit, later_drives, later_ends, in_either, has_halt, has_assert, has_varying_delay, is_uncovered, is_deaf, drives_early, once_only, reasons_told}
use Rattle.lh_shape.specs.declared.reason.Reason.{Reason}
use Rattle.lh_shape.specs.declared.reason.Reason.TheVariants as reason

module _ (ns : List TermNode) where
  -- ---- ends

  pub some-way : (f : text.Way → Bool) (es : List EndRow) (xs : List text.RegionEnd) → AreEnds ns es xs → some_way f es ≡ list_any (λ (x : text.RegionEnd). f x.way) xs
  some-way f [] [] h = refl
  some-way f [] (x ∷ xs) h = absurd h
  some-way f (e ∷ es) [] h = absurd h
  some-way f (e ∷ es) (x ∷ xs) h = let a : way_text e.way ≡ x.way = h.0.way in let b = some-way f es xs h.1 in λ i. f (a i) || b i

  pub every-way : (f : text.Way → Bool) (es : List EndRow) (xs : List text.RegionEnd) → AreEnds ns es xs → every_way f es ≡ list_all (λ (x : text.RegionEnd). f x.way) xs
  every-way f [] [] h = refl
  every-way f [] (x ∷ xs) h = absurd h
  every-way f (e ∷ es) [] h = absurd h
  every-way f (e ∷ es) (x ∷ xs) h = let a : way_text e.way ≡ x.way = h.0.way in let b = every-way f es xs h.1 in λ i. f (a i) && b i

  pub mixed-alike : (es : List EndRow) (xs : List text.RegionEnd) → AreEnds ns es xs → mixed es ≡ are_mixed xs
  mixed-alike [] [] h = refl
  mixed-alike [] (x ∷ xs) h = absurd h
  mixed-alike (e ∷ es) [] h = absurd h
  mixed-alike (e ∷ es) (x ∷ xs) h = some-way (is_other_wait (way_text e.way)) es xs h.1 ∙ ap (λ (w : text.Way). list_any (λ (f : text.RegionEnd). not (is_same_wait w f.way)) xs) h.0.way

  pub head-alike : (es : List EndRow) (xs : List text.RegionEnd) → AreEnds ns es xs → head_is_next es ≡ waits_for_head xs
  head-alike [] [] h = refl
  head-alike [] (x ∷ xs) h = absurd h
  head-alike (e ∷ es) [] h = absurd h
  head-alike (e ∷ es) (x ∷ xs) h = ap goes_to_head h.0.way

  pub parts-alike : (es : List EndRow) (xs : List text.RegionEnd) → AreEnds ns es xs → parts_on es ≡ parts_waited xs
  parts-alike [] [] h = refl
  parts-alike [] (x ∷ xs) h = absurd h
  parts-alike (e ∷ es) [] h = absurd h
  parts-alike (e ∷ es) (x ∷ xs) h = let a : way_text e.way ≡ x.way = h.0.way in let b = parts-alike es xs h.1 in λ i. waited_parts (a i) ++ b i

  -- ---- drives

  pub drive-is : (d : DriveRow) (x : text.Drive) → IsDrive ns d x → drive_at ns d ≡ x
  drive-is d x h = λ i. record { cond = h.cond.tree i; part = h.part i; value = h.value.tree i; delay = h.delay.tree i }

  pub drives-are : (ds : List DriveRow) (xs : List text.Drive) → AreDrives ns ds xs → drives_at ns ds ≡ xs
  drives-are [] [] h = refl
  drives-are [] (x ∷ xs) h = absurd h
  drives-are (d ∷ ds) [] h = absurd h
  drives-are (d ∷ ds) (x ∷ xs) h = let a = drive-is d x h.0 in let b = drives-are ds xs h.1 in λ i. a i ∷ b i

  any-at : (f : text.Drive → Bool) (ds : List DriveRow) → list_any (λ (d : DriveRow). f (drive_at ns d)) ds ≡ list_any f (drives_at ns ds)
  any-at f [] = refl
  any-at f (d ∷ ds) = ap (λ (b : Bool). f (drive_at ns d) || b) (any-at f ds)

  pub any-drives : (f : text.Drive → Bool) (ds : List DriveRow) (xs : List text.Drive) → AreDrives ns ds xs → list_any (λ (d : DriveRow). f (drive_at ns d)) ds ≡ list_any f xs
  any-drives f ds xs h = any-at f ds ∙ ap (list_any f) (drives-are ds xs h)

  no-drives : (ds : List DriveRow) (xs : List text.Drive) → AreDrives ns ds xs → is_empty ds ≡ is_empty xs
  no-drives [] [] h = refl
  no-drives [] (x ∷ xs) h = absurd h
  no-drives (d ∷ ds) [] h = absurd h
  no-drives (d ∷ ds) (x ∷ xs) h = refl

  no-terms : (ts : List TermId) (xs : List Tree) → AreTerms ns ts xs → is_empty ts ≡ is_empty xs
  no-terms [] [] h = refl
  no-terms [] (x ∷ xs) h = absurd h
  no-terms (t ∷ ts) [] h = absurd h
  no-terms (t ∷ ts) (x ∷ xs) h = refl

  -- ---- the second region

  pub later-drives : (r : Regions) (x : texts.Regions) → MaybeRows ns r.second x.second → AreDrives ns (later_drives r) (second_drives x)
  later-drives r x h = at r.second x.second h
    where
      at : (o : Option Rows) (p : Option text.Rows) → MaybeRows ns o p → AreDrives ns (option_map_or (λ (s : Rows). s.drives) o []) (option_map_or (λ (s : text.Rows). s.drives) p [])
      at None None h = tt
      at None (Some y) h = absurd h
      at (Some s) None h = absurd h
      at (Some s) (Some y) h = h.drives

  later-ends : (r : Regions) (x : texts.Regions) → MaybeRows ns r.second x.second → AreEnds ns (later_ends r) (second_ends x)
  later-ends r x h = at r.second x.second h
    where
      at : (o : Option Rows) (p : Option text.Rows) → MaybeRows ns o p → AreEnds ns (option_map_or (λ (s : Rows). s.ends) o []) (option_map_or (λ (s : text.Rows). s.ends) p [])
      at None None h = tt
      at None (Some y) h = absurd h
      at (Some s) None h = absurd h
      at (Some s) (Some y) h = h.ends

  in-either : (t : Rows → Bool) (u : text.Rows → Bool) → ((s : Rows) (y : text.Rows) → AreRows ns s y → t s ≡ u y) → (r : Regions) (x : texts.Regions) → AreRegions ns r x → in_either t r ≡ in_some u x
  in-either t u f r x h = let a = f r.first x.first h.first in let b = at r.second x.second h.second in λ i. a i || b i
    where
      at : (o : Option Rows) (p : Option text.Rows) → MaybeRows ns o p → option_map_or t o false ≡ option_map_or u p false
      at None None h = refl
      at None (Some y) h = absurd h
      at (Some s) None h = absurd h
      at (Some s) (Some y) h = f s y h

  -- ---- what the reasons ask

  has-halt : (s : Rows) (y : text.Rows) → AreRows ns s y → has_halt s ≡ list_any ends_halted y.ends
  has-halt s y h = some-way is_halt s.ends y.ends h.ends

  has-assert : (s : Rows) (y : text.Rows) → AreRows ns s y → has_assert s ≡ not (is_empty y.asserts)
  has-assert s y h = ap not (no-terms s.asserts y.asserts h.asserts)

  has-varying : (s : Rows) (y : text.Rows) → AreRows ns s y → has_varying_delay ns s ≡ list_any (λ (d : text.Drive). not (is_constant d.delay)) y.drives
  has-varying s y h = any-drives (λ (d : text.Drive). not (is_constant d.delay)) s.drives y.drives h.drives

  deaf-alike : (s : Rows) (y : text.Rows) → AreRows ns s y → is_deaf s ≡ (waits_for_head y.ends && is_insensitive y)
  deaf-alike s y h =
      let a = head-alike s.ends y.ends h.ends in
      let b = parts-alike s.ends y.ends h.ends in
      let c : s.probes ≡ y.probes = h.probes in
      λ i. a i && list_any (is_uncovered (b i)) (c i)

  early-alike : (s : Rows) (y : text.Rows) → AreRows ns s y → drives_early s ≡ (not (waits_for_head y.ends) && not (is_empty y.drives))
  early-alike s y h =
      let a = head-alike s.ends y.ends h.ends in
      let b = no-drives s.drives y.drives h.drives in
      λ i. not (a i) && not (b i)

  pub once-alike : (s : Rows) (y : text.Rows) → AreRows ns s y → once_only s ≡ is_once y
  once-alike s y h =
      let a = every-way is_halt s.ends y.ends h.ends in
      let b : s.probes ≡ y.probes = h.probes in
      let c = no-terms s.asserts y.asserts h.asserts in
      λ i. a i && (is_empty (b i) && c i)

  -- The reasons that rows by ids give are those of the rows.
  pub reasons-alike : (r : Regions) (x : texts.Regions) → AreRegions ns r x → reasons_told ns r ≡ row_reasons x
  reasons-alike r x h =
      let a = in-either has_halt (λ (s : text.Rows). list_any ends_halted s.ends) has-halt r x h in
      let b = in-either has_assert (λ (s : text.Rows). not (is_empty s.asserts)) has-assert r x h in
      let c = some-way is_timed r.first.ends x.first.ends h.first.ends in
      let d = mixed-alike r.first.ends x.first.ends h.first.ends in
      let e = deaf-alike r.first x.first h.first in
      let f = in-either (has_varying_delay ns) (λ (s : text.Rows). list_any (λ (d : text.Drive). not (is_constant d.delay)) s.drives) has-varying r x h in
      let g = early-alike r.first x.first h.first in
      let k = some-way is_wait (later_ends r) (second_ends x) (later-ends r x h.second) in
      let l = any-drives (λ (d : text.Drive). contains_past d.value) (later_drives r) (second_drives x) (later-drives r x h.second) in
      λ i. (a i, reason.Halts) ∷ (b i, reason.Asserts) ∷ (c i, reason.TimedWait) ∷ (d i, reason.MixedWaits) ∷ (e i, reason.NotSensitive) ∷ (f i, reason.DelayNotConstant)
      ∷ (g i, reason.DrivesBeforeWait) ∷ (k i, reason.WaitsTwice) ∷ (l i, reason.PastValueDriven) ∷ []

  -- ---- typed drives

  drive-fits : (d : DriveRow) (x : text.Drive) → IsDrive ns d x → DriveTyped x → DriveRowFits ns d
  drive-fits d x h t = record {
    cond = stands-condition ns d.cond x.cond h.cond t.cond;
    value_in = h.value.is_in;
    value = subst (λ (p : Part). IsOfType p.ty (tree_at (trees ns) d.value)) (sym h.part) (subst (λ (y : Tree). IsOfType x.part.ty y) (sym h.value.tree) t.value);
    delay_in = h.delay.is_in;
  }

  -- Drives by ids that stand for typed ones are of the arena.
  pub drives-fit : (ds : List DriveRow) (xs : List text.Drive) → AreDrives ns ds xs → Each DriveTyped xs → DrivesFit ns ds
  drives-fit [] [] h t = tt
  drives-fit [] (x ∷ xs) h t = absurd h
  drives-fit (d ∷ ds) [] h t = absurd h
  drives-fit (d ∷ ds) (x ∷ xs) h t = (drive-fits d x h.0 t.0, drives-fit ds xs h.1 t.1)

-- ---- the first reason that holds

pub first-here : (b : Bool) (x : Reason) (more : List (Bool × Reason)) → true ≡ b → Some x ≡ first_holding ((b, x) ∷ more)
first-here b x more e = ap (λ (c : Bool). if c then Some x else first_holding more) e

pub first-later : (b : Bool) (x : Reason) (more : List (Bool × Reason)) (o : Option Reason) → false ≡ b → o ≡ first_holding more → o ≡ first_holding ((b, x) ∷ more)
first-later b x more o e f = f ∙ ap (λ (c : Bool). if c then Some x else first_holding more) e

pub first-append : (xs ys : List (Bool × Reason)) → first_holding xs ≡ None → first_holding (xs ++ ys) ≡ first_holding ys
first-append [] ys e = refl
first-append (x ∷ xs) ys e = at x.0 e (first-append xs ys)
  where
    at : (b : Bool) → (if b then Some x.1 else first_holding xs) ≡ None → (first_holding xs ≡ None → first_holding (xs ++ ys) ≡ first_holding ys)
        → (if b then Some x.1 else first_holding (xs ++ ys)) ≡ first_holding ys
    at true e f = cc
    at false e f = f e

pub first-found : (xs ys : List (Bool × Reason)) (r : Reason) → first_holding xs ≡ Some r → first_holding (xs ++ ys) ≡ Some r
first-found [] ys r e = cc
first-found (x ∷ xs) ys r e = at x.0 e (first-found xs ys r)
  where
    at : (b : Bool) → (if b then Some x.1 else first_holding xs) ≡ Some r → (first_holding xs ≡ Some r → first_holding (xs ++ ys) ≡ Some r)
        → (if b then Some x.1 else first_holding (xs ++ ys)) ≡ Some r
    at true e f = e
    at false e f = f e
