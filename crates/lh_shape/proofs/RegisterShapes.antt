-- The calls that find registers, and the shape of rows.
use Rattle.std.proofs.Common.{◌≡◌, List, [], ◌∷◌, ◌++◌, map, Bool, true, false, not, ◌||◌, Option, Some, None, Result, Ok, Err, refl, ap, sym, ◌∙◌, subst, append_assoc}
use Rattle.std.specs.Bool.{if◌then◌else◌}
use Rattle.std.specs.List.{list_any}
use Rattle.std.proofs.Math.Bool.{or-false, or-true}
use Rattle.lh_term.specs.Tree.{Tree}
use Rattle.lh_term.specs.Arena.{trees, tree_at, IsIn, Grows}
use Rattle.lh_term.specs.declared.part.Part.{Part}
use Rattle.lh_term.specs.declared.term.TermNode.{TermNode}
use Rattle.lh_term.specs.declared.term.TermId.{TermId}
use Rattle.lh_term.proofs.Swaps.{tree_grown, in_grown, stands_grown, grows_on}
use Rattle.lh_edge.specs.Shown.{has_too_many_atoms, is_edge_shown}
use Rattle.lh_edge.specs.Triggers.{TriggerTree, EdgeRowTree}
use Rattle.lh_edge.specs.Answers.{AreTriggers, TriggersOrFault}
use Rattle.lh_edge.specs.declared.triggers.EdgeFault.{EdgeFault}
use Rattle.lh_edge.specs.declared.triggers.EdgeFault.TheVariants.{TooManyAtoms, NoEdge, OutOfMemory}
use Rattle.lh_edge.specs.declared.triggers.EdgeRow.{EdgeRow}
use Rattle.lh_edge.specs.declared.triggers.Trigger.{Trigger}
use Rattle.lh_region_def.specs.Rows as text
use Rattle.lh_region_def.specs.Regions as texts
use Rattle.lh_region_joins.proofs.Conditions.{grows-none}
use Rattle.lh_region.specs.Stands.{IsDrive, AreDrives, AreRegions}
use Rattle.lh_region.specs.declared.rows.DriveRow.{DriveRow}
use Rattle.lh_region.specs.declared.rows.Regions.{Regions}
use Rattle.lh_shape.specs.Reasons.{is_once, waits_for_head, parts_waited, second_drives, row_reasons, trigger_reasons, reasons, first_holding}
use Rattle.lh_shape.specs.Merging.{merged_drives}
use Rattle.lh_shape.specs.Shapes.{ShapeText, comb, edge, once, left, edge_row, shaped, unless_left, shape_by_rows}
use Rattle.lh_shape.specs.ByIds.{head_is_next, parts_on, drive_at, drives_at, DriveRowFits, DrivesFit, later_drives, reasons_told, once_only}
use Rattle.lh_shape.specs.Answers.{IsEdgeRow, AreEdgeRows, IsShape, IsShapeOf, ShowsEdge, AddsRow, EdgeRowOrReason, Finds, AddsFound, GivesRows}
use Rattle.lh_shape.specs.declared.reason.Reason.{Reason}
use Rattle.lh_shape.specs.declared.reason.Reason.TheVariants as reason
use Rattle.lh_shape.specs.declared.kinds.Shape.{Shape}
use Rattle.lh_shape.specs.declared.kinds.Shape.TheVariants as kind
use Rattle.lh_shape.specs.declared.shape.Added.{Added}
use Rattle.lh_shape.specs.declared.shape.Added.TheVariants as added
use Rattle.lh_shape.specs.declared.shape.Found.{Found}
use Rattle.lh_shape.proofs.Alike.{head-alike, parts-alike, drives-are, once-alike, reasons-alike, later-drives, first-append, first-found}
use Rattle.lh_shape.proofs.Merged.{drive-grown, fits-grown, is-grown, is-itself}

-- ---- rows of registers as an arena grows

triggers-grown : (old new : List TermNode) (ts : List Trigger) (xs : List TriggerTree) → Grows old new → AreTriggers old ts xs → AreTriggers new ts xs
triggers-grown old new [] [] g h = tt
triggers-grown old new [] (x ∷ xs) g h = absurd h
triggers-grown old new (t ∷ ts) [] g h = absurd h
triggers-grown old new (t ∷ ts) (x ∷ xs) g h = (record { rise = h.0.rise; part = h.0.part; gate = stands_grown old new g t.gate x.gate h.0.gate }, triggers-grown old new ts xs g h.1)

row-grown : (old new : List TermNode) (r : EdgeRow) (x : EdgeRowTree) → Grows old new → IsEdgeRow old r x → IsEdgeRow new r x
row-grown old new r x g h = record {
  part = h.part;
  value = stands_grown old new g r.value x.value h.value;
  delay = stands_grown old new g r.delay x.delay h.delay;
  triggers = triggers-grown old new r.triggers x.triggers g h.triggers;
}

pub rows-grown : (old new : List TermNode) (rs : List EdgeRow) (xs : List EdgeRowTree) → Grows old new → AreEdgeRows old rs xs → AreEdgeRows new rs xs
rows-grown old new [] [] g h = tt
rows-grown old new [] (x ∷ xs) g h = absurd h
rows-grown old new (r ∷ rs) [] g h = absurd h
rows-grown old new (r ∷ rs) (x ∷ xs) g h = (row-grown old new r x g h.0, rows-grown old new rs xs g h.1)

rows-push : (ns : List TermNode) (rs : List EdgeRow) (xs : List EdgeRowTree) (r : EdgeRow) (x : EdgeRowTree) → AreEdgeRows ns rs xs → IsEdgeRow ns r x → AreEdgeRows ns (rs ++ r ∷ []) (xs ++ x ∷ [])
rows-push ns [] [] r x h k = (k, tt)
rows-push ns [] (y ∷ ys) r x h k = absurd h
rows-push ns (s ∷ rs) [] r x h k = absurd h
rows-push ns (s ∷ rs) (y ∷ ys) r x h k = (h.0, rows-push ns rs ys r x h.1 k)

-- ---- lists

any-push : (f : text.Drive → Bool) (xs : List text.Drive) (x : text.Drive) → list_any f (xs ++ x ∷ []) ≡ list_any f xs || f x
any-push f [] x = or-false (f x)
any-push f (y ∷ ys) x = ap (λ (b : Bool). f y || b) (any-push f ys x) ∙ assoc (f y) (list_any f ys) (f x)
  where
    assoc : (a b c : Bool) → a || (b || c) ≡ (a || b) || c
    assoc true b c = refl
    assoc false b c = refl

any-there : (f : text.Drive → Bool) (xs : List text.Drive) (x : text.Drive) (more : List text.Drive) → f x ≡ true → list_any f (xs ++ x ∷ more) ≡ true
any-there f [] x more e = ap (λ (b : Bool). b || list_any f more) e
any-there f (y ∷ ys) x more e = at (f y) (any-there f ys x more e)
  where
    at : (b : Bool) → list_any f (ys ++ x ∷ more) ≡ true → b || list_any f (ys ++ x ∷ more) ≡ true
    at true e = refl
    at false e = e

map-push : (f : text.Drive → EdgeRowTree) (xs : List text.Drive) (x : text.Drive) → map f (xs ++ x ∷ []) ≡ map f xs ++ f x ∷ []
map-push f [] x = refl
map-push f (y ∷ ys) x = ap (λ (zs : List EdgeRowTree). f y ∷ zs) (map-push f ys x)

nil-end : (xs : List text.Drive) → xs ++ [] ≡ xs
nil-end [] = refl
nil-end (x ∷ xs) = ap (λ (ys : List text.Drive). x ∷ ys) (nil-end xs)

abbrev too_many : text.Drive → Bool
too_many d = has_too_many_atoms d.cond

abbrev not_shown : List Part → text.Drive → Bool
not_shown waited d = not (is_edge_shown waited d.cond)

-- ---- one drive

-- what the analysis of a condition gave
pub finds : (old new : List TermNode) (waited : List Part) (c : TermId) (ts : Result (List Trigger) EdgeFault) → Grows old new → IsIn old c → TriggersOrFault new waited (tree_at (trees old) c) ts
    → Finds new waited (record { cond = c; triggers = ts })
finds old new waited c ts g i h = record {
  is_in = in_grown old new g c i;
  triggers = subst (λ (t : Tree). TriggersOrFault new waited t ts) (sym (tree_grown old new g c i)) h;
}

-- what was found for the condition of a drive, once it was added
pub found-added : (ns : List TermNode) (waited : List Part) (d : DriveRow) (x : text.Drive) (f : Result (List Trigger) EdgeFault) (old : List EdgeRow) (a : Added) (new : List EdgeRow) → IsDrive ns d x
    → TriggersOrFault ns waited x.cond f → AddsFound d f old a new → EdgeRowOrReason ns waited x old a new
found-added ns waited d x (Ok ts) old added.Row new h g e =
    let row : EdgeRow = record { part = d.part; value = d.value; delay = d.delay; triggers = ts } in
    (record { few = g.few; shown = g.shown }, record { row = row; added = e; is = record { part = h.part; value = h.value; delay = h.delay; triggers = g.triggers } })
found-added ns waited d x (Ok ts) old added.Hidden new h g e = absurd e
found-added ns waited d x (Ok ts) old added.TooMany new h g e = absurd e
found-added ns waited d x (Err NoEdge) old added.Row new h g e = absurd e
found-added ns waited d x (Err NoEdge) old added.Hidden new h g e = g
found-added ns waited d x (Err NoEdge) old added.TooMany new h g e = absurd e
found-added ns waited d x (Err TooManyAtoms) old added.Row new h g e = absurd e
found-added ns waited d x (Err TooManyAtoms) old added.Hidden new h g e = absurd e
found-added ns waited d x (Err TooManyAtoms) old added.TooMany new h g e = g
found-added ns waited d x (Err OutOfMemory) old a new h g e = absurd e

-- ---- the loop

-- the drives before these have few atoms, and rows where all of them are edge-shown
pub record RegistersSoFar (old now : List TermNode) (waited : List Part) (all : List text.Drive) (hidden : Bool) (rows : List EdgeRow) (rest : List DriveRow) : Type 0 where
  pub grows : Grows old now
  pub rest_fit : DrivesFit old rest
  pub seen : List text.Drive
  pub parts : seen ++ drives_at old rest ≡ all
  pub few : list_any too_many seen ≡ false
  pub hides : hidden ≡ list_any (not_shown waited) seen
  pub are : hidden ≡ false → AreEdgeRows now rows (map (edge_row waited) seen)

pub registers-none : (old : List TermNode) (waited : List Part) (rows : List EdgeRow) (rest : List DriveRow) → rows ≡ [] → DrivesFit old rest
    → RegistersSoFar old old waited (drives_at old rest) false rows rest
registers-none old waited rows rest e f = record {
  grows = grows-none old;
  rest_fit = f;
  seen = [];
  parts = refl;
  few = refl;
  hides = refl;
  are = λ _. subst (λ (rs : List EdgeRow). AreEdgeRows old rs []) (sym e) tt;
}

module _ (old now new : List TermNode) (waited : List Part) (all : List text.Drive) (hidden : Bool) (rows more : List EdgeRow) (rest left : List DriveRow) (d : DriveRow) (split : rest ≡ d ∷ left)
    (h : RegistersSoFar old now waited all hidden rows rest) where
  rests : DrivesFit old (d ∷ left)
  rests = subst (DrivesFit old) split h.rest_fit

  pub row-fits : DriveRowFits now d
  row-fits = fits-grown old now d h.grows rests.0

  -- the drive was added by what was found for its condition
  pub found-fits : (f : Found) (a : Added) → Grows now new → Finds new waited f → f.cond ≡ d.cond → AddsFound d f.triggers rows a more → EdgeRowOrReason new waited (drive_at now d) rows a more
  found-fits f a g k e =
      let here : TriggersOrFault new waited (tree_at (trees new) d.cond) f.triggers = subst (λ (t : TermId). TriggersOrFault new waited (tree_at (trees new) t) f.triggers) e k.triggers in
      found-added new waited d (drive_at now d) f.triggers rows a more (is-grown now new d (drive_at now d) g (is-itself now d row-fits))
      (subst (λ (t : Tree). TriggersOrFault new waited t f.triggers) (tree_grown now new g d.cond row-fits.cond.is_in) here)

  same : drive_at now d ≡ drive_at old d
  same = drive-grown old now d h.grows rests.0

  abbrev here : text.Drive
  here = drive_at old d

  parts-split : h.seen ++ here ∷ drives_at old left ≡ all
  parts-split = ap (λ (ds : List DriveRow). h.seen ++ drives_at old ds) (sym split) ∙ h.parts

  parts-next : (h.seen ++ here ∷ []) ++ drives_at old left ≡ all
  parts-next = append_assoc h.seen (here ∷ []) (drives_at old left) ∙ parts-split

  few-next : too_many here ≡ false → list_any too_many (h.seen ++ here ∷ []) ≡ false
  few-next e = any-push too_many h.seen here ∙ (λ i. h.few i || e i)

  -- a row was added
  pub registers-row : Grows now new → EdgeRowOrReason new waited (drive_at now d) rows added.Row more → RegistersSoFar old new waited all hidden more left
  registers-row g r =
      let q : ShowsEdge waited here × AddsRow new rows (edge_row waited here) more = subst (λ (x : text.Drive). ShowsEdge waited x × AddsRow new rows (edge_row waited x) more) same r in
      let a = q.1 in
      let e = sym q.0.shown in
      record {
        grows = grows_on old now new h.grows g;
        rest_fit = rests.1;
        seen = h.seen ++ here ∷ [];
        parts = parts-next;
        few = few-next q.0.few;
        hides = h.hides ∙ sym (or-false (list_any (not_shown waited) h.seen)) ∙ (λ i. list_any (not_shown waited) h.seen || not (e i)) ∙ sym (any-push (not_shown waited) h.seen here);
        are = λ k.
            subst (λ (rs : List EdgeRow). AreEdgeRows new rs (map (edge_row waited) (h.seen ++ here ∷ []))) (sym a.added)
            (subst (AreEdgeRows new (rows ++ a.row ∷ [])) (sym (map-push (edge_row waited) h.seen here))
            (rows-push new rows (map (edge_row waited) h.seen) a.row (edge_row waited here) (rows-grown now new rows (map (edge_row waited) h.seen) g (h.are k)) a.is));
      }

  -- or none, since the condition is not edge-shown
  pub registers-hide : Grows now new → EdgeRowOrReason new waited (drive_at now d) rows added.Hidden more → RegistersSoFar old new waited all true more left
  registers-hide g r =
      let q : (too_many here ≡ false) × (is_edge_shown waited here.cond ≡ false) = subst (λ (x : text.Drive). (too_many x ≡ false) × (is_edge_shown waited x.cond ≡ false)) same r in
      record {
        grows = grows_on old now new h.grows g;
        rest_fit = rests.1;
        seen = h.seen ++ here ∷ [];
        parts = parts-next;
        few = few-next q.0;
        hides = sym (any-push (not_shown waited) h.seen here ∙ ap (λ (b : Bool). list_any (not_shown waited) h.seen || not b) q.1 ∙ or-true (list_any (not_shown waited) h.seen));
        are = λ e. cc;
      }

  -- too many atoms of one come first
  pub registers-many : EdgeRowOrReason new waited (drive_at now d) rows added.TooMany more → first_holding (trigger_reasons waited all) ≡ Some reason.TooManyAtoms
  registers-many q =
      let k : too_many here ≡ true = subst (λ (x : text.Drive). too_many x ≡ true) same q in
      let any : list_any too_many all ≡ true = ap (list_any too_many) (sym parts-split) ∙ any-there too_many h.seen here (drives_at old left) k in
      ap (λ (b : Bool). if b then Some reason.TooManyAtoms else first_holding ((list_any (not_shown waited) all, reason.NoEdge) ∷ [])) any

seen-all : (old now : List TermNode) (waited : List Part) (all : List text.Drive) (hidden : Bool) (rows : List EdgeRow) (rest : List DriveRow) → rest ≡ []
    → (h : RegistersSoFar old now waited all hidden rows rest) → h.seen ≡ all
seen-all old now waited all hidden rows rest e h = sym (nil-end h.seen) ∙ ap (λ (ds : List DriveRow). h.seen ++ drives_at old ds) (sym e) ∙ h.parts

two-reasons : (waited : List Part) (all : List text.Drive) (a b : Bool) → list_any too_many all ≡ a → list_any (not_shown waited) all ≡ b
    → first_holding (trigger_reasons waited all) ≡ first_holding ((a, reason.TooManyAtoms) ∷ (b, reason.NoEdge) ∷ [])
two-reasons waited all a b e f = λ i. first_holding ((e i, reason.TooManyAtoms) ∷ (f i, reason.NoEdge) ∷ [])

pub registers-end : (old now : List TermNode) (waited : List Part) (all : List text.Drive) (hidden : Bool) (rows : List EdgeRow) (rest : List DriveRow) → rest ≡ [] → hidden ≡ false
    → RegistersSoFar old now waited all hidden rows rest → GivesRows now waited all rows
registers-end old now waited all hidden rows rest e k h =
    let s = seen-all old now waited all hidden rows rest e h in
    record {
      none = two-reasons waited all false false (ap (list_any too_many) (sym s) ∙ h.few) (ap (list_any (not_shown waited)) (sym s) ∙ sym h.hides ∙ k);
      rows = subst (λ (ds : List text.Drive). AreEdgeRows now rows (map (edge_row waited) ds)) s (h.are k);
    }

pub registers-hidden : (old now : List TermNode) (waited : List Part) (all : List text.Drive) (hidden : Bool) (rows : List EdgeRow) (rest : List DriveRow) → rest ≡ [] → hidden ≡ true
    → RegistersSoFar old now waited all hidden rows rest → first_holding (trigger_reasons waited all) ≡ Some reason.NoEdge
registers-hidden old now waited all hidden rows rest e k h =
    let s = seen-all old now waited all hidden rows rest e h in
    two-reasons waited all false true (ap (list_any too_many) (sym s) ∙ h.few) (ap (list_any (not_shown waited)) (sym s) ∙ sym h.hides ∙ k)

-- ---- the shape

module _ (ns : List TermNode) (r : Regions) (x : texts.Regions) (h : AreRegions ns r x) where
  abbrev on : List Part
  on = parts_waited x.first.ends

  waited-are : parts_on r.first.ends ≡ on
  waited-are = parts-alike ns r.first.ends x.first.ends h.first.ends

  later-are : drives_at ns (later_drives r) ≡ second_drives x
  later-are = drives-are ns (later_drives r) (second_drives x) (later-drives ns r x h.second)

  trigger-reasons-are : trigger_reasons (parts_on r.first.ends) (drives_at ns (later_drives r)) ≡ trigger_reasons on (second_drives x)
  trigger-reasons-are = λ i. trigger_reasons (waited-are i) (later-are i)

  -- a reason that the rows give
  pub shape-left : (new : List TermNode) (z : Reason) → once_only r.first ≡ false → first_holding (reasons_told ns r) ≡ Some z → IsShape new (kind.Left z) (shape_by_rows x)
  shape-left new z o e =
      let f : first_holding (reasons x) ≡ Some z = first-found (row_reasons x) (trigger_reasons on (second_drives x)) z (ap first_holding (sym (reasons-alike ns r x h)) ∙ e) in
      let a : is_once x.first ≡ false = sym (once-alike ns r.first x.first h.first) ∙ o in
      let s : shape_by_rows x ≡ left z = (λ i. if a i then once x.first.drives else unless_left (f i) (shaped x)) in
      subst (λ (t : ShapeText). IsShape new (kind.Left z) t) (sym s) refl

  -- a process that happens once
  pub shape-once : (new : List TermNode) → ns ≡ new → once_only r.first ≡ true → IsShape new (kind.Once r.first.drives) (shape_by_rows x)
  shape-once new n o =
      let a : is_once x.first ≡ true = sym (once-alike ns r.first x.first h.first) ∙ o in
      let s : shape_by_rows x ≡ once x.first.drives = (λ i. if a i then once x.first.drives else unless_left (first_holding (reasons x)) (shaped x)) in
      subst (λ (t : ShapeText). IsShape new (kind.Once r.first.drives) t) (sym s) (subst (λ (m : List TermNode). AreDrives m r.first.drives x.first.drives) n h.first.drives)

  -- a shape that the conditions of the second region leave
  pub shape-by : (new : List TermNode) (s : Shape) → once_only r.first ≡ false → first_holding (reasons_told ns r) ≡ None
      → IsShape new s (unless_left (first_holding (trigger_reasons on (second_drives x))) (shaped x)) → IsShape new s (shape_by_rows x)
  shape-by new s o e k =
      let f : first_holding (reasons x) ≡ first_holding (trigger_reasons on (second_drives x)) =
      first-append (row_reasons x) (trigger_reasons on (second_drives x)) (ap first_holding (sym (reasons-alike ns r x h)) ∙ e) in
      let a : is_once x.first ≡ false = sym (once-alike ns r.first x.first h.first) ∙ o in
      let q : shape_by_rows x ≡ unless_left (first_holding (trigger_reasons on (second_drives x))) (shaped x) = (λ i. if a i then once x.first.drives else unless_left (f i) (shaped x)) in
      subst (IsShape new s) (sym q) k

  pub conditions-left : (new : List TermNode) (waited : List Part) (z : Reason) → waited ≡ parts_on r.first.ends → first_holding (trigger_reasons waited (drives_at ns (later_drives r))) ≡ Some z
      → IsShape new (kind.Left z) (unless_left (first_holding (trigger_reasons on (second_drives x))) (shaped x))
  conditions-left new waited z w e =
      let f : first_holding (trigger_reasons on (second_drives x)) ≡ Some z = ap first_holding (sym trigger-reasons-are)
      ∙ ap (λ (ps : List Part). first_holding (trigger_reasons ps (drives_at ns (later_drives r)))) (sym w) ∙ e in
      subst (λ (o : Option Reason). IsShape new (kind.Left z) (unless_left o (shaped x))) (sym f) refl

  -- combinational or registers, as the region waits for the head or not
  by-target : (new : List TermNode) (s : Shape) (mid : List TermNode) (waited : List Part) (rows : List EdgeRow) → waited ≡ on → drives_at mid r.first.drives ≡ x.first.drives → Grows mid new
      → AreEdgeRows mid rows (map (edge_row waited) (drives_at ns (later_drives r))) → (b : Bool) → waits_for_head x.first.ends ≡ b → IsShapeOf b mid new waited r.first.drives rows s
      → IsShape new s (shaped x)
  by-target new s mid waited rows v firsts g k true e t =
      let both : comb waited (merged_drives (drives_at mid r.first.drives)) ≡ comb on (merged_drives x.first.drives) = (λ i. comb (v i) (merged_drives (firsts i))) in
      let whole : shaped x ≡ comb on (merged_drives x.first.drives) = ap (λ (b : Bool). if b then comb on (merged_drives x.first.drives) else edge (map (edge_row on) (second_drives x))) e in
      subst (IsShape new s) (both ∙ sym whole) t
  by-target new s mid waited rows v firsts g k false e t =
      let both : map (edge_row waited) (drives_at ns (later_drives r)) ≡ map (edge_row on) (second_drives x) = (λ i. map (edge_row (v i)) (later-are i)) in
      let whole : shaped x ≡ edge (map (edge_row on) (second_drives x)) = ap (λ (b : Bool). if b then comb on (merged_drives x.first.drives) else edge (map (edge_row on) (second_drives x))) e in
      let rows_are : AreEdgeRows new rows (map (edge_row on) (second_drives x)) = subst (AreEdgeRows new rows) both
      (rows-grown mid new rows (map (edge_row waited) (drives_at ns (later_drives r))) g k) in
      subst (λ (z : Shape). IsShape new z (shaped x)) (sym t) (subst (IsShape new (kind.Edge rows)) (sym whole) rows_are)

  pub conditions-shape : (mid new : List TermNode) (waited : List Part) (rows : List EdgeRow) (s : Shape) → waited ≡ parts_on r.first.ends → drives_at mid r.first.drives ≡ drives_at ns r.first.drives
      → Grows mid new
      → GivesRows mid waited (drives_at ns (later_drives r)) rows → IsShapeOf (head_is_next r.first.ends) mid new waited r.first.drives rows s
      → IsShape new s (unless_left (first_holding (trigger_reasons on (second_drives x))) (shaped x))
  conditions-shape mid new waited rows s w d g k t =
      let v : waited ≡ on = w ∙ waited-are in
      let none : first_holding (trigger_reasons on (second_drives x)) ≡ None = sym (λ i. first_holding (trigger_reasons (v i) (later-are i))) ∙ k.none in
      let firsts : drives_at mid r.first.drives ≡ x.first.drives = d ∙ drives-are ns r.first.drives x.first.drives h.first.drives in
      subst (λ (o : Option Reason). IsShape new s (unless_left o (shaped x))) (sym none)
      (by-target new s mid waited rows v firsts g k.rows (head_is_next r.first.ends) (sym (head-alike ns r.first.ends x.first.ends h.first.ends)) t)
