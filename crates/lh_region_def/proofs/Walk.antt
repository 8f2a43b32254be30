-- The places of a region one after the other: an activation comes by the edges that are taken to the one end whose condition holds, with the drives of the rows.
use Rattle.std.proofs.Common.{◌≡◌, ◌⊎◌, inl, inr, ⊎_elim, ℕ, ◌+◌, ◌≤◌, suc, List, [], ◌∷◌, ◌++◌, length, Bool, true, false, Option, Some, None, refl, ap, sym, ◌∙◌, subst, append_assoc, arith}
use Rattle.std.specs.Prelude.{slice_get}
use Rattle.std.proofs.lemmas.Bool.{false≢true}
use Rattle.std.proofs.lemmas.Option.{same_Some, slice_get_within}
use Rattle.lh_time.specs.declared.Instant.{Instant}
use Rattle.lh_types.specs.Wish.{Wish}
use Rattle.lh_types.specs.declared.part.Range.{Range}
use Rattle.lh_unit.specs.Contents.{LineText, BlockText, UnitText}
use Rattle.lh_unit.specs.Held.{Env}
use Rattle.lh_unit.specs.Within.{Each}
use Rattle.lh_unit.specs.Activation.{Scene, Point, Activated, Stand, phis_taken, run}
use Rattle.lh_verify_laws.specs.Shape.{EndsOnce}
use Rattle.lh_flat.specs.Flat.{FlatBlockText, MergeText, with_merge, as_block}
use Rattle.lh_term.specs.Tree.{Tree}
use Rattle.lh_term.specs.Mean.{Valuation, IsFitting, mean}
use Rattle.lh_term.specs.Make.{bit_of}
use Rattle.lh_term.specs.declared.part.Part.{Part}
use Rattle.lh_region_def.specs.Known.{Knowledge}
use Rattle.lh_region_def.specs.Rows.{Drive, enters_head, RegionEnd, Rows}
use Rattle.lh_region_def.specs.Joins.{RegionPlace, RegionEdge, any_taken, known_at}
use Rattle.lh_region_def.specs.Places.{Region, Midst, takes_all, next_place}
use Rattle.lh_region_def.specs.Regions.{Course, no_course, comes_to, max_turns, is_place, edges_to, through_all, all_places, region_from}
use Rattle.lh_region_def.specs.Typed.{Among, IsCondition, JoinEdge}
use Rattle.lh_region_def.specs.Means.{range_in, reads, KnownIsHeld, is_one, with_row, with_rows}
use Rattle.lh_region_def.specs.Ending.{StandsAs}
use Rattle.lh_region_def.specs.Right.{BlockAt}
use Rattle.lh_flat_laws.proofs.Members.{in-each, among-filter, filter-among, among-split}
use Rattle.lh_region_def.proofs.Sites.{block-at}
use Rattle.lh_region_def.proofs.MergedValues.{EachCondition, one, any-one, any-taken, none-taken, bit-condition}
use Rattle.lh_region_def.proofs.Labels.{block-text}
use Rattle.lh_region_def.proofs.Phis.{known-shows-at, phis-given-at}
use Rattle.lh_region_def.proofs.Steps.{RegionOf, EdgeRight, EndRight, DriveRight}
use Rattle.lh_region_def.proofs.Ordered.{Before, Sorted, sorted-behind, later-behind, never-before, next-later, place-among, places-sorted, place-is, place-self}
use Rattle.lh_region_def.proofs.BlockExecution.{row-off}
use Rattle.lh_region_def.proofs.LiveEdges as Living
use Rattle.lh_region_def.proofs.BlockLeaves.{to_block, to_head, stops}
use Rattle.lh_region_def.proofs.Blocks as Blocks
use Rattle.lh_region_def.proofs.Courses as Courses

rows-split : (past now : Valuation) (args : List Range) (at : Instant) (w : Wish) (xs ys : List Drive)
    → with_rows past now args at w (xs ++ ys) ≡ with_rows past now args at (with_rows past now args at w xs) ys
rows-split past now args at w [] ys = refl
rows-split past now args at w (x ∷ xs) ys = rows-split past now args at (with_row past now args at w x) xs ys

rows-off : (past now : Valuation) (args : List Range) (at : Instant) (w : Wish) (ds : List Drive) → Each (λ (d : Drive). is_one (mean past now d.cond) ≡ false) ds → with_rows past now args at w ds ≡ w
rows-off past now args at w [] h = refl
rows-off past now args at w (d ∷ ds) h = rows-off past now args at (with_row past now args at w d) ds h.1 ∙ row-off past now args at w d h.0

no-more-left : {X : Type 0} (xs ys : List X) → xs ++ ys ≡ [] → xs ≡ []
no-more-left [] ys e = refl
no-more-left (x ∷ xs) ys e = absurd cc

longer : (o : Option MergeText) (ls : List LineText) → length (with_merge o ls) ≤ suc (length ls)
longer None ls = omega arith
longer (Some m) ls = omega arith

lines-there : (o : Option MergeText) (ls : List LineText) → EndsOnce (with_merge o ls) → (l : LineText) × (more : List LineText) × (with_merge o ls ≡ l ∷ more) → 1 ≤ length ls
lines-there o (l ∷ ls) e f = omega arith
lines-there None [] e f = let z : [] ≡ f.0 ∷ f.1 = f.2 in absurd cc
lines-there (Some m) [] e f = absurd (false≢true e)

lines-filled : (ls : List LineText) → (l : LineText) × (more : List LineText) × (ls ≡ l ∷ more) → ls ≡ [] → ⊥
lines-filled ls f e = let z : [] ≡ f.0 ∷ f.1 = sym e ∙ f.2 in cc

module _ (u : UnitText) (g : Region) (r : RegionOf u g) (s : Scene) (args : List Range) (past now : Valuation) (p : IsFitting past) (n : IsFitting now)
    (probe : (x : Part) → mean past now (g.probe x) ≡ reads args s.now x) where
  abbrev pub shows : Knowledge → Env → Type 0
  shows = KnownIsHeld u (mean past now) (range_in args)

  abbrev pub true-here : Tree → Bool
  true-here = one past now p n

  abbrev pub NoLive : List RegionPlace → List RegionEdge → Type 0
  NoLive = Living.NoLive u args past now

  abbrev pub NoEnd : List RegionEnd → Type 0
  NoEnd = Living.NoEnd u args past now

  abbrev pub OneEnd : List RegionEnd → RegionEnd → Type 0
  OneEnd = Living.OneEnd u args past now

  abbrev pub CourseFine : Course → Type 0
  CourseFine = Courses.CourseFine u g r

  -- at the first instruction of a block
  abbrev pub point : FlatBlockText → Env → Wish → List Bool → Point
  point b e w o = record { control = record { unit = u; block = b.label; rest = with_merge b.merge b.lines; held = e }; callers = []; wish = w; outcomes = o }

  -- the block of a number is entered from one of this label with this held
  pub record Enters (j : ℕ) (from : List ℕ) (e : Env) : Type 0 where
    pub block : FlatBlockText
    pub at : BlockAt g.blocks j block
    pub held : Env
    pub phis : phis_taken from e (with_merge block.merge block.lines) ≡ Some held

  -- how the region ends: where the process stands, or by entering the head
  pub data Finish (x : RegionEnd) (held : Env) : Type 0 where
    stood : (st : Stand) → StandsAs g.blocks args x.way x.from st → Finish x held
    headed : (g.ends_at_head ≡ true) → x.way ≡ enters_head → Enters g.head x.from held → Finish x held

  abbrev pub finish_on : (x : RegionEnd) (held : Env) → Finish x held → Wish → List Bool → ℕ → Option Activated
  finish_on x held (stood st a) w o k = Some (record { state = record { stand = st; held = held }; wish = w; outcomes = o })
  finish_on x held (headed i a t) w o k = run k s (point t.block t.held w o)

  -- From a point, and a course, the region comes to the one end whose condition holds.
  pub record Result (q : Point) (c c' : Course) : Type 0 where
    pub steps : ℕ
    pub within : (steps + c.insts) + c.insts ≤ c'.insts + c'.insts
    pub end : RegionEnd
    pub only : OneEnd c'.rows.ends end
    pub held : Env
    pub wish : Wish
    pub outcomes : List Bool
    pub shown : shows end.known held
    pub how : Finish end held
    pub runs : (k : ℕ) → run (steps + k) s q ≡ finish_on end held how wish outcomes k
    pub wished : (w0 : Wish) → q.wish ≡ with_rows past now args s.at w0 c.rows.drives → wish ≡ with_rows past now args s.at w0 c'.rows.drives
    pub told : c'.rows.asserts ≡ [] → (outcomes ≡ q.outcomes) × (c.rows.asserts ≡ [])

  -- ---- a place where control is not

  -- nothing that holds was added
  pub record Passed (c c1 : Course) : Type 0 where
    pub edges : List RegionEdge
    pub edges_are : c1.edges ≡ c.edges ++ edges
    pub edges_off : Living.NoneTaken u args past now edges
    pub ends : List RegionEnd
    pub ends_are : c1.rows.ends ≡ c.rows.ends ++ ends
    pub ends_off : NoEnd ends
    pub rows : (w : Wish) → with_rows past now args s.at w c1.rows.drives ≡ with_rows past now args s.at w c.rows.drives
    pub asserts : c1.rows.asserts ≡ [] → c.rows.asserts ≡ []
    pub insts : c.insts ≤ c1.insts

  append-nil' : {X : Type 0} (xs : List X) → xs ≡ xs ++ []
  append-nil' [] = refl
  append-nil' (x ∷ xs) = ap (λ ys. x ∷ ys) (append-nil' xs)

  same-passed : (c c1 : Course) → c ≡ c1 → Passed c c1
  same-passed c c1 e = subst (Passed c) e (record {
    edges = [];
    edges_are = append-nil' c.edges;
    edges_off = λ x a t. a;
    ends = [];
    ends_are = append-nil' c.rows.ends;
    ends_off = λ x a t. a;
    rows = λ w. refl;
    asserts = λ z. z;
    insts = omega arith;
  })

  not-true : (b : Bool) → b ≡ false → b ≡ true → ⊥
  not-true b e f = false≢true (sym e ∙ f)

  is-false : (b : Bool) → (b ≡ true → ⊥) → b ≡ false
  is-false true h = absurd (h refl)
  is-false false h = refl

  passed-place : (q : RegionPlace) (c c1 : Course) (a : Courses.At u g r q c c1) → true-here (any_taken (a.first ∷ a.more)) ≡ false → Passed c c1
  passed-place q c c1 a off =
      let cond = any_taken (a.first ∷ a.more) in
      let x = subst (Courses.Adds u g r q a.block a.at cond a.cond a.first a.more a.join (Courses.start_at u g r (a.first ∷ a.more) c a.block)) (sym a.done.is)
      (Courses.place-adds u g r q a.block a.at cond a.cond a.first a.more a.join c) in
      record {
        edges = x.edges.0;
        edges_are = a.done.edges ∙ x.edges.1;
        edges_off = λ e b t. not-true (true-here cond) off ((in-each (EdgeRight u g (Courses.here_at u g r q cond a.block)) x.edges.0 e x.edges.2 b).under past now p n t);
        ends = x.ends.0;
        ends_are = ap (λ (y : Rows). y.ends) a.done.rows ∙ x.ends.1;
        ends_off = λ e b t. not-true (true-here cond) off ((in-each (EndRight u g (Courses.here_at u g r q cond a.block)) x.ends.0 e x.ends.2 b).under past now p n t);
        rows = λ w. ap (with_rows past now args s.at w) (ap (λ (y : Rows). y.drives) a.done.rows ∙ x.drives.1) ∙ rows-split past now args s.at w c.rows.drives x.drives.0
            ∙ rows-off past now args s.at (with_rows past now args s.at w c.rows.drives) x.drives.0 (offs x.drives.0 x.drives.2);
        asserts = λ z. no-more-left c.rows.asserts x.asserts.0 (sym (ap (λ (y : Rows). y.asserts) a.done.rows ∙ x.asserts.1) ∙ z);
        insts = let i = a.done.insts in omega (arith, i);
      }
    where
      offs : (ds : List Drive) → Each (DriveRight (Courses.here_at u g r q (any_taken (a.first ∷ a.more)) a.block)) ds → Each (λ (d : Drive). is_one (mean past now d.cond) ≡ false) ds
      offs [] h = tt
      offs (d ∷ ds) h = (is-false (true-here d.cond) (λ t. not-true (true-here (any_taken (a.first ∷ a.more))) off (h.0.under past now p n t)), offs ds h.1)

  -- where none of the edges to a place is taken, control is not there
  not-there : (q : RegionPlace) (c c1 : Course) (a : Courses.At u g r q c c1) → ((e : RegionEdge) → Among e c.edges → true-here e.cond ≡ true → e.to ≡ q → ⊥)
      → true-here (any_taken (a.first ∷ a.more)) ≡ false
  not-there q c c1 a none =
      any-one past now p n (a.first ∷ a.more) (conditions (a.first ∷ a.more) a.join)
      ∙ none-taken past now p n (a.first ∷ a.more) (λ e b. is-false (true-here e.cond) (λ t.
      let k = filter-among (λ (e : RegionEdge). is_place e.to q) e c.edges (subst (Among e) (sym a.are) b) in
      none e k.0 t (place-is e.to q k.1)))
    where
      conditions : (es : List RegionEdge) → Each (JoinEdge u (as_block a.block)) es → EachCondition es
      conditions [] h = tt
      conditions (e ∷ es) h = (h.0.cond, conditions es h.1)

  -- ---- after the end

  pub dead : (ps : List RegionPlace) (c c' : Course) → CourseFine c → through_all g ps c ≡ comes_to c' → NoLive ps c.edges → Passed c c'
  dead [] c c' f e none = same-passed c c' (Courses.coursed-is c c' e)
  dead (q ∷ ps) c c' f e none =
      let o = Courses.onward u g r q ps c c' e in
      let x : Passed c o.course = ⊎_elim (λ z. same-passed c o.course z.1) (λ a. passed-place q c o.course a (not-there q c o.course a (λ e b t w. none e b t (inl (sym w)))))
      (Courses.reached-place u g r q c o.course f o.here) in
      let f1 = Courses.step-fine u g r q c o.course f o.here in
      let y = dead ps o.course c' f1 o.there (subst (NoLive ps) (sym x.edges_are)
      (Living.no-live-more u args past now ps c.edges x.edges (Living.no-live-later u args past now q ps c.edges none) x.edges_off)) in
      passed-both c o.course c' x y
    where
      passed-both : (a b d : Course) → Passed a b → Passed b d → Passed a d
      passed-both a b d x y = record {
        edges = x.edges ++ y.edges;
        edges_are = y.edges_are ∙ ap (λ zs. zs ++ y.edges) x.edges_are ∙ append_assoc a.edges x.edges y.edges;
        edges_off = λ e b t. ⊎_elim (λ z. x.edges_off e z t) (λ z. y.edges_off e z t) (among-split e x.edges y.edges b);
        ends = x.ends ++ y.ends;
        ends_are = y.ends_are ∙ ap (λ zs. zs ++ y.ends) x.ends_are ∙ append_assoc a.rows.ends x.ends y.ends;
        ends_off = λ e b t. ⊎_elim (λ z. x.ends_off e z t) (λ z. y.ends_off e z t) (among-split e x.ends y.ends b);
        rows = λ w. y.rows w ∙ x.rows w;
        asserts = λ z. x.asserts (y.asserts z);
        insts = omega (arith, x.insts, y.insts);
      }

  -- ---- a place where control is

  abbrev pub RanAt : (ps : List RegionPlace) (q : RegionPlace) (b : FlatBlockText) → BlockAt g.blocks q.block b → (cond : Tree) → IsCondition cond → List LineText → Env → Wish → List Bool → Midst
      → Midst → Type 0
  RanAt ps q b bat cond hc = Blocks.Ran u g r q.block b bat (Courses.here_at u g r q cond b) refl hc s args past now p n probe ps

  -- the edges to a place, of which some is taken, and each that is taken leaves this block with what is known on it held
  pub record Arrives (es : List RegionEdge) (from : List ℕ) (before : Env) : Type 0 where
    pub edge : RegionEdge
    pub among : Among edge es
    pub taken : true-here edge.cond ≡ true
    pub each : (e : RegionEdge) → Among e es → true-here e.cond ≡ true → (e.from ≡ from) × shows e.known before

  pub treat : (ps : List RegionPlace) (q : RegionPlace) (b : FlatBlockText) (bat : BlockAt g.blocks q.block b) (cond : Tree) (hc : IsCondition cond) (e0 : RegionEdge) (more : List RegionEdge)
      (j : Each (JoinEdge u (as_block b)) (e0 ∷ more)) (c : Course)
      → true-here cond ≡ true → NoLive ps c.edges → NoEnd c.rows.ends → (from : List ℕ) (before held : Env) → Arrives (e0 ∷ more) from before
      → phis_taken from before (with_merge b.merge b.lines) ≡ Some held → (w : Wish) (o : List Bool)
      → RanAt ps q b bat cond hc (with_merge b.merge b.lines) held w o (Courses.start_at u g r (e0 ∷ more) c b) (takes_all g (Courses.here_at u g r q cond b) (with_merge b.merge b.lines)
      (Courses.start_at u g r (e0 ∷ more) c b))
  treat ps q b bat cond hc e0 more j c reached none clear from before held a ph w o =
      let sound = Courses.sound-here u g r q b bat cond hc e0 more j in
      let z = known-shows-at u (as_block b) e0 more j past now p n (range_in args) from before a.edge a.among a.taken a.each sound in
      let same : z.0 ≡ held = same_Some z.0 held (sym z.1 ∙ ph) in
      let filled = block-at (λ (x : BlockText). (l : LineText) × (more : List LineText) × (x.lines ≡ l ∷ more)) u.blocks q.block (as_block b) r.formed.filled
      (ap (λ bs. slice_get bs q.block) r.blocks ∙ block-text g.blocks q.block b bat.at) in
      Blocks.lines-run u g r q.block b bat (Courses.here_at u g r q cond b) refl hc s args past now p n probe ps [] (with_merge b.merge b.lines) refl (lines-filled (with_merge b.merge b.lines) filled)
      (Courses.start_at u g r (e0 ∷ more) c b)
      (Courses.start-typed u g r q b bat cond hc e0 more j) (Courses.start-there u g r q b bat cond hc e0 more j) (phis-given-at u (as_block b) e0 more j sound) held
      (subst (shows (known_at (e0 ∷ more) (with_merge b.merge b.lines))) same z.2) w o reached none clear

  -- a place counts for as many instructions as it has, and for a merge no more
  pub counted : (q : RegionPlace) (b : FlatBlockText) → BlockAt g.blocks q.block b → (c c1 : Course) (k : ℕ) → k ≤ length (with_merge b.merge b.lines) → c1.insts ≡ c.insts + length b.lines
      → (k + c.insts) + c.insts ≤ c1.insts + c1.insts
  counted q b bat c c1 k h e =
      let at = ap (λ bs. slice_get bs q.block) r.blocks ∙ block-text g.blocks q.block b bat.at in
      let filled = block-at (λ (x : BlockText). (l : LineText) × (more : List LineText) × (x.lines ≡ l ∷ more)) u.blocks q.block (as_block b) r.formed.filled at in
      let once = block-at (λ (x : BlockText). EndsOnce x.lines) u.blocks q.block (as_block b) r.formed.ends at in
      let one-line = lines-there b.merge b.lines once filled in
      let most = longer b.merge b.lines in
      omega (arith, h, e, one-line, most)

  -- control stands before the lines of a place to which some edge that is taken leads
  pub record Live (ps : List RegionPlace) (c : Course) : Type 0 where
    pub place : RegionPlace
    pub from : List ℕ
    pub before : Env
    pub live : Living.OneLive u args past now ps c.edges place from before
    pub among : Among place ps
    pub clear : NoEnd c.rows.ends
    pub enters : Enters place.block from before

  abbrev pub live_point : (ps : List RegionPlace) (c : Course) → Live ps c → Wish → List Bool → Point
  live_point ps c a w o = point a.enters.block a.enters.held w o

  -- what is left of a block: its edge leads on, or it is the end
  module _ (ps : List RegionPlace) (q : RegionPlace) (b : FlatBlockText) (bat : BlockAt g.blocks q.block b) (cond : Tree) (hc : IsCondition cond) (e0 : RegionEdge) (more : List RegionEdge)
      (j : Each (JoinEdge u (as_block b)) (e0 ∷ more)) (c c1 c' : Course)
      (t : Courses.Treated u g r q cond (e0 ∷ more) c b c1) (f1 : CourseFine c1) (all : through_all g ps c1 ≡ comes_to c')
      (further : (k : ℕ) (d : FlatBlockText) → BlockAt g.blocks k d → (next_place q k).turns ≤ max_turns → Among (next_place q k) ps)
      (go : (a : Live ps c1) (w : Wish) (o : List Bool) → Result (live_point ps c1 a w o) c1 c') (held : Env) (w : Wish) (o : List Bool) where
    abbrev done : Midst
    done = takes_all g (Courses.here_at u g r q cond b) (with_merge b.merge b.lines) (Courses.start_at u g r (e0 ∷ more) c b)

    edges-are : c1.edges ≡ done.edges
    edges-are = t.edges ∙ ap (λ (m : Midst). m.edges) t.is

    rows-are : c1.rows ≡ done.rows
    rows-are = t.rows ∙ ap (λ (m : Midst). m.rows) t.is

    sum : (a b k : ℕ) → (a + b) + k ≡ a + (b + k)
    sum a b k = omega arith

    ended-result : (x : RanAt ps q b bat cond hc (with_merge b.merge b.lines) held w o (Courses.start_at u g r (e0 ∷ more) c b) done) (y : RegionEnd) → NoLive ps done.edges → OneEnd done.rows.ends y
        → shows y.known x.held → (h : Finish y x.held) → ((k : ℕ) → run (x.steps + k) s (point b held w o) ≡ finish_on y x.held h x.wish x.outcomes k) → Result (point b held w o) c c'
    ended-result x y none only sh h runs =
        let d = dead ps c1 c' f1 all (subst (NoLive ps) (sym edges-are) none) in
        record {
          steps = x.steps;
          within = (let i = counted q b bat c c1 x.steps x.within t.insts in let z = d.insts in omega (arith, i, z));
          end = y;
          only = subst (λ es. OneEnd es y) (sym (d.ends_are ∙ ap (λ (rs : Rows). rs.ends ++ d.ends) rows-are)) (Living.one-end-more u args past now done.rows.ends d.ends y only d.ends_off);
          held = x.held;
          wish = x.wish;
          outcomes = x.outcomes;
          shown = sh;
          how = h;
          runs = runs;
          wished = λ w0 z. x.wished w0 z ∙ sym (d.rows w0 ∙ ap (λ (rs : Rows). with_rows past now args s.at w0 rs.drives) rows-are);
          told = λ z. x.told (ap (λ (rs : Rows). rs.asserts) (sym rows-are) ∙ d.asserts z);
        }

    goes-result : (x : RanAt ps q b bat cond hc (with_merge b.merge b.lines) held w o (Courses.start_at u g r (e0 ∷ more) c b) done) (a : Live ps c1)
        → ((k : ℕ) → run (x.steps + k) s (point b held w o) ≡ run k s (live_point ps c1 a x.wish x.outcomes)) → Result (point b held w o) c c'
    goes-result x a runs =
        let z = go a x.wish x.outcomes in
        record {
          steps = x.steps + z.steps;
          within = (let i = counted q b bat c c1 x.steps x.within t.insts in let y = z.within in omega (arith, i, y));
          end = z.end;
          only = z.only;
          held = z.held;
          wish = z.wish;
          outcomes = z.outcomes;
          shown = z.shown;
          how = z.how;
          runs = λ k. ap (λ y. run y s (point b held w o)) (sum x.steps z.steps k) ∙ runs (z.steps + k) ∙ z.runs k;
          wished = λ w0 y. z.wished w0 (x.wished w0 y ∙ ap (λ (rs : Rows). with_rows past now args s.at w0 rs.drives) (sym rows-are));
          told = λ y. let d = z.told y in let v = x.told (ap (λ (rs : Rows). rs.asserts) (sym rows-are) ∙ d.1) in (d.0 ∙ v.0, v.1);
        }

    pub ran-result : RanAt ps q b bat cond hc (with_merge b.merge b.lines) held w o (Courses.start_at u g r (e0 ∷ more) c b) done → Result (point b held w o) c c'
    ran-result x = by x.left x.runs
      where
        by : (y : Blocks.Left u g r q.block b bat (Courses.here_at u g r q cond b) refl hc s args past now p n probe ps done x.held)
            → ((k : ℕ) → run (x.steps + k) s (point b held w o)
            ≡ Blocks.goes_on u g r q.block b bat (Courses.here_at u g r q cond b) refl hc s args past now p n probe ps done x.held y x.wish x.outcomes k) → Result (point b held w o) c c'
        by (to_block k en live clear) runs =
            let live1 = subst (λ es. Living.OneLive u args past now ps es (next_place q k) b.label x.held) (sym edges-are) live in
            let turns : (next_place q k).turns ≤ max_turns =
            subst (λ (y : RegionPlace). y.turns ≤ max_turns) live1.to (in-each (Courses.EdgeFine u g r) c1.edges live1.edge f1.edges live1.among).turns in
            goes-result x (record {
              place = next_place q k;
              from = b.label;
              before = x.held;
              live = live1;
              among = further k en.block en.at turns;
              clear = subst (λ (rs : Rows). NoEnd rs.ends) (sym rows-are) clear;
              enters = record { block = en.block; at = en.at; held = en.held; phis = en.phis };
            }) runs
        by (to_head i en none y only way from sh) runs =
            ended-result x y none only sh (headed i way
            (record { block = en.block; at = en.at; held = en.held; phis = ap (λ f. phis_taken f x.held (with_merge en.block.merge en.block.lines)) from ∙ en.phis })) runs
        by (stops st none y only way from sh) runs = ended-result x y none only sh (stood st way) runs

  -- ---- all places

  result-after : (q : Point) (c c1 c' : Course) → Passed c c1 → Result q c1 c' → Result q c c'
  result-after q c c1 c' x z = record {
    steps = z.steps;
    within = (let i = x.insts in let y = z.within in omega (arith, i, y));
    end = z.end;
    only = z.only;
    held = z.held;
    wish = z.wish;
    outcomes = z.outcomes;
    shown = z.shown;
    how = z.how;
    runs = z.runs;
    wished = λ w0 y. z.wished w0 (y ∙ sym (x.rows w0));
    told = λ y. let d = z.told y in (d.0, x.asserts d.1);
  }

  live-after : (q : RegionPlace) (ps : List RegionPlace) (c c1 : Course) → Passed c c1 → (a : Live (q ∷ ps) c) → Among a.place ps → Live ps c1
  live-after q ps c c1 x a b = record {
    place = a.place;
    from = a.from;
    before = a.before;
    live = subst (λ es. Living.OneLive u args past now ps es a.place a.from a.before) (sym x.edges_are)
        (Living.one-live-more u args past now ps c.edges x.edges a.place a.from a.before (Living.one-live-later u args past now q ps c.edges a.place a.from a.before a.live) x.edges_off);
    among = b;
    clear = subst NoEnd (sym x.ends_are) (Living.no-ends-more u args past now c.rows.ends x.ends a.clear x.ends_off);
    enters = a.enters;
  }

  -- where the place is that to which the live edge leads
  module _ (before ps : List RegionPlace) (q : RegionPlace) (sorted : Sorted (before ++ q ∷ ps)) (c c1 c' : Course) (f : CourseFine c) (a : Live (q ∷ ps) c) where
    not-later : a.place ≡ q → NoLive ps c.edges
    not-later e x b t k =
        let z : x.to ≡ q = (a.live.each x b t (inr k)).0 ∙ e in
        never-before q (in-each (Before q) ps q (sorted-behind before q ps sorted) (subst (λ y. Among y ps) z k))

    -- it is among the edges to the place
    live-there : a.place ≡ q → Among a.live.edge (edges_to q c.edges)
    live-there e = among-filter (λ (x : RegionEdge). is_place x.to q) a.live.edge c.edges a.live.among (subst (λ y. is_place y q ≡ true) (sym (a.live.to ∙ e)) (place-self q))

    arrives : a.place ≡ q → (e0 : RegionEdge) (more : List RegionEdge) → edges_to q c.edges ≡ e0 ∷ more → Arrives (e0 ∷ more) a.from a.before
    arrives e e0 more are = record {
      edge = a.live.edge;
      among = subst (Among a.live.edge) are (live-there e);
      taken = a.live.taken;
      each = λ x b t.
          let k = filter-among (λ (y : RegionEdge). is_place y.to q) x c.edges (subst (Among x) (sym are) b) in
          let z = a.live.each x k.0 t (inl (sym (place-is x.to q k.1))) in (z.1, z.2);
    }

    -- the place is another one
    other : (a.place ≡ q → ⊥) → Among a.place ps
    other no' = ⊎_elim (λ e. absurd (no' (sym e))) (λ k. k) a.among

    passed : (a.place ≡ q → ⊥) → (x : Courses.At u g r q c c1) → Passed c c1
    passed no' x = passed-place q c c1 x (not-there q c c1 x (λ e b t w. no' (sym (a.live.each e b t (inl (sym w))).0 ∙ w)))

  pub walk : (before ps : List RegionPlace) → before ++ ps ≡ all_places (length g.blocks) → (c c' : Course) → CourseFine c → through_all g ps c ≡ comes_to c'
      → (a : Live ps c) (w : Wish) (o : List Bool) → Result (live_point ps c a w o) c c'
  unfolding live-after
  walk before [] all c c' f e a w o = absurd a.among
  walk before (q ∷ ps) all c c' f e a w o = by (Courses.onward u g r q ps c c' e) (walk (before ++ q ∷ []) ps (append_assoc before (q ∷ []) ps ∙ all))
    where
      sorted : Sorted (before ++ q ∷ ps)
      sorted = subst Sorted (sym all) (places-sorted (length g.blocks))

      further : (k : ℕ) (d : FlatBlockText) → BlockAt g.blocks k d → (next_place q k).turns ≤ max_turns → Among (next_place q k) ps
      further k d bat turns = later-behind before q ps sorted (next_place q k)
          (subst (Among (next_place q k)) (sym all) (place-among (length g.blocks) (next_place q k) turns (slice_get_within g.blocks k d bat.at))) (next-later q (next_place q k) refl)

      skipped : (c1 : Course) → Passed c c1 → Among a.place ps → ((b : Live ps c1) (w : Wish) (o : List Bool) → Result (live_point ps c1 b w o) c1 c') → Result (live_point (q ∷ ps) c a w o) c c'
      skipped c1 x k go = result-after (live_point (q ∷ ps) c a w o) c c1 c' x (go (live-after q ps c c1 x a k) w o)

      here : (c1 : Course) → a.place ≡ q → (x : Courses.At u g r q c c1) → through_all g ps c1 ≡ comes_to c' → ((b : Live ps c1) (w : Wish) (o : List Bool) → Result (live_point ps c1 b w o) c1 c')
          → Result (live_point (q ∷ ps) c a w o) c c'
      here c1 e x there go =
          let at : slice_get g.blocks q.block ≡ Some a.enters.block = subst (λ (y : RegionPlace). slice_get g.blocks y.block ≡ Some a.enters.block) e a.enters.at.at in
          let same : x.block ≡ a.enters.block = same_Some x.block a.enters.block (sym x.at.at ∙ at) in
          let arrive = arrives before ps q sorted c c1 c' f a e x.first x.more x.are in
          let reached : true-here (any_taken (x.first ∷ x.more)) ≡ true = any-one past now p n (x.first ∷ x.more) (conditions x.block (x.first ∷ x.more) x.join)
          ∙ any-taken past now p n (x.first ∷ x.more) arrive.edge arrive.among arrive.taken in
          let ph : phis_taken a.from a.before (with_merge x.block.merge x.block.lines) ≡ Some a.enters.held = ap (λ (y : FlatBlockText). phis_taken a.from a.before (with_merge y.merge y.lines)) same
          ∙ a.enters.phis in
          let ran = treat ps q x.block x.at (any_taken (x.first ∷ x.more)) x.cond x.first x.more x.join c reached (not-later before ps q sorted c c1 c' f a e) a.clear a.from a.before a.enters.held
          arrive ph w o in
          let z = ran-result ps q x.block x.at (any_taken (x.first ∷ x.more)) x.cond x.first x.more x.join c c1 c' x.done (Courses.at-fine u g r q c c1 f x) there further go a.enters.held w o ran in
          subst (λ (y : FlatBlockText). Result (point y a.enters.held w o) c c') same z
        where
          conditions : (b : FlatBlockText) (es : List RegionEdge) → Each (JoinEdge u (as_block b)) es → EachCondition es
          conditions b [] h = tt
          conditions b (e ∷ es) h = (h.0.cond, conditions b es h.1)

      by : Courses.Onward u g r q ps c c' → ((c c' : Course) → CourseFine c → through_all g ps c ≡ comes_to c' → (a : Live ps c) (w : Wish) (o : List Bool) → Result (live_point ps c a w o) c c')
          → Result (live_point (q ∷ ps) c a w o) c c'
      by x go = at (is_place a.place q) refl (Courses.reached-place u g r q c x.course f x.here)
        where
          next : (b : Live ps x.course) (w : Wish) (o : List Bool) → Result (live_point ps x.course b w o) x.course c'
          next = go x.course c' (Courses.step-fine u g r q c x.course f x.here) x.there

          at : (b : Bool) → is_place a.place q ≡ b → ((edges_to q c.edges ≡ []) × (c ≡ x.course)) ⊎ Courses.At u g r q c x.course → Result (live_point (q ∷ ps) c a w o) c c'
          at b k (inl z) = skipped x.course (same-passed c x.course z.1)
              (other before ps q sorted c x.course c' f a (λ e. subst (Among a.live.edge) z.0 (live-there before ps q sorted c x.course c' f a e))) next
          at true k (inr z) = here x.course (place-is a.place q k) z x.there next
          at false k (inr z) =
              let no' : a.place ≡ q → ⊥ = λ e. false≢true (sym k ∙ ap (λ y. is_place y q) e ∙ place-self q) in
              skipped x.course (passed before ps q sorted c x.course c' f a no' z) (other before ps q sorted c x.course c' f a no') next

  -- ---- a region

  -- An activation that enters the block where a region starts comes to the one end whose condition holds, with the drives of the rows.
  pub region-runs : (b : ℕ) (blk : FlatBlockText) → BlockAt g.blocks b blk → (e0 : RegionEdge) (more : List RegionEdge) → Each (JoinEdge u (as_block blk)) (e0 ∷ more) → (c' : Course)
      → region_from g b (e0 ∷ more) ≡ comes_to c'
      → (from : List ℕ) (before held : Env) → Arrives (e0 ∷ more) from before → phis_taken from before (with_merge blk.merge blk.lines) ≡ Some held → (w : Wish) (o : List Bool)
      → Result (point blk held w o) no_course c'
  region-runs b blk bat e0 more j c' e from before held a ph w o =
      let x = Courses.started u g r b blk bat (e0 ∷ more) c' e in
      let q : RegionPlace = record { turns = 0; block = b } in
      let f1 = Courses.place-fine u g r q blk bat (bit_of true) (bit-condition true) e0 more j no_course x.course (Courses.no-course-fine u g r) x.done in
      let ps = all_places (length g.blocks) in
      let ran = treat ps q blk bat (bit_of true) (bit-condition true) e0 more j no_course refl (λ y z t k. z) (λ y z t. z) from before held a ph w o in
      ran-result ps q blk bat (bit_of true) (bit-condition true) e0 more j no_course x.course c' x.done f1 x.there
      (λ k d at turns. place-among (length g.blocks) (next_place q k) turns (slice_get_within g.blocks k d at.at)) (walk [] ps refl x.course c' f1 x.there) held w o ran
