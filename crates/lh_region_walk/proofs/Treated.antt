-- A place is treated: its instructions are counted, and its lines are taken one after the other.
use Rattle.std.proofs.Common.{◌≡◌, inl, inr, ℕ, zero, suc, ◌+◌, ◌-◌, ◌<◌, ◌≤◌, Bool, true, false, not, nat_lt, if◌then◌else◌, List, [], ◌∷◌, ◌++◌, length, map, take, drop, get_or, Option, Some, None, slice_get, refl, ap, sym, ◌∙◌, subst, append_assoc, arith}
use Rattle.std.specs.Option.{option_map}
use Rattle.std.proofs.lemmas.List.{append-nil, drop_all}
use Rattle.std.proofs.lemmas.Bool.Decides.{nat_tests}
use Rattle.std.proofs.lemmas.Option.{none-some}
use Rattle.std.proofs.lemmas.Bool.{not-true, not-false}
use Rattle.lh_unit_names.specs.declared.name.UnitName.{UnitName}
use Rattle.lh_unit.specs.declared.inst.Inst.{Inst}
use Rattle.lh_unit.specs.declared.inst.Inst.TheVariants as inst
use Rattle.lh_unit.specs.Contents.{LineText, BlockText}
use Rattle.lh_unit.specs.Naming.{Naming, inst_text}
use Rattle.lh_unit.specs.Places.{is_terminator}
use Rattle.lh_unit.specs.Within.{Each}
use Rattle.lh_verify_laws.specs.Shape.{EndsOnce}
use Rattle.lh_flat.specs.declared.flat.FlatInst.{FlatInst}
use Rattle.lh_flat.specs.declared.flat.FlatBlock.{FlatBlock}
use Rattle.lh_flat.specs.Below.{InstBelow}
use Rattle.lh_flat.specs.Flat.{MergeText, with_merge, as_block}
use Rattle.lh_flat.specs.Reads.{merge_text, flat_line_text, flat_block_text, flat_blocks_text}
use Rattle.lh_term.specs.Arena.{Grows}
use Rattle.lh_term.specs.declared.term.TermNode.{TermNode}
use Rattle.lh_term.proofs.Arenas.{map_length}
use Rattle.lh_term.proofs.Swaps.{grows_on}
use Rattle.lh_region_joins.proofs.Conditions.{grows-none}
use Rattle.lh_verify_laws.proofs.EachItem.{each-split}
use Rattle.lh_region_def.specs.Joins.{RegionEdge}
use Rattle.lh_region_def.specs.Places.{Region as RegionText, Here, Midst, takes, takes_all}
use Rattle.lh_region_def.specs.Regions.{Course, stops, comes_to, region_too_large, too_many_turns, max_insts, turns_too_often, after_lines}
use Rattle.lh_region_def.proofs.Sites.{block-at}
use Rattle.lh_region_def.proofs.Labels.{block-text}
use Rattle.lh_region_walk.specs.declared.walk.Region.{Region}
use Rattle.lh_region_walk.specs.declared.walk.Walk.{Walk}
use Rattle.lh_region_walk.specs.declared.walk.WalkPoint.{WalkPoint}
use Rattle.lh_region.specs.declared.rows.RegionFault.{RegionFault}
use Rattle.lh_region.specs.declared.rows.RegionFault.TheVariants as fault
use Rattle.lh_region.specs.Stands.{refusal_of}
use Rattle.lh_region.specs.Walking.{Story}
use Rattle.lh_region_walk.specs.Walked.{process_by, region_text, leads_nowhere, IsCourse, course_at, IsBetween, CanTake, takes_line, WalksLine, EndsLine, EndsFor, StopsFor, IsOpened, CanTreat, treated, Treats, TreatsNot}
use Rattle.lh_region_walk.specs.Merges.{merge_lines, midst_at, CanTakeAll, LeadNowhere, takes_lines, TakesLines, EndsLast, EndsLines, EndsLinesFor, TakesMerges}
use Rattle.lh_region_walk.proofs.Regional.{block-text-at}
use Rattle.lh_region_walk.proofs.Opened.{block-below, block-read}

-- ---- the count

-- the walk with this many instructions, and the course
abbrev with_insts : Walk → ℕ → Walk
with_insts w n = record { places = w.places; ahead = w.ahead; insts = n; rows = w.rows; sources = w.sources }

abbrev counted_to : ℕ → Course → Course
counted_to n c = record { insts = n; edges = c.edges; rows = c.rows }

pub opened-counted : (ns : List TermNode) (f : Naming) (name : UnitName) (r : Region) (w : Walk) (at : WalkPoint) (before : Story) (h : Here) (b : FlatBlock) (x : RegionEdge) (xs : List RegionEdge)
    (c : Course) (n : ℕ) → IsOpened ns f name r w at before h b x xs c
    → IsOpened ns f name r (with_insts w n) at before h b x xs (counted_to n c)
opened-counted ns f name r w at before h b x xs c n o =
    let m = o.midst in
    let s = m.so_far in
    record {
      region = o.region;
      stands = o.stands;
      midst = record {
        so_far = record {
          naming = s.naming;
          values = s.values;
          blocks = s.blocks;
          here_long = s.here_long;
          next_long = s.next_long;
          ahead = s.ahead;
          few = s.few;
          insts = refl;
          rows = s.rows;
          sources = s.sources;
        };
        now = m.now;
        continues = m.continues;
        was = m.was;
        is = m.is;
        places = m.places;
        tells = m.tells;
        known = m.known;
        cond = m.cond;
        condition = m.condition;
      };
      edges = o.edges;
      join = o.join;
    }

pub can-treat-counted : (ns : List TermNode) (r : Region) (w : Walk) (at : WalkPoint) (n : ℕ) → CanTreat ns r w at → CanTreat ns r (with_insts w n) at
can-treat-counted ns r w at n c = record {
  naming = c.naming;
  name = c.name;
  before = c.before;
  here = c.here;
  block = c.block;
  first = c.first;
  more = c.more;
  course = counted_to n c.course;
  opened = opened-counted ns c.naming c.name r w at c.before c.here c.block c.first c.more c.course n c.opened;
}

-- ---- where lines end

pub nowhere-is : (f : Naming) (i : Inst) → is_terminator (inst_text f i) ≡ not (leads_nowhere i)
nowhere-is f (inst.Ret None) = refl
nowhere-is f (inst.Ret (Some t)) = refl
nowhere-is f _ = refl

ends-by-ids : (f : Naming) (ls : List FlatInst) → EndsOnce (map (flat_line_text f) ls) → (map (flat_line_text f) ls ≡ [] → ⊥) → EndsLast ls
ends-by-ids f [] e n = absurd (n refl)
ends-by-ids f (l ∷ []) e n = not-true (leads_nowhere l.inst) (sym (nowhere-is f l.inst) ∙ e)
ends-by-ids f (l ∷ m ∷ ls) e n = (not-false (leads_nowhere l.inst) (sym (nowhere-is f l.inst) ∙ e.0), ends-by-ids f (m ∷ ls) e.1 (λ q. cc))

ends-once : (o : Option MergeText) (ls : List LineText) → EndsOnce (with_merge o ls) → (l : LineText) (more : List LineText) → with_merge o ls ≡ l ∷ more → EndsOnce ls × (ls ≡ [] → ⊥)
ends-once None ls e l more q = (e, λ p. let z : [] ≡ l ∷ more = sym p ∙ q in cc)
ends-once (Some m) [] e l more q = cc
ends-once (Some m) (k ∷ ls) e l more q = (e.1, λ p. cc)

pub opened-ends : (ns : List TermNode) (f : Naming) (name : UnitName) (r : Region) (w : Walk) (at : WalkPoint) (before : Story) (h : Here) (b : FlatBlock) (x : RegionEdge) (xs : List RegionEdge)
    (c : Course) → IsOpened ns f name r w at before h b x xs c → EndsLast b.insts
opened-ends ns f name r w at before h b x xs c o =
    let text = flat_block_text f at.block b in
    let blocks = (process_by name f r.flat.now).blocks in
    let formed = o.region.names.formed name in
    let q = block-text (flat_blocks_text f 0 r.flat.now.blocks) at.block text (block-text-at f r.flat.now.blocks at.block b o.stands.block) in
    let filled = block-at (λ (y : BlockText). (l : LineText) × (more : List LineText) × (y.lines ≡ l ∷ more)) blocks at.block (as_block text) formed.filled q in
    let once = ends-once text.merge text.lines (block-at (λ (y : BlockText). EndsOnce y.lines) blocks at.block (as_block text) formed.ends q) filled.0 filled.1 filled.2 in
    ends-by-ids f b.insts once.0 once.1

ends-inner : (inner : List FlatInst) (l : FlatInst) → EndsLast (inner ++ l ∷ []) → LeadNowhere inner × (leads_nowhere l.inst ≡ false)
ends-inner [] l e = (tt, e)
ends-inner (y ∷ []) l e = ((e.0, tt), e.1)
ends-inner (y ∷ z ∷ ys) l e = let r = ends-inner (z ∷ ys) l e.1 in ((e.0, r.0), r.1)

-- ---- lines one after the other

takes-last : (g : RegionText) (h : Here) (ls : List LineText) (l : LineText) (m : Midst) → takes_all g h (ls ++ l ∷ []) m ≡ takes g h l.inst l.result (takes_all g h ls m)
takes-last g h [] l m = refl
takes-last g h (k ∷ ls) l m = takes-last g h ls l (takes g h k.inst k.result m)

map-last : (f : Naming) (ls : List FlatInst) (l : FlatInst) → map (flat_line_text f) (ls ++ l ∷ []) ≡ map (flat_line_text f) ls ++ flat_line_text f l ∷ []
map-last f [] l = refl
map-last f (k ∷ ls) l = ap (λ (ys : List LineText). flat_line_text f k ∷ ys) (map-last f ls l)

takes-more : (f : Naming) (r : Region) (h : Here) (ls : List FlatInst) (l : FlatInst) (m : Midst) → takes_lines f r h (ls ++ l ∷ []) m ≡ takes_line f r h l (takes_lines f r h ls m)
takes-more f r h ls l m = ap (λ (ys : List LineText). takes_all (region_text f r) h ys m) (map-last f ls l) ∙ takes-last (region_text f r) h (map (flat_line_text f) ls) (flat_line_text f l) m

-- the lines that come next, by one and the others
next-lines : (f : Naming) (seen : List FlatInst) (l : FlatInst) (more : List FlatInst) (rest : List LineText) → map (flat_line_text f) (seen ++ l ∷ more) ++ rest ≡ map (flat_line_text f) seen
    ++ (flat_line_text f l ∷ (map (flat_line_text f) more ++ rest))
next-lines f [] l more rest = refl
next-lines f (k ∷ seen) l more rest = ap (λ (ys : List LineText). flat_line_text f k ∷ ys) (next-lines f seen l more rest)

done-lines : (f : Naming) (done : List LineText) (seen : List FlatInst) (l : FlatInst) → (done ++ map (flat_line_text f) seen) ++ flat_line_text f l ∷ [] ≡ done
    ++ map (flat_line_text f) (seen ++ l ∷ [])
done-lines f done seen l = append_assoc done (map (flat_line_text f) seen) (flat_line_text f l ∷ []) ∙ ap (λ (ys : List LineText). done ++ ys) (sym (map-last f seen l))

pub record LinesSoFar (ns : List TermNode) (r : Region) (w : Walk) (at : WalkPoint) (seen : List FlatInst) (ms : List TermNode) (q : Walk) : Type 0 where
  pub grows : Grows ns ms
  pub takes : TakesLines ns r w at seen ms q

takes-none : (ns : List TermNode) (r : Region) (w : Walk) (at : WalkPoint) → TakesLines ns r w at [] ns w
takes-none ns r w at f name before h insts b done rest m bt = subst (λ (ds : List LineText). IsBetween ns f name r w at before h insts b ds rest m) (sym (append-nil done)) bt

pub lines-none : (ns : List TermNode) (r : Region) (w : Walk) (at : WalkPoint) (seen : List FlatInst) → seen ≡ [] → LinesSoFar ns r w at seen ns w
lines-none ns r w at seen e = subst (λ (ls : List FlatInst). LinesSoFar ns r w at ls ns w) (sym e) (record { grows = grows-none ns; takes = takes-none ns r w at })

takes-next : (ns ms os : List TermNode) (r : Region) (w q p : Walk) (at : WalkPoint) (seen : List FlatInst) (l : FlatInst) → TakesLines ns r w at seen ms q → WalksLine ms r q at l os p
    → TakesLines ns r w at (seen ++ l ∷ []) os p
takes-next ns ms os r w q p at seen l t u f name before h insts b done rest m bt =
    let a = t f name before h insts b done (flat_line_text f l ∷ rest) m (subst (λ (ys : List LineText). IsBetween ns f name r w at before h insts b done ys m) (next-lines f seen l [] rest) bt) in
    let d = u f name before h insts b (done ++ map (flat_line_text f) seen) rest (takes_lines f r h seen m) a in
    subst (λ (ys : List LineText). IsBetween os f name r p at before h insts b ys rest (takes_lines f r h (seen ++ l ∷ []) m)) (done-lines f done seen l)
    (subst (IsBetween os f name r p at before h insts b ((done ++ map (flat_line_text f) seen) ++ flat_line_text f l ∷ []) rest) (sym (takes-more f r h seen l m)) d)

pub lines-next : (ns ms os : List TermNode) (r : Region) (w q p : Walk) (at : WalkPoint) (seen after : List FlatInst) (l : FlatInst) → after ≡ seen ++ l ∷ [] → Grows ms os → WalksLine ms r q at l os p
    → LinesSoFar ns r w at seen ms q → LinesSoFar ns r w at after os p
lines-next ns ms os r w q p at seen after l e g u s =
    subst (λ (ls : List FlatInst). LinesSoFar ns r w at ls os p) (sym e) (record { grows = grows_on ns ms os s.grows g; takes = takes-next ns ms os r w q p at seen l s.takes u })

-- the next line may be taken
next-can : (ns ms : List TermNode) (r : Region) (w q : Walk) (at : WalkPoint) (seen : List FlatInst) (l : FlatInst) (more ls : List FlatInst) → ls ≡ seen ++ l ∷ more → TakesLines ns r w at seen ms q
    → CanTakeAll ns r w at ls → CanTake ms r q at l
next-can ns ms r w q at seen l more ls e t c =
    let f = c.naming in
    let below = each-split (InstBelow r.flat.now.values (length r.flat.now.blocks)) seen (l ∷ more) (subst (Each (InstBelow r.flat.now.values (length r.flat.now.blocks))) e c.below) in
    record {
      naming = f;
      name = c.name;
      before = c.before;
      here = c.here;
      insts = c.insts;
      block = c.block;
      done = c.done ++ map (flat_line_text f) seen;
      rest = map (flat_line_text f) more ++ c.rest;
      midst = takes_lines f r c.here seen c.midst;
      below = below.1.0;
      between =
          t f c.name c.before c.here c.insts c.block c.done (flat_line_text f l ∷ (map (flat_line_text f) more ++ c.rest)) c.midst
          (subst (λ (ys : List LineText). IsBetween ns f c.name r w at c.before c.here c.insts c.block c.done ys c.midst)
          (ap (λ (ks : List FlatInst). map (flat_line_text f) ks ++ c.rest) e ∙ next-lines f seen l more c.rest) c.between);
    }

item-split : (ls : List FlatInst) (i : ℕ) (l d : FlatInst) → i < length ls → l ≡ get_or ls i d → ls ≡ take i ls ++ l ∷ drop (i + 1) ls
item-split [] i l d h e = absurd (omega (arith, h))
item-split (k ∷ ls) zero l d h e = ap (λ (y : FlatInst). y ∷ ls) (sym e)
item-split (k ∷ ls) (suc i) l d h e =
    let q : suc (i + 1) ≡ suc i + 1 = omega arith in
    ap (λ (ys : List FlatInst). k ∷ ys) (item-split ls i l d (omega (arith, h)) e) ∙ ap (λ (n : ℕ). k ∷ (take i ls ++ l ∷ drop n (k ∷ ls))) q

pub last-split : (ls : List FlatInst) (l : FlatInst) → 1 ≤ length ls → l ≡ get_or ls (length ls - 1) l → ls ≡ take (length ls - 1) ls ++ l ∷ []
last-split ls l h e =
    let n = length ls - 1 in
    item-split ls n l l (omega (arith, h)) e ∙ ap (λ (more : List FlatInst). take n ls ++ l ∷ more) (drop_all (n + 1) ls (omega (arith, h)))

pub lines-can : (ns ms : List TermNode) (r : Region) (w q : Walk) (at : WalkPoint) (ls : List FlatInst) (i : ℕ) (l d : FlatInst) → i < length ls → l ≡ get_or ls i d → LinesSoFar ns r w at (take i ls) ms q
    → CanTakeAll ns r w at ls → CanTake ms r q at l
lines-can ns ms r w q at ls i l d h e s c = next-can ns ms r w q at (take i ls) l (drop (i + 1) ls) ls (item-split ls i l d h e) s.takes c

pub line-inner : (ls : List FlatInst) (i : ℕ) (l d : FlatInst) → i < length ls → l ≡ get_or ls i d → LeadNowhere ls → leads_nowhere l.inst ≡ true
line-inner [] i l d h e n = absurd (omega (arith, h))
line-inner (k ∷ ls) zero l d h e n = ap (λ (y : FlatInst). leads_nowhere y.inst) e ∙ n.0
line-inner (k ∷ ls) (suc i) l d h e n = line-inner ls i l d (omega (arith, h)) e n.1

-- ---- all lines but the last, and the last

module _ (ns : List TermNode) (r : Region) (w : Walk) (at : WalkPoint) (ls inner : List FlatInst) (l : FlatInst) (is : ls ≡ inner ++ l ∷ []) where
  pub inner-can : CanTakeAll ns r w at ls → CanTakeAll ns r w at inner
  inner-can c =
      let f = c.naming in
      record {
        naming = f;
        name = c.name;
        before = c.before;
        here = c.here;
        insts = c.insts;
        block = c.block;
        done = c.done;
        rest = flat_line_text f l ∷ c.rest;
        midst = c.midst;
        below = (each-split (InstBelow r.flat.now.values (length r.flat.now.blocks)) inner (l ∷ []) (subst (Each (InstBelow r.flat.now.values (length r.flat.now.blocks))) is c.below)).0;
        between = subst (λ (ys : List LineText). IsBetween ns f c.name r w at c.before c.here c.insts c.block c.done ys c.midst)
            (ap (λ (ks : List FlatInst). map (flat_line_text f) ks ++ c.rest) is ∙ next-lines f inner l [] c.rest) c.between;
      }

  pub inner-nowhere : EndsLast ls → LeadNowhere inner
  inner-nowhere e = (ends-inner inner l (subst EndsLast is e)).0

  pub last-leads : EndsLast ls → leads_nowhere l.inst ≡ false
  last-leads e = (ends-inner inner l (subst EndsLast is e)).1

  module _ (ms : List TermNode) (q : Walk) (t : TakesLines ns r w at inner ms q) where
    pub last-can : CanTakeAll ns r w at ls → CanTake ms r q at l
    last-can c = next-can ns ms r w q at inner l [] ls is t c

    last-between : (f : Naming) (name : UnitName) (before : Story) (h : Here) (insts : ℕ) (b : FlatBlock) (done : List LineText) (m : Midst)
        → IsBetween ns f name r w at before h insts b done (map (flat_line_text f) ls) m
        → IsBetween ms f name r q at before h insts b (done ++ map (flat_line_text f) inner) (flat_line_text f l ∷ []) (takes_lines f r h inner m)
    last-between f name before h insts b done m bt =
        t f name before h insts b done (flat_line_text f l ∷ []) m
        (subst (λ (ys : List LineText). IsBetween ns f name r w at before h insts b done ys m) (ap (map (flat_line_text f)) is ∙ map-last f inner l) bt)

    all-taken : (f : Naming) (h : Here) (m : Midst) → takes_lines f r h ls m ≡ takes_line f r h l (takes_lines f r h inner m)
    all-taken f h m = ap (λ (ks : List FlatInst). takes_lines f r h ks m) is ∙ takes-more f r h inner l m

    pub ends-lines : (os : List TermNode) (p : Walk) → EndsLine ms r q at l os p → EndsLines ns r w at ls os p
    ends-lines os p e f name before h insts b done m bt =
        let z = e f name before h insts b (done ++ map (flat_line_text f) inner) [] (takes_lines f r h inner m) (last-between f name before h insts b done m bt) in
        (z.0, subst (λ (y : Midst). IsCourse os f r p at.turns (at.block + 1) z.0 (course_at insts y)) (sym (all-taken f h m)) z.1)

    pub ends-for : (x : RegionFault) → EndsFor ms r q at l x → EndsLinesFor ns r w at ls x
    ends-for x (inl e) = inl e
    ends-for x (inr e) =
        inr (
          e.0,
          λ f name before h insts b done m bt. ap (λ (y : Midst). turns_too_often y.edges) (all-taken f h m)
              ∙ e.1 f name before h insts b (done ++ map (flat_line_text f) inner) [] (takes_lines f r h inner m) (last-between f name before h insts b done m bt),
        )

-- ---- what the definition comes to

module _ (ns : List TermNode) (f : Naming) (name : UnitName) (r : Region) (w : Walk) (at : WalkPoint) (before : Story) (h : Here) (b : FlatBlock) (x : RegionEdge) (xs : List RegionEdge) (c : Course)
    (o : IsOpened ns f name r w at before h b x xs c) where
  abbrev es_here : List RegionEdge
  es_here = x ∷ xs

  abbrev all_lines : Midst
  all_lines = takes_lines f r h b.insts (midst_at f at b (x ∷ xs) c)

  -- by their number the lines are too many or not
  treated-by : (t : Bool) → nat_lt max_insts (c.insts + length b.insts) ≡ t → treated f r at h b (x ∷ xs) c ≡ (if t then stops region_too_large else after_lines (c.insts + length b.insts) all_lines)
  treated-by t e =
      let n : length (flat_block_text f at.block b).lines ≡ length b.insts = map_length (flat_line_text f) b.insts in
      let label = o.stands.label in
      (λ i. if nat_lt max_insts (c.insts + n i) then stops region_too_large else after_lines (c.insts + n i)
      (takes_all (region_text f r) (record { place = h.place; label = sym label i; cond = h.cond }) (map (flat_line_text f) b.insts) (midst_at f at b (x ∷ xs) c)))
      ∙ ap (λ (u : Bool). if u then stops region_too_large else after_lines (c.insts + length b.insts) all_lines) e

  pub treated-large : max_insts < c.insts + length b.insts → treated f r at h b (x ∷ xs) c ≡ stops region_too_large
  treated-large l = treated-by true (grind (arith, nat_tests))

  treated-small : (n : ℕ) → n ≡ c.insts + length b.insts → n ≤ max_insts → treated f r at h b (x ∷ xs) c ≡ after_lines n all_lines
  treated-small n e l = treated-by false (let k : c.insts + length b.insts ≤ max_insts = subst (λ (i : ℕ). i ≤ max_insts) e l in grind (arith, nat_tests))
      ∙ ap (λ (i : ℕ). after_lines i all_lines) (sym e)

  pub treated-comes : (n : ℕ) → n ≡ c.insts + length b.insts → n ≤ max_insts → turns_too_often all_lines.edges ≡ false → treated f r at h b (x ∷ xs) c ≡ comes_to (course_at n all_lines)
  treated-comes n e l t = treated-small n e l ∙ ap (λ (u : Bool). if u then stops too_many_turns else comes_to (course_at n all_lines)) t

  pub treated-turns : (n : ℕ) → n ≡ c.insts + length b.insts → n ≤ max_insts → turns_too_often all_lines.edges ≡ true → treated f r at h b (x ∷ xs) c ≡ stops too_many_turns
  treated-turns n e l t = treated-small n e l ∙ ap (λ (u : Bool). if u then stops too_many_turns else comes_to (course_at n all_lines)) t

-- ---- a place, from its count on

module _ (ns ms : List TermNode) (r : Region) (w q : Walk) (at : WalkPoint) (n : ℕ) (d : FlatBlock) (read : d ≡ get_or r.flat.now.blocks at.block d) (ls : List FlatInst) (are : ls ≡ d.insts)
    (merged : TakesMerges ns r (with_insts w n) at ms q) where
  lines-are : (b : FlatBlock) → slice_get r.flat.now.blocks at.block ≡ Some b → b.insts ≡ ls
  lines-are b e = ap (λ (y : FlatBlock). y.insts) (block-read r.flat.now.blocks at.block b d e read) ∙ sym are

  -- the lines of the block may be taken
  pub lines-after : CanTreat ns r w at → CanTakeAll ms r q at ls
  lines-after c =
      let f = c.naming in
      let b = c.block in
      let e = lines-are b c.opened.stands.block in
      let o = opened-counted ns f c.name r w at c.before c.here b c.first c.more c.course n c.opened in
      let done = merge_lines (option_map (merge_text f) b.merge) in
      let m = midst_at f at b (c.first ∷ c.more) c.course in
      record {
        naming = f;
        name = c.name;
        before = c.before;
        here = c.here;
        insts = n;
        block = b;
        done = done;
        rest = [];
        midst = m;
        below = subst (Each (InstBelow r.flat.now.values (length r.flat.now.blocks))) e (block-below ns f c.name r w at c.before c.here b c.first c.more c.course c.opened).insts;
        between =
            subst (λ (ys : List LineText). IsBetween ms f c.name r q at c.before c.here n b done ys m) (ap (map (flat_line_text f)) e ∙ sym (append-nil (map (flat_line_text f) ls)))
            (merged f c.name c.before c.here b c.first c.more (counted_to n c.course) o);
      }

  pub lines-end : CanTreat ns r w at → EndsLast ls
  lines-end c = subst EndsLast (lines-are c.block c.opened.stands.block) (opened-ends ns c.naming c.name r w at c.before c.here c.block c.first c.more c.course c.opened)

  -- the place before its lines, as it is told
  told-between : (f : Naming) (name : UnitName) (before : Story) (h : Here) (b : FlatBlock) (x : RegionEdge) (xs : List RegionEdge) (c : Course) → IsOpened ns f name r w at before h b x xs c
      → IsBetween ms f name r q at before h n b (merge_lines (option_map (merge_text f) b.merge)) (map (flat_line_text f) ls) (midst_at f at b (x ∷ xs) c)
  told-between f name before h b x xs c o =
      subst (λ (ks : List FlatInst). IsBetween ms f name r q at before h n b (merge_lines (option_map (merge_text f) b.merge)) (map (flat_line_text f) ks) (midst_at f at b (x ∷ xs) c))
      (lines-are b o.stands.block)
      (merged f name before h b x xs (counted_to n c) (opened-counted ns f name r w at before h b x xs c n o))

  module _ (count : n ≡ w.insts + length d.insts) (few : n ≤ max_insts) where
    count-is : (f : Naming) (name : UnitName) (before : Story) (h : Here) (b : FlatBlock) (x : RegionEdge) (xs : List RegionEdge) (c : Course) → IsOpened ns f name r w at before h b x xs c
        → n ≡ c.insts + length b.insts
    count-is f name before h b x xs c o = count ∙ (λ i. o.midst.so_far.insts i + length (sym (block-read r.flat.now.blocks at.block b d o.stands.block read) i).insts)

    pub treats : (os : List TermNode) (p : Walk) → EndsLines ms r q at ls os p → Treats ns r w at os p
    treats os p e f name before h b x xs c o =
        let m = midst_at f at b (x ∷ xs) c in
        let z = e f name before h n b (merge_lines (option_map (merge_text f) b.merge)) m (told-between f name before h b x xs c o) in
        let k = subst (λ (ks : List FlatInst). IsCourse os f r p at.turns (at.block + 1) z.0 (course_at n (takes_lines f r h ks m))) (sym (lines-are b o.stands.block)) z.1 in
        (z.0, course_at n (takes_lines f r h b.insts m), treated-comes ns f name r w at before h b x xs c o n (count-is f name before h b x xs c o) few k.so_far.few, k)

    pub treats-not : (x : RegionFault) → EndsLinesFor ms r q at ls x → TreatsNot ns r w at x
    treats-not y (inl e) f name before h b x xs c o = subst (λ (z : RegionFault). StopsFor (treated f r at h b (x ∷ xs) c) (refusal_of z)) (sym e) tt
    treats-not y (inr (e, t)) f name before h b x xs c o =
        let m = midst_at f at b (x ∷ xs) c in
        let u = t f name before h n b (merge_lines (option_map (merge_text f) b.merge)) m (told-between f name before h b x xs c o) in
        let v = subst (λ (ks : List FlatInst). turns_too_often (takes_lines f r h ks m).edges ≡ true) (sym (lines-are b o.stands.block)) u in
        subst (λ (z : RegionFault). StopsFor (treated f r at h b (x ∷ xs) c) (refusal_of z)) (sym e) (treated-turns ns f name r w at before h b x xs c o n (count-is f name before h b x xs c o) few v)

-- the place has too many instructions
pub too-large : (ns : List TermNode) (r : Region) (w : Walk) (at : WalkPoint) (d : FlatBlock) → d ≡ get_or r.flat.now.blocks at.block d → max_insts < w.insts + length d.insts
    → TreatsNot ns r w at fault.RegionTooLarge
too-large ns r w at d read l f name before h b x xs c o =
    treated-large ns f name r w at before h b x xs c o
    (subst (λ (i : ℕ). max_insts < i) (λ i. o.midst.so_far.insts i + length (sym (block-read r.flat.now.blocks at.block b d o.stands.block read) i).insts) l)

-- of running out of memory nothing is said
pub no-memory : (ns : List TermNode) (r : Region) (w : Walk) (at : WalkPoint) → TreatsNot ns r w at fault.OutOfMemory
no-memory ns r w at f name before h b x xs c o = tt

-- the block of a place that has begun is there
pub block-within : (ns : List TermNode) (r : Region) (w : Walk) (at : WalkPoint) → CanTreat ns r w at → at.block < length r.flat.now.blocks
block-within ns r w at c = within r.flat.now.blocks at.block c.block c.opened.stands.block
  where
    within : (bs : List FlatBlock) (i : ℕ) (b : FlatBlock) → slice_get bs i ≡ Some b → i < length bs
    within [] i b e = absurd (none-some b e)
    within (a ∷ bs) zero b e = omega arith
    within (a ∷ bs) (suc i) b e = omega (arith, within bs i b e)
