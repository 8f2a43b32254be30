-- A process that reacts to edges: where a trigger's part changes its registers give what the process gives, and else nothing is given.
use Rattle.std.proofs.Common.{◌≡◌, ◌⊎◌, inl, inr, ℕ, ◌+◌, ◌≤◌, List, [], ◌∷◌, map, length, Bool, true, false, not, ◌&&◌, ◌||◌, ◌==◌, nat_eq, Option, Some, None, refl, ap, sym, ◌∙◌, subst, arith, le_refl}
use Rattle.std.specs.List.{list_any, flat_map}
use Rattle.std.specs.Option.{option_map_or}
use Rattle.std.proofs.lemmas.Bool.{false≢true, not-false}
use Rattle.std.proofs.lemmas.Bool.Decides.{nat_tests}
use Rattle.std.proofs.lemmas.Option.{same_Some}
use Rattle.lh_time.specs.declared.Instant.{Instant}
use Rattle.lh_time.specs.Due.{instant}
use Rattle.lh_types.specs.Wish.{Wish, no_wish}
use Rattle.lh_types.specs.declared.part.Range.{Range}
use Rattle.lh_types.proofs.Tests.{or_false_left, or_false_right}
use Rattle.lh_unit_names.specs.declared.name.UnitName.{UnitName}
use Rattle.lh_unit.specs.declared.inst.UnitKind.TheVariants as kind
use Rattle.lh_unit.specs.Contents.{UnitText}
use Rattle.lh_unit.specs.Held.{Env}
use Rattle.lh_unit.specs.Within.{Each}
use Rattle.lh_unit.specs.Activation.{Stand, ProcessState, Activated, activate}
use Rattle.lh_unit.specs.Hierarchy.{Instance}
use Rattle.lh_unit.specs.Pass.{pass, probes}
use Rattle.lh_unit.specs.World.{bit_numbers, bit_at, bit_differs, begun}
use Rattle.lh_trace_laws.proofs.BitSets.{has, SameSet, IsWithin, bits_read, none_of, not_differ}
use Rattle.lh_trace_laws.proofs.StandsFor.{fresh, waiting_at, EndsAt, sensed, EdgeFor}
use Rattle.lh_flat_laws.specs.Formed.{IsFormed}
use Rattle.lh_flat_laws.specs.Activates.{EndsAlike}
use Rattle.lh_flat.specs.Flat.{FlatBlockText, FlatText, flat_unit}
use Rattle.lh_flat.proofs.Bounds.{head-same, tail-same}
use Rattle.lh_term.specs.Tree.{past_of, now_of}
use Rattle.lh_term.specs.Mean.{Valuation, IsFitting}
use Rattle.lh_term.specs.declared.part.Part.{Part}
use Rattle.lh_term.specs.Laws.{SwapsKeepMeaning}
use Rattle.lh_term.specs.Make.{is_constant}
use Rattle.lh_term_cover.specs.Bits.{covers}
use Rattle.lh_edge.specs.Atoms.{contains_past}
use Rattle.lh_edge.specs.Shown.{is_edge_shown}
use Rattle.lh_edge.specs.Triggers.{EdgeRowTree}
use Rattle.lh_region_def.specs.Rows as way
use Rattle.lh_region_def.specs.Rows.{Drive, Way, RegionEnd, Rows}
use Rattle.lh_region_def.specs.Regions.{lines_at, head_of, waits_for, waited_parts, Regions, Course, comes_to, first_region}
use Rattle.lh_region_def.specs.Typed.{Among}
use Rattle.lh_region_def.specs.Means.{range_in, reads, with_rows}
use Rattle.lh_region_def.specs.Ending.{StandsAs}
use Rattle.lh_region_def.specs.Laws.{max_steps, EndsAs, WaitsAfter, ThenFirst}
use Rattle.lh_region_def.specs.Right.{DriveTyped}
use Rattle.lh_flat_laws.proofs.Members.{each-among}
use Rattle.lh_region_def.proofs.PartReads.{reads-fit}
use Rattle.lh_region_def.proofs.Second.{past-typed}
use Rattle.lh_shape.specs.Reasons.{is_halt, is_wait, ends_halted, is_empty, in_some, is_timed, are_mixed, waits_for_head, parts_waited, second_drives}
use Rattle.lh_shape.specs.Shapes.{edge_row}
use Rattle.lh_emit_def.specs.Emitted.{Source}
use Rattle.lh_emit_def.specs.Ways.{RowIsGiven}
use Rattle.lh_emit_def.specs.Registers.{registers_wish}
use Rattle.lh_emit_def.specs.Laws.{row_parts}
use Rattle.lh_entity_laws.specs.Stands.{IsEnough}
use Rattle.lh_entity_laws.specs.AnyEntity.{DoesEdge}
use Rattle.lh_region_laws.specs.Before.{RowsAreAlike, SecondRowsAreTyped}
use Rattle.lh_entity_laws.proofs.Bits.{bits_of, covered-bits, there-bits, right-within, part-within}
use Rattle.lh_entity_laws.proofs.PartBits.{ZerosAreMissing, ZerosReadAlike, values-agree}
use Rattle.lh_entity_laws.proofs.Shaped.{EdgeRegions, SecondWalk, second-walk}
use Rattle.lh_entity_laws.proofs.EndTargets.{first-ends}
use Rattle.lh_entity_laws.proofs.WaitEnds.{none-of, WaitsFor, AllWait, wait-all, head-is, free-ends}
use Rattle.lh_entity_laws.proofs.RegisterTriggers.{EdgeDrive, registers-drive, triggers-covered}
use Rattle.lh_entity_laws.proofs.Route.{seen, Follows, Pads, label_at, stood, process-stood, waits-alike, Ends, SecondEnds, first-acts, second-acts}
use Rattle.lh_entity_laws.proofs.OnceActivations.{one-region}
use Rattle.lh_entity_laws.proofs.CombActivations.{not-first, no-items}

-- what holds of no region does not hold of the second
not-second : (test : Rows → Bool) (r : Regions) (s : Rows) → r.second ≡ Some s → in_some test r ≡ false → test s ≡ false
not-second test r s q e = sym (ap (λ o. option_map_or test o false) q) ∙ or_false_right (test r.first) (option_map_or test r.second false) e

two-regions : (a b n : ℕ) → (a + a) + b ≤ n → a + a ≤ n
two-regions a b n h = omega (arith, h)

-- the second region does not end where the process waits or halts
not-left : (blocks : List FlatBlockText) (args : List Range) (w : Way) (from : List ℕ) (s : Stand) → is_halt w ≡ false → is_wait w ≡ false → StandsAs blocks args w from s → ⊥
not-left blocks args way.halts from s h k z = absurd (false≢true (sym h))
not-left blocks args way.enters_head from s h k z = z
not-left blocks args (way.waits to to_head parts timed) from s h k z = absurd (false≢true (sym k))

-- ---- rows that are alike

-- an end whose way is one of the other ends'
record AlikeEnd (x : RegionEnd) (ys : List RegionEnd) : Type 0 where
  other : RegionEnd
  among : Among other ys
  is : other.way ≡ x.way

alike-end : (xs ys : List RegionEnd) → map (λ (e : RegionEnd). e.way) xs ≡ map (λ (e : RegionEnd). e.way) ys → (x : RegionEnd) → Among x xs → AlikeEnd x ys
alike-end [] ys q x a = absurd a
alike-end (z ∷ xs) [] q x a = cc
alike-end (z ∷ xs) (y ∷ ys) q x (inl e) = record {
  other = y;
  among = inl refl;
  is = sym (head-same z.way y.way (map (λ (e : RegionEnd). e.way) xs) (map (λ (e : RegionEnd). e.way) ys) q)
      ∙ ap (λ (v : RegionEnd). v.way) e;
}
alike-end (z ∷ xs) (y ∷ ys) q x (inr a) = let r = alike-end xs ys (tail-same z.way y.way (map (λ (e : RegionEnd). e.way) xs) (map (λ (e : RegionEnd). e.way) ys) q) x a in
    record { other = r.other; among = inr r.among; is = r.is }

none-mapped : {X Y : Type 0} (f : X → Y) (xs ys : List X) → map f xs ≡ map f ys → ys ≡ [] → xs ≡ []
none-mapped f [] ys e q = refl
none-mapped f (x ∷ xs) [] e q = cc
none-mapped f (x ∷ xs) (y ∷ ys) e q = cc

none-long : {X : Type 0} (xs ys : List X) → length xs ≡ length ys → ys ≡ [] → xs ≡ []
none-long [] ys e q = refl
none-long (x ∷ xs) [] e q = cc
none-long (x ∷ xs) (y ∷ ys) e q = cc

-- ---- bits that were read

read-same : (v w : List Bool) (ks : List ℕ) → bits_read v ks ≡ bits_read w ks → (a : ℕ) → has ks a ≡ true → bit_at v a ≡ bit_at w a
read-same v w [] e a h = cc
read-same v w (x ∷ xs) e a h = by (x == a) refl h (read-same v w xs (tail-same (bit_at v x) (bit_at w x) (bits_read v xs) (bits_read w xs) e) a)
  where
    here : (x a : ℕ) → (x == a) ≡ true → x ≡ a
    here x a e = grind (arith, nat_tests)

    by : (b : Bool) → (x == a) ≡ b → (b || has xs a) ≡ true → (has xs a ≡ true → bit_at v a ≡ bit_at w a) → bit_at v a ≡ bit_at w a
    by true q z go = subst (λ c. bit_at v c ≡ bit_at w c) (here x a q) (head-same (bit_at v x) (bit_at w x) (bits_read v xs) (bits_read w xs) e)
    by false q z go = go z

-- parts whose bits agree have the same values
parts-same : ZerosAreMissing → ZerosReadAlike → (args : List Range) (v w : List Bool) (qs : List Part) → ((a : ℕ) → has (bits_of args qs) a ≡ true → bit_at v a ≡ bit_at w a)
    → Each (λ q. reads args v q ≡ reads args w q) qs
parts-same z y args v w [] h = tt
parts-same z y args v w (q ∷ qs) h = (
  values-agree z y args q v w (λ a e. h a (part-within args q (q ∷ qs) (inl refl) a e)),
  parts-same z y args v w qs (λ a e. h a (right-within args (q ∷ []) qs a e)),
)

module _ (functions : List UnitText) (bound : ℕ) (x y : UnitText) (i : Instance) (name : UnitName) (t : FlatText) (formed : IsFormed (flat_unit name t))
    (pads : Pads functions (flat_unit name t) i.args) (k : Follows functions x (flat_unit name t) i.args)
    (xk : x.kind ≡ kind.Proc) (yk : y.kind ≡ kind.Entity) (sigs : i.sigs ≡ []) (enough : IsEnough bound t) (rs : List EdgeRowTree) (s : EdgeRegions t rs)
    (p : Course) (before : first_region t past_of ≡ comes_to p) (alike : RowsAreAlike p.rows s.walk.course.rows) where
  abbrev f : UnitText
  f = flat_unit name t

  abbrev rows : Rows
  rows = s.walk.course.rows

  abbrev head : ℕ
  head = head_of t.blocks

  first-asserts : rows.asserts ≡ []
  first-asserts = ap (λ (z : Rows). z.asserts) s.walk.rows ∙ no-items s.regions.first.asserts (not-first (λ (z : Rows). not (is_empty z.asserts)) s.regions s.none.asserts)

  past-asserts : p.rows.asserts ≡ []
  past-asserts = none-long p.rows.asserts rows.asserts alike.asserted first-asserts

  first-drives : rows.drives ≡ []
  first-drives = ap (λ (z : Rows). z.drives) s.walk.rows ∙ no-items s.regions.first.drives (sym (ap (λ b. not b && not (is_empty s.regions.first.drives)) s.head) ∙ s.none.before)

  past-drives : p.rows.drives ≡ []
  past-drives = none-mapped (λ (d : Drive). d.part) p.rows.drives rows.drives alike.driven first-drives

  waits-all : (e : RegionEnd) → Among e rows.ends → AllWait i.args head rows.ends
  waits-all e a =
      wait-all i.args head rows.ends e a
      (free-ends t now_of rows.ends (ap (λ (z : Rows). list_any ends_halted z.ends) s.walk.rows ∙ not-first (λ (z : Rows). list_any ends_halted z.ends) s.regions s.none.halts)
      (ap (λ (z : Rows). list_any (λ (e : RegionEnd). is_timed e.way) z.ends) s.walk.rows ∙ s.none.timed) (first-ends t now_of s.walk.course s.walk.first))
      (ap (λ (z : Rows). are_mixed z.ends) s.walk.rows ∙ s.none.mixed)

  -- ---- the first activation, whatever the parts' values are taken to be now

  acts-first : (now : List Bool) (at : Instant) (v : Valuation) → IsFitting v → Ends functions name t i.args formed s.walk.plain pads (reads i.args now) v now at p.rows bound (begun f i.args)
  acts-first now at v fit =
      first-acts functions name t i.args formed s.walk.plain pads past_of past-typed (reads i.args now) v (reads-fit i.args now) fit now (λ q. refl) p before at bound
      (one-region max_steps (length (lines_at t.blocks 0)) bound enough)

  -- some end of the first region is come to
  record SomeEnd : Type 0 where
    end : RegionEnd
    among : Among end rows.ends

  some-end : SomeEnd
  some-end =
      let z = acts-first [] (instant 0 0 0) (reads i.args []) (reads-fit i.args []) in
      let o = alike-end p.rows.ends rows.ends alike.ways z.2.end z.2.came.among in
      record { end = o.other; among = o.among }

  all : AllWait i.args head rows.ends
  all = waits-all some-end.end some-end.among

  not-head : nat_eq all.target head ≡ false
  not-head = head-is i.args head rows.ends some-end.end some-end.among all ∙ ap (λ (z : Rows). waits_for_head z.ends) s.walk.rows ∙ s.head

  second : SecondWalk t s.regions all.target
  second = second-walk t s.regions s.walk all.target (all.one not-head)

  second-asserts : second.course.rows.asserts ≡ []
  second-asserts = no-items second.course.rows.asserts (not-second (λ (z : Rows). not (is_empty z.asserts)) s.regions second.course.rows second.rows s.none.asserts)

  second-is : second_drives s.regions ≡ second.course.rows.drives
  second-is = ap (λ o. option_map_or (λ (z : Rows). z.drives) o []) second.rows

  -- an end by values before waits as one by values now does
  past-waits : (e : RegionEnd) → Among e p.rows.ends → WaitsFor head all.target e.way
  past-waits e a = let o = alike-end p.rows.ends rows.ends alike.ways e a in subst (WaitsFor head all.target) o.is (all.each o.other o.among)

  past-bits : (e : RegionEnd) → Among e p.rows.ends → SameSet (bits_of i.args (waited_parts e.way)) (bits_of i.args (parts_waited rows.ends))
  past-bits e a =
      let o = alike-end p.rows.ends rows.ends alike.ways e a in
      subst (λ w. SameSet (bits_of i.args (waited_parts w)) (bits_of i.args (parts_waited rows.ends))) o.is (all.same o.other o.among)

  past-targets : Each (λ (e : RegionEnd). waits_for e.way ≡ Some all.target) p.rows.ends
  past-targets = each-among (λ (e : RegionEnd). waits_for e.way ≡ Some all.target) p.rows.ends (λ e a.
      let w = past-waits e a in ap waits_for (w.is ∙ ap (λ b. way.waits all.target b w.parts false) not-head))

  abbrev to : List ℕ
  to = label_at t.blocks all.target

  abbrev on : List ℕ
  on = bits_of i.args (parts_waited rows.ends)

  -- ---- what an activation leaves

  -- an activation of the flat text from a state, with this wish: it waits where an end of the first region is, whatever the parts' values are taken to be now
  record Leaves (now : List Bool) (at : Instant) (wish : Wish) (flat : ProcessState) : Type 0 where
    done : Activated
    runs : activate bound (seen functions now at) f flat ≡ Some done
    told : done.outcomes ≡ []
    wished : done.wish ≡ wish
    after : (v : Valuation) → IsFitting v → WaitsAfter f t (reads i.args now) v i.args p.rows done.state

  -- the process waits in this block, as its flat text does, where an activation at these bits left it
  record Stays (past : List Bool) (block : List ℕ) (e : Env) : Type 0 where
    parts : List Range
    flat : ProcessState
    last : k.Last (waiting_at block to parts e) flat
    after : (v : Valuation) → IsFitting v → WaitsAfter f t (reads i.args past) v i.args p.rows flat

  ends-at : (q flat : ProcessState) → k.Last q flat → (now : List Bool) (at : Instant) (wish : Wish) → Leaves now at wish flat
      → EndsAt (Stays now) to on wish (activate bound (seen functions now at) x q)
  ends-at q flat l now at wish z = by (z.after (reads i.args now) (reads-fit i.args now)) (k.acts q flat l now at bound bound (le_refl bound) z.done z.runs)
    where
      by : WaitsAfter f t (reads i.args now) (reads i.args now) i.args p.rows z.done.state
          → (d : Activated) × (activate bound (seen functions now at) x q ≡ Some d) × EndsAlike functions x d z.done × k.Last d.state z.done.state
          → EndsAt (Stays now) to on wish (activate bound (seen functions now at) x q)
      by e a =
          let w = past-waits e.end e.came.among in
          let flat-stood = stood t.blocks i.args all.target (nat_eq all.target head) w.parts e.end.way e.end.from z.done.state.stand w.is e.stands in
          let process = process-stood functions x t.blocks i.args all.target w.parts e.end.from a.0.state z.done.state flat-stood a.2.state in
          let wished : a.0.wish ≡ wish = sym a.2.wish ∙ z.wished in
          let told : a.0.outcomes ≡ [] = sym a.2.outcomes ∙ z.told in
          record {
            block = process.block;
            held = a.0.state.held;
            parts = map (range_in i.args) w.parts;
            known = record { parts = map (range_in i.args) w.parts; flat = z.done.state; last = subst (λ c. k.Last c z.done.state) process.is a.3; after = z.after };
            same_parts = subst (λ ps. SameSet (bits_of i.args ps) on) (ap waited_parts w.is) (past-bits e.end e.came.among);
            is = a.1 ∙ (λ j. Some (record { state = process.is j; wish = wished j; outcomes = told j }));
          }

  waits-so : (now : List Bool) (v : Valuation) (at : Instant) (w : Wish) (o : List Bool) (c d : Activated) → c ≡ d → EndsAs f t (reads i.args now) v i.args at w o p.rows c
      → WaitsAfter f t (reads i.args now) v i.args p.rows d.state
  waits-so now v at w o c d q e = subst (λ (z : Activated). WaitsAfter f t (reads i.args now) v i.args p.rows z.state) q (record { end = e.end; came = e.came; stands = e.stands })

  first-leaves : (now : List Bool) (at : Instant) → Leaves now at no_wish (begun f i.args)
  first-leaves now at =
      let z = acts-first now at (reads i.args now) (reads-fit i.args now) in
      record {
        done = z.0;
        runs = z.1;
        told = z.2.outcomes past-asserts;
        wished = z.2.wish ∙ ap (with_rows (reads i.args now) (reads i.args now) i.args at no_wish) past-drives;
        after = λ v fit. let c = acts-first now at v fit in waits-so now v at no_wish [] c.0 z.0 (same_Some c.0 z.0 (sym c.1 ∙ z.1)) c.2;
      }

  -- what the drives of the second region give
  abbrev second-wish : (past now : List Bool) → Instant → Wish
  second-wish past now at = with_rows (reads i.args past) (reads i.args now) i.args at no_wish second.course.rows.drives

  module _ (past now : List Bool) (at : Instant) (flat : ProcessState) (after : (v : Valuation) → IsFitting v → WaitsAfter f t (reads i.args past) v i.args p.rows flat) where
    acts-second : (v : Valuation) → IsFitting v
        → SecondEnds functions name t i.args formed s.walk.plain pads (reads i.args past) (reads i.args now) second.course.rows (reads i.args now) v p.rows now at bound flat
    acts-second v fit =
        second-acts functions name t i.args formed s.walk.plain pads (reads i.args past) (reads-fit i.args past) p before all.target past-targets second.course second.is now at bound
        (two-regions max_steps (length (lines_at t.blocks 0)) bound enough) flat (after (reads i.args now) (reads-fit i.args now))
        past_of past-typed (reads i.args now) v (reads-fit i.args now) fit (λ q. refl) p before

    then-first : (done : Activated) (v : Valuation) → EndsAs f t (reads i.args past) (reads i.args now) i.args at no_wish [] second.course.rows done
        ⊎ ThenFirst f t (reads i.args past) (reads i.args now) second.course.rows (reads i.args now) v p.rows i.args at done →
        ThenFirst f t (reads i.args past) (reads i.args now) second.course.rows (reads i.args now) v p.rows i.args at done
    then-first done v (inr z) = z
    then-first done v (inl z) =
        let halts : list_any ends_halted second.course.rows.ends ≡ false = not-second (λ (c : Rows). list_any ends_halted c.ends) s.regions second.course.rows second.rows s.none.halts in
        let waits : list_any (λ (e : RegionEnd). is_wait e.way) second.course.rows.ends
        ≡ false = sym (ap (λ o. list_any (λ (e : RegionEnd). is_wait e.way) (option_map_or (λ (c : Rows). c.ends) o [])) second.rows) ∙ s.none.twice in
        absurd (not-left t.blocks i.args z.end.way z.end.from done.state.stand (none-of ends_halted second.course.rows.ends z.end halts z.came.among)
        (none-of (λ (e : RegionEnd). is_wait e.way) second.course.rows.ends z.end waits z.came.among) z.stands)

    second-leaves : Leaves now at (second-wish past now at) flat
    second-leaves =
        let v0 = reads i.args now in
        let z = acts-second v0 (reads-fit i.args now) in
        let y = then-first z.0 v0 z.2 in
        record {
          done = z.0;
          runs = z.1;
          told = y.ends.outcomes past-asserts ∙ y.outcomes second-asserts;
          wished = y.ends.wish ∙ ap (with_rows v0 v0 i.args at (second-wish past now at)) past-drives;
          after = λ v fit.
              let c = acts-second v fit in
              let e = then-first c.0 v c.2 in
              waits-so now v at (second-wish past now at) e.told c.0 z.0 (same_Some c.0 z.0 (sym c.1 ∙ z.1)) e.ends;
        }

  -- ---- the process

  edge-first : (now : List Bool) (at : Instant) → EndsAt (Stays now) to on no_wish (activate bound (seen functions now at) x (fresh x i))
  edge-first now at = ends-at (begun x i.args) (begun f i.args) k.begins now at no_wish (first-leaves now at)

  edge-later : (past now : List Bool) (at : Instant) (block : List ℕ) (e : Env) (parts : List Range) → Stays past block e
      → EndsAt (Stays now) to on (second-wish past now at) (activate bound (seen functions now at) x (waiting_at block to parts e))
  edge-later past now at block e parts h =
      subst (EndsAt (Stays now) to on (second-wish past now at)) (waits-alike bound (seen functions now at) x block to h.parts parts None None e)
      (ends-at (waiting_at block to h.parts e) h.flat h.last now at (second-wish past now at) (second-leaves past now at h.flat h.after))

  abbrev pub ws : List Part
  ws = parts_waited s.regions.first.ends

  abbrev pub ds : List Drive
  ds = second_drives s.regions

  abbrev pub parts_triggering : List Part
  parts_triggering = flat_map row_parts rs

  triggers-waited : IsWithin (bits_of i.args parts_triggering) on
  triggers-waited =
      let c : Each (λ q. covers ws q ≡ true) parts_triggering = subst (λ z. Each (λ q. covers ws q ≡ true) (flat_map row_parts z)) s.rows (triggers-covered ws ds) in
      subst (λ (z : Rows). IsWithin (bits_of i.args parts_triggering) (bits_of i.args (parts_waited z.ends))) (sym s.walk.rows) (covered-bits i.args ws parts_triggering c)

  -- ---- the drives of the second region

  drives-typed : SecondRowsAreTyped → Each DriveTyped ds
  drives-typed typed =
      subst (Each DriveTyped) (sym second-is)
      (typed name t formed s.walk.plain s.walk.course s.walk.first all.target (all.one not-head) second.course second.is).0

  drives-are : (source : Source) (es : List Drive) → Each DriveTyped es → Each (RowIsGiven source) (map (edge_row ws) es) → list_any (λ (d : Drive). not (is_edge_shown ws d.cond)) es ≡ false
      → list_any (λ (d : Drive). contains_past d.value) es ≡ false → list_any (λ (d : Drive). not (is_constant d.delay)) es ≡ false → Each (EdgeDrive source ws) es
  drives-are source [] h g a b c = tt
  drives-are source (d ∷ es) h g a b c = (
    record {
      typed = h.0;
      shown = not-false (is_edge_shown ws d.cond) (or_false_left (not (is_edge_shown ws d.cond)) (list_any (λ (d : Drive). not (is_edge_shown ws d.cond)) es) a);
      value = or_false_left (contains_past d.value) (list_any (λ (d : Drive). contains_past d.value) es) b;
      delay = not-false (is_constant d.delay) (or_false_left (not (is_constant d.delay)) (list_any (λ (d : Drive). not (is_constant d.delay)) es) c);
      triggers = g.0.triggers;
    },
    drives-are source es h.1 g.1 (or_false_right (not (is_edge_shown ws d.cond)) (list_any (λ (d : Drive). not (is_edge_shown ws d.cond)) es) a)
        (or_false_right (contains_past d.value) (list_any (λ (d : Drive). contains_past d.value) es) b)
        (or_false_right (not (is_constant d.delay)) (list_any (λ (d : Drive). not (is_constant d.delay)) es) c),
  )

  pub edge-drives : SecondRowsAreTyped → (source : Source) → Each (RowIsGiven source) rs → Each (EdgeDrive source ws) ds
  edge-drives typed source given =
      drives-are source ds (drives-typed typed) (subst (Each (RowIsGiven source)) (sym s.rows) given) s.none.edges s.none.past
      (ap (list_any (λ (d : Drive). not (is_constant d.delay))) second-is
      ∙ not-second (λ (z : Rows). list_any (λ (d : Drive). not (is_constant d.delay)) z.drives) s.regions second.course.rows second.rows s.none.delays)

  -- ---- the entity

  module _ (laws : SwapsKeepMeaning) (source : Source) (zeros : ZerosAreMissing) (zero-reads : ZerosReadAlike) (drives : Each (EdgeDrive source ws) ds) (does : DoesEdge rs y i.args) where
    -- the bits of the parts by which the registers drive
    abbrev triggers : List ℕ
    triggers = bits_of i.args does.parts

    some-waited : IsWithin triggers on
    some-waited k h = triggers-waited k (there-bits i.args parts_triggering does.parts does.among k h)

    triggers-probed : IsWithin triggers (sensed y i)
    triggers-probed = subst (IsWithin triggers) (sym (ap (λ z. bit_numbers (probes y i.args z)) sigs)) does.senses

    -- the entity remembers what it saw at a run at which the triggers' bits were these
    record Remembers (bits memory : List Bool) : Type 0 where
      then : List Bool
      same : bits_read then triggers ≡ bits
      is : memory ≡ does.seen_at then

    keeps : (now : List Bool) (at : Instant) (memory : Option (List Bool)) → Remembers (bits_read now triggers) (pass y i.args i.sigs now memory at).seen
    keeps now at memory = record { then = now; same = refl; is = ap (λ z. (pass y i.args z now memory at).seen) sigs ∙ does.seen now memory at }

    registers-give : (past now : List Bool) (at : Instant) → registers_wish (reads i.args past) (reads i.args now) i.args at rs ≡ second-wish past now at
    registers-give past now at =
        ap (registers_wish (reads i.args past) (reads i.args now) i.args at) (sym s.rows)
        ∙ registers-drive (reads i.args past) (reads i.args now) (reads-fit i.args past) (reads-fit i.args now) laws source ws i.args at no_wish ds drives
        ∙ ap (with_rows (reads i.args past) (reads i.args now) i.args at no_wish) second-is

    pass-gives : (past now memory : List Bool) (at : Instant) → Remembers (bits_read past triggers) memory → (pass y i.args i.sigs now (Some memory) at).wish ≡ second-wish past now at
    pass-gives past now memory at m =
        ap (λ z. (pass y i.args z now (Some memory) at).wish) sigs
        ∙ ap (λ z. (pass y i.args [] now (Some z) at).wish) m.is
        ∙ does.later m.then now at
        ∙ does.alike m.then past now at (parts-same zeros zero-reads i.args m.then past does.parts (read-same m.then past triggers m.same))
        ∙ registers-give past now at

    at-rest : (past now : List Bool) (at : Instant) → list_any (bit_differs past now) triggers ≡ false → second-wish past now at ≡ no_wish
    at-rest past now at e =
        sym (registers-give past now at)
        ∙ does.rests past now at (parts-same zeros zero-reads i.args past now does.parts (λ a h. not_differ past now a (none_of (bit_differs past now) triggers e a h)))

    pub edge-for : EdgeFor (record { bound = bound; functions = functions }) x y i
    edge-for = record {
      is_process = xk;
      is_entity = yk;
      to = to;
      on = on;
      triggers = triggers;
      rows = second-wish;
      stands = Stays;
      remembers = Remembers;
      first = edge-first;
      later = edge-later;
      waited = some-waited;
      probed = triggers-probed;
      rows_rest = at-rest;
      keeps = keeps;
      first_rests = λ now at. ap (λ z. (pass y i.args z now None at).wish) sigs ∙ does.first now at;
      fires = λ past now memory at m e. pass-gives past now memory at m;
      rests = λ past now memory at m e. pass-gives past now memory at m ∙ at-rest past now at e;
    }
