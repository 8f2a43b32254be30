-- A design that is being built: what is built and what is still to be visited make the design of the definition.
use Rattle.std.proofs.Common.{◌≡◌, ℕ, zero, suc, ◌+◌, ◌*◌, ◌<◌, ◌≤◌, List, [], ◌∷◌, ◌++◌, length, map, take, get_or, sum_by, Option, Some, None, refl, ap, sym, ◌∙◌, subst, arith}
use Rattle.std.proofs.lemmas.List.{length-append, map-append, length-map}
use Rattle.lh_types.specs.Types.{IsData, bit_count}
use Rattle.lh_types.specs.declared.part.Range.{Range}
use Rattle.lh_unit_names.specs.declared.name.UnitName.{UnitName}
use Rattle.lh_unit.specs.declared.inst.Arg.{Arg}
use Rattle.lh_unit.specs.Naming.{Naming, arg_text}
use Rattle.lh_unit.specs.Arena.{Arena, unit_count, args_at, naming, unit_name_at, unit_text_at}
use Rattle.lh_unit.specs.Hierarchy.{SignalText, Child, Hierarchy, hierarchy_of, Entry}
use Rattle.lh_unit.specs.Design as design
use Rattle.lh_unit.specs.Design.{Design, hierarchy_in, hierarchy_or, targets, numbered, initial_bits, signal_ranges, top_signals, carried_type, only_signals, with_instance, visit, visit_all, visited, design_of, instance_count, bits_below, max_nesting, max_instances, max_bits}
use Rattle.lh_unit.specs.Within.{Each}
use Rattle.lh_eval_laws.specs.Ranges.{arg_types}
use Rattle.lh_verify_laws.proofs.EachItem.{each-split}
use Rattle.lh_unit.proofs.Lists.{Each-append}
use Rattle.lh_elab_plan.specs.declared.plan.PlanSignal.{PlanSignal}
use Rattle.lh_elab_plan.specs.declared.plan.PlanChild.{PlanChild}
use Rattle.lh_elab_plan.specs.declared.plan.Plan.{Plan}
use Rattle.lh_elab_plan.specs.declared.plan.Low.{Low}
use Rattle.lh_elab_plan.specs.declared.statics.Base.{Base}
use Rattle.lh_elab_plan.specs.declared.statics.Base.TheVariants as base
use Rattle.lh_elab.specs.declared.build.Building.{Building}
use Rattle.lh_elab.specs.declared.build.Pending.{Pending}
use Rattle.lh_elab_plan.specs.Statics.{base_lo, no_range}
use Rattle.lh_elab_plan.specs.Plans.{signal_of, child_of, low_at, LowSmall, ChildSmall, SignalFits, AreWide, AreRangesOf, IsPlan}
use Rattle.lh_elab.specs.Builds.{instance_text, signal_text, room_of, ranges_by, kid, kids, kids_in, AreLow, LowsFit, Visits}
use Rattle.lh_elab.specs.Elaborates.{TextsFill}
use Rattle.lh_elab.proofs.Walks.{gone, unwound, unwound-append, ReadsArgs, kids-visited, left, left-append, kids-count}
use Rattle.lh_elab.proofs.SignalNumbers.{room-cons, initial-long}

-- what is built, as the definition has it
pub record StandsForDesign (a : Arena) (b : Building) (d : Design) : Type 0 where
  pub instances : map (instance_text a) b.instances.items ≡ d.instances
  pub signals : map signal_text b.signals.items ≡ d.signals
  pub bits : take b.lo b.init ≡ d.init
  pub lo : b.lo ≡ length d.init

-- what is read of each unit by its name
pub record ReadsUnit (a : Arena) (table : List Entry) (u : ℕ) : Type 0 where
  pub args : (hierarchy_in table (unit_name_at a u)).args ≡ (unit_text_at a u).args
  pub signals : (hierarchy_in table (unit_name_at a u)).signals ≡ (hierarchy_of (unit_text_at a u)).signals
  pub children : (args sigs : List Range) → (hierarchy_in table (unit_name_at a u)).children args sigs ≡ (hierarchy_of (unit_text_at a u)).children args sigs
  pub units : (args sigs : List Range) → map (λ (c : Child). c.unit) ((hierarchy_in table (unit_name_at a u)).children args sigs) ≡ targets (hierarchy_in table (unit_name_at a u))

abbrev pub ReadsAll : Arena → List Entry → Type 0
ReadsAll a table = (u : ℕ) → u < unit_count a → ReadsUnit a table u

-- arguments begin low enough that those of all that nest in the instance have numbers
abbrev pub ArgsLow : (room : ℕ) → List Range → Type 0
ArgsLow k rs = Each (λ (r : Range). r.lo + k * 65536 ≤ 21000000) rs

-- an instance that is to be visited
pub record PendingFits (a : Arena) (p : Pending) : Type 0 where
  pub unit : p.unit.0 < unit_count a
  pub room : p.room ≤ 63
  pub wide : AreWide p.args (arg_types (unit_text_at a p.unit.0).args)
  pub low : ArgsLow p.room p.args

abbrev pub counts : List Entry → ℕ → UnitName → ℕ
counts table k n = instance_count k table n

abbrev pub bits_of : List Entry → ℕ → UnitName → ℕ
bits_of table k n = bits_below k table n

pub record Underway (a : Arena) (table : List Entry) (to : Design) (b : Building) : Type 0 where
  pub built : Design
  pub stands : StandsForDesign a b built
  pub goes : unwound a table b.pending.items built ≡ to
  pub count : length b.instances.items + left a (counts table) b.pending.items ≤ 65536
  pub room : b.lo + left a (bits_of table) b.pending.items ≡ length b.init
  pub few : length b.init ≤ 16777216
  pub fill : TextsFill 0 (map signal_text b.signals.items) b.lo
  pub pending : Each (PendingFits a) b.pending.items

-- the next one is taken from what is pending
pub record Popped (old mid : Building) (next : Pending) : Type 0 where
  pub instances : mid.instances.items ≡ old.instances.items
  pub signals : mid.signals.items ≡ old.signals.items
  pub init : mid.init ≡ old.init
  pub lo : mid.lo ≡ old.lo
  pub pending : old.pending.items ≡ mid.pending.items ++ next ∷ []

-- ranges of signals and of arguments
pub ranges-wide : (lo : ℕ) (ss : List SignalText) → AreWide (signal_ranges lo ss) (map (λ (s : SignalText). s.ty) ss)
ranges-wide lo [] = tt
ranges-wide lo (s ∷ ss) = (refl, ranges-wide (lo + bit_count s.ty) ss)

pub ranges-below : (lo : ℕ) (ss : List SignalText) → Each (λ (r : Range). r.lo ≤ lo + room_of ss) (signal_ranges lo ss)
ranges-below lo [] = tt
ranges-below lo (s ∷ ss) =
    let e = room-cons s ss in
    let f : (lo + bit_count s.ty) + room_of ss ≡ lo + room_of (s ∷ ss) = omega (arith, e) in
    (omega (arith, e), subst (λ (n : ℕ). Each (λ (r : Range). r.lo ≤ n) (signal_ranges (lo + bit_count s.ty) ss)) f (ranges-below (lo + bit_count s.ty) ss))

by-wide : (f : Naming) (xs : List Arg) (lows : List ℕ) → AreWide (ranges_by xs lows) (arg_types (map (arg_text f) xs))
by-wide f [] lows = tt
by-wide f (x ∷ xs) [] = (refl, by-wide f xs [])
by-wide f (x ∷ xs) (lo ∷ lows) = (refl, by-wide f xs lows)

by-low : (k : ℕ) (xs : List Arg) (lows : List ℕ) → k * 65536 ≤ 21000000 → Each (λ lo. lo + k * 65536 ≤ 21000000) lows → ArgsLow k (ranges_by xs lows)
by-low k [] lows z e = tt
by-low k (x ∷ xs) [] z e = (omega arith, by-low k xs [] z tt)
by-low k (x ∷ xs) (lo ∷ lows) z e = (e.0, by-low k xs lows z e.1)

-- the lowest bit of an argument or a `sig`
lo-of : (k : ℕ) (rs : List Range) (i : ℕ) → k * 65536 ≤ 21000000 → ArgsLow k rs → (get_or rs i no_range).lo + k * 65536 ≤ 21000000
lo-of k [] zero z e = omega arith
lo-of k [] (suc i) z e = omega arith
lo-of k (r ∷ rs) zero z e = e.0
lo-of k (r ∷ rs) (suc i) z e = lo-of k rs i z e.1

base-of : (k : ℕ) (args sigs : List Range) (c : Base) → k * 65536 ≤ 21000000 → ArgsLow k args → ArgsLow k sigs → base_lo args sigs c + k * 65536 ≤ 21000000
base-of k args sigs (base.Arg i) z e f = lo-of k args i z e
base-of k args sigs (base.Sig i) z e f = lo-of k sigs i z f

low-of : (k : ℕ) (args sigs : List Range) (l : Option Low) → suc k ≤ 63 → ArgsLow (suc k) args → ArgsLow (suc k) sigs → LowSmall l → low_at args sigs l + k * 65536 ≤ 21000000
low-of k args sigs None h e f s = omega arith
low-of k args sigs (Some l) h e f s = let z : suc k * 65536 ≤ 21000000 = omega arith in let b = base-of (suc k) args sigs l.base z e f in omega (arith, b, s)

lows-of : (k : ℕ) (args sigs : List Range) (ls : List (Option Low)) → suc k ≤ 63 → ArgsLow (suc k) args → ArgsLow (suc k) sigs → Each LowSmall ls
    → Each (λ lo. lo + k * 65536 ≤ 21000000) (map (low_at args sigs) ls)
lows-of k args sigs [] h e f s = tt
lows-of k args sigs (l ∷ ls) h e f s = (low-of k args sigs l h e f s.0, lows-of k args sigs ls h e f s.1)

one-fits : (k : ℕ) (args sigs : List Range) (x : Option Low) → k ≤ 63 → ArgsLow k args → ArgsLow k sigs → LowSmall x → low_at args sigs x < 4294967296
one-fits k args sigs None h e f q = omega arith
one-fits k args sigs (Some x) h e f q = let z : k * 65536 ≤ 21000000 = omega arith in let b = base-of k args sigs x.base z e f in omega (arith, b, q)

lows-fit : (k n : ℕ) (args sigs : List Range) (ls : List (Option Low)) → k ≤ 63 → ArgsLow k args → ArgsLow k sigs → Each LowSmall ls → AreLow n ls args sigs
lows-fit k n args sigs [] h e f s zero l = one-fits k args sigs None h e f tt
lows-fit k n args sigs [] h e f s (suc i) l = one-fits k args sigs None h e f tt
lows-fit k n args sigs (x ∷ ls) h e f s zero l = one-fits k args sigs x h e f s.0
lows-fit k n args sigs (x ∷ ls) h e f s (suc i) l = lows-fit k n args sigs ls h e f s.1 i (omega arith)

pub children-fit : (a : Arena) (k : ℕ) (args sigs : List Range) (cs : List PlanChild) → k ≤ 63 → ArgsLow k args → ArgsLow k sigs → Each ChildSmall cs → Each (LowsFit a args sigs) cs
children-fit a k args sigs [] h e f s = tt
children-fit a k args sigs (c ∷ cs) h e f s = (lows-fit k (length (args_at a c.unit.0)) args sigs c.lows.items h e f s.0, children-fit a k args sigs cs h e f s.1)

kid-fits : (a : Arena) (n k : ℕ) (args sigs : List Range) (c : PlanChild) → c.unit.0 < unit_count a → suc k ≤ 63 → ArgsLow (suc k) args → ArgsLow (suc k) sigs → ChildSmall c
    → PendingFits a (kid a n k args sigs c)
kid-fits a n k args sigs c l h e f s = record {
  unit = l;
  room = omega arith;
  wide = by-wide (naming a c.unit.0) (args_at a c.unit.0) (map (low_at args sigs) c.lows.items);
  low = by-low k (args_at a c.unit.0) (map (low_at args sigs) c.lows.items) (omega arith) (lows-of k args sigs c.lows.items h e f s);
}

kids-fit : (a : Arena) (n k : ℕ) (args sigs : List Range) (cs : List PlanChild) → Each (λ (c : PlanChild). c.unit.0 < unit_count a) cs → suc k ≤ 63 → ArgsLow (suc k) args → ArgsLow (suc k) sigs
    → Each ChildSmall cs → Each (PendingFits a) (kids a n k args sigs cs)
kids-fit a n k args sigs [] l h e f s = tt
kids-fit a n k args sigs (c ∷ cs) l h e f s = Each-append (PendingFits a) (kids a n k args sigs cs) (kid a n k args sigs c ∷ []) (kids-fit a n k args sigs cs l.1 h e f s.1)
    (kid-fits a n k args sigs c l.0 h e f s.0, tt)

all-fit : (a : Arena) (n k : ℕ) (args sigs : List Range) (cs : List PlanChild) → Each (λ (c : PlanChild). c.unit.0 < unit_count a) cs → k ≤ 63 → ArgsLow k args → ArgsLow k sigs → Each ChildSmall cs
    → Each (PendingFits a) (kids_in a n k args sigs cs)
all-fit a n zero args sigs cs l h e f s = tt
all-fit a n (suc k) args sigs cs l h e f s = kids-fit a n k args sigs cs l h e f s

-- signals one after the other
pub fill-append : (lo mid hi : ℕ) (xs ys : List design.Signal) → TextsFill lo xs mid → TextsFill mid ys hi → TextsFill lo (xs ++ ys) hi
fill-append lo mid hi [] ys e f = subst (λ (n : ℕ). TextsFill n ys hi) (sym e) f
fill-append lo mid hi (x ∷ xs) ys e f = (e.0, e.1, fill-append (lo + bit_count x.ty) mid hi xs ys e.2 f)

pub fill-numbered : (i lo : ℕ) (ss : List SignalText) → Each (λ (s : SignalText). IsData s.ty) ss → TextsFill lo (numbered i lo ss) (lo + room_of ss)
fill-numbered i lo [] e = omega arith
fill-numbered i lo (s ∷ ss) e =
    let f = room-cons s ss in
    let g : (lo + bit_count s.ty) + room_of ss ≡ lo + room_of (s ∷ ss) = omega (arith, f) in
    (refl, e.0, subst (TextsFill (lo + bit_count s.ty) (numbered i (lo + bit_count s.ty) ss)) g (fill-numbered i (lo + bit_count s.ty) ss e.1))

signals-data : (ps : List PlanSignal) → Each SignalFits ps → Each (λ (s : SignalText). IsData s.ty) (map signal_of ps)
signals-data [] e = tt
signals-data (p ∷ ps) e = (e.0.0, signals-data ps e.1)

sigs-low : (k bits : ℕ) (rs : List Range) → k ≤ 63 → bits ≤ 16777216 → Each (λ (r : Range). r.lo ≤ bits) rs → ArgsLow k rs
sigs-low k bits [] h b e = tt
sigs-low k bits (r ∷ rs) h b e = (omega (arith, e.0), sigs-low k bits rs h b e.1)

none-counted : (table : List Entry) (n : UnitName) → counts table 0 n ≡ 0
none-counted table n = refl

no-bits : (table : List Entry) (n : UnitName) → bits_of table 0 n ≡ 0
no-bits table n = refl

module _ (a : Arena) (table : List Entry) (to : Design) (reads : ReadsAll a table) where
  reads-args : ReadsArgs a table
  reads-args u l = (reads u l).args

  module _ (old mid : Building) (next : Pending) (w : Underway a table to old) (q : Popped old mid next) where
    all-pending : Each (PendingFits a) mid.pending.items × Each (PendingFits a) (next ∷ [])
    all-pending = each-split (PendingFits a) mid.pending.items (next ∷ []) (subst (Each (PendingFits a)) q.pending w.pending)

    pub next-fits : PendingFits a next
    next-fits = all-pending.1.0

    abbrev pub name : UnitName
    name = unit_name_at a next.unit.0

    abbrev pub h : Hierarchy
    h = hierarchy_in table name

    counted-next : left a (counts table) old.pending.items ≡ left a (counts table) mid.pending.items + ((1 + sum_by (counts table next.room) (targets h)) + 0)
    counted-next = ap (left a (counts table)) q.pending ∙ left-append a (counts table) mid.pending.items (next ∷ [])

    bits-next : left a (bits_of table) old.pending.items ≡ left a (bits_of table) mid.pending.items + ((room_of h.signals + sum_by (bits_of table next.room) (targets h)) + 0)
    bits-next = ap (left a (bits_of table)) q.pending ∙ left-append a (bits_of table) mid.pending.items (next ∷ [])

    -- there is a number for it
    pub few-instances : length mid.instances.items < 65536
    few-instances = let e = ap length q.instances in omega (arith, w.count, counted-next, e)

    module _ (p : Plan) (k : IsPlan a next.unit.0 p) where
      abbrev pub ss : List SignalText
      ss = map signal_of p.signals.items

      same-signals : ss ≡ h.signals
      same-signals = k.signals ∙ sym (reads next.unit.0 next-fits.unit).signals

      -- there is room for its signals
      pub has-room : mid.lo + room_of ss ≤ length mid.init
      has-room =
          let e : room_of ss ≡ room_of h.signals = ap room_of same-signals in
          let f = ap length q.init in
          omega (arith, w.room, bits-next, e, f, q.lo)

      abbrev pub sigs : List Range
      sigs = signal_ranges mid.lo ss

      low-sigs : ArgsLow next.room sigs
      low-sigs =
          let f = ap length q.init in
          let b : mid.lo + room_of ss ≤ 16777216 = omega (arith, has-room, w.few, f) in
          sigs-low next.room (mid.lo + room_of ss) sigs next-fits.room b (ranges-below mid.lo ss)

      -- the lowest bits of the arguments of the instances in it have numbers
      pub children-low : Each (LowsFit a next.args sigs) p.children.items
      children-low = children-fit a next.room next.args sigs p.children.items next-fits.room next-fits.low low-sigs k.small

      module _ (new : Building) (v : Visits a mid new next p) where
        abbrev pub d : Design
        d = w.built

        number : length mid.instances.items ≡ length d.instances
        number = ap length q.instances ∙ sym (length-map old.instances.items (instance_text a)) ∙ ap length w.stands.instances

        low : mid.lo ≡ length d.init
        low = q.lo ∙ w.stands.lo

        abbrev pub e : Design
        e = with_instance next.parent name h next.args d

        are-of : AreRangesOf (unit_text_at a next.unit.0) next.args sigs
        are-of = record { of_args = next-fits.wide; of_signals = subst (AreWide sigs) (ap (map (λ (s : SignalText). s.ty)) k.signals) (ranges-wide mid.lo ss) }

        same-sigs : sigs ≡ signal_ranges (length d.init) h.signals
        same-sigs = λ i. signal_ranges (low i) (same-signals i)

        same-children : map (child_of a next.args sigs) p.children.items ≡ h.children next.args sigs
        same-children = k.children next.args sigs are-of ∙ sym ((reads next.unit.0 next-fits.unit).children next.args sigs)

        stands : StandsForDesign a new e
        stands = record {
          instances =
              ap (map (instance_text a)) v.instances
              ∙ map-append (instance_text a) mid.instances.items _
              ∙ (λ i. (ap (map (instance_text a)) q.instances ∙ w.stands.instances) i ++ record { unit = name; parent = next.parent; args = next.args; sigs = same-sigs i } ∷ []);
          signals = v.signals.signals ∙ (λ i. (ap (map signal_text) q.signals ∙ w.stands.signals) i ++ numbered (number i) (low i) (same-signals i));
          bits = v.signals.bits ∙ (λ i. ((λ j. take (q.lo j) (q.init j)) ∙ w.stands.bits) i ++ initial_bits (same-signals i));
          lo =
              let x = initial-long p.signals.items k.fit in
              let y : length (initial_bits ss) ≡ length (initial_bits h.signals) = ap (λ l. length (initial_bits l)) same-signals in
              let z = length-append d.init (initial_bits h.signals) in
              omega (arith, v.signals.lo, low, x, y, z);
        }

        goes : unwound a table new.pending.items e ≡ to
        goes =
            let n = length mid.instances.items in
            let all = h.children next.args (signal_ranges (length d.init) h.signals) in
            let x : visit_all (visit next.room table n) (map (child_of a next.args sigs) p.children.items) e ≡ gone a table next d =
            (λ i. visit_all (visit next.room table (number i)) ((same-children ∙ ap (h.children next.args) same-sigs) i) e) in
            ap (λ ps. unwound a table ps e) v.pending
            ∙ unwound-append a table mid.pending.items (kids_in a n next.room next.args sigs p.children.items) e
            ∙ ap (unwound a table mid.pending.items) (kids-visited a table reads-args n next.args sigs next.room p.children.items e k.within ∙ x)
            ∙ sym (unwound-append a table mid.pending.items (next ∷ []) d)
            ∙ ap (λ ps. unwound a table ps d) (sym q.pending)
            ∙ w.goes

        -- what is left, of what is counted instance by instance
        left-of : (F : ℕ → UnitName → ℕ) → ((n : UnitName) → F 0 n ≡ 0) → left a F new.pending.items ≡ left a F mid.pending.items + sum_by (F next.room) (targets h)
        left-of F none =
            let n = length mid.instances.items in
            let x : left a F (kids_in a n next.room next.args sigs p.children.items) ≡ sum_by (F next.room) (targets h) =
            kids-count a F none n next.args sigs next.room p.children.items
            ∙ ap (λ cs. sum_by (F next.room) (map (λ (c : Child). c.unit) cs)) same-children
            ∙ ap (sum_by (F next.room)) ((reads next.unit.0 next-fits.unit).units next.args sigs) in
            ap (left a F) v.pending ∙ left-append a F mid.pending.items (kids_in a n next.room next.args sigs p.children.items) ∙ ap (λ m. left a F mid.pending.items + m) x

        more : length new.instances.items ≡ length old.instances.items + 1
        more = ap length v.instances ∙ length-append mid.instances.items _ ∙ ap (λ xs. length xs + 1) q.instances

        -- one less is left
        pub falls : left a (counts table) new.pending.items < left a (counts table) old.pending.items
        falls = omega (arith, counted-next, left-of (counts table) (none-counted table))

        pub goes-on : Underway a table to new
        goes-on = record {
          built = e;
          stands = stands;
          goes = goes;
          count = omega (arith, w.count, counted-next, left-of (counts table) (none-counted table), more);
          room =
              let x : room_of ss ≡ room_of h.signals = ap room_of same-signals in
              let y = ap length q.init in
              omega (arith, w.room, bits-next, left-of (bits_of table) (no-bits table), v.signals.lo, v.signals.long, x, y, q.lo);
          few = let y = ap length q.init in omega (arith, w.few, v.signals.long, y);
          fill =
              let x : TextsFill 0 (map signal_text mid.signals.items) mid.lo = subst (λ (n : ℕ). TextsFill 0 (map signal_text mid.signals.items) n) (sym q.lo)
              (subst (λ xs. TextsFill 0 (map signal_text xs) old.lo) (sym q.signals) w.fill) in
              let y = fill-append 0 mid.lo (mid.lo + room_of ss) (map signal_text mid.signals.items) (numbered (length mid.instances.items) mid.lo ss) x
              (fill-numbered (length mid.instances.items) mid.lo ss (signals-data p.signals.items k.fit)) in
              subst (λ xs. TextsFill 0 xs new.lo) (sym v.signals.signals)
              (subst (TextsFill 0 (map signal_text mid.signals.items ++ numbered (length mid.instances.items) mid.lo ss)) (sym v.signals.lo) y);
          pending = subst (Each (PendingFits a)) (sym v.pending)
              (Each-append (PendingFits a) mid.pending.items _ all-pending.0
              (all-fit a (length mid.instances.items) next.room next.args sigs p.children.items k.within next-fits.room next-fits.low low-sigs k.small));
        }
