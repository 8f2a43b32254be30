-- What is built of a design, and what is to be visited, is of processes and entities, and the ranges of each fit its unit.
use Rattle.std.proofs.Common.{◌≡◌, ℕ, zero, suc, ◌+◌, ◌<◌, ◌≤◌, List, [], ◌∷◌, length, map, Bool, true, false, None, IsSome, Ok, refl, ap, sym, ◌∙◌, subst, arith}
use Rattle.lh_types.specs.Types.{bit_count}
use Rattle.lh_types.specs.declared.part.Range.{Range}
use Rattle.lh_unit.specs.declared.inst.UnitId.{UnitId}
use Rattle.lh_unit.specs.Contents.{ArgText, UnitText}
use Rattle.lh_unit.specs.Named.{is_function}
use Rattle.lh_unit.specs.Naming.{kind_text}
use Rattle.lh_unit.specs.Arena.{Arena, IsArena, contents, unit_count, kind_at, args_at, naming, unit_name_at, unit_text_at}
use Rattle.lh_unit.specs.Hierarchy.{SignalText, lines_of, zeros, Entry}
use Rattle.lh_unit.specs.Design as text
use Rattle.lh_unit.specs.Design.{signal_ranges, top_signals, carried_type}
use Rattle.lh_unit.specs.WellFormed.{IsWellFormed}
use Rattle.lh_unit.specs.Within.{Each}
use Rattle.lh_unit.proofs.Lists.{Each-append, Each-of-map}
use Rattle.lh_design.specs.declared.Design.{Design}
use Rattle.lh_design.specs.Texts.{design_text}
use Rattle.lh_eval_laws.specs.Ranges.{RangesFit, arg_types, signal_types, InstanceFits}
use Rattle.lh_eval_laws.specs.Units.{IsPort}
use Rattle.lh_verify_laws.proofs.EachItem.{each-split}
use Rattle.lh_trace_laws.proofs.PathsLaw.{designs_have_parents_before}
use Rattle.lh_elab_plan.specs.declared.plan.PlanChild.{PlanChild}
use Rattle.lh_elab_plan.specs.declared.plan.Plan.{Plan}
use Rattle.lh_elab.specs.declared.build.Building.{Building}
use Rattle.lh_elab.specs.declared.build.Pending.{Pending}
use Rattle.lh_elab_plan.specs.Plans.{signal_of, child_of, low_at, AreWide, AreRangesOf, IsPlan}
use Rattle.lh_elab.specs.Builds.{room_of, kid, kids, kids_in, IsStarted, Visits}
use Rattle.lh_elab.specs.Answer.{InstanceIs, IsDesignOf}
use Rattle.lh_elab.specs.Refusals.{refusal_at}
use Rattle.lh_elab.specs.Elaborates.{Elaborates}
use Rattle.lh_elab.proofs.ElaborationEnds.{Ends}
use Rattle.lh_elab.proofs.SignalNumbers.{room-cons}
use Rattle.lh_elab.proofs.Ports.{IsInstantiable, no-function, ChildFits, all-children-fit, types-read}
use Rattle.lh_elab.proofs.RefusalLaws.{refuses-function}
use Rattle.lh_elab.proofs.Underway.{Underway, ReadsAll, Popped, PendingFits, next-fits, has-room, ranges-wide}
use Rattle.lh_elab.proofs.Walks.{ranges-read}

-- an instance that is to be visited
pub record PendingIs (a : Arena) (width : ℕ) (p : Pending) : Type 0 where
  pub kind : IsInstantiable (kind_at a p.unit.0)
  pub fits : RangesFit width p.args (arg_types (unit_text_at a p.unit.0).args)

pub record Connected (a : Arena) (b : Building) : Type 0 where
  pub instances : Each (InstanceIs a (length b.init)) b.instances.items
  pub pending : Each (PendingIs a (length b.init)) b.pending.items

-- signals one after the other have their types' widths
signals-fit : (w lo : ℕ) (ss : List SignalText) → lo + room_of ss ≤ w → RangesFit w (signal_ranges lo ss) (map (λ (s : SignalText). s.ty) ss)
signals-fit w lo [] h = tt
signals-fit w lo (s ∷ ss) h = let e = room-cons s ss in (refl, omega (arith, e, h), signals-fit w (lo + bit_count s.ty) ss (omega (arith, e, h)))

-- so do the top's own arguments
top-fit : (w lo : ℕ) (xs : List ArgText) → Each IsPort xs → lo + room_of (top_signals xs) ≤ w → RangesFit w (signal_ranges lo (top_signals xs)) (arg_types xs)
top-fit w lo [] p h = tt
top-fit w lo (x ∷ xs) p h =
    let s : SignalText = record { name = x.name; ty = carried_type x.ty; initial = zeros (carried_type x.ty) } in
    let e = room-cons s (top_signals xs) in
    let c : bit_count (carried_type x.ty) ≡ bit_count x.ty = ap (λ t. bit_count (carried_type t)) p.0.1 ∙ sym (ap bit_count p.0.1) in
    (c, omega (arith, e, h), top-fit w (lo + bit_count (carried_type x.ty)) xs p.1 (omega (arith, e, h)))

-- a top that is not refused is of a process or an entity
top-kind : (a : Arena) (top : ℕ) → IsSome (kind_at a top) → refusal_at a top ≡ None → IsInstantiable (kind_at a top)
top-kind a top s e = by (is_function (kind_text (kind_at a top))) refl
  where
    by : (b : Bool) → is_function (kind_text (kind_at a top)) ≡ b → IsInstantiable (kind_at a top)
    by true q = let z = refuses-function a top (sym q) in absurd cc
    by false q = no-function (kind_at a top) s q

pub starts-connected : (a : Arena) (top : UnitId) (bits : ℕ) (b : Building) → IsSome (kind_at a top.0) → refusal_at a top.0 ≡ None → Each IsPort (unit_text_at a top.0).args
    → room_of (top_signals (unit_text_at a top.0).args) ≤ bits → IsStarted a top bits b → Connected a b
starts-connected a top bits b there e ports room s =
    let xs = (unit_text_at a top.0).args in
    record {
      instances = subst (Each (InstanceIs a (length b.init))) (sym s.instances) tt;
      pending = subst (Each (PendingIs a (length b.init))) (sym s.pending) (record { kind = top-kind a top.0 there e; fits = top-fit (length b.init) 0 xs ports (omega (arith, room, s.long)) }, tt);
    }

module _ (a : Arena) (o : IsArena a) (g : IsWellFormed (contents a)) (w : ℕ) (n : ℕ) (args sigs : List Range) where
  kid-is : (k : ℕ) (c : PlanChild) → c.unit.0 < unit_count a → ChildFits a o g w (child_of a args sigs c) → PendingIs a w (kid a n k args sigs c)
  kid-is k c l f =
      let z = f c.unit.0 l refl in
      record {
        kind = z.0;
        fits = subst (λ rs. RangesFit w rs (arg_types (unit_text_at a c.unit.0).args)) (ranges-read (naming a c.unit.0) (args_at a c.unit.0) (map (low_at args sigs) c.lows.items))
            z.1;
      }

  kids-are : (k : ℕ) (cs : List PlanChild) → Each (λ (c : PlanChild). c.unit.0 < unit_count a) cs → Each (λ (c : PlanChild). ChildFits a o g w (child_of a args sigs c)) cs
      → Each (PendingIs a w) (kids a n k args sigs cs)
  kids-are k [] l f = tt
  kids-are k (c ∷ cs) l f = Each-append (PendingIs a w) (kids a n k args sigs cs) (kid a n k args sigs c ∷ []) (kids-are k cs l.1 f.1) (kid-is k c l.0 f.0, tt)

  all-are : (k : ℕ) (cs : List PlanChild) → Each (λ (c : PlanChild). c.unit.0 < unit_count a) cs → Each (λ (c : PlanChild). ChildFits a o g w (child_of a args sigs c)) cs
      → Each (PendingIs a w) (kids_in a n k args sigs cs)
  all-are zero cs l f = tt
  all-are (suc k) cs l f = kids-are k cs l f

module _ (a : Arena) (o : IsArena a) (g : IsWellFormed (contents a)) (table : List Entry) (to : text.Design) (reads : ReadsAll a table) (old mid : Building) (next : Pending)
    (w : Underway a table to old) (q : Popped old mid next) (p : Plan) (k : IsPlan a next.unit.0 p) (new : Building) (v : Visits a mid new next p) where
  abbrev width : ℕ
  width = length new.init

  same-width : length old.init ≡ width
  same-width = sym (v.signals.long ∙ ap length q.init)

  abbrev here : UnitText
  here = unit_text_at a next.unit.0

  abbrev ss : List SignalText
  ss = map signal_of p.signals.items

  abbrev sigs : List Range
  sigs = signal_ranges mid.lo ss

  fits-here : PendingFits a next
  fits-here = next-fits a table to reads old mid next w q

  types : IsInstantiable (kind_at a next.unit.0) → map (λ (s : SignalText). s.ty) ss ≡ signal_types (lines_of here.blocks)
  types i = ap (map (λ (s : SignalText). s.ty)) k.signals ∙ types-read a o g next.unit.0 fits-here.unit i

  instance-fits : PendingIs a width next → InstanceFits here next.args sigs width
  instance-fits x = record {
    of_args = x.fits;
    of_signals = subst (RangesFit width sigs) (types x.kind) (signals-fit width mid.lo ss (let r = has-room a table to reads old mid next w q p k in omega (arith, r, v.signals.long)));
  }

  kids-fit : PendingIs a width next → Each (PendingIs a width) (kids_in a (length mid.instances.items) next.room next.args sigs p.children.items)
  kids-fit x =
      let wide : AreRangesOf here next.args sigs = record { of_args = fits-here.wide; of_signals = subst (AreWide sigs) (ap (map (λ (s : SignalText). s.ty)) k.signals) (ranges-wide mid.lo ss) } in
      let all : Each (ChildFits a o g width) (map (child_of a next.args sigs) p.children.items) =
      subst (Each (ChildFits a o g width)) (sym (k.children next.args sigs wide)) (all-children-fit a o g next.unit.0 fits-here.unit x.kind next.args sigs width (instance-fits x)) in
      all-are a o g width (length mid.instances.items) next.args sigs next.room p.children.items k.within (Each-of-map (ChildFits a o g width) (child_of a next.args sigs) p.children.items all)

  -- one more instance
  pub still-connected : Connected a old → Connected a new
  still-connected c =
      let before : Each (InstanceIs a width) mid.instances.items = subst (Each (InstanceIs a width)) (sym q.instances)
      (subst (λ (n : ℕ). Each (InstanceIs a n) old.instances.items) same-width c.instances) in
      let all : Each (PendingIs a width) mid.pending.items × Each (PendingIs a width) (next ∷ []) =
      each-split (PendingIs a width) mid.pending.items (next ∷ []) (subst (Each (PendingIs a width)) q.pending (subst (λ (n : ℕ). Each (PendingIs a n) old.pending.items) same-width c.pending)) in
      let x : PendingIs a width next = all.1.0 in
      record {
        instances = subst (Each (InstanceIs a width)) (sym v.instances)
            (Each-append (InstanceIs a width) mid.instances.items _ before (record { unit = fits-here.unit; kind = x.kind; fits = instance-fits x }, tt));
        pending = subst (Each (PendingIs a width)) (sym v.pending) (Each-append (PendingIs a width) mid.pending.items _ all.0 (kids-fit x));
      }

-- what is built in the end
pub answers : (a : Arena) (top : ℕ) → IsArena a → IsWellFormed (contents a) → (b : Building) (d : Design) → Ends a top b d → Elaborates a top (Ok d) → Connected a b
    → d.instances.items ≡ b.instances.items → d.init ≡ b.init → IsDesignOf a d
answers a top o g b d z e c i s = record {
  arena = o;
  formed = g;
  top = unit_name_at a top;
  built = e;
  few = z.few;
  fill = z.fill;
  fits = subst (Each (InstanceIs a (length d.init))) (sym i) (subst (λ (n : ℕ). Each (InstanceIs a n) b.instances.items) (sym (ap length s)) c.instances);
  parents = designs_have_parents_before (contents a) (unit_name_at a top) (design_text a d) e;
}
