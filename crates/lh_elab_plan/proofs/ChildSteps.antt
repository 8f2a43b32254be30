-- Where the parts lie that operands name, and the `inst` of an entity.
use Rattle.std.proofs.Common.{◌≡◌, ℕ, ◌+◌, ◌<◌, ◌≤◌, List, [], ◌∷◌, ◌++◌, length, map, drop, get_or, Option, Some, None, refl, ap, sym, ◌∙◌, subst, arith}
use Rattle.std.specs.Option.{option_map, option_map_or, option_and_then}
use Rattle.std.proofs.lemmas.List.{map-append, append-nil, append_assoc, drop_more, drop_all}
use Rattle.lh_types.specs.declared.part.Range.{Range}
use Rattle.lh_unit.specs.Contents.{InstText, sig_text, child_text, LineText}
use Rattle.lh_unit.specs.Held.{Env, as_part, part_at}
use Rattle.lh_unit.specs.Hierarchy.{Child, lows_of, child_if, children_of, signal_if, signals_of, SignalText}
use Rattle.lh_unit.specs.Naming.{inst_text, operand_text, value_text}
use Rattle.lh_unit.specs.Arena.{Arena, InstPlaced, naming, unit_count, unit_name_at}
use Rattle.lh_unit.specs.Within.{Each}
use Rattle.lh_unit.specs.declared.inst.UnitId.{UnitId}
use Rattle.lh_unit.specs.declared.inst.InstId.{InstId}
use Rattle.lh_unit.specs.declared.inst.ValueId.{ValueId}
use Rattle.lh_unit.specs.declared.inst.Typed.{Typed}
use Rattle.lh_unit.specs.declared.inst.Inst.{Inst}
use Rattle.lh_unit.specs.declared.inst.Inst.TheVariants as inst
use Rattle.lh_unit.proofs.Lists.{Each-append}
use Rattle.lh_eval.specs.Holding.{part_in}
use Rattle.lh_eval.proofs.HeldByIds.{same-held}
use Rattle.lh_elab_plan.specs.declared.statics.Base.{Base}
use Rattle.lh_elab_plan.specs.declared.statics.Base.TheVariants as base
use Rattle.lh_elab_plan.specs.declared.statics.Statics.{Statics}
use Rattle.lh_elab_plan.specs.declared.plan.PlanChild.{PlanChild}
use Rattle.lh_elab_plan.specs.Statics.{by_of, base_lo, moved_slots, StaticsFollow}
use Rattle.lh_elab_plan.specs.Plans.{low_by, lows_by, low_at, child_of, LowSmall, ChildSmall, PartsSmall, ChildLine, ChildWithin}
use Rattle.lh_elab_plan.proofs.MovedParts.{shifted, length-moved, slot-moved, part-moved}

module _ (args sigs : List Range) (a : Arena) (u : ℕ) (s : Statics) (e : Env) (f : StaticsFollow a u args sigs (by_of s) e) where
  low-of-part : (b : Base) (p : Option Range) → low_at args sigs (option_map (λ (r : Range). record { base = b; offset = r.lo }) p)
      ≡ option_map_or (λ (r : Range). r.lo) (option_map (shifted (base_lo args sigs b)) p) 0
  low-of-part b None = refl
  low-of-part b (Some r) = refl

  low-read : (v : ValueId) → v.0 < length s.slots → low_at args sigs (low_by s v) ≡ option_map_or (λ (r : Range). r.lo) (part_at e (value_text (naming a u) v)) 0
  low-read v w =
      let n = length-moved args sigs s.bases.items s.slots f.long in
      let b = get_or s.bases.items v.0 (base.Arg 0) in
      let w' : v.0 < length (moved_slots args sigs s.bases.items s.slots) = omega (arith, n, w) in
      let p : part_at e (value_text (naming a u) v) ≡ option_map (shifted (base_lo args sigs b)) (part_in s.slots v) =
      sym ((same-held a u (moved_slots args sigs s.bases.items s.slots) e f.holds).part v w') ∙ ap (option_and_then as_part) (slot-moved args sigs s.bases.items s.slots v.0 f.long)
      ∙ part-moved args sigs b (get_or s.slots v.0 None) in
      low-of-part b (part_in s.slots v) ∙ ap (λ x. option_map_or (λ (r : Range). r.lo) x 0) (sym p)

  pub lows-read : (os : List Typed) → Each (λ (o : Typed). o.value.0 < length s.slots) os → map (low_at args sigs) (lows_by s os) ≡ lows_of e (map (operand_text (naming a u)) os)
  lows-read [] w = refl
  lows-read (o ∷ os) w = let p = low-read o.value w.0 in let q = lows-read os w.1 in λ i. p i ∷ q i

  -- an `inst`
  pub child-read : (c : PlanChild) (i : Inst) (v : UnitId) (inputs outputs xs ys : List Typed) → i ≡ inst.Child v inputs outputs → xs ≡ inputs → ys ≡ outputs → ChildLine (length s.slots) i
      → c.unit ≡ v → c.lows.items ≡ lows_by s (xs ++ ys)
      → child_of a args sigs c ∷ [] ≡ child_if e (inst_text (naming a u) i) []
  child-read c i v inputs outputs xs ys g x y w p q =
      let w' = subst (ChildLine (length s.slots)) g w in
      let all : Each (λ (o : Typed). o.value.0 < length s.slots) (inputs ++ outputs) = Each-append (λ (o : Typed). o.value.0 < length s.slots) inputs outputs w'.0 w'.1 in
      let lows : map (low_at args sigs) c.lows.items ≡ lows_of e (map (operand_text (naming a u)) inputs ++ map (operand_text (naming a u)) outputs) =
      ap (map (low_at args sigs)) (q ∙ (λ j. lows_by s (x j ++ y j))) ∙ lows-read (inputs ++ outputs) all ∙ ap (lows_of e) (map-append (operand_text (naming a u)) inputs outputs) in
      let z : Child = record { unit = unit_name_at a v.0; lows = lows_of e (map (operand_text (naming a u)) inputs ++ map (operand_text (naming a u)) outputs) } in
      (λ j. let k : Child = record { unit = unit_name_at a (p j).0; lows = lows j } in k ∷ []) ∙ sym (ap (λ k. child_if e (inst_text (naming a u) k) []) g)

-- its parts begin low
low-small : (s : Statics) → PartsSmall s → (v : ValueId) → v.0 < length s.slots → LowSmall (low_by s v)
low-small s k v w = by (part_in s.slots v) refl
  where
    by : (p : Option Range) → part_in s.slots v ≡ p → LowSmall (option_map (λ (r : Range). record { base = get_or s.bases.items v.0 (base.Arg 0); offset = r.lo }) p)
    by None e = tt
    by (Some r) e = k v r w e

lows-small : (s : Statics) → PartsSmall s → (os : List Typed) → Each (λ (o : Typed). o.value.0 < length s.slots) os → Each LowSmall (lows_by s os)
lows-small s k [] w = tt
lows-small s k (o ∷ os) w = (low-small s k o.value w.0, lows-small s k os w.1)

pub child-small : (s : Statics) → PartsSmall s → (c : PlanChild) (i : Inst) (v : UnitId) (inputs outputs xs ys : List Typed) → i ≡ inst.Child v inputs outputs → xs ≡ inputs → ys ≡ outputs
    → ChildLine (length s.slots) i → c.lows.items ≡ lows_by s (xs ++ ys) → ChildSmall c
child-small s k c i v inputs outputs xs ys g x y w q =
    let w' = subst (ChildLine (length s.slots)) g w in
    subst (Each LowSmall) (sym (q ∙ (λ j. lows_by s (x j ++ y j)))) (lows-small s k (inputs ++ outputs) (Each-append (λ (o : Typed). o.value.0 < length s.slots) inputs outputs w'.0 w'.1))

-- the next line, and those before it
child-front : (e : Env) (i : InstText) (more : List Child) → child_if e i [] ++ more ≡ child_if e i more
child-front e (child_text v inputs outputs) more = refl
child-front e _ more = refl

signal-front : (e : Env) (i : InstText) (r : Option (List ℕ)) (more : List SignalText) → signal_if e i r [] ++ more ≡ signal_if e i r more
signal-front e (sig_text x) r more = refl
signal-front e _ r more = refl

pub more-children : (e : Env) (f : InstId → LineText) (is : List InstId) (k : ℕ) (d : InstId) (cur new all : List Child) → k < length is → new ≡ cur ++ child_if e (f (get_or is k d)).inst []
    → cur ++ children_of e (map f (drop k is)) ≡ all → new ++ children_of e (map f (drop (k + 1) is)) ≡ all
more-children e f is k d cur new all h p q =
    ap (λ l. l ++ children_of e (map f (drop (k + 1) is))) p
    ∙ append_assoc cur (child_if e (f (get_or is k d)).inst []) (children_of e (map f (drop (k + 1) is)))
    ∙ ap (λ l. cur ++ l) (child-front e (f (get_or is k d)).inst (children_of e (map f (drop (k + 1) is))))
    ∙ ap (λ l. cur ++ children_of e (map f l)) (sym (drop_more is k d h))
    ∙ q

pub more-signals : (e : Env) (f : InstId → LineText) (is : List InstId) (k : ℕ) (d : InstId) (cur new all : List SignalText) → k < length is
    → new ≡ cur ++ signal_if e (f (get_or is k d)).inst (f (get_or is k d)).result [] → cur ++ signals_of e (map f (drop k is)) ≡ all → new ++ signals_of e (map f (drop (k + 1) is)) ≡ all
more-signals e f is k d cur new all h p q =
    ap (λ l. l ++ signals_of e (map f (drop (k + 1) is))) p
    ∙ append_assoc cur (signal_if e (f (get_or is k d)).inst (f (get_or is k d)).result []) (signals_of e (map f (drop (k + 1) is)))
    ∙ ap (λ l. cur ++ l) (signal-front e (f (get_or is k d)).inst (f (get_or is k d)).result (signals_of e (map f (drop (k + 1) is))))
    ∙ ap (λ l. cur ++ signals_of e (map f l)) (sym (drop_more is k d h))
    ∙ q

pub all-children : (e : Env) (f : InstId → LineText) (is : List InstId) (k : ℕ) (cur all : List Child) → length is ≤ k → cur ++ children_of e (map f (drop k is)) ≡ all → cur ≡ all
all-children e f is k cur all h q = sym (append-nil cur) ∙ ap (λ l. cur ++ children_of e (map f l)) (sym (drop_all k is h)) ∙ q

pub all-signals : (e : Env) (f : InstId → LineText) (is : List InstId) (k : ℕ) (cur all : List SignalText) → length is ≤ k → cur ++ signals_of e (map f (drop k is)) ≡ all → cur ≡ all
all-signals e f is k cur all h q = sym (append-nil cur) ∙ ap (λ l. cur ++ signals_of e (map f l)) (sym (drop_all k is h)) ∙ q

pub placed-child : (a : Arena) (u : ℕ) (i : Inst) → InstPlaced a u i → ChildWithin (unit_count a) i
placed-child a u (inst.Child v inputs outputs) p = p.0
placed-child a u _ p = tt
