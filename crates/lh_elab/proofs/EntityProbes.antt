-- What an entity senses, in each of its instances.
use Rattle.std.proofs.Common.{◌≡◌, ◌⊎◌, inl, inr, ℕ, ◌+◌, ◌<◌, ◌≤◌, ◌^◌, List, [], ◌∷◌, ◌++◌, length, map, take, drop, get_or, Option, Some, None, Result, Ok, Err, IfOk, refl, ap, sym, ◌∙◌, subst, arith}
use Rattle.std.specs.Option.{option_map, option_map_or, option_and_then}
use Rattle.std.proofs.lemmas.List.{map-append, append-nil, append_assoc, take_more, get_or_push, get_or_append_left, get_or_default, drop_more, drop_all}
use Rattle.lh_types.specs.Types.{TypeTree}
use Rattle.lh_types.specs.declared.part.Range.{Range}
use Rattle.lh_unit.specs.declared.inst.InstId.{InstId}
use Rattle.lh_unit.specs.declared.inst.Inst.{Inst}
use Rattle.lh_unit.specs.declared.inst.Inst.TheVariants as inst
use Rattle.lh_unit.specs.declared.inst.Typed.{Typed}
use Rattle.lh_unit.specs.declared.inst.UnitKind.{UnitKind}
use Rattle.lh_unit.specs.declared.inst.UnitKind.TheVariants as kind
use Rattle.lh_unit.specs.declared.inst.ValueId.{ValueId}
use Rattle.lh_unit.specs.Contents.{InstText, prb_text, LineText, UnitText}
use Rattle.lh_unit.specs.Held.{Env, as_part, part_at}
use Rattle.lh_unit.specs.Hierarchy.{lines_of, static_held, part_if_probe, probed_parts}
use Rattle.lh_unit.specs.Naming.{inst_text, value_text}
use Rattle.lh_unit.specs.Pass.{probes}
use Rattle.lh_unit.specs.Arena.{Arena, IsArena, InstPlaced, contents, naming, table_at, kind_at, unit_count, value_count, block_insts_at, unit_text_at}
use Rattle.lh_unit.specs.ById.{inst_line_text}
use Rattle.lh_unit.specs.WellFormed.{IsWellFormed}
use Rattle.lh_unit.specs.Within.{Each}
use Rattle.lh_unit.proofs.Lists.{Same, same, other, same_or, Each-item}
use Rattle.lh_verify_laws.specs.Operands.{RowIs}
use Rattle.lh_eval.specs.declared.instance.Instance.{Instance}
use Rattle.lh_eval.specs.Fitting.{Fits}
use Rattle.lh_eval.specs.Holding.{part_in}
use Rattle.lh_eval.specs.Sound.{InstIsSound}
use Rattle.lh_eval.proofs.HeldByIds.{same-held}
use Rattle.lh_eval_laws.specs.Ranges.{RangesFit, signal_types}
use Rattle.lh_eval_laws.proofs.FitLaws.{unit-is-sound}
use Rattle.lh_elab.specs.declared.probes.Probe.{Probe}
use Rattle.lh_elab_plan.specs.declared.statics.Base.{Base}
use Rattle.lh_elab_plan.specs.declared.statics.Base.TheVariants as base
use Rattle.lh_elab_plan.specs.declared.statics.Statics.{Statics}
use Rattle.lh_elab.specs.Answer.{InstanceIs}
use Rattle.lh_elab_plan.specs.Plans.{AreWide, AreRangesOf}
use Rattle.lh_elab.specs.Probed.{probed_in, probed_by, ProbeLine, probe_by, above, ProbesOf}
use Rattle.lh_elab_plan.specs.Statics.{by_of, base_lo, moved_slots, StaticsFollow}
use Rattle.lh_elab_plan.proofs.MovedParts.{shifted, length-moved, slot-moved, part-moved}
use Rattle.lh_elab_plan.proofs.PlanSteps.{lines}
use Rattle.lh_elab.proofs.Ports.{instantiable-there, part-within, static-fits, types-read}

above-part : (args sigs : List Range) (b : Base) (p : Option Range) → option_map (above args sigs) (option_map (λ (r : Range). record { base = b; part = r }) p)
    ≡ option_map (shifted (base_lo args sigs b)) p
above-part args sigs b None = refl
above-part args sigs b (Some r) = refl

-- the parts of a list after one more `prb`
module _ (args sigs : List Range) (a : Arena) (u : ℕ) (s : Statics) (e : Env) (f : StaticsFollow a u args sigs (by_of s) e) where
  probe-read : (v : ValueId) → v.0 < length s.slots → part_at e (value_text (naming a u) v) ≡ option_map (above args sigs) (probe_by s v)
  probe-read v w =
      let n = length-moved args sigs s.bases.items s.slots f.long in
      let b = get_or s.bases.items v.0 (base.Arg 0) in
      let w' : v.0 < length (moved_slots args sigs s.bases.items s.slots) = omega (arith, n, w) in
      sym ((same-held a u (moved_slots args sigs s.bases.items s.slots) e f.holds).part v w')
      ∙ ap (option_and_then as_part) (slot-moved args sigs s.bases.items s.slots v.0 f.long)
      ∙ part-moved args sigs b (get_or s.slots v.0 None)
      ∙ sym (above-part args sigs b (part_in s.slots v))

  pub probe-more : (i : Inst) (x : Typed) (p : Probe) (old new : List Probe) → i ≡ inst.Prb x → ProbeLine (length s.slots) i → probe_by s x.value ≡ Some p → new ≡ old ++ p ∷ []
      → map (above args sigs) new ≡ map (above args sigs) old ++ part_if_probe e (inst_text (naming a u) i) []
  probe-more i x p old new g w q n =
      let w' : x.value.0 < length s.slots = subst (ProbeLine (length s.slots)) g w in
      let r : part_at e (value_text (naming a u) x.value) ≡ Some (above args sigs p) = probe-read x.value w' ∙ ap (option_map (above args sigs)) q in
      ap (map (above args sigs)) n
      ∙ map-append (above args sigs) old (p ∷ [])
      ∙ ap (λ l. map (above args sigs) old ++ l) (sym (ap (λ k. part_if_probe e (inst_text (naming a u) k) []) g ∙ ap (λ o. option_map_or (λ (z : Range). z ∷ []) o []) r))

  pub probe-none : (i : Inst) (x : Typed) (old : List Probe) → i ≡ inst.Prb x → ProbeLine (length s.slots) i → probe_by s x.value ≡ None
      → map (above args sigs) old ≡ map (above args sigs) old ++ part_if_probe e (inst_text (naming a u) i) []
  probe-none i x old g w q =
      let w' : x.value.0 < length s.slots = subst (ProbeLine (length s.slots)) g w in
      let r : part_at e (value_text (naming a u) x.value) ≡ None = probe-read x.value w' ∙ ap (option_map (above args sigs)) q in
      sym (append-nil (map (above args sigs) old))
      ∙ ap (λ l. map (above args sigs) old ++ l) (sym (ap (λ k. part_if_probe e (inst_text (naming a u) k) []) g ∙ ap (λ o. option_map_or (λ (z : Range). z ∷ []) o []) r))

-- the next line, and those before it
part-front : (o : Option Range) (more : List Range) → option_map_or (λ (r : Range). r ∷ []) o [] ++ more ≡ option_map_or (λ (r : Range). r ∷ more) o more
part-front None more = refl
part-front (Some r) more = refl

probe-front : (e : Env) (i : InstText) (more : List Range) → part_if_probe e i [] ++ more ≡ part_if_probe e i more
probe-front e (prb_text x) more = part-front (part_at e x.value) more
probe-front e _ more = refl

pub more-probes : (e : Env) (f : InstId → LineText) (is : List InstId) (k : ℕ) (d : InstId) (cur new all : List Range) → k < length is → new ≡ cur ++ part_if_probe e (f (get_or is k d)).inst []
    → cur ++ probed_parts e (map f (drop k is)) ≡ all → new ++ probed_parts e (map f (drop (k + 1) is)) ≡ all
more-probes e f is k d cur new all h p q =
    ap (λ l. l ++ probed_parts e (map f (drop (k + 1) is))) p
    ∙ append_assoc cur (part_if_probe e (f (get_or is k d)).inst []) (probed_parts e (map f (drop (k + 1) is)))
    ∙ ap (λ l. cur ++ l) (probe-front e (f (get_or is k d)).inst (probed_parts e (map f (drop (k + 1) is))))
    ∙ ap (λ l. cur ++ probed_parts e (map f l)) (sym (drop_more is k d h))
    ∙ q

pub all-probes : (e : Env) (f : InstId → LineText) (is : List InstId) (k : ℕ) (cur all : List Range) → length is ≤ k → cur ++ probed_parts e (map f (drop k is)) ≡ all → cur ≡ all
all-probes e f is k cur all h q = sym (append-nil cur) ∙ ap (λ l. cur ++ probed_parts e (map f l)) (sym (drop_all k is h)) ∙ q

pub placed-probe : (a : Arena) (u : ℕ) (i : Inst) (n : ℕ) → n ≡ value_count a u → InstPlaced a u i → ProbeLine n i
placed-probe a u (inst.Prb x) n e p = omega (arith, e, p)
placed-probe a u _ n e p = tt

-- the probes of an entity
pub entity-probes : (a : Arena) (u : ℕ) → IsArena a → u < unit_count a → kind_at a u ≡ Some kind.Entity → (args sigs : List Range) (is : List InstId) → is ≡ block_insts_at a u 0
    → probed_parts (static_held (unit_text_at a u) args sigs) (map (inst_line_text (naming a u) (table_at a u)) is) ≡ probed_in (kind_at a u) (unit_text_at a u) args sigs
unfolding probes
entity-probes a u o h k args sigs is i =
    let e = static_held (unit_text_at a u) args sigs in
    ap (λ l. probed_parts e (map (inst_line_text (naming a u) (table_at a u)) l)) i
    ∙ ap (probed_parts e) (sym (lines a u o h k))
    ∙ sym (ap (λ (x : Option UnitKind). probed_in x (unit_text_at a u) args sigs) k)

-- the ranges of an instance that fits have its unit's widths
wide : (w : ℕ) (rs : List Range) (ts : List TypeTree) → RangesFit w rs ts → AreWide rs ts
wide w [] [] f = tt
wide w [] (t ∷ ts) f = absurd f
wide w (r ∷ rs) [] f = absurd f
wide w (r ∷ rs) (t ∷ ts) f = (f.0, wide w rs ts f.2)

abbrev pub IsWithin : ℕ → Range → Type 0
IsWithin w r = r.lo + r.len ≤ w

module _ (a : Arena) (o : IsArena a) (g : IsWellFormed (contents a)) (w : ℕ) (i : Instance) (f : InstanceIs a w i) where
  abbrev here : UnitText
  here = unit_text_at a i.unit.0

  pub are-of : AreRangesOf here i.args i.sigs
  are-of = record {
    of_args = wide w i.args _ f.fits.of_args;
    of_signals = subst (AreWide i.sigs) (sym (types-read a o g i.unit.0 f.unit f.kind)) (wide w i.sigs (signal_types (lines_of here.blocks)) f.fits.of_signals);
  }

  -- what it senses lies within the signals
  line-within : (e : Env) → Fits here w e → (x : InstText) (more : List Range) → RowIs here x → Each (IsWithin w) more → Each (IsWithin w) (part_if_probe e x more)
  line-within e fits (prb_text s) more r m = by (part_at e s.value) refl
    where
      by : (p : Option Range) → part_at e s.value ≡ p → Each (IsWithin w) (option_map_or (λ (q : Range). q ∷ more) p more)
      by None q = m
      by (Some p) q = ((part-within here w e fits s.value p r.0 q r.1.1).2, m)
  line-within e fits _ more r m = m

  lines-within : (e : Env) → Fits here w e → (ls : List LineText) → Each (InstIsSound here) ls → Each (IsWithin w) (probed_parts e ls)
  lines-within e fits [] s = tt
  lines-within e fits (l ∷ ls) s = line-within e fits l.inst (probed_parts e ls) s.0.row (lines-within e fits ls s.1)

  pub probed-within : Each (IsWithin w) (probed_by a i)
  unfolding probes
  probed-within = by f.kind
    where
      by : (kind_at a i.unit.0 ≡ Some kind.Proc) ⊎ (kind_at a i.unit.0 ≡ Some kind.Entity) → Each (IsWithin w) (probed_by a i)
      by (inl k) = subst (λ (x : Option UnitKind). Each (IsWithin w) (probed_in x here i.args i.sigs)) (sym k) tt
      by (inr k) =
          let fits = static-fits a o g i.unit.0 f.unit k i.args i.sigs w f.fits in
          let sound = unit-is-sound a i.unit.0 o f.unit g (instantiable-there (kind_at a i.unit.0) (inr k)) in
          subst (λ (x : Option UnitKind). Each (IsWithin w) (probed_in x here i.args i.sigs)) (sym k) (lines-within (static_held here i.args i.sigs) fits (lines_of here.blocks) sound.lines)

-- so do all instances' parts
pub all-within : (a : Arena) → IsArena a → IsWellFormed (contents a) → (w : ℕ) (is : List Instance) → Each (InstanceIs a w) is → Each (Each (IsWithin w)) (map (probed_by a) is)
all-within a o g w [] f = tt
all-within a o g w (i ∷ is) f = (probed-within a o g w i f.0, all-within a o g w is f.1)

-- the lowest bits have numbers
lows-few : (w : ℕ) (args sigs : List Range) (ps : List Probe) → w < 2 ^ 32 → Each (IsWithin w) (map (above args sigs) ps) → Each (λ (p : Probe). (above args sigs p).lo < 2 ^ 32) ps
lows-few w args sigs [] b e = tt
lows-few w args sigs (p ∷ ps) b e = (omega (arith, e.0, b), lows-few w args sigs ps b e.1)

pub probes-few : (a : Arena) → IsArena a → IsWellFormed (contents a) → (w : ℕ) (i : Instance) → InstanceIs a w i → w < 2 ^ 32 → (ps : List Probe) → ProbesOf a i.unit.0 ps
    → Each (λ (p : Probe). (above i.args i.sigs p).lo < 2 ^ 32) ps
probes-few a o g w i f b ps q = lows-few w i.args i.sigs ps b (subst (Each (IsWithin w)) (sym (q i.args i.sigs (are-of a o g w i f))) (probed-within a o g w i f))

-- one more instance
pub next-probed : (a : Arena) (is : List Instance) (k : ℕ) (i : Instance) (cur new : List (List Range)) (p : List Range) → k < length is → i ≡ get_or is k i → cur ≡ map (probed_by a) (take k is)
    → new ≡ cur ++ p ∷ [] → p ≡ probed_by a i → new ≡ map (probed_by a) (take (k + 1) is)
next-probed a is k i cur new p h e c n q =
    n
    ∙ (λ j. c j ++ (q ∙ ap (probed_by a) e) j ∷ [])
    ∙ sym (ap (map (probed_by a)) (take_more is k i h) ∙ map-append (probed_by a) (take k is) (get_or is k i ∷ []))

-- what one more unit senses
pub table-more : (a : Arena) (n : ℕ) (us new : List (List Probe)) (ps : List Probe) → length us ≡ n → new ≡ us ++ ps ∷ [] → ProbesOf a n ps → ((u : ℕ) → u < n → ProbesOf a u (get_or us u []))
    → (u : ℕ) → u < n + 1 → ProbesOf a u (get_or new u [])
table-more a n us new ps l e p f u h = subst (λ (xs : List (List Probe)). ProbesOf a u (get_or xs u [])) (sym e) (by (same_or u n))
  where
    by : Same u n → ProbesOf a u (get_or (us ++ ps ∷ []) u [])
    by (same q) =
        let g : get_or (us ++ ps ∷ []) u [] ≡ ps = get_or_push us ps [] u (omega (arith, l, q)) in
        subst (ProbesOf a u) (sym g) (subst (λ (m : ℕ). ProbesOf a m ps) (sym q) p)
    by (other q) =
        let less : u < n = omega (arith, h, q) in
        let g : get_or (us ++ ps ∷ []) u [] ≡ get_or us u [] = get_or_append_left us (ps ∷ []) [] u (omega (arith, l, less)) in
        subst (ProbesOf a u) (sym g) (f u less)

-- in each instance, of an answer
pub in-each : {E : Type 0} (r : Result (List Probe) E) (P : List Range → List Range → Type 0) (Q : List Range → List Range → List Probe → Type 0)
    → ((args sigs : List Range) → P args sigs → IfOk r (Q args sigs)) → IfOk r (λ ps. (args sigs : List Range) → P args sigs → Q args sigs ps)
in-each (Ok ps) P Q h = λ args sigs p. h args sigs p
in-each (Err e) P Q h = tt

-- the instance of a number
pub instance-is : (a : Arena) (w : ℕ) (is : List Instance) (k : ℕ) (i : Instance) → k < length is → i ≡ get_or is k i → Each (InstanceIs a w) is → InstanceIs a w i
instance-is a w is k i h e f = Each-item (InstanceIs a w) is k i f h e

-- what its unit senses
pub unit-senses : (a : Arena) (us : List (List Probe)) (u : ℕ) (ps : List Probe) → u < unit_count a → length us ≡ unit_count a → ps ≡ get_or us u ps
    → ((v : ℕ) → v < unit_count a → ProbesOf a v (get_or us v [])) → ProbesOf a u ps
unit-senses a us u ps h l e f = subst (ProbesOf a u) (sym (e ∙ get_or_default us u ps [] (omega (arith, h, l)))) (f u h)

-- what it senses
pub senses : (a : Arena) → IsArena a → IsWellFormed (contents a) → (w : ℕ) (i : Instance) → InstanceIs a w i → (ps : List Probe) (rs : List Range) → ProbesOf a i.unit.0 ps
    → rs ≡ map (above i.args i.sigs) ps → rs ≡ probed_by a i
senses a o g w i f ps rs q e = e ∙ q i.args i.sigs (are-of a o g w i f)
