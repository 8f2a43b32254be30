-- A terminator by ids, and what it does in the definition.
use Rattle.std.proofs.Common.{◌≡◌, inl, inr, ℕ, ◌+◌, ◌<◌, ◌≤◌, Bool, true, false, nat_eq, List, [], ◌∷◌, ◌++◌, length, map, Option, Some, None, IsSome, is_some, refl, ap, sym, ◌∙◌, subst, arith}
use Rattle.std.proofs.lemmas.Bool.{false≢true}
use Rattle.std.proofs.lemmas.Option.{slice_get_within}
use Rattle.std.proofs.lemmas.List.{map-append}
use Rattle.lh_types.specs.Types.{signal_type}
use Rattle.lh_unit_names.specs.declared.name.UnitName.{UnitName}
use Rattle.lh_unit.specs.declared.inst.UnitKind.TheVariants as kind
use Rattle.lh_unit.specs.declared.inst.BlockId.{BlockId}
use Rattle.lh_unit.specs.declared.inst.ValueId.{ValueId}
use Rattle.lh_unit.specs.declared.inst.Typed.{Typed}
use Rattle.lh_unit.specs.declared.inst.Inst.{Inst}
use Rattle.lh_unit.specs.declared.inst.Inst.TheVariants as inst
use Rattle.lh_unit.specs.ById.{maybe_id, values_used, blocks_named}
use Rattle.lh_unit.specs.Contents.{LineText, UnitText}
use Rattle.lh_unit.specs.Held.{front}
use Rattle.lh_unit.specs.Kinds.{Use, used, uses, maybe_used, signal_needed, time_needed}
use Rattle.lh_unit.specs.Naming.{Naming, value_text, maybe_text, inst_text}
use Rattle.lh_unit.specs.Within.{Each}
use Rattle.lh_verify_laws.specs.Defined.{IsThere, OperandsThere}
use Rattle.lh_verify_laws.specs.KindsOf.{HasTypeOfKind}
use Rattle.lh_verify_laws.specs.Operands.{RowIs}
use Rattle.lh_verify_laws.proofs.EachItem.{each-split}
use Rattle.lh_verify_laws.proofs.AtPlaces.{place-at}
use Rattle.lh_flat_laws.specs.Formed.{IsWithoutCalls}
use Rattle.lh_flat.specs.declared.flat.FlatInst.{FlatInst}
use Rattle.lh_flat.specs.declared.flat.FlatBlock.{FlatBlock}
use Rattle.lh_flat.specs.Below.{ValuesBelow, InstBelow}
use Rattle.lh_flat.specs.Flat.{FlatBlockText, as_block}
use Rattle.lh_flat.specs.Reads.{flat_line_text, flat_block_text}
use Rattle.lh_term.specs.Tree.{Tree}
use Rattle.lh_term.specs.declared.part.Part.{Part}
use Rattle.lh_term.specs.declared.term.TermNode.{TermNode}
use Rattle.lh_flat_parts.specs.Steps.{part_at}
use Rattle.lh_region_joins.specs.Joins.{IsConditionAt}
use Rattle.lh_region_joins.proofs.Conditions.{stands-condition}
use Rattle.lh_region_def.specs.Known.{value_known, parts_known}
use Rattle.lh_region_def.specs.Rows as text
use Rattle.lh_region_def.specs.Places.{Region as RegionText, Here, Midst, block_number, branches, wait_way, ends_if, takes}
use Rattle.lh_region_def.specs.Regions.{max_turns, turns_too_often}
use Rattle.lh_region_def.specs.Typed.{IsCondition}
use Rattle.lh_region_def.proofs.BlockLines.{branch-known}
use Rattle.lh_region_def.proofs.Operations.{part-known}
use Rattle.lh_region_def.proofs.Sites.{Site}
use Rattle.lh_region_def.proofs.Blocks.{signal-of}
use Rattle.lh_region.specs.declared.rows.RegionFault.{RegionFault}
use Rattle.lh_region_walk.specs.declared.walk.Region.{Region}
use Rattle.lh_region_walk.specs.declared.walk.Walk.{Walk}
use Rattle.lh_region_walk.specs.declared.walk.WalkPoint.{WalkPoint}
use Rattle.lh_region.specs.Branches.{CanTest}
use Rattle.lh_region.specs.Walking.{Story, term_known}
use Rattle.lh_region_walk.specs.Walked.{process_by, region_text, IsCourse, course_at, IsBetween, leads_nowhere, CanTake, EndsLine, EndsFor}
use Rattle.lh_region_walk.specs.Leaving.{IsLeaving, EndsThere, CanLead, LeadsThere, LeadsNot, Branches, BranchesNot, AreParts, PartsOf, Waits}
use Rattle.lh_region_walk.proofs.StoryLaws.{so-far-on}
use Rattle.lh_region_walk.proofs.Regional.{region-of, label-number, block-at-text, site-of}
use Rattle.lh_region_walk.proofs.PartsByIds.{part-there}
use Rattle.lh_region_walk.proofs.Known.{value-term}

maybe-some : (f : Naming) (o : Option ValueId) → is_some (maybe_text f o) ≡ is_some o
maybe-some f None = refl
maybe-some f (Some v) = refl

-- ---- in the middle of a place, before its last line

module _ (ns : List TermNode) (f : Naming) (name : UnitName) (r : Region) (w : Walk) (at : WalkPoint) (before : Story) (h : Here) (insts : ℕ) (b : FlatBlock) (l : FlatInst) (done rest : List LineText)
    (m : Midst) (i : IsBetween ns f name r w at before h insts b done (flat_line_text f l ∷ rest) m) where
  abbrev u : UnitText
  u = process_by name f r.flat.now

  abbrev g : RegionText
  g = region_text f r

  abbrev here : FlatBlockText
  here = flat_block_text f at.block b

  block-below : at.block < length r.flat.now.blocks
  block-below = slice_get_within r.flat.now.blocks at.block b i.stands.block

  pub leaving : IsLeaving ns f r w at i.midst.now h insts m
  leaving = record {
    course = record { so_far = so-far-on ns f r w at.turns (at.block + 1) before i.midst.now _ i.midst.continues i.midst.so_far; places = i.midst.places; tells = i.midst.tells };
    within = omega (arith, i.midst.is);
    of_text = block-below;
    numbers = λ k d. label-number f r.flat.now.blocks k i.region.names.labels d;
    place = i.stands.place;
    label = i.stands.label;
    known = i.midst.known;
  }

  pub at-within : at.place < length w.places.items
  at-within = omega (arith, i.midst.is, i.midst.places)

  pub cond-at : IsConditionAt ns at.cond
  cond-at = stands-condition ns at.cond h.cond i.midst.cond i.midst.condition

  pub can-lead : (to : ℕ) → to < length r.flat.now.blocks → CanLead w.ahead to
  can-lead to d = record { here = subst (λ (n : ℕ). to < n) (sym i.midst.so_far.here_long) d; next = subst (λ (n : ℕ). to < n) (sym i.midst.so_far.next_long) d }

  pub site : Site u (as_block here) done (flat_line_text f l) rest
  site = site-of f name r i.region at h b i.stands done (flat_line_text f l) rest i.knows.split

  value-below : (v : ℕ) → v < r.flat.now.values → v < i.midst.now.values
  value-below v d = subst (λ (n : ℕ). v < n) (sym (i.midst.continues.values ∙ i.midst.so_far.values)) d

  named-value : (v : ℕ) → i.midst.now.naming.value_name v ≡ f.value_name v
  named-value v = ap (λ (k : Naming). k.value_name v) (i.midst.continues.naming ∙ i.midst.so_far.naming)

  -- what is told of a value that is known
  told-value : (v : ℕ) (x : Tree) → v < r.flat.now.values → value_known m.known (f.value_name v) ≡ Some x → i.midst.now.told at.place v ≡ Some x
  told-value v x d e = i.midst.known v (value-below v d) ∙ ap (term_known m.known) (named-value v) ∙ value-term m.known (f.value_name v) x e

  -- ---- a branch

  pub branch-told : (c : ValueId) (first second : BlockId) → l.inst ≡ inst.Branch c first second → c.0 < r.flat.now.values → (x : Tree) × (value_known m.known (f.value_name c.0) ≡ Some x)
      × (i.midst.now.told at.place c.0 ≡ Some x) × IsCondition x
  branch-told c first second e d =
      let row = subst (λ (j : Inst). RowIs u (inst_text f j)) e site.sound.row in
      let ops = subst (λ (j : Inst). OperandsThere kind.Proc u (place-at site.number site.entry (as_block here) done (flat_line_text f l) rest) (inst_text f j)) e site.there in
      let k = branch-known u g (region-of f name r i.region) at.block here (block-at-text f r i.region at.block b i.stands.block) h i.stands.label i.midst.condition done (flat_line_text f l) rest
      i.knows.split site m i.knows.typed i.knows.there
      (f.value_name c.0) (f.label_name first.0) (f.label_name second.0) row ops in
      (k.0, k.1, told-value c.0 k.0 d k.1, k.2)

  -- ---- a wait

  signals-known : (vs : List ValueId) → ValuesBelow r.flat.now.values vs → Each (HasTypeOfKind u) (map (used signal_needed) (map (value_text f) vs))
      → Each (IsThere u (as_block here) done) (map (λ (x : Use). x.value) (map (used signal_needed) (map (value_text f) vs)))
      → (ps : List Part) × (parts_known m.known (map (value_text f) vs) ≡ Some ps) × PartsOf r.parts.now.parts.items vs ps
  signals-known [] d a c = ([], refl, refl)
  signals-known (v ∷ vs) d a c =
      let n = f.value_name v.0 in
      let t = signal-of u n a.0 in
      let y = part-known u m.known i.knows.typed n t.0 t.1 (i.knows.there n (signal_type t.0) t.1 (λ z. cc) c.0) in
      let ys = signals-known vs d.1 a.1 c.1 in
      let p = part-there name f r.flat.now i.region.names i.region.below r.parts.now i.region.table v.0 y.0 d.0 y.4 in (
        y.0 ∷ ys.0,
        ap (λ z. front z (parts_known m.known (map (value_text f) vs))) y.1 ∙ ap (front (Some y.0)) ys.1,
        λ j. sym p j ∷ ys.2 j,
      )

  pub wait-known : (to : BlockId) (after : Option ValueId) (on : List ValueId) → l.inst ≡ inst.Wait to after on → ValuesBelow r.flat.now.values (maybe_id after ++ on) → (ps : List Part)
      × (parts_known m.known (map (value_text f) on) ≡ Some ps) × PartsOf r.parts.now.parts.items on ps
  wait-known to after on e d =
      let ns' = map (value_text f) on in
      let ops = subst (λ (j : Inst). OperandsThere kind.Proc u (place-at site.number site.entry (as_block here) done (flat_line_text f l) rest) (inst_text f j)) e site.there in
      let ks = subst (λ (j : Inst). Each (HasTypeOfKind u) (uses (inst_text f j))) e site.kinds in
      let k' = subst (Each (IsThere u (as_block here) done)) (map-append (λ (x : Use). x.value) (maybe_used time_needed (maybe_text f after)) (map (used signal_needed) ns')) ops in
      let os = each-split (IsThere u (as_block here) done) (map (λ (x : Use). x.value) (maybe_used time_needed (maybe_text f after))) (map (λ (x : Use). x.value) (map (used signal_needed) ns')) k' in
      let cs = each-split (HasTypeOfKind u) (maybe_used time_needed (maybe_text f after)) (map (used signal_needed) ns') ks in
      let ds = each-split (λ (v : ValueId). v.0 < r.flat.now.values) (maybe_id after) on d in
      signals-known on ds.1 cs.1 os.1

-- ---- what each terminator does

module _ (ns : List TermNode) (r : Region) (w : Walk) (at : WalkPoint) (l : FlatInst) where
  pub br-ends : (to : BlockId) (q : Walk) → l.inst ≡ inst.Br to → LeadsThere ns r w at at.cond to.0 q → EndsLine ns r w at l ns q
  br-ends to q e x f name before h insts b done rest m i =
      let s = i.midst.now in
      let a = x f s h insts m h.cond (leaving ns f name r w at before h insts b l done rest m i) i.midst.cond in
      (s, subst (λ (j : Inst). IsCourse ns f r q at.turns (at.block + 1) s (course_at insts (takes (region_text f r) h (inst_text f j) (flat_line_text f l).result m))) (sym e) a.course)

  pub br-ends-not : (to : BlockId) (x : RegionFault) → l.inst ≡ inst.Br to → LeadsNot ns r w at at.cond to.0 x → EndsFor ns r w at l x
  br-ends-not to x e (inl a) = inl a
  br-ends-not to x e (inr a) = inr (
    a.0,
    λ f name before h insts b done rest m i.
        subst (λ (j : Inst). turns_too_often (takes (region_text f r) h (inst_text f j) (flat_line_text f l).result m).edges ≡ true) (sym e)
        (a.1 f i.midst.now h insts m h.cond (leaving ns f name r w at before h insts b l done rest m i) i.midst.cond),
  )

  module _ (below : InstBelow r.flat.now.values (length r.flat.now.blocks) l) where
    branch-below : (c : ValueId) (first second : BlockId) → l.inst ≡ inst.Branch c first second → c.0 < r.flat.now.values
    branch-below c first second e = (subst (λ (j : Inst). ValuesBelow r.flat.now.values (values_used j)) e below.used).0

    pub branch-ends : (c : ValueId) (first second : BlockId) (ms : List TermNode) (q : Walk) → l.inst ≡ inst.Branch c first second → Branches ns r w at c.0 first.0 second.0 ms q
        → EndsLine ns r w at l ms q
    branch-ends c first second ms q e x f name before h insts b done rest m i =
        let s = i.midst.now in
        let k = branch-told ns f name r w at before h insts b l done rest m i c first second e (branch-below c first second e) in
        let a = x f s h insts m k.0 (leaving ns f name r w at before h insts b l done rest m i) i.midst.cond k.2 in (
          s,
          subst (λ (j : Inst). IsCourse ms f r q at.turns (at.block + 1) s (course_at insts (takes (region_text f r) h (inst_text f j) (flat_line_text f l).result m))) (sym e)
              (subst (λ (o : Option Tree). IsCourse ms f r q at.turns (at.block + 1) s (course_at insts (branches (region_text f r) h o (f.label_name first.0) (f.label_name second.0) m))) (sym k.1)
              a.course),
        )

    pub branch-ends-not : (c : ValueId) (first second : BlockId) (x : RegionFault) → l.inst ≡ inst.Branch c first second → BranchesNot ns r w at c.0 first.0 second.0 x → EndsFor ns r w at l x
    branch-ends-not c first second x e (inl a) = inl a
    branch-ends-not c first second x e (inr a) = inr (
      a.0,
      λ f name before h insts b done rest m i.
          let k = branch-told ns f name r w at before h insts b l done rest m i c first second e (branch-below c first second e) in
          subst (λ (j : Inst). turns_too_often (takes (region_text f r) h (inst_text f j) (flat_line_text f l).result m).edges ≡ true) (sym e)
          (subst (λ (o : Option Tree). turns_too_often (branches (region_text f r) h o (f.label_name first.0) (f.label_name second.0) m).edges ≡ true) (sym k.1)
          (a.1 f i.midst.now h insts m k.0 (leaving ns f name r w at before h insts b l done rest m i) i.midst.cond k.2)),
    )

    pub wait-ends : (to : BlockId) (after : Option ValueId) (on : List ValueId) (timed : Bool) (q : Walk) → timed ≡ is_some after → l.inst ≡ inst.Wait to after on → Waits r w at to.0 timed on q
        → EndsLine ns r w at l ns q
    wait-ends to after on timed q et e x f name before h insts b done rest m i =
        let s = i.midst.now in
        let g = region_text f r in
        let k = wait-known ns f name r w at before h insts b l done rest m i to after on e (subst (λ (j : Inst). ValuesBelow r.flat.now.values (values_used j)) e below.used) in
        let v = leaving ns f name r w at before h insts b l done rest m i in
        let a = x k.0 k.2 ns f r s h insts m h.cond v i.midst.cond in
        let number = v.numbers to.0 (subst (λ (j : Inst). Each (λ (c : BlockId). c.0 < length r.flat.now.blocks) (blocks_named j)) e below.named).0 in
        let way : wait_way g (is_some (maybe_text f after)) (block_number (f.label_name to.0) g.blocks) (parts_known m.known (map (value_text f) on))
        ≡ Some (text.waits to.0 (nat_eq to.0 r.head) k.0 timed)
        = λ j. wait_way g ((maybe-some f after ∙ sym et) j) (number j) (k.1 j) in (
          s,
          subst (λ (j : Inst). IsCourse ns f r q at.turns (at.block + 1) s (course_at insts (takes g h (inst_text f j) (flat_line_text f l).result m))) (sym e)
              (subst (λ (o : Option text.Way). IsCourse ns f r q at.turns (at.block + 1) s (course_at insts (ends_if h m o))) (sym way) a.course),
        )

  pub halt-ends : (q : Walk) → l.inst ≡ inst.Halt → EndsThere w at at.cond text.halts q → EndsLine ns r w at l ns q
  halt-ends q e x f name before h insts b done rest m i =
      let s = i.midst.now in
      let a = x ns f r s h insts m h.cond (leaving ns f name r w at before h insts b l done rest m i) i.midst.cond in
      (s, subst (λ (j : Inst). IsCourse ns f r q at.turns (at.block + 1) s (course_at insts (takes (region_text f r) h (inst_text f j) (flat_line_text f l).result m))) (sym e) a.course)

  -- a process gives nothing back
  pub ret-not : (v : Option Typed) → l.inst ≡ inst.Ret v → (q : Walk) → EndsLine ns r w at l ns q
  ret-not v e q f name before h insts b done rest m i =
      let s = site ns f name r w at before h insts b l done rest m i in
      absurd (no-ret v (subst (λ (j : Inst). IsWithoutCalls (process_by name f r.flat.now) (inst_text f j)) e s.calls))
    where
      no-ret : (v : Option Typed) → IsWithoutCalls (process_by name f r.flat.now) (inst_text f (inst.Ret v)) → ⊥
      no-ret None x = x
      no-ret (Some t) x = x

  -- no other instruction is a terminator
  pub else-ends : (q : Walk) → leads_nowhere l.inst ≡ false → ((to : BlockId) → l.inst ≡ inst.Br to → ⊥) → ((c : ValueId) (first second : BlockId) → l.inst ≡ inst.Branch c first second → ⊥)
      → ((to : BlockId) (after : Option ValueId) (on : List ValueId) → l.inst ≡ inst.Wait to after on → ⊥)
      → (l.inst ≡ inst.Halt → ⊥) → EndsLine ns r w at l ns q
  else-ends q last no-br no-branch no-wait no-halt = by l.inst refl last
    where
      by : (i : Inst) → l.inst ≡ i → leads_nowhere i ≡ false → EndsLine ns r w at l ns q
      by (inst.Br to) e n = absurd (no-br to e)
      by (inst.Branch c first second) e n = absurd (no-branch c first second e)
      by (inst.Wait to after on) e n = absurd (no-wait to after on e)
      by inst.Halt e n = absurd (no-halt e)
      by (inst.Ret v) e n = ret-not v e q
      by _ e n = absurd (false≢true (sym n))

  -- ---- what is asked for

  module _ (can : CanTake ns r w at l) where
    pub asked-cond : IsConditionAt ns at.cond
    asked-cond = cond-at ns can.naming can.name r w at can.before can.here can.insts can.block l can.done can.rest can.midst can.between

    pub asked-within : at.place < length w.places.items
    asked-within = at-within ns can.naming can.name r w at can.before can.here can.insts can.block l can.done can.rest can.midst can.between

    pub asked-turns : at.turns ≤ max_turns
    asked-turns = can.between.stands.turns

    asked-lead : (to : ℕ) → to < length r.flat.now.blocks → CanLead w.ahead to
    asked-lead = can-lead ns can.naming can.name r w at can.before can.here can.insts can.block l can.done can.rest can.midst can.between

    pub asked-br : (to : BlockId) → l.inst ≡ inst.Br to → CanLead w.ahead to.0
    asked-br to e = asked-lead to.0 (subst (λ (j : Inst). Each (λ (c : BlockId). c.0 < length r.flat.now.blocks) (blocks_named j)) e can.below.named).0

    pub asked-first : (c : ValueId) (first second : BlockId) → l.inst ≡ inst.Branch c first second → CanLead w.ahead first.0
    asked-first c first second e = asked-lead first.0 (subst (λ (j : Inst). Each (λ (c : BlockId). c.0 < length r.flat.now.blocks) (blocks_named j)) e can.below.named).0

    pub asked-second : (c : ValueId) (first second : BlockId) → l.inst ≡ inst.Branch c first second → CanLead w.ahead second.0
    asked-second c first second e = asked-lead second.0 (subst (λ (j : Inst). Each (λ (c : BlockId). c.0 < length r.flat.now.blocks) (blocks_named j)) e can.below.named).1.0

    pub asked-test : (c : ValueId) (first second : BlockId) → l.inst ≡ inst.Branch c first second → CanTest ns w.places.items c.0 at.place
    asked-test c first second e =
        let k = branch-told ns can.naming can.name r w at can.before can.here can.insts can.block l can.done can.rest can.midst can.between c first second e
        (branch-below can.below c first second e) in
        record { told = can.between.midst.now.told; tells = can.between.midst.tells; cond = k.0; is = k.2; condition = k.3 }

    parts-there : (vs : List ValueId) (ps : List Part) → ValuesBelow r.flat.now.values vs → PartsOf r.parts.now.parts.items vs ps → AreParts r.parts.now.parts.items vs
    parts-there [] ps d e = tt
    parts-there (v ∷ vs) [] d e = absurd cc
    parts-there (v ∷ vs) (p ∷ ps) d e =
        let a : Some p ≡ part_at r.parts.now.parts.items v.0 = cc in
        let c : map Some ps ≡ map (λ (x : ValueId). part_at r.parts.now.parts.items x.0) vs = cc in
        ((subst (λ (n : ℕ). v.0 < n) (sym can.between.region.table.long) d.0, subst (λ (o : Option Part). IsSome o) a refl), parts-there vs ps d.1 c)

    pub asked-parts : (to : BlockId) (after : Option ValueId) (on : List ValueId) → l.inst ≡ inst.Wait to after on → AreParts r.parts.now.parts.items on
    asked-parts to after on e =
        let d = subst (λ (j : Inst). ValuesBelow r.flat.now.values (values_used j)) e can.below.used in
        let k = wait-known ns can.naming can.name r w at can.before can.here can.insts can.block l can.done can.rest can.midst can.between to after on e d in
        let ds = each-split (λ (v : ValueId). v.0 < r.flat.now.values) (maybe_id after) on d in
        parts-there on k.0 ds.1 k.2
