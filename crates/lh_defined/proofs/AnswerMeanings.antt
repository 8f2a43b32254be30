-- What the answers to the questions of a unit mean.
use Rattle.std.proofs.Common.{◌≡◌, ℕ, ◌+◌, ◌<◌, true, false, not, ◌||◌, List, ◌∷◌, ◌++◌, map, Some, slice_get, ap, sym, ◌∙◌, subst}
use Rattle.std.proofs.lemmas.Option.{slice_get-get_or}
use Rattle.std.proofs.lemmas.Bool.{or_parts, or_from, not-false, not_from_true}
use Rattle.lh_verify_flow.specs.declared.flow.Block.{Block}
use Rattle.lh_verify_flow.specs.Questions as flows
use Rattle.lh_unit.specs.Contents.{phi_text}
use Rattle.lh_unit.specs.Named.{label_or}
use Rattle.lh_unit.specs.Places.{InstPlaceText}
use Rattle.lh_unit.specs.WellFormed.{LacksIn, LacksDefinition, values_named}
use Rattle.lh_unit.specs.Table.{HasBlocks, is_arg, line_at, no_line}
use Rattle.lh_unit.specs.Within.{Each, EdgeWithin}
use Rattle.lh_unit.specs.Naming.{inst_text, edge_text, value_text, kind_text}
use Rattle.lh_unit.specs.Arena.{Arena, IsArena, InstPlaced, sizes, unit_text_at, naming, table_at, kind_at, args_at, unit_count, value_count, inst_count, inst_at, value_name_at}
use Rattle.lh_unit.specs.ById.{InstPlace, inst_places, place_text, insts_make, values_used}
use Rattle.lh_unit.specs.declared.inst.InstId.{InstId}
use Rattle.lh_unit.specs.declared.inst.ValueId.{ValueId}
use Rattle.lh_unit.specs.declared.inst.PhiEdge.{PhiEdge}
use Rattle.lh_unit.specs.declared.inst.Inst.{Inst}
use Rattle.lh_unit.proofs.ById.{args_define-by_id}
use Rattle.lh_unit.proofs.ByIdInsts.{values_named-by_id}
use Rattle.lh_unit.proofs.ByIdPlaces.{InUnit, inst_place-at}
use Rattle.lh_defined.specs.declared.question.Question.{Question}
use Rattle.lh_defined.specs.Lacking.{IsFirstIn, IsFirstOperand, ValueLacks, EdgeLacks}
use Rattle.lh_defined.specs.Flowing.{IsFlow}
use Rattle.lh_defined.specs.Asking.{is_plain, question, value_questions, edge_questions, leads_from, inst_questions}
use Rattle.lh_defined.proofs.Lists.{First, first-map, first-has, first-is, first-asked, none-asked, asked, each-map}
use Rattle.lh_defined.proofs.Within.{used-within, insts_at-within}
use Rattle.lh_defined.proofs.Paths.{lacks-reached, reached-lacks, lacks-edge, edge-lacks, label-within}
use Rattle.lh_defined.proofs.UnitQuestions.{place_questions, values-asked, edges-asked, View, by_edges, by_values, view, from-edges, to-edges, first-edges, from-values, to-values, first-values, no-value, some-value, no-edge, some-edge}
use Rattle.lh_unit.proofs.Lists.{Each-right, Each-from, Each-zip}

-- what a question asks of a flow
abbrev pub Found : List Block → Question → Type 0
Found flow q = flows.MayLack flow q.ask

-- a place of the unit whose instruction is in place
pub record Fine (a : Arena) (u : ℕ) (s : InstPlace) : Type 0 where
  pub in_unit : InUnit (table_at a u) s
  pub number : s.number ≡ s.inst.0 + 1
  pub placed : InstPlaced a u (inst_at a u s.inst.0)

pub places-fine : (a : Arena) (u : ℕ) → IsArena a → u < unit_count a → Each (Fine a u) (inst_places (table_at a u))
places-fine a u o h = Each-from (Fine a u) (inst_places (table_at a u)) fine
  where
    fine : (i : ℕ) (s : InstPlace) → slice_get (inst_places (table_at a u)) i ≡ Some s → Fine a u s
    fine i s e =
        let r = inst_place-at (table_at a u) i s (o.tables u h) e in
        let w : Each (λ (x : InstId). x.0 < inst_count a u) (s.before ++ s.inst ∷ s.after) = subst (Each (λ (x : InstId). x.0 < inst_count a u)) r.2.split (insts_at-within a u s.block.0 o h) in
        let l : s.inst.0 < inst_count a u = (Each-right (λ (x : InstId). x.0 < inst_count a u) s.before (s.inst ∷ s.after) w).0 in
        record { in_unit = r.2; number = r.0 ∙ ap (λ n. n + 1) (sym r.1); placed = o.placed u s.inst.0 (line_at (table_at a u) s.inst.0) (slice_get-get_or (table_at a u).lines s.inst.0 no_line l) }

-- what is known of the question that finds something at a place
pub record AtPlace (a : Arena) (u : ℕ) (s : InstPlace) (y : Question) : Type 0 where
  pub inst : y.inst ≡ s.inst
  pub within : y.ask.value < value_count a u
  pub operand : IsFirstOperand (unit_text_at a u) (place_text (naming a u) (table_at a u) s) (value_name_at a u y.ask.value)
  pub lacks : LacksDefinition (unit_text_at a u) (place_text (naming a u) (table_at a u) s)

module _ (a : Arena) (u : ℕ) (o : IsArena a) (h : u < unit_count a) (k : HasBlocks (kind_at a u)) (flow : List Block) (w : IsFlow (table_at a u) flow) where
  abbrev at_place : InstPlace → InstPlaceText
  at_place s = place_text (naming a u) (table_at a u) s

  -- a value of a place
  abbrev ValueHit : InstPlace → ValueId → Type 0
  ValueHit s v = (is_plain (table_at a u) s.before v.0 ≡ false) × Found flow (question s.inst s.block false v)

  value-to : (s : InstPlace) (v : ValueId) → InUnit (table_at a u) s → v.0 < value_count a u → ValueHit s v → ValueLacks (unit_text_at a u) (at_place s) (value_name_at a u v.0)
  value-to s v i l x =
      let f = or_parts (is_arg (args_at a u) v.0) (insts_make (table_at a u) s.before v.0) x.0 in
      (args_define-by_id a u o h v.0 l ∙ f.0, reached-lacks a u o h k flow w v.0 s.before i.index s.block l i.stands f.1 x.1)

  value-from : (s : InstPlace) (v : ValueId) → InUnit (table_at a u) s → v.0 < value_count a u → ValueLacks (unit_text_at a u) (at_place s) (value_name_at a u v.0) → ValueHit s v
  value-from s v i l x =
      let r = lacks-reached a u o h k flow w v.0 s.before i.index s.block l i.stands x.1 in
      (or_from (is_arg (args_at a u) v.0) (insts_make (table_at a u) s.before v.0) (sym (args_define-by_id a u o h v.0 l) ∙ x.0) r.0, r.1)

  -- an edge of a place
  abbrev EdgeHit : InstPlace → PhiEdge → Type 0
  EdgeHit s e = ((is_arg (args_at a u) e.value.0 || not (leads_from flow e.block.0 s.block.0)) ≡ false) × Found flow (question s.inst e.block true e.value)

  edge-hit : (s : InstPlace) (e : PhiEdge) → InUnit (table_at a u) s → EdgeWithin (sizes a u) e → EdgeHit s e
      → EdgeLacks (unit_text_at a u) (label_or (at_place s).block.label) (edge_text (naming a u) e)
  edge-hit s e i l x =
      let f = or_parts (is_arg (args_at a u) e.value.0) (not (leads_from flow e.block.0 s.block.0)) x.0 in (
        args_define-by_id a u o h e.value.0 l.0 ∙ f.0,
        edge-lacks a u o h k flow w e s.block l.0 l.1 (label-within a u o h k flow w i.index s.block i.stands) (not-false (leads_from flow e.block.0 s.block.0) f.1) x.1,
      )

  edge-from : (s : InstPlace) (e : PhiEdge) → InUnit (table_at a u) s → EdgeWithin (sizes a u) e → EdgeLacks (unit_text_at a u) (label_or (at_place s).block.label) (edge_text (naming a u) e)
      → EdgeHit s e
  edge-from s e i l x =
      let r = lacks-edge a u o h k flow w e s.block l.0 l.1 (label-within a u o h k flow w i.index s.block i.stands) x.1 in (
        or_from (is_arg (args_at a u) e.value.0) (not (leads_from flow e.block.0 s.block.0)) (sym (args_define-by_id a u o h e.value.0 l.0) ∙ x.0)
            (not_from_true (leads_from flow e.block.0 s.block.0) r.0),
        r.1,
      )

  -- no question finds anything at a place
  none-values : (s : InstPlace) (vs : List ValueId) → InUnit (table_at a u) s → Each (λ (v : ValueId). v.0 < value_count a u) vs
      → Each (λ q. ¬ Found flow q) (value_questions (is_plain (table_at a u) s.before) s.block s.inst vs)
      → Each (λ n. ¬ ValueLacks (unit_text_at a u) (at_place s) n) (map (value_text (naming a u)) vs)
  none-values s vs i l n =
      let m : Each (λ q. ¬ Found flow q) (asked (λ (v : ValueId). is_plain (table_at a u) s.before v.0) (question s.inst s.block false) vs) = subst (Each (λ q. ¬ Found flow q))
      (values-asked (is_plain (table_at a u) s.before) s.block s.inst vs) n in
      let r : Each (λ v. ¬ ValueHit s v) vs = none-asked (λ (v : ValueId). is_plain (table_at a u) s.before v.0) (question s.inst s.block false) (λ q. ¬ Found flow q) (Found flow) vs (λ y z. z) m in
      each-map (λ n. ¬ ValueLacks (unit_text_at a u) (at_place s) n) (value_text (naming a u)) vs
      (Each-zip (λ (v : ValueId). v.0 < value_count a u) (λ v. ¬ ValueHit s v) (λ v. ¬ ValueLacks (unit_text_at a u) (at_place s) (value_text (naming a u) v)) (λ v p q x. q (value-from s v i p x)) vs
      l r)

  none-edges : (s : InstPlace) (es : List PhiEdge) → InUnit (table_at a u) s → Each (EdgeWithin (sizes a u)) es
      → Each (λ q. ¬ Found flow q) (edge_questions (is_arg (args_at a u)) flow s.block s.inst es)
      → Each (λ e. ¬ EdgeLacks (unit_text_at a u) (label_or (at_place s).block.label) e) (map (edge_text (naming a u)) es)
  none-edges s es i l n =
      let m : Each (λ q. ¬ Found flow q) (asked (λ (e : PhiEdge). is_arg (args_at a u) e.value.0 || not (leads_from flow e.block.0 s.block.0)) (λ (e : PhiEdge). question s.inst e.block true e.value)
      es) =
      subst (Each (λ q. ¬ Found flow q)) (edges-asked (is_arg (args_at a u)) flow s.block s.inst es) n in
      let r : Each (λ e. ¬ EdgeHit s e) es = none-asked (λ (e : PhiEdge). is_arg (args_at a u) e.value.0 || not (leads_from flow e.block.0 s.block.0))
      (λ (e : PhiEdge). question s.inst e.block true e.value) (λ q. ¬ Found flow q) (Found flow) es (λ y z. z) m in
      each-map (λ e. ¬ EdgeLacks (unit_text_at a u) (label_or (at_place s).block.label) e) (edge_text (naming a u)) es
      (Each-zip (EdgeWithin (sizes a u)) (λ e. ¬ EdgeHit s e) (λ e. ¬ EdgeLacks (unit_text_at a u) (label_or (at_place s).block.label) (edge_text (naming a u) e))
      (λ e p q x. q (edge-from s e i p x)) es l r)

  none-inst : (s : InstPlace) (i : Inst) → InUnit (table_at a u) s → InstPlaced a u i
      → Each (λ q. ¬ Found flow q) (inst_questions true (is_plain (table_at a u) s.before) (is_arg (args_at a u)) flow s.block s.inst i)
      → LacksIn (kind_text (kind_at a u)) (unit_text_at a u) (at_place s) (inst_text (naming a u) i) → ⊥
  none-inst s i p l n x = by (view i)
    where
      by : View i → ⊥
      by (by_edges ty es e) =
          let m : Each (EdgeWithin (sizes a u)) es = subst (InstPlaced a u) e l in
          let q : Each (λ z. ¬ Found flow z) (edge_questions (is_arg (args_at a u)) flow s.block s.inst es) = subst
          (λ (z : Inst). Each (λ y. ¬ Found flow y) (inst_questions true (is_plain (table_at a u) s.before) (is_arg (args_at a u)) flow s.block s.inst z)) e n in
          let y : LacksIn (kind_text (kind_at a u)) (unit_text_at a u) (at_place s) (phi_text ty (map (edge_text (naming a u)) es)) = subst
          (λ (z : Inst). LacksIn (kind_text (kind_at a u)) (unit_text_at a u) (at_place s) (inst_text (naming a u) z)) e x in
          no-edge (unit_text_at a u) (at_place s) (label_or (at_place s).block.label) (map (edge_text (naming a u)) es) (none-edges s es p m q)
          (from-edges (unit_text_at a u) (at_place s) (kind_at a u) k ty (map (edge_text (naming a u)) es) y)
      by (by_values f e) =
          let q : Each (λ z. ¬ Found flow z) (value_questions (is_plain (table_at a u) s.before) s.block s.inst (values_used i)) = subst (Each (λ z. ¬ Found flow z))
          (e (is_plain (table_at a u) s.before) (is_arg (args_at a u)) flow s.block s.inst) n in
          let r : Each (λ z. ¬ ValueLacks (unit_text_at a u) (at_place s) z) (values_named (inst_text (naming a u) i)) =
          subst (Each (λ z. ¬ ValueLacks (unit_text_at a u) (at_place s) z)) (sym (values_named-by_id (naming a u) i)) (none-values s (values_used i) p (used-within (sizes a u) i l) q) in
          no-value (unit_text_at a u) (at_place s) (values_named (inst_text (naming a u) i)) r
          (from-values (unit_text_at a u) (at_place s) (kind_at a u) k (inst_text (naming a u) i) (f (naming a u)) x)

  -- the first question that finds something at a place
  first-inst : (s : InstPlace) (i : Inst) (y : Question) → InUnit (table_at a u) s → InstPlaced a u i
      → First (λ q. ¬ Found flow q) (Found flow) (inst_questions true (is_plain (table_at a u) s.before) (is_arg (args_at a u)) flow s.block s.inst i) y
      → (y.inst ≡ s.inst) × (y.ask.value < value_count a u) × IsFirstIn (kind_text (kind_at a u)) (unit_text_at a u) (at_place s) (inst_text (naming a u) i) (value_name_at a u y.ask.value)
      × LacksIn (kind_text (kind_at a u)) (unit_text_at a u) (at_place s) (inst_text (naming a u) i)
  first-inst s i y p l x = by (view i)
    where
      by : View i → (y.inst ≡ s.inst) × (y.ask.value < value_count a u) × IsFirstIn (kind_text (kind_at a u)) (unit_text_at a u) (at_place s) (inst_text (naming a u) i) (value_name_at a u y.ask.value)
          × LacksIn (kind_text (kind_at a u)) (unit_text_at a u) (at_place s) (inst_text (naming a u) i)
      by (by_edges ty es e) =
          let m : Each (EdgeWithin (sizes a u)) es = subst (InstPlaced a u) e l in
          let q : First (λ z. ¬ Found flow z) (Found flow) (edge_questions (is_arg (args_at a u)) flow s.block s.inst es) y =
          subst (λ (z : Inst). First (λ r. ¬ Found flow r) (Found flow) (inst_questions true (is_plain (table_at a u) s.before) (is_arg (args_at a u)) flow s.block s.inst z) y) e x in
          let r = first-asked (λ (z : PhiEdge). is_arg (args_at a u) z.value.0 || not (leads_from flow z.block.0 s.block.0)) (λ (z : PhiEdge). question s.inst z.block true z.value)
          (λ z. ¬ Found flow z) (Found flow) es y (λ z t. t)
          (subst (λ (z : List Question). First (λ r. ¬ Found flow r) (Found flow) z y) (edges-asked (is_arg (args_at a u)) flow s.block s.inst es) q) in
          let g : EdgeWithin (sizes a u) r.0 × EdgeHit s r.0 = first-has (EdgeWithin (sizes a u)) (λ z. ¬ EdgeHit s z) (EdgeHit s) es r.0 m r.2 in
          let v : r.0.value.0 ≡ y.ask.value = ap (λ (z : Question). z.ask.value) r.1 in
          let t : First (λ z. ¬ EdgeLacks (unit_text_at a u) (label_or (at_place s).block.label) z) (EdgeLacks (unit_text_at a u) (label_or (at_place s).block.label)) (map (edge_text (naming a u)) es)
          (edge_text (naming a u) r.0) =
          first-map (EdgeWithin (sizes a u)) (λ z. ¬ EdgeHit s z) (EdgeHit s) (λ z. ¬ EdgeLacks (unit_text_at a u) (label_or (at_place s).block.label) z)
          (EdgeLacks (unit_text_at a u) (label_or (at_place s).block.label))
          (edge_text (naming a u)) es r.0 (λ z c d b. d (edge-from s z p c b)) (λ z c d. edge-hit s z p c d) m r.2 in
          let b : IsFirstIn (kind_text (kind_at a u)) (unit_text_at a u) (at_place s) (phi_text ty (map (edge_text (naming a u)) es)) (value_name_at a u y.ask.value) =
          first-edges (unit_text_at a u) (at_place s) (kind_at a u) k ty (map (edge_text (naming a u)) es) (value_name_at a u y.ask.value)
          (record {
            edge = edge_text (naming a u) r.0;
            first = first-is (EdgeLacks (unit_text_at a u) (label_or (at_place s).block.label)) (map (edge_text (naming a u)) es)
                (edge_text (naming a u) r.0) t;
            value = ap (value_name_at a u) v;
          }) in
          let c : LacksIn (kind_text (kind_at a u)) (unit_text_at a u) (at_place s) (phi_text ty (map (edge_text (naming a u)) es)) =
          to-edges (unit_text_at a u) (at_place s) (kind_at a u) k ty (map (edge_text (naming a u)) es)
          (some-edge (unit_text_at a u) (at_place s) (label_or (at_place s).block.label) (map (edge_text (naming a u)) es) (edge_text (naming a u) r.0) t) in (
            sym (ap (λ (z : Question). z.inst) r.1),
            subst (λ n. n < value_count a u) v g.0.0,
            subst (λ (z : Inst). IsFirstIn (kind_text (kind_at a u)) (unit_text_at a u) (at_place s) (inst_text (naming a u) z) (value_name_at a u y.ask.value)) (sym e) b,
            subst (λ (z : Inst). LacksIn (kind_text (kind_at a u)) (unit_text_at a u) (at_place s) (inst_text (naming a u) z)) (sym e) c,
          )
      by (by_values f e) =
          let m : Each (λ (v : ValueId). v.0 < value_count a u) (values_used i) = used-within (sizes a u) i l in
          let q : First (λ z. ¬ Found flow z) (Found flow) (value_questions (is_plain (table_at a u) s.before) s.block s.inst (values_used i)) y =
          subst (λ (z : List Question). First (λ r. ¬ Found flow r) (Found flow) z y) (e (is_plain (table_at a u) s.before) (is_arg (args_at a u)) flow s.block s.inst) x in
          let r = first-asked (λ (v : ValueId). is_plain (table_at a u) s.before v.0) (question s.inst s.block false) (λ z. ¬ Found flow z) (Found flow) (values_used i) y (λ z t. t)
          (subst (λ (z : List Question). First (λ r. ¬ Found flow r) (Found flow) z y) (values-asked (is_plain (table_at a u) s.before) s.block s.inst (values_used i)) q) in
          let g : (r.0.0 < value_count a u) × ValueHit s r.0 = first-has (λ (v : ValueId). v.0 < value_count a u) (λ z. ¬ ValueHit s z) (ValueHit s) (values_used i) r.0 m r.2 in
          let v : r.0.0 ≡ y.ask.value = ap (λ (z : Question). z.ask.value) r.1 in
          let t : First (λ z. ¬ ValueLacks (unit_text_at a u) (at_place s) z) (ValueLacks (unit_text_at a u) (at_place s)) (map (value_text (naming a u)) (values_used i)) (value_name_at a u r.0.0) =
          first-map (λ (z : ValueId). z.0 < value_count a u) (λ z. ¬ ValueHit s z) (ValueHit s) (λ z. ¬ ValueLacks (unit_text_at a u) (at_place s) z) (ValueLacks (unit_text_at a u) (at_place s))
          (value_text (naming a u)) (values_used i) r.0 (λ z c d b. d (value-from s z p c b)) (λ z c d. value-to s z p c d) m r.2 in
          let d : First (λ z. ¬ ValueLacks (unit_text_at a u) (at_place s) z) (ValueLacks (unit_text_at a u) (at_place s)) (values_named (inst_text (naming a u) i)) (value_name_at a u y.ask.value) =
          subst (λ (z : List (List ℕ)). First (λ c. ¬ ValueLacks (unit_text_at a u) (at_place s) c) (ValueLacks (unit_text_at a u) (at_place s)) z (value_name_at a u y.ask.value))
          (sym (values_named-by_id (naming a u) i))
          (subst (λ n. First (λ c. ¬ ValueLacks (unit_text_at a u) (at_place s) c) (ValueLacks (unit_text_at a u) (at_place s)) (map (value_text (naming a u)) (values_used i)) (value_name_at a u n)) v
          t) in (
            sym (ap (λ (z : Question). z.inst) r.1),
            subst (λ n. n < value_count a u) v g.0,
            first-values (unit_text_at a u) (at_place s) (kind_at a u) k (inst_text (naming a u) i) (value_name_at a u y.ask.value) (f (naming a u))
                (first-is (ValueLacks (unit_text_at a u) (at_place s)) (values_named (inst_text (naming a u) i)) (value_name_at a u y.ask.value) d),
            to-values (unit_text_at a u) (at_place s) (kind_at a u) k (inst_text (naming a u) i) (f (naming a u))
                (some-value (unit_text_at a u) (at_place s) (values_named (inst_text (naming a u) i)) (value_name_at a u y.ask.value) d),
          )

  -- at a place of the unit
  pub none-place : (s : InstPlace) → Fine a u s → Each (λ q. ¬ Found flow q) (place_questions true (table_at a u) flow s) → ¬ LacksDefinition (unit_text_at a u) (at_place s)
  none-place s f n = none-inst s (inst_at a u s.inst.0) f.in_unit f.placed n

  pub first-place : (s : InstPlace) (y : Question) → Fine a u s → First (λ q. ¬ Found flow q) (Found flow) (place_questions true (table_at a u) flow s) y → AtPlace a u s y
  first-place s y f x = let r = first-inst s (inst_at a u s.inst.0) y f.in_unit f.placed x in record { inst = r.0; within = r.1; operand = r.2; lacks = r.3 }
