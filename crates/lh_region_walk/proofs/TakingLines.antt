-- What a line of a place does that leads nowhere: of whatever is told so far it makes what the definition knows after it.
use Rattle.std.proofs.Common.{◌≡◌, ◌⊎◌, inl, inr, ℕ, ◌+◌, ◌<◌, Bool, true, false, if◌then◌else◌, List, [], ◌∷◌, ◌++◌, length, map, Option, Some, None, IsSome, is_some, refl, ap, sym, ◌∙◌, subst, append_assoc, arith}
use Rattle.std.specs.Option.{option_and_then, option_map}
use Rattle.std.proofs.lemmas.Bool.{false≢true}
use Rattle.std.proofs.lemmas.Option.{same_Some, none-some}
use Rattle.lh_types.specs.Types.{TypeTree, signal_type, IsData}
use Rattle.lh_types.specs.declared.op.Op.{Op}
use Rattle.lh_types.specs.declared.part.Step.{Step}
use Rattle.lh_types.specs.Values.{Datum}
use Rattle.lh_unit_names.specs.declared.name.UnitName.{UnitName}
use Rattle.lh_unit.specs.declared.inst.UnitKind.TheVariants as kind
use Rattle.lh_unit.specs.declared.inst.Inst.{Inst}
use Rattle.lh_unit.specs.declared.inst.Inst.TheVariants as inst
use Rattle.lh_unit.specs.declared.inst.Typed.{Typed}
use Rattle.lh_unit.specs.declared.inst.ValueId.{ValueId}
use Rattle.lh_unit.specs.declared.inst.UnitId.{UnitId}
use Rattle.lh_unit.specs.ById.{operand_ids, maybe_id, values_used}
use Rattle.lh_unit.specs.Contents.{OperandText, LineText, UnitText}
use Rattle.lh_unit_names.specs.Names.{same_name}
use Rattle.lh_unit.specs.Effects.{step_of}
use Rattle.lh_unit.specs.Held.{front}
use Rattle.lh_unit.specs.Kinds.{Use, all_used, data_or_time_needed}
use Rattle.lh_unit.specs.Naming.{Naming, maybe_text, operand_text, inst_text}
use Rattle.lh_unit.specs.Typing.{value_type, is_value_type, result_type, carried, operation_type}
use Rattle.lh_unit.specs.TypingRows.{bit}
use Rattle.lh_unit.specs.WellFormed.{assert_args}
use Rattle.lh_unit.specs.Within.{Each}
use Rattle.lh_unit_names.proofs.NameLists.{same_name-is}
use Rattle.lh_verify_laws.specs.Calls.{ArgumentsAre}
use Rattle.lh_verify_laws.specs.Defined.{IsThere, OperandsThere}
use Rattle.lh_verify_laws.specs.Operands.{IsOf, RowIs}
use Rattle.lh_verify_laws.specs.Parts.{HasPart}
use Rattle.lh_eval.specs.Sound.{IsWrittenRight}
use Rattle.lh_eval.proofs.GivesFit.{constants-fit}
use Rattle.lh_eval.proofs.PartsRead.{carried-some}
use Rattle.lh_verify_laws.proofs.EachItem.{each-split}
use Rattle.lh_verify_laws.proofs.AtPlaces.{place-at}
use Rattle.lh_eval_laws.proofs.OperandsFound.{some-of}
use Rattle.lh_flat_laws.specs.Formed.{IsWithoutCalls}
use Rattle.lh_flat.specs.declared.flat.FlatInst.{FlatInst}
use Rattle.lh_flat.specs.declared.flat.FlatBlock.{FlatBlock}
use Rattle.lh_flat.specs.Flat.{FlatBlockText, as_block}
use Rattle.lh_flat.specs.Below.{ValuesBelow, InstBelow}
use Rattle.lh_flat.specs.Reads.{flat_line_text, flat_block_text}
use Rattle.lh_term.specs.Tree.{Tree, constant, operation_on}
use Rattle.lh_term.specs.Types.{IsTyped, FitsTerm}
use Rattle.lh_term.specs.Make.{make_operation}
use Rattle.lh_term.specs.Arena.{trees, tree_at, StandsForTree, Grows}
use Rattle.lh_term.specs.declared.term.TermId.{TermId}
use Rattle.lh_term.specs.declared.term.TermNode.{TermNode}
use Rattle.lh_term.specs.declared.part.Part.{Part}
use Rattle.lh_term.proofs.Swaps.{stands_grown, grows_on}
use Rattle.lh_flat_parts.specs.declared.step.PartStep.{PartStep as StepOf}
use Rattle.lh_flat_parts.specs.Steps.{step_if, step_on, step_at, part_at}
use Rattle.lh_region_joins.specs.declared.edge.Edge.{Edge}
use Rattle.lh_region_joins.specs.Joins.{IsConditionAt}
use Rattle.lh_region_joins.proofs.Conditions.{grows-none, stands-condition}
use Rattle.lh_region_def.specs.Known.{Known, known_value, known_cell, known_part, Knowledge, with_known, with_given, value_known, cell_known, part_known, values_known}
use Rattle.lh_region_def.specs.Rows as text
use Rattle.lh_region_def.specs.Joins.{RegionEdge}
use Rattle.lh_region_def.specs.Places.{Region as RegionText, Here, Midst, probes, both, drives, asserts, takes}
use Rattle.lh_region_def.specs.Regions.{turns_too_often}
use Rattle.lh_region_def.specs.Typed.{known_type, IsTypedKnown, KnowsTyped, IsCondition}
use Rattle.lh_region_def.specs.Right.{BlockAt}
use Rattle.lh_region_def.proofs.KnowledgeChanges.{phis-more, constant-typed}
use Rattle.lh_region_def.proofs.Operations.{term-type, PartStep}
use Rattle.lh_region_def.proofs.Sites.{Site, block-lines}
use Rattle.lh_region_def.proofs.Steps.{RegionOf, text-at}
use Rattle.lh_region_def.proofs.LineEffects as Taking
use Rattle.lh_region_def.proofs.BlockLines as Leading
use Rattle.lh_region_def.proofs.LineEffects.{step-first}
use Rattle.lh_region_places.specs.declared.state.PlaceState.{PlaceState}
use Rattle.lh_region.specs.declared.ahead.Ahead.{Ahead}
use Rattle.lh_region.specs.declared.rows.Rows.{Rows}
use Rattle.lh_region_walk.specs.declared.walk.Region.{Region}
use Rattle.lh_region_walk.specs.declared.walk.Walk.{Walk}
use Rattle.lh_region_walk.specs.declared.walk.WalkPoint.{WalkPoint}
use Rattle.lh_region.specs.declared.effects.DriveAt.{DriveAt}
use Rattle.lh_region.specs.declared.taking.PlaceValue.{PlaceValue}
use Rattle.lh_region_places.specs.Asked.{Tells, CanAsk, SamePlaces}
use Rattle.lh_region.specs.Taken.{told_of, asks_at, CanAskAll, StillToldAll, IsOperation}
use Rattle.lh_region.specs.Walking.{as_term, term_known, Story, TellsKnown, AreAhead, AreSources}
use Rattle.lh_region.specs.Stands.{AreRows}
use Rattle.lh_region.specs.Gives.{with_term, ValuesDiffer}
use Rattle.lh_region.specs.Effects.{probed, CanDrive, StillDriven, IsProbed, IsDriven, AreAsserted}
use Rattle.lh_region_walk.specs.Lines.{IsThat, IsToldOf, IsOperationOn, GivesWhere, gives_alone, MayTest, StillTested, IsDriveCond}
use Rattle.lh_region_walk.specs.Walked.{process_by, region_text, ContinuesStory, leads_nowhere, course_at, IsBetween, takes_line}
use Rattle.lh_region_places.proofs.PlaceLists.{same-length}
use Rattle.lh_region.proofs.AskedValues.{there-from}
use Rattle.lh_region_places.proofs.ToldValues.{tells-grown}
use Rattle.lh_region_walk.proofs.PartsByIds.{step-of-line, part-there}
use Rattle.lh_region.proofs.RowLists.{rows-grown}
use Rattle.lh_region_walk.proofs.StoryLaws.{continues-given, so-far-grown}
use Rattle.lh_region_walk.proofs.Regional.{region-of, block-at-text, site-of}
use Rattle.lh_region_walk.proofs.Known.{value-term, cell-term, part-of-known, result-low, used-low}
use Rattle.lh_region_walk.proofs.StillLines.{drives-known, takes-still, alone-leads}

-- nothing is done where nothing is given
pub alone-none : (f : Naming) (g : RegionText) (h : Here) (i : Inst) (m : Midst) → gives_alone i ≡ true → takes g h (inst_text f i) None m ≡ m
alone-none f g h (inst.St to value) m e = absurd (false≢true e)
alone-none f g h (inst.Prb a) m e = absurd (false≢true e)
alone-none f g h (inst.Drv to value after cond) m e = absurd (false≢true e)
alone-none f g h (inst.Call v ty args) m e = absurd (false≢true e)
alone-none f g h (inst.Br to) m e = absurd (false≢true e)
alone-none f g h (inst.Branch c zero one) m e = absurd (false≢true e)
alone-none f g h (inst.Wait to after on) m e = absurd (false≢true e)
alone-none f g h inst.Halt m e = absurd (false≢true e)
alone-none f g h (inst.Ret x) m e = absurd (false≢true e)
alone-none f g h _ m e = refl

-- ---- operations

front-parts : (a : Option Tree) (b : Option (List Tree)) (ts : List Tree) → front a b ≡ Some ts → (x : Tree) × (xs : List Tree) × (a ≡ Some x) × (b ≡ Some xs) × (x ∷ xs ≡ ts)
front-parts None b ts e = absurd (none-some ts e)
front-parts (Some x) None ts e = absurd (none-some ts e)
front-parts (Some x) (Some xs) ts e = (x, xs, refl, refl, same_Some (x ∷ xs) ts e)

-- a step takes a part of one signal
step-parts : (o : Op) (args : List Typed) (p : StepOf) → step_on o args ≡ Some p → (y : Typed) × (t : TypeTree) × (s : Step) × (args ≡ y ∷ []) × (step_of o ≡ Some s) × (y.ty ≡ Some (signal_type t))
step-parts o [] p e = absurd (none-some p e)
step-parts o (y ∷ z ∷ more) p e = absurd (none-some p e)
step-parts o (y ∷ []) p e = by (step_of o) refl (option_and_then carried y.ty) refl e
  where
    by : (a : Option Step) → step_of o ≡ a → (b : Option TypeTree) → option_and_then carried y.ty ≡ b → step_if o y.value a b ≡ Some p → (x : Typed) × (t : TypeTree) × (s : Step) × (y ∷ [] ≡ x ∷ [])
        × (step_of o ≡ Some s) × (x.ty ≡ Some (signal_type t))
    by None q None g h = absurd (none-some p h)
    by None q (Some t) g h = absurd (none-some p h)
    by (Some s) q None g h = absurd (none-some p h)
    by (Some s) q (Some t) g h = (y, t, s, refl, q, carried-some y.ty t g)

no-step : (f : Naming) (o : Op) (args : List Typed) → step_on o args ≡ None → (x : OperandText) (s : Step) (t : TypeTree) → map (operand_text f) args ≡ x ∷ [] → step_of o ≡ Some s
    → x.ty ≡ Some (signal_type t) → ⊥
no-step f o [] n x s t e q h = cc
no-step f o (y ∷ z ∷ more) n x s t e q h = cc
no-step f o (y ∷ []) n x s t e q h =
    let g : operand_text f y ≡ x = cc in
    let ty : y.ty ≡ Some (signal_type t) = (λ j. (g j).ty) ∙ h in
    let some : step_on o (y ∷ []) ≡ Some (record { from = y.value; op = o; ty = t }) = λ j. step_if o y.value (q j) (option_and_then carried (ty j)) in
    none-some (record { from = y.value; op = o; ty = t }) (sym n ∙ some)

-- what is known of a signal is no term
part-term : (u : UnitText) (n : List ℕ) (a : Known) (t : TypeTree) → IsTypedKnown u n a → known_type a ≡ signal_type t → as_term a ≡ None
part-term u n (known_value x) t h e = let z : is_value_type (signal_type t) ≡ true = sym (ap is_value_type e) ∙ term-type x h.0 in absurd (false≢true z)
part-term u n (known_cell x) t h e = absurd cc
part-term u n (known_part p) t h e = refl

no-term : (u : UnitText) (k : Knowledge) (n : List ℕ) (ty t : TypeTree) → KnowsTyped u k → value_type u n ≡ Some ty → ty ≡ signal_type t → term_known k n ≡ None
no-term u k n ty t h v e = by (k n) refl
  where
    by : (o : Option Known) → k n ≡ o → option_and_then as_term o ≡ None
    by None q = refl
    by (Some a) q = let z = h n a ty q v in part-term u n a t z.0 (z.1 ∙ e)

tells-part : (s : Story) (i : ℕ) (k : Knowledge) (n : List ℕ) (a : Known) → TellsKnown s i k → term_known k n ≡ None → as_term a ≡ None → TellsKnown s i (with_known k n a)
tells-part s i k n a h none term v low = by (same_name n (s.naming.value_name v)) refl
  where
    by : (b : Bool) → same_name n (s.naming.value_name v) ≡ b → s.told i v ≡ option_and_then as_term (if b then Some a else k (s.naming.value_name v))
    by true e = h v low ∙ ap (term_known k) (sym (same_name-is n (s.naming.value_name v) e)) ∙ none ∙ sym term
    by false e = h v low

-- an instruction that gives nothing, by what it is not
pub alone-other : (f : Naming) (g : RegionText) (h : Here) (i : Inst) (r : Option (List ℕ)) (m : Midst) → gives_alone i ≡ true → ((d : Datum) → i ≡ inst.Const d → ⊥)
    → ((o : Op) (args : List Typed) → i ≡ inst.Pure o args → ⊥) → ((of : Typed) → i ≡ inst.Var of → ⊥) → ((of : Typed) → i ≡ inst.Ld of → ⊥) → takes g h (inst_text f i) r m ≡ m
alone-other f g h (inst.Const d) r m e nc np nv nl = absurd (nc d refl)
alone-other f g h (inst.Pure o args) r m e nc np nv nl = absurd (np o args refl)
alone-other f g h (inst.Var of) r m e nc np nv nl = absurd (nv of refl)
alone-other f g h (inst.Ld of) r m e nc np nv nl = absurd (nl of refl)
alone-other f g h (inst.St to value) r m e nc np nv nl = absurd (false≢true e)
alone-other f g h (inst.Prb a) r m e nc np nv nl = absurd (false≢true e)
alone-other f g h (inst.Drv to value after cond) r m e nc np nv nl = absurd (false≢true e)
alone-other f g h (inst.Call v ty args) r m e nc np nv nl = absurd (false≢true e)
alone-other f g h (inst.Br to) r m e nc np nv nl = absurd (false≢true e)
alone-other f g h (inst.Branch c zero one) r m e nc np nv nl = absurd (false≢true e)
alone-other f g h (inst.Wait to after on) r m e nc np nv nl = absurd (false≢true e)
alone-other f g h inst.Halt r m e nc np nv nl = absurd (false≢true e)
alone-other f g h (inst.Ret x) r m e nc np nv nl = absurd (false≢true e)
alone-other f g h _ r m e nc np nv nl = refl

-- ---- between two lines

module _ (ns : List TermNode) (f : Naming) (name : UnitName) (r : Region) (w : Walk) (at : WalkPoint) (before : Story) (h : Here) (insts : ℕ) (b : FlatBlock) (done rest : List LineText) (m : Midst)
    (l : FlatInst)
    (i : IsBetween ns f name r w at before h insts b done (flat_line_text f l ∷ rest) m) where
  abbrev u : UnitText
  u = process_by name f r.flat.now

  abbrev g : RegionText
  g = region_text f r

  abbrev bt : FlatBlockText
  bt = flat_block_text f at.block b

  abbrev lt : LineText
  lt = flat_line_text f l

  abbrev s : Story
  s = i.midst.now

  pub region : RegionOf u g
  region = region-of f name r i.region

  pub block-is : BlockAt g.blocks at.block bt
  block-is = block-at-text f r i.region at.block b i.stands.block

  pub site : Site u (as_block bt) done lt rest
  site = site-of f name r i.region at h b i.stands done lt rest i.knows.split

  naming-is : s.naming ≡ f
  naming-is = i.midst.continues.naming ∙ i.midst.so_far.naming

  values-are : s.values ≡ r.flat.now.values
  values-are = i.midst.continues.values ∙ i.midst.so_far.values

  pub in-place : at.place < length w.places.items
  in-place = omega (arith, i.midst.is, i.midst.places)

  value-within : (v : ℕ) → v < r.flat.now.values → v < s.values
  value-within v e = subst (λ (n : ℕ). v < n) (sym values-are) e

  differ : ValuesDiffer s
  differ v x a c e =
      i.region.names.values v x (subst (λ (n : ℕ). v < n) values-are a) (subst (λ (n : ℕ). x < n) values-are c)
      (subst (λ (n : Naming). n.value_name v ≡ n.value_name x) naming-is e)

  told-known : (v : ℕ) → v < r.flat.now.values → s.told at.place v ≡ term_known m.known (f.value_name v)
  told-known v e = subst (λ (n : Naming). s.told at.place v ≡ term_known m.known (n.value_name v)) naming-is (i.midst.known v (value-within v e))

  pub told-value : (v : ℕ) (x : Tree) → v < r.flat.now.values → value_known m.known (f.value_name v) ≡ Some x → s.told at.place v ≡ Some x
  told-value v x e q = told-known v e ∙ value-term m.known (f.value_name v) x q

  pub told-cell : (v : ℕ) (x : Tree) → v < r.flat.now.values → cell_known m.known (f.value_name v) ≡ Some x → s.told at.place v ≡ Some x
  told-cell v x e q = told-known v e ∙ cell-term m.known (f.value_name v) x q

  pub can-ask : (v : ℕ) (x : Tree) → s.told at.place v ≡ Some x → CanAsk ns w.places.items v at.place
  can-ask v x q = record { told = s.told; tells = i.midst.tells; there = ap is_some q }

  -- ---- the next line

  -- what the walk keeps
  pub record Keeps (q : Walk) : Type 0 where
    pub ahead : q.ahead ≡ w.ahead
    pub counted : q.insts ≡ w.insts
    pub sources : q.sources ≡ w.sources

  -- what is right of the places and rows after the line
  pub record Did (ms : List TermNode) (q : Walk) (m' : Midst) : Type 0 where
    pub story : Story
    pub continues : ContinuesStory before story
    pub is : story.places ≡ at.place + 1
    pub places : story.places ≡ length q.places.items
    pub tells : Tells ms q.places.items story.told
    pub known : TellsKnown story at.place m'.known
    pub rows : AreRows ms q.rows m'.rows

  pub next : (ms : List TermNode) (q : Walk) → Grows ns ms → leads_nowhere l.inst ≡ true → Keeps q → Did ms q (takes_line f r h l m)
      → IsBetween ms f name r q at before h insts b (done ++ lt ∷ []) rest (takes_line f r h l m)
  next ms q grows inner y d =
      let m' : Midst = takes_line f r h l m in
      let took = Leading.takes-took u g region at.block bt block-is h i.stands.label i.midst.condition done lt rest i.knows.split site m i.knows.typed i.knows.there i.knows.phis.0 in
      let so = so-far-grown ns ms f r w at.turns (at.block + 1) before (course_at insts m) grows i.midst.so_far in
      let still = takes-still f g h l.inst lt.result m inner in
      record {
        region = i.region;
        stands = i.stands;
        midst = record {
          so_far = record {
            naming = so.naming;
            values = so.values;
            blocks = so.blocks;
            here_long = subst (λ (a : Ahead). length a.here.items ≡ length r.flat.now.blocks) (sym y.ahead) so.here_long;
            next_long = subst (λ (a : Ahead). length a.next.items ≡ length r.flat.now.blocks) (sym y.ahead) so.next_long;
            ahead = subst (λ (a : Ahead). AreAhead ms before at.turns (at.block + 1) a m'.edges) (sym y.ahead)
                (subst (λ (es : List RegionEdge). AreAhead ms before at.turns (at.block + 1) w.ahead es) (sym still.edges) so.ahead);
            few = ap turns_too_often still.edges ∙ so.few;
            insts = y.counted ∙ so.insts;
            rows = d.rows;
            sources = subst (λ (es : List Edge). AreSources ms before es m'.rows.ends) (sym y.sources) (subst (AreSources ms before w.sources) (sym still.ends) so.sources);
          };
          now = d.story;
          continues = d.continues;
          was = i.midst.was;
          is = d.is;
          places = d.places;
          tells = d.tells;
          known = d.known;
          cond = stands_grown ns ms grows at.cond h.cond i.midst.cond;
          condition = i.midst.condition;
        };
        knows = record {
          split = i.knows.split ∙ sym (append_assoc done (lt ∷ []) rest);
          typed = took.typed;
          there = took.there;
          phis = phis-more m.known m'.known rest took.stays i.knows.phis.1;
        };
      }

  -- a term is given
  pub given-next : (ms : List TermNode) (q : Walk) (P : Story → Tree → Type 0) (v : ℕ) (a : Known) (x : Tree) → Grows ns ms → leads_nowhere l.inst ≡ true → Keeps q
      → SamePlaces w.places.items q.places.items → v < r.flat.now.values → P s x → as_term a ≡ Some x
      → GivesWhere P ns w.places.items at.place v ms q.places.items → (takes_line f r h l m).known ≡ with_known m.known (f.value_name v) a → AreRows ms q.rows (takes_line f r h l m).rows
      → IsBetween ms f name r q at before h insts b (done ++ lt ∷ []) rest (takes_line f r h l m)
  given-next ms q P v a x grows inner y same e p t gives k rows =
      let z = gives s m.known a x i.midst.tells i.midst.places (sym i.midst.is) (value-within v e) differ p t i.midst.known in
      next ms q grows inner y (record {
        story = with_term s at.place v x;
        continues = continues-given ms q.places.items before s at.place v m.known a x i.midst.was i.midst.continues z;
        is = i.midst.is;
        places = i.midst.places ∙ sym (same-length w.places.items q.places.items same);
        tells = z.tells;
        known = subst (TellsKnown (with_term s at.place v x) at.place) (sym (k ∙ ap (λ (n : Naming). with_known m.known (n.value_name v) a) (sym naming-is))) z.known;
        rows = rows;
      })

  -- the rows stay
  rows-stay : (ms : List TermNode) (q : Walk) → Grows ns ms → q.rows ≡ w.rows → (takes_line f r h l m).rows ≡ m.rows → AreRows ms q.rows (takes_line f r h l m).rows
  rows-stay ms q grows e k =
      subst (λ (x : Rows). AreRows ms x (takes_line f r h l m).rows) (sym e)
      (subst (λ (x : text.Rows). AreRows ms w.rows x) (sym k) (rows-grown ns ms w.rows m.rows grows i.midst.so_far.rows))

  -- nothing is given
  pub same-next : leads_nowhere l.inst ≡ true → (takes_line f r h l m).rows ≡ m.rows → TellsKnown s at.place (takes_line f r h l m).known
      → IsBetween ns f name r w at before h insts b (done ++ lt ∷ []) rest (takes_line f r h l m)
  same-next inner k t =
      next ns w (grows-none ns) inner (record { ahead = refl; counted = refl; sources = refl }) (record {
        story = s;
        continues = i.midst.continues;
        is = i.midst.is;
        places = i.midst.places;
        tells = i.midst.tells;
        known = t;
        rows = rows-stay ns w (grows-none ns) refl k;
      })

  -- ---- what is right of the line itself

  -- its row, part, spelling and operands, where it is this instruction
  pub record Rights (j : Inst) : Type 0 where
    pub row : RowIs u (inst_text f j)
    pub part : HasPart u (inst_text f j)
    pub written : IsWrittenRight (inst_text f j)
    pub calls : IsWithoutCalls u (inst_text f j)
    pub there : OperandsThere kind.Proc u (place-at site.number site.entry (as_block bt) done lt rest) (inst_text f j)

  pub rights : (j : Inst) → l.inst ≡ j → Rights j
  rights j e = subst Rights e (record { row = site.sound.row; part = site.sound.part; written = site.sound.written; calls = site.calls; there = site.there })

  -- its result has a type, that of the instruction
  pub line-type : (v : ValueId) → l.result ≡ Some v → (t : TypeTree) × (value_type u (f.value_name v.0) ≡ Some t) × (result_type lt.inst ≡ Some t)
  line-type v e =
      let P : LineText → Type 0 = λ (x : LineText). (n : List ℕ) → x.result ≡ Some n → IsSome (value_type u n) in
      let all = block-lines P u.blocks at.block (as_block bt) region.formed.given (text-at u g region at.block bt block-is h i.stands.label at.block bt block-is) in
      let here = each-split P done (lt ∷ rest) (subst (Each P) i.knows.split all) in
      let named : lt.result ≡ Some (f.value_name v.0) = ap (maybe_text f) e in
      let t = some-of (value_type u (f.value_name v.0)) (here.1.0 (f.value_name v.0) named) in
      (t.0, t.1, sym (site.sound.gives (f.value_name v.0) named) ∙ t.1)

  -- what is known after it, where it gives this
  known-by : (j : Inst) (v : ValueId) (a : Known) → l.inst ≡ j → l.result ≡ Some v → (takes g h (inst_text f j) (Some (f.value_name v.0)) m).known ≡ with_known m.known (f.value_name v.0) a
      → (takes_line f r h l m).known ≡ with_known m.known (f.value_name v.0) a
  known-by j v a e q k = ap (λ (x : Inst). (takes g h (inst_text f x) (maybe_text f l.result) m).known) e ∙ ap (λ (x : Option ValueId). (takes g h (inst_text f j) (maybe_text f x) m).known) q ∙ k

  rows-by : (j : Inst) → l.inst ≡ j → (takes g h (inst_text f j) (maybe_text f l.result) m).rows ≡ m.rows → (takes_line f r h l m).rows ≡ m.rows
  rows-by j e k = ap (λ (x : Inst). (takes g h (inst_text f x) (maybe_text f l.result) m).rows) e ∙ k

  -- ---- a constant, a variable and what it holds

  pub const-fits : (d : Datum) (v : ValueId) → l.inst ≡ inst.Const d → l.result ≡ Some v → FitsTerm d
  const-fits d v e q =
      let t = line-type v q in
      let f' = constants-fit 0 d (rights (inst.Const d) e).written _ t.0 refl (sym (ap (λ (x : Inst). result_type (inst_text f x)) e) ∙ t.2) in
      (constant-typed d t.0 f'.0 f'.1).0

  -- the text's numbers
  abbrev Low : Type 0
  Low = InstBelow r.flat.now.values (length r.flat.now.blocks) l

  low-result : (v : ValueId) → Low → l.result ≡ Some v → v.0 < r.flat.now.values
  low-result v low e = result-low r.flat.now.values (length r.flat.now.blocks) l v low e

  low-used : (j : Inst) → Low → l.inst ≡ j → ValuesBelow r.flat.now.values (values_used j)
  low-used j low e = used-low r.flat.now.values (length r.flat.now.blocks) l j low e

  -- what comes of the line
  abbrev pub Next : List TermNode → Walk → Type 0
  Next ms q = IsBetween ms f name r q at before h insts b (done ++ lt ∷ []) rest (takes_line f r h l m)

  pub const-next : (ms : List TermNode) (q : Walk) (d : Datum) (v : ValueId) → l.inst ≡ inst.Const d → l.result ≡ Some v → Low → Grows ns ms → Keeps q → q.rows ≡ w.rows
      → SamePlaces w.places.items q.places.items
      → GivesWhere (IsThat (constant d)) ns w.places.items at.place v.0 ms q.places.items → Next ms q
  const-next ms q d v e k low grows y rows same gives =
      given-next ms q (IsThat (constant d)) v.0 (known_value (constant d)) (constant d) grows (ap leads_nowhere e) y same (low-result v low k) refl refl gives
      (known-by (inst.Const d) v (known_value (constant d)) e k refl) (rows-stay ms q grows rows (rows-by (inst.Const d) e refl))

  -- a value that is given becomes known as this
  value-next : (ms : List TermNode) (q : Walk) (j : Inst) (o v : ℕ) (a : Known) (x : Tree) → l.inst ≡ j → leads_nowhere j ≡ true → v < r.flat.now.values → Grows ns ms → Keeps q → q.rows ≡ w.rows
      → SamePlaces w.places.items q.places.items → s.told at.place o ≡ Some x → as_term a ≡ Some x
      → (takes_line f r h l m).known ≡ with_known m.known (f.value_name v) a → (takes g h (inst_text f j) (maybe_text f l.result) m).rows ≡ m.rows
      → GivesWhere (IsToldOf at.place o) ns w.places.items at.place v ms q.places.items → Next ms q
  value-next ms q j o v a x e inner low grows y rows same told term k kr gives =
      given-next ms q (IsToldOf at.place o) v a x grows (ap leads_nowhere e ∙ inner) y same low told term gives k (rows-stay ms q grows rows (rows-by j e kr))

  var-told : (of : Typed) → l.inst ≡ inst.Var of → Low → (x : Tree) × (value_known m.known (f.value_name of.value.0) ≡ Some x) × (s.told at.place of.value.0 ≡ Some x)
  var-told of e low =
      let k = rights (inst.Var of) e in
      let z = Taking.var-known u g region at.block bt block-is h i.stands.label i.midst.condition done lt rest site m i.knows.typed i.knows.there (operand_text f of) k.row k.there in
      (z.1, z.3, told-value of.value.0 z.1 (low-used (inst.Var of) low e).0 z.3)

  var-next : (ms : List TermNode) (q : Walk) (of : Typed) (v : ValueId) → l.inst ≡ inst.Var of → l.result ≡ Some v → Low → Grows ns ms → Keeps q → q.rows ≡ w.rows
      → SamePlaces w.places.items q.places.items
      → GivesWhere (IsToldOf at.place of.value.0) ns w.places.items at.place v.0 ms q.places.items → Next ms q
  var-next ms q of v e k low grows y rows same gives =
      let z = var-told of e low in
      value-next ms q (inst.Var of) of.value.0 v.0 (known_cell z.0) z.0 e refl (low-result v low k) grows y rows same z.2 refl
      (known-by (inst.Var of) v (known_cell z.0) e k (ap (λ (o : Option Tree). with_given m.known (Some (f.value_name v.0)) (option_map known_cell o)) z.1)) refl gives

  ld-told : (of : Typed) → l.inst ≡ inst.Ld of → Low → (x : Tree) × (cell_known m.known (f.value_name of.value.0) ≡ Some x) × (s.told at.place of.value.0 ≡ Some x)
  ld-told of e low =
      let k = rights (inst.Ld of) e in
      let z = Taking.ld-known u g region at.block bt block-is h i.stands.label i.midst.condition done lt rest site m i.knows.typed i.knows.there (operand_text f of) k.row k.there in
      (z.1, z.3, told-cell of.value.0 z.1 (low-used (inst.Ld of) low e).0 z.3)

  ld-next : (ms : List TermNode) (q : Walk) (of : Typed) (v : ValueId) → l.inst ≡ inst.Ld of → l.result ≡ Some v → Low → Grows ns ms → Keeps q → q.rows ≡ w.rows → SamePlaces w.places.items q.places.items
      → GivesWhere (IsToldOf at.place of.value.0) ns w.places.items at.place v.0 ms q.places.items → Next ms q
  ld-next ms q of v e k low grows y rows same gives =
      let z = ld-told of e low in
      value-next ms q (inst.Ld of) of.value.0 v.0 (known_value z.0) z.0 e refl (low-result v low k) grows y rows same z.2 refl
      (known-by (inst.Ld of) v (known_value z.0) e k (ap (λ (o : Option Tree). with_given m.known (Some (f.value_name v.0)) (option_map known_value o)) z.1)) refl gives

  pub st-told : (to : Typed) (value : ValueId) → l.inst ≡ inst.St to value → Low → (x : Tree) × (value_known m.known (f.value_name value.0) ≡ Some x) × (s.told at.place value.0 ≡ Some x)
  st-told to value e low =
      let k = rights (inst.St to value) e in
      let z = Taking.st-known u g region at.block bt block-is h i.stands.label i.midst.condition done lt rest site m i.knows.typed i.knows.there (operand_text f to) (f.value_name value.0) k.row
      k.there in
      (z.2, z.4, told-value value.0 z.2 (low-used (inst.St to value) low e).1.0 z.4)

  pub st-next : (ms : List TermNode) (q : Walk) (to : Typed) (value : ValueId) → l.inst ≡ inst.St to value → Low → Grows ns ms → Keeps q → q.rows ≡ w.rows → SamePlaces w.places.items q.places.items
      → GivesWhere (IsToldOf at.place value.0) ns w.places.items at.place to.value.0 ms q.places.items → Next ms q
  st-next ms q to value e low grows y rows same gives =
      let z = st-told to value e low in
      value-next ms q (inst.St to value) value.0 to.value.0 (known_cell z.0) z.0 e refl (low-used (inst.St to value) low e).0 grows y rows same z.2 refl
      (ap (λ (x : Inst). (takes g h (inst_text f x) (maybe_text f l.result) m).known) e ∙ ap (λ (o : Option Tree). with_given m.known (Some (f.value_name to.value.0)) (option_map known_cell o)) z.1)
      refl gives

  -- ---- an operation

  pub operated : (o : Op) (args : List Typed) → l.inst ≡ inst.Pure o args
      → Taking.Operated u g region at.block bt block-is h i.stands.label i.midst.condition done lt rest site m i.knows.typed i.knows.there o (map (operand_text f) args)
  operated o args e =
      let k = rights (inst.Pure o args) e in
      Taking.op-known u g region at.block bt block-is h i.stands.label i.midst.condition done lt rest site m i.knows.typed i.knows.there o (map (operand_text f) args) (ap (inst_text f) e) k.row k.part
      k.written k.there

  -- the operands have these values
  record OfValues (o : Op) (args : List Typed) (a : Known) : Type 0 where
    values : List Tree
    known : values_known m.known (map (operand_text f) args) ≡ Some values
    is : a ≡ known_value (make_operation o values)
    typed : (t : TypeTree) → operation_type o (map (operand_text f) args) ≡ Some t → IsTyped (operation_on o values)

  of-values : (o : Op) (args : List Typed) (e : l.inst ≡ inst.Pure o args) → step_on o args ≡ None → OfValues o args (operated o args e).known
  of-values o args e none = by (operated o args e).how
    where
      by : ((ts : List Tree) × (values_known m.known (map (operand_text f) args) ≡ Some ts) × ((operated o args e).known ≡ known_value (make_operation o ts))
          × ((t : TypeTree) → operation_type o (map (operand_text f) args) ≡ Some t → IsTyped (operation_on o ts)))
          ⊎ ((p : PartStep u m.known o (map (operand_text f) args)) × ((operated o args e).known ≡ known_part (record { arg = p.whole.arg; lo = p.whole.lo + p.part.lo; ty = p.part.of })))
          → OfValues o args (operated o args e).known
      by (inl x) = record { values = x.0; known = x.1; is = x.2; typed = x.3 }
      by (inr x) = absurd (no-step f o args none x.0.operand x.0.step x.0.part.of x.0.operands x.0.takes x.0.written)

  values-told : (xs : List Typed) (ts : List Tree) → ValuesBelow r.flat.now.values (operand_ids xs) → values_known m.known (map (operand_text f) xs) ≡ Some ts
      → map (told_of s.told) (asks_at at.place xs) ≡ map Some ts
  values-told [] [] low e = refl
  values-told [] (y ∷ ts) low e = absurd cc
  values-told (x ∷ xs) ts low e =
      let z = front-parts (value_known m.known (f.value_name x.value.0)) (values_known m.known (map (operand_text f) xs)) ts e in
      let a = told-value x.value.0 z.0 low.0 z.2 in
      let more = values-told xs z.1 low.1 z.3 in
      (λ j. a j ∷ more j) ∙ ap (map Some) z.4

  pub is-operation : (o : Op) (args : List Typed) (v : ValueId) → l.inst ≡ inst.Pure o args → l.result ≡ Some v → Low → step_on o args ≡ None → IsOperation ns w.places.items at.place o args
  is-operation o args v e k low none =
      let z = of-values o args e none in
      let t = line-type v k in
      record {
        told = s.told;
        tells = i.midst.tells;
        operands = z.values;
        each = values-told args z.values (low-used (inst.Pure o args) low e) z.known;
        fits = (z.typed t.0 (sym (ap (λ (x : Inst). result_type (inst_text f x)) e) ∙ t.2)).1;
      }

  pub pure-next : (ms : List TermNode) (q : Walk) (o : Op) (args : List Typed) (v : ValueId) → l.inst ≡ inst.Pure o args → l.result ≡ Some v → Low → step_on o args ≡ None → Grows ns ms → Keeps q
      → q.rows ≡ w.rows → SamePlaces w.places.items q.places.items
      → GivesWhere (IsOperationOn at.place o args) ns w.places.items at.place v.0 ms q.places.items → Next ms q
  pure-next ms q o args v e k low none grows y rows same gives =
      let z = of-values o args e none in
      let x : Tree = make_operation o z.values in
      given-next ms q (IsOperationOn at.place o args) v.0 (known_value x) x grows (ap leads_nowhere e) y same (low-result v low k)
      (z.values, values-told args z.values (low-used (inst.Pure o args) low e) z.known, refl) refl gives
      (known-by (inst.Pure o args) v (known_value x) e k (ap (λ (a : Option Known). with_given m.known (Some (f.value_name v.0)) a) ((operated o args e).is ∙ ap Some z.is)))
      (rows-stay ms q grows rows (rows-by (inst.Pure o args) e refl))

  -- the step that the table has of the result is that of the line
  pub table-step : (o : Op) (args : List Typed) (v : ValueId) → l.inst ≡ inst.Pure o args → l.result ≡ Some v → Low → step_at r.parts.now.steps.given.items v.0 ≡ step_on o args
  table-step o args v e k low =
      let n = low-result v low k in
      let first = site.first (f.value_name v.0) (ap (maybe_text f) k) in
      i.region.table.steps v.0 n ∙ step-of-line name f r.flat.now i.region.names i.region.below v.0 o args n (low-used (inst.Pure o args) low e) (first.1 ∙ ap (λ (x : Inst). Some (inst_text f x)) e)

  -- a part has no term
  pub part-next : (o : Op) (args : List Typed) (v : ValueId) (p : StepOf) → l.inst ≡ inst.Pure o args → l.result ≡ Some v → step_on o args ≡ Some p → Next ns w
  part-next o args v p e k some =
      let x = step-parts o args p some in
      let t = line-type v k in
      let z = operated o args e in
      let n : List ℕ = f.value_name v.0 in
      let first : operation_type o (map (operand_text f) args) ≡ Some (signal_type x.1) = ap (λ (xs : List Typed). operation_type o (map (operand_text f) xs)) x.3
      ∙ step-first o x.2 (operand_text f x.0 ∷ []) x.4 ∙ x.5 in
      let ty : t.0 ≡ signal_type x.1 = same_Some t.0 (signal_type x.1) (sym t.2 ∙ ap (λ (y : Inst). result_type (inst_text f y)) e ∙ first) in
      let a = z.fits n t.0 (ap (maybe_text f) k) t.1 in
      let known : (takes_line f r h l m).known ≡ with_known m.known n z.known = known-by (inst.Pure o args) v z.known e k (ap (λ (y : Option Known). with_given m.known (Some n) y) z.is) in
      same-next (ap leads_nowhere e) (rows-by (inst.Pure o args) e refl)
      (subst (TellsKnown s at.place) (sym known)
      (tells-part s at.place m.known n z.known i.midst.known (no-term u m.known n t.0 x.1 i.knows.typed t.1 ty) (part-term u n z.known x.1 a.0 (a.1 ∙ ty))))

  -- ---- a probe

  -- the table has the part that is known under a name
  part-is-there : (v : ℕ) (p : Part) (t : TypeTree) → v < r.flat.now.values → value_type u (f.value_name v) ≡ Some t → part_known m.known (f.value_name v) ≡ Some p
      → part_at r.parts.now.parts.items v ≡ Some p
  part-is-there v p t low ty k = part-there name f r.flat.now i.region.names i.region.below r.parts.now i.region.table v p low (part-of-known u m.known (f.value_name v) p t i.knows.typed ty k)

  -- the part that a line probes or drives
  pub record PartIs (v : ℕ) : Type 0 where
    pub part : Part
    pub within : v < length r.parts.now.parts.items
    pub is : part_at r.parts.now.parts.items v ≡ Some part
    pub known : part_known m.known (f.value_name v) ≡ Some part
    pub carries : IsData part.ty

  pub probed-part : (of : Typed) → l.inst ≡ inst.Prb of → Low → PartIs of.value.0
  probed-part of e low =
      let k = rights (inst.Prb of) e in
      let z = Taking.prb-known u g region at.block bt block-is h i.stands.label i.midst.condition done lt rest site m i.knows.typed i.knows.there (operand_text f of) k.row k.there in
      let n = (low-used (inst.Prb of) low e).0 in
      record { part = z.1; within = subst (λ (x : ℕ). of.value.0 < x) (sym i.region.table.long) n; is = part-is-there of.value.0 z.1 (signal_type z.0) n z.6 z.3; known = z.3; carries = z.4 }

  probe-is : (of : Typed) (e : l.inst ≡ inst.Prb of) (low : Low) → takes_line f r h l m ≡ probes g m lt.result (Some (probed-part of e low).part)
  probe-is of e low = ap (λ (x : Inst). takes g h (inst_text f x) lt.result m) e ∙ ap (probes g m lt.result) (probed-part of e low).known

  pub probe-rows : (ms : List TermNode) (q : Walk) (of : Typed) (e : l.inst ≡ inst.Prb of) (low : Low) (p : Part) → part_at r.parts.now.parts.items of.value.0 ≡ Some p → IsProbed ns w.rows ms q.rows p
      → AreRows ms q.rows (takes_line f r h l m).rows
  probe-rows ms q of e low p is probed' =
      let z = probed-part of e low in
      let same : p ≡ z.part = same_Some p z.part (sym is ∙ z.is) in
      subst (λ (x : Midst). AreRows ms q.rows x.rows) (sym (probe-is of e low)) (subst (λ (x : Part). IsProbed ns w.rows ms q.rows x) same probed' g lt.result m i.midst.so_far.rows)

  pub prb-next : (ms : List TermNode) (q : Walk) (of : Typed) (v : ValueId) (p : Part) → l.inst ≡ inst.Prb of → l.result ≡ Some v → Low → part_at r.parts.now.parts.items of.value.0 ≡ Some p → Grows ns ms
      → Keeps q → SamePlaces w.places.items q.places.items
      → GivesWhere (IsThat (probed r.is_past p)) ns w.places.items at.place v.0 ms q.places.items → IsProbed ns w.rows ms q.rows p → Next ms q
  prb-next ms q of v p e k low is grows y same gives rows =
      let z = probed-part of e low in
      let x : Tree = probed r.is_past p in
      let part : z.part ≡ p = same_Some z.part p (sym z.is ∙ is) in
      given-next ms q (IsThat x) v.0 (known_value x) x grows (ap leads_nowhere e) y same (low-result v low k) refl refl gives
      (known-by (inst.Prb of) v (known_value x) e k (ap (λ (o : Option Part). (probes g m (Some (f.value_name v.0)) o).known) (z.known ∙ ap Some part)))
      (probe-rows ms q of e low p is rows)

  -- no name is given to the value
  pub prb-none : (ms : List TermNode) (q : Walk) (of : Typed) (p : Part) → l.inst ≡ inst.Prb of → l.result ≡ None → Low → part_at r.parts.now.parts.items of.value.0 ≡ Some p → Grows ns ms → Keeps q
      → q.places ≡ w.places → IsProbed ns w.rows ms q.rows p → Next ms q
  prb-none ms q of p e k low is grows y same rows =
      let z = probed-part of e low in
      let known : (takes_line f r h l m).known ≡ m.known = ap (λ (x : Midst). x.known) (probe-is of e low) ∙ ap (λ (x : Option ValueId). (probes g m (maybe_text f x) (Some z.part)).known) k in
      next ms q grows (ap leads_nowhere e) y (record {
        story = s;
        continues = i.midst.continues;
        is = i.midst.is;
        places = i.midst.places ∙ (λ j. length (sym same j).items);
        tells = subst (λ (x : List PlaceState). Tells ms x s.told) (λ j. (sym same j).items) (tells-grown ns ms w.places.items s.told grows i.midst.tells);
        known = subst (TellsKnown s at.place) (sym known) i.midst.known;
        rows = probe-rows ms q of e low p is rows;
      })

  -- ---- a drive

  abbrev Drives : (to : Typed) (value after : ValueId) (cond : Option ValueId) → Type 0
  Drives to value after cond = Taking.Driven u g region at.block bt block-is h i.stands.label i.midst.condition done lt rest site m i.knows.typed i.knows.there (operand_text f to)
      (f.value_name value.0) (f.value_name after.0) (maybe_text f cond)

  driven : (to : Typed) (value after : ValueId) (cond : Option ValueId) → l.inst ≡ inst.Drv to value after cond → Drives to value after cond
  driven to value after cond e =
      let k = rights (inst.Drv to value after cond) e in
      Taking.drv-known u g region at.block bt block-is h i.stands.label i.midst.condition done lt rest site m i.knows.typed i.knows.there (operand_text f to) (f.value_name value.0)
      (f.value_name after.0) (maybe_text f cond) k.row k.there

  -- what is told of the value after `if`, and what the drive's condition is by it
  abbrev CondTold : Option ValueId → Tree → Type 0
  CondTold None when = when ≡ h.cond
  CondTold (Some c) when = (t : Tree) × (s.told at.place c.0 ≡ Some t) × IsCondition t × (when ≡ both h.cond t)

  -- what a drive asks for
  pub record DriveTold (to : Typed) (value after : ValueId) (cond : Option ValueId) : Type 0 where
    pub part : PartIs to.value.0
    pub term : Tree
    pub delay : Tree
    pub when : Tree
    pub condition : IsCondition when
    pub value_told : s.told at.place value.0 ≡ Some term
    pub delay_told : s.told at.place after.0 ≡ Some delay
    pub cond_told : CondTold cond when
    pub is : takes_line f r h l m ≡ drives m (Some when) (Some part.part) (Some term) (Some delay)

  pub drive-told : (to : Typed) (value after : ValueId) (cond : Option ValueId) → l.inst ≡ inst.Drv to value after cond → Low → DriveTold to value after cond
  drive-told to value after cond e low =
      let d = driven to value after cond e in
      let n = low-used (inst.Drv to value after cond) low e in
      record {
        part = record {
          part = d.part;
          within = subst (λ (x : ℕ). to.value.0 < x) (sym i.region.table.long) n.0;
          is = part-is-there to.value.0 d.part (signal_type d.part.ty) n.0 d.to_type d.part_is;
          known = d.part_is;
          carries = d.right.part;
        };
        term = d.term;
        delay = d.delay;
        when = d.when;
        condition = d.right.cond;
        value_told = told-value value.0 d.term n.1.0 d.term_is;
        delay_told = told-value after.0 d.delay n.1.1.0 d.delay_is;
        cond_told = by cond n.1.1.1 d.when d.how;
        is = ap (λ (x : Inst). takes g h (inst_text f x) lt.result m) e ∙ (λ j. drives m (d.when_is j) (d.part_is j) (d.term_is j) (d.delay_is j));
      }
    where
      by : (c : Option ValueId) → ValuesBelow r.flat.now.values (maybe_id c) → (when : Tree)
          → ((maybe_text f c ≡ None) × (when ≡ h.cond)) ⊎ ((n : List ℕ) × (t : Tree) × (maybe_text f c ≡ Some n) × (value_known m.known n ≡ Some t) × IsCondition t × IsOf u bit n
          × (when ≡ both h.cond t)) → CondTold c when
      by None n when (inl x) = x.1
      by None n when (inr x) = absurd (none-some x.0 x.2)
      by (Some c) n when (inl x) = absurd (none-some (f.value_name c.0) (sym x.0))
      by (Some c) n when (inr x) = (x.1, told-value c.0 x.1 n.0 (ap (value_known m.known) (same_Some (f.value_name c.0) x.0 x.2) ∙ x.3), x.4, x.6)

  pub may-test : (cond : Option ValueId) (when : Tree) → CondTold cond when → MayTest ns w.places.items cond at.place
  may-test None when c = tt
  may-test (Some v) when c = record { told = s.told; tells = i.midst.tells; cond = c.0; is = c.1; condition = c.2 }

  -- the condition of the drive by ids
  module _ (ms : List TermNode) (qs : List PlaceState) (cond : Option ValueId) (when : Tree) (c : CondTold cond when) where
    pub tested : StillTested ns w.places.items ms qs cond at.place → Tells ms qs s.told
    tested still = by cond c still
      where
        by : (v : Option ValueId) → CondTold v when → StillTested ns w.places.items ms qs v at.place → Tells ms qs s.told
        by None k t = t s.told i.midst.tells tt
        by (Some v) k t = t s.told i.midst.tells (ap is_some k.1)

    pub drives-on : (t : TermId) → IsDriveCond ns w.places.items ms cond at.place (tree_at (trees ns) at.cond) t → StandsForTree ms t when
    drives-on t made = by cond c made
      where
        by : (v : Option ValueId) → CondTold v when → IsDriveCond ns w.places.items ms v at.place (tree_at (trees ns) at.cond) t → StandsForTree ms t when
        by None k d = subst (StandsForTree ms t) (i.midst.cond.tree ∙ sym k) d
        by (Some v) k d = subst (StandsForTree ms t) (ap (λ (x : Tree). both x k.0) i.midst.cond.tree ∙ sym k.3) (d s.told k.0 i.midst.tells k.1)

  module _ (to : Typed) (value after : ValueId) (cond : Option ValueId) (d : DriveTold to value after cond) (ms : List TermNode) (qs : List PlaceState) (tells : Tells ms qs s.told) (t : TermId)
      (st : StandsForTree ms t d.when) where
    abbrev at-drive : DriveAt
    at-drive = record { place = at.place; cond = t; value = value.0; after = after.0 }

    pub drive-condition : IsConditionAt ms t
    drive-condition = stands-condition ms t d.when st d.condition

    pub can-drive : CanDrive ms qs at-drive
    can-drive = record { told = s.told; tells = tells; value = ap is_some d.value_told; delay = ap is_some d.delay_told }

    pub drive-next : (os : List TermNode) (q : Walk) (p : Part) → l.inst ≡ inst.Drv to value after cond → part_at r.parts.now.parts.items to.value.0 ≡ Some p → Grows ns ms → Grows ms os → Keeps q
        → SamePlaces w.places.items qs → SamePlaces qs q.places.items
        → StillDriven ms qs os q.places.items at-drive → IsDriven ms qs w.rows os q.rows at-drive p → Next os q
    drive-next os q p e is g1 g2 y same1 same2 still rows =
        let part : p ≡ d.part.part = same_Some p d.part.part (sym is ∙ d.part.is) in
        let tells' = still s.told tells (ap is_some d.value_told) (ap is_some d.delay_told) in
        let more = rows s.told d.term d.delay m tells d.value_told d.delay_told (rows-grown ns ms w.rows m.rows g1 i.midst.so_far.rows) in
        let known : (takes_line f r h l m).known ≡ m.known = ap (λ (x : Midst). x.known) d.is ∙ drives-known m d.when d.part.part d.term d.delay in
        next os q (grows_on ns ms os g1 g2) (ap leads_nowhere e) y (record {
          story = s;
          continues = i.midst.continues;
          is = i.midst.is;
          places = i.midst.places ∙ sym (same-length w.places.items qs same1) ∙ sym (same-length qs q.places.items same2);
          tells = tells';
          known = subst (TellsKnown s at.place) (sym known) i.midst.known;
          rows = subst (λ (x : Midst). AreRows os q.rows x.rows) ((λ j. drives m (Some (st.tree j)) (Some (part j)) (Some d.term) (Some d.delay)) ∙ sym d.is) more;
        })

  -- ---- an assertion

  pub record AssertTold (args : List Typed) : Type 0 where
    pub values : List Tree
    pub known : values_known m.known (map (operand_text f) args) ≡ Some values
    pub told : map (told_of s.told) (asks_at at.place args) ≡ map Some values

  pub assert-told : (v : UnitId) (ty : TypeTree) (args : List Typed) → l.inst ≡ inst.Call v ty args → Low → AssertTold args
  assert-told v ty args e low = let k = rights (inst.Call v ty args) e in by args k.calls.1.args_are k.there (low-used (inst.Call v ty args) low e)
    where
      by : (xs : List Typed) → ArgumentsAre u (map (operand_text f) xs) assert_args
          → Each (IsThere u (as_block bt) done) (map (λ (x : Use). x.value) (all_used data_or_time_needed (map (operand_text f) xs))) → ValuesBelow r.flat.now.values (operand_ids xs) → AssertTold xs
      by [] a t n = absurd a
      by (x ∷ y ∷ more) a t n = absurd a.1
      by (x ∷ []) a t n =
          let z = Taking.bit-known u g region at.block bt block-is h i.stands.label i.midst.condition done lt rest site m i.knows.typed i.knows.there (f.value_name x.value.0) a.0 t.0 in
          let known : values_known m.known (map (operand_text f) (x ∷ [])) ≡ Some (z.0 ∷ []) = ap (λ (o : Option Tree). front o (Some [])) z.1 in
          record { values = z.0 ∷ []; known = known; told = values-told (x ∷ []) (z.0 ∷ []) n known }

  pub can-assert : (args : List Typed) → AssertTold args → CanAskAll ns w.places.items (asks_at at.place args)
  can-assert args a = record { told = s.told; tells = i.midst.tells; within = each-in args; there = there-from s.told (asks_at at.place args) a.values a.told }
    where
      each-in : (xs : List Typed) → Each (λ (x : PlaceValue). x.place < length w.places.items) (asks_at at.place xs)
      each-in [] = tt
      each-in (x ∷ xs) = (in-place, each-in xs)

  pub assert-next : (ms : List TermNode) (q : Walk) (v : UnitId) (ty : TypeTree) (args : List Typed) → l.inst ≡ inst.Call v ty args → Low → Grows ns ms → Keeps q → SamePlaces w.places.items q.places.items
      → StillToldAll ns w.places.items ms q.places.items (asks_at at.place args) → AreAsserted ns w.places.items w.rows ms q.rows at.place args → Next ms q
  assert-next ms q v ty args e low grows y same still rows =
      let a = assert-told v ty args e low in
      let done' : takes_line f r h l m ≡ asserts m (Some a.values) = ap (λ (x : Inst). takes g h (inst_text f x) lt.result m) e ∙ ap (asserts m) a.known in
      let known : (takes_line f r h l m).known ≡ m.known = ap (λ (x : Midst). x.known) done' in
      next ms q grows (ap leads_nowhere e) y (record {
        story = s;
        continues = i.midst.continues;
        is = i.midst.is;
        places = i.midst.places ∙ sym (same-length w.places.items q.places.items same);
        tells = still s.told i.midst.tells (there-from s.told (asks_at at.place args) a.values a.told);
        known = subst (TellsKnown s at.place) (sym known) i.midst.known;
        rows = subst (λ (x : Midst). AreRows ms q.rows x.rows) (sym done') (rows s.told a.values m i.midst.tells a.told i.midst.so_far.rows);
      })

  -- ---- where nothing is given

  pub none-next : gives_alone l.inst ≡ true → l.result ≡ None → Next ns w
  none-next alone e =
      let same : takes_line f r h l m ≡ m = ap (λ (x : Option ValueId). takes g h (inst_text f l.inst) (maybe_text f x) m) e ∙ alone-none f g h l.inst m alone in
      same-next (alone-leads l.inst alone) (λ j. (same j).rows) (subst (TellsKnown s at.place) (λ j. (sym same j).known) i.midst.known)

  pub other-next : gives_alone l.inst ≡ true → ((d : Datum) → l.inst ≡ inst.Const d → ⊥) → ((o : Op) (args : List Typed) → l.inst ≡ inst.Pure o args → ⊥) → ((of : Typed) → l.inst ≡ inst.Var of → ⊥)
      → ((of : Typed) → l.inst ≡ inst.Ld of → ⊥) → Next ns w
  other-next alone nc np nv nl =
      let same : takes_line f r h l m ≡ m = alone-other f g h l.inst lt.result m alone nc np nv nl in
      same-next (alone-leads l.inst alone) (λ j. (same j).rows) (subst (TellsKnown s at.place) (λ j. (sym same j).known) i.midst.known)

  -- a variable is made, or what it holds is asked for
  pub either-told : (of : Typed) → (l.inst ≡ inst.Var of) ⊎ (l.inst ≡ inst.Ld of) → Low → CanAsk ns w.places.items of.value.0 at.place
  either-told of (inl e) low = let z = var-told of e low in can-ask of.value.0 z.0 z.2
  either-told of (inr e) low = let z = ld-told of e low in can-ask of.value.0 z.0 z.2

  pub either-next : (ms : List TermNode) (q : Walk) (of : Typed) (v : ValueId) → (l.inst ≡ inst.Var of) ⊎ (l.inst ≡ inst.Ld of) → l.result ≡ Some v → Low → Grows ns ms → Keeps q → q.rows ≡ w.rows
      → SamePlaces w.places.items q.places.items
      → GivesWhere (IsToldOf at.place of.value.0) ns w.places.items at.place v.0 ms q.places.items → Next ms q
  either-next ms q of v (inl e) k low grows y rows same gives = var-next ms q of v e k low grows y rows same gives
  either-next ms q of v (inr e) k low grows y rows same gives = ld-next ms q of v e k low grows y rows same gives
