-- What becomes of a process, from its body, its shape and its flat text.
use Rattle.std.proofs.Common.{◌≡◌, ◌<◌, ◌≤◌, ◌^◌, List, [], ◌∷◌, length, false, Result, Ok, Err, IfOk, refl, ap, sym, ◌∙◌, subst}
use Rattle.std.proofs.lemmas.List.{append-nil}
use Rattle.lh_unit_names.specs.declared.name.UnitName.{UnitName}
use Rattle.lh_unit.specs.Contents.{LineText, BlockText, UnitText}
use Rattle.lh_unit.specs.Naming.{Naming}
use Rattle.lh_unit.specs.Reads.{args_repeat}
use Rattle.lh_unit.specs.Within.{Each}
use Rattle.lh_text_laws.specs.Printable.{results_repeat}
use Rattle.lh_flat_laws.specs.Formed.{IsFormed}
use Rattle.lh_flat.specs.Flat.{FlatText, flat_unit}
use Rattle.lh_flat.specs.Reads.{flat_text}
use Rattle.lh_term.specs.declared.part.Part.{Part}
use Rattle.lh_term.specs.declared.term.TermNode.{TermNode}
use Rattle.lh_edge.specs.Triggers.{EdgeRowTree}
use Rattle.lh_edge.specs.declared.triggers.EdgeRow.{EdgeRow}
use Rattle.lh_region_def.specs.Rows.{Drive}
use Rattle.lh_region.specs.declared.rows.DriveRow.{DriveRow}
use Rattle.lh_shape.specs.Answers.{IsShape}
use Rattle.lh_shape.specs.Shapes.{ShapeText, comb, edge, once, left, shape_of_text}
use Rattle.lh_shape.specs.declared.kinds.Shape.{Shape}
use Rattle.lh_shape.specs.declared.kinds.Shape.TheVariants as shape
use Rattle.lh_shape.specs.declared.reason.Reason.{Reason}
use Rattle.lh_emit_def.specs.Emitted.{Source, PartStep, source_of}
use Rattle.lh_emit_def.specs.Entities.{Emission, emits, entity_with, comb_emission, edge_emission, once_emission}
use Rattle.lh_emit_def.specs.Laws.{IsEntityOf, IsRightEntity, HasApartArgs, CombIsEntity, CombIsRight, EdgeIsEntity, EdgeIsRight, OnceIsEntity, OnceIsRight}
use Rattle.lh_emit_def.specs.Ways.{WaitIsGiven, DriveIsGiven, RowIsGiven}
use Rattle.lh_emit_source.specs.Origins.{source_by, IsOrigin}
use Rattle.lh_emit_shapes.specs.Bodies.{IsBody, BodyOrTooLarge, IsFlatOf, steps_of, DrivesGiven, DrivesCanBeEmitted, IsComb, IsOnceBody, RowsGiven, CanRegister, IsRegisterBody}
use Rattle.lh_emit_source.specs.declared.origin.Origin.{Origin}
use Rattle.lh_emit_body.specs.declared.body.Body.{Body}
use Rattle.lh_emit_body.specs.declared.lines.EmitFault.{EmitFault}
use Rattle.lh_emit_body.specs.declared.lines.EmitFault.TheVariants as emit
use Rattle.lh_lower_def.specs.declared.report.Kind.{Kind}
use Rattle.lh_lower_def.specs.declared.report.Kind.TheVariants as kind
use Rattle.lh_lower_def.specs.Lowering as text
use Rattle.lh_entity_laws.specs.Given.{source_in, CombIsGiven, EdgeIsGiven, OnceIsGiven}
use Rattle.lh_lower.specs.Outcomes.{IsEntityBody}
use Rattle.lh_lower.specs.Outcomes.{IsOutcome, IsOutcomeWith, IsShapeGiven, ProcessHasShape, CanEmit, IsOutcomeOf}
use Rattle.lh_lower.specs.declared.outcome.ProcessOutcome.{ProcessOutcome}
use Rattle.lh_lower.specs.declared.outcome.ProcessOutcome.TheVariants as outcome

-- ---- a body

abbrev first_lines : List BlockText → List LineText
first_lines [] = []
first_lines (b ∷ more) = b.lines

entity-lines : (u : UnitText) (ls ms : List LineText) → entity_with u ls ≡ entity_with u ms → ls ≡ ms
entity-lines u ls ms e = ap (λ (y : UnitText). first_lines y.blocks) e

-- an emitted entity, of these lines
record IsRight (u : UnitText) (lines : List LineText) : Type 0 where
  entity : IsEntityOf u (entity_with u lines)
  right : IsRightEntity (entity_with u lines)

is-body : (u : UnitText) (b : Body) (lines : List LineText) → IsBody u.args b lines → IsRight u lines → args_repeat [] u.args ≡ false → IsEntityBody u b lines
is-body u b lines is r distinct = record {
  is = is;
  short = subst (λ (ls : List LineText). length ls ≤ 65536) (sym (entity-lines u lines r.entity.lines r.entity.is)) r.entity.short;
  once = distinct;
  new_results = ap (results_repeat u.args []) (sym (append-nil lines)) ∙ r.right.new_results;
}

by-answer : (u : UnitText) (k : Kind) (x : Emission) (r : Result Body EmitFault) (o : ProcessOutcome) → BodyOrTooLarge u x r → IsOutcomeWith k r o
    → ((lines : List LineText) → x ≡ emits (entity_with u lines) → IsRight u lines) → args_repeat [] u.args ≡ false
    → IsOutcome u (text.outcome_of_emission k x) o
by-answer u k x (Ok b) o a w right distinct = subst (λ (y : ProcessOutcome). IsOutcome u (text.outcome_of_emission k x) y) (sym w)
    (a.0, ap (text.outcome_of_emission k) a.1, is-body u b a.0 a.2 (right a.0 a.1) distinct)
by-answer u k x (Err emit.EntityTooLarge) o a w right distinct = subst (λ (y : ProcessOutcome). IsOutcome u (text.outcome_of_emission k x) y) (sym w) (ap (text.outcome_of_emission k) a)
by-answer u k x (Err emit.OutOfMemory) o a w right distinct = absurd w

-- ---- a shape

module _ (ns : List TermNode) (o : Origin) (u : UnitText) (f : Naming) where
  abbrev source : Source
  source = source_by u.name f o.flat.now

  record CombHas (waited : List Part) (ds : List DriveRow) (x : ShapeText) : Type 0 where
    texts : List Drive
    is : x ≡ comb waited texts
    drives : DrivesGiven ns u f o ds texts
    waits : Each (WaitIsGiven source) waited

  comb-has : (waited : List Part) (ds : List DriveRow) (x : ShapeText) → IsShape ns (shape.Comb waited ds) x → IsShapeGiven source x → CombHas waited ds x
  comb-has waited ds (comb on xs) i g = record
      { texts = xs; is = ap (λ (w : List Part). comb w xs) (sym i.0); drives = record { are = i.1; given = g.1 }; waits = subst (Each (WaitIsGiven source)) (sym i.0) g.0 }
  comb-has waited ds (edge rs) i g = absurd i
  comb-has waited ds (once xs) i g = absurd i
  comb-has waited ds (left r) i g = absurd i

  record OnceHas (ds : List DriveRow) (x : ShapeText) : Type 0 where
    texts : List Drive
    is : x ≡ once texts
    drives : DrivesGiven ns u f o ds texts

  once-has : (ds : List DriveRow) (x : ShapeText) → IsShape ns (shape.Once ds) x → IsShapeGiven source x → OnceHas ds x
  once-has ds (once xs) i g = record { texts = xs; is = refl; drives = record { are = i; given = g } }
  once-has ds (comb on xs) i g = absurd i
  once-has ds (edge rs) i g = absurd i
  once-has ds (left r) i g = absurd i

  record EdgeHas (rows : List EdgeRow) (x : ShapeText) : Type 0 where
    texts : List EdgeRowTree
    is : x ≡ edge texts
    rows_given : RowsGiven ns u f o rows texts

  edge-has : (rows : List EdgeRow) (x : ShapeText) → IsShape ns (shape.Edge rows) x → IsShapeGiven source x → EdgeHas rows x
  edge-has rows (edge rs) i g = record { texts = rs; is = refl; rows_given = record { are = i; given = g } }
  edge-has rows (comb on xs) i g = absurd i
  edge-has rows (once xs) i g = absurd i
  edge-has rows (left r) i g = absurd i

  left-has : (r : Reason) (x : ShapeText) → IsShape ns (shape.Left r) x → x ≡ left r
  left-has r (left s) i = ap left (sym i)
  left-has r (comb on xs) i = absurd i
  left-has r (once xs) i = absurd i
  left-has r (edge rs) i = absurd i

  module _ (fl : IsFlatOf u f o) (few : length u.args < 2 ^ 32) where
    abbrev steps : Part → List PartStep
    steps = steps_of u f o

    apart : HasApartArgs u
    apart = record { few = few; once = fl.once }

    -- what is emitted for, by the unit's arguments and by those of the flat text
    same-source : source ≡ source_of u steps
    same-source = λ j. record { args = sym fl.arguments j; steps = steps }

    drives-by : (xs : List Drive) → Each (DriveIsGiven source) xs → Each (DriveIsGiven (source_of u steps)) xs
    drives-by xs = subst (λ (s : Source). Each (DriveIsGiven s) xs) same-source

    waits-by : (ps : List Part) → Each (WaitIsGiven source) ps → Each (WaitIsGiven (source_of u steps)) ps
    waits-by ps = subst (λ (s : Source). Each (WaitIsGiven s) ps) same-source

    rows-by : (rs : List EdgeRowTree) → Each (RowIsGiven source) rs → Each (RowIsGiven (source_of u steps)) rs
    rows-by rs = subst (λ (s : Source). Each (RowIsGiven s) rs) same-source

    comb-outcome : CombIsEntity → CombIsRight → (waited : List Part) (ds : List DriveRow) (x : ShapeText) (r : Result Body EmitFault) (y : ProcessOutcome) → IsShape ns (shape.Comb waited ds) x
        → IsShapeGiven source x → IsComb ns o waited ds r → IsOutcomeWith kind.Comb r y
        → IsOutcome u (text.outcome_of_shape u steps x) y
    comb-outcome entity right waited ds x r y i g is w =
        let h = comb-has waited ds x i g in
        let ds' = drives-by h.texts h.drives.given in
        let ws = waits-by waited h.waits in
        subst (λ (z : ShapeText). IsOutcome u (text.outcome_of_shape u steps z) y) (sym h.is)
        (by-answer u kind.Comb (comb_emission u steps waited h.texts) r y (is u f h.texts fl h.drives h.waits) w
        (λ lines q. record { entity = entity u (entity_with u lines) steps waited h.texts q ws ds'; right = right u (entity_with u lines) steps waited h.texts q apart ws ds' }) fl.once)

    edge-outcome : EdgeIsEntity → EdgeIsRight → (rows : List EdgeRow) (x : ShapeText) (r : Result Body EmitFault) (y : ProcessOutcome) → IsShape ns (shape.Edge rows) x → IsShapeGiven source x
        → IsRegisterBody ns o rows r → IsOutcomeWith kind.Edge r y
        → IsOutcome u (text.outcome_of_shape u steps x) y
    edge-outcome entity right rows x r y i g is w =
        let h = edge-has rows x i g in
        let rs = rows-by h.texts h.rows_given.given in
        subst (λ (z : ShapeText). IsOutcome u (text.outcome_of_shape u steps z) y) (sym h.is)
        (by-answer u kind.Edge (edge_emission u steps h.texts) r y (is u f h.texts fl h.rows_given) w
        (λ lines q. record { entity = entity u (entity_with u lines) steps h.texts q rs; right = right u (entity_with u lines) steps h.texts q apart rs }) fl.once)

    once-outcome : OnceIsEntity → OnceIsRight → (ds : List DriveRow) (x : ShapeText) (r : Result Body EmitFault) (y : ProcessOutcome) → IsShape ns (shape.Once ds) x → IsShapeGiven source x → IsOnceBody ns o ds r
        → IsOutcomeWith kind.Once r y
        → IsOutcome u (text.outcome_of_shape u steps x) y
    once-outcome entity right ds x r y i g is w =
        let h = once-has ds x i g in
        let ds' = drives-by h.texts h.drives.given in
        subst (λ (z : ShapeText). IsOutcome u (text.outcome_of_shape u steps z) y) (sym h.is)
        (by-answer u kind.Once (once_emission u steps h.texts) r y (is u f h.texts fl h.drives) w
        (λ lines q. record { entity = entity u (entity_with u lines) steps h.texts q ds'; right = right u (entity_with u lines) steps h.texts q apart ds' }) fl.once)

    left-outcome : (r : Reason) (x : ShapeText) → IsShape ns (shape.Left r) x → IsOutcome u (text.outcome_of_shape u steps x) (outcome.Left r)
    left-outcome r x i = subst (λ (z : ShapeText). IsOutcome u (text.outcome_of_shape u steps z) (outcome.Left r)) (sym (left-has r x i)) refl

-- ---- what may be emitted

pub can-drive : (ns : List TermNode) (o : Origin) (waited : List Part) (ds : List DriveRow) → CanEmit ns o (shape.Comb waited ds) → DrivesCanBeEmitted ns o waited ds
can-drive ns o waited ds c =
    let h = comb-has ns o c.unit c.naming waited ds c.text c.has.is c.has.given in
    record { unit = c.unit; naming = c.naming; flat = c.has.flat; texts = h.texts; drives_given = h.drives; waits_given = h.waits }

pub can-drive-once : (ns : List TermNode) (o : Origin) (ds : List DriveRow) → CanEmit ns o (shape.Once ds) → DrivesCanBeEmitted ns o [] ds
can-drive-once ns o ds c =
    let h = once-has ns o c.unit c.naming ds c.text c.has.is c.has.given in
    record { unit = c.unit; naming = c.naming; flat = c.has.flat; texts = h.texts; drives_given = h.drives; waits_given = tt }

pub can-register : (ns : List TermNode) (o : Origin) (rows : List EdgeRow) → CanEmit ns o (shape.Edge rows) → CanRegister ns o rows
can-register ns o rows c =
    let h = edge-has ns o c.unit c.naming rows c.text c.has.is c.has.given in
    record { unit = c.unit; naming = c.naming; flat = c.has.flat; texts = h.texts; rows_given = h.rows_given }

-- ---- the outcome of a shape

pub comb-of : (ns : List TermNode) (o : Origin) (waited : List Part) (ds : List DriveRow) (r : Result Body EmitFault) (y : ProcessOutcome) → CombIsEntity → CombIsRight → IsComb ns o waited ds r
    → IsOutcomeWith kind.Comb r y → IsOutcomeOf ns o (shape.Comb waited ds) y
comb-of ns o waited ds r y entity right is w u f x h = comb-outcome ns o u f h.flat h.few entity right waited ds x r y h.is h.given is w

pub edge-of : (ns : List TermNode) (o : Origin) (rows : List EdgeRow) (r : Result Body EmitFault) (y : ProcessOutcome) → EdgeIsEntity → EdgeIsRight → IsRegisterBody ns o rows r → IsOutcomeWith kind.Edge r y
    → IsOutcomeOf ns o (shape.Edge rows) y
edge-of ns o rows r y entity right is w u f x h = edge-outcome ns o u f h.flat h.few entity right rows x r y h.is h.given is w

pub once-of : (ns : List TermNode) (o : Origin) (ds : List DriveRow) (r : Result Body EmitFault) (y : ProcessOutcome) → OnceIsEntity → OnceIsRight → IsOnceBody ns o ds r → IsOutcomeWith kind.Once r y
    → IsOutcomeOf ns o (shape.Once ds) y
once-of ns o ds r y entity right is w u f x h = once-outcome ns o u f h.flat h.few entity right ds x r y h.is h.given is w

pub left-of : (ns : List TermNode) (o : Origin) (r : Reason) → IsOutcomeOf ns o (shape.Left r) (outcome.Left r)
left-of ns o r u f x h = left-outcome ns o u f h.flat h.few r x h.is

-- what is so of an answer that is there
pub if-ok : {T E : Type 0} → (r : Result T E) (P Q : T → Type 0) → ((x : T) → P x → Q x) → IfOk r P → IfOk r Q
if-ok (Ok x) P Q h p = h x p
if-ok (Err e) P Q h p = tt

-- ---- the shape of a flat text may be emitted

given-of : CombIsGiven → EdgeIsGiven → OnceIsGiven → (name : UnitName) (t : FlatText) → IsFormed (flat_unit name t) → (x : ShapeText) → shape_of_text t ≡ x → IsShapeGiven (source_in name t) x
given-of combs edges onces name t f (comb waited ds) e = let g = combs name t f waited ds e in (g.waits, g.drives)
given-of combs edges onces name t f (edge rs) e = edges name t f rs e
given-of combs edges onces name t f (once ds) e = (onces name t f ds e).0
given-of combs edges onces name t f (left r) e = tt

pub has-shape : CombIsGiven → EdgeIsGiven → OnceIsGiven → (ns : List TermNode) (o : Origin) (s : Shape) (u : UnitText) (f : Naming) → IsOrigin f o → u.args ≡ (flat_text f o.flat.now).args
    → args_repeat [] u.args ≡ false → length u.args < 2 ^ 32
    → IsShape ns s (shape_of_text (flat_text f o.flat.now)) → ProcessHasShape ns o s u f (shape_of_text (flat_text f o.flat.now))
has-shape combs edges onces ns o s u f origin args distinct few is = record {
  flat = record { origin = origin; arguments = args; once = distinct };
  few = few;
  is = is;
  given = given-of combs edges onces u.name (flat_text f o.flat.now) (origin.names.formed u.name) (shape_of_text (flat_text f o.flat.now)) refl;
}
