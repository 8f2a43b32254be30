-- Need of terms and parts, by the names of a flat text.
use Rattle.std.proofs.Common.{◌≡◌, ℕ, ◌<◌, Bool, true, false, List, length, refl, ap, sym, ◌∙◌, subst, inl, inr, ◌⊎◌}
use Rattle.std.specs.Prelude.{Result, Ok, Err, IfOk, OnOk}
use Rattle.std.specs.Result.{IfErr, IsErrAnd}
use Rattle.lh_unit.specs.Naming.{Naming, value_text}
use Rattle.lh_unit_names.specs.declared.name.UnitName.{UnitName}
use Rattle.lh_unit.specs.declared.inst.ValueId.{ValueId}
use Rattle.lh_term.specs.Tree.{Tree, now_of}
use Rattle.lh_term.specs.Arena.{trees, tree_at, IsIn, OneId, Grows, StandsForTree}
use Rattle.lh_term.specs.declared.part.Part.{Part}
use Rattle.lh_term.specs.declared.term.TermId.{TermId}
use Rattle.lh_term.specs.declared.term.TermNode.{TermNode}
use Rattle.lh_emit_def.specs.Emitted.{Source, Emitted, term_name}
use Rattle.lh_emit_def.specs.Entities.{max_lines, choices_fit}
use Rattle.lh_emit_def.specs.Needs.{need}
use Rattle.lh_emit_def.specs.Ways.{TermIsGiven, IsReached, WaitIsGiven}
use Rattle.lh_emit_body.specs.Lines.{naming, NamesGrow}
use Rattle.lh_emit_source.specs.Origins.{IsOrigin, IsSource, source_by}
use Rattle.lh_emit.specs.Emitting.{IsEmitted, CanNeed, IsNeeded, NeedsTerm, NeedsNot, CanProbe, NeedsNow, NeedsNowNot, CanReach, IsPartNeeded, NeedsPart, NeedsPartNot}
use Rattle.lh_emit.specs.Underway.{CanTakePart, TakesPartOr, CanTakeTerm, HasTerm, TakesTermOr}
use Rattle.lh_emit.specs.declared.emitter.Emitter.{Emitter}
use Rattle.lh_emit_body.specs.declared.lines.EmitFault.{EmitFault}
use Rattle.lh_emit_body.specs.declared.lines.EmitFault.TheVariants as fault
use Rattle.lh_emit_source.specs.declared.origin.Origin.{Origin}
use Rattle.lh_emit.proofs.GivenLines.{emitted-grown}
use Rattle.lh_emit.proofs.SourceSteps.{source-of}

-- ---- terms

pub can-term : (ns : List TermNode) (o : Origin) (x : Emitter) (t : TermId) → CanNeed ns o x t → CanTakeTerm ns o x t
can-term ns o x t c = record { source = source_by c.name c.naming o.flat.now; emitted = c.emitted; origin = source-of o c.name c.naming c.origin; is = c.is; within = c.within; given = c.given }

pub term-grows : (ns : List TermNode) (o : Origin) (x : Emitter) (t : TermId) (ms : List TermNode) (y : Emitter) (r : Result ValueId EmitFault) → TakesTermOr ns o x t ms y r
    → OnOk r (NamesGrow x.lines.names y.lines.names)
term-grows ns o x t ms y (Ok v) h = h.0
term-grows ns o x t ms y (Err f) h = tt

pub term-needed : (ns : List TermNode) (o : Origin) (x : Emitter) (t : TermId) (ms : List TermNode) (y : Emitter) (r : Result ValueId EmitFault) → TakesTermOr ns o x t ms y r
    → IfOk r (λ v. NeedsTerm ns o x t ms y v)
term-needed ns o x t ms y (Ok v) h = λ name f e origin w given. let k = h.1 (source_by name f o.flat.now) e (source-of o name f origin) w given in
    record { is = k.is; name = k.name; within = k.within; fits = k.fits }
term-needed ns o x t ms y (Err f) h = tt

pub term-not : (ns : List TermNode) (o : Origin) (x : Emitter) (t : TermId) (ms : List TermNode) (y : Emitter) (r : Result ValueId EmitFault) → TakesTermOr ns o x t ms y r → IfErr r (NeedsNot ns o x t)
term-not ns o x t ms y (Ok v) h = tt
term-not ns o x t ms y (Err fault.OutOfMemory) h = tt
term-not ns o x t ms y (Err fault.EntityTooLarge) h = λ name f e origin w given. h (source_by name f o.flat.now) e (source-of o name f origin) w given

-- ---- parts

pub can-part : (ns : List TermNode) (o : Origin) (x : Emitter) (p : Part) → CanReach ns o x p → CanTakePart ns o x p
can-part ns o x p c = record { source = source_by c.name c.naming o.flat.now; emitted = c.emitted; origin = source-of o c.name c.naming c.origin; is = c.is; given = c.given }

pub part-grows : (ns : List TermNode) (o : Origin) (x : Emitter) (p : Part) (y : Emitter) (r : Result ValueId EmitFault) → TakesPartOr ns o x p y r → OnOk r (NamesGrow x.lines.names y.lines.names)
part-grows ns o x p y (Ok v) h = h.0
part-grows ns o x p y (Err f) h = tt

pub part-needed : (ns : List TermNode) (o : Origin) (x : Emitter) (p : Part) (y : Emitter) (r : Result ValueId EmitFault) → TakesPartOr ns o x p y r → IfOk r (λ v. NeedsPart ns o x p y v)
part-needed ns o x p y (Ok v) h = λ name f e origin w given. let k = h.1 (source_by name f o.flat.now) e (source-of o name f origin) w given in record { is = k.is; name = k.name; within = k.within }
part-needed ns o x p y (Err f) h = tt

pub part-not : (ns : List TermNode) (o : Origin) (x : Emitter) (p : Part) (y : Emitter) (r : Result ValueId EmitFault) → TakesPartOr ns o x p y r → IfErr r (NeedsPartNot ns o x p)
part-not ns o x p y (Ok v) h = tt
part-not ns o x p y (Err fault.OutOfMemory) h = tt
part-not ns o x p y (Err fault.EntityTooLarge) h = λ name f e origin w given. h (source_by name f o.flat.now) e (source-of o name f origin) w given

-- ---- present values

now-given : (s : Source) (p : Part) → WaitIsGiven s p → TermIsGiven s (now_of p)
now-given s p w = record { typed = w.is_data; parts = w.part }

module _ (ns ms : List TermNode) (o : Origin) (x : Emitter) (p : Part) (t : TermId) (g : Grows ns ms) (one : OneId ms) (st : StandsForTree ms t (now_of p)) where
  pub can-now : CanProbe ns o x p → CanNeed ms o x t
  can-now c = record {
    name = c.name;
    naming = c.naming;
    emitted = c.emitted;
    origin = c.origin;
    is = emitted-grown ns ms (source_by c.name c.naming o.flat.now) x c.emitted g one c.is;
    within = st.is_in;
    given = subst (TermIsGiven (source_by c.name c.naming o.flat.now)) (sym st.tree) (now-given (source_by c.name c.naming o.flat.now) p c.given);
  }

  module _ (ls : List TermNode) (y : Emitter) where
    pub now-needed : (r : Result ValueId EmitFault) → IfOk r (λ v. NeedsTerm ms o x t ls y v) → IfOk r (λ v. NeedsNow ns o x p ls y v)
    now-needed (Err f) h = tt
    now-needed (Ok v) h = λ name f e origin w given.
        let s = source_by name f o.flat.now in
        let k = h name f e origin (emitted-grown ns ms s x e g one w) (subst (TermIsGiven s) (sym st.tree) (now-given s p given)) in
        subst (λ z. IsNeeded ls s z e y v) st.tree k

    pub now-not : (r : Result ValueId EmitFault) → IfErr r (NeedsNot ms o x t) → IfErr r (NeedsNowNot ns o x p)
    now-not (Ok v) h = tt
    now-not (Err fault.OutOfMemory) h = tt
    now-not (Err fault.EntityTooLarge) h = λ name f e origin w given.
        let s = source_by name f o.flat.now in
        by s e (h name f e origin (emitted-grown ns ms s x e g one w) (subst (TermIsGiven s) (sym st.tree) (now-given s p given)))
      where
        by : (s : Source) (e : Emitted) → (choices_fit (tree_at (trees ms) t) ≡ false) ⊎ (max_lines < length (need s (tree_at (trees ms) t) e).lines) → max_lines < length (need s (now_of p) e).lines
        by s e (inl out) = let z : true ≡ false = ap choices_fit (sym st.tree) ∙ out in absurd cc
        by s e (inr far) = subst (λ z. max_lines < length (need s z e).lines) st.tree far

-- nothing is said when memory runs out
pub now-none : (ns : List TermNode) (o : Origin) (x : Emitter) (p : Part) (r : Result ValueId EmitFault) → IsErrAnd r (λ f. f ≡ fault.OutOfMemory) → IfErr r (NeedsNowNot ns o x p)
now-none ns o x p (Ok v) h = tt
now-none ns o x p (Err f) h = subst (NeedsNowNot ns o x p) (sym h) tt
