-- An entity under construction by ids beside the entity of the definition; and what need of a term or of a part adds to it.
use Rattle.std.specs.Prelude.{◌≡◌, ◌⊎◌, ℕ, ◌<◌, List, length, Bool, true, false, Option, Some, None, Result, Ok, Err}
use Rattle.std.specs.Option.{option_map}
use Rattle.lh_unit_names.specs.declared.name.UnitName.{UnitName}
use Rattle.lh_unit.specs.declared.inst.ValueId.{ValueId}
use Rattle.lh_unit.specs.Naming.{Naming, value_text, inst_text}
use Rattle.lh_unit.specs.declared.inst.Inst.{Inst}
use Rattle.lh_term.specs.Tree.{Tree, now_of}
use Rattle.lh_term.specs.Arena.{trees, tree_at, IsIn}
use Rattle.lh_term.specs.declared.part.Part.{Part}
use Rattle.lh_term.specs.declared.term.TermId.{TermId}
use Rattle.lh_term.specs.declared.term.TermNode.{TermNode}
use Rattle.lh_emit_def.specs.Emitted.{Source, Emitted, puts, term_name, part_name, need_part}
use Rattle.lh_emit_def.specs.Needs.{need}
use Rattle.lh_emit_def.specs.Entities.{max_lines, choices_fit}
use Rattle.lh_emit_def.specs.Ways.{TermIsGiven, IsReached, WaitIsGiven}
use Rattle.lh_emit_body.specs.Lines.{most_lines, naming, LinesAreEmitted, LinesHaveRoom, NamesGrow}
use Rattle.lh_emit_source.specs.Origins.{source_by, IsOrigin}
use Rattle.lh_emit.specs.Values.{ValuesNameTerms}
use Rattle.lh_emit.specs.Parts.{KnowsParts}
use Rattle.lh_emit_source.specs.declared.origin.Origin.{Origin}
use Rattle.lh_emit.specs.declared.emitter.Emitter.{Emitter}
use Rattle.lh_emit_body.specs.declared.lines.EmitFault.{EmitFault}
use Rattle.lh_emit_body.specs.declared.lines.EmitFault.TheVariants as fault
pub use Rattle.lh_emit_body.specs.Bodies.{ArgumentsFirst}

-- The instructions by ids are those of the definition; the terms and parts that have names there have values here, of these names; and each term that was emitted has only choices that fit.
pub record IsEmitted (ns : List TermNode) (s : Source) (x : Emitter) (e : Emitted) : Type 0 where
  pub room : LinesHaveRoom x.lines
  pub says : LinesAreEmitted s.args x.lines e
  pub arguments : ArgumentsFirst s.args x.lines.names
  pub terms : ValuesNameTerms ns x.lines.names x.values e
  pub parts : KnowsParts s.args x.lines.names x.parts e
  pub fit : (t : Tree) (n : List ℕ) → e.terms t ≡ Some n → choices_fit t ≡ true

-- ---- need of a term

-- some entity under construction, for which a term is needed
pub record CanNeed (ns : List TermNode) (o : Origin) (x : Emitter) (t : TermId) : Type 0 where
  pub name : UnitName
  pub naming : Naming
  pub emitted : Emitted
  pub origin : IsOrigin naming o
  pub is : IsEmitted ns (source_by name naming o.flat.now) x emitted
  pub within : IsIn ns t
  pub given : TermIsGiven (source_by name naming o.flat.now) (tree_at (trees ns) t)

-- the entity after need of a term, whose value is this
pub record IsNeeded (ms : List TermNode) (s : Source) (x : Tree) (e : Emitted) (y : Emitter) (v : ValueId) : Type 0 where
  pub is : IsEmitted ms s y (need s x e)
  pub name : value_text (naming y.lines.names) v ≡ term_name (need s x e) x
  pub within : v.0 < length y.lines.names
  pub fits : choices_fit x ≡ true

abbrev pub NeedsTerm : List TermNode → Origin → Emitter → TermId → List TermNode → Emitter → ValueId → Type 0
NeedsTerm ns o x t ms y v =
    (name : UnitName) (f : Naming) (e : Emitted) → IsOrigin f o → IsEmitted ns (source_by name f o.flat.now) x e → TermIsGiven (source_by name f o.flat.now) (tree_at (trees ns) t) →
    IsNeeded ms (source_by name f o.flat.now) (tree_at (trees ns) t) e y v

-- a choice of the term has an array that is no type, or the entity would be too long
abbrev pub IsTooLarge : Source → Tree → Emitted → Type 0
IsTooLarge s x e = (choices_fit x ≡ false) ⊎ (max_lines < length (need s x e).lines)

-- A fault has its cause.
abbrev pub NeedsNot : List TermNode → Origin → Emitter → TermId → EmitFault → Type 0
NeedsNot ns o x t fault.OutOfMemory = Unit {0}
NeedsNot ns o x t fault.EntityTooLarge =
    (name : UnitName) (f : Naming) (e : Emitted) → IsOrigin f o → IsEmitted ns (source_by name f o.flat.now) x e → TermIsGiven (source_by name f o.flat.now) (tree_at (trees ns) t) →
    IsTooLarge (source_by name f o.flat.now) (tree_at (trees ns) t) e

-- ---- need of the present value of a part

pub record CanProbe (ns : List TermNode) (o : Origin) (x : Emitter) (p : Part) : Type 0 where
  pub name : UnitName
  pub naming : Naming
  pub emitted : Emitted
  pub origin : IsOrigin naming o
  pub is : IsEmitted ns (source_by name naming o.flat.now) x emitted
  pub given : WaitIsGiven (source_by name naming o.flat.now) p

abbrev pub NeedsNow : List TermNode → Origin → Emitter → Part → List TermNode → Emitter → ValueId → Type 0
NeedsNow ns o x p ms y v =
    (name : UnitName) (f : Naming) (e : Emitted) → IsOrigin f o → IsEmitted ns (source_by name f o.flat.now) x e → WaitIsGiven (source_by name f o.flat.now) p →
    IsNeeded ms (source_by name f o.flat.now) (now_of p) e y v

abbrev pub NeedsNowNot : List TermNode → Origin → Emitter → Part → EmitFault → Type 0
NeedsNowNot ns o x p fault.OutOfMemory = Unit {0}
NeedsNowNot ns o x p fault.EntityTooLarge =
    (name : UnitName) (f : Naming) (e : Emitted) → IsOrigin f o → IsEmitted ns (source_by name f o.flat.now) x e → WaitIsGiven (source_by name f o.flat.now) p →
    max_lines < length (need (source_by name f o.flat.now) (now_of p) e).lines

-- ---- need of a part

pub record CanReach (ns : List TermNode) (o : Origin) (x : Emitter) (p : Part) : Type 0 where
  pub name : UnitName
  pub naming : Naming
  pub emitted : Emitted
  pub origin : IsOrigin naming o
  pub is : IsEmitted ns (source_by name naming o.flat.now) x emitted
  pub given : IsReached (source_by name naming o.flat.now) p

pub record IsPartNeeded (ms : List TermNode) (s : Source) (p : Part) (e : Emitted) (y : Emitter) (v : ValueId) : Type 0 where
  pub is : IsEmitted ms s y (need_part s p e)
  pub name : value_text (naming y.lines.names) v ≡ part_name (need_part s p e) p
  pub within : v.0 < length y.lines.names

abbrev pub NeedsPart : List TermNode → Origin → Emitter → Part → Emitter → ValueId → Type 0
NeedsPart ns o x p y v =
    (name : UnitName) (f : Naming) (e : Emitted) → IsOrigin f o → IsEmitted ns (source_by name f o.flat.now) x e → IsReached (source_by name f o.flat.now) p →
    IsPartNeeded ns (source_by name f o.flat.now) p e y v

abbrev pub NeedsPartNot : List TermNode → Origin → Emitter → Part → EmitFault → Type 0
NeedsPartNot ns o x p fault.OutOfMemory = Unit {0}
NeedsPartNot ns o x p fault.EntityTooLarge =
    (name : UnitName) (f : Naming) (e : Emitted) → IsOrigin f o → IsEmitted ns (source_by name f o.flat.now) x e → IsReached (source_by name f o.flat.now) p →
    max_lines < length (need_part (source_by name f o.flat.now) p e).lines

-- ---- an instruction that gives no value

-- it is added; or there are as many as there may be
abbrev pub PutsInst : Emitter → Inst → Emitter → Result (Unit {0}) EmitFault → Type 0
PutsInst x i y (Ok u) = (ns : List TermNode) (s : Source) (e : Emitted) → IsEmitted ns s x e → IsEmitted ns s y (puts (inst_text (naming x.lines.names) i) e)
PutsInst x i y (Err fault.EntityTooLarge) = length x.lines.lines ≡ most_lines
PutsInst x i y (Err fault.OutOfMemory) = Unit {0}
