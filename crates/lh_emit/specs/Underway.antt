-- An entity under construction, with what is still to be done; and what the steps of the work do.
use Rattle.std.specs.Prelude.{Result, Ok, Err, Option, None, slice_index_or, ◌≡◌, ◌⊎◌, ℕ, ◌<◌, List, [], ◌∷◌, ◌++◌, length, map, Bool, true, false}
use Rattle.lh_unit.specs.Naming.{value_text, inst_text}
use Rattle.lh_unit.specs.Within.{Each, InstWithin}
use Rattle.lh_unit.specs.declared.inst.ValueId.{ValueId}
use Rattle.lh_unit.specs.declared.inst.Inst.{Inst}
use Rattle.lh_term.specs.Tree.{Tree}
use Rattle.lh_term.specs.Arena.{trees, tree_at, trees_at, IsIn, AreIn}
use Rattle.lh_term.specs.declared.part.Part.{Part}
use Rattle.lh_term.specs.declared.term.TermId.{TermId}
use Rattle.lh_term.specs.declared.term.TermNode.{TermNode}
use Rattle.lh_emit_def.specs.Emitted.{Source, Emitted, gives_term, term_name, part_name, need_part}
use Rattle.lh_emit_def.specs.Needs.{need}
use Rattle.lh_emit_def.specs.Entities.{max_lines, choices_fit}
use Rattle.lh_emit_def.specs.Ways.{TermIsGiven, IsReached}
use Rattle.lh_emit_body.specs.Lines.{naming, values_alone, NamesGrow}
use Rattle.lh_emit_source.specs.Origins.{IsSource, args_of}
use Rattle.lh_emit.specs.Parts.{part_in}
use Rattle.lh_emit.specs.Whole.{is_whole}
use Rattle.lh_types.specs.Types.{IsLimited}
use Rattle.lh_unit.specs.declared.inst.Arg.{Arg}
use Rattle.lh_emit.specs.Emitting.{IsEmitted}
use Rattle.lh_emit.specs.Tasks.{made_of, makes, has_pair, Step, need_of, make_of, takes, HasName, TermsAreReady, steps_size}
use Rattle.lh_emit.specs.declared.emitter.Emitter.{Emitter}
use Rattle.lh_emit_body.specs.declared.lines.EmitFault.{EmitFault}
use Rattle.lh_emit_body.specs.declared.lines.EmitFault.TheVariants as fault
use Rattle.lh_emit_source.specs.declared.origin.Origin.{Origin}
use Rattle.lh_emit.specs.declared.tasks.Task.{Task}
use Rattle.lh_emit.specs.declared.tasks.Task.TheVariants.{Need, Make}

-- ---- parts

-- some entity under construction, for which a part is needed
pub record CanTakePart (ns : List TermNode) (o : Origin) (x : Emitter) (p : Part) : Type 0 where
  pub source : Source
  pub emitted : Emitted
  pub origin : IsSource o source
  pub is : IsEmitted ns source x emitted
  pub given : IsReached source p

pub record EmitsPart (ns : List TermNode) (s : Source) (p : Part) (e : Emitted) (y : Emitter) (v : ValueId) : Type 0 where
  pub is : IsEmitted ns s y (need_part s p e)
  pub name : value_text (naming y.lines.names) v ≡ part_name (need_part s p e) p
  pub within : v.0 < length y.lines.names

abbrev pub GivesPart : List TermNode → Origin → Emitter → Part → Emitter → ValueId → Type 0
GivesPart ns o x p y v = (s : Source) (e : Emitted) → IsSource o s → IsEmitted ns s x e → IsReached s p → EmitsPart ns s p e y v

abbrev pub GivesNoPart : List TermNode → Origin → Emitter → Part → EmitFault → Type 0
GivesNoPart ns o x p fault.OutOfMemory = Unit {0}
GivesNoPart ns o x p fault.EntityTooLarge = (s : Source) (e : Emitted) → IsSource o s → IsEmitted ns s x e → IsReached s p → max_lines < length (need_part s p e).lines

-- the names grow, and the value is that of the part; or there is a cause
abbrev pub TakesPartOr : List TermNode → Origin → Emitter → Part → Emitter → Result ValueId EmitFault → Type 0
TakesPartOr ns o x p y (Ok v) = NamesGrow x.lines.names y.lines.names × GivesPart ns o x p y v
TakesPartOr ns o x p y (Err f) = GivesNoPart ns o x p f

-- whether a part is the whole of its argument, among these
pub record Looks (args : List Arg) (p : Part) (b : Bool) : Type 0 where
  pub arg : Arg
  pub whole : b ≡ is_whole p (slice_index_or args p.arg arg).ty
  pub limited : IsLimited (slice_index_or args p.arg arg).ty

-- a part that has no value yet
pub record IsNewPart (o : Origin) (x : Emitter) (p : Part) : Type 0 where
  pub looks : Looks (args_of o) p false
  pub none : part_in x.parts p ≡ None

-- ---- tasks

-- the step that a task is
abbrev pub step_of : List TermNode → Task → Step
step_of ns (Need t) = need_of (tree_at (trees ns) t)
step_of ns (Make t) = make_of (tree_at (trees ns) t)

-- the steps that tasks are
abbrev pub steps_at : List TermNode → List Task → List Step
steps_at ns xs = map (step_of ns) xs

abbrev pub term_of : Task → TermId
term_of (Need t) = t
term_of (Make t) = t

-- of tasks on a stack the last one is the first to be done
abbrev pub tops : List Task → List Task
tops [] = []
tops (x ∷ xs) = tops xs ++ x ∷ []

-- the term of a task is of the arena, typed, and its parts are reached
pub record IsTask (ns : List TermNode) (s : Source) (x : Task) : Type 0 where
  pub is_in : IsIn ns (term_of x)
  pub given : TermIsGiven s (tree_at (trees ns) (term_of x))

abbrev pub FitsTask : List TermNode → Task → Type 0
FitsTask ns x = choices_fit (tree_at (trees ns) (term_of x)) ≡ true

-- an entity under construction, and what is still to be done, in the order of its turn
pub record IsUnderway (ns : List TermNode) (s : Source) (x : Emitter) (left : List Task) (e : Emitted) : Type 0 where
  pub is : IsEmitted ns s x e
  pub ready : TermsAreReady s (steps_at ns left) e
  pub given : Each (IsTask ns s) left

pub record CanGo (ns : List TermNode) (o : Origin) (x : Emitter) (left : List Task) : Type 0 where
  pub source : Source
  pub emitted : Emitted
  pub origin : IsSource o source
  pub is : IsUnderway ns source x left emitted

-- After some of the work the rest gives the same. Where all choices fit at first, they fit in what is left.
pub record HasGone (ns : List TermNode) (s : Source) (left : List Task) (e : Emitted) (ms : List TermNode) (y : Emitter) (rest : List Task) : Type 0 where
  pub emitted : Emitted
  pub is : IsUnderway ms s y rest emitted
  pub same : takes s (steps_at ms rest) emitted ≡ takes s (steps_at ns left) e
  pub fit : Each (FitsTask ns) left → Each (FitsTask ms) rest

abbrev pub Goes : List TermNode → Origin → Emitter → List Task → List TermNode → Emitter → List Task → Type 0
Goes ns o x left ms y rest = (s : Source) (e : Emitted) → IsSource o s → IsUnderway ns s x left e → HasGone ns s left e ms y rest

-- a choice that is still to be done has an array that is no type, or the entity would be too long
abbrev pub IsTooMuch : List TermNode → Source → List Task → Emitted → Type 0
IsTooMuch ns s left e = (Each (FitsTask ns) left → ⊥) ⊎ (max_lines < length (takes s (steps_at ns left) e).lines)

abbrev pub EmitFails : List TermNode → Origin → Emitter → List Task → EmitFault → Type 0
EmitFails ns o x left fault.OutOfMemory = Unit {0}
EmitFails ns o x left fault.EntityTooLarge = (s : Source) (e : Emitted) → IsSource o s → IsUnderway ns s x left e → IsTooMuch ns s left e

-- the work goes on, and less is left; or there is a cause
abbrev pub GoesOr : List TermNode → Origin → Emitter → List Task → List TermNode → Emitter → List Task → Result (Unit {0}) EmitFault → Type 0
GoesOr ns o x left ms y rest (Ok u) = NamesGrow x.lines.names y.lines.names × Goes ns o x left ms y rest × (steps_size (steps_at ms rest) < steps_size (steps_at ns left))
GoesOr ns o x left ms y rest (Err f) = EmitFails ns o x left f

-- ---- one term

-- some entity under construction, in which all has a name that a term is made of
pub record IsReady (ns : List TermNode) (s : Source) (x : Emitter) (t : TermId) (e : Emitted) : Type 0 where
  pub is : IsEmitted ns s x e
  pub is_in : IsIn ns t
  pub given : TermIsGiven s (tree_at (trees ns) t)
  pub made : Each (HasName e) (made_of (tree_at (trees ns) t))

pub record CanMake (ns : List TermNode) (o : Origin) (x : Emitter) (t : TermId) : Type 0 where
  pub source : Source
  pub emitted : Emitted
  pub origin : IsSource o source
  pub is : IsReady ns source x t emitted

-- the instruction that gives a term, in the entity after need of its part
pub record IsInstOfTerm (ns : List TermNode) (s : Source) (t : TermId) (e : Emitted) (ms : List TermNode) (y : Emitter) (i : Inst) : Type 0 where
  pub emitted : Emitted
  pub is : IsEmitted ms s y emitted
  pub makes : makes s (tree_at (trees ns) t) e ≡ gives_term s (tree_at (trees ns) t) (inst_text (naming y.lines.names) i) emitted
  pub within : InstWithin (values_alone (length y.lines.names)) i
  pub fits : choices_fit (tree_at (trees ns) t) ≡ true

abbrev pub GivesInst : List TermNode → Origin → Emitter → TermId → List TermNode → Emitter → Inst → Type 0
GivesInst ns o x t ms y i = (s : Source) (e : Emitted) → IsSource o s → IsReady ns s x t e → IsInstOfTerm ns s t e ms y i

-- the entity after the instruction
pub record TermIsMade (ns : List TermNode) (s : Source) (t : TermId) (e : Emitted) (ms : List TermNode) (y : Emitter) : Type 0 where
  pub is : IsEmitted ms s y (makes s (tree_at (trees ns) t) e)

abbrev pub MakesTerm : List TermNode → Origin → Emitter → TermId → List TermNode → Emitter → Type 0
MakesTerm ns o x t ms y = (s : Source) (e : Emitted) → IsSource o s → IsReady ns s x t e → TermIsMade ns s t e ms y

abbrev pub IsTooMuchToMake : Source → Tree → Emitted → Type 0
IsTooMuchToMake s t e = (choices_fit t ≡ false) ⊎ (max_lines < length (makes s t e).lines)

abbrev pub MakesNot : List TermNode → Origin → Emitter → TermId → EmitFault → Type 0
MakesNot ns o x t fault.OutOfMemory = Unit {0}
MakesNot ns o x t fault.EntityTooLarge = (s : Source) (e : Emitted) → IsSource o s → IsReady ns s x t e → IsTooMuchToMake s (tree_at (trees ns) t) e

abbrev pub GivesInstOr : List TermNode → Origin → Emitter → TermId → List TermNode → Emitter → Result Inst EmitFault → Type 0
GivesInstOr ns o x t ms y (Ok i) = NamesGrow x.lines.names y.lines.names × GivesInst ns o x t ms y i
GivesInstOr ns o x t ms y (Err f) = MakesNot ns o x t f

abbrev pub MakesOr : List TermNode → Origin → Emitter → TermId → List TermNode → Emitter → Result (Unit {0}) EmitFault → Type 0
MakesOr ns o x t ms y (Ok u) = NamesGrow x.lines.names y.lines.names × MakesTerm ns o x t ms y
MakesOr ns o x t ms y (Err f) = MakesNot ns o x t f

-- ---- all

-- After all the work the term has its value; what was done is need of it.
pub record HasTerm (ns : List TermNode) (s : Source) (t : TermId) (e : Emitted) (ms : List TermNode) (y : Emitter) (v : ValueId) : Type 0 where
  pub is : IsEmitted ms s y (need s (tree_at (trees ns) t) e)
  pub name : value_text (naming y.lines.names) v ≡ term_name (need s (tree_at (trees ns) t) e) (tree_at (trees ns) t)
  pub within : v.0 < length y.lines.names
  pub fits : choices_fit (tree_at (trees ns) t) ≡ true

-- some entity under construction, for which a term is needed
pub record CanTakeTerm (ns : List TermNode) (o : Origin) (x : Emitter) (t : TermId) : Type 0 where
  pub source : Source
  pub emitted : Emitted
  pub origin : IsSource o source
  pub is : IsEmitted ns source x emitted
  pub within : IsIn ns t
  pub given : TermIsGiven source (tree_at (trees ns) t)

abbrev pub EmitsTerm : List TermNode → Origin → Emitter → TermId → List TermNode → Emitter → ValueId → Type 0
EmitsTerm ns o x t ms y v = (s : Source) (e : Emitted) → IsSource o s → IsEmitted ns s x e → TermIsGiven s (tree_at (trees ns) t) → HasTerm ns s t e ms y v

abbrev pub GivesNoTerm : List TermNode → Origin → Emitter → TermId → EmitFault → Type 0
GivesNoTerm ns o x t fault.OutOfMemory = Unit {0}
GivesNoTerm ns o x t fault.EntityTooLarge =
    (s : Source) (e : Emitted) → IsSource o s → IsEmitted ns s x e → TermIsGiven s (tree_at (trees ns) t) →
    (choices_fit (tree_at (trees ns) t) ≡ false) ⊎ (max_lines < length (need s (tree_at (trees ns) t) e).lines)

abbrev pub TakesTermOr : List TermNode → Origin → Emitter → TermId → List TermNode → Emitter → Result ValueId EmitFault → Type 0
TakesTermOr ns o x t ms y (Ok v) = NamesGrow x.lines.names y.lines.names × EmitsTerm ns o x t ms y v
TakesTermOr ns o x t ms y (Err f) = GivesNoTerm ns o x t f
