-- A reader in order: its place is that of the text that it has read.
use Rattle.std.specs.Prelude.{◌≡◌, ◌<◌, length}
use Rattle.lh_unit.specs.Contents.{UnitText}
use Rattle.lh_unit.specs.Arena.{Arena, IsOpen, OfOpen, contents, unit_count}
use Rattle.lh_unit.specs.Builders.{HasLabels}
use Rattle.lh_unit.specs.Reads as reads
use Rattle.lh_unit.specs.Reads.{ReadState, place_in, outside, in_entity, before_labels, in_empty_block, in_block}
use Rattle.lh_unit.specs.declared.inst.UnitId.{UnitId}
use Rattle.lh_unit.specs.declared.inst.UnitKind.TheVariants as kind
use Rattle.lh_read.specs.declared.places.LinePlace.{LinePlace}
use Rattle.lh_read.specs.declared.places.LinePlace.TheVariants.{Outside, InEntity, BeforeLabels, InEmptyBlock, InBlock}
use Rattle.lh_read.specs.declared.reader.Reader.{Reader}
use Rattle.lh_read.specs.Places.{is_inside}
use Rattle.lh_read.specs.Mentions.{EachNamed}

-- what a module says, and whether a unit is open there
abbrev pub state_at : Arena → LinePlace → ReadState
state_at a p = record { items = contents a; inside = is_inside p }

-- how far a reader has read
abbrev pub state_of : Reader → ReadState
state_of r = state_at r.resolver.module r.place

-- an entity has a block; a function or process has labels, and in a place behind the first of them it has a block
abbrev pub HasOpenBlock : reads.LinePlace → UnitText → Type 0
HasOpenBlock outside t = Unit {0}
HasOpenBlock in_entity t = (t.kind ≡ kind.Entity) × (0 < length t.blocks)
HasOpenBlock before_labels t = HasLabels t.kind
HasOpenBlock in_empty_block t = HasLabels t.kind × (0 < length t.blocks)
HasOpenBlock in_block t = HasLabels t.kind × (0 < length t.blocks)

-- a unit at whose end a line has this place
pub record EndsIn (p : reads.LinePlace) (t : UnitText) : Type 0 where
  pub place : place_in t.kind t.blocks ≡ p
  pub has : HasOpenBlock p t

-- u is the unit that is open, and a line has this place in it
pub record InUnit (a : Arena) (u : UnitId) (p : reads.LinePlace) : Type 0 where
  pub within : u.0 < unit_count a
  pub opened : IsOpen a u
  pub text : OfOpen a (EndsIn p)

-- a line has this place in what the module says
abbrev pub InPlace : Arena → LinePlace → Type 0
InPlace a Outside = Unit {0}
InPlace a (InEntity u) = InUnit a u in_entity
InPlace a (BeforeLabels u) = InUnit a u before_labels
InPlace a (InEmptyBlock u) = InUnit a u in_empty_block
InPlace a (InBlock u) = InUnit a u in_block

-- the reader is in order: its place is that of its module, in which each entry is named by some line
pub record ReaderIsInOrder (r : Reader) : Type 0 where
  pub place : InPlace r.resolver.module r.place
  pub named : EachNamed r.resolver.module
