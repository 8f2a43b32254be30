-- What a flat text by ids says, with names in place of ids.
use Rattle.std.specs.Prelude.{◌≡◌, ℕ, ◌+◌, ◌<◌, List, [], ◌∷◌, length, map, Option, Some, None, Result, Ok, Err}
use Rattle.std.specs.Option.{option_map}
use Rattle.lh_unit.specs.Contents.{EdgeText, LineText}
use Rattle.lh_unit.specs.Naming.{Naming, value_text, maybe_text, arg_text, inst_text}
use Rattle.lh_unit.specs.Arena.{Arena, contents, unit_name_at, unit_text_at}
use Rattle.lh_flat.specs.declared.flat.MergeEdge.{MergeEdge}
use Rattle.lh_flat.specs.declared.flat.Merge.{Merge}
use Rattle.lh_flat.specs.declared.flat.FlatInst.{FlatInst}
use Rattle.lh_flat.specs.declared.flat.FlatBlock.{FlatBlock}
use Rattle.lh_flat.specs.declared.flat.Flat.{Flat}
use Rattle.lh_flat.specs.declared.fault.FlatFault.{FlatFault}
use Rattle.lh_flat.specs.declared.fault.FlatFault.TheVariants as fault
use Rattle.lh_flat.specs.Flat.{MergeText, FlatBlockText, FlatText, FlatRefusal, recursive_call, call_too_deep, flat_too_large, Flattened, refused, flattened, flat_of}

abbrev pub merge_edge_text : Naming → MergeEdge → EdgeText
merge_edge_text f e = record { value = value_text f e.value; block = f.label_name e.block.0 }

abbrev pub merge_text : Naming → Merge → MergeText
merge_text f m = record { value = value_text f m.value; ty = m.ty; edges = map (merge_edge_text f) m.edges }

abbrev pub flat_line_text : Naming → FlatInst → LineText
flat_line_text f i = record { result = maybe_text f i.result; inst = inst_text f i.inst }

-- the block at place k
abbrev pub flat_block_text : Naming → (k : ℕ) → FlatBlock → FlatBlockText
flat_block_text f k b = record { label = f.label_name k; merge = option_map (merge_text f) b.merge; lines = map (flat_line_text f) b.insts }

-- blocks from place k on
abbrev pub flat_blocks_text : Naming → (k : ℕ) → List FlatBlock → List FlatBlockText
flat_blocks_text f k [] = []
flat_blocks_text f k (b ∷ more) = flat_block_text f k b ∷ flat_blocks_text f (k + 1) more

abbrev pub flat_text : Naming → Flat → FlatText
flat_text f t = record { args = map (arg_text f) t.args; blocks = flat_blocks_text f 0 t.blocks }

-- Some names of its ids, no two of which are alike, make of it this text.
pub record ReadsAs (a : Arena) (t : Flat) (text : FlatText) : Type 0 where
  pub naming : Naming
  pub units : naming.unit_name ≡ unit_name_at a
  pub says : flat_text naming t ≡ text
  pub values : (v w : ℕ) → v < t.values → w < t.values → naming.value_name v ≡ naming.value_name w → v ≡ w
  pub labels : (j k : ℕ) → j < length t.blocks → k < length t.blocks → naming.label_name j ≡ naming.label_name k → j ≡ k

-- a refusal as the definition has it, with the function's name; none when memory runs out
abbrev pub refusal_text : Arena → FlatFault → Option FlatRefusal
refusal_text a (fault.RecursiveCall f) = Some (recursive_call (unit_name_at a f.0))
refusal_text a fault.CallTooDeep = Some call_too_deep
refusal_text a fault.FlatTooLarge = Some flat_too_large
refusal_text a fault.OutOfMemory = None

-- what the definition gives, if anything is said
abbrev pub GivesRefusal : Flattened → Option FlatRefusal → Type 0
GivesRefusal x None = Unit {0}
GivesRefusal x (Some r) = x ≡ refused r

-- The answer for the process u is its flat text, or the first reason why it has none.
abbrev pub Flattens : Arena → (u : ℕ) → Result Flat FlatFault → Type 0
Flattens a u (Ok t) = (text : FlatText) × (flat_of (contents a) (unit_text_at a u) ≡ flattened text) × ReadsAs a t text
Flattens a u (Err e) = GivesRefusal (flat_of (contents a) (unit_text_at a u)) (refusal_text a e)
