-- The places of a region, in their order: what each line of a block gives, drives, asserts, and where it leads.
use Rattle.std.specs.Prelude.{ℕ, ◌+◌, List, [], ◌∷◌, ◌++◌, Bool, ◌&&◌, nat_eq, nat_le, if◌then◌else◌, Option, Some, None}
use Rattle.std.specs.Option.{option_and_then, option_map, is_some}
use Rattle.lh_types.specs.Types.{TypeTree}
use Rattle.lh_types.specs.Parts.{range_of}
use Rattle.lh_types.specs.declared.op.Op.{Op}
use Rattle.lh_types.specs.declared.op.Op.TheVariants.{Not}
use Rattle.lh_types.specs.declared.part.Step.{Step}
use Rattle.lh_unit.specs.Contents.{OperandText, InstText, const_text, pure_text, var_text, ld_text, st_text, prb_text, drv_text, call_text, br_text, branch_text, wait_text, halt_text, LineText}
use Rattle.lh_unit_names.specs.Names.{same_name}
use Rattle.lh_unit.specs.Typing.{carried, or_else}
use Rattle.lh_unit.specs.Effects.{step_of}
use Rattle.lh_term.specs.Tree.{Tree, constant}
use Rattle.lh_term.specs.Make.{is_zero, make_operation}
pub use Rattle.lh_term.specs.Make.{both}
use Rattle.lh_term.specs.declared.part.Part.{Part}
use Rattle.lh_flat.specs.Flat.{FlatBlockText}
use Rattle.lh_region_def.specs.Known.{Known, known_value, known_cell, known_part, Knowledge, with_given, value_known, cell_known, part_known, values_known, parts_known}
use Rattle.lh_region_def.specs.Rows.{Drive, Way, halts, enters_head, waits, Rows}
use Rattle.lh_region_def.specs.Joins.{RegionPlace, RegionEdge}

-- a region of a flat text: its blocks, which of them is the head, what a probe of a part gives, and whether the region ends where it
-- enters the head
pub record Region : Type 0 where
  pub blocks : List FlatBlockText
  pub head : ℕ
  pub probe : Part → Tree
  pub ends_at_head : Bool

-- a place while its lines are taken: the label of its block, and the condition on which control is there
pub record Here : Type 0 where
  pub place : RegionPlace
  pub label : List ℕ
  pub cond : Tree

-- what is known in the middle of a block; and of the whole region the edges and the rows so far
pub record Midst : Type 0 where
  pub known : Knowledge
  pub edges : List RegionEdge
  pub rows : Rows

-- the number of the block of a label
abbrev pub block_number : List ℕ → List FlatBlockText → Option ℕ
block_number n [] = None
block_number n (b ∷ more) = if same_name b.label n then Some 0 else option_map (λ k. k + 1) (block_number n more)

-- the part of a part that a step leads to, of the type that is written
abbrev pub stepped : Option Part → Option TypeTree → Option Step → Option Known
stepped (Some p) (Some t) (Some s) = option_map (λ r. known_part (record { arg = p.arg; lo = p.lo + r.lo; ty = t })) (range_of p.ty (s ∷ []))
stepped _ _ _ = None

-- the part of a signal that `extf` or `exts` names
abbrev pub part_stepped : Knowledge → Op → List OperandText → Option Known
part_stepped k o (x ∷ []) = stepped (part_known k x.value) (option_and_then carried x.ty) (step_of o)
part_stepped k o _ = None

-- what an operation gives: of values a term, of a signal its part
abbrev pub operated : Knowledge → Op → List OperandText → Option Known
operated k o args = or_else (option_map (λ ts. known_value (make_operation o ts)) (values_known k args)) (part_stepped k o args)

-- something is known of the result
abbrev pub gives : Midst → Option (List ℕ) → Option Known → Midst
gives m result x = record m { known = with_given m.known result x }

-- a part is probed
abbrev pub probes : Region → Midst → Option (List ℕ) → Option Part → Midst
probes g m result None = m
probes g m result (Some p) = gives (record m { rows = record m.rows { probes = m.rows.probes ++ p ∷ [] } }) result (Some (known_value (g.probe p)))

-- the condition of a drive: that of its place, and that after `if`, where there is one
abbrev pub drive_cond : Knowledge → Tree → Option (List ℕ) → Option Tree
drive_cond k c None = Some c
drive_cond k c (Some n) = option_map (both c) (value_known k n)

-- one more drive, unless it never happens
abbrev pub with_drive : Midst → Drive → Midst
with_drive m d = if is_zero d.cond then m else record m { rows = record m.rows { drives = m.rows.drives ++ d ∷ [] } }

-- a part is driven
abbrev pub drives : Midst → Option Tree → Option Part → Option Tree → Option Tree → Midst
drives m (Some c) (Some p) (Some v) (Some d) = with_drive m (record { cond = c; part = p; value = v; delay = d })
drives m _ _ _ _ = m

-- a condition is asserted
abbrev pub asserts : Midst → Option (List Tree) → Midst
asserts m None = m
asserts m (Some ts) = record m { rows = record m.rows { asserts = m.rows.asserts ++ ts } }

-- the region ends
abbrev pub ends : Here → Tree → Midst → Way → Midst
ends h c m w = record m { rows = record m.rows { ends = m.rows.ends ++ record { cond = c; way = w; from = h.label; known = m.known } ∷ [] } }

-- the place of a block to which control goes from a place: a branch to the same or an earlier block is a turn
abbrev pub next_place : RegionPlace → (block : ℕ) → RegionPlace
next_place p b = record { turns = if nat_le b p.block then p.turns + 1 else p.turns; block = b }

-- control goes to a block where the condition holds
abbrev pub goes : Region → Here → Tree → Midst → (block : ℕ) → Midst
goes g h c m b =
    if g.ends_at_head && nat_eq b g.head then ends h c m enters_head
    else record m { edges = m.edges ++ record { to = next_place h.place b; from = h.label; cond = c; known = m.known } ∷ [] }

-- the same, if the block is there
abbrev pub goes_if : Region → Here → Tree → Midst → Option ℕ → Midst
goes_if g h c m None = m
goes_if g h c m (Some b) = goes g h c m b

-- control goes to the block of a label, unless it never does
abbrev pub leads : Region → Here → Tree → List ℕ → Midst → Midst
leads g h c label m = if is_zero c then m else goes_if g h c m (block_number label g.blocks)

-- a branch on a condition: to the first block where it is 0, and then to the second where it is 1
abbrev pub branches : Region → Here → Option Tree → (first second : List ℕ) → Midst → Midst
branches g h None first second m = m
branches g h (Some c) first second m =
    leads g h (both h.cond c) second (leads g h (both h.cond (make_operation Not (c ∷ []))) first m)

-- a `wait` for the block of this number on these parts
abbrev pub wait_way : Region → (timed : Bool) → Option ℕ → Option (List Part) → Option Way
wait_way g timed (Some b) (Some parts) = Some (waits b (nat_eq b g.head) parts timed)
wait_way g timed _ _ = None

-- the region ends so, if it does
abbrev pub ends_if : Here → Midst → Option Way → Midst
ends_if h m None = m
ends_if h m (Some w) = ends h h.cond m w

-- what one line does; a `phi` was taken before the lines
abbrev pub takes : Region → Here → InstText → Option (List ℕ) → Midst → Midst
takes g h (const_text d) result m = gives m result (Some (known_value (constant d)))
takes g h (pure_text o args) result m = gives m result (operated m.known o args)
takes g h (var_text a) result m = gives m result (option_map known_cell (value_known m.known a.value))
takes g h (ld_text a) result m = gives m result (option_map known_value (cell_known m.known a.value))
takes g h (st_text to value) result m = gives m (Some to.value) (option_map known_cell (value_known m.known value))
takes g h (prb_text a) result m = probes g m result (part_known m.known a.value)
takes g h (drv_text to value after cond) result m =
    drives m (drive_cond m.known h.cond cond) (part_known m.known to.value) (value_known m.known value) (value_known m.known after)
takes g h (call_text f ty args) result m = asserts m (values_known m.known args)
takes g h (br_text to) result m = leads g h h.cond to m
takes g h (branch_text cond first second) result m = branches g h (value_known m.known cond) first second m
takes g h (wait_text to after signals) result m = ends_if h m (wait_way g (is_some after) (block_number to g.blocks) (parts_known m.known signals))
takes g h halt_text result m = ends h h.cond m halts
takes g h _ result m = m

-- the lines of a block, one after the other
abbrev pub takes_all : Region → Here → List LineText → Midst → Midst
takes_all g h [] m = m
takes_all g h (l ∷ more) m = takes_all g h more (takes g h l.inst l.result m)
