-- Any entity may stand for a process of a shape, where it does what the rows of the shape say. Nothing else is asked of its text.
use Rattle.std.specs.Prelude.{◌≡◌, ℕ, List, [], map, Bool, true, nat_eq, Option, Some, None}
use Rattle.std.specs.List.{list_any, flat_map}
use Rattle.lh_time.specs.declared.Instant.{Instant}
use Rattle.lh_types.specs.Types.{bit_count}
use Rattle.lh_types.specs.Wish.{no_wish}
use Rattle.lh_types.specs.declared.part.Range.{Range}
use Rattle.lh_unit.specs.declared.inst.UnitKind.TheVariants as kind
use Rattle.lh_unit.specs.Arena.{Arena, contents, unit_text_at}
use Rattle.lh_unit.specs.Contents.{ArgText, UnitText}
use Rattle.lh_unit.specs.Hierarchy.{hierarchy_of}
use Rattle.lh_unit.specs.Pass.{pass, probes}
use Rattle.lh_unit.specs.Within.{Each}
use Rattle.lh_unit.specs.World.{bit_numbers, rules_of}
use Rattle.lh_trace_laws.specs.Replacing.{MayStand}
use Rattle.lh_flat.specs.Flat.{FlatText}
use Rattle.lh_term.specs.declared.part.Part.{Part}
use Rattle.lh_edge.specs.Triggers.{EdgeRowTree}
use Rattle.lh_region_def.specs.Rows.{Drive}
use Rattle.lh_region_def.specs.Means.{range_in, reads, with_rows}
use Rattle.lh_region_def.specs.Typed.{Among}
use Rattle.lh_shape.specs.Shapes.{comb, edge, once, shape_of_text}
use Rattle.lh_emit_def.specs.Laws.{row_parts}
use Rattle.lh_emit_def.specs.Registers.{registers_wish}
use Rattle.lh_entity_laws.specs.Stands.{IsFlattened, IsEnough}

-- ---- the entity

-- The unit y is an entity of x's name, and one with x to elaboration: it has x's arguments, and no signals and no instances of its own.
pub record IsEntityLike (x y : UnitText) : Type 0 where
  pub entity : y.kind ≡ kind.Entity
  pub name : x.name ≡ y.name
  pub hierarchy : hierarchy_of x ≡ hierarchy_of y

-- ranges have the widths of a unit's arguments
abbrev pub AreWide : List Range → UnitText → Type 0
AreWide args u = map (λ (r : Range). r.len) args ≡ map (λ (a : ArgText). bit_count a.ty) u.args

-- ---- the bits of parts

-- the numbers of the bits of parts, where the arguments have these
abbrev pub numbers_of : List Range → List Part → List ℕ
numbers_of args ps = bit_numbers (map (range_in args) ps)

-- it is one of these numbers
abbrev pub is_one_of : List ℕ → ℕ → Bool
is_one_of ks k = list_any (λ j. nat_eq j k) ks

-- ---- what it does

-- Each pass wishes what the drives wish, and it senses the bits of the waited parts.
pub record DoesComb (waited : List Part) (ds : List Drive) (y : UnitText) (args : List Range) : Type 0 where
  pub wish : (now : List Bool) (memory : Option (List Bool)) (t : Instant) → (pass y args [] now memory t).wish ≡ with_rows (reads args now) (reads args now) args t no_wish ds
  pub senses : (k : ℕ) → is_one_of (numbers_of args waited) k ≡ is_one_of (bit_numbers (probes y args [])) k

-- Its first pass wishes what the drives wish, and it senses nothing.
pub record DoesOnce (ds : List Drive) (y : UnitText) (args : List Range) : Type 0 where
  pub wish : (now : List Bool) (t : Instant) → (pass y args [] now None t).wish ≡ with_rows (reads args now) (reads args now) args t no_wish ds
  pub senses : probes y args [] ≡ []

-- It wishes what the registers wish, and nothing in its first pass. Some of the triggers' parts are enough for that: where these have at a run the
-- values of the run before the registers wish nothing, what they wish looks at the run before by these parts alone, and the entity senses their
-- bits. It may sense more and remember more.
pub record DoesEdge (rs : List EdgeRowTree) (y : UnitText) (args : List Range) : Type 0 where
  pub parts : List Part
  pub among : Each (λ p. Among p (flat_map row_parts rs)) parts
  pub senses : (k : ℕ) → is_one_of (numbers_of args parts) k ≡ true → is_one_of (bit_numbers (probes y args [])) k ≡ true
  -- what it remembers of a run at which the signals have these bits
  pub seen_at : List Bool → List Bool
  pub seen : (now : List Bool) (memory : Option (List Bool)) (t : Instant) → (pass y args [] now memory t).seen ≡ seen_at now
  pub first : (now : List Bool) (t : Instant) → (pass y args [] now None t).wish ≡ no_wish
  pub later : (past now : List Bool) (t : Instant) → (pass y args [] now (Some (seen_at past)) t).wish ≡ registers_wish (reads args past) (reads args now) args t rs
  pub rests : (past now : List Bool) (t : Instant) → Each (λ p. reads args past p ≡ reads args now p) parts →
      registers_wish (reads args past) (reads args now) args t rs ≡ no_wish
  pub alike : (before past now : List Bool) (t : Instant) → Each (λ p. reads args before p ≡ reads args past p) parts →
      registers_wish (reads args before) (reads args now) args t rs ≡ registers_wish (reads args past) (reads args now) args t rs

-- ---- laws

-- Any entity that does what a process does once may stand for it.
abbrev pub OnceStandsFor : Type 0
OnceStandsFor = (a : Arena) (u : ℕ) (t : FlatText) (y : UnitText) (bound : ℕ) (ds : List Drive) → IsFlattened a u t → shape_of_text t ≡ once ds → IsEntityLike (unit_text_at a u) y →
    ((args : List Range) → AreWide args (unit_text_at a u) → DoesOnce ds y args) → IsEnough bound t → MayStand (rules_of bound (contents a)) (unit_text_at a u) y

-- So may any that does what a combinational process does.
abbrev pub CombStandsFor : Type 0
CombStandsFor = (a : Arena) (u : ℕ) (t : FlatText) (y : UnitText) (bound : ℕ) (waited : List Part) (ds : List Drive) → IsFlattened a u t → shape_of_text t ≡ comb waited ds →
    IsEntityLike (unit_text_at a u) y → ((args : List Range) → AreWide args (unit_text_at a u) → DoesComb waited ds y args) → IsEnough bound t →
    MayStand (rules_of bound (contents a)) (unit_text_at a u) y

-- And any that does what a process does that reacts to edges.
abbrev pub EdgeStandsFor : Type 0
EdgeStandsFor = (a : Arena) (u : ℕ) (t : FlatText) (y : UnitText) (bound : ℕ) (rs : List EdgeRowTree) → IsFlattened a u t → shape_of_text t ≡ edge rs → IsEntityLike (unit_text_at a u) y →
    ((args : List Range) → AreWide args (unit_text_at a u) → DoesEdge rs y args) → IsEnough bound t → MayStand (rules_of bound (contents a)) (unit_text_at a u) y
