-- What the rows of an entity mean: the wish of a pass, and the values that it remembers.
use Rattle.std.specs.Prelude.{List, [], ◌∷◌, map, fold, Bool, false, ◌&&◌, if◌then◌else◌, Option, Some, None, unwrap_or}
use Rattle.std.specs.Option.{option_map}
use Rattle.std.specs.List.{flat_map}
use Rattle.lh_time.specs.declared.Instant.{Instant}
use Rattle.lh_types.specs.Bits.{value_bits}
use Rattle.lh_types.specs.Wish.{Wish, no_wish, with_drive}
use Rattle.lh_types.specs.declared.part.Range.{Range}
use Rattle.lh_unit.specs.Held.{as_test}
use Rattle.lh_unit.specs.Pass.{mode_holds}
use Rattle.lh_term.specs.Tree.{Tree}
use Rattle.lh_term.specs.Mean.{Valuation, mean}
use Rattle.lh_term.specs.declared.part.Part.{Part}
use Rattle.lh_region_def.specs.Means.{range_in, due_by, with_row}
use Rattle.lh_cert_rows.specs.Rows.{TriggerRow, EntityRow, driven_by, registered}

-- whether a term is not 0 where the parts have these values
abbrev pub sees : Valuation → Tree → Bool
sees v t = unwrap_or (as_test (mean v v t)) false

-- whether a trigger fires, by the value of its operand at the previous run, if there was one
abbrev pub fires : (past : Option Valuation) → (now : Valuation) → TriggerRow → Bool
fires past now g = mode_holds g.mode (option_map (λ v. sees v g.operand) past) (sees now g.operand) && sees now g.gate

-- the first trigger that fires
abbrev pub first_fired : (past : Option Valuation) → (now : Valuation) → List TriggerRow → Option TriggerRow
first_fired past now [] = None
first_fired past now (g ∷ more) = if fires past now g then Some g else first_fired past now more

-- the wish with what a trigger drives, if one fired
abbrev pub stored : Valuation → List Range → Instant → Part → Wish → Option TriggerRow → Wish
stored v args t p w None = w
stored v args t p w (Some g) = with_drive w (due_by t (mean v v g.delay)) (range_in args p).lo (value_bits (mean v v g.value))

-- the wish with what a row drives
abbrev pub row_made : (past : Option Valuation) → (now : Valuation) → List Range → Instant → Wish → EntityRow → Wish
row_made past now args t w (driven_by d) = with_row now now args t w d
row_made past now args t w (registered p gs) = stored now args t p w (first_fired past now gs)

-- the wish of a pass where the parts had these values at the previous run, if there was one, and have these now
abbrev pub rows_wish : (past : Option Valuation) → (now : Valuation) → List Range → Instant → List EntityRow → Wish
rows_wish past now args t rows = fold (row_made past now args t) no_wish rows

-- the values of the triggers of a row, in order
abbrev pub triggers_seen : Valuation → List TriggerRow → List Bool
triggers_seen v gs = map (λ (g : TriggerRow). sees v g.operand) gs

abbrev pub row_seen : Valuation → EntityRow → List Bool
row_seen v (driven_by d) = []
row_seen v (registered p gs) = triggers_seen v gs

-- what a pass remembers
abbrev pub seen_by : Valuation → List EntityRow → List Bool
seen_by v rows = flat_map (row_seen v) rows
