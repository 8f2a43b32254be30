-- What registers drive: a row drives where one of its triggers fires.
use Rattle.std.specs.Prelude.{List, map, fold, Bool, false, ◌&&◌, if◌then◌else◌, Option, Some, unwrap_or}
use Rattle.std.specs.List.{list_any, flat_map}
use Rattle.lh_time.specs.declared.Instant.{Instant}
use Rattle.lh_types.specs.Bits.{value_bits}
use Rattle.lh_types.specs.Wish.{Wish, no_wish, with_drive}
use Rattle.lh_types.specs.declared.part.Range.{Range}
use Rattle.lh_unit.specs.Held.{as_test}
use Rattle.lh_unit.specs.Pass.{mode_holds}
use Rattle.lh_term.specs.Mean.{Valuation, mean}
use Rattle.lh_term.specs.declared.part.Part.{Part}
use Rattle.lh_emit_def.specs.Given.{TriggerTree, EdgeRowTree}
use Rattle.lh_emit_def.specs.Entities.{mode_of}
use Rattle.lh_emit_def.specs.Reads.{range_in, due_by}

-- whether a part is not 0
abbrev pub sees : Valuation → Part → Bool
sees v p = unwrap_or (as_test (v p)) false

-- A trigger fires where its part goes to 1, of `rise`, or to 0, and its gate is 1; without a value at the previous run it does not.
abbrev pub fires : (past : Option Bool) → (now : Valuation) → TriggerTree → Bool
fires past now g = mode_holds (mode_of g.rise) past (sees now g.part) && unwrap_or (as_test (mean now now g.gate)) false

-- some trigger of a row fires
abbrev pub any_fires : (past now : Valuation) → EdgeRowTree → Bool
any_fires past now r = list_any (λ (g : TriggerTree). fires (Some (sees past g.part)) now g) r.triggers

-- the wish with the drive of a row
abbrev pub register_drives : Valuation → List Range → Instant → Wish → EdgeRowTree → Wish
register_drives v args t w r = with_drive w (due_by t (mean v v r.delay)) (range_in args r.part).lo (value_bits (mean v v r.value))

abbrev pub register_made : (past now : Valuation) → List Range → Instant → Wish → EdgeRowTree → Wish
register_made past now args t w r = if any_fires past now r then register_drives now args t w r else w

-- the wish of registers where the parts had these values at the previous run, and have these now
abbrev pub registers_wish : (past now : Valuation) → List Range → Instant → List EdgeRowTree → Wish
registers_wish past now args t rs = fold (register_made past now args t) no_wish rs

-- the values of the triggers, in text order
abbrev pub row_seen : Valuation → EdgeRowTree → List Bool
row_seen v r = map (λ (g : TriggerTree). sees v g.part) r.triggers

abbrev pub triggers_seen : Valuation → List EdgeRowTree → List Bool
triggers_seen v rs = flat_map (row_seen v) rs
