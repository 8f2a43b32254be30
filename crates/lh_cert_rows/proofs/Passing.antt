-- A pass of an entity of a well-formed module does its rows.
use Rattle.std.proofs.Common.{◌≡◌, inl, Bool, List, [], map, Option, None, refl, ap, sym, ◌∙◌}
use Rattle.lh_time.specs.declared.Instant.{Instant}
use Rattle.lh_types.specs.Wish.{no_wish}
use Rattle.lh_types.specs.declared.part.Range.{Range}
use Rattle.lh_unit.specs.Contents.{UnitText, args_define}
use Rattle.lh_unit.specs.Hierarchy.{lines_of, parts_of}
use Rattle.lh_unit.specs.Pass.{Passed, pass, probes}
use Rattle.lh_term.specs.Mean.{Valuation}
use Rattle.lh_region_def.specs.Known.{known_part}
use Rattle.lh_region_def.specs.Means.{range_in, reads}
use Rattle.lh_cert_rows.specs.Reading.{read}
use Rattle.lh_cert_rows.specs.Passing.{SaysTypedRows, memory_of, PassDoesRows, RowsAreTyped, PassesDoRows}
use Rattle.lh_cert_rows.proofs.EntityUnits.{EntityFine, entity-fine}
use Rattle.lh_cert_rows.proofs.LineRows.{lines-fine}
use Rattle.lh_cert_rows.proofs.Begun.{HaveWidths, begun_text, begun-fine, begun-held}
use Rattle.lh_cert_rows.proofs.PassRows.{Matches, lines-match}
use Rattle.lh_cert_rows.proofs.Seen.{seen-alike}
use Rattle.lh_cert_rows.proofs.Probing.{PartsHeld, AllProbed, all-probed}

module _ (u : UnitText) (fine : EntityFine u) where
  -- the rows are typed, and read what is probed
  pub says-typed : SaysTypedRows u
  unfolding read
  says-typed =
      let f = lines-fine u (lines_of u.blocks) (λ n. args_define n u.args) (begun_text u) fine.lines fine.names (begun-fine u fine) in
      record { typed = f.0; probed = f.1 }

  module _ (args : List Range) (wide : HaveWidths args u.args) where
    -- before the first line of a pass
    abbrev start : Passed
    start = record { held = parts_of u args []; seen = []; wish = no_wish }

    matches : (past : Option Valuation) (now : List Bool) (t : Instant) → Matches u args now t past (memory_of past (read u).rows) (read u) (pass u args [] now (memory_of past (read u).rows) t)
    unfolding read pass
    matches past now t =
        lines-match u args now t past (memory_of past (read u).rows) (lines_of u.blocks) (λ n. args_define n u.args) (begun_text u) start fine.lines fine.names (begun-fine u fine)
        (record { held = begun-held u fine (reads args now) args wide; seen = refl; wish = refl }) refl

    sees : (now : List Bool) (memory : Option (List Bool)) (t : Instant) → (pass u args [] now memory t).seen ≡ (pass u args [] now None t).seen
    unfolding pass
    sees now memory t = seen-alike u now memory None t (lines_of u.blocks) start

    parts-begun : PartsHeld u args (begun_text u).known (parts_of u args [])
    parts-begun n p q = begun-held u fine (reads args []) args wide n (known_part p) q

    senses : probes u args [] ≡ map (range_in args) (read u).probes
    unfolding read probes
    senses =
        let a : AllProbed u args (lines_of u.blocks) (begun_text u) (parts_of u args []) = all-probed u args (lines_of u.blocks) [] (λ n. args_define n u.args) (begun_text u) (parts_of u args [])
        fine.lines fine.names (begun-fine u fine) parts-begun fine.new_results (λ n q. inl q) in
        a.sensed ∙ ap (map (range_in args)) (sym a.are)

    pub does-rows : PassDoesRows u args
    does-rows = record {
      seen = λ now memory t. sees now memory t ∙ (matches None now t).seen;
      wish = λ past now t. (matches past now t).wish;
      senses = senses;
    }

pub rows-typed : RowsAreTyped
rows-typed items y e = says-typed y (entity-fine items y e)

pub passes-do : PassesDoRows
passes-do items y e args w = does-rows y (entity-fine items y e) args w
