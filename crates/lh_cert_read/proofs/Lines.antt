-- Lines that are taken one by one.
use Rattle.std.proofs.Common.{◌≡◌, ℕ, ◌<◌, List, [], ◌∷◌, map, Option, Some, IsSome, refl, ap, sym, subst}
use Rattle.lh_unit.specs.Arena.{Arena, IsArena, naming, unit_count, table_at, kind_at, contents, unit_text_at, inst_at, result_at, block_insts_at}
use Rattle.lh_unit.specs.ById.{inst_line_text}
use Rattle.lh_unit.specs.Contents.{LineText, ItemText, args_define}
use Rattle.lh_unit.specs.Hierarchy.{lines_of}
use Rattle.lh_unit.specs.Naming.{kind_text}
use Rattle.lh_unit.specs.WellFormed.{IsWellFormed}
use Rattle.lh_unit.specs.Within.{Each}
use Rattle.lh_unit.specs.declared.inst.InstId.{InstId}
use Rattle.lh_unit.specs.declared.inst.UnitKind.{UnitKind}
use Rattle.lh_unit.specs.declared.inst.UnitKind.TheVariants as kind
use Rattle.lh_text_laws.specs.Printable.{HasInstLine}
use Rattle.lh_eval.proofs.BeginSteps.{entity-lines}
use Rattle.lh_eval_laws.proofs.FindingPass.{KnownNames, known_after, NamesKnown}
use Rattle.lh_eval_laws.proofs.FitLaws.{of-unit, unit-is-sound}
use Rattle.lh_eval_laws.proofs.SoundLines.{lines-printed}
use Rattle.lh_term.specs.declared.term.TermNode.{TermNode}
use Rattle.lh_region_def.specs.Typed.{Among}
use Rattle.lh_flat_laws.proofs.Members.{each-among}
use Rattle.lh_cert_rows.specs.Passing.{IsPlain, IsPlainEntity}
use Rattle.lh_cert_rows.specs.Reading.{EntityText, reads_line, reads_lines, read}
use Rattle.lh_cert_rows.proofs.Begun.{begun-fine}
use Rattle.lh_cert_rows.proofs.EntityUnits.{LineFine, EntityFine, entity-fine}
use Rattle.lh_cert_rows.proofs.LineRows.{ReadFine, line-fine}
use Rattle.lh_cert_read.specs.Lines.{IsReading, CanTake, begun, said_by}
use Rattle.lh_cert_read.specs.declared.reading.Reading.{Reading}
use Rattle.lh_cert_read.proofs.Fits.{line-fits}

module _ (a : Arena) (u : ℕ) where
  abbrev line-in : InstId → LineText
  line-in i = inst_line_text (naming a u) (table_at a u) i

  -- what was read stands for something that comes to what the entity says after these instructions
  pub record Midway (ns : List TermNode) (r : Reading) (is : List InstId) : Type 0 where
    text : EntityText
    names : KnownNames
    stands : IsReading a u ns r text
    fine : ReadFine (unit_text_at a u) names text
    lines : Each (LineFine (unit_text_at a u)) (map line-in is)
    printed : Each HasInstLine (map line-in is)
    known : NamesKnown names (map line-in is)
    comes : reads_lines text (map line-in is) ≡ read (unit_text_at a u)

  -- the next instruction can be taken
  pub midway-can : (ns : List TermNode) (r : Reading) (i : InstId) (is : List InstId) → Midway ns r (i ∷ is) → CanTake a u ns r (inst_at a u i.0)
  midway-can ns r i is m = record {
    text = m.text;
    is = m.stands;
    fits = line-fits (unit_text_at a u) m.names (line-in i) m.lines.0 m.printed.0 m.text m.fine m.known.0;
  }

  pub midway-next : (ns ms : List TermNode) (r s : Reading) (i : InstId) (is : List InstId) → Midway ns r (i ∷ is)
      → ((e : EntityText) → IsReading a u ns r e → IsReading a u ms s (said_by a u e (result_at a u i.0) (inst_at a u i.0))) → Midway ms s is
  midway-next ns ms r s i is m go = record {
    text = reads_line m.text (line-in i).inst (line-in i).result;
    names = known_after m.names (line-in i);
    stands = go m.text m.stands;
    fine = line-fine (unit_text_at a u) m.names (line-in i) m.lines.0 m.text m.fine m.known.0;
    lines = m.lines.1;
    printed = m.printed.1;
    known = m.known.1;
    comes = m.comes;
  }

  pub midway-ends : (ns : List TermNode) (r : Reading) → Midway ns r [] → IsReading a u ns r (read (unit_text_at a u))
  midway-ends ns r m = subst (IsReading a u ns r) m.comes m.stands

  module _ (o : IsArena a) (h : u < unit_count a) (formed : IsWellFormed (contents a)) (entity : kind_at a u ≡ Some kind.Entity)
      (plain : Each (λ (l : LineText). IsPlain l.inst) (lines_of (unit_text_at a u).blocks)) where
    defined : IsSome (kind_at a u)
    defined = subst (λ (k : Option UnitKind). IsSome k) (sym entity) refl

    plain-entity : IsPlainEntity (contents a) (unit_text_at a u)
    plain-entity = record {
      formed = formed;
      among = of-unit a u o h formed defined (λ (i : ItemText). Among i (contents a)) (each-among (λ (i : ItemText). Among i (contents a)) (contents a) (λ i x. x));
      entity = ap kind_text entity;
      plain = plain;
    }

    pub fine-entity : EntityFine (unit_text_at a u)
    fine-entity = entity-fine (contents a) (unit_text_at a u) plain-entity

    pub midway-begins : (ns : List TermNode) (r : Reading) → IsReading a u ns r (begun (unit_text_at a u)) → Midway ns r (block_insts_at a u 0)
    unfolding read
    midway-begins ns r s =
        let f = fine-entity in
        let ls : lines_of (unit_text_at a u).blocks ≡ map line-in (block_insts_at a u 0) = entity-lines a u o h entity in
        let names : KnownNames = λ n. args_define n (unit_text_at a u).args in
        record {
          text = begun (unit_text_at a u);
          names = names;
          stands = s;
          fine = begun-fine (unit_text_at a u) f;
          lines = subst (Each (LineFine (unit_text_at a u))) ls f.lines;
          printed = subst (Each HasInstLine) ls (lines-printed (unit_text_at a u) (unit-is-sound a u o h formed defined).printable);
          known = subst (NamesKnown names) ls f.names;
          comes = ap (reads_lines (begun (unit_text_at a u))) (sym ls);
        }
