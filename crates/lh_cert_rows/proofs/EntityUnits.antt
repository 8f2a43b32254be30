-- What holds of the lines of an entity of a well-formed module.
use Rattle.std.proofs.Common.{◌≡◌, List, [], ◌∷◌, false, refl, subst}
use Rattle.lh_unit.specs.declared.inst.UnitKind.{UnitKind}
use Rattle.lh_unit.specs.Contents.{LineText, UnitText, ItemText, unit_text, args_define}
use Rattle.lh_unit.specs.Hierarchy.{lines_of}
use Rattle.lh_unit.specs.Reads.{args_repeat}
use Rattle.lh_unit.specs.Within.{Each}
use Rattle.lh_text_laws.specs.Printable.{IsPrintable, IsPrintableItem, results_repeat}
use Rattle.lh_eval.specs.Sound.{InstIsSound}
use Rattle.lh_eval_laws.specs.Units.{HasItsType, IsPort, HasPorts}
use Rattle.lh_eval_laws.proofs.SoundLines.{IsTyped, RowsIn, rows-of-items, items-printable, lines-printed, unit-sound, ports-written}
use Rattle.lh_eval_laws.proofs.NamedOnce.{IsFirst, each-first, args-typed}
use Rattle.lh_eval_laws.proofs.FindingPass.{NamesKnown, IsFitLine, EntityLines, EntityIn, entities-of-items, fit-lines}
use Rattle.lh_flat_laws.proofs.Members.{in-each}
use Rattle.lh_cert_rows.specs.Passing.{IsPlain, IsPlainEntity}

-- a line: it is sound, no other gives its result, it may stand in an entity, and it adds no signal and no instance
pub record LineFine (u : UnitText) (l : LineText) : Type 0 where
  pub sound : InstIsSound u l
  pub first : IsFirst u.args (lines_of u.blocks) l
  pub fit : IsFitLine l
  pub plain : IsPlain l.inst

pub record EntityFine (u : UnitText) : Type 0 where
  pub lines : Each (LineFine u) (lines_of u.blocks)
  pub names : NamesKnown (λ n. args_define n u.args) (lines_of u.blocks)
  pub typed_args : Each (HasItsType u) u.args
  pub ports : Each IsPort u.args
  pub new_args : args_repeat [] u.args ≡ false
  pub new_results : results_repeat u.args [] (lines_of u.blocks) ≡ false

each-fine : (u : UnitText) (ls : List LineText) → Each (InstIsSound u) ls → Each (IsFirst u.args (lines_of u.blocks)) ls → Each IsFitLine ls → Each (λ (l : LineText). IsPlain l.inst) ls
    → Each (LineFine u) ls
each-fine u [] a b c d = tt
each-fine u (l ∷ ls) a b c d = (record { sound = a.0; first = b.0; fit = c.0; plain = d.0 }, each-fine u ls a.1 b.1 c.1 d.1)

pub entity-fine : (items : List ItemText) (y : UnitText) → IsPlainEntity items y → EntityFine y
entity-fine items y e =
    let rows : Each (IsTyped y) (lines_of y.blocks) = in-each RowsIn items (unit_text y) (rows-of-items items e.formed.1) e.among in
    let p : IsPrintable y = in-each IsPrintableItem items (unit_text y) (items-printable items e.formed.0) e.among in
    let there : EntityLines y = in-each EntityIn items (unit_text y) (entities-of-items items e.formed.1) e.among e.entity in
    record {
      lines = each-fine y (lines_of y.blocks) (unit-sound y rows p) (each-first y.args (lines_of y.blocks) [] (lines_of y.blocks) refl p.new_results)
          (fit-lines (lines_of y.blocks) there.1 (lines-printed y p)) e.plain;
      names = there.0;
      typed_args = args-typed y p.new_args;
      ports = subst (λ (k : UnitKind). HasPorts k y.args) e.entity (ports-written y p);
      new_args = p.new_args;
      new_results = p.new_results;
    }
