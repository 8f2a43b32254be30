use Rattle.std.proofs.Common.{◌<◌, ap, ◌∙◌, sym, subst, length}
use Rattle.lh_unit.specs.Table.{Table, line_at}
use Rattle.lh_unit.specs.declared.table.TableLine.{TableLine}
use Rattle.lh_unit.proofs.Seen.{table-read}
use Rattle.lh_unit.proofs.module.Module.result_of.Goals as goal

pub line-line-requires : goal.line-line-requires
line-line-requires c = subst (λ (t : Table). c.args.inst.0 < length t.lines) (sym (table-read c.self.inside _ c.self.view_is _ c.requires.unit _ c.index.ensures)) c.requires.inst

pub returns-clause-value : goal.returns-clause-value
returns-clause-value c = ap (λ (l : TableLine). l.result) (c.line-line.ensures ∙ ap (λ (t : Table). line_at t c.args.inst.0) (table-read c.self.inside _ c.self.view_is _ c.requires.unit _ c.index.ensures))
