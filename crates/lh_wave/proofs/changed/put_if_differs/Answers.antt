use Rattle.std.proofs.Common.{sym, ◌∙◌}
use Rattle.lh_types.specs.ValueOf.{datum_of}
use Rattle.lh_wave.proofs.ChangedLemmas.{other_line, same_line}
use Rattle.lh_wave.proofs.changed.put_if_differs.Goals as goal

pub returns-then-ne : goal.returns-then-ne
returns-then-ne c =
    other_line c.args.signal (datum_of c.args.written.now) (datum_of c.args.now.now) c.args.to.now c.put_wire.new.to (sym c.if-ne.true ∙ c.ne.ensures) c.put_wire.ensures

pub returns-else-ne : goal.returns-else-ne
returns-else-ne c = same_line c.args.signal (datum_of c.args.written.now) (datum_of c.args.now.now) c.args.to.now (sym c.if-ne.false ∙ c.ne.ensures)
