use Rattle.std.proofs.Common.{◌≡◌, replicate, ap, ◌∙◌, arith}
use Rattle.lh_unit_graph.specs.declared.search.Mark.TheVariants as mark
use Rattle.lh_unit_graph.proofs.SearchSteps.{Settled-new}
use Rattle.lh_unit_graph.proofs.search.UnitSearch.new.Goals as goal

pub returns : goal.returns
returns g c = λ nodes e.
    let all : c.loop-unit._unit ≡ c.args.units = omega arith in
    Settled-new g.M.Measured.measuring nodes c.args.units _ (c.loop-unit.invariant ∙ ap (λ n. replicate n mark.New) all) c.new.ensures.items e
