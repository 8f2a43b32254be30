use Rattle.std.proofs.Common.{◌∙◌, ap}
use Rattle.lh_unit.specs.Arena.{Arena, contents}
use Rattle.lh_selftest.specs.SelfTest.{units_of}
use Rattle.lh_selftest.proofs.Answer.{same-has_design, is_summary}
use Rattle.lh_selftest.proofs.compared.Goals as goal

pub count_units-units-requires : goal.count_units-units-requires
count_units-units-requires c = rw c.«module».ensures.«module» c.requires.report

pub course_of-requires-2 : goal.course_of-requires-2
course_of-requires-2 c = same-has_design (contents c.args.file.now) (contents c.args.lowered.now) c.requires.same c.requires.design

pub returns : goal.returns
returns c =
    let units = c.count_units-units.ensures ∙ ap (λ (a : Arena). units_of (contents a)) c.«module».ensures.«module» in
    is_summary (contents c.args.file.now) (contents c.args.lowered.now) c.count_units-units.result c.in_ok-original.original c.in_ok-changed.changed _
    c.requires.lowered units c.in_ok-original.ensures c.in_ok-changed.ensures (rw c.new-text.ensures.items at c.in_ok-put_summary.ensures)
