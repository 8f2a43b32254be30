use Rattle.std.proofs.Common.{refl}
use Rattle.lh_region.specs.declared.rows.Rows.{Rows}
use Rattle.lh_region.proofs.RowLists.{probed-more}
use Rattle.lh_region.proofs.effects.probe.Goals as goal

pub returns-clause-rows : goal.returns-clause-rows
returns-clause-rows c =
    let r = c.args.rows.now in
    let q : Rows = record { probes = c.push.new.self; drives = r.drives; asserts = r.asserts; ends = r.ends } in
    probed-more c.args.terms.now c.value_of.new.terms r q c.args.part c.value_of.ensures.kept c.in_ok-push.ensures.ok refl refl refl
