use Rattle.std.proofs.Common.{◌≡◌, ◌++◌, ◌∷◌, [], refl}
use Rattle.std.proofs.lemmas.Result.{on_ok_weaker}
use Rattle.lh_region.specs.declared.rows.Rows.{Rows}
use Rattle.lh_region.specs.declared.rows.EndRow.{EndRow}
use Rattle.lh_region.specs.Effects.{IsEnded}
use Rattle.lh_region.proofs.RowLists.{ended-more}
use Rattle.lh_region.proofs.effects.end.Goals as goal

pub returns-clause-rows : goal.returns-clause-rows
returns-clause-rows c =
    let r = c.args.rows.now in
    let row : EndRow = record { cond = c.args.from.cond; way = c.args.way } in
    let q : Rows = record { probes = r.probes; drives = r.drives; asserts = r.asserts; ends = c.push-2.new.self } in
    on_ok_weaker {P = c.push-2.new.self ≡ r.ends ++ row ∷ []} {Q = IsEnded r q c.args.from.cond c.args.way} c.push-2.result
    (λ e. ended-more r q row c.args.from.cond c.args.way refl refl refl refl refl e)
    c.push-2.ensures.ok
