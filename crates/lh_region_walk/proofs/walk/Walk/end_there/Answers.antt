use Rattle.std.proofs.Common.{◌≡◌, ◌∙◌, ◌∷◌, [], ◌++◌, refl, ap, subst}
use Rattle.lh_region_joins.specs.declared.edge.Edge.{Edge}
use Rattle.lh_region_walk.specs.declared.walk.Walk.{Walk}
use Rattle.lh_region.specs.Effects.{IsEnded}
use Rattle.lh_region_walk.specs.Leaving.{edge_from}
use Rattle.lh_region_walk.proofs.PlaceLeaves.{ended-there}
use Rattle.lh_region_walk.proofs.walk.Walk.end_there.Goals as goal

pub returns-clause-ended : goal.returns-clause-ended
returns-clause-ended c =
    let w = c.args.self.now in
    let q : Walk = record { places = w.places; ahead = w.ahead; insts = w.insts; rows = c.end.new.rows; sources = c.end.new.sources } in
    let s : q.sources ≡ w.sources ++ edge_from c.args.at c.args.cond ∷ [] = c.in_ok-end.ensures.sources ∙ ap (λ (e : Edge). w.sources ++ e ∷ []) c.edge_from.ensures in
    let e : IsEnded w.rows q.rows c.args.cond c.args.way = subst (λ (e : Edge). IsEnded w.rows q.rows e.cond c.args.way) c.edge_from.ensures c.in_ok-end.ensures.rows in
    ended-there w q c.args.at c.args.cond c.args.way refl refl refl s e
