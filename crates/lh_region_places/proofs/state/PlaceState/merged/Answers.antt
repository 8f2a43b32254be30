use Rattle.std.proofs.Common.{◌∙◌, ◌-◌, Some, length, take, drop, get_or, sym, ap}
use Rattle.std.proofs.lemmas.Result.{IfOk-weaker}
use Rattle.lh_term.specs.Arena.{trees, tree_at, trees_at, StandsForTree}
use Rattle.lh_term.specs.declared.term.TermId.{TermId}
use Rattle.lh_region_joins.specs.Joins.{chosen_by}
use Rattle.lh_region_places.specs.Asked.{IsJoined, IsSelected}
use Rattle.lh_region_places.proofs.ToldValues.{same-joined, can-merge-by, merged-by, join-first, head-tail, selected-grown, ok-any}
use Rattle.lh_region_places.proofs.state.PlaceState.merged.Goals as goal

abbrev no_id : TermId
no_id = record { 0 = 0 }

pub returns-then-are_same-clause-made : goal.returns-then-are_same-clause-made
returns-then-are_same-clause-made c =
    let ns = c.args.terms.now in let vs = c.args.values.now in
    let e = head-tail no_id vs c.in-len1-up.len_at_least in
    same-joined ns c.args.self.now.edges.items vs (get_or vs 0 no_id) (take (length vs - 1) (drop 1 vs)) e
    (join-first ns c.args.self.now vs (get_or vs 0 no_id) (take (length vs - 1) (drop 1 vs)) c.requires.values e) (sym c.if-are_same.ensures)

pub merge-requires : goal.merge-requires
merge-requires c =
    let vs = c.args.values.now in
    can-merge-by c.args.terms.now c.select.new.terms c.args.self.now c.select.new.self vs c.select.ensures.kept c.requires.values c.in_ok-select.ensures.place c.as_slice.result.now
    (c.in-Some.is ∙ ap Some (sym c.as_slice.ensures))
    (get_or vs 0 no_id) (take (length vs - 1) (drop 1 vs)) (head-tail no_id vs c.in-len1-up.len_at_least)

pub returns-clause-place : goal.returns-clause-place
returns-clause-place c = ok-any c.merge.result (IsSelected c.merge.new.terms c.args.self.now c.select.new.self)
    (selected-grown c.select.new.terms c.merge.new.terms c.args.self.now c.select.new.self c.merge.ensures.kept c.in_ok-select.ensures.place)

pub returns-clause-made : goal.returns-clause-made
returns-clause-made c =
    let ns = c.args.terms.now in let ms = c.select.new.terms in let os = c.merge.new.terms in let vs = c.args.values.now in
    let t = get_or vs 0 no_id in
    let ts = take (length vs - 1) (drop 1 vs) in
    IfOk-weaker c.merge.result (λ (r : TermId). StandsForTree os r (chosen_by (trees_at ms c.as_slice.result.now) (tree_at (trees ms) t) (trees_at ms ts)))
    (λ (r : TermId). IsJoined ns c.args.self.now.edges.items vs os r)
    (λ r h. merged-by ns ms c.args.self.now c.select.new.self vs c.select.ensures.kept c.requires.values c.in_ok-select.ensures.place c.as_slice.result.now
    (c.in-Some.is ∙ ap Some (sym c.as_slice.ensures)) t ts (head-tail no_id vs c.in-len1-up.len_at_least) c.requires.join os r h)
    c.merge.ensures.made
