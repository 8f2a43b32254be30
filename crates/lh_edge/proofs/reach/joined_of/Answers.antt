use Rattle.std.proofs.Common.{List, sym, subst}
use Rattle.std.specs.Ordering.{nat_cmp}
use Rattle.std.proofs.lemmas.Bool.{false≢true}
use Rattle.std.specs.BTreeSet as sorted
use Rattle.lh_term.specs.declared.term.TermId.{TermId}
use Rattle.lh_term.specs.Arena.{trees}
use Rattle.lh_term.proofs.Swaps.{term_there}
use Rattle.lh_term.proofs.Greatest.{Taken, taken, fewer, no-keys}
use Rattle.lh_term.proofs.TermWalks.{ReachedSoFar, reached_start, reached_next, reached_end, next_less}
use Rattle.lh_edge.specs.Reached.{joined_by}
use Rattle.lh_edge.proofs.reach.joined_of.Goals as goal

pub loop-i-init : goal.loop-i-init
loop-i-init c =
    let leads = joined_by (trees c.args.terms.now) in
    subst (λ (ids : List TermId). ReachedSoFar leads c.args.terms.now c.args.xs.now (sorted.contains nat_cmp c.leave_all.new.left) ids) (sym c.new-joined.ensures.items)
    (reached_start leads c.args.terms.now c.args.xs.now c.new-left.result (sorted.contains nat_cmp c.leave_all.new.left) c.requires c.new-left.ensures.empty c.in_ok-leave_all.ensures)

pub loop-i-smaller : goal.loop-i-smaller
loop-i-smaller c =
    let e = c.in-Some.ensures in
    let x : TermId = record { 0 = c.in-Some.i } in
    let f = sorted.contains nat_cmp c.loop-i.left in let g = sorted.contains nat_cmp c.pop_last.new.self in let h = sorted.contains nat_cmp c.leave_joined.new.left in
    let t : Taken f g c.in-Some.i = taken f g c.in-Some.i e.member e.greatest e.updates.0 in
    let (k, at) = term_there c.args.terms.now c.in-Some.i (c.loop-i.invariant.below c.in-Some.i t.was) in
    fewer c.loop-i.left c.leave_joined.new.left c.pop_last.new.self.keys c.in-Some.i e.removal
    (next_less (joined_by (trees c.args.terms.now)) c.args.terms.now f g h x k t (c.in_ok-leave_joined.ensures k at))

pub loop-i-preserved : goal.loop-i-preserved
loop-i-preserved c =
    let e = c.in-Some.ensures in
    let x : TermId = record { 0 = c.in-Some.i } in
    let leads = joined_by (trees c.args.terms.now) in
    let f = sorted.contains nat_cmp c.loop-i.left in let g = sorted.contains nat_cmp c.pop_last.new.self in let h = sorted.contains nat_cmp c.leave_joined.new.left in
    let t : Taken f g c.in-Some.i = taken f g c.in-Some.i e.member e.greatest e.updates.0 in
    let (k, at) = term_there c.args.terms.now c.in-Some.i (c.loop-i.invariant.below c.in-Some.i t.was) in
    subst (λ (ids : List TermId). ReachedSoFar leads c.args.terms.now c.args.xs.now h ids) (sym c.in_ok-put.ensures)
    (reached_next leads c.args.terms.now c.args.xs.now c.loop-i.joined.items f g h x k at t (c.in_ok-leave_joined.ensures k at) c.loop-i.invariant)

pub returns : goal.returns
returns c = reached_end _ _ _ _ _ (no-keys c.loop-i.left (λ l. false≢true (c.in_default.ensures.variant.1 l))) c.loop-i.invariant
