use Rattle.std.proofs.Common.{◌++◌, ◌∷◌, [], ◌+◌, true, false, length, ap, sym, ◌∙◌, arith}
use Rattle.std.specs.Bool.{if◌then◌else◌}
use Rattle.std.proofs.lemmas.List.{length_push}
use Rattle.lh_term.specs.Arena.{tree_at, trees}
use Rattle.lh_term.proofs.Arenas.{ids_more}
use Rattle.lh_term.proofs.Walks.{start_at, popped, open_within, pop_seen, pop_joined, pop_one, pop_leaf, not_found, two_more, one_found, fewer, fewer_but_two, unset, marks, marks_none, marks_get, marks_set, set_again, marked_so, was_there, was_not}
use Rattle.lh_term.proofs.terms.Terms.walk.Goals as goal

pub loop-x-init : goal.loop-x-init
loop-x-init c = start_at _ _ _ _ _ (marks_none _ _ c.requires.none_seen) c.requires.none_found (c.in_ok-push.ensures.items ∙ ap (λ xs. xs ++ c.args.t ∷ []) c.requires.none_ahead)

pub loop-x-smaller-then-not-is_new : goal.loop-x-smaller-then-not-is_new
loop-x-smaller-then-not-is_new c =
    let w = popped _ _ _ _ _ _ _ c.in-Some.ensures.items c.loop-x.invariant in
    let m = marks_set c.loop-x.seen.keys _ (c.args.t.0 + 1) c.in-Some.x.0 c.in_ok-is_new.ensures.updates.0 in
    let e = marks_get c.loop-x.seen.keys _ c.in-Some.x.0 true (open_within _ _ _ _ _ _ w) (was_there _ _ c.in_ok-is_new.ensures.added c.if-not-is_new.true) in
    omega (arith, ap unset (m ∙ set_again _ _ e), ap length c.in-Some.ensures.items, length_push c.pop.new.self.items c.in-Some.x)

pub loop-x-preserved-then-not-is_new : goal.loop-x-preserved-then-not-is_new
loop-x-preserved-then-not-is_new c =
    let w = popped _ _ _ _ _ _ _ c.in-Some.ensures.items c.loop-x.invariant in
    let m = marks_set c.loop-x.seen.keys _ (c.args.t.0 + 1) c.in-Some.x.0 c.in_ok-is_new.ensures.updates.0 in
    let e = marks_get c.loop-x.seen.keys _ c.in-Some.x.0 true (open_within _ _ _ _ _ _ w) (was_there _ _ c.in_ok-is_new.ensures.added c.if-not-is_new.true) in
    marked_so _ _ _ _ _ _ (m ∙ set_again _ _ e) (pop_seen _ _ _ _ _ _ w e)

pub joined-requires : goal.joined-requires
joined-requires c =
    let w = popped _ _ _ _ _ _ _ c.in-Some.ensures.items c.loop-x.invariant in
    let h = open_within _ _ _ _ _ _ w in
    omega (arith, h, c.requires.is_in)

pub is_bit-requires : goal.is_bit-requires
is_bit-requires c =
    let w = popped _ _ _ _ _ _ _ c.in-Some.ensures.items c.loop-x.invariant in
    let h = open_within _ _ _ _ _ _ w in
    omega (arith, h, c.requires.is_in)

pub loop-x-smaller-in-Continue-branch-4 : goal.loop-x-smaller-in-Continue-branch-4
loop-x-smaller-in-Continue-branch-4 c =
    let w = popped _ _ _ _ _ _ _ c.in-Some.ensures.items c.loop-x.invariant in
    let m = marks_set c.loop-x.seen.keys _ (c.args.t.0 + 1) c.in-Some.x.0 c.in_ok-is_new.ensures.updates.0 in
    let e = marks_get c.loop-x.seen.keys _ c.in-Some.x.0 false (open_within _ _ _ _ _ _ w) (was_not _ _ c.in_ok-is_new.ensures.added c.if-not-is_new.false) in
    omega (arith, ap unset m, fewer_but_two (marks c.loop-x.seen.keys (c.args.t.0 + 1)) c.in-Some.x _ _ _ _ c.in-Some-joined.a c.in-Some-joined.b e c.in-Some.ensures.items c.in_ok-push-2.ensures.items c.in_ok-push-3.ensures.items)

pub loop-x-preserved-in-Continue-branch-4 : goal.loop-x-preserved-in-Continue-branch-4
loop-x-preserved-in-Continue-branch-4 c =
    let w = popped _ _ _ _ _ _ _ c.in-Some.ensures.items c.loop-x.invariant in
    let m = marks_set c.loop-x.seen.keys _ (c.args.t.0 + 1) c.in-Some.x.0 c.in_ok-is_new.ensures.updates.0 in
    let j = c.in-Some-joined.ensures in
    two_more _ _ _ _ _ _ _ c.in-Some-joined.a c.in-Some-joined.b c.in_ok-push-2.ensures.items c.in_ok-push-3.ensures.items (marked_so _ _ _ _ _ _ m (pop_joined _ _ _ _ _ _ w c.in-Some-joined.a c.in-Some-joined.b j.0 j.1 j.2))

pub loop-x-smaller-in-Continue-branch-5 : goal.loop-x-smaller-in-Continue-branch-5
loop-x-smaller-in-Continue-branch-5 c =
    let w = popped _ _ _ _ _ _ _ c.in-Some.ensures.items c.loop-x.invariant in
    let m = marks_set c.loop-x.seen.keys _ (c.args.t.0 + 1) c.in-Some.x.0 c.in_ok-is_new.ensures.updates.0 in
    let e = marks_get c.loop-x.seen.keys _ c.in-Some.x.0 false (open_within _ _ _ _ _ _ w) (was_not _ _ c.in_ok-is_new.ensures.added c.if-not-is_new.false) in
    omega (arith, ap unset m, fewer (marks c.loop-x.seen.keys (c.args.t.0 + 1)) c.in-Some.x _ _ e c.in-Some.ensures.items)

pub loop-x-preserved-in-Continue-branch-5 : goal.loop-x-preserved-in-Continue-branch-5
loop-x-preserved-in-Continue-branch-5 c =
    let w = popped _ _ _ _ _ _ _ c.in-Some.ensures.items c.loop-x.invariant in
    let m = marks_set c.loop-x.seen.keys _ (c.args.t.0 + 1) c.in-Some.x.0 c.in_ok-is_new.ensures.updates.0 in
    let e = marks_get c.loop-x.seen.keys _ c.in-Some.x.0 false (open_within _ _ _ _ _ _ w) (was_not _ _ c.in_ok-is_new.ensures.added c.if-not-is_new.false) in
    let j = c.in_default-joined.ensures ∙ ap (λ b. if b then [] else tree_at (trees c.args.self.now) c.in-Some.x ∷ []) (sym c.is_bit.ensures ∙ c.if-not-is_bit.true) in
    one_found _ _ _ _ _ _ _ c.in_ok-push-4.ensures.ok (marked_so _ _ _ _ _ _ m (pop_leaf _ _ _ _ _ _ w (not_found _ _ _ _ _ _ w c.are_apart.ensures c.requires.is_in e) j))

pub loop-x-smaller : goal.loop-x-smaller
loop-x-smaller c =
    let w = popped _ _ _ _ _ _ _ c.in-Some.ensures.items c.loop-x.invariant in
    let m = marks_set c.loop-x.seen.keys _ (c.args.t.0 + 1) c.in-Some.x.0 c.in_ok-is_new.ensures.updates.0 in
    let e = marks_get c.loop-x.seen.keys _ c.in-Some.x.0 false (open_within _ _ _ _ _ _ w) (was_not _ _ c.in_ok-is_new.ensures.added c.if-not-is_new.false) in
    omega (arith, ap unset m, fewer (marks c.loop-x.seen.keys (c.args.t.0 + 1)) c.in-Some.x _ _ e c.in-Some.ensures.items)

pub loop-x-preserved : goal.loop-x-preserved
loop-x-preserved c =
    let w = popped _ _ _ _ _ _ _ c.in-Some.ensures.items c.loop-x.invariant in
    let m = marks_set c.loop-x.seen.keys _ (c.args.t.0 + 1) c.in-Some.x.0 c.in_ok-is_new.ensures.updates.0 in
    let j = c.in_default-joined.ensures ∙ ap (λ b. if b then [] else tree_at (trees c.args.self.now) c.in-Some.x ∷ []) (sym c.is_bit.ensures ∙ c.if-not-is_bit.false) in
    marked_so _ _ _ _ _ _ m (pop_one _ _ _ _ _ _ w j)

pub returns-clause-within : goal.returns-clause-within
returns-clause-within c = ids_more (c.args.t.0 + 1) (length c.args.self.now) (omega (arith, c.requires.is_in)) c.loop-x.found c.loop-x.invariant.found_in
