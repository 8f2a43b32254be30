use Rattle.std.proofs.Common.{◌≡◌, List, ◌++◌, ◌∷◌, [], length, ap, ◌∙◌, arith}
use Rattle.lh_term.specs.Arena.{tree_at, trees, Grows}
use Rattle.lh_term.proofs.Swaps.{grows_on, stands_grown}
use Rattle.lh_edge.proofs.Gathered.{gate_start, gate_first, gate_next, gate_last}
use Rattle.lh_term.specs.declared.term.TermNode.{TermNode}
use Rattle.lh_edge.proofs.triggers.swap_at.Goals as goal

-- the terms of four calls in turn
all_kept : (a b c d e : List TermNode) → Grows a b → Grows b c → Grows c d → Grows d e → Grows a e
all_kept a b c d e f g h i = grows_on a b e f (grows_on b c e g (grows_on c d e h i))

-- the terms that grew at each failure
pub returns-in_err-after-clause-kept : goal.returns-in_err-after-clause-kept
returns-in_err-after-clause-kept c = grows_on c.args.terms.now c.konst_bit.new.terms c.konst_bit-2.new.terms c.in_ok-before.ensures.kept c.in_err-after.ensures.kept

pub returns-in_err-past-clause-kept : goal.returns-in_err-past-clause-kept
returns-in_err-past-clause-kept c =
    grows_on c.args.terms.now c.konst_bit.new.terms c.past.new.self c.in_ok-before.ensures.kept
    (grows_on c.konst_bit.new.terms c.konst_bit-2.new.terms c.past.new.self c.in_ok-after.ensures.kept c.in_err-past.ensures.kept)

pub returns-in_err-now-clause-kept : goal.returns-in_err-now-clause-kept
returns-in_err-now-clause-kept c =
    all_kept c.args.terms.now c.konst_bit.new.terms c.konst_bit-2.new.terms c.past.new.self c.now.new.self c.in_ok-before.ensures.kept c.in_ok-after.ensures.kept c.in_ok-past.ensures.kept c.in_err-now.ensures.kept

pub returns-in_err-push-clause-kept : goal.returns-in_err-push-clause-kept
returns-in_err-push-clause-kept c =
    all_kept c.args.terms.now c.konst_bit.new.terms c.konst_bit-2.new.terms c.past.new.self c.now.new.self c.in_ok-before.ensures.kept c.in_ok-after.ensures.kept c.in_ok-past.ensures.kept c.in_ok-now.ensures.kept

pub returns-in_err-push-2-clause-kept : goal.returns-in_err-push-2-clause-kept
returns-in_err-push-2-clause-kept c =
    all_kept c.args.terms.now c.konst_bit.new.terms c.konst_bit-2.new.terms c.past.new.self c.now.new.self c.in_ok-before.ensures.kept c.in_ok-after.ensures.kept c.in_ok-past.ensures.kept c.in_ok-now.ensures.kept

pub returns-in_err-add_pair-clause-kept : goal.returns-in_err-add_pair-clause-kept
returns-in_err-add_pair-clause-kept c = c.loop-left.invariant.grows

pub returns-clause-kept : goal.returns-clause-kept
returns-clause-kept c = c.loop-left.invariant.grows

pub add_pair-requires-clause-pairs_in : goal.add_pair-requires-clause-pairs_in
add_pair-requires-clause-pairs_in c = c.loop-left.invariant.swap_in

pub add_pair-requires-clause-is_in : goal.add_pair-requires-clause-is_in
add_pair-requires-clause-is_in c =
    gate_first c.args.terms.now c.now.new.self c.args.rise c.args.part.now c.args.presents.now c.loop-left.left.now c.loop-left.swap (record { 0 = 0 }, record { 0 = 0 })
    c.loop-left.invariant c.in-len1-up.len_at_least

pub loop-left-init : goal.loop-left-init
loop-left-init c =
    let a = c.args.terms.now in
    let t1 = c.konst_bit.new.terms in
    let t2 = c.konst_bit-2.new.terms in
    let t3 = c.past.new.self in
    let t4 = c.now.new.self in
    let g1 : Grows a t1 = c.in_ok-before.ensures.kept in
    let g2 : Grows t1 t2 = c.in_ok-after.ensures.kept in
    let g3 : Grows t2 t3 = c.in_ok-past.ensures.kept in
    let g4 : Grows t3 t4 = c.in_ok-now.ensures.kept in
    let g24 : Grows t2 t4 = grows_on t2 t3 t4 g3 g4 in
    let g14 : Grows t1 t4 = grows_on t1 t2 t4 g2 g24 in
    gate_start a t4 c.args.rise c.args.part.now (tree_at (trees a) c.args.cond) c.args.presents.now c.in_ok-past.past c.in_ok-now.now c.in_ok-before.before c.in_ok-after.after c.push-2.new.self
    c.requires.bit (grows_on a t1 t4 g1 g14) c.requires.presents
    (stands_grown t3 t4 g4 _ _ c.in_ok-past.ensures.made) c.in_ok-now.ensures.made (stands_grown t1 t4 g14 _ _ c.in_ok-before.ensures.made) (stands_grown t2 t4 g24 _ _ c.in_ok-after.ensures.made)
    (c.in_ok-push-2.ensures.ok ∙ ap (λ r. r ++ (c.in_ok-now.now, c.in_ok-after.after) ∷ []) (c.in_ok-push.ensures.ok
    ∙ ap (λ r. r ++ (c.in_ok-past.past, c.in_ok-before.before) ∷ []) c.new-swap.ensures))

pub loop-left-preserved : goal.loop-left-preserved
loop-left-preserved c =
    gate_next c.args.terms.now c.now.new.self c.args.rise c.args.part.now c.args.presents.now c.loop-left.left.now c.loop-left.swap c.add_pair.new.swap (record { 0 = 0 }, record { 0 = 0 })
    c.loop-left.invariant c.in-len1-up.len_at_least c.in_ok-add_pair.ensures

pub returns-clause-made : goal.returns-clause-made
returns-clause-made c =
    let n : length c.loop-left.left.now ≡ 0 = omega (arith, c.in_default.len_below) in
    gate_last c.args.terms.now c.now.new.self c.args.rise c.args.part.now (tree_at (trees c.args.terms.now) c.args.cond) c.args.presents.now c.loop-left.left.now c.loop-left.swap c.requires.presents n
    c.loop-left.invariant
