use Rattle.std.proofs.Common.{◌+◌, List, take, refl, subst}
use Rattle.std.proofs.lemmas.List.{take_more, take_all}
use Rattle.lh_term.specs.declared.term.TermId.{TermId}
use Rattle.lh_region.specs.Effects.{IsWithAsserts}
use Rattle.lh_region.proofs.RowLists.{asserts-none, asserts-next}
use Rattle.lh_region.proofs.effects.add_asserts.Goals as goal

abbrev no_term : TermId
no_term = record { 0 = 0 }

pub loop-cond-init : goal.loop-cond-init
loop-cond-init c = asserts-none c.args.rows.now

pub loop-cond-preserved : goal.loop-cond-preserved
loop-cond-preserved c =
    let i = c.loop-cond.cond-index in let ts = c.args.conds.now in
    asserts-next c.args.rows.now c.loop-cond.rows _ (take i ts) (take (i + 1) ts) _ (take_more ts i no_term c.loop-cond-test.true) refl refl refl c.in_ok-push.ensures.ok c.loop-cond.invariant

pub returns : goal.returns
returns c = subst (λ (ts : List TermId). IsWithAsserts c.args.rows.now ts c.loop-cond.rows) (take_all c.loop-cond.cond-index c.args.conds.now c.loop-cond-test.false) c.loop-cond.invariant
