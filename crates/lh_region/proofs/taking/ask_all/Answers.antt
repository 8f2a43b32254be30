use Rattle.std.proofs.Common.{◌+◌, List, [], take, sym, subst}
use Rattle.lh_term.specs.declared.term.TermId.{TermId}
use Rattle.std.proofs.lemmas.List.{take_more, take_all}
use Rattle.lh_region.specs.declared.taking.PlaceValue.{PlaceValue}
use Rattle.lh_term.proofs.Swaps.{grows_on}
use Rattle.lh_region.proofs.AskedValues.{AskSoFar, ask-none, ask-in, ask-told, ask-next, ask-end}
use Rattle.lh_region.proofs.taking.ask_all.Goals as goal

abbrev no_ask : PlaceValue
no_ask = record { place = 0; value = 0 }

pub loop-ask-init : goal.loop-ask-init
loop-ask-init c = subst (λ (ts : List TermId). AskSoFar c.args.terms.now c.args.places.now.items c.args.terms.now c.args.places.now.items c.args.asks.now [] ts) (sym c.new-values.ensures)
    (ask-none c.args.terms.now c.args.places.now.items c.args.asks.now)

pub value_at-requires-clause-is_in : goal.value_at-requires-clause-is_in
value_at-requires-clause-is_in c = let i = c.loop-ask.ask-index in ask-in _ _ _ _ c.args.asks.now (take i c.args.asks.now) _ i no_ask c.loop-ask-test.true c.loop-ask.invariant c.requires

pub value_at-requires-clause-told : goal.value_at-requires-clause-told
value_at-requires-clause-told c = let i = c.loop-ask.ask-index in ask-told _ _ _ _ c.args.asks.now (take i c.args.asks.now) _ i no_ask c.loop-ask-test.true c.loop-ask.invariant c.requires

pub loop-ask-preserved : goal.loop-ask-preserved
loop-ask-preserved c =
    let i = c.loop-ask.ask-index in
    ask-next _ _ _ _ c.args.asks.now (take i c.args.asks.now) _ i no_ask c.loop-ask-test.true c.loop-ask.invariant _ _ (take (i + 1) c.args.asks.now) _ c.in_ok-value.value
    (take_more c.args.asks.now i no_ask c.loop-ask-test.true) c.in_ok-push.ensures.ok
    c.value_at.ensures.kept c.in_ok-value.ensures.same c.in_ok-value.ensures.still c.in_ok-value.ensures.term

pub returns : goal.returns
returns c = record {
  kept = c.loop-ask.invariant.grows;
  same = c.loop-ask.invariant.same;
  still = c.loop-ask.invariant.still;
  terms = ask-end _ _ _ _ c.args.asks.now (take c.loop-ask.ask-index c.args.asks.now) _ (take_all c.loop-ask.ask-index c.args.asks.now c.loop-ask-test.false) c.loop-ask.invariant;
}

pub returns-in_err-value-clause-kept : goal.returns-in_err-value-clause-kept
returns-in_err-value-clause-kept c = grows_on c.args.terms.now c.loop-ask.terms c.value_at.new.terms c.loop-ask.invariant.grows c.value_at.ensures.kept

pub returns-in_err-push-clause-kept : goal.returns-in_err-push-clause-kept
returns-in_err-push-clause-kept c = grows_on c.args.terms.now c.loop-ask.terms c.value_at.new.terms c.loop-ask.invariant.grows c.value_at.ensures.kept
