use Rattle.std.proofs.Common.{◌∙◌, List, ap, sym, subst}
use Rattle.lh_term.specs.Types.{TakesTypes, types_of}
use Rattle.lh_term.specs.Tree.{tree_row}
use Rattle.lh_term.specs.Make.{make_operation}
use Rattle.lh_term.specs.Arena.{AreIn, trees_at, StandsForTree}
use Rattle.lh_term.specs.declared.term.TermId.{TermId}
use Rattle.lh_term.proofs.Swaps.{grows_on}
use Rattle.lh_region.specs.declared.taking.PlaceValue.{PlaceValue}
use Rattle.lh_region.specs.Taken.{asks_at, CanAskAll, ValuesAreTold, StillToldAll}
use Rattle.lh_region_joins.proofs.Conditions.{grows-none}
use Rattle.lh_region.proofs.AskedValues.{operands-asked, operands-in, operands-fit, operated-is, operated-still}
use Rattle.lh_region.proofs.taking.operate.Goals as goal

pub ask_all-requires : goal.ask_all-requires
ask_all-requires c =
    let a = c.as_slice-2.ensures.value ∙ c.in_ok-asks.ensures ∙ ap (asks_at c.args.at) c.as_slice.ensures in
    subst (CanAskAll c.args.terms.now c.args.places.now.items) (sym a)
    (operands-asked c.args.terms.now c.args.places.now.items c.args.at c.args.op c.args.args.now c.requires.is_in c.requires.operation)

pub op-requires-clause-within : goal.op-requires-clause-within
op-requires-clause-within c =
    let ns = c.args.terms.now in let ms = c.ask_all.new.terms in let ps = c.args.places.now.items in
    let a = c.as_slice-2.ensures.value ∙ c.in_ok-asks.ensures ∙ ap (asks_at c.args.at) c.as_slice.ensures in
    let m = subst (λ (x : List PlaceValue). ValuesAreTold ns ps ms x c.in_ok-operands.operands) a c.in_ok-operands.ensures.terms in
    subst (AreIn ms) (sym c.as_slice-3.ensures) (operands-in ns ms ps c.args.at c.args.op c.args.args.now c.in_ok-operands.operands c.requires.operation m)

pub op-requires-clause-fits : goal.op-requires-clause-fits
op-requires-clause-fits c =
    let ns = c.args.terms.now in let ms = c.ask_all.new.terms in let ps = c.args.places.now.items in
    let a = c.as_slice-2.ensures.value ∙ c.in_ok-asks.ensures ∙ ap (asks_at c.args.at) c.as_slice.ensures in
    let m = subst (λ (x : List PlaceValue). ValuesAreTold ns ps ms x c.in_ok-operands.operands) a c.in_ok-operands.ensures.terms in
    subst (λ (ts : List TermId). TakesTypes c.args.op (types_of (tree_row (trees_at ms ts)))) (sym c.as_slice-3.ensures)
    (operands-fit ns ms ps c.args.at c.args.op c.args.args.now c.in_ok-operands.operands c.requires.operation m)

pub returns : goal.returns
returns c =
    let ns = c.args.terms.now in let ms = c.ask_all.new.terms in let ps = c.args.places.now.items in let os = c.op.new.self in
    let a = c.as_slice-2.ensures.value ∙ c.in_ok-asks.ensures ∙ ap (asks_at c.args.at) c.as_slice.ensures in
    let m = subst (λ (x : List PlaceValue). ValuesAreTold ns ps ms x c.in_ok-operands.operands) a c.in_ok-operands.ensures.terms in
    let s = subst (λ (x : List PlaceValue). StillToldAll ns ps ms c.ask_all.new.places.items x) a c.in_ok-operands.ensures.still in
    record {
      kept = grows_on ns ms os c.ask_all.ensures.kept c.op.ensures.kept;
      same = c.in_ok-operands.ensures.same;
      still = operated-still ns ms ps c.args.at c.args.op c.args.args.now c.in_ok-operands.operands c.requires.operation m os c.ask_all.new.places.items c.op.ensures.kept s;
      made =
          operated-is ns ms ps c.args.at c.args.op c.args.args.now c.in_ok-operands.operands c.requires.operation m os c.in_ok-made.made
          (subst (λ (ts : List TermId). StandsForTree os c.in_ok-made.made (make_operation c.args.op (trees_at ms ts))) c.as_slice-3.ensures c.in_ok-made.ensures.made);
    }

pub returns-in_err-asks-clause-kept : goal.returns-in_err-asks-clause-kept
returns-in_err-asks-clause-kept c = grows-none c.args.terms.now

pub returns-in_err-operands-clause-kept : goal.returns-in_err-operands-clause-kept
returns-in_err-operands-clause-kept c = c.ask_all.ensures.kept

pub returns-in_err-made-clause-kept : goal.returns-in_err-made-clause-kept
returns-in_err-made-clause-kept c = grows_on c.args.terms.now c.ask_all.new.terms c.op.new.self c.ask_all.ensures.kept c.op.ensures.kept
