use Rattle.std.proofs.Common.{◌<◌, ◌∙◌, ℕ, List, ap, sym, subst}
use Rattle.lh_term.specs.declared.term.TermId.{TermId}
use Rattle.lh_term.proofs.Swaps.{grows_on}
use Rattle.lh_region.specs.declared.taking.PlaceValue.{PlaceValue}
use Rattle.lh_region_places.specs.Asked.{edges_at, IsJoin, CanJoin, IsJoined}
use Rattle.lh_region.specs.Taken.{phi_asks, NamesEach, CanAskAll, ValuesAreTold, StillToldAll}
use Rattle.lh_region_places.proofs.PlaceLists.{same-length}
use Rattle.lh_region_places.proofs.ToldValues.{selected-same}
use Rattle.lh_region_joins.proofs.Conditions.{grows-none}
use Rattle.lh_region.proofs.PhiValues.{phi-asked, phi-joins, phi-merged, phi-still}
use Rattle.lh_region.proofs.taking.phi_at.Goals as goal

pub phi_asks-requires : goal.phi_asks-requires
phi_asks-requires c =
    let ps = c.args.places.now.items in
    let es = c.edges.ensures in
    subst (NamesEach c.args.operands.now) (sym es) c.requires.merge.names

pub ask_all-requires : goal.ask_all-requires
ask_all-requires c =
    let ps = c.args.places.now.items in
    let es = c.edges.ensures in
    let a = c.as_slice.ensures.value ∙ c.in_ok-asks.ensures ∙ ap (phi_asks c.args.operands.now) es in
    subst (CanAskAll c.args.terms.now ps) (sym a) (phi-asked c.args.terms.now ps c.args.at c.args.operands.now c.requires.is_in c.requires.merge)

pub merged_at-requires-clause-is_in : goal.merged_at-requires-clause-is_in
merged_at-requires-clause-is_in c = subst (λ (n : ℕ). c.args.at < n) (sym (same-length c.args.places.now.items c.ask_all.new.places.items c.in_ok-values.ensures.same)) c.requires.is_in

pub merged_at-requires-clause-join : goal.merged_at-requires-clause-join
merged_at-requires-clause-join c =
    let ns = c.args.terms.now in let ms = c.ask_all.new.terms in let ps = c.args.places.now.items in let qs = c.ask_all.new.places.items in
    let ts = c.in_ok-values.values in
    let es = c.edges.ensures in
    let a = c.as_slice.ensures.value ∙ c.in_ok-asks.ensures ∙ ap (phi_asks c.args.operands.now) es in
    let s = subst (λ (x : List PlaceValue). StillToldAll ns ps ms qs x) a c.in_ok-values.ensures.still in
    let m = subst (λ (x : List PlaceValue). ValuesAreTold ns ps ms x ts) a c.in_ok-values.ensures.terms in
    λ p e.
    subst (λ (us : List TermId). IsJoin ms p × CanJoin ms p us) (sym c.as_slice-2.ensures)
    (phi-joins ns ms ps qs c.args.at c.args.operands.now ts c.in_ok-values.ensures.same c.ask_all.ensures.kept s m c.requires.merge p e)

pub returns : goal.returns
returns c =
    let ns = c.args.terms.now in let ms = c.ask_all.new.terms in let ps = c.args.places.now.items in let qs = c.ask_all.new.places.items in
    let os = c.merged_at.new.terms in let rs = c.merged_at.new.places.items in
    let ts = c.in_ok-values.values in
    let es = c.edges.ensures in
    let a = c.as_slice.ensures.value ∙ c.in_ok-asks.ensures ∙ ap (phi_asks c.args.operands.now) es in
    let s = subst (λ (x : List PlaceValue). StillToldAll ns ps ms qs x) a c.in_ok-values.ensures.still in
    let m = subst (λ (x : List PlaceValue). ValuesAreTold ns ps ms x ts) a c.in_ok-values.ensures.terms in
    record {
      kept = grows_on ns ms os c.ask_all.ensures.kept c.merged_at.ensures.kept;
      same = selected-same os qs rs c.args.at c.in_ok-merged.ensures.place ∙ c.in_ok-values.ensures.same;
      still = phi-still ns ms ps qs c.args.at c.args.operands.now ts c.in_ok-values.ensures.same c.ask_all.ensures.kept s m os rs c.merged_at.ensures.kept c.in_ok-merged.ensures.place;
      made =
          phi-merged ns ms ps qs c.args.at c.args.operands.now ts c.in_ok-values.ensures.same c.ask_all.ensures.kept s m os c.in_ok-merged.merged
          (subst (λ (us : List TermId). IsJoined ms (edges_at qs c.args.at) us os c.in_ok-merged.merged) c.as_slice-2.ensures c.in_ok-merged.ensures.made);
    }

pub returns-in_err-asks-clause-kept : goal.returns-in_err-asks-clause-kept
returns-in_err-asks-clause-kept c = grows-none c.args.terms.now

pub returns-in_err-values-clause-kept : goal.returns-in_err-values-clause-kept
returns-in_err-values-clause-kept c = c.ask_all.ensures.kept

pub returns-in_err-merged-clause-kept : goal.returns-in_err-merged-clause-kept
returns-in_err-merged-clause-kept c = grows_on c.args.terms.now c.ask_all.new.terms c.merged_at.new.terms c.ask_all.ensures.kept c.merged_at.ensures.kept
